use Rattle.std.proofs.Common.{Err, ap, ◌∙◌}
use Rattle.argos_compile.specs.AspectViews.{aspect_view}
use Rattle.argos_compile.specs.WovenViews.{woven_view}
use Rattle.argos_core.specs.ModuleViews.{module_of}
use Rattle.argos_load.proofs.AspectStages.{few_registers, gives_woven, one_more_aspect, says_lines}
use Rattle.argos_report.specs.Texts.{refused_file}
use Rattle.argos_load.proofs.aspects.weave_in.Goals as goal

pub weave-requires-clause-registers : goal.weave-requires-clause-registers
weave-requires-clause-registers c = few_registers c.args.woven.«module» c.args.woven.aspects.items c.args.aspect c.requires.few

pub returns-in-Ok-clause-woven : goal.returns-in-Ok-clause-woven
returns-in-Ok-clause-woven c =
    let woven = c.in-Ok.woven in
    let told = c.in-Ok.ensures {u = tt} in
    gives_woven c.args.number (woven_view c.args.woven) (woven_view woven) (aspect_view c.args.aspect) woven.ordered woven.most told.woven woven.judged told.few

pub returns-in-Ok-clause-more : goal.returns-in-Ok-clause-more
returns-in-Ok-clause-more c =
    let woven = c.in-Ok.woven in
    one_more_aspect (module_of c.args.woven.«module») (module_of woven.«module») c.args.woven.aspects.items woven.aspects.items (aspect_view c.args.aspect) (c.in-Ok.ensures {u = tt}).woven

pub returns-in_ok-refusal-in-Err-Limit-clause-woven : goal.returns-in_ok-refusal-in-Err-Limit-clause-woven
returns-in_ok-refusal-in-Err-Limit-clause-woven c =
    let k = c.args.number in
    let woven = c.args.woven in
    let observer = c.args.aspect.observer in
    let need = c.in-Err-Limit.need in
    let limit = c.weave.ensures.limit need (c.in-Err-Limit.is ∙ ap Err c.in-Err-Limit.field-0-is) in
    let is = c.in_ok-refusal-in-Err-Limit.ensures {u = tt} ∙ ap (refused_file k) (c.deref.ensures.value ∙ c.in_ok-lines_cause-in-Err-Limit.ensures {u = tt}) in
    says_lines k (woven_view woven) (aspect_view c.args.aspect) woven.ordered observer.ordered woven.most observer.lines need c.in_ok-refusal-in-Err-Limit.field-0.items woven.judged observer.judged limit.0 limit.1 is
