use Rattle.std.proofs.Common.{◌≡◌, ◌+◌, refl, ◌∙◌, ap, map, arith}
use Rattle.eqn_core.specs.Equations.{Equations, word_lines}
use Rattle.eqn_core.specs.Views.{line_of}
use Rattle.line_format.specs.FileNames.{FileNames, HasNames, names_of}
use Rattle.c_step.specs.Views.{step_from}
use Rattle.c_emit.specs.COf.{c_of}
use Rattle.c_emit.proofs.Emitting.{has_names, emitted, IsEmitted, is_emitted}
use Rattle.c_emit.proofs.emit.c_of.Goals as goal

pub invariant_of-result : goal.invariant_of-result
invariant_of-result c =
    let named = c.in_ok-names.ensures {u = tt} in
    let copied = c.in_ok-init.ensures {u = tt} in
    let E : Equations = c.args.ordered.now in
    let n : FileNames = names_of c.args.names.now in
    let has : HasNames E n = has_names E c.args.names.now.inputs c.args.names.now.outputs named.inputs named.outputs c.args.names.now.distinct c.requires.inputs c.requires.outputs in
    let count = c.count_words-word_lines.ensures.count ∙ ap (λ ls. word_lines (map line_of ls)) c.deref-2.ensures.value in
    let same : step_from c.in_ok-names.names (c.len-2.result + c.count_words-word_lines.result) c.max.result c.in_ok-init.init.items c.in_ok-stats.stats.items ≡ c_of E n =
    emitted c.system-system.result.now E n c.in_ok-names.names c.in_ok-init.init.items c.in_ok-stats.stats.items c.len-2.result c.count_words-word_lines.result _ c.max.result c.system-system.ensures.system named.names (copied.items ∙ c.deref.ensures.value)
    (omega (arith, c.in_ok-init.init.ok.0)) count refl (omega (arith, c.system-system.result.now.lines.ok.0)) (c.in_ok-stats.ensures {u = tt}) in
    let all : IsEmitted E n (step_from c.in_ok-names.names (c.len-2.result + c.count_words-word_lines.result) c.max.result c.in_ok-init.init.items c.in_ok-stats.stats.items) = is_emitted E n _ c.system-system.ensures.ordered has same in
    record { kept = all.kept }

pub returns-clause-step : goal.returns-clause-step
returns-clause-step c =
    let named = c.in_ok-names.ensures {u = tt} in
    let copied = c.in_ok-init.ensures {u = tt} in
    let E : Equations = c.args.ordered.now in
    let n : FileNames = names_of c.args.names.now in
    let has : HasNames E n = has_names E c.args.names.now.inputs c.args.names.now.outputs named.inputs named.outputs c.args.names.now.distinct c.requires.inputs c.requires.outputs in
    let count = c.count_words-word_lines.ensures.count ∙ ap (λ ls. word_lines (map line_of ls)) c.deref-2.ensures.value in
    let same : step_from c.in_ok-names.names (c.len-2.result + c.count_words-word_lines.result) c.max.result c.in_ok-init.init.items c.in_ok-stats.stats.items ≡ c_of E n =
    emitted c.system-system.result.now E n c.in_ok-names.names c.in_ok-init.init.items c.in_ok-stats.stats.items c.len-2.result c.count_words-word_lines.result _ c.max.result c.system-system.ensures.system named.names (copied.items ∙ c.deref.ensures.value)
    (omega (arith, c.in_ok-init.init.ok.0)) count refl (omega (arith, c.system-system.result.now.lines.ok.0)) (c.in_ok-stats.ensures {u = tt}) in
    let all : IsEmitted E n (step_from c.in_ok-names.names (c.len-2.result + c.count_words-word_lines.result) c.max.result c.in_ok-init.init.items c.in_ok-stats.stats.items) = is_emitted E n _ c.system-system.ensures.ordered has same in
    all.same

pub returns-clause-runs : goal.returns-clause-runs
returns-clause-runs c =
    let named = c.in_ok-names.ensures {u = tt} in
    let copied = c.in_ok-init.ensures {u = tt} in
    let E : Equations = c.args.ordered.now in
    let n : FileNames = names_of c.args.names.now in
    let has : HasNames E n = has_names E c.args.names.now.inputs c.args.names.now.outputs named.inputs named.outputs c.args.names.now.distinct c.requires.inputs c.requires.outputs in
    let count = c.count_words-word_lines.ensures.count ∙ ap (λ ls. word_lines (map line_of ls)) c.deref-2.ensures.value in
    let same : step_from c.in_ok-names.names (c.len-2.result + c.count_words-word_lines.result) c.max.result c.in_ok-init.init.items c.in_ok-stats.stats.items ≡ c_of E n =
    emitted c.system-system.result.now E n c.in_ok-names.names c.in_ok-init.init.items c.in_ok-stats.stats.items c.len-2.result c.count_words-word_lines.result _ c.max.result c.system-system.ensures.system named.names (copied.items ∙ c.deref.ensures.value)
    (omega (arith, c.in_ok-init.init.ok.0)) count refl (omega (arith, c.system-system.result.now.lines.ok.0)) (c.in_ok-stats.ensures {u = tt}) in
    let all : IsEmitted E n (step_from c.in_ok-names.names (c.len-2.result + c.count_words-word_lines.result) c.max.result c.in_ok-init.init.items c.in_ok-stats.stats.items) = is_emitted E n _ c.system-system.ensures.ordered has same in
    all.runs

pub returns-clause-counted : goal.returns-clause-counted
returns-clause-counted c =
    let named = c.in_ok-names.ensures {u = tt} in
    let copied = c.in_ok-init.ensures {u = tt} in
    let E : Equations = c.args.ordered.now in
    let n : FileNames = names_of c.args.names.now in
    let has : HasNames E n = has_names E c.args.names.now.inputs c.args.names.now.outputs named.inputs named.outputs c.args.names.now.distinct c.requires.inputs c.requires.outputs in
    let count = c.count_words-word_lines.ensures.count ∙ ap (λ ls. word_lines (map line_of ls)) c.deref-2.ensures.value in
    let same : step_from c.in_ok-names.names (c.len-2.result + c.count_words-word_lines.result) c.max.result c.in_ok-init.init.items c.in_ok-stats.stats.items ≡ c_of E n =
    emitted c.system-system.result.now E n c.in_ok-names.names c.in_ok-init.init.items c.in_ok-stats.stats.items c.len-2.result c.count_words-word_lines.result _ c.max.result c.system-system.ensures.system named.names (copied.items ∙ c.deref.ensures.value)
    (omega (arith, c.in_ok-init.init.ok.0)) count refl (omega (arith, c.system-system.result.now.lines.ok.0)) (c.in_ok-stats.ensures {u = tt}) in
    let all : IsEmitted E n (step_from c.in_ok-names.names (c.len-2.result + c.count_words-word_lines.result) c.max.result c.in_ok-init.init.items c.in_ok-stats.stats.items) = is_emitted E n _ c.system-system.ensures.ordered has same in
    all.counted
