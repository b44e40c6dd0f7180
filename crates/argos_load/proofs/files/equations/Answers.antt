use Rattle.std.proofs.Common.{ap, subst, sym, ◌∙◌}
use Rattle.eqn_file.specs.Errors.{kind_of, TellsFault}
use Rattle.line_format.specs.FileNames.{names_of}
use Rattle.argos_load.specs.Programs.{equation_file, RunnableAs, a_system, bad_line}
use Rattle.argos_report.specs.Texts.{refused_file}
use Rattle.argos_load.specs.Said.{Refused, said}
use Rattle.argos_load.specs.Stages.{says}
use Rattle.argos_load.proofs.files.equations.Goals as goal

pub returns-in-Ok-clause-runnable : goal.returns-in-Ok-clause-runnable
returns-in-Ok-clause-runnable c = a_system c.in-Ok.ordered (names_of c.in-Ok.names) (c.in-Ok.ensures {u = tt}).text

pub returns-in_ok-refusal-in-Err-Line-clause-runnable : goal.returns-in_ok-refusal-in-Err-Line-clause-runnable
returns-in_ok-refusal-in-Err-Line-clause-runnable c =
    let k = c.args.number in
    let text = c.args.text.now in
    let fault = subst (TellsFault text) c.in-Err-Line.field-0-is (c.in-Err-Line.ensures {u = tt}).fault in
    let is = (c.in_ok-refusal-in-Err-Line.ensures {u = tt}) ∙ ap (refused_file k) (c.deref.ensures.value ∙ (c.in_ok-equation_cause-in-Err-Line.ensures {u = tt})) in
    subst (λ t. RunnableAs k text equation_file (says (said Refused t))) (sym is) (bad_line c.in-Err-Line.at (kind_of c.in-Err-Line.kind) fault)
