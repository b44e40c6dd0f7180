use Rattle.std.proofs.Common.{Err, Ok, subst, sym, ◌∙◌}
use Rattle.argos_load.specs.Programs.{program_file, RunnableAs, a_program}
use Rattle.argos_load.specs.Runnables.{program}
use Rattle.argos_load.specs.Stages.{gives}
use Rattle.argos_load.specs.Giving.{program_of}
use Rattle.argos_load.specs.declared.files.Loaded.TheVariants as loaded
use Rattle.argos_load.proofs.Loads.{as_equations, as_c, as_program, no_runnable, plain_view}
use Rattle.argos_load.proofs.files.runnable.Goals as goal

pub returns-then-starts_with-clause-runnable : goal.returns-then-starts_with-clause-runnable
returns-then-starts_with-clause-runnable c = as_equations c.args.number c.args.nodes c.args.text.now c.equations.result (sym c.starts_with.ensures.value ∙ c.if-starts_with.true) c.equations.ensures.runnable

pub returns-then-starts_with-2-clause-runnable : goal.returns-then-starts_with-2-clause-runnable
returns-then-starts_with-2-clause-runnable c =
    as_c c.args.number c.args.nodes c.args.text.now c.c_step.result (sym c.starts_with.ensures.value ∙ c.if-starts_with.false) (sym c.starts_with-else-starts_with.ensures.value ∙ c.if-starts_with-2.true) c.c_step.ensures.runnable

pub returns-in-Ok-clause-runnable : goal.returns-in-Ok-clause-runnable
returns-in-Ok-clause-runnable c =
    let k = c.args.number in
    let text = c.args.text.now in
    let a = c.in-Ok.accepted in
    let w = c.plain.result in
    let there = a_program (program_of a) (c.in-Ok.ensures {u = tt}).program in
    as_program k c.args.nodes text (Ok (loaded.Program w)) (sym c.starts_with.ensures.value ∙ c.if-starts_with.false) (sym c.starts_with-else-starts_with.ensures.value ∙ c.if-starts_with-2.false)
    (subst (λ x. RunnableAs k text program_file (gives (program x))) (sym (plain_view w a.«module» c.plain.ensures.base c.plain.ensures.aspects)) there)

pub returns-in-Err-clause-runnable : goal.returns-in-Err-clause-runnable
returns-in-Err-clause-runnable c =
    as_program c.args.number c.args.nodes c.args.text.now (Err c.in-Err.stop) (sym c.starts_with.ensures.value ∙ c.if-starts_with.false) (sym c.starts_with-else-starts_with.ensures.value ∙ c.if-starts_with-2.false)
    (no_runnable c.args.number c.args.nodes c.args.text.now c.in-Err.stop (c.in-Err.ensures {u = tt}).program)
