use Rattle.std.proofs.Common.{sym, ◌∙◌, arith}
use Rattle.std.proofs.lemmas.List.{length-map}
use Rattle.argos_core.specs.Views.{shapes_of}
use Rattle.eqn_core.specs.Views.{line_of, equations_from}
use Rattle.instant_verdict.proofs.VerdictSteps.{no-items}
use Rattle.cycle_solve.proofs.SolvedFacts.{acyclic-solved}
use Rattle.cycle_solve.proofs.solving.solve.Goals as goal

pub returns-then-is_empty-clause-solved : goal.returns-then-is_empty-clause-solved
returns-then-is_empty-clause-solved c =
    let none = no-items c.args.plan.now.cyclic.items c.args.plan.now.cyclic.len c.args.plan.now.cyclic.ok.0
    (sym c.is_empty.ensures ∙ c.if-is_empty.true) in
    let made = c.in_ok-sort.ensures in
    acyclic-solved (equations_from c.args.system) c.in_ok-sort.field-0
    (shapes_of c.args.layout.now) c.args.plan.now.cyclic.items none made.inputs made.initial made.outputs
    made.reactions
    (omega (arith, made.lines, length-map c.args.system.lines.items line_of)) made.weight
