use Rattle.std.proofs.Common.{Err, length, sym, ap, ◌∙◌, arith}
use Rattle.std.proofs.lemmas.List.{length-map}
use Rattle.argos_core.specs.ModuleViews.{module_of}
use Rattle.argos_core.specs.Views.{shapes_of, register_shape_of}
use Rattle.argos_verdict.proofs.JudgingSteps.{layout-sized, stopped, outputs-few}
use Rattle.eqn_core.specs.Views.{equations_from}
use Rattle.argos_compile.proofs.Accepting.{some_register}
use Rattle.argos_compile.proofs.Solved.{accepted, few-registers, few-cyclic}
use Rattle.argos_compile.proofs.acceptance.solved.Goals as goal

pub solve-requires-clause-sized : goal.solve-requires-clause-sized
solve-requires-clause-sized c =
    let s = c.args.sound in
    sym (length-map s.layout.regs.items register_shape_of)
    ∙ layout-sized (module_of c.args.program.now) (shapes_of s.layout) (length s.system.init.items) c.args.program.now.kept.shaped c.requires.sound.layout c.requires.sound.registers

pub solve-requires-clause-register : goal.solve-requires-clause-register
solve-requires-clause-register c =
    let some = some_register (module_of c.args.program.now).process c.args.program.now.kept.shaped in
    omega (arith, some, c.requires.sound.registers)

pub line_bound-lines-requires-clause-registers : goal.line_bound-lines-requires-clause-registers
line_bound-lines-requires-clause-registers c = few-registers (module_of c.args.program.now) c.args.sound c.args.program.now.kept c.requires.sound

pub line_bound-lines-requires-clause-few : goal.line_bound-lines-requires-clause-few
line_bound-lines-requires-clause-few c =
    omega (arith, c.len.ensures, c.args.sound.plan.cyclic.ok.0, few-cyclic (module_of c.args.program.now) c.args.sound c.args.program.now.kept c.requires.sound)

pub returns-in-Ok-clause-answer : goal.returns-in-Ok-clause-answer
returns-in-Ok-clause-answer c =
    let counted = c.args.sound.plan.cyclic.ok.0 in
    let bound = c.line_bound-lines.ensures in
    accepted (module_of c.args.program.now) c.args.sound c.args.program.now.kept c.requires.sound c.in-Ok.ordered c.in-Ok.nodes c.in-Ok.ensures.solved
    c.line_bound-lines.result c.in-Ok.ensures.no_lines c.in-Ok.ensures.no_weight
    (λ none. bound.acyclic (omega (arith, c.len.ensures, counted, none)))
    (λ some. omega (arith, bound.cyclic (omega (arith, c.len.ensures, counted, some)), c.len.ensures, counted))

pub returns-in-Err-Budget-clause-answer : goal.returns-in-Err-Budget-clause-answer
returns-in-Err-Budget-clause-answer c =
    let P = module_of c.args.program.now in
    let s = c.args.sound in
    let sound = c.requires.sound in
    let arena = c.in-Err-Budget.arena in
    stopped P (equations_from s.system) (shapes_of s.layout) c.args.program.now.kept sound.acceptable.clear sound.inputs sound.reacts sound.layout s.plan.cyclic.items c.args.budget arena
    sound.cyclic (λ none. c.in-Err-Budget.ensures.no_diagrams none arena (ap Err c.in-Err-Budget.field-0-is)) sound.weight (outputs-few P s.system.outs.items sound.outputs) (c.in-Err-Budget.ensures.budget arena (ap Err c.in-Err-Budget.field-0-is))
