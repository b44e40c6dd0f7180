use Rattle.std.proofs.Common.{◌≡◌, ℕ, ◌+◌, ◌*◌, ap, arith}
use Rattle.argos_core.specs.Views.{shapes_of}
use Rattle.bisim_check.proofs.SearchSteps.{denotes_by, drawn_as, drawn_later, drawn_together}
use Rattle.bisim_formula.specs.Formulas.{formula_size}
use Rattle.bisim_formula.specs.Views.{formula_of}
use Rattle.dd_core.specs.Arenas.{ArenaView, AddsAtMost}
use Rattle.eqn_core.specs.Equations.{Equations, registers, weight_of}
use Rattle.eqn_dd.proofs.Denotations.{adds_in_turn, adds_fewer, adds_one}
use Rattle.bisim_check.proofs.searching.draw.Goals as goal

-- the diagrams of one program
abbrev of_program : ℕ → Equations → ℕ
of_program v E = 64 * weight_of E + v + (128 * registers E + v)

-- those of both
both_drawn : {a b c : ArenaView} {D E F G : Equations} → D ≡ E → F ≡ G → AddsAtMost (of_program a.variables D) a b → AddsAtMost (of_program b.variables F) b c
    → AddsAtMost (of_program a.variables E + of_program a.variables G) a c
both_drawn {a} {b} {c} {D} {E} {F} {G} d f first second =
    let i = ap (of_program a.variables) d in
    let j = ap (of_program a.variables) f in
    adds_in_turn (of_program a.variables E) (of_program a.variables G) (of_program a.variables E + of_program a.variables G) (omega arith)
    (adds_fewer _ _ (omega (arith, i)) first) (adds_fewer _ _ (omega (arith, j, first.keeps.variables)) second)

pub returns-in_err-second-clause-adds : goal.returns-in_err-second-clause-adds
returns-in_err-second-clause-adds c = adds_fewer _ _ (omega arith) (both_drawn c.ordered.ensures c.ordered-2.ensures c.program_diagrams.ensures.adds c.program_diagrams-2.ensures.adds)

pub returns-in_err-related-clause-adds : goal.returns-in_err-related-clause-adds
returns-in_err-related-clause-adds c =
    let n = 50 * formula_size (formula_of c.args.cert.now) in
    adds_in_turn _ n _ (omega arith) (both_drawn c.ordered.ensures c.ordered-2.ensures c.program_diagrams.ensures.adds c.program_diagrams-2.ensures.adds) c.formula_node.ensures.adds

pub returns-in_err-structural-clause-adds : goal.returns-in_err-structural-clause-adds
returns-in_err-structural-clause-adds c =
    let n = 50 * formula_size (formula_of c.args.cert.now) in
    adds_in_turn _ (n + 1) _ (omega arith) (both_drawn c.ordered.ensures c.ordered-2.ensures c.program_diagrams.ensures.adds c.program_diagrams-2.ensures.adds)
    (adds_in_turn n 1 (n + 1) (omega arith) c.formula_node.ensures.adds (adds_one c.and.ensures.made))

pub returns-in_err-pairs-clause-adds : goal.returns-in_err-pairs-clause-adds
returns-in_err-pairs-clause-adds c =
    let n = 50 * formula_size (formula_of c.args.cert.now) in
    adds_in_turn _ (n + 2) _ (omega arith) (both_drawn c.ordered.ensures c.ordered-2.ensures c.program_diagrams.ensures.adds c.program_diagrams-2.ensures.adds)
    (adds_in_turn (n + 1) 1 (n + 2) (omega arith) (adds_in_turn n 1 (n + 1) (omega arith) c.formula_node.ensures.adds (adds_one c.and.ensures.made)) (adds_one c.and-2.ensures.made))

pub returns-clause-adds : goal.returns-clause-adds
returns-clause-adds c =
    let n = 50 * formula_size (formula_of c.args.cert.now) in
    adds_in_turn _ (n + 2) _ (omega arith) (both_drawn c.ordered.ensures c.ordered-2.ensures c.program_diagrams.ensures.adds c.program_diagrams-2.ensures.adds)
    (adds_in_turn (n + 1) 1 (n + 2) (omega arith) (adds_in_turn n 1 (n + 1) (omega arith) c.formula_node.ensures.adds (adds_one c.and.ensures.made)) (adds_one c.and-2.ensures.made))

pub returns-clause-drawn : goal.returns-clause-drawn
returns-clause-drawn c =
    drawn_together
    (drawn_later c.program_diagrams-2.ensures.adds.keeps (drawn_as c.ordered.ensures (ap shapes_of c.layout.ensures) c.in_ok-first.ensures.drawn))
    (drawn_as c.ordered-2.ensures (ap shapes_of c.layout-2.ensures) c.in_ok-second.ensures.drawn)
    c.formula_node.ensures.adds.keeps
    (denotes_by c.program_diagrams-2.new.arena (formula_of c.args.cert.now) (ap shapes_of c.layout-3.ensures) (ap shapes_of c.layout-4.ensures) c.deref.ensures.value c.deref-2.ensures.value c.in_ok-related.ensures.denotes)
    c.in_ok-structural.ensures.made c.in_ok-pairs.ensures.made
