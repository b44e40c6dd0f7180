-- How many registers and outputs diagrams are made for, and how many operations the search makes.
use Rattle.std.proofs.Common.{◌≡◌, ℕ, ◌+◌, ◌*◌, List, [], ◌∷◌, map, length, sym, ap, refl, ◌∙◌, subst, arith}
use Rattle.std.specs.Prelude.{Vec}
use Rattle.std.specs.declared.alloc.Global.{Global}
use Rattle.std.proofs.Math.Logic.{∥∥₁_elim}
use Rattle.std.proofs.lemmas.List.{length-map}
use Rattle.std.proofs.Props.{props}
use Rattle.argos_compile.specs.Accepting.{IsAccepted}
use Rattle.argos_core.specs.Layouts.{RegisterShape, layout_of}
use Rattle.argos_core.specs.Process.{PlainModule}
use Rattle.argos_core.specs.Reactions.{output_count}
use Rattle.argos_core.specs.Views.{register_shape_of}
use Rattle.argos_core.specs.declared.layouts.Shape.{Shape}
use Rattle.bisim_check.specs.Jobs.{job_variables, job_size}
use Rattle.bisim_check.specs.declared.searching.Drawn.{Drawn}
use Rattle.bisim_check.specs.inner.Searched.{digits_of, drawing_operations, IsDrawn, leaving_function}
use Rattle.bisim_formula.specs.Formulas.{Formula, formula_size}
use Rattle.bisim_verdict.specs.Counts.{equiv_operations}
use Rattle.dd_core.specs.declared.nodes.NodeId.{NodeId}
use Rattle.dd_core.specs.Arenas.{ArenaView, AddsAtMost}
use Rattle.eqn_core.specs.Equations.{Equations, registers}
use Rattle.eqn_dd.specs.declared.places.Places.{Places}
use Rattle.eqn_dd.specs.Denoting.{Denotes}
use Rattle.eqn_dd.specs.Placed.{NamesVariables, registers_from}
use Rattle.eqn_dd.specs.Structural.{digit_count}
use Rattle.eqn_dd.proofs.Denotations.{adds_in_turn, adds_fewer}

length-from : (k : ℕ) (widths : List ℕ) → length (registers_from k widths) ≡ length widths
length-from k [] = refl
length-from k (w ∷ widths) = let r = length-from (k + w) widths in omega (arith, r)

-- a program has as many shapes as its equations have registers
pub sized_layout : (P : PlainModule) (shapes : List Shape) (first v : ℕ) (E : Equations) (p : Places) → map register_shape_of shapes ≡ layout_of P.process → p.regs.items ≡ registers_from first (digits_of P) → NamesVariables v E [] p
    → length shapes ≡ registers E
sized_layout P shapes first v E p laid placed named =
    sym (length-map shapes register_shape_of) ∙ ap length laid ∙ sym (length-map (layout_of P.process) (λ s. digit_count s.top)) ∙ sym (length-from first (digits_of P)) ∙ sym (ap length placed) ∙ named.registers_sized

pub sized_outputs : (P : PlainModule) (E : Equations) (lines n : ℕ) → ∥ IsAccepted P E lines ∥₁ → n ≡ length E.outputs → n ≡ output_count P
sized_outputs P E lines n judged is = ∥∥₁_elim judged (hlevel props) (λ (accepted : IsAccepted P E lines). is ∙ accepted.system.outputs)

-- ---- operations

module _ (F : Formula) (P Q : PlainModule) (E G : Equations) {a b : ArenaView} (v : a.variables ≡ job_variables P Q) (drawn : AddsAtMost (drawing_operations a.variables F E G) a b) where
  pub drawn_adds : AddsAtMost (equiv_operations (job_size F P Q E G)) a b
  drawn_adds = adds_fewer (drawing_operations a.variables F E G) (equiv_operations (job_size F P Q E G)) (omega (arith, v)) drawn

  pub compared_adds : {c : ArenaView} → AddsAtMost (3 * output_count P + 1) b c → AddsAtMost (equiv_operations (job_size F P Q E G)) a c
  compared_adds compared = adds_in_turn (drawing_operations a.variables F E G) (3 * output_count P + 1) (equiv_operations (job_size F P Q E G)) (omega (arith, v)) drawn compared

  pub left_adds : {c d : ArenaView} → AddsAtMost (3 * output_count P + 1) b c → AddsAtMost (50 * formula_size F + 2) c d → AddsAtMost (equiv_operations (job_size F P Q E G)) a d
  left_adds compared left =
      let both = adds_in_turn (3 * output_count P + 1) (50 * formula_size F + 2) (3 * output_count P + 1 + (50 * formula_size F + 2)) (omega arith) compared left in
      adds_in_turn (drawing_operations a.variables F E G) (3 * output_count P + 1 + (50 * formula_size F + 2)) (equiv_operations (job_size F P Q E G)) (omega (arith, v)) drawn both

-- what is drawn, where the layouts are those of the programs
pub drawn_over : (P Q : PlainModule) {F : Formula} {ls rs : List RegisterShape} {p q : Places} {E G : Equations} {a : ArenaView} {d : Drawn} → ls ≡ layout_of P.process → rs ≡ layout_of Q.process
    → IsDrawn F ls rs p q E G a d → IsDrawn F (layout_of P.process) (layout_of Q.process) p q E G a d
drawn_over P Q {F} {ls} {rs} {p} {q} {E} {G} {a} {d} el er is =
    subst (λ (rs : List RegisterShape). IsDrawn F (layout_of P.process) rs p q E G a d) er (subst (λ (ls : List RegisterShape). IsDrawn F ls rs p q E G a d) el is)

pub leads_over : (P Q : PlainModule) (F : Formula) (a : ArenaView) (lefts rights : List (Vec NodeId Global)) {ls rs : List RegisterShape} {b : ArenaView} {pairs last : ℕ} → ls ≡ layout_of P.process → rs ≡ layout_of Q.process
    → Denotes b last (leaving_function a pairs ls rs F lefts rights) → Denotes b last (leaving_function a pairs (layout_of P.process) (layout_of Q.process) F lefts rights)
leads_over P Q F a lefts rights {ls} {rs} {b} {pairs} {last} el er is =
    subst (λ (us : List RegisterShape). Denotes b last (leaving_function a pairs (layout_of P.process) us F lefts rights)) er
    (subst (λ (us : List RegisterShape). Denotes b last (leaving_function a pairs us rs F lefts rights)) el is)
