-- How many lines are moved, and how much they weigh.
use Rattle.std.proofs.Common.{◌≡◌, ℕ, ◌≤◌, List, [], ◌∷◌, ap, ◌∙◌, inl, inr, arith, length}
use Rattle.std.proofs.lemmas.List.{take_all}
use Rattle.argos_base.proofs.Bools.{true_or_false}
use Rattle.eqn_core.specs.Equations.{Equations, line_weight, lines_weight, weight_of}
use Rattle.eqn_core.specs.Plans.{IsPlanOf}
use Rattle.eqn_completion.specs.Moving.{Tables, line_at, is_given, with_entry, moved_lines}
use Rattle.eqn_completion.proofs.Counting.{weight-moved}
use Rattle.eqn_completion.proofs.Plans.{sum_over, sum-listed, weight-below}

pub length-rest : (E : Equations) (cyclic order : List ℕ) (t : Tables) → length (moved_lines E cyclic order t) ≤ length order
length-rest E cyclic [] t = omega arith
length-rest E cyclic (p ∷ order) t = elim (true_or_false (is_given E cyclic p (line_at E p))) [
  | inl y ↦ rw y (let r = length-rest E cyclic order t in omega arith)
  | inr n ↦ rw n (let r = length-rest E cyclic order (with_entry E p (line_at E p) t) in omega arith)
]

pub weight-rest : (E : Equations) (cyclic order : List ℕ) (t : Tables) → lines_weight (moved_lines E cyclic order t) ≤ sum_over (λ p. line_weight (line_at E p)) order
weight-rest E cyclic [] t = omega arith
weight-rest E cyclic (p ∷ order) t = elim (true_or_false (is_given E cyclic p (line_at E p))) [
  | inl y ↦ rw y (let r = weight-rest E cyclic order t in omega arith)
  | inr n ↦ rw n (let r = weight-rest E cyclic order (with_entry E p (line_at E p) t) in let w = weight-moved t.bits t.words (line_at E p) in omega arith)
]

pub weight-order : (E : Equations) (order cyclic : List ℕ) → IsPlanOf E order cyclic → sum_over (λ p. line_weight (line_at E p)) order ≡ weight_of E
weight-order E order cyclic plan = sum-listed (λ p. line_weight (line_at E p)) (length E.lines) order plan.sized plan.each ∙ weight-below E.lines (length E.lines) (omega arith) ∙ ap lines_weight (take_all (length E.lines) E.lines (omega arith))
