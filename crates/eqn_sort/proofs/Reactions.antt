-- A system with the reactions of another has its runs.
use Rattle.std.proofs.Common.{◌≡◌, ℕ, List, [], ◌∷◌, map, ap, sym, ◌∙◌, subst}
use Rattle.argos_base.specs.Runs.{Follows}
use Rattle.argos_base.specs.SignalSets.{SignalSet}
use Rattle.eqn_core.specs.Equations.{Line, Equations}
use Rattle.eqn_core.specs.Solutions.{SystemReacts}
use Rattle.eqn_core.specs.Ordered.{IsOrdered}
use Rattle.eqn_core.specs.Orderable.{IsOrderable}
use Rattle.eqn_core.specs.Plans.{IsPlanOf}
use Rattle.eqn_completion.specs.Moving.{Tables, moved_lines, tables_after}
use Rattle.eqn_completion.specs.Sorted.{first_numbers, sorted_numbers, sorted_system}
use Rattle.eqn_completion.proofs.Sorting.{sorted_react}
use Rattle.eqn_sort.specs.Promises.{HasReactionsOf, HasRunsOf}

follow : (F E : Equations) → HasReactionsOf F E → (m : List ℕ) (inputs outputs : List SignalSet) (memories : List (List ℕ)) → Follows (SystemReacts F) m inputs outputs memories → Follows (SystemReacts E) m inputs outputs memories
follow F E h m [] [] [] r = tt
follow F E h m [] [] (n ∷ memories) r = r
follow F E h m [] (o ∷ outputs) memories r = r
follow F E h m (i ∷ inputs) [] memories r = r
follow F E h m (i ∷ inputs) (o ∷ outputs) [] r = r
follow F E h m (i ∷ inputs) (o ∷ outputs) (n ∷ memories) r = ((h m i o n).0 r.0, follow F E h n inputs outputs memories r.1)

pub has_runs : (F E : Equations) → F.initial ≡ E.initial → HasReactionsOf F E → HasRunsOf F E
has_runs F E e h inputs outputs memories = (
  λ r. subst (λ (m : List ℕ). Follows (SystemReacts E) m inputs outputs memories) e (follow F E h F.initial inputs outputs memories r),
  λ r. follow E F (λ m i o n. ((h m i o n).1, (h m i o n).0)) F.initial inputs outputs memories (subst (λ (m : List ℕ). Follows (SystemReacts E) m inputs outputs memories) (sym e) r),
)

-- the system with these parts
abbrev pub made : ℕ → List ℕ → List Line → List ℕ → List ℕ → List ℕ → Equations
made inputs initial lines outputs locals next = record { inputs = inputs; initial = initial; lines = lines; outputs = outputs; locals = locals; next = next }

-- what is made of moved lines and of the numbers behind them is the sorted system
pub made_sorted : (E : Equations) (order cyclic : List ℕ) (t t' : Tables) (lines : List Line) (initial outputs locals next : List ℕ) → cyclic ≡ [] → t ≡ first_numbers E → lines ≡ moved_lines E cyclic order t → t' ≡ tables_after E cyclic order t → initial ≡ E.initial → outputs ≡ map t'.bits E.outputs → locals ≡ [] → next ≡ map t'.words E.next → made E.inputs initial lines outputs locals next ≡ sorted_system E order
made_sorted E order cyclic t t' lines initial outputs locals next none first ls after i o l n =
    let end : t' ≡ sorted_numbers E order = after ∙ ap (λ (u : Tables). tables_after E cyclic order u) first ∙ ap (λ (ks : List ℕ). tables_after E ks order (first_numbers E)) none in
    ap (λ (x : List ℕ). made E.inputs x lines outputs locals next) i
    ∙ ap (λ (x : List Line). made E.inputs E.initial x outputs locals next) (ls ∙ ap (λ (u : Tables). moved_lines E cyclic order u) first ∙ ap (λ (ks : List ℕ). moved_lines E ks order (first_numbers E)) none)
    ∙ ap (λ (x : List ℕ). made E.inputs E.initial (moved_lines E [] order (first_numbers E)) x locals next) (o ∙ ap (λ (u : Tables). map u.bits E.outputs) end)
    ∙ ap (λ (x : List ℕ). made E.inputs E.initial (moved_lines E [] order (first_numbers E)) (map (sorted_numbers E order).bits E.outputs) x next) l
    ∙ ap (λ (x : List ℕ). made E.inputs E.initial (moved_lines E [] order (first_numbers E)) (map (sorted_numbers E order).bits E.outputs) [] x) (n ∙ ap (λ (u : Tables). map u.words E.next) end)

-- what is promised of the sorted system
pub acyclic : (E : Equations) (order cyclic : List ℕ) → IsPlanOf E order cyclic → cyclic ≡ [] → IsPlanOf E order []
acyclic E order cyclic plan e = subst (λ (ks : List ℕ). IsPlanOf E order ks) e plan

pub sorted_fine : (E : Equations) (order : List ℕ) → IsOrderable E → IsPlanOf E order [] → IsOrdered (sorted_system E order) → HasReactionsOf (sorted_system E order) E
sorted_fine E order o plan ordered = λ m i q n. sorted_react E order o plan ordered m i q n
