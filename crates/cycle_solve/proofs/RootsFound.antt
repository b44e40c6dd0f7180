-- The roots over a system's diagrams say where its cyclic bits are in the least solution.
use Rattle.std.proofs.Common.{◌≡◌, ◌↔◌, ℕ, ◌+◌, ◌-◌, ◌≤◌, List, [], ◌∷◌, ◌++◌, Bool, true, false, ◌&&◌, ◌||◌, not, slice_index_or, length, map, drop, All, Result, Ok, Err, IfOk, refl, sym, ap, ◌∙◌, subst, arith, length-append}
use Rattle.std.proofs.lemmas.List.{length-map, length-drop}
use Rattle.argos_base.specs.Machines.{AlwaysReactsOnce}
use Rattle.argos_base.specs.SignalSets.{SignalSet}
use Rattle.argos_core.specs.Layouts.{RegisterShape, FitsLayout}
use Rattle.dd_core.specs.declared.nodes.NodeId.{NodeId}
use Rattle.dd_core.specs.Arenas.{ArenaView, IsArena, Holds, function_of, Keeps, AddsAtMost}
use Rattle.eqn_completion.specs.Binary.{in_binary, memory_of, digits_in, FitsIn}
use Rattle.eqn_completion.specs.Findings.{Finding}
use Rattle.eqn_completion.proofs.Ordering.{memory-binary, fits-memory, binary-memory}
use Rattle.eqn_core.specs.Equations.{Equations, registers}
use Rattle.eqn_core.specs.Orderable.{IsOrderable}
use Rattle.eqn_core.specs.Plans.{IsPlanOf}
use Rattle.eqn_core.specs.Solutions.{SystemReacts}
use Rattle.eqn_dd.specs.declared.places.Places.{Places}
use Rattle.eqn_dd.specs.Completed.{DenoteCompletions}
use Rattle.eqn_dd.specs.Laws.{finding_of, row_of}
use Rattle.eqn_dd.specs.Placed.{AreInTurn}
use Rattle.eqn_dd.specs.Structural.{widths_of, DenotesLayout}
use Rattle.eqn_dd.proofs.Denotations.{adds_in_turn, adds_fewer}
use Rattle.eqn_dd.proofs.Denoted.{denoted_diagrams, denoted_layouts}
use Rattle.eqn_verdict.specs.Diagrams.{Splits, are_same}
use Rattle.eqn_verdict.specs.FromDiagrams.{never, consistent_of, results_of}
use Rattle.eqn_verdict.specs.Needs.{JobSize, making_operations, agreeing_operations, solve_operations}
use Rattle.eqn_verdict.specs.Searching.{Test, some, some_differ}
use Rattle.eqn_verdict.specs.Structural.{fits}
use Rattle.eqn_verdict.specs.Verdicts.{AreWidths, AreFindings, at}
use Rattle.eqn_verdict.proofs.Fitting.{fits_is_test}
use Rattle.eqn_verdict.proofs.FromDiagrams.{diagrams_give_findings}
use Rattle.eqn_verdict.proofs.Verdict.{verdict_is_one}
use Rattle.instant_verdict.specs.Jobs.{job_size}
use Rattle.instant_verdict.specs.inner.Searched.{node_or_false}
use Rattle.instant_verdict.proofs.SearchSteps.{bits-split}
use Rattle.verdict_search.specs.Consistency.{IsConsistency}
use Rattle.verdict_search.specs.Counts.{solving_count}
use Rattle.verdict_search.specs.Parts.{meet}
use Rattle.verdict_search.specs.Roots.{AllReact, AreLeastOnes}
use Rattle.verdict_search.specs.Splitting.{AreSplit, IsTestOf}
use Rattle.cycle_solve.specs.inner.Roots.{AreRootsOf}

same_answers : (a b : Bool) → (a ≡ true → b ≡ true) → (b ≡ true → a ≡ true) → a ≡ b
same_answers true true f g = refl
same_answers false false f g = refl
same_answers true false f g = absurd (never-true (f refl))
  where
    never-true : false ≡ true → ⊥
    never-true e = cc
same_answers false true f g = absurd (never-true (g refl))
  where
    never-true : false ≡ true → ⊥
    never-true e = cc

applied : (y x : SignalSet) (h : ℕ → Finding) (ks : List ℕ)
    → map (λ (g : Finding). g y x) (map h ks) ≡ map (λ (k : ℕ). h k y x) ks
applied y x h [] = refl
applied y x h (k ∷ ks) = ap (λ (l : List Bool). h k y x ∷ l) (applied y x h ks)

some-there : (s k d : Bool) → (s && (not k || d)) ≡ false → s ≡ true → k ≡ true
some-there true true d e h = refl
some-there true false d e h = cc
some-there false k d e h = cc

module _ (E : Equations) (order cyclic : List ℕ) (layout : List RegisterShape) (p : Places)
    (orderable : IsOrderable E) (plan : IsPlanOf E order cyclic) (shapes : length layout ≡ registers E)
    (wide : AreWidths layout (widths_of layout)) (turn : AreInTurn (widths_of layout) E.inputs
    (length cyclic) p) where
  abbrev points : ℕ
  points = digits_in (widths_of layout) + E.inputs

  abbrev structural : Test
  structural y = fits layout (memory_of (widths_of layout) y)

  structural-fits : (m : List ℕ) (i : SignalSet) → FitsIn (widths_of layout) m → length i ≡ E.inputs
      → (structural (in_binary (widths_of layout) m ++ i) ≡ true) ↔ (FitsLayout layout m)
  structural-fits m i fit sized = subst (λ (n : List ℕ). (fits layout n ≡ true)
      ↔ (FitsLayout layout m)) (sym (memory-binary (widths_of layout) m i fit)) (fits_is_test layout m)

  -- the node of the layout is that test
  layout-test : (made later : ArenaView) (f : ℕ) → made.variables ≡ points + length cyclic → Keeps made later
      → DenotesLayout made f layout p → IsTestOf later points (length cyclic) f structural
  layout-test made later f variables keeps denotes y x ys xs =
      let ws = widths_of layout in
      let m = memory_of ws y in
      let i = drop (digits_in ws) y in
      let enough : digits_in ws ≤ length y = omega (arith, ys) in
      let fit = fits-memory ws y enough in
      let i-sized : length i ≡ E.inputs = omega (arith, length-drop (digits_in ws) y, ys) in
      let same : in_binary ws m ++ i ≡ y = binary-memory ws y enough in
      let row : row_of ws m i x ≡ y ++ x = ap (λ (l : SignalSet). l ++ x) same in
      let exact = denoted_layouts made f layout ws m E.inputs
      (length cyclic) i x p turn variables denotes fit i-sized xs in
      let test = fits_is_test layout m in
      keeps.denotes f denotes.held (y ++ x) (omega (arith, length-append y x, ys, xs, variables))
      ∙ ap (function_of made f) (sym row)
      ∙ same_answers (function_of made f (row_of ws m i x)) (structural y) (λ t. test.1 (exact.0 t))
      (λ t. exact.1 (test.0 t))

  -- where there is one reaction everywhere, some values are consistent at each structural point
  all-react : (s : Test) (K : Finding) (gs : List Finding)
      → AreFindings E layout cyclic (widths_of layout) s K gs
      → AlwaysReactsOnce (FitsLayout layout) E.inputs (SystemReacts E) → AllReact points (length cyclic) s K
  all-react s K gs found once y ys t =
      some-there (s y) (some (length cyclic) (K y)) (some_differ (length cyclic) (K y) (at gs y))
      ((verdict_is_one E order cyclic layout
      (widths_of layout) s K gs orderable plan shapes wide found).1 once y ys) t

  pub roots-found : (first second third last : ArenaView) (bits : List NodeId) (words : List (List NodeId))
      (fitting : NodeId) (consistent roots : List NodeId)
      → AlwaysReactsOnce (FitsLayout layout) E.inputs (SystemReacts E)
      → first.variables ≡ points + length cyclic → IsArena second → IsArena last → Keeps first second
      → Keeps second third → Keeps third last
      → DenoteCompletions first E cyclic p bits words → DenotesLayout second fitting.0 layout p
      → IsConsistency second third points (map (node_or_false bits) cyclic) consistent
      → length roots ≡ third.variables - points → All (λ (f : NodeId). Holds last f.0) roots
      → AreLeastOnes third last points fitting.0 consistent roots → AreRootsOf E layout cyclic last roots
  roots-found first second third last bits words fitting consistent roots once variables valid valid' keeps
      later after denote denotes agree sized held least =
      let c = length cyclic in
      let findings : List Finding = map (finding_of first) bits in
      let digits : List (List Finding) = map (map (finding_of first)) words in
      let given : length (map (node_or_false bits) cyclic) ≡ c = length-map cyclic (node_or_false bits) in
      let split : AreSplit second points c (map (node_or_false bits) cyclic) (map (λ
      (k : ℕ). slice_index_or findings k never) cyclic) = bits-split first second points c variables valid
      keeps bits cyclic denote.bits_held in
      let agrees : Splits points c (meet third consistent) (λ y x. are_same (map (λ
      (g : Finding). g y x) (map (λ (k : ℕ). slice_index_or findings k never) cyclic)) x) =
      subst (λ (n : ℕ). AreSplit second points n (map (node_or_false bits) cyclic) (map (λ
      (k : ℕ). slice_index_or findings k never) cyclic)
      → Splits points n (meet third consistent) (λ y x. are_same (map (λ (g : Finding). g y x)
      (map (λ (k : ℕ). slice_index_or findings k never) cyclic)) x))
      given (agree (map (λ (k : ℕ). slice_index_or findings k never) cyclic)) split in
      let found : AreFindings E layout cyclic (widths_of layout) structural (consistent_of cyclic findings)
      (results_of E findings digits) =
      diagrams_give_findings E layout cyclic
      (widths_of layout) structural findings digits orderable shapes wide (denoted_diagrams first E cyclic
      (widths_of layout) p bits words turn variables denote) structural-fits in
      let third-variables : third.variables ≡ points + c = later.variables ∙ keeps.variables ∙ variables in
      let react = all-react structural (consistent_of cyclic findings)
      (results_of E findings digits) found once in
      record {
        structural = structural;
        consistent = consistent_of cyclic findings;
        results = results_of E findings digits;
        wide = wide;
        are = found;
        react = react;
        valid = valid';
        variables = after.variables ∙ third-variables;
        held = held;
        sized = omega (arith, sized, third-variables);
        least = least c structural (consistent_of cyclic findings) third-variables
            (layout-test second third fitting.0 (keeps.variables ∙ variables) later denotes)
            (λ y x ys xs. agrees y x ys xs ∙ ap (λ (l : List Bool). are_same l x) (applied y x (λ
            (k : ℕ). slice_index_or findings k never) cyclic)) react;
      }

-- ---- how many operations

module _ (E : Equations) (layout : List RegisterShape) (cyclic : List ℕ) where
  abbrev size : JobSize
  size = job_size E layout cyclic

  pub made-few : {a b : ArenaView} → AddsAtMost (making_operations size) a b
      → AddsAtMost (solve_operations size) a b
  made-few adds = adds_fewer (making_operations size) (solve_operations size) (omega arith) adds

  pub agreed-few : {a b : ArenaView} → AddsAtMost (making_operations size + agreeing_operations size) a b
      → AddsAtMost (solve_operations size) a b
  agreed-few adds = adds_fewer (making_operations size + agreeing_operations size) (solve_operations size)
      (omega arith) adds

  pub solving : {a b d : ArenaView} {n : ℕ} → n ≡ length cyclic
      → AddsAtMost (making_operations size + agreeing_operations size) a b → AddsAtMost (solving_count n) b d
      → AddsAtMost (solve_operations size) a d
  solving {a} {b} {d} {n} same first second =
      let counted : solving_count n ≡ solving_count size.cyclic = ap solving_count same in
      adds_in_turn (making_operations size + agreeing_operations size) (solving_count n)
      (solve_operations size) (omega (arith, counted)) first second

pub all-ok : {X Y : Type 0} (r : Result X Y) (P Q R S : X → Type 0) → ((x : X) → P x → Q x → R x → S x)
    → IfOk r P → IfOk r Q → IfOk r R → IfOk r S
all-ok (Ok x) P Q R S f p q t = f x p q t
all-ok (Err e) P Q R S f p q t = tt
