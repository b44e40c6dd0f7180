-- The verdict, by what was found at a point.
use Rattle.std.proofs.Common.{◌≡◌, ◌≢◌, ℕ, ◌+◌, List, ◌++◌, Bool, true, false, refl, sym, ap, ◌∙◌, inl, inr, subst, arith, length, take, Result, Ok, Err, IfOk}
use Rattle.std.specs.Prelude.{All}
use Rattle.argos_base.specs.SignalSets.{SignalSet}
use Rattle.argos_base.proofs.Bools.{true_or_false}
use Rattle.dd_core.specs.declared.nodes.NodeId.{NodeId}
use Rattle.dd_core.specs.declared.errors.DdError.{DdError}
use Rattle.dd_core.specs.Functions.{Function, AreEqual, constant}
use Rattle.dd_core.specs.Arenas.{ArenaView, IsArena, Holds, function_of, Keeps, AddsAtMost}
use Rattle.dd_core.proofs.Canonical.{canonical}
use Rattle.dd_core.proofs.Composing.{Keeps-trans}
use Rattle.dd_core.proofs.Making.{function_of-false}
use Rattle.dd_core.proofs.Walks.{held_constant}
use Rattle.dd_ops.specs.Least.{IsLeast}
use Rattle.eqn_completion.specs.Findings.{Finding}
use Rattle.eqn_verdict.specs.Diagrams.{Splits, are_same, pinned_at}
use Rattle.eqn_verdict.specs.Searching.{Test, some, without, least_answers, has_answers, IsFirst}
use Rattle.eqn_verdict.specs.Verdicts.{at, is_bad}
use Rattle.eqn_verdict.proofs.Finding.{same-tells}
use Rattle.eqn_verdict.proofs.Steps.{pinned_is_false, least_is_first, none_is_false}
use Rattle.verdict_search.specs.declared.finding.Found.{Found}
use Rattle.verdict_search.specs.declared.finding.Found.TheVariants.{One, NoReaction, Several}
use Rattle.verdict_search.specs.Outcomes.{IsFound}
use Rattle.verdict_search.specs.Parts.{meet}
use Rattle.verdict_search.specs.Splitting.{AreSplit, AreSearched}
use Rattle.verdict_search.specs.inner.Pinning.{IsPinnedTo}
use Rattle.verdict_search.specs.inner.Taking.{IsPinned, AreLeast, IsWithout, IsThere, IsWhatIsThere}
use Rattle.verdict_search.specs.inner.Testing.{IsBadTest}
use Rattle.verdict_search.proofs.PartNodes.{meet_later}
use Rattle.verdict_search.proofs.SplitNodes.{sized_in, splits_later, split_later}

-- ---- at a point

pinned_here : (a c : ℕ) (g : Function) (z : SignalSet) (K : Finding) → Splits a c g (pinned_at z K) → Splits a c g (pinned_at z (λ y. K z))
pinned_here a c g z K s y x ys xs = s y x ys xs ∙ elim (true_or_false (are_same y z)) [
  | inl t ↦ rw t (ap (λ (w : SignalSet). K w x) (same-tells y z t))
  | inr f ↦ rw f refl
]

-- the pinned node is false: no values are consistent
pub none_there : {A B : ArenaView} {q : NodeId} (f : List NodeId) (z : SignalSet) → IsArena B → Keeps A B → q.0 ≡ 0 → IsPinnedTo A B z f q.0 → (c : ℕ) (K : Finding) → A.variables ≡ length z + c → Splits (length z) c (meet A f) K → some c (K z) ≡ false
none_there {A} {B} {q} f z valid keeps zero is c K v k =
    (pinned_is_false (length z) c (function_of B q.0) K z refl (is c K v k)).0 (λ x xs. ap (λ (g : ℕ). function_of B g x) zero ∙ function_of-false B x valid)

-- else some are
pub some_there : {A B : ArenaView} {q : NodeId} (f : List NodeId) (z : SignalSet) → IsArena B → Keeps A B → Holds B q.0 → q.0 ≢ 0 → IsPinnedTo A B z f q.0 → (c : ℕ) (K : Finding) → A.variables ≡ length z + c → Splits (length z) c (meet A f) K → some c (K z) ≡ true
some_there {A} {B} {q} f z valid keeps held other is c K v k = of_value (some c (K z)) refl
  where
    of_value : (b : Bool) → some c (K z) ≡ b → some c (K z) ≡ true
    of_value true e = e
    of_value false e =
        let everywhere = (pinned_is_false (length z) c (function_of B q.0) K z refl (is c K v k)).1 e in
        absurd (other (canonical B.variables B.nodes valid.reduced q.0 0 held (held_constant B.nodes 0 (omega arith)) (λ x xs. everywhere x (xs ∙ keeps.variables ∙ v) ∙ sym (function_of-false B x valid))))

module _ {i n k : ℕ} {A B C D : ArenaView} {q others : NodeId} (consistent : List NodeId) (z : SignalSet) (results : List NodeId) (first second : List Bool) (held_results : All (λ (g : NodeId). Holds A g.0) results)
    (pinned : AddsAtMost i A B) (held_q : Holds B q.0) (is : IsPinnedTo A B z consistent q.0)
    (taken : AddsAtMost n B C) (first_is : AreLeast B q.0 results first)
    (left : AddsAtMost k C D) (others_is : IsWithout C D q.0 results first others.0)
    (second_is : AreLeast D others.0 results second) where
  pub first_there : (c : ℕ) (K : Finding) (gs : List Finding) → A.variables ≡ length z + c → Splits (length z) c (meet A consistent) K → AreSplit A (length z) c results gs → first ≡ least_answers c (K z) (at gs z)
  first_there c K gs v s all =
      first_is (length z) c z (K z) gs (pinned.keeps.variables ∙ v) refl (pinned_here (length z) c (function_of B q.0) z K (is c K v s)) (split_later A B (length z) c results gs v held_results pinned.keeps all)

  pub second_there : (c : ℕ) (K : Finding) (gs : List Finding) → A.variables ≡ length z + c → Splits (length z) c (meet A consistent) K → AreSplit A (length z) c results gs → second ≡ least_answers c (without (K z) (has_answers (at gs z) first)) (at gs z)
  second_there c K gs v s all =
      let a = length z in
      let to_c = Keeps-trans A B C pinned.keeps taken.keeps in
      let to_d = Keeps-trans A C D to_c left.keeps in
      let here : IsPinned B a c z (K z) q.0 = pinned_here a c (function_of B q.0) z K (is c K v s) in
      let rest : IsPinned D a c z (without (K z) (has_answers (at gs z) first)) others.0 =
      others_is a c z (K z) gs (to_c.variables ∙ v) refl (splits_later (pinned.keeps.variables ∙ v) held_q taken.keeps here) (split_later A C a c results gs v held_results to_c all) in
      second_is a c z (without (K z) (has_answers (at gs z) first)) gs (to_d.variables ∙ v) refl rest (split_later A D a c results gs v held_results to_d all)

-- ---- at the first bad point

pub one_found : {a structural bad : ℕ} {A B : ArenaView} (consistent results : List NodeId) → Keeps A B → IsBadTest A B a structural consistent results bad → AreEqual B.variables (function_of B bad) (constant false)
    → (c : ℕ) (s : Test) (K : Finding) (gs : List Finding) → AreSearched A a c structural consistent results s K gs → (y : SignalSet) → length y ≡ a → is_bad c s K gs y ≡ false
one_found {a} {structural} {bad} {A} {B} consistent results keeps is never c s K gs all =
    none_is_false a c (function_of B bad) (is_bad c s K gs) (is c s K gs all) (λ x xs. never x (xs ∙ sym (keeps.variables ∙ all.variables)))

pub found_there : {n a structural bad : ℕ} {A B : ArenaView} (consistent results : List NodeId) (z y : SignalSet) (found : Found) → All (λ (f : NodeId). Holds A f.0) consistent → All (λ (g : NodeId). Holds A g.0) results → AddsAtMost n A B → IsBadTest A B a structural consistent results bad
    → IsLeast B.variables (function_of B bad) z → y ≡ take a z → IsWhatIsThere B y consistent results found
    → (c : ℕ) (s : Test) (K : Finding) (gs : List Finding) → AreSearched A a c structural consistent results s K gs → IsFound a c s K gs found
found_there {n} {a} {structural} {bad} {A} {B} consistent results z y found held held_results adds is least y_is there c s K gs all =
    let v = adds.keeps.variables ∙ all.variables in
    let least_of : IsLeast (a + c) (function_of B bad) z = subst (λ (m : ℕ). IsLeast m (function_of B bad) z) v least in
    let first : IsFirst a (is_bad c s K gs) y = subst (IsFirst a (is_bad c s K gs)) (sym y_is) (least_is_first a c (function_of B bad) (is_bad c s K gs) z (is c s K gs all) least_of) in
    let ys : a ≡ length y = sym first.sized in
    let k : Splits a c (meet B consistent) K = λ w x ws xs. meet_later A B consistent (w ++ x) adds.keeps held (sized_in w x all.variables ws xs) ∙ all.consistent_is w x ws xs in
    let g = split_later A B a c results gs all.variables held_results adds.keeps all.results_are in
    of_there found first (there c K gs (v ∙ ap (λ (m : ℕ). m + c) ys) (subst (λ (m : ℕ). Splits m c (meet B consistent) K) ys k) (subst (λ (m : ℕ). AreSplit B m c results gs) ys g))
  where
    of_there : (f : Found) → IsFirst a (is_bad c s K gs) y → IsThere c (K y) (at gs y) y f → IsFound a c s K gs f
    of_there One first t = absurd t
    of_there (NoReaction w) first t = record {
      first_bad = subst (IsFirst a (is_bad c s K gs)) (sym t.0) first;
      none = subst (λ (u : SignalSet). some c (K u) ≡ false) (sym t.0) t.1;
    }
    of_there (Several w p q) first t = record {
      first_bad = subst (IsFirst a (is_bad c s K gs)) (sym t.0) first;
      some_react = subst (λ (u : SignalSet). some c (K u) ≡ true) (sym t.0) t.1;
      first_least = t.2 ∙ ap (λ (u : SignalSet). least_answers c (K u) (at gs u)) (sym t.0);
      second_least = t.3 ∙ ap (λ (u : SignalSet). least_answers c (without (K u) (has_answers (at gs u) p.items)) (at gs u)) (sym t.0);
    }

pub all_found : {n a structural bad : ℕ} {A B : ArenaView} (consistent results : List NodeId) (z y : SignalSet) (result : Result Found DdError) → All (λ (f : NodeId). Holds A f.0) consistent → All (λ (g : NodeId). Holds A g.0) results → AddsAtMost n A B → IsBadTest A B a structural consistent results bad
    → IsLeast B.variables (function_of B bad) z → y ≡ take a z → IfOk result (IsWhatIsThere B y consistent results)
    → IfOk result (λ found. (c : ℕ) (s : Test) (K : Finding) (gs : List Finding) → AreSearched A a c structural consistent results s K gs → IsFound a c s K gs found)
all_found consistent results z y (Ok found) held held_results adds is least y_is there = found_there consistent results z y found held held_results adds is least y_is there
all_found consistent results z y (Err e) held held_results adds is least y_is there = tt
