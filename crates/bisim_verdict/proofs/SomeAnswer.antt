-- It can't be that no answer is due.
use Rattle.std.proofs.Common.{◌≡◌, ◌≢◌, ℕ, zero, suc, ◌<◌, List, [], ◌∷◌, Bool, true, false, not, Some, length, slice_get, refl, sym, subst, ◌∙◌, ◌⊎◌, inl, inr, arith}
use Rattle.argos_base.specs.Names.{Spelled}
use Rattle.argos_base.specs.Orders.{IsEarlier}
use Rattle.argos_base.specs.SignalSets.{SignalSet}
use Rattle.argos_base.proofs.Bools.{true_or_false, not_false}
use Rattle.argos_core.specs.Overlaps.{IsGood}
use Rattle.argos_core.specs.Process.{PlainModule}
use Rattle.argos_congruence.specs.Congruence.{is_shared, all_names, HaveSameNames, ReactTogether}
use Rattle.argos_congruence.specs.NamedSets.{has_name}
use Rattle.argos_congruence.proofs.SharedNames.{share_back}
use Rattle.bisim_formula.specs.Formulas.{Formula, related}
use Rattle.bisim_verdict.specs.Bisimulation.{Related, StartsRelated, IsBisimulation, SomeDiffers, LeavesRelation, pair_key, IsLeastCase, EquivAnswer, accept, interfaces, start, outputs, leaves, IsEquivAnswer}
use Rattle.bisim_verdict.specs.EquivTests.{differs, starts}
use Rattle.bisim_verdict.specs.Laws.{SomeIsDue}
use Rattle.bisim_verdict.proofs.Answering.{differs_false, same_outputs}
use Rattle.bisim_verdict.proofs.OneAnswer.{AreSizedFor, length-key, sized_differs, sized_leaves}

-- what holds of a list where it holds of all earlier ones of its length holds of all
in_order : (n : ℕ) (C : List ℕ → Type 0) → ((xs : List ℕ) → length xs ≡ n → ((ys : List ℕ) → length ys ≡ n → IsEarlier ys xs → C ys) → C xs)
    → (xs : List ℕ) → length xs ≡ n → C xs
in_order zero C step [] long = step [] refl (λ ys e earlier. absurd (none ys earlier))
  where
    none : (ys : List ℕ) → IsEarlier ys [] → ⊥
    none [] h = h
    none (y ∷ ys) h = h
in_order zero C step (x ∷ xs) long = absurd (omega arith)
in_order (suc n) C step [] long = absurd (omega arith)
in_order (suc n) C step (x ∷ xs) long = below (λ x step xs long. in_order n (λ l. C (x ∷ l)) step xs long) (suc x) x (omega arith) xs (omega arith)
  where
    at : (x : ℕ) → ((y : ℕ) → y < x → (ys : List ℕ) → length ys ≡ n → C (y ∷ ys)) → (l : List ℕ)
        → ((ys : List ℕ) → length ys ≡ n → IsEarlier ys l → C (x ∷ ys)) → (zs : List ℕ) → length zs ≡ suc n → IsEarlier zs (x ∷ l) → C zs
    at x smaller l before [] f earlier = absurd (omega arith)
    at x smaller l before (z ∷ zs) f (inl less) = smaller z less zs (omega arith)
    at x smaller l before (z ∷ zs) f (inr same) = subst (λ (k : ℕ). C (k ∷ zs)) (sym same.0) (before zs (omega arith) same.1)

    below : ((x : ℕ) → ((l : List ℕ) → length l ≡ n → ((ys : List ℕ) → length ys ≡ n → IsEarlier ys l → C (x ∷ ys)) → C (x ∷ l)) → (l : List ℕ) → length l ≡ n → C (x ∷ l))
        → (bound x : ℕ) → x < bound → (xs : List ℕ) → length xs ≡ n → C (x ∷ xs)
    below rest zero x less xs long = absurd (omega arith)
    below rest (suc bound) x less xs long = rest x (λ l e before. step (x ∷ l) (omega arith) (λ zs f earlier. at x (λ y low. below rest bound y (omega arith)) l before zs f earlier)) xs long

-- so where no case is the least there is none
none_least : (P Q : PlainModule) (Is : List ℕ → List ℕ → SignalSet → Type 0) → ((m n : List ℕ) (i : SignalSet) → Is m n i → AreSizedFor P Q m n i)
    → ((m n : List ℕ) (i : SignalSet) → ¬ (IsLeastCase Is m n i)) → (m n : List ℕ) (i : SignalSet) → ¬ (Is m n i)
none_least P Q Is sizes none m n i is = in_order (length (pair_key m n i)) Free step (pair_key m n i) refl m n i refl is
  where
    Free : List ℕ → Type 0
    Free key = (a b : List ℕ) (j : SignalSet) → pair_key a b j ≡ key → ¬ (Is a b j)

    step : (xs : List ℕ) → length xs ≡ length (pair_key m n i) → ((ys : List ℕ) → length ys ≡ length (pair_key m n i) → IsEarlier ys xs → Free ys) → Free xs
    step xs long before a b j e there = none a b j (record {
      is = there;
      first = λ c d k other earlier.
          let s = sizes c d k other in
          let t = sizes m n i is in
          before (pair_key c d k) (length-key c d m n k i (s.left ∙ sym t.left) (s.right ∙ sym t.right) (s.input ∙ sym t.input)) (subst (IsEarlier (pair_key c d k)) e earlier) c d k refl other;
    })

-- the first name that fails a test
record FirstFailing (test : Spelled → Bool) (names : List Spelled) : Type 0 where
  name : Spelled
  place : ℕ
  at : slice_get names place ≡ Some name
  fails : test name ≡ false
  first : (k : ℕ) (other : Spelled) → k < place → slice_get names k ≡ Some other → test other ≡ true

all_or_first : (test : Spelled → Bool) (names : List Spelled)
    → ((k : ℕ) (name : Spelled) → slice_get names k ≡ Some name → test name ≡ true) ⊎ FirstFailing test names
all_or_first test [] = inl (λ k name at. cc)
all_or_first test (n ∷ names) = elim (true_or_false (test n)) [
  | inl t ↦ elim (all_or_first test names) [
    | inl rest ↦ inl (every t rest)
    | inr one ↦ inr (record { name = one.name; place = suc one.place; at = one.at; fails = one.fails; first = before t one })
  ]
  | inr f ↦ inr (record { name = n; place = 0; at = refl; fails = f; first = λ k other low at. absurd (omega arith) })
]
  where
    every : test n ≡ true → ((k : ℕ) (name : Spelled) → slice_get names k ≡ Some name → test name ≡ true) → (k : ℕ) (name : Spelled)
        → slice_get (n ∷ names) k ≡ Some name → test name ≡ true
    every t rest zero name at = let e : n ≡ name = cc in subst (λ (s : Spelled). test s ≡ true) e t
    every t rest (suc k) name at = rest k name at

    before : test n ≡ true → (one : FirstFailing test names) → (k : ℕ) (other : Spelled) → k < suc one.place → slice_get (n ∷ names) k ≡ Some other
        → test other ≡ true
    before t one zero other low at = let e : n ≡ other = cc in subst (λ (s : Spelled). test s ≡ true) e t
    before t one (suc k) other low at = one.first k other (omega arith) at

differ_apart : (a b : Bool) → differs a b ≡ true → a ≢ b
differ_apart true true h = λ e. cc
differ_apart true false h = λ e. cc
differ_apart false true h = λ e. cc
differ_apart false false h = λ e. cc

module _ (F : Formula) (P Q : PlainModule) (q_good : IsGood Q) where
  -- outputs that aren't the same by name have a first one that differs
  same_or_differ : HaveSameNames P Q → (m n : List ℕ) (i j o p : SignalSet) (m' n' : List ℕ) → ReactTogether (Related F P Q) P Q m n i j o p m' n'
      → ((a b : List ℕ) (k : SignalSet) → ¬ (SomeDiffers F P Q a b k)) → (name : Spelled) → has_name P.outputs o name ≡ has_name Q.outputs p name
  same_or_differ names m n i j o p m' n' r none = elim (all_or_first (λ s. not (differs (has_name P.outputs o s) (has_name Q.outputs p s))) P.outputs) [
    | inl all ↦ same_outputs P Q o p (share_back P Q q_good.program.is.names names) (λ k name at. differs_false _ _ (not_false _ (all k name at)))
    | inr one ↦ absurd (none m n i (
      one.name,
      record {
        j = j;
        o = o;
        p = p;
        m' = m';
        n' = n';
        react = r;
        place = one.place;
        at = one.at;
        differ = differ_apart _ _ (not_true _ one.fails);
        first = λ k other low at. differs_false _ _ (not_false _ (one.first k other low at));
      },
    ))
  ]
    where
      not_true : (b : Bool) → not b ≡ false → b ≡ true
      not_true true h = refl
      not_true false h = cc

  bisimilar_else : HaveSameNames P Q → StartsRelated F P Q → ((a b : List ℕ) (k : SignalSet) → ¬ (SomeDiffers F P Q a b k))
      → ((a b : List ℕ) (k : SignalSet) → ¬ (LeavesRelation F P Q a b k)) → IsBisimulation F P Q
  bisimilar_else names began same never = record {
    start = began;
    outputs = λ m n i j o p m' n' r. same_or_differ names m n i j o p m' n' r same;
    stays = λ m n i j o p m' n' r. elim (true_or_false (related P Q F m' n')) [
      | inl t ↦ t
      | inr f ↦ absurd (never m n i (record { j = j; o = o; p = p; m' = m'; n' = n'; react = r; unrelated = f }))
    ];
  }

  started : HaveSameNames P Q → starts F P Q ≡ true → ((a : EquivAnswer) → ¬ (IsEquivAnswer F P Q a)) → ⊥
  started names began none =
      let same = none_least P Q (SomeDiffers F P Q) (sized_differs F P Q) (λ m n i l. none (outputs m n i l.is.0) (names, began, l, l.is.1)) in
      let never = none_least P Q (LeavesRelation F P Q) (sized_leaves F P Q) (λ m n i l. none (leaves m n i) (names, began, same, l)) in
      none accept (names, bisimilar_else names began same never)

  named : HaveSameNames P Q → ((a : EquivAnswer) → ¬ (IsEquivAnswer F P Q a)) → ⊥
  named names none = elim (true_or_false (starts F P Q)) [
    | inl t ↦ started names t none
    | inr f ↦ none start (names, λ t. cc (t, f))
  ]

pub some_is_due : SomeIsDue
some_is_due F P Q p_good q_good none = elim (all_or_first (is_shared P Q) (all_names P Q)) [
  | inl all ↦ named F P Q q_good all none
  | inr one ↦ none (interfaces one.name) (record { place = one.place; at = one.at; foreign = one.fails; first = one.first })
]
