-- There is at most one due answer.
use Rattle.std.proofs.Common.{◌≡◌, ℕ, ◌<◌, List, [], ◌∷◌, ◌++◌, true, false, Some, length, slice_get, refl, sym, ap, subst, ◌∙◌, inl, inr, arith, length-append}
use Rattle.std.proofs.lemmas.Bool.{cases_order}
use Rattle.argos_base.specs.Names.{Spelled}
use Rattle.argos_base.specs.Orders.{IsEarlier, digits}
use Rattle.argos_base.specs.SignalSets.{SignalSet}
use Rattle.argos_core.specs.Automata.{register_count}
use Rattle.argos_core.specs.FirstBad.{ReactsCoded}
use Rattle.argos_core.specs.Overlaps.{IsGood}
use Rattle.argos_core.specs.Process.{PlainModule}
use Rattle.argos_core.specs.Reactions.{input_count, Reacts}
use Rattle.argos_core.proofs.CodesDiffer.{length-code_of, same_code}
use Rattle.bisim_verdict.specs.Bisimulation.{Related, IsBisimulation, IsFirstForeign, OutputsDiffer, SomeDiffers, LeavesRelation, pair_key, IsLeastCase, EquivAnswer, accept, interfaces, start, outputs, leaves, IsEquivAnswer}
use Rattle.argos_congruence.specs.Congruence.{is_shared, all_names, HaveSameNames, ReactTogether}
use Rattle.bisim_verdict.specs.Laws.{OneIsDue}
use Rattle.bisim_formula.specs.Formulas.{Formula, related}
use Rattle.argos_congruence.specs.NamedSets.{has_name}
use Rattle.argos_congruence.proofs.Naming.{same_is_moved}
use Rattle.eqn_completion.proofs.Ordering.{earlier_total, digits-same, length-digits}
use Rattle.argos_congruence.proofs.SharedNames.{distinct_first}

neither_earlier : (xs ys : List ℕ) → length xs ≡ length ys → ¬ (IsEarlier xs ys) → ¬ (IsEarlier ys xs) → xs ≡ ys
neither_earlier xs ys e h k = elim (earlier_total xs ys e) [ inl same ↦ same | inr other ↦ absurd (elim other [ inl l ↦ h l | inr l ↦ k l ]) ]

parts : (a b c d : List ℕ) → length a ≡ length c → a ++ b ≡ c ++ d → (a ≡ c) × (b ≡ d)
parts [] b [] d l e = (refl, e)
parts [] b (x ∷ c) d l e = absurd (omega arith)
parts (x ∷ a) b [] d l e = absurd (omega arith)
parts (x ∷ a) b (y ∷ c) d l e =
    let t : a ++ b ≡ c ++ d = cc in
    let r = parts a b c d (omega arith) t in
    (cc, r.1)

-- memories and input sets of one size with one key are the same
record SameCase (m n a b : List ℕ) (i j : SignalSet) : Type 0 where
  left : m ≡ a
  right : n ≡ b
  input : i ≡ j

same_key : (m n a b : List ℕ) (i j : SignalSet) → length m ≡ length a → length n ≡ length b → pair_key m n i ≡ pair_key a b j → SameCase m n a b i j
same_key m n a b i j e f h =
    let first = parts (m ++ n) (digits i) (a ++ b) (digits j) (omega (arith, length-append m n, length-append a b)) h in
    let second = parts m n a b e first.0 in
    record { left = second.0; right = second.1; input = digits-same i j first.1 }

pub length-key : (m n a b : List ℕ) (i j : SignalSet) → length m ≡ length a → length n ≡ length b → length i ≡ length j
    → length (pair_key m n i) ≡ length (pair_key a b j)
length-key m n a b i j e f g = omega (arith, length-append (m ++ n) (digits i), length-append m n, length-append (a ++ b) (digits j), length-append a b, length-digits i, length-digits j)

-- memories of a case
pub record AreSizedFor (P Q : PlainModule) (m n : List ℕ) (i : SignalSet) : Type 0 where
  pub left : length m ≡ register_count P.process
  pub right : length n ≡ register_count Q.process
  pub input : length i ≡ input_count P

sized_for : (F : Formula) (P Q : PlainModule) (m n : List ℕ) (i j o p : SignalSet) (m' n' : List ℕ)
    → ReactTogether (Related F P Q) P Q m n i j o p m' n' → AreSizedFor P Q m n i
sized_for F P Q m n i j o p m' n' r = record {
  left = sym (ap length r.left.from) ∙ length-code_of P.process r.left.configuration r.left.is;
  right = sym (ap length r.right.from) ∙ length-code_of Q.process r.right.configuration r.right.is;
  input = r.left.reacts.input;
}

one_least : (P Q : PlainModule) (Is : List ℕ → List ℕ → SignalSet → Type 0) → ((m n : List ℕ) (i : SignalSet) → Is m n i → AreSizedFor P Q m n i)
    → (m n a b : List ℕ) (i j : SignalSet) → IsLeastCase Is m n i → IsLeastCase Is a b j → SameCase m n a b i j
one_least P Q Is sizes m n a b i j x y =
    let s = sizes m n i x.is in
    let t = sizes a b j y.is in
    let e : length m ≡ length a = s.left ∙ sym t.left in
    let f : length n ≡ length b = s.right ∙ sym t.right in
    same_key m n a b i j e f (neither_earlier (pair_key m n i) (pair_key a b j) (length-key m n a b i j e f (s.input ∙ sym t.input)) (y.first m n i x.is) (x.first a b j y.is))

-- a good program reacts in one way
same_outputs : (R : PlainModule) (m : List ℕ) (i o p : SignalSet) (m' n' : List ℕ) → IsGood R → ReactsCoded R m i o m' → ReactsCoded R m i p n' → o ≡ p
same_outputs R m i o p m' n' good x y =
    let c : y.configuration ≡ x.configuration = same_code R.process y.configuration x.configuration y.is x.is (y.from ∙ sym x.from) in
    let one = good.one x.configuration i x.is x.reacts.input in
    let y' : Reacts R x.configuration i p y.next = subst (λ d. Reacts R d i p y.next) c y.reacts in
    (one.only o x.next x.reacts).0 ∙ sym (one.only p y.next y').0

-- two places at which something fails, each the first, hold the same
first_same : (names : List Spelled) (j k : ℕ) (name other : Spelled) → (Fails : Spelled → Type 0)
    → slice_get names j ≡ Some name → slice_get names k ≡ Some other → (j < k → ⊥) → (k < j → ⊥) → name ≡ other
first_same names j k name other Fails at there before behind = elim (cases_order j k) [
  | inl h ↦ let e : slice_get names k ≡ Some name = subst (λ (n : ℕ). slice_get names n ≡ Some name) h at in cc
  | inr other ↦ absurd (elim other [ inl h ↦ before h | inr h ↦ behind h ])
]

one_foreign : (P Q : PlainModule) (name other : Spelled) → IsFirstForeign P Q name → IsFirstForeign P Q other → name ≡ other
one_foreign P Q name other x y = first_same (all_names P Q) x.place y.place name other (λ n. is_shared P Q n ≡ false) x.at y.at (λ h. let z = y.first x.place name h x.at in let f = x.foreign in cc (z, f)) (λ h. let z = x.first y.place other h y.at in let f = y.foreign in cc (z, f))

one_name : (F : Formula) (P Q : PlainModule) (m n : List ℕ) (i : SignalSet) (name other : Spelled) → IsGood P → IsGood Q
    → OutputsDiffer F P Q m n i name → OutputsDiffer F P Q m n i other → name ≡ other
one_name F P Q m n i name other p_good q_good x y =
    let d = distinct_first Q.inputs Q.outputs q_good.program.is.names in
    let js : x.j ≡ y.j = same_is_moved P.inputs Q.inputs i x.j d x.react.right.reacts.input x.react.same ∙ sym (same_is_moved P.inputs Q.inputs i y.j d y.react.right.reacts.input y.react.same) in
    let os : x.o ≡ y.o = same_outputs P m i x.o y.o x.m' y.m' p_good x.react.left y.react.left in
    let ps : x.p ≡ y.p = same_outputs Q n y.j x.p y.p x.n' y.n' q_good (subst (λ s. ReactsCoded Q n s x.p x.n') js x.react.right) y.react.right in
    first_same P.outputs x.place y.place name other (λ n. Unit {0}) x.at y.at
    (λ h. x.differ (ap (λ s. has_name P.outputs s name) os ∙ y.first x.place name h x.at ∙ ap (λ s. has_name Q.outputs s name) (sym ps)))
    (λ h. y.differ (ap (λ s. has_name P.outputs s other) (sym os) ∙ x.first y.place other h y.at ∙ ap (λ s. has_name Q.outputs s other) ps))

-- a name that isn't shared, and no such name
foreign_or_same : (P Q : PlainModule) (name : Spelled) → IsFirstForeign P Q name → HaveSameNames P Q → ⊥
foreign_or_same P Q name x h = let z = h x.place name x.at in let f = x.foreign in cc (z, f)

-- outputs that differ are no bisimulation, and neither is a relation that is left
differ_or_same : (F : Formula) (P Q : PlainModule) (m n : List ℕ) (i : SignalSet) → SomeDiffers F P Q m n i → IsBisimulation F P Q → ⊥
differ_or_same F P Q m n i (name, x) b = x.differ (b.outputs m n i x.j x.o x.p x.m' x.n' x.react name)

leaves_or_stays : (F : Formula) (P Q : PlainModule) (m n : List ℕ) (i : SignalSet) → LeavesRelation F P Q m n i → IsBisimulation F P Q → ⊥
leaves_or_stays F P Q m n i x b = let z : related P Q F x.m' x.n' ≡ true = b.stays m n i x.j x.o x.p x.m' x.n' x.react in let f = x.unrelated in cc (z, f)

pub sized_differs : (F : Formula) (P Q : PlainModule) (m n : List ℕ) (i : SignalSet) → SomeDiffers F P Q m n i → AreSizedFor P Q m n i
sized_differs F P Q m n i (name, x) = sized_for F P Q m n i x.j x.o x.p x.m' x.n' x.react

pub sized_leaves : (F : Formula) (P Q : PlainModule) (m n : List ℕ) (i : SignalSet) → LeavesRelation F P Q m n i → AreSizedFor P Q m n i
sized_leaves F P Q m n i x = sized_for F P Q m n i x.j x.o x.p x.m' x.n' x.react

module _ (F : Formula) (P Q : PlainModule) (p_good : IsGood P) (q_good : IsGood Q) where
  one_answer : (a b : EquivAnswer) → IsEquivAnswer F P Q a → IsEquivAnswer F P Q b → a ≡ b
  one_answer (interfaces name) (interfaces other) x y = ap interfaces (one_foreign P Q name other x y)
  one_answer (interfaces name) start x y = absurd (foreign_or_same P Q name x y.0)
  one_answer (interfaces name) (outputs m n i other) x y = absurd (foreign_or_same P Q name x y.0)
  one_answer (interfaces name) (leaves m n i) x y = absurd (foreign_or_same P Q name x y.0)
  one_answer (interfaces name) accept x y = absurd (foreign_or_same P Q name x y.0)
  one_answer start (interfaces name) x y = absurd (foreign_or_same P Q name y x.0)
  one_answer start start x y = refl
  one_answer start (outputs m n i name) x y = absurd (x.1 y.1)
  one_answer start (leaves m n i) x y = absurd (x.1 y.1)
  one_answer start accept x y = absurd (x.1 y.1.start)
  one_answer (outputs m n i name) (interfaces other) x y = absurd (foreign_or_same P Q other y x.0)
  one_answer (outputs m n i name) start x y = absurd (y.1 x.1)
  one_answer (outputs m n i name) (outputs a b j other) x y =
      let s = one_least P Q (SomeDiffers F P Q) (sized_differs F P Q) m n a b i j x.2 y.2 in
      let there : OutputsDiffer F P Q m n i other = subst (λ (l : List ℕ). OutputsDiffer F P Q l n i other) (sym s.left) (subst (λ (l : List ℕ). OutputsDiffer F P Q a l i other) (sym s.right) (subst (λ (l : SignalSet). OutputsDiffer F P Q a b l other) (sym s.input) y.3)) in
      let e : name ≡ other = one_name F P Q m n i name other p_good q_good x.3 there in
      cc (s.left, s.right, s.input, e)
  one_answer (outputs m n i name) (leaves a b j) x y = absurd (y.2 m n i x.2.is)
  one_answer (outputs m n i name) accept x y = absurd (differ_or_same F P Q m n i x.2.is y.1)
  one_answer (leaves m n i) (interfaces other) x y = absurd (foreign_or_same P Q other y x.0)
  one_answer (leaves m n i) start x y = absurd (y.1 x.1)
  one_answer (leaves m n i) (outputs a b j name) x y = absurd (x.2 a b j y.2.is)
  one_answer (leaves m n i) (leaves a b j) x y =
      let s = one_least P Q (LeavesRelation F P Q) (sized_leaves F P Q) m n a b i j x.3 y.3 in
      cc (s.left, s.right, s.input)
  one_answer (leaves m n i) accept x y = absurd (leaves_or_stays F P Q m n i x.3.is y.1)
  one_answer accept (interfaces other) x y = absurd (foreign_or_same P Q other y x.0)
  one_answer accept start x y = absurd (y.1 x.1.start)
  one_answer accept (outputs m n i name) x y = absurd (differ_or_same F P Q m n i y.2.is x.1)
  one_answer accept (leaves m n i) x y = absurd (leaves_or_stays F P Q m n i y.3.is x.1)
  one_answer accept accept x y = refl

pub one_is_due : OneIsDue
one_is_due F P Q a b p_good q_good x y = one_answer F P Q p_good q_good a b x y
