-- The order of points is that of memories and inputs.
use Rattle.std.proofs.Common.{◌≡◌, ℕ, zero, suc, ◌+◌, List, [], ◌∷◌, ◌++◌, Bool, true, false, Some, length, take, slice_get, sym, ap, subst, ◌∙◌, inl, inr, arith, length-append, append_assoc}
use Rattle.argos_base.specs.Orders.{IsEarlier, digit, digits}
use Rattle.argos_base.specs.SignalSets.{SignalSet}
use Rattle.eqn_completion.specs.Binary.{in_binary, digits_in, FitsIn}
use Rattle.eqn_completion.proofs.Ordering.{earlier_front, earlier_behind, earlier_cases, digits-append, length-digits, length-binary, memory-earlier}
use Rattle.bisim_verdict.specs.Bisimulation.{pair_key}
use Rattle.bisim_verdict.specs.EquivTests.{point}

-- values that stand before others come earlier as digits
pub before_is_earlier : (x y : List Bool) (k : ℕ) → take k x ≡ take k y → slice_get x k ≡ Some false → slice_get y k ≡ Some true
    → IsEarlier (digits x) (digits y)
before_is_earlier [] y k e h g = cc
before_is_earlier (b ∷ x) [] k e h g = cc
before_is_earlier (b ∷ x) (c ∷ y) zero e h g =
    let f : b ≡ false = cc in
    let t : c ≡ true = cc in
    let bz : digit b ≡ 0 = ap digit f in
    let co : digit c ≡ 1 = ap digit t in
    inl (omega arith)
before_is_earlier (b ∷ x) (c ∷ y) (suc k) e h g =
    let same : b ≡ c = cc in
    let rest : take k x ≡ take k y = cc in
    inr (ap digit same, before_is_earlier x y k rest h g)

digits_of_point : (lefts rights m n : List ℕ) (i : SignalSet)
    → digits (point lefts rights m n i) ≡ digits (in_binary lefts m) ++ (digits (in_binary rights n) ++ digits i)
digits_of_point lefts rights m n i = digits-append (in_binary lefts m) (in_binary rights n ++ i) ∙ ap (λ (s : List ℕ). digits (in_binary lefts m) ++ s) (digits-append (in_binary rights n) i)

-- what stands behind the digits of a memory in numbers as well
tail_earlier : (rights b n ds es : List ℕ) (front other : List ℕ) → FitsIn rights b → FitsIn rights n → length front ≡ length other
    → IsEarlier (front ++ (b ++ ds)) (other ++ (n ++ es)) → IsEarlier (front ++ (digits (in_binary rights b) ++ ds)) (other ++ (digits (in_binary rights n) ++ es))
tail_earlier rights b n ds es front other fb fn long h = elim (earlier_cases front other (b ++ ds) (n ++ es) long h) [
  | inl first ↦ earlier_front front other _ _ first
  | inr rest ↦ subst (λ (s : List ℕ). IsEarlier (front ++ (digits (in_binary rights b) ++ ds)) (s ++ (digits (in_binary rights n) ++ es))) rest.0 (earlier_behind front _ _ (memory-earlier rights b n ds es fb fn rest.1))
]

-- an earlier case has an earlier point
pub point_earlier : (lefts rights a b m n : List ℕ) (j i : SignalSet) → FitsIn lefts a → FitsIn rights b → FitsIn lefts m → FitsIn rights n
    → IsEarlier (pair_key a b j) (pair_key m n i) → IsEarlier (digits (point lefts rights a b j)) (digits (point lefts rights m n i))
point_earlier lefts rights a b m n j i fa fb fm fn h =
    let k : IsEarlier (a ++ (b ++ digits j)) (m ++ (n ++ digits i)) = subst (λ (s : List ℕ). IsEarlier s (m ++ (n ++ digits i))) (append_assoc a b (digits j)) (subst (λ (s : List ℕ). IsEarlier (pair_key a b j) s) (append_assoc m n (digits i)) h) in
    let first = memory-earlier lefts a m (b ++ digits j) (n ++ digits i) fa fm k in
    let long : length (digits (in_binary lefts a)) ≡ length (digits (in_binary lefts m)) = length-digits (in_binary lefts a) ∙ length-binary lefts a fa ∙ sym (length-binary lefts m fm) ∙ sym (length-digits (in_binary lefts m)) in
    let e = tail_earlier rights b n (digits j) (digits i) (digits (in_binary lefts a)) (digits (in_binary lefts m)) fb fn long first in
    subst (λ (s : List ℕ). IsEarlier s (digits (point lefts rights m n i))) (sym (digits_of_point lefts rights a b j)) (subst (λ (s : List ℕ). IsEarlier (digits (in_binary lefts a) ++ (digits (in_binary rights b) ++ digits j)) s) (sym (digits_of_point lefts rights m n i)) e)

pub length-point : (lefts rights m n : List ℕ) (i : SignalSet) (k : ℕ) → FitsIn lefts m → FitsIn rights n → length i ≡ k
    → length (point lefts rights m n i) ≡ digits_in lefts + (digits_in rights + k)
length-point lefts rights m n i k f g e = omega (arith, length-append (in_binary lefts m) (in_binary rights n ++ i), length-append (in_binary rights n) i, length-binary lefts m f, length-binary rights n g)
