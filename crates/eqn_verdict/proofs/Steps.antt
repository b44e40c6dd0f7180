-- The steps over diagrams.
use Rattle.std.proofs.Common.{◌≡◌, ℕ, zero, suc, ◌+◌, ◌-◌, ◌<◌, ◌≤◌, List, [], ◌∷◌, ◌++◌, Bool, true, false, ◌&&◌, not, Some, refl, sym, ap, ◌∙◌, inl, inr, subst, arith, length, take, drop, set, get_or, length-append, append_assoc}
use Rattle.std.specs.List.{slice_get}
use Rattle.std.proofs.lemmas.Bool.{cases_lt}
use Rattle.std.proofs.lemmas.List.{ext_get_or, get_or_append_left, get_or-take, length-take-le, length-drop, take-append-drop, take_more}
use Rattle.std.proofs.lemmas.Option.{slice_get_within}
use Rattle.argos_base.specs.Orders.{IsEarlier, digit, digits}
use Rattle.argos_base.specs.SignalSets.{SignalSet, has}
use Rattle.argos_base.proofs.Bools.{true_or_false, and_first, and_second, and_both, is_false}
use Rattle.dd_core.specs.Functions.{AreEqual, constant}
use Rattle.dd_ops.specs.Quantified.{HoldsSomewhere}
use Rattle.eqn_verdict.specs.Diagrams.{ExistsIsSome, LeastIsFirst, NoneIsFalse, are_same, pinned_at, PinnedIsFalse, LeastDigit, PartlyNext, RootsAreLeast}
use Rattle.eqn_verdict.specs.Searching.{Test, some, least}
use Rattle.eqn_completion.proofs.Ordering.{not_both, not_itself, earlier_front, digits-append}
use Rattle.eqn_verdict.proofs.Searches.{some-holds, some-from, some-none}

past : (xs : List Bool) (k : ℕ) → length xs ≤ k → get_or xs k false ≡ false
past [] k h = refl
past (x ∷ xs) zero h = absurd (omega arith)
past (x ∷ xs) (suc k) h = past xs k (omega arith)

same_test : (a b : Bool) → (a ≡ true → b ≡ true) → (b ≡ true → a ≡ true) → a ≡ b
same_test true b f g = sym (f refl)
same_test false true f g = g refl
same_test false false f g = refl

pub exists_is_some : ExistsIsSome
exists_is_some a c vars g h f from is splits y x ys xs = same_test (h (y ++ x)) (some c (f y)) there back
  where
    sized : length (y ++ x) ≡ a + c
    sized = omega (arith, length-append y x)

    there : h (y ++ x) ≡ true → some c (f y) ≡ true
    there t =
        let w : HoldsSomewhere (a + c) vars g (y ++ x) = (is (y ++ x) sized).0 t in
        let front-sized : length (take a w.values) ≡ a = length-take-le a w.values (omega (arith, w.sized)) in
        let front : take a w.values ≡ y = ext_get_or false (take a w.values) y (front-sized ∙ sym ys) (λ k low.
        get_or-take a w.values k false (omega arith) ∙ w.agree k (λ has. let r = (from k).0 has in let lo = r.0 in omega arith) ∙ get_or_append_left y x false k (omega arith)) in
        let back-sized : length (drop a w.values) ≡ c = omega (arith, length-drop a w.values, w.sized) in
        some-from c (f y) (drop a w.values) back-sized (sym (splits y (drop a w.values) ys back-sized) ∙ ap (λ (z : List Bool). g (z ++ drop a w.values)) (sym front) ∙ ap g (take-append-drop a w.values) ∙ w.holds)

    back : some c (f y) ≡ true → h (y ++ x) ≡ true
    back t =
        let p = some-holds c (f y) t in
        (is (y ++ x) sized).1 (record {
          values = y ++ p.values;
          sized = omega (arith, length-append y p.values, p.sized);
          agree = λ k other. elim (cases_lt k a) [
            | inl low ↦ get_or_append_left y p.values false k (omega arith) ∙ sym (get_or_append_left y x false k (omega arith))
            | inr high ↦ elim (cases_lt k (a + c)) [
              | inl within ↦ absurd (other ((from k).1 (high, within)))
              | inr beyond ↦ past (y ++ p.values) k (omega (arith, length-append y p.values, p.sized)) ∙ sym (past (y ++ x) k (omega (arith, sized)))
            ]
          ];
          holds = splits y p.values ys p.sized ∙ p.passes;
        })

-- what is before is earlier
before-earlier : (place : ℕ) (x y : List Bool) → take place x ≡ take place y → slice_get x place ≡ Some false → slice_get y place ≡ Some true → IsEarlier (digits x) (digits y)
before-earlier zero [] y e h k = absurd (let q = slice_get_within [] 0 false h in omega arith)
before-earlier zero (a ∷ x) [] e h k = absurd (let q = slice_get_within [] 0 true k in omega arith)
before-earlier zero (a ∷ x) (b ∷ y) e h k = let p : a ≡ false = cc in let q : b ≡ true = cc in rw (p, q) (inl (omega arith))
before-earlier (suc place) [] y e h k = absurd (let q = slice_get_within [] (suc place) false h in omega arith)
before-earlier (suc place) (a ∷ x) [] e h k = absurd (let q = slice_get_within [] (suc place) true k in omega arith)
before-earlier (suc place) (a ∷ x) (b ∷ y) e h k =
    let p : a ≡ b = cc in
    let q : take place x ≡ take place y = cc in
    inr (ap digit p, before-earlier place x y q h k)

pub least_is_first : LeastIsFirst
least_is_first a c h f z splits is =
    let y : SignalSet = take a z in
    let x : SignalSet = drop a z in
    let ys : length y ≡ a = length-take-le a z (omega (arith, is.sized)) in
    let xs : length x ≡ c = omega (arith, length-drop a z, is.sized) in
    let whole : y ++ x ≡ z = take-append-drop a z in
    record {
      sized = ys;
      passes = sym (splits y x ys xs) ∙ ap h whole ∙ is.holds;
      first = λ o os passes earlier.
          let longer : IsEarlier (digits (o ++ x)) (digits z) =
          subst (λ (w : SignalSet). IsEarlier (digits (o ++ x)) (digits w)) whole
          (subst (λ (w : List ℕ). IsEarlier w (digits (y ++ x))) (sym (digits-append o x))
          (subst (λ (w : List ℕ). IsEarlier (digits o ++ digits x) w) (sym (digits-append y x)) (earlier_front (digits o) (digits y) (digits x) (digits x) earlier))) in
          elim (is.first (o ++ x) (omega (arith, length-append o x)) (splits o x os xs ∙ passes)) [
            | inl same ↦ not_itself (digits z) (subst (λ (w : SignalSet). IsEarlier (digits w) (digits z)) same longer)
            | inr before ↦ not_both (digits z) (digits (o ++ x)) (before-earlier before.place z (o ++ x) before.same before.here before.there) longer
          ];
    }

falses : (n : ℕ) → (x : SignalSet) × (length x ≡ n)
falses zero = ([], refl)
falses (suc n) = let r = falses n in (false ∷ r.0, ap suc r.1)

pub none_is_false : NoneIsFalse
none_is_false a c h f splits never y ys =
    let x = falses c in
    sym (splits y x.0 ys x.1) ∙ never (y ++ x.0) (omega (arith, length-append y x.0, x.1))

same-itself : (z : SignalSet) → are_same z z ≡ true
same-itself [] = refl
same-itself (true ∷ z) = same-itself z
same-itself (false ∷ z) = same-itself z

same-tells : (y z : SignalSet) → are_same y z ≡ true → y ≡ z
same-tells [] [] h = refl
same-tells [] (b ∷ z) h = cc
same-tells (a ∷ y) [] h = cc
same-tells (true ∷ y) (true ∷ z) h = ap (λ (l : SignalSet). true ∷ l) (same-tells y z h)
same-tells (false ∷ y) (false ∷ z) h = ap (λ (l : SignalSet). false ∷ l) (same-tells y z h)
same-tells (true ∷ y) (false ∷ z) h = cc
same-tells (false ∷ y) (true ∷ z) h = cc

pub pinned_is_false : PinnedIsFalse
pinned_is_false a c g f z zs splits = (there, back)
  where
    there : AreEqual (a + c) g (constant false) → some c (f z) ≡ false
    there e = is_false (some c (f z)) (λ t.
        let p = some-holds c (f z) t in
        let at : g (z ++ p.values) ≡ true = splits z p.values zs p.sized ∙ and_both _ _ (same-itself z) p.passes in
        let off : g (z ++ p.values) ≡ false = e (z ++ p.values) (omega (arith, length-append z p.values, p.sized)) in
        absurd (let w : true ≡ false = sym at ∙ off in cc))

    back : some c (f z) ≡ false → AreEqual (a + c) g (constant false)
    back n v vs = is_false (g v) (λ t.
        let ys : length (take a v) ≡ a = length-take-le a v (omega (arith, vs)) in
        let xs : length (drop a v) ≡ c = omega (arith, length-drop a v, vs) in
        let on : pinned_at z f (take a v) (drop a v) ≡ true = sym (splits (take a v) (drop a v) ys xs) ∙ ap g (take-append-drop a v) ∙ t in
        let same : take a v ≡ z = same-tells (take a v) z (and_first _ _ on) in
        some-none c (f z) (drop a v) n xs (ap (λ (w : SignalSet). f w (drop a v)) (sym same) ∙ and_second (are_same (take a v) z) _ on))

pub least_digit : LeastDigit
least_digit zero j f h = absurd (omega arith)
least_digit (suc c) zero f h = elim (true_or_false (some c (λ x. f (false ∷ x)))) [
  | inl y ↦ rw y (sym (ap not (ap (λ (n : ℕ). some n (λ x. f (false ∷ x))) (let z : suc c - 1 ≡ c = omega arith in z) ∙ y)))
  | inr n ↦ rw n (sym (ap not (ap (λ (k : ℕ). some k (λ x. f (false ∷ x))) (let z : suc c - 1 ≡ c = omega arith in z) ∙ n)))
]
least_digit (suc c) (suc j) f h = elim (true_or_false (some c (λ x. f (false ∷ x)))) [
  | inl y ↦ rw y (least_digit c j (λ x. f (false ∷ x)) (omega arith) ∙ ap (λ (n : ℕ). not (some n (λ x. f (false ∷ (take j (least c (λ x. f (false ∷ x))) ++ false ∷ x))))) (let z : c - suc j ≡ suc c - suc (suc j) = omega arith in z))
  | inr n ↦ rw n (least_digit c j (λ x. f (true ∷ x)) (omega arith) ∙ ap (λ (n : ℕ). not (some n (λ x. f (true ∷ (take j (least c (λ x. f (true ∷ x))) ++ false ∷ x))))) (let z : c - suc j ≡ suc c - suc (suc j) = omega arith in z))
]

pub length-least : (c : ℕ) (f : Test) → length (least c f) ≡ c
length-least zero f = refl
length-least (suc c) f = elim (true_or_false (some c (λ x. f (false ∷ x)))) [
  | inl y ↦ rw y (ap suc (length-least c (λ x. f (false ∷ x))))
  | inr n ↦ rw n (ap suc (length-least c (λ x. f (true ∷ x))))
]

drop-set : (x : SignalSet) (j : ℕ) (b : Bool) → j < length x → drop j (set x j b) ≡ b ∷ drop (suc j) x
drop-set [] j b h = absurd (omega arith)
drop-set (a ∷ x) zero b h = refl
drop-set (a ∷ x) (suc j) b h = drop-set x j b (omega arith)

pub partly_next : PartlyNext
partly_next c j f y x h xs =
    let l = least c (f y) in
    let one : take (suc j) l ≡ take j l ++ has l j ∷ [] = ap (λ (n : ℕ). take n l) (let z : suc j ≡ j + 1 = omega arith in z) ∙ take_more l j false (omega (arith, length-least c (f y))) in
    ap (f y) (ap (λ (w : SignalSet). w ++ drop (suc j) x) one ∙ append_assoc (take j l) (has l j ∷ []) (drop (suc j) x) ∙ ap (λ (w : SignalSet). take j l ++ w) (sym (drop-set x j (has l j) (omega arith))))

pub roots_are_least : RootsAreLeast
roots_are_least c j structural consistent y low all = of_value (structural y) refl
  where
    of_value : (b : Bool) → structural y ≡ b → (structural y && not (some (c - suc j) (λ x. structural y && consistent y (take j (least c (λ z. structural y && consistent y z)) ++ false ∷ x)))) ≡ (structural y && (some c (consistent y) && has (least c (consistent y)) j))
    of_value false e = rw e refl
    of_value true e = let s = all e in rw (e, s) (sym (least_digit c j (consistent y) low))
