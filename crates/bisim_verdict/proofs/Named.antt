-- The places of both programs name different variables.
use Rattle.std.proofs.Common.{◌≡◌, ◌≢◌, ℕ, zero, suc, ◌+◌, ◌-◌, ◌<◌, ◌≤◌, List, [], ◌∷◌, ◌++◌, Some, false, nat_eq, All, length, map, get_or, slice_get, refl, sym, ap, subst, ◌∙◌, inl, inr, arith, append-nil}
use Rattle.std.specs.List.{IsDistinct, range_with_len}
use Rattle.std.proofs.lemmas.Bool.{cases_lt}
use Rattle.std.proofs.lemmas.Bool.Decides.{nat_tests}
use Rattle.std.proofs.lemmas.List.{length-map, get_or-map, get_or_append_left, get_or-append-add, length-append}
use Rattle.std.proofs.lemmas.List.Elements.{All-append}
use Rattle.std.proofs.lemmas.List.FromFn.{length-range_with_len, get_or-range_with_len}
use Rattle.std.proofs.lemmas.Map.Keys.{IsDistinct-from_apart, apart_from_distinct}
use Rattle.std.proofs.lemmas.Option.{slice_get-get_or, slice_get_within}
use Rattle.argos_base.specs.Names.{Spelled, AreDistinct, place_of}
use Rattle.argos_core.specs.Reactions.{input_count}
use Rattle.argos_congruence.specs.NamedSets.{number_or_zero}
use Rattle.argos_congruence.proofs.Naming.{AreAmong, Stands, stands, is_listed, place_found}
use Rattle.argos_congruence.proofs.SharedNames.{share_inputs_back, distinct_first}
use Rattle.eqn_completion.specs.Binary.{digits_in}
use Rattle.eqn_core.specs.Equations.{Equations, registers}
use Rattle.eqn_dd.specs.declared.places.Places.{Places}
use Rattle.eqn_dd.specs.Placed.{Register, NamesRegisters, NamesVariables, all_variables, register_variables, registers_from}
use Rattle.bisim_verdict.specs.EquivFunctions.{moved_variables}
use Rattle.bisim_verdict.specs.Laws.{PlacedTogetherAreNamed}

apart : (j k : ℕ) → j ≢ k → nat_eq j k ≡ false
apart j k h = grind (arith, nat_tests)

-- ---- variables in turn

range-append : (a m n t j : ℕ) → m + n ≡ t → a + m ≡ j → range_with_len a t ≡ range_with_len a m ++ range_with_len j n
range-append a zero n t j whole next =
    let same : t ≡ n = omega arith in
    let here : a ≡ j = omega arith in
    ap (range_with_len a) same ∙ ap (λ (k : ℕ). range_with_len k n) here
range-append a (suc m) n zero j whole next = absurd (omega arith)
range-append a (suc m) n (suc t) j whole next = ap (λ (l : List ℕ). a ∷ l) (range-append (a + 1) m n t j (omega arith) (omega arith))

registers-range : (k : ℕ) (widths : List ℕ) → register_variables (registers_from k widths) ≡ range_with_len k (digits_in widths)
registers-range k [] = refl
registers-range k (w ∷ widths) =
    ap (λ (l : List ℕ). range_with_len k w ++ l) (registers-range (k + w) widths)
    ∙ sym (range-append k w (digits_in widths) (w + digits_in widths) (k + w) refl refl)

registers-narrow : (k : ℕ) (widths : List ℕ) → All (λ w. w ≤ 16) widths → All (λ (r : Register). r.1 ≤ 16) (registers_from k widths)
registers-narrow k [] narrow i d below = absurd (omega arith)
registers-narrow k (w ∷ widths) narrow zero d below = narrow 0 w (omega arith)
registers-narrow k (w ∷ widths) narrow (suc i) d below = registers-narrow (k + w) widths (λ j e low. narrow (suc j) e (omega arith)) i d (omega arith)

registers-sized : (k : ℕ) (widths : List ℕ) → length (registers_from k widths) ≡ length widths
registers-sized k [] = refl
registers-sized k (w ∷ widths) = ap suc (registers-sized (k + w) widths)

-- ---- different numbers from one on and below another

record AreWithin (from to : ℕ) (ks : List ℕ) : Type 0 where
  above : All (λ k. from ≤ k) ks
  below : All (λ k. k < to) ks
  different : IsDistinct nat_eq ks

range-within : (a n to : ℕ) → a + n ≤ to → AreWithin a to (range_with_len a n)
range-within a n to room = record {
  above = λ k d low. omega (arith, get_or-range_with_len a n k d (inside k low));
  below = λ k d low. omega (arith, inside k low, get_or-range_with_len a n k d (inside k low));
  different = IsDistinct-from_apart nat_eq (range_with_len a n) (λ i j d less low.
      apart (get_or (range_with_len a n) i d) (get_or (range_with_len a n) j d) (λ e. omega (arith, get_or-range_with_len a n i d (inside i (omega arith)), get_or-range_with_len a n j d (inside j low))));
}
  where
    inside : (k : ℕ) → k < length (range_with_len a n) → k < n
    inside k low = omega (arith, length-range_with_len a n)

-- numbers below some, and then numbers from there on
joined : {a b c d : ℕ} {xs ys : List ℕ} → b ≤ c → b ≤ d → a ≤ c → AreWithin a b xs → AreWithin c d ys → AreWithin a d (xs ++ ys)
joined {a} {b} {c} {d} {xs} {ys} fit wide over first second = record {
  above = All-append (λ k. a ≤ k) xs ys first.above (λ k e low. omega (arith, second.above k e low));
  below = All-append (λ k. k < d) xs ys (λ k e low. omega (arith, first.below k e low)) second.below;
  different = IsDistinct-from_apart nat_eq (xs ++ ys) (λ i j e less low. elim (cases_lt j (length xs)) [
    | inl old ↦ at_both i j e (get_or_append_left xs ys e i (omega arith)) (get_or_append_left xs ys e j old) (apart_from_distinct nat_eq xs i j e first.different less old)
    | inr new ↦
        let there : j - length xs < length ys = omega (arith, length-append xs ys) in
        let right : get_or (xs ++ ys) j e ≡ get_or ys (j - length xs) e = behind j e new in
        elim (cases_lt i (length xs)) [
          | inl old ↦ at_both i j e (get_or_append_left xs ys e i old) right (apart (get_or xs i e) (get_or ys (j - length xs) e) (λ same. omega (arith, first.below i e old, second.above (j - length xs) e there)))
          | inr later ↦ at_both i j e (behind i e later) right (apart_from_distinct nat_eq ys (i - length xs) (j - length xs) e second.different (omega arith) there)
        ]
  ]);
}
  where
    at_both : (i j e : ℕ) {u v : ℕ} → get_or (xs ++ ys) i e ≡ u → get_or (xs ++ ys) j e ≡ v → nat_eq u v ≡ false
        → nat_eq (get_or (xs ++ ys) i e) (get_or (xs ++ ys) j e) ≡ false
    at_both i j e {u} {v} f g h = ap (λ (k : ℕ). nat_eq k (get_or (xs ++ ys) j e)) f ∙ ap (nat_eq u) g ∙ h

    behind : (k e : ℕ) → length xs ≤ k → get_or (xs ++ ys) k e ≡ get_or ys (k - length xs) e
    behind k e h = ap (λ (n : ℕ). get_or (xs ++ ys) n e) (let z : k ≡ length xs + (k - length xs) = omega arith in z) ∙ get_or-append-add xs ys (k - length xs) e

-- ---- variables by name

-- the other program's inputs are different ones of the first program's inputs
moved-within : (first : ℕ) (from to : List Spelled) → AreAmong to from → AreDistinct to
    → AreWithin first (first + length from) (map (λ name. first + number_or_zero (place_of from name)) to)
moved-within first from to among distinct = record {
  above = λ k d low. omega (arith, is k d (inside k low));
  below = λ k d low. omega (arith, is k d (inside k low), found k (inside k low));
  different = IsDistinct-from_apart nat_eq (map variable to) (λ i j d less low.
      apart (get_or (map variable to) i d) (get_or (map variable to) j d) (λ e. different i j less (inside j low) (omega (arith, is i d (omega (arith, inside j low)), is j d (inside j low)))));
}
  where
    variable : Spelled → ℕ
    variable name = first + number_or_zero (place_of from name)

    inside : (k : ℕ) → k < length (map variable to) → k < length to
    inside k low = omega (arith, length-map to variable)

    name_at : ℕ → Spelled
    name_at k = get_or to k []

    there : (k : ℕ) → k < length to → slice_get to k ≡ Some (name_at k)
    there k low = slice_get-get_or to k [] low

    stand : (k : ℕ) → k < length to → Stands from (name_at k)
    stand k low = stands from (name_at k) (among (name_at k) (is_listed to k (name_at k) (there k low)))

    is : (k d : ℕ) → k < length to → get_or (map variable to) k d ≡ first + number_or_zero (place_of from (name_at k))
    is k d low = get_or-map variable to k [] d low

    place_is : (k : ℕ) (low : k < length to) → number_or_zero (place_of from (name_at k)) ≡ (stand k low).place
    place_is k low = ap number_or_zero (stand k low).found

    found : (k : ℕ) → k < length to → number_or_zero (place_of from (name_at k)) < length from
    found k low = omega (arith, place_is k low, slice_get_within from (stand k low).place (name_at k) (stand k low).at)

    different : (i j : ℕ) → i < j → j < length to → number_or_zero (place_of from (name_at i)) ≡ number_or_zero (place_of from (name_at j)) → ⊥
    different i j less low e =
        let si = stand i (omega arith) in
        let sj = stand j low in
        let places : si.place ≡ sj.place = sym (place_is i (omega arith)) ∙ e ∙ place_is j low in
        let names : Some (name_at i) ≡ Some (name_at j) = sym si.at ∙ ap (slice_get from) places ∙ sj.at in
        let same : name_at i ≡ name_at j = cc in
        let at_i : place_of to (name_at i) ≡ Some i = place_found to i (name_at i) distinct (there i (omega arith)) in
        let at_j : place_of to (name_at j) ≡ Some j = place_found to j (name_at j) distinct (there j low) in
        let numbers : i ≡ j = ap number_or_zero (sym at_i ∙ ap (place_of to) same ∙ at_j) in
        omega arith

names : {from to v : ℕ} {E : Equations} {p : Places} (widths inputs : List ℕ) (k : ℕ) → to ≤ v → p.regs.items ≡ registers_from k widths
    → p.inputs.items ≡ inputs → p.cyclic.items ≡ []
    → AreWithin from to (range_with_len k (digits_in widths) ++ inputs) → All (λ w. w ≤ 16) widths → registers E ≡ length widths → E.inputs ≡ length inputs → NamesVariables v E [] p
names {from} {to} {v} {E} {p} widths inputs k room regs are cyclic within narrow registers_sized inputs_sized = record {
  registers_sized = ap length regs ∙ registers-sized k widths ∙ sym registers_sized;
  inputs_sized = ap length are ∙ sym inputs_sized;
  cyclic_sized = ap length cyclic;
  narrow = subst (All (λ (r : Register). r.1 ≤ 16)) (sym regs) (registers-narrow k widths narrow);
  exist = subst (All (λ (j : ℕ). j < v)) (sym whole) (λ j d low. omega (arith, within.below j d low));
  different = subst (IsDistinct nat_eq) (sym whole) within.different;
}
  where
    whole : all_variables p ≡ range_with_len k (digits_in widths) ++ inputs
    whole =
        ap (λ (l : List Register). (register_variables l ++ p.inputs.items) ++ p.cyclic.items) regs
        ∙ ap (λ (l : List ℕ). (l ++ p.inputs.items) ++ p.cyclic.items) (registers-range k widths)
        ∙ ap (λ (l : List ℕ). (range_with_len k (digits_in widths) ++ l) ++ p.cyclic.items) are
        ∙ ap (λ (l : List ℕ). (range_with_len k (digits_in widths) ++ inputs) ++ l) cyclic
        ∙ append-nil (range_with_len k (digits_in widths) ++ inputs)

names_registers : {v : ℕ} (p : Places) (widths : List ℕ) (k : ℕ) → k + digits_in widths ≤ v → p.regs.items ≡ registers_from k widths
    → All (λ w. w ≤ 16) widths → NamesRegisters v p.regs.items
names_registers {v} p widths k room regs narrow =
    let within : AreWithin k v (range_with_len k (digits_in widths)) = range-within k (digits_in widths) v room in
    let whole : register_variables p.regs.items ≡ range_with_len k (digits_in widths) = ap register_variables regs ∙ registers-range k widths in
    record {
      narrow = subst (All (λ (r : Register). r.1 ≤ 16)) (sym regs) (registers-narrow k widths narrow);
      exist = subst (All (λ (j : ℕ). j < v)) (sym whole) within.below;
      different = subst (IsDistinct nat_eq) (sym whole) within.different;
    }

pub placed_together_are_named : PlacedTogetherAreNamed
placed_together_are_named P Q lefts rights p q E G distinct same placed left_narrow right_narrow left_sized right_sized left_inputs right_inputs =
    let d = digits_in lefts in
    let e = digits_in rights in
    let own : AreWithin 0 (d + e + input_count P) (range_with_len 0 d ++ range_with_len (d + e) (input_count P)) =
    joined (omega arith) (omega arith) (omega arith) (range-within 0 d d (omega arith)) (range-within (d + e) (input_count P) (d + e + input_count P) (omega arith)) in
    let moved : AreWithin (d + e) (d + e + input_count P) (moved_variables (d + e) P Q) =
    moved-within (d + e) P.inputs Q.inputs (share_inputs_back P Q distinct same) (distinct_first Q.inputs Q.outputs distinct) in
    let other : AreWithin d (d + e + input_count P) (range_with_len d e ++ moved_variables (d + e) P Q) =
    joined (omega arith) (omega arith) (omega arith) (range-within d e (d + e) (omega arith)) moved in
    record {
      left = names lefts (range_with_len (d + e) (input_count P)) 0 (omega arith) placed.left_registers placed.left_inputs placed.left_cyclic own left_narrow left_sized (left_inputs ∙ sym (length-range_with_len (d + e) (input_count P)));
      right = names rights (moved_variables (d + e) P Q) d (omega arith) placed.right_registers placed.right_inputs placed.right_cyclic other right_narrow right_sized (right_inputs ∙ sym (length-map Q.inputs (λ name. d + e + number_or_zero (place_of P.inputs name))));
      left_registers = names_registers p lefts 0 (omega arith) placed.left_registers left_narrow;
      right_registers = names_registers q rights d (omega arith) placed.right_registers right_narrow;
    }
