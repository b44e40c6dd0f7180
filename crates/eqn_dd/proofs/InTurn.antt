-- Places in turn: their variables are different, and a row is read by them as what it is made from.
use Rattle.std.proofs.Common.{◌≡◌, ℕ, zero, suc, ◌+◌, ◌<◌, ◌≤◌, List, [], ◌∷◌, ◌++◌, Bool, false, nat_eq, length, map, take, drop, get_or, All, refl, sym, ap, ◌∙◌, subst, arith, append_assoc, length-append}
use Rattle.std.specs.List.{IsDistinct, range_with_len}
use Rattle.std.proofs.lemmas.Bool.Decides.{nat_tests}
use Rattle.std.proofs.lemmas.List.{take_at, drop_at, get_or_at}
use Rattle.std.proofs.lemmas.List.FromFn.{length-range_with_len, get_or-range_with_len}
use Rattle.std.proofs.lemmas.Map.Keys.{IsDistinct-from_apart}
use Rattle.argos_base.specs.SignalSets.{SignalSet, has}
use Rattle.eqn_completion.specs.Binary.{number, code_bits, in_binary, digits_in, FitsIn}
use Rattle.eqn_completion.proofs.Ordering.{length-code, number-code, length-binary}
use Rattle.eqn_dd.specs.declared.places.Places.{Places}
use Rattle.eqn_dd.specs.Laws.{WidthsAreNarrow, TurnsNameRegisters, TurnsNameVariables, RowsAreRead, row_of}
use Rattle.eqn_dd.specs.Placed.{Register, register_at, register_variables, registers_from, all_variables, AreInTurn}
use Rattle.eqn_dd.proofs.Turns.{digits-few}

-- ---- the variables

range-append : (a m n t j : ℕ) → m + n ≡ t → a + m ≡ j → range_with_len a t ≡ range_with_len a m ++ range_with_len j n
range-append a zero n t j whole next =
    let same : t ≡ n = omega arith in
    let here : a ≡ j = omega arith in
    ap (range_with_len a) same ∙ ap (λ (k : ℕ). range_with_len k n) here
range-append a (suc m) n zero j whole next = absurd (omega arith)
range-append a (suc m) n (suc t) j whole next =
    ap (λ (l : List ℕ). a ∷ l) (range-append (a + 1) m n t j (omega arith) (omega arith))

registers-range : (k : ℕ) (widths : List ℕ)
    → register_variables (registers_from k widths) ≡ range_with_len k (digits_in widths)
registers-range k [] = refl
registers-range k (w ∷ widths) =
    ap (λ (l : List ℕ). range_with_len k w ++ l) (registers-range (k + w) widths)
    ∙ sym (range-append k w (digits_in widths) (w + digits_in widths) (k + w) refl refl)

range-below : (v n : ℕ) → n ≤ v → All (λ k. k < v) (range_with_len 0 n)
range-below v n fits k d below =
    let inside : k < n = omega (arith, length-range_with_len 0 n) in
    omega (arith, get_or-range_with_len 0 n k d inside)

eq_apart : (j k : ℕ) → j < k → nat_eq j k ≡ false
eq_apart j k h = grind (arith, nat_tests)

range-distinct : (a n : ℕ) → IsDistinct nat_eq (range_with_len a n)
range-distinct a n =
    IsDistinct-from_apart nat_eq (range_with_len a n) (λ i j d less below.
    let inside : j < n = omega (arith, length-range_with_len a n) in
    eq_apart (get_or (range_with_len a n) i d) (get_or (range_with_len a n) j d)
    (omega (arith, get_or-range_with_len a n i d (omega arith), get_or-range_with_len a n j d inside)))

registers-all : {widths : List ℕ} {inputs cyclic : ℕ} {p : Places} → AreInTurn widths inputs cyclic p
    → register_variables p.regs.items ≡ range_with_len 0 (digits_in widths)
registers-all {widths} turn = ap register_variables turn.registers_are ∙ registers-range 0 widths

variables-all : {widths : List ℕ} {inputs cyclic : ℕ} {p : Places} → AreInTurn widths inputs cyclic p
    → all_variables p ≡ range_with_len 0 (digits_in widths + inputs + cyclic)
variables-all {widths} {inputs} {cyclic} {p} turn =
    let d = digits_in widths in
    ap (λ (l : List ℕ). (l ++ p.inputs.items) ++ p.cyclic.items) (registers-all turn)
    ∙ ap (λ (l : List ℕ). (range_with_len 0 d ++ l) ++ p.cyclic.items) turn.inputs_are
    ∙ ap (λ (l : List ℕ). (range_with_len 0 d ++ range_with_len d inputs) ++ l) turn.cyclic_are
    ∙ ap (λ (l : List ℕ). l ++ range_with_len (d + inputs) cyclic)
    (sym (range-append 0 d inputs (d + inputs) d refl (omega arith)))
    ∙ sym (range-append 0 (d + inputs) cyclic (d + inputs + cyclic) (d + inputs) refl (omega arith))

narrow-from : (k : ℕ) (widths : List ℕ) → All (λ w. w ≤ 16) widths
    → All (λ (r : Register). r.1 ≤ 16) (registers_from k widths)
narrow-from k [] narrow i d below = absurd (omega arith)
narrow-from k (w ∷ widths) narrow zero d below = narrow 0 w (omega arith)
narrow-from k (w ∷ widths) narrow (suc i) d below =
    narrow-from (k + w) widths (λ j e low. narrow (suc j) e (omega arith)) i d (omega arith)

registers-sized : (k : ℕ) (widths : List ℕ) → length (registers_from k widths) ≡ length widths
registers-sized k [] = refl
registers-sized k (w ∷ widths) = ap suc (registers-sized (k + w) widths)

narrow-turn : {widths : List ℕ} {inputs cyclic : ℕ} {p : Places} → AreInTurn widths inputs cyclic p
    → All (λ w. w ≤ 16) widths → All (λ (r : Register). r.1 ≤ 16) p.regs.items
narrow-turn {widths} turn narrow =
    subst (All (λ (r : Register). r.1 ≤ 16)) (sym turn.registers_are) (narrow-from 0 widths narrow)

pub names_registers : TurnsNameRegisters
names_registers v inputs cyclic widths p turn narrow room = record {
  narrow = narrow-turn turn narrow;
  exist = subst (All (λ (k : ℕ). k < v)) (sym (registers-all turn)) (range-below v (digits_in widths) room);
  different = subst (IsDistinct nat_eq) (sym (registers-all turn)) (range-distinct 0 (digits_in widths));
}

pub names_variables : TurnsNameVariables
names_variables v E cyclic widths p turn narrow sized room =
    let whole = digits_in widths + E.inputs + length cyclic in
    record {
      registers_sized = ap length turn.registers_are ∙ registers-sized 0 widths ∙ sized;
      inputs_sized = ap length turn.inputs_are ∙ length-range_with_len (digits_in widths) E.inputs;
      cyclic_sized = ap length turn.cyclic_are ∙ length-range_with_len (digits_in widths + E.inputs) (length cyclic);
      narrow = narrow-turn turn narrow;
      exist = subst (All (λ (k : ℕ). k < v)) (sym (variables-all turn)) (range-below v whole room);
      different = subst (IsDistinct nat_eq) (sym (variables-all turn)) (range-distinct 0 whole);
    }

pub widths_narrow : WidthsAreNarrow
widths_narrow [] k d below = absurd (omega arith)
widths_narrow (s ∷ layout) zero d below = digits-few s.top
widths_narrow (s ∷ layout) (suc k) d below = widths_narrow layout k d (omega arith)

-- ---- rows

-- registers from variable k on, behind k other values
read-registers : (widths m : List ℕ) (k : ℕ) (front more row : SignalSet) → length front ≡ k → FitsIn widths m
    → row ≡ front ++ (in_binary widths m ++ more) → map (register_at row) (registers_from k widths) ≡ m
read-registers [] [] k front more row at fits is = refl
read-registers [] (a ∷ m) k front more row at fits is = absurd fits
read-registers (w ∷ widths) [] k front more row at fits is = absurd fits
read-registers (w ∷ widths) (a ∷ m) k front more row at fits is =
    let own = code_bits w a in
    let rest = in_binary widths m ++ more in
    let shape : row ≡ front ++ (own ++ rest) =
    is ∙ ap (λ (l : SignalSet). front ++ l) (append_assoc own (in_binary widths m) more) in
    let first : register_at row (k, w) ≡ a =
    ap (λ (l : SignalSet). number (take w (drop k l))) shape
    ∙ ap (λ (l : SignalSet). number (take w l)) (drop_at front (own ++ rest) k at)
    ∙ ap number (take_at own rest w (length-code w a)) ∙ number-code w a fits.0 in
    let later : row ≡ (front ++ own) ++ rest = shape ∙ sym (append_assoc front own rest) in
    ap (λ (n : ℕ). n ∷ map (register_at row) (registers_from (k + w) widths)) first
    ∙ ap (λ (l : List ℕ). a ∷ l)
    (read-registers widths m (k + w) (front ++ own) more row
    (omega (arith, length-append front own, length-code w a)) fits.1 later)

-- n values behind k others
read-range : (i : SignalSet) (n k : ℕ) (front more row : SignalSet) → length i ≡ n → length front ≡ k
    → row ≡ front ++ (i ++ more) → map (has row) (range_with_len k n) ≡ i
read-range [] zero k front more row sized at is = refl
read-range [] (suc n) k front more row sized at is = absurd (omega arith)
read-range (b ∷ i) zero k front more row sized at is = absurd (omega arith)
read-range (b ∷ i) (suc n) k front more row sized at is =
    let first : has row k ≡ b = ap (λ (l : SignalSet). has l k) is ∙ get_or_at front b (i ++ more) false k at in
    let later : row ≡ (front ++ b ∷ []) ++ (i ++ more) = is ∙ sym (append_assoc front (b ∷ []) (i ++ more)) in
    ap (λ (c : Bool). c ∷ map (has row) (range_with_len (k + 1) n)) first
    ∙ ap (λ (l : SignalSet). b ∷ l)
    (read-range i n (k + 1) (front ++ b ∷ []) more row (omega arith)
    (omega (arith, length-append front (b ∷ []))) later)

append-none : (x : SignalSet) → x ++ [] ≡ x
append-none [] = refl
append-none (b ∷ x) = ap (λ (l : SignalSet). b ∷ l) (append-none x)

pub rows_read : RowsAreRead
rows_read widths m inputs cyclic i x p turn fits long wide =
    let digits = in_binary widths m in
    let row = row_of widths m i x in
    let many : length digits ≡ digits_in widths = length-binary widths m fits in
    let split : row ≡ digits ++ (i ++ x) = append_assoc digits i x in
    let whole : row ≡ (digits ++ i) ++ (x ++ []) = ap (λ (l : SignalSet). (digits ++ i) ++ l) (sym (append-none x)) in (
      record {
        memory = ap (map (register_at row)) turn.registers_are
            ∙ read-registers widths m 0 [] (i ++ x) row refl fits split;
        inputs = ap (map (has row)) turn.inputs_are
            ∙ read-range i inputs (digits_in widths) digits x row long many split;
        cyclic = ap (map (has row)) turn.cyclic_are
            ∙ read-range x cyclic (digits_in widths + inputs) (digits ++ i) [] row wide
            (omega (arith, length-append digits i, many, long)) whole;
      },
      omega (arith, length-append (digits ++ i) x, length-append digits i, many, long, wide),
    )
