-- Each list of values is a point, and at a point places read the memories and the inputs.
use Rattle.std.proofs.Common.{◌≡◌, ℕ, zero, suc, ◌+◌, ◌-◌, List, [], ◌∷◌, ◌++◌, Bool, true, false, Option, length, map, take, drop, refl, sym, ap, ◌∙◌, arith, length-append, append_assoc, append-nil, length-drop}
use Rattle.std.specs.List.{range_with_len}
use Rattle.std.proofs.lemmas.List.{take_at, drop_at, get_or_at}
use Rattle.argos_base.specs.Names.{Spelled, place_of}
use Rattle.argos_base.specs.SignalSets.{SignalSet, has}
use Rattle.argos_base.specs.Spelling.{is_one_of}
use Rattle.argos_core.specs.Process.{PlainModule}
use Rattle.argos_core.specs.Reactions.{input_count}
use Rattle.argos_congruence.specs.Moved.{moved_inputs}
use Rattle.argos_congruence.specs.NamedSets.{has_at, has_name, number_or_zero}
use Rattle.argos_congruence.proofs.Naming.{AreAmong, Stands, stands, is_listed}
use Rattle.eqn_completion.specs.Binary.{number, code_bits, in_binary, memory_of, digits_in, FitsIn}
use Rattle.eqn_completion.proofs.Ordering.{length-code, number-code, length-binary, fits-memory, binary-memory}
use Rattle.eqn_dd.specs.declared.places.Places.{Places}
use Rattle.eqn_dd.specs.Placed.{register_at, memory_at, inputs_at, registers_from}
use Rattle.bisim_verdict.specs.EquivFunctions.{ArePlacedTogether, moved_variables}
use Rattle.bisim_verdict.specs.EquivTests.{point}
use Rattle.bisim_verdict.specs.Laws.{ValuesArePoints}

pub values_are_points : ValuesArePoints
values_are_points lefts rights k x h =
    let right = drop (digits_in lefts) x in
    let second : length right ≡ length x - digits_in lefts = length-drop (digits_in lefts) x in
    let third : length (drop (digits_in rights) right) ≡ length right - digits_in rights = length-drop (digits_in rights) right in
    let behind : in_binary rights (memory_of rights right) ++ drop (digits_in rights) right ≡ right = binary-memory rights right (omega arith) in (
      ap (λ (y : List Bool). in_binary lefts (memory_of lefts x) ++ y) behind ∙ binary-memory lefts x (omega arith),
      fits-memory lefts x (omega arith),
      fits-memory rights right (omega arith),
      omega arith,
    )

-- registers from variable k on, behind k other values
registers_behind : (widths m : List ℕ) (k : ℕ) (front more row : SignalSet) → length front ≡ k → FitsIn widths m
    → row ≡ front ++ (in_binary widths m ++ more) → map (register_at row) (registers_from k widths) ≡ m
registers_behind [] [] k front more row at fits is = refl
registers_behind [] (a ∷ m) k front more row at fits is = absurd fits
registers_behind (w ∷ widths) [] k front more row at fits is = absurd fits
registers_behind (w ∷ widths) (a ∷ m) k front more row at fits is =
    let own = code_bits w a in
    let rest = in_binary widths m ++ more in
    let shape : row ≡ front ++ (own ++ rest) = is ∙ ap (λ (l : SignalSet). front ++ l) (append_assoc own (in_binary widths m) more) in
    let first : register_at row (k, w) ≡ a =
    ap (λ (l : SignalSet). number (take w (drop k l))) shape
    ∙ ap (λ (l : SignalSet). number (take w l)) (drop_at front (own ++ rest) k at)
    ∙ ap number (take_at own rest w (length-code w a)) ∙ number-code w a fits.0 in
    let later : row ≡ (front ++ own) ++ rest = shape ∙ sym (append_assoc front own rest) in
    ap (λ (n : ℕ). n ∷ map (register_at row) (registers_from (k + w) widths)) first
    ∙ ap (λ (l : List ℕ). a ∷ l) (registers_behind widths m (k + w) (front ++ own) more row (omega (arith, length-append front own, length-code w a)) fits.1 later)

-- n values behind k others
range_behind : (i : SignalSet) (n k : ℕ) (front more row : SignalSet) → length i ≡ n → length front ≡ k → row ≡ front ++ (i ++ more)
    → map (has row) (range_with_len k n) ≡ i
range_behind [] zero k front more row sized at is = refl
range_behind [] (suc n) k front more row sized at is = absurd (omega arith)
range_behind (b ∷ i) zero k front more row sized at is = absurd (omega arith)
range_behind (b ∷ i) (suc n) k front more row sized at is =
    let first : has row k ≡ b = ap (λ (l : SignalSet). has l k) is ∙ get_or_at front b (i ++ more) false k at in
    let later : row ≡ (front ++ b ∷ []) ++ (i ++ more) = is ∙ sym (append_assoc front (b ∷ []) (i ++ more)) in
    ap (λ (c : Bool). c ∷ map (has row) (range_with_len (k + 1) n)) first
    ∙ ap (λ (l : SignalSet). b ∷ l) (range_behind i n (k + 1) (front ++ b ∷ []) more row (omega arith) (omega (arith, length-append front (b ∷ []))) later)

-- the value of a variable behind some values
variable_behind : (front i : List Bool) (first k : ℕ) → length front ≡ first → has (front ++ i) (first + k) ≡ has i k
variable_behind [] i first k e = let z : first + k ≡ k = omega arith in ap (has i) z
variable_behind (b ∷ front) i first k e =
    let z : first + k ≡ suc (length front + k) = omega arith in
    ap (has (b ∷ (front ++ i))) z ∙ variable_behind front i (length front) k refl

-- inputs read by name are the moved input set
moved_behind : (first : ℕ) (from to : List Spelled) (front i : List Bool) → AreAmong to from → length front ≡ first
    → map (has (front ++ i)) (map (λ name. first + number_or_zero (place_of from name)) to) ≡ map (has_name from i) to
moved_behind first from [] front i h e = refl
moved_behind first from (n ∷ to) front i h e =
    let s : Stands from n = stands from n (h n (is_listed (n ∷ to) 0 n refl)) in
    let here : has (front ++ i) (first + number_or_zero (place_of from n)) ≡ has_name from i n =
    variable_behind front i first (number_or_zero (place_of from n)) e ∙ ap (λ (o : Option ℕ). has i (number_or_zero o)) s.found ∙ sym (ap (has_at i) s.found) in
    let rest = moved_behind first from to front i (λ name t. h name (behind n to name t)) e in
    ap (λ (b : Bool). b ∷ map (has (front ++ i)) (map (λ name. first + number_or_zero (place_of from name)) to)) here ∙ ap (λ (v : List Bool). has_name from i n ∷ v) rest
  where
    behind : (n : Spelled) (to : List Spelled) (name : Spelled) → is_one_of to name ≡ true → is_one_of (n ∷ to) name ≡ true
    behind n to name t = let s : Stands to name = stands to name t in is_listed (n ∷ to) (suc s.place) name s.at

module _ {P Q : PlainModule} {lefts rights : List ℕ} {p q : Places} (placed : ArePlacedTogether P Q lefts rights p q) (m n : List ℕ) (i : SignalSet) (left_fits : FitsIn lefts m) (right_fits : FitsIn rights n) where
  split_point : point lefts rights m n i ≡ (in_binary lefts m ++ in_binary rights n) ++ i
  split_point = sym (append_assoc (in_binary lefts m) (in_binary rights n) i)

  length-front : length (in_binary lefts m ++ in_binary rights n) ≡ digits_in lefts + digits_in rights
  length-front = omega (arith, length-append (in_binary lefts m) (in_binary rights n), length-binary lefts m left_fits, length-binary rights n right_fits)

  pub left_memory : memory_at p (point lefts rights m n i) ≡ m
  left_memory =
      let x = point lefts rights m n i in
      ap (map (register_at x)) placed.left_registers ∙ registers_behind lefts m 0 [] (in_binary rights n ++ i) x refl left_fits refl

  pub right_memory : memory_at q (point lefts rights m n i) ≡ n
  right_memory =
      let x = point lefts rights m n i in
      ap (map (register_at x)) placed.right_registers ∙ registers_behind rights n (digits_in lefts) (in_binary lefts m) i x (length-binary lefts m left_fits) right_fits refl

  pub left_inputs : length i ≡ input_count P → inputs_at p (point lefts rights m n i) ≡ i
  left_inputs long =
      let x = point lefts rights m n i in
      let front = in_binary lefts m ++ in_binary rights n in
      let whole : x ≡ front ++ (i ++ []) = split_point ∙ ap (λ (y : List Bool). front ++ y) (sym (append-nil i)) in
      ap (map (has x)) placed.left_inputs ∙ range_behind i (input_count P) (digits_in lefts + digits_in rights) front [] x long length-front whole

  pub right_inputs : AreAmong Q.inputs P.inputs → inputs_at q (point lefts rights m n i) ≡ moved_inputs P Q i
  right_inputs among =
      let first = digits_in lefts + digits_in rights in
      ap (map (has (point lefts rights m n i))) placed.right_inputs
      ∙ ap (λ (y : List Bool). map (has y) (moved_variables first P Q)) split_point
      ∙ moved_behind first P.inputs Q.inputs (in_binary lefts m ++ in_binary rights n) i among length-front
