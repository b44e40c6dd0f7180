-- The order of lists of numbers, and that binary digits keep it.
use Rattle.std.proofs.Common.{◌≡◌, ℕ, zero, suc, ◌+◌, ◌-◌, ◌^◌, ◌<◌, ◌≤◌, List, [], ◌∷◌, ◌++◌, Bool, true, false, nat_le, refl, sym, ap, ◌∙◌, ◌⊎◌, inl, inr, subst, arith, length, take, drop, append_assoc, length-append}
use Rattle.std.proofs.Math.Nat.{pow-suc}
use Rattle.std.proofs.lemmas.Bool.{cases_order}
use Rattle.std.proofs.lemmas.Bool.Decides.{nat_tests}
use Rattle.std.proofs.lemmas.List.{map-append, take_at, drop_at, length-take-le, length-drop, take-append-drop, length-map, drop-drop}
use Rattle.argos_base.specs.Orders.{IsEarlier, digit, digits}
use Rattle.argos_base.specs.SignalSets.{SignalSet}
use Rattle.argos_base.proofs.Bools.{true_or_false}
use Rattle.eqn_completion.specs.Laws.{CasesInOrder}
use Rattle.eqn_completion.specs.Binary.{code_bits, number, in_binary, memory_of, digits_in, FitsIn}

pub not_both : (xs ys : List ℕ) → IsEarlier xs ys → IsEarlier ys xs → ⊥
not_both [] ys h k = h
not_both (x ∷ xs) [] h k = h
not_both (x ∷ xs) (y ∷ ys) (inl a) (inl b) = omega arith
not_both (x ∷ xs) (y ∷ ys) (inl a) (inr b) = let e = b.0 in omega arith
not_both (x ∷ xs) (y ∷ ys) (inr a) (inl b) = let e = a.0 in omega arith
not_both (x ∷ xs) (y ∷ ys) (inr a) (inr b) = not_both xs ys a.1 b.1

pub not_itself : (xs : List ℕ) → IsEarlier xs xs → ⊥
not_itself xs h = not_both xs xs h h

pub earlier_front : (p q r s : List ℕ) → IsEarlier p q → IsEarlier (p ++ r) (q ++ s)
earlier_front [] q r s h = absurd h
earlier_front (x ∷ p) [] r s h = absurd h
earlier_front (x ∷ p) (y ∷ q) r s (inl a) = inl a
earlier_front (x ∷ p) (y ∷ q) r s (inr a) = inr (a.0, earlier_front p q r s a.1)

pub earlier_behind : (p r s : List ℕ) → IsEarlier r s → IsEarlier (p ++ r) (p ++ s)
earlier_behind [] r s h = h
earlier_behind (x ∷ p) r s h = inr (refl, earlier_behind p r s h)

pub earlier_cases : (p q r s : List ℕ) → length p ≡ length q → IsEarlier (p ++ r) (q ++ s) → IsEarlier p q ⊎ ((p ≡ q) × IsEarlier r s)
earlier_cases [] [] r s e h = inr (refl, h)
earlier_cases [] (y ∷ q) r s e h = absurd (omega arith)
earlier_cases (x ∷ p) [] r s e h = absurd (omega arith)
earlier_cases (x ∷ p) (y ∷ q) r s e (inl a) = inl (inl a)
earlier_cases (x ∷ p) (y ∷ q) r s e (inr a) = elim (earlier_cases p q r s (omega arith) a.1) [
  | inl b ↦ inl (inr (a.0, b))
  | inr b ↦ inr (ap (λ (z : ℕ). z ∷ p) a.0 ∙ ap (λ (l : List ℕ). y ∷ l) b.0, b.1)
]

-- of two lists of one length one is earlier, or they are one
pub earlier_total : (p q : List ℕ) → length p ≡ length q → (p ≡ q) ⊎ (IsEarlier p q ⊎ IsEarlier q p)
earlier_total [] [] e = inl refl
earlier_total [] (y ∷ q) e = absurd (omega arith)
earlier_total (x ∷ p) [] e = absurd (omega arith)
earlier_total (x ∷ p) (y ∷ q) e = elim (cases_order x y) [
  | inl same ↦ elim (earlier_total p q (omega arith)) [
    | inl rest ↦ inl (ap (λ (z : ℕ). z ∷ p) same ∙ ap (λ (l : List ℕ). y ∷ l) rest)
    | inr rest ↦ inr (elim rest [ inl b ↦ inl (inr (same, b)) | inr b ↦ inr (inr (sym same, b)) ])
  ]
  | inr other ↦ inr (elim other [ inl b ↦ inl (inl b) | inr b ↦ inr (inl b) ])
]

-- sets of one number sequence are one
pub digits-same : (x y : SignalSet) → digits x ≡ digits y → x ≡ y
digits-same [] [] e = refl
digits-same [] (b ∷ y) e = cc
digits-same (b ∷ x) [] e = cc
digits-same (b ∷ x) (c ∷ y) e =
    let first : digit b ≡ digit c = cc in
    let rest : digits x ≡ digits y = cc in
    ap (λ (z : Bool). z ∷ x) (same b c first) ∙ ap (λ (l : List Bool). c ∷ l) (digits-same x y rest)
  where
    same : (b c : Bool) → digit b ≡ digit c → b ≡ c
    same true true e = refl
    same false false e = refl
    same true false e = absurd (omega arith)
    same false true e = absurd (omega arith)

pub digits-append : (x y : SignalSet) → digits (x ++ y) ≡ digits x ++ digits y
digits-append x y = map-append digit x y

pub length-digits : (x : SignalSet) → length (digits x) ≡ length x
length-digits x = length-map x digit

-- codes
double : (w : ℕ) → 2 ^ suc w ≡ 2 ^ w + 2 ^ w
double w = omega (arith, pow-suc 2 w)

pub length-code : (w a : ℕ) → length (code_bits w a) ≡ w
length-code zero a = refl
length-code (suc w) a = elim (true_or_false (nat_le (2 ^ w) a)) [
  | inl y ↦ rw y (ap suc (length-code w (a - 2 ^ w)))
  | inr y ↦ rw y (ap suc (length-code w a))
]

le_tells : (a b : ℕ) → nat_le a b ≡ true → a ≤ b
le_tells a b h = grind (arith, nat_tests)

le_not : (a b : ℕ) → nat_le a b ≡ false → b < a
le_not a b h = grind (arith, nat_tests)

le_at : (a b : ℕ) → a ≤ b → nat_le a b ≡ true
le_at a b h = grind (arith, nat_tests)

le_off : (a b : ℕ) → b < a → nat_le a b ≡ false
le_off a b h = grind (arith, nat_tests)

one : (a : ℕ) → a < 2 ^ 0 → a ≡ 0
one a h = omega arith

pub number-code : (w a : ℕ) → a < 2 ^ w → number (code_bits w a) ≡ a
number-code zero a h = sym (one a h)
number-code (suc w) a h = elim (true_or_false (nat_le (2 ^ w) a)) [
  | inl y ↦ rw y (let low = le_tells (2 ^ w) a y in let d = double w in let r = number-code w (a - 2 ^ w) (omega arith) in let e = ap (λ (n : ℕ). 2 ^ n) (length-code w (a - 2 ^ w)) in omega arith)
  | inr y ↦ rw y (let low = le_not (2 ^ w) a y in let r = number-code w a low in omega arith)
]

pub number-below : (bits : List Bool) → number bits < 2 ^ length bits
number-below [] = omega arith
number-below (true ∷ bits) = let d = double (length bits) in let r = number-below bits in omega arith
number-below (false ∷ bits) = let d = double (length bits) in let r = number-below bits in omega arith

pub code-number : (bits : List Bool) → code_bits (length bits) (number bits) ≡ bits
code-number [] = refl
code-number (true ∷ bits) =
    let e : nat_le (2 ^ length bits) (2 ^ length bits + number bits) ≡ true = le_at _ _ (omega arith) in
    let f : 2 ^ length bits + number bits - 2 ^ length bits ≡ number bits = omega arith in
    rw e (ap (λ (l : List Bool). true ∷ l) (ap (code_bits (length bits)) f ∙ code-number bits))
code-number (false ∷ bits) =
    let e : nat_le (2 ^ length bits) (0 + number bits) ≡ false = le_off _ _ (omega (arith, number-below bits)) in
    let f : 0 + number bits ≡ number bits = omega arith in
    rw e (ap (λ (l : List Bool). false ∷ l) (ap (code_bits (length bits)) f ∙ code-number bits))

pub code-earlier : (w a b : ℕ) → a < 2 ^ w → b < 2 ^ w → a < b → IsEarlier (digits (code_bits w a)) (digits (code_bits w b))
code-earlier zero a b h k l = omega (arith, one a h, one b k)
code-earlier (suc w) a b h k l = elim (true_or_false (nat_le (2 ^ w) a)) [
  | inl x ↦ elim (true_or_false (nat_le (2 ^ w) b)) [
    | inl y ↦ rw (x, y) (let lo = le_tells (2 ^ w) a x in let d = double w in inr (refl, code-earlier w (a - 2 ^ w) (b - 2 ^ w) (omega arith) (omega arith) (omega arith)))
    | inr y ↦ let lo = le_tells (2 ^ w) a x in let hi = le_not (2 ^ w) b y in absurd (omega arith)
  ]
  | inr x ↦ elim (true_or_false (nat_le (2 ^ w) b)) [
    | inl y ↦ rw (x, y) (inl (omega arith))
    | inr y ↦ rw (x, y) (inr (refl, code-earlier w a b (le_not (2 ^ w) a x) (le_not (2 ^ w) b y) l))
  ]
]

-- memories
pub length-binary : (ws m : List ℕ) → FitsIn ws m → length (in_binary ws m) ≡ digits_in ws
length-binary [] [] h = refl
length-binary [] (a ∷ m) h = absurd h
length-binary (w ∷ ws) [] h = absurd h
length-binary (w ∷ ws) (a ∷ m) h = length-append (code_bits w a) (in_binary ws m) ∙ ap (λ (n : ℕ). n + length (in_binary ws m)) (length-code w a) ∙ ap (λ (n : ℕ). w + n) (length-binary ws m h.1)

pub length-fits : (ws m : List ℕ) → FitsIn ws m → length m ≡ length ws
length-fits [] [] h = refl
length-fits [] (a ∷ m) h = absurd h
length-fits (w ∷ ws) [] h = absurd h
length-fits (w ∷ ws) (a ∷ m) h = ap suc (length-fits ws m h.1)

-- the memory of a memory's digits, also with more digits behind them
pub memory-binary : (ws m : List ℕ) (more : List Bool) → FitsIn ws m → memory_of ws (in_binary ws m ++ more) ≡ m
memory-binary [] [] more h = refl
memory-binary [] (a ∷ m) more h = absurd h
memory-binary (w ∷ ws) [] more h = absurd h
memory-binary (w ∷ ws) (a ∷ m) more h =
    let whole : (code_bits w a ++ in_binary ws m) ++ more ≡ code_bits w a ++ (in_binary ws m ++ more) = append_assoc (code_bits w a) (in_binary ws m) more in
    ap (λ (l : List Bool). number (take w l) ∷ memory_of ws (drop w l)) whole
    ∙ ap (λ (l : List Bool). number l ∷ memory_of ws (drop w (code_bits w a ++ (in_binary ws m ++ more)))) (take_at (code_bits w a) (in_binary ws m ++ more) w (length-code w a))
    ∙ ap (λ (n : ℕ). n ∷ memory_of ws (drop w (code_bits w a ++ (in_binary ws m ++ more)))) (number-code w a h.0)
    ∙ ap (λ (l : List Bool). a ∷ memory_of ws l) (drop_at (code_bits w a) (in_binary ws m ++ more) w (length-code w a))
    ∙ ap (λ (l : List ℕ). a ∷ l) (memory-binary ws m more h.1)

-- digits are those of a memory that fits
pub fits-memory : (ws : List ℕ) (bits : List Bool) → digits_in ws ≤ length bits → FitsIn ws (memory_of ws bits)
fits-memory [] bits h = tt
fits-memory (w ∷ ws) bits h =
    let e = length-take-le w bits (omega arith) in
    (subst (λ (n : ℕ). number (take w bits) < 2 ^ n) e (number-below (take w bits)), fits-memory ws (drop w bits) (omega (arith, length-drop w bits)))

pub binary-memory : (ws : List ℕ) (bits : List Bool) → digits_in ws ≤ length bits → in_binary ws (memory_of ws bits) ++ drop (digits_in ws) bits ≡ bits
binary-memory [] bits h = refl
binary-memory (w ∷ ws) bits h =
    let e = length-take-le w bits (omega arith) in
    let row : code_bits w (number (take w bits)) ≡ take w bits = subst (λ (n : ℕ). code_bits n (number (take w bits)) ≡ take w bits) e (code-number (take w bits)) in
    append_assoc (code_bits w (number (take w bits))) (in_binary ws (memory_of ws (drop w bits))) (drop (w + digits_in ws) bits)
    ∙ ap (λ (l : List Bool). l ++ (in_binary ws (memory_of ws (drop w bits)) ++ drop (w + digits_in ws) bits)) row
    ∙ ap (λ (l : List Bool). take w bits ++ (in_binary ws (memory_of ws (drop w bits)) ++ l)) (sym (drop-drop (digits_in ws) w bits))
    ∙ ap (λ (l : List Bool). take w bits ++ l) (binary-memory ws (drop w bits) (omega (arith, length-drop w bits)))
    ∙ take-append-drop w bits

-- memories are in the order of their digits
pub memory-earlier : (ws m n r s : List ℕ) → FitsIn ws m → FitsIn ws n → IsEarlier (m ++ r) (n ++ s) → IsEarlier (digits (in_binary ws m) ++ r) (digits (in_binary ws n) ++ s)
memory-earlier [] [] [] r s h k l = l
memory-earlier [] [] (b ∷ n) r s h k l = absurd k
memory-earlier [] (a ∷ m) n r s h k l = absurd h
memory-earlier (w ∷ ws) [] n r s h k l = absurd h
memory-earlier (w ∷ ws) (a ∷ m) [] r s h k l = absurd k
memory-earlier (w ∷ ws) (a ∷ m) (b ∷ n) r s h k (inl l) =
    subst (λ (z : List ℕ). IsEarlier z (digits (code_bits w b ++ in_binary ws n) ++ s)) (sym (split a m r))
    (subst (λ (z : List ℕ). IsEarlier (digits (code_bits w a) ++ (digits (in_binary ws m) ++ r)) z) (sym (split b n s))
    (earlier_front (digits (code_bits w a)) (digits (code_bits w b)) (digits (in_binary ws m) ++ r) (digits (in_binary ws n) ++ s) (code-earlier w a b h.0 k.0 l)))
  where
    split : (a : ℕ) (m r : List ℕ) → digits (code_bits w a ++ in_binary ws m) ++ r ≡ digits (code_bits w a) ++ (digits (in_binary ws m) ++ r)
    split a m r = ap (λ (z : List ℕ). z ++ r) (digits-append (code_bits w a) (in_binary ws m)) ∙ append_assoc (digits (code_bits w a)) (digits (in_binary ws m)) r
memory-earlier (w ∷ ws) (a ∷ m) (b ∷ n) r s h k (inr l) =
    subst (λ (z : ℕ). IsEarlier (digits (code_bits w a ++ in_binary ws m) ++ r) (digits (code_bits w z ++ in_binary ws n) ++ s)) l.0
    (subst (λ (z : List ℕ). IsEarlier z (digits (code_bits w a ++ in_binary ws n) ++ s)) (sym (split m r))
    (subst (λ (z : List ℕ). IsEarlier (digits (code_bits w a) ++ (digits (in_binary ws m) ++ r)) z) (sym (split n s))
    (earlier_behind (digits (code_bits w a)) (digits (in_binary ws m) ++ r) (digits (in_binary ws n) ++ s) (memory-earlier ws m n r s h.1 k.1 l.1))))
  where
    split : (m r : List ℕ) → digits (code_bits w a ++ in_binary ws m) ++ r ≡ digits (code_bits w a) ++ (digits (in_binary ws m) ++ r)
    split m r = ap (λ (z : List ℕ). z ++ r) (digits-append (code_bits w a) (in_binary ws m)) ∙ append_assoc (digits (code_bits w a)) (digits (in_binary ws m)) r

-- and back
pub memory-back : (ws m n r s : List ℕ) → FitsIn ws m → FitsIn ws n → length r ≡ length s → IsEarlier (digits (in_binary ws m) ++ r) (digits (in_binary ws n) ++ s) → IsEarlier (m ++ r) (n ++ s)
memory-back ws m n r s h k e l = elim (earlier_total (m ++ r) (n ++ s) (length-append m r ∙ ap (λ (z : ℕ). z + length r) (length-fits ws m h ∙ sym (length-fits ws n k)) ∙ ap (λ (z : ℕ). length n + z) e ∙ sym (length-append n s))) [
  | inl same ↦ absurd (not_same same)
  | inr other ↦ elim other [
    | inl there ↦ there
    | inr back ↦ absurd (not_both _ _ l (memory-earlier ws n m s r k h back))
  ]
]
  where
    parts : (m n r s : List ℕ) → length m ≡ length n → m ++ r ≡ n ++ s → (m ≡ n) × (r ≡ s)
    parts [] [] r s e h = (refl, h)
    parts [] (y ∷ n) r s e h = absurd (omega arith)
    parts (x ∷ m) [] r s e h = absurd (omega arith)
    parts (x ∷ m) (y ∷ n) r s e h =
        let first : x ≡ y = cc in
        let rest : m ++ r ≡ n ++ s = cc in
        let p = parts m n r s (omega arith) rest in
        (ap (λ (z : ℕ). z ∷ m) first ∙ ap (λ (z : List ℕ). y ∷ z) p.0, p.1)

    not_same : m ++ r ≡ n ++ s → ⊥
    not_same same =
        let p = parts m n r s (length-fits ws m h ∙ sym (length-fits ws n k)) same in
        not_itself (digits (in_binary ws n) ++ s) (subst (λ (z : List ℕ). IsEarlier z (digits (in_binary ws n) ++ s)) (ap (λ (z : List ℕ). digits (in_binary ws z) ++ r) p.0 ∙ ap (λ (z : List ℕ). digits (in_binary ws n) ++ z) p.1) l)

pub cases_in_order : CasesInOrder
cases_in_order ws m n i j h k e = (there, back)
  where
    there : IsEarlier (m ++ digits i) (n ++ digits j) → IsEarlier (digits (in_binary ws m ++ i)) (digits (in_binary ws n ++ j))
    there l = subst (λ (z : List ℕ). IsEarlier z (digits (in_binary ws n ++ j))) (sym (digits-append (in_binary ws m) i)) (subst (λ (z : List ℕ). IsEarlier (digits (in_binary ws m) ++ digits i) z) (sym (digits-append (in_binary ws n) j)) (memory-earlier ws m n (digits i) (digits j) h k l))

    back : IsEarlier (digits (in_binary ws m ++ i)) (digits (in_binary ws n ++ j)) → IsEarlier (m ++ digits i) (n ++ digits j)
    back l = memory-back ws m n (digits i) (digits j) h k (length-digits i ∙ e ∙ sym (length-digits j)) (subst (λ (z : List ℕ). IsEarlier z (digits (in_binary ws n) ++ digits j)) (digits-append (in_binary ws m) i) (subst (λ (z : List ℕ). IsEarlier (digits (in_binary ws m ++ i)) z) (digits-append (in_binary ws n) j) l))
