-- Variables in turn, and the numbers of binary digits.
use Rattle.std.proofs.Common.{◌≡◌, ℕ, zero, suc, ◌+◌, ◌-◌, ◌*◌, ◌^◌, ◌<◌, ◌≤◌, List, [], ◌∷◌, ◌++◌, Bool, true, false, if◌then◌else◌, nat_le, length, take, max, refl, sym, ap, ◌∙◌, inl, inr, arith}
use Rattle.std.specs.Prelude.{slice_index_or}
use Rattle.std.specs.Int.Count.{count_leading_zeros}
use Rattle.std.proofs.Math.Pow.{pow_mono}
use Rattle.std.proofs.lemmas.Bool.{cases_lt}
use Rattle.std.proofs.lemmas.Bool.Decides.{nat_tests}
use Rattle.std.proofs.lemmas.List.{map-append, take_more}
use Rattle.std.proofs.lemmas.Nat.{leading_length}
use Rattle.argos_core.specs.Layouts.{RegisterShape}
use Rattle.eqn_core.specs.Equations.{Line, all, any, within, digit, choose, Equations, bits_of_line, bit_lines}
use Rattle.eqn_completion.specs.Binary.{digits_in}
use Rattle.eqn_dd.specs.Placed.{Register, registers_from, IsPlaceable}
use Rattle.eqn_dd.specs.Structural.{powers_within, digit_count, widths_of}
use Rattle.eqn_dd.proofs.Numbers.{double}

-- ---- digits

le_at : (k n : ℕ) → k ≤ n → nat_le k n ≡ true
le_at k n h = grind (arith, nat_tests)

le_not : (k n : ℕ) → n < k → nat_le k n ≡ false
le_not k n h = grind (arith, nat_tests)

all_within : (k n : ℕ) → 2 ^ k ≤ n → powers_within k n ≡ k
all_within zero n h = refl
all_within (suc k) n h =
    let less : 2 ^ k ≤ 2 ^ suc k = pow_mono (omega arith) in
    let low : 2 ^ k ≤ n = omega arith in
    rw (le_at (2 ^ k) n low) (let r = all_within k n low in omega arith)

-- n has m binary digits
powers-are : (k m n : ℕ) → m ≤ k → n < 2 ^ m → 2 ^ m ≤ 2 * n + 1 → powers_within k n ≡ m
powers-are zero m n few above below = omega arith
powers-are (suc k) m n few above below = elim (cases_lt m (suc k)) [
  | inl low ↦
      let less : 2 ^ m ≤ 2 ^ k = pow_mono (omega arith) in
      let short : n < 2 ^ k = omega arith in
      rw (le_not (2 ^ k) n short) (let r = powers-are k m n (omega arith) above below in omega arith)
  | inr high ↦
      let same : m ≡ suc k = omega arith in
      let whole : 2 ^ m ≡ 2 ^ k + 2 ^ k = ap (λ (j : ℕ). 2 ^ j) same ∙ double k in
      let long : 2 ^ k ≤ n = omega arith in
      rw (le_at (2 ^ k) n long, all_within k n long) (omega arith)
]

pub digit_count-leading : (code result : ℕ) → code < 2 ^ 16 → result ≡ max (16 - count_leading_zeros 16 code) 1 → result ≡ digit_count code
digit_count-leading code result small is =
    let w = leading_length 16 code small in
    let m = w.0 in
    let count : 16 - count_leading_zeros 16 code ≡ m = let e = w.1 in omega arith in
    let powers : powers_within 16 code ≡ m = powers-are 16 m code (let e = w.1 in omega arith) w.2 w.3 in
    omega (arith, is, count, powers)

powers-few : (k n : ℕ) → powers_within k n ≤ k
powers-few zero n = omega arith
powers-few (suc k) n = few (nat_le (2 ^ k) n) (powers_within k n) (powers-few k n)
  where
    few : (b : Bool) (p : ℕ) → p ≤ k → (if b then 1 else 0) + p ≤ suc k
    few true p h = omega arith
    few false p h = omega arith

pub digits-few : (n : ℕ) → digit_count n ≤ 16
digits-few n = omega (arith, powers-few 16 n)

-- ---- registers in turn

registers-push : (k : ℕ) (widths : List ℕ) (w : ℕ) → registers_from k (widths ++ w ∷ []) ≡ registers_from k widths ++ (k + digits_in widths, w) ∷ []
registers-push k [] w = ap (λ (n : ℕ). (n, w) ∷ []) (let e : k ≡ k + 0 = omega arith in e)
registers-push k (v ∷ widths) w =
    ap (λ (l : List Register). (k, v) ∷ l) (registers-push (k + v) widths w ∙ ap (λ (n : ℕ). registers_from (k + v) widths ++ (n, w) ∷ []) (let e : k + v + digits_in widths ≡ k + (v + digits_in widths) = omega arith in e))

digits-push : (widths : List ℕ) (w : ℕ) → digits_in (widths ++ w ∷ []) ≡ digits_in widths + w
digits-push [] w = omega arith
digits-push (v ∷ widths) w = omega (arith, digits-push widths w)

-- the first registers, as many as i says
pub record TurnsSoFar (layout : List RegisterShape) (i : ℕ) (regs : List Register) (next : ℕ) : Type 0 where
  pub registers_are : regs ≡ registers_from 0 (widths_of (take i layout))
  pub next_is : next ≡ digits_in (widths_of (take i layout))
  pub few : next ≤ 16 * i

pub turns_none : (layout : List RegisterShape) → TurnsSoFar layout 0 [] 0
turns_none layout = record { registers_are = refl; next_is = refl; few = omega arith }

pub turns_more : {layout : List RegisterShape} {i next digits : ℕ} {regs : List Register} {s : RegisterShape} → i < length layout → s ≡ slice_index_or layout i s → digits ≡ digit_count s.top → TurnsSoFar layout i regs next → TurnsSoFar layout (i + 1) (regs ++ (next, digits) ∷ []) (next + digits)
turns_more {layout} {i} {next} {digits} {regs} {s} inside at is before =
    let front : take (i + 1) layout ≡ take i layout ++ s ∷ [] = take_more layout i s inside ∙ ap (λ (t : RegisterShape). take i layout ++ t ∷ []) (sym at) in
    let widths : widths_of (take (i + 1) layout) ≡ widths_of (take i layout) ++ digit_count s.top ∷ [] = ap widths_of front ∙ map-append (λ (t : RegisterShape). digit_count t.top) (take i layout) (s ∷ []) in
    record {
      registers_are =
          ap (λ (l : List Register). l ++ (next, digits) ∷ []) before.registers_are
          ∙ ap (λ (n : ℕ). registers_from 0 (widths_of (take i layout)) ++ (n, digits) ∷ []) (before.next_is ∙ (let e : digits_in (widths_of (take i layout)) ≡ 0 + digits_in (widths_of (take i layout)) = omega arith in e))
          ∙ ap (λ (n : ℕ). registers_from 0 (widths_of (take i layout)) ++ (0 + digits_in (widths_of (take i layout)), n) ∷ []) is
          ∙ sym (ap (registers_from 0) widths ∙ registers-push 0 (widths_of (take i layout)) (digit_count s.top));
      next_is = ap (λ (n : ℕ). n + digits) before.next_is ∙ ap (λ (n : ℕ). digits_in (widths_of (take i layout)) + n) is ∙ sym (ap digits_in widths ∙ digits-push (widths_of (take i layout)) (digit_count s.top));
      few = omega (arith, before.few, is, digits-few s.top);
    }

-- ---- how many cyclic bits there are

bit_lines-few : (ls : List Line) → bit_lines ls ≤ length ls
bit_lines-few [] = omega arith
bit_lines-few (l ∷ ls) = omega (arith, one l, bit_lines-few ls)
  where
    one : (l : Line) → bits_of_line l ≤ 1
    one (all xs) = omega arith
    one (any xs) = omega arith
    one (within w lo hi) = omega arith
    one (digit w place) = omega arith
    one (choose cases other) = omega arith

pub cyclic_few : {E : Equations} {cyclic : List ℕ} → IsPlaceable E cyclic → length cyclic ≤ 100016384
cyclic_few {E} {cyclic} is = omega (arith, is.few_cyclic, is.input_limit, is.line_limit, bit_lines-few E.lines)
