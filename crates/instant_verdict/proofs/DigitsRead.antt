-- Codes, sets and memories read off lists of truth values.
use Rattle.std.proofs.Common.{◌≡◌, ℕ, zero, suc, ◌+◌, ◌*◌, ◌^◌, ◌<◌, ◌≤◌, List, [], ◌∷◌, ◌++◌, Bool, true, false, slice_index_or, All, length, take, drop, replicate, refl, sym, ap, ◌∙◌, arith, append_assoc, length-append}
use Rattle.std.proofs.lemmas.List.{drop_more, length-drop}
use Rattle.std.proofs.Math.Seq.{take-suc}
use mir.Val.{bool_byte}
use Rattle.argos_base.specs.SignalSets.{SignalSet, empty}
use Rattle.eqn_completion.specs.Binary.{number, memory_of, digits_in}
use Rattle.eqn_dd.specs.Placed.{Register}
use Rattle.instant_verdict.specs.inner.Decoded.{register_widths}

abbrev pub bit : Bool → ℕ
bit b = bool_byte b

power-more : (n : ℕ) → 2 ^ suc n ≡ 2 ^ n + 2 ^ n
power-more n = omega arith

longer : (bits : List Bool) (b : Bool) → length (bits ++ b ∷ []) ≡ suc (length bits)
longer bits b = length-append bits (b ∷ []) ∙ omega arith

-- a digit more behind the others
pub number-more : (bits : List Bool) (b : Bool) → number (bits ++ b ∷ []) ≡ number bits * 2 + bit b
number-more [] true = refl
number-more [] false = refl
number-more (true ∷ bits) b =
    let e = number-more bits b in
    let wide : 2 ^ length (bits ++ b ∷ []) ≡ 2 ^ length bits + 2 ^ length bits = ap (λ n. 2 ^ n) (longer bits b) ∙ power-more (length bits) in
    omega (arith, e, wide)
number-more (false ∷ bits) b = let e = number-more bits b in omega (arith, e)

-- the code of the first i digits
pub record IsCodeSoFar (digits : List Bool) (i code : ℕ) : Type 0 where
  pub is : code ≡ number (take i digits)
  pub below : code < 2 ^ i

-- the first i numbers are as in the list, and the others aren't set yet
pub record IsSetSoFar (values : List Bool) (i : ℕ) (set : SignalSet) : Type 0 where
  pub sized : length set ≡ length values
  pub same : take i set ≡ take i values

-- the first i codes are read, and the rest stands behind them
pub record AreCodesSoFar (widths : List ℕ) (bits : List Bool) (i : ℕ) (codes : List ℕ) (rest : List Bool) : Type 0 where
  pub codes_are : codes ++ memory_of (drop i widths) rest ≡ memory_of widths bits
  pub behind : drop (digits_in (drop i widths)) rest ≡ drop (digits_in widths) bits
  pub enough : digits_in (drop i widths) ≤ length rest

small-bit : (b : Bool) → bit b < 2
small-bit true = omega arith
small-bit false = omega arith

pub code_more : (digits : List Bool) (i code : ℕ) → i < length digits → IsCodeSoFar digits i code
    → IsCodeSoFar digits (i + 1) (code * 2 + bit (slice_index_or digits i false))
code_more digits i code inside before =
    let b = slice_index_or digits i false in
    let next : i + 1 ≡ suc i = omega arith in
    let wide : 2 ^ (i + 1) ≡ 2 ^ i + 2 ^ i = ap (λ n. 2 ^ n) next ∙ power-more i in
    record {
      is = ap (λ n. n * 2 + bit b) before.is ∙ sym (number-more (take i digits) b)
          ∙ ap number (sym (take-suc digits i false inside)) ∙ ap (λ n. number (take n digits)) (sym next);
      below = let low = before.below in let one = small-bit b in omega (arith, wide, low, one);
    }

abbrev nothing : List Bool
nothing = []

drop-nothing : (n : ℕ) → drop n nothing ≡ nothing
drop-nothing zero = refl
drop-nothing (suc n) = refl

drop_add : (w n : ℕ) (bits : List Bool) → drop (w + n) bits ≡ drop n (drop w bits)
drop_add zero n bits = ap (λ k. drop k bits) (omega arith)
drop_add (suc w) n [] = drop-nothing (suc w + n) ∙ sym (drop-nothing n)
drop_add (suc w) n (b ∷ bits) = let e : suc w + n ≡ suc (w + n) = omega arith in ap (λ k. drop k (b ∷ bits)) e ∙ drop_add w n bits

pub codes_more : (widths : List ℕ) (bits : List Bool) (i : ℕ) (codes : List ℕ) (rest : List Bool) → i < length widths
    → AreCodesSoFar widths bits i codes rest
    → AreCodesSoFar widths bits (i + 1) (codes ++ number (take (slice_index_or widths i 0) rest) ∷ []) (drop (slice_index_or widths i 0) rest)
codes_more widths bits i codes rest inside before =
    let w = slice_index_or widths i 0 in
    let here : drop i widths ≡ w ∷ drop (i + 1) widths = drop_more widths i 0 inside in
    record {
      codes_are = append_assoc codes (number (take w rest) ∷ []) (memory_of (drop (i + 1) widths) (drop w rest))
          ∙ ap (λ ws. codes ++ memory_of ws rest) (sym here) ∙ before.codes_are;
      behind = sym (drop_add w (digits_in (drop (i + 1) widths)) rest)
          ∙ ap (λ ws. drop (digits_in ws) rest) (sym here) ∙ before.behind;
      enough = let all = before.enough in let e = ap digits_in here in omega (arith, all, e, length-drop w rest);
    }

pub digits-sixteen : (n : ℕ) → digits_in (replicate n 16) ≡ 16 * n
digits-sixteen zero = refl
digits-sixteen (suc n) = let e = digits-sixteen n in omega (arith, e)

pub none_set : (values : List Bool) (set : SignalSet) (n : ℕ) → n ≡ length values → set ≡ empty n → IsSetSoFar values 0 set
none_set values set n same is = record { sized = ap length is ∙ length-empty n ∙ same; same = refl }
  where
    length-empty : (n : ℕ) → length (empty n) ≡ n
    length-empty zero = refl
    length-empty (suc n) = ap suc (length-empty n)

pub narrow_widths : (regs : List Register) → All (λ (r : Register). r.1 ≤ 16) regs → All (λ (w : ℕ). w ≤ 16) (register_widths regs)
narrow_widths [] narrow k d below = absurd (omega arith)
narrow_widths (r ∷ regs) narrow zero d below = narrow 0 r (omega arith)
narrow_widths (r ∷ regs) narrow (suc k) d below = narrow_widths regs (λ j e inside. narrow (suc j) e (omega arith)) k d (omega arith)
