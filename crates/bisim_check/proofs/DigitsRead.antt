-- Codes and sets read off values of variables, one after the other.
use Rattle.std.proofs.Common.{◌≡◌, ℕ, zero, suc, ◌+◌, ◌*◌, ◌^◌, ◌<◌, List, [], ◌∷◌, ◌++◌, Bool, true, false, if◌then◌else◌, slice_index_or, slice_set, length, map, take, drop, refl, sym, ap, ◌∙◌, arith}
use Rattle.std.proofs.lemmas.List.{take_more, take-set-le, get_or-drop, get_or-map, get_or-set_same, length-drop, length-map, length-set}
use mir.Val.{bool_byte}
use Rattle.argos_base.specs.SignalSets.{SignalSet, has, empty}
use Rattle.eqn_completion.specs.Binary.{number}
use Rattle.eqn_dd.proofs.Numbers.{number-push}

-- the code of the first i digits from variable `first` on
pub record IsCodeSoFar (values : List Bool) (first i code : ℕ) : Type 0 where
  pub is : code ≡ number (take i (drop first values))
  pub below : code < 2 ^ i

bit-value : (b : Bool) → bool_byte b ≡ (if b then 1 else 0)
bit-value true = refl
bit-value false = refl

small-bit : (b : Bool) → bool_byte b < 2
small-bit true = omega arith
small-bit false = omega arith

pub code_more : (values : List Bool) (first i code : ℕ) → first + i < length values → IsCodeSoFar values first i code
    → IsCodeSoFar values first (i + 1) (code * 2 + bool_byte (slice_index_or values (first + i) false))
code_more values first i code inside before =
    let rest = drop first values in
    let b = slice_index_or values (first + i) false in
    let there : i < length rest = omega (arith, length-drop first values, inside) in
    let same : slice_index_or rest i false ≡ b = get_or-drop first values i false in
    let next : i + 1 ≡ suc i = omega arith in
    let wide : 2 ^ (i + 1) ≡ 2 ^ i + 2 ^ i = ap (λ n. 2 ^ n) next ∙ power-more i in
    let whole : number (take (i + 1) rest) ≡ 2 * number (take i rest) + (if b then 1 else 0) =
    ap number (take_more rest i false there ∙ ap (λ c. take i rest ++ c ∷ []) same) ∙ number-push (take i rest) b in
    record {
      is = let was = before.is in let value = bit-value b in omega (arith, whole, was, value);
      below = let low = before.below in let one = small-bit b in omega (arith, wide, low, one);
    }
  where
    power-more : (n : ℕ) → 2 ^ suc n ≡ 2 ^ n + 2 ^ n
    power-more n = omega arith

-- the first i numbers are as in the list, and the others aren't set yet
pub record IsSetSoFar (values : List Bool) (i : ℕ) (set : SignalSet) : Type 0 where
  pub sized : length set ≡ length values
  pub same : take i set ≡ take i values

pub none_set : (values : List Bool) (set : SignalSet) (n : ℕ) → n ≡ length values → set ≡ empty n → IsSetSoFar values 0 set
none_set values set n same is = record { sized = ap length is ∙ length-empty n ∙ same; same = refl }
  where
    length-empty : (n : ℕ) → length (empty n) ≡ n
    length-empty zero = refl
    length-empty (suc n) = ap suc (length-empty n)

pub set_more : (values : List Bool) (ks : List ℕ) (i : ℕ) (set : SignalSet) → i < length ks → IsSetSoFar (map (has values) ks) i set
    → IsSetSoFar (map (has values) ks) (i + 1) (slice_set set i (slice_index_or values (slice_index_or ks i 0) false))
set_more values ks i set inside before =
    let all = map (has values) ks in
    let v = slice_index_or values (slice_index_or ks i 0) false in
    let put = slice_set set i v in
    let long : i < length all = omega (arith, inside, length-map ks (has values)) in
    let room : i < length set = let sized = before.sized in omega (arith, sized, long) in
    record {
      sized = length-set set i v ∙ before.sized;
      same = take_more put i false (omega (arith, length-set set i v, room))
          ∙ ap (λ l. l ++ slice_index_or put i false ∷ []) (take-set-le i set i v (omega arith) ∙ before.same)
          ∙ ap (λ b. take i all ++ b ∷ []) (get_or-set_same set i v false room ∙ sym (get_or-map (has values) ks i 0 false inside))
          ∙ sym (take_more all i false long);
    }
