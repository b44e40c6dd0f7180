-- Numbers and their binary digits.
use Rattle.std.proofs.Common.{◌≡◌, ℕ, zero, suc, ◌+◌, ◌*◌, ◌^◌, ◌<◌, List, [], ◌∷◌, ◌++◌, Bool, true, false, if◌then◌else◌, nat_eq, length, drop, get_or, length-append, length-drop, refl, ap, ◌∙◌, subst, arith}
use Rattle.std.specs.Prelude.{◌/◌, ◌%◌}
use Rattle.std.proofs.Math.Nat.{pow-suc, mod-lt, div-add-mod'}
use Rattle.std.proofs.lemmas.Nat.{mod-pow-add, shr-shr, pow-add, div-mul-add, mod-mul-add}
use Rattle.std.proofs.lemmas.List.{drop_more}
use Rattle.eqn_completion.specs.Binary.{number}
use Rattle.eqn_completion.proofs.Ordering.{number-below}

pub double : (w : ℕ) → 2 ^ suc w ≡ 2 ^ w + 2 ^ w
double w = omega (arith, pow-suc 2 w)

-- the code of the digits from place k on, of so many, by its first digit
pub number-drop : (bits : List Bool) (k p : ℕ) → k + suc p ≡ length bits → number (drop k bits) ≡ (if get_or bits k false then 2 ^ p else 0) + number (drop (k + 1) bits)
number-drop bits k p sized =
    let rest : length (drop (k + 1) bits) ≡ p = omega (arith, length-drop (k + 1) bits) in
    ap number (drop_more bits k false (omega arith))
    ∙ ap (λ (n : ℕ). (if get_or bits k false then 2 ^ n else 0) + number (drop (k + 1) bits)) rest

pub number-drop_below : (bits : List Bool) (k p : ℕ) → k + p ≡ length bits → number (drop k bits) < 2 ^ p
number-drop_below bits k p sized =
    let rest : length (drop k bits) ≡ p = omega (arith, length-drop k bits) in
    subst (λ (n : ℕ). number (drop k bits) < 2 ^ n) rest (number-below (drop k bits))

-- one digit more of a code
pub digit-more : (n p : ℕ) → n % 2 ^ (p + 1) ≡ (if nat_eq (n / 2 ^ p % 2) 1 then 2 ^ p else 0) + n % 2 ^ p
digit-more n p =
    let move : p + 1 ≡ 1 + p = omega arith in
    ap (λ (k : ℕ). n % 2 ^ k) move ∙ mod-pow-add n 1 p ∙ of_digit (n / 2 ^ p % 2) (mod-lt (n / 2 ^ p) (omega arith))
  where
    of_digit : (d : ℕ) → d < 2 → d * 2 ^ p + n % 2 ^ p ≡ (if nat_eq d 1 then 2 ^ p else 0) + n % 2 ^ p
    of_digit zero small = omega arith
    of_digit (suc zero) small = omega arith
    of_digit (suc (suc d)) small = absurd (omega arith)

pub number-push : (bits : List Bool) (b : Bool) → number (bits ++ b ∷ []) ≡ 2 * number bits + (if b then 1 else 0)
number-push [] true = refl
number-push [] false = refl
number-push (c ∷ bits) b =
    let sized : length (bits ++ b ∷ []) ≡ suc (length bits) = omega (arith, length-append bits (b ∷ [])) in
    ap (λ (n : ℕ). (if c then 2 ^ n else 0) + number (bits ++ b ∷ [])) sized
    ∙ ap (λ (n : ℕ). (if c then 2 ^ suc (length bits) else 0) + n) (number-push bits b)
    ∙ first c
  where
    first : (c : Bool) → (if c then 2 ^ suc (length bits) else 0) + (2 * number bits + (if b then 1 else 0)) ≡ 2 * ((if c then 2 ^ length bits else 0) + number bits) + (if b then 1 else 0)
    first true = omega (arith, double (length bits))
    first false = omega arith

-- half of a number, and its last digit
pub halved : (n k : ℕ) → n / 2 ^ k ≡ 2 * (n / 2 ^ (k + 1)) + (if nat_eq (n / 2 ^ k % 2) 1 then 1 else 0)
halved n k =
    let half = n / 2 ^ k in
    let next : half / 2 ≡ n / 2 ^ (k + 1) = shr-shr n k 1 in
    let whole : half / 2 * 2 + half % 2 ≡ half = div-add-mod' half 2 in
    let last : half % 2 ≡ (if nat_eq (half % 2) 1 then 1 else 0) = of_digit (half % 2) (mod-lt half (omega arith)) in
    omega (arith, next, whole, last)
  where
    of_digit : (d : ℕ) → d < 2 → d ≡ (if nat_eq d 1 then 1 else 0)
    of_digit zero small = refl
    of_digit (suc zero) small = refl
    of_digit (suc (suc d)) small = absurd (omega arith)

-- what stands before the last digits counts a multiple
number-front : (bits : List Bool) (k p : ℕ) → k + p ≡ length bits → (q : ℕ) × (number bits ≡ q * 2 ^ p + number (drop k bits))
number-front bits zero p sized = (0, omega arith)
number-front [] (suc k) p sized = absurd (omega arith)
number-front (b ∷ bits) (suc k) p sized =
    let rest = number-front bits k p (omega arith) in
    let at : length bits ≡ k + p = omega arith in
    let power : 2 ^ length bits ≡ 2 ^ k * 2 ^ p = ap (λ (n : ℕ). 2 ^ n) at ∙ pow-add 2 k p in
    of_first b rest.0 power rest.1
  where
    of_first : (b : Bool) (q : ℕ) → 2 ^ length bits ≡ 2 ^ k * 2 ^ p → number bits ≡ q * 2 ^ p + number (drop k bits) → (r : ℕ) × ((if b then 2 ^ length bits else 0) + number bits ≡ r * 2 ^ p + number (drop k bits))
    of_first true q power is = (2 ^ k + q, omega (arith, power, is))
    of_first false q power is = (q, omega (arith, is))

-- a digit by its place, 0 being the least significant
pub number-digit : (bits : List Bool) (k p : ℕ) → k + suc p ≡ length bits → nat_eq (number bits / 2 ^ p % 2) 1 ≡ get_or bits k false
number-digit bits k p sized =
    let front = number-front bits k (suc p) sized in
    let q = front.0 in
    let r = number (drop (k + 1) bits) in
    let small : r < 2 ^ p = number-drop_below bits (k + 1) p (omega arith) in
    let d = get_or bits k false in
    let digit = (if d then 1 else 0) in
    let whole : number bits ≡ (q * 2 + digit) * 2 ^ p + r = of_digit d q r (front.1 ∙ ap (λ (n : ℕ). q * 2 ^ suc p + n) (number-drop bits k p sized)) in
    let half : number bits / 2 ^ p ≡ q * 2 + digit = ap (λ (n : ℕ). n / 2 ^ p) whole ∙ div-mul-add (q * 2 + digit) (2 ^ p) r small in
    let last : number bits / 2 ^ p % 2 ≡ digit = ap (λ (n : ℕ). n % 2) half ∙ mod-mul-add q 2 digit (below d) in
    ap (λ (n : ℕ). nat_eq n 1) last ∙ back d
  where
    of_digit : (d : Bool) (q r : ℕ) → number bits ≡ q * 2 ^ suc p + ((if d then 2 ^ p else 0) + r) → number bits ≡ (q * 2 + (if d then 1 else 0)) * 2 ^ p + r
    of_digit true q r is = let e : q * 2 ^ suc p ≡ q * (2 ^ p + 2 ^ p) = ap (λ (n : ℕ). q * n) (double p) in omega (arith, is, e)
    of_digit false q r is = let e : q * 2 ^ suc p ≡ q * (2 ^ p + 2 ^ p) = ap (λ (n : ℕ). q * n) (double p) in omega (arith, is, e)

    below : (d : Bool) → (if d then 1 else 0) < 2
    below true = omega arith
    below false = omega arith

    back : (d : Bool) → nat_eq (if d then 1 else 0) 1 ≡ d
    back true = refl
    back false = refl
