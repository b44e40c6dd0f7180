-- The parts of reading a text as tokens.
use Rattle.std.specs.Prelude.{◌≡◌, ℕ, ◌+◌, ◌≤◌, List, ◌++◌, length, take, drop, IsTrue, false, ◌==◌, bytes_eq, codes}
use Rattle.std.specs.List.{AllByRecursion}
use Rattle.argos_tokens.specs.Tokens.{is_token, IsLongest, Skips, IsAtLineEnd, begins_blank}

-- Separators lead from here to there, at whatever places.
pub record SkipsTo (bs rest : List ℕ) : Type 0 where
  pub leads : (n m : ℕ) → n + length bs ≡ m + length rest → Skips n bs m rest

-- no separator begins there
pub record IsSolid (bs : List ℕ) : Type 0 where
  pub no_blank : begins_blank bs ≡ false
  pub no_comment : bytes_eq (take 2 bs) (codes "//") ≡ false

-- the rest is what stands behind the line at the front
pub record IsBehindLine (bs rest : List ℕ) : Type 0 where
  pub line : List ℕ
  pub whole : bs ≡ line ++ rest
  pub one_line : AllByRecursion (λ b. (b == 10) ≡ false) line
  pub at_end : IsAtLineEnd rest

-- the token at the front has so many bytes
pub record IsFront (n : ℕ) (bs : List ℕ) : Type 0 where
  pub within : n ≤ length bs
  pub token : IsTrue (is_token (take n bs))
  pub longest : IsLongest (take n bs) (drop n bs)

-- no token stands at the front
pub record BeginsNone (bs : List ℕ) : Type 0 where
  pub no_token : is_token (take 1 bs) ≡ false
  pub no_longer_token : is_token (take 2 bs) ≡ false
