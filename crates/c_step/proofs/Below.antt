-- The tests on numbers, and what they say.
use Rattle.std.proofs.Common.{ℕ, ◌<◌, IsTrue, arith}
use Rattle.std.specs.Prelude.{nat_lt}
use Rattle.std.proofs.lemmas.Bool.Decides.{nat_tests}

pub below : (k n : ℕ) → IsTrue (nat_lt k n) → k < n
below k n h = grind (arith, nat_tests)

pub below_test : (k n : ℕ) → k < n → IsTrue (nat_lt k n)
below_test k n h = grind (arith, nat_tests)
