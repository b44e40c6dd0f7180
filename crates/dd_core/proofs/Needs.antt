-- A job whose operations are counted answers Budget only below its need. Source: this project.
use Rattle.std.proofs.Common.{◌≡◌, ℕ, zero, suc, ◌+◌, ◌*◌, ◌^◌, ◌<◌, ◌≤◌, ap, subst, ◌∙◌, arith}
use Rattle.std.proofs.Math.Nat.{mul-le-mul_right, add-mul, one-le-pow}
use Rattle.dd_core.specs.Functions.{need}
use Rattle.dd_core.specs.Arenas.{ArenaView, IsEmpty, AddsAtMost, HasNoRoom}
use Rattle.dd_core.proofs.FunctionCount.{fewer}

-- k operations with at most m nodes each, after two constants, are fewer than n times m nodes
counted : (n k m used : ℕ) → k < n → 2 < m → used ≤ 2 + k * m → used < n * m
counted n k m used less some few =
    let one_more : (k + 1) * m ≤ n * m = mul-le-mul_right m (omega (arith, less)) in
    let apart : (k + 1) * m ≡ k * m + 1 * m = add-mul k 1 m in
    omega (arith, one_more, apart, few, some)

below_product : (n k v budget : ℕ) → 2 ≤ budget → budget < 2 ^ 2 ^ v → k < n → budget ≤ 2 + k * 2 ^ (v + 1) → budget < n * 2 ^ (v + 1)
below_product n k zero budget least few less used = absurd (omega (arith, least, few))
below_product n k (suc v) budget least few less used =
    let some : 1 ≤ 2 ^ v = one-le-pow v 2 (omega arith) in
    let wide : 2 ^ (suc v + 1) ≡ 2 ^ suc (suc v) = ap (λ e. 2 ^ e) (omega arith) in
    counted n k (2 ^ (suc v + 1)) budget less (omega (arith, some, wide)) used

pub below_need : (n k v budget : ℕ) (begin end : ArenaView) → IsEmpty v budget begin → AddsAtMost k begin end → k < n → HasNoRoom end → budget < need n v
below_need n k v budget begin end empty adds less room =
    let variables : end.variables ≡ v = adds.keeps.variables ∙ empty.variables in
    let budgets : end.budget ≡ budget = adds.keeps.budget ∙ empty.budget in
    let few : budget < 2 ^ 2 ^ v = subst (λ b. b < 2 ^ 2 ^ v) budgets (subst (λ w. end.budget < 2 ^ 2 ^ w) variables (fewer end adds.arena room.full room.lacks)) in
    let used : budget ≤ 2 + k * 2 ^ (v + 1) =
    subst (λ w. budget ≤ 2 + k * 2 ^ (w + 1)) empty.variables (omega (arith, adds.few, empty.used, room.full, budgets)) in
    let product : budget < n * 2 ^ (v + 1) = below_product n k v budget (omega (arith, adds.arena.least_budget, budgets)) few less used in
    omega (arith, few, product)
