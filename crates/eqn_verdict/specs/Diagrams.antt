-- What the steps over diagrams find: functions of all variables, of which the first are register bits and inputs, and the others the cyclic bits. Source: this project.
use Rattle.std.specs.Prelude.{◌≡◌, ◌↔◌, ℕ, suc, ◌+◌, ◌-◌, ◌≤◌, ◌<◌, List, [], ◌∷◌, ◌++◌, Bool, true, false, ◌&&◌, not, if◌then◌else◌, length, take, drop, slice_set, Contains}
use Rattle.argos_base.specs.SignalSets.{SignalSet, has}
use Rattle.dd_core.specs.Functions.{Function, AreEqual, constant}
use Rattle.dd_ops.specs.Least.{IsLeast}
use Rattle.dd_ops.specs.Quantified.{IsExists}
use Rattle.eqn_verdict.specs.Searching.{Test, some, least, IsFirst}
use Rattle.eqn_verdict.specs.Solved.{in_least}
use Rattle.eqn_completion.specs.Findings.{Finding}

-- the list holds exactly the c numbers from a on
abbrev pub AreFrom : ℕ → ℕ → List ℕ → Type 0
AreFrom a c vars = (k : ℕ) → (Contains vars k) ↔ ((a ≤ k) × (k < a + c))

-- g is f, whose variables are a and c in number
abbrev pub Splits : ℕ → ℕ → Function → Finding → Type 0
Splits a c g f = (y x : SignalSet) → length y ≡ a → length x ≡ c → g (y ++ x) ≡ f y x

-- quantifying the last c variables tells whether some values of them pass
abbrev pub ExistsIsSome : Type 0
ExistsIsSome = (a c : ℕ) (vars : List ℕ) (g h : Function) (f : Finding) → AreFrom a c vars → IsExists (a + c) vars g h → Splits a c g f → Splits a c h (λ y x. some c (f y))

-- of a function of the first a variables alone the least values begin with its first ones
abbrev pub LeastIsFirst : Type 0
LeastIsFirst = (a c : ℕ) (h : Function) (f : Test) (z : SignalSet) → Splits a c h (λ y x. f y) → IsLeast (a + c) h z → IsFirst a f (take a z)

-- and if it is false everywhere, no values pass
abbrev pub NoneIsFalse : Type 0
NoneIsFalse = (a c : ℕ) (h : Function) (f : Test) → Splits a c h (λ y x. f y) → AreEqual (a + c) h (constant false) → (y : SignalSet) → length y ≡ a → f y ≡ false

abbrev pub are_same : List Bool → List Bool → Bool
are_same [] [] = true
are_same [] (b ∷ y) = false
are_same (a ∷ x) [] = false
are_same (a ∷ x) (b ∷ y) = (if b then a else not a) && are_same x y

-- f, but false elsewhere than at z
abbrev pub pinned_at : SignalSet → Finding → Finding
pinned_at z f y x = are_same y z && f y x

-- a function that is pinned to z is false everywhere exactly where no values of the last variables pass at z
abbrev pub PinnedIsFalse : Type 0
PinnedIsFalse = (a c : ℕ) (g : Function) (f : Finding) (z : SignalSet) → length z ≡ a → Splits a c g (pinned_at z f) → (AreEqual (a + c) g (constant false)) ↔ (some c (f z) ≡ false)

-- the least values are found one after the other: this one is true exactly where no values pass that have the earlier ones and false here
abbrev pub LeastDigit : Type 0
LeastDigit = (c j : ℕ) (f : Test) → j < c → has (least c f) j ≡ not (some (c - suc j) (λ x. f (take j (least c f) ++ false ∷ x)))

-- f, where the first j cyclic bits are set to their least values
abbrev pub partly : ℕ → ℕ → Finding → Finding
partly c j f y x = f y (take j (least c (f y)) ++ drop j x)

-- and with one more set
abbrev pub PartlyNext : Type 0
PartlyNext = (c j : ℕ) (f : Finding) (y x : SignalSet) → j < c → length x ≡ c → partly c (suc j) f y x ≡ partly c j f y (slice_set x j (has (least c (f y)) j))

-- So the roots of the solving: where all structural values have consistent ones, the cyclic bit j is in the least ones exactly where the values are structural and none pass that have the earlier least ones and false here.
abbrev pub RootsAreLeast : Type 0
RootsAreLeast = (c j : ℕ) (structural : Test) (consistent : Finding) (y : SignalSet) → j < c → (structural y ≡ true → some c (consistent y) ≡ true)
    → let f : Test = λ x. structural y && consistent y x in (structural y && not (some (c - suc j) (λ x. f (take j (least c f) ++ false ∷ x)))) ≡ in_least c structural consistent j y
