-- What is found among the values of some bits, by tests that diagrams answer. Source: this project.
use Rattle.std.specs.Prelude.{◌≡◌, ℕ, zero, suc, List, [], ◌∷◌, Bool, true, false, ◌&&◌, ◌||◌, not, if◌then◌else◌, map, length}
use Rattle.argos_base.specs.Orders.{IsEarlier, digits}
use Rattle.argos_base.specs.SignalSets.{SignalSet}

-- a test of the values of some bits
abbrev pub Test : Type 0
Test = SignalSet → Bool

-- some values of c bits pass
abbrev pub some : ℕ → Test → Bool
some zero f = f []
some (suc c) f = some c (λ x. f (false ∷ x)) || some c (λ x. f (true ∷ x))

-- the least values of c bits that pass, where some do
abbrev pub least : ℕ → Test → SignalSet
least zero f = []
least (suc c) f = if some c (λ x. f (false ∷ x)) then false ∷ least c (λ x. f (false ∷ x)) else true ∷ least c (λ x. f (true ∷ x))

-- K and g, and K and not g
abbrev pub with : Test → Test → Test
with K g x = K x && g x

abbrev pub without : Test → Test → Test
without K g x = K x && not (g x)

-- among the values that pass K the test g has both answers
abbrev pub differs : ℕ → Test → Test → Bool
differs c K g = some c (with K g) && some c (without K g)

abbrev pub some_differ : ℕ → Test → List Test → Bool
some_differ c K [] = false
some_differ c K (g ∷ gs) = differs c K g || some_differ c K gs

-- the answers of the tests
abbrev pub answers : List Test → SignalSet → List Bool
answers gs x = map (λ g. g x) gs

-- the least answers among the values that pass K, where some do: the first test's answer first, false before true
abbrev pub least_answers : ℕ → Test → List Test → List Bool
least_answers c K [] = []
least_answers c K (g ∷ gs) = if some c (without K g) then false ∷ least_answers c (without K g) gs else true ∷ least_answers c (with K g) gs

-- whether these are the answers
abbrev pub has_answers : List Test → List Bool → Test
has_answers [] answers x = true
has_answers (g ∷ gs) [] x = false
has_answers (g ∷ gs) (b ∷ answers) x = (if b then g x else not (g x)) && has_answers gs answers x

-- of all values of n bits that pass these are the first
pub record IsFirst (n : ℕ) (f : Test) (y : SignalSet) : Type 0 where
  pub sized : length y ≡ n
  pub passes : f y ≡ true
  pub first : (z : SignalSet) → length z ≡ n → f z ≡ true → ¬ (IsEarlier (digits z) (digits y))

-- the tests whose flag is set
abbrev pub kept_tests : List Bool → List Test → List Test
kept_tests [] gs = gs
kept_tests (b ∷ flags) [] = []
kept_tests (b ∷ flags) (g ∷ gs) = if b then g ∷ kept_tests flags gs else kept_tests flags gs

-- a test whose flag isn't set has one answer for all values of c bits
abbrev pub AreConstant : ℕ → List Bool → List Test → Type 0
AreConstant c [] gs = Unit {0}
AreConstant c (b ∷ flags) [] = Unit {0}
AreConstant c (b ∷ flags) (g ∷ gs) = (b ≡ false → (x y : SignalSet) → length x ≡ c → length y ≡ c → g x ≡ g y) × AreConstant c flags gs
