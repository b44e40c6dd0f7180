-- What is taken from the front of a line: the value, and the bytes that are left.
use Rattle.std.specs.Prelude.{◌≡◌, ℕ, List, ◌++◌, map, Option, Some, None, Result, Ok, Err}
use Rattle.eqn_core.specs.Equations.{Literal}
use Rattle.eqn_core.specs.Views.{literal_of}
use Rattle.eqn_core.specs.declared.system.Lit.{Lit}
use Rattle.c_step.specs.inner.Pieces.{Taken, taken}
use Rattle.c_step.specs.declared.errors.CError.{CError}
use Rattle.c_step.specs.declared.errors.CError.TheVariants.{NotSubset, OutOfMemory}
use Rattle.c_step.specs.declared.pieces.Pieces.{Pieces}

-- the bytes say nothing, and the error tells the line; want of memory may always come
abbrev pub Refuses : {A : Type 0} → ℕ → Option A → CError → Type 0
Refuses at said (NotSubset n) = (n ≡ at) × (said ≡ None)
Refuses at said OutOfMemory = Unit {0}

abbrev pub TakesText : Option (List ℕ) → Pieces → Pieces → Result (Unit {0}) CError → Type 0
TakesText said old new (Ok u) = (said ≡ Some new.rest.now) × (new.at ≡ old.at)
TakesText said old new (Err e) = Refuses old.at said e

abbrev pub Takes : {X A : Type 0} → (X → A) → Option (Taken A) → Pieces → Pieces → Result X CError → Type 0
Takes view said old new (Ok x) = (said ≡ Some (taken (view x) new.rest.now)) × (new.at ≡ old.at)
Takes view said old new (Err e) = Refuses old.at said e

-- the same of all bytes that are left
abbrev pub Reads : {X A : Type 0} → (X → A) → ℕ → Option A → Result X CError → Type 0
Reads view at said (Ok x) = said ≡ Some (view x)
Reads view at said (Err e) = Refuses at said e

-- literals are appended
abbrev pub ReadsMore : List Lit → List Lit → ℕ → Option (List Literal) → Result (Unit {0}) CError → Type 0
ReadsMore old new at said (Ok u) = (more : List Literal) × (said ≡ Some more) × (map literal_of new ≡ map literal_of old ++ more)
ReadsMore old new at said (Err e) = Refuses at said e
