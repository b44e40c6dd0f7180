-- What is taken from the words of a line: the value, whether its numbers are in their ranges, and the words that are left.
use Rattle.std.specs.Prelude.{◌≡◌, ℕ, List, ◌⊎◌, Bool, ◌&&◌, Option, Some, None, Result, Ok, Err, IsTrue, nat_lt}
use Rattle.eqn_file.specs.EquationFile.{EquationKind, spelling}
use Rattle.eqn_file.specs.Errors.{kind_of}
use Rattle.eqn_file.specs.inner.Words.{words_left}
use Rattle.eqn_file.specs.inner.WordReading.{Taken, taken, number}
use Rattle.eqn_file.specs.declared.errors.EqError.{EqError}
use Rattle.eqn_file.specs.declared.errors.EqError.TheVariants.{Line, OutOfMemory}
use Rattle.eqn_file.specs.declared.errors.EqKind.TheVariants.{Spelling}
use Rattle.eqn_file.specs.declared.words.LineWords.{LineWords}

-- the words say nothing, and the error tells so; want of memory may always come
abbrev pub IsMisspelt : {A : Type 0} → ℕ → Option A → EqError → Type 0
IsMisspelt at said (Line n kind) = (n ≡ at) × (kind ≡ Spelling) × (said ≡ None)
IsMisspelt at said OutOfMemory = Unit {0}

-- the digits spell a number, and n is it where it is below the end
pub record IsNumber (digits : List ℕ) (end : ℕ) (before after : Bool) (n : ℕ) : Type 0 where
  pub value : ℕ
  pub spelt : number digits ≡ Some value
  pub fits : after ≡ (before && nat_lt value end)
  pub same : IsTrue after → n ≡ value

-- a value was said and taken; it is the one where its numbers are in their ranges
pub record IsTaken {X A : Type 0} (view : X → A) (said : Option (Taken A)) (in_range : A → Bool) (old new : LineWords) (x : X) : Type 0 where
  pub value : A
  pub words : said ≡ Some (taken value (words_left new.left))
  pub fits : new.fits ≡ (old.fits && in_range value)
  pub same : IsTrue new.fits → view x ≡ value
  pub line : new.at ≡ old.at

abbrev pub Takes : {X A : Type 0} → (X → A) → Option (Taken A) → (A → Bool) → LineWords → LineWords → Result X EqError → Type 0
Takes view said in_range old new (Ok x) = IsTaken view said in_range old new x
Takes view said in_range old new (Err e) = IsMisspelt old.at said e

-- the same of all words that are left
pub record IsWhole {X A : Type 0} (view : X → A) (said : Option A) (in_range : A → Bool) (old new : LineWords) (x : X) : Type 0 where
  pub value : A
  pub words : said ≡ Some value
  pub fits : new.fits ≡ (old.fits && in_range value)
  pub same : IsTrue new.fits → view x ≡ value
  pub line : new.at ≡ old.at

abbrev pub TakesAll : {X A : Type 0} → (X → A) → Option A → (A → Bool) → LineWords → LineWords → Result X EqError → Type 0
TakesAll view said in_range old new (Ok x) = IsWhole view said in_range old new x
TakesAll view said in_range old new (Err e) = IsMisspelt old.at said e

-- nothing is said, or what is said is wrong in this way
abbrev pub IsBad : {A : Type 0} → Option A → (A → Option EquationKind) → EquationKind → Type 0
IsBad {A} said wrong k = ((said ≡ None) × (k ≡ spelling)) ⊎ ((a : A) × (said ≡ Some a) × (wrong a ≡ Some k))

-- a line says this and is right, or the error tells what is wrong with it
abbrev pub Gives : {X A : Type 0} → (X → A) → ℕ → Option A → (A → Option EquationKind) → Result X EqError → Type 0
Gives view at said wrong (Ok x) = (said ≡ Some (view x)) × (wrong (view x) ≡ None)
Gives view at said wrong (Err (Line n kind)) = (n ≡ at) × IsBad said wrong (kind_of kind)
Gives view at said wrong (Err OutOfMemory) = Unit {0}
