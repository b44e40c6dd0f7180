-- Lines of one kind, as many as were announced: how a reader goes on through them.
use Rattle.std.specs.Prelude.{◌≡◌, ℕ, ◌+◌, suc, List, [], ◌∷◌, ◌++◌, false, Option, Some, None, Result, Ok, Err, nat_le, nat_lt, ◌&&◌, if◌then◌else◌}
use Rattle.argos_base.specs.Names.{Spelled}
use Rattle.argos_base.specs.Spelling.{is_one_of}
use Rattle.eqn_core.specs.Equations as plain
use Rattle.eqn_core.specs.Equations.{bit_lines, word_lines}
use Rattle.eqn_core.specs.Ordered.{line_below}
use Rattle.line_format.proofs.Options.{bind}
use Rattle.line_format.specs.Lines.{IsAt}
use Rattle.line_format.specs.declared.reader.LineReader.{LineReader}
use Rattle.eqn_file.specs.EquationFile.{Stage, FileLine, EquationKind, range, repeated_name, unless, is_nothing_due, wrong_line_at, after_line, equation_format}
use Rattle.eqn_file.specs.Errors.{TellsFault, kind_of}
use Rattle.eqn_file.specs.inner.Taking.{IsBad}
use Rattle.eqn_file.specs.inner.WordReading.{read, one_name}
use Rattle.eqn_file.specs.declared.errors.EqError.{EqError}
use Rattle.eqn_file.specs.declared.errors.EqError.TheVariants.{Line, OutOfMemory}

-- st k xs: k more such lines are due, and xs were read
pub record IsPart {A : Type 0} (say : A → FileLine) (said : List Spelled → Option A) (wrong : List A → A → Option EquationKind) (st : ℕ → List A → Stage) : Type 0 where
  pub reads : (k : ℕ) (xs : List A) (ws : List Spelled) → read (st (suc k) xs).due ws ≡ bind (said ws) (λ a. Some (say a))
  pub wrongs : (k : ℕ) (xs : List A) (a : A) → wrong_line_at (st (suc k) xs) (say a) ≡ wrong xs a
  pub next : (k : ℕ) (xs : List A) (a : A) → after_line (st (suc k) xs) (say a) ≡ st k (xs ++ a ∷ [])
  pub ongoing : (k : ℕ) (xs : List A) → is_nothing_due (st (suc k) xs).due ≡ false

-- the reader stands at this stage
abbrev pub StandsAt : List ℕ → LineReader → Stage → Type 0
StandsAt whole reader s = IsAt equation_format whole reader.number s reader.rest.now

-- from where so many are due, the reader has come to where so many are left, and read these
abbrev pub GoesOn : {A : Type 0} → (A → FileLine) → (List Spelled → Option A) → (List A → A → Option EquationKind) → LineReader → ℕ → LineReader → ℕ → List A → Type 0
GoesOn {A} say said wrong old count new left xs = (whole : List ℕ) (st : ℕ → List A → Stage) → IsPart say said wrong st → StandsAt whole old (st count []) → StandsAt whole new (st left xs)

-- or one of them is the first bad line
abbrev pub FailsIn : {A : Type 0} → (A → FileLine) → (List Spelled → Option A) → (List A → A → Option EquationKind) → LineReader → ℕ → EqError → Type 0
FailsIn {A} say said wrong old count e = (whole : List ℕ) (st : ℕ → List A → Stage) → IsPart say said wrong st → StandsAt whole old (st count []) → TellsFault whole e

-- what is wrong with a number outside its range, a name that stood before, a code, a line
abbrev pub outside : ℕ → ℕ → ℕ → Option EquationKind
outside start end n = unless range (nat_le start n && nat_lt n end)

abbrev pub stood_before : List Spelled → List Spelled → Spelled → Option EquationKind
stood_before before xs a = if is_one_of (before ++ xs) a then Some repeated_name else None

abbrev pub too_large : ℕ → Option EquationKind
too_large c = unless range (nat_lt c 65536)

abbrev pub reads_ahead : ℕ → ℕ → List plain.Line → plain.Line → Option EquationKind
reads_ahead inputs registers xs l = unless range (line_below (inputs + bit_lines xs) (registers + word_lines xs) l)

-- a line that is a new name appends it; else the error tells what is wrong with the line
abbrev pub AddsName : ℕ → List Spelled → List Spelled → List Spelled → List Spelled → Result (Unit {0}) EqError → Type 0
AddsName at words before old new (Ok u) = (name : Spelled) × (one_name words ≡ Some name) × (stood_before before old name ≡ None) × (new ≡ old ++ name ∷ [])
AddsName at words before old new (Err (Line n kind)) = (n ≡ at) × IsBad (one_name words) (stood_before before old) (kind_of kind)
AddsName at words before old new (Err OutOfMemory) = Unit {0}

-- the reader goes from one stage to another, or stops at the first bad line
abbrev pub Moves : Stage → LineReader → Stage → LineReader → Type 0
Moves s old t new = (whole : List ℕ) → StandsAt whole old s → StandsAt whole new t

abbrev pub Stops : Stage → LineReader → EqError → Type 0
Stops s old e = (whole : List ℕ) → StandsAt whole old s → TellsFault whole e
