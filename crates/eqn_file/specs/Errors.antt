-- What the errors of the reader stand for. Source: this project.
use Rattle.std.specs.Prelude.{ℕ, List}
use Rattle.eqn_file.specs.EquationFile.{EquationKind, spelling, range, repeated_name, behind_end, EquationFault}
use Rattle.eqn_file.specs.declared.errors.EqKind.{EqKind}
use Rattle.eqn_file.specs.declared.errors.EqKind.TheVariants.{Spelling, Range, Name, After}
use Rattle.eqn_file.specs.declared.errors.EqError.{EqError}
use Rattle.eqn_file.specs.declared.errors.EqError.TheVariants.{Line, OutOfMemory}

abbrev pub kind_of : EqKind → EquationKind
kind_of Spelling = spelling
kind_of Range = range
kind_of Name = repeated_name
kind_of After = behind_end

-- the error tells the first bad line of the bytes and its kind; want of memory may always come
abbrev pub TellsFault : List ℕ → EqError → Type 0
TellsFault bs (Line at kind) = EquationFault bs at (kind_of kind)
TellsFault bs OutOfMemory = Unit {0}
