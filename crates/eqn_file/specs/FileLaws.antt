-- Laws of equation files. Source: this project.
use Rattle.std.specs.Prelude.{◌≡◌, ℕ, List, [], ◌++◌}
use Rattle.eqn_core.specs.Equations.{Equations}
use Rattle.eqn_core.specs.Ordered.{IsOrdered}
use Rattle.line_format.specs.FileNames.{FileNames}
use Rattle.line_format.specs.FileNames.{HasNames}
use Rattle.line_format.specs.Lines.{IsFile}
use Rattle.eqn_file.specs.EquationFile.{Stage, stage, nothing_due, EquationKind, equation_format, file_text, IsEquationText, EquationFault}

-- the lines that lead to the end are those of an ordered system and its names
pub record EquationTextsAreFiles : Type 0 where
  pub there : (bs : List ℕ) (E : Equations) (n : FileNames) → IsEquationText bs E n → IsFile equation_format bs (stage nothing_due E n)
  pub back : (bs : List ℕ) (t : Stage) → IsFile equation_format bs t → IsEquationText bs t.system t.names

-- a text, or its first bad line
pub data EquationTextOrFault (bs : List ℕ) : Type 0 where
  text : (E : Equations) (n : FileNames) → IsEquationText bs E n → EquationTextOrFault bs
  fault : (number : ℕ) (k : EquationKind) → EquationFault bs number k → EquationTextOrFault bs

pub record EquationFileLaws : Type 0 where
  -- an ordered system with names has a spelling
  pub spelled : (E : Equations) (n : FileNames) → IsOrdered E → HasNames E n → IsEquationText (file_text E n) E n
  -- a text says one system and its names
  pub one_reading : (bs : List ℕ) (E E' : Equations) (n n' : FileNames) → IsEquationText bs E n → IsEquationText bs E' n' → (E ≡ E') × (n ≡ n')
  -- no text begins another
  pub no_beginning : (bs more : List ℕ) (E E' : Equations) (n n' : FileNames) → IsEquationText bs E n → IsEquationText (bs ++ more) E' n' → more ≡ []
  -- a text has no bad line, and all other bytes have exactly one first bad line
  pub no_fault : (bs : List ℕ) (E : Equations) (n : FileNames) (number : ℕ) (k : EquationKind) → IsEquationText bs E n → EquationFault bs number k → ⊥
  pub some_fault : (bs : List ℕ) → EquationTextOrFault bs
  pub one_fault : (bs : List ℕ) (number number' : ℕ) (k k' : EquationKind) → EquationFault bs number k → EquationFault bs number' k' → (number ≡ number') × (k ≡ k')
