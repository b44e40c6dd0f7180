-- Laws of C files. Source: this project.
use Rattle.std.specs.Prelude.{◌≡◌, ℕ, List, [], ◌++◌}
use Rattle.c_step.specs.CStep.{CStep, IsCStep}
use Rattle.line_format.specs.Lines.{IsFile}
use Rattle.c_step.specs.CFile.{CStage, c_format, c_text, IsCText, CFault}

-- the lines that lead to the end are those of a step
pub record CTextsAreFiles : Type 0 where
  pub there : (bs : List ℕ) (s : CStep) → IsCText bs s → (t : CStage) × IsFile c_format bs t × (t.step ≡ s)
  pub back : (bs : List ℕ) (t : CStage) → IsFile c_format bs t → IsCText bs t.step

-- a text, or its first bad line
pub data CTextOrFault (bs : List ℕ) : Type 0 where
  text : (s : CStep) → IsCText bs s → CTextOrFault bs
  fault : (number : ℕ) → CFault bs number → CTextOrFault bs

pub record CFileLaws : Type 0 where
  -- a step has a spelling
  pub spelled : (s : CStep) → IsCStep s → IsCText (c_text s) s
  -- a text says one step
  pub one_reading : (bs : List ℕ) (s s' : CStep) → IsCText bs s → IsCText bs s' → s ≡ s'
  -- no text begins another
  pub no_beginning : (bs more : List ℕ) (s s' : CStep) → IsCText bs s → IsCText (bs ++ more) s' → more ≡ []
  -- a text has no bad line, and all other bytes have exactly one first bad line
  pub no_fault : (bs : List ℕ) (s : CStep) (number : ℕ) → IsCText bs s → CFault bs number → ⊥
  pub some_fault : (bs : List ℕ) → CTextOrFault bs
  pub one_fault : (bs : List ℕ) (number number' : ℕ) → CFault bs number → CFault bs number' → number ≡ number'
