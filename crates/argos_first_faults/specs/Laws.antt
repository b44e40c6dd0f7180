-- Texts have a tree, or a first fault.
use Rattle.std.specs.Prelude.{ℕ, List}
use Rattle.argos_grammar.specs.DueSymbols.{Rule, program, aspect, cert}
use Rattle.argos_grammar.specs.Faults.{Kind, FirstFault}
use Rattle.argos_grammar.specs.Text.{IsText, IsAspectText, IsCertText}

-- the bytes are the text of a tree, or have a first fault where they should follow this rule
pub data TreeOrFault {T : Type 0} (Is : List ℕ → T → Type 0) (start : Rule) (bs : List ℕ) : Type 0 where
  tree : (t : T) → Is bs t → TreeOrFault Is start bs
  fault : (at : ℕ) (kind : Kind) → FirstFault start bs at kind → TreeOrFault Is start bs

abbrev pub ProgramsHaveATreeOrAFault : Type 0
ProgramsHaveATreeOrAFault = (bs : List ℕ) → TreeOrFault IsText program bs

abbrev pub AspectsHaveATreeOrAFault : Type 0
AspectsHaveATreeOrAFault = (bs : List ℕ) → TreeOrFault IsAspectText aspect bs

abbrev pub CertificatesHaveATreeOrAFault : Type 0
CertificatesHaveATreeOrAFault = (bs : List ℕ) → TreeOrFault IsCertText cert bs
