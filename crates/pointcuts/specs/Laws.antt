-- Laws of the aspects of trees. Source: this project.
use Rattle.std.specs.Prelude.{◌≡◌, ℕ, List, ◌++◌, length}
use Rattle.argos_aspects.specs.Aspects.{Aspect, Fits}
use Rattle.argos_base.specs.Names.{AreDistinct}
use Rattle.argos_core.specs.Overlaps.{IsGood}
use Rattle.argos_grammar.specs.Forms.{AspectForm}
use Rattle.argos_grammar.specs.Text.{IsAspectForm, IsAspectText}
use Rattle.line_format.specs.FileNames.{FileNames}
use Rattle.pointcuts.specs.Pointcuts.{IsAspectOf, AspectFault, IsAspectFault}

-- an aspect of a tree whose observer is good fits an interface with the base's names
abbrev pub AspectsFit : Type 0
AspectsFit = (t : AspectForm) (n : FileNames) (A : Aspect) → IsAspectOf t n A → IsGood A.observer → Fits A (length n.inputs) (length n.outputs)

-- over a base without two equal names a tree tells one aspect at most
abbrev pub OneAspect : Type 0
OneAspect = (t : AspectForm) (n : FileNames) (A B : Aspect) → AreDistinct (n.inputs ++ n.outputs) → IsAspectOf t n A → IsAspectOf t n B → A ≡ B

-- the tree of a text has one fault at most
abbrev pub OneAspectFault : Type 0
OneAspectFault = (bs : List ℕ) (t : AspectForm) (n : FileNames) (f g : AspectFault) → IsAspectText bs t → IsAspectFault t n f → IsAspectFault t n g → f ≡ g

-- a tree that tells an aspect has no fault
abbrev pub NotBoth : Type 0
NotBoth = (t : AspectForm) (n : FileNames) (A : Aspect) (f : AspectFault) → IsAspectOf t n A → IsAspectFault t n f → ⊥

pub data Answered (t : AspectForm) (n : FileNames) : Type 0 where
  an_aspect : (A : Aspect) → IsAspectOf t n A → Answered t n
  a_fault : (f : AspectFault) → IsAspectFault t n f → Answered t n

-- a well-formed tree tells an aspect or has a fault
abbrev pub SomeAspectAnswer : Type 0
SomeAspectAnswer = (t : AspectForm) (n : FileNames) → IsAspectForm t → Answered t n
