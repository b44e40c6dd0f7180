-- The names of inputs and outputs that a file gives. Source: this project.
use Rattle.std.specs.Prelude.{◌≡◌, List, ◌++◌, length, IsTrue}
use Rattle.std.specs.List.{list_all}
use Rattle.argos_base.specs.Names.{Spelled, AreDistinct}
use Rattle.argos_base.specs.Spelling.{is_name}
use Rattle.argos_base.specs.declared.names.Names.{Names}
use Rattle.eqn_core.specs.Equations.{Equations}

pub record FileNames : Type 0 where
  pub inputs : List Spelled
  pub outputs : List Spelled

-- as many names as inputs and outputs, each a name, and no two equal
pub record HasNames (E : Equations) (n : FileNames) : Type 0 where
  pub inputs : length n.inputs ≡ E.inputs
  pub outputs : length n.outputs ≡ length E.outputs
  pub spelled : IsTrue (list_all is_name (n.inputs ++ n.outputs))
  pub distinct : AreDistinct (n.inputs ++ n.outputs)

-- the names that the type holds
abbrev pub names_of : Names → FileNames
names_of n = record { inputs = n.inputs; outputs = n.outputs }
