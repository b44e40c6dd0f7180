-- What can be simulated. Source: this project.
use Rattle.std.specs.Prelude.{List}
use Rattle.argos_base.specs.Names.{Spelled}
use Rattle.argos_base.specs.SignalSets.{SignalSet}
use Rattle.argos_aspects.specs.Weaving.{IsWovenTrace}
use Rattle.argos_compile.specs.Weaving.{WovenProgram}
use Rattle.argos_core.specs.Process.{PlainModule}
use Rattle.c_step.specs.CRuns.{CRuns}
use Rattle.c_step.specs.CStep.{CStep}
use Rattle.eqn_core.specs.Equations.{Equations}
use Rattle.eqn_core.specs.Solutions.{Runs}
use Rattle.line_format.specs.FileNames.{FileNames}

abbrev pub names_in : PlainModule → FileNames
names_in p = record { inputs = p.inputs; outputs = p.outputs }

-- a program with its aspects, the system of equations of a file with its names, or the step of a C file
pub data Runnable : Type 0 where
  program : WovenProgram → Runnable
  equations : Equations → FileNames → Runnable
  c_steps : CStep → Runnable

abbrev pub input_names : Runnable → List Spelled
input_names (program x) = x.base.inputs
input_names (equations E n) = n.inputs
input_names (c_steps s) = s.names.inputs

abbrev pub output_names : Runnable → List Spelled
output_names (program x) = x.base.outputs
output_names (equations E n) = n.outputs
output_names (c_steps s) = s.names.outputs

-- from its start the inputs can give these outputs
abbrev pub HasTrace : Runnable → List SignalSet → List SignalSet → Type 0
HasTrace (program x) = IsWovenTrace x.base x.aspects
HasTrace (equations E n) = Runs E
HasTrace (c_steps s) = CRuns s
