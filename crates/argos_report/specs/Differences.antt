-- The texts of an equivalence that is refused. Source: this project.
use Rattle.std.specs.Prelude.{ℕ, List, ◌++◌, codes}
use Rattle.argos_base.specs.Names.{Spelled}
use Rattle.argos_base.specs.SignalSets.{SignalSet}
use Rattle.argos_core.specs.Process.{PlainModule}
use Rattle.trace_io.specs.Lines.{set_text}
use Rattle.argos_report.specs.States.{memory_text}
use Rattle.argos_report.specs.Texts.{line}

-- the memories of both sides, and the input by the left side's names
abbrev pub sides_text : PlainModule → PlainModule → List ℕ → List ℕ → SignalSet → List ℕ
sides_text P Q m n i = line (codes "left " ++ memory_text P m) ++ line (codes "right " ++ memory_text Q n) ++ line (codes "input " ++ set_text i P.inputs)

-- at related memories the sides differ in the output of this name
abbrev pub outputs_differ_text : PlainModule → PlainModule → List ℕ → List ℕ → SignalSet → Spelled → List ℕ
outputs_differ_text P Q m n i name = line (codes "no: outputs differ on " ++ name) ++ sides_text P Q m n i

-- from related memories a step leads to memories that aren't related
abbrev pub left_by_step_text : PlainModule → PlainModule → List ℕ → List ℕ → SignalSet → List ℕ
left_by_step_text P Q m n i = line (codes "no: related pair left by a step") ++ sides_text P Q m n i
