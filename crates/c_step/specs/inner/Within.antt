-- The statements of a step name places that exist.
use Rattle.std.specs.Prelude.{length, IsTrue}
use Rattle.std.specs.List.{list_all}
use Rattle.c_step.specs.CStep.{CStep, IsCStep}
use Rattle.c_step.specs.inner.Ranges.{statement_within}

abbrev pub CStepsStayWithin : Type 0
CStepsStayWithin = (s : CStep) → IsCStep s → IsTrue (list_all (statement_within (length s.names.inputs) (length s.names.outputs) s.words s.bits) s.statements)
