-- Aspects of one program said over the names of another. Source: this project.
use Rattle.std.specs.Prelude.{map}
use Rattle.argos_base.specs.SignalSets.{SignalSet}
use Rattle.argos_core.specs.Process.{PlainModule}
use Rattle.argos_aspects.specs.Aspects.{Seen, input, output, Advice, Aspect}
use Rattle.argos_congruence.specs.NamedSets.{moved_number, moved_set}

abbrev pub moved_seen : PlainModule → PlainModule → Seen → Seen
moved_seen P Q (input k) = input (moved_number P.inputs Q.inputs k)
moved_seen P Q (output k) = output (moved_number P.outputs Q.outputs k)

-- sets of inputs, and of outputs, of P said over the names of Q
abbrev pub moved_inputs : PlainModule → PlainModule → SignalSet → SignalSet
moved_inputs P Q = moved_set P.inputs Q.inputs

abbrev pub moved_outputs : PlainModule → PlainModule → SignalSet → SignalSet
moved_outputs P Q = moved_set P.outputs Q.outputs

abbrev pub moved_advice : PlainModule → PlainModule → Advice → Advice
moved_advice P Q a = record { outs = moved_outputs P Q a.outs; onset = a.onset; trace = map (moved_inputs P Q) a.trace }

-- the aspect of P with each number replaced by Q's number of the same name
abbrev pub moved : PlainModule → PlainModule → Aspect → Aspect
moved P Q A = record { observer = A.observer; seen = map (moved_seen P Q) A.seen; advice = moved_advice P Q A.advice }
