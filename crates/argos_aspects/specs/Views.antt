-- What the types of the code stand for. Source: this project.
use Rattle.std.specs.Prelude.{Bool, true, false}
use Rattle.argos_aspects.specs.Aspects.{Onset, to_initial, to_current, input, output}
use Rattle.argos_aspects.specs.Aspects as plain
use Rattle.argos_aspects.specs.declared.aspect.Advice.{Advice}
use Rattle.argos_aspects.specs.declared.aspect.Seen.{Seen}
use Rattle.argos_aspects.specs.declared.aspect.Seen.TheVariants.{Input, Output}

abbrev pub seen_of : Seen → plain.Seen
seen_of (Input k) = input k
seen_of (Output k) = output k

abbrev pub onset_of : Bool → Onset
onset_of true = to_current
onset_of false = to_initial

abbrev pub advice_of : Advice → plain.Advice
advice_of a = record { outs = a.outs; onset = onset_of a.current; trace = a.trace.items }
