use Rattle.std.proofs.Common.{◌≡◌, ◌++◌, map}
use Rattle.argos_core.specs.Codes.{codes_of}
use Rattle.argos_core.specs.Configurations.{AreOfParts}
use Rattle.argos_core.specs.Modules.{AreShapedParts}
use Rattle.argos_core.specs.Views.{process_of, processes_of, configuration_of, configurations_of}
use Rattle.argos_core.proofs.codes.+encode.Given as goal

-- with the codes of the parts that are left come all codes
abbrev pub invariant-encode_each-loop-part : goal.invariant-encode_each-loop-part
invariant-encode_each-loop-part l = record {
  shaped : AreShapedParts (processes_of (map process_of l.part-iterator.a.rest.now));
  fits : AreOfParts (processes_of (map process_of l.part-iterator.a.rest.now)) (configurations_of (map configuration_of l.part-iterator.b.rest.now));
  codes : l.codes.items ++ codes_of (processes_of (map process_of l.part-iterator.a.rest.now)) (configurations_of (map configuration_of l.part-iterator.b.rest.now)) ≡ l.initial.codes.items ++ codes_of (processes_of (map process_of l.parts)) (configurations_of (map configuration_of l.configs));
}
