use Rattle.std.proofs.Common.{◌≡◌, map, drop}
use Rattle.argos_core.specs.Modules.{AreShapedParts}
use Rattle.argos_core.specs.inner.Reading.{read_parts}
use Rattle.argos_core.specs.Views.{process_of, processes_of, configuration_of}
use Rattle.argos_core.proofs.ReadLists.{prepended}
use Rattle.argos_core.proofs.decoder.Decoder.+decode.Given as goal

-- the parts that are left decide, behind the configurations that were read
abbrev pub invariant-parts-loop-part : goal.invariant-parts-loop-part
invariant-parts-loop-part l = record {
  shaped : AreShapedParts (processes_of (map process_of (drop l.part-index l.parts)));
  read : prepended (map configuration_of l.configs.items) (read_parts (processes_of (map process_of (drop l.part-index l.parts))) l.self.rest.now) ≡ read_parts (processes_of (map process_of l.parts)) l.initial.self.rest.now;
}
