use Rattle.std.proofs.Common.{◌≡◌, ◌+◌, ◌*◌, ◌≤◌, map, drop}
use Rattle.argos_core.specs.Views.{register_shape_of}
use Rattle.eqn_completion.specs.Binary.{digits_in}
use Rattle.eqn_dd.specs.Structural.{widths_of}
use Rattle.argos_compile.proofs.sizes.digits.Given as goal

abbrev pub invariant-loop-shape : goal.invariant-loop-shape
invariant-loop-shape l = record {
  sum : l.all + digits_in (widths_of (map register_shape_of (drop l.shape-index l.shapes))) ≡ digits_in (widths_of (map register_shape_of l.shapes));
  few : l.all ≤ 16 * l.shape-index;
}
