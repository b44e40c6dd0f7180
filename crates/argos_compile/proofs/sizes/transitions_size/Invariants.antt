use Rattle.std.proofs.Common.{◌≡◌, ◌+◌, map, drop}
use Rattle.argos_core.specs.Sizes.{transitions_size}
use Rattle.argos_core.specs.Views.{transition_of}
use Rattle.argos_compile.proofs.sizes.transitions_size.Given as goal

abbrev pub invariant-loop-transition : goal.invariant-loop-transition
invariant-loop-transition l = l.size + transitions_size (map transition_of (drop l.transition-index l.transitions)) ≡ transitions_size (map transition_of l.transitions)
