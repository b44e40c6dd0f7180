use Rattle.std.proofs.Common.{◌≡◌, ◌+◌, ◌++◌, map, drop}
use Rattle.argos_core.specs.Views.{transition_of}
use Rattle.eqn_build.specs.inner.BuilderViews.{fire_bit_of}
use Rattle.eqn_scheme.specs.Scheme.{transition_bits, transition_lines, transition_fires, refusals}
use Rattle.eqn_core.specs.Views.{literal_of, line_of}
use Rattle.eqn_build.proofs.states.put_transitions.Given as goal

-- with those of the transitions that are left come all
abbrev pub invariant-loop-transition : goal.invariant-loop-transition
invariant-loop-transition l = record {
  bits : l.builder.bits + transition_bits (map transition_of (drop l.transition-index l.transitions)) ≡ l.initial.builder.bits + transition_bits (map transition_of l.transitions);
  one : l.builder.one ≡ l.initial.builder.one;
  lines : map line_of l.builder.lines.items ++ transition_lines l.builder.one l.live l.builder.bits (map transition_of (drop l.transition-index l.transitions)) ≡ map line_of l.initial.builder.lines.items ++ transition_lines l.initial.builder.one l.live l.initial.builder.bits (map transition_of l.transitions);
  fires : map fire_bit_of l.fires.items ++ transition_fires l.builder.bits (map transition_of (drop l.transition-index l.transitions)) ≡ map fire_bit_of l.initial.fires.items ++ transition_fires l.initial.builder.bits (map transition_of l.transitions);
  refusals : map literal_of l.refusals.items ++ refusals l.builder.one l.builder.bits (map transition_of (drop l.transition-index l.transitions)) ≡ map literal_of l.initial.refusals.items ++ refusals l.initial.builder.one l.initial.builder.bits (map transition_of l.transitions);
}
