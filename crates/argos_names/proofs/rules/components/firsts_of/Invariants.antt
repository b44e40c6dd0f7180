use Rattle.std.proofs.Common.{map, take}
use Rattle.argos_grammar.specs.Views.{component_of}
use Rattle.argos_names.specs.inner.FirstPlaces.{AreFirst}
use Rattle.argos_names.proofs.rules.components.firsts_of.Given as goal

-- the first places among the components so far
abbrev pub invariant-loop-k : goal.invariant-loop-k
invariant-loop-k l = AreFirst (map component_of (take l.k l.all)) l.firsts
