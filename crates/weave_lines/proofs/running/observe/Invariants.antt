use Rattle.std.proofs.Common.{◌≡◌, ◌++◌, map, take, drop}
use Rattle.argos_aspects.specs.Views.{seen_of}
use Rattle.argos_aspects.specs.Weaving.{sees}
use Rattle.weave_lines.proofs.running.observe.Given as goal

abbrev pub invariant-loop-k : goal.invariant-loop-k
invariant-loop-k l = l.set ≡ take l.k (map (sees l.inputs l.outputs) (map seen_of l.seen)) ++ drop l.k l.initial.set
