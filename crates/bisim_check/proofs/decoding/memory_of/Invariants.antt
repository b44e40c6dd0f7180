use Rattle.std.proofs.Common.{◌≡◌, ◌++◌, map, drop}
use Rattle.eqn_dd.specs.Placed.{register_at, memory_at}
use Rattle.bisim_check.proofs.decoding.memory_of.Given as goal

abbrev pub invariant-loop-first : goal.invariant-loop-first
invariant-loop-first l = l.memory.items ++ map (register_at l.values) (drop l.first-index l.places.regs.items) ≡ memory_at l.places l.values
