use Rattle.std.proofs.Common.{◌≡◌, List, ℕ, length, map, drop}
use Rattle.argos_aspects.specs.Views.{seen_of}
use Rattle.weave_lines.specs.Systems.{MoveAlong}
use Rattle.weave_lines.proofs.running.codes_behind.Given as goal

-- what both reach along the sets that are left, they reach along all from the start
abbrev pub invariant-loop-set : goal.invariant-loop-set
invariant-loop-set l = record {
  base : l.base_runs.equations ≡ l.base;
  observer : l.observer_runs.equations ≡ l.observer;
  outputs : length l.outputs ≡ length l.base.outputs;
  observed : length l.observed ≡ l.observer.inputs;
  join : length l.join ≡ length l.observer.outputs;
  moves : (m n : List ℕ) → MoveAlong l.base l.observer (map seen_of l.seen) l.base_runs.memory l.observer_runs.memory (drop l.set-index l.trace) m n → MoveAlong l.base l.observer (map seen_of l.seen) l.base.initial l.observer.initial l.trace m n;
}
