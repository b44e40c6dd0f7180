use Rattle.std.proofs.Common.{◌≡◌, [], ◌++◌, map, take, drop}
use Rattle.eqn_core.specs.inner.LineValues.{known}
use Rattle.eqn_core.specs.Solutions.{word_of}
use Rattle.eqn_core.proofs.stepper.take_words.Given as goal

abbrev pub invariant-loop-k : goal.invariant-loop-k
invariant-loop-k l = l.memory ≡ take l.k (map (word_of (known [] l.words)) l.next) ++ drop l.k l.initial.memory
