use Rattle.std.proofs.Common.{◌≡◌, ◌+◌, ◌*◌, ◌++◌, map, drop, length}
use Rattle.argos_aspects.specs.Views.{seen_of}
use Rattle.eqn_core.specs.Views.{line_of, equations_from}
use Rattle.weave_lines.specs.inner.Views.{words_of}
use Rattle.weave_lines.specs.WovenLines.{bits_together, words_together, along, behind}
use Rattle.weave_lines.proofs.together.put_along.Given as goal

-- with the copies for the sets that are left come all
abbrev pub invariant-loop-set : goal.invariant-loop-set
invariant-loop-set l = record {
  bit : l.bit + length (drop l.set-index l.trace) * bits_together (equations_from l.base) (equations_from l.observer) ≡ l.first_bit + length l.trace * bits_together (equations_from l.base) (equations_from l.observer);
  word : l.word + length (drop l.set-index l.trace) * words_together (equations_from l.base) (equations_from l.observer) ≡ l.first_word + length l.trace * words_together (equations_from l.base) (equations_from l.observer);
  base_words : length l.memories.base.items ≡ length l.base.init.items;
  observer_words : length l.memories.observer.items ≡ length l.observer.init.items;
  behind : behind (equations_from l.base) (equations_from l.observer) (drop l.set-index l.trace) (words_of l.memories) l.word ≡ behind (equations_from l.base) (equations_from l.observer) l.trace (words_of l.initial.memories) l.first_word;
  lines : map line_of l.lines.items ++ along (equations_from l.base) (equations_from l.observer) (map seen_of l.seen) l.one (drop l.set-index l.trace) (words_of l.memories) l.bit l.word ≡ map line_of l.initial.lines.items ++ along (equations_from l.base) (equations_from l.observer) (map seen_of l.seen) l.one l.trace (words_of l.initial.memories) l.first_bit l.first_word;
}
