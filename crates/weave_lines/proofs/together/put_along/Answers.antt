use Rattle.std.proofs.Common.{◌≡◌, ℕ, ◌+◌, map, ap}
use Rattle.argos_aspects.specs.Views.{seen_of}
use Rattle.eqn_core.specs.Views.{equations_from}
use Rattle.weave_lines.specs.inner.Views.{words_of}
use Rattle.weave_lines.specs.WovenLines.{bits_together, words_together}
use Rattle.weave_lines.proofs.CopyLoops.{sized-at, along-step, behind-step, count-step, both-counts, both-word-counts}
use Rattle.weave_lines.proofs.together.put_along.Goals as goal

pub put_constant-requires-clause-set : goal.put_constant-requires-clause-set
put_constant-requires-clause-set c = sized-at c.args.base.now.inputs c.args.trace.now c.loop-set.set-index c.set-item.result c.requires.trace c.loop-set-test.true c.set-item.is

pub loop-set-preserved : goal.loop-set-preserved
loop-set-preserved c =
    let W = equations_from c.args.base.now in
    let J = equations_from c.args.observer.now in
    let S = map seen_of c.args.seen.now in
    let bits : c.count_bits.result + c.count_bits-2.result ≡ bits_together W J = both-counts c.args.base.now.lines.items c.args.observer.now.lines.items _ _ _ _ c.count_bits.ensures c.count_bits-2.ensures c.deref.ensures.value c.deref-2.ensures.value in
    let words : c.count_words.result + c.count_words-2.result ≡ words_together W J = both-word-counts c.args.base.now.lines.items c.args.observer.now.lines.items _ _ _ _ c.count_words.ensures.count c.count_words-2.ensures.count c.deref-3.ensures.value c.deref-4.ensures.value in
    let inv = c.loop-set.invariant in
    let i = c.loop-set.set-index in
    let v = c.set-item.result in
    let more_bits = ap (λ (k : ℕ). c.loop-set.bit + k) bits in
    let more_words = ap (λ (k : ℕ). c.loop-set.word + k) words in
    record {
      bit = count-step c.args.trace.now i (bits_together W J) c.loop-set.bit _ _ v c.loop-set-test.true more_bits inv.bit;
      word = count-step c.args.trace.now i (words_together W J) c.loop-set.word _ _ v c.loop-set-test.true more_words inv.word;
      base_words = c.in_ok-memories.ensures.base_words;
      observer_words = c.in_ok-memories.ensures.observer_words;
      behind = behind-step W J S c.args.trace.now i v (words_of c.loop-set.memories) (words_of c.in_ok-memories.memories) _ c.loop-set.word _ c.loop-set-test.true c.set-item.is c.in_ok-memories.ensures.next more_words inv.behind;
      lines = along-step W J S c.args.one c.args.trace.now i v (words_of c.loop-set.memories) (words_of c.in_ok-memories.memories) c.loop-set.bit _ c.loop-set.word _ _ _ _ c.loop-set-test.true c.set-item.is c.in_ok-memories.ensures.lines c.in_ok-memories.ensures.next more_bits more_words inv.lines;
    }
