use Rattle.std.proofs.Common.{◌≡◌, ℕ, ◌+◌, ◌++◌, List, ap, ◌∙◌, map, length, arith}
use Rattle.argos_aspects.specs.Views.{seen_of, advice_of}
use Rattle.eqn_core.specs.Views.{choice_of, equations_from}
use Rattle.eqn_core.specs.declared.system.Pick.{Pick}
use Rattle.weave_lines.specs.inner.Views.{words_of}
use Rattle.weave_lines.specs.WovenLines.{Words, bits_together, words_together, first_bit, first_word}
use Rattle.weave_lines.proofs.CopyLoops.{both-counts, both-word-counts}
use Rattle.weave_lines.proofs.WholeLines.{whole-lines, picks-sized}
use Rattle.weave_lines.proofs.weaving.woven_lines.Goals as goal

pub put_joins-requires-clause-picks : goal.put_joins-requires-clause-picks
put_joins-requires-clause-picks c =
    ap (λ (l : List Pick). length l) c.deref-6.ensures.value
    ∙ picks-sized (equations_from c.args.base.now) (equations_from c.args.observer.now) (map seen_of c.args.seen.now) (advice_of c.args.advice.now) c.args.codes.now c.requires.join c.requires.advised c.requires.codes c.in_ok-picks.picks.items (words_of c.in_ok-ends.ends.next) (words_of c.in_ok-registers.registers) _ c.in_ok-picks.ensures.picks c.in_ok-ends.ensures.next c.in_ok-registers.ensures.words (omega arith)

pub returns : goal.returns
returns c =
    let W = equations_from c.args.base.now in
    let J = equations_from c.args.observer.now in
    let S = map seen_of c.args.seen.now in
    let A = advice_of c.args.advice.now in
    let bits : c.count_bits.result + c.count_bits-2.result ≡ bits_together W J = both-counts c.args.base.now.lines.items c.args.observer.now.lines.items _ _ _ _ c.count_bits.ensures c.count_bits-2.ensures c.deref.ensures.value c.deref-2.ensures.value in
    let words : c.count_words.result + c.count_words-2.result ≡ words_together W J = both-word-counts c.args.base.now.lines.items c.args.observer.now.lines.items _ _ _ _ c.count_words.ensures.count c.count_words-2.ensures.count c.deref-3.ensures.value c.deref-4.ensures.value in
    let bit : c.args.base.now.inputs + 2 ≡ first_bit W J = omega arith in
    let word : c.len.result + c.len-2.result ≡ first_word W J = omega arith in
    whole-lines W J S A c.args.codes.now _ _ _ _ c.deref-5.result.now c.in_ok-ends.ends.outputs.items (c.in_ok-ends.ends.next.base.items ++ c.in_ok-ends.ends.next.observer.items) (words_of c.in_ok-registers.registers) (c.args.base.now.inputs + 2) (c.len.result + c.len-2.result) (c.args.base.now.inputs + 2 + (c.count_bits.result + c.count_bits-2.result)) (c.len.result + c.len-2.result + (c.count_words.result + c.count_words-2.result)) c.in_ok-ends.ends.join (map choice_of c.deref-6.result.now)
    c.in_ok-lines.ensures (c.deref-5.ensures.value ∙ c.in_ok-inputs.ensures.numbers) c.in_ok-registers.ensures.words bit word
    (ap (λ (k : ℕ). c.args.base.now.inputs + 2 + k) bits)
    (ap (λ (k : ℕ). k + (c.count_words.result + c.count_words-2.result)) word ∙ ap (λ (k : ℕ). first_word W J + k) words)
    c.in_ok-ends.ensures.lines c.in_ok-picks.ensures.lines c.in_ok-ends.ensures.outputs c.in_ok-ends.ensures.join
    (ap (λ (z : Words). z.base ++ z.observer) c.in_ok-ends.ensures.next)
    (ap (λ (l : List Pick). map choice_of l) c.deref-6.ensures.value ∙ c.in_ok-picks.ensures.picks)
    c.in_ok-put_joins.ensures
