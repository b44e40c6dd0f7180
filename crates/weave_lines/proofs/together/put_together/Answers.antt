use Rattle.std.proofs.Common.{ℕ, ◌+◌, List, ap, ◌∙◌, map}
use Rattle.eqn_core.specs.Equations.{bit_lines, word_lines}
use Rattle.eqn_core.specs.Views.{line_of}
use Rattle.eqn_core.specs.declared.system.Line.{Line}
use Rattle.weave_lines.proofs.CopyLoops.{together-lines}
use Rattle.weave_lines.proofs.together.put_together.Goals as goal

pub returns-clause-lines : goal.returns-clause-lines
returns-clause-lines c =
    together-lines c.args.base.now c.args.observer.now c.args.seen.now c.args.memories.now c.args.bits.now c.args.bit c.args.word _ _ _ c.in_ok-outputs.outputs.items _ _ c.in_ok-sights.sights.items _ _ _ _
    c.deref-3.ensures.value c.deref-6.ensures.value c.in_ok-outputs.ensures c.deref-4.ensures.value c.in_ok-sights.ensures c.deref-5.ensures.value
    (ap (λ (k : ℕ). c.args.bit + k) (c.count_bits.ensures ∙ ap (λ (l : List Line). bit_lines (map line_of l)) c.deref.ensures.value))
    (ap (λ (k : ℕ). c.args.word + k) (c.count_words.ensures.count ∙ ap (λ (l : List Line). word_lines (map line_of l)) c.deref-2.ensures.value))
    c.in_ok-put_copy.ensures c.in_ok-put_copy-2.ensures
