use Rattle.std.proofs.Common.{ℕ, ◌++◌, List, ap, ◌∙◌, map}
use Rattle.argos_aspects.specs.Views.{seen_of}
use Rattle.eqn_core.specs.Views.{line_of, equations_from}
use Rattle.weave_lines.specs.inner.Views.{words_of}
use Rattle.weave_lines.specs.WovenLines.{together}
use Rattle.weave_lines.proofs.together.put_constant.Goals as goal

pub returns-clause-lines : goal.returns-clause-lines
returns-clause-lines c =
    c.in_ok-ends.ensures.lines
    ∙ ap (λ (l : List ℕ). map line_of c.args.lines.now.items ++ together (equations_from c.args.base.now) (equations_from c.args.observer.now) (map seen_of c.args.seen.now) l (words_of c.args.memories.now) c.args.bit c.args.word) (c.deref.ensures.value ∙ c.in_ok-bits.ensures)
