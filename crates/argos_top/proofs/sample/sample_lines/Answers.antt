use Rattle.std.proofs.Common.{List, ℕ, ◌∙◌, ap, sym, subst, ◌++◌}
use Rattle.std.specs.Prelude.{codes}
use Rattle.argos_load.specs.Said as said
use Rattle.argos_top.specs.Sample.{Sampled, sampled}
use Rattle.argos_top.proofs.SampleLines.{lines_made}
use Rattle.argos_top.proofs.sample.sample_lines.Goals as goal

pub returns : goal.returns
returns c =
    let begun = (c.in_ok-extend_from_slice.ensures {u = tt}).items ∙ ap (λ (z : List ℕ). z ++ codes "automata ") c.new-text.ensures.items in
    let same = lines_made c.args.count c.in_ok-emitted.emitted _ _ _ _ c.push.new.self.items begun (c.in_ok-push_number.ensures {u = tt})
    (c.in_ok-extend_from_slice-2.ensures {u = tt}).items (c.in_ok-push_number-2.ensures {u = tt}) (c.in_ok-push.ensures {u = tt}).items in
    subst (λ (text : List ℕ). Sampled c.args.count (said.said said.Yes text)) (sym same) (sampled c.in_ok-emitted.emitted (c.in_ok-emitted.ensures {u = tt}).emitted)
