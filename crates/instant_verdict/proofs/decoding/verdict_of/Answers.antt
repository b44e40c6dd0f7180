use Rattle.std.proofs.Common.{◌≤◌, ℕ, List, All, sym, ap, ◌∙◌, subst}
use Rattle.instant_verdict.specs.inner.Decoded.{register_widths}
use Rattle.instant_verdict.proofs.DigitsRead.{narrow_widths}
use Rattle.instant_verdict.proofs.decoding.verdict_of.Goals as goal

abbrev AreNarrow : List ℕ → Type 0
AreNarrow widths = All (λ (w : ℕ). w ≤ 16) widths

pub case_of-requires-clause-narrow : goal.case_of-requires-clause-narrow
case_of-requires-clause-narrow c =
    subst AreNarrow (sym (c.deref-in-NoReaction.ensures.value ∙ c.in_ok-widths.ensures ∙ ap register_widths c.deref.ensures.value))
    (narrow_widths c.args.places.now.regs.items c.requires.narrow)

pub case_of-requires-in-Several-clause-narrow : goal.case_of-requires-in-Several-clause-narrow
case_of-requires-in-Several-clause-narrow c =
    subst AreNarrow (sym (c.deref-in-Several.ensures.value ∙ c.in_ok-widths.ensures ∙ ap register_widths c.deref.ensures.value))
    (narrow_widths c.args.places.now.regs.items c.requires.narrow)
