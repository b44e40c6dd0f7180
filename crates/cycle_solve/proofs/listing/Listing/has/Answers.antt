use Rattle.std.proofs.Common.{sym, ◌∙◌}
use Rattle.cycle_solve.proofs.listing.Listing.has.Goals as goal

pub returns : goal.returns
returns c = let h = c.requires.agrees c.args.f in (
  λ t. h.0 (sym c.contains.ensures
      ∙ t),
  λ at. c.contains.ensures ∙ h.1 at,
)
