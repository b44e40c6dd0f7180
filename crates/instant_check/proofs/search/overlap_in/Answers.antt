use Rattle.std.proofs.Common.{◌≡◌, Ok, List, subst, sym, ap, ◌∙◌, refl, map}
use Rattle.argos_core.specs.Process.{Transition}
use Rattle.argos_core.specs.Views.{transition_of, state_of}
use Rattle.argos_core.specs.declared.prog.Trans.{Trans}
use Rattle.instant_check.specs.inner.Searching.{Settles}
use Rattle.instant_check.proofs.JobViews.{state_transitions}
use Rattle.instant_check.proofs.Searches.{settled}
use Rattle.instant_check.proofs.search.overlap_in.Goals as goal

pub returns-in-Ok : goal.returns-in-Ok
returns-in-Ok c =
    let n = c.args.count in
    let ts = map transition_of c.deref.result.now in
    let same : ts ≡ (state_of c.args.state.now).rules.transitions = ap (λ (l : List Trans). map transition_of l) c.deref.ensures.value ∙ sym (state_transitions c.args.state.now) in
    subst (λ (us : List Transition). Settles n c.args.budget c.args.register.0 c.args.number us (Ok c.overlap_at.result)) same
    (settled n c.args.budget c.args.register.0 c.args.number ts c.args.register c.in-Ok.found c.overlap_at.result refl c.in-Ok.ensures.fits c.in-Ok.ensures.found c.overlap_at.ensures)
