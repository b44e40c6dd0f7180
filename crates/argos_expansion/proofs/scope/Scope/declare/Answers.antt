use Rattle.std.proofs.Common.{sym, ap, ◌∙◌, subst}
use Rattle.argos_expansion.specs.Expansion.{number_in}
use Rattle.argos_expansion.specs.inner.ScopeViews.{IsKept}
use Rattle.argos_expansion.proofs.Scopes.{IsKept-declare}
use Rattle.argos_expansion.proofs.scope.Scope.declare.Goals as goal

pub invariant_of-self-in-Ok : goal.invariant_of-self-in-Ok
invariant_of-self-in-Ok c =
    subst (λ ds. IsKept ds c.insert.new.self) (sym c.in_ok-push.ensures.items)
    (IsKept-declare c.self.inside.declared.items (record { name = c.args.name; place = c.args.place; hidden = c.place-hidden.result }) c.self.inside.places c.insert.new.self c.self.invariant (c.place-hidden.ensures ∙ ap (λ s. number_in s c.args.name) (sym c.self.view_is)) c.in-Ok.ensures.updates.0)
