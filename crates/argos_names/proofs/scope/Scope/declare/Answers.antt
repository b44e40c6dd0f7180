use Rattle.std.proofs.Common.{sym, ap, ◌∙◌, subst}
use Rattle.argos_names.specs.Scope.{sort_in}
use Rattle.argos_names.specs.inner.ScopeViews.{IsKept}
use Rattle.argos_names.proofs.Scopes.{IsKept-declare}
use Rattle.argos_names.proofs.scope.Scope.declare.Goals as goal

pub invariant_of-self-in-Ok : goal.invariant_of-self-in-Ok
invariant_of-self-in-Ok c =
    subst (λ ds. IsKept ds c.insert.new.self) (sym c.in_ok-push.ensures.items)
    (IsKept-declare c.self.inside.declared.items (record { name = c.args.name; sort = c.args.sort; hidden = c.sort-hidden.result }) c.self.inside.sorts c.insert.new.self c.self.invariant (c.sort-hidden.ensures ∙ ap (λ s. sort_in s c.args.name) (sym c.self.view_is)) c.in-Ok.ensures.updates.0)
