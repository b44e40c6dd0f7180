use Rattle.std.proofs.Common.{◌≡◌, ◌<◌, ◌-◌, length, get_or, subst, sym, ap, ◌∙◌}
use Rattle.argos_expansion.proofs.Scopes.{IsKept-leave_last}
use Rattle.argos_expansion.proofs.scope.Scope.leave.Goals as goal

pub invariant_of-self-2 : goal.invariant_of-self-2
invariant_of-self-2 c =
    let last = c.in-Some.last.now in
    IsKept-leave_last c.pop.new.self.items c.self.inside.declared.items _ last c.self.inside.places c.insert.new.self c.self.invariant
    (sym c.as_slice.ensures.len ∙ ap length c.as_slice.ensures.value)
    (subst (λ xs. 0 < length xs) c.as_slice.ensures.value c.in-Some.ensures.item.3.0)
    c.pop.ensures.rest
    (subst (λ xs. last ≡ get_or xs (length xs - 1) last) c.as_slice.ensures.value c.in-Some.ensures.item.1)
    c.in_ok-insert.ensures.updates.0
