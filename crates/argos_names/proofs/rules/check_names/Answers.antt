use Rattle.std.proofs.Common.{sym, map, ◌∙◌}
use Rattle.argos_grammar.specs.Views.{component_of}
use Rattle.argos_names.specs.inner.FoundViews.{found_of}
use Rattle.argos_names.proofs.Breaches.{none_broken, least_broken}
use Rattle.argos_names.proofs.Components.{refuses}
use Rattle.argos_names.proofs.rules.check_names.Goals as goal

pub returns-in-None-clause-kept : goal.returns-in-None-clause-kept
returns-in-None-clause-kept c = none_broken _ (sym c.in_ok-least.ensures ∙ sym c.in-None.ensures)

pub returns-in-Some-clause-broken : goal.returns-in-Some-clause-broken
returns-in-Some-clause-broken c =
    let components = map component_of c.args.components.now in
    refuses components c.fault.result (found_of c.in-Some.found) c.fault.ensures (least_broken components (found_of c.in-Some.found) (sym c.in_ok-least.ensures ∙ sym c.in-Some.ensures))
