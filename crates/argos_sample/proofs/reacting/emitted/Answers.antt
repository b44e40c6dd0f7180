use Rattle.std.proofs.Common.{◌∙◌, sym, subst}
use Rattle.argos_compile.specs.Accepting.{IsAccepted}
use Rattle.eqn_core.specs.Equations.{Equations}
use Rattle.argos_sample.specs.SampleModule.{sample_module}
use Rattle.argos_sample.proofs.Reactions.{emits_as_runs}
use Rattle.argos_sample.proofs.reacting.emitted.Goals as goal

pub returns : goal.returns
returns c =
    let copied = (c.in_ok-ordered.ensures {u = tt}) ∙ c.ordered.ensures in
    let accepted = subst (λ (E : Equations). IsAccepted (sample_module c.args.count) E c.in_ok-accepted.accepted.lines) (sym copied) (c.in_ok-accepted.ensures {u = tt}) in
    record { emitted = emits_as_runs c.args.count c.requires.least c.requires.most c.in_ok-ordered.ordered _ _ _ accepted (c.in_ok-react.ensures {u = tt}) }
