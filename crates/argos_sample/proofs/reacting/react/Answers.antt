use Rattle.std.proofs.Common.{◌∙◌, ◌+◌, ap, sym, subst, ℕ, true}
use Rattle.std.specs.Prelude.{slice_set}
use Rattle.argos_base.specs.SignalSets.{SignalSet}
use Rattle.argos_sample.proofs.Instants.{EmitsSoFar, with_output, without_output, one_output}
use Rattle.argos_sample.proofs.reacting.react.Goals.{then-get, else-get}
use Rattle.argos_sample.proofs.reacting.react.Goals as goal

pub loop-instant-preserved : goal.loop-instant-preserved
loop-instant-preserved c =
    let now = c.loop-instant.invariant in
    let present = c.set.ensures ∙ ap (λ (v : SignalSet). slice_set v 0 true) c.in_ok-input.ensures in (
      elim c.if-get.branch [
        | then-get w ↦ subst (λ (n : ℕ). EmitsSoFar c.args.ordered (c.loop-instant._instant + 1) n c.step.new.self.memory) (sym w.emitted-is)
            (with_output c.args.ordered _ _ _ _ _ _ now.0 now.1 present c.step.ensures (sym c.get.ensures ∙ w.if-get.true))
        | else-get w ↦ subst (λ (n : ℕ). EmitsSoFar c.args.ordered (c.loop-instant._instant + 1) n c.step.new.self.memory) (sym w.emitted-is)
            (without_output c.args.ordered _ _ _ _ _ _ now.0 now.1 present c.step.ensures (sym c.get.ensures ∙ w.if-get.false))
      ],
      c.step.ensures.same ∙ now.1,
      one_output c.args.ordered _ _ _ _ _ _ now.0 now.1 present c.step.ensures c.requires.output,
    )
