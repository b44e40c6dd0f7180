use Rattle.std.proofs.Common.{[], sym, subst}
use Rattle.std.proofs.lemmas.Result.{IfOk-weaker, IfErr-weaker}
use Rattle.eqn_file.specs.EquationFile.{an_out}
use Rattle.eqn_file.specs.inner.Sections.{StandsAt}
use Rattle.eqn_file.specs.inner.Stages.{at_outs}
use Rattle.eqn_file.proofs.ReadSteps.{outs_part}
use Rattle.eqn_file.proofs.reading.outs.Goals as goal

pub returns-clause-ok : goal.returns-clause-ok
returns-clause-ok c =
    IfOk-weaker c.places.result _ _ (λ v go. λ I n init ls bits sized. λ whole h. go an_out whole (at_outs I n init ls) (outs_part I c.args.bits n init ls bits) (subst (λ k. StandsAt whole c.args.reader.now (at_outs I n init ls k [])) (sym sized) h)) c.places.ensures.ok

pub returns-clause-err : goal.returns-clause-err
returns-clause-err c =
    IfErr-weaker c.places.result _ _ (λ e fails. λ I n init ls bits sized. λ whole h. fails an_out whole (at_outs I n init ls) (outs_part I c.args.bits n init ls bits) (subst (λ k. StandsAt whole c.args.reader.now (at_outs I n init ls k [])) (sym sized) h)) c.places.ensures.err
