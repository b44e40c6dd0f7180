use Rattle.std.proofs.Common.{[], sym, subst}
use Rattle.std.proofs.lemmas.Result.{IfOk-weaker, IfErr-weaker}
use Rattle.eqn_file.specs.EquationFile.{a_next}
use Rattle.eqn_file.specs.inner.Sections.{StandsAt}
use Rattle.eqn_file.specs.inner.Stages.{at_nexts}
use Rattle.eqn_file.proofs.ReadSteps.{nexts_part}
use Rattle.eqn_file.proofs.reading.nexts.Goals as goal

pub returns-clause-ok : goal.returns-clause-ok
returns-clause-ok c =
    IfOk-weaker c.places.result _ _ (λ v go. λ I n init ls os registers words. λ whole h. go a_next whole (at_nexts I n init ls os) (nexts_part I c.args.registers c.args.words n init ls os registers words) (subst (λ k. StandsAt whole c.args.reader.now (at_nexts I n init ls os k [])) (sym registers) h)) c.places.ensures.ok

pub returns-clause-err : goal.returns-clause-err
returns-clause-err c =
    IfErr-weaker c.places.result _ _ (λ e fails. λ I n init ls os registers words. λ whole h. fails a_next whole (at_nexts I n init ls os) (nexts_part I c.args.registers c.args.words n init ls os registers words) (subst (λ k. StandsAt whole c.args.reader.now (at_nexts I n init ls os k [])) (sym registers) h)) c.places.ensures.err
