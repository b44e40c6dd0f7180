use Rattle.std.proofs.Common.{List, IsTrue, map, length, sym, ap, ◌∙◌, subst}
use Rattle.std.specs.List.{list_all}
use Rattle.c_step.specs.CRuns.{all_done}
use Rattle.c_step.specs.StepViews.{step_of}
use Rattle.c_step.specs.Views.{statement_of}
use Rattle.c_step.specs.declared.statements.CStat.{CStat}
use Rattle.c_step.specs.inner.Ranges.{arrays, statement_within}
use Rattle.c_step.proofs.Reacting.{within_at, reacts_by}
use Rattle.c_step.proofs.run.react.Goals as goal

pub run_statements-requires : goal.run_statements-requires
run_statements-requires c =
    let within = within_at (step_of c.args.step.now) (length c.args.input.now) (length c.args.output.now) (length c.args.words.now) (length c.args.bits.now) c.args.step.now.kept c.requires.inputs c.requires.outputs c.requires.words c.requires.bits in
    subst (λ (xs : List CStat). IsTrue (list_all (statement_within (length c.args.input.now) (length c.args.output.now) (length c.args.words.now) (length c.args.bits.now)) (map statement_of xs))) (sym c.deref.ensures.value) within

pub returns : goal.returns
returns c =
    let same = ap (λ (xs : List CStat). all_done c.args.input.now (map statement_of xs) (arrays c.args.words.now c.args.bits.now c.args.output.now)) c.deref.ensures.value in
    reacts_by (step_of c.args.step.now) c.args.input.now c.args.output.now _ c.args.words.now _ c.args.bits.now _ c.args.step.now.kept c.requires.inputs c.requires.outputs c.requires.words c.requires.bits (c.run_statements.ensures ∙ same)
