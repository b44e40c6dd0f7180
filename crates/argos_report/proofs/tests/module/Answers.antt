use Rattle.std.proofs.Common.{ap, ◌∙◌, ◌∷◌, []}
use Rattle.argos_base.specs.Names.{Spelled}
use Rattle.argos_core.specs.Views.{process_of}
use Rattle.argos_report.proofs.TestedModule.{is_module}
use Rattle.argos_report.proofs.tests.module.Goals as goal

pub invariant_of-result-2 : goal.invariant_of-result-2
invariant_of-result-2 c = record {
  kept = is_module (process_of c.in_ok-prog.prog) c.in_ok-inputs.inputs c.in_ok-outputs.outputs c.in_ok-vec.field-0.items c.in_ok-prog.ensures c.in_ok-inputs.ensures c.in_ok-outputs.ensures
      (c.in_ok-vec.ensures.items ∙ ap (λ (name : Spelled). name ∷ []) c.name_of.ensures);
}
