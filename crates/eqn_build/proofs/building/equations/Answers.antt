use Rattle.std.proofs.Common.{◌≡◌, ◌*◌, ◌≤◌, sym, subst, ap, ◌∙◌, length}
use Rattle.std.proofs.lemmas.List.{length-map}
use Rattle.argos_core.specs.ModuleViews.{module_of}
use Rattle.argos_core.specs.Sizes.{size_of}
use Rattle.eqn_core.specs.Equations.{Equations, registers, weight_of}
use Rattle.eqn_core.specs.Orderable.{IsOrderable}
use Rattle.eqn_core.specs.Views.{line_of}
use Rattle.eqn_scheme.proofs.Bounds.{equations_are_small}
use Rattle.eqn_scheme.proofs.Choices.{equations_choose_locals}
use Rattle.eqn_scheme.proofs.Cycles.{equations_are_orderable_of}
use Rattle.eqn_scheme.proofs.CyclicBits.{cyclic_bits}
use Rattle.eqn_scheme.proofs.System.{equations_react, equations_stay_structural, registers-scheme}
use Rattle.eqn_build.specs.Promises.{ReactsAs, StaysStructural, IsCyclicAs, ChoosesLocals}
use Rattle.eqn_build.proofs.building.equations.Goals as goal

pub returns : goal.returns
returns c =
    let P = module_of c.args.module.now in
    let is = c.args.module.now.kept in
    let e = c.in_ok-build.ensures in
    record {
      reactions = λ program. subst (ReactsAs P) (sym e) (λ m i o m' t. equations_react P m i o m' program t);
      structural = λ program. subst (StaysStructural P) (sym e) (λ m i o m' t r. equations_stay_structural P m i o m' program t r);
      chosen = λ program. subst (ChoosesLocals P) (sym e) (λ ks m i chosen locals t. equations_choose_locals P ks m i chosen program locals t);
      initial = ap (λ (E : Equations). E.initial) e;
      registers = ap registers e ∙ registers-scheme P is;
      inputs = ap (λ (E : Equations). E.inputs) e;
      outputs = ap (λ (E : Equations). E.outputs) e;
      locals = ap (λ (E : Equations). E.locals) e;
      lines = subst (λ n. n ≤ 8 * size_of P) (ap (λ (E : Equations). length E.lines) (sym e) ∙ length-map _ line_of) (equations_are_small P).0;
      weight = subst (λ (E : Equations). weight_of E ≤ 32 * size_of P) (sym e) (equations_are_small P).1;
      orderable = subst IsOrderable (sym e) (equations_are_orderable_of P is);
      cyclic = subst (IsCyclicAs P) (sym e) (λ k low high. cyclic_bits P is k low high);
    }
