-- The tests' program is one of a module.
use Rattle.std.proofs.Common.{◌≡◌, ℕ, ◌∷◌, [], codes, refl, sym, subst, List, rules, arith}
use Rattle.std.proofs.lemmas.Bool.Decides.{nat_tests}
use Rattle.argos_base.specs.Names.{Spelled}
use Rattle.argos_core.specs.Modules.{IsModule, times}
use Rattle.argos_core.specs.Process.{Process, PlainModule}
use Rattle.argos_report.specs.inner.Tested.{program}

abbrev pub whole : Process → List Spelled → List Spelled → List Spelled → PlainModule
whole p inputs outputs locals = record { process = p; inputs = inputs; outputs = outputs; locals = locals }

tested : IsModule (whole program (codes "a" ∷ codes "b" ∷ []) (codes "o" ∷ []) (codes "l" ∷ []))
tested = record {
  names = refl;
  shaped = search rules;
  scoped = search rules;
  locals_once = λ k low high. let is : 3 ≡ k = omega arith in subst (λ (n : ℕ). times n (3 ∷ []) ≡ 1) is refl;
  locals_alone = λ k listed. grind (arith, nat_tests);
  signals = omega arith;
  automata = omega arith;
  depth = omega arith;
  size = omega arith;
}

pub is_module : (p : Process) (inputs outputs locals : List Spelled) → p ≡ program → inputs ≡ codes "a" ∷ codes "b" ∷ [] → outputs ≡ codes "o" ∷ [] → locals ≡ codes "l" ∷ []
    → IsModule (whole p inputs outputs locals)
is_module p inputs outputs locals p_is inputs_are outputs_are locals_are =
    subst (λ (q : Process). IsModule (whole q inputs outputs locals)) (sym p_is)
    (subst (λ (l : List Spelled). IsModule (whole program l outputs locals)) (sym inputs_are)
    (subst (λ (l : List Spelled). IsModule (whole program (codes "a" ∷ codes "b" ∷ []) l locals)) (sym outputs_are)
    (subst (λ (l : List Spelled). IsModule (whole program (codes "a" ∷ codes "b" ∷ []) (codes "o" ∷ []) l)) (sym locals_are) tested)))
