-- How many registers the equations of woven programs and of observers have.
use Rattle.std.proofs.Common.{◌≡◌, ℕ, ◌+◌, ◌∷◌, ap, ◌∙◌, arith, length}
use Rattle.std.proofs.Math.Logic.{∥∥₁_elim}
use Rattle.std.proofs.Props.{props}
use Rattle.argos_aspects.specs.Aspects.{Aspect, AllFit, Fits}
use Rattle.argos_aspects.specs.Weaving.{woven_initial, woven_registers}
use Rattle.argos_aspects.proofs.WovenLaws.{woven_codes_are_sized, woven_initial_is_one}
use Rattle.argos_compile.specs.Accepting.{IsAccepted}
use Rattle.argos_compile.specs.Systems.{IsSystemOf}
use Rattle.argos_compile.specs.Weaving.{WovenProgram, IsWoven}
use Rattle.argos_core.specs.Automata.{register_count}
use Rattle.argos_core.specs.Overlaps.{IsGood}
use Rattle.argos_core.specs.Process.{PlainModule}
use Rattle.argos_core.specs.Reactions.{input_count, output_count, initial_of}
use Rattle.argos_core.proofs.CodesDiffer.{length-code_of}
use Rattle.argos_core.proofs.StepsStay.{initial_is}
use Rattle.eqn_core.specs.Equations.{Equations, registers}
use Rattle.weave_lines.specs.Systems.{IsWovenMachineOf}

registers-woven : (x : WovenProgram) (E : Equations) → IsGood x.base → AllFit x.aspects (input_count x.base) (output_count x.base)
    → IsWovenMachineOf x.base x.aspects E → registers E ≡ woven_registers x.base x.aspects
registers-woven x E good fit machine =
    let sized = woven_codes_are_sized x.base x.aspects (woven_initial x.base x.aspects) (woven_initial_is_one x.base x.aspects good fit) in
    ap length machine.initial ∙ sized

registers-system : (P : PlainModule) (E : Equations) → IsGood P → IsSystemOf P E → registers E ≡ register_count P.process
registers-system P E good system =
    let sized = length-code_of P.process (initial_of P) (initial_is P.process good.program.is.shaped) in
    ap length system.initial ∙ sized

-- one register for each automaton of the base and of the observers
pub registers-both : (x : WovenProgram) (A : Aspect) (W J : Equations) (most lines : ℕ) → ∥ IsWoven x W most ∥₁ → ∥ IsAccepted A.observer J lines ∥₁
    → Fits A (input_count x.base) (output_count x.base) → registers W + registers J ≡ woven_registers x.base (A ∷ x.aspects)
registers-both x A W J most lines woven accepted fits =
    let base : registers W ≡ woven_registers x.base x.aspects = ∥∥₁_elim woven (hlevel props) (λ w. registers-woven x W w.good w.fit w.machine) in
    let observer : registers J ≡ register_count A.observer.process =
    ∥∥₁_elim accepted (hlevel props) (λ a. registers-system A.observer J fits.observer a.system)
    in
    omega (arith, base, observer)
