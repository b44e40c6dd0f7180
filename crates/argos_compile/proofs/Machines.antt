-- An accepted module's ordered equations are a machine of it, and of the program woven with no aspect.
use Rattle.std.proofs.Common.{ℕ, ◌*◌, ◌≤◌, [], length, refl}
use Rattle.std.proofs.Math.Logic.{∥∥₁_elim, ∥∥₁_map}
use Rattle.std.proofs.Props.{props}
use Rattle.argos_base.specs.SignalSets.{SignalSet}
use Rattle.argos_core.specs.Codes.{code_of, IsStructural}
use Rattle.argos_core.specs.Configurations.{IsConfiguration}
use Rattle.argos_core.specs.FirstBad.{ReactsCoded}
use Rattle.argos_core.specs.Process.{Configuration, PlainModule}
use Rattle.argos_core.specs.Reactions.{Reacts}
use Rattle.argos_compile.specs.Accepting.{IsAccepted}
use Rattle.argos_compile.specs.Systems.{IsSystemOf}
use Rattle.argos_compile.specs.Weaving.{plain, IsWoven}
use Rattle.eqn_core.specs.Equations.{Equations, weight_of}
use Rattle.eqn_core.specs.Ordered.{IsOrdered}
use Rattle.eqn_core.specs.Solutions.{SystemReacts}
use Rattle.weave_lines.specs.Systems.{IsMachineOf, IsWovenMachineOf}
use Rattle.weave_lines.specs.MachineOnce.{IsMachineOf-prop}
use Rattle.weave_lines.proofs.WovenLaws.{plain_is_woven}

-- a system of a module, where it is ordered, is a machine of it
pub machine : (P : PlainModule) (E : Equations) → IsSystemOf P E → IsOrdered E → IsMachineOf P E
machine P E system ordered = record { ordered = ordered; inputs = system.inputs; outputs = system.outputs; initial = system.initial; reactions = reactions }
  where
    reactions : (c : Configuration) (i o : SignalSet) (c' : Configuration) → IsConfiguration P.process c → Reacts P c i o c' → SystemReacts E (code_of P.process c) i o (code_of P.process c')
    reactions c i o c' is r =
        let structural : IsStructural P.process (code_of P.process c) = record { configuration = c; is = is; code = refl } in
        let coded : ReactsCoded P (code_of P.process c) i o (code_of P.process c') = record { configuration = c; is = is; from = refl; next = c'; reacts = r; to = refl } in
        (system.reacts (code_of P.process c) i o (code_of P.process c') structural).1 coded

-- and one of the program woven with no aspect
pub woven_machine : (P : PlainModule) (E : Equations) → IsSystemOf P E → IsOrdered E → IsWovenMachineOf P [] E
woven_machine P E system ordered = plain_is_woven P E (machine P E system ordered)

-- what is kept of an accepted module, as facts that there is one proof of
pub accepted_machine : (P : PlainModule) (E : Equations) (most : ℕ) → ∥ IsAccepted P E most ∥₁ → IsOrdered E → IsMachineOf P E
accepted_machine P E most kept ordered = ∥∥₁_elim kept (IsMachineOf-prop P E) (λ a. machine P E a.system ordered)

pub accepted_lines : (P : PlainModule) (E : Equations) (most : ℕ) → ∥ IsAccepted P E most ∥₁ → length E.lines ≤ most
accepted_lines P E most kept = ∥∥₁_elim kept (hlevel props) (λ a. a.lines)

pub accepted_weight : (P : PlainModule) (E : Equations) (most : ℕ) → ∥ IsAccepted P E most ∥₁ → weight_of E ≤ 4 * most
accepted_weight P E most kept = ∥∥₁_elim kept (hlevel props) (λ a. a.weight)

-- without aspects the woven program is the module
pub plain_woven : (P : PlainModule) (E : Equations) (most : ℕ) → IsOrdered E → IsAccepted P E most → IsWoven (plain P) E most
plain_woven P E most ordered a = record { good = a.acceptable.good; fit = tt; machine = woven_machine P E a.system ordered; bound = a.bound; lines = a.lines }

pub kept_woven : (P : PlainModule) (E : Equations) (most : ℕ) → IsOrdered E → ∥ IsAccepted P E most ∥₁ → ∥ IsWoven (plain P) E most ∥₁
kept_woven P E most ordered kept = ∥∥₁_map kept (plain_woven P E most ordered)
