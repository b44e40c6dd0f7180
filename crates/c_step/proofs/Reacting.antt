-- The statements on the arrays are the reaction.
use Rattle.std.proofs.Common.{◌≡◌, ℕ, List, Bool, IsTrue, length, take, sym, subst, refl}
use Rattle.std.specs.List.{list_all}
use Rattle.argos_base.specs.SignalSets.{SignalSet}
use Rattle.c_step.specs.CStep.{CStep, IsCStep}
use Rattle.c_step.specs.CRuns.{Arrays, all_done, CReacts, CReactsTo}
use Rattle.c_step.specs.inner.Ranges.{arrays, statement_within}
use Rattle.c_step.proofs.OnlyRegisters.{steps_react}
use Rattle.c_step.proofs.StayWithin.{stay_within}

pub within_at : (s : CStep) (i o w b : ℕ) → IsCStep s → i ≡ length s.names.inputs → o ≡ length s.names.outputs → w ≡ s.words → b ≡ s.bits → IsTrue (list_all (statement_within i o w b) s.statements)
within_at s i o w b h e f g k =
    subst (λ (n : ℕ). IsTrue (list_all (statement_within n o w b) s.statements)) (sym e)
    (subst (λ (n : ℕ). IsTrue (list_all (statement_within (length s.names.inputs) n w b) s.statements)) (sym f)
    (subst (λ (n : ℕ). IsTrue (list_all (statement_within (length s.names.inputs) (length s.names.outputs) n b) s.statements)) (sym g)
    (subst (λ (n : ℕ). IsTrue (list_all (statement_within (length s.names.inputs) (length s.names.outputs) s.words n) s.statements)) (sym k) (stay_within s h))))

pub reacts_by : (s : CStep) (i o o' : SignalSet) (w w' : List ℕ) (b b' : List Bool) → IsCStep s → length i ≡ length s.names.inputs → length o ≡ length s.names.outputs → length w ≡ s.words → length b ≡ s.bits
    → arrays w' b' o' ≡ all_done i s.statements (arrays w b o) → CReacts s (take (length s.initial) w) i o' (take (length s.initial) w')
reacts_by s i o o' w w' b b' h e f g k done =
    let to : CReactsTo s (take (length s.initial) w) i (all_done i s.statements (arrays w b o)) = steps_react s (take (length s.initial) w) i (arrays w b o) h e (record { words = g; bits = k; outs = f; registers = refl }) in
    subst (λ (a : Arrays). CReacts s (take (length s.initial) w) i a.outs (take (length s.initial) a.words)) (sym done) to.reacts
