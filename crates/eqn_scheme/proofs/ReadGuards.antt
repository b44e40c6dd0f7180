-- On two valuations that agree on the readable signals, what a scoped process reads is the same.
use Rattle.std.proofs.Common.{◌≡◌, ℕ, zero, suc, List, [], ◌∷◌, Option, Some, None, true, not, refl, ap}
use Rattle.argos_base.specs.SignalSets.{SignalSet, has}
use Rattle.argos_core.specs.Guards.{holds, every, some}
use Rattle.argos_core.specs.Modules.{Scope, is_readable, IsGuard, AreGuards, AreTransitions, IsTimeout, AreScopedStates}
use Rattle.argos_core.specs.Process.{Guard, always, never, present, negation, all, any, Guards, no_guards, guard, Transition, Timeout, States, no_states, state}
use Rattle.eqn_scheme.specs.inner.Settled.{timed, outcome, outcome_in}
use Rattle.eqn_scheme.proofs.SetAlgebra.{both-or, both-and}

abbrev pub AgreeOn : Scope → SignalSet → SignalSet → Type 0
AgreeOn s u v = (k : ℕ) → is_readable s k ≡ true → has u k ≡ has v k

mutual
  pub holds-scoped : (g : Guard) (s : Scope) (u v : SignalSet) → IsGuard s g → AgreeOn s u v → holds g u ≡ holds g v
  holds-scoped always s u v h a = refl
  holds-scoped never s u v h a = refl
  holds-scoped (present k) s u v h a = a k h
  holds-scoped (negation g) s u v h a = ap not (holds-scoped g s u v h a)
  holds-scoped (all gs) s u v h a = every-scoped gs s u v h.1 a
  holds-scoped (any gs) s u v h a = some-scoped gs s u v h.1 a

  every-scoped : (gs : Guards) (s : Scope) (u v : SignalSet) → AreGuards s gs → AgreeOn s u v → every gs u ≡ every gs v
  every-scoped no_guards s u v h a = refl
  every-scoped (guard g gs) s u v h a = both-and _ _ _ _ (holds-scoped g s u v h.0 a) (every-scoped gs s u v h.1 a)

  some-scoped : (gs : Guards) (s : Scope) (u v : SignalSet) → AreGuards s gs → AgreeOn s u v → some gs u ≡ some gs v
  some-scoped no_guards s u v h a = refl
  some-scoped (guard g gs) s u v h a = both-or _ _ _ _ (holds-scoped g s u v h.0 a) (some-scoped gs s u v h.1 a)

timed-scoped : (w : Option Timeout) (s : Scope) (e : ℕ) (u v : SignalSet) → IsTimeout s w → AgreeOn s u v → timed w e u ≡ timed w e v
timed-scoped None s e u v h a = refl
timed-scoped (Some w) s e u v h a = rw (a w.signal h.0) refl

outcome-scoped : (ts : List Transition) (w : Option Timeout) (s : Scope) (e : ℕ) (u v : SignalSet) → AreTransitions s ts → IsTimeout s w → AgreeOn s u v → outcome ts w e u ≡ outcome ts w e v
outcome-scoped [] w s e u v h i a = timed-scoped w s e u v i a
outcome-scoped (t ∷ ts) w s e u v h i a = rw (holds-scoped t.guard s u v h.0 a, outcome-scoped ts w s e u v h.2 i a) refl

pub outcome_in-scoped : (ss : States) (s : Scope) (q e : ℕ) (u v : SignalSet) → AreScopedStates s ss → AgreeOn s u v → outcome_in ss q e u ≡ outcome_in ss q e v
outcome_in-scoped no_states s q e u v h a = refl
outcome_in-scoped (state r p ss) s zero e u v h a = outcome-scoped r.transitions r.timeout s e u v h.0 h.1 a
outcome_in-scoped (state r p ss) s (suc q) e u v h a = outcome_in-scoped ss s q e u v h.3 a
