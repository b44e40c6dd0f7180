-- What a module keeps, it keeps in one way.
use Rattle.std.specs.Prelude.{ℕ, List, [], ◌∷◌, Option, Some, None, length}
use Rattle.std.proofs.Props.{props}
use Rattle.argos_core.specs.Automata.{rules_of}
use Rattle.argos_core.specs.Modules.{Scope, IsGuard, AreGuards, AreTargets, IsCounting, IsShaped, AreShapedParts, AreShapedStates, IsShapedBody, AreTransitions, IsTimeout, IsScoped, AreScopedParts, AreScopedStates, IsScopedBody, IsModule, within_locals, scope_of}
use Rattle.argos_core.specs.Process.{Guard, always, never, present, negation, all, any, Guards, no_guards, guard, Transition, Timeout, Process, automaton, parallel, local, freeze, Processes, no_processes, process, States, no_states, state, Body, no_body, body, PlainModule}

mutual
  IsGuard-prop : (s : Scope) (g : Guard) → IsProp (IsGuard s g)
  IsGuard-prop s always = hlevel props
  IsGuard-prop s never = hlevel props
  IsGuard-prop s (present k) = hlevel props
  IsGuard-prop s (negation g) = IsGuard-prop s g
  IsGuard-prop s (all gs) = hlevel (props, AreGuards-prop s gs)
  IsGuard-prop s (any gs) = hlevel (props, AreGuards-prop s gs)

  AreGuards-prop : (s : Scope) (gs : Guards) → IsProp (AreGuards s gs)
  AreGuards-prop s no_guards = hlevel props
  AreGuards-prop s (guard g gs) = hlevel (IsGuard-prop s g, AreGuards-prop s gs)

AreTargets-prop : (n : ℕ) (ts : List Transition) → IsProp (AreTargets n ts)
AreTargets-prop n [] = hlevel props
AreTargets-prop n (t ∷ ts) = hlevel (props, AreTargets-prop n ts)

IsCounting-prop : (n : ℕ) (w : Option Timeout) → IsProp (IsCounting n w)
IsCounting-prop n None = hlevel props
IsCounting-prop n (Some w) = hlevel props

mutual
  pub IsShaped-prop : (p : Process) → IsProp (IsShaped p)
  IsShaped-prop (automaton ss q) = hlevel (props, AreShapedStates-prop (length (rules_of ss)) ss)
  IsShaped-prop (parallel ps) = hlevel (props, AreShapedParts-prop ps)
  IsShaped-prop (local list p) = IsShaped-prop p
  IsShaped-prop (freeze k p) = IsShaped-prop p

  AreShapedParts-prop : (ps : Processes) → IsProp (AreShapedParts ps)
  AreShapedParts-prop no_processes = hlevel props
  AreShapedParts-prop (process p ps) = hlevel (IsShaped-prop p, AreShapedParts-prop ps)

  AreShapedStates-prop : (n : ℕ) (ss : States) → IsProp (AreShapedStates n ss)
  AreShapedStates-prop n no_states = hlevel props
  AreShapedStates-prop n (state r p ss) = hlevel (AreTargets-prop n r.transitions, IsCounting-prop n r.timeout, IsShapedBody-prop p, AreShapedStates-prop n ss)

  IsShapedBody-prop : (b : Body) → IsProp (IsShapedBody b)
  IsShapedBody-prop no_body = hlevel props
  IsShapedBody-prop (body p) = IsShaped-prop p

AreTransitions-prop : (s : Scope) (ts : List Transition) → IsProp (AreTransitions s ts)
AreTransitions-prop s [] = hlevel props
AreTransitions-prop s (t ∷ ts) = hlevel (props, IsGuard-prop s t.guard, AreTransitions-prop s ts)

IsTimeout-prop : (s : Scope) (w : Option Timeout) → IsProp (IsTimeout s w)
IsTimeout-prop s None = hlevel props
IsTimeout-prop s (Some w) = hlevel props

mutual
  IsScoped-prop : (s : Scope) (p : Process) → IsProp (IsScoped s p)
  IsScoped-prop s (automaton ss q) = hlevel (props, AreScopedStates-prop s ss)
  IsScoped-prop s (parallel ps) = AreScopedParts-prop s ps
  IsScoped-prop s (local list p) = IsScoped-prop (within_locals s list) p
  IsScoped-prop s (freeze k p) = hlevel (props, IsScoped-prop s p)

  AreScopedParts-prop : (s : Scope) (ps : Processes) → IsProp (AreScopedParts s ps)
  AreScopedParts-prop s no_processes = hlevel props
  AreScopedParts-prop s (process p ps) = hlevel (IsScoped-prop s p, AreScopedParts-prop s ps)

  AreScopedStates-prop : (s : Scope) (ss : States) → IsProp (AreScopedStates s ss)
  AreScopedStates-prop s no_states = hlevel props
  AreScopedStates-prop s (state r p ss) = hlevel (AreTransitions-prop s r.transitions, IsTimeout-prop s r.timeout, IsScopedBody-prop s p, AreScopedStates-prop s ss)

  IsScopedBody-prop : (s : Scope) (b : Body) → IsProp (IsScopedBody s b)
  IsScopedBody-prop s no_body = hlevel props
  IsScopedBody-prop s (body p) = IsScoped-prop s p

pub IsModule-prop : (P : PlainModule) → IsProp (IsModule P)
IsModule-prop P = hlevel (props, IsShaped-prop P.process, IsScoped-prop (scope_of P) P.process)
