-- An expansion keeps the rules of names, where the names in scope have numbers that can be read and emitted as the rules allow.
use Rattle.std.proofs.Common.{◌≡◌, ℕ, ◌-◌, ◌≤◌, List, [], ◌∷◌, Option, Some, None, Bool, true, false, cond, map, refl, arith, eqb}
use Rattle.std.specs.Prelude.{option_map}
use Rattle.std.specs.List.{AllByRecursion, list_any}
use Rattle.argos_base.proofs.Bools.{and_both}
use Rattle.argos_core.specs.Modules as modules
use Rattle.argos_core.specs.Modules.{is_readable, is_emittable, all_emittable, guard_count, IsGuard, AreGuards, AreTransitions, IsTimeout, within_locals, IsScoped, AreScopedParts, AreScopedStates, IsScopedBody}
use Rattle.argos_grammar.specs.Forms.{Mark, Formulas, yes, no, atom, opposite, all, any, no_formulas, formula, GuardForm, TransForm, TimedForm}
use Rattle.argos_grammar.specs.Text.{IsFormula, AreFormulas}
use Rattle.argos_names.specs.Scope.{Sort, input, output, inner, Scope, sort_in}
use Rattle.argos_expansion.specs.Expansion.{Numbers, number_in, number_at, once_after, outs_of, guard_of, guards_of, transition_of, timeout_of}
use Rattle.argos_scope.proofs.SoundForms.{CanRead, CanEmit, IsRead, IsEmitted, IsSoundTrans, IsSoundTimed}

-- a number of this sort can be used in the module's scope as the sort allows
abbrev pub Fits : modules.Scope → Option Sort → ℕ → Type 0
Fits here None n = Unit {0}
Fits here (Some input) n = is_readable here n ≡ true
Fits here (Some output) n = is_emittable here n ≡ true
Fits here (Some inner) n = (is_readable here n ≡ true) × (is_emittable here n ≡ true)

-- the names in scope have numbers that fit
abbrev pub Agrees : modules.Scope → Scope → Numbers → Type 0
Agrees here s env = (name : List ℕ) → Fits here (sort_in s name) (number_in env name)

readable : (here : modules.Scope) (o : Option Sort) (n : ℕ) → Fits here o n → CanRead o → is_readable here n ≡ true
readable here None n f r = absurd r
readable here (Some input) n f r = f
readable here (Some output) n f r = absurd r
readable here (Some inner) n f r = f.0

emittable : (here : modules.Scope) (o : Option Sort) (n : ℕ) → Fits here o n → CanEmit o → is_emittable here n ≡ true
emittable here None n f r = absurd r
emittable here (Some input) n f r = absurd r
emittable here (Some output) n f r = f
emittable here (Some inner) n f r = f.1

-- each number once
once_step : (here : modules.Scope) (b : Bool) (n : ℕ) (ns ms : List ℕ) → is_emittable here n ≡ true → all_emittable here ns ≡ true → all_emittable here ms ≡ true → all_emittable here (cond b ns (n ∷ ms)) ≡ true
once_step here true n ns ms h k j = k
once_step here false n ns ms h k j = and_both _ _ h j

once_emittable : (here : modules.Scope) (seen ns : List ℕ) → AllByRecursion (λ n. is_emittable here n ≡ true) ns → all_emittable here (once_after seen ns) ≡ true
once_emittable here seen [] h = refl
once_emittable here seen (n ∷ ns) h = once_step here (list_any (eqb n) seen) n _ _ h.0 (once_emittable here seen ns h.1) (once_emittable here (n ∷ seen) ns h.1)

module _ (here : modules.Scope) (s : Scope) (env : Numbers) (agrees : Agrees here s env) where
  pub reads_readable : (m : Mark) → IsRead s m → is_readable here (number_at env m) ≡ true
  reads_readable m h = readable here (sort_in s m.name) (number_at env m) (agrees m.name) h

  pub all_readable : (ms : List Mark) → AllByRecursion (IsRead s) ms → AllByRecursion (λ n. is_readable here n ≡ true) (map (number_at env) ms)
  all_readable [] h = tt
  all_readable (m ∷ ms) h = (reads_readable m h.0, all_readable ms h.1)

  pub each_emittable : (ms : List Mark) → AllByRecursion (IsEmitted s) ms → AllByRecursion (λ n. is_emittable here n ≡ true) (map (number_at env) ms)
  each_emittable [] h = tt
  each_emittable (m ∷ ms) h = (emittable here (sort_in s m.name) (number_at env m) (agrees m.name) h.0, each_emittable ms h.1)

  outs_emittable : (ms : List Mark) → AllByRecursion (IsEmitted s) ms → all_emittable here (outs_of env ms) ≡ true
  outs_emittable ms h = once_emittable here [] (map (number_at env) ms) (each_emittable ms h)

  -- conditions
  enough : (least : ℕ) (fs : Formulas Mark) → AreFormulas least (IsRead s) fs → least ≤ guard_count (guards_of env fs)
  enough least no_formulas h = omega arith
  enough least (formula f fs) h = let e = enough (least - 1) fs h.1 in omega arith

  mutual
    guard_scoped : (f : GuardForm) → IsFormula (IsRead s) f → IsGuard here (guard_of env f)
    guard_scoped yes h = tt
    guard_scoped no h = tt
    guard_scoped (atom m) h = reads_readable m h
    guard_scoped (opposite f) h = guard_scoped f h
    guard_scoped (all fs) h = (enough 2 fs h, guards_scoped fs 2 h)
    guard_scoped (any fs) h = (enough 2 fs h, guards_scoped fs 2 h)

    guards_scoped : (fs : Formulas Mark) (least : ℕ) → AreFormulas least (IsRead s) fs → AreGuards here (guards_of env fs)
    guards_scoped no_formulas least h = tt
    guards_scoped (formula f fs) least h = (guard_scoped f h.0, guards_scoped fs (least - 1) h.1)

  -- transitions and timeouts
  pub transitions_scoped : (names : List (List ℕ)) (ts : List TransForm) → AllByRecursion (IsSoundTrans s names) ts → AreTransitions here (map (transition_of env names) ts)
  transitions_scoped names [] h = tt
  transitions_scoped names (t ∷ ts) h = (guard_scoped t.guard h.0.0, outs_emittable t.outs h.0.1, transitions_scoped names ts h.1)

  pub timeout_scoped : (names : List (List ℕ)) (o : Option TimedForm) → IsSoundTimed s names o → IsTimeout here (option_map (timeout_of env names) o)
  timeout_scoped names None h = tt
  timeout_scoped names (Some t) h = (reads_readable t.signal h.1, outs_emittable t.outs h.2)
