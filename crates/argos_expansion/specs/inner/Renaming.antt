-- Rules of which the signals stand as places, with the signals that stand there, and their sizes. Source: this project.
use Rattle.std.specs.Prelude.{ℕ, ◌+◌, List, length, map, Option, Some, None, option_map, sum_by, slice_index}
use Rattle.argos_core.specs.Process.{Guard, always, never, present, negation, all, any, Guards, no_guards, guard, Transition, Timeout, Rules}
use Rattle.argos_expansion.specs.Expansion.{once}
use Rattle.argos_expansion.specs.inner.Shapes.{StateShapes, no_states, state}

-- the signal at a place
abbrev pub signal_at : List ℕ → ℕ → ℕ
signal_at ss k = slice_index ss k

abbrev mutual
  pub renamed_guard : List ℕ → Guard → Guard
  renamed_guard ss always = always
  renamed_guard ss never = never
  renamed_guard ss (present k) = present (signal_at ss k)
  renamed_guard ss (negation g) = negation (renamed_guard ss g)
  renamed_guard ss (all gs) = all (renamed_guards ss gs)
  renamed_guard ss (any gs) = any (renamed_guards ss gs)

  pub renamed_guards : List ℕ → Guards → Guards
  renamed_guards ss no_guards = no_guards
  renamed_guards ss (guard g gs) = guard (renamed_guard ss g) (renamed_guards ss gs)

-- each signal once
abbrev pub renamed_outs : List ℕ → List ℕ → List ℕ
renamed_outs ss ks = once (map (signal_at ss) ks)

abbrev pub renamed_transition : List ℕ → Transition → Transition
renamed_transition ss t = record { guard = renamed_guard ss t.guard; outs = renamed_outs ss t.outs; target = t.target }

abbrev pub renamed_timeout : List ℕ → Timeout → Timeout
renamed_timeout ss t = record { count = t.count; signal = signal_at ss t.signal; outs = renamed_outs ss t.outs; target = t.target }

abbrev pub renamed_rules : List ℕ → Rules → Rules
renamed_rules ss r = record { name = r.name; transitions = map (renamed_transition ss) r.transitions; timeout = option_map (renamed_timeout ss) r.timeout }

-- the nodes of a guard
abbrev mutual
  pub guard_size : Guard → ℕ
  guard_size always = 1
  guard_size never = 1
  guard_size (present k) = 1
  guard_size (negation g) = guard_size g + 1
  guard_size (all gs) = guards_size gs + 1
  guard_size (any gs) = guards_size gs + 1

  pub guards_size : Guards → ℕ
  guards_size no_guards = 0
  guards_size (guard g gs) = guard_size g + guards_size gs

abbrev pub transition_size : List ℕ → Transition → ℕ
transition_size ss t = 1 + guard_size t.guard + length (renamed_outs ss t.outs)

abbrev pub timeout_size : List ℕ → Option Timeout → ℕ
timeout_size ss None = 0
timeout_size ss (Some t) = 1 + length (renamed_outs ss t.outs)

-- the states, without their bodies
abbrev pub rules_size : List ℕ → Rules → ℕ
rules_size ss r = 1 + sum_by (transition_size ss) r.transitions + timeout_size ss r.timeout

abbrev pub states_size : List ℕ → StateShapes → ℕ
states_size ss no_states = 0
states_size ss (state r b xs) = rules_size ss r + states_size ss xs
