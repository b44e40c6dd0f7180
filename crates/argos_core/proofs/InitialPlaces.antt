-- Initial configurations of parts and of bodies, one after the other.
use Rattle.std.proofs.Common.{◌≡◌, ℕ, zero, suc, ◌<◌, ◌≤◌, List, [], ◌∷◌, ap, refl, sym, map, length, get_or, arith}
use Rattle.argos_core.specs.Process.{Configuration, configuration, no_inner}
use Rattle.argos_core.specs.Configurations.{initial_configuration, initial_parts, initial_in, initial_body}
use Rattle.argos_core.specs.Views.{process_of, state_of, processes_of, states_of, configurations_of}
use Rattle.argos_core.specs.declared.prog.Prog.{Prog}
use Rattle.argos_core.specs.declared.prog.State.{State}
use Rattle.argos_core.proofs.ConfigurationViews.{made_configurations}

-- where a process begins
abbrev pub initial_place : Prog → Configuration
initial_place p = initial_configuration (process_of p)

pub initial_parts-each : (ps : List Prog) → configurations_of (map initial_place ps) ≡ initial_parts (processes_of (map process_of ps))
initial_parts-each [] = refl
initial_parts-each (p ∷ ps) = ap (configuration (initial_place p)) (initial_parts-each ps)

-- the body of the state with a number, if there is one
pub initial_in-at : (ss : List State) (q : ℕ) (s : State) → q < length ss → s ≡ get_or ss q s → initial_in (states_of (map state_of ss)) q ≡ initial_body (state_of s).body
initial_in-at [] q s below at = absurd (omega arith)
initial_in-at (r ∷ ss) zero s below at = ap (λ (x : State). initial_body (state_of x).body) (sym at)
initial_in-at (r ∷ ss) (suc q) s below at = initial_in-at ss q s (omega arith) at

pub initial_in-past : (ss : List State) (q : ℕ) → length ss ≤ q → initial_in (states_of (map state_of ss)) q ≡ no_inner
initial_in-past [] q past = refl
initial_in-past (r ∷ ss) zero past = absurd (omega arith)
initial_in-past (r ∷ ss) (suc q) past = initial_in-past ss q (omega arith)

pub ruleset initial_places = (made_configurations, initial_parts-each, initial_in-at, initial_in-past)
