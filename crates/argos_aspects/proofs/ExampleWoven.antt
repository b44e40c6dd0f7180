-- The three states woven with three aspects react as the worked rows say.
use Rattle.std.specs.Prelude.{None, replicate}
use Rattle.std.proofs.Common.{◌≡◌, ℕ, List, [], ◌∷◌, true, false, refl, inl, inr}
use Rattle.argos_base.specs.SignalSets.{SignalSet}
use Rattle.argos_core.specs.Process.{Guard, Transition, Process, States, state, no_body, Configuration, at, no_inner, PlainModule, present, any, guard, no_guards, no_states, automaton}
use Rattle.argos_core.specs.Step.{transition, hold}
use Rattle.argos_aspects.specs.Aspects.{Aspect, output, to_initial, to_current}
use Rattle.argos_aspects.specs.Weaving.{WovenConfiguration, alone, watched, Pair, pair, IsWovenTrace, woven_code, need_with}

abbrev when : Guard → List ℕ → ℕ → Transition
when g outs target = record { guard = g; outs = outs; target = target }

abbrev simple : List Transition → States → States
simple ts ss = state (record { name = []; transitions = ts; timeout = None }) no_body ss

abbrev module_of : Process → List (List ℕ) → List (List ℕ) → List (List ℕ) → PlainModule
module_of p inputs outputs locals = record { process = p; inputs = inputs; outputs = outputs; locals = locals }

-- input a = 0; outputs o = 1, p = 2, q = 3
abbrev pub three_states : PlainModule
three_states = module_of (automaton (simple (when (present 0) [] 1 ∷ []) (simple (when (present 0) (1 ∷ []) 2 ∷ []) (simple (when (present 0) (2 ∷ []) 0 ∷ []) no_states))) 0) ((97 ∷ []) ∷ []) ((111 ∷ []) ∷ (112 ∷ []) ∷ (113 ∷ []) ∷ []) []

-- input p = 0, output j = 1
abbrev pub watch_p : PlainModule
watch_p = module_of (automaton (simple (when (present 0) (1 ∷ []) 0 ∷ []) no_states) 0) ((112 ∷ []) ∷ []) ((106 ∷ []) ∷ []) []

abbrev plain : ℕ → Configuration
plain q = at q 0 no_inner

abbrev both_at : ℕ → ℕ → WovenConfiguration
both_at w j = watched (alone (plain w)) (plain j)

abbrev pair_at : ℕ → ℕ → Pair
pair_at w j = pair (alone (plain w)) (plain j)

abbrev only_q : SignalSet
only_q = false ∷ false ∷ true ∷ []

abbrev name : ℕ → List ℕ
name n = n ∷ []

-- the aspect that stays in place, and with a trace; its observer sees the output p
abbrev pub stay_in_place : List SignalSet → Aspect
stay_in_place trace = record { observer = watch_p; seen = output 1 ∷ []; advice = record { outs = only_q; onset = to_current; trace = trace } }

-- the aspect that starts again; its observer sees o and p
abbrev watch_o_p : PlainModule
watch_o_p = module_of (automaton (simple (when (any (guard (present 0) (guard (present 1) no_guards))) (2 ∷ []) 0 ∷ []) no_states) 0) (name 111 ∷ name 112 ∷ []) (name 106 ∷ []) []

abbrev pub restart : Aspect
restart = record { observer = watch_o_p; seen = output 0 ∷ output 1 ∷ []; advice = record { outs = only_q; onset = to_initial; trace = (true ∷ []) ∷ (true ∷ []) ∷ [] } }

-- the observer with two states: o leads to the state U, in which p is a join point
abbrev watch_twice : PlainModule
watch_twice = module_of (automaton (simple (when (present 0) [] 1 ∷ []) (simple (when (present 1) (2 ∷ []) 1 ∷ []) no_states)) 0) (name 111 ∷ name 112 ∷ []) (name 106 ∷ []) []

abbrev two_states : Aspect
two_states = record { observer = watch_twice; seen = output 0 ∷ output 1 ∷ []; advice = record { outs = only_q; onset = to_initial; trace = (true ∷ []) ∷ (true ∷ []) ∷ [] } }

-- a in each instant gives - / o / q / q
pub stays_trace : IsWovenTrace three_states (stay_in_place [] ∷ []) ((true ∷ []) ∷ (true ∷ []) ∷ (true ∷ []) ∷ (true ∷ []) ∷ []) ((false ∷ false ∷ false ∷ []) ∷ (true ∷ false ∷ false ∷ []) ∷ (false ∷ false ∷ true ∷ []) ∷ (false ∷ false ∷ true ∷ []) ∷ [])
stays_trace = (
  (both_at 1 0 ∷ both_at 2 0 ∷ both_at 2 0 ∷ both_at 2 0 ∷ []),
  (
    inl (record { base_reacts = record { input = refl; emitted = (false ∷ false ∷ false ∷ false ∷ []); step = transition 0 _ _ _ refl refl (refl, refl) refl refl; outputs = refl }; emitted = (false ∷ []); observer_reacts = record { input = refl; emitted = (false ∷ false ∷ []); step = hold _ (refl, tt) tt (refl, refl) refl; outputs = refl }; join = refl }),
    (
      inl (record { base_reacts = record { input = refl; emitted = (false ∷ true ∷ false ∷ false ∷ []); step = transition 0 _ _ _ refl refl (refl, refl) refl refl; outputs = refl }; emitted = (false ∷ []); observer_reacts = record { input = refl; emitted = (false ∷ false ∷ []); step = hold _ (refl, tt) tt (refl, refl) refl; outputs = refl }; join = refl }),
      (
        inr (record { base_outputs = (false ∷ true ∷ false ∷ []); left = pair_at 0 0; watch = record { base_reacts = record { input = refl; emitted = (false ∷ false ∷ true ∷ false ∷ []); step = transition 0 _ _ _ refl refl (refl, refl) refl refl; outputs = refl }; emitted = (true ∷ []); observer_reacts = record { input = refl; emitted = (false ∷ true ∷ []); step = transition 0 _ _ _ refl refl (refl, refl) refl refl; outputs = refl }; join = refl }; outputs = refl; reach = refl }),
        (inr (record { base_outputs = (false ∷ true ∷ false ∷ []); left = pair_at 0 0; watch = record { base_reacts = record { input = refl; emitted = (false ∷ false ∷ true ∷ false ∷ []); step = transition 0 _ _ _ refl refl (refl, refl) refl refl; outputs = refl }; emitted = (true ∷ []); observer_reacts = record { input = refl; emitted = (false ∷ true ∷ []); step = transition 0 _ _ _ refl refl (refl, refl) refl refl; outputs = refl }; join = refl }; outputs = refl; reach = refl }), tt),
      ),
    ),
  ),
)

-- along one set: a in each instant gives - / o / q / -
pub goes_on_trace : IsWovenTrace three_states (stay_in_place ((true ∷ []) ∷ []) ∷ []) ((true ∷ []) ∷ (true ∷ []) ∷ (true ∷ []) ∷ (true ∷ []) ∷ []) ((false ∷ false ∷ false ∷ []) ∷ (true ∷ false ∷ false ∷ []) ∷ (false ∷ false ∷ true ∷ []) ∷ (false ∷ false ∷ false ∷ []) ∷ [])
goes_on_trace = (
  (both_at 1 0 ∷ both_at 2 0 ∷ both_at 0 0 ∷ both_at 1 0 ∷ []),
  (
    inl (record { base_reacts = record { input = refl; emitted = (false ∷ false ∷ false ∷ false ∷ []); step = transition 0 _ _ _ refl refl (refl, refl) refl refl; outputs = refl }; emitted = (false ∷ []); observer_reacts = record { input = refl; emitted = (false ∷ false ∷ []); step = hold _ (refl, tt) tt (refl, refl) refl; outputs = refl }; join = refl }),
    (
      inl (record { base_reacts = record { input = refl; emitted = (false ∷ true ∷ false ∷ false ∷ []); step = transition 0 _ _ _ refl refl (refl, refl) refl refl; outputs = refl }; emitted = (false ∷ []); observer_reacts = record { input = refl; emitted = (false ∷ false ∷ []); step = hold _ (refl, tt) tt (refl, refl) refl; outputs = refl }; join = refl }),
      (
        inr (record { base_outputs = (false ∷ true ∷ false ∷ []); left = pair_at 0 0; watch = record { base_reacts = record { input = refl; emitted = (false ∷ false ∷ true ∷ false ∷ []); step = transition 0 _ _ _ refl refl (refl, refl) refl refl; outputs = refl }; emitted = (true ∷ []); observer_reacts = record { input = refl; emitted = (false ∷ true ∷ []); step = transition 0 _ _ _ refl refl (refl, refl) refl refl; outputs = refl }; join = refl }; outputs = refl; reach = (pair_at 0 0, (false ∷ true ∷ false ∷ []), true, record { base_reacts = record { input = refl; emitted = (false ∷ false ∷ true ∷ false ∷ []); step = transition 0 _ _ _ refl refl (refl, refl) refl refl; outputs = refl }; emitted = (true ∷ []); observer_reacts = record { input = refl; emitted = (false ∷ true ∷ []); step = transition 0 _ _ _ refl refl (refl, refl) refl refl; outputs = refl }; join = refl }, refl) }),
        (inl (record { base_reacts = record { input = refl; emitted = (false ∷ false ∷ false ∷ false ∷ []); step = transition 0 _ _ _ refl refl (refl, refl) refl refl; outputs = refl }; emitted = (false ∷ []); observer_reacts = record { input = refl; emitted = (false ∷ false ∷ []); step = hold _ (refl, tt) tt (refl, refl) refl; outputs = refl }; join = refl }), tt),
      ),
    ),
  ),
)

-- a in each instant gives - / q / q / q
pub restart_trace : IsWovenTrace three_states (restart ∷ []) ((true ∷ []) ∷ (true ∷ []) ∷ (true ∷ []) ∷ (true ∷ []) ∷ []) ((false ∷ false ∷ false ∷ []) ∷ (false ∷ false ∷ true ∷ []) ∷ (false ∷ false ∷ true ∷ []) ∷ (false ∷ false ∷ true ∷ []) ∷ [])
restart_trace = (
  (both_at 1 0 ∷ both_at 2 0 ∷ both_at 2 0 ∷ both_at 2 0 ∷ []),
  (
    inl (record { base_reacts = record { input = refl; emitted = (false ∷ false ∷ false ∷ false ∷ []); step = transition 0 _ _ _ refl refl (refl, refl) refl refl; outputs = refl }; emitted = (false ∷ []); observer_reacts = record { input = refl; emitted = (false ∷ false ∷ false ∷ []); step = hold _ (refl, tt) tt (refl, refl) refl; outputs = refl }; join = refl }),
    (
      inr (record { base_outputs = (true ∷ false ∷ false ∷ []); left = pair_at 2 0; watch = record { base_reacts = record { input = refl; emitted = (false ∷ true ∷ false ∷ false ∷ []); step = transition 0 _ _ _ refl refl (refl, refl) refl refl; outputs = refl }; emitted = (true ∷ []); observer_reacts = record { input = refl; emitted = (false ∷ false ∷ true ∷ []); step = transition 0 _ _ _ refl refl (refl, refl) refl refl; outputs = refl }; join = refl }; outputs = refl; reach = (pair_at 1 0, (false ∷ false ∷ false ∷ []), false, record { base_reacts = record { input = refl; emitted = (false ∷ false ∷ false ∷ false ∷ []); step = transition 0 _ _ _ refl refl (refl, refl) refl refl; outputs = refl }; emitted = (false ∷ []); observer_reacts = record { input = refl; emitted = (false ∷ false ∷ false ∷ []); step = hold _ (refl, tt) tt (refl, refl) refl; outputs = refl }; join = refl }, (pair_at 2 0, (true ∷ false ∷ false ∷ []), true, record { base_reacts = record { input = refl; emitted = (false ∷ true ∷ false ∷ false ∷ []); step = transition 0 _ _ _ refl refl (refl, refl) refl refl; outputs = refl }; emitted = (true ∷ []); observer_reacts = record { input = refl; emitted = (false ∷ false ∷ true ∷ []); step = transition 0 _ _ _ refl refl (refl, refl) refl refl; outputs = refl }; join = refl }, refl)) }),
      (
        inr (record { base_outputs = (false ∷ true ∷ false ∷ []); left = pair_at 0 0; watch = record { base_reacts = record { input = refl; emitted = (false ∷ false ∷ true ∷ false ∷ []); step = transition 0 _ _ _ refl refl (refl, refl) refl refl; outputs = refl }; emitted = (true ∷ []); observer_reacts = record { input = refl; emitted = (false ∷ false ∷ true ∷ []); step = transition 0 _ _ _ refl refl (refl, refl) refl refl; outputs = refl }; join = refl }; outputs = refl; reach = (pair_at 1 0, (false ∷ false ∷ false ∷ []), false, record { base_reacts = record { input = refl; emitted = (false ∷ false ∷ false ∷ false ∷ []); step = transition 0 _ _ _ refl refl (refl, refl) refl refl; outputs = refl }; emitted = (false ∷ []); observer_reacts = record { input = refl; emitted = (false ∷ false ∷ false ∷ []); step = hold _ (refl, tt) tt (refl, refl) refl; outputs = refl }; join = refl }, (pair_at 2 0, (true ∷ false ∷ false ∷ []), true, record { base_reacts = record { input = refl; emitted = (false ∷ true ∷ false ∷ false ∷ []); step = transition 0 _ _ _ refl refl (refl, refl) refl refl; outputs = refl }; emitted = (true ∷ []); observer_reacts = record { input = refl; emitted = (false ∷ false ∷ true ∷ []); step = transition 0 _ _ _ refl refl (refl, refl) refl refl; outputs = refl }; join = refl }, refl)) }),
        (inr (record { base_outputs = (false ∷ true ∷ false ∷ []); left = pair_at 0 0; watch = record { base_reacts = record { input = refl; emitted = (false ∷ false ∷ true ∷ false ∷ []); step = transition 0 _ _ _ refl refl (refl, refl) refl refl; outputs = refl }; emitted = (true ∷ []); observer_reacts = record { input = refl; emitted = (false ∷ false ∷ true ∷ []); step = transition 0 _ _ _ refl refl (refl, refl) refl refl; outputs = refl }; join = refl }; outputs = refl; reach = (pair_at 1 0, (false ∷ false ∷ false ∷ []), false, record { base_reacts = record { input = refl; emitted = (false ∷ false ∷ false ∷ false ∷ []); step = transition 0 _ _ _ refl refl (refl, refl) refl refl; outputs = refl }; emitted = (false ∷ []); observer_reacts = record { input = refl; emitted = (false ∷ false ∷ false ∷ []); step = hold _ (refl, tt) tt (refl, refl) refl; outputs = refl }; join = refl }, (pair_at 2 0, (true ∷ false ∷ false ∷ []), true, record { base_reacts = record { input = refl; emitted = (false ∷ true ∷ false ∷ false ∷ []); step = transition 0 _ _ _ refl refl (refl, refl) refl refl; outputs = refl }; emitted = (true ∷ []); observer_reacts = record { input = refl; emitted = (false ∷ false ∷ true ∷ []); step = transition 0 _ _ _ refl refl (refl, refl) refl refl; outputs = refl }; join = refl }, refl)) }), tt),
      ),
    ),
  ),
)

-- a in each instant gives - / o / q / q / q
pub two_states_trace : IsWovenTrace three_states (two_states ∷ []) ((true ∷ []) ∷ (true ∷ []) ∷ (true ∷ []) ∷ (true ∷ []) ∷ (true ∷ []) ∷ []) ((false ∷ false ∷ false ∷ []) ∷ (true ∷ false ∷ false ∷ []) ∷ (false ∷ false ∷ true ∷ []) ∷ (false ∷ false ∷ true ∷ []) ∷ (false ∷ false ∷ true ∷ []) ∷ [])
two_states_trace = (
  (both_at 1 0 ∷ both_at 2 1 ∷ both_at 2 1 ∷ both_at 2 1 ∷ both_at 2 1 ∷ []),
  (
    inl (record { base_reacts = record { input = refl; emitted = (false ∷ false ∷ false ∷ false ∷ []); step = transition 0 _ _ _ refl refl (refl, refl) refl refl; outputs = refl }; emitted = (false ∷ []); observer_reacts = record { input = refl; emitted = (false ∷ false ∷ false ∷ []); step = hold _ (refl, tt) tt (refl, refl) refl; outputs = refl }; join = refl }),
    (
      inl (record { base_reacts = record { input = refl; emitted = (false ∷ true ∷ false ∷ false ∷ []); step = transition 0 _ _ _ refl refl (refl, refl) refl refl; outputs = refl }; emitted = (false ∷ []); observer_reacts = record { input = refl; emitted = (false ∷ false ∷ false ∷ []); step = transition 0 _ _ _ refl refl (refl, refl) refl refl; outputs = refl }; join = refl }),
      (
        inr (record { base_outputs = (false ∷ true ∷ false ∷ []); left = pair_at 0 1; watch = record { base_reacts = record { input = refl; emitted = (false ∷ false ∷ true ∷ false ∷ []); step = transition 0 _ _ _ refl refl (refl, refl) refl refl; outputs = refl }; emitted = (true ∷ []); observer_reacts = record { input = refl; emitted = (false ∷ false ∷ true ∷ []); step = transition 0 _ _ _ refl refl (refl, refl) refl refl; outputs = refl }; join = refl }; outputs = refl; reach = (pair_at 1 0, (false ∷ false ∷ false ∷ []), false, record { base_reacts = record { input = refl; emitted = (false ∷ false ∷ false ∷ false ∷ []); step = transition 0 _ _ _ refl refl (refl, refl) refl refl; outputs = refl }; emitted = (false ∷ []); observer_reacts = record { input = refl; emitted = (false ∷ false ∷ false ∷ []); step = hold _ (refl, tt) tt (refl, refl) refl; outputs = refl }; join = refl }, (pair_at 2 1, (true ∷ false ∷ false ∷ []), false, record { base_reacts = record { input = refl; emitted = (false ∷ true ∷ false ∷ false ∷ []); step = transition 0 _ _ _ refl refl (refl, refl) refl refl; outputs = refl }; emitted = (false ∷ []); observer_reacts = record { input = refl; emitted = (false ∷ false ∷ false ∷ []); step = transition 0 _ _ _ refl refl (refl, refl) refl refl; outputs = refl }; join = refl }, refl)) }),
        (
          inr (record { base_outputs = (false ∷ true ∷ false ∷ []); left = pair_at 0 1; watch = record { base_reacts = record { input = refl; emitted = (false ∷ false ∷ true ∷ false ∷ []); step = transition 0 _ _ _ refl refl (refl, refl) refl refl; outputs = refl }; emitted = (true ∷ []); observer_reacts = record { input = refl; emitted = (false ∷ false ∷ true ∷ []); step = transition 0 _ _ _ refl refl (refl, refl) refl refl; outputs = refl }; join = refl }; outputs = refl; reach = (pair_at 1 0, (false ∷ false ∷ false ∷ []), false, record { base_reacts = record { input = refl; emitted = (false ∷ false ∷ false ∷ false ∷ []); step = transition 0 _ _ _ refl refl (refl, refl) refl refl; outputs = refl }; emitted = (false ∷ []); observer_reacts = record { input = refl; emitted = (false ∷ false ∷ false ∷ []); step = hold _ (refl, tt) tt (refl, refl) refl; outputs = refl }; join = refl }, (pair_at 2 1, (true ∷ false ∷ false ∷ []), false, record { base_reacts = record { input = refl; emitted = (false ∷ true ∷ false ∷ false ∷ []); step = transition 0 _ _ _ refl refl (refl, refl) refl refl; outputs = refl }; emitted = (false ∷ []); observer_reacts = record { input = refl; emitted = (false ∷ false ∷ false ∷ []); step = transition 0 _ _ _ refl refl (refl, refl) refl refl; outputs = refl }; join = refl }, refl)) }),
          (inr (record { base_outputs = (false ∷ true ∷ false ∷ []); left = pair_at 0 1; watch = record { base_reacts = record { input = refl; emitted = (false ∷ false ∷ true ∷ false ∷ []); step = transition 0 _ _ _ refl refl (refl, refl) refl refl; outputs = refl }; emitted = (true ∷ []); observer_reacts = record { input = refl; emitted = (false ∷ false ∷ true ∷ []); step = transition 0 _ _ _ refl refl (refl, refl) refl refl; outputs = refl }; join = refl }; outputs = refl; reach = (pair_at 1 0, (false ∷ false ∷ false ∷ []), false, record { base_reacts = record { input = refl; emitted = (false ∷ false ∷ false ∷ false ∷ []); step = transition 0 _ _ _ refl refl (refl, refl) refl refl; outputs = refl }; emitted = (false ∷ []); observer_reacts = record { input = refl; emitted = (false ∷ false ∷ false ∷ []); step = hold _ (refl, tt) tt (refl, refl) refl; outputs = refl }; join = refl }, (pair_at 2 1, (true ∷ false ∷ false ∷ []), false, record { base_reacts = record { input = refl; emitted = (false ∷ true ∷ false ∷ false ∷ []); step = transition 0 _ _ _ refl refl (refl, refl) refl refl; outputs = refl }; emitted = (false ∷ []); observer_reacts = record { input = refl; emitted = (false ∷ false ∷ false ∷ []); step = transition 0 _ _ _ refl refl (refl, refl) refl refl; outputs = refl }; join = refl }, refl)) }), tt),
        ),
      ),
    ),
  ),
)

-- the code of a woven configuration: the base's register and then the observer's
pub woven_code_is : woven_code three_states (two_states ∷ []) (both_at 2 1) ≡ 3 ∷ 2 ∷ []
woven_code_is = refl

-- a bound on the lines: with 256 sets in the trace 47,298, and with the same aspect again 12,169,989
abbrev sets : ℕ → List SignalSet
sets n = replicate n (true ∷ [])

pub need_once : need_with three_states [] (stay_in_place (sets 256)) 128 56 ≡ 47298
need_once = refl

pub need_twice : need_with three_states (stay_in_place (sets 256) ∷ []) (stay_in_place (sets 256)) 47298 56 ≡ 12169989
need_twice = refl
