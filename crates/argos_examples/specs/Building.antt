-- Words in which the example programs are written.
use Rattle.std.specs.Prelude.{ℕ, List, None}
use Rattle.argos_base.specs.Names.{Spelled}
use Rattle.argos_core.specs.Process.{Guard, all, no_guards, guard, Transition, Rules, States, state, no_body}

-- when the guard holds, emit these signals and go to this state
abbrev pub when : Guard → List ℕ → ℕ → Transition
when g outs target = record { guard = g; outs = outs; target = target }

-- both guards hold
abbrev pub both : Guard → Guard → Guard
both g h = all (guard g (guard h no_guards))

-- the rules of a state without a timeout
abbrev pub untimed : Spelled → List Transition → Rules
untimed name ts = record { name = name; transitions = ts; timeout = None }

-- a state without a timeout and without a body, and more states
abbrev pub plain : Spelled → List Transition → States → States
plain name ts ss = state (untimed name ts) no_body ss
