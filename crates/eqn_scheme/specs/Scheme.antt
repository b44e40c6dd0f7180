-- The lines of a process, with their numbers. Bit k below the number of signals is signal k, the next bit is always true, and the process takes the bits from b on; register r has the word r, and its next value the word behind all registers that has its place. Source: this project.
use Rattle.std.specs.Prelude.{ℕ, zero, suc, ◌+◌, ◌-◌, List, [], ◌∷◌, ◌++◌, Option, Some, None, true, false, not, nat_eq, if◌then◌else◌, length}
use Rattle.std.specs.List.{range_with_len}
use Rattle.argos_core.specs.Automata.{counts_of, first_code, register_count, registers_within}
use Rattle.argos_core.specs.Codes.{code_of}
use Rattle.argos_core.specs.Configurations.{initial_configuration}
use Rattle.argos_core.specs.Process.{Guard, always, never, present, negation, all, any, Guards, no_guards, guard, Transition, Timeout, Process, automaton, parallel, local, freeze, Processes, no_processes, process, States, no_states, state, Body, no_body, body, PlainModule}
use Rattle.argos_core.specs.Reactions.{input_count, output_count, signal_count}
use Rattle.eqn_core.specs.Equations.{Literal, Choice, code, word, next, Case, Line, within, choose, Equations}
use Rattle.eqn_core.specs.Equations as lines

abbrev pub plus : ℕ → Literal
plus b = record { bit = b; negated = false }

abbrev pub minus : ℕ → Literal
minus b = record { bit = b; negated = true }

abbrev pub opposite : Literal → Literal
opposite l = record { bit = l.bit; negated = not l.negated }

-- Guards: one line for each `all` and `any`, behind those of its operands.
abbrev mutual
  pub guard_bits : Guard → ℕ
  guard_bits always = 0
  guard_bits never = 0
  guard_bits (present k) = 0
  guard_bits (negation g) = guard_bits g
  guard_bits (all gs) = suc (operand_bits gs)
  guard_bits (any gs) = suc (operand_bits gs)

  pub operand_bits : Guards → ℕ
  operand_bits no_guards = 0
  operand_bits (guard g gs) = guard_bits g + operand_bits gs

abbrev mutual
  pub guard_literal : ℕ → ℕ → Guard → Literal
  guard_literal one b always = plus one
  guard_literal one b never = minus one
  guard_literal one b (present k) = plus k
  guard_literal one b (negation g) = opposite (guard_literal one b g)
  guard_literal one b (all gs) = plus (b + operand_bits gs)
  guard_literal one b (any gs) = plus (b + operand_bits gs)

  pub operand_literals : ℕ → ℕ → Guards → List Literal
  operand_literals one b no_guards = []
  operand_literals one b (guard g gs) = guard_literal one b g ∷ operand_literals one (b + guard_bits g) gs

abbrev mutual
  pub guard_lines : ℕ → ℕ → Guard → List Line
  guard_lines one b always = []
  guard_lines one b never = []
  guard_lines one b (present k) = []
  guard_lines one b (negation g) = guard_lines one b g
  guard_lines one b (all gs) = operand_lines one b gs ++ lines.all (operand_literals one b gs) ∷ []
  guard_lines one b (any gs) = operand_lines one b gs ++ lines.any (operand_literals one b gs) ∷ []

  pub operand_lines : ℕ → ℕ → Guards → List Line
  operand_lines one b no_guards = []
  operand_lines one b (guard g gs) = guard_lines one b g ++ operand_lines one (b + guard_bits g) gs

-- the bit of a transition or timeout, what it emits, and where it leads
pub record FireBit : Type 0 where
  pub bit : ℕ
  pub outs : List ℕ
  pub target : ℕ

-- Transitions: the guard, then whether it fires.
abbrev pub transition_bits : List Transition → ℕ
transition_bits [] = 0
transition_bits (t ∷ ts) = suc (guard_bits t.guard + transition_bits ts)

abbrev pub transition_lines : ℕ → ℕ → ℕ → List Transition → List Line
transition_lines one live b [] = []
transition_lines one live b (t ∷ ts) = guard_lines one b t.guard ++ lines.all (plus live ∷ guard_literal one b t.guard ∷ []) ∷ transition_lines one live (suc (b + guard_bits t.guard)) ts

abbrev pub transition_fires : ℕ → List Transition → List FireBit
transition_fires b [] = []
transition_fires b (t ∷ ts) = record { bit = b + guard_bits t.guard; outs = t.outs; target = t.target } ∷ transition_fires (suc (b + guard_bits t.guard)) ts

-- each guard's opposite
abbrev pub refusals : ℕ → ℕ → List Transition → List Literal
refusals one b [] = []
refusals one b (t ∷ ts) = opposite (guard_literal one b t.guard) ∷ refusals one (suc (b + guard_bits t.guard)) ts

-- A timeout: no guard holds, the last code, the time, the tick.
abbrev pub timeout_bits : Option Timeout → ℕ
timeout_bits None = 0
timeout_bits (Some w) = 4

abbrev pub timeout_lines : ℕ → ℕ → ℕ → ℕ → List Literal → Option Timeout → List Line
timeout_lines live r first b none None = []
timeout_lines live r first b none (Some w) =
    lines.all (plus live ∷ none)
    ∷ within r (first + w.count - 1) (first + w.count - 1)
    ∷ lines.all (plus b ∷ plus w.signal ∷ plus (suc b) ∷ [])
    ∷ lines.all (plus b ∷ plus w.signal ∷ minus (suc b) ∷ [])
    ∷ []

abbrev pub timeout_fires : ℕ → Option Timeout → List FireBit
timeout_fires b None = []
timeout_fires b (Some w) = record { bit = suc (suc b); outs = w.outs; target = w.target } ∷ []

abbrev pub timeout_ticks : ℕ → Option Timeout → List ℕ
timeout_ticks b None = []
timeout_ticks b (Some w) = suc (suc (suc b)) ∷ []

-- A state: whether it is current, whether it is live, its transitions and its timeout.
abbrev pub state_bits : List Transition → Option Timeout → ℕ
state_bits ts w = suc (suc (transition_bits ts + timeout_bits w))

abbrev pub state_lines : ℕ → Literal → ℕ → ℕ → ℕ → List Transition → Option Timeout → List Line
state_lines one run r first b ts w =
    within r first (first + counts_of w - 1)
    ∷ lines.all (run ∷ plus b ∷ [])
    ∷ (transition_lines one (suc b) (suc (suc b)) ts ++ timeout_lines (suc b) r first (suc (suc b) + transition_bits ts) (refusals one (suc (suc b)) ts) w)

abbrev pub state_fire_bits : ℕ → List Transition → Option Timeout → List FireBit
state_fire_bits b ts w = transition_fires (suc (suc b)) ts ++ timeout_fires (suc (suc b) + transition_bits ts) w

-- the states of an automaton, without their bodies
abbrev pub own_bits : States → ℕ
own_bits no_states = 0
own_bits (state s p ss) = state_bits s.transitions s.timeout + own_bits ss

abbrev pub own_lines : States → ℕ → Literal → ℕ → ℕ → ℕ → List Line
own_lines no_states one run r first b = []
own_lines (state s p ss) one run r first b = state_lines one run r first b s.transitions s.timeout ++ own_lines ss one run r (first + counts_of s.timeout) (b + state_bits s.transitions s.timeout)

abbrev pub own_fires : States → ℕ → List FireBit
own_fires no_states b = []
own_fires (state s p ss) b = state_fire_bits b s.transitions s.timeout ++ own_fires ss (b + state_bits s.transitions s.timeout)

abbrev pub own_ticks : States → ℕ → List ℕ
own_ticks no_states b = []
own_ticks (state s p ss) b = timeout_ticks (suc (suc b) + transition_bits s.transitions) s.timeout ++ own_ticks ss (b + state_bits s.transitions s.timeout)

-- the next value of the register
abbrev pub fire_cases : (ℕ → ℕ) → List FireBit → List Case
fire_cases first [] = []
fire_cases first (f ∷ fs) = record { when = plus f.bit; choice = code (first f.target) } ∷ fire_cases first fs

abbrev pub tick_cases : ℕ → List ℕ → List Case
tick_cases r [] = []
tick_cases r (b ∷ bs) = record { when = plus b; choice = next r } ∷ tick_cases r bs

abbrev pub register_line : States → ℕ → ℕ → Literal → Literal → List FireBit → List ℕ → Line
register_line ss q0 r start kill fires ticks =
    choose (record { when = start; choice = code (first_code ss q0) } ∷ record { when = kill; choice = code 0 } ∷ (fire_cases (first_code ss) fires ++ tick_cases r ticks)) (word r)

-- the literals of fires, and of those that lead to a state
abbrev pub fire_literals : List FireBit → List Literal
fire_literals [] = []
fire_literals (f ∷ fs) = plus f.bit ∷ fire_literals fs

abbrev pub entering : List FireBit → ℕ → List Literal
entering [] q = []
entering (f ∷ fs) q = if nat_eq f.target q then plus f.bit ∷ entering fs q else entering fs q

-- A process. An automaton has a line that tells that it is neither started nor killed, its states, its register, and the bodies. A body has four lines before its own: whether its state is left or killed, whether some fire enters it, whether such a fire starts it, and whether it is started at all.
abbrev mutual
  pub process_bits : Process → ℕ
  process_bits (automaton ss q0) = suc (own_bits ss + bodies_bits ss)
  process_bits (parallel ps) = parts_bits ps
  process_bits (local list p) = process_bits p
  process_bits (freeze s p) = suc (process_bits p)

  pub parts_bits : Processes → ℕ
  parts_bits no_processes = 0
  parts_bits (process p ps) = process_bits p + parts_bits ps

  pub bodies_bits : States → ℕ
  bodies_bits no_states = 0
  bodies_bits (state s p ss) = body_bits p + bodies_bits ss

  pub body_bits : Body → ℕ
  body_bits no_body = 0
  body_bits (body p) = suc (suc (suc (suc (process_bits p))))

abbrev mutual
  pub process_lines : Process → ℕ → ℕ → ℕ → Literal → Literal → Literal → List Line
  process_lines (automaton ss q0) one b r run start kill =
      lines.all (opposite start ∷ opposite kill ∷ [])
      ∷ (own_lines ss one run r 1 (suc b)
      ++ register_line ss q0 r start kill (own_fires ss (suc b)) (own_ticks ss (suc b))
      ∷ bodies_lines ss one b (suc r) (entering (own_fires ss (suc b))) (λ q. if nat_eq q0 q then start ∷ [] else []) kill (suc b) (suc b + own_bits ss))
  process_lines (parallel ps) one b r run start kill = parts_lines ps one b r run start kill
  process_lines (local list p) one b r run start kill = process_lines p one b r run start kill
  process_lines (freeze s p) one b r run start kill = lines.all (run ∷ minus s ∷ []) ∷ process_lines p one (suc b) r (plus b) start kill

  pub parts_lines : Processes → ℕ → ℕ → ℕ → Literal → Literal → Literal → List Line
  parts_lines no_processes one b r run start kill = []
  parts_lines (process p ps) one b r run start kill = process_lines p one b r run start kill ++ parts_lines ps one (b + process_bits p) (r + register_count p) run start kill

  -- the lines of the states are from bit `own` on
  pub bodies_lines : States → ℕ → ℕ → ℕ → (ℕ → List Literal) → (ℕ → List Literal) → Literal → ℕ → ℕ → List Line
  bodies_lines no_states one go r enters starts kill own b = []
  bodies_lines (state s p ss) one go r enters starts kill own b =
      body_lines p one go r (suc own) (fire_literals (state_fire_bits own s.transitions s.timeout)) (enters 0) (starts 0) kill b
      ++ bodies_lines ss one go (r + registers_within p) (λ q. enters (suc q)) (λ q. starts (suc q)) kill (own + state_bits s.transitions s.timeout) (b + body_bits p)

  pub body_lines : Body → ℕ → ℕ → ℕ → ℕ → List Literal → List Literal → List Literal → Literal → ℕ → List Line
  body_lines no_body one go r live leaves enters starts kill b = []
  body_lines (body p) one go r live leaves enters starts kill b =
      lines.any (leaves ++ kill ∷ [])
      ∷ lines.any enters
      ∷ lines.all (plus go ∷ plus (suc b) ∷ [])
      ∷ lines.any (plus (suc (suc b)) ∷ starts)
      ∷ process_lines p one (suc (suc (suc (suc b)))) r (plus live) (plus (suc (suc (suc b)))) (plus b)

-- all fires of a process, in the order of their lines
abbrev mutual
  pub process_fires : Process → ℕ → List FireBit
  process_fires (automaton ss q0) b = own_fires ss (suc b) ++ bodies_fires ss (suc b + own_bits ss)
  process_fires (parallel ps) b = parts_fires ps b
  process_fires (local list p) b = process_fires p b
  process_fires (freeze s p) b = process_fires p (suc b)

  pub parts_fires : Processes → ℕ → List FireBit
  parts_fires no_processes b = []
  parts_fires (process p ps) b = process_fires p b ++ parts_fires ps (b + process_bits p)

  pub bodies_fires : States → ℕ → List FireBit
  bodies_fires no_states b = []
  bodies_fires (state s p ss) b = body_fires p b ++ bodies_fires ss (b + body_bits p)

  pub body_fires : Body → ℕ → List FireBit
  body_fires no_body b = []
  body_fires (body p) b = process_fires p (suc (suc (suc (suc b))))

-- a signal's line: some fire emits it, once for each time that it is listed
abbrev pub for_signal : ℕ → List ℕ → ℕ → List Literal
for_signal bit [] k = []
for_signal bit (o ∷ outs) k = if nat_eq o k then plus bit ∷ for_signal bit outs k else for_signal bit outs k

abbrev pub emitting : List FireBit → ℕ → List Literal
emitting [] k = []
emitting (f ∷ fs) k = for_signal f.bit f.outs k ++ emitting fs k

-- so many signals, from signal k on
abbrev pub signal_lines : List FireBit → ℕ → ℕ → List Line
signal_lines fires k zero = []
signal_lines fires k (suc more) = lines.any (emitting fires k) ∷ signal_lines fires (suc k) more

-- the lines behind those of the signals
abbrev pub inner_lines : PlainModule → List Line
inner_lines P = lines.all [] ∷ process_lines P.process (signal_count P) (suc (signal_count P)) 0 (plus (signal_count P)) (minus (signal_count P)) (minus (signal_count P))

abbrev pub fires_of_module : PlainModule → List FireBit
fires_of_module P = process_fires P.process (suc (signal_count P))

-- the equations of a module
abbrev pub equations_of : PlainModule → Equations
equations_of P = record {
  inputs = input_count P;
  initial = code_of P.process (initial_configuration P.process);
  lines = signal_lines (fires_of_module P) (input_count P) (output_count P + length P.locals) ++ inner_lines P;
  outputs = range_with_len (input_count P) (output_count P);
  locals = range_with_len (input_count P + output_count P) (length P.locals);
  next = range_with_len (register_count P.process) (register_count P.process);
}
