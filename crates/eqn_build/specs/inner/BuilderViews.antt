-- What the builder's types stand for. Source: this project.
use Rattle.std.specs.Prelude.{ℕ, zero, suc, ◌+◌, ◌-◌, ◌<◌, ◌≤◌, List, [], ◌∷◌, ◌++◌, Option, Some, None, map, nat_eq, if◌then◌else◌}
use Rattle.argos_core.specs.Automata.{counts_of, registers_within}
use Rattle.argos_core.specs.Process.{Transition, Timeout, States, no_states, state, Body, no_body, body}
use Rattle.argos_core.specs.Views.{numbers}
use Rattle.eqn_core.specs.Equations.{Literal, Case, code, Line, within}
use Rattle.eqn_core.specs.Equations as lines
use Rattle.eqn_core.specs.Views.{literal_of}
use Rattle.eqn_core.specs.declared.system.Lit.{Lit}
use Rattle.eqn_scheme.specs.Scheme.{FireBit, plus, minus, timeout_ticks, transition_bits, state_bits, state_fire_bits, fire_cases, tick_cases, fire_literals, body_bits, process_lines}
use Rattle.eqn_build.specs.declared.builder.Fire.{Fire}
use Rattle.eqn_build.specs.declared.builder.Exit.{Exit}
use Rattle.smallvec.specs.SmallVec.{SmallVec}

-- a fire
abbrev pub fire_bit_of : Fire → FireBit
fire_bit_of f = record { bit = f.bit; outs = numbers f.outs.items; target = f.target }

-- the lines of a timeout, with the literals of the first of them
abbrev pub timed_lines : ℕ → ℕ → ℕ → List Literal → Timeout → List Line
timed_lines r first b waits w =
    lines.all waits
    ∷ within r (first + w.count - 1) (first + w.count - 1)
    ∷ lines.all (plus b ∷ plus w.signal ∷ plus (suc b) ∷ [])
    ∷ lines.all (plus b ∷ plus w.signal ∷ minus (suc b) ∷ [])
    ∷ []

abbrev pub waits_lines : ℕ → ℕ → ℕ → List Literal → Option Timeout → List Line
waits_lines r first b waits None = []
waits_lines r first b waits (Some w) = timed_lines r first b waits w

-- which is how they stand among the lines of a state
abbrev pub ticks_of_state : ℕ → List Transition → Option Timeout → List ℕ
ticks_of_state b ts w = timeout_ticks (suc (suc b) + transition_bits ts) w

-- a list of literals
abbrev pub literals : SmallVec Lit → List Literal
literals v = map literal_of v.items

-- the line that tells whether one of the list is true
abbrev pub any_line : SmallVec Lit → Line
any_line v = lines.any (literals v)

abbrev pub literals_in : Option Lit → List Literal
literals_in None = []
literals_in (Some l) = literal_of l ∷ []

-- of lists of literals the one with number q
abbrev pub literals_at : List (SmallVec Lit) → ℕ → List Literal
literals_at [] q = []
literals_at (v ∷ vs) zero = literals v
literals_at (v ∷ vs) (suc q) = literals_at vs q

-- each fire leads to one of the first n states
abbrev pub LeadBelow : ℕ → List FireBit → Type 0
LeadBelow n [] = Unit {0}
LeadBelow n (f ∷ fs) = (f.target < n) × LeadBelow n fs

-- each of the numbers is one of `count` from `first` on
abbrev pub AreFrom : ℕ → ℕ → List ℕ → Type 0
AreFrom first count [] = Unit {0}
AreFrom first count (k ∷ ks) = (first ≤ k) × (k < first + count) × AreFrom first count ks

-- each fire emits such signals alone
abbrev pub EmitFrom : ℕ → ℕ → List FireBit → Type 0
EmitFrom first count [] = Unit {0}
EmitFrom first count (f ∷ fs) = AreFrom first count f.outs × EmitFrom first count fs

-- the first codes of states, of which the first has this one
abbrev pub first_codes_from : ℕ → States → List ℕ
first_codes_from first no_states = []
first_codes_from first (state s p ss) = first ∷ first_codes_from (first + counts_of s.timeout) ss

-- the cases of a register, where the states have these first codes
abbrev pub cases_of : (ℕ → ℕ) → ℕ → ℕ → Literal → Literal → List FireBit → List ℕ → List Case
cases_of first q0 r start kill fires ticks = record { when = start; choice = code (first q0) } ∷ record { when = kill; choice = code 0 } ∷ (fire_cases first fires ++ tick_cases r ticks)

-- what the body of a state needs of the state: the bit that tells whether it is live, and the literals of which one tells that it is left or killed
pub record ExitBits : Type 0 where
  pub live : ℕ
  pub left : List Literal

abbrev pub exit_bits_of : Exit → ExitBits
exit_bits_of x = record { live = x.live; left = literals x.left }

abbrev pub own_exits : States → Literal → ℕ → List ExitBits
own_exits no_states kill b = []
own_exits (state s p ss) kill b = record { live = suc b; left = fire_literals (state_fire_bits b s.transitions s.timeout) ++ kill ∷ [] } ∷ own_exits ss kill (b + state_bits s.transitions s.timeout)

-- from this number on
unfoldable pub shifted : {A : Type 0} → (ℕ → A) → ℕ → ℕ → A
shifted f i q = f (i + q)

-- the four lines before those of a body
abbrev pub entry_lines : ℕ → List Literal → List Literal → List Literal → ℕ → List Line
entry_lines go left enters starts b = lines.any left ∷ lines.any enters ∷ lines.all (plus go ∷ plus (b + 1) ∷ []) ∷ lines.any (plus (b + 2) ∷ starts) ∷ []

-- the lines of a body, and of the bodies of states with these exits
abbrev pub placed_body : Body → ℕ → ℕ → ℕ → ExitBits → List Literal → List Literal → ℕ → List Line
placed_body no_body one go r x enters starts b = []
placed_body (body p) one go r x enters starts b = entry_lines go x.left enters starts b ++ process_lines p one (b + 4) r (plus x.live) (plus (b + 3)) (plus b)

abbrev pub placed_bodies : States → ℕ → ℕ → ℕ → List ExitBits → (ℕ → List Literal) → (ℕ → List Literal) → ℕ → List Line
placed_bodies no_states one go r xs enters starts b = []
placed_bodies (state s p ss) one go r [] enters starts b = []
placed_bodies (state s p ss) one go r (x ∷ xs) enters starts b = placed_body p one go r x (enters 0) (starts 0) b ++ placed_bodies ss one go (r + registers_within p) xs (shifted enters 1) (shifted starts 1) (b + body_bits p)

-- the literal, where the state is the initial one
abbrev pub starts_of : ℕ → Literal → ℕ → List Literal
starts_of q0 start q = if nat_eq q0 q then start ∷ [] else []
