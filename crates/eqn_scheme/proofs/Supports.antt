-- Which bits depend on one signal: the values of the lines, read so that a bit is true where one of the bits that its line reads is.
use Rattle.std.proofs.Common.{◌≡◌, ℕ, suc, ◌+◌, ◌<◌, List, [], ◌∷◌, ◌++◌, Option, Some, None, Bool, false, ◌||◌, nat_eq, if◌then◌else◌, refl, ap, ◌∙◌, subst, arith, map}
use Rattle.std.specs.List.{list_any}
use Rattle.argos_core.specs.Automata.{counts_of, register_count, registers_within}
use Rattle.argos_core.specs.Guards.{reads, reads_some}
use Rattle.argos_core.specs.Modules.{Scope, within_locals, IsGuard, AreGuards, AreTransitions, IsTimeout, IsScoped, AreScopedParts, AreScopedStates, IsScopedBody, locals_in, locals_in_parts, locals_in_states, locals_in_body}
use Rattle.argos_core.specs.Overlaps.{some_reads}
use Rattle.argos_core.specs.Process.{Guard, always, never, present, negation, all, any, Guards, no_guards, guard, Transition, Timeout, Process, automaton, parallel, local, freeze, Processes, no_processes, process, States, no_states, state, Body, no_body, body}
use Rattle.eqn_core.specs.Equations.{Literal, Case, Choice, code, word, next, Line, within, digit, choose, bit_lines}
use Rattle.eqn_core.specs.Equations as lines
use Rattle.eqn_core.specs.Solutions.{Values, bit_of, is_true}
use Rattle.eqn_scheme.specs.Scheme.{plus, guard_bits, operand_bits, guard_literal, operand_literals, guard_lines, operand_lines, transition_bits, transition_lines, transition_fires, refusals, timeout_lines, timeout_fires, state_bits, state_lines, state_fire_bits, own_bits, own_lines, own_fires, own_ticks, register_line, fire_literals, entering, process_bits, body_bits, process_lines, parts_lines, bodies_lines, body_lines, process_fires, parts_fires, bodies_fires, body_fires}
use Rattle.eqn_scheme.specs.Wired.{Fire}
use Rattle.eqn_scheme.proofs.Counting.{bits-guard, bits-operands, bits-transitions, bits-state, bits-own, bits-process, bits-body}
use Rattle.eqn_scheme.proofs.Firing.{or-false}
use Rattle.eqn_scheme.proofs.Listing.{lists-left, lists-right}
use Rattle.eqn_scheme.proofs.Meaning.{reading, reading-append, ReadsBelow, AreBelow, reads_within}
use Rattle.eqn_core.proofs.LinePlaces.{next_bit, next_bit-is, AreAt}
use Rattle.eqn_scheme.proofs.SetAlgebra.{both-or}

-- some literal's bit is true, whether or not it is negated
abbrev pub some_of : Values → List Literal → Bool
some_of s [] = false
some_of s (l ∷ ls) = bit_of s l.bit || some_of s ls

abbrev pub IsOr : Values → ℕ → Line → Type 0
IsOr s b (lines.all ls) = bit_of s b ≡ some_of s ls
IsOr s b (lines.any ls) = bit_of s b ≡ some_of s ls
IsOr s b (within x lo hi) = bit_of s b ≡ false
IsOr s b (digit x place) = bit_of s b ≡ false
IsOr s b (choose cases other) = Unit {0}

abbrev pub AreOr : Values → ℕ → List Line → Type 0
AreOr s b [] = Unit {0}
AreOr s b (l ∷ ls) = IsOr s b l × AreOr s (next_bit b l) ls

pub or_place : (s : Values) (b c : ℕ) (ls : List Line) → b ≡ c → AreOr s b ls → AreOr s c ls
or_place s b c ls e h = subst (λ k. AreOr s k ls) e h

or_left : (s : Values) (b : ℕ) (xs ys : List Line) → AreOr s b (xs ++ ys) → AreOr s b xs
or_left s b [] ys h = tt
or_left s b (l ∷ xs) ys h = (h.0, or_left s (next_bit b l) xs ys h.1)

or_right : (s : Values) (b : ℕ) (xs ys : List Line) → AreOr s b (xs ++ ys) → AreOr s (b + bit_lines xs) ys
or_right s b [] ys h = or_place s b (b + 0) ys (omega arith) h
or_right s b (l ∷ xs) ys h = or_place s (next_bit b l + bit_lines xs) _ ys (omega (arith, next_bit-is b l)) (or_right s (next_bit b l) xs ys h.1)

or_behind : (s : Values) (b k : ℕ) (xs ys : List Line) → bit_lines xs ≡ k → AreOr s b (xs ++ ys) → AreOr s (b + k) ys
or_behind s b k xs ys e h = or_place s (b + bit_lines xs) (b + k) ys (omega (arith, e)) (or_right s b xs ys h)

-- the same as lines, so that their values exist
abbrev pub positives : List Literal → List Literal
positives [] = []
positives (l ∷ ls) = plus l.bit ∷ positives ls

abbrev pub or_line : Line → Line
or_line (lines.all ls) = lines.any (positives ls)
or_line (lines.any ls) = lines.any (positives ls)
or_line (within x lo hi) = lines.any []
or_line (digit x place) = lines.any []
or_line (choose cases other) = choose [] (code 0)

positives-some : (s : Values) (ls : List Literal) → list_any (is_true s) (positives ls) ≡ some_of s ls
positives-some s [] = refl
positives-some s (l ∷ ls) = ap (λ b. bit_of s l.bit || b) (positives-some s ls)

pub or_at : (s : Values) (ls : List Line) (b w : ℕ) → AreAt s b w (map or_line ls) → AreOr s b ls
or_at s [] b w h = tt
or_at s (lines.all ls ∷ more) b w h = (h.0 ∙ positives-some s ls, or_at s more (suc b) w h.1)
or_at s (lines.any ls ∷ more) b w h = (h.0 ∙ positives-some s ls, or_at s more (suc b) w h.1)
or_at s (within x lo hi ∷ more) b w h = (h.0, or_at s more (suc b) w h.1)
or_at s (digit x place ∷ more) b w h = (h.0, or_at s more (suc b) w h.1)
or_at s (choose cases other ∷ more) b w h = (tt, or_at s more b (suc w) h.1)

-- which fires depend on signal y, where the automaton is stopped by it or not
abbrev pub transition_supports : ℕ → Bool → List Transition → List Fire
transition_supports y stop [] = []
transition_supports y stop (t ∷ ts) = record { on = stop || reads t.guard y; outs = t.outs; target = t.target } ∷ transition_supports y stop ts

abbrev pub timeout_supports : ℕ → Bool → List Transition → Option Timeout → List Fire
timeout_supports y stop ts None = []
timeout_supports y stop ts (Some w) = record { on = (stop || some_reads ts y) || nat_eq w.signal y; outs = w.outs; target = w.target } ∷ []

abbrev pub own_supports : ℕ → Bool → States → List Fire
own_supports y stop no_states = []
own_supports y stop (state s p ss) = (transition_supports y stop s.transitions ++ timeout_supports y stop s.transitions s.timeout) ++ own_supports y stop ss

abbrev mutual
  pub supports : ℕ → Bool → Process → List Fire
  supports y stop (automaton ss q0) = own_supports y stop ss ++ bodies_supports y stop ss
  supports y stop (parallel ps) = parts_supports y stop ps
  supports y stop (local list p) = supports y stop p
  supports y stop (freeze s p) = supports y (stop || nat_eq s y) p

  pub parts_supports : ℕ → Bool → Processes → List Fire
  parts_supports y stop no_processes = []
  parts_supports y stop (process p ps) = supports y stop p ++ parts_supports y stop ps

  pub bodies_supports : ℕ → Bool → States → List Fire
  bodies_supports y stop no_states = []
  bodies_supports y stop (state s p ss) = body_supports y stop p ++ bodies_supports y stop ss

  pub body_supports : ℕ → Bool → Body → List Fire
  body_supports y stop no_body = []
  body_supports y stop (body p) = supports y stop p

both-fires : (a b c d : List Fire) → a ≡ c → b ≡ d → a ++ b ≡ c ++ d
both-fires a b c d e f = ap (λ (x : List Fire). x ++ b) e ∙ ap (λ (x : List Fire). c ++ x) f

module _ (s : Values) (n one y : ℕ) (no_one : bit_of s one ≡ false) (same : (k : ℕ) → k < n → bit_of s k ≡ nat_eq k y) where
  mutual
    guard_supports : (g : Guard) (sc : Scope) (b : ℕ) → ReadsBelow n sc → IsGuard sc g → AreOr s b (guard_lines one b g) → bit_of s (guard_literal one b g).bit ≡ reads g y
    guard_supports always sc b i h a = no_one
    guard_supports never sc b i h a = no_one
    guard_supports (present k) sc b i h a = same k (i k h)
    guard_supports (negation g) sc b i h a = guard_supports g sc b i h a
    guard_supports (all gs) sc b i h a =
        let last = or_behind s b (operand_bits gs) (operand_lines one b gs) (lines.all (operand_literals one b gs) ∷ []) (bits-operands gs one b) a in
        last.0 ∙ operand_supports gs sc b i h.1 (or_left s b (operand_lines one b gs) _ a)
    guard_supports (any gs) sc b i h a =
        let last = or_behind s b (operand_bits gs) (operand_lines one b gs) (lines.any (operand_literals one b gs) ∷ []) (bits-operands gs one b) a in
        last.0 ∙ operand_supports gs sc b i h.1 (or_left s b (operand_lines one b gs) _ a)

    operand_supports : (gs : Guards) (sc : Scope) (b : ℕ) → ReadsBelow n sc → AreGuards sc gs → AreOr s b (operand_lines one b gs) → some_of s (operand_literals one b gs) ≡ reads_some gs y
    operand_supports no_guards sc b i h a = refl
    operand_supports (guard g gs) sc b i h a =
        both-or _ _ _ _ (guard_supports g sc b i h.0 (or_left s b (guard_lines one b g) _ a)) (operand_supports gs sc (b + guard_bits g) i h.1 (or_behind s b (guard_bits g) (guard_lines one b g) (operand_lines one (b + guard_bits g) gs) (bits-guard g one b) a))

  transitions_support : (ts : List Transition) (sc : Scope) (live b : ℕ) (stop : Bool) → ReadsBelow n sc → AreTransitions sc ts → bit_of s live ≡ stop → AreOr s b (transition_lines one live b ts) → (reading s (transition_fires b ts) ≡ transition_supports y stop ts) × (some_of s (refusals one b ts) ≡ some_reads ts y)
  transitions_support [] sc live b stop i h l a = (refl, refl)
  transitions_support (t ∷ ts) sc live b stop i h l a =
      let c = suc (b + guard_bits t.guard) in
      let lit : bit_of s (guard_literal one b t.guard).bit ≡ reads t.guard y = guard_supports t.guard sc b i h.0 (or_left s b (guard_lines one b t.guard) _ a) in
      let more = or_behind s b (guard_bits t.guard) (guard_lines one b t.guard) (lines.all (plus live ∷ guard_literal one b t.guard ∷ []) ∷ transition_lines one live c ts) (bits-guard t.guard one b) a in
      let rest = transitions_support ts sc live c stop i h.2 l more.1 in
      let on : bit_of s (b + guard_bits t.guard) ≡ (stop || reads t.guard y) = more.0 ∙ both-or _ _ _ _ l (or-false (bit_of s (guard_literal one b t.guard).bit) ∙ lit) in (
        ap (λ x. record { on = x; outs = t.outs; target = t.target } ∷ reading s (transition_fires c ts)) on ∙ ap (λ (z : List Fire). record { on = stop || reads t.guard y; outs = t.outs; target = t.target } ∷ z) rest.0,
        both-or _ _ _ _ lit rest.1,
      )

  timeout_support : (t : Option Timeout) (sc : Scope) (live r first b : ℕ) (none : List Literal) (stop : Bool) (ts : List Transition) → ReadsBelow n sc → IsTimeout sc t → bit_of s live ≡ stop → some_of s none ≡ some_reads ts y → AreOr s b (timeout_lines live r first b none t) → reading s (timeout_fires b t) ≡ timeout_supports y stop ts t
  timeout_support None sc live r first b none stop ts i h l e a = refl
  timeout_support (Some t) sc live r first b none stop ts i h l e a =
      let waits : bit_of s b ≡ (stop || some_reads ts y) = a.0 ∙ both-or _ _ _ _ l e in
      let signal : bit_of s t.signal ≡ nat_eq t.signal y = same t.signal (i t.signal h.0) in
      let last : bit_of s (suc b) ≡ false = a.1.0 in
      let time : bit_of s (suc (suc b)) ≡ ((stop || some_reads ts y) || nat_eq t.signal y) = a.1.1.0 ∙ both-or _ _ _ _ waits (both-or _ _ _ _ signal (or-false (bit_of s (suc b)) ∙ last) ∙ or-false (nat_eq t.signal y)) in
      ap (λ x. record { on = x; outs = t.outs; target = t.target } ∷ []) time

  -- the bit that tells that the state is live depends as the automaton's run does
  state_support : (ts : List Transition) (t : Option Timeout) (sc : Scope) (run : Literal) (r first b : ℕ) (stop : Bool) → ReadsBelow n sc → AreTransitions sc ts → IsTimeout sc t → bit_of s run.bit ≡ stop → AreOr s b (state_lines one run r first b ts t)
      → (bit_of s (suc b) ≡ stop) × (reading s (state_fire_bits b ts t) ≡ transition_supports y stop ts ++ timeout_supports y stop ts t)
  state_support ts t sc run r first b stop i h k l a =
      let c = suc (suc b) in
      let j = c + transition_bits ts in
      let live : bit_of s (suc b) ≡ stop = a.1.0 ∙ both-or _ _ _ _ l (or-false (bit_of s b) ∙ a.0) ∙ or-false stop in
      let left = or_left s c (transition_lines one (suc b) c ts) _ a.1.1 in
      let right = or_behind s c (transition_bits ts) (transition_lines one (suc b) c ts) (timeout_lines (suc b) r first j (refusals one c ts) t) (bits-transitions ts one (suc b) c) a.1.1 in
      let own = transitions_support ts sc (suc b) c stop i h live left in
      (live, reading-append s (transition_fires c ts) (timeout_fires j t) ∙ both-fires _ _ _ _ own.0 (timeout_support t sc (suc b) r first j (refusals one c ts) stop ts i k live own.1 right))

  own_support : (ss : States) (sc : Scope) (run : Literal) (r first b : ℕ) (stop : Bool) → ReadsBelow n sc → AreScopedStates sc ss → bit_of s run.bit ≡ stop → AreOr s b (own_lines ss one run r first b) → reading s (own_fires ss b) ≡ own_supports y stop ss
  own_support no_states sc run r first b stop i h l a = refl
  own_support (state x p ss) sc run r first b stop i h l a =
      let c = b + state_bits x.transitions x.timeout in
      let here = state_support x.transitions x.timeout sc run r first b stop i h.0 h.1 l (or_left s b (state_lines one run r first b x.transitions x.timeout) _ a) in
      let more = or_behind s b (state_bits x.transitions x.timeout) (state_lines one run r first b x.transitions x.timeout) (own_lines ss one run r (first + counts_of x.timeout) c) (bits-state x.transitions x.timeout one run r first b) a in
      reading-append s (state_fire_bits b x.transitions x.timeout) (own_fires ss c) ∙ both-fires _ _ _ _ here.1 (own_support ss sc run r (first + counts_of x.timeout) c stop i h.3 l more)

  mutual
    pub process_support : (p : Process) (sc : Scope) (b r : ℕ) (run start kill : Literal) (stop : Bool) → ReadsBelow n sc → AreBelow n (locals_in p) → IsScoped sc p → bit_of s run.bit ≡ stop → AreOr s b (process_lines p one b r run start kill) → reading s (process_fires p b) ≡ supports y stop p
    process_support (automaton ss q0) sc b r run start kill stop i u h l a =
        let fires = own_fires ss (suc b) in
        let enters : ℕ → List Literal = entering fires in
        let starts : ℕ → List Literal = λ q. if nat_eq q0 q then start ∷ [] else [] in
        let c = suc b + own_bits ss in
        let bodies = bodies_lines ss one b (suc r) enters starts kill (suc b) c in
        let own_at = or_left s (suc b) (own_lines ss one run r 1 (suc b)) _ a.1 in
        let more = or_behind s (suc b) (own_bits ss) (own_lines ss one run r 1 (suc b)) (register_line ss q0 r start kill fires (own_ticks ss (suc b)) ∷ bodies) (bits-own ss one run r 1 (suc b)) a.1 in
        reading-append s fires (bodies_fires ss c) ∙ both-fires _ _ _ _ (own_support ss sc run r 1 (suc b) stop i h.1 l own_at) (bodies_support ss sc b (suc b) c r (suc r) 1 run kill enters starts stop i u h.1 l own_at more.1)
    process_support (parallel ps) sc b r run start kill stop i u h l a = parts_support ps sc b r run start kill stop i u h l a
    process_support (local list p) sc b r run start kill stop i u h l a =
        process_support p (within_locals sc list) b r run start kill stop (reads_within n sc list i (λ k x. u k (lists-left list (locals_in p) k x))) (λ k x. u k (lists-right list (locals_in p) k x)) h l a
    process_support (freeze x p) sc b r run start kill stop i u h l a =
        let stopped : bit_of s b ≡ (stop || nat_eq x y) = a.0 ∙ both-or _ _ _ _ l (or-false (bit_of s x) ∙ same x (i x h.0)) in
        process_support p sc (suc b) r (plus b) start kill (stop || nat_eq x y) i u h.1 stopped a.1

    parts_support : (ps : Processes) (sc : Scope) (b r : ℕ) (run start kill : Literal) (stop : Bool) → ReadsBelow n sc → AreBelow n (locals_in_parts ps) → AreScopedParts sc ps → bit_of s run.bit ≡ stop → AreOr s b (parts_lines ps one b r run start kill) → reading s (parts_fires ps b) ≡ parts_supports y stop ps
    parts_support no_processes sc b r run start kill stop i u h l a = refl
    parts_support (process p ps) sc b r run start kill stop i u h l a =
        let c = b + process_bits p in
        let first = process_support p sc b r run start kill stop i (λ k x. u k (lists-left (locals_in p) (locals_in_parts ps) k x)) h.0 l (or_left s b (process_lines p one b r run start kill) _ a) in
        let more = or_behind s b (process_bits p) (process_lines p one b r run start kill) (parts_lines ps one c (r + register_count p) run start kill) (bits-process p one b r run start kill) a in
        reading-append s (process_fires p b) (parts_fires ps c) ∙ both-fires _ _ _ _ first (parts_support ps sc c (r + register_count p) run start kill stop i (λ k x. u k (lists-right (locals_in p) (locals_in_parts ps) k x)) h.1 l more)

    bodies_support : (ss : States) (sc : Scope) (go own b r inner first : ℕ) (run kill : Literal) (enters starts : ℕ → List Literal) (stop : Bool) → ReadsBelow n sc → AreBelow n (locals_in_states ss) → AreScopedStates sc ss → bit_of s run.bit ≡ stop
        → AreOr s own (own_lines ss one run r first own) → AreOr s b (bodies_lines ss one go inner enters starts kill own b) → reading s (bodies_fires ss b) ≡ bodies_supports y stop ss
    bodies_support no_states sc go own b r inner first run kill enters starts stop i u h l o a = refl
    bodies_support (state x p ss) sc go own b r inner first run kill enters starts stop i u h l o a =
        let next_own = own + state_bits x.transitions x.timeout in
        let here = state_support x.transitions x.timeout sc run r first own stop i h.0 h.1 l (or_left s own (state_lines one run r first own x.transitions x.timeout) _ o) in
        let own_more = or_behind s own (state_bits x.transitions x.timeout) (state_lines one run r first own x.transitions x.timeout) (own_lines ss one run r (first + counts_of x.timeout) next_own) (bits-state x.transitions x.timeout one run r first own) o in
        let leaves = fire_literals (state_fire_bits own x.transitions x.timeout) in
        let c = b + body_bits p in
        let lines_here = body_lines p one go inner (suc own) leaves (enters 0) (starts 0) kill b in
        let lines_more = bodies_lines ss one go (inner + registers_within p) (λ q. enters (suc q)) (λ q. starts (suc q)) kill next_own c in
        let more = or_behind s b (body_bits p) lines_here lines_more (bits-body p one go inner (suc own) leaves (enters 0) (starts 0) kill b) a in
        reading-append s (body_fires p b) (bodies_fires ss c)
        ∙ both-fires _ _ _ _
        (body_support p sc go b inner (suc own) leaves (enters 0) (starts 0) kill stop i (λ k z. u k (lists-left (locals_in_body p) (locals_in_states ss) k z)) h.2 here.0 (or_left s b lines_here lines_more a))
        (bodies_support ss sc go next_own c r (inner + registers_within p) (first + counts_of x.timeout) run kill (λ q. enters (suc q)) (λ q. starts (suc q)) stop i (λ k z. u k (lists-right (locals_in_body p) (locals_in_states ss) k z)) h.3 l own_more more)

    body_support : (p : Body) (sc : Scope) (go b inner live : ℕ) (leaves enters starts : List Literal) (kill : Literal) (stop : Bool) → ReadsBelow n sc → AreBelow n (locals_in_body p) → IsScopedBody sc p → bit_of s live ≡ stop → AreOr s b (body_lines p one go inner live leaves enters starts kill b) → reading s (body_fires p b) ≡ body_supports y stop p
    body_support no_body sc go b inner live leaves enters starts kill stop i u h l a = refl
    body_support (body p) sc go b inner live leaves enters starts kill stop i u h l a = process_support p sc (suc (suc (suc (suc b)))) inner (plus live) (plus (suc (suc (suc b)))) (plus b) stop i u h l a.1.1.1.1
