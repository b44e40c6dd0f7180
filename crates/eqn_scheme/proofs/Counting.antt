-- How many bits and words the lines define.
use Rattle.std.proofs.Common.{◌≡◌, ℕ, suc, ◌+◌, List, [], ◌∷◌, ◌++◌, Option, Some, None, refl, ◌∙◌, arith, nat_eq, if◌then◌else◌}
use Rattle.argos_core.specs.Automata.{counts_of, register_count, registers_of, registers_in, registers_within}
use Rattle.argos_core.specs.Process.{Guard, always, never, present, negation, all, any, Guards, no_guards, guard, Transition, Timeout, Process, automaton, parallel, local, freeze, Processes, no_processes, process, States, no_states, state, Body, no_body, body}
use Rattle.eqn_core.specs.Equations.{Literal, Line, bit_lines, word_lines}
use Rattle.eqn_scheme.specs.Scheme.{guard_bits, operand_bits, guard_lines, operand_lines, transition_bits, transition_lines, timeout_bits, timeout_lines, refusals, state_bits, state_lines, own_bits, own_lines, process_bits, parts_bits, bodies_bits, body_bits, process_lines, parts_lines, bodies_lines, body_lines, plus, state_fire_bits, fire_literals, entering, own_fires, own_ticks, register_line}

pub bits-append : (xs ys : List Line) → bit_lines (xs ++ ys) ≡ bit_lines xs + bit_lines ys
bits-append [] ys = omega arith
bits-append (x ∷ xs) ys = omega (arith, bits-append xs ys)

pub words-append : (xs ys : List Line) → word_lines (xs ++ ys) ≡ word_lines xs + word_lines ys
words-append [] ys = omega arith
words-append (x ∷ xs) ys = omega (arith, words-append xs ys)

mutual
  pub bits-guard : (g : Guard) (one b : ℕ) → bit_lines (guard_lines one b g) ≡ guard_bits g
  bits-guard always one b = refl
  bits-guard never one b = refl
  bits-guard (present k) one b = refl
  bits-guard (negation g) one b = bits-guard g one b
  bits-guard (all gs) one b = bits-append (operand_lines one b gs) _ ∙ omega (arith, bits-operands gs one b)
  bits-guard (any gs) one b = bits-append (operand_lines one b gs) _ ∙ omega (arith, bits-operands gs one b)

  pub bits-operands : (gs : Guards) (one b : ℕ) → bit_lines (operand_lines one b gs) ≡ operand_bits gs
  bits-operands no_guards one b = refl
  bits-operands (guard g gs) one b = bits-append (guard_lines one b g) _ ∙ omega (arith, bits-guard g one b, bits-operands gs one (b + guard_bits g))

mutual
  pub words-guard : (g : Guard) (one b : ℕ) → word_lines (guard_lines one b g) ≡ 0
  words-guard always one b = refl
  words-guard never one b = refl
  words-guard (present k) one b = refl
  words-guard (negation g) one b = words-guard g one b
  words-guard (all gs) one b = words-append (operand_lines one b gs) _ ∙ omega (arith, words-operands gs one b)
  words-guard (any gs) one b = words-append (operand_lines one b gs) _ ∙ omega (arith, words-operands gs one b)

  pub words-operands : (gs : Guards) (one b : ℕ) → word_lines (operand_lines one b gs) ≡ 0
  words-operands no_guards one b = refl
  words-operands (guard g gs) one b = words-append (guard_lines one b g) _ ∙ omega (arith, words-guard g one b, words-operands gs one (b + guard_bits g))

pub bits-transitions : (ts : List Transition) (one live b : ℕ) → bit_lines (transition_lines one live b ts) ≡ transition_bits ts
bits-transitions [] one live b = refl
bits-transitions (t ∷ ts) one live b = bits-append (guard_lines one b t.guard) _ ∙ omega (arith, bits-guard t.guard one b, bits-transitions ts one live (suc (b + guard_bits t.guard)))

pub words-transitions : (ts : List Transition) (one live b : ℕ) → word_lines (transition_lines one live b ts) ≡ 0
words-transitions [] one live b = refl
words-transitions (t ∷ ts) one live b = words-append (guard_lines one b t.guard) _ ∙ omega (arith, words-guard t.guard one b, words-transitions ts one live (suc (b + guard_bits t.guard)))

bits-timeout : (w : Option Timeout) (live r first b : ℕ) (none : List Literal) → bit_lines (timeout_lines live r first b none w) ≡ timeout_bits w
bits-timeout None live r first b none = refl
bits-timeout (Some w) live r first b none = refl

words-timeout : (w : Option Timeout) (live r first b : ℕ) (none : List Literal) → word_lines (timeout_lines live r first b none w) ≡ 0
words-timeout None live r first b none = refl
words-timeout (Some w) live r first b none = refl

pub bits-state : (ts : List Transition) (w : Option Timeout) (one : ℕ) (run : Literal) (r first b : ℕ) → bit_lines (state_lines one run r first b ts w) ≡ state_bits ts w
bits-state ts w one run r first b =
    let rest = bits-append (transition_lines one (suc b) (suc (suc b)) ts) (timeout_lines (suc b) r first (suc (suc b) + transition_bits ts) (refusals one (suc (suc b)) ts) w) in
    omega (arith, rest, bits-transitions ts one (suc b) (suc (suc b)), bits-timeout w (suc b) r first (suc (suc b) + transition_bits ts) (refusals one (suc (suc b)) ts))

pub words-state : (ts : List Transition) (w : Option Timeout) (one : ℕ) (run : Literal) (r first b : ℕ) → word_lines (state_lines one run r first b ts w) ≡ 0
words-state ts w one run r first b =
    let rest = words-append (transition_lines one (suc b) (suc (suc b)) ts) (timeout_lines (suc b) r first (suc (suc b) + transition_bits ts) (refusals one (suc (suc b)) ts) w) in
    omega (arith, rest, words-transitions ts one (suc b) (suc (suc b)), words-timeout w (suc b) r first (suc (suc b) + transition_bits ts) (refusals one (suc (suc b)) ts))

pub bits-own : (ss : States) (one : ℕ) (run : Literal) (r first b : ℕ) → bit_lines (own_lines ss one run r first b) ≡ own_bits ss
bits-own no_states one run r first b = refl
bits-own (state s p ss) one run r first b =
    bits-append (state_lines one run r first b s.transitions s.timeout) _ ∙ omega (arith, bits-state s.transitions s.timeout one run r first b, bits-own ss one run r (first + counts_of s.timeout) (b + state_bits s.transitions s.timeout))

pub words-own : (ss : States) (one : ℕ) (run : Literal) (r first b : ℕ) → word_lines (own_lines ss one run r first b) ≡ 0
words-own no_states one run r first b = refl
words-own (state s p ss) one run r first b =
    words-append (state_lines one run r first b s.transitions s.timeout) _ ∙ omega (arith, words-state s.transitions s.timeout one run r first b, words-own ss one run r (first + counts_of s.timeout) (b + state_bits s.transitions s.timeout))

mutual
  pub bits-process : (p : Process) (one b r : ℕ) (run start kill : Literal) → bit_lines (process_lines p one b r run start kill) ≡ process_bits p
  bits-process (automaton ss q0) one b r run start kill =
      let enters : ℕ → List Literal = entering (own_fires ss (suc b)) in
      let starts : ℕ → List Literal = λ q. if nat_eq q0 q then start ∷ [] else [] in
      let bodies = bodies_lines ss one b (suc r) enters starts kill (suc b) (suc b + own_bits ss) in
      let rest = bits-append (own_lines ss one run r 1 (suc b)) (register_line ss q0 r start kill (own_fires ss (suc b)) (own_ticks ss (suc b)) ∷ bodies) in
      omega (arith, rest, bits-own ss one run r 1 (suc b), bits-bodies ss one b (suc r) enters starts kill (suc b) (suc b + own_bits ss))
  bits-process (parallel ps) one b r run start kill = bits-parts ps one b r run start kill
  bits-process (local list p) one b r run start kill = bits-process p one b r run start kill
  bits-process (freeze s p) one b r run start kill = omega (arith, bits-process p one (suc b) r (plus b) start kill)

  pub bits-parts : (ps : Processes) (one b r : ℕ) (run start kill : Literal) → bit_lines (parts_lines ps one b r run start kill) ≡ parts_bits ps
  bits-parts no_processes one b r run start kill = refl
  bits-parts (process p ps) one b r run start kill = bits-append (process_lines p one b r run start kill) _ ∙ omega (arith, bits-process p one b r run start kill, bits-parts ps one (b + process_bits p) (r + register_count p) run start kill)

  pub bits-bodies : (ss : States) (one go r : ℕ) (enters starts : ℕ → List Literal) (kill : Literal) (own b : ℕ) → bit_lines (bodies_lines ss one go r enters starts kill own b) ≡ bodies_bits ss
  bits-bodies no_states one go r enters starts kill own b = refl
  bits-bodies (state s p ss) one go r enters starts kill own b =
      bits-append (body_lines p one go r (suc own) (fire_literals (state_fire_bits own s.transitions s.timeout)) (enters 0) (starts 0) kill b) _
      ∙ omega (arith, bits-body p one go r (suc own) (fire_literals (state_fire_bits own s.transitions s.timeout)) (enters 0) (starts 0) kill b, bits-bodies ss one go (r + registers_within p) (λ q. enters (suc q)) (λ q. starts (suc q)) kill (own + state_bits s.transitions s.timeout) (b + body_bits p))

  pub bits-body : (p : Body) (one go r live : ℕ) (leaves enters starts : List Literal) (kill : Literal) (b : ℕ) → bit_lines (body_lines p one go r live leaves enters starts kill b) ≡ body_bits p
  bits-body no_body one go r live leaves enters starts kill b = refl
  bits-body (body p) one go r live leaves enters starts kill b = omega (arith, bits-process p one (suc (suc (suc (suc b)))) r (plus live) (plus (suc (suc (suc b)))) (plus b))

mutual
  pub words-process : (p : Process) (one b r : ℕ) (run start kill : Literal) → word_lines (process_lines p one b r run start kill) ≡ register_count p
  words-process (automaton ss q0) one b r run start kill =
      let enters : ℕ → List Literal = entering (own_fires ss (suc b)) in
      let starts : ℕ → List Literal = λ q. if nat_eq q0 q then start ∷ [] else [] in
      let bodies = bodies_lines ss one b (suc r) enters starts kill (suc b) (suc b + own_bits ss) in
      let rest = words-append (own_lines ss one run r 1 (suc b)) (register_line ss q0 r start kill (own_fires ss (suc b)) (own_ticks ss (suc b)) ∷ bodies) in
      omega (arith, rest, words-own ss one run r 1 (suc b), words-bodies ss one b (suc r) enters starts kill (suc b) (suc b + own_bits ss))
  words-process (parallel ps) one b r run start kill = words-parts ps one b r run start kill
  words-process (local list p) one b r run start kill = words-process p one b r run start kill
  words-process (freeze s p) one b r run start kill = omega (arith, words-process p one (suc b) r (plus b) start kill)

  pub words-parts : (ps : Processes) (one b r : ℕ) (run start kill : Literal) → word_lines (parts_lines ps one b r run start kill) ≡ registers_of ps
  words-parts no_processes one b r run start kill = refl
  words-parts (process p ps) one b r run start kill = words-append (process_lines p one b r run start kill) _ ∙ omega (arith, words-process p one b r run start kill, words-parts ps one (b + process_bits p) (r + register_count p) run start kill)

  pub words-bodies : (ss : States) (one go r : ℕ) (enters starts : ℕ → List Literal) (kill : Literal) (own b : ℕ) → word_lines (bodies_lines ss one go r enters starts kill own b) ≡ registers_in ss
  words-bodies no_states one go r enters starts kill own b = refl
  words-bodies (state s p ss) one go r enters starts kill own b =
      words-append (body_lines p one go r (suc own) (fire_literals (state_fire_bits own s.transitions s.timeout)) (enters 0) (starts 0) kill b) _
      ∙ omega (arith, words-body p one go r (suc own) (fire_literals (state_fire_bits own s.transitions s.timeout)) (enters 0) (starts 0) kill b, words-bodies ss one go (r + registers_within p) (λ q. enters (suc q)) (λ q. starts (suc q)) kill (own + state_bits s.transitions s.timeout) (b + body_bits p))

  pub words-body : (p : Body) (one go r live : ℕ) (leaves enters starts : List Literal) (kill : Literal) (b : ℕ) → word_lines (body_lines p one go r live leaves enters starts kill b) ≡ registers_within p
  words-body no_body one go r live leaves enters starts kill b = refl
  words-body (body p) one go r live leaves enters starts kill b = omega (arith, words-process p one (suc (suc (suc (suc b)))) r (plus live) (plus (suc (suc (suc b)))) (plus b))
