-- How many lines there are, and how much they weigh.
use Rattle.std.proofs.Common.{◌≡◌, ℕ, zero, suc, ◌+◌, ◌*◌, ◌<◌, ◌≤◌, List, [], ◌∷◌, ◌++◌, Option, Some, None, Bool, true, false, nat_eq, if◌then◌else◌, refl, ap, inl, inr, arith, length, length-append}
use Rattle.argos_core.specs.Automata.{counts_of, first_code, register_count, registers_of, registers_in, registers_within}
use Rattle.argos_core.specs.Process.{Guard, always, never, present, negation, all, any, Guards, no_guards, guard, Transition, Timeout, Process, automaton, parallel, local, freeze, Processes, no_processes, process, States, no_states, state, Body, no_body, body}
use Rattle.argos_core.specs.Reactions.{input_count, output_count, signal_count}
use Rattle.argos_core.specs.Sizes.{guard_size, guards_size, transitions_size, timeout_size, state_size, process_size, parts_size, states_size, body_size}
use Rattle.argos_core.proofs.Numbers.{same_or_other, nat_eq-at, nat_eq-other}
use Rattle.eqn_core.specs.Equations.{Literal, Case, Line, within, digit, choose, bits_of_line, words_of_line, bit_lines, word_lines, line_weight, lines_weight}
use Rattle.eqn_core.specs.Equations as lines
use Rattle.eqn_scheme.specs.Scheme.{plus, minus, guard_bits, operand_bits, guard_literal, operand_literals, guard_lines, operand_lines, FireBit, transition_bits, transition_lines, transition_fires, refusals, timeout_bits, timeout_lines, timeout_fires, timeout_ticks, state_bits, state_lines, state_fire_bits, own_bits, own_lines, own_fires, own_ticks, fire_cases, tick_cases, register_line, fire_literals, entering, process_bits, parts_bits, bodies_bits, body_bits, process_lines, parts_lines, bodies_lines, body_lines, process_fires, parts_fires, bodies_fires, body_fires, for_signal, emitting, signal_lines, inner_lines, fires_of_module}
use Rattle.eqn_scheme.specs.Laws.{EquationsAreSmall}
use Rattle.eqn_scheme.proofs.Counting.{bits-process, words-process}

-- each line defines a bit or a word
one_each : (l : Line) → bits_of_line l + words_of_line l ≡ 1
one_each (lines.all ls) = refl
one_each (lines.any ls) = refl
one_each (within x lo hi) = refl
one_each (digit x place) = refl
one_each (choose cases other) = refl

length-lines : (ls : List Line) → length ls ≡ bit_lines ls + word_lines ls
length-lines [] = refl
length-lines (l ∷ ls) = omega (arith, length-lines ls, one_each l)

-- lines

mutual
  guard_few : (g : Guard) → guard_bits g ≤ guard_size g
  guard_few always = omega arith
  guard_few never = omega arith
  guard_few (present k) = omega arith
  guard_few (negation g) = omega (arith, guard_few g)
  guard_few (all gs) = omega (arith, guards_few gs)
  guard_few (any gs) = omega (arith, guards_few gs)

  guards_few : (gs : Guards) → operand_bits gs ≤ guards_size gs
  guards_few no_guards = omega arith
  guards_few (guard g gs) = omega (arith, guard_few g, guards_few gs)

transitions_few : (ts : List Transition) → transition_bits ts ≤ transitions_size ts
transitions_few [] = omega arith
transitions_few (t ∷ ts) = omega (arith, guard_few t.guard, transitions_few ts)

timeout_few : (w : Option Timeout) → timeout_bits w ≤ 4 * timeout_size w
timeout_few None = omega arith
timeout_few (Some w) = omega arith

mutual
  process_few : (p : Process) → process_bits p + register_count p + 6 ≤ 8 * process_size p
  process_few (automaton ss q0) = omega (arith, states_few ss)
  process_few (parallel ps) = omega (arith, parts_few ps)
  process_few (local list p) = omega (arith, process_few p)
  process_few (freeze s p) = omega (arith, process_few p)

  parts_few : (ps : Processes) → parts_bits ps + registers_of ps ≤ 8 * parts_size ps
  parts_few no_processes = omega arith
  parts_few (process p ps) = omega (arith, process_few p, parts_few ps)

  states_few : (ss : States) → own_bits ss + bodies_bits ss + registers_in ss ≤ 8 * states_size ss
  states_few no_states = omega arith
  states_few (state s p ss) = omega (arith, transitions_few s.transitions, timeout_few s.timeout, body_few p, states_few ss)

  body_few : (p : Body) → body_bits p + registers_within p ≤ 8 * body_size p
  body_few no_body = omega arith
  body_few (body p) = omega (arith, process_few p)

-- weights

weight-append : (xs ys : List Line) → lines_weight (xs ++ ys) ≡ lines_weight xs + lines_weight ys
weight-append [] ys = omega arith
weight-append (x ∷ xs) ys = omega (arith, weight-append xs ys)

operand_count : (gs : Guards) (one b : ℕ) → ℕ
operand_count gs one b = length (operand_literals one b gs)

mutual
  guard_light : (g : Guard) (one b : ℕ) → lines_weight (guard_lines one b g) + 1 ≤ 2 * guard_size g
  guard_light always one b = omega arith
  guard_light never one b = omega arith
  guard_light (present k) one b = omega arith
  guard_light (negation g) one b = omega (arith, guard_light g one b)
  guard_light (all gs) one b = omega (arith, weight-append (operand_lines one b gs) (lines.all (operand_literals one b gs) ∷ []), guards_light gs one b)
  guard_light (any gs) one b = omega (arith, weight-append (operand_lines one b gs) (lines.any (operand_literals one b gs) ∷ []), guards_light gs one b)

  guards_light : (gs : Guards) (one b : ℕ) → lines_weight (operand_lines one b gs) + length (operand_literals one b gs) ≤ 2 * guards_size gs
  guards_light no_guards one b = omega arith
  guards_light (guard g gs) one b = omega (arith, weight-append (guard_lines one b g) (operand_lines one (b + guard_bits g) gs), guard_light g one b, guards_light gs one (b + guard_bits g))

-- how many signals the fires emit, each as often as it is listed
abbrev emitted_count : List FireBit → ℕ
emitted_count [] = 0
emitted_count (f ∷ fs) = length f.outs + emitted_count fs

emitted-append : (xs ys : List FireBit) → emitted_count (xs ++ ys) ≡ emitted_count xs + emitted_count ys
emitted-append [] ys = omega arith
emitted-append (x ∷ xs) ys = omega (arith, emitted-append xs ys)

-- a fire is also read by its state's body, by its target's, and by the register; its guard by the timeout
transitions_light : (ts : List Transition) (one live b : ℕ) → lines_weight (transition_lines one live b ts) + length (refusals one b ts) + 3 * length (transition_fires b ts) + emitted_count (transition_fires b ts) ≤ 8 * transitions_size ts
transitions_light [] one live b = omega arith
transitions_light (t ∷ ts) one live b =
    omega (arith, weight-append (guard_lines one b t.guard) (lines.all (plus live ∷ guard_literal one b t.guard ∷ []) ∷ transition_lines one live (suc (b + guard_bits t.guard)) ts), guard_light t.guard one b, transitions_light ts one live (suc (b + guard_bits t.guard)))

timeout_light : (w : Option Timeout) (live r first b : ℕ) (none : List Literal) → lines_weight (timeout_lines live r first b none w) + 3 * length (timeout_fires b w) + length (timeout_ticks b w) + emitted_count (timeout_fires b w) ≤ length none + 15 * timeout_size w
timeout_light None live r first b none = omega arith
timeout_light (Some w) live r first b none = omega arith

-- the states without their bodies
abbrev own_size : States → ℕ
own_size no_states = 0
own_size (state s p ss) = state_size s + own_size ss

state_light : (ts : List Transition) (w : Option Timeout) (one : ℕ) (run : Literal) (r first b : ℕ) → lines_weight (state_lines one run r first b ts w) + 3 * length (state_fire_bits b ts w) + length (timeout_ticks (suc (suc b) + transition_bits ts) w) + emitted_count (state_fire_bits b ts w) ≤ 16 * (1 + transitions_size ts + timeout_size w)
state_light ts w one run r first b =
    let k = suc (suc b) in
    let j = k + transition_bits ts in
    omega (
      arith,
      weight-append (transition_lines one (suc b) k ts) (timeout_lines (suc b) r first j (refusals one k ts) w),
      transitions_light ts one (suc b) k,
      timeout_light w (suc b) r first j (refusals one k ts),
      length-append (transition_fires k ts) (timeout_fires j w),
      emitted-append (transition_fires k ts) (timeout_fires j w),
    )

own_light : (ss : States) (one : ℕ) (run : Literal) (r first b : ℕ) → lines_weight (own_lines ss one run r first b) + 3 * length (own_fires ss b) + length (own_ticks ss b) + emitted_count (own_fires ss b) ≤ 16 * own_size ss
own_light no_states one run r first b = omega arith
own_light (state s p ss) one run r first b =
    let ts = s.transitions in
    let w = s.timeout in
    let c = b + state_bits ts w in
    omega (
      arith,
      weight-append (state_lines one run r first b ts w) (own_lines ss one run r (first + counts_of w) c),
      state_light ts w one run r first b,
      own_light ss one run r (first + counts_of w) c,
      length-append (state_fire_bits b ts w) (own_fires ss c),
      length-append (timeout_ticks (suc (suc b) + transition_bits ts) w) (own_ticks ss c),
      emitted-append (state_fire_bits b ts w) (own_fires ss c),
    )

length-fire_cases : (first : ℕ → ℕ) (fs : List FireBit) → length (fire_cases first fs) ≡ length fs
length-fire_cases first [] = refl
length-fire_cases first (f ∷ fs) = ap suc (length-fire_cases first fs)

length-tick_cases : (r : ℕ) (bs : List ℕ) → length (tick_cases r bs) ≡ length bs
length-tick_cases r [] = refl
length-tick_cases r (b ∷ bs) = ap suc (length-tick_cases r bs)

length-fire_literals : (fs : List FireBit) → length (fire_literals fs) ≡ length fs
length-fire_literals [] = refl
length-fire_literals (f ∷ fs) = ap suc (length-fire_literals fs)

-- how many literals the states' lists have
abbrev spread : States → (ℕ → List Literal) → ℕ
spread no_states of = 0
spread (state s p ss) of = length (of 0) + spread ss (λ q. of (suc q))

spread-none : (ss : States) (of : ℕ → List Literal) → ((q : ℕ) → of q ≡ []) → spread ss of ≡ 0
spread-none no_states of h = refl
spread-none (state s p ss) of h = omega (arith, ap length (h 0), spread-none ss (λ q. of (suc q)) (λ q. h (suc q)))

-- a list that one number has
spread-one : (ss : States) (k t : ℕ) (l : Literal) → spread ss (λ q. if nat_eq t (k + q) then l ∷ [] else []) ≤ 1
spread-one no_states k t l = omega arith
spread-one (state s p ss) k t l = elim (same_or_other t (k + 0)) [
  | inl e ↦ omega (arith, ap (λ b. length (if b then l ∷ [] else [])) (nat_eq-at t (k + 0) e), spread-none ss (λ q. if nat_eq t (k + suc q) then l ∷ [] else []) (λ q. ap (λ b. if b then l ∷ [] else []) (nat_eq-other t (k + suc q) (λ f. absurd (omega arith)))))
  | inr o ↦ omega (arith, ap (λ b. length (if b then l ∷ [] else [])) (nat_eq-other t (k + 0) o), spread-one ss (suc k) t l, shift ss k t l)
]
  where
    shift_eq : (ss : States) (f g : ℕ → List Literal) → ((q : ℕ) → f q ≡ g q) → spread ss f ≡ spread ss g
    shift_eq no_states f g h = refl
    shift_eq (state s p ss) f g h = omega (arith, ap length (h 0), shift_eq ss (λ q. f (suc q)) (λ q. g (suc q)) (λ q. h (suc q)))

    shift : (ss : States) (k t : ℕ) (l : Literal) → spread ss (λ q. if nat_eq t (k + suc q) then l ∷ [] else []) ≡ spread ss (λ q. if nat_eq t (suc k + q) then l ∷ [] else [])
    shift ss k t l = shift_eq ss (λ q. if nat_eq t (k + suc q) then l ∷ [] else []) (λ q. if nat_eq t (suc k + q) then l ∷ [] else []) (λ q. let e : k + suc q ≡ suc k + q = omega arith in ap (λ j. if nat_eq t j then l ∷ [] else []) e)

spread-same : (ss : States) (f g : ℕ → List Literal) → ((q : ℕ) → length (f q) ≡ length (g q)) → spread ss f ≡ spread ss g
spread-same no_states f g h = refl
spread-same (state s p ss) f g h = omega (arith, h 0, spread-same ss (λ q. f (suc q)) (λ q. g (suc q)) (λ q. h (suc q)))

spread-add : (ss : States) (f g h : ℕ → List Literal) → ((q : ℕ) → length (h q) ≡ length (f q) + length (g q)) → spread ss h ≡ spread ss f + spread ss g
spread-add no_states f g h e = refl
spread-add (state s p ss) f g h e = omega (arith, e 0, spread-add ss (λ q. f (suc q)) (λ q. g (suc q)) (λ q. h (suc q)) (λ q. e (suc q)))

-- each fire enters one state
spread-entering : (ss : States) (fs : List FireBit) → spread ss (entering fs) ≤ length fs
spread-entering ss [] = omega (arith, spread-none ss (entering []) (λ q. refl))
spread-entering ss (f ∷ fs) =
    omega (arith, spread-add ss (λ q. if nat_eq f.target q then plus f.bit ∷ [] else []) (entering fs) (entering (f ∷ fs)) (λ q. one_more q (nat_eq f.target q)), spread-entering ss fs, spread-one ss 0 f.target (plus f.bit), spread-same ss (λ q. if nat_eq f.target q then plus f.bit ∷ [] else []) (λ q. if nat_eq f.target (0 + q) then plus f.bit ∷ [] else []) (λ q. let e : q ≡ 0 + q = omega arith in ap (λ j. length (if nat_eq f.target j then plus f.bit ∷ [] else [])) e))
  where
    one_more : (q : ℕ) (here : Bool) → length (if here then plus f.bit ∷ entering fs q else entering fs q) ≡ length (if here then plus f.bit ∷ [] else []) + length (entering fs q)
    one_more q true = omega arith
    one_more q false = omega arith

abbrev bodies_size : States → ℕ
bodies_size no_states = 0
bodies_size (state s p ss) = body_size p + bodies_size ss

whole_size : (ss : States) → states_size ss ≡ own_size ss + bodies_size ss
whole_size no_states = refl
whole_size (state s p ss) = omega (arith, whole_size ss)

mutual
  process_light : (p : Process) (one b r : ℕ) (run start kill : Literal) → lines_weight (process_lines p one b r run start kill) + emitted_count (process_fires p b) + 10 ≤ 32 * process_size p
  process_light (automaton ss q0) one b r run start kill =
      let fires = own_fires ss (suc b) in
      let ticks = own_ticks ss (suc b) in
      let k = suc b + own_bits ss in
      let enters : ℕ → List Literal = entering fires in
      let starts : ℕ → List Literal = λ q. if nat_eq q0 q then start ∷ [] else [] in
      let bodies = bodies_lines ss one b (suc r) enters starts kill (suc b) k in
      omega (
        arith,
        weight-append (own_lines ss one run r 1 (suc b)) (register_line ss q0 r start kill fires ticks ∷ bodies),
        own_light ss one run r 1 (suc b),
        length-append (fire_cases (first_code ss) fires) (tick_cases r ticks),
        length-fire_cases (first_code ss) fires,
        length-tick_cases r ticks,
        bodies_light ss one b (suc r) enters starts kill (suc b) k,
        spread-entering ss fires,
        spread-one ss 0 q0 start,
        spread-same ss starts (λ q. if nat_eq q0 (0 + q) then start ∷ [] else []) (λ q. let e : q ≡ 0 + q = omega arith in ap (λ j. length (if nat_eq q0 j then start ∷ [] else [])) e),
        emitted-append fires (bodies_fires ss k),
        whole_size ss,
      )
  process_light (parallel ps) one b r run start kill = omega (arith, parts_light ps one b r run start kill)
  process_light (local list p) one b r run start kill = omega (arith, process_light p one b r run start kill)
  process_light (freeze s p) one b r run start kill = omega (arith, process_light p one (suc b) r (plus b) start kill)

  parts_light : (ps : Processes) (one b r : ℕ) (run start kill : Literal) → lines_weight (parts_lines ps one b r run start kill) + emitted_count (parts_fires ps b) ≤ 32 * parts_size ps
  parts_light no_processes one b r run start kill = omega arith
  parts_light (process p ps) one b r run start kill =
      let k = b + process_bits p in
      omega (
        arith,
        weight-append (process_lines p one b r run start kill) (parts_lines ps one k (r + register_count p) run start kill),
        emitted-append (process_fires p b) (parts_fires ps k),
        process_light p one b r run start kill,
        parts_light ps one k (r + register_count p) run start kill,
      )

  bodies_light : (ss : States) (one go r : ℕ) (enters starts : ℕ → List Literal) (kill : Literal) (own b : ℕ) → lines_weight (bodies_lines ss one go r enters starts kill own b) + emitted_count (bodies_fires ss b) ≤ length (own_fires ss own) + spread ss enters + spread ss starts + 32 * bodies_size ss
  bodies_light no_states one go r enters starts kill own b = omega arith
  bodies_light (state s p ss) one go r enters starts kill own b =
      let leaves = fire_literals (state_fire_bits own s.transitions s.timeout) in
      let next_own = own + state_bits s.transitions s.timeout in
      let c = b + body_bits p in
      omega (
        arith,
        weight-append (body_lines p one go r (suc own) leaves (enters 0) (starts 0) kill b) (bodies_lines ss one go (r + registers_within p) (λ q. enters (suc q)) (λ q. starts (suc q)) kill next_own c),
        emitted-append (body_fires p b) (bodies_fires ss c),
        body_light p one go r (suc own) leaves (enters 0) (starts 0) kill b,
        bodies_light ss one go (r + registers_within p) (λ q. enters (suc q)) (λ q. starts (suc q)) kill next_own c,
        length-fire_literals (state_fire_bits own s.transitions s.timeout),
        length-append (state_fire_bits own s.transitions s.timeout) (own_fires ss next_own),
      )

  body_light : (p : Body) (one go r live : ℕ) (leaves enters starts : List Literal) (kill : Literal) (b : ℕ) → lines_weight (body_lines p one go r live leaves enters starts kill b) + emitted_count (body_fires p b) ≤ length leaves + length enters + length starts + 32 * body_size p
  body_light no_body one go r live leaves enters starts kill b = omega arith
  body_light (body p) one go r live leaves enters starts kill b =
      let c = suc (suc (suc (suc b))) in
      omega (arith, length-append leaves (kill ∷ []), process_light p one c r (plus live) (plus (suc (suc (suc b)))) (plus b))

-- the lines of the signals

-- so many of the numbers from k on are listed
abbrev emitting_count : List FireBit → ℕ → ℕ → ℕ
emitting_count fires k zero = 0
emitting_count fires k (suc more) = length (emitting fires k) + emitting_count fires (suc k) more

abbrev listed_count : ℕ → List ℕ → ℕ → ℕ → ℕ
listed_count bit outs k zero = 0
listed_count bit outs k (suc more) = length (for_signal bit outs k) + listed_count bit outs (suc k) more

listed-none : (bit o k more : ℕ) → o < k → listed_count bit (o ∷ []) k more ≡ 0
listed-none bit o k zero h = refl
listed-none bit o k (suc more) h = omega (arith, ap (λ b. length (if b then plus bit ∷ [] else [])) (nat_eq-other o k (λ e. absurd (omega arith))), listed-none bit o (suc k) more (omega arith))

listed-one : (bit o k more : ℕ) → listed_count bit (o ∷ []) k more ≤ 1
listed-one bit o k zero = omega arith
listed-one bit o k (suc more) = elim (same_or_other o k) [
  | inl e ↦ omega (arith, ap (λ b. length (if b then plus bit ∷ [] else [])) (nat_eq-at o k e), listed-none bit o (suc k) more (omega arith))
  | inr n ↦ omega (arith, ap (λ b. length (if b then plus bit ∷ [] else [])) (nat_eq-other o k n), listed-one bit o (suc k) more)
]

listed-cons : (bit o : ℕ) (outs : List ℕ) (k more : ℕ) → listed_count bit (o ∷ outs) k more ≡ listed_count bit (o ∷ []) k more + listed_count bit outs k more
listed-cons bit o outs k zero = refl
listed-cons bit o outs k (suc more) = omega (arith, first (nat_eq o k), listed-cons bit o outs (suc k) more)
  where
    first : (here : Bool) → length (if here then plus bit ∷ for_signal bit outs k else for_signal bit outs k) ≡ length (if here then plus bit ∷ [] else []) + length (for_signal bit outs k)
    first true = omega arith
    first false = omega arith

listed-few : (bit : ℕ) (outs : List ℕ) (k more : ℕ) → listed_count bit outs k more ≤ length outs
listed-few bit [] k zero = omega arith
listed-few bit [] k (suc more) = omega (arith, listed-few bit [] (suc k) more)
listed-few bit (o ∷ outs) k more = omega (arith, listed-cons bit o outs k more, listed-one bit o k more, listed-few bit outs k more)

emitting-cons : (f : FireBit) (fs : List FireBit) (k more : ℕ) → emitting_count (f ∷ fs) k more ≡ listed_count f.bit f.outs k more + emitting_count fs k more
emitting-cons f fs k zero = refl
emitting-cons f fs k (suc more) = omega (arith, length-append (for_signal f.bit f.outs k) (emitting fs k), emitting-cons f fs (suc k) more)

emitting-few : (fs : List FireBit) (k more : ℕ) → emitting_count fs k more ≤ emitted_count fs
emitting-few [] k zero = omega arith
emitting-few [] k (suc more) = omega (arith, emitting-few [] (suc k) more)
emitting-few (f ∷ fs) k more = omega (arith, emitting-cons f fs k more, listed-few f.bit f.outs k more, emitting-few fs k more)

signals_light : (fires : List FireBit) (k more : ℕ) → lines_weight (signal_lines fires k more) ≡ more + emitting_count fires k more
signals_light fires k zero = refl
signals_light fires k (suc more) = omega (arith, signals_light fires (suc k) more)

length-signals : (fires : List FireBit) (k more : ℕ) → length (signal_lines fires k more) ≡ more
length-signals fires k zero = refl
length-signals fires k (suc more) = ap suc (length-signals fires (suc k) more)

pub equations_are_small : EquationsAreSmall
equations_are_small P =
    let n = signal_count P in
    let fires = fires_of_module P in
    let count = output_count P + length P.locals in
    let inside = process_lines P.process n (suc n) 0 (plus n) (minus n) (minus n) in (
      omega (arith, length-append (signal_lines fires (input_count P) count) (inner_lines P), length-signals fires (input_count P) count, length-lines inside, bits-process P.process n (suc n) 0 (plus n) (minus n) (minus n), words-process P.process n (suc n) 0 (plus n) (minus n) (minus n), process_few P.process),
      omega (arith, weight-append (signal_lines fires (input_count P) count) (inner_lines P), signals_light fires (input_count P) count, emitting-few fires (input_count P) count, process_light P.process n (suc n) 0 (plus n) (minus n) (minus n)),
    )
