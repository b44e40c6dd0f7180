-- What the lines of a process mean: whatever the other values, each bit is its part of the wired meaning.
use Rattle.std.proofs.Common.{◌≡◌, ℕ, zero, suc, ◌+◌, ◌-◌, ◌<◌, ◌≤◌, List, [], ◌∷◌, ◌++◌, Option, Some, None, Bool, true, false, ◌&&◌, ◌||◌, not, nat_eq, nat_le, if◌then◌else◌, refl, sym, ap, ◌∙◌, inl, inr, arith, length}
use Rattle.std.specs.List.{list_all, list_any}
use Rattle.std.proofs.lemmas.Bool.Decides.{nat_tests}
use Rattle.argos_base.specs.SignalSets.{SignalSet, has, lists}
use Rattle.argos_base.proofs.Bools.{true_or_false, and_first, and_second, not_false, or_cases}
use Rattle.argos_core.specs.Automata.{counts_of, code_count, first_code, rules_of, register_count, registers_of, registers_in, registers_within}
use Rattle.argos_core.specs.Guards.{holds, every, some}
use Rattle.argos_core.specs.Modules.{Scope, is_readable, within_locals, IsGuard, AreGuards, AreTransitions, IsTimeout, IsScoped, AreScopedParts, AreScopedStates, IsScopedBody, IsShaped, AreShapedParts, AreShapedStates, IsShapedBody, locals_in, locals_in_parts, locals_in_states, locals_in_body}
use Rattle.argos_core.specs.Process.{Guard, always, never, present, negation, all, any, Guards, no_guards, guard, Transition, Timeout, Process, automaton, parallel, local, freeze, Processes, no_processes, process, States, no_states, state, Body, no_body, body}
use Rattle.eqn_core.specs.Equations.{Literal, Case, Choice, code, word, next, Line}
use Rattle.eqn_core.specs.Equations as lines
use Rattle.eqn_core.specs.Solutions.{Values, bit_of, word_of, is_true, chosen_value, next_code}
use Rattle.eqn_scheme.specs.Scheme.{plus, opposite, guard_bits, operand_bits, guard_literal, operand_literals, guard_lines, operand_lines, FireBit, transition_bits, transition_lines, transition_fires, refusals, timeout_lines, timeout_fires, timeout_ticks, state_bits, state_lines, state_fire_bits, own_bits, own_lines, own_fires, own_ticks, fire_cases, tick_cases, register_line, fire_literals, entering, process_bits, body_bits, process_lines, parts_lines, bodies_lines, body_lines, process_fires, parts_fires, bodies_fires, body_fires}
use Rattle.eqn_scheme.specs.Wired.{is_in, is_last, Fire, fires_of, none_holds, times_of, ticks_of, state_fires, state_ticks, fires_in, ticks_in, fires_enter, some_fires, fired_code, next_register, starts_at, next_codes, next_codes_parts, next_codes_in, next_codes_within, all_fires, all_fires_of, all_fires_in, all_fires_within}
use Rattle.eqn_scheme.proofs.Counting.{bits-guard, words-guard, bits-operands, words-operands, bits-transitions, words-transitions, bits-state, words-state, bits-own, words-own, bits-process, words-process, bits-body, words-body}
use Rattle.eqn_scheme.proofs.Firing.{or-false}
use Rattle.eqn_scheme.proofs.Listing.{lists-append, lists-left, lists-right}
use Rattle.eqn_core.proofs.LinePlaces.{AreAt, at_left, at_behind, at_behind_bits}
use Rattle.eqn_scheme.proofs.SetAlgebra.{both-or, both-and}

and-true : (a : Bool) → (a && true) ≡ a
and-true true = refl
and-true false = refl

list_any-append : (s : Values) (xs ys : List Literal) → list_any (is_true s) (xs ++ ys) ≡ (list_any (is_true s) xs || list_any (is_true s) ys)
list_any-append s [] ys = refl
list_any-append s (x ∷ xs) ys = ap (λ b. is_true s x || b) (list_any-append s xs ys) ∙ joined (is_true s x) (list_any (is_true s) xs) (list_any (is_true s) ys)
  where
    joined : (a b c : Bool) → (a || (b || c)) ≡ ((a || b) || c)
    joined true b c = refl
    joined false b c = refl

never_both : (b : Bool) → (b && false) ≡ false
never_both true = refl
never_both false = refl

opposite-is : (s : Values) (l : Literal) → is_true s (opposite l) ≡ not (is_true s l)
opposite-is s l = elim (true_or_false l.negated) [
  | inl y ↦ rw y (twice (bit_of s l.bit))
  | inr y ↦ rw y refl
]
  where
    twice : (b : Bool) → b ≡ not (not b)
    twice true = refl
    twice false = refl

-- the fires as the values have them
abbrev pub reading : Values → List FireBit → List Fire
reading s [] = []
reading s (f ∷ fs) = record { on = bit_of s f.bit; outs = f.outs; target = f.target } ∷ reading s fs

pub reading-append : (s : Values) (xs ys : List FireBit) → reading s (xs ++ ys) ≡ reading s xs ++ reading s ys
reading-append s [] ys = refl
reading-append s (x ∷ xs) ys = ap (λ (l : List Fire). record { on = bit_of s x.bit; outs = x.outs; target = x.target } ∷ l) (reading-append s xs ys)

both-fires : (a b c d : List Fire) → a ≡ c → b ≡ d → a ++ b ≡ c ++ d
both-fires a b c d e f = ap (λ (x : List Fire). x ++ b) e ∙ ap (λ (x : List Fire). c ++ x) f

both-codes : (a b c d : List ℕ) → a ≡ c → b ≡ d → a ++ b ≡ c ++ d
both-codes a b c d e f = ap (λ (x : List ℕ). x ++ b) e ∙ ap (λ (x : List ℕ). c ++ x) f

-- some bit of the list is true
abbrev some_bit : Values → List ℕ → Bool
some_bit s [] = false
some_bit s (b ∷ bs) = bit_of s b || some_bit s bs

some_bit-append : (s : Values) (xs ys : List ℕ) → some_bit s (xs ++ ys) ≡ (some_bit s xs || some_bit s ys)
some_bit-append s [] ys = refl
some_bit-append s (x ∷ xs) ys = ap (λ b. bit_of s x || b) (some_bit-append s xs ys) ∙ joined (bit_of s x) (some_bit s xs) (some_bit s ys)
  where
    joined : (a b c : Bool) → (a || (b || c)) ≡ ((a || b) || c)
    joined true b c = refl
    joined false b c = refl

-- so many words from w on
abbrev pub words_from : Values → ℕ → ℕ → List ℕ
words_from s w zero = []
words_from s w (suc more) = word_of s w ∷ words_from s (suc w) more

pub words_from-add : (s : Values) (w a b : ℕ) → words_from s w (a + b) ≡ words_from s w a ++ words_from s (w + a) b
words_from-add s w zero b = let e : 0 + b ≡ b = omega arith in let f : w ≡ w + 0 = omega arith in ap (words_from s w) e ∙ ap (λ k. words_from s k b) f
words_from-add s w (suc a) b =
    let e : suc a + b ≡ suc (a + b) = omega arith in
    let f : suc w + a ≡ w + suc a = omega arith in
    ap (words_from s w) e ∙ ap (λ (l : List ℕ). word_of s w ∷ l) (words_from-add s (suc w) a b ∙ ap (λ k. words_from s (suc w) a ++ words_from s k b) f)

-- the literals of fires
fire_literals-some : (s : Values) (fs : List FireBit) → list_any (is_true s) (fire_literals fs) ≡ some_fires (reading s fs)
fire_literals-some s [] = refl
fire_literals-some s (f ∷ fs) = ap (λ b. bit_of s f.bit || b) (fire_literals-some s fs)

entering-enter : (s : Values) (fs : List FireBit) (q : ℕ) → list_any (is_true s) (entering fs q) ≡ fires_enter (reading s fs) q
entering-enter s [] q = refl
entering-enter s (f ∷ fs) q = elim (true_or_false (nat_eq f.target q)) [
  | inl y ↦ rw (y, and-true (bit_of s f.bit)) (ap (λ b. bit_of s f.bit || b) (entering-enter s fs q))
  | inr y ↦ rw y (entering-enter s fs q ∙ ap (λ b. b || fires_enter (reading s fs) q) (sym (never_both (bit_of s f.bit))))
]

-- the choices of a register
chosen-fires : (s : Values) (first : ℕ → ℕ) (fs : List FireBit) (cases : List Case) (other : Choice) → chosen_value s (fire_cases first fs ++ cases) other ≡ fired_code first (reading s fs) (chosen_value s cases other)
chosen-fires s first [] cases other = refl
chosen-fires s first (f ∷ fs) cases other = ap (λ n. if bit_of s f.bit then first f.target else n) (chosen-fires s first fs cases other)

chosen-ticks : (s : Values) (r : ℕ) (bs : List ℕ) → chosen_value s (tick_cases r bs) (word r) ≡ (if some_bit s bs then next_code (word_of s r) else word_of s r)
chosen-ticks s r [] = refl
chosen-ticks s r (b ∷ bs) = elim (true_or_false (bit_of s b)) [
  | inl y ↦ rw y refl
  | inr y ↦ rw y (chosen-ticks s r bs)
]

nat_le-tells : (a b : ℕ) → nat_le a b ≡ true → a ≤ b
nat_le-tells a b h = grind (arith, nat_tests)

nat_le-fails : (a b : ℕ) → nat_le a b ≡ false → b < a
nat_le-fails a b h = grind (arith, nat_tests)

-- a tick has a next code
state_room : (live : Bool) (w : Option Timeout) (first c : ℕ) (v : SignalSet) (ts : List Transition) → state_ticks (live && is_in first w c) first c v ts w ≡ true → c + 1 < first + counts_of w
state_room live None first c v ts h = cc
state_room live (Some w) first c v ts h =
    let waits = (live && is_in first (Some w) c) && none_holds v ts in
    let there : is_in first (Some w) c ≡ true = and_second live _ (and_first (live && is_in first (Some w) c) (none_holds v ts) (and_first waits (has v w.signal && not (is_last first w c)) h)) in
    let other : is_last first w c ≡ false = not_false (is_last first w c) (and_second (has v w.signal) _ (and_second waits (has v w.signal && not (is_last first w c)) h)) in
    let high : c ≤ first + w.count - 1 = nat_le-tells c (first + w.count - 1) (and_second (nat_le first c) _ there) in
    elim (true_or_false (nat_le (first + w.count - 1) c)) [
      | inl y ↦ let past : nat_le c (first + w.count - 1) ≡ false = ap (λ b. b && nat_le c (first + w.count - 1)) (sym y) ∙ other in absurd (omega (arith, nat_le-fails c (first + w.count - 1) past))
      | inr y ↦ omega (arith, nat_le-fails (first + w.count - 1) c y)
    ]

tick_room : (ss : States) (run : Bool) (first c : ℕ) (v : SignalSet) → ticks_in ss run first c v ≡ true → c + 1 < first + code_count ss
tick_room no_states run first c v h = cc
tick_room (state x p ss) run first c v h = elim (or_cases (state_ticks (run && is_in first x.timeout c) first c v x.transitions x.timeout) (ticks_in ss run (first + counts_of x.timeout) c v) h) [
  | inl y ↦ omega (arith, state_room run x.timeout first c v x.transitions y)
  | inr y ↦ omega (arith, tick_room ss run (first + counts_of x.timeout) c v y)
]

next_code-room : (c : ℕ) → c < 65535 → next_code c ≡ c + 1
next_code-room c h = rw (other c h) refl
  where
    other : (c : ℕ) → c < 65535 → nat_eq c 65535 ≡ false
    other c h = grind (arith, nat_tests)

-- scopes of signals below n
abbrev pub ReadsBelow : ℕ → Scope → Type 0
ReadsBelow n sc = (k : ℕ) → is_readable sc k ≡ true → k < n

abbrev pub AreBelow : ℕ → List ℕ → Type 0
AreBelow n list = (k : ℕ) → lists list k ≡ true → k < n

pub reads_within : (n : ℕ) (sc : Scope) (list : List ℕ) → ReadsBelow n sc → AreBelow n list → ReadsBelow n (within_locals sc list)
reads_within n sc list h i k y = elim (or_cases (nat_lt_of k) (lists (list ++ sc.locals) k) y) [
  | inl a ↦ h k (or_one (nat_lt_of k) (lists sc.locals k) a)
  | inr a ↦ elim (or_cases (lists list k) (lists sc.locals k) (sym (lists-append list sc.locals k) ∙ a)) [ inl b ↦ i k b | inr b ↦ h k (or_two (nat_lt_of k) (lists sc.locals k) b) ]
]
  where
    nat_lt_of : ℕ → Bool
    nat_lt_of j = nat_le (suc j) sc.inputs

    or_one : (a b : Bool) → a ≡ true → (a || b) ≡ true
    or_one true b h = refl
    or_one false b h = cc

    or_two : (a b : Bool) → b ≡ true → (a || b) ≡ true
    or_two true b h = refl
    or_two false b h = h

module _ (s : Values) (n one : ℕ) (is_one : bit_of s one ≡ true) (v : SignalSet) (same : (k : ℕ) → k < n → bit_of s k ≡ has v k) where
  mutual
    guard_means : (g : Guard) (sc : Scope) (b w : ℕ) → ReadsBelow n sc → IsGuard sc g → AreAt s b w (guard_lines one b g) → is_true s (guard_literal one b g) ≡ holds g v
    guard_means always sc b w i h a = is_one
    guard_means never sc b w i h a = ap not is_one
    guard_means (present k) sc b w i h a = same k (i k h)
    guard_means (negation g) sc b w i h a = opposite-is s (guard_literal one b g) ∙ ap not (guard_means g sc b w i h a)
    guard_means (all gs) sc b w i h a =
        let last = at_behind_bits s b w (operand_bits gs) (operand_lines one b gs) (lines.all (operand_literals one b gs) ∷ []) (bits-operands gs one b) (words-operands gs one b) a in
        last.0 ∙ every_means gs sc b w i h.1 (at_left s b w (operand_lines one b gs) _ a)
    guard_means (any gs) sc b w i h a =
        let last = at_behind_bits s b w (operand_bits gs) (operand_lines one b gs) (lines.any (operand_literals one b gs) ∷ []) (bits-operands gs one b) (words-operands gs one b) a in
        last.0 ∙ some_means gs sc b w i h.1 (at_left s b w (operand_lines one b gs) _ a)

    every_means : (gs : Guards) (sc : Scope) (b w : ℕ) → ReadsBelow n sc → AreGuards sc gs → AreAt s b w (operand_lines one b gs) → list_all (is_true s) (operand_literals one b gs) ≡ every gs v
    every_means no_guards sc b w i h a = refl
    every_means (guard g gs) sc b w i h a =
        both-and _ _ _ _ (guard_means g sc b w i h.0 (at_left s b w (guard_lines one b g) _ a)) (every_means gs sc (b + guard_bits g) w i h.1 (at_behind_bits s b w (guard_bits g) (guard_lines one b g) _ (bits-guard g one b) (words-guard g one b) a))

    some_means : (gs : Guards) (sc : Scope) (b w : ℕ) → ReadsBelow n sc → AreGuards sc gs → AreAt s b w (operand_lines one b gs) → list_any (is_true s) (operand_literals one b gs) ≡ some gs v
    some_means no_guards sc b w i h a = refl
    some_means (guard g gs) sc b w i h a =
        both-or _ _ _ _ (guard_means g sc b w i h.0 (at_left s b w (guard_lines one b g) _ a)) (some_means gs sc (b + guard_bits g) w i h.1 (at_behind_bits s b w (guard_bits g) (guard_lines one b g) _ (bits-guard g one b) (words-guard g one b) a))

  -- the lines behind a guard's
  after_guard : (g : Guard) (b w : ℕ) (ls : List Line) → AreAt s b w (guard_lines one b g ++ ls) → AreAt s (b + guard_bits g) w ls
  after_guard g b w ls a = at_behind_bits s b w (guard_bits g) (guard_lines one b g) ls (bits-guard g one b) (words-guard g one b) a

  transitions_mean : (ts : List Transition) (sc : Scope) (live b w : ℕ) → ReadsBelow n sc → AreTransitions sc ts → AreAt s b w (transition_lines one live b ts) → (reading s (transition_fires b ts) ≡ fires_of (bit_of s live) v ts) × (list_all (is_true s) (refusals one b ts) ≡ none_holds v ts)
  transitions_mean [] sc live b w i h a = (refl, refl)
  transitions_mean (t ∷ ts) sc live b w i h a =
      let lit : is_true s (guard_literal one b t.guard) ≡ holds t.guard v = guard_means t.guard sc b w i h.0 (at_left s b w (guard_lines one b t.guard) _ a) in
      let more = after_guard t.guard b w (lines.all (plus live ∷ guard_literal one b t.guard ∷ []) ∷ transition_lines one live (suc (b + guard_bits t.guard)) ts) a in
      let rest = transitions_mean ts sc live (suc (b + guard_bits t.guard)) w i h.2 more.1 in
      let on : bit_of s (b + guard_bits t.guard) ≡ (bit_of s live && holds t.guard v) = more.0 ∙ ap (λ x. bit_of s live && x) (and-true (is_true s (guard_literal one b t.guard)) ∙ lit) in (
        ap (λ x. record { on = x; outs = t.outs; target = t.target } ∷ reading s (transition_fires (suc (b + guard_bits t.guard)) ts)) on ∙ ap (λ (l : List Fire). record { on = bit_of s live && holds t.guard v; outs = t.outs; target = t.target } ∷ l) rest.0,
        both-and _ _ _ _ (opposite-is s (guard_literal one b t.guard) ∙ ap not lit) rest.1,
      )

  timeout_means : (t : Option Timeout) (sc : Scope) (live r first b w : ℕ) (none : List Literal) (nothing : Bool) → ReadsBelow n sc → IsTimeout sc t → list_all (is_true s) none ≡ nothing → AreAt s b w (timeout_lines live r first b none t)
      → (reading s (timeout_fires b t) ≡ times_of (bit_of s live && nothing) first (word_of s r) v t) × (some_bit s (timeout_ticks b t) ≡ ticks_of (bit_of s live && nothing) first (word_of s r) v t)
  timeout_means None sc live r first b w none nothing i h e a = (refl, refl)
  timeout_means (Some t) sc live r first b w none nothing i h e a =
      let waits : bit_of s b ≡ (bit_of s live && nothing) = a.0 ∙ ap (λ x. bit_of s live && x) e in
      let signal : bit_of s t.signal ≡ has v t.signal = same t.signal (i t.signal h.0) in
      let last : bit_of s (suc b) ≡ is_last first t (word_of s r) = a.1.0 in
      let time : bit_of s (suc (suc b)) ≡ ((bit_of s live && nothing) && (has v t.signal && is_last first t (word_of s r))) = a.1.1.0 ∙ both-and _ _ _ _ waits (both-and _ _ _ _ signal (and-true (bit_of s (suc b)) ∙ last)) in
      let tick : bit_of s (suc (suc (suc b))) ≡ ((bit_of s live && nothing) && (has v t.signal && not (is_last first t (word_of s r)))) = a.1.1.1.0 ∙ both-and _ _ _ _ waits (both-and _ _ _ _ signal (and-true (not (bit_of s (suc b))) ∙ ap not last)) in
      (ap (λ x. record { on = x; outs = t.outs; target = t.target } ∷ []) time, or-false (bit_of s (suc (suc (suc b)))) ∙ tick)

  -- what is known of one state
  record StateMeans (run : Bool) (r first b : ℕ) (ts : List Transition) (t : Option Timeout) : Type 0 where
    live : bit_of s (suc b) ≡ (run && is_in first t (word_of s r))
    fires : reading s (state_fire_bits b ts t) ≡ state_fires (run && is_in first t (word_of s r)) first (word_of s r) v ts t
    ticks : some_bit s (timeout_ticks (suc (suc b) + transition_bits ts) t) ≡ state_ticks (run && is_in first t (word_of s r)) first (word_of s r) v ts t

  state_means : (ts : List Transition) (t : Option Timeout) (sc : Scope) (run : Literal) (r first b w : ℕ) → ReadsBelow n sc → AreTransitions sc ts → IsTimeout sc t → AreAt s b w (state_lines one run r first b ts t) → StateMeans (is_true s run) r first b ts t
  state_means ts t sc run r first b w i h k a =
      let live : bit_of s (suc b) ≡ (is_true s run && is_in first t (word_of s r)) = a.1.0 ∙ ap (λ x. is_true s run && x) (and-true (bit_of s b) ∙ a.0) in
      let left = at_left s (suc (suc b)) w (transition_lines one (suc b) (suc (suc b)) ts) _ a.1.1 in
      let right = at_behind_bits s (suc (suc b)) w (transition_bits ts) (transition_lines one (suc b) (suc (suc b)) ts) (timeout_lines (suc b) r first (suc (suc b) + transition_bits ts) (refusals one (suc (suc b)) ts) t) (bits-transitions ts one (suc b) (suc (suc b))) (words-transitions ts one (suc b) (suc (suc b))) a.1.1 in
      let own = transitions_mean ts sc (suc b) (suc (suc b)) w i h left in
      let late = timeout_means t sc (suc b) r first (suc (suc b) + transition_bits ts) w (refusals one (suc (suc b)) ts) (none_holds v ts) i k own.1 right in
      record {
        live = live;
        fires = reading-append s (transition_fires (suc (suc b)) ts) (timeout_fires (suc (suc b) + transition_bits ts) t) ∙ both-fires _ _ _ _ own.0 late.0 ∙ ap (λ x. state_fires x first (word_of s r) v ts t) live;
        ticks = late.1 ∙ ap (λ x. state_ticks x first (word_of s r) v ts t) live;
      }

  own_mean : (ss : States) (sc : Scope) (run : Literal) (r first b w : ℕ) → ReadsBelow n sc → AreScopedStates sc ss → AreAt s b w (own_lines ss one run r first b) → (reading s (own_fires ss b) ≡ fires_in ss (is_true s run) first (word_of s r) v) × (some_bit s (own_ticks ss b) ≡ ticks_in ss (is_true s run) first (word_of s r) v)
  own_mean no_states sc run r first b w i h a = (refl, refl)
  own_mean (state x p ss) sc run r first b w i h a =
      let here = state_means x.transitions x.timeout sc run r first b w i h.0 h.1 (at_left s b w (state_lines one run r first b x.transitions x.timeout) _ a) in
      let more = at_behind_bits s b w (state_bits x.transitions x.timeout) (state_lines one run r first b x.transitions x.timeout) (own_lines ss one run r (first + counts_of x.timeout) (b + state_bits x.transitions x.timeout)) (bits-state x.transitions x.timeout one run r first b) (words-state x.transitions x.timeout one run r first b) a in
      let rest = own_mean ss sc run r (first + counts_of x.timeout) (b + state_bits x.transitions x.timeout) w i h.3 more in (
        reading-append s (state_fire_bits b x.transitions x.timeout) (own_fires ss (b + state_bits x.transitions x.timeout)) ∙ both-fires _ _ _ _ here.fires rest.0,
        some_bit-append s (timeout_ticks (suc (suc b) + transition_bits x.transitions) x.timeout) (own_ticks ss (b + state_bits x.transitions x.timeout)) ∙ both-or _ _ _ _ here.ticks rest.1,
      )

  register_means : (ss : States) (q0 r w : ℕ) (start kill run : Literal) (fires : List FireBit) (ticks : List ℕ) → code_count ss ≤ 65535 → reading s fires ≡ fires_in ss (is_true s run) 1 (word_of s r) v → some_bit s ticks ≡ ticks_in ss (is_true s run) 1 (word_of s r) v
      → word_of s w ≡ chosen_value s (record { when = start; choice = code (first_code ss q0) } ∷ record { when = kill; choice = code 0 } ∷ (fire_cases (first_code ss) fires ++ tick_cases r ticks)) (word r)
      → word_of s w ≡ next_register ss q0 (is_true s start) (is_true s kill) (fires_in ss (is_true s run) 1 (word_of s r) v) (ticks_in ss (is_true s run) 1 (word_of s r) v) (word_of s r)
  register_means ss q0 r w start kill run fires ticks room f t a =
      a ∙ ap (λ x. if is_true s start then first_code ss q0 else (if is_true s kill then 0 else x))
      (chosen-fires s (first_code ss) fires (tick_cases r ticks) (word r)
      ∙ ap (λ (l : List Fire). fired_code (first_code ss) l (chosen_value s (tick_cases r ticks) (word r))) f
      ∙ ap (fired_code (first_code ss) (fires_in ss (is_true s run) 1 (word_of s r) v)) (chosen-ticks s r ticks ∙ ap (λ x. if x then next_code (word_of s r) else word_of s r) t ∙ ticked (ticks_in ss (is_true s run) 1 (word_of s r) v) (λ y. tick_room ss (is_true s run) 1 (word_of s r) v y)))
    where
      ticked : (tick : Bool) → (tick ≡ true → word_of s r + 1 < 1 + code_count ss) → (if tick then next_code (word_of s r) else word_of s r) ≡ (if tick then word_of s r + 1 else word_of s r)
      ticked true h = let below = h refl in next_code-room (word_of s r) (omega arith)
      ticked false h = refl

  and_joined : (a b c : Bool) → ((a && b) && c) ≡ (a && (b && c))
  and_joined true b c = refl
  and_joined false b c = refl

  initial_started : (start : Literal) (here : Bool) → list_any (is_true s) (if here then start ∷ [] else []) ≡ (is_true s start && here)
  initial_started start true = or-false (is_true s start) ∙ sym (and-true (is_true s start))
  initial_started start false = sym (never_both (is_true s start))

  mutual
    pub process_means : (p : Process) (sc : Scope) (b w r : ℕ) (run start kill : Literal) → ReadsBelow n sc → AreBelow n (locals_in p) → IsScoped sc p → IsShaped p → AreAt s b w (process_lines p one b r run start kill)
        → (reading s (process_fires p b) ≡ all_fires p r s.words (is_true s run) v) × (words_from s w (register_count p) ≡ next_codes p r s.words (is_true s run) (is_true s start) (is_true s kill) v)
    process_means (automaton ss q0) sc b w r run start kill i u h z a =
        let fires = own_fires ss (suc b) in
        let enters : ℕ → List Literal = entering fires in
        let starts : ℕ → List Literal = λ q. if nat_eq q0 q then start ∷ [] else [] in
        let bodies = bodies_lines ss one b (suc r) enters starts kill (suc b) (suc b + own_bits ss) in
        let own_at = at_left s (suc b) w (own_lines ss one run r 1 (suc b)) _ a.1 in
        let more = at_behind_bits s (suc b) w (own_bits ss) (own_lines ss one run r 1 (suc b)) (register_line ss q0 r start kill fires (own_ticks ss (suc b)) ∷ bodies) (bits-own ss one run r 1 (suc b)) (words-own ss one run r 1 (suc b)) a.1 in
        let own = own_mean ss sc run r 1 (suc b) w i h.1 own_at in
        let go : bit_of s b ≡ (not (is_true s start) && not (is_true s kill)) = a.0 ∙ both-and _ _ _ _ (opposite-is s start) (and-true (is_true s (opposite kill)) ∙ opposite-is s kill) in
        let register = register_means ss q0 r w start kill run fires (own_ticks ss (suc b)) z.1 own.0 own.1 more.0 in
        let started : (j : ℕ) → ((bit_of s b && list_any (is_true s) (enters j)) || list_any (is_true s) (starts j)) ≡ starts_at q0 (is_true s start) (is_true s kill) (fires_in ss (is_true s run) 1 (word_of s r) v) j
        = λ j. both-or _ _ _ _ (both-and _ _ _ _ go (entering-enter s fires j ∙ ap (λ (l : List Fire). fires_enter l j) own.0) ∙ and_joined (not (is_true s start)) (not (is_true s kill)) _) (initial_started start (nat_eq q0 j)) in
        let inside = bodies_mean ss sc (length (rules_of ss)) b (suc b) w (suc b + own_bits ss) (suc w) r (suc r) 1 run kill enters starts (starts_at q0 (is_true s start) (is_true s kill) (fires_in ss (is_true s run) 1 (word_of s r) v)) started i u h.1 z.2 own_at more.1 in (
          reading-append s fires (bodies_fires ss (suc b + own_bits ss)) ∙ both-fires _ _ _ _ own.0 inside.0,
          ap (λ x. x ∷ words_from s (suc w) (registers_in ss)) register ∙ ap (λ (l : List ℕ). next_register ss q0 (is_true s start) (is_true s kill) (fires_in ss (is_true s run) 1 (word_of s r) v) (ticks_in ss (is_true s run) 1 (word_of s r) v) (word_of s r) ∷ l) inside.1,
        )
    process_means (parallel ps) sc b w r run start kill i u h z a = parts_mean ps sc b w r run start kill i u h z.1 a
    process_means (local list p) sc b w r run start kill i u h z a =
        process_means p (within_locals sc list) b w r run start kill (reads_within n sc list i (λ k l. u k (lists-left list (locals_in p) k l))) (λ k l. u k (lists-right list (locals_in p) k l)) h z a
    process_means (freeze x p) sc b w r run start kill i u h z a =
        let stopped : bit_of s b ≡ (is_true s run && not (has v x)) = a.0 ∙ ap (λ y. is_true s run && y) (and-true (not (bit_of s x)) ∙ ap not (same x (i x h.0))) in
        let inside = process_means p sc (suc b) w r (plus b) start kill i u h.1 z a.1 in
        (inside.0 ∙ ap (λ y. all_fires p r s.words y v) stopped, inside.1 ∙ ap (λ y. next_codes p r s.words y (is_true s start) (is_true s kill) v) stopped)

    parts_mean : (ps : Processes) (sc : Scope) (b w r : ℕ) (run start kill : Literal) → ReadsBelow n sc → AreBelow n (locals_in_parts ps) → AreScopedParts sc ps → AreShapedParts ps → AreAt s b w (parts_lines ps one b r run start kill)
        → (reading s (parts_fires ps b) ≡ all_fires_of ps r s.words (is_true s run) v) × (words_from s w (registers_of ps) ≡ next_codes_parts ps r s.words (is_true s run) (is_true s start) (is_true s kill) v)
    parts_mean no_processes sc b w r run start kill i u h z a = (refl, refl)
    parts_mean (process p ps) sc b w r run start kill i u h z a =
        let first = process_means p sc b w r run start kill i (λ k l. u k (lists-left (locals_in p) (locals_in_parts ps) k l)) h.0 z.0 (at_left s b w (process_lines p one b r run start kill) _ a) in
        let more = at_behind s b w (process_bits p) (register_count p) (process_lines p one b r run start kill) (parts_lines ps one (b + process_bits p) (r + register_count p) run start kill) (bits-process p one b r run start kill) (words-process p one b r run start kill) a in
        let rest = parts_mean ps sc (b + process_bits p) (w + register_count p) (r + register_count p) run start kill i (λ k l. u k (lists-right (locals_in p) (locals_in_parts ps) k l)) h.1 z.1 more in
        (reading-append s (process_fires p b) (parts_fires ps (b + process_bits p)) ∙ both-fires _ _ _ _ first.0 rest.0, words_from-add s w (register_count p) (registers_of ps) ∙ both-codes _ _ _ _ first.1 rest.1)

    -- the states' own lines are from bit `own` on, those of the bodies from bit b and word x on; the automaton has register r, and the bodies have those from `inner` on
    bodies_mean : (ss : States) (sc : Scope) (count go own w b x r inner first : ℕ) (run kill : Literal) (enters starts : ℕ → List Literal) (started : ℕ → Bool) → ((j : ℕ) → ((bit_of s go && list_any (is_true s) (enters j)) || list_any (is_true s) (starts j)) ≡ started j)
        → ReadsBelow n sc → AreBelow n (locals_in_states ss) → AreScopedStates sc ss → AreShapedStates count ss
        → AreAt s own w (own_lines ss one run r first own) → AreAt s b x (bodies_lines ss one go inner enters starts kill own b)
        → (reading s (bodies_fires ss b) ≡ all_fires_in ss inner s.words (is_true s run) first (word_of s r) v) × (words_from s x (registers_in ss) ≡ next_codes_in ss inner s.words (is_true s run) started (is_true s kill) first (word_of s r) v)
    bodies_mean no_states sc count go own w b x r inner first run kill enters starts started is i u h z o a = (refl, refl)
    bodies_mean (state y p ss) sc count go own w b x r inner first run kill enters starts started is i u h z o a =
        let here = state_means y.transitions y.timeout sc run r first own w i h.0 h.1 (at_left s own w (state_lines one run r first own y.transitions y.timeout) _ o) in
        let own_more = at_behind_bits s own w (state_bits y.transitions y.timeout) (state_lines one run r first own y.transitions y.timeout) (own_lines ss one run r (first + counts_of y.timeout) (own + state_bits y.transitions y.timeout)) (bits-state y.transitions y.timeout one run r first own) (words-state y.transitions y.timeout one run r first own) o in
        let leaves = fire_literals (state_fire_bits own y.transitions y.timeout) in
        let lines_here = body_lines p one go inner (suc own) leaves (enters 0) (starts 0) kill b in
        let lines_more = bodies_lines ss one go (inner + registers_within p) (λ q. enters (suc q)) (λ q. starts (suc q)) kill (own + state_bits y.transitions y.timeout) (b + body_bits p) in
        let more = at_behind s b x (body_bits p) (registers_within p) lines_here lines_more (bits-body p one go inner (suc own) leaves (enters 0) (starts 0) kill b) (words-body p one go inner (suc own) leaves (enters 0) (starts 0) kill b) a in
        let first_body = body_means p sc go b x inner (suc own) leaves (enters 0) (starts 0) kill i (λ k l. u k (lists-left (locals_in_body p) (locals_in_states ss) k l)) h.2 z.2 (at_left s b x lines_here lines_more a) in
        let rest = bodies_mean ss sc count go (own + state_bits y.transitions y.timeout) w (b + body_bits p) (x + registers_within p) r (inner + registers_within p) (first + counts_of y.timeout) run kill (λ q. enters (suc q)) (λ q. starts (suc q)) (λ q. started (suc q)) (λ j. is (suc j)) i (λ k l. u k (lists-right (locals_in_body p) (locals_in_states ss) k l)) h.3 z.3 own_more more in
        let live = is_true s run && is_in first y.timeout (word_of s r) in
        let left : list_any (is_true s) leaves ≡ some_fires (state_fires live first (word_of s r) v y.transitions y.timeout) = fire_literals-some s (state_fire_bits own y.transitions y.timeout) ∙ ap some_fires here.fires in (
          reading-append s (body_fires p b) (bodies_fires ss (b + body_bits p)) ∙ both-fires _ _ _ _ (first_body.0 ∙ ap (λ q. all_fires_within p inner s.words q v) here.live) rest.0,
          words_from-add s x (registers_within p) (registers_in ss)
              ∙ both-codes _ _ _ _
              (first_body.1
              ∙ ap (λ q. next_codes_within p inner s.words q ((bit_of s go && list_any (is_true s) (enters 0)) || list_any (is_true s) (starts 0)) (list_any (is_true s) leaves || is_true s kill) v) here.live
              ∙ ap (λ q. next_codes_within p inner s.words live q (list_any (is_true s) leaves || is_true s kill) v) (is 0)
              ∙ ap (λ q. next_codes_within p inner s.words live (started 0) (q || is_true s kill) v) left)
              rest.1,
        )

    body_means : (p : Body) (sc : Scope) (go b x inner live : ℕ) (leaves enters starts : List Literal) (kill : Literal) → ReadsBelow n sc → AreBelow n (locals_in_body p) → IsScopedBody sc p → IsShapedBody p → AreAt s b x (body_lines p one go inner live leaves enters starts kill b)
        → (reading s (body_fires p b) ≡ all_fires_within p inner s.words (bit_of s live) v)
        × (words_from s x (registers_within p) ≡ next_codes_within p inner s.words (bit_of s live) ((bit_of s go && list_any (is_true s) enters) || list_any (is_true s) starts) (list_any (is_true s) leaves || is_true s kill) v)
    body_means no_body sc go b x inner live leaves enters starts kill i u h z a = (refl, refl)
    body_means (body p) sc go b x inner live leaves enters starts kill i u h z a =
        let inside = process_means p sc (suc (suc (suc (suc b)))) x inner (plus live) (plus (suc (suc (suc b)))) (plus b) i u h z a.1.1.1.1 in
        let killed : bit_of s b ≡ (list_any (is_true s) leaves || is_true s kill) = a.0 ∙ list_any-append s leaves (kill ∷ []) ∙ ap (λ q. list_any (is_true s) leaves || q) (or-false (is_true s kill)) in
        let entered : bit_of s (suc (suc b)) ≡ (bit_of s go && list_any (is_true s) enters) = a.1.1.0 ∙ ap (λ q. bit_of s go && q) (and-true (bit_of s (suc b)) ∙ a.1.0) in
        let started : bit_of s (suc (suc (suc b))) ≡ ((bit_of s go && list_any (is_true s) enters) || list_any (is_true s) starts) = a.1.1.1.0 ∙ ap (λ q. q || list_any (is_true s) starts) entered in
        (inside.0, inside.1 ∙ ap (λ q. next_codes p inner s.words (bit_of s live) q (bit_of s b) v) started ∙ ap (λ q. next_codes p inner s.words (bit_of s live) ((bit_of s go && list_any (is_true s) enters) || list_any (is_true s) starts) q v) killed)
