-- What isn't run emits nothing; what is off stays off, unless it is started.
use Rattle.std.proofs.Common.{◌≡◌, ℕ, suc, ◌+◌, List, ◌∷◌, ◌++◌, Bool, true, false, ◌&&◌, ◌||◌, not, if◌then◌else◌, refl, sym, ap, ◌∙◌, inl, inr, subst, arith, replicate}
use Rattle.std.specs.Prelude.{slice_index_or}
use Rattle.argos_base.specs.SignalSets.{SignalSet, lists}
use Rattle.argos_base.proofs.Bools.{or_neither, or_cases}
use Rattle.argos_core.specs.Automata.{counts_of, first_code, register_count, registers_of, registers_in, registers_within}
use Rattle.argos_core.specs.Codes.{code_of, codes_of, codes_in, codes_within}
use Rattle.argos_core.specs.Configurations.{initial_configuration, initial_parts, initial_in, initial_body}
use Rattle.argos_core.specs.Modules.{locals_in, locals_in_parts, locals_in_states, locals_in_body}
use Rattle.argos_core.specs.Process.{Process, automaton, parallel, local, freeze, Processes, no_processes, process, States, no_states, state, Body, no_body, body}
use Rattle.argos_core.proofs.StructuralFits.{Segment, segment_left, segment_right, segment_tail, code_at}
use Rattle.argos_core.proofs.Zeros.{length-zeros, replicate-add}
use Rattle.eqn_scheme.specs.inner.Settled.{AreAbsent}
use Rattle.eqn_scheme.specs.Wired.{Fire, state_fires, fires_in, ticks_in, fires_enter, some_fires, next_register, starts_at, emits, emits_parts, emits_in, emits_within, next_codes, next_codes_parts, next_codes_in, next_codes_within, IsClosed, AreClosed, IsClosedIn, IsClosedWithin}
use Rattle.eqn_scheme.proofs.Firing.{AreOff, AreDead, dead_stopped, fires_in-off, ticks_in-off, off-emit, off-enter, off-fired, or-false}
use Rattle.eqn_scheme.proofs.Listing.{lists-append, lists-left, lists-right}
use Rattle.eqn_scheme.proofs.Starting.{started, started-none, started-one}

mutual
  pub silent : (p : Process) (r : ℕ) (m : List ℕ) (v : SignalSet) (k : ℕ) → emits p r m false v k ≡ false
  silent (automaton ss q0) r m v k =
      let code = slice_index_or m r 0 in
      or_neither _ _ (off-emit (fires_in ss false 1 code v) k (fires_in-off ss false 1 code v (dead_stopped ss 1 code))) (silent_in ss (suc r) m false 1 code v k (dead_stopped ss 1 code))
  silent (parallel ps) r m v k = silent_of ps r m v k
  silent (local list p) r m v k = ap (λ b. b && not (lists list k)) (silent p r m v k)
  silent (freeze s p) r m v k = silent p r m v k

  silent_of : (ps : Processes) (r : ℕ) (m : List ℕ) (v : SignalSet) (k : ℕ) → emits_parts ps r m false v k ≡ false
  silent_of no_processes r m v k = refl
  silent_of (process p ps) r m v k = or_neither _ _ (silent p r m v k) (silent_of ps (r + register_count p) m v k)

  pub silent_in : (ss : States) (r : ℕ) (m : List ℕ) (run : Bool) (first code : ℕ) (v : SignalSet) (k : ℕ) → AreDead ss run first code → emits_in ss r m run first code v k ≡ false
  silent_in no_states r m run first code v k h = refl
  silent_in (state s p ss) r m run first code v k h = or_neither _ _ (ap (λ b. emits_within p r m b v k) h.0 ∙ silent_within p r m v k) (silent_in ss (r + registers_within p) m run (first + counts_of s.timeout) code v k h.1)

  pub silent_within : (p : Body) (r : ℕ) (m : List ℕ) (v : SignalSet) (k : ℕ) → emits_within p r m false v k ≡ false
  silent_within no_body r m v k = refl
  silent_within (body p) r m v k = silent p r m v k

-- absent signals of two lists
pub absent-both : (n : ℕ) (v : SignalSet) (xs ys : List ℕ) → AreAbsent n v xs → AreAbsent n v ys → AreAbsent n v (xs ++ ys)
absent-both n v xs ys h i k below l = elim (or_cases (lists xs k) (lists ys k) (sym (lists-append xs ys k) ∙ l)) [ inl x ↦ h k below x | inr x ↦ i k below x ]

pub absent-left : (n : ℕ) (v : SignalSet) (xs ys : List ℕ) → AreAbsent n v (xs ++ ys) → AreAbsent n v xs
absent-left n v xs ys h k below l = h k below (lists-left xs ys k l)

pub absent-right : (n : ℕ) (v : SignalSet) (xs ys : List ℕ) → AreAbsent n v (xs ++ ys) → AreAbsent n v ys
absent-right n v xs ys h k below l = h k below (lists-right xs ys k l)

-- so its locals are absent exactly where the valuation is closed
mutual
  pub closed_absent : (p : Process) (n r : ℕ) (m : List ℕ) (v : SignalSet) → IsClosed n p r m false v → AreAbsent n v (locals_in p)
  closed_absent (automaton ss q0) n r m v h = closed_absent_in ss n (suc r) m false 1 (slice_index_or m r 0) v (dead_stopped ss 1 (slice_index_or m r 0)) h
  closed_absent (parallel ps) n r m v h = closed_absent_of ps n r m v h
  closed_absent (local list p) n r m v h = absent-both n v list (locals_in p) (λ k below l. h.0 k below l ∙ silent p r m v k) (closed_absent p n r m v h.1)
  closed_absent (freeze s p) n r m v h = closed_absent p n r m v h

  closed_absent_of : (ps : Processes) (n r : ℕ) (m : List ℕ) (v : SignalSet) → AreClosed n ps r m false v → AreAbsent n v (locals_in_parts ps)
  closed_absent_of no_processes n r m v h = λ k below l. cc
  closed_absent_of (process p ps) n r m v h = absent-both n v (locals_in p) (locals_in_parts ps) (closed_absent p n r m v h.0) (closed_absent_of ps n (r + register_count p) m v h.1)

  pub closed_absent_in : (ss : States) (n r : ℕ) (m : List ℕ) (run : Bool) (first code : ℕ) (v : SignalSet) → AreDead ss run first code → IsClosedIn n ss r m run first code v → AreAbsent n v (locals_in_states ss)
  closed_absent_in no_states n r m run first code v d h = λ k below l. cc
  closed_absent_in (state s p ss) n r m run first code v d h = absent-both n v (locals_in_body p) (locals_in_states ss) (closed_absent_within p n r m v (subst (λ b. IsClosedWithin n p r m b v) d.0 h.0)) (closed_absent_in ss n (r + registers_within p) m run (first + counts_of s.timeout) code v d.1 h.1)

  pub closed_absent_within : (p : Body) (n r : ℕ) (m : List ℕ) (v : SignalSet) → IsClosedWithin n p r m false v → AreAbsent n v (locals_in_body p)
  closed_absent_within no_body n r m v h = λ k below l. cc
  closed_absent_within (body p) n r m v h = closed_absent p n r m v h

mutual
  pub absent_closed : (p : Process) (n r : ℕ) (m : List ℕ) (v : SignalSet) → AreAbsent n v (locals_in p) → IsClosed n p r m false v
  absent_closed (automaton ss q0) n r m v h = absent_closed_in ss n (suc r) m false 1 (slice_index_or m r 0) v (dead_stopped ss 1 (slice_index_or m r 0)) h
  absent_closed (parallel ps) n r m v h = absent_closed_of ps n r m v h
  absent_closed (local list p) n r m v h = ((λ k below l. h k below (lists-left list (locals_in p) k l) ∙ sym (silent p r m v k)), absent_closed p n r m v (absent-right n v list (locals_in p) h))
  absent_closed (freeze s p) n r m v h = absent_closed p n r m v h

  absent_closed_of : (ps : Processes) (n r : ℕ) (m : List ℕ) (v : SignalSet) → AreAbsent n v (locals_in_parts ps) → AreClosed n ps r m false v
  absent_closed_of no_processes n r m v h = tt
  absent_closed_of (process p ps) n r m v h = (absent_closed p n r m v (absent-left n v (locals_in p) (locals_in_parts ps) h), absent_closed_of ps n (r + register_count p) m v (absent-right n v (locals_in p) (locals_in_parts ps) h))

  pub absent_closed_in : (ss : States) (n r : ℕ) (m : List ℕ) (run : Bool) (first code : ℕ) (v : SignalSet) → AreDead ss run first code → AreAbsent n v (locals_in_states ss) → IsClosedIn n ss r m run first code v
  absent_closed_in no_states n r m run first code v d h = tt
  absent_closed_in (state s p ss) n r m run first code v d h = (
    subst (λ b. IsClosedWithin n p r m b v) (sym d.0) (absent_closed_within p n r m v (absent-left n v (locals_in_body p) (locals_in_states ss) h)),
    absent_closed_in ss n (r + registers_within p) m run (first + counts_of s.timeout) code v d.1 (absent-right n v (locals_in_body p) (locals_in_states ss) h),
  )

  pub absent_closed_within : (p : Body) (n r : ℕ) (m : List ℕ) (v : SignalSet) → AreAbsent n v (locals_in_body p) → IsClosedWithin n p r m false v
  absent_closed_within no_body n r m v h = tt
  absent_closed_within (body p) n r m v h = absent_closed p n r m v h

-- segments of zeros
pub zeros_left : (m : List ℕ) (r a b : ℕ) → Segment m r (replicate (a + b) 0) → Segment m r (replicate a 0)
zeros_left m r a b s = segment_left m r (replicate a 0) (replicate b 0) (subst (Segment m r) (replicate-add a b) s)

pub zeros_right : (m : List ℕ) (r a b : ℕ) → Segment m r (replicate (a + b) 0) → Segment m (r + a) (replicate b 0)
zeros_right m r a b s = subst (λ k. Segment m (r + k) (replicate b 0)) (length-zeros a) (segment_right m r (replicate a 0) (replicate b 0) (subst (Segment m r) (replicate-add a b) s))

both-lists : (a b c d : List ℕ) → a ≡ c → b ≡ d → a ++ b ≡ c ++ d
both-lists a b c d e f = ap (λ (x : List ℕ). x ++ b) e ∙ ap (λ (x : List ℕ). c ++ x) f

pub both-cons : (a c : ℕ) (b d : List ℕ) → a ≡ c → b ≡ d → a ∷ b ≡ c ∷ d
both-cons a c b d e f = ap (λ (x : ℕ). x ∷ b) e ∙ ap (λ (x : List ℕ). c ∷ x) f

-- where nothing fires, at code 0
off_automaton : (ss : States) (q0 : ℕ) (start kill : Bool) (fires : List Fire) (tick : Bool) (code : ℕ) → AreOff fires → tick ≡ false → code ≡ 0
    → next_register ss q0 start kill fires tick code ∷ started ss (starts_at q0 start kill fires) ≡ (if start then (first_code ss q0 + 0) ∷ codes_in ss q0 (initial_in ss q0) else 0 ∷ replicate (registers_in ss) 0)
off_automaton ss q0 true kill fires tick code off none here = both-cons _ _ _ _ (omega arith) (started-one ss q0 (starts_at q0 true kill fires) (λ j. refl))
off_automaton ss q0 false true fires tick code off none here = both-cons _ _ _ _ refl (started-none ss (starts_at q0 false true fires) (λ j. refl))
off_automaton ss q0 false false fires tick code off none here =
    both-cons _ _ _ _ (off-fired fires (first_code ss) (if tick then code + 1 else code) off ∙ ap (λ b. if b then code + 1 else code) none ∙ here) (started-none ss (starts_at q0 false false fires) (λ j. or-false (fires_enter fires j) ∙ off-enter fires j off))

start_both : (start : Bool) (a b : List ℕ) (x y : ℕ) → (if start then a else replicate x 0) ++ (if start then b else replicate y 0) ≡ (if start then a ++ b else replicate (x + y) 0)
start_both true a b x y = refl
start_both false a b x y = sym (replicate-add x y)

mutual
  pub off_next : (p : Process) (r : ℕ) (m : List ℕ) (start kill : Bool) (v : SignalSet) → Segment m r (replicate (register_count p) 0) → next_codes p r m false start kill v ≡ (if start then code_of p (initial_configuration p) else replicate (register_count p) 0)
  off_next (automaton ss q0) r m start kill v s =
      let code = slice_index_or m r 0 in
      let fires = fires_in ss false 1 code v in
      let tick = ticks_in ss false 1 code v in
      ap (λ (l : List ℕ). next_register ss q0 start kill fires tick code ∷ l) (off_next_in ss (suc r) m false (starts_at q0 start kill fires) kill 1 code v (dead_stopped ss 1 code) (segment_tail m r 0 (replicate (registers_in ss) 0) s))
      ∙ off_automaton ss q0 start kill fires tick code (fires_in-off ss false 1 code v (dead_stopped ss 1 code)) (ticks_in-off ss false 1 code v (dead_stopped ss 1 code)) (code_at m r 0 (replicate (registers_in ss) 0) s)
  off_next (parallel ps) r m start kill v s = off_next_of ps r m start kill v s
  off_next (local list p) r m start kill v s = off_next p r m start kill v s
  off_next (freeze a p) r m start kill v s = off_next p r m start kill v s

  off_next_of : (ps : Processes) (r : ℕ) (m : List ℕ) (start kill : Bool) (v : SignalSet) → Segment m r (replicate (registers_of ps) 0) → next_codes_parts ps r m false start kill v ≡ (if start then codes_of ps (initial_parts ps) else replicate (registers_of ps) 0)
  off_next_of no_processes r m true kill v s = refl
  off_next_of no_processes r m false kill v s = refl
  off_next_of (process p ps) r m start kill v s =
      both-lists _ _ _ _ (off_next p r m start kill v (zeros_left m r (register_count p) (registers_of ps) s)) (off_next_of ps (r + register_count p) m start kill v (zeros_right m r (register_count p) (registers_of ps) s))
      ∙ start_both start (code_of p (initial_configuration p)) (codes_of ps (initial_parts ps)) (register_count p) (registers_of ps)

  pub off_next_in : (ss : States) (r : ℕ) (m : List ℕ) (run : Bool) (starts : ℕ → Bool) (kill : Bool) (first code : ℕ) (v : SignalSet) → AreDead ss run first code → Segment m r (replicate (registers_in ss) 0) → next_codes_in ss r m run starts kill first code v ≡ started ss starts
  off_next_in no_states r m run starts kill first code v d s = refl
  off_next_in (state x p ss) r m run starts kill first code v d s =
      both-lists _ _ _ _
      (ap (λ b. next_codes_within p r m b (starts 0) (some_fires (state_fires b first code v x.transitions x.timeout) || kill) v) d.0 ∙ off_next_within p r m (starts 0) (some_fires (state_fires false first code v x.transitions x.timeout) || kill) v (zeros_left m r (registers_within p) (registers_in ss) s))
      (off_next_in ss (r + registers_within p) m run (λ j. starts (suc j)) kill (first + counts_of x.timeout) code v d.1 (zeros_right m r (registers_within p) (registers_in ss) s))

  pub off_next_within : (p : Body) (r : ℕ) (m : List ℕ) (start kill : Bool) (v : SignalSet) → Segment m r (replicate (registers_within p) 0) → next_codes_within p r m false start kill v ≡ (if start then codes_within p (initial_body p) else replicate (registers_within p) 0)
  off_next_within no_body r m true kill v s = refl
  off_next_within no_body r m false kill v s = refl
  off_next_within (body p) r m start kill v s = off_next p r m start kill v s
