-- What isn't run though it is on keeps its codes, unless it is killed, or killed and started.
use Rattle.std.proofs.Common.{◌≡◌, ℕ, zero, suc, ◌+◌, List, ◌∷◌, ◌++◌, Bool, true, false, ◌||◌, if◌then◌else◌, refl, sym, ap, ◌∙◌, subst, arith, replicate}
use Rattle.std.specs.Prelude.{slice_index_or}
use Rattle.argos_base.specs.SignalSets.{SignalSet}
use Rattle.argos_core.specs.Automata.{counts_of, first_code, register_count, registers_of, registers_in, registers_within}
use Rattle.argos_core.specs.Codes.{code_of, codes_of, codes_in, codes_within}
use Rattle.argos_core.specs.Configurations.{IsConfiguration, AreOfParts, IsOfState, IsOfBody, initial_configuration, initial_parts, initial_in, initial_body, entered}
use Rattle.argos_core.specs.Process.{Process, automaton, parallel, local, freeze, Processes, no_processes, process, States, no_states, state, Body, no_body, body, Configuration, at, beside, Inner, no_inner, inner, Configurations, no_configurations, configuration}
use Rattle.argos_core.proofs.CodesDiffer.{length-code_of, length-codes_within}
use Rattle.argos_core.proofs.StructuralFits.{Segment, segment_left, segment_right, segment_tail, code_at}
use Rattle.argos_core.proofs.Zeros.{length-zeros, replicate-add}
use Rattle.eqn_scheme.specs.inner.Settled.{Outcome, leaves, counts, stays, moved}
use Rattle.eqn_scheme.specs.Wired.{Fire, state_fires, fires_in, ticks_in, fires_enter, some_fires, next_register, starts_at, next_codes, next_codes_parts, next_codes_in, next_codes_within}
use Rattle.eqn_scheme.proofs.Firing.{Show, dead_stopped, dead_fires, fires_in-off, ticks_in-off, off-enter, off-some, off-fired, or-false, or-true}
use Rattle.eqn_scheme.proofs.Starting.{after, after-append, standing, started-none, started-one, standing-killed, standing-kept}
use Rattle.eqn_scheme.proofs.WiredOff.{off_next_in, off_next_within, both-cons}

-- the outcome takes the automaton out of its state
abbrev pub is_leaving : Outcome → Bool
is_leaving (leaves outs target) = true
is_leaving counts = false
is_leaving stays = false

both-lists : (a b c d : List ℕ) → a ≡ c → b ≡ d → a ++ b ≡ c ++ d
both-lists a b c d e f = ap (λ (x : List ℕ). x ++ b) e ∙ ap (λ (x : List ℕ). c ++ x) f

-- the register and the bodies, where the fires show the outcome
pub automaton_after : (ss : States) (q0 q e n : ℕ) (start kill : Bool) (fires : List Fire) (tick : Bool) (code : ℕ) (o : Outcome) (b : Inner) → Show n fires tick o → code ≡ first_code ss q + e → (start ≡ true → kill ≡ true)
    → next_register ss q0 start kill fires tick code ∷ standing ss q (starts_at q0 start kill fires) (is_leaving o || kill) b
    ≡ after (code_of (automaton ss q0) (at q0 0 (initial_in ss q0))) (replicate (suc (registers_in ss)) 0) start kill (code_of (automaton ss q0) (moved (entered ss) q e o b))
automaton_after ss q0 q e n true false fires tick code o b h c k = let impossible = k refl in cc
automaton_after ss q0 q e n true true fires tick code o b h c k =
    both-cons _ _ _ _ (omega arith) (ap (λ x. standing ss q (starts_at q0 true true fires) x b) (or-true (is_leaving o)) ∙ standing-killed ss q (starts_at q0 true true fires) b ∙ started-one ss q0 (starts_at q0 true true fires) (λ j. refl))
automaton_after ss q0 q e n false true fires tick code o b h c k =
    both-cons _ _ _ _ refl (ap (λ x. standing ss q (starts_at q0 false true fires) x b) (or-true (is_leaving o)) ∙ standing-killed ss q (starts_at q0 false true fires) b ∙ started-none ss (starts_at q0 false true fires) (λ j. refl))
automaton_after ss q0 q e n false false fires tick code (leaves outs target) b h c k =
    both-cons _ _ _ _ (h.3 (first_code ss) (if tick then code + 1 else code) ∙ omega arith) (standing-killed ss q (starts_at q0 false false fires) b ∙ started-one ss target (starts_at q0 false false fires) (λ j. or-false (fires_enter fires j) ∙ h.1 j))
automaton_after ss q0 q e n false false fires tick code counts b h c k =
    both-cons _ _ _ _ (off-fired fires (first_code ss) (if tick then code + 1 else code) h.0 ∙ ap (λ x. if x then code + 1 else code) h.1 ∙ omega arith) (standing-kept ss q (starts_at q0 false false fires) b (λ j. or-false (fires_enter fires j) ∙ off-enter fires j h.0))
automaton_after ss q0 q e n false false fires tick code stays b h c k =
    both-cons _ _ _ _ (off-fired fires (first_code ss) (if tick then code + 1 else code) h.0 ∙ ap (λ x. if x then code + 1 else code) h.1 ∙ c) (standing-kept ss q (starts_at q0 false false fires) b (λ j. or-false (fires_enter fires j) ∙ off-enter fires j h.0))

-- the body of the current state is started only where it is killed too
pub starts_killed : (n q0 q : ℕ) (start kill : Bool) (fires : List Fire) (tick : Bool) (o : Outcome) → Show n fires tick o → (start ≡ true → kill ≡ true) → starts_at q0 start kill fires q ≡ true → (is_leaving o || kill) ≡ true
starts_killed n q0 q true false fires tick o h k s = let impossible = k refl in cc
starts_killed n q0 q start true fires tick o h k s = or-true (is_leaving o)
starts_killed n q0 q false false fires tick (leaves outs target) h k s = refl
starts_killed n q0 q false false fires tick counts h k s = let none : fires_enter fires q ≡ false = off-enter fires q h.0 in let some : fires_enter fires q ≡ true = sym (or-false (fires_enter fires q)) ∙ s in cc
starts_killed n q0 q false false fires tick stays h k s = let none : fires_enter fires q ≡ false = off-enter fires q h.0 in let some : fires_enter fires q ≡ true = sym (or-false (fires_enter fires q)) ∙ s in cc

-- segments of the codes of parts and of states
pub part_right : (p : Process) (ps : Processes) (c : Configuration) (cs : Configurations) (m : List ℕ) (r : ℕ) → IsConfiguration p c → Segment m r (code_of p c ++ codes_of ps cs) → Segment m (r + register_count p) (codes_of ps cs)
part_right p ps c cs m r h s = subst (λ k. Segment m (r + k) (codes_of ps cs)) (length-code_of p c h) (segment_right m r (code_of p c) (codes_of ps cs) s)

pub body_right : (p : Body) (ss : States) (b : Inner) (m : List ℕ) (r : ℕ) → IsOfBody p b → Segment m r (codes_within p b ++ replicate (registers_in ss) 0) → Segment m (r + registers_within p) (replicate (registers_in ss) 0)
body_right p ss b m r h s = subst (λ k. Segment m (r + k) (replicate (registers_in ss) 0)) (length-codes_within p b h) (segment_right m r (codes_within p b) (replicate (registers_in ss) 0) s)

pub state_right : (p : Body) (ss : States) (q : ℕ) (b : Inner) (m : List ℕ) (r : ℕ) → Segment m r (replicate (registers_within p) 0 ++ codes_in ss q b) → Segment m (r + registers_within p) (codes_in ss q b)
state_right p ss q b m r s = subst (λ k. Segment m (r + k) (codes_in ss q b)) (length-zeros (registers_within p)) (segment_right m r (replicate (registers_within p) 0) (codes_in ss q b) s)

pub after_of_parts : (p : Process) (ps : Processes) (start kill : Bool) (x y : List ℕ) → after (code_of p (initial_configuration p)) (replicate (register_count p) 0) start kill x ++ after (codes_of ps (initial_parts ps)) (replicate (registers_of ps) 0) start kill y
    ≡ after (codes_of (process p ps) (initial_parts (process p ps))) (replicate (register_count p + registers_of ps) 0) start kill (x ++ y)
after_of_parts p ps start kill x y =
    sym (after-append (code_of p (initial_configuration p)) (codes_of ps (initial_parts ps)) (replicate (register_count p) 0) (replicate (registers_of ps) 0) x y start kill)
    ∙ ap (λ (z : List ℕ). after (code_of p (initial_configuration p) ++ codes_of ps (initial_parts ps)) z start kill (x ++ y)) (sym (replicate-add (register_count p) (registers_of ps)))

mutual
  pub idle_next : (p : Process) (c : Configuration) (r : ℕ) (m : List ℕ) (start kill : Bool) (v : SignalSet) → IsConfiguration p c → Segment m r (code_of p c) → (start ≡ true → kill ≡ true) → next_codes p r m false start kill v ≡ after (code_of p (initial_configuration p)) (replicate (register_count p) 0) start kill (code_of p c)
  idle_next (automaton ss q0) (at q e b) r m start kill v h s k =
      let code = slice_index_or m r 0 in
      let fires = fires_in ss false 1 code v in
      let tick = ticks_in ss false 1 code v in
      let shows : Show 0 fires tick stays = (fires_in-off ss false 1 code v (dead_stopped ss 1 code), ticks_in-off ss false 1 code v (dead_stopped ss 1 code)) in
      ap (λ (l : List ℕ). next_register ss q0 start kill fires tick code ∷ l) (idle_next_in ss q e b (suc r) m (starts_at q0 start kill fires) kill 1 code v h (segment_tail m r (first_code ss q + e) (codes_in ss q b) s) (starts_killed 0 q0 q start kill fires tick stays shows k))
      ∙ automaton_after ss q0 q e 0 start kill fires tick code stays b shows (code_at m r (first_code ss q + e) (codes_in ss q b) s) k
  idle_next (automaton ss q0) (beside cs) r m start kill v h s k = absurd h
  idle_next (parallel ps) (at q e b) r m start kill v h s k = absurd h
  idle_next (parallel ps) (beside cs) r m start kill v h s k = idle_next_of ps cs r m start kill v h s k
  idle_next (local list p) c r m start kill v h s k = idle_next p c r m start kill v h s k
  idle_next (freeze a p) c r m start kill v h s k = idle_next p c r m start kill v h s k

  idle_next_of : (ps : Processes) (cs : Configurations) (r : ℕ) (m : List ℕ) (start kill : Bool) (v : SignalSet) → AreOfParts ps cs → Segment m r (codes_of ps cs) → (start ≡ true → kill ≡ true) → next_codes_parts ps r m false start kill v ≡ after (codes_of ps (initial_parts ps)) (replicate (registers_of ps) 0) start kill (codes_of ps cs)
  idle_next_of no_processes no_configurations r m true kill v h s k = refl
  idle_next_of no_processes no_configurations r m false true v h s k = refl
  idle_next_of no_processes no_configurations r m false false v h s k = refl
  idle_next_of no_processes (configuration c cs) r m start kill v h s k = absurd h
  idle_next_of (process p ps) no_configurations r m start kill v h s k = absurd h
  idle_next_of (process p ps) (configuration c cs) r m start kill v h s k =
      both-lists _ _ _ _ (idle_next p c r m start kill v h.0 (segment_left m r (code_of p c) (codes_of ps cs) s) k) (idle_next_of ps cs (r + register_count p) m start kill v h.1 (part_right p ps c cs m r h.0 s) k)
      ∙ after_of_parts p ps start kill (code_of p c) (codes_of ps cs)

  idle_next_in : (ss : States) (q e : ℕ) (b : Inner) (r : ℕ) (m : List ℕ) (starts : ℕ → Bool) (kill : Bool) (first code : ℕ) (v : SignalSet) → IsOfState ss q e b → Segment m r (codes_in ss q b) → (starts q ≡ true → kill ≡ true) → next_codes_in ss r m false starts kill first code v ≡ standing ss q starts kill b
  idle_next_in no_states q e b r m starts kill first code v h s k = absurd h
  idle_next_in (state x p ss) zero e b r m starts kill first code v h s k =
      both-lists _ _ _ _
      (ap (λ z. next_codes_within p r m false (starts 0) (z || kill) v) (off-some (state_fires false first code v x.transitions x.timeout) (dead_fires x.transitions x.timeout first code v)) ∙ idle_next_within p b r m (starts 0) kill v h.1 (segment_left m r (codes_within p b) (replicate (registers_in ss) 0) s) k)
      (off_next_in ss (r + registers_within p) m false (λ j. starts (suc j)) kill (first + counts_of x.timeout) code v (dead_stopped ss (first + counts_of x.timeout) code) (body_right p ss b m r h.1 s))
  idle_next_in (state x p ss) (suc q) e b r m starts kill first code v h s k =
      both-lists _ _ _ _
      (off_next_within p r m (starts 0) (some_fires (state_fires false first code v x.transitions x.timeout) || kill) v (segment_left m r (replicate (registers_within p) 0) (codes_in ss q b) s))
      (idle_next_in ss q e b (r + registers_within p) m (λ j. starts (suc j)) kill (first + counts_of x.timeout) code v h (state_right p ss q b m r s) k)

  idle_next_within : (p : Body) (b : Inner) (r : ℕ) (m : List ℕ) (start kill : Bool) (v : SignalSet) → IsOfBody p b → Segment m r (codes_within p b) → (start ≡ true → kill ≡ true) → next_codes_within p r m false start kill v ≡ after (codes_within p (initial_body p)) (replicate (registers_within p) 0) start kill (codes_within p b)
  idle_next_within no_body no_inner r m true kill v h s k = refl
  idle_next_within no_body no_inner r m false true v h s k = refl
  idle_next_within no_body no_inner r m false false v h s k = refl
  idle_next_within no_body (inner c) r m start kill v h s k = absurd h
  idle_next_within (body p) no_inner r m start kill v h s k = absurd h
  idle_next_within (body p) (inner c) r m start kill v h s k = idle_next p c r m start kill v h s k
