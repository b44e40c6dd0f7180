-- What is run goes on as it is settled.
use Rattle.std.proofs.Common.{◌≡◌, ℕ, zero, suc, ◌+◌, ◌<◌, ◌≤◌, List, ◌∷◌, ◌++◌, Bool, true, false, ◌&&◌, ◌||◌, not, refl, sym, ap, ◌∙◌, inl, inr, subst, arith, length, replicate}
use Rattle.std.specs.Prelude.{slice_index_or}
use Rattle.argos_base.specs.SignalSets.{SignalSet, has, lists}
use Rattle.argos_base.proofs.Bools.{true_or_false}
use Rattle.argos_core.specs.Automata.{counts_of, first_code, register_count, registers_of, registers_in, registers_within}
use Rattle.argos_core.specs.Codes.{code_of, codes_of, codes_in, codes_within}
use Rattle.argos_core.specs.Configurations.{IsConfiguration, AreOfParts, IsOfState, IsOfBody, initial_configuration, initial_parts, initial_body}
use Rattle.argos_core.specs.Process.{Process, automaton, parallel, local, freeze, Processes, no_processes, process, States, no_states, state, Body, no_body, body, Configuration, at, beside, Inner, no_inner, inner, Configurations, no_configurations, configuration}
use Rattle.argos_core.proofs.Agreement.{AllAgree, AgreeOf, AgreeIn, AgreeWithin}
use Rattle.argos_core.proofs.CodesDiffer.{below_counts, first_code-positive}
use Rattle.argos_core.proofs.StructuralFits.{Segment, segment_left, segment_tail, code_at}
use Rattle.eqn_scheme.specs.inner.Settled.{Outcome, leaves, counts, stays, outcome, outcome_in, own_emits, emits_at, emits_at_parts, emits_at_state, emits_at_body, next_at, next_at_parts, next_at_state, next_at_body, IsSettled, AreSettled, IsSettledState, IsSettledBody}
use Rattle.eqn_scheme.specs.Wired.{is_in, Fire, state_fires, state_ticks, fires_in, ticks_in, fires_emit, some_fires, next_register, starts_at, emits, emits_parts, emits_in, emits_within, next_codes, next_codes_parts, next_codes_in, next_codes_within, IsClosed, AreClosed, IsClosedIn, IsClosedWithin}
use Rattle.eqn_scheme.proofs.Firing.{AreDead, Show, dead_below, is_in-at, is_in-above, in_shows, state_shows, off-emit, off-some, or-false}
use Rattle.eqn_scheme.proofs.SetAlgebra.{both-or}
use Rattle.eqn_scheme.proofs.Starting.{after, standing}
use Rattle.eqn_scheme.proofs.WiredOff.{silent, silent_in, silent_within, closed_absent, closed_absent_in, closed_absent_within, absent_closed, absent_closed_in, absent_closed_within, off_next_in, off_next_within}
use Rattle.eqn_scheme.proofs.WiredIdle.{is_leaving, automaton_after, starts_killed, part_right, body_right, state_right, after_of_parts, idle_next}

both-lists : (a b c d : List ℕ) → a ≡ c → b ≡ d → a ++ b ≡ c ++ d
both-lists a b c d e f = ap (λ (x : List ℕ). x ++ b) e ∙ ap (λ (x : List ℕ). c ++ x) f

shows_emit : (n : ℕ) (fs : List Fire) (tick : Bool) (o : Outcome) (k : ℕ) → Show n fs tick o → k < n → fires_emit fs k ≡ own_emits o k
shows_emit n fs tick (leaves outs target) k h below = h.0 k below
shows_emit n fs tick counts k h below = off-emit fs k h.0
shows_emit n fs tick stays k h below = off-emit fs k h.0

shows_some : (n : ℕ) (fs : List Fire) (tick : Bool) (o : Outcome) → Show n fs tick o → some_fires fs ≡ is_leaving o
shows_some n fs tick (leaves outs target) h = h.2
shows_some n fs tick counts h = off-some fs h.0
shows_some n fs tick stays h = off-some fs h.0

-- the register's code, and which states are live
abbrev CodeIs : States → ℕ → ℕ → ℕ → ℕ → Type 0
CodeIs ss q e first code = (1 ≤ first) × (code + 1 ≡ first + first_code ss q + e)

code_is : (ss : States) (q e : ℕ) (b : ℕ) (m : List ℕ) (r : ℕ) (codes : List ℕ) → Segment m r ((first_code ss q + e) ∷ codes) → CodeIs ss q e 1 (slice_index_or m r 0)
code_is ss q e b m r codes s = (omega arith, omega (arith, code_at m r (first_code ss q + e) codes s))

module _ (n : ℕ) (m : List ℕ) (v : SignalSet) (sized : length v ≡ n) where
  mutual
    pub on_emits : (p : Process) (c : Configuration) (r k : ℕ) → IsConfiguration p c → AllAgree n p → Segment m r (code_of p c) → k < n → emits p r m true v k ≡ emits_at p c v k
    on_emits (automaton ss q0) (at q e b) r k h a s below =
        let code = slice_index_or m r 0 in
        let c = code_is ss q e 0 m r (codes_in ss q b) s in
        both-or _ _ _ _ (shows_emit n (fires_in ss true 1 code v) (ticks_in ss true 1 code v) (outcome_in ss q e v) k (in_shows ss n q e b 1 code v sized a h c.0 c.1) below) (on_emits_in ss q e b (suc r) 1 code k h a c (segment_tail m r (first_code ss q + e) (codes_in ss q b) s) below)
    on_emits (automaton ss q0) (beside cs) r k h a s below = absurd h
    on_emits (parallel ps) (at q e b) r k h a s below = absurd h
    on_emits (parallel ps) (beside cs) r k h a s below = on_emits_of ps cs r k h a s below
    on_emits (local list p) c r k h a s below = ap (λ b. b && not (lists list k)) (on_emits p c r k h a s below)
    on_emits (freeze w p) c r k h a s below = elim (true_or_false (has v w)) [
      | inl y ↦ rw y (silent p r m v k)
      | inr y ↦ rw y (on_emits p c r k h a s below)
    ]

    on_emits_of : (ps : Processes) (cs : Configurations) (r k : ℕ) → AreOfParts ps cs → AgreeOf n ps → Segment m r (codes_of ps cs) → k < n → emits_parts ps r m true v k ≡ emits_at_parts ps cs v k
    on_emits_of no_processes no_configurations r k h a s below = refl
    on_emits_of no_processes (configuration c cs) r k h a s below = absurd h
    on_emits_of (process p ps) no_configurations r k h a s below = absurd h
    on_emits_of (process p ps) (configuration c cs) r k h a s below =
        both-or _ _ _ _ (on_emits p c r k h.0 a.0 (segment_left m r (code_of p c) (codes_of ps cs) s) below) (on_emits_of ps cs (r + register_count p) k h.1 a.1 (part_right p ps c cs m r h.0 s) below)

    on_emits_in : (ss : States) (q e : ℕ) (b : Inner) (r first code k : ℕ) → IsOfState ss q e b → AgreeIn n ss → CodeIs ss q e first code → Segment m r (codes_in ss q b) → k < n → emits_in ss r m true first code v k ≡ emits_at_state ss q b v k
    on_emits_in no_states q e b r first code k h a c s below = absurd h
    on_emits_in (state x p ss) zero e b r first code k h a c s below =
        let live : is_in first x.timeout code ≡ true = is_in-at first x.timeout code (omega (arith, c.1)) (omega (arith, c.1, below_counts x.timeout e h.0)) in
        let dead : AreDead ss true (first + counts_of x.timeout) code = dead_below ss true (first + counts_of x.timeout) code (omega (arith, c.1, below_counts x.timeout e h.0)) in
        both-or _ _ _ _ (ap (λ z. emits_within p r m z v k) live ∙ on_emits_within p b r k h.1 a.1 (segment_left m r (codes_within p b) (replicate (registers_in ss) 0) s) below) (silent_in ss (r + registers_within p) m true (first + counts_of x.timeout) code v k dead)
        ∙ or-false (emits_at_body p b v k)
    on_emits_in (state x p ss) (suc q) e b r first code k h a c s below =
        let dead : is_in first x.timeout code ≡ false = is_in-above first x.timeout code c.0 (omega (arith, c.1, first_code-positive ss q)) in
        both-or _ _ _ _ (ap (λ z. emits_within p r m z v k) dead ∙ silent_within p r m v k) (on_emits_in ss q e b (r + registers_within p) (first + counts_of x.timeout) code k h a.2 (omega (arith, c.0), omega (arith, c.1)) (state_right p ss q b m r s) below)

    on_emits_within : (p : Body) (b : Inner) (r k : ℕ) → IsOfBody p b → AgreeWithin n p → Segment m r (codes_within p b) → k < n → emits_within p r m true v k ≡ emits_at_body p b v k
    on_emits_within no_body no_inner r k h a s below = refl
    on_emits_within no_body (inner c) r k h a s below = absurd h
    on_emits_within (body p) no_inner r k h a s below = absurd h
    on_emits_within (body p) (inner c) r k h a s below = on_emits p c r k h a s below

  -- closed valuations are settled
  mutual
    pub closed_settled : (p : Process) (c : Configuration) (r : ℕ) → IsConfiguration p c → AllAgree n p → Segment m r (code_of p c) → IsClosed n p r m true v → IsSettled n p c v
    closed_settled (automaton ss q0) (at q e b) r h a s x = closed_settled_in ss q e b (suc r) 1 (slice_index_or m r 0) h a (code_is ss q e 0 m r (codes_in ss q b) s) (segment_tail m r (first_code ss q + e) (codes_in ss q b) s) x
    closed_settled (automaton ss q0) (beside cs) r h a s x = absurd h
    closed_settled (parallel ps) (at q e b) r h a s x = absurd h
    closed_settled (parallel ps) (beside cs) r h a s x = closed_settled_of ps cs r h a s x
    closed_settled (local list p) c r h a s x = ((λ k below l. x.0 k below l ∙ on_emits p c r k h a s below), closed_settled p c r h a s x.1)
    closed_settled (freeze w p) c r h a s x = (
      (λ y. closed_absent p n r m v (subst (λ z. IsClosed n p r m (not z) v) y x)),
      (λ y. closed_settled p c r h a s (subst (λ z. IsClosed n p r m (not z) v) y x)),
    )

    closed_settled_of : (ps : Processes) (cs : Configurations) (r : ℕ) → AreOfParts ps cs → AgreeOf n ps → Segment m r (codes_of ps cs) → AreClosed n ps r m true v → AreSettled n ps cs v
    closed_settled_of no_processes no_configurations r h a s x = tt
    closed_settled_of no_processes (configuration c cs) r h a s x = absurd h
    closed_settled_of (process p ps) no_configurations r h a s x = absurd h
    closed_settled_of (process p ps) (configuration c cs) r h a s x = (closed_settled p c r h.0 a.0 (segment_left m r (code_of p c) (codes_of ps cs) s) x.0, closed_settled_of ps cs (r + register_count p) h.1 a.1 (part_right p ps c cs m r h.0 s) x.1)

    closed_settled_in : (ss : States) (q e : ℕ) (b : Inner) (r first code : ℕ) → IsOfState ss q e b → AgreeIn n ss → CodeIs ss q e first code → Segment m r (codes_in ss q b) → IsClosedIn n ss r m true first code v → IsSettledState n ss q b v
    closed_settled_in no_states q e b r first code h a c s x = absurd h
    closed_settled_in (state w p ss) zero e b r first code h a c s x =
        let live : is_in first w.timeout code ≡ true = is_in-at first w.timeout code (omega (arith, c.1)) (omega (arith, c.1, below_counts w.timeout e h.0)) in
        let dead : AreDead ss true (first + counts_of w.timeout) code = dead_below ss true (first + counts_of w.timeout) code (omega (arith, c.1, below_counts w.timeout e h.0)) in
        (closed_settled_within p b r h.1 a.1 (segment_left m r (codes_within p b) (replicate (registers_in ss) 0) s) (subst (λ z. IsClosedWithin n p r m z v) live x.0), closed_absent_in ss n (r + registers_within p) m true (first + counts_of w.timeout) code v dead x.1)
    closed_settled_in (state w p ss) (suc q) e b r first code h a c s x =
        let dead : is_in first w.timeout code ≡ false = is_in-above first w.timeout code c.0 (omega (arith, c.1, first_code-positive ss q)) in
        (closed_absent_within p n r m v (subst (λ z. IsClosedWithin n p r m z v) dead x.0), closed_settled_in ss q e b (r + registers_within p) (first + counts_of w.timeout) code h a.2 (omega (arith, c.0), omega (arith, c.1)) (state_right p ss q b m r s) x.1)

    closed_settled_within : (p : Body) (b : Inner) (r : ℕ) → IsOfBody p b → AgreeWithin n p → Segment m r (codes_within p b) → IsClosedWithin n p r m true v → IsSettledBody n p b v
    closed_settled_within no_body no_inner r h a s x = tt
    closed_settled_within no_body (inner c) r h a s x = absurd h
    closed_settled_within (body p) no_inner r h a s x = absurd h
    closed_settled_within (body p) (inner c) r h a s x = closed_settled p c r h a s x

  -- and settled ones are closed
  mutual
    pub settled_closed : (p : Process) (c : Configuration) (r : ℕ) → IsConfiguration p c → AllAgree n p → Segment m r (code_of p c) → IsSettled n p c v → IsClosed n p r m true v
    settled_closed (automaton ss q0) (at q e b) r h a s x = settled_closed_in ss q e b (suc r) 1 (slice_index_or m r 0) h a (code_is ss q e 0 m r (codes_in ss q b) s) (segment_tail m r (first_code ss q + e) (codes_in ss q b) s) x
    settled_closed (automaton ss q0) (beside cs) r h a s x = absurd h
    settled_closed (parallel ps) (at q e b) r h a s x = absurd h
    settled_closed (parallel ps) (beside cs) r h a s x = settled_closed_of ps cs r h a s x
    settled_closed (local list p) c r h a s x = ((λ k below l. x.0 k below l ∙ sym (on_emits p c r k h a s below)), settled_closed p c r h a s x.1)
    settled_closed (freeze w p) c r h a s x = elim (true_or_false (has v w)) [
      | inl y ↦ subst (λ z. IsClosed n p r m (not z) v) (sym y) (absent_closed p n r m v (x.0 y))
      | inr y ↦ subst (λ z. IsClosed n p r m (not z) v) (sym y) (settled_closed p c r h a s (x.1 y))
    ]

    settled_closed_of : (ps : Processes) (cs : Configurations) (r : ℕ) → AreOfParts ps cs → AgreeOf n ps → Segment m r (codes_of ps cs) → AreSettled n ps cs v → AreClosed n ps r m true v
    settled_closed_of no_processes no_configurations r h a s x = tt
    settled_closed_of no_processes (configuration c cs) r h a s x = absurd h
    settled_closed_of (process p ps) no_configurations r h a s x = absurd h
    settled_closed_of (process p ps) (configuration c cs) r h a s x = (settled_closed p c r h.0 a.0 (segment_left m r (code_of p c) (codes_of ps cs) s) x.0, settled_closed_of ps cs (r + register_count p) h.1 a.1 (part_right p ps c cs m r h.0 s) x.1)

    settled_closed_in : (ss : States) (q e : ℕ) (b : Inner) (r first code : ℕ) → IsOfState ss q e b → AgreeIn n ss → CodeIs ss q e first code → Segment m r (codes_in ss q b) → IsSettledState n ss q b v → IsClosedIn n ss r m true first code v
    settled_closed_in no_states q e b r first code h a c s x = absurd h
    settled_closed_in (state w p ss) zero e b r first code h a c s x =
        let live : is_in first w.timeout code ≡ true = is_in-at first w.timeout code (omega (arith, c.1)) (omega (arith, c.1, below_counts w.timeout e h.0)) in
        let dead : AreDead ss true (first + counts_of w.timeout) code = dead_below ss true (first + counts_of w.timeout) code (omega (arith, c.1, below_counts w.timeout e h.0)) in
        (subst (λ z. IsClosedWithin n p r m z v) (sym live) (settled_closed_within p b r h.1 a.1 (segment_left m r (codes_within p b) (replicate (registers_in ss) 0) s) x.0), absent_closed_in ss n (r + registers_within p) m true (first + counts_of w.timeout) code v dead x.1)
    settled_closed_in (state w p ss) (suc q) e b r first code h a c s x =
        let dead : is_in first w.timeout code ≡ false = is_in-above first w.timeout code c.0 (omega (arith, c.1, first_code-positive ss q)) in
        (subst (λ z. IsClosedWithin n p r m z v) (sym dead) (absent_closed_within p n r m v x.0), settled_closed_in ss q e b (r + registers_within p) (first + counts_of w.timeout) code h a.2 (omega (arith, c.0), omega (arith, c.1)) (state_right p ss q b m r s) x.1)

    settled_closed_within : (p : Body) (b : Inner) (r : ℕ) → IsOfBody p b → AgreeWithin n p → Segment m r (codes_within p b) → IsSettledBody n p b v → IsClosedWithin n p r m true v
    settled_closed_within no_body no_inner r h a s x = tt
    settled_closed_within no_body (inner c) r h a s x = absurd h
    settled_closed_within (body p) no_inner r h a s x = absurd h
    settled_closed_within (body p) (inner c) r h a s x = settled_closed p c r h a s x

  -- the next codes are those of the next configuration
  mutual
    pub on_next : (p : Process) (c : Configuration) (r : ℕ) (start kill : Bool) → IsConfiguration p c → AllAgree n p → Segment m r (code_of p c) → (start ≡ true → kill ≡ true) → next_codes p r m true start kill v ≡ after (code_of p (initial_configuration p)) (replicate (register_count p) 0) start kill (code_of p (next_at p c v))
    on_next (automaton ss q0) (at q e b) r start kill h a s k =
        let code = slice_index_or m r 0 in
        let fires = fires_in ss true 1 code v in
        let tick = ticks_in ss true 1 code v in
        let c = code_is ss q e 0 m r (codes_in ss q b) s in
        let shows : Show n fires tick (outcome_in ss q e v) = in_shows ss n q e b 1 code v sized a h c.0 c.1 in
        ap (λ (l : List ℕ). next_register ss q0 start kill fires tick code ∷ l) (on_next_in ss q e b (suc r) (starts_at q0 start kill fires) kill 1 code h a c (segment_tail m r (first_code ss q + e) (codes_in ss q b) s) (starts_killed n q0 q start kill fires tick (outcome_in ss q e v) shows k))
        ∙ automaton_after ss q0 q e n start kill fires tick code (outcome_in ss q e v) (next_at_state ss q b v) shows (code_at m r (first_code ss q + e) (codes_in ss q b) s) k
    on_next (automaton ss q0) (beside cs) r start kill h a s k = absurd h
    on_next (parallel ps) (at q e b) r start kill h a s k = absurd h
    on_next (parallel ps) (beside cs) r start kill h a s k = on_next_of ps cs r start kill h a s k
    on_next (local list p) c r start kill h a s k = on_next p c r start kill h a s k
    on_next (freeze w p) c r start kill h a s k = elim (true_or_false (has v w)) [
      | inl y ↦ rw y (idle_next p c r m start kill v h s k)
      | inr y ↦ rw y (on_next p c r start kill h a s k)
    ]

    on_next_of : (ps : Processes) (cs : Configurations) (r : ℕ) (start kill : Bool) → AreOfParts ps cs → AgreeOf n ps → Segment m r (codes_of ps cs) → (start ≡ true → kill ≡ true) → next_codes_parts ps r m true start kill v ≡ after (codes_of ps (initial_parts ps)) (replicate (registers_of ps) 0) start kill (codes_of ps (next_at_parts ps cs v))
    on_next_of no_processes no_configurations r true kill h a s k = refl
    on_next_of no_processes no_configurations r false true h a s k = refl
    on_next_of no_processes no_configurations r false false h a s k = refl
    on_next_of no_processes (configuration c cs) r start kill h a s k = absurd h
    on_next_of (process p ps) no_configurations r start kill h a s k = absurd h
    on_next_of (process p ps) (configuration c cs) r start kill h a s k =
        both-lists _ _ _ _ (on_next p c r start kill h.0 a.0 (segment_left m r (code_of p c) (codes_of ps cs) s) k) (on_next_of ps cs (r + register_count p) start kill h.1 a.1 (part_right p ps c cs m r h.0 s) k)
        ∙ after_of_parts p ps start kill (code_of p (next_at p c v)) (codes_of ps (next_at_parts ps cs v))

    on_next_in : (ss : States) (q e : ℕ) (b : Inner) (r : ℕ) (starts : ℕ → Bool) (kill : Bool) (first code : ℕ) → IsOfState ss q e b → AgreeIn n ss → CodeIs ss q e first code → Segment m r (codes_in ss q b) → (starts q ≡ true → (is_leaving (outcome_in ss q e v) || kill) ≡ true)
        → next_codes_in ss r m true starts kill first code v ≡ standing ss q starts (is_leaving (outcome_in ss q e v) || kill) (next_at_state ss q b v)
    on_next_in no_states q e b r starts kill first code h a c s k = absurd h
    on_next_in (state x p ss) zero e b r starts kill first code h a c s k =
        let live : is_in first x.timeout code ≡ true = is_in-at first x.timeout code (omega (arith, c.1)) (omega (arith, c.1, below_counts x.timeout e h.0)) in
        let dead : AreDead ss true (first + counts_of x.timeout) code = dead_below ss true (first + counts_of x.timeout) code (omega (arith, c.1, below_counts x.timeout e h.0)) in
        let some : some_fires (state_fires true first code v x.transitions x.timeout) ≡ is_leaving (outcome x.transitions x.timeout e v) = shows_some n (state_fires true first code v x.transitions x.timeout) (state_ticks true first code v x.transitions x.timeout) (outcome x.transitions x.timeout e v) (state_shows n x.transitions x.timeout e first code v sized a.0 h.0 (omega (arith, c.1))) in
        both-lists _ _ _ _
        (ap (λ z. next_codes_within p r m z (starts 0) (some_fires (state_fires z first code v x.transitions x.timeout) || kill) v) live ∙ ap (λ z. next_codes_within p r m true (starts 0) (z || kill) v) some ∙ on_next_within p b r (starts 0) (is_leaving (outcome x.transitions x.timeout e v) || kill) h.1 a.1 (segment_left m r (codes_within p b) (replicate (registers_in ss) 0) s) k)
        (off_next_in ss (r + registers_within p) m true (λ j. starts (suc j)) kill (first + counts_of x.timeout) code v dead (body_right p ss b m r h.1 s))
    on_next_in (state x p ss) (suc q) e b r starts kill first code h a c s k =
        let dead : is_in first x.timeout code ≡ false = is_in-above first x.timeout code c.0 (omega (arith, c.1, first_code-positive ss q)) in
        both-lists _ _ _ _
        (ap (λ z. next_codes_within p r m z (starts 0) (some_fires (state_fires z first code v x.transitions x.timeout) || kill) v) dead ∙ off_next_within p r m (starts 0) (some_fires (state_fires false first code v x.transitions x.timeout) || kill) v (segment_left m r (replicate (registers_within p) 0) (codes_in ss q b) s))
        (on_next_in ss q e b (r + registers_within p) (λ j. starts (suc j)) kill (first + counts_of x.timeout) code h a.2 (omega (arith, c.0), omega (arith, c.1)) (state_right p ss q b m r s) k)

    on_next_within : (p : Body) (b : Inner) (r : ℕ) (start kill : Bool) → IsOfBody p b → AgreeWithin n p → Segment m r (codes_within p b) → (start ≡ true → kill ≡ true) → next_codes_within p r m true start kill v ≡ after (codes_within p (initial_body p)) (replicate (registers_within p) 0) start kill (codes_within p (next_at_body p b v))
    on_next_within no_body no_inner r true kill h a s k = refl
    on_next_within no_body no_inner r false true h a s k = refl
    on_next_within no_body no_inner r false false h a s k = refl
    on_next_within no_body (inner c) r start kill h a s k = absurd h
    on_next_within (body p) no_inner r start kill h a s k = absurd h
    on_next_within (body p) (inner c) r start kill h a s k = on_next p c r start kill h a s k
