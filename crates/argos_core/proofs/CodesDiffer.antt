-- Distinct configurations have distinct codes.
use Rattle.std.proofs.Common.{◌≡◌, ℕ, zero, suc, ◌+◌, ◌<◌, ◌≤◌, List, [], ◌∷◌, ◌++◌, Option, Some, None, refl, sym, ap, ◌∙◌, arith, length, replicate, length-append}
use Rattle.std.proofs.lemmas.List.{length-replicate}
use Rattle.argos_core.specs.Automata.{counts_of, first_code, register_count, registers_of, registers_in, registers_within}
use Rattle.argos_core.specs.Codes.{code_of, codes_of, codes_in, codes_within}
use Rattle.argos_core.specs.Configurations.{IsElapsed, IsConfiguration, AreOfParts, IsOfState, IsOfBody}
use Rattle.argos_core.specs.Process.{Timeout, Process, automaton, parallel, local, freeze, Processes, no_processes, process, States, no_states, state, Body, no_body, body, Configuration, at, beside, Inner, no_inner, inner, Configurations, no_configurations, configuration}

-- a code has one number for each register
mutual
  pub length-code_of : (p : Process) (c : Configuration) → IsConfiguration p c → length (code_of p c) ≡ register_count p
  length-code_of (automaton ss q0) (at q e b) h = ap suc (length-codes_in ss q e b h)
  length-code_of (automaton ss q0) (beside cs) h = absurd h
  length-code_of (parallel ps) (at q e b) h = absurd h
  length-code_of (parallel ps) (beside cs) h = length-codes_of ps cs h
  length-code_of (local list p) c h = length-code_of p c h
  length-code_of (freeze s p) c h = length-code_of p c h

  length-codes_of : (ps : Processes) (cs : Configurations) → AreOfParts ps cs → length (codes_of ps cs) ≡ registers_of ps
  length-codes_of no_processes cs h = refl
  length-codes_of (process p ps) no_configurations h = absurd h
  length-codes_of (process p ps) (configuration c cs) h =
      let x = length-code_of p c h.0 in
      let y = length-codes_of ps cs h.1 in
      omega (arith, length-append (code_of p c) (codes_of ps cs))

  length-codes_in : (ss : States) (q e : ℕ) (b : Inner) → IsOfState ss q e b → length (codes_in ss q b) ≡ registers_in ss
  length-codes_in no_states q e b h = absurd h
  length-codes_in (state s p ss) zero e b h =
      let x = length-codes_within p b h.1 in
      omega (arith, length-replicate {A = ℕ} (registers_in ss) 0, length-append (codes_within p b) (replicate (registers_in ss) 0))
  length-codes_in (state s p ss) (suc q) e b h =
      let y = length-codes_in ss q e b h in
      omega (arith, length-replicate {A = ℕ} (registers_within p) 0, length-append (replicate (registers_within p) 0) (codes_in ss q b))

  pub length-codes_within : (p : Body) (b : Inner) → IsOfBody p b → length (codes_within p b) ≡ registers_within p
  length-codes_within no_body no_inner h = refl
  length-codes_within no_body (inner c) h = absurd h
  length-codes_within (body p) no_inner h = absurd h
  length-codes_within (body p) (inner c) h = length-code_of p c h

-- two appended lists that are equal have equal parts, where the first parts have one length
split : (a b c d : List ℕ) → length a ≡ length c → a ++ b ≡ c ++ d → (a ≡ c) × (b ≡ d)
split [] b [] d l e = (refl, e)
split [] b (x ∷ c) d l e = absurd (omega arith)
split (x ∷ a) b [] d l e = absurd (omega arith)
split (x ∷ a) b (y ∷ c) d l e =
    let h : x ≡ y = cc in
    let t : a ++ b ≡ c ++ d = cc in
    let r = split a b c d (omega arith) t in
    (cc, r.1)

pub elapsed_below : (w : Option Timeout) (e : ℕ) → e < counts_of w → IsElapsed w e
elapsed_below None e h = omega arith
elapsed_below (Some w) e h = h

pub below_counts : (w : Option Timeout) (e : ℕ) → IsElapsed w e → e < counts_of w
below_counts None e h = omega arith
below_counts (Some w) e h = h

-- no state has the code 0
pub first_code-positive : (ss : States) (q : ℕ) → 1 ≤ first_code ss q
first_code-positive no_states q = omega arith
first_code-positive (state s p ss) zero = omega arith
first_code-positive (state s p ss) (suc q) = omega (arith, first_code-positive ss q)

-- the current state and elapsed count are known from the code
state_known : (ss : States) (q r e f : ℕ) (b d : Inner) → IsOfState ss q e b → IsOfState ss r f d → first_code ss q + e ≡ first_code ss r + f → (q ≡ r) × (e ≡ f)
state_known no_states q r e f b d h k x = absurd h
state_known (state s p ss) zero zero e f b d h k x = (refl, omega arith)
state_known (state s p ss) zero (suc r) e f b d h k x =
    absurd (omega (arith, below_counts s.timeout e h.0, first_code-positive ss r))
state_known (state s p ss) (suc q) zero e f b d h k x =
    absurd (omega (arith, below_counts s.timeout f k.0, first_code-positive ss q))
state_known (state s p ss) (suc q) (suc r) e f b d h k x =
    let y = state_known ss q r e f b d h k (omega arith) in (ap suc y.0, y.1)

mutual
  pub same_code : (p : Process) (c d : Configuration) → IsConfiguration p c → IsConfiguration p d → code_of p c ≡ code_of p d → c ≡ d
  same_code (automaton ss q0) (at q e b) (at r f d) h k x =
      let y = state_known ss q r e f b d h k (head x) in
      let z : b ≡ d = same_bodies ss q e b d h (rw (y.0, y.1) k) (tail x ∙ ap (λ w. codes_in ss w d) (sym y.0)) in
      cc (y.0, y.1)
    where
      head : {u w : ℕ} {us ws : List ℕ} → u ∷ us ≡ w ∷ ws → u ≡ w
      head e = cc

      tail : {u w : ℕ} {us ws : List ℕ} → u ∷ us ≡ w ∷ ws → us ≡ ws
      tail e = cc
  same_code (automaton ss q0) (beside cs) d h k x = absurd h
  same_code (automaton ss q0) (at q e b) (beside ds) h k x = absurd k
  same_code (parallel ps) (at q e b) d h k x = absurd h
  same_code (parallel ps) (beside cs) (at q e b) h k x = absurd k
  same_code (parallel ps) (beside cs) (beside ds) h k x = ap beside (same_parts ps cs ds h k x)
  same_code (local list p) c d h k x = same_code p c d h k x
  same_code (freeze s p) c d h k x = same_code p c d h k x

  same_parts : (ps : Processes) (cs ds : Configurations) → AreOfParts ps cs → AreOfParts ps ds → codes_of ps cs ≡ codes_of ps ds → cs ≡ ds
  same_parts no_processes no_configurations no_configurations h k x = refl
  same_parts no_processes (configuration c cs) ds h k x = absurd h
  same_parts no_processes no_configurations (configuration d ds) h k x = absurd k
  same_parts (process p ps) no_configurations ds h k x = absurd h
  same_parts (process p ps) (configuration c cs) no_configurations h k x = absurd k
  same_parts (process p ps) (configuration c cs) (configuration d ds) h k x =
      let r = split (code_of p c) (codes_of ps cs) (code_of p d) (codes_of ps ds) (length-code_of p c h.0 ∙ sym (length-code_of p d k.0)) x in
      let y : c ≡ d = same_code p c d h.0 k.0 r.0 in
      let z : cs ≡ ds = same_parts ps cs ds h.1 k.1 r.1 in
      cc

  same_bodies : (ss : States) (q e : ℕ) (b d : Inner) → IsOfState ss q e b → IsOfState ss q e d → codes_in ss q b ≡ codes_in ss q d → b ≡ d
  same_bodies no_states q e b d h k x = absurd h
  same_bodies (state s p ss) zero e b d h k x =
      let r = split (codes_within p b) (replicate (registers_in ss) 0) (codes_within p d) (replicate (registers_in ss) 0) (length-codes_within p b h.1 ∙ sym (length-codes_within p d k.1)) x in
      same_body p b d h.1 k.1 r.0
  same_bodies (state s p ss) (suc q) e b d h k x =
      let r = split (replicate (registers_within p) 0) (codes_in ss q b) (replicate (registers_within p) 0) (codes_in ss q d) refl x in
      same_bodies ss q e b d h k r.1

  same_body : (p : Body) (b d : Inner) → IsOfBody p b → IsOfBody p d → codes_within p b ≡ codes_within p d → b ≡ d
  same_body no_body no_inner no_inner h k x = refl
  same_body no_body (inner c) d h k x = absurd h
  same_body no_body no_inner (inner d) h k x = absurd k
  same_body (body p) no_inner d h k x = absurd h
  same_body (body p) (inner c) no_inner h k x = absurd k
  same_body (body p) (inner c) (inner d) h k x = ap inner (same_code p c d h k x)
