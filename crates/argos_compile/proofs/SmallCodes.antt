-- The codes of a configuration have 16 bits.
use Rattle.std.proofs.Common.{◌≡◌, ℕ, zero, suc, ◌+◌, ◌<◌, ◌≤◌, List, [], ◌∷◌, ◌++◌, Bool, true, false, ◌&&◌, Option, Some, None, replicate, nat_lt, refl, arith}
use Rattle.std.proofs.lemmas.Bool.Decides.{nat_tests}
use Rattle.argos_base.proofs.Bools.{and_both}
use Rattle.argos_core.specs.Automata.{code_count, counts_of, first_code, registers_in, registers_within}
use Rattle.argos_core.specs.Codes.{code_of, codes_of, codes_in, codes_within}
use Rattle.argos_core.specs.Configurations.{IsElapsed, IsConfiguration, AreOfParts, IsOfState, IsOfBody}
use Rattle.argos_core.specs.Modules.{IsShaped, AreShapedParts, AreShapedStates, IsShapedBody}
use Rattle.argos_core.specs.Process.{Timeout, Process, automaton, parallel, local, freeze, Processes, no_processes, process, States, no_states, state, Body, no_body, body, Configuration, at, beside, Inner, no_inner, inner, Configurations, no_configurations, configuration}
use Rattle.eqn_core.specs.Ordered.{all_below}

all_joined : (n : ℕ) (xs ys : List ℕ) → all_below n xs ≡ true → all_below n ys ≡ true → all_below n (xs ++ ys) ≡ true
all_joined n [] ys h k = k
all_joined n (x ∷ xs) ys h k = and_both _ _ (first (nat_lt x n) _ h) (all_joined n xs ys (rest (nat_lt x n) _ h) k)
  where
    first : (a b : Bool) → (a && b) ≡ true → a ≡ true
    first true b e = refl
    first false b e = e

    rest : (a b : Bool) → (a && b) ≡ true → b ≡ true
    rest true b e = e
    rest false b e = cc

all_zero : (n k : ℕ) → 0 < n → all_below n (replicate k 0) ≡ true
all_zero n zero h = refl
all_zero n (suc k) h = and_both _ _ (let t : nat_lt 0 n ≡ true = grind (arith, nat_tests) in t) (all_zero n k h)

elapsed_bound : (t : Option Timeout) (e : ℕ) → IsElapsed t e → e < counts_of t
elapsed_bound None e h = omega arith
elapsed_bound (Some w) e h = h

code_bound : (ss : States) (q e : ℕ) (b : Inner) → IsOfState ss q e b → first_code ss q + e ≤ code_count ss
code_bound no_states q e b h = absurd h
code_bound (state s p ss) zero e b h = let l = elapsed_bound s.timeout e h.0 in omega (arith, l)
code_bound (state s p ss) (suc q) e b h = let l = code_bound ss q e b h in omega (arith, l)

below : (x : ℕ) → x ≤ 65535 → nat_lt x 65536 ≡ true
below x h = grind (arith, nat_tests)

mutual
  pub codes_small : (p : Process) (c : Configuration) → IsShaped p → IsConfiguration p c → all_below 65536 (code_of p c) ≡ true
  codes_small (automaton ss q0) (at q e b) h is = let l = code_bound ss q e b is in let m = h.1 in and_both _ _ (below (first_code ss q + e) (omega arith)) (inside_small ss q e b _ h.2 is)
  codes_small (automaton ss q0) (beside cs) h is = absurd is
  codes_small (parallel ps) (at q e b) h is = absurd is
  codes_small (parallel ps) (beside cs) h is = parts_small ps cs h.1 is
  codes_small (local list p) c h is = codes_small p c h is
  codes_small (freeze s p) c h is = codes_small p c h is

  parts_small : (ps : Processes) (cs : Configurations) → AreShapedParts ps → AreOfParts ps cs → all_below 65536 (codes_of ps cs) ≡ true
  parts_small no_processes cs h is = refl
  parts_small (process p ps) no_configurations h is = absurd is
  parts_small (process p ps) (configuration c cs) h is = all_joined 65536 (code_of p c) (codes_of ps cs) (codes_small p c h.0 is.0) (parts_small ps cs h.1 is.1)

  inside_small : (ss : States) (q e : ℕ) (b : Inner) (n : ℕ) → AreShapedStates n ss → IsOfState ss q e b → all_below 65536 (codes_in ss q b) ≡ true
  inside_small no_states q e b n h is = absurd is
  inside_small (state s p ss) zero e b n h is = all_joined 65536 (codes_within p b) (replicate (registers_in ss) 0) (body_small p b h.2 is.1) (all_zero 65536 (registers_in ss) (omega arith))
  inside_small (state s p ss) (suc q) e b n h is = all_joined 65536 (replicate (registers_within p) 0) (codes_in ss q b) (all_zero 65536 (registers_within p) (omega arith)) (inside_small ss q e b n h.3 is)

  body_small : (p : Body) (b : Inner) → IsShapedBody p → IsOfBody p b → all_below 65536 (codes_within p b) ≡ true
  body_small no_body b h is = refl
  body_small (body p) no_inner h is = absurd is
  body_small (body p) (inner c) h is = codes_small p c h is
