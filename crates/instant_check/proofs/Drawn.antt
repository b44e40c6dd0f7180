-- The diagrams of a state's guards, one transition after the other.
use Rattle.std.proofs.Common.{◌≡◌, ℕ, zero, suc, ◌+◌, ◌-◌, ◌*◌, ◌<◌, ◌≤◌, List, [], ◌∷◌, ◌++◌, Option, Some, map, length, length-append, get_or, drop, slice_get, refl, sym, ap, ◌∙◌, subst, arith, inl, inr, ◌⊎◌}
use Rattle.std.proofs.lemmas.List.{length-map, at_drop_more}
use Rattle.std.proofs.lemmas.Option.{slice_get_within}
use Rattle.dd_core.specs.declared.nodes.NodeId.{NodeId}
use Rattle.dd_core.specs.Arenas.{ArenaView, IsArena, AddsAtMost}
use Rattle.dd_core.proofs.Lists.{slice_get-push_cases}
use Rattle.argos_base.proofs.Bools.{or_left, or_right}
use Rattle.argos_core.specs.Guards.{holds, reads}
use Rattle.argos_core.specs.Overlaps.{some_reads}
use Rattle.argos_core.specs.Process.{Transition}
use Rattle.argos_core.specs.Sizes.{guard_size, transitions_size}
use Rattle.argos_core.specs.Views.{guard_of, transition_of}
use Rattle.argos_core.specs.declared.prog.Trans.{Trans}
use Rattle.instant_check.specs.Telling.{DenotesTest, AreAmong}
use Rattle.instant_check.specs.inner.Meeting.{AreGuards}
use Rattle.instant_check.proofs.Adding.{adds_nothing, adds_in_turn, adds_fewer}
use Rattle.instant_check.proofs.Meetings.{transition_here}
use Rattle.instant_check.proofs.TestDiagrams.{one_node, test_later}

-- the first i transitions have their nodes, made by so many operations
pub record DrawnUpTo (old new : ArenaView) (signals : List ℕ) (ts : List Trans) (i : ℕ) (nodes : List NodeId) : Type 0 where
  pub sized : length nodes ≡ i
  pub spent : ℕ
  pub adds : AddsAtMost spent old new
  pub bound : spent + 2 * transitions_size (map transition_of (drop i ts)) ≤ 2 * transitions_size (map transition_of ts)
  pub each : (k : ℕ) (f : NodeId) (t : Transition) → slice_get nodes k ≡ Some f → slice_get (map transition_of ts) k ≡ Some t → DenotesTest new f.0 signals (holds t.guard)

pub drawn_none : (arena : ArenaView) (signals : List ℕ) (ts : List Trans) → IsArena arena → DrawnUpTo arena arena signals ts 0 []
drawn_none arena signals ts valid = record { sized = refl; spent = 0; adds = adds_nothing 0 arena valid; bound = omega arith; each = λ k f t at_f at_t. absurd (let b : k < 0 = slice_get_within [] k f at_f in omega arith) }

size-drop : (ts : List Trans) (i : ℕ) (t : Trans) → i < length ts → t ≡ get_or ts i t → transitions_size (map transition_of (drop i ts)) ≡ 1 + guard_size (guard_of t.guard) + length (transition_of t).outs + transitions_size (map transition_of (drop (i + 1) ts))
size-drop ts i t below is =
    at_drop_more (λ us. transitions_size (map transition_of us)) ts i t below
    ∙ ap (λ (u : Trans). 1 + guard_size (guard_of u.guard) + length (transition_of u).outs + transitions_size (map transition_of (drop (i + 1) ts))) (sym is)

-- what a call for the next guard adds stays within the whole
pub drawn_fails : {a b c : ArenaView} {signals : List ℕ} {nodes : List NodeId} (ts : List Trans) (i : ℕ) (t : Trans) → DrawnUpTo a b signals ts i nodes → i < length ts → t ≡ get_or ts i t → AddsAtMost (2 * guard_size (guard_of t.guard) - 1) b c → AddsAtMost (2 * transitions_size (map transition_of ts)) a c
drawn_fails ts i t drawn below is adds =
    let size = size-drop ts i t below is in
    let bound = drawn.bound in
    adds_in_turn drawn.spent (2 * guard_size (guard_of t.guard) - 1) (2 * transitions_size (map transition_of ts)) (omega (arith, size, bound)) drawn.adds adds

pub drawn_more : {a b c : ArenaView} {signals : List ℕ} {nodes : List NodeId} (ts : List Trans) (i : ℕ) (t : Trans) (f : NodeId) → length signals ≡ a.variables → DrawnUpTo a b signals ts i nodes → i < length ts → t ≡ get_or ts i t → AddsAtMost (2 * guard_size (guard_of t.guard) - 1) b c → DenotesTest c f.0 signals (holds (guard_of t.guard)) → DrawnUpTo a c signals ts (i + 1) (nodes ++ f ∷ [])
drawn_more {a} {b} {c} {signals} {nodes} ts i t f sized drawn below is adds denotes =
    let size = size-drop ts i t below is in
    let bound = drawn.bound in
    let one = one_node (guard_of t.guard) in
    record {
      sized = length-append nodes (f ∷ []) ∙ ap (λ (n : ℕ). n + 1) drawn.sized;
      spent = drawn.spent + (2 * guard_size (guard_of t.guard) - 1);
      adds = adds_in_turn drawn.spent (2 * guard_size (guard_of t.guard) - 1) (drawn.spent + (2 * guard_size (guard_of t.guard) - 1)) (omega arith) drawn.adds adds;
      bound = omega (arith, size, bound, one);
      each = λ k g u at_g at_u. at k g u at_u (slice_get-push_cases nodes f k g at_g);
    }
  where
    at : (k : ℕ) (g : NodeId) (u : Transition) → slice_get (map transition_of ts) k ≡ Some u → (slice_get nodes k ≡ Some g) ⊎ ((k ≡ length nodes) × (f ≡ g)) → DenotesTest c g.0 signals (holds u.guard)
    at k g u at_u (inl before) = test_later (sized ∙ sym drawn.adds.keeps.variables) adds.keeps (drawn.each k g u before at_u)
    at k g u at_u (inr last) =
        let here : slice_get (map transition_of ts) k ≡ Some (transition_of t) = ap (slice_get (map transition_of ts)) (last.0 ∙ drawn.sized) ∙ transition_here ts i t below is in
        let same : transition_of t ≡ u = one_transition (sym here ∙ at_u) in
        subst (λ (z : Transition). DenotesTest c g.0 signals (holds z.guard)) same (subst (λ (h : NodeId). DenotesTest c h.0 signals (holds (guard_of t.guard))) last.1 denotes)
      where
        one_transition : {v w : Transition} → ◌≡◌ {A = Option Transition} (Some v) (Some w) → v ≡ w
        one_transition e = cc

pub drawn_all : {a b : ArenaView} {signals : List ℕ} {nodes : List NodeId} (ts : List Trans) (i : ℕ) → DrawnUpTo a b signals ts i nodes → i ≡ length ts → AreGuards b signals (map transition_of ts) nodes
drawn_all ts i drawn all = record { sized = drawn.sized ∙ all ∙ sym (length-map ts transition_of); each = drawn.each }

pub drawn_adds : {a b : ArenaView} {signals : List ℕ} {nodes : List NodeId} (ts : List Trans) (i : ℕ) → DrawnUpTo a b signals ts i nodes → AddsAtMost (2 * transitions_size (map transition_of ts)) a b
drawn_adds ts i drawn = adds_fewer drawn.spent (2 * transitions_size (map transition_of ts)) (let bound = drawn.bound in omega (arith, bound)) drawn.adds

-- what a guard reads is among the signals
pub transition_reads : (ts : List Trans) (i : ℕ) (t : Trans) (signals : List ℕ) → i < length ts → t ≡ get_or ts i t → AreAmong (some_reads (map transition_of ts)) signals → AreAmong (reads (guard_of t.guard)) signals
transition_reads [] i t signals below is among k h = absurd (omega arith)
transition_reads (u ∷ ts) zero t signals below is among k h = among k (or_left (reads (guard_of u.guard) k) (some_reads (map transition_of ts) k) (ap (λ (z : Trans). reads (guard_of z.guard) k) (sym is) ∙ h))
transition_reads (u ∷ ts) (suc i) t signals below is among k h = transition_reads ts i t signals (omega arith) is (λ j r. among j (or_right (reads (guard_of u.guard) j) (some_reads (map transition_of ts) j) r)) k h
