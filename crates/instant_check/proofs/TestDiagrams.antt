-- Diagrams of tests: made by operations on the diagrams of others.
use Rattle.std.proofs.Common.{◌≡◌, ℕ, zero, suc, ◌+◌, ◌-◌, ◌*◌, ◌^◌, ◌<◌, ◌≤◌, List, [], ◌∷◌, Some, Bool, true, false, ◌&&◌, ◌||◌, not, map, length, get_or, drop, slice_get, refl, sym, ap, ◌∙◌, subst, arith, Result, Ok, Err, IfOk}
use Rattle.std.proofs.lemmas.List.{length-map}
use Rattle.dd_core.specs.declared.nodes.NodeId.{NodeId}
use Rattle.dd_core.specs.declared.errors.DdError.{DdError}
use Rattle.dd_core.specs.Functions.{Function, both, either, opposite, variable_value}
use Rattle.dd_core.specs.Arenas.{ArenaView, IsArena, function_of, Keeps, IsNodeOf, Makes, AddsAtMost}
use Rattle.dd_core.proofs.Making.{function_of-true, function_of-false}
use Rattle.dd_core.proofs.Walks.{held_constant}
use Rattle.argos_base.specs.declared.signals.SigId.{SigId}
use Rattle.argos_base.specs.SignalSets.{SignalSet, has}
use Rattle.argos_core.specs.Guards.{holds, every, some, reads, reads_some}
use Rattle.argos_core.specs.Process.{Guards, no_guards, guard}
use Rattle.argos_core.specs.Process as plain
use Rattle.argos_core.specs.Sizes.{guard_size, guards_size}
use Rattle.argos_core.specs.Views.{guard_of, guards_of, numbers}
use Rattle.argos_core.specs.declared.prog.Guard.{Guard}
use Rattle.argos_base.proofs.Bools.{or_left, or_right}
use Rattle.instant_check.specs.Telling.{DenotesTest, AreAmong}
use Rattle.instant_check.proofs.Adding.{adds_nothing, adds_in_turn, adds_fewer, adds_one}
use Rattle.instant_check.proofs.Places.{value-at}

abbrev pub Test : Type 0
Test = SignalSet → Bool

sized-values : (S : SignalSet) (signals : List ℕ) (v : ℕ) → length signals ≡ v → length (map (has S) signals) ≡ v
sized-values S signals v sized = length-map signals (has S) ∙ sized

pub test_later : {a b : ArenaView} {f : ℕ} {signals : List ℕ} {test : Test} → length signals ≡ a.variables → Keeps a b → DenotesTest a f signals test → DenotesTest b f signals test
test_later {a} {b} {f} {signals} sized keeps is = record {
  held = keeps.held f is.held;
  exact = λ S. keeps.denotes f is.held (map (has S) signals) (sized-values S signals a.variables sized) ∙ is.exact S;
}

-- what a call makes
pub test_made : {m : ℕ} {a b : ArenaView} {g : Function} {result : Result NodeId DdError} (signals : List ℕ) (test : Test) → length signals ≡ a.variables → Makes m a b g result → ((S : SignalSet) → g (map (has S) signals) ≡ test S) → IfOk result (λ f. DenotesTest b f.0 signals test)
test_made {m} {a} {b} {g} {result} signals test sized made same = of_result result made.node
  where
    of_result : (r : Result NodeId DdError) → IfOk r (λ f. IsNodeOf b g f.0) → IfOk r (λ f. DenotesTest b f.0 signals test)
    of_result (Ok f) is = record { held = is.held; exact = λ S. is.denotes (map (has S) signals) (sized-values S signals b.variables (sized ∙ sym made.keeps.variables)) ∙ same S }
    of_result (Err e) is = tt

pub test_both : {m : ℕ} {a b : ArenaView} {f g : ℕ} {result : Result NodeId DdError} {signals : List ℕ} {p q : Test} → length signals ≡ a.variables → DenotesTest a f signals p → DenotesTest a g signals q → Makes m a b (both (function_of a f) (function_of a g)) result → IfOk result (λ h. DenotesTest b h.0 signals (λ S. p S && q S))
test_both {m} {a} {b} {f} {g} {result} {signals} {p} {q} sized is_p is_q made = test_made signals (λ S. p S && q S) sized made (λ S. ap (λ (x : Bool). x && function_of a g (map (has S) signals)) (is_p.exact S) ∙ ap (λ (x : Bool). p S && x) (is_q.exact S))

pub test_either : {m : ℕ} {a b : ArenaView} {f g : ℕ} {result : Result NodeId DdError} {signals : List ℕ} {p q : Test} → length signals ≡ a.variables → DenotesTest a f signals p → DenotesTest a g signals q → Makes m a b (either (function_of a f) (function_of a g)) result → IfOk result (λ h. DenotesTest b h.0 signals (λ S. p S || q S))
test_either {m} {a} {b} {f} {g} {result} {signals} {p} {q} sized is_p is_q made = test_made signals (λ S. p S || q S) sized made (λ S. ap (λ (x : Bool). x || function_of a g (map (has S) signals)) (is_p.exact S) ∙ ap (λ (x : Bool). p S || x) (is_q.exact S))

pub test_opposite : {m : ℕ} {a b : ArenaView} {f : ℕ} {result : Result NodeId DdError} {signals : List ℕ} {p : Test} → length signals ≡ a.variables → DenotesTest a f signals p → Makes m a b (opposite (function_of a f)) result → IfOk result (λ h. DenotesTest b h.0 signals (λ S. not (p S)))
test_opposite {m} {a} {b} {f} {result} {signals} {p} sized is made = test_made signals (λ S. not (p S)) sized made (λ S. ap not (is.exact S))

pub test_signal : {m k : ℕ} {a b : ArenaView} {result : Result NodeId DdError} (signals : List SigId) (s : SigId) → length signals ≡ a.variables → slice_get signals k ≡ Some s → Makes m a b (variable_value k) result → IfOk result (λ h. DenotesTest b h.0 (numbers signals) (λ S. has S s.0))
test_signal {m} {k} {a} {b} {result} signals s sized at made = test_made (numbers signals) (λ S. has S s.0) (length-map signals (λ (z : SigId). z.0) ∙ sized) made (λ S. value-at signals S k s at)

pub test_true : (arena : ArenaView) (signals : List ℕ) → IsArena arena → DenotesTest arena 1 signals (λ S. true)
test_true arena signals valid = record { held = held_constant arena.nodes 1 (omega arith); exact = λ S. function_of-true arena (map (has S) signals) valid }

pub test_false : (arena : ArenaView) (signals : List ℕ) → IsArena arena → DenotesTest arena 0 signals (λ S. false)
test_false arena signals valid = record { held = held_constant arena.nodes 0 (omega arith); exact = λ S. function_of-false arena (map (has S) signals) valid }

-- ---- operands, the last ones first

abbrev pub rest : List Guard → ℕ → Guards
rest gs left = guards_of (map guard_of (drop left gs))

-- the operands from a place on have their diagram
pub record SoFar (test : Guards → Test) (old : ArenaView) (signals : List ℕ) (gs : List Guard) (left : ℕ) (new : ArenaView) (met : ℕ) : Type 0 where
  pub bound : left ≤ length gs
  pub adds : AddsAtMost (2 * guards_size (rest gs left)) old new
  pub denotes : DenotesTest new met signals (test (rest gs left))

drop_whole : (gs : List Guard) (left : ℕ) → left ≡ length gs → drop left gs ≡ []
drop_whole [] left e = subst (λ (k : ℕ). drop {A = Guard} k [] ≡ []) (sym e) refl
drop_whole (g ∷ gs) left e = subst (λ (k : ℕ). drop k (g ∷ gs) ≡ []) (sym e) (drop_whole gs (length gs) refl)

pub every_none : (arena : ArenaView) (signals : List ℕ) (gs : List Guard) (left : ℕ) → left ≡ length gs → IsArena arena → SoFar every arena signals gs left arena 1
every_none arena signals gs left e valid = record {
  bound = omega arith;
  adds = adds_nothing (2 * guards_size (rest gs left)) arena valid;
  denotes = subst (λ (l : List Guard). DenotesTest arena 1 signals (every (guards_of (map guard_of l)))) (sym (drop_whole gs left e)) (test_true arena signals valid);
}

pub some_none : (arena : ArenaView) (signals : List ℕ) (gs : List Guard) (left : ℕ) → left ≡ length gs → IsArena arena → SoFar some arena signals gs left arena 0
some_none arena signals gs left e valid = record {
  bound = omega arith;
  adds = adds_nothing (2 * guards_size (rest gs left)) arena valid;
  denotes = subst (λ (l : List Guard). DenotesTest arena 0 signals (some (guards_of (map guard_of l)))) (sym (drop_whole gs left e)) (test_false arena signals valid);
}

pub one_node : (g : plain.Guard) → 1 ≤ guard_size g
one_node plain.always = omega arith
one_node plain.never = omega arith
one_node (plain.present s) = omega arith
one_node (plain.negation g) = omega arith
one_node (plain.all gs) = omega arith
one_node (plain.any gs) = omega arith

pub drop_one : (gs : List Guard) (left : ℕ) (g : Guard) → left < length gs → g ≡ get_or gs left g → drop left gs ≡ g ∷ drop (left + 1) gs
drop_one [] left g below at = absurd (omega arith)
drop_one (h ∷ gs) zero g below at = ap (λ (z : Guard). z ∷ gs) (sym at)
drop_one (h ∷ gs) (suc left) g below at = drop_one gs left g (omega arith) at ∙ ap (λ (k : ℕ). g ∷ drop k (h ∷ gs)) (let e : suc (left + 1) ≡ suc left + 1 = omega arith in e)

pub drop_here : (gs : List Guard) (left after : ℕ) (g : Guard) → after ≡ left + 1 → left < length gs → g ≡ get_or gs left g → drop left gs ≡ g ∷ drop after gs
drop_here gs left after g e below at = drop_one gs left g below at ∙ ap (λ (k : ℕ). g ∷ drop k gs) (sym e)

-- what a call adds, and one more operation
pub operand_adds : {a b c : ArenaView} (gs : List Guard) (left after : ℕ) (g : Guard) → drop left gs ≡ g ∷ drop after gs → AddsAtMost (2 * guards_size (rest gs after)) a b → AddsAtMost (2 * guard_size (guard_of g) - 1) b c → AddsAtMost (2 * guards_size (rest gs left) - 1) a c
operand_adds {a} {b} {c} gs left after g here first second =
    let one = one_node (guard_of g) in
    let size : guards_size (rest gs left) ≡ guard_size (guard_of g) + guards_size (rest gs after) = ap (λ (l : List Guard). guards_size (guards_of (map guard_of l))) here in
    adds_in_turn (2 * guards_size (rest gs after)) (2 * guard_size (guard_of g) - 1) (2 * guards_size (rest gs left) - 1) (omega arith) first second

pub operand_more : {a c d : ArenaView} (gs : List Guard) (left after : ℕ) (g : Guard) → drop left gs ≡ g ∷ drop after gs → AddsAtMost (2 * guards_size (rest gs left) - 1) a c → AddsAtMost 1 c d → AddsAtMost (2 * guards_size (rest gs left)) a d
operand_more {a} {c} {d} gs left after g here first second =
    let one = one_node (guard_of g) in
    let size : guards_size (rest gs left) ≡ guard_size (guard_of g) + guards_size (rest gs after) = ap (λ (l : List Guard). guards_size (guards_of (map guard_of l))) here in
    adds_in_turn (2 * guards_size (rest gs left) - 1) 1 (2 * guards_size (rest gs left)) (omega arith) first second

pub every_more : {d : ArenaView} {signals : List ℕ} {h : ℕ} (gs : List Guard) (left after : ℕ) (g : Guard) → drop left gs ≡ g ∷ drop after gs → DenotesTest d h signals (λ S. holds (guard_of g) S && every (rest gs after) S) → DenotesTest d h signals (every (rest gs left))
every_more {d} {signals} {h} gs left after g here is = subst (λ (l : List Guard). DenotesTest d h signals (every (guards_of (map guard_of l)))) (sym here) (record { held = is.held; exact = is.exact })

pub some_more : {d : ArenaView} {signals : List ℕ} {h : ℕ} (gs : List Guard) (left after : ℕ) (g : Guard) → drop left gs ≡ g ∷ drop after gs → DenotesTest d h signals (λ S. holds (guard_of g) S || some (rest gs after) S) → DenotesTest d h signals (some (rest gs left))
some_more {d} {signals} {h} gs left after g here is = subst (λ (l : List Guard). DenotesTest d h signals (some (guards_of (map guard_of l)))) (sym here) (record { held = is.held; exact = is.exact })

-- what an operand reads is among the signals
pub operand_reads : (gs : List Guard) (left : ℕ) (g : Guard) (signals : List ℕ) → left < length gs → g ≡ get_or gs left g → AreAmong (reads_some (guards_of (map guard_of gs))) signals → AreAmong (reads (guard_of g)) signals
operand_reads [] left g signals below at among k h = absurd (omega arith)
operand_reads (u ∷ gs) zero g signals below at among k h = among k (or_left (reads (guard_of u) k) (reads_some (guards_of (map guard_of gs)) k) (ap (λ (z : Guard). reads (guard_of z) k) (sym at) ∙ h))
operand_reads (u ∷ gs) (suc left) g signals below at among k h = operand_reads gs left g signals (omega arith) at (λ j r. among j (or_right (reads (guard_of u) j) (reads_some (guards_of (map guard_of gs)) j) r)) k h

pub sized_numbers : (signals : List SigId) (v : ℕ) → length signals ≡ v → length (numbers signals) ≡ v
sized_numbers signals v sized = length-map signals (λ (z : SigId). z.0) ∙ sized

rest_fewer : (gs : List Guard) (left : ℕ) → guards_size (rest gs left) ≤ guards_size (guards_of (map guard_of gs))
rest_fewer [] zero = omega arith
rest_fewer [] (suc left) = omega arith
rest_fewer (g ∷ gs) zero = omega arith
rest_fewer (g ∷ gs) (suc left) = let k = rest_fewer gs left in omega (arith, k)

-- where an operand's call fails
pub operand_fails : {a b c : ArenaView} {test : Guards → Test} {signals : List ℕ} (gs : List Guard) (left after : ℕ) (g : Guard) {met : ℕ} → after ≡ left + 1 → left < length gs → g ≡ get_or gs left g → SoFar test a signals gs after b met → AddsAtMost (2 * guard_size (guard_of g) - 1) b c → AddsAtMost (2 * guards_size (guards_of (map guard_of gs))) a c
operand_fails gs left after g e below at before adds =
    let k = rest_fewer gs left in
    adds_fewer (2 * guards_size (rest gs left) - 1) (2 * guards_size (guards_of (map guard_of gs))) (omega (arith, k)) (operand_adds gs left after g (drop_here gs left after g e below at) before.adds adds)

pub joined_fails : {a b c d : ArenaView} {test : Guards → Test} {signals : List ℕ} (gs : List Guard) (left after : ℕ) (g : Guard) {met : ℕ} → after ≡ left + 1 → left < length gs → g ≡ get_or gs left g → SoFar test a signals gs after b met → AddsAtMost (2 * guard_size (guard_of g) - 1) b c → AddsAtMost 1 c d → AddsAtMost (2 * guards_size (guards_of (map guard_of gs))) a d
joined_fails gs left after g e below at before adds one =
    let k = rest_fewer gs left in
    let here = drop_here gs left after g e below at in
    adds_fewer (2 * guards_size (rest gs left)) (2 * guards_size (guards_of (map guard_of gs))) (omega (arith, k)) (operand_more gs left after g here (operand_adds gs left after g here before.adds adds) one)

pub every_step : {a b c d : ArenaView} (signals : List SigId) (gs : List Guard) (left after : ℕ) (g : Guard) {met f : ℕ} {h : NodeId} → after ≡ left + 1 → left < length gs → g ≡ get_or gs left g → length signals ≡ a.variables → SoFar every a (numbers signals) gs after b met → AddsAtMost (2 * guard_size (guard_of g) - 1) b c → DenotesTest c f (numbers signals) (holds (guard_of g)) → Makes (2 ^ (c.variables + 1)) c d (both (function_of c f) (function_of c met)) (Ok h) → SoFar every a (numbers signals) gs left d h.0
every_step {a} {b} {c} {d} signals gs left after g {met} {f} {h} e below at sized before adds is made =
    let here = drop_here gs left after g e below at in
    let sized_b : length (numbers signals) ≡ b.variables = sized_numbers signals b.variables (sized ∙ sym before.adds.keeps.variables) in
    record {
      bound = omega arith;
      adds = operand_more gs left after g here (operand_adds gs left after g here before.adds adds) (adds_one made);
      denotes = every_more gs left after g here (test_both (sized_b ∙ sym adds.keeps.variables) is (test_later sized_b adds.keeps before.denotes) made);
    }

pub some_step : {a b c d : ArenaView} (signals : List SigId) (gs : List Guard) (left after : ℕ) (g : Guard) {met f : ℕ} {h : NodeId} → after ≡ left + 1 → left < length gs → g ≡ get_or gs left g → length signals ≡ a.variables → SoFar some a (numbers signals) gs after b met → AddsAtMost (2 * guard_size (guard_of g) - 1) b c → DenotesTest c f (numbers signals) (holds (guard_of g)) → Makes (2 ^ (c.variables + 1)) c d (either (function_of c f) (function_of c met)) (Ok h) → SoFar some a (numbers signals) gs left d h.0
some_step {a} {b} {c} {d} signals gs left after g {met} {f} {h} e below at sized before adds is made =
    let here = drop_here gs left after g e below at in
    let sized_b : length (numbers signals) ≡ b.variables = sized_numbers signals b.variables (sized ∙ sym before.adds.keeps.variables) in
    record {
      bound = omega arith;
      adds = operand_more gs left after g here (operand_adds gs left after g here before.adds adds) (adds_one made);
      denotes = some_more gs left after g here (test_either (sized_b ∙ sym adds.keeps.variables) is (test_later sized_b adds.keeps before.denotes) made);
    }
