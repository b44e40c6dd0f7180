-- Choices and other operations: the operands' children, how a choice is made over them, and results later on.
use Rattle.std.proofs.Common.{◌≡◌, ℕ, ◌<◌, ◌≤◌, List, Bool, true, false, if◌then◌else◌, min, length, set, get_or, refl, sym, ap, ◌∙◌, arith}
use Rattle.std.proofs.lemmas.List.{length-set}
use Rattle.dd_core.specs.declared.nodes.NodeId.{NodeId}
use Rattle.dd_core.specs.declared.cache.Choice.{Choice}
use Rattle.dd_core.specs.declared.cache.Operation.{Operation}
use Rattle.dd_core.specs.declared.cache.Operation.TheVariants.{Choose, Restrict}
use Rattle.dd_core.specs.Functions.{AreEqual, IsCofactor}
use Rattle.dd_core.specs.Operations.{choice_function, IsHeld, first_level, operation_function, HasOperands, operation_level, IsResult}
use Rattle.dd_core.specs.inner.Choices.{choice_child}
use Rattle.dd_core.specs.Arenas.{ArenaView, IsArena, level_of, Keeps}
use Rattle.dd_core.proofs.Walks.{child-held, child-later, denotes-child}
use Rattle.dd_core.proofs.Cofactors.{denotes-front_to, IsCofactor-front_to}
use Rattle.dd_core.proofs.Making.{is_node_of}
use Rattle.dd_core.proofs.Composing.{Splits, level_after}

if_congruent : {a b c d e f : Bool} → a ≡ d → b ≡ e → c ≡ f → (if a then b else c) ≡ (if d then e else f)
if_congruent p q r = cc

module _ (arena : ArenaView) (valid : IsArena arena) (c : Choice) (held : IsHeld arena c) (below : first_level arena c < arena.variables) where
  abbrev v : ℕ
  v = arena.variables

  abbrev k : ℕ
  k = first_level arena c

  low_test : k ≤ level_of arena c.test.0
  low_test = omega arith

  low_yes : k ≤ level_of arena c.yes.0
  low_yes = omega arith

  low_no : k ≤ level_of arena c.no.0
  low_no = omega arith

  -- the operands with the first variable set
  pub child_held : (b : Bool) → IsHeld arena (choice_child arena k b c)
  child_held b = record {
    test = child-held v arena.nodes valid.reduced k b c.test.0 held.test low_test below;
    yes = child-held v arena.nodes valid.reduced k b c.yes.0 held.yes low_yes below;
    no = child-held v arena.nodes valid.reduced k b c.no.0 held.no low_no below;
  }

  pub child_first : (b : Bool) → k < first_level arena (choice_child arena k b c)
  child_first b = omega (
    arith,
    child-later v arena.nodes valid.reduced k b c.test.0 held.test low_test below,
    child-later v arena.nodes valid.reduced k b c.yes.0 held.yes low_yes below,
    child-later v arena.nodes valid.reduced k b c.no.0 held.no low_no below,
  )

  child_cofactor : (b : Bool) → IsCofactor v (choice_function arena c) (choice_function arena (choice_child arena k b c))
  child_cofactor b = IsCofactor-front_to v k b (choice_function arena c) (choice_function arena (choice_child arena k b c)) below (λ x sized.
      if_congruent
      (denotes-front_to v arena.nodes valid.reduced k b c.test.0 held.test low_test below x)
      (denotes-front_to v arena.nodes valid.reduced k b c.yes.0 held.yes low_yes below x)
      (denotes-front_to v arena.nodes valid.reduced k b c.no.0 held.no low_no below x))

  child_value : (x : List Bool) → length x ≡ v → choice_function arena c x ≡ choice_function arena (choice_child arena k (get_or x k false) c) x
  child_value x sized =
      if_congruent
      (denotes-child v arena.nodes valid.reduced k c.test.0 x held.test low_test below sized)
      (denotes-child v arena.nodes valid.reduced k c.yes.0 x held.yes low_yes below sized)
      (denotes-child v arena.nodes valid.reduced k c.no.0 x held.no low_no below sized)

  pub child_splits : Splits v k (choice_function arena c) (choice_function arena (choice_child arena k false c)) (choice_function arena (choice_child arena k true c))
  child_splits = record {
    low = child_cofactor false;
    high = child_cofactor true;
    joins = λ x sized. joined x (get_or x k false) ∙ sym (child_value x sized);
  }
    where
      joined : (x : List Bool) (b : Bool) → (if b then choice_function arena (choice_child arena k true c) x else choice_function arena (choice_child arena k false c) x) ≡ choice_function arena (choice_child arena k b c) x
      joined x true = refl
      joined x false = refl

-- the operands later on
pub IsHeld-kept : (old new : ArenaView) → IsArena old → IsArena new → Keeps old new → (c : Choice) → IsHeld old c → IsHeld new c
IsHeld-kept old new valid_old valid_new keeps c held = record {
  test = keeps.held c.test.0 held.test;
  yes = keeps.held c.yes.0 held.yes;
  no = keeps.held c.no.0 held.no;
}

pub first_level-kept : (old new : ArenaView) → IsArena old → IsArena new → Keeps old new → (c : Choice) → IsHeld old c → first_level new c ≡ first_level old c
first_level-kept old new valid_old valid_new keeps c held =
    let p = level_after old new valid_old valid_new keeps c.test.0 held.test in
    let q = level_after old new valid_old valid_new keeps c.yes.0 held.yes in
    let r = level_after old new valid_old valid_new keeps c.no.0 held.no in
    ap (λ n. min n (min (level_of new c.yes.0) (level_of new c.no.0))) p
    ∙ ap (λ n. min (level_of old c.test.0) (min n (level_of new c.no.0))) q
    ∙ ap (λ n. min (level_of old c.test.0) (min (level_of old c.yes.0) n)) r

pub choice_function-kept : (old new : ArenaView) → Keeps old new → (c : Choice) → IsHeld old c → AreEqual old.variables (choice_function new c) (choice_function old c)
choice_function-kept old new keeps c held x sized =
    if_congruent (keeps.denotes c.test.0 held.test x sized) (keeps.denotes c.yes.0 held.yes x sized) (keeps.denotes c.no.0 held.no x sized)

operands-kept : (old new : ArenaView) → IsArena old → IsArena new → Keeps old new → (operation : Operation) → HasOperands old operation → HasOperands new operation
operands-kept old new valid_old valid_new keeps (Choose c) held = IsHeld-kept old new valid_old valid_new keeps c held
operands-kept old new valid_old valid_new keeps (Restrict r) held = keeps.held r.f.0 held

operation_level-kept : (old new : ArenaView) → IsArena old → IsArena new → Keeps old new → (operation : Operation) → HasOperands old operation → operation_level new operation ≡ operation_level old operation
operation_level-kept old new valid_old valid_new keeps (Choose c) held = first_level-kept old new valid_old valid_new keeps c held
operation_level-kept old new valid_old valid_new keeps (Restrict r) held = level_after old new valid_old valid_new keeps r.f.0 held

operation_function-kept : (old new : ArenaView) → Keeps old new → (operation : Operation) → HasOperands old operation → AreEqual old.variables (operation_function new operation) (operation_function old operation)
operation_function-kept old new keeps (Choose c) held x sized = choice_function-kept old new keeps c held x sized
operation_function-kept old new keeps (Restrict r) held x sized = keeps.denotes r.f.0 held (set x r.variable r.value) (length-set x r.variable r.value ∙ sized)

-- results stay results
pub IsResult-kept : (old new : ArenaView) → IsArena old → IsArena new → Keeps old new → (operation : Operation) (f : NodeId) → IsResult old operation f → IsResult new operation f
IsResult-kept old new valid_old valid_new keeps operation f is = record {
  held = operands-kept old new valid_old valid_new keeps operation is.held;
  node = is_node_of new (operation_function new operation) f.0 valid_new (keeps.held f.0 is.node.held) (λ x sized.
      keeps.denotes f.0 is.node.held x (sized ∙ keeps.variables) ∙ is.node.denotes x (sized ∙ keeps.variables)
      ∙ sym (operation_function-kept old new keeps operation is.held x (sized ∙ keeps.variables)));
  later = omega (arith, is.later, operation_level-kept old new valid_old valid_new keeps operation is.held, level_after old new valid_old valid_new keeps f.0 is.node.held);
}
