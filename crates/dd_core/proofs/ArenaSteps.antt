-- What the calls on single nodes need: the plain list, and the step of a walk.
use Rattle.std.proofs.Common.{◌≡◌, ℕ, ◌<◌, ◌≤◌, List, Some, None, Bool, false, if◌then◌else◌, nat_eq, length, get_or, refl, ap, ◌∙◌, arith}
use Rattle.dd_core.specs.declared.nodes.Node.{Node}
use Rattle.dd_core.specs.Diagrams.{node_at, level}
use Rattle.dd_core.specs.Arenas.{ArenaView, IsArena, Holds, level_of, function_of}
use Rattle.dd_core.proofs.Walks.{child, child-at, child-held, child-later, denotes-child, level_at, walk-constant}
use Rattle.dd_core.proofs.InTurn.{in_turn_steps}

-- a walk goes from f, whose node is n, to the child by the value of its variable
pub record StepsTo (arena : ArenaView) (x : List Bool) (f g : ℕ) : Type 0 where
  pub held : Holds arena g
  pub equal : function_of arena f x ≡ function_of arena g x
  pub later : level_of arena f < level_of arena g
  pub within : level_of arena f < arena.variables

pub eval_step : (arena : ArenaView) (f : ℕ) (n : Node) (x : List Bool) → IsArena arena → Holds arena f → node_at arena.nodes f ≡ Some n → length x ≡ arena.variables
    → StepsTo arena x f (if get_or x n.variable false then n.high.0 else n.low.0)
eval_step arena f n x valid held is sized =
    let v = arena.variables in let r = valid.reduced in let k = n.variable in
    let at : level v arena.nodes f ≡ k = level_at v arena.nodes f n is in
    let below : k < v = r.variable f n is in
    let low : k ≤ level v arena.nodes f = omega arith in
    let b = get_or x k false in
    let to : child arena.nodes k b f ≡ (if b then n.high.0 else n.low.0) = child-at arena.nodes k b f n is refl in
    record {
      held = rw to at (child-held v arena.nodes r k b f held low below);
      equal = denotes-child v arena.nodes r k f x held low below sized ∙ ap (λ g. function_of arena g x) to;
      later = omega (arith, at, rw to at (child-later v arena.nodes r k b f held low below));
      within = omega arith;
    }

pub eval_end : (arena : ArenaView) (f : ℕ) (x : List Bool) → node_at arena.nodes f ≡ None → function_of arena f x ≡ nat_eq f 1
eval_end arena f x none = walk-constant arena.nodes 0 f x none

pub ruleset arena_steps = (in_turn_steps, eval_step, eval_end)
