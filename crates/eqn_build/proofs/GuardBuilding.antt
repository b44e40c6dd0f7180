-- The lines of operands, one after the other.
use Rattle.std.proofs.Common.{◌≡◌, ℕ, ◌+◌, ◌<◌, List, ◌∷◌, ◌++◌, map, length, get_or, drop}
use Rattle.std.proofs.lemmas.Grind.{common_steps}
use Rattle.std.proofs.lemmas.List.{at_drop_more}
use Rattle.argos_core.specs.Views.{guard_of, guards_of}
use Rattle.argos_core.specs.declared.prog.Guard.{Guard}
use Rattle.eqn_scheme.specs.Scheme.{guard_bits, operand_bits, guard_literal, operand_literals, guard_lines, operand_lines}

pub operand_bits-drop : (gs : List Guard) (i : ℕ) (d : Guard) → i < length gs → operand_bits (guards_of (map guard_of (drop i gs))) ≡ guard_bits (guard_of (get_or gs i d)) + operand_bits (guards_of (map guard_of (drop (i + 1) gs)))
operand_bits-drop gs i d = at_drop_more (λ gs. operand_bits (guards_of (map guard_of gs))) gs i d

pub operand_literals-drop : (one b : ℕ) (gs : List Guard) (i : ℕ) (d : Guard) → i < length gs → operand_literals one b (guards_of (map guard_of (drop i gs))) ≡ guard_literal one b (guard_of (get_or gs i d)) ∷ operand_literals one (b + guard_bits (guard_of (get_or gs i d))) (guards_of (map guard_of (drop (i + 1) gs)))
operand_literals-drop one b = at_drop_more (λ gs. operand_literals one b (guards_of (map guard_of gs)))

pub operand_lines-drop : (one b : ℕ) (gs : List Guard) (i : ℕ) (d : Guard) → i < length gs → operand_lines one b (guards_of (map guard_of (drop i gs))) ≡ guard_lines one b (guard_of (get_or gs i d)) ++ operand_lines one (b + guard_bits (guard_of (get_or gs i d))) (guards_of (map guard_of (drop (i + 1) gs)))
operand_lines-drop one b = at_drop_more (λ gs. operand_lines one b (guards_of (map guard_of gs)))

pub ruleset guard_building = (common_steps, operand_bits-drop, operand_literals-drop, operand_lines-drop)
