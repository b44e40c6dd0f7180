-- One call on an arena after another.
use Rattle.std.proofs.Common.{◌≡◌, ℕ, ◌+◌, ◌*◌, ◌^◌, ◌≤◌, subst, arith, Result, Err}
use Rattle.std.proofs.Math.Nat.{mul-le-mul_right}
use Rattle.std.proofs.lemmas.Nat.{pow_pos}
use Rattle.dd_core.specs.declared.nodes.NodeId.{NodeId}
use Rattle.dd_core.specs.declared.errors.DdError.{DdError}
use Rattle.dd_core.specs.declared.errors.DdError.TheVariants.{Budget}
use Rattle.dd_core.specs.Functions.{Function}
use Rattle.dd_core.specs.Diagrams.{node_count}
use Rattle.dd_core.specs.Arenas.{ArenaView, IsArena, Makes, AddsAtMost, HasNoRoom}
use Rattle.dd_core.proofs.Making.{Keeps-refl}
use Rattle.dd_core.proofs.Composing.{Keeps-trans}

pub adds_nothing : (n : ℕ) (arena : ArenaView) → IsArena arena → AddsAtMost n arena arena
adds_nothing n arena valid = record { was = valid; arena = valid; keeps = Keeps-refl arena; few = omega arith }

pub adds_in_turn : (i j n : ℕ) {a b c : ArenaView} → i + j ≤ n → AddsAtMost i a b → AddsAtMost j b c → AddsAtMost n a c
adds_in_turn i j n {a} {b} {c} fits first second =
    let most = 2 ^ (a.variables + 1) in
    let later : node_count c.nodes ≤ node_count b.nodes + j * most = subst (λ v. node_count c.nodes ≤ node_count b.nodes + j * 2 ^ (v + 1)) first.keeps.variables second.few in
    let p : (i + j) * most ≤ n * most = mul-le-mul_right most fits in
    let q : (i + j) * most ≡ i * most + j * most = omega arith in
    record {
      was = first.was;
      arena = second.arena;
      keeps = Keeps-trans a b c first.keeps second.keeps;
      few = omega (arith, first.few, later, p, q);
    }

pub adds_fewer : (i n : ℕ) {a b : ArenaView} → i ≤ n → AddsAtMost i a b → AddsAtMost n a b
adds_fewer i n {a} {b} fits adds =
    let p : i * 2 ^ (a.variables + 1) ≤ n * 2 ^ (a.variables + 1) = mul-le-mul_right (2 ^ (a.variables + 1)) fits in
    record { was = adds.was; arena = adds.arena; keeps = adds.keeps; few = omega (arith, adds.few, p) }

-- one operation
pub adds_one : {a b : ArenaView} {g : Function} {result : Result NodeId DdError} → Makes (2 ^ (a.variables + 1)) a b g result → AddsAtMost 1 a b
adds_one made = record { was = made.was; arena = made.arena; keeps = made.keeps; few = omega (arith, made.few) }

-- one operation that adds a node at most
pub adds_node : {a b : ArenaView} {g : Function} {result : Result NodeId DdError} → Makes 1 a b g result → AddsAtMost 1 a b
adds_node {a} made =
    let p : 1 ≤ 2 ^ (a.variables + 1) = pow_pos (a.variables + 1) in
    record { was = made.was; arena = made.arena; keeps = made.keeps; few = omega (arith, made.few, p) }

pub no_room : {m : ℕ} {a b : ArenaView} {g : Function} {result : Result NodeId DdError} → Makes m a b g result → result ≡ Err Budget → HasNoRoom b
no_room made is = let l = made.lacks is in record { full = made.full is; lacks = record { function = l.cofactor; lacks = l.lacks } }
