-- One call after another: a node at a variable, made over the nodes of two cofactors.
use Rattle.std.proofs.Common.{◌≡◌, ℕ, suc, ◌+◌, ◌-◌, ◌*◌, ◌^◌, ◌<◌, ◌≤◌, Bool, true, false, if◌then◌else◌, get_or, refl, sym, ap, ◌∙◌, subst, inl, inr, arith, Result, Ok, Err}
use Rattle.std.proofs.Math.Pow.{pow_mono}
use Rattle.std.proofs.Math.Nat.{pow-suc}
use Rattle.std.proofs.lemmas.Nat.{pow_pos}
use Rattle.std.proofs.lemmas.Bool.{cases_Bool, false≢true}
use Rattle.dd_core.specs.declared.nodes.NodeId.{NodeId}
use Rattle.dd_core.specs.declared.errors.DdError.{DdError}
use Rattle.dd_core.specs.Functions.{Function, AreEqual, IsCofactor, variable_value, if_else}
use Rattle.dd_core.specs.Diagrams.{node_at, is_held, node_count, IsReduced}
use Rattle.dd_core.specs.Arenas.{ArenaView, IsArena, Holds, function_of, level_of, Keeps, AddsCofactors, LacksCofactor, Makes}
use Rattle.dd_core.proofs.Extension.{level-kept}
use Rattle.dd_core.proofs.Cofactors.{IsCofactor-trans}
use Rattle.dd_core.proofs.Making.{makes_equal, IsCofactor-refl}

pub reduced_after : (old new : ArenaView) → IsArena new → Keeps old new → IsReduced old.variables new.nodes
reduced_after old new valid keeps = subst (λ v. IsReduced v new.nodes) keeps.variables valid.reduced

pub level_after : (old new : ArenaView) → IsArena old → IsArena new → Keeps old new → (f : ℕ) → Holds old f → level_of new f ≡ level_of old f
level_after old new valid_old valid_new keeps f h =
    ap (λ v. Rattle.dd_core.specs.Diagrams.level v new.nodes f) keeps.variables
    ∙ level-kept old.variables old.nodes new.nodes valid_old.reduced (reduced_after old new valid_new keeps) keeps.nodes f h

pub Keeps-trans : (a b c : ArenaView) → Keeps a b → Keeps b c → Keeps a c
Keeps-trans a b c first second = record {
  variables = second.variables ∙ first.variables;
  budget = second.budget ∙ first.budget;
  held = λ f h. second.held f (first.held f h);
  nodes = λ f n is. second.nodes f n (first.nodes f n is);
  denotes = λ f h x sized. second.denotes f (first.held f h) x (sized ∙ sym first.variables) ∙ first.denotes f h x sized;
  in_order = λ f g new old less. elim (cases_Bool (is_held b.nodes f)) [
    | inl between ↦ second.held g (first.in_order f g between old less)
    | inr later ↦ second.in_order f g new (λ held. false≢true (sym later ∙ held)) less
  ];
}

AddsCofactors-trans : (a b c : ArenaView) (g : Function) → Keeps a b → Keeps b c → AddsCofactors a b g → AddsCofactors b c g → AddsCofactors a c g
AddsCofactors-trans a b c g first second adds_first adds_second f is_new is_old =
    elim (cases_Bool (is_held b.nodes f)) [
      | inl between ↦
          let is = adds_first f between is_old in
          record {
            fixed = is.fixed;
            bound = is.bound;
            equal = λ x sized. second.denotes f between x (sized ∙ sym first.variables) ∙ is.equal x sized;
          }
      | inr later ↦ subst (λ v. IsCofactor v g (function_of c f)) first.variables (adds_second f is_new (λ held. false≢true (sym later ∙ held)))
    ]

AddsCofactors-cofactor : (old new : ArenaView) (g h : Function) → IsCofactor old.variables g h → AddsCofactors old new h → AddsCofactors old new g
AddsCofactors-cofactor old new g h is adds f is_new is_old = IsCofactor-trans old.variables g h (function_of new f) is (adds f is_new is_old)

-- an outcome but for the node: what is common to the calls in a row
pub record Grows (most : ℕ) (old new : ArenaView) (g : Function) : Type 0 where
  pub was : IsArena old
  pub valid : IsArena new
  pub keeps : Keeps old new
  pub added : AddsCofactors old new g
  pub few : node_count new.nodes ≤ node_count old.nodes + most

pub Grows-from : (most m : ℕ) (old new : ArenaView) (g h : Function) (result : Result NodeId DdError) → m ≤ most → IsCofactor old.variables g h → Makes m old new h result → Grows most old new g
Grows-from most m old new g h result fits is made = record {
  was = made.was;
  valid = made.arena;
  keeps = made.keeps;
  added = AddsCofactors-cofactor old new g h is made.added;
  few = omega (arith, made.few);
}

pub Grows-trans : (m n : ℕ) (a b c : ArenaView) (g : Function) → Grows m a b g → Grows n b c g → Grows (m + n) a c g
Grows-trans m n a b c g first second = record {
  was = first.was;
  valid = second.valid;
  keeps = Keeps-trans a b c first.keeps second.keeps;
  added = AddsCofactors-trans a b c g first.keeps second.keeps first.added second.added;
  few = omega (arith, first.few, second.few);
}

LacksCofactor-cofactor : (arena : ArenaView) (g h : Function) → IsCofactor arena.variables g h → LacksCofactor arena h → LacksCofactor arena g
LacksCofactor-cofactor arena g h is l = record {
  cofactor = l.cofactor;
  is = IsCofactor-trans arena.variables g h l.cofactor is l.is;
  lacks = l.lacks;
}

-- An inner call fails: so does the outer one. h is the inner call's function, a cofactor of g.
pub makes_fails : (most m : ℕ) (a b c : ArenaView) (g h : Function) (e : DdError) → Grows most a c g → b.variables ≡ a.variables → IsCofactor a.variables g h → Makes m b c h (Err e) → Makes most a c g (Err e)
makes_fails most m a b c g h e grows same is failed = record {
  was = grows.was;
  arena = grows.valid;
  keeps = grows.keeps;
  added = grows.added;
  few = grows.few;
  node = tt;
  full = failed.full;
  lacks = λ is_budget. LacksCofactor-cofactor c g h (subst (λ v. IsCofactor v g h) (sym grows.keeps.variables) is) (failed.lacks is_budget);
}

-- The last call makes the node, with a function that equals g.
pub makes_last : (most m : ℕ) (a b c : ArenaView) (g h : Function) (result : Result NodeId DdError) → Grows most a c g → b.variables ≡ a.variables → AreEqual a.variables h g → Makes m b c h result → Makes most a c g result
makes_last most m a b c g h result grows same equal made =
    let fits : Makes m b c g result = makes_equal m b c h g result (λ x sized. equal x (sized ∙ same)) made in
    record {
      was = grows.was;
      arena = grows.valid;
      keeps = grows.keeps;
      added = grows.added;
      few = grows.few;
      node = fits.node;
      full = fits.full;
      lacks = fits.lacks;
    }

-- each variable doubles the number of ways to set those that are left
pub one_variable_more : (v k i j : ℕ) → k < v → k < i → k < j → (2 ^ (v - i) - 1) + (2 ^ (v - j) - 1) + 1 ≤ 2 ^ (v - k) - 1
one_variable_more v k i j below left right =
    let half = v - (k + 1) in
    let whole : v - k ≡ suc half = omega arith in
    let doubled : 2 ^ (v - k) ≡ 2 ^ half * 2 = ap (λ n. 2 ^ n) whole ∙ pow-suc 2 half in
    let p : 2 ^ (v - i) ≤ 2 ^ half = pow_mono (omega arith) in
    let q : 2 ^ (v - j) ≤ 2 ^ half = pow_mono (omega arith) in
    omega (arith, doubled, p, q, pow_pos (v - i), pow_pos (v - j), pow_pos half)

-- g by its first variable: h0 where variable k is false, and h1 where it is true
pub record Splits (v k : ℕ) (g h0 h1 : Function) : Type 0 where
  pub low : IsCofactor v g h0
  pub high : IsCofactor v g h1
  pub joins : AreEqual v (if_else (variable_value k) h1 h0) g

module _ (a : ArenaView) (k : ℕ) (g h0 h1 : Function) (splits : Splits a.variables k g h0 h1) where
  -- the call for h0 fails
  pub low_fails : (most m : ℕ) (b : ArenaView) (e : DdError) → m ≤ most → Makes m a b h0 (Err e) → Makes most a b g (Err e)
  low_fails most m b e fits made = makes_fails most m a a b g h0 e (Grows-from most m a b g h0 (Err e) fits splits.low made) refl splits.low made

  grown : (m n : ℕ) (b c : ArenaView) (low : NodeId) (result : Result NodeId DdError) → Makes m a b h0 (Ok low) → Makes n b c h1 result → Grows (m + n) a c g
  grown m n b c low result first second =
      let high : IsCofactor b.variables g h1 = subst (λ v. IsCofactor v g h1) (sym first.keeps.variables) splits.high in
      Grows-trans m n a b c g (Grows-from m m a b g h0 (Ok low) (omega arith) splits.low first) (Grows-from n n b c g h1 result (omega arith) high second)

  -- the call for h1 fails
  pub high_fails : (most m n : ℕ) (b c : ArenaView) (low : NodeId) (e : DdError) → m + n ≤ most → Makes m a b h0 (Ok low) → Makes n b c h1 (Err e) → Makes most a c g (Err e)
  high_fails most m n b c low e fits first second =
      makes_fails most n a b c g h1 e (weaker (grown m n b c low (Err e) first second)) first.keeps.variables splits.high second
    where
      weaker : Grows (m + n) a c g → Grows most a c g
      weaker w = record { was = w.was; valid = w.valid; keeps = w.keeps; added = w.added; few = omega (arith, w.few) }

  -- the last call makes the node at variable k
  pub node_made : (most m n : ℕ) (b c d : ArenaView) (low high : NodeId) (result : Result NodeId DdError) → m + n + 1 ≤ most
      → Makes m a b h0 (Ok low) → Makes n b c h1 (Ok high) → Makes 1 c d (if_else (variable_value k) (function_of c high.0) (function_of c low.0)) result → Makes most a d g result
  node_made most m n b c d low high result fits first second last =
      let h = if_else (variable_value k) (function_of c high.0) (function_of c low.0) in
      let here : c.variables ≡ a.variables = second.keeps.variables ∙ first.keeps.variables in
      let equal : AreEqual a.variables h g = λ x sized.
      branches (get_or x k false) (second.node.denotes x (sized ∙ sym here)) (second.keeps.denotes low.0 first.node.held x (sized ∙ sym first.keeps.variables) ∙ first.node.denotes x (sized ∙ sym first.keeps.variables))
      ∙ splits.joins x sized in
      let is : IsCofactor c.variables g h = subst (λ v. IsCofactor v g h) (sym here) (IsCofactor-refl a.variables g h equal) in
      let w = Grows-trans (m + n) 1 a c d g (grown m n b c low (Ok high) first second) (Grows-from 1 1 c d g h result (omega arith) is last) in
      makes_last most 1 a c d g h result (record { was = w.was; valid = w.valid; keeps = w.keeps; added = w.added; few = omega (arith, w.few) }) here equal last
    where
      branches : {p q r s : Bool} (t : Bool) → p ≡ q → r ≡ s → (if t then p else r) ≡ (if t then q else s)
      branches true e f = e
      branches false e f = f
