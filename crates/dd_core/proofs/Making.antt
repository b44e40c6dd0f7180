-- What a call that makes a node leaves, over the arenas before and after it.
use Rattle.std.proofs.Common.{◌≡◌, ℕ, ◌≤◌, List, [], ◌++◌, Some, Bool, true, false, ◌&&◌, ◌||◌, not, if◌then◌else◌, length, drop, get_or, refl, sym, ap, ◌∙◌, subst, inl, inr, arith, Result, Ok, Err, IfOk, OnErr}
use Rattle.std.proofs.Common.{length-append, length-drop}
use Rattle.dd_core.specs.declared.nodes.Node.{Node}
use Rattle.dd_core.specs.declared.nodes.NodeId.{NodeId}
use Rattle.dd_core.specs.declared.errors.DdError.{DdError}
use Rattle.dd_core.specs.declared.errors.DdError.TheVariants.{Budget}
use Rattle.dd_core.specs.Functions.{Function, AreEqual, IsCofactor, variable_value, if_else, both, either, opposite}
use Rattle.dd_core.specs.Diagrams.{node_at, IsReduced}
use Rattle.dd_core.specs.inner.Adding.{IsFresh, AddsNode}
use Rattle.dd_core.specs.Arenas.{ArenaView, IsArena, Holds, function_of, Keeps, IsNodeOf, LacksCofactor, IsFull, Makes}
use Rattle.dd_core.proofs.Walks.{held_cases, held_at, held_constant, held_level, walk-constant}
use Rattle.dd_core.proofs.Canonical.{canonical}
use Rattle.dd_core.proofs.Extension.{came, more_keeps, held-kept, denotes-kept, denotes-node, fresh_lacks}

-- the function of a node with these children
abbrev pub choice : ArenaView → Node → Function
choice arena n = if_else (variable_value n.variable) (function_of arena n.high.0) (function_of arena n.low.0)

pub Keeps-refl : (arena : ArenaView) → Keeps arena arena
Keeps-refl arena = record {
  variables = refl;
  budget = refl;
  held = λ f h. h;
  nodes = λ f n is. is;
  denotes = λ f h x sized. refl;
  in_order = λ f g new old less. absurd (old new);
}

pub IsCofactor-refl : (v : ℕ) (g h : Function) → AreEqual v h g → IsCofactor v g h
IsCofactor-refl v g h equal = record { fixed = []; bound = omega arith; equal = equal }

pub is_node_of : (arena : ArenaView) (g : Function) (f : ℕ) → IsArena arena → Holds arena f → AreEqual arena.variables (function_of arena f) g → IsNodeOf arena g f
is_node_of arena g f valid held equal = record {
  held = held;
  denotes = equal;
  only = λ h held_h equal_h. canonical arena.variables arena.nodes valid.reduced h f held_h held (λ x sized. equal_h x sized ∙ sym (equal x sized));
}

not_Budget : (f : NodeId) → ◌≡◌ {A = Result NodeId DdError} (Ok f) (Err Budget) → ⊥
not_Budget f e = cc

is_Budget : (e : DdError) → ◌≡◌ {A = Result NodeId DdError} (Err e) (Err Budget) → e ≡ Budget
is_Budget e p = cc

-- a call that changes nothing
pub makes_unchanged : (most : ℕ) (arena : ArenaView) (g : Function) (f : NodeId) → IsArena arena → IsNodeOf arena g f.0 → Makes most arena arena g (Ok f)
makes_unchanged most arena g f valid node = record {
  was = valid;
  arena = valid;
  keeps = Keeps-refl arena;
  added = λ h new old. absurd (old new);
  few = omega arith;
  node = node;
  full = λ e. absurd (not_Budget f e);
  lacks = λ e. absurd (not_Budget f e);
}

pub fails_unchanged : (most : ℕ) (arena : ArenaView) (g : Function) (e : DdError) → IsArena arena → (e ≡ Budget → IsFull arena) → (e ≡ Budget → LacksCofactor arena g) → Makes most arena arena g (Err e)
fails_unchanged most arena g e valid full lacks = record {
  was = valid;
  arena = valid;
  keeps = Keeps-refl arena;
  added = λ h new old. absurd (old new);
  few = omega arith;
  node = tt;
  full = λ is. full (is_Budget e is);
  lacks = λ is. lacks (is_Budget e is);
}

-- the two children are one node
pub mk_equal : (arena : ArenaView) (n : Node) → IsArena arena → Holds arena n.low.0 → n.low.0 ≡ n.high.0 → Makes 1 arena arena (choice arena n) (Ok n.low)
mk_equal arena n valid held same =
    makes_unchanged 1 arena (choice arena n) n.low valid (is_node_of arena (choice arena n) n.low.0 valid held (λ x sized.
    either (get_or x n.variable false) (ap (λ f. function_of arena f x) same)))
  where
    either : {a b : Bool} (t : Bool) → a ≡ b → a ≡ (if t then b else a)
    either true p = p
    either false p = refl

-- the triple is held
pub mk_found : (arena : ArenaView) (n : Node) (f : NodeId) → IsArena arena → node_at arena.nodes f.0 ≡ Some n → Makes 1 arena arena (choice arena n) (Ok f)
mk_found arena n f valid is =
    makes_unchanged 1 arena (choice arena n) f valid
    (is_node_of arena (choice arena n) f.0 valid (held_at arena.nodes f.0 n is) (denotes-node arena.variables arena.nodes valid.reduced f.0 n is))

-- no place or no memory for the triple
pub mk_fails : (arena : ArenaView) (n : Node) (e : DdError) → IsArena arena → IsFresh arena.variables arena.nodes n → (e ≡ Budget → IsFull arena) → Makes 1 arena arena (choice arena n) (Err e)
mk_fails arena n e valid fresh full =
    fails_unchanged 1 arena (choice arena n) e valid full (λ is. record {
      cofactor = choice arena n;
      is = IsCofactor-refl arena.variables (choice arena n) (choice arena n) (λ x sized. refl);
      lacks = λ d. fresh_lacks arena.variables arena.nodes valid.reduced n fresh d.node d.held d.equal;
    })

-- the triple is added
pub mk_added : (old new : ArenaView) (n : Node) (f : NodeId) → IsArena old → IsFresh old.variables old.nodes n → AddsNode old new n f.0 → Makes 1 old new (choice old n) (Ok f)
mk_added old new n f valid fresh adds =
    let v = old.variables in
    let more = adds.more in
    let reduced : IsReduced v new.nodes = subst (λ w. IsReduced w new.nodes) adds.variables adds.valid.reduced in
    let keeps = more_keeps v old.nodes new.nodes f.0 n valid.reduced fresh more in
    let denotes_same = denotes-kept v old.nodes new.nodes valid.reduced reduced keeps in
    let equal : AreEqual v (function_of new f.0) (choice old n) = λ x sized.
    denotes-node v new.nodes reduced f.0 n adds.more.here x sized
    ∙ chosen (get_or x n.variable false) (denotes_same n.high.0 (held_level v old.nodes n.variable n.high.0 fresh.high_later) x sized) (denotes_same n.low.0 (held_level v old.nodes n.variable n.low.0 fresh.low_later) x sized) in
    record {
      was = valid;
      arena = adds.valid;
      keeps = record {
        variables = adds.variables;
        budget = adds.budget;
        held = held-kept v old.nodes new.nodes valid.reduced reduced keeps;
        nodes = keeps;
        denotes = denotes_same;
        in_order = adds.in_order;
      };
      added = λ g held_new not_old. elim (held_cases new.nodes g held_new) [
        | inl none ↦ absurd (not_old (held_constant old.nodes g none.0))
        | inr some ↦ elim (came v old.nodes new.nodes f.0 n valid.reduced fresh more g some.0 some.1) [
          | inl is_old ↦ absurd (not_old (held_at old.nodes g some.0 is_old))
          | inr is_new ↦ IsCofactor-refl v (choice old n) (function_of new g) (λ x sized. ap (λ h. function_of new h x) is_new.0 ∙ equal x sized)
        ]
      ];
      few = omega (arith, adds.one_more);
      node = is_node_of new (choice old n) f.0 adds.valid (held_at new.nodes f.0 n adds.more.here) (λ x sized. equal x (sized ∙ adds.variables));
      full = λ e. absurd (not_Budget f e);
      lacks = λ e. absurd (not_Budget f e);
    }
  where
    chosen : {a b c d : Bool} (t : Bool) → a ≡ b → c ≡ d → (if t then a else c) ≡ (if t then b else d)
    chosen true p q = p
    chosen false p q = q

-- the triple wasn't held
pub mk_adds : (old new : ArenaView) (n : Node) (result : Result NodeId DdError) → IsArena old → IsFresh old.variables old.nodes n
    → IfOk result (λ f. AddsNode old new n f.0) → OnErr result (new ≡ old) → (result ≡ Err Budget → IsFull old) → Makes 1 old new (choice old n) result
mk_adds old new n (Ok f) valid fresh adds same full = mk_added old new n f valid fresh adds
mk_adds old new n (Err e) valid fresh adds same full =
    subst (λ d. Makes 1 old d (choice old n) (Err e)) (sym same) (mk_fails old n e valid fresh (λ is. full (ap Err is)))

-- a function that is equal serves as well
pub front_length : (v : ℕ) (fixed x : List Bool) → length fixed ≤ v → length x ≡ v → length (fixed ++ drop (length fixed) x) ≡ v
front_length v fixed x bound sized = omega (arith, length-append fixed (drop (length fixed) x), length-drop (length fixed) x)

pub IsCofactor-equal : (v : ℕ) (g h c : Function) → AreEqual v g h → IsCofactor v g c → IsCofactor v h c
IsCofactor-equal v g h c equal is = record {
  fixed = is.fixed;
  bound = is.bound;
  equal = λ x sized. is.equal x sized ∙ equal (is.fixed ++ drop (length is.fixed) x) (front_length v is.fixed x is.bound sized);
}

pub IsNodeOf-equal : (arena : ArenaView) (g h : Function) (f : ℕ) → AreEqual arena.variables g h → IsNodeOf arena g f → IsNodeOf arena h f
IsNodeOf-equal arena g h f equal node = record {
  held = node.held;
  denotes = λ x sized. node.denotes x sized ∙ equal x sized;
  only = λ k held denotes. node.only k held (λ x sized. denotes x sized ∙ sym (equal x sized));
}

pub makes_equal : (most : ℕ) (old new : ArenaView) (g h : Function) (result : Result NodeId DdError) → AreEqual old.variables g h → Makes most old new g result → Makes most old new h result
makes_equal most old new g h result equal made =
    let after : AreEqual new.variables g h = λ x sized. equal x (sized ∙ made.keeps.variables) in
    record {
      was = made.was;
      arena = made.arena;
      keeps = made.keeps;
      added = λ f is_new is_old. IsCofactor-equal old.variables g h (function_of new f) equal (made.added f is_new is_old);
      few = made.few;
      node = of_result result made.node after;
      full = made.full;
      lacks = λ e. let l = made.lacks e in record { cofactor = l.cofactor; is = IsCofactor-equal new.variables g h l.cofactor after l.is; lacks = l.lacks };
    }
  where
    of_result : (r : Result NodeId DdError) → IfOk r (λ f. IsNodeOf new g f.0) → AreEqual new.variables g h → IfOk r (λ f. IsNodeOf new h f.0)
    of_result (Ok f) node after = IsNodeOf-equal new g h f.0 after node
    of_result (Err e) node after = tt

-- a wider bound
pub makes_within : (m most : ℕ) (old new : ArenaView) (g : Function) (result : Result NodeId DdError) → m ≤ most → Makes m old new g result → Makes most old new g result
makes_within m most old new g result fits made = record {
  was = made.was;
  arena = made.arena;
  keeps = made.keeps;
  added = made.added;
  few = omega (arith, made.few);
  node = made.node;
  full = made.full;
  lacks = made.lacks;
}

-- the values of the constants
pub function_of-false : (arena : ArenaView) (x : List Bool) → IsArena arena → function_of arena 0 x ≡ false
function_of-false arena x valid = walk-constant arena.nodes 0 0 x valid.reduced.no_false

pub function_of-true : (arena : ArenaView) (x : List Bool) → IsArena arena → function_of arena 1 x ≡ true
function_of-true arena x valid = walk-constant arena.nodes 0 1 x valid.reduced.no_true

-- the node of a variable goes on to the constants
pub choice-constants : (arena : ArenaView) (k : ℕ) → IsArena arena → AreEqual arena.variables (choice arena (record { variable = k; low = record { 0 = 0 }; high = record { 0 = 1 } })) (variable_value k)
choice-constants arena k valid x sized = same (get_or x k false) (function_of-true arena x valid) (function_of-false arena x valid)
  where
    same : {a b : Bool} (t : Bool) → a ≡ true → b ≡ false → (if t then a else b) ≡ t
    same true p q = p
    same false p q = q

-- the operations as choices
module _ (arena : ArenaView) (valid : IsArena arena) (f g : ℕ) where
  pub both-is_choice : AreEqual arena.variables (if_else (function_of arena f) (function_of arena g) (function_of arena 0)) (both (function_of arena f) (function_of arena g))
  both-is_choice x sized = same (function_of arena f x) (function_of arena g x) (function_of-false arena x valid)
    where
      same : (a b : Bool) {c : Bool} → c ≡ false → (if a then b else c) ≡ (a && b)
      same true b e = refl
      same false b e = e

  pub either-is_choice : AreEqual arena.variables (if_else (function_of arena f) (function_of arena 1) (function_of arena g)) (either (function_of arena f) (function_of arena g))
  either-is_choice x sized = same (function_of arena f x) (function_of arena g x) (function_of-true arena x valid)
    where
      same : (a b : Bool) {c : Bool} → c ≡ true → (if a then c else b) ≡ (a || b)
      same true b e = e
      same false b e = refl

pub opposite-is_choice : (arena : ArenaView) → IsArena arena → (f : ℕ) → AreEqual arena.variables (if_else (function_of arena f) (function_of arena 0) (function_of arena 1)) (opposite (function_of arena f))
opposite-is_choice arena valid f x sized = same (function_of arena f x) (function_of-false arena x valid) (function_of-true arena x valid)
  where
    same : (a : Bool) {b c : Bool} → b ≡ false → c ≡ true → (if a then b else c) ≡ not a
    same true p q = p
    same false p q = q
