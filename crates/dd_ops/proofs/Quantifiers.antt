-- Variables quantified one after another.
use Rattle.std.proofs.Common.{◌≡◌, ℕ, suc, ◌+◌, ◌*◌, ◌^◌, ◌<◌, ◌≤◌, ◌↔◌, List, [], ◌∷◌, ◌++◌, None, Bool, true, false, ◌||◌, nat_eq, length, take, set, get_or, refl, sym, ap, ◌∙◌, subst, inl, inr, arith, Result, Ok, Err, IfOk}
use Rattle.std.specs.List.{Contains}
use Rattle.std.proofs.Math.Nat.{pow-suc, mul-le-mul_right}
use Rattle.std.proofs.Math.Pow.{pow_mono}
use Rattle.std.proofs.lemmas.Bool.{cases_eq, or_cases, or_left, or_right}
use Rattle.std.proofs.lemmas.List.{ext_get_or, get_or-set_other, get_or-set_same, length-set, take_more, take_all}
use Rattle.std.proofs.lemmas.List.Elements.{Contains-push, Contains-push_cases, Contains-append_left}
use Rattle.dd_core.specs.declared.nodes.NodeId.{NodeId}
use Rattle.dd_core.specs.declared.errors.DdError.{DdError}
use Rattle.dd_core.specs.declared.errors.DdError.TheVariants.{Budget}
use Rattle.dd_core.specs.Functions.{Function, AreEqual, either, restriction}
use Rattle.dd_core.specs.Diagrams.{node_at, node_count}
use Rattle.dd_core.specs.Arenas.{ArenaView, IsArena, Holds, function_of, Keeps, IsNodeOf, LacksCofactor, LacksFunction, Makes}
use Rattle.dd_core.proofs.Walks.{walk-constant}
use Rattle.dd_core.proofs.Canonical.{canonical}
use Rattle.dd_core.proofs.Making.{Keeps-refl}
use Rattle.dd_core.proofs.Composing.{Keeps-trans}
use Rattle.dd_ops.specs.Quantified.{HoldsSomewhere, IsExists, IsNodeWith, MakesNodeWith}

same_if_iff : (a b : Bool) {P : Type 0} → (a ≡ true) ↔ P → (b ≡ true) ↔ P → a ≡ b
same_if_iff true b p q = sym (q.1 (p.0 refl))
same_if_iff false true p q = p.1 (q.0 refl)
same_if_iff false false p q = refl

one_of : (k j : ℕ) → Contains (k ∷ []) j → k ≡ j
one_of k j has = elim (Contains-push_cases [] k j has) [ inl none ↦ absurd (omega (arith, none.1)) | inr same ↦ same ]

-- quantifying one variable joins its two values
pub IsExists-one : (v k : ℕ) (g h : Function) → k < v → ((x : List Bool) → length x ≡ v → h x ≡ (restriction k false g x || restriction k true g x)) → IsExists v (k ∷ []) g h
IsExists-one v k g h below equal x sized = (somewhere, back)
  where
    at : (b : Bool) → restriction k b g x ≡ true → HoldsSomewhere v (k ∷ []) g x
    at b holds = record {
      values = set x k b;
      sized = length-set x k b ∙ sized;
      agree = λ j other. get_or-set_other x k j b false (λ same. other (subst (λ i. Contains (k ∷ []) i) (sym same) (Contains-push [] k)));
      holds = holds;
    }

    somewhere : h x ≡ true → HoldsSomewhere v (k ∷ []) g x
    somewhere holds = elim (or_cases (restriction k false g x) (restriction k true g x) (sym (equal x sized) ∙ holds)) [ inl e ↦ at false e | inr e ↦ at true e ]

    value_at : (w : HoldsSomewhere v (k ∷ []) g x) → w.values ≡ set x k (get_or w.values k false)
    value_at w = ext_get_or false w.values (set x k (get_or w.values k false)) (w.sized ∙ sym sized ∙ sym (length-set x k (get_or w.values k false))) (λ i h. at_place i)
      where
        at_place : (i : ℕ) → get_or w.values i false ≡ get_or (set x k (get_or w.values k false)) i false
        at_place i = elim (cases_eq i k) [
          | inl same ↦ ap (λ j. get_or w.values j false) same ∙ sym (get_or-set_same x k (get_or w.values k false) false (omega arith)) ∙ ap (λ j. get_or (set x k (get_or w.values k false)) j false) (sym same)
          | inr other ↦ w.agree i (λ has. other (sym (one_of k i has))) ∙ sym (get_or-set_other x k i (get_or w.values k false) false other)
        ]

    chosen : (b : Bool) → restriction k b g x ≡ true → (restriction k false g x || restriction k true g x) ≡ true
    chosen true e = or_right (restriction k false g x) (restriction k true g x) e
    chosen false e = or_left (restriction k false g x) (restriction k true g x) e

    back : HoldsSomewhere v (k ∷ []) g x → h x ≡ true
    back w = equal x sized ∙ chosen (get_or w.values k false) (ap g (sym (value_at w)) ∙ w.holds)

-- one variable more
pub IsExists-more : (v k : ℕ) (vars : List ℕ) (g h i : Function) → k < v → IsExists v vars g h → IsExists v (k ∷ []) h i → IsExists v (vars ++ k ∷ []) g i
IsExists-more v k vars g h i below first second x sized = (somewhere, back)
  where
    somewhere : i x ≡ true → HoldsSomewhere v (vars ++ k ∷ []) g x
    somewhere holds =
        let w = (second x sized).0 holds in
        let u = (first w.values w.sized).0 w.holds in
        record {
          values = u.values;
          sized = u.sized;
          agree = λ j other.
              u.agree j (λ has. other (Contains-append_left vars (k ∷ []) j has))
              ∙ w.agree j (λ has. other (subst (λ i. Contains (vars ++ k ∷ []) i) (one_of k j has) (Contains-push vars k)));
          holds = u.holds;
        }

    back : HoldsSomewhere v (vars ++ k ∷ []) g x → i x ≡ true
    back w =
        let b = get_or w.values k false in
        let y = set x k b in
        let y_sized : length y ≡ v = length-set x k b ∙ sized in
        let inner : HoldsSomewhere v vars g y = record {
          values = w.values;
          sized = w.sized;
          agree = λ j other. elim (cases_eq j k) [
            | inl same ↦ ap (λ n. get_or w.values n false) same ∙ sym (get_or-set_same x k b false (omega arith)) ∙ ap (λ n. get_or y n false) (sym same)
            | inr different ↦ w.agree j (λ has. elim (Contains-push_cases vars k j has) [ inl before ↦ other before | inr here ↦ different (sym here) ]) ∙ sym (get_or-set_other x k j b false different)
          ];
          holds = w.holds;
        } in
        (second x sized).1 (record {
          values = y;
          sized = y_sized;
          agree = λ j other. get_or-set_other x k j b false (λ same. other (subst (λ n. Contains (k ∷ []) n) (sym same) (Contains-push [] k)));
          holds = (first y y_sized).1 inner;
        })

contains_none : (k : ℕ) → Contains [] k → ⊥
contains_none k has = omega (arith, has.1)

-- no variable
pub IsExists-none : (v : ℕ) (g h : Function) → AreEqual v h g → IsExists v [] g h
IsExists-none v g h equal x sized = (
  λ holds. record { values = x; sized = sized; agree = λ k other. refl; holds = sym (equal x sized) ∙ holds },
  λ w.
      let same : w.values ≡ x = ext_get_or false w.values x (w.sized ∙ sym sized) (λ k h. w.agree k (contains_none k)) in
      equal x sized ∙ ap g (sym same) ∙ w.holds,
)

-- a constant
pub IsExists-constant : (v : ℕ) (vars : List ℕ) (g : Function) (b : Bool) → ((x : List Bool) → g x ≡ b) → IsExists v vars g g
IsExists-constant v vars g b constant x sized =
    (λ holds. record { values = x; sized = sized; agree = λ k other. refl; holds = holds }, λ w. constant x ∙ sym (constant w.values) ∙ w.holds)

pub IsExists-equal : (v : ℕ) (vars : List ℕ) (g h i : Function) → AreEqual v h i → IsExists v vars g h → IsExists v vars g i
IsExists-equal v vars g h i equal is x sized = (λ holds. (is x sized).0 (equal x sized ∙ holds), λ w. sym (equal x sized) ∙ (is x sized).1 w)

pub is_node_with : (arena : ArenaView) (v : ℕ) (vars : List ℕ) (g : Function) (f : ℕ) → arena.variables ≡ v → IsArena arena → Holds arena f → IsExists v vars g (function_of arena f) → IsNodeWith arena (IsExists v vars g) f
is_node_with arena v vars g f same valid held means = record {
  held = held;
  has = means;
  only = λ h held_h means_h. canonical arena.variables arena.nodes valid.reduced h f held_h held (λ x sized. same_if_iff (function_of arena h x) (function_of arena f x) (means_h x (sized ∙ same)) (means x (sized ∙ same)));
}

lacks_function : (arena : ArenaView) (g : Function) → LacksCofactor arena g → LacksFunction arena
lacks_function arena g l = record { function = l.cofactor; lacks = l.lacks }

-- ---- one variable: two restrictions and their disjunction

twice_fits : (k v : ℕ) → k < v → 2 ^ k + 2 ^ k ≤ 2 ^ v
twice_fits k v below =
    let doubled : 2 ^ suc k ≡ 2 ^ k * 2 = pow-suc 2 k in
    let p : 2 ^ suc k ≤ 2 ^ v = pow_mono (omega arith) in
    omega (arith, doubled, p)

-- the second restriction fails
pub one_fails : {a b c : ArenaView} {k m n : ℕ} {f g : Function} {Has : Function → Type 0} {without : NodeId} {e : DdError} → k < a.variables
    → Makes m a b f (Ok without) → node_count b.nodes < node_count a.nodes + 2 ^ k → Makes n b c g (Err e) → node_count c.nodes < node_count b.nodes + 2 ^ k → MakesNodeWith (2 ^ (a.variables + 1)) a c Has (Err e)
one_fails {a} {b} {c} {k} {m} {n} {f} {g} {Has} {without} {e} below first few_first second few_second =
    let v = a.variables in
    let p : 2 ^ k + 2 ^ k ≤ 2 ^ v = twice_fits k v below in
    let q : 2 ^ v ≤ 2 ^ (v + 1) = pow_mono (omega arith) in
    record {
      was = first.was;
      arena = second.arena;
      keeps = Keeps-trans a b c first.keeps second.keeps;
      few = omega (arith, few_first, few_second, p, q);
      node = tt;
      full = second.full;
      lacks = λ is. lacks_function c g (second.lacks is);
    }

-- the two results and their disjunction
pub one_done : {a b c d : ArenaView} {k m n o f : ℕ} {without with : NodeId} {result : Result NodeId DdError} → k < a.variables → Holds a f
    → Makes m a b (restriction k false (function_of a f)) (Ok without) → node_count b.nodes < node_count a.nodes + 2 ^ k
    → Makes n b c (restriction k true (function_of b f)) (Ok with) → node_count c.nodes < node_count b.nodes + 2 ^ k
    → Makes o c d (either (function_of c without.0) (function_of c with.0)) result → node_count d.nodes < node_count c.nodes + 2 ^ c.variables
    → MakesNodeWith (2 ^ (a.variables + 1)) a d (IsExists a.variables (k ∷ []) (function_of a f)) result
one_done {a} {b} {c} {d} {k} {m} {n} {o} {f} {without} {with} {result} below held first few_first second few_second third few_third =
    let v = a.variables in
    let keeps_c = Keeps-trans a b c first.keeps second.keeps in
    let keeps_d = Keeps-trans a c d keeps_c third.keeps in
    let p : 2 ^ k + 2 ^ k ≤ 2 ^ v = twice_fits k v below in
    let q : 2 ^ v + 2 ^ v ≤ 2 ^ (v + 1) = twice_fits v (v + 1) (omega arith) in
    let few_last : node_count d.nodes < node_count c.nodes + 2 ^ v = subst (λ w. node_count d.nodes < node_count c.nodes + 2 ^ w) keeps_c.variables few_third in
    let values : (x : List Bool) → length x ≡ v → either (function_of c without.0) (function_of c with.0) x ≡ (restriction k false (function_of a f) x || restriction k true (function_of a f) x) = λ x sized.
    let sized_b = sized ∙ sym first.keeps.variables in let sized_c = sized ∙ sym keeps_c.variables in
    ap (λ t. t || function_of c with.0 x) (second.keeps.denotes without.0 first.node.held x sized_b ∙ first.node.denotes x sized_b)
    ∙ ap (λ t. restriction k false (function_of a f) x || t) (second.node.denotes x sized_c ∙ first.keeps.denotes f held (set x k true) (length-set x k true ∙ sized)) in
    record {
      was = first.was;
      arena = third.arena;
      keeps = keeps_d;
      few = omega (arith, few_first, few_second, few_last, p, q);
      node = of_result result keeps_d.variables third.arena third.node (IsExists-one v k (function_of a f) (either (function_of c without.0) (function_of c with.0)) below values);
      full = third.full;
      lacks = λ is. lacks_function d (either (function_of c without.0) (function_of c with.0)) (third.lacks is);
    }
  where
    of_result : (r : Result NodeId DdError) → d.variables ≡ a.variables → IsArena d → IfOk r (λ h. IsNodeOf d (either (function_of c without.0) (function_of c with.0)) h.0)
        → IsExists a.variables (k ∷ []) (function_of a f) (either (function_of c without.0) (function_of c with.0)) → IfOk r (λ h. IsNodeWith d (IsExists a.variables (k ∷ []) (function_of a f)) h.0)
    of_result (Err e) same valid node means = tt
    of_result (Ok h) same valid node means =
        is_node_with d a.variables (k ∷ []) (function_of a f) h.0 same valid node.held
        (IsExists-equal a.variables (k ∷ []) (function_of a f) (either (function_of c without.0) (function_of c with.0)) (function_of d h.0) (λ x sized. sym (node.denotes x (sized ∙ sym same))) means)

-- ---- the variables in turn

pub exists_constant : {a : ArenaView} {f : NodeId} (most : ℕ) (vars : List ℕ) → IsArena a → Holds a f.0 → node_at a.nodes f.0 ≡ None → MakesNodeWith most a a (IsExists a.variables vars (function_of a f.0)) (Ok f)
exists_constant {a} {f} most vars valid held none = record {
  was = valid;
  arena = valid;
  keeps = Keeps-refl a;
  few = omega arith;
  node = is_node_with a a.variables vars (function_of a f.0) f.0 refl valid held (IsExists-constant a.variables vars (function_of a f.0) (nat_eq f.0 1) (λ x. walk-constant a.nodes 0 f.0 x none));
  full = λ e. absurd (ok_is_not_err e);
  lacks = λ e. absurd (ok_is_not_err e);
}
  where
    ok_is_not_err : ◌≡◌ {A = Result NodeId DdError} (Ok f) (Err Budget) → ⊥
    ok_is_not_err e = cc

-- g in b is f in a with the first i variables quantified
pub record SoFar (a : ArenaView) (f : ℕ) (vars : List ℕ) (i : ℕ) (b : ArenaView) (g : ℕ) : Type 0 where
  pub was : IsArena a
  pub valid : IsArena b
  pub keeps : Keeps a b
  pub held : Holds b g
  pub means : IsExists a.variables (take i vars) (function_of a f) (function_of b g)
  pub few : node_count b.nodes ≤ node_count a.nodes + i * 2 ^ (a.variables + 1)

pub so_far_none : (a : ArenaView) (f : ℕ) (vars : List ℕ) → IsArena a → Holds a f → SoFar a f vars 0 a f
so_far_none a f vars valid held = record {
  was = valid;
  valid = valid;
  keeps = Keeps-refl a;
  held = held;
  means = IsExists-none a.variables (function_of a f) (function_of a f) (λ x sized. refl);
  few = omega arith;
}

one_more_times : (i n : ℕ) → (i + 1) * n ≡ i * n + n
one_more_times i n = omega arith

pub so_far_more : {a b c : ArenaView} {f i g : ℕ} {vars : List ℕ} {h : NodeId} → i < length vars → get_or vars i 0 < a.variables → SoFar a f vars i b g
    → MakesNodeWith (2 ^ (b.variables + 1)) b c (IsExists b.variables (get_or vars i 0 ∷ []) (function_of b g)) (Ok h) → SoFar a f vars (i + 1) c h.0
so_far_more {a} {b} {c} {f} {i} {g} {vars} {h} within below before made =
    let v = a.variables in let k = get_or vars i 0 in
    let one : IsExists v (k ∷ []) (function_of b g) (function_of c h.0) = subst (λ w. IsExists w (k ∷ []) (function_of b g) (function_of c h.0)) before.keeps.variables made.node.has in
    let both = IsExists-more v k (take i vars) (function_of a f) (function_of b g) (function_of c h.0) below before.means one in
    let few_one : node_count c.nodes ≤ node_count b.nodes + 2 ^ (v + 1) = subst (λ w. node_count c.nodes ≤ node_count b.nodes + 2 ^ (w + 1)) before.keeps.variables made.few in
    record {
      was = before.was;
      valid = made.arena;
      keeps = Keeps-trans a b c before.keeps made.keeps;
      held = made.node.held;
      means = subst (λ ks. IsExists v ks (function_of a f) (function_of c h.0)) (sym (take_more vars i 0 within)) both;
      few = omega (arith, before.few, few_one, one_more_times i (2 ^ (v + 1)));
    }

pub so_far_all : {a b : ArenaView} {f i : ℕ} {g : NodeId} {vars : List ℕ} → length vars ≤ i → i ≤ length vars → SoFar a f vars i b g.0
    → MakesNodeWith (length vars * 2 ^ (a.variables + 1)) a b (IsExists a.variables vars (function_of a f)) (Ok g)
so_far_all {a} {b} {f} {i} {g} {vars} past within before =
    let all : take i vars ≡ vars = take_all i vars past in
    let same : i ≡ length vars = omega arith in
    record {
      was = before.was;
      arena = before.valid;
      keeps = before.keeps;
      few = subst (λ j. node_count b.nodes ≤ node_count a.nodes + j * 2 ^ (a.variables + 1)) same before.few;
      node = is_node_with b a.variables vars (function_of a f) g.0 before.keeps.variables before.valid before.held (subst (λ ks. IsExists a.variables ks (function_of a f) (function_of b g.0)) all before.means);
      full = λ e. absurd (ok_is_not_err g e);
      lacks = λ e. absurd (ok_is_not_err g e);
    }
  where
    ok_is_not_err : (g : NodeId) → ◌≡◌ {A = Result NodeId DdError} (Ok g) (Err Budget) → ⊥
    ok_is_not_err g e = cc

pub so_far_fails : {a b c : ArenaView} {f i g : ℕ} {vars : List ℕ} {Has : Function → Type 0} {e : DdError} → i < length vars → SoFar a f vars i b g
    → MakesNodeWith (2 ^ (b.variables + 1)) b c Has (Err e) → MakesNodeWith (length vars * 2 ^ (a.variables + 1)) a c (IsExists a.variables vars (function_of a f)) (Err e)
so_far_fails {a} {b} {c} {f} {i} {g} {vars} {Has} {e} within before failed =
    let v = a.variables in
    let few_one : node_count c.nodes ≤ node_count b.nodes + 2 ^ (v + 1) = subst (λ w. node_count c.nodes ≤ node_count b.nodes + 2 ^ (w + 1)) before.keeps.variables failed.few in
    let most : (i + 1) * 2 ^ (v + 1) ≤ length vars * 2 ^ (v + 1) = mul-le-mul_right (2 ^ (v + 1)) (omega arith) in
    record {
      was = before.was;
      arena = failed.arena;
      keeps = Keeps-trans a b c before.keeps failed.keeps;
      few = omega (arith, before.few, few_one, most, one_more_times i (2 ^ (v + 1)));
      node = tt;
      full = failed.full;
      lacks = failed.lacks;
    }
