-- Nodes that are added to: what the old ones keep, and that the whole stays reduced.
use Rattle.std.proofs.Common.{◌≡◌, ◌≢◌, ℕ, zero, suc, ◌+◌, ◌<◌, ◌≤◌, List, [], ◌∷◌, ◌++◌, Option, Some, None, Bool, true, false, ◌||◌, if◌then◌else◌, nat_lt, is_some, length, get_or, refl, sym, ap, ◌∙◌, subst, inl, inr, ◌⊎◌, arith}
use Rattle.std.proofs.lemmas.Bool.{cases_eq}
use Rattle.std.proofs.lemmas.List.{get_or_past, length-append}
use Rattle.std.proofs.Math.Seq.{get_or-append_seam}
use Rattle.dd_core.specs.declared.nodes.Node.{Node}
use Rattle.dd_core.specs.Functions.{AreEqual, variable_value, if_else}
use Rattle.dd_core.specs.Diagrams.{Nodes, node_at, after, walk, denotes, level, level_as, IsReduced, is_held, triple_count}
use Rattle.dd_core.specs.inner.Adding.{IsFresh, HasMore}
use Rattle.dd_core.proofs.Walks.{child, held_cases, held_at, held_level, level_at, child-at, child-later, child-held, denotes-child}
use Rattle.dd_core.proofs.Canonical.{canonical}

constant_none : (v : ℕ) (nodes : Nodes) → IsReduced v nodes → (f : ℕ) → f < 2 → node_at nodes f ≡ None
constant_none v nodes r zero h = r.no_false
constant_none v nodes r (suc zero) h = r.no_true
constant_none v nodes r (suc (suc f)) h = absurd (omega arith)

module _ (v : ℕ) (old new : Nodes) (r : IsReduced v old) (s : IsReduced v new) (keeps : (f : ℕ) (n : Node) → node_at old f ≡ Some n → node_at new f ≡ Some n) where
  -- each id held stands for the same node
  pub node_at-kept : (f : ℕ) → is_held old f ≡ true → node_at new f ≡ node_at old f
  node_at-kept f h =
      elim (held_cases old f h) [
        | inl none ↦ constant_none v new s f none.0 ∙ sym none.1
        | inr some ↦ keeps f some.0 some.1 ∙ sym some.1
      ]

  pub held-kept : (f : ℕ) → is_held old f ≡ true → is_held new f ≡ true
  held-kept f h = ap (λ o. nat_lt f 2 || is_some o) (node_at-kept f h) ∙ h

  pub level-kept : (f : ℕ) → is_held old f ≡ true → level v new f ≡ level v old f
  level-kept f h = ap (level_as v f) (node_at-kept f h)

  walk-kept : (d k f : ℕ) (x : List Bool) → k + d ≡ v → length x ≡ d → is_held old f ≡ true → k ≤ level v old f → walk new k f x ≡ walk old k f x
  walk-kept d k f [] at sized h low = refl
  walk-kept zero k f (b ∷ x) at sized h low = absurd (omega arith)
  walk-kept (suc d) k f (b ∷ x) at sized h low =
      ap (λ o. walk new (k + 1) (after k b f o) x) (node_at-kept f h)
      ∙ walk-kept d (k + 1) (child old k b f) x (omega arith) (omega arith) (child-held v old r k b f h low (omega arith)) (omega (arith, child-later v old r k b f h low (omega arith)))

  -- what was denoted is denoted
  pub denotes-kept : (f : ℕ) → is_held old f ≡ true → AreEqual v (denotes new f) (denotes old f)
  denotes-kept f h x sized = walk-kept v 0 f x (omega arith) sized h (omega arith)

module _ (v : ℕ) (old new : Nodes) (place : ℕ) (n : Node) (r : IsReduced v old) (fresh : IsFresh v old n) (more : HasMore old new place n) where
  not_held : (f : ℕ) → is_held old f ≡ true → f ≢ place
  not_held f h same =
      elim (held_cases old f h) [
        | inl none ↦ omega (arith, more.past_constants, none.0, same)
        | inr some ↦ let free : node_at old f ≡ None = ap (node_at old) same ∙ more.was_free in let is = some.1 in cc
      ]

  kept : (f : ℕ) → is_held old f ≡ true → node_at new f ≡ node_at old f
  kept f h = more.elsewhere f (not_held f h)

  later : (k f : ℕ) → k < level v old f → k < level v new f
  later k f low = subst (λ j. k < j) (sym (ap (level_as v f) (kept f (held_level v old k f low)))) low

  same_Some : (m : Node) (o : Option Node) → o ≡ Some m → o ≡ Some n → m ≡ n
  same_Some m o p q = cc

  pub came : (f : ℕ) (m : Node) → node_at new f ≡ Some m → (node_at old f ≡ Some m) ⊎ ((f ≡ place) × (m ≡ n))
  came f m is =
      elim (cases_eq f place) [
        | inl same ↦ inr (same, same_Some m (node_at new f) is (ap (node_at new) same ∙ more.here))
        | inr other ↦ inl (sym (more.elsewhere f other) ∙ is)
      ]

  pub more_keeps : (f : ℕ) (m : Node) → node_at old f ≡ Some m → node_at new f ≡ Some m
  more_keeps f m is = more.elsewhere f (λ same. free_or_held f m is same) ∙ is
    where
      free_or_held : (f : ℕ) (m : Node) → node_at old f ≡ Some m → f ≡ place → ⊥
      free_or_held f m is same = let free : node_at old f ≡ None = ap (node_at old) same ∙ more.was_free in cc

  at_constant : (f : ℕ) → f < 2 → node_at old f ≡ None → node_at new f ≡ None
  at_constant f low none = more.elsewhere f (λ same. absurd (omega (arith, more.past_constants))) ∙ none

  -- the nodes with n are reduced
  pub more_reduced : IsReduced v new
  more_reduced = record {
    no_false = at_constant 0 (omega arith) r.no_false;
    no_true = at_constant 1 (omega arith) r.no_true;
    once = λ f g m is_f is_g. elim (came f m is_f) [
      | inl old_f ↦ elim (came g m is_g) [
        | inl old_g ↦ r.once f g m old_f old_g
        | inr new_g ↦ absurd (fresh.new f (old_f ∙ ap Some new_g.1))
      ]
      | inr new_f ↦ elim (came g m is_g) [
        | inl old_g ↦ absurd (fresh.new g (old_g ∙ ap Some new_f.1))
        | inr new_g ↦ new_f.0 ∙ sym new_g.0
      ]
    ];
    different = λ f m is. elim (came f m is) [
      | inl old_f ↦ r.different f m old_f
      | inr new_f ↦ λ same. fresh.different (ap (λ (x : Node). x.low.0) (sym new_f.1) ∙ same ∙ ap (λ (x : Node). x.high.0) new_f.1)
    ];
    variable = λ f m is. elim (came f m is) [
      | inl old_f ↦ r.variable f m old_f
      | inr new_f ↦ subst (λ (x : Node). x.variable < v) (sym new_f.1) fresh.variable
    ];
    low_later = λ f m is. elim (came f m is) [
      | inl old_f ↦ later m.variable m.low.0 (r.low_later f m old_f)
      | inr new_f ↦ subst (λ (x : Node). x.variable < level v new x.low.0) (sym new_f.1) (later n.variable n.low.0 fresh.low_later)
    ];
    high_later = λ f m is. elim (came f m is) [
      | inl old_f ↦ later m.variable m.high.0 (r.high_later f m old_f)
      | inr new_f ↦ subst (λ (x : Node). x.variable < level v new x.high.0) (sym new_f.1) (later n.variable n.high.0 fresh.high_later)
    ];
  }

-- f tests n.variable, so it denotes the choice between its children
pub denotes-node : (v : ℕ) (nodes : Nodes) → IsReduced v nodes → (f : ℕ) (n : Node) → node_at nodes f ≡ Some n
    → AreEqual v (denotes nodes f) (if_else (variable_value n.variable) (denotes nodes n.high.0) (denotes nodes n.low.0))
denotes-node v nodes r f n is x sized =
    let k = n.variable in
    denotes-child v nodes r k f x (held_at nodes f n is) (omega (arith, level_at v nodes f n is)) (r.variable f n is) sized
    ∙ ap (λ g. denotes nodes g x) (child-at nodes k (get_or x k false) f n is refl)
    ∙ chosen (get_or x k false)
  where
    chosen : (b : Bool) → denotes nodes (if b then n.high.0 else n.low.0) x ≡ (if b then denotes nodes n.high.0 x else denotes nodes n.low.0 x)
    chosen true = refl
    chosen false = refl

push-other : (xs : Nodes) (o : Option Node) (f : ℕ) → f ≢ length xs → node_at (xs ++ o ∷ []) f ≡ node_at xs f
push-other [] o zero other = absurd (other refl)
push-other [] o (suc f) other = refl
push-other (x ∷ xs) o zero other = refl
push-other (x ∷ xs) o (suc f) other = push-other xs o f (λ e. other (ap suc e))

-- nodes with one more behind them
pub push : (xs : Nodes) (n : Node) → 2 ≤ length xs → HasMore xs (xs ++ Some n ∷ []) (length xs) n
push xs n long = record {
  past_constants = long;
  was_free = get_or_past xs (length xs) None (omega arith);
  here = get_or-append_seam xs (Some n) [] None;
  elsewhere = push-other xs (Some n);
}

padded : (xs : Nodes) (f : ℕ) → node_at (xs ++ None ∷ None ∷ []) f ≡ node_at xs f
padded [] zero = refl
padded [] (suc zero) = refl
padded [] (suc (suc f)) = refl
padded (x ∷ xs) zero = refl
padded (x ∷ xs) (suc f) = padded xs f

-- any nodes with one more at some free place
pub with_more : (xs : Nodes) (n : Node) → (new : Nodes) × (place : ℕ) × HasMore xs new place n
with_more xs n =
    let pad = xs ++ None ∷ None ∷ [] in
    let pushed = push pad n (omega (arith, length-append xs (None ∷ None ∷ []))) in (
      pad ++ Some n ∷ [],
      length pad,
      record {
        past_constants = pushed.past_constants;
        was_free = sym (padded xs (length pad)) ∙ pushed.was_free;
        here = pushed.here;
        elsewhere = λ f other. pushed.elsewhere f other ∙ padded xs f;
      },
    )

-- no node held denotes the choice between the children of a node that may be added
pub fresh_lacks : (v : ℕ) (nodes : Nodes) → IsReduced v nodes → (n : Node) → IsFresh v nodes n
    → (f : ℕ) → is_held nodes f ≡ true → AreEqual v (denotes nodes f) (if_else (variable_value n.variable) (denotes nodes n.high.0) (denotes nodes n.low.0)) → ⊥
fresh_lacks v nodes r n fresh f h equal =
    let w = with_more nodes n in let new = w.0 in let place = w.1 in let more = w.2 in
    let s = more_reduced v nodes new place n r fresh more in
    let keeps = more_keeps v nodes new place n r fresh more in
    let low_held = held_level v nodes n.variable n.low.0 fresh.low_later in
    let high_held = held_level v nodes n.variable n.high.0 fresh.high_later in
    let same : f ≡ place = canonical v new s f place (held-kept v nodes new r s keeps f h) (held_at new place n more.here) (λ x sized.
    denotes-kept v nodes new r s keeps f h x sized ∙ equal x sized
    ∙ chosen (get_or x n.variable false) (sym (denotes-kept v nodes new r s keeps n.high.0 high_held x sized)) (sym (denotes-kept v nodes new r s keeps n.low.0 low_held x sized))
    ∙ sym (denotes-node v new s place n more.here x sized)) in
    not_held v nodes new place n r fresh more f h same
  where
    chosen : {a b c d : Bool} (t : Bool) → a ≡ b → c ≡ d → (if t then a else c) ≡ (if t then b else d)
    chosen true p q = p
    chosen false p q = q

pub triple_count-push : (xs : Nodes) (n : Node) → triple_count (xs ++ Some n ∷ []) ≡ triple_count xs + 1
triple_count-push [] n = refl
triple_count-push (None ∷ xs) n = triple_count-push xs n
triple_count-push (Some m ∷ xs) n = ap (λ k. k + 1) (triple_count-push xs n)
