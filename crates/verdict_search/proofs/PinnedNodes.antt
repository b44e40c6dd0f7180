-- Functions pinned to one point.
use Rattle.std.proofs.Common.{◌≡◌, ℕ, ◌+◌, ◌-◌, ◌*◌, ◌^◌, ◌<◌, ◌≤◌, List, [], ◌∷◌, ◌++◌, Bool, true, false, ◌&&◌, not, if◌then◌else◌, refl, sym, ap, ◌∙◌, arith, length, take, drop, get_or, Result, Ok, IfOk}
use Rattle.std.proofs.lemmas.List.{drop_more, take_more, take_all, get_or_append_left}
use Rattle.std.specs.Prelude.{All}
use Rattle.argos_base.specs.SignalSets.{SignalSet, has}
use Rattle.dd_core.specs.declared.nodes.NodeId.{NodeId}
use Rattle.dd_core.specs.declared.errors.DdError.{DdError}
use Rattle.dd_core.specs.Functions.{both, opposite, variable_value}
use Rattle.dd_core.specs.Arenas.{ArenaView, IsArena, Holds, function_of, Makes, AddsAtMost}
use Rattle.eqn_dd.specs.Denoting.{Denotes}
use Rattle.eqn_dd.proofs.Denotations.{adds_one, adds_in_turn, adds_fewer, adds_nothing, denotes_constant}
use Rattle.eqn_verdict.specs.Diagrams.{Splits, are_same}
use Rattle.verdict_search.specs.Parts.{meet}
use Rattle.verdict_search.specs.inner.Pinning.{literal_function, IsPoint, IsPinnedTo}
use Rattle.verdict_search.proofs.PartNodes.{start, meet_push}
use Rattle.verdict_search.proofs.SplitNodes.{sized_in, splits_later, splits_made, splits_both, made_ok}

pub literal_true : {m k : ℕ} {A B : ArenaView} {f : NodeId} (value : Bool) → value ≡ true → Makes m A B (variable_value k) (Ok f) → Denotes B f.0 (literal_function k value)
literal_true {m} {k} {A} {B} {f} value is made = rw is (record { held = made.node.held; equal = made.node.denotes })

pub literal_false : {m n k : ℕ} {A B C : ArenaView} {f : NodeId} (value : Bool) (result : Result NodeId DdError) → value ≡ false → Makes m A B (variable_value k) (Ok f) → Makes n B C (opposite (function_of B f.0)) result → IfOk result (λ g. Denotes C g.0 (literal_function k value))
literal_false {m} {n} {k} {A} {B} {C} {f} value result is first second =
    rw is (made_ok result second (λ g made. record { held = made.node.held; equal = λ x xs. made.node.denotes x xs ∙ ap not (first.node.denotes x (xs ∙ made.keeps.variables)) }))

-- from a place on the values are those of the point
pub record PointSoFar (old : ArenaView) (z : SignalSet) (left : ℕ) (new : ArenaView) (f : ℕ) : Type 0 where
  pub inside : left ≤ length z
  pub adds : AddsAtMost (3 * (length z - left)) old new
  pub held : Holds new f
  pub right : (c : ℕ) → old.variables ≡ length z + c → Splits (length z) c (function_of new f) (λ y x. are_same (drop left y) (drop left z))

nothing-left : (l : List Bool) → drop (length l) l ≡ []
nothing-left [] = refl
nothing-left (b ∷ l) = nothing-left l

pub point_none : (arena : ArenaView) (z : SignalSet) → IsArena arena → PointSoFar arena z (length z) arena 1
point_none arena z valid = record {
  inside = omega arith;
  adds = adds_nothing _ arena valid;
  held = constant_is.held;
  right = λ c v y x ys xs.
      constant_is.equal (y ++ x) (sized_in y x v ys xs)
      ∙ sym (ap (λ (l : SignalSet). are_same l (drop (length z) z)) (ap (λ (n : ℕ). drop n y) (sym ys) ∙ nothing-left y) ∙ ap (are_same []) (nothing-left z));
}
  where
    constant_is : Denotes arena 1 (λ x. true)
    constant_is = denotes_constant arena 1 true valid refl

pub point_more : {old new mid newer : ArenaView} {z : SignalSet} {left f : ℕ} {value : Bool} {here next : NodeId} → 0 < left → value ≡ get_or z (left - 1) false → PointSoFar old z left new f → AddsAtMost 2 new mid → Denotes mid here.0 (literal_function (left - 1) value)
    → Makes (2 ^ (mid.variables + 1)) mid newer (both (function_of mid here.0) (function_of mid f)) (Ok next) → PointSoFar old z (left - 1) newer next.0
point_more {old} {new} {mid} {newer} {z} {left} {f} {value} {here} {next} some value_is before adds literal made = record {
  inside = omega (arith, before.inside);
  adds = adds_in_turn (3 * (length z - left) + 2) 1 _ (omega (arith, before.inside)) (adds_in_turn _ 2 (3 * (length z - left) + 2) (omega arith) before.adds adds) (adds_one made);
  held = made.node.held;
  right = λ c v.
      let k = left - 1 in
      let a = length z in
      let v_new = before.adds.keeps.variables ∙ v in
      let v_mid = adds.keeps.variables ∙ v_new in
      let rest : Splits a c (function_of mid f) (λ y x. are_same (drop left y) (drop left z)) = splits_later v_new before.held adds.keeps (before.right c v) in
      let low : k < a = omega (arith, before.inside) in
      let next_is : k + 1 ≡ left = omega arith in
      let digit : Splits a c (function_of mid here.0) (λ y x. literal_function k value y) = λ y x ys xs. literal.equal (y ++ x) (sized_in y x v_mid ys xs) ∙ ap (λ (b : Bool). if value then b else not b) (get_or_append_left y x false k (omega arith)) in
      λ y x ys xs.
      splits_made v_mid made (splits_both (function_of mid here.0) (function_of mid f) digit rest) y x ys xs
      ∙ ap (λ (b : Bool). (if b then has y k else not (has y k)) && are_same (drop left y) (drop left z)) value_is
      ∙ sym (
      ap (λ (l : SignalSet). are_same l (drop k z)) (drop_more y k false (omega arith) ∙ ap (λ (n : ℕ). has y k ∷ drop n y) next_is)
      ∙ ap (are_same (has y k ∷ drop left y)) (drop_more z k false low ∙ ap (λ (n : ℕ). has z k ∷ drop n z) next_is));
}

pub point_all : {old new : ArenaView} {z : SignalSet} {left f : ℕ} → left ≡ 0 → PointSoFar old z left new f → IsPoint new z f
point_all {old} {new} {z} {left} {f} end before c v y x ys xs =
    before.right c (sym before.adds.keeps.variables ∙ v) y x ys xs ∙ ap (λ (n : ℕ). are_same (drop n y) (drop n z)) end

-- ---- met with functions at the point

-- the first functions, as many as i says
pub record PinnedSoFar (old : ArenaView) (z : SignalSet) (fs : List NodeId) (i : ℕ) (new : ArenaView) (q : ℕ) : Type 0 where
  pub adds : AddsAtMost (3 * length z + i) old new
  pub held : Holds new q
  pub right : (c : ℕ) → old.variables ≡ length z + c → Splits (length z) c (function_of new q) (λ y x. are_same y z && meet old (take i fs) (y ++ x))

pub pinned_none : {A B : ArenaView} {there : NodeId} (z : SignalSet) (fs : List NodeId) → AddsAtMost (3 * length z) A B → Holds B there.0 → IsPoint B z there.0 → PinnedSoFar A z fs 0 B there.0
pinned_none {A} {B} {there} z fs adds held is = record {
  adds = adds_fewer (3 * length z) (3 * length z + 0) (omega arith) adds;
  held = held;
  right = λ c v y x ys xs. is c (adds.keeps.variables ∙ v) y x ys xs ∙ whole (are_same y z);
}
  where
    whole : (b : Bool) → b ≡ (b && true)
    whole true = refl
    whole false = refl

pub pinned_more : {A B C : ArenaView} {z : SignalSet} {i q : ℕ} {next : NodeId} (fs : List NodeId) (f : NodeId) → i < length fs → All (λ (g : NodeId). Holds A g.0) fs → f ≡ get_or fs i start → PinnedSoFar A z fs i B q → Makes (2 ^ (B.variables + 1)) B C (both (function_of B q) (function_of B f.0)) (Ok next) → PinnedSoFar A z fs (i + 1) C next.0
pinned_more {A} {B} {C} {z} {i} {q} {next} fs f low held f_is before made = record {
  adds = adds_in_turn (3 * length z + i) 1 (3 * length z + (i + 1)) (omega arith) before.adds (adds_one made);
  held = made.node.held;
  right = λ c v y x ys xs.
      let v_b = before.adds.keeps.variables ∙ v in
      let at = sized_in y x v ys xs in
      made.node.denotes (y ++ x) (sized_in y x (made.keeps.variables ∙ v_b) ys xs)
      ∙ ap (λ (b : Bool). b && function_of B f.0 (y ++ x)) (before.right c v y x ys xs)
      ∙ ap (λ (g : NodeId). (are_same y z && meet A (take i fs) (y ++ x)) && function_of B g.0 (y ++ x)) f_is
      ∙ ap (λ (b : Bool). (are_same y z && meet A (take i fs) (y ++ x)) && b) (before.adds.keeps.denotes (get_or fs i start).0 (held i start low) (y ++ x) at)
      ∙ moved (are_same y z) (meet A (take i fs) (y ++ x)) (function_of A (get_or fs i start).0 (y ++ x))
      ∙ ap (λ (b : Bool). are_same y z && b) (sym (ap (λ (l : List NodeId). meet A l (y ++ x)) (take_more fs i start low) ∙ meet_push A (take i fs) (get_or fs i start) (y ++ x)));
}
  where
    moved : (p q r : Bool) → ((p && q) && r) ≡ (p && (q && r))
    moved true q r = refl
    moved false q r = refl

pub pinned_all : {A B : ArenaView} {z : SignalSet} {i q : ℕ} (fs : List NodeId) → length fs ≤ i → PinnedSoFar A z fs i B q → IsPinnedTo A B z fs q
pinned_all {A} {B} {z} {i} {q} fs end done c F v s y x ys xs =
    done.right c v y x ys xs
    ∙ ap (λ (l : List NodeId). are_same y z && meet A l (y ++ x)) (take_all i fs end)
    ∙ ap (λ (b : Bool). are_same y z && b) (s y x ys xs)
