-- A node put behind the plain list.
use Rattle.std.proofs.Common.{◌≡◌, ◌≢◌, ℕ, ◌+◌, ◌<◌, List, [], ◌∷◌, ◌++◌, Some, None, true, nat_lt, length, refl, sym, ap, ◌∙◌, subst, arith}
use Rattle.std.proofs.lemmas.Bool.Decides.{nat_tests}
use Rattle.std.proofs.lemmas.List.{map-append, length-map}
use Rattle.dd_core.specs.declared.nodes.Node.{Node}
use Rattle.dd_core.specs.Diagrams.{node_count, IsReduced}
use Rattle.dd_core.specs.inner.Adding.{IsFresh, HasMore, in_turn, AddsNode}
use Rattle.dd_core.specs.Arenas.{ArenaView, IsArena, TakesLeastIds}
use Rattle.dd_core.proofs.InTurn.{node_count-in_turn, is_held-in_turn}
use Rattle.dd_core.proofs.Extension.{push, more_reduced, triple_count-push}

module _ (v most : ℕ) (xs : List Node) where
  abbrev arena : ArenaView
  arena = in_turn v most xs

  pub add_in_turn : (n : Node) → IsArena arena → IsFresh v arena.nodes n → node_count arena.nodes ≢ most → AddsNode arena (in_turn v most (xs ++ n ∷ [])) n (node_count arena.nodes)
  add_in_turn n valid fresh room =
      let new = in_turn v most (xs ++ n ∷ []) in
      let place = length arena.nodes in
      let at : node_count arena.nodes ≡ place = node_count-in_turn v most xs ∙ sized in
      let pushed : arena.nodes ++ Some n ∷ [] ≡ new.nodes = ap (λ ys. None ∷ None ∷ ys) (sym (map-append Some xs (n ∷ []))) in
      let more : HasMore arena.nodes new.nodes place n = subst (λ ys. HasMore arena.nodes ys place n) pushed (push arena.nodes n (omega (arith, sized))) in
      let reduced : IsReduced v new.nodes = more_reduced v arena.nodes new.nodes place n valid.reduced fresh more in
      let one_more : node_count new.nodes ≡ node_count arena.nodes + 1 = ap node_count (sym pushed) ∙ ap (λ k. k + 2) (triple_count-push arena.nodes n) ∙ omega arith in
      subst (λ f. AddsNode arena new n f) (sym at) (record {
        valid = record { reduced = reduced; few_variables = valid.few_variables; least_budget = valid.least_budget; greatest_budget = valid.greatest_budget; within = omega (arith, one_more, valid.within, room) };
        variables = refl;
        budget = refl;
        more = more;
        one_more = one_more;
        in_order = least_ids (xs ++ n ∷ []);
      })
    where
      least_ids : (ys : List Node) → TakesLeastIds arena (in_turn v most ys)
      least_ids ys f g held not_old less =
          let count = node_count (in_turn v most ys).nodes in
          let below : nat_lt f count ≡ true = sym (is_held-in_turn v most ys f) ∙ held in
          let p : nat_lt g count ≡ true = smaller f g count below less in
          is_held-in_turn v most ys g ∙ p
        where
          smaller : (f g n : ℕ) → nat_lt f n ≡ true → g < f → nat_lt g n ≡ true
          smaller f g n below less = grind (arith, nat_tests)

      sized : length xs + 2 ≡ length arena.nodes
      sized = omega (arith, length-map xs (λ (x : Node). Some x))
