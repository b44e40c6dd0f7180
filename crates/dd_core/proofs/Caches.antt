-- What the arena's cache and table leave.
use Rattle.std.proofs.Common.{◌≡◌, ◌≢◌, ℕ, zero, suc, ◌+◌, ◌<◌, ◌≤◌, Some, None, List, [], ◌∷◌, ◌++◌, length, refl, sym, ap, ◌∙◌, subst, inl, inr, ◌⊎◌, arith}
use Rattle.std.proofs.lemmas.Option.{none-some}
use Rattle.dd_core.specs.declared.nodes.Node.{Node}
use Rattle.dd_core.specs.declared.nodes.NodeId.{NodeId}
use Rattle.dd_core.specs.declared.cache.Choice.{Choice}
use Rattle.dd_core.specs.declared.cache.Entry.{Entry}
use Rattle.dd_core.specs.declared.cache.Operation.{Operation}
use Rattle.dd_core.specs.Diagrams.{node_at, node_count}
use Rattle.dd_core.specs.Arenas.{ArenaView, IsArena}
use Rattle.dd_core.specs.Operations.{IsResult}
use Rattle.dd_core.specs.inner.Adding.{IsFresh, in_turn, AddsNode}
use Rattle.dd_core.specs.inner.Caches.{IsInitial, IsRecorded, AreResults, IsSound}
use Rattle.dd_core.proofs.Walks.{held_constant}
use Rattle.dd_core.proofs.InTurn.{node_count-in_turn}
use Rattle.dd_core.proofs.Adding.{add_in_turn}
use Rattle.dd_core.proofs.Making.{mk_added}
use Rattle.dd_core.proofs.Chosen.{IsResult-kept}
use Rattle.dd_core.proofs.MakingChoices.{settled_is}

-- the entry of an empty cache is right everywhere
pub initial_result : (arena : ArenaView) (operation : Operation) (f : NodeId) → IsArena arena → IsInitial (record { operation = operation; node = f }) → IsResult arena operation f
initial_result arena operation f valid is =
    let c : Choice = record { test = record { 0 = 0 }; yes = record { 0 = 1 }; no = record { 0 = 0 } } in
    let held = held_constant arena.nodes in
    let zero_is : f ≡ record { 0 = 0 } = ap (λ (e : Entry). e.node) is in
    subst (λ (o : Operation). IsResult arena o f) (sym (ap (λ (e : Entry). e.operation) is))
    (settled_is arena c valid (record { test = held 0 (omega arith); yes = held 1 (omega arith); no = held 0 (omega arith) }) f (record { is = inl (inl (inr (refl, zero_is))) }))

-- results stay right where others take their places
pub results_put : (arena : ArenaView) (old new : List Entry) (operation : Operation) (f : NodeId) → AreResults arena old → IsResult arena operation f
    → ((other : Operation) (g : NodeId) → IsRecorded new other g → IsRecorded old other g ⊎ (other ≡ operation) × (g ≡ f)) → AreResults arena new
results_put arena old new operation f are is put other g at =
    elim (put other g at) [
      | inl before ↦ are other g before
      | inr new_one ↦ subst (λ (o : Operation). IsResult arena o g) (sym new_one.0) (subst (λ (h : NodeId). IsResult arena operation h) (sym new_one.1) is)
    ]

-- a node put behind the others
pub sound_more : (v most : ℕ) (xs : List Node) (entries : List Entry) (n : Node) → IsSound (in_turn v most xs) entries → IsFresh v (in_turn v most xs).nodes n → node_count (in_turn v most xs).nodes ≢ most
    → IsSound (in_turn v most (xs ++ n ∷ [])) entries × AddsNode (in_turn v most xs) (in_turn v most (xs ++ n ∷ [])) n (node_count (in_turn v most xs).nodes)
sound_more v most xs entries n sound fresh room =
    let old = in_turn v most xs in let new = in_turn v most (xs ++ n ∷ []) in
    let f : NodeId = record { 0 = node_count old.nodes } in
    let adds : AddsNode old new n f.0 = add_in_turn v most xs n sound.valid fresh room in
    let made = mk_added old new n f sound.valid fresh adds in
    (record { valid = adds.valid; results = λ operation g at. IsResult-kept old new sound.valid adds.valid made.keeps operation g (sound.results operation g at) }, adds)

-- there is room in the table where the budget isn't used up
pub table_room : (v most : ℕ) (xs : List Node) → IsArena (in_turn v most xs) → node_count (in_turn v most xs).nodes ≢ most → length xs + 2 < 16777216
table_room v most xs valid room = omega (arith, node_count-in_turn v most xs, valid.within, valid.greatest_budget, room)

-- an arena with no node but the constants
pub sound_none : (v most : ℕ) (xs : List Node) (entries : List Entry) → v ≤ 1024 → 2 ≤ most → most ≤ 16777216 → xs ≡ []
    → ((operation : Operation) (f : NodeId) → IsRecorded entries operation f → IsInitial (record { operation = operation; node = f })) → IsSound (in_turn v most xs) entries
sound_none v most xs entries few least greatest none initial =
    subst (λ ys. IsSound (in_turn v most ys) entries) (sym none) (record { valid = valid; results = λ operation f at. initial_result (in_turn v most []) operation f valid (initial operation f at) })
  where
    none_at : (f : ℕ) → node_at (in_turn v most []).nodes f ≡ None
    none_at zero = refl
    none_at (suc zero) = refl
    none_at (suc (suc f)) = refl

    not_some : (f : ℕ) (n : Node) → node_at (in_turn v most []).nodes f ≡ Some n → ⊥
    not_some f n is = none-some n (sym (none_at f) ∙ is)

    valid : IsArena (in_turn v most [])
    valid = record {
      reduced = record {
        no_false = refl;
        no_true = refl;
        once = λ f g n is_f is_g. absurd (not_some f n is_f);
        different = λ f n is. absurd (not_some f n is);
        variable = λ f n is. absurd (not_some f n is);
        low_later = λ f n is. absurd (not_some f n is);
        high_later = λ f n is. absurd (not_some f n is);
      };
      few_variables = few;
      least_budget = least;
      greatest_budget = greatest;
      within = least;
    }
