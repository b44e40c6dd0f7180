-- The last component, and what it grows to.
use Rattle.std.proofs.Common.{◌≡◌, ℕ, ◌+◌, List, [], ◌∷◌, ◌++◌, Some, None, map, length, refl, sym, ap, subst, ◌∙◌, arith}
use Rattle.std.specs.List.{range_with_len}
use Rattle.std.proofs.lemmas.List.{map_push, length-append}
use Rattle.argos_core.specs.Process as plain
use Rattle.argos_grammar.specs.Forms.{ComponentForm}
use Rattle.argos_grammar.specs.Views.{component_of}
use Rattle.argos_grammar.specs.declared.trees.ComponentTree.{ComponentTree}
use Rattle.argos_expansion.specs.Expansion.{Visit, Grown, Known, known_after, last_of, main_grown, expansion, over, header_visit, grown_block, numbered}
use Rattle.argos_expansion.specs.inner.Growing.{known_of}
use Rattle.argos_expansion.specs.inner.Growth.{Tally, Moment, HasGrown, IsStop, counted, passed_at, first_passed, or_else}
use Rattle.argos_expansion.specs.Limits.{IsWithin}
use Rattle.argos_expansion.specs.declared.errors.ExpansionError.{ExpansionError}
use Rattle.argos_expansion.specs.inner.Placing.{placed_components, placed_main, signal_count}
use Rattle.argos_expansion.specs.inner.ShapeGrowth.{growths_after, growths_of, block_growth}
use Rattle.argos_expansion.specs.inner.Shapes.{block_shape, component_shape}
use Rattle.argos_expansion.specs.declared.placed.PlacedComponent.{PlacedComponent}
use Rattle.argos_expansion.specs.declared.placed.PlacedProcess.{PlacedProcess}
use Rattle.argos_expansion.proofs.Alike.{main_alike, knowing}
use Rattle.argos_expansion.proofs.FirstPassed.{tally_at, all_within}
use Rattle.argos_expansion.proofs.Growing.{stops_later}

known_after-append : (ks : List Known) (cs ds : List ComponentForm) → known_after ks (cs ++ ds) ≡ known_after (known_after ks cs) ds
known_after-append ks [] ds = refl
known_after-append ks (c ∷ cs) ds = known_after-append (ks ++ knowing ks c ∷ []) cs ds

last_of-push : {A : Type 0} (xs : List A) (x : A) → last_of (xs ++ x ∷ []) ≡ Some x
last_of-push [] x = refl
last_of-push (y ∷ []) x = refl
last_of-push (y ∷ z ∷ xs) x = last_of-push (z ∷ xs) x

-- the main component, where the next free number is this
abbrev pub main_at : List ComponentTree → ComponentTree → ℕ → Grown plain.Process
main_at earlier main n = grown_block (known_of earlier) (numbered ((component_of main).inputs ++ (component_of main).outputs) 0 []) 1 n (component_of main).block

abbrev pub main_signals : ComponentTree → ℕ
main_signals main = length ((component_of main).inputs ++ (component_of main).outputs)

pub expansion_last : (cs earlier : List ComponentTree) (main : ComponentTree) → cs ≡ earlier ++ main ∷ [] → expansion (map component_of cs) ≡ over (header_visit (component_of main)) (λ t. t) (main_at earlier main (main_signals main))
expansion_last cs earlier main e =
    ap (λ xs. expansion (map component_of xs)) e
    ∙ ap expansion (map_push component_of earlier main)
    ∙ ap (λ ks. main_grown (last_of ks)) (known_after-append [] (map component_of earlier) (component_of main ∷ []))
    ∙ ap main_grown (last_of-push (known_of earlier) (knowing (known_of earlier) (component_of main)))

-- the same by places
pub main_same : (earlier : List ComponentTree) (main : ComponentTree) (placed : List PlacedComponent) (sigs : List ℕ) (block : List PlacedProcess) (n : ℕ) → map component_shape placed ≡ placed_components [] (map component_of earlier)
    → sigs ≡ 0 ∷ range_with_len 0 (signal_count (component_of main)) → block_shape block ≡ placed_main (map (λ c. c.name.name) (map component_of earlier)) (component_of main) → block_growth (growths_of placed) sigs 1 n (block_shape block) ≡ main_at earlier main n
main_same earlier main placed sigs block n p s b =
    ap (λ cs. block_growth (growths_after [] cs) sigs 1 n (block_shape block)) p
    ∙ ap (λ ss. block_growth (growths_after [] (placed_components [] (map component_of earlier))) ss 1 n (block_shape block)) s
    ∙ ap (block_growth (growths_after [] (placed_components [] (map component_of earlier))) (0 ∷ range_with_len 0 (signal_count (component_of main))) 1 n) b
    ∙ sym (main_alike (map component_of earlier) (component_of main) 1 n)

abbrev start : Tally
start = tally_at []

module _ (cs earlier : List ComponentTree) (main : ComponentTree) (e : cs ≡ earlier ++ main ∷ []) (v : Visit) (same : v ≡ header_visit (component_of main)) (mid : Moment) (passes : passed_at start v ≡ None) (counts : mid.tally ≡ counted start v) where
  abbrev whole : Grown plain.Process
  whole = expansion (map component_of cs)

  passes_header : passed_at start (header_visit (component_of main)) ≡ None
  passes_header = subst (λ (u : Visit). passed_at start u ≡ None) same passes

  counts_header : mid.tally ≡ counted start (header_visit (component_of main))
  counts_header = subst (λ (u : Visit). mid.tally ≡ counted start u) same counts

  next : mid.tally.signals ≡ main_signals main
  next =
      let s : mid.tally.signals ≡ 0 + (length (component_of main).inputs + length (component_of main).outputs) = ap (λ t. t.signals) counts_header in
      let l = length-append (component_of main).inputs (component_of main).outputs in
      omega arith

  pub main_stops : (error : ExpansionError) → IsStop (first_passed mid.tally (main_at earlier main mid.tally.signals).visits) error → IsStop (first_passed start whole.visits) error
  main_stops error h =
      subst (λ (g : Grown plain.Process). IsStop (first_passed start g.visits) error) (sym (expansion_last cs earlier main e))
      (stops_later start (header_visit (component_of main)) (main_at earlier main (main_signals main)).visits error passes_header
      (subst (λ (t : Tally). IsStop (first_passed t (main_at earlier main (main_signals main)).visits) error) counts_header
      (subst (λ (n : ℕ). IsStop (first_passed mid.tally (main_at earlier main n).visits) error) next h)))

  module _ (none : mid.locals ≡ []) (new : Moment) (made : plain.Process) (h : HasGrown (main_at earlier main mid.tally.signals) made mid new) where
    here : HasGrown (main_at earlier main (main_signals main)) made mid new
    here = subst (λ (n : ℕ). HasGrown (main_at earlier main n) made mid new) next h

    pub main_whole : made ≡ whole.whole
    main_whole = here.whole ∙ ap (λ g. g.whole) (sym (expansion_last cs earlier main e))

    pub main_locals : new.locals ≡ whole.locals
    main_locals = here.locals ∙ ap (λ xs. xs ++ (main_at earlier main (main_signals main)).locals) none ∙ ap (λ g. g.locals) (sym (expansion_last cs earlier main e))

    pub main_within : IsWithin whole.visits
    unfolding first_passed
    main_within =
        let vs = (main_at earlier main (main_signals main)).visits in
        subst (λ (g : Grown plain.Process). IsWithin g.visits) (sym (expansion_last cs earlier main e))
        (all_within (header_visit (component_of main) ∷ vs)
        (ap (λ o. or_else o (first_passed (counted start (header_visit (component_of main))) vs)) passes_header ∙ ap (λ t. first_passed t vs) (sym counts_header) ∙ here.within))
