-- A listing has no more ids than nodes are held.
use Rattle.std.proofs.Common.{◌≡◌, ℕ, zero, suc, ◌+◌, ◌<◌, List, [], ◌∷◌, Some, None, true, false, nat_eq, IsSome, length, refl, sym, ap, ◌∙◌, inl, inr, arith}
use Rattle.std.specs.Cmp.{IsEquivalence}
use Rattle.std.specs.List.{slice_get, AllByRecursion, list_any, IsDistinct}
use Rattle.std.proofs.lemmas.Bool.{or_cases, false≢true}
use Rattle.std.proofs.lemmas.Bool.Decides.{nat_tests}
use Rattle.std.proofs.lemmas.Map.Made.{length-le_from_is_member}
use Rattle.std.proofs.lemmas.Map.Views.{exact_unsigned_eq}
use Rattle.argos_base.proofs.Bools.{true_or_false, or_left, or_right}
use Rattle.dd_core.specs.declared.nodes.NodeId.{NodeId}
use Rattle.dd_core.specs.Arenas.{ArenaView, IsArena}
use Rattle.dd_core.specs.Diagrams.{Nodes, node_at, triple_count}
use Rattle.dd_ops.specs.Listed.{IsListed, IsListing}
use Rattle.dd_ops.specs.inner.Visited.{is_same}

abbrev id_of : ℕ → NodeId
id_of k = record { 0 = k }

one-id : (f g : NodeId) → is_same f g ≡ true → f ≡ g
one-id f g h = ap id_of (exact_unsigned_eq f.0 g.0 h)

same-is : IsEquivalence is_same
same-is = record {
  refl = λ f. itself f.0;
  symm = λ f g. turned f.0 g.0;
  congr = λ f g h same. ap (λ (k : NodeId). is_same k h) (one-id f g same);
}
  where
    itself : (a : ℕ) → nat_eq a a ≡ true
    itself a = grind (arith, nat_tests)

    turned : (a b : ℕ) → nat_eq a b ≡ nat_eq b a
    turned a b = grind (arith, nat_tests)

-- the ids of the nodes that are held, where these stand from place k on
abbrev held_from : ℕ → Nodes → List NodeId
held_from k [] = []
held_from k (None ∷ nodes) = held_from (suc k) nodes
held_from k (Some n ∷ nodes) = id_of k ∷ held_from (suc k) nodes

held-sized : (k : ℕ) (nodes : Nodes) → length (held_from k nodes) ≡ triple_count nodes
held-sized k [] = refl
held-sized k (None ∷ nodes) = held-sized (suc k) nodes
held-sized k (Some n ∷ nodes) = let e = held-sized (suc k) nodes in omega (arith, e)

held-there : (k i : ℕ) (nodes : Nodes) (q : NodeId) → q ≡ id_of (k + i) → IsSome (node_at nodes i)
    → list_any (is_same q) (held_from k nodes) ≡ true
held-there k i [] q at some = absurd (false≢true some)
held-there k zero (None ∷ nodes) q at some = absurd (false≢true some)
held-there k (suc i) (None ∷ nodes) q at some = held-there (suc k) i nodes q (at ∙ ap id_of (omega arith)) some
held-there k zero (Some n ∷ nodes) q at some = or_left (is_same q (id_of k)) _ (same-to q (at
    ∙ ap id_of (omega arith)))
  where
    same-to : (q : NodeId) → q ≡ id_of k → is_same q (id_of k) ≡ true
    same-to q e = ap (λ (f : NodeId). is_same f (id_of k)) e ∙ same-is.refl (id_of k)
held-there k (suc i) (Some n ∷ nodes) q at some = or_right (is_same q (id_of k)) _ (held-there
    (suc k) i nodes q (at ∙ ap id_of (omega arith)) some)

listed-there : (ids : List NodeId) (q : NodeId) → list_any (is_same q) ids ≡ true → IsListed ids q
listed-there [] q h = absurd (false≢true h)
listed-there (f ∷ ids) q h = elim (or_cases (is_same q f) (list_any (is_same q) ids) h) [
  | inl here ↦ (0, ap Some (sym (one-id q f here)))
  | inr later ↦ let l = listed-there ids q later in (suc l.0, l.1)
]

differ : (f g : NodeId) → ¬ (f ≡ g) → is_same f g ≡ false
differ f g h = elim (true_or_false (is_same f g)) [
  | inl t ↦ absurd (h (one-id f g t))
  | inr n ↦ n
]

apart : (f : NodeId) (ids : List NodeId) → ((k : ℕ) (g : NodeId) → slice_get ids k ≡ Some g → ¬ (f ≡ g))
    → AllByRecursion (λ (g : NodeId). is_same f g ≡ false) ids
apart f [] h = tt
apart f (g ∷ ids) h = (differ f g (h 0 g refl), apart f ids (λ k e at. h (suc k) e at))

all-apart : (ids : List NodeId) → ((i j : ℕ) (g : NodeId) → slice_get ids i ≡ Some g
    → slice_get ids j ≡ Some g → i ≡ j) → IsDistinct is_same ids
unfolding IsDistinct
all-apart [] once = tt
all-apart (f ∷ ids) once = (
  apart f ids (λ k g at same. let e = once 0 (suc k) f refl (at
      ∙ ap Some (sym same)) in absurd (omega (arith, e))),
  all-apart ids (λ i j g at_i at_j. let e = once (suc i) (suc j) g at_i at_j in omega (arith, e)),
)

pub few-listed : (arena : ArenaView) (ids : List NodeId) → IsArena arena → IsListing arena.nodes ids
    → length ids < 16777216
few-listed arena ids valid listing =
    let few = length-le_from_is_member same-is ids (held_from 0 arena.nodes) (all-apart ids listing.once)
    (λ q h.
    held-there 0 q.0 arena.nodes q (ap id_of (omega arith)) (listing.node q (listed-there ids q h))) in
    omega (arith, few, held-sized 0 arena.nodes, valid.within, valid.greatest_budget)
