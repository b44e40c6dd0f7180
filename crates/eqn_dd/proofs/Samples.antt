-- The sample's lines can be drawn.
use Rattle.std.proofs.Common.{◌≡◌, ℕ, zero, suc, ◌<◌, ◌≤◌, List, [], ◌∷◌, ◌++◌, Bool, true, false, ◌||◌, nat_eq, nat_lt, length, map, All, refl, sym, ap, ◌∙◌, subst, inl, inr, arith, length-append}
use Rattle.std.specs.Prelude.{slice_index_or}
use Rattle.std.specs.List.{list_all}
use Rattle.std.proofs.lemmas.Bool.Decides.{nat_tests}
use Rattle.std.proofs.lemmas.List.{length-map}
use Rattle.argos_base.specs.SignalSets.{lists}
use Rattle.argos_base.proofs.Bools.{and_first, and_second, or_cases}
use Rattle.dd_core.specs.declared.nodes.NodeId.{NodeId}
use Rattle.dd_core.specs.Arenas.{ArenaView}
use Rattle.eqn_core.specs.Chains.{Chain, link}
use Rattle.eqn_core.specs.Dependence.{Item, bit_item, word_item, line_reads, ItemDepends}
use Rattle.eqn_core.specs.Equations.{Line, Equations, bit_count, word_count}
use Rattle.eqn_core.specs.Ordered.{line_below}
use Rattle.eqn_core.specs.Plans.{IsKnown, input, register, given, earlier_line, AreCyclicBits, IsPlanOf}
use Rattle.eqn_completion.specs.Moving.{line_at}
use Rattle.eqn_completion.proofs.Plans.{defines-at, line-is}
use Rattle.eqn_dd.specs.declared.places.Places.{Places}
use Rattle.eqn_dd.specs.Completed.{IsDrawable}
use Rattle.eqn_dd.specs.Denoting.{IsWord}
use Rattle.eqn_dd.specs.Placed.{NamesRegisters, NamesVariables, AreInTurn}
use Rattle.eqn_dd.specs.inner.Samples.{keeper, keeper_order, keeper_cyclic}
use Rattle.eqn_dd.proofs.InTurn.{names_registers, names_variables}
use Rattle.eqn_dd.proofs.TableWords.{word_at}

equal : (a b : ℕ) → nat_eq a b ≡ true → a ≡ b
equal a b h = grind (arith, nat_tests)

abbrev Known : List ℕ → Item → Type 0
Known earlier y = IsKnown keeper earlier keeper_cyclic y

bit_at : (earlier : List ℕ) (j k : ℕ) → nat_eq j k ≡ true → Known earlier (bit_item j) → Known earlier (bit_item k)
bit_at earlier j k same is = subst (λ (n : ℕ). Known earlier (bit_item n)) (equal j k same) is

register_at : (earlier : List ℕ) (k : ℕ) → nat_eq 0 k ≡ true → Known earlier (word_item k)
register_at earlier k same = subst (λ (n : ℕ). Known earlier (word_item n)) (equal 0 k same) (register 0 (omega arith))

-- the cyclic bit is given, and bit 2 is that of an earlier line
local_known : (earlier : List ℕ) → Known earlier (bit_item 1)
local_known earlier = given 1 refl

output_known : (earlier : List ℕ) → lists earlier 1 ≡ true → Known earlier (bit_item 2)
output_known earlier there = earlier_line (bit_item 2) 1 (line_at keeper 1) (defines-at keeper 1 (omega arith)) there

kept_reads : (earlier : List ℕ) (y : Item) → line_reads (line_at keeper 0) y ≡ true → Known earlier y
kept_reads earlier (word_item k) reads = cc
kept_reads earlier (bit_item k) reads = elim (or_cases (nat_eq 0 k) _ reads) [
  | inl first ↦ bit_at earlier 0 k first (input 0 (omega arith))
  | inr later ↦ elim (or_cases (nat_eq 1 k) _ later) [
    | inl second ↦ bit_at earlier 1 k second (local_known earlier)
    | inr never ↦ cc
  ]
]

full_reads : (earlier : List ℕ) (y : Item) → line_reads (line_at keeper 1) y ≡ true → Known earlier y
full_reads earlier (bit_item k) reads = cc
full_reads earlier (word_item k) reads = register_at earlier k reads

count_reads : (earlier : List ℕ) (y : Item) → lists earlier 1 ≡ true → line_reads (line_at keeper 2) y ≡ true
    → Known earlier y
count_reads earlier (bit_item k) there reads = elim (or_cases (nat_eq 2 k) _ reads) [
  | inl first ↦ bit_at earlier 2 k first (output_known earlier there)
  | inr later ↦ elim (or_cases (nat_eq 1 k) _ later) [
    | inl second ↦ bit_at earlier 1 k second (local_known earlier)
    | inr never ↦ cc
  ]
]
count_reads earlier (word_item k) there reads = elim (or_cases (nat_eq 0 k || false) _ reads) [
  | inl next ↦ elim (or_cases (nat_eq 0 k) _ next) [ inl same ↦ register_at earlier k same | inr never ↦ cc ]
  | inr other ↦ register_at earlier k other
]

-- what the line at a place reads is known there
place_reads : (earlier : List ℕ) (place : ℕ) (later : List ℕ) (y : Item) → keeper_order ≡ earlier ++ place ∷ later
    → line_reads (line_at keeper place) y ≡ true → Known earlier y
place_reads [] place later y e reads =
    let at : 1 ≡ place = cc in
    full_reads [] y (subst (λ (p : ℕ). line_reads (line_at keeper p) y ≡ true) (sym at) reads)
place_reads (a ∷ []) place later y e reads =
    let at : 0 ≡ place = cc in
    kept_reads (a ∷ []) y (subst (λ (p : ℕ). line_reads (line_at keeper p) y ≡ true) (sym at) reads)
place_reads (a ∷ b ∷ []) place later y e reads =
    let at : 2 ≡ place = cc in
    let first : 1 ≡ a = cc in
    count_reads (a ∷ b ∷ []) y (subst (λ (p : ℕ). lists (p ∷ b ∷ []) 1 ≡ true) first refl)
    (subst (λ (p : ℕ). line_reads (line_at keeper p) y ≡ true) (sym at) reads)
place_reads (a ∷ b ∷ d ∷ earlier) place later y e reads =
    absurd (omega (arith, ap length e, length-append earlier (place ∷ later)))

-- the local depends on itself, and there is no other
depends : AreCyclicBits keeper keeper_cyclic
depends = record {
  test = λ k. true;
  exact = λ k there. (
    λ passes. elim (or_cases (nat_eq 1 k) _ there) [
      | inl same ↦
          let defines = defines-at keeper 0 (omega arith) in
          let own = link (bit_item 1) (bit_item 1) (record { place = 0; line = line_at keeper 0; defines = defines; reads = refl }) in
          subst (λ (n : ℕ). Chain (ItemDepends keeper) (bit_item n) (bit_item n)) (equal 1 k same) own
      | inr never ↦ cc
    ],
    λ loops. refl,
  );
  is = refl;
}

pub keeper_plan : IsPlanOf keeper keeper_order keeper_cyclic
keeper_plan = record {
  sized = refl;
  each = listed;
  known = λ earlier place later line x y order defines reads.
      place_reads earlier place later y order
      (subst (λ (l : Line). line_reads l y ≡ true) (line-is keeper place line x defines) reads);
  cyclic_bits = depends;
}
  where
    listed : (k : ℕ) → k < 3 → lists keeper_order k ≡ true
    listed zero below = refl
    listed (suc zero) below = refl
    listed (suc (suc zero)) below = refl
    listed (suc (suc (suc k))) below = absurd (omega arith)

-- a test that all lines pass, one of them passes
one_passes : (test : Line → Bool) (ls : List Line) → list_all test ls ≡ true
    → (before : List Line) (l : Line) (after : List Line) → ls ≡ before ++ l ∷ after → test l ≡ true
one_passes test ls passed before l after stands =
    at before (subst (λ (xs : List Line). list_all test xs ≡ true) stands passed)
  where
    at : (before : List Line) → list_all test (before ++ l ∷ after) ≡ true → test l ≡ true
    at [] h = and_first _ _ h
    at (x ∷ before) h = at before (and_second (test x) _ h)

pub keeper_drawable : IsDrawable keeper keeper_order keeper_cyclic
keeper_drawable = record {
  register_limit = omega arith;
  input_limit = omega arith;
  line_limit = omega arith;
  plan = keeper_plan;
  each = one_passes (line_below (bit_count keeper) (word_count keeper)) keeper.lines refl;
}

-- ---- what its tests ask for

pub drawable_there : {E : Equations} {order cyclic : List ℕ} → E ≡ keeper → order ≡ keeper_order
    → cyclic ≡ keeper_cyclic → IsDrawable E order cyclic
drawable_there {E} {order} {cyclic} system plan bits =
    subst (λ (F : Equations). IsDrawable F order cyclic) (sym system)
    (subst (λ (o : List ℕ). IsDrawable keeper o cyclic) (sym plan)
    (subst (λ (ks : List ℕ). IsDrawable keeper keeper_order ks) (sym bits) keeper_drawable))

narrow : All (λ w. w ≤ 16) (2 ∷ [])
narrow zero d below = omega arith
narrow (suc k) d below = absurd (omega arith)

pub names_there : {v : ℕ} {E : Equations} {cyclic : List ℕ} {p : Places} → v ≡ 4 → E ≡ keeper → cyclic ≡ keeper_cyclic
    → AreInTurn (2 ∷ []) 1 1 p → NamesVariables v E cyclic p
names_there {v} {E} {cyclic} {p} many system bits turn =
    subst (λ (F : Equations). NamesVariables v F cyclic p) (sym system)
    (subst (λ (ks : List ℕ). NamesVariables v keeper ks p) (sym bits)
    (names_variables v keeper keeper_cyclic (2 ∷ []) p turn narrow refl (omega arith)))

pub registers_there : {v : ℕ} {p : Places} → v ≡ 4 → AreInTurn (2 ∷ []) 1 1 p → NamesRegisters v p.regs.items
registers_there {v} {p} many turn = names_registers v 1 1 (2 ∷ []) p turn narrow (omega arith)

-- a word that was read from a list
pub word_from : {X : Type 0} (f : X → List NodeId) (arena : ArenaView) (words items : List X) (k : ℕ) (w : X)
    (v : List NodeId) → items ≡ words → k < length items → w ≡ slice_index_or items k w → v ≡ f w
    → All (IsWord arena) (map f words) → IsWord arena v
word_from {X} f arena words items k w v same inside at is held =
    let here : k < length words = omega (arith, ap length same) in
    let there : v ≡ slice_index_or (map f words) k [] =
    word_at f words k w v here (at ∙ ap (λ (l : List X). slice_index_or l k w) same) is in
    subst (IsWord arena) (sym there) (held k [] (omega (arith, length-map words f)))

pub first_inside : (n : ℕ) → true ≡ nat_lt 0 n → 0 < n
first_inside n h = let e : nat_lt 0 n ≡ true = sym h in grind (arith, nat_tests)
