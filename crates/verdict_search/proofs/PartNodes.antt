-- Nodes that depend on the cyclic bits of one part, and nodes of all parts.
use Rattle.std.proofs.Common.{◌≡◌, ◌≢◌, ◌⊎◌, ℕ, zero, suc, ◌+◌, ◌-◌, ◌<◌, ◌≤◌, List, [], ◌∷◌, ◌++◌, Option, Some, None, Bool, true, false, ◌&&◌, not, if◌then◌else◌, nat_eq, length, map, set, replicate, get_or, refl, sym, ap, ◌∙◌, inl, inr, subst, arith}
use Rattle.std.specs.Prelude.{All}
use Rattle.std.proofs.lemmas.Bool.{cases_lt, cases_Bool, eqb-true, eqb-false}
use Rattle.std.proofs.lemmas.Bool.Decides.{nat_tests}
use Rattle.std.proofs.lemmas.List.{get_or_append_left, get_or-append-add}
use Rattle.argos_base.specs.SignalSets.{SignalSet, has}
use Rattle.argos_base.proofs.Bools.{and_second, or_left}
use Rattle.dd_core.specs.declared.nodes.Node.{Node}
use Rattle.dd_core.specs.declared.nodes.NodeId.{NodeId}
use Rattle.dd_core.specs.Functions.{Function}
use Rattle.dd_core.specs.Diagrams.{Nodes, node_at, after, walk}
use Rattle.dd_core.specs.Arenas.{ArenaView, IsArena, Holds, function_of, Keeps}
use Rattle.dd_core.proofs.Making.{function_of-true}
use Rattle.dd_ops.specs.Listed.{itself, below}
use Rattle.eqn_verdict.specs.Searching.{Test, some, with, without, differs}
use Rattle.verdict_search.specs.declared.parting.Parts.{Parts}
use Rattle.verdict_search.specs.Parts.{meet, part_of, is_in, ReadsOnly, AreParts}
use Rattle.verdict_search.specs.inner.Parting.{Tests}
use Rattle.verdict_search.specs.inner.Testing.{chosen_of}
use Rattle.verdict_search.proofs.PartTests.{Reads, but, each, some-same, some_apart, differs_near}
use Rattle.verdict_search.proofs.SplitNodes.{sized_in, all_later}

abbrev pub start : NodeId
start = record { 0 = 0 }

pub nat_cases : (k p : ℕ) → (k ≡ p) ⊎ (k ≢ p)
nat_cases k p = elim (cases_Bool (nat_eq k p)) [
  | inl same ↦ inl (eqb-true k p same)
  | inr other ↦ inr (eqb-false k p other)
]

-- ---- what a node depends on

-- two walks end alike where the values are those of one another at each variable that is tested
pub walk_reads : (nodes : Nodes) (k : ℕ) (f : NodeId) (p q : List Bool) → length p ≡ length q → ((i : ℕ) → Tests nodes (k + i) f → has p i ≡ has q i) → walk nodes k f.0 p ≡ walk nodes k f.0 q
walk_reads nodes k f [] [] sized same = refl
walk_reads nodes k f [] (b ∷ q) sized same = absurd (omega arith)
walk_reads nodes k f (b ∷ p) [] sized same = absurd (omega arith)
walk_reads nodes k f (b ∷ p) (d ∷ q) sized same = onward (node_at nodes f.0) refl (λ g up. walk_reads nodes (k + 1) g p q (omega arith) (λ i tests. same (suc i) (up i tests)))
  where
    moved : (g : NodeId) (i : ℕ) → Tests nodes ((k + 1) + i) g → Tests nodes (k + suc i) g
    moved g i t = record { node = t.node; under = t.under; triple = t.triple; is = t.is; tested = t.tested ∙ (let e : (k + 1) + i ≡ k + suc i = omega arith in e) }

    child : (n : Node) → ((c : Bool) → walk nodes (k + 1) (if c then n.high.0 else n.low.0) p ≡ walk nodes (k + 1) (if c then n.high.0 else n.low.0) q) → (b d : Bool) → b ≡ d → walk nodes (k + 1) (if b then n.high.0 else n.low.0) p ≡ walk nodes (k + 1) (if d then n.high.0 else n.low.0) q
    child n each true true e = each true
    child n each false false e = each false
    child n each true false e = cc
    child n each false true e = cc

    onward : (o : Option Node) → node_at nodes f.0 ≡ o → ((g : NodeId) → ((i : ℕ) → Tests nodes ((k + 1) + i) g → Tests nodes (k + suc i) f) → walk nodes (k + 1) g.0 p ≡ walk nodes (k + 1) g.0 q) → walk nodes (k + 1) (after k b f.0 o) p ≡ walk nodes (k + 1) (after k d f.0 o) q
    onward None is again = again f (moved f)
    onward (Some n) is again = elim (cases_Bool (nat_eq n.variable k)) [
      | inl here ↦
          let tests : Tests nodes (k + 0) f = record { node = f; under = itself; triple = n; is = is; tested = eqb-true n.variable k here ∙ (let e : k ≡ k + 0 = omega arith in e) } in
          rw here (child n one b d (same 0 tests))
      | inr other ↦ rw other (again f (moved f))
    ]
      where
        one : (c : Bool) → walk nodes (k + 1) (if c then n.high.0 else n.low.0) p ≡ walk nodes (k + 1) (if c then n.high.0 else n.low.0) q
        one true = again n.high (λ i t. let u = moved n.high i t in record { node = u.node; under = below true n is u.under; triple = u.triple; is = u.is; tested = u.tested })
        one false = again n.low (λ i t. let u = moved n.low i t in record { node = u.node; under = below false n is u.under; triple = u.triple; is = u.is; tested = u.tested })

-- a node depends on no other cyclic bits than those whose variables it tests
pub function_reads : (A : ArenaView) (a c : ℕ) (M : ℕ → Bool) (f : NodeId) → A.variables ≡ a + c → ((j : ℕ) → Tests A.nodes (a + j) f → M j ≡ true) → ReadsOnly a c M (function_of A f.0)
function_reads A a c M f v all y x z ys xs zs same =
    walk_reads A.nodes 0 f (y ++ x) (y ++ z) (sized_in y x v ys xs ∙ sym (sized_in y z v ys zs)) (λ i tests. elim (cases_lt i a) [
      | inl low ↦ get_or_append_left y x false i (omega arith) ∙ sym (get_or_append_left y z false i (omega arith))
      | inr high ↦
          let at : i ≡ length y + (i - a) = omega arith in
          let own : Tests A.nodes (a + (i - a)) f = record { node = tests.node; under = tests.under; triple = tests.triple; is = tests.is; tested = tests.tested ∙ (let e : 0 + i ≡ a + (i - a) = omega arith in e) } in
          ap (has (y ++ x)) at
          ∙ get_or-append-add y x (i - a) false
          ∙ same (i - a) (all (i - a) own)
          ∙ sym (ap (has (y ++ z)) at ∙ get_or-append-add y z (i - a) false)
    ])

pub reads_later : {A B : ArenaView} {a c f : ℕ} {M : ℕ → Bool} → A.variables ≡ a + c → Holds A f → Keeps A B → ReadsOnly a c M (function_of A f) → ReadsOnly a c M (function_of B f)
reads_later {A} {B} {a} {c} {f} {M} v held keeps reads y x z ys xs zs same =
    keeps.denotes f held (y ++ x) (sized_in y x v ys xs) ∙ reads y x z ys xs zs same ∙ sym (keeps.denotes f held (y ++ z) (sized_in y z v ys zs))

-- at a point it is a test of those
pub reads_at : {a c : ℕ} {M : ℕ → Bool} (g : Function) (y : SignalSet) → length y ≡ a → ReadsOnly a c M g → Reads c M (λ x. g (y ++ x))
reads_at g y ys reads x z xs zs same = reads y x z ys xs zs same

-- ---- all nodes

pub meet_push : (A : ArenaView) (fs : List NodeId) (f : NodeId) (x : List Bool) → meet A (fs ++ f ∷ []) x ≡ (meet A fs x && function_of A f.0 x)
meet_push A [] f x = whole (function_of A f.0 x)
  where
    whole : (b : Bool) → (b && true) ≡ b
    whole true = refl
    whole false = refl
meet_push A (g ∷ fs) f x = ap (λ (b : Bool). function_of A g.0 x && b) (meet_push A fs f x) ∙ moved (function_of A g.0 x) (meet A fs x) (function_of A f.0 x)
  where
    moved : (p q r : Bool) → (p && (q && r)) ≡ ((p && q) && r)
    moved true q r = refl
    moved false q r = refl

pub meet_later : (A B : ArenaView) (fs : List NodeId) (x : List Bool) → Keeps A B → All (λ (f : NodeId). Holds A f.0) fs → length x ≡ A.variables → meet B fs x ≡ meet A fs x
meet_later A B [] x keeps held xs = refl
meet_later A B (f ∷ fs) x keeps held xs =
    ap (λ (b : Bool). b && meet B fs x) (keeps.denotes f.0 (held 0 f (omega arith)) x xs)
    ∙ ap (λ (b : Bool). function_of A f.0 x && b) (meet_later A B fs x keeps (λ k d below. held (suc k) d (omega arith)) xs)

pub meet_set : (A : ArenaView) (fs : List NodeId) (p : ℕ) (g : NodeId) (s : Bool) (x : List Bool) → p < length fs → function_of A g.0 x ≡ (function_of A (get_or fs p start).0 x && s) → meet A (set fs p g) x ≡ (meet A fs x && s)
meet_set A [] p g s x low is = absurd (omega arith)
meet_set A (f ∷ fs) zero g s x low is = ap (λ (b : Bool). b && meet A fs x) is ∙ turned (function_of A f.0 x) s (meet A fs x)
  where
    turned : (p q r : Bool) → ((p && q) && r) ≡ ((p && r) && q)
    turned true true true = refl
    turned true true false = refl
    turned true false true = refl
    turned true false false = refl
    turned false q r = refl
meet_set A (f ∷ fs) (suc p) g s x low is = ap (λ (b : Bool). function_of A f.0 x && b) (meet_set A fs p g s x (omega arith) is) ∙ moved (function_of A f.0 x) (meet A fs x) s
  where
    moved : (p q r : Bool) → (p && (q && r)) ≡ ((p && q) && r)
    moved true q r = refl
    moved false q r = refl

pub meet_true : (A : ArenaView) (n : ℕ) (x : List Bool) → IsArena A → meet A (replicate n (record { 0 = 1 })) x ≡ true
meet_true A zero x valid = refl
meet_true A (suc n) x valid = ap (λ (b : Bool). b && meet A (replicate n (record { 0 = 1 })) x) (function_of-true A x valid) ∙ meet_true A n x valid

-- ---- nodes of parts

pub parts_later : (A B : ArenaView) (a : ℕ) (parts : Parts) → Keeps A B → AreParts A a parts → AreParts B a parts
parts_later A B a parts keeps is = record {
  variables = is.variables ∙ sym keeps.variables;
  sized = is.sized;
  labelled = is.labelled;
  held = all_later A B parts.consistent.items keeps is.held;
  apart = λ p low. reads_later (sym is.variables) (is.held p start low) keeps (is.apart p low);
}

-- from a part on the nodes depend on no other cyclic bits than those of their parts
abbrev pub ApartFrom : ArenaView → ℕ → ℕ → List ℕ → ℕ → List NodeId → Type 0
ApartFrom A a c labels k fs = (p : ℕ) → p < length fs → ReadsOnly a c (is_in labels (k + p)) (function_of A (get_or fs p start).0)

pub apart_from : {A : ArenaView} {a : ℕ} {parts : Parts} (c : ℕ) → A.variables ≡ a + c → AreParts A a parts → ApartFrom A a c parts.labels.items 0 parts.consistent.items
apart_from {A} {a} {parts} c v is p low =
    let same : length parts.labels.items ≡ c = omega (arith, is.variables) in
    let none : p ≡ 0 + p = omega arith in
    subst (λ (i : ℕ). ReadsOnly a c (is_in parts.labels.items i) (function_of A (get_or parts.consistent.items p start).0)) none
    (subst (λ (n : ℕ). ReadsOnly a n (is_in parts.labels.items p) (function_of A (get_or parts.consistent.items p start).0)) same (is.apart p low))

module _ (A : ArenaView) (a c : ℕ) (labels : List ℕ) where
  pub apart_behind : (k : ℕ) (f : NodeId) (fs : List NodeId) → ApartFrom A a c labels k (f ∷ fs) → ApartFrom A a c labels (suc k) fs
  apart_behind k f fs apart p low =
      subst (λ (i : ℕ). ReadsOnly a c (is_in labels i) (function_of A (get_or fs p start).0)) (let e : k + suc p ≡ suc k + p = omega arith in e) (apart (suc p) (omega arith))

  first_in : (k j : ℕ) → is_in labels (k + 0) j ≡ true → part_of labels j ≡ k
  first_in k j on = eqb-true (part_of labels j) (k + 0) on ∙ (let e : k + 0 ≡ k = omega arith in e)

  later_out : (k j : ℕ) → suc k ≤ part_of labels j → but (is_in labels k) j ≡ true
  later_out k j low = let off : nat_eq (part_of labels j) k ≡ false = grind (arith, nat_tests) in ap not off

  -- all from a part on depend on the bits of these parts
  pub meet_reads : (M : ℕ → Bool) (k : ℕ) (fs : List NodeId) → ApartFrom A a c labels k fs → ((j : ℕ) → k ≤ part_of labels j → M j ≡ true) → ReadsOnly a c M (meet A fs)
  meet_reads M k [] apart cover y x z ys xs zs same = refl
  meet_reads M k (f ∷ fs) apart cover y x z ys xs zs same =
      ap (λ (b : Bool). b && meet A fs (y ++ x)) (apart 0 (omega arith) y x z ys xs zs (λ j on. let e = first_in k j on in same j (cover j (omega arith))))
      ∙ ap (λ (b : Bool). function_of A f.0 (y ++ z) && b) (meet_reads M (suc k) fs (apart_behind k f fs apart) (λ j low. cover j (omega arith)) y x z ys xs zs same)

  -- each has some values that make it true
  abbrev pub some_each : List NodeId → Test
  some_each [] y = true
  some_each (f ∷ fs) y = some c (λ x. function_of A f.0 (y ++ x)) && some_each fs y

  -- so some values make all true
  pub some_of_all : (k : ℕ) (fs : List NodeId) (y : SignalSet) → length y ≡ a → ApartFrom A a c labels k fs → some_each fs y ≡ some c (λ x. meet A fs (y ++ x))
  some_of_all k [] y ys apart = sym (some-true c)
    where
      some-true : (n : ℕ) → some n (λ x. true) ≡ true
      some-true zero = refl
      some-true (suc n) = or_left (some n (λ x. true)) (some n (λ x. true)) (some-true n)
  some_of_all k (f ∷ fs) y ys apart =
      ap (λ (b : Bool). some c (λ x. function_of A f.0 (y ++ x)) && b) (some_of_all (suc k) fs y ys (apart_behind k f fs apart))
      ∙ sym (some_apart c (is_in labels k) (λ x. function_of A f.0 (y ++ x)) (λ x. meet A fs (y ++ x))
      (λ x z xs zs same. apart 0 (omega arith) y x z ys xs zs (λ j on. same j (subst (λ (i : ℕ). is_in labels i j ≡ true) (let e : k + 0 ≡ k = omega arith in e) on)))
      (reads_at (meet A fs) y ys (meet_reads (but (is_in labels k)) (suc k) fs (apart_behind k f fs apart) (later_out k))))

  pub some_each-push : (fs : List NodeId) (f : NodeId) (y : SignalSet) → some_each (fs ++ f ∷ []) y ≡ (some_each fs y && some c (λ x. function_of A f.0 (y ++ x)))
  some_each-push [] f y = whole (some c (λ x. function_of A f.0 (y ++ x)))
    where
      whole : (b : Bool) → (b && true) ≡ b
      whole true = refl
      whole false = refl
  some_each-push (g ∷ fs) f y = ap (λ (b : Bool). some c (λ x. function_of A g.0 (y ++ x)) && b) (some_each-push fs f y) ∙ moved (some c (λ x. function_of A g.0 (y ++ x))) (some_each fs y) (some c (λ x. function_of A f.0 (y ++ x)))
    where
      moved : (p q r : Bool) → (p && (q && r)) ≡ ((p && q) && r)
      moved true q r = refl
      moved false q r = refl

  -- ---- some of the parts

  -- those that are chosen depend on the bits of these parts
  pub chosen_reads : (M : ℕ → Bool) (flags : List Bool) (k : ℕ) (fs : List NodeId) → ApartFrom A a c labels k fs → ((p : ℕ) → p < length flags → has flags p ≡ true → (j : ℕ) → part_of labels j ≡ k + p → M j ≡ true) → ReadsOnly a c M (chosen_of A flags fs)
  chosen_reads M [] k fs apart cover y x z ys xs zs same = refl
  chosen_reads M (b ∷ flags) k [] apart cover y x z ys xs zs same = refl
  chosen_reads M (b ∷ flags) k (f ∷ fs) apart cover y x z ys xs zs same =
      ap (λ (t : Bool). t && chosen_of A flags fs (y ++ x)) (own b refl)
      ∙ ap (λ (t : Bool). (if b then function_of A f.0 (y ++ z) else true) && t) (chosen_reads M flags (suc k) fs (apart_behind k f fs apart) (λ p low on j at. cover (suc p) (omega arith) on j (at ∙ (let e : suc k + p ≡ k + suc p = omega arith in e))) y x z ys xs zs same)
    where
      own : (d : Bool) → b ≡ d → (if b then function_of A f.0 (y ++ x) else true) ≡ (if b then function_of A f.0 (y ++ z) else true)
      own true is = rw is (apart 0 (omega arith) y x z ys xs zs (λ j on. same j (cover 0 (omega arith) is j (eqb-true (part_of labels j) (k + 0) on))))
      own false is = rw is refl

-- all are those that are chosen, and the others
pub meet_split : (A : ArenaView) (flags : List Bool) (fs : List NodeId) (x : List Bool) → length flags ≡ length fs → meet A fs x ≡ (chosen_of A flags fs x && chosen_of A (map not flags) fs x)
meet_split A [] [] x sized = refl
meet_split A [] (f ∷ fs) x sized = absurd (omega arith)
meet_split A (b ∷ flags) [] x sized = absurd (omega arith)
meet_split A (b ∷ flags) (f ∷ fs) x sized = ap (λ (t : Bool). function_of A f.0 x && t) (meet_split A flags fs x (omega arith)) ∙ one b (function_of A f.0 x) (chosen_of A flags fs x) (chosen_of A (map not flags) fs x)
  where
    one : (b t p q : Bool) → (t && (p && q)) ≡ (((if b then t else true) && p) && ((if not b then t else true) && q))
    one true true p q = refl
    one true false p q = refl
    one false true true q = refl
    one false true false q = refl
    one false false true q = refl
    one false false false q = refl

pub chosen_push : (A : ArenaView) (flags : List Bool) (b : Bool) (fs : List NodeId) (f : NodeId) (x : List Bool) → length flags ≡ length fs → chosen_of A (flags ++ b ∷ []) (fs ++ f ∷ []) x ≡ (chosen_of A flags fs x && (if b then function_of A f.0 x else true))
chosen_push A [] b [] f x sized = whole (if b then function_of A f.0 x else true)
  where
    whole : (t : Bool) → (t && true) ≡ t
    whole true = refl
    whole false = refl
chosen_push A [] b (g ∷ fs) f x sized = absurd (omega arith)
chosen_push A (d ∷ flags) b [] f x sized = absurd (omega arith)
chosen_push A (d ∷ flags) b (g ∷ fs) f x sized =
    ap (λ (t : Bool). (if d then function_of A g.0 x else true) && t) (chosen_push A flags b fs f x (omega arith))
    ∙ moved (if d then function_of A g.0 x else true) (chosen_of A flags fs x) (if b then function_of A f.0 x else true)
  where
    moved : (p q r : Bool) → (p && (q && r)) ≡ ((p && q) && r)
    moved true q r = refl
    moved false q r = refl

-- ---- a result that reads some of the parts

pub differs-same : (c : ℕ) (K L f g : Test) → ((x : SignalSet) → length x ≡ c → K x ≡ L x) → ((x : SignalSet) → length x ≡ c → f x ≡ g x) → differs c K f ≡ differs c L g
differs-same c K L f g h e =
    ap (λ (b : Bool). b && some c (without K f)) (some-same c (with K f) (with L g) (λ x xs. ap (λ (b : Bool). b && f x) (h x xs) ∙ ap (λ (b : Bool). L x && b) (e x xs)))
    ∙ ap (λ (b : Bool). some c (with L g) && b) (some-same c (without K f) (without L g) (λ x xs. ap (λ (b : Bool). b && not (f x)) (h x xs) ∙ ap (λ (b : Bool). L x && not b) (e x xs)))

-- where all parts have consistent values, it differs among those of all exactly where it differs among those of the parts that it reads
pub differs_chosen : {A : ArenaView} {a : ℕ} {parts : Parts} (c : ℕ) (flags : List Bool) (g : Function) (y : SignalSet) → A.variables ≡ a + c → AreParts A a parts → length flags ≡ length parts.consistent.items → length y ≡ a
    → ReadsOnly a c (λ j. has flags (part_of parts.labels.items j)) g → some c (λ x. meet A parts.consistent.items (y ++ x)) ≡ true
    → differs c (λ x. meet A parts.consistent.items (y ++ x)) (λ x. g (y ++ x)) ≡ differs c (λ x. chosen_of A flags parts.consistent.items (y ++ x)) (λ x. g (y ++ x))
differs_chosen {A} {a} {parts} c flags g y v is sized ys own on =
    let labels = parts.labels.items in
    let fs = parts.consistent.items in
    let M : ℕ → Bool = λ j. has flags (part_of labels j) in
    let K : Test = λ x. chosen_of A flags fs (y ++ x) in
    let L : Test = λ x. chosen_of A (map not flags) fs (y ++ x) in
    let apart = apart_from c v is in
    let reads : Reads c M K = reads_at (chosen_of A flags fs) y ys (chosen_reads A a c labels M flags 0 fs apart (λ p low t j at. ap (has flags) (at ∙ none p) ∙ t)) in
    let others : Reads c (but M) L = reads_at (chosen_of A (map not flags) fs) y ys (chosen_reads A a c labels (but M) (map not flags) 0 fs apart (λ p low t j at. ap (λ (i : ℕ). not (has flags i)) (at ∙ none p) ∙ flipped flags p low t)) in
    let split : (x : SignalSet) → length x ≡ c → meet A fs (y ++ x) ≡ each K L x = λ x xs. meet_split A flags fs (y ++ x) sized in
    let both : (some c K && some c L) ≡ true = sym (some_apart c M K L reads others) ∙ sym (some-same c (λ x. meet A fs (y ++ x)) (each K L) split) ∙ on in
    differs-same c (λ x. meet A fs (y ++ x)) (each K L) (λ x. g (y ++ x)) (λ x. g (y ++ x)) split (λ x xs. refl)
    ∙ differs_near c M K L (λ x. g (y ++ x)) reads (reads_at g y ys own) others (and_second (some c K) (some c L) both)
  where
    none : (p : ℕ) → 0 + p ≡ p
    none p = omega arith

    flipped : (flags : List Bool) (p : ℕ) → p < length (map not flags) → has (map not flags) p ≡ true → not (has flags p) ≡ true
    flipped [] p low t = absurd (omega arith)
    flipped (b ∷ flags) zero low t = t
    flipped (b ∷ flags) (suc p) low t = flipped flags p (omega arith) t
