-- The roots of the least consistent values.
use Rattle.std.proofs.Common.{◌≡◌, ◌≢◌, ℕ, zero, suc, ◌+◌, ◌-◌, ◌*◌, ◌^◌, ◌<◌, ◌≤◌, List, [], ◌∷◌, ◌++◌, Bool, true, false, ◌&&◌, not, if◌then◌else◌, nat_eq, refl, sym, ap, ◌∙◌, inl, inr, subst, arith, length, take, drop, set, get_or, append_assoc, length-append, Ok}
use Rattle.std.specs.Prelude.{All}
use Rattle.std.proofs.Math.Nat.{mul-le-mul_right}
use Rattle.std.proofs.Math.Seq.{get_or-append_seam}
use Rattle.std.proofs.lemmas.Bool.{cases_lt, eqb-true}
use Rattle.std.proofs.lemmas.Bool.Decides.{nat_tests}
use Rattle.std.proofs.lemmas.Grind.{get_or-set_at}
use Rattle.std.proofs.lemmas.List.{get_or_append_left, get_or-append-add, get_or-drop, get_or-set_other, length-set, length-take-le, length-drop, take-append-drop, set-append_right, drop_at, length_push}
use Rattle.argos_base.specs.SignalSets.{SignalSet, has}
use Rattle.argos_base.proofs.Bools.{and_first, and_second}
use Rattle.dd_core.specs.declared.nodes.NodeId.{NodeId}
use Rattle.dd_core.specs.Functions.{Function, both, opposite, if_else, restriction}
use Rattle.dd_core.specs.Arenas.{ArenaView, IsArena, Holds, function_of, Keeps, Makes, AddsAtMost}
use Rattle.dd_core.proofs.Composing.{Keeps-trans}
use Rattle.eqn_completion.specs.Findings.{Finding}
use Rattle.eqn_dd.specs.Denoting.{Denotes}
use Rattle.eqn_dd.proofs.Denotations.{adds_one, adds_in_turn, adds_fewer, adds_nothing, denotes_later}
use Rattle.eqn_verdict.specs.Diagrams.{Splits, partly}
use Rattle.eqn_verdict.specs.Searching.{Test, some, least}
use Rattle.eqn_verdict.specs.Solved.{in_least}
use Rattle.eqn_verdict.proofs.Steps.{least_digit, partly_next, roots_are_least, length-least}
use Rattle.verdict_search.specs.declared.parting.Parts.{Parts}
use Rattle.verdict_search.specs.Parts.{meet, part_of, is_in, ReadsOnly, AreParts}
use Rattle.verdict_search.specs.Roots.{AllReact, AreLeastOnes}
use Rattle.verdict_search.specs.Splitting.{IsTestOf}
use Rattle.verdict_search.specs.inner.Solving.{is_forced, IsRoot, AreBoth}
use Rattle.verdict_search.specs.inner.Testing.{IsSomeFrom}
use Rattle.verdict_search.proofs.PartNodes.{start, nat_cases, reads_at, ApartFrom, apart_from, apart_behind, meet_reads}
use Rattle.verdict_search.proofs.PartSteps.{defaults_of}
use Rattle.verdict_search.proofs.PartTests.{Reads, but, each, some-same, least-same, some_apart, least_apart}
use Rattle.verdict_search.proofs.SplitNodes.{sized_in, splits_later, all_later, splits_made, splits_both, splits_opposite, splits_if}

-- ---- one root

drop-set : (x : SignalSet) (j : ℕ) (b : Bool) → j < length x → drop j (set x j b) ≡ b ∷ drop (suc j) x
drop-set [] j b h = absurd (omega arith)
drop-set (a ∷ x) zero b h = refl
drop-set (a ∷ x) (suc j) b h = drop-set x j b (omega arith)

-- a cyclic bit set to a value
splits_set : (a c k j : ℕ) (g : Function) (P : Finding) (b : Bool) → k ≡ a + j → Splits a c g P → Splits a c (restriction k b g) (λ y x. P y (set x j b))
splits_set a c k j g P b at s y x ys xs =
    ap g (set-append_right y x a k b ys (omega arith) ∙ ap (λ (i : ℕ). y ++ set x i b) (let same : k - a ≡ j = omega arith in same))
    ∙ s y (set x j b) ys (length-set x j b ∙ xs)

module _ {m n o p q r k structural rest : ℕ} {A B C D E F G : ArenaView} {low somewhere forced root high next : NodeId} (held_structural : Holds A structural) (held_rest : Holds A rest)
    (low_made : Makes m A B (restriction k false (function_of A rest)) (Ok low))
    (quantified : AddsAtMost n B C) (some_is : IsSomeFrom B C (k + 1) low.0 somewhere.0)
    (forced_made : Makes o C D (opposite (function_of C somewhere.0)) (Ok forced))
    (root_made : Makes p D E (both (function_of D structural) (function_of D forced.0)) (Ok root))
    (high_made : Makes q E F (restriction k true (function_of E rest)) (Ok high))
    (next_made : Makes r F G (if_else (function_of F forced.0) (function_of F high.0) (function_of F low.0)) (Ok next)) where
  to_c : Keeps A C
  to_c = Keeps-trans A B C low_made.keeps quantified.keeps

  to_d : Keeps A D
  to_d = Keeps-trans A C D to_c forced_made.keeps

  to_e : Keeps A E
  to_e = Keeps-trans A D E to_d root_made.keeps

  to_f : Keeps A F
  to_f = Keeps-trans A E F to_e high_made.keeps

  d_to_f : Keeps D F
  d_to_f = Keeps-trans D E F root_made.keeps high_made.keeps

  b_to_f : Keeps B F
  b_to_f = Keeps-trans B D F (Keeps-trans B C D quantified.keeps forced_made.keeps) d_to_f

  module _ (a c j : ℕ) (s : Test) (f : Finding) (v : A.variables ≡ a + c) (at : k ≡ a + j) (inside : j < c) (structural_is : IsTestOf A a c structural s) (rest_is : Splits a c (function_of A rest) (partly c j f)) where
    low_is : Splits a c (function_of B low.0) (λ y x. partly c j f y (set x j false))
    low_is = splits_made v low_made (splits_set a c k j (function_of A rest) (partly c j f) false at rest_is)

    somewhere_is : IsTestOf C a c somewhere.0 (λ y. some (c - suc j) (λ w. f y (take j (least c (f y)) ++ false ∷ w)))
    somewhere_is y x ys xs =
        let n = c - suc j in
        let u : SignalSet = take (suc j) x in
        let w : SignalSet = drop (suc j) x in
        let us : length u ≡ suc j = length-take-le (suc j) x (omega (arith, xs)) in
        let ws : length w ≡ n = length-drop (suc j) x ∙ ap (λ (i : ℕ). i - suc j) xs in
        let whole : y ++ x ≡ (y ++ u) ++ w = ap (λ (l : SignalSet). y ++ l) (sym (take-append-drop (suc j) x)) ∙ sym (append_assoc y u w) in
        let zs : length (y ++ u) ≡ k + 1 = omega (arith, length-append y u, us, ys, at) in
        let v_b : B.variables ≡ (k + 1) + n = omega (arith, low_made.keeps.variables, v, at, inside) in
        ap (function_of C somewhere.0) whole
        ∙ some_is n (λ z l. function_of B low.0 (z ++ l)) v_b (λ z l zl ll. refl) (y ++ u) w zs ws
        ∙ some-same n (λ l. function_of B low.0 ((y ++ u) ++ l)) (λ l. f y (take j (least c (f y)) ++ false ∷ l)) (λ l ll.
        let ls : length (u ++ l) ≡ c = omega (arith, length-append u l, us, ll, inside) in
        ap (function_of B low.0) (append_assoc y u l)
        ∙ low_is y (u ++ l) ys ls
        ∙ ap (λ (t : SignalSet). f y (take j (least c (f y)) ++ t)) (drop-set (u ++ l) j false (omega (arith, ls)) ∙ ap (λ (t : SignalSet). false ∷ t) (drop_at u l (suc j) us)))

    forced_is : IsTestOf D a c forced.0 (is_forced c j f)
    forced_is = splits_made (to_c.variables ∙ v) forced_made (splits_opposite (function_of C somewhere.0) somewhere_is)

    root_is : IsTestOf E a c root.0 (λ y. s y && is_forced c j f y)
    root_is = splits_made (to_d.variables ∙ v) root_made (splits_both (function_of D structural) (function_of D forced.0) (splits_later v held_structural to_d structural_is) forced_is)

    next_is : Splits a c (function_of G next.0) (partly c (suc j) f)
    next_is y x ys xs =
        let v_d = to_d.variables ∙ v in
        let v_e = to_e.variables ∙ v in
        let v_f = to_f.variables ∙ v in
        let high_is : Splits a c (function_of F high.0) (λ y x. partly c j f y (set x j true)) = splits_made v_e high_made (splits_set a c k j (function_of E rest) (partly c j f) true at (splits_later v held_rest to_e rest_is)) in
        let low_later : Splits a c (function_of F low.0) (λ y x. partly c j f y (set x j false)) = splits_later (low_made.keeps.variables ∙ v) low_made.node.held b_to_f low_is in
        let forced_later : IsTestOf F a c forced.0 (is_forced c j f) = splits_later v_d forced_made.node.held d_to_f forced_is in
        splits_made v_f next_made (splits_if (function_of F forced.0) (function_of F high.0) (function_of F low.0) forced_later high_is low_later) y x ys xs
        ∙ chosen (is_forced c j f y) (partly c j f y) x
        ∙ ap (λ (b : Bool). partly c j f y (set x j b)) (sym (least_digit c j (f y) inside))
        ∙ sym (partly_next c j f y x inside xs)
      where
        chosen : (b : Bool) (P : Test) (x : SignalSet) → (if b then P (set x j true) else P (set x j false)) ≡ P (set x j b)
        chosen true P x = refl
        chosen false P x = refl

  pub root_made_right : IsRoot A G k structural rest root.0 next.0
  root_made_right a c j s f v at inside structural_is rest_is = record {
    root_is = splits_later (to_e.variables ∙ v) root_made.node.held (Keeps-trans E F G high_made.keeps next_made.keeps) (root_is a c j s f v at inside structural_is rest_is);
    next_is = next_is a c j s f v at inside structural_is rest_is;
  }

-- ---- the parts

abbrev pub both_pass : Test → Finding → Finding
both_pass s K y x = s y && K y x

-- where a part is consistent
abbrev pub test_of : ArenaView → List NodeId → ℕ → Finding
test_of A fs p y x = function_of A (get_or fs p start).0 (y ++ x)

-- all nodes but one
abbrev others_of : ArenaView → ℕ → List NodeId → Function
others_of A p [] x = true
others_of A zero (f ∷ fs) x = meet A fs x
others_of A (suc p) (f ∷ fs) x = function_of A f.0 x && others_of A p fs x

one_and_others : (A : ArenaView) (p : ℕ) (fs : List NodeId) (x : List Bool) → p < length fs → meet A fs x ≡ (function_of A (get_or fs p start).0 x && others_of A p fs x)
one_and_others A p [] x low = absurd (omega arith)
one_and_others A zero (f ∷ fs) x low = refl
one_and_others A (suc p) (f ∷ fs) x low = ap (λ (b : Bool). function_of A f.0 x && b) (one_and_others A p fs x (omega arith)) ∙ turned (function_of A f.0 x) (function_of A (get_or fs p start).0 x) (others_of A p fs x)
  where
    turned : (p q r : Bool) → (p && (q && r)) ≡ (q && (p && r))
    turned true true r = refl
    turned true false r = refl
    turned false true r = refl
    turned false false r = refl

other_label : (labels : List ℕ) (p j q : ℕ) → part_of labels j ≡ q → q ≢ p → but (is_in labels p) j ≡ true
other_label labels p j q at ne = let off : nat_eq (part_of labels j) p ≡ false = grind (arith, nat_tests) in ap not off

others_read : (A : ArenaView) (a c : ℕ) (labels : List ℕ) (k p : ℕ) (fs : List NodeId) → ApartFrom A a c labels k fs → ReadsOnly a c (but (is_in labels (k + p))) (others_of A p fs)
others_read A a c labels k p [] apart y x z ys xs zs same = refl
others_read A a c labels k zero (f ∷ fs) apart y x z ys xs zs same =
    meet_reads A a c labels (but (is_in labels (k + 0))) (suc k) fs (apart_behind A a c labels k f fs apart) (λ j low. other_label labels (k + 0) j (part_of labels j) refl (omega arith)) y x z ys xs zs same
others_read A a c labels k (suc p) (f ∷ fs) apart y x z ys xs zs same =
    ap (λ (b : Bool). b && others_of A p fs (y ++ x)) (apart 0 (omega arith) y x z ys xs zs (λ j on. same j (other_label labels (k + suc p) j (k + 0) (eqb-true (part_of labels j) (k + 0) on) (omega arith))))
    ∙ ap (λ (b : Bool). function_of A f.0 (y ++ z) && b) (others_read A a c labels (suc k) p fs (apart_behind A a c labels k f fs apart) y x z ys xs zs
    (λ j on. same j (subst (λ (i : ℕ). but (is_in labels i) j ≡ true) (let e : suc k + p ≡ k + suc p = omega arith in e) on)))

-- where some values are consistent in all parts, some are in each, and the least ones have its bits
module _ (A : ArenaView) (a c : ℕ) (parts : Parts) (K : Finding) (y : SignalSet) (v : A.variables ≡ a + c) (is : AreParts A a parts) (k : Splits a c (meet A parts.consistent.items) K) (ys : length y ≡ a) (on : some c (K y) ≡ true) (p : ℕ) (low : p < length parts.consistent.items) where
  abbrev own : Test
  own = test_of A parts.consistent.items p y

  abbrev others : Test
  others x = others_of A p parts.consistent.items (y ++ x)

  own_reads : Reads c (is_in parts.labels.items p) own
  own_reads = reads_at (function_of A (get_or parts.consistent.items p start).0) y ys (subst (λ (i : ℕ). ReadsOnly a c (is_in parts.labels.items i) (function_of A (get_or parts.consistent.items p start).0)) (let e : 0 + p ≡ p = omega arith in e) (apart_from c v is p low))

  others_reads : Reads c (but (is_in parts.labels.items p)) others
  others_reads = reads_at (others_of A p parts.consistent.items) y ys (subst (λ (i : ℕ). ReadsOnly a c (but (is_in parts.labels.items i)) (others_of A p parts.consistent.items)) (let e : 0 + p ≡ p = omega arith in e) (others_read A a c parts.labels.items 0 p parts.consistent.items (apart_from c v is)))

  whole : (x : SignalSet) → length x ≡ c → K y x ≡ each own others x
  whole x xs = sym (k y x ys xs) ∙ one_and_others A p parts.consistent.items (y ++ x) low

  each_some : (some c own && some c others) ≡ true
  each_some = sym (some_apart c (is_in parts.labels.items p) own others own_reads others_reads) ∙ sym (some-same c (K y) (each own others) whole) ∙ on

  pub own_some : some c own ≡ true
  own_some = and_first (some c own) (some c others) each_some

  pub own_least : (j : ℕ) → part_of parts.labels.items j ≡ p → j < c → has (least c (K y)) j ≡ has (least c own) j
  own_least j at inside =
      let M_j : is_in parts.labels.items p j ≡ true = let same : nat_eq p p ≡ true = grind (arith, nat_tests) in ap (λ (q : ℕ). nat_eq q p) at ∙ same in
      ap (λ (l : SignalSet). has l j) (least-same c (K y) (each own others) whole)
      ∙ least_apart c (is_in parts.labels.items p) own others j own_reads others_reads M_j inside own_some (and_second (some c own) (some c others) each_some)

-- so a bit is found within its part
in_part : (A : ArenaView) (a c : ℕ) (parts : Parts) (s : Test) (K : Finding) (y : SignalSet) → A.variables ≡ a + c → AreParts A a parts → Splits a c (meet A parts.consistent.items) K → length y ≡ a → (s y ≡ true → some c (K y) ≡ true) → (p j : ℕ) → p < length parts.consistent.items → part_of parts.labels.items j ≡ p → j < c
    → in_least c s (test_of A parts.consistent.items p) j y ≡ in_least c s K j y
in_part A a c parts s K y v is k ys all p j low at inside = of_value (s y) refl
  where
    of_value : (b : Bool) → s y ≡ b → in_least c s (test_of A parts.consistent.items p) j y ≡ in_least c s K j y
    of_value false e = rw e refl
    of_value true e =
        let on : some c (K y) ≡ true = all e in
        let own_on : some c (test_of A parts.consistent.items p y) ≡ true = own_some A a c parts K y v is k ys on p low in
        ap (λ (b : Bool). s y && (b && has (least c (test_of A parts.consistent.items p y)) j)) own_on
        ∙ ap (λ (b : Bool). s y && b) (sym (own_least A a c parts K y v is k ys on p low j at inside))
        ∙ ap (λ (b : Bool). s y && (b && has (least c (K y)) j)) (sym on)

-- a part whose function doesn't depend on the next bit stays
kept_there : (l x : SignalSet) (j i c : ℕ) (b : Bool) → length l ≡ c → length x ≡ c → j < c → i ≢ j → has (take j l ++ drop j (set x j b)) i ≡ has (take j l ++ drop j x) i
kept_there l x j i c b ls xs low ne =
    let front : length (take j l) ≡ j = length-take-le j l (omega arith) in
    elim (cases_lt i j) [
      | inl before ↦ get_or_append_left (take j l) (drop j (set x j b)) false i (omega arith) ∙ sym (get_or_append_left (take j l) (drop j x) false i (omega arith))
      | inr after ↦
          let at : i ≡ length (take j l) + (i - j) = omega arith in
          let place : j + (i - j) ≡ i = omega arith in
          ap (has (take j l ++ drop j (set x j b))) at
          ∙ get_or-append-add (take j l) (drop j (set x j b)) (i - j) false
          ∙ get_or-drop j (set x j b) (i - j) false
          ∙ get_or-set_other x j (j + (i - j)) b false (omega arith)
          ∙ sym (ap (has (take j l ++ drop j x)) at ∙ get_or-append-add (take j l) (drop j x) (i - j) false ∙ get_or-drop j x (i - j) false)
    ]

partly_unread : (c j : ℕ) (M : ℕ → Bool) (f : Finding) (y x : SignalSet) → Reads c M (f y) → M j ≡ false → j < c → length x ≡ c → partly c (suc j) f y x ≡ partly c j f y x
partly_unread c j M f y x reads off low xs =
    let l = least c (f y) in
    let b = has l j in
    let ls : length l ≡ c = length-least c (f y) in
    let front : length (take j l) ≡ j = length-take-le j l (omega arith) in
    partly_next c j f y x low xs
    ∙ reads (take j l ++ drop j (set x j b)) (take j l ++ drop j x)
    (length-append (take j l) (drop j (set x j b)) ∙ (let n = length-drop j (set x j b) in let m = length-set x j b in omega arith))
    (length-append (take j l) (drop j x) ∙ (let n = length-drop j x in omega arith))
    (λ i on. kept_there l x j i c b ls xs low (λ same. let no : true ≡ false = sym on ∙ ap M same ∙ off in absurd (two no)))
  where
    two : true ≡ false → ⊥
    two e = cc

-- ---- all roots

-- the first functions, as many as i says
pub record BothSoFar (old : ArenaView) (f : ℕ) (gs : List NodeId) (i : ℕ) (new : ArenaView) (made : List NodeId) : Type 0 where
  pub adds : AddsAtMost i old new
  pub sized : length made ≡ i
  pub are : (p : ℕ) → p < i → Denotes new (get_or made p start).0 (both (function_of old f) (function_of old (get_or gs p start).0))

pub both_none : (arena : ArenaView) (f : ℕ) (gs : List NodeId) → IsArena arena → BothSoFar arena f gs 0 arena []
both_none arena f gs valid = record { adds = adds_nothing 0 arena valid; sized = refl; are = λ p low. absurd (omega arith) }

pub both_more : {A B C : ArenaView} {f i : ℕ} {made : List NodeId} {next : NodeId} (gs : List NodeId) → i < length gs → Holds A f → All (λ (g : NodeId). Holds A g.0) gs → BothSoFar A f gs i B made
    → Makes (2 ^ (B.variables + 1)) B C (both (function_of B f) (function_of B (get_or gs i start).0)) (Ok next) → BothSoFar A f gs (i + 1) C (made ++ next ∷ [])
both_more {A} {B} {C} {f} {i} {made} {next} gs low held_f held before step = record {
  adds = adds_in_turn i 1 (i + 1) (omega arith) before.adds (adds_one step);
  sized = length_push made next ∙ ap (λ (n : ℕ). n + 1) before.sized;
  are = λ p less. elim (cases_lt p i) [
    | inl earlier ↦ subst (λ (g : NodeId). Denotes C g.0 (both (function_of A f) (function_of A (get_or gs p start).0))) (sym (get_or_append_left made (next ∷ []) start p (omega (arith, before.sized)))) (denotes_later step.keeps (before.are p earlier))
    | inr last ↦
        let same : p ≡ i = omega arith in
        let there : get_or (made ++ next ∷ []) p start ≡ next = ap (λ (n : ℕ). get_or (made ++ next ∷ []) n start) (same ∙ sym before.sized) ∙ get_or-append_seam made next [] start in
        subst (λ (g : NodeId). Denotes C g.0 (both (function_of A f) (function_of A (get_or gs p start).0))) (sym there)
        (subst (λ (n : ℕ). Denotes C next.0 (both (function_of A f) (function_of A (get_or gs n start).0))) (sym same) (record {
          held = step.node.held;
          equal = λ x xs.
              let xs_a = xs ∙ step.keeps.variables ∙ before.adds.keeps.variables in
              step.node.denotes x xs ∙ ap (λ (b : Bool). b && function_of B (get_or gs i start).0 x) (before.adds.keeps.denotes f held_f x xs_a) ∙ ap (λ (b : Bool). function_of A f x && b) (before.adds.keeps.denotes (get_or gs i start).0 (held i start low) x xs_a);
        }))
  ];
}

pub both_all : {A B : ArenaView} {f i : ℕ} {made : List NodeId} (gs : List NodeId) → length gs ≤ i → BothSoFar A f gs i B made → AreBoth A B f gs made
both_all gs end done p low = done.are p (omega arith)

-- the first roots, as many as j says
pub record RootsSoFar (old : ArenaView) (a structural : ℕ) (parts : Parts) (j : ℕ) (new : ArenaView) (roots rests : List NodeId) : Type 0 where
  pub adds : AddsAtMost (length parts.consistent.items + j * (5 + (old.variables - a))) old new
  pub rests_sized : length rests ≡ length parts.consistent.items
  pub held : All (λ (f : NodeId). Holds new f.0) rests
  pub roots_held : All (λ (f : NodeId). Holds new f.0) roots
  pub sized : length roots ≡ j
  pub rests_are : (c : ℕ) (s : Test) → old.variables ≡ a + c → IsTestOf old a c structural s → (p : ℕ) → p < length parts.consistent.items → Splits a c (function_of new (get_or rests p start).0) (partly c j (both_pass s (test_of old parts.consistent.items p)))
  pub roots_are : (c : ℕ) (s : Test) (K : Finding) → old.variables ≡ a + c → IsTestOf old a c structural s → Splits a c (meet old parts.consistent.items) K → AllReact a c s K
      → (i : ℕ) → i < j → IsTestOf new a c (get_or roots i (record { 0 = 0 })).0 (in_least c s K i)

drop-none : (x : SignalSet) → x ≡ drop 0 x
drop-none [] = refl
drop-none (b ∷ x) = refl

pub roots_none : {a structural : ℕ} {A B : ArenaView} {rests : List NodeId} (parts : Parts) → AddsAtMost (length parts.consistent.items) A B → length rests ≡ length parts.consistent.items → AreBoth A B structural parts.consistent.items rests → RootsSoFar A a structural parts 0 B [] rests
roots_none {a} {structural} {A} {B} {rests} parts adds sized are = record {
  adds = adds_fewer (length parts.consistent.items) _ (omega arith) adds;
  rests_sized = sized;
  held = λ p d low. subst (λ (f : NodeId). Holds B f.0) (defaults_of rests p start d low) (are p (omega arith)).held;
  roots_held = λ k d low. absurd (omega arith);
  sized = refl;
  rests_are = λ c s v t p low y x ys xs.
      let f = test_of A parts.consistent.items p in
      (are p low).equal (y ++ x) (sized_in y x (adds.keeps.variables ∙ v) ys xs)
      ∙ ap (λ (b : Bool). b && f y x) (t y x ys xs)
      ∙ ap (λ (l : SignalSet). s y && f y l) (drop-none x);
  roots_are = λ c s K v t k all i low. absurd (omega arith);
}

pub roots_more : {a structural j k p : ℕ} {A B C : ArenaView} {roots rests : List NodeId} {root next : NodeId} (parts : Parts) → AreParts A a parts → k ≡ a + j → k < A.variables → p ≡ part_of parts.labels.items j → p < length parts.consistent.items → Holds A structural → RootsSoFar A a structural parts j B roots rests
    → AddsAtMost (5 + (B.variables - k)) B C → Holds C root.0 → Holds C next.0 → IsRoot B C k structural (get_or rests p start).0 root.0 next.0 → RootsSoFar A a structural parts (j + 1) C (roots ++ root ∷ []) (set rests p next)
roots_more {a} {structural} {j} {k} {p} {A} {B} {C} {roots} {rests} {root} {next} parts is_parts at low own place held_structural before adds held_root held_next is =
    let fs = parts.consistent.items in
    let inside : p < length rests = omega (arith, before.rests_sized) in
    record {
      adds =
          let n = 5 + (A.variables - a) in
          let fits : 5 + (B.variables - k) ≤ n = omega (arith, before.adds.keeps.variables, at) in
          adds_in_turn (length fs + j * n) (5 + (B.variables - k)) (length fs + (j + 1) * n) (omega (arith, fits)) before.adds adds;
      rests_sized = length-set rests p next ∙ before.rests_sized;
      held = λ q d less. elim (nat_cases q p) [
        | inl here ↦ subst (λ (f : NodeId). Holds C f.0) (sym (get_or-set_at rests p q next d here inside)) held_next
        | inr other ↦ subst (λ (f : NodeId). Holds C f.0) (sym (get_or-set_other rests p q next d other)) (adds.keeps.held (get_or rests q d).0 (before.held q d (omega (arith, length-set rests p next))))
      ];
      roots_held = held_push C roots root (all_later B C roots adds.keeps before.roots_held) held_root;
      sized = length_push roots root ∙ ap (λ (n : ℕ). n + 1) before.sized;
      rests_are = λ c s v t q less.
          let more : suc j ≡ j + 1 = omega arith in
          let j_low : j < c = omega (arith, v, at) in
          elim (nat_cases q p) [
            | inl here ↦
                let f = both_pass s (test_of A fs p) in
                let step = is a c j s f (before.adds.keeps.variables ∙ v) at j_low (splits_later v held_structural before.adds.keeps t) (before.rests_are c s v t p place) in
                subst (λ (g : NodeId). Splits a c (function_of C g.0) (partly c (j + 1) (both_pass s (test_of A fs q)))) (sym (get_or-set_at rests p q next start here inside))
                (subst (λ (r : ℕ). Splits a c (function_of C next.0) (partly c (j + 1) (both_pass s (test_of A fs r)))) (sym here)
                (subst (λ (i : ℕ). Splits a c (function_of C next.0) (partly c i f)) more step.next_is))
            | inr other ↦
                let f = both_pass s (test_of A fs q) in
                let there : q < length rests = omega (arith, before.rests_sized) in
                let stays : Splits a c (function_of C (get_or rests q start).0) (partly c j f) = splits_later (before.adds.keeps.variables ∙ v) (before.held q start there) adds.keeps (before.rests_are c s v t q less) in
                let off : is_in parts.labels.items q j ≡ false = unlike (part_of parts.labels.items j) q (λ same. other (sym same ∙ sym own)) in
                subst (λ (g : NodeId). Splits a c (function_of C g.0) (partly c (j + 1) f)) (sym (get_or-set_other rests p q next start other))
                (subst (λ (i : ℕ). Splits a c (function_of C (get_or rests q start).0) (partly c i f)) more (λ y x ys xs.
                stays y x ys xs ∙ sym (partly_unread c j (is_in parts.labels.items q) f y x (λ u w us ws same. ap (λ (b : Bool). s y && b) (reads_of c v q less y ys u w us ws same)) off j_low xs)))
          ];
      roots_are = λ c s K v t r all i less. elim (cases_lt i j) [
        | inl earlier ↦
            let there : get_or (roots ++ root ∷ []) i start ≡ get_or roots i start = get_or_append_left roots (root ∷ []) start i (omega (arith, before.sized)) in
            subst (λ (f : NodeId). IsTestOf C a c f.0 (in_least c s K i)) (sym there)
            (splits_later (before.adds.keeps.variables ∙ v) (before.roots_held i start (omega (arith, before.sized))) adds.keeps (before.roots_are c s K v t r all i earlier))
        | inr last ↦
            let same : i ≡ j = omega arith in
            let T = test_of A fs p in
            let f = both_pass s T in
            let j_low : j < c = omega (arith, v, at) in
            let step = is a c j s f (before.adds.keeps.variables ∙ v) at j_low (splits_later v held_structural before.adds.keeps t) (before.rests_are c s v t p place) in
            let there : get_or (roots ++ root ∷ []) i start ≡ root = ap (λ (n : ℕ). get_or (roots ++ root ∷ []) n start) (same ∙ sym before.sized) ∙ get_or-append_seam roots root [] start in
            let here : IsTestOf C a c root.0 (in_least c s K j) = λ y x ys xs.
            step.root_is y x ys xs
            ∙ roots_are_least c j s T y j_low (λ structural_is. own_some A a c parts K y v is_parts r ys (all y ys structural_is) p place)
            ∙ in_part A a c parts s K y v is_parts r ys (λ structural_is. all y ys structural_is) p j place (sym own) j_low in
            subst (λ (f : NodeId). IsTestOf C a c f.0 (in_least c s K i)) (sym there) (subst (λ (n : ℕ). IsTestOf C a c root.0 (in_least c s K n)) (sym same) here)
      ];
    }
  where
    unlike : (m q : ℕ) → (m ≡ q → ⊥) → nat_eq m q ≡ false
    unlike m q ne = let other : m ≢ q = ne in grind (arith, nat_tests)

    reads_of : (c : ℕ) → A.variables ≡ a + c → (q : ℕ) → q < length parts.consistent.items → (y : SignalSet) → length y ≡ a → Reads c (is_in parts.labels.items q) (test_of A parts.consistent.items q y)
    reads_of c v q less y ys =
        reads_at (function_of A (get_or parts.consistent.items q start).0) y ys (subst (λ (i : ℕ). ReadsOnly a c (is_in parts.labels.items i) (function_of A (get_or parts.consistent.items q start).0)) (let e : 0 + q ≡ q = omega arith in e) (apart_from c v is_parts q less))

    held_push : (arena : ArenaView) (fs : List NodeId) (f : NodeId) → All (λ (g : NodeId). Holds arena g.0) fs → Holds arena f.0 → All (λ (g : NodeId). Holds arena g.0) (fs ++ f ∷ [])
    held_push arena [] f all held zero d less = held
    held_push arena [] f all held (suc i) d less = absurd (omega arith)
    held_push arena (g ∷ fs) f all held zero d less = all 0 g (omega arith)
    held_push arena (g ∷ fs) f all held (suc i) d less = held_push arena fs f (λ k e low. all (suc k) e (omega arith)) held i d (omega arith)

pub roots_all : {a structural j : ℕ} {A B : ArenaView} {rests : List NodeId} (parts : Parts) (roots : List NodeId) → a + j ≡ A.variables → RootsSoFar A a structural parts j B roots rests → AreLeastOnes A B a structural parts.consistent.items roots
roots_all {a} {structural} {j} {A} {B} {rests} parts roots all_done before c s K v t r all i less = before.roots_are c s K v t r all i (omega (arith, v, all_done))

-- ---- counts

pub after_quantified : {k : ℕ} {A B C : ArenaView} → k < A.variables → AddsAtMost 1 A B → AddsAtMost (B.variables - (k + 1)) B C → AddsAtMost (A.variables - k) A C
after_quantified {k} {A} {B} {C} low one more = adds_in_turn 1 (B.variables - (k + 1)) (A.variables - k) (omega (arith, one.keeps.variables)) one more

pub few_roots : (n j k u : ℕ) → j < n → k ≤ n - j → (n + j * (5 + n)) + (5 + k) ≤ n + n * (5 + n)
few_roots n j k u less fits =
    let more : (j + 1) * (5 + n) ≤ n * (5 + n) = mul-le-mul_right (5 + n) (omega arith) in
    omega (arith, more)

pub few_all : (n j : ℕ) → j ≤ n → j * (5 + n) ≤ n * (5 + n)
few_all n j less = mul-le-mul_right (5 + n) less
