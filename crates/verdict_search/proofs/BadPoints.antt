-- Where there isn't exactly one reaction.
use Rattle.std.proofs.Common.{◌≡◌, ℕ, ◌+◌, ◌-◌, ◌*◌, ◌^◌, ◌<◌, ◌≤◌, List, [], ◌∷◌, ◌++◌, Bool, true, false, ◌&&◌, ◌||◌, not, if◌then◌else◌, length, take, set, get_or, refl, sym, ap, ◌∙◌, inl, inr, subst, arith, Result, Ok, Err, IfOk}
use Rattle.std.specs.Prelude.{All, Contains}
use Rattle.std.specs.List.{range_with_len}
use Rattle.std.proofs.Math.Nat.{mul-le-mul_right}
use Rattle.std.proofs.lemmas.Bool.{cases_lt}
use Rattle.std.proofs.lemmas.Grind.{get_or-set_at, get_or_default_zero}
use Rattle.std.proofs.lemmas.List.{take_more, take_all, map-append, length-set, length-take-le, get_or-set_other}
use Rattle.std.proofs.lemmas.List.FromFn.{length-range_with_len, get_or-range_with_len}
use Rattle.argos_base.specs.SignalSets.{SignalSet, has}
use Rattle.dd_core.specs.declared.nodes.NodeId.{NodeId}
use Rattle.dd_core.specs.declared.errors.DdError.{DdError}
use Rattle.dd_core.specs.Functions.{both, either, opposite}
use Rattle.dd_core.specs.Arenas.{ArenaView, IsArena, Holds, function_of, Keeps, Makes, AddsAtMost}
use Rattle.dd_core.proofs.Composing.{Keeps-trans}
use Rattle.dd_ops.specs.Quantified.{IsExists, MakesNodeWith}
use Rattle.eqn_completion.specs.Findings.{Finding}
use Rattle.eqn_dd.specs.Denoting.{Denotes}
use Rattle.eqn_dd.proofs.Denotations.{adds_one, adds_in_turn, adds_fewer, adds_nothing, denotes_constant}
use Rattle.eqn_verdict.specs.Diagrams.{AreFrom, Splits}
use Rattle.eqn_verdict.specs.Searching.{Test, some, with, without, differs, some_differ}
use Rattle.eqn_verdict.specs.Verdicts as verdicts
use Rattle.eqn_verdict.proofs.Searches.{skipped_dont_differ}
use Rattle.eqn_verdict.proofs.Steps.{exists_is_some}
use Rattle.verdict_search.specs.declared.parting.Parts.{Parts}
use Rattle.verdict_search.specs.Parts.{meet, part_of, ReadsOnly, AreParts}
use Rattle.verdict_search.specs.Splitting.{AreSplit, IsTestOf}
use Rattle.verdict_search.specs.inner.Parting.{Tests}
use Rattle.verdict_search.specs.inner.Testing.{IsSomeFrom, IsSomeOfAll, chosen_of, AreChosen, IsNear, IsSomeWith, IsDiffering, IsOrDiffering, IsNoneOrDiffering, IsBadTest}
use Rattle.verdict_search.proofs.PartNodes.{start, nat_cases, function_reads, meet_later, apart_from, some_each, some_each-push, some_of_all, chosen_push, differs-same, differs_chosen}
use Rattle.verdict_search.proofs.PartTests.{some-same}
use Rattle.verdict_search.proofs.SplitNodes.{sized_in, splits_later, split_at, split_length, splits_made, splits_both, splits_either, splits_opposite, made_ok}

-- ---- the last variables quantified

pub are_from : (a c : ℕ) → AreFrom a c (range_with_len a c)
are_from a c k = (there, back)
  where
    there : Contains (range_with_len a c) k → (a ≤ k) × (k < a + c)
    there has =
        let low : has.0 < c = omega (arith, has.1, length-range_with_len a c) in
        let at : a + has.0 ≡ k = sym (get_or-range_with_len a c has.0 k low) ∙ has.2 in
        (omega arith, omega arith)

    back : (a ≤ k) × (k < a + c) → Contains (range_with_len a c) k
    back fits =
        let low : k - a < c = let p = fits.0 in let q = fits.1 in omega arith in
        (k - a, omega (arith, length-range_with_len a c), get_or-range_with_len a c (k - a) k low ∙ (let p = fits.0 in omega arith))

pub all_from : (a c v : ℕ) → v ≡ a + c → All (λ k. k < v) (range_with_len a c)
all_from a c v is = λ i d low.
    let inside : i < c = omega (arith, length-range_with_len a c) in
    let at = get_or-range_with_len a c i d inside in
    omega (arith, at)

pub some_from : {m f : ℕ} {A B : ArenaView} {vars : List ℕ} (a c : ℕ) (result : Result NodeId DdError) → A.variables ≡ a + c → vars ≡ range_with_len a c → MakesNodeWith m A B (IsExists A.variables vars (function_of A f)) result → IfOk result (λ e. IsSomeFrom A B a f e.0)
some_from a c (Err e) v is made = tt
some_from {m} {f} {A} {B} {vars} a c (Ok e) v is made = λ n F w s.
    let same : n ≡ c = omega arith in
    let from : AreFrom a n vars = subst (AreFrom a n) (ap (λ (k : ℕ). range_with_len a k) same ∙ sym is) (are_from a n) in
    exists_is_some a n vars (function_of A f) (function_of B e.0) F from (subst (λ (u : ℕ). IsExists u vars (function_of A f) (function_of B e.0)) w made.node.has) s

-- met with what is consistent, and quantified
pub some_met : {m consistent g met : ℕ} {A B : ArenaView} (C : ArenaView) (a : ℕ) (result : Result NodeId DdError) → Makes m A B (both (function_of A consistent) (function_of A g)) (Ok (record { 0 = met })) → IfOk result (λ e. IsSomeFrom B C a met e.0) → IfOk result (λ e. IsSomeWith A C a consistent g e.0)
some_met C a (Err e) made is = tt
some_met {m} {consistent} {g} {met} {A} {B} C a (Ok e) made is = λ c K G v k h. is c (λ y. with (K y) (G y)) (made.keeps.variables ∙ v) (splits_made v made (splits_both (function_of A consistent) (function_of A g) k h))

-- ---- a result that differs

module _ {m n a consistent g : ℕ} {A B C D E : ArenaView} {yes opposite_g no : NodeId} (held : Holds A g) (held_consistent : Holds A consistent)
    (first : AddsAtMost m A B) (yes_is : IsSomeWith A B a consistent g yes.0) (yes_held : Holds B yes.0)
    (turned : Makes n B C (opposite (function_of B g)) (Ok opposite_g)) where
  pub both_differ : {i j : ℕ} (result : Result NodeId DdError) → AddsAtMost i C D → IsSomeWith C D a consistent opposite_g.0 no.0 → Makes j D E (both (function_of D yes.0) (function_of D no.0)) result → IfOk result (λ d. IsDiffering A E a consistent g d.0)
  both_differ result second no_is last = made_ok result last (λ d made. λ c K G v k h.
      let v_b : B.variables ≡ a + c = first.keeps.variables ∙ v in
      let v_c : C.variables ≡ a + c = turned.keeps.variables ∙ v_b in
      let v_d : D.variables ≡ a + c = second.keeps.variables ∙ v_c in
      let to_c : Keeps A C = Keeps-trans A B C first.keeps turned.keeps in
      let against : Splits a c (function_of C opposite_g.0) (λ y x. not (G y x)) = splits_made v_b turned (splits_opposite (function_of B g) (splits_later v held first.keeps h)) in
      let no_split : IsTestOf D a c no.0 (λ y. some c (without (K y) (G y))) = no_is c K (λ y x. not (G y x)) v_c (splits_later v held_consistent to_c k) against in
      let yes_split : IsTestOf D a c yes.0 (λ y. some c (with (K y) (G y))) = splits_later v_b yes_held (Keeps-trans B C D turned.keeps second.keeps) (yes_is c K G v k h) in
      splits_made v_d made (splits_both (function_of D yes.0) (function_of D no.0) yes_split no_split))

-- ---- some values in each part

-- of the first parts, as many as i says
pub record SomeSoFar (old : ArenaView) (a : ℕ) (fs : List NodeId) (i : ℕ) (new : ArenaView) (e : ℕ) : Type 0 where
  pub adds : AddsAtMost (i * ((old.variables - a) + 1)) old new
  pub held : Holds new e
  pub right : (c : ℕ) → old.variables ≡ a + c → (labels : List ℕ) → IsTestOf new a c e (some_each old a c labels (take i fs))

pub some_none : (arena : ArenaView) (a : ℕ) (fs : List NodeId) → IsArena arena → SomeSoFar arena a fs 0 arena 1
some_none arena a fs valid = record {
  adds = adds_nothing _ arena valid;
  held = constant_is.held;
  right = λ c v labels y x ys xs. constant_is.equal (y ++ x) (sized_in y x v ys xs);
}
  where
    constant_is : Denotes arena 1 (λ x. true)
    constant_is = denotes_constant arena 1 true valid refl

pub some_more : {a i each : ℕ} {A B C D : ArenaView} {here next : NodeId} (fs : List NodeId) (f : NodeId) → i < length fs → All (λ (g : NodeId). Holds A g.0) fs → f ≡ get_or fs i start → SomeSoFar A a fs i B each
    → AddsAtMost (B.variables - a) B C → IsSomeFrom B C a f.0 here.0 → Makes (2 ^ (C.variables + 1)) C D (both (function_of C each) (function_of C here.0)) (Ok next) → SomeSoFar A a fs (i + 1) D next.0
some_more {a} {i} {each} {A} {B} {C} {D} {here} {next} fs f low held f_is before adds is made = record {
  adds =
      let n = A.variables - a in
      let m : B.variables - a ≡ n = ap (λ (v : ℕ). v - a) before.adds.keeps.variables in
      adds_in_turn (i * (n + 1) + n) 1 ((i + 1) * (n + 1)) (omega arith) (adds_in_turn (i * (n + 1)) (B.variables - a) (i * (n + 1) + n) (omega (arith, m)) before.adds adds) (adds_one made);
  held = made.node.held;
  right = λ c v labels.
      let v_b = before.adds.keeps.variables ∙ v in
      let v_c = adds.keeps.variables ∙ v_b in
      let F : Finding = λ y x. function_of A (get_or fs i start).0 (y ++ x) in
      let own : Splits a c (function_of B f.0) F = λ y x ys xs. ap (λ (g : NodeId). function_of B g.0 (y ++ x)) f_is ∙ before.adds.keeps.denotes (get_or fs i start).0 (held i start low) (y ++ x) (sized_in y x v ys xs) in
      let was : IsTestOf C a c each (some_each A a c labels (take i fs)) = splits_later v_b before.held adds.keeps (before.right c v labels) in
      λ y x ys xs.
      splits_made v_c made (splits_both (function_of C each) (function_of C here.0) was (is c F v_b own)) y x ys xs
      ∙ sym (ap (λ (l : List NodeId). some_each A a c labels l y) (take_more fs i start low) ∙ some_each-push A a c labels (take i fs) (get_or fs i start) y);
}

pub some_all : {a i e : ℕ} {A B : ArenaView} {parts : Parts} → AreParts A a parts → length parts.consistent.items ≤ i → SomeSoFar A a parts.consistent.items i B e → IsSomeOfAll A B a parts.consistent.items e
some_all {a} {i} {e} {A} {B} {parts} is end done c K v k y x ys xs =
    let fs = parts.consistent.items in
    done.right c v parts.labels.items y x ys xs
    ∙ ap (λ (l : List NodeId). some_each A a c parts.labels.items l y) (take_all i fs end)
    ∙ some_of_all A a c parts.labels.items 0 fs y ys (apart_from c v is)
    ∙ some-same c (λ x. meet A fs (y ++ x)) (K y) (λ z zs. k y z ys zs)

-- ---- the parts that a result reads

-- of the first parts, as many as i says
pub record NearSoFar (old : ArenaView) (fs : List NodeId) (flags : List Bool) (i : ℕ) (new : ArenaView) (met : ℕ) : Type 0 where
  pub adds : AddsAtMost i old new
  pub is : Denotes new met (chosen_of old (take i flags) (take i fs))

pub near_none : (arena : ArenaView) (fs : List NodeId) (flags : List Bool) → IsArena arena → NearSoFar arena fs flags 0 arena 1
near_none arena fs flags valid = record { adds = adds_nothing 0 arena valid; is = denotes_constant arena 1 true valid refl }

chosen_next : (A : ArenaView) (fs : List NodeId) (flags : List Bool) (i : ℕ) (x : List Bool) → i < length fs → length flags ≡ length fs → chosen_of A (take (i + 1) flags) (take (i + 1) fs) x ≡ (chosen_of A (take i flags) (take i fs) x && (if get_or flags i false then function_of A (get_or fs i start).0 x else true))
chosen_next A fs flags i x low sized =
    ap (λ (l : List Bool). chosen_of A l (take (i + 1) fs) x) (take_more flags i false (omega arith))
    ∙ ap (λ (l : List NodeId). chosen_of A (take i flags ++ get_or flags i false ∷ []) l x) (take_more fs i start low)
    ∙ chosen_push A (take i flags) (get_or flags i false) (take i fs) (get_or fs i start) x (length-take-le i flags (omega arith) ∙ sym (length-take-le i fs (omega arith)))

pub near_more : {i met : ℕ} {A B C : ArenaView} {next : NodeId} (fs : List NodeId) (flags : List Bool) (f : NodeId) → i < length fs → length flags ≡ length fs → All (λ (g : NodeId). Holds A g.0) fs → f ≡ get_or fs i start → get_or flags i false ≡ true → NearSoFar A fs flags i B met
    → Makes (2 ^ (B.variables + 1)) B C (both (function_of B met) (function_of B f.0)) (Ok next) → NearSoFar A fs flags (i + 1) C next.0
near_more {i} {met} {A} {B} {C} {next} fs flags f low sized held f_is flag before made = record {
  adds = adds_in_turn i 1 (i + 1) (omega arith) before.adds (adds_one made);
  is = record {
    held = made.node.held;
    equal = λ x xs.
        let xs_b = xs ∙ made.keeps.variables in
        let xs_a = xs_b ∙ before.adds.keeps.variables in
        made.node.denotes x xs
        ∙ ap (λ (b : Bool). b && function_of B f.0 x) (before.is.equal x xs_b)
        ∙ ap (λ (b : Bool). chosen_of A (take i flags) (take i fs) x && b) (ap (λ (g : NodeId). function_of B g.0 x) f_is ∙ before.adds.keeps.denotes (get_or fs i start).0 (held i start low) x xs_a)
        ∙ sym (chosen_next A fs flags i x low sized ∙ ap (λ (b : Bool). chosen_of A (take i flags) (take i fs) x && (if b then function_of A (get_or fs i start).0 x else true)) flag);
  };
}

pub near_skipped : {i met : ℕ} {A B : ArenaView} (fs : List NodeId) (flags : List Bool) → i < length fs → length flags ≡ length fs → get_or flags i false ≡ false → NearSoFar A fs flags i B met → NearSoFar A fs flags (i + 1) B met
near_skipped {i} {met} {A} {B} fs flags low sized flag before = record {
  adds = adds_fewer i (i + 1) (omega arith) before.adds;
  is = record {
    held = before.is.held;
    equal = λ x xs.
        before.is.equal x xs
        ∙ sym (chosen_next A fs flags i x low sized ∙ ap (λ (b : Bool). chosen_of A (take i flags) (take i fs) x && (if b then function_of A (get_or fs i start).0 x else true)) flag ∙ whole (chosen_of A (take i flags) (take i fs) x));
  };
}
  where
    whole : (b : Bool) → (b && true) ≡ b
    whole true = refl
    whole false = refl

pub near_all : {i met : ℕ} {A B : ArenaView} {parts : Parts} {read : List ℕ} (flags : List Bool) → length flags ≡ length parts.consistent.items → AreChosen parts.labels.items read flags → length parts.consistent.items ≤ i → NearSoFar A parts.consistent.items flags i B met → IsNear A B parts read met
near_all {i} {met} {A} {B} {parts} {read} flags sized chosen end done = record {
  flags = flags;
  sized = sized;
  chosen = chosen;
  is = record {
    held = done.is.held;
    equal = λ x xs.
        done.is.equal x xs
        ∙ ap (λ (l : List Bool). chosen_of A l (take i parts.consistent.items) x) (take_all i flags (omega arith))
        ∙ ap (λ (l : List NodeId). chosen_of A flags l x) (take_all i parts.consistent.items end);
  };
}

-- the flags of the first bits, as many as i says
pub record ChosenSoFar (labels read : List ℕ) (n i : ℕ) (flags : List Bool) : Type 0 where
  pub sized : length flags ≡ n
  pub chosen : (k d : ℕ) → k < i → get_or flags (part_of labels (get_or read k d)) false ≡ true

pub chosen_more : {labels read : List ℕ} {n i p : ℕ} {flags : List Bool} → i < length read → p ≡ part_of labels (get_or read i 0) → p < n → ChosenSoFar labels read n i flags → ChosenSoFar labels read n (i + 1) (set flags p true)
chosen_more {labels} {read} {n} {i} {p} {flags} low at inside before = record {
  sized = length-set flags p true ∙ before.sized;
  chosen = λ k d less. elim (nat_cases (part_of labels (get_or read k d)) p) [
    | inl here ↦ get_or-set_at flags p (part_of labels (get_or read k d)) true false here (omega (arith, before.sized))
    | inr other ↦ get_or-set_other flags p (part_of labels (get_or read k d)) true false other ∙ elim (cases_lt k i) [
      | inl earlier ↦ before.chosen k d earlier
      | inr last ↦
          let same : k ≡ i = omega arith in
          absurd (other (ap (part_of labels) (ap (λ (m : ℕ). get_or read m d) same ∙ get_or_default_zero read i d low) ∙ sym at))
    ]
  ];
}

-- ---- a result and the points before

or_none : (b : Bool) → b ≡ (b || false)
or_none true = refl
or_none false = refl

apart_constant : (A : ArenaView) (a c : ℕ) (g : NodeId) (G : Finding) → A.variables ≡ a + c → ((j : ℕ) → Tests A.nodes (a + j) g → ⊥) → Splits a c (function_of A g.0) G → (y : SignalSet) → length y ≡ a → (x z : SignalSet) → length x ≡ c → length z ≡ c → G y x ≡ G y z
apart_constant A a c g G v none h y ys x z xs zs =
    sym (h y x ys xs) ∙ function_reads A a c (λ j. false) g v (λ j tests. absurd (none j tests)) y x z ys xs zs (λ j on. absurd (no on)) ∙ h y z ys zs
  where
    no : false ≡ true → ⊥
    no e = cc

dont_differ : (A : ArenaView) (a c : ℕ) (g : NodeId) (K G : Finding) → A.variables ≡ a + c → ((j : ℕ) → Tests A.nodes (a + j) g → ⊥) → Splits a c (function_of A g.0) G → (y : SignalSet) → length y ≡ a → differs c (K y) (G y) ≡ false
dont_differ A a c g K G v none h y ys =
    first_false (differs c (K y) (G y)) (skipped_dont_differ c (K y) (false ∷ []) (G y ∷ []) (
      (λ off x z xs zs. apart_constant A a c g G v none h y ys x z xs zs),
      tt,
    ))
  where
    first_false : (b : Bool) → (b || false) ≡ false → b ≡ false
    first_false true e = cc
    first_false false e = refl

-- a result that reads no cyclic bit needn't be joined
pub or_skipped : (A : ArenaView) (a : ℕ) (fs : List NodeId) (f : ℕ) (g : NodeId) → ((j : ℕ) → Tests A.nodes (a + j) g → ⊥) → IsOrDiffering A A a fs f g.0 f
or_skipped A a fs f g none c K G t v k h is y x ys xs =
    is y x ys xs ∙ ap (λ (b : Bool). not (some c (K y)) || b) (or_none (t y) ∙ ap (λ (b : Bool). t y || b) (sym (dont_differ A a c g K G v none h y ys)))

pub or_differs : {m n a f : ℕ} {A B C D : ArenaView} {parts : Parts} {read : List ℕ} {near d : NodeId} (g : NodeId) (result : Result NodeId DdError) → AreParts A a parts → Holds A f → Holds A g.0 → ((j : ℕ) → Tests A.nodes (a + j) g → Contains read j) → AddsAtMost m A B → IsNear A B parts read near.0
    → AddsAtMost n B C → IsDiffering B C a near.0 g.0 d.0 → Makes (2 ^ (C.variables + 1)) C D (either (function_of C f) (function_of C d.0)) result → IfOk result (λ e. IsOrDiffering A D a parts.consistent.items f g.0 e.0)
or_differs {m} {n} {a} {f} {A} {B} {C} {D} {parts} {read} {near} {d} g result is_parts held held_g reads first is_near second is last = made_ok result last (λ e made. λ c K G t v k h was.
    let fs = parts.consistent.items in
    let flags = is_near.flags in
    let v_b = first.keeps.variables ∙ v in
    let v_c = second.keeps.variables ∙ v_b in
    let whole = Keeps-trans A B C first.keeps second.keeps in
    let N : Finding = λ y x. chosen_of A flags fs (y ++ x) in
    let H : Finding = λ y x. function_of A g.0 (y ++ x) in
    let near_split : Splits a c (function_of B near.0) N = λ y x ys xs. is_near.is.equal (y ++ x) (sized_in y x v_b ys xs) in
    let own_split : Splits a c (function_of B g.0) H = λ y x ys xs. first.keeps.denotes g.0 held_g (y ++ x) (sized_in y x v ys xs) in
    let before : IsTestOf C a c f (λ y. not (some c (K y)) || t y) = splits_later v held whole was in
    let own : ReadsOnly a c (λ j. has flags (part_of parts.labels.items j)) (function_of A g.0) = function_reads A a c (λ j. has flags (part_of parts.labels.items j)) g v (λ j tests. chosen_at is_near j (reads j tests)) in
    λ y x ys xs.
    splits_made v_c made (splits_either (function_of C f) (function_of C d.0) before (is c N H v_b near_split own_split)) y x ys xs
    ∙ joined (some c (K y)) (t y) (differs c (N y) (H y)) (differs c (K y) (G y)) (λ on.
    sym (differs_chosen c flags (function_of A g.0) y v is_parts is_near.sized ys own (some-same c (λ x. meet A fs (y ++ x)) (K y) (λ z zs. k y z ys zs) ∙ on))
    ∙ differs-same c (λ x. meet A fs (y ++ x)) (K y) (H y) (G y) (λ z zs. k y z ys zs) (λ z zs. h y z ys zs)))
  where
    chosen_at : IsNear A B parts read near.0 → (j : ℕ) → Contains read j → has is_near.flags (part_of parts.labels.items j) ≡ true
    chosen_at near_is j listed = subst (λ (m : ℕ). has is_near.flags (part_of parts.labels.items m) ≡ true) listed.2 (is_near.chosen listed.0 j listed.1)

    joined : (s t d e : Bool) → (s ≡ true → d ≡ e) → ((not s || t) || d) ≡ (not s || (t || e))
    joined true t d e same = ap (λ (b : Bool). t || b) (same refl)
    joined false t d e same = refl

-- ---- all results

some_differ-push : (c : ℕ) (K : Test) (gs : List Test) (g : Test) → some_differ c K (gs ++ g ∷ []) ≡ (some_differ c K gs || differs c K g)
some_differ-push c K [] g = sym (or_none (differs c K g))
some_differ-push c K (f ∷ gs) g = ap (λ (b : Bool). differs c K f || b) (some_differ-push c K gs g) ∙ moved (differs c K f) (some_differ c K gs) (differs c K g)
  where
    moved : (p q r : Bool) → (p || (q || r)) ≡ ((p || q) || r)
    moved true q r = refl
    moved false q r = refl

-- the first results, as many as i says
abbrev pub differing_so_far : ℕ → Finding → List Finding → ℕ → Test
differing_so_far c K gs i y = not (some c (K y)) || some_differ c (K y) (verdicts.at (take i gs) y)

pub record DifferSoFar (old new : ArenaView) (a : ℕ) (fs results : List NodeId) (i f : ℕ) : Type 0 where
  pub adds : AddsAtMost (((old.variables - a) * ((old.variables - a) + 1) + 1) + i * (5 + 3 * (old.variables - a))) old new
  pub held : Holds new f
  pub right : (c : ℕ) (K : Finding) (gs : List Finding) → old.variables ≡ a + c → Splits a c (meet old fs) K → AreSplit old a c results gs → IsTestOf new a c f (differing_so_far c K gs i)

pub differ_none : {a : ℕ} {A B C : ArenaView} {e f : NodeId} (fs results : List NodeId) → AddsAtMost ((A.variables - a) * ((A.variables - a) + 1)) A B → IsSomeOfAll A B a fs e.0 → Makes (2 ^ (B.variables + 1)) B C (opposite (function_of B e.0)) (Ok f) → DifferSoFar A C a fs results 0 f.0
differ_none {a} {A} {B} {C} {e} {f} fs results adds is made = record {
  adds = let n = A.variables - a in adds_in_turn (n * (n + 1)) 1 _ (omega arith) adds (adds_one made);
  held = made.node.held;
  right = λ c K gs v k s y x ys xs. splits_made (adds.keeps.variables ∙ v) made (splits_opposite (function_of B e.0) (is c K v k)) y x ys xs ∙ or_none (not (some c (K y)));
}

pub differ_more : {a i f : ℕ} {A B C : ArenaView} {e : NodeId} (fs results : List NodeId) (d : NodeId) → i < length results → All (λ (g : NodeId). Holds A g.0) fs → All (λ (g : NodeId). Holds A g.0) results → DifferSoFar A B a fs results i f
    → AddsAtMost (5 + 3 * (B.variables - a)) B C → Holds C e.0 → IsOrDiffering B C a fs f (get_or results i d).0 e.0 → DifferSoFar A C a fs results (i + 1) e.0
differ_more {a} {i} {f} {A} {B} {C} {e} fs results d low held_fs held before adds held_e is = record {
  adds = adds_in_turn _ _ _ (let same = before.adds.keeps.variables in let n = A.variables - a in let m : B.variables - a ≡ n = ap (λ (v : ℕ). v - a) same in omega (arith, m)) before.adds adds;
  held = held_e;
  right = λ c K gs v k s.
      let off : Finding = (λ y x. false) in
      let at = split_at A a c results gs i d off low s in
      let keeps = before.adds.keeps in
      let G : Finding = get_or gs i off in
      let later : Splits a c (meet B fs) K = λ y x ys xs. meet_later A B fs (y ++ x) keeps held_fs (sized_in y x v ys xs) ∙ k y x ys xs in
      let T : Test = λ y. some_differ c (K y) (verdicts.at (take i gs) y) in
      let whole : IsTestOf C a c e.0 (λ y. not (some c (K y)) || (T y || differs c (K y) (G y))) = is c K G T (keeps.variables ∙ v) later (splits_later v (held i d low) keeps at.0) (before.right c K gs v k s) in
      λ y x ys xs.
      whole y x ys xs
      ∙ ap (λ (b : Bool). not (some c (K y)) || b) (sym (some_differ-push c (K y) (verdicts.at (take i gs) y) (G y)))
      ∙ ap (λ (l : List Test). not (some c (K y)) || some_differ c (K y) l) (sym (map-append (λ (g : Finding). g y) (take i gs) (G ∷ [])) ∙ ap (λ (l : List Finding). verdicts.at l y) (sym (take_more gs i off at.1)));
}

pub differ_all : {a i f : ℕ} {A B : ArenaView} (fs results : List NodeId) → length results ≤ i → DifferSoFar A B a fs results i f → IsNoneOrDiffering A B a fs results f
differ_all {a} {i} {f} {A} {B} fs results end before c K gs v k s y x ys xs =
    before.right c K gs v k s y x ys xs
    ∙ ap (λ (l : List Finding). not (some c (K y)) || some_differ c (K y) (verdicts.at l y)) (take_all i gs (omega (arith, split_length A a c results gs s)))

pub bad_made : {n a structural : ℕ} {A B C : ArenaView} {odd : NodeId} (fs results : List NodeId) (result : Result NodeId DdError) → Holds A structural → AddsAtMost n A B → IsNoneOrDiffering A B a fs results odd.0
    → Makes (2 ^ (B.variables + 1)) B C (both (function_of B structural) (function_of B odd.0)) result → IfOk result (λ f. IsBadTest A C a structural fs results f.0)
bad_made {n} {a} {structural} {A} {B} {C} {odd} fs results result held adds is last = made_ok result last (λ f made. λ c s K gs all.
    splits_made (adds.keeps.variables ∙ all.variables) made (splits_both (function_of B structural) (function_of B odd.0) (splits_later all.variables held adds.keeps all.structural_is) (is c K gs all.variables all.consistent_is all.results_are)))

pub few_results : (n i r : ℕ) → i ≤ r → (n * (n + 1) + 1) + i * (5 + 3 * n) ≤ ((n * (n + 1) + 1) + r * (5 + 3 * n) + 2) - 1
few_results n i r low = let more : i * (5 + 3 * n) ≤ r * (5 + 3 * n) = mul-le-mul_right (5 + 3 * n) low in omega (arith, more)

pub few_parts : (n i m : ℕ) → i ≤ m → m ≡ n → i * (n + 1) ≤ n * (n + 1)
few_parts n i m low same = mul-le-mul_right (n + 1) (omega arith)
