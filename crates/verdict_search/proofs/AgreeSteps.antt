-- Where the cyclic bits have the values of their functions.
use Rattle.std.proofs.Common.{◌≡◌, ℕ, ◌+◌, ◌*◌, ◌^◌, ◌<◌, ◌≤◌, List, [], ◌∷◌, ◌++◌, Bool, true, false, ◌&&◌, not, if◌then◌else◌, nat_eq, inl, inr, refl, sym, ap, ◌∙◌, subst, arith, length, map, take, set, replicate, get_or, Result, Ok, IfOk}
use Rattle.std.specs.Prelude.{All}
use Rattle.std.proofs.lemmas.Bool.Decides.{nat_tests}
use Rattle.std.proofs.lemmas.Grind.{get_or-set_at}
use Rattle.std.proofs.lemmas.List.{take_more, take_all, map-append, length-map, length-take-le, length-set, length-replicate, get_or-append-add, get_or-replicate, get_or-set_other}
use Rattle.argos_base.specs.SignalSets.{SignalSet, has}
use Rattle.dd_core.specs.declared.nodes.NodeId.{NodeId}
use Rattle.dd_core.specs.declared.errors.DdError.{DdError}
use Rattle.dd_core.specs.Functions.{Function, both, opposite, if_else, variable_value}
use Rattle.dd_core.specs.Arenas.{ArenaView, IsArena, Holds, function_of, Makes, AddsAtMost}
use Rattle.dd_core.proofs.Composing.{Keeps-trans}
use Rattle.eqn_completion.specs.Findings.{Finding}
use Rattle.eqn_dd.specs.Denoting.{Denotes}
use Rattle.eqn_dd.proofs.Denotations.{adds_one, adds_in_turn, adds_nothing, denotes_constant}
use Rattle.eqn_verdict.specs.Diagrams.{Splits, are_same}
use Rattle.verdict_search.specs.declared.parting.Parts.{Parts}
use Rattle.verdict_search.specs.Consistency.{IsConsistency}
use Rattle.verdict_search.specs.Parts.{meet, part_of, is_in, ReadsOnly, AreParts}
use Rattle.verdict_search.specs.Splitting.{AreSplit}
use Rattle.verdict_search.specs.inner.Parting.{AreClosed}
use Rattle.verdict_search.proofs.PartNodes.{start, nat_cases, function_reads, reads_later, meet_later, meet_set, meet_true}
use Rattle.verdict_search.proofs.SplitNodes.{sized_in, splits_later, split_at, split_length, made_ok}

-- f, where it has the value of the variable
abbrev pub agreement : ArenaView → ℕ → ℕ → Function
agreement arena k f x = if has x k then function_of arena f x else not (function_of arena f x)

pub agreement_made : {m n o k f : ℕ} {A B C D : ArenaView} {value opposite_f : NodeId} (result : Result NodeId DdError) → Holds A f → Makes m A B (variable_value k) (Ok value) → Makes n B C (opposite (function_of B f)) (Ok opposite_f)
    → Makes o C D (if_else (function_of C value.0) (function_of C f) (function_of C opposite_f.0)) result → IfOk result (λ g. Denotes D g.0 (agreement A k f))
agreement_made {m} {n} {o} {k} {f} {A} {B} {C} {D} {value} {opposite_f} result held first turned last = made_ok result last (λ g made. record {
  held = made.node.held;
  equal = λ x xs.
      let xs_c : length x ≡ C.variables = xs ∙ made.keeps.variables in
      let xs_b : length x ≡ B.variables = xs_c ∙ turned.keeps.variables in
      let xs_a : length x ≡ A.variables = xs_b ∙ first.keeps.variables in
      let own : function_of B f x ≡ function_of A f x = first.keeps.denotes f held x xs_a in
      made.node.denotes x xs
      ∙ ap (λ (b : Bool). if b then function_of C f x else function_of C opposite_f.0 x) (turned.keeps.denotes value.0 first.node.held x xs_b ∙ first.node.denotes x xs_b)
      ∙ ap (λ (b : Bool). if has x k then b else function_of C opposite_f.0 x) (turned.keeps.denotes f (first.keeps.held f held) x xs_b ∙ own)
      ∙ ap (λ (b : Bool). if has x k then function_of A f x else b) (turned.node.denotes x xs_c ∙ ap not own);
})

are_same-push : (y x : List Bool) (b a : Bool) → length y ≡ length x → are_same (y ++ b ∷ []) (x ++ a ∷ []) ≡ (are_same y x && (if a then b else not b))
are_same-push [] [] b a e = whole (if a then b else not b)
  where
    whole : (t : Bool) → (t && true) ≡ t
    whole true = refl
    whole false = refl
are_same-push [] (d ∷ x) b a e = absurd (omega arith)
are_same-push (h ∷ y) [] b a e = absurd (omega arith)
are_same-push (h ∷ y) (d ∷ x) b a e = ap (λ (t : Bool). (if d then h else not h) && t) (are_same-push y x b a (omega arith)) ∙ moved (if d then h else not h) (are_same y x) (if a then b else not b)
  where
    moved : (p q r : Bool) → (p && (q && r)) ≡ ((p && q) && r)
    moved true q r = refl
    moved false q r = refl

-- the values of functions
abbrev pub own_values : List Finding → SignalSet → SignalSet → List Bool
own_values fs y x = map (λ (g : Finding). g y x) fs

-- ---- parts

same_label : (p : ℕ) → nat_eq p p ≡ true
same_label p = grind (arith, nat_tests)

label_in : (labels : List ℕ) (p j : ℕ) → part_of labels j ≡ p → is_in labels p j ≡ true
label_in labels p j at = ap (λ (k : ℕ). nat_eq k p) at ∙ same_label p

-- a bit's function depends on the bits of its part alone
pub bit_reads : {old : ArenaView} {a : ℕ} (bits : List NodeId) (labels : List ℕ) (i : ℕ) → IsArena old → a + length bits ≡ old.variables → length labels ≡ length bits → AreClosed old.nodes a bits labels → i < length bits
    → ReadsOnly a (length bits) (is_in labels (part_of labels i)) (function_of old (get_or bits i start).0)
bit_reads {old} {a} bits labels i valid v sized closed low =
    function_reads old a (length bits) (is_in labels (part_of labels i)) (get_or bits i start) (sym v) (λ j tests.
    let inside : tests.triple.variable < old.variables = valid.reduced.variable tests.node.0 tests.triple tests.is in
    let at = tests.tested in
    label_in labels (part_of labels i) j (closed i j low (omega arith) tests))

-- so does where the bit has the value of its function
agreement_reads : (A : ArenaView) (a c i f : ℕ) (labels : List ℕ) → i < c → ReadsOnly a c (is_in labels (part_of labels i)) (function_of A f) → ReadsOnly a c (is_in labels (part_of labels i)) (agreement A (a + i) f)
agreement_reads A a c i f labels low reads y x z ys xs zs same =
    let at : has (y ++ x) (a + i) ≡ has (y ++ z) (a + i) =
    ap (λ (n : ℕ). has (y ++ x) (n + i)) (sym ys) ∙ get_or-append-add y x i false ∙ same i (same_label (part_of labels i)) ∙ sym (ap (λ (n : ℕ). has (y ++ z) (n + i)) (sym ys) ∙ get_or-append-add y z i false) in
    ap (λ (b : Bool). if b then function_of A f (y ++ x) else not (function_of A f (y ++ x))) at
    ∙ ap (λ (b : Bool). if has (y ++ z) (a + i) then b else not b) (reads y x z ys xs zs same)

-- the constant true
abbrev pub one : NodeId
one = record { 0 = 1 }

-- the first cyclic bits, as many as i says
pub record AgreeSoFar (old : ArenaView) (a : ℕ) (bits : List NodeId) (labels : List ℕ) (i : ℕ) (new : ArenaView) (parts : List NodeId) : Type 0 where
  pub adds : AddsAtMost (4 * i) old new
  pub sized : length parts ≡ length bits
  pub held : All (λ (f : NodeId). Holds new f.0) parts
  pub apart : (p : ℕ) → p < length parts → ReadsOnly a (length bits) (is_in labels p) (function_of new (get_or parts p start).0)
  pub right : (fs : List Finding) → AreSplit old a (length bits) bits fs → Splits a (length bits) (meet new parts) (λ y x. are_same (own_values (take i fs) y x) (take i x))

pub agree_none : (arena : ArenaView) (a : ℕ) (bits : List NodeId) (labels : List ℕ) → a + length bits ≡ arena.variables → IsArena arena → AgreeSoFar arena a bits labels 0 arena (replicate (length bits) one)
agree_none arena a bits labels v valid = record {
  adds = adds_nothing 0 arena valid;
  sized = length-replicate (length bits) one;
  held = λ k d low. subst (λ (f : NodeId). Holds arena f.0) (sym (at k d low)) constant_is.held;
  apart = λ p low. subst (λ (f : NodeId). ReadsOnly a (length bits) (is_in labels p) (function_of arena f.0)) (sym (at p start low)) (λ y x z ys xs zs same. constant_is.equal (y ++ x) (sized_in y x (sym v) ys xs) ∙ sym (constant_is.equal (y ++ z) (sized_in y z (sym v) ys zs)));
  right = λ fs s y x ys xs. meet_true arena (length bits) (y ++ x) valid;
}
  where
    constant_is : Denotes arena 1 (λ x. true)
    constant_is = denotes_constant arena 1 true valid refl

    at : (k : ℕ) (d : NodeId) → k < length (replicate (length bits) one) → get_or (replicate (length bits) one) k d ≡ one
    at k d low = get_or-replicate (length bits) k one d (omega (arith, length-replicate (length bits) one))

pub agree_more : {old new mid newer : ArenaView} {a i : ℕ} {parts : List NodeId} {same next : NodeId} (bits : List NodeId) (labels : List ℕ) → a + length bits ≡ old.variables → length labels ≡ length bits → AreClosed old.nodes a bits labels → part_of labels i < length bits → i < length bits → All (λ (g : NodeId). Holds old g.0) bits
    → AgreeSoFar old a bits labels i new parts → AddsAtMost 3 new mid → Denotes mid same.0 (agreement new (a + i) (get_or bits i start).0)
    → Makes (2 ^ (mid.variables + 1)) mid newer (both (function_of mid (get_or parts (part_of labels i) start).0) (function_of mid same.0)) (Ok next) → AgreeSoFar old a bits labels (i + 1) newer (set parts (part_of labels i) next)
agree_more {old} {new} {mid} {newer} {a} {i} {parts} {same} {next} bits labels v as_many closed place low held before adds same_is made =
    let p = part_of labels i in
    let c = length bits in
    let inside : p < length parts = omega (arith, before.sized) in
    let later = Keeps-trans new mid newer adds.keeps made.keeps in
    let v_new : new.variables ≡ a + c = before.adds.keeps.variables ∙ sym v in
    let v_mid : mid.variables ≡ a + c = adds.keeps.variables ∙ v_new in
    let K = (get_or parts p start).0 in
    let held_K : Holds new K = before.held p start inside in
    let own_reads : ReadsOnly a c (is_in labels p) (function_of new (get_or bits i start).0) = reads_later (sym v) (held i start low) before.adds.keeps (bit_reads bits labels i before.adds.was v as_many closed low) in
    record {
      adds = adds_in_turn (4 * i + 3) 1 (4 * (i + 1)) (omega arith) (adds_in_turn (4 * i) 3 (4 * i + 3) (omega arith) before.adds adds) (adds_one made);
      sized = length-set parts p next ∙ before.sized;
      held = λ k d less. elim (nat_cases k p) [
        | inl here ↦ subst (λ (f : NodeId). Holds newer f.0) (sym (get_or-set_at parts p k next d here inside)) made.node.held
        | inr other ↦ subst (λ (f : NodeId). Holds newer f.0) (sym (get_or-set_other parts p k next d other)) (later.held (get_or parts k d).0 (before.held k d (omega (arith, length-set parts p next))))
      ];
      apart = λ k less. elim (nat_cases k p) [
        | inl here ↦ subst (λ (f : NodeId). ReadsOnly a c (is_in labels k) (function_of newer f.0)) (sym (get_or-set_at parts p k next start here inside))
            (subst (λ (q : ℕ). ReadsOnly a c (is_in labels q) (function_of newer next.0)) (sym here) (λ y x z ys xs zs agree.
            let at_x = sized_in y x v_mid ys xs in
            let at_z = sized_in y z v_mid ys zs in
            made.node.denotes (y ++ x) (at_x ∙ sym made.keeps.variables)
            ∙ ap (λ (b : Bool). b && function_of mid same.0 (y ++ x)) (reads_later v_new held_K adds.keeps (before.apart p inside) y x z ys xs zs agree)
            ∙ ap (λ (b : Bool). function_of mid K (y ++ z) && b) (same_is.equal (y ++ x) at_x ∙ agreement_reads new a c i (get_or bits i start).0 labels low own_reads y x z ys xs zs agree ∙ sym (same_is.equal (y ++ z) at_z))
            ∙ sym (made.node.denotes (y ++ z) (at_z ∙ sym made.keeps.variables))))
        | inr other ↦ subst (λ (f : NodeId). ReadsOnly a c (is_in labels k) (function_of newer f.0)) (sym (get_or-set_other parts p k next start other))
            (reads_later v_new (before.held k start (omega (arith, length-set parts p next))) later (before.apart k (omega (arith, length-set parts p next))))
      ];
      right = λ fs s.
          let off : Finding = (λ y x. false) in
          let w = split_at old a c bits fs i start off low s in
          let F : Finding = get_or fs i off in
          let own : Splits a c (function_of new (get_or bits i start).0) F = splits_later (sym v) (held i start low) before.adds.keeps w.0 in
          let here : Splits a c (function_of mid same.0) (λ y x. if has x i then F y x else not (F y x)) = λ y x ys xs.
          same_is.equal (y ++ x) (sized_in y x v_mid ys xs)
          ∙ ap (λ (b : Bool). if b then function_of new (get_or bits i start).0 (y ++ x) else not (function_of new (get_or bits i start).0 (y ++ x))) (ap (λ (n : ℕ). has (y ++ x) (n + i)) (sym ys) ∙ get_or-append-add y x i false)
          ∙ ap (λ (b : Bool). if has x i then b else not b) (own y x ys xs) in
          λ y x ys xs.
          let bit : own_values (take (i + 1) fs) y x ≡ own_values (take i fs) y x ++ F y x ∷ [] = ap (λ (l : List Finding). own_values l y x) (take_more fs i off w.1) ∙ map-append (λ (g : Finding). g y x) (take i fs) (F ∷ []) in
          let value : take (i + 1) x ≡ take i x ++ has x i ∷ [] = take_more x i false (omega arith) in
          let sizes : length (own_values (take i fs) y x) ≡ length (take i x) = length-map (take i fs) (λ (g : Finding). g y x) ∙ length-take-le i fs (omega (arith, w.1)) ∙ sym (length-take-le i x (omega arith)) in
          let at_x = sized_in y x v_mid ys xs in
          let at_new = sized_in y x v_new ys xs in
          let joined : function_of newer next.0 (y ++ x) ≡ (function_of newer K (y ++ x) && function_of mid same.0 (y ++ x)) =
          made.node.denotes (y ++ x) (at_x ∙ sym made.keeps.variables) ∙ ap (λ (b : Bool). b && function_of mid same.0 (y ++ x)) (sym (made.keeps.denotes K (adds.keeps.held K held_K) (y ++ x) at_x)) in
          meet_set newer parts p next (function_of mid same.0 (y ++ x)) (y ++ x) inside joined
          ∙ ap (λ (b : Bool). b && function_of mid same.0 (y ++ x)) (meet_later new newer parts (y ++ x) later before.held at_new ∙ before.right fs s y x ys xs)
          ∙ ap (λ (b : Bool). are_same (own_values (take i fs) y x) (take i x) && b) (here y x ys xs)
          ∙ sym (ap (λ (l : List Bool). are_same l (take (i + 1) x)) bit ∙ ap (are_same (own_values (take i fs) y x ++ F y x ∷ [])) value ∙ are_same-push (own_values (take i fs) y x) (take i x) (F y x) (has x i) sizes);
    }

pub agree_all : {old new : ArenaView} {a i : ℕ} {parts : List NodeId} {labels : List ℕ} (bits : List NodeId) → length bits ≤ i → AgreeSoFar old a bits labels i new parts → IsConsistency old new a bits parts
agree_all {old} {new} {a} {i} {parts} {labels} bits end before fs s y x ys xs =
    before.right fs s y x ys xs
    ∙ ap (λ (l : List Finding). are_same (own_values l y x) (take i x)) (take_all i fs (omega (arith, split_length old a (length bits) bits fs s)))
    ∙ ap (are_same (own_values fs y x)) (take_all i x (omega arith))

pub parts_agree : {old new : ArenaView} {a i : ℕ} {parts : Parts} (bits : List NodeId) → a + length bits ≡ old.variables → length parts.labels.items ≡ length bits → All (λ (p : ℕ). p < length bits) parts.labels.items → AgreeSoFar old a bits parts.labels.items i new parts.consistent.items → AreParts new a parts
parts_agree {old} {new} {a} {i} {parts} bits v as_many labelled done = record {
  variables = ap (λ (n : ℕ). a + n) as_many ∙ v ∙ sym done.adds.keeps.variables;
  sized = done.sized ∙ sym as_many;
  labelled = subst (λ (n : ℕ). All (λ (p : ℕ). p < n) parts.labels.items) (sym done.sized) labelled;
  held = done.held;
  apart = λ p low. subst (λ (n : ℕ). ReadsOnly a n (is_in parts.labels.items p) (function_of new (get_or parts.consistent.items p start).0)) (sym as_many) (done.apart p low);
}
