-- Where values differ, place by place.
use Rattle.std.proofs.Common.{◌≡◌, ◌≢◌, ℕ, ◌+◌, ◌-◌, ◌*◌, ◌^◌, ◌<◌, ◌≤◌, List, [], ◌∷◌, Bool, true, false, ◌||◌, not, if◌then◌else◌, nat_eq, length, drop, get_or, Result, Ok, IfOk, refl, sym, ap, ◌∙◌, subst, ◌⊎◌, inl, inr, arith}
use Rattle.std.proofs.lemmas.Bool.Decides.{nat_tests}
use Rattle.std.proofs.lemmas.List.{length-map, drop_more, drop_all, ext_get_or}
use Rattle.std.specs.Prelude.{slice_index_or}
use borrow.Author.Count.{below_more}
use mathlib.Core.Bool.{beq}
use Rattle.argos_base.proofs.Bools.{true_or_false}
use Rattle.argos_base.specs.SignalSets.{SignalSet}
use Rattle.bisim_check.specs.inner.Nodes.{AreHeld, any_differs, IsFirstDifference}
use Rattle.bisim_verdict.specs.EquivTests.{differs}
use Rattle.dd_core.specs.declared.nodes.NodeId.{NodeId}
use Rattle.dd_core.specs.declared.errors.DdError.{DdError}
use Rattle.dd_core.specs.Functions.{either, if_else, opposite}
use Rattle.dd_core.specs.Arenas.{ArenaView, IsArena, Holds, function_of, Makes, AddsAtMost}
use Rattle.eqn_completion.specs.Binary.{number, code_bits}
use Rattle.eqn_completion.proofs.Ordering.{code-number}
use Rattle.eqn_dd.specs.Denoting.{Denotes, values_at}
use Rattle.eqn_dd.proofs.Denotations.{adds_nothing, adds_in_turn, adds_one, denotes_equal, denotes_constant, made_equal, value-at_place}

-- ---- sets of values

one_itself : (b : Bool) → differs b b ≡ false
one_itself true = refl
one_itself false = refl

pub differs-itself : (o : SignalSet) → any_differs o o ≡ false
differs-itself [] = refl
differs-itself (a ∷ o) = ap (λ (t : Bool). t || any_differs o o) (one_itself a) ∙ differs-itself o

differs_not : (a b : Bool) → differs a b ≡ false → a ≡ b
differs_not true true h = refl
differs_not true false h = cc
differs_not false true h = cc
differs_not false false h = refl

or_first : (a b : Bool) → (a || b) ≡ false → a ≡ false
or_first true b h = cc
or_first false b h = refl

or_second : (a b : Bool) → (a || b) ≡ false → b ≡ false
or_second true b h = cc
or_second false b h = h

pub same_where_none : (o p : SignalSet) → length o ≡ length p → any_differs o p ≡ false → o ≡ p
same_where_none [] [] sized h = refl
same_where_none [] (b ∷ p) sized h = absurd (omega arith)
same_where_none (a ∷ o) [] sized h = absurd (omega arith)
same_where_none (a ∷ o) (b ∷ p) sized h =
    ap (λ (c : Bool). c ∷ o) (differs_not a b (or_first (differs a b) (any_differs o p) h))
    ∙ ap (λ (l : SignalSet). b ∷ l) (same_where_none o p (omega arith) (or_second (differs a b) (any_differs o p) h))

-- the numbers of as many digits are the same where no digit differs
pub same_number : (v w : List Bool) → length v ≡ length w → nat_eq (number v) (number w) ≡ not (any_differs v w)
same_number v w sized = by_test (true_or_false (any_differs v w)) (true_or_false (nat_eq (number v) (number w)))
  where
    itself : (n : ℕ) → nat_eq n n ≡ true
    itself n = grind (arith, nat_tests)

    equal : (m n : ℕ) → nat_eq m n ≡ true → m ≡ n
    equal m n h = grind (arith, nat_tests)

    by_test : (any_differs v w ≡ true) ⊎ (any_differs v w ≡ false) → (nat_eq (number v) (number w) ≡ true) ⊎ (nat_eq (number v) (number w) ≡ false)
        → nat_eq (number v) (number w) ≡ not (any_differs v w)
    by_test (inr none) either_way = let same : v ≡ w = same_where_none v w sized none in ap (λ (l : List Bool). nat_eq (number l) (number w)) same ∙ itself (number w) ∙ sym (ap not none)
    by_test (inl some) (inr other) = other ∙ sym (ap not some)
    by_test (inl some) (inl as_numbers) =
        let numbers : number v ≡ number w = equal (number v) (number w) as_numbers in
        let same : v ≡ w = sym (code-number v) ∙ ap (λ (n : ℕ). code_bits n (number v)) sized ∙ ap (code_bits (length w)) numbers ∙ code-number w in
        let none : any_differs v w ≡ false = ap (λ (l : List Bool). any_differs l w) same ∙ differs-itself w in
        cc (some, none)

-- one place more
differs-drop : (o p : SignalSet) (left after : ℕ) → after ≡ left + 1 → left < length o → length o ≡ length p
    → any_differs (drop left o) (drop left p) ≡ (differs (get_or o left false) (get_or p left false) || any_differs (drop after o) (drop after p))
differs-drop o p left after next below sized =
    ap (λ (l : SignalSet). any_differs l (drop left p)) (drop_more o left false below)
    ∙ ap (λ (l : SignalSet). any_differs (get_or o left false ∷ drop (left + 1) o) l) (drop_more p left false (omega arith))
    ∙ ap (λ (k : ℕ). differs (get_or o left false) (get_or p left false) || any_differs (drop k o) (drop k p)) (sym next)

pub none_where_same : (o p : SignalSet) → length o ≡ length p → ((k : ℕ) → k < length o → slice_index_or o k false ≡ slice_index_or p k false) → any_differs o p ≡ false
none_where_same o p sized same = let e : o ≡ p = ext_get_or false o p sized same in ap (λ (l : SignalSet). any_differs l p) e ∙ differs-itself p

-- ---- one place

-- exactly one of two nodes
pub alone_made : {m n : ℕ} {a b c : ArenaView} {other : NodeId} {result : Result NodeId DdError} (f g : ℕ) → Holds a f → Holds a g
    → Makes m a b (opposite (function_of a g)) (Ok other)
    → Makes n b c (if_else (function_of b f) (function_of b other.0) (function_of b g)) result
    → IfOk result (λ h. Denotes c h.0 (λ x. differs (function_of a f x) (function_of a g x)))
alone_made {m} {n} {a} {b} {c} {other} {result} f g held_f held_g first second = made_equal second (λ x sized.
    let sized_a : length x ≡ a.variables = sized ∙ first.keeps.variables in
    ap (λ (t : Bool). if t then function_of b other.0 x else function_of b g x) (first.keeps.denotes f held_f x sized_a)
    ∙ ap (λ (t : Bool). if function_of a f x then t else function_of b g x) (first.node.denotes x sized)
    ∙ ap (λ (t : Bool). if function_of a f x then not (function_of a g x) else t) (first.keeps.denotes g held_g x sized_a)
    ∙ chosen (function_of a f x) (function_of a g x))
  where
    chosen : (s t : Bool) → (if s then not t else t) ≡ differs s t
    chosen true t = refl
    chosen false t = refl

-- ---- the loop over places, from the last one on

pub record DifferSoFar (a : ArenaView) (fs gs : List NodeId) (left : ℕ) (b : ArenaView) (f : ℕ) : Type 0 where
  pub bound : left ≤ length fs
  pub adds : AddsAtMost (3 * (length fs - left)) a b
  pub denotes : Denotes b f (λ x. any_differs (drop left (values_at a fs x)) (drop left (values_at a gs x)))

pub length-values : (arena : ArenaView) (nodes : List NodeId) (x : List Bool) → length (values_at arena nodes x) ≡ length nodes
length-values arena nodes x = length-map nodes (λ (f : NodeId). function_of arena f.0 x)

pub differ_none : (a : ArenaView) (fs gs : List NodeId) (left : ℕ) → left ≡ length fs → IsArena a → DifferSoFar a fs gs left a 0
differ_none a fs gs left all valid = record {
  bound = omega arith;
  adds = adds_nothing (3 * (length fs - left)) a valid;
  denotes = denotes_equal (λ x sized. sym (ap (λ (l : SignalSet). any_differs l (drop left (values_at a gs x))) (drop_all left (values_at a fs x) (omega (arith, length-values a fs x))))) (denotes_constant a 0 false valid refl);
}

pub differ_more : {a b c e : ArenaView} {fs gs : List NodeId} {left after old : ℕ} {one next : NodeId} (d : NodeId) → after ≡ left + 1 → length fs ≡ length gs
    → AreHeld a fs → AreHeld a gs → DifferSoFar a fs gs after b old
    → AddsAtMost 2 b c → Denotes c one.0 (λ x. differs (function_of b (get_or fs left d).0 x) (function_of b (get_or gs left d).0 x))
    → Makes (2 ^ (c.variables + 1)) c e (either (function_of c one.0) (function_of c old)) (Ok next) → DifferSoFar a fs gs left e next.0
differ_more {a} {b} {c} {e} {fs} {gs} {left} {after} {old} {one} {next} d following same held_f held_g before adds one_is made = record {
  bound = omega (arith, before.bound);
  adds = adds_in_turn (3 * (length fs - after) + 2) 1 (3 * (length fs - left)) (omega (arith, before.bound)) (adds_in_turn (3 * (length fs - after)) 2 (3 * (length fs - after) + 2) (omega arith) before.adds adds) (adds_one made);
  denotes = record { held = made.node.held; equal = λ x long. made.node.denotes x long ∙ values x (long ∙ made.keeps.variables) };
}
  where
    below : left < length fs
    below = omega (arith, before.bound)

    values : (x : List Bool) → length x ≡ c.variables
        → either (function_of c one.0) (function_of c old) x ≡ any_differs (drop left (values_at a fs x)) (drop left (values_at a gs x))
    values x long_c =
        let long_b : length x ≡ b.variables = long_c ∙ adds.keeps.variables in
        let long_a : length x ≡ a.variables = long_b ∙ before.adds.keeps.variables in
        let o = values_at a fs x in
        let p = values_at a gs x in
        let f = (get_or fs left d).0 in
        let g = (get_or gs left d).0 in
        let left_is : function_of b f x ≡ get_or o left false = before.adds.keeps.denotes f (held_f left d below) x long_a ∙ sym (value-at_place a fs x left d below) in
        let right_is : function_of b g x ≡ get_or p left false = before.adds.keeps.denotes g (held_g left d (omega (arith, before.bound, same))) x long_a ∙ sym (value-at_place a gs x left d (omega (arith, before.bound, same))) in
        let old_is : function_of c old x ≡ any_differs (drop after o) (drop after p) = adds.keeps.denotes old before.denotes.held x long_b ∙ before.denotes.equal x long_b in
        ap (λ (t : Bool). t || function_of c old x) (one_is.equal x long_c)
        ∙ ap (λ (t : Bool). differs t (function_of b g x) || function_of c old x) left_is
        ∙ ap (λ (t : Bool). differs (get_or o left false) t || function_of c old x) right_is
        ∙ ap (λ (t : Bool). differs (get_or o left false) (get_or p left false) || t) old_is
        ∙ sym (differs-drop o p left after following (omega (arith, before.bound, length-values a fs x)) (omega (arith, same, length-values a fs x, length-values a gs x)))

pub differ_all : {a b : ArenaView} {fs gs : List NodeId} {left f : ℕ} → left ≡ 0 → DifferSoFar a fs gs left b f
    → Denotes b f (λ x. any_differs (values_at a fs x) (values_at a gs x))
differ_all {a} {b} {fs} {gs} {left} {f} none before =
    subst (λ (k : ℕ). Denotes b f (λ x. any_differs (drop k (values_at a fs x)) (drop k (values_at a gs x)))) none before.denotes

-- ---- the first place where two lists of nodes have different values

equal_where : (s t : Bool) → not (beq s t) ≡ false → s ≡ t
equal_where true true h = refl
equal_where true false h = cc
equal_where false true h = cc
equal_where false false h = refl

unequal_where : (s t : Bool) → not (beq s t) ≡ true → s ≢ t
unequal_where true true h e = cc
unequal_where true false h e = cc
unequal_where false true h e = cc
unequal_where false false h e = cc

module _ (a : ArenaView) (fs gs : List NodeId) (x : List Bool) (place : ℕ) (d : NodeId) (same : length fs ≡ length gs) (below : place < length fs)
    (s t : Bool) (s_is : s ≡ function_of a (get_or fs place d).0 x) (t_is : t ≡ function_of a (get_or gs place d).0 x)
    (before : (k : ℕ) → k < place → slice_index_or (values_at a fs x) k false ≡ slice_index_or (values_at a gs x) k false) where
  left_there : slice_index_or (values_at a fs x) place false ≡ s
  left_there = value-at_place a fs x place d below ∙ sym s_is

  right_there : slice_index_or (values_at a gs x) place false ≡ t
  right_there = value-at_place a gs x place d (omega (arith, same)) ∙ sym t_is

  pub same_more : not (beq s t) ≡ false → (k : ℕ) → k < place + 1 → slice_index_or (values_at a fs x) k false ≡ slice_index_or (values_at a gs x) k false
  same_more h = below_more (λ (k : ℕ). slice_index_or (values_at a fs x) k false ≡ slice_index_or (values_at a gs x) k false) place before (left_there ∙ equal_where s t h ∙ sym right_there)

  pub first_found : not (beq s t) ≡ true → IsFirstDifference (values_at a fs x) (values_at a gs x) place
  first_found h = record { below = omega (arith, length-values a fs x); here = λ e. unequal_where s t h (sym left_there ∙ e ∙ right_there); first = before }

pub same_all : (a : ArenaView) (fs gs : List NodeId) (x : List Bool) (place : ℕ) → length fs ≡ length gs → length fs ≤ place
    → ((k : ℕ) → k < place → slice_index_or (values_at a fs x) k false ≡ slice_index_or (values_at a gs x) k false)
    → any_differs (values_at a fs x) (values_at a gs x) ≡ false
same_all a fs gs x place same all before =
    none_where_same (values_at a fs x) (values_at a gs x) (length-values a fs x ∙ same ∙ sym (length-values a gs x))
    (λ k below. before k (omega (arith, length-values a fs x)))
