-- The least answers, one after the other, and what is left without them.
use Rattle.std.proofs.Common.{◌≡◌, ◌≢◌, ◌↔◌, ℕ, zero, suc, ◌+◌, ◌*◌, ◌<◌, ◌≤◌, List, [], ◌∷◌, ◌++◌, Bool, true, false, ◌&&◌, not, if◌then◌else◌, refl, sym, ap, ◌∙◌, inl, inr, arith, length, take, drop, get_or, append_assoc, length-append, Result, Ok, IfOk}
use Rattle.std.proofs.lemmas.List.{append-nil, drop_more, take_more, take_all, map-append, length-map, length-take-le}
use Rattle.argos_base.specs.SignalSets.{SignalSet}
use Rattle.argos_base.proofs.Bools.{true_or_false}
use Rattle.dd_core.specs.declared.nodes.NodeId.{NodeId}
use Rattle.dd_core.specs.declared.errors.DdError.{DdError}
use Rattle.dd_core.specs.Functions.{AreEqual, both, opposite, constant}
use Rattle.dd_core.specs.Arenas.{ArenaView, IsArena, Holds, function_of, Keeps, Makes, AddsAtMost}
use Rattle.dd_core.proofs.Composing.{Keeps-trans}
use Rattle.dd_core.proofs.Making.{function_of-false}
use Rattle.dd_core.proofs.Walks.{held_constant}
use Rattle.eqn_completion.specs.Findings.{Finding}
use Rattle.eqn_dd.specs.Denoting.{Denotes}
use Rattle.eqn_dd.proofs.Denotations.{adds_in_turn, adds_nothing, denotes_made}
use Rattle.eqn_verdict.specs.Diagrams.{Splits, are_same, pinned_at}
use Rattle.eqn_verdict.specs.Searching.{Test, some, with, without, least_answers, has_answers}
use Rattle.eqn_verdict.specs.Verdicts.{at}
use Rattle.eqn_verdict.proofs.Finding.{same-tells}
use Rattle.eqn_verdict.proofs.Steps.{pinned_is_false}
use Rattle.verdict_search.specs.Splitting.{AreSplit}
use Rattle.verdict_search.specs.inner.Taking.{IsTaken, IsPinned, AreLeast, IsWith, IsWithout, with_answers}
use Rattle.verdict_search.proofs.SplitNodes.{sized_in, splits_later, split_at, split_length, splits_made, splits_both, splits_opposite, made_ok}

-- ---- one step

module _ {a b c : ArenaView} {m k q g : ℕ} {n r : NodeId} (held_q : Holds a q) (held_g : Holds a g) (first : Makes m a b (opposite (function_of a g)) (Ok n)) (second : Makes k b c (both (function_of b q) (function_of b n.0)) (Ok r)) where
  pub keeps : Keeps a c
  keeps = Keeps-trans a b c first.keeps second.keeps

  -- what the second node denotes
  pub means : (x : List Bool) → length x ≡ a.variables → function_of c r.0 x ≡ both (function_of a q) (opposite (function_of a g)) x
  means x xs =
      let xs_b = xs ∙ sym first.keeps.variables in
      second.node.denotes x (xs ∙ sym keeps.variables)
      ∙ ap (λ t. t && function_of b n.0 x) (first.keeps.denotes q held_q x xs)
      ∙ ap (λ t. function_of a q x && t) (first.node.denotes x xs_b)

  pub taken_false : r.0 ≢ 0 → IsTaken a c q g false r.0
  taken_false some = record {
    held = second.node.held;
    is = means;
    least = (λ e none. some (sym (second.node.only 0 (held_constant c.nodes 0 (omega arith)) (λ x xs. function_of-false c x second.arena ∙ sym (none x (xs ∙ keeps.variables)) ∙ sym (means x (xs ∙ keeps.variables)) ∙ second.node.denotes x xs))), λ h. refl);
  }

  pub taken_true : r.0 ≡ 0 → IsTaken a c q g true q
  taken_true none = record {
    held = keeps.held q held_q;
    is = λ x xs. keeps.denotes q held_q x xs ∙ whole (function_of a q x) (function_of a g x) (zero_is x xs);
    least = (λ e. cc, λ h. absurd (h zero_is));
  }
    where
      zero_is : AreEqual a.variables (both (function_of a q) (opposite (function_of a g))) (constant false)
      zero_is x xs = sym (means x xs) ∙ ap (λ (f : ℕ). function_of c f x) none ∙ function_of-false c x second.arena

      whole : (s t : Bool) → (s && not t) ≡ false → s ≡ (s && t)
      whole true true e = refl
      whole true false e = cc
      whole false t e = refl

-- ---- pinned functions

-- one step at a point
module _ (old : ArenaView) (a c : ℕ) (z : SignalSet) (K : Test) (g : Finding) (q n : ℕ) (v : old.variables ≡ a + c) (zs : length z ≡ a) (p : IsPinned old a c z K q) (s : Splits a c (function_of old n) g) where
  move : (y x : SignalSet) (b : Bool → Bool) → ((are_same y z && K x) && b (g y x)) ≡ (are_same y z && (K x && b (g z x)))
  move y x b = elim (true_or_false (are_same y z)) [
    | inl t ↦ rw t (ap (λ (w : SignalSet). K x && b (g w x)) (same-tells y z t))
    | inr f ↦ rw f refl
  ]

  pub pinned-without : Splits a c (both (function_of old q) (opposite (function_of old n))) (pinned_at z (λ y. without K (g z)))
  pinned-without y x ys xs = ap (λ (t : Bool). t && not (function_of old n (y ++ x))) (p y x ys xs) ∙ ap (λ (t : Bool). (are_same y z && K x) && not t) (s y x ys xs) ∙ move y x not

  pub pinned-with : Splits a c (both (function_of old q) (function_of old n)) (pinned_at z (λ y. with K (g z)))
  pinned-with y x ys xs = ap (λ (t : Bool). t && function_of old n (y ++ x)) (p y x ys xs) ∙ ap (λ (t : Bool). (are_same y z && K x) && t) (s y x ys xs) ∙ move y x (λ t. t)

  zero-is : (AreEqual old.variables (both (function_of old q) (opposite (function_of old n))) (constant false)) ↔ (some c (without K (g z)) ≡ false)
  zero-is =
      let r = pinned_is_false a c (both (function_of old q) (opposite (function_of old n))) (λ y. without K (g z)) z zs pinned-without in
      (λ e. r.0 (λ x xs. e x (xs ∙ sym v)), λ e x xs. r.1 e x (xs ∙ v))

  -- what one step leaves
  pub one_step : (new : ArenaView) (answer : Bool) (rest : ℕ) (gs : List Finding) → IsTaken old new q n answer rest → (t : Test) × (IsPinned new a c z t rest × (least_answers c K (g z ∷ at gs z) ≡ answer ∷ least_answers c t (at gs z)))
  one_step new true rest gs h =
      let none : some c (without K (g z)) ≡ false = of_value (some c (without K (g z))) refl in
      (with K (g z), ((λ y x ys xs. h.is (y ++ x) (sized_in y x v ys xs) ∙ pinned-with y x ys xs), rw none refl))
    where
      of_value : (b : Bool) → some c (without K (g z)) ≡ b → some c (without K (g z)) ≡ false
      of_value false e = e
      of_value true e = absurd (let f : true ≡ false = h.least.1 (λ zero. let w = zero-is.0 zero in let u : true ≡ false = sym e ∙ w in absurd (two u)) in two f)
        where
          two : true ≡ false → ⊥
          two e = cc
  one_step new false rest gs h =
      let some_is : some c (without K (g z)) ≡ true = of_value (some c (without K (g z))) refl in
      (without K (g z), ((λ y x ys xs. h.is (y ++ x) (sized_in y x v ys xs) ∙ pinned-without y x ys xs), rw some_is refl))
    where
      of_value : (b : Bool) → some c (without K (g z)) ≡ b → some c (without K (g z)) ≡ true
      of_value true e = e
      of_value false e = absurd (h.least.0 refl (zero-is.1 e))

-- ---- all steps

-- what is left to be done
pub record HasLeft (new : ArenaView) (a c : ℕ) (z : SignalSet) (K : Test) (gs : List Finding) (i rest : ℕ) (answers : List Bool) : Type 0 where
  pub test : Test
  pub pinned_is : IsPinned new a c z test rest
  pub goes_on : least_answers c K (at gs z) ≡ answers ++ least_answers c test (at (drop i gs) z)

-- after i functions the answers are those to them, and the rest is where the functions have these answers
pub record LeastSoFar (old new : ArenaView) (start : ℕ) (results : List NodeId) (i rest : ℕ) (answers : List Bool) : Type 0 where
  pub adds : AddsAtMost (2 * i) old new
  pub held : Holds new rest
  pub sized : length answers ≡ i
  pub right : (a c : ℕ) (z : SignalSet) (K : Test) (gs : List Finding) → old.variables ≡ a + c → length z ≡ a → IsPinned old a c z K start → AreSplit old a c results gs → HasLeft new a c z K gs i rest answers

pub none_yet : (arena : ArenaView) (start : ℕ) (results : List NodeId) → IsArena arena → Holds arena start → LeastSoFar arena arena start results 0 start []
none_yet arena start results valid held = record { adds = adds_nothing 0 arena valid; held = held; sized = refl; right = λ a c z K gs v zs p s. record { test = K; pinned_is = p; goes_on = refl } }

pub one_more : (old new newer : ArenaView) (start : ℕ) (results : List NodeId) (i rest left : ℕ) (answers : List Bool) (answer : Bool) (d : NodeId) → i < length results → Holds old (get_or results i d).0 → LeastSoFar old new start results i rest answers → AddsAtMost 2 new newer → IsTaken new newer rest (get_or results i d).0 answer left
    → LeastSoFar old newer start results (i + 1) left (answers ++ answer ∷ [])
one_more old new newer start results i rest left answers answer d low held h kept taken = record {
  adds = adds_in_turn (2 * i) 2 (2 * (i + 1)) (omega arith) h.adds kept;
  held = taken.held;
  sized = omega (arith, length-append answers (answer ∷ []), h.sized);
  right = λ a c z K gs v zs p s.
      let before = h.right a c z K gs v zs p s in
      let e : Finding = (λ y x. false) in
      let w = split_at old a c results gs i d e low s in
      let g : Finding = get_or gs i e in
      let here : Splits a c (function_of new (get_or results i d).0) g = splits_later v held h.adds.keeps w.0 in
      let step = one_step new a c z before.test g rest (get_or results i d).0 (h.adds.keeps.variables ∙ v) zs before.pinned_is here newer answer left (drop (i + 1) gs) taken in
      record {
        test = step.0;
        pinned_is = step.1.0;
        goes_on = before.goes_on ∙ ap (λ (l : List Finding). answers ++ least_answers c before.test (at l z)) (drop_more gs i e w.1) ∙ ap (λ (l : List Bool). answers ++ l) step.1.1 ∙ sym (append_assoc answers (answer ∷ []) (least_answers c step.0 (at (drop (i + 1) gs) z)));
      };
}

dropped : (gs : List Finding) (i : ℕ) → length gs ≤ i → drop i gs ≡ []
dropped [] zero h = refl
dropped [] (suc i) h = refl
dropped (g ∷ gs) zero h = absurd (omega arith)
dropped (g ∷ gs) (suc i) h = dropped gs i (omega arith)

pub all_taken : (old new : ArenaView) (start : ℕ) (results : List NodeId) (i rest : ℕ) (answers : List Bool) → length results ≤ i → LeastSoFar old new start results i rest answers → AreLeast old start results answers
all_taken old new start results i rest answers end h a c z K gs v zs p s =
    let last = h.right a c z K gs v zs p s in
    sym (last.goes_on ∙ ap (λ (l : List Finding). answers ++ least_answers c last.test (at l z)) (dropped gs i (omega (arith, split_length old a c results gs s))) ∙ append-nil answers)

-- ---- with answers, and without them

pub denotes_with : {m q g : ℕ} {A B : ArenaView} (answer : Bool) (result : Result NodeId DdError) → answer ≡ true → Makes m A B (both (function_of A q) (function_of A g)) result
    → IfOk result (λ f. Denotes B f.0 (both (function_of A q) (if answer then function_of A g else opposite (function_of A g))))
denotes_with answer result is made = rw is (denotes_made made)

pub denotes_without : {m k q g : ℕ} {A B C : ArenaView} {n : NodeId} (answer : Bool) (result : Result NodeId DdError) → answer ≡ false → Holds A q → Holds A g → Makes m A B (opposite (function_of A g)) (Ok n) → Makes k B C (both (function_of B q) (function_of B n.0)) result
    → IfOk result (λ f. Denotes C f.0 (both (function_of A q) (if answer then function_of A g else opposite (function_of A g))))
denotes_without answer result is held_q held_g first second = rw is (made_ok result second (λ f made. record { held = made.node.held; equal = λ x xs. means held_q held_g first made x (xs ∙ (keeps held_q held_g first made).variables) }))

has_answers-push : (gs : List Test) (bits : List Bool) (g : Test) (b : Bool) (x : SignalSet) → length bits ≡ length gs → has_answers (gs ++ g ∷ []) (bits ++ b ∷ []) x ≡ (has_answers gs bits x && (if b then g x else not (g x)))
has_answers-push [] [] g b x e = whole (if b then g x else not (g x))
  where
    whole : (t : Bool) → (t && true) ≡ t
    whole true = refl
    whole false = refl
has_answers-push [] (d ∷ bits) g b x e = absurd (omega arith)
has_answers-push (h ∷ gs) [] g b x e = absurd (omega arith)
has_answers-push (h ∷ gs) (d ∷ bits) g b x e =
    ap (λ (t : Bool). (if d then h x else not (h x)) && t) (has_answers-push gs bits g b x (omega arith))
    ∙ moved (if d then h x else not (h x)) (has_answers gs bits x) (if b then g x else not (g x))
  where
    moved : (p q r : Bool) → (p && (q && r)) ≡ ((p && q) && r)
    moved true q r = refl
    moved false q r = refl

-- the first answers, as many as i says
pub record WithSoFar (old new : ArenaView) (start : ℕ) (results : List NodeId) (answers : List Bool) (i met : ℕ) : Type 0 where
  pub adds : AddsAtMost (2 * i) old new
  pub held : Holds new met
  pub right : (a c : ℕ) (z : SignalSet) (K : Test) (gs : List Finding) → old.variables ≡ a + c → length z ≡ a → IsPinned old a c z K start → AreSplit old a c results gs → IsPinned new a c z (with_answers K (at (take i gs) z) (take i answers)) met

and_true : (b : Bool) → b ≡ (b && true)
and_true true = refl
and_true false = refl

pub with_none : (arena : ArenaView) (start : ℕ) (results : List NodeId) (answers : List Bool) → IsArena arena → Holds arena start → WithSoFar arena arena start results answers 0 start
with_none arena start results answers valid held = record {
  adds = adds_nothing 0 arena valid;
  held = held;
  right = λ a c z K gs v zs p s y x ys xs. p y x ys xs ∙ ap (λ (b : Bool). are_same y z && b) (and_true (K x));
}

pub with_more : {old new newer : ArenaView} {start i met next : ℕ} {answer : Bool} (results : List NodeId) (answers : List Bool) (d : NodeId) → i < length results → length answers ≡ length results → answer ≡ get_or answers i false → Holds old (get_or results i d).0 → WithSoFar old new start results answers i met → AddsAtMost 2 new newer
    → Denotes newer next (both (function_of new met) (if answer then function_of new (get_or results i d).0 else opposite (function_of new (get_or results i d).0))) → WithSoFar old newer start results answers (i + 1) next
with_more {old} {new} {newer} {start} {i} {met} {next} {answer} results answers d low sized answer_is held before adds is = record {
  adds = adds_in_turn (2 * i) 2 (2 * (i + 1)) (omega arith) before.adds adds;
  held = is.held;
  right = λ a c z K gs v zs p s.
      let off : Finding = (λ y x. false) in
      let w = split_at old a c results gs i d off low s in
      let G : Finding = get_or gs i off in
      let T : Test = with_answers K (at (take i gs) z) (take i answers) in
      let v_new = before.adds.keeps.variables ∙ v in
      let here : Splits a c (function_of new (get_or results i d).0) G = splits_later v held before.adds.keeps w.0 in
      let was : IsPinned new a c z T met = before.right a c z K gs v zs p s in
      let bits : take (i + 1) answers ≡ take i answers ++ answer ∷ [] = take_more answers i false (omega (arith, sized)) ∙ ap (λ (b : Bool). take i answers ++ b ∷ []) (sym answer_is) in
      let tests : at (take (i + 1) gs) z ≡ at (take i gs) z ++ G z ∷ [] = ap (λ (l : List Finding). at l z) (take_more gs i off w.1) ∙ map-append (λ (g : Finding). g z) (take i gs) (G ∷ []) in
      let lengths : length (take i answers) ≡ length (at (take i gs) z) = length-take-le i answers (omega (arith, sized)) ∙ sym (length-map (take i gs) (λ (g : Finding). g z) ∙ length-take-le i gs (omega (arith, w.1))) in
      λ y x ys xs.
      is.equal (y ++ x) (sized_in y x (adds.keeps.variables ∙ v_new) ys xs)
      ∙ one answer (new) a c z T G v_new zs was here y x ys xs
      ∙ ap (λ (b : Bool). are_same y z && b) (
      assoc (K x) (has_answers (at (take i gs) z) (take i answers) x) (if answer then G z x else not (G z x))
      ∙ ap (λ (b : Bool). K x && b) (sym (ap (λ (l : List Test). has_answers l (take (i + 1) answers) x) tests ∙ ap (λ (l : List Bool). has_answers (at (take i gs) z ++ G z ∷ []) l x) bits ∙ has_answers-push (at (take i gs) z) (take i answers) (G z) answer x lengths)));
}
  where
    assoc : (p q r : Bool) → ((p && q) && r) ≡ (p && (q && r))
    assoc true q r = refl
    assoc false q r = refl

    one : (b : Bool) (A : ArenaView) (a c : ℕ) (z : SignalSet) (T : Test) (G : Finding) → A.variables ≡ a + c → length z ≡ a → IsPinned A a c z T met → Splits a c (function_of A (get_or results i d).0) G → (y x : SignalSet) → length y ≡ a → length x ≡ c
        → both (function_of A met) (if b then function_of A (get_or results i d).0 else opposite (function_of A (get_or results i d).0)) (y ++ x) ≡ (are_same y z && (T x && (if b then G z x else not (G z x))))
    one true A a c z T G v zs p s y x ys xs = pinned-with A a c z T G met (get_or results i d).0 v zs p s y x ys xs
    one false A a c z T G v zs p s y x ys xs = pinned-without A a c z T G met (get_or results i d).0 v zs p s y x ys xs

pub with_all : {old new : ArenaView} {start i met : ℕ} (results : List NodeId) (answers : List Bool) → length results ≤ i → length answers ≡ length results → WithSoFar old new start results answers i met → IsWith old new start results answers met
with_all {old} {new} {start} {i} {met} results answers end sized before a c z K gs v zs p s y x ys xs =
    before.right a c z K gs v zs p s y x ys xs
    ∙ ap (λ (l : List Finding). are_same y z && with_answers K (at l z) (take i answers) x) (take_all i gs (omega (arith, split_length old a c results gs s)))
    ∙ ap (λ (l : List Bool). are_same y z && with_answers K (at gs z) l x) (take_all i answers (omega (arith, sized)))

pub without_made : {n m k q : ℕ} {A B C D : ArenaView} {taken others : NodeId} (results : List NodeId) (answers : List Bool) (result : Result NodeId DdError) → Holds A q → AddsAtMost n A B → IsWith A B q results answers taken.0 → Makes m B C (opposite (function_of B taken.0)) (Ok others)
    → Makes k C D (both (function_of C q) (function_of C others.0)) result → IfOk result (λ f. IsWithout A D q results answers f.0)
without_made {n} {m} {k} {q} {A} {B} {C} {D} {taken} {others} results answers result held adds is turned last = made_ok result last (λ f made. λ a c z K gs v zs p s.
    let v_b = adds.keeps.variables ∙ v in
    let here = splits_later v held (Keeps-trans A B C adds.keeps turned.keeps) p in
    let off = splits_made v_b turned (splits_opposite (function_of B taken.0) (is a c z K gs v zs p s)) in
    λ y x ys xs. splits_made (turned.keeps.variables ∙ v_b) made (splits_both (function_of C q) (function_of C others.0) here off) y x ys xs ∙ left (are_same y z) (K x) (has_answers (at gs z) answers x))
  where
    left : (p q r : Bool) → ((p && q) && not (p && (q && r))) ≡ (p && (q && not r))
    left true true r = refl
    left true false r = refl
    left false q r = refl
