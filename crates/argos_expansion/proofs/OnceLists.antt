-- Signals, each once.
use Rattle.std.proofs.Common.{◌≡◌, ℕ, ◌+◌, ◌<◌, ◌≤◌, List, [], ◌∷◌, ◌++◌, Bool, true, false, ◌||◌, cond, eqb, length, get_or, drop, refl, sym, ap, subst, ◌∙◌, append_assoc, arith}
use Rattle.std.specs.List.{list_any}
use Rattle.std.proofs.lemmas.Bool.Decides.{nat_tests}
use Rattle.std.proofs.lemmas.Grind.{common_steps}
use Rattle.std.proofs.lemmas.List.{at_drop_more, at_drop_all, append-nil, map_push}
use Rattle.std.proofs.lemmas.List.Folds.{list_any-append}
use Rattle.indexmap.specs.IndexSet.{insert_key}
use Rattle.argos_base.specs.declared.signals.SigId.{SigId}
use Rattle.argos_core.specs.Views.{numbers}
use Rattle.argos_expansion.specs.Expansion.{once, once_after}

-- what has been seen counts only by what it holds
pub once_after-same : (a b : List ℕ) (ns : List ℕ) → ((k : ℕ) → list_any (eqb k) a ≡ list_any (eqb k) b) → once_after a ns ≡ once_after b ns
once_after-same a b [] h = refl
once_after-same a b (n ∷ ns) h =
    ap (λ t. cond t (once_after a ns) (n ∷ once_after (n ∷ a) ns)) (h n)
    ∙ ap (λ xs. cond (list_any (eqb n) b) xs (n ∷ once_after (n ∷ a) ns)) (once_after-same a b ns h)
    ∙ ap (λ xs. cond (list_any (eqb n) b) (once_after b ns) (n ∷ xs)) (once_after-same (n ∷ a) (n ∷ b) ns (λ k. ap (λ t. eqb k n || t) (h k)))

or_false_comm : (a b : Bool) → (a || b) ≡ (b || (a || false))
or_false_comm true true = refl
or_false_comm true false = refl
or_false_comm false true = refl
or_false_comm false false = refl

pub pushed : (done : List ℕ) (n k : ℕ) → list_any (eqb k) (n ∷ done) ≡ list_any (eqb k) (done ++ n ∷ [])
pushed done n k = or_false_comm (eqb k n) (list_any (eqb k) done) ∙ sym (list_any-append (eqb k) done (n ∷ []))

-- one more mark
same_number : (a b : ℕ) → eqb a b ≡ true → a ≡ b
same_number a b h = grind (arith, nat_tests)

or_there : (b r : Bool) → (b ≡ true → r ≡ true) → (b || r) ≡ r
or_there true r h = sym (h refl)
or_there false r h = refl

marks_on : (b : Bool) (done : List ℕ) (s k : ℕ) → list_any (eqb s) done ≡ b → (eqb k s || list_any (eqb k) done) ≡ list_any (eqb k) (cond b done (done ++ s ∷ []))
marks_on true done s k h = or_there (eqb k s) (list_any (eqb k) done) (λ t. ap (λ m. list_any (eqb m) done) (same_number k s t) ∙ h)
marks_on false done s k h = pushed done s k

-- the signals so far, and what is left to add
pub record AreOnceSoFar (ss : List SigId) (done : List ℕ) (i : ℕ) : Type 0 where
  pub whole : done ++ once_after done (numbers (drop i ss)) ≡ once (numbers ss)

module _ (ss : List SigId) where
  pub once_begin : AreOnceSoFar ss [] 0
  once_begin = record { whole = refl }

  left : (done : List ℕ) (i : ℕ) (d : SigId) → i < length ss → once_after done (numbers (drop i ss))
      ≡ cond (list_any (eqb (get_or ss i d).0) done) (once_after done (numbers (drop (i + 1) ss))) ((get_or ss i d).0 ∷ once_after ((get_or ss i d).0 ∷ done) (numbers (drop (i + 1) ss)))
  left done i d h = at_drop_more (λ ss. once_after done (numbers ss)) ss i d h

  stepped : (done more : List ℕ) (i : ℕ) (d : SigId) (b : Bool) → i < length ss → list_any (eqb (get_or ss i d).0) done ≡ b → more ≡ cond b done (done ++ (get_or ss i d).0 ∷ []) → AreOnceSoFar ss done i → AreOnceSoFar ss more (i + 1)
  stepped done more i d true h t m w =
      let x = get_or ss i d in
      let rest = numbers (drop (i + 1) ss) in
      subst (λ (ks : List ℕ). AreOnceSoFar ss ks (i + 1)) (sym m)
      (record { whole = ap (λ b. done ++ cond b (once_after done rest) (x.0 ∷ once_after (x.0 ∷ done) rest)) (sym t) ∙ ap (λ xs. done ++ xs) (sym (left done i d h)) ∙ w.whole })
  stepped done more i d false h t m w =
      let x = get_or ss i d in
      let rest = numbers (drop (i + 1) ss) in
      subst (λ (ks : List ℕ). AreOnceSoFar ss ks (i + 1)) (sym m)
      (record {
        whole = append_assoc done (x.0 ∷ []) (once_after (done ++ x.0 ∷ []) rest)
            ∙ ap (λ xs. done ++ x.0 ∷ xs) (sym (once_after-same (x.0 ∷ done) (done ++ x.0 ∷ []) rest (pushed done x.0)))
            ∙ ap (λ b. done ++ cond b (once_after done rest) (x.0 ∷ once_after (x.0 ∷ done) rest)) (sym t)
            ∙ ap (λ xs. done ++ xs) (sym (left done i d h)) ∙ w.whole;
      })

  numbers_choice : (b : Bool) (outs : List SigId) (x : SigId) → numbers (cond b outs (outs ++ x ∷ [])) ≡ cond b (numbers outs) (numbers outs ++ x.0 ∷ [])
  numbers_choice true outs x = refl
  numbers_choice false outs x = map_push (λ (k : SigId). k.0) outs x

  -- the step of the loop at a signal
  pub once_step : (keys next : List ℕ) (outs more : List SigId) (i : ℕ) (d : SigId) → i < length ss → keys ≡ numbers outs → next ≡ insert_key eqb keys (get_or ss i d).0 → more ≡ cond (list_any (eqb (get_or ss i d).0) keys) outs (outs ++ get_or ss i d ∷ [])
      → AreOnceSoFar ss (numbers outs) i → (next ≡ numbers more) × AreOnceSoFar ss (numbers more) (i + 1)
  once_step keys next outs more i d h k n m w =
      let x = get_or ss i d in
      let done = numbers outs in
      let chosen : numbers more ≡ cond (list_any (eqb x.0) done) done (done ++ x.0 ∷ []) = ap numbers m ∙ numbers_choice (list_any (eqb x.0) keys) outs x ∙ ap (λ ks. cond (list_any (eqb x.0) ks) done (done ++ x.0 ∷ [])) k in
      (n ∙ ap (λ ks. insert_key eqb ks x.0) k ∙ sym chosen, stepped done (numbers more) i d (list_any (eqb x.0) done) h refl chosen w)

  -- the same, where marks say what was seen
  pub marked_step : (old new : ℕ → Bool) (outs more : List SigId) (i : ℕ) (d : SigId) → i < length ss → ((k : ℕ) → old k ≡ list_any (eqb k) (numbers outs)) → ((k : ℕ) → new k ≡ (eqb k (get_or ss i d).0 || old k))
      → more ≡ cond (old (get_or ss i d).0) outs (outs ++ get_or ss i d ∷ []) → AreOnceSoFar ss (numbers outs) i → ((k : ℕ) → new k ≡ list_any (eqb k) (numbers more)) × AreOnceSoFar ss (numbers more) (i + 1)
  marked_step old new outs more i d h before put m w =
      let x = get_or ss i d in
      let done = numbers outs in
      let chosen : numbers more ≡ cond (list_any (eqb x.0) done) done (done ++ x.0 ∷ []) = ap numbers m ∙ numbers_choice (old x.0) outs x ∙ ap (λ b. cond b done (done ++ x.0 ∷ [])) (before x.0) in (
        λ k. put k ∙ ap (λ b. eqb k x.0 || b) (before k) ∙ marks_on (list_any (eqb x.0) done) done x.0 k refl ∙ ap (list_any (eqb k)) (sym chosen),
        stepped done (numbers more) i d (list_any (eqb x.0) done) h refl chosen w,
      )

  pub once_end : (done : List ℕ) (i : ℕ) → length ss ≤ i → AreOnceSoFar ss done i → done ≡ once (numbers ss)
  once_end done i h w = sym (append-nil done) ∙ ap (λ xs. done ++ xs) (sym (at_drop_all (λ ss. once_after done (numbers ss)) ss i h)) ∙ w.whole

pub ruleset once_lists = (common_steps, once_begin, once_end)
