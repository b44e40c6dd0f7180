-- The answer to bytes, line by line: what the lines so far say and what is due, until a line is bad or the end.
use Rattle.std.proofs.Common.{◌≡◌, ℕ, zero, suc, ◌+◌, List, [], ◌∷◌, ◌++◌, Bool, true, false, cond, IsTrue, length, Option, Some, None, ◌⊎◌, inl, inr, refl, sym, ap, ◌∙◌, subst, length-append, arith}
use Rattle.std.specs.Prelude.{nat_eq}
use Rattle.std.proofs.lemmas.Bool.Decides.{nat_tests}
use Rattle.argos_base.proofs.Bools.{true_or_false, and_both}
use Rattle.line_format.specs.Lines.{Format, is_inner, IsLine, IsClear, lines_then, Leads, not_due, wrong_line, too_much, IsFault, HasReadingSteps}
use Rattle.line_format.proofs.LineLaws.{same_line}

-- one line more that is due and right: the steps of a loop's invariant
pub leads_push : {S C K : Type 0} (F : Format S C K) (s t : S) (lines : List C) (c : C) → Leads F s lines t → IsTrue (F.is_due t c) → F.wrong t c ≡ None → Leads F s (lines ++ c ∷ []) (F.after t c)
leads_push F s t [] c h d r = (subst (λ z. IsTrue (F.is_due z c)) h d, ap (λ z. F.wrong z c) (sym h) ∙ r, ap (λ z. F.after z c) h)
leads_push F s t (b ∷ lines) c h d r = (h.0, h.1, leads_push F (F.after s b) t lines c h.2 d r)

pub then_push : {S C K : Type 0} (F : Format S C K) (lines : List C) (c : C) (rest : List ℕ) → lines_then F (lines ++ c ∷ []) rest ≡ lines_then F lines (F.spelled c ++ 10 ∷ rest)
then_push F [] c rest = refl
then_push F (b ∷ lines) c rest = ap (λ z. F.spelled b ++ 10 ∷ z) (then_push F lines c rest)

-- the bytes before the first LF, and those behind it
pub data Cut : Type 0 where
  no_more : Cut
  cut_at : List ℕ → List ℕ → Cut

abbrev pub cut_more : ℕ → Cut → Cut
cut_more b no_more = no_more
cut_more b (cut_at l more) = cut_at (b ∷ l) more

abbrev pub cut : List ℕ → Cut
cut [] = no_more
cut (b ∷ bs) = cond (nat_eq b 10) (cut_at [] bs) (cut_more b (cut bs))

-- the end, the first bad line, or out of steps
pub data Answer (S K : Type 0) : Type 0 where
  good : S → Answer S K
  bad : ℕ → K → Answer S K
  unknown : Answer S K

abbrev pub is_empty : List ℕ → Bool
is_empty [] = true
is_empty (b ∷ bs) = false

abbrev pub kind_answer : {S C K : Type 0} → Format S C K → S → ℕ → (S → List ℕ → Answer S K) → List ℕ → C → Option K → Answer S K
kind_answer F s number go more c None = go (F.after s c) more
kind_answer F s number go more c (Some k) = bad number k

abbrev pub said_answer : {S C K : Type 0} → Format S C K → S → ℕ → (S → List ℕ → Answer S K) → List ℕ → Option C → Answer S K
said_answer F s number go more None = bad number F.misspelled
said_answer F s number go more (Some c) = kind_answer F s number go more c (F.wrong s c)

abbrev pub cut_answer : {S C K : Type 0} → Format S C K → (S → List ℕ → Option C) → S → ℕ → (S → List ℕ → Answer S K) → Cut → Answer S K
cut_answer F read s number go no_more = bad number F.misspelled
cut_answer F read s number go (cut_at l more) = said_answer F s number go more (read s l)

-- at most so many lines, from this stage and number on
abbrev pub answer : {S C K : Type 0} → Format S C K → (S → List ℕ → Option C) → ℕ → S → ℕ → List ℕ → Answer S K
answer F read zero s number bs = unknown
answer F read (suc n) s number bs = cond (F.is_end s) (cond (is_empty bs) (good s) (bad number F.trailing)) (cut_answer F read s number (λ t more. answer F read n t (number + 1) more) (cut bs))

-- the reading of one line is exact
pub record IsExact {S C K : Type 0} (F : Format S C K) (read : S → List ℕ → Option C) : Type 0 where
  pub is_said : (s : S) (l : List ℕ) (c : C) → read s l ≡ Some c → IsTrue (F.is_due s c) × (l ≡ F.spelled c)
  pub said : (s : S) (c : C) → IsTrue (F.is_due s c) → read s (F.spelled c) ≡ Some c

-- what a cut is
data CutIs (bs : List ℕ) : Type 0 where
  none_is : cut bs ≡ no_more → ((l more : List ℕ) → bs ≡ l ++ 10 ∷ more → ⊥) → CutIs bs
  some_is : (l more : List ℕ) → cut bs ≡ cut_at l more → IsLine l → bs ≡ l ++ 10 ∷ more → CutIs bs

first_equal : {A : Type 0} (a b : A) (m k : List A) → a ∷ m ≡ b ∷ k → (a ≡ b) × (m ≡ k)
first_equal a b m k e = (cc, cc)

ten : (b : ℕ) → nat_eq b 10 ≡ true → b ≡ 10
ten b h = grind (arith, nat_tests)

not_ten : (b : ℕ) → nat_eq b 10 ≡ false → b ≡ 10 → ⊥
not_ten b h e = grind (arith, nat_tests)

inner : (b : ℕ) → nat_eq b 10 ≡ false → IsTrue (is_inner b)
inner b h = grind (arith, nat_tests)

cut_is_more : (b : ℕ) (bs : List ℕ) → nat_eq b 10 ≡ false → CutIs bs → CutIs (b ∷ bs)
cut_is_more b bs y (none_is e none) = none_is (ap (λ t. cond t (cut_at [] bs) (cut_more b (cut bs))) y ∙ ap (cut_more b) e) never
  where
    never : (l more : List ℕ) → b ∷ bs ≡ l ++ 10 ∷ more → ⊥
    never [] more e = not_ten b y (first_equal b 10 bs more e).0
    never (c ∷ l) more e = none l more (first_equal b c bs (l ++ 10 ∷ more) e).1
cut_is_more b bs y (some_is l more e i f) = some_is (b ∷ l) more (ap (λ t. cond t (cut_at [] bs) (cut_more b (cut bs))) y ∙ ap (cut_more b) e) (and_both _ _ (inner b y) i) (ap (λ z. b ∷ z) f)

cut_is : (bs : List ℕ) → CutIs bs
cut_is [] = none_is refl never
  where
    never : (l more : List ℕ) → [] ≡ l ++ 10 ∷ more → ⊥
    never [] more e = cc e
    never (c ∷ l) more e = cc e
cut_is (b ∷ bs) = elim (true_or_false (nat_eq b 10)) [
  | inl y ↦ some_is [] bs (ap (λ t. cond t (cut_at [] bs) (cut_more b (cut bs))) y) refl (ap (λ z. z ∷ bs) (ten b y))
  | inr y ↦ cut_is_more b bs y (cut_is bs)
]

same_bad : {S K : Type 0} (m n : ℕ) (k j : K) → ◌≡◌ {A = Answer S K} (bad m k) (bad n j) → (m ≡ n) × (k ≡ j)
same_bad m n k j h = (cc, cc)

not_bad : {S K : Type 0} (s : S) (m : ℕ) (k : K) → ◌≡◌ {A = Answer S K} (good s) (bad m k) → ⊥
not_bad s m k h = cc h

empty_test : (bs : List ℕ) → is_empty bs ≡ false → bs ≡ [] → ⊥
empty_test [] h e = cc h
empty_test (b ∷ bs) h e = cc e

said_or_not : {C : Type 0} (o : Option C) → (o ≡ None) ⊎ ((c : C) × (o ≡ Some c))
said_or_not None = inl refl
said_or_not (Some c) = inr (c, refl)

-- whatever is answered as a bad line is the first one
bad_from : {S C K : Type 0} (F : Format S C K) (read : S → List ℕ → Option C) → IsClear F → IsExact F read → (n : ℕ) (whole : List ℕ) (lines : List C) (s : S) (number : ℕ) (bs : List ℕ) (m : ℕ) (k : K)
    → Leads F F.start lines s → whole ≡ lines_then F lines bs → number ≡ length lines + 1 → answer F read n s number bs ≡ bad m k → IsFault F whole m k
bad_from {S} {C} {K} F read clear exact zero whole lines s number bs m k l e f h = cc h
bad_from {S} {C} {K} F read clear exact (suc n) whole lines s number bs m k l e f h =
    let go : S → List ℕ → Answer S K = λ t more. answer F read n t (number + 1) more in
    let after_end : Answer S K = cond (is_empty bs) (good s) (bad number F.trailing) in
    elim (true_or_false (F.is_end s)) [
      | inl end ↦
          let p : after_end ≡ bad m k = ap (λ t. cond t after_end (cut_answer F read s number go (cut bs))) (sym end) ∙ h in
          elim (true_or_false (is_empty bs)) [
            | inl y ↦ absurd (not_bad s m k (ap (λ t. cond t (good s) (bad number F.trailing)) (sym y) ∙ p))
            | inr y ↦
                let q = same_bad number m F.trailing k (ap (λ t. cond t (good s) (bad number F.trailing)) (sym y) ∙ p) in
                record { lines = lines; here = s; rest = bs; text = e; leads = l; wrong = too_much end (empty_test bs y) (sym q.1); number_is = sym q.0 ∙ f }
          ]
      | inr ongoing ↦
          let p : cut_answer F read s number go (cut bs) ≡ bad m k = ap (λ t. cond t after_end (cut_answer F read s number go (cut bs))) (sym ongoing) ∙ h in
          elim (cut_is bs) [
            | none_is c none ↦
                let q = same_bad number m F.misspelled k (ap (cut_answer F read s number go) (sym c) ∙ p) in
                record { lines = lines; here = s; rest = bs; text = e; leads = l; wrong = not_due ongoing (λ d more due g. none (F.spelled d) more g) (sym q.1); number_is = sym q.0 ∙ f }
            | some_is a more c inner g ↦
                let r : said_answer F s number go more (read s a) ≡ bad m k = ap (cut_answer F read s number go) (sym c) ∙ p in
                elim (said_or_not (read s a)) [
                  | inl none ↦
                      let q = same_bad number m F.misspelled k (ap (said_answer F s number go more) (sym none) ∙ r) in
                      record {
                        lines = lines;
                        here = s;
                        rest = bs;
                        text = e;
                        leads = l;
                        wrong = not_due ongoing
                            (λ d more' due i. no_reading d due (same_line a (F.spelled d) more more' inner (clear.inner s d due) (sym g ∙ i)).0 none)
                            (sym q.1);
                        number_is = sym q.0 ∙ f;
                      }
                  | inr some ↦
                      let d : C = some.0 in
                      let due = exact.is_said s a d some.1 in
                      let here : bs ≡ F.spelled d ++ 10 ∷ more = g ∙ ap (λ z. z ++ 10 ∷ more) due.1 in
                      let v : kind_answer F s number go more d (F.wrong s d) ≡ bad m k = ap (said_answer F s number go more) (sym some.1) ∙ r in
                      elim (said_or_not (F.wrong s d)) [
                        | inl right ↦
                            bad_from F read clear exact n whole (lines ++ d ∷ []) (F.after s d) (number + 1) more m k (leads_push F F.start s lines d l due.0 right)
                            (e ∙ ap (lines_then F lines) here ∙ sym (then_push F lines d more)) (omega (arith, length-append lines (d ∷ []))) (ap (kind_answer F s number go more d) (sym right) ∙ v)
                        | inr w ↦
                            let q = same_bad number m w.0 k (ap (kind_answer F s number go more d) (sym w.1) ∙ v) in
                            record { lines = lines; here = s; rest = bs; text = e; leads = l; wrong = wrong_line d more due.0 here (w.1 ∙ ap (λ z. Some z) q.1); number_is = sym q.0 ∙ f }
                      ]
                ]
          ]
    ]
  where
    no_reading : (d : C) → IsTrue (F.is_due s d) → {a : List ℕ} → a ≡ F.spelled d → read s a ≡ None → ⊥
    no_reading d due {a} same none = let no : Some d ≡ None = sym (exact.said s d due) ∙ ap (read s) (sym same) ∙ none in cc no

pub answer_bad : {S C K : Type 0} (F : Format S C K) (read : S → List ℕ → Option C) → IsClear F → IsExact F read → (n : ℕ) (bs : List ℕ) (m : ℕ) (k : K) → answer F read n F.start 1 bs ≡ bad m k → IsFault F bs m k
answer_bad F read clear exact n bs m k h = bad_from F read clear exact n bs [] F.start 1 bs m k refl refl refl h

-- how a reader goes on, and how it ends
pub reading_steps : {S C K : Type 0} (F : Format S C K) → HasReadingSteps F
reading_steps F = record {
  begins = λ whole. record { lines = []; text = refl; leads = refl; number_is = refl };
  goes_on = λ whole number s rest c more a due right e. record {
    lines = a.lines ++ c ∷ [];
    text = a.text ∙ ap (lines_then F a.lines) e ∙ sym (then_push F a.lines c more);
    leads = leads_push F F.start s a.lines c a.leads due right;
    number_is = omega (arith, a.number_is, length-append a.lines (c ∷ []));
  };
  fails = λ whole number s rest k a w. record { lines = a.lines; here = s; rest = rest; text = a.text; leads = a.leads; wrong = w; number_is = a.number_is };
  ends = λ whole number s a end. record { lines = a.lines; text = a.text; leads = a.leads; whole = end };
}
