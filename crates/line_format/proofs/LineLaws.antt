-- A format whose due lines are clear: files say one thing, and other bytes have one first bad line.
use Rattle.std.proofs.Common.{◌≡◌, ℕ, zero, suc, ◌+◌, ◌<◌, List, [], ◌∷◌, ◌++◌, Bool, true, false, IsTrue, length, Option, Some, None, ◌⊎◌, inl, inr, refl, sym, ap, ◌∙◌, subst, append_assoc, arith}
use Rattle.std.proofs.lemmas.Bool.Decides.{nat_tests}
use Rattle.argos_base.proofs.Bools.{and_first, and_second, and_both, true_or_false}
use Rattle.line_format.specs.Lines.{Format, is_inner, IsLine, IsClear, says, says_nothing, lines_then, Leads, IsWrong, not_due, wrong_line, too_much, FileOrFault, file, fault, HasLineLaws}

abbrev pub SameLine : List ℕ → List ℕ → List ℕ → List ℕ → Type 0
SameLine a b m k = (a ≡ b) × (m ≡ k)

not_ten : (b : ℕ) → b ≡ 10 → IsTrue (is_inner b) → ⊥
not_ten b e h = grind (arith, nat_tests)

first_equal : {A : Type 0} (a b : A) (m k : List A) → a ∷ m ≡ b ∷ k → (a ≡ b) × (m ≡ k)
first_equal a b m k e = (cc, cc)

pub same_line : (a b m k : List ℕ) → IsLine a → IsLine b → a ++ 10 ∷ m ≡ b ++ 10 ∷ k → SameLine a b m k
same_line [] [] m k h e f = (refl, (first_equal 10 10 m k f).1)
same_line [] (y ∷ b) m k h e f = absurd (not_ten y (sym (first_equal 10 y m (b ++ 10 ∷ k) f).0) (and_first _ _ e))
same_line (x ∷ a) [] m k h e f = absurd (not_ten x (first_equal x 10 (a ++ 10 ∷ m) k f).0 (and_first _ _ h))
same_line (x ∷ a) (y ∷ b) m k h e f =
    let p = first_equal x y (a ++ 10 ∷ m) (b ++ 10 ∷ k) f in
    let rest : SameLine a b m k = same_line a b m k (and_second (is_inner x) _ h) (and_second (is_inner y) _ e) p.1 in
    (ap (λ z. z ∷ a) p.0 ∙ ap (λ z. y ∷ z) rest.0, rest.1)

-- no due line that is right stands in front
abbrev Stuck : {S C K : Type 0} → Format S C K → S → List ℕ → Type 0
Stuck {S} {C} {K} F s rest = (c : C) (more : List ℕ) → IsTrue (F.is_due s c) → F.wrong s c ≡ None → rest ≡ F.spelled c ++ 10 ∷ more → ⊥

due_at : {S C K : Type 0} (F : Format S C K) (s t : S) (c : C) → t ≡ s → IsTrue (F.is_due s c) → IsTrue (F.is_due t c)
due_at F s t c e h = subst (λ z. IsTrue (F.is_due z c)) (sym e) h

right_at : {S C K : Type 0} (F : Format S C K) (s t : S) (c : C) → t ≡ s → F.wrong s c ≡ None → F.wrong t c ≡ None
right_at F s t c e h = ap (λ z. F.wrong z c) e ∙ h

pub record Same {S C : Type 0} (cs ds : List C) (t u : S) (r q : List ℕ) : Type 0 where
  pub lines : cs ≡ ds
  pub stage : t ≡ u
  pub rest : r ≡ q

same_front : {S C K : Type 0} (F : Format S C K) → IsClear F → (cs ds : List C) (s t u : S) (r q : List ℕ) → Leads F s cs t → Leads F s ds u → Stuck F t r → Stuck F u q → lines_then F cs r ≡ lines_then F ds q → Same cs ds t u r q
same_front F clear [] [] s t u r q h k x y e = record { lines = refl; stage = h ∙ sym k; rest = e }
same_front F clear [] (d ∷ ds) s t u r q h k x y e = absurd (x d (lines_then F ds q) (due_at F s t d h k.0) (right_at F s t d h k.1) e)
same_front F clear (c ∷ cs) [] s t u r q h k x y e = absurd (y c (lines_then F cs r) (due_at F s u c k h.0) (right_at F s u c k h.1) (sym e))
same_front F clear (c ∷ cs) (d ∷ ds) s t u r q h k x y e =
    let line = same_line (F.spelled c) (F.spelled d) (lines_then F cs r) (lines_then F ds q) (clear.inner s c h.0) (clear.inner s d k.0) e in
    let same : c ≡ d = clear.one s c d h.0 k.0 line.0 in
    let rest = same_front F clear cs ds (F.after s c) t u r q h.2 (subst (λ z. Leads F (F.after s z) ds u) (sym same) k.2) x y line.1 in
    record { lines = ap (λ z. z ∷ cs) same ∙ ap (λ z. d ∷ z) rest.lines; stage = rest.stage; rest = rest.rest }

stuck_at_end : {S C K : Type 0} (F : Format S C K) → IsClear F → (s : S) (rest : List ℕ) → IsTrue (F.is_end s) → Stuck F s rest
stuck_at_end F clear s rest h c more due right e = clear.ends s c h due

none_some : {K : Type 0} (k : K) (o p : Option K) → o ≡ None → p ≡ Some k → o ≡ p → ⊥
none_some k o p e f g = cc

stuck_where_wrong : {S C K : Type 0} (F : Format S C K) → IsClear F → (s : S) (rest : List ℕ) (k : K) → IsWrong F s rest k → Stuck F s rest
stuck_where_wrong F clear s rest k (not_due h none e) c more due right f = none c more due f
stuck_where_wrong F clear s rest k (wrong_line d more' due' g w) c more due right f =
    let line = same_line (F.spelled c) (F.spelled d) more more' (clear.inner s c due) (clear.inner s d due') (sym f ∙ g) in
    none_some k (F.wrong s c) (F.wrong s d) right w (ap (λ z. F.wrong s z) (clear.one s c d due due' line.0))
stuck_where_wrong F clear s rest k (too_much h some e) c more due right f = clear.ends s c h due

true_false : (b : Bool) → b ≡ true → b ≡ false → ⊥
true_false b h e = cc

-- one kind
one_kind : {S C K : Type 0} (F : Format S C K) → IsClear F → (s : S) (rest : List ℕ) (k k' : K) → IsWrong F s rest k → IsWrong F s rest k' → k ≡ k'
one_kind F clear s rest k k' (not_due h none e) (not_due h' none' e') = e ∙ sym e'
one_kind F clear s rest k k' (not_due h none e) (wrong_line d more due g w) = absurd (none d more due g)
one_kind F clear s rest k k' (not_due h none e) (too_much h' some e') = absurd (true_false _ h' h)
one_kind F clear s rest k k' (wrong_line c more due g w) (not_due h none e) = absurd (none c more due g)
one_kind F clear s rest k k' (wrong_line c more due g w) (wrong_line d more' due' g' w') =
    let line = same_line (F.spelled c) (F.spelled d) more more' (clear.inner s c due) (clear.inner s d due') (sym g ∙ g') in
    same_some k k' (F.wrong s c) (F.wrong s d) w w' (ap (λ z. F.wrong s z) (clear.one s c d due due' line.0))
  where
    same_some : {K : Type 0} (k k' : K) (o p : Option K) → o ≡ Some k → p ≡ Some k' → o ≡ p → k ≡ k'
    same_some k k' o p e f g = cc
one_kind F clear s rest k k' (wrong_line c more due g w) (too_much h some e) = absurd (clear.ends s c h due)
one_kind F clear s rest k k' (too_much h some e) (not_due h' none e') = absurd (true_false _ h h')
one_kind F clear s rest k k' (too_much h some e) (wrong_line d more due g w) = absurd (clear.ends s d h due)
one_kind F clear s rest k k' (too_much h some e) (too_much h' some' e') = e ∙ sym e'

-- nothing is wrong at the end
right_at_end : {S C K : Type 0} (F : Format S C K) → IsClear F → (s : S) (k : K) → IsTrue (F.is_end s) → IsWrong F s [] k → ⊥
right_at_end F clear s k h (not_due e none f) = true_false _ h e
right_at_end F clear s k h (wrong_line d more due g w) = clear.ends s d h due
right_at_end F clear s k h (too_much e some f) = some refl

then_more : {S C K : Type 0} (F : Format S C K) (cs : List C) (rest more : List ℕ) → lines_then F cs rest ++ more ≡ lines_then F cs (rest ++ more)
then_more F [] rest more = refl
then_more F (c ∷ cs) rest more = append_assoc (F.spelled c) (10 ∷ lines_then F cs rest) more ∙ ap (λ z. F.spelled c ++ 10 ∷ z) (then_more F cs rest more)

-- the first LF, or none
data FirstLine (bs : List ℕ) : Type 0 where
  whole_line : (l more : List ℕ) → IsLine l → bs ≡ l ++ 10 ∷ more → length more < length bs → FirstLine bs
  no_line : ((l more : List ℕ) → bs ≡ l ++ 10 ∷ more → ⊥) → FirstLine bs

ten : (b : ℕ) → is_inner b ≡ false → b ≡ 10
ten b h = grind (arith, nat_tests)

first_line_more : (b : ℕ) (bs : List ℕ) → IsTrue (is_inner b) → FirstLine bs → FirstLine (b ∷ bs)
first_line_more b bs h (whole_line l more i e s) = whole_line (b ∷ l) more (and_both _ _ h i) (ap (λ z. b ∷ z) e) (omega arith)
first_line_more b bs h (no_line none) = no_line never
  where
    never : (l more : List ℕ) → b ∷ bs ≡ l ++ 10 ∷ more → ⊥
    never [] more e = not_ten b (first_equal b 10 bs more e).0 h
    never (c ∷ l) more e = none l more (first_equal b c bs (l ++ 10 ∷ more) e).1

first_line : (bs : List ℕ) → FirstLine bs
first_line [] = no_line never
  where
    never : (l more : List ℕ) → [] ≡ l ++ 10 ∷ more → ⊥
    never [] more e = cc e
    never (c ∷ l) more e = cc e
first_line (b ∷ bs) = elim (true_or_false (is_inner b)) [
  | inl y ↦ first_line_more b bs y (first_line bs)
  | inr y ↦ whole_line [] bs refl (ap (λ z. z ∷ bs) (ten b y)) (omega arith)
]

-- what the bytes are from a stage on
data Verdict {S C K : Type 0} (F : Format S C K) (s : S) (bs : List ℕ) : Type 0 where
  good : (lines : List C) (t : S) → bs ≡ lines_then F lines [] → Leads F s lines t → IsTrue (F.is_end t) → Verdict F s bs
  bad : (lines : List C) (t : S) (rest : List ℕ) (k : K) → bs ≡ lines_then F lines rest → Leads F s lines t → IsWrong F t rest k → Verdict F s bs

verdict_more : {S C K : Type 0} (F : Format S C K) (s : S) (c : C) (bs more : List ℕ) → IsTrue (F.is_due s c) → F.wrong s c ≡ None → bs ≡ F.spelled c ++ 10 ∷ more → Verdict F (F.after s c) more → Verdict F s bs
verdict_more F s c bs more due right e (good lines t text leads whole) = good (c ∷ lines) t (e ∙ ap (λ z. F.spelled c ++ 10 ∷ z) text) (due, right, leads) whole
verdict_more F s c bs more due right e (bad lines t rest k text leads wrong) = bad (c ∷ lines) t rest k (e ∙ ap (λ z. F.spelled c ++ 10 ∷ z) text) (due, right, leads) wrong

wrong_or_right : {K : Type 0} (o : Option K) → (o ≡ None) ⊎ ((k : K) × (o ≡ Some k))
wrong_or_right None = inl refl
wrong_or_right (Some k) = inr (k, refl)

empty_or_not : (bs : List ℕ) → (bs ≡ []) ⊎ (bs ≡ [] → ⊥)
empty_or_not [] = inl refl
empty_or_not (b ∷ bs) = inr (λ e. cc e)

judged : {S C K : Type 0} (F : Format S C K) → IsClear F → (n : ℕ) (s : S) (bs : List ℕ) → length bs < n → Verdict F s bs
judged F clear zero s bs h = absurd (omega arith)
judged F clear (suc n) s bs h = elim (true_or_false (F.is_end s)) [
  | inl end ↦ elim (empty_or_not bs) [
    | inl e ↦ good [] s e refl end
    | inr e ↦ bad [] s bs F.trailing refl refl (too_much end e refl)
  ]
  | inr ongoing ↦ elim (first_line bs) [
    | no_line none ↦ bad [] s bs F.misspelled refl refl (not_due ongoing (λ c more due e. none (F.spelled c) more e) refl)
    | whole_line l more inner e shorter ↦ elim (clear.found s l) [
      | says c due spelt ↦
          let here : bs ≡ F.spelled c ++ 10 ∷ more = e ∙ ap (λ z. z ++ 10 ∷ more) spelt in
          elim (wrong_or_right (F.wrong s c)) [
            | inl right ↦ verdict_more F s c bs more due right here (judged F clear n (F.after s c) more (omega arith))
            | inr w ↦ bad [] s bs w.0 refl refl (wrong_line c more due here w.1)
          ]
      | says_nothing none ↦ bad [] s bs F.misspelled refl refl (not_due ongoing (λ c more' due f. none c due (same_line l (F.spelled c) more more' inner (clear.inner s c due) (sym e ∙ f)).0) refl)
    ]
  ]
]

decided : {S C K : Type 0} (F : Format S C K) (bs : List ℕ) → Verdict F F.start bs → FileOrFault F bs
decided F bs (good lines t text leads whole) = file t (record { lines = lines; text = text; leads = leads; whole = whole })
decided F bs (bad lines t rest k text leads wrong) = fault (length lines + 1) k (record { lines = lines; here = t; rest = rest; text = text; leads = leads; wrong = wrong; number_is = refl })

pub line_laws : {S C K : Type 0} (F : Format S C K) → IsClear F → HasLineLaws F
line_laws {S} {C} {K} F clear = record {
  one_reading = λ bs t u a b. (same_front F clear a.lines b.lines F.start t u [] [] a.leads b.leads (stuck_at_end F clear t [] a.whole) (stuck_at_end F clear u [] b.whole) (sym a.text ∙ b.text)).stage;
  no_beginning = λ bs more t u a b. (same_front F clear a.lines b.lines F.start t u more [] a.leads b.leads (stuck_at_end F clear t more a.whole) (stuck_at_end F clear u [] b.whole) (sym (ap (λ z. z ++ more) a.text ∙ then_more F a.lines [] more) ∙ b.text)).rest;
  no_fault = λ bs t number k a b.
      let same = same_front F clear a.lines b.lines F.start t b.here [] b.rest a.leads b.leads (stuck_at_end F clear t [] a.whole) (stuck_where_wrong F clear b.here b.rest k b.wrong) (sym a.text ∙ b.text) in
      right_at_end F clear t k a.whole (subst (λ z. IsWrong F t z k) (sym same.rest) (subst (λ z. IsWrong F z b.rest k) (sym same.stage) b.wrong));
  some_fault = λ bs. decided F bs (judged F clear (suc (length bs)) F.start bs (omega arith));
  one_fault = λ bs number number' k k' a b.
      let same = same_front F clear a.lines b.lines F.start a.here b.here a.rest b.rest a.leads b.leads (stuck_where_wrong F clear a.here a.rest k a.wrong) (stuck_where_wrong F clear b.here b.rest k' b.wrong) (sym a.text ∙ b.text) in
      let moved : IsWrong F a.here a.rest k' = subst (λ z. IsWrong F a.here z k') (sym same.rest) (subst (λ z. IsWrong F z b.rest k') (sym same.stage) b.wrong) in
      (a.number_is ∙ ap (λ z. length z + 1) same.lines ∙ sym b.number_is, one_kind F clear a.here a.rest k k' a.wrong moved);
}
