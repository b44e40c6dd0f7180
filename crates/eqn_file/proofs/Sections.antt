-- Lines of one kind, as many as were announced.
use Rattle.std.proofs.Common.{◌≡◌, ℕ, zero, suc, List, [], ◌∷◌, ◌++◌, Bool, true, false, IsTrue, length, map, None, refl, sym, ap, ◌∙◌, subst, append_assoc, arith}
use Rattle.std.proofs.lemmas.List.{append-nil}
use Rattle.line_format.specs.Lines.{Format, Leads}

-- st k xs: k more such lines are due, and xs were read; Good xs a: a line that says a is right behind them
pub record IsSection {S C K A : Type 0} (F : Format S C K) (mk : A → C) (st : ℕ → List A → S) (Good : List A → A → Type 0) : Type 0 where
  pub only : (k : ℕ) (xs : List A) (c : C) → IsTrue (F.is_due (st (suc k) xs) c) → (a : A) × (c ≡ mk a)
  pub due : (k : ℕ) (xs : List A) (a : A) → Good xs a → IsTrue (F.is_due (st (suc k) xs) (mk a))
  pub right : (k : ℕ) (xs : List A) (a : A) → Good xs a → F.wrong (st (suc k) xs) (mk a) ≡ None
  pub good : (k : ℕ) (xs : List A) (a : A) → IsTrue (F.is_due (st (suc k) xs) (mk a)) → F.wrong (st (suc k) xs) (mk a) ≡ None → Good xs a
  pub next : (k : ℕ) (xs : List A) (a : A) → F.after (st (suc k) xs) (mk a) ≡ st k (xs ++ a ∷ [])
  pub ongoing : (k : ℕ) (xs : List A) → F.is_end (st (suc k) xs) ≡ false

abbrev pub AllGood : {A : Type 0} → (List A → A → Type 0) → List A → List A → Type 0
AllGood Good xs [] = Unit {0}
AllGood Good xs (y ∷ ys) = Good xs y × AllGood Good (xs ++ y ∷ []) ys

-- the section's lines, and those behind it
pub record Through {S C K A : Type 0} (F : Format S C K) (mk : A → C) (st : ℕ → List A → S) (Good : List A → A → Type 0) (k : ℕ) (xs : List A) (lines : List C) (t : S) : Type 0 where
  pub items : List A
  pub behind : List C
  pub split : lines ≡ map mk items ++ behind
  pub sized : length items ≡ k
  pub all : AllGood Good xs items
  pub leads : Leads F (st 0 (xs ++ items)) behind t

true_false : (b : Bool) → b ≡ true → b ≡ false → ⊥
true_false b h e = cc

pub into_section : {S C K A : Type 0} (F : Format S C K) (mk : A → C) (st : ℕ → List A → S) (Good : List A → A → Type 0) → IsSection F mk st Good → (k : ℕ) (xs : List A) (ys : List A) (behind : List C) (t : S)
    → length ys ≡ k → AllGood Good xs ys → Leads F (st 0 (xs ++ ys)) behind t → Leads F (st k xs) (map mk ys ++ behind) t
into_section F mk st Good h zero xs [] behind t e g l = subst (λ z. Leads F (st 0 z) behind t) (append-nil xs) l
into_section F mk st Good h zero xs (y ∷ ys) behind t e g l = absurd (omega arith)
into_section F mk st Good h (suc k) xs [] behind t e g l = absurd (omega arith)
into_section F mk st Good h (suc k) xs (y ∷ ys) behind t e g l =
    let moved : Leads F (st 0 ((xs ++ y ∷ []) ++ ys)) behind t = subst (λ z. Leads F (st 0 z) behind t) (sym (append_assoc xs (y ∷ []) ys)) l in
    let rest : Leads F (st k (xs ++ y ∷ [])) (map mk ys ++ behind) t = into_section F mk st Good h k (xs ++ y ∷ []) ys behind t (omega arith) g.1 moved in
    (h.due k xs y g.0, h.right k xs y g.0, subst (λ z. Leads F z (map mk ys ++ behind) t) (sym (h.next k xs y)) rest)

one_more : {S C K A : Type 0} (F : Format S C K) (mk : A → C) (st : ℕ → List A → S) (Good : List A → A → Type 0) (k : ℕ) (xs : List A) (a : A) (c : C) (lines : List C) (t : S) → c ≡ mk a → Good xs a
    → Through F mk st Good k (xs ++ a ∷ []) lines t → Through F mk st Good (suc k) xs (c ∷ lines) t
one_more F mk st Good k xs a c lines t e g r = record {
  items = a ∷ r.items;
  behind = r.behind;
  split = ap (λ z. z ∷ lines) e ∙ ap (λ z. mk a ∷ z) r.split;
  sized = omega (arith, r.sized);
  all = (g, r.all);
  leads = subst (λ z. Leads F (st 0 z) r.behind t) (append_assoc xs (a ∷ []) r.items) r.leads;
}

pub out_of_section : {S C K A : Type 0} (F : Format S C K) (mk : A → C) (st : ℕ → List A → S) (Good : List A → A → Type 0) → IsSection F mk st Good → (k : ℕ) (xs : List A) (lines : List C) (t : S) → Leads F (st k xs) lines t → IsTrue (F.is_end t)
    → Through F mk st Good k xs lines t
out_of_section F mk st Good h zero xs lines t l end = record { items = []; behind = lines; split = refl; sized = refl; all = tt; leads = subst (λ z. Leads F (st 0 z) lines t) (sym (append-nil xs)) l }
out_of_section F mk st Good h (suc k) xs [] t l end = absurd (true_false (F.is_end (st (suc k) xs)) (subst (λ z. IsTrue (F.is_end z)) l end) (h.ongoing k xs))
out_of_section F mk st Good h (suc k) xs (c ∷ lines) t l end =
    let a = h.only k xs c l.0 in
    let due : IsTrue (F.is_due (st (suc k) xs) (mk a.0)) = subst (λ z. IsTrue (F.is_due (st (suc k) xs) z)) a.1 l.0 in
    let right : F.wrong (st (suc k) xs) (mk a.0) ≡ None = ap (λ z. F.wrong (st (suc k) xs) z) (sym a.1) ∙ l.1 in
    let next : F.after (st (suc k) xs) c ≡ st k (xs ++ a.0 ∷ []) = ap (λ z. F.after (st (suc k) xs) z) a.1 ∙ h.next k xs a.0 in
    one_more F mk st Good k xs a.0 c lines t a.1 (h.good k xs a.0 due right) (out_of_section F mk st Good h k (xs ++ a.0 ∷ []) lines t (subst (λ z. Leads F z lines t) next l.2) end)

-- a single line that is due
pub record One {S C K A : Type 0} (F : Format S C K) (mk : A → C) (s : S) (lines : List C) (t : S) : Type 0 where
  pub item : A
  pub behind : List C
  pub split : lines ≡ mk item ∷ behind
  pub due : IsTrue (F.is_due s (mk item))
  pub right : F.wrong s (mk item) ≡ None
  pub leads : Leads F (F.after s (mk item)) behind t

pub one_line : {S C K A : Type 0} (F : Format S C K) (mk : A → C) (s : S) → ((c : C) → IsTrue (F.is_due s c) → (a : A) × (c ≡ mk a)) → F.is_end s ≡ false → (lines : List C) (t : S) → Leads F s lines t → IsTrue (F.is_end t) → One F mk s lines t
one_line F mk s only ongoing [] t l end = absurd (true_false (F.is_end s) (subst (λ z. IsTrue (F.is_end z)) l end) ongoing)
one_line F mk s only ongoing (c ∷ lines) t l end =
    let a = only c l.0 in record {
      item = a.0;
      behind = lines;
      split = ap (λ z. z ∷ lines) a.1;
      due = subst (λ z. IsTrue (F.is_due s z)) a.1 l.0;
      right = ap (λ z. F.wrong s z) (sym a.1) ∙ l.1;
      leads = subst (λ z. Leads F (F.after s z) lines t) a.1 l.2;
    }
