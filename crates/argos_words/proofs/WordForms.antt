-- What a word is by its spelling, as a function of its bytes: so it is one thing only.
use Rattle.std.proofs.Common.{◌≡◌, ℕ, ◌≤◌, List, [], ◌∷◌, ◌++◌, Bool, true, false, not, length, nat_eq, cond, refl, ap, ◌∙◌, codes, arith, append_assoc}
use Rattle.std.specs.Prelude.{IsTrue}
use Rattle.argos_words.specs.Words.{is_plain, HasNoEquals}

pub data Form : Type 0 where
  plain all_plain wrong : Form
  joined : List ℕ → List ℕ → Form
  apart : List ℕ → Form

-- the bytes before the first equals sign
abbrev pub name_of : List ℕ → List ℕ
name_of [] = []
name_of (b ∷ bs) = cond (nat_eq b 61) [] (b ∷ name_of bs)

-- and those from it on
abbrev pub behind_name : List ℕ → List ℕ
behind_name [] = []
behind_name (b ∷ bs) = cond (nat_eq b 61) (b ∷ bs) (behind_name bs)

-- the option with this behind its name
abbrev pub option_form : List ℕ → List ℕ → Form
option_form [] [] = all_plain
option_form [] (n ∷ name) = apart (n ∷ name)
option_form (e ∷ value) name = joined name value

abbrev pub form_of : List ℕ → Form
form_of [] = plain
form_of (b ∷ []) = plain
form_of (b ∷ c ∷ bs) = cond (nat_eq b 45) (cond (nat_eq c 45) (option_form (behind_name bs) (name_of bs)) wrong) plain

-- a plain word has this form
cond_not : {A : Type 0} (t : Bool) (x y : A) → IsTrue (not t) → cond t x y ≡ y
cond_not true x y h = absurd (no h)
  where
    no : IsTrue (not true) → ⊥
    no h = cc
cond_not false x y h = refl

pub form_of-plain : (w : List ℕ) → IsTrue (is_plain w) → form_of w ≡ plain
form_of-plain [] h = refl
form_of-plain (b ∷ []) h = refl
form_of-plain (b ∷ c ∷ bs) h = cond_not (nat_eq b 45) _ plain h

-- a name without an equals sign ends at the first one behind it
cond_false : {A : Type 0} (t : Bool) (x y : A) → t ≡ false → cond t x y ≡ y
cond_false true x y h = cc
cond_false false x y h = refl

pub name_of-joined : (name value : List ℕ) → HasNoEquals name → name_of (name ++ 61 ∷ value) ≡ name
name_of-joined [] value h = refl
name_of-joined (b ∷ name) value h = cond_false (nat_eq b 61) [] _ h.0 ∙ ap (λ (n : List ℕ). b ∷ n) (name_of-joined name value h.1)

behind_name-joined : (name value : List ℕ) → HasNoEquals name → behind_name (name ++ 61 ∷ value) ≡ 61 ∷ value
behind_name-joined [] value h = refl
behind_name-joined (b ∷ name) value h = cond_false (nat_eq b 61) _ _ h.0 ∙ behind_name-joined name value h.1

name_of-alone : (name : List ℕ) → HasNoEquals name → name_of name ≡ name
name_of-alone [] h = refl
name_of-alone (b ∷ name) h = cond_false (nat_eq b 61) [] _ h.0 ∙ ap (λ (n : List ℕ). b ∷ n) (name_of-alone name h.1)

behind_name-alone : (name : List ℕ) → HasNoEquals name → behind_name name ≡ []
behind_name-alone [] h = refl
behind_name-alone (b ∷ name) h = cond_false (nat_eq b 61) _ _ h.0 ∙ behind_name-alone name h.1

-- the forms of the options
pub form_of-joined : (name value : List ℕ) → HasNoEquals name → form_of (codes "--" ++ name ++ codes "=" ++ value) ≡ joined name value
form_of-joined name value h =
    ap (λ z. form_of (codes "--" ++ z)) (append_assoc name (codes "=") value)
    ∙ ap (λ z. option_form z (name_of (name ++ 61 ∷ value))) (behind_name-joined name value h)
    ∙ ap (λ n. joined n value) (name_of-joined name value h)

some_name : (name : List ℕ) → 1 ≤ length name → option_form [] name ≡ apart name
some_name [] h = absurd (omega arith)
some_name (n ∷ name) h = refl

pub form_of-apart : (name : List ℕ) → HasNoEquals name → 1 ≤ length name → form_of (codes "--" ++ name) ≡ apart name
form_of-apart name h l = ap (λ z. option_form z (name_of name)) (behind_name-alone name h) ∙ ap (option_form []) (name_of-alone name h) ∙ some_name name l
