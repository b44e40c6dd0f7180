-- What clap takes a word for, by its spelling.
use Rattle.std.proofs.Common.{◌≡◌, ℕ, zero, suc, ◌≤◌, ◌==◌, List, [], ◌∷◌, ◌++◌, Bool, true, false, not, cond, length, Option, Some, None, refl, sym, ap, ap₂, subst, ◌∙◌, codes, arith, append_assoc}
use Rattle.std.specs.Prelude.{bytes_eq, slice_get, IsTrue}
use Rattle.std.specs.List.{after_first}
use Rattle.std.specs.Str.{chars, IsUtf8, encode_utf8_all}
use Rattle.std.proofs.lemmas.Bool.Decides.{nat_tests}
use Rattle.std.proofs.lemmas.Slice.Eq.{bytes_eq-Decides}
use Rattle.std.proofs.lemmas.Str.{IsUtf8-past_char, encodes-chars, encode_ascii}
use Rattle.argos_words.specs.Words.{is_plain, HasNoEquals}
use Rattle.clap.specs.Lexer.{long_of, name_and_value, short_of}
use Rattle.clap.proofs.CutLemmas.{Lacks, before_first-Lacks, before_first-at, after_first-at, list_any-Lacks, list_any-at}

lacks_equals : (name : List ℕ) → HasNoEquals name → Lacks 61 name
lacks_equals [] h i l = absurd (omega arith)
lacks_equals (b ∷ name) h zero l = let e : (b == 61) ≡ false = h.0 in grind (arith, nat_tests)
lacks_equals (b ∷ name) h (suc i) l = lacks_equals name h.1 i (omega arith)

joined_parts : (name value : List ℕ) → HasNoEquals name → name_and_value (name ++ 61 ∷ value) ≡ (name, Some value)
joined_parts name value h =
    let l = lacks_equals name h in
    ap₂ (λ (n : List ℕ) (v : Option (List ℕ)). (n, v)) (before_first-at 61 name value l)
    (ap (λ b. cond b (Some (after_first (λ x. x == 61) (name ++ 61 ∷ value))) None) (list_any-at 61 name value) ∙ ap Some (after_first-at 61 name value l))

apart_parts : (name : List ℕ) → HasNoEquals name → name_and_value name ≡ (name, None)
apart_parts name h =
    let l = lacks_equals name h in
    ap₂ (λ (n : List ℕ) (v : Option (List ℕ)). (n, v)) (before_first-Lacks 61 name l) (ap (λ b. cond b (Some (after_first (λ x. x == 61) name)) None) (list_any-Lacks 61 name l))

-- the options
pub long_joined : (name value : List ℕ) → HasNoEquals name → long_of (codes "--" ++ name ++ codes "=" ++ value) ≡ Some (name, Some value)
long_joined name value h = ap (λ z. long_of (codes "--" ++ z)) (append_assoc name (codes "=") value) ∙ go name h
  where
    go : (name : List ℕ) → HasNoEquals name → long_of (45 ∷ 45 ∷ (name ++ 61 ∷ value)) ≡ Some (name, Some value)
    go [] h = ap Some (joined_parts [] value h)
    go (b ∷ name) h = ap Some (joined_parts (b ∷ name) value h)

pub long_apart : (name : List ℕ) → HasNoEquals name → 1 ≤ length name → long_of (codes "--" ++ name) ≡ Some (name, None)
long_apart [] h l = absurd (omega arith)
long_apart (b ∷ name) h l = ap Some (apart_parts (b ∷ name) h)

-- words that differ
pub differ : (v w : List ℕ) → (v ≡ w → ⊥) → bytes_eq v w ≡ false
differ v w h = go (bytes_eq v w) refl
  where
    go : (b : Bool) → bytes_eq v w ≡ b → b ≡ false
    go true e = absurd (h ((bytes_eq-Decides v w).0 e))
    go false e = refl

pub long_no_dashes : (v : List ℕ) (p : List ℕ × Option (List ℕ)) → long_of v ≡ Some p → bytes_eq v (codes "--") ≡ false
long_no_dashes v p h = differ v (codes "--") (λ e. let bad : Some p ≡ None = sym h ∙ ap long_of e in cc)

-- a text has an equals sign or not
pub data Cut (t : List ℕ) : Type 0 where
  cut : (name value : List ℕ) → t ≡ name ++ 61 ∷ value → HasNoEquals name → Cut t
  whole : HasNoEquals t → Cut t

cut_at : (t : List ℕ) → Cut t
cut_at [] = whole tt
cut_at (b ∷ t) = go (b == 61) refl (cut_at t)
  where
    go : (e : Bool) → (b == 61) ≡ e → Cut t → Cut (b ∷ t)
    go true e rest = let is : b ≡ 61 = grind (arith, nat_tests) in cut [] t (ap (λ (x : ℕ). x ∷ t) is) tt
    go false e (cut name value h n) = cut (b ∷ name) value (ap (λ (x : List ℕ). b ∷ x) h) (e, n)
    go false e (whole n) = whole (e, n)

-- the forms of a word
pub data WordForm (v : List ℕ) : Type 0 where
  plain : IsTrue (is_plain v) → bytes_eq v (codes "--") ≡ false → long_of v ≡ None → short_of v ≡ None → WordForm v
  dashes : v ≡ codes "--" → WordForm v
  joined : (name value : List ℕ) → v ≡ codes "--" ++ name ++ codes "=" ++ value → HasNoEquals name → WordForm v
  apart : (name : List ℕ) → v ≡ codes "--" ++ name → HasNoEquals name → 1 ≤ length name → WordForm v
  short : (b : ℕ) (bs : List ℕ) (c : ℕ) → bytes_eq v (codes "--") ≡ false → long_of v ≡ None → short_of v ≡ Some (b ∷ bs) → slice_get (chars (b ∷ bs)) 0 ≡ Some c → WordForm v

first_char : (b : ℕ) (bs : List ℕ) → IsUtf8 (b ∷ bs) → (c : ℕ) × (slice_get (chars (b ∷ bs)) 0 ≡ Some c)
first_char b bs u = go (chars (b ∷ bs)) (encodes-chars (b ∷ bs) u)
  where
    go : (cs : List ℕ) → encode_utf8_all cs ≡ b ∷ bs → (c : ℕ) × (slice_get cs 0 ≡ Some c)
    go [] e = cc
    go (c ∷ cs) e = (c, refl)

-- a word that isn't `--` and doesn't begin with a dash, or is one
pub plain_form : (v : List ℕ) → IsTrue (is_plain v) → (bytes_eq v (codes "--") ≡ false) × (long_of v ≡ None) × (short_of v ≡ None)
plain_form [] h = (refl, refl, refl)
plain_form (b ∷ []) h = go (b == 45) refl
  where
    go : (t : Bool) → (b == 45) ≡ t → (bytes_eq (b ∷ []) (codes "--") ≡ false) × (long_of (b ∷ []) ≡ None) × (short_of (b ∷ []) ≡ None)
    go true e = (differ (b ∷ []) (codes "--") (λ k. cc), rw e refl, rw e refl)
    go false e = (differ (b ∷ []) (codes "--") (λ k. cc), rw e refl, rw e refl)
plain_form (b ∷ c ∷ bs) h = go (b == 45) refl h
  where
    go : (t : Bool) → (b == 45) ≡ t → IsTrue (not t) → (bytes_eq (b ∷ c ∷ bs) (codes "--") ≡ false) × (long_of (b ∷ c ∷ bs) ≡ None) × (short_of (b ∷ c ∷ bs) ≡ None)
    go true e k = let bad : false ≡ true = k in cc
    go false e k = (differ (b ∷ c ∷ bs) (codes "--") (λ same. let is : b ≡ 45 = cc same in let yes : (b == 45) ≡ true = grind (arith, nat_tests) in let bad : true ≡ false = sym yes ∙ e in cc), rw e refl, rw e refl)

two_dashes : (t : List ℕ) → Cut t → WordForm (45 ∷ 45 ∷ t)
two_dashes [] (whole n) = dashes refl
two_dashes (x ∷ t) (whole n) = apart (x ∷ t) refl n (omega arith)
two_dashes t (cut name value h n) = joined name value (ap (λ (z : List ℕ). 45 ∷ 45 ∷ z) h ∙ sym (ap (λ z. codes "--" ++ z) (append_assoc name (codes "=") value))) n

pub word_form : (v : List ℕ) → IsUtf8 v → WordForm v
word_form [] u = let f = plain_form [] refl in plain refl f.0 f.1 f.2
word_form (b ∷ []) u = let f = plain_form (b ∷ []) refl in plain refl f.0 f.1 f.2
word_form (b ∷ c ∷ bs) u = go (b == 45) refl (c == 45) refl
  where
    go : (s : Bool) → (b == 45) ≡ s → (t : Bool) → (c == 45) ≡ t → WordForm (b ∷ c ∷ bs)
    go false e t f = let is : IsTrue (is_plain (b ∷ c ∷ bs)) = ap not e in let p = plain_form (b ∷ c ∷ bs) is in plain is p.0 p.1 p.2
    go true e true f =
        let first : b ≡ 45 = grind (arith, nat_tests) in
        let second : c ≡ 45 = grind (arith, nat_tests) in
        subst (λ (x : ℕ). WordForm (x ∷ c ∷ bs)) (sym first) (subst (λ (x : ℕ). WordForm (45 ∷ x ∷ bs)) (sym second) (two_dashes bs (cut_at bs)))
    go true e false f =
        let first : b ≡ 45 = grind (arith, nat_tests) in
        let rest : IsUtf8 (c ∷ bs) = IsUtf8-past_char (b ∷ c ∷ bs) (c ∷ bs) 45 u (ap (λ (x : ℕ). x ∷ c ∷ bs) first ∙ sym (ap (λ (x : List ℕ). x ++ c ∷ bs) (encode_ascii 45 (omega arith)))) in
        let k = first_char c bs rest in
        short c bs k.0 (differ (b ∷ c ∷ bs) (codes "--") (λ same. let is : c ≡ 45 = cc same in let yes : (c == 45) ≡ true = grind (arith, nat_tests) in let bad : true ≡ false = sym yes ∙ f in cc)) (rw e (rw f refl)) (rw e (rw f refl)) k.1
