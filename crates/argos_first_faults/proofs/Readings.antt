-- Any bytes are UTF-8, or UTF-8 up to a place; and they have tokens, or tokens up to a byte that begins none.
use Rattle.std.proofs.Common.{◌≡◌, ℕ, zero, suc, ◌+◌, ◌-◌, ◌<◌, ◌≤◌, List, [], ◌∷◌, ◌++◌, Option, Some, None, true, false, length, take, drop, refl, ap, subst, ◌∙◌, ◌⊎◌, inl, inr, arith, append_assoc, length-append}
use Rattle.std.specs.Prelude.{IsUtf8, not, ◌==◌, bytes_eq, codes}
use Rattle.std.specs.List.{prefix_len}
use Rattle.std.specs.Str.{IsValidUpTo, is_utf8}
use Rattle.std.proofs.lemmas.Bool.{cases_eq}
use Rattle.std.proofs.lemmas.List.{take-append-drop, length-drop, take_all}
use Rattle.std.proofs.lemmas.Str.{IsUtf8-from_is_utf8, is_utf8-from_IsUtf8, IsUtf8-nil}
use Rattle.argos_base.proofs.Bools.{true_or_false}
use Rattle.argos_tokens.specs.Tokens.{Token, is_token, is_blank, Reads, Skips, IsLongest, IsStuck}
use Rattle.argos_tokens.specs.TokenViews.{AreTokens}
use Rattle.argos_tokens.specs.Lexing.{SkipsTo, IsSolid, IsBehindLine, BeginsNone}
use Rattle.argos_tokens.proofs.Separators.{SkipsTo-then, skips_blanks, no_blank_left, behind_line, skips_comment, begins_comment}

-- UTF-8

not_one_front : (bs : List ℕ) (m : ℕ) → is_utf8 (take (suc m) bs) ≡ false → ((k : ℕ) → suc m < k → IsUtf8 (take k bs) → ⊥) → (k : ℕ) → m < k → IsUtf8 (take k bs) → ⊥
not_one_front bs m h none k below u = elim (cases_eq k (suc m)) [
  | inl e ↦ let same : is_utf8 (take (suc m) bs) ≡ true = is_utf8-from_IsUtf8 (take (suc m) bs) (subst (λ i. IsUtf8 (take i bs)) e u) in cc (h, same)
  | inr other ↦ none k (omega arith) u
]

valid_below : (bs : List ℕ) (m : ℕ) → m < length bs → ((k : ℕ) → m < k → IsUtf8 (take k bs) → ⊥) → (n : ℕ) × IsValidUpTo bs n
valid_below bs zero l none = (0, record { short = l; front = IsUtf8-nil; longest = none })
valid_below bs (suc m) l none = elim (true_or_false (is_utf8 (take (suc m) bs))) [
  | inl h ↦ (suc m, record { short = l; front = IsUtf8-from_is_utf8 (take (suc m) bs) h; longest = none })
  | inr h ↦ valid_below bs m (omega arith) (not_one_front bs m h none)
]

not_whole : (bs : List ℕ) → is_utf8 bs ≡ false → (k : ℕ) → length bs ≤ k → IsUtf8 (take k bs) → ⊥
not_whole bs h k l u = let same : is_utf8 bs ≡ true = is_utf8-from_IsUtf8 bs (subst IsUtf8 (take_all k bs l) u) in cc (h, same)

pub utf8_or_not : (bs : List ℕ) → IsUtf8 bs ⊎ ((n : ℕ) × IsValidUpTo bs n)
utf8_or_not [] = inl IsUtf8-nil
utf8_or_not (b ∷ bs) = elim (true_or_false (is_utf8 (b ∷ bs))) [
  | inl h ↦ inl (IsUtf8-from_is_utf8 (b ∷ bs) h)
  | inr h ↦ inr (valid_below (b ∷ bs) (length bs) (omega arith) (λ k below u. not_whole (b ∷ bs) h k (omega arith) u))
]

-- separators, up to where none begins

pub record Separated (bs : List ℕ) : Type 0 where
  pub rest : List ℕ
  pub gap : SkipsTo bs rest
  pub within : length rest ≤ length bs
  pub solid : IsSolid rest

-- behind blanks there is no comment, or another text follows one
abbrev after_blanks : List ℕ → List ℕ
after_blanks bs = drop (prefix_len is_blank bs) bs

abbrev after_line : List ℕ → List ℕ
after_line bs = drop (prefix_len (λ b. not (b == 10)) bs) bs

behind_comment : (bs b : List ℕ) → SkipsTo bs b → length b ≤ length bs → bytes_eq (take 2 b) (codes "//") ≡ true → Separated (after_line (drop 2 b)) → Separated bs
behind_comment bs b g l h s =
    let inside = drop 2 b in
    let line : IsBehindLine inside (after_line inside) = behind_line inside (after_line inside) (prefix_len (λ x. not (x == 10)) inside) refl refl in
    let sizes : (length inside ≤ length b) × (length (after_line inside) ≤ length inside) =
    ((let e = length-drop 2 b in omega arith), (let e = length-drop (prefix_len (λ x. not (x == 10)) inside) inside in omega arith)) in
    let far = s.within in
    record {
      rest = s.rest;
      gap = SkipsTo-then bs b s.rest l g (SkipsTo-then b (after_line inside) s.rest (omega (arith, sizes.0, sizes.1)) (skips_comment b inside (after_line inside) (begins_comment b h) line) s.gap);
      within = omega (arith, sizes.0, sizes.1);
      solid = s.solid;
    }

shorter : (b : List ℕ) → bytes_eq (take 2 b) (codes "//") ≡ true → length (after_line (drop 2 b)) < length b
shorter b h =
    let inside = drop 2 b in
    let d = length-drop 2 b in
    let e = length-drop (prefix_len (λ x. not (x == 10)) inside) inside in
    let whole : length b ≡ length (47 ∷ 47 ∷ inside) = ap length (begins_comment b h) in
    omega arith

by_comment : (bs : List ℕ) → (bytes_eq (take 2 (after_blanks bs)) (codes "//") ≡ true → length (after_blanks bs) ≤ length bs → Separated (after_line (drop 2 (after_blanks bs)))) → Separated bs
by_comment bs more =
    let n = prefix_len is_blank bs in
    let gap : SkipsTo bs (after_blanks bs) = skips_blanks bs (after_blanks bs) n refl refl in
    let size : length (after_blanks bs) ≤ length bs = (let e = length-drop n bs in omega arith) in
    elim (true_or_false (bytes_eq (take 2 (after_blanks bs)) (codes "//"))) [
      | inl h ↦ behind_comment bs (after_blanks bs) gap size h (more h size)
      | inr h ↦ record { rest = after_blanks bs; gap = gap; within = size; solid = record { no_blank = no_blank_left bs (after_blanks bs) n refl refl; no_comment = h } }
    ]

separated : (most : ℕ) (bs : List ℕ) → length bs ≤ most → Separated bs
separated zero bs l = by_comment bs (λ h size. let less = shorter (after_blanks bs) h in absurd (omega arith))
separated (suc most) bs l = by_comment bs (λ h size. separated most (after_line (drop 2 (after_blanks bs))) (let less = shorter (after_blanks bs) h in omega arith))

-- the longest token at the front, if one begins there

pub record Front (bs : List ℕ) : Type 0 where
  pub text : List ℕ
  pub after : List ℕ
  pub whole : bs ≡ text ++ after
  pub token : is_token text ≡ true
  pub longest : IsLongest text after

longer : (text after : List ℕ) → is_token text ≡ true → Front (text ++ after)
longer text [] h = record { text = text; after = []; whole = refl; token = h; longest = tt }
longer text (b ∷ after) h = elim (true_or_false (is_token (text ++ b ∷ []))) [
  | inl more ↦ subst Front (append_assoc text (b ∷ []) after) (longer (text ++ b ∷ []) after more)
  | inr ends ↦ record { text = text; after = b ∷ after; whole = refl; token = h; longest = ends }
]

front_from : (n : ℕ) (bs : List ℕ) → is_token (take n bs) ≡ true → Front bs
front_from n bs h = subst Front (take-append-drop n bs) (longer (take n bs) (drop n bs) h)

front_or_none : (bs : List ℕ) → Front bs ⊎ BeginsNone bs
front_or_none bs = elim (true_or_false (is_token (take 1 bs))) [
  | inl one ↦ inl (front_from 1 bs one)
  | inr no_one ↦ elim (true_or_false (is_token (take 2 bs))) [
    | inl two ↦ inl (front_from 2 bs two)
    | inr no_two ↦ inr (record { no_token = no_one; no_longer_token = no_two })
  ]
]

some_text : (text : List ℕ) → is_token text ≡ true → 0 < length text
some_text [] h = cc h
some_text (b ∷ bs) h = omega arith

-- all tokens, or those before a byte that begins none

pub data Read (n : ℕ) (bs : List ℕ) : Type 0 where
  to_end : (ts : List Token) (m : ℕ) (rest : List ℕ) → Reads n bs ts m rest → Skips m rest (n + length bs) [] → Read n bs
  to_byte : (ts : List Token) (m : ℕ) (last : List ℕ) (at : ℕ) (rest : List ℕ) → Reads n bs ts m last → Skips m last at rest → IsStuck rest → Read n bs

after_token : (n at : ℕ) (bs rest : List ℕ) (f : Front rest) → Skips n bs at rest → n + length bs ≡ at + length rest → Read (at + length f.text) f.after → Read n bs
after_token n at bs rest f gap place (to_end ts m last r s) =
    let token : Token = record { text = f.text; at = at } in
    let size : length rest ≡ length f.text + length f.after = ap length f.whole ∙ length-append f.text f.after in
    let end : at + length f.text + length f.after ≡ n + length bs = omega arith in
    to_end (token ∷ ts) m last (f.after, subst (Skips n bs at) f.whole gap, f.token, f.longest, r) (subst (λ i. Skips m last i []) end s)
after_token n at bs rest f gap place (to_byte ts m last k stuck r s x) =
    let token : Token = record { text = f.text; at = at } in
    to_byte (token ∷ ts) m last k stuck (f.after, subst (Skips n bs at) f.whole gap, f.token, f.longest, r) s x

-- behind the separators
next : (n : ℕ) (bs rest : List ℕ) → SkipsTo bs rest → length rest ≤ length bs → IsSolid rest → ((f : Front rest) (at : ℕ) → Read (at + length f.text) f.after) → Read n bs
next n bs [] gap l solid more = to_end [] n bs (refl, refl) (gap.leads n (n + length bs) (omega arith))
next n bs (b ∷ rest) gap l solid more =
    let at = n + (length bs - length (b ∷ rest)) in
    let place : n + length bs ≡ at + length (b ∷ rest) = omega arith in
    let here : Skips n bs at (b ∷ rest) = gap.leads n at place in
    elim (front_or_none (b ∷ rest)) [
      | inl f ↦ after_token n at bs (b ∷ rest) f here place (more f at)
      | inr none ↦ to_byte [] n bs at (b ∷ rest) (refl, refl) here
          (record { some = omega arith; no_token = none.no_token; no_longer_token = none.no_longer_token; no_comment = solid.no_comment; no_blank = solid.no_blank })
    ]

smaller : (rest : List ℕ) (f : Front rest) → length f.after < length rest
smaller rest f =
    let size : length rest ≡ length f.text + length f.after = ap length f.whole ∙ length-append f.text f.after in
    let some = some_text f.text f.token in
    omega arith

read_within : (most n : ℕ) (bs : List ℕ) → length bs ≤ most → Read n bs
read_within zero n bs l =
    let s = separated (length bs) bs (omega arith) in
    let w = s.within in
    next n bs s.rest s.gap w s.solid (λ f at. let less = smaller s.rest f in absurd (omega arith))
read_within (suc most) n bs l =
    let s = separated (length bs) bs (omega arith) in
    let w = s.within in
    next n bs s.rest s.gap w s.solid (λ f at. read_within most (at + length f.text) f.after (let less = smaller s.rest f in omega arith))

tokens_from : (bs : List ℕ) → Read 0 bs → (ts : List Token) × (stuck : Option ℕ) × AreTokens bs ts stuck
tokens_from bs (to_end ts m rest r s) = let e : 0 + length bs ≡ length bs = omega arith in (ts, None, (m, rest, r, subst (λ i. Skips m rest i []) e s))
tokens_from bs (to_byte ts m last at rest r s x) = (ts, Some at, (m, last, rest, r, s, x))

pub some_tokens : (bs : List ℕ) → (ts : List Token) × (stuck : Option ℕ) × AreTokens bs ts stuck
some_tokens bs = tokens_from bs (read_within (length bs) 0 bs (omega arith))
