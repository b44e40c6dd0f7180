-- A text has at most one list of tokens.
use Rattle.std.proofs.Common.{◌≡◌, refl, sym, ap, ◌∙◌, ◌∷◌, ◌++◌, [], subst, Some, arith}
use Rattle.std.specs.Prelude.{codes, ℕ, ◌+◌, List, Bool, true, false, ◌&&◌, ◌||◌, ◌==◌, bytes_eq, eqb, take, length}
use Rattle.std.specs.List.{AllByRecursion, list_all}
use Rattle.std.proofs.lemmas.Bool.{eqb-true}
use Rattle.std.specs.Char.{is_ascii_digit}
use Rattle.argos_base.specs.Spelling.{is_letter, is_word, is_digits, is_one_of}
use Rattle.argos_base.proofs.Bools.{and_first, and_second, and_both, or_neither, or_first_false, or_second_false}
use Rattle.argos_tokens.specs.TokenViews.{AreTokens}
use Rattle.argos_tokens.proofs.Fronts.{second_fails}
use Rattle.argos_tokens.specs.Tokens.{Token, is_token, symbols, IsStuck, IsLongest, Skips, here, blank, comment, is_blank, begins_blank, IsAtLineEnd, Reads, IsTokens}
use Rattle.argos_tokens.specs.Lexing.{IsSolid}
use Rattle.argos_tokens.proofs.Longest.{longest, either_false, left_true, is_true_or_false}

-- one of two fronts of a list is the other, or goes on
pub data Compared (xs us ys bs : List ℕ) : Type 0 where
  same : xs ≡ ys → us ≡ bs → Compared xs us ys bs
  second_longer : (b : ℕ) (more : List ℕ) → ys ≡ xs ++ b ∷ more → us ≡ b ∷ more ++ bs → Compared xs us ys bs
  first_longer : (a : ℕ) (more : List ℕ) → xs ≡ ys ++ a ∷ more → bs ≡ a ∷ more ++ us → Compared xs us ys bs

longer : (x : ℕ) {xs us ys bs : List ℕ} (y : ℕ) → x ≡ y → Compared xs us ys bs → Compared (x ∷ xs) us (y ∷ ys) bs
longer x y e (same p q) = same (cc (e, p)) q
longer x y e (second_longer b more p q) = second_longer b more (cc (e, p)) q
longer x y e (first_longer a more p q) = first_longer a more (cc (e, p)) q

pub compared : (xs us ys bs : List ℕ) → xs ++ us ≡ ys ++ bs → Compared xs us ys bs
compared [] us [] bs h = same refl h
compared [] us (y ∷ ys) bs h = second_longer y ys refl h
compared (x ∷ xs) us [] bs h = first_longer x xs refl (sym h)
compared (x ∷ xs) us (y ∷ ys) bs h = longer x y (cc h) (compared xs us ys bs (cc h))

-- a longest token isn't the front of another
no_longer : (t after more rest : List ℕ) (b : ℕ) → is_token t ≡ true → IsLongest t after → after ≡ b ∷ more ++ rest → is_token (t ++ b ∷ more) ≡ true → ⊥
no_longer t after more rest b token most e token' =
    let short : IsLongest t (b ∷ more ++ rest) = subst (IsLongest t) e most in
    cc (longest t b more token short, token')

pub same_token : (t after u after' : List ℕ) → is_token t ≡ true → is_token u ≡ true → IsLongest t after → IsLongest u after' → Compared t after u after' → (t ≡ u) × (after ≡ after')
same_token t after u after' ht hu lt lu (same p q) = (p, q)
same_token t after u after' ht hu lt lu (second_longer b more p q) = absurd (no_longer t after more after' b ht lt q (sym (ap is_token p) ∙ hu))
same_token t after u after' ht hu lt lu (first_longer a more p q) = absurd (no_longer u after' more after a hu lu q (sym (ap is_token p) ∙ ht))

-- the insides of two comments that begin alike are the same
insides : (i a j b : List ℕ) → AllByRecursion (λ c. (c == 10) ≡ false) i → AllByRecursion (λ c. (c == 10) ≡ false) j → IsAtLineEnd a → IsAtLineEnd b
    → i ++ a ≡ j ++ b → (i ≡ j) × (a ≡ b)
insides [] a [] b hi hj ha hb h = (refl, h)
insides [] a (c ∷ js) b hi hj ha hb h = let e : IsAtLineEnd (c ∷ js ++ b) = subst IsAtLineEnd h ha in absurd (cc (hj.0, ap (λ x. x == 10) e))
insides (c ∷ is) a [] b hi hj ha hb h = let e : IsAtLineEnd (c ∷ is ++ a) = subst IsAtLineEnd (sym h) hb in absurd (cc (hi.0, ap (λ x. x == 10) e))
insides (c ∷ is) a (d ∷ js) b hi hj ha hb h = let r = insides is a js b hi.1 hj.1 ha hb (cc h) in let e : c ≡ d = cc h in (cc (e, r.0), r.1)

pub record SameEnd (m : ℕ) (rest : List ℕ) (m' : ℕ) (rest' : List ℕ) : Type 0 where
  pub place : m ≡ m'
  pub bytes : rest ≡ rest'

-- where a separator begins, a solid rest doesn't stand
comment_is_no_start : (bs i a : List ℕ) → bs ≡ codes "//" ++ i ++ a → IsSolid bs → ⊥
comment_is_no_start bs i a e s = cc (s.no_comment, ap (λ x. bytes_eq (take 2 x) (codes "//")) e)

comment_is_no_blank : (b : ℕ) (bs i a : List ℕ) → b ∷ bs ≡ codes "//" ++ i ++ a → is_blank b ≡ true → ⊥
comment_is_no_blank b bs i a e h = let f : b ≡ 47 = cc e in cc (h, ap is_blank f)

-- separators lead to one place
pub one_end : {n : ℕ} {bs : List ℕ} {m : ℕ} {rest : List ℕ} → Skips n bs m rest → (n' : ℕ) (bs' : List ℕ) → n ≡ n' → bs ≡ bs' → {m' : ℕ} {rest' : List ℕ} → Skips n' bs' m' rest' → IsSolid rest → IsSolid rest' → SameEnd m rest m' rest'
one_end here n' bs' p q here s s' = record { place = p; bytes = q }
one_end here n' bs' p q (blank h more) s s' = absurd (cc (h, s.no_blank, ap begins_blank q))
one_end here n' bs' p q (comment i a e l z more) s s' = absurd (comment_is_no_start _ i a (q ∙ e) s)
one_end (blank h more) n' bs' p q here s s' = absurd (cc (h, s'.no_blank, ap begins_blank q))
one_end (blank h more) n' bs' p q (blank h' more') s s' = one_end more _ _ (ap (λ k. k + 1) p) (cc q) more' s s'
one_end (blank h more) n' bs' p q (comment i a e l z more') s s' = absurd (comment_is_no_blank _ _ i a (q ∙ e) h)
one_end (comment i a e l z more) n' bs' p q here s s' = absurd (comment_is_no_start _ i a (sym q ∙ e) s')
one_end (comment i a e l z more) n' bs' p q (blank h more') s s' = absurd (comment_is_no_blank _ _ i a (sym q ∙ e) h)
one_end (comment i a e l z more) n' bs' p q (comment j b e' l' z' more') s s' =
    let both : i ++ a ≡ j ++ b = cc (sym e ∙ q ∙ e') in
    let r = insides i a j b l l' z z' both in
    one_end more _ _ (cc (p, r.0)) r.1 more' s s'

-- no token begins with a blank or with a slash
begins_with : (c : ℕ) (xs : List ℕ) (s : ℕ) → is_token (s ∷ xs) ≡ false → is_token (c ∷ xs) ≡ true → eqb c s ≡ true → ⊥
begins_with c xs s f t h = cc (t, ap (λ x. is_token (x ∷ xs)) (eqb-true c s h), f)

no_blank_token : (c : ℕ) (xs : List ℕ) → is_token (c ∷ xs) ≡ true → is_blank c ≡ true → ⊥
no_blank_token c xs t = either_false ((eqb c 32 || eqb c 9) || eqb c 13) (eqb c 10)
    (either_false (eqb c 32 || eqb c 9) (eqb c 13) (either_false (eqb c 32) (eqb c 9) (begins_with c xs 32 refl t) (begins_with c xs 9 refl t)) (begins_with c xs 13 refl t))
    (begins_with c xs 10 refl t)

pub solid : (t after : List ℕ) → is_token t ≡ true → IsSolid (t ++ after)
solid [] after t = cc t
solid (c ∷ xs) after t = record {
  no_blank = is_true_or_false (is_blank c) (no_blank_token c xs t);
  no_comment = is_true_or_false (bytes_eq (take 2 (c ∷ xs ++ after)) (codes "//")) (λ h. begins_with c xs 47 refl t (left_true (eqb c 47) _ h));
}

pub solid_end : IsSolid []
solid_end = record { no_blank = refl; no_comment = refl }

pub no_empty_token : (t after : List ℕ) → is_token t ≡ true → [] ≡ t ++ after → ⊥
no_empty_token [] after t h = cc t
no_empty_token (c ∷ xs) after t h = cc h

pub same_parts : (t u : Token) → t.text ≡ u.text → t.at ≡ u.at → t ≡ u
same_parts t u p q = ap (λ x. let m : Token = record { text = x; at = t.at } in m) p ∙ ap (λ k. let m : Token = record { text = u.text; at = k } in m) q

same_list : (t u : Token) (ts us : List Token) → t ≡ u → ts ≡ us → t ∷ ts ≡ u ∷ us
same_list t u ts us p q = ap (λ x. x ∷ ts) p ∙ ap (λ xs. u ∷ xs) q

reads_once : (ts us : List Token) (n n' : ℕ) (bs bs' : List ℕ) (m m' k k' : ℕ) (rest rest' : List ℕ) → n ≡ n' → bs ≡ bs'
    → Reads n bs ts m rest → Skips m rest k [] → Reads n' bs' us m' rest' → Skips m' rest' k' [] → ts ≡ us
reads_once [] [] n n' bs bs' m m' k k' rest rest' p q r s r' s' = refl
reads_once [] (u ∷ us) n n' bs bs' m m' k k' rest rest' p q (e, f) s (after, gap, token, long, more) s' =
    absurd (no_empty_token u.text after token (one_end s n' bs' (sym e ∙ p) (sym f ∙ q) gap solid_end (solid u.text after token)).bytes)
reads_once (t ∷ ts) [] n n' bs bs' m m' k k' rest rest' p q (after, gap, token, long, more) s (e, f) s' =
    absurd (no_empty_token t.text after token (one_end s' n bs (sym e ∙ sym p) (sym f ∙ sym q) gap solid_end (solid t.text after token)).bytes)
reads_once (t ∷ ts) (u ∷ us) n n' bs bs' m m' k k' rest rest' p q (after, gap, token, long, more) s (after', gap', token', long', more') s' =
    let ends : SameEnd t.at (t.text ++ after) u.at (u.text ++ after') = one_end gap n' bs' p q gap' (solid t.text after token) (solid u.text after' token') in
    let whole = same_token t.text after u.text after' token token' long long' (compared t.text after u.text after' ends.bytes) in
    let at : t.at ≡ u.at = ends.place in
    let texts : t.text ≡ u.text = whole.0 in
    let first : t ≡ u = same_parts t u texts at in
    let next : t.at + length t.text ≡ u.at + length u.text = ap (λ x. x.at + length x.text) first in
    let others : ts ≡ us = reads_once ts us _ _ after after' m m' k k' rest rest' next whole.1 more s more' s' in
    same_list t u ts us first others

-- a text has at most one list of tokens
pub tokens_once : (bs : List ℕ) (ts us : List Token) → IsTokens bs ts → IsTokens bs us → ts ≡ us
tokens_once bs ts us (m, rest, r, s) (m', rest', r', s') = reads_once ts us 0 0 bs bs m m' (length bs) (length bs) rest rest' refl refl r s r' s'

-- two bytes at most
abbrev is_brief : List ℕ → Bool
is_brief [] = true
is_brief (a ∷ []) = true
is_brief (a ∷ b ∷ []) = true
is_brief (a ∷ b ∷ c ∷ bs) = false

not_brief : (a b c : ℕ) (more s : List ℕ) → is_brief s ≡ true → bytes_eq (a ∷ b ∷ c ∷ more) s ≡ false
not_brief a b c more [] h = refl
not_brief a b c more (x ∷ []) h = second_fails (eqb a x) false refl
not_brief a b c more (x ∷ y ∷ []) h = second_fails (eqb a x) _ (second_fails (eqb b y) false refl)
not_brief a b c more (x ∷ y ∷ z ∷ s) h = cc

no_brief_text : (a b c : ℕ) (more : List ℕ) (texts : List (List ℕ)) → list_all is_brief texts ≡ true → is_one_of texts (a ∷ b ∷ c ∷ more) ≡ false
no_brief_text a b c more [] h = refl
no_brief_text a b c more (s ∷ texts) h = or_neither _ _ (not_brief a b c more s (and_first (is_brief s) _ h)) (no_brief_text a b c more texts (and_second (is_brief s) _ h))

-- where a token begins, its first byte or its first two are one
pub token_begins : (t after : List ℕ) → is_token t ≡ true → is_token (take 1 (t ++ after)) ≡ false → is_token (take 2 (t ++ after)) ≡ false → ⊥
token_begins [] after h one two = cc h
token_begins (a ∷ []) after h one two = cc (h, one)
token_begins (a ∷ b ∷ []) after h one two = cc (h, two)
token_begins (a ∷ b ∷ c ∷ more) after h one two =
    let whole = a ∷ b ∷ c ∷ more in
    let neither : (is_word (a ∷ []) || is_digits (a ∷ [])) ≡ false = or_first_false (is_word (a ∷ []) || is_digits (a ∷ [])) (is_one_of symbols (a ∷ [])) one in
    let no_letter : (is_letter a && true) ≡ false = or_first_false (is_word (a ∷ [])) (is_digits (a ∷ [])) neither in
    let no_digit : (is_ascii_digit a && true) ≡ false = or_second_false (is_word (a ∷ [])) (is_digits (a ∷ [])) neither in
    either_false (is_word whole || is_digits whole) (is_one_of symbols whole)
    (either_false (is_word whole) (is_digits whole)
    (λ k. cc (no_letter, and_both (is_letter a) true (and_first (is_letter a) _ k) refl))
    (λ k. cc (no_digit, and_both (is_ascii_digit a) true (and_first (is_ascii_digit a) _ k) refl)))
    (λ k. cc (k, no_brief_text a b c more symbols refl)) h

stuck_reads : (us ts : List Token) (n n' : ℕ) (bs bs' : List ℕ) (m m' k k' : ℕ) (rest rest' stuck : List ℕ) → n ≡ n' → bs ≡ bs'
    → Reads n bs us m rest → Skips m rest k stuck → IsStuck stuck → Reads n' bs' ts m' rest' → Skips m' rest' k' [] → ⊥
stuck_reads [] [] n n' bs bs' m m' k k' rest rest' stuck p q (e, f) s x (e', f') s' =
    let ends = one_end s m' rest' (sym e ∙ p ∙ e') (sym f ∙ q ∙ f') s' (record { no_blank = x.no_blank; no_comment = x.no_comment }) solid_end in
    omega (arith, ap length ends.bytes, x.some)
stuck_reads [] (t ∷ ts) n n' bs bs' m m' k k' rest rest' stuck p q (e, f) s x (after, gap, token, long, more) s' =
    let ends = one_end s n' bs' (sym e ∙ p) (sym f ∙ q) gap (record { no_blank = x.no_blank; no_comment = x.no_comment }) (solid t.text after token) in
    token_begins t.text after token (ap (λ b. is_token (take 1 b)) (sym ends.bytes) ∙ x.no_token) (ap (λ b. is_token (take 2 b)) (sym ends.bytes) ∙ x.no_longer_token)
stuck_reads (u ∷ us) [] n n' bs bs' m m' k k' rest rest' stuck p q (after, gap, token, long, more) s x (e, f) s' =
    no_empty_token u.text after token (one_end s' n bs (sym e ∙ sym p) (sym f ∙ sym q) gap solid_end (solid u.text after token)).bytes
stuck_reads (t ∷ ts) (u ∷ us) n n' bs bs' m m' k k' rest rest' stuck p q (after, gap, token, long, more) s x (after', gap', token', long', more') s' =
    let ends : SameEnd t.at (t.text ++ after) u.at (u.text ++ after') = one_end gap n' bs' p q gap' (solid t.text after token) (solid u.text after' token') in
    let whole = same_token t.text after u.text after' token token' long long' (compared t.text after u.text after' ends.bytes) in
    let first : t ≡ u = same_parts t u whole.0 ends.place in
    let next : t.at + length t.text ≡ u.at + length u.text = ap (λ y. y.at + length y.text) first in
    stuck_reads ts us _ _ after after' m m' k k' rest rest' stuck next whole.1 more s x more' s'

-- a text with a byte that begins no token has no tokens
pub no_tokens_where_stuck : (bs : List ℕ) (us ts : List Token) (at : ℕ) → AreTokens bs us (Some at) → IsTokens bs ts → ⊥
no_tokens_where_stuck bs us ts at (n, last, rest, r, s, x) (m, rest', r', s') = stuck_reads us ts 0 0 bs bs n m at (length bs) last rest' rest refl refl r s x r' s'
