-- One thing comes next in a text, behind separators: a token, a byte that begins none, or the end.
use Rattle.std.proofs.Common.{◌≡◌, sym, ap, ◌∙◌, ◌++◌, [], arith}
use Rattle.std.specs.Prelude.{ℕ, ◌+◌, List, IsTrue, length, take}
use Rattle.argos_tokens.specs.Tokens.{Token, is_token, IsStuck, IsLongest, Skips}
use Rattle.argos_tokens.specs.Lexing.{IsSolid}
use Rattle.argos_tokens.proofs.TokensOnce.{SameEnd, one_end, same_token, compared, solid, solid_end, no_empty_token, same_parts, token_begins}

-- From place n, where bs stands, this is the next token, and this stands behind it.
abbrev pub IsNext : ℕ → List ℕ → Token → List ℕ → Type 0
IsNext n bs t after = Skips n bs t.at (t.text ++ after) × IsTrue (is_token t.text) × IsLongest t.text after

pub record SameToken (t u : Token) (after after' : List ℕ) : Type 0 where
  pub token : t ≡ u
  pub behind : after ≡ after'
  pub next : t.at + length t.text ≡ u.at + length u.text

-- two tokens that come next are one, and the same stands behind both
pub same_next : (t u : Token) (n n' : ℕ) (bs bs' after after' : List ℕ) → n ≡ n' → bs ≡ bs' → IsNext n bs t after → IsNext n' bs' u after' → SameToken t u after after'
same_next t u n n' bs bs' after after' p q (gap, token, long) (gap', token', long') =
    let ends : SameEnd t.at (t.text ++ after) u.at (u.text ++ after') = one_end gap n' bs' p q gap' (solid t.text after token) (solid u.text after' token') in
    let whole = same_token t.text after u.text after' token token' long long' (compared t.text after u.text after' ends.bytes) in
    let first : t ≡ u = same_parts t u whole.0 ends.place in
    record { token = first; behind = whole.1; next = ap (λ x. x.at + length x.text) first }

stuck_is_solid : (bs : List ℕ) → IsStuck bs → IsSolid bs
stuck_is_solid bs x = record { no_blank = x.no_blank; no_comment = x.no_comment }

-- no token comes next where a byte does that begins none, nor at the end
pub no_token_where_stuck : (t : Token) (n n' k : ℕ) (bs bs' stuck after : List ℕ) → n ≡ n' → bs ≡ bs' → Skips n bs k stuck → IsStuck stuck → IsNext n' bs' t after → ⊥
no_token_where_stuck t n n' k bs bs' stuck after p q s x (gap, token, long) =
    let ends : SameEnd k stuck t.at (t.text ++ after) = one_end s n' bs' p q gap (stuck_is_solid stuck x) (solid t.text after token) in
    token_begins t.text after token (ap (λ b. is_token (take 1 b)) (sym ends.bytes) ∙ x.no_token) (ap (λ b. is_token (take 2 b)) (sym ends.bytes) ∙ x.no_longer_token)

pub no_token_at_end : (t : Token) (n n' k : ℕ) (bs bs' after : List ℕ) → n ≡ n' → bs ≡ bs' → Skips n bs k [] → IsNext n' bs' t after → ⊥
no_token_at_end t n n' k bs bs' after p q s (gap, token, long) = no_empty_token t.text after token (one_end s n' bs' p q gap solid_end (solid t.text after token)).bytes

-- a byte that begins no token isn't the end, and comes at one place
pub not_stuck_at_end : (n n' k k' : ℕ) (bs bs' stuck : List ℕ) → n ≡ n' → bs ≡ bs' → Skips n bs k [] → Skips n' bs' k' stuck → IsStuck stuck → ⊥
not_stuck_at_end n n' k k' bs bs' stuck p q s s' x = let ends = one_end s n' bs' p q s' solid_end (stuck_is_solid stuck x) in omega (arith, ap length ends.bytes, x.some)

pub stuck_once : (n n' k k' : ℕ) (bs bs' stuck stuck' : List ℕ) → n ≡ n' → bs ≡ bs' → Skips n bs k stuck → IsStuck stuck → Skips n' bs' k' stuck' → IsStuck stuck' → k ≡ k'
stuck_once n n' k k' bs bs' stuck stuck' p q s x s' x' = (one_end s n' bs' p q s' (stuck_is_solid stuck x) (stuck_is_solid stuck' x')).place
