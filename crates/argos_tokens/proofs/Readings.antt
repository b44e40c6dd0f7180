-- Reading on behind tokens that are read.
use Rattle.std.proofs.Common.{◌≡◌, ℕ, ◌+◌, ◌-◌, ◌<◌, ◌≤◌, List, [], ◌∷◌, ◌++◌, Some, length, take, drop, refl, sym, ap, ◌∙◌, subst, arith}
use Rattle.std.proofs.lemmas.List.{take-append-drop, length-take-le, length-drop, map_push}
use Rattle.std.proofs.lemmas.Grind.{common_steps}
use Rattle.argos_tokens.specs.declared.token.Token as code
use Rattle.argos_tokens.specs.Tokens.{Token, Reads, Skips, IsTokens}
use Rattle.argos_tokens.specs.TokenViews.{token_of, tokens_of, AreTokens}
use Rattle.argos_tokens.specs.Lexing.{SkipsTo, IsSolid, IsFront, BeginsNone}

-- These tokens are read from the start of the text, and separators lead from behind them to the rest.
pub record HasRead (bs : List ℕ) (ts : List Token) (rest : List ℕ) : Type 0 where
  pub at : ℕ
  pub last : List ℕ
  pub read : Reads 0 bs ts at last
  pub place : at + length last ≡ length bs
  pub gap : SkipsTo last rest
  pub within : length rest ≤ length last

-- tokens and then tokens
pub Reads-append : (ts us : List Token) (n m k : ℕ) (bs mid rest : List ℕ) → Reads n bs ts m mid → Reads m mid us k rest → Reads n bs (ts ++ us) k rest
Reads-append [] us n m k bs mid rest (e, f) r =
    let P : ℕ → Type 0 = λ i. Reads i bs us k rest in
    let Q : List ℕ → Type 0 = λ x. Reads m x us k rest in
    subst P (sym e) (subst Q (sym f) r)
Reads-append (t ∷ ts) us n m k bs mid rest (after, gap, token, longest, more) r =
    (after, gap, token, longest, Reads-append ts us _ m k after mid rest more r)

pub HasRead-none : (bs rest : List ℕ) → SkipsTo bs rest → length rest ≤ length bs → HasRead bs [] rest
HasRead-none bs rest s l = record { at = 0; last = bs; read = (refl, refl); place = omega arith; gap = s; within = l }

-- the token at the front of the rest
pub next_token : List ℕ → List ℕ → ℕ → Token
next_token bs rest n = record { text = take n rest; at = length bs - length rest }

reads_next : (bs last rest : List ℕ) (at n : ℕ) → at + length last ≡ length bs → length rest ≤ length last → SkipsTo last rest → IsFront n rest
    → Reads at last (next_token bs rest n ∷ []) (length bs - length rest + n) (drop n rest)
unfolding next_token
reads_next bs last rest at n e l s f =
    let gap : Skips at last (length bs - length rest) rest = s.leads at (length bs - length rest) (omega arith) in
    let P : List ℕ → Type 0 = Skips at last (length bs - length rest) in
    (drop n rest, subst P (sym (take-append-drop n rest)) gap, f.token, f.longest, (ap (λ k. length bs - length rest + k) (length-take-le n rest f.within), refl))

pub HasRead-next : (bs : List ℕ) (ts : List Token) (rest rest' : List ℕ) (n : ℕ) → HasRead bs ts rest → IsFront n rest → SkipsTo (drop n rest) rest' → length rest' ≤ length (drop n rest)
    → HasRead bs (ts ++ next_token bs rest n ∷ []) rest'
HasRead-next bs ts rest rest' n h f s l = record {
  at = length bs - length rest + n;
  last = drop n rest;
  read = Reads-append ts (next_token bs rest n ∷ []) 0 h.at _ bs h.last _ h.read (reads_next bs h.last rest h.at n h.place h.within h.gap f);
  place = omega (arith, length-drop n rest, h.place, h.within, f.within);
  gap = s;
  within = l;
}

next_is : (bs rest : List ℕ) (n : ℕ) (t : code.Token) → t.text.now ≡ take n rest → t.at ≡ length bs - length rest → next_token bs rest n ≡ token_of t
unfolding next_token
next_is bs rest n t e f =
    sym (ap (λ x. let m : Token = record { text = x; at = t.at } in m) e ∙ ap (λ k. let m : Token = record { text = take n rest; at = k } in m) f)

pub HasRead-push : (bs : List ℕ) (ts : List code.Token) (t : code.Token) (rest after rest' : List ℕ) (n : ℕ) → HasRead bs (tokens_of ts) rest → IsFront n rest
    → t.text.now ≡ take n rest → t.at ≡ length bs - length rest → after ≡ drop n rest → SkipsTo after rest' → length rest' ≤ length after
    → HasRead bs (tokens_of (ts ++ t ∷ [])) rest'
HasRead-push bs ts t rest after rest' n h f e k a s l =
    let P : List Token → Type 0 = λ us. HasRead bs us rest' in
    let Q : List ℕ → Type 0 = λ x. SkipsTo x rest' in
    let s' : SkipsTo (drop n rest) rest' = subst Q a s in
    let l' : length rest' ≤ length (drop n rest) = omega (arith, ap length a) in
    let same : tokens_of ts ++ next_token bs rest n ∷ [] ≡ tokens_of (ts ++ t ∷ []) = ap (λ u. tokens_of ts ++ u ∷ []) (next_is bs rest n t e k) ∙ sym (map_push token_of ts t) in
    subst P same (HasRead-next bs (tokens_of ts) rest rest' n h f s' l')

pub all_read : (bs : List ℕ) (ts : List Token) (rest : List ℕ) → HasRead bs ts rest → length rest ≡ 0 → IsTokens bs ts
all_read bs ts [] h e = (h.at, h.last, h.read, h.gap.leads h.at (length bs) (omega (arith, h.place)))
all_read bs ts (b ∷ rest) h e = absurd (omega arith)

pub stuck_read : (bs : List ℕ) (ts : List Token) (rest : List ℕ) (at : ℕ) → HasRead bs ts rest → at ≡ length bs - length rest → 0 < length rest → IsSolid rest → BeginsNone rest → AreTokens bs ts (Some at)
stuck_read bs ts rest at h e l s b =
    (h.at, h.last, rest, h.read, h.gap.leads h.at at (omega (arith, h.place, h.within)), record { some = l; no_token = b.no_token; no_longer_token = b.no_longer_token; no_comment = s.no_comment; no_blank = s.no_blank })

pub ruleset readings = (common_steps, HasRead-none, HasRead-push, all_read, stuck_read)
