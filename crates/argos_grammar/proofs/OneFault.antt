-- A text has at most one first fault, and none where it has a tree.
use Rattle.std.proofs.Common.{◌≡◌, ℕ, List, [], ◌∷◌, length, refl, sym, ap, ◌∙◌, true, false, Option, Some, None, arith}
use Rattle.std.specs.Prelude.{Result, Ok, Err, IsUtf8}
use Rattle.std.specs.Str.{IsValidUpTo}
use Rattle.std.proofs.lemmas.Str.{utf8_valid_len-IsUtf8, utf8_valid_len-IsValidUpTo}
use Rattle.argos_tokens.specs.Tokens.{Token, Reads, Skips, IsTokens, IsStuck}
use Rattle.argos_tokens.proofs.ReadsAlike.{IsNext, SameToken, same_next, no_token_where_stuck, no_token_at_end, not_stuck_at_end, stuck_once}
use Rattle.argos_grammar.specs.Forms.{ProgramForm, AspectForm, CertForm}
use Rattle.argos_grammar.specs.Text.{IsText, IsAspectText, IsCertText}
use Rattle.argos_grammar.specs.DueSymbols.{Rule, rule, program, aspect, cert, may_end}
use Rattle.argos_grammar.specs.Faults.{Kind, NotUtf8, Byte, End, Standing, judge, at_start, Passes, FirstFault, not_utf8, no_token, wrong, ended as early}
use Rattle.argos_grammar.specs.Runs.{Outcome, ended, stopped, outcome}
use Rattle.argos_grammar.proofs.Outcomes.{ends_at}
use Rattle.argos_grammar.proofs.AcceptsPrograms.{accepts_program}
use Rattle.argos_grammar.proofs.AcceptsAspects.{accepts_aspect}
use Rattle.argos_grammar.proofs.AcceptsCertificates.{accepts_cert}

-- What comes next ends all: a byte that begins no token, a token of which a row of faults holds, or the end of the text.
pub data Halts (s : Standing) (n : ℕ) (bs : List ℕ) (o : Outcome) : Type 0 where
  at_stuck : (m : ℕ) (stuck : List ℕ) → Skips n bs m stuck → IsStuck stuck → o ≡ stopped m Byte → Halts s n bs o
  at_token : (t : Token) (after : List ℕ) (k : Kind) → IsNext n bs t after → judge s t.text ≡ Err k → o ≡ stopped t.at k → Halts s n bs o
  at_end : (m : ℕ) → Skips n bs m [] → o ≡ ended (may_end s.due) → Halts s n bs o

same_stop : (at at' : ℕ) (k k' : Kind) → at ≡ at' → k ≡ k' → stopped at k ≡ stopped at' k'
same_stop at at' k k' p q = cc (p, q)

-- one token is judged alike from one standing
judged_alike : (s s' : Standing) (t u : Token) (x y : Result Standing Kind) → s ≡ s' → t ≡ u → judge s t.text ≡ x → judge s' u.text ≡ y → x ≡ y
judged_alike s s' t u x y p q h h' = sym h ∙ ap (λ a. judge a t.text) p ∙ ap (λ a. judge s' a.text) q ∙ h'

same_kind : (s s' : Standing) (t u : Token) (k k' : Kind) → s ≡ s' → t ≡ u → judge s t.text ≡ Err k → judge s' u.text ≡ Err k' → k ≡ k'
same_kind s s' t u k k' p q h h' = cc (judged_alike s s' t u (Err k) (Err k') p q h h')

not_both : (s s' next : Standing) (t u : Token) (k : Kind) → s ≡ s' → t ≡ u → judge s t.text ≡ Err k → judge s' u.text ≡ Ok next → ⊥
not_both s s' next t u k p q h h' = cc (judged_alike s s' t u (Err k) (Ok next) p q h h')

same_standing : (s s' next next' : Standing) (t u : Token) → s ≡ s' → t ≡ u → judge s t.text ≡ Ok next → judge s' u.text ≡ Ok next' → next ≡ next'
same_standing s s' next next' t u p q h h' = cc (judged_alike s s' t u (Ok next) (Ok next') p q h h')

-- one thing comes of one place
one_halt : (s s' : Standing) (n n' : ℕ) (bs bs' : List ℕ) (o o' : Outcome) → s ≡ s' → n ≡ n' → bs ≡ bs' → Halts s n bs o → Halts s' n' bs' o' → o ≡ o'
one_halt s s' n n' bs bs' o o' r p q (at_stuck m stuck gap x e) (at_stuck m' stuck' gap' x' e') =
    e ∙ same_stop m m' Byte Byte (stuck_once n n' m m' bs bs' stuck stuck' p q gap x gap' x') refl ∙ sym e'
one_halt s s' n n' bs bs' o o' r p q (at_stuck m stuck gap x e) (at_token u after k next h e') = absurd (no_token_where_stuck u n n' m bs bs' stuck after p q gap x next)
one_halt s s' n n' bs bs' o o' r p q (at_stuck m stuck gap x e) (at_end m' gap' e') = absurd (not_stuck_at_end n' n m' m bs' bs stuck (sym p) (sym q) gap' gap x)
one_halt s s' n n' bs bs' o o' r p q (at_token t after k next h e) (at_stuck m stuck gap x e') = absurd (no_token_where_stuck t n' n m bs' bs stuck after (sym p) (sym q) gap x next)
one_halt s s' n n' bs bs' o o' r p q (at_token t after k next h e) (at_token u after' k' next' h' e') =
    let same : SameToken t u after after' = same_next t u n n' bs bs' after after' p q next next' in
    let kinds : k ≡ k' = same_kind s s' t u k k' r same.token h h' in
    e ∙ same_stop t.at u.at k k' (ap (λ x. x.at) same.token) kinds ∙ sym e'
one_halt s s' n n' bs bs' o o' r p q (at_token t after k next h e) (at_end m gap e') = absurd (no_token_at_end t n' n m bs' bs after (sym p) (sym q) gap next)
one_halt s s' n n' bs bs' o o' r p q (at_end m gap e) (at_stuck m' stuck gap' x e') = absurd (not_stuck_at_end n n' m m' bs bs' stuck p q gap gap' x)
one_halt s s' n n' bs bs' o o' r p q (at_end m gap e) (at_token u after k next h e') = absurd (no_token_at_end u n n' m bs bs' after p q gap next)
one_halt s s' n n' bs bs' o o' r p q (at_end m gap e) (at_end m' gap' e') = e ∙ ap (λ x. ended (may_end x.due)) r ∙ sym e'

-- and no token passes there
no_pass : (s s' next : Standing) (n n' : ℕ) (bs bs' after : List ℕ) (o : Outcome) (t : Token) → s ≡ s' → n ≡ n' → bs ≡ bs' → Halts s n bs o → IsNext n' bs' t after → judge s' t.text ≡ Ok next → ⊥
no_pass s s' next n n' bs bs' after o t r p q (at_stuck m stuck gap x e) front h = no_token_where_stuck t n n' m bs bs' stuck after p q gap x front
no_pass s s' next n n' bs bs' after o t r p q (at_token u behind k front h e) front' h' =
    not_both s s' next u t k r (same_next u t n n' bs bs' behind after p q front front').token h h'
no_pass s s' next n n' bs bs' after o t r p q (at_end m gap e) front h = no_token_at_end t n n' m bs bs' after p q gap front

-- so the tokens before it are the same, and what comes of the text
one_outcome : (ts us : List Token) (s s' l l' : Standing) (n n' m m' : ℕ) (bs bs' rest rest' : List ℕ) (o o' : Outcome) → s ≡ s' → n ≡ n' → bs ≡ bs'
    → Reads n bs ts m rest → Passes s ts l → Halts l m rest o → Reads n' bs' us m' rest' → Passes s' us l' → Halts l' m' rest' o' → o ≡ o'
one_outcome [] [] s s' l l' n n' m m' bs bs' rest rest' o o' r p q (e, f) g h (e', f') g' h' =
    one_halt l l' m m' rest rest' o o' (sym g ∙ r ∙ g') (sym e ∙ p ∙ e') (sym f ∙ q ∙ f') h h'
one_outcome [] (u ∷ us) s s' l l' n n' m m' bs bs' rest rest' o o' r p q (e, f) g h (after, gap, token, long, more) (next, j, g') h' =
    absurd (no_pass l s' next m n' rest bs' after o u (sym g ∙ r) (sym e ∙ p) (sym f ∙ q) h (gap, token, long) j)
one_outcome (t ∷ ts) [] s s' l l' n n' m m' bs bs' rest rest' o o' r p q (after, gap, token, long, more) (next, j, g) h (e', f') g' h' =
    absurd (no_pass l' s next m' n rest' bs after o' t (sym g' ∙ sym r) (sym e' ∙ sym p) (sym f' ∙ sym q) h' (gap, token, long) j)
one_outcome (t ∷ ts) (u ∷ us) s s' l l' n n' m m' bs bs' rest rest' o o' r p q (after, gap, token, long, more) (next, j, g) h (after', gap', token', long', more') (next', j', g') h' =
    let same : SameToken t u after after' = same_next t u n n' bs bs' after after' p q (gap, token, long) (gap', token', long') in
    let goes_on : next ≡ next' = same_standing s s' next next' t u r same.token j j' in
    one_outcome ts us next next' l l' _ _ m m' after after' rest rest' o o' goes_on same.next same.behind more g h more' g' h'

-- what comes of a text
pub record Comes (start : Rule) (bs : List ℕ) (o : Outcome) : Type 0 where
  pub front : List Token
  pub place : ℕ
  pub rest : List ℕ
  pub last : Standing
  pub reads : Reads 0 bs front place rest
  pub passes : Passes (at_start start) front last
  pub halts : Halts last place rest o

comes_once : (start : Rule) (bs : List ℕ) (o o' : Outcome) → Comes start bs o → Comes start bs o' → o ≡ o'
comes_once start bs o o' c d = one_outcome c.front d.front (at_start start) (at_start start) c.last d.last 0 0 c.place d.place bs bs c.rest d.rest o o' refl refl refl c.reads c.passes c.halts d.reads d.passes d.halts

-- the fault that an outcome tells, in a text of so many bytes
abbrev told : ℕ → Outcome → Option (ℕ × Kind)
told len (ended true) = None
told len (ended false) = Some (len, End)
told len (stopped n k) = Some (n, k)

abbrev place_told : Option (ℕ × Kind) → ℕ
place_told None = 0
place_told (Some x) = x.0

abbrev kind_told : Option (ℕ × Kind) → Kind
kind_told None = End
kind_told (Some x) = x.1

-- a fault is where the text stops to be UTF-8, or what comes of it
pub data Fault (start : Rule) (bs : List ℕ) (n : ℕ) (k : Kind) : Type 0 where
  broken : IsValidUpTo bs n → k ≡ NotUtf8 → Fault start bs n k
  met : (o : Outcome) → IsUtf8 bs → Comes start bs o → told (length bs) o ≡ Some (n, k) → Fault start bs n k

fault_of : {start : Rule} {bs : List ℕ} {n : ℕ} {k : Kind} → FirstFault start bs n k → Fault start bs n k
fault_of (not_utf8 v) = broken v refl
fault_of (no_token {n = n} {m = m} ts last rest s u r p gap x) =
    met (stopped m Byte) u (record { front = ts; place = n; rest = last; last = s; reads = r; passes = p; halts = at_stuck m rest gap x refl }) refl
fault_of (wrong {n = n} {k = k} ts t last rest s u r p (after, gap, token, long, more) h) =
    met (stopped t.at k) u (record { front = ts; place = n; rest = last; last = s; reads = r; passes = p; halts = at_token t after k (gap, token, long) h refl }) refl
fault_of {bs = bs} (early ts s u (m, rest, r, gap) p h) =
    met (ended false) u (record { front = ts; place = m; rest = rest; last = s; reads = r; passes = p; halts = at_end (length bs) gap (ap ended (sym h)) }) refl

-- UTF-8 has no such place
not_broken : (bs : List ℕ) (n : ℕ) → IsValidUpTo bs n → IsUtf8 bs → ⊥
not_broken bs n v u = let e : n ≡ length bs = sym (utf8_valid_len-IsValidUpTo bs n v) ∙ utf8_valid_len-IsUtf8 bs u in omega (arith, e, v.short)

same_fault : (start : Rule) (bs : List ℕ) (n m : ℕ) (k l : Kind) → Fault start bs n k → Fault start bs m l → (n ≡ m) × (k ≡ l)
same_fault start bs n m k l (broken v e) (broken v' e') = (sym (utf8_valid_len-IsValidUpTo bs n v) ∙ utf8_valid_len-IsValidUpTo bs m v', e ∙ sym e')
same_fault start bs n m k l (broken v e) (met o u c h) = absurd (not_broken bs n v u)
same_fault start bs n m k l (met o u c h) (broken v e) = absurd (not_broken bs m v u)
same_fault start bs n m k l (met o u c h) (met o' u' c' h') =
    let both : Some (n, k) ≡ Some (m, l) = sym h ∙ ap (told (length bs)) (comes_once start bs o o' c c') ∙ h' in
    (ap place_told both, ap kind_told both)

-- a text has at most one first fault
pub first_fault_once : (start : Rule) (bs : List ℕ) (n m : ℕ) (k l : Kind) → FirstFault start bs n k → FirstFault start bs m l → (n ≡ m) × (k ≡ l)
first_fault_once start bs n m k l f g = same_fault start bs n m k l (fault_of f) (fault_of g)

-- a text that may end where it does has none
no_fault : (start : Rule) (bs : List ℕ) (n : ℕ) (k : Kind) → IsUtf8 bs → Comes start bs (ended true) → Fault start bs n k → ⊥
no_fault start bs n k u c (broken v e) = not_broken bs n v u
no_fault start bs n k u c (met o u' d h) = let none : None ≡ Some (n, k) = ap (told (length bs)) (comes_once start bs (ended true) o c d) ∙ h in cc none

no_fault_where_taken : (start : Rule) (bs : List ℕ) (ts : List Token) (n : ℕ) (k : Kind) → IsUtf8 bs → IsTokens bs ts → outcome (rule start ∷ []) [] ts ≡ ended true → FirstFault start bs n k → ⊥
no_fault_where_taken start bs ts n k u (m, rest, r, gap) o f =
    let e = ends_at ts (rule start ∷ []) [] true o in
    no_fault start bs n k u (record { front = ts; place = m; rest = rest; last = e.last; reads = r; passes = e.passes; halts = at_end (length bs) gap (ap ended (sym e.end)) }) (fault_of f)

-- nor has a text with a tree
pub no_fault_in_text : (bs : List ℕ) (p : ProgramForm) (n : ℕ) (k : Kind) → IsText bs p → FirstFault program bs n k → ⊥
no_fault_in_text bs p n k (ts, u, tokens, shallow, tree) f = no_fault_where_taken program bs ts n k u tokens (accepts_program p ts tree shallow) f

pub no_fault_in_aspect : (bs : List ℕ) (a : AspectForm) (n : ℕ) (k : Kind) → IsAspectText bs a → FirstFault aspect bs n k → ⊥
no_fault_in_aspect bs a n k (ts, u, tokens, shallow, tree) f = no_fault_where_taken aspect bs ts n k u tokens (accepts_aspect a ts tree shallow) f

pub no_fault_in_cert : (bs : List ℕ) (c : CertForm) (n : ℕ) (k : Kind) → IsCertText bs c → FirstFault cert bs n k → ⊥
no_fault_in_cert bs c n k (ts, u, tokens, shallow, tree) f = no_fault_where_taken cert bs ts n k u tokens (accepts_cert c ts tree shallow) f
