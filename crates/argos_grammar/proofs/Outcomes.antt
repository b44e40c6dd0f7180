-- What an outcome says of the tokens of a text.
use Rattle.std.proofs.Common.{◌≡◌, ℕ, ◌+◌, List, [], ◌∷◌, ◌++◌, length, refl, sym, ap, ◌∙◌, subst, Bool, true, false, Option, Some, None}
use Rattle.std.specs.Prelude.{Ok, Err, IsUtf8, if◌then◌else◌}
use Rattle.argos_tokens.specs.Tokens.{Token, Reads}
use Rattle.argos_tokens.specs.TokenViews.{AreTokens}
use Rattle.argos_grammar.specs.DueSymbols.{Symbol, Rule, rule, take_symbol, may_end}
use Rattle.argos_grammar.specs.Faults.{Kind, Byte, End, LongName, Number, Version, TooDeep, Open, Standing, judge, after_taking, is_long_name, is_wrong_number, is_wrong_version, is_wrong_count, is_too_deep, open_behind, Passes, FirstFault, no_token, wrong, ended as early}
use Rattle.argos_grammar.specs.Runs.{ended, stopped, outcome, after_judging}
use Rattle.argos_grammar.specs.Text.{IsShallow}

abbrev standing : List Symbol → List Open → Standing
standing due os = record { due = due; open_now = os }

-- the tokens before one of which a row holds pass
pub record Stops (s : Standing) (ts : List Token) (n : ℕ) (k : Kind) : Type 0 where
  pub front : List Token
  pub token : Token
  pub back : List Token
  pub last : Standing
  pub split : ts ≡ front ++ token ∷ back
  pub passes : Passes s front last
  pub row : judge last token.text ≡ Err k
  pub place : token.at ≡ n

pub stops_at : (ts : List Token) (due : List Symbol) (os : List Open) (n : ℕ) (k : Kind) → outcome due os ts ≡ stopped n k → Stops (standing due os) ts n k
unfolding outcome
stops_at [] due os n k h = cc h
stops_at (t ∷ ts) due os n k h =
    elim (judge (standing due os) t.text) as (λ x. judge (standing due os) t.text ≡ x → after_judging t.at x (λ s. outcome s.due s.open_now ts) ≡ stopped n k → Stops (standing due os) (t ∷ ts) n k) [
      | Ok s ↦ λ e g. let r = stops_at ts s.due s.open_now n k g in
          record { front = t ∷ r.front; token = r.token; back = r.back; last = r.last; split = ap (λ xs. t ∷ xs) r.split; passes = (s, e, r.passes); row = r.row; place = r.place }
      | Err q ↦ λ e g. let same : q ≡ k = cc g in
          record { front = []; token = t; back = ts; last = standing due os; split = refl; passes = refl; row = e ∙ ap Err same; place = cc g }
    ] refl h

pub record Ends (s : Standing) (ts : List Token) (b : Bool) : Type 0 where
  pub last : Standing
  pub passes : Passes s ts last
  pub end : may_end last.due ≡ b

pub ends_at : (ts : List Token) (due : List Symbol) (os : List Open) (b : Bool) → outcome due os ts ≡ ended b → Ends (standing due os) ts b
unfolding outcome
ends_at [] due os b h = record { last = standing due os; passes = refl; end = cc h }
ends_at (t ∷ ts) due os b h =
    elim (judge (standing due os) t.text) as (λ x. judge (standing due os) t.text ≡ x → after_judging t.at x (λ s. outcome s.due s.open_now ts) ≡ ended b → Ends (standing due os) (t ∷ ts) b) [
      | Ok s ↦ λ e g. let r = ends_at ts s.due s.open_now b g in record { last = r.last; passes = (s, e, r.passes); end = r.end }
      | Err q ↦ λ e g. cc g
    ] refl h

-- a token that is taken isn't too deep
deep_if : (v c d : Bool) (os : List Open) (t : List ℕ) (due : List Symbol) (s : Standing) → is_too_deep os t ≡ d
    → (if v then Err Version else (if c then Err Number else (if d then Err TooDeep else Ok (standing due (open_behind os t))))) ≡ Ok s → (is_too_deep os t ≡ false) × (open_behind os t ≡ s.open_now)
deep_if true c d os t due s e h = cc h
deep_if false true d os t due s e h = cc h
deep_if false false true os t due s e h = cc h
deep_if false false false os t due s e h = let same : standing due (open_behind os t) ≡ s = cc h in (e, ap (λ x. x.open_now) same)

deep_of : (l n : Bool) (x : Option (Symbol × List Symbol)) (os : List Open) (t : List ℕ) (s : Standing) → (if l then Err LongName else (if n then Err Number else after_taking os t x)) ≡ Ok s
    → (is_too_deep os t ≡ false) × (open_behind os t ≡ s.open_now)
deep_of true n x os t s h = cc h
deep_of false true x os t s h = cc h
deep_of false false None os t s h = cc h
deep_of false false (Some p) os t s h = deep_if (is_wrong_version p.0 t) (is_wrong_count p.0 t) (is_too_deep os t) os t p.1 s refl h

pub shallow : (ts : List Token) (due : List Symbol) (os : List Open) (b : Bool) → outcome due os ts ≡ ended b → IsShallow os ts
unfolding outcome
shallow [] due os b h = tt
shallow (t ∷ ts) due os b h =
    elim (judge (standing due os) t.text) as (λ x. judge (standing due os) t.text ≡ x → after_judging t.at x (λ s. outcome s.due s.open_now ts) ≡ ended b → IsShallow os (t ∷ ts)) [
      | Ok s ↦ λ e g. let d = deep_of (is_long_name t.text) (is_wrong_number t.text) (take_symbol due t.text) os t.text s e in (d.0, subst (λ o. IsShallow o ts) (sym d.1) (shallow ts s.due s.open_now b g))
      | Err q ↦ λ e g. cc g
    ] refl h

-- the tokens of a text before one of them, and this one
pub record Cut (n : ℕ) (bs : List ℕ) (front : List Token) (t : Token) : Type 0 where
  pub place : ℕ
  pub ahead : List ℕ
  pub before : Reads n bs front place ahead
  pub next : ℕ
  pub rest : List ℕ
  pub here : Reads place ahead (t ∷ []) next rest

pub cut : (front : List Token) (t : Token) (back : List Token) (n : ℕ) (bs : List ℕ) (m : ℕ) (rest : List ℕ) → Reads n bs (front ++ t ∷ back) m rest → Cut n bs front t
cut [] t back n bs m rest r = record { place = n; ahead = bs; before = (refl, refl); next = t.at + length t.text; rest = r.0; here = (r.0, r.1, r.2, r.3, (refl, refl)) }
cut (u ∷ us) t back n bs m rest r = let c = cut us t back (u.at + length u.text) r.0 m rest r.4 in
    record { place = c.place; ahead = c.ahead; before = (r.0, r.1, r.2, r.3, c.before); next = c.next; rest = c.rest; here = c.here }

read_front : (bs : List ℕ) (ts : List Token) (stuck : Option ℕ) → AreTokens bs ts stuck → (m : ℕ) × (rest : List ℕ) × Reads 0 bs ts m rest
read_front bs ts None h = (h.0, h.1, h.2)
read_front bs ts (Some at) h = (h.0, h.1, h.3)

-- the first fault of a text, by the outcome of its tokens
pub fault_wrong : (start : Rule) (bs : List ℕ) (ts : List Token) (stuck : Option ℕ) (n : ℕ) (k : Kind) → IsUtf8 bs → AreTokens bs ts stuck → outcome (rule start ∷ []) [] ts ≡ stopped n k → FirstFault start bs n k
fault_wrong start bs ts stuck n k u h o =
    let r = stops_at ts (rule start ∷ []) [] n k o in
    let f = read_front bs ts stuck h in
    let c = cut r.front r.token r.back 0 bs f.0 f.1 (subst (λ xs. Reads 0 bs xs f.0 f.1) r.split f.2) in
    subst (λ x. FirstFault start bs x k) r.place (wrong r.front r.token c.ahead c.rest r.last u c.before r.passes c.here r.row)

pub fault_end : (start : Rule) (bs : List ℕ) (ts : List Token) → IsUtf8 bs → AreTokens bs ts None → outcome (rule start ∷ []) [] ts ≡ ended false → FirstFault start bs (length bs) End
fault_end start bs ts u h o = let r = ends_at ts (rule start ∷ []) [] false o in early ts r.last u h r.passes r.end

pub fault_byte : (start : Rule) (bs : List ℕ) (ts : List Token) (at : ℕ) (b : Bool) → IsUtf8 bs → AreTokens bs ts (Some at) → outcome (rule start ∷ []) [] ts ≡ ended b → FirstFault start bs at Byte
fault_byte start bs ts at b u h o = let r = ends_at ts (rule start ∷ []) [] b o in no_token ts h.1 h.2 r.last u h.3 r.passes h.4 h.5
