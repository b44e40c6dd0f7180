-- The first of the tokens ahead.
use Rattle.std.proofs.Common.{◌≡◌, ℕ, List, [], ◌∷◌, length, drop, subst, refl, ap, sym, ◌∙◌, ◌<◌, ◌≤◌, arith, Bool, true, false, Some, None}
use Rattle.std.specs.Prelude.{slice_get, if◌then◌else◌, bytes_eq, codes}
use Rattle.std.proofs.lemmas.List.{drop-map}
use Rattle.std.proofs.lemmas.Grind.{common_steps}
use Rattle.argos_base.specs.Spelling.{is_digits, is_name, IsName}
use Rattle.argos_tokens.specs.Tokens.{Token}
use Rattle.argos_tokens.specs.TokenViews.{token_of, tokens_of}
use Rattle.argos_tokens.specs.declared.token.Token as declared
use Rattle.argos_grammar.specs.DueSymbols.{Symbol, text, name, version, count, number, rule, option, repeat, take_symbol, may_end}
use Rattle.argos_grammar.specs.Faults.{Open, bracket, negation, TooDeep, without_negations, is_long_name, is_wrong_number}
use Rattle.argos_grammar.specs.Runs.{outcome, stopped, begins_with, opens, closes}
use Rattle.argos_grammar.specs.Refusals.{kind_of}
use Rattle.argos_parser.specs.inner.Answers.{Declines, Refuses, IsNumeric, mismatch}
use Rattle.argos_parser.specs.declared.parser.Stop.TheVariants as stops
use Rattle.argos_grammar.specs.declared.errors.SyntaxKind.TheVariants as kinds
use Rattle.argos_grammar.proofs.FirstWords.{spelled_first, first_spelled, first_plain}
use Rattle.argos_grammar.proofs.Leaves.{opening_taken, closing_taken, not_taken, too_deep, not_too_deep, name_taken, refused_long, refused_number, refused_other, ended_early, declined_name, if_not}

pub drop-tokens_of : (ts : List declared.Token) (n : ℕ) → tokens_of (drop n ts) ≡ drop n (tokens_of ts)
drop-tokens_of ts n = simp drop-map

-- how the functions of the first token answer, by their contracts' terms
pub declined_word : (w : List ℕ) (due : List Symbol) (ts : List Token) → begins_with w ts ≡ false → Declines (text w ∷ due) ts
declined_word w due [] h = refl
declined_word w due (t ∷ ts) h = λ l n. if_not (bytes_eq t.text w) _ _ h

pub refusal_ended : (ts : List declared.Token) (due : List Symbol) (os : List Open) → length ts ≡ 0 → Declines due (tokens_of ts) → Refuses due os (tokens_of ts) stops.Ended
refusal_ended [] due os h d = ended_early due os d
refusal_ended (t ∷ ts) due os h d = absurd (omega arith)

refused : (t : Token) (us : List Token) (due : List Symbol) (os : List Open) (l n : Bool) → l ≡ is_long_name t.text → n ≡ is_wrong_number t.text → Declines due (t ∷ us)
    → outcome due os (t ∷ us) ≡ stopped t.at (kind_of (if l then kinds.LongName else (if n then kinds.Number else kinds.Token)))
refused t us due os true n p q d = refused_long due os t us (sym p)
refused t us due os false true p q d = refused_number due os t us (sym p) (sym q)
refused t us due os false false p q d = refused_other due os t us (sym p) (sym q) (d (sym p) (sym q))

pub refusal_wrong : (ts : List declared.Token) (t : declared.Token) (due : List Symbol) (os : List Open) → slice_get ts 0 ≡ Some t → Declines due (tokens_of ts)
    → Refuses due os (tokens_of ts) (stops.Wrong t.at (mismatch t.text.now))
refusal_wrong [] t due os h d = cc h
refusal_wrong (u ∷ us) t due os h d = let e : u ≡ t = cc h in
    subst (λ (v : declared.Token). Refuses due os (tokens_of (u ∷ us)) (stops.Wrong v.at (mismatch v.text.now))) e (refused (token_of u) (tokens_of us) due os _ _ refl refl d)

-- the first token is a name, or none that may stand there
pub first_name : (ts : List declared.Token) (t : declared.Token) → Some t ≡ slice_get ts 0 → IsName t.text.now → (due : List Symbol) (os : List Open)
    → outcome (name ∷ due) os (tokens_of ts) ≡ outcome due (without_negations os) (tokens_of (drop 1 ts))
first_name [] t h n due os = cc h
first_name (u ∷ us) t h n due os = let e : t ≡ u = cc h in
    name_taken (record { name = u.text.now; at = u.at }) due os (tokens_of (u ∷ us)) (tokens_of us) (subst (λ (v : declared.Token). IsName v.text.now) e n, refl, refl, refl)

pub first_no_name : (ts : List declared.Token) (t : declared.Token) → Some t ≡ slice_get ts 0 → is_name t.text.now ≡ false → (due : List Symbol) → Declines (name ∷ due) (tokens_of ts)
first_no_name [] t h n due = refl
first_no_name (u ∷ us) t h n due = let e : t ≡ u = cc h in λ l w. declined_name due u.text.now (ap (λ (v : declared.Token). is_name v.text.now) (sym e) ∙ n) l

pub first_opening : (w : List ℕ) (due : List Symbol) (os : List Open) (ts rest : List Token) → opens w ≡ true → length os < 64 → begins_with w ts ≡ true → rest ≡ drop 1 ts
    → outcome (text w ∷ due) os ts ≡ outcome due (bracket ∷ os) rest
first_opening w due os ts rest p d h e = opening_taken w due os ts rest p d (first_spelled w ts rest h e)

pub first_not : (due : List Symbol) (os : List Open) (ts rest : List Token) → length os < 64 → begins_with (codes "not") ts ≡ true → rest ≡ drop 1 ts
    → outcome (text (codes "not") ∷ due) os ts ≡ outcome due (negation ∷ os) rest
first_not due os ts rest d h e = not_taken due os ts rest d (first_spelled (codes "not") ts rest h e)

pub first_closing : (w : List ℕ) (due : List Symbol) (os : List Open) (ts rest : List Token) → closes w ≡ true → begins_with w ts ≡ true → rest ≡ drop 1 ts
    → outcome (text w ∷ due) (bracket ∷ os) ts ≡ outcome due (without_negations os) rest
first_closing w due os ts rest p h e = closing_taken w due os ts rest p (first_spelled w ts rest h e)

pub first_too_deep : (w : List ℕ) (due : List Symbol) (os : List Open) (ts : List declared.Token) (t : declared.Token) → opens w ≡ true → 64 ≤ length os → Some t ≡ slice_get ts 0 → bytes_eq t.text.now w ≡ true
    → outcome (text w ∷ due) os (tokens_of ts) ≡ stopped t.at TooDeep
first_too_deep w due os [] t p d h b = cc h
first_too_deep w due os (u ∷ us) t p d h b = let e : t ≡ u = cc h in
    too_deep w due os (token_of u) (tokens_of us) p d (ap (λ (v : declared.Token). bytes_eq v.text.now w) (sym e) ∙ b) ∙ ap (λ (v : declared.Token). stopped v.at TooDeep) (sym e)

pub first_not_too_deep : (due : List Symbol) (os : List Open) (ts : List declared.Token) (t : declared.Token) → 64 ≤ length os → Some t ≡ slice_get ts 0 → bytes_eq t.text.now (codes "not") ≡ true
    → outcome (text (codes "not") ∷ due) os (tokens_of ts) ≡ stopped t.at TooDeep
first_not_too_deep due os [] t d h b = cc h
first_not_too_deep due os (u ∷ us) t d h b = let e : t ≡ u = cc h in
    not_too_deep due os (token_of u) (tokens_of us) d (ap (λ (v : declared.Token). bytes_eq v.text.now (codes "not")) (sym e) ∙ b) ∙ ap (λ (v : declared.Token). stopped v.at TooDeep) (sym e)

declined_digits : (s : Symbol) → IsNumeric s → (t : List ℕ) (due : List Symbol) → is_digits t ≡ false → take_symbol (s ∷ due) t ≡ None
declined_digits version n t due h = if_not (is_digits t) _ _ h
declined_digits count n t due h = if_not (is_digits t) _ _ h
declined_digits number n t due h = if_not (is_digits t) _ _ h
declined_digits (text s) n t due h = absurd n
declined_digits name n t due h = absurd n
declined_digits (rule r) n t due h = absurd n
declined_digits (option r) n t due h = absurd n
declined_digits (repeat r) n t due h = absurd n

no_digits : (b : Bool) {w : Bool} → (b ≡ true → w ≡ true) → w ≡ false → b ≡ false
no_digits true h e = cc (h refl, e)
no_digits false h e = refl

ends_early : (s : Symbol) → IsNumeric s → (due : List Symbol) → may_end (s ∷ due) ≡ false
ends_early version n due = refl
ends_early count n due = refl
ends_early number n due = refl
ends_early (text s) n due = absurd n
ends_early name n due = absurd n
ends_early (rule r) n due = absurd n
ends_early (option r) n due = absurd n
ends_early (repeat r) n due = absurd n

pub first_no_number : (ts : List declared.Token) (t : declared.Token) → Some t ≡ slice_get ts 0 → (is_digits t.text.now ≡ true → is_wrong_number t.text.now ≡ true)
    → (s : Symbol) (due : List Symbol) → IsNumeric s → Declines (s ∷ due) (tokens_of ts)
first_no_number [] t h n s due k = ends_early s k due
first_no_number (u ∷ us) t h n s due k = let e : t ≡ u = cc h in λ l w. declined_digits s k u.text.now due
    (no_digits (is_digits u.text.now) (subst (λ (v : declared.Token). is_digits v.text.now ≡ true → is_wrong_number v.text.now ≡ true) e n) w)

pub no_number : (ts : List declared.Token) → length ts ≡ 0 → (s : Symbol) (due : List Symbol) (os : List Open) → IsNumeric s → Refuses (s ∷ due) os (tokens_of ts) stops.Ended
no_number [] h s due os n = ended_early (s ∷ due) os (ends_early s n due)
no_number (t ∷ ts) h s due os n = absurd (omega arith)

pub ruleset ahead = (common_steps, drop-tokens_of, first_plain, first_opening, first_not, first_closing, first_too_deep, first_not_too_deep, no_number, first_spelled, declined_word, refusal_ended, refusal_wrong)
