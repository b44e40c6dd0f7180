-- A word, a name or a number that is due takes its token.
use Rattle.std.proofs.Common.{◌≡◌, refl, sym, ap, ◌∙◌, ◌∷◌, [], arith, ◌≤◌, ◌<◌, ◌⊎◌, inl, inr}
use Rattle.std.specs.Prelude.{ℕ, List, length, Bool, true, false, ◌&&◌, ◌||◌, not, nat_lt, nat_le, bytes_eq, if◌then◌else◌, Option, Some, None, Result, Ok, Err, codes, ◌==◌}
use Rattle.std.specs.List.{list_any}
use Rattle.std.specs.Char.{is_ascii_digit}
use Rattle.std.proofs.lemmas.Slice.Eq.{bytes_eq-Decides}
use Rattle.std.proofs.lemmas.Bool.Decides.{nat_tests}
use Rattle.argos_base.specs.Spelling.{is_one_of, is_word, is_letter, is_digits, reserved_words, is_free_word, is_name, IsName, Spells, number_of, has_leading_zero}
use Rattle.argos_base.proofs.Bools.{and_first, and_second, or_first_false, or_second_false, or_neither, not_false, is_false}
use Rattle.argos_tokens.proofs.Fronts.{first_fails, second_fails}
use Rattle.argos_grammar.specs.Forms.{Mark, Numeral}
use Rattle.argos_tokens.specs.Tokens.{Token}
use Rattle.argos_grammar.specs.Faults.{Open, bracket, negation, Standing, Kind, judge, is_long_name, is_wrong_number, after_taking, is_too_deep, is_opening, is_closing, is_not, open_behind, without_negations, is_wrong_version, is_wrong_count, LongName, Number, Version, TooDeep, OtherToken}
use Rattle.argos_grammar.specs.DueSymbols.{Symbol, text, version, count, number, name, take_symbol, may_end}
use Rattle.argos_grammar.specs.Runs.{outcome, ended, stopped, after_judging, is_short, is_plain, opens, closes}
use Rattle.argos_grammar.specs.Grammar as grammar

no_digit : (b : ℕ) → is_letter b ≡ true → is_ascii_digit b ≡ false
no_digit b h = grind (arith, nat_tests)

-- a word is no number
word_no_digits : (t : List ℕ) → is_word t ≡ true → is_digits t ≡ false
word_no_digits [] h = refl
word_no_digits (b ∷ bs) h = first_fails (is_ascii_digit b) _ (no_digit b (and_first _ _ h))

-- texts of which a test says different things aren't equal
pub told_apart : (p : List ℕ → Bool) (s t : List ℕ) → p s ≡ false → p t ≡ true → bytes_eq t s ≡ false
told_apart p s t f h = is_false (bytes_eq t s) (λ e. cc (f, h, ap p ((bytes_eq-Decides t s).0 e)))

none_of : (p : List ℕ → Bool) (ws : List (List ℕ)) (t : List ℕ) → list_any p ws ≡ false → p t ≡ true → is_one_of ws t ≡ false
none_of p [] t f h = refl
none_of p (s ∷ ws) t f h = or_neither _ _ (told_apart p s t (or_first_false (p s) _ f) h) (none_of p ws t (or_second_false (p s) _ f) h)

each_of_four : (a b c d : Bool) → (a && b && c && d) ≡ true → (a ≡ true) × (b ≡ true) × (c ≡ true) × (d ≡ true)
each_of_four a b c d h =
    let three = and_first (a && b && c) d h in
    let two = and_first (a && b) c three in
    (and_first a b two, and_second a b two, and_second (a && b) c three, and_second (a && b && c) d h)

pub if_not : {A : Type 0} (b : Bool) (x y : A) → b ≡ false → (if b then x else y) ≡ y
if_not true x y h = cc h
if_not false x y h = refl

pub if_so : {A : Type 0} (b : Bool) (x y : A) → b ≡ true → (if b then x else y) ≡ x
if_so true x y h = refl
if_so false x y h = cc h

-- what is judged of the first token decides
step : (due : List Symbol) (os : List Open) (t : Token) (us : List Token) (x : Result Standing Kind) → judge (record { due = due; open_now = os }) t.text ≡ x
    → outcome due os (t ∷ us) ≡ after_judging t.at x (λ s. outcome s.due s.open_now us)
unfolding outcome
step due os t us x h = ap (λ y. after_judging t.at y (λ s. outcome s.due s.open_now us)) h

-- where no row holds of the token alone, it is what takes it that counts
judged_taking : (due : List Symbol) (os : List Open) (t : List ℕ) (x : Option (Symbol × List Symbol)) → is_long_name t ≡ false → is_wrong_number t ≡ false → take_symbol due t ≡ x
    → judge (record { due = due; open_now = os }) t ≡ after_taking os t x
judged_taking due os t x long wrong h = if_not (is_long_name t) _ _ long ∙ if_not (is_wrong_number t) _ _ wrong ∙ ap (after_taking os t) h

-- a token that is taken, of which no row holds
passes : (due more : List Symbol) (os : List Open) (t : List ℕ) (s : Symbol) → is_long_name t ≡ false → is_wrong_number t ≡ false → take_symbol due t ≡ Some (s, more)
    → is_wrong_version s t ≡ false → is_wrong_count s t ≡ false → is_too_deep os t ≡ false
    → judge (record { due = due; open_now = os }) t ≡ Ok (record { due = more; open_now = open_behind os t })
passes due more os t s long wrong h v c deep = judged_taking due os t _ long wrong h ∙ if_not (is_wrong_version s t) _ _ v ∙ if_not (is_wrong_count s t) _ _ c ∙ if_not (is_too_deep os t) _ _ deep

short_no_name : (w : List ℕ) → is_short w ≡ true → is_long_name w ≡ false
short_no_name w h = second_fails (is_free_word w) _ (not_false _ (and_first _ _ h))

short_no_number : (w : List ℕ) → is_short w ≡ true → is_wrong_number w ≡ false
short_no_number w h = first_fails (is_digits w) _ (not_false (is_digits w) (and_second _ _ h))

taken_text : (w t : List ℕ) (due : List Symbol) → t ≡ w → take_symbol (text w ∷ due) t ≡ Some (text w, due)
taken_text w t due e = if_so (bytes_eq t w) _ _ ((bytes_eq-Decides t w).1 e)

-- a word that is due takes its token
word_judged : (w t : List ℕ) (due : List Symbol) (os : List Open) → t ≡ w → is_short w ≡ true → is_too_deep os w ≡ false
    → judge (record { due = text w ∷ due; open_now = os }) t ≡ Ok (record { due = due; open_now = open_behind os w })
word_judged w t due os e short deep = passes (text w ∷ due) due os t (text w) (ap is_long_name e ∙ short_no_name w short) (ap is_wrong_number e ∙ short_no_number w short) (taken_text w t due e) refl refl
    (ap (is_too_deep os) e ∙ deep) ∙ ap (λ x. Ok (record { due = due; open_now = open_behind os x })) e

word_taken : (w : List ℕ) (due : List Symbol) (os : List Open) (ts rest : List Token) → is_short w ≡ true → is_too_deep os w ≡ false → grammar.spelled w ts rest
    → outcome (text w ∷ due) os ts ≡ outcome due (open_behind os w) rest
word_taken w due os [] rest short deep h = absurd h
word_taken w due os (t ∷ us) rest short deep h = step (text w ∷ due) os t us _ (word_judged w t.text due os h.0 short deep) ∙ ap (λ x. outcome due (open_behind os w) x) h.1

-- a token that opens nothing and closes nothing
record OpensNothing (t : List ℕ) : Type 0 where
  no_opening : is_opening t ≡ false
  no_closing : is_closing t ≡ false
  no_not : is_not t ≡ false

not_deep : (os : List Open) (w : List ℕ) → is_opening w ≡ false → is_not w ≡ false → is_too_deep os w ≡ false
not_deep os w o n = first_fails (is_opening w || is_not w) _ (or_neither (is_opening w) (is_not w) o n)

changes_nothing : (t : List ℕ) (os : List Open) → OpensNothing t → (is_too_deep os t ≡ false) × (open_behind os t ≡ without_negations os)
changes_nothing t os k = (not_deep os t k.no_opening k.no_not, if_not (is_opening t) _ _ k.no_opening ∙ if_not (is_not t) _ _ k.no_not ∙ if_not (is_closing t) _ _ k.no_closing)

-- a text that a test tells from the brackets and from `not` does neither
abbrev brackets_open : List (List ℕ)
brackets_open = codes "{" ∷ codes "(" ∷ codes "[" ∷ []

abbrev brackets_close : List (List ℕ)
brackets_close = codes "}" ∷ codes ")" ∷ codes "]" ∷ []

told_plain : (p : List ℕ → Bool) (t : List ℕ) → list_any p brackets_open ≡ false → list_any p brackets_close ≡ false → p (codes "not") ≡ false → p t ≡ true → OpensNothing t
told_plain p t o c n h = record { no_opening = none_of p brackets_open t o h; no_closing = none_of p brackets_close t c h; no_not = told_apart p (codes "not") t n h }

-- plain words
plain_parts : (w : List ℕ) → is_plain w ≡ true → (is_short w ≡ true) × OpensNothing w
plain_parts w p =
    let k = each_of_four (is_short w) (not (is_opening w)) (not (is_closing w)) (not (is_not w)) p in
    (k.0, record { no_opening = not_false _ k.1; no_closing = not_false _ k.2; no_not = not_false _ k.3 })

pub plain_opened : (w : List ℕ) (os : List Open) → is_plain w ≡ true → open_behind os w ≡ without_negations os
plain_opened w os p = (changes_nothing w os (plain_parts w p).1).1

pub plain_taken : (w : List ℕ) (due : List Symbol) (os : List Open) (ts rest : List Token) → is_plain w ≡ true → grammar.spelled w ts rest
    → outcome (text w ∷ due) os ts ≡ outcome due (without_negations os) rest
plain_taken w due os ts rest p h = let k = plain_parts w p in word_taken w due os ts rest k.0 (changes_nothing w os k.1).0 h ∙ ap (λ x. outcome due x rest) (plain_opened w os p)

-- brackets and `not`
not_above : (os : List Open) → length os < 64 → nat_lt 63 (length os) ≡ false
not_above os h = grind (arith, nat_tests)

pub opening_opened : (w : List ℕ) (os : List Open) → opens w ≡ true → open_behind os w ≡ bracket ∷ os
opening_opened w os p = if_so (is_opening w) _ _ (and_second (is_short w) _ p)

pub opening_taken : (w : List ℕ) (due : List Symbol) (os : List Open) (ts rest : List Token) → opens w ≡ true → length os < 64 → grammar.spelled w ts rest
    → outcome (text w ∷ due) os ts ≡ outcome due (bracket ∷ os) rest
opening_taken w due os ts rest p d h = word_taken w due os ts rest (and_first _ _ p) (second_fails (is_opening w || is_not w) _ (not_above os d)) h ∙ ap (λ x. outcome due x rest) (opening_opened w os p)

closing_parts : (w : List ℕ) → closes w ≡ true → (is_short w ≡ true) × (is_closing w ≡ true) × (not (is_opening w) ≡ true) × (not (is_not w) ≡ true)
closing_parts w p = each_of_four (is_short w) (is_closing w) (not (is_opening w)) (not (is_not w)) p

pub closing_opened : (w : List ℕ) (os : List Open) → closes w ≡ true → open_behind (bracket ∷ os) w ≡ without_negations os
closing_opened w os p = let k = closing_parts w p in if_not (is_opening w) _ _ (not_false _ k.2) ∙ if_not (is_not w) _ _ (not_false _ k.3) ∙ if_so (is_closing w) _ _ k.1

pub closing_taken : (w : List ℕ) (due : List Symbol) (os : List Open) (ts rest : List Token) → closes w ≡ true → grammar.spelled w ts rest
    → outcome (text w ∷ due) (bracket ∷ os) ts ≡ outcome due (without_negations os) rest
closing_taken w due os ts rest p h =
    let k = closing_parts w p in
    word_taken w due (bracket ∷ os) ts rest k.0 (not_deep (bracket ∷ os) w (not_false _ k.2) (not_false _ k.3)) h ∙ ap (λ x. outcome due x rest) (closing_opened w os p)

pub not_taken : (due : List Symbol) (os : List Open) (ts rest : List Token) → length os < 64 → grammar.word "not" ts rest
    → outcome (text (codes "not") ∷ due) os ts ≡ outcome due (negation ∷ os) rest
not_taken due os ts rest d h = word_taken (codes "not") due os ts rest refl (not_above os d) h

no_long : (t : List ℕ) → is_name t ≡ true → is_long_name t ≡ false
no_long t h = second_fails (is_free_word t) _ (let k = and_second (is_free_word t) _ h in grind (arith, nat_tests))

not_is_no_name : is_free_word (codes "not") ≡ false
unfolding reserved_words
not_is_no_name = refl

free_false : (b c d : Bool) → (b && c) ≡ false → (b && d) ≡ false → ((c ≡ true) ⊎ (d ≡ true)) → b ≡ false
free_false true c d h l (inl e) = cc (h, e)
free_false true c d h l (inr e) = cc (l, e)
free_false false c d h l e = refl

-- a name opens nothing and closes nothing
pub name_opens_nothing : (t : List ℕ) (os : List Open) → IsName t → (is_too_deep os t ≡ false) × (open_behind os t ≡ without_negations os)
name_opens_nothing t os h = changes_nothing t os (told_plain is_free_word t refl refl not_is_no_name (and_first (is_free_word t) _ h))

-- a name that is due takes its token
name_judged : (t : List ℕ) (due : List Symbol) (os : List Open) → IsName t
    → judge (record { due = name ∷ due; open_now = os }) t ≡ Ok (record { due = due; open_now = without_negations os })
name_judged t due os h =
    let free = and_first (is_free_word t) _ h in
    let k = name_opens_nothing t os h in
    passes (name ∷ due) due os t name (no_long t h) (first_fails (is_digits t) _ (word_no_digits t (and_first (is_word t) _ free))) (if_so (is_free_word t) _ _ free) refl refl k.0
    ∙ ap (λ x. Ok (record { due = due; open_now = x })) k.1

pub name_taken : (m : Mark) (due : List Symbol) (os : List Open) (ts rest : List Token) → grammar.name m ts rest
    → outcome (name ∷ due) os ts ≡ outcome due (without_negations os) rest
name_taken m due os [] rest h = absurd h
name_taken m due os (t ∷ us) rest h = step (name ∷ due) os t us _ (name_judged t.text due os h.0) ∙ ap (λ x. outcome due (without_negations os) x) h.3

-- digits are no word
digits_no_word : (t : List ℕ) → is_digits t ≡ true → is_word t ≡ false
digits_no_word t h = is_false (is_word t) (λ e. cc (h, word_no_digits t e))

number_not_long : (t : List ℕ) → is_digits t ≡ true → is_long_name t ≡ false
number_not_long t h = first_fails (is_free_word t) _ (first_fails (is_word t) _ (digits_no_word t h))

-- a number opens nothing and closes nothing
pub number_opens_nothing : (t : List ℕ) (os : List Open) → is_digits t ≡ true → (is_too_deep os t ≡ false) × (open_behind os t ≡ without_negations os)
number_opens_nothing t os h = changes_nothing t os (told_plain is_digits t refl refl refl h)

pub record IsNumber (n : ℕ) (t : List ℕ) : Type 0 where
  pub digits : is_digits t ≡ true
  pub value : number_of t ≡ n
  pub right : is_wrong_number t ≡ false

spelled_number : (n : ℕ) (t : List ℕ) → Spells n t → n ≤ 65535 → IsNumber n t
spelled_number n t h le =
    let digits : is_digits t ≡ true = and_first _ _ h.0 in
    let zero : has_leading_zero t ≡ false = not_false _ (and_second (is_digits t) _ h.0) in
    let e : number_of t ≡ n = h.1 in
    let small : nat_lt 65535 (number_of t) ≡ false = grind (arith, nat_tests) in
    record { digits = digits; value = e; right = second_fails (is_digits t) _ (or_neither _ _ small zero) }

-- a number that is due takes its token
number_judged : (s : Symbol) (t : List ℕ) (due : List Symbol) (os : List Open) (n : ℕ) → IsNumber n t → take_symbol (s ∷ due) t ≡ Some (s, due) → is_wrong_version s t ≡ false → is_wrong_count s t ≡ false
    → judge (record { due = s ∷ due; open_now = os }) t ≡ Ok (record { due = due; open_now = without_negations os })
number_judged s t due os n h k v u =
    let o = number_opens_nothing t os h.digits in
    passes (s ∷ due) due os t s (number_not_long t h.digits) h.right k v u o.0 ∙ ap (λ x. Ok (record { due = due; open_now = x })) o.1

pub number_taken : (n : Numeral) (due : List Symbol) (os : List Open) (ts rest : List Token) → grammar.numeral n ts rest
    → outcome (number ∷ due) os ts ≡ outcome due (without_negations os) rest
number_taken n due os [] rest h = absurd h
number_taken n due os (t ∷ us) rest h = let k = spelled_number n.number t.text h.0 h.1 in
    step (number ∷ due) os t us _ (number_judged number t.text due os n.number k (if_so (is_digits t.text) _ _ k.digits) refl refl) ∙ ap (λ x. outcome due (without_negations os) x) h.3

pub version_taken : (n : Numeral) (due : List Symbol) (os : List Open) (ts rest : List Token) → n.number ≡ 1 → grammar.numeral n ts rest
    → outcome (version ∷ due) os ts ≡ outcome due (without_negations os) rest
version_taken n due os [] rest e h = absurd h
version_taken n due os (t ∷ us) rest e h = let k = spelled_number n.number t.text h.0 h.1 in
    step (version ∷ due) os t us _ (number_judged version t.text due os n.number k (if_so (is_digits t.text) _ _ k.digits) (ap (λ x. not (x == 1)) (k.value ∙ e)) refl) ∙ ap (λ x. outcome due (without_negations os) x) h.3

pub count_taken : (n : Numeral) (due : List Symbol) (os : List Open) (ts rest : List Token) → 1 ≤ n.number → grammar.numeral n ts rest
    → outcome (count ∷ due) os ts ≡ outcome due (without_negations os) rest
count_taken n due os [] rest le h = absurd h
count_taken n due os (t ∷ us) rest le h = let k = spelled_number n.number t.text h.0 h.1 in
    let e : number_of t.text ≡ n.number = k.value in
    let z : (number_of t.text == 0) ≡ false = grind (arith, nat_tests) in
    step (count ∷ due) os t us _ (number_judged count t.text due os n.number k (if_so (is_digits t.text) _ _ k.digits) refl z) ∙ ap (λ x. outcome due (without_negations os) x) h.3

-- Refusals.
pub wrong_version : (n : Numeral) (due : List Symbol) (os : List Open) (ts rest : List Token) → (n.number ≡ 1 → ⊥) → grammar.numeral n ts rest
    → outcome (version ∷ due) os ts ≡ stopped n.at Version
wrong_version n due os [] rest ne h = absurd h
wrong_version n due os (t ∷ us) rest ne h = let k = spelled_number n.number t.text h.0 h.1 in
    let e : number_of t.text ≡ n.number = k.value in
    let z : (number_of t.text == 1) ≡ false = grind (arith, nat_tests) in
    step (version ∷ due) os t us (Err Version) (judged_taking (version ∷ due) os t.text _ (number_not_long t.text k.digits) k.right (if_so (is_digits t.text) _ _ k.digits) ∙ if_so (not (number_of t.text == 1)) _ _ (ap not z))
    ∙ ap (λ x. stopped x Version) (sym h.2)

pub zero_count : (n : Numeral) (due : List Symbol) (os : List Open) (ts rest : List Token) → n.number ≡ 0 → grammar.numeral n ts rest
    → outcome (count ∷ due) os ts ≡ stopped n.at Number
zero_count n due os [] rest e h = absurd h
zero_count n due os (t ∷ us) rest e h = let k = spelled_number n.number t.text h.0 h.1 in
    step (count ∷ due) os t us (Err Number) (judged_taking (count ∷ due) os t.text _ (number_not_long t.text k.digits) k.right (if_so (is_digits t.text) _ _ k.digits) ∙ if_so (number_of t.text == 0) _ _ (ap (λ x. x == 0) (k.value ∙ e)))
    ∙ ap (λ x. stopped x Number) (sym h.2)

above : (os : List Open) → 64 ≤ length os → nat_lt 63 (length os) ≡ true
above os h = grind (arith, nat_tests)

deep_at : (w : List ℕ) (due : List Symbol) (os : List Open) (t : Token) (us : List Token) → is_short w ≡ true → (is_opening w || is_not w) ≡ true → 64 ≤ length os → t.text ≡ w
    → outcome (text w ∷ due) os (t ∷ us) ≡ stopped t.at TooDeep
deep_at w due os t us short o d e =
    let taking = judged_taking (text w ∷ due) os t.text _ (ap is_long_name e ∙ short_no_name w short) (ap is_wrong_number e ∙ short_no_number w short) (taken_text w t.text due e) in
    step (text w ∷ due) os t us (Err TooDeep) (taking ∙ if_so (is_too_deep os t.text) _ _ (ap (is_too_deep os) e ∙ ap (λ x. x && nat_lt 63 (length os)) o ∙ above os d))

pub too_deep : (w : List ℕ) (due : List Symbol) (os : List Open) (t : Token) (us : List Token) → opens w ≡ true → 64 ≤ length os → bytes_eq t.text w ≡ true
    → outcome (text w ∷ due) os (t ∷ us) ≡ stopped t.at TooDeep
too_deep w due os t us p d e = deep_at w due os t us (and_first _ _ p) (ap (λ x. x || is_not w) (and_second (is_short w) _ p)) d ((bytes_eq-Decides t.text w).0 e)

pub not_too_deep : (due : List Symbol) (os : List Open) (t : Token) (us : List Token) → 64 ≤ length os → bytes_eq t.text (codes "not") ≡ true
    → outcome (text (codes "not") ∷ due) os (t ∷ us) ≡ stopped t.at TooDeep
not_too_deep due os t us d e = deep_at (codes "not") due os t us refl refl d ((bytes_eq-Decides t.text (codes "not")).0 e)

-- a token that can't stand there
pub refused_long : (due : List Symbol) (os : List Open) (t : Token) (us : List Token) → is_long_name t.text ≡ true → outcome due os (t ∷ us) ≡ stopped t.at LongName
refused_long due os t us h = step due os t us (Err LongName) (if_so (is_long_name t.text) _ _ h)

pub refused_number : (due : List Symbol) (os : List Open) (t : Token) (us : List Token) → is_long_name t.text ≡ false → is_wrong_number t.text ≡ true → outcome due os (t ∷ us) ≡ stopped t.at Number
refused_number due os t us l h = step due os t us (Err Number) (if_not (is_long_name t.text) _ _ l ∙ if_so (is_wrong_number t.text) _ _ h)

pub refused_other : (due : List Symbol) (os : List Open) (t : Token) (us : List Token) → is_long_name t.text ≡ false → is_wrong_number t.text ≡ false → take_symbol due t.text ≡ None
    → outcome due os (t ∷ us) ≡ stopped t.at OtherToken
refused_other due os t us l h n = step due os t us (Err OtherToken) (judged_taking due os t.text None l h n)

pub ended_early : (due : List Symbol) (os : List Open) → may_end due ≡ false → outcome due os [] ≡ ended false
unfolding outcome
ended_early due os h = ap ended h

-- a name that is no name is a long one or none at all
pub declined_name : (due : List Symbol) (t : List ℕ) → is_name t ≡ false → is_long_name t ≡ false → take_symbol (name ∷ due) t ≡ None
declined_name due t h l = if_not (is_free_word t) _ _ (free_false (is_free_word t) (nat_le (length t) 64) (nat_lt 64 (length t)) h l (grind (arith, nat_tests)))

pub settled_once : (os : List Open) → without_negations (without_negations os) ≡ without_negations os
settled_once [] = refl
settled_once (bracket ∷ os) = refl
settled_once (negation ∷ os) = settled_once os
