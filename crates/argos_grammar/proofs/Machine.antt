-- How the machine of due symbols goes on: a rule may give way to its right side at once, and an option or a repetition to its content.
use Rattle.std.proofs.Common.{◌≡◌, refl, sym, ap, ◌∙◌, ◌∷◌, ◌++◌, []}
use Rattle.std.specs.Prelude.{ℕ, List, if◌then◌else◌, Bool, true, false, Option, None, Err, bytes_eq}
use Rattle.std.specs.List.{list_any}
use Rattle.std.proofs.Math.Bool.{or-false}
use Rattle.argos_base.proofs.Bools.{or_first_false, or_second_false}
use Rattle.argos_tokens.specs.Tokens.{Token}
use Rattle.argos_grammar.specs.Faults.{Open, is_long_name, is_wrong_number, after_taking, LongName, Number}
use Rattle.argos_grammar.specs.Runs.{ended, outcome, after_judging, begins_with}
use Rattle.argos_grammar.specs.DueSymbols.{Rule, Symbol, text, version, count, number, name, rule, option, repeat, sides, at_first, begins, can_begin, choose_side, take_symbol_within, take_symbol, may_end, program, aspect, cert, component, names, another_name, block, process, another_process, state, body, trans, timeout, emission, guard, another_part, part, another_unit, unit, onset, sets, another_set, set, formula, another_conjunct, conjunct, another_factor, factor, atom, side, claim, elapsed}
use Rattle.argos_grammar.proofs.Leaves.{if_so, if_not}

-- six looks are as many as a rule needs, and what begins it needs no fifth step
looks : (r : Rule) (due : List Symbol) (t : List ℕ)
    → (take_symbol_within 6 (rule r ∷ due) t ≡ take_symbol_within 7 (rule r ∷ due) t) × (take_symbol_within 7 (rule r ∷ due) t ≡ take_symbol_within 8 (rule r ∷ due) t) × (list_any (at_first (begins t 4)) (sides r) ≡ list_any (at_first (can_begin t)) (sides r))
looks program due t = (refl, refl, refl)
looks aspect due t = (refl, refl, refl)
looks cert due t = (refl, refl, refl)
looks component due t = (refl, refl, refl)
looks names due t = (refl, refl, refl)
looks another_name due t = (refl, refl, refl)
looks block due t = (refl, refl, refl)
looks process due t = (refl, refl, refl)
looks another_process due t = (refl, refl, refl)
looks state due t = (refl, refl, refl)
looks body due t = (refl, refl, refl)
looks trans due t = (refl, refl, refl)
looks timeout due t = (refl, refl, refl)
looks emission due t = (refl, refl, refl)
looks guard due t = (refl, refl, refl)
looks another_part due t = (refl, refl, refl)
looks part due t = (refl, refl, refl)
looks another_unit due t = (refl, refl, refl)
looks unit due t = (refl, refl, refl)
looks onset due t = (refl, refl, refl)
looks sets due t = (refl, refl, refl)
looks another_set due t = (refl, refl, refl)
looks set due t = (refl, refl, refl)
looks formula due t = (refl, refl, refl)
looks another_conjunct due t = (refl, refl, refl)
looks conjunct due t = (refl, refl, refl)
looks another_factor due t = (refl, refl, refl)
looks factor due t = (refl, refl, refl)
looks atom due t = (refl, refl, refl)
looks side due t = (refl, refl, refl)
looks claim due t = (refl, refl, refl)
looks elapsed due t = (refl, refl, refl)

if_same : {A : Type 0} (b : Bool) (x x' y y' : A) → x ≡ x' → y ≡ y' → (if b then x else y) ≡ (if b then x' else y')
if_same true x x' y y' p q = p
if_same false x x' y y' p q = q

-- one look less finds the same
pub fuel : (due : List Symbol) (t : List ℕ) → take_symbol_within 7 due t ≡ take_symbol_within 8 due t
fuel [] t = refl
fuel (rule r ∷ due) t = (looks r due t).1
fuel (option r ∷ due) t = if_same (can_begin t (rule r)) _ _ _ _ (looks r due t).0 (fuel due t)
fuel (repeat r ∷ due) t = if_same (can_begin t (rule r)) _ _ _ _ (looks r (repeat r ∷ due) t).0 (fuel due t)
fuel (text s ∷ due) t = refl
fuel (name ∷ due) t = refl
fuel (version ∷ due) t = refl
fuel (count ∷ due) t = refl
fuel (number ∷ due) t = refl

chosen_none : (again : List Symbol → Option (Symbol × List Symbol)) (sss : List (List Symbol)) (due : List Symbol) (t : List ℕ)
    → list_any (at_first (can_begin t)) sss ≡ false → choose_side again sss due t ≡ None
chosen_none again [] due t h = refl
chosen_none again (ss ∷ more) due t h = ap (λ b. if b then again (ss ++ due) else choose_side again more due t) (or_first_false (at_first (can_begin t) ss) _ h)
    ∙ chosen_none again more due t (or_second_false (at_first (can_begin t) ss) _ h)

-- a rule that can't begin with the token doesn't take it
pub cannot : (r : Rule) (due : List Symbol) (t : List ℕ) → can_begin t (rule r) ≡ false → take_symbol (rule r ∷ due) t ≡ None
cannot r due t h = chosen_none (λ more. take_symbol_within 7 more t) (sides r) due t (sym (looks r due t).2 ∙ h)

pub if_false : {A : Type 0} (b : Bool) (x y z : A) → (b ≡ true → x ≡ z) → (b ≡ false → y ≡ z) → (if b then x else y) ≡ z
if_false true x y z p q = p refl
if_false false x y z p q = q refl

-- the last right side of a rule comes in, whatever the token, if what it begins with takes nothing that can't begin it
last_side : (q : Symbol) (ss due : List Symbol) (t : List ℕ) → (can_begin t q ≡ false → take_symbol (q ∷ ss ++ due) t ≡ None) → choose_side (λ more. take_symbol_within 7 more t) ((q ∷ ss) ∷ []) due t ≡ take_symbol (q ∷ ss ++ due) t
last_side q ss due t none = if_false (can_begin t q) _ None _ (λ h. fuel (q ∷ ss ++ due) t) (λ h. sym (none h))

-- where it begins with a word, and with a name
pub last_word : (s : List ℕ) (ss due : List Symbol) (t : List ℕ) → choose_side (λ more. take_symbol_within 7 more t) ((text s ∷ ss) ∷ []) due t ≡ take_symbol (text s ∷ ss ++ due) t
last_word s ss due t = last_side (text s) ss due t (λ h. if_not (can_begin t (text s)) _ _ h)

last_name : (ss due : List Symbol) (t : List ℕ) → choose_side (λ more. take_symbol_within 7 more t) ((name ∷ ss) ∷ []) due t ≡ take_symbol (name ∷ ss ++ due) t
last_name ss due t = last_side name ss due t (λ h. if_not (can_begin t name) _ _ h)

-- where the first token is taken alike, all goes alike
pub same_at : (a b : List Symbol) (os : List Open) (t : Token) (ts : List Token) → take_symbol a t.text ≡ take_symbol b t.text → outcome a os (t ∷ ts) ≡ outcome b os (t ∷ ts)
unfolding outcome
same_at a b os t ts h = ap (λ x. after_judging t.at (if is_long_name t.text then Err LongName else (if is_wrong_number t.text then Err Number else after_taking os t.text x))
    (λ s. outcome s.due s.open_now ts)) h

pub same_from : (a b : List Symbol) (os : List Open) (ts : List Token) → may_end a ≡ may_end b → ((t : List ℕ) → take_symbol a t ≡ take_symbol b t) → outcome a os ts ≡ outcome b os ts
unfolding outcome
same_from a b os [] e h = ap ended e
same_from a b os (t ∷ ts) e h = same_at a b os t ts (h t.text)

-- a rule with one right side gives way to it
only_side : (r : Rule) (q : Symbol) (ss due : List Symbol) (os : List Open) (ts : List Token) → sides r ≡ (q ∷ ss) ∷ [] → may_end (q ∷ ss ++ due) ≡ false → ((t : List ℕ) → choose_side (λ more. take_symbol_within 7 more t) ((q ∷ ss) ∷ []) due t ≡ take_symbol (q ∷ ss ++ due) t)
    → outcome (rule r ∷ due) os ts ≡ outcome (q ∷ ss ++ due) os ts
only_side r q ss due os ts e ends last = same_from _ _ os ts (sym ends) (λ t. ap (λ sss. choose_side (λ more. take_symbol_within 7 more t) sss due t) e ∙ last t)

pub word_rule : (r : Rule) (s : List ℕ) (ss due : List Symbol) (os : List Open) (ts : List Token) → sides r ≡ (text s ∷ ss) ∷ [] → outcome (rule r ∷ due) os ts ≡ outcome (text s ∷ ss ++ due) os ts
word_rule r s ss due os ts e = only_side r (text s) ss due os ts e refl (λ t. last_word s ss due t)

pub name_rule : (r : Rule) (ss due : List Symbol) (os : List Open) (ts : List Token) → sides r ≡ (name ∷ ss) ∷ [] → outcome (rule r ∷ due) os ts ≡ outcome (name ∷ ss ++ due) os ts
name_rule r ss due os ts e = only_side r name ss due os ts e refl (λ t. last_name ss due t)

pub rule_rule : (r q : Rule) (ss due : List Symbol) (os : List Open) (ts : List Token) → sides r ≡ (rule q ∷ ss) ∷ [] → outcome (rule r ∷ due) os ts ≡ outcome (rule q ∷ ss ++ due) os ts
rule_rule r q ss due os ts e = only_side r (rule q) ss due os ts e refl (λ t. last_side (rule q) ss due t (λ h. cannot q (ss ++ due) t h))

-- an option or a repetition whose content is a word and more, where the word stands next, and where it doesn't
can_by_word : (r : Rule) (s : List ℕ) (ss : List Symbol) (t : List ℕ) → sides r ≡ (text s ∷ ss) ∷ [] → can_begin t (rule r) ≡ bytes_eq t s
can_by_word r s ss t e = ap (λ sss. list_any (at_first (begins t 4)) sss) e ∙ or-false (bytes_eq t s)

pub option_in : (r : Rule) (s : List ℕ) (ss due : List Symbol) (os : List Open) (ts : List Token) → sides r ≡ (text s ∷ ss) ∷ [] → begins_with s ts ≡ true
    → outcome (option r ∷ due) os ts ≡ outcome (rule r ∷ due) os ts
option_in r s ss due os [] e h = cc h
option_in r s ss due os (t ∷ ts) e h = same_at (option r ∷ due) (rule r ∷ due) os t ts (if_so (can_begin t.text (rule r)) _ _ (can_by_word r s ss t.text e ∙ h) ∙ fuel (rule r ∷ due) t.text)

pub repeat_in : (r : Rule) (s : List ℕ) (ss due : List Symbol) (os : List Open) (ts : List Token) → sides r ≡ (text s ∷ ss) ∷ [] → begins_with s ts ≡ true
    → outcome (repeat r ∷ due) os ts ≡ outcome (rule r ∷ repeat r ∷ due) os ts
repeat_in r s ss due os [] e h = cc h
repeat_in r s ss due os (t ∷ ts) e h = same_at (repeat r ∷ due) (rule r ∷ repeat r ∷ due) os t ts (if_so (can_begin t.text (rule r)) _ _ (can_by_word r s ss t.text e ∙ h) ∙ fuel (rule r ∷ repeat r ∷ due) t.text)

pub option_out : (r : Rule) (s : List ℕ) (ss due : List Symbol) (os : List Open) (ts : List Token) → sides r ≡ (text s ∷ ss) ∷ [] → begins_with s ts ≡ false
    → outcome (option r ∷ due) os ts ≡ outcome due os ts
unfolding outcome
option_out r s ss due os [] e h = refl
option_out r s ss due os (t ∷ ts) e h = same_at (option r ∷ due) due os t ts (if_not (can_begin t.text (rule r)) _ _ (can_by_word r s ss t.text e ∙ h))

pub repeat_out : (r : Rule) (s : List ℕ) (ss due : List Symbol) (os : List Open) (ts : List Token) → sides r ≡ (text s ∷ ss) ∷ [] → begins_with s ts ≡ false
    → outcome (repeat r ∷ due) os ts ≡ outcome due os ts
unfolding outcome
repeat_out r s ss due os [] e h = refl
repeat_out r s ss due os (t ∷ ts) e h = same_at (repeat r ∷ due) due os t ts (if_not (can_begin t.text (rule r)) _ _ (can_by_word r s ss t.text e ∙ h))
