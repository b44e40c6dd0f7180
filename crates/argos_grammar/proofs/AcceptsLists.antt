-- Lists of tokens that rules, options and repetitions take.
use Rattle.std.proofs.Common.{◌≡◌, List, [], ◌∷◌, ◌++◌, drop, true, false, refl, sym, ap, ◌∙◌, subst}
use Rattle.std.specs.Prelude.{ℕ, codes, bytes_eq}
use Prim.Native.String.{String}
use Rattle.argos_base.specs.Spelling.{is_word, is_free_word}
use Rattle.argos_tokens.proofs.Fronts.{first_fails}
use Rattle.argos_grammar.specs.Forms.{Mark}
use Rattle.argos_tokens.specs.Tokens.{Token}
use Rattle.argos_grammar.specs.Faults.{Open, bracket, without_negations}
use Rattle.argos_grammar.specs.Runs.{outcome, begins_with, IsSettled, is_plain, closes}
use Rattle.argos_grammar.specs.DueSymbols.{Rule, Symbol, text, name, rule, option, repeat, w, sides, names, another_name, emission}
use Rattle.argos_grammar.specs.Grammar as grammar
use Rattle.argos_grammar.specs.Grammar.{Piece, ◌⨾◌}
use Rattle.argos_grammar.proofs.Machine.{word_rule, name_rule, rule_rule, option_in, option_out, repeat_in, repeat_out}
use Rattle.argos_grammar.proofs.Steps.{listed_none, listed_some}
use Rattle.argos_grammar.proofs.FirstWords.{IsClearOf, word_begins, no_word, piece_begins, drop_word}
use Rattle.argos_grammar.proofs.PieceFronts.{names_begin_no}
use Rattle.argos_grammar.proofs.AcceptsWords.{Took, ◌then◌, two_then, plain_word, word, a_name, opening, closing_settled}

-- where the symbols give way to others, which take the tokens
pub given : {ss qq : List Symbol} {a b : List Open} {ts rest : List Token} → ((due : List Symbol) → outcome (ss ++ due) a ts ≡ outcome (qq ++ due) a ts) → Took qq a b ts rest → Took ss a b ts rest
given e x = record { taken = λ h due. e due ∙ x.taken h due; shallow = x.shallow }

-- a rule with one right side
pub by_word : (r : Rule) {s : List ℕ} {ss : List Symbol} {a b : List Open} {ts rest : List Token} → sides r ≡ (text s ∷ ss) ∷ [] → Took (text s ∷ ss) a b ts rest → Took (rule r ∷ []) a b ts rest
by_word r {s} {ss} {a} {b} {ts} e x = given (λ due. word_rule r s ss due a ts e) x

pub by_name : (r : Rule) {ss : List Symbol} {a b : List Open} {ts rest : List Token} → sides r ≡ (name ∷ ss) ∷ [] → Took (name ∷ ss) a b ts rest → Took (rule r ∷ []) a b ts rest
by_name r {ss} {a} {b} {ts} e x = given (λ due. name_rule r ss due a ts e) x

pub by_rule : (r q : Rule) {ss : List Symbol} {a b : List Open} {ts rest : List Token} → sides r ≡ (rule q ∷ ss) ∷ [] → Took (rule q ∷ ss) a b ts rest → Took (rule r ∷ []) a b ts rest
by_rule r q {ss} {a} {b} {ts} e x = given (λ due. rule_rule r q ss due a ts e) x

-- an option, with its content and without
pub some_option : (r : Rule) {s : List ℕ} {ss : List Symbol} {a b : List Open} {ts rest : List Token} → sides r ≡ (text s ∷ ss) ∷ [] → begins_with s ts ≡ true → Took (text s ∷ ss) a b ts rest → Took (option r ∷ []) a b ts rest
some_option r {s} {ss} {a} {b} {ts} e h x = given (λ due. option_in r s ss due a ts e h) (by_word r e x)

pub no_option : (r : Rule) {s : List ℕ} {ss : List Symbol} {a : List Open} {ts rest : List Token} → sides r ≡ (text s ∷ ss) ∷ [] → begins_with s rest ≡ false → ts ≡ rest → Took (option r ∷ []) a a ts rest
no_option r {s} {ss} {a} {ts} {rest} e h k = subst (λ x. Took (option r ∷ []) a a x rest) (sym k) (record { taken = λ d due. option_out r s ss due a rest e h; shallow = λ d. d })

-- a repetition, with one more content and without
pub one_more : (r : Rule) {s : List ℕ} {ss : List Symbol} {a b c : List Open} {ts us rest : List Token} → sides r ≡ (text s ∷ ss) ∷ [] → begins_with s ts ≡ true → Took (text s ∷ ss) a b ts us
    → Took (repeat r ∷ []) b c us rest → Took (repeat r ∷ []) a c ts rest
one_more r {s} {ss} {a} {b} {c} {ts} e h x y = given (λ due. repeat_in r s ss due a ts e h) (by_word r e x then y)

pub no_more : (r : Rule) {s : List ℕ} {ss : List Symbol} {a : List Open} {ts rest : List Token} → sides r ≡ (text s ∷ ss) ∷ [] → begins_with s rest ≡ false → ts ≡ rest → Took (repeat r ∷ []) a a ts rest
no_more r {s} {ss} {a} {ts} {rest} e h k = subst (λ x. Took (repeat r ∷ []) a a x rest) (sym k) (record { taken = λ d due. repeat_out r s ss due a rest e h; shallow = λ d. d })

-- pieces that each begin with the repeated rule's word
pub each_taken : {A : Type 0} (P : A → Piece) (r : Rule) {s : List ℕ} {ss : List Symbol} (os : List Open) → sides r ≡ (text s ∷ ss) ∷ [] → ((x : A) (ts rest : List Token) → P x ts rest → begins_with s ts ≡ true)
    → ((x : A) (ts rest : List Token) → P x ts rest → Took (text s ∷ ss) os os ts rest) → (xs : List A) (ts rest : List Token) → grammar.each P xs ts rest → begins_with s rest ≡ false → Took (repeat r ∷ []) os os ts rest
each_taken P r os e front item [] ts rest h k = no_more r e k h
each_taken P r os e front item (x ∷ xs) ts rest h k = one_more r e (front x ts h.0 h.1) (item x ts h.0 h.1) (each_taken P r os e front item xs h.0 rest h.2 k)

-- no symbols, and those that give way at a word to what is due behind it
pub here : {os : List Open} {ts : List Token} → Took [] os os ts ts
here = record { taken = λ d due. refl; shallow = λ d. d }

pub past_word : (v : String) {ss qq : List Symbol} {os c : List Open} (ts us : List Token) {rest : List Token} → is_plain (codes v) ≡ true → grammar.word v ts us
    → ((due : List Symbol) → begins_with (codes v) ts ≡ true → outcome (ss ++ due) os ts ≡ outcome (qq ++ due) (without_negations os) (drop 1 ts)) → Took qq (without_negations os) c us rest → Took ss os c ts rest
past_word v {qq = qq} {os = os} ts us p h e x = record {
  taken = λ d due. e due (word_begins v ts us h) ∙ ap (λ xs. outcome (qq ++ due) (without_negations os) xs) (drop_word v ts us h) ∙ x.taken ((plain_word v p h).shallow d) due;
  shallow = λ d. x.shallow ((plain_word v p h).shallow d);
}

-- lists of names
another_taken : (os : List Open) → IsSettled os → (m : Mark) (ts rest : List Token) → (grammar.word "," ⨾ grammar.name m) ts rest → Took (w "," ∷ name ∷ []) os os ts rest
another_taken os s m ts rest h = word "," refl s h.1 then a_name m s h.2

pub names_taken : (ms : List Mark) {os : List Open} {ts rest : List Token} → IsSettled os → grammar.names ms ts rest → begins_with (codes ",") rest ≡ false → Took (rule names ∷ []) os os ts rest
names_taken [] s h c = absurd h
names_taken (m ∷ ms) {os} {ts} {rest} s h c = by_name names refl (a_name m s h.1 then each_taken (λ x. grammar.word "," ⨾ grammar.name x) another_name os refl (piece_begins "," grammar.name) (another_taken os s) ms h.0 rest h.2 c)

-- names perhaps, before a bracket that closes
pub enclosed_names : (v : String) (ms : List Mark) {os : List Open} (ts us rest : List Token) → is_word (codes v) ≡ false → bytes_eq (codes v) (codes ",") ≡ false → closes (codes v) ≡ true → IsSettled os
    → grammar.optional grammar.names ms ts us → grammar.word v us rest → Took (option names ∷ text (codes v) ∷ []) (bracket ∷ os) os ts rest
enclosed_names v [] {os} ts us rest n e p s h k =
    given {qq = text (codes v) ∷ []} (λ due. listed_none (codes v) due (bracket ∷ os) ts n (subst (λ x. begins_with (codes v) x ≡ true) (sym h) (word_begins v us rest k)))
    (subst (λ x. Took (text (codes v) ∷ []) (bracket ∷ os) os x rest) (sym h) (closing_settled v p s k))
enclosed_names v (m ∷ ms) {os} ts us rest n e p s h k =
    given {qq = rule names ∷ text (codes v) ∷ []} (λ due. listed_some (codes v) due (bracket ∷ os) ts (names_begin_no (codes v) (m ∷ ms) ts us (first_fails (is_free_word (codes v)) _ (first_fails (is_word (codes v)) _ n)) h))
    (names_taken (m ∷ ms) refl h (no_word "," v us rest e k) then closing_settled v p s k)

-- in parentheses, before what follows
pub listed_then : (ms : List Mark) {ss : List Symbol} {os c : List Open} {ts us rest : List Token} → IsSettled os → grammar.listed ms ts us → Took ss os c us rest → Took (w "(" ∷ option names ∷ w ")" ∷ ss) os c ts rest
listed_then ms {us = us} s h x = opening "(" refl h.1 then two_then (enclosed_names ")" ms h.0 h.2.0 us refl refl refl s h.2.1 h.2.2) x

-- what is emitted
pub emitted_taken : (ms : List Mark) {os : List Open} {ts rest : List Token} → IsSettled os → grammar.emitted ms ts rest → IsClearOf (codes "," ∷ codes "emit" ∷ []) rest → Took (option emission ∷ []) os os ts rest
emitted_taken [] s h c = no_option emission refl c.1.0 h
emitted_taken (m ∷ ms) {os} {ts} s h c = some_option emission refl (word_begins "emit" ts h.0 h.1) (word "emit" refl s h.1 then names_taken (m ∷ ms) s h.2 c.0)
