-- What the machine of due symbols does at each rule, where the next token is this one or isn't.
use Rattle.std.proofs.Common.{◌≡◌, refl, sym, ap, ◌∙◌, ◌∷◌, ◌++◌, [], List, drop, true, false}
use Rattle.std.specs.Prelude.{ℕ, codes, bytes_eq, ◌&&◌, ◌||◌, not}
use Rattle.std.proofs.lemmas.Slice.Eq.{bytes_eq-Decides}
use Rattle.argos_base.specs.Spelling.{is_word, is_reserved, is_free_word}
use Rattle.argos_tokens.specs.Tokens.{Token}
use Rattle.argos_grammar.specs.Faults.{Open, without_negations}
use Rattle.argos_grammar.specs.Runs.{outcome, begins_with, IsSettled, is_plain}
use Rattle.argos_grammar.specs.DueSymbols.{Rule, Symbol, text, version, count, number, name, rule, option, repeat, w, sides, take_symbol, can_begin, listed, program, aspect, cert, component, names, another_name, block, process, another_process, state, body, trans, timeout, emission, guard, another_part, part, another_unit, unit, onset, sets, another_set, set, formula, another_conjunct, conjunct, another_factor, factor, atom, side, claim, elapsed}
use Rattle.argos_grammar.proofs.Leaves.{if_not}
use Rattle.argos_grammar.proofs.FirstWords.{first_plain}
use Rattle.argos_grammar.proofs.Machine.{word_rule, name_rule, rule_rule, option_in, option_out, repeat_in, repeat_out, same_at, fuel, cannot, if_false, last_word}
use Rattle.std.proofs.lemmas.Grind.{common_steps}

-- the content of an option or a repetition begins with this word, which is taken
option_first : (r : Rule) (s : List ℕ) (ss due : List Symbol) (os : List Open) (ts : List Token) → sides r ≡ (text s ∷ ss) ∷ [] → is_plain s ≡ true → begins_with s ts ≡ true → IsSettled os
    → outcome (option r ∷ due) os ts ≡ outcome (ss ++ due) os (drop 1 ts)
option_first r s ss due os ts e p h k = option_in r s ss due os ts e h ∙ word_rule r s ss due os ts e ∙ first_plain s (ss ++ due) os ts (drop 1 ts) p h refl ∙ ap (λ x. outcome (ss ++ due) x (drop 1 ts)) k

repeat_first : (r : Rule) (s : List ℕ) (ss due : List Symbol) (os : List Open) (ts : List Token) → sides r ≡ (text s ∷ ss) ∷ [] → is_plain s ≡ true → begins_with s ts ≡ true → IsSettled os
    → outcome (repeat r ∷ due) os ts ≡ outcome (ss ++ repeat r ∷ due) os (drop 1 ts)
repeat_first r s ss due os ts e p h k = repeat_in r s ss due os ts e h ∙ word_rule r s ss (repeat r ∷ due) os ts e ∙ first_plain s (ss ++ repeat r ∷ due) os ts (drop 1 ts) p h refl
    ∙ ap (λ x. outcome (ss ++ repeat r ∷ due) x (drop 1 ts)) k

pub names_rule : (due : List Symbol) (os : List Open) (ts : List Token) → outcome (rule names ∷ due) os ts ≡ outcome (name ∷ repeat another_name ∷ due) os ts
names_rule due os ts = name_rule names (repeat another_name ∷ []) due os ts refl

pub another_name_in : (due : List Symbol) (os : List Open) (ts : List Token) → begins_with (codes ",") ts ≡ true → IsSettled os → outcome (repeat another_name ∷ due) os ts ≡ outcome (name ∷ repeat another_name ∷ due) os (drop 1 ts)
another_name_in due os ts h s = repeat_first another_name (codes ",") (name ∷ []) due os ts refl refl h s

pub another_name_out : (due : List Symbol) (os : List Open) (ts : List Token) → begins_with (codes ",") ts ≡ false → outcome (repeat another_name ∷ due) os ts ≡ outcome due os ts
another_name_out due os ts h = repeat_out another_name (codes ",") (name ∷ []) due os ts refl h

pub emission_in : (due : List Symbol) (os : List Open) (ts : List Token) → begins_with (codes "emit") ts ≡ true → IsSettled os → outcome (option emission ∷ due) os ts ≡ outcome (rule names ∷ due) os (drop 1 ts)
emission_in due os ts h s = option_first emission (codes "emit") (rule names ∷ []) due os ts refl refl h s

pub emission_out : (due : List Symbol) (os : List Open) (ts : List Token) → begins_with (codes "emit") ts ≡ false → outcome (option emission ∷ due) os ts ≡ outcome due os ts
emission_out due os ts h = option_out emission (codes "emit") (rule names ∷ []) due os ts refl h

pub guard_rule : (due : List Symbol) (os : List Open) (ts : List Token) → outcome (rule guard ∷ due) os ts ≡ outcome (rule part ∷ repeat another_part ∷ due) os ts
guard_rule due os ts = rule_rule guard part (repeat another_part ∷ []) due os ts refl

pub another_part_in : (due : List Symbol) (os : List Open) (ts : List Token) → begins_with (codes "or") ts ≡ true → IsSettled os → outcome (repeat another_part ∷ due) os ts ≡ outcome (rule part ∷ repeat another_part ∷ due) os (drop 1 ts)
another_part_in due os ts h s = repeat_first another_part (codes "or") (rule part ∷ []) due os ts refl refl h s

pub another_part_out : (due : List Symbol) (os : List Open) (ts : List Token) → begins_with (codes "or") ts ≡ false → outcome (repeat another_part ∷ due) os ts ≡ outcome due os ts
another_part_out due os ts h = repeat_out another_part (codes "or") (rule part ∷ []) due os ts refl h

pub part_rule : (due : List Symbol) (os : List Open) (ts : List Token) → outcome (rule part ∷ due) os ts ≡ outcome (rule unit ∷ repeat another_unit ∷ due) os ts
part_rule due os ts = rule_rule part unit (repeat another_unit ∷ []) due os ts refl

pub another_unit_in : (due : List Symbol) (os : List Open) (ts : List Token) → begins_with (codes "and") ts ≡ true → IsSettled os → outcome (repeat another_unit ∷ due) os ts ≡ outcome (rule unit ∷ repeat another_unit ∷ due) os (drop 1 ts)
another_unit_in due os ts h s = repeat_first another_unit (codes "and") (rule unit ∷ []) due os ts refl refl h s

pub another_unit_out : (due : List Symbol) (os : List Open) (ts : List Token) → begins_with (codes "and") ts ≡ false → outcome (repeat another_unit ∷ due) os ts ≡ outcome due os ts
another_unit_out due os ts h = repeat_out another_unit (codes "and") (rule unit ∷ []) due os ts refl h

-- where the first token is this one, and both take it alike
at_word : (a b : List Symbol) (os : List Open) (ts : List Token) (s : List ℕ) → begins_with s ts ≡ true → take_symbol a s ≡ take_symbol b s → outcome a os ts ≡ outcome b os ts
at_word a b os [] s h e = cc h
at_word a b os (t ∷ ts) s h e = let k : t.text ≡ s = (bytes_eq-Decides t.text s).0 h in
    same_at a b os t ts (ap (take_symbol a) k ∙ e ∙ ap (take_symbol b) (sym k))

pub unit_not : (due : List Symbol) (os : List Open) (ts : List Token) → begins_with (codes "not") ts ≡ true → outcome (rule unit ∷ due) os ts ≡ outcome (w "not" ∷ rule unit ∷ due) os ts
unit_not due os ts h = at_word _ _ os ts (codes "not") h refl

pub unit_true : (due : List Symbol) (os : List Open) (ts : List Token) → begins_with (codes "true") ts ≡ true → outcome (rule unit ∷ due) os ts ≡ outcome due (without_negations os) (drop 1 ts)
unit_true due os ts h = at_word (rule unit ∷ due) (w "true" ∷ due) os ts (codes "true") h refl ∙ first_plain (codes "true") due os ts (drop 1 ts) refl h refl

pub unit_false : (due : List Symbol) (os : List Open) (ts : List Token) → begins_with (codes "false") ts ≡ true → outcome (rule unit ∷ due) os ts ≡ outcome due (without_negations os) (drop 1 ts)
unit_false due os ts h = at_word (rule unit ∷ due) (w "false" ∷ due) os ts (codes "false") h refl ∙ first_plain (codes "false") due os ts (drop 1 ts) refl h refl

pub unit_open : (due : List Symbol) (os : List Open) (ts : List Token) → begins_with (codes "(") ts ≡ true → outcome (rule unit ∷ due) os ts ≡ outcome (w "(" ∷ rule guard ∷ w ")" ∷ due) os ts
unit_open due os ts h = at_word _ _ os ts (codes "(") h refl

pub unit_name : (due : List Symbol) (os : List Open) (ts : List Token) → begins_with (codes "not") ts ≡ false → begins_with (codes "true") ts ≡ false → begins_with (codes "false") ts ≡ false
    → begins_with (codes "(") ts ≡ false → outcome (rule unit ∷ due) os ts ≡ outcome (name ∷ due) os ts
unfolding outcome
unit_name due os [] a b c d = refl
unit_name due os (t ∷ ts) a b c d = same_at (rule unit ∷ due) (name ∷ due) os t ts (if_not (bytes_eq t.text (codes "not")) _ _ a ∙ if_not (bytes_eq t.text (codes "true")) _ _ b ∙ if_not (bytes_eq t.text (codes "false")) _ _ c
    ∙ if_false (is_free_word t.text) _ _ _ (λ h. refl) (λ h. if_not (bytes_eq t.text (codes "(")) _ _ d ∙ sym (if_not (is_free_word t.text) _ _ h)))

pub trans_rule : (due : List Symbol) (os : List Open) (ts : List Token) → outcome (rule trans ∷ due) os ts ≡ outcome (w "when" ∷ rule guard ∷ option emission ∷ w "goto" ∷ name ∷ w ";" ∷ due) os ts
trans_rule due os ts = word_rule trans (codes "when") (rule guard ∷ option emission ∷ w "goto" ∷ name ∷ w ";" ∷ []) due os ts refl

pub trans_in : (due : List Symbol) (os : List Open) (ts : List Token) → begins_with (codes "when") ts ≡ true → outcome (repeat trans ∷ due) os ts ≡ outcome (rule trans ∷ repeat trans ∷ due) os ts
trans_in due os ts h = repeat_in trans (codes "when") (rule guard ∷ option emission ∷ w "goto" ∷ name ∷ w ";" ∷ []) due os ts refl h

pub trans_out : (due : List Symbol) (os : List Open) (ts : List Token) → begins_with (codes "when") ts ≡ false → outcome (repeat trans ∷ due) os ts ≡ outcome due os ts
trans_out due os ts h = repeat_out trans (codes "when") (rule guard ∷ option emission ∷ w "goto" ∷ name ∷ w ";" ∷ []) due os ts refl h

pub timeout_rule : (due : List Symbol) (os : List Open) (ts : List Token) → outcome (rule timeout ∷ due) os ts ≡ outcome (w "after" ∷ count ∷ w "of" ∷ name ∷ option emission ∷ w "goto" ∷ name ∷ w ";" ∷ due) os ts
timeout_rule due os ts = word_rule timeout (codes "after") (count ∷ w "of" ∷ name ∷ option emission ∷ w "goto" ∷ name ∷ w ";" ∷ []) due os ts refl

pub timeout_in : (due : List Symbol) (os : List Open) (ts : List Token) → begins_with (codes "after") ts ≡ true → outcome (option timeout ∷ due) os ts ≡ outcome (rule timeout ∷ due) os ts
timeout_in due os ts h = option_in timeout (codes "after") (count ∷ w "of" ∷ name ∷ option emission ∷ w "goto" ∷ name ∷ w ";" ∷ []) due os ts refl h

pub timeout_out : (due : List Symbol) (os : List Open) (ts : List Token) → begins_with (codes "after") ts ≡ false → outcome (option timeout ∷ due) os ts ≡ outcome due os ts
timeout_out due os ts h = option_out timeout (codes "after") (count ∷ w "of" ∷ name ∷ option emission ∷ w "goto" ∷ name ∷ w ";" ∷ []) due os ts refl h

pub state_rule : (due : List Symbol) (os : List Open) (ts : List Token) → outcome (rule state ∷ due) os ts ≡ outcome (w "state" ∷ name ∷ option body ∷ w "{" ∷ repeat trans ∷ option timeout ∷ w "}" ∷ due) os ts
state_rule due os ts = word_rule state (codes "state") (name ∷ option body ∷ w "{" ∷ repeat trans ∷ option timeout ∷ w "}" ∷ []) due os ts refl

pub state_in : (due : List Symbol) (os : List Open) (ts : List Token) → begins_with (codes "state") ts ≡ true → outcome (repeat state ∷ due) os ts ≡ outcome (rule state ∷ repeat state ∷ due) os ts
state_in due os ts h = repeat_in state (codes "state") (name ∷ option body ∷ w "{" ∷ repeat trans ∷ option timeout ∷ w "}" ∷ []) due os ts refl h

pub state_out : (due : List Symbol) (os : List Open) (ts : List Token) → begins_with (codes "state") ts ≡ false → outcome (repeat state ∷ due) os ts ≡ outcome due os ts
state_out due os ts h = repeat_out state (codes "state") (name ∷ option body ∷ w "{" ∷ repeat trans ∷ option timeout ∷ w "}" ∷ []) due os ts refl h

pub body_in : (due : List Symbol) (os : List Open) (ts : List Token) → begins_with (codes "body") ts ≡ true → IsSettled os → outcome (option body ∷ due) os ts ≡ outcome (rule block ∷ due) os (drop 1 ts)
body_in due os ts h s = option_first body (codes "body") (rule block ∷ []) due os ts refl refl h s

pub body_out : (due : List Symbol) (os : List Open) (ts : List Token) → begins_with (codes "body") ts ≡ false → outcome (option body ∷ due) os ts ≡ outcome due os ts
body_out due os ts h = option_out body (codes "body") (rule block ∷ []) due os ts refl h

pub block_rule : (due : List Symbol) (os : List Open) (ts : List Token) → outcome (rule block ∷ due) os ts ≡ outcome (w "{" ∷ rule process ∷ repeat another_process ∷ w "}" ∷ due) os ts
block_rule due os ts = word_rule block (codes "{") (rule process ∷ repeat another_process ∷ w "}" ∷ []) due os ts refl

pub another_process_in : (due : List Symbol) (os : List Open) (ts : List Token) → begins_with (codes "||") ts ≡ true → IsSettled os → outcome (repeat another_process ∷ due) os ts ≡ outcome (rule process ∷ repeat another_process ∷ due) os (drop 1 ts)
another_process_in due os ts h s = repeat_first another_process (codes "||") (rule process ∷ []) due os ts refl refl h s

pub another_process_out : (due : List Symbol) (os : List Open) (ts : List Token) → begins_with (codes "||") ts ≡ false → outcome (repeat another_process ∷ due) os ts ≡ outcome due os ts
another_process_out due os ts h = repeat_out another_process (codes "||") (rule process ∷ []) due os ts refl h

pub process_automaton : (due : List Symbol) (os : List Open) (ts : List Token) → begins_with (codes "automaton") ts ≡ true → outcome (rule process ∷ due) os ts ≡ outcome (w "automaton" ∷ w "{" ∷ w "init" ∷ name ∷ w ";" ∷ rule state ∷ repeat state ∷ w "}" ∷ due) os ts
process_automaton due os ts h = at_word _ _ os ts (codes "automaton") h refl

pub process_local : (due : List Symbol) (os : List Open) (ts : List Token) → begins_with (codes "local") ts ≡ true → outcome (rule process ∷ due) os ts ≡ outcome (w "local" ∷ rule names ∷ w "in" ∷ rule block ∷ due) os ts
process_local due os ts h = at_word _ _ os ts (codes "local") h refl

pub process_freeze : (due : List Symbol) (os : List Open) (ts : List Token) → begins_with (codes "freeze") ts ≡ true → outcome (rule process ∷ due) os ts ≡ outcome (w "freeze" ∷ name ∷ w "in" ∷ rule block ∷ due) os ts
process_freeze due os ts h = at_word _ _ os ts (codes "freeze") h refl

pub process_run : (due : List Symbol) (os : List Open) (ts : List Token) → begins_with (codes "automaton") ts ≡ false → begins_with (codes "local") ts ≡ false → begins_with (codes "freeze") ts ≡ false
    → outcome (rule process ∷ due) os ts ≡ outcome (w "run" ∷ name ∷ listed (w "->" ∷ listed due)) os ts
unfolding outcome
process_run due os [] a b c = refl
process_run due os (t ∷ ts) a b c = same_at (rule process ∷ due) (w "run" ∷ name ∷ listed (w "->" ∷ listed due)) os t ts
    (if_not (bytes_eq t.text (codes "automaton")) _ _ a ∙ if_not (bytes_eq t.text (codes "local")) _ _ b ∙ if_not (bytes_eq t.text (codes "freeze")) _ _ c ∙ last_word (codes "run") (name ∷ listed (w "->" ∷ listed [])) due t.text)

-- [ names ] before a bracket that closes
pub listed_none : (s : List ℕ) (due : List Symbol) (os : List Open) (ts : List Token) → is_word s ≡ false → begins_with s ts ≡ true → outcome (option names ∷ text s ∷ due) os ts ≡ outcome (text s ∷ due) os ts
listed_none s due os ts e h = at_word _ _ os ts s h (if_not (can_begin s (rule names)) _ _ (ap (λ x. (x && not (is_reserved s)) || false) e))

pub listed_some : (s : List ℕ) (due : List Symbol) (os : List Open) (ts : List Token) → begins_with s ts ≡ false → outcome (option names ∷ text s ∷ due) os ts ≡ outcome (rule names ∷ text s ∷ due) os ts
unfolding outcome
listed_some s due os [] h = refl
listed_some s due os (t ∷ ts) h = same_at (option names ∷ text s ∷ due) (rule names ∷ text s ∷ due) os t ts
    (if_false (can_begin t.text (rule names)) _ _ _ (λ k. fuel (rule names ∷ text s ∷ due) t.text) (λ k. if_not (bytes_eq t.text s) _ _ h ∙ sym (cannot names (text s ∷ due) t.text k)))

pub component_rule : (due : List Symbol) (os : List Open) (ts : List Token) → outcome (rule component ∷ due) os ts ≡ outcome (w "component" ∷ name ∷ w "(" ∷ option names ∷ w ")" ∷ w "->" ∷ w "(" ∷ option names ∷ w ")" ∷ rule block ∷ due) os ts
component_rule due os ts = word_rule component (codes "component") (name ∷ w "(" ∷ option names ∷ w ")" ∷ w "->" ∷ w "(" ∷ option names ∷ w ")" ∷ rule block ∷ []) due os ts refl

pub component_in : (due : List Symbol) (os : List Open) (ts : List Token) → begins_with (codes "component") ts ≡ true → outcome (repeat component ∷ due) os ts ≡ outcome (rule component ∷ repeat component ∷ due) os ts
component_in due os ts h = repeat_in component (codes "component") (name ∷ listed (w "->" ∷ listed (rule block ∷ []))) due os ts refl h

pub component_out : (due : List Symbol) (os : List Open) (ts : List Token) → begins_with (codes "component") ts ≡ false → outcome (repeat component ∷ due) os ts ≡ outcome due os ts
component_out due os ts h = repeat_out component (codes "component") (name ∷ listed (w "->" ∷ listed (rule block ∷ []))) due os ts refl h

pub program_rule : (due : List Symbol) (os : List Open) (ts : List Token) → outcome (rule program ∷ due) os ts ≡ outcome (w "argos" ∷ version ∷ w ";" ∷ rule component ∷ repeat component ∷ due) os ts
program_rule due os ts = word_rule program (codes "argos") (version ∷ w ";" ∷ rule component ∷ repeat component ∷ []) due os ts refl

pub aspect_rule : (due : List Symbol) (os : List Open) (ts : List Token) → outcome (rule aspect ∷ due) os ts ≡ outcome (w "larissa" ∷ version ∷ w ";" ∷ rule component ∷ repeat component ∷ w "advice" ∷ option emission ∷ rule onset ∷ w "[" ∷ option sets ∷ w "]" ∷ w ";" ∷ due) os ts
aspect_rule due os ts = word_rule aspect (codes "larissa") (version ∷ w ";" ∷ rule component ∷ repeat component ∷ w "advice" ∷ option emission ∷ rule onset ∷ w "[" ∷ option sets ∷ w "]" ∷ w ";" ∷ []) due os ts refl

pub set_rule : (due : List Symbol) (os : List Open) (ts : List Token) → outcome (rule set ∷ due) os ts ≡ outcome (w "{" ∷ option names ∷ w "}" ∷ due) os ts
set_rule due os ts = word_rule set (codes "{") (option names ∷ w "}" ∷ []) due os ts refl

pub sets_rule : (due : List Symbol) (os : List Open) (ts : List Token) → outcome (rule sets ∷ due) os ts ≡ outcome (rule set ∷ repeat another_set ∷ due) os ts
sets_rule due os ts = rule_rule sets set (repeat another_set ∷ []) due os ts refl

pub another_set_in : (due : List Symbol) (os : List Open) (ts : List Token) → begins_with (codes ",") ts ≡ true → IsSettled os → outcome (repeat another_set ∷ due) os ts ≡ outcome (rule set ∷ repeat another_set ∷ due) os (drop 1 ts)
another_set_in due os ts h s = repeat_first another_set (codes ",") (rule set ∷ []) due os ts refl refl h s

pub another_set_out : (due : List Symbol) (os : List Open) (ts : List Token) → begins_with (codes ",") ts ≡ false → outcome (repeat another_set ∷ due) os ts ≡ outcome due os ts
another_set_out due os ts h = repeat_out another_set (codes ",") (rule set ∷ []) due os ts refl h

pub onset_current : (due : List Symbol) (os : List Open) (ts : List Token) → begins_with (codes "toCurrent") ts ≡ true → outcome (rule onset ∷ due) os ts ≡ outcome due (without_negations os) (drop 1 ts)
onset_current due os ts h = at_word (rule onset ∷ due) (w "toCurrent" ∷ due) os ts (codes "toCurrent") h refl ∙ first_plain (codes "toCurrent") due os ts (drop 1 ts) refl h refl

pub onset_initial : (due : List Symbol) (os : List Open) (ts : List Token) → begins_with (codes "toCurrent") ts ≡ false → outcome (rule onset ∷ due) os ts ≡ outcome (w "toInit" ∷ due) os ts
unfolding outcome
onset_initial due os [] h = refl
onset_initial due os (t ∷ ts) h = same_at (rule onset ∷ due) (w "toInit" ∷ due) os t ts
    (if_false (bytes_eq t.text (codes "toInit")) _ _ _ (λ k. fuel (w "toInit" ∷ due) t.text) (λ k. if_not (bytes_eq t.text (codes "toCurrent")) _ _ h ∙ sym (if_not (bytes_eq t.text (codes "toInit")) _ _ k)))

-- [ sets ] before the bracket that closes
pub sets_none : (due : List Symbol) (os : List Open) (ts : List Token) → begins_with (codes "]") ts ≡ true → outcome (option sets ∷ w "]" ∷ due) os ts ≡ outcome (w "]" ∷ due) os ts
sets_none due os ts h = at_word _ _ os ts (codes "]") h refl

pub sets_some : (due : List Symbol) (os : List Open) (ts : List Token) → begins_with (codes "]") ts ≡ false → outcome (option sets ∷ w "]" ∷ due) os ts ≡ outcome (rule sets ∷ w "]" ∷ due) os ts
unfolding outcome
sets_some due os [] h = refl
sets_some due os (t ∷ ts) h = same_at (option sets ∷ w "]" ∷ due) (rule sets ∷ w "]" ∷ due) os t ts
    (if_false (can_begin t.text (rule sets)) _ _ _ (λ k. fuel (rule sets ∷ w "]" ∷ due) t.text) (λ k. if_not (bytes_eq t.text (codes "]")) _ _ h ∙ sym (cannot sets (w "]" ∷ due) t.text k)))

pub cert_rule : (due : List Symbol) (os : List Open) (ts : List Token) → outcome (rule cert ∷ due) os ts ≡ outcome (w "bisim" ∷ version ∷ w ";" ∷ w "relation" ∷ rule formula ∷ w ";" ∷ due) os ts
cert_rule due os ts = word_rule cert (codes "bisim") (version ∷ w ";" ∷ w "relation" ∷ rule formula ∷ w ";" ∷ []) due os ts refl

pub formula_rule : (due : List Symbol) (os : List Open) (ts : List Token) → outcome (rule formula ∷ due) os ts ≡ outcome (rule conjunct ∷ repeat another_conjunct ∷ due) os ts
formula_rule due os ts = rule_rule formula conjunct (repeat another_conjunct ∷ []) due os ts refl

pub another_conjunct_in : (due : List Symbol) (os : List Open) (ts : List Token) → begins_with (codes "or") ts ≡ true → IsSettled os → outcome (repeat another_conjunct ∷ due) os ts ≡ outcome (rule conjunct ∷ repeat another_conjunct ∷ due) os (drop 1 ts)
another_conjunct_in due os ts h s = repeat_first another_conjunct (codes "or") (rule conjunct ∷ []) due os ts refl refl h s

pub another_conjunct_out : (due : List Symbol) (os : List Open) (ts : List Token) → begins_with (codes "or") ts ≡ false → outcome (repeat another_conjunct ∷ due) os ts ≡ outcome due os ts
another_conjunct_out due os ts h = repeat_out another_conjunct (codes "or") (rule conjunct ∷ []) due os ts refl h

pub conjunct_rule : (due : List Symbol) (os : List Open) (ts : List Token) → outcome (rule conjunct ∷ due) os ts ≡ outcome (rule factor ∷ repeat another_factor ∷ due) os ts
conjunct_rule due os ts = rule_rule conjunct factor (repeat another_factor ∷ []) due os ts refl

pub another_factor_in : (due : List Symbol) (os : List Open) (ts : List Token) → begins_with (codes "and") ts ≡ true → IsSettled os → outcome (repeat another_factor ∷ due) os ts ≡ outcome (rule factor ∷ repeat another_factor ∷ due) os (drop 1 ts)
another_factor_in due os ts h s = repeat_first another_factor (codes "and") (rule factor ∷ []) due os ts refl refl h s

pub another_factor_out : (due : List Symbol) (os : List Open) (ts : List Token) → begins_with (codes "and") ts ≡ false → outcome (repeat another_factor ∷ due) os ts ≡ outcome due os ts
another_factor_out due os ts h = repeat_out another_factor (codes "and") (rule factor ∷ []) due os ts refl h

pub elapsed_in : (due : List Symbol) (os : List Open) (ts : List Token) → begins_with (codes "elapsed") ts ≡ true → IsSettled os → outcome (option elapsed ∷ due) os ts ≡ outcome (number ∷ due) os (drop 1 ts)
elapsed_in due os ts h s = option_first elapsed (codes "elapsed") (number ∷ []) due os ts refl refl h s

pub elapsed_out : (due : List Symbol) (os : List Open) (ts : List Token) → begins_with (codes "elapsed") ts ≡ false → outcome (option elapsed ∷ due) os ts ≡ outcome due os ts
elapsed_out due os ts h = option_out elapsed (codes "elapsed") (number ∷ []) due os ts refl h

pub factor_not : (due : List Symbol) (os : List Open) (ts : List Token) → begins_with (codes "not") ts ≡ true → outcome (rule factor ∷ due) os ts ≡ outcome (w "not" ∷ rule factor ∷ due) os ts
factor_not due os ts h = at_word _ _ os ts (codes "not") h refl

pub factor_true : (due : List Symbol) (os : List Open) (ts : List Token) → begins_with (codes "true") ts ≡ true → outcome (rule factor ∷ due) os ts ≡ outcome due (without_negations os) (drop 1 ts)
factor_true due os ts h = at_word (rule factor ∷ due) (w "true" ∷ due) os ts (codes "true") h refl ∙ first_plain (codes "true") due os ts (drop 1 ts) refl h refl

pub factor_false : (due : List Symbol) (os : List Open) (ts : List Token) → begins_with (codes "false") ts ≡ true → outcome (rule factor ∷ due) os ts ≡ outcome due (without_negations os) (drop 1 ts)
factor_false due os ts h = at_word (rule factor ∷ due) (w "false" ∷ due) os ts (codes "false") h refl ∙ first_plain (codes "false") due os ts (drop 1 ts) refl h refl

pub factor_open : (due : List Symbol) (os : List Open) (ts : List Token) → begins_with (codes "(") ts ≡ true → outcome (rule factor ∷ due) os ts ≡ outcome (w "(" ∷ rule formula ∷ w ")" ∷ due) os ts
factor_open due os ts h = at_word _ _ os ts (codes "(") h refl

pub factor_atom : (due : List Symbol) (os : List Open) (ts : List Token) → begins_with (codes "not") ts ≡ false → begins_with (codes "true") ts ≡ false → begins_with (codes "false") ts ≡ false
    → begins_with (codes "(") ts ≡ false → outcome (rule factor ∷ due) os ts ≡ outcome (rule atom ∷ due) os ts
unfolding outcome
factor_atom due os [] a b c d = refl
factor_atom due os (t ∷ ts) a b c d = same_at (rule factor ∷ due) (rule atom ∷ due) os t ts (if_not (bytes_eq t.text (codes "not")) _ _ a ∙ if_not (bytes_eq t.text (codes "true")) _ _ b ∙ if_not (bytes_eq t.text (codes "false")) _ _ c
    ∙ if_false (can_begin t.text (rule atom)) _ _ _ (λ h. fuel (rule atom ∷ due) t.text) (λ h. if_not (bytes_eq t.text (codes "(")) _ _ d ∙ sym (cannot atom due t.text h)))

pub atom_same : (due : List Symbol) (os : List Open) (ts : List Token) → begins_with (codes "samecode") ts ≡ true → outcome (rule atom ∷ due) os ts ≡ outcome (number ∷ number ∷ due) (without_negations os) (drop 1 ts)
atom_same due os ts h = at_word (rule atom ∷ due) (w "samecode" ∷ number ∷ number ∷ due) os ts (codes "samecode") h refl ∙ first_plain (codes "samecode") (number ∷ number ∷ due) os ts (drop 1 ts) refl h refl

pub atom_side : (due : List Symbol) (os : List Open) (ts : List Token) → begins_with (codes "samecode") ts ≡ false → outcome (rule atom ∷ due) os ts ≡ outcome (rule side ∷ number ∷ rule claim ∷ due) os ts
unfolding outcome
atom_side due os [] h = refl
atom_side due os (t ∷ ts) h = same_at (rule atom ∷ due) (rule side ∷ number ∷ rule claim ∷ due) os t ts
    (if_false (can_begin t.text (rule side)) _ _ _ (λ k. fuel (rule side ∷ number ∷ rule claim ∷ due) t.text) (λ k. if_not (bytes_eq t.text (codes "samecode")) _ _ h ∙ sym (cannot side (number ∷ rule claim ∷ due) t.text k)))

pub side_left : (due : List Symbol) (os : List Open) (ts : List Token) → begins_with (codes "lhs") ts ≡ true → outcome (rule side ∷ due) os ts ≡ outcome due (without_negations os) (drop 1 ts)
side_left due os ts h = at_word (rule side ∷ due) (w "lhs" ∷ due) os ts (codes "lhs") h refl ∙ first_plain (codes "lhs") due os ts (drop 1 ts) refl h refl

pub side_right : (due : List Symbol) (os : List Open) (ts : List Token) → begins_with (codes "lhs") ts ≡ false → outcome (rule side ∷ due) os ts ≡ outcome (w "rhs" ∷ due) os ts
unfolding outcome
side_right due os [] h = refl
side_right due os (t ∷ ts) h = same_at (rule side ∷ due) (w "rhs" ∷ due) os t ts (if_not (bytes_eq t.text (codes "lhs")) _ _ h ∙ last_word (codes "rhs") [] due t.text)

-- at no inactive and no in
pub claim_in : (due : List Symbol) (os : List Open) (ts : List Token) → begins_with (codes "inactive") ts ≡ false → outcome (rule claim ∷ due) os ts ≡ outcome (w "in" ∷ name ∷ option elapsed ∷ due) os ts
unfolding outcome
claim_in due os [] h = refl
claim_in due os (t ∷ ts) h = same_at (rule claim ∷ due) (w "in" ∷ name ∷ option elapsed ∷ due) os t ts
    (if_false (bytes_eq t.text (codes "in")) _ _ _ (λ k. fuel (w "in" ∷ name ∷ option elapsed ∷ due) t.text) (λ k. if_not (bytes_eq t.text (codes "inactive")) _ _ h ∙ sym (if_not (bytes_eq t.text (codes "in")) _ _ k)))

pub claim_inactive : (due : List Symbol) (os : List Open) (ts : List Token) → begins_with (codes "inactive") ts ≡ true → outcome (rule claim ∷ due) os ts ≡ outcome due (without_negations os) (drop 1 ts)
claim_inactive due os ts h = at_word (rule claim ∷ due) (w "inactive" ∷ due) os ts (codes "inactive") h refl ∙ first_plain (codes "inactive") due os ts (drop 1 ts) refl h refl

pub ruleset steps = (common_steps, names_rule, another_name_in, another_name_out, emission_in, emission_out, guard_rule, another_part_in, another_part_out, part_rule, another_unit_in, another_unit_out, unit_not, unit_true, unit_false, unit_open, unit_name, trans_rule, trans_in, trans_out, timeout_rule, timeout_in, timeout_out, state_rule, state_in, state_out, body_in, body_out, block_rule, another_process_in, another_process_out, process_automaton, process_local, process_freeze, process_run, listed_none, listed_some, component_rule, component_in, component_out, program_rule)

pub ruleset aspect_steps = (common_steps, aspect_rule, set_rule, sets_rule, another_set_in, another_set_out, onset_current, onset_initial, sets_none, sets_some)

pub ruleset cert_steps = (common_steps, cert_rule, formula_rule, another_conjunct_in, another_conjunct_out, conjunct_rule, another_factor_in, another_factor_out, elapsed_in, elapsed_out, factor_not, factor_true, factor_false, factor_open, factor_atom, atom_same, atom_side, side_left, side_right, claim_in, claim_inactive)
