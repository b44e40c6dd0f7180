-- The tokens of transitions and timeouts are taken.
use Rattle.std.proofs.Common.{◌≡◌, List, [], ◌∷◌, false, refl}
use Rattle.std.specs.Prelude.{codes, Option, Some, None}
use Rattle.argos_grammar.specs.Forms.{Mark, TransForm, TimedForm}
use Rattle.argos_tokens.specs.Tokens.{Token}
use Rattle.argos_grammar.specs.Faults.{Open, bracket}
use Rattle.argos_grammar.specs.Runs.{begins_with, IsSettled}
use Rattle.argos_grammar.specs.DueSymbols.{name, count, rule, option, repeat, w, emission, guard, trans, timeout}
use Rattle.argos_grammar.specs.Grammar as grammar
use Rattle.argos_grammar.proofs.FirstWords.{word_begins, word_clear}
use Rattle.argos_grammar.proofs.PieceFronts.{effect_clear, trans_begins, timeout_clear}
use Rattle.argos_grammar.proofs.AcceptsWords.{Took, ◌then◌, word, a_name, a_count, opening, closing_settled}
use Rattle.argos_grammar.proofs.AcceptsLists.{some_option, no_option, each_taken, emitted_taken}
use Rattle.argos_grammar.proofs.AcceptsConditions.{after_condition, guard_taken}

-- what is emitted, and the state that is entered
effect_taken : (outs : List Mark) (target : Mark) {os : List Open} {ts rest : List Token} → IsSettled os → grammar.effect outs target ts rest → Took (option emission ∷ w "goto" ∷ name ∷ w ";" ∷ []) os os ts rest
effect_taken outs target s h =
    emitted_taken outs s h.1 (word_clear (codes "," ∷ codes "emit" ∷ []) "goto" h.0 h.2.0 refl h.2.1) then word "goto" refl s h.2.1 then a_name target s h.2.2.1 then word ";" refl s h.2.2.2

trans_taken : (os : List Open) → IsSettled os → (t : TransForm) (ts rest : List Token) → grammar.trans t ts rest → Took (w "when" ∷ rule guard ∷ option emission ∷ w "goto" ∷ name ∷ w ";" ∷ []) os os ts rest
trans_taken os s t ts rest h =
    word "when" refl s h.1 then guard_taken t.guard s h.2.1 (effect_clear after_condition t.outs t.target h.2.0 rest refl refl h.2.2) then effect_taken t.outs t.target s h.2.2

timed_taken : (t : TimedForm) {os : List Open} {ts rest : List Token} → IsSettled os → grammar.timed t ts rest
    → Took (w "after" ∷ count ∷ w "of" ∷ name ∷ option emission ∷ w "goto" ∷ name ∷ w ";" ∷ []) os os ts rest
timed_taken t s h = word "after" refl s h.1.1 then a_count t.count s h.1.2.1 then word "of" refl s h.1.2.2 then a_name t.signal s h.2.1 then effect_taken t.outs t.target s h.2.2

timeout_taken : (t : Option TimedForm) {os : List Open} {ts rest : List Token} → IsSettled os → grammar.timeout t ts rest → begins_with (codes "after") rest ≡ false → Took (option timeout ∷ []) os os ts rest
timeout_taken None s h c = no_option timeout refl c h
timeout_taken (Some t) {os} {ts} s h c = some_option timeout refl (word_begins "after" ts h.1.0 h.1.1) (timed_taken t s h)

-- the transitions and the timeout of a state
pub reactions_taken : (xs : List TransForm) (t : Option TimedForm) {os : List Open} (ts : List Token) {rest : List Token} → IsSettled os → grammar.reactions xs t ts rest
    → Took (w "{" ∷ repeat trans ∷ option timeout ∷ w "}" ∷ []) os os ts rest
reactions_taken xs t {os} ts {rest} s h =
    let inner = bracket ∷ os in
    opening "{" refl h.1
    then each_taken grammar.trans trans inner refl trans_begins (trans_taken inner refl) xs h.0 h.2.1.0 h.2.1.1 (timeout_clear t h.2.1.0 h.2.0 h.2.1.2 (word_clear (codes "when" ∷ []) "}" h.2.0 rest refl h.2.2)).0
    then timeout_taken t refl h.2.1.2 (word_clear (codes "after" ∷ []) "}" h.2.0 rest refl h.2.2).0
    then closing_settled "}" refl s h.2.2
