-- The tokens of aspects are taken.
use Rattle.std.proofs.Common.{◌≡◌, List, [], ◌∷◌, Bool, true, false, refl, subst, sym}
use Rattle.std.specs.Prelude.{codes}
use Rattle.argos_grammar.specs.Forms.{Mark, AspectForm}
use Rattle.argos_tokens.specs.Tokens.{Token}
use Rattle.argos_grammar.specs.Faults.{Open, bracket}
use Rattle.argos_grammar.specs.Text.{IsShallow}
use Rattle.argos_grammar.specs.Runs.{outcome, ended, begins_with, IsSettled}
use Rattle.argos_grammar.specs.DueSymbols.{rule, option, w, names, aspect, onset, sets, another_set, set}
use Rattle.argos_grammar.specs.Grammar as grammar
use Rattle.argos_grammar.specs.Grammar.{◌⨾◌}
use Rattle.argos_grammar.proofs.Steps.{onset_current, onset_initial, sets_none, sets_some}
use Rattle.argos_grammar.proofs.FirstWords.{word_begins, no_word, piece_begins}
use Rattle.argos_grammar.proofs.PieceFronts.{sets_begin_no, onset_clear}
use Rattle.argos_grammar.proofs.AcceptsWords.{Took, ◌then◌, two_then, still, word, a_version, opening, closing_settled}
use Rattle.argos_grammar.proofs.AcceptsLists.{given, here, by_word, by_rule, each_taken, past_word, enclosed_names, emitted_taken}
use Rattle.argos_grammar.proofs.AcceptsPrograms.{components_taken, to_the_end}

onset_taken : (current : Bool) {os : List Open} (ts : List Token) {rest : List Token} → IsSettled os → grammar.onset current ts rest → Took (rule onset ∷ []) os os ts rest
onset_taken true {os} ts {rest} s h = still s (past_word "toCurrent" ts rest refl h (λ due b. onset_current due os ts b) here)
onset_taken false {os} ts {rest} s h = given (λ due. onset_initial due os ts (no_word "toCurrent" "toInit" ts rest refl h)) (word "toInit" refl s h)

-- sets of names
set_taken : (ms : List Mark) {os : List Open} {ts rest : List Token} → IsSettled os → grammar.set ms ts rest → Took (w "{" ∷ option names ∷ w "}" ∷ []) os os ts rest
set_taken ms s h = opening "{" refl h.1 then enclosed_names "}" ms h.0 h.2.0 _ refl refl refl s h.2.1 h.2.2

another_taken : (os : List Open) → IsSettled os → (ms : List Mark) (ts rest : List Token) → (grammar.word "," ⨾ grammar.set ms) ts rest → Took (w "," ∷ rule set ∷ []) os os ts rest
another_taken os s ms ts rest h = word "," refl s h.1 then by_word set refl (set_taken ms s h.2)

sets_taken : (ss : List (List Mark)) {os : List Open} {ts rest : List Token} → IsSettled os → grammar.sets ss ts rest → begins_with (codes ",") rest ≡ false → Took (rule sets ∷ []) os os ts rest
sets_taken [] s h c = absurd h
sets_taken (ms ∷ ss) {os} {ts} {rest} s h c =
    by_rule sets set refl (by_word set refl (set_taken ms s h.1) then each_taken (λ x. grammar.word "," ⨾ grammar.set x) another_set os refl (piece_begins "," grammar.set) (another_taken os s) ss h.0 rest h.2 c)

-- the sets of a trace, before their bracket that closes
enclosed_sets : (ss : List (List Mark)) {os : List Open} (ts us rest : List Token) → IsSettled os → grammar.optional grammar.sets ss ts us → grammar.word "]" us rest → Took (option sets ∷ w "]" ∷ []) (bracket ∷ os) os ts rest
enclosed_sets [] {os} ts us rest s h k =
    let closed : grammar.word "]" ts rest = subst (λ x. grammar.word "]" x rest) (sym h) k in
    given {qq = w "]" ∷ []} (λ due. sets_none due (bracket ∷ os) ts (word_begins "]" ts rest closed)) (closing_settled "]" refl s closed)
enclosed_sets (ms ∷ ss) {os} ts us rest s h k =
    given {qq = rule sets ∷ w "]" ∷ []} (λ due. sets_some due (bracket ∷ os) ts (sets_begin_no (ms ∷ ss) ts us h))
    (sets_taken (ms ∷ ss) refl h (no_word "," "]" us rest refl k) then closing_settled "]" refl s k)

aspect_taken : (a : AspectForm) (ts rest : List Token) → grammar.aspect a ts rest → Took (rule aspect ∷ []) [] [] ts rest
aspect_taken x ts rest (a, (b, larissa, (c, one, (d, semicolon, inner))), (e, (f, advice, (g, emitted, way)), (i, brace, (j, traced, (k, close, last))))) =
    by_word aspect refl (word "larissa" refl refl larissa then a_version x.version refl one then word ";" refl refl semicolon
    then two_then (components_taken x.components [] d a refl inner (no_word "component" "advice" a f refl advice))
    (word "advice" refl refl advice then emitted_taken x.outs refl emitted (onset_clear (codes "," ∷ codes "emit" ∷ []) x.current g e refl refl way) then onset_taken x.current g refl way
    then opening "[" refl brace then two_then (enclosed_sets x.trace i j k refl traced close) (word ";" refl refl last)))

pub accepts_aspect : (a : AspectForm) (ts : List Token) → grammar.aspect a ts [] → IsShallow [] ts → outcome (rule aspect ∷ []) [] ts ≡ ended true
accepts_aspect a ts h s = to_the_end (rule aspect) ts (aspect_taken a ts [] h) s
