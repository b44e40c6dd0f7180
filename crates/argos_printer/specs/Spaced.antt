-- Words that follow others in a text, each behind a space, and the words of parts of a tree.
use Rattle.std.specs.Prelude.{ℕ, List, ◌∷◌, ◌++◌, flat_map}
use Rattle.argos_grammar.specs.Forms.{Mark, Formula, Head, StateForms, AspectForm}
use Rattle.argos_grammar.specs.Printed.{Words, w, name_words, formula_words, enclosed_words, round_unit, round_part, braced_words, trans_words, timeout_words, body_words, states_words, names_words, separated_words, listed_words, emitted_words, onset_words}
use Rattle.argos_grammar.specs.Views.{Whole}

abbrev pub spaced : Words → List ℕ
spaced = flat_map (λ v. 32 ∷ v)

-- in parentheses
abbrev pub round_words : Words → Words
round_words ws = w "(" ++ ws ++ w ")"

-- where a unit is due, and where a part is
abbrev pub unit_words : {A : Type 0} → (A → Words) → Formula A → Words
unit_words g f = enclosed_words (round_unit f) (formula_words g f)

abbrev pub part_words : {A : Type 0} → (A → Words) → Formula A → Words
part_words g f = enclosed_words (round_part f) (formula_words g f)

-- inputs and outputs, and what is emitted with the state that follows
abbrev pub interface_words : List Mark → List Mark → Words
interface_words xs ys = listed_words xs ++ w "->" ++ listed_words ys

abbrev pub effect_words : List Mark → Mark → Words
effect_words outs target = emitted_words outs ++ w "goto" ++ name_words target ++ w ";"

-- the inside of an automaton
abbrev pub inside_words : Mark → StateForms → Words
inside_words i ss = w "init" ++ name_words i ++ w ";" ++ states_words ss

-- the transitions and the timeout of a state, and a state
abbrev pub reaction_words : Head → Words
reaction_words h = braced_words (flat_map trans_words h.trans ++ timeout_words h.timed)

abbrev pub state_words : Whole → Words
state_words s = w "state" ++ name_words s.head.name ++ body_words s.body ++ reaction_words s.head

-- a set of a trace, several, and a trace
abbrev pub set_words : List Mark → Words
set_words s = braced_words (names_words s)

abbrev pub sets_words : List (List Mark) → Words
sets_words = separated_words "," set_words

abbrev pub trace_words : List (List Mark) → Words
trace_words ss = w "[" ++ sets_words ss ++ w "]"

-- what stands behind the components of an aspect
abbrev pub advice_words : AspectForm → Words
advice_words a = w "advice" ++ emitted_words a.outs ++ onset_words a.current ++ trace_words a.trace ++ w ";"
