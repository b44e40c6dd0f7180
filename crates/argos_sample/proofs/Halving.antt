-- One automaton of a sample, by what it hears and emits.
use Rattle.std.specs.Prelude.{ℕ, List, [], ◌∷◌, codes}
use Rattle.argos_grammar.specs.Forms.{ProcessForm, automaton, state, plain, no_states}
use Rattle.argos_sample.specs.SampleForm.{mark, move_form, head_form}

abbrev pub halving_of : List ℕ → List ℕ → ProcessForm
halving_of heard emitted = automaton (mark (codes "Off"))
    (state (head_form "Off" (move_form heard [] "On")) plain
    (state (head_form "On" (move_form heard (mark emitted ∷ []) "Off")) plain no_states))
