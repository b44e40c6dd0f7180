-- The tokens of components and programs are taken.
use Rattle.std.proofs.Common.{◌≡◌, List, [], ◌∷◌, true, false, refl}
use Rattle.std.specs.Prelude.{codes}
use Rattle.argos_grammar.specs.Forms.{ComponentForm, ProgramForm}
use Rattle.argos_tokens.specs.Tokens.{Token}
use Rattle.argos_grammar.specs.Faults.{Open}
use Rattle.argos_grammar.specs.Text.{IsShallow}
use Rattle.argos_grammar.specs.Runs.{outcome, ended, begins_with, IsSettled}
use Rattle.argos_grammar.specs.DueSymbols.{Symbol, name, rule, option, repeat, w, names, block, component, program}
use Rattle.argos_grammar.specs.Grammar as grammar
use Rattle.argos_grammar.proofs.PieceFronts.{component_begins}
use Rattle.argos_grammar.proofs.AcceptsWords.{Took, ◌then◌, word, a_name, a_version}
use Rattle.argos_grammar.proofs.AcceptsLists.{by_word, each_taken, listed_then}
use Rattle.argos_grammar.proofs.AcceptsProcesses.{block_taken}

component_taken : (os : List Open) → IsSettled os → (c : ComponentForm) (ts rest : List Token) → grammar.component c ts rest
    → Took (w "component" ∷ name ∷ w "(" ∷ option names ∷ w ")" ∷ w "->" ∷ w "(" ∷ option names ∷ w ")" ∷ rule block ∷ []) os os ts rest
component_taken os s c ts rest (a, component_word, (b, named, (d, (e, inputs, (f, arrow, outputs)), braces))) =
    word "component" refl s component_word then a_name c.name s named then listed_then c.inputs s inputs (word "->" refl s arrow then listed_then c.outputs s outputs (block_taken c.block d s braces))

pub components_taken : (cs : List ComponentForm) (os : List Open) (ts rest : List Token) → IsSettled os → grammar.components cs ts rest → begins_with (codes "component") rest ≡ false
    → Took (rule component ∷ repeat component ∷ []) os os ts rest
components_taken [] os ts rest s h k = absurd h
components_taken (c ∷ cs) os ts rest s h k =
    by_word component refl (component_taken os s c ts h.0 h.1) then each_taken grammar.component component os refl component_begins (component_taken os s) cs h.0 rest h.2 k

program_taken : (p : ProgramForm) (ts rest : List Token) → grammar.program p ts rest → begins_with (codes "component") rest ≡ false → Took (rule program ∷ []) [] [] ts rest
program_taken p ts rest (a, argos, (b, one, (c, semicolon, inner))) k =
    by_word program refl (word "argos" refl refl argos then a_version p.version refl one then word ";" refl refl semicolon then components_taken p.components [] c rest refl inner k)

-- nothing is due at the end
pub to_the_end : (s : Symbol) (ts : List Token) → Took (s ∷ []) [] [] ts [] → IsShallow [] ts → outcome (s ∷ []) [] ts ≡ ended true
unfolding outcome
to_the_end s ts x h = x.taken h []

pub accepts_program : (p : ProgramForm) (ts : List Token) → grammar.program p ts [] → IsShallow [] ts → outcome (rule program ∷ []) [] ts ≡ ended true
accepts_program p ts h s = to_the_end (rule program) ts (program_taken p ts [] h refl) s
