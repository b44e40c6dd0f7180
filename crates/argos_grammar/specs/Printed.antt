-- How a tree is printed: its tokens with one space between two, and an LF.
use Rattle.std.specs.Prelude.{ℕ, List, [], ◌∷◌, ◌++◌, Option, Some, None, Bool, true, false, codes, decimal, flat_map, nat_lt, if◌then◌else◌}
use Rattle.std.specs.List.{join_with_byte}
use Prim.Native.String.{String}
use Rattle.argos_base.specs.Names.{Spelled}
use Rattle.argos_grammar.specs.Forms.{Mark, Formula, yes, no, atom, opposite, all, any, Formulas, no_formulas, formula, TransForm, TimedForm, ProcessForm, automaton, local, freeze, run, BlockForm, no_processes, process, StateForms, no_states, state, BodyForm, plain, refined, ComponentForm, ProgramForm, AspectForm, Numeral, Atom, in_state, inactive, same_code, CertForm}

-- the texts of tokens
abbrev pub Words : Type 0
Words = List Spelled

abbrev pub w : String → Words
w s = codes s ∷ []

abbrev pub name_words : Mark → Words
name_words m = m.name ∷ []

abbrev pub number_words : ℕ → Words
number_words n = decimal n ∷ []

-- with this word between two
abbrev pub separated_words : {A : Type 0} → String → (A → Words) → List A → Words
separated_words s f [] = []
separated_words s f (x ∷ []) = f x
separated_words s f (x ∷ y ∷ more) = f x ++ w s ++ separated_words s f (y ∷ more)

abbrev pub names_words : List Mark → Words
names_words = separated_words "," name_words

abbrev pub listed_words : List Mark → Words
listed_words ns = w "(" ++ names_words ns ++ w ")"

abbrev pub emitted_words : List Mark → Words
emitted_words [] = []
emitted_words (m ∷ ms) = w "emit" ++ names_words (m ∷ ms)

-- how many parentheses a formula needs at least, where a unit is due, and where a part is
abbrev pub round_unit : {A : Type 0} → Formula A → ℕ
round_unit yes = 0
round_unit no = 0
round_unit (atom a) = 0
round_unit (opposite f) = 0
round_unit (all fs) = 1
round_unit (any fs) = 1

abbrev pub round_part : {A : Type 0} → Formula A → ℕ
round_part yes = 0
round_part no = 0
round_part (atom a) = 0
round_part (opposite f) = 0
round_part (all fs) = 0
round_part (any fs) = 1

-- parentheses exactly where some are needed
abbrev pub enclosed_words : ℕ → Words → Words
enclosed_words least ws = if nat_lt 0 least then w "(" ++ ws ++ w ")" else ws

abbrev mutual
  pub formula_words : {A : Type 0} → (A → Words) → Formula A → Words
  formula_words g yes = w "true"
  formula_words g no = w "false"
  formula_words g (atom a) = g a
  formula_words g (opposite f) = w "not" ++ enclosed_words (round_unit f) (formula_words g f)
  formula_words g (all no_formulas) = []
  formula_words g (all (formula f fs)) = enclosed_words (round_unit f) (formula_words g f) ++ and_words g fs
  formula_words g (any no_formulas) = []
  formula_words g (any (formula f fs)) = enclosed_words (round_part f) (formula_words g f) ++ or_words g fs

  pub and_words : {A : Type 0} → (A → Words) → Formulas A → Words
  and_words g no_formulas = []
  and_words g (formula f fs) = w "and" ++ enclosed_words (round_unit f) (formula_words g f) ++ and_words g fs

  pub or_words : {A : Type 0} → (A → Words) → Formulas A → Words
  or_words g no_formulas = []
  or_words g (formula f fs) = w "or" ++ enclosed_words (round_part f) (formula_words g f) ++ or_words g fs

abbrev pub trans_words : TransForm → Words
trans_words t = w "when" ++ formula_words name_words t.guard ++ emitted_words t.outs ++ w "goto" ++ name_words t.target ++ w ";"

abbrev pub timeout_words : Option TimedForm → Words
timeout_words None = []
timeout_words (Some t) = w "after" ++ number_words t.count ++ w "of" ++ name_words t.signal ++ emitted_words t.outs ++ w "goto" ++ name_words t.target ++ w ";"

abbrev pub braced_words : Words → Words
braced_words ws = w "{" ++ ws ++ w "}"

abbrev mutual
  pub process_words : ProcessForm → Words
  process_words (automaton i ss) = w "automaton" ++ braced_words (w "init" ++ name_words i ++ w ";" ++ states_words ss)
  process_words (local ns b) = w "local" ++ names_words ns ++ w "in" ++ braced_words (block_words b)
  process_words (freeze s b) = w "freeze" ++ name_words s ++ w "in" ++ braced_words (block_words b)
  process_words (run c xs ys) = w "run" ++ name_words c ++ listed_words xs ++ w "->" ++ listed_words ys

  pub block_words : BlockForm → Words
  block_words no_processes = []
  block_words (process p no_processes) = process_words p
  block_words (process p (process q b)) = process_words p ++ w "||" ++ block_words (process q b)

  pub states_words : StateForms → Words
  states_words no_states = []
  states_words (state h b ss) = w "state" ++ name_words h.name ++ body_words b ++ braced_words (flat_map trans_words h.trans ++ timeout_words h.timed) ++ states_words ss

  pub body_words : BodyForm → Words
  body_words plain = []
  body_words (refined b) = w "body" ++ braced_words (block_words b)

abbrev pub component_words : ComponentForm → Words
component_words c = w "component" ++ name_words c.name ++ listed_words c.inputs ++ w "->" ++ listed_words c.outputs ++ braced_words (block_words c.block)

abbrev pub program_words : ProgramForm → Words
program_words p = w "argos" ++ number_words p.version ++ w ";" ++ flat_map component_words p.components

abbrev pub onset_words : Bool → Words
onset_words true = w "toCurrent"
onset_words false = w "toInit"

abbrev pub aspect_words : AspectForm → Words
aspect_words a = w "larissa" ++ number_words a.version ++ w ";" ++ flat_map component_words a.components ++ w "advice" ++ emitted_words a.outs
    ++ onset_words a.current ++ w "[" ++ separated_words "," (λ s. braced_words (names_words s)) a.trace ++ w "]" ++ w ";"

abbrev pub side_words : Bool → Words
side_words true = w "lhs"
side_words false = w "rhs"

abbrev pub elapsed_words : Option Numeral → Words
elapsed_words None = []
elapsed_words (Some e) = w "elapsed" ++ number_words e.number

abbrev pub atom_words : Atom → Words
atom_words (in_state left r s e) = side_words left ++ number_words r.number ++ w "in" ++ name_words s ++ elapsed_words e
atom_words (inactive left r) = side_words left ++ number_words r.number ++ w "inactive"
atom_words (same_code l r) = w "samecode" ++ number_words l.number ++ number_words r.number

abbrev pub cert_words : CertForm → Words
cert_words c = w "bisim" ++ number_words c.version ++ w ";" ++ w "relation" ++ formula_words atom_words c.formula ++ w ";"

abbrev pub text_of_words : Words → List ℕ
text_of_words ws = join_with_byte 32 ws ++ 10 ∷ []

abbrev pub program_text : ProgramForm → List ℕ
program_text p = text_of_words (program_words p)

abbrev pub aspect_text : AspectForm → List ℕ
aspect_text a = text_of_words (aspect_words a)

abbrev pub cert_text : CertForm → List ℕ
cert_text c = text_of_words (cert_words c)
