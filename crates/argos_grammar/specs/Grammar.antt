-- The grammar of programs, aspects and certificates, between tokens and trees. A piece leads from the tokens that stand before it to those behind it.
use Rattle.std.specs.Prelude.{◌≡◌, ℕ, ◌≤◌, List, [], ◌∷◌, Option, Some, None, Bool, true, false, codes}
use Rattle.argos_base.specs.Limits.{number_limit}
use Prim.Native.String.{String}
use Rattle.argos_base.specs.Spelling.{IsName, Spells}
use Rattle.argos_tokens.specs.Tokens.{Token}
use Rattle.argos_grammar.specs.Forms.{Mark, Formula, yes, no, atom, opposite, all, any, Formulas, no_formulas, formula, TransForm, TimedForm, Head, ProcessForm, automaton, local, freeze, run, BlockForm, no_processes, process, StateForms, no_states, state, BodyForm, plain, refined, ComponentForm, ProgramForm, AspectForm, Numeral, Atom, in_state, inactive, same_code, CertForm}

abbrev pub Piece : Type 1
Piece = List Token → List Token → Type 0

-- one piece, and then the other
infixr 20 ◌⨾◌
abbrev pub ◌⨾◌ : Piece → Piece → Piece
(P ⨾ Q) ts rest = (between : List Token) × P ts between × Q between rest

abbrev pub nothing : Piece
nothing ts rest = ts ≡ rest

abbrev pub impossible : Piece
impossible ts rest = ⊥

-- this word or symbol
abbrev pub spelled : List ℕ → Piece
spelled w [] rest = ⊥
spelled w (t ∷ ts) rest = (t.text ≡ w) × (ts ≡ rest)

abbrev pub word : String → Piece
word w = spelled (codes w)

-- this name of at most 64 bytes, at its place
abbrev pub name : Mark → Piece
name m [] rest = ⊥
name m (t ∷ ts) rest = IsName t.text × (m.name ≡ t.text) × (m.at ≡ t.at) × (ts ≡ rest)

-- this number of at most 65,535, at its place
abbrev pub numeral : Numeral → Piece
numeral n [] rest = ⊥
numeral n (t ∷ ts) rest = Spells n.number t.text × (n.number ≤ number_limit) × (n.at ≡ t.at) × (ts ≡ rest)

-- this number, wherever it stands
abbrev pub number : ℕ → Piece
number n ts rest = (at : ℕ) × numeral (record { number = n; at = at }) ts rest

-- the version, which is 1, and the count of a timeout, which isn't 0
abbrev pub version : ℕ → Piece
version n ts rest = (n ≡ 1) × number n ts rest

abbrev pub count : ℕ → Piece
count n ts rest = (1 ≤ n) × number n ts rest

-- one after the other
abbrev pub each : {A : Type 0} → (A → Piece) → List A → Piece
each P [] = nothing
each P (x ∷ xs) = P x ⨾ each P xs

-- one or more, with this word between two
abbrev pub separated : {A : Type 0} → String → (A → Piece) → List A → Piece
separated w P [] = impossible
separated w P (x ∷ xs) = P x ⨾ each (λ y. word w ⨾ P y) xs

-- nothing where there are none
abbrev pub optional : {A : Type 0} → (List A → Piece) → List A → Piece
optional P [] = nothing
optional P (x ∷ xs) = P (x ∷ xs)

abbrev pub names : List Mark → Piece
names = separated "," name

abbrev pub listed : List Mark → Piece
listed ns = word "(" ⨾ optional names ns ⨾ word ")"

abbrev pub emitted : List Mark → Piece
emitted = optional (λ ns. word "emit" ⨾ names ns)

-- Formulas over atoms with these pieces. Parentheses leave no trace, and a single unit or part is no list.
mutual
  -- "not" unit | "true" | "false" | atom | "(" formula ")"
  pub data IsUnit {A : Type 0} (P : A → List Token → List Token → Type 0) : Formula A → List Token → List Token → Type 0 where
    the_yes : {ts rest : List Token} → word "true" ts rest → IsUnit P yes ts rest
    the_no : {ts rest : List Token} → word "false" ts rest → IsUnit P no ts rest
    the_atom : {a : A} {ts rest : List Token} → P a ts rest → IsUnit P (atom a) ts rest
    the_opposite : {f : Formula A} {ts us rest : List Token} → word "not" ts us → IsUnit P f us rest → IsUnit P (opposite f) ts rest
    enclosed : {f : Formula A} {ts us vs rest : List Token} → word "(" ts us → IsCondition P f us vs → word ")" vs rest → IsUnit P f ts rest

  -- { "and" unit }
  pub data AreUnits {A : Type 0} (P : A → List Token → List Token → Type 0) : Formulas A → List Token → List Token → Type 0 where
    no_more_units : {ts : List Token} → AreUnits P no_formulas ts ts
    more_units : {f : Formula A} {fs : Formulas A} {ts us vs rest : List Token} → word "and" ts us → IsUnit P f us vs → AreUnits P fs vs rest → AreUnits P (formula f fs) ts rest

  -- unit { "and" unit }
  pub data IsPart {A : Type 0} (P : A → List Token → List Token → Type 0) : Formula A → List Token → List Token → Type 0 where
    one_unit : {f : Formula A} {ts rest : List Token} → IsUnit P f ts rest → IsPart P f ts rest
    units : {f g : Formula A} {fs : Formulas A} {ts us rest : List Token} → IsUnit P f ts us → AreUnits P (formula g fs) us rest → IsPart P (all (formula f (formula g fs))) ts rest

  -- { "or" part }
  pub data AreParts {A : Type 0} (P : A → List Token → List Token → Type 0) : Formulas A → List Token → List Token → Type 0 where
    no_more_parts : {ts : List Token} → AreParts P no_formulas ts ts
    more_parts : {f : Formula A} {fs : Formulas A} {ts us vs rest : List Token} → word "or" ts us → IsPart P f us vs → AreParts P fs vs rest → AreParts P (formula f fs) ts rest

  -- part { "or" part }
  pub data IsCondition {A : Type 0} (P : A → List Token → List Token → Type 0) : Formula A → List Token → List Token → Type 0 where
    one_part : {f : Formula A} {ts rest : List Token} → IsPart P f ts rest → IsCondition P f ts rest
    parts : {f g : Formula A} {fs : Formulas A} {ts us rest : List Token} → IsPart P f ts us → AreParts P (formula g fs) us rest → IsCondition P (any (formula f (formula g fs))) ts rest

-- what is emitted, and the state that is entered
abbrev pub effect : List Mark → Mark → Piece
effect outs target = emitted outs ⨾ word "goto" ⨾ name target ⨾ word ";"

abbrev pub trans : TransForm → Piece
trans t = word "when" ⨾ IsCondition name t.guard ⨾ effect t.outs t.target

-- how often the signal of a timeout is counted
abbrev pub delay : ℕ → Piece
delay n = word "after" ⨾ count n ⨾ word "of"

abbrev pub timed : TimedForm → Piece
timed t = delay t.count ⨾ name t.signal ⨾ effect t.outs t.target

abbrev pub timeout : Option TimedForm → Piece
timeout None = nothing
timeout (Some t) = timed t

abbrev pub braced : Piece → Piece
braced P = word "{" ⨾ P ⨾ word "}"

-- the names of inputs and of outputs
abbrev pub interface : List Mark → List Mark → Piece
interface xs ys = listed xs ⨾ word "->" ⨾ listed ys

-- the transitions and the timeout of a state, and a state with this piece for its body
abbrev pub reactions : List TransForm → Option TimedForm → Piece
reactions ts t = braced (each trans ts ⨾ timeout t)

abbrev pub one_state : Head → Piece → Piece
one_state h B = word "state" ⨾ name h.name ⨾ B ⨾ reactions h.trans h.timed

-- the initial state of an automaton, and a piece for its states
abbrev pub inside : Mark → Piece → Piece
inside i S = word "init" ⨾ name i ⨾ word ";" ⨾ S

-- a process, the processes of a block, the states of an automaton, and the body of a state
abbrev mutual
  pub one_process : ProcessForm → Piece
  one_process (automaton i ss) = word "automaton" ⨾ braced (inside i (states ss))
  one_process (local ns b) = word "local" ⨾ names ns ⨾ word "in" ⨾ braced (processes b)
  one_process (freeze s b) = word "freeze" ⨾ name s ⨾ word "in" ⨾ braced (processes b)
  one_process (run c xs ys) = word "run" ⨾ name c ⨾ interface xs ys

  pub processes : BlockForm → Piece
  processes no_processes = impossible
  processes (process p b) = one_process p ⨾ more_processes b

  pub more_processes : BlockForm → Piece
  more_processes no_processes = nothing
  more_processes (process p b) = word "||" ⨾ one_process p ⨾ more_processes b

  pub states : StateForms → Piece
  states no_states = impossible
  states (state h b ss) = one_state h (body b) ⨾ more_states ss

  pub more_states : StateForms → Piece
  more_states no_states = nothing
  more_states (state h b ss) = one_state h (body b) ⨾ more_states ss

  pub body : BodyForm → Piece
  body plain = nothing
  body (refined b) = word "body" ⨾ braced (processes b)

abbrev pub component : ComponentForm → Piece
component c = word "component" ⨾ name c.name ⨾ interface c.inputs c.outputs ⨾ braced (processes c.block)

-- one or more
abbrev pub components : List ComponentForm → Piece
components [] = impossible
components (c ∷ cs) = component c ⨾ each component cs

abbrev pub program : ProgramForm → Piece
program p = word "argos" ⨾ version p.version ⨾ word ";" ⨾ components p.components

abbrev pub onset : Bool → Piece
onset true = word "toCurrent"
onset false = word "toInit"

-- the version and the components of an aspect, its advice, and the sets of its trace
abbrev pub observer : ℕ → List ComponentForm → Piece
observer n cs = word "larissa" ⨾ version n ⨾ word ";" ⨾ components cs

abbrev pub advice : List Mark → Bool → Piece
advice outs current = word "advice" ⨾ emitted outs ⨾ onset current

abbrev pub set : List Mark → Piece
set ns = word "{" ⨾ optional names ns ⨾ word "}"

abbrev pub sets : List (List Mark) → Piece
sets = separated "," set

abbrev pub trace : List (List Mark) → Piece
trace ss = word "[" ⨾ optional sets ss ⨾ word "]" ⨾ word ";"

abbrev pub aspect : AspectForm → Piece
aspect a = observer a.version a.components ⨾ advice a.outs a.current ⨾ trace a.trace

abbrev pub side : Bool → Piece
side true = word "lhs"
side false = word "rhs"

abbrev pub elapsed : Option Numeral → Piece
elapsed None = nothing
elapsed (Some e) = word "elapsed" ⨾ numeral e

-- that a register is in a state, perhaps with an elapsed count, or inactive
abbrev pub claim : Option (Mark × Option Numeral) → Piece
claim None = word "inactive"
claim (Some c) = word "in" ⨾ name c.0 ⨾ elapsed c.1

abbrev pub one_atom : Atom → Piece
one_atom (in_state left r s e) = side left ⨾ numeral r ⨾ claim (Some (s, e))
one_atom (inactive left r) = side left ⨾ numeral r ⨾ claim None
one_atom (same_code l r) = word "samecode" ⨾ numeral l ⨾ numeral r

abbrev pub relation : Formula Atom → Piece
relation f = word "relation" ⨾ IsCondition one_atom f ⨾ word ";"

abbrev pub cert : CertForm → Piece
cert c = word "bisim" ⨾ version c.version ⨾ word ";" ⨾ relation c.formula
