-- What is a text of the grammar, within its limits, and which trees are well formed.
use Rattle.std.specs.Prelude.{◌≡◌, ℕ, ◌-◌, ◌≤◌, List, [], ◌∷◌, Option, Some, None, IfSome, IsUtf8}
use Rattle.std.specs.List.{AllByRecursion}
use Rattle.argos_base.specs.Limits.{number_limit}
use Rattle.argos_base.specs.Spelling.{IsName}
use Rattle.argos_grammar.specs.Forms.{Mark, Formula, yes, no, atom, opposite, all, any, Formulas, no_formulas, formula, TransForm, TimedForm, Head, ProcessForm, automaton, local, freeze, run, BlockForm, no_processes, process, StateForms, no_states, state, BodyForm, plain, refined, ComponentForm, ProgramForm, AspectForm, Atom, in_state, inactive, same_code, CertForm}
use Rattle.argos_tokens.specs.Tokens.{Token, IsTokens}
use Rattle.argos_grammar.specs.Grammar.{Piece, program, aspect, cert}
use Rattle.argos_grammar.specs.Faults.{Open, open_behind, is_too_deep}
use Rattle.std.specs.Prelude.{false}

abbrev pub IsNumber : ℕ → Type 0
IsNumber n = n ≤ number_limit

abbrev pub IsMark : Mark → Type 0
IsMark m = IsName m.name

abbrev pub AreMarks : List Mark → Type 0
AreMarks = AllByRecursion IsMark

-- P holds of each atom, and all and any have two members at least
abbrev mutual
  pub IsFormula : {A : Type 0} → (A → Type 0) → Formula A → Type 0
  IsFormula P yes = Unit {0}
  IsFormula P no = Unit {0}
  IsFormula P (atom a) = P a
  IsFormula P (opposite f) = IsFormula P f
  IsFormula P (all fs) = AreFormulas 2 P fs
  IsFormula P (any fs) = AreFormulas 2 P fs

  -- at least so many
  pub AreFormulas : {A : Type 0} → ℕ → (A → Type 0) → Formulas A → Type 0
  AreFormulas least P no_formulas = least ≡ 0
  AreFormulas least P (formula f fs) = IsFormula P f × AreFormulas (least - 1) P fs

abbrev pub IsTrans : TransForm → Type 0
IsTrans t = IsFormula IsMark t.guard × AreMarks t.outs × IsMark t.target

abbrev pub IsTimed : TimedForm → Type 0
IsTimed t = (1 ≤ t.count) × IsNumber t.count × IsMark t.signal × AreMarks t.outs × IsMark t.target

abbrev pub IsTimeout : Option TimedForm → Type 0
IsTimeout None = Unit {0}
IsTimeout (Some t) = IsTimed t

abbrev pub IsHead : Head → Type 0
IsHead h = IsMark h.name × AllByRecursion IsTrans h.trans × IsTimeout h.timed

abbrev pub HasSome : {A : Type 0} → List A → Type 0
HasSome [] = ⊥
HasSome (x ∷ xs) = Unit {0}

abbrev mutual
  pub IsProcess : ProcessForm → Type 0
  IsProcess (automaton i ss) = IsMark i × AreStates 1 ss
  IsProcess (local ns b) = HasSome ns × AreMarks ns × IsBlock 1 b
  IsProcess (freeze s b) = IsMark s × IsBlock 1 b
  IsProcess (run c xs ys) = IsMark c × AreMarks xs × AreMarks ys

  -- with at least so many processes, states
  pub IsBlock : ℕ → BlockForm → Type 0
  IsBlock least no_processes = least ≡ 0
  IsBlock least (process p b) = IsProcess p × IsBlock 0 b

  pub AreStates : ℕ → StateForms → Type 0
  AreStates least no_states = least ≡ 0
  AreStates least (state h b ss) = IsHead h × IsBody b × AreStates 0 ss

  pub IsBody : BodyForm → Type 0
  IsBody plain = Unit {0}
  IsBody (refined b) = IsBlock 1 b

abbrev pub IsComponent : ComponentForm → Type 0
IsComponent c = IsMark c.name × AreMarks c.inputs × AreMarks c.outputs × IsBlock 1 c.block

abbrev pub IsProgramForm : ProgramForm → Type 0
IsProgramForm p = (p.version ≡ 1) × HasSome p.components × AllByRecursion IsComponent p.components

abbrev pub IsAspectForm : AspectForm → Type 0
IsAspectForm a = (a.version ≡ 1) × HasSome a.components × AllByRecursion IsComponent a.components × AreMarks a.outs × AllByRecursion AreMarks a.trace

abbrev pub IsAtom : Atom → Type 0
IsAtom (in_state left r s e) = IsNumber r.number × IsMark s × IfSome e (λ n. IsNumber n.number)
IsAtom (inactive left r) = IsNumber r.number
IsAtom (same_code l r) = IsNumber l.number × IsNumber r.number

abbrev pub IsCertForm : CertForm → Type 0
IsCertForm c = (c.version ≡ 1) × IsFormula IsAtom c.formula

-- nothing is nested too deep, where so much is open
abbrev pub IsShallow : List Open → List Token → Type 0
IsShallow os [] = Unit {0}
IsShallow os (t ∷ ts) = (is_too_deep os t.text ≡ false) × IsShallow (open_behind os t.text) ts

-- the text is UTF-8, and its tokens are this piece
abbrev pub IsTextOf : Piece → List ℕ → Type 0
IsTextOf P bs = (ts : List Token) × IsUtf8 bs × IsTokens bs ts × IsShallow [] ts × P ts []

-- a text of the grammar, and its tree
abbrev pub IsText : List ℕ → ProgramForm → Type 0
IsText bs p = IsTextOf (program p) bs

abbrev pub IsAspectText : List ℕ → AspectForm → Type 0
IsAspectText bs a = IsTextOf (aspect a) bs

abbrev pub IsCertText : List ℕ → CertForm → Type 0
IsCertText bs c = IsTextOf (cert c) bs

-- no token of these bytes is nested above the limit
abbrev pub IsNestedWithin : List ℕ → Type 0
IsNestedWithin bs = (ts : List Token) → IsTokens bs ts → IsShallow [] ts
