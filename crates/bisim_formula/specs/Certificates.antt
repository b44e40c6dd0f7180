-- What a certificate's text says of two programs, and why it says nothing. Source: this project.
use Rattle.std.specs.Prelude.{◌≡◌, ℕ, ◌<◌, ◌≤◌, List, [], ◌∷◌, ◌++◌, Option, Some, None, Bool, true, false, ◌==◌, nat_lt, map, option_map, length, slice_get, if◌then◌else◌}
use Rattle.argos_base.specs.Names.{Spelled, place_of}
use Rattle.argos_core.specs.Automata.{automata_of, rules_of}
use Rattle.argos_core.specs.Process.{Rules, PlainModule}
use Rattle.argos_grammar.specs.Forms.{Mark, Numeral, Atom, CertForm}
use Rattle.argos_grammar.specs.Forms as text
use Rattle.bisim_formula.specs.Formulas.{Which, left, right, Formula, in_state, at_elapsed, inactive, same_code, always, never, negation, all, any, Formulas, no_formulas, formula, of_side}
use Rattle.std.specs.Prelude.{unwrap_or}

-- a state's name, and how many instants it counts where it has a timeout
pub record Known : Type 0 where
  pub name : Spelled
  pub count : Option ℕ

-- the states of each automaton, in the order of registers
abbrev pub Registers : Type 0
Registers = List (List Known)

abbrev pub known_of : Rules → Known
known_of s = record { name = s.name; count = option_map (λ w. w.count) s.timeout }

abbrev pub registers_of : PlainModule → Registers
registers_of P = map (λ a. map known_of (rules_of a.states)) (automata_of P.process)

-- the side that `lhs` and `rhs` name
abbrev pub side : Bool → Which
side true = left
side false = right

-- the states of a register of a side, where there is one
abbrev pub register_at : Registers → Registers → Bool → ℕ → Option (List Known)
register_at P Q on_left r = slice_get (of_side P Q (side on_left)) r

-- the number of the state with this name
abbrev pub state_number : List Known → List ℕ → Option ℕ
state_number states name = place_of (map (λ s. s.name) states) name

-- a number that isn't there, or a state's name that isn't
pub data CertFault : Type 0 where
  number : Numeral → CertFault
  unknown : Mark → CertFault

abbrev pub fault_at : CertFault → ℕ
fault_at (number n) = n.at
fault_at (unknown m) = m.at

-- an untimed state has elapsed count 0 alone, and one with a timeout any below its count
abbrev pub has_elapsed : Option ℕ → ℕ → Bool
has_elapsed None e = e == 0
has_elapsed (Some n) e = nat_lt e n

abbrev pub elapsed_faults : Option Known → Option Numeral → List CertFault
elapsed_faults (Some s) None = []
elapsed_faults (Some s) (Some e) = if has_elapsed s.count e.number then [] else number e ∷ []
elapsed_faults None e = []

abbrev pub state_faults : List Known → Option ℕ → Mark → Option Numeral → List CertFault
state_faults states None m e = unknown m ∷ []
state_faults states (Some q) m e = elapsed_faults (slice_get states q) e

abbrev pub in_register : Option (List Known) → Numeral → Mark → Option Numeral → List CertFault
in_register None r m e = number r ∷ []
in_register (Some states) r m e = state_faults states (state_number states m.name) m e

abbrev pub register_faults : Option (List Known) → Numeral → List CertFault
register_faults None r = number r ∷ []
register_faults (Some states) r = []

-- the faults of one atom
abbrev pub atom_faults : Registers → Registers → Atom → List CertFault
atom_faults P Q (text.in_state on_left r m e) = in_register (register_at P Q on_left r.number) r m e
atom_faults P Q (text.inactive on_left r) = register_faults (register_at P Q on_left r.number) r
atom_faults P Q (text.same_code l r) = register_faults (register_at P Q true l.number) l ++ register_faults (register_at P Q false r.number) r

-- the faults of a formula, in the order of the text
abbrev mutual
  pub formula_faults : Registers → Registers → text.Formula Atom → List CertFault
  formula_faults P Q text.yes = []
  formula_faults P Q text.no = []
  formula_faults P Q (text.atom a) = atom_faults P Q a
  formula_faults P Q (text.opposite f) = formula_faults P Q f
  formula_faults P Q (text.all fs) = formulas_faults P Q fs
  formula_faults P Q (text.any fs) = formulas_faults P Q fs

  pub formulas_faults : Registers → Registers → text.Formulas Atom → List CertFault
  formulas_faults P Q text.no_formulas = []
  formulas_faults P Q (text.formula f fs) = formula_faults P Q f ++ formulas_faults P Q fs

-- the number of the state with this name in a register of a side
abbrev pub number_in : Option (List Known) → List ℕ → ℕ
number_in None name = 0
number_in (Some states) name = unwrap_or (state_number states name) 0

abbrev pub state_atom : Which → ℕ → ℕ → Option Numeral → Formula
state_atom w r q None = in_state w r q
state_atom w r q (Some e) = at_elapsed w r q e.number

abbrev pub atom_formula : Registers → Registers → Atom → Formula
atom_formula P Q (text.in_state on_left r m e) = state_atom (side on_left) r.number (number_in (register_at P Q on_left r.number) m.name) e
atom_formula P Q (text.inactive on_left r) = inactive (side on_left) r.number
atom_formula P Q (text.same_code l r) = same_code l.number r.number

-- the formula with numbers for names
abbrev mutual
  pub resolved : Registers → Registers → text.Formula Atom → Formula
  resolved P Q text.yes = always
  resolved P Q text.no = never
  resolved P Q (text.atom a) = atom_formula P Q a
  resolved P Q (text.opposite f) = negation (resolved P Q f)
  resolved P Q (text.all fs) = all (all_resolved P Q fs)
  resolved P Q (text.any fs) = any (all_resolved P Q fs)

  pub all_resolved : Registers → Registers → text.Formulas Atom → Formulas
  all_resolved P Q text.no_formulas = no_formulas
  all_resolved P Q (text.formula f fs) = formula (resolved P Q f) (all_resolved P Q fs)

-- of two at one place the one that came first
abbrev pub lesser : Option CertFault → CertFault → CertFault
lesser None f = f
lesser (Some g) f = if nat_lt (fault_at f) (fault_at g) then f else g

-- the fault at the least place, while faults come one after another
abbrev pub least_after : Option CertFault → List CertFault → Option CertFault
least_after o [] = o
least_after o (f ∷ fs) = least_after (Some (lesser o f)) fs

abbrev pub first_fault : List CertFault → Option CertFault
first_fault = least_after None

-- the formula, or the fault at the least place
pub data CertAnswer : Type 0 where
  says : Formula → CertAnswer
  refused : CertFault → CertAnswer

abbrev pub answer_by : Option CertFault → Formula → CertAnswer
answer_by None F = says F
answer_by (Some f) F = refused f

-- what the text says of two programs
abbrev pub cert_answer : PlainModule → PlainModule → CertForm → CertAnswer
cert_answer P Q c = answer_by (first_fault (formula_faults (registers_of P) (registers_of Q) c.formula)) (resolved (registers_of P) (registers_of Q) c.formula)

-- the register exists, and has such a state
pub record IsStateOf (P Q : Registers) (w : Which) (r q : ℕ) (s : Known) : Type 0 where
  pub states : List Known
  pub register : slice_get (of_side P Q w) r ≡ Some states
  pub state : slice_get states q ≡ Some s

abbrev pub IsRegisterOf : Registers → Registers → Which → ℕ → Type 0
IsRegisterOf P Q w r = r < length (of_side P Q w)

-- each register, state and elapsed count that the formula names is one of its side
abbrev mutual
  pub NamesExist : Registers → Registers → Formula → Type 0
  NamesExist P Q (in_state w r q) = (s : Known) × IsStateOf P Q w r q s
  NamesExist P Q (at_elapsed w r q e) = (s : Known) × IsStateOf P Q w r q s × (has_elapsed s.count e ≡ true)
  NamesExist P Q (inactive w r) = IsRegisterOf P Q w r
  NamesExist P Q (same_code r s) = IsRegisterOf P Q left r × IsRegisterOf P Q right s
  NamesExist P Q always = Unit {0}
  NamesExist P Q never = Unit {0}
  NamesExist P Q (negation f) = NamesExist P Q f
  NamesExist P Q (all fs) = AllNamesExist P Q fs
  NamesExist P Q (any fs) = AllNamesExist P Q fs

  pub AllNamesExist : Registers → Registers → Formulas → Type 0
  AllNamesExist P Q no_formulas = Unit {0}
  AllNamesExist P Q (formula f fs) = NamesExist P Q f × AllNamesExist P Q fs

-- a fault of the list, and none is at a lesser place
pub record IsFirstFault (faults : List CertFault) (f : CertFault) : Type 0 where
  pub place : ℕ
  pub at : slice_get faults place ≡ Some f
  pub least : (k : ℕ) (other : CertFault) → slice_get faults k ≡ Some other → fault_at f ≤ fault_at other
