-- The name rules, each broken at the place of a name. Source: this project.
use Rattle.std.specs.Prelude.{ℕ, ◌≤◌, List, [], ◌∷◌, ◌++◌, length, map, Option, Some, None, Bool, ◌&&◌, not, ◌==◌, bytes_eq, if◌then◌else◌, flat_map, Contains, find}
use Rattle.std.specs.List.{AllByRecursion}
use Rattle.argos_base.specs.Spelling.{is_one_of}
use Rattle.argos_grammar.specs.Forms.{Mark, Formula, Formulas, TransForm, TimedForm, Head, ProcessForm, automaton, local, freeze, run, BlockForm, no_processes, process, StateForms, no_states, state, BodyForm, plain, refined, ComponentForm}
use Rattle.argos_grammar.specs.Forms.{yes, no, atom, opposite, all, any, no_formulas, formula}

pub data Rule : Type 0 where
  Unknown Duplicate NotReadable NotEmittable Arity NotEarlier NoInitial : Rule

-- a rule that is broken, and the name at which it is
pub record Breach : Type 0 where
  pub rule : Rule
  pub mark : Mark

pub data Sort : Type 0 where
  input output inner : Sort

-- the names of a list
abbrev pub names_in : List Mark → List (List ℕ)
names_in = map (λ m. m.name)

-- the names in scope, the innermost first
abbrev pub Scope : Type 0
Scope = List (List ℕ × Sort)

abbrev pub sort_in : Scope → List ℕ → Option Sort
sort_in [] name = None
sort_in (e ∷ es) name = if bytes_eq e.0 name then Some e.1 else sort_in es name

abbrev pub breach : Rule → Mark → List Breach
breach r m = record { rule = r; mark = m } ∷ []

abbrev pub breach_unless : Bool → Rule → Mark → List Breach
breach_unless kept r m = if kept then [] else breach r m

-- of a signal that is read, by what it is in scope; of one that is emitted; of one that is declared
abbrev pub read_as : Option Sort → Mark → List Breach
read_as None m = breach Unknown m
read_as (Some input) m = []
read_as (Some output) m = breach NotReadable m
read_as (Some inner) m = []

abbrev pub emitted_as : Option Sort → Mark → List Breach
emitted_as None m = breach Unknown m
emitted_as (Some input) m = breach NotEmittable m
emitted_as (Some output) m = []
emitted_as (Some inner) m = []

abbrev pub declared_as : Option Sort → Mark → List Breach
declared_as None m = []
declared_as (Some s) m = breach Duplicate m

abbrev pub reading : Scope → Mark → List Breach
reading s m = read_as (sort_in s m.name) m

abbrev pub emitting : Scope → Mark → List Breach
emitting s m = emitted_as (sort_in s m.name) m

-- the scope with names of this sort, and what is broken while they come in one by one
abbrev pub with_names : Sort → List Mark → Scope → Scope
with_names sort [] s = s
with_names sort (m ∷ ms) s = with_names sort ms ((m.name, sort) ∷ s)

abbrev pub declaring : Sort → List Mark → Scope → List Breach
declaring sort [] s = []
declaring sort (m ∷ ms) s = declared_as (sort_in s m.name) m ++ declaring sort ms ((m.name, sort) ∷ s)

-- the atoms of a formula
abbrev mutual
  pub atoms : {A : Type 0} → Formula A → List A
  atoms yes = []
  atoms no = []
  atoms (atom a) = a ∷ []
  atoms (opposite f) = atoms f
  atoms (all fs) = atoms_in fs
  atoms (any fs) = atoms_in fs

  pub atoms_in : {A : Type 0} → Formulas A → List A
  atoms_in no_formulas = []
  atoms_in (formula f fs) = atoms f ++ atoms_in fs

abbrev pub state_names : StateForms → List (List ℕ)
state_names no_states = []
state_names (state h b ss) = h.name.name ∷ state_names ss

-- of the target of a goto, among these names of states
abbrev pub going : List (List ℕ) → Mark → List Breach
going names m = breach_unless (is_one_of names m.name) Unknown m

abbrev pub in_trans : Scope → List (List ℕ) → TransForm → List Breach
in_trans s names t = flat_map (reading s) (atoms t.guard) ++ flat_map (emitting s) t.outs ++ going names t.target

abbrev pub in_timed : Scope → List (List ℕ) → Option TimedForm → List Breach
in_timed s names None = []
in_timed s names (Some t) = reading s t.signal ++ flat_map (emitting s) t.outs ++ going names t.target

abbrev pub in_head : Scope → List (List ℕ) → Head → List Breach
in_head s names h = flat_map (in_trans s names) h.trans ++ in_timed s names h.timed

-- the components before this one, and the names of all
pub record Around : Type 0 where
  pub earlier : List ComponentForm
  pub names : List (List ℕ)

abbrev pub named : List ℕ → List ComponentForm → Option ComponentForm
named name = find (λ c. bytes_eq c.name.name name)

-- of the component that is run, with so many inputs and outputs
abbrev pub run_as : Option ComponentForm → List (List ℕ) → Mark → ℕ → ℕ → List Breach
run_as (Some c) names m xs ys = breach_unless (length c.inputs == xs && length c.outputs == ys) Arity m
run_as None names m xs ys = breach (if is_one_of names m.name then NotEarlier else Unknown) m

-- in a process, in a block, in states of which those before have the names seen, and in a body
abbrev mutual
  pub in_process : Around → Scope → ProcessForm → List Breach
  in_process a s (automaton i ss) = breach_unless (is_one_of (state_names ss) i.name) NoInitial i ++ in_states a s (state_names ss) [] ss
  in_process a s (local ns b) = declaring inner ns s ++ in_block a (with_names inner ns s) b
  in_process a s (freeze m b) = reading s m ++ in_block a s b
  in_process a s (run c xs ys) = run_as (named c.name a.earlier) a.names c (length xs) (length ys) ++ flat_map (reading s) xs ++ flat_map (emitting s) ys

  pub in_block : Around → Scope → BlockForm → List Breach
  in_block a s no_processes = []
  in_block a s (process p b) = in_process a s p ++ in_block a s b

  pub in_states : Around → Scope → List (List ℕ) → List (List ℕ) → StateForms → List Breach
  in_states a s names seen no_states = []
  in_states a s names seen (state h b ss) = breach_unless (not (is_one_of seen h.name.name)) Duplicate h.name ++ in_body a s b ++ in_head s names h
      ++ in_states a s names (h.name.name ∷ seen) ss

  pub in_body : Around → Scope → BodyForm → List Breach
  in_body a s plain = []
  in_body a s (refined b) = in_block a s b

abbrev pub in_component : Around → ComponentForm → List Breach
in_component a c = (breach_unless (not (is_one_of (map (λ d. d.name.name) a.earlier) c.name.name)) Duplicate c.name)
    ++ declaring input c.inputs [] ++ declaring output c.outputs (with_names input c.inputs [])
    ++ in_block a (with_names output c.outputs (with_names input c.inputs [])) c.block

-- in components of which those before stand as earlier
abbrev pub breaches_from : List (List ℕ) → List ComponentForm → List ComponentForm → List Breach
breaches_from names earlier [] = []
breaches_from names earlier (c ∷ cs) = in_component (record { earlier = earlier; names = names }) c ++ breaches_from names (earlier ++ c ∷ []) cs

-- all that is broken, in the order of the text
abbrev pub breaches : List ComponentForm → List Breach
breaches cs = breaches_from (map (λ c. c.name.name) cs) [] cs

-- broken, and nothing is broken at a lesser place
pub record IsLeastBreach (cs : List ComponentForm) (b : Breach) : Type 0 where
  pub broken : Contains (breaches cs) b
  pub least : AllByRecursion (λ other. b.mark.at ≤ other.mark.at) (breaches cs)
