-- What the grammar and the name rules together say of processes, as facts.
use Rattle.std.specs.Prelude.{◌≡◌, ℕ, ◌<◌, ◌≤◌, List, [], ◌++◌, Option, Some, None, false, length, map}
use Rattle.std.specs.List.{AllByRecursion}
use Rattle.argos_base.specs.Spelling.{is_one_of}
use Rattle.argos_base.specs.Names.{AreDistinct}
use Rattle.argos_grammar.specs.Forms.{Mark, TransForm, TimedForm, Head, ProcessForm, automaton, local, freeze, run, BlockForm, no_processes, process, StateForms, no_states, state, BodyForm, plain, refined, ComponentForm}
use Rattle.argos_grammar.specs.Text.{IsFormula}
use Rattle.argos_names.specs.Scope.{Sort, input, output, inner, Scope, sort_in, with_names, state_names}
use Rattle.argos_expansion.specs.Expansion.{Known, found, state_number}

-- the names of marks
abbrev pub names_of : List Mark → List (List ℕ)
names_of = map (λ m. m.name)

-- what can be read, and what can be emitted
abbrev pub CanRead : Option Sort → Type 0
CanRead None = ⊥
CanRead (Some input) = Unit {0}
CanRead (Some output) = ⊥
CanRead (Some inner) = Unit {0}

abbrev pub CanEmit : Option Sort → Type 0
CanEmit None = ⊥
CanEmit (Some input) = ⊥
CanEmit (Some output) = Unit {0}
CanEmit (Some inner) = Unit {0}

abbrev pub IsRead : Scope → Mark → Type 0
IsRead s m = CanRead (sort_in s m.name)

abbrev pub IsEmitted : Scope → Mark → Type 0
IsEmitted s m = CanEmit (sort_in s m.name)

-- a state of these names
abbrev pub IsThere : List (List ℕ) → Mark → Type 0
IsThere names m = state_number names m < length names

abbrev pub IsSoundTrans : Scope → List (List ℕ) → TransForm → Type 0
IsSoundTrans s names t = IsFormula (IsRead s) t.guard × AllByRecursion (IsEmitted s) t.outs × IsThere names t.target

abbrev pub IsSoundTimed : Scope → List (List ℕ) → Option TimedForm → Type 0
IsSoundTimed s names None = Unit {0}
IsSoundTimed s names (Some t) = (1 ≤ t.count) × IsRead s t.signal × AllByRecursion (IsEmitted s) t.outs × IsThere names t.target

abbrev pub IsSoundHead : Scope → List (List ℕ) → Head → Type 0
IsSoundHead s names h = AllByRecursion (IsSoundTrans s names) h.trans × IsSoundTimed s names h.timed

-- a component that is known, with so many inputs and outputs
abbrev pub IsFound : Option Known → ℕ → ℕ → Type 0
IsFound None xs ys = ⊥
IsFound (Some k) xs ys = (length k.component.inputs ≡ xs) × (length k.component.outputs ≡ ys)

-- processes, blocks with some process, more processes, states and bodies
abbrev mutual
  pub IsSound : List Known → Scope → ProcessForm → Type 0
  IsSound ks s (automaton i ss) = AreDistinct (state_names ss) × IsThere (state_names ss) i × AreSoundStates ks s (state_names ss) ss
  IsSound ks s (local ns b) = IsSoundBlock ks (with_names inner ns s) b
  IsSound ks s (freeze m b) = IsRead s m × IsSoundBlock ks s b
  IsSound ks s (run c xs ys) = IsFound (found c.name ks) (length xs) (length ys) × AllByRecursion (IsRead s) xs × AllByRecursion (IsEmitted s) ys

  pub IsSoundBlock : List Known → Scope → BlockForm → Type 0
  IsSoundBlock ks s no_processes = ⊥
  IsSoundBlock ks s (process p b) = IsSound ks s p × AreSound ks s b

  pub AreSound : List Known → Scope → BlockForm → Type 0
  AreSound ks s no_processes = Unit {0}
  AreSound ks s (process p b) = IsSound ks s p × AreSound ks s b

  pub AreSoundStates : List Known → Scope → List (List ℕ) → StateForms → Type 0
  AreSoundStates ks s names no_states = Unit {0}
  AreSoundStates ks s names (state h b ss) = IsSoundHead s names h × IsSoundBody ks s b × AreSoundStates ks s names ss

  pub IsSoundBody : List Known → Scope → BodyForm → Type 0
  IsSoundBody ks s plain = Unit {0}
  IsSoundBody ks s (refined b) = IsSoundBlock ks s b

-- the scope of a component's block
abbrev pub scope_in : ComponentForm → Scope
scope_in c = with_names output c.outputs (with_names input c.inputs [])

-- a component after those that are known
pub record IsSoundComponent (ks : List Known) (c : ComponentForm) : Type 0 where
  -- no two of its signals have one name
  pub distinct : AreDistinct (names_of c.inputs ++ names_of c.outputs)
  pub apart : AllByRecursion (λ n. is_one_of (names_of c.inputs) n ≡ false) (names_of c.outputs)
  pub block : IsSoundBlock ks (scope_in c) c.block
