-- The reports of modules that aren't accepted. Source: this project.
use Rattle.std.specs.Prelude.{◌≡◌, ℕ, ◌+◌, List, ◌++◌, codes, decimal}
use Rattle.argos_base.specs.Machines.{CodedReaction, Fault, no_reaction, several}
use Rattle.argos_base.specs.Names.{Spelled}
use Rattle.argos_base.specs.SignalSets.{SignalSet}
use Rattle.argos_core.specs.Process.{PlainModule}
use Rattle.argos_verdict.specs.declared.judging.AcceptError.{AcceptError}
use Rattle.argos_verdict.specs.declared.judging.AcceptError.TheVariants.{Overlap, NoReaction, Several, Variables, Budget, OutOfMemory}
use Rattle.instant_verdict.specs.Verdicts.{coded}
use Rattle.trace_io.specs.Lines.{set_text}
use Rattle.argos_report.specs.States.{state_name, memory_text}
use Rattle.argos_report.specs.Texts.{line, refused_file, no_file}

-- the names of all signals, by number
abbrev pub signal_names : PlainModule → List Spelled
signal_names P = P.inputs ++ (P.outputs ++ P.locals)

-- transitions are counted from 1
abbrev pub overlap_cause : PlainModule → ℕ → ℕ → ℕ → ℕ → SignalSet → List ℕ
overlap_cause P r q x y S =
    codes "overlap in r" ++ decimal r ++ codes " state " ++ state_name P r q
    ++ codes " of transitions " ++ decimal (x + 1) ++ codes " and " ++ decimal (y + 1) ++ codes " at " ++ set_text S (signal_names P)

abbrev pub overlap_text : ℕ → PlainModule → ℕ → ℕ → ℕ → ℕ → SignalSet → List ℕ
overlap_text k P r q x y S = refused_file k (overlap_cause P r q x y S)

-- a job of file k has n variables
abbrev pub variables_text : ℕ → ℕ → List ℕ
variables_text k n = refused_file k (decimal n ++ codes " variables")

-- a job found no room among so many nodes
abbrev pub budget_text : ℕ → List ℕ
budget_text n = line (codes "budget: " ++ decimal n ++ codes " nodes")

-- the memory and the input of a case
abbrev pub case_text : PlainModule → List ℕ → SignalSet → List ℕ
case_text P m i = line (codes "memory " ++ memory_text P m) ++ line (codes "input " ++ set_text i P.inputs)

abbrev pub reaction_text : PlainModule → CodedReaction → List ℕ
reaction_text P r = codes " emit " ++ set_text r.outputs P.outputs ++ codes " memory " ++ memory_text P r.next

-- a case of file k without exactly one reaction
abbrev pub bad_case_text : ℕ → PlainModule → List ℕ → SignalSet → Fault → List ℕ
bad_case_text k P m i no_reaction = no_file k (codes "no reaction") ++ case_text P m i
bad_case_text k P m i (several first second) =
    no_file k (codes "several reactions") ++ case_text P m i ++ line (codes "first" ++ reaction_text P first) ++ line (codes "second" ++ reaction_text P second)

-- The bytes are the report of file k, whose module isn't accepted for this reason, within a budget of so many nodes; want of memory has none.
abbrev pub IsReport : ℕ → PlainModule → ℕ → AcceptError → List ℕ → Type 0
IsReport k P budget (Overlap r q x y S) bs = bs ≡ overlap_text k P r.0 q x y S
IsReport k P budget (NoReaction memory input) bs = bs ≡ bad_case_text k P memory.items input no_reaction
IsReport k P budget (Several memory input first second) bs = bs ≡ bad_case_text k P memory.items input (several (coded first) (coded second))
IsReport k P budget (Variables n) bs = bs ≡ variables_text k n
IsReport k P budget (Budget arena) bs = bs ≡ budget_text budget
IsReport k P budget OutOfMemory bs = ⊥
