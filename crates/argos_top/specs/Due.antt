-- The due answer: what a call answers where no device fails. Source: this project.
use Rattle.std.specs.Prelude.{◌≡◌, ℕ, List, [], ◌∷◌, Bool, true, false}
use Rattle.argos_compile.specs.Accepting.{HasCycle, IsAccepted}
use Rattle.argos_core.specs.Process.{PlainModule}
use Rattle.argos_load.specs.EquivFiles.{EquivOf}
use Rattle.argos_load.specs.Programs.{ProgramOf}
use Rattle.argos_load.specs.Said.{Yes, Usage, Said, said, usage_text, yes_text}
use Rattle.argos_load.specs.Stages.{Stage, gives, says, ◌finally◌}
use Rattle.argos_load.specs.WovenFiles.{WovenOf, SimulationOf, IsJudgedModule}
use Rattle.argos_verdict.specs.Judgements.{IsAcceptable}
use Rattle.argos_words.specs.Words.{Words, Target, Command, check, compile, weave, simulate, equiv, sample, IsCommand, IsUsage}
use Rattle.eqn_core.specs.Equations.{Equations}
use Rattle.eqn_core.specs.Ordered.{IsOrdered}
use Rattle.argos_top.specs.Compilation.{Compiled}
use Rattle.argos_top.specs.Equivalence.{Compared}
use Rattle.argos_top.specs.Sample.{Sampled}
use Rattle.argos_top.specs.Simulation.{Simulated}

-- the names of the files that a command loads, in their order
abbrev pub files_of : Command → Words
files_of (simulate file aspects nodes) = file ∷ aspects
files_of (check file nodes) = file ∷ []
files_of (compile file to nodes) = file ∷ []
files_of (weave file aspects to nodes) = file ∷ aspects
files_of (equiv left right cert nodes) = left ∷ right ∷ cert ∷ []
files_of (sample n) = []

-- it reads the input
abbrev pub is_simulation : Command → Bool
is_simulation (simulate file aspects nodes) = true
is_simulation (check file nodes) = false
is_simulation (compile file to nodes) = false
is_simulation (weave file aspects to nodes) = false
is_simulation (equiv left right cert nodes) = false
is_simulation (sample n) = false

-- the command takes the program of this file with the aspects of these files, and gives so many nodes to each job
pub data Takes : Command → List ℕ → Words → ℕ → Type 0 where
  checks : (file : List ℕ) (nodes : ℕ) → Takes (check file nodes) file [] nodes
  compiles : (file : List ℕ) (to : Target) (nodes : ℕ) → Takes (compile file to nodes) file [] nodes
  weaves : (file : List ℕ) (aspects : Words) (to : Target) (nodes : ℕ) → Takes (weave file aspects to nodes) file aspects nodes
  simulates : (file : List ℕ) (aspects : Words) (nodes : ℕ) → Takes (simulate file aspects nodes) file aspects nodes

-- the command that the words are
pub data CommandOf (words : Words) : Stage Command → Type 0 where
  command : (c : Command) → IsCommand words c → CommandOf words (gives c)
  usage : IsUsage words → CommandOf words (says (said Usage usage_text))

-- the command writes a file, whose lines are free within what is asked of it
abbrev pub is_writing : Command → Bool
is_writing (simulate file aspects nodes) = false
is_writing (check file nodes) = false
is_writing (compile file to nodes) = true
is_writing (weave file aspects to nodes) = true
is_writing (equiv left right cert nodes) = false
is_writing (sample n) = false

abbrev pub Compiles : Words → Type 0
Compiles words = (c : Command) × IsCommand words c × (is_writing c ≡ true)

-- where each file name has this file, and this is the input
module _ (files : List ℕ → List ℕ) (input : List ℕ) where
  -- what a command says
  abbrev pub SaidBy : Command → Said → Type 0
  SaidBy (simulate file aspects nodes) = SimulationOf files file aspects finally λ r. Simulated r input
  SaidBy (check file nodes) = ProgramOf 1 (files file) finally λ p s. s ≡ said Yes yes_text
  SaidBy (compile file to nodes) = WovenOf files file [] finally λ x. Compiled x to
  SaidBy (weave file aspects to nodes) = WovenOf files file aspects finally λ x. Compiled x to
  SaidBy (equiv left right cert nodes) = EquivOf files left right cert finally Compared
  SaidBy (sample n) = Sampled n

  -- what is due for the words
  abbrev pub Due : Words → Said → Type 0
  Due words = CommandOf words finally SaidBy

-- Each accepted module of the files that the words name, the program or an observer, in which a local depends on itself, has ordered equations of few enough lines.
abbrev pub CyclesAreSolved : (List ℕ → List ℕ) → Words → Type 0
CyclesAreSolved files words = (c : Command) (file : List ℕ) (aspects : Words) (nodes : ℕ) (p : PlainModule) → IsCommand words c → Takes c file aspects nodes → IsJudgedModule files file aspects p → IsAcceptable p → HasCycle p
    → (E : Equations) × (most : ℕ) × IsOrdered E × IsAccepted p E most
