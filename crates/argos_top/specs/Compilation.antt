-- What a program with its aspects is written as, to equations or to C. Source: this project.
use Rattle.std.specs.Prelude.{◌≡◌, ℕ, ◌+◌, ◌≤◌, List, length, map}
use Rattle.argos_aspects.specs.Weaving.{WovenConfiguration, woven_initial, woven_code, woven_registers, WovenStep}
use Rattle.argos_base.specs.Runs.{Follows}
use Rattle.argos_base.specs.SignalSets.{SignalSet}
use Rattle.argos_compile.specs.Weaving.{WovenProgram, IsWovenLineBound}
use Rattle.argos_load.specs.Runnables.{names_in}
use Rattle.argos_load.specs.Said.{Yes, Said, said}
use Rattle.argos_words.specs.Words.{Target, Equations, CText}
use Rattle.c_step.specs.CFile.{IsCText}
use Rattle.c_step.specs.CRuns.{CRunsThrough}
use Rattle.c_step.specs.CStep.{CStep}
use Rattle.eqn_core.specs.Equations as systems
use Rattle.eqn_core.specs.Equations.{registers}
use Rattle.eqn_core.specs.Solutions.{RunsThrough}
use Rattle.eqn_file.specs.EquationFile.{IsEquationText}

-- from the initial configurations the woven program goes through these
abbrev pub GoesThrough : WovenProgram → List SignalSet → List SignalSet → List WovenConfiguration → Type 0
GoesThrough x = Follows (WovenStep x.base x.aspects) (woven_initial x.base x.aspects)

abbrev pub codes_in : WovenProgram → List WovenConfiguration → List (List ℕ)
codes_in x = map (woven_code x.base x.aspects)

-- What runs so has exactly the traces of the woven program, and goes through the codes of their configurations.
pub record IsRunAs (x : WovenProgram) (Runs : List SignalSet → List SignalSet → List (List ℕ) → Type 0) : Type 0 where
  pub traces : (inputs outputs : List SignalSet) (configurations : List WovenConfiguration) → GoesThrough x inputs outputs configurations → Runs inputs outputs (codes_in x configurations)
  pub runs : (inputs outputs : List SignalSet) (memories : List (List ℕ)) → Runs inputs outputs memories
      → (configurations : List WovenConfiguration) × GoesThrough x inputs outputs configurations × (memories ≡ codes_in x configurations)

-- The system has a register for each automaton of the program, and then for those of each observer in turn; its runs are the traces, with the codes in its registers; and it has few lines. Which lines these are is free.
pub record AreEmitted (x : WovenProgram) (E : systems.Equations) : Type 0 where
  pub registers_are : registers E ≡ woven_registers x.base x.aspects
  pub runs : IsRunAs x (RunsThrough E)
  pub most : ℕ
  pub bound : IsWovenLineBound x most
  pub lines : length E.lines ≤ most

-- The step has the program's names and such registers; its runs are the traces, with the codes in its registers; and it has at most as many statements as inputs, such lines, outputs and registers together. Which statements these are is free.
pub record IsEmittedStep (x : WovenProgram) (s : CStep) : Type 0 where
  pub names : s.names ≡ names_in x.base
  pub registers_are : length s.initial ≡ woven_registers x.base x.aspects
  pub runs : IsRunAs x (CRunsThrough s)
  pub most : ℕ
  pub bound : IsWovenLineBound x most
  pub statements : length s.statements ≤ length x.base.inputs + (most + (length x.base.outputs + length s.initial))

-- a file of such a system or step with the program's names; that it is such a one is told without a choice of how
pub data Compiled (x : WovenProgram) : Target → Said → Type 0 where
  compiled : (bytes : List ℕ) (E : systems.Equations) → ∥ AreEmitted x E ∥₁ → IsEquationText bytes E (names_in x.base) → Compiled x Equations (said Yes bytes)
  compiled_c : (bytes : List ℕ) (s : CStep) → ∥ IsEmittedStep x s ∥₁ → IsCText bytes s → Compiled x CText (said Yes bytes)
