-- What the files of a program and of the aspects over it give, or what is said of them. Source: this project.
use Rattle.std.specs.Prelude.{◌≡◌, ℕ, zero, suc, ◌<◌, ◌≤◌, List, [], ◌∷◌, take, Some, slice_get}
use Rattle.argos_aspects.specs.Aspects.{Aspect}
use Rattle.argos_base.specs.Limits.{woven_line_limit}
use Rattle.argos_compile.specs.Weaving.{WovenProgram, plain, with_aspect, IsWovenLineBound}
use Rattle.argos_core.specs.Process.{PlainModule}
use Rattle.argos_grammar.specs.DueSymbols as symbols
use Rattle.argos_grammar.specs.Faults.{Kind, FirstFault}
use Rattle.argos_grammar.specs.Forms.{AspectForm}
use Rattle.argos_grammar.specs.Text.{IsAspectText}
use Rattle.argos_scope.specs.Meaning.{Means}
use Rattle.argos_verdict.specs.Jobs.{IsStopped}
use Rattle.dd_core.specs.Arenas.{ArenaView}
use Rattle.line_format.specs.FileNames.{FileNames}
use Rattle.pointcuts.specs.Pointcuts.{IsAspectOf, AspectFault, IsAspectFault}
use Rattle.argos_load.specs.Programs.{TextOf, AcceptedOf, ProgramOf, RunnableFile}
use Rattle.argos_load.specs.Reports.{fault_text, aspect_fault_text, lines_text}
use Rattle.argos_load.specs.Runnables.{Runnable, program, names_in}
use Rattle.argos_load.specs.Said.{Refused, said}
use Rattle.argos_load.specs.Stages.{Stage, gives, says, ◌then◌}

-- the tree of file k, which is an aspect
pub data AspectTreeOf (k : ℕ) (text : List ℕ) : Stage AspectForm → Type 0 where
  tree : (t : AspectForm) → IsAspectText text t → AspectTreeOf k text (gives t)
  fault : (at : ℕ) (kind : Kind) → FirstFault symbols.aspect text at kind → AspectTreeOf k text (says (said Refused (fault_text k at kind)))

-- the aspect that the tree is over a program with these names
pub data AspectOver (k : ℕ) (names : FileNames) (t : AspectForm) : Stage Aspect → Type 0 where
  aspect : (A : Aspect) → IsAspectOf t names A → AspectOver k names t (gives A)
  fault : (f : AspectFault) → IsAspectFault t names f → AspectOver k names t (says (said Refused (aspect_fault_text k f)))

-- the aspect, where its observer is accepted
abbrev pub ObservedOf : ℕ → Aspect → Stage Aspect → Type 0
ObservedOf k A = AcceptedOf k A.observer then λ _ r. r ≡ gives A

-- the program with the aspect of file k, where it needs few enough lines
pub data WovenWith (k : ℕ) (x : WovenProgram) (A : Aspect) : Stage WovenProgram → Type 0 where
  woven : (need : ℕ) → ∥ IsWovenLineBound (with_aspect x A) need ∥₁ → need ≤ woven_line_limit → WovenWith k x A (gives (with_aspect x A))
  too_many : (need : ℕ) → ∥ IsWovenLineBound (with_aspect x A) need ∥₁ → woven_line_limit < need → WovenWith k x A (says (said Refused (lines_text k need)))

-- the program with the aspect of file k, which has these bytes
abbrev pub AspectFile : ℕ → WovenProgram → List ℕ → Stage WovenProgram → Type 0
AspectFile k x bs = TextOf k bs then λ text. AspectTreeOf k text then λ t. AspectOver k (names_in x.base) t then λ A. ObservedOf k A then λ B. WovenWith k x B

-- these bytes are an aspect over the program, of whose observer a job found no room in this arena, within so many nodes
pub record IsObserverOutOfNodes (nodes : ℕ) (x : WovenProgram) (bs : List ℕ) (arena : ArenaView) : Type 0 where
  pub tree : AspectForm
  pub text : IsAspectText bs tree
  pub aspect : Aspect
  pub is : IsAspectOf tree (names_in x.base) aspect
  pub stopped : IsStopped aspect.observer nodes arena

-- where each file name has this file
module _ (files : List ℕ → List ℕ) where
  -- the program with the aspects of these files, which are numbered from k
  abbrev pub WovenFrom : ℕ → List (List ℕ) → WovenProgram → Stage WovenProgram → Type 0
  WovenFrom k [] x r = r ≡ gives x
  WovenFrom k (name ∷ names) x r = (AspectFile k x (files name) then λ y. WovenFrom (suc k) names y) r

  -- the program of file 1 with the aspects of the files after it
  abbrev pub WovenOf : List ℕ → List (List ℕ) → Stage WovenProgram → Type 0
  WovenOf file aspects = ProgramOf 1 (files file) then λ p. WovenFrom 2 aspects (plain p)

  -- what is simulated: without aspects any file that runs
  abbrev pub SimulationOf : List ℕ → List (List ℕ) → Stage Runnable → Type 0
  SimulationOf file [] = RunnableFile 1 (files file)
  SimulationOf file (name ∷ names) = WovenOf file (name ∷ names) then λ x r. r ≡ gives (program x)

  -- the files at the places before k are good: that of the program is at place 0, those of its aspects follow
  abbrev pub AreGoodFiles : List ℕ → List (List ℕ) → ℕ → Type 0
  AreGoodFiles file aspects zero = Unit {0}
  AreGoodFiles file aspects (suc k) = (x : WovenProgram) × WovenOf file (take k aspects) (gives x)

  -- a module that is judged: that of the program, or the observer of an aspect behind good files
  pub data IsJudgedModule (file : List ℕ) (aspects : List (List ℕ)) : PlainModule → Type 0 where
    of_program : (p : PlainModule) → Means (files file) p → IsJudgedModule file aspects p
    of_observer : (k : ℕ) (name : List ℕ) (x : WovenProgram) (t : AspectForm) (A : Aspect) → slice_get aspects k ≡ Some name → WovenOf file (take k aspects) (gives x)
        → IsAspectText (files name) t → IsAspectOf t (names_in x.base) A → IsJudgedModule file aspects A.observer

  -- a job of one of these modules found no room in this arena, within so many nodes
  pub record AreOutOfNodes (file : List ℕ) (aspects : List (List ℕ)) (nodes : ℕ) (arena : ArenaView) : Type 0 where
    pub judged : PlainModule
    pub is : IsJudgedModule file aspects judged
    pub stopped : IsStopped judged nodes arena
