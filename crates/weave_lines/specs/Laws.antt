-- Laws of the woven systems. Source: this project.
use Rattle.std.specs.Prelude.{◌≡◌, ◌↔◌, ℕ, ◌+◌, ◌*◌, ◌≤◌, List, [], ◌∷◌, true, map, length}
use Rattle.argos_base.specs.Limits as limits
use Rattle.argos_base.specs.Runs.{Follows}
use Rattle.argos_base.specs.SignalSets.{SignalSet}
use Rattle.argos_core.specs.Overlaps.{IsGood}
use Rattle.argos_core.specs.Process.{PlainModule}
use Rattle.argos_core.specs.Reactions.{input_count, output_count}
use Rattle.argos_aspects.specs.Aspects.{Aspect, AllFit}
use Rattle.argos_aspects.specs.Weaving.{WovenConfiguration, woven_initial, IsWovenConfiguration, woven_code, WovenStep, IsWovenTrace, woven_registers, unrolled, need_with}
use Rattle.eqn_core.specs.Equations.{Equations, weight_of}
use Rattle.eqn_core.specs.Ordered.{all_below}
use Rattle.eqn_core.specs.Solutions.{Values, bit_of, word_of, Solves, RunsThrough, Runs}
use Rattle.weave_lines.specs.Systems.{IsMachineOf, IsWovenMachineOf, AreAdvised, CanJoin, HasRoom, IsShort}
use Rattle.weave_lines.specs.WovenLines.{woven_equations}

-- What weaving asks: W is a system of the base woven so far, of at most `most` lines, and J one of the aspect's observer, of at most `lines`.
pub record CanWeave (P : PlainModule) (before : List Aspect) (A : Aspect) (W J : Equations) (most lines : ℕ) : Type 0 where
  pub good : IsGood P
  pub fit : AllFit (A ∷ before) (input_count P) (output_count P)
  pub base : IsWovenMachineOf P before W
  pub observer : IsMachineOf A.observer J
  pub base_lines : length W.lines ≤ most
  pub observer_lines : length J.lines ≤ lines
  pub register_limit : woven_registers P (A ∷ before) ≤ limits.register_limit
  pub line_limit : need_with P before A most lines ≤ limits.woven_line_limit

-- the system with the aspect is one of the base with the aspect; for advice from the initial pair on, the memories are those behind its trace, and have 16 bits
abbrev pub WeavingIsWoven : Type 0
WeavingIsWoven = (P : PlainModule) (before : List Aspect) (A : Aspect) (W J : Equations) (memories : List ℕ) (most lines : ℕ) → CanWeave P before A W J most lines → AreAdvised W J A.seen A.advice A.advice.onset memories → all_below 65536 memories ≡ true → IsWovenMachineOf P (A ∷ before) (woven_equations W J A.seen A.advice memories)

-- and has at most so many lines, and at most this weight
abbrev pub WeavingIsSmall : Type 0
WeavingIsSmall = (P : PlainModule) (before : List Aspect) (A : Aspect) (W J : Equations) (memories : List ℕ) (most lines : ℕ) → CanWeave P before A W J most lines → AreAdvised W J A.seen A.advice A.advice.onset memories → all_below 65536 memories ≡ true
    → (length (woven_equations W J A.seen A.advice memories).lines ≤ need_with P before A most lines)
    × (weight_of (woven_equations W J A.seen A.advice memories) ≤ (length (unrolled A.advice.onset A.advice.trace) + 1) * (weight_of W + weight_of J) + 4 * (2 * output_count P + woven_registers P (A ∷ before) + 2))

-- what the building of the lines asks holds there
abbrev pub WeavingCanJoin : Type 0
WeavingCanJoin = (P : PlainModule) (before : List Aspect) (A : Aspect) (W J : Equations) (most lines : ℕ) → CanWeave P before A W J most lines → CanJoin W J A.seen A.advice × HasRoom W J A.seen A.advice × IsShort W J A.seen A.advice

-- At the code of a woven configuration a solution of its system has the outputs of the woven step, and as next words the code of the next configuration.
pub record IsStepOf (P : PlainModule) (aspects : List Aspect) (E : Equations) (x : WovenConfiguration) (i : SignalSet) (s : Values) : Type 0 where
  pub next : WovenConfiguration
  pub step : WovenStep P aspects x i (map (bit_of s) E.outputs) next
  pub words : map (word_of s) E.next ≡ woven_code P aspects next

abbrev pub WovenSolutionsAreSteps : Type 0
WovenSolutionsAreSteps = (P : PlainModule) (aspects : List Aspect) (E : Equations) (x : WovenConfiguration) (i : SignalSet) (s : Values) → IsGood P → AllFit aspects (input_count P) (output_count P) → IsWovenMachineOf P aspects E → IsWovenConfiguration P aspects x → Solves E (woven_code P aspects x) i s → IsStepOf P aspects E x i s

-- The runs of its system are the woven traces; the memories of a run are the codes of the configurations.
abbrev pub WovenTracesAreRuns : Type 0
WovenTracesAreRuns = (P : PlainModule) (aspects : List Aspect) (E : Equations) (inputs outputs : List SignalSet) (configurations : List WovenConfiguration) → IsGood P → AllFit aspects (input_count P) (output_count P) → IsWovenMachineOf P aspects E → Follows (WovenStep P aspects) (woven_initial P aspects) inputs outputs configurations → RunsThrough E inputs outputs (map (woven_code P aspects) configurations)

pub record IsTraceOf (P : PlainModule) (aspects : List Aspect) (inputs outputs : List SignalSet) (memories : List (List ℕ)) : Type 0 where
  pub configurations : List WovenConfiguration
  pub follows : Follows (WovenStep P aspects) (woven_initial P aspects) inputs outputs configurations
  pub codes : memories ≡ map (woven_code P aspects) configurations

abbrev pub WovenRunsAreTraces : Type 0
WovenRunsAreTraces = (P : PlainModule) (aspects : List Aspect) (E : Equations) (inputs outputs : List SignalSet) (memories : List (List ℕ)) → IsGood P → AllFit aspects (input_count P) (output_count P) → IsWovenMachineOf P aspects E → RunsThrough E inputs outputs memories → IsTraceOf P aspects inputs outputs memories

-- in short
abbrev pub WovenRuns : Type 0
WovenRuns = (P : PlainModule) (aspects : List Aspect) (E : Equations) (inputs outputs : List SignalSet) → IsGood P → AllFit aspects (input_count P) (output_count P) → IsWovenMachineOf P aspects E → (Runs E inputs outputs) ↔ (IsWovenTrace P aspects inputs outputs)

-- without aspects a system of the program is a system of the woven program
abbrev pub PlainIsWoven : Type 0
PlainIsWoven = (P : PlainModule) (E : Equations) → IsMachineOf P E → IsWovenMachineOf P [] E

-- what a weaving starts from: the system of the base woven so far, that of the observer, the memories behind the trace, and bounds on the lines of the two systems
pub record Parts : Type 0 where
  pub base : Equations
  pub observer : Equations
  pub memories : List ℕ
  pub most : ℕ
  pub lines : ℕ

-- E is woven from these parts, and `most` bounds its lines
pub record IsWovenOf (P : PlainModule) (before : List Aspect) (A : Aspect) (parts : Parts) (E : Equations) (most : ℕ) : Type 0 where
  pub observer : IsMachineOf A.observer parts.observer
  pub advised : AreAdvised parts.base parts.observer A.seen A.advice A.advice.onset parts.memories
  pub codes : all_below 65536 parts.memories ≡ true
  pub observer_lines : length parts.observer.lines ≤ parts.lines
  pub register_limit : woven_registers P (A ∷ before) ≤ limits.register_limit
  pub line_limit : need_with P before A parts.most parts.lines ≤ limits.woven_line_limit
  pub is : E ≡ woven_equations parts.base parts.observer A.seen A.advice parts.memories
  pub most_is : most ≡ need_with P before A parts.most parts.lines

-- E is got by weaving the aspects one after the other into a system of the program, which has at most `lines` lines
abbrev pub IsWovenFrom : PlainModule → ℕ → List Aspect → Equations → ℕ → Type 0
IsWovenFrom P lines [] E most = IsMachineOf P E × (length E.lines ≤ lines) × (most ≡ lines)
IsWovenFrom P lines (A ∷ before) E most = (parts : Parts) × IsWovenFrom P lines before parts.base parts.most × IsWovenOf P before A parts E most

-- then E is a system of the woven program with at most so many lines
abbrev pub WovenFromIsWoven : Type 0
WovenFromIsWoven = (P : PlainModule) (lines : ℕ) (aspects : List Aspect) (E : Equations) (most : ℕ) → IsGood P → AllFit aspects (input_count P) (output_count P) → IsWovenFrom P lines aspects E most → IsWovenMachineOf P aspects E × (length E.lines ≤ most)
