-- What a judgement says of a module. Source: this project.
use Rattle.std.specs.Prelude.{◌≡◌, ◌+◌, ◌*◌, ◌≤◌, ℕ, length}
use Rattle.std.specs.List.{range_with_len}
use Rattle.argos_base.specs.Machines.{no_reaction, several, AlwaysReactsOnce}
use Rattle.argos_core.specs.Automata.{register_count}
use Rattle.argos_core.specs.Codes.{code_of}
use Rattle.argos_core.specs.Layouts.{FitsLayout, layout_of}
use Rattle.argos_core.specs.Process.{PlainModule}
use Rattle.argos_core.specs.Reactions.{input_count, output_count, initial_of}
use Rattle.argos_core.specs.Sizes.{size_of}
use Rattle.argos_core.specs.Views.{shapes_of}
use Rattle.eqn_build.specs.Promises.{ReactsAs, IsCyclicAs, ChoosesLocals}
use Rattle.eqn_core.specs.Equations.{weight_of}
use Rattle.eqn_core.specs.Orderable.{IsOrderable}
use Rattle.eqn_core.specs.Plans.{IsPlanOf}
use Rattle.eqn_core.specs.Solutions.{SystemReacts}
use Rattle.eqn_core.specs.Views.{equations_from}
use Rattle.instant_check.specs.ModuleOverlaps.{IsFound}
use Rattle.instant_verdict.specs.Verdicts.{coded}
use Rattle.argos_verdict.specs.Jobs.{AreCyclicSignals, IsTooWide, IsStopped}
use Rattle.argos_verdict.specs.Judgements.{IsAcceptable, IsBadCase}
use Rattle.argos_verdict.specs.declared.judging.AcceptError.{AcceptError}
use Rattle.argos_verdict.specs.declared.judging.AcceptError.TheVariants.{Overlap, NoReaction, Several, Variables, Budget, OutOfMemory}
use Rattle.argos_verdict.specs.declared.judging.Sound.{Sound}

-- It is accepted, and these are its equations with their plan and its layout: at the codes of configurations they have exactly its reactions, one to each input, with its locals.
pub record IsSound (P : PlainModule) (s : Sound) : Type 0 where
  pub acceptable : IsAcceptable P
  pub reacts : ReactsAs P (equations_from s.system)
  pub chosen : ChoosesLocals P (equations_from s.system)
  pub own_cycles : IsCyclicAs P (equations_from s.system)
  pub once : AlwaysReactsOnce (FitsLayout (layout_of P.process)) s.system.inputs (SystemReacts (equations_from s.system))
  pub initial : s.system.init.items ≡ code_of P.process (initial_of P)
  pub registers : length s.system.init.items ≡ register_count P.process
  pub inputs : s.system.inputs ≡ input_count P
  pub outputs : s.system.outs.items ≡ range_with_len (input_count P) (output_count P)
  pub locals : s.system.locals.items ≡ range_with_len (input_count P + output_count P) (length P.locals)
  pub lines : length s.system.lines.items ≤ 8 * size_of P
  pub weight : weight_of (equations_from s.system) ≤ 32 * size_of P
  pub orderable : IsOrderable (equations_from s.system)
  pub plan : IsPlanOf (equations_from s.system) s.plan.order.items s.plan.cyclic.items
  pub cyclic : AreCyclicSignals P s.plan.cyclic.items
  pub layout : shapes_of s.layout ≡ layout_of P.process

-- Why it isn't accepted: of overlaps, jobs with too many variables and cases without exactly one reaction the first, or a job that found no room within the budget.
abbrev pub IsRefused : PlainModule → ℕ → AcceptError → Type 0
IsRefused P budget (Overlap r q x y S) = IsFound P r.0 q x y S
IsRefused P budget (NoReaction memory input) = IsBadCase P memory.items input no_reaction
IsRefused P budget (Several memory input first second) = IsBadCase P memory.items input (several (coded first) (coded second))
IsRefused P budget (Variables n) = IsTooWide P n
IsRefused P budget (Budget arena) = IsStopped P budget arena
IsRefused P budget OutOfMemory = Unit {0}
