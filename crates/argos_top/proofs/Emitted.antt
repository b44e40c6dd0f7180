-- What is written of a woven program.
use Rattle.std.proofs.Common.{◌≡◌, ℕ, Result, Ok, Err, Vec, length, sym, ap, subst, ◌∙◌, arith}
use Rattle.std.proofs.Math.Logic.{∥∥₁_elim}
use Rattle.std.proofs.Props.{props}
use Rattle.std.specs.Prelude.{IfOk}
use Rattle.std.specs.declared.alloc.Global.{Global}
use Rattle.argos_base.specs.declared.out_of_memory.OutOfMemory.{OutOfMemory}
use Rattle.argos_aspects.specs.Weaving.{woven_initial, woven_registers}
use Rattle.argos_aspects.proofs.WovenLaws.{woven_initial_is_one, woven_codes_are_sized}
use Rattle.argos_compile.specs.Weaving.{WovenProgram, IsWoven}
use Rattle.argos_core.specs.Reactions.{input_count, output_count}
use Rattle.argos_words.specs.Views.{target_of}
use Rattle.argos_words.specs.declared.command.Target.{Target}
use Rattle.argos_words.specs.declared.command.Target.TheVariants as target
use Rattle.c_emit.specs.COf.{c_of}
use Rattle.c_emit.specs.Laws.{HasRunsOf, HasStatementsOf}
use Rattle.c_step.specs.CFile.{IsCText}
use Rattle.c_step.specs.CStep.{CStep}
use Rattle.eqn_core.specs.Equations.{Equations, registers}
use Rattle.eqn_core.specs.Solutions.{RunsThrough}
use Rattle.eqn_file.specs.EquationFile.{IsEquationText}
use Rattle.weave_lines.proofs.WovenLaws.{runs_are_traces, traces_are_runs}
use Rattle.argos_top.specs.Compilation.{IsRunAs, AreEmitted, IsEmittedStep, Compiled, compiled, compiled_c}
use Rattle.argos_load.specs.Runnables.{names_in}
use Rattle.argos_load.specs.Said.{Yes, said}

module _ (x : WovenProgram) (E : Equations) (most : ℕ) where
  registers_same : IsWoven x E most → registers E ≡ woven_registers x.base x.aspects
  registers_same w = ap length w.machine.initial ∙ woven_codes_are_sized x.base x.aspects (woven_initial x.base x.aspects) (woven_initial_is_one x.base x.aspects w.good w.fit)

  run_as : IsWoven x E most → IsRunAs x (RunsThrough E)
  run_as w = record {
    traces = λ inputs outputs configurations t. traces_are_runs x.base x.aspects E inputs outputs configurations w.good w.fit w.machine t;
    runs = λ inputs outputs memories r. let t = runs_are_traces x.base x.aspects E inputs outputs memories w.good w.fit w.machine r in (t.configurations, t.follows, t.codes);
  }

  -- the equations are those of the program
  pub emitted : IsWoven x E most → AreEmitted x E
  emitted w = record { registers_are = registers_same w; runs = run_as w; most = most; bound = w.bound; lines = w.lines }

  -- and so is their C step
  pub emitted_step : (s : CStep) → IsWoven x E most → s ≡ c_of E (names_in x.base) → HasRunsOf E s → HasStatementsOf E s → IsEmittedStep x s
  emitted_step s w is runs counted =
      let same : IsRunAs x (RunsThrough E) = run_as w in
      let initial : s.initial ≡ E.initial = ap (λ (z : CStep). z.initial) is in
      record {
        names = ap (λ (z : CStep). z.names) is;
        registers_are = ap length initial ∙ registers_same w;
        runs = record {
          traces = λ inputs outputs configurations t. (runs inputs outputs _).0 (same.traces inputs outputs configurations t);
          runs = λ inputs outputs memories t. same.runs inputs outputs memories ((runs inputs outputs memories).1 t);
        };
        most = most;
        bound = w.bound;
        statements = omega (arith, counted, w.lines, w.machine.inputs, w.machine.outputs, ap length initial);
      }

  -- they have the inputs and outputs of the program
  pub same_inputs : ∥ IsWoven x E most ∥₁ → input_count x.base ≡ E.inputs
  same_inputs w = ∥∥₁_elim w (hlevel props) (λ h. sym h.machine.inputs)

  pub same_outputs : ∥ IsWoven x E most ∥₁ → output_count x.base ≡ length E.outputs
  same_outputs w = ∥∥₁_elim w (hlevel props) (λ h. sym h.machine.outputs)

-- of what writes their text
pub compiles_equations : (x : WovenProgram) (E : Equations) (to : Target) (r : Result (Vec ℕ Global) OutOfMemory) → to ≡ target.Equations → ∥ AreEmitted x E ∥₁ → IfOk r (λ text. IsEquationText text.items E (names_in x.base))
    → IfOk r (λ text. Compiled x (target_of to) (said Yes text.items))
compiles_equations x E to (Ok text) is e h = subst (λ (t : Target). Compiled x (target_of t) (said Yes text.items)) (sym is) (compiled text.items E e h)
compiles_equations x E to (Err error) is e h = tt

pub compiles_c : (x : WovenProgram) (s : CStep) (to : Target) (r : Result (Vec ℕ Global) OutOfMemory) → to ≡ target.CText → ∥ IsEmittedStep x s ∥₁ → IfOk r (λ text. IsCText text.items s) → IfOk r (λ text. Compiled x (target_of to) (said Yes text.items))
compiles_c x s to (Ok text) is e h = subst (λ (t : Target). Compiled x (target_of t) (said Yes text.items)) (sym is) (compiled_c text.items s e h)
compiles_c x s to (Err error) is e h = tt
