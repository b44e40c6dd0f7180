use Rattle.std.proofs.Math.Logic.{∥∥₁_map}
use Rattle.argos_compile.specs.WovenViews.{woven_view}
use Rattle.c_step.specs.StepViews.{step_of}
use Rattle.argos_top.proofs.Emitted.{emitted, emitted_step, compiles_equations, compiles_c}
use Rattle.argos_top.proofs.compile.compiled.Goals as goal

pub returns-in-Equations : goal.returns-in-Equations
returns-in-Equations c =
    let w = c.args.woven.now in
    compiles_equations (woven_view w) w.ordered c.args.to c.write_equations.result c.in-Equations.is (∥∥₁_map w.judged (emitted (woven_view w) w.ordered w.most)) c.write_equations.ensures

pub returns-in_ok-step-in-CText : goal.returns-in_ok-step-in-CText
returns-in_ok-step-in-CText c =
    let w = c.args.woven.now in
    let made = c.in_ok-step-in-CText.ensures {u = tt} in
    let s = step_of c.in_ok-step-in-CText.step in
    compiles_c (woven_view w) s c.args.to c.print_c.result c.in-CText.is (∥∥₁_map w.judged (λ h. emitted_step (woven_view w) w.ordered w.most s h made.step made.runs made.counted)) c.print_c.ensures
