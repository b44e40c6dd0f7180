use Rattle.std.proofs.Common.{◌≡◌, ◌≤◌, length}
use Rattle.argos_bench.proofs.counter.count_carries.Given as goal

abbrev pub invariant-loop-step : goal.invariant-loop-step
invariant-loop-step l = record {
  same : l.stepper.equations ≡ l.fn.stepper.equations;
  output : length l.output ≡ 1;
  few : l.carries ≤ l._step;
}
