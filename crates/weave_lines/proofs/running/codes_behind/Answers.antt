use Rattle.std.proofs.Common.{◌≡◌, length, map, ap, ◌∙◌, sym, subst}
use Rattle.std.proofs.lemmas.List.{length-map}
use Rattle.argos_base.specs.SignalSets.{SignalSet}
use Rattle.argos_aspects.specs.Views.{seen_of}
use Rattle.argos_aspects.specs.Weaving.{sees, observed}
use Rattle.eqn_core.specs.Equations.{Equations}
use Rattle.eqn_core.specs.Running.{Running}
use Rattle.eqn_core.specs.Solutions.{SystemReacts}
use Rattle.weave_lines.proofs.CopyLoops.{sized-at}
use Rattle.weave_lines.proofs.RunLoops.{step-of, outputs-sized, move-more, moves-end, moves-from}
use Rattle.weave_lines.proofs.running.codes_behind.Goals as goal

pub loop-set-init : goal.loop-set-init
loop-set-init c = record {
  base = ap (λ (x : Running). x.equations) c.in_ok-base_runs.ensures;
  observer = ap (λ (x : Running). x.equations) c.in_ok-observer_runs.ensures;
  outputs = c.in_ok-outputs.ensures;
  observed = c.in_ok-observed.ensures;
  join = c.in_ok-join.ensures;
  moves = moves-from c.args.base.now c.args.observer.now (map seen_of c.args.seen.now) c.args.trace.now c.in_ok-base_runs.base_runs c.in_ok-observer_runs.observer_runs c.in_ok-base_runs.ensures c.in_ok-observer_runs.ensures;
}

pub step-requires-clause-inputs : goal.step-requires-clause-inputs
step-requires-clause-inputs c =
    sized-at c.args.base.now.inputs c.args.trace.now c.loop-set.set-index c.set-item.result c.requires.trace c.loop-set-test.true c.set-item.is
    ∙ ap (λ (E : Equations). E.inputs) (sym c.loop-set.invariant.base)

pub loop-set-preserved : goal.loop-set-preserved
loop-set-preserved c =
    let W : Equations = c.args.base.now in
    let J : Equations = c.args.observer.now in
    let S = map seen_of c.args.seen.now in
    let r1 : SystemReacts W c.loop-set.base_runs.memory c.set-item.result c.step.new.output c.step.new.self.memory = step-of W c.loop-set.base_runs c.step.new.self c.set-item.result c.step.new.output c.loop-set.invariant.base c.step.ensures in
    let input : c.observe.new.set ≡ observed S c.set-item.result c.step.new.output = c.observe.ensures in
    let r2 : SystemReacts J c.loop-set.observer_runs.memory (observed S c.set-item.result c.step.new.output) c.step-in-loop-set.new.output c.step-in-loop-set.new.self.memory = subst (λ (i : SignalSet). SystemReacts J c.loop-set.observer_runs.memory i c.step-in-loop-set.new.output c.step-in-loop-set.new.self.memory) input (step-of J c.loop-set.observer_runs c.step-in-loop-set.new.self c.observe.new.set c.step-in-loop-set.new.output c.loop-set.invariant.observer c.step-in-loop-set.ensures) in
    record {
      base = c.step.ensures.same ∙ c.loop-set.invariant.base;
      observer = c.step-in-loop-set.ensures.same ∙ c.loop-set.invariant.observer;
      outputs = outputs-sized W _ _ _ _ r1;
      observed = ap length input ∙ length-map S (sees c.set-item.result c.step.new.output) ∙ c.requires.observe.seen_sized;
      join = outputs-sized J _ _ _ _ r2;
      moves = move-more W J S c.args.trace.now c.loop-set.set-index c.set-item.result c.step.new.output c.step-in-loop-set.new.output _ _ _ _ _ _ c.loop-set-test.true c.set-item.is r1 r2 c.loop-set.invariant.moves;
    }

pub returns : goal.returns
returns c = record {
  base = c.loop-set.base_runs.memory;
  observer = c.loop-set.observer_runs.memory;
  moves = moves-end c.args.base.now c.args.observer.now (map seen_of c.args.seen.now) c.args.trace.now c.loop-set.set-index _ _ _ _ c.loop-set-test.false c.loop-set.invariant.moves;
  are = c.in_ok-codes.ensures;
}
