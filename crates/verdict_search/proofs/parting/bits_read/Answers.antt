use Rattle.std.proofs.Common.{◌≡◌, ◌+◌, Some, None, sym, subst}
use Rattle.dd_ops.specs.Listed.{ListsUnder}
use Rattle.verdict_search.proofs.PartNodes.{start}
use Rattle.verdict_search.proofs.PartSteps.{ReadSoFar, read_some, read_none, read_all}
use Rattle.verdict_search.proofs.parting.bits_read.Goals.{in-Some+in_ok-push, in_default}
use Rattle.verdict_search.proofs.parting.bits_read.Goals as goal

pub loop-g-preserved : goal.loop-g-preserved
loop-g-preserved c = elim c.match-bit_tested.branch [
  | in-Some+in_ok-push w ↦
      subst (λ r. ReadSoFar c.args.arena.now.nodes c.args.points c.args.arena.now.variables c.deref-g-items.result.now (c.loop-g.g-index + 1) r.items) (sym w.read-is)
      (subst (ReadSoFar c.args.arena.now.nodes c.args.points c.args.arena.now.variables c.deref-g-items.result.now (c.loop-g.g-index + 1)) (sym w.in_ok-push.ensures.items)
      (read_some start c.loop-g-test.true c.loop-g.invariant w.in-Some.ensures.inside w.in-Some.ensures.tested))
  | in_default w ↦
      subst (λ r. ReadSoFar c.args.arena.now.nodes c.args.points c.args.arena.now.variables c.deref-g-items.result.now (c.loop-g.g-index + 1) r.items) (sym w.read-is)
      (read_none start c.loop-g-test.true c.loop-g.invariant (λ j n is at. let some : None ≡ Some j = w.in_default.ensures.tested j n is at in cc))
]

pub returns-clause-read : goal.returns-clause-read
returns-clause-read c =
    let listed = subst (ListsUnder c.args.arena.now.nodes c.args.f) (sym c.deref-g-items.ensures.value) c.in_ok-nodes.ensures in
    read_all c.args.f listed c.loop-g-test.false c.loop-g.invariant
