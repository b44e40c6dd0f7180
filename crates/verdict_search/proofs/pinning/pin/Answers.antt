use Rattle.std.proofs.Common.{◌+◌, ◌*◌, length, get_or, refl, arith}
use Rattle.dd_core.specs.declared.nodes.NodeId.{NodeId}
use Rattle.eqn_dd.proofs.Denotations.{adds_one, adds_in_turn, adds_fewer}
use Rattle.verdict_search.proofs.PinnedNodes.{pinned_none, pinned_more, pinned_all}
use Rattle.verdict_search.proofs.pinning.pin.Goals as goal

pub returns-in_err-here-clause-adds : goal.returns-in_err-here-clause-adds
returns-in_err-here-clause-adds c = let n = length c.args.values.now in let m = length c.args.fs.now in adds_fewer (3 * n) (3 * n + m) (omega arith) c.point.ensures.adds

pub loop-f-init : goal.loop-f-init
loop-f-init c = pinned_none c.args.values.now c.args.fs.now c.in_ok-here.ensures.adds c.in_ok-here.ensures.held c.in_ok-here.ensures.point

pub loop-f-preserved : goal.loop-f-preserved
loop-f-preserved c =
    let start : NodeId = record { 0 = 0 } in
    pinned_more c.args.fs.now (get_or c.args.fs.now c.loop-f.f-index start) c.loop-f-test.true c.requires.held refl c.loop-f.invariant c.in_ok-here-2.ensures.made

pub returns-clause-adds : goal.returns-clause-adds
returns-clause-adds c =
    let n = length c.args.values.now in
    let m = length c.args.fs.now in
    adds_fewer (3 * n + c.loop-f.f-index) (3 * n + m) (omega arith) c.loop-f.invariant.adds

pub returns-clause-pinned : goal.returns-clause-pinned
returns-clause-pinned c = pinned_all c.args.fs.now c.loop-f-test.false c.loop-f.invariant

pub returns-in_err-here-2-clause-adds : goal.returns-in_err-here-2-clause-adds
returns-in_err-here-2-clause-adds c =
    let n = length c.args.values.now in
    let m = length c.args.fs.now in
    adds_in_turn (3 * n + c.loop-f.f-index) 1 (3 * n + m) (omega arith) c.loop-f.invariant.adds (adds_one c.and.ensures.made)
