use Rattle.cycle_solve.proofs.Gathered.{known_more, nothing_more}
use Rattle.cycle_solve.proofs.listing.take_new.Goals as goal

pub loop-id-preserved : goal.loop-id-preserved
loop-id-preserved c = record {
  agrees = c.in_ok-take.ensures.agrees;
  taken = λ new later. c.loop-id.invariant.taken new
      (known_more c.args.ids.now c.loop-id.id-index c.loop-id.listing.ids.items c.take.new.self.ids.items
      (record { 0 = 0 }) c.loop-id-test.true c.in_ok-take.ensures.taken new later);
}

pub returns : goal.returns
returns c = record {
  agrees = c.loop-id.invariant.agrees;
  new_ones = c.loop-id.invariant.taken c.loop-id.listing.ids.items
      (nothing_more c.args.ids.now c.loop-id.listing.ids.items c.loop-id.id-index c.loop-id-test.false);
}
