use Rattle.std.proofs.Common.{◌≡◌, ◌++◌, ◌∷◌, [], ◌∙◌, ap, refl, arith, map, length, take, drop, ◌-◌}
use Rattle.argos_core.proofs.Shaping.{next_state}
use Rattle.eqn_core.specs.Views.{literal_of}
use Rattle.eqn_scheme.specs.Scheme.{fire_literals}
use Rattle.eqn_build.specs.inner.BuilderViews.{fire_bit_of, literals}
use Rattle.eqn_build.proofs.OwnStates.{counted_step, bits_step, lines_step, fires_step, ticks_step, exits_step, left_is}
use Rattle.eqn_build.proofs.states.put_states.Goals as goal

pub loop-state-preserved : goal.loop-state-preserved
loop-state-preserved c =
    let ss = c.args.states.now in
    let i = c.loop-state.state-index in
    let x = c.state-item.result in
    let below = c.loop-state-test.true in
    let is = c.state-item.is in
    let had = c.loop-state.invariant in
    let made = c.in_ok-put_state.ensures in
    record {
      counted = counted_step ss i x below is c.loop-state.used _ c.counts_of-used.ensures had.counted;
      shaped = (next_state ss i _ x below had.shaped).more;
      bits = bits_step ss i x below is _ _ _ made.bits had.bits;
      one = made.one ∙ had.one;
      lines = lines_step ss i x below is _ _ _ _ _ (literal_of c.args.around.run) c.args.register c.loop-state.used _ _ _ made.one c.counts_of-used.ensures made.bits made.lines had.lines;
      fires = fires_step ss i x below is _ _ _ _ _ made.bits made.fires had.fires;
      ticks = ticks_step ss i x below is _ _ _ _ _ made.bits made.ticks had.ticks;
      exits =
          let left : literals c.in_ok-left.left ≡ fire_literals (map fire_bit_of (take (length c.deref.result.now - c.len-before.result) (drop c.len-before.result c.deref.result.now))) ++ literal_of c.args.around.kill ∷ [] = c.in_ok-left.ensures in
          exits_step ss i x below is _ _ _ _ (literal_of c.args.around.kill) _ _ made.bits c.in_ok-push.ensures.items refl
          (left_is c.loop-state.fires.items c.deref.result.now c.len-before.result _ (literal_of c.args.around.kill) (literals c.in_ok-left.left) (omega (arith, c.len-before.ensures, c.loop-state.fires.ok.0)) (ap (map fire_bit_of) c.deref.ensures.value ∙ made.fires) left)
          had.exits;
    }
