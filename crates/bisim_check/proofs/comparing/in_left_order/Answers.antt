use Rattle.std.proofs.Common.{sym, arith}
use Rattle.std.specs.Prelude.{slice_index_or}
use Rattle.argos_base.specs.Names.{place_of}
use Rattle.argos_congruence.specs.NamedSets.{number_or_zero}
use Rattle.std.proofs.lemmas.Option.{slice_get_within}
use Rattle.bisim_check.proofs.InOrder.{ordered_more, ordered_all, none_left}
use Rattle.bisim_check.proofs.comparing.in_left_order.Goals as goal

pub loop-name-preserved : goal.loop-name-preserved
loop-name-preserved c =
    let inside = slice_get_within c.args.left.now c.loop-name.place c.in-Some.name.now (sym c.in-Some.ensures) in
    record {
      within = omega (arith, inside);
      ordered = ordered_more (λ name. slice_index_or c.args.nodes.now (number_or_zero (place_of c.args.right.now name)) (record { 0 = 0 })) c.args.left.now c.loop-name.place c.in-Some.name.now c.loop-name.ordered.items c.push.new.self.items c.node_named.result (sym c.in-Some.ensures) c.loop-name.invariant.ordered c.node_named.ensures c.in_ok-push.ensures.items;
    }

pub returns : goal.returns
returns c =
    ordered_all _ c.args.left.now c.loop-name.place c.loop-name.ordered.items (none_left c.args.left.now c.loop-name.place (sym c.in_default.ensures))
    c.loop-name.invariant.ordered
