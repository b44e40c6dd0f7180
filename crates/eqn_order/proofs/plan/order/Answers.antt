use Rattle.std.proofs.Common.{arith}
use Rattle.std.proofs.lemmas.List.{length-map}
use Rattle.eqn_core.specs.Views.{line_of}
use Rattle.eqn_order.proofs.plan.order.Goals as goal

pub make_plan-requires : goal.make_plan-requires
make_plan-requires c = omega (arith, c.requires.line_limit, length-map c.args.system.now.lines.items line_of)

pub returns : goal.returns
returns c = c.in_ok-make_plan.ensures c.requires
