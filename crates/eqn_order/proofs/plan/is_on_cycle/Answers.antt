use Rattle.std.proofs.Common.{◌∙◌, sym}
use Rattle.std.proofs.lemmas.List.{length-map}
use Rattle.eqn_order.specs.inner.Graphs.{rows_of}
use Rattle.eqn_order.proofs.Gathered.{all_in_row}
use Rattle.eqn_order.proofs.plan.is_on_cycle.Goals as goal

pub leads_back-requires-clause-row : goal.leads_back-requires-clause-row
leads_back-requires-clause-row c = all_in_row (rows_of c.args.rows.now) c.in-Some.line _ c.row_of.result.now c.requires.inside (length-map c.args.rows.now (λ r. r.items) ∙ sym c.requires.roots) c.row_of.ensures
