use Rattle.std.proofs.Common.{map, ap, ◌∙◌, ◌∷◌, []}
use Rattle.eqn_core.specs.Equations as plain
use Rattle.eqn_core.specs.Views.{line_of, literal_of}
use Rattle.eqn_order.proofs.OneLine.{one_line_orderable}
use Rattle.eqn_order.proofs.tests.one_line.Goals as goal

pub returns : goal.returns
returns c = one_line_orderable _ _ _ _ _ c.new.ensures.items (ap (map line_of) c.in_ok-vec.ensures.items ∙ ap (λ ls. plain.Line.all (map literal_of ls) ∷ []) c.new-2.ensures.items) c.in_ok-vec-2.ensures.items c.in_ok-vec-3.ensures.items c.new-3.ensures.items
