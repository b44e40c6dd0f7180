use Rattle.std.proofs.Common.{List, ap}
use Rattle.std.proofs.lemmas.List.{map-set}
use Rattle.dd_core.specs.declared.nodes.NodeId.{NodeId}
use Rattle.eqn_dd.specs.inner.Tables.{TableView}
use Rattle.eqn_dd.proofs.table.put.Goals as goal

pub returns-in-Word : goal.returns-in-Word
returns-in-Word c =
    rw c.in-Word.is
    (ap (λ (l : List (List NodeId)). let t : TableView = record { bits = c.args.table.now.bits.items; given = c.args.table.now.given.items; words = l } in t) (map-set (λ w. w.items) c.args.table.now.words.items c.args.number c.in-Word.word))
