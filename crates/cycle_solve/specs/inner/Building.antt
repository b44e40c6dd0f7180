-- The lines of nodes, as code makes them.
use Rattle.std.specs.Prelude.{ℕ, suc, List, [], ◌∷◌, Option, Some, None}
use Rattle.std.specs.HashMap.{HashMap, get}
use Rattle.dd_core.specs.declared.nodes.NodeId.{NodeId}
use Rattle.dd_ops.specs.inner.Visited.{is_same}
use Rattle.eqn_completion.specs.Moving.{Table}
use Rattle.eqn_core.specs.Equations.{Line, any}
use Rattle.eqn_verdict.specs.Branches.{plus, minus, and_node}

abbrev pub or_none : Option ℕ → ℕ
or_none None = 0
or_none (Some n) = n

-- the bit of each node that has one
abbrev pub table_of : {S : Type 0} → HashMap NodeId ℕ S → Table
table_of bits k = or_none (get is_same bits (record { 0 = k }))

-- the lines of one node, from bit b on, where the variable that it tests is this bit
abbrev pub node_lines : ℕ → ℕ → ℕ → Table → ℕ → List Line
node_lines variable low high table b =
    and_node (plus variable ∷ []) high table
    ∷ and_node (minus variable ∷ []) low table
    ∷ any (plus b ∷ plus (suc b) ∷ [])
    ∷ []
