use Rattle.dd_core.proofs.tests.a_full_arena_keeps_its_nodes.Goals as goal

pub not-requires : goal.not-requires
not-requires g c =
    record { held = c.in_ok-conjunction.ensures.made.keeps.held c.in_ok-first.first.0 (c.in_ok-second.ensures.made.keeps.held c.in_ok-first.first.0 c.in_ok-first.ensures.made.node.held) }
