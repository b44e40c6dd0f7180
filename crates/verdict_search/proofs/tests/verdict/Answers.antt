use Rattle.verdict_search.proofs.PartNodes.{parts_later}
use Rattle.verdict_search.proofs.tests.verdict.Goals as goal

pub find-requires-clause-parts : goal.find-requires-clause-parts
find-requires-clause-parts c =
    parts_later c.var.new.self c.var-2.new.self 1 c.in_ok-parts.parts c.in_ok-bit.ensures.made.keeps
    (parts_later c.consistent_values.new.arena c.var.new.self 1 c.in_ok-parts.parts c.in_ok-point.ensures.made.keeps c.in_ok-parts.ensures.parts)
