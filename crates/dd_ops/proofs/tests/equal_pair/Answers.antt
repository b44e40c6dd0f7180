use Rattle.dd_ops.proofs.tests.equal_pair.Goals as goal

pub ite-requires-clause-held_f : goal.ite-requires-clause-held_f
ite-requires-clause-held_f c =
    c.in_ok-opposite.ensures.made.keeps.held c.in_ok-x.x.0 (c.in_ok-y.ensures.made.keeps.held c.in_ok-x.x.0 c.in_ok-x.ensures.made.node.held)

pub returns-clause-stay : goal.returns-clause-stay
returns-clause-stay c = λ f held.
    c.ite.ensures.made.keeps.held f (c.in_ok-opposite.ensures.made.keeps.held f (c.in_ok-y.ensures.made.keeps.held f (c.in_ok-x.ensures.made.keeps.held f held)))
