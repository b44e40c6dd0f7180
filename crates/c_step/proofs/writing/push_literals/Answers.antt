use Rattle.std.proofs.Common.{map, drop, ap}
use Rattle.std.proofs.lemmas.List.{drop_all}
use Rattle.eqn_core.specs.Views.{literal_of}
use Rattle.c_step.proofs.WrittenPieces.{literals_pieces, literals_end}
use Rattle.c_step.proofs.writing.push_literals.Goals as goal

pub returns : goal.returns
returns c =
    literals_pieces c.args.sign.now (literal_of c.in-Some.first.now) (map literal_of c.in-Some.others.now) (map literal_of c.args.literals.now) c.args.text.now.items c.push_literal.new.text.items c.loop-literal.text.items c.push-2.new.self.items (ap (map literal_of) (c.in-Some.ensures {u = tt}).cases.0)
    (c.in_ok-push_literal.ensures {u = tt})
    (literals_end c.args.sign.now (map literal_of c.in-Some.others.now) (map literal_of (drop c.loop-literal.literal-index c.in-Some.others.now)) c.loop-literal.text.items c.push_literal.new.text.items
    (ap (map literal_of) (drop_all c.loop-literal.literal-index c.in-Some.others.now c.loop-literal-test.false)) c.loop-literal.invariant)
    (c.in_ok-push-2.ensures {u = tt}).items
