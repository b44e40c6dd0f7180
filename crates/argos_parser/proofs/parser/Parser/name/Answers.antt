use Rattle.std.proofs.Common.{arith, ◌∷◌}
use Rattle.argos_parser.proofs.Ahead.{ahead, first_name, first_no_name}
use Rattle.argos_parser.proofs.parser.Parser.name.Goals as goal

pub returns-in-Ok-clause-run : goal.returns-in-Ok-clause-run
returns-in-Ok-clause-run c =
    let f = first_name c.args.self.now.rest.now c.in-Some.token.now c.in-Some.ensures.value c.in-Ok.ensures.name in
    λ due os. grind (arith, ahead, f)

pub returns-in-Err-clause-run : goal.returns-in-Err-clause-run
returns-in-Err-clause-run c = λ due os.
    c.refusal.ensures (_ ∷ due) os (first_no_name c.args.self.now.rest.now c.in-Some.token.now c.in-Some.ensures.value c.in-Err.ensures.spelled due)
