use Rattle.std.proofs.Common.{◌∷◌, arith}
use Rattle.argos_tokens.specs.TokenViews.{tokens_of}
use Rattle.argos_grammar.specs.DueSymbols.{w}
use Rattle.argos_grammar.proofs.Steps.{sets_none, sets_some}
use Rattle.argos_parser.proofs.parser.Parser.sets_before.Goals as goal

pub returns-then-is_at-clause-run : goal.returns-then-is_at-clause-run
returns-then-is_at-clause-run c = λ due os l s.
    let a = sets_none due os (tokens_of c.args.self.now.rest.now) in
    grind (arith, a)

pub returns-in_err-sets-clause-run : goal.returns-in_err-sets-clause-run
returns-in_err-sets-clause-run c = λ due os l s.
    let a = sets_some due os (tokens_of c.args.self.now.rest.now) in
    let b = c.in_err-sets.ensures.run (w "]" ∷ due) os l s in
    grind (arith, a)

pub returns-clause-run : goal.returns-clause-run
returns-clause-run c = λ due os l s.
    let a = sets_some due os (tokens_of c.args.self.now.rest.now) in
    let b = c.in_ok-sets.ensures.run (w "]" ∷ due) os l s in
    grind (arith, a)
