use Rattle.std.proofs.Common.{◌∷◌, arith}
use Rattle.argos_tokens.specs.TokenViews.{tokens_of}
use Rattle.argos_grammar.specs.DueSymbols.{repeat, another_set}
use Rattle.std.proofs.lemmas.Grind.{common_steps}
use Rattle.argos_grammar.proofs.Steps.{another_set_in}
use Rattle.argos_parser.proofs.Aspects.{sets_push}
use Rattle.argos_parser.proofs.parser.Parser.sets.Goals as goal

pub loop-sets-preserved : goal.loop-sets-preserved
loop-sets-preserved c =
    let ts = tokens_of c.args.self.now.rest.now in
    let now = tokens_of c.loop-sets.self.rest.now in
    record {
      tree =
          let f = sets_push c.loop-sets.sets.items c.in_ok-set-2.field-0 ts now (tokens_of c.take.new.self.rest.now) (tokens_of c.set-in-loop-sets.new.self.rest.now) c.loop-sets.invariant.tree in
          grind (arith, common_steps, f);
      run = λ more os l s.
          let a = c.loop-sets.invariant.run more os l s in
          let b = another_set_in more os now in
          let d = c.in_ok-set-2.ensures.run (repeat another_set ∷ more) os l s in
          grind (arith, common_steps, b);
    }
