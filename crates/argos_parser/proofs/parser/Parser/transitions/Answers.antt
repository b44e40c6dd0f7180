use Rattle.std.proofs.Common.{arith}
use Rattle.argos_parser.proofs.Pieces.{pieces}
use Rattle.argos_parser.proofs.parser.Parser.transitions.Goals as goal

pub loop-transitions-preserved : goal.loop-transitions-preserved
loop-transitions-preserved c = record {
  tree = grind (arith, pieces);
  run = λ more os l s. grind (arith, pieces);
  shorter = grind arith;
}
