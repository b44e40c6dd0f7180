use Rattle.std.proofs.Common.{◌≡◌, ◌++◌, [], drop, map}
use Rattle.eqn_core.specs.Views.{literal_of}
use Rattle.c_step.specs.CFile.{literals_then}
use Rattle.c_step.proofs.writing.push_literals.Given as goal

abbrev pub invariant-loop-literal : goal.invariant-loop-literal
invariant-loop-literal l = l.text.items ++ literals_then l.sign (map literal_of (drop l.literal-index l.others)) [] ≡ l.initial.text.items ++ literals_then l.sign (map literal_of l.others) []
