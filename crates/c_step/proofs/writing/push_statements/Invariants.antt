use Rattle.std.proofs.Common.{◌≡◌, ◌++◌, drop, map, IsTrue}
use Rattle.std.specs.List.{list_all}
use Rattle.c_step.specs.inner.Texts.{statements_text, has_small_place}
use Rattle.c_step.specs.Views.{statement_of}
use Rattle.c_step.proofs.writing.push_statements.Given as goal

abbrev pub invariant-loop-statement : goal.invariant-loop-statement
invariant-loop-statement l = record {
  text : l.text.items ++ statements_text (map statement_of (drop l.statement-index l.statements)) ≡ l.initial.text.items ++ statements_text (map statement_of l.statements);
  left : IsTrue (list_all has_small_place (map statement_of (drop l.statement-index l.statements)));
}
