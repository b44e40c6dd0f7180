-- What the parts of lines of statements stand for.
use Rattle.eqn_core.specs.Views.{choice_of, case_of}
use Rattle.c_step.specs.inner.LineReading.{WordParts, CaseParts}
use Rattle.c_step.specs.declared.statement_lines.WordLine.{WordLine}
use Rattle.c_step.specs.declared.statement_lines.CaseLine.{CaseLine}

abbrev pub word_parts_of : WordLine → WordParts
word_parts_of x = record { to = x.to; pick = choice_of x.pick }

abbrev pub case_parts_of : CaseLine → CaseParts
case_parts_of x = record { to = x.to; case = case_of x.case }
