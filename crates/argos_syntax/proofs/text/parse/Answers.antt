use Rattle.argos_grammar.specs.DueSymbols as due
use Rattle.argos_grammar.specs.Grammar as grammar
use Rattle.argos_grammar.specs.Views.{program_of}
use Rattle.argos_syntax.proofs.Verdicts.{IsRight, right_answer, tells_on}
use Rattle.argos_syntax.proofs.text.parse.Goals as goal

right : (c : goal.After-drop-tokens) → IsRight program_of grammar.program due.program c.args.text.now c.judged.result
right c = right_answer program_of grammar.program due.program c.args.text.now c.in_ok-tokens.tokens.tokens.items c.as_slice.result.now c.in_ok-tokens.tokens.stuck c.read_program-program.result c.judged.result
    c.programs_are_taken.ensures c.programs_have_one_tree.ensures c.in_ok-tokens.ensures.utf8 c.in_ok-tokens.ensures.tokens c.as_slice.ensures.value c.read_program-program.ensures.tree c.read_program-program.ensures.run c.judged.ensures

pub returns-in_err-tokens-clause-fault : goal.returns-in_err-tokens-clause-fault
returns-in_err-tokens-clause-fault c = tells_on due.program c.args.text.now c.from_residual.result c.in_err-tokens.field-0.0 c.from_residual.ensures.1 (c.in_err-tokens.ensures.fault due.program)

pub returns-clause-text : goal.returns-clause-text
returns-clause-text c = (right c).text

pub returns-clause-fault : goal.returns-clause-fault
returns-clause-fault c = (right c).fault

pub returns-clause-exact : goal.returns-clause-exact
returns-clause-exact c = (right c).exact
