-- What the types of the code stand for. Source: this project.
use Rattle.std.specs.Prelude.{ℕ, List, map}
use Rattle.argos_base.specs.declared.names.Names.{Names}
use Rattle.eqn_core.specs.Views.{literal_of, choice_of, case_of}
use Rattle.line_format.specs.FileNames.{names_of}
use Rattle.c_step.specs.CStep.{constant, each_of, some_of, between, digit_of, input_of, set_bit, set_word, set_out}
use Rattle.c_step.specs.CStep as plain
use Rattle.c_step.specs.declared.statements.CValue.{CValue}
use Rattle.c_step.specs.declared.statements.CValue.TheVariants.{Const, And, Or, Within, Digit, Input}
use Rattle.c_step.specs.declared.statements.CStat.{CStat}
use Rattle.c_step.specs.declared.statements.CStat.TheVariants.{Bit, Word, Out}

abbrev pub value_of : CValue → plain.CValue
value_of (Const b) = constant b
value_of (And ls) = each_of (map literal_of ls.items)
value_of (Or ls) = some_of (map literal_of ls.items)
value_of (Within w lo hi) = between w lo hi
value_of (Digit w place) = digit_of w place
value_of (Input j) = input_of j

abbrev pub statement_of : CStat → plain.CStat
statement_of (Bit k v) = set_bit k (value_of v)
statement_of (Word k cases other) = set_word k (map case_of cases.items) (choice_of other)
statement_of (Out j k) = set_out j k

-- a step of these parts
abbrev pub step_from : Names → ℕ → ℕ → List ℕ → List CStat → plain.CStep
step_from names words bits init stats = record { names = names_of names; words = words; bits = bits; initial = init; statements = map statement_of stats }
