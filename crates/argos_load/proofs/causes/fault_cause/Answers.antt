use Rattle.std.proofs.Common.{◌++◌, codes, ap, refl}
use Rattle.std.specs.Prelude.{decimal}
use Rattle.argos_grammar.specs.Faults as faults
use Rattle.argos_grammar.specs.Refusals.{kind_of}
use Rattle.argos_load.specs.inner.Causes.{fault_in, kind_word}
use Rattle.argos_load.proofs.CauseTexts.{fault_told, syntax_told}
use Rattle.argos_load.proofs.causes.fault_cause.Goals as goal

pub returns-in-NotUtf8 : goal.returns-in-NotUtf8
returns-in-NotUtf8 c = fault_told c.args.error.now c.placed.result (codes "not utf-8" ++ codes " at " ++ decimal c.in-NotUtf8.at) c.in-NotUtf8.at faults.NotUtf8 (ap fault_in c.in-NotUtf8.is) refl c.placed.ensures

pub returns-in-Syntax : goal.returns-in-Syntax
returns-in-Syntax c =
    fault_told c.args.error.now c.syntax_cause.result ((codes "syntax" ++ codes " at " ++ decimal c.in-Syntax.at) ++ codes ": " ++ kind_word c.in-Syntax.kind) c.in-Syntax.at (kind_of c.in-Syntax.kind) (ap fault_in c.in-Syntax.is) (syntax_told c.in-Syntax.at c.in-Syntax.kind) c.syntax_cause.ensures

pub returns-in-TooDeep : goal.returns-in-TooDeep
returns-in-TooDeep c = fault_told c.args.error.now c.placed-in-TooDeep.result (codes "too deep" ++ codes " at " ++ decimal c.in-TooDeep.at) c.in-TooDeep.at faults.TooDeep (ap fault_in c.in-TooDeep.is) refl c.placed-in-TooDeep.ensures
