use Rattle.std.proofs.Common.{◌++◌, codes, ap, refl}
use Rattle.std.specs.Prelude.{decimal}
use Rattle.argos_names.specs.Scope as names
use Rattle.argos_expansion.specs.Refusals.{which_of}
use Rattle.argos_scope.specs.Faults.{fault_of, broken_at}
use Rattle.argos_scope.specs.Meaning.{limit}
use Rattle.argos_load.specs.inner.Causes.{which_word}
use Rattle.argos_load.proofs.CauseTexts.{scope_told, limit_told}
use Rattle.argos_load.proofs.causes.scope_cause.Goals as goal

pub returns-in-Unknown : goal.returns-in-Unknown
returns-in-Unknown c = scope_told c.args.error.now c.broken.result ((codes "unknown: " ++ c.in-Unknown.name) ++ codes " at " ++ decimal c.in-Unknown.at) (broken_at names.Unknown c.in-Unknown.name c.in-Unknown.at) (ap fault_of c.in-Unknown.is) refl c.broken.ensures

pub returns-in-Duplicate : goal.returns-in-Duplicate
returns-in-Duplicate c = scope_told c.args.error.now c.broken-in-Duplicate.result ((codes "duplicate: " ++ c.in-Duplicate.name) ++ codes " at " ++ decimal c.in-Duplicate.at) (broken_at names.Duplicate c.in-Duplicate.name c.in-Duplicate.at) (ap fault_of c.in-Duplicate.is) refl c.broken-in-Duplicate.ensures

pub returns-in-NotReadable : goal.returns-in-NotReadable
returns-in-NotReadable c = scope_told c.args.error.now c.broken-in-NotReadable.result ((codes "not readable: " ++ c.in-NotReadable.name) ++ codes " at " ++ decimal c.in-NotReadable.at) (broken_at names.NotReadable c.in-NotReadable.name c.in-NotReadable.at) (ap fault_of c.in-NotReadable.is) refl c.broken-in-NotReadable.ensures

pub returns-in-NotEmittable : goal.returns-in-NotEmittable
returns-in-NotEmittable c = scope_told c.args.error.now c.broken-in-NotEmittable.result ((codes "not emittable: " ++ c.in-NotEmittable.name) ++ codes " at " ++ decimal c.in-NotEmittable.at) (broken_at names.NotEmittable c.in-NotEmittable.name c.in-NotEmittable.at) (ap fault_of c.in-NotEmittable.is) refl c.broken-in-NotEmittable.ensures

pub returns-in-Arity : goal.returns-in-Arity
returns-in-Arity c = scope_told c.args.error.now c.broken-in-Arity.result ((codes "arity: " ++ c.in-Arity.name) ++ codes " at " ++ decimal c.in-Arity.at) (broken_at names.Arity c.in-Arity.name c.in-Arity.at) (ap fault_of c.in-Arity.is) refl c.broken-in-Arity.ensures

pub returns-in-NotEarlier : goal.returns-in-NotEarlier
returns-in-NotEarlier c = scope_told c.args.error.now c.broken-in-NotEarlier.result ((codes "not earlier: " ++ c.in-NotEarlier.name) ++ codes " at " ++ decimal c.in-NotEarlier.at) (broken_at names.NotEarlier c.in-NotEarlier.name c.in-NotEarlier.at) (ap fault_of c.in-NotEarlier.is) refl c.broken-in-NotEarlier.ensures

pub returns-in-NoInitial : goal.returns-in-NoInitial
returns-in-NoInitial c = scope_told c.args.error.now c.broken-in-NoInitial.result ((codes "no initial: " ++ c.in-NoInitial.name) ++ codes " at " ++ decimal c.in-NoInitial.at) (broken_at names.NoInitial c.in-NoInitial.name c.in-NoInitial.at) (ap fault_of c.in-NoInitial.is) refl c.broken-in-NoInitial.ensures

pub returns-in-Limit : goal.returns-in-Limit
returns-in-Limit c = scope_told c.args.error.now c.passed.result (((codes "limit " ++ which_word c.in-Limit.which) ++ codes ": ") ++ decimal c.in-Limit.count) (limit (which_of c.in-Limit.which) c.in-Limit.count) (ap fault_of c.in-Limit.is) (limit_told c.in-Limit.which c.in-Limit.count) c.passed.ensures
