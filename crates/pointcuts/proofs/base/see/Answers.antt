use Rattle.argos_grammar.specs.Views.{mark_of}
use Rattle.line_format.specs.FileNames.{names_of}
use Rattle.pointcuts.specs.Pointcuts.{base_scope}
use Rattle.pointcuts.proofs.Finding.{unknown_seen}
use Rattle.pointcuts.proofs.base.see.Goals as goal

pub returns-in-None-clause-known : goal.returns-in-None-clause-known
returns-in-None-clause-known c = unknown_seen (base_scope (names_of c.args.base.now)) (mark_of c.args.input.now) c.in-None.ensures.sort
