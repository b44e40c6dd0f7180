use Rattle.std.proofs.Common.{◌≡◌, drop}
use Rattle.argos_grammar.specs.Views.{mark_of}
use Rattle.argos_names.specs.Scope.{emitting}
use Rattle.line_format.specs.FileNames.{names_of}
use Rattle.pointcuts.specs.Pointcuts.{base_scope}
use Rattle.pointcuts.proofs.Finding.{in_all}
use Rattle.pointcuts.proofs.base.check_all_emitted.Given as goal

-- nothing is broken so far
abbrev pub invariant-loop-signal : goal.invariant-loop-signal
invariant-loop-signal l = in_all mark_of (emitting (base_scope (names_of l.base))) (drop l.signal-index l.signals) ≡ in_all mark_of (emitting (base_scope (names_of l.base))) l.signals
