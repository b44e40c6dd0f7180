use Rattle.std.proofs.Common.{◌≡◌, drop}
use Rattle.std.specs.Prelude.{flat_map}
use Rattle.argos_grammar.specs.Views.{set_of}
use Rattle.argos_names.specs.Scope.{reading}
use Rattle.line_format.specs.FileNames.{names_of}
use Rattle.pointcuts.specs.Pointcuts.{base_scope}
use Rattle.pointcuts.proofs.Finding.{in_all}
use Rattle.pointcuts.proofs.base.check_trace.Given as goal

-- nothing is broken so far
abbrev pub invariant-loop-set : goal.invariant-loop-set
invariant-loop-set l = in_all set_of (flat_map (reading (base_scope (names_of l.base)))) (drop l.set-index l.sets) ≡ in_all set_of (flat_map (reading (base_scope (names_of l.base)))) l.sets
