use Rattle.std.proofs.Common.{◌≡◌, drop, take, map}
use Rattle.argos_aspects.specs.Views.{seen_of}
use Rattle.argos_grammar.specs.Views.{mark_of, marks_of}
use Rattle.argos_names.specs.Scope.{names_in}
use Rattle.line_format.specs.FileNames.{names_of}
use Rattle.pointcuts.specs.Pointcuts.{base_scope, seeing, AreSeen}
use Rattle.pointcuts.proofs.Finding.{in_all}
use Rattle.pointcuts.proofs.base.see_all.Given as goal

-- nothing is broken so far, and what the inputs so far are
abbrev pub invariant-loop-input : goal.invariant-loop-input
invariant-loop-input l = (in_all mark_of (seeing (base_scope (names_of l.base))) (drop l.input-index l.inputs) ≡ in_all mark_of (seeing (base_scope (names_of l.base))) l.inputs)
    × AreSeen (names_of l.base) (names_in (marks_of (take l.input-index l.inputs))) (map seen_of l.seen.items)
