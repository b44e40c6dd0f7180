use Rattle.std.proofs.Common.{◌≡◌, Some, sym, ap, ◌∙◌}
use Rattle.argos_grammar.specs.Views.{mark_of}
use Rattle.argos_names.specs.Scope.{output, sort_in}
use Rattle.line_format.specs.FileNames.{names_of}
use Rattle.pointcuts.specs.Pointcuts.{base_scope}
use Rattle.pointcuts.specs.inner.Sorts.{sort_of}
use Rattle.pointcuts.proofs.Finding.{unknown_read, output_read}
use Rattle.pointcuts.proofs.base.check_read.Goals as goal

pub returns-in-Some-Output : goal.returns-in-Some-Output
returns-in-Some-Output c =
    let sort : Some output ≡ sort_in (base_scope (names_of c.args.base.now)) c.args.signal_named.now.name = sym (ap (λ s. Some (sort_of s)) c.in-Some-Output.field-0-is) ∙ c.in-Some-Output.ensures.sort in
    output_read (base_scope (names_of c.args.base.now)) (mark_of c.args.signal_named.now) sort

pub returns-in-None : goal.returns-in-None
returns-in-None c = unknown_read (base_scope (names_of c.args.base.now)) (mark_of c.args.signal_named.now) c.in-None.ensures.sort
