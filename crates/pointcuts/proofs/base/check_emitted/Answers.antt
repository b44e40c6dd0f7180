use Rattle.std.proofs.Common.{◌≡◌, Some, sym, ap, ◌∙◌}
use Rattle.argos_grammar.specs.Views.{mark_of}
use Rattle.argos_names.specs.Scope.{input, sort_in}
use Rattle.line_format.specs.FileNames.{names_of}
use Rattle.pointcuts.specs.Pointcuts.{base_scope}
use Rattle.pointcuts.specs.inner.Sorts.{sort_of}
use Rattle.pointcuts.proofs.Finding.{unknown_emitted, input_emitted}
use Rattle.pointcuts.proofs.base.check_emitted.Goals as goal

pub returns-in-Some-Input : goal.returns-in-Some-Input
returns-in-Some-Input c =
    let sort : Some input ≡ sort_in (base_scope (names_of c.args.base.now)) c.args.signal_named.now.name = sym (ap (λ s. Some (sort_of s)) c.in-Some-Input.field-0-is) ∙ c.in-Some-Input.ensures.sort in
    input_emitted (base_scope (names_of c.args.base.now)) (mark_of c.args.signal_named.now) sort

pub returns-in-None : goal.returns-in-None
returns-in-None c = unknown_emitted (base_scope (names_of c.args.base.now)) (mark_of c.args.signal_named.now) c.in-None.ensures.sort
