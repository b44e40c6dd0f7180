use Rattle.std.proofs.Common.{◌++◌, List, IsTrue, map, length, sym, ap, ◌∙◌, subst}
use Rattle.std.specs.List.{list_all}
use Rattle.c_step.specs.StepViews.{step_of}
use Rattle.c_step.specs.Views.{statement_of}
use Rattle.c_step.specs.declared.statements.CStat.{CStat}
use Rattle.c_step.specs.inner.Texts.{codes_text, statements_text, has_small_place}
use Rattle.c_step.proofs.StayWithin.{stay_within}
use Rattle.c_step.proofs.WrittenText.{written_is_text, small_places}
use Rattle.c_step.proofs.writing.print_c.Goals as goal

pub push_statements-requires : goal.push_statements-requires
push_statements-requires c =
    let s = step_of c.args.step.now in
    subst (λ (xs : List CStat). IsTrue (list_all has_small_place (map statement_of xs))) (sym c.deref-2.ensures.value)
    (small_places (length s.names.inputs) (length s.names.outputs) s.words s.bits s.statements (stay_within s c.args.step.now.kept))

pub returns : goal.returns
returns c =
    written_is_text (step_of c.args.step.now) c.in_ok-text.text.items c.push_names.new.text.items c.push_names-2.new.text.items c.push_sizes.new.text.items c.extend_from_slice.new.self.items c.push_codes.new.text.items c.extend_from_slice-2.new.self.items c.push_statements.new.text.items
    c.extend_from_slice-3.new.self.items c.args.step.now.kept (c.in_ok-text.ensures {u = tt}).items (c.in_ok-push_names.ensures {u = tt}) (c.in_ok-push_names-2.ensures {u = tt}) (c.in_ok-push_sizes.ensures {u = tt}) (c.in_ok-extend_from_slice.ensures {u = tt}).items
    ((c.in_ok-push_codes.ensures {u = tt}) ∙ ap (λ z. c.extend_from_slice.new.self.items ++ codes_text 0 z) c.deref.ensures.value) (c.in_ok-extend_from_slice-2.ensures {u = tt}).items
    ((c.in_ok-push_statements.ensures {u = tt}) ∙ ap (λ z. c.extend_from_slice-2.new.self.items ++ statements_text (map statement_of z)) c.deref-2.ensures.value) (c.in_ok-extend_from_slice-3.ensures {u = tt}).items
