use Rattle.std.proofs.Common.{◌≡◌, ℕ, List, ◌++◌, true, map, ap, sym, ◌∙◌, subst}
use Rattle.eqn_core.specs.Ordered.{all_below, IsOrdered}
use Rattle.eqn_core.specs.Views.{line_of, equations_from}
use Rattle.eqn_completion.specs.Moving.{moved_lines}
use Rattle.eqn_completion.proofs.Sorting.{sorted_are_ordered}
use Rattle.eqn_sort.specs.Numbers.{numbers_from}
use Rattle.eqn_sort.proofs.Reactions.{acyclic, made_sorted}
use Rattle.eqn_sort.proofs.sorting.sorted_system.Goals as goal

pub returns-clause-is : goal.returns-clause-is
returns-clause-is c =
    let E = equations_from c.args.system.now in
    let order = c.args.plan.now.order.items in
    let cyclic = c.args.plan.now.cyclic.items in
    let t = numbers_from c.in_ok-tables.tables in
    let t' = numbers_from c.move_lines.new.tables in
    made_sorted E order cyclic t t' (map line_of c.move_lines.new.lines.items) c.in_ok-copy_codes.field-0.items c.in_ok-new_bits.field-0.items c.new.result.items c.in_ok-new_words.field-0.items
    c.requires.acyclic
    c.in_ok-tables.ensures.numbers
    (c.in_ok-move_lines.ensures.lines ∙ ap (λ ls. map line_of ls ++ moved_lines E cyclic order t) c.in_ok-lines.ensures.items)
    c.in_ok-move_lines.ensures.numbers
    (c.in_ok-copy_codes.ensures.items ∙ c.deref.ensures.value)
    (c.in_ok-new_bits.ensures ∙ ap (map t'.bits) c.deref-2.ensures.value)
    c.new.ensures.items
    (c.in_ok-new_words.ensures ∙ ap (map t'.words) c.deref-3.ensures.value)

pub returns-clause-ordered : goal.returns-clause-ordered
returns-clause-ordered c =
    let E = equations_from c.args.system.now in
    let order = c.args.plan.now.order.items in
    let codes : all_below 65536 E.initial ≡ true = subst (λ (xs : List ℕ). all_below 65536 xs ≡ true) (c.in_ok-copy_codes.ensures.items ∙ c.deref.ensures.value) c.in_ok-copy_codes.ensures.codes in
    subst IsOrdered (sym (returns-clause-is c)) (sorted_are_ordered E order c.requires.orderable (acyclic E order c.args.plan.now.cyclic.items c.requires.plan c.requires.acyclic) c.requires.register codes)
