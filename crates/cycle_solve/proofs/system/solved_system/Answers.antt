use Rattle.std.proofs.Common.{ℕ, ◌+◌, ◌*◌, ◌<◌, List, length, map, ap, sym, ◌∙◌, subst, arith}
use Rattle.std.specs.Prelude.{All}
use Rattle.eqn_core.specs.Equations.{bit_count}
use Rattle.eqn_core.specs.Views.{line_of, equations_from}
use Rattle.eqn_sort.specs.Numbers.{numbers_from}
use Rattle.eqn_sort.proofs.Inside.{cyclic-inside}
use Rattle.eqn_verdict.specs.FromArena.{branches_of, root_ids}
use Rattle.instant_verdict.specs.inner.Decoded.{register_widths}
use Rattle.cycle_solve.proofs.SystemSteps.{branches-sized, made_solved}
use Rattle.cycle_solve.proofs.system.solved_system.Goals as goal

pub with_given-requires-clause-given : goal.with_given-requires-clause-given
with_given-requires-clause-given c =
    let E = equations_from c.args.system.now in
    subst (λ (ks : List ℕ). All (λ (k : ℕ). k < bit_count E) ks) (sym c.deref.ensures.value)
    (cyclic-inside E c.args.plan.now.order.items c.args.plan.now.cyclic.items c.requires.orderable
    c.requires.plan)

pub returns-clause-is : goal.returns-clause-is
returns-clause-is c =
    let E = equations_from c.args.system.now in
    let order = c.args.plan.now.order.items in
    let cyclic = c.args.plan.now.cyclic.items in
    let nodes = c.args.arena.now.nodes in
    let ids = c.args.ids.now in
    let t = numbers_from c.in_ok-tables.tables in
    let t' = numbers_from c.move_lines.new.tables in
    made_solved E order cyclic (register_widths c.args.digits.now) (branches_of nodes ids)
    (root_ids c.args.roots.now)
    c.deref.result.now (c.args.points + 3 * length ids) t t' (map line_of c.in_ok-lines.lines.items)
    (map line_of c.move_lines.new.lines.items)
    c.in_ok-copy_codes.field-0.items c.in_ok-new_bits.field-0.items c.new.result.items
    c.in_ok-new_words.field-0.items
    c.deref.ensures.value
    (omega (arith, c.requires.points, branches-sized nodes ids))
    c.in_ok-tables.ensures.numbers
    c.in_ok-lines.ensures
    c.in_ok-move_lines.ensures.lines
    c.in_ok-move_lines.ensures.numbers
    (c.in_ok-copy_codes.ensures.items ∙ c.deref-2.ensures.value)
    (c.in_ok-new_bits.ensures ∙ ap (map t'.bits) c.deref-3.ensures.value)
    c.new.ensures.items
    (c.in_ok-new_words.ensures ∙ ap (map t'.words) c.deref-4.ensures.value)
