use Rattle.std.proofs.Common.{◌≡◌, ◌-◌, ◌*◌, ◌<◌, true, false, List, map, length, IfOk, refl, ap, sym, ◌∙◌, subst, rules, arith}
use Rattle.std.proofs.lemmas.Grind.{common_steps}
use denote.Param.Weighed.{at_most}
use Rattle.argos_core.specs.Views.{shapes_of}
use Rattle.bisim_check.specs.inner.Nodes.{codes_at}
use Rattle.bisim_check.proofs.Atoms.{are_words_later}
use Rattle.bisim_check.proofs.CertViews.{formula_of-True, formula_of-False, formula_of-Not, formula_of-All, formula_of-Any}
use Rattle.bisim_check.proofs.Operands.{one_node, all_none, any_none, operand_fails, joined_fails, all_more, any_more, opposite_made}
use Rattle.bisim_formula.specs.Formulas as plain
use Rattle.bisim_formula.specs.Formulas.{Formula, related_by, formula_size, formulas_size}
use Rattle.bisim_formula.specs.Views.{formula_of, formulas_of}
use Rattle.bisim_formula.specs.declared.cert.Cert.{Cert}
use Rattle.bisim_formula.proofs.cert.Cert.TheLaws.{the_size}
use Rattle.dd_core.specs.Arenas.{AddsAtMost}
use Rattle.eqn_dd.specs.Denoting.{Denotes}
use Rattle.eqn_dd.proofs.Denotations.{adds_one, adds_in_turn, adds_fewer, denotes_constant}
use Rattle.bisim_check.proofs.formula.+formula.Goals as goal

pub all_node-loop-count-init : goal.all_node-loop-count-init
all_node-loop-count-init t c =
    all_none (shapes_of c.args.left.now) (shapes_of c.args.right.now) c.args.arena.now c.args.lefts.now c.args.rights.now c.args.operands.now
    (length c.args.operands.now) refl c.variables.ensures.arena

pub all_node-cert_node-requires : goal.all_node-cert_node-requires
all_node-cert_node-requires t c =
    let below : c.loop-count.count - 1 < length c.args.operands.now = omega (arith, c.loop-count.invariant.bound) in
    let deep = at_most the_size c.args.operands.now (c.loop-count.count - 1) c.index-operands-count.result below in
    let keeps = c.loop-count.invariant.adds.keeps in
    (first_of (search (rules, deep), grind (arith, common_steps)), (are_words_later c.args.lefts.now keeps c.requires.left, are_words_later c.args.rights.now keeps c.requires.right))

pub all_node-returns-in_err-f-clause-adds : goal.all_node-returns-in_err-f-clause-adds
all_node-returns-in_err-f-clause-adds t c =
    operand_fails c.args.operands.now (c.loop-count.count - 1) c.loop-count.count c.index-operands-count.result (omega arith) c.index-operands-count.is
    c.loop-count.invariant c.cert_node.ensures.adds

pub all_node-returns-in_err-met-clause-adds : goal.all_node-returns-in_err-met-clause-adds
all_node-returns-in_err-met-clause-adds t c =
    joined_fails c.args.operands.now (c.loop-count.count - 1) c.loop-count.count c.index-operands-count.result (omega arith) c.index-operands-count.is
    c.loop-count.invariant c.cert_node.ensures.adds (adds_one c.and.ensures.made)

pub all_node-loop-count-preserved : goal.all_node-loop-count-preserved
all_node-loop-count-preserved t c =
    all_more (shapes_of c.args.left.now) (shapes_of c.args.right.now) c.args.operands.now (c.loop-count.count - 1) c.loop-count.count
    c.index-operands-count.result (omega arith) c.index-operands-count.is
    c.requires.left c.requires.right c.loop-count.invariant c.cert_node.ensures.adds c.in_ok-f.ensures.denotes c.in_ok-met.ensures.made

pub any_node-loop-count-init : goal.any_node-loop-count-init
any_node-loop-count-init t c =
    any_none (shapes_of c.args.left.now) (shapes_of c.args.right.now) c.args.arena.now c.args.lefts.now c.args.rights.now c.args.operands.now
    (length c.args.operands.now) refl c.variables.ensures.arena

pub any_node-cert_node-requires : goal.any_node-cert_node-requires
any_node-cert_node-requires t c =
    let below : c.loop-count.count - 1 < length c.args.operands.now = omega (arith, c.loop-count.invariant.bound) in
    let deep = at_most the_size c.args.operands.now (c.loop-count.count - 1) c.index-operands-count.result below in
    let keeps = c.loop-count.invariant.adds.keeps in
    (first_of (search (rules, deep), grind (arith, common_steps)), (are_words_later c.args.lefts.now keeps c.requires.left, are_words_later c.args.rights.now keeps c.requires.right))

pub any_node-returns-in_err-f-clause-adds : goal.any_node-returns-in_err-f-clause-adds
any_node-returns-in_err-f-clause-adds t c =
    operand_fails c.args.operands.now (c.loop-count.count - 1) c.loop-count.count c.index-operands-count.result (omega arith) c.index-operands-count.is
    c.loop-count.invariant c.cert_node.ensures.adds

pub any_node-returns-in_err-met-clause-adds : goal.any_node-returns-in_err-met-clause-adds
any_node-returns-in_err-met-clause-adds t c =
    joined_fails c.args.operands.now (c.loop-count.count - 1) c.loop-count.count c.index-operands-count.result (omega arith) c.index-operands-count.is
    c.loop-count.invariant c.cert_node.ensures.adds (adds_one c.or.ensures.made)

pub any_node-loop-count-preserved : goal.any_node-loop-count-preserved
any_node-loop-count-preserved t c =
    any_more (shapes_of c.args.left.now) (shapes_of c.args.right.now) c.args.operands.now (c.loop-count.count - 1) c.loop-count.count
    c.index-operands-count.result (omega arith) c.index-operands-count.is
    c.requires.left c.requires.right c.loop-count.invariant c.cert_node.ensures.adds c.in_ok-f.ensures.denotes c.in_ok-met.ensures.made

pub negation_node-returns-clause-adds : goal.negation_node-returns-clause-adds
negation_node-returns-clause-adds t c =
    let size = formula_size (formula_of c.args.operand.now) in
    let one = one_node (formula_of c.args.operand.now) in
    adds_in_turn (50 * size - 1) 1 (50 * size) (omega (arith, one)) c.cert_node.ensures.adds (adds_one c.not.ensures.made)

pub negation_node-returns-clause-denotes : goal.negation_node-returns-clause-denotes
negation_node-returns-clause-denotes t c = opposite_made c.in_ok-f.ensures.denotes c.not.ensures.made

pub cert_node-returns-in-True-clause-denotes : goal.cert_node-returns-in-True-clause-denotes
cert_node-returns-in-True-clause-denotes t c =
    let e : formula_of c.args.cert.now ≡ plain.always = ap formula_of c.in-True.is ∙ formula_of-True in
    subst (λ (f : Formula). Denotes c.args.arena.now 1 (λ x. related_by (shapes_of c.args.left.now) (shapes_of c.args.right.now) f (codes_at c.args.arena.now c.args.lefts.now x) (codes_at c.args.arena.now c.args.rights.now x))) (sym e)
    (denotes_constant c.args.arena.now 1 true c.variables.ensures.arena refl)

pub cert_node-returns-in-False-clause-denotes : goal.cert_node-returns-in-False-clause-denotes
cert_node-returns-in-False-clause-denotes t c =
    let e : formula_of c.args.cert.now ≡ plain.never = ap formula_of c.in-False.is ∙ formula_of-False in
    subst (λ (f : Formula). Denotes c.args.arena.now 0 (λ x. related_by (shapes_of c.args.left.now) (shapes_of c.args.right.now) f (codes_at c.args.arena.now c.args.lefts.now x) (codes_at c.args.arena.now c.args.rights.now x))) (sym e)
    (denotes_constant c.args.arena.now 0 false c.variables.ensures.arena refl)

pub cert_node-returns-in-Not-clause-adds : goal.cert_node-returns-in-Not-clause-adds
cert_node-returns-in-Not-clause-adds t c =
    let d : c.in-Not.operand.value ≡ c.deref.result.now = cc in
    let e : formula_of c.args.cert.now ≡ plain.negation (formula_of c.deref.result.now) = ap formula_of c.in-Not.is ∙ formula_of-Not c.in-Not.operand ∙ ap (λ (f : Cert). plain.negation (formula_of f)) d in
    subst (λ (f : Formula). AddsAtMost (50 * formula_size f - 1) c.args.arena.now c.negation_node.new.arena) (sym e)
    (adds_fewer (50 * formula_size (formula_of c.deref.result.now)) _ (omega arith) c.negation_node.ensures.adds)

pub cert_node-returns-in-Not-clause-denotes : goal.cert_node-returns-in-Not-clause-denotes
cert_node-returns-in-Not-clause-denotes t c =
    let d : c.in-Not.operand.value ≡ c.deref.result.now = cc in
    let e : formula_of c.args.cert.now ≡ plain.negation (formula_of c.deref.result.now) = ap formula_of c.in-Not.is ∙ formula_of-Not c.in-Not.operand ∙ ap (λ (f : Cert). plain.negation (formula_of f)) d in
    subst (λ (f : Formula). IfOk c.negation_node.result (λ h. Denotes c.negation_node.new.arena h.0 (λ x. related_by (shapes_of c.args.left.now) (shapes_of c.args.right.now) f (codes_at c.args.arena.now c.args.lefts.now x) (codes_at c.args.arena.now c.args.rights.now x)))) (sym e)
    c.negation_node.ensures.denotes

pub cert_node-returns-in-All-clause-adds : goal.cert_node-returns-in-All-clause-adds
cert_node-returns-in-All-clause-adds t c =
    let e : formula_of c.args.cert.now ≡ plain.all (formulas_of (map formula_of c.deref-in-All.result.now)) = ap formula_of c.in-All.is ∙ formula_of-All c.in-All.operands ∙ ap (λ (l : List Cert). plain.all (formulas_of (map formula_of l))) (sym c.deref-in-All.ensures.value) in
    let size = ap formula_size e in
    adds_fewer (50 * formulas_size (formulas_of (map formula_of c.deref-in-All.result.now))) _ (omega (arith, size)) c.all_node.ensures.adds

pub cert_node-returns-in-Any-clause-adds : goal.cert_node-returns-in-Any-clause-adds
cert_node-returns-in-Any-clause-adds t c =
    let e : formula_of c.args.cert.now ≡ plain.any (formulas_of (map formula_of c.deref-in-Any.result.now)) = ap formula_of c.in-Any.is ∙ formula_of-Any c.in-Any.operands ∙ ap (λ (l : List Cert). plain.any (formulas_of (map formula_of l))) (sym c.deref-in-Any.ensures.value) in
    let size = ap formula_size e in
    adds_fewer (50 * formulas_size (formulas_of (map formula_of c.deref-in-Any.result.now))) _ (omega (arith, size)) c.any_node.ensures.adds
