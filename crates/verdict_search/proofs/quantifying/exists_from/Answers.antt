use Rattle.std.proofs.Common.{◌-◌, ◌<◌, ℕ, refl, arith, subst, sym, ap, ◌∙◌}
use Rattle.std.specs.Prelude.{All}
use Rattle.std.proofs.lemmas.Iterator.{YieldsList-from_range, items_from_collect}
use Rattle.verdict_search.proofs.BadPoints.{all_from, some_from}
use Rattle.verdict_search.proofs.quantifying.exists_from.Goals as goal

pub exists-requires-clause-variables : goal.exists-requires-clause-variables
exists-requires-clause-variables c =
    let v = c.args.arena.now.variables in
    let all = items_from_collect c.collect.result c.collect.ensures.ran (YieldsList-from_range c.args.first c.variables.result (v - c.args.first) refl (ap (λ (n : ℕ). n - c.args.first) c.variables.ensures.count)) in
    subst (All (λ (k : ℕ). k < v)) (sym (c.deref.ensures.value ∙ rw c.in_ok-later.was at all)) (all_from c.args.first (v - c.args.first) v (omega (arith, c.requires.first)))

pub returns-clause-some : goal.returns-clause-some
returns-clause-some c =
    let v = c.args.arena.now.variables in
    let all = items_from_collect c.collect.result c.collect.ensures.ran (YieldsList-from_range c.args.first c.variables.result (v - c.args.first) refl (ap (λ (n : ℕ). n - c.args.first) c.variables.ensures.count)) in
    some_from c.args.first (v - c.args.first) c.exists.result (omega (arith, c.requires.first)) (c.deref.ensures.value ∙ rw c.in_ok-later.was at all) c.exists.ensures
