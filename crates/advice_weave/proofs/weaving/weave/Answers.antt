-- The aspect that is put last stands first in the program.
use Rattle.std.proofs.Common.{ℕ, List, ◌∷◌, map, reverse, sym, ap, subst, arith}
use Rattle.argos_aspects.specs.Aspects as plain
use Rattle.argos_compile.specs.AspectViews.{aspect_view}
use Rattle.argos_compile.specs.Weaving.{IsWoven}
use Rattle.argos_core.specs.ModuleViews.{module_of}
use Rattle.eqn_core.specs.Equations.{weight_of}
use Rattle.advice_weave.proofs.Joining.{reverse-map}
use Rattle.advice_weave.proofs.weaving.weave.Goals as goal

pub put_last-requires-clause-woven : goal.put_last-requires-clause-woven
put_last-requires-clause-woven c =
    let P = module_of c.args.woven.«module» in
    let E = c.in_ok-ordered.ordered in
    let aspects = aspect_view c.args.aspect ∷ reverse (map aspect_view c.args.woven.aspects.items) in
    let own : ℕ → Type 0 = λ n. ∥ IsWoven (record { base = P; aspects = aspects }) E n ∥₁ in
    let counted : own c.lines_with-need.result = subst own (sym c.lines_with-need.ensures) c.in_ok-ordered.ensures.woven in
    let last = reverse-map aspect_view c.args.woven.aspects.items c.args.aspect in
    subst (λ (l : List plain.Aspect). ∥ IsWoven (record { base = P; aspects = l }) E c.lines_with-need.result ∥₁) (sym last) counted

pub returns-clause-weight : goal.returns-clause-weight
returns-clause-weight c = omega (arith, ap weight_of c.in_ok-woven.ensures.ordered, c.in_ok-ordered.ensures.weight)
