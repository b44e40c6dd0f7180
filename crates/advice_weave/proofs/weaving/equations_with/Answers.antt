-- What joining asks follows from what the program and the observer keep, and so does what comes of it.
use Rattle.std.proofs.Common.{◌≡◌, ◌≤◌, List, map, subst}
use Rattle.argos_base.specs.Limits.{register_limit, woven_line_limit}
use Rattle.argos_aspects.specs.Views.{seen_of, advice_of}
use Rattle.argos_aspects.specs.declared.aspect.Seen.{Seen}
use Rattle.argos_compile.specs.AspectViews.{aspect_view}
use Rattle.argos_compile.specs.WovenViews.{woven_view}
use Rattle.argos_compile.specs.declared.aspect.Aspect.{Aspect}
use Rattle.argos_compile.specs.declared.woven.Woven.{Woven}
use Rattle.eqn_core.specs.Equations.{Equations}
use Rattle.eqn_core.specs.Ordered.{IsOrdered}
use Rattle.weave_lines.specs.Systems.{IsJoined}
use Rattle.advice_weave.specs.Needs.{FitsInto, registers_with, lines_with}
use Rattle.advice_weave.proofs.Joining.{AreGiven, can_join, has_room, is_short, woven_again, weight_again}
use Rattle.advice_weave.proofs.weaving.equations_with.Goals as goal

given : (woven : Woven) (aspect : Aspect) (J : Equations) → J ≡ aspect.observer.ordered → IsOrdered J → FitsInto woven aspect
    → registers_with woven aspect ≤ register_limit → lines_with woven aspect ≤ woven_line_limit
    → AreGiven (woven_view woven) (aspect_view aspect) woven.ordered aspect.observer.ordered woven.most aspect.observer.lines
given woven aspect J is ordered fits registers few = record {
  woven = woven.judged;
  accepted = aspect.observer.judged;
  ordered = subst IsOrdered is ordered;
  fits = fits;
  registers = registers;
  few = few;
}

pub join_advice-requires-clause-join : goal.join_advice-requires-clause-join
join_advice-requires-clause-join c =
    let r = c.requires in
    let are = given c.args.woven.now c.args.aspect.now _ c.ordered-observer.ensures c.are_ordered.ensures r.fits r.registers r.few in
    rw (c.deref.ensures.value, c.ordered-observer.ensures) (can_join _ _ _ _ _ _ are)

pub join_advice-requires-clause-room : goal.join_advice-requires-clause-room
join_advice-requires-clause-room c =
    let r = c.requires in
    let are = given c.args.woven.now c.args.aspect.now _ c.ordered-observer.ensures c.are_ordered.ensures r.fits r.registers r.few in
    rw (c.deref.ensures.value, c.ordered-observer.ensures) (has_room _ _ _ _ _ _ are)

pub join_advice-requires-clause-short : goal.join_advice-requires-clause-short
join_advice-requires-clause-short c =
    let r = c.requires in
    let are = given c.args.woven.now c.args.aspect.now _ c.ordered-observer.ensures c.are_ordered.ensures r.fits r.registers r.few in
    rw (c.deref.ensures.value, c.ordered-observer.ensures) (is_short _ _ _ _ _ _ are)

-- joined to the observer's system as it stands in the aspect
joined_to : (aspect : Aspect) (W J E : Equations) (seen : List Seen) → J ≡ aspect.observer.ordered → seen ≡ aspect.seen.items
    → IsJoined W J (map seen_of seen) (advice_of aspect.advice) E
    → IsJoined W aspect.observer.ordered (map seen_of aspect.seen.items) (advice_of aspect.advice) E
joined_to aspect W J E seen e l h =
    let same : IsJoined W J (map seen_of aspect.seen.items) (advice_of aspect.advice) E =
    subst (λ (s : List Seen). IsJoined W J (map seen_of s) (advice_of aspect.advice) E) l h
    in
    subst (λ (j : Equations). IsJoined W j (map seen_of aspect.seen.items) (advice_of aspect.advice) E) e same

pub returns-clause-woven : goal.returns-clause-woven
returns-clause-woven c =
    let r = c.requires in
    let are = given c.args.woven.now c.args.aspect.now _ c.ordered-observer.ensures c.are_ordered.ensures r.fits r.registers r.few in
    let joined = joined_to c.args.aspect.now _ _ _ _ c.ordered-observer.ensures c.deref.ensures.value c.in_ok-ordered.ensures in
    woven_again _ _ _ _ _ _ are c.in_ok-ordered.ordered joined

pub returns-clause-weight : goal.returns-clause-weight
returns-clause-weight c =
    let r = c.requires in
    let are = given c.args.woven.now c.args.aspect.now _ c.ordered-observer.ensures c.are_ordered.ensures r.fits r.registers r.few in
    let joined = joined_to c.args.aspect.now _ _ _ _ c.ordered-observer.ensures c.deref.ensures.value c.in_ok-ordered.ensures in
    weight_again _ _ _ _ _ _ are c.in_ok-ordered.ordered joined
