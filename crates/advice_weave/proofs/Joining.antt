-- From what woven programs and accepted observers keep: the aspect can be joined, and what comes of it is the woven program with the aspect.
use Rattle.std.proofs.Common.{◌≡◌, ℕ, ◌+◌, ◌*◌, ◌≤◌, List, [], ◌∷◌, ◌++◌, refl, ap, ◌∙◌, sym, subst, arith, length, map, reverse}
use Rattle.std.proofs.Math.Logic.{∥∥₁_prop, ∥∥₁_map, ∥∥₁_elim}
use Rattle.std.proofs.Props.{props}
use Rattle.std.proofs.lemmas.List.{map-append, reverse-append}
use Rattle.argos_aspects.specs.Aspects.{Aspect, Seen, input, output, Advice, IsBelow, AreBelow, AreSized, Fits}
use Rattle.argos_aspects.specs.Weaving.{unrolled, woven_registers, need_with}
use Rattle.argos_base.specs.Limits.{register_limit, woven_line_limit}
use Rattle.argos_base.specs.SignalSets.{SignalSet}
use Rattle.argos_compile.specs.Accepting.{IsAccepted}
use Rattle.argos_compile.specs.Weaving.{WovenProgram, with_aspect, IsWoven}
use Rattle.argos_compile.proofs.Machines.{machine}
use Rattle.argos_core.specs.Reactions.{input_count, output_count}
use Rattle.eqn_core.specs.Equations.{Equations, weight_of}
use Rattle.eqn_core.specs.Ordered.{IsOrdered}
use Rattle.weave_lines.specs.Laws.{CanWeave}
use Rattle.weave_lines.specs.MachineOnce.{IsOrdered-prop}
use Rattle.weave_lines.specs.Systems.{IsWovenMachineOf, CanJoin, HasRoom, IsShort, IsJoined}
use Rattle.weave_lines.proofs.WovenLaws.{weaving_is_woven, weaving_is_small, weaving_can_join}

-- what joining asks, it asks in one way
IsBelow-prop : (inputs outputs : ℕ) (x : Seen) → IsProp (IsBelow inputs outputs x)
IsBelow-prop inputs outputs (input k) = hlevel props
IsBelow-prop inputs outputs (output k) = hlevel props

AreBelow-prop : (inputs outputs : ℕ) (seen : List Seen) → IsProp (AreBelow inputs outputs seen)
AreBelow-prop inputs outputs [] = hlevel props
AreBelow-prop inputs outputs (x ∷ seen) = hlevel (IsBelow-prop inputs outputs x, AreBelow-prop inputs outputs seen)

AreSized-prop : (n : ℕ) (sets : List SignalSet) → IsProp (AreSized n sets)
AreSized-prop n [] = hlevel props
AreSized-prop n (v ∷ sets) = hlevel (props, AreSized-prop n sets)

CanJoin-prop : (W J : Equations) (seen : List Seen) (A : Advice) → IsProp (CanJoin W J seen A)
CanJoin-prop W J seen A = hlevel (props, IsOrdered-prop W, IsOrdered-prop J, AreBelow-prop W.inputs (length W.outputs) seen, AreSized-prop W.inputs A.trace)

-- What a program and an aspect keep, and what weaving asks of them: W is the program's system and J the observer's.
pub record AreGiven (x : WovenProgram) (A : Aspect) (W J : Equations) (most lines : ℕ) : Type 0 where
  pub woven : ∥ IsWoven x W most ∥₁
  pub accepted : ∥ IsAccepted A.observer J lines ∥₁
  pub ordered : IsOrdered J
  pub fits : Fits A (input_count x.base) (output_count x.base)
  pub registers : woven_registers x.base (A ∷ x.aspects) ≤ register_limit
  pub few : need_with x.base x.aspects A most lines ≤ woven_line_limit

module _ (x : WovenProgram) (A : Aspect) (W J : Equations) (most lines : ℕ) (given : AreGiven x A W J most lines) where
  can_weave : IsWoven x W most → IsAccepted A.observer J lines → CanWeave x.base x.aspects A W J most lines
  can_weave w a = record {
    good = w.good;
    fit = (given.fits, w.fit);
    base = w.machine;
    observer = machine A.observer J a.system given.ordered;
    base_lines = w.lines;
    observer_lines = a.lines;
    register_limit = given.registers;
    line_limit = given.few;
  }

  -- a fact of which there can be only one
  once : {F : Type 0} → IsProp F → (CanWeave x.base x.aspects A W J most lines → F) → F
  once prop f = ∥∥₁_elim given.woven prop (λ w. ∥∥₁_elim given.accepted prop (λ a. f (can_weave w a)))

  pub can_join : CanJoin W J A.seen A.advice
  can_join = once (CanJoin-prop W J A.seen A.advice) (λ can. (weaving_can_join x.base x.aspects A W J most lines can).0)

  pub has_room : HasRoom W J A.seen A.advice
  has_room = once (hlevel props) (λ can. (weaving_can_join x.base x.aspects A W J most lines can).1)

  pub is_short : IsShort W J A.seen A.advice
  is_short = once (hlevel props) (λ can. (weaving_can_join x.base x.aspects A W J most lines can).2)

  -- what is joined is the woven program with the aspect
  module _ (E : Equations) (joined : IsJoined W J A.seen A.advice E) where
    again : IsWoven x W most → IsAccepted A.observer J lines → IsWoven (with_aspect x A) E (need_with x.base x.aspects A most lines)
    again w a =
        let can = can_weave w a in
        let small = (weaving_is_small x.base x.aspects A W J joined.memories most lines can joined.advised joined.fit).0 in
        let is = weaving_is_woven x.base x.aspects A W J joined.memories most lines can joined.advised joined.fit in
        record {
          good = w.good;
          fit = (given.fits, w.fit);
          machine = subst (λ (e : Equations). IsWovenMachineOf x.base (A ∷ x.aspects) e) (sym joined.is) is;
          bound = (most, lines, (w.bound, a.bound, refl));
          lines = subst (λ (e : Equations). length e.lines ≤ need_with x.base x.aspects A most lines) (sym joined.is) small;
        }

    pub woven_again : ∥ IsWoven (with_aspect x A) E (need_with x.base x.aspects A most lines) ∥₁
    woven_again = ∥∥₁_elim given.woven ∥∥₁_prop (λ w. ∥∥₁_map given.accepted (λ a. again w a))

    pub weight_again : weight_of E ≤ (length (unrolled A.advice.onset A.advice.trace) + 1) * (weight_of W + weight_of J)
        + 4 * (2 * output_count x.base + woven_registers x.base (A ∷ x.aspects) + 2)
    weight_again =
        let laid = weaving_is_small x.base x.aspects A W J joined.memories most lines in
        once (hlevel props) (λ can. omega (arith, ap weight_of joined.is, (laid can joined.advised joined.fit).1))

-- one more at the end, in the other order
pub reverse-map : {X Y : Type 0} (f : X → Y) (xs : List X) (y : X) → reverse (map f (xs ++ y ∷ [])) ≡ f y ∷ reverse (map f xs)
reverse-map f xs y = ap reverse (map-append f xs (y ∷ [])) ∙ reverse-append (map f xs) (f y ∷ [])
