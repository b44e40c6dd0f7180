use Rattle.std.proofs.Common.{ℕ, drop, refl, sym, ap, ◌∙◌, arith}
use Rattle.std.specs.Prelude.{option_copied}
use Rattle.argos_congruence.specs.Congruence.{is_shared}
use Rattle.argos_core.specs.ModuleViews.{module_of}
use Rattle.bisim_check.specs.inner.Sharing.{first_unshared}
use Rattle.bisim_check.proofs.Sharing.{passes, ends, at_end, one_more, some_within}
use Rattle.bisim_check.proofs.interfaces.first_unshared.Goals as goal
use Rattle.bisim_check.proofs.interfaces.first_unshared.Goals.{in-Some+else-not-is_shared, in_default}

pub loop-k-init : goal.loop-k-init
loop-k-init c = (c.len-k-end.ensures.count, refl)

pub returns-then-not-is_shared : goal.returns-then-not-is_shared
returns-then-not-is_shared c =
    let shared = is_shared (module_of c.args.left.now) (module_of c.args.right.now) in
    let at = sym c.get.ensures ∙ ap option_copied c.in-Some.is in
    sym (ends shared c.args.names.now c.loop-k.k c.in-Some.name.now at (sym c.is_shared.ensures ∙ c.if-not-is_shared.true)) ∙ c.loop-k.invariant.1

pub loop-k-preserved : goal.loop-k-preserved
loop-k-preserved c =
    let shared = is_shared (module_of c.args.left.now) (module_of c.args.right.now) in (
      c.loop-k.invariant.0,
      elim c.match-get.branch [
        | in-Some+else-not-is_shared w ↦
            let at = sym c.get.ensures ∙ ap option_copied w.in-Some.is in
            ap (λ (j : ℕ). first_unshared shared (drop j c.args.names.now)) (one_more c.loop-k.k)
            ∙ sym (passes shared c.args.names.now c.loop-k.k w.in-Some.name.now at (sym w.is_shared.ensures ∙ w.if-not-is_shared.false)) ∙ c.loop-k.invariant.1
        | in_default w ↦
            absurd (some_within shared c.args.names.now c.loop-k.k (omega (arith, c.loop-k.invariant.0, c.loop-k-test.true)) (sym c.get.ensures ∙ ap option_copied w.in_default.is))
      ],
    )

pub returns : goal.returns
returns c =
    let shared = is_shared (module_of c.args.left.now) (module_of c.args.right.now) in
    sym (at_end shared c.args.names.now c.loop-k.k (omega (arith, c.loop-k.invariant.0, c.loop-k-test.false))) ∙ c.loop-k.invariant.1
