-- What stands for a guard that the code takes apart.
use Rattle.std.proofs.Common.{◌≡◌, ap, sym, ◌∙◌, Box}
use Rattle.std.specs.declared.alloc.Global.{Global}
use Rattle.argos_core.specs.Process as plain
use Rattle.argos_core.specs.Views.{guard_of, guard_layer}
use Rattle.argos_core.specs.declared.prog.Guard.{Guard}
use Rattle.argos_core.specs.declared.prog.Guard.TheVariants as variant
use Rattle.argos_core.specs.declared.prog.Guard.TheOpen.{Guard-F}
use Rattle.argos_core.specs.declared.prog.Guard.TheFolds.{fold-roll-Guard}

pub guard_of-True : guard_of variant.True ≡ plain.always
guard_of-True = ap guard_of (sym variant.rolls-True) ∙ fold-roll-Guard plain.Guard guard_layer Guard-F.True

pub guard_of-False : guard_of variant.False ≡ plain.never
guard_of-False = ap guard_of (sym variant.rolls-False) ∙ fold-roll-Guard plain.Guard guard_layer Guard-F.False

pub guard_of-Not : (g : Box Guard Global) → guard_of (variant.Not g) ≡ plain.negation (guard_of g.value)
guard_of-Not g = ap guard_of (sym (variant.rolls-Not g)) ∙ fold-roll-Guard plain.Guard guard_layer (Guard-F.Not g)
