-- The operands of guards, and what stands for a guard that the code makes.
use Rattle.std.proofs.Common.{◌≡◌, List, [], ◌∷◌, map, refl, sym, ap, ◌∙◌, Box, Vec}
use Rattle.std.specs.declared.alloc.Global.{Global}
use Rattle.std.proofs.lemmas.Grind.{common_steps}
use Rattle.argos_core.specs.Process as plain
use Rattle.argos_core.specs.Views as core
use Rattle.argos_core.specs.declared.prog.Guard.{Guard}
use Rattle.argos_core.specs.declared.prog.Guard.TheOpen.{Guard-F}
use Rattle.argos_core.specs.declared.prog.Guard.TheFolds.{fold-roll-Guard}
use Rattle.argos_core.specs.declared.prog.Guard.TheVariants as variant
use Rattle.argos_base.specs.declared.signals.SigId.{SigId}
use Rattle.argos_grammar.specs.Views as tree
use Rattle.argos_grammar.specs.Views.{formulas_of}
use Rattle.argos_grammar.specs.declared.trees.GuardTree.{GuardTree}
use Rattle.argos_expansion.specs.Expansion.{Numbers, guard_of, guards_of}

pub guard_of-True : core.guard_of variant.True ≡ plain.always
guard_of-True = ap core.guard_of (sym variant.rolls-True) ∙ fold-roll-Guard plain.Guard core.guard_layer Guard-F.True

pub guard_of-False : core.guard_of variant.False ≡ plain.never
guard_of-False = ap core.guard_of (sym variant.rolls-False) ∙ fold-roll-Guard plain.Guard core.guard_layer Guard-F.False

pub guard_of-Sig : (s : SigId) → core.guard_of (variant.Sig s) ≡ plain.present s.0
guard_of-Sig s = ap core.guard_of (sym (variant.rolls-Sig s)) ∙ fold-roll-Guard plain.Guard core.guard_layer (Guard-F.Sig s)

pub guard_of-Not : (g : Box Guard Global) → core.guard_of (variant.Not g) ≡ plain.negation (core.guard_of g.value)
guard_of-Not g = ap core.guard_of (sym (variant.rolls-Not g)) ∙ fold-roll-Guard plain.Guard core.guard_layer (Guard-F.Not g)

pub guard_of-All : (gs : Vec Guard Global) → core.guard_of (variant.All gs) ≡ plain.all (core.guards_of (map core.guard_of gs.items))
guard_of-All gs = ap core.guard_of (sym (variant.rolls-All gs)) ∙ fold-roll-Guard plain.Guard core.guard_layer (Guard-F.All gs)

pub guard_of-Any : (gs : Vec Guard Global) → core.guard_of (variant.Any gs) ≡ plain.any (core.guards_of (map core.guard_of gs.items))
guard_of-Any gs = ap core.guard_of (sym (variant.rolls-Any gs)) ∙ fold-roll-Guard plain.Guard core.guard_layer (Guard-F.Any gs)

-- operands, one by one
operands : (ns : Numbers) (fs : List GuardTree) → core.guards_of (map (λ f. guard_of ns (tree.guard_of f)) fs) ≡ guards_of ns (formulas_of (map tree.guard_of fs))
operands ns [] = refl
operands ns (f ∷ fs) = ap (λ gs. plain.guard (guard_of ns (tree.guard_of f)) gs) (operands ns fs)

pub guards_made : (gs : List Guard) (ns : Numbers) (fs : List GuardTree) → map core.guard_of gs ≡ map (λ f. guard_of ns (tree.guard_of f)) fs → core.guards_of (map core.guard_of gs) ≡ guards_of ns (formulas_of (map tree.guard_of fs))
guards_made gs ns fs e = ap core.guards_of e ∙ operands ns fs

pub ruleset guard_lists = (common_steps, guard_of-True, guard_of-False, guard_of-Sig, guard_of-Not, guard_of-All, guard_of-Any, guards_made)
