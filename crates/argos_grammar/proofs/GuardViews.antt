-- What stands for a guard that the code makes.
use Rattle.std.proofs.Common.{◌≡◌, map, ap, sym, ◌∙◌, Vec}
use Rattle.std.specs.declared.alloc.Global.{Global}
use Rattle.std.specs.Prelude.{Box}
use Rattle.argos_grammar.specs.Forms.{GuardForm, yes, no, atom, opposite, all, any}
use Rattle.argos_grammar.specs.Views.{guard_of, guard_step, formulas_of, mark_of}
use Rattle.argos_grammar.specs.declared.trees.Spot.{Spot}
use Rattle.argos_grammar.specs.declared.trees.GuardTree.{GuardTree, fold-roll-GuardTree}
use Rattle.argos_grammar.specs.declared.trees.GuardTree.TheVariants as tree
use Rattle.argos_grammar.specs.declared.trees.GuardTree.TheOpen.{GuardTree-F}

pub guard_of-True : guard_of tree.True ≡ yes
guard_of-True = ap guard_of (sym tree.rolls-True) ∙ fold-roll-GuardTree GuardForm guard_step GuardTree-F.True

pub guard_of-False : guard_of tree.False ≡ no
guard_of-False = ap guard_of (sym tree.rolls-False) ∙ fold-roll-GuardTree GuardForm guard_step GuardTree-F.False

pub guard_of-Sig : (s : Spot) → guard_of (tree.Sig s) ≡ atom (mark_of s)
guard_of-Sig s = ap guard_of (sym (tree.rolls-Sig s)) ∙ fold-roll-GuardTree GuardForm guard_step (GuardTree-F.Sig s)

pub guard_of-All : (gs : Vec GuardTree Global) → guard_of (tree.All gs) ≡ all (formulas_of (map guard_of gs.items))
guard_of-All gs = ap guard_of (sym (tree.rolls-All gs)) ∙ fold-roll-GuardTree GuardForm guard_step (GuardTree-F.All gs)

pub guard_of-Any : (gs : Vec GuardTree Global) → guard_of (tree.Any gs) ≡ any (formulas_of (map guard_of gs.items))
guard_of-Any gs = ap guard_of (sym (tree.rolls-Any gs)) ∙ fold-roll-GuardTree GuardForm guard_step (GuardTree-F.Any gs)

pub guard_of-Not : (g : Box GuardTree Global) → guard_of (tree.Not g) ≡ opposite (guard_of g.value)
guard_of-Not g = ap guard_of (sym (tree.rolls-Not g)) ∙ fold-roll-GuardTree GuardForm guard_step (GuardTree-F.Not g)
