-- What stands for a formula that the code makes.
use Rattle.std.proofs.Common.{◌≡◌, map, ap, sym, ◌∙◌, Vec}
use Rattle.std.specs.declared.alloc.Global.{Global}
use Rattle.std.specs.Prelude.{Box, ℕ, Bool, Option}
use Rattle.argos_grammar.specs.Forms.{Formula, Atom, yes, no, atom, opposite, all, any, in_state, inactive, same_code}
use Rattle.argos_grammar.specs.Views.{formula_of, cert_step, formulas_of, mark_of, numeral, elapsed_of}
use Rattle.argos_grammar.specs.declared.trees.Spot.{Spot}
use Rattle.argos_grammar.specs.declared.trees.CertNode.{CertNode, fold-roll-CertNode}
use Rattle.argos_grammar.specs.declared.trees.CertNode.TheVariants as tree
use Rattle.argos_grammar.specs.declared.trees.CertNode.TheOpen.{CertNode-F}

pub formula_of-True : formula_of tree.True ≡ yes
formula_of-True = ap formula_of (sym tree.rolls-True) ∙ fold-roll-CertNode (Formula Atom) cert_step CertNode-F.True

pub formula_of-False : formula_of tree.False ≡ no
formula_of-False = ap formula_of (sym tree.rolls-False) ∙ fold-roll-CertNode (Formula Atom) cert_step CertNode-F.False

pub formula_of-InState : (l : Bool) (r at : ℕ) (s : Spot) (e : Option (ℕ × ℕ)) → formula_of (tree.InState l r at s e) ≡ atom (in_state l (numeral r at) (mark_of s) (elapsed_of e))
formula_of-InState l r at s e = ap formula_of (sym (tree.rolls-InState l r at s e)) ∙ fold-roll-CertNode (Formula Atom) cert_step (CertNode-F.InState l r at s e)

pub formula_of-Inactive : (l : Bool) (r at : ℕ) → formula_of (tree.Inactive l r at) ≡ atom (inactive l (numeral r at))
formula_of-Inactive l r at = ap formula_of (sym (tree.rolls-Inactive l r at)) ∙ fold-roll-CertNode (Formula Atom) cert_step (CertNode-F.Inactive l r at)

pub formula_of-SameCode : (l l_at r r_at : ℕ) → formula_of (tree.SameCode l l_at r r_at) ≡ atom (same_code (numeral l l_at) (numeral r r_at))
formula_of-SameCode l l_at r r_at = ap formula_of (sym (tree.rolls-SameCode l l_at r r_at)) ∙ fold-roll-CertNode (Formula Atom) cert_step (CertNode-F.SameCode l l_at r r_at)

pub formula_of-All : (gs : Vec CertNode Global) → formula_of (tree.All gs) ≡ all (formulas_of (map formula_of gs.items))
formula_of-All gs = ap formula_of (sym (tree.rolls-All gs)) ∙ fold-roll-CertNode (Formula Atom) cert_step (CertNode-F.All gs)

pub formula_of-Any : (gs : Vec CertNode Global) → formula_of (tree.Any gs) ≡ any (formulas_of (map formula_of gs.items))
formula_of-Any gs = ap formula_of (sym (tree.rolls-Any gs)) ∙ fold-roll-CertNode (Formula Atom) cert_step (CertNode-F.Any gs)

pub formula_of-Not : (g : Box CertNode Global) → formula_of (tree.Not g) ≡ opposite (formula_of g.value)
formula_of-Not g = ap formula_of (sym (tree.rolls-Not g)) ∙ fold-roll-CertNode (Formula Atom) cert_step (CertNode-F.Not g)
