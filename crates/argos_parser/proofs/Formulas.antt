-- How a certificate's tree stands for its formula.
use Rattle.std.proofs.Common.{◌≡◌, List, drop, map, length, refl, true, Vec, ◌≤◌}
use Rattle.std.specs.declared.alloc.Global.{Global}
use Rattle.std.specs.Prelude.{ℕ, codes, Box, Bool, Option, Some, None}
use Rattle.std.proofs.lemmas.List.{length-map}
use Rattle.argos_grammar.specs.Forms.{atom, Mark, Numeral, Atom, same_code}
use Rattle.argos_tokens.specs.Tokens.{Token}
use Rattle.argos_grammar.specs.Runs.{begins_with}
use Rattle.argos_grammar.specs.Views.{formula_of, mark_of, numeral, elapsed_of, claim_of, claim_atom}
use Rattle.argos_grammar.specs.Grammar as grammar
use Rattle.argos_grammar.specs.Grammar.{IsUnit, AreUnits, IsPart, AreParts, IsCondition, the_yes, the_no, the_atom, the_opposite, enclosed, no_more_units, more_units, one_unit, units, no_more_parts, more_parts, one_part, parts}
use Rattle.argos_grammar.specs.declared.trees.Spot.{Spot}
use Rattle.argos_grammar.specs.declared.trees.CertNode.{CertNode}
use Rattle.argos_grammar.specs.declared.trees.CertNode.TheVariants as tree
use Rattle.argos_grammar.proofs.FirstWords.{first_spelled}
use Rattle.argos_grammar.proofs.Leaves.{settled_once}
use Rattle.argos_grammar.proofs.Steps.{cert_steps}
use Rattle.argos_grammar.proofs.FormulaViews.{formula_of-True, formula_of-False, formula_of-Not, formula_of-All, formula_of-Any, formula_of-InState, formula_of-Inactive, formula_of-SameCode}
use Rattle.argos_parser.proofs.Conditions.{UnitsSoFar, PartsSoFar, units_two, units_push, parts_two, parts_push, units_made, parts_made}

pub formula_node_all : (gs : Vec CertNode Global) (ts rest : List Token) → UnitsSoFar grammar.one_atom (map formula_of gs.items) ts rest → 2 ≤ length gs.items → IsPart grammar.one_atom (formula_of (tree.All gs)) ts rest
formula_node_all gs ts rest h n = rw (formula_of-All gs) (units_made (map formula_of gs.items) ts rest h (simp length-map n))

pub formula_node_any : (gs : Vec CertNode Global) (ts rest : List Token) → PartsSoFar grammar.one_atom (map formula_of gs.items) ts rest → 2 ≤ length gs.items → IsCondition grammar.one_atom (formula_of (tree.Any gs)) ts rest
formula_node_any gs ts rest h n = rw (formula_of-Any gs) (parts_made (map formula_of gs.items) ts rest h (simp length-map n))

pub formula_node_true : (ts rest : List Token) → begins_with (codes "true") ts ≡ true → rest ≡ drop 1 ts → IsUnit grammar.one_atom (formula_of tree.True) ts rest
formula_node_true ts rest b d = rw formula_of-True (the_yes (first_spelled (codes "true") ts rest b d))

pub formula_node_false : (ts rest : List Token) → begins_with (codes "false") ts ≡ true → rest ≡ drop 1 ts → IsUnit grammar.one_atom (formula_of tree.False) ts rest
formula_node_false ts rest b d = rw formula_of-False (the_no (first_spelled (codes "false") ts rest b d))

pub formula_node_atom : (a : Atom) (n : CertNode) (ts rest : List Token) → grammar.one_atom a ts rest → formula_of n ≡ atom a → IsUnit grammar.one_atom (formula_of n) ts rest
formula_node_atom a n ts rest h e = rw e (the_atom h)

claimed_made : (left : Bool) (r : Numeral) (c : Option (Mark × Option Numeral)) (ts a b rest : List Token) → grammar.side left ts a → grammar.numeral r a b → grammar.claim c b rest → grammar.one_atom (claim_atom left r c) ts rest
claimed_made left r None ts a b rest p q s = (a, p, (b, q, s))
claimed_made left r (Some c) ts a b rest p q s = (a, p, (b, q, s))

pub claimed_node : (left : Bool) (r : Numeral) (c : Option (Mark × Option Numeral)) (n : CertNode) (ts a b rest : List Token) → grammar.side left ts a → grammar.numeral r a b → grammar.claim c b rest → formula_of n ≡ atom (claim_atom left r c)
    → IsUnit grammar.one_atom (formula_of n) ts rest
claimed_node left r c n ts a b rest p q s e = formula_node_atom (claim_atom left r c) n ts rest (claimed_made left r c ts a b rest p q s) e

pub same_node : (l l_at r r_at : ℕ) (ts a b rest : List Token) → begins_with (codes "samecode") ts ≡ true → a ≡ drop 1 ts → grammar.numeral (numeral l l_at) a b → grammar.numeral (numeral r r_at) b rest
    → IsUnit grammar.one_atom (formula_of (tree.SameCode l l_at r r_at)) ts rest
same_node l l_at r r_at ts a b rest w d p q = formula_node_atom (same_code (numeral l l_at) (numeral r r_at)) (tree.SameCode l l_at r r_at) ts rest (a, first_spelled (codes "samecode") ts a w d, (b, p, q)) (formula_of-SameCode l l_at r r_at)

pub left_side : (ts rest : List Token) → begins_with (codes "lhs") ts ≡ true → rest ≡ drop 1 ts → grammar.side true ts rest
left_side ts rest w d = first_spelled (codes "lhs") ts rest w d

pub claim_none : (ts rest : List Token) → begins_with (codes "inactive") ts ≡ true → rest ≡ drop 1 ts → grammar.claim (claim_of None) ts rest
claim_none ts rest w d = first_spelled (codes "inactive") ts rest w d

pub claim_some : (s : Spot) (e : Option (ℕ × ℕ)) (ts a b rest : List Token) → grammar.word "in" ts a → grammar.name (mark_of s) a b → grammar.elapsed (elapsed_of e) b rest → grammar.claim (claim_of (Some (s, e))) ts rest
claim_some s e ts a b rest p q r = (a, p, (b, q, r))

pub elapsed_none : (ts : List Token) → grammar.elapsed (elapsed_of None) ts ts
elapsed_none ts = refl

pub elapsed_some : (n at : ℕ) (ts a rest : List Token) → begins_with (codes "elapsed") ts ≡ true → a ≡ drop 1 ts → grammar.numeral (numeral n at) a rest → grammar.elapsed (elapsed_of (Some (n, at))) ts rest
elapsed_some n at ts a rest w d p = (a, first_spelled (codes "elapsed") ts a w d, p)

pub formula_node_not : (g : CertNode) (b : Box CertNode Global) (ts us rest : List Token) → grammar.word "not" ts us → IsUnit grammar.one_atom (formula_of g) us rest → b.value ≡ g → IsUnit grammar.one_atom (formula_of (tree.Not b)) ts rest
formula_node_not g b ts us rest w h e = rw (formula_of-Not b, e) (the_opposite w h)

pub ruleset formulas = (
  cert_steps,
  settled_once,
  one_unit,
  one_part,
  enclosed,
  units_two,
  units_push,
  parts_two,
  parts_push,
  formula_node_all,
  formula_node_any,
  formula_node_true,
  formula_node_false,
  formula_node_not,
  claimed_node,
  same_node,
  left_side,
  claim_none,
  claim_some,
  elapsed_none,
  elapsed_some,
  formula_of-InState,
  formula_of-Inactive,
)
