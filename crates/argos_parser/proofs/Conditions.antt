-- Formulas that grow at their end, and how a guard's tree stands for them.
use Rattle.std.proofs.Common.{◌≡◌, List, [], ◌∷◌, ◌++◌, drop, map, length, true, Vec, ◌≤◌, arith}
use Rattle.std.specs.declared.alloc.Global.{Global}
use Rattle.std.specs.Prelude.{codes, Box}
use Rattle.std.proofs.lemmas.List.{length-map}
use Rattle.argos_grammar.specs.Forms.{Formula, all, any}
use Rattle.argos_tokens.specs.Tokens.{Token}
use Rattle.argos_grammar.specs.Runs.{begins_with}
use Rattle.argos_grammar.specs.Views.{guard_of, formulas_of, mark_of}
use Rattle.argos_grammar.specs.Grammar as grammar
use Rattle.argos_grammar.specs.Grammar.{IsUnit, AreUnits, IsPart, AreParts, IsCondition, the_yes, the_no, the_atom, the_opposite, enclosed, no_more_units, more_units, one_unit, units, no_more_parts, more_parts, one_part, parts}
use Rattle.argos_grammar.specs.declared.trees.Spot.{Spot}
use Rattle.argos_grammar.specs.declared.trees.GuardTree.{GuardTree}
use Rattle.argos_grammar.specs.declared.trees.GuardTree.TheVariants as tree
use Rattle.argos_grammar.proofs.FirstWords.{first_spelled}
use Rattle.argos_parser.proofs.Growing.{growing}
use Rattle.argos_grammar.proofs.GuardViews.{guard_of-True, guard_of-False, guard_of-Sig, guard_of-Not, guard_of-All, guard_of-Any}

-- so many units with `and` between two, and so many parts with `or` between two
pub data UnitsSoFar {A : Type 0} (P : A → List Token → List Token → Type 0) : List (Formula A) → List Token → List Token → Type 0 where
  units_so_far : {f : Formula A} {fs : List (Formula A)} {ts us rest : List Token} → IsUnit P f ts us → AreUnits P (formulas_of fs) us rest → UnitsSoFar P (f ∷ fs) ts rest

pub data PartsSoFar {A : Type 0} (P : A → List Token → List Token → Type 0) : List (Formula A) → List Token → List Token → Type 0 where
  parts_so_far : {f : Formula A} {fs : List (Formula A)} {ts us rest : List Token} → IsPart P f ts us → AreParts P (formulas_of fs) us rest → PartsSoFar P (f ∷ fs) ts rest

-- one more at the end
are_units_more : {A : Type 0} {P : A → List Token → List Token → Type 0} (fs : List (Formula A)) (f : Formula A) (ts us vs rest : List Token) → AreUnits P (formulas_of fs) ts us → grammar.word "and" us vs → IsUnit P f vs rest
    → AreUnits P (formulas_of (fs ++ f ∷ [])) ts rest
are_units_more [] f ts us vs rest no_more_units w h = more_units w h no_more_units
are_units_more (g ∷ fs) f ts us vs rest (more_units w' h' more) w h = more_units w' h' (are_units_more fs f _ us vs rest more w h)

are_parts_more : {A : Type 0} {P : A → List Token → List Token → Type 0} (fs : List (Formula A)) (f : Formula A) (ts us vs rest : List Token) → AreParts P (formulas_of fs) ts us → grammar.word "or" us vs → IsPart P f vs rest
    → AreParts P (formulas_of (fs ++ f ∷ [])) ts rest
are_parts_more [] f ts us vs rest no_more_parts w h = more_parts w h no_more_parts
are_parts_more (g ∷ fs) f ts us vs rest (more_parts w' h' more) w h = more_parts w' h' (are_parts_more fs f _ us vs rest more w h)

pub units_two : {A : Type 0} {P : A → List Token → List Token → Type 0} (f g : Formula A) (ts us vs rest : List Token) → IsUnit P f ts us → begins_with (codes "and") us ≡ true → vs ≡ drop 1 us → IsUnit P g vs rest
    → UnitsSoFar P (f ∷ g ∷ []) ts rest
units_two f g ts us vs rest h b d k = units_so_far h (more_units (first_spelled (codes "and") us vs b d) k no_more_units)

pub units_push : {A : Type 0} {P : A → List Token → List Token → Type 0} (fs : List (Formula A)) (f : Formula A) (ts us vs rest : List Token) → UnitsSoFar P fs ts us → begins_with (codes "and") us ≡ true → vs ≡ drop 1 us → IsUnit P f vs rest
    → UnitsSoFar P (fs ++ f ∷ []) ts rest
units_push [] f ts us vs rest h b d k = elim h [ ]
units_push (g ∷ fs) f ts us vs rest (units_so_far h more) b d k = units_so_far h (are_units_more fs f _ us vs rest more (first_spelled (codes "and") us vs b d) k)

pub parts_two : {A : Type 0} {P : A → List Token → List Token → Type 0} (f g : Formula A) (ts us vs rest : List Token) → IsPart P f ts us → begins_with (codes "or") us ≡ true → vs ≡ drop 1 us → IsPart P g vs rest
    → PartsSoFar P (f ∷ g ∷ []) ts rest
parts_two f g ts us vs rest h b d k = parts_so_far h (more_parts (first_spelled (codes "or") us vs b d) k no_more_parts)

pub parts_push : {A : Type 0} {P : A → List Token → List Token → Type 0} (fs : List (Formula A)) (f : Formula A) (ts us vs rest : List Token) → PartsSoFar P fs ts us → begins_with (codes "or") us ≡ true → vs ≡ drop 1 us → IsPart P f vs rest
    → PartsSoFar P (fs ++ f ∷ []) ts rest
parts_push [] f ts us vs rest h b d k = elim h [ ]
parts_push (g ∷ fs) f ts us vs rest (parts_so_far h more) b d k = parts_so_far h (are_parts_more fs f _ us vs rest more (first_spelled (codes "or") us vs b d) k)

pub units_made : {A : Type 0} {P : A → List Token → List Token → Type 0} (fs : List (Formula A)) (ts rest : List Token) → UnitsSoFar P fs ts rest → 2 ≤ length fs → IsPart P (all (formulas_of fs)) ts rest
units_made [] ts rest h n = elim h [ ]
units_made (f ∷ []) ts rest h n = absurd (omega arith)
units_made (f ∷ g ∷ fs) ts rest (units_so_far h more) n = units h more

pub parts_made : {A : Type 0} {P : A → List Token → List Token → Type 0} (fs : List (Formula A)) (ts rest : List Token) → PartsSoFar P fs ts rest → 2 ≤ length fs → IsCondition P (any (formulas_of fs)) ts rest
parts_made [] ts rest h n = elim h [ ]
parts_made (f ∷ []) ts rest h n = absurd (omega arith)
parts_made (f ∷ g ∷ fs) ts rest (parts_so_far h more) n = parts h more

-- guards
pub guard_all : (gs : Vec GuardTree Global) (ts rest : List Token) → UnitsSoFar grammar.name (map guard_of gs.items) ts rest → 2 ≤ length gs.items → IsPart grammar.name (guard_of (tree.All gs)) ts rest
guard_all gs ts rest h n = rw (guard_of-All gs) (units_made (map guard_of gs.items) ts rest h (simp length-map n))

pub guard_any : (gs : Vec GuardTree Global) (ts rest : List Token) → PartsSoFar grammar.name (map guard_of gs.items) ts rest → 2 ≤ length gs.items → IsCondition grammar.name (guard_of (tree.Any gs)) ts rest
guard_any gs ts rest h n = rw (guard_of-Any gs) (parts_made (map guard_of gs.items) ts rest h (simp length-map n))

pub guard_true : (ts rest : List Token) → begins_with (codes "true") ts ≡ true → rest ≡ drop 1 ts → IsUnit grammar.name (guard_of tree.True) ts rest
guard_true ts rest b d = rw guard_of-True (the_yes (first_spelled (codes "true") ts rest b d))

pub guard_false : (ts rest : List Token) → begins_with (codes "false") ts ≡ true → rest ≡ drop 1 ts → IsUnit grammar.name (guard_of tree.False) ts rest
guard_false ts rest b d = rw guard_of-False (the_no (first_spelled (codes "false") ts rest b d))

pub guard_sig : (s : Spot) (ts rest : List Token) → grammar.name (mark_of s) ts rest → IsUnit grammar.name (guard_of (tree.Sig s)) ts rest
guard_sig s ts rest h = rw (guard_of-Sig s) (the_atom h)

pub guard_not : (g : GuardTree) (b : Box GuardTree Global) (ts us rest : List Token) → grammar.word "not" ts us → IsUnit grammar.name (guard_of g) us rest → b.value ≡ g → IsUnit grammar.name (guard_of (tree.Not b)) ts rest
guard_not g b ts us rest w h e = rw (guard_of-Not b, e) (the_opposite w h)

pub ruleset guards = (growing, one_unit, one_part, enclosed, units_two, units_push, parts_two, parts_push, guard_all, guard_any, guard_true, guard_false, guard_sig, guard_not)
