-- Conditions as they are printed: in parentheses where a unit or a part is due and the condition is none.
use Rattle.std.proofs.Common.{◌≡◌, [], ◌∷◌, ◌++◌, refl, sym, ap, subst}
use Rattle.std.specs.Prelude.{codes}
use Rattle.argos_grammar.specs.Forms.{Formula, yes, no, atom, opposite, all, any, Formulas, no_formulas, formula}
use Rattle.argos_grammar.specs.Grammar.{Piece, IsUnit, the_yes, the_no, the_atom, the_opposite, enclosed, AreUnits, no_more_units, more_units, IsPart, one_unit, units, AreParts, no_more_parts, more_parts, IsCondition, one_part, parts}
use Rattle.argos_grammar.specs.Printed.{Words, formula_words, and_words, or_words, enclosed_words, round_unit, round_part}
use Rattle.argos_grammar.specs.Text.{IsFormula, AreFormulas}
use Rattle.argos_grammar.specs.Unplaced.{unplaced_formula, unplaced_formulas}
use Rattle.argos_grammar.proofs.Prints.{Prints, both, after_word, before_word, only_word, no_words, made}

-- equal apart from what u forgets of the atoms
abbrev pub Same : {A : Type 0} → (A → A) → Formula A → Formula A → Type 0
Same u f y = unplaced_formula u y ≡ unplaced_formula u f

abbrev pub SameAll : {A : Type 0} → (A → A) → Formulas A → Formulas A → Type 0
SameAll u fs ys = unplaced_formulas u ys ≡ unplaced_formulas u fs

-- what a formula prints where a unit is due, where a part is, and where a condition is
pub record PrintsFormula {A : Type 0} (P : A → Piece) (g : A → Words) (u : A → A) (f : Formula A) : Type 0 where
  pub unit : Prints (enclosed_words (round_unit f) (formula_words g f)) (IsUnit P) (Same u f)
  pub part : Prints (enclosed_words (round_part f) (formula_words g f)) (IsPart P) (Same u f)
  pub condition : Prints (formula_words g f) (IsCondition P) (Same u f)

part_of : {A : Type 0} {P : A → Piece} {S : Formula A → Type 0} {ws : Words} → Prints ws (IsUnit P) S → Prints ws (IsPart P) S
part_of x = made x (λ f. f) (λ f ts rest h. one_unit h) (λ f s. s)

condition_of : {A : Type 0} {P : A → Piece} {S : Formula A → Type 0} {ws : Words} → Prints ws (IsPart P) S → Prints ws (IsCondition P) S
condition_of x = made x (λ f. f) (λ f ts rest h. one_part h) (λ f s. s)

in_parentheses : {A : Type 0} {P : A → Piece} {S : Formula A → Type 0} {ws : Words} → Prints ws (IsCondition P) S → Prints (codes "(" ∷ (ws ++ codes ")" ∷ [])) (IsUnit P) S
in_parentheses x = made (after_word "(" refl (before_word ")" refl x)) (λ f. f) (λ f ts rest h. enclosed h.1 h.2.1 h.2.2) (λ f s. s)

-- a unit needs no parentheses
a_unit : {A : Type 0} (P : A → Piece) (g : A → Words) (u : A → A) (f : Formula A) → round_unit f ≡ 0 → round_part f ≡ 0 → Prints (formula_words g f) (IsUnit P) (Same u f) → PrintsFormula P g u f
a_unit P g u f e k x = record {
  unit = subst (λ n. Prints (enclosed_words n (formula_words g f)) (IsUnit P) (Same u f)) (sym e) x;
  part = subst (λ n. Prints (enclosed_words n (formula_words g f)) (IsPart P) (Same u f)) (sym k) (part_of x);
  condition = condition_of (part_of x);
}

-- units joined by "and" are a part, and parts joined by "or" a condition
joined_by_and : {A : Type 0} (P : A → Piece) (g : A → Words) (u : A → A) (f h : Formula A) (fs : Formulas A) → PrintsFormula P g u f → PrintsFormula P g u h → Prints (and_words g fs) (AreUnits P) (SameAll u fs)
    → Prints (formula_words g (all (formula f (formula h fs)))) (IsPart P) (Same u (all (formula f (formula h fs))))
joined_by_and P g u f h fs x y more =
    made (both x.unit (after_word "and" refl (both y.unit more))) (λ p. all (formula p.0 (formula p.1.0 p.1.1))) (λ p ts rest k. units k.1 (more_units k.2.1 k.2.2.1 k.2.2.2))
    (λ p s i. all (formula (s.0 i) (formula (s.1.0 i) (s.1.1 i))))

joined_by_or : {A : Type 0} (P : A → Piece) (g : A → Words) (u : A → A) (f h : Formula A) (fs : Formulas A) → PrintsFormula P g u f → PrintsFormula P g u h → Prints (or_words g fs) (AreParts P) (SameAll u fs)
    → Prints (formula_words g (any (formula f (formula h fs)))) (IsCondition P) (Same u (any (formula f (formula h fs))))
joined_by_or P g u f h fs x y more =
    made (both x.part (after_word "or" refl (both y.part more))) (λ p. any (formula p.0 (formula p.1.0 p.1.1))) (λ p ts rest k. parts k.1 (more_parts k.2.1 k.2.2.1 k.2.2.2))
    (λ p s i. any (formula (s.0 i) (formula (s.1.0 i) (s.1.1 i))))

a_part : {A : Type 0} (P : A → Piece) (g : A → Words) (u : A → A) (fs : Formulas A) → Prints (formula_words g (all fs)) (IsPart P) (Same u (all fs)) → PrintsFormula P g u (all fs)
a_part P g u fs x = record { unit = in_parentheses (condition_of x); part = x; condition = condition_of x }

a_condition : {A : Type 0} (P : A → Piece) (g : A → Words) (u : A → A) (fs : Formulas A) → Prints (formula_words g (any fs)) (IsCondition P) (Same u (any fs)) → PrintsFormula P g u (any fs)
a_condition P g u fs x = record { unit = in_parentheses x; part = part_of (in_parentheses x); condition = x }

-- a formula over atoms that are printed so, and the rest of a list of them
module _ {A : Type 0} (P : A → Piece) (g : A → Words) (u : A → A) (I : A → Type 0) (one : (a : A) → I a → Prints (g a) P (λ y. u y ≡ u a)) where
  mutual
    pub prints_formula : (f : Formula A) → IsFormula I f → PrintsFormula P g u f
    prints_formula yes h = a_unit P g u yes refl refl (only_word "true" yes refl (λ ts rest k. the_yes k) refl)
    prints_formula no h = a_unit P g u no refl refl (only_word "false" no refl (λ ts rest k. the_no k) refl)
    prints_formula (atom a) h = a_unit P g u (atom a) refl refl (made (one a h) atom (λ b ts rest k. the_atom k) (λ b s. ap atom s))
    prints_formula (opposite f) h = a_unit P g u (opposite f) refl refl (made (after_word "not" refl (prints_formula f h).unit) opposite (λ y ts rest k. the_opposite k.1 k.2) (λ y s. ap opposite s))
    prints_formula (all no_formulas) h = absurd (cc h)
    prints_formula (all (formula f no_formulas)) h = absurd (cc h.1)
    prints_formula (all (formula f (formula k fs))) h = a_part P g u (formula f (formula k fs)) (joined_by_and P g u f k fs (prints_formula f h.0) (prints_formula k h.1.0) (prints_and fs h.1.1))
    prints_formula (any no_formulas) h = absurd (cc h)
    prints_formula (any (formula f no_formulas)) h = absurd (cc h.1)
    prints_formula (any (formula f (formula k fs))) h = a_condition P g u (formula f (formula k fs)) (joined_by_or P g u f k fs (prints_formula f h.0) (prints_formula k h.1.0) (prints_or fs h.1.1))

    prints_and : (fs : Formulas A) → AreFormulas 0 I fs → Prints (and_words g fs) (AreUnits P) (SameAll u fs)
    prints_and no_formulas h = no_words no_formulas (λ ts rest e. subst (AreUnits P no_formulas ts) e no_more_units) refl
    prints_and (formula f fs) h = made (after_word "and" refl (both (prints_formula f h.0).unit (prints_and fs h.1))) (λ p. formula p.0 p.1) (λ p ts rest k. more_units k.1 k.2.1 k.2.2) (λ p s i. formula (s.0 i) (s.1 i))

    prints_or : (fs : Formulas A) → AreFormulas 0 I fs → Prints (or_words g fs) (AreParts P) (SameAll u fs)
    prints_or no_formulas h = no_words no_formulas (λ ts rest e. subst (AreParts P no_formulas ts) e no_more_parts) refl
    prints_or (formula f fs) h = made (after_word "or" refl (both (prints_formula f h.0).part (prints_or fs h.1))) (λ p. formula p.0 p.1) (λ p ts rest k. more_parts k.1 k.2.1 k.2.2) (λ p s i. formula (s.0 i) (s.1 i))
