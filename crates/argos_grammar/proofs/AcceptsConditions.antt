-- The tokens of a condition are taken, where those of its atoms are.
use Rattle.std.proofs.Common.{◌≡◌, List, [], ◌∷◌, drop, true, refl}
use Rattle.std.specs.Prelude.{ℕ, codes}
use Rattle.argos_grammar.specs.Forms.{Mark, Formula, Formulas}
use Rattle.argos_tokens.specs.Tokens.{Token}
use Rattle.argos_grammar.specs.Faults.{Open, bracket, negation, without_negations}
use Rattle.argos_grammar.specs.Runs.{outcome, begins_with, IsSettled}
use Rattle.argos_grammar.specs.DueSymbols.{Rule, Symbol, rule, repeat, w, sides, guard, another_part, part, another_unit, unit}
use Rattle.argos_grammar.specs.Grammar as grammar
use Rattle.argos_grammar.specs.Grammar.{Piece, IsUnit, AreUnits, IsPart, AreParts, IsCondition, the_yes, the_no, the_atom, the_opposite, enclosed, no_more_units, more_units, one_unit, units, no_more_parts, more_parts, one_part, parts}
use Rattle.argos_grammar.proofs.Steps.{unit_not, unit_true, unit_false, unit_open, unit_name}
use Rattle.argos_grammar.proofs.FirstWords.{IsClearOf, word_begins, word_clear}
use Rattle.argos_grammar.proofs.PieceFronts.{name_clear}
use Rattle.argos_grammar.proofs.AcceptsWords.{Took, ◌then◌, still, word, any_name, opening, closing, not_word}
use Rattle.argos_grammar.proofs.AcceptsLists.{given, by_rule, one_more, no_more, past_word, here}

-- what may not follow an atom or a unit, a part, and a condition
abbrev pub after_unit : List (List ℕ)
after_unit = codes "elapsed" ∷ []

abbrev pub after_part : List (List ℕ)
after_part = codes "and" ∷ after_unit

abbrev pub after_condition : List (List ℕ)
after_condition = codes "or" ∷ after_part

-- the rules for conditions over atoms with these pieces
pub record TakesConditions {A : Type 0} (P : A → Piece) (condition next_part single_part next_unit single_unit : Rule) : Type 0 where
  pub in_condition : sides condition ≡ (rule single_part ∷ repeat next_part ∷ []) ∷ []
  pub in_next_part : sides next_part ≡ (w "or" ∷ rule single_part ∷ []) ∷ []
  pub in_part : sides single_part ≡ (rule single_unit ∷ repeat next_unit ∷ []) ∷ []
  pub in_next_unit : sides next_unit ≡ (w "and" ∷ rule single_unit ∷ []) ∷ []
  pub at_not : (due : List Symbol) (os : List Open) (ts : List Token) → begins_with (codes "not") ts ≡ true → outcome (rule single_unit ∷ due) os ts ≡ outcome (w "not" ∷ rule single_unit ∷ due) os ts
  pub at_true : (due : List Symbol) (os : List Open) (ts : List Token) → begins_with (codes "true") ts ≡ true → outcome (rule single_unit ∷ due) os ts ≡ outcome due (without_negations os) (drop 1 ts)
  pub at_false : (due : List Symbol) (os : List Open) (ts : List Token) → begins_with (codes "false") ts ≡ true → outcome (rule single_unit ∷ due) os ts ≡ outcome due (without_negations os) (drop 1 ts)
  pub at_open : (due : List Symbol) (os : List Open) (ts : List Token) → begins_with (codes "(") ts ≡ true → outcome (rule single_unit ∷ due) os ts ≡ outcome (w "(" ∷ rule condition ∷ w ")" ∷ due) os ts
  pub at_atom : (a : A) (os : List Open) (ts rest : List Token) → P a ts rest → IsClearOf after_unit rest → Took (rule single_unit ∷ []) os (without_negations os) ts rest

-- what follows a unit, and a part
units_clear : {A : Type 0} {P : A → Piece} {fs : Formulas A} {ts rest : List Token} → AreUnits P fs ts rest → IsClearOf after_unit rest → IsClearOf after_unit ts
units_clear no_more_units c = c
units_clear (more_units {ts = ts} {us = us} k h more) c = word_clear after_unit "and" ts us refl k

parts_clear : {A : Type 0} {P : A → Piece} {fs : Formulas A} {ts rest : List Token} → AreParts P fs ts rest → IsClearOf after_part rest → IsClearOf after_part ts
parts_clear no_more_parts c = c
parts_clear (more_parts {ts = ts} {us = us} k h more) c = word_clear after_part "or" ts us refl k

mutual
  unit_taken : {A : Type 0} {P : A → Piece} {c n p m u : Rule} (r : TakesConditions P c n p m u) (os : List Open) {f : Formula A} {ts rest : List Token} → IsUnit P f ts rest → IsClearOf after_unit rest
      → Took (rule u ∷ []) os (without_negations os) ts rest
  unit_taken r os (the_yes {ts = ts} {rest = rest} h) c = past_word "true" ts rest refl h (λ due b. r.at_true due os ts b) here
  unit_taken r os (the_no {ts = ts} {rest = rest} h) c = past_word "false" ts rest refl h (λ due b. r.at_false due os ts b) here
  unit_taken r os (the_atom {a = a} {ts = ts} {rest = rest} h) c = r.at_atom a os ts rest h c
  unit_taken r os (the_opposite {ts = ts} {us = us} k h) c = given (λ due. r.at_not due os ts (word_begins "not" ts us k)) (not_word k then unit_taken r (negation ∷ os) h c)
  unit_taken r os (enclosed {ts = ts} {us = us} {vs = vs} {rest = rest} k h e) c =
      given (λ due. r.at_open due os ts (word_begins "(" ts us k)) (opening "(" refl k then condition_taken r (bracket ∷ os) refl h (word_clear after_condition ")" vs rest refl e) then closing ")" refl e)

  units_taken : {A : Type 0} {P : A → Piece} {c n p m u : Rule} (r : TakesConditions P c n p m u) (os : List Open) → IsSettled os → {fs : Formulas A} {ts rest : List Token} → AreUnits P fs ts rest → IsClearOf after_part rest
      → Took (repeat m ∷ []) os os ts rest
  units_taken r os s no_more_units c = no_more _ r.in_next_unit c.0 refl
  units_taken r os s (more_units {ts = ts} {us = us} k h more) c =
      one_more _ r.in_next_unit (word_begins "and" ts us k) (word "and" refl s k then still s (unit_taken r os h (units_clear more c.1))) (units_taken r os s more c)

  part_taken : {A : Type 0} {P : A → Piece} {c n p m u : Rule} (r : TakesConditions P c n p m u) (os : List Open) → IsSettled os → {f : Formula A} {ts rest : List Token} → IsPart P f ts rest → IsClearOf after_part rest
      → Took (rule p ∷ []) os os ts rest
  part_taken r os s (one_unit h) c = by_rule _ _ r.in_part (still s (unit_taken r os h c.1) then no_more _ r.in_next_unit c.0 refl)
  part_taken r os s (units h more) c = by_rule _ _ r.in_part (still s (unit_taken r os h (units_clear more c.1)) then units_taken r os s more c)

  parts_taken : {A : Type 0} {P : A → Piece} {c n p m u : Rule} (r : TakesConditions P c n p m u) (os : List Open) → IsSettled os → {fs : Formulas A} {ts rest : List Token} → AreParts P fs ts rest → IsClearOf after_condition rest
      → Took (repeat n ∷ []) os os ts rest
  parts_taken r os s no_more_parts c = no_more _ r.in_next_part c.0 refl
  parts_taken r os s (more_parts {ts = ts} {us = us} k h more) c =
      one_more _ r.in_next_part (word_begins "or" ts us k) (word "or" refl s k then part_taken r os s h (parts_clear more c.1)) (parts_taken r os s more c)

  pub condition_taken : {A : Type 0} {P : A → Piece} {c n p m u : Rule} (r : TakesConditions P c n p m u) (os : List Open) → IsSettled os → {f : Formula A} {ts rest : List Token} → IsCondition P f ts rest → IsClearOf after_condition rest
      → Took (rule c ∷ []) os os ts rest
  condition_taken r os s (one_part h) c = by_rule _ _ r.in_condition (part_taken r os s h c.1 then no_more _ r.in_next_part c.0 refl)
  condition_taken r os s (parts h more) c = by_rule _ _ r.in_condition (part_taken r os s h (parts_clear more c.1) then parts_taken r os s more c)

-- guards
unit_at_name : (m : Mark) (os : List Open) (ts rest : List Token) → grammar.name m ts rest → IsClearOf after_unit rest → Took (rule unit ∷ []) os (without_negations os) ts rest
unit_at_name m os ts rest h c =
    let k = name_clear m ts rest h in given (λ due. unit_name due os ts k.1.1.0 k.0 k.1.0 k.1.1.1.0) (any_name m h)

guard_rules : TakesConditions grammar.name guard another_part part another_unit unit
guard_rules = record {
  in_condition = refl;
  in_next_part = refl;
  in_part = refl;
  in_next_unit = refl;
  at_not = unit_not;
  at_true = unit_true;
  at_false = unit_false;
  at_open = unit_open;
  at_atom = unit_at_name;
}

pub guard_taken : (f : Formula Mark) {os : List Open} {ts rest : List Token} → IsSettled os → IsCondition grammar.name f ts rest → IsClearOf after_condition rest → Took (rule guard ∷ []) os os ts rest
guard_taken f {os} s h c = condition_taken guard_rules os s h c
