-- Lists, guards and certificates' formulas are read off the tokens that follow their rules.
use Rattle.std.proofs.Common.{◌≡◌, ℕ, zero, suc, List, [], ◌∷◌, Option, Some, None, Bool, true, false, subst, inl, inr}
use Rattle.argos_tokens.specs.Tokens.{Token}
use Rattle.argos_grammar.specs.Forms.{Mark, Numeral, Formula, yes, no, atom, opposite, all, any, no_formulas, formula, in_state, inactive, same_code}
use Rattle.argos_grammar.specs.Grammar as grammar
use Rattle.argos_grammar.specs.Grammar.{Piece, ◌⨾◌, word, each, IsUnit, AreUnits, IsPart, AreParts, IsCondition, the_yes, the_no, the_atom, the_opposite, enclosed, no_more_units, more_units, one_unit, units, no_more_parts, more_parts, one_part, parts}
use Rattle.argos_grammar.specs.DueSymbols.{Rule, option}
use Rattle.argos_grammar.specs.DueSymbols as symbols
use Rattle.argos_first_faults.proofs.Derivations.{Times, times_up, One, Inside}

-- some tree with this piece
abbrev pub Found : {A : Type 0} → (A → Piece) → Piece
Found {A} P ts rest = (x : A) × P x ts rest

-- what a piece leads to is equal to the rest
pub led : (P : Piece) {ts us rest : List Token} → us ≡ rest → P ts us → P ts rest
led P {ts} e h = subst (λ x. P ts x) e h

each_found : {A : Type 0} (P : A → Piece) (k : ℕ) (ts rest : List Token) → Times k (Found P) ts rest → Found (each P) ts rest
each_found P zero ts rest h = ([], h)
each_found P (suc k) ts rest (a, x, more) = let r = each_found P k a rest more in (x.0 ∷ r.0, (a, x.1, r.1))

-- a repetition, where each of its contents has a tree
pub repeated : {A : Type 0} (P : A → Piece) (r : Rule) (n k : ℕ) (ts rest : List Token) → ((us vs : List Token) → Inside n r us vs → Found P us vs) → Times k (Inside n r) ts rest → Found (each P) ts rest
repeated P r n k ts rest f h = each_found P k ts rest (times_up (Inside n r) (Found P) f k ts rest h)

-- a list with one item at least
abbrev pub SomeFound : {A : Type 0} → (List A → Piece) → Piece
SomeFound {A} P ts rest = (x : A) × (xs : List A) × P (x ∷ xs) ts rest

pub optional_found : {A : Type 0} (P : List A → Piece) (r : Rule) (n : ℕ) (ts rest : List Token) → ((us vs : List Token) → Inside n r us vs → SomeFound P us vs) → One (Inside n) (option r) ts rest → Found (grammar.optional P) ts rest
optional_found P r n ts rest f (inl e) = ([], e)
optional_found P r n ts rest f (inr h) = let s = f ts rest h in (s.0 ∷ s.1, s.2)

-- names
abbrev next_name : Mark → Piece
next_name m = word "," ⨾ grammar.name m

another_name_tree : (n : ℕ) (ts rest : List Token) → Inside n symbols.another_name ts rest → Found next_name ts rest
another_name_tree zero ts rest h = absurd h
another_name_tree (suc n) ts rest (inl (a, comma, (b, m, e))) = (m.0, (a, comma, led (grammar.name m.0) e m.1))
another_name_tree (suc n) ts rest (inr h) = absurd h

pub names_tree : (n : ℕ) (ts rest : List Token) → Inside n symbols.names ts rest → SomeFound grammar.names ts rest
names_tree zero ts rest h = absurd h
names_tree (suc n) ts rest (inl (a, m, (b, more, e))) =
    let r = repeated next_name symbols.another_name n more.0 a b (another_name_tree n) more.1 in (m.0, r.0, (a, m.1, led (each next_name r.0) e r.1))
names_tree (suc n) ts rest (inr h) = absurd h

pub perhaps_names : (n : ℕ) (ts rest : List Token) → One (Inside n) (option symbols.names) ts rest → Found (grammar.optional grammar.names) ts rest
perhaps_names n ts rest h = optional_found grammar.names symbols.names n ts rest (names_tree n) h

-- what is emitted
abbrev emission : List Mark → Piece
emission ms = word "emit" ⨾ grammar.names ms

emission_tree : (n : ℕ) (ts rest : List Token) → Inside n symbols.emission ts rest → SomeFound emission ts rest
emission_tree zero ts rest h = absurd h
emission_tree (suc n) ts rest (inl (a, emit, (b, ms, e))) = let r = names_tree n a b ms in (r.0, r.1, (a, emit, led (grammar.names (r.0 ∷ r.1)) e r.2))
emission_tree (suc n) ts rest (inr h) = absurd h

pub emitted_tree : (n : ℕ) (ts rest : List Token) → One (Inside n) (option symbols.emission) ts rest → Found grammar.emitted ts rest
emitted_tree n ts rest h = optional_found emission symbols.emission n ts rest (emission_tree n) h

-- conditions over atoms with these pieces, where their units are found
abbrev next_unit : {A : Type 0} → (A → Piece) → Formula A → Piece
next_unit P f = word "and" ⨾ IsUnit P f

abbrev next_part : {A : Type 0} → (A → Piece) → Formula A → Piece
next_part P f = word "or" ⨾ IsPart P f

units_found : {A : Type 0} (P : A → Piece) (k : ℕ) (ts rest : List Token) → Times k (Found (next_unit P)) ts rest → Found (AreUnits P) ts rest
units_found P zero ts rest e = (no_formulas, led (AreUnits P no_formulas) e no_more_units)
units_found P (suc k) ts rest (a, x, more) = let r = units_found P k a rest more in (formula x.0 r.0, more_units x.1.1 x.1.2 r.1)

part_found : {A : Type 0} (P : A → Piece) (f : Formula A) (ts a rest : List Token) → IsUnit P f ts a → (k : ℕ) → Times k (Found (next_unit P)) a rest → Found (IsPart P) ts rest
part_found P f ts a rest u zero e = (f, one_unit (led (IsUnit P f) e u))
part_found P f ts a rest u (suc k) (b, x, more) = let r = units_found P k b rest more in (all (formula f (formula x.0 r.0)), units u (more_units x.1.1 x.1.2 r.1))

parts_found : {A : Type 0} (P : A → Piece) (k : ℕ) (ts rest : List Token) → Times k (Found (next_part P)) ts rest → Found (AreParts P) ts rest
parts_found P zero ts rest e = (no_formulas, led (AreParts P no_formulas) e no_more_parts)
parts_found P (suc k) ts rest (a, x, more) = let r = parts_found P k a rest more in (formula x.0 r.0, more_parts x.1.1 x.1.2 r.1)

condition_found : {A : Type 0} (P : A → Piece) (f : Formula A) (ts a rest : List Token) → IsPart P f ts a → (k : ℕ) → Times k (Found (next_part P)) a rest → Found (IsCondition P) ts rest
condition_found P f ts a rest u zero e = (f, one_part (led (IsPart P f) e u))
condition_found P f ts a rest u (suc k) (b, x, more) = let r = parts_found P k b rest more in (any (formula f (formula x.0 r.0)), parts u (more_parts x.1.1 x.1.2 r.1))

-- a part and more parts, a unit and more units, as two rules of a list have them
conditions : {A : Type 0} (P : A → Piece) (one more : Rule) (n k : ℕ) (ts a b rest : List Token) → ((us vs : List Token) → Inside n one us vs → Found (IsPart P) us vs) → ((us vs : List Token) → Inside n more us vs → Found (next_part P) us vs)
    → Inside n one ts a → Times k (Inside n more) a b → b ≡ rest → Found (IsCondition P) ts rest
conditions P one more n k ts a b rest f g h m e =
    let p = f ts a h in condition_found P p.0 ts a rest p.1 k (led (Times k (Found (next_part P))) e (times_up (Inside n more) (Found (next_part P)) g k a b m))

parts_of : {A : Type 0} (P : A → Piece) (one more : Rule) (n k : ℕ) (ts a b rest : List Token) → ((us vs : List Token) → Inside n one us vs → Found (IsUnit P) us vs) → ((us vs : List Token) → Inside n more us vs → Found (next_unit P) us vs)
    → Inside n one ts a → Times k (Inside n more) a b → b ≡ rest → Found (IsPart P) ts rest
parts_of P one more n k ts a b rest f g h m e =
    let p = f ts a h in part_found P p.0 ts a rest p.1 k (led (Times k (Found (next_unit P))) e (times_up (Inside n more) (Found (next_unit P)) g k a b m))

-- guards
mutual
  pub guard_tree : (n : ℕ) (ts rest : List Token) → Inside n symbols.guard ts rest → Found (IsCondition grammar.name) ts rest
  guard_tree zero ts rest h = absurd h
  guard_tree (suc n) ts rest (inl (a, p, (b, m, e))) =
      conditions grammar.name symbols.part symbols.another_part n m.0 ts a b rest (λ us vs h. guard_part n us vs h) (λ us vs h. guard_another_part n us vs h) p m.1 e
  guard_tree (suc n) ts rest (inr h) = absurd h

  guard_another_part : (n : ℕ) (ts rest : List Token) → Inside n symbols.another_part ts rest → Found (next_part grammar.name) ts rest
  guard_another_part zero ts rest h = absurd h
  guard_another_part (suc n) ts rest (inl (a, or_word, (b, p, e))) = let r = guard_part n a b p in (r.0, (a, or_word, led (IsPart grammar.name r.0) e r.1))
  guard_another_part (suc n) ts rest (inr h) = absurd h

  guard_part : (n : ℕ) (ts rest : List Token) → Inside n symbols.part ts rest → Found (IsPart grammar.name) ts rest
  guard_part zero ts rest h = absurd h
  guard_part (suc n) ts rest (inl (a, u, (b, m, e))) =
      parts_of grammar.name symbols.unit symbols.another_unit n m.0 ts a b rest (λ us vs h. guard_unit n us vs h) (λ us vs h. guard_another_unit n us vs h) u m.1 e
  guard_part (suc n) ts rest (inr h) = absurd h

  guard_another_unit : (n : ℕ) (ts rest : List Token) → Inside n symbols.another_unit ts rest → Found (next_unit grammar.name) ts rest
  guard_another_unit zero ts rest h = absurd h
  guard_another_unit (suc n) ts rest (inl (a, and_word, (b, u, e))) = let r = guard_unit n a b u in (r.0, (a, and_word, led (IsUnit grammar.name r.0) e r.1))
  guard_another_unit (suc n) ts rest (inr h) = absurd h

  guard_unit : (n : ℕ) (ts rest : List Token) → Inside n symbols.unit ts rest → Found (IsUnit grammar.name) ts rest
  guard_unit zero ts rest h = absurd h
  guard_unit (suc n) ts rest (inl (a, not_word, (b, u, e))) = let r = guard_unit n a b u in (opposite r.0, the_opposite not_word (led (IsUnit grammar.name r.0) e r.1))
  guard_unit (suc n) ts rest (inr (inl (a, true_word, e))) = (yes, the_yes (led (word "true") e true_word))
  guard_unit (suc n) ts rest (inr (inr (inl (a, false_word, e)))) = (no, the_no (led (word "false") e false_word))
  guard_unit (suc n) ts rest (inr (inr (inr (inl (a, m, e))))) = (atom m.0, the_atom (led (grammar.name m.0) e m.1))
  guard_unit (suc n) ts rest (inr (inr (inr (inr (inl (a, open_bracket, (b, g, (c, close, e)))))))) = let r = guard_tree n a b g in (r.0, enclosed open_bracket r.1 (led (word ")") e close))
  guard_unit (suc n) ts rest (inr (inr (inr (inr (inr h))))) = absurd h

-- what a certificate says of registers
side_tree : (n : ℕ) (ts rest : List Token) → Inside n symbols.side ts rest → Found grammar.side ts rest
side_tree zero ts rest h = absurd h
side_tree (suc n) ts rest (inl (a, left, e)) = (true, led (word "lhs") e left)
side_tree (suc n) ts rest (inr (inl (a, right, e))) = (false, led (word "rhs") e right)
side_tree (suc n) ts rest (inr (inr h)) = absurd h

elapsed_tree : (n : ℕ) (ts rest : List Token) → One (Inside n) (option symbols.elapsed) ts rest → Found grammar.elapsed ts rest
elapsed_tree n ts rest (inl e) = (None, e)
elapsed_tree zero ts rest (inr h) = absurd h
elapsed_tree (suc n) ts rest (inr (inl (a, elapsed_word, (b, x, e)))) = (Some x.0, (a, elapsed_word, led (grammar.numeral x.0) e x.1))
elapsed_tree (suc n) ts rest (inr (inr h)) = absurd h

claim_tree : (n : ℕ) (ts rest : List Token) → Inside n symbols.claim ts rest → Found grammar.claim ts rest
claim_tree zero ts rest h = absurd h
claim_tree (suc n) ts rest (inl (a, in_word, (b, m, (c, x, e)))) = let r = elapsed_tree n b c x in (Some (m.0, r.0), (a, in_word, (b, m.1, led (grammar.elapsed r.0) e r.1)))
claim_tree (suc n) ts rest (inr (inl (a, inactive_word, e))) = (None, led (word "inactive") e inactive_word)
claim_tree (suc n) ts rest (inr (inr h)) = absurd h

claimed : (left : Bool) (x : Numeral) (c : Option (Mark × Option Numeral)) (ts rest : List Token) → (grammar.side left ⨾ grammar.numeral x ⨾ grammar.claim c) ts rest → Found grammar.one_atom ts rest
claimed left x None ts rest h = (inactive left x, h)
claimed left x (Some c) ts rest h = (in_state left x c.0 c.1, h)

atom_tree : (n : ℕ) (ts rest : List Token) → Inside n symbols.atom ts rest → Found grammar.one_atom ts rest
atom_tree zero ts rest h = absurd h
atom_tree (suc n) ts rest (inl (a, s, (b, x, (c, k, e)))) =
    let l = side_tree n ts a s in let r = claim_tree n b c k in claimed l.0 x.0 r.0 ts rest (a, l.1, (b, x.1, led (grammar.claim r.0) e r.1))
atom_tree (suc n) ts rest (inr (inl (a, same, (b, x, (c, y, e))))) = (same_code x.0 y.0, (a, same, (b, x.1, led (grammar.numeral y.0) e y.1)))
atom_tree (suc n) ts rest (inr (inr h)) = absurd h

-- and its formula
mutual
  pub formula_tree : (n : ℕ) (ts rest : List Token) → Inside n symbols.formula ts rest → Found (IsCondition grammar.one_atom) ts rest
  formula_tree zero ts rest h = absurd h
  formula_tree (suc n) ts rest (inl (a, p, (b, m, e))) =
      conditions grammar.one_atom symbols.conjunct symbols.another_conjunct n m.0 ts a b rest (λ us vs h. conjunct_tree n us vs h) (λ us vs h. another_conjunct_tree n us vs h) p m.1 e
  formula_tree (suc n) ts rest (inr h) = absurd h

  another_conjunct_tree : (n : ℕ) (ts rest : List Token) → Inside n symbols.another_conjunct ts rest → Found (next_part grammar.one_atom) ts rest
  another_conjunct_tree zero ts rest h = absurd h
  another_conjunct_tree (suc n) ts rest (inl (a, or_word, (b, p, e))) = let r = conjunct_tree n a b p in (r.0, (a, or_word, led (IsPart grammar.one_atom r.0) e r.1))
  another_conjunct_tree (suc n) ts rest (inr h) = absurd h

  conjunct_tree : (n : ℕ) (ts rest : List Token) → Inside n symbols.conjunct ts rest → Found (IsPart grammar.one_atom) ts rest
  conjunct_tree zero ts rest h = absurd h
  conjunct_tree (suc n) ts rest (inl (a, u, (b, m, e))) =
      parts_of grammar.one_atom symbols.factor symbols.another_factor n m.0 ts a b rest (λ us vs h. factor_tree n us vs h) (λ us vs h. another_factor_tree n us vs h) u m.1 e
  conjunct_tree (suc n) ts rest (inr h) = absurd h

  another_factor_tree : (n : ℕ) (ts rest : List Token) → Inside n symbols.another_factor ts rest → Found (next_unit grammar.one_atom) ts rest
  another_factor_tree zero ts rest h = absurd h
  another_factor_tree (suc n) ts rest (inl (a, and_word, (b, u, e))) = let r = factor_tree n a b u in (r.0, (a, and_word, led (IsUnit grammar.one_atom r.0) e r.1))
  another_factor_tree (suc n) ts rest (inr h) = absurd h

  factor_tree : (n : ℕ) (ts rest : List Token) → Inside n symbols.factor ts rest → Found (IsUnit grammar.one_atom) ts rest
  factor_tree zero ts rest h = absurd h
  factor_tree (suc n) ts rest (inl (a, not_word, (b, u, e))) = let r = factor_tree n a b u in (opposite r.0, the_opposite not_word (led (IsUnit grammar.one_atom r.0) e r.1))
  factor_tree (suc n) ts rest (inr (inl (a, true_word, e))) = (yes, the_yes (led (word "true") e true_word))
  factor_tree (suc n) ts rest (inr (inr (inl (a, false_word, e)))) = (no, the_no (led (word "false") e false_word))
  factor_tree (suc n) ts rest (inr (inr (inr (inl (a, x, e))))) = let r = atom_tree n ts a x in (atom r.0, the_atom (led (grammar.one_atom r.0) e r.1))
  factor_tree (suc n) ts rest (inr (inr (inr (inr (inl (a, open_bracket, (b, g, (c, close, e)))))))) = let r = formula_tree n a b g in (r.0, enclosed open_bracket r.1 (led (word ")") e close))
  factor_tree (suc n) ts rest (inr (inr (inr (inr (inr h))))) = absurd h
