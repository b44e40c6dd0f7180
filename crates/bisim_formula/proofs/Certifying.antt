-- The fault that is answered is the first, and a formula without faults names what exists.
use Rattle.std.proofs.Common.{◌≡◌, ℕ, zero, suc, ◌<◌, ◌≤◌, List, [], ◌∷◌, ◌++◌, Option, Some, None, Bool, true, false, cond, nat_lt, map, get_or, slice_get, refl, sym, ap, subst, ◌∙◌, ◌⊎◌, inl, inr, arith}
use Rattle.std.proofs.lemmas.Bool.Decides.{nat_tests}
use Rattle.std.proofs.lemmas.Option.{slice_get_within, slice_get-get_or}
use Rattle.argos_base.specs.Names.{Spelled}
use Rattle.argos_base.proofs.Bools.{true_or_false}
use Rattle.argos_grammar.specs.Forms.{Mark, Numeral, Atom, CertForm}
use Rattle.argos_grammar.specs.Forms as text
use Rattle.bisim_formula.specs.Certificates.{Known, Registers, side, register_at, state_number, CertFault, number, fault_at, elapsed_faults, state_faults, in_register, register_faults, atom_faults, formula_faults, formulas_faults, number_in, state_atom, atom_formula, resolved, all_resolved, lesser, least_after, first_fault, IsRegisterOf, NamesExist, AllNamesExist, IsFirstFault}
use Rattle.bisim_formula.specs.Formulas.{Which, of_side}
use Rattle.std.specs.Prelude.{bytes_eq, unwrap_or}
use Rattle.std.proofs.lemmas.List.Quantifiers.{position-Some}

-- of the one so far and one more
pub record IsLesser (o : Option CertFault) (f x : CertFault) : Type 0 where
  pub there : (o ≡ Some x) ⊎ (f ≡ x)
  pub below : fault_at x ≤ fault_at f
  pub below_old : (y : CertFault) → o ≡ Some y → fault_at x ≤ fault_at y

lesser_is : (o : Option CertFault) (f : CertFault) → IsLesser o f (lesser o f)
lesser_is None f = record { there = inr refl; below = omega arith; below_old = λ y e. cc }
lesser_is (Some g) f = elim (true_or_false (nat_lt (fault_at f) (fault_at g))) [
  | inl t ↦
      let e : lesser (Some g) f ≡ f = ap (λ (b : Bool). cond b f g) t in
      let h : fault_at f < fault_at g = grind (arith, nat_tests) in
      let p : fault_at (lesser (Some g) f) ≡ fault_at f = ap fault_at e in
      record { there = inr (sym e); below = omega arith; below_old = λ y s. let q : g ≡ y = cc in let r : fault_at g ≡ fault_at y = ap fault_at q in omega arith }
  | inr t ↦
      let e : lesser (Some g) f ≡ g = ap (λ (b : Bool). cond b f g) t in
      let h : fault_at g ≤ fault_at f = grind (arith, nat_tests) in
      let p : fault_at (lesser (Some g) f) ≡ fault_at g = ap fault_at e in
      record { there = inl (ap (λ (x : CertFault). let o : Option CertFault = Some x in o) (sym e)); below = omega arith; below_old = λ y s. let q : g ≡ y = cc in let r : fault_at g ≡ fault_at y = ap fault_at q in omega arith }
]

-- the one that is left after some
record IsLeast (o : Option CertFault) (fs : List CertFault) (x : CertFault) : Type 0 where
  there : (o ≡ Some x) ⊎ ((k : ℕ) × (slice_get fs k ≡ Some x))
  below : (k : ℕ) (y : CertFault) → slice_get fs k ≡ Some y → fault_at x ≤ fault_at y
  below_old : (y : CertFault) → o ≡ Some y → fault_at x ≤ fault_at y

least_is : (fs : List CertFault) (o : Option CertFault) (x : CertFault) → least_after o fs ≡ Some x → IsLeast o fs x
least_is [] o x h = record { there = inl h; below = λ k y e. cc; below_old = λ y e. let q : y ≡ x = cc in let r : fault_at y ≡ fault_at x = ap fault_at q in omega arith }
least_is (f ∷ fs) o x h =
    let one : IsLesser o f (lesser o f) = lesser_is o f in
    let rest : IsLeast (Some (lesser o f)) fs x = least_is fs (Some (lesser o f)) x h in
    let past : fault_at x ≤ fault_at (lesser o f) = rest.below_old (lesser o f) refl in
    record { there = where_it_is o f fs x one rest; below = below_all o f fs x one rest past; below_old = λ y e. let q : fault_at (lesser o f) ≤ fault_at y = one.below_old y e in omega arith }
  where
    where_it_is : (o : Option CertFault) (f : CertFault) (fs : List CertFault) (x : CertFault) → IsLesser o f (lesser o f) → IsLeast (Some (lesser o f)) fs x → (o ≡ Some x) ⊎ ((k : ℕ) × (slice_get (f ∷ fs) k ≡ Some x))
    where_it_is o f fs x one rest = elim rest.there [
      | inr t ↦ inr (suc t.0, t.1)
      | inl t ↦
          let same : lesser o f ≡ x = cc in
          elim one.there [
            | inl a ↦ inl (a ∙ t)
            | inr a ↦ inr (0, ap (λ (y : CertFault). let p : Option CertFault = Some y in p) (a ∙ same))
          ]
    ]

    below_all : (o : Option CertFault) (f : CertFault) (fs : List CertFault) (x : CertFault) → IsLesser o f (lesser o f) → IsLeast (Some (lesser o f)) fs x → fault_at x ≤ fault_at (lesser o f) → (k : ℕ) (y : CertFault) → slice_get (f ∷ fs) k ≡ Some y → fault_at x ≤ fault_at y
    below_all o f fs x one rest past zero y e = let q : f ≡ y = cc in let r : fault_at f ≡ fault_at y = ap fault_at q in omega (arith, one.below)
    below_all o f fs x one rest past (suc k) y e = rest.below k y e

pub first_is_first : (fs : List CertFault) (f : CertFault) → first_fault fs ≡ Some f → IsFirstFault fs f
first_is_first fs f h =
    let l : IsLeast None fs f = least_is fs None f h in
    elim l.there [
      | inl e ↦ cc (e)
      | inr t ↦ record { place = t.0; at = t.1; least = l.below }
    ]

some_left : (fs : List CertFault) (g : CertFault) → least_after (Some g) fs ≡ None → ⊥
some_left [] g h = cc
some_left (f ∷ fs) g h = some_left fs (lesser (Some g) f) h

pub no_first : (fs : List CertFault) → first_fault fs ≡ None → fs ≡ []
no_first [] h = refl
no_first (f ∷ fs) h = absurd (some_left fs f h)

-- what comes in two parts
pub least_after-append : (xs ys : List CertFault) (o : Option CertFault) → least_after o (xs ++ ys) ≡ least_after (least_after o xs) ys
least_after-append [] ys o = refl
least_after-append (x ∷ xs) ys o = least_after-append xs ys (Some (lesser o x))

-- two lists that are empty together
none_left : {A : Type 0} (xs ys : List A) → xs ++ ys ≡ [] → xs ≡ []
none_left [] ys h = refl
none_left (x ∷ xs) ys h = cc

none_right : {A : Type 0} (xs ys : List A) → xs ++ ys ≡ [] → ys ≡ []
none_right [] ys h = h
none_right (x ∷ xs) ys h = cc

kept : (b : Bool) (x : CertFault) (xs : List CertFault) → cond b [] (x ∷ xs) ≡ [] → b ≡ true
kept true x xs h = refl
kept false x xs h = cc

some_is : (A : Type 0) (o : Option A) → (o ≡ None) ⊎ ((x : A) × (o ≡ Some x))
some_is A None = inl refl
some_is A (Some x) = inr (x, refl)

-- the state of this name is one of the register
record Named (states : List Known) (name : Spelled) : Type 0 where
  place : ℕ
  rules : Known
  found : state_number states name ≡ Some place
  at : slice_get states place ≡ Some rules

map_back : (states : List Known) (k : ℕ) (name : Spelled) → slice_get (map (λ s. s.name) states) k ≡ Some name → (s : Known) × (slice_get states k ≡ Some s)
map_back [] k name h = cc
map_back (s ∷ states) zero name h = (s, refl)
map_back (s ∷ states) (suc k) name h = map_back states k name h

named : (states : List Known) (name : Spelled) (q : ℕ) → state_number states name ≡ Some q → Named states name
named states name q h =
    let names = map (λ s. s.name) states in
    let t = map_back states q (get_or names q []) (slice_get-get_or names q [] (position-Some (bytes_eq name) names q [] h).0) in
    record { place = q; rules = t.0; found = h; at = t.1 }

state_exists : (P Q : Registers) (w : Which) (r : ℕ) (states : List Known) (o : Option ℕ) (m : Mark) (e : Option Numeral) → slice_get (of_side P Q w) r ≡ Some states → state_number states m.name ≡ o → state_faults states o m e ≡ [] → NamesExist P Q (state_atom w r (unwrap_or o 0) e)
state_exists P Q w r states None m e at is h = cc
state_exists P Q w r states (Some q) m None at is h =
    let n : Named states m.name = named states m.name q is in
    let same : n.place ≡ q = cc (n.found, is) in
    (n.rules, record { states = states; register = at; state = subst (λ (k : ℕ). slice_get states k ≡ Some n.rules) same n.at })
state_exists P Q w r states (Some q) m (Some e) at is h =
    let n : Named states m.name = named states m.name q is in
    let same : n.place ≡ q = cc (n.found, is) in
    let there : slice_get states q ≡ Some n.rules = subst (λ (k : ℕ). slice_get states k ≡ Some n.rules) same n.at in
    let none : elapsed_faults (Some n.rules) (Some e) ≡ [] = subst (λ (o : Option Known). elapsed_faults o (Some e) ≡ []) there h in
    (n.rules, record { states = states; register = at; state = there }, kept _ (number e) [] none)

register_exists : (P Q : Registers) (on_left : Bool) (r : Numeral) (o : Option (List Known)) → register_at P Q on_left r.number ≡ o → register_faults o r ≡ [] → IsRegisterOf P Q (side on_left) r.number
register_exists P Q on_left r None is h = cc
register_exists P Q on_left r (Some states) is h = slice_get_within (of_side P Q (side on_left)) r.number states is

in_state_exists : (P Q : Registers) (on_left : Bool) (r : Numeral) (m : Mark) (e : Option Numeral) (o : Option (List Known)) → register_at P Q on_left r.number ≡ o → in_register o r m e ≡ [] → NamesExist P Q (state_atom (side on_left) r.number (number_in o m.name) e)
in_state_exists P Q on_left r m e None is h = cc
in_state_exists P Q on_left r m e (Some states) is h = state_exists P Q (side on_left) r.number states (state_number states m.name) m e is refl h

atom_exists : (P Q : Registers) (a : Atom) → atom_faults P Q a ≡ [] → NamesExist P Q (atom_formula P Q a)
atom_exists P Q (text.in_state on_left r m e) h = in_state_exists P Q on_left r m e (register_at P Q on_left r.number) refl h
atom_exists P Q (text.inactive on_left r) h = register_exists P Q on_left r (register_at P Q on_left r.number) refl h
atom_exists P Q (text.same_code l r) h = (register_exists P Q true l (register_at P Q true l.number) refl (none_left (register_faults (register_at P Q true l.number) l) _ h), register_exists P Q false r (register_at P Q false r.number) refl (none_right (register_faults (register_at P Q true l.number) l) _ h))

mutual
  pub names_exist : (P Q : Registers) (f : text.Formula Atom) → formula_faults P Q f ≡ [] → NamesExist P Q (resolved P Q f)
  names_exist P Q text.yes h = tt
  names_exist P Q text.no h = tt
  names_exist P Q (text.atom a) h = atom_exists P Q a h
  names_exist P Q (text.opposite f) h = names_exist P Q f h
  names_exist P Q (text.all fs) h = all_names_exist P Q fs h
  names_exist P Q (text.any fs) h = all_names_exist P Q fs h

  all_names_exist : (P Q : Registers) (fs : text.Formulas Atom) → formulas_faults P Q fs ≡ [] → AllNamesExist P Q (all_resolved P Q fs)
  all_names_exist P Q text.no_formulas h = tt
  all_names_exist P Q (text.formula f fs) h = (names_exist P Q f (none_left (formula_faults P Q f) _ h), all_names_exist P Q fs (none_right (formula_faults P Q f) _ h))
