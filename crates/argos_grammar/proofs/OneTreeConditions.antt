-- A condition has at most one tree where the same tokens stand, if its atoms have.
use Rattle.std.proofs.Common.{◌≡◌, ℕ, List, [], ◌∷◌, Bool, true, false, refl, sym, ap, ap₂, ◌∙◌, subst}
use Rattle.std.specs.Prelude.{bytes_eq, codes}
use Prim.Native.String.{String}
use Rattle.argos_base.specs.Spelling.{is_one_of}
use Rattle.argos_tokens.specs.Tokens.{Token}
use Rattle.argos_grammar.specs.Forms.{Formula, yes, no, atom, opposite, all, any, Formulas, no_formulas, formula}
use Rattle.argos_grammar.specs.Runs.{begins_with}
use Rattle.argos_grammar.specs.Grammar.{Piece, ◌⨾◌, nothing, word, IsUnit, AreUnits, IsPart, AreParts, IsCondition, the_yes, the_no, the_atom, the_opposite, enclosed, no_more_units, more_units, one_unit, units, no_more_parts, more_parts, one_part, parts}
use Rattle.argos_grammar.proofs.FirstWords.{IsClearOf, word_begins, word_clear, two_fronts, word_same}
use Rattle.argos_grammar.proofs.PieceFronts.{unit_words}
use Rattle.argos_grammar.proofs.OneTree.{One}

-- An atom has one tree, and begins with none of the words that begin other units. No word of a condition is one of the stops.
pub record Atoms {A : Type 0} (stops : List (List ℕ)) (P : A → Piece) : Type 0 where
  pub one : (a : A) → One stops P a
  pub front : (a : A) (ts r : List Token) → P a ts r → IsClearOf unit_words ts
  pub no_and : is_one_of stops (codes "and") ≡ false
  pub no_or : is_one_of stops (codes "or") ≡ false
  pub no_close : is_one_of stops (codes ")") ≡ false

-- This derivation has the tree and the rest of each other where the same tokens stand and none of the stops follows.
pub record Alone {A : Type 0} (stops : List (List ℕ)) (P : A → Piece) (x : A) (ts r : List Token) : Type 0 where
  pub same : (y : A) (us s : List Token) → ts ≡ us → P y us s → IsClearOf stops r → IsClearOf stops s → (x ≡ y) × (r ≡ s)

alone_as : {A : Type 0} {stops : List (List ℕ)} {P Q : A → Piece} {x : A} {ts r : List Token} → Alone stops P x ts r → ((y : A) (us s : List Token) → Q y us s → P y us s) → Alone stops Q x ts r
alone_as one convert = record { same = λ y us s e k c d. one.same y us s e (convert y us s k) c d }

-- what begins a unit
data Start : Type 0 where
  says_yes says_no says_not opens other : Start

abbrev start_by : Bool → Bool → Bool → Bool → Start
start_by true b c d = says_yes
start_by false true c d = says_no
start_by false false true d = says_not
start_by false false false true = opens
start_by false false false false = other

abbrev start_of : List ℕ → Start
start_of t = start_by (bytes_eq t (codes "true")) (bytes_eq t (codes "false")) (bytes_eq t (codes "not")) (bytes_eq t (codes "("))

abbrev start : List Token → Start
start [] = other
start (t ∷ ts) = start_of t.text

start_word : (w : String) (ts r : List Token) → word w ts r → start ts ≡ start_of (codes w)
start_word w [] r h = absurd h
start_word w (t ∷ ts) r h = ap start_of h.0

start_other : (ts : List Token) → IsClearOf unit_words ts → start ts ≡ other
start_other [] c = refl
start_other (t ∷ ts) c =
    ap (λ x. start_by x (bytes_eq t.text (codes "false")) (bytes_eq t.text (codes "not")) (bytes_eq t.text (codes "("))) c.0
    ∙ ap (λ x. start_by false x (bytes_eq t.text (codes "not")) (bytes_eq t.text (codes "("))) c.1.0
    ∙ ap (λ x. start_by false false x (bytes_eq t.text (codes "("))) c.1.1.0
    ∙ ap (λ x. start_by false false false x) c.1.1.1.0

-- what a unit is that begins so
abbrev UnitAt : {A : Type 0} → (A → Piece) → Start → Formula A → Piece
UnitAt P says_yes f ts r = (f ≡ yes) × word "true" ts r
UnitAt P says_no f ts r = (f ≡ no) × word "false" ts r
UnitAt {A} P says_not f ts r = (g : Formula A) × (us : List Token) × (f ≡ opposite g) × word "not" ts us × IsUnit P g us r
UnitAt P opens f ts r = (us : List Token) × (vs : List Token) × word "(" ts us × IsCondition P f us vs × word ")" vs r
UnitAt {A} P other f ts r = (a : A) × (f ≡ atom a) × P a ts r

module _ {A : Type 0} {stops : List (List ℕ)} {P : A → Piece} (atoms : Atoms stops P) where
  unit_at : {f : Formula A} {ts r : List Token} → IsUnit P f ts r → UnitAt P (start ts) f ts r
  unit_at (the_yes {ts = ts} {rest = r} w) = subst (λ k. UnitAt P k yes ts r) (sym (start_word "true" ts r w)) (refl, w)
  unit_at (the_no {ts = ts} {rest = r} w) = subst (λ k. UnitAt P k no ts r) (sym (start_word "false" ts r w)) (refl, w)
  unit_at (the_atom {a = a} {ts = ts} {rest = r} h) = subst (λ k. UnitAt P k (atom a) ts r) (sym (start_other ts (atoms.front a ts r h))) (a, refl, h)
  unit_at (the_opposite {f = f} {ts = ts} {us = us} {rest = r} w u) = subst (λ k. UnitAt P k (opposite f) ts r) (sym (start_word "not" ts us w)) (f, us, refl, w, u)
  unit_at (enclosed {f = f} {ts = ts} {us = us} {vs = vs} {rest = r} w c v) = subst (λ k. UnitAt P k f ts r) (sym (start_word "(" ts us w)) (us, vs, w, c, v)

  -- a unit that begins as this one does
  unit_like : (k : Start) (ts : List Token) → start ts ≡ k → (g : Formula A) (us s : List Token) → ts ≡ us → IsUnit P g us s → UnitAt P k g us s
  unit_like k ts b g us s e u = subst (λ x. UnitAt P x g us s) (ap start (sym e) ∙ b) (unit_at u)

  yes_alone : (ts r : List Token) → word "true" ts r → Alone stops (IsUnit P) yes ts r
  yes_alone ts r w = record {
    same = λ g us s e k c d. let v = unit_like says_yes ts (start_word "true" ts r w) g us s e k in (sym v.0, word_same "true" ts us r s e w v.1);
  }

  no_alone : (ts r : List Token) → word "false" ts r → Alone stops (IsUnit P) no ts r
  no_alone ts r w = record {
    same = λ g us s e k c d. let v = unit_like says_no ts (start_word "false" ts r w) g us s e k in (sym v.0, word_same "false" ts us r s e w v.1);
  }

  atom_alone : (a : A) (ts r : List Token) → P a ts r → Alone stops (IsUnit P) (atom a) ts r
  atom_alone a ts r h = record {
    same = λ g us s e k c d.
        let v = unit_like other ts (start_other ts (atoms.front a ts r h)) g us s e k in
        let p = (atoms.one a).same v.0 ts us r s e h v.2 c d in
        (ap (λ x. atom x) p.0 ∙ sym v.1, p.1);
  }

  opposite_alone : (f : Formula A) (ts vs r : List Token) → word "not" ts vs → Alone stops (IsUnit P) f vs r → Alone stops (IsUnit P) (opposite f) ts r
  opposite_alone f ts vs r w one = record {
    same = λ g us s e k c d.
        let v = unit_like says_not ts (start_word "not" ts vs w) g us s e k in
        let p = one.same v.0 v.1 s (word_same "not" ts us vs v.1 e w v.3) v.4 c d in
        (ap (λ x. opposite x) p.0 ∙ sym v.2, p.1);
  }

  enclosed_alone : (f : Formula A) (ts vs ws r : List Token) → word "(" ts vs → Alone (codes "or" ∷ codes "and" ∷ stops) (IsCondition P) f vs ws → word ")" ws r → Alone stops (IsUnit P) f ts r
  enclosed_alone f ts vs ws r w one w' = record {
    same = λ g us s e k c d.
        let v = unit_like opens ts (start_word "(" ts vs w) g us s e k in
        let p = one.same g v.0 v.1 (word_same "(" ts us vs v.0 e w v.2) v.3 (word_clear (codes "or" ∷ codes "and" ∷ stops) ")" ws r atoms.no_close w')
        (word_clear (codes "or" ∷ codes "and" ∷ stops) ")" v.1 s atoms.no_close v.4) in
        (p.0, word_same ")" ws v.1 r s p.1 w' v.4);
  }

-- the further members of a chain, each with this word before it
abbrev chain : {A : Type 0} → String → (Formula A → Piece) → Formulas A → Piece
chain w Q no_formulas = nothing
chain w Q (formula f fs) = word w ⨾ Q f ⨾ chain w Q fs

-- a chain, whose members are joined so
abbrev chained : {A : Type 0} → String → (Formula A → Piece) → (Formula A → Formulas A → Formula A) → Formula A → Piece
chained {A} w Q join f ts r = (g : Formula A) × (gs : Formulas A) × (us : List Token) × (f ≡ join g gs) × Q g ts us × chain w Q gs us r

chain_clear : {A : Type 0} (w : String) (stops : List (List ℕ)) (Q : Formula A → Piece) → is_one_of stops (codes w) ≡ false → (fs : Formulas A) (ts r : List Token) → chain w Q fs ts r → IsClearOf stops r → IsClearOf stops ts
chain_clear w stops Q apart no_formulas ts r h c = subst (IsClearOf stops) (sym h) c
chain_clear w stops Q apart (formula f fs) ts r h c = word_clear stops w ts h.0 apart h.1

end_same : {A : Type 0} (w : String) (Q : Formula A → Piece) (gs : Formulas A) (ts us s : List Token) → ts ≡ us → chain w Q gs us s → begins_with (codes w) ts ≡ false → (no_formulas ≡ gs) × (ts ≡ s)
end_same w Q no_formulas ts us s e k c = (refl, e ∙ k)
end_same w Q (formula g gs) ts us s e k c = absurd (two_fronts (codes w) us ts (sym e) (word_begins w us k.0 k.1) c)

chain_end : {A : Type 0} (w : String) (stops : List (List ℕ)) (Q : Formula A → Piece) (ts : List Token) → Alone (codes w ∷ stops) (chain w Q) no_formulas ts ts
chain_end w stops Q ts = record { same = λ gs us s e k c d. end_same w Q gs ts us s e k c.0 }

more_same : {A : Type 0} (w : String) (stops : List (List ℕ)) (Q : Formula A → Piece) → is_one_of stops (codes w) ≡ false → (f : Formula A) (fs : Formulas A) (ts vs ws r : List Token)
    → word w ts vs → Alone stops Q f vs ws → chain w Q fs ws r → Alone (codes w ∷ stops) (chain w Q) fs ws r
    → (gs : Formulas A) (us s : List Token) → ts ≡ us → chain w Q gs us s → IsClearOf (codes w ∷ stops) r → IsClearOf (codes w ∷ stops) s → (formula f fs ≡ gs) × (r ≡ s)
more_same w stops Q apart f fs ts vs ws r h one more others no_formulas us s e k c d = absurd (two_fronts (codes w) ts s (e ∙ k) (word_begins w ts vs h) d.0)
more_same w stops Q apart f fs ts vs ws r h one more others (formula g gs) us s e k c d =
    let p = one.same g k.0 k.2.0 (word_same w ts us vs k.0 e h k.1) k.2.1 (chain_clear w stops Q apart fs ws r more c.1) (chain_clear w stops Q apart gs k.2.0 s k.2.2 d.1) in
    let q = others.same gs k.2.0 s p.1 k.2.2 c d in
    (ap₂ (λ x y. formula x y) p.0 q.0, q.1)

chain_more : {A : Type 0} (w : String) (stops : List (List ℕ)) (Q : Formula A → Piece) → is_one_of stops (codes w) ≡ false → (f : Formula A) (fs : Formulas A) (ts vs ws r : List Token)
    → word w ts vs → Alone stops Q f vs ws → chain w Q fs ws r → Alone (codes w ∷ stops) (chain w Q) fs ws r → Alone (codes w ∷ stops) (chain w Q) (formula f fs) ts r
chain_more w stops Q apart f fs ts vs ws r h one more others = record { same = λ gs us s e k c d. more_same w stops Q apart f fs ts vs ws r h one more others gs us s e k c d }

chained_alone : {A : Type 0} (w : String) (stops : List (List ℕ)) (Q : Formula A → Piece) (join : Formula A → Formulas A → Formula A) → is_one_of stops (codes w) ≡ false
    → (f : Formula A) (fs : Formulas A) (ts ws r : List Token) → Alone stops Q f ts ws → chain w Q fs ws r → Alone (codes w ∷ stops) (chain w Q) fs ws r
    → Alone (codes w ∷ stops) (chained w Q join) (join f fs) ts r
chained_alone w stops Q join apart f fs ts ws r one more others = record {
  same = λ g us s e k c d.
      let p = one.same k.0 us k.2 e k.4 (chain_clear w stops Q apart fs ws r more c.1) (chain_clear w stops Q apart k.1 k.2 s k.5 d.1) in
      let q = others.same k.1 k.2 s p.1 k.5 c d in
      (ap₂ join p.0 q.0 ∙ sym k.3, q.1);
}

-- units and parts are chains
abbrev all_of : {A : Type 0} → Formula A → Formulas A → Formula A
all_of f no_formulas = f
all_of f (formula g gs) = all (formula f (formula g gs))

abbrev any_of : {A : Type 0} → Formula A → Formulas A → Formula A
any_of f no_formulas = f
any_of f (formula g gs) = any (formula f (formula g gs))

units_chain : {A : Type 0} {P : A → Piece} {fs : Formulas A} {ts r : List Token} → AreUnits P fs ts r → chain "and" (IsUnit P) fs ts r
units_chain no_more_units = refl
units_chain (more_units {us = us} {vs = vs} w u more) = (us, w, (vs, u, units_chain more))

parts_chain : {A : Type 0} {P : A → Piece} {fs : Formulas A} {ts r : List Token} → AreParts P fs ts r → chain "or" (IsPart P) fs ts r
parts_chain no_more_parts = refl
parts_chain (more_parts {us = us} {vs = vs} w p more) = (us, w, (vs, p, parts_chain more))

part_chained : {A : Type 0} {P : A → Piece} (f : Formula A) (ts r : List Token) → IsPart P f ts r → chained "and" (IsUnit P) all_of f ts r
part_chained f ts r (one_unit u) = (f, no_formulas, r, refl, u, refl)
part_chained _ ts r (units {f = f} {g = g} {fs = fs} {us = us} u more) = (f, formula g fs, us, refl, u, units_chain more)

condition_chained : {A : Type 0} {P : A → Piece} (f : Formula A) (ts r : List Token) → IsCondition P f ts r → chained "or" (IsPart P) any_of f ts r
condition_chained f ts r (one_part p) = (f, no_formulas, r, refl, p, refl)
condition_chained _ ts r (parts {f = f} {g = g} {fs = fs} {us = us} p more) = (f, formula g fs, us, refl, p, parts_chain more)

-- by induction on the first of two derivations
mutual
  unit_alone : {A : Type 0} {stops : List (List ℕ)} {P : A → Piece} (atoms : Atoms stops P) {f : Formula A} {ts r : List Token} → IsUnit P f ts r → Alone stops (IsUnit P) f ts r
  unit_alone atoms (the_yes {ts = ts} {rest = r} w) = yes_alone atoms ts r w
  unit_alone atoms (the_no {ts = ts} {rest = r} w) = no_alone atoms ts r w
  unit_alone atoms (the_atom {a = a} {ts = ts} {rest = r} h) = atom_alone atoms a ts r h
  unit_alone atoms (the_opposite {f = f} {ts = ts} {us = us} {rest = r} w u) = opposite_alone atoms f ts us r w (unit_alone atoms u)
  unit_alone atoms (enclosed {f = f} {ts = ts} {us = us} {vs = vs} {rest = r} w c v) = enclosed_alone atoms f ts us vs r w (condition_alone atoms c) v

  units_alone : {A : Type 0} {stops : List (List ℕ)} {P : A → Piece} (atoms : Atoms stops P) {fs : Formulas A} {ts r : List Token} → AreUnits P fs ts r
      → Alone (codes "and" ∷ stops) (chain "and" (IsUnit P)) fs ts r
  units_alone {stops = stops} {P = P} atoms (no_more_units {ts = ts}) = chain_end "and" stops (IsUnit P) ts
  units_alone {stops = stops} {P = P} atoms (more_units {f = f} {fs = fs} {ts = ts} {us = us} {vs = vs} {rest = r} w u more) =
      chain_more "and" stops (IsUnit P) atoms.no_and f fs ts us vs r w (unit_alone atoms u) (units_chain more) (units_alone atoms more)

  part_alone : {A : Type 0} {stops : List (List ℕ)} {P : A → Piece} (atoms : Atoms stops P) {f : Formula A} {ts r : List Token} → IsPart P f ts r → Alone (codes "and" ∷ stops) (IsPart P) f ts r
  part_alone {stops = stops} {P = P} atoms (one_unit {f = f} {ts = ts} {rest = r} u) =
      alone_as (chained_alone "and" stops (IsUnit P) all_of atoms.no_and f no_formulas ts r r (unit_alone atoms u) refl (chain_end "and" stops (IsUnit P) r)) part_chained
  part_alone {stops = stops} {P = P} atoms (units {f = f} {g = g} {fs = fs} {ts = ts} {us = us} {rest = r} u more) =
      alone_as (chained_alone "and" stops (IsUnit P) all_of atoms.no_and f (formula g fs) ts us r (unit_alone atoms u) (units_chain more) (units_alone atoms more)) part_chained

  parts_alone : {A : Type 0} {stops : List (List ℕ)} {P : A → Piece} (atoms : Atoms stops P) {fs : Formulas A} {ts r : List Token} → AreParts P fs ts r
      → Alone (codes "or" ∷ codes "and" ∷ stops) (chain "or" (IsPart P)) fs ts r
  parts_alone {stops = stops} {P = P} atoms (no_more_parts {ts = ts}) = chain_end "or" (codes "and" ∷ stops) (IsPart P) ts
  parts_alone {stops = stops} {P = P} atoms (more_parts {f = f} {fs = fs} {ts = ts} {us = us} {vs = vs} {rest = r} w p more) =
      chain_more "or" (codes "and" ∷ stops) (IsPart P) atoms.no_or f fs ts us vs r w (part_alone atoms p) (parts_chain more) (parts_alone atoms more)

  condition_alone : {A : Type 0} {stops : List (List ℕ)} {P : A → Piece} (atoms : Atoms stops P) {f : Formula A} {ts r : List Token} → IsCondition P f ts r
      → Alone (codes "or" ∷ codes "and" ∷ stops) (IsCondition P) f ts r
  condition_alone {stops = stops} {P = P} atoms (one_part {f = f} {ts = ts} {rest = r} p) =
      alone_as (chained_alone "or" (codes "and" ∷ stops) (IsPart P) any_of atoms.no_or f no_formulas ts r r (part_alone atoms p) refl (chain_end "or" (codes "and" ∷ stops) (IsPart P) r)) condition_chained
  condition_alone {stops = stops} {P = P} atoms (parts {f = f} {g = g} {fs = fs} {ts = ts} {us = us} {rest = r} p more) =
      alone_as (chained_alone "or" (codes "and" ∷ stops) (IsPart P) any_of atoms.no_or f (formula g fs) ts us r (part_alone atoms p) (parts_chain more) (parts_alone atoms more)) condition_chained

pub one_condition : {A : Type 0} {stops : List (List ℕ)} {P : A → Piece} (atoms : Atoms stops P) (f : Formula A) → One (codes "or" ∷ codes "and" ∷ stops) (IsCondition P) f
one_condition atoms f = record { same = λ g ts us r s e h k c d. (condition_alone atoms h).same g us s e k c d }
