-- The lines of nodes have the nodes' values.
use Rattle.std.proofs.Common.{◌≡◌, ℕ, zero, suc, ◌+◌, ◌<◌, List, [], ◌∷◌, Bool, true, false, ◌&&◌, ◌||◌, not, cond, nat_eq, refl, sym, ap, ◌∙◌, ◌⊎◌, inl, inr, arith, length, map}
use Rattle.std.specs.List.{list_all}
use Rattle.std.proofs.lemmas.Bool.Decides.{nat_tests}
use Rattle.argos_base.specs.SignalSets.{SignalSet, has, lists}
use Rattle.argos_base.proofs.Bools.{true_or_false}
use Rattle.eqn_core.specs.Equations.{Literal, any}
use Rattle.eqn_core.specs.Solutions.{Values, bit_of, is_true}
use Rattle.eqn_verdict.specs.Branches.{plus, minus, Branch, and_node, branch_lines, branches_after, root_lines, IsReference, AreInTurn, AreReferences, ids_with, HaveValues}
use Rattle.eqn_completion.specs.Moving.{Table, put}
use Rattle.eqn_core.proofs.LinePlaces.{AreAt, IsAt, at_place, next_bit, next_word}
use Rattle.eqn_completion.proofs.Reading.{nat_eq-tells}

next_bit-node : (ls : List Literal) (f : ℕ) (table : Table) (b : ℕ) → next_bit b (and_node ls f table) ≡ suc b
next_bit-node ls zero table b = refl
next_bit-node ls (suc zero) table b = refl
next_bit-node ls (suc (suc f)) table b = refl

next_word-node : (ls : List Literal) (f : ℕ) (table : Table) (w : ℕ) → next_word w (and_node ls f table) ≡ w
next_word-node ls zero table w = refl
next_word-node ls (suc zero) table w = refl
next_word-node ls (suc (suc f)) table w = refl

-- the node's bit has its value
abbrev pub IsRight : Values → (ℕ → Bool) → Table → ℕ → Type 0
IsRight s value table f = bit_of s (table f) ≡ value f

abbrev pub Constants : (ℕ → Bool) → Type 0
Constants value = (value 0 ≡ false) × (value 1 ≡ true)

-- the literals and the node
node-value : (s : Values) (value : ℕ → Bool) (table : Table) (b w f : ℕ) (ls : List Literal) → Constants value → ((f < 2) ⊎ (IsRight s value table f)) → IsAt s b w (and_node ls f table) → bit_of s b ≡ (list_all (is_true s) ls && value f)
node-value s value table b w zero ls c r a = a ∙ sym (ap (λ (z : Bool). list_all (is_true s) ls && z) c.0 ∙ off (list_all (is_true s) ls))
  where
    off : (a : Bool) → (a && false) ≡ false
    off true = refl
    off false = refl
node-value s value table b w (suc zero) ls c r a = a ∙ sym (ap (λ (z : Bool). list_all (is_true s) ls && z) c.1 ∙ on (list_all (is_true s) ls))
  where
    on : (a : Bool) → (a && true) ≡ a
    on true = refl
    on false = refl
node-value s value table b w (suc (suc f)) ls c (inl r) a = absurd (omega arith)
node-value s value table b w (suc (suc f)) ls c (inr r) a = a ∙ ap (λ (z : Bool). z && list_all (is_true s) ls) r ∙ turn (value (suc (suc f))) (list_all (is_true s) ls)
  where
    turn : (a b : Bool) → (a && b) ≡ (b && a)
    turn true true = refl
    turn true false = refl
    turn false true = refl
    turn false false = refl

module _ (s : Values) (value : ℕ → Bool) (p : SignalSet) (var : Table) (v : ℕ) (constants : Constants value) (variables : (k : ℕ) → k < v → bit_of s (var k) ≡ has p k) where
  reference : (known : List ℕ) (table : Table) (f : ℕ) → ((g : ℕ) → lists known g ≡ true → IsRight s value table g) → IsReference known f → (f < 2) ⊎ (IsRight s value table f)
  reference known table f h (inl low) = inl low
  reference known table f h (inr is) = inr (h f is)

  joined : (x : Bool) (a b : Bool) → (((x && true) && a) || (((not x && true) && b) || false)) ≡ cond x a b
  joined true true b = refl
  joined true false b = refl
  joined false a true = refl
  joined false a false = refl

  pub branches-right : (ns : List Branch) (known : List ℕ) (table : Table) (b w : ℕ) → AreInTurn v known ns → HaveValues p value ns → AreAt s b w (branch_lines var ns table b) → ((g : ℕ) → lists known g ≡ true → IsRight s value table g) → (g : ℕ) → lists (ids_with known ns) g ≡ true → IsRight s value (branches_after ns table b) g
  branches-right [] known table b w turn values a h g is = h g is
  branches-right (n ∷ ns) known table b w turn values a h g is =
      let one = at_place s (next_bit b (and_node (plus (var n.variable) ∷ []) n.high table)) (suc b) (next_word w (and_node (plus (var n.variable) ∷ []) n.high table)) w (and_node (minus (var n.variable) ∷ []) n.low table ∷ any (plus b ∷ plus (suc b) ∷ []) ∷ branch_lines var ns (put table n.id (suc (suc b))) (suc (suc (suc b)))) (next_bit-node (plus (var n.variable) ∷ []) n.high table b) (next_word-node (plus (var n.variable) ∷ []) n.high table w) a.1 in
      let two = at_place s (next_bit (suc b) (and_node (minus (var n.variable) ∷ []) n.low table)) (suc (suc b)) (next_word w (and_node (minus (var n.variable) ∷ []) n.low table)) w (any (plus b ∷ plus (suc b) ∷ []) ∷ branch_lines var ns (put table n.id (suc (suc b))) (suc (suc (suc b)))) (next_bit-node (minus (var n.variable) ∷ []) n.low table (suc b)) (next_word-node (minus (var n.variable) ∷ []) n.low table w) one.1 in
      let x : bit_of s (var n.variable) ≡ has p n.variable = variables n.variable turn.0 in
      let up : bit_of s b ≡ ((has p n.variable && true) && value n.high) = node-value s value table b w n.high (plus (var n.variable) ∷ []) constants (reference known table n.high h turn.2) a.0 ∙ ap (λ (z : Bool). (z && true) && value n.high) x in
      let down : bit_of s (suc b) ≡ ((not (has p n.variable) && true) && value n.low) = node-value s value table (suc b) w n.low (minus (var n.variable) ∷ []) constants (reference known table n.low h turn.1) one.0 ∙ ap (λ (z : Bool). (not z && true) && value n.low) x in
      let here : bit_of s (suc (suc b)) ≡ value n.id = two.0 ∙ ap (λ (z : Bool). z || (bit_of s (suc b) || false)) up ∙ ap (λ (z : Bool). ((has p n.variable && true) && value n.high) || (z || false)) down ∙ joined (has p n.variable) (value n.high) (value n.low) ∙ sym values.0 in
      branches-right ns (n.id ∷ known) (put table n.id (suc (suc b))) (suc (suc (suc b))) w turn.3 values.1 two.1 (more n.id (suc (suc b)) here h) g is
    where
      more : (k j : ℕ) → bit_of s j ≡ value k → ((g : ℕ) → lists known g ≡ true → IsRight s value table g) → (g : ℕ) → lists (k ∷ known) g ≡ true → IsRight s value (put table k j) g
      more k j here h g is = elim (true_or_false (nat_eq g k)) [
        | inl y ↦ rw y (here ∙ ap value (sym (nat_eq-tells g k y)))
        | inr n ↦ rw n (h g (other (nat_eq k g) (lists known g) (turned g k n) is))
      ]
        where
          turned : (g k : ℕ) → nat_eq g k ≡ false → nat_eq k g ≡ false
          turned g k h = grind (arith, nat_tests)

          other : (a b : Bool) → a ≡ false → (a || b) ≡ true → b ≡ true
          other true b e h = cc
          other false b e h = h

  -- and so have the roots
  pub roots-right : (roots known : List ℕ) (table : Table) (b w : ℕ) → AreReferences known roots → ((g : ℕ) → lists known g ≡ true → IsRight s value table g) → AreAt s b w (root_lines roots table) → (j : ℕ) → j < length roots → bit_of s (b + j) ≡ has (map value roots) j
  roots-right [] known table b w r h a j l = absurd (omega arith)
  roots-right (f ∷ roots) known table b w r h a zero l = ap (bit_of s) (let z : b + 0 ≡ b = omega arith in z) ∙ node-value s value table b w f [] constants (reference known table f h r.0) a.0
  roots-right (f ∷ roots) known table b w r h a (suc j) l =
      let rest = at_place s (next_bit b (and_node [] f table)) (suc b) (next_word w (and_node [] f table)) w (root_lines roots table) (next_bit-node [] f table b) (next_word-node [] f table w) a.1 in
      ap (bit_of s) (let z : b + suc j ≡ suc b + j = omega arith in z) ∙ roots-right roots known table (suc b) w r.1 h rest j (omega arith)
