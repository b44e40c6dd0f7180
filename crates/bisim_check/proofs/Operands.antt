-- The nodes of operands, joined from the last one on.
use Rattle.std.proofs.Common.{◌≡◌, ℕ, zero, suc, ◌+◌, ◌-◌, ◌*◌, ◌^◌, ◌≤◌, List, [], ◌∷◌, Bool, true, false, ◌&&◌, ◌||◌, not, length, map, drop, get_or, Result, Ok, IfOk, refl, sym, ap, ◌∙◌, subst, arith}
use Rattle.std.proofs.lemmas.List.{drop_more, drop_all}
use Rattle.argos_core.specs.Layouts.{RegisterShape}
use Rattle.bisim_check.specs.inner.Nodes.{AreWords, codes_at}
use Rattle.bisim_check.proofs.Atoms.{Word, codes-kept}
use Rattle.bisim_formula.specs.Formulas as plain
use Rattle.bisim_formula.specs.Formulas.{Formula, Formulas, related_by, all_related, any_related, formula_size, formulas_size}
use Rattle.bisim_formula.specs.Views.{formula_of, formulas_of}
use Rattle.bisim_formula.specs.declared.cert.Cert.{Cert}
use Rattle.dd_core.specs.declared.nodes.NodeId.{NodeId}
use Rattle.dd_core.specs.declared.errors.DdError.{DdError}
use Rattle.dd_core.specs.Functions.{both, either, opposite}
use Rattle.dd_core.specs.Arenas.{ArenaView, IsArena, function_of, Makes, AddsAtMost}
use Rattle.eqn_dd.specs.Denoting.{Denotes}
use Rattle.eqn_dd.proofs.Denotations.{adds_nothing, adds_in_turn, adds_fewer, adds_one, denotes_constant, made_equal}

-- what memories satisfy
abbrev pub Test : Type 0
Test = List ℕ → List ℕ → Bool

pub one_node : (f : Formula) → 1 ≤ formula_size f
one_node (plain.in_state w r q) = omega arith
one_node (plain.at_elapsed w r q e) = omega arith
one_node (plain.inactive w r) = omega arith
one_node (plain.same_code r s) = omega arith
one_node plain.always = omega arith
one_node plain.never = omega arith
one_node (plain.negation f) = omega arith
one_node (plain.all fs) = omega arith
one_node (plain.any fs) = omega arith

-- the operands from a place on
abbrev pub rest : List Cert → ℕ → Formulas
rest fs count = formulas_of (map formula_of (drop count fs))

rest_fewer : (fs : List Cert) (count : ℕ) → formulas_size (rest fs count) ≤ formulas_size (formulas_of (map formula_of fs))
rest_fewer [] zero = omega arith
rest_fewer [] (suc count) = omega arith
rest_fewer (f ∷ fs) zero = omega arith
rest_fewer (f ∷ fs) (suc count) = let k = rest_fewer fs count in omega (arith, k)

-- the operands from a place on have their node
pub record OperandsSoFar (test : Formulas → Test) (a : ArenaView) (lefts rights : List Word) (fs : List Cert) (count : ℕ) (b : ArenaView) (met : ℕ) : Type 0 where
  pub bound : count ≤ length fs
  pub adds : AddsAtMost (50 * formulas_size (rest fs count)) a b
  pub denotes : Denotes b met (λ x. test (rest fs count) (codes_at a lefts x) (codes_at a rights x))

pub all_none : (ls rs : List RegisterShape) (a : ArenaView) (lefts rights : List Word) (fs : List Cert) (count : ℕ) → count ≡ length fs → IsArena a
    → OperandsSoFar (all_related ls rs) a lefts rights fs count a 1
all_none ls rs a lefts rights fs count all valid = record {
  bound = omega arith;
  adds = adds_nothing (50 * formulas_size (rest fs count)) a valid;
  denotes = subst (λ (l : List Cert). Denotes a 1 (λ x. all_related ls rs (formulas_of (map formula_of l)) (codes_at a lefts x) (codes_at a rights x))) (sym (drop_all count fs (omega arith))) (denotes_constant a 1 true valid refl);
}

pub any_none : (ls rs : List RegisterShape) (a : ArenaView) (lefts rights : List Word) (fs : List Cert) (count : ℕ) → count ≡ length fs → IsArena a
    → OperandsSoFar (any_related ls rs) a lefts rights fs count a 0
any_none ls rs a lefts rights fs count all valid = record {
  bound = omega arith;
  adds = adds_nothing (50 * formulas_size (rest fs count)) a valid;
  denotes = subst (λ (l : List Cert). Denotes a 0 (λ x. any_related ls rs (formulas_of (map formula_of l)) (codes_at a lefts x) (codes_at a rights x))) (sym (drop_all count fs (omega arith))) (denotes_constant a 0 false valid refl);
}

pub operands_all : {test : Formulas → Test} {a b : ArenaView} {lefts rights : List Word} {fs : List Cert} {count met : ℕ} → count ≡ 0
    → OperandsSoFar test a lefts rights fs count b met
    → Denotes b met (λ x. test (formulas_of (map formula_of fs)) (codes_at a lefts x) (codes_at a rights x))
operands_all {test} {a} {b} {lefts} {rights} {fs} {count} {met} none before =
    subst (λ (k : ℕ). Denotes b met (λ x. test (rest fs k) (codes_at a lefts x) (codes_at a rights x))) none before.denotes

-- one operand more, of which the call adds so much
module _ {test : Formulas → Test} {a b c : ArenaView} {lefts rights : List Word} (fs : List Cert) (count after : ℕ) (g : Cert) {met : ℕ} (following : after ≡ count + 1) (at : g ≡ get_or fs count g)
    (before : OperandsSoFar test a lefts rights fs after b met) (adds : AddsAtMost (50 * formula_size (formula_of g) - 1) b c) where
  here : drop count fs ≡ g ∷ drop after fs
  here = drop_more fs count g (omega (arith, before.bound)) ∙ ap (λ (f : Cert). f ∷ drop (count + 1) fs) (sym at) ∙ ap (λ (k : ℕ). g ∷ drop k fs) (sym following)

  size : formulas_size (rest fs count) ≡ formula_size (formula_of g) + formulas_size (rest fs after)
  size = ap (λ (l : List Cert). formulas_size (formulas_of (map formula_of l))) here

  adds_operand : AddsAtMost (50 * formulas_size (rest fs count) - 1) a c
  adds_operand = adds_in_turn (50 * formulas_size (rest fs after)) (50 * formula_size (formula_of g) - 1) (50 * formulas_size (rest fs count) - 1) (omega (arith, size, one_node (formula_of g))) before.adds adds

  adds_joined : {d : ArenaView} → AddsAtMost 1 c d → AddsAtMost (50 * formulas_size (rest fs count)) a d
  adds_joined one = adds_in_turn (50 * formulas_size (rest fs count) - 1) 1 (50 * formulas_size (rest fs count)) (omega (arith, size, one_node (formula_of g))) adds_operand one

  -- where a call fails
  pub operand_fails : AddsAtMost (50 * formulas_size (formulas_of (map formula_of fs))) a c
  operand_fails = adds_fewer (50 * formulas_size (rest fs count) - 1) (50 * formulas_size (formulas_of (map formula_of fs))) (omega (arith, rest_fewer fs count)) adds_operand

  pub joined_fails : {d : ArenaView} → AddsAtMost 1 c d → AddsAtMost (50 * formulas_size (formulas_of (map formula_of fs))) a d
  joined_fails one = adds_fewer (50 * formulas_size (rest fs count)) (50 * formulas_size (formulas_of (map formula_of fs))) (omega (arith, rest_fewer fs count)) (adds_joined one)

  -- what the operand and those behind it denote after the call
  module _ (ls rs : List RegisterShape) (left_words : AreWords a lefts) (right_words : AreWords a rights) {f : ℕ} (is : Denotes c f (λ x. related_by ls rs (formula_of g) (codes_at b lefts x) (codes_at b rights x))) where
    operand_value : (x : List Bool) → length x ≡ c.variables → function_of c f x ≡ related_by ls rs (formula_of g) (codes_at a lefts x) (codes_at a rights x)
    operand_value x sized =
        let long : length x ≡ a.variables = sized ∙ adds.keeps.variables ∙ before.adds.keeps.variables in
        is.equal x sized
        ∙ ap (λ (m : List ℕ). related_by ls rs (formula_of g) m (codes_at b rights x)) (codes-kept a b lefts x before.adds.keeps left_words long)
        ∙ ap (λ (n : List ℕ). related_by ls rs (formula_of g) (codes_at a lefts x) n) (codes-kept a b rights x before.adds.keeps right_words long)

    met_value : (x : List Bool) → length x ≡ c.variables → function_of c met x ≡ test (rest fs after) (codes_at a lefts x) (codes_at a rights x)
    met_value x sized = let long : length x ≡ b.variables = sized ∙ adds.keeps.variables in adds.keeps.denotes met before.denotes.held x long ∙ before.denotes.equal x long

    joined : {d : ArenaView} {h : NodeId} (op : Bool → Bool → Bool)
        → ((m n : List ℕ) → test (plain.formula (formula_of g) (rest fs after)) m n ≡ op (related_by ls rs (formula_of g) m n) (test (rest fs after) m n))
        → Makes (2 ^ (c.variables + 1)) c d (λ x. op (function_of c f x) (function_of c met x)) (Ok h) → OperandsSoFar test a lefts rights fs count d h.0
    joined {d} {h} op one made = record {
      bound = omega (arith, before.bound);
      adds = adds_joined (adds_one made);
      denotes = record {
        held = made.node.held;
        equal = λ x sized.
            let sized_c : length x ≡ c.variables = sized ∙ made.keeps.variables in
            made.node.denotes x sized
            ∙ ap (λ (t : Bool). op t (function_of c met x)) (operand_value x sized_c)
            ∙ ap (op (related_by ls rs (formula_of g) (codes_at a lefts x) (codes_at a rights x))) (met_value x sized_c)
            ∙ sym (one (codes_at a lefts x) (codes_at a rights x))
            ∙ ap (λ (l : List Cert). test (formulas_of (map formula_of l)) (codes_at a lefts x) (codes_at a rights x)) (sym here);
      };
    }

pub all_more : {a b c d : ArenaView} {lefts rights : List Word} (ls rs : List RegisterShape) (fs : List Cert) (count after : ℕ) (g : Cert) {met f : ℕ} {h : NodeId} → after ≡ count + 1 → g ≡ get_or fs count g
    → AreWords a lefts → AreWords a rights → OperandsSoFar (all_related ls rs) a lefts rights fs after b met → AddsAtMost (50 * formula_size (formula_of g) - 1) b c
    → Denotes c f (λ x. related_by ls rs (formula_of g) (codes_at b lefts x) (codes_at b rights x))
    → Makes (2 ^ (c.variables + 1)) c d (both (function_of c f) (function_of c met)) (Ok h) → OperandsSoFar (all_related ls rs) a lefts rights fs count d h.0
all_more ls rs fs count after g following at left_words right_words before adds is made =
    joined fs count after g following at before adds ls rs left_words right_words is (λ s t. s && t) (λ m n. refl) made

pub any_more : {a b c d : ArenaView} {lefts rights : List Word} (ls rs : List RegisterShape) (fs : List Cert) (count after : ℕ) (g : Cert) {met f : ℕ} {h : NodeId} → after ≡ count + 1 → g ≡ get_or fs count g
    → AreWords a lefts → AreWords a rights → OperandsSoFar (any_related ls rs) a lefts rights fs after b met → AddsAtMost (50 * formula_size (formula_of g) - 1) b c
    → Denotes c f (λ x. related_by ls rs (formula_of g) (codes_at b lefts x) (codes_at b rights x))
    → Makes (2 ^ (c.variables + 1)) c d (either (function_of c f) (function_of c met)) (Ok h) → OperandsSoFar (any_related ls rs) a lefts rights fs count d h.0
any_more ls rs fs count after g following at left_words right_words before adds is made =
    joined fs count after g following at before adds ls rs left_words right_words is (λ s t. s || t) (λ m n. refl) made

-- ---- the opposite

pub opposite_made : {m : ℕ} {a b : ArenaView} {f : ℕ} {g : List Bool → Bool} {result : Result NodeId DdError} → Denotes a f g
    → Makes m a b (opposite (function_of a f)) result → IfOk result (λ h. Denotes b h.0 (λ x. not (g x)))
opposite_made is made = made_equal made (λ x sized. ap not (is.equal x sized))
