-- A line that reads given bits and words alone has the same value wherever these are the first ones.
use Rattle.std.proofs.Common.{◌≡◌, ℕ, ◌<◌, List, [], ◌∷◌, ◌++◌, Bool, false, ◌&&◌, ◌||◌, not, cond, length, IsTrue, refl, ap, ◌∙◌, arith}
use Rattle.std.specs.Prelude.{nat_le, nat_eq, nat_lt, ◌/◌, ◌%◌, ◌^◌}
use Rattle.std.specs.List.{list_all, list_any}
use Rattle.std.proofs.lemmas.List.{get_or_append_left}
use Rattle.std.proofs.lemmas.Bool.Decides.{nat_tests}
use Rattle.argos_base.proofs.Bools.{and_first, and_second}
use Rattle.eqn_core.specs.Equations.{Literal, Choice, code, word, next, Case, Line, all, any, within, digit, choose}
use Rattle.eqn_core.specs.Ordered.{literal_below, choice_below, case_below, line_below}
use Rattle.eqn_core.specs.Solutions.{Values, is_true, next_code, value_of, word_of, chosen_value, defined_bits, defined_words}

-- the values with more bits and words behind them
abbrev pub longer : Values → List Bool → List ℕ → Values
longer s b w = record { bits = s.bits ++ b; words = s.words ++ w }

below : (k n : ℕ) → IsTrue (nat_lt k n) → k < n
below k n h = grind (arith, nat_tests)

-- two tests that agree where a third one passes
all-agree : {X : Type 0} (in_range p q : X → Bool) → ((x : X) → IsTrue (in_range x) → p x ≡ q x) → (xs : List X) → IsTrue (list_all in_range xs) → list_all p xs ≡ list_all q xs
all-agree in_range p q h [] e = refl
all-agree in_range p q h (x ∷ xs) e =
    ap (λ (b : Bool). b && list_all p xs) (h x (and_first _ _ e)) ∙ ap (λ (b : Bool). q x && b) (all-agree in_range p q h xs (and_second (in_range x) _ e))

any-agree : {X : Type 0} (in_range p q : X → Bool) → ((x : X) → IsTrue (in_range x) → p x ≡ q x) → (xs : List X) → IsTrue (list_all in_range xs) → list_any p xs ≡ list_any q xs
any-agree in_range p q h [] e = refl
any-agree in_range p q h (x ∷ xs) e =
    ap (λ (b : Bool). b || list_any p xs) (h x (and_first _ _ e)) ∙ ap (λ (b : Bool). q x || b) (any-agree in_range p q h xs (and_second (in_range x) _ e))

is_true-longer : (s : Values) (b : List Bool) (w : List ℕ) (l : Literal) → IsTrue (literal_below (length s.bits) l) → is_true (longer s b w) l ≡ is_true s l
is_true-longer s b w l h = ap (λ (x : Bool). cond l.negated (not x) x) (get_or_append_left s.bits b false l.bit (below _ _ h))

word_of-longer : (s : Values) (b : List Bool) (w : List ℕ) (k : ℕ) → IsTrue (nat_lt k (length s.words)) → word_of (longer s b w) k ≡ word_of s k
word_of-longer s b w k h = get_or_append_left s.words w 0 k (below _ _ h)

value_of-longer : (s : Values) (b : List Bool) (w : List ℕ) (c : Choice) → IsTrue (choice_below (length s.words) c) → value_of (longer s b w) c ≡ value_of s c
value_of-longer s b w (code n) h = refl
value_of-longer s b w (word k) h = word_of-longer s b w k h
value_of-longer s b w (next k) h = ap next_code (word_of-longer s b w k h)

chosen_value-longer : (s : Values) (b : List Bool) (w : List ℕ) (cases : List Case) (other : Choice) → IsTrue (list_all (case_below (length s.bits) (length s.words)) cases) → IsTrue (choice_below (length s.words) other)
    → chosen_value (longer s b w) cases other ≡ chosen_value s cases other
chosen_value-longer s b w [] other h e = value_of-longer s b w other e
chosen_value-longer s b w (c ∷ cases) other h e =
    let first : IsTrue (case_below (length s.bits) (length s.words) c) = and_first _ _ h in
    let rest : IsTrue (list_all (case_below (length s.bits) (length s.words)) cases) = and_second (case_below (length s.bits) (length s.words) c) _ h in
    let when : is_true (longer s b w) c.when ≡ is_true s c.when = is_true-longer s b w c.when (and_first _ _ first) in
    let picked : value_of (longer s b w) c.choice ≡ value_of s c.choice = value_of-longer s b w c.choice (and_second (literal_below (length s.bits) c.when) _ first) in
    let others : chosen_value (longer s b w) cases other ≡ chosen_value s cases other = chosen_value-longer s b w cases other rest e in
    ap (λ (x : Bool). cond x (value_of (longer s b w) c.choice) (chosen_value (longer s b w) cases other)) when
    ∙ ap (λ (n : ℕ). cond (is_true s c.when) n (chosen_value (longer s b w) cases other)) picked
    ∙ ap (λ (n : ℕ). cond (is_true s c.when) (value_of s c.choice) n) others

pub defined_bits-longer : (s : Values) (b : List Bool) (w : List ℕ) (l : Line) → IsTrue (line_below (length s.bits) (length s.words) l) → defined_bits (longer s b w) l ≡ defined_bits s l
defined_bits-longer s b w (all ls) h = ap (λ (x : Bool). x ∷ []) (all-agree (literal_below (length s.bits)) (is_true (longer s b w)) (is_true s) (is_true-longer s b w) ls h)
defined_bits-longer s b w (any ls) h = ap (λ (x : Bool). x ∷ []) (any-agree (literal_below (length s.bits)) (is_true (longer s b w)) (is_true s) (is_true-longer s b w) ls h)
defined_bits-longer s b w (within k lo hi) h = ap (λ (n : ℕ). (nat_le lo n && nat_le n hi) ∷ []) (word_of-longer s b w k (and_first _ _ h))
defined_bits-longer s b w (digit k place) h = ap (λ (n : ℕ). nat_eq (n / 2 ^ place % 2) 1 ∷ []) (word_of-longer s b w k (and_first _ _ h))
defined_bits-longer s b w (choose cases other) h = refl

pub defined_words-longer : (s : Values) (b : List Bool) (w : List ℕ) (l : Line) → IsTrue (line_below (length s.bits) (length s.words) l) → defined_words (longer s b w) l ≡ defined_words s l
defined_words-longer s b w (all ls) h = refl
defined_words-longer s b w (any ls) h = refl
defined_words-longer s b w (within k lo hi) h = refl
defined_words-longer s b w (digit k place) h = refl
defined_words-longer s b w (choose cases other) h = ap (λ (n : ℕ). n ∷ []) (chosen_value-longer s b w cases other (and_first _ _ h) (and_second (list_all (case_below (length s.bits) (length s.words)) cases) _ h))
