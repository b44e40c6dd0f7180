-- What was assigned exists, so the statements of a step name places that exist.
use Rattle.std.proofs.Common.{◌≡◌, ℕ, ◌<◌, List, [], ◌∷◌, Bool, true, false, ◌||◌, IsTrue, length, inl, inr, refl, ap, arith}
use Rattle.std.specs.Prelude.{nat_lt, nat_le, nat_eq}
use Rattle.std.specs.List.{list_all}
use Rattle.std.proofs.lemmas.Bool.Decides.{nat_tests}
use Rattle.argos_base.specs.SignalSets.{lists}
use Rattle.argos_base.proofs.Bools.{and_first, and_second, and_both, or_cases, or_right}
use Rattle.eqn_core.specs.Equations.{Literal, Choice, code, word, next, Case}
use Rattle.eqn_core.specs.Ordered.{literal_below, choice_below, case_below}
use Rattle.c_step.specs.CStep.{CValue, constant, each_of, some_of, between, digit_of, input_of, CStat, set_bit, set_word, set_out, CStep, Assigned, nothing_assigned, assigns, may_read_literal, may_read_word, may_choose, may_case, may_be, may_stand, may_follow}
use Rattle.c_step.specs.inner.Ranges.{value_within, statement_within}
use Rattle.c_step.specs.inner.Within.{CStepsStayWithin}
use Rattle.c_step.proofs.Below.{below, below_test}

-- what may be read exists
pub record Exist (s : CStep) (a : Assigned) : Type 0 where
  pub bits : (k : ℕ) → IsTrue (lists a.bits k) → IsTrue (nat_lt k s.bits)
  pub words : (k : ℕ) → IsTrue (may_read_word s a k) → IsTrue (nat_lt k s.words)

all_implied : {A : Type 0} (p q : A → Bool) → ((x : A) → IsTrue (p x) → IsTrue (q x)) → (xs : List A) → IsTrue (list_all p xs) → IsTrue (list_all q xs)
all_implied p q h [] e = refl
all_implied p q h (x ∷ xs) e = and_both _ _ (h x (and_first _ _ e)) (all_implied p q h xs (and_second (p x) _ e))

literals_exist : (s : CStep) (a : Assigned) (ls : List Literal) → Exist s a → IsTrue (list_all (may_read_literal a) ls) → IsTrue (list_all (literal_below s.bits) ls)
literals_exist s a ls h e = all_implied (may_read_literal a) (literal_below s.bits) (λ l t. h.bits l.bit t) ls e

choice_exists : (s : CStep) (a : Assigned) (c : Choice) → Exist s a → IsTrue (may_choose s a c) → IsTrue (choice_below s.words c)
choice_exists s a (code n) h e = e
choice_exists s a (word k) h e = h.words k e
choice_exists s a (next k) h e = h.words k e

case_exists : (s : CStep) (a : Assigned) (c : Case) → Exist s a → IsTrue (may_case s a c) → IsTrue (case_below s.bits s.words c)
case_exists s a c h e = and_both _ _ (h.bits c.when.bit (and_first _ _ e)) (choice_exists s a c.choice h (and_second (may_read_literal a c.when) _ e))

value_exists : (s : CStep) (a : Assigned) (v : CValue) → Exist s a → IsTrue (may_be s a v) → IsTrue (value_within (length s.names.inputs) s.words s.bits v)
value_exists s a (constant b) h e = refl
value_exists s a (each_of ls) h e = literals_exist s a ls h (and_second (nat_le 1 (length ls)) _ e)
value_exists s a (some_of ls) h e = literals_exist s a ls h (and_second (nat_le 2 (length ls)) _ e)
value_exists s a (between w lo hi) h e = h.words w (and_first (may_read_word s a w) _ e)
value_exists s a (digit_of w place) h e = and_both _ _ (h.words w (and_first (may_read_word s a w) _ e)) (and_second (may_read_word s a w) _ e)
value_exists s a (input_of j) h e = e

statement_exists : (s : CStep) (a : Assigned) (x : CStat) → Exist s a → IsTrue (may_stand s a x) → IsTrue (statement_within (length s.names.inputs) (length s.names.outputs) s.words s.bits x)
statement_exists s a (set_bit k v) h e = and_both (nat_lt k s.bits) _ (and_first (nat_lt k s.bits) _ e) (value_exists s a v h (and_second (nat_lt k s.bits) _ e))
statement_exists s a (set_word k cases other) h e =
    let rest = and_second (nat_lt k s.words) _ e in
    and_both (nat_lt k s.words) _ (and_first (nat_lt k s.words) _ e)
    (and_both (list_all (case_below s.bits s.words) cases) _ (all_implied (may_case s a) (case_below s.bits s.words) (λ c t. case_exists s a c h t) cases (and_first (list_all (may_case s a) cases) _ rest))
    (choice_exists s a other h (and_second (list_all (may_case s a) cases) _ rest)))
statement_exists s a (set_out j k) h e = and_both (nat_lt j (length s.names.outputs)) _ (and_first (nat_lt j (length s.names.outputs)) _ e) (h.bits k (and_second (nat_lt j (length s.names.outputs)) _ e))

same : (k j n : ℕ) → IsTrue (nat_lt k n) → nat_eq k j ≡ true → IsTrue (nat_lt j n)
same k j n h e = grind (arith, nat_tests)

pub one_more_exists : (s : CStep) (a : Assigned) (x : CStat) → Exist s a → IsTrue (may_stand s a x) → Exist s (assigns a x)
one_more_exists s a (set_bit k v) h e = record {
  bits = λ j t. elim (or_cases (nat_eq k j) (lists a.bits j) t) [ inl y ↦ same k j s.bits (and_first (nat_lt k s.bits) _ e) y | inr y ↦ h.bits j y ];
  words = h.words;
}
one_more_exists s a (set_word k cases other) h e = record {
  bits = h.bits;
  words = λ j t. elim (or_cases (nat_lt j (length s.initial)) (nat_eq k j || lists a.words j) t) [
    | inl y ↦ h.words j (register j y)
    | inr y ↦ elim (or_cases (nat_eq k j) (lists a.words j) y) [ inl z ↦ same k j s.words (and_first (nat_lt k s.words) _ e) z | inr z ↦ h.words j (read j z) ]
  ];
}
  where
    register : (j : ℕ) → nat_lt j (length s.initial) ≡ true → IsTrue (may_read_word s a j)
    register j y = ap (λ b. b || lists a.words j) y

    read : (j : ℕ) → lists a.words j ≡ true → IsTrue (may_read_word s a j)
    read j z = or_right (nat_lt j (length s.initial)) _ z
one_more_exists s a (set_out j k) h e = record { bits = h.bits; words = h.words }

all_exist : (s : CStep) (a : Assigned) (xs : List CStat) → Exist s a → IsTrue (may_follow s a xs) → IsTrue (list_all (statement_within (length s.names.inputs) (length s.names.outputs) s.words s.bits) xs)
all_exist s a [] h e = refl
all_exist s a (x ∷ xs) h e =
    and_both (statement_within (length s.names.inputs) (length s.names.outputs) s.words s.bits x) _ (statement_exists s a x h (and_first (may_stand s a x) _ e))
    (all_exist s (assigns a x) xs (one_more_exists s a x h (and_first (may_stand s a x) _ e)) (and_second (may_stand s a x) _ e))

pub stay_within : CStepsStayWithin
stay_within s h = all_exist s nothing_assigned s.statements (record { bits = λ k t. cc t; words = λ k t. register k t }) h.reads
  where
    register : (k : ℕ) → IsTrue (nat_lt k (length s.initial) || false) → IsTrue (nat_lt k s.words)
    register k t = below_test k s.words (let l : k < length s.initial = below k (length s.initial) (elim (or_cases (nat_lt k (length s.initial)) false t) [ inl y ↦ y | inr y ↦ cc y ]) in omega (arith, h.room))
