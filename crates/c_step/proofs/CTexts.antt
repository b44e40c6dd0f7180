-- The lines that lead to the end are those of a C step.
use Rattle.std.proofs.Common.{◌≡◌, ℕ, zero, suc, ◌+◌, ◌≤◌, ◌<◌, List, [], ◌∷◌, ◌++◌, true, false, ◌&&◌, IsTrue, length, map, refl, sym, ap, ◌∙◌, subst, append_assoc, length-append, arith, ◌⊎◌, inl, inr}
use Rattle.std.specs.Prelude.{nat_le, nat_lt, nat_eq, flat_map}
use Rattle.std.specs.List.{list_all}
use Rattle.std.proofs.lemmas.List.{append-nil, map-append}
use Rattle.std.proofs.lemmas.List.Folds.{list_all-append}
use Rattle.std.proofs.lemmas.Bool.Decides.{nat_tests}
use Rattle.argos_base.specs.Names.{Spelled, AreDistinct}
use Rattle.argos_base.specs.SignalSets.{lists}
use Rattle.argos_base.specs.Spelling.{is_name, is_one_of}
use Rattle.argos_base.proofs.Bools.{and_first, and_second, and_both, not_false, false_not}
use Rattle.argos_base.proofs.NameLemmas.{are_distinct-push}
use Rattle.eqn_core.specs.Equations.{Choice, code, word, next, Case}
use Rattle.line_format.proofs.Names.{not_before, distinct_front}
use Rattle.c_step.specs.CStep.{CValue, constant, each_of, some_of, between, digit_of, input_of, CStat, set_bit, set_word, set_out, CStep, Assigned, nothing_assigned, assigns, assigned_after, may_read_literal, may_choose, may_case, may_be, may_stand, may_follow, AllListed, IsCStep}
use Rattle.line_format.specs.Lines.{Format, lines_then, Leads, IsFile}
use Rattle.c_step.specs.CFile.{CLine, opening, input_comment, output_comment, array_sizes, init_head, init_code, step_head, bit_line, word_line, first_case, further_case, last_case, out_line, closing, CPart, opening_due, inputs_due, outputs_due, init_due, codes_due, step_due, statements_due, nothing_due, cases_due, CStage, c_stage, no_step, is_size, is_new_name, all_listed, is_due_at, after_at, with_statement, is_finished, c_format, code_lines, statement_lines, c_lines, IsCText}

abbrev pub F : Format CStage CLine (Unit {0})
F = c_format

abbrev pub step_of : List Spelled → List Spelled → ℕ → ℕ → List ℕ → List CStat → CStep
step_of ins outs n m init xs = record { names = record { inputs = ins; outputs = outs }; words = n; bits = m; initial = init; statements = xs }

-- what may stand doesn't depend on the statements so far
choice_alike : (ins outs : List Spelled) (n m : ℕ) (init : List ℕ) (xs ys : List CStat) (a : Assigned) (c : Choice) → may_choose (step_of ins outs n m init xs) a c ≡ may_choose (step_of ins outs n m init ys) a c
choice_alike ins outs n m init xs ys a (code k) = refl
choice_alike ins outs n m init xs ys a (word k) = refl
choice_alike ins outs n m init xs ys a (next k) = refl

case_alike : (ins outs : List Spelled) (n m : ℕ) (init : List ℕ) (xs ys : List CStat) (a : Assigned) (c : Case) → may_case (step_of ins outs n m init xs) a c ≡ may_case (step_of ins outs n m init ys) a c
case_alike ins outs n m init xs ys a c = ap (λ b. may_read_literal a c.when && b) (choice_alike ins outs n m init xs ys a c.choice)

cases_alike : (ins outs : List Spelled) (n m : ℕ) (init : List ℕ) (xs ys : List CStat) (a : Assigned) (cs : List Case) → list_all (may_case (step_of ins outs n m init xs) a) cs ≡ list_all (may_case (step_of ins outs n m init ys) a) cs
cases_alike ins outs n m init xs ys a [] = refl
cases_alike ins outs n m init xs ys a (c ∷ cs) =
    ap (λ b. b && list_all (may_case (step_of ins outs n m init xs) a) cs) (case_alike ins outs n m init xs ys a c)
    ∙ ap (λ b. may_case (step_of ins outs n m init ys) a c && b) (cases_alike ins outs n m init xs ys a cs)

value_alike : (ins outs : List Spelled) (n m : ℕ) (init : List ℕ) (xs ys : List CStat) (a : Assigned) (v : CValue) → may_be (step_of ins outs n m init xs) a v ≡ may_be (step_of ins outs n m init ys) a v
value_alike ins outs n m init xs ys a (constant b) = refl
value_alike ins outs n m init xs ys a (each_of ls) = refl
value_alike ins outs n m init xs ys a (some_of ls) = refl
value_alike ins outs n m init xs ys a (between w lo hi) = refl
value_alike ins outs n m init xs ys a (digit_of w place) = refl
value_alike ins outs n m init xs ys a (input_of j) = refl

stand_alike : (ins outs : List Spelled) (n m : ℕ) (init : List ℕ) (xs ys : List CStat) (a : Assigned) (x : CStat) → may_stand (step_of ins outs n m init xs) a x ≡ may_stand (step_of ins outs n m init ys) a x
stand_alike ins outs n m init xs ys a (set_bit k v) = ap (λ b. nat_lt k m && b) (value_alike ins outs n m init xs ys a v)
stand_alike ins outs n m init xs ys a (set_word k cs p) =
    ap (λ b. nat_lt k n && (b && may_choose (step_of ins outs n m init xs) a p)) (cases_alike ins outs n m init xs ys a cs)
    ∙ ap (λ b. nat_lt k n && (list_all (may_case (step_of ins outs n m init ys) a) cs && b)) (choice_alike ins outs n m init xs ys a p)
stand_alike ins outs n m init xs ys a (set_out j k) = refl

follow_alike : (ins outs : List Spelled) (n m : ℕ) (init : List ℕ) (xs ys : List CStat) (a : Assigned) (zs : List CStat) → may_follow (step_of ins outs n m init xs) a zs ≡ may_follow (step_of ins outs n m init ys) a zs
follow_alike ins outs n m init xs ys a [] = refl
follow_alike ins outs n m init xs ys a (z ∷ zs) =
    ap (λ b. b && may_follow (step_of ins outs n m init xs) (assigns a z) zs) (stand_alike ins outs n m init xs ys a z)
    ∙ ap (λ b. may_stand (step_of ins outs n m init ys) a z && b) (follow_alike ins outs n m init xs ys (assigns a z) zs)

follow_push : (s : CStep) (a : Assigned) (xs : List CStat) (x : CStat) → IsTrue (may_follow s a xs) → IsTrue (may_stand s (assigned_after a xs) x) → IsTrue (may_follow s a (xs ++ x ∷ []))
follow_push s a [] x h e = and_both (may_stand s a x) true e refl
follow_push s a (y ∷ xs) x h e = and_both _ _ (and_first _ _ h) (follow_push s (assigns a y) xs x (and_second (may_stand s a y) _ h) e)

pub assigned_push : (a : Assigned) (xs : List CStat) (x : CStat) → assigned_after a (xs ++ x ∷ []) ≡ assigns (assigned_after a xs) x
assigned_push a [] x = refl
assigned_push a (y ∷ xs) x = assigned_push (assigns a y) xs x

code_lines_push : (k : ℕ) (cs : List ℕ) (c : ℕ) → code_lines k (cs ++ c ∷ []) ≡ code_lines k cs ++ init_code (k + length cs) c ∷ []
code_lines_push k [] c = ap (λ z. init_code z c ∷ []) (plus_none k)
  where
    plus_none : (k : ℕ) → k ≡ k + 0
    plus_none k = omega arith
code_lines_push k (d ∷ cs) c =
    ap (λ z. init_code k d ∷ z) (code_lines_push (k + 1) cs c) ∙ ap (λ z. init_code k d ∷ (code_lines (k + 1) cs ++ init_code z c ∷ [])) (shifted k (length cs))
  where
    shifted : (k n : ℕ) → k + 1 + n ≡ k + suc n
    shifted k n = omega arith

stat_lines_push : (xs : List CStat) (x : CStat) → flat_map statement_lines (xs ++ x ∷ []) ≡ flat_map statement_lines xs ++ statement_lines x
stat_lines_push [] x = append-nil (statement_lines x)
stat_lines_push (y ∷ xs) x = ap (λ z. statement_lines y ++ z) (stat_lines_push xs x) ∙ sym (append_assoc (statement_lines y) (flat_map statement_lines xs) (statement_lines x))

-- tests and what they say
below : (k n : ℕ) → IsTrue (nat_lt k n) → k < n
below k n h = grind (arith, nat_tests)

below_test : (k n : ℕ) → k < n → IsTrue (nat_lt k n)
below_test k n h = grind (arith, nat_tests)

within : (k n : ℕ) → IsTrue (nat_le k n) → k ≤ n
within k n h = grind (arith, nat_tests)

within_test : (k n : ℕ) → k ≤ n → IsTrue (nat_le k n)
within_test k n h = grind (arith, nat_tests)

same : (k n : ℕ) → IsTrue (nat_eq k n) → k ≡ n
same k n h = grind (arith, nat_tests)

same_test : (k : ℕ) → IsTrue (nat_eq k k)
same_test k = grind (arith, nat_tests)

-- names so far
pub record NamesOk (ins outs : List Spelled) : Type 0 where
  input_limit : length ins ≤ 16384
  output_limit : length outs ≤ 16384
  spelled : IsTrue (list_all is_name (ins ++ outs))
  distinct : AreDistinct (ins ++ outs)

push_spelled : (names : List Spelled) (a : Spelled) → IsTrue (list_all is_name names) → is_name a ≡ true → IsTrue (list_all is_name (names ++ a ∷ []))
push_spelled names a h e = list_all-append is_name names (a ∷ []) ∙ and_both _ _ h (and_both (is_name a) true e refl)

push_input : (ins : List Spelled) (a : Spelled) → NamesOk ins [] → is_name a ≡ true → is_one_of (ins ++ []) a ≡ false → length ins < 16384 → NamesOk (ins ++ a ∷ []) []
push_input ins a h n e l = record {
  input_limit = omega (arith, length-append ins (a ∷ []));
  output_limit = h.output_limit;
  spelled = subst (λ z. IsTrue (list_all is_name z)) (sym (append-nil (ins ++ a ∷ []))) (push_spelled ins a (subst (λ z. IsTrue (list_all is_name z)) (append-nil ins) h.spelled) n);
  distinct = subst AreDistinct (sym (append-nil (ins ++ a ∷ []))) (are_distinct-push ins a (subst AreDistinct (append-nil ins) h.distinct) (ap (λ z. is_one_of z a) (sym (append-nil ins)) ∙ e));
}

push_output : (ins outs : List Spelled) (a : Spelled) → NamesOk ins outs → is_name a ≡ true → is_one_of (ins ++ outs) a ≡ false → length outs < 16384 → NamesOk ins (outs ++ a ∷ [])
push_output ins outs a h n e l = record {
  input_limit = h.input_limit;
  output_limit = omega (arith, length-append outs (a ∷ []));
  spelled = subst (λ z. IsTrue (list_all is_name z)) (append_assoc ins outs (a ∷ [])) (push_spelled (ins ++ outs) a h.spelled n);
  distinct = subst AreDistinct (append_assoc ins outs (a ∷ [])) (are_distinct-push (ins ++ outs) a h.distinct e);
}

-- the lines up to each part
abbrev pub L₁ : List Spelled → List CLine
L₁ ins = opening ∷ map input_comment ins

abbrev pub L₂ : List Spelled → List Spelled → List CLine
L₂ ins outs = L₁ ins ++ map output_comment outs

abbrev pub L₃ : List Spelled → List Spelled → ℕ → ℕ → List CLine
L₃ ins outs n m = L₂ ins outs ++ array_sizes n m ∷ []

abbrev pub L₅ : List Spelled → List Spelled → ℕ → ℕ → List ℕ → List CLine
L₅ ins outs n m init = (L₃ ins outs n m ++ init_head ∷ []) ++ code_lines 0 init

abbrev pub L₇ : List Spelled → List Spelled → ℕ → ℕ → List ℕ → List CLine
L₇ ins outs n m init = (L₅ ins outs n m init ++ closing ∷ []) ++ step_head ∷ []

abbrev pub L₈ : List Spelled → List Spelled → ℕ → ℕ → List ℕ → List CStat → List CLine
L₈ ins outs n m init xs = L₇ ins outs n m init ++ flat_map statement_lines xs

abbrev pub chain_lines : ℕ → Case → List Case → List CLine
chain_lines k c cs = first_case k c ∷ map (further_case k) cs

-- the arrays and registers so far
pub record Sizes (n m : ℕ) (init : List ℕ) : Type 0 where
  words : IsTrue (is_size n)
  bits : IsTrue (is_size m)
  pub room : length init ≤ n
  codes : IsTrue (list_all (λ c. nat_le c 65535) init)

abbrev pub Stands : List Spelled → List Spelled → ℕ → ℕ → List ℕ → List CStat → Type 0
Stands ins outs n m init xs = IsTrue (may_follow (step_of ins outs n m init xs) nothing_assigned xs)

-- a stage that lines lead to
pub data Reached (front : List CLine) (t : CStage) : Type 0 where
  opened : front ≡ [] → t ≡ c_stage opening_due no_step nothing_assigned → Reached front t
  in_inputs : (ins : List Spelled) → NamesOk ins [] → front ≡ L₁ ins → t ≡ c_stage inputs_due (step_of ins [] 0 0 [] []) nothing_assigned → Reached front t
  in_outputs : (ins outs : List Spelled) → NamesOk ins outs → front ≡ L₂ ins outs → t ≡ c_stage outputs_due (step_of ins outs 0 0 [] []) nothing_assigned → Reached front t
  in_init : (ins outs : List Spelled) (n m : ℕ) → NamesOk ins outs → Sizes n m [] → front ≡ L₃ ins outs n m → t ≡ c_stage init_due (step_of ins outs n m [] []) nothing_assigned → Reached front t
  in_codes : (ins outs : List Spelled) (n m : ℕ) (init : List ℕ) → NamesOk ins outs → Sizes n m init → front ≡ L₅ ins outs n m init → t ≡ c_stage codes_due (step_of ins outs n m init []) nothing_assigned → Reached front t
  in_step : (ins outs : List Spelled) (n m : ℕ) (init : List ℕ) → NamesOk ins outs → Sizes n m init → 1 ≤ length init → front ≡ L₅ ins outs n m init ++ closing ∷ [] → t ≡ c_stage step_due (step_of ins outs n m init []) nothing_assigned → Reached front t
  in_statements : (ins outs : List Spelled) (n m : ℕ) (init : List ℕ) (xs : List CStat) → NamesOk ins outs → Sizes n m init → 1 ≤ length init → Stands ins outs n m init xs → front ≡ L₈ ins outs n m init xs
      → t ≡ c_stage statements_due (step_of ins outs n m init xs) (assigned_after nothing_assigned xs) → Reached front t
  in_cases : (ins outs : List Spelled) (n m : ℕ) (init : List ℕ) (xs : List CStat) (k : ℕ) (c : Case) (cs : List Case) → NamesOk ins outs → Sizes n m init → 1 ≤ length init → Stands ins outs n m init xs
      → IsTrue (nat_lt k n) → IsTrue (list_all (may_case (step_of ins outs n m init xs) (assigned_after nothing_assigned xs)) (c ∷ cs)) → front ≡ L₈ ins outs n m init xs ++ chain_lines k c cs
      → t ≡ c_stage (cases_due k (c ∷ cs)) (step_of ins outs n m init xs) (assigned_after nothing_assigned xs) → Reached front t
  ended : (ins outs : List Spelled) (n m : ℕ) (init : List ℕ) (xs : List CStat) → NamesOk ins outs → Sizes n m init → 1 ≤ length init → Stands ins outs n m init xs → IsTrue (all_listed (length outs) (assigned_after nothing_assigned xs).outs)
      → front ≡ L₈ ins outs n m init xs ++ closing ∷ [] → t ≡ c_stage nothing_due (step_of ins outs n m init xs) (assigned_after nothing_assigned xs) → Reached front t

-- a statement more
push_statement : (ins outs : List Spelled) (n m : ℕ) (init : List ℕ) (xs : List CStat) (x : CStat) → NamesOk ins outs → Sizes n m init → 1 ≤ length init → Stands ins outs n m init xs
    → IsTrue (may_stand (step_of ins outs n m init xs) (assigned_after nothing_assigned xs) x) → (front : List CLine) → front ≡ L₈ ins outs n m init xs ++ statement_lines x → Reached front (with_statement (step_of ins outs n m init xs) (assigned_after nothing_assigned xs) x)
push_statement ins outs n m init xs x names sizes some stands h front e =
    in_statements ins outs n m init (xs ++ x ∷ []) names sizes some
    (subst IsTrue (follow_alike ins outs n m init xs (xs ++ x ∷ []) nothing_assigned (xs ++ x ∷ [])) (follow_push (step_of ins outs n m init xs) nothing_assigned xs x stands h))
    (e ∙ append_assoc (L₇ ins outs n m init) (flat_map statement_lines xs) (statement_lines x) ∙ ap (λ z. L₇ ins outs n m init ++ z) (sym (stat_lines_push xs x)))
    (ap (λ z. c_stage statements_due (step_of ins outs n m init (xs ++ x ∷ [])) z) (sym (assigned_push nothing_assigned xs x)))

from_opened : (c : CLine) → IsTrue (is_due_at opening_due no_step nothing_assigned c) → Reached (c ∷ []) (after_at (c_stage opening_due no_step nothing_assigned) c)
from_opened opening h = in_inputs [] (record { input_limit = omega arith; output_limit = omega arith; spelled = refl; distinct = refl }) refl refl
from_opened c h = absurd (cc h)

from_inputs : (ins : List Spelled) (c : CLine) → NamesOk ins [] → IsTrue (is_due_at inputs_due (step_of ins [] 0 0 [] []) nothing_assigned c) → Reached (L₁ ins ++ c ∷ []) (after_at (c_stage inputs_due (step_of ins [] 0 0 [] []) nothing_assigned) c)
from_inputs ins (input_comment a) names h =
    let new = and_first (is_new_name (step_of ins [] 0 0 [] []) a) _ h in
    in_inputs (ins ++ a ∷ []) (push_input ins a names (and_first (is_name a) _ new) (not_false _ (and_second (is_name a) _ new)) (below _ _ (and_second (is_new_name (step_of ins [] 0 0 [] []) a) _ h)))
    (ap (λ z. opening ∷ z) (sym (map-append input_comment ins (a ∷ [])))) refl
from_inputs ins (output_comment a) names h =
    let new = and_first (is_new_name (step_of ins [] 0 0 [] []) a) _ h in
    in_outputs ins (a ∷ []) (push_output ins [] a names (and_first (is_name a) _ new) (not_false _ (and_second (is_name a) _ new)) (below _ _ (and_second (is_new_name (step_of ins [] 0 0 [] []) a) _ h))) refl refl
from_inputs ins (array_sizes n m) names h = in_init ins [] n m names (record { words = and_first _ _ h; bits = and_second (is_size n) _ h; room = omega arith; codes = refl }) (ap (λ z. z ++ array_sizes n m ∷ []) (sym (append-nil (L₁ ins)))) refl
from_inputs ins c names h = absurd (cc h)

from_outputs : (ins outs : List Spelled) (c : CLine) → NamesOk ins outs → IsTrue (is_due_at outputs_due (step_of ins outs 0 0 [] []) nothing_assigned c) → Reached (L₂ ins outs ++ c ∷ []) (after_at (c_stage outputs_due (step_of ins outs 0 0 [] []) nothing_assigned) c)
from_outputs ins outs (output_comment a) names h =
    let new = and_first (is_new_name (step_of ins outs 0 0 [] []) a) _ h in
    in_outputs ins (outs ++ a ∷ []) (push_output ins outs a names (and_first (is_name a) _ new) (not_false _ (and_second (is_name a) _ new)) (below _ _ (and_second (is_new_name (step_of ins outs 0 0 [] []) a) _ h)))
    (append_assoc (L₁ ins) (map output_comment outs) (output_comment a ∷ []) ∙ ap (λ z. L₁ ins ++ z) (sym (map-append output_comment outs (a ∷ [])))) refl
from_outputs ins outs (array_sizes n m) names h = in_init ins outs n m names (record { words = and_first _ _ h; bits = and_second (is_size n) _ h; room = omega arith; codes = refl }) refl refl
from_outputs ins outs c names h = absurd (cc h)

from_init : (ins outs : List Spelled) (n m : ℕ) (c : CLine) → NamesOk ins outs → Sizes n m [] → IsTrue (is_due_at init_due (step_of ins outs n m [] []) nothing_assigned c) → Reached (L₃ ins outs n m ++ c ∷ []) (after_at (c_stage init_due (step_of ins outs n m [] []) nothing_assigned) c)
from_init ins outs n m init_head names sizes h = in_codes ins outs n m [] names sizes (sym (append-nil (L₃ ins outs n m ++ init_head ∷ []))) refl
from_init ins outs n m c names sizes h = absurd (cc h)

from_codes : (ins outs : List Spelled) (n m : ℕ) (init : List ℕ) (c : CLine) → NamesOk ins outs → Sizes n m init → IsTrue (is_due_at codes_due (step_of ins outs n m init []) nothing_assigned c) → Reached (L₅ ins outs n m init ++ c ∷ []) (after_at (c_stage codes_due (step_of ins outs n m init []) nothing_assigned) c)
from_codes ins outs n m init (init_code k d) names sizes h =
    let at : k ≡ length init = same k (length init) (and_first (nat_eq k (length init)) _ h) in
    let rest = and_second (nat_eq k (length init)) _ h in
    let fits : k < n = below k n (and_first _ _ rest) in
    let small : IsTrue (nat_le d 65535) = and_second (nat_lt k n) _ rest in
    let front : List CLine = L₃ ins outs n m ++ init_head ∷ [] in
    in_codes ins outs n m (init ++ d ∷ []) names
    (record { words = sizes.words; bits = sizes.bits; room = omega (arith, length-append init (d ∷ [])); codes = list_all-append (λ c. nat_le c 65535) init (d ∷ []) ∙ and_both _ _ sizes.codes (and_both (nat_le d 65535) true small refl) })
    (append_assoc front (code_lines 0 init) (init_code k d ∷ []) ∙ ap (λ z. front ++ (code_lines 0 init ++ init_code z d ∷ [])) (from_zero k (length init) at) ∙ ap (λ z. front ++ z) (sym (code_lines_push 0 init d))) refl
  where
    from_zero : (k n : ℕ) → k ≡ n → k ≡ 0 + n
    from_zero k n h = omega arith
from_codes ins outs n m init closing names sizes h = in_step ins outs n m init names sizes (within 1 (length init) h) refl refl
from_codes ins outs n m init c names sizes h = absurd (cc h)

from_step : (ins outs : List Spelled) (n m : ℕ) (init : List ℕ) (c : CLine) → NamesOk ins outs → Sizes n m init → 1 ≤ length init → IsTrue (is_due_at step_due (step_of ins outs n m init []) nothing_assigned c) → Reached ((L₅ ins outs n m init ++ closing ∷ []) ++ c ∷ []) (after_at (c_stage step_due (step_of ins outs n m init []) nothing_assigned) c)
from_step ins outs n m init step_head names sizes some h = in_statements ins outs n m init [] names sizes some refl (sym (append-nil (L₇ ins outs n m init))) refl
from_step ins outs n m init c names sizes some h = absurd (cc h)

from_statements : (ins outs : List Spelled) (n m : ℕ) (init : List ℕ) (xs : List CStat) (c : CLine) → NamesOk ins outs → Sizes n m init → 1 ≤ length init → Stands ins outs n m init xs
    → IsTrue (is_due_at statements_due (step_of ins outs n m init xs) (assigned_after nothing_assigned xs) c) → Reached (L₈ ins outs n m init xs ++ c ∷ []) (after_at (c_stage statements_due (step_of ins outs n m init xs) (assigned_after nothing_assigned xs)) c)
from_statements ins outs n m init xs (bit_line k v) names sizes some stands h = push_statement ins outs n m init xs (set_bit k v) names sizes some stands h (L₈ ins outs n m init xs ++ bit_line k v ∷ []) refl
from_statements ins outs n m init xs (word_line k p) names sizes some stands h = push_statement ins outs n m init xs (set_word k [] p) names sizes some stands h (L₈ ins outs n m init xs ++ word_line k p ∷ []) refl
from_statements ins outs n m init xs (out_line j k) names sizes some stands h = push_statement ins outs n m init xs (set_out j k) names sizes some stands h (L₈ ins outs n m init xs ++ out_line j k ∷ []) refl
from_statements ins outs n m init xs (first_case k c) names sizes some stands h =
    in_cases ins outs n m init xs k c [] names sizes some stands (and_first (nat_lt k n) _ h) (and_both (may_case (step_of ins outs n m init xs) (assigned_after nothing_assigned xs) c) true (and_second (nat_lt k n) _ h) refl) refl refl
from_statements ins outs n m init xs closing names sizes some stands h = ended ins outs n m init xs names sizes some stands h refl refl
from_statements ins outs n m init xs c names sizes some stands h = absurd (cc h)

from_cases : (ins outs : List Spelled) (n m : ℕ) (init : List ℕ) (xs : List CStat) (k : ℕ) (d : Case) (ds : List Case) (c : CLine) → NamesOk ins outs → Sizes n m init → 1 ≤ length init → Stands ins outs n m init xs → IsTrue (nat_lt k n)
    → IsTrue (list_all (may_case (step_of ins outs n m init xs) (assigned_after nothing_assigned xs)) (d ∷ ds)) → IsTrue (is_due_at (cases_due k (d ∷ ds)) (step_of ins outs n m init xs) (assigned_after nothing_assigned xs) c)
    → Reached ((L₈ ins outs n m init xs ++ chain_lines k d ds) ++ c ∷ []) (after_at (c_stage (cases_due k (d ∷ ds)) (step_of ins outs n m init xs) (assigned_after nothing_assigned xs)) c)
from_cases ins outs n m init xs k d ds (further_case j c) names sizes some stands room cases h =
    let at : k ≡ j = same k j (and_first (nat_eq k j) _ h) in
    let s : CStep = step_of ins outs n m init xs in
    let a : Assigned = assigned_after nothing_assigned xs in
    let may : IsTrue (may_case s a c) = and_second (nat_eq k j) _ h in
    let all : IsTrue (list_all (may_case s a) (d ∷ (ds ++ c ∷ []))) = list_all-append (may_case s a) (d ∷ ds) (c ∷ []) ∙ and_both _ _ cases (and_both (may_case s a c) true may refl) in
    in_cases ins outs n m init xs j d (ds ++ c ∷ []) names sizes some stands (subst (λ z. IsTrue (nat_lt z n)) at room) all
    (append_assoc (L₈ ins outs n m init xs) (chain_lines k d ds) (further_case j c ∷ [])
    ∙ ap (λ z. L₈ ins outs n m init xs ++ (chain_lines z d ds ++ further_case j c ∷ [])) at
    ∙ ap (λ z. L₈ ins outs n m init xs ++ (first_case j d ∷ z)) (sym (map-append (further_case j) ds (c ∷ [])))) refl
from_cases ins outs n m init xs k d ds (last_case j p) names sizes some stands room cases h =
    let at : k ≡ j = same k j (and_first (nat_eq k j) _ h) in
    let s : CStep = step_of ins outs n m init xs in
    let a : Assigned = assigned_after nothing_assigned xs in
    let may : IsTrue (may_choose s a p) = and_second (nat_eq k j) _ h in
    push_statement ins outs n m init xs (set_word j (d ∷ ds) p) names sizes some stands (and_both _ _ (subst (λ z. IsTrue (nat_lt z n)) at room) (and_both _ _ cases may)) ((L₈ ins outs n m init xs ++ chain_lines k d ds) ++ last_case j p ∷ [])
    (append_assoc (L₈ ins outs n m init xs) (chain_lines k d ds) (last_case j p ∷ []) ∙ ap (λ z. L₈ ins outs n m init xs ++ (chain_lines z d ds ++ last_case j p ∷ [])) at)
from_cases ins outs n m init xs k d ds c names sizes some stands room cases h = absurd (cc h)

-- one line more
due_here : (t u : CStage) (c : CLine) → t ≡ u → IsTrue (F.is_due t c) → IsTrue (F.is_due u c)
due_here t u c e h = subst (λ z. IsTrue (F.is_due z c)) e h

moved : (front front' : List CLine) (t u : CStage) (c : CLine) → front ≡ front' → t ≡ u → Reached (front' ++ c ∷ []) (after_at u c) → Reached (front ++ c ∷ []) (after_at t c)
moved front front' t u c e f r = subst (λ z. Reached (z ++ c ∷ []) (after_at t c)) (sym e) (subst (λ z. Reached (front' ++ c ∷ []) (after_at z c)) (sym f) r)

one_more : (front : List CLine) (t : CStage) (c : CLine) → Reached front t → IsTrue (F.is_due t c) → Reached (front ++ c ∷ []) (after_at t c)
one_more front t c (opened e f) h = moved front _ t _ c e f (from_opened c (due_here t _ c f h))
one_more front t c (in_inputs ins names e f) h = moved front _ t _ c e f (from_inputs ins c names (due_here t _ c f h))
one_more front t c (in_outputs ins outs names e f) h = moved front _ t _ c e f (from_outputs ins outs c names (due_here t _ c f h))
one_more front t c (in_init ins outs n m names sizes e f) h = moved front _ t _ c e f (from_init ins outs n m c names sizes (due_here t _ c f h))
one_more front t c (in_codes ins outs n m init names sizes e f) h = moved front _ t _ c e f (from_codes ins outs n m init c names sizes (due_here t _ c f h))
one_more front t c (in_step ins outs n m init names sizes some e f) h = moved front _ t _ c e f (from_step ins outs n m init c names sizes some (due_here t _ c f h))
one_more front t c (in_statements ins outs n m init xs names sizes some stands e f) h = moved front _ t _ c e f (from_statements ins outs n m init xs c names sizes some stands (due_here t _ c f h))
one_more front t c (in_cases ins outs n m init xs k d ds names sizes some stands room cases e f) h = moved front _ t _ c e f (from_cases ins outs n m init xs k d ds c names sizes some stands room cases (due_here t _ c f h))
one_more front t c (ended ins outs n m init xs names sizes some stands outs_set e f) h = absurd (none c (due_here t _ c f h))
  where
    none : (c : CLine) → IsTrue (is_due_at nothing_due (step_of ins outs n m init xs) (assigned_after nothing_assigned xs) c) → ⊥
    none c h = cc h

pub all_reached : (front lines : List CLine) (t u : CStage) → Reached front t → Leads F t lines u → Reached (front ++ lines) u
all_reached front [] t u r l = subst (λ z. Reached z u) (sym (append-nil front)) (subst (Reached front) (sym l) r)
all_reached front (c ∷ lines) t u r l = subst (λ z. Reached z u) (append_assoc front (c ∷ []) lines) (all_reached (front ++ c ∷ []) lines (after_at t c) u (one_more front t c r l.0) l.2)

listed_below : (n : ℕ) (ks : List ℕ) → IsTrue (all_listed n ks) → AllListed n ks
listed_below zero ks h k t = let l : k < 0 = below k 0 t in absurd (omega arith)
listed_below (suc n) ks h k t = elim (last_or_below k n t) [
  | inl e ↦ subst (λ z. IsTrue (lists ks z)) e (and_first (lists ks n) _ h)
  | inr l ↦ listed_below n ks (and_second (lists ks n) _ h) k l
]
  where
    last_or_below : (k n : ℕ) → IsTrue (nat_lt k (suc n)) → (n ≡ k) ⊎ IsTrue (nat_lt k n)
    last_or_below k n h = grind (arith, nat_tests)

below_listed : (n : ℕ) (ks : List ℕ) → AllListed n ks → IsTrue (all_listed n ks)
below_listed zero ks h = refl
below_listed (suc n) ks h = and_both _ _ (h n (below_test n (suc n) (omega arith))) (below_listed n ks (λ k t. h k (wider k n t)))
  where
    wider : (k n : ℕ) → IsTrue (nat_lt k n) → IsTrue (nat_lt k (suc n))
    wider k n h = grind (arith, nat_tests)

all_lines : (ins outs : List Spelled) (n m : ℕ) (init : List ℕ) (xs : List CStat) → L₈ ins outs n m init xs ++ closing ∷ [] ≡ c_lines (step_of ins outs n m init xs)
all_lines ins outs n m init xs = simp append_assoc

kept_step : (ins outs : List Spelled) (n m : ℕ) (init : List ℕ) (xs : List CStat) → NamesOk ins outs → Sizes n m init → 1 ≤ length init → Stands ins outs n m init xs → IsTrue (all_listed (length outs) (assigned_after nothing_assigned xs).outs) → IsCStep (step_of ins outs n m init xs)
kept_step ins outs n m init xs names sizes some stands set = record {
  input_limit = names.input_limit;
  output_limit = names.output_limit;
  spelled = names.spelled;
  distinct = names.distinct;
  some_word = within 1 n (and_first (nat_le 1 n) _ sizes.words);
  word_limit = within n 200000000 (and_second (nat_le 1 n) _ sizes.words);
  some_bit = within 1 m (and_first (nat_le 1 m) _ sizes.bits);
  bit_limit = within m 200000000 (and_second (nat_le 1 m) _ sizes.bits);
  some_register = some;
  room = sizes.room;
  codes = sizes.codes;
  reads = stands;
  outs = listed_below (length outs) (assigned_after nothing_assigned xs).outs set;
}

not_ended : (p q : CPart) → p ≡ q → is_finished q ≡ false → IsTrue (is_finished p) → ⊥
not_ended p q e f h = let no : true ≡ false = sym h ∙ ap is_finished e ∙ f in cc no

pub reached_text : (bs : List ℕ) (lines : List CLine) (t : CStage) → Reached lines t → IsTrue (is_finished t.due) → bs ≡ lines_then F lines [] → IsCText bs t.step
reached_text bs lines t (opened e f) h b = absurd (not_ended t.due opening_due (ap (λ (z : CStage). z.due) f) refl h)
reached_text bs lines t (in_inputs ins names e f) h b = absurd (not_ended t.due inputs_due (ap (λ (z : CStage). z.due) f) refl h)
reached_text bs lines t (in_outputs ins outs names e f) h b = absurd (not_ended t.due outputs_due (ap (λ (z : CStage). z.due) f) refl h)
reached_text bs lines t (in_init ins outs n m names sizes e f) h b = absurd (not_ended t.due init_due (ap (λ (z : CStage). z.due) f) refl h)
reached_text bs lines t (in_codes ins outs n m init names sizes e f) h b = absurd (not_ended t.due codes_due (ap (λ (z : CStage). z.due) f) refl h)
reached_text bs lines t (in_step ins outs n m init names sizes some e f) h b = absurd (not_ended t.due step_due (ap (λ (z : CStage). z.due) f) refl h)
reached_text bs lines t (in_statements ins outs n m init xs names sizes some stands e f) h b = absurd (not_ended t.due statements_due (ap (λ (z : CStage). z.due) f) refl h)
reached_text bs lines t (in_cases ins outs n m init xs k c cs names sizes some stands room cases e f) h b = absurd (not_ended t.due (cases_due k (c ∷ cs)) (ap (λ (z : CStage). z.due) f) refl h)
reached_text bs lines t (ended ins outs n m init xs names sizes some stands set e f) h b =
    let text : IsCText bs (step_of ins outs n m init xs) = record { step = kept_step ins outs n m init xs names sizes some stands set; text = b ∙ ap (λ z. lines_then F z []) (e ∙ all_lines ins outs n m init xs) } in
    subst (λ (z : CStep). IsCText bs z) (sym (ap (λ (z : CStage). z.step) f)) text

pub file_is_text : (bs : List ℕ) (t : CStage) → IsFile F bs t → IsCText bs t.step
file_is_text bs t h = reached_text bs h.lines t (all_reached [] h.lines F.start t (opened refl refl) h.leads) h.whole h.text

-- the other way: the lines of a step lead to the end
abbrev S₁ : List Spelled → CStage
S₁ ins = c_stage inputs_due (step_of ins [] 0 0 [] []) nothing_assigned

abbrev part_of : List Spelled → CPart
part_of [] = inputs_due
part_of (a ∷ outs) = outputs_due

abbrev S₂ : List Spelled → List Spelled → CStage
S₂ ins outs = c_stage (part_of outs) (step_of ins outs 0 0 [] []) nothing_assigned

abbrev S₅ : List Spelled → List Spelled → ℕ → ℕ → List ℕ → CStage
S₅ ins outs n m init = c_stage codes_due (step_of ins outs n m init []) nothing_assigned

abbrev S₈ : List Spelled → List Spelled → ℕ → ℕ → List ℕ → List CStat → Assigned → CStage
S₈ ins outs n m init xs a = c_stage statements_due (step_of ins outs n m init xs) a

new_name : (s : CStep) (a : Spelled) → is_name a ≡ true → is_one_of (s.names.inputs ++ s.names.outputs) a ≡ false → IsTrue (is_new_name s a)
new_name s a h e = and_both (is_name a) _ h (false_not _ e)

inputs_lead : (xs ys : List Spelled) (behind : List CLine) (t : CStage) → IsTrue (list_all is_name ys) → AreDistinct (xs ++ ys) → length (xs ++ ys) ≤ 16384 → Leads F (S₁ (xs ++ ys)) behind t → Leads F (S₁ xs) (map input_comment ys ++ behind) t
inputs_lead xs [] behind t n d l h = subst (λ z. Leads F (S₁ z) behind t) (append-nil xs) h
inputs_lead xs (y ∷ ys) behind t n d l h =
    let absent : is_one_of (xs ++ []) y ≡ false = ap (λ z. is_one_of z y) (append-nil xs) ∙ not_before xs y ys d in
    let room : IsTrue (nat_lt (length xs) 16384) = below_test (length xs) 16384 (omega (arith, length-append xs (y ∷ ys))) in
    let shift : (xs ++ y ∷ []) ++ ys ≡ xs ++ y ∷ ys = append_assoc xs (y ∷ []) ys in
    let rest : Leads F (S₁ (xs ++ y ∷ [])) (map input_comment ys ++ behind) t =
    inputs_lead (xs ++ y ∷ []) ys behind t (and_second (is_name y) _ n) (subst AreDistinct (sym shift) d) (subst (λ z. length z ≤ 16384) (sym shift) l) (subst (λ z. Leads F (S₁ z) behind t) (sym shift) h)
    in
    (and_both (is_new_name (step_of xs [] 0 0 [] []) y) _ (new_name (step_of xs [] 0 0 [] []) y (and_first _ _ n) absent) room, refl, rest)

output_due : (ins xs : List Spelled) (y : Spelled) → is_due_at (part_of xs) (step_of ins xs 0 0 [] []) nothing_assigned (output_comment y) ≡ (is_new_name (step_of ins xs 0 0 [] []) y && nat_lt (length xs) 16384)
output_due ins [] y = refl
output_due ins (x ∷ xs) y = refl

sizes_due : (ins xs : List Spelled) (n m : ℕ) → is_due_at (part_of xs) (step_of ins xs 0 0 [] []) nothing_assigned (array_sizes n m) ≡ (is_size n && is_size m)
sizes_due ins [] n m = refl
sizes_due ins (x ∷ xs) n m = refl

part_push : (xs : List Spelled) (y : Spelled) → part_of (xs ++ y ∷ []) ≡ outputs_due
part_push [] y = refl
part_push (x ∷ xs) y = refl

outputs_lead : (ins xs ys : List Spelled) (behind : List CLine) (t : CStage) → IsTrue (list_all is_name ys) → AreDistinct (ins ++ (xs ++ ys)) → length (xs ++ ys) ≤ 16384 → Leads F (S₂ ins (xs ++ ys)) behind t → Leads F (S₂ ins xs) (map output_comment ys ++ behind) t
outputs_lead ins xs [] behind t n d l h = subst (λ z. Leads F (S₂ ins z) behind t) (append-nil xs) h
outputs_lead ins xs (y ∷ ys) behind t n d l h =
    let absent : is_one_of (ins ++ xs) y ≡ false = not_before (ins ++ xs) y ys (subst AreDistinct (sym (append_assoc ins xs (y ∷ ys))) d) in
    let room : IsTrue (nat_lt (length xs) 16384) = below_test (length xs) 16384 (omega (arith, length-append xs (y ∷ ys))) in
    let shift : (xs ++ y ∷ []) ++ ys ≡ xs ++ y ∷ ys = append_assoc xs (y ∷ []) ys in
    let rest : Leads F (S₂ ins (xs ++ y ∷ [])) (map output_comment ys ++ behind) t =
    outputs_lead ins (xs ++ y ∷ []) ys behind t (and_second (is_name y) _ n) (subst (λ z. AreDistinct (ins ++ z)) (sym shift) d) (subst (λ z. length z ≤ 16384) (sym shift) l) (subst (λ z. Leads F (S₂ ins z) behind t) (sym shift) h)
    in (
      output_due ins xs y ∙ and_both (is_new_name (step_of ins xs 0 0 [] []) y) _ (new_name (step_of ins xs 0 0 [] []) y (and_first _ _ n) absent) room,
      refl,
      subst (λ z. Leads F (c_stage z (step_of ins (xs ++ y ∷ []) 0 0 [] []) nothing_assigned) (map output_comment ys ++ behind) t) (part_push xs y) rest,
    )

codes_lead : (ins outs : List Spelled) (n m : ℕ) (xs ys : List ℕ) (k : ℕ) (behind : List CLine) (t : CStage) → k ≡ length xs → IsTrue (list_all (λ c. nat_le c 65535) ys) → length (xs ++ ys) ≤ n → Leads F (S₅ ins outs n m (xs ++ ys)) behind t → Leads F (S₅ ins outs n m xs) (code_lines k ys ++ behind) t
codes_lead ins outs n m xs [] k behind t e c l h = subst (λ z. Leads F (S₅ ins outs n m z) behind t) (append-nil xs) h
codes_lead ins outs n m xs (y ∷ ys) k behind t e c l h =
    let shift : (xs ++ y ∷ []) ++ ys ≡ xs ++ y ∷ ys = append_assoc xs (y ∷ []) ys in
    let at : IsTrue (nat_eq k (length xs)) = subst (λ z. IsTrue (nat_eq k z)) e (same_test k) in
    let fits : IsTrue (nat_lt k n) = below_test k n (omega (arith, length-append xs (y ∷ ys))) in
    let next : k + 1 ≡ length (xs ++ y ∷ []) = omega (arith, length-append xs (y ∷ [])) in
    let rest : Leads F (S₅ ins outs n m (xs ++ y ∷ [])) (code_lines (k + 1) ys ++ behind) t =
    codes_lead ins outs n m (xs ++ y ∷ []) ys (k + 1) behind t next (and_second (nat_le y 65535) _ c) (subst (λ z. length z ≤ n) (sym shift) l) (subst (λ z. Leads F (S₅ ins outs n m z) behind t) (sym shift) h)
    in
    (and_both _ _ at (and_both _ _ fits (and_first _ _ c)), refl, rest)

-- a chain of cases, then what follows the statement
chain_leads : (s : CStep) (a : Assigned) (k : ℕ) (cs ds : List Case) (p : Choice) (behind : List CLine) (t : CStage) → IsTrue (list_all (may_case s a) ds) → IsTrue (may_choose s a p) → Leads F (with_statement s a (set_word k (cs ++ ds) p)) behind t
    → Leads F (c_stage (cases_due k cs) s a) ((map (further_case k) ds ++ last_case k p ∷ []) ++ behind) t
chain_leads s a k cs [] p behind t d h l = (and_both _ _ (same_test k) h, refl, subst (λ z. Leads F (with_statement s a (set_word k z p)) behind t) (append-nil cs) l)
chain_leads s a k cs (e ∷ ds) p behind t d h l = (
  and_both _ _ (same_test k) (and_first _ _ d),
  refl,
  chain_leads s a k (cs ++ e ∷ []) ds p behind t (and_second (may_case s a e) _ d) h (subst (λ z. Leads F (with_statement s a (set_word k z p)) behind t) (sym (append_assoc cs (e ∷ []) ds)) l),
)

statement_leads : (s : CStep) (a : Assigned) (x : CStat) (behind : List CLine) (t : CStage) → IsTrue (may_stand s a x) → Leads F (with_statement s a x) behind t → Leads F (c_stage statements_due s a) (statement_lines x ++ behind) t
statement_leads s a (set_bit k v) behind t h l = (h, refl, l)
statement_leads s a (set_word k [] p) behind t h l = (h, refl, l)
statement_leads s a (set_word k (c ∷ cs) p) behind t h l =
    let rest = and_second (nat_lt k s.words) _ h in
    let cases : IsTrue (list_all (may_case s a) (c ∷ cs)) = and_first _ _ rest in
    (and_both (nat_lt k s.words) (may_case s a c) (and_first (nat_lt k s.words) _ h) (and_first (may_case s a c) _ cases), refl, chain_leads s a k (c ∷ []) cs p behind t (and_second (may_case s a c) _ cases) (and_second (list_all (may_case s a) (c ∷ cs)) _ rest) l)
statement_leads s a (set_out j k) behind t h l = (h, refl, l)

statements_lead : (ins outs : List Spelled) (n m : ℕ) (init : List ℕ) (xs ys : List CStat) (a : Assigned) (behind : List CLine) (t : CStage) → IsTrue (may_follow (step_of ins outs n m init []) a ys) → Leads F (S₈ ins outs n m init (xs ++ ys) (assigned_after a ys)) behind t
    → Leads F (S₈ ins outs n m init xs a) (flat_map statement_lines ys ++ behind) t
statements_lead ins outs n m init xs [] a behind t h l = subst (λ z. Leads F (S₈ ins outs n m init z a) behind t) (append-nil xs) l
statements_lead ins outs n m init xs (y ∷ ys) a behind t h l =
    let may : IsTrue (may_stand (step_of ins outs n m init xs) a y) = stand_alike ins outs n m init xs [] a y ∙ and_first _ _ h in
    let rest : Leads F (S₈ ins outs n m init (xs ++ y ∷ []) (assigns a y)) (flat_map statement_lines ys ++ behind) t =
    statements_lead ins outs n m init (xs ++ y ∷ []) ys (assigns a y) behind t (and_second (may_stand (step_of ins outs n m init []) a y) _ h) (subst (λ z. Leads F (S₈ ins outs n m init z (assigned_after (assigns a y) ys)) behind t) (sym (append_assoc xs (y ∷ []) ys)) l)
    in
    subst (λ z. Leads F (S₈ ins outs n m init xs a) z t) (sym (append_assoc (statement_lines y) (flat_map statement_lines ys) behind)) (statement_leads (step_of ins outs n m init xs) a y (flat_map statement_lines ys ++ behind) t may rest)

size_test : (n : ℕ) → 1 ≤ n → n ≤ 200000000 → IsTrue (is_size n)
size_test n h e = and_both _ _ (within_test 1 n h) (within_test n 200000000 e)

pub step_leads : (s : CStep) → IsCStep s → Leads F F.start (c_lines s) (c_stage nothing_due s (assigned_after nothing_assigned s.statements))
step_leads s h =
    let ins : List Spelled = s.names.inputs in
    let outs : List Spelled = s.names.outputs in
    let n : ℕ = s.words in
    let m : ℕ = s.bits in
    let init : List ℕ = s.initial in
    let xs : List CStat = s.statements in
    let a : Assigned = assigned_after nothing_assigned xs in
    let t : CStage = c_stage nothing_due s a in
    let both : IsTrue (list_all is_name ins && list_all is_name outs) = sym (list_all-append is_name ins outs) ∙ h.spelled in
    let end : Leads F (S₈ ins outs n m init xs a) (closing ∷ []) t = (below_listed (length outs) a.outs h.outs, refl, refl) in
    let behind₈ : List CLine = flat_map statement_lines xs ++ closing ∷ [] in
    let reads : IsTrue (may_follow (step_of ins outs n m init []) nothing_assigned xs) = follow_alike ins outs n m init [] xs nothing_assigned xs ∙ h.reads in
    let statements : Leads F (S₈ ins outs n m init [] nothing_assigned) behind₈ t = statements_lead ins outs n m init [] xs nothing_assigned (closing ∷ []) t reads end in
    let behind₅ : List CLine = closing ∷ (step_head ∷ behind₈) in
    let heads : Leads F (S₅ ins outs n m init) behind₅ t = (within_test 1 (length init) h.some_register, refl, (refl, refl, statements)) in
    let codes : Leads F (S₅ ins outs n m []) (code_lines 0 init ++ behind₅) t = codes_lead ins outs n m [] init 0 behind₅ t refl h.codes h.room heads in
    let behind₂ : List CLine = array_sizes n m ∷ (init_head ∷ (code_lines 0 init ++ behind₅)) in
    let sizes : Leads F (S₂ ins outs) behind₂ t = (sizes_due ins outs n m ∙ and_both _ _ (size_test n h.some_word h.word_limit) (size_test m h.some_bit h.bit_limit), refl, (refl, refl, codes)) in
    let outputs : Leads F (S₁ ins) (map output_comment outs ++ behind₂) t = outputs_lead ins [] outs behind₂ t (and_second (list_all is_name ins) _ both) h.distinct h.output_limit sizes in
    let inputs : Leads F (S₁ []) (map input_comment ins ++ (map output_comment outs ++ behind₂)) t = inputs_lead [] ins (map output_comment outs ++ behind₂) t (and_first _ _ both) (distinct_front ins outs h.distinct) h.input_limit outputs in
    (refl, refl, inputs)
