-- The locals of an expansion have the numbers from the next free one on, in order.
use Rattle.std.proofs.Common.{◌≡◌, ℕ, zero, suc, ◌+◌, ◌<◌, ◌≤◌, List, ◌∷◌, ◌++◌, Option, Some, None, true, nat_eq, inl, inr, length, map, refl, sym, ap, ◌∙◌, arith}
use Rattle.std.specs.List.{AllByRecursion, range_with_len}
use Rattle.std.proofs.lemmas.List.{length-map, length-append}
use Rattle.std.proofs.lemmas.Bool.Decides.{nat_tests}
use Rattle.argos_base.specs.SignalSets.{lists}
use Rattle.argos_base.proofs.Bools.{or_left, or_right, or_cases}
use Rattle.argos_core.proofs.Numbers.{same_or_other, nat_eq-at, nat_eq-other}
use Rattle.argos_core.specs.Modules.{locals_in, locals_in_parts, locals_in_states, locals_in_body, times}
use Rattle.argos_grammar.specs.Forms.{Mark, ProcessForm, automaton, local, freeze, run, BlockForm, no_processes, process, StateForms, no_states, state, BodyForm, plain, refined, ComponentForm}
use Rattle.argos_names.specs.Scope.{state_names}
use Rattle.argos_expansion.specs.Expansion.{Numbers, numbered, Known, found, grown_run, grown_process, grown_block, grown_rest, grown_states, grown_body}
use Rattle.argos_scope.proofs.KnownFacts.{known_of, OfFound, of_found}
use Rattle.argos_scope.proofs.SoundForms.{IsSoundComponent}

-- numbers in order, in two parts
range_append : (a m n : ℕ) → range_with_len a (m + n) ≡ range_with_len a m ++ range_with_len (a + m) n
range_append a zero n = let e : a + 0 ≡ a = omega arith in let d : 0 + n ≡ n = omega arith in simp (e, d)
range_append a (suc m) n =
    let e : suc m + n ≡ suc (m + n) = omega arith in
    let d : a + suc m ≡ a + 1 + m = omega arith in
    ap (range_with_len a) e ∙ ap (λ (ns : List ℕ). a ∷ ns) (range_append (a + 1) m n) ∙ ap (λ k. a ∷ range_with_len (a + 1) m ++ range_with_len k n) (sym d)

in_two : (next : ℕ) (ms bs : List ℕ) (xs ys : List (List ℕ)) → ms ≡ range_with_len next (length xs) → bs ≡ range_with_len (next + length xs) (length ys) → ms ++ bs ≡ range_with_len next (length (xs ++ ys))
in_two next ms bs xs ys e d =
    ap (λ (ns : List ℕ). ns ++ bs) e ∙ ap (λ (ns : List ℕ). range_with_len next (length xs) ++ ns) d ∙ sym (range_append next (length xs) (length ys)) ∙ ap (range_with_len next) (sym (length-append xs ys))

with_new : (next : ℕ) (ns : List Mark) (bs : List ℕ) (ys : List (List ℕ)) → bs ≡ range_with_len (next + length ns) (length ys) → range_with_len next (length ns) ++ bs ≡ range_with_len next (length (map (λ m. m.name) ns ++ ys))
with_new next ns bs ys e =
    let d : length (map (λ m. m.name) ns) ≡ length ns = length-map ns (λ m. m.name) in
    in_two next (range_with_len next (length ns)) bs (map (λ m. m.name) ns) ys (ap (range_with_len next) (sym d)) (e ∙ ap (λ k. range_with_len (next + k) (length ys)) (sym d))

-- what a component grows to has its locals in order
abbrev pub HasLocalsInOrder : Known → Type 0
HasLocalsInOrder k = (env : Numbers) (depth next : ℕ) → locals_in (k.grown env depth next).whole ≡ range_with_len next (length (k.grown env depth next).locals)

run_in_order : (o : Option Known) → OfFound HasLocalsInOrder o → (env : Numbers) (xs ys : List Mark) (depth next : ℕ)
    → locals_in (grown_run o env xs ys depth next).whole ≡ range_with_len next (length (grown_run o env xs ys depth next).locals)
run_in_order None h env xs ys depth next = refl
run_in_order (Some k) h env xs ys depth next = h _ (depth + 1) next

module _ (ks : List Known) (known : AllByRecursion HasLocalsInOrder ks) where
  mutual
    process_in_order : (env : Numbers) (depth next : ℕ) (p : ProcessForm) → locals_in (grown_process ks env depth next p).whole ≡ range_with_len next (length (grown_process ks env depth next p).locals)
    process_in_order env depth next (automaton i ss) = states_in_order env (state_names ss) (depth + 1) next ss
    process_in_order env depth next (local ns b) = with_new next ns _ _ (block_in_order (numbered ns next env) (depth + 1) (next + length ns) b)
    process_in_order env depth next (freeze m b) = block_in_order env (depth + 1) next b
    process_in_order env depth next (run c xs ys) = run_in_order (found c.name ks) (of_found HasLocalsInOrder c.name ks known) env xs ys depth next

    block_in_order : (env : Numbers) (depth next : ℕ) (b : BlockForm) → locals_in (grown_block ks env depth next b).whole ≡ range_with_len next (length (grown_block ks env depth next b).locals)
    block_in_order env depth next no_processes = refl
    block_in_order env depth next (process p no_processes) = process_in_order env depth next p
    block_in_order env depth next (process p (process q b)) = in_two next _ _ _ _ (process_in_order env (depth + 1) next p) (rest_in_order env (depth + 1) _ (process q b))

    rest_in_order : (env : Numbers) (depth next : ℕ) (b : BlockForm) → locals_in_parts (grown_rest ks env depth next b).whole ≡ range_with_len next (length (grown_rest ks env depth next b).locals)
    rest_in_order env depth next no_processes = refl
    rest_in_order env depth next (process p b) = in_two next _ _ _ _ (process_in_order env depth next p) (rest_in_order env depth _ b)

    states_in_order : (env : Numbers) (names : List (List ℕ)) (depth next : ℕ) (ss : StateForms) → locals_in_states (grown_states ks env names depth next ss).whole ≡ range_with_len next (length (grown_states ks env names depth next ss).locals)
    states_in_order env names depth next no_states = refl
    states_in_order env names depth next (state h b ss) = in_two next _ _ _ _ (body_in_order env depth next b) (states_in_order env names depth _ ss)

    body_in_order : (env : Numbers) (depth next : ℕ) (b : BodyForm) → locals_in_body (grown_body ks env depth next b).whole ≡ range_with_len next (length (grown_body ks env depth next b).locals)
    body_in_order env depth next plain = refl
    body_in_order env depth next (refined b) = block_in_order env depth next b

pub component_in_order : (ks : List Known) (c : ComponentForm) → AllByRecursion HasLocalsInOrder ks → IsSoundComponent ks c → HasLocalsInOrder (known_of ks c)
component_in_order ks c known sound = λ env depth next. block_in_order ks known env depth next c.block

at-nat_eq : (a b : ℕ) → nat_eq a b ≡ true → a ≡ b
at-nat_eq a b h = grind (arith, nat_tests)

-- a number stands once in a range, and a range lists its numbers alone
pub lists-range : (a n k : ℕ) → a ≤ k → k < a + n → lists (range_with_len a n) k ≡ true
lists-range a zero k low high = absurd (omega arith)
lists-range a (suc n) k low high = elim (same_or_other a k) [
  | inl same ↦ or_left _ _ (nat_eq-at a k same)
  | inr other ↦ or_right _ _ (lists-range (a + 1) n k (omega arith) (omega arith))
]

pub range-lists : (a n k : ℕ) → lists (range_with_len a n) k ≡ true → (a ≤ k) × (k < a + n)
range-lists a zero k h = cc
range-lists a (suc n) k h = elim (or_cases (nat_eq a k) (lists (range_with_len (a + 1) n) k) h) [
  | inl same ↦ let e : a ≡ k = at-nat_eq a k same in omega arith
  | inr more ↦ let e = range-lists (a + 1) n k more in omega arith
]

none_below : (a n k : ℕ) → k < a → times k (range_with_len a n) ≡ 0
none_below a zero k h = refl
none_below a (suc n) k h = rw (nat_eq-other a k (λ e. absurd (omega arith))) (let e = none_below (a + 1) n k (omega arith) in omega arith)

pub times-range : (a n k : ℕ) → a ≤ k → k < a + n → times k (range_with_len a n) ≡ 1
times-range a zero k low high = absurd (omega arith)
times-range a (suc n) k low high = elim (same_or_other a k) [
  | inl same ↦ rw (nat_eq-at a k same) (let e = none_below (a + 1) n k (omega arith) in omega arith)
  | inr other ↦ rw (nat_eq-other a k other) (let e = times-range (a + 1) n k (omega arith) (omega arith) in omega arith)
]
