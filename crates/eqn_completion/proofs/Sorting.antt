-- Without cyclic bits the lines are put into the plan's order, and that is all.
use Rattle.std.proofs.Common.{◌≡◌, ℕ, ◌<◌, ◌≤◌, ◌↔◌, List, [], ◌∷◌, Bool, true, false, nat_lt, nat_le, ◌&&◌, IsTrue, refl, sym, ap, ◌∙◌, subst, arith, length, map}
use Rattle.std.specs.Prelude.{slice_index_or}
use Rattle.std.proofs.lemmas.Bool.Decides.{nat_tests}
use Rattle.std.proofs.lemmas.List.{get_or_append_left, length-map}
use Rattle.eqn_core.proofs.InOrder.{EachReadsEarlier-from_walk}
use Rattle.argos_base.specs.SignalSets.{SignalSet}
use Rattle.argos_base.proofs.Bools.{and_first, and_second}
use Rattle.eqn_core.specs.Equations.{Equations, registers, bit_count, word_count}
use Rattle.eqn_core.specs.Ordered.{all_below, all_between, IsOrdered}
use Rattle.eqn_core.specs.Solutions.{Values, bit_of, word_of, Solves, SystemReacts}
use Rattle.eqn_core.specs.Laws.{SolvesOnce}
use Rattle.eqn_core.proofs.Once.{solves_once}
use Rattle.eqn_completion.specs.Completions.{HasOneCompletion}
use Rattle.eqn_core.specs.Dependence.{Item, bit_item, word_item}
use Rattle.eqn_core.specs.Plans.{IsKnown, input, register, given, earlier_line, IsPlanOf}
use Rattle.eqn_completion.specs.Moving.{Tables, line_at}
use Rattle.eqn_core.specs.Orderable.{IsOrderable}
use Rattle.eqn_completion.specs.Sorted.{first_numbers, sorted_numbers, sorted_system}
use Rattle.eqn_completion.specs.Laws.{SortedAreOrdered, SortedReact, SortedAreSmall}
use Rattle.eqn_completion.proofs.Completing.{completes_once, solutions_complete, same_values}
use Rattle.eqn_completion.proofs.Knowing.{known-bit, known-word}
use Rattle.eqn_completion.proofs.Moved.{IsRight, moved-right}
use Rattle.eqn_core.proofs.LinePlaces.{at_place, completes_at}
use Rattle.eqn_completion.proofs.MovedBounds.{length-rest, weight-rest, weight-order}
use Rattle.eqn_completion.proofs.MovedOrder.{IsBelow, IsMoved, moved, some-bit, some-word}
use Rattle.eqn_completion.proofs.Plans.{item_at, defines-at}
use Rattle.eqn_completion.proofs.Reading.{computed, IsValue, value_there}

-- the sorted system is ordered
module _ (E : Equations) (order : List ℕ) (orderable : IsOrderable E) (plan : IsPlanOf E order []) where
  abbrev F : Equations
  F = sorted_system E order

  abbrev T : Tables
  T = sorted_numbers E order

  abbrev t₀ : Tables
  t₀ = first_numbers E

  first-below : (y : Item) → IsKnown E [] [] y → IsBelow t₀ y
  first-below y (input k low) = low
  first-below y (register k low) = low
  first-below y (given k is) = absurd (let z : false ≡ true = is in cc)
  first-below y (earlier_line z place l d is) = absurd (let z : false ≡ true = is in cc)

  rest : IsMoved E order [] order t₀
  rest = moved E order [] plan orderable [] order t₀ refl first-below (λ k h. h) (omega arith)

  pub sorted_ordered : 1 ≤ registers E → all_below 65536 E.initial ≡ true → IsOrdered F
  sorted_ordered some codes = record {
    some_register = some;
    register_limit = orderable.register_limit;
    input_limit = orderable.input_limit;
    output_limit = omega (arith, orderable.output_limit, length-map E.outputs T.bits);
    line_limit = omega (arith, orderable.line_limit, plan.sized, length-rest E [] order t₀);
    codes = codes;
    each = λ before line after e. EachReadsEarlier-from_walk F.inputs (registers F) F.lines rest.in_order before line after e;
    next_sized = length-map E.next T.words ∙ orderable.next_sized;
    next_exist = some-word E.next T.words (registers E) (word_count E) (word_count F) orderable.next_exist (λ k high low. (rest.least k high, let r = rest.below (word_item k) (known-word E order [] plan k low) in let w = rest.words in omega arith));
    outputs_exist = some-bit E.outputs T.bits (bit_count E) (bit_count F) orderable.outputs_exist (λ k low. let r = rest.below (bit_item k) (known-bit E order [] plan k low) in let w = rest.bits in omega arith);
    no_locals = refl;
  }

  -- a solution of each
  module _ (m : List ℕ) (i : SignalSet) (s s' : Values) (solves : Solves E m i s) (h : Solves F m i s') where
    line-value : (q : ℕ) → q < length E.lines → IsValue s (item_at E q) s (line_at E q)
    line-value q low =
        let d = defines-at E q low in
        subst (λ (v : Values). IsValue v (item_at E q) s (line_at E q)) (sym (same_values s (computed i m E.lines s) solves.lines.bits solves.lines.words)) (subst (λ (z : Item). IsValue (computed i m E.lines s) z s (line_at E q)) d.is (value_there E i m s d.before (line_at E q) d.after solves.input solves.memory d.stands))

    first-right : (y : Item) → IsKnown E [] [] y → IsRight s s' t₀ y
    first-right y (input k low) = ap (λ (l : List Bool). slice_index_or l k false) h.lines.bits ∙ get_or_append_left i _ false k (omega (arith, h.input)) ∙ sym (ap (λ (l : List Bool). slice_index_or l k false) solves.lines.bits ∙ get_or_append_left i _ false k (omega (arith, h.input)))
    first-right y (register k low) = ap (λ (l : List ℕ). slice_index_or l k 0) h.lines.words ∙ get_or_append_left m _ 0 k (omega (arith, h.memory)) ∙ sym (ap (λ (l : List ℕ). slice_index_or l k 0) solves.lines.words ∙ get_or_append_left m _ 0 k (omega (arith, h.memory)))
    first-right y (given k is) = absurd (let z : false ≡ true = is in cc)
    first-right y (earlier_line z place l d is) = absurd (let z : false ≡ true = is in cc)

    right : (y : Item) → IsKnown E order [] y → IsRight s s' T y
    right = moved-right E order [] plan s s' line-value [] order t₀ refl (at_place s' (length i) t₀.next_bit (length m) t₀.next_word F.lines (omega (arith, h.input)) (omega (arith, h.memory)) (completes_at s' F.lines i m h.lines.bits h.lines.words)) first-right

    below : (a b : ℕ) → nat_lt a b ≡ true → a < b
    below a b h = grind (arith, nat_tests)

    same-bits : (ks : List ℕ) → IsTrue (all_below (bit_count E) ks) → map (bit_of s') (map T.bits ks) ≡ map (bit_of s) ks
    same-bits [] e = refl
    same-bits (k ∷ ks) e = ap (λ (z : Bool). z ∷ map (bit_of s') (map T.bits ks)) (right (bit_item k) (known-bit E order [] plan k (below k (bit_count E) (and_first _ _ e)))) ∙ ap (λ (l : List Bool). bit_of s k ∷ l) (same-bits ks (and_second (nat_lt k (bit_count E)) _ e))

    same-words : (ks : List ℕ) → IsTrue (all_between (registers E) (word_count E) ks) → map (word_of s') (map T.words ks) ≡ map (word_of s) ks
    same-words [] e = refl
    same-words (k ∷ ks) e = ap (λ (z : ℕ). z ∷ map (word_of s') (map T.words ks)) (right (word_item k) (known-word E order [] plan k (below k (word_count E) (and_second _ _ (and_first _ _ e))))) ∙ ap (λ (l : List ℕ). word_of s k ∷ l) (same-words ks (and_second (nat_le (registers E) k && nat_lt k (word_count E)) _ e))

  pub sorted_reacts : (m : List ℕ) (i o : SignalSet) (n : List ℕ) → IsOrdered F → (SystemReacts F m i o n) ↔ (SystemReacts E m i o n)
  sorted_reacts m i o n ordered = (there, back)
    where
      there : SystemReacts F m i o n → SystemReacts E m i o n
      there r =
          let one : HasOneCompletion E [] m i [] = completes_once E order [] m i [] plan r.solves.memory r.solves.input refl in
          let solves : Solves E m i one.values = (solutions_complete E [] m i one.values r.solves.memory r.solves.input).1 ([], (one.is, refl)) in
          record {
            values = one.values;
            solves = solves;
            outputs = r.outputs ∙ same-bits m i one.values r.values solves r.solves E.outputs orderable.outputs_exist;
            next = r.next ∙ same-words m i one.values r.values solves r.solves E.next orderable.next_exist;
          }

      back : SystemReacts E m i o n → SystemReacts F m i o n
      back r =
          let one : SolvesOnce F m i = solves_once F m i ordered r.solves.memory r.solves.input in
          record {
            values = one.values;
            solves = one.solves;
            outputs = r.outputs ∙ sym (same-bits m i r.values one.values r.solves one.solves E.outputs orderable.outputs_exist);
            next = r.next ∙ sym (same-words m i r.values one.values r.solves one.solves E.next orderable.next_exist);
          }

pub sorted_are_ordered : SortedAreOrdered
sorted_are_ordered E order orderable plan some codes = sorted_ordered E order orderable plan some codes

pub sorted_react : SortedReact
sorted_react E order orderable plan ordered m i o n = sorted_reacts E order orderable plan m i o n ordered

pub sorted_are_small : SortedAreSmall
sorted_are_small E order plan = (omega (arith, plan.sized, length-rest E [] order (first_numbers E)), omega (arith, weight-rest E [] order (first_numbers E), weight-order E order [] plan))
