-- The verdict over all structural memories and inputs.
use Rattle.std.proofs.Common.{◌≡◌, ℕ, ◌+◌, List, [], ◌∷◌, ◌++◌, Bool, true, false, not, refl, sym, ap, ◌∙◌, ◌↔◌, ◌⊎◌, inl, inr, subst, arith, length, map, drop, replicate, length-append}
use Rattle.std.proofs.lemmas.List.{length-map, length-drop}
use Rattle.argos_base.specs.Machines.{CodedReaction, case_key, IsFaultOf, ReactsOnce, IsFirstBadOf, AlwaysReactsOnce}
use Rattle.argos_base.specs.Orders.{IsEarlier, digits}
use Rattle.argos_base.specs.SignalSets.{SignalSet}
use Rattle.argos_base.proofs.Bools.{true_or_false, and_first, and_second, and_both, or_cases, or_left, or_right, not_false, false_not, is_false}
use Rattle.argos_core.specs.Layouts.{RegisterShape, FitsLayout}
use Rattle.eqn_core.specs.Equations.{Equations, registers}
use Rattle.eqn_core.specs.Solutions.{Values, bit_of, word_of, Solves, SystemReacts}
use Rattle.eqn_completion.specs.Binary.{in_binary, memory_of, digits_in, FitsIn}
use Rattle.eqn_completion.specs.Completions.{IsConsistent, HasOneCompletion}
use Rattle.eqn_core.specs.Plans.{IsPlanOf}
use Rattle.eqn_verdict.specs.Laws.{VerdictIsOne, VerdictIsFirstBad}
use Rattle.eqn_core.specs.Orderable.{IsOrderable}
use Rattle.eqn_verdict.specs.Searching.{Test, some, some_differ, answers, IsFirst}
use Rattle.eqn_completion.specs.Findings.{Finding}
use Rattle.eqn_verdict.specs.Verdicts.{bits_of, AreFindings, AreWidths, at, is_bad, fault_at}
use Rattle.eqn_verdict.proofs.AtOnePoint.{IsSized, IsReached, Gives, at_none, at_once, at_several, once_some, once_same}
use Rattle.eqn_completion.proofs.Codes.{words-are_codes, fits-codes, codes-fit}
use Rattle.eqn_completion.proofs.Completing.{completes_once, solutions_complete}
use Rattle.eqn_completion.proofs.Ordering.{digits-append, length-binary, length-fits, memory-earlier, fits-memory, binary-memory}

answers-at : (results : List Finding) (y x : SignalSet) → answers (at results y) x ≡ map (λ (g : Finding). g y x) results
answers-at [] y x = refl
answers-at (g ∷ results) y x = ap (λ (l : List Bool). g y x ∷ l) (answers-at results y x)

module _ (E : Equations) (order cyclic : List ℕ) (layout : List RegisterShape) (widths : List ℕ) (structural : Test) (consistent : Finding) (results : List Finding) (orderable : IsOrderable E) (plan : IsPlanOf E order cyclic) (shapes : length layout ≡ registers E) (wide : AreWidths layout widths) (found : AreFindings E layout cyclic widths structural consistent results) where
  abbrev c : ℕ
  c = length cyclic

  -- at one memory and input
  module _ (m : List ℕ) (i : SignalSet) (fits : FitsIn widths m) (b : length i ≡ E.inputs) where
    abbrev y : SignalSet
    y = in_binary widths m ++ i

    m-sized : length m ≡ registers E
    m-sized = length-fits widths m fits ∙ wide.sized ∙ shapes

    sized : (r : CodedReaction) → SystemReacts E m i r.outputs r.next → IsSized (length E.outputs) (length E.next) r
    sized r h = record {
      outputs_sized = ap length h.outputs ∙ length-map E.outputs (bit_of h.values);
      next_sized = ap length h.next ∙ length-map E.next (word_of h.values);
      fits = subst (λ (z : List ℕ). FitsIn (replicate (length E.next) 16) z) (sym h.next) (fits-codes (word_of h.values) E.next (words-are_codes E m i h.values orderable (codes-fit widths m wide.few fits) h.solves));
    }

    reached : (r : CodedReaction) → SystemReacts E m i r.outputs r.next → IsReached c (consistent y) (at results y) r
    reached r h =
        let done = (solutions_complete E cyclic m i h.values m-sized b).0 h.solves in
        let x = done.0 in
        let s = h.values in
        let x-sized : length x ≡ c = ap length (sym done.1.1) ∙ length-map cyclic (bit_of s) in
        record {
          passing = record { values = x; sized = x-sized; passes = (found.consistent_is m i x s fits b x-sized done.1.0).1 done.1.1 };
          are = answers-at results y x ∙ found.results_are m i x s fits b x-sized done.1.0 ∙ ap (λ (o : SignalSet). bits_of (record { outputs = o; next = map (word_of s) E.next })) (sym h.outputs) ∙ ap (λ (n : List ℕ). bits_of (record { outputs = r.outputs; next = n })) (sym h.next);
        }

    gives : (x : SignalSet) → length x ≡ c → consistent y x ≡ true → Gives (SystemReacts E) m i (answers (at results y) x)
    gives x x-sized passes =
        let one : HasOneCompletion E cyclic m i x = completes_once E order cyclic m i x plan m-sized b x-sized in
        let s : Values = one.values in
        let agrees : IsConsistent cyclic x s = (found.consistent_is m i x s fits b x-sized one.is).0 passes in
        let solves : Solves E m i s = (solutions_complete E cyclic m i s m-sized b).1 (x, (one.is, agrees)) in
        record {
          reaction = record { outputs = map (bit_of s) E.outputs; next = map (word_of s) E.next };
          reacts = record { values = s; solves = solves; outputs = refl; next = refl };
          are = sym (found.results_are m i x s fits b x-sized one.is) ∙ sym (answers-at results y x);
        }

    pub here_once : some c (consistent y) ≡ true → some_differ c (consistent y) (at results y) ≡ false → ReactsOnce (SystemReacts E) m i
    here_once h n = at_once (length E.outputs) (length E.next) c (consistent y) (at results y) (SystemReacts E) m i sized reached gives h n

    pub here_some : ReactsOnce (SystemReacts E) m i → some c (consistent y) ≡ true
    here_some h = once_some (length E.outputs) (length E.next) c (consistent y) (at results y) (SystemReacts E) m i sized reached gives h

    pub here_same : ReactsOnce (SystemReacts E) m i → some_differ c (consistent y) (at results y) ≡ false
    here_same h = once_same (length E.outputs) (length E.next) c (consistent y) (at results y) (SystemReacts E) m i sized reached gives h

    -- where it isn't bad there is one reaction
    pub good_once : FitsLayout layout m → is_bad c structural consistent results y ≡ false → ReactsOnce (SystemReacts E) m i
    good_once h n =
        let t : structural y ≡ true = (found.structural_is m i fits b).1 h in
        here_once (some_case t n) (is_false _ (λ d. let e : is_bad c structural consistent results y ≡ true = and_both (structural y) _ t (or_right (not (some c (consistent y))) _ d) in cc))
      where
        some_case : structural y ≡ true → is_bad c structural consistent results y ≡ false → some c (consistent y) ≡ true
        some_case t n = elim (true_or_false (some c (consistent y))) [
          | inl h ↦ h
          | inr h ↦ absurd (let e : is_bad c structural consistent results y ≡ true = and_both (structural y) _ t (or_left _ _ (false_not (some c (consistent y)) h)) in both e n)
        ]
          where
            both : is_bad c structural consistent results y ≡ true → is_bad c structural consistent results y ≡ false → ⊥
            both a b = cc

    pub once_good : ReactsOnce (SystemReacts E) m i → is_bad c structural consistent results y ≡ false
    once_good h = is_false (is_bad c structural consistent results y) (λ t. elim (or_cases _ _ (and_second (structural y) _ t)) [
      | inl none ↦ let e = not_false (some c (consistent y)) none in let f = here_some h in absurd (let g : true ≡ false = sym f ∙ e in cc)
      | inr differ ↦ let f = here_same h in absurd (let g : true ≡ false = sym differ ∙ f in cc)
    ])

    pub bad_fits : is_bad c structural consistent results y ≡ true → FitsLayout layout m
    bad_fits t = (found.structural_is m i fits b).0 (and_first (structural y) _ t)

    pub bad_fault : is_bad c structural consistent results y ≡ true → IsFaultOf (SystemReacts E) m i (fault_at c (length E.outputs) (length E.next) consistent results y)
    bad_fault t = elim (true_or_false (some c (consistent y))) [
      | inl h ↦ rw h (at_several (length E.outputs) (length E.next) c (consistent y) (at results y) (SystemReacts E) m i sized reached gives h (differ h (or_cases _ _ (and_second (structural y) _ t))))
      | inr n ↦ rw n (at_none (length E.outputs) (length E.next) c (consistent y) (at results y) (SystemReacts E) m i sized reached gives n)
    ]
      where
        differ : some c (consistent y) ≡ true → (not (some c (consistent y)) ≡ true) ⊎ (some_differ c (consistent y) (at results y) ≡ true) → some_differ c (consistent y) (at results y) ≡ true
        differ h (inl n) = let e = not_false (some c (consistent y)) n in cc
        differ h (inr d) = d

  abbrev places : ℕ
  places = digits_in widths + E.inputs

  point-sized : (m : List ℕ) (i : SignalSet) → FitsIn widths m → length i ≡ E.inputs → length (in_binary widths m ++ i) ≡ places
  point-sized m i fits b = omega (arith, length-append (in_binary widths m) i, length-binary widths m fits)

  always : AlwaysReactsOnce (FitsLayout layout) E.inputs (SystemReacts E) → (z : SignalSet) → length z ≡ places → is_bad c structural consistent results z ≡ false
  always h z sized =
      let m = memory_of widths z in
      let i = drop (digits_in widths) z in
      let fits : FitsIn widths m = fits-memory widths z (omega arith) in
      let b : length i ≡ E.inputs = omega (arith, length-drop (digits_in widths) z) in
      let whole : in_binary widths m ++ i ≡ z = binary-memory widths z (omega arith) in
      is_false (is_bad c structural consistent results z) (λ t.
      let t' : is_bad c structural consistent results (in_binary widths m ++ i) ≡ true = ap (is_bad c structural consistent results) whole ∙ t in
      let n : is_bad c structural consistent results (in_binary widths m ++ i) ≡ false = once_good m i fits b (h m i (bad_fits m i fits b t') b) in
      absurd (let g : true ≡ false = sym t' ∙ n in cc))

  pub is_one : ((z : SignalSet) → length z ≡ places → is_bad c structural consistent results z ≡ false) → AlwaysReactsOnce (FitsLayout layout) E.inputs (SystemReacts E)
  is_one h = λ m i fit b. let fits = wide.enough m fit in good_once m i fits b fit (h (in_binary widths m ++ i) (point-sized m i fits b))

  pub is_first_bad : (z : SignalSet) → IsFirst places (is_bad c structural consistent results) z → IsFirstBadOf (FitsLayout layout) E.inputs (SystemReacts E) (memory_of widths z) (drop (digits_in widths) z) (fault_at c (length E.outputs) (length E.next) consistent results z)
  is_first_bad z h =
      let m = memory_of widths z in
      let i = drop (digits_in widths) z in
      let size = h.sized in
      let fits : FitsIn widths m = fits-memory widths z (omega arith) in
      let b : length i ≡ E.inputs = omega (arith, length-drop (digits_in widths) z) in
      let whole : in_binary widths m ++ i ≡ z = binary-memory widths z (omega arith) in
      let t : is_bad c structural consistent results (in_binary widths m ++ i) ≡ true = ap (is_bad c structural consistent results) whole ∙ h.passes in
      record {
        memory = bad_fits m i fits b t;
        input = b;
        fault = subst (λ (w : SignalSet). IsFaultOf (SystemReacts E) m i (fault_at c (length E.outputs) (length E.next) consistent results w)) whole (bad_fault m i fits b t);
        first = λ n j fit k l. before h m i fits whole n j fit k l;
      }
    where
      before : IsFirst places (is_bad c structural consistent results) z → (m : List ℕ) (i : SignalSet) → FitsIn widths m → in_binary widths m ++ i ≡ z → (n : List ℕ) (j : SignalSet) → FitsLayout layout n → length j ≡ E.inputs → IsEarlier (case_key n j) (case_key m i) → ReactsOnce (SystemReacts E) n j
      before h m i fits whole n j fit k l =
          let fits' = wide.enough n fit in
          let z' : SignalSet = in_binary widths n ++ j in
          let earlier : IsEarlier (digits z') (digits z) =
          subst (λ (w : SignalSet). IsEarlier (digits z') (digits w)) whole
          (subst (λ (w : List ℕ). IsEarlier w (digits (in_binary widths m ++ i))) (sym (digits-append (in_binary widths n) j))
          (subst (λ (w : List ℕ). IsEarlier (digits (in_binary widths n) ++ digits j) w) (sym (digits-append (in_binary widths m) i))
          (memory-earlier widths n m (digits j) (digits i) fits' fits l))) in
          good_once n j fits' k fit (is_false (is_bad c structural consistent results z') (λ t. h.first z' (point-sized n j fits' k) t earlier))

  pub one_both : ((z : SignalSet) → length z ≡ places → is_bad c structural consistent results z ≡ false) ↔ AlwaysReactsOnce (FitsLayout layout) E.inputs (SystemReacts E)
  one_both = (is_one, always)

pub verdict_is_one : VerdictIsOne
verdict_is_one E order cyclic layout widths structural consistent results orderable plan shapes wide found = one_both E order cyclic layout widths structural consistent results orderable plan shapes wide found

pub verdict_is_first_bad : VerdictIsFirstBad
verdict_is_first_bad E order cyclic layout widths structural consistent results orderable plan shapes wide found z h = is_first_bad E order cyclic layout widths structural consistent results orderable plan shapes wide found z h
