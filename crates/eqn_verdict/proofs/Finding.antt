-- There are functions that say what is structural, consistent and a result.
use Rattle.std.proofs.Common.{◌≡◌, ◌↔◌, ℕ, zero, suc, ◌+◌, ◌≤◌, List, [], ◌∷◌, ◌++◌, Bool, true, false, refl, sym, ap, ◌∙◌, subst, arith, length, map, drop, replicate, length-append}
use Rattle.std.proofs.lemmas.List.{length-map, length-replicate, drop_more, drop_at}
use Rattle.argos_base.specs.SignalSets.{SignalSet, has}
use Rattle.argos_core.specs.Layouts.{RegisterShape, FitsLayout}
use Rattle.eqn_core.specs.Equations.{Equations, registers}
use Rattle.eqn_core.specs.Solutions.{Values, bit_of, word_of}
use Rattle.eqn_completion.specs.Binary.{code_bits, in_binary, memory_of, digits_in, FitsIn}
use Rattle.eqn_completion.specs.Completions.{IsCompletion, IsConsistent}
use Rattle.eqn_core.specs.Plans.{IsPlanOf}
use Rattle.eqn_verdict.specs.Laws.{FindingsExist}
use Rattle.eqn_verdict.specs.Structural.{fits}
use Rattle.eqn_verdict.specs.Diagrams.{are_same}
use Rattle.eqn_completion.specs.Findings.{Finding}
use Rattle.eqn_verdict.specs.Verdicts.{AreWidths, bits_of, HasFindings}
use Rattle.eqn_completion.proofs.Completing.{rounded, completion_is}
use Rattle.eqn_verdict.proofs.Fitting.{fits_is_test}
use Rattle.eqn_completion.proofs.Ordering.{length-code, length-binary, length-fits, memory-binary}

length-any : (ws m : List ℕ) → length m ≡ length ws → length (in_binary ws m) ≡ digits_in ws
length-any [] [] h = refl
length-any [] (a ∷ m) h = absurd (omega arith)
length-any (w ∷ ws) [] h = absurd (omega arith)
length-any (w ∷ ws) (a ∷ m) h = length-append (code_bits w a) (in_binary ws m) ∙ ap (λ (n : ℕ). n + length (in_binary ws m)) (length-code w a) ∙ ap (λ (n : ℕ). w + n) (length-any ws m (omega arith))

pub same-itself : (z : SignalSet) → are_same z z ≡ true
same-itself [] = refl
same-itself (true ∷ z) = same-itself z
same-itself (false ∷ z) = same-itself z

pub same-tells : (y z : SignalSet) → are_same y z ≡ true → y ≡ z
same-tells [] [] h = refl
same-tells [] (b ∷ z) h = cc
same-tells (a ∷ y) [] h = cc
same-tells (true ∷ y) (true ∷ z) h = ap (λ (l : SignalSet). true ∷ l) (same-tells y z h)
same-tells (false ∷ y) (false ∷ z) h = ap (λ (l : SignalSet). false ∷ l) (same-tells y z h)
same-tells (true ∷ y) (false ∷ z) h = cc
same-tells (false ∷ y) (true ∷ z) h = cc

-- one function for each place of a list
abbrev places_of : (SignalSet → SignalSet → List Bool) → ℕ → ℕ → List Finding
places_of B k zero = []
places_of B k (suc n) = (λ y x. has (B y x) k) ∷ places_of B (suc k) n

places-are : (B : SignalSet → SignalSet → List Bool) (y x : SignalSet) (n k : ℕ) → length (B y x) ≡ k + n → map (λ (g : Finding). g y x) (places_of B k n) ≡ drop k (B y x)
places-are B y x zero k h = sym (all_dropped (B y x) k (omega arith))
  where
    all_dropped : (l : List Bool) (k : ℕ) → length l ≤ k → drop k l ≡ []
    all_dropped [] zero h = refl
    all_dropped [] (suc k) h = refl
    all_dropped (b ∷ l) zero h = absurd (omega arith)
    all_dropped (b ∷ l) (suc k) h = all_dropped l k (omega arith)
places-are B y x (suc n) k h =
    ap (λ (l : List Bool). has (B y x) k ∷ l) (places-are B y x n (suc k) (omega arith))
    ∙ sym (drop_more (B y x) k false (omega arith) ∙ ap (λ (j : ℕ). has (B y x) k ∷ drop j (B y x)) (let z : k + 1 ≡ suc k = omega arith in z))

module _ (E : Equations) (order cyclic : List ℕ) (layout : List RegisterShape) (widths : List ℕ) (plan : IsPlanOf E order cyclic) (shapes : length layout ≡ registers E) (wide : AreWidths layout widths) where
  abbrev values_at : SignalSet → SignalSet → Values
  values_at y x = rounded E cyclic (memory_of widths y) (drop (digits_in widths) y) x (suc (length order))

  abbrev bits_at : SignalSet → SignalSet → List Bool
  bits_at y x = bits_of (record { outputs = map (bit_of (values_at y x)) E.outputs; next = map (word_of (values_at y x)) E.next })

  abbrev count : ℕ
  count = length E.outputs + digits_in (replicate (length E.next) 16)

  bits-sized : (y x : SignalSet) → length (bits_at y x) ≡ 0 + count
  bits-sized y x =
      let s = values_at y x in
      let n : List ℕ = map (word_of s) E.next in
      let e : length n ≡ length E.next = length-map E.next (word_of s) in
      length-append (map (bit_of s) E.outputs) (in_binary (replicate (length n) 16) n)
      ∙ ap (λ (k : ℕ). k + length (in_binary (replicate (length n) 16) n)) (length-map E.outputs (bit_of s))
      ∙ ap (λ (k : ℕ). length E.outputs + k) (length-any (replicate (length n) 16) n (sym (length-replicate (length n) 16)) ∙ ap (λ (k : ℕ). digits_in (replicate k 16)) e)
      ∙ (let z : length E.outputs + digits_in (replicate (length E.next) 16) ≡ 0 + count = omega arith in z)

  here : (m : List ℕ) (i x : SignalSet) (s : Values) → FitsIn widths m → length i ≡ E.inputs → length x ≡ length cyclic → IsCompletion E cyclic m i x s → values_at (in_binary widths m ++ i) x ≡ s
  here m i x s fits b c is =
      let y : SignalSet = in_binary widths m ++ i in
      ap (λ (n : List ℕ). rounded E cyclic n (drop (digits_in widths) y) x (suc (length order))) (memory-binary widths m i fits)
      ∙ ap (λ (j : SignalSet). rounded E cyclic m j x (suc (length order))) (drop_at (in_binary widths m) i (digits_in widths) (length-binary widths m fits))
      ∙ sym (completion_is E order cyclic m i x plan (length-fits widths m fits ∙ wide.sized ∙ shapes) b c s is)

  pub findings : HasFindings E layout cyclic widths
  findings = record {
    structural = λ y. fits layout (memory_of widths y);
    consistent = λ y x. are_same (map (bit_of (values_at y x)) cyclic) x;
    results = places_of bits_at 0 count;
    are = record {
      structural_is = λ m i fit b. subst (λ (n : List ℕ). (fits layout n ≡ true) ↔ (FitsLayout layout m)) (sym (memory-binary widths m i fit)) (fits_is_test layout m);
      consistent_is = λ m i x s fit b c is. consistent-at m i x s fit b c is;
      results_are = λ m i x s fit b c is. places-are bits_at (in_binary widths m ++ i) x count 0 (bits-sized (in_binary widths m ++ i) x) ∙ ap (λ (v : Values). bits_of (record { outputs = map (bit_of v) E.outputs; next = map (word_of v) E.next })) (here m i x s fit b c is);
    };
  }
    where
      consistent-at : (m : List ℕ) (i x : SignalSet) (s : Values) → FitsIn widths m → length i ≡ E.inputs → length x ≡ length cyclic → IsCompletion E cyclic m i x s → (are_same (map (bit_of (values_at (in_binary widths m ++ i) x)) cyclic) x ≡ true) ↔ (IsConsistent cyclic x s)
      consistent-at m i x s fit b c is =
          let e = here m i x s fit b c is in (
            λ t. ap (λ (v : Values). map (bit_of v) cyclic) (sym e) ∙ same-tells _ x t,
            λ h. subst (λ (z : SignalSet). are_same z x ≡ true) (sym (ap (λ (v : Values). map (bit_of v) cyclic) e ∙ h)) (same-itself x),
          )

pub findings_exist : FindingsExist
findings_exist E order cyclic layout widths orderable plan shapes wide = findings E order cyclic layout widths plan shapes wide
