-- The functions of two systems, of which the second reads the first one's inputs by name, decide.
use Rattle.std.proofs.Common.{◌≡◌, ◌≢◌, ℕ, List, ◌&&◌, length, sym, ap, subst, ◌∙◌}
use Rattle.std.proofs.lemmas.List.{length-map}
use Rattle.argos_base.specs.SignalSets.{SignalSet}
use Rattle.argos_base.proofs.Bools.{and_first, and_second}
use Rattle.argos_core.specs.FirstBad.{ReactsCoded}
use Rattle.argos_core.specs.Layouts.{layout_of, FitsLayout}
use Rattle.argos_core.specs.Process.{PlainModule}
use Rattle.argos_core.specs.Reactions.{input_count}
use Rattle.argos_core.proofs.FittingMemories.{fitting_is_structural}
use Rattle.argos_core.proofs.StructuralFits.{structural_fits}
use Rattle.argos_congruence.specs.Moved.{moved_inputs}
use Rattle.argos_congruence.specs.NamedSets.{has_name}
use Rattle.argos_congruence.proofs.Naming.{AreAmong}
use Rattle.argos_congruence.proofs.SharedNames.{share_inputs_back}
use Rattle.eqn_completion.specs.Binary.{FitsIn}
use Rattle.eqn_core.specs.Equations.{Equations}
use Rattle.eqn_core.specs.Solutions.{SystemReacts}
use Rattle.eqn_dd.specs.declared.places.Places.{Places}
use Rattle.eqn_dd.specs.Placed.{memory_at, inputs_at}
use Rattle.bisim_formula.specs.Formulas.{Formula, related}
use Rattle.bisim_verdict.specs.EquivFunctions.{ArePlacedTogether, Functions, AreFunctionsOf, AreMadeOf, tests_of}
use Rattle.bisim_verdict.specs.EquivTests.{point, AreWidthsOf, some_differ, AreTestsOf}
use Rattle.bisim_verdict.specs.Laws.{SystemsDecide, DifferingIsTold}
use Rattle.bisim_verdict.proofs.Points.{length-point}
use Rattle.bisim_verdict.proofs.Reacting.{Reaction, reaction, structural}
use Rattle.bisim_verdict.proofs.Reading.{left_memory, right_memory, left_inputs, right_inputs}

module _ (P Q : PlainModule) (lefts rights : List ℕ) (p q : Places) (E G : Equations) (f : Functions) (left_widths : AreWidthsOf P lefts) (right_widths : AreWidthsOf Q rights) (among : AreAmong Q.inputs P.inputs)
    (placed : ArePlacedTogether P Q lefts rights p q) (made : AreMadeOf P Q lefts rights p q E G f) where
  fits_left : (m : List ℕ) (i o : SignalSet) (m' : List ℕ) → ReactsCoded P m i o m' → FitsIn lefts m
  fits_left m i o m' l = left_widths m (structural P m i o m' l)

  fits_right : (n : List ℕ) (j p : SignalSet) (n' : List ℕ) → ReactsCoded Q n j p n' → FitsIn rights n
  fits_right n j p n' r = right_widths n (structural Q n j p n' r)

  left_says : (m n : List ℕ) (i o : SignalSet) (m' : List ℕ) → FitsIn rights n → ReactsCoded P m i o m'
      → (f.left_outputs (point lefts rights m n i) ≡ o) × (f.left_next (point lefts rights m n i) ≡ m')
  left_says m n i o m' g l =
      let a : FitsIn lefts m = fits_left m i o m' l in
      let x = point lefts rights m n i in
      let reacts : SystemReacts E m i o m' = made.left_reacts m i o m' l in
      let by_memory : SystemReacts E (memory_at p x) i o m' = subst (λ (y : List ℕ). SystemReacts E y i o m') (sym (left_memory placed m n i a g)) reacts in
      let by_inputs : SystemReacts E (memory_at p x) (inputs_at p x) o m' = subst (λ (y : SignalSet). SystemReacts E (memory_at p x) y o m') (sym (left_inputs placed m n i a g l.reacts.input)) by_memory in
      made.left x o m' (length-point lefts rights m n i (input_count P) a g l.reacts.input) by_inputs

  right_says : (m n : List ℕ) (i o : SignalSet) (n' : List ℕ) → FitsIn lefts m → length i ≡ input_count P → ReactsCoded Q n (moved_inputs P Q i) o n'
      → (f.right_outputs (point lefts rights m n i) ≡ o) × (f.right_next (point lefts rights m n i) ≡ n')
  right_says m n i o n' a e r =
      let g : FitsIn rights n = fits_right n (moved_inputs P Q i) o n' r in
      let x = point lefts rights m n i in
      let reacts : SystemReacts G n (moved_inputs P Q i) o n' = made.right_reacts n (moved_inputs P Q i) o n' r in
      let by_memory : SystemReacts G (memory_at q x) (moved_inputs P Q i) o n' = subst (λ (y : List ℕ). SystemReacts G y (moved_inputs P Q i) o n') (sym (right_memory placed m n i a g)) reacts in
      let by_inputs : SystemReacts G (memory_at q x) (inputs_at q x) o n' = subst (λ (y : SignalSet). SystemReacts G (memory_at q x) y o n') (sym (right_inputs placed m n i a g among)) by_memory in
      made.right x o n' (length-point lefts rights m n i (input_count P) a g e) by_inputs

  functions_are : AreFunctionsOf P Q lefts rights f
  functions_are = record {
    left_is = λ m n i a g e.
        let s = made.left_structural (point lefts rights m n i) (length-point lefts rights m n i (input_count P) a g e) in (
          λ h. fitting_is_structural P.process m (subst (λ (y : List ℕ). FitsLayout (layout_of P.process) y) (left_memory placed m n i a g) (s.0 h)),
          λ h. s.1 (subst (λ (y : List ℕ). FitsLayout (layout_of P.process) y) (sym (left_memory placed m n i a g)) (structural_fits P.process m h)),
        );
    right_is = λ m n i a g e.
        let s = made.right_structural (point lefts rights m n i) (length-point lefts rights m n i (input_count P) a g e) in (
          λ h. fitting_is_structural Q.process n (subst (λ (y : List ℕ). FitsLayout (layout_of Q.process) y) (right_memory placed m n i a g) (s.0 h)),
          λ h. s.1 (subst (λ (y : List ℕ). FitsLayout (layout_of Q.process) y) (sym (right_memory placed m n i a g)) (structural_fits Q.process n h)),
        );
    left_outputs_are = λ m n i o m' g l. (left_says m n i o m' g l).0;
    left_next_is = λ m n i o m' g l. (left_says m n i o m' g l).1;
    right_outputs_are = λ m n i o n' a e r. (right_says m n i o n' a e r).0;
    right_next_is = λ m n i o n' a e r. (right_says m n i o n' a e r).1;
  }

  tests_are : (F : Formula) → AreTestsOf F P Q lefts rights (tests_of F P Q p q f)
  tests_are F = record {
    related_is = λ m n i a g e. ap (λ (x : List ℕ). related P Q F x (memory_at q (point lefts rights m n i))) (left_memory placed m n i a g) ∙ ap (related P Q F m) (right_memory placed m n i a g);
    left_is = functions_are.left_is;
    right_is = functions_are.right_is;
    differ_is = λ m n i o u m' n' l r.
        let a = fits_left m i o m' l in
        let g = fits_right n (moved_inputs P Q i) u n' r in
        ap (λ (x : SignalSet). some_differ P.outputs P Q x (f.right_outputs (point lefts rights m n i))) (left_says m n i o m' g l).0 ∙ ap (some_differ P.outputs P Q o) (right_says m n i u n' a l.reacts.input r).0;
    next_is = λ m n i o u m' n' l r.
        let a = fits_left m i o m' l in
        let g = fits_right n (moved_inputs P Q i) u n' r in
        ap (λ (x : List ℕ). related P Q F x (f.right_next (point lefts rights m n i))) (left_says m n i o m' g l).1 ∙ ap (related P Q F m') (right_says m n i u n' a l.reacts.input r).1;
  }

pub systems_decide : SystemsDecide
systems_decide F P Q lefts rights p q E G f p_good q_good names left_widths right_widths placed made = tests_are P Q lefts rights p q E G f left_widths right_widths (share_inputs_back P Q q_good.program.is.names names) placed made F

pub differing_is_told : DifferingIsTold
differing_is_told F P Q lefts rights m n i p q E G f place name p_good q_good names left_widths right_widths placed made a g e differs at differ first =
    let among = share_inputs_back P Q q_good.program.is.names names in
    let x = point lefts rights m n i in
    let tests = tests_are P Q lefts rights p q E G f left_widths right_widths among placed made F in
    let t = tests_of F P Q p q f in
    let both = and_second (t.related x) _ (and_first (t.related x && (t.left x && t.right x)) _ differs) in
    let l : Reaction P m i = reaction P m i p_good ((tests.left_is m n i a g e).0 (and_first (t.left x) _ both)) e in
    let r : Reaction Q n (moved_inputs P Q i) = reaction Q n (moved_inputs P Q i) q_good ((tests.right_is m n i a g e).0 (and_second (t.left x) _ both)) (length-map Q.inputs (has_name P.inputs i)) in
    let left : f.left_outputs x ≡ l.outputs_of = (left_says P Q lefts rights p q E G f left_widths right_widths among placed made m n i l.outputs_of l.next_of g l.reacts).0 in
    let right : f.right_outputs x ≡ r.outputs_of = (right_says P Q lefts rights p q E G f left_widths right_widths among placed made m n i r.outputs_of r.next_of a e r.reacts).0 in
    record {
      o = l.outputs_of;
      p = r.outputs_of;
      m' = l.next_of;
      n' = r.next_of;
      left = l.reacts;
      right = r.reacts;
      place = place;
      at = at;
      differ = subst (λ (s : SignalSet). has_name P.outputs l.outputs_of name ≢ has_name Q.outputs s name) right (subst (λ (s : SignalSet). has_name P.outputs s name ≢ has_name Q.outputs (f.right_outputs x) name) left differ);
      first = λ k other below there. ap (λ (s : SignalSet). has_name P.outputs s other) (sym left) ∙ first k other below there ∙ ap (λ (s : SignalSet). has_name Q.outputs s other) right;
    }
