-- What is found by the functions is the due answer.
use Rattle.std.proofs.Common.{◌≡◌, ◌≢◌, ℕ, zero, suc, List, [], ◌∷◌, Bool, true, false, Some, length, slice_get, refl, sym, subst, ◌∙◌, inl, inr}
use Rattle.std.proofs.lemmas.List.{length-map}
use Rattle.argos_base.specs.Names.{Spelled}
use Rattle.argos_base.specs.Orders.{IsEarlier, digits}
use Rattle.argos_base.specs.SignalSets.{SignalSet}
use Rattle.argos_base.specs.Spelling.{is_one_of}
use Rattle.argos_base.proofs.Bools.{and_first, and_second, and_both, or_first_false, or_second_false, or_left, or_right, is_false, false_not, not_false, true_or_false}
use Rattle.argos_core.specs.Codes.{IsStructural}
use Rattle.argos_core.specs.FirstBad.{ReactsCoded}
use Rattle.argos_core.specs.Overlaps.{IsGood}
use Rattle.argos_core.specs.Process.{PlainModule}
use Rattle.argos_core.specs.Reactions.{input_count}
use Rattle.dd_core.specs.Functions.{Function, constant, AreEqual}
use Rattle.argos_congruence.specs.Moved.{moved_inputs}
use Rattle.eqn_completion.specs.Binary.{FitsIn}
use Rattle.bisim_verdict.specs.Bisimulation.{Related, IsBisimulation, OutputsDiffer, SomeDiffers, LeavesRelation, pair_key, EquivAnswer, accept, interfaces, start, outputs, leaves, IsEquivAnswer}
use Rattle.argos_congruence.specs.Congruence.{HaveSameNames, ReactTogether}
use Rattle.bisim_verdict.specs.EquivTests.{point, AreWidthsOf, differs, some_differ, Tests, AreTestsOf, pairs, differing, leaving, IsLeastPoint, IsFirstDiffering, variables, starts, IsFound}
use Rattle.bisim_verdict.specs.Laws.{FoundIsDue}
use Rattle.bisim_formula.specs.Formulas.{Formula, related}
use Rattle.argos_congruence.specs.NamedSets.{has_name, AreSameByName}
use Rattle.argos_congruence.proofs.Naming.{AreAmong, Stands, stands, has_name-absent, moved_is_same, same_is_moved}
use Rattle.eqn_completion.proofs.Ordering.{not_both, not_itself}
use Rattle.bisim_verdict.proofs.Points.{before_is_earlier, point_earlier, length-point}
use Rattle.bisim_verdict.proofs.Reacting.{Reaction, reaction, structural}
use Rattle.argos_congruence.proofs.SharedNames.{share_names, share_back, distinct_first}

differs_true : (a b : Bool) → a ≢ b → differs a b ≡ true
differs_true true true h = absurd (h refl)
differs_true true false h = refl
differs_true false true h = refl
differs_true false false h = absurd (h refl)

pub differs_false : (a b : Bool) → differs a b ≡ false → a ≡ b
differs_false true true h = refl
differs_false true false h = cc
differs_false false true h = cc
differs_false false false h = refl

-- an output that differs is found
some_differ-there : (names : List Spelled) (P Q : PlainModule) (o p : SignalSet) (k : ℕ) (name : Spelled) → slice_get names k ≡ Some name
    → has_name P.outputs o name ≢ has_name Q.outputs p name → some_differ names P Q o p ≡ true
some_differ-there [] P Q o p k name at d = cc
some_differ-there (n ∷ names) P Q o p zero name at d =
    let e : name ≡ n = cc in
    or_left (differs (has_name P.outputs o n) (has_name Q.outputs p n)) _ (subst (λ x. differs (has_name P.outputs o x) (has_name Q.outputs p x) ≡ true) e (differs_true (has_name P.outputs o name) (has_name Q.outputs p name) d))
some_differ-there (n ∷ names) P Q o p (suc k) name at d = or_right (differs (has_name P.outputs o n) (has_name Q.outputs p n)) _ (some_differ-there names P Q o p k name at d)

-- where none is found, all are the same
none_differ : (names : List Spelled) (P Q : PlainModule) (o p : SignalSet) (k : ℕ) (name : Spelled) → some_differ names P Q o p ≡ false
    → slice_get names k ≡ Some name → has_name P.outputs o name ≡ has_name Q.outputs p name
none_differ [] P Q o p k name h at = cc
none_differ (n ∷ names) P Q o p zero name h at =
    let e : n ≡ name = cc in
    subst (λ x. has_name P.outputs o x ≡ has_name Q.outputs p x) e (differs_false (has_name P.outputs o n) (has_name Q.outputs p n) (or_first_false (differs (has_name P.outputs o n) (has_name Q.outputs p n)) _ h))
none_differ (n ∷ names) P Q o p (suc k) name h at = none_differ names P Q o p k name (or_second_false (differs (has_name P.outputs o n) (has_name Q.outputs p n)) _ h) at

-- where all outputs of the one program are the same, the sets are the same by name
pub same_outputs : (P Q : PlainModule) (o p : SignalSet) → AreAmong Q.outputs P.outputs
    → ((k : ℕ) (name : Spelled) → slice_get P.outputs k ≡ Some name → has_name P.outputs o name ≡ has_name Q.outputs p name)
    → AreSameByName P.outputs Q.outputs o p
same_outputs P Q o p back h name = elim (true_or_false (is_one_of P.outputs name)) [
  | inl t ↦ let s : Stands P.outputs name = stands P.outputs name t in h s.place name s.at
  | inr f ↦ has_name-absent P.outputs o name f ∙ sym (has_name-absent Q.outputs p name (elim (true_or_false (is_one_of Q.outputs name)) [ inl t ↦ let u = back name t in cc (u, f) | inr g ↦ g ]))
]

module _ (F : Formula) (P Q : PlainModule) (p_good : IsGood P) (q_good : IsGood Q) (lefts rights : List ℕ) (left_widths : AreWidthsOf P lefts) (right_widths : AreWidthsOf Q rights) (t : Tests) (are : AreTestsOf F P Q lefts rights t) where
  -- a reaction of each side, at related memories, with the input set moved by name
  record Together (m n : List ℕ) (i o p : SignalSet) (m' n' : List ℕ) : Type 0 where
    relates : related P Q F m n ≡ true
    left : ReactsCoded P m i o m'
    right : ReactsCoded Q n (moved_inputs P Q i) p n'
    left_fits : FitsIn lefts m
    right_fits : FitsIn rights n
    input : length i ≡ input_count P

  moves : HaveSameNames P Q → (m n : List ℕ) (i j o p : SignalSet) (m' n' : List ℕ) → ReactTogether (Related F P Q) P Q m n i j o p m' n'
      → Together m n i o p m' n'
  moves names m n i j o p m' n' r =
      let e : j ≡ moved_inputs P Q i = same_is_moved P.inputs Q.inputs i j (distinct_first Q.inputs Q.outputs q_good.program.is.names) r.right.reacts.input r.same in
      record {
        relates = r.relates;
        left = r.left;
        right = subst (λ s. ReactsCoded Q n s p n') e r.right;
        left_fits = left_widths m (structural P m i o m' r.left);
        right_fits = right_widths n (structural Q n j p n' r.right);
        input = r.left.reacts.input;
      }

  back : HaveSameNames P Q → (m n : List ℕ) (i o p : SignalSet) (m' n' : List ℕ) → Together m n i o p m' n'
      → ReactTogether (Related F P Q) P Q m n i (moved_inputs P Q i) o p m' n'
  back names m n i o p m' n' r = record { relates = r.relates; same = moved_is_same P.inputs Q.inputs i (share_names P Q p_good.program.is.names names).inputs; left = r.left; right = r.right }

  -- at the point of such reactions the first three functions are true
  pairs_there : (m n : List ℕ) (i o p : SignalSet) (m' n' : List ℕ) → Together m n i o p m' n' → pairs t (point lefts rights m n i) ≡ true
  pairs_there m n i o p m' n' r =
      and_both (t.related (point lefts rights m n i)) _ (are.related_is m n i r.left_fits r.right_fits r.input ∙ r.relates)
      (and_both (t.left (point lefts rights m n i)) _ ((are.left_is m n i r.left_fits r.right_fits r.input).1 (structural P m i o m' r.left)) ((are.right_is m n i r.left_fits r.right_fits r.input).1 (structural Q n (moved_inputs P Q i) p n' r.right)))

  -- and where these are true memories are related and structural
  related_there : (m n : List ℕ) (i : SignalSet) → FitsIn lefts m → FitsIn rights n → length i ≡ input_count P
      → pairs t (point lefts rights m n i) ≡ true → related P Q F m n ≡ true
  related_there m n i f g e h = sym (are.related_is m n i f g e) ∙ and_first (t.related (point lefts rights m n i)) _ h

  left_there : (m n : List ℕ) (i : SignalSet) → FitsIn lefts m → FitsIn rights n → length i ≡ input_count P
      → pairs t (point lefts rights m n i) ≡ true → IsStructural P.process m
  left_there m n i f g e h = (are.left_is m n i f g e).0 (and_first (t.left (point lefts rights m n i)) _ (and_second (t.related (point lefts rights m n i)) _ h))

  right_there : (m n : List ℕ) (i : SignalSet) → FitsIn lefts m → FitsIn rights n → length i ≡ input_count P
      → pairs t (point lefts rights m n i) ≡ true → IsStructural Q.process n
  right_there m n i f g e h = (are.right_is m n i f g e).0 (and_second (t.left (point lefts rights m n i)) _ (and_second (t.related (point lefts rights m n i)) _ h))

  differing_there : HaveSameNames P Q → (m n : List ℕ) (i : SignalSet) (name : Spelled) (d : OutputsDiffer F P Q m n i name)
      → differing t (point lefts rights m n i) ≡ true
  differing_there names m n i name d =
      let r : Together m n i d.o d.p d.m' d.n' = moves names m n i d.j d.o d.p d.m' d.n' d.react in
      and_both (pairs t (point lefts rights m n i)) _ (pairs_there m n i d.o d.p d.m' d.n' r) (are.differ_is m n i d.o d.p d.m' d.n' r.left r.right ∙ some_differ-there P.outputs P Q d.o d.p d.place name d.at d.differ)

  leaving_there : HaveSameNames P Q → (m n : List ℕ) (i : SignalSet) (d : LeavesRelation F P Q m n i) → leaving t (point lefts rights m n i) ≡ true
  leaving_there names m n i d =
      let r : Together m n i d.o d.p d.m' d.n' = moves names m n i d.j d.o d.p d.m' d.n' d.react in
      and_both (pairs t (point lefts rights m n i)) _ (pairs_there m n i d.o d.p d.m' d.n' r) (false_not _ (are.next_is m n i d.o d.p d.m' d.n' r.left r.right ∙ d.unrelated))

  -- what makes a function true doesn't come earlier than its least point
  none_earlier : (f : Function) (m n a b : List ℕ) (i j : SignalSet) → IsLeastPoint P Q lefts rights f m n i → FitsIn lefts a → FitsIn rights b
      → length j ≡ input_count P → f (point lefts rights a b j) ≡ true → ¬ (IsEarlier (pair_key a b j) (pair_key m n i))
  none_earlier f m n a b i j l fa fb e h k =
      let earlier : IsEarlier (digits (point lefts rights a b j)) (digits (point lefts rights m n i)) = point_earlier lefts rights a b m n j i fa fb l.left_fits l.right_fits k in
      elim (l.least.first (point lefts rights a b j) (length-point lefts rights a b j (input_count P) fa fb e) h) [
        | inl same ↦ not_itself (digits (point lefts rights m n i)) (subst (λ (x : List Bool). IsEarlier (digits x) (digits (point lefts rights m n i))) same earlier)
        | inr before ↦ not_both (digits (point lefts rights a b j)) (digits (point lefts rights m n i)) earlier (before_is_earlier (point lefts rights m n i) (point lefts rights a b j) before.place before.same before.here before.there)
      ]

  -- where a function is nowhere true, nothing makes it true
  nowhere : (f : Function) (a b : List ℕ) (j : SignalSet) → AreEqual (variables P lefts rights) f (constant false) → FitsIn lefts a → FitsIn rights b
      → length j ≡ input_count P → f (point lefts rights a b j) ≡ true → ⊥
  nowhere f a b j none fa fb e h = let z : f (point lefts rights a b j) ≡ false = none (point lefts rights a b j) (length-point lefts rights a b j (input_count P) fa fb e) in cc

  none_differs : HaveSameNames P Q → AreEqual (variables P lefts rights) (differing t) (constant false) → (a b : List ℕ) (j : SignalSet)
      → ¬ (SomeDiffers F P Q a b j)
  none_differs names none a b j (name, d) =
      let r : Together a b j d.o d.p d.m' d.n' = moves names a b j d.j d.o d.p d.m' d.n' d.react in
      nowhere (differing t) a b j none r.left_fits r.right_fits r.input (differing_there names a b j name d)

  none_leaves : HaveSameNames P Q → AreEqual (variables P lefts rights) (leaving t) (constant false) → (a b : List ℕ) (j : SignalSet)
      → ¬ (LeavesRelation F P Q a b j)
  none_leaves names none a b j d =
      let r : Together a b j d.o d.p d.m' d.n' = moves names a b j d.j d.o d.p d.m' d.n' d.react in
      nowhere (leaving t) a b j none r.left_fits r.right_fits r.input (leaving_there names a b j d)

  differs_here : HaveSameNames P Q → (m n : List ℕ) (i : SignalSet) (name : Spelled) → IsLeastPoint P Q lefts rights (differing t) m n i
      → IsFirstDiffering P Q m n i name → OutputsDiffer F P Q m n i name
  differs_here names m n i name l d =
      let there : pairs t (point lefts rights m n i) ≡ true = and_first (pairs t (point lefts rights m n i)) _ l.least.holds in
      let r : Together m n i d.o d.p d.m' d.n' = record { relates = related_there m n i l.left_fits l.right_fits l.input there; left = d.left; right = d.right; left_fits = l.left_fits; right_fits = l.right_fits; input = l.input } in
      record { j = moved_inputs P Q i; o = d.o; p = d.p; m' = d.m'; n' = d.n'; react = back names m n i d.o d.p d.m' d.n' r; place = d.place; at = d.at; differ = d.differ; first = d.first }

  leaves_here : HaveSameNames P Q → (m n : List ℕ) (i : SignalSet) → IsLeastPoint P Q lefts rights (leaving t) m n i → LeavesRelation F P Q m n i
  leaves_here names m n i l =
      let there : pairs t (point lefts rights m n i) ≡ true = and_first (pairs t (point lefts rights m n i)) _ l.least.holds in
      let a : Reaction P m i = reaction P m i p_good (left_there m n i l.left_fits l.right_fits l.input there) l.input in
      let b : Reaction Q n (moved_inputs P Q i) = reaction Q n (moved_inputs P Q i) q_good (right_there m n i l.left_fits l.right_fits l.input there) (length-map Q.inputs (has_name P.inputs i)) in
      let r : Together m n i a.outputs_of b.outputs_of a.next_of b.next_of = record { relates = related_there m n i l.left_fits l.right_fits l.input there; left = a.reacts; right = b.reacts; left_fits = l.left_fits; right_fits = l.right_fits; input = l.input } in
      record {
        j = moved_inputs P Q i;
        o = a.outputs_of;
        p = b.outputs_of;
        m' = a.next_of;
        n' = b.next_of;
        react = back names m n i a.outputs_of b.outputs_of a.next_of b.next_of r;
        unrelated = sym (are.next_is m n i a.outputs_of b.outputs_of a.next_of b.next_of a.reacts b.reacts) ∙ not_false _ (and_second (pairs t (point lefts rights m n i)) _ l.least.holds);
      }

  bisimilar : HaveSameNames P Q → starts F P Q ≡ true → AreEqual (variables P lefts rights) (differing t) (constant false)
      → AreEqual (variables P lefts rights) (leaving t) (constant false) → IsBisimulation F P Q
  bisimilar names began none never = record {
    start = began;
    outputs = λ m n i j o p m' n' r.
        let g : Together m n i o p m' n' = moves names m n i j o p m' n' r in
        let none_there : some_differ P.outputs P Q o p ≡ false = is_false _ (λ d. nowhere (differing t) m n i none g.left_fits g.right_fits g.input (and_both (pairs t (point lefts rights m n i)) _ (pairs_there m n i o p m' n' g) (are.differ_is m n i o p m' n' g.left g.right ∙ d))) in
        same_outputs P Q o p (share_back P Q q_good.program.is.names names) (λ k name at. none_differ P.outputs P Q o p k name none_there at);
    stays = λ m n i j o p m' n' r.
        let g : Together m n i o p m' n' = moves names m n i j o p m' n' r in
        elim (true_or_false (related P Q F m' n')) [
          | inl y ↦ y
          | inr d ↦ absurd (nowhere (leaving t) m n i never g.left_fits g.right_fits g.input (and_both (pairs t (point lefts rights m n i)) _ (pairs_there m n i o p m' n' g) (false_not _ (are.next_is m n i o p m' n' g.left g.right ∙ d))))
        ];
  }

  due : (a : EquivAnswer) → IsFound F P Q lefts rights t a → IsEquivAnswer F P Q a
  due (interfaces name) h = h
  due start h = (h.0, λ r. let f = h.1 in cc)
  due (outputs m n i name) (names, began, least, first) =
      let d : OutputsDiffer F P Q m n i name = differs_here names m n i name least first in (
        names,
        began,
        record {
          is = (name, d);
          first = λ a b j e.
              let r = moves names a b j e.1.j e.1.o e.1.p e.1.m' e.1.n' e.1.react in
              none_earlier (differing t) m n a b i j least r.left_fits r.right_fits r.input (differing_there names a b j e.0 e.1);
        },
        d,
      )
  due (leaves m n i) (names, began, none, least) = (
    names,
    began,
    none_differs names none,
    record {
      is = leaves_here names m n i least;
      first = λ a b j e.
          let r = moves names a b j e.j e.o e.p e.m' e.n' e.react in
          none_earlier (leaving t) m n a b i j least r.left_fits r.right_fits r.input (leaving_there names a b j e);
    },
  )
  due accept (names, began, none, never) = (names, bisimilar names began none never)

pub found_is_due : FoundIsDue
found_is_due F P Q lefts rights t a p_good q_good left_widths right_widths are found = due F P Q p_good q_good lefts rights left_widths right_widths t are a found
