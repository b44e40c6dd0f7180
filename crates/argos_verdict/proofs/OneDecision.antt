-- Of a module one thing at most is decided.
use Rattle.std.proofs.Common.{◌≡◌, ◌⊎◌, ℕ, ◌<◌, ◌≤◌, List, ◌∷◌, length, length-append, refl, sym, ap, ◌∙◌, inl, inr, subst, arith}
use Rattle.std.proofs.lemmas.Bool.{cases_order}
use Rattle.argos_base.specs.Machines.{Machine, CodedReaction, reaction_key, case_key, Fault, no_reaction, several, IsFaultOf, ReactsOnce}
use Rattle.argos_base.specs.Orders.{digits}
use Rattle.argos_base.specs.SignalSets.{SignalSet}
use Rattle.argos_core.specs.FirstBad.{ReactsCoded}
use Rattle.argos_core.specs.Process.{Rules, PlainModule}
use Rattle.argos_core.specs.Reactions.{signal_count}
use Rattle.argos_core.proofs.CodedReactions.{once_coded}
use Rattle.argos_verdict.specs.Jobs.{reaction_variables, FitsReactions, IsTooWide}
use Rattle.argos_verdict.specs.Judgements.{IsAcceptable, IsBadCase}
use Rattle.argos_verdict.specs.Laws.{accepted, overlap, bad_case, too_wide, OneDecision}
use Rattle.argos_verdict.proofs.JudgingSteps.{one-cyclic}
use Rattle.argos_verdict.proofs.Keys.{earlier_later, case-known, ComesBefore, IsPlaced, same_before, before_same, apart_differ}
use Rattle.argos_verdict.proofs.SizedReactions.{memory_sized}
use Rattle.eqn_completion.proofs.Ordering.{not_both, earlier_total, digits-same, length-digits}
use Rattle.instant_check.specs.ModuleOverlaps as states
use Rattle.instant_check.specs.ModuleOverlaps.{StandsBefore, Fits, IsClear, IsFound}
use Rattle.instant_check.specs.Reading.{signals_read}
use Rattle.instant_check.proofs.ModuleStates.{one_state, overlap_of}

-- ---- states and overlaps

stands_total : (r q r' q' : ℕ) → StandsBefore r q r' q' ⊎ (((r ≡ r') × (q ≡ q')) ⊎ StandsBefore r' q' r q)
stands_total r q r' q' = elim (cases_order r r') [
  | inl same ↦ elim (cases_order q q') [
    | inl one ↦ inr (inl (same, one))
    | inr other ↦ elim other [ inl less ↦ inl (inr (same, less)) | inr more ↦ inr (inr (inr (sym same, more))) ]
  ]
  | inr other ↦ elim other [ inl less ↦ inl (inl less) | inr more ↦ inr (inr (inl more)) ]
]

too_many : {A : Type 0} (n v : ℕ) → n ≡ v → 1024 < n → v ≤ 1024 → A
too_many n v is many few = absurd (omega (arith, is, many, few))

one_overlap : (P : PlainModule) (r q x y r' q' x' y' : ℕ) (S S' : SignalSet) → IsFound P r q x y S → IsFound P r' q' x' y' S'
    → overlap r q x y S ≡ overlap r' q' x' y' S'
one_overlap P r q x y r' q' x' y' S S' a b =
    elim (earlier_total (r ∷ q ∷ x ∷ y ∷ digits S) (r' ∷ q' ∷ x' ∷ y' ∷ digits S') sized) [
      | inl same ↦ known same
      | inr other ↦ absurd (elim other [ inl before ↦ b.first.first r q x y S a.first.is before | inr behind ↦ a.first.first r' q' x' y' S' b.first.is behind ])
    ]
  where
    sized : length (r ∷ q ∷ x ∷ y ∷ digits S) ≡ length (r' ∷ q' ∷ x' ∷ y' ∷ digits S')
    sized = omega (arith, length-digits S, length-digits S', a.first.is.sized, b.first.is.sized)

    known : ◌≡◌ {A = List ℕ} (r ∷ q ∷ x ∷ y ∷ digits S) (r' ∷ q' ∷ x' ∷ y' ∷ digits S') → overlap r q x y S ≡ overlap r' q' x' y' S'
    known same =
        let sets : digits S ≡ digits S' = cc in
        let set = digits-same S S' sets in
        let register : r ≡ r' = cc in
        let state : q ≡ q' = cc in
        let first : x ≡ x' = cc in
        let second : y ≡ y' = cc in
        cc

-- a state that fits isn't too wide
fits_or_wide : {A : Type 0} {P : PlainModule} {n : ℕ} (w : states.IsTooWide P n) → Fits (signal_count P) w.rules.transitions → A
fits_or_wide {A} {P} {n} w fits = too_many n (length (signals_read (signal_count P) w.rules.transitions)) w.variables w.many (fits w.differ)

overlap_or_wide_state : {A : Type 0} {P : PlainModule} {r q x y n : ℕ} {S : SignalSet} → IsFound P r q x y S → states.IsTooWide P n → A
overlap_or_wide_state {A} {P} {r} {q} {x} {y} {n} {S} a w = elim (stands_total r q w.register w.number) [
  | inl before ↦ absurd ((w.reached.before r q a.first.is.rules before a.first.is.state).none x y S (overlap_of a.first.is))
  | inr other ↦ elim other [
    | inl same ↦ (
        let rules : a.rules ≡ w.rules = one_state same.0 same.1 a.reached.state w.reached.state in
        fits_or_wide w (subst (λ (z : Rules). Fits (signal_count P) z.transitions) rules a.fits)
        )
    | inr behind ↦ fits_or_wide w (a.reached.before w.register w.number w.rules behind w.reached.state).fits
  ]
]

clear_or_wide_state : {A : Type 0} {P : PlainModule} {n : ℕ} → IsClear P → states.IsTooWide P n → A
clear_or_wide_state clear w = fits_or_wide w (clear.fits w.register w.number w.rules w.reached.state)

clear_or_overlap : {A : Type 0} {P : PlainModule} {r q x y : ℕ} {S : SignalSet} → IsClear P → IsFound P r q x y S → A
clear_or_overlap {A} {P} {r} {q} {x} {y} {S} clear a = absurd (clear.none r q x y S a.first.is)

overlap_or_wide : {A : Type 0} {P : PlainModule} {r q x y n : ℕ} {S : SignalSet} → IsFound P r q x y S → IsTooWide P n → A
overlap_or_wide a (inl w) = overlap_or_wide_state a w
overlap_or_wide a (inr w) = clear_or_overlap w.clear a

clear_or_wide : {A : Type 0} {P : PlainModule} {n : ℕ} → IsClear P → FitsReactions P → IsTooWide P n → A
clear_or_wide clear fits (inl w) = clear_or_wide_state clear w
clear_or_wide {A} {P} {n} clear fits (inr w) = too_many n (reaction_variables P w.cyclic) w.variables w.many (fits w.cyclic w.are w.some)

one_width : {P : PlainModule} {n k : ℕ} → IsTooWide P n → IsTooWide P k → n ≡ k
one_width {P} {n} {k} (inl v) (inl w) = elim (stands_total v.register v.number w.register w.number) [
  | inl before ↦ fits_or_wide v (w.reached.before v.register v.number v.rules before v.reached.state).fits
  | inr other ↦ elim other [
    | inl same ↦ (
        let rules : v.rules ≡ w.rules = one_state same.0 same.1 v.reached.state w.reached.state in
        v.variables ∙ ap (λ (z : Rules). length (signals_read (signal_count P) z.transitions)) rules ∙ sym w.variables
        )
    | inr behind ↦ fits_or_wide w (v.reached.before w.register w.number w.rules behind w.reached.state).fits
  ]
]
one_width (inl v) (inr w) = clear_or_wide_state w.clear v
one_width (inr v) (inl w) = clear_or_wide_state v.clear w
one_width {P} (inr v) (inr w) = v.variables ∙ ap (reaction_variables P) (one-cyclic P v.cyclic w.cyclic v.are w.are) ∙ sym w.variables

-- ---- cases

module _ (R : Machine) (m : List ℕ) (i : SignalSet) where
  -- where there is a fault there isn't exactly one reaction
  faulty : (f : Fault) → IsFaultOf R m i f → ¬ (ReactsOnce R m i)
  faulty no_reaction none once = none once.reaction.outputs once.reaction.next once.reacts
  faulty (several first second) fault once =
      let a = once.only first.outputs first.next fault.0 in
      let b = once.only second.outputs second.next fault.1 in
      let same : first ≡ second =
      ap (λ (o : SignalSet). record { outputs = o; next = first.next }) (a.0 ∙ sym b.0)
      ∙ ap (λ (n : List ℕ). record { outputs = second.outputs; next = n }) (a.1 ∙ sym b.1) in
      apart_differ first second (inl fault.2) same

  -- what is placed comes after the first, if it isn't that
  first_or_behind : (a b r : CodedReaction) → ComesBefore a b → IsPlaced a b r → (r ≡ a) ⊎ ComesBefore a r
  first_or_behind a b r before (inl same) = inl same
  first_or_behind a b r before (inr (inl same)) = inr (before_same b r a (sym same) before)
  first_or_behind a b r before (inr (inr behind)) = inr (earlier_later (reaction_key a) (reaction_key b) (reaction_key r) before behind)

  one_first : (a b c d : CodedReaction) → IsFaultOf R m i (several a b) → IsFaultOf R m i (several c d) → a ≡ c
  one_first a b c d f g = elim (first_or_behind a b c f.2 (f.3 c g.0)) [
    | inl same ↦ sym same
    | inr behind ↦ elim (first_or_behind c d a g.2 (g.3 a f.0)) [
      | inl same ↦ same
      | inr other ↦ absurd (not_both (reaction_key a) (reaction_key c) behind other)
    ]
  ]

  -- what is placed and comes after the first comes after the second too, if it isn't that
  second_or_behind : (a b r : CodedReaction) → ComesBefore a r → IsPlaced a b r → (r ≡ b) ⊎ ComesBefore b r
  second_or_behind a b r before (inl same) = absurd (apart_differ r a (inr before) same)
  second_or_behind a b r before (inr other) = other

  one_second : (a b c d : CodedReaction) → IsFaultOf R m i (several a b) → IsFaultOf R m i (several c d) → b ≡ d
  one_second a b c d f g =
      let same = one_first a b c d f g in
      elim (second_or_behind a b d (same_before c a d (sym same) g.2) (f.3 d g.1)) [
        | inl one ↦ sym one
        | inr behind ↦ elim (second_or_behind c d b (same_before a c b same f.2) (g.3 b f.1)) [
          | inl one ↦ one
          | inr other ↦ absurd (not_both (reaction_key b) (reaction_key d) behind other)
        ]
      ]

  one_fault : (f g : Fault) → IsFaultOf R m i f → IsFaultOf R m i g → f ≡ g
  one_fault no_reaction no_reaction h k = refl
  one_fault no_reaction (several c d) h k = absurd (h c.outputs c.next k.0)
  one_fault (several a b) no_reaction h k = absurd (k a.outputs a.next h.0)
  one_fault (several a b) (several c d) h k =
      ap (λ (r : CodedReaction). several r b) (one_first a b c d h k) ∙ ap (λ (r : CodedReaction). several c r) (one_second a b c d h k)

one_case : (P : PlainModule) (m n : List ℕ) (i j : SignalSet) (f g : Fault) → IsBadCase P m i f → IsBadCase P n j g → bad_case m i f ≡ bad_case n j g
one_case P m n i j f g a b =
    elim (earlier_total (case_key m i) (case_key n j) sized) [
      | inl same ↦ known (case-known m n i j memories same)
      | inr other ↦ absurd (elim other [
        | inl before ↦ faulty (ReactsCoded P) m i f a.first.fault (b.first.first m i a.first.memory a.first.input before)
        | inr behind ↦ faulty (ReactsCoded P) n j g b.first.fault (a.first.first n j b.first.memory b.first.input behind)
      ])
    ]
  where
    memories : length m ≡ length n
    memories = memory_sized P m a.first.memory ∙ sym (memory_sized P n b.first.memory)

    sized : length (case_key m i) ≡ length (case_key n j)
    sized =
        let first = length-append m (digits i) in
        let second = length-append n (digits j) in
        omega (arith, first, second, length-digits i, length-digits j, memories, a.first.input, b.first.input)

    known : (m ≡ n) × (i ≡ j) → bad_case m i f ≡ bad_case n j g
    known same =
        let memory_moved : IsFaultOf (ReactsCoded P) n i f = subst (λ (l : List ℕ). IsFaultOf (ReactsCoded P) l i f) same.0 a.first.fault in
        let moved : IsFaultOf (ReactsCoded P) n j f = subst (λ (s : SignalSet). IsFaultOf (ReactsCoded P) n s f) same.1 memory_moved in
        ap (λ (l : List ℕ). bad_case l i f) same.0
        ∙ ap (λ (s : SignalSet). bad_case n s f) same.1
        ∙ ap (bad_case n j) (one_fault (ReactsCoded P) n j f g moved b.first.fault)

-- each case of an accepted module has exactly one reaction
good_or_bad : {A : Type 0} {P : PlainModule} {m : List ℕ} {i : SignalSet} {f : Fault} → IsAcceptable P → IsBadCase P m i f → A
good_or_bad {A} {P} {m} {i} {f} good bad =
    let is = bad.first.memory in
    let once = once_coded P is.configuration i is.is (good.good.one is.configuration i is.is bad.first.input) in
    absurd (faulty (ReactsCoded P) m i f bad.first.fault (subst (λ (l : List ℕ). ReactsOnce (ReactsCoded P) l i) is.code once))

pub one_decision : OneDecision
one_decision P accepted accepted is a b = refl
one_decision P accepted (overlap r q x y S) is a b = clear_or_overlap a.clear b
one_decision P accepted (bad_case m i f) is a b = good_or_bad a b
one_decision P accepted (too_wide n) is a b = clear_or_wide a.clear a.fits b
one_decision P (overlap r q x y S) accepted is a b = clear_or_overlap b.clear a
one_decision P (overlap r q x y S) (overlap r' q' x' y' S') is a b = one_overlap P r q x y r' q' x' y' S S' a b
one_decision P (overlap r q x y S) (bad_case m i f) is a b = clear_or_overlap b.clear a
one_decision P (overlap r q x y S) (too_wide n) is a b = overlap_or_wide a b
one_decision P (bad_case m i f) accepted is a b = good_or_bad b a
one_decision P (bad_case m i f) (overlap r q x y S) is a b = clear_or_overlap a.clear b
one_decision P (bad_case m i f) (bad_case n j g) is a b = one_case P m n i j f g a b
one_decision P (bad_case m i f) (too_wide n) is a b = clear_or_wide a.clear a.fits b
one_decision P (too_wide n) accepted is a b = clear_or_wide b.clear b.fits a
one_decision P (too_wide n) (overlap r q x y S) is a b = overlap_or_wide b a
one_decision P (too_wide n) (bad_case m i f) is a b = clear_or_wide b.clear b.fits a
one_decision P (too_wide n) (too_wide k) is a b = ap too_wide (one_width a b)
