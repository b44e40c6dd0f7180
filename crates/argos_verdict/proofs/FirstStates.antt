-- Where no state is found with an overlap, and none is too wide, no state has an overlap or too many variables.
use Rattle.std.proofs.Common.{◌≡◌, ℕ, ◌+◌, ◌<◌, ◌≤◌, List, [], ◌∷◌, length, refl, sym, ap, inl, inr, subst, arith}
use Rattle.std.proofs.lemmas.Bool.{cases_lt}
use Rattle.argos_base.specs.Orders.{IsEarlier, digits}
use Rattle.argos_base.specs.SignalSets.{SignalSet}
use Rattle.argos_core.specs.Overlaps.{IsStateAt, IsOverlap}
use Rattle.argos_core.specs.Process.{Transition, Rules, PlainModule}
use Rattle.argos_core.specs.Reactions.{signal_count}
use Rattle.argos_verdict.proofs.Classical.{IsIrrefutable, IsLeastList, least_list}
use Rattle.eqn_completion.proofs.Ordering.{length-digits}
use Rattle.instant_check.specs.Effects.{SomeDiffer}
use Rattle.instant_check.specs.ModuleOverlaps.{StandsBefore, Fits, IsPassed, IsReached, IsClear, IsFound, IsTooWide}
use Rattle.instant_check.specs.Reading.{signals_read}
use Rattle.instant_check.specs.StateOverlaps.{OverlapsAt}
use Rattle.instant_check.proofs.ModuleStates.{one_state, overlap_of}

differ_of : {n : ℕ} {ts : List Transition} {x y : ℕ} {S : SignalSet} → OverlapsAt n ts x y S → SomeDiffer n ts
differ_of {n} {ts} {x} {y} o = record {
  x = x;
  y = y;
  order = o.order;
  first = o.first;
  first_at = o.first_at;
  second = o.second;
  second_at = o.second_at;
  differ = o.differ;
}

unless_many : {A : Type 0} (v : ℕ) → (1024 < v → A) → (v ≤ 1024 → A) → A
unless_many v many few = elim (cases_lt 1024 v) [ inl more ↦ many more | inr fits ↦ few fits ]

few_unless_many : (v : ℕ) → ¬ (1024 < v) → v ≤ 1024
few_unless_many v few = unless_many v (λ more. absurd (few more)) (λ fits. fits)

-- it can be told that a state is passed
passed : (n : ℕ) (ts : List Transition) → IsIrrefutable (IsPassed n ts) → IsPassed n ts
passed n ts holds = record {
  none = λ x y S o. holds (λ p. p.none x y S o);
  fits = λ differ. few_unless_many (length (signals_read n ts)) (λ many. holds (λ p. (let few = p.fits differ in omega (arith, few, many))));
}

before_as_key : (r' q' r q : ℕ) → StandsBefore r' q' r q → IsEarlier (r' ∷ q' ∷ []) (r ∷ q ∷ [])
before_as_key r' q' r q (inl less) = inl less
before_as_key r' q' r q (inr (same, less)) = inr (same, inl less)

-- the list is the key of an overlap of the transitions
record IsOverlapKey (n : ℕ) (ts : List Transition) (key : List ℕ) : Type 0 where
  x : ℕ
  y : ℕ
  S : SignalSet
  overlap : OverlapsAt n ts x y S
  key_is : key ≡ x ∷ y ∷ digits S

overlap_key_sized : (n : ℕ) (ts : List Transition) (key : List ℕ) → IsOverlapKey n ts key → length key ≡ 2 + n
overlap_key_sized n ts key is = let same = ap length is.key_is in let o = is.overlap.sized in omega (arith, same, length-digits is.S, o)

module _ (P : PlainModule) where
  abbrev n : ℕ
  n = signal_count P

  -- the list is the key of a state that isn't passed
  record IsStateKey (key : List ℕ) : Type 0 where
    register : ℕ
    number : ℕ
    rules : Rules
    state : IsStateAt P register number rules
    stops : ¬ (IsPassed n rules.transitions)
    key_is : key ≡ register ∷ number ∷ []

  reached : (key : List ℕ) (found : IsLeastList 2 IsStateKey key) → IsReached P found.is.register found.is.number found.is.rules
  reached key found = record {
    state = found.is.state;
    before = λ r' q' earlier before state. passed n earlier.transitions (λ stops. found.least (r' ∷ q' ∷ []) refl
        (record { register = r'; number = q'; rules = earlier; state = state; stops = stops; key_is = refl })
        (subst (λ (k : List ℕ). IsEarlier (r' ∷ q' ∷ []) k) (sym found.is.key_is) (before_as_key r' q' found.is.register found.is.number before)));
  }

  -- the least overlap of the first state that isn't passed is the first of the module
  first_found : (r q : ℕ) (rules : Rules) → IsReached P r q rules → Fits n rules.transitions
      → (key : List ℕ) (found : IsLeastList (2 + n) (IsOverlapKey n rules.transitions) key) → IsFound P r q found.is.x found.is.y found.is.S
  first_found r q rules here fits key found = record { first = record { is = is; first = none }; rules = rules; reached = here; fits = fits }
    where
      is : IsOverlap P r q found.is.x found.is.y found.is.S
      is = let o = found.is.overlap in record {
        rules = rules;
        state = here.state;
        order = o.order;
        first = o.first;
        first_at = o.first_at;
        second = o.second;
        second_at = o.second_at;
        sized = o.sized;
        read = o.read;
        first_holds = o.first_holds;
        second_holds = o.second_holds;
        differ = o.differ;
      }

      none : (r' q' x' y' : ℕ) (S' : SignalSet) → IsOverlap P r' q' x' y' S'
          → ¬ (IsEarlier (r' ∷ q' ∷ x' ∷ y' ∷ digits S') (r ∷ q ∷ found.is.x ∷ found.is.y ∷ digits found.is.S))
      none r' q' x' y' S' o (inl less) = (here.before r' q' o.rules (inl less) o.state).none x' y' S' (overlap_of o)
      none r' q' x' y' S' o (inr (same_r, inl less)) = (here.before r' q' o.rules (inr (same_r, less)) o.state).none x' y' S' (overlap_of o)
      none r' q' x' y' S' o (inr (same_r, inr (same_q, earlier))) =
          let same : o.rules ≡ rules = one_state same_r same_q o.state here.state in
          let moved : OverlapsAt n rules.transitions x' y' S' = subst (λ (z : Rules). OverlapsAt n z.transitions x' y' S') same (overlap_of o) in
          found.least (x' ∷ y' ∷ digits S') (omega (arith, length-digits S', o.sized)) (record { x = x'; y = y'; S = S'; overlap = moved; key_is = refl })
          (subst (λ (k : List ℕ). IsEarlier (x' ∷ y' ∷ digits S') k) (sym found.is.key_is) earlier)

  module _ (none_found : (r q x y : ℕ) (S : SignalSet) → ¬ (IsFound P r q x y S)) (none_wide : (v : ℕ) → ¬ (IsTooWide P v)) where
    -- so a state that is reached is passed
    reached_passed : (r q : ℕ) (rules : Rules) → IsReached P r q rules → IsPassed n rules.transitions
    reached_passed r q rules here =
        unless_many v (λ many. record { none = λ x y S o. wide many (differ_of o); fits = λ differ. absurd (wide many differ) })
        (λ few. record { none = λ x y S o. free few (x ∷ y ∷ digits S) (record { x = x; y = y; S = S; overlap = o; key_is = refl }); fits = λ differ. few })
      where
        v : ℕ
        v = length (signals_read n rules.transitions)

        wide : 1024 < v → ¬ (SomeDiffer n rules.transitions)
        wide many differ = none_wide v (record { register = r; number = q; rules = rules; reached = here; differ = differ; variables = refl; many = many })

        free : v ≤ 1024 → (key : List ℕ) → ¬ (IsOverlapKey n rules.transitions key)
        free few key is =
            least_list (2 + n) (IsOverlapKey n rules.transitions) key (overlap_key_sized n rules.transitions key is) is
            (λ found. none_found r q found.1.is.x found.1.is.y found.1.is.S (first_found r q rules here (λ differ. few) found.0 found.1))

    no_key : (key : List ℕ) → ¬ (IsStateKey key)
    no_key key is = least_list 2 IsStateKey key (ap length is.key_is) is (λ found. stopped found.0 found.1)
      where
        stopped : (least : List ℕ) → IsLeastList 2 IsStateKey least → ⊥
        stopped least found = found.is.stops (reached_passed found.is.register found.is.number found.is.rules (reached least found))

    -- a state of the module is passed
    state_passed : (r q : ℕ) (rules : Rules) → IsStateAt P r q rules → IsPassed n rules.transitions
    state_passed r q rules state = passed n rules.transitions (λ stops. no_key (r ∷ q ∷ []) (key stops))
      where
        key : ¬ (IsPassed n rules.transitions) → IsStateKey (r ∷ q ∷ [])
        key stops = record { register = r; number = q; rules = rules; state = state; stops = stops; key_is = refl }

    pub none_clear : IsClear P
    none_clear = record {
      none = λ r q x y S o. (state_passed r q o.rules o.state).none x y S (overlap_of o);
      fits = λ r q rules state. (state_passed r q rules state).fits;
    }
