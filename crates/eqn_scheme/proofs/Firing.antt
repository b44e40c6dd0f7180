-- What the fires of an automaton show: nothing where no state is live, and in the current state the outcome.
use Rattle.std.proofs.Common.{◌≡◌, ℕ, zero, suc, ◌+◌, ◌-◌, ◌<◌, ◌≤◌, List, [], ◌∷◌, ◌++◌, Option, Some, None, Bool, true, false, ◌&&◌, ◌||◌, nat_eq, nat_le, if◌then◌else◌, refl, sym, ap, ◌∙◌, inl, inr, subst, arith, length, slice_get}
use Rattle.argos_base.specs.SignalSets.{SignalSet, has, lists, set_of}
use Rattle.argos_base.proofs.Bools.{true_or_false}
use Rattle.argos_base.proofs.SetLemmas.{has-set_where}
use Rattle.argos_core.specs.Automata.{counts_of, first_code}
use Rattle.argos_core.specs.Configurations.{IsElapsed, IsOfState}
use Rattle.argos_core.specs.Guards.{holds}
use Rattle.argos_core.specs.Overlaps.{HaveOneEffect}
use Rattle.argos_core.specs.Process.{Transition, Timeout, States, no_states, state, Inner}
use Rattle.argos_core.proofs.Agreement.{Agree, AgreeIn}
use Rattle.argos_core.proofs.CodesDiffer.{below_counts, first_code-positive}
use Rattle.eqn_scheme.specs.inner.Settled.{Outcome, leaves, counts, stays, timed, outcome, outcome_in}
use Rattle.eqn_scheme.specs.Wired.{is_in, is_last, Fire, fires_of, times_of, ticks_of, state_fires, state_ticks, fires_in, ticks_in, fires_emit, fires_enter, some_fires, fired_code}
use Rattle.eqn_scheme.proofs.Listing.{nat_le-at, nat_le-not, last_or_not}

pub or-false : (a : Bool) → (a || false) ≡ a
or-false true = refl
or-false false = refl

pub and-false : (a b : Bool) → b ≡ false → (a && b) ≡ false
and-false true b h = h
and-false false b h = refl

pub or-true : (a : Bool) → (a || true) ≡ true
or-true true = refl
or-true false = refl

-- a second operand that is true only where the first one is adds nothing
or-absorb : (a b : Bool) → (b ≡ true → a ≡ true) → (a || b) ≡ a
or-absorb true b h = refl
or-absorb false true h = sym (h refl)
or-absorb false false h = refl

or_swapped : (a b c : Bool) → ((a || b) || c) ≡ (a || (b || c))
or_swapped true b c = refl
or_swapped false b c = refl

-- lists one after the other
pub emit-append : (xs ys : List Fire) (k : ℕ) → fires_emit (xs ++ ys) k ≡ (fires_emit xs k || fires_emit ys k)
emit-append [] ys k = refl
emit-append (x ∷ xs) ys k = ap (λ b. (x.on && lists x.outs k) || b) (emit-append xs ys k) ∙ sym (or_swapped (x.on && lists x.outs k) (fires_emit xs k) (fires_emit ys k))

pub enter-append : (xs ys : List Fire) (j : ℕ) → fires_enter (xs ++ ys) j ≡ (fires_enter xs j || fires_enter ys j)
enter-append [] ys j = refl
enter-append (x ∷ xs) ys j = ap (λ b. (x.on && nat_eq x.target j) || b) (enter-append xs ys j) ∙ sym (or_swapped (x.on && nat_eq x.target j) (fires_enter xs j) (fires_enter ys j))

pub some-append : (xs ys : List Fire) → some_fires (xs ++ ys) ≡ (some_fires xs || some_fires ys)
some-append [] ys = refl
some-append (x ∷ xs) ys = ap (λ b. x.on || b) (some-append xs ys) ∙ sym (or_swapped x.on (some_fires xs) (some_fires ys))

pub fired-append : (xs ys : List Fire) (first : ℕ → ℕ) (other : ℕ) → fired_code first (xs ++ ys) other ≡ fired_code first xs (fired_code first ys other)
fired-append [] ys first other = refl
fired-append (x ∷ xs) ys first other = ap (λ n. if x.on then first x.target else n) (fired-append xs ys first other)

-- no fire is on
abbrev pub AreOff : List Fire → Type 0
AreOff [] = Unit {0}
AreOff (f ∷ fs) = (f.on ≡ false) × AreOff fs

pub off-append : (xs ys : List Fire) → AreOff xs → AreOff ys → AreOff (xs ++ ys)
off-append [] ys h i = i
off-append (x ∷ xs) ys h i = (h.0, off-append xs ys h.1 i)

pub off-emit : (fs : List Fire) (k : ℕ) → AreOff fs → fires_emit fs k ≡ false
off-emit [] k h = refl
off-emit (f ∷ fs) k h = rw h.0 (off-emit fs k h.1)

pub off-enter : (fs : List Fire) (j : ℕ) → AreOff fs → fires_enter fs j ≡ false
off-enter [] j h = refl
off-enter (f ∷ fs) j h = rw h.0 (off-enter fs j h.1)

pub off-some : (fs : List Fire) → AreOff fs → some_fires fs ≡ false
off-some [] h = refl
off-some (f ∷ fs) h = rw h.0 (off-some fs h.1)

pub off-fired : (fs : List Fire) (first : ℕ → ℕ) (other : ℕ) → AreOff fs → fired_code first fs other ≡ other
off-fired [] first other h = refl
off-fired (f ∷ fs) first other h = rw h.0 (off-fired fs first other h.1)

-- a state that isn't live fires nothing
dead_transitions : (ts : List Transition) (v : SignalSet) → AreOff (fires_of false v ts)
dead_transitions [] v = tt
dead_transitions (t ∷ ts) v = (refl, dead_transitions ts v)

dead_times : (w : Option Timeout) (first code : ℕ) (v : SignalSet) → AreOff (times_of false first code v w)
dead_times None first code v = tt
dead_times (Some w) first code v = (refl, tt)

pub dead_fires : (ts : List Transition) (w : Option Timeout) (first code : ℕ) (v : SignalSet) → AreOff (state_fires false first code v ts w)
dead_fires ts w first code v = off-append (fires_of false v ts) (times_of false first code v w) (dead_transitions ts v) (dead_times w first code v)

pub dead_ticks : (ts : List Transition) (w : Option Timeout) (first code : ℕ) (v : SignalSet) → state_ticks false first code v ts w ≡ false
dead_ticks ts None first code v = refl
dead_ticks ts (Some w) first code v = refl

-- none of the states is live
abbrev pub AreDead : States → Bool → ℕ → ℕ → Type 0
AreDead no_states run first code = Unit {0}
AreDead (state s p ss) run first code = ((run && is_in first s.timeout code) ≡ false) × AreDead ss run (first + counts_of s.timeout) code

-- so it is where the automaton doesn't run
pub dead_stopped : (ss : States) (first code : ℕ) → AreDead ss false first code
dead_stopped no_states first code = tt
dead_stopped (state s p ss) first code = (refl, dead_stopped ss (first + counts_of s.timeout) code)

pub is_in-below : (first : ℕ) (w : Option Timeout) (code : ℕ) → code < first → is_in first w code ≡ false
is_in-below first w code h = ap (λ b. b && nat_le code (first + counts_of w - 1)) (nat_le-not first code h)

pub is_in-above : (first : ℕ) (w : Option Timeout) (code : ℕ) → 1 ≤ first → first + counts_of w ≤ code → is_in first w code ≡ false
is_in-above first w code least h = and-false (nat_le first code) (nat_le code (first + counts_of w - 1)) (nat_le-not code (first + counts_of w - 1) (omega arith))

pub is_in-at : (first : ℕ) (w : Option Timeout) (code : ℕ) → first ≤ code → code < first + counts_of w → is_in first w code ≡ true
is_in-at first w code low high = ap (λ b. b && nat_le code (first + counts_of w - 1)) (nat_le-at first code low) ∙ nat_le-at code (first + counts_of w - 1) (omega arith)

-- and where the code is below those of the states
pub dead_below : (ss : States) (run : Bool) (first code : ℕ) → code < first → AreDead ss run first code
dead_below no_states run first code h = tt
dead_below (state s p ss) run first code h = (and-false run (is_in first s.timeout code) (is_in-below first s.timeout code h), dead_below ss run (first + counts_of s.timeout) code (omega arith))

pub fires_in-off : (ss : States) (run : Bool) (first code : ℕ) (v : SignalSet) → AreDead ss run first code → AreOff (fires_in ss run first code v)
fires_in-off no_states run first code v h = tt
fires_in-off (state s p ss) run first code v h =
    off-append (state_fires (run && is_in first s.timeout code) first code v s.transitions s.timeout) (fires_in ss run (first + counts_of s.timeout) code v)
    (subst (λ b. AreOff (state_fires b first code v s.transitions s.timeout)) (sym h.0) (dead_fires s.transitions s.timeout first code v))
    (fires_in-off ss run (first + counts_of s.timeout) code v h.1)

pub ticks_in-off : (ss : States) (run : Bool) (first code : ℕ) (v : SignalSet) → AreDead ss run first code → ticks_in ss run first code v ≡ false
ticks_in-off no_states run first code v h = refl
ticks_in-off (state s p ss) run first code v h =
    ap (λ b. state_ticks b first code v s.transitions s.timeout || ticks_in ss run (first + counts_of s.timeout) code v) h.0
    ∙ ap (λ b. b || ticks_in ss run (first + counts_of s.timeout) code v) (dead_ticks s.transitions s.timeout first code v)
    ∙ ticks_in-off ss run (first + counts_of s.timeout) code v h.1

-- the fires and the tick tell the outcome
abbrev pub Show : ℕ → List Fire → Bool → Outcome → Type 0
Show n fs tick (leaves outs target) = ((k : ℕ) → k < n → fires_emit fs k ≡ lists outs k) × ((j : ℕ) → fires_enter fs j ≡ nat_eq target j) × (some_fires fs ≡ true) × ((first : ℕ → ℕ) (other : ℕ) → fired_code first fs other ≡ first target)
Show n fs tick counts = AreOff fs × (tick ≡ true)
Show n fs tick stays = AreOff fs × (tick ≡ false)

-- also with fires before or behind that are off
show-behind : (n : ℕ) (xs fs : List Fire) (tick : Bool) (o : Outcome) → AreOff xs → Show n fs tick o → Show n (xs ++ fs) tick o
show-behind n xs fs tick (leaves outs target) off h = (
  (λ k below. emit-append xs fs k ∙ ap (λ b. b || fires_emit fs k) (off-emit xs k off) ∙ h.0 k below),
  (λ j. enter-append xs fs j ∙ ap (λ b. b || fires_enter fs j) (off-enter xs j off) ∙ h.1 j),
  some-append xs fs ∙ ap (λ b. b || some_fires fs) (off-some xs off) ∙ h.2,
  (λ first other. fired-append xs fs first other ∙ off-fired xs first (fired_code first fs other) off ∙ h.3 first other),
)
show-behind n xs fs tick counts off h = (off-append xs fs off h.0, h.1)
show-behind n xs fs tick stays off h = (off-append xs fs off h.0, h.1)

show-before : (n : ℕ) (fs ys : List Fire) (tick : Bool) (o : Outcome) → AreOff ys → Show n fs tick o → Show n (fs ++ ys) tick o
show-before n fs ys tick (leaves outs target) off h = (
  (λ k below. emit-append fs ys k ∙ ap (λ b. fires_emit fs k || b) (off-emit ys k off) ∙ or-false (fires_emit fs k) ∙ h.0 k below),
  (λ j. enter-append fs ys j ∙ ap (λ b. fires_enter fs j || b) (off-enter ys j off) ∙ or-false (fires_enter fs j) ∙ h.1 j),
  some-append fs ys ∙ ap (λ b. some_fires fs || b) (off-some ys off) ∙ or-false (some_fires fs) ∙ h.2,
  (λ first other. fired-append fs ys first other ∙ h.3 first (fired_code first ys other)),
)
show-before n fs ys tick counts off h = (off-append fs ys h.0 off, h.1)
show-before n fs ys tick stays off h = (off-append fs ys h.0 off, h.1)

is_last-at : (first : ℕ) (w : Timeout) (code : ℕ) → code ≡ first + w.count - 1 → is_last first w code ≡ true
is_last-at first w code h = ap (λ b. b && nat_le code (first + w.count - 1)) (nat_le-at (first + w.count - 1) code (omega arith)) ∙ nat_le-at code (first + w.count - 1) (omega arith)

is_last-not : (first : ℕ) (w : Timeout) (code : ℕ) → code < first + w.count - 1 → is_last first w code ≡ false
is_last-not first w code h = ap (λ b. b && nat_le code (first + w.count - 1)) (nat_le-not (first + w.count - 1) code h)

-- the timeout of a live state where no transition fires
times_show : (n : ℕ) (w : Option Timeout) (e first code : ℕ) (v : SignalSet) → IsElapsed w e → code ≡ first + e → Show n (times_of true first code v w) (ticks_of true first code v w) (timed w e v)
times_show n None e first code v h c = (tt, refl)
times_show n (Some w) e first code v h c = elim (true_or_false (has v w.signal)) [
  | inl s ↦ elim (last_or_not e w.count h) [
    | inl y ↦ rw (s, y.0, is_last-at first w code (omega (arith, y.1))) ((λ k below. or-false (lists w.outs k)), (λ j. or-false (nat_eq w.target j)), refl, (λ f other. refl))
    | inr y ↦ rw (s, y.0, is_last-not first w code (omega (arith, y.1))) ((refl, tt), refl)
  ]
  | inr s ↦ rw s ((refl, tt), refl)
]

lists-same : (n : ℕ) (xs ys : List ℕ) (k : ℕ) → set_of n xs ≡ set_of n ys → k < n → lists xs k ≡ lists ys k
lists-same n xs ys k same below = sym (has-set_where n (lists xs) k below) ∙ ap (λ z. has z k) same ∙ has-set_where n (lists ys) k below

-- beside a transition that holds, each other one that does has its effect
others_emit : (n : ℕ) (t : Transition) (ts : List Transition) (v : SignalSet) (k : ℕ) → k < n → ((x : ℕ) (u : Transition) → slice_get ts x ≡ Some u → holds u.guard v ≡ true → HaveOneEffect n t u) → fires_emit (fires_of true v ts) k ≡ true → lists t.outs k ≡ true
others_emit n t [] v k below same h = cc
others_emit n t (u ∷ ts) v k below same h = elim (true_or_false (holds u.guard v)) [
  | inl y ↦ elim (true_or_false (lists u.outs k)) [
    | inl l ↦ lists-same n t.outs u.outs k (same 0 u refl y).1 below ∙ l
    | inr l ↦ others_emit n t ts v k below (λ x z g i. same (suc x) z g i) (rw (y, l) at h)
  ]
  | inr y ↦ others_emit n t ts v k below (λ x z g i. same (suc x) z g i) (rw y at h)
]

others_enter : (n : ℕ) (t : Transition) (ts : List Transition) (v : SignalSet) (j : ℕ) → ((x : ℕ) (u : Transition) → slice_get ts x ≡ Some u → holds u.guard v ≡ true → HaveOneEffect n t u) → fires_enter (fires_of true v ts) j ≡ true → nat_eq t.target j ≡ true
others_enter n t [] v j same h = cc
others_enter n t (u ∷ ts) v j same h = elim (true_or_false (holds u.guard v)) [
  | inl y ↦ elim (true_or_false (nat_eq u.target j)) [
    | inl l ↦ ap (λ z. nat_eq z j) (same 0 u refl y).0 ∙ l
    | inr l ↦ others_enter n t ts v j (λ x z g i. same (suc x) z g i) (rw (y, l) at h)
  ]
  | inr y ↦ others_enter n t ts v j (λ x z g i. same (suc x) z g i) (rw y at h)
]

-- a live state
pub state_shows : (n : ℕ) (ts : List Transition) (w : Option Timeout) (e first code : ℕ) (v : SignalSet) → length v ≡ n → Agree n ts → IsElapsed w e → code ≡ first + e → Show n (state_fires true first code v ts w) (state_ticks true first code v ts w) (outcome ts w e v)
state_shows n [] w e first code v sized agree h c = times_show n w e first code v h c
state_shows n (t ∷ ts) w e first code v sized agree h c = elim (true_or_false (holds t.guard v)) [
  | inl y ↦ show_first y
  | inr y ↦ rw y (show-behind n (record { on = false; outs = t.outs; target = t.target } ∷ []) (state_fires true first code v ts w) (state_ticks true first code v ts w) (outcome ts w e v) (refl, tt) (state_shows n ts w e first code v sized (λ x z. agree (suc x) (suc z)) h c))
]
  where
    same : holds t.guard v ≡ true → (x : ℕ) (u : Transition) → slice_get ts x ≡ Some u → holds u.guard v ≡ true → HaveOneEffect n t u
    same y x u g i = agree 0 (suc x) t u v sized refl g y i

    show_first : holds t.guard v ≡ true → Show n (state_fires true first code v (t ∷ ts) w) (state_ticks true first code v (t ∷ ts) w) (outcome (t ∷ ts) w e v)
    show_first y =
        let off : AreOff (times_of false first code v w) = dead_times w first code v in
        rw y (
          (λ k below. ap (λ b. lists t.outs k || b) (emit-append (fires_of true v ts) (times_of false first code v w) k ∙ ap (λ b. fires_emit (fires_of true v ts) k || b) (off-emit (times_of false first code v w) k off) ∙ or-false (fires_emit (fires_of true v ts) k)) ∙ or-absorb (lists t.outs k) (fires_emit (fires_of true v ts) k) (others_emit n t ts v k below (same y))),
          (λ j. ap (λ b. nat_eq t.target j || b) (enter-append (fires_of true v ts) (times_of false first code v w) j ∙ ap (λ b. fires_enter (fires_of true v ts) j || b) (off-enter (times_of false first code v w) j off) ∙ or-false (fires_enter (fires_of true v ts) j)) ∙ or-absorb (nat_eq t.target j) (fires_enter (fires_of true v ts) j) (others_enter n t ts v j (same y))),
          refl,
          (λ f other. refl),
        )

-- an automaton that runs, in state q
pub in_shows : (ss : States) (n q e : ℕ) (b : Inner) (first code : ℕ) (v : SignalSet) → length v ≡ n → AgreeIn n ss → IsOfState ss q e b → 1 ≤ first → code + 1 ≡ first + first_code ss q + e → Show n (fires_in ss true first code v) (ticks_in ss true first code v) (outcome_in ss q e v)
in_shows no_states n q e b first code v sized agree h least c = absurd h
in_shows (state s p ss) n zero e b first code v sized agree h least c =
    let live : is_in first s.timeout code ≡ true = is_in-at first s.timeout code (omega arith) (omega (arith, below_counts s.timeout e h.0)) in
    let dead : AreDead ss true (first + counts_of s.timeout) code = dead_below ss true (first + counts_of s.timeout) code (omega (arith, below_counts s.timeout e h.0)) in
    let here = state_shows n s.transitions s.timeout e first code v sized agree.0 h.0 (omega arith) in
    rw (live, ticks_in-off ss true (first + counts_of s.timeout) code v dead, or-false (state_ticks true first code v s.transitions s.timeout))
    (show-before n (state_fires true first code v s.transitions s.timeout) (fires_in ss true (first + counts_of s.timeout) code v) (state_ticks true first code v s.transitions s.timeout) (outcome s.transitions s.timeout e v) (fires_in-off ss true (first + counts_of s.timeout) code v dead) here)
in_shows (state s p ss) n (suc q) e b first code v sized agree h least c =
    let dead : is_in first s.timeout code ≡ false = is_in-above first s.timeout code least (omega (arith, first_code-positive ss q)) in
    rw (dead, dead_ticks s.transitions s.timeout first code v)
    (show-behind n (state_fires false first code v s.transitions s.timeout) (fires_in ss true (first + counts_of s.timeout) code v) (ticks_in ss true (first + counts_of s.timeout) code v) (outcome_in ss q e v) (dead_fires s.transitions s.timeout first code v)
    (in_shows ss n q e b (first + counts_of s.timeout) code v sized agree.2 h (omega arith) (omega arith)))
