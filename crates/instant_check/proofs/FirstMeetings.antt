-- The first two transitions of a state that meet, one after the other.
use Rattle.std.proofs.Common.{◌≡◌, ℕ, ◌+◌, ◌*◌, ◌^◌, ◌<◌, ◌≤◌, List, Option, Some, None, Bool, true, false, ◌||◌, map, length, slice_get, sym, ap, ◌∙◌, subst, arith, inl, inr, ◌⊎◌, Ok, MatchOption}
use Rattle.std.specs.Option.{option_or}
use Rattle.std.proofs.lemmas.List.{length-map}
use Rattle.std.proofs.lemmas.Option.{slice_get_within}
use Rattle.dd_core.specs.declared.nodes.NodeId.{NodeId}
use Rattle.dd_core.specs.Functions.{both, either}
use Rattle.dd_core.specs.Arenas.{ArenaView, IsArena, function_of, Keeps, Makes, AddsAtMost}
use Rattle.dd_core.proofs.Walks.{held_constant}
use Rattle.argos_base.specs.SignalSets.{SignalSet, has}
use Rattle.argos_base.proofs.Bools.{and_both, or_left, or_right}
use Rattle.argos_core.specs.Guards.{holds}
use Rattle.argos_core.specs.Process.{Transition}
use Rattle.argos_core.specs.Views.{transition_of}
use Rattle.argos_core.specs.declared.prog.Trans.{Trans}
use Rattle.instant_check.specs.Telling.{DenotesTest}
use Rattle.instant_check.specs.declared.states.Meeting.{Meeting}
use Rattle.instant_check.specs.inner.Meeting.{Meets, NeverMeet, IsLeastMeeting, NoneAfter, IsFirstAfter, NoneFrom, IsFirstFrom, Covers}
use Rattle.instant_check.proofs.Adding.{adds_nothing, adds_in_turn, adds_fewer, adds_one}
use Rattle.instant_check.proofs.TestDiagrams.{test_false}

one_transition : {t u : Transition} → ◌≡◌ {A = Option Transition} (Some t) (Some u) → t ≡ u
one_transition e = cc

true≢false : {b : Bool} → b ≡ true → b ≡ false → ⊥
true≢false p q = cc

last : (j i : ℕ) → j < i + 1 → (j < i) ⊎ (j ≡ i)
last j i below = grind arith

first_or_later : (j i after : ℕ) → after ≡ i + 1 → i ≤ j → (j ≡ i) ⊎ (after ≤ j)
first_or_later j i after e from = grind arith

-- ---- behind one first transition

-- none of the transitions before place y meets it
pub record NoneSoFar (n : ℕ) (ts : List Transition) (old new : ArenaView) (x y : ℕ) : Type 0 where
  pub adds : AddsAtMost y old new
  pub none : NoneAfter n ts x y

pub none_yet : (n : ℕ) (ts : List Transition) (arena : ArenaView) (x y : ℕ) → y ≡ x + 1 → IsArena arena → NoneSoFar n ts arena arena x y
none_yet n ts arena x y e valid = record { adds = adds_nothing y arena valid; none = λ k S after before m. absurd (omega arith) }

pub none_more : {n : ℕ} {ts : List Transition} {a b c : ArenaView} {x y : ℕ} → NoneSoFar n ts a b x y → AddsAtMost 1 b c → NeverMeet n ts x y → NoneSoFar n ts a c x (y + 1)
none_more {n} {ts} {a} {b} {c} {x} {y} before adds never = record {
  adds = adds_in_turn y 1 (y + 1) (omega arith) before.adds adds;
  none = λ k S after below. at k S after (last k y below);
}
  where
    at : (k : ℕ) (S : SignalSet) → x < k → (k < y) ⊎ (k ≡ y) → ¬ (Meets n ts x k S)
    at k S after (inl less) = before.none k S after less
    at k S after (inr same) = subst (λ (z : ℕ). ¬ (Meets n ts x z S)) (sym same) (never S)

pub none_fails : {n : ℕ} {ts : List Transition} {a b c : ArenaView} {x y : ℕ} (most : ℕ) → y < most → NoneSoFar n ts a b x y → AddsAtMost 1 b c → AddsAtMost most a c
none_fails {n} {ts} {a} {b} {c} {x} {y} most below before adds = adds_in_turn y 1 most (omega arith) before.adds adds

pub none_adds : {n : ℕ} {ts : List Transition} {a b : ArenaView} {x y : ℕ} (most : ℕ) → y ≤ most → NoneSoFar n ts a b x y → AddsAtMost most a b
none_adds {n} {ts} {a} {b} {x} {y} most fits before = adds_fewer y most fits before.adds

pub none_all : {n : ℕ} {a b : ArenaView} {x y : ℕ} (ts : List Trans) → length ts ≤ y → NoneSoFar n (map transition_of ts) a b x y → NoneAfter n (map transition_of ts) x (length (map transition_of ts))
none_all ts all before k S after below = before.none k S after (omega (arith, length-map ts transition_of))

pub first_found : {n : ℕ} {a b : ArenaView} {signals : List ℕ} {x y : ℕ} {values : List Bool} (ts : List Trans) → x < y → y < length ts → NoneSoFar n (map transition_of ts) a b x y → IsLeastMeeting n signals (map transition_of ts) x y values → IsFirstAfter n signals (map transition_of ts) x y values
first_found ts order inside before least = record { order = order; inside = omega (arith, length-map ts transition_of); least = least; first = before.none }

-- ---- where none of those behind can be taken with the first

pub covers_none : (arena : ArenaView) (signals : List ℕ) (ts : List Trans) (left : ℕ) → left ≡ length ts → IsArena arena → Covers arena 0 signals (map transition_of ts) left
covers_none arena signals ts left e valid = record {
  held = held_constant arena.nodes 0 (omega arith);
  covers = λ y u S from at h. absurd (let b = slice_get_within (map transition_of ts) y u at in omega (arith, length-map ts transition_of));
}

pub covers_later : {a b : ArenaView} {f : ℕ} {signals : List ℕ} {ts : List Transition} {from : ℕ} → length signals ≡ a.variables → Keeps a b → Covers a f signals ts from → Covers b f signals ts from
covers_later {a} {b} {f} {signals} sized keeps is = record {
  held = keeps.held f is.held;
  covers = λ y u S below at h. keeps.denotes f is.held (map (has S) signals) (length-map signals (has S) ∙ sized) ∙ is.covers y u S below at h;
}

-- the first transition itself as well
pub covers_more : {m : ℕ} {a b : ArenaView} {g later : ℕ} {h : NodeId} {signals : List ℕ} {ts : List Transition} (left after : ℕ) (t : Transition) → after ≡ left + 1 → length signals ≡ a.variables → slice_get ts left ≡ Some t → DenotesTest a g signals (holds t.guard) → Covers a later signals ts after → Makes m a b (either (function_of a g) (function_of a later)) (Ok h) → Covers b h.0 signals ts left
covers_more {m} {a} {b} {g} {later} {h} {signals} {ts} left after t e sized at_t is covers made = record {
  held = made.node.held;
  covers = λ y u S from at_u on. value S ∙ at y u S at_u on (first_or_later y left after e from);
}
  where
    value : (S : SignalSet) → function_of b h.0 (map (has S) signals) ≡ (function_of a g (map (has S) signals) || function_of a later (map (has S) signals))
    value S = made.node.denotes (map (has S) signals) (length-map signals (has S) ∙ sized ∙ sym made.keeps.variables)

    at : (y : ℕ) (u : Transition) (S : SignalSet) → slice_get ts y ≡ Some u → holds u.guard S ≡ true → (y ≡ left) ⊎ (after ≤ y) → (function_of a g (map (has S) signals) || function_of a later (map (has S) signals)) ≡ true
    at y u S at_u on (inl same) =
        let p : u ≡ t = one_transition (sym at_u ∙ ap (slice_get ts) same ∙ at_t) in
        or_left (function_of a g (map (has S) signals)) (function_of a later (map (has S) signals)) (is.exact S ∙ ap (λ (z : Transition). holds z.guard S) (sym p) ∙ on)
    at y u S at_u on (inr behind) = or_right (function_of a g (map (has S) signals)) (function_of a later (map (has S) signals)) (covers.covers y u S behind at_u on)

pub none_behind : {n m : ℕ} {a b : ArenaView} {g later : ℕ} {h : NodeId} {signals : List ℕ} {ts : List Transition} (x after : ℕ) (t : Transition) → after ≡ x + 1 → length signals ≡ a.variables → slice_get ts x ≡ Some t → DenotesTest a g signals (holds t.guard) → Covers a later signals ts after → Makes m a b (both (function_of a g) (function_of a later)) (Ok h) → h.0 ≡ 0 → NoneAfter n ts x (length ts)
none_behind {n} {m} {a} {b} {g} {later} {h} {signals} {ts} x after t e sized at_t is covers made none y S behind below met =
    let p : t ≡ met.first = one_transition (sym at_t ∙ met.first_at) in
    let first : function_of a g (map (has S) signals) ≡ true = is.exact S ∙ ap (λ (z : Transition). holds z.guard S) p ∙ met.first_holds in
    let second : function_of a later (map (has S) signals) ≡ true = covers.covers y met.second S (omega arith) met.second_at met.second_holds in
    let sized_b : length (map (has S) signals) ≡ b.variables = length-map signals (has S) ∙ sized ∙ sym made.keeps.variables in
    let on : function_of b h.0 (map (has S) signals) ≡ true = made.node.denotes (map (has S) signals) sized_b ∙ and_both (function_of a g (map (has S) signals)) (function_of a later (map (has S) signals)) first second in
    let off : function_of b h.0 (map (has S) signals) ≡ false = ap (λ (z : ℕ). function_of b z (map (has S) signals)) none ∙ (test_false b signals made.arena).exact S in
    true≢false on off

-- ---- from the last first transition to the first

abbrev pub IsFound : ℕ → List ℕ → List Transition → ℕ → Option Meeting → Type 0
IsFound n signals ts left found = MatchOption found (NoneFrom n ts left) (λ m. IsFirstFrom n signals ts left m.first m.second m.values.items)

abbrev pub IsFoundBehind : ℕ → List ℕ → List Transition → ℕ → Option Meeting → Type 0
IsFoundBehind n signals ts x behind = MatchOption behind (NoneAfter n ts x (length ts)) (λ m. (m.first ≡ x) × IsFirstAfter n signals ts x m.second m.values.items)

pub record MeetingSoFar (n : ℕ) (signals : List ℕ) (ts : List Trans) (old new : ArenaView) (left later : ℕ) (found : Option Meeting) : Type 0 where
  pub bound : left ≤ length ts
  pub spent : ℕ
  pub adds : AddsAtMost spent old new
  pub few : spent + left * (length ts + 2) ≤ length ts * (length ts + 2)
  pub covers : Covers new later signals (map transition_of ts) left
  pub best : IsFound n signals (map transition_of ts) left found

none_from_end : (n : ℕ) (ts : List Trans) (left : ℕ) → left ≡ length ts → NoneFrom n (map transition_of ts) left
none_from_end n ts left e x y S from order m = absurd (let b = slice_get_within (map transition_of ts) x m.first m.first_at in omega (arith, length-map ts transition_of))

pub meeting_none : (n : ℕ) (signals : List ℕ) (ts : List Trans) (arena : ArenaView) (left : ℕ) → left ≡ length ts → IsArena arena → MeetingSoFar n signals ts arena arena left 0 None
meeting_none n signals ts arena left e valid = record {
  bound = omega arith;
  spent = 0;
  adds = adds_nothing 0 arena valid;
  few = (let p : left * (length ts + 2) ≡ length ts * (length ts + 2) = ap (λ (k : ℕ). k * (length ts + 2)) e in omega (arith, p));
  covers = covers_none arena signals ts left e valid;
  best = none_from_end n ts left e;
}

-- what is found behind one more first transition goes before what was found
pub found_more : (n : ℕ) (signals : List ℕ) (ts : List Transition) (left after : ℕ) (behind found : Option Meeting) → after ≡ left + 1 → IsFoundBehind n signals ts left behind → IsFound n signals ts after found → IsFound n signals ts left (option_or behind found)
found_more n signals ts left after None None e none before = λ x y S from order m. at x y S order m (first_or_later x left after e from)
  where
    at : (x y : ℕ) (S : SignalSet) → x < y → Meets n ts x y S → (x ≡ left) ⊎ (after ≤ x) → ⊥
    at x y S order m (inl same) = none y S (omega arith) (slice_get_within ts y m.second m.second_at) (subst (λ (z : ℕ). Meets n ts z y S) same m)
    at x y S order m (inr later) = before x y S later order m
found_more n signals ts left after None (Some f) e none before = record {
  from_on = (let k = before.from_on in omega (arith, k));
  order = before.order;
  inside = before.inside;
  least = before.least;
  first = λ x y S from order earlier m. at x y S order earlier m (first_or_later x left after e from);
}
  where
    at : (x y : ℕ) (S : SignalSet) → x < y → (x < f.first) ⊎ ((x ≡ f.first) × (y < f.second)) → Meets n ts x y S → (x ≡ left) ⊎ (after ≤ x) → ⊥
    at x y S order earlier m (inl same) = none y S (omega arith) (slice_get_within ts y m.second m.second_at) (subst (λ (z : ℕ). Meets n ts z y S) same m)
    at x y S order earlier m (inr later) = before.first x y S later order earlier m
found_more n signals ts left after (Some b) found e is before = record {
  from_on = (let k = is.0 in omega (arith, k));
  order = (let k = is.0 in let o = is.1.order in omega (arith, k, o));
  inside = is.1.inside;
  least = subst (λ (z : ℕ). IsLeastMeeting n signals ts z b.second b.values.items) (sym is.0) is.1.least;
  first = λ x y S from order earlier m. at x y S from order m earlier;
}
  where
    at : (x y : ℕ) (S : SignalSet) → left ≤ x → x < y → Meets n ts x y S → (x < b.first) ⊎ ((x ≡ b.first) × (y < b.second)) → ⊥
    at x y S from order m (inl before_it) = absurd (let k = is.0 in omega (arith, k))
    at x y S from order m (inr here) =
        let same : x ≡ left = here.0 ∙ is.0 in
        is.1.first y S (omega arith) here.1 (subst (λ (z : ℕ). Meets n ts z y S) same m)

-- what is spent where the call for one more fails, or where the union does
pub behind_fails : {n : ℕ} {signals : List ℕ} {a b c : ArenaView} {later : ℕ} {found : Option Meeting} (ts : List Trans) (left after : ℕ) → after ≡ left + 1 → MeetingSoFar n signals ts a b after later found → AddsAtMost (length ts + 1) b c → AddsAtMost (length ts * (length ts + 2)) a c
behind_fails ts left after e before adds =
    let few = before.few in
    let p : after * (length ts + 2) ≡ (left + 1) * (length ts + 2) = ap (λ (k : ℕ). k * (length ts + 2)) e in
    adds_in_turn before.spent (length ts + 1) (length ts * (length ts + 2)) (omega (arith, few, p)) before.adds adds

pub union_fails : {n : ℕ} {signals : List ℕ} {a b c d : ArenaView} {later : ℕ} {found : Option Meeting} (ts : List Trans) (left after : ℕ) → after ≡ left + 1 → MeetingSoFar n signals ts a b after later found → AddsAtMost (length ts + 1) b c → AddsAtMost 1 c d → AddsAtMost (length ts * (length ts + 2)) a d
union_fails ts left after e before adds one =
    let few = before.few in
    let p : after * (length ts + 2) ≡ (left + 1) * (length ts + 2) = ap (λ (k : ℕ). k * (length ts + 2)) e in
    adds_in_turn before.spent (length ts + 2) (length ts * (length ts + 2)) (omega (arith, few, p)) before.adds (adds_in_turn (length ts + 1) 1 (length ts + 2) (omega arith) adds one)

pub meeting_more : {n : ℕ} {signals : List ℕ} {a b c d : ArenaView} {g later : ℕ} {found : Option Meeting} {h : NodeId} (behind : Option Meeting) (ts : List Trans) (left after : ℕ) (t : Transition) → after ≡ left + 1 → length signals ≡ a.variables → slice_get (map transition_of ts) left ≡ Some t → MeetingSoFar n signals ts a b after later found → AddsAtMost (length ts + 1) b c → IsFoundBehind n signals (map transition_of ts) left behind → DenotesTest c g signals (holds t.guard) → Makes (2 ^ (c.variables + 1)) c d (either (function_of c g) (function_of c later)) (Ok h) → MeetingSoFar n signals ts a d left h.0 (option_or behind found)
meeting_more {n} {signals} {a} {b} {c} {d} {g} {later} {found} behind ts left after t e sized at_t before adds is denotes made =
    let few = before.few in
    let bound = before.bound in
    let p : after * (length ts + 2) ≡ (left + 1) * (length ts + 2) = ap (λ (k : ℕ). k * (length ts + 2)) e in
    let sized_b : length signals ≡ b.variables = sized ∙ sym before.adds.keeps.variables in
    let sized_c : length signals ≡ c.variables = sized_b ∙ sym adds.keeps.variables in
    record {
      bound = omega (arith, bound);
      spent = before.spent + (length ts + 2);
      adds = adds_in_turn before.spent (length ts + 2) (before.spent + (length ts + 2)) (omega arith) before.adds (adds_in_turn (length ts + 1) 1 (length ts + 2) (omega arith) adds (adds_one made));
      few = omega (arith, few, p);
      covers = covers_more left after t e sized_c at_t denotes (covers_later sized_b adds.keeps before.covers) made;
      best = found_more n signals (map transition_of ts) left after behind found e is before.best;
    }

pub meeting_adds : {n : ℕ} {signals : List ℕ} {a b : ArenaView} {left later : ℕ} {found : Option Meeting} (ts : List Trans) → MeetingSoFar n signals ts a b left later found → AddsAtMost (length ts * (length ts + 2)) a b
meeting_adds ts is = adds_fewer is.spent (length ts * (length ts + 2)) (let few = is.few in omega (arith, few)) is.adds
