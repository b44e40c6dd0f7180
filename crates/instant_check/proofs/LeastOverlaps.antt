-- From meetings of transitions to overlaps of a state.
use Rattle.std.proofs.Common.{◌≡◌, ℕ, ◌+◌, ◌*◌, ◌^◌, ◌<◌, ◌≤◌, List, [], ◌∷◌, Bool, true, map, length, sym, ap, ◌∙◌, subst, arith, inl, inr, ◌⊎◌, min}
use Rattle.std.proofs.Math.Nat.{pow-suc, pow-zero, mul-le-mul_right, mul-le-mul_left}
use Rattle.std.proofs.lemmas.Nat.{pow_pos}
use Rattle.argos_base.specs.Orders.{IsEarlier, digits}
use Rattle.argos_base.specs.SignalSets.{SignalSet, has, lists, set_of}
use Rattle.argos_base.proofs.SetLemmas.{length-set_where, has-below}
use Rattle.argos_core.specs.Overlaps.{some_reads}
use Rattle.argos_core.specs.Process.{Transition}
use Rattle.argos_core.specs.Sizes.{transitions_size}
use Rattle.dd_core.specs.Arenas.{ArenaView, IsEmpty, AddsAtMost, HasNoRoom}
use Rattle.dd_core.specs.Diagrams.{node_count}
use Rattle.dd_core.proofs.FunctionCount.{fewer}
use Rattle.dd_ops.specs.Least.{IsBefore}
use Rattle.instant_check.specs.Effects.{SomeDiffer}
use Rattle.instant_check.specs.Reading.{signals_read}
use Rattle.instant_check.specs.StateOverlaps.{OverlapsAt, HasNoOverlap, IsLeastOverlap, operations_of, IsStopped}
use Rattle.instant_check.specs.Telling.{AreAmong}
use Rattle.instant_check.specs.inner.Chosen.{chosen}
use Rattle.instant_check.specs.inner.Meeting.{Meets, NoneFrom, IsFirstFrom}
use Rattle.instant_check.proofs.ChosenSets.{Ascends, IsAmong, filtered, filtered_ascends, listed_passing, length-filtered, values-set, set-among, one_among, not_earlier}

meets_of : {n : ℕ} {ts : List Transition} {x y : ℕ} {S : SignalSet} → OverlapsAt n ts x y S → Meets n ts x y S
meets_of o = record { first = o.first; first_at = o.first_at; second = o.second; second_at = o.second_at; first_holds = o.first_holds; second_holds = o.second_holds; differ = o.differ }

pub no_overlap : (n : ℕ) (ts : List Transition) → NoneFrom n ts 0 → HasNoOverlap n ts
no_overlap n ts none x y S o = none x y S (omega arith) o.order (meets_of o)

pub none_where_alike : (n : ℕ) (ts : List Transition) → ¬ (SomeDiffer n ts) → HasNoOverlap n ts
none_where_alike n ts alike x y S o = alike (record { x = x; y = y; order = o.order; first = o.first; first_at = o.first_at; second = o.second; second_at = o.second_at; differ = o.differ })

-- the signals that are read
pub read-small : (n : ℕ) (ts : List Transition) (k : ℕ) → lists (signals_read n ts) k ≡ true → k < n
read-small n ts k h = let b = (filtered (some_reads ts) 0 n k h).below in omega (arith, b)

pub read-few : (n : ℕ) (ts : List Transition) → length (signals_read n ts) ≤ n
read-few n ts = length-filtered (some_reads ts) 0 n

pub read-all : (n : ℕ) (ts : List Transition) → ((k : ℕ) → some_reads ts k ≡ true → k < n) → AreAmong (some_reads ts) (signals_read n ts)
read-all n ts small k h = let b = small k h in listed_passing (some_reads ts) 0 n k (omega arith) (omega (arith, b)) h

not_before_itself : (xs : List ℕ) → ¬ (IsEarlier xs xs)
not_before_itself [] e = e
not_before_itself (x ∷ xs) (inl less) = absurd (omega arith)
not_before_itself (x ∷ xs) (inr rest) = not_before_itself xs rest.1

-- the least values give the least set
pub least_overlap : (n : ℕ) (ts : List Transition) (x y : ℕ) (values : List Bool) → IsFirstFrom n (signals_read n ts) ts 0 x y values → IsLeastOverlap n ts x y (set_of n (chosen (signals_read n ts) values))
least_overlap n ts x y values found =
    record {
      is = record { order = found.order; first = met.first; first_at = met.first_at; second = met.second; second_at = met.second_at; sized = among.sized; read = λ k h. (filtered (some_reads ts) 0 n k (among.among k h)).passes; first_holds = met.first_holds; second_holds = met.second_holds; differ = met.differ };
      first = earlier;
    }
  where
    signals : List ℕ
    signals = signals_read n ts

    S : SignalSet
    S = set_of n (chosen signals values)

    up : Ascends signals
    up = filtered_ascends (some_reads ts) 0 n

    has_values : map (has S) signals ≡ values
    has_values = values-set n signals values up (read-small n ts) found.least.sized

    met : Meets n ts x y S
    met = found.least.meets S has_values

    among : IsAmong n signals S
    among = record { sized = length-set_where n (lists (chosen signals values)); among = set-among n signals values }

    among_of : (S' : SignalSet) (x' y' : ℕ) → OverlapsAt n ts x' y' S' → IsAmong n signals S'
    among_of S' x' y' o = record { sized = o.sized; among = λ k h. listed_passing (some_reads ts) 0 n k (omega arith) (let b = inside S' k o.sized h in omega (arith, b)) (o.read k h) }
      where
        inside : (v : SignalSet) (k : ℕ) → length v ≡ n → has v k ≡ true → k < n
        inside v k sized h = subst (λ (m : ℕ). k < m) sized (has-below v k h)

    at : (S' : SignalSet) → IsAmong n signals S' → (map (has S') signals ≡ values) ⊎ IsBefore values (map (has S') signals) → ¬ (IsEarlier (digits S') (digits S))
    at S' a (inl same) e = not_before_itself (digits S) (subst (λ (z : SignalSet). IsEarlier (digits z) (digits S)) (one_among a among (same ∙ sym has_values)) e)
    at S' a (inr before) e = not_earlier up among a (subst (λ (z : List Bool). IsBefore z (map (has S') signals)) (sym has_values) before) e

    earlier : (x' y' : ℕ) (S' : SignalSet) → OverlapsAt n ts x' y' S' → ¬ (IsEarlier (x' ∷ y' ∷ digits S') (x ∷ y ∷ digits S))
    earlier x' y' S' o (inl less) = found.first x' y' S' (omega arith) o.order (inl less) (meets_of o)
    earlier x' y' S' o (inr (same_x, inl less)) = found.first x' y' S' (omega arith) o.order (inr (same_x, less)) (meets_of o)
    earlier x' y' S' o (inr (same_x, inr (same_y, e))) =
        let here : Meets n ts x y S' = subst (λ (z : ℕ). Meets n ts z y S') same_x (subst (λ (z : ℕ). Meets n ts x' z S') same_y (meets_of o)) in
        at S' (among_of S' x' y' o) (found.least.least S' here) e

pub told_overlap : {n : ℕ} {ts : List Transition} {S : SignalSet} {signals read : List ℕ} {values : List Bool} {first second x y : ℕ} → signals ≡ signals_read n ts → read ≡ signals_read n ts → IsFirstFrom n signals ts 0 x y values → first ≡ x → second ≡ y → S ≡ set_of n (chosen read values) → IsLeastOverlap n ts first second S
told_overlap {n} {ts} {S} {signals} {read} {values} {first} {second} {x} {y} e r found f g s =
    let least : IsLeastOverlap n ts x y (set_of n (chosen (signals_read n ts) values)) = least_overlap n ts x y values (subst (λ (l : List ℕ). IsFirstFrom n l ts 0 x y values) e found) in
    let here : S ≡ set_of n (chosen (signals_read n ts) values) = s ∙ ap (λ (l : List ℕ). set_of n (chosen l values)) r in
    subst (λ (z : ℕ). IsLeastOverlap n ts z second S) (sym f) (subst (λ (z : ℕ). IsLeastOverlap n ts x z S) (sym g) (subst (λ (z : SignalSet). IsLeastOverlap n ts x y z) (sym here) least))

-- ---- how many nodes the job adds

pub each_counts : (ts : List Transition) → length ts ≤ transitions_size ts
each_counts [] = omega arith
each_counts (t ∷ ts) = let r = each_counts ts in omega (arith, r)

square : (x : ℕ) → x ^ 2 ≡ x * x
square x = pow-suc x 1 ∙ ap (λ (k : ℕ). k * x) (pow-suc x 0 ∙ ap (λ (k : ℕ). k * x) (pow-zero x) ∙ (let z : 1 * x ≡ x = omega arith in z))

pub counted : (s v m budget : ℕ) → m ≤ s → budget ≤ 2 + (2 * s + m * (m + 2)) * 2 ^ (v + 1) → budget < 16 * (s + v + 16) ^ 2 * 2 ^ (v + 1)
counted s v m budget few within =
    let most = 2 ^ (v + 1) in
    let one : 1 ≤ most = pow_pos (v + 1) in
    let p : m * (m + 2) ≤ s * (m + 2) = mul-le-mul_right (m + 2) few in
    let q : s * (m + 2) ≤ s * (s + 2) = mul-le-mul_left s (omega arith) in
    let sq : (s + v + 16) ^ 2 ≡ (s + v + 16) * (s + v + 16) = square (s + v + 16) in
    let big : 2 * s + m * (m + 2) + 3 ≤ 16 * (s + v + 16) ^ 2 = omega (arith, p, q, sq) in
    let r : (2 * s + m * (m + 2) + 3) * most ≤ 16 * (s + v + 16) ^ 2 * most = mul-le-mul_right most big in
    let t : (2 * s + m * (m + 2) + 3) * most ≡ (2 * s + m * (m + 2)) * most + 3 * most = omega arith in
    omega (arith, within, one, r, t)

below_both : (k a b : ℕ) → k < a → k < b → k < min a b
below_both k a b p q = omega arith

pub stopped : {old new : ArenaView} (n budget m : ℕ) (ts : List Transition) → m ≡ length ts → IsEmpty (length (signals_read n ts)) budget old → AddsAtMost (2 * transitions_size ts + m * (m + 2)) old new → HasNoRoom new → IsStopped n ts budget new
stopped {old} {new} n budget m ts sized empty adds room =
    let v : new.variables ≡ length (signals_read n ts) = adds.keeps.variables ∙ empty.variables in
    let b : new.budget ≡ budget = adds.keeps.budget ∙ empty.budget in
    let few : m ≤ transitions_size ts = (let e = each_counts ts in omega (arith, e)) in
    let within : budget ≤ 2 + (2 * transitions_size ts + m * (m + 2)) * 2 ^ (new.variables + 1) =
    (let f : node_count new.nodes ≤ node_count old.nodes + (2 * transitions_size ts + m * (m + 2)) * 2 ^ (new.variables + 1) = subst (λ (k : ℕ). node_count new.nodes ≤ node_count old.nodes + (2 * transitions_size ts + m * (m + 2)) * 2 ^ (k + 1)) (sym adds.keeps.variables) adds.few in
    let full : node_count new.nodes ≡ budget = room.full ∙ b in
    let two = empty.used in
    omega (arith, f, full, two)) in
    let few_nodes = fewer new adds.arena room.full room.lacks in
    record {
      variables = v;
      fits = adds.arena.few_variables;
      budget_is = b;
      full = room.full;
      needed = below_both budget (2 ^ 2 ^ new.variables) (operations_of ts new.variables * 2 ^ (new.variables + 1)) (omega (arith, few_nodes, b)) (counted (transitions_size ts) new.variables m budget few within);
      lacks = room.lacks;
    }
