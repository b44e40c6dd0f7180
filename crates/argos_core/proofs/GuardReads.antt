-- Only the signals that a guard reads decide it.
use Rattle.std.proofs.Common.{◌≡◌, ℕ, zero, suc, ◌<◌, List, [], ◌∷◌, Some, Bool, true, false, ◌&&◌, ◌||◌, not, refl, sym, ap, ◌∙◌, inl, inr, length, slice_get}
use Rattle.argos_base.specs.SignalSets.{SignalSet, has, set_where}
use Rattle.argos_base.proofs.Bools.{and_first, or_left, or_right, true_or_false}
use Rattle.argos_base.proofs.SetLemmas.{length-set_where, has-set_where, has-below}
use Rattle.argos_core.specs.Guards.{holds, every, some, reads, reads_some}
use Rattle.argos_core.specs.Overlaps.{some_reads}
use Rattle.argos_core.specs.Process.{Guard, always, never, present, negation, all, any, Guards, no_guards, guard, Transition}
use Rattle.argos_core.proofs.Numbers.{nat_eq-same}

-- a guard holds on both of two sets that agree where it reads, or on neither
mutual
  pub holds-agree : (g : Guard) (v w : SignalSet) → ((k : ℕ) → reads g k ≡ true → has v k ≡ has w k) → holds g v ≡ holds g w
  holds-agree always v w same = refl
  holds-agree never v w same = refl
  holds-agree (present s) v w same = same s (nat_eq-same s)
  holds-agree (negation g) v w same = ap not (holds-agree g v w same)
  holds-agree (all gs) v w same = every-agree gs v w same
  holds-agree (any gs) v w same = some-agree gs v w same

  every-agree : (gs : Guards) (v w : SignalSet) → ((k : ℕ) → reads_some gs k ≡ true → has v k ≡ has w k) → every gs v ≡ every gs w
  every-agree no_guards v w same = refl
  every-agree (guard g gs) v w same =
      let first = holds-agree g v w (λ k r. same k (or_left (reads g k) (reads_some gs k) r)) in
      let rest = every-agree gs v w (λ k r. same k (or_right (reads g k) (reads_some gs k) r)) in
      ap (λ b. b && every gs v) first ∙ ap (λ b. holds g w && b) rest

  some-agree : (gs : Guards) (v w : SignalSet) → ((k : ℕ) → reads_some gs k ≡ true → has v k ≡ has w k) → some gs v ≡ some gs w
  some-agree no_guards v w same = refl
  some-agree (guard g gs) v w same =
      let first = holds-agree g v w (λ k r. same k (or_left (reads g k) (reads_some gs k) r)) in
      let rest = some-agree gs v w (λ k r. same k (or_right (reads g k) (reads_some gs k) r)) in
      ap (λ b. b || some gs v) first ∙ ap (λ b. holds g w || b) rest

-- what a transition's guard reads, the transitions read
some_reads-at : (ts : List Transition) (x : ℕ) (t : Transition) (k : ℕ) → slice_get ts x ≡ Some t → reads t.guard k ≡ true → some_reads ts k ≡ true
some_reads-at [] x t k at h = cc
some_reads-at (u ∷ ts) zero t k at h = let same : u ≡ t = cc in or_left (reads u.guard k) (some_reads ts k) (ap (λ (y : Transition). reads y.guard k) same ∙ h)
some_reads-at (u ∷ ts) (suc x) t k at h = or_right (reads u.guard k) (some_reads ts k) (some_reads-at ts x t k at h)

-- of a set the signals that the transitions read
abbrev pub read_part : ℕ → List Transition → SignalSet → SignalSet
read_part n ts v = set_where n (λ k. some_reads ts k && has v k)

and_true : (a b : Bool) → a ≡ true → (a && b) ≡ b
and_true true b h = refl
and_true false b h = cc

has-read_part : (n : ℕ) (ts : List Transition) (v : SignalSet) (k : ℕ) → k < n → has (read_part n ts v) k ≡ (some_reads ts k && has v k)
has-read_part n ts v k below = has-set_where n (λ j. some_reads ts j && has v j) k below

read_part-below : (n : ℕ) (ts : List Transition) (v : SignalSet) (k : ℕ) → has (read_part n ts v) k ≡ true → k < n
read_part-below n ts v k h = rw (length-set_where n (λ j. some_reads ts j && has v j)) at (has-below (read_part n ts v) k h)

pub read_part-read : (n : ℕ) (ts : List Transition) (v : SignalSet) (k : ℕ) → has (read_part n ts v) k ≡ true → some_reads ts k ≡ true
read_part-read n ts v k h = and_first (some_reads ts k) (has v k) (sym (has-read_part n ts v k (read_part-below n ts v k h)) ∙ h)

-- it agrees with the set where the transitions read
read_part-same : (n : ℕ) (ts : List Transition) (v : SignalSet) → length v ≡ n → (k : ℕ) → some_reads ts k ≡ true → has v k ≡ has (read_part n ts v) k
read_part-same n ts v sized k r = elim (true_or_false (has v k)) [
  | inl h ↦ inside (rw sized at (has-below v k h))
  | inr h ↦ elim (true_or_false (has (read_part n ts v) k)) [
    | inl g ↦ inside (read_part-below n ts v k g)
    | inr g ↦ h ∙ sym g
  ]
]
  where
    inside : k < n → has v k ≡ has (read_part n ts v) k
    inside below = sym (has-read_part n ts v k below ∙ and_true (some_reads ts k) (has v k) r)

-- so each of the transitions has its guard hold on both or on neither
pub holds-read_part : (n : ℕ) (ts : List Transition) (v : SignalSet) → length v ≡ n → (x : ℕ) (t : Transition) → slice_get ts x ≡ Some t → holds t.guard v ≡ holds t.guard (read_part n ts v)
holds-read_part n ts v sized x t at = holds-agree t.guard v (read_part n ts v) (λ k h. read_part-same n ts v sized k (some_reads-at ts x t k at h))
