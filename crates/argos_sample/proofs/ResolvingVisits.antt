-- Visits at which no limit is passed.
use Rattle.std.proofs.Common.{◌≡◌, ℕ, zero, suc, ◌+◌, ◌*◌, ◌≤◌, List, [], ◌∷◌, ◌++◌, Option, Some, None, Bool, true, false, cond}
use Rattle.std.proofs.Common.{replicate, refl, arith, le_trans}
use Rattle.std.specs.Prelude.{nat_lt}
use Rattle.std.proofs.lemmas.Bool.Decides.{nat_tests}
use Rattle.std.proofs.lemmas.List.Sums.{sum_by_push}
use Rattle.argos_base.specs.Limits.{depth_limit, signal_limit, automaton_limit, code_limit, size_limit}
use Rattle.argos_expansion.specs.Expansion.{Visit}
use Rattle.argos_expansion.specs.Limits.{Which, passed, signals_at, automata_at, size_at, WithinFrom}

not_passed : (b : Bool) (x : Which × ℕ) (o : Option (Which × ℕ)) → b ≡ false → o ≡ None → cond b (Some x) o ≡ None
not_passed true x o h e = cc
not_passed false x o h e = e

not_less : (a b : ℕ) → b ≤ a → nat_lt a b ≡ false
not_less a b h = grind (arith, nat_tests)

-- these visits reach so many signals and automata, and such a size, at most
pub record Reach (before : List Visit) (s a z : ℕ) : Type 0 where
  pub signals : signals_at before ≤ s
  pub automata : automata_at before ≤ a
  pub size : size_at before ≤ z

pub reach_none : Reach [] 0 0 0
reach_none = record { signals = omega arith; automata = omega arith; size = omega arith }

reach_more : (before : List Visit) (v : Visit) (s a z : ℕ) → Reach before s a z
    → Reach (before ++ v ∷ []) (s + v.signals) (a + v.automata) (z + v.size)
reach_more before v s a z r =
    let signals = r.signals in
    let automata = r.automata in
    let size = r.size in
    record {
      signals = omega (arith, sum_by_push (λ w. w.signals) before v);
      automata = omega (arith, sum_by_push (λ w. w.automata) before v);
      size = omega (arith, sum_by_push (λ w. w.size) before v);
    }

-- so much is not past the limits
pub record IsLittle (s a z : ℕ) : Type 0 where
  pub signals : s ≤ signal_limit
  pub automata : a ≤ automaton_limit
  pub size : z ≤ size_limit

-- and neither is this visit alone
pub record IsShallow (v : Visit) : Type 0 where
  pub depth : v.depth ≤ depth_limit
  pub codes : v.codes ≤ code_limit

none_passed : (before : List Visit) (v : Visit) (s a z : ℕ) → Reach (before ++ v ∷ []) s a z → IsLittle s a z → IsShallow v
    → passed before v ≡ None
none_passed before v s a z r m k =
    let all : List Visit = before ++ v ∷ [] in
    not_passed _ _ _ (not_less depth_limit v.depth k.depth)
    (not_passed _ _ _ (not_less signal_limit (signals_at all) (le_trans r.signals m.signals))
    (not_passed _ _ _ (not_less automaton_limit (automata_at all) (le_trans r.automata m.automata))
    (not_passed _ _ _ (not_less code_limit v.codes k.codes)
    (not_passed _ _ _ (not_less size_limit (size_at all) (le_trans r.size m.size)) refl))))

-- one visit, and then others
pub within_more : (before : List Visit) (v : Visit) (vs : List Visit) (s a z : ℕ) → Reach before s a z
    → IsLittle (s + v.signals) (a + v.automata) (z + v.size) → IsShallow v
    → (Reach (before ++ v ∷ []) (s + v.signals) (a + v.automata) (z + v.size) → WithinFrom (before ++ v ∷ []) vs)
    → WithinFrom before (v ∷ vs)
within_more before v vs s a z r m h k = let next = reach_more before v s a z r in (none_passed before v _ _ _ next m h, k next)

-- equal visits one after another
pub within_equal : (before : List Visit) (v : Visit) (k s a z : ℕ) → Reach before s a z
    → IsLittle (s + k * v.signals) (a + k * v.automata) (z + k * v.size) → IsShallow v → WithinFrom before (replicate k v)
within_equal before v zero s a z r m h = tt
within_equal before v (suc k) s a z r m h =
    let signals = m.signals in
    let automata = m.automata in
    let size = m.size in
    within_more before v (replicate k v) s a z r (omega arith) h (λ next.
    within_equal (before ++ v ∷ []) v k _ _ _ next (omega arith) h)
