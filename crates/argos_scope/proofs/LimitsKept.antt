-- Where no limit is passed at any visit, none is passed by all of them.
use Rattle.std.proofs.Common.{◌≡◌, ℕ, ◌≤◌, List, [], ◌∷◌, ◌++◌, Option, Some, None, Bool, true, false, cond, refl, sym, subst, arith}
use Rattle.std.specs.Prelude.{nat_lt}
use Rattle.std.specs.List.{AllByRecursion}
use Rattle.std.proofs.lemmas.Bool.Decides.{nat_tests}
use Rattle.std.proofs.lemmas.List.{append-nil, append_assoc}
use Rattle.argos_base.specs.Limits.{depth_limit, signal_limit, automaton_limit, code_limit, size_limit}
use Rattle.argos_expansion.specs.Expansion.{Visit}
use Rattle.argos_expansion.specs.Limits.{Which, passed, signals_at, automata_at, size_at, WithinFrom}

-- a test that finds nothing is false, and so are those behind it
unpassed : (b : Bool) (x : Which × ℕ) (o : Option (Which × ℕ)) → cond b (Some x) o ≡ None → (b ≡ false) × (o ≡ None)
unpassed true x o h = cc
unpassed false x o h = (refl, h)

less_false : (a b : ℕ) → nat_lt a b ≡ false → b ≤ a
less_false a b h = grind (arith, nat_tests)

-- the counts at the last of these visits
pub record AreCountsKept (vs : List Visit) : Type 0 where
  pub signals : signals_at vs ≤ signal_limit
  pub automata : automata_at vs ≤ automaton_limit
  pub size : size_at vs ≤ size_limit

pub record IsVisitKept (v : Visit) : Type 0 where
  pub depth : v.depth ≤ depth_limit
  pub codes : v.codes ≤ code_limit

none_passed : (before : List Visit) (v : Visit) → passed before v ≡ None → AreCountsKept (before ++ v ∷ []) × IsVisitKept v
none_passed before v h =
    let one = unpassed (nat_lt depth_limit v.depth) _ _ h in
    let two = unpassed (nat_lt signal_limit (signals_at (before ++ v ∷ []))) _ _ one.1 in
    let three = unpassed (nat_lt automaton_limit (automata_at (before ++ v ∷ []))) _ _ two.1 in
    let four = unpassed (nat_lt code_limit v.codes) _ _ three.1 in
    let five = unpassed (nat_lt size_limit (size_at (before ++ v ∷ []))) _ _ four.1 in (
      record { signals = less_false signal_limit _ two.0; automata = less_false automaton_limit _ three.0; size = less_false size_limit _ five.0 },
      record { depth = less_false depth_limit _ one.0; codes = less_false code_limit _ four.0 },
    )

counts_from : (before vs : List Visit) → AreCountsKept before → WithinFrom before vs → AreCountsKept (before ++ vs)
counts_from before [] k w = subst AreCountsKept (sym (append-nil before)) k
counts_from before (v ∷ vs) k w = subst AreCountsKept (append_assoc before (v ∷ []) vs) (counts_from (before ++ v ∷ []) vs (none_passed before v w.0).0 w.1)

pub counts_kept : (vs : List Visit) → WithinFrom [] vs → AreCountsKept vs
counts_kept vs w = counts_from [] vs (record { signals = omega arith; automata = omega arith; size = omega arith }) w

pub visits_kept : (before vs : List Visit) → WithinFrom before vs → AllByRecursion IsVisitKept vs
visits_kept before [] w = tt
visits_kept before (v ∷ vs) w = ((none_passed before v w.0).1, visits_kept (before ++ v ∷ []) vs w.1)
