-- One limit after another.
use Rattle.std.proofs.Common.{◌≡◌, ℕ, ◌+◌, ◌<◌, ◌≤◌, Option, Some, None, true, false, cond, refl, ap, arith}
use Rattle.std.specs.Prelude.{nat_lt}
use Rattle.std.proofs.lemmas.Bool.Decides.{nat_tests}
use Rattle.std.proofs.lemmas.Grind.{common_steps}
use Rattle.argos_base.specs.Limits.{depth_limit, signal_limit, automaton_limit, code_limit, size_limit}
use Rattle.argos_expansion.specs.Expansion.{Visit}
use Rattle.argos_expansion.specs.Limits as limit
use Rattle.argos_expansion.specs.inner.Growth.{Tally, limited, passed_at}

pub limited_within : (which : limit.Which) (most count : ℕ) (rest : Option (limit.Which × ℕ)) → count ≤ most → limited which most count rest ≡ rest
unfolding limited
limited_within which most count rest h = let e : nat_lt most count ≡ false = grind (arith, nat_tests) in ap (λ b. cond b (Some (which, count)) rest) e

pub limited_beyond : (which : limit.Which) (most count : ℕ) (rest : Option (limit.Which × ℕ)) → most < count → limited which most count rest ≡ Some (which, count)
unfolding limited
limited_beyond which most count rest h = let e : nat_lt most count ≡ true = grind (arith, nat_tests) in ap (λ b. cond b (Some (which, count)) rest) e

-- the limits are tried in this order
pub passed_at-limits : (t : Tally) (v : Visit) → passed_at t v ≡ limited limit.Depth depth_limit v.depth (limited limit.Signals signal_limit (t.signals + v.signals) (limited limit.Automata automaton_limit (t.automata + v.automata)
    (limited limit.Codes code_limit v.codes (limited limit.Size size_limit (t.size + v.size) None))))
unfolding passed_at
passed_at-limits t v = refl

pub ruleset limits = (common_steps, limited_within, limited_beyond, passed_at-limits)
