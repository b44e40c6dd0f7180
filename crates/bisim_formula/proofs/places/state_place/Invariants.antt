use Rattle.std.proofs.Common.{◌≡◌, drop}
use Rattle.bisim_formula.specs.Certificates.{state_number}
use Rattle.bisim_formula.specs.inner.Lent.{states_in}
use Rattle.bisim_formula.proofs.Tables.{place_from}
use Rattle.bisim_formula.proofs.places.state_place.Given as goal

-- the states that are left decide
abbrev pub invariant-loop-q : goal.invariant-loop-q
invariant-loop-q l = place_from l.name l.q (drop l.q l.states) ≡ state_number (states_in l.states) l.name
