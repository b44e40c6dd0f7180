-- The woven lines of three states with an aspect, evaluated one after the other, give the worked outputs.
use Rattle.std.proofs.Common.{◌≡◌, ℕ, List, [], ◌∷◌, true, false, refl, map}
use Rattle.argos_base.specs.SignalSets.{SignalSet}
use Rattle.argos_aspects.specs.Aspects.{Aspect}
use Rattle.argos_aspects.proofs.ExampleWoven.{stay_in_place, restart}
use Rattle.eqn_core.specs.Equations.{code, word, Case, all, any, within, choose, Equations}
use Rattle.eqn_core.specs.inner.LineValues.{known}
use Rattle.eqn_core.specs.inner.OrderTest.{is_ordered}
use Rattle.eqn_core.specs.Solutions.{bit_of, word_of}
use Rattle.eqn_core.proofs.Evaluation.{evaluated}
use Rattle.weave_lines.specs.WovenLines.{plus, woven_equations}

abbrev when : ℕ → ℕ → Case
when b c = record { when = plus b; choice = code c }

-- input a = 0; outputs o, p, q
abbrev three : Equations
three = record {
  inputs = 1;
  initial = 1 ∷ [];
  lines = within 0 1 1 ∷ within 0 2 2 ∷ within 0 3 3 ∷ all (plus 0 ∷ plus 1 ∷ []) ∷ all (plus 0 ∷ plus 2 ∷ []) ∷ all (plus 0 ∷ plus 3 ∷ []) ∷ any [] ∷ choose (when 4 2 ∷ when 5 3 ∷ when 6 1 ∷ []) (word 0) ∷ [];
  outputs = 5 ∷ 6 ∷ 7 ∷ [];
  locals = [];
  next = 1 ∷ [];
}

-- the observer that sees p, and the one that sees o and p
abbrev sees_p : Equations
sees_p = record { inputs = 1; initial = 1 ∷ []; lines = any (plus 0 ∷ []) ∷ choose [] (word 0) ∷ []; outputs = 1 ∷ []; locals = []; next = 1 ∷ [] }

abbrev sees_both : Equations
sees_both = record { inputs = 2; initial = 1 ∷ []; lines = any (plus 0 ∷ plus 1 ∷ []) ∷ choose [] (word 0) ∷ []; outputs = 2 ∷ []; locals = []; next = 1 ∷ [] }

abbrev woven : Equations → Equations → Aspect → List ℕ → Equations
woven W J A = woven_equations W J A.seen A.advice

abbrev outputs_of : Equations → List ℕ → List SignalSet → List SignalSet
outputs_of E m [] = []
outputs_of E m (i ∷ inputs) = let s = evaluated E.lines (known i m) in map (bit_of s) E.outputs ∷ outputs_of E (map (word_of s) E.next) inputs

abbrev a : SignalSet
a = true ∷ []

abbrev - : SignalSet
- = false ∷ false ∷ false ∷ []

abbrev o : SignalSet
o = true ∷ false ∷ false ∷ []

abbrev p : SignalSet
p = false ∷ true ∷ false ∷ []

abbrev q : SignalSet
q = false ∷ false ∷ true ∷ []

alone : outputs_of three (1 ∷ []) (a ∷ a ∷ a ∷ a ∷ []) ≡ - ∷ o ∷ p ∷ - ∷ []
alone = refl

stays : outputs_of (woven three sees_p (stay_in_place []) []) (1 ∷ 1 ∷ []) (a ∷ a ∷ a ∷ a ∷ []) ≡ - ∷ o ∷ q ∷ q ∷ []
stays = refl

goes_on : outputs_of (woven three sees_p (stay_in_place (a ∷ [])) []) (1 ∷ 1 ∷ []) (a ∷ a ∷ a ∷ a ∷ []) ≡ - ∷ o ∷ q ∷ - ∷ []
goes_on = refl

starts_again : outputs_of (woven three sees_both restart (3 ∷ 1 ∷ [])) (1 ∷ 1 ∷ []) (a ∷ a ∷ a ∷ a ∷ []) ≡ - ∷ q ∷ q ∷ q ∷ []
starts_again = refl

-- two aspects, the second over the first
abbrev twice : Equations
twice = woven (woven three sees_p (stay_in_place (a ∷ [])) []) sees_both restart (3 ∷ 1 ∷ 1 ∷ [])

ordered : is_ordered twice ≡ true
ordered = refl

again : outputs_of twice (1 ∷ 1 ∷ 1 ∷ []) (a ∷ a ∷ a ∷ a ∷ []) ≡ - ∷ q ∷ q ∷ - ∷ []
again = refl
