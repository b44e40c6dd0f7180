-- No local of a sample depends on itself: what a signal depends on has a smaller number.
use Rattle.std.proofs.Common.{◌≡◌, ◌⊎◌, inl, inr, ℕ, zero, suc, ◌+◌, ◌<◌, ◌≤◌, [], ◌∷◌, Some, Bool, true, false, nat_eq, slice_get, refl, sym, ap, ◌∙◌, arith}
use Rattle.std.proofs.lemmas.Bool.Decides.{nat_tests}
use Rattle.argos_base.specs.SignalSets.{lists}
use Rattle.argos_base.proofs.Bools.{or_cases}
use Rattle.argos_core.specs.Process.{Rules}
use Rattle.eqn_core.specs.Chains.{Chain, link, links}
use Rattle.eqn_scheme.specs.SignalDependence.{Exit, exits_of, DependsDirectly, IsCyclic}
use Rattle.argos_sample.specs.SampleModule.{heard_signal, emitted_signal, sample_module}
use Rattle.argos_sample.proofs.GoodModule.{emitted_which}
use Rattle.argos_sample.proofs.GoodStates.{off, on, half_at}

-- x is emitted by the automaton of this number, which hears y
record Hands (n x y : ℕ) : Type 0 where
  number : ℕ
  emitted : x ≡ emitted_signal n number
  heard : y ≡ heard_signal number

from_on : (n i k x y : ℕ) (exit : Exit) → slice_get (exits_of (on n i)) k ≡ Some exit → lists exit.outs x ≡ true
    → exit.reads y ≡ true → Hands n x y
from_on n i zero x y exit at emits reads =
    let same : record { outs = emitted_signal n i ∷ []; reads = λ j. nat_eq (heard_signal i) j } ≡ exit = cc in
    let heard : nat_eq (heard_signal i) y ≡ true = ap (λ (e : Exit). e.reads y) same ∙ reads in
    elim (or_cases (nat_eq (emitted_signal n i) x) false (ap (λ (e : Exit). lists e.outs x) same ∙ emits)) [
      | inl e ↦ record {
        number = i;
        emitted = sym (equal (emitted_signal n i) x e);
        heard = sym (equal (heard_signal i) y heard);
      }
      | inr f ↦ cc
    ]
  where
    equal : (a b : ℕ) → nat_eq a b ≡ true → a ≡ b
    equal a b e = grind (arith, nat_tests)
from_on n i (suc k) x y exit at emits reads = cc

from_off : {A : Type 0} (i k x : ℕ) (exit : Exit) → slice_get (exits_of (off i)) k ≡ Some exit
    → lists exit.outs x ≡ true → A
from_off i zero x exit at emits =
    let same : record { outs = []; reads = λ j. nat_eq (heard_signal i) j } ≡ exit = cc in
    let none : lists [] x ≡ true = ap (λ (e : Exit). lists e.outs x) same ∙ emits in
    cc
from_off i (suc k) x exit at emits = cc

hands : (n x y : ℕ) → 1 ≤ n → DependsDirectly (sample_module n) x y → Hands n x y
hands n x y some d =
    let h = half_at n d.register d.state d.rules some d.state_is in
    let by : d.state_is.automaton.stopped_by y ≡ false = ap (λ (by : ℕ → Bool). by y) h.stopped_are in
    elim (or_cases (d.exit.reads y) (d.state_is.automaton.stopped_by y) d.decided) [
      | inl reads ↦ elim h.which [
        | inl e ↦ from_off h.number d.place x d.exit (there (off h.number) e) d.emits
        | inr e ↦ from_on n h.number d.place x y d.exit (there (on n h.number) e) d.emits reads
      ]
      | inr stopped ↦ cc
    ]
  where
    there : (r : Rules) → d.rules ≡ r → slice_get (exits_of r) d.place ≡ Some d.exit
    there r e = ap (λ (s : Rules). slice_get (exits_of s) d.place) (sym e) ∙ d.exit_at

-- what an automaton hears is the input, or the local that the one before it emits
heard_cases : (i : ℕ) → (heard_signal i ≡ 0) ⊎ ((heard_signal i ≡ i + 1) × (1 ≤ i))
heard_cases zero = inl refl
heard_cases (suc i) = inr (omega arith, omega arith)

-- what is emitted isn't the input; and a local is handed on from the input, or from the local before it
never_input : (n x y : ℕ) → Hands n x y → 1 ≤ x
never_input n x y h =
    let e = h.emitted in
    elim (emitted_which n h.number) [ inl c ↦ (let is = c.1 in omega arith) | inr c ↦ (let is = c.1 in omega arith) ]

from_smaller : (n x y : ℕ) → Hands n x y → 2 ≤ x → (y ≡ 0) ⊎ ((2 ≤ y) × (y < x))
from_smaller n x y h local =
    let e = h.emitted in
    let g = h.heard in
    elim (emitted_which n h.number) [
      | inl c ↦ (let out = c.1 in absurd (omega arith))
      | inr c ↦ elim (heard_cases h.number) [
        | inl z ↦ inl (g ∙ z)
        | inr l ↦ (let out = c.1 in let is = l.0 in let some = l.1 in inr (omega arith, omega arith))
      ]
    ]

begins : (n x y : ℕ) → 1 ≤ n → Chain (DependsDirectly (sample_module n)) x y → 1 ≤ x
begins n _ _ some (link x y d) = never_input n x y (hands n x y some d)
begins n _ _ some (links x y z d c) = never_input n x y (hands n x y some d)

falls : (n x y : ℕ) → 1 ≤ n → Chain (DependsDirectly (sample_module n)) x y → 2 ≤ x → 2 ≤ y → y < x
falls n _ _ some (link x y d) local end = elim (from_smaller n x y (hands n x y some d) local) [
  | inl z ↦ absurd (omega arith)
  | inr r ↦ r.1
]
falls n _ _ some (links x y z d c) local end = elim (from_smaller n x y (hands n x y some d) local) [
  | inl e ↦ (let later = begins n y z some c in absurd (omega arith))
  | inr r ↦ (let less = falls n y z some c r.0 end in let here = r.1 in omega arith)
]

pub no_cyclic : (n k : ℕ) → 1 ≤ n → ¬ (IsCyclic (sample_module n) k)
no_cyclic n k some c =
    let local : 2 ≤ k = c.after_outputs in
    let less = falls n k k some c.chain local local in
    absurd (omega arith)
