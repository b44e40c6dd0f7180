-- What a system of a program, or of a woven program, keeps, it keeps in one way. Source: this project.
use Rattle.std.specs.Prelude.{◌≡◌, ℕ, List, map}
use Rattle.std.proofs.Common.{sym, ap, ◌∙◌, subst}
use Rattle.std.proofs.Props.{props}
use Rattle.argos_base.specs.SignalSets.{SignalSet}
use Rattle.argos_core.specs.Process.{PlainModule}
use Rattle.argos_aspects.specs.Aspects.{Aspect}
use Rattle.eqn_core.specs.Equations.{Equations}
use Rattle.eqn_core.specs.Laws.{SolvesOnce}
use Rattle.eqn_core.specs.Ordered.{IsOrdered}
use Rattle.eqn_core.specs.Solutions.{Values, bit_of, word_of, Solves, SystemReacts}
use Rattle.eqn_core.proofs.Once.{solves_once}
use Rattle.weave_lines.specs.Systems.{IsMachineOf, IsWovenMachineOf}

-- a fact about one value that there can be only one of
one_of : {V : Type 0} (F : V → Type 0) → ((v : V) → IsProp (F v)) → ((x y : V) → F x → F y → x ≡ y) → IsProp ((v : V) × F v)
one_of F once same p q = subst (λ z. (c : F z) → p ≡ (z, c)) (same p.0 q.0 p.1 q.1) (λ c. ap (λ k. (p.0, k)) (once p.0 p.1 c)) q.1

abbrev Rest : (E : Equations) (m : List ℕ) (i o : SignalSet) (n : List ℕ) → Values → Type 0
Rest E m i o n v = Solves E m i v × (o ≡ map (bit_of v) E.outputs) × (n ≡ map (word_of v) E.next)

Rest-prop : (E : Equations) (m : List ℕ) (i o : SignalSet) (n : List ℕ) (v : Values) → IsProp (Rest E m i o n v)
Rest-prop E m i o n v = hlevel props

reacts-prop : (E : Equations) → IsOrdered E → (m : List ℕ) (i o : SignalSet) (n : List ℕ) → IsProp ((v : Values) × Rest E m i o n v)
reacts-prop E ordered m i o n = one_of (Rest E m i o n) (Rest-prop E m i o n) (λ x y a b. let one : SolvesOnce E m i = solves_once E m i ordered a.0.memory a.0.input in one.only x a.0 ∙ sym (one.only y b.0))

pub SystemReacts-prop : (E : Equations) → IsOrdered E → (m : List ℕ) (i o : SignalSet) (n : List ℕ) → IsProp (SystemReacts E m i o n)
SystemReacts-prop E ordered m i o n r q = ap (from E m i o n) (reacts-prop E ordered m i o n (r.values, (r.solves, r.outputs, r.next)) (q.values, (q.solves, q.outputs, q.next)))
  where
    from : (E : Equations) (m : List ℕ) (i o : SignalSet) (n : List ℕ) → ((v : Values) × Rest E m i o n v) → SystemReacts E m i o n
    from E m i o n t = record { values = t.0; solves = t.1.0; outputs = t.1.1; next = t.1.2 }

-- so each of these facts may be kept by a value as it is
pub IsOrdered-prop : (E : Equations) → IsProp (IsOrdered E)
IsOrdered-prop E = hlevel props

pub IsMachineOf-prop : (P : PlainModule) (E : Equations) → IsProp (IsMachineOf P E)
IsMachineOf-prop P E = hlevel (props, IsOrdered-prop E, SystemReacts-prop E)

pub IsWovenMachineOf-prop : (P : PlainModule) (aspects : List Aspect) (E : Equations) → IsProp (IsWovenMachineOf P aspects E)
IsWovenMachineOf-prop P aspects E = hlevel (props, IsOrdered-prop E, SystemReacts-prop E)
