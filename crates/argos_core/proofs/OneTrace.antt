-- A good program has exactly one trace to each list of input sets.
use Rattle.std.proofs.Common.{◌≡◌, ℕ, suc, List, [], ◌∷◌, Some, refl, subst, length, slice_get}
use Rattle.argos_base.specs.Runs.{Follows}
use Rattle.argos_base.specs.SignalSets.{SignalSet}
use Rattle.argos_core.specs.Configurations.{IsConfiguration}
use Rattle.argos_core.specs.Overlaps.{IsGood}
use Rattle.argos_core.specs.Process.{Configuration, PlainModule}
use Rattle.argos_core.specs.Reactions.{input_count, signal_count, initial_of, valuation, Reacts, HasOneReaction, HasOneTrace}
use Rattle.argos_core.proofs.StepsStay.{initial_is, step_stays}

abbrev AreInputs : PlainModule → List SignalSet → Type 0
AreInputs P inputs = (k : ℕ) (i : SignalSet) → slice_get inputs k ≡ Some i → length i ≡ input_count P

-- from this configuration on
record FollowsOnce (P : PlainModule) (c : Configuration) (inputs : List SignalSet) : Type 0 where
  outputs : List SignalSet
  configurations : List Configuration
  follows : Follows (Reacts P) c inputs outputs configurations
  only : (os : List SignalSet) (cs : List Configuration) → Follows (Reacts P) c inputs os cs → os ≡ outputs

ends : (P : PlainModule) (c : Configuration) (os : List SignalSet) (cs : List Configuration) → Follows (Reacts P) c [] os cs → os ≡ []
ends P c [] cs h = refl
ends P c (o ∷ os) [] h = absurd h
ends P c (o ∷ os) (d ∷ cs) h = absurd h

goes_on : (P : PlainModule) (c : Configuration) (i : SignalSet) (inputs : List SignalSet) (one : HasOneReaction P c i) (rest : FollowsOnce P one.next inputs) (os : List SignalSet) (cs : List Configuration) → Follows (Reacts P) c (i ∷ inputs) os cs → os ≡ one.outputs ∷ rest.outputs
goes_on P c i inputs one rest [] [] h = absurd h
goes_on P c i inputs one rest [] (d ∷ cs) h = absurd h
goes_on P c i inputs one rest (o ∷ os) [] h = absurd h
goes_on P c i inputs one rest (o ∷ os) (d ∷ cs) h =
    let first = one.only o d h.0 in
    let more : Follows (Reacts P) one.next inputs os cs = subst (λ x. Follows (Reacts P) x inputs os cs) first.1 h.1 in
    let same : os ≡ rest.outputs = rest.only os cs more in
    cc (first.0, same)

follows_once : (P : PlainModule) → IsGood P → (inputs : List SignalSet) (c : Configuration) → IsConfiguration P.process c → AreInputs P inputs → FollowsOnce P c inputs
follows_once P good [] c is sized = record { outputs = []; configurations = []; follows = tt; only = ends P c }
follows_once P good (i ∷ inputs) c is sized =
    let one : HasOneReaction P c i = good.one c i is (sized 0 i refl) in
    let next_is : IsConfiguration P.process one.next = step_stays P.process (signal_count P) c (valuation P i) one.reacts.emitted one.next good.program.is.shaped is one.reacts.step in
    let rest : FollowsOnce P one.next inputs = follows_once P good inputs one.next next_is (λ k j h. sized (suc k) j h) in
    record { outputs = one.outputs ∷ rest.outputs; configurations = one.next ∷ rest.configurations; follows = (one.reacts, rest.follows); only = goes_on P c i inputs one rest }

pub has_one_trace : (P : PlainModule) (inputs : List SignalSet) → IsGood P → AreInputs P inputs → HasOneTrace P inputs
has_one_trace P inputs good sized =
    let whole : FollowsOnce P (initial_of P) inputs = follows_once P good inputs (initial_of P) (initial_is P.process good.program.is.shaped) sized in
    record { outputs = whole.outputs; is = (whole.configurations, whole.follows); only = λ others t. whole.only others t.0 t.1 }
