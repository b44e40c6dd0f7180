-- Laws: what is bisimilar is equal under every list of aspects. Source: this project.
use Rattle.std.specs.Prelude.{◌≡◌, List, ℕ, Bool, true, map}
use Rattle.argos_base.specs.SignalSets.{SignalSet}
use Rattle.argos_core.specs.Overlaps.{IsGood}
use Rattle.argos_core.specs.Process.{PlainModule}
use Rattle.argos_core.specs.Reactions.{input_count, output_count}
use Rattle.argos_aspects.specs.Aspects.{Aspect, AreSized, AllFit}
use Rattle.argos_congruence.specs.Congruence.{HaveSameNames, IsBisimulationBy, AreEqualUnderAspects, HasOneWovenTrace, TracesMove}
use Rattle.argos_congruence.specs.Moved.{moved}

-- what is bisimilar by some relation between memories is equal under aspects
abbrev pub BisimilarAreEqualUnderAspects : Type 0
BisimilarAreEqualUnderAspects = (related : List ℕ → List ℕ → Bool) (P Q : PlainModule) → IsGood P → IsGood Q → HaveSameNames P Q → IsBisimulationBy (λ m n. related m n ≡ true) P Q → AreEqualUnderAspects P Q

-- and the traces of the one are, said by name, traces of the other
abbrev pub BisimilarTracesMove : Type 0
BisimilarTracesMove = (related : List ℕ → List ℕ → Bool) (P Q : PlainModule) → IsGood P → IsGood Q → HaveSameNames P Q → IsBisimulationBy (λ m n. related m n ≡ true) P Q → TracesMove P Q

-- aspects that fit P fit, moved, Q
abbrev pub MovedAspectsFit : Type 0
MovedAspectsFit = (P Q : PlainModule) (aspects : List Aspect) → IsGood P → HaveSameNames P Q → AllFit aspects (input_count P) (output_count P) → AllFit (map (moved P Q) aspects) (input_count Q) (output_count Q)

-- a good program under fitting aspects has exactly one trace to each list of input sets
abbrev pub WeavingsHaveOneTrace : Type 0
WeavingsHaveOneTrace = (P : PlainModule) (aspects : List Aspect) (inputs : List SignalSet) → IsGood P → AllFit aspects (input_count P) (output_count P) → AreSized (input_count P) inputs → HasOneWovenTrace P aspects inputs
