-- Laws of woven steps and of the codes of woven configurations. Source: this project.
use Rattle.std.specs.Prelude.{◌≡◌, List, length}
use Rattle.argos_base.specs.SignalSets.{SignalSet}
use Rattle.argos_core.specs.Overlaps.{IsGood}
use Rattle.argos_core.specs.Process.{PlainModule}
use Rattle.argos_core.specs.Reactions.{input_count, output_count}
use Rattle.argos_aspects.specs.Aspects.{Aspect, AllFit}
use Rattle.argos_aspects.specs.Weaving.{WovenConfiguration, woven_initial, IsWovenConfiguration, woven_code, HasOneWovenStep, woven_registers}

-- a good base with fitting aspects has exactly one woven step in each woven configuration, to each input set
abbrev pub WovenStepsOnce : Type 0
WovenStepsOnce = (P : PlainModule) (aspects : List Aspect) (x : WovenConfiguration) (v : SignalSet) → IsGood P → AllFit aspects (input_count P) (output_count P) → IsWovenConfiguration P aspects x → length v ≡ input_count P → HasOneWovenStep P aspects x v

-- the initial woven configuration is one
abbrev pub WovenInitialIsOne : Type 0
WovenInitialIsOne = (P : PlainModule) (aspects : List Aspect) → IsGood P → AllFit aspects (input_count P) (output_count P) → IsWovenConfiguration P aspects (woven_initial P aspects)

-- the code of a woven configuration has one number for each automaton
abbrev pub WovenCodesAreSized : Type 0
WovenCodesAreSized = (P : PlainModule) (aspects : List Aspect) (x : WovenConfiguration) → IsWovenConfiguration P aspects x → length (woven_code P aspects x) ≡ woven_registers P aspects

-- no two woven configurations have one code
abbrev pub WovenCodesDiffer : Type 0
WovenCodesDiffer = (P : PlainModule) (aspects : List Aspect) (x y : WovenConfiguration) → IsWovenConfiguration P aspects x → IsWovenConfiguration P aspects y → woven_code P aspects x ≡ woven_code P aspects y → x ≡ y
