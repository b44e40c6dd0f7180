-- Bisimulations by any relation between memories, and programs that are equal under aspects. Source: Altisen, Maraninchi and Stauch 2006; the exact rules: this project.
use Rattle.std.specs.Prelude.{◌≡◌, ℕ, List, ◌++◌, Bool, true, ◌&&◌, ◌||◌, Some, map, slice_get}
use Rattle.argos_base.specs.Names.{Spelled}
use Rattle.argos_base.specs.SignalSets.{SignalSet}
use Rattle.argos_base.specs.Spelling.{is_one_of}
use Rattle.argos_core.specs.Codes.{code_of}
use Rattle.argos_core.specs.FirstBad.{ReactsCoded}
use Rattle.argos_core.specs.Process.{PlainModule}
use Rattle.argos_core.specs.Reactions.{input_count, output_count, initial_of}
use Rattle.argos_aspects.specs.Aspects.{Aspect, AllFit}
use Rattle.argos_congruence.specs.Moved.{moved_inputs, moved_outputs, moved}
use Rattle.argos_congruence.specs.NamedSets.{AreSameByName, AllSameByName}
use Rattle.argos_aspects.specs.Weaving.{IsWovenTrace}

-- an input of both or an output of both
abbrev pub is_shared : PlainModule → PlainModule → Spelled → Bool
is_shared P Q name = (is_one_of P.inputs name && is_one_of Q.inputs name) || (is_one_of P.outputs name && is_one_of Q.outputs name)

-- left inputs, left outputs, right inputs, right outputs
abbrev pub all_names : PlainModule → PlainModule → List Spelled
all_names P Q = P.inputs ++ P.outputs ++ Q.inputs ++ Q.outputs

-- the interfaces have the same names
abbrev pub HaveSameNames : PlainModule → PlainModule → Type 0
HaveSameNames P Q = (k : ℕ) (name : Spelled) → slice_get (all_names P Q) k ≡ Some name → is_shared P Q name ≡ true

-- the codes of the initial configurations are related
abbrev pub StartsRelatedBy : (List ℕ → List ℕ → Type 0) → PlainModule → PlainModule → Type 0
StartsRelatedBy Rel P Q = Rel (code_of P.process (initial_of P)) (code_of Q.process (initial_of Q))

-- Related structural memories, an input set of each side, the two being the same by name, and a reaction of each side to it.
pub record ReactTogether (Rel : List ℕ → List ℕ → Type 0) (P Q : PlainModule) (m n : List ℕ) (i j o p : SignalSet) (m' n' : List ℕ) : Type 0 where
  pub relates : Rel m n
  pub same : AreSameByName P.inputs Q.inputs i j
  pub left : ReactsCoded P m i o m'
  pub right : ReactsCoded Q n j p n'

-- the initial memories are related, and related memories react with the same named outputs and lead to related memories
pub record IsBisimulationBy (Rel : List ℕ → List ℕ → Type 0) (P Q : PlainModule) : Type 0 where
  pub start : StartsRelatedBy Rel P Q
  pub outputs : (m n : List ℕ) (i j o p : SignalSet) (m' n' : List ℕ) → ReactTogether Rel P Q m n i j o p m' n' → AreSameByName P.outputs Q.outputs o p
  pub stays : (m n : List ℕ) (i j o p : SignalSet) (m' n' : List ℕ) → ReactTogether Rel P Q m n i j o p m' n' → Rel m' n'

-- Under every list of aspects that fit P, moved to Q's interface for Q, inputs that are the same by name give outputs that are the same by name.
abbrev pub AreEqualUnderAspects : PlainModule → PlainModule → Type 0
AreEqualUnderAspects P Q = (aspects : List Aspect) (inputs others outputs answers : List SignalSet)
    → AllFit aspects (input_count P) (output_count P)
    → AllSameByName P.inputs Q.inputs inputs others
    → IsWovenTrace P aspects inputs outputs
    → IsWovenTrace Q (map (moved P Q) aspects) others answers
    → AllSameByName P.outputs Q.outputs outputs answers

-- for these inputs there is exactly one list of outputs
pub record HasOneWovenTrace (P : PlainModule) (aspects : List Aspect) (inputs : List SignalSet) : Type 0 where
  pub outputs : List SignalSet
  pub is : IsWovenTrace P aspects inputs outputs
  pub only : (others : List SignalSet) → IsWovenTrace P aspects inputs others → others ≡ outputs

-- each trace of P under fitting aspects, said over Q's names, is one of Q under the moved aspects
abbrev pub TracesMove : PlainModule → PlainModule → Type 0
TracesMove P Q = (aspects : List Aspect) (inputs outputs : List SignalSet) → AllFit aspects (input_count P) (output_count P) → IsWovenTrace P aspects inputs outputs → IsWovenTrace Q (map (moved P Q) aspects) (map (moved_inputs P Q) inputs) (map (moved_outputs P Q) outputs)
