-- The aspect that a tree tells over a base's names, and why there is none. Source: this project.
use Rattle.std.specs.Prelude.{◌≡◌, ℕ, ◌≤◌, List, [], ◌∷◌, ◌++◌, length, map, flat_map, Bool, Option, Some, None, ◌==◌, nat_lt, slice_get, if◌then◌else◌}
use Rattle.argos_base.specs.Limits.{advice_set_limit}
use Rattle.argos_base.specs.Names.{Spelled}
use Rattle.argos_base.specs.SignalSets.{SignalSet}
use Rattle.argos_base.specs.Spelling.{is_one_of}
use Rattle.argos_aspects.specs.Aspects as aspects
use Rattle.argos_aspects.specs.Aspects.{Aspect, Seen}
use Rattle.argos_aspects.specs.Views.{onset_of}
use Rattle.argos_core.specs.Reactions.{output_count}
use Rattle.argos_expansion.specs.Expansion.{expansion, last_of}
use Rattle.argos_expansion.specs.Limits.{Which, Trace, IsFirstPassed}
use Rattle.argos_grammar.specs.Forms.{Mark, ComponentForm, AspectForm}
use Rattle.argos_names.specs.Scope.{Breach, Unknown, Sort, input, output, Scope, names_in, sort_in, breach, reading, emitting, breaches, IsLeastBreach}
use Rattle.argos_scope.specs.Meaning.{Resolves, ScopeFault, broken, limit}
use Rattle.line_format.specs.FileNames.{FileNames}

-- the base's inputs and outputs, in scope of an aspect
abbrev pub base_scope : FileNames → Scope
base_scope n = map (λ name. (name, input)) n.inputs ++ map (λ name. (name, output)) n.outputs

-- an input of the observer, which is an input or an output of the base
abbrev pub seen_as : Option Sort → Mark → List Breach
seen_as None m = breach Unknown m
seen_as (Some s) m = []

abbrev pub seeing : Scope → Mark → List Breach
seeing s m = seen_as (sort_in s m.name) m

-- what is broken in the advice, in the order of the text: outputs are emitted, and inputs are read along the trace
abbrev pub in_advice : Scope → AspectForm → List Breach
in_advice s t = flat_map (emitting s) t.outs ++ flat_map (flat_map (reading s)) t.trace

-- the signal of the base that has this name
abbrev pub IsSeen : FileNames → Spelled → Seen → Type 0
IsSeen n name (aspects.input k) = slice_get n.inputs k ≡ Some name
IsSeen n name (aspects.output k) = slice_get n.outputs k ≡ Some name

abbrev pub AreSeen : FileNames → List Spelled → List Seen → Type 0
AreSeen n [] [] = Unit {0}
AreSeen n [] (s ∷ seen) = ⊥
AreSeen n (name ∷ names) [] = ⊥
AreSeen n (name ∷ names) (s ∷ seen) = IsSeen n name s × AreSeen n names seen

-- which of these names are told, with one truth value per name
abbrev pub told : List Spelled → List Mark → SignalSet
told names ms = map (is_one_of (names_in ms)) names

-- the aspect of this tree over a base with these names
pub record IsAspectOf (t : AspectForm) (n : FileNames) (A : Aspect) : Type 0 where
  -- its observer is the module of the components, and has the join point as its one output
  pub observer : Resolves t.components A.observer
  pub join_point : output_count A.observer ≡ 1
  -- which signal of the base each input of the observer is
  pub seen : AreSeen n A.observer.inputs A.seen
  -- the advice names outputs that are emitted, and along the trace inputs alone
  pub named : in_advice (base_scope n) t ≡ []
  pub outs : A.advice.outs ≡ told n.outputs t.outs
  pub onset : A.advice.onset ≡ onset_of t.current
  pub trace : A.advice.trace ≡ map (told n.inputs) t.trace
  pub short : length t.trace ≤ advice_set_limit

pub data AspectFault : Type 0 where
  scope : ScopeFault → AspectFault
  outputs : ℕ → AspectFault

abbrev pub outputs_fault : ℕ → List AspectFault
outputs_fault count = if count == 1 then [] else outputs count ∷ []

abbrev pub trace_fault : ℕ → List AspectFault
trace_fault sets = if nat_lt advice_set_limit sets then scope (limit Trace sets) ∷ [] else []

-- What a base refuses of an aspect with this observer, in the order in which it is refused: outputs that aren't one, inputs of the
-- observer that the base doesn't have, names of the advice, and a trace that is too long.
abbrev pub faults_over : FileNames → ComponentForm → AspectForm → List AspectFault
faults_over n observer t =
    outputs_fault (length observer.outputs)
    ++ map (λ b. scope (broken b)) (flat_map (seeing (base_scope n)) observer.inputs ++ in_advice (base_scope n) t)
    ++ trace_fault (length t.trace)

-- why the tree tells no aspect over a base with these names
pub data IsAspectFault (t : AspectForm) (n : FileNames) : AspectFault → Type 0 where
  -- the broken name rule of the components at the least place
  name_rule : (b : Breach) → IsLeastBreach t.components b → IsAspectFault t n (scope (broken b))
  -- else the first that the base refuses
  over_base : (observer : ComponentForm) (f : AspectFault) (more : List AspectFault) → breaches t.components ≡ [] → last_of t.components ≡ Some observer
      → faults_over n observer t ≡ f ∷ more → IsAspectFault t n f
  -- else the first limit that the expansion passes
  passed : (observer : ComponentForm) (which : Which) (count : ℕ) → breaches t.components ≡ [] → last_of t.components ≡ Some observer
      → faults_over n observer t ≡ [] → IsFirstPassed (expansion t.components).visits which count → IsAspectFault t n (scope (limit which count))
