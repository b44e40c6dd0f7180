-- Moved aspects fit, and moved traces are the traces of the other program's weaving.
use Rattle.std.proofs.Common.{◌≡◌, ℕ, List, [], ◌∷◌, map, length, refl, ap, subst, ◌∙◌, inl, inr}
use Rattle.std.proofs.lemmas.List.{length-map}
use Rattle.argos_base.specs.Names.{Spelled, AreDistinct}
use Rattle.argos_base.specs.Runs.{Follows}
use Rattle.argos_base.specs.SignalSets.{SignalSet}
use Rattle.argos_core.specs.Overlaps.{IsGood}
use Rattle.argos_core.specs.Process.{PlainModule}
use Rattle.argos_core.specs.Reactions.{input_count, output_count}
use Rattle.argos_aspects.specs.Aspects.{Seen, input, output, Aspect, AreBelow, AreSized, Fits, AllFit}
use Rattle.argos_aspects.specs.Weaving.{WovenConfiguration, alone, watched, woven_initial, IsWovenConfiguration, WovenStep, HasOneWovenStep, IsWovenTrace}
use Rattle.argos_aspects.proofs.WovenOnce.{one_step, woven_initial_is}
use Rattle.argos_congruence.specs.Congruence.{HaveSameNames, IsBisimulationBy, HasOneWovenTrace}
use Rattle.argos_congruence.specs.Moved.{moved_seen, moved_inputs, moved_outputs, moved}
use Rattle.argos_congruence.specs.NamedSets.{has_name, AllSameByName, moved_set}
use Rattle.argos_congruence.proofs.Naming.{AreAmong, moved_is_same, same_is_moved, moved_number-below}
use Rattle.argos_congruence.proofs.SharedNames.{share_names, distinct_second}
use Rattle.argos_congruence.proofs.Sized.{outputs_sized}
use Rattle.argos_congruence.proofs.Watching.{ShareNames}
use Rattle.argos_congruence.proofs.Woven.{equal_under_aspects}

seen_below : (P Q : PlainModule) (seen : List Seen) → ShareNames P Q → AreBelow (input_count P) (output_count P) seen
    → AreBelow (input_count Q) (output_count Q) (map (moved_seen P Q) seen)
seen_below P Q [] share h = tt
seen_below P Q (input k ∷ seen) share h = (moved_number-below P.inputs Q.inputs k share.inputs h.0, seen_below P Q seen share h.1)
seen_below P Q (output k ∷ seen) share h = (moved_number-below P.outputs Q.outputs k share.outputs h.0, seen_below P Q seen share h.1)

pub moved_sized : (P Q : PlainModule) (sets : List SignalSet) → AreSized (input_count Q) (map (moved_inputs P Q) sets)
moved_sized P Q [] = tt
moved_sized P Q (v ∷ sets) = (length-map Q.inputs (has_name P.inputs v), moved_sized P Q sets)

pub moved_fits : (P Q : PlainModule) (A : Aspect) → ShareNames P Q → Fits A (input_count P) (output_count P)
    → Fits (moved P Q A) (input_count Q) (output_count Q)
moved_fits P Q A share fits = record {
  observer = fits.observer;
  observer_outputs = fits.observer_outputs;
  seen_sized = length-map A.seen (moved_seen P Q) ∙ fits.seen_sized;
  seen_exist = seen_below P Q A.seen share fits.seen_exist;
  outs_sized = length-map Q.outputs (has_name P.outputs A.advice.outs);
  trace_sized = moved_sized P Q A.advice.trace;
}

pub all_moved_fit : (P Q : PlainModule) (aspects : List Aspect) → ShareNames P Q → AllFit aspects (input_count P) (output_count P)
    → AllFit (map (moved P Q) aspects) (input_count Q) (output_count Q)
all_moved_fit P Q [] share fit = tt
all_moved_fit P Q (A ∷ aspects) share fit = (moved_fits P Q A share fit.0, all_moved_fit P Q aspects share fit.1)

-- from this configuration on there is exactly one trace
record FollowsOnce (P : PlainModule) (aspects : List Aspect) (x : WovenConfiguration) (inputs : List SignalSet) : Type 0 where
  outputs : List SignalSet
  configurations : List WovenConfiguration
  follows : Follows (WovenStep P aspects) x inputs outputs configurations
  only : (os : List SignalSet) (ys : List WovenConfiguration) → Follows (WovenStep P aspects) x inputs os ys → os ≡ outputs

ends : (P : PlainModule) (aspects : List Aspect) (x : WovenConfiguration) (os : List SignalSet) (ys : List WovenConfiguration)
    → Follows (WovenStep P aspects) x [] os ys → os ≡ []
ends P aspects x [] ys h = refl
ends P aspects x (o ∷ os) [] h = absurd h
ends P aspects x (o ∷ os) (y ∷ ys) h = absurd h

goes_on : (P : PlainModule) (aspects : List Aspect) (x : WovenConfiguration) (i : SignalSet) (inputs : List SignalSet)
    (one : HasOneWovenStep P aspects x i) (rest : FollowsOnce P aspects one.next inputs) (os : List SignalSet) (ys : List WovenConfiguration)
    → Follows (WovenStep P aspects) x (i ∷ inputs) os ys → os ≡ one.outputs ∷ rest.outputs
goes_on P aspects x i inputs one rest [] [] h = absurd h
goes_on P aspects x i inputs one rest [] (y ∷ ys) h = absurd h
goes_on P aspects x i inputs one rest (o ∷ os) [] h = absurd h
goes_on P aspects x i inputs one rest (o ∷ os) (y ∷ ys) h =
    let first = one.only o y h.0 in
    let more : Follows (WovenStep P aspects) one.next inputs os ys = subst (λ z. Follows (WovenStep P aspects) z inputs os ys) first.1 h.1 in
    let same : os ≡ rest.outputs = rest.only os ys more in
    cc (first.0, same)

follows_once : (P : PlainModule) (aspects : List Aspect) → IsGood P → AllFit aspects (input_count P) (output_count P)
    → (inputs : List SignalSet) (x : WovenConfiguration) → IsWovenConfiguration P aspects x → AreSized (input_count P) inputs → FollowsOnce P aspects x inputs
follows_once P aspects good fit [] x is sized = record { outputs = []; configurations = []; follows = tt; only = ends P aspects x }
follows_once P aspects good fit (i ∷ inputs) x is sized =
    let one : HasOneWovenStep P aspects x i = one_step P aspects good fit x i is sized.0 in
    let rest : FollowsOnce P aspects one.next inputs = follows_once P aspects good fit inputs one.next one.stays sized.1 in
    record {
      outputs = one.outputs ∷ rest.outputs;
      configurations = one.next ∷ rest.configurations;
      follows = (one.steps, rest.follows);
      only = goes_on P aspects x i inputs one rest;
    }

pub one_woven_trace : (P : PlainModule) (aspects : List Aspect) (inputs : List SignalSet) → IsGood P → AllFit aspects (input_count P) (output_count P)
    → AreSized (input_count P) inputs → HasOneWovenTrace P aspects inputs
one_woven_trace P aspects inputs good fit sized =
    let first : WovenConfiguration = woven_initial P aspects in
    let whole : FollowsOnce P aspects first inputs = follows_once P aspects good fit inputs first (woven_initial_is P aspects good fit) sized in
    record { outputs = whole.outputs; is = (whole.configurations, whole.follows); only = λ others t. whole.only others t.0 t.1 }

-- outputs of a woven program have one truth value per output
step_outputs : (P : PlainModule) (aspects : List Aspect) → AllFit aspects (input_count P) (output_count P)
    → (x : WovenConfiguration) (v o : SignalSet) (y : WovenConfiguration) → WovenStep P aspects x v o y → length o ≡ output_count P
step_outputs P [] fit (alone c) v o (alone c') h = outputs_sized P c v o c' h
step_outputs P [] fit (alone c) v o (watched w j) h = absurd h
step_outputs P [] fit (watched w j) v o y h = absurd h
step_outputs P (A ∷ before) fit (alone c) v o y h = absurd h
step_outputs P (A ∷ before) fit (watched w j) v o (alone c) h = absurd h
step_outputs P (A ∷ before) fit (watched w j) v o (watched w' j') (inl h) = step_outputs P before fit.1 w v o w' h.base_reacts
step_outputs P (A ∷ before) fit (watched w j) v o (watched w' j') (inr h) = ap length h.outputs ∙ fit.0.outs_sized

trace_outputs : (P : PlainModule) (aspects : List Aspect) → AllFit aspects (input_count P) (output_count P)
    → (x : WovenConfiguration) (is os : List SignalSet) (ys : List WovenConfiguration) → Follows (WovenStep P aspects) x is os ys → AreSized (output_count P) os
trace_outputs P aspects fit x [] [] ys h = tt
trace_outputs P aspects fit x [] (o ∷ os) [] h = absurd h
trace_outputs P aspects fit x [] (o ∷ os) (y ∷ ys) h = absurd h
trace_outputs P aspects fit x (i ∷ is) [] [] h = absurd h
trace_outputs P aspects fit x (i ∷ is) [] (y ∷ ys) h = absurd h
trace_outputs P aspects fit x (i ∷ is) (o ∷ os) [] h = absurd h
trace_outputs P aspects fit x (i ∷ is) (o ∷ os) (y ∷ ys) h = (step_outputs P aspects fit x i o y h.0, trace_outputs P aspects fit y is os ys h.1)

all_moved_same : (from to : List Spelled) (vs : List SignalSet) → AreAmong from to → AllSameByName from to vs (map (moved_set from to) vs)
all_moved_same from to [] h = tt
all_moved_same from to (v ∷ vs) h = (moved_is_same from to v h, all_moved_same from to vs h)

all_same_moved : (from to : List Spelled) (vs ws : List SignalSet) → AreDistinct to → AreSized (length to) ws → AllSameByName from to vs ws
    → ws ≡ map (moved_set from to) vs
all_same_moved from to [] [] d sized h = refl
all_same_moved from to [] (w ∷ ws) d sized h = absurd h
all_same_moved from to (v ∷ vs) [] d sized h = absurd h
all_same_moved from to (v ∷ vs) (w ∷ ws) d sized h =
    let rest : ws ≡ map (moved_set from to) vs = all_same_moved from to vs ws d sized.1 h.1 in
    ap (λ (x : SignalSet). x ∷ ws) (same_is_moved from to v w d sized.0 h.0) ∙ ap (λ (x : List SignalSet). moved_set from to v ∷ x) rest

pub moved_trace : (Rel : List ℕ → List ℕ → Type 0) (P Q : PlainModule) → IsGood P → IsGood Q → HaveSameNames P Q → IsBisimulationBy Rel P Q
    → (aspects : List Aspect) (inputs outputs : List SignalSet) → AllFit aspects (input_count P) (output_count P) → IsWovenTrace P aspects inputs outputs
    → IsWovenTrace Q (map (moved P Q) aspects) (map (moved_inputs P Q) inputs) (map (moved_outputs P Q) outputs)
moved_trace Rel P Q p_good q_good names bisimulation aspects inputs outputs fit l =
    let around : List Aspect = map (moved P Q) aspects in
    let others : List SignalSet = map (moved_inputs P Q) inputs in
    let share : ShareNames P Q = share_names P Q p_good.program.is.names names in
    let fits : AllFit around (input_count Q) (output_count Q) = all_moved_fit P Q aspects share fit in
    let one : HasOneWovenTrace Q around others = one_woven_trace Q around others q_good fits (moved_sized P Q inputs) in
    let same_inputs = all_moved_same P.inputs Q.inputs inputs share.inputs in
    let same : AllSameByName P.outputs Q.outputs outputs one.outputs =
    equal_under_aspects Rel P Q p_good q_good names bisimulation aspects inputs others outputs one.outputs fit same_inputs l one.is in
    let sized : AreSized (output_count Q) one.outputs = trace_outputs Q around fits (woven_initial Q around) others one.outputs one.is.0 one.is.1 in
    let distinct : AreDistinct Q.outputs = distinct_second Q.inputs Q.outputs q_good.program.is.names in
    let e : one.outputs ≡ map (moved_outputs P Q) outputs = all_same_moved P.outputs Q.outputs outputs one.outputs distinct sized same in
    subst (λ os. IsWovenTrace Q around others os) e one.is
