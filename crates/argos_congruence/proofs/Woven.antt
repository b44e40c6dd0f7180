-- What is bisimilar is equal under aspects: by induction over the list of aspects, and then over the traces.
use Rattle.std.proofs.Common.{ℕ, List, [], ◌∷◌, map, refl}
use Rattle.argos_base.specs.Runs.{Follows}
use Rattle.argos_base.specs.SignalSets.{SignalSet}
use Rattle.argos_core.specs.Codes.{code_of}
use Rattle.argos_core.specs.Configurations.{IsConfiguration}
use Rattle.argos_core.specs.FirstBad.{ReactsCoded}
use Rattle.argos_core.specs.Overlaps.{IsGood}
use Rattle.argos_core.specs.Process.{Configuration, PlainModule}
use Rattle.argos_core.specs.Reactions.{input_count, output_count, Reacts}
use Rattle.argos_core.proofs.StepsStay.{initial_is}
use Rattle.argos_aspects.specs.Aspects.{Aspect, AllFit}
use Rattle.argos_aspects.specs.Weaving.{WovenConfiguration, alone, watched, pair, WovenStep, woven_initial}
use Rattle.argos_aspects.proofs.WovenOnce.{reaction_stays}
use Rattle.argos_congruence.specs.Congruence.{HaveSameNames, ReactTogether, IsBisimulationBy, AreEqualUnderAspects}
use Rattle.argos_congruence.specs.Moved.{moved}
use Rattle.argos_congruence.specs.NamedSets.{AreSameByName, AllSameByName}
use Rattle.argos_congruence.proofs.SharedNames.{share_names}
use Rattle.argos_congruence.proofs.Watching.{StayAlike, ShareNames, PairsAlike, SteppedAlike, stepped_alike}

module _ (Rel : List ℕ → List ℕ → Type 0) (P Q : PlainModule) where
  -- related configurations: the bases' codes are related, and the observers are in the same configurations
  pub WovenAlike : List Aspect → WovenConfiguration → WovenConfiguration → Type 0
  WovenAlike [] (alone c) (alone d) = IsConfiguration P.process c × IsConfiguration Q.process d × Rel (code_of P.process c) (code_of Q.process d)
  WovenAlike (A ∷ before) (watched w j) (watched u k) = PairsAlike A (WovenAlike before) (pair w j) (pair u k)
  WovenAlike _ _ _ = ⊥

pub encoded : (P : PlainModule) (c : Configuration) (i o : SignalSet) (c' : Configuration) → IsConfiguration P.process c → Reacts P c i o c'
    → ReactsCoded P (code_of P.process c) i o (code_of P.process c')
encoded P c i o c' is r = record { configuration = c; is = is; from = refl; next = c'; reacts = r; to = refl }

module _ (Rel : List ℕ → List ℕ → Type 0) (P Q : PlainModule) (p_good : IsGood P) (q_good : IsGood Q) (bisimulation : IsBisimulationBy Rel P Q) where
  together : (c d : Configuration) (i j o p : SignalSet) (c' d' : Configuration) → WovenAlike Rel P Q [] (alone c) (alone d)
      → AreSameByName P.inputs Q.inputs i j → Reacts P c i o c' → Reacts Q d j p d'
      → ReactTogether Rel P Q (code_of P.process c) (code_of Q.process d) i j o p (code_of P.process c') (code_of Q.process d')
  unfolding WovenAlike
  together c d i j o p c' d' h same l r = record { relates = h.2; same = same; left = encoded P c i o c' h.0 l; right = encoded Q d j p d' h.1 r }

  base_outputs : (x y : WovenConfiguration) (i j o p : SignalSet) (x' y' : WovenConfiguration) → WovenAlike Rel P Q [] x y → AreSameByName P.inputs Q.inputs i j
      → WovenStep P [] x i o x' → WovenStep Q [] y j p y' → AreSameByName P.outputs Q.outputs o p
  unfolding WovenAlike
  base_outputs (alone c) (alone d) i j o p (alone c') (alone d') h same l r =
      let m = code_of P.process c in let n = code_of Q.process d in
      let m' = code_of P.process c' in let n' = code_of Q.process d' in
      bisimulation.outputs m n i j o p m' n' (together c d i j o p c' d' h same l r)
  base_outputs (alone c) (alone d) i j o p (alone c') (watched w k) h same l r = absurd r
  base_outputs (alone c) (alone d) i j o p (watched w k) y' h same l r = absurd l
  base_outputs (alone c) (watched w k) i j o p x' y' h same l r = absurd h
  base_outputs (watched w k) y i j o p x' y' h same l r = absurd l

  base_stays : (x y : WovenConfiguration) (i j o p : SignalSet) (x' y' : WovenConfiguration) → WovenAlike Rel P Q [] x y → AreSameByName P.inputs Q.inputs i j
      → WovenStep P [] x i o x' → WovenStep Q [] y j p y' → WovenAlike Rel P Q [] x' y'
  unfolding WovenAlike
  base_stays (alone c) (alone d) i j o p (alone c') (alone d') h same l r =
      let m = code_of P.process c in let n = code_of Q.process d in
      let m' = code_of P.process c' in let n' = code_of Q.process d' in
      (reaction_stays P c i o c' p_good h.0 l, reaction_stays Q d j p d' q_good h.1 r, bisimulation.stays m n i j o p m' n' (together c d i j o p c' d' h same l r))
  base_stays (alone c) (alone d) i j o p (alone c') (watched w k) h same l r = absurd r
  base_stays (alone c) (alone d) i j o p (watched w k) y' h same l r = absurd l
  base_stays (alone c) (watched w k) i j o p x' y' h same l r = absurd h
  base_stays (watched w k) y i j o p x' y' h same l r = absurd l

  start_alike : (aspects : List Aspect) → AllFit aspects (input_count P) (output_count P)
      → WovenAlike Rel P Q aspects (woven_initial P aspects) (woven_initial Q (map (moved P Q) aspects))
  unfolding WovenAlike
  start_alike [] fit = (initial_is P.process p_good.program.is.shaped, initial_is Q.process q_good.program.is.shaped, bisimulation.start)
  start_alike (A ∷ before) fit =
      record { base = start_alike before fit.1; observer = refl; is = initial_is A.observer.process fit.0.observer.program.is.shaped }

  abbrev WovenLeft : List Aspect → WovenConfiguration → SignalSet → SignalSet → WovenConfiguration → Type 0
  WovenLeft aspects = WovenStep P aspects

  abbrev WovenRight : List Aspect → WovenConfiguration → SignalSet → SignalSet → WovenConfiguration → Type 0
  WovenRight aspects = WovenStep Q (map (moved P Q) aspects)

  abbrev AreWovenAlike : List Aspect → Type 0
  AreWovenAlike aspects = StayAlike WovenConfiguration WovenConfiguration P Q (WovenLeft aspects) (WovenRight aspects) (WovenAlike Rel P Q aspects)

  more : (A : Aspect) (before : List Aspect) → ShareNames P Q → AllFit (A ∷ before) (input_count P) (output_count P) → AreWovenAlike before
      → (w u : WovenConfiguration) (j k : Configuration) (v s o p : SignalSet) (w' u' : WovenConfiguration) (j' k' : Configuration)
      → WovenAlike Rel P Q (A ∷ before) (watched w j) (watched u k) → AreSameByName P.inputs Q.inputs v s
      → WovenLeft (A ∷ before) (watched w j) v o (watched w' j') → WovenRight (A ∷ before) (watched u k) s p (watched u' k')
      → SteppedAlike P Q A (WovenAlike Rel P Q before) o p (pair w' j') (pair u' k')
  unfolding WovenAlike
  more A before share fit alike w u j k v s o p w' u' j' k' h same l r =
      let alike_before = WovenAlike Rel P Q before in
      let first = start_alike (A ∷ before) fit in
      stepped_alike P Q A (WovenLeft before) (WovenRight before) alike_before share fit.0 alike _ _ (pair w j) (pair u k) v s o p (pair w' j') (pair u' k')
      first h same l r

  -- the same at any configurations
  record BothSame (aspects : List Aspect) (o p : SignalSet) (x' y' : WovenConfiguration) : Type 0 where
    outputs : AreSameByName P.outputs Q.outputs o p
    stays : WovenAlike Rel P Q aspects x' y'

  both : (A : Aspect) (before : List Aspect) → ShareNames P Q → AllFit (A ∷ before) (input_count P) (output_count P) → AreWovenAlike before
      → (x y : WovenConfiguration) (v s o p : SignalSet) (x' y' : WovenConfiguration) → WovenAlike Rel P Q (A ∷ before) x y
      → AreSameByName P.inputs Q.inputs v s
      → WovenLeft (A ∷ before) x v o x' → WovenRight (A ∷ before) y s p y' → BothSame (A ∷ before) o p x' y'
  unfolding WovenAlike
  both A before share fit alike (watched w j) (watched u k) v s o p (watched w' j') (watched u' k') h same l r =
      let m = more A before share fit alike w u j k v s o p w' u' j' k' h same l r in record { outputs = m.outputs; stays = m.pairs }
  both A before share fit alike (alone c) y v s o p x' y' h same l r = absurd l
  both A before share fit alike (watched w j) (alone c) v s o p x' y' h same l r = absurd h
  both A before share fit alike (watched w j) (watched u k) v s o p (alone c) y' h same l r = absurd l
  both A before share fit alike (watched w j) (watched u k) v s o p (watched w' j') (alone c) h same l r = absurd r

  -- by induction over the list of aspects
  woven_alike : (aspects : List Aspect) → ShareNames P Q → AllFit aspects (input_count P) (output_count P) → AreWovenAlike aspects
  woven_alike [] share fit = record { outputs = base_outputs; stays = base_stays }
  woven_alike (A ∷ before) share fit = record {
    outputs = λ x y v s o p x' y' h same l r. (both A before share fit (woven_alike before share fit.1) x y v s o p x' y' h same l r).outputs;
    stays = λ x y v s o p x' y' h same l r. (both A before share fit (woven_alike before share fit.1) x y v s o p x' y' h same l r).stays;
  }

-- what stays alike has traces that are the same by name
module _ (S T : Type 0) (P Q : PlainModule) (Left : S → SignalSet → SignalSet → S → Type 0) (Right : T → SignalSet → SignalSet → T → Type 0)
    (Alike : S → T → Type 0) (alike : StayAlike S T P Q Left Right Alike) where
  pub traces_alike : (inputs others outputs answers : List SignalSet) (x : S) (y : T) (xs : List S) (ys : List T) → Alike x y
      → AllSameByName P.inputs Q.inputs inputs others → Follows Left x inputs outputs xs → Follows Right y others answers ys
      → AllSameByName P.outputs Q.outputs outputs answers
  traces_alike [] [] [] [] x y xs ys h same l r = tt
  traces_alike [] [] [] (a ∷ answers) x y xs [] h same l r = absurd r
  traces_alike [] [] [] (a ∷ answers) x y xs (y' ∷ ys) h same l r = absurd r
  traces_alike [] [] (o ∷ outputs) answers x y [] ys h same l r = absurd l
  traces_alike [] [] (o ∷ outputs) answers x y (x' ∷ xs) ys h same l r = absurd l
  traces_alike [] (j ∷ others) outputs answers x y xs ys h same l r = absurd same
  traces_alike (i ∷ inputs) [] outputs answers x y xs ys h same l r = absurd same
  traces_alike (i ∷ inputs) (j ∷ others) [] answers x y [] ys h same l r = absurd l
  traces_alike (i ∷ inputs) (j ∷ others) [] answers x y (x' ∷ xs) ys h same l r = absurd l
  traces_alike (i ∷ inputs) (j ∷ others) (o ∷ outputs) answers x y [] ys h same l r = absurd l
  traces_alike (i ∷ inputs) (j ∷ others) (o ∷ outputs) [] x y (x' ∷ xs) [] h same l r = absurd r
  traces_alike (i ∷ inputs) (j ∷ others) (o ∷ outputs) [] x y (x' ∷ xs) (y' ∷ ys) h same l r = absurd r
  traces_alike (i ∷ inputs) (j ∷ others) (o ∷ outputs) (p ∷ answers) x y (x' ∷ xs) [] h same l r = absurd r
  traces_alike (i ∷ inputs) (j ∷ others) (o ∷ outputs) (p ∷ answers) x y (x' ∷ xs) (y' ∷ ys) h same l r =
      let next : Alike x' y' = alike.stays x y i j o p x' y' h same.0 l.0 r.0 in
      (alike.outputs x y i j o p x' y' h same.0 l.0 r.0, traces_alike inputs others outputs answers x' y' xs ys next same.1 l.1 r.1)

pub equal_under_aspects : (Rel : List ℕ → List ℕ → Type 0) (P Q : PlainModule) → IsGood P → IsGood Q → HaveSameNames P Q → IsBisimulationBy Rel P Q
    → AreEqualUnderAspects P Q
equal_under_aspects Rel P Q p_good q_good names bisimulation aspects inputs others outputs answers fit same l r =
    let share : ShareNames P Q = share_names P Q p_good.program.is.names names in
    let around : List Aspect = map (moved P Q) aspects in
    let alike = woven_alike Rel P Q p_good q_good bisimulation aspects share fit in
    let first = start_alike Rel P Q p_good q_good bisimulation aspects fit in
    traces_alike WovenConfiguration WovenConfiguration P Q (WovenStep P aspects) (WovenStep Q around) (WovenAlike Rel P Q aspects) alike
    inputs others outputs answers (woven_initial P aspects) (woven_initial Q around) l.0 r.0 first same l.1 r.1
