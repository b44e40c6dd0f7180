-- A good base with fitting aspects has exactly one woven step, which leads to a woven configuration; and woven codes are distinct.
use Rattle.std.proofs.Common.{◌≡◌, ℕ, List, [], ◌∷◌, ◌++◌, Bool, true, false, refl, sym, ap, ◌∙◌, inl, inr, subst, arith, length, length-append}
use Rattle.std.proofs.lemmas.List.{length-map}
use Rattle.argos_base.specs.SignalSets.{SignalSet, has}
use Rattle.argos_core.specs.Codes.{code_of}
use Rattle.argos_core.specs.Configurations.{IsConfiguration}
use Rattle.argos_core.specs.Overlaps.{IsGood}
use Rattle.argos_core.specs.Process.{Configuration, PlainModule}
use Rattle.argos_core.specs.Reactions.{input_count, output_count, signal_count, initial_of, valuation, Reacts, HasOneReaction}
use Rattle.argos_core.proofs.CodesDiffer.{length-code_of, same_code}
use Rattle.argos_core.proofs.StepsStay.{initial_is, step_stays}
use Rattle.argos_aspects.specs.Aspects.{Aspect, Onset, to_initial, to_current, AreSized, Fits, AllFit}
use Rattle.argos_aspects.specs.Weaving.{WovenConfiguration, alone, watched, Pair, pair, woven_initial, IsWovenConfiguration, woven_code, observed, Watch, Reach, start_of, WovenStep, HasOneWovenStep, woven_registers}

pub reaction_stays : (P : PlainModule) (c : Configuration) (i o : SignalSet) (c' : Configuration) → IsGood P → IsConfiguration P.process c → Reacts P c i o c' → IsConfiguration P.process c'
reaction_stays P c i o c' good is r = step_stays P.process (signal_count P) c (valuation P i) r.emitted c' good.program.is.shaped is r.step

pub woven_initial_is : (P : PlainModule) (aspects : List Aspect) → IsGood P → AllFit aspects (input_count P) (output_count P) → IsWovenConfiguration P aspects (woven_initial P aspects)
woven_initial_is P [] good fit = initial_is P.process good.program.is.shaped
woven_initial_is P (A ∷ before) good fit = (woven_initial_is P before good fit.1, initial_is A.observer.process fit.0.observer.program.is.shaped)

module _ (P : PlainModule) (before : List Aspect) (A : Aspect) (fits : Fits A (input_count P) (output_count P)) (once : (w : WovenConfiguration) (v : SignalSet) → IsWovenConfiguration P before w → length v ≡ input_count P → HasOneWovenStep P before w v) where
  -- both parts are in a configuration
  abbrev pub IsPair : Pair → Type 0
  IsPair x = IsWovenConfiguration P before x.base × IsConfiguration A.observer.process x.observer

  record OneWatch (x : Pair) (v : SignalSet) : Type 0 where
    outputs : SignalSet
    next : Pair
    join_point : Bool
    watch : Watch A (WovenStep P before) x v outputs next join_point
    stays : IsPair next
    only : (o : SignalSet) (y : Pair) (j : Bool) → Watch A (WovenStep P before) x v o y j → (o ≡ outputs) × (y ≡ next) × (j ≡ join_point)

  watches_once : (x : Pair) (v : SignalSet) → IsPair x → length v ≡ input_count P → OneWatch x v
  watches_once x v is sized =
      let one : HasOneWovenStep P before x.base v = once x.base v is.0 sized in
      let i = observed A.seen v one.outputs in
      let other : HasOneReaction A.observer x.observer i = fits.observer.one x.observer i is.1 (length-map A.seen _ ∙ fits.seen_sized) in
      record {
        outputs = one.outputs;
        next = pair one.next other.next;
        join_point = has other.outputs 0;
        watch = record { base_reacts = one.steps; emitted = other.outputs; observer_reacts = other.reacts; join = refl };
        stays = (one.stays, reaction_stays A.observer x.observer i other.outputs other.next fits.observer is.1 other.reacts);
        only = λ o y j w.
            let base = one.only o y.base w.base_reacts in
            let same : Reacts A.observer x.observer i w.emitted y.observer = subst (λ (z : SignalSet). Reacts A.observer x.observer (observed A.seen v z) w.emitted y.observer) base.0 w.observer_reacts in
            let observer = other.only w.emitted y.observer same in
            (base.0, ap (λ (z : WovenConfiguration). pair z y.observer) base.1 ∙ ap (λ (z : Configuration). pair one.next z) observer.1, w.join ∙ ap (λ (z : SignalSet). has z 0) observer.0);
      }

  record OneReach (x : Pair) (trace : List SignalSet) : Type 0 where
    end : Pair
    reaches : Reach A (WovenStep P before) x trace end
    stays : IsPair end
    only : (y : Pair) → Reach A (WovenStep P before) x trace y → y ≡ end

  reaches_once : (trace : List SignalSet) (x : Pair) → IsPair x → AreSized (input_count P) trace → OneReach x trace
  reaches_once [] x is sized = record { end = x; reaches = refl; stays = is; only = λ y e. e }
  reaches_once (v ∷ trace) x is sized =
      let first : OneWatch x v = watches_once x v is sized.0 in
      let rest : OneReach first.next trace = reaches_once trace first.next first.stays sized.1 in
      record {
        end = rest.end;
        reaches = (first.next, first.outputs, first.join_point, first.watch, rest.reaches);
        stays = rest.stays;
        only = λ y r. let same = first.only r.1 r.0 r.2 r.3 in rest.only y (subst (λ (z : Pair). Reach A (WovenStep P before) z trace y) same.1 r.4);
      }

  abbrev start : Pair
  start = pair (woven_initial P before) (initial_of A.observer)

  start_is : (onset : Onset) (x : Pair) → IsPair start → IsPair x → IsPair (start_of onset start x)
  start_is to_initial x s is = s
  start_is to_current x s is = is

  pub steps_once : (w : WovenConfiguration) (j : Configuration) (v : SignalSet) → IsPair start → IsPair (pair w j) → length v ≡ input_count P → HasOneWovenStep P (A ∷ before) (watched w j) v
  steps_once w j v s is sized =
      let x = pair w j in
      let now : OneWatch x v = watches_once x v is sized in
      by_join x is now now.join_point refl
    where
      advised_only : (x : Pair) (now : OneWatch x v) (r : OneReach (start_of A.advice.onset start x) A.advice.trace) → now.join_point ≡ true → (o : SignalSet) (y : WovenConfiguration) → WovenStep P (A ∷ before) (watched x.base x.observer) v o y → (o ≡ A.advice.outs) × (y ≡ watched r.end.base r.end.observer)
      advised_only x now r e o (alone c) h = absurd h
      advised_only x now r e o (watched w' j') (inl h) = let same = now.only o (pair w' j') false h in let f : false ≡ true = same.2 ∙ e in cc
      advised_only x now r e o (watched w' j') (inr h) = (h.outputs, ap (λ (z : Pair). watched z.base z.observer) (r.only (pair w' j') h.reach))

      ordinary_only : (x : Pair) (now : OneWatch x v) → now.join_point ≡ false → (o : SignalSet) (y : WovenConfiguration) → WovenStep P (A ∷ before) (watched x.base x.observer) v o y → (o ≡ now.outputs) × (y ≡ watched now.next.base now.next.observer)
      ordinary_only x now e o (alone c) h = absurd h
      ordinary_only x now e o (watched w' j') (inl h) = let same = now.only o (pair w' j') false h in (same.0, ap (λ (z : Pair). watched z.base z.observer) same.1)
      ordinary_only x now e o (watched w' j') (inr h) = let same = now.only h.base_outputs h.left true h.watch in let f : true ≡ false = same.2 ∙ e in cc

      by_join : (x : Pair) → IsPair x → (now : OneWatch x v) (b : Bool) → now.join_point ≡ b → HasOneWovenStep P (A ∷ before) (watched x.base x.observer) v
      by_join x px now true e =
          let r : OneReach (start_of A.advice.onset start x) A.advice.trace = reaches_once A.advice.trace (start_of A.advice.onset start x) (start_is A.advice.onset x s px) fits.trace_sized in
          record {
            outputs = A.advice.outs;
            next = watched r.end.base r.end.observer;
            steps = inr (record { base_outputs = now.outputs; left = now.next; watch = subst (λ (b : Bool). Watch A (WovenStep P before) x v now.outputs now.next b) e now.watch; outputs = refl; reach = r.reaches });
            stays = r.stays;
            only = advised_only x now r e;
          }
      by_join x px now false e = record {
        outputs = now.outputs;
        next = watched now.next.base now.next.observer;
        steps = inl (subst (λ (b : Bool). Watch A (WovenStep P before) x v now.outputs now.next b) e now.watch);
        stays = now.stays;
        only = ordinary_only x now e;
      }

pub one_step : (P : PlainModule) (aspects : List Aspect) → IsGood P → AllFit aspects (input_count P) (output_count P) → (x : WovenConfiguration) (v : SignalSet) → IsWovenConfiguration P aspects x → length v ≡ input_count P → HasOneWovenStep P aspects x v
one_step P [] good fit (alone c) v is sized =
    let one : HasOneReaction P c v = good.one c v is sized in
    record { outputs = one.outputs; next = alone one.next; steps = one.reacts; stays = reaction_stays P c v one.outputs one.next good is one.reacts; only = only one }
  where
    only : (one : HasOneReaction P c v) (o : SignalSet) (y : WovenConfiguration) → WovenStep P [] (alone c) v o y → (o ≡ one.outputs) × (y ≡ alone one.next)
    only one o (alone c') h = let same = one.only o c' h in (same.0, ap alone same.1)
    only one o (watched w j) h = absurd h
one_step P [] good fit (watched w j) v is sized = absurd is
one_step P (A ∷ before) good fit (alone c) v is sized = absurd is
one_step P (A ∷ before) good fit (watched w j) v is sized =
    steps_once P before A fit.0 (λ w v. one_step P before good fit.1 w v) w j v (woven_initial_is P before good fit.1, initial_is A.observer.process fit.0.observer.program.is.shaped) is sized

-- each step reads an input set of the program's size
pub step_input : (P : PlainModule) (aspects : List Aspect) (x : WovenConfiguration) (v o : SignalSet) (y : WovenConfiguration) → WovenStep P aspects x v o y → length v ≡ input_count P
step_input P [] (alone c) v o (alone c') h = h.input
step_input P [] (alone c) v o (watched w j) h = absurd h
step_input P [] (watched w j) v o y h = absurd h
step_input P (A ∷ before) (alone c) v o y h = absurd h
step_input P (A ∷ before) (watched w j) v o (alone c) h = absurd h
step_input P (A ∷ before) (watched w j) v o (watched w' j') (inl h) = step_input P before w v o w' h.base_reacts
step_input P (A ∷ before) (watched w j) v o (watched w' j') (inr h) = step_input P before w v h.base_outputs h.left.base h.watch.base_reacts

-- a step from a woven configuration leads to one
pub woven_stays : (P : PlainModule) (aspects : List Aspect) (x : WovenConfiguration) (v o : SignalSet) (y : WovenConfiguration) → IsGood P → AllFit aspects (input_count P) (output_count P) → IsWovenConfiguration P aspects x → WovenStep P aspects x v o y → IsWovenConfiguration P aspects y
woven_stays P aspects x v o y good fit is h =
    let one : HasOneWovenStep P aspects x v = one_step P aspects good fit x v is (step_input P aspects x v o y h) in
    subst (λ (z : WovenConfiguration). IsWovenConfiguration P aspects z) (sym (one.only o y h).1) one.stays

-- codes
pub length-woven_code : (P : PlainModule) (aspects : List Aspect) (x : WovenConfiguration) → IsWovenConfiguration P aspects x → length (woven_code P aspects x) ≡ woven_registers P aspects
length-woven_code P [] (alone c) is = length-code_of P.process c is
length-woven_code P [] (watched w j) is = absurd is
length-woven_code P (A ∷ before) (alone c) is = absurd is
length-woven_code P (A ∷ before) (watched w j) is = omega (arith, length-append (woven_code P before w) (code_of A.observer.process j), length-woven_code P before w is.0, length-code_of A.observer.process j is.1)

-- two appended lists that are equal have equal parts, where the first parts have one length
pub parts : (a b c d : List ℕ) → length a ≡ length c → a ++ b ≡ c ++ d → (a ≡ c) × (b ≡ d)
parts [] b [] d l e = (refl, e)
parts [] b (x ∷ c) d l e = absurd (omega arith)
parts (x ∷ a) b [] d l e = absurd (omega arith)
parts (x ∷ a) b (y ∷ c) d l e =
    let t : a ++ b ≡ c ++ d = cc in
    let r = parts a b c d (omega arith) t in
    (cc, r.1)

pub woven_codes_differ : (P : PlainModule) (aspects : List Aspect) (x y : WovenConfiguration) → IsWovenConfiguration P aspects x → IsWovenConfiguration P aspects y → woven_code P aspects x ≡ woven_code P aspects y → x ≡ y
woven_codes_differ P [] (alone c) (alone d) is js e = ap alone (same_code P.process c d is js e)
woven_codes_differ P [] (alone c) (watched w j) is js e = absurd js
woven_codes_differ P [] (watched w j) y is js e = absurd is
woven_codes_differ P (A ∷ before) (alone c) y is js e = absurd is
woven_codes_differ P (A ∷ before) (watched w j) (alone c) is js e = absurd js
woven_codes_differ P (A ∷ before) (watched w j) (watched x k) is js e =
    let same = parts (woven_code P before w) (code_of A.observer.process j) (woven_code P before x) (code_of A.observer.process k) (length-woven_code P before w is.0 ∙ sym (length-woven_code P before x js.0)) e in
    ap (λ (z : WovenConfiguration). watched z j) (woven_codes_differ P before w x is.0 js.0 same.0) ∙ ap (λ (z : Configuration). watched x z) (same_code A.observer.process j k is.1 js.1 same.1)
