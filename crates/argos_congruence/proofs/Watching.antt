-- Two bases that stay alike stay alike under an aspect and the moved aspect.
use Rattle.std.proofs.Common.{◌≡◌, List, [], ◌∷◌, Bool, true, false, map, refl, sym, ap, subst, ◌∙◌, ◌⊎◌, inl, inr}
use Rattle.argos_base.specs.Names.{AreDistinct}
use Rattle.argos_base.specs.SignalSets.{SignalSet, has}
use Rattle.argos_core.specs.Configurations.{IsConfiguration}
use Rattle.argos_core.specs.Process.{PlainModule}
use Rattle.argos_core.specs.Reactions.{input_count, output_count, Reacts, HasOneReaction}
use Rattle.argos_aspects.specs.Aspects.{Seen, input, output, Onset, to_initial, to_current, Aspect, AreBelow, Fits}
use Rattle.argos_aspects.specs.Weaving.{WovenConfiguration, Pair, sees, observed, Watch, Reach, start_of, Advised}
use Rattle.argos_aspects.proofs.WovenOnce.{reaction_stays}
use Rattle.argos_congruence.specs.Moved.{moved_seen, moved_inputs, moved}
use Rattle.argos_congruence.specs.NamedSets.{AreSameByName}
use Rattle.argos_congruence.proofs.Naming.{AreAmong, moved_is_same, moved_number-same}

-- Two machines over the interfaces of P and Q: on inputs that are the same by name related states have outputs that are the same by
-- name, and lead to related states.
pub record StayAlike (S T : Type 0) (P Q : PlainModule) (Left : S → SignalSet → SignalSet → S → Type 0) (Right : T → SignalSet → SignalSet → T → Type 0)
    (Alike : S → T → Type 0) : Type 0 where
  pub outputs : (x : S) (y : T) (i j o p : SignalSet) (x' : S) (y' : T) → Alike x y → AreSameByName P.inputs Q.inputs i j → Left x i o x' → Right y j p y'
      → AreSameByName P.outputs Q.outputs o p
  pub stays : (x : S) (y : T) (i j o p : SignalSet) (x' : S) (y' : T) → Alike x y → AreSameByName P.inputs Q.inputs i j → Left x i o x' → Right y j p y'
      → Alike x' y'

-- what the interfaces of P and Q share
pub record ShareNames (P Q : PlainModule) : Type 0 where
  pub inputs : AreAmong P.inputs Q.inputs
  pub outputs : AreAmong P.outputs Q.outputs
  pub distinct_inputs : AreDistinct P.inputs
  pub distinct_outputs : AreDistinct P.outputs

-- the observers see the same
pub seen_same : (P Q : PlainModule) (v w o p : SignalSet) (seen : List Seen) → ShareNames P Q → AreBelow (input_count P) (output_count P) seen
    → AreSameByName P.inputs Q.inputs v w → AreSameByName P.outputs Q.outputs o p → map (sees w p) (map (moved_seen P Q) seen) ≡ map (sees v o) seen
seen_same P Q v w o p [] share below iv ov = refl
seen_same P Q v w o p (input k ∷ seen) share below iv ov =
    ap (λ (b : Bool). b ∷ map (sees w p) (map (moved_seen P Q) seen)) (moved_number-same P.inputs Q.inputs v w k share.distinct_inputs share.inputs iv below.0)
    ∙ ap (λ (s : List Bool). has v k ∷ s) (seen_same P Q v w o p seen share below.1 iv ov)
seen_same P Q v w o p (output k ∷ seen) share below iv ov =
    ap (λ (b : Bool). b ∷ map (sees w p) (map (moved_seen P Q) seen)) (moved_number-same P.outputs Q.outputs o p k share.distinct_outputs share.outputs ov below.0)
    ∙ ap (λ (s : List Bool). has o k ∷ s) (seen_same P Q v w o p seen share below.1 iv ov)

-- the bases are related, and the observers are in the same configuration
pub record PairsAlike (A : Aspect) (Alike : WovenConfiguration → WovenConfiguration → Type 0) (x y : Pair) : Type 0 where
  pub base : Alike x.base y.base
  pub observer : x.observer ≡ y.observer
  pub is : IsConfiguration A.observer.process x.observer

-- outputs and next pairs of an instant
pub record SteppedAlike (P Q : PlainModule) (A : Aspect) (Alike : WovenConfiguration → WovenConfiguration → Type 0) (o p : SignalSet)
    (x' y' : Pair) : Type 0 where
  pub outputs : AreSameByName P.outputs Q.outputs o p
  pub pairs : PairsAlike A Alike x' y'

module _ (P Q : PlainModule) (A : Aspect) (Left Right : WovenConfiguration → SignalSet → SignalSet → WovenConfiguration → Type 0)
    (Alike : WovenConfiguration → WovenConfiguration → Type 0) (share : ShareNames P Q) (fits : Fits A (input_count P) (output_count P))
    (alike : StayAlike WovenConfiguration WovenConfiguration P Q Left Right Alike) where
  record MovedAlike (o p : SignalSet) (x' y' : Pair) (join left_join : Bool) : Type 0 where
    outputs : AreSameByName P.outputs Q.outputs o p
    pairs : PairsAlike A Alike x' y'
    joins : join ≡ left_join

  -- moving together
  watched_alike : (x y : Pair) (v w o p : SignalSet) (x' y' : Pair) (a b : Bool) → PairsAlike A Alike x y → AreSameByName P.inputs Q.inputs v w
      → Watch A Left x v o x' a → Watch (moved P Q A) Right y w p y' b → MovedAlike o p x' y' a b
  watched_alike x y v w o p x' y' a b h same l r =
      let outputs : AreSameByName P.outputs Q.outputs o p = alike.outputs x.base y.base v w o p x'.base y'.base h.base same l.base_reacts r.base_reacts in
      let sees_same : observed (moved P Q A).seen w p ≡ observed A.seen v o = seen_same P Q v w o p A.seen share fits.seen_exist same outputs in
      let from_x : Reacts A.observer x.observer (observed (moved P Q A).seen w p) r.emitted y'.observer =
      subst (λ c. Reacts A.observer c (observed (moved P Q A).seen w p) r.emitted y'.observer) (sym h.observer) r.observer_reacts in
      let on_same : Reacts A.observer x.observer (observed A.seen v o) r.emitted y'.observer =
      subst (λ s. Reacts A.observer x.observer s r.emitted y'.observer) sees_same from_x in
      let one : HasOneReaction A.observer x.observer (observed A.seen v o) = fits.observer.one x.observer (observed A.seen v o) h.is l.observer_reacts.input in
      let first = one.only l.emitted x'.observer l.observer_reacts in
      let second = one.only r.emitted y'.observer on_same in
      record {
        outputs = outputs;
        pairs = record {
          base = alike.stays x.base y.base v w o p x'.base y'.base h.base same l.base_reacts r.base_reacts;
          observer = first.1 ∙ sym second.1;
          is = reaction_stays A.observer x.observer (observed A.seen v o) l.emitted x'.observer fits.observer h.is l.observer_reacts;
        };
        joins = l.join ∙ ap (λ (s : SignalSet). has s 0) (first.0 ∙ sym second.0) ∙ sym r.join;
      }

  -- reaching along a trace
  reached_alike : (trace : List SignalSet) (x y x' y' : Pair) → PairsAlike A Alike x y → Reach A Left x trace x'
      → Reach (moved P Q A) Right y (map (moved_inputs P Q) trace) y' → PairsAlike A Alike x' y'
  reached_alike [] x y x' y' h l r = subst (λ z. PairsAlike A Alike x' z) (sym r) (subst (λ z. PairsAlike A Alike z y) (sym l) h)
  reached_alike (v ∷ trace) x y x' y' h (z, o, a, l, ls) (u, p, b, r, rs) =
      let one = watched_alike x y v (moved_inputs P Q v) o p z u a b h (moved_is_same P.inputs Q.inputs v share.inputs) l r in
      reached_alike trace z u x' y' one.pairs ls rs

  starts_alike : (onset : Onset) (i j x y : Pair) → PairsAlike A Alike i j → PairsAlike A Alike x y
      → PairsAlike A Alike (start_of onset i x) (start_of onset j y)
  starts_alike to_initial i j x y h k = h
  starts_alike to_current i j x y h k = k

  -- an instant of the woven programs
  abbrev StepsLeft : Pair → Pair → SignalSet → SignalSet → Pair → Type 0
  StepsLeft i x v o x' = Watch A Left x v o x' false ⊎ Advised A Left i x v o x'

  abbrev StepsRight : Pair → Pair → SignalSet → SignalSet → Pair → Type 0
  StepsRight j y w p y' = Watch (moved P Q A) Right y w p y' false ⊎ Advised (moved P Q A) Right j y w p y'

  pub stepped_alike : (i j x y : Pair) (v w o p : SignalSet) (x' y' : Pair) → PairsAlike A Alike i j → PairsAlike A Alike x y
      → AreSameByName P.inputs Q.inputs v w → StepsLeft i x v o x' → StepsRight j y w p y' → SteppedAlike P Q A Alike o p x' y'
  stepped_alike i j x y v w o p x' y' hi h same (inl l) (inl r) =
      let m = watched_alike x y v w o p x' y' false false h same l r in
      record { outputs = m.outputs; pairs = m.pairs }
  stepped_alike i j x y v w o p x' y' hi h same (inl l) (inr r) =
      let m = watched_alike x y v w o r.base_outputs x' r.left false true h same l r.watch in
      cc (m.joins)
  stepped_alike i j x y v w o p x' y' hi h same (inr l) (inl r) =
      let m = watched_alike x y v w l.base_outputs p l.left y' true false h same l.watch r in
      cc (m.joins)
  stepped_alike i j x y v w o p x' y' hi h same (inr l) (inr r) =
      let onset = A.advice.onset in
      let told : AreSameByName P.outputs Q.outputs A.advice.outs (moved P Q A).advice.outs = moved_is_same P.outputs Q.outputs A.advice.outs share.outputs in
      let told_left : AreSameByName P.outputs Q.outputs o (moved P Q A).advice.outs =
      subst (λ s. AreSameByName P.outputs Q.outputs s (moved P Q A).advice.outs) (sym l.outputs) told in
      record {
        outputs = subst (λ s. AreSameByName P.outputs Q.outputs o s) (sym r.outputs) told_left;
        pairs = reached_alike A.advice.trace (start_of onset i x) (start_of onset j y) x' y' (starts_alike onset i j x y hi h) l.reach r.reach;
      }
