-- The program whose two local signals emit each other.
use Rattle.std.proofs.Common.{◌≡◌, ℕ, zero, suc, [], ◌∷◌, true, false, refl, sym, ap, ◌∙◌, ◌⊎◌, inl, inr, arith, length}
use Rattle.argos_base.specs.Machines.{CodedReaction, reaction_key, case_key}
use Rattle.argos_base.specs.Orders.{IsEarlier}
use Rattle.argos_base.specs.SignalSets.{SignalSet, has, empty, union, without, override}
use Rattle.argos_core.specs.Codes.{code_of}
use Rattle.argos_core.specs.Configurations.{IsConfiguration, entered}
use Rattle.argos_core.specs.FirstBad.{ReactsCoded}
use Rattle.argos_core.specs.Process.{Configuration, at, beside, no_configurations, configuration, no_inner, inner, present}
use Rattle.argos_core.specs.Reactions.{Reacts, valuation, outputs_among}
use Rattle.argos_core.specs.Step.{Step, transition, hold}
use Rattle.argos_examples.specs.Building.{when}
use Rattle.argos_examples.specs.MutualSupport.{part_states, part, mutual_support}
use Rattle.argos_examples.specs.Reactions.{quiet, loud, HasTwoFirstReactions, HasNoThirdReaction}
use Rattle.argos_examples.proofs.PlainSteps.{Outcome, outcome}

abbrev start : Configuration
start = at 0 0 no_inner

abbrev pair : Configuration
pair = beside (configuration start (configuration start no_configurations))

one_state : (r e : ℕ) (c : Configuration) → IsConfiguration (part r e) c → c ≡ start
one_state r e (at zero x no_inner) h = ap (λ z. at 0 z no_inner) h.0
one_state r e (at zero x (inner c)) h = absurd h.1
one_state r e (at (suc q) x b) h = absurd h
one_state r e (beside cs) h = absurd h

only_configuration : (c : Configuration) → IsConfiguration mutual_support.process c → c ≡ pair
only_configuration (at q e b) h = absurd h
only_configuration (beside no_configurations) h = absurd h
only_configuration (beside (configuration c no_configurations)) h = absurd h.1
only_configuration (beside (configuration c (configuration d no_configurations))) h =
    let e : c ≡ start = one_state 1 2 c h.0 in
    let f : d ≡ start = one_state 2 1 d h.1.0 in
    cc
only_configuration (beside (configuration c (configuration d (configuration x xs)))) h = absurd h.1.1

-- the set in which the parts look, where these signals are emitted
abbrev heard : SignalSet → SignalSet → SignalSet
heard v emitted = override 3 (1 ∷ 2 ∷ []) v emitted

abbrev PartOutcome : ℕ → ℕ → SignalSet → SignalSet → Configuration → Type 0
PartOutcome reads emits w o d = Outcome 3 (when (present reads) (emits ∷ 0 ∷ []) 0 ∷ []) (λ q. entered (part_states reads emits) q) 0 w o d

-- nothing is emitted, or all three signals
emits_nothing_or_all : (v o1 o2 o3 o4 emitted : SignalSet) (d d2 : Configuration)
    → PartOutcome 1 2 (heard v emitted) o1 d
    → PartOutcome 2 1 (heard v emitted) o3 d2
    → o4 ≡ empty 3 → o2 ≡ union 3 o3 o4 → emitted ≡ union 3 o1 o2
    → ((emitted ≡ false ∷ false ∷ false ∷ []) ⊎ (emitted ≡ true ∷ true ∷ true ∷ [])) × (d ≡ start) × (d2 ≡ start)
emits_nothing_or_all v o1 o2 o3 o4 emitted d d2 (inl (inr x)) r e4 e2 e = absurd x
emits_nothing_or_all v o1 o2 o3 o4 emitted d d2 l (inl (inr x)) e4 e2 e = absurd x
emits_nothing_or_all v o1 o2 o3 o4 emitted d d2 (inl (inl l)) (inl (inl r)) e4 e2 e =
    let right : o2 ≡ true ∷ true ∷ false ∷ [] = e2 ∙ ap (λ z. union 3 z o4) r.1 ∙ ap (λ z. union 3 (true ∷ true ∷ false ∷ []) z) e4 in
    let all : emitted ≡ true ∷ true ∷ true ∷ [] = e ∙ ap (λ z. union 3 z o2) l.1 ∙ ap (λ z. union 3 (true ∷ false ∷ true ∷ []) z) right in
    (inr all, l.2, r.2)
emits_nothing_or_all v o1 o2 o3 o4 emitted d d2 (inl (inl l)) (inr r) e4 e2 e =
    let right : o2 ≡ false ∷ false ∷ false ∷ [] = e2 ∙ ap (λ z. union 3 z o4) r.1 ∙ ap (λ z. union 3 (false ∷ false ∷ false ∷ []) z) e4 in
    let all : emitted ≡ true ∷ false ∷ true ∷ [] = e ∙ ap (λ z. union 3 z o2) l.1 ∙ ap (λ z. union 3 (true ∷ false ∷ true ∷ []) z) right in
    cc (ap (λ s. has s 1) all, l.0)
emits_nothing_or_all v o1 o2 o3 o4 emitted d d2 (inr l) (inl (inl r)) e4 e2 e =
    let right : o2 ≡ true ∷ true ∷ false ∷ [] = e2 ∙ ap (λ z. union 3 z o4) r.1 ∙ ap (λ z. union 3 (true ∷ true ∷ false ∷ []) z) e4 in
    let all : emitted ≡ true ∷ true ∷ false ∷ [] = e ∙ ap (λ z. union 3 z o2) l.1 ∙ ap (λ z. union 3 (false ∷ false ∷ false ∷ []) z) right in
    cc (ap (λ s. has s 1) all, l.0.0)
emits_nothing_or_all v o1 o2 o3 o4 emitted d d2 (inr l) (inr r) e4 e2 e =
    let right : o2 ≡ false ∷ false ∷ false ∷ [] = e2 ∙ ap (λ z. union 3 z o4) r.1 ∙ ap (λ z. union 3 (false ∷ false ∷ false ∷ []) z) e4 in
    let all : emitted ≡ false ∷ false ∷ false ∷ [] = e ∙ ap (λ z. union 3 z o2) l.1 ∙ ap (λ z. union 3 (false ∷ false ∷ false ∷ []) z) right in
    (inl all, l.2, r.2)

abbrev IsOneOfTwo : SignalSet → Configuration → Type 0
IsOneOfTwo o c' = ((o ≡ quiet) ⊎ (o ≡ loud)) × (c' ≡ pair)

steps_to : (v out o : SignalSet) (c' : Configuration) → o ≡ outputs_among mutual_support out → Step 3 mutual_support.process pair v out c' → IsOneOfTwo o c'
steps_to v out o c' oe (emitted, (cs', ce, (o1, o2, d, ds, s1, (o3, o4, d2, ds2, s2, none, e2, ds_is), e, cs_is)), less) =
    let left : PartOutcome 1 2 (heard v emitted) o1 d = outcome 3 _ _ _ 0 (heard v emitted) o1 d s1 in
    let right : PartOutcome 2 1 (heard v emitted) o3 d2 = outcome 3 _ _ _ 0 (heard v emitted) o3 d2 s2 in
    let r : ((emitted ≡ false ∷ false ∷ false ∷ []) ⊎ (emitted ≡ true ∷ true ∷ true ∷ [])) × (d ≡ start) × (d2 ≡ start) = emits_nothing_or_all v o1 o2 o3 o4 emitted d d2 left right none.0 e2 e in
    let next : c' ≡ pair = cc (r.1, r.2, none.1) in
    let said : (z : SignalSet) → emitted ≡ z → o ≡ outputs_among mutual_support (without 3 (1 ∷ 2 ∷ []) z) = λ z x. oe ∙ ap (λ s. outputs_among mutual_support s) (less ∙ ap (without 3 (1 ∷ 2 ∷ [])) x) in
    elim r.0 [ inl x ↦ (inl (said _ x), next) | inr x ↦ (inr (said _ x), next) ]

reactions : (i o : SignalSet) (c' : Configuration) → Reacts mutual_support pair i o c' → IsOneOfTwo o c'
reactions i o c' r = steps_to (valuation mutual_support i) r.emitted o c' r.outputs r.step

pub has_no_third_reaction : HasNoThirdReaction
has_no_third_reaction o c' r = reactions [] o c' r

reacts_quietly : Reacts mutual_support pair [] quiet pair
reacts_quietly = record {
  input = refl;
  emitted = false ∷ false ∷ false ∷ [];
  step = (false ∷ false ∷ false ∷ [], (_, refl, (_, _, _, _, hold _ (refl, tt) tt (refl, refl) refl, (_, _, _, _, hold _ (refl, tt) tt (refl, refl) refl, (refl, refl), refl, refl), refl, refl)), refl);
  outputs = refl;
}

reacts_loudly : Reacts mutual_support pair [] loud pair
reacts_loudly = record {
  input = refl;
  emitted = true ∷ false ∷ false ∷ [];
  step = (true ∷ true ∷ true ∷ [], (_, refl, (_, _, _, _, transition 0 _ _ _ refl refl (refl, refl) refl refl, (_, _, _, _, transition 0 _ _ _ refl refl (refl, refl) refl refl, (refl, refl), refl, refl), refl, refl)), refl);
  outputs = refl;
}

coded : (o : SignalSet) → Reacts mutual_support pair [] o pair → ReactsCoded mutual_support (1 ∷ 1 ∷ []) [] o (1 ∷ 1 ∷ [])
coded o r = record { configuration = pair; is = ((refl, tt), ((refl, tt), tt)); from = refl; next = pair; reacts = r; to = refl }

abbrev with_outputs : SignalSet → CodedReaction
with_outputs o = record { outputs = o; next = 1 ∷ 1 ∷ [] }

same_reaction : (a b : CodedReaction) → a.outputs ≡ b.outputs → a.next ≡ b.next → a ≡ b
same_reaction a b e f = ap (λ x. let r : CodedReaction = record { outputs = x; next = a.next } in r) e ∙ ap (λ x. let r : CodedReaction = record { outputs = b.outputs; next = x } in r) f

others : (r : CodedReaction) → ReactsCoded mutual_support (1 ∷ 1 ∷ []) [] r.outputs r.next → (r ≡ with_outputs quiet) ⊎ ((r ≡ with_outputs loud) ⊎ (IsEarlier (reaction_key (with_outputs loud)) (reaction_key r)))
others r h =
    let d = reactions [] r.outputs h.next (rw (only_configuration h.configuration h.is) at h.reacts) in
    let next : r.next ≡ 1 ∷ 1 ∷ [] = sym h.to ∙ ap (code_of mutual_support.process) d.1 in
    elim d.0 [ inl x ↦ inl (same_reaction r (with_outputs quiet) x next) | inr x ↦ inr (inl (same_reaction r (with_outputs loud) x next)) ]

nothing_earlier : (c : Configuration) (j : SignalSet) → IsConfiguration mutual_support.process c → length j ≡ 0 → IsEarlier (case_key (code_of mutual_support.process c) j) (1 ∷ 1 ∷ []) → ⊥
nothing_earlier c [] is sized earlier = itself (rw (only_configuration c is) at earlier)
  where
    itself : IsEarlier (1 ∷ 1 ∷ []) (1 ∷ 1 ∷ []) → ⊥
    itself (inl h) = omega arith
    itself (inr (e, inl h)) = omega arith
    itself (inr (e, inr h)) = h.1
nothing_earlier c (x ∷ j) is sized earlier = cc

pub has_two_first_reactions : HasTwoFirstReactions
has_two_first_reactions = record {
  memory = record { configuration = pair; is = ((refl, tt), ((refl, tt), tt)); code = refl };
  input = refl;
  fault = (coded quiet reacts_quietly, coded loud reacts_loudly, inl (omega arith), others);
  first = λ n j m sized earlier. absurd (nothing_earlier m.configuration j m.is sized (rw (sym m.code) at earlier));
}
