-- The ring where no cell has the token.
use Rattle.std.proofs.Common.{◌≡◌, ℕ, ◌<◌, [], ◌∷◌, Bool, true, false, ◌&&◌, ◌||◌, not, nat_eq, refl, sym, ap, ◌∙◌, inl, inr, arith}
use Rattle.argos_base.specs.SignalSets.{SignalSet, has, empty, union, without, override}
use Rattle.argos_base.proofs.Bools.{and_first, and_second, not_false}
use Rattle.argos_base.proofs.SetLemmas.{has-set_where}
use Rattle.argos_core.specs.Configurations.{entered}
use Rattle.argos_core.specs.Process.{Configuration, at, beside, no_configurations, configuration, no_inner}
use Rattle.argos_core.specs.Reactions.{HasOneReaction, valuation, initial_of, outputs_among}
use Rattle.argos_core.specs.Step.{Step, hold}
use Rattle.argos_examples.specs.Reactions.{RingReactsOnceAtStart}
use Rattle.argos_examples.specs.TokenRing.{without_token, cell_states, cell, token_ring}
use Rattle.argos_examples.proofs.PlainSteps.{Outcome, outcome, has-emitted}

abbrev start : Configuration
start = at 0 0 no_inner

-- the grant with token and request, the next token with token and without request
abbrev emits : ℕ → ℕ → Bool → Bool → ℕ → Bool
emits q g token request k = (nat_eq g k && (token && request)) || (nat_eq q k && (token && not request))

granted : (a b token request : Bool) → (token && (request && true)) ≡ true → (a || false) ≡ ((a && (token && request)) || (b && (token && not request)))
granted true b true true h = refl
granted false true true true h = refl
granted false false true true h = refl
granted a b true false h = cc
granted a b false request h = cc

passed : (a b token request : Bool) → (token && (not request && true)) ≡ true → (b || false) ≡ ((a && (token && request)) || (b && (token && not request)))
passed true true true false h = refl
passed true false true false h = refl
passed false true true false h = refl
passed false false true false h = refl
passed a b true true h = cc
passed a b false request h = cc

kept : (a b token request : Bool) → (token && (request && true)) ≡ false → (token && (not request && true)) ≡ false → false ≡ ((a && (token && request)) || (b && (token && not request)))
kept true true false request h e = refl
kept true false false request h e = refl
kept false true false request h e = refl
kept false false false request h e = refl
kept a b true true h e = cc
kept a b true false h e = cc

-- what a cell emits on w, and that it stays
abbrev CellDoes : ℕ → ℕ → ℕ → ℕ → SignalSet → SignalSet → Configuration → Type 0
CellDoes p r q g w o d = ((k : ℕ) → k < 9 → has o k ≡ emits q g (has w p) (has w r) k) × (d ≡ start)

cell_does : (p r q g : ℕ) (w o : SignalSet) (d : Configuration) → Step 9 (cell p r q g) start w o d → CellDoes p r q g w o d
cell_does p r q g w o d step =
    let out : Outcome 9 (without_token p r q g) (λ z. entered (cell_states p r q g) z) 0 w o d = outcome 9 _ _ _ 0 w o d step in
    elim out [
      | inl t ↦ elim t [
        | inl x ↦ (λ k below. ap (λ s. has s k) x.1 ∙ has-emitted 9 (g ∷ []) k below ∙ granted (nat_eq g k) (nat_eq q k) (has w p) (has w r) x.0, x.2)
        | inr u ↦ elim u [
          | inl x ↦ (λ k below. ap (λ s. has s k) x.1 ∙ has-emitted 9 (q ∷ []) k below ∙ passed (nat_eq g k) (nat_eq q k) (has w p) (has w r) x.0, x.2)
          | inr x ↦ absurd x
        ]
      ]
      | inr x ↦ (λ k below. ap (λ s. has s k) x.1 ∙ has-set_where 9 (λ j. false) k below ∙ kept (nat_eq g k) (nat_eq q k) (has w p) (has w r) x.0.0 x.0.1.0, x.2)
    ]

-- tokens that each cell passes on where it has no request: with a request there is none, so nothing is granted
nothing_granted : (p0 p1 p2 r0 r1 r2 : Bool) → p1 ≡ (p0 && not r0) → p2 ≡ (p1 && not r1) → p0 ≡ (p2 && not r2) → ((p0 && r0) ≡ false) × ((p1 && r1) ≡ false) × ((p2 && r2) ≡ false)
nothing_granted false p1 p2 r0 r1 r2 e1 e2 e0 = (refl, ap (λ b. b && r1) e1, ap (λ b. b && r2) (e2 ∙ ap (λ b. b && not r1) e1))
nothing_granted true p1 p2 r0 r1 r2 e1 e2 e0 =
    let has_2 : p2 ≡ true = and_first p2 (not r2) (sym e0) in
    let no_2 : r2 ≡ false = not_false r2 (and_second p2 (not r2) (sym e0)) in
    let has_1 : p1 ≡ true = and_first p1 (not r1) (sym e2 ∙ has_2) in
    let no_1 : r1 ≡ false = not_false r1 (and_second p1 (not r1) (sym e2 ∙ has_2)) in
    let no_0 : r0 ≡ false = not_false r0 (sym e1 ∙ has_1) in
    (no_0, ap (λ b. b && r1) has_1 ∙ no_1, ap (λ b. b && r2) has_2 ∙ no_2)

or_false : (b : Bool) → (b || false) ≡ b
or_false true = refl
or_false false = refl

abbrev locals : SignalSet → SignalSet
locals = without 9 (6 ∷ 7 ∷ 8 ∷ [])

-- the set in which the cells look, where these signals are emitted
abbrev heard : Bool → Bool → Bool → SignalSet → SignalSet
heard r0 r1 r2 emitted = override 9 (6 ∷ 7 ∷ 8 ∷ []) (valuation token_ring (r0 ∷ r1 ∷ r2 ∷ [])) emitted

abbrev nothing : SignalSet
nothing = false ∷ false ∷ false ∷ []

-- what a union has
joined : (a b o : SignalSet) (k : ℕ) (x y : Bool) → k < 9 → o ≡ union 9 a b → has a k ≡ x → has b k ≡ y → has o k ≡ (x || y)
joined a b o k x y below e ea eb = ap (λ s. has s k) e ∙ has-set_where 9 (λ j. has a j || has b j) k below ∙ ap (λ z. z || has b k) ea ∙ ap (λ z. x || z) eb

no_grants : (r0 r1 r2 : Bool) (o1 o2 o3 o4 o5 o6 emitted : SignalSet)
    → ((k : ℕ) → k < 9 → has o1 k ≡ emits 7 3 (has emitted 6) r0 k)
    → ((k : ℕ) → k < 9 → has o3 k ≡ emits 8 4 (has emitted 7) r1 k)
    → ((k : ℕ) → k < 9 → has o5 k ≡ emits 6 5 (has emitted 8) r2 k)
    → o6 ≡ empty 9 → o4 ≡ union 9 o5 o6 → o2 ≡ union 9 o3 o4 → emitted ≡ union 9 o1 o2
    → outputs_among token_ring (locals emitted) ≡ nothing
no_grants r0 r1 r2 o1 o2 o3 o4 o5 o6 emitted c0 c1 c2 e6 e4 e2 e =
    let at_7 : has emitted 7 ≡ (has emitted 6 && not r0) = emitted_at 7 (omega arith) ∙ or_false _ in
    let at_8 : has emitted 8 ≡ (has emitted 7 && not r1) = emitted_at 8 (omega arith) ∙ or_false _ in
    let at_6 : has emitted 6 ≡ (has emitted 8 && not r2) = emitted_at 6 (omega arith) ∙ or_false _ in
    let none = nothing_granted (has emitted 6) (has emitted 7) (has emitted 8) r0 r1 r2 at_7 at_8 at_6 in
    let at_3 : has emitted 3 ≡ false = emitted_at 3 (omega arith) ∙ or_false _ ∙ or_false _ ∙ none.0 in
    let at_4 : has emitted 4 ≡ false = emitted_at 4 (omega arith) ∙ or_false _ ∙ or_false _ ∙ none.1 in
    let at_5 : has emitted 5 ≡ false = emitted_at 5 (omega arith) ∙ or_false _ ∙ or_false _ ∙ none.2 in
    outputs at_3 at_4 at_5
  where
    emitted_at : (k : ℕ) → k < 9 → has emitted k ≡ (emits 7 3 (has emitted 6) r0 k || (emits 8 4 (has emitted 7) r1 k || (emits 6 5 (has emitted 8) r2 k || false)))
    emitted_at k below =
        let nothing_more : has o6 k ≡ false = ap (λ s. has s k) e6 ∙ has-set_where 9 (λ j. false) k below in
        joined o1 o2 emitted k _ _ below e (c0 k below) (joined o3 o4 o2 k _ _ below e2 (c1 k below) (joined o5 o6 o4 k _ _ below e4 (c2 k below) nothing_more))

    outputs : has emitted 3 ≡ false → has emitted 4 ≡ false → has emitted 5 ≡ false → outputs_among token_ring (locals emitted) ≡ nothing
    outputs at_3 at_4 at_5 =
        ap (λ (b : Bool). (b && true) ∷ (has emitted 4 && true) ∷ (has emitted 5 && true) ∷ []) at_3
        ∙ ap (λ (b : Bool). false ∷ (b && true) ∷ (has emitted 5 && true) ∷ []) at_4
        ∙ ap (λ (b : Bool). false ∷ false ∷ (b && true) ∷ []) at_5

abbrev all_start : Configuration
all_start = beside (configuration start (configuration start (configuration start no_configurations)))

steps_to : (r0 r1 r2 : Bool) (out : SignalSet) (c' : Configuration) → Step 9 token_ring.process all_start (valuation token_ring (r0 ∷ r1 ∷ r2 ∷ [])) out c' → (outputs_among token_ring out ≡ nothing) × (c' ≡ all_start)
steps_to r0 r1 r2 out c' (emitted, (cs', ce, (o1, o2, d0, ds0, s0, (o3, o4, d1, ds1, s1, (o5, o6, d2, ds2, s2, none, e4, f2), e2, f1), e, f0)), less) =
    let c0 = cell_does 6 0 7 3 (heard r0 r1 r2 emitted) o1 d0 s0 in
    let c1 = cell_does 7 1 8 4 (heard r0 r1 r2 emitted) o3 d1 s1 in
    let c2 = cell_does 8 2 6 5 (heard r0 r1 r2 emitted) o5 d2 s2 in
    (ap (outputs_among token_ring) less ∙ no_grants r0 r1 r2 o1 o2 o3 o4 o5 o6 emitted c0.0 c1.0 c2.0 none.0 e4 e2 e, cc (c0.1, c1.1, c2.1, none.1))

reacts_once : (r0 r1 r2 : Bool) → HasOneReaction token_ring (initial_of token_ring) (r0 ∷ r1 ∷ r2 ∷ [])
reacts_once r0 r1 r2 = record {
  outputs = nothing;
  next = all_start;
  reacts = record {
    input = refl;
    emitted = empty 9;
    step = (empty 9, (_, refl, (_, _, _, _, hold _ (refl, (refl, tt)) tt (refl, refl) refl, (_, _, _, _, hold _ (refl, (refl, tt)) tt (refl, refl) refl, (_, _, _, _, hold _ (refl, (refl, tt)) tt (refl, refl) refl, (refl, refl), refl, refl), refl, refl), refl, refl)), refl);
    outputs = refl;
  };
  only = λ o c' r. let s = steps_to r0 r1 r2 r.emitted c' r.step in (r.outputs ∙ s.0, s.1);
}

pub ring_reacts_once : RingReactsOnceAtStart
ring_reacts_once [] sized = absurd (omega arith)
ring_reacts_once (r0 ∷ []) sized = absurd (omega arith)
ring_reacts_once (r0 ∷ r1 ∷ []) sized = absurd (omega arith)
ring_reacts_once (r0 ∷ r1 ∷ r2 ∷ []) sized = reacts_once r0 r1 r2
ring_reacts_once (r0 ∷ r1 ∷ r2 ∷ r3 ∷ more) sized = absurd (omega arith)
