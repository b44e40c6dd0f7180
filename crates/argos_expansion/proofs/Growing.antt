-- Parts that grow one after another, under one limit after another.
use Rattle.std.proofs.Common.{◌≡◌, ℕ, ◌+◌, List, [], ◌∷◌, ◌++◌, Option, Some, None, map, length, refl, sym, ap, subst, ◌∙◌, append_assoc, length-append, arith}
use Rattle.std.specs.Prelude.{Result, Ok, Err}
use Rattle.std.specs.Result.{IsErrAnd}
use Rattle.std.proofs.lemmas.Grind.{common_steps}
use Rattle.std.proofs.lemmas.List.{append-nil, length-map}
use Rattle.argos_grammar.specs.Forms.{Mark}
use Rattle.argos_expansion.specs.Expansion.{Visit, Grown, over, beside, alone, with_locals}
use Rattle.argos_expansion.specs.Limits as limit
use Rattle.argos_expansion.specs.inner.Growth.{Tally, counted, passed_at, or_else, first_passed, tally_after, IsStop, Moment, HasGrown, Grows}
use Rattle.argos_expansion.specs.declared.errors.ExpansionError.{ExpansionError}
use Rattle.argos_expansion.specs.declared.errors.ExpansionError.TheVariants.{Limit, OutOfMemory}

abbrev Passed : Type 0
Passed = Option (limit.Which × ℕ)

-- an error that is a stop at a part is one at the whole
stop_else : (o y : Passed) (e : ExpansionError) → IsStop o e → IsStop (or_else o y) e
stop_else o y (Limit which count) h = ap (λ p. or_else p y) h
stop_else o y OutOfMemory h = tt

stop_after : (o y : Passed) (e : ExpansionError) → o ≡ None → IsStop y e → IsStop (or_else o y) e
stop_after o y e n h = subst (λ (p : Passed). IsStop (or_else p y) e) (sym n) h

pub no_memory : (o : Passed) (e : ExpansionError) → e ≡ OutOfMemory → IsStop o e
no_memory o e h = subst (λ (x : ExpansionError). IsStop o x) (sym h) tt

else_assoc : (o y z : Passed) → or_else o (or_else y z) ≡ or_else (or_else o y) z
else_assoc None y z = refl
else_assoc (Some x) y z = refl

first_passed-append : (t : Tally) (us vs : List Visit) → first_passed t (us ++ vs) ≡ or_else (first_passed t us) (first_passed (tally_after t us) vs)
unfolding first_passed tally_after
first_passed-append t [] vs = refl
first_passed-append t (u ∷ us) vs = ap (or_else (passed_at t u)) (first_passed-append (counted t u) us vs) ∙ else_assoc (passed_at t u) (first_passed (counted t u) us) (first_passed (tally_after (counted t u) us) vs)

tally_after-append : (t : Tally) (us vs : List Visit) → tally_after t (us ++ vs) ≡ tally_after (tally_after t us) vs
unfolding tally_after
tally_after-append t [] vs = refl
tally_after-append t (u ∷ us) vs = tally_after-append (counted t u) us vs

-- a node that is visited first
pub stops_here : (t : Tally) (v : Visit) (vs : List Visit) (e : ExpansionError) → IsStop (passed_at t v) e → IsStop (first_passed t (v ∷ vs)) e
unfolding first_passed
stops_here t v vs e h = stop_else (passed_at t v) (first_passed (counted t v) vs) e h

pub stops_later : (t : Tally) (v : Visit) (vs : List Visit) (e : ExpansionError) → passed_at t v ≡ None → IsStop (first_passed (counted t v) vs) e → IsStop (first_passed t (v ∷ vs)) e
unfolding first_passed
stops_later t v vs e p h = stop_after (passed_at t v) (first_passed (counted t v) vs) e p h

-- from one moment to the next a node was counted, and these names were added
pub record HasVisited (v : Visit) (ns : List Mark) (old mid : Moment) : Type 0 where
  pub passes : passed_at old.tally v ≡ None
  pub counts : mid.tally ≡ counted old.tally v
  pub named : mid.locals ≡ old.locals ++ map (λ m. m.name) ns
  pub signals : v.signals ≡ length ns

module _ {A B : Type 0} (v : Visit) (f : A → B) (ns : List Mark) (old mid : Moment) (h : HasVisited v ns old mid) where
  over_one : (g : Grown A) (new : Moment) (made : A) (whole : B) → HasGrown g made mid new → whole ≡ f made → HasGrown (over v f (with_locals ns g)) whole old new
  unfolding first_passed tally_after
  over_one g new made whole r w = record {
    whole = w ∙ ap f r.whole;
    locals = r.locals ∙ ap (λ x. x ++ g.locals) h.named ∙ append_assoc old.locals (map (λ m. m.name) ns) g.locals;
    within = ap (λ o. or_else o (first_passed (counted old.tally v) g.visits)) h.passes ∙ ap (λ t. first_passed t g.visits) (sym h.counts) ∙ r.within;
    tally = r.tally ∙ ap (λ t. tally_after t g.visits) h.counts;
    next =
        let a = r.next in
        let b : mid.tally.signals ≡ old.tally.signals + v.signals = ap (λ t. t.signals) h.counts in
        let c = h.signals in
        let d : length (map (λ m. m.name) ns ++ g.locals) ≡ length (map (λ m. m.name) ns) + length g.locals = length-append (map (λ m. m.name) ns) g.locals in
        let i : length (map (λ m. m.name) ns) ≡ length ns = length-map ns (λ (m : Mark). m.name) in
        omega arith;
  }

  -- what grows behind it takes the next number
  pub over_grown : (G : ℕ → Grown A) (n : ℕ) (new : Moment) (made : A) (whole : B) → n ≡ old.tally.signals + length ns → HasGrown (G mid.tally.signals) made mid new → whole ≡ f made → HasGrown (over v f (with_locals ns (G n))) whole old new
  over_grown G n new made whole e r w =
      let b : mid.tally.signals ≡ old.tally.signals + v.signals = ap (λ t. t.signals) h.counts in
      let c = h.signals in
      let s : mid.tally.signals ≡ n = omega arith in
      subst (λ (k : ℕ). HasGrown (over v f (with_locals ns (G k))) whole old new) s (over_one (G mid.tally.signals) new made whole r w)

  pub over_stops : (G : ℕ → Grown A) (n : ℕ) (e : ExpansionError) → n ≡ old.tally.signals + length ns → IsStop (first_passed mid.tally (G mid.tally.signals).visits) e → IsStop (first_passed old.tally (v ∷ (G n).visits)) e
  over_stops G n e s r =
      let b : mid.tally.signals ≡ old.tally.signals + v.signals = ap (λ t. t.signals) h.counts in
      let c = h.signals in
      let i : mid.tally.signals ≡ n = omega arith in
      subst (λ (k : ℕ). IsStop (first_passed old.tally (v ∷ (G k).visits)) e) i
      (stops_later old.tally v (G mid.tally.signals).visits e h.passes (subst (λ (t : Tally). IsStop (first_passed t (G mid.tally.signals).visits) e) h.counts r))

-- Since the start this much has grown, and the rest is left to grow to the whole.
pub record Leads {A B : Type 0} (join : B → A) (start : Moment) (g : Grown A) (now : Moment) (rest : Grown B) : Type 0 where
  pub whole : join rest.whole ≡ g.whole
  pub locals : now.locals ++ rest.locals ≡ start.locals ++ g.locals
  pub first : first_passed now.tally rest.visits ≡ first_passed start.tally g.visits
  pub after : tally_after now.tally rest.visits ≡ tally_after start.tally g.visits
  pub next : now.tally.signals + length rest.locals ≡ start.tally.signals + length g.locals

pub leads_begin : {A : Type 0} (join : A → A) (m : Moment) (g : Grown A) → join g.whole ≡ g.whole → Leads join m g m g
leads_begin join m g e = record { whole = e; locals = refl; first = refl; after = refl; next = refl }

pub leads_end : {A B : Type 0} (join : B → A) (start : Moment) (g : Grown A) (now : Moment) (x : B) (made : A) → Leads join start g now (alone x) → made ≡ join x → HasGrown g made start now
unfolding first_passed tally_after
leads_end join start g now x made h e = record {
  whole = e ∙ h.whole;
  locals = sym (append-nil now.locals) ∙ h.locals;
  within = sym h.first;
  tally = h.after;
  next = let n = h.next in omega arith;
}

module _ {A B C D : Type 0} (join : D → A) (start : Moment) (g : Grown A) (now : Moment) (f : B → C → D) (a : Grown B) (R : ℕ → Grown C) where
  one_beside : (new : Moment) (made : B) → Leads join start g now (beside f a (R new.tally.signals)) → HasGrown a made now new → Leads (λ x. join (f made x)) start g new (R new.tally.signals)
  one_beside new made h r =
      let rest = R new.tally.signals in
      record {
        whole = ap (λ y. join (f y rest.whole)) r.whole ∙ h.whole;
        locals = ap (λ x. x ++ rest.locals) r.locals ∙ append_assoc now.locals a.locals rest.locals ∙ h.locals;
        first = ap (λ t. first_passed t rest.visits) r.tally ∙ sym (ap (λ o. or_else o (first_passed (tally_after now.tally a.visits) rest.visits)) r.within) ∙ sym (first_passed-append now.tally a.visits rest.visits) ∙ h.first;
        after = ap (λ t. tally_after t rest.visits) r.tally ∙ sym (tally_after-append now.tally a.visits rest.visits) ∙ h.after;
        next =
            let n = h.next in
            let m = r.next in
            let l : length (a.locals ++ rest.locals) ≡ length a.locals + length rest.locals = length-append a.locals rest.locals in
            omega arith;
      }

  -- the next part has grown
  pub leads_on : (n : ℕ) (new : Moment) (made : B) → n ≡ now.tally.signals → Leads join start g now (beside f a (R (n + length a.locals))) → HasGrown a made now new → Leads (λ x. join (f made x)) start g new (R new.tally.signals)
  leads_on n new made e h r =
      let m = r.next in
      let s : n + length a.locals ≡ new.tally.signals = omega arith in
      one_beside new made (subst (λ (k : ℕ). Leads join start g now (beside f a (R k))) s h) r

  -- or has stopped
  pub leads_stop : (rest : Grown C) (e : ExpansionError) → Leads join start g now (beside f a rest) → IsStop (first_passed now.tally a.visits) e → IsStop (first_passed start.tally g.visits) e
  leads_stop rest e h r =
      subst (λ (o : Passed). IsStop o e) (sym (first_passed-append now.tally a.visits rest.visits) ∙ h.first) (stop_else (first_passed now.tally a.visits) (first_passed (tally_after now.tally a.visits) rest.visits) e r)

-- nothing of its own
pub alone_grown : {A : Type 0} (x made : A) (m : Moment) → made ≡ x → HasGrown (alone x) made m m
unfolding first_passed tally_after
alone_grown x made m e = record { whole = e; locals = sym (append-nil m.locals); within = refl; tally = refl; next = omega arith }

-- a node that is counted as another one
pub has_visited : (v w : Visit) (ns : List Mark) (old mid : Moment) → v ≡ w → passed_at old.tally v ≡ None → mid.tally ≡ counted old.tally v → mid.locals ≡ old.locals ++ map (λ m. m.name) ns → w.signals ≡ length ns → HasVisited w ns old mid
has_visited v w ns old mid e p c l s = record {
  passes = subst (λ (u : Visit). passed_at old.tally u ≡ None) e p;
  counts = subst (λ (u : Visit). mid.tally ≡ counted old.tally u) e c;
  named = l;
  signals = s;
}

-- the same where nothing is named
pub bare_visit : (v w : Visit) (old mid : Moment) → v ≡ w → passed_at old.tally v ≡ None → mid.tally ≡ counted old.tally v → mid.locals ≡ old.locals → w.signals ≡ 0 → HasVisited w [] old mid
bare_visit v w old mid e p c l s = has_visited v w [] old mid e p c (l ∙ sym (append-nil old.locals)) s

-- what an error says
pub err_grows : {A X : Type 0} (g : Grown A) (view : X → A) (old new : Moment) (r : Result X ExpansionError) (e : ExpansionError) → IsErrAnd r (λ x. x ≡ e) → IsStop (first_passed old.tally g.visits) e → Grows g view old r new
err_grows g view old new (Ok x) e h s = absurd h
err_grows g view old new (Err x) e h s = subst (λ (y : ExpansionError). IsStop (first_passed old.tally g.visits) y) (sym h) s

pub ruleset growing = (common_steps, no_memory, stops_here)
