-- The counts so far are those of the nodes so far.
use Rattle.std.proofs.Common.{◌≡◌, ℕ, ◌+◌, List, [], ◌∷◌, ◌++◌, Option, Some, None, refl, sym, ap, subst, ◌∙◌, append_assoc, arith}
use Rattle.std.specs.Prelude.{sum_by, Result, Ok, Err, IfErr}
use Rattle.std.specs.Result.{IsErrAnd}
use Rattle.std.proofs.lemmas.List.{append-nil}
use Rattle.std.proofs.lemmas.List.Sums.{sum_by-append, sum_by-cons}
use Rattle.argos_base.specs.Limits.{depth_limit, signal_limit, automaton_limit, code_limit, size_limit}
use Rattle.argos_expansion.specs.Expansion.{Visit}
use Rattle.argos_expansion.specs.Limits as limit
use Rattle.argos_expansion.specs.Limits.{passed, signals_at, automata_at, size_at, WithinFrom, IsWithin, IsFirstPassed}
use Rattle.argos_expansion.specs.inner.Growth.{Tally, counted, limited, passed_at, or_else, first_passed, IsStop}
use Rattle.argos_expansion.specs.Refusals.{IsLimitOf, which_of}
use Rattle.argos_expansion.specs.declared.errors.ExpansionError.{ExpansionError}
use Rattle.argos_expansion.specs.declared.errors.ExpansionError.TheVariants.{Limit, OutOfMemory}

abbrev Passed : Type 0
Passed = Option (limit.Which × ℕ)

abbrev tally : (signals automata size : ℕ) → Tally
tally s a z = record { signals = s; automata = a; size = z }

-- what some nodes add up to
abbrev pub tally_at : List Visit → Tally
tally_at vs = tally (signals_at vs) (automata_at vs) (size_at vs)

one_more : (f : Visit → ℕ) (before : List Visit) (v : Visit) → sum_by f (before ++ v ∷ []) ≡ sum_by f before + f v
one_more f before v =
    let a = sum_by-append f before (v ∷ []) in
    let b = sum_by-cons f v [] in
    omega arith

tally_at-more : (before : List Visit) (v : Visit) → counted (tally_at before) v ≡ tally_at (before ++ v ∷ [])
tally_at-more before v =
    ap (λ s. tally s (automata_at before + v.automata) (size_at before + v.size)) (sym (one_more (λ v. v.signals) before v))
    ∙ ap (λ a. tally (signals_at (before ++ v ∷ [])) a (size_at before + v.size)) (sym (one_more (λ v. v.automata) before v))
    ∙ ap (λ z. tally (signals_at (before ++ v ∷ [])) (automata_at (before ++ v ∷ [])) z) (sym (one_more (λ v. v.size) before v))

-- the limits at one node
abbrev limits_at : (depth signals automata codes size : ℕ) → Passed
limits_at d s a c z = limited limit.Depth depth_limit d (limited limit.Signals signal_limit s (limited limit.Automata automaton_limit a (limited limit.Codes code_limit c (limited limit.Size size_limit z None))))

passed_same : (before : List Visit) (v : Visit) → passed_at (tally_at before) v ≡ passed before v
unfolding passed_at limited
passed_same before v =
    ap (λ s. limits_at v.depth s (automata_at before + v.automata) v.codes (size_at before + v.size)) (sym (one_more (λ v. v.signals) before v))
    ∙ ap (λ a. limits_at v.depth (signals_at (before ++ v ∷ [])) a v.codes (size_at before + v.size)) (sym (one_more (λ v. v.automata) before v))
    ∙ ap (λ z. limits_at v.depth (signals_at (before ++ v ∷ [])) (automata_at (before ++ v ∷ [])) v.codes z) (sym (one_more (λ v. v.size) before v))

none_of_both : (o y : Passed) → or_else o y ≡ None → (o ≡ None) × (y ≡ None)
none_of_both None y h = (refl, h)
none_of_both (Some x) y h = absurd (cc)

-- nodes that pass no limit
within_from : (before vs : List Visit) → first_passed (tally_at before) vs ≡ None → WithinFrom before vs
unfolding first_passed
within_from before [] h = tt
within_from before (v ∷ vs) h =
    let b = none_of_both (passed_at (tally_at before) v) (first_passed (counted (tally_at before) v) vs) h in
    (sym (passed_same before v) ∙ b.0, within_from (before ++ v ∷ []) vs (ap (λ t. first_passed t vs) (sym (tally_at-more before v)) ∙ b.1))

pub all_within : (vs : List Visit) → first_passed (tally_at []) vs ≡ None → IsWithin vs
all_within vs h = within_from [] vs h

-- the first node that passes one
record Stops (before vs : List Visit) (w : limit.Which) (n : ℕ) : Type 0 where
  some : List Visit
  at : Visit
  more : List Visit
  split : vs ≡ some ++ at ∷ more
  within : WithinFrom before some
  passes : passed (before ++ some) at ≡ Some (w, n)

stops_at : (before : List Visit) (v : Visit) (vs : List Visit) (w : limit.Which) (n : ℕ) → passed before v ≡ Some (w, n) → Stops before (v ∷ vs) w n
stops_at before v vs w n h = record { some = []; at = v; more = vs; split = refl; within = tt; passes = ap (λ b. passed b v) (append-nil before) ∙ h }

stops_behind : (before : List Visit) (v : Visit) (vs : List Visit) (w : limit.Which) (n : ℕ) → passed before v ≡ None → Stops (before ++ v ∷ []) vs w n → Stops before (v ∷ vs) w n
stops_behind before v vs w n h s = record {
  some = v ∷ s.some;
  at = s.at;
  more = s.more;
  split = ap (λ xs. v ∷ xs) s.split;
  within = (h, s.within);
  passes = ap (λ b. passed b s.at) (sym (append_assoc before (v ∷ []) s.some)) ∙ s.passes;
}

stops_either : (before : List Visit) (v : Visit) (vs : List Visit) (w : limit.Which) (n : ℕ) (o : Passed) → passed_at (tally_at before) v ≡ o → or_else (passed_at (tally_at before) v) (first_passed (counted (tally_at before) v) vs) ≡ Some (w, n)
    → (first_passed (tally_at (before ++ v ∷ [])) vs ≡ Some (w, n) → Stops (before ++ v ∷ []) vs w n) → Stops before (v ∷ vs) w n
stops_either before v vs w n (Some p) e h rest =
    let same : Some p ≡ Some (w, n) = ap (λ o. or_else o (first_passed (counted (tally_at before) v) vs)) (sym e) ∙ h in
    stops_at before v vs w n (sym (passed_same before v) ∙ e ∙ same)
stops_either before v vs w n None e h rest =
    let later : first_passed (counted (tally_at before) v) vs ≡ Some (w, n) = ap (λ o. or_else o (first_passed (counted (tally_at before) v) vs)) (sym e) ∙ h in
    stops_behind before v vs w n (sym (passed_same before v) ∙ e) (rest (ap (λ t. first_passed t vs) (sym (tally_at-more before v)) ∙ later))

stops_from : (before vs : List Visit) (w : limit.Which) (n : ℕ) → first_passed (tally_at before) vs ≡ Some (w, n) → Stops before vs w n
unfolding first_passed
stops_from before [] w n h = absurd (cc)
stops_from before (v ∷ vs) w n h = stops_either before v vs w n (passed_at (tally_at before) v) refl h (stops_from (before ++ v ∷ []) vs w n)

pub first_one : (vs : List Visit) (w : limit.Which) (n : ℕ) → first_passed (tally_at []) vs ≡ Some (w, n) → IsFirstPassed vs w n
first_one vs w n h = let s = stops_from [] vs w n h in record { before = s.some; at = s.at; after = s.more; split = s.split; within = s.within; passes = s.passes }

-- what an error says
pub is_limit : (vs : List Visit) (e : ExpansionError) → IsStop (first_passed (tally_at []) vs) e → IsLimitOf vs e
is_limit vs (Limit which count) h = first_one vs (which_of which) count h
is_limit vs OutOfMemory h = tt

pub err_limit : {T : Type 0} (vs : List Visit) (r : Result T ExpansionError) (e : ExpansionError) → IsErrAnd r (λ x. x ≡ e) → IsStop (first_passed (tally_at []) vs) e → IfErr r (IsLimitOf vs)
err_limit vs (Ok x) e h s = absurd h
err_limit vs (Err x) e h s = is_limit vs x (subst (λ (y : ExpansionError). IsStop (first_passed (tally_at []) vs) y) (sym h) s)
