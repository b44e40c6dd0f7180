-- The first of a list of states that decides, one part of the list after the other.
use Rattle.std.proofs.Common.{◌≡◌, ℕ, zero, suc, ◌+◌, ◌-◌, ◌<◌, ◌≤◌, List, [], ◌∷◌, ◌++◌, Option, Some, None, map, length, length-append, get_or, drop, slice_get, refl, sym, ap, ◌∙◌, subst, arith, inl, inr, ◌⊎◌, Result, Ok, MatchOption}
use Rattle.std.proofs.lemmas.List.{at_drop_more}
use Rattle.std.proofs.lemmas.Option.{slice_get_within}
use Rattle.argos_core.specs.Process.{Transition}
use Rattle.argos_core.specs.Views.{process_of, state_of, processes_of, states_of}
use Rattle.argos_core.specs.declared.prog.Prog.{Prog}
use Rattle.argos_core.specs.declared.prog.State.{State}
use Rattle.instant_check.specs.ModuleOverlaps.{StandsBefore, Fits, IsPassed}
use Rattle.argos_base.specs.declared.signals.RegId.{RegId}
use Rattle.instant_check.specs.StateOverlaps.{HasNoOverlap, IsLeastOverlap}
use Rattle.eqn_dd.specs.declared.errors.CheckError.{CheckError}
use Rattle.instant_check.specs.declared.job.StateOverlap.{StateOverlap}
use Rattle.instant_check.specs.declared.search.OverlapFound.{OverlapFound}
use Rattle.instant_check.specs.declared.search.OverlapFound.TheVariants.{Clear, Overlap}
use Rattle.instant_check.specs.inner.Jobs.{Jobs, transitions_in, jobs_of, jobs_of_parts, jobs_in, jobs_within, IsFitState, AreFitStates, AreFit}
use Rattle.instant_check.specs.inner.Searching.{IsAt, ArePassed, Reaches, Decides, Settles, Stops, Answers}

-- ---- places in two lists of automata

get-front : {A : Type 0} (xs ys : List A) (i : ℕ) (x : A) → slice_get xs i ≡ Some x → slice_get (xs ++ ys) i ≡ Some x
get-front [] ys i x at = cc
get-front (z ∷ xs) ys zero x at = at
get-front (z ∷ xs) ys (suc i) x at = get-front xs ys i x at

get-inside : {A : Type 0} (xs ys : List A) (i : ℕ) (x : A) → i < length xs → slice_get (xs ++ ys) i ≡ Some x → slice_get xs i ≡ Some x
get-inside [] ys i x below at = absurd (omega arith)
get-inside (z ∷ xs) ys zero x below at = at
get-inside (z ∷ xs) ys (suc i) x below at = get-inside xs ys i x (omega arith) at

get-behind : {A : Type 0} (xs ys : List A) (i k : ℕ) → i ≡ length xs + k → slice_get (xs ++ ys) i ≡ slice_get ys k
get-behind [] ys i k e = ap (slice_get ys) (let f : i ≡ k = omega arith in f)
get-behind (z ∷ xs) ys zero k e = absurd (omega arith)
get-behind (z ∷ xs) ys (suc i) k e = get-behind xs ys i k (omega arith)

at_front : {jobs : Jobs} {k q : ℕ} {ts : List Transition} (rest : Jobs) → IsAt jobs k q ts → IsAt (jobs ++ rest) k q ts
at_front {jobs} {k} rest a = record { states = a.states; automaton = get-front jobs rest k a.states a.automaton; state = a.state }

at_inside : {k q : ℕ} {ts : List Transition} (jobs rest : Jobs) → k < length jobs → IsAt (jobs ++ rest) k q ts → IsAt jobs k q ts
at_inside {k} jobs rest below a = record { states = a.states; automaton = get-inside jobs rest k a.states below a.automaton; state = a.state }

at_later : {jobs : Jobs} {k q : ℕ} {ts : List Transition} (done : Jobs) (i : ℕ) → i ≡ length done + k → IsAt jobs k q ts → IsAt (done ++ jobs) i q ts
at_later {jobs} {k} done i e a = record { states = a.states; automaton = get-behind done jobs i k e ∙ a.automaton; state = a.state }

at_behind : {q i : ℕ} {ts : List Transition} (done jobs : Jobs) (k : ℕ) → i ≡ length done + k → IsAt (done ++ jobs) i q ts → IsAt jobs k q ts
at_behind {q} {i} done jobs k e a = record { states = a.states; automaton = sym (get-behind done jobs i k e) ∙ a.automaton; state = a.state }

below_or_behind : (i m : ℕ) → (i < m) ⊎ (i ≡ m + (i - m))
below_or_behind i m = grind arith

passed_both : {n : ℕ} (done more : Jobs) → ArePassed n done → ArePassed n more → ArePassed n (done ++ more)
passed_both {n} done more first second k q ts a = at (below_or_behind k (length done))
  where
    at : (k < length done) ⊎ (k ≡ length done + (k - length done)) → IsPassed n ts
    at (inl below) = first k q ts (at_inside done more below a)
    at (inr behind) = second (k - length done) q ts (at_behind done more (k - length done) behind a)

not_later : (k' q' k q : ℕ) → StandsBefore k' q' k q → k' ≤ k
not_later k' q' k q (inl less) = omega arith
not_later k' q' k q (inr same) = omega (arith, same.0)

shifted : (m k' q' k q i : ℕ) → i ≡ m + k → k' ≡ m + (k' - m) → StandsBefore k' q' i q → StandsBefore (k' - m) q' k q
shifted m k' q' k q i e f (inl less) = inl (omega arith)
shifted m k' q' k q i e f (inr same) = inr (omega (arith, same.0), same.1)

reaches_front : {n : ℕ} {k q : ℕ} {ts : List Transition} (first rest : Jobs) → Reaches n first k q ts → Reaches n (first ++ rest) k q ts
reaches_front {n} {k} {q} {ts} first rest r = record {
  at = at_front rest r.at;
  before = λ k' q' us earlier a.
      let inside : k < length first = slice_get_within first k r.at.states r.at.automaton in
      let late = not_later k' q' k q earlier in
      r.before k' q' us earlier (at_inside first rest (omega arith) a);
}

reaches_later : {n : ℕ} {k q : ℕ} {ts : List Transition} (done jobs : Jobs) (i : ℕ) → i ≡ length done + k → ArePassed n done → Reaches n jobs k q ts → Reaches n (done ++ jobs) i q ts
reaches_later {n} {k} {q} {ts} done jobs i e passed r = record {
  at = at_later done i e r.at;
  before = λ k' q' us earlier a. at k' q' us earlier a (below_or_behind k' (length done));
}
  where
    at : (k' q' : ℕ) (us : List Transition) → StandsBefore k' q' i q → IsAt (done ++ jobs) k' q' us → (k' < length done) ⊎ (k' ≡ length done + (k' - length done)) → IsPassed n us
    at k' q' us earlier a (inl below) = passed k' q' us (at_inside done jobs below a)
    at k' q' us earlier a (inr behind) = r.before (k' - length done) q' us (shifted (length done) k' q' k q i e behind earlier) (at_behind done jobs (k' - length done) behind a)

-- ---- answers

pub stops_front : {n budget base : ℕ} {result : Result OverlapFound CheckError} (first rest : Jobs) → Stops n budget base first result → Stops n budget base (first ++ rest) result
stops_front first rest s = record { place = s.place; number = s.number; transitions = s.transitions; reaches = reaches_front first rest s.reaches; decides = s.decides }

pub stops_later : {n budget base register : ℕ} {result : Result OverlapFound CheckError} (done jobs : Jobs) → register ≡ base + length done → ArePassed n done → Stops n budget register jobs result → Stops n budget base (done ++ jobs) result
stops_later {n} {budget} {base} {register} {result} done jobs e passed s = record {
  place = length done + s.place;
  number = s.number;
  transitions = s.transitions;
  reaches = reaches_later done jobs (length done + s.place) refl passed s.reaches;
  decides = subst (λ (r : ℕ). Decides n budget r s.number s.transitions result) (let f : register + s.place ≡ base + (length done + s.place) = omega arith in f) s.decides;
}

-- what is clear has passed
pub clear_passed : {n budget base : ℕ} {result : Result OverlapFound CheckError} {jobs : Jobs} → Answers n budget base jobs result → result ≡ Ok Clear → ArePassed n jobs
clear_passed (inl clear) e = clear.1
clear_passed {n} {budget} {base} {result} (inr s) e = absurd (subst (λ (r : Result OverlapFound CheckError). Decides n budget (base + s.place) s.number s.transitions r) e s.decides)

pub unclear_stops : {n budget base : ℕ} {result : Result OverlapFound CheckError} {jobs : Jobs} → Answers n budget base jobs result → ¬ (result ≡ Ok Clear) → Stops n budget base jobs result
unclear_stops (inl clear) other = absurd (other clear.0)
unclear_stops (inr s) other = s

pub answers_later : {n budget base register : ℕ} {result : Result OverlapFound CheckError} (done jobs : Jobs) → register ≡ base + length done → ArePassed n done → Answers n budget register jobs result → Answers n budget base (done ++ jobs) result
answers_later done jobs e passed (inl clear) = inl (clear.0, passed_both done jobs passed clear.1)
answers_later done jobs e passed (inr s) = inr (stops_later done jobs e passed s)

-- of the list what comes before the rest has passed
pub record Passed (n base : ℕ) (jobs rest : Jobs) (register : ℕ) : Type 0 where
  pub done : Jobs
  pub split : jobs ≡ done ++ rest
  pub passed : ArePassed n done
  pub counted : register ≡ base + length done

pub passed_begin : (n base : ℕ) (jobs : Jobs) → Passed n base jobs jobs base
passed_begin n base jobs = record { done = []; split = refl; passed = λ k q ts a. absurd (none k (slice_get_within [] k a.states a.automaton)); counted = omega arith }
  where
    none : (k : ℕ) → k < 0 → ⊥
    none k below = absurd (omega arith)

append-assoc : (xs ys zs : Jobs) → (xs ++ ys) ++ zs ≡ xs ++ (ys ++ zs)
append-assoc [] ys zs = refl
append-assoc (x ∷ xs) ys zs = ap (λ (l : Jobs). x ∷ l) (append-assoc xs ys zs)

append-none : (xs : Jobs) → xs ++ [] ≡ xs
append-none [] = refl
append-none (x ∷ xs) = ap (λ (l : Jobs). x ∷ l) (append-none xs)

pub passed_more : {n budget base register register' : ℕ} {jobs rest : Jobs} {result : Result OverlapFound CheckError} (first more : Jobs) → Passed n base jobs rest register → rest ≡ first ++ more → Answers n budget register first result → result ≡ Ok Clear → register' ≡ register + length first → Passed n base jobs more register'
passed_more {n} {budget} {base} {register} {register'} {jobs} {rest} {result} first more p e answer clear moved = record {
  done = p.done ++ first;
  split = p.split ∙ ap (λ (l : Jobs). p.done ++ l) e ∙ sym (append-assoc p.done first more);
  passed = passed_both p.done first p.passed (clear_passed answer clear);
  counted = (let c = p.counted in let l = length-append p.done first in omega (arith, c, l));
}

pub passed_stops : {n budget base register : ℕ} {jobs rest : Jobs} {result : Result OverlapFound CheckError} (first more : Jobs) → Passed n base jobs rest register → rest ≡ first ++ more → Answers n budget register first result → ¬ (result ≡ Ok Clear) → Answers n budget base jobs result
passed_stops {n} {budget} {base} {register} {jobs} {rest} {result} first more p e answer other =
    inr (subst (λ (l : Jobs). Stops n budget base l result) (sym (p.split ∙ ap (λ (l : Jobs). p.done ++ l) e))
    (stops_later p.done (first ++ more) p.counted p.passed (stops_front first more (unclear_stops answer other))))

pub passed_answers : {n budget base register : ℕ} {jobs rest : Jobs} → Passed n base jobs rest register → rest ≡ [] → Answers n budget base jobs (Ok Clear)
passed_answers {n} {budget} {base} {register} {jobs} {rest} p e =
    inl (refl, subst (λ (l : Jobs). ArePassed n l) (sym (p.split ∙ ap (λ (l : Jobs). p.done ++ l) e ∙ append-none p.done)) p.passed)

pub passed_count : {n base register : ℕ} {jobs rest : Jobs} → Passed n base jobs rest register → rest ≡ [] → register ≡ base + length jobs
passed_count {n} {base} {register} {jobs} {rest} p e =
    let all : jobs ≡ p.done = p.split ∙ ap (λ (l : Jobs). p.done ++ l) e ∙ append-none p.done in
    let c = p.counted in
    omega (arith, c, ap length all)

fit_front : (n : ℕ) (first rest : Jobs) → AreFit n (first ++ rest) → AreFit n first
fit_front n [] rest fit = tt
fit_front n (x ∷ first) rest fit = (fit.0, fit.1, fit_front n first rest fit.2)

fit_behind : (n : ℕ) (done rest : Jobs) → AreFit n (done ++ rest) → AreFit n rest
fit_behind n [] rest fit = fit
fit_behind n (x ∷ done) rest fit = fit_behind n done rest fit.2

pub next_fit : (n : ℕ) {base register : ℕ} {jobs rest : Jobs} (first more : Jobs) → Passed n base jobs rest register → rest ≡ first ++ more → AreFit n jobs → AreFit n first
next_fit n first more p e fit = fit_front n first more (fit_behind n p.done (first ++ more) (subst (λ (l : Jobs). AreFit n l) (p.split ∙ ap (λ (l : Jobs). p.done ++ l) e) fit))

pub next_room : {n base register most : ℕ} {jobs rest : Jobs} (first more : Jobs) → Passed n base jobs rest register → rest ≡ first ++ more → base + length jobs < most → register + length first < most
next_room first more p e room =
    let c = p.counted in
    let l = ap length (p.split ∙ ap (λ (x : Jobs). p.done ++ x) e) ∙ length-append p.done (first ++ more) in
    let m = length-append first more in
    omega (arith, c, l, m)

-- ---- parts and bodies one by one

pub parts-next : (ps : List Prog) (i : ℕ) (p : Prog) → i < length ps → p ≡ get_or ps i p → jobs_of_parts (processes_of (map process_of (drop i ps))) ≡ jobs_of (process_of p) ++ jobs_of_parts (processes_of (map process_of (drop (i + 1) ps)))
parts-next ps i p below is =
    at_drop_more (λ xs. jobs_of_parts (processes_of (map process_of xs))) ps i p below
    ∙ ap (λ (x : Prog). jobs_of (process_of x) ++ jobs_of_parts (processes_of (map process_of (drop (i + 1) ps)))) (sym is)

pub bodies-next : (ss : List State) (i : ℕ) (s : State) → i < length ss → s ≡ get_or ss i s → jobs_in (states_of (map state_of (drop i ss))) ≡ jobs_within (state_of s).body ++ jobs_in (states_of (map state_of (drop (i + 1) ss)))
bodies-next ss i s below is =
    at_drop_more (λ xs. jobs_in (states_of (map state_of xs))) ss i s below
    ∙ ap (λ (x : State). jobs_within (state_of x).body ++ jobs_in (states_of (map state_of (drop (i + 1) ss)))) (sym is)

parts-past : (ps : List Prog) (i : ℕ) → length ps ≤ i → drop i ps ≡ []
parts-past [] zero all = refl
parts-past [] (suc i) all = refl
parts-past (p ∷ ps) zero all = absurd (omega arith)
parts-past (p ∷ ps) (suc i) all = parts-past ps i (omega arith)

states-past : (ss : List State) (i : ℕ) → length ss ≤ i → drop i ss ≡ []
states-past [] zero all = refl
states-past [] (suc i) all = refl
states-past (s ∷ ss) zero all = absurd (omega arith)
states-past (s ∷ ss) (suc i) all = states-past ss i (omega arith)

pub parts-end : (ps : List Prog) (i : ℕ) → length ps ≤ i → jobs_of_parts (processes_of (map process_of (drop i ps))) ≡ []
parts-end ps i all = ap (λ (xs : List Prog). jobs_of_parts (processes_of (map process_of xs))) (parts-past ps i all)

pub bodies-end : (ss : List State) (i : ℕ) → length ss ≤ i → jobs_in (states_of (map state_of (drop i ss))) ≡ []
bodies-end ss i all = ap (λ (xs : List State). jobs_in (states_of (map state_of xs))) (states-past ss i all)

-- ---- the states of one automaton

pub length-transitions : (ss : List State) → length (transitions_in (states_of (map state_of ss))) ≡ length ss
length-transitions [] = refl
length-transitions (s ∷ ss) = ap suc (length-transitions ss)

pub transitions-at : (ss : List State) (q : ℕ) (s : State) → q < length ss → s ≡ get_or ss q s → slice_get (transitions_in (states_of (map state_of ss))) q ≡ Some (state_of s).rules.transitions
transitions-at [] q s below is = absurd (omega arith)
transitions-at (z ∷ ss) zero s below is = ap (λ (x : State). Some (state_of x).rules.transitions) (sym is)
transitions-at (z ∷ ss) (suc q) s below is = transitions-at ss q s (omega arith) is

pub fit_state : (n : ℕ) (states : List (List Transition)) (q : ℕ) (ts : List Transition) → AreFitStates n states → slice_get states q ≡ Some ts → IsFitState n ts
fit_state n [] q ts fit at = cc
fit_state n (us ∷ states) zero ts fit at = let same : us ≡ ts = cc in subst (λ (x : List Transition). IsFitState n x) same fit.0
fit_state n (us ∷ states) (suc q) ts fit at = fit_state n states q ts fit.1 at

pub record PassedStates (n : ℕ) (states : List (List Transition)) (i : ℕ) : Type 0 where
  pub each : (q : ℕ) (ts : List Transition) → q < i → slice_get states q ≡ Some ts → IsPassed n ts

pub states_begin : (n : ℕ) (states : List (List Transition)) → PassedStates n states 0
states_begin n states = record { each = λ q ts below. absurd (omega arith) }

last : (j i : ℕ) → j < i + 1 → (j < i) ⊎ (j ≡ i)
last j i below = grind arith

one_list : {xs ys : List Transition} → ◌≡◌ {A = Option (List Transition)} (Some xs) (Some ys) → xs ≡ ys
one_list e = cc

settled_passed : (n budget r q : ℕ) (ts : List Transition) {result : Result OverlapFound CheckError} → Settles n budget r q ts result → result ≡ Ok Clear → IsPassed n ts
settled_passed n budget r q ts (inl clear) e = clear.1
settled_passed n budget r q ts {result} (inr d) e = absurd (subst (λ (x : Result OverlapFound CheckError). Decides n budget r q ts x) e d)

settled_decides : (n budget r q : ℕ) (ts : List Transition) {result : Result OverlapFound CheckError} → Settles n budget r q ts result → ¬ (result ≡ Ok Clear) → Decides n budget r q ts result
settled_decides n budget r q ts (inl clear) other = absurd (other clear.0)
settled_decides n budget r q ts (inr d) other = d

pub states_more : (n budget r i : ℕ) {result : Result OverlapFound CheckError} (states : List (List Transition)) (ts : List Transition) → PassedStates n states i → slice_get states i ≡ Some ts → Settles n budget r i ts result → result ≡ Ok Clear → PassedStates n states (i + 1)
states_more n budget r i {result} states ts before at_i settles clear = record { each = λ q us below at. each q us at (last q i below) }
  where
    each : (q : ℕ) (us : List Transition) → slice_get states q ≡ Some us → (q < i) ⊎ (q ≡ i) → IsPassed n us
    each q us at (inl less) = before.each q us less at
    each q us at (inr same) = subst (λ (x : List Transition). IsPassed n x) (one_list (sym at_i ∙ ap (slice_get states) (sym same) ∙ at)) (settled_passed n budget r i ts settles clear)

pub states_stop : (n budget r i : ℕ) {result : Result OverlapFound CheckError} (states : List (List Transition)) (ts : List Transition) → PassedStates n states i → slice_get states i ≡ Some ts → Settles n budget r i ts result → ¬ (result ≡ Ok Clear) → Answers n budget r (states ∷ []) result
states_stop n budget r i {result} states ts before at_i settles other = inr (record {
  place = 0;
  number = i;
  transitions = ts;
  reaches = record { at = record { states = states; automaton = refl; state = at_i }; before = earlier };
  decides = subst (λ (x : ℕ). Decides n budget x i ts result) (let e : r ≡ r + 0 = omega arith in e) (settled_decides n budget r i ts settles other);
})
  where
    earlier : (k' q' : ℕ) (us : List Transition) → StandsBefore k' q' 0 i → IsAt (states ∷ []) k' q' us → IsPassed n us
    earlier zero q' us (inl less) a = absurd (omega arith)
    earlier zero q' us (inr same) a = before.each q' us same.1 (let e : states ≡ a.states = one_states a.automaton in ap (λ (x : List (List Transition)). slice_get x q') e ∙ a.state)
      where
        one_states : {xs ys : List (List Transition)} → ◌≡◌ {A = Option (List (List Transition))} (Some xs) (Some ys) → xs ≡ ys
        one_states e = cc
    earlier (suc k') q' us b a = absurd (none k' (slice_get_within [] k' a.states a.automaton))
      where
        none : (k : ℕ) → k < 0 → ⊥
        none k below = absurd (omega arith)

pub states_answer : {n budget r i : ℕ} (states : List (List Transition)) → length states ≤ i → PassedStates n states i → Answers n budget r (states ∷ []) (Ok Clear)
states_answer {n} {budget} {r} {i} states all passed = inl (refl, each)
  where
    each : ArePassed n (states ∷ [])
    each zero q ts a =
        let e : states ≡ a.states = one_states a.automaton in
        let at : slice_get states q ≡ Some ts = ap (λ (x : List (List Transition)). slice_get x q) e ∙ a.state in
        let inside = slice_get_within states q ts at in
        passed.each q ts (omega arith) at
      where
        one_states : {xs ys : List (List Transition)} → ◌≡◌ {A = Option (List (List Transition))} (Some xs) (Some ys) → xs ≡ ys
        one_states e = cc
    each (suc k) q ts a = absurd (none k (slice_get_within [] k a.states a.automaton))
      where
        none : (k : ℕ) → k < 0 → ⊥
        none k below = absurd (omega arith)

-- ---- one state

pub settled : (n budget r q : ℕ) (ts : List Transition) (register : RegId) (found : Option StateOverlap) (answer : OverlapFound) → register.0 ≡ r → Fits n ts → MatchOption found (HasNoOverlap n ts) (λ o. IsLeastOverlap n ts o.first o.second o.set) → MatchOption found (answer ≡ Clear) (λ o. answer ≡ Overlap register q o.first o.second o.set) → Settles n budget r q ts (Ok answer)
settled n budget r q ts register None answer own fits none is = inl (ap Ok is, record { none = none; fits = fits })
settled n budget r q ts register (Some o) answer own fits least is = inr (subst (λ (a : OverlapFound). Decides n budget r q ts (Ok a)) (sym is) (own, refl, fits, least))
