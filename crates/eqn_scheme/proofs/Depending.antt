-- The fires that depend on a signal are those of the signals that depend directly on it.
use Rattle.std.proofs.Common.{◌≡◌, ℕ, zero, suc, ◌+◌, ◌-◌, List, [], ◌∷◌, ◌++◌, Option, Some, None, Bool, true, false, ◌&&◌, ◌||◌, nat_eq, refl, sym, ap, ◌∙◌, ◌⊎◌, inl, inr, subst, slice_get}
use Rattle.argos_base.specs.SignalSets.{lists}
use Rattle.argos_base.proofs.Bools.{true_or_false, and_first, and_second, and_both, or_cases, or_left, or_right}
use Rattle.argos_core.specs.Automata.{Automaton, Parent, counts_of, register_count, registers_within, rules_of, automata_from, automata_of_parts, automata_in, automata_within, automata_of}
use Rattle.argos_core.specs.Guards.{reads}
use Rattle.argos_core.specs.Modules.{Scope, is_emittable, all_emittable, within_locals, AreTransitions, IsTimeout, IsScoped, AreScopedParts, AreScopedStates, IsScopedBody, locals_in, locals_in_parts, locals_in_states, locals_in_body}
use Rattle.argos_core.specs.Overlaps.{some_reads}
use Rattle.argos_core.specs.Process.{Transition, Timeout, Rules, Process, automaton, parallel, local, freeze, Processes, no_processes, process, States, no_states, state, Body, no_body, body, PlainModule}
use Rattle.eqn_scheme.specs.SignalDependence.{Exit, transition_exits, timeout_exits, exits_of, DependsDirectly}
use Rattle.eqn_scheme.specs.Wired.{Fire, fires_emit}
use Rattle.eqn_scheme.proofs.Firing.{emit-append}
use Rattle.eqn_scheme.proofs.Flat.{unlisted}
use Rattle.eqn_scheme.proofs.Listing.{lists-append, lists-left, lists-right}
use Rattle.eqn_scheme.proofs.Supports.{transition_supports, timeout_supports, own_supports, supports, parts_supports, bodies_supports, body_supports}

-- by the list of automata
abbrev list_supports : ℕ → List Automaton → List Fire
list_supports y [] = []
list_supports y (a ∷ xs) = own_supports y (a.stopped_by y) a.states ++ list_supports y xs

fires_assoc : (a b c : List Fire) → (a ++ b) ++ c ≡ a ++ (b ++ c)
fires_assoc [] b c = refl
fires_assoc (x ∷ a) b c = ap (λ (l : List Fire). x ∷ l) (fires_assoc a b c)

list_supports-append : (y : ℕ) (xs ys : List Automaton) → list_supports y (xs ++ ys) ≡ list_supports y xs ++ list_supports y ys
list_supports-append y [] ys = refl
list_supports-append y (a ∷ xs) ys = ap (λ (l : List Fire). own_supports y (a.stopped_by y) a.states ++ l) (list_supports-append y xs ys) ∙ sym (fires_assoc (own_supports y (a.stopped_by y) a.states) (list_supports y xs) (list_supports y ys))

both-fires : (a b c d : List Fire) → a ≡ c → b ≡ d → a ++ b ≡ c ++ d
both-fires a b c d e f = ap (λ (x : List Fire). x ++ b) e ∙ ap (λ (x : List Fire). c ++ x) f

or_swap : (a b : Bool) → (a || b) ≡ (b || a)
or_swap true true = refl
or_swap true false = refl
or_swap false true = refl
or_swap false false = refl

mutual
  process_listed : (p : Process) (y r : ℕ) (up : Option Parent) (by : ℕ → Bool) (stop : Bool) → by y ≡ stop → supports y stop p ≡ list_supports y (automata_from r up by p)
  process_listed (automaton ss q0) y r up by stop e = both-fires _ _ _ _ (ap (λ b. own_supports y b ss) (sym e)) (states_listed ss y (suc r) r 1 by stop e)
  process_listed (parallel ps) y r up by stop e = parts_listed ps y r up by stop e
  process_listed (local list p) y r up by stop e = process_listed p y r up by stop e
  process_listed (freeze s p) y r up by stop e = process_listed p y r up (λ k. nat_eq s k || by k) (stop || nat_eq s y) (or_swap (nat_eq s y) (by y) ∙ ap (λ b. b || nat_eq s y) e)

  parts_listed : (ps : Processes) (y r : ℕ) (up : Option Parent) (by : ℕ → Bool) (stop : Bool) → by y ≡ stop → parts_supports y stop ps ≡ list_supports y (automata_of_parts r up by ps)
  parts_listed no_processes y r up by stop e = refl
  parts_listed (process p ps) y r up by stop e = both-fires _ _ _ _ (process_listed p y r up by stop e) (parts_listed ps y (r + register_count p) up by stop e) ∙ sym (list_supports-append y (automata_from r up by p) (automata_of_parts (r + register_count p) up by ps))

  states_listed : (ss : States) (y r own code : ℕ) (by : ℕ → Bool) (stop : Bool) → by y ≡ stop → bodies_supports y stop ss ≡ list_supports y (automata_in r own code by ss)
  states_listed no_states y r own code by stop e = refl
  states_listed (state s p ss) y r own code by stop e =
      let up : Parent = record { register = own; first = code; last = code + counts_of s.timeout - 1 } in
      both-fires _ _ _ _ (body_listed p y r up by stop e) (states_listed ss y (r + registers_within p) own (code + counts_of s.timeout) by stop e) ∙ sym (list_supports-append y (automata_within r up by p) (automata_in (r + registers_within p) own (code + counts_of s.timeout) by ss))

  body_listed : (p : Body) (y r : ℕ) (up : Parent) (by : ℕ → Bool) (stop : Bool) → by y ≡ stop → body_supports y stop p ≡ list_supports y (automata_within r up by p)
  body_listed no_body y r up by stop e = refl
  body_listed (body p) y r up by stop e = process_listed p y r (Some up) by stop e

-- ways out that emit x and depend on y
record Way (es : List Exit) (x y : ℕ) (stop : Bool) : Type 0 where
  place : ℕ
  exit : Exit
  at_place : slice_get es place ≡ Some exit
  emits : lists exit.outs x ≡ true
  decided : (exit.reads y || stop) ≡ true

way_left : (es fs : List Exit) (x y : ℕ) (stop : Bool) → Way es x y stop → Way (es ++ fs) x y stop
way_left es fs x y stop w = record { place = w.place; exit = w.exit; at_place = get_left es fs w.place w.exit w.at_place; emits = w.emits; decided = w.decided }
  where
    get_left : (es fs : List Exit) (k : ℕ) (e : Exit) → slice_get es k ≡ Some e → slice_get (es ++ fs) k ≡ Some e
    get_left [] fs k e h = cc
    get_left (x ∷ es) fs zero e h = h
    get_left (x ∷ es) fs (suc k) e h = get_left es fs k e h

way_right : (es fs : List Exit) (x y : ℕ) (stop : Bool) → Way fs x y stop → Way (es ++ fs) x y stop
way_right [] fs x y stop w = w
way_right (e ∷ es) fs x y stop w = let r = way_right es fs x y stop w in record { place = suc r.place; exit = r.exit; at_place = r.at_place; emits = r.emits; decided = r.decided }

way_which : (es fs : List Exit) (x y : ℕ) (stop : Bool) → Way (es ++ fs) x y stop → Way es x y stop ⊎ Way fs x y stop
way_which es fs x y stop w = split es w.place w.at_place
  where
    split : (es : List Exit) (k : ℕ) → slice_get (es ++ fs) k ≡ Some w.exit → Way es x y stop ⊎ Way fs x y stop
    split [] k h = inr (record { place = k; exit = w.exit; at_place = h; emits = w.emits; decided = w.decided })
    split (e ∷ es) zero h = inl (record { place = 0; exit = w.exit; at_place = h; emits = w.emits; decided = w.decided })
    split (e ∷ es) (suc k) h = elim (split es k h) [
      | inl v ↦ inl (record { place = suc v.place; exit = v.exit; at_place = v.at_place; emits = v.emits; decided = v.decided })
      | inr v ↦ inr v
    ]

transition_way : (ts : List Transition) (x y : ℕ) (stop : Bool) → fires_emit (transition_supports y stop ts) x ≡ true → Way (transition_exits ts) x y stop
transition_way [] x y stop h = cc
transition_way (t ∷ ts) x y stop h = elim (or_cases ((stop || reads t.guard y) && lists t.outs x) (fires_emit (transition_supports y stop ts) x) h) [
  | inl a ↦ record { place = 0; exit = record { outs = t.outs; reads = reads t.guard }; at_place = refl; emits = and_second (stop || reads t.guard y) (lists t.outs x) a; decided = or_swap (reads t.guard y) stop ∙ and_first (stop || reads t.guard y) (lists t.outs x) a }
  | inr a ↦ let w = transition_way ts x y stop a in record { place = suc w.place; exit = w.exit; at_place = w.at_place; emits = w.emits; decided = w.decided }
]

way_transition : (ts : List Transition) (x y : ℕ) (stop : Bool) → Way (transition_exits ts) x y stop → fires_emit (transition_supports y stop ts) x ≡ true
way_transition ts x y stop w = go ts w.place w.at_place
  where
    go : (ts : List Transition) (k : ℕ) → slice_get (transition_exits ts) k ≡ Some w.exit → fires_emit (transition_supports y stop ts) x ≡ true
    go [] k h = cc
    go (t ∷ ts) zero h =
        let same : record { outs = t.outs; reads = reads t.guard } ≡ w.exit = cc in
        or_left ((stop || reads t.guard y) && lists t.outs x) (fires_emit (transition_supports y stop ts) x)
        (and_both (stop || reads t.guard y) (lists t.outs x) (or_swap stop (reads t.guard y) ∙ ap (λ (e : Exit). e.reads y || stop) same ∙ w.decided) (ap (λ (e : Exit). lists e.outs x) same ∙ w.emits))
    go (t ∷ ts) (suc k) h = or_right ((stop || reads t.guard y) && lists t.outs x) (fires_emit (transition_supports y stop ts) x) (go ts k h)

joined : (a b c : Bool) → ((a || b) || c) ≡ ((b || c) || a)
joined true true c = refl
joined true false true = refl
joined true false false = refl
joined false b c = or_false_end (b || c)
  where
    or_false_end : (a : Bool) → a ≡ (a || false)
    or_false_end true = refl
    or_false_end false = refl

timeout_way : (t : Option Timeout) (ts : List Transition) (x y : ℕ) (stop : Bool) → fires_emit (timeout_supports y stop ts t) x ≡ true → Way (timeout_exits ts t) x y stop
timeout_way None ts x y stop h = cc
timeout_way (Some t) ts x y stop h = elim (or_cases (((stop || some_reads ts y) || nat_eq t.signal y) && lists t.outs x) false h) [
  | inl a ↦ record { place = 0; exit = record { outs = t.outs; reads = λ k. some_reads ts k || nat_eq t.signal k }; at_place = refl; emits = and_second ((stop || some_reads ts y) || nat_eq t.signal y) (lists t.outs x) a; decided = sym (joined stop (some_reads ts y) (nat_eq t.signal y)) ∙ and_first ((stop || some_reads ts y) || nat_eq t.signal y) (lists t.outs x) a }
  | inr a ↦ cc
]

way_timeout : (t : Option Timeout) (ts : List Transition) (x y : ℕ) (stop : Bool) → Way (timeout_exits ts t) x y stop → fires_emit (timeout_supports y stop ts t) x ≡ true
way_timeout None ts x y stop w = let h = w.at_place in cc
way_timeout (Some t) ts x y stop w = go w.place w.at_place
  where
    go : (k : ℕ) → slice_get (timeout_exits ts (Some t)) k ≡ Some w.exit → fires_emit (timeout_supports y stop ts (Some t)) x ≡ true
    go zero h =
        let same : record { outs = t.outs; reads = λ j. some_reads ts j || nat_eq t.signal j } ≡ w.exit = cc in
        or_left (((stop || some_reads ts y) || nat_eq t.signal y) && lists t.outs x) false
        (and_both ((stop || some_reads ts y) || nat_eq t.signal y) (lists t.outs x) (joined stop (some_reads ts y) (nat_eq t.signal y) ∙ ap (λ (e : Exit). e.reads y || stop) same ∙ w.decided) (ap (λ (e : Exit). lists e.outs x) same ∙ w.emits))
    go (suc k) h = cc

state_way : (s : Rules) (x y : ℕ) (stop : Bool) → fires_emit (transition_supports y stop s.transitions ++ timeout_supports y stop s.transitions s.timeout) x ≡ true → Way (exits_of s) x y stop
state_way s x y stop h = elim (or_cases (fires_emit (transition_supports y stop s.transitions) x) (fires_emit (timeout_supports y stop s.transitions s.timeout) x) (sym (emit-append (transition_supports y stop s.transitions) (timeout_supports y stop s.transitions s.timeout) x) ∙ h)) [
  | inl a ↦ way_left (transition_exits s.transitions) (timeout_exits s.transitions s.timeout) x y stop (transition_way s.transitions x y stop a)
  | inr a ↦ way_right (transition_exits s.transitions) (timeout_exits s.transitions s.timeout) x y stop (timeout_way s.timeout s.transitions x y stop a)
]

way_state : (s : Rules) (x y : ℕ) (stop : Bool) → Way (exits_of s) x y stop → fires_emit (transition_supports y stop s.transitions ++ timeout_supports y stop s.transitions s.timeout) x ≡ true
way_state s x y stop w = emit-append (transition_supports y stop s.transitions) (timeout_supports y stop s.transitions s.timeout) x ∙ elim (way_which (transition_exits s.transitions) (timeout_exits s.transitions s.timeout) x y stop w) [
  | inl a ↦ or_left (fires_emit (transition_supports y stop s.transitions) x) (fires_emit (timeout_supports y stop s.transitions s.timeout) x) (way_transition s.transitions x y stop a)
  | inr a ↦ or_right (fires_emit (transition_supports y stop s.transitions) x) (fires_emit (timeout_supports y stop s.transitions s.timeout) x) (way_timeout s.timeout s.transitions x y stop a)
]

-- in which state, and in which automaton
record StateWay (ss : States) (x y : ℕ) (stop : Bool) : Type 0 where
  place : ℕ
  rules : Rules
  at_place : slice_get (rules_of ss) place ≡ Some rules
  way : Way (exits_of rules) x y stop

own_way : (ss : States) (x y : ℕ) (stop : Bool) → fires_emit (own_supports y stop ss) x ≡ true → StateWay ss x y stop
own_way no_states x y stop h = cc
own_way (state s p ss) x y stop h =
    let here = transition_supports y stop s.transitions ++ timeout_supports y stop s.transitions s.timeout in
    elim (or_cases (fires_emit here x) (fires_emit (own_supports y stop ss) x) (sym (emit-append here (own_supports y stop ss) x) ∙ h)) [
      | inl a ↦ record { place = 0; rules = s; at_place = refl; way = state_way s x y stop a }
      | inr a ↦ let w = own_way ss x y stop a in record { place = suc w.place; rules = w.rules; at_place = w.at_place; way = w.way }
    ]

way_own : (ss : States) (x y : ℕ) (stop : Bool) (k : ℕ) (r : Rules) → slice_get (rules_of ss) k ≡ Some r → Way (exits_of r) x y stop → fires_emit (own_supports y stop ss) x ≡ true
way_own no_states x y stop k r h w = cc
way_own (state s p ss) x y stop zero r h w =
    let same : s ≡ r = cc in
    let here = transition_supports y stop s.transitions ++ timeout_supports y stop s.transitions s.timeout in
    emit-append here (own_supports y stop ss) x ∙ or_left (fires_emit here x) (fires_emit (own_supports y stop ss) x) (way_state s x y stop (subst (λ (z : Rules). Way (exits_of z) x y stop) (sym same) w))
way_own (state s p ss) x y stop (suc k) r h w =
    let here = transition_supports y stop s.transitions ++ timeout_supports y stop s.transitions s.timeout in
    emit-append here (own_supports y stop ss) x ∙ or_right (fires_emit here x) (fires_emit (own_supports y stop ss) x) (way_own ss x y stop k r h w)

record ListWay (xs : List Automaton) (x y : ℕ) : Type 0 where
  place : ℕ
  automaton_there : Automaton
  at_place : slice_get xs place ≡ Some automaton_there
  way : StateWay automaton_there.states x y (automaton_there.stopped_by y)

list_way : (xs : List Automaton) (x y : ℕ) → fires_emit (list_supports y xs) x ≡ true → ListWay xs x y
list_way [] x y h = cc
list_way (a ∷ xs) x y h = elim (or_cases (fires_emit (own_supports y (a.stopped_by y) a.states) x) (fires_emit (list_supports y xs) x) (sym (emit-append (own_supports y (a.stopped_by y) a.states) (list_supports y xs) x) ∙ h)) [
  | inl b ↦ record { place = 0; automaton_there = a; at_place = refl; way = own_way a.states x y (a.stopped_by y) b }
  | inr b ↦ let w = list_way xs x y b in record { place = suc w.place; automaton_there = w.automaton_there; at_place = w.at_place; way = w.way }
]

way_list : (xs : List Automaton) (x y k : ℕ) (a : Automaton) → slice_get xs k ≡ Some a → fires_emit (own_supports y (a.stopped_by y) a.states) x ≡ true → fires_emit (list_supports y xs) x ≡ true
way_list [] x y k a h e = cc
way_list (b ∷ xs) x y zero a h e =
    let same : b ≡ a = cc in
    emit-append (own_supports y (b.stopped_by y) b.states) (list_supports y xs) x ∙ or_left (fires_emit (own_supports y (b.stopped_by y) b.states) x) (fires_emit (list_supports y xs) x) (ap (λ (z : Automaton). fires_emit (own_supports y (z.stopped_by y) z.states) x) same ∙ e)
way_list (b ∷ xs) x y (suc k) a h e =
    emit-append (own_supports y (b.stopped_by y) b.states) (list_supports y xs) x ∙ or_right (fires_emit (own_supports y (b.stopped_by y) b.states) x) (fires_emit (list_supports y xs) x) (way_list xs x y k a h e)

pub supports_depend : (P : PlainModule) (x y : ℕ) → fires_emit (supports y false P.process) x ≡ true → DependsDirectly P x y
supports_depend P x y h =
    let w = list_way (automata_of P.process) x y (ap (λ (l : List Fire). fires_emit l x) (sym (process_listed P.process y 0 None (λ k. false) false refl)) ∙ h) in
    record {
      register = w.place;
      state = w.way.place;
      rules = w.way.rules;
      state_is = record { automaton = w.automaton_there; register = w.at_place; state = w.way.at_place };
      place = w.way.way.place;
      exit = w.way.way.exit;
      exit_at = w.way.way.at_place;
      emits = w.way.way.emits;
      decided = w.way.way.decided;
    }

pub depend_supports : (P : PlainModule) (x y : ℕ) → DependsDirectly P x y → fires_emit (supports y false P.process) x ≡ true
depend_supports P x y d =
    ap (λ (l : List Fire). fires_emit l x) (process_listed P.process y 0 None (λ k. false) false refl)
    ∙ way_list (automata_of P.process) x y d.register d.state_is.automaton d.state_is.register
    (way_own d.state_is.automaton.states x y (d.state_is.automaton.stopped_by y) d.state d.rules d.state_is.state (record { place = d.place; exit = d.exit; at_place = d.exit_at; emits = d.emits; decided = d.decided }))

-- what is emitted is emittable, or a local
module _ (x y : ℕ) where
  abbrev MayBe : Scope → List ℕ → Type 0
  MayBe s list = (is_emittable s x ≡ true) ⊎ (lists list x ≡ true)

  out_emittable : (s : Scope) (outs : List ℕ) (b : Bool) → all_emittable s outs ≡ true → (b && lists outs x) ≡ true → is_emittable s x ≡ true
  out_emittable s outs b h e = elim (true_or_false (is_emittable s x)) [
    | inl a ↦ a
    | inr a ↦ let none : lists outs x ≡ false = unlisted s outs x h a in let some : lists outs x ≡ true = and_second b (lists outs x) e in cc
  ]

  transitions_emittable : (ts : List Transition) (s : Scope) (stop : Bool) → AreTransitions s ts → fires_emit (transition_supports y stop ts) x ≡ true → is_emittable s x ≡ true
  transitions_emittable [] s stop h e = cc
  transitions_emittable (t ∷ ts) s stop h e = elim (or_cases ((stop || reads t.guard y) && lists t.outs x) (fires_emit (transition_supports y stop ts) x) e) [
    | inl a ↦ out_emittable s t.outs (stop || reads t.guard y) h.1 a
    | inr a ↦ transitions_emittable ts s stop h.2 a
  ]

  timeout_emittable : (w : Option Timeout) (ts : List Transition) (s : Scope) (stop : Bool) → IsTimeout s w → fires_emit (timeout_supports y stop ts w) x ≡ true → is_emittable s x ≡ true
  timeout_emittable None ts s stop h e = cc
  timeout_emittable (Some w) ts s stop h e = elim (or_cases (((stop || some_reads ts y) || nat_eq w.signal y) && lists w.outs x) false e) [
    | inl a ↦ out_emittable s w.outs ((stop || some_reads ts y) || nat_eq w.signal y) h.1 a
    | inr a ↦ cc
  ]

  own_emittable : (ss : States) (s : Scope) (stop : Bool) → AreScopedStates s ss → fires_emit (own_supports y stop ss) x ≡ true → is_emittable s x ≡ true
  own_emittable no_states s stop h e = cc
  own_emittable (state r p ss) s stop h e =
      let ts = transition_supports y stop r.transitions in
      let w = timeout_supports y stop r.transitions r.timeout in
      elim (or_cases (fires_emit (ts ++ w) x) (fires_emit (own_supports y stop ss) x) (sym (emit-append (ts ++ w) (own_supports y stop ss) x) ∙ e)) [
        | inl a ↦ elim (or_cases (fires_emit ts x) (fires_emit w x) (sym (emit-append ts w x) ∙ a)) [
          | inl b ↦ transitions_emittable r.transitions s stop h.0 b
          | inr b ↦ timeout_emittable r.timeout r.transitions s stop h.1 b
        ]
        | inr a ↦ own_emittable ss s stop h.3 a
      ]

  within_emittable : (s : Scope) (list locals : List ℕ) → MayBe (within_locals s list) locals → MayBe s (list ++ locals)
  within_emittable s list locals (inr l) = inr (lists-right list locals x l)
  within_emittable s list locals (inl l) = elim (true_or_false (lists list x)) [
    | inl a ↦ inr (lists-left list locals x a)
    | inr a ↦ inl (sym (same a) ∙ l)
  ]
    where
      same : lists list x ≡ false → is_emittable (within_locals s list) x ≡ is_emittable s x
      same a = rw (lists-append list s.locals x, a) refl

  mutual
    pub process_emittable : (p : Process) (s : Scope) (stop : Bool) → IsScoped s p → fires_emit (supports y stop p) x ≡ true → MayBe s (locals_in p)
    process_emittable (automaton ss q0) s stop h e = elim (or_cases (fires_emit (own_supports y stop ss) x) (fires_emit (bodies_supports y stop ss) x) (sym (emit-append (own_supports y stop ss) (bodies_supports y stop ss) x) ∙ e)) [
      | inl a ↦ inl (own_emittable ss s stop h.1 a)
      | inr a ↦ bodies_emittable ss s stop h.1 a
    ]
    process_emittable (parallel ps) s stop h e = parts_emittable ps s stop h e
    process_emittable (local list p) s stop h e = within_emittable s list (locals_in p) (process_emittable p (within_locals s list) stop h e)
    process_emittable (freeze w p) s stop h e = process_emittable p s (stop || nat_eq w y) h.1 e

    parts_emittable : (ps : Processes) (s : Scope) (stop : Bool) → AreScopedParts s ps → fires_emit (parts_supports y stop ps) x ≡ true → MayBe s (locals_in_parts ps)
    parts_emittable no_processes s stop h e = cc
    parts_emittable (process p ps) s stop h e = elim (or_cases (fires_emit (supports y stop p) x) (fires_emit (parts_supports y stop ps) x) (sym (emit-append (supports y stop p) (parts_supports y stop ps) x) ∙ e)) [
      | inl a ↦ elim (process_emittable p s stop h.0 a) [ inl b ↦ inl b | inr b ↦ inr (lists-left (locals_in p) (locals_in_parts ps) x b) ]
      | inr a ↦ elim (parts_emittable ps s stop h.1 a) [ inl b ↦ inl b | inr b ↦ inr (lists-right (locals_in p) (locals_in_parts ps) x b) ]
    ]

    bodies_emittable : (ss : States) (s : Scope) (stop : Bool) → AreScopedStates s ss → fires_emit (bodies_supports y stop ss) x ≡ true → MayBe s (locals_in_states ss)
    bodies_emittable no_states s stop h e = cc
    bodies_emittable (state r p ss) s stop h e = elim (or_cases (fires_emit (body_supports y stop p) x) (fires_emit (bodies_supports y stop ss) x) (sym (emit-append (body_supports y stop p) (bodies_supports y stop ss) x) ∙ e)) [
      | inl a ↦ elim (body_emittable p s stop h.2 a) [ inl b ↦ inl b | inr b ↦ inr (lists-left (locals_in_body p) (locals_in_states ss) x b) ]
      | inr a ↦ elim (bodies_emittable ss s stop h.3 a) [ inl b ↦ inl b | inr b ↦ inr (lists-right (locals_in_body p) (locals_in_states ss) x b) ]
    ]

    body_emittable : (p : Body) (s : Scope) (stop : Bool) → IsScopedBody s p → fires_emit (body_supports y stop p) x ≡ true → MayBe s (locals_in_body p)
    body_emittable no_body s stop h e = cc
    body_emittable (body p) s stop h e = process_emittable p s stop h e
