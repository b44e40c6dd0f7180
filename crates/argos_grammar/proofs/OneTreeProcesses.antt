-- A transition, a timeout, a state, a process and a block have at most one tree where the same tokens stand.
use Rattle.std.proofs.Common.{◌≡◌, ℕ, List, [], ◌∷◌, Option, true, false, refl, ap}
use Rattle.std.specs.Prelude.{codes}
use Prim.Native.String.{String}
use Rattle.argos_base.specs.Spelling.{is_one_of, is_name}
use Rattle.argos_tokens.specs.Tokens.{Token}
use Rattle.argos_grammar.specs.Forms.{Mark, GuardForm, TransForm, TimedForm, Head, ProcessForm, automaton, local, freeze, run, BlockForm, no_processes, process, StateForms, no_states, state, BodyForm, plain, refined}
use Rattle.argos_grammar.specs.Runs.{begins_with}
use Rattle.argos_grammar.specs.Grammar as grammar
use Rattle.argos_grammar.specs.Grammar.{Piece, ◌⨾◌, word}
use Rattle.argos_grammar.proofs.FirstWords.{IsClearOf, word_begins, word_clear, two_words, piece_begins}
use Rattle.argos_grammar.proofs.PieceFronts.{names_begin_no, effect_clear, trans_begins, timeout_clear, name_clear}
use Rattle.argos_grammar.proofs.OneTree.{One, Stands, absent, present, one_wider, one_absent, one_present, one_perhaps, one_name, one_count, one_after, one_before, one_braced, one_both, one_as, one_each, one_separated, one_optional, one_ended}
use Rattle.argos_grammar.proofs.OneTreeConditions.{Atoms, one_condition}

-- names, as atoms and in lists
name_atoms : Atoms [] grammar.name
name_atoms = record { one = one_name; front = name_clear; no_and = refl; no_or = refl; no_close = refl }

one_names : (ns : List Mark) → One (codes "," ∷ []) grammar.names ns
one_names ns = one_separated "," [] grammar.name refl one_name ns

-- names perhaps, before a bracket that closes
pub one_enclosed_names : (v : String) → is_one_of (codes "," ∷ []) (codes v) ≡ false → is_name (codes v) ≡ false → (ns : List Mark) → One [] (λ xs. grammar.optional grammar.names xs ⨾ word v) ns
one_enclosed_names v apart other ns = one_ended v (codes "," ∷ []) grammar.names apart (λ xs us vs k. names_begin_no (codes v) xs us vs other k) one_names ns

one_listed : (ns : List Mark) → One [] grammar.listed ns
one_listed ns = one_after "(" (one_enclosed_names ")" refl refl ns)

pub one_emitted : (ns : List Mark) → One (codes "emit" ∷ codes "," ∷ []) grammar.emitted ns
one_emitted ns = one_optional "emit" (codes "," ∷ []) (λ xs. word "emit" ⨾ grammar.names xs) (piece_begins "emit" grammar.names) (λ xs. one_after "emit" (one_names xs)) ns

pub one_interface : (xs ys : List Mark) → One [] (λ (p : List Mark × List Mark). grammar.interface p.0 p.1) (xs, ys)
one_interface xs ys = one_both (one_listed xs) (one_after "->" (one_listed ys)) (λ y ts r h c. tt)

-- effects, transitions and timeouts
one_effect : (outs : List Mark) (target : Mark) → One [] (λ (p : List Mark × Mark). grammar.effect p.0 p.1) (outs, target)
one_effect outs target = one_both (one_emitted outs) (one_after "goto" (one_before ";" refl (one_name target))) (λ y ts r h c. word_clear (codes "emit" ∷ codes "," ∷ []) "goto" ts h.0 refl h.1)

one_trans : (t : TransForm) → One [] grammar.trans t
one_trans t =
    one_as (λ (p : GuardForm × (List Mark × Mark)). let u : TransForm = record { guard = p.0; outs = p.1.0; target = p.1.1 } in u) (λ (u : TransForm). let p : GuardForm × (List Mark × Mark) = (u.guard, (u.outs, u.target)) in p) t
    (one_after "when" (one_both (one_condition name_atoms t.guard) (one_effect t.outs t.target) (λ y ts r h c. effect_clear (codes "or" ∷ codes "and" ∷ []) y.0 y.1 ts r refl refl h)))
    (λ y. refl) (λ y ts r h. h)

one_delay : (n : ℕ) → One [] grammar.delay n
one_delay n = one_after "after" (one_before "of" refl (one_count n))

one_timed : (t : TimedForm) → One [] grammar.timed t
one_timed t =
    one_as (λ (p : ℕ × (Mark × (List Mark × Mark))). let u : TimedForm = record { count = p.0; signal = p.1.0; outs = p.1.1.0; target = p.1.1.1 } in u)
    (λ (u : TimedForm). let p : ℕ × (Mark × (List Mark × Mark)) = (u.count, (u.signal, (u.outs, u.target))) in p) t
    (one_both (one_delay t.count) (one_both (one_name t.signal) (one_effect t.outs t.target) (λ y ts r h c. tt)) (λ y ts r h c. tt))
    (λ y. refl) (λ y ts r h. h)

timed_begins : (t : TimedForm) (ts r : List Token) → grammar.timed t ts r → begins_with (codes "after") ts ≡ true
timed_begins t ts r h = word_begins "after" ts h.1.0 h.1.1

one_timeout : (o : Option TimedForm) → One (codes "after" ∷ codes "when" ∷ []) grammar.timeout o
one_timeout o = one_perhaps "after" timed_begins (λ t. one_wider (one_timed t)) o

one_reactions : (xs : List TransForm) (o : Option TimedForm) → One [] (λ (p : List TransForm × Option TimedForm). grammar.reactions p.0 p.1) (xs, o)
one_reactions xs o = one_braced refl (one_both (one_each "when" [] grammar.trans refl trans_begins one_trans xs) (one_timeout o) (λ t us s k c. timeout_clear t us s k c.1))

-- a state, and others behind it
abbrev state_and_more : (Head × BodyForm) × StateForms → Piece
state_and_more p = grammar.one_state p.0.0 (grammar.body p.0.1) ⨾ grammar.more_states p.1

one_state : (h : Head) (b : BodyForm) → One (codes "body" ∷ []) grammar.body b → One [] (λ (p : Head × BodyForm). grammar.one_state p.0 (grammar.body p.1)) (h, b)
one_state h b bodies =
    one_as (λ (q : Mark × (BodyForm × (List TransForm × Option TimedForm))). let p : Head × BodyForm = (record { name = q.0; trans = q.1.1.0; timed = q.1.1.1 }, q.1.0) in p)
    (λ (p : Head × BodyForm). let q : Mark × (BodyForm × (List TransForm × Option TimedForm)) = (p.0.name, (p.1, (p.0.trans, p.0.timed))) in q) (h, b)
    (one_after "state" (one_both (one_name h.name) (one_both bodies (one_reactions h.trans h.timed) (λ y ts r k c. word_clear (codes "body" ∷ []) "{" ts k.0 refl k.1)) (λ y ts r k c. tt)))
    (λ y. refl) (λ y ts r k. k)

one_state_more : (h : Head) (b : BodyForm) (ss : StateForms) → One (codes "body" ∷ []) grammar.body b → One (codes "state" ∷ []) grammar.more_states ss → One (codes "state" ∷ []) state_and_more ((h, b), ss)
one_state_more h b ss bodies more = one_both (one_state h b bodies) more (λ y ts r k c. tt)

state_begins : (p : (Head × BodyForm) × StateForms) (ts r : List Token) → state_and_more p ts r → begins_with (codes "state") ts ≡ true
state_begins p ts r k = word_begins "state" ts k.1.0 k.1.1

abbrev state_of : (Head × BodyForm) × StateForms → StateForms
state_of p = state p.0.0 p.0.1 p.1

some_states_same : (h : Head) (b : BodyForm) (ss : StateForms) → One (codes "state" ∷ []) state_and_more ((h, b), ss) → (zs : StateForms) (ts us r s : List Token) → ts ≡ us
    → grammar.states (state h b ss) ts r → grammar.states zs us s → IsClearOf (codes "state" ∷ []) r → IsClearOf (codes "state" ∷ []) s → (state h b ss ≡ zs) × (r ≡ s)
some_states_same h b ss one no_states ts us r s e k l c d = absurd l
some_states_same h b ss one (state h' b' zs) ts us r s e k l c d = let p = one.same ((h', b'), zs) ts us r s e k l c d in (ap state_of p.0, p.1)

states_stand : (zs : StateForms) (ts r : List Token) → grammar.more_states zs ts r → Stands state_and_more no_states state_of zs ts r
states_stand no_states ts r k = absent refl k
states_stand (state h b ss) ts r k = present ((h, b), ss) refl k

-- a body, and none
abbrev refinement : BlockForm → Piece
refinement b = grammar.braced (grammar.processes b)

body_stands : (z : BodyForm) (ts r : List Token) → grammar.body z ts r → Stands (λ b. word "body" ⨾ refinement b) plain refined z ts r
body_stands plain ts r h = absent refl h
body_stands (refined b) ts r h = present b refl h

-- a process, and others behind it
abbrev process_and_more : ProcessForm × BlockForm → Piece
process_and_more p = grammar.one_process p.0 ⨾ grammar.more_processes p.1

abbrev block_of : ProcessForm × BlockForm → BlockForm
block_of p = process p.0 p.1

one_process_more : (p : ProcessForm) (b : BlockForm) → One [] grammar.one_process p → One (codes "||" ∷ []) grammar.more_processes b → One (codes "||" ∷ []) process_and_more (p, b)
one_process_more p b one more = one_both one more (λ y ts r k c. tt)

some_processes_same : (p : ProcessForm) (b : BlockForm) → One (codes "||" ∷ []) process_and_more (p, b) → (z : BlockForm) (ts us r s : List Token) → ts ≡ us
    → grammar.processes (process p b) ts r → grammar.processes z us s → IsClearOf (codes "||" ∷ []) r → IsClearOf (codes "||" ∷ []) s → (process p b ≡ z) × (r ≡ s)
some_processes_same p b one no_processes ts us r s e h k c d = absurd k
some_processes_same p b one (process q z) ts us r s e h k c d = let x = one.same (q, z) ts us r s e h k c d in (ap block_of x.0, x.1)

processes_stand : (z : BlockForm) (ts r : List Token) → grammar.more_processes z ts r → Stands (λ p. word "||" ⨾ process_and_more p) no_processes block_of z ts r
processes_stand no_processes ts r h = absent refl h
processes_stand (process p b) ts r h = present (p, b) refl h

-- the first word of a process tells which it is
automaton_same : (i : Mark) (ss : StateForms) → One (codes "state" ∷ []) grammar.states ss → (z : ProcessForm) (ts us r s : List Token) → ts ≡ us → grammar.one_process (automaton i ss) ts r → grammar.one_process z us s
    → (automaton i ss ≡ z) × (r ≡ s)
automaton_same i ss one (automaton j zs) ts us r s e h k =
    let p = (one_after "automaton" (one_braced refl (one_after "init" (one_both (one_name i) (one_after ";" one) (λ y vs w l c. tt))))).same (j, zs) ts us r s e h k tt tt in
    (ap (λ x. automaton x.0 x.1) p.0, p.1)
automaton_same i ss one (local ms z) ts us r s e h k = absurd (two_words "automaton" "local" ts us h.0 k.0 refl e h.1 k.1)
automaton_same i ss one (freeze m z) ts us r s e h k = absurd (two_words "automaton" "freeze" ts us h.0 k.0 refl e h.1 k.1)
automaton_same i ss one (run m xs ys) ts us r s e h k = absurd (two_words "automaton" "run" ts us h.0 k.0 refl e h.1 k.1)

local_same : (ns : List Mark) (b : BlockForm) → One (codes "||" ∷ []) grammar.processes b → (z : ProcessForm) (ts us r s : List Token) → ts ≡ us → grammar.one_process (local ns b) ts r → grammar.one_process z us s
    → (local ns b ≡ z) × (r ≡ s)
local_same ns b one (local ms z) ts us r s e h k =
    let p = (one_after "local" (one_both (one_names ns) (one_after "in" (one_braced refl one)) (λ y vs w l c. word_clear (codes "," ∷ []) "in" vs l.0 refl l.1))).same (ms, z) ts us r s e h k tt tt in
    (ap (λ x. local x.0 x.1) p.0, p.1)
local_same ns b one (automaton j zs) ts us r s e h k = absurd (two_words "local" "automaton" ts us h.0 k.0 refl e h.1 k.1)
local_same ns b one (freeze m z) ts us r s e h k = absurd (two_words "local" "freeze" ts us h.0 k.0 refl e h.1 k.1)
local_same ns b one (run m xs ys) ts us r s e h k = absurd (two_words "local" "run" ts us h.0 k.0 refl e h.1 k.1)

freeze_same : (m : Mark) (b : BlockForm) → One (codes "||" ∷ []) grammar.processes b → (z : ProcessForm) (ts us r s : List Token) → ts ≡ us → grammar.one_process (freeze m b) ts r → grammar.one_process z us s
    → (freeze m b ≡ z) × (r ≡ s)
freeze_same m b one (freeze n z) ts us r s e h k =
    let p = (one_after "freeze" (one_both (one_name m) (one_after "in" (one_braced refl one)) (λ y vs w l c. tt))).same (n, z) ts us r s e h k tt tt in
    (ap (λ x. freeze x.0 x.1) p.0, p.1)
freeze_same m b one (automaton j zs) ts us r s e h k = absurd (two_words "freeze" "automaton" ts us h.0 k.0 refl e h.1 k.1)
freeze_same m b one (local ms z) ts us r s e h k = absurd (two_words "freeze" "local" ts us h.0 k.0 refl e h.1 k.1)
freeze_same m b one (run n xs ys) ts us r s e h k = absurd (two_words "freeze" "run" ts us h.0 k.0 refl e h.1 k.1)

run_same : (m : Mark) (xs ys : List Mark) (z : ProcessForm) (ts us r s : List Token) → ts ≡ us → grammar.one_process (run m xs ys) ts r → grammar.one_process z us s → (run m xs ys ≡ z) × (r ≡ s)
run_same m xs ys (run n xs' ys') ts us r s e h k =
    let p = (one_after "run" (one_both (one_name m) (one_interface xs ys) (λ y vs w l c. tt))).same (n, (xs', ys')) ts us r s e h k tt tt in
    (ap (λ x. run x.0 x.1.0 x.1.1) p.0, p.1)
run_same m xs ys (automaton j zs) ts us r s e h k = absurd (two_words "run" "automaton" ts us h.0 k.0 refl e h.1 k.1)
run_same m xs ys (local ms z) ts us r s e h k = absurd (two_words "run" "local" ts us h.0 k.0 refl e h.1 k.1)
run_same m xs ys (freeze n z) ts us r s e h k = absurd (two_words "run" "freeze" ts us h.0 k.0 refl e h.1 k.1)

-- by induction on the first of two trees
mutual
  one_process : (p : ProcessForm) → One [] grammar.one_process p
  one_process (automaton i ss) = record { same = λ z ts us r s e h k c d. automaton_same i ss (one_states ss) z ts us r s e h k }
  one_process (local ns b) = record { same = λ z ts us r s e h k c d. local_same ns b (one_block b) z ts us r s e h k }
  one_process (freeze m b) = record { same = λ z ts us r s e h k c d. freeze_same m b (one_block b) z ts us r s e h k }
  one_process (run m xs ys) = record { same = λ z ts us r s e h k c d. run_same m xs ys z ts us r s e h k }

  pub one_block : (b : BlockForm) → One (codes "||" ∷ []) grammar.processes b
  one_block no_processes = record { same = λ z ts us r s e h k c d. absurd h }
  one_block (process p b) = record { same = λ z ts us r s e h k c d. some_processes_same p b (one_process_more p b (one_process p) (one_more_block b)) z ts us r s e h k c d }

  one_more_block : (b : BlockForm) → One (codes "||" ∷ []) grammar.more_processes b
  one_more_block no_processes = one_absent "||" (piece_begins "||" process_and_more) processes_stand (λ ts r h. h)
  one_more_block (process p b) = one_present "||" (piece_begins "||" process_and_more) processes_stand (p, b) (λ ts r h. h) (one_after "||" (one_process_more p b (one_process p) (one_more_block b)))

  one_states : (ss : StateForms) → One (codes "state" ∷ []) grammar.states ss
  one_states no_states = record { same = λ z ts us r s e h k c d. absurd h }
  one_states (state h b ss) = record { same = λ z ts us r s e k l c d. some_states_same h b ss (one_state_more h b ss (one_body b) (one_more_states ss)) z ts us r s e k l c d }

  one_more_states : (ss : StateForms) → One (codes "state" ∷ []) grammar.more_states ss
  one_more_states no_states = one_absent "state" state_begins states_stand (λ ts r k. k)
  one_more_states (state h b ss) = one_present "state" state_begins states_stand ((h, b), ss) (λ ts r k. k) (one_state_more h b ss (one_body b) (one_more_states ss))

  one_body : (b : BodyForm) → One (codes "body" ∷ []) grammar.body b
  one_body plain = one_absent "body" (piece_begins "body" refinement) body_stands (λ ts r h. h)
  one_body (refined b) = one_present "body" (piece_begins "body" refinement) body_stands b (λ ts r h. h) (one_wider (one_after "body" (one_braced refl (one_block b))))
