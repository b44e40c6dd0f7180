-- Programs, aspects and certificates are read off the tokens that follow their rules.
use Rattle.std.proofs.Common.{ℕ, zero, suc, List, ◌∷◌, Some, None, true, false, inl, inr}
use Rattle.argos_tokens.specs.Tokens.{Token}
use Rattle.argos_grammar.specs.Forms as forms
use Rattle.argos_grammar.specs.Forms.{Mark, TransForm, TimedForm, Head, ProcessForm, automaton, local, freeze, run, BlockForm, no_processes, StateForms, no_states, BodyForm, plain, refined, ComponentForm, ProgramForm, AspectForm, CertForm}
use Rattle.argos_grammar.specs.Grammar as grammar
use Rattle.argos_grammar.specs.Grammar.{Piece, ◌⨾◌, word, each}
use Rattle.argos_grammar.specs.DueSymbols.{Rule, option}
use Rattle.argos_grammar.specs.DueSymbols as symbols
use Rattle.argos_first_faults.proofs.Derivations.{Times, times_up, One, Inside}
use Rattle.argos_first_faults.proofs.Conditions.{Found, SomeFound, led, repeated, optional_found, names_tree, perhaps_names, emitted_tree, guard_tree, formula_tree}

-- transitions and timeouts
trans_tree : (n : ℕ) (ts rest : List Token) → Inside n symbols.trans ts rest → Found grammar.trans ts rest
trans_tree zero ts rest h = absurd h
trans_tree (suc n) ts rest (inl (a, when_word, (b, g, (c, o, (d, goto_word, (f, m, (i, semicolon, e))))))) =
    let guard = guard_tree n a b g in
    let outs = emitted_tree n b c o in
    let t : TransForm = record { guard = guard.0; outs = outs.0; target = m.0 } in
    (t, (a, when_word, (b, guard.1, (c, outs.1, (d, goto_word, (f, m.1, led (word ";") e semicolon))))))
trans_tree (suc n) ts rest (inr h) = absurd h

timeout_tree : (n : ℕ) (ts rest : List Token) → One (Inside n) (option symbols.timeout) ts rest → Found grammar.timeout ts rest
timeout_tree n ts rest (inl e) = (None, e)
timeout_tree zero ts rest (inr h) = absurd h
timeout_tree (suc n) ts rest (inr (inl (a, after_word, (b, k, (c, of_word, (d, s, (f, o, (g, goto_word, (i, m, (j, semicolon, e)))))))))) =
    let outs = emitted_tree n d f o in
    let t : TimedForm = record { count = k.0; signal = s.0; outs = outs.0; target = m.0 } in
    (Some t, (c, (a, after_word, (b, k.1, of_word)), (d, s.1, (f, outs.1, (g, goto_word, (i, m.1, led (word ";") e semicolon))))))
timeout_tree (suc n) ts rest (inr (inr h)) = absurd h

-- a process that isn't the first, and a state with its body
abbrev next_process : ProcessForm → Piece
next_process p = word "||" ⨾ grammar.one_process p

pub record Whole : Type 0 where
  pub head : Head
  pub body : BodyForm

abbrev whole_state : Whole → Piece
whole_state x = grammar.one_state x.head (grammar.body x.body)

more_processes : (k : ℕ) (ts rest : List Token) → Times k (Found next_process) ts rest → Found grammar.more_processes ts rest
more_processes zero ts rest e = (no_processes, e)
more_processes (suc k) ts rest (a, x, more) = let r = more_processes k a rest more in (forms.process x.0 r.0, (x.1.0, x.1.1, (a, x.1.2, r.1)))

more_states : (k : ℕ) (ts rest : List Token) → Times k (Found whole_state) ts rest → Found grammar.more_states ts rest
more_states zero ts rest e = (no_states, e)
more_states (suc k) ts rest (a, x, more) = let r = more_states k a rest more in (forms.state x.0.head x.0.body r.0, (a, x.1, r.1))

mutual
  process_tree : (n : ℕ) (ts rest : List Token) → Inside n symbols.process ts rest → Found grammar.one_process ts rest
  process_tree zero ts rest h = absurd h
  process_tree (suc n) ts rest (inl (a, automaton_word, (b, brace, (c, init_word, (d, m, (f, semicolon, (g, s, (i, more, (j, close, e))))))))) =
      let first = state_tree n f g s in
      let others = more_states more.0 g i (times_up (Inside n symbols.state) (Found whole_state) (λ us vs h. state_tree n us vs h) more.0 g i more.1) in
      (automaton m.0 (forms.state first.0.head first.0.body others.0), (a, automaton_word, (b, brace, (i, (c, init_word, (d, m.1, (f, semicolon, (g, first.1, others.1)))), led (word "}") e close))))
  process_tree (suc n) ts rest (inr (inl (a, local_word, (b, ns, (c, in_word, (d, bl, e)))))) =
      let names = names_tree n a b ns in
      let block = block_tree n c d bl in
      (local (names.0 ∷ names.1) block.0, (a, local_word, (b, names.2, (c, in_word, led (grammar.braced (grammar.processes block.0)) e block.1))))
  process_tree (suc n) ts rest (inr (inr (inl (a, freeze_word, (b, m, (c, in_word, (d, bl, e))))))) =
      let block = block_tree n c d bl in
      (freeze m.0 block.0, (a, freeze_word, (b, m.1, (c, in_word, led (grammar.braced (grammar.processes block.0)) e block.1))))
  process_tree (suc n) ts rest (inr (inr (inr (inl (a, run_word, (b, m, (c, o, (d, xs, (f, close, (g, arrow, (i, p, (j, ys, (l, last, e))))))))))))) =
      let inputs = perhaps_names n c d xs in
      let outputs = perhaps_names n i j ys in
      (run m.0 inputs.0 outputs.0, (a, run_word, (b, m.1, (f, (c, o, (d, inputs.1, close)), (g, arrow, (i, p, (j, outputs.1, led (word ")") e last)))))))
  process_tree (suc n) ts rest (inr (inr (inr (inr h)))) = absurd h

  another_process_tree : (n : ℕ) (ts rest : List Token) → Inside n symbols.another_process ts rest → Found next_process ts rest
  another_process_tree zero ts rest h = absurd h
  another_process_tree (suc n) ts rest (inl (a, bars, (b, p, e))) = let r = process_tree n a b p in (r.0, (a, bars, led (grammar.one_process r.0) e r.1))
  another_process_tree (suc n) ts rest (inr h) = absurd h

  block_tree : (n : ℕ) (ts rest : List Token) → Inside n symbols.block ts rest → Found (λ b. grammar.braced (grammar.processes b)) ts rest
  block_tree zero ts rest h = absurd h
  block_tree (suc n) ts rest (inl (a, brace, (b, p, (c, more, (d, close, e))))) =
      let first = process_tree n a b p in
      let others = more_processes more.0 b c (times_up (Inside n symbols.another_process) (Found next_process) (λ us vs h. another_process_tree n us vs h) more.0 b c more.1) in
      (forms.process first.0 others.0, (a, brace, (c, (b, first.1, others.1), led (word "}") e close)))
  block_tree (suc n) ts rest (inr h) = absurd h

  state_tree : (n : ℕ) (ts rest : List Token) → Inside n symbols.state ts rest → Found whole_state ts rest
  state_tree zero ts rest h = absurd h
  state_tree (suc n) ts rest (inl (a, state_word, (b, m, (c, x, (d, brace, (f, xs, (g, t, (i, close, e)))))))) =
      let body = body_tree n b c x in
      let trans = repeated grammar.trans symbols.trans n xs.0 d f (trans_tree n) xs.1 in
      let timed = timeout_tree n f g t in
      let w : Whole = record { head = record { name = m.0; trans = trans.0; timed = timed.0 }; body = body.0 } in
      (w, (a, state_word, (b, m.1, (c, body.1, (d, brace, (g, (f, trans.1, timed.1), led (word "}") e close))))))
  state_tree (suc n) ts rest (inr h) = absurd h

  body_tree : (n : ℕ) (ts rest : List Token) → One (Inside n) (option symbols.body) ts rest → Found grammar.body ts rest
  body_tree n ts rest (inl e) = (plain, e)
  body_tree zero ts rest (inr h) = absurd h
  body_tree (suc n) ts rest (inr (inl (a, body_word, (b, bl, e)))) =
      let block = block_tree n a b bl in (refined block.0, (a, body_word, led (grammar.braced (grammar.processes block.0)) e block.1))
  body_tree (suc n) ts rest (inr (inr h)) = absurd h

-- components
component_tree : (n : ℕ) (ts rest : List Token) → Inside n symbols.component ts rest → Found grammar.component ts rest
component_tree zero ts rest h = absurd h
component_tree (suc n) ts rest (inl (a, component_word, (b, m, (c, o, (d, xs, (f, close, (g, arrow, (i, p, (j, ys, (l, last, (q, bl, e))))))))))) =
    let inputs = perhaps_names n c d xs in
    let outputs = perhaps_names n i j ys in
    let block = block_tree n l q bl in
    let x : ComponentForm = record { name = m.0; inputs = inputs.0; outputs = outputs.0; block = block.0 } in
    (x, (a, component_word, (b, m.1, (l, (f, (c, o, (d, inputs.1, close)), (g, arrow, (i, p, (j, outputs.1, last)))), led (grammar.braced (grammar.processes block.0)) e block.1))))
component_tree (suc n) ts rest (inr h) = absurd h

-- a component and more
components_tree : (n : ℕ) (ts a rest : List Token) → Inside n symbols.component ts a → (k : ℕ) → Times k (Inside n symbols.component) a rest → Found grammar.components ts rest
components_tree n ts a rest c k more =
    let first = component_tree n ts a c in
    let others = repeated grammar.component symbols.component n k a rest (component_tree n) more in
    (first.0 ∷ others.0, (a, first.1, others.1))

-- programs
pub program_tree : (n : ℕ) (ts rest : List Token) → Inside n symbols.program ts rest → Found grammar.program ts rest
program_tree zero ts rest h = absurd h
program_tree (suc n) ts rest (inl (a, argos_word, (b, v, (c, semicolon, (d, x, (f, more, e)))))) =
    let components = components_tree n c d f x more.0 more.1 in
    let p : ProgramForm = record { version = v.0; components = components.0 } in
    (p, (a, argos_word, (b, v.1, (c, semicolon, led (grammar.components components.0) e components.1))))
program_tree (suc n) ts rest (inr h) = absurd h

-- aspects
onset_tree : (n : ℕ) (ts rest : List Token) → Inside n symbols.onset ts rest → Found grammar.onset ts rest
onset_tree zero ts rest h = absurd h
onset_tree (suc n) ts rest (inl (a, init, e)) = (false, led (word "toInit") e init)
onset_tree (suc n) ts rest (inr (inl (a, current, e))) = (true, led (word "toCurrent") e current)
onset_tree (suc n) ts rest (inr (inr h)) = absurd h

set_tree : (n : ℕ) (ts rest : List Token) → Inside n symbols.set ts rest → Found grammar.set ts rest
set_tree zero ts rest h = absurd h
set_tree (suc n) ts rest (inl (a, brace, (b, ns, (c, close, e)))) = let r = perhaps_names n a b ns in (r.0, (a, brace, (b, r.1, led (word "}") e close)))
set_tree (suc n) ts rest (inr h) = absurd h

abbrev next_set : List Mark → Piece
next_set ns = word "," ⨾ grammar.set ns

another_set_tree : (n : ℕ) (ts rest : List Token) → Inside n symbols.another_set ts rest → Found next_set ts rest
another_set_tree zero ts rest h = absurd h
another_set_tree (suc n) ts rest (inl (a, comma, (b, s, e))) = let r = set_tree n a b s in (r.0, (a, comma, led (grammar.set r.0) e r.1))
another_set_tree (suc n) ts rest (inr h) = absurd h

sets_tree : (n : ℕ) (ts rest : List Token) → Inside n symbols.sets ts rest → SomeFound grammar.sets ts rest
sets_tree zero ts rest h = absurd h
sets_tree (suc n) ts rest (inl (a, s, (b, more, e))) =
    let first = set_tree n ts a s in
    let others = repeated next_set symbols.another_set n more.0 a b (another_set_tree n) more.1 in
    (first.0, others.0, (a, first.1, led (each next_set others.0) e others.1))
sets_tree (suc n) ts rest (inr h) = absurd h

pub aspect_tree : (n : ℕ) (ts rest : List Token) → Inside n symbols.aspect ts rest → Found grammar.aspect ts rest
aspect_tree zero ts rest h = absurd h
aspect_tree (suc n) ts rest (inl (a, larissa_word, (b, v, (c, semicolon, (d, x, (f, more, (g, advice_word, (i, o, (j, s, (l, bracket, (q, ss, (u, close, (z, last, e))))))))))))) =
    let components = components_tree n c d f x more.0 more.1 in
    let outs = emitted_tree n g i o in
    let onset = onset_tree n i j s in
    let sets = optional_found grammar.sets symbols.sets n l q (sets_tree n) ss in
    let t : AspectForm = record { version = v.0; components = components.0; outs = outs.0; current = onset.0; trace = sets.0 } in
    (t, (f, (a, larissa_word, (b, v.1, (c, semicolon, components.1))), (j, (g, advice_word, (i, outs.1, onset.1)), (l, bracket, (q, sets.1, (u, close, led (word ";") e last))))))
aspect_tree (suc n) ts rest (inr h) = absurd h

-- certificates
pub cert_tree : (n : ℕ) (ts rest : List Token) → Inside n symbols.cert ts rest → Found grammar.cert ts rest
cert_tree zero ts rest h = absurd h
cert_tree (suc n) ts rest (inl (a, bisim_word, (b, v, (c, semicolon, (d, relation_word, (f, x, (g, last, e))))))) =
    let r = formula_tree n d f x in
    let t : CertForm = record { version = v.0; formula = r.0 } in
    (t, (a, bisim_word, (b, v.1, (c, semicolon, (d, relation_word, (f, r.1, led (word ";") e last))))))
cert_tree (suc n) ts rest (inr h) = absurd h
