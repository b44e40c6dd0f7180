-- Transitions, states and processes, as they are printed.
use Rattle.std.proofs.Common.{◌≡◌, [], ◌∷◌, ◌++◌, refl, sym, ap, ◌∙◌, append_assoc, append-nil}
use Rattle.std.specs.Prelude.{codes, flat_map, option_map, Option, Some, None}
use Rattle.argos_grammar.specs.Forms.{TransForm, TimedForm, Head, ProcessForm, automaton, local, freeze, run, BlockForm, no_processes, process, StateForms, no_states, state, BodyForm, plain, refined}
use Rattle.argos_grammar.specs.Grammar.{◌⨾◌, name, trans, timeout, one_state, one_process, processes, more_processes, states, more_states, body}
use Rattle.argos_grammar.specs.Printed.{Words, w, name_words, names_words, trans_words, timeout_words, braced_words, process_words, block_words, states_words, body_words}
use Rattle.argos_grammar.specs.Text.{IsMark, IsTrans, IsTimeout, IsHead, IsProcess, IsBlock, AreStates, IsBody}
use Rattle.argos_grammar.specs.Unplaced.{unplaced_mark, unplaced_trans, unplaced_timed, unplaced_process, unplaced_block, unplaced_states, unplaced_body}
use Rattle.argos_grammar.proofs.Prints.{Prints, both, after_word, before_word, no_words, made, respelled, word_between, prints_each}
use Rattle.argos_grammar.proofs.PrintedLeaves.{prints_name, prints_names, prints_count, prints_braced, prints_interface, prints_effect}
use Rattle.argos_grammar.proofs.PrintedConditions.{prints_formula}

-- transitions and timeouts
pub prints_trans : (t : TransForm) → IsTrans t → Prints (trans_words t) trans (λ y. unplaced_trans y ≡ unplaced_trans t)
prints_trans t h =
    let guard = (prints_formula name name_words unplaced_mark IsMark prints_name t.guard h.0).condition in
    let whole = made (after_word "when" refl (both guard (prints_effect t.outs t.target h.1 h.2))) (λ p. let y : TransForm = record { guard = p.0; outs = p.1.0; target = p.1.1 } in y) (λ p ts rest k. k)
    (λ p s i. record { guard = s.0 i; outs = s.1.0 i; target = s.1.1 i }) in
    respelled whole (simp append_assoc)

pub prints_timeout : (t : Option TimedForm) → IsTimeout t → Prints (timeout_words t) timeout (λ y. option_map unplaced_timed y ≡ option_map unplaced_timed t)
prints_timeout None h = no_words None (λ ts rest e. e) refl
prints_timeout (Some t) h =
    let delay = after_word "after" refl (before_word "of" refl (prints_count t.count h.0 h.1)) in
    let effect = both (prints_name t.signal h.2) (prints_effect t.outs t.target h.3 h.4) in
    let whole = made (both delay effect) (λ p. let y : TimedForm = record { count = p.0; signal = p.1.0; outs = p.1.1.0; target = p.1.1.1 } in Some y) (λ p ts rest k. k)
    (λ p s i. let y : TimedForm = record { count = s.0 i; signal = s.1.0 i; outs = s.1.1.0 i; target = s.1.1.1 i } in Some y) in
    respelled whole (simp append_assoc)

-- a state, and states behind it
prints_state : {bw sw : Words} (h : Head) (b : BodyForm) (ss : StateForms) → IsHead h → Prints bw body (λ y. unplaced_body y ≡ unplaced_body b) → Prints sw more_states (λ y. unplaced_states y ≡ unplaced_states ss)
    → Prints {A = Head × BodyForm × StateForms} (w "state" ++ name_words h.name ++ bw ++ braced_words (flat_map trans_words h.trans ++ timeout_words h.timed) ++ sw) (λ p. one_state p.0 (body p.1) ⨾ more_states p.2)
    (λ p. unplaced_states (state p.0 p.1 p.2) ≡ unplaced_states (state h b ss))
prints_state h b ss k x more =
    let moves = prints_braced (both (prints_each trans unplaced_trans trans_words IsTrans prints_trans h.trans k.1) (prints_timeout h.timed k.2)) in
    made (both (after_word "state" refl (both (prints_name h.name k.0) (both x moves))) more) (λ p. (record { name = p.0.0; trans = p.0.1.1.0; timed = p.0.1.1.1 }, p.0.1.0, p.1)) (λ p ts rest q. q)
    (λ p s i. let y : Head = record { name = s.0.0 i; trans = s.0.1.1.0 i; timed = s.0.1.1.1 i } in state y (s.0.1.0 i) (s.1 i))

-- the processes behind the first
abbrev more_words : BlockForm → Words
more_words no_processes = []
more_words (process p b) = codes "||" ∷ (process_words p ++ more_words b)

block_is : (p : ProcessForm) (b : BlockForm) → block_words (process p b) ≡ process_words p ++ more_words b
block_is p no_processes = sym (append-nil (process_words p))
block_is p (process q b) = append_assoc (process_words p) (codes "||" ∷ []) (block_words (process q b)) ∙ ap (λ ws. process_words p ++ codes "||" ∷ ws) (block_is q b)

-- processes
mutual
  pub prints_process : (p : ProcessForm) → IsProcess p → Prints (process_words p) one_process (λ y. unplaced_process y ≡ unplaced_process p)
  prints_process (automaton i ss) h =
      let inside = after_word "init" refl (both (prints_name i h.0) (after_word ";" refl (prints_states ss h.1))) in
      made (after_word "automaton" refl (prints_braced inside)) (λ p. automaton p.0 p.1) (λ p ts rest k. k) (λ p s i. automaton (s.0 i) (s.1 i))
  prints_process (local [] b) h = absurd h.0
  prints_process (local (m ∷ ms) b) h =
      let whole = after_word "local" refl (both (prints_names m ms h.1) (after_word "in" refl (prints_braced (prints_block b h.2)))) in
      respelled (made whole (λ p. local p.0 p.1) (λ p ts rest k. k) (λ p s i. local (s.0 i) (s.1 i)))
      (ap (λ ws. codes "local" ∷ ws) (word_between (names_words (m ∷ ms)) (braced_words (block_words b)) "in"))
  prints_process (freeze m b) h =
      made (after_word "freeze" refl (both (prints_name m h.0) (after_word "in" refl (prints_braced (prints_block b h.1))))) (λ p. freeze p.0 p.1) (λ p ts rest k. k) (λ p s i. freeze (s.0 i) (s.1 i))
  prints_process (run c xs ys) h =
      made (after_word "run" refl (both (prints_name c h.0) (prints_interface xs ys h.1 h.2))) (λ p. run p.0 p.1.0 p.1.1) (λ p ts rest k. k) (λ p s i. run (s.0 i) (s.1.0 i) (s.1.1 i))

  pub prints_block : (b : BlockForm) → IsBlock 1 b → Prints (block_words b) processes (λ y. unplaced_block y ≡ unplaced_block b)
  prints_block no_processes h = absurd (cc h)
  prints_block (process p b) h = respelled (made (both (prints_process p h.0) (prints_more b h.1)) (λ q. process q.0 q.1) (λ q ts rest k. k) (λ q s i. process (s.0 i) (s.1 i))) (sym (block_is p b))

  prints_more : (b : BlockForm) → IsBlock 0 b → Prints (more_words b) more_processes (λ y. unplaced_block y ≡ unplaced_block b)
  prints_more no_processes h = no_words no_processes (λ ts rest e. e) refl
  prints_more (process p b) h = made (after_word "||" refl (both (prints_process p h.0) (prints_more b h.1))) (λ q. process q.0 q.1) (λ q ts rest k. k) (λ q s i. process (s.0 i) (s.1 i))

  prints_states : (ss : StateForms) → AreStates 1 ss → Prints (states_words ss) states (λ y. unplaced_states y ≡ unplaced_states ss)
  prints_states no_states h = absurd (cc h)
  prints_states (state m b ss) h = made (prints_state m b ss h.0 (prints_body b h.1) (prints_more_states ss h.2)) (λ p. state p.0 p.1 p.2) (λ p ts rest k. k) (λ p s. s)

  prints_more_states : (ss : StateForms) → AreStates 0 ss → Prints (states_words ss) more_states (λ y. unplaced_states y ≡ unplaced_states ss)
  prints_more_states no_states h = no_words no_states (λ ts rest e. e) refl
  prints_more_states (state m b ss) h = made (prints_state m b ss h.0 (prints_body b h.1) (prints_more_states ss h.2)) (λ p. state p.0 p.1 p.2) (λ p ts rest k. k) (λ p s. s)

  prints_body : (b : BodyForm) → IsBody b → Prints (body_words b) body (λ y. unplaced_body y ≡ unplaced_body b)
  prints_body plain h = no_words plain (λ ts rest e. e) refl
  prints_body (refined b) h = made (after_word "body" refl (prints_braced (prints_block b h))) refined (λ y ts rest k. k) (λ y s i. refined (s i))
