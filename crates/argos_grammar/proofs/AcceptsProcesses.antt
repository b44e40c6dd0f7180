-- The tokens of processes, blocks and states are taken.
use Rattle.std.proofs.Common.{◌≡◌, List, [], ◌∷◌, false, refl}
use Rattle.std.specs.Prelude.{codes}
use Rattle.argos_grammar.specs.Forms as forms
use Rattle.argos_grammar.specs.Forms.{Head, ProcessForm, automaton, local, freeze, run, BlockForm, no_processes, StateForms, no_states, BodyForm, plain, refined}
use Rattle.argos_tokens.specs.Tokens.{Token}
use Rattle.argos_grammar.specs.Faults.{Open, bracket}
use Rattle.argos_grammar.specs.Runs.{begins_with, IsSettled}
use Rattle.argos_grammar.specs.DueSymbols.{name, rule, option, repeat, w, block, process, another_process, state, body, trans, timeout}
use Rattle.argos_grammar.specs.Grammar as grammar
use Rattle.argos_grammar.specs.Grammar.{Piece}
use Rattle.argos_grammar.proofs.Steps.{process_automaton, process_local, process_freeze, process_run}
use Rattle.argos_grammar.proofs.FirstWords.{word_begins, word_clear, no_word}
use Rattle.argos_grammar.proofs.AcceptsWords.{Took, ◌then◌, two_then, word, a_name, opening, closing_settled}
use Rattle.argos_grammar.proofs.AcceptsLists.{given, here, by_word, some_option, no_option, one_more, no_more, names_taken, listed_then}
use Rattle.argos_grammar.proofs.AcceptsTransitions.{reactions_taken}

-- a block, where its processes are taken
block_around : {os : List Open} {ts a b rest : List Token} → IsSettled os → grammar.word "{" ts a → Took (rule process ∷ repeat another_process ∷ []) (bracket ∷ os) (bracket ∷ os) a b → grammar.word "}" b rest
    → Took (rule block ∷ []) os os ts rest
block_around s o x e = by_word block refl (opening "{" refl o then two_then x (closing_settled "}" refl s e))

-- a state, where its body is taken
one_state_taken : (h : Head) (B : Piece) (os : List Open) (ts rest : List Token) → IsSettled os → ((us vs : List Token) → B us vs → begins_with (codes "body") vs ≡ false → Took (option body ∷ []) os os us vs) → grammar.one_state h B ts rest
    → Took (w "state" ∷ name ∷ option body ∷ w "{" ∷ repeat trans ∷ option timeout ∷ w "}" ∷ []) os os ts rest
one_state_taken h B os ts rest s inner k =
    let braces = k.2.2.2 in
    word "state" refl s k.1 then a_name h.name s k.2.1 then inner k.2.0 k.2.2.0 k.2.2.1 (word_clear (codes "body" ∷ []) "{" k.2.2.0 braces.0 refl braces.1).0 then reactions_taken h.trans h.timed k.2.2.0 s braces

mutual
  pub process_taken : (p : ProcessForm) (os : List Open) (ts rest : List Token) → IsSettled os → grammar.one_process p ts rest → Took (rule process ∷ []) os os ts rest
  process_taken (automaton i ss) os ts rest s (a, automaton_word, (b, brace, (e, (c, init, (d, named, (f, semicolon, inner))), close))) =
      given (λ due. process_automaton due os ts (word_begins "automaton" ts a automaton_word))
      (word "automaton" refl s automaton_word then opening "{" refl brace then word "init" refl refl init then a_name i refl named then word ";" refl refl semicolon
      then two_then (states_taken ss (bracket ∷ os) f e refl inner (no_word "state" "}" e rest refl close)) (closing_settled "}" refl s close))
  process_taken (local ns b) os ts rest s (a, local_word, (d, named, (e, in_word, (f, brace, (g, inner, close))))) =
      given (λ due. process_local due os ts (word_begins "local" ts a local_word))
      (word "local" refl s local_word then names_taken ns s named (no_word "," "in" d e refl in_word) then word "in" refl s in_word
      then block_around s brace (processes_taken b (bracket ∷ os) f g refl inner (no_word "||" "}" g rest refl close)) close)
  process_taken (freeze m b) os ts rest s (a, freeze_word, (d, named, (e, in_word, (f, brace, (g, inner, close))))) =
      given (λ due. process_freeze due os ts (word_begins "freeze" ts a freeze_word))
      (word "freeze" refl s freeze_word then a_name m s named then word "in" refl s in_word
      then block_around s brace (processes_taken b (bracket ∷ os) f g refl inner (no_word "||" "}" g rest refl close)) close)
  process_taken (run m xs ys) os ts rest s (a, run_word, (d, named, (e, inputs, (f, arrow, outputs)))) =
      given (λ due. process_run due os ts (no_word "automaton" "run" ts a refl run_word) (no_word "local" "run" ts a refl run_word) (no_word "freeze" "run" ts a refl run_word))
      (word "run" refl s run_word then a_name m s named then listed_then xs s inputs (word "->" refl s arrow then listed_then ys s outputs here))

  pub processes_taken : (b : BlockForm) (os : List Open) (ts rest : List Token) → IsSettled os → grammar.processes b ts rest → begins_with (codes "||") rest ≡ false → Took (rule process ∷ repeat another_process ∷ []) os os ts rest
  processes_taken no_processes os ts rest s h c = absurd h
  processes_taken (forms.process p b) os ts rest s h c = process_taken p os ts h.0 s h.1 then more_processes_taken b os h.0 rest s h.2 c

  more_processes_taken : (b : BlockForm) (os : List Open) (ts rest : List Token) → IsSettled os → grammar.more_processes b ts rest → begins_with (codes "||") rest ≡ false → Took (repeat another_process ∷ []) os os ts rest
  more_processes_taken no_processes os ts rest s h c = no_more another_process refl c h
  more_processes_taken (forms.process p b) os ts rest s (a, bars, (d, one, more)) c =
      one_more another_process refl (word_begins "||" ts a bars) (word "||" refl s bars then process_taken p os a d s one) (more_processes_taken b os d rest s more c)

  states_taken : (ss : StateForms) (os : List Open) (ts rest : List Token) → IsSettled os → grammar.states ss ts rest → begins_with (codes "state") rest ≡ false → Took (rule state ∷ repeat state ∷ []) os os ts rest
  states_taken no_states os ts rest s h c = absurd h
  states_taken (forms.state k b ss) os ts rest s h c =
      by_word state refl (one_state_taken k (grammar.body b) os ts h.0 s (λ us vs g e. body_taken b os us vs s g e) h.1) then more_states_taken ss os h.0 rest s h.2 c

  more_states_taken : (ss : StateForms) (os : List Open) (ts rest : List Token) → IsSettled os → grammar.more_states ss ts rest → begins_with (codes "state") rest ≡ false → Took (repeat state ∷ []) os os ts rest
  more_states_taken no_states os ts rest s h c = no_more state refl c h
  more_states_taken (forms.state k b ss) os ts rest s h c =
      one_more state refl (word_begins "state" ts h.1.0 h.1.1) (one_state_taken k (grammar.body b) os ts h.0 s (λ us vs g e. body_taken b os us vs s g e) h.1) (more_states_taken ss os h.0 rest s h.2 c)

  body_taken : (b : BodyForm) (os : List Open) (ts rest : List Token) → IsSettled os → grammar.body b ts rest → begins_with (codes "body") rest ≡ false → Took (option body ∷ []) os os ts rest
  body_taken plain os ts rest s h c = no_option body refl c h
  body_taken (refined b) os ts rest s (a, body_word, (f, brace, (g, inner, close))) c =
      some_option body refl (word_begins "body" ts a body_word) (word "body" refl s body_word
      then block_around s brace (processes_taken b (bracket ∷ os) f g refl inner (no_word "||" "}" g rest refl close)) close)

pub block_taken : (b : BlockForm) {os : List Open} (ts : List Token) {rest : List Token} → IsSettled os → grammar.braced (grammar.processes b) ts rest → Took (rule block ∷ []) os os ts rest
block_taken b {os} ts {rest} s h = block_around s h.1 (processes_taken b (bracket ∷ os) h.0 h.2.0 refl h.2.1 (no_word "||" "}" h.2.0 rest refl h.2.2)) h.2.2
