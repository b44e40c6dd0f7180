-- Trees apart from their places: each form with all its places 0.
use Rattle.std.specs.Prelude.{◌≡◌, List, map, option_map}
use Rattle.argos_grammar.specs.Forms.{Mark, Formula, yes, no, atom, opposite, all, any, Formulas, no_formulas, formula, TransForm, TimedForm, Head, ProcessForm, automaton, local, freeze, run, BlockForm, no_processes, process, StateForms, no_states, state, BodyForm, plain, refined, ComponentForm, ProgramForm, AspectForm, Numeral, Atom, in_state, inactive, same_code, CertForm}

abbrev pub unplaced_mark : Mark → Mark
unplaced_mark m = record m { at = 0 }

abbrev pub unplaced_marks : List Mark → List Mark
unplaced_marks = map unplaced_mark

abbrev pub unplaced_numeral : Numeral → Numeral
unplaced_numeral n = record n { at = 0 }

-- where f makes the atoms unplaced
abbrev mutual
  pub unplaced_formula : {A : Type 0} → (A → A) → Formula A → Formula A
  unplaced_formula f yes = yes
  unplaced_formula f no = no
  unplaced_formula f (atom a) = atom (f a)
  unplaced_formula f (opposite g) = opposite (unplaced_formula f g)
  unplaced_formula f (all gs) = all (unplaced_formulas f gs)
  unplaced_formula f (any gs) = any (unplaced_formulas f gs)

  pub unplaced_formulas : {A : Type 0} → (A → A) → Formulas A → Formulas A
  unplaced_formulas f no_formulas = no_formulas
  unplaced_formulas f (formula g gs) = formula (unplaced_formula f g) (unplaced_formulas f gs)

abbrev pub unplaced_trans : TransForm → TransForm
unplaced_trans t = record { guard = unplaced_formula unplaced_mark t.guard; outs = unplaced_marks t.outs; target = unplaced_mark t.target }

abbrev pub unplaced_timed : TimedForm → TimedForm
unplaced_timed t = record { count = t.count; signal = unplaced_mark t.signal; outs = unplaced_marks t.outs; target = unplaced_mark t.target }

abbrev pub unplaced_head : Head → Head
unplaced_head h = record { name = unplaced_mark h.name; trans = map unplaced_trans h.trans; timed = option_map unplaced_timed h.timed }

abbrev mutual
  pub unplaced_process : ProcessForm → ProcessForm
  unplaced_process (automaton i ss) = automaton (unplaced_mark i) (unplaced_states ss)
  unplaced_process (local ns b) = local (unplaced_marks ns) (unplaced_block b)
  unplaced_process (freeze m b) = freeze (unplaced_mark m) (unplaced_block b)
  unplaced_process (run c xs ys) = run (unplaced_mark c) (unplaced_marks xs) (unplaced_marks ys)

  pub unplaced_block : BlockForm → BlockForm
  unplaced_block no_processes = no_processes
  unplaced_block (process p b) = process (unplaced_process p) (unplaced_block b)

  pub unplaced_states : StateForms → StateForms
  unplaced_states no_states = no_states
  unplaced_states (state h b ss) = state (unplaced_head h) (unplaced_body b) (unplaced_states ss)

  pub unplaced_body : BodyForm → BodyForm
  unplaced_body plain = plain
  unplaced_body (refined b) = refined (unplaced_block b)

abbrev pub unplaced_component : ComponentForm → ComponentForm
unplaced_component c = record { name = unplaced_mark c.name; inputs = unplaced_marks c.inputs; outputs = unplaced_marks c.outputs; block = unplaced_block c.block }

abbrev pub unplaced_program : ProgramForm → ProgramForm
unplaced_program p = record { version = p.version; components = map unplaced_component p.components }

abbrev pub unplaced_aspect : AspectForm → AspectForm
unplaced_aspect a = record { version = a.version; components = map unplaced_component a.components; outs = unplaced_marks a.outs; current = a.current; trace = map unplaced_marks a.trace }

abbrev pub unplaced_atom : Atom → Atom
unplaced_atom (in_state left r s e) = in_state left (unplaced_numeral r) (unplaced_mark s) (option_map unplaced_numeral e)
unplaced_atom (inactive left r) = inactive left (unplaced_numeral r)
unplaced_atom (same_code l r) = same_code (unplaced_numeral l) (unplaced_numeral r)

abbrev pub unplaced_cert : CertForm → CertForm
unplaced_cert c = record { version = c.version; formula = unplaced_formula unplaced_atom c.formula }

-- equal apart from places
abbrev pub AreEqualPrograms : ProgramForm → ProgramForm → Type 0
AreEqualPrograms p q = unplaced_program p ≡ unplaced_program q

abbrev pub AreEqualAspects : AspectForm → AspectForm → Type 0
AreEqualAspects a b = unplaced_aspect a ≡ unplaced_aspect b

abbrev pub AreEqualCerts : CertForm → CertForm → Type 0
AreEqualCerts c d = unplaced_cert c ≡ unplaced_cert d
