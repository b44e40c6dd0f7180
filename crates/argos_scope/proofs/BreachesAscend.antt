-- In a text the broken name rules stand at ascending places.
use Rattle.std.proofs.Common.{◌≡◌, ℕ, ◌+◌, ◌≤◌, List, [], ◌∷◌, ◌++◌, Option, Some, None, Bool, true, false, length, map, refl, sym, ap, ◌∙◌, subst, append_assoc, arith}
use Rattle.std.specs.Prelude.{flat_map, not, bytes_eq}
use Rattle.std.proofs.lemmas.List.{append-nil}
use Rattle.std.proofs.lemmas.Grind.{flat_map-append}
use Rattle.argos_base.specs.Spelling.{is_one_of}
use Rattle.argos_tokens.specs.Tokens.{Token}
use Rattle.argos_grammar.specs.Forms.{Mark, Formula, Formulas, atom, opposite, all, any, no_formulas, formula, TransForm, TimedForm, Head, ProcessForm, automaton, local, freeze, run, BlockForm, no_processes, process, StateForms, no_states, state, BodyForm, plain, refined, ComponentForm, ProgramForm}
use Rattle.argos_grammar.specs.Grammar as grammar
use Rattle.argos_grammar.specs.Grammar.{◌⨾◌, nothing, impossible, word, name, each, optional, names, listed, braced, effect, delay, timed, timeout, trans, reactions, one_state, inside, interface, one_process, processes, more_processes, states, more_states, body, component, components, program, IsUnit, AreUnits, IsPart, AreParts, IsCondition, the_yes, the_no, the_atom, the_opposite, enclosed, no_more_units, more_units, one_unit, units, no_more_parts, more_parts, one_part, parts}
use Rattle.argos_grammar.specs.Text.{IsText}
use Rattle.argos_names.specs.Scope.{Rule, Breach, Sort, input, output, inner, Scope, sort_in, breach_unless, read_as, emitted_as, declared_as, reading, emitting, with_names, declaring, atoms, atoms_in, state_names, going, in_trans, in_timed, in_head, Around, named, run_as, in_process, in_block, in_states, in_body, in_component, breaches_from, breaches}
use Rattle.argos_scope.proofs.Ascending.{place, Ascends, Between, between_append, OnlyAt, Leads, leads_same, leads_then, leads_nothing, leads_impossible, leads_word, leads_behind, leads_before, leads_braced, leads_name, leads_version, leads_count, leads_each, leads_names, leads_listed, leads_emitted, text_ascends}

-- at each name at most one rule is broken
only_read : (o : Option Sort) (m : Mark) → OnlyAt m (read_as o m)
only_read None m = refl
only_read (Some input) m = tt
only_read (Some output) m = refl
only_read (Some inner) m = tt

only_emitted : (o : Option Sort) (m : Mark) → OnlyAt m (emitted_as o m)
only_emitted None m = refl
only_emitted (Some input) m = refl
only_emitted (Some output) m = tt
only_emitted (Some inner) m = tt

only_declared : (o : Option Sort) (m : Mark) → OnlyAt m (declared_as o m)
only_declared None m = tt
only_declared (Some s) m = refl

only_unless : (b : Bool) (r : Rule) (m : Mark) → OnlyAt m (breach_unless b r m)
only_unless true r m = tt
only_unless false r m = refl

only_run : (o : Option ComponentForm) (names : List (List ℕ)) (m : Mark) (xs ys : ℕ) → OnlyAt m (run_as o names m xs ys)
only_run None names m xs ys = refl
only_run (Some c) names m xs ys = only_unless _ Rule.Arity m

module _ (end : ℕ) where
  -- conditions
  module _ (f : Mark → List Breach) (only : (m : Mark) → OnlyAt m (f m)) where
    abbrev Past : List Token → List Token → List Breach → Type 0
    Past ts rest bs = Ascends end ts → Ascends end rest × Between (place end ts) (place end rest) bs

    past_then : (ts us rest : List Token) (xs ys : List Breach) → Past ts us xs → Past us rest ys → Past ts rest (xs ++ ys)
    past_then ts us rest xs ys h k a =
        let first = h a in
        let second = k first.0 in
        (second.0, between_append (place end ts) (place end us) (place end rest) xs ys first.1 second.1)

    past_same : (ts rest : List Token) (xs ys : List Breach) → xs ≡ ys → Past ts rest xs → Past ts rest ys
    past_same ts rest xs ys e h = let P : List Breach → Type 0 = λ bs. Past ts rest bs in subst P e h

    abbrev these : Formula Mark → List Breach
    these g = flat_map f (atoms g)

    abbrev all_these : Formulas Mark → List Breach
    all_these gs = flat_map f (atoms_in gs)

    mutual
      unit_past : {g : Formula Mark} {ts rest : List Token} → IsUnit name g ts rest → Past ts rest (these g)
      unit_past (the_yes {ts = ts} {rest = rest} w) = (leads_word end "true").past ts rest w
      unit_past (the_no {ts = ts} {rest = rest} w) = (leads_word end "false").past ts rest w
      unit_past (the_atom {a = m} {ts = ts} {rest = rest} w) = past_same ts rest (f m) (f m ++ []) (sym (append-nil (f m))) ((leads_name end m (f m) (only m)).past ts rest w)
      unit_past (the_opposite {f = g} {ts = ts} {us = us} {rest = rest} w u) = past_then ts us rest [] (these g) ((leads_word end "not").past ts us w) (unit_past u)
      unit_past (enclosed {f = g} {ts = ts} {us = us} {vs = vs} {rest = rest} w c v) =
          past_then ts us rest [] (these g) ((leads_word end "(").past ts us w)
          (past_same us rest (these g ++ []) (these g) (append-nil (these g)) (past_then us vs rest (these g) [] (condition_past c) ((leads_word end ")").past vs rest v)))

      units_past : {gs : Formulas Mark} {ts rest : List Token} → AreUnits name gs ts rest → Past ts rest (all_these gs)
      units_past (no_more_units {ts = ts}) = (leads_nothing end).past ts ts refl
      units_past (more_units {f = g} {fs = gs} {ts = ts} {us = us} {vs = vs} {rest = rest} w u more) =
          past_same ts rest (these g ++ all_these gs) (all_these (formula g gs)) (sym (flat_map-append f (atoms g) (atoms_in gs)))
          (past_then ts us rest [] (these g ++ all_these gs) ((leads_word end "and").past ts us w) (past_then us vs rest (these g) (all_these gs) (unit_past u) (units_past more)))

      part_past : {g : Formula Mark} {ts rest : List Token} → IsPart name g ts rest → Past ts rest (these g)
      part_past (one_unit u) = unit_past u
      part_past (units {f = g} {g = h} {fs = gs} {ts = ts} {us = us} {rest = rest} u more) =
          past_same ts rest (these g ++ all_these (formula h gs)) (these (all (formula g (formula h gs)))) (sym (flat_map-append f (atoms g) (atoms_in (formula h gs))))
          (past_then ts us rest (these g) (all_these (formula h gs)) (unit_past u) (units_past more))

      parts_past : {gs : Formulas Mark} {ts rest : List Token} → AreParts name gs ts rest → Past ts rest (all_these gs)
      parts_past (no_more_parts {ts = ts}) = (leads_nothing end).past ts ts refl
      parts_past (more_parts {f = g} {fs = gs} {ts = ts} {us = us} {vs = vs} {rest = rest} w u more) =
          past_same ts rest (these g ++ all_these gs) (all_these (formula g gs)) (sym (flat_map-append f (atoms g) (atoms_in gs)))
          (past_then ts us rest [] (these g ++ all_these gs) ((leads_word end "or").past ts us w) (past_then us vs rest (these g) (all_these gs) (part_past u) (parts_past more)))

      condition_past : {g : Formula Mark} {ts rest : List Token} → IsCondition name g ts rest → Past ts rest (these g)
      condition_past (one_part u) = part_past u
      condition_past (parts {f = g} {g = h} {fs = gs} {ts = ts} {us = us} {rest = rest} u more) =
          past_same ts rest (these g ++ all_these (formula h gs)) (these (any (formula g (formula h gs)))) (sym (flat_map-append f (atoms g) (atoms_in (formula h gs))))
          (past_then ts us rest (these g) (all_these (formula h gs)) (part_past u) (parts_past more))

    leads_condition : (g : Formula Mark) → Leads end (IsCondition name g) (these g)
    leads_condition g = record { past = λ ts rest h. condition_past h }

  -- transitions, timeouts and states without their bodies
  module _ (s : Scope) (all_names : List (List ℕ)) where
    reads : (m : Mark) → OnlyAt m (reading s m)
    reads m = only_read (sort_in s m.name) m

    emits : (m : Mark) → OnlyAt m (emitting s m)
    emits m = only_emitted (sort_in s m.name) m

    leads_effect : (outs : List Mark) (target : Mark) → Leads end (effect outs target) (flat_map (emitting s) outs ++ going all_names target)
    leads_effect outs target =
        leads_then end (grammar.emitted outs) (word "goto" ⨾ name target ⨾ word ";") (flat_map (emitting s) outs) (going all_names target) (leads_emitted end (emitting s) emits outs)
        (leads_behind end "goto" (name target ⨾ word ";") (going all_names target) (leads_before end ";" (name target) (going all_names target) (leads_name end target (going all_names target) (only_unless (is_one_of all_names target.name) Rule.Unknown target))))

    leads_trans : (t : TransForm) → Leads end (trans t) (in_trans s all_names t)
    leads_trans t =
        let guard = flat_map (reading s) (atoms t.guard) in
        leads_same end (trans t) (guard ++ (flat_map (emitting s) t.outs ++ going all_names t.target)) (in_trans s all_names t) (sym (append_assoc guard (flat_map (emitting s) t.outs) (going all_names t.target)))
        (leads_behind end "when" (IsCondition name t.guard ⨾ effect t.outs t.target) (guard ++ (flat_map (emitting s) t.outs ++ going all_names t.target))
        (leads_then end (IsCondition name t.guard) (effect t.outs t.target) guard (flat_map (emitting s) t.outs ++ going all_names t.target) (leads_condition (reading s) reads t.guard) (leads_effect t.outs t.target)))

    leads_timed : (t : TimedForm) → Leads end (timed t) (in_timed s all_names (Some t))
    leads_timed t =
        let signal = reading s t.signal in
        let rest = flat_map (emitting s) t.outs ++ going all_names t.target in
        leads_same end (timed t) (signal ++ rest) (in_timed s all_names (Some t)) (sym (append_assoc signal (flat_map (emitting s) t.outs) (going all_names t.target)))
        (leads_then end (delay t.count) (name t.signal ⨾ effect t.outs t.target) [] (signal ++ rest)
        (leads_behind end "after" (grammar.count t.count ⨾ word "of") [] (leads_before end "of" (grammar.count t.count) [] (leads_count end t.count)))
        (leads_then end (name t.signal) (effect t.outs t.target) signal rest (leads_name end t.signal signal (reads t.signal)) (leads_effect t.outs t.target)))

    leads_timeout : (o : Option TimedForm) → Leads end (timeout o) (in_timed s all_names o)
    leads_timeout None = leads_nothing end
    leads_timeout (Some t) = leads_timed t

    leads_reactions : (h : Head) → Leads end (reactions h.trans h.timed) (in_head s all_names h)
    leads_reactions h = leads_braced end (each trans h.trans ⨾ timeout h.timed) (in_head s all_names h)
        (leads_then end (each trans h.trans) (timeout h.timed) (flat_map (in_trans s all_names) h.trans) (in_timed s all_names h.timed) (leads_each end (in_trans s all_names) trans leads_trans h.trans) (leads_timeout h.timed))

  -- names that are declared
  leads_more_declared : (sort : Sort) (ns : List Mark) (s : Scope) → Leads end (each (λ m. word "," ⨾ name m) ns) (declaring sort ns s)
  leads_more_declared sort [] s = leads_nothing end
  leads_more_declared sort (n ∷ ns) s =
      leads_then end (word "," ⨾ name n) (each (λ m. word "," ⨾ name m) ns) (declared_as (sort_in s n.name) n) (declaring sort ns ((n.name, sort) ∷ s))
      (leads_behind end "," (name n) (declared_as (sort_in s n.name) n) (leads_name end n (declared_as (sort_in s n.name) n) (only_declared (sort_in s n.name) n)))
      (leads_more_declared sort ns ((n.name, sort) ∷ s))

  leads_declared : (sort : Sort) (ns : List Mark) (s : Scope) → Leads end (names ns) (declaring sort ns s)
  leads_declared sort [] s = leads_impossible end []
  leads_declared sort (n ∷ ns) s =
      leads_then end (name n) (each (λ m. word "," ⨾ name m) ns) (declared_as (sort_in s n.name) n) (declaring sort ns ((n.name, sort) ∷ s))
      (leads_name end n (declared_as (sort_in s n.name) n) (only_declared (sort_in s n.name) n))
      (leads_more_declared sort ns ((n.name, sort) ∷ s))

  leads_some_declared : (sort : Sort) (ns : List Mark) (s : Scope) → Leads end (optional names ns) (declaring sort ns s)
  leads_some_declared sort [] s = leads_nothing end
  leads_some_declared sort (n ∷ ns) s = leads_declared sort (n ∷ ns) s

  leads_listed_declared : (sort : Sort) (ns : List Mark) (s : Scope) → Leads end (listed ns) (declaring sort ns s)
  leads_listed_declared sort ns s = leads_behind end "(" (optional names ns ⨾ word ")") (declaring sort ns s) (leads_before end ")" (optional names ns) (declaring sort ns s) (leads_some_declared sort ns s))

  -- processes
  module _ (a : Around) where
    leads_state : (s : Scope) (all_names seen : List (List ℕ)) (h : Head) (b : BodyForm) (ss : StateForms) → Leads end (body b) (in_body a s b) → Leads end (more_states ss) (in_states a s all_names (h.name.name ∷ seen) ss)
        → Leads end (one_state h (body b) ⨾ more_states ss) (in_states a s all_names seen (state h b ss))
    leads_state s all_names seen h b ss inner_one more =
        let first = breach_unless (not (is_one_of seen h.name.name)) Rule.Duplicate h.name in
        let inside_it = in_body a s b in
        let heads = in_head s all_names h in
        leads_then end (one_state h (body b)) (more_states ss) (first ++ inside_it ++ heads) (in_states a s all_names (h.name.name ∷ seen) ss)
        (leads_same end (one_state h (body b)) (first ++ (inside_it ++ heads)) (first ++ inside_it ++ heads) (sym (append_assoc first inside_it heads))
        (leads_behind end "state" (name h.name ⨾ body b ⨾ reactions h.trans h.timed) (first ++ (inside_it ++ heads))
        (leads_then end (name h.name) (body b ⨾ reactions h.trans h.timed) first (inside_it ++ heads) (leads_name end h.name first (only_unless (not (is_one_of seen h.name.name)) Rule.Duplicate h.name))
        (leads_then end (body b) (reactions h.trans h.timed) inside_it heads inner_one (leads_reactions s all_names h)))))
        more

    mutual
      leads_process : (s : Scope) (p : ProcessForm) → Leads end (one_process p) (in_process a s p)
      leads_process s (automaton i ss) =
          let first = breach_unless (is_one_of (state_names ss) i.name) Rule.NoInitial i in
          let rest = in_states a s (state_names ss) [] ss in
          leads_behind end "automaton" (braced (inside i (states ss))) (first ++ rest) (leads_braced end (inside i (states ss)) (first ++ rest)
          (leads_behind end "init" (name i ⨾ word ";" ⨾ states ss) (first ++ rest)
          (leads_then end (name i) (word ";" ⨾ states ss) first rest (leads_name end i first (only_unless (is_one_of (state_names ss) i.name) Rule.NoInitial i))
          (leads_behind end ";" (states ss) rest (leads_states s (state_names ss) [] ss)))))
      leads_process s (local ns b) =
          let first = declaring inner ns s in
          let rest = in_block a (with_names inner ns s) b in
          leads_behind end "local" (names ns ⨾ word "in" ⨾ braced (processes b)) (first ++ rest)
          (leads_then end (names ns) (word "in" ⨾ braced (processes b)) first rest (leads_declared inner ns s)
          (leads_behind end "in" (braced (processes b)) rest (leads_braced end (processes b) rest (leads_block (with_names inner ns s) b))))
      leads_process s (freeze m b) =
          let first = reading s m in
          let rest = in_block a s b in
          leads_behind end "freeze" (name m ⨾ word "in" ⨾ braced (processes b)) (first ++ rest)
          (leads_then end (name m) (word "in" ⨾ braced (processes b)) first rest (leads_name end m first (only_read (sort_in s m.name) m))
          (leads_behind end "in" (braced (processes b)) rest (leads_braced end (processes b) rest (leads_block s b))))
      leads_process s (run c xs ys) =
          let first = run_as (named c.name a.earlier) a.names c (length xs) (length ys) in
          let ins = flat_map (reading s) xs in
          let outs = flat_map (emitting s) ys in
          leads_same end (one_process (run c xs ys)) (first ++ (ins ++ outs)) (first ++ ins ++ outs) (sym (append_assoc first ins outs))
          (leads_behind end "run" (name c ⨾ interface xs ys) (first ++ (ins ++ outs))
          (leads_then end (name c) (interface xs ys) first (ins ++ outs) (leads_name end c first (only_run (named c.name a.earlier) a.names c (length xs) (length ys)))
          (leads_then end (listed xs) (word "->" ⨾ listed ys) ins outs (leads_listed end (reading s) (λ m. only_read (sort_in s m.name) m) xs)
          (leads_behind end "->" (listed ys) outs (leads_listed end (emitting s) (λ m. only_emitted (sort_in s m.name) m) ys)))))

      leads_block : (s : Scope) (b : BlockForm) → Leads end (processes b) (in_block a s b)
      leads_block s no_processes = leads_impossible end []
      leads_block s (process p b) = leads_then end (one_process p) (more_processes b) (in_process a s p) (in_block a s b) (leads_process s p) (leads_more_processes s b)

      leads_more_processes : (s : Scope) (b : BlockForm) → Leads end (more_processes b) (in_block a s b)
      leads_more_processes s no_processes = leads_nothing end
      leads_more_processes s (process p b) =
          leads_behind end "||" (one_process p ⨾ more_processes b) (in_process a s p ++ in_block a s b)
          (leads_then end (one_process p) (more_processes b) (in_process a s p) (in_block a s b) (leads_process s p) (leads_more_processes s b))

      leads_states : (s : Scope) (all_names seen : List (List ℕ)) (ss : StateForms) → Leads end (states ss) (in_states a s all_names seen ss)
      leads_states s all_names seen no_states = leads_impossible end []
      leads_states s all_names seen (state h b ss) = leads_state s all_names seen h b ss (leads_body s b) (leads_more_states s all_names (h.name.name ∷ seen) ss)

      leads_more_states : (s : Scope) (all_names seen : List (List ℕ)) (ss : StateForms) → Leads end (more_states ss) (in_states a s all_names seen ss)
      leads_more_states s all_names seen no_states = leads_nothing end
      leads_more_states s all_names seen (state h b ss) = leads_state s all_names seen h b ss (leads_body s b) (leads_more_states s all_names (h.name.name ∷ seen) ss)

      leads_body : (s : Scope) (b : BodyForm) → Leads end (body b) (in_body a s b)
      leads_body s plain = leads_nothing end
      leads_body s (refined b) = leads_behind end "body" (braced (processes b)) (in_block a s b) (leads_braced end (processes b) (in_block a s b) (leads_block s b))

    leads_component : (c : ComponentForm) → Leads end (component c) (in_component a c)
    leads_component c =
        let first = breach_unless (not (is_one_of (map (λ d. d.name.name) a.earlier) c.name.name)) Rule.Duplicate c.name in
        let ins = declaring input c.inputs [] in
        let outs = declaring output c.outputs (with_names input c.inputs []) in
        let scope = with_names output c.outputs (with_names input c.inputs []) in
        let rest = in_block a scope c.block in
        leads_same end (component c) (first ++ ((ins ++ outs) ++ rest)) (first ++ ins ++ outs ++ rest) (sym (append_assoc first (ins ++ outs) rest) ∙ ap (λ bs. bs ++ rest) (sym (append_assoc first ins outs)))
        (leads_behind end "component" (name c.name ⨾ interface c.inputs c.outputs ⨾ braced (processes c.block)) (first ++ ((ins ++ outs) ++ rest))
        (leads_then end (name c.name) (interface c.inputs c.outputs ⨾ braced (processes c.block)) first ((ins ++ outs) ++ rest)
        (leads_name end c.name first (only_unless (not (is_one_of (map (λ d. d.name.name) a.earlier) c.name.name)) Rule.Duplicate c.name))
        (leads_then end (interface c.inputs c.outputs) (braced (processes c.block)) (ins ++ outs) rest
        (leads_then end (listed c.inputs) (word "->" ⨾ listed c.outputs) ins outs (leads_listed_declared input c.inputs [])
        (leads_behind end "->" (listed c.outputs) outs (leads_listed_declared output c.outputs (with_names input c.inputs []))))
        (leads_braced end (processes c.block) rest (leads_block scope c.block)))))

  leads_more_components : (all_names : List (List ℕ)) (earlier cs : List ComponentForm) → Leads end (each component cs) (breaches_from all_names earlier cs)
  leads_more_components all_names earlier [] = leads_nothing end
  leads_more_components all_names earlier (c ∷ cs) =
      leads_then end (component c) (each component cs) (in_component (record { earlier = earlier; names = all_names }) c) (breaches_from all_names (earlier ++ c ∷ []) cs)
      (leads_component (record { earlier = earlier; names = all_names }) c) (leads_more_components all_names (earlier ++ c ∷ []) cs)

  pub leads_components : (cs : List ComponentForm) → Leads end (components cs) (breaches cs)
  leads_components [] = leads_impossible end []
  leads_components (c ∷ cs) = leads_more_components (map (λ d. d.name.name) (c ∷ cs)) [] (c ∷ cs)

  leads_program : (p : ProgramForm) → Leads end (program p) (breaches p.components)
  leads_program p =
      leads_behind end "argos" (grammar.version p.version ⨾ word ";" ⨾ components p.components) (breaches p.components)
      (leads_then end (grammar.version p.version) (word ";" ⨾ components p.components) [] (breaches p.components) (leads_version end p.version)
      (leads_behind end ";" (components p.components) (breaches p.components) (leads_components p.components)))

pub breaches_ascend : (bs : List ℕ) (p : ProgramForm) → IsText bs p → (low : ℕ) × (high : ℕ) × Between low high (breaches p.components)
breaches_ascend bs p h =
    let ts = h.0 in
    let past = (leads_program (length bs) p).past ts [] h.4 (text_ascends bs ts h.2) in
    (place (length bs) ts, length bs, past.1)
