-- Components in which each name was looked up grow to the same as they do by their names.
use Rattle.std.proofs.Common.{◌≡◌, ℕ, ◌+◌, ◌<◌, ◌≤◌, zero, suc, List, [], ◌∷◌, ◌++◌, Option, Some, None, Bool, true, false, ◌||◌, cond, eqb, map, length, refl, sym, ap, subst, ◌∙◌, append_assoc, length-append, arith}
use Rattle.std.specs.Prelude.{bytes_eq, option_map, sum_by}
use Rattle.std.specs.List.{list_any, range_with_len}
use Rattle.std.proofs.lemmas.Bool.Decides.{nat_tests}
use Rattle.std.proofs.lemmas.List.{append-nil, map-append, get_or_append_left}
use Rattle.std.proofs.lemmas.List.Sums.{sum_by-cons}
use Rattle.std.proofs.Math.Seq.{get_or-append_seam}
use Rattle.argos_base.proofs.Bools.{or_left, or_right}
use Rattle.argos_core.specs.Process as plain
use Rattle.argos_grammar.specs.Forms.{Mark, Formulas, yes, no, atom, opposite, all, any, no_formulas, formula, GuardForm, TransForm, TimedForm, Head, ProcessForm, automaton, local, freeze, run, BlockForm, no_processes, process, StateForms, no_states, state, BodyForm, refined, ComponentForm}
use Rattle.argos_grammar.specs.Forms as form
use Rattle.argos_names.specs.Scope.{state_names}
use Rattle.argos_expansion.specs.Expansion.{Numbers, number_in, number_at, numbered, paired, once, once_after, outs_of, guard_of, guards_of, nodes_of, nodes_in, transition_of, timeout_of, rules_of, state_number, Grown, Known, known_after, found, over, beside, alone, grown_as, with_locals, visit, automaton_visit, local_visit, codes_in, size_of_trans, size_of_timed, size_in, grown_run, grown_process, grown_block, grown_rest, grown_states, grown_body}
use Rattle.argos_expansion.specs.inner.FirstPlaces.{first_place}
use Rattle.argos_expansion.specs.inner.Placing.{placed_process, placed_block, placed_states, placed_body, signal_count, used_scope, placed_component, placed_components, main_scope, placed_main}
use Rattle.argos_expansion.specs.inner.Renaming.{signal_at, renamed_guard, renamed_guards, renamed_outs, renamed_transition, renamed_timeout, renamed_rules, guard_size, guards_size, transition_size, timeout_size, states_size}
use Rattle.argos_expansion.specs.inner.ShapeGrowth.{Growth, growth_at, use_growth, process_growth, block_growth, rest_growth, states_growth, body_growth, fitted, placed_signals, growth_of, growths_after}

-- each once, and then once more after other signals took their places
same_number : (a b : ℕ) → eqb a b ≡ true → a ≡ b
same_number a b h = grind (arith, nat_tests)

same_is : (a : ℕ) → eqb a a ≡ true
same_is a = grind (arith, nat_tests)

abbrev AreAmong : (ℕ → ℕ) → List ℕ → List ℕ → Type 0
AreAmong f seen later = (k : ℕ) → list_any (eqb k) seen ≡ true → list_any (eqb (f k)) later ≡ true

among_head : (f : ℕ → ℕ) (later : List ℕ) (n k : ℕ) (b r : Bool) → list_any (eqb (f n)) later ≡ true → eqb k n ≡ b → (b || r) ≡ true → (r ≡ true → list_any (eqb (f k)) later ≡ true) → list_any (eqb (f k)) later ≡ true
among_head f later n k true r h e t rest = ap (λ m. list_any (eqb (f m)) later) (same_number k n e) ∙ h
among_head f later n k false r h e t rest = rest t

among_more : (f : ℕ → ℕ) (seen later : List ℕ) (n : ℕ) → list_any (eqb (f n)) later ≡ true → AreAmong f seen later → AreAmong f (n ∷ seen) later
among_more f seen later n h a = λ k t. among_head f later n k (eqb k n) (list_any (eqb k) seen) h refl t (a k)

among_both : (f : ℕ → ℕ) (seen later : List ℕ) (n : ℕ) → AreAmong f seen later → AreAmong f (n ∷ seen) (f n ∷ later)
among_both f seen later n a = λ k t. among_head f (f n ∷ later) n k (eqb k n) (list_any (eqb k) seen) (or_left (eqb (f n) (f n)) (list_any (eqb (f n)) later) (same_is (f n))) refl t
    (λ r. or_right (eqb (f k) (f n)) (list_any (eqb (f k)) later) (a k r))

-- by what was seen before, and what later
twice_by : (f : ℕ → ℕ) (seen later : List ℕ) (k : ℕ) (ks : List ℕ) → AreAmong f seen later → ((s l : List ℕ) → AreAmong f s l → once_after l (map f (once_after s ks)) ≡ once_after l (map f ks)) → (b c : Bool) → list_any (eqb k) seen ≡ b → list_any (eqb (f k)) later ≡ c
    → once_after later (map f (cond b (once_after seen ks) (k ∷ once_after (k ∷ seen) ks))) ≡ cond c (once_after later (map f ks)) (f k ∷ once_after (f k ∷ later) (map f ks))
twice_by f seen later k ks a rec true c e g =
    let there : c ≡ true = sym g ∙ a k e in
    rec seen later a ∙ ap (λ t. cond t (once_after later (map f ks)) (f k ∷ once_after (f k ∷ later) (map f ks))) (sym there)
twice_by f seen later k ks a rec false true e g =
    ap (λ t. cond t (once_after later (map f (once_after (k ∷ seen) ks))) (f k ∷ once_after (f k ∷ later) (map f (once_after (k ∷ seen) ks)))) g
    ∙ rec (k ∷ seen) later (among_more f seen later k g a)
twice_by f seen later k ks a rec false false e g =
    ap (λ t. cond t (once_after later (map f (once_after (k ∷ seen) ks))) (f k ∷ once_after (f k ∷ later) (map f (once_after (k ∷ seen) ks)))) g
    ∙ ap (λ xs. f k ∷ xs) (rec (k ∷ seen) (f k ∷ later) (among_both f seen later k a))

twice_from : (f : ℕ → ℕ) (ks seen later : List ℕ) → AreAmong f seen later → once_after later (map f (once_after seen ks)) ≡ once_after later (map f ks)
twice_from f [] seen later a = refl
twice_from f (k ∷ ks) seen later a = twice_by f seen later k ks a (twice_from f ks) (list_any (eqb k) seen) (list_any (eqb (f k)) later) refl refl

once_twice : (f : ℕ → ℕ) (ks : List ℕ) → once (map f (once ks)) ≡ once (map f ks)
once_twice f ks = twice_from f ks [] [] (λ k t. cc)

-- the names in scope have these places, and the signals at the places are their numbers
pub record StandsFor (places env : Numbers) (ss : List ℕ) : Type 0 where
  pub same : (name : List ℕ) → number_in env name ≡ signal_at ss (number_in places name)
  pub below : (name : List ℕ) → number_in places name < length ss

length-range : (a n : ℕ) → length (range_with_len a n) ≡ n
length-range a zero = refl
length-range a (suc n) = ap suc (length-range (a + 1) n)

-- names that come into scope
one_same : (b : Bool) (ss : List ℕ) (n next e p : ℕ) → n ≡ length ss → e ≡ signal_at ss p → p < length ss → cond b next e ≡ signal_at (ss ++ next ∷ []) (cond b n p)
one_same true ss n next e p h s l = sym (get_or-append_seam ss next [] 0) ∙ ap (signal_at (ss ++ next ∷ [])) (sym h)
one_same false ss n next e p h s l = s ∙ sym (get_or_append_left ss (next ∷ []) 0 p l)

one_below : (b : Bool) (ss : List ℕ) (n next p : ℕ) → n ≡ length ss → p < length ss → cond b n p < length (ss ++ next ∷ [])
one_below true ss n next p h l = let a : length (ss ++ next ∷ []) ≡ length ss + 1 = length-append ss (next ∷ []) in omega arith
one_below false ss n next p h l = let a : length (ss ++ next ∷ []) ≡ length ss + 1 = length-append ss (next ∷ []) in omega arith

pub stand_more : (ms : List Mark) (places env : Numbers) (ss : List ℕ) (n next : ℕ) → n ≡ length ss → StandsFor places env ss → StandsFor (numbered ms n places) (numbered ms next env) (ss ++ range_with_len next (length ms))
stand_more [] places env ss n next e h = subst (λ (xs : List ℕ). StandsFor places env xs) (sym (append-nil ss)) h
stand_more (m ∷ ms) places env ss n next e h =
    let a : length (ss ++ next ∷ []) ≡ length ss + 1 = length-append ss (next ∷ []) in
    subst (λ (xs : List ℕ). StandsFor (numbered ms (n + 1) ((m.name, n) ∷ places)) (numbered ms (next + 1) ((m.name, next) ∷ env)) xs) (append_assoc ss (next ∷ []) (range_with_len (next + 1) (length ms)))
    (stand_more ms ((m.name, n) ∷ places) ((m.name, next) ∷ env) (ss ++ next ∷ []) (n + 1) (next + 1) (omega arith)
    (record {
      same = λ name. one_same (bytes_eq m.name name) ss n next (number_in env name) (number_in places name) e (h.same name) (h.below name);
      below = λ name. one_below (bytes_eq m.name name) ss n next (number_in places name) e (h.below name);
    }))

-- the names of the main component
pub stand_main : (ms : List Mark) → StandsFor (numbered ms 1 []) (numbered ms 0 []) (0 ∷ range_with_len 0 (length ms))
stand_main ms = stand_more ms [] [] (0 ∷ []) 1 0 refl (record { same = λ name. refl; below = λ name. omega arith })

-- the names of a component that is used with some signals
same_either : (b : Bool) (x : ℕ) → x ≡ cond b x x
same_either true x = refl
same_either false x = refl

used_step : (b : Bool) (x e : ℕ) (zs rest : List ℕ) (k p : ℕ) → k ≡ suc (length zs) → e ≡ signal_at (0 ∷ (zs ++ x ∷ rest)) p → cond b x e ≡ signal_at (0 ∷ (zs ++ x ∷ rest)) (cond b k p)
used_step true x e zs rest k p h s = sym (get_or-append_seam zs x rest 0) ∙ ap (signal_at (0 ∷ (zs ++ x ∷ rest))) (sym h)
used_step false x e zs rest k p h s = s

paired_none : (ms : List Mark) → paired ms [] ≡ []
paired_none [] = refl
paired_none (m ∷ ms) = refl

used_same : (ms : List Mark) (ns zs : List ℕ) (k : ℕ) (name : List ℕ) → k ≡ suc (length zs) → number_in (paired ms ns) name ≡ signal_at (0 ∷ (zs ++ fitted (length ms) ns)) (number_in (paired ms (range_with_len k (length ms))) name)
used_same [] ns zs k name h = refl
used_same (m ∷ ms) [] zs k name h =
    let a : length (zs ++ 0 ∷ []) ≡ length zs + 1 = length-append zs (0 ∷ []) in
    let p = number_in (paired ms (range_with_len (k + 1) (length ms))) name in
    let e : 0 ≡ signal_at (0 ∷ (zs ++ 0 ∷ fitted (length ms) [])) p =
    ap (λ es. number_in es name) (sym (paired_none ms)) ∙ used_same ms [] (zs ++ 0 ∷ []) (k + 1) name (omega arith) ∙ ap (λ xs. signal_at (0 ∷ xs) p) (append_assoc zs (0 ∷ []) (fitted (length ms) [])) in
    same_either (bytes_eq m.name name) 0 ∙ used_step (bytes_eq m.name name) 0 0 zs (fitted (length ms) []) k p h e
used_same (m ∷ ms) (n ∷ ns) zs k name h =
    let a : length (zs ++ n ∷ []) ≡ length zs + 1 = length-append zs (n ∷ []) in
    let p = number_in (paired ms (range_with_len (k + 1) (length ms))) name in
    used_step (bytes_eq m.name name) n (number_in (paired ms ns) name) zs (fitted (length ms) ns) k p h
    (used_same ms ns (zs ++ n ∷ []) (k + 1) name (omega arith) ∙ ap (λ xs. signal_at (0 ∷ xs) p) (append_assoc zs (n ∷ []) (fitted (length ms) ns)))

cond_less : (b : Bool) (k p n : ℕ) → k < n → p < n → cond b k p < n
cond_less true k p n h l = h
cond_less false k p n h l = l

used_below : (ms : List Mark) (k n : ℕ) (name : List ℕ) → 1 ≤ k → n ≡ k + length ms → number_in (paired ms (range_with_len k (length ms))) name < n
used_below [] k n name h e = omega arith
used_below (m ∷ ms) k n name h e = cond_less (bytes_eq m.name name) k _ n (omega arith) (used_below ms (k + 1) n name (omega arith) (omega arith))

length-fitted : (k : ℕ) (ns : List ℕ) → length (fitted k ns) ≡ k
length-fitted zero ns = refl
length-fitted (suc k) [] = ap suc (length-fitted k [])
length-fitted (suc k) (n ∷ ns) = ap suc (length-fitted k ns)

pub stand_used : (ms : List Mark) (count : ℕ) (ns : List ℕ) → count ≡ length ms → StandsFor (paired ms (range_with_len 1 count)) (paired ms ns) (placed_signals count ns)
stand_used ms count ns e = subst (λ (k : ℕ). StandsFor (paired ms (range_with_len 1 k)) (paired ms ns) (placed_signals k ns)) (sym e)
    (let l = length-fitted (length ms) ns in
    record { same = λ name. used_same ms ns [] 1 name refl; below = λ name. used_below ms 1 (suc (length (fitted (length ms) ns))) name (omega arith) (omega arith) })

module _ (places env : Numbers) (ss : List ℕ) (h : StandsFor places env ss) where
  numbers_alike : (ms : List Mark) → map (signal_at ss) (map (number_at places) ms) ≡ map (number_at env) ms
  numbers_alike [] = refl
  numbers_alike (m ∷ ms) = ap (λ n. n ∷ map (signal_at ss) (map (number_at places) ms)) (sym (h.same m.name)) ∙ ap (λ ns. number_at env m ∷ ns) (numbers_alike ms)

  outs_alike : (ms : List Mark) → renamed_outs ss (outs_of places ms) ≡ outs_of env ms
  outs_alike ms = once_twice (signal_at ss) (map (number_at places) ms) ∙ ap once (numbers_alike ms)

  mutual
    guard_alike : (f : GuardForm) → renamed_guard ss (guard_of places f) ≡ guard_of env f
    guard_alike yes = refl
    guard_alike no = refl
    guard_alike (atom m) = ap plain.present (sym (h.same m.name))
    guard_alike (opposite f) = ap plain.negation (guard_alike f)
    guard_alike (all fs) = ap plain.all (guards_alike fs)
    guard_alike (any fs) = ap plain.any (guards_alike fs)

    guards_alike : (fs : Formulas Mark) → renamed_guards ss (guards_of places fs) ≡ guards_of env fs
    guards_alike no_formulas = refl
    guards_alike (formula f fs) = ap (λ g. plain.guard g (renamed_guards ss (guards_of places fs))) (guard_alike f) ∙ ap (plain.guard (guard_of env f)) (guards_alike fs)

  mutual
    nodes_alike : (f : GuardForm) → guard_size (guard_of places f) ≡ nodes_of f
    nodes_alike yes = refl
    nodes_alike no = refl
    nodes_alike (atom m) = refl
    nodes_alike (opposite f) = ap (λ n. n + 1) (nodes_alike f)
    nodes_alike (all fs) = ap (λ n. n + 1) (nodes_in_alike fs)
    nodes_alike (any fs) = ap (λ n. n + 1) (nodes_in_alike fs)

    nodes_in_alike : (fs : Formulas Mark) → guards_size (guards_of places fs) ≡ nodes_in fs
    nodes_in_alike no_formulas = refl
    nodes_in_alike (formula f fs) = ap (λ n. n + guards_size (guards_of places fs)) (nodes_alike f) ∙ ap (λ n. nodes_of f + n) (nodes_in_alike fs)

  transition_alike : (names : List (List ℕ)) (t : TransForm) → renamed_transition ss (transition_of places names t) ≡ transition_of env names t
  transition_alike names t =
      ap (λ (g : plain.Guard). let r : plain.Transition = record { guard = g; outs = renamed_outs ss (outs_of places t.outs); target = state_number names t.target } in r) (guard_alike t.guard)
      ∙ ap (λ os. let r : plain.Transition = record { guard = guard_of env t.guard; outs = os; target = state_number names t.target } in r) (outs_alike t.outs)

  transitions_alike : (names : List (List ℕ)) (ts : List TransForm) → map (renamed_transition ss) (map (transition_of places names) ts) ≡ map (transition_of env names) ts
  transitions_alike names [] = refl
  transitions_alike names (t ∷ ts) = ap (λ x. x ∷ map (renamed_transition ss) (map (transition_of places names) ts)) (transition_alike names t) ∙ ap (λ xs. transition_of env names t ∷ xs) (transitions_alike names ts)

  timeout_alike : (names : List (List ℕ)) (o : Option TimedForm) → option_map (renamed_timeout ss) (option_map (timeout_of places names) o) ≡ option_map (timeout_of env names) o
  timeout_alike names None = refl
  timeout_alike names (Some t) =
      ap (λ k. let r : plain.Timeout = record { count = t.count; signal = k; outs = renamed_outs ss (outs_of places t.outs); target = state_number names t.target } in Some r) (sym (h.same t.signal.name))
      ∙ ap (λ os. let r : plain.Timeout = record { count = t.count; signal = number_at env t.signal; outs = os; target = state_number names t.target } in Some r) (outs_alike t.outs)

  rules_alike : (names : List (List ℕ)) (x : Head) → renamed_rules ss (rules_of places names x) ≡ rules_of env names x
  rules_alike names x =
      ap (λ ts. let r : plain.Rules = record { name = x.name.name; transitions = ts; timeout = option_map (renamed_timeout ss) (option_map (timeout_of places names) x.timed) } in r) (transitions_alike names x.trans)
      ∙ ap (λ o. let r : plain.Rules = record { name = x.name.name; transitions = map (transition_of env names) x.trans; timeout = o } in r) (timeout_alike names x.timed)

  transition_size_alike : (names : List (List ℕ)) (t : TransForm) → transition_size ss (transition_of places names t) ≡ size_of_trans env t
  transition_size_alike names t =
      ap (λ n. 1 + n + length (renamed_outs ss (outs_of places t.outs))) (nodes_alike t.guard) ∙ ap (λ (os : List ℕ). 1 + nodes_of t.guard + length os) (outs_alike t.outs)

  transitions_size_alike : (names : List (List ℕ)) (ts : List TransForm) → sum_by (transition_size ss) (map (transition_of places names) ts) ≡ sum_by (size_of_trans env) ts
  transitions_size_alike names [] = refl
  transitions_size_alike names (t ∷ ts) =
      sum_by-cons (transition_size ss) (transition_of places names t) (map (transition_of places names) ts)
      ∙ ap (λ n. n + sum_by (transition_size ss) (map (transition_of places names) ts)) (transition_size_alike names t)
      ∙ ap (λ n. size_of_trans env t + n) (transitions_size_alike names ts)
      ∙ sym (sum_by-cons (size_of_trans env) t ts)

  timeout_size_alike : (names : List (List ℕ)) (o : Option TimedForm) → timeout_size ss (option_map (timeout_of places names) o) ≡ size_of_timed env o
  timeout_size_alike names None = refl
  timeout_size_alike names (Some t) = ap (λ (os : List ℕ). 1 + length os) (outs_alike t.outs)

  states_size_alike : (known : List (List ℕ)) (n : ℕ) (names : List (List ℕ)) (xs : StateForms) → states_size ss (placed_states known places n names xs) ≡ size_in env xs
  states_size_alike known n names no_states = refl
  states_size_alike known n names (state x b xs) =
      ap (λ k. 1 + k + timeout_size ss (option_map (timeout_of places names) x.timed) + states_size ss (placed_states known places n names xs)) (transitions_size_alike names x.trans)
      ∙ ap (λ k. 1 + sum_by (size_of_trans env) x.trans + k + states_size ss (placed_states known places n names xs)) (timeout_size_alike names x.timed)
      ∙ ap (λ k. 1 + sum_by (size_of_trans env) x.trans + size_of_timed env x.timed + k) (states_size_alike known n names xs)

-- a component that is used with some signals
abbrev pub use_known : Option Known → List ℕ → ℕ → ℕ → Grown plain.Process
use_known None ns depth next = alone (plain.parallel plain.no_processes)
use_known (Some k) ns depth next = k.grown (paired (k.component.inputs ++ k.component.outputs) ns) (depth + 1) next

used_known : (o : Option Known) (env : Numbers) (xs ys : List Mark) (depth next : ℕ) → grown_run o env xs ys depth next ≡ use_known o (map (number_at env) (xs ++ ys)) depth next
used_known None env xs ys depth next = refl
used_known (Some k) env xs ys depth next = refl

-- each use of a component that is known grows to the same
abbrev pub UsesAlike : List Known → List Growth → List (List ℕ) → Type 0
UsesAlike ks gs known = (name ns : List ℕ) (depth next : ℕ) → use_known (found name ks) ns depth next ≡ use_growth (growth_at gs (first_place name known)) ns depth next

module _ (ks : List Known) (gs : List Growth) (known : List (List ℕ)) (uses : UsesAlike ks gs known) where
  mutual
    process_alike : (places env : Numbers) (ss : List ℕ) (n : ℕ) → n ≡ length ss → StandsFor places env ss → (depth next : ℕ) (p : ProcessForm) → process_growth gs ss depth next (placed_process known places n p) ≡ grown_process ks env depth next p
    process_alike places env ss n e h depth next (automaton i xs) =
        ap (λ k. over (record { depth = depth; signals = 0; automata = 1; codes = codes_in xs; size = 1 + k }) (λ states. plain.automaton states (state_number (state_names xs) i)) (states_growth gs ss (depth + 1) next (placed_states known places n (state_names xs) xs))) (states_size_alike places env ss h known n (state_names xs) xs)
        ∙ ap (over (automaton_visit env depth xs) (λ states. plain.automaton states (state_number (state_names xs) i))) (states_alike places env ss n e h (state_names xs) (depth + 1) next xs)
    process_alike places env ss n e h depth next (local ns b) =
        let a : length (ss ++ range_with_len next (length ns)) ≡ length ss + length (range_with_len next (length ns)) = length-append ss (range_with_len next (length ns)) in
        let r : length (range_with_len next (length ns)) ≡ length ns = length-range next (length ns) in
        ap (λ (g : Grown plain.Process). over (local_visit depth ns) (plain.local (range_with_len next (length ns))) (with_locals ns g))
        (block_alike (numbered ns n places) (numbered ns next env) (ss ++ range_with_len next (length ns)) (n + length ns) (omega arith) (stand_more ns places env ss n next e h) (depth + 1) (next + length ns) b)
    process_alike places env ss n e h depth next (freeze m b) =
        ap (λ k. over (visit depth 1) (plain.freeze k) (block_growth gs ss (depth + 1) next (placed_block known places n b))) (sym (h.same m.name))
        ∙ ap (over (visit depth 1) (plain.freeze (number_at env m))) (block_alike places env ss n e h (depth + 1) next b)
    process_alike places env ss n e h depth next (run c xs ys) =
        ap (over (visit depth 0) (λ t. t))
        (ap (λ ns. use_growth (growth_at gs (first_place c.name known)) ns depth next) (numbers_alike places env ss h (xs ++ ys))
        ∙ sym (uses c.name (map (number_at env) (xs ++ ys)) depth next)
        ∙ sym (used_known (found c.name ks) env xs ys depth next))

    block_alike : (places env : Numbers) (ss : List ℕ) (n : ℕ) → n ≡ length ss → StandsFor places env ss → (depth next : ℕ) (b : BlockForm) → block_growth gs ss depth next (placed_block known places n b) ≡ grown_block ks env depth next b
    block_alike places env ss n e h depth next no_processes = refl
    block_alike places env ss n e h depth next (process p no_processes) = process_alike places env ss n e h depth next p
    block_alike places env ss n e h depth next (process p (process q b)) =
        ap (λ (g : Grown plain.Process). over (visit depth 1) plain.parallel (beside plain.process g (rest_growth gs ss (depth + 1) (next + length g.locals) (placed_block known places n (process q b))))) (process_alike places env ss n e h (depth + 1) next p)
        ∙ ap (λ (r : Grown plain.Processes). over (visit depth 1) plain.parallel (beside plain.process (grown_process ks env (depth + 1) next p) r)) (rest_alike places env ss n e h (depth + 1) (next + length (grown_process ks env (depth + 1) next p).locals) (process q b))

    rest_alike : (places env : Numbers) (ss : List ℕ) (n : ℕ) → n ≡ length ss → StandsFor places env ss → (depth next : ℕ) (b : BlockForm) → rest_growth gs ss depth next (placed_block known places n b) ≡ grown_rest ks env depth next b
    rest_alike places env ss n e h depth next no_processes = refl
    rest_alike places env ss n e h depth next (process p b) =
        ap (λ (g : Grown plain.Process). beside plain.process g (rest_growth gs ss depth (next + length g.locals) (placed_block known places n b))) (process_alike places env ss n e h depth next p)
        ∙ ap (λ (r : Grown plain.Processes). beside plain.process (grown_process ks env depth next p) r) (rest_alike places env ss n e h depth (next + length (grown_process ks env depth next p).locals) b)

    states_alike : (places env : Numbers) (ss : List ℕ) (n : ℕ) → n ≡ length ss → StandsFor places env ss → (names : List (List ℕ)) (depth next : ℕ) (xs : StateForms) → states_growth gs ss depth next (placed_states known places n names xs) ≡ grown_states ks env names depth next xs
    states_alike places env ss n e h names depth next no_states = refl
    states_alike places env ss n e h names depth next (state x b xs) =
        ap (λ (r : plain.Rules). let g = body_growth gs ss depth next (placed_body known places n b) in beside (plain.state r) g (states_growth gs ss depth (next + length g.locals) (placed_states known places n names xs))) (rules_alike places env ss h names x)
        ∙ ap (λ (g : Grown plain.Body). beside (plain.state (rules_of env names x)) g (states_growth gs ss depth (next + length g.locals) (placed_states known places n names xs))) (body_alike places env ss n e h depth next b)
        ∙ ap (λ (r : Grown plain.States). beside (plain.state (rules_of env names x)) (grown_body ks env depth next b) r) (states_alike places env ss n e h names depth (next + length (grown_body ks env depth next b).locals) xs)

    body_alike : (places env : Numbers) (ss : List ℕ) (n : ℕ) → n ≡ length ss → StandsFor places env ss → (depth next : ℕ) (b : BodyForm) → body_growth gs ss depth next (placed_body known places n b) ≡ grown_body ks env depth next b
    body_alike places env ss n e h depth next form.plain = refl
    body_alike places env ss n e h depth next (refined b) = ap (grown_as plain.body) (block_alike places env ss n e h depth next b)

  component_alike : (c : ComponentForm) (ns : List ℕ) (depth next : ℕ) → grown_block ks (paired (c.inputs ++ c.outputs) ns) depth next c.block ≡ growth_of gs (placed_component known c) ns depth next
  component_alike c ns depth next =
      let count : signal_count c ≡ length (c.inputs ++ c.outputs) = sym (length-append c.inputs c.outputs) in
      let l = length-fitted (signal_count c) ns in
      sym (block_alike (used_scope c) (paired (c.inputs ++ c.outputs) ns) (placed_signals (signal_count c) ns) (1 + signal_count c) (omega arith) (stand_used (c.inputs ++ c.outputs) (signal_count c) ns count) depth next c.block)

  main_block_alike : (c : ComponentForm) (depth next : ℕ) → grown_block ks (numbered (c.inputs ++ c.outputs) 0 []) depth next c.block ≡ block_growth gs (0 ∷ range_with_len 0 (signal_count c)) depth next (placed_main known c)
  main_block_alike c depth next =
      let count : length (c.inputs ++ c.outputs) ≡ signal_count c = length-append c.inputs c.outputs in
      let stands = subst (λ (k : ℕ). StandsFor (main_scope c) (numbered (c.inputs ++ c.outputs) 0 []) (0 ∷ range_with_len 0 k)) count (stand_main (c.inputs ++ c.outputs)) in
      let l = length-range 0 (signal_count c) in
      sym (block_alike (main_scope c) (numbered (c.inputs ++ c.outputs) 0 []) (0 ∷ range_with_len 0 (signal_count c)) (1 + signal_count c) (omega arith) stands depth next c.block)

-- a component that knows these
abbrev pub knowing : List Known → ComponentForm → Known
knowing ks c = record { component = c; grown = λ env depth next. grown_block ks env depth next c.block }

-- the components that are known, one by one
abbrev AreAlike : List Known → List Growth → Type 0
AreAlike [] [] = Unit {0}
AreAlike [] (g ∷ gs) = ⊥
AreAlike (k ∷ ks) [] = ⊥
AreAlike (k ∷ ks) (g ∷ gs) = ((ns : List ℕ) (depth next : ℕ) → k.grown (paired (k.component.inputs ++ k.component.outputs) ns) depth next ≡ g ns depth next) × AreAlike ks gs

abbrev names_known : List Known → List (List ℕ)
names_known = map (λ k. k.component.name.name)

further : (g : Growth) (gs : List Growth) (p : Option ℕ) → growth_at gs p ≡ growth_at (g ∷ gs) (option_map suc p)
further g gs None = refl
further g gs (Some k) = refl

use_pick : (b : Bool) (k : Known) (o : Option Known) (g : Growth) (gs : List Growth) (p : Option ℕ) (ns : List ℕ) (depth next : ℕ) → k.grown (paired (k.component.inputs ++ k.component.outputs) ns) (depth + 1) next ≡ g ns (depth + 1) next
    → use_known o ns depth next ≡ use_growth (growth_at gs p) ns depth next → use_known (cond b (Some k) o) ns depth next ≡ use_growth (growth_at (g ∷ gs) (cond b (Some 0) (option_map suc p))) ns depth next
use_pick true k o g gs p ns depth next h r = h
use_pick false k o g gs p ns depth next h r = r ∙ ap (λ u. use_growth u ns depth next) (further g gs p)

uses_alike : (ks : List Known) (gs : List Growth) → AreAlike ks gs → UsesAlike ks gs (names_known ks)
uses_alike [] [] h = λ name ns depth next. refl
uses_alike [] (g ∷ gs) h = absurd h
uses_alike (k ∷ ks) [] h = absurd h
uses_alike (k ∷ ks) (g ∷ gs) h = λ name ns depth next.
    use_pick (bytes_eq k.component.name.name name) k (found name ks) g gs (first_place name (names_known ks)) ns depth next (h.0 ns (depth + 1) next) (uses_alike ks gs h.1 name ns depth next)

alike_push : (ks : List Known) (gs : List Growth) (k : Known) (g : Growth) → AreAlike ks gs → ((ns : List ℕ) (depth next : ℕ) → k.grown (paired (k.component.inputs ++ k.component.outputs) ns) depth next ≡ g ns depth next) → AreAlike (ks ++ k ∷ []) (gs ++ g ∷ [])
alike_push [] [] k g h e = (e, tt)
alike_push [] (f ∷ gs) k g h e = absurd h
alike_push (j ∷ ks) [] k g h e = absurd h
alike_push (j ∷ ks) (f ∷ gs) k g h e = (h.0, alike_push ks gs k g h.1 e)

all_alike : (cs : List ComponentForm) (ks : List Known) (gs : List Growth) (known : List (List ℕ)) → names_known ks ≡ known → AreAlike ks gs → AreAlike (known_after ks cs) (growths_after gs (placed_components known cs))
all_alike [] ks gs known e h = h
all_alike (c ∷ cs) ks gs known e h =
    let uses = subst (λ (ns : List (List ℕ)). UsesAlike ks gs ns) e (uses_alike ks gs h) in
    all_alike cs (ks ++ knowing ks c ∷ []) (gs ++ growth_of gs (placed_component known c) ∷ []) (known ++ c.name.name ∷ [])
    (map-append (λ (k : Known). k.component.name.name) ks (knowing ks c ∷ []) ∙ ap (λ (ns : List (List ℕ)). ns ++ c.name.name ∷ []) e)
    (alike_push ks gs (knowing ks c) (growth_of gs (placed_component known c)) h (component_alike ks gs known uses c))

names_after : (cs : List ComponentForm) (ks : List Known) → names_known (known_after ks cs) ≡ names_known ks ++ map (λ c. c.name.name) cs
names_after [] ks = sym (append-nil (names_known ks))
names_after (c ∷ cs) ks =
    names_after cs (ks ++ knowing ks c ∷ [])
    ∙ ap (λ (ns : List (List ℕ)). ns ++ map (λ d. d.name.name) cs) (map-append (λ (k : Known). k.component.name.name) ks (knowing ks c ∷ []))
    ∙ append_assoc (names_known ks) (c.name.name ∷ []) (map (λ d. d.name.name) cs)

-- the main component behind these
pub main_alike : (cs : List ComponentForm) (c : ComponentForm) (depth next : ℕ)
    → grown_block (known_after [] cs) (numbered (c.inputs ++ c.outputs) 0 []) depth next c.block ≡ block_growth (growths_after [] (placed_components [] cs)) (0 ∷ range_with_len 0 (signal_count c)) depth next (placed_main (map (λ d. d.name.name) cs) c)
main_alike cs c depth next =
    let ks = known_after [] cs in
    let gs = growths_after [] (placed_components [] cs) in
    let alike = all_alike cs [] [] [] refl tt in
    let uses = subst (λ (ns : List (List ℕ)). UsesAlike ks gs ns) (names_after cs []) (uses_alike ks gs alike) in
    main_block_alike ks gs (map (λ d. d.name.name) cs) uses c depth next
