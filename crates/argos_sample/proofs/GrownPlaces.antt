-- The expansion of components doesn't hang on places.
use Rattle.std.proofs.Common.{◌≡◌, ℕ, ◌+◌, List, [], ◌∷◌, ◌++◌, Option, Some, None, Bool, true, false, map, length, refl, ap, sym, ◌∙◌}
use Rattle.std.specs.Prelude.{bytes_eq, cond, option_map, sum_by, zip}
use Rattle.std.specs.List.{range_with_len}
use Rattle.std.proofs.lemmas.List.{map-append, length-map}
use Rattle.std.proofs.lemmas.List.Sums.{sum_by-cons}
use Rattle.argos_grammar.specs.Forms.{Mark, Formula, Formulas, yes, no, atom, opposite, all, any, no_formulas, formula, GuardForm, TransForm, TimedForm, Head, ProcessForm, automaton, local, freeze, run, BlockForm, no_processes, process, StateForms, no_states, state, BodyForm, refined, ComponentForm}
use Rattle.argos_grammar.specs.Forms as form
use Rattle.argos_grammar.specs.Unplaced.{unplaced_mark, unplaced_marks, unplaced_formula, unplaced_formulas, unplaced_trans, unplaced_timed, unplaced_head, unplaced_process, unplaced_block, unplaced_states, unplaced_body, unplaced_component}
use Rattle.argos_core.specs.Process as plain
use Rattle.argos_expansion.specs.Expansion.{Numbers, number_at, numbered, once, outs_of, state_number, guard_of, guards_of, nodes_of, nodes_in, transition_of, timeout_of, rules_of, Visit, Grown, Known, found, visit, codes_of, size_of_trans, size_of_timed, codes_in, size_in, automaton_visit, local_visit, over, beside, grown_as, grown_run, grown_process, grown_block, grown_rest, grown_states, grown_body, known_after, last_of, main_grown, expansion}
use Rattle.argos_sample.proofs.BreachPlaces.{state_names_same}

-- what is counted or looked up by names
numbered_same : (ms : List Mark) (n : ℕ) (env : Numbers) → numbered (unplaced_marks ms) n env ≡ numbered ms n env
numbered_same [] n env = refl
numbered_same (m ∷ ms) n env = numbered_same ms (n + 1) ((m.name, n) ∷ env)

pub names_same : (ms : List Mark) → map (λ m. m.name) (unplaced_marks ms) ≡ map (λ m. m.name) ms
names_same [] = refl
names_same (m ∷ ms) = ap (λ names. m.name ∷ names) (names_same ms)

numbers_same : (env : Numbers) (ms : List Mark) → map (number_at env) (unplaced_marks ms) ≡ map (number_at env) ms
numbers_same env [] = refl
numbers_same env (m ∷ ms) = ap (λ ns. number_at env m ∷ ns) (numbers_same env ms)

outs_same : (env : Numbers) (ms : List Mark) → outs_of env (unplaced_marks ms) ≡ outs_of env ms
outs_same env ms = ap once (numbers_same env ms)

mutual
  guard_same : (env : Numbers) (f : GuardForm) → guard_of env (unplaced_formula unplaced_mark f) ≡ guard_of env f
  guard_same env yes = refl
  guard_same env no = refl
  guard_same env (atom m) = refl
  guard_same env (opposite f) = ap plain.negation (guard_same env f)
  guard_same env (all fs) = ap plain.all (guards_same env fs)
  guard_same env (any fs) = ap plain.any (guards_same env fs)

  guards_same : (env : Numbers) (fs : Formulas Mark) → guards_of env (unplaced_formulas unplaced_mark fs) ≡ guards_of env fs
  guards_same env no_formulas = refl
  guards_same env (formula f fs) = λ i. plain.guard (guard_same env f i) (guards_same env fs i)

mutual
  nodes_same : (f : GuardForm) → nodes_of (unplaced_formula unplaced_mark f) ≡ nodes_of f
  nodes_same yes = refl
  nodes_same no = refl
  nodes_same (atom m) = refl
  nodes_same (opposite f) = ap (λ n. n + 1) (nodes_same f)
  nodes_same (all fs) = ap (λ n. n + 1) (nodes_in_same fs)
  nodes_same (any fs) = ap (λ n. n + 1) (nodes_in_same fs)

  nodes_in_same : (fs : Formulas Mark) → nodes_in (unplaced_formulas unplaced_mark fs) ≡ nodes_in fs
  nodes_in_same no_formulas = refl
  nodes_in_same (formula f fs) = λ i. nodes_same f i + nodes_in_same fs i

-- rules
transition_same : (env : Numbers) (names : List (List ℕ)) (t : TransForm) → transition_of env names (unplaced_trans t) ≡ transition_of env names t
transition_same env names t = λ i. record { guard = guard_same env t.guard i; outs = outs_same env t.outs i; target = state_number names t.target }

transitions_same : (env : Numbers) (names : List (List ℕ)) (ts : List TransForm)
    → map (transition_of env names) (map unplaced_trans ts) ≡ map (transition_of env names) ts
transitions_same env names [] = refl
transitions_same env names (t ∷ ts) = λ i. transition_same env names t i ∷ transitions_same env names ts i

timeout_same : (env : Numbers) (names : List (List ℕ)) (o : Option TimedForm)
    → option_map (timeout_of env names) (option_map unplaced_timed o) ≡ option_map (timeout_of env names) o
timeout_same env names None = refl
timeout_same env names (Some t) = λ i. Some (record { count = t.count; signal = number_at env t.signal; outs = outs_same env t.outs i; target = state_number names t.target })

rules_same : (env : Numbers) (names : List (List ℕ)) (h : Head) → rules_of env names (unplaced_head h) ≡ rules_of env names h
rules_same env names h = λ i. record { name = h.name.name; transitions = transitions_same env names h.trans i; timeout = timeout_same env names h.timed i }

-- sizes
trans_size : (env : Numbers) (t : TransForm) → size_of_trans env (unplaced_trans t) ≡ size_of_trans env t
trans_size env t = λ i. 1 + nodes_same t.guard i + length (outs_same env t.outs i)

all_trans_size : (env : Numbers) (ts : List TransForm) → sum_by (size_of_trans env) (map unplaced_trans ts) ≡ sum_by (size_of_trans env) ts
all_trans_size env [] = refl
all_trans_size env (t ∷ ts) =
    sum_by-cons (size_of_trans env) (unplaced_trans t) (map unplaced_trans ts)
    ∙ (λ i. trans_size env t i + all_trans_size env ts i)
    ∙ sym (sum_by-cons (size_of_trans env) t ts)

timed_size : (env : Numbers) (o : Option TimedForm) → size_of_timed env (option_map unplaced_timed o) ≡ size_of_timed env o
timed_size env None = refl
timed_size env (Some t) = ap (λ ns. 1 + length ns) (outs_same env t.outs)

timed_codes : (o : Option TimedForm) → codes_of (option_map unplaced_timed o) ≡ codes_of o
timed_codes None = refl
timed_codes (Some t) = refl

codes_same : (ss : StateForms) → codes_in (unplaced_states ss) ≡ codes_in ss
codes_same no_states = refl
codes_same (state h b ss) = λ i. timed_codes h.timed i + codes_same ss i

size_same : (env : Numbers) (ss : StateForms) → size_in env (unplaced_states ss) ≡ size_in env ss
size_same env no_states = refl
size_same env (state h b ss) = λ i. 1 + all_trans_size env h.trans i + timed_size env h.timed i + size_same env ss i

visit_same : (env : Numbers) (depth : ℕ) (ss : StateForms) → automaton_visit env depth (unplaced_states ss) ≡ automaton_visit env depth ss
visit_same env depth ss = λ i. record { depth = depth; signals = 0; automata = 1; codes = codes_same ss i; size = 1 + size_same env ss i }

local_visit_same : (depth : ℕ) (ns : List Mark) → local_visit depth (unplaced_marks ns) ≡ local_visit depth ns
local_visit_same depth ns = ap (λ n. let v : Visit = record { depth = depth; signals = n; automata = 0; codes = 0; size = 1 + n } in v) (length-map ns unplaced_mark)

-- components that are known
abbrev unplaced_known : Known → Known
unplaced_known k = record { component = unplaced_component k.component; grown = k.grown }

found_by : (b : Bool) (k : Known) (o o' : Option Known) → o' ≡ option_map unplaced_known o
    → cond b (Some (unplaced_known k)) o' ≡ option_map unplaced_known (cond b (Some k) o)
found_by true k o o' e = refl
found_by false k o o' e = e

found_same : (name : List ℕ) (ks : List Known) → found name (map unplaced_known ks) ≡ option_map unplaced_known (found name ks)
found_same name [] = refl
found_same name (k ∷ ks) = found_by (bytes_eq k.component.name.name name) k (found name ks) (found name (map unplaced_known ks)) (found_same name ks)

run_same : (o : Option Known) (env : Numbers) (xs ys : List Mark) (depth next : ℕ)
    → grown_run (option_map unplaced_known o) env (unplaced_marks xs) (unplaced_marks ys) depth next ≡ grown_run o env xs ys depth next
run_same None env xs ys depth next = refl
run_same (Some k) env xs ys depth next =
    let formals : map (λ m. m.name) (unplaced_marks k.component.inputs ++ unplaced_marks k.component.outputs) ≡ map (λ m. m.name) (k.component.inputs ++ k.component.outputs) =
    ap (map (λ m. m.name)) (sym (map-append unplaced_mark k.component.inputs k.component.outputs)) ∙ names_same (k.component.inputs ++ k.component.outputs) in
    let actuals : map (number_at env) (unplaced_marks xs ++ unplaced_marks ys) ≡ map (number_at env) (xs ++ ys) =
    ap (map (number_at env)) (sym (map-append unplaced_mark xs ys)) ∙ numbers_same env (xs ++ ys) in
    λ i. k.grown (zip (formals i) (actuals i)) (depth + 1) next

-- another part, which begins with the number that is free after the first one
behind : {A B C : Type 0} (f : A → B → C) (g' g : Grown A) (next : ℕ) (rest' rest : ℕ → Grown B) → g' ≡ g → ((n : ℕ) → rest' n ≡ rest n)
    → beside f g' (rest' (next + length g'.locals)) ≡ beside f g (rest (next + length g.locals))
behind f g' g next rest' rest e h = λ i. beside f (e i) (h (next + length (e i).locals) i)

mutual
  process_same : (ks : List Known) (env : Numbers) (depth next : ℕ) (p : ProcessForm)
      → grown_process (map unplaced_known ks) env depth next (unplaced_process p) ≡ grown_process ks env depth next p
  process_same ks env depth next (automaton m ss) = λ i. over (visit_same env depth ss i) (λ states. plain.automaton states (state_number (state_names_same ss i) m))
      (states_same ks env (state_names_same ss i) (depth + 1) next ss i)
  process_same ks env depth next (local ns b) = λ i. over (local_visit_same depth ns i) (plain.local (range_with_len next (length-map ns unplaced_mark i)))
      (let g = block_same ks (numbered_same ns next env i) (depth + 1) (next + length-map ns unplaced_mark i) b i in
      record { whole = g.whole; locals = names_same ns i ++ g.locals; visits = g.visits })
  process_same ks env depth next (freeze m b) = ap (over (visit depth 1) (plain.freeze (number_at env m))) (block_same ks env (depth + 1) next b)
  process_same ks env depth next (run c xs ys) =
      ap (λ o. over (visit depth 0) (λ t. t) (grown_run o env (unplaced_marks xs) (unplaced_marks ys) depth next)) (found_same c.name ks)
      ∙ ap (over (visit depth 0) (λ t. t)) (run_same (found c.name ks) env xs ys depth next)

  block_same : (ks : List Known) (env : Numbers) (depth next : ℕ) (b : BlockForm)
      → grown_block (map unplaced_known ks) env depth next (unplaced_block b) ≡ grown_block ks env depth next b
  block_same ks env depth next no_processes = refl
  block_same ks env depth next (process p no_processes) = process_same ks env depth next p
  block_same ks env depth next (process p (process q b)) =
      ap (over (visit depth 1) plain.parallel)
      (behind plain.process (grown_process (map unplaced_known ks) env (depth + 1) next (unplaced_process p)) (grown_process ks env (depth + 1) next p) next
      (λ n. grown_rest (map unplaced_known ks) env (depth + 1) n (unplaced_block (process q b))) (λ n. grown_rest ks env (depth + 1) n (process q b))
      (process_same ks env (depth + 1) next p) (λ n. rest_same ks env (depth + 1) n (process q b)))

  rest_same : (ks : List Known) (env : Numbers) (depth next : ℕ) (b : BlockForm)
      → grown_rest (map unplaced_known ks) env depth next (unplaced_block b) ≡ grown_rest ks env depth next b
  rest_same ks env depth next no_processes = refl
  rest_same ks env depth next (process p b) =
      behind plain.process (grown_process (map unplaced_known ks) env depth next (unplaced_process p)) (grown_process ks env depth next p) next
      (λ n. grown_rest (map unplaced_known ks) env depth n (unplaced_block b)) (λ n. grown_rest ks env depth n b)
      (process_same ks env depth next p) (λ n. rest_same ks env depth n b)

  states_same : (ks : List Known) (env : Numbers) (names : List (List ℕ)) (depth next : ℕ) (ss : StateForms)
      → grown_states (map unplaced_known ks) env names depth next (unplaced_states ss) ≡ grown_states ks env names depth next ss
  states_same ks env names depth next no_states = refl
  states_same ks env names depth next (state h b ss) =
      ap (λ rules. beside (plain.state rules) (grown_body (map unplaced_known ks) env depth next (unplaced_body b))
      (grown_states (map unplaced_known ks) env names depth (next + length (grown_body (map unplaced_known ks) env depth next (unplaced_body b)).locals) (unplaced_states ss))) (rules_same env names h)
      ∙ behind (plain.state (rules_of env names h)) (grown_body (map unplaced_known ks) env depth next (unplaced_body b)) (grown_body ks env depth next b) next
      (λ n. grown_states (map unplaced_known ks) env names depth n (unplaced_states ss)) (λ n. grown_states ks env names depth n ss)
      (body_same ks env depth next b) (λ n. states_same ks env names depth n ss)

  body_same : (ks : List Known) (env : Numbers) (depth next : ℕ) (b : BodyForm)
      → grown_body (map unplaced_known ks) env depth next (unplaced_body b) ≡ grown_body ks env depth next b
  body_same ks env depth next form.plain = refl
  body_same ks env depth next (refined b) = ap (grown_as plain.body) (block_same ks env depth next b)

-- the components, and the last of them
knowing : List Known → ComponentForm → Known
knowing ks c = record { component = c; grown = λ env depth next. grown_block ks env depth next c.block }

knowing_same : (ks : List Known) (c : ComponentForm) → knowing (map unplaced_known ks) (unplaced_component c) ≡ unplaced_known (knowing ks c)
unfolding knowing
knowing_same ks c = λ i. record { component = unplaced_component c; grown = λ env depth next. block_same ks env depth next c.block i }

known_same : (ks : List Known) (cs : List ComponentForm)
    → known_after (map unplaced_known ks) (map unplaced_component cs) ≡ map unplaced_known (known_after ks cs)
unfolding knowing
known_same ks [] = refl
known_same ks (c ∷ cs) =
    ap (λ k. known_after (map unplaced_known ks ++ k ∷ []) (map unplaced_component cs)) (knowing_same ks c)
    ∙ ap (λ known. known_after known (map unplaced_component cs)) (sym (map-append unplaced_known ks (knowing ks c ∷ [])))
    ∙ known_same (ks ++ knowing ks c ∷ []) cs

pub last_same : {A : Type 0} (f : A → A) (xs : List A) → last_of (map f xs) ≡ option_map f (last_of xs)
last_same f [] = refl
last_same f (x ∷ []) = refl
last_same f (x ∷ y ∷ xs) = last_same f (y ∷ xs)

main_same : (o : Option Known) → main_grown (option_map unplaced_known o) ≡ main_grown o
main_same None = refl
main_same (Some k) =
    let inputs = k.component.inputs in
    let outputs = k.component.outputs in
    let marks : unplaced_marks inputs ++ unplaced_marks outputs ≡ unplaced_marks (inputs ++ outputs) =
    sym (map-append unplaced_mark inputs outputs) in
    let env : numbered (unplaced_marks inputs ++ unplaced_marks outputs) 0 [] ≡ numbered (inputs ++ outputs) 0 [] =
    ap (λ ms. numbered ms 0 []) marks ∙ numbered_same (inputs ++ outputs) 0 [] in
    let next : length (unplaced_marks inputs ++ unplaced_marks outputs) ≡ length (inputs ++ outputs) =
    ap length marks ∙ length-map (inputs ++ outputs) unplaced_mark in
    λ i. over (let n = length-map inputs unplaced_mark i + length-map outputs unplaced_mark i in record { depth = 0; signals = n; automata = 0; codes = 0; size = n }) (λ t. t) (k.grown (env i) 1 (next i))

-- the expansion of components without their places
pub expansion_same : (cs : List ComponentForm) → expansion (map unplaced_component cs) ≡ expansion cs
expansion_same cs = ap (λ ks. main_grown (last_of ks)) (known_same [] cs) ∙ ap main_grown (last_same unplaced_known (known_after [] cs)) ∙ main_same (last_of (known_after [] cs))
