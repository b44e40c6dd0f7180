-- The expansion of components into one process, with a list of pairs from names in scope to numbers of signals. Source: this project.
use Rattle.std.specs.Prelude.{ℕ, ◌+◌, List, [], ◌∷◌, ◌++◌, length, map, Option, Some, None, eqb, bytes_eq, if◌then◌else◌, sum_by, option_map, zip, find}
use Rattle.std.specs.List.{list_any, position_or_len, range_with_len}
use Rattle.argos_grammar.specs.Forms.{Mark, Formula, Formulas, GuardForm, TransForm, TimedForm, Head, ProcessForm, automaton, local, freeze, run, BlockForm, no_processes, process, StateForms, no_states, state, BodyForm, plain, refined, ComponentForm}
use Rattle.argos_grammar.specs.Forms.{yes, no, atom, opposite, all, any, no_formulas, formula}
use Rattle.argos_names.specs.Scope.{state_names}
use Rattle.argos_core.specs.Process as plain

-- names with their numbers, the innermost first
abbrev pub Numbers : Type 0
Numbers = List (List ℕ × ℕ)

abbrev pub number_in : Numbers → List ℕ → ℕ
number_in [] name = 0
number_in (e ∷ es) name = if bytes_eq e.0 name then e.1 else number_in es name

abbrev pub number_at : Numbers → Mark → ℕ
number_at env m = number_in env m.name

-- these names with the numbers from n on, in front
abbrev pub numbered : List Mark → ℕ → Numbers → Numbers
numbered [] n env = env
numbered (m ∷ ms) n env = numbered ms (n + 1) ((m.name, n) ∷ env)

-- these names with these numbers
abbrev pub paired : List Mark → List ℕ → Numbers
paired ms ns = zip (map (λ m. m.name) ms) ns

-- each number once, at its first place
abbrev pub once_after : List ℕ → List ℕ → List ℕ
once_after seen [] = []
once_after seen (n ∷ ns) = if list_any (eqb n) seen then once_after seen ns else n ∷ once_after (n ∷ seen) ns

abbrev pub once : List ℕ → List ℕ
once = once_after []

abbrev pub outs_of : Numbers → List Mark → List ℕ
outs_of env ms = once (map (number_at env) ms)

-- the number of the state with this name
abbrev pub state_number : List (List ℕ) → Mark → ℕ
state_number names m = position_or_len (bytes_eq m.name) names

abbrev mutual
  pub guard_of : Numbers → GuardForm → plain.Guard
  guard_of env yes = plain.always
  guard_of env no = plain.never
  guard_of env (atom m) = plain.present (number_at env m)
  guard_of env (opposite f) = plain.negation (guard_of env f)
  guard_of env (all fs) = plain.all (guards_of env fs)
  guard_of env (any fs) = plain.any (guards_of env fs)

  pub guards_of : Numbers → Formulas Mark → plain.Guards
  guards_of env no_formulas = plain.no_guards
  guards_of env (formula f fs) = plain.guard (guard_of env f) (guards_of env fs)

-- the nodes of a guard
abbrev mutual
  pub nodes_of : {A : Type 0} → Formula A → ℕ
  nodes_of yes = 1
  nodes_of no = 1
  nodes_of (atom a) = 1
  nodes_of (opposite f) = nodes_of f + 1
  nodes_of (all fs) = nodes_in fs + 1
  nodes_of (any fs) = nodes_in fs + 1

  pub nodes_in : {A : Type 0} → Formulas A → ℕ
  nodes_in no_formulas = 0
  nodes_in (formula f fs) = nodes_of f + nodes_in fs

abbrev pub transition_of : Numbers → List (List ℕ) → TransForm → plain.Transition
transition_of env names t = record { guard = guard_of env t.guard; outs = outs_of env t.outs; target = state_number names t.target }

abbrev pub timeout_of : Numbers → List (List ℕ) → TimedForm → plain.Timeout
timeout_of env names t = record { count = t.count; signal = number_at env t.signal; outs = outs_of env t.outs; target = state_number names t.target }

-- a state without its body
abbrev pub rules_of : Numbers → List (List ℕ) → Head → plain.Rules
rules_of env names h = record { name = h.name.name; transitions = map (transition_of env names) h.trans; timeout = option_map (timeout_of env names) h.timed }

-- what one visited node adds to the counts, and its depth
pub record Visit : Type 0 where
  pub depth : ℕ
  pub signals : ℕ
  pub automata : ℕ
  pub codes : ℕ
  pub size : ℕ

-- a process, or a part of one, with the names of its locals in order and the visits of its nodes in order
pub record Grown (A : Type 0) : Type 0 where
  pub whole : A
  pub locals : List (List ℕ)
  pub visits : List Visit

-- a component, and what it grows to: under names with numbers, at a depth, and where the next free number is this
pub record Known : Type 0 where
  pub component : ComponentForm
  pub grown : Numbers → ℕ → ℕ → Grown plain.Process

abbrev pub found : List ℕ → List Known → Option Known
found name = find (λ k. bytes_eq k.component.name.name name)

-- a node of this depth and size
abbrev pub visit : ℕ → ℕ → Visit
visit depth size = record { depth = depth; signals = 0; automata = 0; codes = 0; size = size }

abbrev pub codes_of : Option TimedForm → ℕ
codes_of None = 1
codes_of (Some t) = t.count

abbrev pub size_of_trans : Numbers → TransForm → ℕ
size_of_trans env t = 1 + nodes_of t.guard + length (outs_of env t.outs)

abbrev pub size_of_timed : Numbers → Option TimedForm → ℕ
size_of_timed env None = 0
size_of_timed env (Some t) = 1 + length (outs_of env t.outs)

abbrev pub codes_in : StateForms → ℕ
codes_in no_states = 0
codes_in (state h b ss) = codes_of h.timed + codes_in ss

-- the states, with their transitions and timeouts, and without their bodies
abbrev pub size_in : Numbers → StateForms → ℕ
size_in env no_states = 0
size_in env (state h b ss) = 1 + sum_by (size_of_trans env) h.trans + size_of_timed env h.timed + size_in env ss

abbrev pub automaton_visit : Numbers → ℕ → StateForms → Visit
automaton_visit env depth ss = record { depth = depth; signals = 0; automata = 1; codes = codes_in ss; size = 1 + size_in env ss }

abbrev pub local_visit : ℕ → List Mark → Visit
local_visit depth ns = record { depth = depth; signals = length ns; automata = 0; codes = 0; size = 1 + length ns }

-- another node above, or beside
abbrev pub over : {A B : Type 0} → Visit → (A → B) → Grown A → Grown B
over v f g = record { whole = f g.whole; locals = g.locals; visits = v ∷ g.visits }

abbrev pub beside : {A B C : Type 0} → (A → B → C) → Grown A → Grown B → Grown C
beside f a b = record { whole = f a.whole b.whole; locals = a.locals ++ b.locals; visits = a.visits ++ b.visits }

abbrev pub grown_as : {A B : Type 0} → (A → B) → Grown A → Grown B
grown_as f g = record { whole = f g.whole; locals = g.locals; visits = g.visits }

abbrev pub alone : {A : Type 0} → A → Grown A
alone x = record { whole = x; locals = []; visits = [] }

-- the local names come first
abbrev pub with_locals : List Mark → {A : Type 0} → Grown A → Grown A
with_locals ns g = record { whole = g.whole; locals = map (λ m. m.name) ns ++ g.locals; visits = g.visits }

-- the block of the component that is run, under the pairs of its formal names with the actual numbers
abbrev pub grown_run : Option Known → Numbers → List Mark → List Mark → ℕ → ℕ → Grown plain.Process
grown_run None env xs ys depth next = alone (plain.parallel plain.no_processes)
grown_run (Some k) env xs ys depth next = k.grown (paired (k.component.inputs ++ k.component.outputs) (map (number_at env) (xs ++ ys))) (depth + 1) next

-- A process at this depth, where next is the first free number; a block; its processes; states; a body.
abbrev mutual
  pub grown_process : List Known → Numbers → ℕ → ℕ → ProcessForm → Grown plain.Process
  grown_process ks env depth next (automaton i ss) = over (automaton_visit env depth ss) (λ states. plain.automaton states (state_number (state_names ss) i))
      (grown_states ks env (state_names ss) (depth + 1) next ss)
  grown_process ks env depth next (local ns b) = over (local_visit depth ns) (plain.local (range_with_len next (length ns)))
      (with_locals ns (grown_block ks (numbered ns next env) (depth + 1) (next + length ns) b))
  grown_process ks env depth next (freeze m b) = over (visit depth 1) (plain.freeze (number_at env m)) (grown_block ks env (depth + 1) next b)
  grown_process ks env depth next (run c xs ys) = over (visit depth 0) (λ t. t) (grown_run (found c.name ks) env xs ys depth next)

  pub grown_block : List Known → Numbers → ℕ → ℕ → BlockForm → Grown plain.Process
  grown_block ks env depth next no_processes = alone (plain.parallel plain.no_processes)
  grown_block ks env depth next (process p no_processes) = grown_process ks env depth next p
  grown_block ks env depth next (process p (process q b)) = over (visit depth 1) plain.parallel
      (let g = grown_process ks env (depth + 1) next p in beside plain.process g (grown_rest ks env (depth + 1) (next + length g.locals) (process q b)))

  pub grown_rest : List Known → Numbers → ℕ → ℕ → BlockForm → Grown plain.Processes
  grown_rest ks env depth next no_processes = alone plain.no_processes
  grown_rest ks env depth next (process p b) = let g = grown_process ks env depth next p in beside plain.process g (grown_rest ks env depth (next + length g.locals) b)

  pub grown_states : List Known → Numbers → List (List ℕ) → ℕ → ℕ → StateForms → Grown plain.States
  grown_states ks env names depth next no_states = alone plain.no_states
  grown_states ks env names depth next (state h b ss) =
      let g = grown_body ks env depth next b in
      beside (plain.state (rules_of env names h)) g
      (grown_states ks env names depth (next + length g.locals) ss)

  pub grown_body : List Known → Numbers → ℕ → ℕ → BodyForm → Grown plain.Body
  grown_body ks env depth next plain = alone plain.no_body
  grown_body ks env depth next (refined b) = grown_as plain.body (grown_block ks env depth next b)

-- the components, each of which knows those before it; of two with one name the first is found
abbrev pub known_after : List Known → List ComponentForm → List Known
known_after ks [] = ks
known_after ks (c ∷ cs) = known_after (ks ++ record { component = c; grown = λ env depth next. grown_block ks env depth next c.block } ∷ []) cs

-- the last of the components
abbrev pub last_of : {A : Type 0} → List A → Option A
last_of [] = None
last_of (x ∷ []) = Some x
last_of (x ∷ y ∷ more) = last_of (y ∷ more)

-- the inputs and outputs of the main component are counted before the first node
abbrev pub header_visit : ComponentForm → Visit
header_visit c = let n = length c.inputs + length c.outputs in record { depth = 0; signals = n; automata = 0; codes = 0; size = n }

-- the main component under the numbers of its inputs and outputs
abbrev pub main_grown : Option Known → Grown plain.Process
main_grown None = alone (plain.parallel plain.no_processes)
main_grown (Some k) = let ms = k.component.inputs ++ k.component.outputs in
    over (header_visit k.component) (λ t. t) (k.grown (numbered ms 0 []) 1 (length ms))

abbrev pub expansion : List ComponentForm → Grown plain.Process
expansion cs = main_grown (last_of (known_after [] cs))
