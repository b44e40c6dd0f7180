-- Which name rules are broken doesn't hang on places: without its places a program breaks the same rules at the same names.
use Rattle.std.proofs.Common.{◌≡◌, ℕ, List, [], ◌∷◌, ◌++◌, Option, Some, None, Bool, true, false, map, length, refl, ap, sym, ◌∙◌}
use Rattle.std.specs.Prelude.{not, ◌&&◌, ◌==◌, bytes_eq, cond, flat_map, option_map}
use Rattle.std.proofs.lemmas.List.{map-append, length-map}
use Rattle.argos_base.specs.Spelling.{is_one_of}
use Rattle.argos_grammar.specs.Forms.{Mark, Formula, Formulas, yes, no, atom, opposite, all, any, no_formulas, formula, TransForm, TimedForm, Head, ProcessForm, automaton, local, freeze, run, BlockForm, no_processes, process, StateForms, no_states, state, BodyForm, plain, refined, ComponentForm}
use Rattle.argos_grammar.specs.Unplaced.{unplaced_mark, unplaced_marks, unplaced_formula, unplaced_formulas, unplaced_trans, unplaced_timed, unplaced_head, unplaced_process, unplaced_block, unplaced_states, unplaced_body, unplaced_component}
use Rattle.argos_names.specs.Scope.{Rule, Unknown, Duplicate, Arity, NoInitial, Breach, Sort, input, output, inner, Scope, sort_in, breach_unless, read_as, emitted_as, declared_as, reading, emitting, with_names, declaring, atoms, atoms_in, state_names, going, in_trans, in_timed, in_head, Around, named, run_as, in_process, in_block, in_states, in_body, in_component, breaches_from, breaches}

abbrev pub unplaced_breach : Breach → Breach
unplaced_breach b = record { rule = b.rule; mark = unplaced_mark b.mark }

abbrev unplaced_breaches : List Breach → List Breach
unplaced_breaches = map unplaced_breach

-- two parts of the breaches
parts : (xs ys xs' ys' : List Breach) → xs' ≡ unplaced_breaches xs → ys' ≡ unplaced_breaches ys → xs' ++ ys' ≡ unplaced_breaches (xs ++ ys)
parts xs ys xs' ys' e f = ap (λ zs. zs ++ ys') e ∙ ap (λ zs. unplaced_breaches xs ++ zs) f ∙ sym (map-append unplaced_breach xs ys)

-- of elements that are made unplaced by u
flat_parts : {A : Type 0} (u : A → A) (f g : A → List Breach) → ((x : A) → g (u x) ≡ unplaced_breaches (f x)) → (xs : List A)
    → flat_map g (map u xs) ≡ unplaced_breaches (flat_map f xs)
flat_parts u f g one [] = refl
flat_parts u f g one (x ∷ xs) = parts (f x) (flat_map f xs) (g (u x)) (flat_map g (map u xs)) (one x) (flat_parts u f g one xs)

read_same : (o : Option Sort) (m : Mark) → read_as o (unplaced_mark m) ≡ unplaced_breaches (read_as o m)
read_same None m = refl
read_same (Some input) m = refl
read_same (Some output) m = refl
read_same (Some inner) m = refl

emitted_same : (o : Option Sort) (m : Mark) → emitted_as o (unplaced_mark m) ≡ unplaced_breaches (emitted_as o m)
emitted_same None m = refl
emitted_same (Some input) m = refl
emitted_same (Some output) m = refl
emitted_same (Some inner) m = refl

declared_same : (o : Option Sort) (m : Mark) → declared_as o (unplaced_mark m) ≡ unplaced_breaches (declared_as o m)
declared_same None m = refl
declared_same (Some s) m = refl

unless_same : (kept : Bool) (r : Rule) (m : Mark) → breach_unless kept r (unplaced_mark m) ≡ unplaced_breaches (breach_unless kept r m)
unless_same true r m = refl
unless_same false r m = refl

reading_same : (s : Scope) (m : Mark) → reading s (unplaced_mark m) ≡ unplaced_breaches (reading s m)
reading_same s m = read_same (sort_in s m.name) m

emitting_same : (s : Scope) (m : Mark) → emitting s (unplaced_mark m) ≡ unplaced_breaches (emitting s m)
emitting_same s m = emitted_same (sort_in s m.name) m

readings_same : (s : Scope) (ms : List Mark) → flat_map (reading s) (unplaced_marks ms) ≡ unplaced_breaches (flat_map (reading s) ms)
readings_same s ms = flat_parts unplaced_mark (reading s) (reading s) (reading_same s) ms

emittings_same : (s : Scope) (ms : List Mark) → flat_map (emitting s) (unplaced_marks ms) ≡ unplaced_breaches (flat_map (emitting s) ms)
emittings_same s ms = flat_parts unplaced_mark (emitting s) (emitting s) (emitting_same s) ms

with_same : (sort : Sort) (ms : List Mark) (s : Scope) → with_names sort (unplaced_marks ms) s ≡ with_names sort ms s
with_same sort [] s = refl
with_same sort (m ∷ ms) s = with_same sort ms ((m.name, sort) ∷ s)

declaring_same : (sort : Sort) (ms : List Mark) (s : Scope) → declaring sort (unplaced_marks ms) s ≡ unplaced_breaches (declaring sort ms s)
declaring_same sort [] s = refl
declaring_same sort (m ∷ ms) s =
    let next : Scope = (m.name, sort) ∷ s in
    parts (declared_as (sort_in s m.name) m) (declaring sort ms next) (declared_as (sort_in s m.name) (unplaced_mark m)) (declaring sort (unplaced_marks ms) next)
    (declared_same (sort_in s m.name) m) (declaring_same sort ms next)

mutual
  atoms_same : (f : Formula Mark) → atoms (unplaced_formula unplaced_mark f) ≡ unplaced_marks (atoms f)
  atoms_same yes = refl
  atoms_same no = refl
  atoms_same (atom a) = refl
  atoms_same (opposite f) = atoms_same f
  atoms_same (all fs) = atoms_in_same fs
  atoms_same (any fs) = atoms_in_same fs

  atoms_in_same : (fs : Formulas Mark) → atoms_in (unplaced_formulas unplaced_mark fs) ≡ unplaced_marks (atoms_in fs)
  atoms_in_same no_formulas = refl
  atoms_in_same (formula f fs) =
      ap (λ ms. ms ++ atoms_in (unplaced_formulas unplaced_mark fs)) (atoms_same f)
      ∙ ap (λ ms. unplaced_marks (atoms f) ++ ms) (atoms_in_same fs)
      ∙ sym (map-append unplaced_mark (atoms f) (atoms_in fs))

pub state_names_same : (ss : StateForms) → state_names (unplaced_states ss) ≡ state_names ss
state_names_same no_states = refl
state_names_same (state h b ss) = ap (λ names. h.name.name ∷ names) (state_names_same ss)

going_same : (names : List (List ℕ)) (m : Mark) → going names (unplaced_mark m) ≡ unplaced_breaches (going names m)
going_same names m = unless_same (is_one_of names m.name) Unknown m

-- transitions and timeouts
three_parts : (xs ys zs xs' ys' zs' : List Breach) → xs' ≡ unplaced_breaches xs → ys' ≡ unplaced_breaches ys → zs' ≡ unplaced_breaches zs
    → xs' ++ ys' ++ zs' ≡ unplaced_breaches (xs ++ ys ++ zs)
three_parts xs ys zs xs' ys' zs' e f g = parts (xs ++ ys) zs (xs' ++ ys') zs' (parts xs ys xs' ys' e f) g

trans_same : (s : Scope) (names : List (List ℕ)) (t : TransForm) → in_trans s names (unplaced_trans t) ≡ unplaced_breaches (in_trans s names t)
trans_same s names t =
    let read : flat_map (reading s) (atoms (unplaced_formula unplaced_mark t.guard)) ≡ unplaced_breaches (flat_map (reading s) (atoms t.guard)) =
    ap (flat_map (reading s)) (atoms_same t.guard) ∙ readings_same s (atoms t.guard) in
    three_parts (flat_map (reading s) (atoms t.guard)) (flat_map (emitting s) t.outs) (going names t.target) _ _ _ read (emittings_same s t.outs) (going_same names t.target)

timed_same : (s : Scope) (names : List (List ℕ)) (o : Option TimedForm)
    → in_timed s names (option_map unplaced_timed o) ≡ unplaced_breaches (in_timed s names o)
timed_same s names None = refl
timed_same s names (Some t) = three_parts (reading s t.signal) (flat_map (emitting s) t.outs) (going names t.target) _ _ _ (reading_same s t.signal) (emittings_same s t.outs) (going_same names t.target)

head_same : (s : Scope) (names : List (List ℕ)) (h : Head) → in_head s names (unplaced_head h) ≡ unplaced_breaches (in_head s names h)
head_same s names h =
    parts (flat_map (in_trans s names) h.trans) (in_timed s names h.timed) _ _
    (flat_parts unplaced_trans (in_trans s names) (in_trans s names) (trans_same s names) h.trans) (timed_same s names h.timed)

-- the components that stand around
abbrev unplaced_around : Around → Around
unplaced_around a = record { earlier = map unplaced_component a.earlier; names = a.names }

found_by : (b : Bool) (c : ComponentForm) (o o' : Option ComponentForm) → o' ≡ option_map unplaced_component o
    → cond b (Some (unplaced_component c)) o' ≡ option_map unplaced_component (cond b (Some c) o)
found_by true c o o' e = refl
found_by false c o o' e = e

named_same : (name : List ℕ) (cs : List ComponentForm) → named name (map unplaced_component cs) ≡ option_map unplaced_component (named name cs)
named_same name [] = refl
named_same name (c ∷ cs) = found_by (bytes_eq c.name.name name) c (named name cs) (named name (map unplaced_component cs)) (named_same name cs)

run_same : (o : Option ComponentForm) (names : List (List ℕ)) (m : Mark) (xs ys : ℕ)
    → run_as (option_map unplaced_component o) names (unplaced_mark m) xs ys ≡ unplaced_breaches (run_as o names m xs ys)
run_same None names m xs ys = refl
run_same (Some c) names m xs ys =
    ap (λ k. breach_unless (k == xs && length (unplaced_marks c.outputs) == ys) Arity (unplaced_mark m)) (length-map c.inputs unplaced_mark)
    ∙ ap (λ k. breach_unless (length c.inputs == xs && k == ys) Arity (unplaced_mark m)) (length-map c.outputs unplaced_mark)
    ∙ unless_same (length c.inputs == xs && length c.outputs == ys) Arity m

runs_same : (a : Around) (c : Mark) (xs ys : List Mark)
    → run_as (named c.name (map unplaced_component a.earlier)) a.names (unplaced_mark c) (length (unplaced_marks xs)) (length (unplaced_marks ys))
    ≡ unplaced_breaches (run_as (named c.name a.earlier) a.names c (length xs) (length ys))
runs_same a c xs ys =
    ap (λ o. run_as o a.names (unplaced_mark c) (length (unplaced_marks xs)) (length (unplaced_marks ys))) (named_same c.name a.earlier)
    ∙ ap (λ k. run_as (option_map unplaced_component (named c.name a.earlier)) a.names (unplaced_mark c) k (length (unplaced_marks ys))) (length-map xs unplaced_mark)
    ∙ ap (λ k. run_as (option_map unplaced_component (named c.name a.earlier)) a.names (unplaced_mark c) (length xs) k) (length-map ys unplaced_mark)
    ∙ run_same (named c.name a.earlier) a.names c (length xs) (length ys)

mutual
  process_same : (a : Around) (s : Scope) (p : ProcessForm)
      → in_process (unplaced_around a) s (unplaced_process p) ≡ unplaced_breaches (in_process a s p)
  process_same a s (automaton i ss) =
      let first : breach_unless (is_one_of (state_names (unplaced_states ss)) i.name) NoInitial (unplaced_mark i) ≡ unplaced_breaches (breach_unless (is_one_of (state_names ss) i.name) NoInitial i) =
      ap (λ names. breach_unless (is_one_of names i.name) NoInitial (unplaced_mark i)) (state_names_same ss) ∙ unless_same (is_one_of (state_names ss) i.name) NoInitial i in
      let rest : in_states (unplaced_around a) s (state_names (unplaced_states ss)) [] (unplaced_states ss) ≡ unplaced_breaches (in_states a s (state_names ss) [] ss) =
      ap (λ names. in_states (unplaced_around a) s names [] (unplaced_states ss)) (state_names_same ss) ∙ states_same a s (state_names ss) [] ss in
      parts (breach_unless (is_one_of (state_names ss) i.name) NoInitial i) (in_states a s (state_names ss) [] ss) _ _ first rest
  process_same a s (local ns b) =
      let rest : in_block (unplaced_around a) (with_names inner (unplaced_marks ns) s) (unplaced_block b) ≡ unplaced_breaches (in_block a (with_names inner ns s) b) =
      ap (λ t. in_block (unplaced_around a) t (unplaced_block b)) (with_same inner ns s) ∙ block_same a (with_names inner ns s) b in
      parts (declaring inner ns s) (in_block a (with_names inner ns s) b) _ _ (declaring_same inner ns s) rest
  process_same a s (freeze m b) = parts (reading s m) (in_block a s b) _ _ (reading_same s m) (block_same a s b)
  process_same a s (run c xs ys) =
      three_parts (run_as (named c.name a.earlier) a.names c (length xs) (length ys)) (flat_map (reading s) xs) (flat_map (emitting s) ys) _ _ _ (runs_same a c xs ys) (readings_same s xs) (emittings_same s ys)

  block_same : (a : Around) (s : Scope) (b : BlockForm) → in_block (unplaced_around a) s (unplaced_block b) ≡ unplaced_breaches (in_block a s b)
  block_same a s no_processes = refl
  block_same a s (process p b) = parts (in_process a s p) (in_block a s b) _ _ (process_same a s p) (block_same a s b)

  states_same : (a : Around) (s : Scope) (names seen : List (List ℕ)) (ss : StateForms)
      → in_states (unplaced_around a) s names seen (unplaced_states ss) ≡ unplaced_breaches (in_states a s names seen ss)
  states_same a s names seen no_states = refl
  states_same a s names seen (state h b ss) =
      let twice = breach_unless (not (is_one_of seen h.name.name)) Duplicate h.name in
      parts (twice ++ in_body a s b ++ in_head s names h) (in_states a s names (h.name.name ∷ seen) ss) _ _
      (three_parts twice (in_body a s b) (in_head s names h) _ _ _ (unless_same (not (is_one_of seen h.name.name)) Duplicate h.name) (body_same a s b) (head_same s names h))
      (states_same a s names (h.name.name ∷ seen) ss)

  body_same : (a : Around) (s : Scope) (b : BodyForm) → in_body (unplaced_around a) s (unplaced_body b) ≡ unplaced_breaches (in_body a s b)
  body_same a s plain = refl
  body_same a s (refined b) = block_same a s b

names_same : (cs : List ComponentForm) → map (λ d. d.name.name) (map unplaced_component cs) ≡ map (λ d. d.name.name) cs
names_same [] = refl
names_same (c ∷ cs) = ap (λ names. c.name.name ∷ names) (names_same cs)

component_same : (a : Around) (c : ComponentForm) → in_component (unplaced_around a) (unplaced_component c) ≡ unplaced_breaches (in_component a c)
component_same a c =
    let inputs : Scope = with_names input c.inputs [] in
    let all_names : Scope = with_names output c.outputs inputs in
    let twice : breach_unless (not (is_one_of (map (λ d. d.name.name) (map unplaced_component a.earlier)) c.name.name)) Duplicate (unplaced_mark c.name)
    ≡ unplaced_breaches (breach_unless (not (is_one_of (map (λ d. d.name.name) a.earlier) c.name.name)) Duplicate c.name) =
    ap (λ names. breach_unless (not (is_one_of names c.name.name)) Duplicate (unplaced_mark c.name)) (names_same a.earlier)
    ∙ unless_same (not (is_one_of (map (λ d. d.name.name) a.earlier) c.name.name)) Duplicate c.name in
    let outputs : declaring output (unplaced_marks c.outputs) (with_names input (unplaced_marks c.inputs) []) ≡ unplaced_breaches (declaring output c.outputs inputs) =
    ap (declaring output (unplaced_marks c.outputs)) (with_same input c.inputs []) ∙ declaring_same output c.outputs inputs in
    let block : in_block (unplaced_around a) (with_names output (unplaced_marks c.outputs) (with_names input (unplaced_marks c.inputs) [])) (unplaced_block c.block) ≡ unplaced_breaches (in_block a all_names c.block) =
    ap (λ t. in_block (unplaced_around a) (with_names output (unplaced_marks c.outputs) t) (unplaced_block c.block)) (with_same input c.inputs [])
    ∙ ap (λ t. in_block (unplaced_around a) t (unplaced_block c.block)) (with_same output c.outputs inputs)
    ∙ block_same a all_names c.block in
    let own = breach_unless (not (is_one_of (map (λ d. d.name.name) a.earlier) c.name.name)) Duplicate c.name in
    parts (own ++ declaring input c.inputs [] ++ declaring output c.outputs inputs) (in_block a all_names c.block) _ _
    (three_parts own (declaring input c.inputs []) (declaring output c.outputs inputs) _ _ _ twice (declaring_same input c.inputs []) outputs) block

from_same : (names : List (List ℕ)) (earlier cs : List ComponentForm)
    → breaches_from names (map unplaced_component earlier) (map unplaced_component cs) ≡ unplaced_breaches (breaches_from names earlier cs)
from_same names earlier [] = refl
from_same names earlier (c ∷ cs) =
    let a : Around = record { earlier = earlier; names = names } in
    let rest : breaches_from names (map unplaced_component earlier ++ unplaced_component c ∷ []) (map unplaced_component cs) ≡ unplaced_breaches (breaches_from names (earlier ++ c ∷ []) cs) =
    ap (λ es. breaches_from names es (map unplaced_component cs)) (sym (map-append unplaced_component earlier (c ∷ []))) ∙ from_same names (earlier ++ c ∷ []) cs in
    parts (in_component a c) (breaches_from names (earlier ++ c ∷ []) cs) _ _ (component_same a c) rest

-- the breaches without their places
pub breaches_same : (cs : List ComponentForm) → breaches (map unplaced_component cs) ≡ map unplaced_breach (breaches cs)
breaches_same cs = ap (λ names. breaches_from names [] (map unplaced_component cs)) (names_same cs) ∙ from_same (map (λ c. c.name.name) cs) [] cs
