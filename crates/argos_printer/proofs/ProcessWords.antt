-- The words of processes, states and components, one after another.
use Rattle.std.proofs.Common.{◌≡◌, ℕ, ◌+◌, ◌<◌, List, [], ◌∷◌, ◌++◌, length, get_or, drop, map, refl, ap, sym, ◌∙◌, append_assoc}
use Rattle.std.specs.Prelude.{flat_map}
use Rattle.std.proofs.lemmas.List.{append-nil}
use Rattle.std.proofs.lemmas.List.Folds.{flat_map-map}
use Rattle.argos_grammar.specs.Forms.{ComponentForm}
use Rattle.argos_grammar.specs.Printed.{Words, w, process_words, block_words, states_words, component_words, name_words, listed_words, braced_words}
use Rattle.argos_printer.specs.Spaced.{spaced, state_words, interface_words}
use Rattle.argos_grammar.specs.Views.{process_of, block_of, state_of, states_of, component_of}
use Rattle.argos_grammar.specs.declared.trees.ProcessTree.{ProcessTree}
use Rattle.argos_grammar.specs.declared.trees.StateTree.{StateTree}
use Rattle.argos_grammar.specs.declared.trees.ComponentTree.{ComponentTree}
use Rattle.argos_printer.proofs.Spaced.{words, four_appended, spaced-append, spaced_each, spaced_each-drop}

-- a process behind `||`
abbrev pub process_behind : ProcessTree → Words
process_behind p = w "||" ++ process_words (process_of p)

pub block_words-each : (p : ProcessTree) (ps : List ProcessTree) → block_words (block_of (p ∷ ps)) ≡ process_words (process_of p) ++ flat_map process_behind ps
block_words-each p [] = sym (append-nil (process_words (process_of p)))
block_words-each p (q ∷ ps) = append_assoc (process_words (process_of p)) (w "||") (block_words (block_of (q ∷ ps))) ∙ ap (λ r. process_words (process_of p) ++ (w "||" ++ r)) (block_words-each q ps)

pub block_words-cons : (ps : List ProcessTree) (p : ProcessTree) (more : List ProcessTree) → ps ≡ p ∷ more → spaced (block_words (block_of ps)) ≡ spaced (process_words (process_of p)) ++ spaced_each process_behind more
unfolding spaced_each
block_words-cons ps p more e = ap (λ x. spaced (block_words (block_of x))) e ∙ ap spaced (block_words-each p more) ∙ spaced-append (process_words (process_of p)) (flat_map process_behind more)

pub processes_drop : (ps : List ProcessTree) (i : ℕ) (x : ProcessTree) → i < length ps → (get_or ps i x ≡ get_or ps i x) × (spaced_each process_behind (drop i ps) ≡ spaced (w "||") ++ (spaced (process_words (process_of (get_or ps i x))) ++ spaced_each process_behind (drop (i + 1) ps)))
processes_drop ps i x h = (refl, spaced_each-drop process_behind ps i x h)

-- states
abbrev pub state_each : StateTree → Words
state_each s = state_words (state_of s)

states_words-each : (ss : List StateTree) → states_words (states_of ss) ≡ flat_map state_each ss
states_words-each [] = refl
states_words-each (s ∷ ss) = ap (λ r. state_each s ++ r) (states_words-each ss)

pub spaced_states : (ss : List StateTree) → spaced (states_words (states_of ss)) ≡ spaced_each state_each ss
unfolding spaced_each
spaced_states ss = ap spaced (states_words-each ss)

pub states_drop : (ss : List StateTree) (i : ℕ) (x : StateTree) → i < length ss → (get_or ss i x ≡ get_or ss i x) × (spaced_each state_each (drop i ss) ≡ spaced (state_words (state_of (get_or ss i x))) ++ spaced_each state_each (drop (i + 1) ss))
states_drop ss i x h = (refl, spaced_each-drop state_each ss i x h)

pub ruleset process_list = (words, block_words-cons, processes_drop, spaced_states, states_drop)

-- components
abbrev pub component_each : ComponentTree → Words
component_each c = component_words (component_of c)

interface_between : (x l a m d : Words) → x ++ l ++ a ++ m ++ d ≡ x ++ (l ++ a ++ m) ++ d
interface_between x l a m d = simp append_assoc

pub component_written : (c : ComponentForm) (t t1 t2 t3 t4 : List ℕ) → t1 ≡ t ++ spaced (w "component") → t2 ≡ t1 ++ spaced (name_words c.name) → t3 ≡ t2 ++ spaced (interface_words c.inputs c.outputs) → t4 ≡ t3 ++ spaced (braced_words (block_words c.block))
    → t4 ≡ t ++ spaced (component_words c)
component_written c t t1 t2 t3 t4 p q r s =
    let inputs = listed_words c.inputs in
    let outputs = listed_words c.outputs in
    let block = braced_words (block_words c.block) in
    four_appended (w "component") (name_words c.name) (interface_words c.inputs c.outputs) block t t1 t2 t3 t4 p q r s
    ∙ ap (λ x. t ++ spaced x) (sym (interface_between (w "component" ++ name_words c.name) inputs (w "->") outputs block))

pub components_words : (cs : List ComponentTree) → spaced (flat_map component_words (map component_of cs)) ≡ spaced_each component_each cs
unfolding spaced_each
components_words cs = ap spaced (flat_map-map component_words component_of cs)

pub components_drop : (cs : List ComponentTree) (i : ℕ) (x : ComponentTree) → i < length cs → (get_or cs i x ≡ get_or cs i x) × (spaced_each component_each (drop i cs) ≡ spaced (component_words (component_of (get_or cs i x))) ++ spaced_each component_each (drop (i + 1) cs))
components_drop cs i x h = (refl, spaced_each-drop component_each cs i x h)

pub ruleset component_list = (words, components_words, components_drop)
