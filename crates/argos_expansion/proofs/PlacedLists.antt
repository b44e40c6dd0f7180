-- Processes, states and components of which the names are looked up, one after another.
use Rattle.std.proofs.Common.{◌≡◌, ℕ, ◌+◌, ◌-◌, ◌<◌, ◌≤◌, zero, suc, List, [], ◌∷◌, ◌++◌, Option, Some, None, Bool, true, false, cond, map, length, get_or, take, drop, refl, sym, ap, ◌∙◌, Vec, add-one, append_assoc, arith}
use Rattle.std.specs.Prelude.{bytes_eq, option_map, nat_lt}
use Rattle.std.specs.List.{range_with_len}
use Rattle.std.specs.declared.alloc.Global.{Global}
use Rattle.std.proofs.lemmas.Bool.{cond_below, cond_above}
use Rattle.std.proofs.lemmas.Bool.Decides.{nat_tests}
use Rattle.std.proofs.lemmas.Grind.{common_steps}
use Rattle.std.proofs.lemmas.List.{at_drop_more, at_drop_all, append-nil, drop-drop, get_or-map, length-map, map_push, take_more}
use Rattle.argos_base.specs.declared.signals.SigId.{SigId}
use Rattle.argos_core.specs.Views.{numbers}
use Rattle.argos_grammar.specs.Forms.{Mark, ComponentForm}
use Rattle.argos_grammar.specs.Views as tree
use Rattle.argos_grammar.specs.Views.{mark_of, marks_of, process_of, block_of, states_of, component_of}
use Rattle.argos_grammar.specs.declared.trees.Spot.{Spot}
use Rattle.argos_grammar.specs.declared.trees.ProcessTree.{ProcessTree}
use Rattle.argos_grammar.specs.declared.trees.StateTree.{StateTree}
use Rattle.argos_grammar.specs.declared.trees.ComponentTree.{ComponentTree}
use Rattle.argos_expansion.specs.Expansion.{Numbers, numbered, paired}
use Rattle.argos_expansion.specs.inner.FirstPlaces.{first_place}
use Rattle.argos_expansion.specs.inner.Placing.{placed_process, placed_block, placed_states, placed_state, signal_count, used_scope, main_scope, placed_component, placed_components, placed_main}
use Rattle.argos_expansion.specs.inner.Shapes.{ProcessShape, automaton, local, freeze, run, BlockShape, process, state, StateShape, ComponentShape, block_from, states_from, process_layer, state_layer, process_shape, block_shape, states_shape, state_shape, component_shape}
use Rattle.argos_expansion.specs.declared.placed.PlacedProcess.{PlacedProcess}
use Rattle.argos_expansion.specs.declared.placed.PlacedProcess.TheVariants as variant
use Rattle.argos_expansion.specs.declared.placed.PlacedProcess.TheOpen.{PlacedProcess-F}
use Rattle.argos_expansion.specs.declared.placed.PlacedProcess.TheFolds.{fold-roll-PlacedProcess}
use Rattle.argos_expansion.specs.declared.placed.PlacedState.{PlacedState}
use Rattle.argos_expansion.specs.declared.placed.PlacedComponent.{PlacedComponent}
use Rattle.argos_expansion.proofs.ScopeLists.{numbered-two}

pub shape-Automaton : (i k : ℕ) (ss : Vec PlacedState Global) → process_shape (variant.Automaton i k ss) ≡ automaton i k (states_shape ss.items)
shape-Automaton i k ss = ap process_shape (sym (variant.rolls-Automaton i k ss)) ∙ fold-roll-PlacedProcess ProcessShape StateShape process_layer state_layer (PlacedProcess-F.Automaton i k ss)

pub shape-Local : (ns : Vec Spot Global) (ps : Vec PlacedProcess Global) → process_shape (variant.Local ns ps) ≡ local (marks_of ns.items) (block_shape ps.items)
shape-Local ns ps = ap process_shape (sym (variant.rolls-Local ns ps)) ∙ fold-roll-PlacedProcess ProcessShape StateShape process_layer state_layer (PlacedProcess-F.Local ns ps)

pub shape-Freeze : (s : SigId) (ps : Vec PlacedProcess Global) → process_shape (variant.Freeze s ps) ≡ freeze s.0 (block_shape ps.items)
shape-Freeze s ps = ap process_shape (sym (variant.rolls-Freeze s ps)) ∙ fold-roll-PlacedProcess ProcessShape StateShape process_layer state_layer (PlacedProcess-F.Freeze s ps)

pub shape-Run : (o : Option ℕ) (ss : Vec SigId Global) → process_shape (variant.Run o ss) ≡ run o (numbers ss.items)
shape-Run o ss = ap process_shape (sym (variant.rolls-Run o ss)) ∙ fold-roll-PlacedProcess ProcessShape StateShape process_layer state_layer (PlacedProcess-F.Run o ss)

-- processes, one by one
module _ (known : List (List ℕ)) (env : Numbers) (n : ℕ) where
  abbrev pub placed_each : ProcessTree → ProcessShape
  placed_each f = placed_process known env n (process_of f)

  each_block : (fs : List ProcessTree) → block_from (map placed_each fs) ≡ placed_block known env n (block_of fs)
  each_block [] = refl
  each_block (f ∷ fs) = ap (process (placed_each f)) (each_block fs)

  pub block_made : (ps : List PlacedProcess) (fs : List ProcessTree) → map process_shape ps ≡ map placed_each fs → block_shape ps ≡ placed_block known env n (block_of fs)
  block_made ps fs e = ap block_from e ∙ each_block fs

  module _ (names : List (List ℕ)) where
    abbrev pub placed_one : StateTree → StateShape
    placed_one f = placed_state known env n names (tree.state_of f)

    each_state : (fs : List StateTree) → states_from (map placed_one fs) ≡ placed_states known env n names (states_of fs)
    each_state [] = refl
    each_state (f ∷ fs) = ap (state (placed_one f).rules (placed_one f).body) (each_state fs)

    pub states_made : (ss : List PlacedState) (fs : List StateTree) → map state_shape ss ≡ map placed_one fs → states_shape ss ≡ placed_states known env n names (states_of fs)
    states_made ss fs e = ap states_from e ∙ each_state fs

-- names that leave again
pub numbered_leave : (ss : List Spot) (n : ℕ) (env : Numbers) → drop (length ss) (numbered (marks_of ss) n env) ≡ env
numbered_leave [] n env = refl
numbered_leave (s ∷ ss) n env =
    let all = numbered (marks_of ss) (n + 1) ((s.name, n) ∷ env) in
    ap (λ k. drop k all) (sym (add-one (length ss))) ∙ sym (drop-drop 1 (length ss) all) ∙ ap (drop 1) (numbered_leave ss (n + 1) ((s.name, n) ∷ env))

-- a name among the first ones
abbrev pub within : ℕ → Option ℕ → Option ℕ
within k None = None
within k (Some j) = cond (nat_lt j k) (Some j) None

none_within : (o : Option ℕ) → None ≡ within 0 o
none_within None = refl
none_within (Some j) = cond_above j 0 (Some j) None None (omega arith) refl

within_on : (k : ℕ) (o : Option ℕ) → option_map suc (within k o) ≡ within (suc k) (option_map suc o)
within_on k None = refl
within_on k (Some j) = moved (nat_lt j k) (nat_lt (suc j) (suc k)) (grind (arith, nat_tests))
  where
    moved : (b c : Bool) → b ≡ c → option_map suc (cond b (Some j) None) ≡ cond c (Some (suc j)) None
    moved true true e = refl
    moved true false e = cc
    moved false true e = cc
    moved false false e = refl

first_pick : (b : Bool) (k : ℕ) (o p : Option ℕ) → o ≡ within k p → cond b (Some 0) (option_map suc o) ≡ within (suc k) (cond b (Some 0) (option_map suc p))
first_pick true k o p h = cond_below 0 (suc k) (Some 0) None (omega arith)
first_pick false k o p h = ap (option_map suc) h ∙ within_on k p

first_taken : (name : List ℕ) (ns : List (List ℕ)) (k : ℕ) → first_place name (take k ns) ≡ within k (first_place name ns)
first_taken name [] zero = refl
first_taken name [] (suc k) = refl
first_taken name (n ∷ ns) zero = none_within (first_place name (n ∷ ns))
first_taken name (n ∷ ns) (suc k) = first_pick (bytes_eq n name) k _ _ (first_taken name ns k)

pub first_none : (name : List ℕ) (ns : List (List ℕ)) (k : ℕ) → first_place name ns ≡ None → first_place name (take k ns) ≡ None
first_none name ns k h = first_taken name ns k ∙ ap (within k) h

pub first_within : (name : List ℕ) (ns : List (List ℕ)) (k j : ℕ) → first_place name ns ≡ Some j → j < k → first_place name (take k ns) ≡ Some j
first_within name ns k j h l = first_taken name ns k ∙ ap (within k) h ∙ sym (cond_below j k (Some j) None l)

pub first_beyond : (name : List ℕ) (ns : List (List ℕ)) (k j : ℕ) → first_place name ns ≡ Some j → k ≤ j → first_place name (take k ns) ≡ None
first_beyond name ns k j h l = first_taken name ns k ∙ ap (within k) h ∙ sym (cond_above j k (Some j) None None l refl)

-- the signals of a component that is used
used_split : (xs ys : List Mark) (a : ℕ) → paired (xs ++ ys) (range_with_len a (length xs + length ys)) ≡ paired xs (range_with_len a (length xs)) ++ paired ys (range_with_len (a + length xs) (length ys))
used_split [] ys a =
    let e : 0 + length ys ≡ length ys = omega arith in
    let f : a + 0 ≡ a = omega arith in
    ap (λ n. paired ys (range_with_len a n)) e ∙ ap (λ k. paired ys (range_with_len k (length ys))) (sym f)
used_split (x ∷ xs) ys a =
    let e : suc (length xs) + length ys ≡ suc (length xs + length ys) = omega arith in
    let f : a + 1 + length xs ≡ a + suc (length xs) = omega arith in
    ap (λ n. paired (x ∷ xs ++ ys) (range_with_len a n)) e
    ∙ ap (λ (es : Numbers). (x.name, a) ∷ es) (used_split xs ys (a + 1))
    ∙ ap (λ k. (x.name, a) ∷ (paired xs (range_with_len (a + 1) (length xs)) ++ paired ys (range_with_len k (length ys)))) f

module _ (known : List (List ℕ)) (c : ComponentTree) (outputs count : ℕ) (ins outs : List Spot) (parts : List ProcessTree) (block : BlockShape) (r s t : Numbers)
    (is_ins : ins ≡ c.inputs.items) (is_outs : outs ≡ c.outputs.items) (is_parts : parts ≡ c.block.items) (first : outputs ≡ 1 + length c.inputs.items) (all : count ≡ outputs + length c.outputs.items) (none : r ≡ []) where
  abbrev form : ComponentForm
  form = component_of c

  many_ins : length (marks_of c.inputs.items) ≡ length c.inputs.items
  many_ins = length-map c.inputs.items mark_of

  many_outs : length (marks_of c.outputs.items) ≡ length c.outputs.items
  many_outs = length-map c.outputs.items mark_of

  pub component_placed : s ≡ paired (marks_of outs) (range_with_len outputs (length outs)) ++ r → t ≡ paired (marks_of ins) (range_with_len 1 (length ins)) ++ s → block ≡ placed_block known t count (block_of parts)
      → record { signals = count - 1; block = block } ≡ placed_component known form
  component_placed second third made =
      let n = many_ins in
      let m = many_outs in
      let sized : count - 1 ≡ signal_count form = omega arith in
      let next : count ≡ 1 + signal_count form = omega arith in
      let o : outputs ≡ 1 + length (marks_of c.inputs.items) = omega arith in
      let inner : s ≡ paired form.outputs (range_with_len (1 + length form.inputs) (length form.outputs)) =
      second ∙ ap (λ es. paired (marks_of outs) (range_with_len outputs (length outs)) ++ es) none ∙ append-nil (paired (marks_of outs) (range_with_len outputs (length outs)))
      ∙ ap (λ (ys : List Spot). paired (marks_of ys) (range_with_len outputs (length ys))) is_outs
      ∙ ap (λ k. paired form.outputs (range_with_len outputs k)) (sym m)
      ∙ ap (λ k. paired form.outputs (range_with_len k (length form.outputs))) o in
      let scope : t ≡ used_scope form =
      third ∙ ap (λ (xs : List Spot). paired (marks_of xs) (range_with_len 1 (length xs)) ++ s) is_ins
      ∙ ap (λ k. paired form.inputs (range_with_len 1 k) ++ s) (sym n)
      ∙ ap (λ es. paired form.inputs (range_with_len 1 (length form.inputs)) ++ es) inner
      ∙ sym (used_split form.inputs form.outputs 1) in
      let b : block ≡ placed_block known (used_scope form) (1 + signal_count form) form.block =
      made ∙ ap (λ es. placed_block known es count (block_of parts)) scope ∙ ap (λ k. placed_block known (used_scope form) k (block_of parts)) next ∙ ap (λ ps. placed_block known (used_scope form) (1 + signal_count form) (block_of ps)) is_parts in
      ap (λ k. let x : ComponentShape = record { signals = k; block = block } in x) sized ∙ ap (λ y. let x : ComponentShape = record { signals = signal_count form; block = y } in x) b

  pub main_placed : s ≡ numbered (marks_of ins) 1 r → t ≡ numbered (marks_of outs) outputs s → block ≡ placed_block known t count (block_of parts) → block ≡ placed_main known form
  main_placed second third made =
      let n = many_ins in
      let m = many_outs in
      let next : count ≡ 1 + signal_count form = omega arith in
      let o : outputs ≡ 1 + length (marks_of c.inputs.items) = omega arith in
      let inner : s ≡ numbered form.inputs 1 [] = second ∙ ap (numbered (marks_of ins) 1) none ∙ ap (λ (xs : List Spot). numbered (marks_of xs) 1 []) is_ins in
      let scope : t ≡ main_scope form =
      third ∙ ap (λ (ys : List Spot). numbered (marks_of ys) outputs s) is_outs ∙ ap (λ k. numbered form.outputs k s) o ∙ ap (numbered form.outputs (1 + length form.inputs)) inner ∙ sym (numbered-two form.inputs form.outputs 1 []) in
      made ∙ ap (λ es. placed_block known es count (block_of parts)) scope ∙ ap (λ k. placed_block known (main_scope form) k (block_of parts)) next ∙ ap (λ ps. placed_block known (main_scope form) (1 + signal_count form) (block_of ps)) is_parts

-- one more component
pub components_step : (names : List (List ℕ)) (cs : List ComponentTree) (i : ℕ) (x : ComponentTree) (done more : List PlacedComponent) (p : PlacedComponent) (all : List ComponentShape) → names ≡ map (λ c. c.name.name) (map component_of cs) → i < length cs → x ≡ get_or cs i x
    → more ≡ done ++ p ∷ [] → component_shape p ≡ placed_component (take i names) (component_of x) → map component_shape done ++ placed_components (take i names) (map component_of (drop i cs)) ≡ all
    → map component_shape more ++ placed_components (take (i + 1) names) (map component_of (drop (i + 1) cs)) ≡ all
components_step names cs i x done more p all e below at push made before =
    let y = get_or cs i x in
    let rest = map component_of (drop (i + 1) cs) in
    let forms : length (map component_of cs) ≡ length cs = length-map cs component_of in
    let many : length names ≡ length cs = ap (λ (ns : List (List ℕ)). length ns) e ∙ length-map (map component_of cs) (λ (c : ComponentForm). c.name.name) ∙ forms in
    let called : get_or names i x.name.name ≡ y.name.name = ap (λ (ns : List (List ℕ)). get_or ns i x.name.name) e
    ∙ get_or-map (λ (c : ComponentForm). c.name.name) (map component_of cs) i (component_of x) x.name.name (omega arith)
    ∙ ap (λ (c : ComponentForm). c.name.name) (get_or-map component_of cs i x (component_of x) below) in
    let named : take (i + 1) names ≡ take i names ++ y.name.name ∷ [] = take_more names i x.name.name (omega arith) ∙ ap (λ n. take i names ++ n ∷ []) called in
    let here : component_shape p ≡ placed_component (take i names) (component_of y) = made ∙ ap (λ z. placed_component (take i names) (component_of z)) at in
    ap (λ ps. map component_shape ps ++ placed_components (take (i + 1) names) rest) push
    ∙ ap (λ ss. ss ++ placed_components (take (i + 1) names) rest) (map_push component_shape done p)
    ∙ append_assoc (map component_shape done) (component_shape p ∷ []) (placed_components (take (i + 1) names) rest)
    ∙ ap (λ ns. map component_shape done ++ component_shape p ∷ placed_components ns rest) named
    ∙ ap (λ s. map component_shape done ++ s ∷ placed_components (take i names ++ y.name.name ∷ []) rest) here
    ∙ ap (λ ss. map component_shape done ++ ss) (sym (at_drop_more (λ cs. placed_components (take i names) (map component_of cs)) cs i x below))
    ∙ before

pub ruleset placed_lists = (common_steps, shape-Automaton, shape-Local, shape-Freeze, shape-Run, block_made, states_made, numbered_leave, first_none, first_within, first_beyond, length-map)
