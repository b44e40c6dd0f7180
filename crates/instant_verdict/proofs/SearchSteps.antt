-- What the search over a system's diagrams finds is the verdict for some functions that say what the system does.
use Rattle.std.proofs.Common.{◌≡◌, ◌↔◌, ℕ, zero, suc, ◌+◌, ◌*◌, ◌<◌, ◌≤◌, List, [], ◌∷◌, ◌++◌, Bool, true, false, ◌&&◌, nat_lt, nat_le, slice_index_or, length, map, drop, filter, flat_map, All, Result, Ok, Err, IfOk, inl, inr, refl, sym, ap, ◌∙◌, subst, arith, length-append}
use Rattle.std.proofs.Math.Nat.{eq-or-lt_of_le}
use Rattle.std.proofs.lemmas.List.{length-map, length-drop}
use Rattle.std.proofs.lemmas.Bool.Decides.{nat_tests}
use Rattle.argos_base.specs.SignalSets.{SignalSet}
use Rattle.argos_base.proofs.Bools.{true_or_false, and_first, and_second}
use Rattle.argos_core.specs.declared.layouts.Shape.{Shape}
use Rattle.argos_core.specs.Layouts.{RegisterShape, FitsLayout}
use Rattle.argos_core.specs.Views.{register_shape_of}
use Rattle.dd_core.specs.declared.nodes.NodeId.{NodeId}
use Rattle.dd_core.specs.Arenas.{ArenaView, IsArena, Holds, function_of, Keeps, AddsAtMost}
use Rattle.dd_core.proofs.Composing.{Keeps-trans}
use Rattle.dd_core.proofs.Making.{function_of-false}
use Rattle.dd_core.proofs.Walks.{held_constant}
use Rattle.eqn_completion.specs.Binary.{in_binary, memory_of, digits_in, FitsIn}
use Rattle.eqn_completion.specs.Findings.{Finding}
use Rattle.eqn_completion.proofs.Ordering.{memory-binary, fits-memory, binary-memory}
use Rattle.eqn_core.specs.Equations.{Equations, registers, bit_count, weight_of}
use Rattle.eqn_core.specs.Orderable.{IsOrderable}
use Rattle.eqn_core.specs.Ordered.{all_below, all_between}
use Rattle.eqn_core.specs.Plans.{IsPlanOf}
use Rattle.eqn_dd.specs.declared.places.Places.{Places}
use Rattle.eqn_dd.specs.Completed.{DenoteCompletions}
use Rattle.eqn_dd.specs.Denoting.{IsWord}
use Rattle.eqn_dd.specs.Laws.{finding_of, row_of}
use Rattle.eqn_dd.specs.Placed.{AreInTurn, NamesRegisters, NamesVariables, registers_from}
use Rattle.eqn_dd.specs.Structural.{digit_count, widths_of, DenotesLayout}
use Rattle.eqn_dd.proofs.Denotations.{adds_in_turn, adds_fewer}
use Rattle.eqn_dd.proofs.InTurn.{names_registers, names_variables, widths_narrow}
use Rattle.eqn_dd.proofs.Denoted.{denoted_diagrams, denoted_layouts}
use Rattle.eqn_verdict.specs.Diagrams.{Splits, are_same}
use Rattle.eqn_verdict.specs.FromDiagrams.{never, consistent_of, results_of}
use Rattle.eqn_verdict.specs.Needs.{JobSize, variables, results, making_operations, agreeing_operations, instant_operations}
use Rattle.eqn_verdict.specs.Searching.{Test}
use Rattle.eqn_verdict.specs.Structural.{fits}
use Rattle.eqn_verdict.specs.Verdicts.{AreWidths}
use Rattle.eqn_verdict.proofs.Fitting.{fits_is_test}
use Rattle.eqn_verdict.proofs.FromDiagrams.{diagrams_give_findings}
use Rattle.instant_verdict.specs.Jobs.{job_size, job_variables}
use Rattle.instant_verdict.specs.inner.Searched.{IsVerdictFound, node_or_false}
use Rattle.verdict_search.specs.Consistency.{IsConsistency}
use Rattle.verdict_search.specs.Counts.{agreeing_count, finding_count}
use Rattle.verdict_search.specs.Outcomes.{IsFound, AreSized}
use Rattle.verdict_search.specs.Parts.{meet}
use Rattle.verdict_search.specs.Splitting.{AreSplit, IsTestOf, AreSearched}
use Rattle.verdict_search.specs.declared.finding.Found.{Found}

same_answers : (a b : Bool) → (a ≡ true → b ≡ true) → (b ≡ true → a ≡ true) → a ≡ b
same_answers true true f g = refl
same_answers false false f g = refl
same_answers true false f g = absurd (never-true (f refl))
  where
    never-true : false ≡ true → ⊥
    never-true e = cc
same_answers false true f g = absurd (never-true (g refl))
  where
    never-true : false ≡ true → ⊥
    never-true e = cc

applied : (y x : SignalSet) (h : ℕ → Finding) (ks : List ℕ) → map (λ (g : Finding). g y x) (map h ks) ≡ map (λ (k : ℕ). h k y x) ks
applied y x h [] = refl
applied y x h (k ∷ ks) = ap (λ (l : List Bool). h k y x ∷ l) (applied y x h ks)

splits_append : (arena : ArenaView) (a c : ℕ) (fs hs : List NodeId) (gs ks : List Finding) → AreSplit arena a c fs gs → AreSplit arena a c hs ks → AreSplit arena a c (fs ++ hs) (gs ++ ks)
splits_append arena a c [] hs [] ks s t = t
splits_append arena a c [] hs (g ∷ gs) ks s t = absurd s
splits_append arena a c (f ∷ fs) hs [] ks s t = absurd s
splits_append arena a c (f ∷ fs) hs (g ∷ gs) ks s t = (s.0, splits_append arena a c fs hs gs ks s.1 t)

-- nodes that were made in one arena and stay in a later one
module _ (made later : ArenaView) (a c : ℕ) (variables : made.variables ≡ a + c) (valid : IsArena later) (keeps : Keeps made later) where
  row-sized : (y x : SignalSet) → length y ≡ a → length x ≡ c → length (y ++ x) ≡ made.variables
  row-sized y x ys xs = omega (arith, length-append y x, ys, xs, variables)

  node-splits : (f : NodeId) → Holds made f.0 → Splits a c (function_of later f.0) (finding_of made f)
  node-splits f held y x ys xs = keeps.denotes f.0 held (y ++ x) (row-sized y x ys xs)

  place-splits : (bits : List NodeId) (k : ℕ) → All (λ (f : NodeId). Holds made f.0) bits → Splits a c (function_of later (node_or_false bits k).0) (slice_index_or (map (finding_of made) bits) k never)
  place-splits [] k held = λ y x ys xs. function_of-false later (y ++ x) valid
  place-splits (f ∷ bits) zero held = node-splits f (held 0 f (omega arith))
  place-splits (f ∷ bits) (suc k) held = place-splits bits k (λ j d below. held (suc j) d (omega arith))

  pub bits-split : (bits : List NodeId) (ks : List ℕ) → All (λ (f : NodeId). Holds made f.0) bits → AreSplit later a c (map (node_or_false bits) ks) (map (λ (k : ℕ). slice_index_or (map (finding_of made) bits) k never) ks)
  bits-split bits [] held = tt
  bits-split bits (k ∷ ks) held = (place-splits bits k held, bits-split bits ks held)

  word-splits : (word : List NodeId) → All (λ (f : NodeId). Holds made f.0) word → AreSplit later a c word (map (finding_of made) word)
  word-splits [] held = tt
  word-splits (f ∷ word) held = (node-splits f (held 0 f (omega arith)), word-splits word (λ j d below. held (suc j) d (omega arith)))

  one-word : (words : List (List NodeId)) (k : ℕ) → All (IsWord made) words → AreSplit later a c (slice_index_or words k []) (slice_index_or (map (map (finding_of made)) words) k [])
  one-word [] k held = tt
  one-word (w ∷ words) zero held = word-splits w (held 0 w (omega arith)).held
  one-word (w ∷ words) (suc k) held = one-word words k (λ j d below. held (suc j) d (omega arith))

  pub words-split : (words : List (List NodeId)) (ks : List ℕ) → All (IsWord made) words → AreSplit later a c (flat_map (λ (k : ℕ). slice_index_or words k []) ks) (flat_map (λ (k : ℕ). slice_index_or (map (map (finding_of made)) words) k []) ks)
  words-split words [] held = tt
  words-split words (k ∷ ks) held =
      splits_append later a c (slice_index_or words k []) (flat_map (λ (j : ℕ). slice_index_or words j []) ks) (slice_index_or (map (map (finding_of made)) words) k [])
      (flat_map (λ (j : ℕ). slice_index_or (map (map (finding_of made)) words) j []) ks) (one-word words k held) (words-split words ks held)

module _ (E : Equations) (cyclic : List ℕ) (layout : List RegisterShape) (p : Places) (orderable : IsOrderable E) (shapes : length layout ≡ registers E)
    (wide : AreWidths layout (widths_of layout)) (turn : AreInTurn (widths_of layout) E.inputs (length cyclic) p) where
  abbrev pub points : ℕ
  points = digits_in (widths_of layout) + E.inputs

  abbrev structural : Test
  structural y = fits layout (memory_of (widths_of layout) y)

  structural-fits : (m : List ℕ) (i : SignalSet) → FitsIn (widths_of layout) m → length i ≡ E.inputs → (structural (in_binary (widths_of layout) m ++ i) ≡ true) ↔ (FitsLayout layout m)
  structural-fits m i fit sized = subst (λ (n : List ℕ). (fits layout n ≡ true) ↔ (FitsLayout layout m)) (sym (memory-binary (widths_of layout) m i fit)) (fits_is_test layout m)

  -- the node of the layout is that test
  layout-test : (made later : ArenaView) (f : ℕ) → made.variables ≡ points + length cyclic → Keeps made later → DenotesLayout made f layout p → IsTestOf later points (length cyclic) f structural
  layout-test made later f variables keeps denotes y x ys xs =
      let ws = widths_of layout in
      let m = memory_of ws y in
      let i = drop (digits_in ws) y in
      let enough : digits_in ws ≤ length y = omega (arith, ys) in
      let fit = fits-memory ws y enough in
      let i-sized : length i ≡ E.inputs = omega (arith, length-drop (digits_in ws) y, ys) in
      let same : in_binary ws m ++ i ≡ y = binary-memory ws y enough in
      let row : row_of ws m i x ≡ y ++ x = ap (λ (l : SignalSet). l ++ x) same in
      let exact = denoted_layouts made f layout ws m E.inputs (length cyclic) i x p turn variables denotes fit i-sized xs in
      let test = fits_is_test layout m in
      keeps.denotes f denotes.held (y ++ x) (omega (arith, length-append y x, ys, xs, variables))
      ∙ ap (function_of made f) (sym row)
      ∙ same_answers (function_of made f (row_of ws m i x)) (structural y) (λ t. test.1 (exact.0 t)) (λ t. exact.1 (test.0 t))

  -- So the verdict that is found for the nodes is the verdict for such functions.
  pub verdict-found : (first second third : ArenaView) (bits : List NodeId) (words : List (List NodeId)) (fitting : NodeId) (consistent : List NodeId) (found : Found)
      → first.variables ≡ points + length cyclic → IsArena second → IsArena third → Keeps first second → Keeps second third
      → DenoteCompletions first E cyclic p bits words → DenotesLayout second fitting.0 layout p
      → IsConsistency second third points (map (node_or_false bits) cyclic) consistent
      → AreSized points (length E.outputs + 16 * length E.next) found
      → ((c : ℕ) (s : Test) (K : Finding) (gs : List Finding) → AreSearched third points c fitting.0 consistent (map (node_or_false bits) E.outputs ++ flat_map (λ (k : ℕ). slice_index_or words k []) E.next) s K gs → IsFound points c s K gs found)
      → IsVerdictFound E layout cyclic found
  verdict-found first second third bits words fitting consistent found variables valid valid' keeps later denote denotes agree sized is =
      let c = length cyclic in
      let findings : List Finding = map (finding_of first) bits in
      let digits : List (List Finding) = map (map (finding_of first)) words in
      let whole = Keeps-trans first second third keeps later in
      let given : length (map (node_or_false bits) cyclic) ≡ c = length-map cyclic (node_or_false bits) in
      let split : AreSplit second points c (map (node_or_false bits) cyclic) (map (λ (k : ℕ). slice_index_or findings k never) cyclic) = bits-split first second points c variables valid keeps bits cyclic denote.bits_held in
      let agrees : Splits points c (meet third consistent) (λ y x. are_same (map (λ (g : Finding). g y x) (map (λ (k : ℕ). slice_index_or findings k never) cyclic)) x) =
      subst (λ (n : ℕ). AreSplit second points n (map (node_or_false bits) cyclic) (map (λ (k : ℕ). slice_index_or findings k never) cyclic) → Splits points n (meet third consistent) (λ y x. are_same (map (λ (g : Finding). g y x) (map (λ (k : ℕ). slice_index_or findings k never) cyclic)) x))
      given (agree (map (λ (k : ℕ). slice_index_or findings k never) cyclic)) split in
      record {
        wide = wide;
        structural = structural;
        consistent = consistent_of cyclic findings;
        results = results_of E findings digits;
        are = diagrams_give_findings E layout cyclic (widths_of layout) structural findings digits orderable shapes wide (denoted_diagrams first E cyclic (widths_of layout) p bits words turn variables denote) structural-fits;
        sized = sized;
        is = is c structural (consistent_of cyclic findings) (results_of E findings digits) (record {
          variables = later.variables ∙ keeps.variables ∙ variables;
          structural_is = layout-test second third fitting.0 (keeps.variables ∙ variables) later denotes;
          consistent_is = λ y x ys xs. agrees y x ys xs ∙ ap (λ (l : List Bool). are_same l x) (applied y x (λ (k : ℕ). slice_index_or findings k never) cyclic);
          results_are = splits_append third points c (map (node_or_false bits) E.outputs) (flat_map (λ (k : ℕ). slice_index_or words k []) E.next)
              (map (λ (k : ℕ). slice_index_or findings k never) E.outputs) (flat_map (λ (k : ℕ). slice_index_or digits k []) E.next)
              (bits-split first third points c variables valid' whole bits E.outputs denote.bits_held) (words-split first third points c variables valid' whole words E.next denote.words_held);
        });
      }

-- ---- what the calls ask

shapes-sized : (layout : List RegisterShape) → length (widths_of layout) ≡ length layout
shapes-sized layout = length-map layout (λ s. digit_count s.top)

from-sized : (k : ℕ) (widths : List ℕ) → length (registers_from k widths) ≡ length widths
from-sized k [] = refl
from-sized k (w ∷ widths) = ap suc (from-sized (k + w) widths)

pub registers-sized : (layout : List RegisterShape) {inputs cyclic : ℕ} {p : Places} → AreInTurn (widths_of layout) inputs cyclic p → length p.regs.items ≡ length layout
registers-sized layout turn = ap length turn.registers_are ∙ from-sized 0 (widths_of layout) ∙ shapes-sized layout

pub places-named : (E : Equations) (cyclic : List ℕ) (layout : List RegisterShape) {p : Places} {v : ℕ} → AreInTurn (widths_of layout) E.inputs (length cyclic) p → length layout ≡ registers E → v ≡ job_variables E layout cyclic → NamesVariables v E cyclic p
places-named E cyclic layout {p} {v} turn shapes same = names_variables v E cyclic (widths_of layout) p turn (widths_narrow layout) (shapes-sized layout ∙ shapes) (omega (arith, same))

pub registers-named : (E : Equations) (cyclic : List ℕ) (layout : List RegisterShape) {p : Places} {v : ℕ} → AreInTurn (widths_of layout) E.inputs (length cyclic) p → v ≡ job_variables E layout cyclic → NamesRegisters v p.regs.items
registers-named E cyclic layout {p} {v} turn same = names_registers v E.inputs (length cyclic) (widths_of layout) p turn (widths_narrow layout) (omega (arith, same))

less : (k n : ℕ) → nat_lt k n ≡ true → k < n
less k n h = grind (arith, nat_tests)

pub below-all : (n : ℕ) (ks : List ℕ) → all_below n ks ≡ true → All (λ (k : ℕ). k < n) ks
below-all n [] h k d inside = absurd (omega arith)
below-all n (k ∷ ks) h zero d inside = less k n (and_first (nat_lt k n) (all_below n ks) h)
below-all n (k ∷ ks) h (suc j) d inside = below-all n ks (and_second (nat_lt k n) (all_below n ks) h) j d (omega arith)

filtered : (test : ℕ → Bool) (n : ℕ) (ks : List ℕ) → all_below n ks ≡ true → all_below n (filter test ks) ≡ true
filtered test n [] h = refl
filtered test n (k ∷ ks) h = elim (true_or_false (test k)) [
  | inl t ↦ rw t (both-true (nat_lt k n) (all_below n (filter test ks)) (and_first (nat_lt k n) (all_below n ks) h) (filtered test n ks (and_second (nat_lt k n) (all_below n ks) h)))
  | inr f ↦ rw f (filtered test n ks (and_second (nat_lt k n) (all_below n ks) h))
]
  where
    both-true : (a b : Bool) → a ≡ true → b ≡ true → (a && b) ≡ true
    both-true a b p q = rw p q

pub cyclic-exist : {E : Equations} {order cyclic : List ℕ} → IsOrderable E → IsPlanOf E order cyclic → All (λ (k : ℕ). k < bit_count E) cyclic
cyclic-exist {E} {order} {cyclic} orderable plan = below-all (bit_count E) cyclic (ap (all_below (bit_count E)) plan.cyclic_bits.is ∙ filtered plan.cyclic_bits.test (bit_count E) E.locals orderable.locals_exist)

pub between-all : (lo n : ℕ) (ks : List ℕ) → all_between lo n ks ≡ true → All (λ (k : ℕ). k < n) ks
between-all lo n [] h k d inside = absurd (omega arith)
between-all lo n (k ∷ ks) h zero d inside = less k n (and_second (nat_le lo k) (nat_lt k n) (and_first (nat_le lo k && nat_lt k n) (all_between lo n ks) h))
between-all lo n (k ∷ ks) h (suc j) d inside = between-all lo n ks (and_second (nat_le lo k && nat_lt k n) (all_between lo n ks) h) j d (omega arith)

-- ---- nodes that are held

pub held-later : {made later : ArenaView} (bits : List NodeId) → Keeps made later → All (λ (f : NodeId). Holds made f.0) bits → All (λ (f : NodeId). Holds later f.0) bits
held-later bits keeps held k d inside = keeps.held (slice_index_or bits k d).0 (held k d inside)

pub words-later : {made later : ArenaView} (words : List (List NodeId)) → Keeps made later → All (IsWord made) words → All (IsWord later) words
words-later words keeps held k d inside = let w = held k d inside in record { sized = w.sized; held = held-later (slice_index_or words k d) keeps w.held }

place-held : (arena : ArenaView) (bits : List NodeId) (k : ℕ) → All (λ (f : NodeId). Holds arena f.0) bits → Holds arena (node_or_false bits k).0
place-held arena [] k held = held_constant arena.nodes 0 (omega arith)
place-held arena (f ∷ bits) zero held = held 0 f (omega arith)
place-held arena (f ∷ bits) (suc k) held = place-held arena bits k (λ j d below. held (suc j) d (omega arith))

pub listed-held : (arena : ArenaView) (bits : List NodeId) (ks : List ℕ) → All (λ (f : NodeId). Holds arena f.0) bits → All (λ (f : NodeId). Holds arena f.0) (map (node_or_false bits) ks)
listed-held arena bits [] held k d inside = absurd (omega arith)
listed-held arena bits (j ∷ ks) held zero d inside = place-held arena bits j held
listed-held arena bits (j ∷ ks) held (suc k) d inside = listed-held arena bits ks held k d (omega arith)

both-held : (arena : ArenaView) (fs gs : List NodeId) → All (λ (f : NodeId). Holds arena f.0) fs → All (λ (f : NodeId). Holds arena f.0) gs → All (λ (f : NodeId). Holds arena f.0) (fs ++ gs)
both-held arena [] gs p q k d inside = q k d inside
both-held arena (f ∷ fs) gs p q zero d inside = p 0 f (omega arith)
both-held arena (f ∷ fs) gs p q (suc k) d inside = both-held arena fs gs (λ j e below. p (suc j) e (omega arith)) q k d (omega arith)

word-held : (arena : ArenaView) (words : List (List NodeId)) (k : ℕ) → All (IsWord arena) words → All (λ (f : NodeId). Holds arena f.0) (slice_index_or words k [])
word-held arena [] k held j d inside = absurd (omega arith)
word-held arena (w ∷ words) zero held j d inside = (held 0 w (omega arith)).held j d inside
word-held arena (w ∷ words) (suc k) held j d inside = word-held arena words k (λ i e below. held (suc i) e (omega arith)) j d inside

digits-held : (arena : ArenaView) (words : List (List NodeId)) (ks : List ℕ) → All (IsWord arena) words → All (λ (f : NodeId). Holds arena f.0) (flat_map (λ (k : ℕ). slice_index_or words k []) ks)
digits-held arena words [] held k d inside = absurd (omega arith)
digits-held arena words (j ∷ ks) held k d inside = both-held arena (slice_index_or words j []) (flat_map (λ (i : ℕ). slice_index_or words i []) ks) (word-held arena words j held) (digits-held arena words ks held) k d inside

pub results-held : (arena : ArenaView) (bits : List NodeId) (words : List (List NodeId)) (outs next : List ℕ) → All (λ (f : NodeId). Holds arena f.0) bits → All (IsWord arena) words
    → All (λ (f : NodeId). Holds arena f.0) (map (node_or_false bits) outs ++ flat_map (λ (k : ℕ). slice_index_or words k []) next)
results-held arena bits words outs next held wide = both-held arena (map (node_or_false bits) outs) (flat_map (λ (k : ℕ). slice_index_or words k []) next) (listed-held arena bits outs held) (digits-held arena words next wide)

word-sized : (arena : ArenaView) (words : List (List NodeId)) (k : ℕ) → All (IsWord arena) words → k < length words → length (slice_index_or words k []) ≡ 16
word-sized arena [] k held inside = absurd (omega arith)
word-sized arena (w ∷ words) zero held inside = (held 0 w (omega arith)).sized
word-sized arena (w ∷ words) (suc k) held inside = word-sized arena words k (λ j d below. held (suc j) d (omega arith)) (omega arith)

digits-sized : (arena : ArenaView) (words : List (List NodeId)) (ks : List ℕ) → All (IsWord arena) words → All (λ (k : ℕ). k < length words) ks → length (flat_map (λ (k : ℕ). slice_index_or words k []) ks) ≡ 16 * length ks
digits-sized arena words [] held exist = refl
digits-sized arena words (j ∷ ks) held exist =
    let here = word-sized arena words j held (exist 0 j (omega arith)) in
    let later = digits-sized arena words ks held (λ k d below. exist (suc k) d (omega arith)) in
    omega (arith, length-append (slice_index_or words j []) (flat_map (λ (k : ℕ). slice_index_or words k []) ks), here, later)

pub results-sized : (arena : ArenaView) (bits : List NodeId) (words : List (List NodeId)) (outs next : List ℕ) → All (IsWord arena) words → All (λ (k : ℕ). k < length words) next
    → length (map (node_or_false bits) outs ++ flat_map (λ (k : ℕ). slice_index_or words k []) next) ≡ length outs + 16 * length next
results-sized arena bits words outs next held exist =
    omega (arith, length-append (map (node_or_false bits) outs) (flat_map (λ (k : ℕ). slice_index_or words k []) next), length-map outs (node_or_false bits), digits-sized arena words next held exist)

-- ---- how many operations

module _ (E : Equations) (layout : List RegisterShape) (cyclic : List ℕ) where
  abbrev size : JobSize
  size = job_size E layout cyclic

  pub making : {a b d : ArenaView} {n : ℕ} → a.variables ≡ variables size → n ≡ registers E → AddsAtMost (64 * weight_of E + a.variables) a b → AddsAtMost (128 * n + b.variables) b d → AddsAtMost (making_operations size) a d
  making {a} {b} {d} {n} same sized first second =
      let kept = first.keeps.variables in
      adds_in_turn (64 * weight_of E + a.variables) (128 * n + b.variables) (making_operations size) (omega (arith, same, sized, kept)) first second

  pub agreeing : {a b d : ArenaView} {n : ℕ} → n ≡ length cyclic → AddsAtMost (making_operations size) a b → AddsAtMost (agreeing_count n) b d → AddsAtMost (making_operations size + agreeing_operations size) a d
  agreeing {n = n} same first second = adds_in_turn (making_operations size) (agreeing_count n) (making_operations size + agreeing_operations size) (omega (arith, same)) first second

  pub made-few : {a b : ArenaView} → AddsAtMost (making_operations size) a b → AddsAtMost (instant_operations size) a b
  made-few adds = adds_fewer (making_operations size) (instant_operations size) (omega arith) adds

  pub agreed-few : {a b : ArenaView} → AddsAtMost (making_operations size + agreeing_operations size) a b → AddsAtMost (instant_operations size) a b
  agreed-few adds = adds_fewer (making_operations size + agreeing_operations size) (instant_operations size) (omega arith) adds

  pub finding : {a b d : ArenaView} {n c r : ℕ} → n ≡ size.points → c ≡ length cyclic → r ≡ results size → AddsAtMost (making_operations size + agreeing_operations size) a b → AddsAtMost (finding_count n c r) b d → AddsAtMost (instant_operations size) a d
  finding {a} {b} {d} {n} {c} {r} points all known first second =
      let same : finding_count n c r ≡ finding_count size.points size.cyclic (results size) = ap (λ (k : ℕ). finding_count k c r) points ∙ ap (λ (k : ℕ). finding_count size.points k r) all ∙ ap (finding_count size.points size.cyclic) known in
      adds_in_turn (making_operations size + agreeing_operations size) (finding_count n c r) (instant_operations size) (omega (arith, same)) first second

pub both-ok : {X Y : Type 0} (r : Result X Y) (P Q R : X → Type 0) → ((x : X) → P x → Q x → R x) → IfOk r P → IfOk r Q → IfOk r R
both-ok (Ok x) P Q R f p q = f x p q
both-ok (Err e) P Q R f p q = tt

-- the greatest codes of the first i shapes have sixteen bits
abbrev pub AreCodesBefore : ℕ → List Shape → Type 0
AreCodesBefore i shapes = (k : ℕ) (d : Shape) → k < i → k < length shapes → (slice_index_or shapes k d).top ≤ 65535

pub codes-more : (i : ℕ) (shapes : List Shape) (s : Shape) → i < length shapes → s ≡ slice_index_or shapes i s → s.top ≤ 65535 → AreCodesBefore i shapes → AreCodesBefore (i + 1) shapes
codes-more i shapes s inside same small before k d less there = elim (eq-or-lt_of_le (at-most less)) [
  | inl here ↦
      let is : s ≡ slice_index_or shapes k d = same ∙ ap (λ (j : ℕ). slice_index_or shapes j s) (sym here) ∙ any-default shapes k s d there in
      subst (λ (t : Shape). t.top ≤ 65535) is small
  | inr earlier ↦ before k d earlier there
]
  where
    at-most : k < i + 1 → k ≤ i
    at-most h = omega (arith, h)

    any-default : (xs : List Shape) (k : ℕ) (c d : Shape) → k < length xs → slice_index_or xs k c ≡ slice_index_or xs k d
    any-default [] k c d h = absurd (omega arith)
    any-default (x ∷ xs) zero c d h = refl
    any-default (x ∷ xs) (suc k) c d h = any-default xs k c d (omega arith)

pub codes-all : (i : ℕ) (shapes : List Shape) → length shapes ≤ i → AreCodesBefore i shapes → All (λ (r : RegisterShape). r.top ≤ 65535) (map register_shape_of shapes)
codes-all i shapes end before = each shapes (λ k d there. before k d (omega (arith, there, end)) there)
  where
    each : (xs : List Shape) → ((k : ℕ) (d : Shape) → k < length xs → (slice_index_or xs k d).top ≤ 65535) → All (λ (r : RegisterShape). r.top ≤ 65535) (map register_shape_of xs)
    each [] h k d inside = absurd (omega arith)
    each (x ∷ xs) h zero d inside = h 0 x (omega arith)
    each (x ∷ xs) h (suc k) d inside = each xs (λ j e there. h (suc j) e (omega arith)) k d (omega arith)
