-- The diagrams of an ordered system, picked from those of its bits and words.
use Rattle.std.proofs.Common.{◌≡◌, ℕ, zero, suc, ◌+◌, ◌*◌, ◌<◌, List, [], ◌∷◌, Bool, true, false, ◌&&◌, nat_lt, nat_le, Vec, slice_index_or, length, map, take, All, refl, sym, ap, ◌∙◌, subst, arith}
use Rattle.std.specs.declared.alloc.Global.{Global}
use Rattle.std.specs.List.{range_with_len}
use Rattle.std.proofs.lemmas.List.{take_at, get_or-map, length-map}
use Rattle.std.proofs.lemmas.Bool.Decides.{nat_tests}
use Rattle.argos_base.specs.SignalSets.{SignalSet, has}
use Rattle.argos_base.proofs.Bools.{and_first, and_second}
use Rattle.argos_core.specs.Layouts.{RegisterShape}
use Rattle.bisim_check.specs.declared.diagrams.ProgramDiagrams.{ProgramDiagrams}
use Rattle.bisim_check.specs.inner.Nodes.{AreHeld, AreDrawn, codes_at}
use Rattle.dd_core.specs.declared.nodes.NodeId.{NodeId}
use Rattle.dd_core.specs.Arenas.{ArenaView, function_of, Keeps, AddsAtMost}
use Rattle.eqn_completion.proofs.Completing.{solutions_complete}
use Rattle.eqn_completion.proofs.OrderedPlans.{ordered_lines_exist, ordered_are_planned}
use Rattle.eqn_core.specs.Equations.{Equations, registers}
use Rattle.eqn_core.specs.Ordered.{IsOrdered, all_below, all_between}
use Rattle.eqn_core.specs.Plans.{IsPlanOf}
use Rattle.eqn_core.specs.Solutions.{Values, Solves}
use Rattle.eqn_core.proofs.Once.{solves_once}
use Rattle.eqn_dd.specs.declared.places.Places.{Places}
use Rattle.eqn_dd.specs.Completed.{IsDrawable, IsCompletionAt, DenoteCompletions}
use Rattle.eqn_dd.specs.Denoting.{values_at, code_at, IsWord}
use Rattle.eqn_dd.specs.Placed.{register_at, memory_at, inputs_at}
use Rattle.eqn_dd.specs.Structural.{DenotesLayout}
use Rattle.eqn_dd.proofs.Denotations.{adds_in_turn, is_word_later, word-kept}

-- the lines can be drawn as they stand
pub drawable : {E : Equations} {order cyclic : List ℕ} → IsOrdered E → order ≡ range_with_len 0 (length E.lines) → cyclic ≡ [] → IsDrawable E order cyclic
drawable {E} {order} {cyclic} ordered order_is cyclic_is = record {
  register_limit = ordered.register_limit;
  input_limit = ordered.input_limit;
  line_limit = ordered.line_limit;
  plan = subst (λ (ks : List ℕ). IsPlanOf E ks cyclic) (sym order_is) (subst (IsPlanOf E (range_with_len 0 (length E.lines))) (sym cyclic_is) (ordered_are_planned E ordered));
  each = ordered_lines_exist E ordered;
}

-- ---- nodes at places

abbrev node_at_place : List NodeId → ℕ → NodeId
node_at_place bits k = slice_index_or bits k (record { 0 = 0 })

abbrev word_at_place : List (List NodeId) → ℕ → List NodeId
word_at_place words k = slice_index_or words k []

held-at : (arena : ArenaView) (bits : List NodeId) (ks : List ℕ) → All (λ (k : ℕ). k < length bits) ks → AreHeld arena bits
    → AreHeld arena (map (node_at_place bits) ks)
held-at arena bits [] exist held k d inside = absurd (omega arith)
held-at arena bits (j ∷ ks) exist held zero d inside = held j (record { 0 = 0 }) (exist 0 j (omega arith))
held-at arena bits (j ∷ ks) exist held (suc k) d inside = held-at arena bits ks (λ i e below. exist (suc i) e (omega arith)) held k d (omega arith)

words-at : (arena : ArenaView) (words : List (List NodeId)) (ks : List ℕ) → All (λ (k : ℕ). k < length words) ks
    → All (IsWord arena) words → All (IsWord arena) (map (word_at_place words) ks)
words-at arena words [] exist held k d inside = absurd (omega arith)
words-at arena words (j ∷ ks) exist held zero d inside = held j [] (exist 0 j (omega arith))
words-at arena words (j ∷ ks) exist held (suc k) d inside = words-at arena words ks (λ i e below. exist (suc i) e (omega arith)) held k d (omega arith)

first-words : (arena : ArenaView) (n : ℕ) (words : List (List NodeId)) → All (IsWord arena) words → All (IsWord arena) (take n words)
first-words arena zero words held k d inside = absurd (omega arith)
first-words arena (suc n) [] held k d inside = absurd (omega arith)
first-words arena (suc n) (w ∷ words) held zero d inside = held 0 w (omega arith)
first-words arena (suc n) (w ∷ words) held (suc k) d inside = first-words arena n words (λ i e below. held (suc i) e (omega arith)) k d (omega arith)

inner-codes : (arena : ArenaView) (words : List (Vec NodeId Global)) (x : List Bool) → codes_at arena words x ≡ map (λ (w : List NodeId). code_at arena w x) (map (λ w. w.items) words)
inner-codes arena [] x = refl
inner-codes arena (w ∷ words) x = ap (λ (l : List ℕ). code_at arena w.items x ∷ l) (inner-codes arena words x)

-- nodes that were made in one arena and stay in a later one
module _ (made later : ArenaView) (keeps : Keeps made later) (x : List Bool) (sized : length x ≡ made.variables) where
  values-at : (bits : List NodeId) (s : List Bool) (ks : List ℕ) → All (λ (k : ℕ). k < length bits) ks → AreHeld made bits → values_at made bits x ≡ s
      → values_at later (map (node_at_place bits) ks) x ≡ map (λ (k : ℕ). slice_index_or s k false) ks
  values-at bits s [] exist held is = refl
  values-at bits s (j ∷ ks) exist held is =
      let inside : j < length bits = exist 0 j (omega arith) in
      let here : function_of later (node_at_place bits j).0 x ≡ slice_index_or s j false =
      keeps.denotes (node_at_place bits j).0 (held j (record { 0 = 0 }) inside) x sized
      ∙ sym (get_or-map (λ (f : NodeId). function_of made f.0 x) bits j (record { 0 = 0 }) false inside)
      ∙ ap (λ (l : List Bool). slice_index_or l j false) is in
      ap (λ (b : Bool). b ∷ values_at later (map (node_at_place bits) ks) x) here
      ∙ ap (λ (l : List Bool). slice_index_or s j false ∷ l) (values-at bits s ks (λ i e below. exist (suc i) e (omega arith)) held is)

  codes-at : (words : List (List NodeId)) (s : List ℕ) (ks : List ℕ) → All (λ (k : ℕ). k < length words) ks → All (IsWord made) words → map (λ (w : List NodeId). code_at made w x) words ≡ s
      → map (λ (w : List NodeId). code_at later w x) (map (word_at_place words) ks) ≡ map (λ (k : ℕ). slice_index_or s k 0) ks
  codes-at words s [] exist held is = refl
  codes-at words s (j ∷ ks) exist held is =
      let inside : j < length words = exist 0 j (omega arith) in
      let here : code_at later (word_at_place words j) x ≡ slice_index_or s j 0 =
      word-kept made later (word_at_place words j) x keeps (held j [] inside) sized
      ∙ sym (get_or-map (λ (w : List NodeId). code_at made w x) words j [] 0 inside)
      ∙ ap (λ (l : List ℕ). slice_index_or l j 0) is in
      ap (λ (n : ℕ). n ∷ map (λ (w : List NodeId). code_at later w x) (map (word_at_place words) ks)) here
      ∙ ap (λ (l : List ℕ). slice_index_or s j 0 ∷ l) (codes-at words s ks (λ i e below. exist (suc i) e (omega arith)) held is)

  codes-first : (n : ℕ) (words : List (List NodeId)) → All (IsWord made) words → map (λ (w : List NodeId). code_at later w x) (take n words) ≡ take n (map (λ (w : List NodeId). code_at made w x) words)
  codes-first zero words held = refl
  codes-first (suc n) [] held = refl
  codes-first (suc n) (w ∷ words) held =
      ap (λ (k : ℕ). k ∷ map (λ (v : List NodeId). code_at later v x) (take n words)) (word-kept made later w x keeps (held 0 w (omega arith)) sized)
      ∙ ap (λ (l : List ℕ). code_at made w x ∷ l) (codes-first n words (λ i e below. held (suc i) e (omega arith)))

-- ---- the picked diagrams

less : (k n : ℕ) → nat_lt k n ≡ true → k < n
less k n h = grind (arith, nat_tests)

pub exist-below : (n m : ℕ) (ks : List ℕ) → n ≡ m → all_below n ks ≡ true → All (λ (k : ℕ). k < m) ks
exist-below n m [] same h k d inside = absurd (omega arith)
exist-below n m (k ∷ ks) same h zero d inside = let low = less k n (and_first (nat_lt k n) (all_below n ks) h) in omega (arith, low, same)
exist-below n m (k ∷ ks) same h (suc j) d inside = exist-below n m ks same (and_second (nat_lt k n) (all_below n ks) h) j d (omega arith)

pub exist-between : (lo n m : ℕ) (ks : List ℕ) → n ≡ m → all_between lo n ks ≡ true → All (λ (k : ℕ). k < m) ks
exist-between lo n m [] same h k d inside = absurd (omega arith)
exist-between lo n m (k ∷ ks) same h zero d inside =
    let low = less k n (and_second (nat_le lo k) (nat_lt k n) (and_first (nat_le lo k && nat_lt k n) (all_between lo n ks) h)) in omega (arith, low, same)
exist-between lo n m (k ∷ ks) same h (suc j) d inside = exist-between lo n m ks same (and_second (nat_le lo k && nat_lt k n) (all_between lo n ks) h) j d (omega arith)

-- the words and bits, and what was picked from them
pub record ArePicked (E : Equations) (bits : List NodeId) (words : List (List NodeId)) (d : ProgramDiagrams) : Type 0 where
  pub registers_are : map (λ w. w.items) d.registers.items ≡ take (registers E) words
  pub next_are : map (λ w. w.items) d.next.items ≡ map (word_at_place words) E.next
  pub outputs_are : d.outputs.items ≡ map (node_at_place bits) E.outputs
  pub outputs_exist : All (λ (k : ℕ). k < length bits) E.outputs
  pub next_exist : All (λ (k : ℕ). k < length words) E.next

module _ (E : Equations) (layout : List RegisterShape) (p : Places) (made later : ArenaView) (keeps : Keeps made later)
    (ordered : IsOrdered E) (registers_sized : length p.regs.items ≡ registers E) (inputs_sized : length p.inputs.items ≡ E.inputs) (cyclic_sized : length p.cyclic.items ≡ 0) where
  -- a solution is the completion
  completes : (x : SignalSet) (s : Values) → Solves E (memory_at p x) (inputs_at p x) s → IsCompletionAt E [] p x s
  completes x s solves =
      let h = (solutions_complete E [] (memory_at p x) (inputs_at p x) s (length-map p.regs.items (register_at x) ∙ registers_sized) (length-map p.inputs.items (has x) ∙ inputs_sized)).0 solves in
      record { bits = h.1.0.bits; words = h.1.0.words }

  module _ (bits : List NodeId) (words : List (List NodeId)) (denote : DenoteCompletions made E [] p bits words) where
    memory-there : (x : List Bool) → length x ≡ made.variables → take (registers E) (map (λ (w : List NodeId). code_at made w x) words) ≡ memory_at p x
    memory-there x sized =
        let m = memory_at p x in
        let long : length m ≡ registers E = length-map p.regs.items (register_at x) ∙ registers_sized in
        let once = solves_once E m (inputs_at p x) ordered long (length-map p.inputs.items (has x) ∙ inputs_sized) in
        ap (take (registers E)) (denote.words_are x once.values sized (completes x once.values once.solves) ∙ once.solves.lines.words)
        ∙ take_at m _ (registers E) long

    pub drawn : (d : ProgramDiagrams) → ArePicked E bits words d → DenotesLayout later d.structural.0 layout p → AreDrawn later E layout p d
    drawn d picked structural =
        let there = λ (x : List Bool) (s : length x ≡ later.variables). s ∙ keeps.variables in
        record {
          register_words = subst (All (IsWord later)) (sym picked.registers_are)
              (first-words later (registers E) words (λ k e below. is_word_later keeps (denote.words_held k e below)));
          registers_are = λ x sized.
              inner-codes later d.registers.items x
              ∙ ap (map (λ (w : List NodeId). code_at later w x)) picked.registers_are
              ∙ codes-first made later keeps x (there x sized) (registers E) words denote.words_held
              ∙ memory-there x (there x sized);
          outputs_held = subst (AreHeld later) (sym picked.outputs_are)
              (held-at later bits E.outputs picked.outputs_exist (λ k e below. keeps.held (slice_index_or bits k e).0 (denote.bits_held k e below)));
          outputs_sized = ap length picked.outputs_are ∙ length-map E.outputs (node_at_place bits);
          next_words = subst (All (IsWord later)) (sym picked.next_are)
              (words-at later words E.next picked.next_exist (λ k e below. is_word_later keeps (denote.words_held k e below)));
          next_sized = sym (length-map d.next.items (λ w. w.items)) ∙ ap length picked.next_are ∙ length-map E.next (word_at_place words) ∙ ordered.next_sized;
          react = λ x o m' sized r.
              let complete = completes x r.values r.solves in (
                ap (λ (l : List NodeId). values_at later l x) picked.outputs_are
                    ∙ values-at made later keeps x (there x sized) bits r.values.bits E.outputs picked.outputs_exist denote.bits_held (denote.bits_are x r.values (there x sized) complete)
                    ∙ sym r.outputs,
                inner-codes later d.next.items x
                    ∙ ap (map (λ (w : List NodeId). code_at later w x)) picked.next_are
                    ∙ codes-at made later keeps x (there x sized) words r.values.words E.next picked.next_exist denote.words_held (denote.words_are x r.values (there x sized) complete)
                    ∙ sym r.next,
              );
          structural = structural;
        }

-- ---- how many operations

pub adds-both : (w v n r : ℕ) {a b d : ArenaView} → w ≡ v → n ≡ r
    → AddsAtMost (64 * w + a.variables) a b → AddsAtMost (128 * n + b.variables) b d → AddsAtMost (64 * v + a.variables + (128 * r + a.variables)) a d
adds-both w v n r {a} {b} weight count first second =
    let kept = first.keeps.variables in
    adds_in_turn (64 * w + a.variables) (128 * n + b.variables) (64 * v + a.variables + (128 * r + a.variables)) (omega (arith, weight, count, kept)) first second
