-- What a plan and places give where the lines are drawn.
use Rattle.std.proofs.Common.{◌≡◌, ℕ, zero, suc, ◌+◌, ◌*◌, ◌<◌, ◌≤◌, List, [], ◌∷◌, ◌++◌, true, IsTrue, length, map, take, All, refl, sym, ap, ◌∙◌, subst, arith, length-append}
use Rattle.std.specs.Prelude.{slice_index_or}
use Rattle.std.proofs.lemmas.List.{get_or_append_left, length-map, get_or-map}
use Rattle.argos_base.specs.SignalSets.{lists}
use Rattle.argos_base.proofs.Bools.{or_left, or_right}
use Rattle.dd_core.specs.Arenas.{ArenaView, AddsAtMost}
use Rattle.eqn_core.specs.Dependence.{bit_item}
use Rattle.eqn_core.specs.Equations.{Line, all, Equations, line_weight, bit_count, word_count, weight_of}
use Rattle.eqn_core.specs.Ordered.{line_below}
use Rattle.eqn_core.specs.Plans.{given, IsPlanOf}
use Rattle.eqn_core.specs.Views.{line_of, equations_from}
use Rattle.eqn_core.specs.declared.system.Line as code
use Rattle.eqn_core.specs.declared.system.System.{System}
use Rattle.eqn_completion.specs.Moving.{line_at}
use Rattle.eqn_completion.proofs.MovedBounds.{weight-order}
use Rattle.eqn_completion.proofs.Plans.{sum_over, item_at, in-range}
use Rattle.eqn_completion.proofs.Reading.{nat_eq-itself}
use Rattle.eqn_dd.specs.declared.places.Places.{Places}
use Rattle.eqn_dd.specs.declared.table.Drawn.{Drawn}
use Rattle.eqn_dd.specs.declared.table.Drawn.TheVariants.{Bit, Word}
use Rattle.eqn_dd.specs.Completed.{IsDrawable}
use Rattle.eqn_dd.specs.Placed.{register_variables, all_variables, NamesVariables}
use Rattle.eqn_dd.specs.inner.Tables.{TableView, table_values, DenotesLine, HasPlace, with_drawn, numbers_from}
use Rattle.eqn_dd.proofs.Denotations.{adds_in_turn}
use Rattle.eqn_dd.proofs.Drawing.{DrawnSoFar, number_of, is_drawable_line, known_exists, adds_more, bit_inside, word_inside, bit_drawn, word_drawn}
use Rattle.eqn_dd.proofs.LineNumbers.{number_at}
use Rattle.eqn_dd.proofs.Variables.{different_few}

-- ---- variables

all_left : {X : Type 0} (P : X → Type 0) (xs ys : List X) → All P (xs ++ ys) → All P xs
all_left P xs ys both k d below =
    subst P (get_or_append_left xs ys d k below) (both k d (omega (arith, length-append xs ys)))

all_right : {X : Type 0} (P : X → Type 0) (xs ys : List X) → All P (xs ++ ys) → All P ys
all_right P [] ys both = both
all_right P (x ∷ xs) ys both = all_right P xs ys (λ k d below. both (suc k) d (omega arith))

pub registers_exist : {v : ℕ} {E : Equations} {cyclic : List ℕ} {p : Places} → NamesVariables v E cyclic p
    → All (λ k. k < v) (register_variables p.regs.items)
registers_exist {v} {E} {cyclic} {p} names =
    let regs = register_variables p.regs.items in
    all_left (λ (k : ℕ). k < v) regs p.inputs.items
    (all_left (λ (k : ℕ). k < v) (regs ++ p.inputs.items) p.cyclic.items names.exist)

pub inputs_exist : {v : ℕ} {E : Equations} {cyclic : List ℕ} {p : Places} → NamesVariables v E cyclic p
    → All (λ k. k < v) p.inputs.items
inputs_exist {v} {E} {cyclic} {p} names =
    let regs = register_variables p.regs.items in
    all_right (λ (k : ℕ). k < v) regs p.inputs.items
    (all_left (λ (k : ℕ). k < v) (regs ++ p.inputs.items) p.cyclic.items names.exist)

pub given_exist : {v : ℕ} {E : Equations} {cyclic : List ℕ} {p : Places} → NamesVariables v E cyclic p
    → All (λ k. k < v) p.cyclic.items
given_exist {v} {E} {cyclic} {p} names =
    all_right (λ (k : ℕ). k < v) (register_variables p.regs.items ++ p.inputs.items) p.cyclic.items names.exist

-- the table begins with no more nodes than there are variables
pub begin_few : {v : ℕ} {E : Equations} {cyclic : List ℕ} {p : Places} → NamesVariables v E cyclic p
    → length (register_variables p.regs.items) + length p.inputs.items + length cyclic ≤ v
begin_few {v} {E} {cyclic} {p} names =
    let regs = register_variables p.regs.items in
    let few = different_few v (all_variables p) names.exist names.different in
    let whole = length-append (regs ++ p.inputs.items) p.cyclic.items in
    omega (arith, few, whole, length-append regs p.inputs.items, names.cyclic_sized)

-- ---- cyclic bits

pub lists_there : (xs : List ℕ) (i d : ℕ) → i < length xs → lists xs (slice_index_or xs i d) ≡ true
lists_there [] i d inside = absurd (omega arith)
lists_there (x ∷ xs) zero d inside = or_left _ _ (nat_eq-itself x)
lists_there (x ∷ xs) (suc i) d inside = or_right _ _ (lists_there xs i d (omega arith))

pub cyclic_exist : {E : Equations} {order cyclic : List ℕ} → IsPlanOf E order cyclic → All (λ k. k < bit_count E) cyclic
cyclic_exist {E} {order} {cyclic} plan k d below =
    let c = slice_index_or cyclic k d in
    known_exists {earlier = []} plan (bit_item c) (given c (lists_there cyclic k d below)) c refl

-- ---- the weight of the lines that are drawn

sum_front : (f : ℕ → ℕ) (xs : List ℕ) (i : ℕ) → sum_over f (take i xs) ≤ sum_over f xs
sum_front f [] zero = omega arith
sum_front f [] (suc i) = omega arith
sum_front f (x ∷ xs) zero = omega arith
sum_front f (x ∷ xs) (suc i) = omega (arith, sum_front f xs i)

-- first so many nodes, then those of the first lines of the order
pub adds_front : {E : Equations} {order cyclic : List ℕ} {a b c : ArenaView} (first v i : ℕ) → IsPlanOf E order cyclic
    → first ≤ v → AddsAtMost first a b
    → AddsAtMost (64 * sum_over (λ p. line_weight (line_at E p)) (take i order)) b c
    → AddsAtMost (64 * weight_of E + v) a c
adds_front {E} {order} {cyclic} first v i plan few before adds =
    let front = sum_front (λ p. line_weight (line_at E p)) order i in
    let whole = weight-order E order cyclic plan in
    adds_in_turn first (64 * sum_over (λ p. line_weight (line_at E p)) (take i order)) (64 * weight_of E + v)
    (omega (arith, front, whole, few)) before adds

-- ---- one line of a system in the order of its plan

pub moved : {order items : List ℕ} (i : ℕ) → items ≡ order → slice_index_or items i 0 ≡ slice_index_or order i 0
moved i same = ap (λ (l : List ℕ). slice_index_or l i 0) same

pub place_there : (s : System) {order cyclic items : List ℕ} (i : ℕ) → IsDrawable (equations_from s) order cyclic
    → items ≡ order → i < length items → slice_index_or items i 0 < length s.lines.items
place_there s {order} {cyclic} {items} i drawable same inside =
    let plan = drawable.plan in
    let listed = lists_there order i 0 (omega (arith, ap length same)) in
    let there = in-range (length (map line_of s.lines.items)) order (slice_index_or order i 0) plan.sized plan.each listed in
    omega (arith, there, moved i same, length-map s.lines.items line_of)

pub line_there : (s : System) {order items : List ℕ} (i : ℕ) (l : code.Line) → items ≡ order
    → slice_index_or items i 0 < length s.lines.items → l ≡ slice_index_or s.lines.items (slice_index_or items i 0) l
    → line_of l ≡ line_at (equations_from s) (slice_index_or order i 0)
line_there s {order} {items} i l same inside at =
    ap line_of at ∙ sym (get_or-map line_of s.lines.items (slice_index_or items i 0) l (all []) inside)
    ∙ ap (line_at (equations_from s)) (moved i same)

pub number_there : (s : System) {order items : List ℕ} (i n d : ℕ) (own : List ℕ) → items ≡ order
    → own ≡ numbers_from s.inputs (length s.init.items) (map line_of s.lines.items)
    → slice_index_or items i 0 < length s.lines.items
    → n ≡ slice_index_or own (slice_index_or items i 0) d
    → n ≡ number_of (item_at (equations_from s) (slice_index_or order i 0))
number_there s {order} {items} i n d own same is inside at =
    at ∙ number_at (equations_from s) own (slice_index_or items i 0) d is
    (omega (arith, inside, length-map s.lines.items line_of))
    ∙ ap (λ (p : ℕ). number_of (item_at (equations_from s) p)) (moved i same)

pub line_fits : {E : Equations} {order cyclic : List ℕ} (p bits words : ℕ) (l : Line) → IsDrawable E order cyclic
    → p < length E.lines → l ≡ line_at E p → bits ≡ bit_count E → words ≡ word_count E
    → IsTrue (line_below bits words l)
line_fits {E} p bits words l drawable inside at b w =
    ap (line_below bits words) at ∙ ap (λ (n : ℕ). line_below n words (line_at E p)) b
    ∙ ap (λ (n : ℕ). line_below (bit_count E) n (line_at E p)) w ∙ is_drawable_line drawable p inside

module _ {v : ℕ} {E : Equations} {cyclic order : List ℕ} {places : Places} {a b c : ArenaView} {t : TableView} {i : ℕ}
    {l : Line} (drawable : IsDrawable E order cyclic) (names : NamesVariables v E cyclic places)
    (inside : i < length order)
    (at : l ≡ line_at E (slice_index_or order i 0)) (before : DrawnSoFar E cyclic order places a i b t)
    (adds : AddsAtMost (64 * line_weight l) b c) where
  adds_there : AddsAtMost (64 * line_weight (line_at E (slice_index_or order i 0))) b c
  adds_there = subst (λ (m : Line). AddsAtMost (64 * line_weight m) b c) at adds

  pub drawn_adds : AddsAtMost (64 * sum_over (λ q. line_weight (line_at E q)) (take (i + 1) order)) a c
  drawn_adds = adds_more E cyclic order places a b c t i drawable names.inputs_sized names.registers_sized
      names.cyclic_sized inside before adds_there

  module _ {n : ℕ} (number : n ≡ number_of (item_at E (slice_index_or order i 0))) where
    pub drawn_inside : (d : Drawn) → DenotesLine c (table_values b t) l d → HasPlace t n d
    drawn_inside d is = by_kind d (subst (λ (m : Line). DenotesLine c (table_values b t) m d) at is)
      where
        by_kind : (d : Drawn) → DenotesLine c (table_values b t) (line_at E (slice_index_or order i 0)) d
            → HasPlace t n d
        by_kind (Bit f) is = bit_inside E cyclic order places a b c t i drawable names.inputs_sized
            names.registers_sized names.cyclic_sized inside before adds_there n f number is.0 is.1
        by_kind (Word w) is = word_inside E cyclic order places a b c t i drawable names.inputs_sized
            names.registers_sized names.cyclic_sized inside before adds_there n w.items number is.0 is.1

    pub drawn_more : (d : Drawn) → DenotesLine c (table_values b t) l d
        → DrawnSoFar E cyclic order places a (i + 1) c (with_drawn t n d)
    drawn_more d is = by_kind d (subst (λ (m : Line). DenotesLine c (table_values b t) m d) at is)
      where
        by_kind : (d : Drawn) → DenotesLine c (table_values b t) (line_at E (slice_index_or order i 0)) d
            → DrawnSoFar E cyclic order places a (i + 1) c (with_drawn t n d)
        by_kind (Bit f) is = bit_drawn E cyclic order places a b c t i drawable names.inputs_sized
            names.registers_sized names.cyclic_sized inside before adds_there n f number is.0 is.1
        by_kind (Word w) is = word_drawn E cyclic order places a b c t i drawable names.inputs_sized
            names.registers_sized names.cyclic_sized inside before adds_there n w.items number is.0 is.1
