-- The lines drawn one after another, in the order of a plan.
use Rattle.std.proofs.Common.{◌≡◌, ℕ, zero, suc, ◌+◌, ◌*◌, ◌<◌, List, [], ◌∷◌, ◌++◌, Option, Some, None, Bool, true, false, nat_eq, length, take, drop, get_or, set, replicate, All, refl, sym, ap, ◌∙◌, subst, inl, inr, arith, length-append}
use Rattle.std.specs.Prelude.{slice_index_or, flat_map}
use Rattle.std.proofs.lemmas.Bool.{cases_eq}
use Rattle.std.proofs.lemmas.List.{length-map, get_or-map, take_more, take_all, take-append-drop, drop_more, length-set, get_or-set_other, get_or-set_same, length-replicate, get_or_append_left, ext_get_or}
use Rattle.argos_base.specs.SignalSets.{SignalSet, has, lists, set_where}
use Rattle.argos_base.proofs.SetLemmas.{has-set_where}
use Rattle.argos_base.proofs.Bools.{true_or_false, or_left, or_right}
use Rattle.dd_core.specs.declared.nodes.NodeId.{NodeId}
use Rattle.dd_core.specs.Arenas.{ArenaView, IsArena, Holds, function_of, AddsAtMost}
use Rattle.eqn_core.specs.Chains.{Chain, link, links}
use Rattle.eqn_core.specs.Dependence.{Item, bit_item, word_item, line_reads, defined_item, Defines, ItemDepends}
use Rattle.eqn_core.specs.Equations.{Line, all, any, within, digit, choose, Equations, registers, bits_of_line, words_of_line, bit_lines, word_lines, bit_count, word_count, line_weight}
use Rattle.eqn_core.specs.Ordered.{line_below}
use Rattle.eqn_core.specs.Plans.{IsKnown, input, register, given, earlier_line, IsPlanOf}
use Rattle.eqn_core.specs.Solutions.{Values, bit_of, word_of, defined_bits, defined_words}
use Rattle.eqn_core.proofs.PlanLemmas.{cyclic_are}
use Rattle.eqn_completion.specs.Completions.{read_bit, as_read, HasValue}
use Rattle.eqn_completion.specs.Moving.{line_at}
use Rattle.eqn_completion.proofs.Completing.{bit_as_read, completions_follow_lines}
use Rattle.eqn_completion.proofs.Counting.{bits-append, words-append}
use Rattle.eqn_completion.proofs.Knowing.{known-bit, known-word}
use Rattle.eqn_completion.proofs.Plans.{sum_over, item_at, defines-at, known-more, in-range}
use Rattle.eqn_completion.proofs.Reading.{Agree, bits-agree, words-agree, length-bits, length-words, nat_eq-itself}
use Rattle.eqn_dd.specs.declared.places.Places.{Places}
use Rattle.eqn_dd.specs.Completed.{IsCompletionAt, IsDrawable, DenoteCompletions}
use Rattle.eqn_dd.specs.Denoting.{values_at, code_at, IsWord}
use Rattle.eqn_dd.specs.Placed.{register_at, memory_at, inputs_at, cyclic_at}
use Rattle.eqn_dd.specs.inner.Fitting.{codes_at}
use Rattle.eqn_dd.specs.inner.Tables.{TableView, id_or, read_id, read_given, table_values, IsTable, GivenAre, Begins}
use Rattle.eqn_dd.proofs.Denotations.{adds_nothing, adds_in_turn, word-kept, value-at_place}
use Rattle.eqn_dd.proofs.StructureSteps.{all_words_later}
use Rattle.eqn_dd.proofs.TableSteps.{bit_read}
use Rattle.eqn_dd.proofs.WordSteps.{held_set, held_later}
use Rattle.eqn_dd.proofs.Beginning.{given-kept}

abbrev start : NodeId
start = record { 0 = 0 }

module _ (E : Equations) (cyclic : List ℕ) (places : Places) where
  -- the diagram of the item is the item's value in each completion
  abbrev pub IsRight : ArenaView → TableView → Item → Type 0
  IsRight arena t (bit_item k) = (k < length t.bits) × ((x : SignalSet) (s : Values) → length x ≡ arena.variables → IsCompletionAt E cyclic places x s → function_of arena (slice_index_or t.bits k (record { 0 = 0 })).0 x ≡ bit_of s k)
  IsRight arena t (word_item k) = (k < length t.words) × ((x : SignalSet) (s : Values) → length x ≡ arena.variables → IsCompletionAt E cyclic places x s → code_at arena (slice_index_or t.words k []) x ≡ word_of s k)

-- the lines of the first places of the order, as many as i says, are drawn
pub record DrawnSoFar (E : Equations) (cyclic order : List ℕ) (places : Places) (old : ArenaView) (i : ℕ) (new : ArenaView) (t : TableView) : Type 0 where
  pub adds : AddsAtMost (64 * sum_over (λ p. line_weight (line_at E p)) (take i order)) old new
  pub table : IsTable new t
  pub bits_sized : length t.bits ≡ bit_count E
  pub words_sized : length t.words ≡ word_count E
  pub given_are : GivenAre new cyclic places.cyclic.items (bit_count E) t.given
  pub right : (y : Item) → IsKnown E (take i order) [] y → IsRight E cyclic places new t y

-- ---- reading

module _ (E : Equations) (cyclic : List ℕ) (places : Places) (arena : ArenaView) (t : TableView) (table : IsTable arena t) (bits_sized : length t.bits ≡ bit_count E) (words_sized : length t.words ≡ word_count E) (given_are : GivenAre arena cyclic places.cyclic.items (bit_count E) t.given)
    (inputs_sized : length places.inputs.items ≡ E.inputs) (registers_sized : length places.regs.items ≡ registers E) (cyclic_sized : length places.cyclic.items ≡ length cyclic) where
  completion_bits : (x : SignalSet) (s : Values) → IsCompletionAt E cyclic places x s → length s.bits ≡ bit_count E
  completion_bits x s is = ap length is.bits ∙ omega (arith, length-append (inputs_at places x) (flat_map (defined_bits (as_read cyclic (cyclic_at places x) s)) E.lines), length-bits (as_read cyclic (cyclic_at places x) s) E.lines, length-map places.inputs.items (has x), inputs_sized)

  -- the value that is read, by the own one
  read_value : (x : SignalSet) (k : ℕ) → function_of arena (read_id t k) x ≡ read_given arena (slice_index_or t.given k None) (function_of arena (slice_index_or t.bits k start).0 x) x
  read_value x k = of_given (slice_index_or t.given k None)
    where
      of_given : (o : Option NodeId) → function_of arena (id_or o (slice_index_or t.bits k start).0) x ≡ read_given arena o (function_of arena (slice_index_or t.bits k start).0 x) x
      of_given None = refl
      of_given (Some f) = refl

  -- any value may stand for the own one of a given bit
  listed_alike : (cs : List ℕ) (x : SignalSet) (s u : Values) (k : ℕ) → length x ≡ length cs → lists cs k ≡ true → read_bit cs x s k ≡ read_bit cs x u k
  listed_alike [] x s u k e h = cc
  listed_alike (c ∷ cs) [] s u k e h = absurd (omega arith)
  listed_alike (c ∷ cs) (b ∷ x) s u k e h = elim (true_or_false (nat_eq c k)) [
    | inl y ↦ rw y refl
    | inr n ↦ rw n (let r : lists cs k ≡ true = rw n at h in listed_alike cs x s u k (omega arith) r)
  ]

  -- what a line may read is what it reads in the completion
  pub agrees : (earlier : List ℕ) → ((y : Item) → IsKnown E earlier [] y → IsRight E cyclic places arena t y) → (x : SignalSet) (s : Values) → length x ≡ arena.variables → IsCompletionAt E cyclic places x s
      → (y : Item) → IsKnown E earlier cyclic y → ((k : ℕ) → y ≡ bit_item k → k < bit_count E) → Agree (table_values arena t x) (as_read cyclic (cyclic_at places x) s) y
  agrees earlier right x s sized is y known exists = by_item y known exists
    where
      given_values : SignalSet
      given_values = cyclic_at places x

      long : length s.bits ≡ bit_count E
      long = completion_bits x s is

      given_sized : length (cyclic_at places x) ≡ length cyclic
      given_sized = length-map places.cyclic.items (has x) ∙ cyclic_sized

      own : ℕ → Bool
      own k = function_of arena (slice_index_or t.bits k start).0 x

      as_values : ℕ → Bool → Values
      as_values k b = record { bits = set_where (suc k) (λ j. b); words = [] }

      bit_there : (k : ℕ) → k < bit_count E → read_given arena (slice_index_or t.given k None) (own k) x ≡ read_bit cyclic (cyclic_at places x) s k → bit_of (table_values arena t x) k ≡ bit_of (as_read cyclic (cyclic_at places x) s) k
      bit_there k below e = bit_read arena t x k (omega (arith, bits_sized)) ∙ read_value x k ∙ e ∙ sym (bit_as_read cyclic (cyclic_at places x) s k (omega (arith, long)))

      own_right : (k : ℕ) → k < bit_count E → IsKnown E earlier [] (bit_item k) → bit_of (table_values arena t x) k ≡ bit_of (as_read cyclic (cyclic_at places x) s) k
      own_right k below known =
          bit_there k below (ap (λ (b : Bool). read_given arena (slice_index_or t.given k None) b x) ((right (bit_item k) known).1 x s sized is) ∙ given_are.equal x s k sized below)

      listed : (k : ℕ) → k < bit_count E → lists cyclic k ≡ true → bit_of (table_values arena t x) k ≡ bit_of (as_read cyclic (cyclic_at places x) s) k
      listed k below h =
          let u = as_values k (own k) in
          bit_there k below (ap (λ (b : Bool). read_given arena (slice_index_or t.given k None) b x) (sym (has-set_where (suc k) (λ j. own k) k (omega arith)))
          ∙ given_are.equal x u k sized below ∙ listed_alike cyclic (cyclic_at places x) u s k given_sized h)

      word_right : (k : ℕ) → IsKnown E earlier [] (word_item k) → word_of (table_values arena t x) k ≡ word_of s k
      word_right k known =
          let r = right (word_item k) known in
          get_or-map (λ (w : List NodeId). code_at arena w x) t.words k [] 0 r.0 ∙ r.1 x s sized is

      no_words : (k : ℕ) → lists cyclic k ≡ true → Agree (table_values arena t x) (as_read cyclic (cyclic_at places x) s) (bit_item k) → Agree (table_values arena t x) (as_read cyclic (cyclic_at places x) s) (bit_item k)
      no_words k h e = e

      by_place : (y : Item) (place : ℕ) (l : Line) → Defines E place l y → lists earlier place ≡ true → ((k : ℕ) → y ≡ bit_item k → k < bit_count E) → Agree (table_values arena t x) (as_read cyclic (cyclic_at places x) s) y
      by_place (bit_item k) place l d h exists = own_right k (exists k refl) (earlier_line (bit_item k) place l d h)
      by_place (word_item k) place l d h exists = word_right k (earlier_line (word_item k) place l d h)

      by_item : (y : Item) → IsKnown E earlier cyclic y → ((k : ℕ) → y ≡ bit_item k → k < bit_count E) → Agree (table_values arena t x) (as_read cyclic (cyclic_at places x) s) y
      by_item y (input k low) exists = own_right k (exists k refl) (input k low)
      by_item y (register k low) exists = word_right k (register k low)
      by_item y (given k h) exists = listed k (exists k refl) h
      by_item y (earlier_line z place l d h) exists = by_place z place l d h exists

-- ---- one line more

-- a line has a bit, or a word
one_bit : (s : Values) (l : Line) (b : Bool) → defined_bits s l ≡ b ∷ [] → (E : Equations) (before : List Line) → defined_item E before l ≡ bit_item (E.inputs + bit_lines before)
one_bit s (all ls) b e E before = refl
one_bit s (any ls) b e E before = refl
one_bit s (within w lo hi) b e E before = refl
one_bit s (digit w place) b e E before = refl
one_bit s (choose cases other) b e E before = cc

one_word : (s : Values) (l : Line) (n : ℕ) → defined_words s l ≡ n ∷ [] → (E : Equations) (before : List Line) → defined_item E before l ≡ word_item (registers E + word_lines before)
one_word s (all ls) n e E before = cc
one_word s (any ls) n e E before = cc
one_word s (within w lo hi) n e E before = cc
one_word s (digit w place) n e E before = cc
one_word s (choose cases other) n e E before = refl

-- the number of the item
abbrev pub number_of : Item → ℕ
number_of (bit_item k) = k
number_of (word_item k) = k

pub is_drawable_line : {E : Equations} {order cyclic : List ℕ} → IsDrawable E order cyclic → (p : ℕ) → p < length E.lines → line_below (bit_count E) (word_count E) (line_at E p) ≡ true
is_drawable_line {E} drawable p inside = let d = defines-at E p inside in drawable.each d.before (line_at E p) d.after d.stands

lists_at : (xs : List ℕ) (i : ℕ) → i < length xs → lists xs (slice_index_or xs i 0) ≡ true
lists_at [] i inside = absurd (omega arith)
lists_at (x ∷ xs) zero inside = or_left _ _ (nat_eq-itself x)
lists_at (x ∷ xs) (suc i) inside = or_right (nat_eq x (slice_index_or xs i 0)) _ (lists_at xs i (omega arith))

defines_below : {E : Equations} {place k : ℕ} {l : Line} → Defines E place l (bit_item k) → k < bit_count E
defines_below {E} {place} {k} {l} d = by_line l d.is (ap bit_lines d.stands ∙ bits-append d.before (l ∷ d.after))
  where
    by_line : (l : Line) → defined_item E d.before l ≡ bit_item k → bit_lines E.lines ≡ bit_lines d.before + (bits_of_line l + bit_lines d.after) → k < bit_count E
    by_line (all ls) e f = let g : E.inputs + bit_lines d.before ≡ k = cc in omega arith
    by_line (any ls) e f = let g : E.inputs + bit_lines d.before ≡ k = cc in omega arith
    by_line (within w lo hi) e f = let g : E.inputs + bit_lines d.before ≡ k = cc in omega arith
    by_line (digit w place) e f = let g : E.inputs + bit_lines d.before ≡ k = cc in omega arith
    by_line (choose cases other) e f = cc

defines_below_word : {E : Equations} {place k : ℕ} {l : Line} → Defines E place l (word_item k) → k < word_count E
defines_below_word {E} {place} {k} {l} d = by_line l d.is (ap word_lines d.stands ∙ words-append d.before (l ∷ d.after))
  where
    by_line : (l : Line) → defined_item E d.before l ≡ word_item k → word_lines E.lines ≡ word_lines d.before + (words_of_line l + word_lines d.after) → k < word_count E
    by_line (all ls) e f = cc
    by_line (any ls) e f = cc
    by_line (within w lo hi) e f = cc
    by_line (digit w place) e f = cc
    by_line (choose cases other) e f = let g : registers E + word_lines d.before ≡ k = cc in omega arith

words_set : (arena : ArenaView) (words : List (List NodeId)) (k : ℕ) (w : List NodeId) → All (IsWord arena) words → IsWord arena w → All (IsWord arena) (set words k w)
words_set arena [] k w held is j d below = absurd (omega arith)
words_set arena (v ∷ words) zero w held is zero d below = is
words_set arena (v ∷ words) zero w held is (suc j) d below = held (suc j) d (omega arith)
words_set arena (v ∷ words) (suc k) w held is zero d below = held 0 v (omega arith)
words_set arena (v ∷ words) (suc k) w held is (suc j) d below = words_set arena words k w (λ i e low. held (suc i) e (omega arith)) is j d (omega arith)

cyclic_defined : {E : Equations} (x y : Item) → Chain (ItemDepends E) x y → (k : ℕ) → x ≡ bit_item k → k < bit_count E
cyclic_defined {E} x y (link a b d) k e = defines_below (subst (λ (z : Item). Defines E d.place d.line z) e d.defines)
cyclic_defined {E} x y (links a b c d more) k e = defines_below (subst (λ (z : Item). Defines E d.place d.line z) e d.defines)

pub known_exists : {E : Equations} {order cyclic earlier : List ℕ} → IsPlanOf E order cyclic → (y : Item) → IsKnown E earlier cyclic y → (k : ℕ) → y ≡ bit_item k → k < bit_count E
known_exists {E} {order} {cyclic} plan y (input j low) k e = let same : j ≡ k = cc in omega arith
known_exists {E} {order} {cyclic} plan y (register j low) k e = cc
known_exists {E} {order} {cyclic} plan y (given j h) k e = cyclic_defined (bit_item j) (bit_item j) ((cyclic_are E cyclic plan.cyclic_bits j h).1) k e
known_exists {E} {order} {cyclic} plan y (earlier_line z place l d h) k e = defines_below (subst (λ (w : Item). Defines E place l w) e d)

module _ (E : Equations) (cyclic order : List ℕ) (places : Places) (a b c : ArenaView) (t : TableView) (i : ℕ) (drawable : IsDrawable E order cyclic) (inputs_sized : length places.inputs.items ≡ E.inputs) (registers_sized : length places.regs.items ≡ registers E) (cyclic_sized : length places.cyclic.items ≡ length cyclic)
    (inside : i < length order) (before : DrawnSoFar E cyclic order places a i b t) (adds : AddsAtMost (64 * line_weight (line_at E (slice_index_or order i 0))) b c) where
  abbrev pub p : ℕ
  p = slice_index_or order i 0

  abbrev pub line : Line
  line = line_at E p

  abbrev pub item : Item
  item = item_at E p

  pub place_inside : p < length E.lines
  place_inside = in-range (length E.lines) order p drawable.plan.sized drawable.plan.each (lists_at order i inside)

  defines : Defines E p line item
  defines = defines-at E p place_inside

  order_is : order ≡ take i order ++ p ∷ drop (i + 1) order
  order_is = sym (take-append-drop i order) ∙ ap (λ (l : List ℕ). take i order ++ l) (drop_more order i 0 inside)

  reads_known : (y : Item) → line_reads line y ≡ true → IsKnown E (take i order) cyclic y
  reads_known y reads = drawable.plan.known (take i order) p (drop (i + 1) order) line item y order_is defines reads

  agree : (x : SignalSet) (s : Values) → length x ≡ b.variables → IsCompletionAt E cyclic places x s → (y : Item) → line_reads line y ≡ true → Agree (table_values b t x) (as_read cyclic (cyclic_at places x) s) y
  agree x s sized is y reads =
      let known = reads_known y reads in
      agrees E cyclic places b t before.table before.bits_sized before.words_sized before.given_are inputs_sized registers_sized cyclic_sized (take i order) before.right x s sized is y known (λ k e. known_exists drawable.plan y known k e)

  -- the line's value on the table is its value in the completion
  has_value : (x : SignalSet) (s : Values) → IsCompletionAt E cyclic places x s → HasValue s item (as_read cyclic (cyclic_at places x) s) line
  has_value x s is =
      completions_follow_lines E cyclic (memory_at places x) (inputs_at places x) (cyclic_at places x) s p line item
      (length-map places.regs.items (register_at x) ∙ registers_sized) (length-map places.inputs.items (has x) ∙ inputs_sized) is defines

  more : take (i + 1) order ≡ take i order ++ p ∷ []
  more = take_more order i 0 inside

  weights : 64 * sum_over (λ q. line_weight (line_at E q)) (take (i + 1) order) ≡ 64 * sum_over (λ q. line_weight (line_at E q)) (take i order) + 64 * line_weight line
  weights = ap (λ (l : List ℕ). 64 * sum_over (λ q. line_weight (line_at E q)) l) more ∙ summed (take i order)
    where
      summed : (xs : List ℕ) → 64 * sum_over (λ q. line_weight (line_at E q)) (xs ++ p ∷ []) ≡ 64 * sum_over (λ q. line_weight (line_at E q)) xs + 64 * line_weight line
      summed [] = omega arith
      summed (x ∷ xs) = omega (arith, summed xs)

  pub adds_more : AddsAtMost (64 * sum_over (λ q. line_weight (line_at E q)) (take (i + 1) order)) a c
  adds_more = adds_in_turn _ _ _ (omega (arith, weights)) before.adds adds

  given_later : GivenAre c cyclic places.cyclic.items (bit_count E) t.given
  given_later = record {
    sized = before.given_are.sized;
    held = λ k f at. adds.keeps.held f.0 (before.given_are.held k f at);
    equal = λ x s k sized below.
        given-kept b c (slice_index_or t.given k None) (bit_of s k) x adds.keeps (λ f at. before.given_are.held k f at) (sized ∙ adds.keeps.variables)
        ∙ before.given_are.equal x s k (sized ∙ adds.keeps.variables) below;
  }

  -- ---- a bit

  one_cons : (u v : Bool) → u ∷ [] ≡ v ∷ [] → u ≡ v
  one_cons u v e = cc

  one_cons_word : (u v : ℕ) → u ∷ [] ≡ v ∷ [] → u ≡ v
  one_cons_word u v e = cc

  one_place : (j k : ℕ) → bit_item j ≡ bit_item k → j ≡ k
  one_place j k e = cc

  one_place_word : (j k : ℕ) → word_item j ≡ word_item k → j ≡ k
  one_place_word j k e = cc

  bit_not_word : (j k : ℕ) → bit_item j ≡ word_item k → ⊥
  bit_not_word j k e = cc

  module _ (n : ℕ) (f : NodeId) (number : n ≡ number_of item) (held : Holds c f.0) (drawn : (x : SignalSet) → length x ≡ c.variables → defined_bits (table_values b t x) line ≡ function_of c f.0 x ∷ []) where
    item_is : item ≡ bit_item n
    item_is =
        let x = replicate c.variables false in
        let e = one_bit (table_values b t x) line (function_of c f.0 x) (drawn x (length-replicate c.variables false)) E (take p E.lines) in
        e ∙ ap bit_item (sym (number ∙ ap number_of e))

    pub bit_inside : n < length t.bits
    bit_inside = let d = subst (λ (z : Item). Defines E p line z) item_is defines in omega (arith, defines_below d, before.bits_sized)

    value_is : (x : SignalSet) (s : Values) → length x ≡ c.variables → IsCompletionAt E cyclic places x s → function_of c f.0 x ≡ bit_of s n
    value_is x s sized is =
        let v : HasValue s (bit_item n) (as_read cyclic (cyclic_at places x) s) line = subst (λ (z : Item). HasValue s z (as_read cyclic (cyclic_at places x) s) line) item_is (has_value x s is) in
        one_cons (function_of c f.0 x) (bit_of s n) (sym (drawn x sized) ∙ bits-agree (table_values b t x) (as_read cyclic (cyclic_at places x) s) line (agree x s (sized ∙ adds.keeps.variables) is) ∙ v)

    new_right : (k : ℕ) → k ≡ n → IsRight E cyclic places c (record { bits = set t.bits n f; given = t.given; words = t.words }) (bit_item k)
    new_right k same = (
      omega (arith, length-set t.bits n f, bit_inside, same),
      λ x s sized is.
          ap (λ (j : ℕ). function_of c (slice_index_or (set t.bits n f) j start).0 x) same
          ∙ ap (λ (g : NodeId). function_of c g.0 x) (get_or-set_same t.bits n f start bit_inside)
          ∙ value_is x s sized is ∙ ap (bit_of s) (sym same),
    )

    old_right : (y : Item) → IsKnown E (take i order) [] y → IsRight E cyclic places c (record { bits = set t.bits n f; given = t.given; words = t.words }) y
    old_right (bit_item k) known = elim (cases_eq k n) [
      | inl same ↦ new_right k same
      | inr other ↦
          let r = before.right (bit_item k) known in (
            omega (arith, length-set t.bits n f, r.0),
            λ x s sized is.
                let sized_b : length x ≡ b.variables = sized ∙ adds.keeps.variables in
                ap (λ (g : NodeId). function_of c g.0 x) (get_or-set_other t.bits n k f start other)
                ∙ adds.keeps.denotes (slice_index_or t.bits k start).0 (before.table.bits_held k start r.0) x sized_b ∙ r.1 x s sized_b is,
          )
    ]
    old_right (word_item k) known =
        let r = before.right (word_item k) known in (
          r.0,
          λ x s sized is.
              let sized_b : length x ≡ b.variables = sized ∙ adds.keeps.variables in
              word-kept b c (slice_index_or t.words k []) x adds.keeps (before.table.words_held k [] r.0) sized_b ∙ r.1 x s sized_b is,
        )

    pub bit_drawn : DrawnSoFar E cyclic order places a (i + 1) c (record { bits = set t.bits n f; given = t.given; words = t.words })
    bit_drawn = record {
      adds = adds_more;
      table = record {
        bits_held = held_set c t.bits n f (λ k d below. adds.keeps.held (get_or t.bits k d).0 (before.table.bits_held k d below)) held;
        given_sized = before.table.given_sized ∙ sym (length-set t.bits n f);
        given_held = λ k g at. adds.keeps.held g.0 (before.table.given_held k g at);
        words_held = all_words_later t.words adds.keeps before.table.words_held;
      };
      bits_sized = length-set t.bits n f ∙ before.bits_sized;
      words_sized = before.words_sized;
      given_are = given_later;
      right = λ y known. elim (known-more E [] (take i order) p y (subst (λ (l : List ℕ). IsKnown E l [] y) more known)) [
        | inl old ↦ old_right y old
        | inr here ↦ subst (λ (z : Item). IsRight E cyclic places c (record { bits = set t.bits n f; given = t.given; words = t.words }) z) (sym (here ∙ item_is)) (new_right n refl)
      ];
    }

  -- ---- a word

  module _ (n : ℕ) (w : List NodeId) (number : n ≡ number_of item) (is_word : IsWord c w) (drawn : (x : SignalSet) → length x ≡ c.variables → defined_words (table_values b t x) line ≡ code_at c w x ∷ []) where
    word_item_is : item ≡ word_item n
    word_item_is =
        let x = replicate c.variables false in
        let e = one_word (table_values b t x) line (code_at c w x) (drawn x (length-replicate c.variables false)) E (take p E.lines) in
        e ∙ ap word_item (sym (number ∙ ap number_of e))

    pub word_inside : n < length t.words
    word_inside = let d = subst (λ (z : Item). Defines E p line z) word_item_is defines in omega (arith, defines_below_word d, before.words_sized)

    word_value_is : (x : SignalSet) (s : Values) → length x ≡ c.variables → IsCompletionAt E cyclic places x s → code_at c w x ≡ word_of s n
    word_value_is x s sized is =
        let v : HasValue s (word_item n) (as_read cyclic (cyclic_at places x) s) line = subst (λ (z : Item). HasValue s z (as_read cyclic (cyclic_at places x) s) line) word_item_is (has_value x s is) in
        one_cons_word (code_at c w x) (word_of s n) (sym (drawn x sized) ∙ words-agree (table_values b t x) (as_read cyclic (cyclic_at places x) s) line (agree x s (sized ∙ adds.keeps.variables) is) ∙ v)

    new_word_right : (k : ℕ) → k ≡ n → IsRight E cyclic places c (record { bits = t.bits; given = t.given; words = set t.words n w }) (word_item k)
    new_word_right k same = (
      omega (arith, length-set t.words n w, word_inside, same),
      λ x s sized is.
          ap (λ (j : ℕ). code_at c (slice_index_or (set t.words n w) j []) x) same
          ∙ ap (λ (v : List NodeId). code_at c v x) (get_or-set_same t.words n w [] word_inside)
          ∙ word_value_is x s sized is ∙ ap (word_of s) (sym same),
    )

    old_word_right : (y : Item) → IsKnown E (take i order) [] y → IsRight E cyclic places c (record { bits = t.bits; given = t.given; words = set t.words n w }) y
    old_word_right (word_item k) known = elim (cases_eq k n) [
      | inl same ↦ new_word_right k same
      | inr other ↦
          let r = before.right (word_item k) known in (
            omega (arith, length-set t.words n w, r.0),
            λ x s sized is.
                let sized_b : length x ≡ b.variables = sized ∙ adds.keeps.variables in
                ap (λ (v : List NodeId). code_at c v x) (get_or-set_other t.words n k w [] other)
                ∙ word-kept b c (slice_index_or t.words k []) x adds.keeps (before.table.words_held k [] r.0) sized_b ∙ r.1 x s sized_b is,
          )
    ]
    old_word_right (bit_item k) known =
        let r = before.right (bit_item k) known in (
          r.0,
          λ x s sized is.
              let sized_b : length x ≡ b.variables = sized ∙ adds.keeps.variables in
              adds.keeps.denotes (slice_index_or t.bits k start).0 (before.table.bits_held k start r.0) x sized_b ∙ r.1 x s sized_b is,
        )

    pub word_drawn : DrawnSoFar E cyclic order places a (i + 1) c (record { bits = t.bits; given = t.given; words = set t.words n w })
    word_drawn = record {
      adds = adds_more;
      table = record {
        bits_held = held_later b c t.bits adds.keeps before.table.bits_held;
        given_sized = before.table.given_sized;
        given_held = λ k g at. adds.keeps.held g.0 (before.table.given_held k g at);
        words_held = words_set c t.words n w (all_words_later t.words adds.keeps before.table.words_held) is_word;
      };
      bits_sized = before.bits_sized;
      words_sized = length-set t.words n w ∙ before.words_sized;
      given_are = given_later;
      right = λ y known. elim (known-more E [] (take i order) p y (subst (λ (l : List ℕ). IsKnown E l [] y) more known)) [
        | inl old ↦ old_word_right y old
        | inr here ↦ subst (λ (z : Item). IsRight E cyclic places c (record { bits = t.bits; given = t.given; words = set t.words n w }) z) (sym (here ∙ word_item_is)) (new_word_right n refl)
      ];
    }

-- ---- no line yet

pub drawn_none : {E : Equations} {cyclic order : List ℕ} {places : Places} {arena : ArenaView} {t : TableView} → IsArena arena → length places.inputs.items ≡ E.inputs → length places.regs.items ≡ registers E
    → Begins arena places cyclic (bit_count E) (word_count E) t → DrawnSoFar E cyclic order places arena 0 arena t
drawn_none {E} {cyclic} {order} {places} {arena} {t} valid inputs_sized registers_sized is = record {
  adds = adds_nothing _ arena valid;
  table = record { bits_held = is.inputs.held; given_sized = is.given.sized ∙ sym is.inputs.sized; given_held = is.given.held; words_held = is.words.held };
  bits_sized = is.inputs.sized;
  words_sized = is.words.sized;
  given_are = is.given;
  right = first;
}
  where
    input_value : (x : SignalSet) (s : Values) (k : ℕ) → k < E.inputs → IsCompletionAt E cyclic places x s → has x (slice_index_or places.inputs.items k 0) ≡ bit_of s k
    input_value x s k low at =
        sym (ap (λ (l : List Bool). slice_index_or l k false) at.bits
        ∙ get_or_append_left (inputs_at places x) (flat_map (defined_bits (as_read cyclic (cyclic_at places x) s)) E.lines) false k (omega (arith, length-map places.inputs.items (has x), inputs_sized))
        ∙ get_or-map (has x) places.inputs.items k 0 false (omega (arith, inputs_sized)))

    register_value : (x : SignalSet) (s : Values) (k : ℕ) → k < registers E → IsCompletionAt E cyclic places x s → slice_index_or (memory_at places x) k 0 ≡ word_of s k
    register_value x s k low at =
        sym (ap (λ (l : List ℕ). slice_index_or l k 0) at.words
        ∙ get_or_append_left (memory_at places x) (flat_map (defined_words (as_read cyclic (cyclic_at places x) s)) E.lines) 0 k (omega (arith, length-map places.regs.items (register_at x), registers_sized)))

    first : (y : Item) → IsKnown E [] [] y → IsRight E cyclic places arena t y
    first y (input k low) = (omega (arith, is.inputs.sized), λ x s sized at. is.inputs.equal x k sized (omega (arith, inputs_sized)) ∙ input_value x s k low at)
    first y (register k low) = (omega (arith, is.words.sized), λ x s sized at. is.words.equal x k sized (omega (arith, registers_sized)) ∙ register_value x s k low at)
    first y (given k h) = cc
    first y (earlier_line z place l d h) = cc

-- ---- all lines

known_without : {E : Equations} {order cyclic : List ℕ} → IsPlanOf E order cyclic → (y : Item) → IsKnown E order cyclic y → IsKnown E order [] y
known_without plan y (input k low) = input k low
known_without plan y (register k low) = register k low
known_without plan y (earlier_line z place l d h) = earlier_line z place l d h
known_without {E} {order} {cyclic} plan y (given k h) = by_chain (bit_item k) (bit_item k) ((cyclic_are E cyclic plan.cyclic_bits k h).1)
  where
    by_depends : (u v : Item) → ItemDepends E u v → IsKnown E order [] u
    by_depends u v d = earlier_line u d.place d.line d.defines (plan.each d.place (omega (arith, d.defines.place_is, ap length d.defines.stands, length-append d.defines.before (d.line ∷ d.defines.after))))

    by_chain : (u v : Item) → Chain (ItemDepends E) u v → IsKnown E order [] u
    by_chain u v (link a b d) = by_depends a b d
    by_chain u v (links a b c d _) = by_depends a b d

pub drawn_all : {E : Equations} {cyclic order : List ℕ} {places : Places} {a b : ArenaView} {t : TableView} {i : ℕ} → IsPlanOf E order cyclic → length places.inputs.items ≡ E.inputs → length places.regs.items ≡ registers E → length order ≡ i → DrawnSoFar E cyclic order places a i b t
    → DenoteCompletions b E cyclic places t.bits t.words
drawn_all {E} {cyclic} {order} {places} {a} {b} {t} {i} plan inputs_sized registers_sized every before = record {
  bits_held = before.table.bits_held;
  bits_are = λ x s sized is.
      let long : length s.bits ≡ bit_count E = ap length is.bits ∙ omega (arith, length-append (inputs_at places x) (flat_map (defined_bits (as_read cyclic (cyclic_at places x) s)) E.lines), length-bits (as_read cyclic (cyclic_at places x) s) E.lines, length-map places.inputs.items (has x), inputs_sized) in
      let same : length (values_at b t.bits x) ≡ length s.bits = length-map t.bits (λ (f : NodeId). function_of b f.0 x) ∙ before.bits_sized ∙ sym long in
      ext_get_or false (values_at b t.bits x) s.bits same (λ k below.
      let inside : k < length t.bits = omega (arith, length-map t.bits (λ (f : NodeId). function_of b f.0 x)) in
      value-at_place b t.bits x k start inside ∙ (right (bit_item k) (known-bit E order cyclic plan k (omega (arith, before.bits_sized)))).1 x s sized is);
  words_held = before.table.words_held;
  words_are = λ x s sized is.
      let long : length s.words ≡ word_count E = ap length is.words ∙ omega (arith, length-append (memory_at places x) (flat_map (defined_words (as_read cyclic (cyclic_at places x) s)) E.lines), length-words (as_read cyclic (cyclic_at places x) s) E.lines, length-map places.regs.items (register_at x), registers_sized) in
      let same : length (codes_at b t.words x) ≡ length s.words = length-map t.words (λ (w : List NodeId). code_at b w x) ∙ before.words_sized ∙ sym long in
      ext_get_or 0 (codes_at b t.words x) s.words same (λ k below.
      let inside : k < length t.words = omega (arith, length-map t.words (λ (w : List NodeId). code_at b w x)) in
      get_or-map (λ (w : List NodeId). code_at b w x) t.words k [] 0 inside ∙ (right (word_item k) (known-word E order cyclic plan k (omega (arith, before.words_sized)))).1 x s sized is);
}
  where
    right : (y : Item) → IsKnown E order cyclic y → IsRight E cyclic places b t y
    right y known = before.right y (subst (λ (l : List ℕ). IsKnown E l [] y) (sym (take_all i order (omega arith))) (known_without plan y known))
