-- Words that are read of a table: picks and cases.
use Rattle.std.proofs.Common.{◌≡◌, ℕ, zero, suc, ◌+◌, ◌-◌, ◌*◌, ◌^◌, ◌<◌, ◌≤◌, List, [], ◌∷◌, Bool, true, false, ◌&&◌, not, if◌then◌else◌, nat_le, nat_lt, nat_eq, IsTrue, length, map, drop, Result, Ok, Err, IfOk, refl, sym, ap, ◌∙◌, subst, arith}
use Rattle.std.specs.Prelude.{slice_index_or, ◌/◌, ◌%◌}
use Rattle.std.specs.List.{list_all}
use Rattle.std.proofs.lemmas.Bool.Decides.{nat_tests}
use Rattle.std.proofs.lemmas.List.{length-map, get_or-map, drop_more}
use Rattle.argos_base.proofs.Bools.{and_first, and_second}
use Rattle.argos_base.specs.SignalSets.{SignalSet}
use Rattle.dd_core.specs.declared.nodes.NodeId.{NodeId}
use Rattle.dd_core.specs.Arenas.{ArenaView, Holds, function_of, AddsAtMost}
use Rattle.eqn_core.specs.Equations.{Literal, Case, Choice, Line, within, digit}
use Rattle.eqn_core.specs.Ordered.{case_below}
use Rattle.eqn_core.specs.Solutions.{Values, bit_of, word_of, is_true, value_of, chosen_value, defined_bits}
use Rattle.eqn_dd.specs.Denoting.{Denotes, values_at, code_at, IsWord, DenotesWord}
use Rattle.eqn_dd.specs.inner.Tables.{TableView, read_id, table_values, IsTable}
use Rattle.eqn_dd.proofs.Denotations.{adds_in_turn, adds_fewer, denotes_word_equal, value-at_place, word-kept}
use Rattle.eqn_dd.proofs.Numbers.{number-digit}
use Rattle.eqn_dd.proofs.TableSteps.{bit_read, table_values-kept}

lt_tells : (k n : ℕ) → nat_lt k n ≡ true → k < n
lt_tells k n h = grind (arith, nat_tests)

-- the word at a place is what was read there
pub word_at : {X : Type 0} (f : X → List NodeId) (words : List X) (k : ℕ) (w : X) (v : List NodeId) → k < length words → w ≡ slice_index_or words k w → v ≡ f w → v ≡ slice_index_or (map f words) k []
word_at f words k w v inside at is = is ∙ ap f at ∙ sym (get_or-map f words k w [] inside)

pub word_held : {a : ArenaView} (t : TableView) (k : ℕ) (v : List NodeId) → IsTable a t → k < length t.words → v ≡ slice_index_or t.words k [] → IsWord a v
word_held {a} t k v is below at = subst (IsWord a) (sym at) (is.words_held k [] below)

pub word_read : (a : ArenaView) (t : TableView) (x : SignalSet) (k : ℕ) (v : List NodeId) → k < length t.words → v ≡ slice_index_or t.words k [] → code_at a v x ≡ word_of (table_values a t x) k
word_read a t x k v below at = ap (λ (w : List NodeId). code_at a w x) at ∙ sym (get_or-map (λ (w : List NodeId). code_at a w x) t.words k [] 0 below)

-- ---- picks

pub picked_itself : {a : ArenaView} (t : TableView) (k : ℕ) (v w : List NodeId) → IsTable a t → k < length t.words → v ≡ slice_index_or t.words k [] → w ≡ v → DenotesWord a w (λ x. word_of (table_values a t x) k)
picked_itself {a} t k v w is below at same = subst (λ (u : List NodeId). DenotesWord a u (λ x. word_of (table_values a t x) k)) (sym same) (record { is_word = word_held t k v is below at; equal = λ x sized. word_read a t x k v below at })

pub pick_below : (k n : ℕ) → IsTrue (nat_lt k n) → k < n
pick_below k n h = lt_tells k n h

-- ---- cases

module _ {a b : ArenaView} {own other : List NodeId} {pick : SignalSet → ℕ} {test : ℕ} (t : TableView) (l : Literal) (is : IsTable a t) (below : l.bit < length t.bits) (at : test ≡ read_id t l.bit) (adds : AddsAtMost 48 a b) (own_is : DenotesWord b own pick) (other_is : IsWord a other) where
  value : (x : SignalSet) → length x ≡ b.variables → function_of b test x ≡ bit_of (table_values a t x) l.bit
  value x sized =
      ap (λ (f : ℕ). function_of b f x) at ∙ sym (bit_read b t x l.bit below)
      ∙ ap (λ (v : Values). bit_of v l.bit) (table_values-kept a b t x adds.keeps is (sized ∙ adds.keeps.variables))

  turned_words : (u : Bool) (p q : ℕ) → (if u then p else q) ≡ (if not u then q else p)
  turned_words true p q = refl
  turned_words false p q = refl

  pub case_off : {c : ArenaView} {w : List NodeId} → l.negated ≡ true → AddsAtMost 16 b c → DenotesWord c w (λ x. if function_of b test x then code_at b other x else code_at b own x)
      → DenotesWord c w (λ x. if is_true (table_values a t x) l then pick x else code_at a other x)
  case_off {c} off more made = denotes_word_equal (λ x sized.
      let sized_b : length x ≡ b.variables = sized ∙ more.keeps.variables in
      let bit = bit_of (table_values a t x) l.bit in
      ap (λ (u : Bool). if u then code_at b other x else code_at b own x) (value x sized_b)
      ∙ ap (λ (n : ℕ). if bit then n else code_at b own x) (word-kept a b other x adds.keeps other_is (sized_b ∙ adds.keeps.variables))
      ∙ ap (λ (n : ℕ). if bit then code_at a other x else n) (own_is.equal x sized_b)
      ∙ turned_words bit (code_at a other x) (pick x)
      ∙ ap (λ (v : Bool). if (if v then not bit else bit) then pick x else code_at a other x) (sym off)) made

  pub case_on : {c : ArenaView} {w : List NodeId} → l.negated ≡ false → AddsAtMost 16 b c → DenotesWord c w (λ x. if function_of b test x then code_at b own x else code_at b other x)
      → DenotesWord c w (λ x. if is_true (table_values a t x) l then pick x else code_at a other x)
  case_on {c} on more made = denotes_word_equal (λ x sized.
      let sized_b : length x ≡ b.variables = sized ∙ more.keeps.variables in
      let bit = bit_of (table_values a t x) l.bit in
      ap (λ (u : Bool). if u then code_at b own x else code_at b other x) (value x sized_b)
      ∙ ap (λ (n : ℕ). if bit then n else code_at b other x) (own_is.equal x sized_b)
      ∙ ap (λ (n : ℕ). if bit then pick x else n) (word-kept a b other x adds.keeps other_is (sized_b ∙ adds.keeps.variables))
      ∙ ap (λ (v : Bool). if (if v then not bit else bit) then pick x else code_at a other x) (sym on)) made

  pub ok_case_off : {c : ArenaView} {V E : Type 0} (f : V → List NodeId) (result : Result V E) → l.negated ≡ true → AddsAtMost 16 b c → IfOk result (λ w. DenotesWord c (f w) (λ x. if function_of b test x then code_at b other x else code_at b own x))
      → IfOk result (λ w. DenotesWord c (f w) (λ x. if is_true (table_values a t x) l then pick x else code_at a other x))
  ok_case_off f (Ok w) off more made = case_off off more made
  ok_case_off f (Err e) off more made = tt

  pub ok_case_on : {c : ArenaView} {V E : Type 0} (f : V → List NodeId) (result : Result V E) → l.negated ≡ false → AddsAtMost 16 b c → IfOk result (λ w. DenotesWord c (f w) (λ x. if function_of b test x then code_at b own x else code_at b other x))
      → IfOk result (λ w. DenotesWord c (f w) (λ x. if is_true (table_values a t x) l then pick x else code_at a other x))
  ok_case_on f (Ok w) on more made = case_on on more made
  ok_case_on f (Err e) on more made = tt

-- the last cases, from place `left` on
pub record CasesSoFar (old : ArenaView) (t : TableView) (cases : List Case) (other : Choice) (left : ℕ) (new : ArenaView) (w : List NodeId) : Type 0 where
  pub inside : left ≤ length cases
  pub adds : AddsAtMost (48 + 64 * (length cases - left)) old new
  pub denotes : DenotesWord new w (λ x. chosen_value (table_values old t x) (drop left cases) other)

pub cases_none : (a b : ArenaView) (t : TableView) (cases : List Case) (other : Choice) (w : List NodeId) (left : ℕ) → left ≡ length cases → AddsAtMost 48 a b → DenotesWord b w (λ x. value_of (table_values a t x) other) → CasesSoFar a t cases other left b w
cases_none a b t cases other w left whole adds is = record {
  inside = omega arith;
  adds = adds_fewer 48 (48 + 64 * (length cases - left)) (omega arith) adds;
  denotes = denotes_word_equal (λ x sized. sym (ap (λ (l : List Case). chosen_value (table_values a t x) l other) (past cases left (omega arith)))) is;
}
  where
    past : (cs : List Case) (k : ℕ) → length cs ≤ k → drop k cs ≡ []
    past [] zero h = refl
    past [] (suc k) h = refl
    past (c ∷ cs) zero h = absurd (omega arith)
    past (c ∷ cs) (suc k) h = past cs k (omega arith)

pub cases_more : {a b c : ArenaView} {w v : List NodeId} {left k : ℕ} (t : TableView) (cases : List Case) (other : Choice) (one : Case) → IsTable a t → k + 1 ≡ left → one ≡ slice_index_or cases k one → CasesSoFar a t cases other left b w
    → AddsAtMost 64 b c → DenotesWord c v (λ x. if is_true (table_values b t x) one.when then value_of (table_values b t x) one.choice else code_at b w x) → CasesSoFar a t cases other k c v
cases_more {a} {b} {c} {w} {v} {left} {k} t cases other one is below at before adds made = record {
  inside = omega (arith, before.inside);
  adds = adds_in_turn (48 + 64 * (length cases - left)) 64 (48 + 64 * (length cases - k)) (omega (arith, before.inside)) before.adds adds;
  denotes = denotes_word_equal (λ x sized.
      let sized_b : length x ≡ b.variables = sized ∙ adds.keeps.variables in
      let s = table_values a t x in
      ap (λ (u : Values). if is_true u one.when then value_of u one.choice else code_at b w x) (table_values-kept a b t x before.adds.keeps is (sized_b ∙ before.adds.keeps.variables))
      ∙ ap (λ (n : ℕ). if is_true s one.when then value_of s one.choice else n) (before.denotes.equal x sized_b ∙ ap (λ (j : ℕ). chosen_value s (drop j cases) other) (sym below))
      ∙ sym (ap (λ (l : List Case). chosen_value s l other) (drop_more cases k one (omega (arith, before.inside)) ∙ ap (λ (d : Case). d ∷ drop (k + 1) cases) (sym at)))) made;
}

pub case_there : (bits words : ℕ) (cases : List Case) (k : ℕ) (d : Case) → k < length cases → IsTrue (list_all (case_below bits words) cases) → IsTrue (case_below bits words (slice_index_or cases k d))
case_there bits words [] k d inside all = absurd (omega arith)
case_there bits words (c ∷ cases) zero d inside all = and_first _ _ all
case_there bits words (c ∷ cases) (suc k) d inside all = case_there bits words cases k d (omega arith) (and_second (case_below bits words c) _ all)

-- ---- lines that read one word

pub within_drawn : {b : ArenaView} {f : ℕ} (a : ArenaView) (t : TableView) (k lo hi : ℕ) (v : List NodeId) (l : Line) → l ≡ within k lo hi → k < length t.words → v ≡ slice_index_or t.words k []
    → Denotes b f (λ x. nat_le lo (code_at a v x) && nat_le (code_at a v x) hi) → Holds b f × ((x : SignalSet) → length x ≡ b.variables → defined_bits (table_values a t x) l ≡ function_of b f x ∷ [])
within_drawn {b} {f} a t k lo hi v l line below at is = (
  is.held,
  λ x sized.
      ap (defined_bits (table_values a t x)) line
      ∙ ap (λ (c : Bool). c ∷ []) (sym (is.equal x sized ∙ ap (λ (n : ℕ). nat_le lo n && nat_le n hi) (word_read a t x k v below at))),
)

pub digit_drawn : {a : ArenaView} (t : TableView) (k place : ℕ) (v : List NodeId) (l : Line) (d : NodeId) → IsTable a t → l ≡ digit k place → k < length t.words → place ≤ 15 → v ≡ slice_index_or t.words k []
    → let f = slice_index_or v (15 - place) d in Holds a f.0 × ((x : SignalSet) → length x ≡ a.variables → defined_bits (table_values a t x) l ≡ function_of a f.0 x ∷ [])
digit_drawn {a} t k place v l d is line below small at =
    let held = word_held t k v is below at in
    let inside : 15 - place < length v = omega (arith, held.sized) in (
      held.held (15 - place) d inside,
      λ x sized.
          let long : length (values_at a v x) ≡ 16 = length-map v (λ (f : NodeId). function_of a f.0 x) ∙ held.sized in
          ap (defined_bits (table_values a t x)) line
          ∙ ap (λ (n : ℕ). nat_eq (n / 2 ^ place % 2) 1 ∷ []) (sym (word_read a t x k v below at))
          ∙ ap (λ (c : Bool). c ∷ []) (number-digit (values_at a v x) (15 - place) place (omega (arith, long)) ∙ value-at_place a v x (15 - place) d inside),
    )

pub place_below : (p n : ℕ) → IsTrue (nat_le p n) → p ≤ n
place_below p n h = grind (arith, nat_tests)
