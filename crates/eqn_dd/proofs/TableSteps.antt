-- What is read of a table, also in later arenas.
use Rattle.std.proofs.Common.{◌≡◌, ℕ, zero, suc, ◌+◌, ◌-◌, ◌<◌, ◌≤◌, List, [], ◌∷◌, Option, Some, None, Bool, true, false, ◌&&◌, ◌||◌, not, if◌then◌else◌, length, map, drop, get_or, Result, IfOk, refl, sym, ap, ◌∙◌, arith}
use Rattle.std.specs.Prelude.{slice_index_or}
use Rattle.std.specs.List.{list_all, list_any}
use Rattle.std.proofs.lemmas.List.{get_or-map, drop_more}
use Rattle.argos_base.specs.SignalSets.{SignalSet}
use Rattle.argos_base.proofs.SetLemmas.{has-set_where, set_where-agree}
use Rattle.dd_core.specs.declared.nodes.NodeId.{NodeId}
use Rattle.dd_core.specs.declared.errors.DdError.{DdError}
use Rattle.dd_core.specs.Functions.{if_else}
use Rattle.dd_core.specs.Arenas.{ArenaView, IsArena, Holds, function_of, Keeps, Makes, AddsAtMost}
use Rattle.eqn_core.specs.Equations.{Literal}
use Rattle.eqn_core.specs.Solutions.{Values, bit_of, is_true}
use Rattle.eqn_core.specs.inner.LineValues.{known}
use Rattle.eqn_dd.specs.Denoting.{Denotes}
use Rattle.eqn_dd.specs.inner.Fitting.{codes_at}
use Rattle.eqn_dd.specs.inner.Tables.{TableView, id_or, read_id, table_values, IsTable}
use Rattle.eqn_dd.proofs.Denotations.{adds_nothing, adds_in_turn, denotes_equal, denotes_constant, made_equal}
use Rattle.eqn_dd.proofs.StructureSteps.{codes-kept, all_words_later}

pub table_later : {a b : ArenaView} {t : TableView} → Keeps a b → IsTable a t → IsTable b t
table_later {a} {b} {t} keeps is = record {
  bits_held = λ k d below. keeps.held (get_or t.bits k d).0 (is.bits_held k d below);
  given_sized = is.given_sized;
  given_held = λ k f at. keeps.held f.0 (is.given_held k f at);
  words_held = all_words_later t.words keeps is.words_held;
}

-- what is read is held
pub read_held : {a : ArenaView} {t : TableView} {k : ℕ} → IsTable a t → k < length t.bits → Holds a (read_id t k)
read_held {a} {t} {k} is below = of_given (slice_index_or t.given k None) refl
  where
    of_given : (o : Option NodeId) → slice_index_or t.given k None ≡ o → Holds a (id_or o (slice_index_or t.bits k (record { 0 = 0 })).0)
    of_given None e = is.bits_held k (record { 0 = 0 }) below
    of_given (Some f) e = is.given_held k f e

pub bit_read : (a : ArenaView) (t : TableView) (x : SignalSet) (k : ℕ) → k < length t.bits → bit_of (table_values a t x) k ≡ function_of a (read_id t k) x
bit_read a t x k below = has-set_where (length t.bits) (λ j. function_of a (read_id t j) x) k below

pub table_values-kept : (a b : ArenaView) (t : TableView) (x : SignalSet) → Keeps a b → IsTable a t → length x ≡ a.variables → table_values b t x ≡ table_values a t x
table_values-kept a b t x keeps is sized =
    ap (λ (l : List Bool). known l (codes_at b t.words x)) (set_where-agree (length t.bits) (λ k. function_of b (read_id t k) x) (λ k. function_of a (read_id t k) x) (λ k below. keeps.denotes (read_id t k) (read_held is below) x sized))
    ∙ ap (λ (l : List ℕ). known (table_values a t x).bits l) (codes-kept a b t.words x keeps is.words_held sized)

-- ---- literals

-- a choice by a literal
value_read : (a : ArenaView) (t : TableView) (test k : ℕ) (x : SignalSet) → k < length t.bits → test ≡ read_id t k → function_of a test x ≡ bit_of (table_values a t x) k
value_read a t test k x below is = ap (λ (f : ℕ). function_of a f x) is ∙ sym (bit_read a t x k below)

turned : (u p q : Bool) → (if u then p else q) ≡ (if not u then q else p)
turned true p q = refl
turned false p q = refl

module _ {m : ℕ} {a b : ArenaView} {test : ℕ} (t : TableView) (l : Literal) (y n : ℕ) (result : Result NodeId DdError) (below : l.bit < length t.bits) (is : test ≡ read_id t l.bit) where
  pub literal_off : l.negated ≡ true → Makes m a b (if_else (function_of a test) (function_of a n) (function_of a y)) result → IfOk result (λ f. Denotes b f.0 (λ x. if is_true (table_values a t x) l then function_of a y x else function_of a n x))
  literal_off off made = made_equal made (λ x sized.
      let bit = bit_of (table_values a t x) l.bit in
      ap (λ (u : Bool). if u then function_of a n x else function_of a y x) (value_read a t test l.bit x below is) ∙ turned bit (function_of a n x) (function_of a y x)
      ∙ ap (λ (w : Bool). if (if w then not bit else bit) then function_of a y x else function_of a n x) (sym off))

  pub literal_on : l.negated ≡ false → Makes m a b (if_else (function_of a test) (function_of a y) (function_of a n)) result → IfOk result (λ f. Denotes b f.0 (λ x. if is_true (table_values a t x) l then function_of a y x else function_of a n x))
  literal_on on made = made_equal made (λ x sized.
      let bit = bit_of (table_values a t x) l.bit in
      ap (λ (u : Bool). if u then function_of a y x else function_of a n x) (value_read a t test l.bit x below is)
      ∙ ap (λ (w : Bool). if (if w then not bit else bit) then function_of a y x else function_of a n x) (sym on))

-- what is read at a place of a list, by a function of its items
pub item_read : {X Y : Type 0} (f : X → Y) (xs : List X) (i : ℕ) (d : X) → i < length xs → f (slice_index_or xs i d) ≡ slice_index_or (map f xs) i (f (slice_index_or xs i d))
item_read f xs i d inside = sym (get_or-map f xs i d (f (slice_index_or xs i d)) inside)

-- the last literals, from place `left` on, all hold
pub record AllSoFar (old : ArenaView) (t : TableView) (ls : List Literal) (left : ℕ) (new : ArenaView)
    (f : ℕ) : Type 0 where
  pub inside : left ≤ length ls
  pub adds : AddsAtMost (length ls - left) old new
  pub denotes : Denotes new f (λ x. list_all (is_true (table_values old t x)) (drop left ls))

pub record AnySoFar (old : ArenaView) (t : TableView) (ls : List Literal) (left : ℕ) (new : ArenaView)
    (f : ℕ) : Type 0 where
  pub inside : left ≤ length ls
  pub adds : AddsAtMost (length ls - left) old new
  pub denotes : Denotes new f (λ x. list_any (is_true (table_values old t x)) (drop left ls))

past_all : (ls : List Literal) (k : ℕ) → length ls ≤ k → drop k ls ≡ []
past_all [] zero h = refl
past_all [] (suc k) h = refl
past_all (l ∷ ls) zero h = absurd (omega arith)
past_all (l ∷ ls) (suc k) h = past_all ls k (omega arith)

pub all_none : (arena : ArenaView) (t : TableView) (ls : List Literal) (left : ℕ) → IsArena arena → left ≡ length ls
    → AllSoFar arena t ls left arena 1
all_none arena t ls left valid every = record {
  inside = omega arith;
  adds = adds_nothing (length ls - left) arena valid;
  denotes = denotes_equal
      (λ x sized. sym (ap (list_all (is_true (table_values arena t x))) (past_all ls left (omega arith))))
      (denotes_constant arena 1 true valid refl);
}

pub any_none : (arena : ArenaView) (t : TableView) (ls : List Literal) (left : ℕ) → IsArena arena → left ≡ length ls
    → AnySoFar arena t ls left arena 0
any_none arena t ls left valid every = record {
  inside = omega arith;
  adds = adds_nothing (length ls - left) arena valid;
  denotes = denotes_equal
      (λ x sized. sym (ap (list_any (is_true (table_values arena t x))) (past_all ls left (omega arith))))
      (denotes_constant arena 0 false valid refl);
}

both_as_choice : (b c : Bool) → (if b then c else false) ≡ (b && c)
both_as_choice true c = refl
both_as_choice false c = refl

either_as_choice : (b c : Bool) → (if b then true else c) ≡ (b || c)
either_as_choice true c = refl
either_as_choice false c = refl

one_more : (ls : List Literal) (k left : ℕ) (l : Literal) → k + 1 ≡ left → k < length ls → l ≡ slice_index_or ls k l
    → drop k ls ≡ l ∷ drop left ls
one_more ls k left l below inside at =
    drop_more ls k l inside ∙ ap (λ (d : Literal). d ∷ drop (k + 1) ls) (sym at) ∙ ap (λ (n : ℕ). l ∷ drop n ls) below

module _ {a b c : ArenaView} {t : TableView} {left k f : ℕ} {r : NodeId} (ls : List Literal) (l : Literal)
    (is : IsTable a t) (below : k + 1 ≡ left) (at : l ≡ slice_index_or ls k l) where
  pub all_more : AllSoFar a t ls left b f → AddsAtMost 1 b c
      → Denotes c r.0 (λ x. if is_true (table_values b t x) l then function_of b f x else function_of b 0 x)
      → AllSoFar a t ls k c r.0
  all_more before adds made = record {
    inside = omega (arith, before.inside);
    adds = adds_in_turn (length ls - left) 1 (length ls - k) (omega (arith, before.inside)) before.adds adds;
    denotes = denotes_equal (λ x sized.
        let sized_b : length x ≡ b.variables = sized ∙ adds.keeps.variables in
        let p = is_true (table_values a t x) in
        ap (λ (v : Values). if is_true v l then function_of b f x else function_of b 0 x) (table_values-kept a b t x before.adds.keeps is (sized_b ∙ before.adds.keeps.variables))
        ∙ ap (λ (u : Bool). if p l then u else function_of b 0 x) (before.denotes.equal x sized_b)
        ∙ ap (λ (u : Bool). if p l then list_all p (drop left ls) else u)
        ((denotes_constant b 0 false before.adds.arena refl).equal x sized_b)
        ∙ both_as_choice (p l) (list_all p (drop left ls))
        ∙ sym (ap (list_all p) (one_more ls k left l below (omega (arith, before.inside)) at))) made;
  }

  pub any_more : AnySoFar a t ls left b f → AddsAtMost 1 b c
      → Denotes c r.0 (λ x. if is_true (table_values b t x) l then function_of b 1 x else function_of b f x)
      → AnySoFar a t ls k c r.0
  any_more before adds made = record {
    inside = omega (arith, before.inside);
    adds = adds_in_turn (length ls - left) 1 (length ls - k) (omega (arith, before.inside)) before.adds adds;
    denotes = denotes_equal (λ x sized.
        let sized_b : length x ≡ b.variables = sized ∙ adds.keeps.variables in
        let p = is_true (table_values a t x) in
        ap (λ (v : Values). if is_true v l then function_of b 1 x else function_of b f x) (table_values-kept a b t x before.adds.keeps is (sized_b ∙ before.adds.keeps.variables))
        ∙ ap (λ (u : Bool). if p l then u else function_of b f x) ((denotes_constant b 1 true before.adds.arena refl).equal x sized_b)
        ∙ ap (λ (u : Bool). if p l then true else u) (before.denotes.equal x sized_b)
        ∙ either_as_choice (p l) (list_any p (drop left ls))
        ∙ sym (ap (list_any p) (one_more ls k left l below (omega (arith, before.inside)) at))) made;
  }

pub all_whole : {a b : ArenaView} {t : TableView} {ls : List Literal} {left f : ℕ} → left ≡ 0
    → AllSoFar a t ls left b f → Denotes b f (λ x. list_all (is_true (table_values a t x)) ls)
all_whole {a} {b} {t} {ls} {left} {f} none before =
    denotes_equal (λ x sized. ap (λ (n : ℕ). list_all (is_true (table_values a t x)) (drop n ls)) none) before.denotes

pub any_whole : {a b : ArenaView} {t : TableView} {ls : List Literal} {left f : ℕ} → left ≡ 0
    → AnySoFar a t ls left b f → Denotes b f (λ x. list_any (is_true (table_values a t x)) ls)
any_whole {a} {b} {t} {ls} {left} {f} none before =
    denotes_equal (λ x sized. ap (λ (n : ℕ). list_any (is_true (table_values a t x)) (drop n ls)) none) before.denotes
