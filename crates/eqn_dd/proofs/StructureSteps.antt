-- The diagram of a layout, register by register.
use Rattle.std.proofs.Common.{◌≡◌, ℕ, zero, suc, ◌+◌, ◌*◌, ◌^◌, ◌<◌, ◌≤◌, List, [], ◌∷◌, ◌++◌, Option, Some, None, Bool, true, false, ◌&&◌, not, if◌then◌else◌, nat_lt, nat_le, length, map, take, get_or, All, Result, Ok, Err, IfOk, refl, sym, ap, ◌∙◌, subst, arith}
use Rattle.std.specs.Prelude.{slice_index_or}
use Rattle.std.proofs.lemmas.Bool.Decides.{nat_tests}
use Rattle.std.proofs.lemmas.List.{ext_get_or, length-map, length-take-le, get_or-map, take_more, take_all}
use Rattle.argos_base.specs.declared.RegId.{RegId}
use Rattle.argos_base.specs.SignalSets.{SignalSet}
use Rattle.argos_core.specs.Layouts.{RegisterShape}
use Rattle.argos_core.specs.Views.{parent_of}
use Rattle.dd_core.specs.declared.nodes.NodeId.{NodeId}
use Rattle.dd_core.specs.declared.errors.DdError.{DdError}
use Rattle.dd_core.specs.Functions.{Function, both, if_else, opposite}
use Rattle.dd_core.specs.Arenas.{ArenaView, IsArena, function_of, Keeps, Makes, AddsAtMost}
use Rattle.dd_core.proofs.Composing.{Keeps-trans}
use Rattle.eqn_completion.proofs.Ordering.{number-below}
use Rattle.eqn_dd.specs.Denoting.{Denotes, values_at, code_at, IsWord}
use Rattle.eqn_dd.specs.declared.places.Places.{Places}
use Rattle.eqn_dd.specs.Placed.{register_at, memory_at}
use Rattle.eqn_dd.specs.Structural.{DenotesLayout}
use Rattle.eqn_dd.specs.inner.Registers.{DenoteMemory}
use Rattle.eqn_dd.proofs.FittingTest.{fits_is_test}
use Rattle.eqn_dd.specs.inner.Fitting.{codes_at, is_on, fits_shape, fits_shapes}
use Rattle.eqn_dd.proofs.Denotations.{adds_nothing, adds_in_turn, adds_one, denotes_equal, denotes_constant, made_equal, word-kept, is_word_later}

-- ---- words in a list

-- a word that stands in the list
pub word_there : {X : Type 0} (f : X → List NodeId) (arena : ArenaView) (words : List X) (i : ℕ) (w : X) (word : List NodeId) → i < length words → ((d : X) → w ≡ slice_index_or words i d) → word ≡ f w → All (IsWord arena) (map f words) → IsWord arena word
word_there f arena words i w word inside at is all =
    subst (IsWord arena) (sym (is ∙ ap f (at w) ∙ sym (get_or-map f words i w (f w) inside))) (all i (f w) (omega (arith, length-map words f)))

-- what is read at a place of a list, by a function of its items
pub item_there : {X Y : Type 0} (f : X → Y) (xs : List X) (i : ℕ) (x : X) (y : Y) → i < length xs → x ≡ slice_index_or xs i x → y ≡ f x → y ≡ slice_index_or (map f xs) i y
item_there f xs i x y inside at is = is ∙ ap f at ∙ sym (get_or-map f xs i x y inside)

code_there : {X : Type 0} (f : X → List NodeId) (arena : ArenaView) (words : List X) (i : ℕ) (w : X) (word : List NodeId) (x : SignalSet) → i < length words → ((d : X) → w ≡ slice_index_or words i d) → word ≡ f w → slice_index_or (codes_at arena (map f words) x) i 0 ≡ code_at arena word x
code_there f arena [] i w word x inside at is = absurd (omega arith)
code_there f arena (v ∷ words) zero w word x inside at is = ap (λ (l : List NodeId). code_at arena l x) (ap f (sym (at v)) ∙ sym is)
code_there f arena (v ∷ words) (suc i) w word x inside at is = code_there f arena words i w word x (omega arith) at is

length-codes : (arena : ArenaView) (words : List (List NodeId)) (x : SignalSet) → length (codes_at arena words x) ≡ length words
length-codes arena words x = length-map words (λ (w : List NodeId). code_at arena w x)

ok_equal : (arena : ArenaView) (g h : Function) (r : Result NodeId DdError) → ((x : List Bool) → length x ≡ arena.variables → g x ≡ h x) → IfOk r (λ f. Denotes arena f.0 g) → IfOk r (λ f. Denotes arena f.0 h)
ok_equal arena g h (Ok f) equal is = denotes_equal equal is
ok_equal arena g h (Err e) equal is = tt

-- ---- the state in whose body an automaton stands

lt_yes : (a b : ℕ) → a < b → nat_lt a b ≡ true
lt_yes a b h = grind (arith, nat_tests)

lt_no : (a b : ℕ) → b ≤ a → nat_lt a b ≡ false
lt_no a b h = grind (arith, nat_tests)

pub parent_read : {X : Type 0} {a b : ArenaView} {w : X} {word : List NodeId} {parent : Option (RegId × ℕ × ℕ)} {register : RegId} {first last : ℕ} (f : X → List NodeId) (words : List X) (result : Result NodeId DdError)
    → parent ≡ Some (register, first, last) → register.0 < length words → ((d : X) → w ≡ slice_index_or words register.0 d) → word ≡ f w → AddsAtMost 40 a b
    → IfOk result (λ g. Denotes b g.0 (λ x. nat_le first (code_at a word x) && nat_le (code_at a word x) last)) → IfOk result (λ g. Denotes b g.0 (λ x. is_on (codes_at a (map f words) x) (parent_of parent)))
parent_read {X} {a} {b} {w} {word} {parent} {register} {first} {last} f words result parent_is inside at is adds made =
    subst (λ (p : Option (RegId × ℕ × ℕ)). IfOk result (λ g. Denotes b g.0 (λ x. is_on (codes_at a (map f words) x) (parent_of p)))) (sym parent_is)
    (ok_equal b _ _ result (λ x sized.
    let code : slice_index_or (codes_at a (map f words) x) register.0 0 ≡ code_at a word x = code_there f a words register.0 w word x inside at is in
    let exists : nat_lt register.0 (length (codes_at a (map f words) x)) ≡ true = lt_yes _ _ (omega (arith, length-codes a (map f words) x, length-map words f)) in
    sym (rw (exists, code) refl)) made)

pub parent_missing : {X : Type 0} {a : ArenaView} {parent : Option (RegId × ℕ × ℕ)} {register : RegId} {first last : ℕ} (f : X → List NodeId) (words : List X)
    → IsArena a → parent ≡ Some (register, first, last) → length words ≤ register.0 → Denotes a 0 (λ x. is_on (codes_at a (map f words) x) (parent_of parent))
parent_missing {X} {a} {parent} {register} {first} {last} f words valid parent_is beyond =
    subst (λ (p : Option (RegId × ℕ × ℕ)). Denotes a 0 (λ x. is_on (codes_at a (map f words) x) (parent_of p))) (sym parent_is)
    (denotes_equal (λ x sized.
    let missing : nat_lt register.0 (length (codes_at a (map f words) x)) ≡ false = lt_no _ _ (omega (arith, length-codes a (map f words) x, length-map words f)) in
    sym (rw missing refl)) (denotes_constant a 0 false valid refl))

pub parent_none : {a : ArenaView} {parent : Option (RegId × ℕ × ℕ)} (memory : SignalSet → List ℕ) → IsArena a → parent ≡ None → Denotes a 1 (λ x. is_on (memory x) (parent_of parent))
parent_none {a} {parent} memory valid none =
    subst (λ (p : Option (RegId × ℕ × ℕ)). Denotes a 1 (λ x. is_on (memory x) (parent_of p))) (sym none) (denotes_constant a 1 true valid refl)

-- ---- one register

le_at : (k n : ℕ) → k ≤ n → nat_le k n ≡ true
le_at k n h = grind (arith, nat_tests)

le_lt : (n : ℕ) → nat_le 1 n ≡ nat_lt 0 n
le_lt n = refl

and_true : (b : Bool) → (b && true) ≡ b
and_true true = refl
and_true false = refl

word_small : (arena : ArenaView) (word : List NodeId) (x : SignalSet) → IsWord arena word → code_at arena word x ≤ 65535
word_small arena word x is =
    let below : code_at arena word x < 2 ^ 16 = subst (λ (n : ℕ). code_at arena word x < 2 ^ n) (length-map word (λ (f : NodeId). function_of arena f.0 x) ∙ is.sized) (number-below (values_at arena word x)) in
    omega arith

pub all_words_later : {a b : ArenaView} (words : List (List NodeId)) → Keeps a b → All (IsWord a) words → All (IsWord b) words
all_words_later words keeps all k d below = is_word_later keeps (all k d below)

pub codes-kept : (a b : ArenaView) (words : List (List NodeId)) (x : SignalSet) → Keeps a b → All (IsWord a) words → length x ≡ a.variables → codes_at b words x ≡ codes_at a words x
codes-kept a b [] x keeps all sized = refl
codes-kept a b (w ∷ words) x keeps all sized =
    ap (λ (n : ℕ). n ∷ codes_at b words x) (word-kept a b w x keeps (all 0 w (omega arith)) sized)
    ∙ ap (λ (l : List ℕ). code_at a w x ∷ l) (codes-kept a b words x keeps (λ k d below. all (suc k) d (omega arith)) sized)

-- the arenas of the calls in turn
module _ {a b c d e f : ArenaView} {low above on off agrees : NodeId} {word : List NodeId} {m n : ℕ} (words : List (List NodeId)) (s : RegisterShape) (all : All (IsWord a) words) (is : IsWord a word)
    (adds_low : AddsAtMost 40 a b) (low_is : Denotes b low.0 (λ x. nat_le 0 (code_at a word x) && nat_le (code_at a word x) s.top))
    (adds_above : AddsAtMost 40 b c) (above_is : Denotes c above.0 (λ x. nat_le 1 (code_at b word x) && nat_le (code_at b word x) 65535))
    (adds_on : AddsAtMost 40 c d) (on_is : Denotes d on.0 (λ x. is_on (codes_at c words x) s.parent))
    (off_made : Makes m d e (opposite (function_of d on.0)) (Ok off)) (agrees_made : Makes n e f (if_else (function_of e above.0) (function_of e on.0) (function_of e off.0)) (Ok agrees)) where
  pub register_made : {g : ArenaView} {o : ℕ} {result : Result NodeId DdError} → Makes o f g (both (function_of f low.0) (function_of f agrees.0)) result → IfOk result (λ r. Denotes g r.0 (λ x. fits_shape (codes_at a words x) s (code_at a word x)))
  register_made made = made_equal made (λ x sized.
      let ab = adds_low.keeps in
      let ac = Keeps-trans a b c ab adds_above.keeps in
      let cd = adds_on.keeps in
      let de = off_made.keeps in
      let ef = agrees_made.keeps in
      let df = Keeps-trans d e f de ef in
      let sized_e : length x ≡ e.variables = sized ∙ ef.variables in
      let sized_d : length x ≡ d.variables = sized_e ∙ de.variables in
      let sized_c : length x ≡ c.variables = sized_d ∙ cd.variables in
      let sized_b : length x ≡ b.variables = sized_c ∙ adds_above.keeps.variables in
      let sized_a : length x ≡ a.variables = sized_b ∙ ab.variables in
      let code = code_at a word x in
      let memory = codes_at a words x in
      let bf : Keeps b f = Keeps-trans b d f (Keeps-trans b c d adds_above.keeps cd) df in
      let low_value : function_of f low.0 x ≡ nat_le code s.top = bf.denotes low.0 low_is.held x sized_b ∙ low_is.equal x sized_b ∙ ap (λ (t : Bool). t && nat_le code s.top) (le_at 0 code (omega arith)) in
      let ce : Keeps c e = Keeps-trans c d e cd de in
      let above_value : function_of e above.0 x ≡ nat_lt 0 code =
      ce.denotes above.0 above_is.held x sized_c ∙ above_is.equal x sized_c
      ∙ ap (λ (n : ℕ). nat_le 1 n && nat_le n 65535) (word-kept a b word x ab is sized_a)
      ∙ ap (λ (t : Bool). nat_le 1 code && t) (le_at code 65535 (word_small a word x is)) ∙ and_true (nat_le 1 code) in
      let on_value : function_of d on.0 x ≡ is_on memory s.parent = on_is.equal x sized_d ∙ ap (λ (l : List ℕ). is_on l s.parent) (codes-kept a c words x ac all sized_a) in
      let off_value : function_of e off.0 x ≡ not (is_on memory s.parent) = off_made.node.denotes x sized_e ∙ ap not on_value in
      ap (λ (t : Bool). t && function_of f agrees.0 x) low_value
      ∙ ap (λ (t : Bool). nat_le code s.top && t)
      (agrees_made.node.denotes x sized
      ∙ ap (λ (t : Bool). if t then function_of e on.0 x else function_of e off.0 x) above_value
      ∙ ap (λ (t : Bool). if nat_lt 0 code then t else function_of e off.0 x) (de.denotes on.0 on_is.held x sized_d ∙ on_value)
      ∙ ap (λ (t : Bool). if nat_lt 0 code then is_on memory s.parent else t) off_value))

-- ---- register by register

fits-more : (memory : List ℕ) (layout : List RegisterShape) (codes : List ℕ) (s : RegisterShape) (a : ℕ) → length layout ≡ length codes → fits_shapes memory (layout ++ s ∷ []) (codes ++ a ∷ []) ≡ (fits_shapes memory layout codes && fits_shape memory s a)
fits-more memory [] [] s a sized = and_true (fits_shape memory s a)
fits-more memory [] (b ∷ codes) s a sized = absurd (omega arith)
fits-more memory (t ∷ layout) [] s a sized = absurd (omega arith)
fits-more memory (t ∷ layout) (b ∷ codes) s a sized =
    ap (λ (u : Bool). fits_shape memory t b && u) (fits-more memory layout codes s a (omega arith))
    ∙ and_assoc (fits_shape memory t b) (fits_shapes memory layout codes) (fits_shape memory s a)
  where
    and_assoc : (p q r : Bool) → (p && (q && r)) ≡ ((p && q) && r)
    and_assoc true q r = refl
    and_assoc false q r = refl

-- the first registers, as many as i says
pub record FittingSoFar (old : ArenaView) (words : List (List NodeId)) (layout : List RegisterShape) (i : ℕ) (new : ArenaView) (f : ℕ) : Type 0 where
  pub adds : AddsAtMost (124 * i) old new
  pub denotes : Denotes new f (λ x. fits_shapes (codes_at old words x) (take i layout) (take i (codes_at old words x)))

pub fitting_none : (arena : ArenaView) (words : List (List NodeId)) (layout : List RegisterShape) → IsArena arena → FittingSoFar arena words layout 0 arena 1
fitting_none arena words layout valid = record { adds = adds_nothing (124 * 0) arena valid; denotes = denotes_constant arena 1 true valid refl }

pub fitting_more : {a b c d : ArenaView} {words : List (List NodeId)} {layout : List RegisterShape} {i f : ℕ} {one r : NodeId} {word : List NodeId} {s : RegisterShape} → i < length layout → length words ≡ length layout → All (IsWord a) words
    → s ≡ slice_index_or layout i s → word ≡ slice_index_or words i word → FittingSoFar a words layout i b f
    → AddsAtMost 123 b c → Denotes c one.0 (λ x. fits_shape (codes_at b words x) s (code_at b word x))
    → Makes (2 ^ (c.variables + 1)) c d (both (function_of c f) (function_of c one.0)) (Ok r) → FittingSoFar a words layout (i + 1) d r.0
fitting_more {a} {b} {c} {d} {words} {layout} {i} {f} {one} {r} {word} {s} inside sized all shape_at at before adds one_is made = record {
  adds = adds_in_turn (124 * i + 123) 1 (124 * (i + 1)) (omega arith) (adds_in_turn (124 * i) 123 (124 * i + 123) (omega arith) before.adds adds) (adds_one made);
  denotes = record { held = made.node.held; equal = λ x long. made.node.denotes x long ∙ same x (long ∙ made.keeps.variables) };
}
  where
    same : (x : SignalSet) → length x ≡ c.variables → both (function_of c f) (function_of c one.0) x ≡ fits_shapes (codes_at a words x) (take (i + 1) layout) (take (i + 1) (codes_at a words x))
    same x long_c =
        let long_b : length x ≡ b.variables = long_c ∙ adds.keeps.variables in
        let long_a : length x ≡ a.variables = long_b ∙ before.adds.keeps.variables in
        let memory = codes_at a words x in
        let many : length memory ≡ length layout = length-codes a words x ∙ sized in
        let word_is : IsWord a word = subst (IsWord a) (sym at) (all i word (omega (arith, sized))) in
        let code_is : code_at b word x ≡ slice_index_or memory i 0 =
        word-kept a b word x before.adds.keeps word_is long_a ∙ ap (λ (w : List NodeId). code_at a w x) at
        ∙ sym (get_or-map (λ (w : List NodeId). code_at a w x) words i word 0 (omega (arith, sized))) in
        ap (λ (t : Bool). t && function_of c one.0 x) (adds.keeps.denotes f before.denotes.held x long_b ∙ before.denotes.equal x long_b)
        ∙ ap (λ (t : Bool). fits_shapes memory (take i layout) (take i memory) && t)
        (one_is.equal x long_c
        ∙ ap (λ (l : List ℕ). fits_shape l s (code_at b word x)) (codes-kept a b words x before.adds.keeps all long_a)
        ∙ ap (λ (t : RegisterShape). fits_shape memory t (code_at b word x)) shape_at
        ∙ ap (λ (n : ℕ). fits_shape memory (slice_index_or layout i s) n) code_is)
        ∙ sym (fits-more memory (take i layout) (take i memory) (slice_index_or layout i s) (slice_index_or memory i 0) (length-take-le i layout (omega arith) ∙ sym (length-take-le i memory (omega (arith, many)))))
        ∙ ap (λ (l : List RegisterShape). fits_shapes memory l (take i memory ++ slice_index_or memory i 0 ∷ [])) (sym (take_more layout i s inside))
        ∙ ap (λ (l : List ℕ). fits_shapes memory (take (i + 1) layout) l) (sym (take_more memory i 0 (omega (arith, many))))

pub fitting_all : {a b : ArenaView} {words : List (List NodeId)} {layout : List RegisterShape} {i f : ℕ} → length layout ≡ i → length words ≡ length layout → FittingSoFar a words layout i b f → Denotes b f (λ x. fits_shapes (codes_at a words x) layout (codes_at a words x))
fitting_all {a} {b} {words} {layout} {i} {f} all sized before = denotes_equal (λ x long.
    ap (λ (l : List RegisterShape). fits_shapes (codes_at a words x) l (take i (codes_at a words x))) (take_all i layout (omega arith))
    ∙ ap (λ (l : List ℕ). fits_shapes (codes_at a words x) layout l) (take_all i (codes_at a words x) (omega (arith, length-codes a words x, sized)))) before.denotes

-- ---- the whole layout

pub codes-memory : {a : ArenaView} {words : List (List NodeId)} {memory : SignalSet → List ℕ} {count : ℕ} (x : SignalSet) → DenoteMemory a words memory count → length (memory x) ≡ count → length x ≡ a.variables → codes_at a words x ≡ memory x
codes-memory {a} {words} {memory} {count} x denote sized long =
    ext_get_or 0 (codes_at a words x) (memory x) (length-codes a words x ∙ denote.sized ∙ sym sized) (λ k below.
    let inside : k < length words = omega (arith, length-codes a words x) in
    get_or-map (λ (w : List NodeId). code_at a w x) words k [] 0 inside ∙ (denote.each k (omega (arith, denote.sized))).equal x long)

pub all_words : {a : ArenaView} {words : List (List NodeId)} {memory : SignalSet → List ℕ} {count : ℕ} → DenoteMemory a words memory count → All (IsWord a) words
all_words {a} {words} {memory} {count} denote k d below =
    subst (IsWord a) (get_or_any words k [] d below) (denote.each k (omega (arith, denote.sized))).is_word
  where
    get_or_any : (xs : List (List NodeId)) (k : ℕ) (d e : List NodeId) → k < length xs → get_or xs k d ≡ get_or xs k e
    get_or_any [] k d e h = absurd (omega arith)
    get_or_any (x ∷ xs) zero d e h = refl
    get_or_any (x ∷ xs) (suc k) d e h = get_or_any xs k d e (omega arith)

pub layout_made : {a b : ArenaView} {words : List (List NodeId)} (places : Places) (layout : List RegisterShape) (result : Result NodeId DdError) → Keeps a b
    → DenoteMemory a words (λ x. memory_at places x) (length places.regs.items) → IfOk result (λ f. Denotes b f.0 (λ x. let codes = codes_at a words x in fits_shapes codes layout codes)) → IfOk result (λ f. DenotesLayout b f.0 layout places)
layout_made places layout (Err e) keeps denote is = tt
layout_made {a} {b} {words} places layout (Ok f) keeps denote is = record {
  held = is.held;
  exact = λ x long.
      let memory = codes-memory x denote (length-map places.regs.items (register_at x)) (long ∙ keeps.variables) in
      let value : function_of b f.0 x ≡ fits_shapes (memory_at places x) layout (memory_at places x) = is.equal x long ∙ ap (λ (l : List ℕ). fits_shapes l layout l) memory in
      let test = fits_is_test layout (memory_at places x) in
      (λ t. test.0 (sym value ∙ t), λ h. value ∙ test.1 h);
}
