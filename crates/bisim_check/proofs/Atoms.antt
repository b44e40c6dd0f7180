-- What the atoms of a formula read of words, and the nodes that are made of it.
use Rattle.std.proofs.Common.{◌≡◌, ℕ, zero, suc, ◌+◌, ◌^◌, ◌<◌, ◌≤◌, List, [], ◌∷◌, Option, Some, None, Bool, false, ◌&&◌, not, if◌then◌else◌, nat_eq, nat_le, Vec, length, map, All, Result, Ok, Err, IfOk, refl, sym, ap, ◌∙◌, subst, arith}
use Rattle.std.specs.Prelude.{slice_index_or}
use Rattle.std.specs.declared.alloc.Global.{Global}
use Rattle.std.proofs.lemmas.Bool.Decides.{nat_tests}
use Rattle.std.proofs.lemmas.List.{get_or-map}
use Rattle.argos_core.specs.Layouts.{Range}
use Rattle.bisim_check.specs.inner.Nodes.{AreWords, codes_at, any_differs}
use Rattle.bisim_check.proofs.Differing.{length-values, same_number}
use Rattle.bisim_formula.specs.Formulas.{is_within, is_behind, register_code}
use Rattle.dd_core.specs.declared.nodes.NodeId.{NodeId}
use Rattle.dd_core.specs.declared.errors.DdError.{DdError}
use Rattle.dd_core.specs.Functions.{Function, opposite}
use Rattle.dd_core.specs.Arenas.{ArenaView, IsArena, Holds, function_of, Keeps, Makes, AddsAtMost}
use Rattle.eqn_completion.proofs.Ordering.{number-below}
use Rattle.eqn_dd.specs.Denoting.{Denotes, values_at, code_at, IsWord, DenotesWord}
use Rattle.eqn_dd.proofs.Denotations.{denotes_equal, denotes_constant, made_equal, word-kept}
use Rattle.eqn_dd.proofs.StructureSteps.{word_there, all_words_later}

-- ---- words in a list

abbrev pub Word : Type 0
Word = Vec NodeId Global

pub are_words_later : {a b : ArenaView} (words : List Word) → Keeps a b → AreWords a words → AreWords b words
are_words_later words keeps all = all_words_later (map (λ w. w.items) words) keeps all

-- the codes of words that were there before
pub codes-kept : (a b : ArenaView) (words : List Word) (x : List Bool) → Keeps a b → AreWords a words → length x ≡ a.variables → codes_at b words x ≡ codes_at a words x
codes-kept a b [] x keeps all sized = refl
codes-kept a b (w ∷ words) x keeps all sized =
    ap (λ (n : ℕ). n ∷ codes_at b words x) (word-kept a b w.items x keeps (all 0 w.items (omega arith)) sized)
    ∙ ap (λ (l : List ℕ). code_at a w.items x ∷ l) (codes-kept a b words x keeps (λ k d below. all (suc k) d (omega arith)) sized)

word_small : (arena : ArenaView) (word : List NodeId) (x : List Bool) → IsWord arena word → code_at arena word x ≤ 65535
word_small arena word x is =
    let below : code_at arena word x < 2 ^ 16 = subst (λ (n : ℕ). code_at arena word x < 2 ^ n) (length-values arena word x ∙ is.sized) (number-below (values_at arena word x)) in
    omega arith

register_small : (arena : ArenaView) (words : List Word) (r : ℕ) (x : List Bool) → AreWords arena words → register_code (codes_at arena words x) r ≤ 65535
register_small arena [] r x all = omega arith
register_small arena (w ∷ words) zero x all = word_small arena w.items x (all 0 w.items (omega arith))
register_small arena (w ∷ words) (suc r) x all = register_small arena words r x (λ k d below. all (suc k) d (omega arith))

-- ---- the word of a register

pub word_present : (words : List Word) (r : ℕ) (w : Word) (word : List NodeId) → r < length words → ((d : Word) → w ≡ slice_index_or words r d) → word ≡ w.items
    → (arena : ArenaView) → IsArena arena → AreWords arena words → DenotesWord arena word (λ x. register_code (codes_at arena words x) r)
word_present words r w word inside at is arena valid all = record {
  is_word = word_there (λ (v : Word). v.items) arena words r w word inside at is all;
  equal = λ x sized.
      ap (λ (l : List NodeId). code_at arena l x) (is ∙ ap (λ (v : Word). v.items) (at w))
      ∙ sym (get_or-map (λ (v : Word). code_at arena v.items x) words r w 0 inside);
}

-- so many constants false
abbrev pub zeros : ℕ → List NodeId
zeros zero = []
zeros (suc n) = record { 0 = 0 } ∷ zeros n

length-zeros : (n : ℕ) → length (zeros n) ≡ n
length-zeros zero = refl
length-zeros (suc n) = ap suc (length-zeros n)

zeros_held : (arena : ArenaView) → IsArena arena → (n : ℕ) → All (λ (f : NodeId). Holds arena f.0) (zeros n)
zeros_held arena valid zero k d below = absurd (omega arith)
zeros_held arena valid (suc n) zero d below = (denotes_constant arena 0 false valid refl).held
zeros_held arena valid (suc n) (suc k) d below = zeros_held arena valid n k d (omega arith)

zeros_code : (arena : ArenaView) → IsArena arena → (n : ℕ) (x : List Bool) → length x ≡ arena.variables → code_at arena (zeros n) x ≡ 0
zeros_code arena valid zero x sized = refl
zeros_code arena valid (suc n) x sized =
    let first = ap (λ (b : Bool). (if b then 2 ^ length (values_at arena (zeros n) x) else 0) + code_at arena (zeros n) x) ((denotes_constant arena 0 false valid refl).equal x sized) in
    let rest = zeros_code arena valid n x sized in
    first ∙ ap (λ (n : ℕ). 0 + n) rest

pub word_absent : (words : List Word) (r : ℕ) → length words ≤ r → (arena : ArenaView) → IsArena arena → AreWords arena words
    → DenotesWord arena (zeros 16) (λ x. register_code (codes_at arena words x) r)
word_absent words r beyond arena valid all = record {
  is_word = record { sized = length-zeros 16; held = zeros_held arena valid 16 };
  equal = λ x sized. zeros_code arena valid 16 x sized ∙ sym (past words r beyond x);
}
  where
    past : (words : List Word) (r : ℕ) → length words ≤ r → (x : List Bool) → register_code (codes_at arena words x) r ≡ 0
    past [] r h x = refl
    past (w ∷ words) zero h x = absurd (omega arith)
    past (w ∷ words) (suc r) h x = past words r (omega arith) x

-- ---- atoms

ok_equal : (arena : ArenaView) (g h : Function) (r : Result NodeId DdError) → ((x : List Bool) → length x ≡ arena.variables → g x ≡ h x)
    → IfOk r (λ f. Denotes arena f.0 g) → IfOk r (λ f. Denotes arena f.0 h)
ok_equal arena g h (Ok f) equal is = denotes_equal equal is
ok_equal arena g h (Err e) equal is = tt

between : (n code : ℕ) → (nat_le n code && nat_le code n) ≡ nat_eq code n
between n code = grind (arith, nat_tests)

-- of a state that is there
pub elapsed_read : {a b : ArenaView} {word : List NodeId} (words : List Word) (r : ℕ) (result : Result NodeId DdError) (range : Option Range) (first last e code : ℕ)
    → DenotesWord a word (λ x. register_code (codes_at a words x) r) → AddsAtMost 40 a b → Some (record { first = first; last = last }) ≡ range → code ≡ first + e
    → IfOk result (λ f. Denotes b f.0 (λ x. nat_le code (code_at a word x) && nat_le (code_at a word x) code))
    → IfOk result (λ f. Denotes b f.0 (λ x. is_behind range e (register_code (codes_at a words x) r)))
elapsed_read {a} {b} {word} words r result range first last e code word_is adds is sum made =
    subst (λ (o : Option Range). IfOk result (λ f. Denotes b f.0 (λ x. is_behind o e (register_code (codes_at a words x) r)))) is
    (ok_equal b _ _ result (λ x sized.
    between code (code_at a word x) ∙ ap (nat_eq (code_at a word x)) sum ∙ ap (λ (n : ℕ). nat_eq n (first + e)) (word_is.equal x (sized ∙ adds.keeps.variables))) made)

-- of a state that isn't there
pub state_none : {a : ArenaView} (range : Option Range) (code : List Bool → ℕ) → IsArena a → None ≡ range → Denotes a 0 (λ x. is_within range (code x))
state_none {a} range code valid is = subst (λ (o : Option Range). Denotes a 0 (λ x. is_within o (code x))) is (denotes_constant a 0 false valid refl)

pub elapsed_none : {a : ArenaView} (range : Option Range) (e : ℕ) (code : List Bool → ℕ) → IsArena a → None ≡ range → Denotes a 0 (λ x. is_behind range e (code x))
elapsed_none {a} range e code valid is = subst (λ (o : Option Range). Denotes a 0 (λ x. is_behind o e (code x))) is (denotes_constant a 0 false valid refl)

-- no code stands so far behind the first
pub elapsed_over : {a : ArenaView} (words : List Word) (r : ℕ) (range : Option Range) (first last e : ℕ) → IsArena a → AreWords a words
    → Some (record { first = first; last = last }) ≡ range → 65536 ≤ first + e
    → Denotes a 0 (λ x. is_behind range e (register_code (codes_at a words x) r))
elapsed_over {a} words r range first last e valid all is over =
    subst (λ (o : Option Range). Denotes a 0 (λ x. is_behind o e (register_code (codes_at a words x) r))) is
    (denotes_equal (λ x sized. sym (other (register_code (codes_at a words x) r) (first + e) (let small = register_small a words r x all in omega (arith, small)))) (denotes_constant a 0 false valid refl))
  where
    other : (m n : ℕ) → m < n → nat_eq m n ≡ false
    other m n h = grind (arith, nat_tests)

-- two words are one code where no digit differs
pub same_made : {m : ℕ} {a b c : ArenaView} {other : NodeId} {result : Result NodeId DdError} (left right : List NodeId) → IsWord a left → IsWord a right
    → Denotes b other.0 (λ x. any_differs (values_at a left x) (values_at a right x)) → Makes m b c (opposite (function_of b other.0)) result
    → IfOk result (λ f. Denotes c f.0 (λ x. nat_eq (code_at a left x) (code_at a right x)))
same_made {m} {a} {b} {c} {other} {result} left right is_left is_right is made = made_equal made (λ x sized.
    ap not (is.equal x sized)
    ∙ sym (same_number (values_at a left x) (values_at a right x) (length-values a left x ∙ is_left.sized ∙ sym is_right.sized ∙ sym (length-values a right x))))
