-- The words of registers made node by node, and one after another.
use Rattle.std.proofs.Common.{◌≡◌, ℕ, zero, suc, ◌+◌, ◌-◌, ◌*◌, ◌^◌, ◌<◌, ◌≤◌, List, [], ◌∷◌, ◌++◌, Bool, false, if◌then◌else◌, length, map, take, drop, get_or, get_or-drop, replicate, All, Result, Ok, refl, sym, ap, ◌∙◌, subst, inl, inr, arith, append_assoc, length-append, length-drop}
use Rattle.std.proofs.lemmas.Bool.{cases_lt}
use Rattle.std.proofs.lemmas.Nat.{pow_pos}
use Rattle.std.specs.List.{range_with_len}
use Rattle.std.specs.Prelude.{slice_index_or}
use Rattle.std.proofs.lemmas.List.{append-nil, get_or_append_left, get_or-append_right, get_or_at, length-map, length-take-le, map-append, take_more, take_all, length-replicate}
use Rattle.std.proofs.lemmas.List.FromFn.{length-range_with_len, get_or-range_with_len}
use Rattle.argos_base.specs.SignalSets.{SignalSet, has}
use Rattle.dd_core.specs.declared.nodes.NodeId.{NodeId}
use Rattle.dd_core.specs.Functions.{Function, variable_value}
use Rattle.dd_core.specs.Arenas.{ArenaView, IsArena, Holds, function_of, Makes, AddsAtMost}
use Rattle.eqn_completion.specs.Binary.{number}
use Rattle.eqn_dd.specs.Denoting.{values_at, code_at, DenotesWord}
use Rattle.eqn_dd.specs.Placed.{Register, register_at, register_variables}
use Rattle.eqn_dd.specs.inner.Registers.{DenoteMemory}
use Rattle.eqn_dd.proofs.Denotations.{adds_nothing, adds_in_turn, denotes_constant, denotes_word_equal, denotes_word_later, values-kept}
use Rattle.eqn_dd.proofs.Numbers.{number-push}
use Rattle.eqn_dd.proofs.WordSteps.{held_push, held_later, values-push}

-- the node of a variable
pub adds_variable : {a b : ArenaView} {g : Function} {result : Result NodeId _} → Makes 1 a b g result → AddsAtMost 1 a b
adds_variable {a} {b} made = record { was = made.was; arena = made.arena; keeps = made.keeps; few = omega (arith, made.few, pow_pos (a.variables + 1)) }

-- ---- one register

-- an empty vector that is filled up
pub padded_is : {old new : List NodeId} {m : ℕ} (n : ℕ) (f : NodeId) → old ≡ [] → m ≡ 0 → new ≡ take n old ++ replicate (n - m) f → new ≡ replicate n f
padded_is {old} {new} {m} n f none none_long is =
    is ∙ ap (λ (l : List NodeId). take n l ++ replicate (n - m) f) none ∙ ap (λ (l : List NodeId). l ++ replicate (n - m) f) (take_all n [] (omega arith))
    ∙ ap (λ (k : ℕ). replicate k f) (let e : n - m ≡ n = omega arith in e)

-- the digits without a variable, and the first ones with one
pub record RegisterSoFar (old : ArenaView) (first bits digit : ℕ) (new : ArenaView) (word : List NodeId) : Type 0 where
  pub adds : AddsAtMost digit old new
  pub sized : length word + bits ≡ 16 + digit
  pub held : All (λ (f : NodeId). Holds new f.0) word
  pub equal : (x : List Bool) → length x ≡ old.variables → code_at new word x ≡ number (take digit (drop first x))

falses-held : (arena : ArenaView) (n : ℕ) (f : NodeId) → Holds arena f.0 → All (λ (g : NodeId). Holds arena g.0) (replicate n f)
falses-held arena zero f held k d below = absurd (omega arith)
falses-held arena (suc n) f held zero d below = held
falses-held arena (suc n) f held (suc k) d below = falses-held arena n f held k d (omega arith)

falses-code : (arena : ArenaView) (n : ℕ) (f : NodeId) (x : List Bool) → function_of arena f.0 x ≡ false → code_at arena (replicate n f) x ≡ 0
falses-code arena zero f x is = refl
falses-code arena (suc n) f x is =
    ap (λ (b : Bool). (if b then 2 ^ length (values_at arena (replicate n f) x) else 0) + code_at arena (replicate n f) x) is
    ∙ ap (λ (c : ℕ). 0 + c) (falses-code arena n f x is)

pub register_none : (arena : ArenaView) (first bits : ℕ) (word : List NodeId) → IsArena arena → bits ≤ 16 → word ≡ replicate (16 - bits) (record { 0 = 0 }) → RegisterSoFar arena first bits 0 arena word
register_none arena first bits word valid narrow is = subst (λ (w : List NodeId). RegisterSoFar arena first bits 0 arena w) (sym is) (record {
  adds = adds_nothing 0 arena valid;
  sized = omega (arith, length-replicate (16 - bits) start);
  held = falses-held arena (16 - bits) start (denotes_constant arena 0 false valid refl).held;
  equal = λ x sized. falses-code arena (16 - bits) start x ((denotes_constant arena 0 false valid refl).equal x sized);
})
  where
    start : NodeId
    start = record { 0 = 0 }

pub register_more : {a b c : ArenaView} {first bits digit : ℕ} {word : List NodeId} {f : NodeId} → first + digit < a.variables → RegisterSoFar a first bits digit b word → Makes 1 b c (variable_value (first + digit)) (Ok f)
    → RegisterSoFar a first bits (digit + 1) c (word ++ f ∷ [])
register_more {a} {b} {c} {first} {bits} {digit} {word} {f} exists before made = record {
  adds = adds_in_turn digit 1 (digit + 1) (omega arith) before.adds (adds_variable made);
  sized = omega (arith, length-append word (f ∷ []), before.sized);
  held = held_push c word f (held_later b c word made.keeps before.held) made.node.held;
  equal = λ x sized.
      let sized_b : length x ≡ b.variables = sized ∙ sym before.adds.keeps.variables in
      let t = has x (first + digit) in
      ap number (values-push c word f x)
      ∙ number-push (values_at c word x) (function_of c f.0 x)
      ∙ ap (λ (u : Bool). 2 * code_at c word x + (if u then 1 else 0)) (made.node.denotes x (sized_b ∙ sym made.keeps.variables))
      ∙ ap (λ (l : List Bool). 2 * number l + (if t then 1 else 0)) (values-kept b c word x made.keeps before.held sized_b)
      ∙ ap (λ (n : ℕ). 2 * n + (if t then 1 else 0)) (before.equal x sized)
      ∙ sym (ap number (take_more (drop first x) digit false (omega (arith, length-drop first x)))
      ∙ number-push (take digit (drop first x)) (get_or (drop first x) digit false)
      ∙ ap (λ (u : Bool). 2 * number (take digit (drop first x)) + (if u then 1 else 0)) (get_or-drop first x digit false));
}

pub register_all : {a b : ArenaView} {first bits digit : ℕ} {word : List NodeId} → digit ≡ bits → RegisterSoFar a first bits digit b word → DenotesWord b word (λ x. number (take bits (drop first x)))
register_all {a} {b} {first} {bits} {digit} {word} all before = record {
  is_word = record { sized = omega (arith, before.sized); held = before.held };
  equal = λ x sized. before.equal x (sized ∙ before.adds.keeps.variables) ∙ ap (λ (n : ℕ). number (take n (drop first x))) all;
}

-- ---- one after another

variables-append : (xs ys : List Register) → register_variables (xs ++ ys) ≡ register_variables xs ++ register_variables ys
variables-append [] ys = refl
variables-append (r ∷ xs) ys = ap (λ (l : List ℕ). range_with_len r.0 r.1 ++ l) (variables-append xs ys) ∙ sym (append_assoc (range_with_len r.0 r.1) (register_variables xs) (register_variables ys))

-- the variables of the first registers
pub record RegistersSoFar (old : ArenaView) (regs : List Register) (i : ℕ) (new : ArenaView) (words : List (List NodeId)) : Type 0 where
  pub adds : AddsAtMost (length (register_variables (take i regs))) old new
  pub denote : DenoteMemory new words (λ x. map (register_at x) (take i regs)) i

pub registers_none : (arena : ArenaView) (regs : List Register) → IsArena arena → RegistersSoFar arena regs 0 arena []
registers_none arena regs valid = record { adds = adds_nothing 0 arena valid; denote = record { sized = refl; each = λ k below. absurd (omega arith) } }

-- the variables of the register at a place exist
pub register_exists : (v : ℕ) (regs : List Register) (i : ℕ) (d : Register) → i < length regs → All (λ k. k < v) (register_variables regs) → (k : ℕ) → k < (get_or regs i d).1 → (get_or regs i d).0 + k < v
register_exists v [] i d inside exist k below = absurd (omega arith)
register_exists v (r ∷ regs) zero d inside exist k below =
    subst (λ (n : ℕ). n < v) (get_or_append_left (range_with_len r.0 r.1) (register_variables regs) 0 k (omega (arith, length-range_with_len r.0 r.1)) ∙ get_or-range_with_len r.0 r.1 k 0 below)
    (exist k 0 (omega (arith, length-append (range_with_len r.0 r.1) (register_variables regs), length-range_with_len r.0 r.1)))
register_exists v (r ∷ regs) (suc i) d inside exist k below =
    register_exists v regs i d (omega arith) (λ j e low.
    subst (λ (n : ℕ). n < v) (get_or-append_right (range_with_len r.0 r.1) (register_variables regs) r.1 (r.1 + j) e (length-range_with_len r.0 r.1) (omega arith) ∙ ap (λ (n : ℕ). get_or (register_variables regs) n e) (let s : r.1 + j - r.1 ≡ j = omega arith in s))
    (exist (r.1 + j) e (omega (arith, length-append (range_with_len r.0 r.1) (register_variables regs), length-range_with_len r.0 r.1)))) k below

pub registers_more : {a b c : ArenaView} {regs : List Register} {i : ℕ} {words : List (List NodeId)} {word : List NodeId} (d : Register) → i < length regs → RegistersSoFar a regs i b words
    → AddsAtMost (get_or regs i d).1 b c → DenotesWord c word (λ x. register_at x (get_or regs i d)) → RegistersSoFar a regs (i + 1) c (words ++ word ∷ [])
registers_more {a} {b} {c} {regs} {i} {words} {word} d inside before adds is = record {
  adds = adds_in_turn (length (register_variables (take i regs))) (get_or regs i d).1 (length (register_variables (take (i + 1) regs))) (omega (arith, more)) before.adds adds;
  denote = record {
    sized = omega (arith, length-append words (word ∷ []), before.denote.sized);
    each = λ k below. elim (cases_lt k i) [
      | inl old ↦ old_word k old
      | inr new ↦ new_word k (omega arith)
    ];
  };
}
  where
    r : Register
    r = get_or regs i d

    front : take (i + 1) regs ≡ take i regs ++ r ∷ []
    front = take_more regs i d inside

    more : length (register_variables (take (i + 1) regs)) ≡ length (register_variables (take i regs)) + r.1
    more =
        ap (λ (l : List Register). length (register_variables l)) front ∙ ap length (variables-append (take i regs) (r ∷ []))
        ∙ length-append (register_variables (take i regs)) (register_variables (r ∷ []))
        ∙ ap (λ (n : ℕ). length (register_variables (take i regs)) + n) (ap length (append-nil (range_with_len r.0 r.1)) ∙ length-range_with_len r.0 r.1)

    codes : (x : SignalSet) → map (register_at x) (take (i + 1) regs) ≡ map (register_at x) (take i regs) ++ register_at x r ∷ []
    codes x = ap (map (register_at x)) front ∙ map-append (register_at x) (take i regs) (r ∷ [])

    sized : (x : SignalSet) → length (map (register_at x) (take i regs)) ≡ i
    sized x = length-map (take i regs) (register_at x) ∙ length-take-le i regs (omega arith)

    old_word : (k : ℕ) → k < i → DenotesWord c (slice_index_or (words ++ word ∷ []) k []) (λ x. slice_index_or (map (register_at x) (take (i + 1) regs)) k 0)
    old_word k old =
        let same : slice_index_or (words ++ word ∷ []) k [] ≡ slice_index_or words k [] = get_or_append_left words (word ∷ []) [] k (omega (arith, before.denote.sized)) in
        subst (λ (w : List NodeId). DenotesWord c w (λ x. slice_index_or (map (register_at x) (take (i + 1) regs)) k 0)) (sym same)
        (denotes_word_equal (λ x long. sym (ap (λ (l : List ℕ). slice_index_or l k 0) (codes x) ∙ get_or_append_left (map (register_at x) (take i regs)) (register_at x r ∷ []) 0 k (omega (arith, sized x))))
        (denotes_word_later adds.keeps (before.denote.each k old)))

    new_word : (k : ℕ) → k ≡ i → DenotesWord c (slice_index_or (words ++ word ∷ []) k []) (λ x. slice_index_or (map (register_at x) (take (i + 1) regs)) k 0)
    new_word k at =
        let same : slice_index_or (words ++ word ∷ []) k [] ≡ word = get_or_at words word [] [] k (before.denote.sized ∙ sym at) in
        subst (λ (w : List NodeId). DenotesWord c w (λ x. slice_index_or (map (register_at x) (take (i + 1) regs)) k 0)) (sym same)
        (denotes_word_equal (λ x long. sym (ap (λ (l : List ℕ). slice_index_or l k 0) (codes x) ∙ get_or_at (map (register_at x) (take i regs)) (register_at x r) [] 0 k (sized x ∙ sym at))) is)

-- so many and no more
pub registers_few : (regs : List Register) (i : ℕ) (d : Register) → i < length regs → length (register_variables (take i regs)) + (get_or regs i d).1 ≤ length (register_variables regs)
registers_few [] i d inside = absurd (omega arith)
registers_few (r ∷ regs) zero d inside = omega (arith, length-append (range_with_len r.0 r.1) (register_variables regs), length-range_with_len r.0 r.1)
registers_few (r ∷ regs) (suc i) d inside =
    omega (arith, registers_few regs i d (omega arith), length-append (range_with_len r.0 r.1) (register_variables regs), length-append (range_with_len r.0 r.1) (register_variables (take i regs)))

pub map-push : {X Y : Type 0} (f : X → Y) (xs new : List X) (x : X) → new ≡ xs ++ x ∷ [] → map f new ≡ map f xs ++ f x ∷ []
map-push f xs new x is = ap (map f) is ∙ map-append f xs (x ∷ [])

pub registers_all : {a b : ArenaView} {regs : List Register} {i : ℕ} {words : List (List NodeId)} → length regs ≡ i → RegistersSoFar a regs i b words → RegistersSoFar a regs (length regs) b words
registers_all {a} {b} {regs} {i} {words} all before = subst (λ (n : ℕ). RegistersSoFar a regs n b words) (sym all) before
