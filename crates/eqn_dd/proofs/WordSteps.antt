-- Words made node by node: a code, one more, a choice.
use Rattle.std.proofs.Common.{◌≡◌, ◌≢◌, ℕ, zero, suc, ◌+◌, ◌-◌, ◌*◌, ◌^◌, ◌<◌, List, [], ◌∷◌, ◌++◌, Bool, true, false, ◌&&◌, not, if◌then◌else◌, nat_eq, length, take, drop, get_or, set, Ok, refl, sym, ap, ◌∙◌, subst, arith, length-append, All}
use Rattle.std.specs.Prelude.{◌/◌, ◌%◌}
use Rattle.std.proofs.Math.Nat.{div-eq_of_lt, div-one}
use Rattle.std.proofs.lemmas.Bool.Decides.{nat_tests}
use Rattle.std.proofs.lemmas.List.{length-map, map-append, take_more, take_all, length-set, get_or-set_other, get_or-set_same}
use Rattle.dd_core.specs.declared.nodes.NodeId.{NodeId}
use Rattle.dd_core.specs.Functions.{both, if_else, opposite}
use Rattle.dd_core.specs.Arenas.{ArenaView, IsArena, Holds, function_of, Keeps, Makes, AddsAtMost}
use Rattle.dd_core.proofs.Composing.{Keeps-trans}
use Rattle.eqn_completion.specs.Binary.{number}
use Rattle.eqn_core.specs.Solutions.{next_code}
use Rattle.eqn_completion.proofs.Ordering.{number-below}
use Rattle.eqn_dd.specs.Denoting.{Denotes, values_at, code_at, IsWord, DenotesWord}
use Rattle.eqn_dd.specs.inner.Words.{differ}
use Rattle.eqn_dd.proofs.Denotations.{adds_nothing, adds_in_turn, adds_one, denotes_later, denotes_constant, value-at_place, values-kept}
use Rattle.eqn_dd.proofs.Numbers.{double, number-push, number-drop, halved}

-- ---- lists of held nodes

pub held_none : (arena : ArenaView) → All (λ (f : NodeId). Holds arena f.0) []
held_none arena k d below = absurd (omega arith)

-- one node more
pub held_push : (arena : ArenaView) (word : List NodeId) (f : NodeId) → All (λ (g : NodeId). Holds arena g.0) word → Holds arena f.0 → All (λ (g : NodeId). Holds arena g.0) (word ++ f ∷ [])
held_push arena [] f held is zero d below = is
held_push arena [] f held is (suc k) d below = absurd (omega arith)
held_push arena (g ∷ word) f held is zero d below = held 0 g (omega arith)
held_push arena (g ∷ word) f held is (suc k) d below = held_push arena word f (λ j e low. held (suc j) e (omega arith)) is k d (omega arith)

pub held_later : (a b : ArenaView) (word : List NodeId) → Keeps a b → All (λ (f : NodeId). Holds a f.0) word → All (λ (f : NodeId). Holds b f.0) word
held_later a b word keeps held k d below = keeps.held (get_or word k d).0 (held k d below)

pub values-push : (arena : ArenaView) (word : List NodeId) (f : NodeId) (x : List Bool) → values_at arena (word ++ f ∷ []) x ≡ values_at arena word x ++ function_of arena f.0 x ∷ []
values-push arena word f x = map-append (λ (g : NodeId). function_of arena g.0 x) word (f ∷ [])

-- ---- a code

-- the first digits of the code, in each arena
pub record CodeSoFar (code place : ℕ) (word : List NodeId) : Type 0 where
  pub sized : length word ≡ place
  pub held : (arena : ArenaView) → IsArena arena → All (λ (f : NodeId). Holds arena f.0) word
  pub equal : (arena : ArenaView) → IsArena arena → (x : List Bool) → length x ≡ arena.variables → code_at arena word x ≡ code / 2 ^ (16 - place)

pub code_none : (code : ℕ) → code < 2 ^ 16 → CodeSoFar code 0 []
code_none code small = record {
  sized = refl;
  held = λ arena valid. held_none arena;
  equal = λ arena valid x sized. sym (div-eq_of_lt small);
}

pub code_more : (code place : ℕ) (word : List NodeId) (f : NodeId) → place < 16 → f.0 ≡ (if nat_eq (code / 2 ^ (15 - place) % 2) 1 then 1 else 0) → CodeSoFar code place word → CodeSoFar code (place + 1) (word ++ f ∷ [])
code_more code place word f inside is before = record {
  sized = omega (arith, length-append word (f ∷ []), before.sized);
  held = λ arena valid. held_push arena word f (before.held arena valid) (denotes_constant arena f.0 e valid is).held;
  equal = λ arena valid x sized.
      ap number (values-push arena word f x)
      ∙ number-push (values_at arena word x) (function_of arena f.0 x)
      ∙ ap (λ (b : Bool). 2 * code_at arena word x + (if b then 1 else 0)) ((denotes_constant arena f.0 e valid is).equal x sized)
      ∙ ap (λ (n : ℕ). 2 * n + (if e then 1 else 0)) (before.equal arena valid x sized)
      ∙ (let k : 16 - place ≡ 15 - place + 1 = omega arith in ap (λ (n : ℕ). 2 * (code / 2 ^ n) + (if e then 1 else 0)) k)
      ∙ sym (halved code (15 - place))
      ∙ (let k : 15 - place ≡ 16 - (place + 1) = omega arith in ap (λ (n : ℕ). code / 2 ^ n) k);
}
  where
    e : Bool
    e = nat_eq (code / 2 ^ (15 - place) % 2) 1

pub code_all : {code place : ℕ} {word : List NodeId} → place ≡ 16 → CodeSoFar code place word → (arena : ArenaView) → IsArena arena → DenotesWord arena word (λ x. code)
code_all {code} {place} {word} all before arena valid = record {
  is_word = record { sized = before.sized ∙ all; held = before.held arena valid };
  equal = λ x sized. before.equal arena valid x sized ∙ ap (λ (n : ℕ). code / 2 ^ (16 - n)) all ∙ div-one code;
}

-- ---- one more

-- The last digits, as many as `place` says, are those of one more, with a carry.
pub record NextSoFar (old : ArenaView) (word : List NodeId) (place : ℕ) (new : ArenaView) (next : List NodeId) (carry : ℕ) : Type 0 where
  pub adds : AddsAtMost (3 * place) old new
  pub is_word : IsWord new next
  pub carry_held : Holds new carry
  pub before : (k : ℕ) (d : NodeId) → k + place < 16 → get_or next k d ≡ get_or word k d
  pub equal : (x : List Bool) → length x ≡ old.variables → number (drop (16 - place) (values_at new next x)) + (if function_of new carry x then 2 ^ place else 0) ≡ number (drop (16 - place) (values_at old word x)) + 1

length-values : (arena : ArenaView) (word : List NodeId) (x : List Bool) → length (values_at arena word x) ≡ length word
length-values arena word x = length-map word (λ (f : NodeId). function_of arena f.0 x)

pub next_none : (arena : ArenaView) (word : List NodeId) → IsArena arena → IsWord arena word → NextSoFar arena word 0 arena word 1
next_none arena word valid is = record {
  adds = adds_nothing (3 * 0) arena valid;
  is_word = is;
  carry_held = (denotes_constant arena 1 true valid refl).held;
  before = λ k d below. refl;
  equal = λ x sized. ap (λ (b : Bool). number (drop 16 (values_at arena word x)) + (if b then 2 ^ 0 else 0)) ((denotes_constant arena 1 true valid refl).equal x sized);
}

module _ {m n : ℕ} {a b c : ArenaView} {digit carry : ℕ} {flipped sum : NodeId} (digit_held : Holds a digit) (carry_held : Holds a carry) (first : Makes m a b (opposite (function_of a digit)) (Ok flipped)) (second : Makes n b c (if_else (function_of b carry) (function_of b flipped.0) (function_of b digit)) (Ok sum)) where
  pub sum_made : {d : ArenaView} → Keeps c d → Denotes d sum.0 (differ (function_of a digit) (function_of a carry))
  sum_made {d} later = denotes_later later (record {
    held = second.node.held;
    equal = λ x sized.
        let sized_b : length x ≡ b.variables = sized ∙ second.keeps.variables in
        let sized_a : length x ≡ a.variables = sized_b ∙ first.keeps.variables in
        second.node.denotes x sized
        ∙ ap (λ (t : Bool). if t then function_of b flipped.0 x else function_of b digit x) (first.keeps.denotes carry carry_held x sized_a)
        ∙ ap (λ (t : Bool). if function_of a carry x then t else function_of b digit x) (first.node.denotes x sized_b)
        ∙ ap (λ (t : Bool). if function_of a carry x then not (function_of a digit x) else t) (first.keeps.denotes digit digit_held x sized_a);
  })

  pub over_made : {o : ℕ} {d : ArenaView} {over : NodeId} → Makes o c d (both (function_of c carry) (function_of c digit)) (Ok over) → Denotes d over.0 (both (function_of a carry) (function_of a digit))
  over_made {o} {d} {over} third = let keeps = Keeps-trans a b c first.keeps second.keeps in record {
    held = third.node.held;
    equal = λ x sized.
        let sized_a : length x ≡ a.variables = sized ∙ third.keeps.variables ∙ keeps.variables in
        third.node.denotes x sized
        ∙ ap (λ (t : Bool). t && function_of c digit x) (keeps.denotes carry carry_held x sized_a)
        ∙ ap (λ (t : Bool). function_of a carry x && t) (keeps.denotes digit digit_held x sized_a);
  }

-- the sum of two digits
carried : (d t : Bool) (p n m s : ℕ) → s + (if t then p else 0) ≡ n + 1 → ((if (if t then not d else d) then p else 0) + s) + (if t && d then p + p else 0) ≡ ((if d then p else 0) + n) + 1
carried true true p n m s e = omega (arith, e)
carried true false p n m s e = omega (arith, e)
carried false true p n m s e = omega (arith, e)
carried false false p n m s e = omega (arith, e)

drop-set : (k n : ℕ) (xs : List Bool) (b : Bool) → n ≡ suc k → drop n (set xs k b) ≡ drop n xs
drop-set k n xs b is = ap (λ (j : ℕ). drop j (set xs k b)) is ∙ past k xs ∙ ap (λ (j : ℕ). drop j xs) (sym is)
  where
    past : (k : ℕ) (xs : List Bool) → drop (suc k) (set xs k b) ≡ drop (suc k) xs
    past k [] = refl
    past zero (x ∷ xs) = refl
    past (suc k) (x ∷ xs) = past k xs

values-set : (arena : ArenaView) (word : List NodeId) (k : ℕ) (f : NodeId) (x : List Bool) → values_at arena (set word k f) x ≡ set (values_at arena word x) k (function_of arena f.0 x)
values-set arena [] k f x = refl
values-set arena (g ∷ word) zero f x = refl
values-set arena (g ∷ word) (suc k) f x = ap (λ (l : List Bool). function_of arena g.0 x ∷ l) (values-set arena word k f x)

pub held_set : (arena : ArenaView) (word : List NodeId) (k : ℕ) (f : NodeId) → All (λ (g : NodeId). Holds arena g.0) word → Holds arena f.0 → All (λ (g : NodeId). Holds arena g.0) (set word k f)
held_set arena [] k f held is j d below = absurd (omega arith)
held_set arena (g ∷ word) zero f held is zero d below = is
held_set arena (g ∷ word) zero f held is (suc j) d below = held (suc j) d (omega arith)
held_set arena (g ∷ word) (suc k) f held is zero d below = held 0 g (omega arith)
held_set arena (g ∷ word) (suc k) f held is (suc j) d below = held_set arena word k f (λ i e low. held (suc i) e (omega arith)) is j d (omega arith)

pub next_more : {a b c : ArenaView} {word next : List NodeId} {place carry digit over : ℕ} {sum : NodeId} (d : NodeId) → place < 16 → IsWord a word → digit ≡ (get_or next (15 - place) d).0
    → NextSoFar a word place b next carry
    → AddsAtMost 3 b c → Denotes c sum.0 (differ (function_of b digit) (function_of b carry)) → Denotes c over (both (function_of b carry) (function_of b digit))
    → NextSoFar a word (place + 1) c (set next (15 - place) sum) over
next_more {a} {b} {c} {word} {next} {place} {carry} {digit} {over} {sum} start inside is at before adds sum_is over_is = record {
  adds = adds_in_turn (3 * place) 3 (3 * (place + 1)) (omega arith) before.adds adds;
  is_word = record {
    sized = length-set next (15 - place) sum ∙ before.is_word.sized;
    held = held_set c next (15 - place) sum (held_later b c next adds.keeps before.is_word.held) sum_is.held;
  };
  carry_held = over_is.held;
  before = λ k d below. let other : k ≢ 15 - place = omega arith in get_or-set_other next (15 - place) k sum d other ∙ before.before k d (omega arith);
  equal = same;
}
  where
    here : 15 - place < length next
    here = omega (arith, before.is_word.sized)

    in_word : 15 - place < length word
    in_word = omega (arith, is.sized)

    same : (x : List Bool) → length x ≡ a.variables → number (drop (16 - (place + 1)) (values_at c (set next (15 - place) sum) x)) + (if function_of c over x then 2 ^ (place + 1) else 0) ≡ number (drop (16 - (place + 1)) (values_at a word x)) + 1
    same x sized =
        let sized_b : length x ≡ b.variables = sized ∙ sym before.adds.keeps.variables in
        let sized_c : length x ≡ c.variables = sized_b ∙ sym adds.keeps.variables in
        let p = 2 ^ place in
        let k = 15 - place in
        let old = values_at a word x in
        let new = values_at c next x in
        let d = get_or old k false in
        let t = function_of b carry x in
        let old_sized : length old ≡ 16 = length-values a word x ∙ is.sized in
        let new_sized : length (set new k (function_of c sum.0 x)) ≡ 16 = length-set new k (function_of c sum.0 x) ∙ length-values c next x ∙ before.is_word.sized in
        let to_k : 16 - (place + 1) ≡ k = omega arith in
        let to_next : k + 1 ≡ 16 - place = omega arith in
        let power : 2 ^ (place + 1) ≡ p + p = ap (λ (n : ℕ). 2 ^ n) (let s : place + 1 ≡ suc place = omega arith in s) ∙ double place in
        let digit_is : function_of b digit x ≡ d =
        ap (λ (f : ℕ). function_of b f x) at
        ∙ ap (λ (f : NodeId). function_of b f.0 x) (before.before k start (omega arith))
        ∙ before.adds.keeps.denotes (get_or word k start).0 (is.held k start in_word) x sized
        ∙ sym (value-at_place a word x k start in_word) in
        let sum_value : function_of c sum.0 x ≡ (if t then not d else d) = sum_is.equal x sized_c ∙ ap (λ (u : Bool). if t then not u else u) digit_is in
        let over_value : function_of c over x ≡ (t && d) = over_is.equal x sized_c ∙ ap (λ (u : Bool). t && u) digit_is in
        let rest = number (drop (16 - place) (values_at b next x)) in
        let kept : values_at c next x ≡ values_at b next x = values-kept b c next x adds.keeps before.is_word.held sized_b in
        let left : number (drop (16 - (place + 1)) (values_at c (set next k sum) x)) ≡ (if (if t then not d else d) then p else 0) + rest =
        ap (λ (j : ℕ). number (drop j (values_at c (set next k sum) x))) to_k
        ∙ ap (λ (l : List Bool). number (drop k l)) (values-set c next k sum x)
        ∙ number-drop (set new k (function_of c sum.0 x)) k place (omega (arith, new_sized))
        ∙ ap (λ (u : Bool). (if u then p else 0) + number (drop (k + 1) (set new k (function_of c sum.0 x)))) (get_or-set_same new k (function_of c sum.0 x) false (omega (arith, length-values c next x)) ∙ sum_value)
        ∙ ap (λ (l : List Bool). (if (if t then not d else d) then p else 0) + number l) (drop-set k (k + 1) new (function_of c sum.0 x) (omega arith))
        ∙ ap (λ (j : ℕ). (if (if t then not d else d) then p else 0) + number (drop j new)) to_next
        ∙ ap (λ (l : List Bool). (if (if t then not d else d) then p else 0) + number (drop (16 - place) l)) kept in
        let right : number (drop (16 - (place + 1)) old) ≡ (if d then p else 0) + number (drop (16 - place) old) =
        ap (λ (j : ℕ). number (drop j old)) to_k
        ∙ number-drop old k place (omega (arith, old_sized))
        ∙ ap (λ (j : ℕ). (if d then p else 0) + number (drop j old)) to_next in
        ap (λ (n : ℕ). n + (if function_of c over x then 2 ^ (place + 1) else 0)) left
        ∙ ap (λ (u : Bool). ((if (if t then not d else d) then p else 0) + rest) + (if u then 2 ^ (place + 1) else 0)) over_value
        ∙ ap (λ (n : ℕ). ((if (if t then not d else d) then p else 0) + rest) + (if t && d then n else 0)) power
        ∙ carried d t p (number (drop (16 - place) old)) 0 rest (before.equal x sized)
        ∙ ap (λ (n : ℕ). n + 1) (sym right)

-- a sum of sixteen digits with a carry
round : (t : Bool) (n m : ℕ) → n < 2 ^ 16 → m < 2 ^ 16 → m + (if t then 2 ^ 16 else 0) ≡ n + 1 → m ≡ next_code n
round true n m small_n small_m e =
    let last : n ≡ 65535 = omega arith in
    let test : nat_eq n 65535 ≡ true = grind (arith, nat_tests) in
    rw test (omega arith)
round false n m small_n small_m e =
    let other : n ≢ 65535 = omega arith in
    let test : nat_eq n 65535 ≡ false = grind (arith, nat_tests) in
    rw test (omega arith)

pub next_all : {a b : ArenaView} {word next : List NodeId} {place carry : ℕ} → place ≡ 16 → IsWord a word → NextSoFar a word place b next carry → DenotesWord b next (λ x. next_code (code_at a word x))
next_all {a} {b} {word} {next} {place} {carry} all is before = record {
  is_word = before.is_word;
  equal = λ x sized_b.
      let sized : length x ≡ a.variables = sized_b ∙ before.adds.keeps.variables in
      let start : 16 - place ≡ 0 = omega arith in
      let sum : code_at b next x + (if function_of b carry x then 2 ^ 16 else 0) ≡ code_at a word x + 1 =
      ap (λ (n : ℕ). number (drop n (values_at b next x)) + (if function_of b carry x then 2 ^ 16 else 0)) (sym start)
      ∙ ap (λ (n : ℕ). number (drop (16 - place) (values_at b next x)) + (if function_of b carry x then 2 ^ n else 0)) (sym all)
      ∙ before.equal x sized
      ∙ ap (λ (n : ℕ). number (drop n (values_at a word x)) + 1) start in
      round (function_of b carry x) (code_at a word x) (code_at b next x)
      (word_below a word x is) (word_below b next x before.is_word) sum;
}
  where
    word_below : (arena : ArenaView) (w : List NodeId) (x : List Bool) → IsWord arena w → code_at arena w x < 2 ^ 16
    word_below arena w x is = subst (λ (n : ℕ). code_at arena w x < 2 ^ n) (length-values arena w x ∙ is.sized) (number-below (values_at arena w x))

-- ---- a choice

-- the first nodes are those of the choice
pub record ChosenSoFar (old : ArenaView) (test : ℕ) (ys ns : List NodeId) (place : ℕ) (new : ArenaView) (word : List NodeId) : Type 0 where
  pub adds : AddsAtMost place old new
  pub sized : length word ≡ place
  pub held : All (λ (f : NodeId). Holds new f.0) word
  pub equal : (x : List Bool) → length x ≡ old.variables → values_at new word x ≡ take place (if function_of old test x then values_at old ys x else values_at old ns x)

pub chosen_none : (arena : ArenaView) (test : ℕ) (ys ns : List NodeId) → IsArena arena → ChosenSoFar arena test ys ns 0 arena []
chosen_none arena test ys ns valid = record { adds = adds_nothing 0 arena valid; sized = refl; held = held_none arena; equal = λ x sized. refl }

pub chosen_more : {a b c : ArenaView} {test : ℕ} {ys ns word : List NodeId} {place : ℕ} {y n : ℕ} {f : NodeId} (start : NodeId) → place < 16 → Holds a test → IsWord a ys → IsWord a ns
    → y ≡ (get_or ys place start).0 → n ≡ (get_or ns place start).0 → ChosenSoFar a test ys ns place b word
    → Makes (2 ^ (b.variables + 1)) b c (if_else (function_of b test) (function_of b y) (function_of b n)) (Ok f)
    → ChosenSoFar a test ys ns (place + 1) c (word ++ f ∷ [])
chosen_more {a} {b} {c} {test} {ys} {ns} {word} {place} {y} {n} {f} start inside test_held yes_is no_is y_at n_at before made = record {
  adds = adds_in_turn place 1 (place + 1) (omega arith) before.adds (adds_one made);
  sized = omega (arith, length-append word (f ∷ []), before.sized);
  held = held_push c word f (held_later b c word made.keeps before.held) made.node.held;
  equal = λ x sized.
      let sized_b : length x ≡ b.variables = sized ∙ sym before.adds.keeps.variables in
      let t = function_of a test x in
      let digits = (if t then values_at a ys x else values_at a ns x) in
      let y_value : function_of b y x ≡ get_or (values_at a ys x) place false = value ys y yes_is y_at x sized in
      let n_value : function_of b n x ≡ get_or (values_at a ns x) place false = value ns n no_is n_at x sized in
      let node_value : function_of c f.0 x ≡ get_or digits place false =
      made.node.denotes x (sized_b ∙ sym made.keeps.variables)
      ∙ ap (λ (u : Bool). if u then function_of b y x else function_of b n x) (before.adds.keeps.denotes test test_held x sized)
      ∙ ap (λ (u : Bool). if t then u else function_of b n x) y_value
      ∙ ap (λ (u : Bool). if t then get_or (values_at a ys x) place false else u) n_value
      ∙ pick t (values_at a ys x) (values_at a ns x) in
      let enough : place < length digits = long t (values_at a ys x) (values_at a ns x) (omega (arith, length-values a ys x, yes_is.sized)) (omega (arith, length-values a ns x, no_is.sized)) in
      values-push c word f x
      ∙ ap (λ (l : List Bool). l ++ function_of c f.0 x ∷ []) (values-kept b c word x made.keeps before.held sized_b ∙ before.equal x sized)
      ∙ ap (λ (u : Bool). take place digits ++ u ∷ []) node_value
      ∙ sym (take_more digits place false enough);
}
  where
    value : (w : List NodeId) (g : ℕ) → IsWord a w → g ≡ (get_or w place start).0 → (x : List Bool) → length x ≡ a.variables → function_of b g x ≡ get_or (values_at a w x) place false
    value w g is at x sized =
        let here : place < length w = omega (arith, is.sized) in
        ap (λ (h : ℕ). function_of b h x) at
        ∙ before.adds.keeps.denotes (get_or w place start).0 (is.held place start here) x sized
        ∙ sym (value-at_place a w x place start here)

    pick : (t : Bool) (p q : List Bool) → (if t then get_or p place false else get_or q place false) ≡ get_or (if t then p else q) place false
    pick true p q = refl
    pick false p q = refl

    long : (t : Bool) (p q : List Bool) → place < length p → place < length q → place < length (if t then p else q)
    long true p q h k = h
    long false p q h k = k

pub chosen_all : {a b : ArenaView} {test : ℕ} {ys ns word : List NodeId} {place : ℕ} → place ≡ 16 → IsWord a ys → IsWord a ns → ChosenSoFar a test ys ns place b word
    → DenotesWord b word (λ x. if function_of a test x then code_at a ys x else code_at a ns x)
chosen_all {a} {b} {test} {ys} {ns} {word} {place} all yes_is no_is before = record {
  is_word = record { sized = before.sized ∙ all; held = before.held };
  equal = λ x sized.
      let sized_a : length x ≡ a.variables = sized ∙ before.adds.keeps.variables in
      ap number (before.equal x sized_a)
      ∙ whole (function_of a test x) (values_at a ys x) (values_at a ns x) (length-values a ys x ∙ yes_is.sized) (length-values a ns x ∙ no_is.sized);
}
  where
    whole : (t : Bool) (p q : List Bool) → length p ≡ 16 → length q ≡ 16 → number (take place (if t then p else q)) ≡ (if t then number p else number q)
    whole true p q h k = ap number (take_all place p (omega arith))
    whole false p q h k = ap number (take_all place q (omega arith))
