-- A word compared with a code, digit by digit from the least significant one.
use Rattle.std.proofs.Common.{◌≡◌, ℕ, ◌+◌, ◌-◌, ◌^◌, ◌<◌, ◌≤◌, List, Bool, true, false, ◌&&◌, if◌then◌else◌, nat_eq, nat_lt, nat_le, length, drop, get_or, Result, IfOk, refl, sym, ap, ◌∙◌, subst, arith}
use Rattle.std.specs.Prelude.{◌/◌, ◌%◌}
use Rattle.std.proofs.Math.Nat.{mod-lt, mod-eq_of_lt}
use Rattle.std.proofs.lemmas.Nat.{pow_pos}
use Rattle.std.proofs.lemmas.Bool.Decides.{nat_tests}
use Rattle.std.proofs.lemmas.List.{length-map}
use Rattle.dd_core.specs.declared.nodes.NodeId.{NodeId}
use Rattle.dd_core.specs.declared.errors.DdError.{DdError}
use Rattle.dd_core.specs.Functions.{if_else, both}
use Rattle.dd_core.specs.Arenas.{ArenaView, IsArena, Holds, function_of, Makes, AddsAtMost}
use Rattle.eqn_completion.specs.Binary.{number}
use Rattle.eqn_dd.specs.Denoting.{Denotes, values_at, code_at, IsWord}
use Rattle.eqn_dd.specs.inner.Words.{compared}
use Rattle.eqn_dd.proofs.Denotations.{adds_nothing, adds_in_turn, denotes_equal, denotes_constant, value-at_place, made_equal, word-kept}
use Rattle.eqn_dd.proofs.Numbers.{number-drop, number-drop_below, digit-more}

-- ---- numbers

lt-add : (p n b : ℕ) → nat_lt (p + n) (p + b) ≡ nat_lt n b
lt-add p n b = grind (arith, nat_tests)

lt_yes : (a b : ℕ) → a < b → nat_lt a b ≡ true
lt_yes a b h = grind (arith, nat_tests)

lt_no : (a b : ℕ) → b ≤ a → nat_lt a b ≡ false
lt_no a b h = grind (arith, nat_tests)

-- by the first digits d and e
compared-digit : (below above d e : Bool) (p n b : ℕ) → n < p → b < p
    → (if d then (if e then compared below above b n else above) else (if e then below else compared below above b n)) ≡ compared below above ((if e then p else 0) + b) ((if d then p else 0) + n)
compared-digit below above true true p n b small_n small_b = rw (lt-add p n b, lt-add p b n) refl
compared-digit below above true false p n b small_n small_b = rw (lt_no (p + n) (0 + b) (omega arith), lt_yes (0 + b) (p + n) (omega arith)) refl
compared-digit below above false true p n b small_n small_b = rw (lt_yes (0 + n) (p + b) (omega arith)) refl
compared-digit below above false false p n b small_n small_b = rw (lt-add 0 n b, lt-add 0 b n) refl

-- ---- the loop

-- the answer by the last digits, as many as `place` says
pub record ComparedSoFar (old : ArenaView) (word : List NodeId) (bound : ℕ) (below above : Bool) (place : ℕ) (new : ArenaView) (answer : ℕ) : Type 0 where
  pub adds : AddsAtMost place old new
  pub denotes : Denotes new answer (λ x. compared below above (bound % 2 ^ place) (number (drop (16 - place) (values_at old word x))))

pub compared_none : (arena : ArenaView) (word : List NodeId) (bound : ℕ) (below above : Bool) → IsArena arena → IsWord arena word → ComparedSoFar arena word bound below above 0 arena 1
compared_none arena word bound below above valid is = record {
  adds = adds_nothing 0 arena valid;
  denotes = denotes_equal (λ x sized. sym (same x)) (denotes_constant arena 1 true valid refl);
}
  where
    same : (x : List Bool) → compared below above (bound % 2 ^ 0) (number (drop 16 (values_at arena word x))) ≡ true
    same x =
        let small : number (drop 16 (values_at arena word x)) < 2 ^ 0 = number-drop_below (values_at arena word x) 16 0 (omega (arith, is.sized, length-map word (λ (f : NodeId). function_of arena f.0 x))) in
        let none : number (drop 16 (values_at arena word x)) ≡ 0 = omega (arith, small) in
        let least : bound % 2 ^ 0 ≡ 0 = omega (arith, mod-lt bound {m = 2 ^ 0} (omega arith)) in
        rw (none, least) refl

by_digit : (d e : Bool) (f : ℕ → Bool) (answer low high : ℕ) {later below above : Bool} → f answer ≡ later → f low ≡ below → f high ≡ above
    → (if d then f (if e then answer else high) else f (if e then low else answer)) ≡ (if d then (if e then later else above) else (if e then below else later))
by_digit true true f answer low high p q r = p
by_digit true false f answer low high p q r = r
by_digit false true f answer low high p q r = q
by_digit false false f answer low high p q r = p

pub compared_more : {a b c : ArenaView} {word : List NodeId} {bound place answer low high : ℕ} {below above : Bool} {digit : ℕ} {r : NodeId} (d : NodeId) → place < 16 → IsWord a word → digit ≡ (get_or word (15 - place) d).0
    → low ≡ (if below then 1 else 0) → high ≡ (if above then 1 else 0) → ComparedSoFar a word bound below above place b answer
    → AddsAtMost 1 b c → Denotes c r.0 (if_else (function_of b digit) (function_of b (if nat_eq (bound / 2 ^ place % 2) 1 then answer else high)) (function_of b (if nat_eq (bound / 2 ^ place % 2) 1 then low else answer)))
    → ComparedSoFar a word bound below above (place + 1) c r.0
compared_more {a} {b} {c} {word} {bound} {place} {answer} {low} {high} {below} {above} {digit} {r} start inside is at low_is high_is before adds made = record {
  adds = adds_in_turn place 1 (place + 1) (omega arith) before.adds adds;
  denotes = denotes_equal (λ x sized. same x (sized ∙ adds.keeps.variables)) made;
}
  where
    e : Bool
    e = nat_eq (bound / 2 ^ place % 2) 1

    here : 15 - place < length word
    here = omega (arith, is.sized)

    digit_held : Holds a digit
    digit_held = subst (λ (f : ℕ). Holds a f) (sym at) (is.held (15 - place) start here)

    same : (x : List Bool) → length x ≡ b.variables → if_else (function_of b digit) (function_of b (if e then answer else high)) (function_of b (if e then low else answer)) x ≡ compared below above (bound % 2 ^ (place + 1)) (number (drop (16 - (place + 1)) (values_at a word x)))
    same x sized =
        let digits = values_at a word x in
        let d = get_or digits (15 - place) false in
        let digits_sized : length digits ≡ 16 = omega (arith, is.sized, length-map word (λ (f : NodeId). function_of a f.0 x)) in
        let digit_is : function_of b digit x ≡ d = before.adds.keeps.denotes digit digit_held x (sized ∙ before.adds.keeps.variables) ∙ ap (λ (f : ℕ). function_of a f x) at ∙ sym (value-at_place a word x (15 - place) start here) in
        let later = compared below above (bound % 2 ^ place) (number (drop (16 - place) digits)) in
        let low_value = (denotes_constant b low below before.adds.arena low_is).equal x sized in
        let high_value = (denotes_constant b high above before.adds.arena high_is).equal x sized in
        let code_is : number (drop (16 - (place + 1)) digits) ≡ (if d then 2 ^ place else 0) + number (drop (16 - place) digits) =
        ap (λ (k : ℕ). number (drop k digits)) (let k : 16 - (place + 1) ≡ 15 - place = omega arith in k)
        ∙ number-drop digits (15 - place) place (omega (arith, digits_sized))
        ∙ ap (λ (k : ℕ). (if d then 2 ^ place else 0) + number (drop k digits)) (let k : 15 - place + 1 ≡ 16 - place = omega arith in k) in
        let small_code : number (drop (16 - place) digits) < 2 ^ place = number-drop_below digits (16 - place) place (omega (arith, digits_sized)) in
        let small_bound : bound % 2 ^ place < 2 ^ place = mod-lt bound (pow_pos place) in
        ap (λ (t : Bool). if t then function_of b (if e then answer else high) x else function_of b (if e then low else answer) x) digit_is
        ∙ by_digit d e (λ f. function_of b f x) answer low high (before.denotes.equal x sized) low_value high_value
        ∙ compared-digit below above d e (2 ^ place) (number (drop (16 - place) digits)) (bound % 2 ^ place) small_code small_bound
        ∙ ap (λ (k : ℕ). compared below above k ((if d then 2 ^ place else 0) + number (drop (16 - place) digits))) (sym (digit-more bound place))
        ∙ ap (λ (k : ℕ). compared below above (bound % 2 ^ (place + 1)) k) (sym code_is)

-- all digits
pub compared_all : {a b : ArenaView} {word : List NodeId} {bound place answer : ℕ} {below above : Bool} → bound < 2 ^ 16 → place ≡ 16 → ComparedSoFar a word bound below above place b answer → Denotes b answer (λ x. compared below above bound (code_at a word x))
compared_all {a} {b} {word} {bound} {place} {answer} {below} {above} small all before =
    denotes_equal (λ x sized.
    ap (λ (k : ℕ). compared below above (bound % 2 ^ k) (number (drop (16 - k) (values_at a word x)))) all
    ∙ ap (λ (k : ℕ). compared below above k (code_at a word x)) (mod-eq_of_lt small)) before.denotes

-- the code is within the bounds
pub within_is : (lo hi code : ℕ) → (compared false true lo code && compared true false hi code) ≡ (nat_le lo code && nat_le code hi)
within_is lo hi code = grind (arith, nat_tests)

pub within_made : {m : ℕ} {a b c d : ArenaView} {word : List NodeId} {low high : NodeId} {result : Result NodeId DdError} (lo hi : ℕ) → IsWord a word
    → AddsAtMost 16 a b → Denotes b low.0 (λ x. compared true false hi (code_at a word x)) → AddsAtMost 16 b c → Denotes c high.0 (λ x. compared false true lo (code_at b word x))
    → Makes m c d (both (function_of c high.0) (function_of c low.0)) result → IfOk result (λ f. Denotes d f.0 (λ x. nat_le lo (code_at a word x) && nat_le (code_at a word x) hi))
within_made {m} {a} {b} {c} {d} {word} {low} {high} lo hi is first low_is second high_is made = made_equal made (λ x sized.
    let sized_b : length x ≡ b.variables = sized ∙ second.keeps.variables in
    let sized_a : length x ≡ a.variables = sized_b ∙ first.keeps.variables in
    ap (λ (t : Bool). t && function_of c low.0 x) (high_is.equal x sized ∙ ap (λ (k : ℕ). compared false true lo k) (word-kept a b word x first.keeps is sized_a))
    ∙ ap (λ (t : Bool). compared false true lo (code_at a word x) && t) (second.keeps.denotes low.0 low_is.held x sized_b ∙ low_is.equal x sized_b)
    ∙ within_is lo hi (code_at a word x))
