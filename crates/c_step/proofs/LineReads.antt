-- What lines of statements say: what is read may stand and is spelt so, and each that may stand is read back.
use Rattle.std.proofs.Common.{◌≡◌, ℕ, zero, suc, ◌*◌, ◌^◌, ◌/◌, ◌%◌, ◌<◌, ◌≤◌, List, [], ◌∷◌, ◌++◌, Bool, true, false, cond, Option, Some, IsTrue, length, inl, inr, refl, sym, ap, ◌∙◌, subst, length-append, arith}
use Rattle.std.specs.Prelude.{nat_eq, nat_le, nat_lt, codes, bytes_eq}
use Rattle.std.specs.List.{list_all}
use Rattle.std.proofs.Math.Nat.{pow-succ'}
use Rattle.std.proofs.Math.Pow.{pow-lt}
use Rattle.std.proofs.lemmas.Bool.Decides.{nat_tests}
use Rattle.argos_base.proofs.Bools.{and_first, and_second, and_both, true_or_false}
use Rattle.eqn_core.specs.Equations.{Literal, Choice, code, word, next}
use Rattle.line_format.specs.Numerals.{numeral}
use Rattle.line_format.proofs.Options.{bind, only_if, bind_is, only_if_is, only_if_true, some_is, bytes_same}
use Rattle.c_step.specs.CStep.{CValue, constant, each_of, some_of, between, digit_of, input_of, CStep, Assigned, may_read_literal, may_read_word, may_choose, may_be}
use Rattle.c_step.specs.CFile.{bit_place, word_place, literal_then, literals_then, choice_text, value_text, indexed}
use Rattle.c_step.specs.inner.Pieces.{behind, begins, last, Taken, taken, take_number, take_index}
use Rattle.c_step.specs.inner.LineReading.{Scope, scope_at, take_word, take_same, take_literal, read_next, read_word_choice, read_code_choice, read_choice, place_of, more_literals, all_literals, read_literals, read_digit, read_present, read_high, read_between, constant_of, read_numbers, read_value}
use Rattle.c_step.proofs.PieceReads.{same_byte, bind_reads, if_false, behind_is, behind_reads, last_is, take_number_is, take_number_reads, number_not, take_index_is, take_index_reads, take_word_is, take_word_reads, take_same_is, take_same_reads, take_literal_is, take_literal_reads}
use Rattle.c_step.proofs.StayWithin.{Exist}

code_below : (n : ℕ) → IsTrue (nat_lt n 65536) → IsTrue (nat_le n 65535)
code_below n h = grind (arith, nat_tests)

below_code : (n : ℕ) → IsTrue (nat_le n 65535) → IsTrue (nat_lt n 65536)
below_code n h = grind (arith, nat_tests)

-- choices
abbrev IsChoice : CStep → Assigned → List ℕ → Choice → Type 0
IsChoice s a l c = (l ≡ choice_text c) × IsTrue (may_choose s a c)

read_next_is : (s : CStep) (a : Assigned) (k : ℕ) (l : List ℕ) (c : Choice) → IsTrue (may_read_word s a k) → read_next (scope_at s a) k l ≡ Some c → IsChoice s a (word_place k l) c
read_next_is s a k l c may h =
    let sc : Scope = scope_at s a in
    let p = bind_is (behind (codes " <= 65534u ? ") l) (λ l. bind (take_same sc k l) (last (codes " + 1u : 0u;") (next k))) c h in
    let q = bind_is (take_same sc k p.0) (last (codes " + 1u : 0u;") (next k)) c p.2 in
    let r = last_is (codes " + 1u : 0u;") (next k) c q.0 q.2 in
    let made : IsChoice s a (word_place k l) (next k) = (ap (λ z. word_place k z) (behind_is (codes " <= 65534u ? ") l p.0 p.1 ∙ ap (λ z. codes " <= 65534u ? " ++ z) (take_same_is sc k p.0 q.0 q.1 ∙ ap (λ z. word_place k z) r.0)), may) in
    subst (IsChoice s a (word_place k l)) r.1 made

read_word_choice_is : (s : CStep) (a : Assigned) (l : List ℕ) (c : Choice) → read_word_choice (scope_at s a) l ≡ Some c → IsChoice s a l c
read_word_choice_is s a l c h =
    let sc : Scope = scope_at s a in
    let f : Taken ℕ → Option Choice = λ t. cond (bytes_eq t.rest (codes ";")) (Some (word t.value)) (read_next sc t.value t.rest) in
    let p = bind_is (take_word sc l) f c h in
    let n = take_word_is sc l p.0 p.1 in
    elim (true_or_false (bytes_eq p.0.rest (codes ";"))) [
      | inl y ↦
          let e : Some (word p.0.value) ≡ Some c = ap (λ b. cond b (Some (word p.0.value)) (read_next sc p.0.value p.0.rest)) (sym y) ∙ p.2 in
          let made : IsChoice s a l (word p.0.value) = (n.0 ∙ ap (λ z. word_place p.0.value z) (bytes_same p.0.rest (codes ";") y), n.2) in
          subst (IsChoice s a l) (some_is (word p.0.value) c e) made
      | inr y ↦
          let e : read_next sc p.0.value p.0.rest ≡ Some c = ap (λ b. cond b (Some (word p.0.value)) (read_next sc p.0.value p.0.rest)) (sym y) ∙ p.2 in
          let q = read_next_is s a p.0.value p.0.rest c n.2 e in
          (n.0 ∙ q.0, q.1)
    ]

read_code_choice_is : (s : CStep) (a : Assigned) (l : List ℕ) (c : Choice) → read_code_choice l ≡ Some c → IsChoice s a l c
read_code_choice_is s a l c h =
    let p = bind_is (take_number 65536 l) (λ t. last (codes "u;") (code t.value) t.rest) c h in
    let n = take_number_is 65536 l p.0 p.1 in
    let r = last_is (codes "u;") (code p.0.value) c p.0.rest p.2 in
    let made : IsChoice s a l (code p.0.value) = (n.0 ∙ ap (λ z. numeral p.0.value ++ z) r.0, code_below p.0.value n.1) in
    subst (IsChoice s a l) r.1 made

pub read_choice_is : (s : CStep) (a : Assigned) (l : List ℕ) (c : Choice) → read_choice (scope_at s a) l ≡ Some c → IsChoice s a l c
read_choice_is s a l c h =
    let sc : Scope = scope_at s a in
    elim (true_or_false (begins (codes "m->w[") l)) [
      | inl y ↦ read_word_choice_is s a l c (ap (λ b. cond b (read_word_choice sc l) (read_code_choice l)) (sym y) ∙ h)
      | inr y ↦ read_code_choice_is s a l c (ap (λ b. cond b (read_word_choice sc l) (read_code_choice l)) (sym y) ∙ h)
    ]

pub read_choice_reads : (s : CStep) (a : Assigned) (c : Choice) → Exist s a → IsTrue (may_choose s a c) → read_choice (scope_at s a) (choice_text c) ≡ Some c
read_choice_reads s a (code n) h e =
    if_false (begins (codes "m->w[") (numeral n ++ codes "u;")) (read_word_choice (scope_at s a) (numeral n ++ codes "u;")) (read_code_choice (numeral n ++ codes "u;")) (Some (code n)) (number_not 109 (codes "->w[") n (codes "u;") refl)
    (bind_reads (take_number 65536 (numeral n ++ codes "u;")) (λ t. last (codes "u;") (code t.value) t.rest) (taken n (codes "u;")) (Some (code n)) (take_number_reads 65536 n (codes "u;") (below_code n e) refl) refl)
read_choice_reads s a (word k) h e =
    let sc : Scope = scope_at s a in
    bind_reads (take_word sc (word_place k (codes ";"))) (λ t. cond (bytes_eq t.rest (codes ";")) (Some (word t.value)) (read_next sc t.value t.rest)) (taken k (codes ";")) (Some (word k)) (take_word_reads sc k (codes ";") (h.words k e) e) refl
read_choice_reads s a (next k) h e =
    let sc : Scope = scope_at s a in
    let more : List ℕ = word_place k (codes " + 1u : 0u;") in
    let l : List ℕ = codes " <= 65534u ? " ++ more in
    bind_reads (take_word sc (word_place k l)) (λ t. cond (bytes_eq t.rest (codes ";")) (Some (word t.value)) (read_next sc t.value t.rest)) (taken k l) (Some (next k)) (take_word_reads sc k l (h.words k e) e)
    (bind_reads (take_same sc k more) (last (codes " + 1u : 0u;") (next k)) (codes " + 1u : 0u;") (Some (next k)) (take_same_reads sc k (codes " + 1u : 0u;") (h.words k e)) refl)

-- powers of 2
place_of_is : (f d j : ℕ) → place_of f d ≡ Some j → (d ≡ 2 ^ j) × (j < f)
place_of_is zero d j h = cc h
place_of_is (suc f) d j h =
    let other : Option ℕ = only_if (nat_eq (d % 2) 0) (bind (place_of f (d / 2)) (λ j. Some (suc j))) in
    elim (true_or_false (nat_eq d 1)) [
      | inl y ↦
          let p : Some 0 ≡ Some j = ap (λ t. cond t (Some 0) other) (sym y) ∙ h in
          let z : 0 ≡ j = some_is 0 j p in
          (same_byte d 1 y ∙ ap (λ k. 2 ^ k) z, omega arith)
      | inr y ↦
          let p : other ≡ Some j = ap (λ t. cond t (Some 0) other) (sym y) ∙ h in
          let q = only_if_is (nat_eq (d % 2) 0) (bind (place_of f (d / 2)) (λ j. Some (suc j))) j p in
          let r = bind_is (place_of f (d / 2)) (λ j. Some (suc j)) j q.1 in
          let half = place_of_is f (d / 2) r.0 r.1 in
          let halved : d / 2 ≡ 2 ^ r.0 = half.0 in
          let even : d % 2 ≡ 0 = same_byte (d % 2) 0 q.0 in
          let whole : d ≡ 2 * 2 ^ r.0 = omega arith in
          let z : suc r.0 ≡ j = some_is (suc r.0) j r.2 in
          (whole ∙ sym (pow-succ' 2 r.0) ∙ ap (λ k. 2 ^ k) z, omega (arith, half.1))
    ]

twice_not_one : (d : ℕ) → nat_eq (2 * d) 1 ≡ false
twice_not_one d = let h : 2 * d ≡ 1 → ⊥ = λ e. omega arith in differ (2 * d) 1 h
  where
    differ : (a b : ℕ) → (a ≡ b → ⊥) → nat_eq a b ≡ false
    differ a b h = grind (arith, nat_tests)

place_of_reads : (f j : ℕ) → j < f → place_of f (2 ^ j) ≡ Some j
place_of_reads zero j h = absurd (omega arith)
place_of_reads (suc f) zero h = refl
place_of_reads (suc f) (suc j) h =
    let d : ℕ = 2 * 2 ^ j in
    let half : d / 2 ≡ 2 ^ j = omega arith in
    let even : d % 2 ≡ 0 = omega arith in
    ap (λ k. place_of (suc f) k) (pow-succ' 2 j)
    ∙ ap (λ t. cond t (Some 0) (only_if (nat_eq (d % 2) 0) (bind (place_of f (d / 2)) (λ j. Some (suc j))))) (twice_not_one (2 ^ j))
    ∙ ap (λ k. only_if (nat_eq k 0) (bind (place_of f (d / 2)) (λ j. Some (suc j)))) even
    ∙ ap (λ k. bind (place_of f k) (λ j. Some (suc j))) half
    ∙ ap (λ o. bind o (λ j. Some (suc j))) (place_of_reads f j (omega arith))

-- literals
abbrev AreLiterals : Scope → List ℕ → List ℕ → List Literal → Type 0
AreLiterals sc sign l ls = (l ≡ literals_then sign ls (codes ";")) × IsTrue (list_all (λ x. sc.has_bit x.bit) ls)

pub more_literals_is : (n : ℕ) (sign : List ℕ) (sc : Scope) (l : List ℕ) (ls : List Literal) → more_literals n sign sc l ≡ Some ls → AreLiterals sc sign l ls
more_literals_is zero sign sc l ls h = cc h
more_literals_is (suc n) sign sc l ls h =
    let f : List ℕ → Option (List Literal) = λ l. bind (take_literal sc l) (λ t. bind (more_literals n sign sc t.rest) (λ ks. Some (t.value ∷ ks))) in
    elim (true_or_false (bytes_eq l (codes ";"))) [
      | inl y ↦
          let none : List Literal = [] in
          let e : Some none ≡ Some ls = ap (λ b. cond b (Some none) (bind (behind sign l) f)) (sym y) ∙ h in
          let made : AreLiterals sc sign l none = (bytes_same l (codes ";") y, refl) in
          subst (AreLiterals sc sign l) (some_is none ls e) made
      | inr y ↦
          let e : bind (behind sign l) f ≡ Some ls = ap (λ b. cond b (Some []) (bind (behind sign l) f)) (sym y) ∙ h in
          let p = bind_is (behind sign l) f ls e in
          let q = bind_is (take_literal sc p.0) (λ t. bind (more_literals n sign sc t.rest) (λ ks. Some (t.value ∷ ks))) ls p.2 in
          let r = bind_is (more_literals n sign sc q.0.rest) (λ ks. Some (q.0.value ∷ ks)) ls q.2 in
          let x = take_literal_is sc p.0 q.0 q.1 in
          let rest = more_literals_is n sign sc q.0.rest r.0 r.1 in
          let made : AreLiterals sc sign l (q.0.value ∷ r.0) = (
            behind_is sign l p.0 p.1 ∙ ap (λ z. sign ++ z) (x.0 ∙ ap (λ z. literal_then q.0.value z) rest.0),
            and_both (sc.has_bit q.0.value.bit) _ x.1 rest.1,
          ) in
          subst (AreLiterals sc sign l) (some_is (q.0.value ∷ r.0) ls r.2) made
    ]

-- a sign that begins with a space
pub more_literals_reads : (n : ℕ) (sign : List ℕ) (s : CStep) (a : Assigned) (ls : List Literal) → Exist s a → length ls < n → IsTrue (list_all (may_read_literal a) ls) → more_literals n (32 ∷ sign) (scope_at s a) (literals_then (32 ∷ sign) ls (codes ";")) ≡ Some ls
more_literals_reads zero sign s a ls h l e = absurd (omega arith)
more_literals_reads (suc n) sign s a [] h l e = refl
more_literals_reads (suc n) sign s a (x ∷ ls) h l e =
    let sc : Scope = scope_at s a in
    let rest : List ℕ = literals_then (32 ∷ sign) ls (codes ";") in
    let here : IsTrue (may_read_literal a x) = and_first (may_read_literal a x) _ e in
    bind_reads (behind (32 ∷ sign) ((32 ∷ sign) ++ literal_then x rest)) (λ l. bind (take_literal sc l) (λ t. bind (more_literals n (32 ∷ sign) sc t.rest) (λ ks. Some (t.value ∷ ks)))) (literal_then x rest) (Some (x ∷ ls)) (behind_reads (32 ∷ sign) (literal_then x rest))
    (bind_reads (take_literal sc (literal_then x rest)) (λ t. bind (more_literals n (32 ∷ sign) sc t.rest) (λ ks. Some (t.value ∷ ks))) (taken x rest) (Some (x ∷ ls)) (take_literal_reads sc x rest (h.bits x.bit here) here)
    (bind_reads (more_literals n (32 ∷ sign) sc rest) (λ ks. Some (x ∷ ks)) ls (Some (x ∷ ls)) (more_literals_reads n sign s a ls h (omega arith) (and_second (may_read_literal a x) _ e)) refl))

-- a text of literals is as long as they are many
sign_longer : (sign : List ℕ) (ls : List Literal) → length ls ≤ length (literals_then (32 ∷ sign) ls (codes ";"))
sign_longer sign [] = omega arith
sign_longer sign (l ∷ ls) =
    let rest : List ℕ = literals_then (32 ∷ sign) ls (codes ";") in
    omega (arith, sign_longer sign ls, length-append sign (literal_then l rest), longer l.bit l.negated rest)
  where
    more_place : (k : ℕ) (rest : List ℕ) → length rest ≤ length (bit_place k rest)
    more_place k rest = omega (arith, length-append (codes "m->b[") (numeral k ++ (codes "]" ++ rest)), length-append (numeral k) (codes "]" ++ rest), length-append (codes "]") rest)

    longer : (k : ℕ) (b : Bool) (rest : List ℕ) → let l : Literal = record { bit = k; negated = b } in length rest ≤ length (literal_then l rest)
    longer k true rest = omega (arith, length-append (codes "!") (bit_place k rest), more_place k rest)
    longer k false rest = more_place k rest

all_literals_reads : (sign : List ℕ) (s : CStep) (a : Assigned) (ls : List Literal) → Exist s a → IsTrue (list_all (may_read_literal a) ls) → all_literals (32 ∷ sign) (scope_at s a) (literals_then (32 ∷ sign) ls (codes ";")) ≡ Some ls
all_literals_reads sign s a ls h e = more_literals_reads (suc (length (literals_then (32 ∷ sign) ls (codes ";")))) sign s a ls h (omega (arith, sign_longer sign ls)) e

-- values
abbrev IsValue : CStep → Assigned → List ℕ → CValue → Type 0
IsValue s a l v = (l ≡ value_text v) × IsTrue (may_be s a v)

some_length : {A : Type 0} (x : A) (xs : List A) → IsTrue (nat_le 1 (length (x ∷ xs)))
some_length x xs = grind (arith, nat_tests)

two_length : {A : Type 0} (x y : A) (xs : List A) → IsTrue (nat_le 2 (length (x ∷ (y ∷ xs))))
two_length x y xs = grind (arith, nat_tests)

-- what begins with the sign isn't the end of the literals
some_more : (s : CStep) (a : Assigned) (x : Literal) (l : List ℕ) (ks : List Literal) → begins (codes " || ") l ≡ true → IsTrue (may_read_literal a x) → all_literals (codes " || ") (scope_at s a) l ≡ Some ks → IsTrue (may_be s a (some_of (x ∷ ks)))
some_more s a x l [] b h e = let p = more_literals_is (suc (length l)) (codes " || ") (scope_at s a) l [] e in let no : true ≡ false = sym b ∙ ap (begins (codes " || ")) p.0 in cc no
some_more s a x l (k ∷ ks) b h e =
    let p = more_literals_is (suc (length l)) (codes " || ") (scope_at s a) l (k ∷ ks) e in
    and_both _ _ (two_length x k ks) (and_both (may_read_literal a x) _ h p.1)

read_literals_is : (s : CStep) (a : Assigned) (l : List ℕ) (v : CValue) → read_literals (scope_at s a) l ≡ Some v → IsValue s a l v
read_literals_is s a l v h =
    let sc : Scope = scope_at s a in
    let ors : Taken Literal → Option CValue = λ t. bind (all_literals (codes " || ") sc t.rest) (λ ks. Some (some_of (t.value ∷ ks))) in
    let ands : Taken Literal → Option CValue = λ t. bind (all_literals (codes " && ") sc t.rest) (λ ks. Some (each_of (t.value ∷ ks))) in
    let p = bind_is (take_literal sc l) (λ t. cond (begins (codes " || ") t.rest) (ors t) (ands t)) v h in
    let x = take_literal_is sc l p.0 p.1 in
    elim (true_or_false (begins (codes " || ") p.0.rest)) [
      | inl y ↦
          let e : ors p.0 ≡ Some v = ap (λ b. cond b (ors p.0) (ands p.0)) (sym y) ∙ p.2 in
          let q = bind_is (all_literals (codes " || ") sc p.0.rest) (λ ks. Some (some_of (p.0.value ∷ ks))) v e in
          let r = more_literals_is (suc (length p.0.rest)) (codes " || ") sc p.0.rest q.0 q.1 in
          let made : IsValue s a l (some_of (p.0.value ∷ q.0)) = (x.0 ∙ ap (λ z. literal_then p.0.value z) r.0, some_more s a p.0.value p.0.rest q.0 y x.1 q.1) in
          subst (IsValue s a l) (some_is (some_of (p.0.value ∷ q.0)) v q.2) made
      | inr y ↦
          let e : ands p.0 ≡ Some v = ap (λ b. cond b (ors p.0) (ands p.0)) (sym y) ∙ p.2 in
          let q = bind_is (all_literals (codes " && ") sc p.0.rest) (λ ks. Some (each_of (p.0.value ∷ ks))) v e in
          let r = more_literals_is (suc (length p.0.rest)) (codes " && ") sc p.0.rest q.0 q.1 in
          let made : IsValue s a l (each_of (p.0.value ∷ q.0)) = (
            x.0 ∙ ap (λ z. literal_then p.0.value z) r.0,
            and_both _ _ (some_length p.0.value q.0) (and_both (may_read_literal a p.0.value) _ x.1 r.1),
          ) in
          subst (IsValue s a l) (some_is (each_of (p.0.value ∷ q.0)) v q.2) made
    ]

small_place : (j : ℕ) → j < 16 → IsTrue (nat_le j 15)
small_place j h = grind (arith, nat_tests)

read_digit_is : (s : CStep) (a : Assigned) (l : List ℕ) (v : CValue) → read_digit (scope_at s a) l ≡ Some v → IsValue s a l v
read_digit_is s a l v h =
    let sc : Scope = scope_at s a in
    let p = bind_is (take_word sc l) (λ t. bind (behind (codes " / ") t.rest) (λ l. bind (take_number 65536 l) (λ d. bind (place_of 16 d.value) (λ j. last (codes "u % 2u;") (digit_of t.value j) d.rest)))) v h in
    let q = bind_is (behind (codes " / ") p.0.rest) (λ l. bind (take_number 65536 l) (λ d. bind (place_of 16 d.value) (λ j. last (codes "u % 2u;") (digit_of p.0.value j) d.rest))) v p.2 in
    let r = bind_is (take_number 65536 q.0) (λ d. bind (place_of 16 d.value) (λ j. last (codes "u % 2u;") (digit_of p.0.value j) d.rest)) v q.2 in
    let t = bind_is (place_of 16 r.0.value) (λ j. last (codes "u % 2u;") (digit_of p.0.value j) r.0.rest) v r.2 in
    let u = last_is (codes "u % 2u;") (digit_of p.0.value t.0) v r.0.rest t.2 in
    let w = take_word_is sc l p.0 p.1 in
    let n = take_number_is 65536 q.0 r.0 r.1 in
    let j = place_of_is 16 r.0.value t.0 t.1 in
    let made : IsValue s a l (digit_of p.0.value t.0) = (
      w.0 ∙ ap (λ z. word_place p.0.value z) (behind_is (codes " / ") p.0.rest q.0 q.1 ∙ ap (λ z. codes " / " ++ z) (n.0 ∙ ap (λ z. numeral z ++ r.0.rest) j.0 ∙ ap (λ z. numeral (2 ^ t.0) ++ z) u.0)),
      and_both (may_read_word s a p.0.value) _ w.2 (small_place t.0 j.1),
    ) in
    subst (IsValue s a l) u.1 made

read_present_is : (s : CStep) (a : Assigned) (l : List ℕ) (v : CValue) → read_present (scope_at s a) l ≡ Some v → IsValue s a l v
read_present_is s a l v h =
    let sc : Scope = scope_at s a in
    let p = bind_is (take_index (codes "in[") sc.inputs l) (λ t. last (codes " != 0u;") (input_of t.value) t.rest) v h in
    let n = take_index_is (codes "in[") sc.inputs l p.0 p.1 in
    let u = last_is (codes " != 0u;") (input_of p.0.value) v p.0.rest p.2 in
    let made : IsValue s a l (input_of p.0.value) = (n.0 ∙ ap (λ z. indexed (codes "in[") p.0.value z) u.0, n.1) in
    subst (IsValue s a l) u.1 made

read_high_is : (s : CStep) (a : Assigned) (k lo : ℕ) (l : List ℕ) (v : CValue) → IsTrue (may_read_word s a k) → read_high k lo l ≡ Some v → IsValue s a (numeral lo ++ (codes "u <= " ++ word_place k (codes " && " ++ word_place k (codes " <= " ++ l)))) v
read_high_is s a k lo l v may h =
    let p = bind_is (take_number 65536 l) (λ t. only_if (nat_le lo t.value) (last (codes "u;") (between k lo t.value) t.rest)) v h in
    let q = only_if_is (nat_le lo p.0.value) (last (codes "u;") (between k lo p.0.value) p.0.rest) v p.2 in
    let n = take_number_is 65536 l p.0 p.1 in
    let u = last_is (codes "u;") (between k lo p.0.value) v p.0.rest q.1 in
    let front : List ℕ → List ℕ = λ z. numeral lo ++ (codes "u <= " ++ word_place k (codes " && " ++ word_place k (codes " <= " ++ z))) in
    let made : IsValue s a (front l) (between k lo p.0.value) = (ap front (n.0 ∙ ap (λ z. numeral p.0.value ++ z) u.0), and_both (may_read_word s a k) _ may (and_both (nat_le lo p.0.value) _ q.0 (code_below p.0.value n.1))) in
    subst (IsValue s a (front l)) u.1 made

read_between_is : (s : CStep) (a : Assigned) (lo : ℕ) (l : List ℕ) (v : CValue) → read_between (scope_at s a) lo l ≡ Some v → IsValue s a (numeral lo ++ l) v
read_between_is s a lo l v h =
    let sc : Scope = scope_at s a in
    let p = bind_is (behind (codes "u <= ") l) (λ l. bind (take_word sc l) (λ t. bind (behind (codes " && ") t.rest) (λ l. bind (take_same sc t.value l) (λ l. bind (behind (codes " <= ") l) (read_high t.value lo))))) v h in
    let q = bind_is (take_word sc p.0) (λ t. bind (behind (codes " && ") t.rest) (λ l. bind (take_same sc t.value l) (λ l. bind (behind (codes " <= ") l) (read_high t.value lo)))) v p.2 in
    let r = bind_is (behind (codes " && ") q.0.rest) (λ l. bind (take_same sc q.0.value l) (λ l. bind (behind (codes " <= ") l) (read_high q.0.value lo))) v q.2 in
    let t = bind_is (take_same sc q.0.value r.0) (λ l. bind (behind (codes " <= ") l) (read_high q.0.value lo)) v r.2 in
    let u = bind_is (behind (codes " <= ") t.0) (read_high q.0.value lo) v t.2 in
    let w = take_word_is sc p.0 q.0 q.1 in
    let made = read_high_is s a q.0.value lo u.0 v w.2 u.2 in
    let text : l ≡ codes "u <= " ++ word_place q.0.value (codes " && " ++ word_place q.0.value (codes " <= " ++ u.0)) =
    behind_is (codes "u <= ") l p.0 p.1
    ∙ ap (λ z. codes "u <= " ++ z) (w.0 ∙ ap (λ z. word_place q.0.value z) (behind_is (codes " && ") q.0.rest r.0 r.1 ∙ ap (λ z. codes " && " ++ z) (take_same_is sc q.0.value r.0 t.0 t.1 ∙ ap (λ z. word_place q.0.value z) (behind_is (codes " <= ") t.0 u.0 u.1))))
    in
    (ap (λ z. numeral lo ++ z) text ∙ made.0, made.1)

constant_of_is : (s : CStep) (a : Assigned) (n : ℕ) (v : CValue) → constant_of n ≡ Some v → IsValue s a (numeral n ++ codes "u;") v
constant_of_is s a n v h = elim (true_or_false (nat_eq n 0)) [
  | inl y ↦
      let e : Some (constant false) ≡ Some v = ap (λ t. cond t (Some (constant false)) (only_if (nat_eq n 1) (Some (constant true)))) (sym y) ∙ h in
      let made : IsValue s a (numeral n ++ codes "u;") (constant false) = (ap (λ k. numeral k ++ codes "u;") (same_byte n 0 y), refl) in
      subst (IsValue s a (numeral n ++ codes "u;")) (some_is (constant false) v e) made
  | inr y ↦
      let e : only_if (nat_eq n 1) (Some (constant true)) ≡ Some v = ap (λ t. cond t (Some (constant false)) (only_if (nat_eq n 1) (Some (constant true)))) (sym y) ∙ h in
      let q = only_if_is (nat_eq n 1) (Some (constant true)) v e in
      let made : IsValue s a (numeral n ++ codes "u;") (constant true) = (ap (λ k. numeral k ++ codes "u;") (same_byte n 1 q.0), refl) in
      subst (IsValue s a (numeral n ++ codes "u;")) (some_is (constant true) v q.1) made
]

read_numbers_is : (s : CStep) (a : Assigned) (l : List ℕ) (v : CValue) → read_numbers (scope_at s a) l ≡ Some v → IsValue s a l v
read_numbers_is s a l v h =
    let sc : Scope = scope_at s a in
    let p = bind_is (take_number 65536 l) (λ t. cond (bytes_eq t.rest (codes "u;")) (constant_of t.value) (read_between sc t.value t.rest)) v h in
    let n = take_number_is 65536 l p.0 p.1 in
    elim (true_or_false (bytes_eq p.0.rest (codes "u;"))) [
      | inl y ↦
          let e : constant_of p.0.value ≡ Some v = ap (λ b. cond b (constant_of p.0.value) (read_between sc p.0.value p.0.rest)) (sym y) ∙ p.2 in
          let q = constant_of_is s a p.0.value v e in
          (n.0 ∙ ap (λ z. numeral p.0.value ++ z) (bytes_same p.0.rest (codes "u;") y) ∙ q.0, q.1)
      | inr y ↦
          let e : read_between sc p.0.value p.0.rest ≡ Some v = ap (λ b. cond b (constant_of p.0.value) (read_between sc p.0.value p.0.rest)) (sym y) ∙ p.2 in
          let q = read_between_is s a p.0.value p.0.rest v e in
          (n.0 ∙ q.0, q.1)
    ]

-- one of two readings
pub either : {A : Type 0} (b : Bool) (x y : Option A) (v : A) (P : Type 0) → cond b x y ≡ Some v → (x ≡ Some v → P) → (y ≡ Some v → P) → P
either true x y v P h f g = f h
either false x y v P h f g = g h

pub read_value_is : (s : CStep) (a : Assigned) (l : List ℕ) (v : CValue) → read_value (scope_at s a) l ≡ Some v → IsValue s a l v
read_value_is s a l v h =
    let sc : Scope = scope_at s a in
    let x₄ : Option CValue = cond (begins (codes "!") l) (read_literals sc l) (read_numbers sc l) in
    let x₃ : Option CValue = cond (begins (codes "m->b[") l) (read_literals sc l) x₄ in
    let x₂ : Option CValue = cond (begins (codes "in[") l) (read_present sc l) x₃ in
    either (begins (codes "m->w[") l) (read_digit sc l) x₂ v (IsValue s a l v) h (read_digit_is s a l v)
    (λ h. either (begins (codes "in[") l) (read_present sc l) x₃ v (IsValue s a l v) h (read_present_is s a l v)
    (λ h. either (begins (codes "m->b[") l) (read_literals sc l) x₄ v (IsValue s a l v) h (read_literals_is s a l v)
    (λ h. either (begins (codes "!") l) (read_literals sc l) (read_numbers sc l) v (IsValue s a l v) h (read_literals_is s a l v) (read_numbers_is s a l v))))

-- literals are read as such
literal_only_at : (sc : Scope) (k : ℕ) (b : Bool) (rest : List ℕ) → let l : Literal = record { bit = k; negated = b } in read_value sc (literal_then l rest) ≡ read_literals sc (literal_then l rest)
literal_only_at sc k true rest = refl
literal_only_at sc k false rest = refl

-- numbers are read as such
numbers_only : (sc : Scope) (n : ℕ) (rest : List ℕ) → read_value sc (numeral n ++ rest) ≡ read_numbers sc (numeral n ++ rest)
numbers_only sc n rest =
    let l : List ℕ = numeral n ++ rest in
    if_false (begins (codes "m->w[") l) _ _ _ (number_not 109 (codes "->w[") n rest refl)
    (if_false (begins (codes "in[") l) _ _ _ (number_not 105 (codes "n[") n rest refl)
    (if_false (begins (codes "m->b[") l) _ _ _ (number_not 109 (codes "->b[") n rest refl) (if_false (begins (codes "!") l) _ _ _ (number_not 33 [] n rest refl) refl)))

pub read_value_reads : (s : CStep) (a : Assigned) (v : CValue) → Exist s a → IsTrue (may_be s a v) → read_value (scope_at s a) (value_text v) ≡ Some v
read_value_reads s a (constant true) h e = refl
read_value_reads s a (constant false) h e = refl
read_value_reads s a (each_of []) h e = cc e
read_value_reads s a (each_of (x ∷ [])) h e =
    let sc : Scope = scope_at s a in
    let here : IsTrue (may_read_literal a x) = and_first (may_read_literal a x) _ (and_second (nat_le 1 (length (x ∷ []))) _ e) in
    literal_only_at sc x.bit x.negated (codes ";")
    ∙ bind_reads (take_literal sc (literal_then x (codes ";"))) _ (taken x (codes ";")) (Some (each_of (x ∷ []))) (take_literal_reads sc x (codes ";") (h.bits x.bit here) here) refl
read_value_reads s a (each_of (x ∷ k ∷ ks)) h e =
    let sc : Scope = scope_at s a in
    let all = and_second (nat_le 1 (length (x ∷ (k ∷ ks)))) _ e in
    let here : IsTrue (may_read_literal a x) = and_first (may_read_literal a x) _ all in
    let rest : List ℕ = literals_then (codes " && ") (k ∷ ks) (codes ";") in
    literal_only_at sc x.bit x.negated rest
    ∙ bind_reads (take_literal sc (literal_then x rest)) _ (taken x rest) (Some (each_of (x ∷ (k ∷ ks)))) (take_literal_reads sc x rest (h.bits x.bit here) here)
    (bind_reads (all_literals (codes " && ") sc rest) (λ ks. Some (each_of (x ∷ ks))) (k ∷ ks) (Some (each_of (x ∷ (k ∷ ks)))) (all_literals_reads (codes "&& ") s a (k ∷ ks) h (and_second (may_read_literal a x) _ all)) refl)
read_value_reads s a (some_of []) h e = cc e
read_value_reads s a (some_of (x ∷ [])) h e = cc e
read_value_reads s a (some_of (x ∷ k ∷ ks)) h e =
    let sc : Scope = scope_at s a in
    let all = and_second (nat_le 2 (length (x ∷ (k ∷ ks)))) _ e in
    let here : IsTrue (may_read_literal a x) = and_first (may_read_literal a x) _ all in
    let rest : List ℕ = literals_then (codes " || ") (k ∷ ks) (codes ";") in
    literal_only_at sc x.bit x.negated rest
    ∙ bind_reads (take_literal sc (literal_then x rest)) _ (taken x rest) (Some (some_of (x ∷ (k ∷ ks)))) (take_literal_reads sc x rest (h.bits x.bit here) here)
    (bind_reads (all_literals (codes " || ") sc rest) (λ ks. Some (some_of (x ∷ ks))) (k ∷ ks) (Some (some_of (x ∷ (k ∷ ks)))) (all_literals_reads (codes "|| ") s a (k ∷ ks) h (and_second (may_read_literal a x) _ all)) refl)
read_value_reads s a (between w lo hi) h e =
    let sc : Scope = scope_at s a in
    let may : IsTrue (may_read_word s a w) = and_first (may_read_word s a w) _ e in
    let bounds = and_second (may_read_word s a w) _ e in
    let low : IsTrue (nat_le lo hi) = and_first (nat_le lo hi) _ bounds in
    let high : IsTrue (nat_le hi 65535) = and_second (nat_le lo hi) _ bounds in
    let x₅ : List ℕ = numeral hi ++ codes "u;" in
    let x₄ : List ℕ = codes " <= " ++ x₅ in
    let x₃ : List ℕ = word_place w x₄ in
    let x₂ : List ℕ = codes " && " ++ x₃ in
    let x₁ : List ℕ = codes "u <= " ++ word_place w x₂ in
    numbers_only sc lo x₁
    ∙ bind_reads (take_number 65536 (numeral lo ++ x₁)) (λ t. cond (bytes_eq t.rest (codes "u;")) (constant_of t.value) (read_between sc t.value t.rest)) (taken lo x₁) (Some (between w lo hi)) (take_number_reads 65536 lo x₁ (below_code lo (at_most lo hi low high)) refl)
    (bind_reads (take_word sc (word_place w x₂)) (λ t. bind (behind (codes " && ") t.rest) (λ l. bind (take_same sc t.value l) (λ l. bind (behind (codes " <= ") l) (read_high t.value lo)))) (taken w x₂) (Some (between w lo hi)) (take_word_reads sc w x₂ (h.words w may) may)
    (bind_reads (take_same sc w x₃) (λ l. bind (behind (codes " <= ") l) (read_high w lo)) x₄ (Some (between w lo hi)) (take_same_reads sc w x₄ (h.words w may))
    (bind_reads (take_number 65536 x₅) (λ t. only_if (nat_le lo t.value) (last (codes "u;") (between w lo t.value) t.rest)) (taken hi (codes "u;")) (Some (between w lo hi)) (take_number_reads 65536 hi (codes "u;") (below_code hi high) refl)
    (only_if_true (nat_le lo hi) (Some (between w lo hi)) low))))
  where
    at_most : (lo hi : ℕ) → IsTrue (nat_le lo hi) → IsTrue (nat_le hi 65535) → IsTrue (nat_le lo 65535)
    at_most lo hi h e = grind (arith, nat_tests)
read_value_reads s a (digit_of w place) h e =
    let sc : Scope = scope_at s a in
    let may : IsTrue (may_read_word s a w) = and_first (may_read_word s a w) _ e in
    let small : place < 16 = small_is place (and_second (may_read_word s a w) _ e) in
    let x₂ : List ℕ = numeral (2 ^ place) ++ codes "u % 2u;" in
    let x₁ : List ℕ = codes " / " ++ x₂ in
    bind_reads (take_word sc (word_place w x₁)) (λ t. bind (behind (codes " / ") t.rest) (λ l. bind (take_number 65536 l) (λ d. bind (place_of 16 d.value) (λ j. last (codes "u % 2u;") (digit_of t.value j) d.rest)))) (taken w x₁) (Some (digit_of w place)) (take_word_reads sc w x₁ (h.words w may) may)
    (bind_reads (take_number 65536 x₂) (λ d. bind (place_of 16 d.value) (λ j. last (codes "u % 2u;") (digit_of w j) d.rest)) (taken (2 ^ place) (codes "u % 2u;")) (Some (digit_of w place)) (take_number_reads 65536 (2 ^ place) (codes "u % 2u;") (small_power place small) refl)
    (bind_reads (place_of 16 (2 ^ place)) (λ j. last (codes "u % 2u;") (digit_of w j) (codes "u % 2u;")) place (Some (digit_of w place)) (place_of_reads 16 place small) refl))
  where
    small_is : (k : ℕ) → IsTrue (nat_le k 15) → k < 16
    small_is k h = grind (arith, nat_tests)

    test : (n m : ℕ) → n < m → IsTrue (nat_lt n m)
    test n m h = grind (arith, nat_tests)

    small_power : (k : ℕ) → k < 16 → IsTrue (nat_lt (2 ^ k) 65536)
    small_power k h = test (2 ^ k) 65536 (pow-lt {i = k} {j = 16} h)
read_value_reads s a (input_of j) h e =
    let sc : Scope = scope_at s a in
    bind_reads (take_index (codes "in[") sc.inputs (indexed (codes "in[") j (codes " != 0u;"))) (λ t. last (codes " != 0u;") (input_of t.value) t.rest) (taken j (codes " != 0u;")) (Some (input_of j)) (take_index_reads (codes "in[") sc.inputs j (codes " != 0u;") e) refl
