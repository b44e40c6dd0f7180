-- What the bytes of a C line say.
use Rattle.std.proofs.Common.{◌≡◌, ℕ, zero, suc, ◌*◌, ◌^◌, ◌/◌, ◌%◌, ◌<◌, ◌≤◌, List, [], ◌∷◌, ◌++◌, Bool, true, false, cond, Option, Some, None, IsTrue, length, inl, inr, refl, sym, ap, ◌∙◌, length-append, arith}
use Rattle.std.specs.Prelude.{nat_eq, nat_le, codes}
use Rattle.std.proofs.Math.Nat.{pow-succ'}
use Rattle.std.proofs.lemmas.Bool.Decides.{nat_tests}
use Rattle.argos_base.proofs.Bools.{and_second, true_or_false}
use Rattle.eqn_core.specs.Equations.{Literal, Choice, code, word, next}
use Rattle.line_format.specs.Numerals.{numeral}
use Rattle.c_step.specs.CStep.{CValue, constant, each_of, some_of, between, digit_of, input_of, CStep, Assigned, may_be, may_read_word}
use Rattle.c_step.specs.CFile.{indexed, bit_place, word_place, literal_then, literals_then, choice_text, value_text}
use Rattle.line_format.proofs.Options.{bind, only_if, or_else, bind_is, only_if_is, only_if_true, or_else_is, some_is}
use Rattle.c_step.proofs.CPieces.{Reading, strip, strip_is, number_then, number_then_is, number_then_reads, indexed_then, indexed_then_is, indexed_then_reads, at_end, at_end_is, last_text, last_text_is, read_literal, read_literal_is, read_literal_reads, more_literals, more_literals_is, more_literals_reads}

same_number : (k j : ℕ) → nat_eq k j ≡ true → k ≡ j
same_number k j h = grind (arith, nat_tests)

number_same : (k : ℕ) → nat_eq k k ≡ true
number_same k = grind (arith, nat_tests)

-- choices
abbrev pub next_end : ℕ → ℕ → Reading Choice
next_end k j l = only_if (nat_eq j k) (last_text (codes " + 1u : 0u;") (next k) l)

abbrev pub word_end : ℕ → Reading Choice
word_end k rest = or_else (last_text (codes ";") (word k) rest) (strip (codes " <= 65534u ? ") (indexed_then (codes "m->w[") (next_end k)) rest)

abbrev pub code_end : ℕ → Reading Choice
code_end n = last_text (codes "u;") (code n)

abbrev pub read_choice : Reading Choice
read_choice l = or_else (number_then code_end l) (indexed_then (codes "m->w[") word_end l)

word_end_is : (k : ℕ) (l : List ℕ) (c : Choice) → word_end k l ≡ Some c → word_place k l ≡ choice_text c
word_end_is k l c h = elim (or_else_is (last_text (codes ";") (word k) l) (strip (codes " <= 65534u ? ") (indexed_then (codes "m->w[") (next_end k)) l) c h) [
  | inl y ↦ let p = last_text_is (codes ";") (word k) c l y in ap (λ z. word_place k z) p.0 ∙ ap choice_text p.1
  | inr y ↦
      let p = strip_is (codes " <= 65534u ? ") (indexed_then (codes "m->w[") (next_end k)) l c y in
      let q = indexed_then_is (codes "m->w[") (next_end k) p.0 c p.2 in
      let r = only_if_is (nat_eq q.0 k) (last_text (codes " + 1u : 0u;") (next k) q.1) c q.3 in
      let t = last_text_is (codes " + 1u : 0u;") (next k) c q.1 r.1 in
      ap (λ z. word_place k z) (p.1 ∙ ap (λ z. codes " <= 65534u ? " ++ z) (q.2 ∙ ap (λ z. word_place z q.1) (same_number q.0 k r.0) ∙ ap (λ z. word_place k z) t.0)) ∙ ap choice_text t.1
]

pub read_choice_is : (l : List ℕ) (c : Choice) → read_choice l ≡ Some c → l ≡ choice_text c
read_choice_is l c h = elim (or_else_is (number_then code_end l) (indexed_then (codes "m->w[") word_end l) c h) [
  | inl y ↦
      let p = number_then_is code_end l c y in
      let q = last_text_is (codes "u;") (code p.0) c p.1 p.3 in
      p.2 ∙ ap (λ z. numeral p.0 ++ z) q.0 ∙ ap choice_text q.1
  | inr y ↦
      let p = indexed_then_is (codes "m->w[") word_end l c y in
      p.2 ∙ word_end_is p.0 p.1 c p.3
]

pub read_choice_reads : (c : Choice) → read_choice (choice_text c) ≡ Some c
read_choice_reads (code n) = ap (λ o. or_else o (indexed_then (codes "m->w[") word_end (numeral n ++ codes "u;"))) (number_then_reads code_end n (codes "u;") refl)
read_choice_reads (word w) = indexed_then_reads (codes "m->w[") word_end w (codes ";")
read_choice_reads (next w) =
    indexed_then_reads (codes "m->w[") word_end w (codes " <= 65534u ? " ++ word_place w (codes " + 1u : 0u;"))
    ∙ indexed_then_reads (codes "m->w[") (next_end w) w (codes " + 1u : 0u;")
    ∙ only_if_true (nat_eq w w) (Some (next w)) (number_same w)

-- a power of 2
abbrev pub place_of : ℕ → ℕ → Option ℕ
place_of zero d = None
place_of (suc f) d = cond (nat_eq d 1) (Some 0) (only_if (nat_eq (d % 2) 0) (bind (place_of f (d / 2)) (λ j. Some (suc j))))

place_of_is : (f d j : ℕ) → place_of f d ≡ Some j → d ≡ 2 ^ j
place_of_is zero d j h = cc h
place_of_is (suc f) d j h = elim (true_or_false (nat_eq d 1)) [
  | inl y ↦
      let p : Some 0 ≡ Some j = ap (λ t. cond t (Some 0) (only_if (nat_eq (d % 2) 0) (bind (place_of f (d / 2)) (λ j. Some (suc j))))) (sym y) ∙ h in
      same_number d 1 y ∙ ap (λ k. 2 ^ k) (some_is 0 j p)
  | inr y ↦
      let p : only_if (nat_eq (d % 2) 0) (bind (place_of f (d / 2)) (λ j. Some (suc j))) ≡ Some j = ap (λ t. cond t (Some 0) (only_if (nat_eq (d % 2) 0) (bind (place_of f (d / 2)) (λ j. Some (suc j))))) (sym y) ∙ h in
      let q = only_if_is (nat_eq (d % 2) 0) (bind (place_of f (d / 2)) (λ j. Some (suc j))) j p in
      let r = bind_is (place_of f (d / 2)) (λ j. Some (suc j)) j q.1 in
      let half : d / 2 ≡ 2 ^ r.0 = place_of_is f (d / 2) r.0 r.1 in
      let even : d % 2 ≡ 0 = same_number (d % 2) 0 q.0 in
      let whole : d ≡ 2 * 2 ^ r.0 = omega arith in
      whole ∙ sym (pow-succ' 2 r.0) ∙ ap (λ k. 2 ^ k) (some_is (suc r.0) j r.2)
]

twice_not_one : (d : ℕ) → nat_eq (2 * d) 1 ≡ false
twice_not_one d = let h : 2 * d ≡ 1 → ⊥ = λ e. omega arith in differ (2 * d) 1 h
  where
    differ : (a b : ℕ) → (a ≡ b → ⊥) → nat_eq a b ≡ false
    differ a b h = grind (arith, nat_tests)

place_of_reads : (f j : ℕ) → j < f → place_of f (2 ^ j) ≡ Some j
place_of_reads zero j h = absurd (omega arith)
place_of_reads (suc f) zero h = refl
place_of_reads (suc f) (suc j) h =
    let d : ℕ = 2 * 2 ^ j in
    let half : d / 2 ≡ 2 ^ j = omega arith in
    let even : d % 2 ≡ 0 = omega arith in
    ap (λ k. place_of (suc f) k) (pow-succ' 2 j)
    ∙ ap (λ t. cond t (Some 0) (only_if (nat_eq (d % 2) 0) (bind (place_of f (d / 2)) (λ j. Some (suc j))))) (twice_not_one (2 ^ j))
    ∙ ap (λ k. only_if (nat_eq k 0) (bind (place_of f (d / 2)) (λ j. Some (suc j)))) even
    ∙ ap (λ k. bind (place_of f k) (λ j. Some (suc j))) half
    ∙ ap (λ o. bind o (λ j. Some (suc j))) (place_of_reads f j (omega arith))

-- values
abbrev pub constant_of : ℕ → Option CValue
constant_of n = cond (nat_eq n 0) (Some (constant false)) (only_if (nat_eq n 1) (Some (constant true)))

abbrev pub constant_end : ℕ → Reading CValue
constant_end n l = bind (at_end (tt {0}) l) (λ u. constant_of n)

abbrev pub high_end : ℕ → ℕ → ℕ → Reading CValue
high_end k lo hi = last_text (codes "u;") (between k lo hi)

abbrev pub upper_then : ℕ → ℕ → ℕ → Reading CValue
upper_then lo k j l = only_if (nat_eq j k) (strip (codes " <= ") (number_then (high_end k lo)) l)

abbrev pub lower_then : ℕ → ℕ → Reading CValue
lower_then lo k = strip (codes " && ") (indexed_then (codes "m->w[") (upper_then lo k))

abbrev pub low_then : ℕ → Reading CValue
low_then lo l = or_else (strip (codes "u;") (constant_end lo) l) (strip (codes "u <= ") (indexed_then (codes "m->w[") (lower_then lo)) l)

abbrev pub digit_end : ℕ → ℕ → Reading CValue
digit_end k d l = bind (place_of 16 d) (λ j. last_text (codes "u % 2u;") (digit_of k j) l)

abbrev pub digit_then : ℕ → Reading CValue
digit_then k = strip (codes " / ") (number_then (digit_end k))

abbrev pub input_end : ℕ → Reading CValue
input_end j = last_text (codes " != 0u;") (input_of j)

abbrev pub two_or_more : Literal → List Literal → Option CValue
two_or_more l [] = None
two_or_more l (k ∷ ks) = Some (some_of (l ∷ (k ∷ ks)))

abbrev pub literals_end : Literal → Reading CValue
literals_end l rest = or_else (bind (more_literals (suc (length rest)) (codes " && ") rest) (λ ls. Some (each_of (l ∷ ls)))) (bind (more_literals (suc (length rest)) (codes " || ") rest) (two_or_more l))

abbrev pub read_value : Reading CValue
read_value l = or_else (number_then low_then l) (or_else (indexed_then (codes "m->w[") digit_then l) (or_else (indexed_then (codes "in[") input_end l) (read_literal literals_end l)))

constant_of_is : (n : ℕ) (v : CValue) → constant_of n ≡ Some v → numeral n ++ codes "u;" ≡ value_text v
constant_of_is n v h = elim (true_or_false (nat_eq n 0)) [
  | inl y ↦
      let p : Some (constant false) ≡ Some v = ap (λ t. cond t (Some (constant false)) (only_if (nat_eq n 1) (Some (constant true)))) (sym y) ∙ h in
      ap (λ k. numeral k ++ codes "u;") (same_number n 0 y) ∙ ap value_text (some_is (constant false) v p)
  | inr y ↦
      let p : only_if (nat_eq n 1) (Some (constant true)) ≡ Some v = ap (λ t. cond t (Some (constant false)) (only_if (nat_eq n 1) (Some (constant true)))) (sym y) ∙ h in
      let q = only_if_is (nat_eq n 1) (Some (constant true)) v p in
      ap (λ k. numeral k ++ codes "u;") (same_number n 1 q.0) ∙ ap value_text (some_is (constant true) v q.1)
]

low_then_is : (lo : ℕ) (l : List ℕ) (v : CValue) → low_then lo l ≡ Some v → numeral lo ++ l ≡ value_text v
low_then_is lo l v h = elim (or_else_is (strip (codes "u;") (constant_end lo) l) (strip (codes "u <= ") (indexed_then (codes "m->w[") (lower_then lo)) l) v h) [
  | inl y ↦
      let p = strip_is (codes "u;") (constant_end lo) l v y in
      let q = bind_is (at_end (tt {0}) p.0) (λ u. constant_of lo) v p.2 in
      let e = at_end_is (tt {0}) q.0 p.0 q.1 in
      ap (λ z. numeral lo ++ z) (p.1 ∙ ap (λ z. codes "u;" ++ z) e.0) ∙ constant_of_is lo v q.2
  | inr y ↦
      let p = strip_is (codes "u <= ") (indexed_then (codes "m->w[") (lower_then lo)) l v y in
      let q = indexed_then_is (codes "m->w[") (lower_then lo) p.0 v p.2 in
      let r = strip_is (codes " && ") (indexed_then (codes "m->w[") (upper_then lo q.0)) q.1 v q.3 in
      let s = indexed_then_is (codes "m->w[") (upper_then lo q.0) r.0 v r.2 in
      let t = only_if_is (nat_eq s.0 q.0) (strip (codes " <= ") (number_then (high_end q.0 lo)) s.1) v s.3 in
      let u = strip_is (codes " <= ") (number_then (high_end q.0 lo)) s.1 v t.1 in
      let w = number_then_is (high_end q.0 lo) u.0 v u.2 in
      let x = last_text_is (codes "u;") (between q.0 lo w.0) v w.1 w.3 in
      ap (λ z. numeral lo ++ z)
      (p.1 ∙ ap (λ z. codes "u <= " ++ z)
      (q.2 ∙ ap (λ z. word_place q.0 z)
      (r.1 ∙ ap (λ z. codes " && " ++ z)
      (s.2 ∙ ap (λ z. word_place z s.1) (same_number s.0 q.0 t.0) ∙ ap (λ z. word_place q.0 z)
      (u.1 ∙ ap (λ z. codes " <= " ++ z)
      (w.2 ∙ ap (λ z. numeral w.0 ++ z) x.0))))))
      ∙ ap value_text x.1
]

digit_then_is : (k : ℕ) (l : List ℕ) (v : CValue) → digit_then k l ≡ Some v → word_place k l ≡ value_text v
digit_then_is k l v h =
    let p = strip_is (codes " / ") (number_then (digit_end k)) l v h in
    let q = number_then_is (digit_end k) p.0 v p.2 in
    let r = bind_is (place_of 16 q.0) (λ j. last_text (codes "u % 2u;") (digit_of k j) q.1) v q.3 in
    let t = last_text_is (codes "u % 2u;") (digit_of k r.0) v q.1 r.2 in
    ap (λ z. word_place k z) (p.1 ∙ ap (λ z. codes " / " ++ z) (q.2 ∙ ap (λ z. numeral z ++ q.1) (place_of_is 16 q.0 r.0 r.1) ∙ ap (λ z. numeral (2 ^ r.0) ++ z) t.0)) ∙ ap value_text t.1

two_or_more_is : (l : Literal) (ls : List Literal) (v : CValue) → two_or_more l ls ≡ Some v → some_of (l ∷ ls) ≡ v
two_or_more_is l [] v h = cc h
two_or_more_is l (k ∷ ks) v h = some_is (some_of (l ∷ (k ∷ ks))) v h

literals_end_is : (l : Literal) (rest : List ℕ) (v : CValue) → literals_end l rest ≡ Some v → literal_then l rest ≡ value_text v
literals_end_is l rest v h = elim (or_else_is (bind (more_literals (suc (length rest)) (codes " && ") rest) (λ ls. Some (each_of (l ∷ ls)))) (bind (more_literals (suc (length rest)) (codes " || ") rest) (two_or_more l)) v h) [
  | inl y ↦
      let p = bind_is (more_literals (suc (length rest)) (codes " && ") rest) (λ ls. Some (each_of (l ∷ ls))) v y in
      ap (λ z. literal_then l z) (more_literals_is (suc (length rest)) (codes " && ") rest p.0 p.1) ∙ ap value_text (some_is (each_of (l ∷ p.0)) v p.2)
  | inr y ↦
      let p = bind_is (more_literals (suc (length rest)) (codes " || ") rest) (two_or_more l) v y in
      ap (λ z. literal_then l z) (more_literals_is (suc (length rest)) (codes " || ") rest p.0 p.1) ∙ ap value_text (two_or_more_is l p.0 v p.2)
]

pub read_value_is : (l : List ℕ) (v : CValue) → read_value l ≡ Some v → l ≡ value_text v
read_value_is l v h = elim (or_else_is (number_then low_then l) (or_else (indexed_then (codes "m->w[") digit_then l) (or_else (indexed_then (codes "in[") input_end l) (read_literal literals_end l))) v h) [
  | inl a ↦ let p = number_then_is low_then l v a in p.2 ∙ low_then_is p.0 p.1 v p.3
  | inr a ↦ elim (or_else_is (indexed_then (codes "m->w[") digit_then l) (or_else (indexed_then (codes "in[") input_end l) (read_literal literals_end l)) v a) [
    | inl b ↦ let p = indexed_then_is (codes "m->w[") digit_then l v b in p.2 ∙ digit_then_is p.0 p.1 v p.3
    | inr b ↦ elim (or_else_is (indexed_then (codes "in[") input_end l) (read_literal literals_end l) v b) [
      | inl c ↦
          let p = indexed_then_is (codes "in[") input_end l v c in
          let q = last_text_is (codes " != 0u;") (input_of p.0) v p.1 p.3 in
          p.2 ∙ ap (λ z. indexed (codes "in[") p.0 z) q.0 ∙ ap value_text q.1
      | inr c ↦ let p = read_literal_is literals_end l v c in p.2 ∙ literals_end_is p.0 p.1 v p.3
    ]
  ]
]

-- nothing else reads a literal
literal_only_at : (k : ℕ) (b : Bool) (rest : List ℕ) → let l : Literal = record { bit = k; negated = b } in read_value (literal_then l rest) ≡ read_literal literals_end (literal_then l rest)
literal_only_at k true rest = refl
literal_only_at k false rest = refl

literal_only : (l : Literal) (rest : List ℕ) → read_value (literal_then l rest) ≡ literals_end l rest
literal_only l rest = literal_only_at l.bit l.negated rest ∙ read_literal_reads literals_end l rest

-- a text of literals is as long as they are many
sign_longer : (sign : List ℕ) (ls : List Literal) → length ls ≤ length (literals_then (32 ∷ sign) ls (codes ";"))
sign_longer sign [] = omega arith
sign_longer sign (l ∷ ls) =
    let rest : List ℕ = literals_then (32 ∷ sign) ls (codes ";") in
    omega (arith, sign_longer sign ls, length-append sign (literal_then l rest), longer l.bit l.negated rest)
  where
    more_place : (k : ℕ) (rest : List ℕ) → length rest ≤ length (bit_place k rest)
    more_place k rest = omega (arith, length-append (codes "m->b[") (numeral k ++ (codes "]" ++ rest)), length-append (numeral k) (codes "]" ++ rest), length-append (codes "]") rest)

    longer : (k : ℕ) (b : Bool) (rest : List ℕ) → let l : Literal = record { bit = k; negated = b } in length rest ≤ length (literal_then l rest)
    longer k true rest = omega (arith, length-append (codes "!") (bit_place k rest), more_place k rest)
    longer k false rest = more_place k rest

some_literals : (n : ℕ) (ls : List Literal) → IsTrue (nat_le (suc n) (length ls)) → suc n ≤ length ls
some_literals n ls h = grind (arith, nat_tests)

pub read_value_reads : (s : CStep) (a : Assigned) (v : CValue) → IsTrue (may_be s a v) → read_value (value_text v) ≡ Some v
read_value_reads s a (constant true) h = refl
read_value_reads s a (constant false) h = refl
read_value_reads s a (each_of []) h = cc h
read_value_reads s a (each_of (l ∷ ls)) h =
    let rest : List ℕ = literals_then (codes " && ") ls (codes ";") in
    literal_only l rest
    ∙ ap (λ o. or_else (bind o (λ ls. Some (each_of (l ∷ ls)))) (bind (more_literals (suc (length rest)) (codes " || ") rest) (two_or_more l)))
    (more_literals_reads (suc (length rest)) (codes "&& ") ls (omega (arith, sign_longer (codes "&& ") ls)))
read_value_reads s a (some_of []) h = cc h
read_value_reads s a (some_of (l ∷ [])) h = cc h
read_value_reads s a (some_of (l ∷ k ∷ ks)) h =
    let rest : List ℕ = literals_then (codes " || ") (k ∷ ks) (codes ";") in
    literal_only l rest
    ∙ ap (λ o. bind o (two_or_more l)) (more_literals_reads (suc (length rest)) (codes "|| ") (k ∷ ks) (omega (arith, sign_longer (codes "|| ") (k ∷ ks))))
read_value_reads s a (between w lo hi) h =
    let x₄ : List ℕ = codes " <= " ++ (numeral hi ++ codes "u;") in
    let x₂ : List ℕ = codes " && " ++ word_place w x₄ in
    let other = or_else (indexed_then (codes "m->w[") digit_then (value_text (between w lo hi))) (or_else (indexed_then (codes "in[") input_end (value_text (between w lo hi))) (read_literal literals_end (value_text (between w lo hi)))) in
    ap (λ o. or_else o other)
    (number_then_reads low_then lo (codes "u <= " ++ word_place w x₂) refl
    ∙ indexed_then_reads (codes "m->w[") (lower_then lo) w x₂
    ∙ indexed_then_reads (codes "m->w[") (upper_then lo w) w x₄
    ∙ only_if_true (nat_eq w w) (strip (codes " <= ") (number_then (high_end w lo)) x₄) (number_same w)
    ∙ number_then_reads (high_end w lo) hi (codes "u;") refl)
read_value_reads s a (digit_of w place) h =
    let x : List ℕ = numeral (2 ^ place) ++ codes "u % 2u;" in
    let rest = or_else (indexed_then (codes "in[") input_end (word_place w (codes " / " ++ x))) (read_literal literals_end (word_place w (codes " / " ++ x))) in
    ap (λ o. or_else o rest)
    (indexed_then_reads (codes "m->w[") digit_then w (codes " / " ++ x)
    ∙ number_then_reads (digit_end w) (2 ^ place) (codes "u % 2u;") refl
    ∙ ap (λ o. bind o (λ j. last_text (codes "u % 2u;") (digit_of w j) (codes "u % 2u;"))) (place_of_reads 16 place (small place (and_second (may_read_word s a w) _ h))))
  where
    small : (k : ℕ) → IsTrue (nat_le k 15) → k < 16
    small k h = grind (arith, nat_tests)
read_value_reads s a (input_of j) h = ap (λ o. or_else o (read_literal literals_end (indexed (codes "in[") j (codes " != 0u;")))) (indexed_then_reads (codes "in[") input_end j (codes " != 0u;"))
