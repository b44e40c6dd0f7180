-- Readings of the pieces of C lines.
use Rattle.std.proofs.Common.{◌≡◌, ℕ, zero, suc, ◌<◌, List, [], ◌∷◌, ◌++◌, Bool, true, false, cond, Option, Some, None, IsTrue, length, inl, inr, refl, sym, ap, ◌∙◌, arith}
use Rattle.std.specs.Prelude.{nat_eq, codes}
use Rattle.std.specs.List.{list_all}
use Rattle.std.specs.Char.{is_ascii_digit}
use Rattle.std.proofs.lemmas.Bool.Decides.{nat_tests}
use Rattle.std.proofs.lemmas.List.{append-nil}
use Rattle.argos_base.specs.Spelling.{is_numeral, number_of, is_digits}
use Rattle.argos_base.proofs.Bools.{and_first, and_second, true_or_false}
use Rattle.eqn_core.specs.Equations.{Literal}
use Rattle.line_format.specs.Numerals.{numeral}
use Rattle.c_step.specs.CFile.{indexed, bit_place, literal_then, literals_then}
use Rattle.line_format.proofs.Numbers.{numeral_is_numeral, number_of-numeral, numeral-number_of, numeral_digits}
use Rattle.line_format.proofs.Options.{bind, only_if, or_else, bind_is, only_if_is, only_if_true, or_else_is, some_is}

-- a reading of all bytes that are left
abbrev pub Reading : Type 0 → Type 0
Reading A = List ℕ → Option A

-- this text, and then
abbrev pub strip : {A : Type 0} → List ℕ → Reading A → Reading A
strip [] f l = f l
strip (b ∷ t) f [] = None
strip (b ∷ t) f (c ∷ l) = only_if (nat_eq c b) (strip t f l)

same_byte : (b k : ℕ) → nat_eq b k ≡ true → b ≡ k
same_byte b k h = grind (arith, nat_tests)

byte_same : (b : ℕ) → nat_eq b b ≡ true
byte_same b = grind (arith, nat_tests)

pub strip_is : {A : Type 0} (t : List ℕ) (f : Reading A) (l : List ℕ) (a : A) → strip t f l ≡ Some a → (rest : List ℕ) × (l ≡ t ++ rest) × (f rest ≡ Some a)
strip_is [] f l a h = (l, refl, h)
strip_is (b ∷ t) f [] a h = cc h
strip_is (b ∷ t) f (c ∷ l) a h =
    let p = only_if_is (nat_eq c b) (strip t f l) a h in
    let q = strip_is t f l a p.1 in
    (q.0, ap (λ z. z ∷ l) (same_byte c b p.0) ∙ ap (λ z. b ∷ z) q.1, q.2)

pub strip_reads : {A : Type 0} (t : List ℕ) (f : Reading A) (rest : List ℕ) → strip t f (t ++ rest) ≡ f rest
strip_reads [] f rest = refl
strip_reads (b ∷ t) f rest = only_if_true (nat_eq b b) (strip t f (t ++ rest)) (byte_same b) ∙ strip_reads t f rest

-- the longest front that passes a test, and then
abbrev onto : {A : Type 0} → ℕ → (List ℕ → Reading A) → List ℕ → Reading A
onto c f ds rest = f (c ∷ ds) rest

abbrev pub span : {A : Type 0} → (ℕ → Bool) → (List ℕ → Reading A) → Reading A
span p f [] = f [] []
span p f (c ∷ l) = cond (p c) (span p (onto c f) l) (f [] (c ∷ l))

pub span_is : {A : Type 0} (p : ℕ → Bool) (f : List ℕ → Reading A) (l : List ℕ) (a : A) → span p f l ≡ Some a → (front : List ℕ) × (rest : List ℕ) × (l ≡ front ++ rest) × (f front rest ≡ Some a)
span_is p f [] a h = ([], [], refl, h)
span_is p f (c ∷ l) a h = elim (true_or_false (p c)) [
  | inl y ↦
      let r : span p (onto c f) l ≡ Some a = ap (λ t. cond t (span p (onto c f) l) (f [] (c ∷ l))) (sym y) ∙ h in
      let q = span_is p (onto c f) l a r in
      (c ∷ q.0, q.1, ap (λ z. c ∷ z) q.2, q.3)
  | inr y ↦
      let r : f [] (c ∷ l) ≡ Some a = ap (λ t. cond t (span p (onto c f) l) (f [] (c ∷ l))) (sym y) ∙ h in
      ([], c ∷ l, refl, r)
]

-- the byte behind the front doesn't pass
abbrev pub Stops : (ℕ → Bool) → List ℕ → Type 0
Stops p [] = Unit {0}
Stops p (c ∷ l) = p c ≡ false

pub span_reads : {A : Type 0} (p : ℕ → Bool) (f : List ℕ → Reading A) (front rest : List ℕ) → IsTrue (list_all p front) → Stops p rest → span p f (front ++ rest) ≡ f front rest
span_reads p f [] [] h s = refl
span_reads p f [] (c ∷ rest) h s = ap (λ t. cond t (span p (onto c f) rest) (f [] (c ∷ rest))) s
span_reads p f (c ∷ front) rest h s = ap (λ t. cond t (span p (onto c f) (front ++ rest)) (f [] (c ∷ (front ++ rest)))) (and_first _ _ h) ∙ span_reads p (onto c f) front rest (and_second (p c) _ h) s

-- a number, and then
abbrev pub digits_then : {A : Type 0} → (ℕ → Reading A) → List ℕ → Reading A
digits_then f ds rest = only_if (is_numeral ds) (f (number_of ds) rest)

abbrev pub number_then : {A : Type 0} → (ℕ → Reading A) → Reading A
number_then f = span is_ascii_digit (digits_then f)

pub number_then_is : {A : Type 0} (f : ℕ → Reading A) (l : List ℕ) (a : A) → number_then f l ≡ Some a → (n : ℕ) × (rest : List ℕ) × (l ≡ numeral n ++ rest) × (f n rest ≡ Some a)
number_then_is f l a h =
    let p = span_is is_ascii_digit (digits_then f) l a h in
    let q = only_if_is (is_numeral p.0) (f (number_of p.0) p.1) a p.3 in
    (number_of p.0, p.1, p.2 ∙ ap (λ z. z ++ p.1) (sym (numeral-number_of p.0 q.0)), q.1)

digits_pass : (ds : List ℕ) → is_digits ds ≡ true → IsTrue (list_all is_ascii_digit ds)
digits_pass [] h = refl
digits_pass (d ∷ ds) h = h

pub number_then_reads : {A : Type 0} (f : ℕ → Reading A) (n : ℕ) (rest : List ℕ) → Stops is_ascii_digit rest → number_then f (numeral n ++ rest) ≡ f n rest
number_then_reads f n rest s =
    span_reads is_ascii_digit (digits_then f) (numeral n) rest (digits_pass (numeral n) (numeral_digits n)) s
    ∙ only_if_true (is_numeral (numeral n)) (f (number_of (numeral n)) rest) (numeral_is_numeral n)
    ∙ ap (λ k. f k rest) (number_of-numeral n)

-- an array at an index, and then
abbrev pub indexed_then : {A : Type 0} → List ℕ → (ℕ → Reading A) → Reading A
indexed_then array f = strip array (number_then (λ k. strip (codes "]") (f k)))

pub indexed_then_is : {A : Type 0} (array : List ℕ) (f : ℕ → Reading A) (l : List ℕ) (a : A) → indexed_then array f l ≡ Some a → (k : ℕ) × (rest : List ℕ) × (l ≡ indexed array k rest) × (f k rest ≡ Some a)
indexed_then_is array f l a h =
    let p = strip_is array (number_then (λ k. strip (codes "]") (f k))) l a h in
    let q = number_then_is (λ k. strip (codes "]") (f k)) p.0 a p.2 in
    let r = strip_is (codes "]") (f q.0) q.1 a q.3 in
    (q.0, r.0, p.1 ∙ ap (λ z. array ++ z) (q.2 ∙ ap (λ z. numeral q.0 ++ z) r.1), r.2)

pub indexed_then_reads : {A : Type 0} (array : List ℕ) (f : ℕ → Reading A) (k : ℕ) (rest : List ℕ) → indexed_then array f (indexed array k rest) ≡ f k rest
indexed_then_reads array f k rest =
    strip_reads array (number_then (λ k. strip (codes "]") (f k))) (numeral k ++ (codes "]" ++ rest))
    ∙ number_then_reads (λ k. strip (codes "]") (f k)) k (codes "]" ++ rest) refl

-- the end of the line
abbrev pub at_end : {A : Type 0} → A → Reading A
at_end a [] = Some a
at_end a (c ∷ l) = None

pub at_end_is : {A : Type 0} (a b : A) (l : List ℕ) → at_end a l ≡ Some b → (l ≡ []) × (a ≡ b)
at_end_is a b [] h = (refl, some_is a b h)
at_end_is a b (c ∷ l) h = cc h

-- this text, and the end of the line
abbrev pub last_text : {A : Type 0} → List ℕ → A → Reading A
last_text t a = strip t (at_end a)

pub last_text_is : {A : Type 0} (t : List ℕ) (a b : A) (l : List ℕ) → last_text t a l ≡ Some b → (l ≡ t) × (a ≡ b)
last_text_is t a b l h =
    let p = strip_is t (at_end a) l b h in
    let q = at_end_is a b p.0 p.2 in
    (p.1 ∙ ap (λ z. t ++ z) q.0 ∙ append-nil t, q.1)

pub or_else_none : {A : Type 0} (o : Option A) → or_else o None ≡ o
or_else_none None = refl
or_else_none (Some a) = refl

-- a literal, and then
abbrev pub positive : ℕ → Literal
positive k = record { bit = k; negated = false }

abbrev pub negative : ℕ → Literal
negative k = record { bit = k; negated = true }

abbrev pub read_literal : {A : Type 0} → (Literal → Reading A) → Reading A
read_literal f l = or_else (strip (codes "!") (indexed_then (codes "m->b[") (λ k. f (negative k))) l) (indexed_then (codes "m->b[") (λ k. f (positive k)) l)

pub read_literal_is : {A : Type 0} (f : Literal → Reading A) (l : List ℕ) (a : A) → read_literal f l ≡ Some a → (k : Literal) × (rest : List ℕ) × (l ≡ literal_then k rest) × (f k rest ≡ Some a)
read_literal_is f l a h = elim (or_else_is (strip (codes "!") (indexed_then (codes "m->b[") (λ k. f (negative k))) l) (indexed_then (codes "m->b[") (λ k. f (positive k)) l) a h) [
  | inl y ↦
      let p = strip_is (codes "!") (indexed_then (codes "m->b[") (λ k. f (negative k))) l a y in
      let q = indexed_then_is (codes "m->b[") (λ k. f (negative k)) p.0 a p.2 in
      (negative q.0, q.1, p.1 ∙ ap (λ z. codes "!" ++ z) q.2, q.3)
  | inr y ↦
      let q = indexed_then_is (codes "m->b[") (λ k. f (positive k)) l a y in
      (positive q.0, q.1, q.2, q.3)
]

literal_at : {A : Type 0} (f : Literal → Reading A) (k : ℕ) (b : Bool) (rest : List ℕ) → let l : Literal = record { bit = k; negated = b } in read_literal f (literal_then l rest) ≡ f l rest
literal_at f k true rest = or_else_none (indexed_then (codes "m->b[") (λ k. f (negative k)) (bit_place k rest)) ∙ indexed_then_reads (codes "m->b[") (λ k. f (negative k)) k rest
literal_at f k false rest = indexed_then_reads (codes "m->b[") (λ k. f (positive k)) k rest

pub read_literal_reads : {A : Type 0} (f : Literal → Reading A) (l : Literal) (rest : List ℕ) → read_literal f (literal_then l rest) ≡ f l rest
read_literal_reads f l rest = literal_at f l.bit l.negated rest

-- literals behind a sign, up to the `;`, at most so many
abbrev pub more_literals : ℕ → List ℕ → Reading (List Literal)
more_literals zero sign l = None
more_literals (suc n) sign l = or_else (last_text (codes ";") [] l) (strip sign (read_literal (λ k rest. bind (more_literals n sign rest) (λ ks. Some (k ∷ ks)))) l)

pub more_literals_is : (n : ℕ) (sign l : List ℕ) (ls : List Literal) → more_literals n sign l ≡ Some ls → l ≡ literals_then sign ls (codes ";")
more_literals_is zero sign l ls h = cc h
more_literals_is (suc n) sign l ls h = elim (or_else_is (last_text (codes ";") [] l) (strip sign (read_literal (λ k rest. bind (more_literals n sign rest) (λ ks. Some (k ∷ ks)))) l) ls h) [
  | inl y ↦ let p = last_text_is (codes ";") [] ls l y in p.0 ∙ ap (λ z. literals_then sign z (codes ";")) p.1
  | inr y ↦
      let p = strip_is sign (read_literal (λ k rest. bind (more_literals n sign rest) (λ ks. Some (k ∷ ks)))) l ls y in
      let q = read_literal_is (λ k rest. bind (more_literals n sign rest) (λ ks. Some (k ∷ ks))) p.0 ls p.2 in
      let r = bind_is (more_literals n sign q.1) (λ ks. Some (q.0 ∷ ks)) ls q.3 in
      p.1 ∙ ap (λ z. sign ++ z) (q.2 ∙ ap (λ z. literal_then q.0 z) (more_literals_is n sign q.1 r.0 r.1)) ∙ ap (λ z. literals_then sign z (codes ";")) (some_is (q.0 ∷ r.0) ls r.2)
]

-- a sign that begins with a space
pub more_literals_reads : (n : ℕ) (sign : List ℕ) (ls : List Literal) → length ls < n → more_literals n (32 ∷ sign) (literals_then (32 ∷ sign) ls (codes ";")) ≡ Some ls
more_literals_reads zero sign ls h = absurd (omega arith)
more_literals_reads (suc n) sign [] h = refl
more_literals_reads (suc n) sign (l ∷ ls) h =
    let rest : List ℕ = literals_then (32 ∷ sign) ls (codes ";") in
    strip_reads (32 ∷ sign) (read_literal (λ k rest. bind (more_literals n (32 ∷ sign) rest) (λ ks. Some (k ∷ ks)))) (literal_then l rest)
    ∙ read_literal_reads (λ k rest. bind (more_literals n (32 ∷ sign) rest) (λ ks. Some (k ∷ ks))) l rest
    ∙ ap (λ o. bind o (λ ks. Some (l ∷ ks))) (more_literals_reads n sign ls (omega arith))
