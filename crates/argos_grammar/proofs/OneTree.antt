-- A piece has at most one tree and one rest where the same tokens stand: words, names, numbers and lists.
use Rattle.std.proofs.Common.{◌≡◌, ℕ, List, [], ◌∷◌, Bool, Option, Some, None, true, false, refl, sym, ap, ap₂, ◌∙◌, subst, drop}
use Rattle.std.specs.Prelude.{codes, bytes_eq}
use Prim.Native.String.{String}
use Rattle.argos_base.specs.Spelling.{is_one_of, number_of}
use Rattle.argos_tokens.specs.Tokens.{Token}
use Rattle.argos_grammar.specs.Forms.{Mark, Numeral}
use Rattle.argos_grammar.specs.Runs.{begins_with}
use Rattle.argos_grammar.specs.Grammar.{Piece, ◌⨾◌, nothing, word, name, numeral, number, version, count, each, separated, optional, braced}
use Rattle.argos_grammar.proofs.FirstWords.{IsClearOf, begins_clear, word_begins, word_clear, two_fronts, two_words, word_same, piece_begins}
use Rattle.argos_grammar.proofs.PieceFronts.{either}

-- The piece of this tree is that of no other where the same tokens stand, and it leaves one rest, where none of the stops follows.
pub record One {A : Type 0} (stops : List (List ℕ)) (P : A → Piece) (x : A) : Type 0 where
  pub same : (y : A) (ts us r s : List Token) → ts ≡ us → P x ts r → P y us s → IsClearOf stops r → IsClearOf stops s → (x ≡ y) × (r ≡ s)

same_token : (t u : Token) (ts us : List Token) → t ∷ ts ≡ u ∷ us → t ≡ u
same_token t u ts us e = cc e

-- names
mark_same : (m n : Mark) → m.name ≡ n.name → m.at ≡ n.at → m ≡ n
mark_same m n p q = ap₂ (λ x y. let k : Mark = record { name = x; at = y } in k) p q

name_same : (m n : Mark) (ts us r s : List Token) → ts ≡ us → name m ts r → name n us s → (m ≡ n) × (r ≡ s)
name_same m n [] us r s e h k = absurd h
name_same m n (t ∷ ts) [] r s e h k = absurd k
name_same m n (t ∷ ts) (u ∷ us) r s e h k =
    let q = same_token t u ts us e in
    (mark_same m n (h.1 ∙ ap (λ x. x.text) q ∙ sym k.1) (h.2 ∙ ap (λ x. x.at) q ∙ sym k.2), sym h.3 ∙ ap (drop 1) e ∙ k.3)

pub one_name : (m : Mark) → One [] name m
one_name m = record { same = λ n ts us r s e h k c d. name_same m n ts us r s e h k }

-- numbers
numeral_is : (m n : Numeral) → m.number ≡ n.number → m.at ≡ n.at → m ≡ n
numeral_is m n p q = ap₂ (λ x y. let k : Numeral = record { number = x; at = y } in k) p q

numeral_same : (m n : Numeral) (ts us r s : List Token) → ts ≡ us → numeral m ts r → numeral n us s → (m ≡ n) × (r ≡ s)
numeral_same m n [] us r s e h k = absurd h
numeral_same m n (t ∷ ts) [] r s e h k = absurd k
numeral_same m n (t ∷ ts) (u ∷ us) r s e h k =
    let q = same_token t u ts us e in
    (numeral_is m n (sym h.0.1 ∙ ap (λ x. number_of x.text) q ∙ k.0.1) (h.2 ∙ ap (λ x. x.at) q ∙ sym k.2), sym h.3 ∙ ap (drop 1) e ∙ k.3)

pub one_numeral : (n : Numeral) → One [] numeral n
one_numeral n = record { same = λ m ts us r s e h k c d. numeral_same n m ts us r s e h k }

number_same : (m n : ℕ) (ts us r s : List Token) → ts ≡ us → number m ts r → number n us s → (m ≡ n) × (r ≡ s)
number_same m n ts us r s e h k =
    let p = numeral_same (record { number = m; at = h.0 }) (record { number = n; at = k.0 }) ts us r s e h.1 k.1 in
    (ap (λ (x : Numeral). x.number) p.0, p.1)

pub one_version : (n : ℕ) → One [] version n
one_version n = record { same = λ m ts us r s e h k c d. number_same n m ts us r s e h.1 k.1 }

pub one_count : (n : ℕ) → One [] count n
one_count n = record { same = λ m ts us r s e h k c d. number_same n m ts us r s e h.1 k.1 }

-- a word before or behind
pub one_after : {A : Type 0} (w : String) {stops : List (List ℕ)} {P : A → Piece} {x : A} → One stops P x → One stops (λ a. word w ⨾ P a) x
one_after w one = record { same = λ y ts us r s e h k c d. one.same y h.0 k.0 r s (word_same w ts us h.0 k.0 e h.1 k.1) h.2 k.2 c d }

pub one_before : {A : Type 0} (w : String) {stops : List (List ℕ)} {P : A → Piece} {x : A} → is_one_of stops (codes w) ≡ false → One stops P x → One [] (λ a. P a ⨾ word w) x
one_before w {stops = stops} apart one = record {
  same = λ y ts us r s e h k c d.
      let p = one.same y ts us h.0 k.0 e h.1 k.1 (word_clear stops w h.0 r apart h.2) (word_clear stops w k.0 s apart k.2) in
      (p.0, word_same w h.0 k.0 r s p.1 h.2 k.2);
}

-- one of two words
either_same : (v w : String) → bytes_eq (codes v) (codes w) ≡ false → bytes_eq (codes w) (codes v) ≡ false → (b c : Bool) (ts us r s : List Token) → ts ≡ us → either v w b ts r → either v w c us s → (b ≡ c) × (r ≡ s)
either_same v w p q true true ts us r s e h k = (refl, word_same v ts us r s e h k)
either_same v w p q true false ts us r s e h k = absurd (two_words v w ts us r s p e h k)
either_same v w p q false true ts us r s e h k = absurd (two_words w v ts us r s q e h k)
either_same v w p q false false ts us r s e h k = (refl, word_same w ts us r s e h k)

pub one_either : (v w : String) → bytes_eq (codes v) (codes w) ≡ false → bytes_eq (codes w) (codes v) ≡ false → (b : Bool) → One [] (either v w) b
one_either v w p q b = record { same = λ c ts us r s e h k n m. either_same v w p q b c ts us r s e h k }

-- Where the rest is clear of some words, so is the front of the piece.
abbrev pub Fronts : {A : Type 0} → List (List ℕ) → List (List ℕ) → (A → Piece) → Type 0
Fronts {A} stops behind P = (x : A) (ts r : List Token) → P x ts r → IsClearOf behind r → IsClearOf stops ts

-- one piece, and then another
pub one_both : {A B : Type 0} {stops behind : List (List ℕ)} {P : A → Piece} {Q : B → Piece} {a : A} {b : B} → One stops P a → One behind Q b → Fronts stops behind Q
    → One behind (λ (p : A × B). P p.0 ⨾ Q p.1) (a, b)
one_both {A = A} {B = B} {b = b} one other front = record {
  same = λ y ts us r s e h k c d.
      let p = one.same y.0 ts us h.0 k.0 e h.1 k.1 (front b h.0 r h.2 c) (front y.1 k.0 s k.2 d) in
      let q = other.same y.1 h.0 k.0 r s p.1 h.2 k.2 c d in
      (ap₂ (λ (u : A) (v : B). let z : A × B = (u, v) in z) p.0 q.0, q.1);
}

pub one_braced : {A : Type 0} {stops : List (List ℕ)} {P : A → Piece} {x : A} → is_one_of stops (codes "}") ≡ false → One stops P x → One [] (λ a. braced (P a)) x
one_braced apart one = one_after "{" (one_before "}" apart one)

-- another form of the same tree
pub one_as : {A B : Type 0} {stops : List (List ℕ)} {P : A → Piece} {Q : B → Piece} (made : A → B) (pieces : B → A) (b : B) → One stops P (pieces b) → ((y : B) → made (pieces y) ≡ y)
    → ((y : B) (ts r : List Token) → Q y ts r → P (pieces y) ts r) → One stops Q b
one_as made pieces b one back convert = record {
  same = λ y ts us r s e h k c d.
      let p = one.same (pieces y) ts us r s e (convert b ts r h) (convert y us s k) c d in
      (sym (back b) ∙ ap made p.0 ∙ back y, p.1);
}

-- the piece begins with this word
abbrev pub Begins : {A : Type 0} → String → (A → Piece) → Type 0
Begins {A} w P = (x : A) (ts r : List Token) → P x ts r → begins_with (codes w) ts ≡ true

-- where more words may not follow
pub one_wider : {A : Type 0} {w : List ℕ} {stops : List (List ℕ)} {P : A → Piece} {x : A} → One stops P x → One (w ∷ stops) P x
one_wider one = record { same = λ y ts us r s e h k c d. one.same y ts us r s e h k c.1 d.1 }

-- The tree is this one and nothing stands there, or it is made of one that this piece has.
pub data Stands {A B : Type 0} (P : A → Piece) (none : B) (made : A → B) (y : B) (ts r : List Token) : Type 0 where
  absent : y ≡ none → ts ≡ r → Stands P none made y ts r
  present : (x : A) → y ≡ made x → P x ts r → Stands P none made y ts r

absent_same : {A B : Type 0} (w : String) {P : A → Piece} {none : B} {made : A → B} → Begins w P → (y : B) (ts us r s : List Token) → ts ≡ us → ts ≡ r → Stands P none made y us s → begins_with (codes w) r ≡ false
    → (none ≡ y) × (r ≡ s)
absent_same w begins y ts us r s e h (absent z k) c = (sym z, sym h ∙ e ∙ k)
absent_same w begins y ts us r s e h (present x z k) c = absurd (two_fronts (codes w) us r (sym e ∙ h) (begins x us s k) c)

present_same : {A B : Type 0} (w : String) {stops : List (List ℕ)} {P : A → Piece} {none : B} {made : A → B} → Begins w P → (x : A) → One (codes w ∷ stops) P x → (y : B) (ts us r s : List Token) → ts ≡ us → P x ts r
    → Stands P none made y us s → IsClearOf (codes w ∷ stops) r → IsClearOf (codes w ∷ stops) s → (made x ≡ y) × (r ≡ s)
present_same w begins x one y ts us r s e h (absent z k) c d = absurd (two_fronts (codes w) ts s (e ∙ k) (begins x ts r h) d.0)
present_same w {made = made} begins x one y ts us r s e h (present x' z k) c d = let p = one.same x' ts us r s e h k c d in (ap made p.0 ∙ sym z, p.1)

-- nothing, or a piece with a word at its front that may not follow
pub one_absent : {A B : Type 0} (w : String) {stops : List (List ℕ)} {P : A → Piece} {none : B} {made : A → B} {Q : B → Piece} → Begins w P → ((y : B) (ts r : List Token) → Q y ts r → Stands P none made y ts r)
    → ((ts r : List Token) → Q none ts r → ts ≡ r) → One (codes w ∷ stops) Q none
one_absent w begins stands nothing_there = record { same = λ y ts us r s e h k c d. absent_same w begins y ts us r s e (nothing_there ts r h) (stands y us s k) c.0 }

pub one_present : {A B : Type 0} (w : String) {stops : List (List ℕ)} {P : A → Piece} {none : B} {made : A → B} {Q : B → Piece} → Begins w P → ((y : B) (ts r : List Token) → Q y ts r → Stands P none made y ts r)
    → (x : A) → ((ts r : List Token) → Q (made x) ts r → P x ts r) → One (codes w ∷ stops) P x → One (codes w ∷ stops) Q (made x)
one_present w begins stands x convert one = record { same = λ y ts us r s e h k c d. present_same w begins x one y ts us r s e (convert ts r h) (stands y us s k) c d }

-- such a piece, or none
abbrev pub perhaps : {A : Type 0} → (A → Piece) → Option A → Piece
perhaps P None = nothing
perhaps P (Some x) = P x

perhaps_stands : {A : Type 0} (P : A → Piece) (o : Option A) (ts r : List Token) → perhaps P o ts r → Stands P None Some o ts r
perhaps_stands P None ts r h = absent refl h
perhaps_stands P (Some x) ts r h = present x refl h

pub one_perhaps : {A : Type 0} (w : String) {stops : List (List ℕ)} {P : A → Piece} → Begins w P → ((x : A) → One stops P x) → (o : Option A) → One (codes w ∷ stops) (perhaps P) o
one_perhaps w {P = P} begins one None = one_absent w begins (perhaps_stands P) (λ ts r h. h)
one_perhaps w {P = P} begins one (Some x) = one_present w begins (perhaps_stands P) x (λ ts r h. h) (one_wider (one x))

-- one after the other, each with a word at its front that follows none of them
abbrev first_of : {A : Type 0} → (A → Piece) → A × List A → Piece
first_of P p = P p.0 ⨾ each P p.1

abbrev list_of : {A : Type 0} → A × List A → List A
list_of p = p.0 ∷ p.1

each_stands : {A : Type 0} (P : A → Piece) (xs : List A) (ts r : List Token) → each P xs ts r → Stands (first_of P) [] list_of xs ts r
each_stands P [] ts r h = absent refl h
each_stands P (x ∷ xs) ts r h = present (x, xs) refl h

each_clear : {A : Type 0} (w : String) (stops : List (List ℕ)) (P : A → Piece) → is_one_of stops (codes w) ≡ false → Begins w P → (xs : List A) (ts r : List Token) → each P xs ts r → IsClearOf stops r → IsClearOf stops ts
each_clear w stops P apart begins [] ts r h c = subst (IsClearOf stops) (sym h) c
each_clear w stops P apart begins (x ∷ xs) ts r h c = begins_clear stops (codes w) ts apart (begins x ts h.0 h.1)

pub one_each : {A : Type 0} (w : String) (stops : List (List ℕ)) (P : A → Piece) → is_one_of stops (codes w) ≡ false → Begins w P → ((x : A) → One stops P x)
    → (xs : List A) → One (codes w ∷ stops) (each P) xs
one_each w stops P apart begins one [] = one_absent w (λ p ts r h. begins p.0 ts h.0 h.1) (each_stands P) (λ ts r h. h)
one_each w stops P apart begins one (x ∷ xs) =
    one_present w (λ p ts r h. begins p.0 ts h.0 h.1) (each_stands P) (x, xs) (λ ts r h. h)
    (one_both (one x) (one_each w stops P apart begins one xs) (λ ys ts r h c. each_clear w stops P apart begins ys ts r h c.1))

-- one or more, with a word between two that follows none of them
one_first : {A : Type 0} (w : String) (stops : List (List ℕ)) (P : A → Piece) → is_one_of stops (codes w) ≡ false → ((x : A) → One stops P x)
    → (x : A) (xs : List A) → One (codes w ∷ stops) (λ (p : A × List A). P p.0 ⨾ each (λ y. word w ⨾ P y) p.1) (x, xs)
one_first {A = A} w stops P apart one x xs =
    let Q : A → Piece = λ y. word w ⨾ P y in
    one_both (one x) (one_each w stops Q apart (piece_begins w P) (λ y. one_after w (one y)) xs) (λ ys ts r h c. each_clear w stops Q apart (piece_begins w P) ys ts r h c.1)

separated_same : {A : Type 0} (w : String) (stops : List (List ℕ)) (P : A → Piece) → is_one_of stops (codes w) ≡ false → ((x : A) → One stops P x)
    → (xs ys : List A) (ts us r s : List Token) → ts ≡ us → separated w P xs ts r → separated w P ys us s → IsClearOf (codes w ∷ stops) r → IsClearOf (codes w ∷ stops) s → (xs ≡ ys) × (r ≡ s)
separated_same w stops P apart one [] ys ts us r s e h k c d = absurd h
separated_same w stops P apart one (x ∷ xs) [] ts us r s e h k c d = absurd k
separated_same w stops P apart one (x ∷ xs) (y ∷ ys) ts us r s e h k c d = let p = (one_first w stops P apart one x xs).same (y, ys) ts us r s e h k c d in (ap list_of p.0, p.1)

pub one_separated : {A : Type 0} (w : String) (stops : List (List ℕ)) (P : A → Piece) → is_one_of stops (codes w) ≡ false → ((x : A) → One stops P x)
    → (xs : List A) → One (codes w ∷ stops) (separated w P) xs
one_separated w stops P apart one xs = record { same = λ ys ts us r s e h k c d. separated_same w stops P apart one xs ys ts us r s e h k c d }

-- nothing, or a list with a word at its front
optional_stands : {A : Type 0} (P : List A → Piece) (xs : List A) (ts r : List Token) → optional P xs ts r → Stands P [] (λ ys. ys) xs ts r
optional_stands P [] ts r h = absent refl h
optional_stands P (x ∷ xs) ts r h = present (x ∷ xs) refl h

pub one_optional : {A : Type 0} (w : String) (stops : List (List ℕ)) (P : List A → Piece) → Begins w P → ((xs : List A) → One stops P xs) → (xs : List A) → One (codes w ∷ stops) (optional P) xs
one_optional w stops P begins one [] = one_absent w begins (optional_stands P) (λ ts r h. h)
one_optional w stops P begins one (x ∷ xs) = one_present w begins (optional_stands P) (x ∷ xs) (λ ts r h. h) (one_wider (one (x ∷ xs)))

-- nothing, or a list, before a word with which the list doesn't begin
ended_same : {A : Type 0} (w : String) (stops : List (List ℕ)) (P : List A → Piece) → is_one_of stops (codes w) ≡ false → ((xs : List A) (ts r : List Token) → P xs ts r → begins_with (codes w) ts ≡ false)
    → ((xs : List A) → One stops P xs) → (xs ys : List A) (ts us r s : List Token) → ts ≡ us → (optional P xs ⨾ word w) ts r → (optional P ys ⨾ word w) us s → (xs ≡ ys) × (r ≡ s)
ended_same w stops P apart other one [] [] ts us r s e h k = (refl, word_same w h.0 k.0 r s (sym h.1 ∙ e ∙ k.1) h.2 k.2)
ended_same w stops P apart other one [] (y ∷ ys) ts us r s e h k = absurd (two_fronts (codes w) h.0 us (sym h.1 ∙ e) (word_begins w h.0 r h.2) (other (y ∷ ys) us k.0 k.1))
ended_same w stops P apart other one (x ∷ xs) [] ts us r s e h k = absurd (two_fronts (codes w) k.0 ts (sym k.1 ∙ sym e) (word_begins w k.0 s k.2) (other (x ∷ xs) ts h.0 h.1))
ended_same w stops P apart other one (x ∷ xs) (y ∷ ys) ts us r s e h k = (one_before w apart (one (x ∷ xs))).same (y ∷ ys) ts us r s e h k tt tt

pub one_ended : {A : Type 0} (w : String) (stops : List (List ℕ)) (P : List A → Piece) → is_one_of stops (codes w) ≡ false → ((xs : List A) (ts r : List Token) → P xs ts r → begins_with (codes w) ts ≡ false)
    → ((xs : List A) → One stops P xs) → (xs : List A) → One [] (λ ys. optional P ys ⨾ word w) xs
one_ended w stops P apart other one xs = record { same = λ ys ts us r s e h k c d. ended_same w stops P apart other one xs ys ts us r s e h k }
