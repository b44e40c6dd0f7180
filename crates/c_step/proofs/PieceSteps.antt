-- What the code takes from the front of a line.
use Rattle.std.proofs.Common.{◌≡◌, ℕ, ◌+◌, ◌-◌, ◌<◌, ◌≤◌, List, ◌++◌, Bool, true, false, Option, Some, None, IsTrue, length, take, drop, get_or, refl, sym, ap, ◌∙◌, subst, arith}
use Rattle.std.specs.Prelude.{nat_eq}
use Rattle.std.specs.List.{list_all}
use Rattle.std.specs.Char.{is_ascii_digit}
use Rattle.std.proofs.lemmas.Grind.{common_steps}
use Rattle.std.specs.Borrow.{Bor}
use Rattle.std.specs.Option.{MatchOption}
use Rattle.std.specs.Cmp.Lexicographic.{pointwise}
use Rattle.std.proofs.lemmas.Slice.Eq.{strip_prefix_is, strip_suffix_is}
use Rattle.std.proofs.lemmas.Bool.Decides.{Decides-eqb}
use Rattle.std.proofs.lemmas.List.{take-append-drop, drop_more, take_all, drop_all}
use Rattle.line_format.proofs.Digits.{digits_more}
use Rattle.c_step.specs.inner.Pieces.{behind, before, front_of, behind_front}
use Rattle.c_step.proofs.PieceReads.{Stops, before_is, before_reads, behind_is, behind_reads, front_reads, rest_reads}

-- a front of digits, behind which there is none
stops_at : (p : ℕ → Bool) (l : List ℕ) (k d : ℕ) → k < length l → p (get_or l k d) ≡ false → Stops p (drop k l)
stops_at p l k d h e = subst (Stops p) (sym (drop_more l k d h)) e

pub front_at : (p : ℕ → Bool) (l : List ℕ) (k : ℕ) → IsTrue (list_all p (take k l)) → Stops p (drop k l) → take k l ≡ front_of p l
front_at p l k h s = sym (front_reads p (take k l) (drop k l) h s) ∙ ap (front_of p) (take-append-drop k l)

pub behind_at : (p : ℕ → Bool) (l : List ℕ) (k : ℕ) → IsTrue (list_all p (take k l)) → Stops p (drop k l) → drop k l ≡ behind_front p l
behind_at p l k h s = sym (rest_reads p (take k l) (drop k l) h s) ∙ ap (behind_front p) (take-append-drop k l)

pub digits_here : (l : List ℕ) (k d : ℕ) → k < length l → IsTrue (list_all is_ascii_digit (take k l)) → is_ascii_digit (get_or l k d) ≡ false → take k l ≡ front_of is_ascii_digit l
digits_here l k d b h e = front_at is_ascii_digit l k h (stops_at is_ascii_digit l k d b e)

pub digits_behind : (l : List ℕ) (k d : ℕ) → k < length l → IsTrue (list_all is_ascii_digit (take k l)) → is_ascii_digit (get_or l k d) ≡ false → drop k l ≡ behind_front is_ascii_digit l
digits_behind l k d b h e = behind_at is_ascii_digit l k h (stops_at is_ascii_digit l k d b e)

nothing_stops : (p : ℕ → Bool) (l : List ℕ) (k : ℕ) → length l ≤ k → Stops p (drop k l)
nothing_stops p l k h = subst (Stops p) (sym (drop_all k l h)) tt

pub all_digits : (l : List ℕ) (k n : ℕ) → length l ≤ k → n ≡ length l → IsTrue (list_all is_ascii_digit (take k l)) → take n l ≡ front_of is_ascii_digit l
all_digits l k n b e h = take_all n l (omega arith) ∙ sym (take_all k l b) ∙ front_at is_ascii_digit l k h (nothing_stops is_ascii_digit l k b)

pub no_digits_behind : (l : List ℕ) (k n : ℕ) → length l ≤ k → n ≡ length l → IsTrue (list_all is_ascii_digit (take k l)) → drop n l ≡ behind_front is_ascii_digit l
no_digits_behind l k n b e h = drop_all n l (omega arith) ∙ sym (drop_all k l b) ∙ behind_at is_ascii_digit l k h (nothing_stops is_ascii_digit l k b)

-- texts
pub stands : (t l r : List ℕ) → l ≡ t ++ r → behind t l ≡ Some r
stands t l r h = ap (behind t) h ∙ behind_reads t r

pub stands_not : (t l : List ℕ) → ((r : List ℕ) → l ≡ t ++ r → ⊥) → behind t l ≡ None
stands_not t l h = by (behind t l) refl
  where
    by : (o : Option (List ℕ)) → behind t l ≡ o → behind t l ≡ None
    by None e = e
    by (Some r) e = absurd (h r (behind_is t l r e))

pub ruleset pieces = (common_steps, digits_more)

pub behind_found : (l t : List ℕ) (r : Option (Bor (List ℕ))) → MatchOption r (pointwise nat_eq (take (length t) l) t ≡ false) (λ x. (pointwise nat_eq (take (length t) l) t ≡ true) × (x.now ≡ drop (length t) l) × (length x.now + length t ≡ length l))
    → MatchOption r (behind t l ≡ None) (λ x. behind t l ≡ Some x.now)
behind_found l t r h = by r (strip_prefix_is Decides-eqb l t r h)
  where
    by : (r : Option (Bor (List ℕ))) → MatchOption r ((rest : List ℕ) → l ≡ t ++ rest → ⊥) (λ x. l ≡ t ++ x.now) → MatchOption r (behind t l ≡ None) (λ x. behind t l ≡ Some x.now)
    by None h = stands_not t l h
    by (Some x) h = stands t l x.now h

-- texts at the end
ends : (t l n : List ℕ) → l ≡ n ++ t → before t l ≡ Some n
ends t l n h = ap (before t) h ∙ before_reads t n

ends_not : (t l : List ℕ) → ((n : List ℕ) → l ≡ n ++ t → ⊥) → before t l ≡ None
ends_not t l h = by (before t l) refl
  where
    by : (o : Option (List ℕ)) → before t l ≡ o → before t l ≡ None
    by None e = e
    by (Some n) e = absurd (h n (before_is t l n e))

pub before_found : (l t : List ℕ) (r : Option (Bor (List ℕ))) → MatchOption r (pointwise nat_eq (drop (length l - length t) l) t ≡ false) (λ x. (pointwise nat_eq (drop (length l - length t) l) t ≡ true) × (x.now ≡ take (length l - length t) l) × (length x.now + length t ≡ length l))
    → MatchOption r (before t l ≡ None) (λ x. before t l ≡ Some x.now)
before_found l t r h = by r (strip_suffix_is Decides-eqb l t r h)
  where
    by : (r : Option (Bor (List ℕ))) → MatchOption r ((n : List ℕ) → l ≡ n ++ t → ⊥) (λ x. l ≡ x.now ++ t) → MatchOption r (before t l ≡ None) (λ x. before t l ≡ Some x.now)
    by None h = ends_not t l h
    by (Some x) h = ends t l x.now h
