-- Cutting a list at the first element that passes a test.
use Rattle.std.proofs.Common.{◌≡◌, ℕ, ◌+◌, ◌-◌, ◌<◌, List, [], ◌∷◌, Bool, true, false, Option, Some, None, length, take, drop, cond, ltb, nat_eq, length-drop, refl, sym, ap, ◌∙◌, arith}
use Rattle.std.specs.Prelude.{position}
use Rattle.std.specs.List.{position_from, position_or_len, slice_split, onto_first, join_with_byte}
use Rattle.std.proofs.lemmas.Bool.Decides.{nat_tests}
use Rattle.std.proofs.lemmas.Grind.{common_steps}
use Rattle.std.proofs.lemmas.Iterator.Adapters.{position_from-zero}
use Rattle.std.proofs.lemmas.List.Splits.{slice_split_first, join_with_byte-slice_split}
use Rattle.trace_io.specs.Lines.{Stop, at_end, Raw, raws, raws_from, last_raw}

found : (b : Bool) (m k : ℕ) → cond b (Some m) None ≡ Some k → (b ≡ true) × (m ≡ k)
found true m k h = (refl, cc)
found false m k h = cc

-- the first part ends where the test first passes
pub slice_split-found : (p : ℕ → Bool) (xs : List ℕ) (k : ℕ) → position p xs ≡ Some k → slice_split p xs ≡ take k xs ∷ slice_split p (drop (k + 1) xs)
slice_split-found p xs k h =
    let f = found (ltb (position_or_len p xs) (length xs)) (position_or_len p xs) k h in
    let test : ltb (position_or_len p xs) (length xs) ≡ true = f.0 in
    let below : position_or_len p xs < length xs = grind (arith, nat_tests) in
    slice_split_first p xs 0 below ∙ ap (λ j. take j xs ∷ slice_split p (drop (j + 1) xs)) f.1

uncut : (b : Bool) (p : ℕ → Bool) (i x : ℕ) (xs : List ℕ) (rest : Option ℕ) → cond b (Some i) rest ≡ None → (rest ≡ None → slice_split p xs ≡ xs ∷ []) → cond b ([] ∷ slice_split p xs) (onto_first x (slice_split p xs)) ≡ (x ∷ xs) ∷ []
uncut true p i x xs rest h k = cc
uncut false p i x xs rest h k = ap (onto_first x) (k h)

uncut_from : (p : ℕ → Bool) (i : ℕ) (xs : List ℕ) → position_from p i xs ≡ None → slice_split p xs ≡ xs ∷ []
uncut_from p i [] h = refl
uncut_from p i (x ∷ xs) h = uncut (p x) p i x xs _ h (uncut_from p (i + 1) xs)

-- where it never passes, the list is one part
pub slice_split-absent : (p : ℕ → Bool) (xs : List ℕ) → position p xs ≡ None → slice_split p xs ≡ xs ∷ []
slice_split-absent p xs h = uncut_from p 0 xs (sym (position_from-zero p xs) ∙ h)

pub position-within : (p : ℕ → Bool) (xs : List ℕ) (k : ℕ) → position p xs ≡ Some k → k < length xs
position-within p xs k h =
    let f = found (ltb (position_or_len p xs) (length xs)) (position_or_len p xs) k h in
    let test : ltb (position_or_len p xs) (length xs) ≡ true = f.0 in
    let is : position_or_len p xs ≡ k = f.1 in
    grind (arith, nat_tests)

-- there is one part at least
slice_split-some : (p : ℕ → Bool) (xs : List ℕ) → (part : List ℕ) × (parts : List (List ℕ)) × (slice_split p xs ≡ part ∷ parts)
slice_split-some p [] = ([], [], refl)
slice_split-some p (x ∷ xs) = elim (p x) as (λ b. (part : List ℕ) × (parts : List (List ℕ)) × (cond b ([] ∷ slice_split p xs) (onto_first x (slice_split p xs)) ≡ part ∷ parts)) [
  | true ↦ ([], slice_split p xs, refl)
  | false ↦ onto (slice_split p xs)
]
  where
    onto : (parts : List (List ℕ)) → (part : List ℕ) × (more : List (List ℕ)) × (onto_first x parts ≡ part ∷ more)
    onto [] = (x ∷ [], [], refl)
    onto (q ∷ qs) = (x ∷ q, qs, refl)

-- a line that has its LF, and those behind it
pub raws_from-ended : (stop : Stop) (bs line rest : List ℕ) → slice_split (λ b. nat_eq b 10) bs ≡ line ∷ slice_split (λ b. nat_eq b 10) rest → raws_from stop bs ≡ record { bytes = line; ended = true } ∷ raws_from stop rest
raws_from-ended stop bs line rest h =
    let some = slice_split-some (λ b. nat_eq b 10) rest in
    let first : Raw = record { bytes = line; ended = true } in
    ap (raws stop) (h ∙ ap (λ parts. line ∷ parts) some.2) ∙ ap (λ parts. first ∷ raws stop parts) (sym some.2)

-- what stands after the last LF
pub raws_from-last : (stop : Stop) (bs last : List ℕ) → slice_split (λ b. nat_eq b 10) bs ≡ last ∷ [] → raws_from stop bs ≡ last_raw stop last
raws_from-last stop bs last h = ap (raws stop) h

-- the last part is no longer than all
pub slice_split-whole : (bs last : List ℕ) → slice_split (λ b. nat_eq b 10) bs ≡ last ∷ [] → bs ≡ last
slice_split-whole bs last h = sym (join_with_byte-slice_split 10 bs) ∙ ap (join_with_byte 10) h

-- where nothing is left at the end, there is no line
pub raws_from-none : (stop : Stop) (rest : List ℕ) → stop ≡ at_end → rest ≡ [] → raws_from stop rest ≡ []
raws_from-none stop rest e h = ap (λ s. raws_from s rest) e ∙ ap (raws_from at_end) h

-- what stands behind a place is told by its length
pub drop-rest : (n m : ℕ) (xs rest : List ℕ) → m ≡ n + 1 → n < length xs → rest ≡ drop m xs → rest ≡ drop (length xs - length rest) xs
drop-rest n m xs rest e h is =
    let len : length rest ≡ length xs - m = ap length is ∙ length-drop m xs in
    is ∙ ap (λ k. drop k xs) (let back : m ≡ length xs - length rest = omega (arith, len) in back)

pub drop-whole : (xs rest : List ℕ) → rest ≡ [] → rest ≡ drop (length xs - length rest) xs
drop-whole xs rest is = is ∙ sym (drop-all xs) ∙ ap (λ k. drop k xs) (let len : length rest ≡ 0 = ap length is in let back : length xs ≡ length xs - length rest = omega (arith, len) in back)
  where
    drop-all : (ys : List ℕ) → drop (length ys) ys ≡ []
    drop-all [] = refl
    drop-all (y ∷ ys) = drop-all ys

pub ruleset raw_lines = (common_steps, raws_from-ended, raws_from-last, raws_from-none, slice_split-whole, drop-whole)

pub ruleset cuts = (common_steps, slice_split-found, slice_split-absent, position-within, drop-rest)
