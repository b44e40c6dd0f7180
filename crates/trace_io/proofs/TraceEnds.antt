-- The lines of a trace, of the part of it that was taken, and of the whole input.
use Rattle.std.proofs.Common.{◌≡◌, ℕ, ◌+◌, ◌-◌, ◌<◌, ◌≤◌, List, [], ◌∷◌, ◌++◌, Bool, true, false, ◌&&◌, Option, Some, None, Ok, Err, not, ◌^◌, cond, length, take, nat_eq, ltb, refl, sym, ap, subst, ◌∙◌, length-append, arith}
use Rattle.std.specs.Prelude.{Result}
use Rattle.std.specs.List.{slice_split, onto_first, list_all}
use Rattle.std.proofs.Math.Seq.{take-append_seam, take-append-add}
use Rattle.std.proofs.lemmas.Bool.Decides.{nat_tests}
use Rattle.std.proofs.lemmas.List.{take_all}
use Rattle.std.proofs.lemmas.Grind.{common_steps}
use Rattle.argos_base.specs.Limits.{text_limit, trace_line_limit}
use Rattle.argos_base.specs.Names.{Spelled}
use Rattle.argos_base.specs.Spelling.{is_name, is_one_of}
use Rattle.argos_base.specs.Outside.{ahead, IsAtEnd}
use Rattle.argos_base.specs.SignalSets.{SignalSet}
use Rattle.trace_io.specs.Lines.{LineKind, TooMany, TooLong, Unknown, Spelling, Stop, at_end, failed, full, Taken, End, used_up, bad_line, Raw, raws, raws_from, last_raw, pulled_whole, content, words_of, set_of, is_dash, of_words, line_set, add_set, sets_from, input_lines}
use Rattle.trace_io.proofs.WordSets.{length-set_of}

-- each set has so many places
abbrev pub AreSized : ℕ → List SignalSet → Type 0
AreSized n [] = Unit {0}
AreSized n (i ∷ is) = (length i ≡ n) × AreSized n is

-- sets of lines have one place per name

named_by : (b c d : Bool) (names : List Spelled) (words : List (List ℕ)) (set : SignalSet) → cond b (Ok (set_of names [])) (cond c (cond d (Ok (set_of names words)) (Err Unknown)) (Err Spelling)) ≡ Ok set → length set ≡ length names
named_by true c d names words set e = let same : set_of names [] ≡ set = cc in ap length (sym same) ∙ length-set_of names []
named_by false true true names words set e = let same : set_of names words ≡ set = cc in ap length (sym same) ∙ length-set_of names words
named_by false true false names words set e = cc
named_by false false d names words set e = cc

of_line : (many long : Bool) (names : List Spelled) (words : List (List ℕ)) (set : SignalSet) → cond many (Err TooMany) (cond long (Err TooLong) (of_words names words)) ≡ Ok set → length set ≡ length names
of_line true long names words set e = cc
of_line false true names words set e = cc
of_line false false names words set e = named_by (is_dash words) (ltb 0 (length words) && list_all is_name words) (list_all (is_one_of names) words) names words set e

add_sized : (n : ℕ) (s : Result SignalSet LineKind) (number : ℕ) (more : List SignalSet × End) → ((set : SignalSet) → s ≡ Ok set → length set ≡ n) → AreSized n more.0 → AreSized n (add_set s number more).0
add_sized n (Err kind) number more h k = tt
add_sized n (Ok set) number more h k = (h set refl, k)

pub sets-sized : (names : List Spelled) (stop : Stop) (number : ℕ) (rs : List Raw) → AreSized (length names) (sets_from names stop number rs).0
sets-sized names stop number [] = tt
sets-sized names stop number (r ∷ rs) =
    add_sized (length names) (line_set names number r) number (sets_from names stop (number + 1) rs) (λ set e. of_line (not (ltb number (2 ^ 32))) (ltb trace_line_limit (length r.bytes)) names (words_of (content r)) set e) (sets-sized names stop (number + 1) rs)

-- where pulling stopped so, the lines can end so
abbrev pub IsEndOf : Stop → End → Type 0
IsEndOf stop (used_up s) = s ≡ stop
IsEndOf stop (bad_line n kind) = Unit {0}

add_end : (stop : Stop) (s : Result SignalSet LineKind) (number : ℕ) (more : List SignalSet × End) → IsEndOf stop more.1 → IsEndOf stop (add_set s number more).1
add_end stop (Err kind) number more h = tt
add_end stop (Ok set) number more h = h

pub sets-end : (names : List Spelled) (stop : Stop) (number : ℕ) (rs : List Raw) → IsEndOf stop (sets_from names stop number rs).1
sets-end names stop number [] = refl
sets-end names stop number (r ∷ rs) = add_end stop (line_set names number r) number _ (sets-end names stop (number + 1) rs)

-- the bytes that were taken are all that is pulled whole

not_more : (m n : ℕ) → n ≤ m → ltb m n ≡ false
not_more m n h = grind (arith, nat_tests)

more : (m n : ℕ) → m < n → ltb m n ≡ true
more m n h = grind (arith, nat_tests)

append-none : (xs : List ℕ) → xs ++ [] ≡ xs
append-none xs = grind (arith, common_steps)

all_taken : (xs : List ℕ) → length xs ≤ text_limit → pulled_whole xs ≡ record { bytes = xs; stop = at_end }
all_taken xs short =
    ap (λ b. let t : Taken = record { bytes = take (text_limit + 1) xs; stop = cond b full at_end } in t) (not_more text_limit (length xs) short)
    ∙ ap (λ b. let t : Taken = record { bytes = b; stop = at_end } in t) (take_all (text_limit + 1) xs (omega arith))

pub pulled_to_end : (bytes : List ℕ) (left' : Option (List ℕ)) (input : List ℕ) → Some input ≡ ahead bytes left' → IsAtEnd left' → length bytes ≤ text_limit → pulled_whole input ≡ record { bytes = bytes; stop = at_end }
pulled_to_end bytes None input e h short = cc
pulled_to_end bytes (Some rest) input e h short =
    let whole : input ≡ bytes ++ rest = cc in
    let same : input ≡ bytes = whole ∙ ap (λ z. bytes ++ z) h ∙ append-none bytes in
    ap pulled_whole same ∙ all_taken bytes short

pub pulled_full : (bytes : List ℕ) (left' : Option (List ℕ)) (input : List ℕ) → Some input ≡ ahead bytes left' → length bytes ≡ (text_limit + 1) → pulled_whole input ≡ record { bytes = bytes; stop = full }
pulled_full bytes None input e long = cc
pulled_full bytes (Some rest) input e long =
    let same : input ≡ bytes ++ rest = cc in
    let test : ltb text_limit (length (bytes ++ rest)) ≡ true = more text_limit (length (bytes ++ rest)) (omega (arith, length-append bytes rest)) in
    let front : take (text_limit + 1) (bytes ++ rest) ≡ bytes = ap (λ n. take n (bytes ++ rest)) (sym long) ∙ take-append_seam bytes rest in
    ap pulled_whole same ∙ ap (λ b. let t : Taken = record { bytes = take (text_limit + 1) (bytes ++ rest); stop = cond b full at_end } in t) test ∙ ap (λ b. let t : Taken = record { bytes = b; stop = full } in t) front

-- the whole lines of a front are the first lines of all

abbrev split : List ℕ → List (List ℕ)
split = slice_split (λ b. nat_eq b 10)

some_part : (xs : List ℕ) → (part : List ℕ) × (parts : List (List ℕ)) × (split xs ≡ part ∷ parts)
some_part [] = ([], [], refl)
some_part (x ∷ xs) = elim (nat_eq x 10) as (λ b. (part : List ℕ) × (parts : List (List ℕ)) × (cond b ([] ∷ split xs) (onto_first x (split xs)) ≡ part ∷ parts)) [
  | true ↦ ([], split xs, refl)
  | false ↦ onto (split xs)
]
  where
    onto : (parts : List (List ℕ)) → (part : List ℕ) × (more : List (List ℕ)) × (onto_first x parts ≡ part ∷ more)
    onto [] = (x ∷ [], [], refl)
    onto (q ∷ qs) = (x ∷ q, qs, refl)

-- these lines come first, and then others
pub record Begins (first all : List Raw) : Type 0 where
  pub more : List Raw
  pub joined : all ≡ first ++ more

-- a byte before the first line
abbrev onto_raw : ℕ → List Raw → List Raw
onto_raw x [] = []
onto_raw x (r ∷ rs) = record { bytes = x ∷ r.bytes; ended = r.ended } ∷ rs

abbrev ended_line : List ℕ → Raw
ended_line bytes = record { bytes = bytes; ended = true }

abbrev first_bytes : List Raw → List ℕ
first_bytes [] = []
first_bytes (r ∷ rs) = r.bytes

abbrev rest_of : List Raw → List Raw
rest_of [] = []
rest_of (r ∷ rs) = rs

abbrev first_ended : List Raw → Bool
first_ended [] = false
first_ended (r ∷ rs) = r.ended

-- what stands after the last LF has none
unended : (stop : Stop) (part : List ℕ) (r : Raw) {rs : List Raw} → last_raw stop part ≡ r ∷ rs → r.ended ≡ true → ⊥
unended at_end [] r e t = cc
unended at_end (b ∷ bs) r e t = let f : false ≡ r.ended = ap first_ended e in cc
unended failed part r e t = cc
unended full part r e t = cc

after_break : (stop : Stop) (parts : List (List ℕ)) (part : List ℕ) (more : List (List ℕ)) → parts ≡ part ∷ more → raws stop ([] ∷ parts) ≡ ended_line [] ∷ raws stop parts
after_break stop parts part more e = ap (λ z. raws stop ([] ∷ z)) e ∙ ap (λ z. ended_line [] ∷ raws stop z) (sym e)

-- of the front the first line has its LF, so it is the first line of all
grows : (stop : Stop) (x : ℕ) (a : List ℕ) (b : List ℕ) (more : List (List ℕ)) (parts : List (List ℕ)) (part : List ℕ) (others : List (List ℕ)) → parts ≡ part ∷ others → Begins (raws failed (a ∷ b ∷ more)) (raws stop parts) → Begins (raws failed ((x ∷ a) ∷ b ∷ more)) (raws stop (onto_first x parts))
grows stop x a b more parts part [] e h =
    let one : raws stop parts ≡ last_raw stop part = ap (raws stop) e in
    absurd (unended stop part (ended_line a) (sym one ∙ h.joined) refl)
grows stop x a b more parts part (c ∷ others) e h =
    let all : raws stop parts ≡ ended_line part ∷ raws stop (c ∷ others) = ap (raws stop) e in
    let both : ended_line part ∷ raws stop (c ∷ others) ≡ ended_line a ∷ (raws failed (b ∷ more) ++ h.more) = sym all ∙ h.joined in
    let part_is : part ≡ a = ap first_bytes both in
    let rest_is : raws stop (c ∷ others) ≡ raws failed (b ∷ more) ++ h.more = ap rest_of both in
    record {
      more = h.more;
      joined = ap (λ z. raws stop (onto_first x z)) e ∙ ap (λ p. ended_line (x ∷ p) ∷ raws stop (c ∷ others)) part_is ∙ ap (λ (z : List Raw). ended_line (x ∷ a) ∷ z) rest_is;
    }

begins_step : (b : Bool) (stop : Stop) (x : ℕ) (xs all : List ℕ) → Begins (raws failed (split xs)) (raws stop (split all)) → Begins (raws failed (cond b ([] ∷ split xs) (onto_first x (split xs)))) (raws stop (cond b ([] ∷ split all) (onto_first x (split all))))
begins_step true stop x xs all h =
    let p = some_part xs in
    let q = some_part all in
    record {
      more = h.more;
      joined = after_break stop (split all) q.0 q.1 q.2 ∙ ap (λ (z : List Raw). ended_line [] ∷ z) h.joined ∙ ap (λ (z : List Raw). z ++ h.more) (sym (after_break failed (split xs) p.0 p.1 p.2));
    }
begins_step false stop x xs all h = let p = some_part xs in let q = some_part all in by_parts p.1 p.0 p.2 q.0 q.1 q.2
  where
    by_parts : (more : List (List ℕ)) (part : List ℕ) → split xs ≡ part ∷ more → (part' : List ℕ) (more' : List (List ℕ)) → split all ≡ part' ∷ more' → Begins (raws failed (onto_first x (split xs))) (raws stop (onto_first x (split all)))
    by_parts [] part e part' more' f = record { more = raws stop (onto_first x (split all)); joined = ap (λ z. z ++ raws stop (onto_first x (split all))) (sym (ap (λ z. raws failed (onto_first x z)) e)) }
    by_parts (b ∷ more) part e part' more' f =
        subst (λ z. Begins (raws failed (onto_first x z)) (raws stop (onto_first x (split all)))) (sym e) (grows stop x part b more (split all) part' more' f (subst (λ z. Begins (raws failed z) (raws stop (split all))) e h))

-- the lines with their LF among the first bytes are the first lines of all bytes
pub whole_lines_first : (stop : Stop) (xs ys : List ℕ) → Begins (raws_from failed xs) (raws_from stop (xs ++ ys))
whole_lines_first stop [] ys = record { more = raws_from stop ys; joined = refl }
whole_lines_first stop (x ∷ xs) ys = begins_step (nat_eq x 10) stop x xs (xs ++ ys) (whole_lines_first stop xs ys)

-- a bad line among the first lines is the first bad one

add_bad : (s : Result SignalSet LineKind) (number n : ℕ) (kind : LineKind) (sets : List SignalSet) (more more' : List SignalSet × End) → add_set s number more ≡ (sets, bad_line n kind) → ((rest : List SignalSet) → more ≡ (rest, bad_line n kind) → more' ≡ (rest, bad_line n kind)) → add_set s number more' ≡ (sets, bad_line n kind)
add_bad (Err k) number n kind sets more more' e h = e
add_bad (Ok s) number n kind sets more more' e h =
    let ends : more.1 ≡ bad_line n kind = ap (λ z. z.1) e in
    let same : more' ≡ (more.0, bad_line n kind) = h more.0 (ap (λ z. (more.0, z)) ends) in
    ap (add_set (Ok s) number) same ∙ ap (λ z. (s ∷ more.0, z)) (sym ends) ∙ e

pub sets-bad : (names : List Spelled) (stop stop' : Stop) (number n : ℕ) (kind : LineKind) (rs more : List Raw) (sets : List SignalSet) → sets_from names stop number rs ≡ (sets, bad_line n kind) → sets_from names stop' number (rs ++ more) ≡ (sets, bad_line n kind)
sets-bad names stop stop' number n kind [] more sets e = absurd (no_bad (ap (λ z. z.1) e))
  where
    no_bad : used_up stop ≡ bad_line n kind → ⊥
    no_bad h = cc
sets-bad names stop stop' number n kind (r ∷ rs) more sets e = add_bad (line_set names number r) number n kind sets _ _ e (λ rest h. sets-bad names stop stop' (number + 1) n kind rs more rest h)

-- where pulling failed behind a bad line, the whole input has that line
pub pulled_bad : (names : List Spelled) (bytes : List ℕ) (left' : Option (List ℕ)) (input : List ℕ) (sets : List SignalSet) (n : ℕ) (kind : LineKind) → Some input ≡ ahead bytes left' → length bytes ≤ text_limit → input_lines (record { bytes = bytes; stop = failed }) names ≡ (sets, bad_line n kind) → input_lines (pulled_whole input) names ≡ (sets, bad_line n kind)
pulled_bad names bytes None input sets n kind e short bad = cc
pulled_bad names bytes (Some rest) input sets n kind e short bad =
    let same : input ≡ bytes ++ rest = cc in
    let stop' = (pulled_whole input).stop in
    let front : take (text_limit + 1) input ≡ bytes ++ take ((text_limit + 1) - length bytes) rest = ap (take (text_limit + 1)) same ∙ take_past bytes rest (text_limit + 1) (omega arith) in
    let b = whole_lines_first stop' bytes (take ((text_limit + 1) - length bytes) rest) in
    ap (λ z. sets_from names stop' 1 (raws_from stop' z)) front ∙ ap (sets_from names stop' 1) b.joined ∙ sets-bad names failed stop' 1 n kind (raws_from failed bytes) b.more sets bad
  where
    take_past : (xs ys : List ℕ) (m : ℕ) → length xs ≤ m → take m (xs ++ ys) ≡ xs ++ take (m - length xs) ys
    take_past xs ys m h = let e : m ≡ length xs + (m - length xs) = omega arith in ap (λ k. take k (xs ++ ys)) e ∙ take-append-add xs ys (m - length xs)
