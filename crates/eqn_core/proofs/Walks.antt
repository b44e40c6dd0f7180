-- Walks along the lists of a system, whose parts are seen as plain data.
use Rattle.std.proofs.Common.{◌≡◌, ℕ, suc, Fits, w16, ◌+◌, ◌<◌, ◌≤◌, List, [], ◌∷◌, ◌++◌, Bool, ◌||◌, IsTrue, map, length, get_or, set, take, drop, refl, sym, ap, ◌∙◌, append_assoc, arith}
use Rattle.std.specs.Prelude.{All, nat_lt}
use Rattle.std.specs.List.{list_all, list_any, AllPass}
use Rattle.std.proofs.lemmas.Grind.{common_steps}
use Rattle.std.proofs.lemmas.Bool.Decides.{nat_tests}
use Rattle.std.proofs.lemmas.List.{length-map, drop_more, set_at, take_more, length-take-le}
use Rattle.std.proofs.lemmas.List.Folds.{list_all-map}
use Rattle.std.proofs.lemmas.List.Sums.{AllPass-from_list_all}
use Rattle.argos_base.proofs.Bools.{and_both}
use Rattle.eqn_core.specs.Equations.{all, any, within, digit, choose, bits_of_line, words_of_line, bit_lines, word_lines}
use Rattle.eqn_core.specs.Equations as plain
use Rattle.eqn_core.specs.declared.system.Lit.{Lit}
use Rattle.eqn_core.specs.Ordered.{literal_below, all_below}
use Rattle.eqn_core.specs.Views.{literal_of}

-- one more place is written, behind those that are
pub write_next : {X : Type 0} (front ys : List X) (n : ℕ) (y : X) → length front ≡ n → n < length ys → set (front ++ drop n ys) n y ≡ (front ++ y ∷ []) ++ drop (n + 1) ys
write_next front ys n y e l =
    ap (λ zs. set (front ++ zs) n y) (drop_more ys n y l) ∙ set_at front (get_or ys n y) (drop (n + 1) ys) y n e ∙ sym (append_assoc front (y ∷ []) (drop (n + 1) ys))

-- where the first k places hold those of zs, and the k-th is written, the first k + 1 do
pub write_more : {X : Type 0} (zs ys : List X) (k : ℕ) (y d : X) → k < length zs → length zs ≤ length ys → y ≡ get_or zs k d → set (take k zs ++ drop k ys) k y ≡ take (k + 1) zs ++ drop (k + 1) ys
write_more zs ys k y d l m e =
    write_next (take k zs) ys k y (length-take-le k zs (omega arith)) (omega arith)
    ∙ ap (λ x. (take k zs ++ x ∷ []) ++ drop (k + 1) ys) e ∙ ap (λ front. front ++ drop (k + 1) ys) (sym (take_more zs k d l))

pub list_any-map : {X Y : Type 0} (p : Y → Bool) (f : X → Y) (xs : List X) → list_any p (map f xs) ≡ list_any (λ x. p (f x)) xs
list_any-map p f [] = refl
list_any-map p f (x ∷ xs) = ap (λ (b : Bool). p (f x) || b) (list_any-map p f xs)

-- literals that pass the test read bits below n
pub All-literals : (n : ℕ) (ls : List Lit) → IsTrue (list_all (literal_below n) (map literal_of ls)) → All (λ l. l.bit < n) ls
All-literals n ls h = λ k d l.
    let passes : AllPass (λ z. literal_below n (literal_of z)) ls = AllPass-from_list_all (λ z. literal_below n (literal_of z)) ls (sym (list_all-map (literal_below n) literal_of ls) ∙ h) in
    let here : IsTrue (nat_lt (get_or ls k d).bit n) = passes k d l in
    grind (arith, nat_tests)

-- a line defines one bit or one word
one_each : (l : plain.Line) → bits_of_line l + words_of_line l ≡ 1
one_each (all ls) = refl
one_each (any ls) = refl
one_each (within w lo hi) = refl
one_each (digit w place) = refl
one_each (choose cases other) = refl

pub bit_and_word_lines : (lines : List plain.Line) → bit_lines lines + word_lines lines ≡ length lines
bit_and_word_lines [] = refl
bit_and_word_lines (l ∷ lines) = omega (arith, one_each l, bit_and_word_lines lines)

-- numbers of 16 bits are below 2^16
pub all_below-from_fits : (xs : List ℕ) → ((i : ℕ) → Fits w16 (get_or xs i 0)) → IsTrue (all_below 65536 xs)
all_below-from_fits [] h = refl
all_below-from_fits (x ∷ xs) h = let first : Fits w16 x = h 0 in and_both _ _ (grind (arith, nat_tests)) (all_below-from_fits xs (λ i. h (suc i)))

pub ruleset walks = (common_steps, list_all-map, list_any-map, length-map, All-literals, bit_and_word_lines)
