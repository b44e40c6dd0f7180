-- What the joining lines say: at the join point the outputs and next words are the advised ones, else the ordinary ones.
use Rattle.std.specs.Prelude.{slice_index_or}
use Rattle.std.proofs.Common.{◌≡◌, ℕ, suc, List, [], ◌∷◌, ◌++◌, Bool, true, false, ◌&&◌, ◌||◌, not, if◌then◌else◌, refl, sym, ap, ◌∙◌, arith, length, map, append_assoc, length-append}
use Rattle.argos_base.specs.SignalSets.{SignalSet}
use Rattle.eqn_core.specs.Equations.{Choice, code, word}
use Rattle.eqn_core.specs.Solutions.{Values, bit_of, word_of, value_of}
use Rattle.weave_lines.specs.WovenLines.{output_lines, next_lines}
use Rattle.weave_lines.proofs.Places.{AreAt}
use Rattle.weave_lines.proofs.Reading.{from}

or-true : (a b : Bool) → a ≡ true → (a || b) ≡ true
or-true a b e = ap (λ (x : Bool). x || b) e

second-or : (a b : Bool) → a ≡ false → (a || (b || false)) ≡ b
second-or true b e = cc
second-or false true e = refl
second-or false false e = refl

not-and : (a b : Bool) → a ≡ true → (not a && b) ≡ false
not-and a b e = ap (λ (x : Bool). not x && b) e

second-and : (a b : Bool) → a ≡ false → (not a && (b && true)) ≡ b
second-and true b e = cc
second-and false true e = refl
second-and false false e = refl

pub advised-outputs : (s : Values) (join : ℕ) (outs : SignalSet) (bits : List ℕ) (b w : ℕ) → length outs ≡ length bits → bit_of s join ≡ true → AreAt s b w (output_lines join outs bits) → from (bit_of s) b (length bits) ≡ outs
advised-outputs s join [] [] b w e j a = refl
advised-outputs s join [] (k ∷ bits) b w e j a = absurd (omega arith)
advised-outputs s join (x ∷ outs) [] b w e j a = absurd (omega arith)
advised-outputs s join (true ∷ outs) (k ∷ bits) b w e j a = ap (λ (x : Bool). x ∷ from (bit_of s) (suc b) (length bits)) (a.0 ∙ or-true (bit_of s join) (bit_of s k || false) j) ∙ ap (λ (l : List Bool). true ∷ l) (advised-outputs s join outs bits (suc b) w (omega arith) j a.1)
advised-outputs s join (false ∷ outs) (k ∷ bits) b w e j a = ap (λ (x : Bool). x ∷ from (bit_of s) (suc b) (length bits)) (a.0 ∙ not-and (bit_of s join) (bit_of s k && true) j) ∙ ap (λ (l : List Bool). false ∷ l) (advised-outputs s join outs bits (suc b) w (omega arith) j a.1)

pub ordinary-outputs : (s : Values) (join : ℕ) (outs : SignalSet) (bits : List ℕ) (b w : ℕ) → length outs ≡ length bits → bit_of s join ≡ false → AreAt s b w (output_lines join outs bits) → from (bit_of s) b (length bits) ≡ map (bit_of s) bits
ordinary-outputs s join [] [] b w e j a = refl
ordinary-outputs s join [] (k ∷ bits) b w e j a = absurd (omega arith)
ordinary-outputs s join (x ∷ outs) [] b w e j a = absurd (omega arith)
ordinary-outputs s join (true ∷ outs) (k ∷ bits) b w e j a = ap (λ (x : Bool). x ∷ from (bit_of s) (suc b) (length bits)) (a.0 ∙ second-or (bit_of s join) (bit_of s k) j) ∙ ap (λ (l : List Bool). bit_of s k ∷ l) (ordinary-outputs s join outs bits (suc b) w (omega arith) j a.1)
ordinary-outputs s join (false ∷ outs) (k ∷ bits) b w e j a = ap (λ (x : Bool). x ∷ from (bit_of s) (suc b) (length bits)) (a.0 ∙ second-and (bit_of s join) (bit_of s k) j) ∙ ap (λ (l : List Bool). bit_of s k ∷ l) (ordinary-outputs s join outs bits (suc b) w (omega arith) j a.1)

pub advised-words : (s : Values) (join : ℕ) (choices : List Choice) (words : List ℕ) (b w : ℕ) → length choices ≡ length words → bit_of s join ≡ true → AreAt s b w (next_lines join choices words) → from (word_of s) w (length words) ≡ map (value_of s) choices
advised-words s join [] [] b w e j a = refl
advised-words s join [] (k ∷ words) b w e j a = absurd (omega arith)
advised-words s join (c ∷ choices) [] b w e j a = absurd (omega arith)
advised-words s join (c ∷ choices) (k ∷ words) b w e j a =
    ap (λ (x : ℕ). x ∷ from (word_of s) (suc w) (length words)) (a.0 ∙ ap (λ (x : Bool). if x then value_of s c else word_of s k) j) ∙ ap (λ (l : List ℕ). value_of s c ∷ l) (advised-words s join choices words b (suc w) (omega arith) j a.1)

pub ordinary-words : (s : Values) (join : ℕ) (choices : List Choice) (words : List ℕ) (b w : ℕ) → length choices ≡ length words → bit_of s join ≡ false → AreAt s b w (next_lines join choices words) → from (word_of s) w (length words) ≡ map (word_of s) words
ordinary-words s join [] [] b w e j a = refl
ordinary-words s join [] (k ∷ words) b w e j a = absurd (omega arith)
ordinary-words s join (c ∷ choices) [] b w e j a = absurd (omega arith)
ordinary-words s join (c ∷ choices) (k ∷ words) b w e j a =
    ap (λ (x : ℕ). x ∷ from (word_of s) (suc w) (length words)) (a.0 ∙ ap (λ (x : Bool). if x then value_of s c else word_of s k) j) ∙ ap (λ (l : List ℕ). word_of s k ∷ l) (ordinary-words s join choices words b (suc w) (omega arith) j a.1)

-- a stretch of a list, read one after another
at-end : {X : Type 0} (pre : List X) (x d : X) (rest : List X) → slice_index_or (pre ++ x ∷ rest) (length pre) d ≡ x
at-end [] x d rest = refl
at-end (y ∷ pre) x d rest = at-end pre x d rest

pub from-stretch : {X : Type 0} (l pre xs rest : List X) (d : X) → l ≡ pre ++ (xs ++ rest) → from (λ k. slice_index_or l k d) (length pre) (length xs) ≡ xs
from-stretch {X = X} l pre [] rest d e = refl
from-stretch {X = X} l pre (x ∷ xs) rest d e =
    let more : length (pre ++ x ∷ []) ≡ suc (length pre) = length-append pre (x ∷ []) ∙ omega arith in
    ap (λ y. y ∷ from (λ k. slice_index_or l k d) (suc (length pre)) (length xs)) (ap (λ (z : List X). slice_index_or z (length pre) d) e ∙ at-end pre x d (xs ++ rest))
    ∙ ap (λ z. x ∷ z) (ap (λ (k : ℕ). from (λ k. slice_index_or l k d) k (length xs)) (sym more) ∙ from-stretch l (pre ++ x ∷ []) xs rest d (e ∙ sym (append_assoc pre (x ∷ []) (xs ++ rest))))

pub map-append : {X Y : Type 0} (f : X → Y) (xs ys : List X) → map f (xs ++ ys) ≡ map f xs ++ map f ys
map-append f [] ys = refl
map-append f (x ∷ xs) ys = ap (λ l. f x ∷ l) (map-append f xs ys)

pub values-codes : (s : Values) (ns : List ℕ) → map (value_of s) (map code ns) ≡ ns
values-codes s [] = refl
values-codes s (n ∷ ns) = ap (λ (l : List ℕ). n ∷ l) (values-codes s ns)

pub values-words : (s : Values) (ks : List ℕ) → map (value_of s) (map word ks) ≡ map (word_of s) ks
values-words s [] = refl
values-words s (k ∷ ks) = ap (λ (l : List ℕ). word_of s k ∷ l) (values-words s ks)
