-- One line is moved.
use Rattle.std.proofs.Common.{◌≡◌, ℕ, suc, zero, ◌+◌, ◌<◌, ◌≤◌, List, [], ◌∷◌, ◌++◌, Bool, true, false, ◌&&◌, not, cond, length, take, drop, map, get_or, ap, sym, ◌∙◌, refl, arith, subst}
use Rattle.std.proofs.lemmas.Grind.{common_steps}
use Rattle.std.proofs.lemmas.List.{take-append-drop, drop_more, get_or-map}
use Rattle.argos_base.specs.SignalSets.{has, lists}
use Rattle.eqn_core.specs.Equations.{Line, all, any, within, digit, choose, Equations, registers, bits_of_line, words_of_line, bit_lines, word_lines, bit_count, word_count}
use Rattle.eqn_completion.specs.Moving as moving
use Rattle.eqn_completion.specs.Moving.{Tables, line_at, bit_at, word_at, moved_line, moved_lines, tables_after, with_entry}
use Rattle.eqn_core.specs.Orderable.{IsOrderable}
use Rattle.eqn_core.specs.Ordered.{line_below}
use Rattle.eqn_core.specs.Views.{line_of}
use Rattle.eqn_core.specs.declared.system.Line as code
use Rattle.eqn_completion.proofs.Plans.{defines-at}
use Rattle.eqn_completion.proofs.Counting.{bits-append, words-append}
use Rattle.eqn_sort.specs.inner.Own.{defines_word, own_number, own_numbers, with_number}

-- the number of what the line at a place defines
pub number-at : (b w : ℕ) (ls : List Line) (p d : ℕ) (l : Line) → p < length ls → get_or (own_numbers b w ls) p d ≡ own_number (b + bit_lines (take p ls)) (w + word_lines (take p ls)) (get_or ls p l)
number-at b w [] p d l h = absurd (omega arith)
number-at b w (x ∷ ls) zero d l h = same b w x
  where
    same : (b w : ℕ) (x : Line) → own_number b w x ≡ own_number (b + 0) (w + 0) x
    same b w x = let e : b ≡ b + 0 = omega arith in let f : w ≡ w + 0 = omega arith in ap (λ (k : ℕ). own_number k w x) e ∙ ap (λ (k : ℕ). own_number (b + 0) k x) f
number-at b w (x ∷ ls) (suc p) d l h =
    let e : b + bits_of_line x + bit_lines (take p ls) ≡ b + (bits_of_line x + bit_lines (take p ls)) = omega arith in
    let f : w + words_of_line x + word_lines (take p ls) ≡ w + (words_of_line x + word_lines (take p ls)) = omega arith in
    number-at (b + bits_of_line x) (w + words_of_line x) ls p d l (omega arith)
    ∙ ap (λ (k : ℕ). own_number k (w + words_of_line x + word_lines (take p ls)) (get_or ls p l)) e
    ∙ ap (λ (k : ℕ). own_number (b + (bits_of_line x + bit_lines (take p ls))) k (get_or ls p l)) f

-- it is below the count of its kind
number-below : (E : Equations) (p : ℕ) → p < length E.lines → own_number (bit_at E p) (word_at E p) (line_at E p) < cond (defines_word (line_at E p)) (word_count E) (bit_count E)
number-below E p h = of_line (line_at E p) bits words
  where
    whole : E.lines ≡ take p E.lines ++ line_at E p ∷ drop (p + 1) E.lines
    whole = sym (take-append-drop p E.lines) ∙ ap (λ (l : List Line). take p E.lines ++ l) (drop_more E.lines p (all []) h)

    bits : bit_at E p + bits_of_line (line_at E p) ≤ bit_count E
    bits = omega (arith, ap bit_lines whole, bits-append (take p E.lines) (line_at E p ∷ drop (p + 1) E.lines))

    words : word_at E p + words_of_line (line_at E p) ≤ word_count E
    words = omega (arith, ap word_lines whole, words-append (take p E.lines) (line_at E p ∷ drop (p + 1) E.lines))

    of_line : (l : Line) → bit_at E p + bits_of_line l ≤ bit_count E → word_at E p + words_of_line l ≤ word_count E → own_number (bit_at E p) (word_at E p) l < cond (defines_word l) (word_count E) (bit_count E)
    of_line (all ls) b w = omega arith
    of_line (any ls) b w = omega arith
    of_line (within k lo hi) b w = omega arith
    of_line (digit k place) b w = omega arith
    of_line (choose cases other) b w = omega arith

-- entering a line by its place, and by its number
entry-is : (E : Equations) (p : ℕ) (l : Line) (t : Tables) → with_number (own_number (bit_at E p) (word_at E p) l) l t ≡ with_entry E p l t
entry-is E p (all ls) t = refl
entry-is E p (any ls) t = refl
entry-is E p (within k lo hi) t = refl
entry-is E p (digit k place) t = refl
entry-is E p (choose cases other) t = refl

given-is : (E : Equations) (cyclic : List ℕ) (p : ℕ) (l : Line) (set : List Bool) → ((k : ℕ) → has set k ≡ lists cyclic k) → moving.is_given E cyclic p l ≡ (not (defines_word l) && has set (own_number (bit_at E p) (word_at E p) l))
given-is E cyclic p (all ls) set h = sym (h (bit_at E p))
given-is E cyclic p (any ls) set h = sym (h (bit_at E p))
given-is E cyclic p (within k lo hi) set h = sym (h (bit_at E p))
given-is E cyclic p (digit k place) set h = sym (h (bit_at E p))
given-is E cyclic p (choose cases other) set h = refl

module _ (E : Equations) (p n : ℕ) (set : List Bool) (own : n ≡ own_number (bit_at E p) (word_at E p) (line_at E p)) where
  given : (cyclic : List ℕ) → ((k : ℕ) → has set k ≡ lists cyclic k) → moving.is_given E cyclic p (line_at E p) ≡ (not (defines_word (line_at E p)) && has set n)
  given cyclic h = given-is E cyclic p (line_at E p) set h ∙ ap (λ (k : ℕ). not (defines_word (line_at E p)) && has set k) (sym own)

  -- a line of a given bit is passed
  pub skip-lines : (not (defines_word (line_at E p)) && has set n) ≡ true → (cyclic later : List ℕ) (t : Tables) → ((k : ℕ) → has set k ≡ lists cyclic k) → moved_lines E cyclic later t ≡ moved_lines E cyclic (p ∷ later) t
  skip-lines is cyclic later t h = let g = given cyclic h ∙ is in rw g refl

  pub skip-tables : (not (defines_word (line_at E p)) && has set n) ≡ true → (cyclic later : List ℕ) (t : Tables) → ((k : ℕ) → has set k ≡ lists cyclic k) → tables_after E cyclic later t ≡ tables_after E cyclic (p ∷ later) t
  skip-tables is cyclic later t h = let g = given cyclic h ∙ is in rw g refl

  -- any other is moved
  pub take-lines : (not (defines_word (line_at E p)) && has set n) ≡ false → (cyclic later : List ℕ) (t : Tables) → ((k : ℕ) → has set k ≡ lists cyclic k) → moved_line t.bits t.words (line_at E p) ∷ moved_lines E cyclic later (with_number n (line_at E p) t) ≡ moved_lines E cyclic (p ∷ later) t
  take-lines is cyclic later t h =
      let g = given cyclic h ∙ is in
      let e : with_number n (line_at E p) t ≡ with_entry E p (line_at E p) t = ap (λ (k : ℕ). with_number k (line_at E p) t) own ∙ entry-is E p (line_at E p) t in
      rw g (ap (λ (u : Tables). moved_line t.bits t.words (line_at E p) ∷ moved_lines E cyclic later u) e)

  pub take-tables : (not (defines_word (line_at E p)) && has set n) ≡ false → (cyclic later : List ℕ) (t : Tables) → ((k : ℕ) → has set k ≡ lists cyclic k) → tables_after E cyclic later (with_number n (line_at E p) t) ≡ tables_after E cyclic (p ∷ later) t
  take-tables is cyclic later t h =
      let g = given cyclic h ∙ is in
      let e : with_number n (line_at E p) t ≡ with_entry E p (line_at E p) t = ap (λ (k : ℕ). with_number k (line_at E p) t) own ∙ entry-is E p (line_at E p) t in
      rw g (ap (λ (u : Tables). tables_after E cyclic later u) e)

-- what is read at a place
pub own-sized : (b w : ℕ) (ls : List Line) → length (own_numbers b w ls) ≡ length ls
own-sized b w [] = refl
own-sized b w (l ∷ ls) = ap suc (own-sized (b + bits_of_line l) (w + words_of_line l) ls)

pub own-read : (E : Equations) (numbers : List ℕ) (p : ℕ) → numbers ≡ own_numbers E.inputs (registers E) E.lines → p < length E.lines → get_or numbers p 0 ≡ own_number (bit_at E p) (word_at E p) (line_at E p)
own-read E numbers p e h = ap (λ (ns : List ℕ). get_or ns p 0) e ∙ number-at E.inputs (registers E) E.lines p 0 (all []) h

pub line-read : (ls : List code.Line) (p : ℕ) (d : code.Line) → p < length ls → d ≡ get_or ls p d → line_of d ≡ get_or (map line_of ls) p (all [])
line-read ls p d h e = ap line_of e ∙ sym (get_or-map line_of ls p d (all []) h)

pub number-inside : (E : Equations) (p n : ℕ) (l : Line) → p < length E.lines → n ≡ own_number (bit_at E p) (word_at E p) (line_at E p) → l ≡ line_at E p → n < cond (defines_word l) (word_count E) (bit_count E)
number-inside E p n l h e f = subst (λ (k : ℕ). k < cond (defines_word l) (word_count E) (bit_count E)) (sym e) (subst (λ (x : Line). own_number (bit_at E p) (word_at E p) (line_at E p) < cond (defines_word x) (word_count E) (bit_count E)) (sym f) (number-below E p h))

pub line-inside : (E : Equations) (p : ℕ) → IsOrderable E → p < length E.lines → line_below (bit_count E) (word_count E) (line_at E p) ≡ true
line-inside E p o h = let d = defines-at E p h in o.each d.before (line_at E p) d.after d.stands

pub given_test : (x : Bool) (l m : Line) (b : Bool) → (not (defines_word l) && b) ≡ x → l ≡ m → (not (defines_word m) && b) ≡ x
given_test x l m b h e = ap (λ (k : Line). not (defines_word k) && b) (sym e) ∙ h

pub below_there : (b w b' w' : ℕ) (l m : Line) → line_below b w m ≡ true → b' ≡ b → w' ≡ w → l ≡ m → line_below b' w' l ≡ true
below_there b w b' w' l m h e f g = ap (λ (k : ℕ). line_below k w' l) e ∙ ap (λ (k : ℕ). line_below b k l) f ∙ ap (line_below b w) g ∙ h

pub ruleset steps = common_steps
