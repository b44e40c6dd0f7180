-- The number of the bit or the word that the line at a place defines.
use Rattle.std.proofs.Common.{◌≡◌, ℕ, zero, suc, ◌+◌, ◌<◌, List, [], ◌∷◌, length, take, refl, ap, ◌∙◌, arith}
use Rattle.std.specs.Prelude.{slice_index_or}
use Rattle.eqn_core.specs.Dependence.{defined_item}
use Rattle.eqn_core.specs.Equations.{Line, all, any, within, digit, choose, Equations, registers, bits_of_line, words_of_line, bit_lines, word_lines}
use Rattle.eqn_completion.specs.Moving.{line_at}
use Rattle.eqn_completion.proofs.Plans.{item_at}
use Rattle.eqn_dd.specs.inner.Tables.{line_number, numbers_from}
use Rattle.eqn_dd.proofs.Drawing.{number_of}

pub numbers_sized : (b w : ℕ) (ls : List Line) → length (numbers_from b w ls) ≡ length ls
numbers_sized b w [] = refl
numbers_sized b w (l ∷ ls) = ap suc (numbers_sized (b + bits_of_line l) (w + words_of_line l) ls)

number_there : (b w : ℕ) (ls : List Line) (p d : ℕ) (l : Line) → p < length ls
    → slice_index_or (numbers_from b w ls) p d
    ≡ line_number (b + bit_lines (take p ls)) (w + word_lines (take p ls)) (slice_index_or ls p l)
number_there b w [] p d l inside = absurd (omega arith)
number_there b w (x ∷ ls) zero d l inside = same b w x
  where
    same : (b w : ℕ) (x : Line) → line_number b w x ≡ line_number (b + 0) (w + 0) x
    same b w x =
        let e : b ≡ b + 0 = omega arith in
        let f : w ≡ w + 0 = omega arith in
        ap (λ (k : ℕ). line_number k w x) e ∙ ap (λ (k : ℕ). line_number (b + 0) k x) f
number_there b w (x ∷ ls) (suc p) d l inside =
    let e : b + bits_of_line x + bit_lines (take p ls) ≡ b + (bits_of_line x + bit_lines (take p ls)) = omega arith in
    let f : w + words_of_line x + word_lines (take p ls) ≡ w + (words_of_line x + word_lines (take p ls)) =
    omega arith in
    number_there (b + bits_of_line x) (w + words_of_line x) ls p d l (omega arith)
    ∙ ap (λ (k : ℕ). line_number k (w + words_of_line x + word_lines (take p ls)) (slice_index_or ls p l)) e
    ∙ ap (λ (k : ℕ). line_number (b + (bits_of_line x + bit_lines (take p ls))) k (slice_index_or ls p l)) f

number_defined : (E : Equations) (before : List Line) (l : Line)
    → line_number (E.inputs + bit_lines before) (registers E + word_lines before) l
    ≡ number_of (defined_item E before l)
number_defined E before (all ls) = refl
number_defined E before (any ls) = refl
number_defined E before (within w lo hi) = refl
number_defined E before (digit w place) = refl
number_defined E before (choose cases other) = refl

pub number_at : (E : Equations) (own : List ℕ) (p d : ℕ) → own ≡ numbers_from E.inputs (registers E) E.lines
    → p < length E.lines → slice_index_or own p d ≡ number_of (item_at E p)
number_at E own p d is inside =
    ap (λ (ns : List ℕ). slice_index_or ns p d) is
    ∙ number_there E.inputs (registers E) E.lines p d (all []) inside
    ∙ number_defined E (take p E.lines) (line_at E p)
