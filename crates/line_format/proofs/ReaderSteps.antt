-- What a reader knows behind each line, by a reading of one line that is exact.
use Rattle.std.proofs.Common.{◌≡◌, ℕ, ◌+◌, List, [], ◌∷◌, ◌++◌, Bool, true, false, ◌&&◌, IsTrue, Option, Some, None, refl, sym, ap, ◌∙◌}
use Rattle.std.specs.List.{list_all}
use Rattle.std.proofs.lemmas.List.Folds.{list_all-append}
use Rattle.line_format.specs.Lines.{Format, IsLine, is_inner, IsCut, IsClear, IsAt, IsFile, IsFault, lines_then, not_due, wrong_line, too_much}
use Rattle.line_format.proofs.LineLaws.{same_line}
use Rattle.line_format.proofs.Answering.{IsExact, reading_steps}

-- the line says c, which is due and right
pub line_right : {S C K : Type 0} (F : Format S C K) (read : S → List ℕ → Option C) → IsExact F read → (whole : List ℕ) (number : ℕ) (s : S) (rest line more : List ℕ) (c : C)
    → IsAt F whole number s rest → IsCut 10 rest line more → read s line ≡ Some c → F.wrong s c ≡ None → IsAt F whole (number + 1) (F.after s c) more
line_right F read exact whole number s rest line more c at cut said right =
    let p = exact.is_said s line c said in
    (reading_steps F).goes_on whole number s rest c more at p.0 right (cut.text ∙ ap (λ z. z ++ 10 ∷ more) p.1)

-- the line says c, which is due and wrong
pub line_wrong : {S C K : Type 0} (F : Format S C K) (read : S → List ℕ → Option C) → IsExact F read → (whole : List ℕ) (number : ℕ) (s : S) (rest line more : List ℕ) (c : C) (k : K)
    → IsAt F whole number s rest → IsCut 10 rest line more → read s line ≡ Some c → F.wrong s c ≡ Some k → IsFault F whole number k
line_wrong F read exact whole number s rest line more c k at cut said wrong =
    let p = exact.is_said s line c said in
    (reading_steps F).fails whole number s rest k at (wrong_line c more p.0 (cut.text ∙ ap (λ z. z ++ 10 ∷ more) p.1) wrong)

-- the line says nothing that is due
pub line_misspelled : {S C K : Type 0} (F : Format S C K) (read : S → List ℕ → Option C) → IsClear F → IsExact F read → (whole : List ℕ) (number : ℕ) (s : S) (rest line more : List ℕ)
    → IsAt F whole number s rest → IsCut 10 rest line more → F.is_end s ≡ false → read s line ≡ None → IsFault F whole number F.misspelled
line_misspelled {S} {C} {K} F read clear exact whole number s rest line more at cut ongoing none =
    (reading_steps F).fails whole number s rest F.misspelled at
    (not_due ongoing (λ c more' due e. no_reading c due (same_line line (F.spelled c) more more' cut.before (clear.inner s c due) (sym cut.text ∙ e)).0) refl)
  where
    no_reading : (c : C) → IsTrue (F.is_due s c) → line ≡ F.spelled c → ⊥
    no_reading c due same = let no : Some c ≡ None = sym (exact.said s c due) ∙ ap (read s) (sym same) ∙ none in cc no

and_false : (b : Bool) → (b && false) ≡ false
and_false true = refl
and_false false = refl

has_line_end : (rest line more : List ℕ) → IsLine rest → rest ≡ line ++ 10 ∷ more → ⊥
has_line_end rest line more h e = let no : true ≡ false = sym h ∙ ap (list_all is_inner) e ∙ list_all-append is_inner line (10 ∷ more) ∙ and_false (list_all is_inner line) in cc no

-- no LF is left
pub line_missing : {S C K : Type 0} (F : Format S C K) (whole : List ℕ) (number : ℕ) (s : S) (rest : List ℕ) → IsAt F whole number s rest → IsLine rest → F.is_end s ≡ false → IsFault F whole number F.misspelled
line_missing F whole number s rest at inner ongoing =
    (reading_steps F).fails whole number s rest F.misspelled at (not_due ongoing (λ c more due e. has_line_end rest (F.spelled c) more inner e) refl)

-- nothing is due, and nothing is left
pub at_the_end : {S C K : Type 0} (F : Format S C K) (whole : List ℕ) (number : ℕ) (s : S) (rest : List ℕ) → IsAt F whole number s rest → IsTrue (F.is_end s) → rest ≡ [] → IsFile F whole s
at_the_end F whole number s rest at end e = record { lines = at.lines; text = at.text ∙ ap (λ z. lines_then F at.lines z) e; leads = at.leads; whole = end }

-- nothing is due, and something is left
pub behind_the_end : {S C K : Type 0} (F : Format S C K) (whole : List ℕ) (number : ℕ) (s : S) (rest : List ℕ) → IsAt F whole number s rest → IsTrue (F.is_end s) → (rest ≡ [] → ⊥) → IsFault F whole number F.trailing
behind_the_end F whole number s rest at end some = (reading_steps F).fails whole number s rest F.trailing at (too_much end some refl)
