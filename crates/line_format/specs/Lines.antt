-- Files that are read line by line: which lines are due after the lines so far. Source: this project.
use Rattle.std.specs.Prelude.{◌≡◌, ℕ, ◌+◌, List, [], ◌∷◌, ◌++◌, length, Option, Some, None, Bool, false, not, nat_eq, IsTrue}
use Rattle.std.specs.List.{list_all}

-- what is due (S), what a line says (C), what can be wrong (K)
pub record Format (S C K : Type 0) : Type 0 where
  pub start : S
  -- nothing more is due
  pub is_end : S → Bool
  -- a line that says this is due
  pub is_due : S → C → Bool
  -- its bytes, without the LF
  pub spelled : C → List ℕ
  -- what is wrong though it is so spelt
  pub wrong : S → C → Option K
  pub after : S → C → S
  -- the kind of what isn't a due line, and of what stands behind the end
  pub misspelled : K
  pub trailing : K

-- the byte is nowhere in these
abbrev pub lacks : ℕ → List ℕ → Bool
lacks at = list_all (λ b. not (nat_eq b at))

-- the part before the first of this byte, and the rest behind it
pub record IsCut (at : ℕ) (bs part rest : List ℕ) : Type 0 where
  pub before : IsTrue (lacks at part)
  pub text : bs ≡ part ++ at ∷ rest

-- the bytes of one line have no LF
abbrev pub is_inner : ℕ → Bool
is_inner b = not (nat_eq b 10)

abbrev pub IsLine : List ℕ → Type 0
IsLine bs = IsTrue (list_all is_inner bs)

-- the lines, each with its LF, and then these bytes
abbrev pub lines_then : {S C K : Type 0} → Format S C K → List C → List ℕ → List ℕ
lines_then F [] rest = rest
lines_then F (c ∷ lines) rest = F.spelled c ++ 10 ∷ lines_then F lines rest

-- each of the lines is due and right, one after the other
abbrev pub Leads : {S C K : Type 0} → Format S C K → S → List C → S → Type 0
Leads F s [] t = t ≡ s
Leads F s (c ∷ lines) t = IsTrue (F.is_due s c) × (F.wrong s c ≡ None) × Leads F (F.after s c) lines t

-- the bytes are whole lines that lead from the start to t, where nothing more is due
pub record IsFile {S C K : Type 0} (F : Format S C K) (bs : List ℕ) (t : S) : Type 0 where
  pub lines : List C
  pub text : bs ≡ lines_then F lines []
  pub leads : Leads F F.start lines t
  pub whole : IsTrue (F.is_end t)

-- no due line stands in front of the bytes
abbrev pub NoneDue : {S C K : Type 0} → Format S C K → S → List ℕ → Type 0
NoneDue {S} {C} {K} F s rest = (c : C) (more : List ℕ) → IsTrue (F.is_due s c) → rest ≡ F.spelled c ++ 10 ∷ more → ⊥

-- what is wrong in front of the bytes: no due line stands there, or one that is wrong, or something stands behind the end
pub data IsWrong {S C K : Type 0} (F : Format S C K) (s : S) (rest : List ℕ) (k : K) : Type 0 where
  not_due : F.is_end s ≡ false → NoneDue F s rest → k ≡ F.misspelled → IsWrong F s rest k
  wrong_line : (c : C) (more : List ℕ) → IsTrue (F.is_due s c) → rest ≡ F.spelled c ++ 10 ∷ more → F.wrong s c ≡ Some k → IsWrong F s rest k
  too_much : IsTrue (F.is_end s) → (rest ≡ [] → ⊥) → k ≡ F.trailing → IsWrong F s rest k

-- the first bad line has this number, from 1, and is wrong in this way
pub record IsFault {S C K : Type 0} (F : Format S C K) (bs : List ℕ) (number : ℕ) (k : K) : Type 0 where
  pub lines : List C
  pub here : S
  pub rest : List ℕ
  pub text : bs ≡ lines_then F lines rest
  pub leads : Leads F F.start lines here
  pub wrong : IsWrong F here rest k
  pub number_is : number ≡ length lines + 1

-- a file, or its first bad line
pub data FileOrFault {S C K : Type 0} (F : Format S C K) (bs : List ℕ) : Type 0 where
  file : (t : S) → IsFile F bs t → FileOrFault F bs
  fault : (number : ℕ) (k : K) → IsFault F bs number k → FileOrFault F bs

-- what the bytes of one line can say at s
pub data Says {S C K : Type 0} (F : Format S C K) (s : S) (l : List ℕ) : Type 0 where
  says : (c : C) → IsTrue (F.is_due s c) → l ≡ F.spelled c → Says F s l
  says_nothing : ((c : C) → IsTrue (F.is_due s c) → l ≡ F.spelled c → ⊥) → Says F s l

-- due lines have no LF, their bytes tell what they say, it can be found, and none is due at the end
pub record IsClear {S C K : Type 0} (F : Format S C K) : Type 0 where
  pub inner : (s : S) (c : C) → IsTrue (F.is_due s c) → IsLine (F.spelled c)
  pub one : (s : S) (c d : C) → IsTrue (F.is_due s c) → IsTrue (F.is_due s d) → F.spelled c ≡ F.spelled d → c ≡ d
  pub found : (s : S) (l : List ℕ) → Says F s l
  pub ends : (s : S) (c : C) → IsTrue (F.is_end s) → IsTrue (F.is_due s c) → ⊥

-- what holds of a format whose due lines are clear
pub record HasLineLaws {S C K : Type 0} (F : Format S C K) : Type 0 where
  -- a file says one thing
  pub one_reading : (bs : List ℕ) (t u : S) → IsFile F bs t → IsFile F bs u → t ≡ u
  -- no file begins another
  pub no_beginning : (bs more : List ℕ) (t u : S) → IsFile F bs t → IsFile F (bs ++ more) u → more ≡ []
  -- a file has no bad line
  pub no_fault : (bs : List ℕ) (t : S) (number : ℕ) (k : K) → IsFile F bs t → IsFault F bs number k → ⊥
  -- all other bytes have one
  pub some_fault : (bs : List ℕ) → FileOrFault F bs
  -- and just one
  pub one_fault : (bs : List ℕ) (number number' : ℕ) (k k' : K) → IsFault F bs number k → IsFault F bs number' k' → (number ≡ number') × (k ≡ k')

-- A reader that has read whole lines and stands before the line of this number: s is due, and rest is left of the whole.
pub record IsAt {S C K : Type 0} (F : Format S C K) (whole : List ℕ) (number : ℕ) (s : S) (rest : List ℕ) : Type 0 where
  pub lines : List C
  pub text : whole ≡ lines_then F lines rest
  pub leads : Leads F F.start lines s
  pub number_is : number ≡ length lines + 1

-- how a reader goes on, and how it ends
pub record HasReadingSteps {S C K : Type 0} (F : Format S C K) : Type 0 where
  pub begins : (whole : List ℕ) → IsAt F whole 1 F.start whole
  pub goes_on : (whole : List ℕ) (number : ℕ) (s : S) (rest : List ℕ) (c : C) (more : List ℕ) → IsAt F whole number s rest → IsTrue (F.is_due s c) → F.wrong s c ≡ None → rest ≡ F.spelled c ++ 10 ∷ more → IsAt F whole (number + 1) (F.after s c) more
  pub fails : (whole : List ℕ) (number : ℕ) (s : S) (rest : List ℕ) (k : K) → IsAt F whole number s rest → IsWrong F s rest k → IsFault F whole number k
  pub ends : (whole : List ℕ) (number : ℕ) (s : S) → IsAt F whole number s [] → IsTrue (F.is_end s) → IsFile F whole s
