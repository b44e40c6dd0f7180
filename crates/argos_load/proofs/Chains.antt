-- Stages over the files of aspects, one after the other.
use Rattle.std.proofs.Common.{List, [], ◌∷◌, ◌++◌, Some, String, ap, arith, drop, get_or, length, map, refl, subst, sym, take, ℕ, suc, ◌+◌, ◌∙◌, ◌≡◌, ◌<◌}
use Rattle.std.proofs.Math.Seq.{drop-cons, take-length, take-suc}
use Rattle.std.proofs.lemmas.List.{get_or-map, length-map, length-take-le, take-append-drop}
use Rattle.std.proofs.lemmas.Option.{get_or_from_slice_get, slice_get_read}
use Rattle.std.specs.Prelude.{slice_get, string_bytes}
use Rattle.std.specs.declared.alloc.Global.{Global}
use Rattle.argos_compile.specs.Weaving.{WovenProgram, plain}
use Rattle.argos_core.specs.Process.{PlainModule}
use Rattle.argos_load.specs.Programs.{ProgramOf}
use Rattle.argos_load.specs.Said.{Said}
use Rattle.argos_load.specs.Stages.{Stage, gives, says, Goes, ◌then◌}
use Rattle.argos_load.specs.WovenFiles.{AspectFile, WovenFrom, WovenOf}

-- what was given, and whether something was

abbrev given : {V : Type 0} → V → Stage V → V
given d (gives v) = v
given d (says s) = d

abbrev IsGiven : {V : Type 0} → Stage V → Type 0
IsGiven (gives v) = Unit {0}
IsGiven (says s) = ⊥

gives_once : {V : Type 0} (v w : V) → ◌≡◌ {A = Stage V} (gives v) (gives w) → v ≡ w
gives_once v w e = ap (given v) e

given_unsaid : {V : Type 0} (v : V) (s : Said) → ◌≡◌ {A = Stage V} (gives v) (says s) → ⊥
given_unsaid {V} v s e = subst (λ (t : Stage V). IsGiven t) e tt

-- a stage, and nothing after it
pub goes_alone : {V : Type 0} (r : Stage V) → Goes (λ (v : V) (t : Stage V). t ≡ gives v) r r
goes_alone (gives v) = refl
goes_alone (says s) = refl

-- what follows a stage may go on where something was given
goes_on : {A B C : Type 0} (f : A → Stage B → Type 0) (g : A → Stage C → Type 0) (b : B) (r : Stage C) (s : Stage A) → ((a : A) → f a (gives b) → g a r) → Goes f s (gives b) → Goes g s r
goes_on f g b r (gives a) step h = step a h
goes_on f g b r (says q) step h = absurd (given_unsaid b q h)

-- of three stages the first two or the last two may be taken together
pub then-assoc : {A B C : Type 0} (first : Stage A → Type 0) (next : A → Stage B → Type 0) (last : B → Stage C → Type 0) (r : Stage C) → ((first then next) then last) r → (first then λ a. next a then last) r
then-assoc {A} {B} {C} first next last r h = go h.1.0 h.0 h.1.1 h.1.2 h.2
  where
    go : (x : Stage A) (y : Stage B) → first x → Goes next x y → Goes last y r → (first then λ a. next a then last) r
    go (gives a) y f g l = (gives a, f, (y, g, l))
    go (says s) y f g l = (says s, f, subst (λ (t : Stage B). Goes last t r) g l)

module _ (files : List ℕ → List ℕ) where
  -- the files of some aspects, and then those of more
  woven_append : (names : List (List ℕ)) (k n : ℕ) (rest : List (List ℕ)) (x y : WovenProgram) (r : Stage WovenProgram) → n ≡ k + length names → WovenFrom files k names x (gives y) → WovenFrom files n rest y r → WovenFrom files k (names ++ rest) x r
  woven_append [] k n rest x y r e h g =
      let same : n ≡ k = omega (arith, e) in
      subst (λ (m : ℕ). WovenFrom files m rest x r) same (subst (λ (z : WovenProgram). WovenFrom files n rest z r) (gives_once y x h) g)
  woven_append (name ∷ names) k n rest x y r e h g =
      (h.0, h.1, goes_on (WovenFrom files (suc k) names) (WovenFrom files (suc k) (names ++ rest)) y r h.0 (λ z w. woven_append names (suc k) n rest z y r (omega (arith, e)) w g) h.2)

  woven_of_append : (file : List ℕ) (names : List (List ℕ)) (n : ℕ) (rest : List (List ℕ)) (y : WovenProgram) (r : Stage WovenProgram) → n ≡ length names + 2 → WovenOf files file names (gives y) → WovenFrom files n rest y r → WovenOf files file (names ++ rest) r
  woven_of_append file names n rest y r e h g =
      (h.0, h.1, goes_on (λ (p : PlainModule). WovenFrom files 2 names (plain p)) (λ (p : PlainModule). WovenFrom files 2 (names ++ rest) (plain p)) y r h.0 (λ p w. woven_append names 2 n rest (plain p) y r (omega (arith, e)) w g) h.2)

  -- the file behind the first i ones, which is file n of the call
  module _ (file : List ℕ) (names : List (List ℕ)) (i n : ℕ) (name : List ℕ) (y : WovenProgram) (below : i < length names) (at : slice_get names i ≡ Some name) (number : n ≡ i + 2) (before : WovenOf files file (take i names) (gives y)) where
    counted : n ≡ length (take i names) + 2
    counted = omega (arith, length-take-le i names (omega arith), number)

    -- with it come the first i + 1
    pub woven_more : (z : WovenProgram) → AspectFile n y (files name) (gives z) → WovenOf files file (take (i + 1) names) (gives z)
    woven_more z h =
        let next : i + 1 ≡ suc i = omega arith in
        let more : take (i + 1) names ≡ take i names ++ name ∷ [] = ap (λ (k : ℕ). take k names) next ∙ take-suc names i name below ∙ ap (λ (b : List ℕ). take i names ++ b ∷ []) (get_or_from_slice_get names i name name at) in
        subst (λ (l : List (List ℕ)). WovenOf files file l (gives z)) (sym more) (woven_of_append file (take i names) n (name ∷ []) y (gives z) counted before (gives z, h, refl))

    -- and where it says something, all files say it
    pub woven_says : (s : Said) → AspectFile n y (files name) (says s) → WovenOf files file names (says s)
    woven_says s h =
        let rest = drop (suc i) names in
        let all_names : take i names ++ name ∷ rest ≡ names = ap (λ (l : List (List ℕ)). take i names ++ l) (ap (λ (b : List ℕ). b ∷ rest) (sym (get_or_from_slice_get names i name name at)) ∙ sym (drop-cons names i name below)) ∙ take-append-drop i names in
        subst (λ (l : List (List ℕ)). WovenOf files file l (says s)) all_names (woven_of_append file (take i names) n (name ∷ rest) y (says s) counted before (says s, h, refl))

  -- without aspects, the program
  pub woven_none : (file : List ℕ) (names : List (List ℕ)) (p : PlainModule) → ProgramOf 1 (files file) (gives p) → WovenOf files file (take 0 names) (gives (plain p))
  woven_none file names p h = (gives p, h, refl)

  pub woven_all : (file : List ℕ) (names : List (List ℕ)) (i : ℕ) (r : Stage WovenProgram) → i ≡ length names → WovenOf files file (take i names) r → WovenOf files file names r
  woven_all file names i r e h = subst (λ (l : List (List ℕ)). WovenOf files file l r) (ap (λ (k : ℕ). take k names) e ∙ take-length names) h

-- the name of an aspect's file among the names of all
pub name_at : (aspects : List (String Global)) (i : ℕ) (v : String Global) (name : List ℕ) → i < length aspects → v ≡ get_or aspects i v → name ≡ string_bytes v → slice_get (map string_bytes aspects) i ≡ Some name
name_at aspects i v name below is same =
    let there : name ≡ get_or (map string_bytes aspects) i name = same ∙ ap string_bytes is ∙ sym (get_or-map string_bytes aspects i v name below) in
    slice_get_read (map string_bytes aspects) (length aspects) i name (sym (length-map aspects string_bytes)) below there
