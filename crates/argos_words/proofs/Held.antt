-- What clap's walk holds while it reads, by the plain words and options so far.
use Rattle.std.proofs.Common.{◌≡◌, ◌≤◌, List, [], ◌∷◌, ◌++◌, Bool, true, false, ◌&&◌, cond, length, is_some, refl, sym, ap, ◌∙◌, codes, append-nil, arith}
use Rattle.std.specs.Prelude.{bytes_eq}
use Rattle.std.proofs.lemmas.Slice.Eq.{bytes_eq-Decides}
use Rattle.argos_base.specs.Spelling.{is_one_of}
use Rattle.argos_words.specs.Words.{Words, Given, values_of}
use Rattle.argos_words.specs.Simple.{Shows, IsOnceEach, listed}
use Rattle.argos_words.proofs.Rules.{plain_built, option_built}
use Rattle.argos_words.proofs.Rows.{row_if_values, shows_nothing, shows_plain, shows_option, values_push}
use Rattle.clap.specs.Walk.{Row, Text, used, has_row}
use Rattle.clap.specs.Kinds.{Kinds, or_else}
use Rattle.clap.specs.Faults.{repeat_fault}
use Rattle.clap.specs.declared.error.kind.ErrorKind.TheVariants.{ArgumentConflict}

-- faults of which there is none
pub first_none : (a b : Kinds) → or_else a b ≡ [] → a ≡ []
first_none [] b h = refl
first_none (k ∷ ks) b h = h

pub second_none : (a b : Kinds) → or_else a b ≡ [] → b ≡ []
second_none [] b h = h
second_none (k ∷ ks) b h = cc

pub both_none : (a b : Kinds) → a ≡ [] → b ≡ [] → or_else a b ≡ []
both_none a b h k = ap (λ x. or_else x b) h ∙ k

-- an option that isn't repeated
pub not_repeated : (n : Text) (rows : List Row) → repeat_fault false n rows ≡ [] → has_row n rows ≡ false
not_repeated n rows h = go (has_row n rows) refl h
  where
    go : (b : Bool) → has_row n rows ≡ b → cond (b && true) (ArgumentConflict ∷ []) [] ≡ [] → b ≡ false
    go true e k = cc
    go false e k = refl

pub no_repeat_fault : (n : Text) (rows : List Row) → has_row n rows ≡ false → or_else (repeat_fault false n rows) [] ≡ []
no_repeat_fault n rows h = ap (λ b. or_else (cond (b && true) (ArgumentConflict ∷ []) []) []) h

-- a name of an option isn't the id of the plain words
pub not_words : (names : Words) (n : Text) → is_one_of names (codes "words") ≡ false → is_one_of names n ≡ true → bytes_eq n (codes "words") ≡ false
not_words names n outside known = go (bytes_eq n (codes "words")) refl
  where
    go : (b : Bool) → bytes_eq n (codes "words") ≡ b → b ≡ false
    go true e = let bad : false ≡ true = sym outside ∙ ap (is_one_of names) (sym ((bytes_eq-Decides n (codes "words")).0 e)) ∙ known in cc
    go false e = refl

-- the rows hold these, and no option twice
abbrev pub Holds : Words → Words → List Given → List Row → Type 0
Holds names ps gs rows = Shows ps gs rows × IsOnceEach names gs

pub holds_nothing : (names : Words) → Holds names [] [] []
holds_nothing names = (shows_nothing, λ n k. omega arith)

pub holds_plain : (names ps : Words) (gs : List Given) (rows : List Row) (v : Text) → Holds names ps gs rows → Holds names (ps ++ v ∷ []) gs (used plain_built (v ∷ []) rows)
holds_plain names ps gs rows v h = (shows_plain ps gs rows v h.0, h.1)

-- an option has a row where it was given
is_given_if : (vs : Words) → is_some (listed vs) ≡ false → vs ≡ []
is_given_if [] h = refl
is_given_if (v ∷ vs) h = cc

pub not_given : (ps : Words) (gs : List Given) (rows : List Row) (n : Text) → Shows ps gs rows → bytes_eq n (codes "words") ≡ false → has_row n rows ≡ false → values_of n gs ≡ []
not_given ps gs rows n h w none = is_given_if (values_of n gs) (ap (λ b. is_some (listed (cond b ps (values_of n gs)))) (sym w) ∙ ap is_some (sym (h n)) ∙ sym (row_if_values n rows) ∙ none)

pub no_row_yet : (ps : Words) (gs : List Given) (rows : List Row) (n : Text) → Shows ps gs rows → bytes_eq n (codes "words") ≡ false → values_of n gs ≡ [] → has_row n rows ≡ false
no_row_yet ps gs rows n h w none = row_if_values n rows ∙ ap is_some (h n) ∙ ap (λ b. is_some (listed (cond b ps (values_of n gs)))) w ∙ ap (λ vs. is_some (listed vs)) none

pub holds_option : (names ps : Words) (gs : List Given) (rows : List Row) (n v : Text) → bytes_eq n (codes "words") ≡ false → has_row n rows ≡ false → Holds names ps gs rows
    → Holds names ps (gs ++ record { name = n; value = v } ∷ []) (used (option_built n) (v ∷ []) rows)
holds_option names ps gs rows n v w none h = (shows_option ps gs rows n v w none h.0, once)
  where
    once : IsOnceEach names (gs ++ record { name = n; value = v } ∷ [])
    once m k = go (bytes_eq n m) refl
      where
        go : (b : Bool) → bytes_eq n m ≡ b → length (values_of m (gs ++ record { name = n; value = v } ∷ [])) ≤ 1
        go true e =
            let same : n ≡ m = (bytes_eq-Decides n m).0 e in
            let before : values_of m gs ≡ [] = ap (λ x. values_of x gs) (sym same) ∙ not_given ps gs rows n h.0 w none in
            rw (values_push m n v gs, e, before) (omega arith)
        go false e = let l = h.1 m k in rw (values_push m n v gs, e, append-nil (values_of m gs)) l
