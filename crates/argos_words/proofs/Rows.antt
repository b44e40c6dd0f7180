-- Rows of clap after one more value.
use Rattle.std.proofs.Common.{◌≡◌, List, [], ◌∷◌, ◌++◌, Bool, true, false, ◌||◌, cond, Option, Some, None, is_some, refl, sym, ap, ◌∙◌, codes, append-nil, unwrap_or}
use Rattle.std.specs.Prelude.{bytes_eq}
use Rattle.std.proofs.lemmas.Slice.Eq.{bytes_eq-Decides}
use Rattle.argos_words.specs.Words.{Words, Given, values_of}
use Rattle.argos_words.specs.Simple.{Shows, given_under, listed}
use Rattle.argos_words.proofs.Rules.{plain_built, option_built, bytes_eq-refl, bytes_eq-sym}
use Rattle.clap.specs.Walk.{Row, Text, all_of, with_values, without, has_row, used}
use Rattle.clap.specs.declared.parser.matches.ValueSource.{ValueSource}
use Rattle.clap.specs.declared.parser.matches.ValueSource.TheVariants.{CommandLine}
use Rattle.clap.specs.declared.builder.value_parser.Reading.{Reading}
use Rattle.clap.specs.declared.builder.value_parser.Reading.TheVariants.{AsWritten}

-- the values under an id get more at the end
abbrev pub grown : Option Words → Words → Option Words
grown o vs = Some (unwrap_or o [] ++ vs)

pub values_same : (id : Text) (how : Reading) (s : ValueSource) (vs : Words) (rows : List Row) → all_of id (with_values id how s vs rows) ≡ grown (all_of id rows) vs
values_same id how s vs [] = rw (bytes_eq-refl id) refl
values_same id how s vs (r ∷ rows) = go (values_same id how s vs rows) (bytes_eq r.id id) refl
  where
    go : all_of id (with_values id how s vs rows) ≡ grown (all_of id rows) vs → (b : Bool) → bytes_eq r.id id ≡ b → all_of id (with_values id how s vs (r ∷ rows)) ≡ grown (all_of id (r ∷ rows)) vs
    go k true e = rw e (rw e refl)
    go k false e = rw e (rw e k)

pub values_other : (id other : Text) (how : Reading) (s : ValueSource) (vs : Words) (rows : List Row) → bytes_eq id other ≡ false → all_of other (with_values id how s vs rows) ≡ all_of other rows
values_other id other how s vs [] h = rw h refl
values_other id other how s vs (r ∷ rows) h = go (values_other id other how s vs rows h) (bytes_eq r.id id) refl (bytes_eq r.id other) refl
  where
    go : all_of other (with_values id how s vs rows) ≡ all_of other rows → (b : Bool) → bytes_eq r.id id ≡ b → (d : Bool) → bytes_eq r.id other ≡ d → all_of other (with_values id how s vs (r ∷ rows)) ≡ all_of other (r ∷ rows)
    go k true e true f = let same : bytes_eq id other ≡ true = ap (λ (x : Text). bytes_eq x other) (sym ((bytes_eq-Decides r.id id).0 e)) ∙ f in let bad : true ≡ false = sym same ∙ h in cc
    go k true e false f = rw e (rw f refl)
    go k false e true f = rw e (rw f refl)
    go k false e false f = rw e (rw f k)

-- an id without a row
pub row_if_values : (id : Text) (rows : List Row) → has_row id rows ≡ is_some (all_of id rows)
row_if_values id [] = refl
row_if_values id (r ∷ rows) = go (row_if_values id rows) (bytes_eq r.id id) refl
  where
    go : has_row id rows ≡ is_some (all_of id rows) → (b : Bool) → bytes_eq r.id id ≡ b → has_row id (r ∷ rows) ≡ is_some (all_of id (r ∷ rows))
    go k true e = rw e refl
    go k false e = rw e k

pub without_none : (id : Text) (rows : List Row) → has_row id rows ≡ false → without id rows ≡ rows
without_none id [] h = refl
without_none id (r ∷ rows) h = go (without_none id rows) (bytes_eq r.id id) refl
  where
    go : (has_row id rows ≡ false → without id rows ≡ rows) → (b : Bool) → bytes_eq r.id id ≡ b → without id (r ∷ rows) ≡ r ∷ rows
    go k true e = let bad : true ≡ false = sym (ap (λ b. b || has_row id rows) e) ∙ h in cc
    go k false e = rw e (ap (λ rs. r ∷ rs) (k (sym (ap (λ b. b || has_row id rows) e) ∙ h)))

grown_listed : (ps : Words) (v : Text) → grown (listed ps) (v ∷ []) ≡ listed (ps ++ v ∷ [])
grown_listed [] v = refl
grown_listed (p ∷ ps) v = refl

-- nothing is given at first
pub shows_nothing : Shows [] [] []
shows_nothing id = go (bytes_eq id (codes "words"))
  where
    go : (b : Bool) → None ≡ listed (cond b [] [])
    go true = refl
    go false = refl

-- one more plain word
pub shows_plain : (ps : Words) (gs : List Given) (rows : List Row) (v : Text) → Shows ps gs rows → Shows (ps ++ v ∷ []) gs (used plain_built (v ∷ []) rows)
shows_plain ps gs rows v h id = go (bytes_eq id (codes "words")) refl
  where
    go : (b : Bool) → bytes_eq id (codes "words") ≡ b → all_of id (used plain_built (v ∷ []) rows) ≡ listed (given_under (ps ++ v ∷ []) gs id)
    go true e =
        let same : id ≡ codes "words" = (bytes_eq-Decides id (codes "words")).0 e in
        let before : all_of (codes "words") rows ≡ listed ps = h (codes "words") in
        rw same (values_same (codes "words") AsWritten CommandLine (v ∷ []) rows ∙ ap (λ o. grown o (v ∷ [])) before ∙ grown_listed ps v)
    go false e =
        let other : bytes_eq (codes "words") id ≡ false = bytes_eq-sym (codes "words") id ∙ e in
        values_other (codes "words") id AsWritten CommandLine (v ∷ []) rows other ∙ h id ∙ ap (λ b. listed (cond b ps (values_of id gs))) e ∙ sym (ap (λ b. listed (cond b (ps ++ v ∷ []) (values_of id gs))) e)

-- one more option
pub values_push : (id n v : Text) (gs : List Given) → values_of id (gs ++ record { name = n; value = v } ∷ []) ≡ values_of id gs ++ cond (bytes_eq n id) (v ∷ []) []
values_push id n v [] = go (bytes_eq n id)
  where
    go : (b : Bool) → cond b (v ∷ []) [] ≡ cond b (v ∷ []) []
    go b = refl
values_push id n v (g ∷ gs) = go (bytes_eq g.name id) (values_push id n v gs)
  where
    go : (b : Bool) → values_of id (gs ++ record { name = n; value = v } ∷ []) ≡ values_of id gs ++ cond (bytes_eq n id) (v ∷ []) []
        → cond b (g.value ∷ values_of id (gs ++ record { name = n; value = v } ∷ [])) (values_of id (gs ++ record { name = n; value = v } ∷ [])) ≡ cond b (g.value ∷ values_of id gs) (values_of id gs) ++ cond (bytes_eq n id) (v ∷ []) []
    go true e = ap (λ (vs : Words). g.value ∷ vs) e
    go false e = e

pub shows_option : (ps : Words) (gs : List Given) (rows : List Row) (n v : Text) → bytes_eq n (codes "words") ≡ false → has_row n rows ≡ false → Shows ps gs rows
    → Shows ps (gs ++ record { name = n; value = v } ∷ []) (used (option_built n) (v ∷ []) rows)
shows_option ps gs rows n v w none h id = go (bytes_eq id n) refl
  where
    more : List Given
    more = gs ++ record { name = n; value = v } ∷ []

    kept : used (option_built n) (v ∷ []) rows ≡ with_values n AsWritten CommandLine (v ∷ []) rows
    kept = ap (with_values n AsWritten CommandLine (v ∷ [])) (without_none n rows none)

    is_new : given_under ps more n ≡ values_of n gs ++ v ∷ []
    is_new = ap (λ b. cond b ps (values_of n more)) w ∙ values_push n n v gs ∙ ap (λ b. values_of n gs ++ cond b (v ∷ []) []) (bytes_eq-refl n)

    before : all_of n rows ≡ listed (values_of n gs)
    before = h n ∙ ap (λ b. listed (cond b ps (values_of n gs))) w

    others : bytes_eq n id ≡ false → given_under ps gs id ≡ given_under ps more id
    others e = ap (λ (vs : Words). cond (bytes_eq id (codes "words")) ps vs) (sym (values_push id n v gs ∙ ap (λ b. values_of id gs ++ cond b (v ∷ []) []) e ∙ append-nil (values_of id gs)))

    go : (b : Bool) → bytes_eq id n ≡ b → all_of id (used (option_built n) (v ∷ []) rows) ≡ listed (given_under ps more id)
    go true e = rw ((bytes_eq-Decides id n).0 e) (ap (all_of n) kept ∙ values_same n AsWritten CommandLine (v ∷ []) rows ∙ ap (λ o. grown o (v ∷ [])) before ∙ grown_listed (values_of n gs) v ∙ sym (ap listed is_new))
    go false e =
        let other : bytes_eq n id ≡ false = bytes_eq-sym n id ∙ e in
        ap (all_of id) kept ∙ values_other n id AsWritten CommandLine (v ∷ []) rows other ∙ h id ∙ ap listed (others other)
