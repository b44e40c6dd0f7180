-- Clap takes plain words and options, where the command has these options and none is given twice.
use Rattle.std.proofs.Common.{◌≡◌, ◌≤◌, List, [], ◌∷◌, ◌++◌, Bool, true, false, not, cond, length, Option, Some, None, refl, sym, ap, subst, ◌∙◌, codes, append_assoc, append-nil, length-append, arith}
use Rattle.std.specs.Prelude.{IsTrue, bytes_eq}
use Rattle.argos_base.specs.Spelling.{is_one_of}
use Rattle.argos_words.specs.Words as spelling
use Rattle.argos_words.specs.Words.{Words, Given, Splits, AreAllowed, is_plain, begins_with_dash, HasNoEquals, values_of}
use Rattle.argos_words.specs.Simple.{IsOnceEach}
use Rattle.argos_words.proofs.Rules.{rules, shape, option_built, bytes_eq-refl}
use Rattle.argos_words.proofs.LongWords.{plain_form, long_joined, long_apart, long_no_dashes}
use Rattle.argos_words.proofs.Turns as turn
use Rattle.argos_words.proofs.Turns.{at, rows_at, fault_at, IsFree}
use Rattle.argos_words.proofs.Held.{Holds, holds_plain, holds_option, both_none, not_words, no_row_yet, no_repeat_fault}
use Rattle.argos_words.proofs.Sound.{ends_at, end_rows, Passes, step_back, nothing_passes, sound_trailing}
use Rattle.clap.specs.Lexer.{long_of}
use Rattle.clap.specs.Walk.{Row, Text, Walk, Waiting, idle, option, positional, walked, used, has_row}
use Rattle.clap.specs.Faults.{turn_fault}

-- clap takes the words, and holds this in the end
abbrev pub Takes : Text → Words → Words → List Given → Walk → Words → Type 0
Takes command names ps gs w words = Passes command names w words × Holds names ps gs (end_rows names (ends_at names w words))

-- one word more at the front
front : (command : Text) (names ps : Words) (gs : List Given) (w next : Walk) (v : Text) (words : Words) → walked (rules names) [] w v ≡ next → turn_fault (shape command names) [] w v ≡ []
    → Takes command names ps gs next words → Takes command names ps gs w (v ∷ words)
front command names ps gs w next v words e t h =
    (step_back command names w next v words e t h.0, subst (λ (x : Walk). Holds names ps gs (end_rows names (ends_at names x words))) (sym e) h.1)

trailing_passes : (command : Text) (names words : Words) (rows : List Row) (p : Option (Text × List Text)) (w : Waiting) → fault_at names p rows ≡ [] → Passes command names (at rows p w true) words
trailing_passes command names [] rows p w h = nothing_passes command names rows p w true h
trailing_passes command names (v ∷ words) rows p w h =
    step_back command names _ _ v words (turn.trailing_walk names rows p w v) (turn.trailing_fault command names rows p w v ∙ h)
    (trailing_passes command names words (rows_at names p rows) (Some (codes "words", v ∷ [])) positional refl)

-- an option that comes later wasn't given before
values_append : (n : Text) (gs hs : List Given) → values_of n (gs ++ hs) ≡ values_of n gs ++ values_of n hs
values_append n [] hs = refl
values_append n (g ∷ gs) hs = go (bytes_eq g.name n) (values_append n gs hs)
  where
    go : (b : Bool) → values_of n (gs ++ hs) ≡ values_of n gs ++ values_of n hs
        → cond b (g.value ∷ values_of n (gs ++ hs)) (values_of n (gs ++ hs)) ≡ cond b (g.value ∷ values_of n gs) (values_of n gs) ++ values_of n hs
    go true e = ap (λ (vs : Words). g.value ∷ vs) e
    go false e = e

none_before : (names : Words) (gs hs : List Given) (g : Given) → is_one_of names g.name ≡ true → IsOnceEach names (gs ++ g ∷ hs) → values_of g.name gs ≡ []
none_before names gs hs g k once = go (values_of g.name gs) enough
  where
    all : values_of g.name (gs ++ g ∷ hs) ≡ values_of g.name gs ++ g.value ∷ values_of g.name hs
    all = values_append g.name gs (g ∷ hs) ∙ ap (λ b. values_of g.name gs ++ cond b (g.value ∷ values_of g.name hs) (values_of g.name hs)) (bytes_eq-refl g.name)

    enough : length (values_of g.name gs ++ g.value ∷ values_of g.name hs) ≤ 1
    enough = subst (λ (vs : Words). length vs ≤ 1) all (once g.name k)

    go : (vs : Words) → length (vs ++ g.value ∷ values_of g.name hs) ≤ 1 → vs ≡ []
    go [] l = refl
    go (v ∷ vs) l = let e = length-append vs (g.value ∷ values_of g.name hs) in absurd (omega (arith, e))

undashed_plain : (v : Text) → begins_with_dash v ≡ false → IsTrue (is_plain v)
undashed_plain [] h = refl
undashed_plain (b ∷ []) h = refl
undashed_plain (b ∷ c ∷ bs) h = ap not h

module _ (command : Text) (names : Words) (outside : is_one_of names (codes "words") ≡ false) where
  -- the words in front of these, and those behind
  moved : (ps qs : Words) (gs hs : List Given) (g : Given) (w : Walk) (words : Words) → Takes command names (ps ++ qs) ((gs ++ g ∷ []) ++ hs) w words → Takes command names (ps ++ qs) (gs ++ g ∷ hs) w words
  moved ps qs gs hs g w words h = subst (λ (xs : List Given). Takes command names (ps ++ qs) xs w words) (append_assoc gs (g ∷ []) hs) h

  absent : (ps : Words) (gs hs : List Given) (g : Given) (rows : List Row) → is_one_of names g.name ≡ true → IsOnceEach names (gs ++ g ∷ hs) → Holds names ps gs rows → has_row g.name rows ≡ false
  absent ps gs hs g rows k once h = no_row_yet ps gs rows g.name h.0 (not_words names g.name outside k) (none_before names gs hs g k once)

  once_moved : (gs hs : List Given) (g : Given) → IsOnceEach names (gs ++ g ∷ hs) → IsOnceEach names ((gs ++ g ∷ []) ++ hs)
  once_moved gs hs g once = subst (λ (xs : List Given). IsOnceEach names xs) (sym (append_assoc gs (g ∷ []) hs)) once

  pub complete : {words qs : Words} {hs : List Given} → Splits words qs hs → (rows : List Row) (p : Option (Text × List Text)) (w : Waiting) (ps : Words) (gs : List Given) → IsFree w
      → AreAllowed names hs → IsOnceEach names (gs ++ hs) → fault_at names p rows ≡ [] → Holds names ps gs (rows_at names p rows)
      → Takes command names (ps ++ qs) (gs ++ hs) (at rows p w false) words
  complete (spelling.ended is) rows p w ps gs f allowed once t h =
      subst (λ (ws : Words). Takes command names (ps ++ []) (gs ++ []) (at rows p w false) ws) (sym is) (
        nothing_passes command names rows p w false t,
        subst (λ (xs : Words). Holds names xs (gs ++ []) (rows_at names p rows)) (sym (append-nil ps)) (subst (λ (xs : List Given). Holds names ps xs (rows_at names p rows)) (sym (append-nil gs)) h),
      )
  complete (spelling.plain {ps = qs} {gs = hs} v ws is plain s) rows p w ps gs f allowed once t h =
      let form = plain_form v plain in
      let rest : Takes command names ((ps ++ v ∷ []) ++ qs) (gs ++ hs) (at (rows_at names p rows) (Some (codes "words", v ∷ [])) positional false) ws =
      complete s (rows_at names p rows) (Some (codes "words", v ∷ [])) positional (ps ++ v ∷ []) gs tt allowed once refl (holds_plain names ps gs (rows_at names p rows) v h) in
      let all : Takes command names ((ps ++ v ∷ []) ++ qs) (gs ++ hs) (at rows p w false) (v ∷ ws) =
      front command names _ _ _ _ v ws (turn.plain_walk names rows p v w f form.0 form.1 form.2) (turn.plain_fault command names rows p w v f form.0 form.1 form.2 ∙ t) rest in
      subst (λ (xs : Words). Takes command names (ps ++ v ∷ qs) (gs ++ hs) (at rows p w false) xs) (sym is)
      (subst (λ (xs : Words). Takes command names xs (gs ++ hs) (at rows p w false) (v ∷ ws)) (append_assoc ps (v ∷ []) qs) all)
  complete (spelling.all_plain ws is) rows p w ps gs f allowed once t h =
      let ok = trailing_passes command names ws rows p w t in
      let rest : Takes command names (ps ++ ws) gs (at rows p w true) ws = (ok, sound_trailing command names ws rows p w ps gs (λ _. h) ok) in
      subst (λ (xs : Words). Takes command names (ps ++ ws) (gs ++ []) (at rows p w false) xs) (sym is)
      (subst (λ (xs : List Given). Takes command names (ps ++ ws) xs (at rows p w false) (codes "--" ∷ ws)) (sym (append-nil gs))
      (front command names (ps ++ ws) gs _ _ (codes "--") ws (turn.dashes_walk names rows p w) (turn.dashes_fault command names rows p w) rest))
  complete (spelling.joined {ps = qs} {gs = hs} g ws is e s) rows p w ps gs f allowed once t h =
      let k = allowed.0 in
      let v : Text = codes "--" ++ g.name ++ codes "=" ++ g.value in
      let l : long_of v ≡ Some (g.name, Some g.value) = long_joined g.name g.value e in
      let d = long_no_dashes v (g.name, Some g.value) l in
      let none = absent ps gs hs g (rows_at names p rows) k once h in
      let rest : Takes command names (ps ++ qs) ((gs ++ g ∷ []) ++ hs) (at (used (option_built g.name) (g.value ∷ []) (rows_at names p rows)) None idle false) ws =
      complete s (used (option_built g.name) (g.value ∷ []) (rows_at names p rows)) None idle ps (gs ++ g ∷ []) tt allowed.1 (once_moved gs hs g once) refl
      (holds_option names ps gs (rows_at names p rows) g.name g.value (not_words names g.name outside k) none h) in
      subst (λ (xs : Words). Takes command names (ps ++ qs) (gs ++ g ∷ hs) (at rows p w false) xs) (sym is)
      (moved ps qs gs hs g (at rows p w false) (v ∷ ws) (front command names _ _ _ _ v ws (turn.joined_walk names rows p w v g.name g.value d l k)
      (turn.joined_fault command names rows p w v g.name g.value d l k ∙ both_none _ _ t (no_repeat_fault g.name (rows_at names p rows) none)) rest))
  complete (spelling.apart {ps = qs} {gs = hs} g ws is e least dash s) rows p w ps gs f allowed once t h =
      let k = allowed.0 in
      let v : Text = codes "--" ++ g.name in
      let l : long_of v ≡ Some (g.name, None) = long_apart g.name e least in
      let d = long_no_dashes v (g.name, None) l in
      let other = not_words names g.name outside k in
      let none = absent ps gs hs g (rows_at names p rows) k once h in
      let form = plain_form g.value (undashed_plain g.value dash) in
      let held : Holds names ps (gs ++ g ∷ []) (rows_at names (Some (g.name, g.value ∷ [])) (rows_at names p rows)) =
      subst (λ (rs : List Row). Holds names ps (gs ++ g ∷ []) rs) (sym (turn.one_value_rows names (rows_at names p rows) g.name g.value other k)) (holds_option names ps gs (rows_at names p rows) g.name g.value other none h) in
      let rest : Takes command names (ps ++ qs) ((gs ++ g ∷ []) ++ hs) (at (rows_at names p rows) (Some (g.name, g.value ∷ [])) idle false) ws =
      complete s (rows_at names p rows) (Some (g.name, g.value ∷ [])) idle ps (gs ++ g ∷ []) tt allowed.1 (once_moved gs hs g once)
      (turn.one_value_fault names (rows_at names p rows) g.name g.value other k ∙ no_repeat_fault g.name (rows_at names p rows) none) held in
      let value : Takes command names (ps ++ qs) ((gs ++ g ∷ []) ++ hs) (at (rows_at names p rows) (Some (g.name, [])) (option g.name) false) (g.value ∷ ws) =
      front command names _ _ _ _ g.value ws (turn.value_walk names (rows_at names p rows) g.name g.value form.0 form.1 form.2 other k)
      (turn.value_fault command names (rows_at names p rows) (Some (g.name, [])) g.name g.value form.0 form.1 form.2) rest in
      subst (λ (xs : Words). Takes command names (ps ++ qs) (gs ++ g ∷ hs) (at rows p w false) xs) (sym is)
      (moved ps qs gs hs g (at rows p w false) (v ∷ g.value ∷ ws) (front command names _ _ _ _ v (g.value ∷ ws) (turn.apart_walk names rows p w v g.name d l k) (turn.apart_fault command names rows p w v g.name d l k ∙ t) value))
