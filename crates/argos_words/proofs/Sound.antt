-- Words that clap takes are plain words and options.
use Rattle.std.proofs.Common.{◌≡◌, ◌≤◌, List, [], ◌∷◌, ◌++◌, Bool, true, false, length, Option, Some, None, refl, sym, ap, subst, ◌∙◌, codes, append_assoc, append-nil, fold}
use Rattle.std.specs.Prelude.{IsTrue}
use Rattle.std.specs.List.{AllByRecursion}
use Rattle.std.specs.Str.{IsUtf8}
use Rattle.argos_base.specs.Spelling.{is_one_of}
use Rattle.argos_words.specs.Words as spelling
use Rattle.argos_words.specs.Words.{Words, Given, Splits, AreAllowed, is_plain, HasNoEquals, values_of}
use Rattle.argos_words.specs.Simple.{AreUndashed}
use Rattle.argos_words.proofs.Rules.{rules, shape, option_built}
use Rattle.argos_words.proofs.LongWords.{WordForm, plain, dashes, joined, apart, short, word_form, long_joined, long_apart, long_no_dashes}
use Rattle.argos_words.proofs.Turns as turn
use Rattle.argos_words.proofs.Turns.{at, rows_at, fault_at, IsFree}
use Rattle.argos_words.proofs.Held.{Holds, holds_plain, holds_option, first_none, second_none, both_none, not_repeated, not_words}
use Rattle.clap.specs.Lexer.{long_of}
use Rattle.clap.specs.Walk.{Row, Text, Walk, Waiting, idle, option, positional, walked, settled_rows, used}
use Rattle.clap.specs.Faults.{turn_fault, settle_fault, walk_fault}
use Rattle.clap.specs.declared.error.kind.ErrorKind.TheVariants.{UnknownArgument, InvalidValue}

-- the walk over the words ends here
abbrev pub ends_at : Words → Walk → Words → Walk
ends_at names w words = fold (walked (rules names) []) w words

-- with these rows
abbrev pub end_rows : Words → Walk → List Row
end_rows names w = settled_rows (rules names) w.held.pending w.held.rows

-- and finds no fault
abbrev pub Passes : Text → Words → Walk → Words → Type 0
Passes command names w words = (walk_fault (shape command names) [] w words ≡ []) × (settle_fault (rules names) false (ends_at names w words).held ≡ [])

pub step : (command : Text) (names : Words) (w next : Walk) (v : Text) (words : Words) → walked (rules names) [] w v ≡ next → Passes command names w (v ∷ words)
    → (turn_fault (shape command names) [] w v ≡ []) × Passes command names next words
unfolding walk_fault
step command names w next v words e h =
    (first_none _ _ h.0, subst (λ (x : Walk). Passes command names x words) e (second_none (turn_fault (shape command names) [] w v) _ h.0, h.1))

pub step_back : (command : Text) (names : Words) (w next : Walk) (v : Text) (words : Words) → walked (rules names) [] w v ≡ next → turn_fault (shape command names) [] w v ≡ [] → Passes command names next words
    → Passes command names w (v ∷ words)
unfolding walk_fault
step_back command names w next v words e t h =
    let here : Passes command names (walked (rules names) [] w v) words = subst (λ (x : Walk). Passes command names x words) (sym e) h in
    (both_none _ _ t here.0, here.1)

pub nothing_passes : (command : Text) (names : Words) (rows : List Row) (p : Option (Text × List Text)) (w : Waiting) (t : Bool) → fault_at names p rows ≡ [] → Passes command names (at rows p w t) []
unfolding walk_fault
nothing_passes command names rows p w t h = (refl, h)

-- the words are read: how they are split, and what is held behind them
pub record Reads (names ps : Words) (gs : List Given) (words : Words) (end : Walk) : Type 0 where
  pub plains : Words
  pub options : List Given
  pub split : AreUndashed options → Splits words plains options
  pub allowed : AreAllowed names options
  pub holds : Holds names (ps ++ plains) (gs ++ options) (end_rows names end)

holds_append : (names ps qs : Words) (gs hs : List Given) (rows : List Row) → Holds names ps gs rows → qs ≡ [] → hs ≡ [] → Holds names (ps ++ qs) (gs ++ hs) rows
holds_append names ps qs gs hs rows h e f =
    subst (λ (xs : Words). Holds names xs (gs ++ hs) rows) (sym (ap (λ xs. ps ++ xs) e ∙ append-nil ps))
    (subst (λ (xs : List Given). Holds names ps xs rows) (sym (ap (λ xs. gs ++ xs) f ∙ append-nil gs)) h)

-- behind the two dashes each word is plain
pub sound_trailing : (command : Text) (names words : Words) (rows : List Row) (p : Option (Text × List Text)) (w : Waiting) (ps : Words) (gs : List Given)
    → (fault_at names p rows ≡ [] → Holds names ps gs (rows_at names p rows)) → Passes command names (at rows p w true) words
    → Holds names (ps ++ words) gs (end_rows names (ends_at names (at rows p w true) words))
sound_trailing command names [] rows p w ps gs h ok = subst (λ (xs : Words). Holds names xs gs (rows_at names p rows)) (sym (append-nil ps)) (h ok.1)
sound_trailing command names (v ∷ words) rows p w ps gs h ok =
    let e = turn.trailing_walk names rows p w v in
    let s = step command names _ _ v words e ok in
    let now : Holds names ps gs (rows_at names p rows) = h (sym (turn.trailing_fault command names rows p w v) ∙ s.0) in
    let rest = sound_trailing command names words (rows_at names p rows) (Some (codes "words", v ∷ [])) positional (ps ++ v ∷ []) gs (λ _. holds_plain names ps gs _ v now) s.1 in
    subst (λ (xs : Words). Holds names xs gs (end_rows names (ends_at names (at rows p w true) (v ∷ words)))) (append_assoc ps (v ∷ []) words)
    (subst (λ (x : Walk). Holds names ((ps ++ v ∷ []) ++ words) gs (end_rows names (ends_at names x words))) (sym e) rest)

module _ (command : Text) (names : Words) (outside : is_one_of names (codes "words") ≡ false) where
  -- words read where no option waits for its value
  abbrev pub SoundFree : Words → Type 0
  SoundFree words = (rows : List Row) (p : Option (Text × List Text)) (w : Waiting) (ps : Words) (gs : List Given) → IsFree w
      → (fault_at names p rows ≡ [] → Holds names ps gs (rows_at names p rows)) → Passes command names (at rows p w false) words
      → Reads names ps gs words (ends_at names (at rows p w false) words)

  -- words whose first is the value of an option
  pub record ReadsValue (ps : Words) (gs : List Given) (n : Text) (words : Words) (end : Walk) : Type 0 where
    pub value : Text
    pub rest : Words
    pub words_are : words ≡ value ∷ rest
    pub reads : Reads names ps (gs ++ record { name = n; value = value } ∷ []) rest end

  abbrev pub SoundWaiting : Words → Type 0
  SoundWaiting words = (rows : List Row) (n : Text) (ps : Words) (gs : List Given) → is_one_of names n ≡ true → Holds names ps gs rows
      → Passes command names (at rows (Some (n, [])) (option n) false) words
      → ReadsValue ps gs n words (ends_at names (at rows (Some (n, [])) (option n) false) words)

  -- an option that gets no value is a fault
  no_value : (rows : List Row) (n : Text) → is_one_of names n ≡ true → fault_at names (Some (n, [])) rows ≡ [] → ⊥
  no_value rows n k h = let bad : InvalidValue ∷ [] ≡ [] = sym (turn.no_value_fault names rows n (not_words names n outside k) k) ∙ h in cc

  no_value_behind : (words : Words) (rows : List Row) (n : Text) (w : Waiting) → is_one_of names n ≡ true → Passes command names (at rows (Some (n, [])) w true) words → ⊥
  no_value_behind [] rows n w k ok = no_value rows n k ok.1
  no_value_behind (v ∷ words) rows n w k ok =
      let s = step command names _ _ v words (turn.trailing_walk names rows (Some (n, [])) w v) ok in
      no_value rows n k (sym (turn.trailing_fault command names rows (Some (n, [])) w v) ∙ s.0)

  -- an option that the command doesn't have is one too
  known : (rows : List Row) (p : Option (Text × List Text)) (w : Waiting) (v n : Text) (x : Option Text) → long_of v ≡ Some (n, x)
      → turn_fault (shape command names) [] (at rows p w false) v ≡ [] → is_one_of names n ≡ true
  known rows p w v n x l h = go (is_one_of names n) refl
    where
      go : (b : Bool) → is_one_of names n ≡ b → b ≡ true
      go true e = refl
      go false e = let bad : UnknownArgument ∷ [] ≡ [] = sym (turn.unknown_fault command names rows p w v n x (long_no_dashes v (n, x) l) l e) ∙ h in cc

  -- one option after those before it
  more : (ps : Words) (gs : List Given) (g : Given) (words rest : Words) (end : Walk) → (R : Reads names ps (gs ++ g ∷ []) rest end) → IsTrue (is_one_of names g.name)
      → (AreUndashed (g ∷ R.options) → Splits words R.plains (g ∷ R.options)) → Reads names ps gs words end
  more ps gs g words rest end R k s = record {
    plains = R.plains;
    options = g ∷ R.options;
    split = s;
    allowed = (k, R.allowed);
    holds = subst (λ (xs : List Given). Holds names (ps ++ R.plains) xs (end_rows names end)) (append_assoc gs (g ∷ []) R.options) R.holds;
  }

  more_joined : (ps : Words) (gs : List Given) (n x v : Text) (words : Words) (end : Walk) → v ≡ codes "--" ++ n ++ codes "=" ++ x → HasNoEquals n → is_one_of names n ≡ true
      → Reads names ps (gs ++ record { name = n; value = x } ∷ []) words end → Reads names ps gs (v ∷ words) end
  more_joined ps gs n x v words end is e fits R =
      more ps gs (record { name = n; value = x }) (v ∷ words) words end R fits (λ u. spelling.joined (record { name = n; value = x }) words (ap (λ (y : Text). y ∷ words) is) e (R.split u.1))

  more_apart : (ps : Words) (gs : List Given) (n v : Text) (words : Words) (end : Walk) → v ≡ codes "--" ++ n → HasNoEquals n → 1 ≤ length n → is_one_of names n ≡ true
      → ReadsValue ps gs n words end → Reads names ps gs (v ∷ words) end
  more_apart ps gs n v words end is e least fits R =
      more ps gs (record { name = n; value = R.value }) (v ∷ words) R.rest end R.reads fits
      (λ u. spelling.apart (record { name = n; value = R.value }) R.rest (ap (λ (y : Text). y ∷ words) is ∙ ap (λ ws. (codes "--" ++ n) ∷ ws) R.words_are) e least u.0 (R.reads.split u.1))

  -- or one plain word
  more_plain : (ps : Words) (gs : List Given) (v : Text) (words : Words) (end : Walk) → IsTrue (is_plain v) → Reads names (ps ++ v ∷ []) gs words end → Reads names ps gs (v ∷ words) end
  more_plain ps gs v words end t R = record {
    plains = v ∷ R.plains;
    options = R.options;
    split = λ u. spelling.plain v words refl t (R.split u);
    allowed = R.allowed;
    holds = subst (λ (xs : Words). Holds names xs (gs ++ R.options) (end_rows names end)) (append_assoc ps (v ∷ []) R.plains) R.holds;
  }

  all_plain : (ps : Words) (gs : List Given) (words after : Words) (end : Walk) → words ≡ codes "--" ∷ after → Holds names (ps ++ after) gs (end_rows names end) → Reads names ps gs words end
  all_plain ps gs words after end is h = record {
    plains = after;
    options = [];
    split = λ u. spelling.all_plain after is;
    allowed = tt;
    holds = subst (λ (xs : List Given). Holds names (ps ++ after) xs (end_rows names end)) (sym (append-nil gs)) h;
  }

  free_step : (v : Text) (words : Words) → WordForm v → SoundFree words × SoundWaiting words → SoundFree (v ∷ words)
  free_step v words (plain t d l s) ih rows p w ps gs f h ok =
      let e = turn.plain_walk names rows p v w f d l s in
      let k = step command names _ _ v words e ok in
      let now : Holds names ps gs (rows_at names p rows) = h (sym (turn.plain_fault command names rows p w v f d l s) ∙ k.0) in
      let R = ih.0 (rows_at names p rows) (Some (codes "words", v ∷ [])) positional (ps ++ v ∷ []) gs tt (λ _. holds_plain names ps gs _ v now) k.1 in
      subst (λ (x : Walk). Reads names ps gs (v ∷ words) (ends_at names x words)) (sym e) (more_plain ps gs v words _ t R)
  free_step v words (dashes is) ih rows p w ps gs f h ok =
      let e : walked (rules names) [] (at rows p w false) v ≡ at rows p w true = ap (walked (rules names) [] (at rows p w false)) is ∙ turn.dashes_walk names rows p w in
      let k = step command names _ _ v words e ok in
      subst (λ (x : Walk). Reads names ps gs (v ∷ words) (ends_at names x words)) (sym e)
      (all_plain ps gs (v ∷ words) words _ (ap (λ (x : Text). x ∷ words) is) (sound_trailing command names words rows p w ps gs h k.1))
  free_step v words (joined n x is e) ih rows p w ps gs f h ok =
      let l : long_of v ≡ Some (n, Some x) = ap long_of is ∙ long_joined n x e in
      let d = long_no_dashes v (n, Some x) l in
      let fits = known rows p w v n (Some x) l (step command names _ _ v words refl ok).0 in
      let next = turn.joined_walk names rows p w v n x d l fits in
      let k = step command names _ _ v words next ok in
      let faults = sym (turn.joined_fault command names rows p w v n x d l fits) ∙ k.0 in
      let now : Holds names ps gs (rows_at names p rows) = h (first_none _ _ faults) in
      let none = not_repeated n (rows_at names p rows) (first_none _ [] (second_none (fault_at names p rows) _ faults)) in
      let R = ih.0 (used (option_built n) (x ∷ []) (rows_at names p rows)) None idle ps (gs ++ record { name = n; value = x } ∷ []) tt (λ _. holds_option names ps gs _ n x (not_words names n outside fits) none now) k.1 in
      subst (λ (y : Walk). Reads names ps gs (v ∷ words) (ends_at names y words)) (sym next)
      (more_joined ps gs n x v words _ is e fits R)
  free_step v words (apart n is e least) ih rows p w ps gs f h ok =
      let l : long_of v ≡ Some (n, None) = ap long_of is ∙ long_apart n e least in
      let d = long_no_dashes v (n, None) l in
      let fits = known rows p w v n None l (step command names _ _ v words refl ok).0 in
      let next = turn.apart_walk names rows p w v n d l fits in
      let k = step command names _ _ v words next ok in
      let now : Holds names ps gs (rows_at names p rows) = h (sym (turn.apart_fault command names rows p w v n d l fits) ∙ k.0) in
      let R = ih.1 (rows_at names p rows) n ps gs fits now k.1 in
      subst (λ (y : Walk). Reads names ps gs (v ∷ words) (ends_at names y words)) (sym next)
      (more_apart ps gs n v words _ is e least fits R)
  free_step v words (short b bs c d l s k) ih rows p w ps gs f h ok =
      let t = (step command names _ _ v words refl ok).0 in
      let bad : UnknownArgument ∷ [] ≡ [] = sym (turn.short_fault command names rows p w v b bs c d l s k) ∙ t in
      cc

  waiting_step : (v : Text) (words : Words) → WordForm v → SoundFree words → SoundWaiting (v ∷ words)
  waiting_step v words (plain t d l s) ih rows n ps gs fits now ok =
      let w = not_words names n outside fits in
      let e = turn.value_walk names rows n v d l s w fits in
      let k = step command names _ _ v words e ok in
      let R = ih rows (Some (n, v ∷ [])) idle ps (gs ++ record { name = n; value = v } ∷ []) tt
      (λ f. let none = not_repeated n rows (first_none _ [] (sym (turn.one_value_fault names rows n v w fits) ∙ f)) in
      subst (λ (rs : List Row). Holds names ps (gs ++ record { name = n; value = v } ∷ []) rs) (sym (turn.one_value_rows names rows n v w fits)) (holds_option names ps gs rows n v w none now)) k.1 in
      subst (λ (y : Walk). ReadsValue ps gs n (v ∷ words) (ends_at names y words)) (sym e) (record { value = v; rest = words; words_are = refl; reads = R })
  waiting_step v words (dashes is) ih rows n ps gs fits now ok =
      let e : walked (rules names) [] (at rows (Some (n, [])) (option n) false) v ≡ at rows (Some (n, [])) (option n) true = ap (walked (rules names) [] (at rows (Some (n, [])) (option n) false)) is ∙ turn.dashes_walk names rows (Some (n, [])) (option n) in
      absurd (no_value_behind words rows n (option n) fits (step command names _ _ v words e ok).1)
  waiting_step v words (joined m x is e) ih rows n ps gs fits now ok =
      let l : long_of v ≡ Some (m, Some x) = ap long_of is ∙ long_joined m x e in
      let t = (step command names _ _ v words refl ok).0 in
      let k = known rows (Some (n, [])) (option n) v m (Some x) l t in
      absurd (no_value rows n fits (first_none _ _ (sym (turn.joined_fault command names rows (Some (n, [])) (option n) v m x (long_no_dashes v (m, Some x) l) l k) ∙ t)))
  waiting_step v words (apart m is e least) ih rows n ps gs fits now ok =
      let l : long_of v ≡ Some (m, None) = ap long_of is ∙ long_apart m e least in
      let t = (step command names _ _ v words refl ok).0 in
      let k = known rows (Some (n, [])) (option n) v m None l t in
      absurd (no_value rows n fits (sym (turn.apart_fault command names rows (Some (n, [])) (option n) v m (long_no_dashes v (m, None) l) l k) ∙ t))
  waiting_step v words (short b bs c d l s k) ih rows n ps gs fits now ok =
      let t = (step command names _ _ v words refl ok).0 in
      let bad : UnknownArgument ∷ [] ≡ [] = sym (turn.short_fault command names rows (Some (n, [])) (option n) v b bs c d l s k) ∙ t in
      cc

  -- words in which clap finds no fault
  pub sound : (words : Words) → AllByRecursion IsUtf8 words → SoundFree words × SoundWaiting words
  sound [] u = (
    λ rows p w ps gs f h ok. record {
      plains = [];
      options = [];
      split = λ u. spelling.ended refl;
      allowed = tt;
      holds = holds_append names ps [] gs [] (rows_at names p rows) (h ok.1) refl refl;
    },
    λ rows n ps gs fits now ok. absurd (no_value rows n fits ok.1),
  )
  sound (v ∷ words) u =
      let ih = sound words u.1 in
      let f = word_form v u.0 in
      (free_step v words f ih, waiting_step v words f ih.0)
