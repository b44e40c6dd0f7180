-- The commands that read the words: what clap builds of them, their matches and their faults.
use Rattle.std.proofs.Common.{◌≡◌, ℕ, ◌+◌, List, [], ◌∷◌, Bool, true, false, not, ◌&&◌, ◌||◌, cond, map, Option, Some, None, is_some, refl, sym, ap, ap₂, arith, ◌∙◌, codes, fold}
use Rattle.std.specs.List.{list_all, list_any}
use Rattle.argos_words.specs.Words.{Words}
use Rattle.argos_words.specs.Simple.{simple_app, option_rule}
use Rattle.argos_words.proofs.Rules.{rules, shape, option_built, plain_built}
use Rattle.argos_words.proofs.Held.{first_none, second_none, both_none}
use Rattle.argos_words.proofs.Turns.{at}
use Rattle.argos_words.proofs.Sound.{Passes, ends_at, end_rows}
use Rattle.clap.specs.Walk.{Row, Rule, Text, Walk, idle, has_row, with_default, is_early_multiple, nothing_held, rows_after, finished}
use Rattle.clap.specs.Simple.{App, built, filled_from, is_in_order, is_buildable, is_ready, is_ready_leaf, names_of, entered, matches_of}
use Rattle.clap.specs.Kinds.{Kinds, or_else}
use Rattle.clap.specs.Takes.{is_given}
use Rattle.clap.specs.Faults.{fault_of, is_simple_and_free, is_free_app, built_fault, defaults_fault, default_fault, check_fault, entered_fault, walk_fault, settle_fault}

abbrev pub built_app : Text → Words → App
built_app word names = record { top = shape word names; subs = [] }

fill_options : (i : ℕ) (names : Words) → filled_from i (map option_rule names) ≡ map option_built names
fill_options i [] = refl
fill_options i (n ∷ names) = ap (λ (rs : List Rule). option_built n ∷ rs) (fill_options i names)

pub built_is : (word : Text) (names : Words) → built (simple_app word names) ≡ built_app word names
built_is word names = ap (λ (rs : List Rule). record { top = record (shape word names) { rules = plain_built ∷ rs }; subs = [] }) (fill_options 2 names)

-- they are simple
simple_options : (names : Words) → list_all (λ a. a.is_simple) (map option_rule names) ≡ true
simple_options [] = refl
simple_options (n ∷ names) = simple_options names

simple_built : (names : Words) → list_all (λ a. a.is_simple) (map option_built names) ≡ true
simple_built [] = refl
simple_built (n ∷ names) = simple_built names

free_built : (names : Words) → list_all (λ a. a.is_free) (map option_built names) ≡ true
free_built [] = refl
free_built (n ∷ names) = free_built names

not_early : (k : ℕ) (names : Words) → list_any (is_early_multiple k) (map option_built names) ≡ false
not_early k [] = refl
not_early k (n ∷ names) = not_early k names

count_options : (k : ℕ) (names : Words) → fold (λ n (a : Rule). n + cond (is_some a.index) 1 0) k (map option_built names) ≡ k
count_options k [] = refl
count_options k (n ∷ names) = let e : k + 0 ≡ k = omega arith in ap (λ (j : ℕ). fold (λ n (a : Rule). n + cond (is_some a.index) 1 0) j (map option_built names)) e ∙ count_options k names

in_order : (names : Words) → is_in_order (rules names) ≡ true
in_order names = ap (λ (j : ℕ). not (is_early_multiple j plain_built || list_any (is_early_multiple j) (map option_built names))) (count_options 1 names) ∙ ap not (not_early 1 names)

pub is_simple_here : (word : Text) (names : Words) → is_simple_and_free (simple_app word names) ≡ true
is_simple_here word names =
    ap (λ (b : App). (is_buildable (simple_app word names) && (is_ready b.top && list_all is_ready_leaf b.subs)) && is_free_app b) (built_is word names)
    ∙ ap₂ (λ x y. ((x && true) && ((y && is_in_order (rules names)) && true)) && (list_all (λ a. a.is_free) (map option_built names) && true)) (simple_options names) (simple_built names)
    ∙ ap₂ (λ x y. (x && true) && (y && true)) (in_order names) (free_built names)

-- no default, nothing required
abbrev no_faults : Kinds
no_faults = []

either_none : (b : Bool) → cond b [] [] ≡ no_faults
either_none true = refl
either_none false = refl

option_defaults : (rows : List Row) (n : Text) → with_default rows (option_built n) ≡ rows
option_defaults rows n = go (has_row n rows)
  where
    go : (b : Bool) → cond b rows rows ≡ rows
    go true = refl
    go false = refl

no_defaults : (rows : List Row) (names : Words) → fold with_default rows (map option_built names) ≡ rows
no_defaults rows [] = refl
no_defaults rows (n ∷ names) = ap (λ (rs : List Row). fold with_default rs (map option_built names)) (option_defaults rows n) ∙ no_defaults rows names

no_default_faults : (rows : List Row) (names : Words) → defaults_fault rows (map option_built names) ≡ []
unfolding defaults_fault
no_default_faults rows [] = refl
no_default_faults rows (n ∷ names) =
    both_none (default_fault rows (option_built n)) _ (either_none (has_row n rows || true))
    (ap (λ (rs : List Row). defaults_fault rs (map option_built names)) (option_defaults rows n) ∙ no_default_faults rows names)

none_required : (rows : List Row) (names : Words) → list_any (λ a. a.required && not (is_given a.id rows)) (map option_built names) ≡ false
none_required rows [] = refl
none_required rows (n ∷ names) = none_required rows names

no_check_fault : (word : Text) (names : Words) (rows : List Row) (b : Bool) → check_fault (shape word names) rows b ≡ []
no_check_fault word names rows true = rw (none_required rows names) refl
no_check_fault word names rows false = rw (none_required rows names) refl

no_entered_fault : (word : Text) (names : Words) (stop : Option (Text × List Text)) → entered_fault (built_app word names) stop ≡ []
no_entered_fault word names None = refl
no_entered_fault word names (Some p) = refl

words_default : (rows : List Row) → with_default rows plain_built ≡ rows
words_default rows = go (has_row (codes "words") rows)
  where
    go : (b : Bool) → cond b rows rows ≡ rows
    go true = refl
    go false = refl

-- where the walk begins
abbrev pub start : Walk
start = at [] None idle false

pub matches_are : (word : Text) (names words : Words) → matches_of (simple_app word names) words ≡ end_rows names (ends_at names start words)
matches_are word names words = ap (λ (b : App). rows_after b.top.rules (names_of b) words) (built_is word names) ∙ (ap (λ (rs : List Row). fold with_default rs (map option_built names)) (words_default (end_rows names (ends_at names start words))) ∙ no_defaults (end_rows names (ends_at names start words)) names)

-- the faults are those of the walk
no_default_fault : (rows : List Row) (names : Words) → defaults_fault rows (rules names) ≡ []
unfolding defaults_fault
no_default_fault rows names = both_none (default_fault rows plain_built) _ (either_none (has_row (codes "words") rows || true)) (ap (λ (rs : List Row). defaults_fault rs (map option_built names)) (words_default rows) ∙ no_default_faults rows names)

abbrev walk_faults : Text → Words → Words → Kinds
walk_faults word names words = walk_fault (shape word names) [] start words

abbrev end_fault : Words → Words → Kinds
end_fault names words = settle_fault (rules names) false (ends_at names start words).held

faults_are : (word : Text) (names words : Words) → fault_of (simple_app word names) words ≡ or_else (walk_faults word names words) (or_else (end_fault names words) [])
faults_are word names words =
    ap (λ (b : App). built_fault b nothing_held words) (built_is word names)
    ∙ ap (λ ks. or_else (walk_faults word names words) (or_else ks (or_else (end_fault names words) (or_else defaults check)))) (no_entered_fault word names (ends_at names start words).stopped)
    ∙ ap₂ (λ ks ls. or_else (walk_faults word names words) (or_else (end_fault names words) (or_else ks ls))) (no_default_fault rows names) (no_check_fault word names _ _)
  where
    rows : List Row
    rows = end_rows names (ends_at names start words)

    defaults : Kinds
    defaults = defaults_fault rows (rules names)

    check : Kinds
    check = check_fault (shape word names) (finished (rules names) (ends_at names start words).held) (is_some (entered (built_app word names) (ends_at names start words).stopped))

pub passes_if : (word : Text) (names words : Words) → fault_of (simple_app word names) words ≡ [] → Passes word names start words
passes_if word names words h =
    let e = sym (faults_are word names words) ∙ h in
    (first_none _ _ e, first_none _ [] (second_none (walk_faults word names words) _ e))

pub fault_if : (word : Text) (names words : Words) → Passes word names start words → fault_of (simple_app word names) words ≡ []
fault_if word names words h = faults_are word names words ∙ both_none _ _ h.0 (both_none _ [] h.1 refl)
