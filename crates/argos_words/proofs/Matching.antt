-- What clap's answer says of the words.
use Rattle.std.proofs.Common.{◌≡◌, ◌≤◌, inl, inr, List, [], ◌∷◌, true, false, cond, length, map, Option, Some, None, option_map, option_and_then, unwrap_or, string_bytes, refl, sym, ap, subst, ◌∙◌, codes, arith}
use Rattle.std.specs.Prelude.{bytes_eq, slice_get}
use Rattle.std.specs.List.{AllByRecursion, find}
use Rattle.std.specs.Str.{IsUtf8}
use Rattle.std.proofs.lemmas.Str.{IsUtf8-string_bytes}
use Rattle.argos_base.proofs.Bools.{and_first}
use Rattle.argos_base.specs.Spelling.{is_one_of}
use Rattle.argos_words.specs.declared.command.WordsError.{WordsError}
use Rattle.argos_words.specs.declared.command.WordsError.TheVariants.{Usage, OutOfMemory}
use Rattle.argos_words.specs.Words.{Words, Given, Splits, AreAllowed, values_of}
use Rattle.argos_words.specs.Simple.{Shows, IsOnceEach, simple_app, listed}
use Rattle.argos_words.specs.inner.Reading.{IsFound, NoneFits, OnUsage, at_most_one, plains_of, value_of}
use Rattle.argos_words.proofs.Held.{holds_nothing, not_words}
use Rattle.argos_words.proofs.Sound.{Reads, sound, ends_at, end_rows}
use Rattle.argos_words.proofs.Complete.{Takes, complete}
use Rattle.argos_words.proofs.Built.{start, is_simple_here, matches_are, passes_if, fault_if}
use Rattle.clap.specs.Walk.{Row, Text, all_of, first_of, rows_of, idle}
use Rattle.clap.specs.Matches.{found_of}
use Rattle.clap.specs.Simple.{App, HasMatchesOf, is_simple, matches_of}
use Rattle.clap.specs.Kinds.{Kinds, HasKind}
use Rattle.clap.specs.Values.{kind_of}
use Rattle.clap.specs.Faults.{fault_of, is_simple_and_free}
use Rattle.clap.specs.declared.error.Error.{Error}
use Rattle.clap.specs.declared.error.kind.ErrorKind.TheVariants as kind
use Rattle.clap.specs.declared.parser.matches.ArgMatches.{ArgMatches}
use Rattle.std.specs.Prelude.{String}
use Rattle.clap.proofs.WalkLemmas.{first_value-rows, raw_values-rows}

-- what is listed, taken back
from_listed : (vs : Words) → unwrap_or (listed vs) [] ≡ vs
from_listed [] = refl
from_listed (v ∷ vs) = refl

first_listed : (vs : Words) → length vs ≤ 1 → at_most_one (option_and_then (λ xs. slice_get xs 0) (listed vs)) ≡ vs
first_listed [] h = refl
first_listed (v ∷ []) h = refl
first_listed (v ∷ w ∷ vs) h = absurd (omega arith)

first_in : (id : Text) (rows : List Row) → first_of id rows ≡ option_and_then (λ xs. slice_get xs 0) (all_of id rows)
first_in id rows = go (find (λ r. bytes_eq r.id id) rows)
  where
    go : (o : Option Row) → option_and_then (λ (r : Row). slice_get r.values 0) o ≡ option_and_then (λ xs. slice_get xs 0) (option_map (λ (r : Row). r.values) o)
    go None = refl
    go (Some r) = refl

-- matches whose rows hold these plain words and options
plains_shown : (m : ArgMatches) (ps : Words) (gs : List Given) → Shows ps gs (rows_of (found_of m)) → ps ≡ plains_of m
plains_shown m ps gs h = sym (ap (λ o. unwrap_or o []) (raw_values-rows (found_of m) (codes "words") ∙ h (codes "words")) ∙ from_listed ps)

value_shown : (m : ArgMatches) (ps : Words) (gs : List Given) (n : Text) → Shows ps gs (rows_of (found_of m)) → bytes_eq n (codes "words") ≡ false → length (values_of n gs) ≤ 1 → values_of n gs ≡ value_of n m
value_shown m ps gs n h other l =
    sym (ap at_most_one (first_value-rows (found_of m) n ∙ first_in n (rows_of (found_of m)) ∙ ap (option_and_then (λ xs. slice_get xs 0)) (h n ∙ ap (λ b. listed (cond b ps (values_of n gs))) other))
    ∙ first_listed (values_of n gs) l)

module _ (word : Text) (names words : Words) (outside : is_one_of names (codes "words") ≡ false) where
  taken : (ps : Words) (gs : List Given) → Splits words ps gs → AreAllowed names gs → IsOnceEach names gs → Takes word names ps gs start words
  taken ps gs s allowed once = complete word names outside s [] None idle [] [] tt allowed once refl (holds_nothing names)

  found : (m : ArgMatches) → AllByRecursion IsUtf8 words → fault_of (simple_app word names) words ≡ [] → rows_of (found_of m) ≡ matches_of (simple_app word names) words → IsFound names words m
  found m u none rows =
      let R : Reads names [] [] words (ends_at names start words) = (sound word names outside words u).0 [] None idle [] [] tt (λ _. holds_nothing names) (passes_if word names words none) in
      let are : rows_of (found_of m) ≡ end_rows names (ends_at names start words) = rows ∙ matches_are word names words in
      let shows : Shows R.plains R.options (rows_of (found_of m)) = subst (λ rs. Shows R.plains R.options rs) (sym are) R.holds.0 in
      let plain : R.plains ≡ plains_of m = plains_shown m R.plains R.options shows in
      record {
        options = R.options;
        values = λ n k. value_shown m R.plains R.options n shows (not_words names n outside k) (R.holds.1 n k);
        allowed = R.allowed;
        split = λ v. subst (λ ps. Splits words ps R.options) plain (R.split v);
        only = λ ps gs s allowed once.
            let T = taken ps gs s allowed once in
            let here : Shows ps gs (rows_of (found_of m)) = subst (λ rs. Shows ps gs rs) (sym are) T.1.0 in
            (plains_shown m ps gs here, λ n k. value_shown m ps gs n here (not_words names n outside k) (once n k));
      }

  none_taken : (fault_of (simple_app word names) words ≡ [] → ⊥) → NoneFits names words
  none_taken h ps gs s allowed once = h (fault_if word names words (taken ps gs s allowed once).0)

  -- by clap's contract
  pub found_matches : (a : App) (m : ArgMatches) → a ≡ simple_app word names → AllByRecursion IsUtf8 words → (is_simple_and_free a ≡ true → fault_of a words ≡ []) → HasMatchesOf a words m → IsFound names words m
  found_matches a m is u none has =
      let simple : is_simple_and_free a ≡ true = ap is_simple_and_free is ∙ is_simple_here word names in
      found m u (sym (ap (λ b. fault_of b words) is) ∙ none simple) ((has (and_first (is_simple a) _ simple)).0 ∙ ap (λ b. matches_of b words) is)

  pub refused_words : (a : App) (e : Error) (r : WordsError) → a ≡ simple_app word names → (is_simple_and_free a ≡ true → HasKind (fault_of a words) e) → OnUsage r (kind_of e ≡ kind.OutOfMemory → ⊥) → OnUsage r (NoneFits names words)
  refused_words a e OutOfMemory is has h = tt
  refused_words a e Usage is has h =
      let simple : is_simple_and_free a ≡ true = ap is_simple_and_free is ∙ is_simple_here word names in
      none_taken (λ none. no_kind (fault_of a words) (ap (λ b. fault_of b words) is ∙ none) (has simple))
    where
      no_kind : (ks : Kinds) → ks ≡ [] → HasKind ks e → ⊥
      no_kind [] none (inl memory) = h memory
      no_kind [] none (inr among) = among
      no_kind (k ∷ ks) none has = cc

-- the bytes of strings are UTF-8
pub all_utf8 : {Z : Type 0} (ws : List (String Z)) → AllByRecursion IsUtf8 (map string_bytes ws)
all_utf8 [] = tt
all_utf8 (w ∷ ws) = (IsUtf8-string_bytes w, all_utf8 ws)
