-- What the parts of the reader answer.
use Rattle.std.specs.Prelude.{◌≡◌, ℕ, ◌≤◌, List, [], ◌∷◌, ◌||◌, length, true, IsTrue, codes, bytes_eq, if◌then◌else◌, Option, Some, None, Result, Ok, Err, option_map, unwrap_or}
use Rattle.argos_base.specs.Limits.{aspect_limit}
use Rattle.argos_base.specs.Spelling.{is_digits, number_of, is_one_of}
use Rattle.clap.specs.Matches.{found_of, first_value, matched_of, raw_values}
use Rattle.clap.specs.declared.parser.matches.ArgMatches.{ArgMatches}
use Rattle.argos_words.specs.declared.command.Command as code_command
use Rattle.argos_words.specs.declared.command.WordsError.{WordsError}
use Rattle.argos_words.specs.declared.command.WordsError.TheVariants.{Usage, OutOfMemory}
use Rattle.argos_words.specs.Words.{Words, Command, check, compile, weave, simulate, equiv, sample, Given, Splits, AreAllowed, IsBudget, IsOneTarget, IsCount, IsCommand, IsUsage, command_word, values_of}
use Rattle.argos_words.specs.Simple.{AreUndashed, IsOnceEach}
use Rattle.argos_words.specs.Views.{command_of}

-- the one fault, or no memory
abbrev pub OnUsage : WordsError → Type 0 → Type 0
OnUsage Usage P = P
OnUsage OutOfMemory P = Unit {0}

-- at most so many digits, which spell this number of at most so much
pub record IsWithin (text : List ℕ) (digits most n : ℕ) : Type 0 where
  pub spelled : IsTrue (is_digits text)
  pub short : length text ≤ digits
  pub number : number_of text ≡ n
  pub low : n ≤ most

-- the options of the command with this word
abbrev pub options_of : List ℕ → Words
options_of word =
    if bytes_eq word (codes "compile") || bytes_eq word (codes "weave") then codes "to" ∷ codes "nodes" ∷ []
    else if bytes_eq word (codes "check") || (bytes_eq word (codes "simulate") || bytes_eq word (codes "equiv")) then codes "nodes" ∷ []
    else []

-- none of them, or one
abbrev pub at_most_one : Option (List ℕ) → Words
at_most_one None = []
at_most_one (Some value) = value ∷ []

-- the plain words that clap found, and the value under an id
abbrev pub plains_of : ArgMatches → Words
plains_of m = unwrap_or (option_map raw_values (matched_of (found_of m) (codes "words"))) []

abbrev pub value_of : List ℕ → ArgMatches → Words
value_of id m = at_most_one (first_value (found_of m) id)

-- The words are the plain ones that clap found and some options with the values that it found, and no other ones. Clap takes a dash alone as the value of an option, which the words may not have.
pub record IsFound (names words : Words) (m : ArgMatches) : Type 0 where
  pub options : List Given
  pub values : (n : List ℕ) → is_one_of names n ≡ true → values_of n options ≡ value_of n m
  pub allowed : AreAllowed names options
  pub split : AreUndashed options → Splits words (plains_of m) options
  pub only : (ps : Words) (gs : List Given) → Splits words ps gs → AreAllowed names gs → IsOnceEach names gs
      → (ps ≡ plains_of m) × ((n : List ℕ) → is_one_of names n ≡ true → values_of n gs ≡ value_of n m)

-- the words are no plain ones and options of these names, each once at most
abbrev pub NoneFits : Words → Words → Type 0
NoneFits names words = (ps : Words) (gs : List Given) → Splits words ps gs → AreAllowed names gs → IsOnceEach names gs → ⊥

-- the plain words, the values of `--to` and those of `--nodes` are those of the command
abbrev pub Fits : Command → Words → Words → Words → Type 0
Fits (check file nodes) ps ts ns = (ps ≡ file ∷ []) × IsBudget ns nodes
Fits (compile file to nodes) ps ts ns = (ps ≡ file ∷ []) × IsOneTarget ts to × IsBudget ns nodes
Fits (weave file aspects to nodes) ps ts ns = (ps ≡ file ∷ aspects) × (1 ≤ length aspects) × (length aspects ≤ aspect_limit) × IsOneTarget ts to × IsBudget ns nodes
Fits (simulate file aspects nodes) ps ts ns = (ps ≡ file ∷ aspects) × (length aspects ≤ aspect_limit) × IsBudget ns nodes
Fits (equiv left right cert nodes) ps ts ns = (ps ≡ left ∷ right ∷ cert ∷ []) × IsBudget ns nodes
Fits (sample n) ps ts ns = (value : List ℕ) × (ps ≡ value ∷ []) × IsCount value n

abbrev pub FitsMatches : Command → ArgMatches → Type 0
FitsMatches c m = Fits c (plains_of m) (value_of (codes "to") m) (value_of (codes "nodes") m)

-- the command with this word that the matches are
abbrev pub HasCommand : List ℕ → ArgMatches → Result code_command.Command WordsError → Type 0
HasCommand word m (Ok c) = (command_word (command_of c) ≡ word) × FitsMatches (command_of c) m
HasCommand word m (Err e) = OnUsage e ((c : Command) → command_word c ≡ word → FitsMatches c m → ⊥)

-- the command that the words are
abbrev pub IsRead : Words → Result code_command.Command WordsError → Type 0
IsRead words (Ok c) = IsCommand words (command_of c)
IsRead words (Err e) = OnUsage e (IsUsage words)
