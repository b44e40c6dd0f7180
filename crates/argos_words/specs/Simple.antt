-- The simple commands of clap that read the words after the command, as clap's specs see them.
use Rattle.std.specs.Prelude.{◌≡◌, ℕ, ◌≤◌, List, [], ◌∷◌, map, length, true, false, codes, bytes_eq, if◌then◌else◌, Option, Some, None}
use Rattle.clap.specs.Walk.{Rule, Row, all_of}
use Rattle.clap.specs.Simple.{App, Shape, new_rule, new_shape}
use Rattle.clap.specs.declared.builder.action.ArgAction.TheVariants.{Append}
use Rattle.std.specs.List.{AllByRecursion}
use Rattle.argos_base.specs.Spelling.{is_one_of}
use Rattle.argos_words.specs.Words.{Words, Given, values_of, begins_with_dash}

-- the plain words, as one positional argument
abbrev pub plain_rule : Rule
plain_rule = record (new_rule (codes "words")) { action = Some Append }

-- the option `--NAME VALUE`
abbrev pub option_rule : List ℕ → Rule
option_rule name = record (new_rule name) { long = Some name }

-- the command with the options of these names
abbrev pub simple_shape : List ℕ → Words → Shape
simple_shape word names = record (new_shape word) {
  rules = plain_rule ∷ map option_rule names;
  no_binary_name = true;
  disable_help_flag = true;
}

abbrev pub simple_app : List ℕ → Words → App
simple_app word names = record { top = simple_shape word names; subs = [] }

-- values as clap lists them: none at all, or some
abbrev pub listed : Words → Option Words
listed [] = None
listed (v ∷ vs) = Some (v ∷ vs)

-- what is given under an id of clap
abbrev pub given_under : Words → List Given → List ℕ → Words
given_under ps gs id = if bytes_eq id (codes "words") then ps else values_of id gs

-- the rows hold these plain words and these options
abbrev pub Shows : Words → List Given → List Row → Type 0
Shows ps gs rows = (id : List ℕ) → all_of id rows ≡ listed (given_under ps gs id)

-- no option of these names is given twice
abbrev pub IsOnceEach : Words → List Given → Type 0
IsOnceEach names gs = (n : List ℕ) → is_one_of names n ≡ true → length (values_of n gs) ≤ 1

-- no value begins with a dash
abbrev pub AreUndashed : List Given → Type 0
AreUndashed = AllByRecursion (λ g. begins_with_dash g.value ≡ false)
