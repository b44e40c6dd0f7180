-- The bytes of the parts of an equation file.
use Rattle.std.specs.Prelude.{ℕ, List, [], ◌∷◌, ◌++◌, codes}
use Rattle.argos_base.specs.Names.{Spelled}
use Rattle.eqn_core.specs.declared.system.Case.{Case}
use Rattle.eqn_core.specs.declared.system.Line.{Line}
use Rattle.eqn_core.specs.Views.{literal_of, choice_of, line_of}
use Rattle.line_format.specs.Numerals.{numeral}
use Rattle.eqn_file.specs.EquationFile.{literal_text, choice_words, line_words, spaced}
use Rattle.eqn_file.specs.inner.Words.{behind_spaces}

-- a word, a space, a number and a LF
abbrev pub keyed_line : Spelled → ℕ → List ℕ
keyed_line word n = word ++ 32 ∷ (numeral n ++ 10 ∷ [])

-- each line with its LF
abbrev pub lines_text : List Spelled → List ℕ
lines_text [] = []
lines_text (l ∷ lines) = l ++ 10 ∷ lines_text lines

abbrev pub places_text : Spelled → List ℕ → List ℕ
places_text word [] = []
places_text word (p ∷ places) = keyed_line word p ++ places_text word places

abbrev pub line_text : Line → List ℕ
line_text l = spaced (line_words (line_of l))

-- a case behind a space
abbrev pub case_text : Case → List ℕ
case_text c = codes " when" ++ (32 ∷ literal_text (literal_of c.when)) ++ behind_spaces (choice_words (choice_of c.pick))

abbrev pub cases_text : List Case → List ℕ
cases_text [] = []
cases_text (c ∷ cases) = case_text c ++ cases_text cases
