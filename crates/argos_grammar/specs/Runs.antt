-- What comes of a list of tokens where symbols are due.
use Rattle.std.specs.Prelude.{◌≡◌, ℕ, List, [], ◌∷◌, length, bytes_eq, Result, Ok, Err, Bool, false, ◌&&◌, not, nat_lt}
use Rattle.argos_base.specs.Limits.{name_limit}
use Rattle.argos_base.specs.Spelling.{is_digits}
use Rattle.argos_tokens.specs.Tokens.{Token}
use Rattle.argos_grammar.specs.DueSymbols.{Symbol, may_end}
use Rattle.argos_grammar.specs.Faults.{Kind, Open, Standing, judge, without_negations, is_opening, is_closing, is_not}

-- all tokens are taken, and the text may end there or not; or a row of faults holds of the token at this place
pub data Outcome : Type 0 where
  ended : Bool → Outcome
  stopped : ℕ → Kind → Outcome

abbrev pub after_judging : ℕ → Result Standing Kind → (Standing → Outcome) → Outcome
after_judging at (Ok s) more = more s
after_judging at (Err k) more = stopped at k

-- what comes of these tokens where these symbols are due and so much is open
unfoldable pub outcome : List Symbol → List Open → List Token → Outcome
outcome due os [] = ended (may_end due)
outcome due os (t ∷ ts) = after_judging t.at (judge (record { due = due; open_now = os }) t.text) (λ s. outcome s.due s.open_now ts)

-- the text of the first token is this
abbrev pub begins_with : List ℕ → List Token → Bool
begins_with w [] = false
begins_with w (t ∷ ts) = bytes_eq t.text w

-- no `not`'s unit ends before the next token
abbrev pub IsSettled : List Open → Type 0
IsSettled os = without_negations os ≡ os

-- no long name and no number
abbrev pub is_short : List ℕ → Bool
is_short w = not (nat_lt name_limit (length w)) && not (is_digits w)

-- a word or symbol that opens nothing and closes nothing; a bracket that opens; one that closes
abbrev pub is_plain : List ℕ → Bool
is_plain w = is_short w && not (is_opening w) && not (is_closing w) && not (is_not w)

abbrev pub opens : List ℕ → Bool
opens w = is_short w && is_opening w

abbrev pub closes : List ℕ → Bool
closes w = is_short w && is_closing w && not (is_opening w) && not (is_not w)
