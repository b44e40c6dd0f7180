-- What the functions of the parser answer, one a rule.
use Rattle.std.specs.Prelude.{◌≡◌, ℕ, List, [], ◌∷◌, ◌++◌, length, codes, None, Result, MatchResult, false, if◌then◌else◌}
use Rattle.argos_tokens.specs.Tokens.{Token}
use Rattle.argos_grammar.specs.DueSymbols.{Symbol, Rule, text, version, count, number, name, rule, option, repeat, sets, side, claim, take_symbol, may_end}
use Rattle.argos_grammar.specs.Faults as faults
use Rattle.argos_grammar.specs.Faults.{Open, bracket, without_negations, is_long_name, is_wrong_number}
use Rattle.argos_grammar.specs.Refusals.{kind_of}
use Rattle.argos_grammar.specs.Runs.{Outcome, ended, stopped, outcome, IsSettled}
use Rattle.argos_grammar.specs.declared.errors.SyntaxKind.{SyntaxKind}
use Rattle.argos_grammar.specs.declared.errors.SyntaxKind.TheVariants as kinds
use Rattle.argos_parser.specs.declared.parser.Stop.{Stop}
use Rattle.argos_parser.specs.declared.parser.Stop.TheVariants as stops

-- the outcome that a refusal speaks of; want of memory speaks of none
abbrev pub said : Stop → Outcome → Outcome
said stops.Ended x = ended false
said (stops.Wrong at kind) x = stopped at (kind_of kind)
said (stops.TooDeep at) x = stopped at faults.TooDeep
said stops.OutOfMemory x = x

-- Where these symbols are due before others, this refusal is right.
abbrev pub Refuses : List Symbol → List Open → List Token → Stop → Type 0
Refuses due os ts e = outcome due os ts ≡ said e (outcome due os ts)

-- The symbols take the tokens up to the rest, or the refusal is right, whatever else is due.
abbrev pub Answers : {T : Type 0} → List Symbol → List Token → Result T Stop → List Token → Type 0
Answers ss ts result rest = (due : List Symbol) (os : List Open) → IsSettled os
    → MatchResult result (λ _. outcome (ss ++ due) os ts ≡ outcome due os rest) (λ e. Refuses (ss ++ due) os ts e)

-- the same before a word that is due for certain
abbrev pub AnswersBefore : {T : Type 0} → List ℕ → List Symbol → List Token → Result T Stop → List Token → Type 0
AnswersBefore w ss ts result rest = (due : List Symbol) (os : List Open) → IsSettled os
    → MatchResult result (λ _. outcome (ss ++ text w ∷ due) os ts ≡ outcome (text w ∷ due) os rest) (λ e. Refuses (ss ++ text w ∷ due) os ts e)

-- the same where so much is open
abbrev pub AnswersAt : {T : Type 0} → List Symbol → ℕ → List Token → Result T Stop → List Token → Type 0
AnswersAt ss depth ts result rest = (due : List Symbol) (os : List Open) → length os ≡ depth → IsSettled os
    → MatchResult result (λ _. outcome (ss ++ due) os ts ≡ outcome due os rest) (λ e. Refuses (ss ++ due) os ts e)

-- the sets of a trace, before their bracket that closes
abbrev pub AnswersSets : {T : Type 0} → ℕ → List Token → Result T Stop → List Token → Type 0
AnswersSets depth ts result rest = (due : List Symbol) (os : List Open) → length os ≡ depth → IsSettled os
    → MatchResult result (λ _. outcome (option sets ∷ text (codes "]") ∷ due) os ts ≡ outcome (text (codes "]") ∷ due) os rest) (λ e. Refuses (option sets ∷ text (codes "]") ∷ due) os ts e)

-- what is said of one register
abbrev pub AnswersClaimed : {T : Type 0} → List Token → Result T Stop → List Token → Type 0
AnswersClaimed ts result rest = (due : List Symbol) (os : List Open)
    → MatchResult result (λ _. outcome (rule side ∷ number ∷ rule claim ∷ due) os ts ≡ outcome due (without_negations os) rest) (λ e. Refuses (rule side ∷ number ∷ rule claim ∷ due) os ts e)

-- a unit, which ends each `not` before it
abbrev pub AnswersUnit : {T : Type 0} → Rule → ℕ → List Token → Result T Stop → List Token → Type 0
AnswersUnit r depth ts result rest = (due : List Symbol) (os : List Open) → length os ≡ depth
    → MatchResult result (λ _. outcome (rule r ∷ due) os ts ≡ outcome due (without_negations os) rest) (λ e. Refuses (rule r ∷ due) os ts e)

-- the same after its `not`, and in parentheses
abbrev pub AnswersNot : {T : Type 0} → Rule → ℕ → List Token → Result T Stop → List Token → Type 0
AnswersNot r depth ts result rest = (due : List Symbol) (os : List Open) → length os ≡ depth
    → MatchResult result (λ _. outcome (text (codes "not") ∷ rule r ∷ due) os ts ≡ outcome due (without_negations os) rest) (λ e. Refuses (text (codes "not") ∷ rule r ∷ due) os ts e)

abbrev pub AnswersEnclosed : {T : Type 0} → Rule → ℕ → List Token → Result T Stop → List Token → Type 0
AnswersEnclosed r depth ts result rest = (due : List Symbol) (os : List Open) → length os ≡ depth
    → MatchResult result (λ _. outcome (text (codes "(") ∷ rule r ∷ text (codes ")") ∷ due) os ts ≡ outcome due (without_negations os) rest)
    (λ e. Refuses (text (codes "(") ∷ rule r ∷ text (codes ")") ∷ due) os ts e)

-- a bracket that opens, or a `not`
abbrev pub Opens : {T : Type 0} → List ℕ → Open → ℕ → List Token → Result T Stop → List Token → Type 0
Opens w o depth ts result rest = (due : List Symbol) (os : List Open) → length os ≡ depth
    → MatchResult result (λ _. outcome (text w ∷ due) os ts ≡ outcome due (o ∷ os) rest) (λ e. Refuses (text w ∷ due) os ts e)

-- a bracket that closes
abbrev pub Closes : {T : Type 0} → List ℕ → List Token → Result T Stop → List Token → Type 0
Closes w ts result rest = (due : List Symbol) (os : List Open)
    → MatchResult result (λ _. outcome (text w ∷ due) (bracket ∷ os) ts ≡ outcome due (without_negations os) rest) (λ e. Refuses (text w ∷ due) (bracket ∷ os) ts e)

-- one token that opens and closes nothing
abbrev pub AnswersToken : {T : Type 0} → Symbol → List Token → Result T Stop → List Token → Type 0
AnswersToken s ts result rest = (due : List Symbol) (os : List Open)
    → MatchResult result (λ _. outcome (s ∷ due) os ts ≡ outcome due (without_negations os) rest) (λ e. Refuses (s ∷ due) os ts e)

-- a number, whatever it is for
abbrev pub IsNumeric : Symbol → Type 0
IsNumeric version = Unit {0}
IsNumeric count = Unit {0}
IsNumeric number = Unit {0}
IsNumeric (text s) = ⊥
IsNumeric name = ⊥
IsNumeric (rule r) = ⊥
IsNumeric (option r) = ⊥
IsNumeric (repeat r) = ⊥

-- the symbols don't take the first token, unless it is a name too long or a wrong number; nor may they end there
abbrev pub Declines : List Symbol → List Token → Type 0
Declines due [] = may_end due ≡ false
Declines due (t ∷ ts) = is_long_name t.text ≡ false → is_wrong_number t.text ≡ false → take_symbol due t.text ≡ None

-- why a token can't stand where it isn't due
abbrev pub mismatch : List ℕ → SyntaxKind
mismatch t = if is_long_name t then kinds.LongName else (if is_wrong_number t then kinds.Number else kinds.Token)
