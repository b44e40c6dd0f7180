-- The C step of an ordered system: inputs, lines, outputs, and the registers last. Source: this project.
use Rattle.std.specs.Prelude.{ℕ, zero, suc, ◌+◌, List, [], ◌∷◌, ◌++◌, true, false, max}
use Rattle.eqn_core.specs.Equations.{Literal, word, Line, all, any, within, digit, choose, bits_of_line, words_of_line, Equations, registers, bit_count, word_count}
use Rattle.line_format.specs.FileNames.{FileNames}
use Rattle.c_step.specs.CStep.{CValue, constant, each_of, some_of, between, digit_of, input_of, CStat, set_bit, set_word, set_out, CStep}

-- C has no `&&` of nothing, and no `||` of fewer than two
abbrev pub all_value : List Literal → CValue
all_value [] = constant true
all_value (l ∷ ls) = each_of (l ∷ ls)

abbrev pub any_value : List Literal → CValue
any_value [] = constant false
any_value (l ∷ []) = each_of (l ∷ [])
any_value (l ∷ k ∷ ls) = some_of (l ∷ k ∷ ls)

-- the statement of a line that defines bit b or word w
abbrev pub line_statement : ℕ → ℕ → Line → CStat
line_statement b w (all ls) = set_bit b (all_value ls)
line_statement b w (any ls) = set_bit b (any_value ls)
line_statement b w (within k lo hi) = set_bit b (between k lo hi)
line_statement b w (digit k place) = set_bit b (digit_of k place)
line_statement b w (choose cases other) = set_word w cases other

abbrev pub line_statements : ℕ → ℕ → List Line → List CStat
line_statements b w [] = []
line_statements b w (l ∷ lines) = line_statement b w l ∷ line_statements (b + bits_of_line l) (w + words_of_line l) lines

-- n inputs, from number j on
abbrev pub input_statements : ℕ → ℕ → List CStat
input_statements j zero = []
input_statements j (suc n) = set_bit j (input_of j) ∷ input_statements (j + 1) n

-- the outputs from number j on, and the registers from number r on
abbrev pub out_statements : ℕ → List ℕ → List CStat
out_statements j [] = []
out_statements j (k ∷ ks) = set_out j k ∷ out_statements (j + 1) ks

abbrev pub register_statements : ℕ → List ℕ → List CStat
register_statements r [] = []
register_statements r (w ∷ ws) = set_word r [] (word w) ∷ register_statements (r + 1) ws

abbrev pub statements_of : Equations → List CStat
statements_of E = input_statements 0 E.inputs ++ (line_statements E.inputs (registers E) E.lines ++ (out_statements 0 E.outputs ++ register_statements 0 E.next))

abbrev pub c_of : Equations → FileNames → CStep
c_of E n = record {
  names = n;
  words = word_count E;
  bits = max 1 (bit_count E);
  initial = E.initial;
  statements = statements_of E;
}
