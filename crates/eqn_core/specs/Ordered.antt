-- Systems in which each line reads inputs, registers and earlier lines alone. Source: this project.
use Rattle.std.specs.Prelude.{◌≡◌, ℕ, ◌+◌, ◌≤◌, ◌++◌, List, [], ◌∷◌, Bool, true, ◌&&◌, nat_lt, nat_le, length}
use Rattle.argos_base.specs.Limits as limits
use Rattle.std.specs.List.{list_all}
use Rattle.eqn_core.specs.Equations.{Literal, Choice, code, word, next, Case, Line, all, any, within, digit, choose, Equations, registers, bit_lines, word_lines, bit_count, word_count}

abbrev pub literal_below : ℕ → Literal → Bool
literal_below bits l = nat_lt l.bit bits

abbrev pub choice_below : ℕ → Choice → Bool
choice_below words (code n) = nat_le n limits.code_limit
choice_below words (word w) = nat_lt w words
choice_below words (next w) = nat_lt w words

abbrev pub case_below : ℕ → ℕ → Case → Bool
case_below bits words c = literal_below bits c.when && choice_below words c.choice

-- a line reads bits and words below these numbers; bounds are in order, and a digit's place is at most 15
abbrev pub line_below : ℕ → ℕ → Line → Bool
line_below bits words (all ls) = list_all (literal_below bits) ls
line_below bits words (any ls) = list_all (literal_below bits) ls
line_below bits words (within w lo hi) = nat_lt w words && (nat_le lo hi && nat_le hi limits.code_limit)
line_below bits words (digit w place) = nat_lt w words && nat_le place 15
line_below bits words (choose cases other) = list_all (case_below bits words) cases && choice_below words other

abbrev pub all_below : ℕ → List ℕ → Bool
all_below n = list_all (λ k. nat_lt k n)

abbrev pub all_between : ℕ → ℕ → List ℕ → Bool
all_between lo n = list_all (λ k. nat_le lo k && nat_lt k n)

-- what an ordered system keeps
pub record IsOrdered (E : Equations) : Type 0 where
  pub some_register : 1 ≤ registers E
  pub register_limit : registers E ≤ limits.register_limit
  pub input_limit : E.inputs ≤ limits.signal_limit
  pub output_limit : length E.outputs ≤ limits.signal_limit
  pub line_limit : length E.lines ≤ limits.line_limit
  pub codes : all_below 65536 E.initial ≡ true
  -- each line reads inputs, registers and what the lines before it define
  pub each : (before : List Line) (line : Line) (after : List Line) → E.lines ≡ before ++ line ∷ after → line_below (E.inputs + bit_lines before) (registers E + word_lines before) line ≡ true
  pub next_sized : length E.next ≡ registers E
  pub next_exist : all_between (registers E) (word_count E) E.next ≡ true
  pub outputs_exist : all_below (bit_count E) E.outputs ≡ true
  pub no_locals : E.locals ≡ []
