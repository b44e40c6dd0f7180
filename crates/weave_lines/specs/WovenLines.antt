-- The lines of a woven system: those of the base and of the observer, their copies along the advice's trace, and those that join them. Source: this project.
use Rattle.std.specs.Prelude.{ℕ, ◌+◌, ◌-◌, ◌*◌, List, [], ◌∷◌, ◌++◌, Bool, true, false, if◌then◌else◌, map, length, slice_index_or}
use Rattle.std.specs.List.{range_with_len}
use Rattle.argos_base.specs.SignalSets.{SignalSet}
use Rattle.argos_aspects.specs.Aspects.{Seen, input, output, Advice, Onset, to_initial, to_current}
use Rattle.argos_aspects.specs.Weaving.{unrolled}
use Rattle.eqn_core.specs.Equations.{Literal, Choice, code, word, next, Case, Line, all, any, within, digit, choose, Equations, registers, bit_lines, word_lines}

-- the number that stands for number k, where the first ones are given, and the others take the numbers from `first` on
abbrev pub placed : List ℕ → ℕ → ℕ → ℕ
placed given first k = slice_index_or given k (first + (k - length given))

-- a line with other bits and words
abbrev pub moved_literal : (ℕ → ℕ) → Literal → Literal
moved_literal bit l = record { bit = bit l.bit; negated = l.negated }

abbrev pub moved_choice : (ℕ → ℕ) → Choice → Choice
moved_choice place (code n) = code n
moved_choice place (word w) = word (place w)
moved_choice place (next w) = next (place w)

abbrev pub moved_case : (ℕ → ℕ) → (ℕ → ℕ) → Case → Case
moved_case bit place c = record { when = moved_literal bit c.when; choice = moved_choice place c.choice }

abbrev pub moved_line : (ℕ → ℕ) → (ℕ → ℕ) → Line → Line
moved_line bit place (all ls) = all (map (moved_literal bit) ls)
moved_line bit place (any ls) = any (map (moved_literal bit) ls)
moved_line bit place (within w lo hi) = within (place w) lo hi
moved_line bit place (digit w d) = digit (place w) d
moved_line bit place (choose cases other) = choose (map (moved_case bit place) cases) (moved_choice place other)

-- the lines of a system once more, from bit b and word w on: these bits are its inputs, and these words its registers
abbrev pub copied : Equations → List ℕ → ℕ → List ℕ → ℕ → List Line
copied E bits b words w = map (moved_line (placed bits b) (placed words w)) E.lines

-- the words that hold the memories of the base and of the observer
pub record Words : Type 0 where
  pub base : List ℕ
  pub observer : List ℕ

abbrev pub bit_seen : List ℕ → List ℕ → Seen → ℕ
bit_seen bits outputs (input k) = slice_index_or bits k 0
bit_seen bits outputs (output k) = slice_index_or outputs k 0

abbrev pub plus : ℕ → Literal
plus b = record { bit = b; negated = false }

abbrev pub minus : ℕ → Literal
minus b = record { bit = b; negated = true }

-- bit `one` is true, and the next one false
abbrev pub constants : ℕ → SignalSet → List ℕ
constants one v = map (λ (x : Bool). if x then one else one + 1) v

-- at the join point the advised value, else the bit
abbrev pub output_line : ℕ → Bool → ℕ → Line
output_line join true b = any (plus join ∷ plus b ∷ [])
output_line join false b = all (minus join ∷ plus b ∷ [])

abbrev pub output_lines : ℕ → SignalSet → List ℕ → List Line
output_lines join [] bits = []
output_lines join (x ∷ outs) [] = []
output_lines join (x ∷ outs) (b ∷ bits) = output_line join x b ∷ output_lines join outs bits

-- at the join point the choice, else the word
abbrev pub next_lines : ℕ → List Choice → List ℕ → List Line
next_lines join [] words = []
next_lines join (c ∷ choices) [] = []
next_lines join (c ∷ choices) (w ∷ words) = choose (record { when = plus join; choice = c } ∷ []) (word w) ∷ next_lines join choices words

-- the systems of the base and of the observer
module _ (W J : Equations) where
  -- the bits of the base's outputs, and the words of the next memories, in one copy of both: the base from bit b and word w on
  abbrev pub base_outputs : List ℕ → ℕ → List ℕ
  base_outputs bits b = map (placed bits b) W.outputs

  abbrev pub moved_on : Words → ℕ → Words
  moved_on x w = record { base = map (placed x.base w) W.next; observer = map (placed x.observer (w + word_lines W.lines)) J.next }

  abbrev pub bits_together : ℕ
  bits_together = bit_lines W.lines + bit_lines J.lines

  abbrev pub words_together : ℕ
  words_together = word_lines W.lines + word_lines J.lines

  -- the words of the next memories behind one copy for each set of the trace
  abbrev pub behind : List SignalSet → Words → ℕ → Words
  behind [] x w = x
  behind (v ∷ trace) x w = behind trace (moved_on x w) (w + words_together)

  -- where the parts of the woven system begin
  abbrev pub input_bits : List ℕ
  input_bits = range_with_len 0 W.inputs

  abbrev pub register_words : Words
  register_words = record { base = range_with_len 0 (registers W); observer = range_with_len (registers W) (registers J) }

  abbrev pub first_bit : ℕ
  first_bit = W.inputs + 2

  abbrev pub first_word : ℕ
  first_word = registers W + registers J

  -- the words of the next memories without the advice
  abbrev pub ordinary : Words
  ordinary = moved_on register_words first_word

-- and what the observer sees
module _ (W J : Equations) (seen : List Seen) where
  abbrev pub seen_bits : List ℕ → ℕ → List ℕ
  seen_bits bits b = map (bit_seen bits (base_outputs W J bits b)) seen

  -- one copy of both, behind each other: the base from bit b and word w on
  abbrev pub together : List ℕ → Words → ℕ → ℕ → List Line
  together bits x b w = copied W bits b x.base w ++ copied J (seen_bits bits b) (b + bit_lines W.lines) x.observer (w + word_lines W.lines)

  abbrev pub join_bit : List ℕ → ℕ → ℕ
  join_bit bits b = placed (seen_bits bits b) (b + bit_lines W.lines) (slice_index_or J.outputs 0 0)

  -- one copy for each set of the trace
  abbrev pub along : ℕ → List SignalSet → Words → ℕ → ℕ → List Line
  along one [] x b w = []
  along one (v ∷ trace) x b w = together (constants one v) x b w ++ along one trace (moved_on W J x w) (b + bits_together W J) (w + words_together W J)

  abbrev pub join : ℕ
  join = join_bit (input_bits W J) (first_bit W J)

-- and the advice
module _ (W J : Equations) (seen : List Seen) (A : Advice) where
  -- the sets of the trace for which there is a copy
  abbrev pub copies : List SignalSet
  copies = unrolled A.onset A.trace

  -- where the bits of the outputs begin, and the next words
  abbrev pub output_bit : ℕ
  output_bit = first_bit W J + bits_together W J + length copies * bits_together W J

  abbrev pub next_word : ℕ
  next_word = first_word W J + words_together W J + length copies * words_together W J

  -- what the advice makes of the next memories: those behind the trace, as codes or as words
  abbrev pub advised_choices : Onset → List ℕ → List Choice
  advised_choices to_initial memories = map code memories
  advised_choices to_current memories = let x = behind W J copies (register_words W J) (first_word W J + words_together W J) in map word (x.base ++ x.observer)

  abbrev pub woven_lines : List ℕ → List Line
  woven_lines memories =
      all [] ∷ any [] ∷ (together W J seen (input_bits W J) (register_words W J) (first_bit W J) (first_word W J)
      ++ (along W J seen W.inputs copies (register_words W J) (first_bit W J + bits_together W J) (first_word W J + words_together W J)
      ++ (output_lines (join W J seen) A.outs (base_outputs W J (input_bits W J) (first_bit W J))
      ++ next_lines (join W J seen) (advised_choices A.onset memories) ((ordinary W J).base ++ (ordinary W J).observer))))

  -- the system with the aspect; the memories are those behind the trace of advice that starts at the initial pair
  abbrev pub woven_equations : List ℕ → Equations
  woven_equations memories = record {
    inputs = W.inputs;
    initial = W.initial ++ J.initial;
    lines = woven_lines memories;
    outputs = range_with_len output_bit (length W.outputs);
    locals = [];
    next = range_with_len next_word (registers W + registers J);
  }
