-- Whether a system is ordered, as tests that compute. A lemma says that these are what `IsOrdered` asks.
use Rattle.std.specs.Prelude.{ℕ, ◌+◌, List, [], ◌∷◌, Bool, true, ◌&&◌, nat_eq, nat_le, length}
use Rattle.argos_base.specs.Limits as limits
use Rattle.eqn_core.specs.Equations.{Line, bits_of_line, words_of_line, Equations, registers, bit_count, word_count}
use Rattle.eqn_core.specs.Ordered.{line_below, all_below, all_between}

abbrev pub within_limits : Equations → Bool
within_limits E = nat_le 1 (registers E) && (nat_le (registers E) limits.register_limit && (nat_le E.inputs limits.signal_limit && (nat_le (length E.outputs) limits.signal_limit && nat_le (length E.lines) limits.line_limit)))

-- with so many bits and words before them, the lines read earlier ones only
abbrev pub lines_in_order : ℕ → ℕ → List Line → Bool
lines_in_order bits words [] = true
lines_in_order bits words (l ∷ lines) = line_below bits words l && lines_in_order (bits + bits_of_line l) (words + words_of_line l) lines

abbrev pub ends_exist : Equations → Bool
ends_exist E = nat_eq (length E.next) (registers E) && (all_between (registers E) (word_count E) E.next && (all_below (bit_count E) E.outputs && nat_eq (length E.locals) 0))

abbrev pub is_ordered : Equations → Bool
is_ordered E = within_limits E && (lines_in_order E.inputs (registers E) E.lines && ends_exist E)
