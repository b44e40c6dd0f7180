-- The numbers that tables hold. Source: this project.
use Rattle.std.specs.Prelude.{slice_index_or}
use Rattle.eqn_completion.specs.Moving as plain
use Rattle.eqn_sort.specs.declared.tables.Tables.{Tables}

-- beyond its end a table changes no number
abbrev pub numbers_from : Tables → plain.Tables
numbers_from t = record { bits = λ k. slice_index_or t.bits.items k k; words = λ k. slice_index_or t.words.items k k; next_bit = t.next_bit; next_word = t.next_word }
