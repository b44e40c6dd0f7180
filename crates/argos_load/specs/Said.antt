-- The answers that are due, and the texts that are written with them. Source: this project.
use Rattle.std.specs.Prelude.{ℕ, List, ◌++◌, codes, decimal}
use Rattle.argos_report.specs.Texts.{line, refused_file}
use Rattle.eqn_file.specs.EquationFile.{EquationKind, spelling, range, repeated_name, behind_end}
use Rattle.trace_io.specs.Lines.{LineKind, Unknown, Spelling, TooLong, TooMany}

-- the answers that are due by the words, the files and the input
pub data Answer : Type 0 where
  Yes No Usage Refused : Answer

-- an answer, and what is written with it
pub record Said : Type 0 where
  pub answer : Answer
  pub bytes : List ℕ

abbrev pub said : Answer → List ℕ → Said
said a bs = record { answer = a; bytes = bs }

abbrev pub usage_text : List ℕ
usage_text = line (codes "usage: argos check|compile|weave|simulate|equiv|sample")

abbrev pub read_fault_file : ℕ → List ℕ
read_fault_file k = line (codes "read fault: file " ++ decimal k)

abbrev pub read_fault_line : ℕ → List ℕ
read_fault_line n = line (codes "read fault: line " ++ decimal n)

abbrev pub too_long_text : ℕ → List ℕ
too_long_text k = refused_file k (codes "longer than 1048576 bytes")

-- the verdict yes
abbrev pub yes_text : List ℕ
yes_text = line (codes "yes")

-- how an equation file begins, and a C file
abbrev pub equations_head : List ℕ
equations_head = codes "argos-eq "

abbrev pub c_head : List ℕ
c_head = codes "/* argos-c "

-- what is wrong with a line of an equation file
abbrev pub equation_kind_word : EquationKind → List ℕ
equation_kind_word spelling = codes "spelling"
equation_kind_word range = codes "range"
equation_kind_word repeated_name = codes "name"
equation_kind_word behind_end = codes "after"

-- the first bad line of equation file k
abbrev pub equation_cause : ℕ → EquationKind → List ℕ
equation_cause at kind = codes "line " ++ decimal at ++ codes ": " ++ equation_kind_word kind

abbrev pub equation_fault_text : ℕ → ℕ → EquationKind → List ℕ
equation_fault_text k at kind = refused_file k (equation_cause at kind)

-- the first line of C file k that isn't due
abbrev pub c_cause : ℕ → List ℕ
c_cause at = codes "line " ++ decimal at ++ codes ": not of the subset"

abbrev pub c_fault_text : ℕ → ℕ → List ℕ
c_fault_text k at = refused_file k (c_cause at)

-- what is wrong with a line of a trace
abbrev pub line_cause : LineKind → List ℕ
line_cause Unknown = codes "unknown name"
line_cause Spelling = codes "spelling"
line_cause TooLong = codes "too long"
line_cause TooMany = codes "too many lines"

-- a refusal of line n
abbrev pub bad_line_text : ℕ → LineKind → List ℕ
bad_line_text n kind = line (codes "refused: line " ++ decimal n ++ codes ": " ++ line_cause kind)

abbrev pub long_trace_text : List ℕ
long_trace_text = line (codes "refused: trace longer than 1048576 bytes")
