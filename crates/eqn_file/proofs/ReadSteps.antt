-- How the reader goes from part to part.
use Rattle.std.proofs.Common.{◌≡◌, ℕ, ◌+◌, List, [], ◌∷◌, ◌++◌, Bool, true, false, ◌&&◌, Option, Some, None, Result, Ok, Err, IsTrue, length, refl, sym, ap, ◌∙◌, subst, arith}
use Rattle.std.specs.Prelude.{nat_le, nat_lt, nat_eq, codes, if◌then◌else◌, IsOk, IfOk, IfErr, MatchResult}
use Rattle.std.proofs.lemmas.Bool.Decides.{nat_tests}
use Rattle.std.proofs.lemmas.List.{append-nil}
use Rattle.argos_base.specs.Names.{Spelled}
use Rattle.argos_base.specs.Spelling.{is_one_of}
use Rattle.eqn_core.specs.Equations.{Line, bit_lines, word_lines, Equations}
use Rattle.line_format.specs.FileNames.{FileNames}
use Rattle.line_format.specs.Lines.{IsLine, IsAt}
use Rattle.line_format.specs.declared.reader.LineReader.{LineReader}
use Rattle.line_format.proofs.Answering.{reading_steps}
use Rattle.line_format.proofs.ReaderSteps.{line_misspelled, at_the_end, behind_the_end}
use Rattle.eqn_file.specs.EquationFile.{FileLine, head, input_count, input_name, output_count, output_name, register_count, a_code, line_count, a_line, an_out, a_next, the_end, head_due, end_due, is_due_line, Stage, stage, no_system, no_names, EquationKind, spelling, range, repeated_name, unless, after_line, equation_format, EquationFault, IsEquationText}
use Rattle.eqn_file.specs.Errors.{TellsFault}
use Rattle.eqn_file.specs.inner.Words.{split}
use Rattle.eqn_file.specs.inner.WordReading.{keyed, one_name, one_number, read_line}
use Rattle.eqn_file.specs.inner.Taking.{Gives}
use Rattle.eqn_file.specs.inner.Sections.{IsPart, StandsAt, GoesOn, FailsIn, Moves, Stops, outside, stood_before, too_large, reads_ahead}
use Rattle.eqn_file.specs.inner.Stages.{system, behind_head, at_inputs, at_outputs, at_codes, at_lines, at_outs, at_nexts, at_end}
use Rattle.eqn_file.specs.declared.errors.EqError.{EqError}
use Rattle.eqn_file.specs.declared.errors.EqError.TheVariants as errors
use Rattle.eqn_file.specs.declared.errors.EqKind.TheVariants.{Spelling, After}
use Rattle.eqn_file.proofs.SpacedWords.{equation_clear, equation_read, equation_exact}
use Rattle.eqn_file.proofs.EquationTexts.{file_is_text}
use Rattle.eqn_file.proofs.PartSteps.{IsLineAt, IsNextLine, line_goes, gives_fault, missing_fault}

-- ranges, as the code tests them
up_to : (n last end : ℕ) → end ≡ last + 1 → nat_le n last ≡ (nat_le 0 n && nat_lt n end)
up_to n last end e = grind (arith, nat_tests)

from_one : (n last end : ℕ) → end ≡ last + 1 → (nat_le 1 n && nat_le n last) ≡ (nat_le 1 n && nat_lt n end)
from_one n last end e = ap (λ b. nat_le 1 n && b) (same n last end e)
  where
    same : (n last end : ℕ) → end ≡ last + 1 → nat_le n last ≡ nat_lt n end
    same n last end e = grind (arith, nat_tests)

from_zero : (n end : ℕ) → nat_lt n end ≡ (nat_le 0 n && nat_lt n end)
from_zero n end = grind (arith, nat_tests)

-- the lines that give counts
pub inputs_head : IsLineAt behind_head input_count (keyed (codes "inputs")) (outside 0 16385)
inputs_head = record { reads = λ ws. refl; wrongs = λ n. ap (unless range) (up_to n 16384 16385 refl); ongoing = refl }

pub outputs_head : (I : ℕ) (ins : List Spelled) → IsLineAt (at_inputs I 0 ins) output_count (keyed (codes "outputs")) (outside 0 16385)
outputs_head I ins = record { reads = λ ws. refl; wrongs = λ n. ap (unless range) (up_to n 16384 16385 refl); ongoing = refl }

pub registers_head : (I : ℕ) (ins outs : List Spelled) → IsLineAt (at_outputs I ins 0 outs) register_count (keyed (codes "registers")) (outside 1 100001)
registers_head I ins outs = record { reads = λ ws. refl; wrongs = λ n. ap (unless range) (from_one n 100000 100001 refl); ongoing = refl }

pub lines_head : (I : ℕ) (n : FileNames) (init : List ℕ) → IsLineAt (at_codes I n 0 init) line_count (keyed (codes "lines")) (outside 0 100000001)
lines_head I n init = record { reads = λ ws. refl; wrongs = λ k. ap (unless range) (up_to k 100000000 100000001 refl); ongoing = refl }

-- the parts
inputs_part : (I : ℕ) → IsPart input_name one_name (stood_before []) (at_inputs I)
inputs_part I = record { reads = λ k xs ws. refl; wrongs = λ k xs a. ap (λ z. if is_one_of z a then Some repeated_name else None) (append-nil xs); next = λ k xs a. refl; ongoing = λ k xs. refl }

pub inputs_part_at : (I : ℕ) (before : List Spelled) → before ≡ [] → IsPart input_name one_name (stood_before before) (at_inputs I)
inputs_part_at I before e = subst (λ b. IsPart input_name one_name (stood_before b) (at_inputs I)) (sym e) (inputs_part I)

pub outputs_part : (I : ℕ) (ins : List Spelled) → IsPart output_name one_name (stood_before ins) (at_outputs I ins)
outputs_part I ins = record { reads = λ k xs ws. refl; wrongs = λ k xs a. refl; next = λ k xs a. refl; ongoing = λ k xs. refl }

pub codes_part : (I : ℕ) (n : FileNames) → IsPart a_code one_number (λ _. too_large) (at_codes I n)
codes_part I n = record { reads = λ k xs ws. refl; wrongs = λ k xs a. refl; next = λ k xs a. refl; ongoing = λ k xs. refl }

pub lines_part : (I R : ℕ) (n : FileNames) (init : List ℕ) → length init ≡ R → IsPart a_line read_line (reads_ahead I R) (at_lines I n init)
lines_part I R n init e = subst (λ r. IsPart a_line read_line (reads_ahead I r) (at_lines I n init)) e (record { reads = λ k xs ws. refl; wrongs = λ k xs a. refl; next = λ k xs a. refl; ongoing = λ k xs. refl })

pub outs_part : (I bits : ℕ) (n : FileNames) (init : List ℕ) (ls : List Line) → bits ≡ I + bit_lines ls → IsPart an_out (keyed (codes "out")) (λ _. outside 0 bits) (at_outs I n init ls)
outs_part I bits n init ls e =
    subst (λ b. IsPart an_out (keyed (codes "out")) (λ _. outside 0 b) (at_outs I n init ls)) (sym e)
    (record { reads = λ k xs ws. refl; wrongs = λ k xs a. ap (unless range) (from_zero a (I + bit_lines ls)); next = λ k xs a. refl; ongoing = λ k xs. refl })

pub nexts_part : (I R words : ℕ) (n : FileNames) (init : List ℕ) (ls : List Line) (os : List ℕ) → R ≡ length init → words ≡ length init + word_lines ls → IsPart a_next (keyed (codes "next")) (λ _. outside R words) (at_nexts I n init ls os)
nexts_part I R words n init ls os e f =
    subst (λ r. IsPart a_next (keyed (codes "next")) (λ _. outside r words) (at_nexts I n init ls os)) (sym e)
    (subst (λ w. IsPart a_next (keyed (codes "next")) (λ _. outside (length init) w) (at_nexts I n init ls os)) (sym f)
    (record { reads = λ k xs ws. refl; wrongs = λ k xs a. refl; next = λ k xs a. refl; ongoing = λ k xs. refl }))

-- a count and a part
pub count_goes : (s : Stage) (say : ℕ → FileLine) (word : Spelled) (start end : ℕ) → IsLineAt s say (keyed word) (outside start end) → (old mid : LineReader) (at : ℕ) (bytes : List ℕ) (n : ℕ) → IsNextLine old mid at bytes
    → Gives (λ k. k) at (keyed word (split bytes)) (outside start end) (Ok n) → Moves s old (after_line s (say n)) mid
count_goes s say word start end is old mid at bytes n next g = λ whole h. line_goes s (after_line s (say n)) say (keyed word) (outside start end) is whole old mid at bytes n next g.0 g.1 refl h

pub count_stops : (s : Stage) (say : ℕ → FileLine) (word : Spelled) (start end : ℕ) → IsLineAt s say (keyed word) (outside start end) → (old mid : LineReader) (at : ℕ) (bytes : List ℕ) (e : EqError) → IsNextLine old mid at bytes
    → Gives (λ k. k) at (keyed word (split bytes)) (outside start end) (Err e) → Stops s old e
count_stops s say word start end is old mid at bytes e next g = λ whole h. gives_fault (λ k. k) s say (keyed word) (outside start end) is whole old mid at bytes e next g h

pub line_absent : (s : Stage) (old : LineReader) (e : EqError) → IsLine old.rest.now → e ≡ errors.Line old.number Spelling → equation_format.is_end s ≡ false → Stops s old e
line_absent s old e inner same ongoing = λ whole h. missing_fault s whole old e inner same ongoing h

-- a fixed line
pub record IsFixed (s : Stage) (line : FileLine) (text : List ℕ) : Type 0 where
  pub only : (c : FileLine) → IsTrue (is_due_line s.due c) → c ≡ line
  pub due : IsTrue (is_due_line s.due line)
  pub right : equation_format.wrong s line ≡ None
  pub spelt : equation_format.spelled line ≡ text
  pub ongoing : equation_format.is_end s ≡ false

only_head : (c : FileLine) → IsTrue (is_due_line head_due c) → c ≡ head
only_head head h = refl
only_head c h = absurd (cc h)

only_end : (c : FileLine) → IsTrue (is_due_line end_due c) → c ≡ the_end
only_end the_end h = refl
only_end c h = absurd (cc h)

pub head_fixed : IsFixed (stage head_due no_system no_names) head (codes "argos-eq 1")
head_fixed = record { only = only_head; due = refl; right = refl; spelt = refl; ongoing = refl }

pub end_fixed : (E : Equations) (n : FileNames) → IsFixed (stage end_due E n) the_end (codes "end")
end_fixed E n = record { only = only_end; due = refl; right = refl; spelt = refl; ongoing = refl }

pub fixed_goes : (s : Stage) (line : FileLine) (text : List ℕ) → IsFixed s line text → (old new : LineReader) (at : ℕ) (bytes : List ℕ) → IsNextLine old new at bytes → bytes ≡ text → Moves s old (after_line s line) new
fixed_goes s line text is old new at bytes next e = λ whole h.
    let moved : IsAt equation_format whole (old.number + 1) (after_line s line) new.rest.now =
    (reading_steps equation_format).goes_on whole old.number s old.rest.now line new.rest.now h is.due is.right (next.cut.text ∙ ap (λ z. z ++ 10 ∷ new.rest.now) (e ∙ sym is.spelt)) in
    subst (λ n. IsAt equation_format whole n (after_line s line) new.rest.now) (sym next.number) moved

pub fixed_stops : (s : Stage) (line : FileLine) (text : List ℕ) → IsFixed s line text → (old new : LineReader) (at : ℕ) (bytes : List ℕ) (e : EqError) → IsNextLine old new at bytes → (bytes ≡ text → ⊥) → e ≡ errors.Line at Spelling → Stops s old e
fixed_stops s line text is old new at bytes e next differs same = λ whole h.
    let fault : EquationFault whole old.number spelling = line_misspelled equation_format equation_read equation_clear equation_exact whole old.number s old.rest.now bytes new.rest.now h next.cut is.ongoing (unsaid (equation_read s bytes) refl) in
    subst (TellsFault whole) (sym same) (subst (λ n. EquationFault whole n spelling) (sym next.line) fault)
  where
    unsaid : (o : Option FileLine) → equation_read s bytes ≡ o → o ≡ None
    unsaid None k = refl
    unsaid (Some c) k = let p = equation_exact.is_said s bytes c k in absurd (differs (p.1 ∙ ap equation_format.spelled (is.only c p.0) ∙ is.spelt))

-- behind the last line
pub rest_stops : (s t : Stage) (old new : LineReader) (e : EqError) → Moves s old t new → IsTrue (equation_format.is_end t) → (new.rest.now ≡ [] → ⊥) → e ≡ errors.Line new.number After → Stops s old e
rest_stops s t old new e moves end some same = λ whole h. subst (TellsFault whole) (sym same) (behind_the_end equation_format whole new.number t new.rest.now (moves whole h) end some)

-- at the start
pub stands_first : (whole : List ℕ) (r : LineReader) → r.rest.now ≡ whole → r.number ≡ 1 → StandsAt whole r (stage head_due no_system no_names)
stands_first whole r e f = subst (λ n. IsAt equation_format whole n (stage head_due no_system no_names) r.rest.now) (sym f) (subst (λ z. IsAt equation_format whole 1 (stage head_due no_system no_names) z) (sym e) ((reading_steps equation_format).begins whole))

-- a part behind its count
pub part_moves : {A : Type 0} (say : A → FileLine) (said : List Spelled → Option A) (wrong : List A → A → Option EquationKind) (st : ℕ → List A → Stage) (s : Stage) (old mid new : LineReader) (count : ℕ) (xs : List A) → IsPart say said wrong st → Moves s old (st count []) mid → GoesOn say said wrong mid count new 0 xs
    → Moves s old (st 0 xs) new
part_moves say said wrong st s old mid new count xs p m go = λ whole h. go whole st p (m whole h)

pub part_fails : {A : Type 0} (say : A → FileLine) (said : List Spelled → Option A) (wrong : List A → A → Option EquationKind) (st : ℕ → List A → Stage) (s : Stage) (old mid : LineReader) (count : ℕ) (e : EqError) → IsPart say said wrong st → Moves s old (st count []) mid → FailsIn say said wrong mid count e → Stops s old e
part_fails say said wrong st s old mid count e p m fails = λ whole h. fails whole st p (m whole h)

-- as many inputs as were announced
pub inputs_counted : (old new : LineReader) (count : ℕ) (ins : List Spelled) → length ins ≡ count → Moves behind_head old (at_inputs count 0 ins) new → Moves behind_head old (at_inputs (length ins) 0 ins) new
inputs_counted old new count ins e m = subst (λ k. Moves behind_head old (at_inputs k 0 ins) new) (sym e) m

-- the system that was read
pub same_system : (I J : ℕ) (init : List ℕ) (ls : List Line) (os nx locals : List ℕ) → I ≡ J → locals ≡ [] → system I init ls os nx ≡ record { inputs = J; initial = init; lines = ls; outputs = os; locals = locals; next = nx }
same_system I J init ls os nx locals e f =
    ap (λ k. system k init ls os nx) e ∙ ap (λ (z : List ℕ). let E : Equations = record { inputs = J; initial = init; lines = ls; outputs = os; locals = z; next = nx } in E) (sym f)

pub text_read : (whole : List ℕ) (r : LineReader) (E G : Equations) (n : FileNames) → StandsAt whole r (at_end E n) → r.rest.now ≡ [] → E ≡ G → IsEquationText whole G n
text_read whole r E G n h e same = subst (λ (z : Equations). IsEquationText whole z n) same (file_is_text whole (at_end E n) (at_the_end equation_format whole r.number (at_end E n) r.rest.now h refl e))

pub no_err : {T E : Type 0} (r : Result T E) (e : E) → r ≡ Err e → IsOk r → ⊥
no_err (Ok x) e h k = cc h
no_err (Err x) e h k = cc k

pub some_left : (xs : List ℕ) (empty : Bool) → empty ≡ nat_eq (length xs) 0 → empty ≡ false → xs ≡ [] → ⊥
some_left [] empty e h k = let no : true ≡ false = sym e ∙ h in cc no
some_left (x ∷ xs) empty e h k = cc k

-- a fixed line is read
pub fixed_ok : (s : Stage) (line : FileLine) (text : List ℕ) → IsFixed s line text → (old new : LineReader) (at : ℕ) (bytes : List ℕ) (r : Result (Unit {0}) EqError) → IsNextLine old new at bytes → MatchResult r (λ _. bytes ≡ text) (λ _. bytes ≡ text → ⊥)
    → IfOk r (λ _. Moves s old (after_line s line) new)
fixed_ok s line text is old new at bytes (Ok u) next h = fixed_goes s line text is old new at bytes next h
fixed_ok s line text is old new at bytes (Err e) next h = tt

pub fixed_err : (s : Stage) (line : FileLine) (text : List ℕ) → IsFixed s line text → (old new : LineReader) (at : ℕ) (bytes : List ℕ) (r : Result (Unit {0}) EqError) → IsNextLine old new at bytes → MatchResult r (λ _. bytes ≡ text) (λ _. bytes ≡ text → ⊥) → IfErr r (λ e. e ≡ errors.Line at Spelling)
    → IfErr r (λ e. Stops s old e)
fixed_err s line text is old new at bytes (Ok u) next h k = tt
fixed_err s line text is old new at bytes (Err e) next h k = fixed_stops s line text is old new at bytes e next h k
