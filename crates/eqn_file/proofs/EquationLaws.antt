-- Equation texts say one thing, and other bytes have one first bad line.
use Rattle.std.proofs.Common.{◌≡◌, ℕ, List, ◌++◌, refl, ap}
use Rattle.line_format.specs.Lines.{IsFile, IsFault, FileOrFault, HasLineLaws}
use Rattle.line_format.specs.Lines as lines
use Rattle.eqn_file.specs.EquationFile.{Stage, stage, nothing_due, equation_format}
use Rattle.eqn_file.specs.FileLaws.{EquationTextsAreFiles, EquationTextOrFault, text, fault, EquationFileLaws}
use Rattle.line_format.proofs.LineLaws.{line_laws}
use Rattle.eqn_file.proofs.SpacedWords.{equation_clear}
use Rattle.eqn_file.proofs.EquationTexts.{text_is_file, file_is_text}

laws : HasLineLaws equation_format
laws = line_laws equation_format equation_clear

pub texts_are_files : EquationTextsAreFiles
texts_are_files = record { there = text_is_file; back = file_is_text }

one_or_other : (bs : List ℕ) → FileOrFault equation_format bs → EquationTextOrFault bs
one_or_other bs (lines.file t h) = text t.system t.names (file_is_text bs t h)
one_or_other bs (lines.fault number k h) = fault number k h

pub equation_file_laws : EquationFileLaws
equation_file_laws = record {
  spelled = λ E n o h. record { ordered = o; names = h; text = refl };
  one_reading = λ bs E E' n n' a b.
      let same : stage nothing_due E n ≡ stage nothing_due E' n' = laws.one_reading bs (stage nothing_due E n) (stage nothing_due E' n') (text_is_file bs E n a) (text_is_file bs E' n' b) in
      (ap (λ (s : Stage). s.system) same, ap (λ (s : Stage). s.names) same);
  no_beginning = λ bs more E E' n n' a b. laws.no_beginning bs more (stage nothing_due E n) (stage nothing_due E' n') (text_is_file bs E n a) (text_is_file (bs ++ more) E' n' b);
  no_fault = λ bs E n number k a b. laws.no_fault bs (stage nothing_due E n) number k (text_is_file bs E n a) b;
  some_fault = λ bs. one_or_other bs (laws.some_fault bs);
  one_fault = laws.one_fault;
}
