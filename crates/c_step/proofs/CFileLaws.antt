-- C texts say one thing, and other bytes have one first bad line.
use Rattle.std.proofs.Common.{ℕ, List, ◌++◌, refl, ap}
use Rattle.c_step.specs.CStep.{CStep, nothing_assigned, assigned_after}
use Rattle.line_format.specs.Lines.{IsFile, FileOrFault, HasLineLaws}
use Rattle.line_format.specs.Lines as lines
use Rattle.c_step.specs.CFile.{CStage, c_stage, nothing_due, c_format, c_lines, IsCText}
use Rattle.c_step.specs.CLaws.{CTextsAreFiles, CTextOrFault, text, fault, CFileLaws}
use Rattle.line_format.proofs.LineLaws.{line_laws}
use Rattle.c_step.proofs.CLines.{c_clear}
use Rattle.c_step.proofs.CTexts.{file_is_text, step_leads}

laws : HasLineLaws c_format
laws = line_laws c_format c_clear

abbrev end_of : CStep → CStage
end_of s = c_stage nothing_due s (assigned_after nothing_assigned s.statements)

text_is_file : (bs : List ℕ) (s : CStep) → IsCText bs s → IsFile c_format bs (end_of s)
text_is_file bs s h = record { lines = c_lines s; text = h.text; leads = step_leads s h.step; whole = refl }

pub c_texts_are_files : CTextsAreFiles
c_texts_are_files = record { there = λ bs s h. (end_of s, text_is_file bs s h, refl); back = file_is_text }

one_or_other : (bs : List ℕ) → FileOrFault c_format bs → CTextOrFault bs
one_or_other bs (lines.file t h) = text t.step (file_is_text bs t h)
one_or_other bs (lines.fault number k h) = fault number h

pub c_file_laws : CFileLaws
c_file_laws = record {
  spelled = λ s h. record { step = h; text = refl };
  one_reading = λ bs s s' a b. ap (λ (t : CStage). t.step) (laws.one_reading bs (end_of s) (end_of s') (text_is_file bs s a) (text_is_file bs s' b));
  no_beginning = λ bs more s s' a b. laws.no_beginning bs more (end_of s) (end_of s') (text_is_file bs s a) (text_is_file (bs ++ more) s' b);
  no_fault = λ bs s number a b. laws.no_fault bs (end_of s) number tt (text_is_file bs s a) b;
  some_fault = λ bs. one_or_other bs (laws.some_fault bs);
  one_fault = λ bs number number' a b. (laws.one_fault bs number number' tt tt a b).0;
}
