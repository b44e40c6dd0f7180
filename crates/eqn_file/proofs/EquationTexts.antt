-- The lines that lead to the end are those of an ordered system and its names.
use Rattle.std.proofs.Common.{◌≡◌, ℕ, ◌+◌, ◌≤◌, List, [], ◌∷◌, ◌++◌, Bool, true, false, ◌&&◌, IsTrue, length, map, Option, Some, None, refl, sym, ap, ◌∙◌, subst, append_assoc, arith}
use Rattle.std.specs.Prelude.{nat_le, nat_lt, if◌then◌else◌}
use Rattle.std.specs.List.{list_all}
use Rattle.std.proofs.lemmas.List.{append-nil}
use Rattle.std.proofs.lemmas.List.Folds.{list_all-append}
use Rattle.std.proofs.lemmas.Bool.Decides.{nat_tests}
use Rattle.argos_base.specs.Names.{Spelled, AreDistinct}
use Rattle.argos_base.specs.Spelling.{is_name, is_one_of}
use Rattle.argos_base.proofs.Bools.{and_first, and_second, and_both}
use Rattle.argos_base.proofs.NameLemmas.{are_distinct-push}
use Rattle.eqn_core.specs.Equations.{Line, bits_of_line, words_of_line, bit_lines, word_lines, Equations, registers}
use Rattle.eqn_core.specs.Ordered.{line_below, all_below, IsOrdered}
use Rattle.eqn_core.specs.inner.OrderTest.{lines_in_order}
use Rattle.eqn_core.proofs.InOrder.{IsOrdered-walk, EachReadsEarlier-from_walk}
use Rattle.line_format.specs.FileNames.{FileNames}
use Rattle.line_format.specs.FileNames.{HasNames}
use Rattle.line_format.specs.Lines.{Format, lines_then, Leads, IsFile}
use Rattle.eqn_file.specs.EquationFile.{FileLine, head, input_count, input_name, output_count, output_name, register_count, a_code, line_count, a_line, an_out, a_next, the_end, head_due, inputs_due, outputs_due, registers_due, lines_due, end_due, nothing_due, input_name_due, output_name_due, code_due, line_due, out_due, next_due, Stage, stage, no_system, no_names, is_due_line, range, repeated_name, unless, EquationKind, equation_format, file_lines, IsEquationText}
use Rattle.eqn_file.specs.inner.Stages.{system, names, at_inputs, at_outputs, at_codes, at_lines, at_outs, at_nexts}
use Rattle.line_format.proofs.Names.{not_before, distinct_front}
use Rattle.eqn_file.proofs.Sections.{IsSection, AllGood, Through, into_section, out_of_section, One, one_line}

abbrev pub F : Format Stage FileLine EquationKind
F = equation_format

-- tests and what they make wrong
unless_right : (k : EquationKind) (ok : Bool) → ok ≡ true → unless k ok ≡ None
unless_right k ok h = ap (λ t. if t then None else Some k) h

right_unless : (k : EquationKind) (ok : Bool) → unless k ok ≡ None → ok ≡ true
right_unless k true h = refl
right_unless k false h = cc h

new_right : (t : Bool) → t ≡ false → (if t then Some repeated_name else None) ≡ None
new_right t h = ap (λ b. if b then Some repeated_name else None) h

right_new : (t : Bool) → ◌≡◌ {A = Option EquationKind} (if t then Some repeated_name else None) None → t ≡ false
right_new true h = cc h
right_new false h = refl

-- the six sections
abbrev pub GoodInput : List Spelled → Spelled → Type 0
GoodInput xs a = (is_name a ≡ true) × (is_one_of (xs ++ []) a ≡ false)

only_input : (k : ℕ) (c : FileLine) → IsTrue (is_due_line (input_name_due k) c) → (a : Spelled) × (c ≡ input_name a)
only_input k (input_name a) h = (a, refl)
only_input k c h = absurd (cc h)

input_section : (I : ℕ) → IsSection F input_name (at_inputs I) GoodInput
input_section I = record {
  only = λ k xs c h. only_input k c h;
  due = λ k xs a g. g.0;
  right = λ k xs a g. new_right _ g.1;
  good = λ k xs a d r. (d, right_new _ r);
  next = λ k xs a. refl;
  ongoing = λ k xs. refl;
}

abbrev pub GoodOutput : List Spelled → List Spelled → Spelled → Type 0
GoodOutput ins xs a = (is_name a ≡ true) × (is_one_of (ins ++ xs) a ≡ false)

only_output : (k : ℕ) (c : FileLine) → IsTrue (is_due_line (output_name_due k) c) → (a : Spelled) × (c ≡ output_name a)
only_output k (output_name a) h = (a, refl)
only_output k c h = absurd (cc h)

output_section : (I : ℕ) (ins : List Spelled) → IsSection F output_name (at_outputs I ins) (GoodOutput ins)
output_section I ins = record {
  only = λ k xs c h. only_output k c h;
  due = λ k xs a g. g.0;
  right = λ k xs a g. new_right _ g.1;
  good = λ k xs a d r. (d, right_new _ r);
  next = λ k xs a. refl;
  ongoing = λ k xs. refl;
}

abbrev pub GoodCode : List ℕ → ℕ → Type 0
GoodCode xs c = nat_lt c 65536 ≡ true

only_code : (k : ℕ) (c : FileLine) → IsTrue (is_due_line (code_due k) c) → (a : ℕ) × (c ≡ a_code a)
only_code k (a_code a) h = (a, refl)
only_code k c h = absurd (cc h)

code_section : (I : ℕ) (n : FileNames) → IsSection F a_code (at_codes I n) GoodCode
code_section I n = record {
  only = λ k xs c h. only_code k c h;
  due = λ k xs a g. refl;
  right = λ k xs a g. unless_right range _ g;
  good = λ k xs a d r. right_unless range _ r;
  next = λ k xs a. refl;
  ongoing = λ k xs. refl;
}

abbrev pub GoodLine : ℕ → List ℕ → List Line → Line → Type 0
GoodLine I init xs l = line_below (I + bit_lines xs) (length init + word_lines xs) l ≡ true

only_line : (k : ℕ) (c : FileLine) → IsTrue (is_due_line (line_due k) c) → (a : Line) × (c ≡ a_line a)
only_line k (a_line a) h = (a, refl)
only_line k c h = absurd (cc h)

line_section : (I : ℕ) (n : FileNames) (init : List ℕ) → IsSection F a_line (at_lines I n init) (GoodLine I init)
line_section I n init = record {
  only = λ k xs c h. only_line k c h;
  due = λ k xs a g. refl;
  right = λ k xs a g. unless_right range _ g;
  good = λ k xs a d r. right_unless range _ r;
  next = λ k xs a. refl;
  ongoing = λ k xs. refl;
}

abbrev pub GoodOut : ℕ → List Line → List ℕ → ℕ → Type 0
GoodOut I lines xs b = nat_lt b (I + bit_lines lines) ≡ true

only_out : (k : ℕ) (c : FileLine) → IsTrue (is_due_line (out_due k) c) → (a : ℕ) × (c ≡ an_out a)
only_out k (an_out a) h = (a, refl)
only_out k c h = absurd (cc h)

out_section : (I : ℕ) (n : FileNames) (init : List ℕ) (lines : List Line) → IsSection F an_out (at_outs I n init lines) (GoodOut I lines)
out_section I n init lines = record {
  only = λ k xs c h. only_out k c h;
  due = λ k xs a g. refl;
  right = λ k xs a g. unless_right range _ g;
  good = λ k xs a d r. right_unless range _ r;
  next = λ k xs a. refl;
  ongoing = λ k xs. refl;
}

abbrev pub GoodNext : List ℕ → List Line → List ℕ → ℕ → Type 0
GoodNext init lines xs w = (nat_le (length init) w && nat_lt w (length init + word_lines lines)) ≡ true

only_next : (k : ℕ) (c : FileLine) → IsTrue (is_due_line (next_due k) c) → (a : ℕ) × (c ≡ a_next a)
only_next k (a_next a) h = (a, refl)
only_next k c h = absurd (cc h)

next_section : (I : ℕ) (n : FileNames) (init : List ℕ) (lines : List Line) (outs : List ℕ) → IsSection F a_next (at_nexts I n init lines outs) (GoodNext init lines)
next_section I n init lines outs = record {
  only = λ k xs c h. only_next k c h;
  due = λ k xs a g. refl;
  right = λ k xs a g. unless_right range _ g;
  good = λ k xs a d r. right_unless range _ r;
  next = λ k xs a. refl;
  ongoing = λ k xs. refl;
}

-- what the lines of a file tell
pub record Told (E : Equations) (n : FileNames) : Type 0 where
  input_limit : nat_le (length n.inputs) 16384 ≡ true
  inputs : AllGood GoodInput [] n.inputs
  output_limit : nat_le (length n.outputs) 16384 ≡ true
  outputs : AllGood (GoodOutput n.inputs) [] n.outputs
  register_limit : (nat_le 1 (length E.initial) && nat_le (length E.initial) 100000) ≡ true
  codes : AllGood GoodCode [] E.initial
  line_limit : nat_le (length E.lines) 100000000 ≡ true
  lines : AllGood (GoodLine (length n.inputs) E.initial) [] E.lines
  out_count : length E.outputs ≡ length n.outputs
  outs : AllGood (GoodOut (length n.inputs) E.lines) [] E.outputs
  next_count : length E.next ≡ length E.initial
  nexts : AllGood (GoodNext E.initial E.lines) [] E.next

-- the system as the file tells it
abbrev pub told_system : Equations → FileNames → Equations
told_system E n = system (length n.inputs) E.initial E.lines E.outputs E.next

told_leads : (E : Equations) (n : FileNames) → Told E n → Leads F F.start (file_lines E n) (stage nothing_due (told_system E n) n)
told_leads E n h =
    let I : ℕ = length n.inputs in
    let t : Stage = stage nothing_due (told_system E n) n in
    let end : Leads F (at_nexts I n E.initial E.lines E.outputs 0 E.next) (the_end ∷ []) t = (refl, refl, refl) in
    let nexts : Leads F (at_nexts I n E.initial E.lines E.outputs (length E.initial) []) (map a_next E.next ++ the_end ∷ []) t =
    into_section F a_next (at_nexts I n E.initial E.lines E.outputs) (GoodNext E.initial E.lines) (next_section I n E.initial E.lines E.outputs) (length E.initial) [] E.next (the_end ∷ []) t h.next_count h.nexts end in
    let outs : Leads F (at_outs I n E.initial E.lines (length n.outputs) []) (map an_out E.outputs ++ (map a_next E.next ++ the_end ∷ [])) t =
    into_section F an_out (at_outs I n E.initial E.lines) (GoodOut I E.lines) (out_section I n E.initial E.lines) (length n.outputs) [] E.outputs (map a_next E.next ++ the_end ∷ []) t h.out_count h.outs nexts in
    let lines : Leads F (at_lines I n E.initial (length E.lines) []) (map a_line E.lines ++ (map an_out E.outputs ++ (map a_next E.next ++ the_end ∷ []))) t =
    into_section F a_line (at_lines I n E.initial) (GoodLine I E.initial) (line_section I n E.initial) (length E.lines) [] E.lines (map an_out E.outputs ++ (map a_next E.next ++ the_end ∷ [])) t refl h.lines outs in
    let behind_codes = line_count (length E.lines) ∷ map a_line E.lines ++ (map an_out E.outputs ++ (map a_next E.next ++ the_end ∷ [])) in
    let line_head : Leads F (at_codes I n 0 E.initial) behind_codes t = (refl, unless_right range _ h.line_limit, lines) in
    let codes : Leads F (at_codes I n (length E.initial) []) (map a_code E.initial ++ behind_codes) t = into_section F a_code (at_codes I n) GoodCode (code_section I n) (length E.initial) [] E.initial behind_codes t refl h.codes line_head in
    let behind_outputs = register_count (length E.initial) ∷ map a_code E.initial ++ behind_codes in
    let register_head : Leads F (at_outputs I n.inputs 0 n.outputs) behind_outputs t = (refl, unless_right range _ h.register_limit, codes) in
    let outputs : Leads F (at_outputs I n.inputs (length n.outputs) []) (map output_name n.outputs ++ behind_outputs) t =
    into_section F output_name (at_outputs I n.inputs) (GoodOutput n.inputs) (output_section I n.inputs) (length n.outputs) [] n.outputs behind_outputs t refl h.outputs register_head in
    let behind_inputs = output_count (length n.outputs) ∷ map output_name n.outputs ++ behind_outputs in
    let output_head : Leads F (at_inputs I 0 n.inputs) behind_inputs t = (refl, unless_right range _ h.output_limit, outputs) in
    let inputs : Leads F (at_inputs I I []) (map input_name n.inputs ++ behind_inputs) t = into_section F input_name (at_inputs I) GoodInput (input_section I) I [] n.inputs behind_inputs t refl h.inputs output_head in
    (refl, refl, (refl, unless_right range _ h.input_limit, inputs))

only_head : (c : FileLine) → IsTrue (is_due_line head_due c) → (a : Unit {0}) × (c ≡ head)
only_head head h = (tt, refl)
only_head c h = absurd (cc h)

only_input_count : (c : FileLine) → IsTrue (is_due_line inputs_due c) → (a : ℕ) × (c ≡ input_count a)
only_input_count (input_count a) h = (a, refl)
only_input_count c h = absurd (cc h)

only_output_count : (c : FileLine) → IsTrue (is_due_line outputs_due c) → (a : ℕ) × (c ≡ output_count a)
only_output_count (output_count a) h = (a, refl)
only_output_count c h = absurd (cc h)

only_register_count : (c : FileLine) → IsTrue (is_due_line registers_due c) → (a : ℕ) × (c ≡ register_count a)
only_register_count (register_count a) h = (a, refl)
only_register_count c h = absurd (cc h)

only_line_count : (c : FileLine) → IsTrue (is_due_line lines_due c) → (a : ℕ) × (c ≡ line_count a)
only_line_count (line_count a) h = (a, refl)
only_line_count c h = absurd (cc h)

only_end : (c : FileLine) → IsTrue (is_due_line end_due c) → (a : Unit {0}) × (c ≡ the_end)
only_end the_end h = (tt, refl)
only_end c h = absurd (cc h)

nothing_behind : (E : Equations) (n : FileNames) (lines : List FileLine) (t : Stage) → Leads F (stage nothing_due E n) lines t → (lines ≡ []) × (t ≡ stage nothing_due E n)
nothing_behind E n [] t h = (refl, h)
nothing_behind E n (c ∷ lines) t h = absurd (none c h.0)
  where
    none : (c : FileLine) → IsTrue (is_due_line nothing_due c) → ⊥
    none c h = cc h

-- what the lines from a section on tell
record FromNexts (I : ℕ) (n : FileNames) (init : List ℕ) (ls : List Line) (os : List ℕ) (lines : List FileLine) (t : Stage) : Type 0 where
  nx : List ℕ
  are : lines ≡ map a_next nx ++ the_end ∷ []
  sized : length nx ≡ length init
  good : AllGood (GoodNext init ls) [] nx
  ends : t ≡ stage nothing_due (system I init ls os nx) n

record FromOuts (I : ℕ) (n : FileNames) (init : List ℕ) (ls : List Line) (lines : List FileLine) (t : Stage) : Type 0 where
  os : List ℕ
  tail : List FileLine
  are : lines ≡ map an_out os ++ tail
  sized : length os ≡ length n.outputs
  good : AllGood (GoodOut I ls) [] os
  rest : FromNexts I n init ls os tail t

record FromLines (I : ℕ) (n : FileNames) (init : List ℕ) (lines : List FileLine) (t : Stage) : Type 0 where
  ls : List Line
  tail : List FileLine
  are : lines ≡ line_count (length ls) ∷ map a_line ls ++ tail
  limit : nat_le (length ls) 100000000 ≡ true
  good : AllGood (GoodLine I init) [] ls
  rest : FromOuts I n init ls tail t

record FromCodes (I : ℕ) (n : FileNames) (lines : List FileLine) (t : Stage) : Type 0 where
  init : List ℕ
  tail : List FileLine
  are : lines ≡ register_count (length init) ∷ map a_code init ++ tail
  limit : (nat_le 1 (length init) && nat_le (length init) 100000) ≡ true
  good : AllGood GoodCode [] init
  rest : FromLines I n init tail t

record FromOutputs (I : ℕ) (ins : List Spelled) (lines : List FileLine) (t : Stage) : Type 0 where
  outs : List Spelled
  tail : List FileLine
  are : lines ≡ output_count (length outs) ∷ map output_name outs ++ tail
  limit : nat_le (length outs) 16384 ≡ true
  good : AllGood (GoodOutput ins) [] outs
  rest : FromCodes I (names ins outs) tail t

record FromInputs (lines : List FileLine) (t : Stage) : Type 0 where
  ins : List Spelled
  tail : List FileLine
  are : lines ≡ input_count (length ins) ∷ map input_name ins ++ tail
  limit : nat_le (length ins) 16384 ≡ true
  good : AllGood GoodInput [] ins
  rest : FromOutputs (length ins) ins tail t

from_end : (I : ℕ) (n : FileNames) (init : List ℕ) (ls : List Line) (os nx : List ℕ) (lines : List FileLine) (t : Stage) → One F (λ (u : Unit {0}). the_end) (at_nexts I n init ls os 0 nx) lines t → (lines ≡ the_end ∷ []) × (t ≡ stage nothing_due (system I init ls os nx) n)
from_end I n init ls os nx lines t o =
    let last = nothing_behind (system I init ls os nx) n o.behind t o.leads in
    (o.split ∙ ap (λ z. the_end ∷ z) last.0, last.1)

from_nexts : (I : ℕ) (n : FileNames) (init : List ℕ) (ls : List Line) (os : List ℕ) (lines : List FileLine) (t : Stage) → IsTrue (F.is_end t) → Through F a_next (at_nexts I n init ls os) (GoodNext init ls) (length init) [] lines t → FromNexts I n init ls os lines t
from_nexts I n init ls os lines t end h =
    let e = from_end I n init ls os h.items h.behind t (one_line F (λ (u : Unit {0}). the_end) (at_nexts I n init ls os 0 h.items) only_end refl h.behind t h.leads end) in
    record { nx = h.items; are = h.split ∙ ap (λ z. map a_next h.items ++ z) e.0; sized = h.sized; good = h.all; ends = e.1 }

from_outs : (I : ℕ) (n : FileNames) (init : List ℕ) (ls : List Line) (lines : List FileLine) (t : Stage) → IsTrue (F.is_end t) → Through F an_out (at_outs I n init ls) (GoodOut I ls) (length n.outputs) [] lines t → FromOuts I n init ls lines t
from_outs I n init ls lines t end h =
    record {
      os = h.items;
      tail = h.behind;
      are = h.split;
      sized = h.sized;
      good = h.all;
      rest = from_nexts I n init ls h.items h.behind t end (out_of_section F a_next (at_nexts I n init ls h.items) (GoodNext init ls) (next_section I n init ls h.items) (length init) [] h.behind t h.leads end);
    }

from_lines : (I : ℕ) (n : FileNames) (init : List ℕ) (L : ℕ) (lines behind : List FileLine) (t : Stage) → IsTrue (F.is_end t) → lines ≡ line_count L ∷ behind → nat_le L 100000000 ≡ true → Through F a_line (at_lines I n init) (GoodLine I init) L [] behind t → FromLines I n init lines t
from_lines I n init L lines behind t end e limit h =
    record {
      ls = h.items;
      tail = h.behind;
      are = e ∙ ap (λ z. line_count z ∷ behind) (sym h.sized) ∙ ap (λ z. line_count (length h.items) ∷ z) h.split;
      limit = ap (λ z. nat_le z 100000000) h.sized ∙ limit;
      good = h.all;
      rest = from_outs I n init h.items h.behind t end (out_of_section F an_out (at_outs I n init h.items) (GoodOut I h.items) (out_section I n init h.items) (length n.outputs) [] h.behind t h.leads end);
    }

from_line_count : (I : ℕ) (n : FileNames) (init : List ℕ) (lines : List FileLine) (t : Stage) → IsTrue (F.is_end t) → One F line_count (at_codes I n 0 init) lines t → FromLines I n init lines t
from_line_count I n init lines t end o =
    from_lines I n init o.item lines o.behind t end o.split (right_unless range (nat_le o.item 100000000) o.right)
    (out_of_section F a_line (at_lines I n init) (GoodLine I init) (line_section I n init) o.item [] o.behind t o.leads end)

from_codes : (I : ℕ) (n : FileNames) (R : ℕ) (lines behind : List FileLine) (t : Stage) → IsTrue (F.is_end t) → lines ≡ register_count R ∷ behind → (nat_le 1 R && nat_le R 100000) ≡ true → Through F a_code (at_codes I n) GoodCode R [] behind t → FromCodes I n lines t
from_codes I n R lines behind t end e limit h =
    record {
      init = h.items;
      tail = h.behind;
      are = e ∙ ap (λ z. register_count z ∷ behind) (sym h.sized) ∙ ap (λ z. register_count (length h.items) ∷ z) h.split;
      limit = ap (λ z. nat_le 1 z && nat_le z 100000) h.sized ∙ limit;
      good = h.all;
      rest = from_line_count I n h.items h.behind t end (one_line F line_count (at_codes I n 0 h.items) only_line_count refl h.behind t h.leads end);
    }

from_register_count : (I : ℕ) (n : FileNames) (lines : List FileLine) (t : Stage) → IsTrue (F.is_end t) → One F register_count (at_outputs I n.inputs 0 n.outputs) lines t → FromCodes I n lines t
from_register_count I n lines t end o =
    from_codes I n o.item lines o.behind t end o.split (right_unless range (nat_le 1 o.item && nat_le o.item 100000) o.right)
    (out_of_section F a_code (at_codes I n) GoodCode (code_section I n) o.item [] o.behind t o.leads end)

from_outputs : (I : ℕ) (ins : List Spelled) (O : ℕ) (lines behind : List FileLine) (t : Stage) → IsTrue (F.is_end t) → lines ≡ output_count O ∷ behind → nat_le O 16384 ≡ true → Through F output_name (at_outputs I ins) (GoodOutput ins) O [] behind t → FromOutputs I ins lines t
from_outputs I ins O lines behind t end e limit h =
    record {
      outs = h.items;
      tail = h.behind;
      are = e ∙ ap (λ z. output_count z ∷ behind) (sym h.sized) ∙ ap (λ z. output_count (length h.items) ∷ z) h.split;
      limit = ap (λ z. nat_le z 16384) h.sized ∙ limit;
      good = h.all;
      rest = from_register_count I (names ins h.items) h.behind t end (one_line F register_count (at_outputs I ins 0 h.items) only_register_count refl h.behind t h.leads end);
    }

from_output_count : (I : ℕ) (ins : List Spelled) (lines : List FileLine) (t : Stage) → IsTrue (F.is_end t) → One F output_count (at_inputs I 0 ins) lines t → FromOutputs I ins lines t
from_output_count I ins lines t end o =
    from_outputs I ins o.item lines o.behind t end o.split (right_unless range (nat_le o.item 16384) o.right)
    (out_of_section F output_name (at_outputs I ins) (GoodOutput ins) (output_section I ins) o.item [] o.behind t o.leads end)

from_inputs : (I : ℕ) (lines behind : List FileLine) (t : Stage) → IsTrue (F.is_end t) → lines ≡ input_count I ∷ behind → nat_le I 16384 ≡ true → Through F input_name (at_inputs I) GoodInput I [] behind t → FromInputs lines t
from_inputs I lines behind t end e limit h =
    record {
      ins = h.items;
      tail = h.behind;
      are = e ∙ ap (λ z. input_count z ∷ behind) (sym h.sized) ∙ ap (λ z. input_count (length h.items) ∷ z) h.split;
      limit = ap (λ z. nat_le z 16384) h.sized ∙ limit;
      good = h.all;
      rest = subst (λ k. FromOutputs k h.items h.behind t) (sym h.sized) (from_output_count I h.items h.behind t end (one_line F output_count (at_inputs I 0 h.items) only_output_count refl h.behind t h.leads end));
    }

from_input_count : (lines : List FileLine) (t : Stage) → IsTrue (F.is_end t) → One F input_count (stage inputs_due no_system no_names) lines t → FromInputs lines t
from_input_count lines t end o =
    from_inputs o.item lines o.behind t end o.split (right_unless range (nat_le o.item 16384) o.right)
    (out_of_section F input_name (at_inputs o.item) GoodInput (input_section o.item) o.item [] o.behind t o.leads end)

pub record Tells (lines : List FileLine) (t : Stage) : Type 0 where
  told_E : Equations
  told_n : FileNames
  lines_are : lines ≡ file_lines told_E told_n
  ends : t ≡ stage nothing_due (told_system told_E told_n) told_n
  told : Told told_E told_n

from_start : (lines behind : List FileLine) (t : Stage) → lines ≡ head ∷ behind → FromInputs behind t → Tells lines t
from_start lines behind t e h₁ =
    let h₂ = h₁.rest in
    let h₃ = h₂.rest in
    let h₄ = h₃.rest in
    let h₅ = h₄.rest in
    let h₆ = h₅.rest in
    record {
      told_E = system (length h₁.ins) h₃.init h₄.ls h₅.os h₆.nx;
      told_n = names h₁.ins h₂.outs;
      lines_are = e ∙ ap (λ z. head ∷ z)
          (h₁.are ∙ ap (λ z. input_count (length h₁.ins) ∷ map input_name h₁.ins ++ z)
          (h₂.are ∙ ap (λ z. output_count (length h₂.outs) ∷ map output_name h₂.outs ++ z)
          (h₃.are ∙ ap (λ z. register_count (length h₃.init) ∷ map a_code h₃.init ++ z)
          (h₄.are ∙ ap (λ z. line_count (length h₄.ls) ∷ map a_line h₄.ls ++ z)
          (h₅.are ∙ ap (λ z. map an_out h₅.os ++ z) h₆.are)))));
      ends = h₆.ends;
      told = record {
        input_limit = h₁.limit;
        inputs = h₁.good;
        output_limit = h₂.limit;
        outputs = h₂.good;
        register_limit = h₃.limit;
        codes = h₃.good;
        line_limit = h₄.limit;
        lines = h₄.good;
        out_count = h₅.sized;
        outs = h₅.good;
        next_count = h₆.sized;
        nexts = h₆.good;
      };
    }

from_head : (lines : List FileLine) (t : Stage) → IsTrue (F.is_end t) → One F (λ (u : Unit {0}). head) F.start lines t → Tells lines t
from_head lines t end o = from_start lines o.behind t o.split (from_input_count o.behind t end (one_line F input_count (stage inputs_due no_system no_names) only_input_count refl o.behind t o.leads end))

leads_tell : (lines : List FileLine) (t : Stage) → Leads F F.start lines t → IsTrue (F.is_end t) → Tells lines t
leads_tell lines t l end = from_head lines t end (one_line F (λ (u : Unit {0}). head) F.start only_head refl lines t l end)

-- a test of each item, and all of them
each_good : {A : Type 0} (p : A → Bool) (xs ys : List A) → AllGood (λ (zs : List A) (a : A). p a ≡ true) xs ys → IsTrue (list_all p ys)
each_good p xs [] h = refl
each_good p xs (y ∷ ys) h = and_both _ _ h.0 (each_good p (xs ++ y ∷ []) ys h.1)

good_each : {A : Type 0} (p : A → Bool) (xs ys : List A) → IsTrue (list_all p ys) → AllGood (λ (zs : List A) (a : A). p a ≡ true) xs ys
good_each p xs [] h = tt
good_each p xs (y ∷ ys) h = (and_first _ _ h, good_each p (xs ++ y ∷ []) ys (and_second (p y) _ h))

pub bit_lines-push : (xs : List Line) (l : Line) → bit_lines (xs ++ l ∷ []) ≡ bit_lines xs + bits_of_line l
bit_lines-push [] l = omega arith
bit_lines-push (x ∷ xs) l = omega (arith, bit_lines-push xs l)

pub word_lines-push : (xs : List Line) (l : Line) → word_lines (xs ++ l ∷ []) ≡ word_lines xs + words_of_line l
word_lines-push [] l = omega arith
word_lines-push (x ∷ xs) l = omega (arith, word_lines-push xs l)

order_at : (b w b' w' : ℕ) (ls : List Line) → b ≡ b' → w ≡ w' → IsTrue (lines_in_order b w ls) → IsTrue (lines_in_order b' w' ls)
order_at b w b' w' ls e f h = subst (λ k. IsTrue (lines_in_order k w' ls)) e (subst (λ k. IsTrue (lines_in_order b k ls)) f h)

good_order : (I : ℕ) (init : List ℕ) (xs ys : List Line) → AllGood (GoodLine I init) xs ys → IsTrue (lines_in_order (I + bit_lines xs) (length init + word_lines xs) ys)
good_order I init xs [] h = refl
good_order I init xs (y ∷ ys) h =
    and_both _ _ h.0
    (order_at (I + bit_lines (xs ++ y ∷ [])) (length init + word_lines (xs ++ y ∷ [])) (I + bit_lines xs + bits_of_line y) (length init + word_lines xs + words_of_line y) ys (omega (arith, bit_lines-push xs y)) (omega (arith, word_lines-push xs y)) (good_order I init (xs ++ y ∷ []) ys h.1))

order_good : (I : ℕ) (init : List ℕ) (xs ys : List Line) → IsTrue (lines_in_order (I + bit_lines xs) (length init + word_lines xs) ys) → AllGood (GoodLine I init) xs ys
order_good I init xs [] h = tt
order_good I init xs (y ∷ ys) h = (
  and_first _ _ h,
  order_good I init (xs ++ y ∷ []) ys
      (order_at (I + bit_lines xs + bits_of_line y) (length init + word_lines xs + words_of_line y) (I + bit_lines (xs ++ y ∷ [])) (length init + word_lines (xs ++ y ∷ [])) ys (omega (arith, bit_lines-push xs y)) (omega (arith, word_lines-push xs y)) (and_second (line_below (I + bit_lines xs) (length init + word_lines xs) y) _ h)),
)

-- names that are new one after the other are distinct
abbrev NewNames : List Spelled → List Spelled → List Spelled → Type 0
NewNames prior = AllGood (λ (xs : List Spelled) (a : Spelled). (is_name a ≡ true) × (is_one_of (prior ++ xs) a ≡ false))

new_spelled : (prior xs ys : List Spelled) → NewNames prior xs ys → IsTrue (list_all is_name ys)
new_spelled prior xs [] h = refl
new_spelled prior xs (y ∷ ys) h = and_both _ _ h.0.0 (new_spelled prior (xs ++ y ∷ []) ys h.1)

new_distinct : (prior xs ys : List Spelled) → AreDistinct (prior ++ xs) → NewNames prior xs ys → AreDistinct (prior ++ (xs ++ ys))
new_distinct prior xs [] d h = subst (λ z. AreDistinct (prior ++ z)) (sym (append-nil xs)) d
new_distinct prior xs (y ∷ ys) d h =
    let pushed : AreDistinct (prior ++ (xs ++ y ∷ [])) = subst AreDistinct (append_assoc prior xs (y ∷ [])) (are_distinct-push (prior ++ xs) y d h.0.1) in
    subst (λ z. AreDistinct (prior ++ z)) (append_assoc xs (y ∷ []) ys) (new_distinct prior (xs ++ y ∷ []) ys pushed h.1)

distinct_new : (prior xs ys : List Spelled) → IsTrue (list_all is_name ys) → AreDistinct (prior ++ (xs ++ ys)) → NewNames prior xs ys
distinct_new prior xs [] n d = tt
distinct_new prior xs (y ∷ ys) n d =
    let here : is_one_of (prior ++ xs) y ≡ false = not_before (prior ++ xs) y ys (subst AreDistinct (sym (append_assoc prior xs (y ∷ ys))) d) in
    let rest : AreDistinct (prior ++ ((xs ++ y ∷ []) ++ ys)) = subst (λ z. AreDistinct (prior ++ z)) (sym (append_assoc xs (y ∷ []) ys)) d in
    ((and_first _ _ n, here), distinct_new prior (xs ++ y ∷ []) ys (and_second (is_name y) _ n) rest)

-- inputs have no names before them
inputs_new : (xs ys : List Spelled) → AllGood GoodInput xs ys → NewNames [] xs ys
inputs_new xs [] h = tt
inputs_new xs (y ∷ ys) h = ((h.0.0, ap (λ z. is_one_of z y) (sym (append-nil xs)) ∙ h.0.1), inputs_new (xs ++ y ∷ []) ys h.1)

new_inputs : (xs ys : List Spelled) → NewNames [] xs ys → AllGood GoodInput xs ys
new_inputs xs [] h = tt
new_inputs xs (y ∷ ys) h = ((h.0.0, ap (λ z. is_one_of z y) (append-nil xs) ∙ h.0.1), new_inputs (xs ++ y ∷ []) ys h.1)

le_test : (k n : ℕ) → k ≤ n → nat_le k n ≡ true
le_test k n h = grind (arith, nat_tests)

test_le : (k n : ℕ) → nat_le k n ≡ true → k ≤ n
test_le k n h = grind (arith, nat_tests)

told_from : (E : Equations) (n : FileNames) → IsOrdered E → HasNames E n → Told E n
told_from E n o h =
    let apart = list_all-append is_name n.inputs n.outputs in
    let both : IsTrue (list_all is_name n.inputs && list_all is_name n.outputs) = sym apart ∙ h.spelled in
    let I : E.inputs ≡ length n.inputs = sym h.inputs in
    record {
      input_limit = le_test _ _ (omega (arith, h.inputs, o.input_limit));
      inputs = new_inputs [] n.inputs (distinct_new [] [] n.inputs (and_first _ _ both) (distinct_front n.inputs n.outputs h.distinct));
      output_limit = le_test _ _ (omega (arith, h.outputs, o.output_limit));
      outputs = distinct_new n.inputs [] n.outputs (and_second (list_all is_name n.inputs) _ both) h.distinct;
      register_limit = and_both _ _ (le_test _ _ o.some_register) (le_test _ _ o.register_limit);
      codes = good_each (λ c. nat_lt c 65536) [] E.initial o.codes;
      line_limit = le_test _ _ o.line_limit;
      lines = order_good (length n.inputs) E.initial [] E.lines (order_at E.inputs (registers E) (length n.inputs + 0) (length E.initial + 0) E.lines (omega (arith, h.inputs)) (omega arith) (IsOrdered-walk E o));
      out_count = sym h.outputs;
      outs = good_each (λ b. nat_lt b (length n.inputs + bit_lines E.lines)) [] E.outputs (subst (λ k. IsTrue (all_below (k + bit_lines E.lines) E.outputs)) I o.outputs_exist);
      next_count = o.next_sized;
      nexts = good_each (λ w. nat_le (length E.initial) w && nat_lt w (length E.initial + word_lines E.lines)) [] E.next o.next_exist;
    }

ordered_from : (E : Equations) (n : FileNames) → Told E n → IsOrdered (told_system E n)
ordered_from E n h = record {
  some_register = test_le _ _ (and_first _ _ h.register_limit);
  register_limit = test_le _ _ (and_second (nat_le 1 (length E.initial)) _ h.register_limit);
  input_limit = test_le _ _ h.input_limit;
  output_limit = omega (arith, h.out_count, test_le _ _ h.output_limit);
  line_limit = test_le _ _ h.line_limit;
  codes = each_good (λ c. nat_lt c 65536) [] E.initial h.codes;
  each = EachReadsEarlier-from_walk (length n.inputs) (length E.initial) E.lines (order_at (length n.inputs + 0) (length E.initial + 0) (length n.inputs) (length E.initial) E.lines (omega arith) (omega arith) (good_order (length n.inputs) E.initial [] E.lines h.lines));
  next_sized = h.next_count;
  next_exist = each_good (λ w. nat_le (length E.initial) w && nat_lt w (length E.initial + word_lines E.lines)) [] E.next h.nexts;
  outputs_exist = each_good (λ b. nat_lt b (length n.inputs + bit_lines E.lines)) [] E.outputs h.outs;
  no_locals = refl;
}

names_from : (E : Equations) (n : FileNames) → Told E n → HasNames (told_system E n) n
names_from E n h =
    let ins : NewNames [] [] n.inputs = inputs_new [] n.inputs h.inputs in
    record {
      inputs = refl;
      outputs = sym h.out_count;
      spelled = list_all-append is_name n.inputs n.outputs ∙ and_both _ _ (new_spelled [] [] n.inputs ins) (new_spelled n.inputs [] n.outputs h.outputs);
      distinct = new_distinct n.inputs [] n.outputs (subst AreDistinct (sym (append-nil n.inputs)) (new_distinct [] [] n.inputs refl ins)) h.outputs;
    }

told_same : (E : Equations) (n : FileNames) → IsOrdered E → HasNames E n → told_system E n ≡ E
told_same E n o h =
    ap (λ (k : ℕ). system k E.initial E.lines E.outputs E.next) h.inputs
    ∙ ap (λ (ks : List ℕ). let e : Equations = record { inputs = E.inputs; initial = E.initial; lines = E.lines; outputs = E.outputs; locals = ks; next = E.next } in e) (sym o.no_locals)

pub text_is_file : (bs : List ℕ) (E : Equations) (n : FileNames) → IsEquationText bs E n → IsFile equation_format bs (stage nothing_due E n)
text_is_file bs E n h = record {
  lines = file_lines E n;
  text = h.text;
  leads = subst (λ (e : Equations). Leads F F.start (file_lines E n) (stage nothing_due e n)) (told_same E n h.ordered h.names) (told_leads E n (told_from E n h.ordered h.names));
  whole = refl;
}

-- the lines of a told system are those of its parts
same_lines : (E : Equations) (n : FileNames) → file_lines (told_system E n) n ≡ file_lines E n
same_lines E n = refl

pub tells_text : (bs : List ℕ) (lines : List FileLine) (t : Stage) → bs ≡ lines_then F lines [] → Tells lines t → IsEquationText bs t.system t.names
tells_text bs lines t e h =
    let E : Equations = told_system h.told_E h.told_n in
    let text : IsEquationText bs E h.told_n = record {
      ordered = ordered_from h.told_E h.told_n h.told;
      names = names_from h.told_E h.told_n h.told;
      text = e ∙ ap (λ z. lines_then F z []) h.lines_are;
    } in
    subst (λ (z : Stage). IsEquationText bs z.system z.names) (sym h.ends) text

pub file_is_text : (bs : List ℕ) (t : Stage) → IsFile equation_format bs t → IsEquationText bs t.system t.names
file_is_text bs t h = tells_text bs h.lines t h.text (leads_tell h.lines t h.leads h.whole)
