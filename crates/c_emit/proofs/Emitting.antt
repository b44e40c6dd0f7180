-- The parts that are emitted make the C step of the system.
use Rattle.std.proofs.Common.{◌≡◌, ℕ, ◌+◌, ◌-◌, List, ◌++◌, length, map, sym, ap, ◌∙◌, subst, arith}
use Rattle.std.specs.Prelude.{max}
use Rattle.std.specs.List.{list_all}
use Rattle.std.proofs.lemmas.List.{length-map}
use Rattle.std.proofs.lemmas.List.Folds.{list_all-append}
use Rattle.argos_base.specs.Names.{Spelled, IsTable, AreDistinct}
use Rattle.argos_base.specs.Spelling.{is_name}
use Rattle.argos_base.specs.declared.names.Names.{Names}
use Rattle.argos_base.proofs.Bools.{and_both}
use Rattle.eqn_core.specs.Equations.{Equations, word_lines, bit_lines, word_count, bit_count}
use Rattle.eqn_core.specs.Ordered.{IsOrdered}
use Rattle.eqn_core.specs.Views.{line_of, equations_from}
use Rattle.eqn_core.specs.declared.system.System.{System}
use Rattle.eqn_core.proofs.Walks.{bit_and_word_lines}
use Rattle.line_format.specs.FileNames.{FileNames, HasNames, names_of}
use Rattle.c_step.specs.CStep.{CStep, IsCStep}
use Rattle.c_step.specs.CStep as plain
use Rattle.c_step.specs.Views.{statement_of, step_from}
use Rattle.c_step.specs.declared.statements.CStat.{CStat}
use Rattle.c_emit.specs.COf.{statements_of, c_of}
use Rattle.c_emit.specs.Laws.{HasRunsOf, HasStatementsOf}
use Rattle.c_emit.proofs.KeepsRules.{keeps_rules}
use Rattle.c_emit.proofs.SameRuns.{runs_as_system, statements_counted}

pub has_names : (E : Equations) (ins outs : List Spelled) → IsTable ins → IsTable outs → AreDistinct (ins ++ outs) → length ins ≡ E.inputs → length outs ≡ length E.outputs → HasNames E (record { inputs = ins; outputs = outs })
has_names E ins outs a b d e f = record { inputs = e; outputs = f; spelled = list_all-append is_name ins outs ∙ and_both (list_all is_name ins) (list_all is_name outs) a.spelled b.spelled; distinct = d }

of_parts : (n : FileNames) (words bits : ℕ) (init : List ℕ) (xs : List plain.CStat) → CStep
of_parts n words bits init xs = record { names = n; words = words; bits = bits; initial = init; statements = xs }

of_parts-same : (n n' : FileNames) (words words' bits bits' : ℕ) (init init' : List ℕ) (xs xs' : List plain.CStat) → n ≡ n' → words ≡ words' → bits ≡ bits' → init ≡ init' → xs ≡ xs' → of_parts n words bits init xs ≡ of_parts n' words' bits' init' xs'
of_parts-same n n' words words' bits bits' init init' xs xs' e f g h k =
    ap (λ z. of_parts z words bits init xs) e ∙ ap (λ z. of_parts n' z bits init xs) f ∙ ap (λ z. of_parts n' words' z init xs) g ∙ ap (λ z. of_parts n' words' bits' z xs) h ∙ ap (λ z. of_parts n' words' bits' init' z) k

-- so many words and bits, where `count` lines define a word
pub emitted : (s : System) (E : Equations) (n : FileNames) (names : Names) (init : List ℕ) (stats : List CStat) (registers count words bits : ℕ) → equations_from s ≡ E → names_of names ≡ n → init ≡ s.init.items → registers ≡ length init → count ≡ word_lines (map line_of s.lines.items)
    → words ≡ registers + count → bits ≡ max (s.inputs + (length s.lines.items - count)) 1 → map statement_of stats ≡ statements_of E → step_from names words bits init stats ≡ c_of E n
unfolding of_parts
emitted s E n names init stats registers count words bits e f g r c w b k =
    let lines = map line_of s.lines.items in
    let split : bit_lines lines + word_lines lines ≡ length lines = bit_and_word_lines lines in
    let sized : length lines ≡ length s.lines.items = length-map s.lines.items line_of in
    let some : registers ≡ length s.init.items = r ∙ ap length g in
    let w' : words ≡ word_count (equations_from s) = omega arith in
    let b' : bits ≡ max 1 (bit_count (equations_from s)) = omega arith in
    of_parts-same (names_of names) n words (word_count E) bits (max 1 (bit_count E)) init E.initial (map statement_of stats) (statements_of E)
    f (w' ∙ ap word_count e) (b' ∙ ap (λ (z : Equations). max 1 (bit_count z)) e) (g ∙ ap (λ (z : Equations). z.initial) e) k

-- what holds of a step that is the C step of the system
pub record IsEmitted (E : Equations) (n : FileNames) (s : CStep) : Type 0 where
  pub same : s ≡ c_of E n
  pub kept : IsCStep s
  pub runs : HasRunsOf E s
  pub counted : HasStatementsOf E s

pub is_emitted : (E : Equations) (n : FileNames) (s : CStep) → IsOrdered E → HasNames E n → s ≡ c_of E n → IsEmitted E n s
is_emitted E n s h k e = record {
  same = e;
  kept = subst IsCStep (sym e) (keeps_rules E n h k);
  runs = subst (HasRunsOf E) (sym e) (runs_as_system E n h k);
  counted = subst (HasStatementsOf E) (sym e) (statements_counted E n h);
}
