use Rattle.std.proofs.Common.{◌≡◌, ◌++◌, length, map, ap, ◌∙◌}
use Rattle.std.specs.Prelude.{codes}
use Rattle.eqn_core.specs.Equations.{Equations}
use Rattle.eqn_core.specs.Views.{equations_from}
use Rattle.line_format.specs.FileNames.{names_of}
use Rattle.line_format.specs.Numerals.{numeral}
use Rattle.eqn_file.specs.EquationFile.{file_text}
use Rattle.eqn_file.specs.inner.Texts.{keyed_line, lines_text, places_text, line_text}
use Rattle.std.proofs.Common.{refl}
use Rattle.eqn_file.proofs.PieceTexts.{whole_text, all_names, spelled_text}
use Rattle.eqn_file.proofs.writing.write_equations.Goals as goal

pub returns : goal.returns
returns c =
    let E : Equations = equations_from c.system-system.result.now in
    let e1 = c.in_ok-text.ensures {u = tt} in
    let e2 = c.in_ok-push_names.ensures {u = tt} in
    let e3 = c.in_ok-push_names-2.ensures {u = tt} in
    let e4 = (c.in_ok-push_codes.ensures {u = tt}) ∙ ap (λ z. c.push_names-2.new.text.items ++ (keyed_line (codes "registers") (length z) ++ lines_text (map numeral z))) c.deref.ensures.value in
    let e5 = (c.in_ok-push_lines.ensures {u = tt}) ∙ ap (λ z. c.push_codes.new.text.items ++ (keyed_line (codes "lines") (length z) ++ lines_text (map line_text z))) c.deref-2.ensures.value in
    let e6 = (c.in_ok-push_places.ensures {u = tt}) ∙ ap (λ z. c.push_lines.new.text.items ++ places_text (codes "out") z) c.deref-3.ensures.value in
    let e7 = (c.in_ok-push_places-2.ensures {u = tt}) ∙ ap (λ z. c.push_places.new.text.items ++ places_text (codes "next") z) c.deref-4.ensures.value in
    let e8 = (c.in_ok-extend_from_slice.ensures {u = tt}).items in
    let text : c.extend_from_slice.new.self.items ≡ file_text E (names_of c.args.names.now) =
    whole_text E (names_of c.args.names.now) c.system-system.result.now.lines.items c.in_ok-text.text.items c.push_names.new.text.items c.push_names-2.new.text.items c.push_codes.new.text.items c.push_lines.new.text.items c.push_places.new.text.items c.push_places-2.new.text.items c.extend_from_slice.new.self.items
    refl e1.items e2.text e3.text e4 e5 e6 e7 e8 in
    spelled_text E c.args.ordered.now (names_of c.args.names.now) c.extend_from_slice.new.self.items c.system-system.ensures.ordered c.system-system.ensures.system
    (all_names c.args.names.now.inputs c.args.names.now.outputs e2.names e3.names) c.args.names.now.distinct c.requires.inputs c.requires.outputs text
