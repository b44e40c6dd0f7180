use Rattle.argos_grammar.specs.Views.{aspect_of}
use Rattle.argos_printer.proofs.Texts.{aspect_written}
use Rattle.argos_printer.proofs.printing.print_aspect.Goals as goal

pub returns : goal.returns
returns c = record {
  text =
      aspect_written (aspect_of c.args.tree.now) c.in_ok-printer.printer.text.items c.number.new.self.text.items c.word.new.self.text.items c.components.new.self.text.items c.advice.new.self.text.items c.in_ok-line.field-0.items
      c.in_ok-printer.ensures c.in_ok-number.ensures c.in_ok-word.ensures (cc c.in_ok-components.ensures) c.in_ok-advice.ensures c.in_ok-line.ensures;
}
