use Rattle.argos_grammar.specs.Views.{component_of}
use Rattle.argos_printer.proofs.ProcessWords.{component_written}
use Rattle.argos_printer.proofs.printer.Printer.component.Goals as goal

pub returns : goal.returns
returns c =
    component_written (component_of c.args.component.now) c.args.self.now.text.items c.word.new.self.text.items c.name.new.self.text.items c.interface.new.self.text.items c.block.new.self.text.items
    c.in_ok-word.ensures c.in_ok-name.ensures (cc c.in_ok-interface.ensures) (cc c.in_ok-block.ensures)
