use Rattle.std.proofs.Common.{[], sym}
use Rattle.argos_grammar.specs.Views.{mark_of}
use Rattle.argos_names.proofs.Processes.{after_name, names_from}
use Rattle.argos_names.proofs.rules.process.names_of.Goals as goal

pub loop-state-preserved : goal.loop-state-preserved
loop-state-preserved c = after_name c.loop-state.names.keys c.insert.new.self.keys (names_from [] c.args.states.now) c.args.states.now c.loop-state.state-index c.state-item.result (mark_of c.name_of.result)
    c.loop-state-test.true (sym c.state-item.is) c.name_of.ensures c.loop-state.invariant c.in_ok-insert.ensures.keys
