use Rattle.std.proofs.Common.{Ok, Err, map, subst, ◌∙◌}
use Rattle.std.specs.Prelude.{Result, IfOk}
use Rattle.argos_core.specs.Overlaps.{some_reads}
use Rattle.argos_core.specs.Views.{transition_of}
use Rattle.argos_base.specs.SignalSets.{SignalSet, empty}
use Rattle.instant_check.specs.inner.Marking.{IsMarked}
use Rattle.instant_check.proofs.Marks.{filter-marked}
use Rattle.instant_check.proofs.ReadLists.{then_same}
use Rattle.instant_check.proofs.reading.read_signals.Goals as goal

pub returns : goal.returns
returns c =
    let test = some_reads (map transition_of c.args.transitions.now) in
    let marked = subst (λ (s : SignalSet). IsMarked test s c.mark_transitions.new.read) c.in_ok-read.ensures c.mark_transitions.ensures in
    then_same c.members.result _ _ c.members.ensures (filter-marked test c.args.count c.mark_transitions.new.read marked)
