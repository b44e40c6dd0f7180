use Rattle.std.proofs.Common.{Bool, false, List, ◌||◌, length, ap, ◌∙◌}
use Rattle.argos_base.specs.SignalSets.{has, lists}
use Rattle.argos_base.proofs.SetLemmas.{length-set_where}
use Rattle.eqn_sort.proofs.Entries.{none-yet}
use Rattle.eqn_sort.proofs.lines.set_of.Goals as goal

pub loop-number-init : goal.loop-number-init
loop-number-init c = (ap length c.in_ok-set.ensures ∙ length-set_where c.args.count (λ k. false), λ k. ap (λ (s : List Bool). has s k || lists c.args.numbers.now k) c.in_ok-set.ensures ∙ none-yet c.args.count c.args.numbers.now k)
