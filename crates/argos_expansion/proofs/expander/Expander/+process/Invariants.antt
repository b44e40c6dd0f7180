use Rattle.std.proofs.Common.{◌+◌, ◌-◌, ◌*◌}
use Rattle.argos_core.specs.Views.{numbers}
use Rattle.argos_expansion.specs.inner.Growing.{moment_of}
use Rattle.argos_expansion.specs.inner.ShapeGrowth.{rest_growth, states_growth, growths_of}
use Rattle.argos_expansion.specs.inner.Shapes.{block_shape, states_shape}
use Rattle.argos_expansion.proofs.Parts.{ProcessesLead, StatesLead}
use Rattle.argos_expansion.proofs.expander.Expander.+process.Given as goal

-- levels that are left, and the functions that call one another at one level
abbrev pub decreases-automaton : goal.decreases-automaton
decreases-automaton l = 8 * (65 - l.depth) + 0

abbrev pub decreases-block : goal.decreases-block
decreases-block l = 8 * (65 - l.depth) + 2

abbrev pub decreases-body : goal.decreases-body
decreases-body l = 8 * (65 - l.depth) + 3

abbrev pub decreases-freeze : goal.decreases-freeze
decreases-freeze l = 8 * (65 - l.depth) + 0

abbrev pub decreases-local : goal.decreases-local
decreases-local l = 8 * (65 - l.depth) + 0

abbrev pub decreases-process : goal.decreases-process
decreases-process l = 8 * (65 - l.depth) + 1

abbrev pub decreases-processes : goal.decreases-processes
decreases-processes l = 8 * (65 - l.depth) + 2

abbrev pub decreases-run : goal.decreases-run
decreases-run l = 8 * (65 - l.depth) + 0

abbrev pub decreases-state : goal.decreases-state
decreases-state l = 8 * (65 - l.depth) + 4

abbrev pub decreases-states : goal.decreases-states
decreases-states l = 8 * (65 - l.depth) + 5

-- the processes that are left lead on
abbrev pub invariant-processes-loop-form : goal.invariant-processes-loop-form
invariant-processes-loop-form l = ProcessesLead (growths_of l.earlier) (numbers l.signals) l.depth l.forms (moment_of l.initial.self)
    (rest_growth (growths_of l.earlier) (numbers l.signals) l.depth l.initial.self.counts.signals (block_shape l.forms)) l.parts.items l.form-index (moment_of l.self)

abbrev pub invariant-states-loop-form : goal.invariant-states-loop-form
invariant-states-loop-form l = StatesLead (growths_of l.earlier) (numbers l.signals) l.depth l.forms (moment_of l.initial.self)
    (states_growth (growths_of l.earlier) (numbers l.signals) l.depth l.initial.self.counts.signals (states_shape l.forms)) l.states.items l.form-index (moment_of l.self)
