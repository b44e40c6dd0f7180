use Rattle.argos_top.proofs.Clauses.{due_drawn, reads_drawn, read_fault_drawn, write_fault_drawn, nothing_drawn, kept_drawn, budget_drawn, enough_drawn}
use Rattle.argos_top.proofs.Equivalences.{congruent_drawn}
use Rattle.argos_top.proofs.run.argos_run.Goals as goal

pub returns-clause-due : goal.returns-clause-due
returns-clause-due g c = due_drawn _ _ _ c.run_words.ensures.ending

pub returns-clause-reads_all : goal.returns-clause-reads_all
returns-clause-reads_all g c = reads_drawn _ _ _ c.run_words.ensures.ending

pub returns-clause-read_fault : goal.returns-clause-read_fault
returns-clause-read_fault g c = read_fault_drawn _ _ _ c.run_words.ensures.ending

pub returns-clause-write_fault : goal.returns-clause-write_fault
returns-clause-write_fault g c = write_fault_drawn _ _ _ c.run_words.ensures.ending

pub returns-clause-nothing_written : goal.returns-clause-nothing_written
returns-clause-nothing_written g c = nothing_drawn _ _ _ c.run_words.ensures.ending

pub returns-clause-sink_kept : goal.returns-clause-sink_kept
returns-clause-sink_kept g c = kept_drawn _ _ _ c.run_words.ensures.ending

pub returns-clause-budget : goal.returns-clause-budget
returns-clause-budget g c = budget_drawn _ _ _ c.run_words.ensures.ending

pub returns-clause-enough_nodes : goal.returns-clause-enough_nodes
returns-clause-enough_nodes g c = enough_drawn _ _ _ c.run_words.ensures.ending

pub returns-clause-congruence : goal.returns-clause-congruence
returns-clause-congruence g c = congruent_drawn _ _ _ c.run_words.ensures.ending
