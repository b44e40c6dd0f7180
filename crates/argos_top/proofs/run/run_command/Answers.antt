use Rattle.std.proofs.Common.{refl, subst}
use Rattle.argos_words.specs.Views.{command_of}
use Rattle.argos_words.specs.Words.{IsCommand}
use Rattle.argos_top.specs.inner.Commands.{IsJobOf, KeepsLimits}
use Rattle.argos_top.proofs.Limits.{few_strings, writes_few, writes_nodes, simulating}
use Rattle.argos_top.proofs.Loads.{leaves_simulated, leaves_unloaded, leaves_unread}
use Rattle.argos_top.proofs.Runs.{ending_sampled}
use Rattle.argos_top.proofs.run.run_command.Goals as goal

pub check_file-requires : goal.check_file-requires
check_file-requires g c =
    let s = subst (λ b. IsJobOf b (command_of c.args.command.now)) c.in-Check.is c.job_of.ensures in
    subst KeepsLimits s c.requires

pub simulate_files-requires-clause-nodes : goal.simulate_files-requires-clause-nodes
simulate_files-requires-clause-nodes g c =
    let s = subst (λ b. IsJobOf b (command_of c.args.command.now)) c.in-Simulation.is c.job_of.ensures in
    (subst KeepsLimits s c.requires).0

pub simulate_files-requires-clause-few : goal.simulate_files-requires-clause-few
simulate_files-requires-clause-few g c =
    let s = subst (λ b. IsJobOf b (command_of c.args.command.now)) c.in-Simulation.is c.job_of.ensures in
    few_strings _ (subst KeepsLimits s c.requires).1

pub equiv_files-requires : goal.equiv_files-requires
equiv_files-requires g c =
    let s = subst (λ b. IsJobOf b (command_of c.args.command.now)) c.in-Comparison.is c.job_of.ensures in
    subst KeepsLimits s c.requires

pub write_files-requires-clause-nodes : goal.write_files-requires-clause-nodes
write_files-requires-clause-nodes g c =
    let s = subst (λ b. IsJobOf b (command_of c.args.command.now)) c.in-Writing.is c.job_of.ensures in
    writes_nodes _ _ _ _ _ s c.requires

pub write_files-requires-clause-few : goal.write_files-requires-clause-few
write_files-requires-clause-few g c =
    let s = subst (λ b. IsJobOf b (command_of c.args.command.now)) c.in-Writing.is c.job_of.ensures in
    few_strings _ (writes_few _ _ _ _ _ s c.requires)

pub returns-in-Check-clause-ending : goal.returns-in-Check-clause-ending
returns-in-Check-clause-ending g c words is =
    let s = subst (λ b. IsJobOf b (command_of c.args.command.now)) c.in-Check.is c.job_of.ensures in
    c.check_file.ensures.ending words _ (subst (IsCommand words) s is)

pub returns-in-Check-clause-leaves : goal.returns-in-Check-clause-leaves
returns-in-Check-clause-leaves g c words is = leaves_unread words _ c.check_file.ensures.loaded refl

pub returns-in-Simulation-clause-ending : goal.returns-in-Simulation-clause-ending
returns-in-Simulation-clause-ending g c words is =
    let s = subst (λ b. IsJobOf b (command_of c.args.command.now)) c.in-Simulation.is c.job_of.ensures in
    c.simulate_files.ensures.ending words (subst (IsCommand words) s is)

pub returns-in-Simulation-clause-leaves : goal.returns-in-Simulation-clause-leaves
returns-in-Simulation-clause-leaves g c words is =
    let s = subst (λ b. IsJobOf b (command_of c.args.command.now)) c.in-Simulation.is c.job_of.ensures in
    leaves_simulated words _ c.simulate_files.ensures.loaded (simulating words _ _ _ (subst (IsCommand words) s is))

pub returns-in-Comparison-clause-ending : goal.returns-in-Comparison-clause-ending
returns-in-Comparison-clause-ending g c words is =
    let s = subst (λ b. IsJobOf b (command_of c.args.command.now)) c.in-Comparison.is c.job_of.ensures in
    c.equiv_files.ensures.ending words _ (subst (IsCommand words) s is)

pub returns-in-Comparison-clause-leaves : goal.returns-in-Comparison-clause-leaves
returns-in-Comparison-clause-leaves g c words is = leaves_unread words _ c.equiv_files.ensures.loaded refl

pub returns-in-Writing-clause-ending : goal.returns-in-Writing-clause-ending
returns-in-Writing-clause-ending g c words is =
    let s = subst (λ b. IsJobOf b (command_of c.args.command.now)) c.in-Writing.is c.job_of.ensures in
    c.write_files.ensures.ending words (command_of c.args.command.now) _ is s

pub returns-in-Writing-clause-leaves : goal.returns-in-Writing-clause-leaves
returns-in-Writing-clause-leaves g c words is = leaves_unread words _ c.write_files.ensures.loaded refl

pub sample-requires-clause-least : goal.sample-requires-clause-least
sample-requires-clause-least g c = (subst KeepsLimits (subst (λ b. IsJobOf b (command_of c.args.command.now)) c.in-Sample.is c.job_of.ensures) c.requires).least

pub sample-requires-clause-most : goal.sample-requires-clause-most
sample-requires-clause-most g c = (subst KeepsLimits (subst (λ b. IsJobOf b (command_of c.args.command.now)) c.in-Sample.is c.job_of.ensures) c.requires).greatest

pub returns-in-Sample-clause-ending : goal.returns-in-Sample-clause-ending
returns-in-Sample-clause-ending g c words is =
    let s = subst (λ b. IsJobOf b (command_of c.args.command.now)) c.in-Sample.is c.job_of.ensures in
    ending_sampled words _ _ _ (subst (IsCommand words) s is) c.sample.ensures

pub returns-in-Sample-clause-leaves : goal.returns-in-Sample-clause-leaves
returns-in-Sample-clause-leaves g c words is = leaves_unloaded words _ refl refl
