use Rattle.std.proofs.Common.{map, string_bytes, refl, subst}
use Rattle.argos_words.specs.inner.Reading.{OnUsage}
use Rattle.argos_words.specs.Words.{IsUsage}
use Rattle.argos_top.specs.inner.Endings as endings
use Rattle.argos_top.proofs.Loads.{leaves_unloaded}
use Rattle.argos_top.proofs.Runs.{ending_usage}
use Rattle.argos_words.specs.Views.{command_of}
use Rattle.argos_top.proofs.Limits.{commands_keep_limits}
use Rattle.argos_top.proofs.run.run_words.Goals as goal

pub run_command-requires : goal.run_command-requires
run_command-requires g c = commands_keep_limits (map string_bytes c.args.words.now) (command_of c.in-Ok.command) (c.in-Ok.ensures {u = tt})

pub returns-in-Ok-clause-ending : goal.returns-in-Ok-clause-ending
returns-in-Ok-clause-ending g c = c.run_command.ensures.ending (map string_bytes c.args.words.now) (c.in-Ok.ensures {u = tt})

pub returns-in-Ok-clause-leaves : goal.returns-in-Ok-clause-leaves
returns-in-Ok-clause-leaves g c = c.run_command.ensures.leaves (map string_bytes c.args.words.now) (c.in-Ok.ensures {u = tt})

pub returns-in-Err-Usage-clause-ending : goal.returns-in-Err-Usage-clause-ending
returns-in-Err-Usage-clause-ending g c =
    let words = map string_bytes c.args.words.now in
    let none = subst (λ e. OnUsage e (IsUsage words)) c.in-Err-Usage.field-0-is (c.in-Err-Usage.ensures {u = tt}) in
    ending_usage words _ _ none c.report.ensures

pub returns-in-Err-Usage-clause-leaves : goal.returns-in-Err-Usage-clause-leaves
returns-in-Err-Usage-clause-leaves g c = leaves_unloaded _ _ refl refl

pub returns-in-Err-OutOfMemory-clause-ending : goal.returns-in-Err-OutOfMemory-clause-ending
returns-in-Err-OutOfMemory-clause-ending g c = endings.no_memory (record { is = refl; held = refl; still = refl })

pub returns-in-Err-OutOfMemory-clause-leaves : goal.returns-in-Err-OutOfMemory-clause-leaves
returns-in-Err-OutOfMemory-clause-leaves g c = leaves_unloaded _ _ refl refl
