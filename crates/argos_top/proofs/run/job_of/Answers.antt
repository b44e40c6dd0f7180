use Rattle.std.proofs.Common.{ap, string_bytes}
use Rattle.argos_words.specs.Views.{command_of}
use Rattle.argos_top.proofs.Limits.{writes_compiled, writes_woven}
use Rattle.argos_top.proofs.run.job_of.Goals as goal

pub returns-in-Compile : goal.returns-in-Compile
returns-in-Compile c = writes_compiled (command_of c.args.command.now) (string_bytes c.in-Compile.file) _ _ _ (ap command_of c.in-Compile.is) c.deref-in-Compile.ensures

pub returns-in-Weave : goal.returns-in-Weave
returns-in-Weave c = writes_woven (command_of c.args.command.now) (string_bytes c.in-Weave.file) _ c.in-Weave.aspects.items _ _ _ (ap command_of c.in-Weave.is) c.deref-in-Weave.ensures c.deref-in-Weave-2.ensures.value
