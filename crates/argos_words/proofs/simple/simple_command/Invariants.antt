use Rattle.std.proofs.Common.{◌≡◌, take}
use Rattle.clap.specs.Words.{app_of}
use Rattle.argos_words.specs.Views.{texts_of}
use Rattle.argos_words.specs.Simple.{simple_app}
use Rattle.argos_words.proofs.simple.simple_command.Given as goal

-- the options so far are added
abbrev pub invariant-loop-option : goal.invariant-loop-option
invariant-loop-option l = app_of l.command ≡ simple_app l.name (texts_of (take l.option-index l.options))
