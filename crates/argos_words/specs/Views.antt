-- What the values of the code stand for.
use Rattle.std.specs.Prelude.{ℕ, List, [], Option, Some, None, map, string_bytes}
use Rattle.std.specs.Borrow.{Bor}
use Rattle.argos_words.specs.declared.command.Target as code_target
use Rattle.argos_words.specs.declared.command.Target.TheVariants as target
use Rattle.argos_words.specs.declared.command.Command as code_command
use Rattle.argos_words.specs.declared.command.Command.TheVariants as of
use Rattle.argos_words.specs.Words.{Words, Target, Equations, CText, Command, check, compile, weave, simulate, equiv, sample}

abbrev pub target_of : code_target.Target → Target
target_of target.Equations = Equations
target_of target.CText = CText

abbrev pub command_of : code_command.Command → Command
command_of (of.Check file nodes) = check (string_bytes file) nodes
command_of (of.Compile file to nodes) = compile (string_bytes file) (target_of to) nodes
command_of (of.Weave file aspects to nodes) = weave (string_bytes file) (map string_bytes aspects.items) (target_of to) nodes
command_of (of.Simulate file aspects nodes) = simulate (string_bytes file) (map string_bytes aspects.items) nodes
command_of (of.Equiv left right cert nodes) = equiv (string_bytes left) (string_bytes right) (string_bytes cert) nodes
command_of (of.Sample count) = sample count

-- what each of these points to
abbrev pub texts_of : List (Bor (List ℕ)) → Words
texts_of = map (λ w. w.now)

abbrev pub texts_if_any : Option (Bor (List (Bor (List ℕ)))) → Words
texts_if_any None = []
texts_if_any (Some words) = texts_of words.now
