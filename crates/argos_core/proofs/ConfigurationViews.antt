-- What stands for a configuration that the code makes.
use Rattle.std.proofs.Common.{◌≡◌, ℕ, Option, Some, None, ap, sym, ◌∙◌, Vec, map}
use Rattle.std.specs.Prelude.{Box}
use Rattle.std.proofs.lemmas.Grind.{common_steps}
use Rattle.std.specs.declared.alloc.Global.{Global}
use Rattle.argos_core.specs.Process.{Configuration, at, beside}
use Rattle.argos_core.specs.Views.{configuration_of, configuration_layer, configurations_of, inner_of}
use Rattle.argos_core.specs.declared.prog.Config.{Config, fold-roll-Config}
use Rattle.argos_core.specs.declared.prog.Config.TheVariants as made
use Rattle.argos_core.specs.declared.prog.Config.TheOpen.{Config-F}

pub configuration_of-At : (q e : ℕ) (b : Option (Box Config Global)) → configuration_of (made.At q e b) ≡ at q e (inner_of b)
configuration_of-At q e None = ap configuration_of (sym (made.rolls-At q e None)) ∙ fold-roll-Config Configuration configuration_layer (Config-F.At q e None)
configuration_of-At q e (Some c) = ap configuration_of (sym (made.rolls-At q e (Some c))) ∙ fold-roll-Config Configuration configuration_layer (Config-F.At q e (Some c))

pub configuration_of-Beside : (cs : Vec Config Global) → configuration_of (made.Beside cs) ≡ beside (configurations_of (map configuration_of cs.items))
configuration_of-Beside cs = ap configuration_of (sym (made.rolls-Beside cs)) ∙ fold-roll-Config Configuration configuration_layer (Config-F.Beside cs)

pub ruleset made_configurations = (common_steps, configuration_of-At, configuration_of-Beside)
