use Rattle.std.proofs.Common.{◌∙◌, ap}
use Rattle.argos_base.specs.Names.{place_of}
use Rattle.bisim_check.proofs.Sharing.{found_is_listed}
use Rattle.bisim_check.proofs.interfaces.contains.Goals as goal

pub returns : goal.returns
returns c = c.is_some.ensures ∙ found_is_listed c.args.names.now c.args.name.now c.find.result (c.find.ensures ∙ ap (place_of c.args.names.now) c.bytes.ensures.bytes)
