use Rattle.std.proofs.Common.{arith, ◌∙◌}
use Rattle.argos_core.specs.ModuleViews.{module_of}
use Rattle.eqn_build.proofs.ModuleRoom.{module_room, emit_with}
use Rattle.eqn_build.proofs.building.build.Goals as goal

pub module_lines-requires-clause-room : goal.module_lines-requires-clause-room
module_lines-requires-clause-room c =
    let room = module_room (module_of c.args.module.now) c.args.module.now.kept in omega (arith, room, c.len-inputs.ensures.count, c.len-outputs.ensures.count, c.len-locals.ensures, c.args.module.now.locals.ok.0)

pub module_lines-requires-clause-emit : goal.module_lines-requires-clause-emit
module_lines-requires-clause-emit c =
    emit_with (module_of c.args.module.now) c.len-inputs.result c.len-outputs.result c.len-locals.result _ c.args.module.now.kept c.len-inputs.ensures.count c.len-outputs.ensures.count (omega (arith, c.len-locals.ensures, c.args.module.now.locals.ok.0))
