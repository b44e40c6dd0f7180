use Rattle.std.proofs.Common.{Err, length, sym, ap, ◌∙◌, subst}
use Rattle.std.proofs.lemmas.List.{length-map}
use Rattle.argos_base.specs.Machines.{no_reaction}
use Rattle.argos_core.specs.ModuleViews.{module_of}
use Rattle.argos_core.specs.Views.{shapes_of, register_shape_of}
use Rattle.eqn_core.specs.Views.{equations_from}
use Rattle.instant_verdict.specs.Verdicts.{IsVerdictOn}
use Rattle.argos_verdict.proofs.JudgingSteps.{layout-sized, is-program, cyclic-signals, acceptable, once, bad-case, wide, stopped, outputs-few}
use Rattle.argos_verdict.proofs.judging.judge_reactions.Goals as goal

pub instant-requires-clause-sized : goal.instant-requires-clause-sized
instant-requires-clause-sized c =
    let P = module_of c.args.module.now in
    sym (length-map c.in_ok-layout.layout.regs.items register_shape_of)
    ∙ layout-sized P (shapes_of c.in_ok-layout.layout) (length c.in_ok-system.system.init.items) c.args.module.now.kept.shaped c.in_ok-layout.ensures c.in_ok-system.ensures.registers

pub returns-in-Ok-One : goal.returns-in-Ok-One
returns-in-Ok-One c =
    let P = module_of c.args.module.now in
    let E = equations_from c.in_ok-system.system in
    let layout = shapes_of c.in_ok-layout.layout in
    let e = c.in_ok-system.ensures in
    let program = is-program P c.args.module.now.kept c.requires.clear in
    let cyclic = c.in_ok-plan.plan.cyclic.items in
    let are = cyclic-signals P E c.in_ok-plan.plan.order.items cyclic e.locals e.cyclic c.in_ok-plan.ensures in
    let always = subst (IsVerdictOn E layout) c.in-Ok-One.field-0-is c.in-Ok-One.ensures.verdict in
    record {
      acceptable = acceptable P E layout c.args.module.now.kept c.requires.clear e.inputs (e.reactions program) c.in_ok-layout.ensures cyclic are c.in-Ok-One.ensures.fits always;
      reacts = e.reactions program;
      chosen = e.chosen program;
      own_cycles = e.cyclic;
      once = once P E layout c.args.module.now.kept c.requires.clear e.inputs (e.reactions program) c.in_ok-layout.ensures always;
      initial = e.initial;
      registers = e.registers;
      inputs = e.inputs;
      outputs = e.outputs;
      locals = e.locals;
      lines = e.lines;
      weight = e.weight;
      orderable = e.orderable;
      plan = c.in_ok-plan.ensures;
      cyclic = are;
      layout = c.in_ok-layout.ensures;
    }

pub returns-in-Ok-NoReaction : goal.returns-in-Ok-NoReaction
returns-in-Ok-NoReaction c =
    let P = module_of c.args.module.now in
    let E = equations_from c.in_ok-system.system in
    let layout = shapes_of c.in_ok-layout.layout in
    let e = c.in_ok-system.ensures in
    let program = is-program P c.args.module.now.kept c.requires.clear in
    let cyclic = c.in_ok-plan.plan.cyclic.items in
    let are = cyclic-signals P E c.in_ok-plan.plan.order.items cyclic e.locals e.cyclic c.in_ok-plan.ensures in
    bad-case P E layout c.args.module.now.kept c.requires.clear e.inputs (e.reactions program) c.in_ok-layout.ensures cyclic _ _ no_reaction are c.in-Ok-NoReaction.ensures.fits
    (subst (IsVerdictOn E layout) c.in-Ok-NoReaction.field-0-is c.in-Ok-NoReaction.ensures.verdict)

pub returns-in-Ok-Several : goal.returns-in-Ok-Several
returns-in-Ok-Several c =
    let P = module_of c.args.module.now in
    let E = equations_from c.in_ok-system.system in
    let layout = shapes_of c.in_ok-layout.layout in
    let e = c.in_ok-system.ensures in
    let program = is-program P c.args.module.now.kept c.requires.clear in
    let cyclic = c.in_ok-plan.plan.cyclic.items in
    let are = cyclic-signals P E c.in_ok-plan.plan.order.items cyclic e.locals e.cyclic c.in_ok-plan.ensures in
    bad-case P E layout c.args.module.now.kept c.requires.clear e.inputs (e.reactions program) c.in_ok-layout.ensures cyclic _ _ _ are c.in-Ok-Several.ensures.fits
    (subst (IsVerdictOn E layout) c.in-Ok-Several.field-0-is c.in-Ok-Several.ensures.verdict)

pub returns-in-Err-Variables : goal.returns-in-Err-Variables
returns-in-Err-Variables c =
    let P = module_of c.args.module.now in
    let E = equations_from c.in_ok-system.system in
    let e = c.in_ok-system.ensures in
    let program = is-program P c.args.module.now.kept c.requires.clear in
    let cyclic = c.in_ok-plan.plan.cyclic.items in
    let n = c.in-Err-Variables.n in
    let is = c.in-Err-Variables.ensures.variables n (ap Err c.in-Err-Variables.field-0-is) in
    wide P E (shapes_of c.in_ok-layout.layout) c.args.module.now.kept c.requires.clear e.inputs (e.reactions program) c.in_ok-layout.ensures cyclic n
    (cyclic-signals P E c.in_ok-plan.plan.order.items cyclic e.locals e.cyclic c.in_ok-plan.ensures) (λ none. c.in-Err-Variables.ensures.acyclic none n (ap Err c.in-Err-Variables.field-0-is)) is.0 is.1

pub returns-in-Err-Budget : goal.returns-in-Err-Budget
returns-in-Err-Budget c =
    let P = module_of c.args.module.now in
    let E = equations_from c.in_ok-system.system in
    let e = c.in_ok-system.ensures in
    let program = is-program P c.args.module.now.kept c.requires.clear in
    let cyclic = c.in_ok-plan.plan.cyclic.items in
    let arena = c.in-Err-Budget.arena in
    let is = c.in-Err-Budget.ensures.budget arena (ap Err c.in-Err-Budget.field-0-is) in
    stopped P E (shapes_of c.in_ok-layout.layout) c.args.module.now.kept c.requires.clear e.inputs (e.reactions program) c.in_ok-layout.ensures cyclic c.args.budget arena
    (cyclic-signals P E c.in_ok-plan.plan.order.items cyclic e.locals e.cyclic c.in_ok-plan.ensures) (λ none. c.in-Err-Budget.ensures.no_diagrams none arena (ap Err c.in-Err-Budget.field-0-is)) e.weight (outputs-few P c.in_ok-system.system.outs.items e.outputs) is
