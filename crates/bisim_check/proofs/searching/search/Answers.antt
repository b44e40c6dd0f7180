use Rattle.std.proofs.Common.{List, length, sym, ap, ◌∙◌, subst}
use Rattle.std.proofs.Math.Logic.{∥∥₁_elim, ∥∥₁_map, ∥∥₁_prop}
use Rattle.argos_compile.specs.Accepting.{IsAccepted}
use Rattle.argos_congruence.proofs.SharedNames.{share_names}
use Rattle.argos_core.specs.ModuleViews.{module_of}
use Rattle.bisim_check.specs.inner.Searched.{in_left_order, differing_function}
use Rattle.bisim_check.specs.inner.Nodes.{AreHeld}
use Rattle.bisim_check.proofs.InOrder.{held_in_order, length-in_order}
use Rattle.bisim_check.proofs.Outcomes.{some_told, outputs_outcome, leaves_outcome, accept_outcome, some_least, none_least, some_place, told_by}
use Rattle.bisim_check.proofs.Sizes.{sized_layout, sized_outputs, drawn_adds, compared_adds, left_adds, drawn_over, leads_over}
use Rattle.bisim_formula.specs.Views.{formula_of}
use Rattle.dd_core.specs.declared.nodes.NodeId.{NodeId}
use Rattle.dd_core.specs.Arenas.{function_of}
use Rattle.eqn_dd.specs.Denoting.{Denotes, values_at}
use Rattle.eqn_dd.proofs.WordSteps.{held_later}
use Rattle.bisim_check.proofs.searching.search.Goals as goal

pub draw-requires-clause-sized_left : goal.draw-requires-clause-sized_left
draw-requires-clause-sized_left c = sized_layout (module_of c.args.left.now.«module») c.args.left.now.layout.regs.items _ _ _ _ c.args.left.now.laid c.requires.placed.left_registers c.requires.named.left

pub draw-requires-clause-sized_right : goal.draw-requires-clause-sized_right
draw-requires-clause-sized_right c = sized_layout (module_of c.args.right.now.«module») c.args.right.now.layout.regs.items _ _ _ _ c.args.right.now.laid c.requires.placed.right_registers c.requires.named.right

pub returns-in_err-drawn-clause-adds : goal.returns-in_err-drawn-clause-adds
returns-in_err-drawn-clause-adds c =
    let P = module_of c.args.left.now.«module» in
    let Q = module_of c.args.right.now.«module» in
    let E = c.args.left.now.ordered in
    let G = c.args.right.now.ordered in
    let F = formula_of c.args.cert.now in
    drawn_adds F P Q E G c.requires.variables c.draw.ensures.adds

pub compare-requires-clause-sized : goal.compare-requires-clause-sized
compare-requires-clause-sized c =
    sized_outputs (module_of c.args.left.now.«module») c.args.left.now.ordered c.args.left.now.lines (length c.in_ok-drawn.drawn.left.outputs.items) c.args.left.now.judged c.in_ok-drawn.ensures.drawn.left.outputs_sized

pub returns-in_err-compared-clause-adds : goal.returns-in_err-compared-clause-adds
returns-in_err-compared-clause-adds c =
    let P = module_of c.args.left.now.«module» in
    let Q = module_of c.args.right.now.«module» in
    let E = c.args.left.now.ordered in
    let G = c.args.right.now.ordered in
    let F = formula_of c.args.cert.now in
    compared_adds F P Q E G c.requires.variables c.draw.ensures.adds c.compare.ensures.adds

pub returns-in_err-at-clause-adds : goal.returns-in_err-at-clause-adds
returns-in_err-at-clause-adds c =
    let P = module_of c.args.left.now.«module» in
    let Q = module_of c.args.right.now.«module» in
    let E = c.args.left.now.ordered in
    let G = c.args.right.now.ordered in
    let F = formula_of c.args.cert.now in
    compared_adds F P Q E G c.requires.variables c.draw.ensures.adds c.compare.ensures.adds

pub first_differing-requires-clause-same : goal.first_differing-requires-clause-same
first_differing-requires-clause-same c =
    let P = module_of c.args.left.now.«module» in
    let Q = module_of c.args.right.now.«module» in
    let E = c.args.left.now.ordered in
    let G = c.args.right.now.ordered in
    let F = formula_of c.args.cert.now in
    let p = c.args.together.now.left in
    let q = c.args.together.now.right in
    let a = c.draw.new.arena in
    let b = c.compare.new.arena in
    let d = c.in_ok-drawn.drawn in
    let drawn = drawn_over P Q c.args.left.now.laid c.args.right.now.laid c.in_ok-drawn.ensures.drawn in
    let valid = c.draw.ensures.adds.arena in
    let v = c.draw.ensures.adds.keeps.variables ∙ c.requires.variables in
    let keeps = c.compare.ensures.adds.keeps in
    let share = share_names P Q c.args.left.now.«module».kept.names c.requires.same in
    let outputs = sized_outputs P E c.args.left.now.lines (length d.left.outputs.items) c.args.left.now.judged drawn.left.outputs_sized in
    let answers = c.deref-in-Some.ensures.value ∙ c.in_ok-compared.ensures.answers in
    ap length c.deref.ensures.value ∙ outputs ∙ sym (ap length answers ∙ length-in_order P.outputs Q.outputs d.right.outputs.items (record { 0 = 0 }))

pub first_differing-requires-clause-left : goal.first_differing-requires-clause-left
first_differing-requires-clause-left c =
    subst (AreHeld c.compare.new.arena) (sym c.deref.ensures.value)
    (held_later c.draw.new.arena c.compare.new.arena c.in_ok-drawn.drawn.left.outputs.items c.compare.ensures.adds.keeps c.in_ok-drawn.ensures.drawn.left.outputs_held)

pub first_differing-requires-clause-right : goal.first_differing-requires-clause-right
first_differing-requires-clause-right c =
    let P = module_of c.args.left.now.«module» in
    let Q = module_of c.args.right.now.«module» in
    let E = c.args.left.now.ordered in
    let G = c.args.right.now.ordered in
    let F = formula_of c.args.cert.now in
    let p = c.args.together.now.left in
    let q = c.args.together.now.right in
    let a = c.draw.new.arena in
    let b = c.compare.new.arena in
    let d = c.in_ok-drawn.drawn in
    let drawn = drawn_over P Q c.args.left.now.laid c.args.right.now.laid c.in_ok-drawn.ensures.drawn in
    let valid = c.draw.ensures.adds.arena in
    let v = c.draw.ensures.adds.keeps.variables ∙ c.requires.variables in
    let keeps = c.compare.ensures.adds.keeps in
    let share = share_names P Q c.args.left.now.«module».kept.names c.requires.same in
    let outputs = sized_outputs P E c.args.left.now.lines (length d.left.outputs.items) c.args.left.now.judged drawn.left.outputs_sized in
    let answers = c.deref-in-Some.ensures.value ∙ c.in_ok-compared.ensures.answers in
    subst (AreHeld b) (sym answers) (held_later a b (in_left_order P Q d.right.outputs.items) keeps (held_in_order a P.outputs Q.outputs d.right.outputs.items valid drawn.right.outputs_held))

pub unwrap-place-requires : goal.unwrap-place-requires
unwrap-place-requires c =
    let P = module_of c.args.left.now.«module» in
    let Q = module_of c.args.right.now.«module» in
    let E = c.args.left.now.ordered in
    let G = c.args.right.now.ordered in
    let F = formula_of c.args.cert.now in
    let p = c.args.together.now.left in
    let q = c.args.together.now.right in
    let a = c.draw.new.arena in
    let b = c.compare.new.arena in
    let d = c.in_ok-drawn.drawn in
    let drawn = drawn_over P Q c.args.left.now.laid c.args.right.now.laid c.in_ok-drawn.ensures.drawn in
    let valid = c.draw.ensures.adds.arena in
    let v = c.draw.ensures.adds.keeps.variables ∙ c.requires.variables in
    let keeps = c.compare.ensures.adds.keeps in
    let share = share_names P Q c.args.left.now.«module».kept.names c.requires.same in
    let outputs = sized_outputs P E c.args.left.now.lines (length d.left.outputs.items) c.args.left.now.judged drawn.left.outputs_sized in
    let denotes = subst (λ (l : List NodeId). Denotes b c.in_ok-compared.compared.node.0 (differing_function a d.pairs.0 d.left.outputs.items l)) c.in_ok-compared.ensures.answers c.in_ok-compared.ensures.node in
    let node = c.in_ok-compared.compared.node.0 in
    let least = some_least b.variables (function_of b node) c.in_ok-at.field-0 c.in-Some.at c.in-Some.is c.in_ok-at.ensures in
    let told = told_by b c.first_differing.result c.deref.ensures.value (c.deref-in-Some.ensures.value ∙ c.in_ok-compared.ensures.answers) c.deref-in-Some-2.ensures.value c.first_differing.ensures in
    some_told F P Q p q E G a b d drawn valid v keeps share outputs node c.in-Some.at.items c.first_differing.result denotes (least.sized ∙ keeps.variables ∙ v) least.holds told

pub returns-in-Some-clause-adds : goal.returns-in-Some-clause-adds
returns-in-Some-clause-adds c =
    let P = module_of c.args.left.now.«module» in
    let Q = module_of c.args.right.now.«module» in
    let E = c.args.left.now.ordered in
    let G = c.args.right.now.ordered in
    let F = formula_of c.args.cert.now in
    compared_adds F P Q E G c.requires.variables c.draw.ensures.adds c.compare.ensures.adds

pub returns-in-Some-clause-found : goal.returns-in-Some-clause-found
returns-in-Some-clause-found c =
    let P = module_of c.args.left.now.«module» in
    let Q = module_of c.args.right.now.«module» in
    let E = c.args.left.now.ordered in
    let G = c.args.right.now.ordered in
    let F = formula_of c.args.cert.now in
    let p = c.args.together.now.left in
    let q = c.args.together.now.right in
    let a = c.draw.new.arena in
    let b = c.compare.new.arena in
    let d = c.in_ok-drawn.drawn in
    let drawn = drawn_over P Q c.args.left.now.laid c.args.right.now.laid c.in_ok-drawn.ensures.drawn in
    let valid = c.draw.ensures.adds.arena in
    let v = c.draw.ensures.adds.keeps.variables ∙ c.requires.variables in
    let keeps = c.compare.ensures.adds.keeps in
    let share = share_names P Q c.args.left.now.«module».kept.names c.requires.same in
    let outputs = sized_outputs P E c.args.left.now.lines (length d.left.outputs.items) c.args.left.now.judged drawn.left.outputs_sized in
    let denotes = subst (λ (l : List NodeId). Denotes b c.in_ok-compared.compared.node.0 (differing_function a d.pairs.0 d.left.outputs.items l)) c.in_ok-compared.ensures.answers c.in_ok-compared.ensures.node in
    let node = c.in_ok-compared.compared.node.0 in
    let least = some_least b.variables (function_of b node) c.in_ok-at.field-0 c.in-Some.at c.in-Some.is c.in_ok-at.ensures in
    let told = told_by b c.first_differing.result c.deref.ensures.value (c.deref-in-Some.ensures.value ∙ c.in_ok-compared.ensures.answers) c.deref-in-Some-2.ensures.value c.first_differing.ensures in
    ∥∥₁_elim c.args.left.now.judged ∥∥₁_prop (λ (left : IsAccepted P E c.args.left.now.lines). ∥∥₁_map c.args.right.now.judged (λ (right : IsAccepted Q G c.args.right.now.lines).
    outputs_outcome F P Q p q E G a b d drawn valid v keeps share outputs left.system right.system node denotes c.in-Some.at c.unwrap-place.result least
    (some_place (values_at b d.left.outputs.items c.in-Some.at.items) (values_at b (in_left_order P Q d.right.outputs.items) c.in-Some.at.items) c.first_differing.result c.unwrap-place.result c.unwrap-place.ensures told)))

pub returns-in_err-leaving-clause-adds : goal.returns-in_err-leaving-clause-adds
returns-in_err-leaving-clause-adds c =
    let P = module_of c.args.left.now.«module» in
    let Q = module_of c.args.right.now.«module» in
    let E = c.args.left.now.ordered in
    let G = c.args.right.now.ordered in
    let F = formula_of c.args.cert.now in
    left_adds F P Q E G c.requires.variables c.draw.ensures.adds c.compare.ensures.adds c.leave.ensures.adds

pub returns-in_err-at-2-clause-adds : goal.returns-in_err-at-2-clause-adds
returns-in_err-at-2-clause-adds c =
    let P = module_of c.args.left.now.«module» in
    let Q = module_of c.args.right.now.«module» in
    let E = c.args.left.now.ordered in
    let G = c.args.right.now.ordered in
    let F = formula_of c.args.cert.now in
    left_adds F P Q E G c.requires.variables c.draw.ensures.adds c.compare.ensures.adds c.leave.ensures.adds

pub returns-in-Some-2-clause-adds : goal.returns-in-Some-2-clause-adds
returns-in-Some-2-clause-adds c =
    let P = module_of c.args.left.now.«module» in
    let Q = module_of c.args.right.now.«module» in
    let E = c.args.left.now.ordered in
    let G = c.args.right.now.ordered in
    let F = formula_of c.args.cert.now in
    left_adds F P Q E G c.requires.variables c.draw.ensures.adds c.compare.ensures.adds c.leave.ensures.adds

pub returns-in-Some-2-clause-found : goal.returns-in-Some-2-clause-found
returns-in-Some-2-clause-found c =
    let P = module_of c.args.left.now.«module» in
    let Q = module_of c.args.right.now.«module» in
    let E = c.args.left.now.ordered in
    let G = c.args.right.now.ordered in
    let F = formula_of c.args.cert.now in
    let p = c.args.together.now.left in
    let q = c.args.together.now.right in
    let a = c.draw.new.arena in
    let b = c.compare.new.arena in
    let d = c.in_ok-drawn.drawn in
    let drawn = drawn_over P Q c.args.left.now.laid c.args.right.now.laid c.in_ok-drawn.ensures.drawn in
    let valid = c.draw.ensures.adds.arena in
    let v = c.draw.ensures.adds.keeps.variables ∙ c.requires.variables in
    let keeps = c.compare.ensures.adds.keeps in
    let share = share_names P Q c.args.left.now.«module».kept.names c.requires.same in
    let outputs = sized_outputs P E c.args.left.now.lines (length d.left.outputs.items) c.args.left.now.judged drawn.left.outputs_sized in
    let denotes = subst (λ (l : List NodeId). Denotes b c.in_ok-compared.compared.node.0 (differing_function a d.pairs.0 d.left.outputs.items l)) c.in_ok-compared.ensures.answers c.in_ok-compared.ensures.node in
    let node = c.in_ok-compared.compared.node.0 in
    let none = none_least b.variables (function_of b node) c.in_ok-at.field-0 c.in_default.is c.in_ok-at.ensures in
    let leads = leads_over P Q F b d.left.next.items d.right.next.items c.args.left.now.laid c.args.right.now.laid c.in_ok-leaving.ensures.node in
    ∥∥₁_elim c.args.left.now.judged ∥∥₁_prop (λ (left : IsAccepted P E c.args.left.now.lines). ∥∥₁_map c.args.right.now.judged (λ (right : IsAccepted Q G c.args.right.now.lines).
    leaves_outcome F P Q p q E G a b d drawn valid v keeps share outputs left.system right.system node denotes none c.leave.new.arena c.leave.ensures.adds.keeps c.in_ok-leaving.leaving.0 leads
    c.in-Some-2.at (some_least c.leave.new.arena.variables (function_of c.leave.new.arena c.in_ok-leaving.leaving.0) c.in_ok-at-2.field-0 c.in-Some-2.at c.in-Some-2.is c.in_ok-at-2.ensures)))

pub returns-clause-adds : goal.returns-clause-adds
returns-clause-adds c =
    let P = module_of c.args.left.now.«module» in
    let Q = module_of c.args.right.now.«module» in
    let E = c.args.left.now.ordered in
    let G = c.args.right.now.ordered in
    let F = formula_of c.args.cert.now in
    left_adds F P Q E G c.requires.variables c.draw.ensures.adds c.compare.ensures.adds c.leave.ensures.adds

pub returns-clause-found : goal.returns-clause-found
returns-clause-found c =
    let P = module_of c.args.left.now.«module» in
    let Q = module_of c.args.right.now.«module» in
    let E = c.args.left.now.ordered in
    let G = c.args.right.now.ordered in
    let F = formula_of c.args.cert.now in
    let p = c.args.together.now.left in
    let q = c.args.together.now.right in
    let a = c.draw.new.arena in
    let b = c.compare.new.arena in
    let d = c.in_ok-drawn.drawn in
    let drawn = drawn_over P Q c.args.left.now.laid c.args.right.now.laid c.in_ok-drawn.ensures.drawn in
    let valid = c.draw.ensures.adds.arena in
    let v = c.draw.ensures.adds.keeps.variables ∙ c.requires.variables in
    let keeps = c.compare.ensures.adds.keeps in
    let share = share_names P Q c.args.left.now.«module».kept.names c.requires.same in
    let outputs = sized_outputs P E c.args.left.now.lines (length d.left.outputs.items) c.args.left.now.judged drawn.left.outputs_sized in
    let denotes = subst (λ (l : List NodeId). Denotes b c.in_ok-compared.compared.node.0 (differing_function a d.pairs.0 d.left.outputs.items l)) c.in_ok-compared.ensures.answers c.in_ok-compared.ensures.node in
    let node = c.in_ok-compared.compared.node.0 in
    let none = none_least b.variables (function_of b node) c.in_ok-at.field-0 c.in_default.is c.in_ok-at.ensures in
    let leads = leads_over P Q F b d.left.next.items d.right.next.items c.args.left.now.laid c.args.right.now.laid c.in_ok-leaving.ensures.node in
    ∥∥₁_elim c.args.left.now.judged ∥∥₁_prop (λ (left : IsAccepted P E c.args.left.now.lines). ∥∥₁_map c.args.right.now.judged (λ (right : IsAccepted Q G c.args.right.now.lines).
    accept_outcome F P Q p q E G a b d drawn valid v keeps share outputs left.system right.system node denotes none c.leave.new.arena c.leave.ensures.adds.keeps c.in_ok-leaving.leaving.0 leads
    (none_least c.leave.new.arena.variables (function_of c.leave.new.arena c.in_ok-leaving.leaving.0) c.in_ok-at-2.field-0 c.in-None.is c.in_ok-at-2.ensures)))
