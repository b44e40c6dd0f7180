use Rattle.std.proofs.Common.{◌≡◌, ◌<◌, ℕ, Err, ap, sym, subst}
use Rattle.std.proofs.Math.Logic.{∥∥₁_elim, ∥∥₁_map, ∥∥₁_prop}
use Rattle.std.specs.Prelude.{All}
use Rattle.argos_compile.specs.Accepting.{IsAccepted}
use Rattle.argos_core.specs.ModuleViews.{module_of}
use Rattle.argos_core.specs.declared.module.Module.{Module}
use Rattle.bisim_check.specs.Jobs.{job_variables, IsStopped}
use Rattle.bisim_check.specs.inner.Decoded.{IsSized, IsDecoded}
use Rattle.bisim_check.specs.inner.Searched.{IsOutcome}
use Rattle.bisim_check.proofs.Deciding.{named_as, registers_as, inputs_exist, inputs_few, sized_outcome, sized_prop, answered, stopped}
use Rattle.bisim_formula.specs.Views.{formula_of}
use Rattle.dd_core.specs.Arenas.{IsEmpty}
use Rattle.eqn_dd.specs.Placed.{NamesRegisters}
use Rattle.bisim_check.proofs.checking.decide.Goals as goal

pub search-requires-clause-named : goal.search-requires-clause-named
search-requires-clause-named c =
    let P = module_of c.args.left.now.«module» in
    let Q = module_of c.args.right.now.«module» in
    let E = c.args.left.now.ordered in
    let G = c.args.right.now.ordered in
    let p = c.in_ok-together.together.left in
    let q = c.in_ok-together.together.right in
    named_as P Q E G c.args.left.now.lines c.args.right.now.lines p q c.args.left.now.«module».kept c.args.right.now.«module».kept c.args.left.now.judged c.args.right.now.judged c.requires.same c.in_ok-together.ensures.places

pub found_of-requires-clause-left : goal.found_of-requires-clause-left
found_of-requires-clause-left c =
    let P = module_of c.args.left.now.«module» in
    let Q = module_of c.args.right.now.«module» in
    let E = c.args.left.now.ordered in
    let G = c.args.right.now.ordered in
    let p = c.in_ok-together.together.left in
    let q = c.in_ok-together.together.right in
    let named = named_as P Q E G c.args.left.now.lines c.args.right.now.lines p q c.args.left.now.«module».kept c.args.right.now.«module».kept c.args.left.now.judged c.args.right.now.judged c.requires.same c.in_ok-together.ensures.places in
    subst (λ (v : ℕ). NamesRegisters v p.regs.items) (sym c.in_ok-together.ensures.variables) named.left_registers

pub found_of-requires-clause-right : goal.found_of-requires-clause-right
found_of-requires-clause-right c =
    let P = module_of c.args.left.now.«module» in
    let Q = module_of c.args.right.now.«module» in
    let E = c.args.left.now.ordered in
    let G = c.args.right.now.ordered in
    let p = c.in_ok-together.together.left in
    let q = c.in_ok-together.together.right in
    let named = named_as P Q E G c.args.left.now.lines c.args.right.now.lines p q c.args.left.now.«module».kept c.args.right.now.«module».kept c.args.left.now.judged c.args.right.now.judged c.requires.same c.in_ok-together.ensures.places in
    subst (λ (v : ℕ). NamesRegisters v q.regs.items) (sym c.in_ok-together.ensures.variables) named.right_registers

pub found_of-requires-clause-inputs : goal.found_of-requires-clause-inputs
found_of-requires-clause-inputs c =
    let P = module_of c.args.left.now.«module» in
    let Q = module_of c.args.right.now.«module» in
    let E = c.args.left.now.ordered in
    let G = c.args.right.now.ordered in
    let p = c.in_ok-together.together.left in
    let q = c.in_ok-together.together.right in
    let named = named_as P Q E G c.args.left.now.lines c.args.right.now.lines p q c.args.left.now.«module».kept c.args.right.now.«module».kept c.args.left.now.judged c.args.right.now.judged c.requires.same c.in_ok-together.ensures.places in
    subst (λ (v : ℕ). All (λ k. k < v) p.inputs.items) (sym c.in_ok-together.ensures.variables) (inputs_exist p named.left)

pub found_of-requires-clause-few : goal.found_of-requires-clause-few
found_of-requires-clause-few c =
    let P = module_of c.args.left.now.«module» in
    let Q = module_of c.args.right.now.«module» in
    let E = c.args.left.now.ordered in
    let G = c.args.right.now.ordered in
    let p = c.in_ok-together.together.left in
    let q = c.in_ok-together.together.right in
    inputs_few c.args.left.now.«module».kept c.in_ok-together.ensures.places

pub found_of-requires-clause-sized : goal.found_of-requires-clause-sized
found_of-requires-clause-sized c =
    let P = module_of c.args.left.now.«module» in
    let Q = module_of c.args.right.now.«module» in
    let E = c.args.left.now.ordered in
    let G = c.args.right.now.ordered in
    let p = c.in_ok-together.together.left in
    let q = c.in_ok-together.together.right in
    let o = c.in-Ok.outcome in
    let sized = ∥∥₁_elim c.in-Ok.ensures.found (sized_prop (job_variables P Q) P o) (λ is. sized_outcome o is) in
    subst (λ (m : Module). IsSized c.in_ok-together.together.variables (module_of m) o) (sym c.«module».ensures) (subst (λ (v : ℕ). IsSized v P o) (sym c.in_ok-together.ensures.variables) sized)

pub returns-in-Ok-clause-answer : goal.returns-in-Ok-clause-answer
returns-in-Ok-clause-answer c =
    let P = module_of c.args.left.now.«module» in
    let Q = module_of c.args.right.now.«module» in
    let E = c.args.left.now.ordered in
    let G = c.args.right.now.ordered in
    let p = c.in_ok-together.together.left in
    let q = c.in_ok-together.together.right in
    let F = formula_of c.args.cert.now in
    let o = c.in-Ok.outcome in
    let found = c.in_ok-found_of-in-Ok.field-0 in
    let decoded : IsDecoded P p q o found = subst (λ (m : Module). IsDecoded (module_of m) p q o found) c.«module».ensures c.in_ok-found_of-in-Ok.ensures in
    ∥∥₁_elim c.args.left.now.judged ∥∥₁_prop (λ (left : IsAccepted P E c.args.left.now.lines). ∥∥₁_elim c.args.right.now.judged ∥∥₁_prop (λ (right : IsAccepted Q G c.args.right.now.lines).
    ∥∥₁_map c.in-Ok.ensures.found (λ (is : IsOutcome F P Q p q E G o). answered F P Q left.acceptable.good right.acceptable.good c.requires.same c.requires.started c.in_ok-together.ensures.places o found is decoded)))

pub returns-in-Err-Budget-clause-budget : goal.returns-in-Err-Budget-clause-budget
returns-in-Err-Budget-clause-budget c = λ arena e.
    let P = module_of c.args.left.now.«module» in
    let Q = module_of c.args.right.now.«module» in
    let E = c.args.left.now.ordered in
    let G = c.args.right.now.ordered in
    let p = c.in_ok-together.together.left in
    let q = c.in_ok-together.together.right in
    let F = formula_of c.args.cert.now in
    let left = registers_as P E c.args.left.now.lines c.args.left.now.«module».kept c.args.left.now.judged in
    let right = registers_as Q G c.args.right.now.lines c.args.right.now.«module».kept c.args.right.now.judged in
    let same : c.search.new.arena ≡ arena = cc e in
    let empty = subst (λ (v : ℕ). IsEmpty v c.args.budget c.in_ok-arena.arena) c.in_ok-together.ensures.variables c.in_ok-arena.ensures.empty in
    subst (IsStopped F P Q E G c.args.budget) same (stopped F P Q E G c.args.budget c.in_ok-arena.arena c.search.new.arena c.requires.same c.requires.started left right empty c.search.ensures.adds (c.in-Err-Budget.ensures.budget (ap Err c.in-Err-Budget.field-0-is)))
