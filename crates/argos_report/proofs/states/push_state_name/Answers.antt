use Rattle.std.proofs.Common.{◌≡◌, ◌++◌, List, ℕ, IfOk, Some, None, slice_get, ap, sym, subst, append-nil, ◌∙◌, Bor}
use Rattle.argos_core.specs.ModuleViews.{module_of}
use Rattle.argos_core.specs.declared.prog.State.{State}
use Rattle.argos_report.proofs.Among.{name_there, name_nowhere}
use Rattle.argos_report.proofs.Telling.{found, missing}
use Rattle.argos_report.proofs.states.push_state_name.Goals as goal

pub returns-in-Some : goal.returns-in-Some
returns-in-Some c =
    let all = c.in_ok-automata.automata.items in
    let r = c.args.register.0 in
    let at : slice_get all r ≡ Some c.in-Some.states.now = ap (λ (l : List (Bor (List State))). slice_get l r) (sym c.deref.ensures.value) ∙ found c.deref.result.now r c.in-Some.states c.in-Some.ensures.lookup in
    subst (λ (l : List ℕ). IfOk c.push_name.result (λ _. c.push_name.new.text.items ≡ c.args.text.now.items ++ l))
    (name_there (module_of c.args.«module».now) all r c.args.number c.in-Some.states.now c.in_ok-automata.ensures at) c.push_name.ensures

pub returns : goal.returns
returns c =
    let all = c.in_ok-automata.automata.items in
    let r = c.args.register.0 in
    let at : slice_get all r ≡ None = ap (λ (l : List (Bor (List State))). slice_get l r) (sym c.deref.ensures.value) ∙ missing c.deref.result.now r c.in-None.ensures.lookup in
    sym (append-nil c.args.text.now.items) ∙ ap (λ (l : List ℕ). c.args.text.now.items ++ l) (name_nowhere (module_of c.args.«module».now) all r c.args.number c.in_ok-automata.ensures at)
