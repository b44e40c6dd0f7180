use Rattle.std.proofs.Common.{◌++◌, List, ℕ, ap, sym, append-nil, ◌∙◌}
use Rattle.argos_report.proofs.Telling.{found, missing, name_found, name_missing}
use Rattle.argos_report.proofs.states.push_name.Goals as goal

pub returns-in_ok-extend_from_slice-in-Some : goal.returns-in_ok-extend_from_slice-in-Some
returns-in_ok-extend_from_slice-in-Some c =
    let at = found c.args.states.now c.args.number c.in-Some.state c.in-Some.ensures.lookup in
    c.in_ok-extend_from_slice-in-Some.ensures.items
    ∙ ap (λ (l : List ℕ). c.args.text.now.items ++ l) (c.bytes.ensures.bytes ∙ sym (name_found c.args.states.now c.args.number c.in-Some.state.now at))

pub returns-in-None : goal.returns-in-None
returns-in-None c =
    let at = missing c.args.states.now c.args.number c.in-None.ensures.lookup in
    sym (append-nil c.args.text.now.items) ∙ ap (λ (l : List ℕ). c.args.text.now.items ++ l) (sym (name_missing c.args.states.now c.args.number at))
