use Rattle.std.proofs.Common.{◌≡◌, ap, sym, ◌∙◌, map}
use Rattle.std.specs.Prelude.{flat_map, option_map}
use Rattle.argos_grammar.specs.Forms.{ProcessForm}
use Rattle.argos_grammar.specs.Views.{Whole, process_step, state_step, state_of, trans_of, timed_of}
use Rattle.argos_grammar.specs.declared.trees.ProcessTree.TheFolds.{fold_out-StateTree}
use Rattle.argos_names.specs.Scope.{in_trans, in_timed}
use Rattle.argos_names.specs.inner.Least.{least_after}
use Rattle.argos_names.proofs.Breaches.{least_after-append}
use Rattle.argos_names.proofs.rules.process.reactions.Goals as goal

pub returns : goal.returns
returns c =
    let scope = c.args.scope.now in
    let names = c.args.names.now.keys in
    let head = (state_of c.args.state.now).head in
    let made = fold_out-StateTree ProcessForm Whole process_step state_step c.args.state.now in
    let trans : map trans_of c.deref.result.now ≡ head.trans = ap (map trans_of) c.deref.ensures.value ∙ sym (ap (λ w. w.head.trans) made) in
    let timed : option_map timed_of c.args.state.now.timed ≡ head.timed = sym (ap (λ w. w.head.timed) made) in
    c.timeout.ensures
    ∙ ap (λ o. least_after o (in_timed scope names (option_map timed_of c.args.state.now.timed))) (c.transitions.ensures ∙ ap (λ ts. least_after c.args.least.now (flat_map (in_trans scope names) ts)) trans)
    ∙ ap (λ t. least_after (least_after c.args.least.now (flat_map (in_trans scope names) head.trans)) (in_timed scope names t)) timed
    ∙ sym (least_after-append c.args.least.now (flat_map (in_trans scope names) head.trans) (in_timed scope names head.timed))
