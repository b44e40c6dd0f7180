use Rattle.std.proofs.Common.{◌≡◌, ℕ, ◌+◌, ◌*◌, List, length, sym, ap, ◌∙◌, subst, arith}
use Rattle.argos_core.specs.ModuleViews.{module_of}
use Rattle.argos_core.specs.declared.module.Module.{Module}
use Rattle.argos_core.specs.Reactions.{output_count}
use Rattle.argos_base.specs.Names.{place_of}
use Rattle.argos_congruence.specs.NamedSets.{number_or_zero}
use Rattle.dd_core.specs.declared.nodes.NodeId.{NodeId}
use Rattle.bisim_check.specs.inner.Nodes.{AreHeld}
use Rattle.bisim_check.specs.inner.Searched.{in_left_order}
use Rattle.eqn_dd.proofs.Denotations.{adds_nothing, adds_in_turn, adds_fewer, adds_one}
use Rattle.bisim_check.proofs.SearchSteps.{differ_by, joined_with, taken_held}
use Rattle.bisim_check.proofs.searching.compare.Goals as goal

pub returns-in_err-answers-clause-adds : goal.returns-in_err-answers-clause-adds
returns-in_err-answers-clause-adds c = adds_nothing (3 * output_count (module_of c.args.left.now.«module») + 1) c.args.arena.now c.variables.ensures.arena

-- the answers are the right outputs by the left names, where the modules and the outputs are given so
taken : {M N : Module} {given nodes items : List NodeId} (P Q : Module) → M ≡ P → N ≡ Q → given ≡ nodes → items ≡ in_left_order (module_of M) (module_of N) given → items ≡ in_left_order (module_of P) (module_of Q) nodes
taken {M} {N} {given} {nodes} {items} P Q m n e is =
    subst (λ (K : Module). items ≡ in_left_order (module_of K) (module_of Q) nodes) m
    (subst (λ (K : Module). items ≡ in_left_order (module_of M) (module_of K) nodes) n (subst (λ (l : List NodeId). items ≡ in_left_order (module_of M) (module_of N) l) e is))

pub some_differ-requires-clause-right : goal.some_differ-requires-clause-right
some_differ-requires-clause-right c =
    let P = module_of c.args.left.now.«module» in
    let Q = module_of c.args.right.now.«module» in
    let answers = taken c.args.left.now.«module» c.args.right.now.«module» c.module.ensures c.module-2.ensures c.deref.ensures.value c.in_ok-answers.ensures in
    subst (AreHeld c.args.arena.now) (sym (c.deref-3.ensures.value ∙ answers)) (taken_held c.args.arena.now P.outputs (λ name. number_or_zero (place_of Q.outputs name)) c.args.drawn.now.right.outputs.items c.requires.right)

pub returns-clause-answers : goal.returns-clause-answers
returns-clause-answers c = taken c.args.left.now.«module» c.args.right.now.«module» c.module.ensures c.module-2.ensures c.deref.ensures.value c.in_ok-answers.ensures

-- three operations for each output
few : (given outputs : List NodeId) (n : ℕ) → given ≡ outputs → length outputs ≡ n → 3 * length given ≡ 3 * n
few given outputs n e sized = ap (λ (k : ℕ). 3 * k) (ap length e ∙ sized)

pub returns-in_err-node-clause-adds : goal.returns-in_err-node-clause-adds
returns-in_err-node-clause-adds c =
    let n = 3 * output_count (module_of c.args.left.now.«module») in
    adds_in_turn n 1 (n + 1) (omega arith) (adds_fewer _ n (omega (arith, few c.deref-2.result.now c.args.drawn.now.left.outputs.items (output_count (module_of c.args.left.now.«module»)) c.deref-2.ensures.value c.requires.sized)) c.some_differ.ensures.adds) (adds_one c.and.ensures.made)

pub returns-clause-adds : goal.returns-clause-adds
returns-clause-adds c =
    let n = 3 * output_count (module_of c.args.left.now.«module») in
    adds_in_turn n 1 (n + 1) (omega arith) (adds_fewer _ n (omega (arith, few c.deref-2.result.now c.args.drawn.now.left.outputs.items (output_count (module_of c.args.left.now.«module»)) c.deref-2.ensures.value c.requires.sized)) c.some_differ.ensures.adds) (adds_one c.and.ensures.made)

pub returns-clause-node : goal.returns-clause-node
returns-clause-node c =
    joined_with c.args.drawn.now.pairs.0 c.requires.pairs c.some_differ.ensures.adds.keeps
    (differ_by c.args.arena.now c.deref-2.ensures.value c.deref-3.ensures.value c.in_ok-differ.ensures.denotes) c.in_ok-node.ensures.made
