use Rattle.std.proofs.lemmas.Result.{err_from_is_err_and}
use Rattle.argos_compile.specs.AspectViews.{aspect_view}
use Rattle.argos_compile.specs.WovenViews.{woven_view}
use Rattle.argos_grammar.specs.Views.{aspect_of}
use Rattle.argos_load.proofs.AspectStages.{aspect_stops, aspect_woven, text_of_tree}
use Rattle.argos_load.proofs.aspects.with_aspect.Goals as goal

pub returns-in_err-aspect-clause-aspect : goal.returns-in_err-aspect-clause-aspect
returns-in_err-aspect-clause-aspect c =
    let k = c.args.number in
    let text = c.args.text.now in
    let t = aspect_of c.in_ok-tree.tree in
    let e = c.in_err-aspect.field-0.0 in
    let p = err_from_is_err_and c.from_residual-in_err-aspect.result c.from_residual-in_err-aspect.ensures.1 in
    rw (p.1, p.2) (aspect_stops k c.args.nodes text (woven_view c.args.woven) t (text_of_tree k text t (c.in_ok-tree.ensures {u = tt}).tree) woven_view aspect_view e (c.in_err-aspect.ensures {u = tt}).aspect)

pub returns-clause-aspect : goal.returns-clause-aspect
returns-clause-aspect c =
    let k = c.args.number in
    let text = c.args.text.now in
    let t = aspect_of c.in_ok-tree.tree in
    aspect_woven k c.args.nodes text (woven_view c.args.woven) t (text_of_tree k text t (c.in_ok-tree.ensures {u = tt}).tree) woven_view c.weave_in.result (aspect_view c.in_ok-aspect.aspect) (c.in_ok-aspect.ensures {u = tt}).aspect
    c.weave_in.ensures.woven
