use Rattle.std.proofs.Common.{take, sym, ap, ◌∙◌, ◌++◌, ◌∷◌, []}
use Rattle.argos_grammar.specs.Views.{mark_of, marks_of}
use Rattle.argos_grammar.specs.declared.trees.Spot.{Spot}
use Rattle.pointcuts.specs.Pointcuts.{told}
use Rattle.pointcuts.proofs.ToldSets.{told_more}
use Rattle.pointcuts.proofs.told.told_set.Goals as goal

pub loop-spot-preserved : goal.loop-spot-preserved
loop-spot-preserved c =
    let spots = c.args.spots.now in
    let names = c.args.names.now in
    let i = c.loop-spot.spot-index in
    c.tell.ensures (marks_of (take i spots)) c.loop-spot.invariant
    ∙ ap (λ (x : Spot). told names (marks_of (take i spots) ++ mark_of x ∷ [])) c.spot-item.is
    ∙ sym (told_more names spots i c.spot-item.result c.loop-spot-test.true)
