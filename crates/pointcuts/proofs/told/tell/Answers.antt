use Rattle.std.proofs.Common.{◌≡◌, Some, None, sym, ap, ◌∙◌}
use Rattle.argos_base.specs.Names.{place_of}
use Rattle.argos_grammar.specs.Views.{mark_of}
use Rattle.pointcuts.proofs.ToldSets.{told_there, told_nowhere}
use Rattle.pointcuts.proofs.told.tell.Goals as goal

pub returns-in-Some : goal.returns-in-Some
returns-in-Some c = λ ms e.
    let names = c.args.names.now in
    let place : place_of names c.args.spot.now.name ≡ Some c.in-Some.k.0 = ap (place_of names) (sym c.bytes.ensures.bytes) ∙ sym c.in-Some.ensures in
    c.set.ensures ∙ told_there names ms (mark_of c.args.spot.now) c.args.set.now c.in-Some.k.0 c.requires.distinct place e

pub returns-in-None : goal.returns-in-None
returns-in-None c = λ ms e.
    let names = c.args.names.now in
    let place : place_of names c.args.spot.now.name ≡ None = ap (place_of names) (sym c.bytes.ensures.bytes) ∙ sym c.in-None.ensures in
    told_nowhere names ms (mark_of c.args.spot.now) c.args.set.now place e
