use Rattle.std.proofs.Common.{◌≡◌, ◌+◌, ◌∷◌, drop, arith}
use Rattle.argos_grammar.specs.Views.{marks_of}
use Rattle.argos_names.specs.Scope.{names_in}
use Rattle.argos_scope.proofs.NameTables.{next_unplaced, name_tables}
use Rattle.argos_scope.proofs.tables.table_of.Goals as goal

pub add-requires-clause-fresh : goal.add-requires-clause-fresh
add-requires-clause-fresh c =
    let spots = c.args.spots.now in
    let i = c.loop-spot.spot-index in
    let next : names_in (marks_of (drop i spots)) ≡ c.spot-item.result.name ∷ names_in (marks_of (drop (i + 1) spots)) = grind (arith, name_tables) in
    next_unplaced c.loop-spot.table (names_in (marks_of (drop i spots))) (names_in (marks_of spots)) c.spot-item.result.name (names_in (marks_of (drop (i + 1) spots))) c.loop-spot.invariant.0 next c.requires.distinct
