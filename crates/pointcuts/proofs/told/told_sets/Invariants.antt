use Rattle.std.proofs.Common.{◌≡◌, take, map}
use Rattle.argos_grammar.specs.Views.{set_of}
use Rattle.pointcuts.specs.Pointcuts.{told}
use Rattle.pointcuts.proofs.told.told_sets.Given as goal

-- the sets that the lists so far tell
abbrev pub invariant-loop-list : goal.invariant-loop-list
invariant-loop-list l = l.sets.items ≡ map (told l.names) (map set_of (take l.list-index l.lists))
