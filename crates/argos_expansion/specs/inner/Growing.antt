-- What stands for the parts that the expansion is made of. Source: this project.
use Rattle.std.specs.Prelude.{List, [], map, Option, Some, None, Box}
use Rattle.std.specs.declared.alloc.Global.{Global}
use Rattle.argos_core.specs.Process as plain
use Rattle.argos_core.specs.Views as core
use Rattle.argos_core.specs.declared.prog.Prog.{Prog}
use Rattle.argos_grammar.specs.Views.{component_of}
use Rattle.argos_grammar.specs.declared.trees.ComponentTree.{ComponentTree}
use Rattle.argos_expansion.specs.Expansion.{Known, known_after}
use Rattle.argos_expansion.specs.inner.Growth.{Moment, tally_of}
use Rattle.argos_expansion.specs.declared.expander.Expander.{Expander}

abbrev pub moment_of : Expander → Moment
moment_of e = record { tally = tally_of e.counts; locals = e.locals.items }

-- the components that stand earlier
abbrev pub known_of : List ComponentTree → List Known
known_of cs = known_after [] (map component_of cs)

abbrev pub body_of : Option (Box Prog Global) → plain.Body
body_of None = plain.no_body
body_of (Some p) = plain.body (core.process_of p.value)
