-- How compiling ends.
use Rattle.std.specs.Prelude.{ℕ, List, Option}
use Rattle.argos_compile.specs.Weaving.{WovenProgram}
use Rattle.argos_words.specs.Words.{Target}
use Rattle.argos_load.specs.Calls.{Call}
use Rattle.argos_top.specs.Compilation.{Compiled}
use Rattle.argos_load.specs.Said as said
use Rattle.argos_top.specs.inner.Endings.{Pushes, NoMemory}
use Rattle.argos_top.specs.declared.status.Status.{Status}
use Rattle.argos_top.specs.declared.status.Status.TheVariants as status

pub data Wrote (x : WovenProgram) (to : Target) (sink : Call (Option (List ℕ))) (r : Status) : Type 0 where
  unwritten : NoMemory sink r → Wrote x to sink r
  wrote : (bytes : List ℕ) → Compiled x to (said.said said.Yes bytes) → Pushes bytes status.Yes sink r → Wrote x to sink r
