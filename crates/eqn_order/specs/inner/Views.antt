-- What the types of the code stand for.
use Rattle.std.specs.Prelude.{ℕ, List}
use Rattle.eqn_order.specs.declared.finishing.Search.{Search}
use Rattle.eqn_order.specs.declared.sources.Sources.{Sources}
use Rattle.eqn_order.specs.inner.Searches.{Searches}
use Rattle.eqn_order.specs.inner.Sources.{Origins}

abbrev pub origins_from : Sources → Origins
origins_from s = record { inputs = s.inputs; registers = s.registers; bits = s.bits.items; words = s.words.items }

abbrev pub IsSearch : List (List ℕ) → Search → Type 0
IsSearch R s = Searches R s.seen.items s.followed.items s.path.items s.done.items
