use Rattle.std.proofs.Common.{◌≡◌, ◌++◌, take}
use Rattle.eqn_file.specs.inner.Texts.{places_text}
use Rattle.eqn_file.proofs.writing.push_places.Given as goal

abbrev pub invariant-loop-place : goal.invariant-loop-place
invariant-loop-place l = l.text.items ≡ l.initial.text.items ++ places_text l.word (take l.place-index l.places)
