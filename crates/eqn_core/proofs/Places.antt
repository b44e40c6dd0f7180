-- The places that a stepper's buffers need.
use Rattle.std.proofs.Common.{◌≡◌, ℕ, ◌+◌, ◌-◌, length, map, subst, arith}
use Rattle.std.proofs.lemmas.List.{length-map}
use Rattle.eqn_core.specs.Equations.{Equations, word_lines}
use Rattle.eqn_core.specs.Running.{HasPlaces}
use Rattle.eqn_core.specs.declared.system.System.{System}
use Rattle.eqn_core.specs.Views.{line_of, equations_from}
use Rattle.eqn_core.proofs.Walks.{bit_and_word_lines}

-- so many places are enough, where `count` lines define a word
pub HasPlaces-counted : (s : System) (E : Equations) (memory bits words count : ℕ) → equations_from s ≡ E → count ≡ word_lines (map line_of s.lines.items) → memory ≡ length s.init.items → bits ≡ s.inputs + (length s.lines.items - count) → words ≡ memory + count
    → HasPlaces E memory bits words
HasPlaces-counted s E memory bits words count e counted m b w =
    let lines = map line_of s.lines.items in
    let places : HasPlaces (equations_from s) memory bits words = record {
      memory_places = m;
      bit_places = omega (arith, bit_and_word_lines lines, length-map s.lines.items line_of);
      word_places = omega arith;
    } in
    subst (λ (x : Equations). HasPlaces x memory bits words) e places
