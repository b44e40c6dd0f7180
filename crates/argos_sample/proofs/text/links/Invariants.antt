use Rattle.std.proofs.Common.{◌≡◌, ◌-◌, map}
use Rattle.std.specs.List.{range_with_len}
use Rattle.argos_grammar.specs.Views.{marks_of}
use Rattle.argos_sample.specs.SampleForm.{mark, inner_name}
use Rattle.argos_sample.proofs.text.links.Given as goal

abbrev pub invariant-loop-place : goal.invariant-loop-place
invariant-loop-place l = marks_of l.links.items ≡ map (λ i. mark (inner_name i)) (range_with_len 1 (l.place - 1))
