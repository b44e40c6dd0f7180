use Rattle.std.proofs.Common.{◌≡◌, None}
use Rattle.argos_names.proofs.Components.{after_components}
use Rattle.argos_names.proofs.rules.least_broken.Given as goal

-- the least so far, and the components that are left
abbrev pub invariant-loop-place : goal.invariant-loop-place
invariant-loop-place l = after_components l.components l.place l.least ≡ after_components l.components 0 None
