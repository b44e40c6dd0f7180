-- A broken rule as the code keeps it.
use Rattle.argos_grammar.specs.Views.{mark_of}
use Rattle.argos_names.specs.Refusals.{rule_of}
use Rattle.argos_names.specs.Scope.{Breach}
use Rattle.argos_names.specs.declared.least.Found.{Found}

abbrev pub found_of : Found → Breach
found_of f = record { rule = rule_of f.rule; mark = mark_of f.spot }
