-- The breach at the least place, while breaches come one after another.
use Rattle.std.specs.Prelude.{List, [], ◌∷◌, Option, Some, None, nat_lt, if◌then◌else◌}
use Rattle.argos_names.specs.Scope.{Breach}

-- of two at one place the one that came first
abbrev pub lesser : Option Breach → Breach → Breach
lesser None b = b
lesser (Some c) b = if nat_lt b.mark.at c.mark.at then b else c

abbrev pub least_after : Option Breach → List Breach → Option Breach
least_after o [] = o
least_after o (b ∷ bs) = least_after (Some (lesser o b)) bs
