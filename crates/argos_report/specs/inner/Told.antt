-- What is told by the states of each automaton, in the order of registers. Source: this project.
use Rattle.std.specs.Prelude.{ℕ, ◌+◌, List, [], ◌∷◌, ◌++◌, Option, Some, None, map, codes, decimal, slice_get}
use Rattle.std.specs.Borrow.{Bor}
use Rattle.argos_base.specs.Names.{Spelled}
use Rattle.argos_core.specs.Automata.{rules_of}
use Rattle.argos_core.specs.Process.{States}
use Rattle.argos_report.specs.States.{name_in, code_text}

abbrev pub names_behind : List (Bor Spelled) → List Spelled
names_behind = map (λ name. name.now)

-- the name of state q, where there are such states
abbrev pub name_among : Option States → ℕ → List ℕ
name_among None q = []
name_among (Some ss) q = name_in (slice_get (rules_of ss) q)

-- what the code c says of the automaton with register r
abbrev pub item_text : ℕ → States → ℕ → List ℕ
item_text r ss c = codes "r" ++ decimal r ++ codes "=" ++ code_text ss c

-- one item for each automaton from register r on
abbrev pub items_of : ℕ → List States → List ℕ → List (List ℕ)
items_of r [] m = []
items_of r (ss ∷ more) [] = []
items_of r (ss ∷ more) (c ∷ m) = item_text r ss c ∷ items_of (r + 1) more m
