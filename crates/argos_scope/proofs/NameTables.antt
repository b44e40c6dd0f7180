-- Tables of names that grow, a name at a time.
use Rattle.std.proofs.Common.{◌≡◌, ℕ, ◌+◌, ◌<◌, List, ◌∷◌, ◌++◌, None, true, get_or, drop, length, sym, ap, ◌∙◌}
use Rattle.std.proofs.lemmas.Grind.{common_steps}
use Rattle.std.proofs.lemmas.List.{at_drop_more}
use Rattle.argos_base.specs.Names.{Spelled, are_distinct, place_of}
use Rattle.argos_grammar.specs.Views.{marks_of}
use Rattle.argos_grammar.specs.declared.trees.Spot.{Spot}
use Rattle.argos_names.specs.Scope.{names_in}
use Rattle.argos_scope.proofs.DistinctNames.{unplaced_before, distinct_first, distinct_second}

pub names_in-drop : (spots : List Spot) (i : ℕ) (d : Spot) → i < length spots → names_in (marks_of (drop i spots)) ≡ (get_or spots i d).name ∷ names_in (marks_of (drop (i + 1) spots))
names_in-drop = at_drop_more (λ spots. names_in (marks_of spots))

-- the next of distinct names isn't among those so far
pub next_unplaced : (sofar left all : List Spelled) (name : Spelled) (more : List Spelled) → sofar ++ left ≡ all → left ≡ name ∷ more → are_distinct all ≡ true → place_of sofar name ≡ None
next_unplaced sofar left all name more e f d = unplaced_before sofar more name (ap are_distinct (ap (λ xs. sofar ++ xs) (sym f) ∙ e) ∙ d)

pub ruleset name_tables = (common_steps, names_in-drop, next_unplaced, distinct_first, distinct_second)
