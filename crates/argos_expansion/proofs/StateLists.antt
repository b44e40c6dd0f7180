-- States, transitions and names that are left.
use Rattle.std.proofs.Common.{◌≡◌, ℕ, ◌+◌, ◌<◌, ◌≤◌, List, [], ◌∷◌, length, get_or, drop}
use Rattle.std.proofs.lemmas.Grind.{common_steps}
use Rattle.std.proofs.lemmas.List.{at_drop_more, at_drop_all}
use Rattle.argos_grammar.specs.Views.{state_of, states_of}
use Rattle.argos_grammar.specs.declared.trees.StateTree.{StateTree}
use Rattle.argos_expansion.specs.Expansion.{codes_in, codes_of}
use Rattle.argos_names.specs.Scope.{state_names}

pub state_names-drop : (ss : List StateTree) (i : ℕ) (d : StateTree) → i < length ss → state_names (states_of (drop i ss)) ≡ (state_of (get_or ss i d)).head.name.name ∷ state_names (states_of (drop (i + 1) ss))
state_names-drop = at_drop_more (λ ss. state_names (states_of ss))

pub state_names-end : (ss : List StateTree) (i : ℕ) → length ss ≤ i → state_names (states_of (drop i ss)) ≡ []
state_names-end = at_drop_all (λ ss. state_names (states_of ss))

pub codes_in-drop : (ss : List StateTree) (i : ℕ) (d : StateTree) → i < length ss → codes_in (states_of (drop i ss)) ≡ codes_of (state_of (get_or ss i d)).head.timed + codes_in (states_of (drop (i + 1) ss))
codes_in-drop = at_drop_more (λ ss. codes_in (states_of ss))

pub codes_in-end : (ss : List StateTree) (i : ℕ) → length ss ≤ i → codes_in (states_of (drop i ss)) ≡ 0
codes_in-end = at_drop_all (λ ss. codes_in (states_of ss))

pub ruleset state_lists = (common_steps, state_names-drop, state_names-end, codes_in-drop, codes_in-end)
