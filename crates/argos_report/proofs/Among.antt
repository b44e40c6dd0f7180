-- The states that are lent, automaton by automaton, tell what the automata of the process tell.
use Rattle.std.proofs.Common.{◌≡◌, ℕ, zero, suc, ◌+◌, List, [], ◌∷◌, Option, Some, None, map, slice_get, refl, sym, ap, ◌∙◌}
use Rattle.std.specs.Borrow.{Bor}
use Rattle.std.specs.List.{join_with_byte}
use Rattle.std.specs.Prelude.{nat_lt}
use Rattle.argos_core.specs.Automata.{Automaton, rules_of, automata_of}
use Rattle.argos_core.specs.Process.{States, PlainModule}
use Rattle.argos_core.specs.Views.{state_of, states_of}
use Rattle.argos_core.specs.declared.prog.State.{State}
use Rattle.argos_report.specs.States.{name_in, name_at, state_name, items_from, memory_text}
use Rattle.argos_report.specs.inner.Told.{name_among, item_text, items_of}
use Rattle.argos_report.proofs.Joining.{joined, items_left}
use Rattle.argos_states.specs.Lent.{states_behind}

abbrev states : Automaton → States
states a = a.states

name_among-automata : (list : List Automaton) (r q : ℕ) → name_among (slice_get (map states list) r) q ≡ name_at (slice_get list r) q
name_among-automata [] r q = refl
name_among-automata (a ∷ list) zero q = refl
name_among-automata (a ∷ list) (suc r) q = name_among-automata list r q

items_of-automata : (r : ℕ) (list : List Automaton) (m : List ℕ) → items_of r (map states list) m ≡ items_from r list m
items_of-automata r [] m = refl
items_of-automata r (a ∷ list) [] = refl
items_of-automata r (a ∷ list) (c ∷ m) = ap (λ (l : List (List ℕ)). item_text r a.states c ∷ l) (items_of-automata (r + 1) list m)

get-states : (all : List (Bor (List State))) (r : ℕ) (x : Bor (List State)) → slice_get all r ≡ Some x → slice_get (states_behind all) r ≡ Some (states_of (map state_of x.now))
get-states [] r x at = cc
get-states (y ∷ all) zero x at = let same : y ≡ x = cc in ap (λ (z : Bor (List State)). Some (states_of (map state_of z.now))) same
get-states (y ∷ all) (suc r) x at = get-states all r x at

get-no_states : (all : List (Bor (List State))) (r : ℕ) → slice_get all r ≡ None → slice_get (states_behind all) r ≡ None
get-no_states [] zero at = refl
get-no_states [] (suc r) at = refl
get-no_states (y ∷ all) zero at = cc
get-no_states (y ∷ all) (suc r) at = get-no_states all r at

name_told : (P : PlainModule) (all : List (Bor (List State))) (r q : ℕ) (o : Option States) → states_behind all ≡ map states (automata_of P.process) → slice_get (states_behind all) r ≡ o → name_among o q ≡ state_name P r q
name_told P all r q o are at = ap (λ (z : Option States). name_among z q) (sym at) ∙ ap (λ (l : List States). name_among (slice_get l r) q) are ∙ name_among-automata (automata_of P.process) r q

pub name_there : (P : PlainModule) (all : List (Bor (List State))) (r q : ℕ) (x : Bor (List State)) → states_behind all ≡ map states (automata_of P.process) → slice_get all r ≡ Some x
    → name_in (slice_get (rules_of (states_of (map state_of x.now))) q) ≡ state_name P r q
name_there P all r q x are at = name_told P all r q (Some (states_of (map state_of x.now))) are (get-states all r x at)

pub name_nowhere : (P : PlainModule) (all : List (Bor (List State))) (r q : ℕ) → states_behind all ≡ map states (automata_of P.process) → slice_get all r ≡ None → [] ≡ state_name P r q
name_nowhere P all r q are at = name_told P all r q None are (get-no_states all r at)

pub memory_begins : (P : PlainModule) (all : List (Bor (List State))) (m : List ℕ) → states_behind all ≡ map states (automata_of P.process) → joined (nat_lt 0 0) (items_left all m 0) ≡ memory_text P m
memory_begins P all m are = ap (λ (l : List States). join_with_byte 32 (items_of 0 l m)) are ∙ ap (join_with_byte 32) (items_of-automata 0 (automata_of P.process) m)
