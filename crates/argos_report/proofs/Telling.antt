-- The state that a code says.
use Rattle.std.proofs.Common.{◌≡◌, ℕ, zero, suc, ◌+◌, ◌-◌, ◌<◌, ◌≤◌, List, [], ◌∷◌, ◌++◌, Some, None, true, false, if◌then◌else◌, map, length, get_or, drop, slice_get, refl, sym, ap, ◌∙◌, arith}
use Rattle.std.specs.Borrow.{Bor}
use Rattle.std.specs.Prelude.{nat_lt}
use Rattle.std.specs.Slice.{IsItemAt}
use Rattle.std.proofs.lemmas.Bool.Decides.{nat_tests}
use Rattle.std.proofs.lemmas.List.{at_drop_more}
use Rattle.std.proofs.lemmas.Option.{slice_get-get_or, slice_get_past}
use Rattle.argos_core.specs.Automata.{counts_of, first_code, rules_of}
use Rattle.argos_core.specs.Process.{Rules, States, no_states, state, Body}
use Rattle.argos_core.specs.Process as plain
use Rattle.argos_core.specs.Views.{OneState, process_layer, automaton_layer, state_layer, state_of, states_of}
use Rattle.argos_core.specs.declared.prog.State.{State, fold_out-State}
use Rattle.argos_report.specs.States.{name_in, elapsed_text, state_text, code_text}
use Rattle.argos_report.specs.Laws.{StatesAreTold}

-- states one by one
pub state_text-drop : (ss : List State) (i e : ℕ) (d : State) → i < length ss
    → state_text (states_of (map state_of (drop i ss))) e
    ≡ (if nat_lt e (counts_of (state_of (get_or ss i d)).rules.timeout) then (state_of (get_or ss i d)).rules.name ++ elapsed_text (state_of (get_or ss i d)).rules.timeout e else state_text (states_of (map state_of (drop (i + 1) ss))) (e - counts_of (state_of (get_or ss i d)).rules.timeout))
state_text-drop ss i e = at_drop_more (λ xs. state_text (states_of (map state_of xs)) e) ss i

-- the state whose codes begin here, and one behind it
state_text-own : (s : Rules) (p : Body) (ss : States) (e : ℕ) → e < counts_of s.timeout → state_text (state s p ss) e ≡ s.name ++ elapsed_text s.timeout e
state_text-own s p ss e below = let t : nat_lt e (counts_of s.timeout) ≡ true = grind (arith, nat_tests) in rw t refl

state_text-behind : (s : Rules) (p : Body) (ss : States) (e : ℕ) → counts_of s.timeout ≤ e → state_text (state s p ss) e ≡ state_text ss (e - counts_of s.timeout)
state_text-behind s p ss e over = let t : nat_lt e (counts_of s.timeout) ≡ false = grind (arith, nat_tests) in rw t refl

first_code-positive : (ss : States) (q : ℕ) → 1 ≤ first_code ss q
first_code-positive no_states q = omega arith
first_code-positive (state s p ss) zero = omega arith
first_code-positive (state s p ss) (suc q) = omega (arith, first_code-positive ss q)

told-from : (ss : States) (q e k : ℕ) (s : Rules) → slice_get (rules_of ss) q ≡ Some s → e < counts_of s.timeout → k + 1 ≡ first_code ss q + e → state_text ss k ≡ s.name ++ elapsed_text s.timeout e
told-from no_states q e k s at below is = cc
told-from (state x p ss) zero e k s at below is =
    let same : x ≡ s = cc in
    let k_is : k ≡ e = omega arith in
    ap (λ (z : Rules). state_text (state z p ss) k) same ∙ ap (state_text (state s p ss)) k_is ∙ state_text-own s p ss e below
told-from (state x p ss) (suc q) e k s at below is =
    let positive = first_code-positive ss q in
    let over : counts_of x.timeout ≤ k = omega arith in
    state_text-behind x p ss k over ∙ told-from ss q e (k - counts_of x.timeout) s at below (omega arith)

code_text-suc : (ss : States) (c k : ℕ) → c ≡ suc k → code_text ss c ≡ state_text ss k
code_text-suc ss c k is = ap (code_text ss) is

pub states_told : StatesAreTold
states_told ss q e s at below =
    let positive = first_code-positive ss q in
    let c = first_code ss q + e in
    code_text-suc ss c (c - 1) (omega arith) ∙ told-from ss q e (c - 1) s at below (omega arith)

-- what a slice lends at a place
pub found : {X : Type 0} (xs : List X) (i : ℕ) (x : Bor X) → IsItemAt xs i (Some x) → slice_get xs i ≡ Some x.now
found xs i x h = slice_get-get_or xs i x.now h.3.0 ∙ ap Some (sym h.1)

pub missing : {X : Type 0} (xs : List X) (i : ℕ) → IsItemAt xs i None → slice_get xs i ≡ None
missing xs i h = slice_get_past xs i h.3

name-out : (s : State) → (state_of s).rules.name ≡ s.name
name-out s = ap (λ (o : OneState). o.rules.name) (fold_out-State plain.Process plain.Process OneState process_layer automaton_layer state_layer s)

-- the name of a state among others
name_among : (ss : List State) (q : ℕ) (s : State) → slice_get ss q ≡ Some s → name_in (slice_get (rules_of (states_of (map state_of ss))) q) ≡ (state_of s).rules.name
name_among [] q s at = cc
name_among (x ∷ ss) zero s at = let same : x ≡ s = cc in ap (λ (z : State). (state_of z).rules.name) same
name_among (x ∷ ss) (suc q) s at = name_among ss q s at

pub name_found : (ss : List State) (q : ℕ) (s : State) → slice_get ss q ≡ Some s → name_in (slice_get (rules_of (states_of (map state_of ss))) q) ≡ s.name
name_found ss q s at = name_among ss q s at ∙ name-out s

pub name_missing : (ss : List State) (q : ℕ) → slice_get ss q ≡ None → name_in (slice_get (rules_of (states_of (map state_of ss))) q) ≡ []
name_missing [] zero at = refl
name_missing [] (suc q) at = refl
name_missing (x ∷ ss) zero at = cc
name_missing (x ∷ ss) (suc q) at = name_missing ss q at
