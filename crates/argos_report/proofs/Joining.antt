-- Words that are joined one after the other: the names of a set, and the items of a memory.
use Rattle.std.proofs.Common.{◌≡◌, ℕ, zero, suc, ◌+◌, ◌<◌, ◌≤◌, List, [], ◌∷◌, ◌++◌, Some, None, Bool, true, false, map, length, get_or, drop, slice_get, refl, sym, ap, ◌∙◌, append_assoc, append-nil, add-one, arith}
use Rattle.std.specs.Borrow.{Bor}
use Rattle.std.specs.List.{join_with_byte}
use Rattle.std.specs.Prelude.{nat_lt}
use Rattle.std.proofs.lemmas.Bool.Decides.{nat_tests}
use Rattle.std.proofs.lemmas.List.{at_drop_more, at_drop_all}
use Rattle.argos_base.specs.Names.{Spelled}
use Rattle.argos_base.specs.SignalSets.{SignalSet, has}
use Rattle.argos_core.specs.Process.{States}
use Rattle.argos_core.specs.Views.{state_of, states_of}
use Rattle.argos_core.specs.declared.prog.State.{State}
use Rattle.argos_report.specs.inner.Told.{names_behind, item_text, items_of}
use Rattle.argos_states.specs.Lent.{states_behind}
use Rattle.trace_io.specs.Lines.{present, or_dash}
use Rattle.trace_io.specs.Parts.{spaced}
use Rattle.trace_io.proofs.JoinedWords.{this_word}

-- what is left where some words stand before
abbrev pub after : List (List ℕ) → List ℕ
after [] = []
after (w ∷ ws) = 32 ∷ w ++ after ws

join-after : (w : List ℕ) (ws : List (List ℕ)) → join_with_byte 32 (w ∷ ws) ≡ w ++ after ws
join-after w [] = sym (append-nil w)
join-after w (v ∷ ws) = ap (λ (z : List ℕ). w ++ 32 ∷ z) (join-after v ws)

-- the text of what is left of a list of words, where some stand before or none
abbrev pub joined : Bool → List (List ℕ) → List ℕ
joined true ws = after ws
joined false ws = join_with_byte 32 ws

joined-more : (some : Bool) (w : List ℕ) (ws : List (List ℕ)) → joined some (w ∷ ws) ≡ spaced some w ++ after ws
joined-more true w ws = refl
joined-more false w ws = join-after w ws

joined-none : (some : Bool) → joined some [] ≡ []
joined-none true = refl
joined-none false = refl

-- the same of the names of a set
abbrev pub told : Bool → List (List ℕ) → List ℕ
told true ws = after ws
told false ws = join_with_byte 32 (or_dash ws)

told-more : (some : Bool) (w : List ℕ) (ws : List (List ℕ)) → told some (w ∷ ws) ≡ spaced some w ++ after ws
told-more true w ws = refl
told-more false w ws = join-after w ws

present-none : (s : SignalSet) → present s [] ≡ []
present-none [] = refl
present-none (b ∷ s) = refl

present-cons : (b : Bool) (s : SignalSet) (w : Spelled) (names : List Spelled) → present (b ∷ s) (w ∷ names) ≡ this_word b w ++ present s names
present-cons true s w names = refl
present-cons false s w names = refl

present-suc : (s : SignalSet) (k : ℕ) (w : Spelled) (names : List Spelled) → present (drop k s) (w ∷ names) ≡ this_word (has s k) w ++ present (drop (suc k) s) names
present-suc [] zero w names = refl
present-suc [] (suc k) w names = refl
present-suc (b ∷ s) zero w names = present-cons b s w names
present-suc (b ∷ s) (suc k) w names = present-suc s k w names

-- the names from number k on
abbrev pub present_from : SignalSet → List (Bor Spelled) → ℕ → List Spelled
present_from s names k = present (drop k s) (names_behind (drop k names))

present_from-more : (s : SignalSet) (names : List (Bor Spelled)) (k : ℕ) (d : Bor Spelled) → k < length names
    → present_from s names k ≡ this_word (has s k) (get_or names k d).now ++ present_from s names (k + 1)
present_from-more s names k d below =
    at_drop_more (λ (ns : List (Bor Spelled)). present (drop k s) (names_behind ns)) names k d below
    ∙ present-suc s k (get_or names k d).now (names_behind (drop (k + 1) names))
    ∙ ap (λ (n : ℕ). this_word (has s k) (get_or names k d).now ++ present (drop n s) (names_behind (drop (k + 1) names))) (sym (add-one k))

pub set_taken : (s : SignalSet) (names : List (Bor Spelled)) (k : ℕ) (d : Bor Spelled) (some : Bool) (text text' whole : List ℕ) → k < length names → has s k ≡ true
    → text ++ told some (present_from s names k) ≡ whole → text' ≡ text ++ spaced some (get_or names k d).now → text' ++ told true (present_from s names (k + 1)) ≡ whole
set_taken s names k d some text text' whole below is so_far put =
    let w = (get_or names k d).now in
    let more = present_from s names (k + 1) in
    let first : present_from s names k ≡ w ∷ more = present_from-more s names k d below ∙ ap (λ (b : Bool). this_word b w ++ more) is in
    ap (λ (t : List ℕ). t ++ after more) put
    ∙ append_assoc text (spaced some w) (after more)
    ∙ ap (λ (t : List ℕ). text ++ t) (sym (ap (told some) first ∙ told-more some w more))
    ∙ so_far

pub set_passed : (s : SignalSet) (names : List (Bor Spelled)) (k : ℕ) (d : Bor Spelled) → k < length names → has s k ≡ false → present_from s names (k + 1) ≡ present_from s names k
set_passed s names k d below is = sym (present_from-more s names k d below ∙ ap (λ (b : Bool). this_word b (get_or names k d).now ++ present_from s names (k + 1)) is)

pub set_ends : (s : SignalSet) (names : List (Bor Spelled)) (k : ℕ) → length names ≤ k → present_from s names k ≡ []
set_ends s names k all = at_drop_all (λ (ns : List (Bor Spelled)). present (drop k s) (names_behind ns)) names k all ∙ present-none (drop k s)

-- at the end a dash stands where nothing else does
pub set_dash : (text whole : List ℕ) (some : Bool) (left : List Spelled) → some ≡ false → left ≡ [] → text ++ told some left ≡ whole → text ++ 45 ∷ [] ≡ whole
set_dash text whole some left none end so_far = ap (λ (l : List Spelled). text ++ told false l) (sym end) ∙ ap (λ (b : Bool). text ++ told b left) (sym none) ∙ so_far

pub set_done : (text whole : List ℕ) (some : Bool) (left : List Spelled) → some ≡ true → left ≡ [] → text ++ told some left ≡ whole → text ≡ whole
set_done text whole some left any end so_far = sym (append-nil text) ∙ ap (λ (l : List Spelled). text ++ told true l) (sym end) ∙ ap (λ (b : Bool). text ++ told b left) (sym any) ∙ so_far

-- the items from register k on
abbrev pub items_left : List (Bor (List State)) → List ℕ → ℕ → List (List ℕ)
items_left automata m k = items_of k (states_behind (drop k automata)) (drop k m)

drop-get : {X : Type 0} (m : List X) (k : ℕ) (c : X) → slice_get m k ≡ Some c → drop k m ≡ c ∷ drop (suc k) m
drop-get [] k c at = cc
drop-get (x ∷ m) zero c at = let same : x ≡ c = cc in ap (λ z. z ∷ m) same
drop-get (x ∷ m) (suc k) c at = drop-get m k c at

drop-none : {X : Type 0} (m : List X) (k : ℕ) → slice_get m k ≡ None → drop k m ≡ []
drop-none [] zero at = refl
drop-none [] (suc k) at = refl
drop-none (x ∷ m) zero at = cc
drop-none (x ∷ m) (suc k) at = drop-none m k at

drop-none-more : {X : Type 0} (m : List X) (k : ℕ) → slice_get m k ≡ None → drop (suc k) m ≡ []
drop-none-more [] k at = refl
drop-none-more (x ∷ m) zero at = cc
drop-none-more (x ∷ m) (suc k) at = drop-none-more m k at

names-push : (names : List (Bor Spelled)) (x : Bor Spelled) → names_behind (names ++ x ∷ []) ≡ names_behind names ++ x.now ∷ []
names-push [] x = refl
names-push (y ∷ names) x = ap (λ (l : List Spelled). y.now ∷ l) (names-push names x)

-- one name more of a table
pub names_more : (table : List Spelled) (names names' : List (Bor Spelled)) (x : Bor Spelled) (k : ℕ) (whole : List Spelled) → slice_get table k ≡ Some x.now
    → names_behind names ++ drop k table ≡ whole → names' ≡ names ++ x ∷ [] → names_behind names' ++ drop (k + 1) table ≡ whole
names_more table names names' x k whole at so_far put =
    let rest = drop (k + 1) table in
    let next : drop k table ≡ x.now ∷ rest = drop-get table k x.now at ∙ ap (λ (n : ℕ). x.now ∷ drop n table) (sym (add-one k)) in
    ap (λ (l : List (Bor Spelled)). names_behind l ++ rest) put
    ∙ ap (λ (l : List Spelled). l ++ rest) (names-push names x)
    ∙ append_assoc (names_behind names) (x.now ∷ []) rest
    ∙ ap (λ (l : List Spelled). names_behind names ++ l) (sym next)
    ∙ so_far

pub names_same : (table : List Spelled) (k : ℕ) → slice_get table k ≡ None → drop (k + 1) table ≡ drop k table
names_same table k at = ap (λ (n : ℕ). drop n table) (add-one k) ∙ drop-none-more table k at ∙ sym (drop-none table k at)

items_of-none : (k : ℕ) (ss : List States) → items_of k ss [] ≡ []
items_of-none k [] = refl
items_of-none k (s ∷ ss) = refl

items_left-more : (automata : List (Bor (List State))) (m : List ℕ) (k c : ℕ) (d : Bor (List State)) → k < length automata → slice_get m k ≡ Some c
    → items_left automata m k ≡ item_text k (states_of (map state_of (get_or automata k d).now)) c ∷ items_left automata m (k + 1)
items_left-more automata m k c d below at =
    let own = states_of (map state_of (get_or automata k d).now) in
    let more = states_behind (drop (k + 1) automata) in
    at_drop_more (λ (l : List (Bor (List State))). items_of k (states_behind l) (drop k m)) automata k d below
    ∙ ap (λ (codes : List ℕ). items_of k (own ∷ more) codes) (drop-get m k c at)
    ∙ ap (λ (n : ℕ). item_text k own c ∷ items_of (k + 1) more (drop n m)) (sym (add-one k))

some-before : (k : ℕ) → nat_lt 0 (k + 1) ≡ true
some-before k = grind (arith, nat_tests)

pub item_taken : (automata : List (Bor (List State))) (m : List ℕ) (k c : ℕ) (d : Bor (List State)) (text text' whole : List ℕ) → k < length automata → slice_get m k ≡ Some c
    → text ++ joined (nat_lt 0 k) (items_left automata m k) ≡ whole
    → text' ≡ text ++ spaced (nat_lt 0 k) (item_text k (states_of (map state_of (get_or automata k d).now)) c)
    → text' ++ joined (nat_lt 0 (k + 1)) (items_left automata m (k + 1)) ≡ whole
item_taken automata m k c d text text' whole below at so_far put =
    let w = item_text k (states_of (map state_of (get_or automata k d).now)) c in
    let more = items_left automata m (k + 1) in
    ap (λ (b : Bool). text' ++ joined b more) (some-before k)
    ∙ ap (λ (t : List ℕ). t ++ after more) put
    ∙ append_assoc text (spaced (nat_lt 0 k) w) (after more)
    ∙ ap (λ (t : List ℕ). text ++ t) (sym (ap (joined (nat_lt 0 k)) (items_left-more automata m k c d below at) ∙ joined-more (nat_lt 0 k) w more))
    ∙ so_far

-- no code is left
none-left : (automata : List (Bor (List State))) (m : List ℕ) (k : ℕ) (some : Bool) → slice_get m k ≡ None → joined some (items_left automata m k) ≡ []
none-left automata m k some at =
    ap (λ (codes : List ℕ). joined some (items_of k (states_behind (drop k automata)) codes)) (drop-none m k at)
    ∙ ap (joined some) (items_of-none k (states_behind (drop k automata)))
    ∙ joined-none some

none-more : (automata : List (Bor (List State))) (m : List ℕ) (k : ℕ) (some : Bool) → slice_get m k ≡ None → joined some (items_left automata m (k + 1)) ≡ []
none-more automata m k some at =
    ap (λ (codes : List ℕ). joined some (items_of (k + 1) (states_behind (drop (k + 1) automata)) codes)) (ap (λ (n : ℕ). drop n m) (add-one k) ∙ drop-none-more m k at)
    ∙ ap (joined some) (items_of-none (k + 1) (states_behind (drop (k + 1) automata)))
    ∙ joined-none some

pub item_passed : (automata : List (Bor (List State))) (m : List ℕ) (k : ℕ) → slice_get m k ≡ None
    → joined (nat_lt 0 (k + 1)) (items_left automata m (k + 1)) ≡ joined (nat_lt 0 k) (items_left automata m k)
item_passed automata m k at = none-more automata m k (nat_lt 0 (k + 1)) at ∙ sym (none-left automata m k (nat_lt 0 k) at)

pub items_end : (automata : List (Bor (List State))) (m : List ℕ) (k : ℕ) (some : Bool) → length automata ≤ k → joined some (items_left automata m k) ≡ []
items_end automata m k some all = at_drop_all (λ (l : List (Bor (List State))). joined some (items_of k (states_behind l) (drop k m))) automata k all ∙ joined-none some
