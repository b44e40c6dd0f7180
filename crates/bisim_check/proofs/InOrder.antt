-- Outputs compared in the order of the first program's names.
use Rattle.std.proofs.Common.{◌≡◌, ◌≢◌, ℕ, zero, suc, ◌+◌, ◌<◌, ◌≤◌, List, [], ◌∷◌, ◌++◌, Bool, false, ◌||◌, Option, Some, None, length, map, take, get_or, slice_get, refl, sym, ap, ◌∙◌, arith}
use Rattle.std.specs.Prelude.{slice_index_or}
use Rattle.std.proofs.lemmas.Option.{slice_get_within}
use Rattle.std.proofs.lemmas.List.{length-map, map-append, take_more, take_all}
use Rattle.argos_base.specs.Names.{Spelled, place_of}
use Rattle.argos_base.specs.SignalSets.{SignalSet}
use Rattle.argos_core.specs.Process.{PlainModule}
use Rattle.argos_congruence.specs.NamedSets.{has_at, has_name, number_or_zero}
use Rattle.argos_congruence.proofs.Naming.{Stands, stands, is_listed, has_name-at}
use Rattle.argos_congruence.proofs.Watching.{ShareNames}
use Rattle.bisim_check.specs.inner.Nodes.{AreHeld, any_differs, IsFirstDifference}
use Rattle.bisim_verdict.specs.EquivTests.{differs, some_differ}
use Rattle.dd_core.specs.declared.nodes.NodeId.{NodeId}
use Rattle.dd_core.specs.Arenas.{ArenaView, IsArena, Holds, function_of}
use Rattle.eqn_dd.specs.Denoting.{values_at}
use Rattle.eqn_dd.proofs.Denotations.{denotes_constant}

-- ---- in the order of other names

-- the values of a set, or the nodes, in the order of other names
abbrev pub in_order_of : {X : Type 0} → List Spelled → List Spelled → List X → X → List X
in_order_of from to items none = map (λ name. slice_index_or items (number_or_zero (place_of to name)) none) from

-- one name more
pub ordered_more : {X : Type 0} (f : Spelled → X) (names : List Spelled) (place : ℕ) (name : Spelled) (items more : List X) (one : X)
    → slice_get names place ≡ Some name → items ≡ map f (take place names) → one ≡ f name → more ≡ items ++ one ∷ [] → more ≡ map f (take (place + 1) names)
ordered_more {X} f names place name items more one at before is pushed =
    pushed
    ∙ ap (λ (l : List X). l ++ one ∷ []) before
    ∙ ap (λ (y : X). map f (take place names) ++ y ∷ []) (is ∙ ap f (sym (read names place at)))
    ∙ sym (map-append f (take place names) (get_or names place [] ∷ []))
    ∙ ap (map f) (sym (take_more names place [] (slice_get_within names place name at)))
  where
    read : (xs : List Spelled) (k : ℕ) → slice_get xs k ≡ Some name → get_or xs k [] ≡ name
    read [] k h = cc
    read (y ∷ xs) zero h = cc
    read (y ∷ xs) (suc k) h = read xs k h

pub ordered_all : {X : Type 0} (f : Spelled → X) (names : List Spelled) (place : ℕ) (items : List X)
    → length names ≤ place → items ≡ map f (take place names) → items ≡ map f names
ordered_all f names place items all is = is ∙ ap (map f) (take_all place names all)

pub none_left : (names : List Spelled) (place : ℕ) → slice_get names place ≡ None → length names ≤ place
none_left [] place h = omega arith
none_left (n ∷ names) zero h = cc
none_left (n ∷ names) (suc place) h = let r = none_left names place h in omega (arith, r)

-- ---- what differs by name

by_name : (P Q : PlainModule) (o p : SignalSet) (names : List Spelled) (v w : List Bool) → length v ≡ length names → length w ≡ length names
    → ((k : ℕ) (name : Spelled) → slice_get names k ≡ Some name → slice_index_or v k false ≡ has_name P.outputs o name)
    → ((k : ℕ) (name : Spelled) → slice_get names k ≡ Some name → slice_index_or w k false ≡ has_name Q.outputs p name)
    → any_differs v w ≡ some_differ names P Q o p
by_name P Q o p [] [] [] e f g h = refl
by_name P Q o p [] (s ∷ v) w e f g h = absurd (omega arith)
by_name P Q o p [] [] (t ∷ w) e f g h = absurd (omega arith)
by_name P Q o p (n ∷ names) [] w e f g h = absurd (omega arith)
by_name P Q o p (n ∷ names) (s ∷ v) [] e f g h = absurd (omega arith)
by_name P Q o p (n ∷ names) (s ∷ v) (t ∷ w) e f g h =
    ap (λ (b : Bool). differs b t || any_differs v w) (g 0 n refl)
    ∙ ap (λ (b : Bool). differs (has_name P.outputs o n) b || any_differs v w) (h 0 n refl)
    ∙ ap (λ (b : Bool). differs (has_name P.outputs o n) (has_name Q.outputs p n) || b)
    (by_name P Q o p names v w (omega arith) (omega arith) (λ k. g (suc k)) (λ k. h (suc k)))

-- what stands at the place of a name
pub read_at : {X : Type 0} (f : Spelled → X) (names : List Spelled) (k : ℕ) (name : Spelled) (d : X) → slice_get names k ≡ Some name
    → slice_index_or (map f names) k d ≡ f name
read_at f [] k name d h = cc
read_at f (n ∷ names) zero name d h = let e : n ≡ name = cc in ap f e
read_at f (n ∷ names) (suc k) name d h = read_at f names k name d h

-- the value at the k-th name of the left program is the one by this name
pub left_at : (P Q : PlainModule) (o : SignalSet) (k : ℕ) (name : Spelled) → ShareNames P Q → slice_get P.outputs k ≡ Some name
    → slice_index_or o k false ≡ has_name P.outputs o name
left_at P Q o k name share at = sym (has_name-at P.outputs o k name share.distinct_outputs at)

pub right_at : (P Q : PlainModule) (p : SignalSet) (k : ℕ) (name : Spelled) → ShareNames P Q → slice_get P.outputs k ≡ Some name
    → slice_index_or (in_order_of P.outputs Q.outputs p false) k false ≡ has_name Q.outputs p name
right_at P Q p k name share at =
    let s : Stands Q.outputs name = stands Q.outputs name (share.outputs name (is_listed P.outputs k name at)) in
    read_at (λ n. slice_index_or p (number_or_zero (place_of Q.outputs n)) false) P.outputs k name false at
    ∙ ap (λ (q : Option ℕ). slice_index_or p (number_or_zero q) false) s.found
    ∙ sym (ap (has_at p) s.found)

pub in_order : (P Q : PlainModule) (o p : SignalSet) → ShareNames P Q → length o ≡ length P.outputs
    → any_differs o (in_order_of P.outputs Q.outputs p false) ≡ some_differ P.outputs P Q o p
in_order P Q o p share sized =
    by_name P Q o p P.outputs o (in_order_of P.outputs Q.outputs p false) sized
    (length-map P.outputs (λ name. slice_index_or p (number_or_zero (place_of Q.outputs name)) false))
    (λ k name at. left_at P Q o k name share at) (λ k name at. right_at P Q p k name share at)

-- the first place where they differ is that of the first name
pub first_by_name : (P Q : PlainModule) (o p : SignalSet) (place : ℕ) (name : Spelled) → ShareNames P Q
    → IsFirstDifference o (in_order_of P.outputs Q.outputs p false) place → slice_get P.outputs place ≡ Some name
    → (has_name P.outputs o name ≢ has_name Q.outputs p name)
    × ((k : ℕ) (other : Spelled) → k < place → slice_get P.outputs k ≡ Some other → has_name P.outputs o other ≡ has_name Q.outputs p other)
first_by_name P Q o p place name share is at = (
  λ e. is.here (left_at P Q o place name share at ∙ e ∙ sym (right_at P Q p place name share at)),
  λ k other below there. sym (left_at P Q o k other share there) ∙ is.first k below ∙ right_at P Q p k other share there,
)

-- ---- nodes in the order of other names

-- what is read of nodes, false where there is none
node_value : (arena : ArenaView) (nodes : List NodeId) (x : List Bool) (k : ℕ) → IsArena arena → length x ≡ arena.variables
    → function_of arena (slice_index_or nodes k (record { 0 = 0 })).0 x ≡ slice_index_or (values_at arena nodes x) k false
node_value arena [] x k valid sized = (denotes_constant arena 0 false valid refl).equal x sized
node_value arena (f ∷ nodes) x zero valid sized = refl
node_value arena (f ∷ nodes) x (suc k) valid sized = node_value arena nodes x k valid sized

-- the values of the nodes in that order are the values in that order
pub values-in_order : (arena : ArenaView) (from to : List Spelled) (nodes : List NodeId) (x : List Bool) → IsArena arena → length x ≡ arena.variables
    → values_at arena (in_order_of from to nodes (record { 0 = 0 })) x ≡ in_order_of from to (values_at arena nodes x) false
values-in_order arena [] to nodes x valid sized = refl
values-in_order arena (name ∷ from) to nodes x valid sized =
    ap (λ (b : Bool). b ∷ values_at arena (in_order_of from to nodes (record { 0 = 0 })) x) (node_value arena nodes x (number_or_zero (place_of to name)) valid sized)
    ∙ ap (λ (l : List Bool). slice_index_or (values_at arena nodes x) (number_or_zero (place_of to name)) false ∷ l) (values-in_order arena from to nodes x valid sized)

held_or_false : (arena : ArenaView) (nodes : List NodeId) (k : ℕ) → IsArena arena → AreHeld arena nodes → Holds arena (slice_index_or nodes k (record { 0 = 0 })).0
held_or_false arena [] k valid held = (denotes_constant arena 0 false valid refl).held
held_or_false arena (f ∷ nodes) zero valid held = held 0 f (omega arith)
held_or_false arena (f ∷ nodes) (suc k) valid held = held_or_false arena nodes k valid (λ j d below. held (suc j) d (omega arith))

pub held_in_order : (arena : ArenaView) (from to : List Spelled) (nodes : List NodeId) → IsArena arena → AreHeld arena nodes
    → AreHeld arena (in_order_of from to nodes (record { 0 = 0 }))
held_in_order arena [] to nodes valid held k d below = absurd (omega arith)
held_in_order arena (name ∷ from) to nodes valid held zero d below = held_or_false arena nodes (number_or_zero (place_of to name)) valid held
held_in_order arena (name ∷ from) to nodes valid held (suc k) d below = held_in_order arena from to nodes valid held k d (omega arith)

pub length-in_order : {X : Type 0} (from to : List Spelled) (items : List X) (none : X) → length (in_order_of from to items none) ≡ length from
length-in_order from to items none = length-map from (λ name. slice_index_or items (number_or_zero (place_of to name)) none)
