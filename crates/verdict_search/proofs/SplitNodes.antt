-- Functions of points and cyclic bits, through operations and in later arenas.
use Rattle.std.proofs.Common.{◌≡◌, ℕ, zero, suc, ◌+◌, ◌*◌, ◌^◌, ◌<◌, List, [], ◌∷◌, ◌++◌, Bool, ◌&&◌, ◌||◌, not, if◌then◌else◌, length, get_or, refl, ap, ◌∙◌, arith, Result, Ok, Err, IfOk, length-append}
use Rattle.std.specs.Prelude.{All}
use Rattle.std.proofs.lemmas.Nat.{pow_pos}
use Rattle.argos_base.specs.SignalSets.{SignalSet}
use Rattle.dd_core.specs.declared.nodes.NodeId.{NodeId}
use Rattle.dd_core.specs.declared.errors.DdError.{DdError}
use Rattle.dd_core.specs.declared.errors.DdError.TheVariants.{Budget}
use Rattle.dd_core.specs.Functions.{Function, both, either, opposite, if_else}
use Rattle.dd_core.specs.Arenas.{ArenaView, Holds, function_of, Keeps, Makes, AddsAtMost, HasNoRoom}
use Rattle.dd_ops.specs.Quantified.{MakesNodeWith}
use Rattle.eqn_completion.specs.Findings.{Finding}
use Rattle.eqn_verdict.specs.Diagrams.{Splits}
use Rattle.verdict_search.specs.Splitting.{AreSplit}

pub sized_in : {a c v : ℕ} (y x : SignalSet) → v ≡ a + c → length y ≡ a → length x ≡ c → length (y ++ x) ≡ v
sized_in {a} {c} {v} y x is ys xs = omega (arith, length-append y x, is, ys, xs)

-- ---- in later arenas

pub splits_later : {A B : ArenaView} {a c f : ℕ} {F : Finding} → A.variables ≡ a + c → Holds A f → Keeps A B → Splits a c (function_of A f) F → Splits a c (function_of B f) F
splits_later {A} {B} {a} {c} {f} {F} v held keeps s y x ys xs = keeps.denotes f held (y ++ x) (sized_in y x v ys xs) ∙ s y x ys xs

pub all_later : (A B : ArenaView) (fs : List NodeId) → Keeps A B → All (λ (f : NodeId). Holds A f.0) fs → All (λ (f : NodeId). Holds B f.0) fs
all_later A B fs keeps held = λ k d below. keeps.held (get_or fs k d).0 (held k d below)

pub split_later : (A B : ArenaView) (a c : ℕ) (fs : List NodeId) (gs : List Finding) → A.variables ≡ a + c → All (λ (f : NodeId). Holds A f.0) fs → Keeps A B → AreSplit A a c fs gs → AreSplit B a c fs gs
split_later A B a c [] [] v held keeps s = s
split_later A B a c [] (g ∷ gs) v held keeps s = s
split_later A B a c (f ∷ fs) [] v held keeps s = s
split_later A B a c (f ∷ fs) (g ∷ gs) v held keeps s =
    (splits_later v (held 0 f (omega arith)) keeps s.0, split_later A B a c fs gs v (λ k d below. held (suc k) d (omega arith)) keeps s.1)

-- the function at a place
pub split_at : (A : ArenaView) (a c : ℕ) (fs : List NodeId) (gs : List Finding) (i : ℕ) (d : NodeId) (e : Finding) → i < length fs → AreSplit A a c fs gs → (Splits a c (function_of A (get_or fs i d).0) (get_or gs i e)) × (i < length gs)
split_at A a c [] gs i d e h s = absurd (omega arith)
split_at A a c (f ∷ fs) [] i d e h s = absurd s
split_at A a c (f ∷ fs) (g ∷ gs) zero d e h s = (s.0, omega arith)
split_at A a c (f ∷ fs) (g ∷ gs) (suc i) d e h s = let r = split_at A a c fs gs i d e (omega arith) s.1 in (r.0, omega (arith, r.1))

pub split_length : (A : ArenaView) (a c : ℕ) (fs : List NodeId) (gs : List Finding) → AreSplit A a c fs gs → length gs ≡ length fs
split_length A a c [] [] s = refl
split_length A a c [] (g ∷ gs) s = absurd s
split_length A a c (f ∷ fs) [] s = absurd s
split_length A a c (f ∷ fs) (g ∷ gs) s = ap suc (split_length A a c fs gs s.1)

-- ---- operations

pub splits_made : {m a c : ℕ} {A B : ArenaView} {g : Function} {r : NodeId} {F : Finding} → A.variables ≡ a + c → Makes m A B g (Ok r) → Splits a c g F → Splits a c (function_of B r.0) F
splits_made {m} {a} {c} {A} {B} {g} {r} {F} v made s y x ys xs = made.node.denotes (y ++ x) (sized_in y x (made.keeps.variables ∙ v) ys xs) ∙ s y x ys xs

pub splits_both : {a c : ℕ} (f g : Function) {F G : Finding} → Splits a c f F → Splits a c g G → Splits a c (both f g) (λ y x. F y x && G y x)
splits_both {a} {c} f g {F} {G} s t y x ys xs = ap (λ (u : Bool). u && g (y ++ x)) (s y x ys xs) ∙ ap (λ (u : Bool). F y x && u) (t y x ys xs)

pub splits_either : {a c : ℕ} (f g : Function) {F G : Finding} → Splits a c f F → Splits a c g G → Splits a c (either f g) (λ y x. F y x || G y x)
splits_either {a} {c} f g {F} {G} s t y x ys xs = ap (λ (u : Bool). u || g (y ++ x)) (s y x ys xs) ∙ ap (λ (u : Bool). F y x || u) (t y x ys xs)

pub splits_opposite : {a c : ℕ} (f : Function) {F : Finding} → Splits a c f F → Splits a c (opposite f) (λ y x. not (F y x))
splits_opposite {a} {c} f {F} s y x ys xs = ap not (s y x ys xs)

pub splits_if : {a c : ℕ} (f g h : Function) {F G H : Finding} → Splits a c f F → Splits a c g G → Splits a c h H → Splits a c (if_else f g h) (λ y x. if F y x then G y x else H y x)
splits_if {a} {c} f g h {F} {G} {H} s t u y x ys xs =
    ap (λ (b : Bool). if b then g (y ++ x) else h (y ++ x)) (s y x ys xs)
    ∙ ap (λ (b : Bool). if F y x then b else h (y ++ x)) (t y x ys xs)
    ∙ ap (λ (b : Bool). if F y x then G y x else b) (u y x ys xs)

-- ---- calls

-- what holds of each node that a call makes
pub made_ok : {m : ℕ} {A B : ArenaView} {g : Function} {P : NodeId → Type 0} (result : Result NodeId DdError) → Makes m A B g result → ((r : NodeId) → Makes m A B g (Ok r) → P r) → IfOk result P
made_ok (Ok r) made each = each r made
made_ok (Err e) made each = tt

pub adds_with : {n : ℕ} {A B : ArenaView} {Has : Function → Type 0} {result : Result NodeId DdError} → MakesNodeWith (n * 2 ^ (A.variables + 1)) A B Has result → AddsAtMost n A B
adds_with made = record { was = made.was; arena = made.arena; keeps = made.keeps; few = made.few }

pub no_room_with : {m : ℕ} {A B : ArenaView} {Has : Function → Type 0} {result : Result NodeId DdError} → MakesNodeWith m A B Has result → result ≡ Err Budget → HasNoRoom B
no_room_with made is = record { full = made.full is; lacks = made.lacks is }

-- the node of a variable is one
pub adds_variable : {A B : ArenaView} {g : Function} {result : Result NodeId DdError} → Makes 1 A B g result → AddsAtMost 1 A B
adds_variable {A} made = let some = pow_pos (A.variables + 1) in record { was = made.was; arena = made.arena; keeps = made.keeps; few = omega (arith, made.few, some) }
