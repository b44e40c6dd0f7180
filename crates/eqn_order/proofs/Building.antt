-- Lists that grow along the lines of a system.
use Rattle.std.proofs.Common.{◌≡◌, ℕ, zero, suc, ◌+◌, ◌<◌, ◌≤◌, List, [], ◌∷◌, ◌++◌, length, map, set, get_or, replicate, refl, sym, ap, ◌∙◌, append_assoc, arith}
use Rattle.std.specs.Prelude.{Vec}
use Rattle.std.specs.declared.alloc.Global.{Global}
use Rattle.std.proofs.lemmas.Grind.{common_steps}
use Rattle.std.proofs.lemmas.List.{length-map}
use Rattle.eqn_order.specs.inner.Graphs.{row, rows_of}

-- a write past the end changes nothing
pub set_past : {X : Type 0} (xs : List X) (i : ℕ) (x : X) → length xs ≤ i → set xs i x ≡ xs
set_past [] i x h = refl
set_past (y ∷ xs) zero x h = absurd (omega arith)
set_past (y ∷ xs) (suc i) x h = ap (λ zs. y ∷ zs) (set_past xs i x (omega arith))

pub replicate_more : {X : Type 0} (n : ℕ) (x : X) → replicate n x ++ x ∷ [] ≡ replicate (n + 1) x
replicate_more zero x = refl
replicate_more (suc n) x = ap (λ zs. x ∷ zs) (replicate_more n x) ∙ (let e : suc (n + 1) ≡ suc n + 1 = omega arith in ap (λ k. replicate k x) e)

pub map-append : {X Y : Type 0} (f : X → Y) (xs ys : List X) → map f (xs ++ ys) ≡ map f xs ++ map f ys
map-append f [] ys = refl
map-append f (x ∷ xs) ys = ap (λ zs. f x ∷ zs) (map-append f xs ys)

pub map-set : {X Y : Type 0} (f : X → Y) (xs : List X) (i : ℕ) (x : X) → map f (set xs i x) ≡ set (map f xs) i (f x)
map-set f [] i x = refl
map-set f (y ∷ xs) zero x = refl
map-set f (y ∷ xs) (suc i) x = ap (λ zs. f y ∷ zs) (map-set f xs i x)

pub ruleset building = (common_steps, length-map, set_past, replicate_more, map-append, append_assoc)

pub row-items : (xs : List (Vec ℕ Global)) (i : ℕ) (x : Vec ℕ Global) → i < length xs → row (rows_of xs) i ≡ (get_or xs i x).items
row-items [] i x l = absurd (omega arith)
row-items (y ∷ xs) zero x l = refl
row-items (y ∷ xs) (suc i) x l = row-items xs i x (omega arith)

-- a row that gets one more line
pub add_to : (xs : List (Vec ℕ Global)) (i line : ℕ) (x x' : Vec ℕ Global) → i < length xs → x'.items ≡ (get_or xs i x).items ++ line ∷ [] → rows_of (set xs i x') ≡ set (rows_of xs) i (row (rows_of xs) i ++ line ∷ [])
add_to xs i line x x' l e = map-set (λ (r : Vec ℕ Global). r.items) xs i x' ∙ ap (λ (r : List ℕ). set (rows_of xs) i r) (e ∙ ap (λ (r : List ℕ). r ++ line ∷ []) (sym (row-items xs i x l)))
