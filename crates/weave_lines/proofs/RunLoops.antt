-- A base and an observer that run along a trace.
use Rattle.std.proofs.Common.{◌≡◌, ℕ, zero, suc, ◌+◌, ◌<◌, ◌≤◌, List, [], ◌∷◌, ◌++◌, Bool, map, length, get_or, take, drop, set, refl, sym, ap, ◌∙◌, subst, arith}
use Rattle.std.proofs.lemmas.Grind.{common_steps}
use Rattle.std.proofs.lemmas.List.{at_drop_more, length-map}
use Rattle.argos_base.specs.SignalSets.{SignalSet}
use Rattle.argos_base.proofs.SetLemmas.{length-set_where}
use Rattle.argos_aspects.specs.Aspects as plain
use Rattle.argos_aspects.specs.Views.{seen_of}
use Rattle.argos_aspects.specs.Weaving.{sees, observed}
use Rattle.argos_aspects.specs.declared.aspect.Seen.{Seen}
use Rattle.eqn_core.specs.Equations.{Equations}
use Rattle.eqn_core.specs.Running.{Running, start_of, StepsTo}
use Rattle.eqn_core.specs.Solutions.{bit_of, SystemReacts}
use Rattle.eqn_core.proofs.Walks.{write_more}
use Rattle.weave_lines.specs.Systems.{MoveAlong}

pub ruleset run_loops = (common_steps, write_more, length-map, length-set_where)

-- one more signal is observed
pub observe-more : (v o : SignalSet) (seen : List Seen) (ys cur : List Bool) (k : ℕ) (d : Seen) (y : Bool) → k < length seen → length ys ≡ length seen → cur ≡ take k (map (sees v o) (map seen_of seen)) ++ drop k ys → y ≡ sees v o (seen_of (get_or seen k d))
    → set cur k y ≡ take (k + 1) (map (sees v o) (map seen_of seen)) ++ drop (k + 1) ys
observe-more v o seen ys cur k d y l e h g =
    let Z = map (sees v o) (map seen_of seen) in
    let sized : length Z ≡ length seen = length-map (map seen_of seen) (sees v o) ∙ length-map seen seen_of in
    let here : get_or Z k y ≡ sees v o (seen_of (get_or seen k d)) = at-mapped (sees v o) (map seen_of seen) k (seen_of d) y (omega (arith, length-map seen seen_of)) ∙ ap (sees v o) (at-mapped seen_of seen k d (seen_of d) l) in
    ap (λ (c : List Bool). set c k y) h ∙ write_more Z ys k y y (omega arith) (omega arith) (g ∙ sym here)
  where
    at-mapped : {X Y : Type 0} (f : X → Y) (xs : List X) (k : ℕ) (d : X) (e : Y) → k < length xs → get_or (map f xs) k e ≡ f (get_or xs k d)
    at-mapped f [] k d e l = absurd (omega arith)
    at-mapped f (x ∷ xs) zero d e l = refl
    at-mapped f (x ∷ xs) (suc k) d e l = at-mapped f xs k d e (omega arith)

-- one more instant of both
module _ (W J : Equations) (seen : List plain.Seen) where
  pub move-more : (trace : List SignalSet) (i : ℕ) (v o emitted : SignalSet) (m n k l m0 n0 : List ℕ) → i < length trace → v ≡ get_or trace i v → SystemReacts W m v o k → SystemReacts J n (observed seen v o) emitted l
      → ((x y : List ℕ) → MoveAlong W J seen m n (drop i trace) x y → MoveAlong W J seen m0 n0 trace x y) → (x y : List ℕ) → MoveAlong W J seen k l (drop (i + 1) trace) x y → MoveAlong W J seen m0 n0 trace x y
  move-more trace i v o emitted m n k l m0 n0 below e r s h x y moves =
      let there : drop i trace ≡ v ∷ drop (i + 1) trace = at_drop_more (λ (t : List SignalSet). t) trace i v below ∙ ap (λ (u : SignalSet). u ∷ drop (i + 1) trace) (sym e) in
      h x y (subst (λ (t : List SignalSet). MoveAlong W J seen m n t x y) (sym there) (o, emitted, k, l, r, s, moves))

-- a step of a system, whose equations are known
pub step-of : (E : Equations) (x y : Running) (i o : SignalSet) → x.equations ≡ E → StepsTo x i o y → SystemReacts E x.memory i o y.memory
step-of E x y i o e h = subst (λ (F : Equations). SystemReacts F x.memory i o y.memory) e h.reacts

pub outputs-sized : (E : Equations) (m : List ℕ) (i o : SignalSet) (n : List ℕ) → SystemReacts E m i o n → length o ≡ length E.outputs
outputs-sized E m i o n r = ap length r.outputs ∙ length-map E.outputs (bit_of r.values)

drop_past : (xs : List SignalSet) (i : ℕ) → length xs ≤ i → drop i xs ≡ []
drop_past [] zero h = refl
drop_past [] (suc i) h = refl
drop_past (x ∷ xs) zero h = absurd (omega arith)
drop_past (x ∷ xs) (suc i) h = drop_past xs i (omega arith)

-- nothing is left
pub moves-end : (W J : Equations) (seen : List plain.Seen) (trace : List SignalSet) (i : ℕ) (m n m0 n0 : List ℕ) → length trace ≤ i → ((x y : List ℕ) → MoveAlong W J seen m n (drop i trace) x y → MoveAlong W J seen m0 n0 trace x y) → MoveAlong W J seen m0 n0 trace m n
moves-end W J seen trace i m n m0 n0 h f = f m n (subst (λ (t : List SignalSet). MoveAlong W J seen m n t m n) (sym (drop_past trace i h)) (refl, refl))

pub moves-from : (W J : Equations) (seen : List plain.Seen) (trace : List SignalSet) (x y : Running) → x ≡ start_of W → y ≡ start_of J → (m n : List ℕ) → MoveAlong W J seen x.memory y.memory trace m n → MoveAlong W J seen W.initial J.initial trace m n
moves-from W J seen trace x y e h m n moves = subst (λ (z : Running). MoveAlong W J seen z.memory J.initial trace m n) e (subst (λ (z : Running). MoveAlong W J seen x.memory z.memory trace m n) h moves)
