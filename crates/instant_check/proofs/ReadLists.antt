-- Which signals transitions read, one transition and one signal after the other.
use Rattle.std.proofs.Common.{◌≡◌, ℕ, ◌+◌, ◌<◌, List, [], ◌∷◌, ◌++◌, Bool, true, false, ◌||◌, cond, map, length, get_or, drop, sym, ap, ◌∙◌, refl, arith, append-nil}
use Rattle.std.proofs.lemmas.Grind.{common_steps}
use Rattle.std.proofs.lemmas.List.{at_drop_more}
use Rattle.std.proofs.lemmas.List.FromFn.{filter_of_map_range_with_len_more}
use Rattle.std.specs.List.{filter, range_with_len}
use Rattle.std.specs.Prelude.{Result, Ok, Err, IfOk, Vec}
use Rattle.std.specs.declared.alloc.Global.{Global}
use Rattle.argos_core.specs.Guards.{reads, reads_some}
use Rattle.argos_core.specs.Overlaps.{some_reads}
use Rattle.argos_core.specs.Views.{guard_of, guards_of, transition_of, numbers}
use Rattle.argos_core.specs.declared.prog.Guard.{Guard}
use Rattle.argos_core.specs.declared.prog.Trans.{Trans}
use Rattle.argos_base.specs.declared.signals.SigId.{SigId}

pub some_reads-drop : (k : ℕ) (ts : List Trans) (i : ℕ) (d : Trans) → i < length ts → some_reads (map transition_of (drop i ts)) k ≡ (reads (guard_of (get_or ts i d).guard) k || some_reads (map transition_of (drop (i + 1) ts)) k)
some_reads-drop k = at_drop_more (λ ts. some_reads (map transition_of ts) k)

same_map : (xs : List ℕ) → map (λ (k : ℕ). k) xs ≡ xs
same_map [] = refl
same_map (x ∷ xs) = ap (λ (l : List ℕ). x ∷ l) (same_map xs)

-- one number more that may pass
pub filter-range_more : (p : ℕ → Bool) (n : ℕ) → filter p (range_with_len 0 (n + 1)) ≡ filter p (range_with_len 0 n) ++ cond (p n) (n ∷ []) []
filter-range_more p n =
    sym (ap (λ (l : List ℕ). filter p l) (same_map (range_with_len 0 (n + 1))))
    ∙ filter_of_map_range_with_len_more p (λ (k : ℕ). k) 0 n n (let e : 0 + n ≡ n = omega arith in e)
    ∙ ap (λ (l : List ℕ). filter p l ++ cond (p n) (n ∷ []) []) (same_map (range_with_len 0 n))

pub filter-range_taken : (p : ℕ → Bool) (n : ℕ) → p n ≡ true → filter p (range_with_len 0 (n + 1)) ≡ filter p (range_with_len 0 n) ++ n ∷ []
filter-range_taken p n h = filter-range_more p n ∙ ap (λ (b : Bool). filter p (range_with_len 0 n) ++ cond b (n ∷ []) []) h

pub filter-range_left : (p : ℕ → Bool) (n : ℕ) → p n ≡ false → filter p (range_with_len 0 (n + 1)) ≡ filter p (range_with_len 0 n)
filter-range_left p n h = filter-range_more p n ∙ ap (λ (b : Bool). filter p (range_with_len 0 n) ++ cond b (n ∷ []) []) h ∙ append-nil (filter p (range_with_len 0 n))

pub numbers-push : (signals : List SigId) (s : SigId) → numbers (signals ++ s ∷ []) ≡ numbers signals ++ s.0 ∷ []
numbers-push [] s = refl
numbers-push (t ∷ signals) s = ap (λ (l : List ℕ). t.0 ∷ l) (numbers-push signals s)

-- numbers that are one list are another that is the same
pub then_same : {E : Type 0} (r : Result (Vec SigId Global) E) (a b : List ℕ) → IfOk r (λ s. numbers s.items ≡ a) → a ≡ b → IfOk r (λ s. numbers s.items ≡ b)
then_same (Ok s) a b h e = h ∙ e
then_same (Err x) a b h e = tt

pub reads_some-drop : (k : ℕ) (gs : List Guard) (i : ℕ) (d : Guard) → i < length gs → reads_some (guards_of (map guard_of (drop i gs))) k ≡ (reads (guard_of (get_or gs i d)) k || reads_some (guards_of (map guard_of (drop (i + 1) gs))) k)
reads_some-drop k = at_drop_more (λ gs. reads_some (guards_of (map guard_of gs)) k)

pub ruleset read_lists = (common_steps, some_reads-drop, reads_some-drop)
