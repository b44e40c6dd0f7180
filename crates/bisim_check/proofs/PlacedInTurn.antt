-- Registers in turn from a variable on, and variables by name.
use Rattle.std.proofs.Common.{◌≡◌, ℕ, zero, suc, ◌+◌, ◌*◌, ◌<◌, ◌≤◌, List, [], ◌∷◌, ◌++◌, Some, None, slice_index_or, slice_get, length, map, take, drop, refl, sym, ap, ◌∙◌, arith, append_assoc, add-one}
use Rattle.std.proofs.lemmas.List.{length-map, map-append, take_more}
use Rattle.argos_base.specs.Limits.{automaton_limit}
use Rattle.argos_core.specs.Automata.{register_count}
use Rattle.argos_core.specs.Layouts.{RegisterShape, layout_of}
use Rattle.argos_core.specs.Modules.{IsModule}
use Rattle.argos_core.specs.Process.{PlainModule}
use Rattle.argos_core.specs.Views.{register_shape_of}
use Rattle.argos_core.specs.declared.layouts.Shape.{Shape}
use Rattle.argos_verdict.proofs.JudgingSteps.{layout-sized}
use Rattle.eqn_completion.specs.Binary.{digits_in}
use Rattle.eqn_dd.specs.Placed.{Register, registers_from}
use Rattle.eqn_dd.specs.Structural.{digit_count, widths_of}
use Rattle.eqn_dd.proofs.Turns.{digits-few}

registers-push : (k : ℕ) (widths : List ℕ) (w : ℕ) → registers_from k (widths ++ w ∷ []) ≡ registers_from k widths ++ (k + digits_in widths, w) ∷ []
registers-push k [] w = ap (λ (n : ℕ). (n, w) ∷ []) (let e : k ≡ k + 0 = omega arith in e)
registers-push k (v ∷ widths) w =
    ap (λ (l : List Register). (k, v) ∷ l) (registers-push (k + v) widths w
    ∙ ap (λ (n : ℕ). registers_from (k + v) widths ++ (n, w) ∷ []) (let e : k + v + digits_in widths ≡ k + (v + digits_in widths) = omega arith in e))

digits-push : (widths : List ℕ) (w : ℕ) → digits_in (widths ++ w ∷ []) ≡ digits_in widths + w
digits-push [] w = omega arith
digits-push (v ∷ widths) w = omega (arith, digits-push widths w)

-- the first registers from variable k on, as many as i says
pub record TurnsFrom (k : ℕ) (layout : List RegisterShape) (i : ℕ) (regs : List Register) (next : ℕ) : Type 0 where
  pub registers_are : regs ≡ registers_from k (widths_of (take i layout))
  pub next_is : next ≡ k + digits_in (widths_of (take i layout))
  pub few : next ≤ k + 16 * i

pub turns_more : {k : ℕ} {layout : List RegisterShape} {i next digits : ℕ} {regs : List Register} {s : RegisterShape}
    → i < length layout → s ≡ slice_index_or layout i s → digits ≡ digit_count s.top
    → TurnsFrom k layout i regs next → TurnsFrom k layout (i + 1) (regs ++ (next, digits) ∷ []) (next + digits)
turns_more {k} {layout} {i} {next} {digits} {regs} {s} inside at is before =
    let shapes = take i layout in
    let front : take (i + 1) layout ≡ shapes ++ s ∷ [] = take_more layout i s inside ∙ ap (λ (t : RegisterShape). shapes ++ t ∷ []) (sym at) in
    let widths : widths_of (take (i + 1) layout) ≡ widths_of shapes ++ digit_count s.top ∷ [] =
    ap widths_of front ∙ map-append (λ (t : RegisterShape). digit_count t.top) shapes (s ∷ []) in
    record {
      registers_are =
          ap (λ (l : List Register). l ++ (next, digits) ∷ []) before.registers_are
          ∙ ap (λ (n : ℕ). registers_from k (widths_of shapes) ++ (n, digits) ∷ []) before.next_is
          ∙ ap (λ (n : ℕ). registers_from k (widths_of shapes) ++ (k + digits_in (widths_of shapes), n) ∷ []) is
          ∙ sym (ap (registers_from k) widths ∙ registers-push k (widths_of shapes) (digit_count s.top));
      next_is = let was = before.next_is in omega (arith, was, is, ap digits_in widths, digits-push (widths_of shapes) (digit_count s.top));
      few = omega (arith, before.few, is, digits-few s.top);
    }

-- a list has few items where it is that of the registers of a module
pub registers-few : (P : PlainModule) (shapes items : List Shape) → IsModule P → items ≡ shapes → map register_shape_of shapes ≡ layout_of P.process
    → length items ≤ automaton_limit
registers-few P shapes items kept same laid =
    let count = layout-sized P (map register_shape_of shapes) (register_count P.process) kept.shaped laid refl in
    omega (arith, ap length same, length-map shapes register_shape_of, count, kept.automata)

-- ---- one after the other, by number

drop-some : {X : Type 0} (xs : List X) (k : ℕ) (x : X) → slice_get xs k ≡ Some x → drop k xs ≡ x ∷ drop (suc k) xs
drop-some [] k x at = cc
drop-some (y ∷ xs) zero x at = let same : y ≡ x = cc in ap (λ z. z ∷ xs) same
drop-some (y ∷ xs) (suc k) x at = drop-some xs k x at

drop-none : {X : Type 0} (xs : List X) (k : ℕ) → slice_get xs k ≡ None → drop (suc k) xs ≡ drop k xs
drop-none [] zero at = refl
drop-none [] (suc k) at = refl
drop-none (y ∷ xs) zero at = cc
drop-none (y ∷ xs) (suc k) at = drop-none xs k at

-- with those that are left come all, after one more
pub one_more : {X : Type 0} (f : X → ℕ) (xs : List X) (k : ℕ) (x : X) (before after whole : List ℕ) → slice_get xs k ≡ Some x
    → before ++ map f (drop k xs) ≡ whole → after ≡ before ++ f x ∷ [] → after ++ map f (drop (k + 1) xs) ≡ whole
one_more f xs k x before after whole at so_far put =
    let rest = map f (drop (k + 1) xs) in
    let next : map f (drop k xs) ≡ f x ∷ rest = ap (map f) (drop-some xs k x at) ∙ ap (λ (n : ℕ). f x ∷ map f (drop n xs)) (sym (add-one k)) in
    ap (λ (l : List ℕ). l ++ rest) put
    ∙ append_assoc before (f x ∷ []) rest
    ∙ ap (λ (l : List ℕ). before ++ l) (sym next)
    ∙ so_far

pub none_more : {X : Type 0} (f : X → ℕ) (xs : List X) (k : ℕ) (before whole : List ℕ) → slice_get xs k ≡ None
    → before ++ map f (drop k xs) ≡ whole → before ++ map f (drop (k + 1) xs) ≡ whole
none_more f xs k before whole at so_far =
    ap (λ l. before ++ map f l) (ap (λ (n : ℕ). drop n xs) (add-one k) ∙ drop-none xs k at) ∙ so_far
