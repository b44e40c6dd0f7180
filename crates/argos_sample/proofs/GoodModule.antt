-- The module of a sample keeps the rules of modules.
use Rattle.std.proofs.Common.{◌≡◌, ◌≢◌, ◌⊎◌, inl, inr, ℕ, zero, suc, ◌+◌, ◌-◌, ◌*◌, ◌<◌, ◌≤◌, List, [], ◌++◌, Bool, true, ◌&&◌, if◌then◌else◌, nat_lt, nat_le, refl, sym, ap, ◌∙◌, arith, rules}
use Rattle.std.specs.List.{range_with_len}
use Rattle.std.specs.Prelude.{◌==◌}
use Rattle.std.proofs.lemmas.Bool.Decides.{nat_tests}
use Rattle.std.proofs.lemmas.List.{append-nil}
use Rattle.std.proofs.lemmas.List.FromFn.{length-map-range_with_len}
use Rattle.argos_base.specs.Limits.{sample_limit}
use Rattle.argos_base.specs.SignalSets.{lists}
use Rattle.argos_base.proofs.Bools.{true_or_false, or_right, and_both}
use Rattle.argos_core.specs.Automata.{registers_of}
use Rattle.argos_core.specs.Modules.{Scope, is_readable, is_emittable, part_count, AreShapedParts, IsScoped, AreScopedParts, within_locals, locals_in, locals_in_parts, times, scope_of, IsModule}
use Rattle.argos_core.specs.Reactions.{signal_count}
use Rattle.argos_core.specs.Sizes.{parts_size, depth_of_parts}
use Rattle.argos_scope.proofs.LocalsInOrder.{lists-range, range-lists, times-range}
use Rattle.argos_sample.specs.SampleForm.{inner_name}
use Rattle.argos_sample.specs.SampleModule.{heard_signal, emitted_signal, halving, row, sample_process, sample_module}

-- the last of n automata emits the output, and each other one the signal that the next one hears
pub emitted_which : (n i : ℕ) → ((n ≡ i + 1) × (emitted_signal n i ≡ 1)) ⊎ ((n ≢ i + 1) × (emitted_signal n i ≡ i + 2))
emitted_which n i = elim (true_or_false (n == i + 1)) [
  | inl e ↦ inl (let last : n ≡ i + 1 = grind (arith, nat_tests) in last, ap (λ (b : Bool). if b then 1 else i + 2) e)
  | inr o ↦ inr (let inner : n ≢ i + 1 = grind (arith, nat_tests) in inner, ap (λ (b : Bool). if b then 1 else i + 2) o)
]

-- k of them in a row
row_parts : (n i k : ℕ) → part_count (row n i k) ≡ k
row_parts n i zero = refl
row_parts n i (suc k) = omega (arith, row_parts n (i + 1) k)

row_shaped : (n i k : ℕ) → AreShapedParts (row n i k)
row_shaped n i zero = tt
row_shaped n i (suc k) = (search rules, row_shaped n (i + 1) k)

row_locals : (n i k : ℕ) → locals_in_parts (row n i k) ≡ []
row_locals n i zero = refl
row_locals n i (suc k) = row_locals n (i + 1) k

row_registers : (n i k : ℕ) → registers_of (row n i k) ≡ k
row_registers n i zero = refl
row_registers n i (suc k) = omega (arith, row_registers n (i + 1) k)

row_depth : (n i k : ℕ) → depth_of_parts (row n i k) ≤ 1
row_depth n i zero = omega arith
row_depth n i (suc k) = omega (arith, row_depth n (i + 1) k)

row_size : (n i k : ℕ) → parts_size (row n i k) ≡ 8 * k
row_size n i zero = refl
row_size n i (suc k) = omega (arith, row_size n (i + 1) k)

-- a scope in which a sample of n automata reads and emits
record Carries (s : Scope) (n : ℕ) : Type 0 where
  heard : (i : ℕ) → i < n → is_readable s (heard_signal i) ≡ true
  emitted : (i : ℕ) → i < n → is_emittable s (emitted_signal n i) ≡ true

halving_scoped : (s : Scope) (n i : ℕ) → Carries s n → i < n → IsScoped s (halving n i)
halving_scoped s n i c below =
    let h = c.heard i below in
    let e = c.emitted i below in
    (refl, ((h, refl, tt), tt, tt, ((h, and_both (is_emittable s (emitted_signal n i)) true e refl, tt), tt, tt, tt)))

row_scoped : (s : Scope) (n i k : ℕ) → Carries s n → i + k ≤ n → AreScopedParts s (row n i k)
row_scoped s n i zero c below = tt
row_scoped s n i (suc k) c below = (halving_scoped s n i c (omega arith), row_scoped s n (i + 1) k c (omega arith))

one_carries : Carries (scope_of (sample_module 1)) 1
one_carries = record { heard = heard; emitted = emitted }
  where
    heard : (i : ℕ) → i < 1 → is_readable (scope_of (sample_module 1)) (heard_signal i) ≡ true
    heard zero below = refl
    heard (suc i) below = absurd (omega arith)

    emitted : (i : ℕ) → i < 1 → is_emittable (scope_of (sample_module 1)) (emitted_signal 1 i) ≡ true
    emitted zero below = refl
    emitted (suc i) below = absurd (omega arith)

-- the scope under the locals
abbrev inside : ℕ → Scope
inside k = within_locals (scope_of (sample_module (suc (suc k)))) (range_with_len 2 (suc k))

more_carry : (k : ℕ) → Carries (inside k) (suc (suc k))
more_carry k = record { heard = heard; emitted = emitted }
  where
    local : (j : ℕ) → 2 ≤ j → j < 2 + suc k → lists (range_with_len 2 (suc k) ++ []) j ≡ true
    local j low high = ap (λ (l : List ℕ). lists l j) (append-nil (range_with_len 2 (suc k))) ∙ lists-range 2 (suc k) j low high

    heard : (i : ℕ) → i < suc (suc k) → is_readable (inside k) (heard_signal i) ≡ true
    heard zero below = refl
    heard (suc i) below =
        let listed = local (suc (suc i)) (omega arith) (omega arith) in
        or_right (nat_lt (suc (suc i)) 1) (lists (range_with_len 2 (suc k) ++ []) (suc (suc i))) listed

    emitted : (i : ℕ) → i < suc (suc k) → is_emittable (inside k) (emitted_signal (suc (suc k)) i) ≡ true
    emitted i below = elim (emitted_which (suc (suc k)) i) [
      | inl e ↦ ap (is_emittable (inside k)) e.1
      | inr e ↦ (
          let inner = e.0 in
          let listed = local (i + 2) (omega arith) (omega arith) in
          ap (is_emittable (inside k)) e.1
          ∙ or_right (nat_le 1 (i + 2) && nat_lt (i + 2) 2) (lists (range_with_len 2 (suc k) ++ []) (i + 2)) listed
          )
    ]

one_is_module : IsModule (sample_module 1)
one_is_module = record {
  names = refl;
  shaped = search rules;
  scoped = halving_scoped (scope_of (sample_module 1)) 1 0 one_carries (omega arith);
  locals_once = λ k low high. absurd (omega arith);
  locals_alone = λ k listed. cc;
  signals = omega arith;
  automata = omega arith;
  depth = omega arith;
  size = omega arith;
}

more_locals : (k : ℕ) → locals_in (sample_process (suc (suc k))) ≡ range_with_len 2 (suc k)
more_locals k =
    ap (λ (l : List ℕ). range_with_len 2 (suc k) ++ l) (row_locals (suc (suc k)) 0 (suc (suc k)))
    ∙ append-nil (range_with_len 2 (suc k))

-- the input, the output, and the signals between n automata
more_signals : (k : ℕ) → signal_count (sample_module (suc (suc k))) ≡ k + 3
more_signals k =
    let e : suc (suc k) - 1 ≡ suc k = omega arith in
    omega (arith, length-map-range_with_len inner_name 1 (suc (suc k) - 1))

more_is_module : (k : ℕ) → suc (suc k) ≤ sample_limit → IsModule (sample_module (suc (suc k)))
more_is_module k few =
    let n = suc (suc k) in
    let signals = more_signals k in
    let locals = more_locals k in
    let registers = row_registers n 0 n in
    let depths = row_depth n 0 n in
    let sizes = row_size n 0 n in
    let parts = row_parts n 0 n in record {
      names = refl;
      shaped = (omega arith, row_shaped n 0 n);
      scoped = row_scoped (inside k) n 0 n (more_carry k) (omega arith);
      locals_once = λ j low high. ap (times j) locals ∙ times-range 2 (suc k) j (omega arith) (omega arith);
      locals_alone = λ j listed.
          let r = range-lists 2 (suc k) j (ap (λ (l : List ℕ). lists l j) (sym locals) ∙ listed) in
          (omega (arith, r.0), omega (arith, r.1));
      signals = omega arith;
      automata = omega arith;
      depth = omega arith;
      size = omega arith;
    }

pub sample_is_module : (n : ℕ) → 1 ≤ n → n ≤ sample_limit → IsModule (sample_module n)
sample_is_module zero some few = absurd (omega arith)
sample_is_module (suc zero) some few = one_is_module
sample_is_module (suc (suc k)) some few = more_is_module k few
