-- It can't be that nothing is decided of a module.
use Rattle.std.proofs.Common.{◌≡◌, ◌⊎◌, ℕ, suc, ◌≤◌, List, [], ◌∷◌, Some, map, length, slice_get, refl, inl, inr, arith}
use Rattle.std.specs.Prelude.{slice_index_or}
use Rattle.std.proofs.lemmas.Bool.{cases_lt}
use Rattle.argos_base.specs.Machines.{Fault, AlwaysReactsOnce}
use Rattle.argos_base.specs.SignalSets.{SignalSet}
use Rattle.argos_core.specs.Automata.{register_count}
use Rattle.argos_core.specs.Codes.{code_of, IsStructural}
use Rattle.argos_core.specs.FirstBad.{ReactsCoded, IsFirstBad}
use Rattle.argos_core.specs.Layouts.{RegisterShape, layout_of}
use Rattle.argos_core.specs.Modules.{IsModule}
use Rattle.argos_core.specs.Process.{PlainModule}
use Rattle.argos_core.specs.Reactions.{input_count, output_count}
use Rattle.argos_core.proofs.CodedReactions.{once_decoded}
use Rattle.argos_core.proofs.StructuralFits.{structural_fits}
use Rattle.argos_verdict.specs.Jobs.{reaction_variables, FitsReactions, IsWide}
use Rattle.argos_verdict.specs.Laws.{Decision, accepted, overlap, bad_case, too_wide, IsDecision, SomeDecision}
use Rattle.argos_verdict.proofs.Classical.{IsWithin}
use Rattle.argos_verdict.proofs.FirstFaults.{once_or_bad}
use Rattle.argos_verdict.proofs.FirstStates.{none_clear}
use Rattle.argos_verdict.proofs.JudgingSteps.{is-program}
use Rattle.argos_verdict.proofs.SizedReactions.{memory_sized, reaction_sized}
use Rattle.instant_check.specs.ModuleOverlaps.{IsClear}

-- a memory of this layout lies below these bounds
abbrev bounds_of : List RegisterShape → List ℕ
bounds_of = map (λ s. suc s.top)

fits_within : (layout : List RegisterShape) (m : List ℕ) → length m ≡ length layout
    → ((k : ℕ) (s : RegisterShape) → slice_get layout k ≡ Some s → slice_index_or m k 0 ≤ s.top) → IsWithin (bounds_of layout) m
fits_within [] [] sized within = tt
fits_within [] (x ∷ m) sized within = absurd (omega (arith, sized))
fits_within (s ∷ layout) [] sized within = absurd (omega (arith, sized))
fits_within (s ∷ layout) (x ∷ m) sized within =
    let low = within 0 s refl in (omega (arith, low), fits_within layout m (omega (arith, sized)) (λ k. within (suc k)))

module _ (P : PlainModule) (is : IsModule P) (none : (d : Decision) → ¬ (IsDecision P d)) where
  clear : IsClear P
  clear = none_clear P (λ r q x y S found. none (overlap r q x y S) found) (λ n wide. none (too_wide n) (inl wide))

  fits : FitsReactions P
  fits cyclic are some = elim (cases_lt 1024 (reaction_variables P cyclic)) [
    | inl many ↦ (
        let wide : IsWide P (reaction_variables P cyclic) = record { clear = clear; cyclic = cyclic; are = are; some = some; variables = refl; many = many } in
        absurd (none (too_wide (reaction_variables P cyclic)) (inr wide))
        )
    | inr few ↦ few
  ]

  within : (m : List ℕ) → IsStructural P.process m → IsWithin (bounds_of (layout_of P.process)) m
  within m structural = let f = structural_fits P.process m structural in fits_within (layout_of P.process) m f.sized f.within

  nothing : AlwaysReactsOnce (IsStructural P.process) (input_count P) (ReactsCoded P) ⊎ ((m : List ℕ) × (i : SignalSet) × (f : Fault) × IsFirstBad P m i f) → ⊥
  nothing (inl once) = none accepted (record {
    good = record {
      program = is-program P is clear;
      one = λ c i there input. once_decoded P c i is.shaped there (once (code_of P.process c) i (record { configuration = c; is = there; code = refl }) input);
    };
    clear = clear;
    fits = fits;
  })
  nothing (inr bad) = none (bad_case bad.0 bad.1 bad.2) (record { program = is-program P is clear; clear = clear; fits = fits; first = bad.3 })

  absurdity : ⊥
  absurdity =
      once_or_bad (IsStructural P.process) (input_count P) (output_count P) (register_count P.process) (ReactsCoded P)
      (bounds_of (layout_of P.process)) within (memory_sized P) (λ m i o n r. reaction_sized P m i o n is.shaped r) nothing

pub some_decision : SomeDecision
some_decision P is none = absurdity P is none
