-- Woven programs, and what their ordered equations are. Source: this project.
use Rattle.std.specs.Prelude.{◌≡◌, ℕ, ◌≤◌, List, [], ◌∷◌, length}
use Rattle.argos_aspects.specs.Aspects.{Aspect, AllFit}
use Rattle.argos_aspects.specs.Weaving.{need_with}
use Rattle.argos_core.specs.Overlaps.{IsGood}
use Rattle.argos_core.specs.Process.{PlainModule}
use Rattle.argos_core.specs.Reactions.{input_count, output_count}
use Rattle.eqn_core.specs.Equations.{Equations}
use Rattle.weave_lines.specs.Systems.{IsWovenMachineOf}
use Rattle.argos_compile.specs.Accepting.{IsLineBound}

-- a program, and the aspects that are woven into it one after the other, the last one first
pub record WovenProgram : Type 0 where
  pub base : PlainModule
  pub aspects : List Aspect

abbrev pub plain : PlainModule → WovenProgram
plain P = record { base = P; aspects = [] }

abbrev pub with_aspect : WovenProgram → Aspect → WovenProgram
with_aspect x A = record { base = x.base; aspects = A ∷ x.aspects }

-- The woven program needs no more than so many lines: by the base's bound without aspects, and else by the bound of what is before the last
-- aspect and that of its observer.
abbrev pub IsBoundWith : PlainModule → List Aspect → ℕ → Type 0
IsBoundWith P [] n = IsLineBound P n
IsBoundWith P (A ∷ before) n = (most lines : ℕ) × (IsBoundWith P before most × IsLineBound A.observer lines × (n ≡ need_with P before A most lines))

abbrev pub IsWovenLineBound : WovenProgram → ℕ → Type 0
IsWovenLineBound x = IsBoundWith x.base x.aspects

-- The base is good and each aspect fits it; and these ordered equations, of at most so many lines, react at the codes of all woven
-- configurations as the woven program does.
pub record IsWoven (x : WovenProgram) (E : Equations) (most : ℕ) : Type 0 where
  pub good : IsGood x.base
  pub fit : AllFit x.aspects (input_count x.base) (output_count x.base)
  pub machine : IsWovenMachineOf x.base x.aspects E
  pub bound : IsWovenLineBound x most
  pub lines : length E.lines ≤ most
