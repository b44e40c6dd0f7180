-- What a program of the code needs with one more aspect. Source: this project.
use Rattle.std.specs.Prelude.{ℕ, ◌+◌, ◌*◌, ◌∷◌, length}
use Rattle.argos_aspects.specs.Aspects.{Fits}
use Rattle.argos_aspects.specs.Views.{onset_of}
use Rattle.argos_aspects.specs.Weaving.{unrolled, woven_registers, need_with}
use Rattle.argos_compile.specs.AspectViews.{aspect_view}
use Rattle.argos_compile.specs.WovenViews.{woven_view}
use Rattle.argos_compile.specs.declared.aspect.Aspect.{Aspect}
use Rattle.argos_compile.specs.declared.woven.Woven.{Woven}
use Rattle.argos_core.specs.Reactions.{input_count, output_count}
use Rattle.eqn_core.specs.Equations.{weight_of}

-- the aspect is one over the interface of the program
abbrev pub FitsInto : Woven → Aspect → Type 0
FitsInto w a = Fits (aspect_view a) (input_count (woven_view w).base) (output_count (woven_view w).base)

-- the registers of the program with the aspect
abbrev pub registers_with : Woven → Aspect → ℕ
registers_with w a = woven_registers (woven_view w).base (aspect_view a ∷ (woven_view w).aspects)

-- the most lines of the program with the aspect
abbrev pub lines_with : Woven → Aspect → ℕ
lines_with w a = need_with (woven_view w).base (woven_view w).aspects (aspect_view a) w.most a.observer.lines

-- the greatest weight of its equations: once that of both systems, and once more for each copy, and the lines that join them
abbrev pub weight_with : Woven → Aspect → ℕ
weight_with w a =
    (length (unrolled (onset_of a.advice.current) a.advice.trace.items) + 1) * (weight_of w.ordered + weight_of a.observer.ordered)
    + 4 * (2 * output_count (woven_view w).base + registers_with w a + 2)
