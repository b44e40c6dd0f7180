-- What aspects of the code stand for. Source: this project.
use Rattle.std.specs.Prelude.{List, map, reverse}
use Rattle.argos_aspects.specs.Aspects as plain
use Rattle.argos_aspects.specs.Views.{seen_of, advice_of}
use Rattle.argos_core.specs.ModuleViews.{module_of}
use Rattle.argos_core.specs.Process.{PlainModule}
use Rattle.argos_compile.specs.Weaving.{WovenProgram}
use Rattle.argos_compile.specs.declared.aspect.Aspect.{Aspect}

abbrev pub aspect_view : Aspect → plain.Aspect
aspect_view a = record { observer = module_of a.observer.«module»; seen = map seen_of a.seen.items; advice = advice_of a.advice }

-- the base with these aspects, of which the code has the first one first
abbrev pub woven_from : PlainModule → List Aspect → WovenProgram
woven_from P aspects = record { base = P; aspects = reverse (map aspect_view aspects) }
