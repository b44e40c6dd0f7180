-- What woven programs of the code stand for. Source: this project.
use Rattle.argos_core.specs.ModuleViews.{module_of}
use Rattle.argos_compile.specs.AspectViews.{woven_from}
use Rattle.argos_compile.specs.Weaving.{WovenProgram}
use Rattle.argos_compile.specs.declared.woven.Woven.{Woven}

abbrev pub woven_view : Woven → WovenProgram
woven_view w = woven_from (module_of w.«module») w.aspects.items
