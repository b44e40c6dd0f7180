-- What a step of the code stands for. Source: this project.
use Rattle.c_step.specs.CStep as plain
use Rattle.c_step.specs.Views.{step_from}
use Rattle.c_step.specs.declared.step.CStep.{CStep}

abbrev pub step_of : CStep → plain.CStep
step_of s = step_from s.names s.words s.bits s.init.items s.stats.items
