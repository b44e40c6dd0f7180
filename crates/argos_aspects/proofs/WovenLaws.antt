-- The laws of woven steps and codes.
use Rattle.argos_aspects.specs.Laws.{WovenStepsOnce, WovenInitialIsOne, WovenCodesAreSized, WovenCodesDiffer}
use Rattle.argos_aspects.proofs.WovenOnce.{one_step, woven_initial_is, length-woven_code, woven_codes_differ}

pub woven_steps_once : WovenStepsOnce
woven_steps_once P aspects x v good fit is sized = one_step P aspects good fit x v is sized

pub woven_initial_is_one : WovenInitialIsOne
woven_initial_is_one P aspects good fit = woven_initial_is P aspects good fit

pub woven_codes_are_sized : WovenCodesAreSized
woven_codes_are_sized P aspects x is = length-woven_code P aspects x is

pub codes_differ : WovenCodesDiffer
codes_differ P aspects x y is js e = woven_codes_differ P aspects x y is js e
