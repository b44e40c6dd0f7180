-- The laws of what is equal under aspects.
use Rattle.std.proofs.Common.{◌≡◌, true}
use Rattle.argos_congruence.specs.Laws.{BisimilarAreEqualUnderAspects, BisimilarTracesMove, MovedAspectsFit, WeavingsHaveOneTrace}
use Rattle.argos_congruence.proofs.MovedTraces.{all_moved_fit, one_woven_trace, moved_trace}
use Rattle.argos_congruence.proofs.SharedNames.{share_names}
use Rattle.argos_congruence.proofs.Woven.{equal_under_aspects}

pub bisimilar_are_equal : BisimilarAreEqualUnderAspects
bisimilar_are_equal related = equal_under_aspects (λ m n. related m n ≡ true)

pub bisimilar_traces_move : BisimilarTracesMove
bisimilar_traces_move related = moved_trace (λ m n. related m n ≡ true)

pub moved_aspects_fit : MovedAspectsFit
moved_aspects_fit P Q aspects good names fit = all_moved_fit P Q aspects (share_names P Q good.program.is.names names) fit

pub weavings_have_one_trace : WeavingsHaveOneTrace
weavings_have_one_trace = one_woven_trace
