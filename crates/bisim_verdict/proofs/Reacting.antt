-- Good programs react at structural memories.
use Rattle.std.proofs.Common.{◌≡◌, ℕ, List, length, refl}
use Rattle.argos_base.specs.SignalSets.{SignalSet}
use Rattle.argos_core.specs.Codes.{IsStructural}
use Rattle.argos_core.specs.FirstBad.{ReactsCoded}
use Rattle.argos_core.specs.Overlaps.{IsGood}
use Rattle.argos_core.specs.Process.{PlainModule}
use Rattle.argos_core.specs.Reactions.{input_count}

pub structural : (R : PlainModule) (m : List ℕ) (i o : SignalSet) (m' : List ℕ) → ReactsCoded R m i o m' → IsStructural R.process m
structural R m i o m' r = record { configuration = r.configuration; is = r.is; code = r.from }

pub record Reaction (R : PlainModule) (m : List ℕ) (i : SignalSet) : Type 0 where
  pub outputs_of : SignalSet
  pub next_of : List ℕ
  pub reacts : ReactsCoded R m i outputs_of next_of

pub reaction : (R : PlainModule) (m : List ℕ) (i : SignalSet) → IsGood R → IsStructural R.process m → length i ≡ input_count R → Reaction R m i
reaction R m i good s e =
    let one = good.one s.configuration i s.is e in
    record { outputs_of = one.outputs; next_of = _; reacts = record { configuration = s.configuration; is = s.is; from = s.code; next = one.next; reacts = one.reacts; to = refl } }
