-- A trace of a good program is its only one.
use Rattle.std.proofs.Common.{◌≡◌, ℕ, zero, suc, List, [], ◌∷◌, Some, map, sym, ap, ◌∙◌, length, slice_get, refl}
use Rattle.argos_base.specs.Names.{Spelled}
use Rattle.argos_base.specs.SignalSets.{SignalSet}
use Rattle.argos_core.specs.Overlaps.{IsGood}
use Rattle.argos_core.specs.Process.{PlainModule}
use Rattle.argos_core.specs.Reactions.{IsTrace, HasOneTrace}
use Rattle.argos_core.proofs.OneTrace.{has_one_trace}
use Rattle.argos_examples.specs.Traces.{Instant, named, Gives}

length-named : (names : List Spelled) (present : Instant) → length (named names present) ≡ length names
length-named [] present = refl
length-named (n ∷ names) present = ap suc (length-named names present)

are_inputs : (names : List Spelled) (inputs : List Instant) (k : ℕ) (i : SignalSet) → slice_get (map (named names) inputs) k ≡ Some i → length i ≡ length names
are_inputs names [] k i at = cc
are_inputs names (x ∷ inputs) zero i at = let same : named names x ≡ i = cc in ap length (sym same) ∙ length-named names x
are_inputs names (x ∷ inputs) (suc k) i at = are_inputs names inputs k i at

pub gives : (P : PlainModule) (inputs outputs : List Instant) → IsGood P → IsTrace P (map (named P.inputs) inputs) (map (named P.outputs) outputs) → Gives P inputs outputs
gives P inputs outputs good is =
    let one : HasOneTrace P (map (named P.inputs) inputs) = has_one_trace P (map (named P.inputs) inputs) good (are_inputs P.inputs inputs) in
    record { is = is; only = λ others t. one.only others t ∙ sym (one.only (map (named P.outputs) outputs) is) }
