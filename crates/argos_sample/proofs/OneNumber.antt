-- How often a sample emits is one number.
use Rattle.std.proofs.Common.{◌≡◌, ap, refl, true, ◌∙◌, sym, subst}
use Rattle.std.specs.Prelude.{ℕ, zero, suc, ◌≤◌, [], ◌∷◌, Some, length, slice_get}
use Rattle.argos_base.specs.Limits.{sample_limit}
use Rattle.argos_base.specs.SignalSets.{SignalSet}
use Rattle.argos_core.specs.Process.{PlainModule}
use Rattle.argos_core.specs.Reactions.{IsTrace, HasOneTrace}
use Rattle.argos_core.proofs.OneTrace.{has_one_trace}
use Rattle.argos_scope.proofs.OneMeaning.{means_once}
use Rattle.argos_sample.specs.Emitted.{present_in, emitted_in, EmitsWithin}
use Rattle.argos_sample.specs.Laws.{OneNumberIsEmitted, SomeNumberIsEmitted}
use Rattle.argos_sample.specs.SampleForm.{sample_program}
use Rattle.argos_sample.specs.SampleModule.{sample_module}
use Rattle.argos_sample.proofs.Good.{samples_good}
use Rattle.argos_sample.proofs.Modules.{samples_mean}

-- each of the input sets has one place
present_sized : (instants k : ℕ) (i : SignalSet) → slice_get (present_in instants) k ≡ Some i → length i ≡ 1
present_sized zero k i h = cc
present_sized (suc n) zero i h = let same : true ∷ [] ≡ i = cc in ap length (sym same)
present_sized (suc n) (suc k) i h = present_sized n k i h

one_trace_of : (n instants : ℕ) → 1 ≤ n → n ≤ sample_limit → HasOneTrace (sample_module n) (present_in instants)
one_trace_of n instants l m = has_one_trace (sample_module n) (present_in instants) (samples_good n l m).acceptable.good (present_sized instants)

-- the outputs of such a trace are those of the sample's module
its_outputs : (n instants j : ℕ) (l : 1 ≤ n) (m : n ≤ sample_limit) (e : EmitsWithin n instants j) → e.outputs ≡ (one_trace_of n instants l m).outputs
its_outputs n instants j l m e =
    let same : e.means ≡ sample_module n = means_once (sample_program n) e.means (sample_module n) e.meant (samples_mean n l m) in
    (one_trace_of n instants l m).only e.outputs (subst (λ (P : PlainModule). IsTrace P (present_in instants) e.outputs) same e.trace)

pub one_number : OneNumberIsEmitted
one_number n instants j k l m a b = a.counted ∙ ap emitted_in (its_outputs n instants j l m a ∙ sym (its_outputs n instants k l m b)) ∙ sym b.counted

pub some_number : SomeNumberIsEmitted
some_number n instants l m =
    let one = one_trace_of n instants l m in
    (emitted_in one.outputs, record { means = sample_module n; meant = samples_mean n l m; outputs = one.outputs; trace = one.is; counted = refl })
