-- From the text of a sample to its reactions.
use Rattle.std.proofs.Common.{◌≡◌, sym, subst}
use Rattle.std.specs.Prelude.{ℕ, ◌≤◌, List, length}
use Rattle.argos_base.specs.Limits.{sample_limit, text_limit}
use Rattle.argos_compile.specs.Accepting.{IsAccepted}
use Rattle.argos_compile.proofs.Traces.{runs_are_traces}
use Rattle.argos_core.specs.Process.{PlainModule}
use Rattle.argos_scope.specs.Meaning.{Means}
use Rattle.argos_verdict.specs.Answers.{IsRefused}
use Rattle.argos_verdict.specs.declared.judging.AcceptError.{AcceptError}
use Rattle.argos_verdict.specs.declared.judging.AcceptError.TheVariants as errors
use Rattle.eqn_core.specs.Equations.{Equations}
use Rattle.argos_sample.specs.Emitted.{EmitsWithin}
use Rattle.argos_sample.specs.Running.{RunEmits}
use Rattle.argos_sample.specs.SampleForm.{sample_program}
use Rattle.argos_sample.specs.SampleModule.{sample_module}
use Rattle.argos_sample.proofs.Good.{samples_good, sample_is_not_refused}
use Rattle.argos_sample.proofs.Modules.{samples_mean}
use Rattle.argos_sample.proofs.Spans.{samples_are_short}

module _ (n : ℕ) (least : 1 ≤ n) (most : n ≤ sample_limit) (text : List ℕ) (same : text ≡ sample_program n) where
  pub text_is_short : length text ≤ text_limit
  text_is_short = subst (λ (t : List ℕ). length t ≤ text_limit) (sym same) (samples_are_short n most)

  pub text_means : Means text (sample_module n)
  text_means = subst (λ (t : List ℕ). Means t (sample_module n)) (sym same) (samples_mean n least most)

module _ (n : ℕ) (least : 1 ≤ n) (most : n ≤ sample_limit) where
  pub refused_for_memory : (P : PlainModule) (budget : ℕ) (e : AcceptError) → P ≡ sample_module n → IsRefused P budget e → e ≡ errors.OutOfMemory
  refused_for_memory P budget e same h = sample_is_not_refused n least most budget e (subst (λ (Q : PlainModule). IsRefused Q budget e) same h)

  -- what the equations emit the program emits
  pub emits_as_runs : (E : Equations) (lines instants k : ℕ) → IsAccepted (sample_module n) E lines → RunEmits E instants k → EmitsWithin n instants k
  emits_as_runs E lines instants k accepted run =
      let traced = (runs_are_traces (sample_module n) E (samples_good n least most).acceptable.good.program.is accepted.system).runs _ run.outputs run.runs.0 run.runs.1 in
      record {
        means = sample_module n;
        meant = samples_mean n least most;
        outputs = run.outputs;
        trace = (traced.0, traced.1);
        counted = run.counted;
      }
