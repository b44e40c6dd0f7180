-- Of two programs and a formula one thing is said, and it can't be that nothing is.
use Rattle.std.proofs.Common.{List, ap, arith, inl, inr, ◌⊎◌, refl, subst, sym, ℕ, zero, suc, ◌∙◌, ◌≡◌, ◌<◌, ◌≤◌, false, true}
use Rattle.std.proofs.Math.Logic.{∥∥₁_elim}
use Rattle.std.proofs.Props.{props}
use Rattle.argos_core.specs.Overlaps.{IsGood}
use Rattle.argos_load.specs.EquivFiles.{Comparison, EquivOf}
use Rattle.argos_load.specs.Said.{Answer, Yes, No, Usage, Refused, Said, said}
use Rattle.argos_load.specs.Stages.{gives}
use Rattle.argos_report.specs.Reports.{variables_text}
use Rattle.bisim_check.specs.Found.{FitsJob}
use Rattle.bisim_check.specs.Jobs.{IsJob, job_variables}
use Rattle.bisim_verdict.specs.Bisimulation.{EquivAnswer, accept, interfaces, start, outputs, leaves, IsEquivAnswer}
use Rattle.bisim_verdict.proofs.OneAnswer.{one_is_due}
use Rattle.bisim_verdict.proofs.SomeAnswer.{some_is_due}
use Rattle.argos_top.specs.Equivalence.{Compared, answered, too_wide, said_of}
use Rattle.argos_top.proofs.Equivalences.{given_compared}
use Rattle.argos_top.proofs.Given.{given}
use Rattle.argos_top.proofs.Stages.{IsOne}

-- both programs are good
pub record AreBothGood (x : Comparison) : Type 0 where
  pub left : IsGood x.left
  pub right : IsGood x.right

pub both_good : (files : List ℕ → List ℕ) (left right cert : List ℕ) (x : Comparison) → EquivOf files left right cert (gives x) → AreBothGood x
both_good files left right cert x h =
    let g = given_compared files left right cert x h in
    record { left = (given 1 (files left) x.left g.left_is).acceptable.good; right = (given 2 (files right) x.right g.right_is).acceptable.good }

-- what is said is told by numbers, so that there is one proof that two are the same

abbrev number_of : Answer → ℕ
number_of Yes = 0
number_of No = 1
number_of Usage = 2
number_of Refused = 3

same_answer : (a b : Answer) → number_of a ≡ number_of b → a ≡ b
same_answer Yes Yes e = refl
same_answer No No e = refl
same_answer Usage Usage e = refl
same_answer Refused Refused e = refl
same_answer Yes No e = absurd (omega (arith, e))
same_answer Yes Usage e = absurd (omega (arith, e))
same_answer Yes Refused e = absurd (omega (arith, e))
same_answer No Yes e = absurd (omega (arith, e))
same_answer No Usage e = absurd (omega (arith, e))
same_answer No Refused e = absurd (omega (arith, e))
same_answer Usage Yes e = absurd (omega (arith, e))
same_answer Usage No e = absurd (omega (arith, e))
same_answer Usage Refused e = absurd (omega (arith, e))
same_answer Refused Yes e = absurd (omega (arith, e))
same_answer Refused No e = absurd (omega (arith, e))
same_answer Refused Usage e = absurd (omega (arith, e))

same_said : (s t : Said) → number_of s.answer ≡ number_of t.answer → s.bytes ≡ t.bytes → s ≡ t
same_said s t e b = ap (λ a. said a s.bytes) (same_answer s.answer t.answer e) ∙ ap (said t.answer) b

-- an answer that needs a job, where there is one, and one that needs none otherwise
wide_answer : (x : Comparison) (a : EquivAnswer) → IsEquivAnswer x.formula x.left x.right a → FitsJob x.left x.right a → IsJob x.formula x.left x.right → 1024 < job_variables x.left x.right → ⊥
wide_answer x (interfaces name) h fits job many = let e : true ≡ false = sym (job.same h.place name h.at) ∙ h.foreign in cc
wide_answer x start h fits job many = h.1 job.started
wide_answer x (outputs m n i name) h fits job many = omega (arith, fits, many)
wide_answer x (leaves m n i) h fits job many = omega (arith, fits, many)
wide_answer x accept h fits job many = omega (arith, fits, many)

pub compared_one : (x : Comparison) → AreBothGood x → IsOne (Compared x)
compared_one x g s t (answered a h fits) (answered b k fits') =
    let same : IsEquivAnswer x.formula x.left x.right a → IsEquivAnswer x.formula x.left x.right b → a ≡ b = λ h k. one_is_due x.formula x.left x.right a b g.left g.right h k in
    same_said s t
    (∥∥₁_elim h (hlevel props) (λ h. ∥∥₁_elim k (hlevel props) (λ k. ap (λ c. number_of (said_of x.left x.right c).answer) (same h k))))
    (∥∥₁_elim h (hlevel props) (λ h. ∥∥₁_elim k (hlevel props) (λ k. ap (λ c. (said_of x.left x.right c).bytes) (same h k))))
compared_one x g s t (answered a h fits) (too_wide n job is many) = absurd (∥∥₁_elim h (hlevel props) (λ h. ∥∥₁_elim job (hlevel props) (λ j. wide_answer x a h fits j (subst (λ z. 1024 < z) is many))))
compared_one x g s t (too_wide n job is many) (answered a h fits) = absurd (∥∥₁_elim h (hlevel props) (λ h. ∥∥₁_elim job (hlevel props) (λ j. wide_answer x a h fits j (subst (λ z. 1024 < z) is many))))
compared_one x g s t (too_wide n job is many) (too_wide m job' is' many') = ap (λ z. said Refused (variables_text 3 z)) (is ∙ sym is')

-- some answer

within : (k n : ℕ) → (n ≤ k) ⊎ (k < n)
within k zero = inl (omega arith)
within zero (suc n) = inr (omega arith)
within (suc k) (suc n) = elim (within k n) [ inl h ↦ inl (omega arith) | inr h ↦ inr (omega arith) ]

by_width : (x : Comparison) (a : EquivAnswer) → IsEquivAnswer x.formula x.left x.right a → (job_variables x.left x.right ≤ 1024) ⊎ (1024 < job_variables x.left x.right) → (s : Said) × Compared x s
by_width x (interfaces name) h o = (_, answered (interfaces name) ∣ h ∣₁ tt)
by_width x start h o = (_, answered start ∣ h ∣₁ tt)
by_width x (outputs m n i name) h (inl fits) = (_, answered (outputs m n i name) ∣ h ∣₁ fits)
by_width x (outputs m n i name) h (inr many) = (_, too_wide (job_variables x.left x.right) ∣ record { same = h.0; started = h.1 } ∣₁ refl many)
by_width x (leaves m n i) h (inl fits) = (_, answered (leaves m n i) ∣ h ∣₁ fits)
by_width x (leaves m n i) h (inr many) = (_, too_wide (job_variables x.left x.right) ∣ record { same = h.0; started = h.1 } ∣₁ refl many)
by_width x accept h (inl fits) = (_, answered accept ∣ h ∣₁ fits)
by_width x accept h (inr many) = (_, too_wide (job_variables x.left x.right) ∣ record { same = h.0; started = h.1.start } ∣₁ refl many)

pub compared_there : (x : Comparison) → AreBothGood x → ((s : Said) → Compared x s → ⊥) → ⊥
compared_there x g none = some_is_due x.formula x.left x.right g.left g.right (λ a h. let c = by_width x a h (within 1024 (job_variables x.left x.right)) in none c.0 c.1)
