-- Samples are acceptable, none of their locals depends on itself, and they are refused only where memory ends.
use Rattle.std.proofs.Common.{◌≡◌, ℕ, ◌≤◌, List, [], ◌∷◌, Bool, true, cond, nat_eq, filter, length, inl, inr, refl, ap, ◌∙◌, arith}
use Rattle.std.specs.List.{range_with_len}
use Rattle.std.proofs.lemmas.Bool.Decides.{nat_tests}
use Rattle.argos_base.specs.Limits.{sample_limit}
use Rattle.argos_base.specs.Machines.{Fault}
use Rattle.argos_base.specs.SignalSets.{SignalSet, lists}
use Rattle.argos_base.proofs.Bools.{true_or_false, or_left, or_right}
use Rattle.argos_verdict.specs.Answers.{IsRefused}
use Rattle.argos_verdict.specs.Jobs.{AreCyclicSignals, FitsReactions, IsStopped}
use Rattle.argos_verdict.specs.Judgements.{IsAcceptable, IsBadCase}
use Rattle.argos_verdict.specs.Laws.{Decision, IsDecision, accepted, overlap, bad_case, too_wide}
use Rattle.argos_verdict.specs.declared.judging.AcceptError.{AcceptError}
use Rattle.argos_verdict.specs.declared.judging.AcceptError.TheVariants.{Overlap, NoReaction, Several, Variables, Budget, OutOfMemory}
use Rattle.argos_verdict.proofs.OneDecision.{one_decision}
use Rattle.dd_core.specs.Arenas.{ArenaView}
use Rattle.argos_sample.specs.Laws.{SamplesAreGood}
use Rattle.argos_sample.specs.SampleModule.{sample_module}
use Rattle.argos_sample.proofs.GoodCycles.{no_cyclic}
use Rattle.argos_scope.proofs.LocalsInOrder.{range-lists}
use Rattle.argos_sample.proofs.GoodModule.{sample_is_module}
use Rattle.argos_sample.proofs.GoodReacting.{sample_is_good, sample_is_clear}
use Rattle.argos_sample.proofs.GoodStates.{no_two}

filter_none : (test : ℕ → Bool) (xs : List ℕ) → ((k : ℕ) → lists xs k ≡ true → test k ≡ true → ⊥) → filter test xs ≡ []
filter_none test [] none = refl
filter_none test (x ∷ xs) none =
    let itself : nat_eq x x ≡ true = grind (arith, nat_tests) in
    elim (true_or_false (test x)) [
      | inl t ↦ absurd (none x (or_left (nat_eq x x) (lists xs x) itself) t)
      | inr f ↦ (
          ap (λ (b : Bool). cond b (x ∷ filter test xs) (filter test xs)) f
          ∙ filter_none test xs (λ k l. none k (or_right (nat_eq x k) (lists xs k) l))
          )
    ]

-- there is no job on reactions
no_cyclic_signals : (n : ℕ) (cyclic : List ℕ) → 1 ≤ n → AreCyclicSignals (sample_module n) cyclic → length cyclic ≡ 0
no_cyclic_signals n cyclic some are = ap length are.is ∙ ap length (filter_none are.test locals none)
  where
    locals : List ℕ
    locals = range_with_len 2 (length (sample_module n).locals)

    none : (k : ℕ) → lists locals k ≡ true → are.test k ≡ true → ⊥
    none k listed t =
        let r = range-lists 2 (length (sample_module n).locals) k listed in
        no_cyclic n k some ((are.exact k r.0 r.1).0 t)

sample_fits : (n : ℕ) → 1 ≤ n → FitsReactions (sample_module n)
sample_fits n some cyclic are more = let none = no_cyclic_signals n cyclic some are in absurd (omega arith)

sample_is_acceptable : (n : ℕ) → 1 ≤ n → n ≤ sample_limit → IsAcceptable (sample_module n)
sample_is_acceptable n some few = record {
  good = sample_is_good n some few;
  clear = sample_is_clear n some;
  fits = sample_fits n some;
}

pub samples_good : SamplesAreGood
samples_good n some few = record { acceptable = sample_is_acceptable n some few; acyclic = λ c. no_cyclic n c.0 some c.1 }

-- no job stops, since there is none
never_stopped : {A : Type 0} (n budget : ℕ) (arena : ArenaView) → 1 ≤ n → IsStopped (sample_module n) budget arena → A
never_stopped n budget arena some (inl s) =
    let d = s.differ in
    absurd (no_two n s.register s.number d.x d.y s.rules d.second some s.reached.state d.order d.second_at)
never_stopped n budget arena some (inr s) =
    let none = no_cyclic_signals n s.cyclic some s.are in
    let more = s.some in
    absurd (omega arith)

-- and nothing else is decided of a module that is acceptable
only_accepted : (n : ℕ) → 1 ≤ n → n ≤ sample_limit → (d : Decision) → IsDecision (sample_module n) d → accepted ≡ d
only_accepted n some few d h =
    one_decision (sample_module n) accepted d (sample_is_module n some few) (sample_is_acceptable n some few) h

never_bad : {A : Type 0} {m : List ℕ} {i : SignalSet} {f : Fault} (n : ℕ) → 1 ≤ n → n ≤ sample_limit
    → IsBadCase (sample_module n) m i f → A
never_bad {A} {m} {i} {f} n some few h = let same = only_accepted n some few (bad_case m i f) h in cc

pub sample_is_not_refused : (n : ℕ) → 1 ≤ n → n ≤ sample_limit → (budget : ℕ) (e : AcceptError)
    → IsRefused (sample_module n) budget e → e ≡ OutOfMemory
sample_is_not_refused n some few budget (Overlap r q x y S) h =
    let same = only_accepted n some few (overlap r.0 q x y S) h in cc
sample_is_not_refused n some few budget (NoReaction memory input) h = never_bad n some few h
sample_is_not_refused n some few budget (Several memory input first second) h = never_bad n some few h
sample_is_not_refused n some few budget (Variables v) h = let same = only_accepted n some few (too_wide v) h in cc
sample_is_not_refused n some few budget (Budget arena) h = never_stopped n budget arena some h
sample_is_not_refused n some few budget OutOfMemory h = refl
