-- The verdict on a program.
use Rattle.std.proofs.Common.{◌≡◌, ◌↔◌, ℕ, List, [], ◌∷◌, length, refl, sym, ◌∙◌, subst}
use Rattle.argos_base.specs.Machines.{Machine, Fault, no_reaction, several, IsFaultOf, ReactsOnce, AlwaysReactsOnce, IsFirstBadOf}
use Rattle.argos_base.specs.Runs.{Follows}
use Rattle.argos_base.specs.SignalSets.{SignalSet}
use Rattle.argos_core.specs.Codes.{code_of, IsStructural}
use Rattle.argos_core.specs.Configurations.{IsConfiguration, initial_configuration}
use Rattle.argos_core.specs.FirstBad.{ReactsCoded}
use Rattle.argos_core.specs.Layouts.{layout_of, FitsLayout}
use Rattle.argos_core.specs.Modules.{IsShaped}
use Rattle.argos_core.specs.Process.{Configuration, PlainModule}
use Rattle.argos_core.specs.Reactions.{input_count, signal_count, valuation, Reacts, AlwaysHasOneReaction}
use Rattle.argos_core.proofs.CodedReactions.{once_coded, once_decoded}
use Rattle.argos_core.proofs.CodesDiffer.{same_code, length-code_of}
use Rattle.argos_core.proofs.StepsStay.{initial_is, step_stays}
use Rattle.argos_core.proofs.FittingMemories.{fitting_is_structural}
use Rattle.argos_core.proofs.StructuralFits.{structural_fits}
use Rattle.eqn_core.specs.Equations.{Equations}
use Rattle.eqn_core.specs.Solutions.{SystemReacts}
use Rattle.eqn_completion.proofs.Acyclic.{acyclic_react_once}
use Rattle.eqn_verdict.specs.Programs.{ReactsAs, OneIsOne, FirstBadIsFirstBad, RunsAreTraces, SolvedAreSystems, AcyclicAreGood, LayoutsAreSized}

module _ (R S : Machine) (m : List ℕ) (i : SignalSet) (same : (o : SignalSet) (n : List ℕ) → (R m i o n) ↔ (S m i o n)) where
  once_moves : ReactsOnce R m i → ReactsOnce S m i
  once_moves h = record { reaction = h.reaction; reacts = (same h.reaction.outputs h.reaction.next).0 h.reacts; only = λ o n r. h.only o n ((same o n).1 r) }

  fault_moves : (f : Fault) → IsFaultOf R m i f → IsFaultOf S m i f
  fault_moves no_reaction h = λ o n r. h o n ((same o n).1 r)
  fault_moves (several a b) h = ((same a.outputs a.next).0 h.0, (same b.outputs b.next).0 h.1, h.2, λ r s. h.3 r ((same r.outputs r.next).1 s))

turned : (R S : Machine) (m : List ℕ) (i : SignalSet) → ((o : SignalSet) (n : List ℕ) → (R m i o n) ↔ (S m i o n)) → (o : SignalSet) (n : List ℕ) → (S m i o n) ↔ (R m i o n)
turned R S m i same o n = ((same o n).1, (same o n).0)

first_moves : (M N : List ℕ → Type 0) (k l : ℕ) (R S : Machine) (m : List ℕ) (i : SignalSet) (f : Fault) → k ≡ l → ((n : List ℕ) → (M n) ↔ (N n)) → ((n : List ℕ) (j o : SignalSet) (n' : List ℕ) → N n → (R n j o n') ↔ (S n j o n')) → IsFirstBadOf M k R m i f → IsFirstBadOf N l S m i f
first_moves M N k l R S m i f e memories same h =
    let here = (memories m).0 h.memory in
    record {
      memory = here;
      input = h.input ∙ e;
      fault = fault_moves R S m i (λ o n. same m i o n here) f h.fault;
      first = λ n j is sized earlier. once_moves R S n j (λ o n'. same n j o n' is) (h.first n j ((memories n).1 is) (sized ∙ sym e) earlier);
    }

pub first_bad_is_first_bad : FirstBadIsFirstBad
first_bad_is_first_bad P E m i f system = (
  first_moves (FitsLayout (layout_of P.process)) (IsStructural P.process) E.inputs (input_count P) (SystemReacts E) (ReactsCoded P) m i f system.inputs
      (λ n. (fitting_is_structural P.process n, structural_fits P.process n)) (λ n j o n' is. system.reacts n j o n' is),
  first_moves (IsStructural P.process) (FitsLayout (layout_of P.process)) (input_count P) E.inputs (ReactsCoded P) (SystemReacts E) m i f (sym system.inputs)
      (λ n. (structural_fits P.process n, fitting_is_structural P.process n)) (λ n j o n' is. let r = system.reacts n j o n' (fitting_is_structural P.process n is) in (r.1, r.0)),
)

pub one_is_one : OneIsOne
one_is_one P E shaped system = (there, back)
  where
    there : AlwaysReactsOnce (FitsLayout (layout_of P.process)) E.inputs (SystemReacts E) → AlwaysHasOneReaction P
    there h = λ c i is sized.
        let m = code_of P.process c in
        let st : IsStructural P.process m = record { configuration = c; is = is; code = refl } in
        once_decoded P c i shaped is (once_moves (SystemReacts E) (ReactsCoded P) m i (λ o n. system.reacts m i o n st) (h m i (structural_fits P.process m st) (sized ∙ sym system.inputs)))

    back : AlwaysHasOneReaction P → AlwaysReactsOnce (FitsLayout (layout_of P.process)) E.inputs (SystemReacts E)
    back h = λ m i fit sized.
        let st : IsStructural P.process m = fitting_is_structural P.process m fit in
        let c = st.configuration in
        let once : ReactsOnce (ReactsCoded P) (code_of P.process c) i = once_coded P c i st.is (h c i st.is (sized ∙ system.inputs)) in
        let at : ReactsOnce (ReactsCoded P) m i = subst (λ (k : List ℕ). ReactsOnce (ReactsCoded P) k i) st.code once in
        once_moves (ReactsCoded P) (SystemReacts E) m i (λ o n. let r = system.reacts m i o n st in (r.1, r.0)) at

-- from a configuration and its code
module _ (P : PlainModule) (E : Equations) (shaped : IsShaped P.process) (system : ReactsAs P E) where
  structural : (c : Configuration) → IsConfiguration P.process c → IsStructural P.process (code_of P.process c)
  structural c is = record { configuration = c; is = is; code = refl }

  runs_trace : (inputs outputs : List SignalSet) (memories : List (List ℕ)) (c : Configuration) → IsConfiguration P.process c → Follows (SystemReacts E) (code_of P.process c) inputs outputs memories → (cs : List Configuration) × Follows (Reacts P) c inputs outputs cs
  runs_trace [] [] [] c is h = ([], tt)
  runs_trace [] [] (n ∷ memories) c is h = absurd h
  runs_trace [] (o ∷ outputs) memories c is h = absurd h
  runs_trace (i ∷ inputs) [] memories c is h = absurd h
  runs_trace (i ∷ inputs) (o ∷ outputs) [] c is h = absurd h
  runs_trace (i ∷ inputs) (o ∷ outputs) (n ∷ memories) c is h =
      let r : ReactsCoded P (code_of P.process c) i o n = (system (code_of P.process c) i o n (structural c is)).0 h.0 in
      let same : r.configuration ≡ c = same_code P.process r.configuration c r.is is r.from in
      let reacts : Reacts P c i o r.next = subst (λ (d : Configuration). Reacts P d i o r.next) same r.reacts in
      let next : IsConfiguration P.process r.next = step_stays P.process (signal_count P) c (valuation P i) reacts.emitted r.next shaped is reacts.step in
      let rest = runs_trace inputs outputs memories r.next next (subst (λ (m : List ℕ). Follows (SystemReacts E) m inputs outputs memories) (sym r.to) h.1) in
      (r.next ∷ rest.0, (reacts, rest.1))

  trace_runs : (inputs outputs : List SignalSet) (cs : List Configuration) (c : Configuration) → IsConfiguration P.process c → Follows (Reacts P) c inputs outputs cs → (memories : List (List ℕ)) × Follows (SystemReacts E) (code_of P.process c) inputs outputs memories
  trace_runs [] [] [] c is h = ([], tt)
  trace_runs [] [] (d ∷ cs) c is h = absurd h
  trace_runs [] (o ∷ outputs) cs c is h = absurd h
  trace_runs (i ∷ inputs) [] cs c is h = absurd h
  trace_runs (i ∷ inputs) (o ∷ outputs) [] c is h = absurd h
  trace_runs (i ∷ inputs) (o ∷ outputs) (d ∷ cs) c is h =
      let coded : ReactsCoded P (code_of P.process c) i o (code_of P.process d) = record { configuration = c; is = is; from = refl; next = d; reacts = h.0; to = refl } in
      let next : IsConfiguration P.process d = step_stays P.process (signal_count P) c (valuation P i) h.0.emitted d shaped is h.0.step in
      let rest = trace_runs inputs outputs cs d next h.1 in
      (code_of P.process d ∷ rest.0, ((system (code_of P.process c) i o (code_of P.process d) (structural c is)).1 coded, rest.1))

pub runs_are_traces : RunsAreTraces
runs_are_traces P E inputs outputs shaped system initial =
    let c = initial_configuration P.process in
    let is = initial_is P.process shaped in (
      λ h. runs_trace P E shaped system inputs outputs h.0 c is (subst (λ (m : List ℕ). Follows (SystemReacts E) m inputs outputs h.0) initial h.1),
      λ h. let r = trace_runs P E shaped system inputs outputs h.0 c is h.1 in (r.0, subst (λ (m : List ℕ). Follows (SystemReacts E) m inputs outputs r.0) (sym initial) r.1),
    )

pub solved_are_systems : SolvedAreSystems
solved_are_systems P E F system inputs once same = record { inputs = inputs ∙ system.inputs; reacts = λ m i o n is. (there m i o n is, back m i o n is) }
  where
    here : (m : List ℕ) (i : SignalSet) → IsStructural P.process m → length i ≡ E.inputs → (o : SignalSet) (n : List ℕ) → (SystemReacts F m i o n) ↔ (SystemReacts E m i o n)
    here m i is sized = let fit = structural_fits P.process m is in same m i fit sized (once m i fit sized)

    there : (m : List ℕ) (i o : SignalSet) (n : List ℕ) → IsStructural P.process m → SystemReacts F m i o n → ReactsCoded P m i o n
    there m i o n is r = (system.reacts m i o n is).0 ((here m i is (r.solves.input ∙ inputs) o n).0 r)

    back : (m : List ℕ) (i o : SignalSet) (n : List ℕ) → IsStructural P.process m → ReactsCoded P m i o n → SystemReacts F m i o n
    back m i o n is r = let e = (system.reacts m i o n is).1 r in (here m i is e.solves.input o n).1 e

pub layouts_are_sized : LayoutsAreSized
layouts_are_sized p shaped =
    let c = initial_configuration p in
    let is : IsConfiguration p c = initial_is p shaped in
    let fit = structural_fits p (code_of p c) (record { configuration = c; is = is; code = refl }) in
    sym fit.sized ∙ length-code_of p c is

pub acyclic_are_good : AcyclicAreGood
acyclic_are_good P E order shaped system registers plan = (one_is_one P E shaped system).0 (λ m i fit sized. acyclic_react_once E order plan m i (fit.sized ∙ layouts_are_sized P.process shaped ∙ sym registers) sized)
