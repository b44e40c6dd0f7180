-- Without cyclic bits there is one reaction.
use Rattle.std.proofs.Common.{◌≡◌, [], refl, sym, ap, ◌∙◌, subst, map}
use Rattle.argos_base.specs.SignalSets.{SignalSet}
use Rattle.eqn_core.specs.Solutions.{Values, bit_of, word_of, Solves}
use Rattle.eqn_completion.specs.Completions.{IsCompletion, HasOneCompletion}
use Rattle.eqn_completion.specs.Laws.{AcyclicReactOnce}
use Rattle.eqn_completion.proofs.Completing.{completes_once, solutions_complete}

pub acyclic_react_once : AcyclicReactOnce
acyclic_react_once E order plan = λ m i a b.
    let one : HasOneCompletion E [] m i [] = completes_once E order [] m i [] plan a b refl in
    let s : Values = one.values in
    let solves : Solves E m i s = (solutions_complete E [] m i s a b).1 ([], (one.is, refl)) in
    record {
      reaction = record { outputs = map (bit_of s) E.outputs; next = map (word_of s) E.next };
      reacts = record { values = s; solves = solves; outputs = refl; next = refl };
      only = λ o n r.
          let done = (solutions_complete E [] m i r.values a b).0 r.solves in
          let empty : done.0 ≡ [] = sym done.1.1 in
          let same : r.values ≡ s = one.only r.values (subst (λ (x : SignalSet). IsCompletion E [] m i x r.values) empty done.1.0) in
          (r.outputs ∙ ap (λ (v : Values). map (bit_of v) E.outputs) same, r.next ∙ ap (λ (v : Values). map (word_of v) E.next) same);
    }
