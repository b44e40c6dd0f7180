-- The laws of solving.
use Rattle.std.proofs.Common.{◌≡◌, ℕ, List, ◌++◌, true, sym, ap, ◌∙◌, inl, inr, subst, arith, length}
use Rattle.std.proofs.lemmas.List.{length-map}
use Rattle.argos_base.specs.Machines.{ReactsOnce}
use Rattle.argos_base.specs.Orders.{IsEarlier, digits}
use Rattle.argos_base.specs.SignalSets.{SignalSet}
use Rattle.eqn_core.specs.Equations.{registers}
use Rattle.eqn_core.specs.Solutions.{bit_of, SystemReacts}
use Rattle.eqn_core.proofs.Once.{reacts_once}
use Rattle.eqn_completion.specs.Binary.{in_binary}
use Rattle.eqn_completion.specs.Completions.{IsConsistent, HasOneCompletion}
use Rattle.eqn_verdict.specs.Laws.{LeastIsChosen, SolvedAreOrdered, SolvedReact, SolvedAreSmall}
use Rattle.eqn_verdict.specs.Searching.{some, least}
use Rattle.eqn_verdict.specs.Solved.{solved_system}
use Rattle.eqn_completion.proofs.Completing.{completes_once, solutions_complete}
use Rattle.eqn_completion.proofs.Ordering.{length-fits, not_both, not_itself}
use Rattle.eqn_verdict.proofs.Searches.{least-passes, least-first}
use Rattle.eqn_verdict.proofs.SolvedBounds.{few-lines, small-weight}
use Rattle.eqn_verdict.proofs.SolvedOrder.{solved-ordered}
use Rattle.eqn_verdict.proofs.SolvedReactions.{solved_reacts}
use Rattle.eqn_verdict.proofs.Verdict.{here_some}

pub least_is_chosen : LeastIsChosen
least_is_chosen E order cyclic layout widths structural consistent results plan shapes wide found m i fits b somewhere =
    let c = length cyclic in
    let p : SignalSet = in_binary widths m ++ i in
    let x = least c (consistent p) in
    let pass = least-passes c (consistent p) somewhere in
    let m-sized : length m ≡ registers E = length-fits widths m fits ∙ wide.sized ∙ shapes in
    let one : HasOneCompletion E cyclic m i x = completes_once E order cyclic m i x plan m-sized b pass.0 in
    let agrees : IsConsistent cyclic x one.values = (found.consistent_is m i x one.values fits b pass.0 one.is).0 pass.1 in
    record {
      is = record { values = one.values; solves = (solutions_complete E cyclic m i one.values m-sized b).1 (x, (one.is, agrees)); chosen_is = sym agrees };
      first = λ other h earlier.
          let done = (solutions_complete E cyclic m i h.values m-sized b).0 h.solves in
          let y = done.0 in
          let y-sized : length y ≡ c = ap length (sym done.1.1) ∙ length-map cyclic (bit_of h.values) in
          let passes : consistent p y ≡ true = (found.consistent_is m i y h.values fits b y-sized done.1.0).1 done.1.1 in
          let same : other ≡ y = h.chosen_is ∙ done.1.1 in
          let early : IsEarlier (digits y) (digits x) = subst (λ (z : SignalSet). IsEarlier (digits z) (digits x)) same earlier in
          elim (least-first c (consistent p) y y-sized passes) [
            | inl e ↦ not_itself (digits x) (subst (λ (z : SignalSet). IsEarlier (digits z) (digits x)) e early)
            | inr later ↦ not_both (digits x) (digits y) later early
          ];
    }

pub solved_are_ordered : SolvedAreOrdered
solved_are_ordered E order cyclic widths ns roots orderable plan sized few in_turn references count some codes lines = solved-ordered E order cyclic widths ns roots orderable plan (omega arith) few in_turn references count some codes lines

pub solved_react : SolvedReact
solved_react E order cyclic layout widths structural consistent results ns roots orderable plan shapes wide found diagrams ordered m i fit b once o n = (there, back)
  where
    somewhere : some (length cyclic) (consistent (in_binary widths m ++ i)) ≡ true
    somewhere = here_some E order cyclic layout widths structural consistent results orderable plan shapes wide found m i (wide.enough m fit) b once

    there : SystemReacts (solved_system E order cyclic widths ns roots) m i o n → SystemReacts E m i o n
    there = solved_reacts E order cyclic layout widths structural consistent results ns roots orderable plan shapes wide found diagrams m i fit b once somewhere o n

    back : SystemReacts E m i o n → SystemReacts (solved_system E order cyclic widths ns roots) m i o n
    back r =
        let F = solved_system E order cyclic widths ns roots in
        let mine : ReactsOnce (SystemReacts F) m i = reacts_once F ordered m i (length-fits widths m (wide.enough m fit) ∙ wide.sized ∙ shapes) b in
        let theirs = solved_reacts E order cyclic layout widths structural consistent results ns roots orderable plan shapes wide found diagrams m i fit b once somewhere mine.reaction.outputs mine.reaction.next mine.reacts in
        let a = once.only o n r in
        let c = once.only mine.reaction.outputs mine.reaction.next theirs in
        subst (λ (z : SignalSet). SystemReacts F m i z n) (c.0 ∙ sym a.0) (subst (λ (z : List ℕ). SystemReacts F m i mine.reaction.outputs z) (c.1 ∙ sym a.1) mine.reacts)

pub solved_are_small : SolvedAreSmall
solved_are_small E order cyclic widths ns roots plan count = (let r = few-lines E order cyclic widths ns roots plan in omega arith, let r = small-weight E order cyclic widths ns roots plan in omega arith)
