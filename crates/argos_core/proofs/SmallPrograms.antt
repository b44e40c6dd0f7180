-- The programs of the tests are shaped.
use Rattle.std.proofs.Common.{◌≡◌, List, [], ◌∷◌, Some, None, ap, sym, ◌∙◌, Vec, map, arith}
use Rattle.std.specs.declared.alloc.Global.{Global}
use Rattle.argos_core.specs.Process.{Timeout, Process, automaton, parallel, no_states, state, no_body, body}
use Rattle.argos_core.specs.SmallPrograms.{IsPlain, IsSmall}
use Rattle.argos_core.specs.Views.{OneState, process_of, processes_of, state_of, states_of, process_layer, automaton_layer, state_layer}
use Rattle.argos_core.specs.declared.prog.Prog.{Prog, fold-roll-Prog}
use Rattle.argos_core.specs.declared.prog.Prog.TheVariants as made
use Rattle.argos_core.specs.declared.prog.Prog.TheOpen.{Prog-F}
use Rattle.argos_core.specs.declared.prog.State.{State}

-- an automaton of one plain state, and one of two
pub one_state : (i : OneState) → IsPlain i None no_body → IsSmall 1 (automaton (state i.rules i.body no_states) 0)
one_state i h = record { shaped = rw (h.transitions, h.timeout_is, h.body_is) (omega arith, omega arith, (tt, tt, tt, tt)); few = rw h.body_is (omega arith) }

pub refined_state : (p q : OneState) (z : Process) → IsPlain p None (body z) → IsPlain q None no_body → IsSmall 1 z → IsSmall 2 (automaton (state p.rules p.body (state q.rules q.body no_states)) 0)
refined_state p q z h k small = record {
  shaped = rw (h.transitions, h.timeout_is, h.body_is, k.transitions, k.timeout_is, k.body_is) (omega arith, omega arith, (tt, tt, small.shaped, (tt, tt, tt, tt)));
  few = rw (h.body_is, k.body_is) (omega (arith, small.few));
}

pub timed_state : (p q : OneState) (w : Timeout) → w.count ≡ 3 → w.target ≡ 1 → IsPlain p (Some w) no_body → IsPlain q None no_body → IsSmall 1 (automaton (state p.rules p.body (state q.rules q.body no_states)) 0)
timed_state p q w three one h k = record {
  shaped = rw (h.transitions, h.timeout_is, h.body_is, k.transitions, k.timeout_is, k.body_is) (omega arith, omega arith, (tt, (omega arith, omega arith), tt, (tt, tt, tt, tt)));
  few = rw (h.body_is, k.body_is) (omega arith);
}

-- the same of what the code makes
states_are : (x : Prog) (ss ts : List State) → process_of x ≡ automaton (states_of (map state_of ss)) 0 → ss ≡ ts → process_of x ≡ automaton (states_of (map state_of ts)) 0
states_are x ss ts e s = e ∙ ap (λ (l : List State). automaton (states_of (map state_of l)) 0) s

pub refined_is : (outer inside : Prog) (p q i : State) (ss is : List State) → process_of outer ≡ automaton (states_of (map state_of ss)) 0 → ss ≡ p ∷ q ∷ [] → process_of inside ≡ automaton (states_of (map state_of is)) 0 → is ≡ i ∷ []
    → IsPlain (state_of p) None (body (process_of inside)) → IsPlain (state_of q) None no_body → IsPlain (state_of i) None no_body → IsSmall 2 (process_of outer)
refined_is outer inside p q i ss is e s f r h k l =
    rw (states_are outer ss (p ∷ q ∷ []) e s) (refined_state (state_of p) (state_of q) (process_of inside) h k (rw (states_are inside is (i ∷ []) f r) (one_state (state_of i) l)))

process_of-Par : (ps : Vec Prog Global) → process_of (made.Par ps) ≡ parallel (processes_of (map process_of ps.items))
process_of-Par ps = ap process_of (sym (made.rolls-Par ps)) ∙ fold-roll-Prog Process Process OneState process_layer automaton_layer state_layer (Prog-F.Par ps)

pub timed_is : (ps : Vec Prog Global) (waiting refined : Prog) (p q : State) (ss : List State) (w : Timeout) → ps.items ≡ waiting ∷ refined ∷ [] → process_of waiting ≡ automaton (states_of (map state_of ss)) 0 → ss ≡ p ∷ q ∷ []
    → w.count ≡ 3 → w.target ≡ 1 → IsPlain (state_of p) (Some w) no_body → IsPlain (state_of q) None no_body → IsSmall 2 (process_of refined) → IsSmall 3 (process_of (made.Par ps))
timed_is ps waiting refined p q ss w items e s three one h k small =
    let x : IsSmall 1 (process_of waiting) = rw (states_are waiting ss (p ∷ q ∷ []) e s) (timed_state (state_of p) (state_of q) w three one h k) in
    rw (process_of-Par ps, items) (record { shaped = (omega arith, (x.shaped, (small.shaped, tt))); few = omega (arith, x.few, small.few) })
