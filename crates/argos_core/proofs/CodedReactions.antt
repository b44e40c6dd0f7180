-- Reactions between configurations and reactions between their codes.
use Rattle.std.proofs.Common.{ℕ, List, refl, sym, ap, ◌∙◌, subst}
use Rattle.argos_base.specs.Machines.{ReactsOnce}
use Rattle.argos_base.specs.SignalSets.{SignalSet}
use Rattle.argos_core.specs.Codes.{code_of}
use Rattle.argos_core.specs.Configurations.{IsConfiguration}
use Rattle.argos_core.specs.FirstBad.{ReactsCoded}
use Rattle.argos_core.specs.Modules.{IsShaped}
use Rattle.argos_core.specs.Process.{Configuration, PlainModule}
use Rattle.argos_core.specs.Reactions.{signal_count, valuation, Reacts, HasOneReaction}
use Rattle.argos_core.proofs.CodesDiffer.{same_code}
use Rattle.argos_core.proofs.StepsStay.{step_stays}

reaction_stays : (P : PlainModule) (c : Configuration) (i o : SignalSet) (c' : Configuration) → IsShaped P.process → IsConfiguration P.process c → Reacts P c i o c' → IsConfiguration P.process c'
reaction_stays P c i o c' shaped is r = step_stays P.process (signal_count P) c (valuation P i) r.emitted c' shaped is r.step

encoded : (P : PlainModule) (c : Configuration) (i o : SignalSet) (c' : Configuration) → IsConfiguration P.process c → Reacts P c i o c' → ReactsCoded P (code_of P.process c) i o (code_of P.process c')
encoded P c i o c' is r = record { configuration = c; is = is; from = refl; next = c'; reacts = r; to = refl }

decoded : (P : PlainModule) (c : Configuration) (i o : SignalSet) (m' : List ℕ) → IsConfiguration P.process c → (r : ReactsCoded P (code_of P.process c) i o m') → Reacts P c i o r.next
decoded P c i o m' is r = subst (λ d. Reacts P d i o r.next) (same_code P.process r.configuration c r.is is r.from) r.reacts

pub once_coded : (P : PlainModule) (c : Configuration) (i : SignalSet) → IsConfiguration P.process c → HasOneReaction P c i → ReactsOnce (ReactsCoded P) (code_of P.process c) i
once_coded P c i is one = record {
  reaction = record { outputs = one.outputs; next = code_of P.process one.next };
  reacts = encoded P c i one.outputs one.next is one.reacts;
  only = λ o m' r. let s = one.only o r.next (decoded P c i o m' is r) in (s.0, sym r.to ∙ ap (code_of P.process) s.1);
}

pub once_decoded : (P : PlainModule) (c : Configuration) (i : SignalSet) → IsShaped P.process → IsConfiguration P.process c → ReactsOnce (ReactsCoded P) (code_of P.process c) i → HasOneReaction P c i
once_decoded P c i shaped is once =
    let reacts : Reacts P c i once.reaction.outputs once.reacts.next = decoded P c i once.reaction.outputs once.reaction.next is once.reacts in
    record {
      outputs = once.reaction.outputs;
      next = once.reacts.next;
      reacts = reacts;
      only = λ o c' r.
          let s = once.only o (code_of P.process c') (encoded P c i o c' is r) in
          (s.0, same_code P.process c' once.reacts.next (reaction_stays P c i o c' shaped is r) (reaction_stays P c i once.reaction.outputs once.reacts.next shaped is reacts) (s.1 ∙ sym once.reacts.to));
    }
