-- The examples without local signals are good programs, and those with local signals are modules.
use Rattle.std.proofs.Common.{◌≡◌, ℕ, zero, suc, ◌<◌, ◌≤◌, [], ◌∷◌, true, refl, arith, rules}
use Rattle.argos_base.specs.SignalSets.{lists}
use Rattle.argos_core.specs.Modules.{IsModule, times}
use Rattle.argos_core.specs.Overlaps.{IsGood, IsProgram}
use Rattle.argos_core.proofs.OneReaction.{reacts_once}
use Rattle.argos_examples.specs.Toggle.{toggle}
use Rattle.argos_examples.specs.LastInstant.{last_instant}
use Rattle.argos_examples.specs.MutualSupport.{mutual_support}
use Rattle.argos_examples.specs.NoReaction.{no_reaction}
use Rattle.argos_examples.specs.SelfLoop.{self_loop}
use Rattle.argos_examples.specs.Freezing.{freezing}
use Rattle.argos_examples.specs.Timeouts.{timeouts}
use Rattle.argos_examples.specs.TokenRing.{token_ring}
use Rattle.argos_examples.proofs.Single.{no_overlap}

toggle_is_module : IsModule toggle
toggle_is_module = record {
  names = refl;
  shaped = search rules;
  scoped = search rules;
  locals_once = λ k low high. absurd (omega arith);
  locals_alone = λ k listed. cc;
  signals = omega arith;
  automata = omega arith;
  depth = omega arith;
  size = omega arith;
}

toggle_is_program : IsProgram toggle
toggle_is_program = record { is = toggle_is_module; no_overlap = no_overlap toggle refl }

pub toggle_is_good : IsGood toggle
toggle_is_good = record { program = toggle_is_program; one = reacts_once toggle toggle_is_program refl }

last_instant_is_module : IsModule last_instant
last_instant_is_module = record {
  names = refl;
  shaped = search rules;
  scoped = search rules;
  locals_once = λ k low high. absurd (omega arith);
  locals_alone = λ k listed. cc;
  signals = omega arith;
  automata = omega arith;
  depth = omega arith;
  size = omega arith;
}

last_instant_is_program : IsProgram last_instant
last_instant_is_program = record { is = last_instant_is_module; no_overlap = no_overlap last_instant refl }

pub last_instant_is_good : IsGood last_instant
last_instant_is_good = record { program = last_instant_is_program; one = reacts_once last_instant last_instant_is_program refl }

self_loop_is_module : IsModule self_loop
self_loop_is_module = record {
  names = refl;
  shaped = search rules;
  scoped = search rules;
  locals_once = λ k low high. absurd (omega arith);
  locals_alone = λ k listed. cc;
  signals = omega arith;
  automata = omega arith;
  depth = omega arith;
  size = omega arith;
}

self_loop_is_program : IsProgram self_loop
self_loop_is_program = record { is = self_loop_is_module; no_overlap = no_overlap self_loop refl }

pub self_loop_is_good : IsGood self_loop
self_loop_is_good = record { program = self_loop_is_program; one = reacts_once self_loop self_loop_is_program refl }

freezing_is_module : IsModule freezing
freezing_is_module = record {
  names = refl;
  shaped = search rules;
  scoped = search rules;
  locals_once = λ k low high. absurd (omega arith);
  locals_alone = λ k listed. cc;
  signals = omega arith;
  automata = omega arith;
  depth = omega arith;
  size = omega arith;
}

freezing_is_program : IsProgram freezing
freezing_is_program = record { is = freezing_is_module; no_overlap = no_overlap freezing refl }

pub freezing_is_good : IsGood freezing
freezing_is_good = record { program = freezing_is_program; one = reacts_once freezing freezing_is_program refl }

timeouts_is_module : IsModule timeouts
timeouts_is_module = record {
  names = refl;
  shaped = search rules;
  scoped = search rules;
  locals_once = λ k low high. absurd (omega arith);
  locals_alone = λ k listed. cc;
  signals = omega arith;
  automata = omega arith;
  depth = omega arith;
  size = omega arith;
}

timeouts_is_program : IsProgram timeouts
timeouts_is_program = record { is = timeouts_is_module; no_overlap = no_overlap timeouts refl }

pub timeouts_is_good : IsGood timeouts
timeouts_is_good = record { program = timeouts_is_program; one = reacts_once timeouts timeouts_is_program refl }

no_reaction_once : (k : ℕ) → 0 ≤ k → k < 1 → times k (0 ∷ []) ≡ 1
no_reaction_once zero low high = refl
no_reaction_once (suc k) low high = absurd (omega arith)

no_reaction_alone : (k : ℕ) → lists (0 ∷ []) k ≡ true → (0 ≤ k) × (k < 1)
no_reaction_alone zero listed = (omega arith, omega arith)
no_reaction_alone (suc k) listed = grind (arith, listed)

pub no_reaction_is_module : IsModule no_reaction
no_reaction_is_module = record {
  names = refl;
  shaped = search rules;
  scoped = search rules;
  locals_once = no_reaction_once;
  locals_alone = no_reaction_alone;
  signals = omega arith;
  automata = omega arith;
  depth = omega arith;
  size = omega arith;
}

pub no_reaction_is_program : IsProgram no_reaction
no_reaction_is_program = record { is = no_reaction_is_module; no_overlap = no_overlap no_reaction refl }

mutual_support_once : (k : ℕ) → 1 ≤ k → k < 3 → times k (1 ∷ 2 ∷ []) ≡ 1
mutual_support_once zero low high = absurd (omega arith)
mutual_support_once (suc zero) low high = refl
mutual_support_once (suc (suc zero)) low high = refl
mutual_support_once (suc (suc (suc k))) low high = absurd (omega arith)

mutual_support_alone : (k : ℕ) → lists (1 ∷ 2 ∷ []) k ≡ true → (1 ≤ k) × (k < 3)
mutual_support_alone zero listed = cc
mutual_support_alone (suc zero) listed = (omega arith, omega arith)
mutual_support_alone (suc (suc zero)) listed = (omega arith, omega arith)
mutual_support_alone (suc (suc (suc k))) listed = grind (arith, listed)

pub mutual_support_is_module : IsModule mutual_support
mutual_support_is_module = record {
  names = refl;
  shaped = search rules;
  scoped = search rules;
  locals_once = mutual_support_once;
  locals_alone = mutual_support_alone;
  signals = omega arith;
  automata = omega arith;
  depth = omega arith;
  size = omega arith;
}

pub mutual_support_is_program : IsProgram mutual_support
mutual_support_is_program = record { is = mutual_support_is_module; no_overlap = no_overlap mutual_support refl }

token_ring_once : (k : ℕ) → 6 ≤ k → k < 9 → times k (6 ∷ 7 ∷ 8 ∷ []) ≡ 1
token_ring_once zero low high = absurd (omega arith)
token_ring_once (suc zero) low high = absurd (omega arith)
token_ring_once (suc (suc zero)) low high = absurd (omega arith)
token_ring_once (suc (suc (suc zero))) low high = absurd (omega arith)
token_ring_once (suc (suc (suc (suc zero)))) low high = absurd (omega arith)
token_ring_once (suc (suc (suc (suc (suc zero))))) low high = absurd (omega arith)
token_ring_once (suc (suc (suc (suc (suc (suc zero)))))) low high = refl
token_ring_once (suc (suc (suc (suc (suc (suc (suc zero))))))) low high = refl
token_ring_once (suc (suc (suc (suc (suc (suc (suc (suc zero)))))))) low high = refl
token_ring_once (suc (suc (suc (suc (suc (suc (suc (suc (suc k))))))))) low high = absurd (omega arith)

token_ring_alone : (k : ℕ) → lists (6 ∷ 7 ∷ 8 ∷ []) k ≡ true → (6 ≤ k) × (k < 9)
token_ring_alone zero listed = cc
token_ring_alone (suc zero) listed = cc
token_ring_alone (suc (suc zero)) listed = cc
token_ring_alone (suc (suc (suc zero))) listed = cc
token_ring_alone (suc (suc (suc (suc zero)))) listed = cc
token_ring_alone (suc (suc (suc (suc (suc zero))))) listed = cc
token_ring_alone (suc (suc (suc (suc (suc (suc zero)))))) listed = (omega arith, omega arith)
token_ring_alone (suc (suc (suc (suc (suc (suc (suc zero))))))) listed = (omega arith, omega arith)
token_ring_alone (suc (suc (suc (suc (suc (suc (suc (suc zero)))))))) listed = (omega arith, omega arith)
token_ring_alone (suc (suc (suc (suc (suc (suc (suc (suc (suc k))))))))) listed = grind (arith, listed)

pub token_ring_is_module : IsModule token_ring
token_ring_is_module = record {
  names = refl;
  shaped = search rules;
  scoped = search rules;
  locals_once = token_ring_once;
  locals_alone = token_ring_alone;
  signals = omega arith;
  automata = omega arith;
  depth = omega arith;
  size = omega arith;
}
