-- The sets of locals that solutions of a program's equations have are those that are present in its reactions.
use Rattle.std.proofs.Common.{◌≡◌, ℕ, ◌+◌, ◌<◌, ◌≤◌, List, [], ◌∷◌, Bool, true, false, ◌&&◌, nat_eq, refl, sym, ap, ◌∙◌, inl, inr, arith, map}
use Rattle.std.proofs.lemmas.Bool.Decides.{nat_tests}
use Rattle.argos_base.specs.SignalSets.{SignalSet, has, lists, set_where}
use Rattle.argos_base.proofs.Bools.{true_or_false, or_left, or_right}
use Rattle.argos_base.proofs.SetLemmas.{has-set_where}
use Rattle.argos_core.specs.Codes.{IsStructural}
use Rattle.argos_core.specs.Modules.{IsModule, locals_in}
use Rattle.argos_core.specs.Overlaps.{IsProgram}
use Rattle.argos_core.specs.Process.{PlainModule}
use Rattle.argos_core.specs.Reactions.{input_count, output_count, signal_count}
use Rattle.eqn_completion.specs.Completions.{SystemChooses}
use Rattle.eqn_core.specs.Solutions.{bit_of}
use Rattle.eqn_scheme.specs.Laws.{EquationsChooseLocals}
use Rattle.eqn_scheme.specs.LocalSets.{AreLocals, ProgramChooses}
use Rattle.eqn_scheme.specs.Scheme.{equations_of}
use Rattle.eqn_scheme.specs.Settled.{among}
use Rattle.eqn_scheme.proofs.System.{solution_says, reaction_solves}
use Rattle.eqn_scheme.proofs.WiredReactions.{times-not}

map-listed : (f g : ℕ → Bool) (ks : List ℕ) → ((k : ℕ) → lists ks k ≡ true → f k ≡ g k) → map f ks ≡ map g ks
map-listed f g [] h = refl
map-listed f g (x ∷ ks) h =
    let here : nat_eq x x ≡ true = grind (arith, nat_tests) in
    ap (λ (b : Bool). b ∷ map f ks) (h x (or_left (nat_eq x x) (lists ks x) here)) ∙ ap (λ (l : List Bool). g x ∷ l) (map-listed f g ks (λ k l. h k (or_right (nat_eq x k) (lists ks k) l)))

-- each number of a local stands in some list of locals
local_listed : (P : PlainModule) (k : ℕ) → IsModule P → input_count P + output_count P ≤ k → k < signal_count P → lists (locals_in P.process) k ≡ true
local_listed P k is low high = elim (true_or_false (lists (locals_in P.process) k)) [
  | inl y ↦ y
  | inr y ↦ absurd (omega (arith, is.locals_once k low high, times-not (locals_in P.process) k y))
]

-- so on locals the locals of a valuation are the valuation
among-locals : (P : PlainModule) (v : SignalSet) (ks : List ℕ) → IsModule P → AreLocals P ks → map (has (among (signal_count P) (locals_in P.process) v)) ks ≡ map (has v) ks
among-locals P v ks is locals = map-listed (has (among (signal_count P) (locals_in P.process) v)) (has v) ks (λ k l. one k (locals k l))
  where
    whole : (a b : Bool) → b ≡ true → (a && b) ≡ a
    whole true b h = h
    whole false b h = refl

    one : (k : ℕ) → (input_count P + output_count P ≤ k) × (k < signal_count P) → has (among (signal_count P) (locals_in P.process) v) k ≡ has v k
    one k range = has-set_where (signal_count P) (λ j. has v j && lists (locals_in P.process) j) k range.1 ∙ whole (has v k) (lists (locals_in P.process) k) (local_listed P k is range.0 range.1)

to_program : (P : PlainModule) (ks m : List ℕ) (i chosen : SignalSet) → IsProgram P → AreLocals P ks → IsStructural P.process m → SystemChooses (equations_of P) ks m i chosen → ProgramChooses P ks m i chosen
to_program P ks m i chosen program locals t h =
    let n = signal_count P in
    let says = solution_says P m i h.values program t h.solves in
    record {
      configuration = t.configuration;
      is = t.is;
      code = t.code;
      present = among n (locals_in P.process) (set_where n (bit_of h.values));
      settles = (_, (_, says.reacts));
      chosen_is = h.chosen_is ∙ map-listed (bit_of h.values) (has (set_where n (bit_of h.values))) ks (λ k l. sym (has-set_where n (bit_of h.values) k (locals k l).1)) ∙ sym (among-locals P (set_where n (bit_of h.values)) ks program.is locals);
    }

to_system : (P : PlainModule) (ks m : List ℕ) (i chosen : SignalSet) → IsProgram P → AreLocals P ks → ProgramChooses P ks m i chosen → SystemChooses (equations_of P) ks m i chosen
to_system P ks m i chosen program locals h =
    let s = reaction_solves P h.configuration m i h.present h.settles.0 h.settles.1.0 program h.is h.code h.settles.1.1 in
    record {
      values = s.values;
      solves = s.solves;
      chosen_is = h.chosen_is ∙ ap (λ (l : SignalSet). map (has l) ks) s.locals ∙ among-locals P s.valuation ks program.is locals ∙ map-listed (has s.valuation) (bit_of s.values) ks (λ k l. sym (s.same k (locals k l).1));
    }

pub equations_choose_locals : EquationsChooseLocals
equations_choose_locals P ks m i chosen program locals t = (to_program P ks m i chosen program locals t, to_system P ks m i chosen program locals)
