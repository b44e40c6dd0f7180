-- A program with one aspect more has ordered equations, where the program and the observer have.
use Rattle.std.proofs.Common.{◌≡◌, ℕ, ◌+◌, ◌*◌, ◌≤◌, List, [], ◌∷◌, ◌++◌, true, length, refl, sym, subst, ◌∙◌, arith}
use Rattle.std.proofs.lemmas.List.{length-map}
use Rattle.std.proofs.lemmas.List.Folds.{list_all-append}
use Rattle.std.specs.Prelude.{nat_lt}
use Rattle.argos_base.proofs.Bools.{and_both}
use Rattle.argos_base.specs.Limits as limits
use Rattle.argos_base.specs.SignalSets.{SignalSet}
use Rattle.argos_aspects.specs.Aspects.{Aspect, Onset, to_initial, to_current, AreSized, Fits, AllFit}
use Rattle.argos_aspects.specs.Weaving.{WovenConfiguration, alone, watched, woven_initial, IsWovenConfiguration, woven_code, observed, HasOneWovenStep, woven_registers, need_with}
use Rattle.argos_aspects.proofs.WovenLaws.{woven_initial_is_one, woven_steps_once}
use Rattle.argos_aspects.proofs.WovenOnce.{reaction_stays}
use Rattle.argos_compile.specs.Accepting.{IsAccepted}
use Rattle.argos_compile.specs.Weaving.{WovenProgram, plain, with_aspect, IsWoven, IsWovenLineBound}
use Rattle.argos_compile.proofs.Machines.{machine, plain_woven}
use Rattle.argos_compile.proofs.SmallCodes.{codes_small}
use Rattle.argos_core.specs.Codes.{code_of}
use Rattle.argos_core.specs.Configurations.{IsConfiguration}
use Rattle.argos_core.specs.Modules.{IsModule}
use Rattle.argos_core.specs.Overlaps.{IsGood}
use Rattle.argos_core.specs.Process.{Configuration, PlainModule}
use Rattle.argos_core.specs.Reactions.{input_count, output_count, initial_of, HasOneReaction}
use Rattle.argos_core.proofs.StepsStay.{initial_is}
use Rattle.eqn_core.specs.Equations.{Equations}
use Rattle.eqn_core.specs.Ordered.{IsOrdered, all_below}
use Rattle.weave_lines.specs.Laws.{CanWeave}
use Rattle.weave_lines.specs.Systems.{IsMachineOf, IsWovenMachineOf, MoveAlong, AreAdvised}
use Rattle.weave_lines.specs.WovenLines.{woven_equations}
use Rattle.weave_lines.proofs.WovenLaws.{weaving_is_woven, weaving_is_small}

-- ordered equations of an accepted module, and of a woven program

pub record OwnSystem (p : PlainModule) : Type 0 where
  pub equations : Equations
  pub most : ℕ
  pub ordered : IsOrdered equations
  pub is : IsAccepted p equations most

pub record WovenSystem (x : WovenProgram) : Type 0 where
  pub equations : Equations
  pub most : ℕ
  pub is : IsWoven x equations most

pub plain_system : (p : PlainModule) → OwnSystem p → WovenSystem (plain p)
plain_system p s = record { equations = s.equations; most = s.most; is = plain_woven p s.equations s.most s.ordered s.is }

-- each automaton has a register
pub registers_few : (P : PlainModule) (aspects : List Aspect) → IsModule P → AllFit aspects (input_count P) (output_count P) → woven_registers P aspects ≤ limits.automaton_limit * (length aspects + 1)
registers_few P [] m fit = omega (arith, m.automata)
registers_few P (A ∷ before) m fit = let rest = registers_few P before m fit.1 in omega (arith, rest, fit.0.observer.program.is.automata)

-- the codes of woven configurations have 16 bits
woven_codes_small : (P : PlainModule) (aspects : List Aspect) (x : WovenConfiguration) → IsGood P → AllFit aspects (input_count P) (output_count P) → IsWovenConfiguration P aspects x → all_below 65536 (woven_code P aspects x) ≡ true
woven_codes_small P [] (alone c) good fit is = codes_small P.process c good.program.is.shaped is
woven_codes_small P [] (watched w j) good fit is = absurd is
woven_codes_small P (A ∷ before) (alone c) good fit is = absurd is
woven_codes_small P (A ∷ before) (watched w j) good fit is =
    list_all-append (λ k. nat_lt k 65536) (woven_code P before w) (code_of A.observer.process j) ∙ and_both _ _ (woven_codes_small P before w good fit.1 is.0) (codes_small A.observer.process j fit.0.observer.program.is.shaped is.1)

module _ (P : PlainModule) (before : List Aspect) (A : Aspect) (W J : Equations) (good : IsGood P) (fit : AllFit (A ∷ before) (input_count P) (output_count P)) (base : IsWovenMachineOf P before W) (observer : IsMachineOf A.observer J) where
  -- both systems move together along a trace, from codes of configurations to such codes
  record Moved (w : WovenConfiguration) (j : Configuration) (trace : List SignalSet) : Type 0 where
    base_at : WovenConfiguration
    observer_at : Configuration
    base_is : IsWovenConfiguration P before base_at
    observer_is : IsConfiguration A.observer.process observer_at
    moves : MoveAlong W J A.seen (woven_code P before w) (code_of A.observer.process j) trace (woven_code P before base_at) (code_of A.observer.process observer_at)

  moved : (trace : List SignalSet) (w : WovenConfiguration) (j : Configuration) → IsWovenConfiguration P before w → IsConfiguration A.observer.process j → AreSized (input_count P) trace → Moved w j trace
  moved [] w j at there sized = record { base_at = w; observer_at = j; base_is = at; observer_is = there; moves = (refl, refl) }
  moved (v ∷ trace) w j at there sized =
      let h : HasOneWovenStep P before w v = woven_steps_once P before w v good fit.1 at sized.0 in
      let i : SignalSet = observed A.seen v h.outputs in
      let o : HasOneReaction A.observer j i = fit.0.observer.one j i there (length-map A.seen _ ∙ fit.0.seen_sized) in
      let rest : Moved h.next o.next trace = moved trace h.next o.next h.stays (reaction_stays A.observer j i o.outputs o.next fit.0.observer there o.reacts) sized.1 in
      record {
        base_at = rest.base_at;
        observer_at = rest.observer_at;
        base_is = rest.base_is;
        observer_is = rest.observer_is;
        moves = (
          h.outputs,
          o.outputs,
          woven_code P before h.next,
          code_of A.observer.process o.next,
          base.reactions w v h.outputs h.next at h.steps,
          observer.reactions j i o.outputs o.next there o.reacts,
          rest.moves,
        );
      }

  -- so there are memories as the advice asks
  advised : (onset : Onset) → (memories : List ℕ) × AreAdvised W J A.seen A.advice onset memories × (all_below 65536 memories ≡ true)
  advised to_current = ([], tt, refl)
  advised to_initial =
      let start = woven_initial P before in
      let first = initial_of A.observer in
      let m : Moved start first A.advice.trace = moved A.advice.trace start first (woven_initial_is_one P before good fit.1) (initial_is A.observer.process fit.0.observer.program.is.shaped) fit.0.trace_sized in
      let b = woven_code P before m.base_at in
      let n = code_of A.observer.process m.observer_at in
      let from_base : MoveAlong W J A.seen W.initial (code_of A.observer.process first) A.advice.trace b n = subst (λ (k : List ℕ). MoveAlong W J A.seen k (code_of A.observer.process first) A.advice.trace b n) (sym base.initial) m.moves in (
        b ++ n,
        record { base = b; observer = n; moves = subst (λ (k : List ℕ). MoveAlong W J A.seen W.initial k A.advice.trace b n) (sym observer.initial) from_base; are = refl },
        list_all-append (λ k. nat_lt k 65536) b n ∙ and_both _ _ (woven_codes_small P before m.base_at good fit.1 m.base_is) (codes_small A.observer.process m.observer_at fit.0.observer.program.is.shaped m.observer_is),
      )

-- what the woven program needs
pub bound_with : (x : WovenProgram) (A : Aspect) (s : WovenSystem x) (j : OwnSystem A.observer) → IsWovenLineBound (with_aspect x A) (need_with x.base x.aspects A s.most j.most)
bound_with x A s j = (s.most, j.most, (s.is.bound, j.is.bound, refl))

pub woven_system : (x : WovenProgram) (A : Aspect) (s : WovenSystem x) (j : OwnSystem A.observer) → Fits A (input_count x.base) (output_count x.base) → woven_registers x.base (A ∷ x.aspects) ≤ limits.register_limit
    → need_with x.base x.aspects A s.most j.most ≤ limits.woven_line_limit → WovenSystem (with_aspect x A)
woven_system x A s j fits few short =
    let W = s.equations in
    let J = j.equations in
    let fit : AllFit (A ∷ x.aspects) (input_count x.base) (output_count x.base) = (fits, s.is.fit) in
    let observer : IsMachineOf A.observer J = machine A.observer J j.is.system j.ordered in
    let can : CanWeave x.base x.aspects A W J s.most j.most = record {
      good = s.is.good;
      fit = fit;
      base = s.is.machine;
      observer = observer;
      base_lines = s.is.lines;
      observer_lines = j.is.lines;
      register_limit = few;
      line_limit = short;
    } in
    let m = advised x.base x.aspects A W J s.is.good fit s.is.machine observer A.advice.onset in
    record {
      equations = woven_equations W J A.seen A.advice m.0;
      most = need_with x.base x.aspects A s.most j.most;
      is = record {
        good = s.is.good;
        fit = fit;
        machine = weaving_is_woven x.base x.aspects A W J m.0 s.most j.most can m.1 m.2;
        bound = bound_with x A s j;
        lines = (weaving_is_small x.base x.aspects A W J m.0 s.most j.most can m.1 m.2).0;
      };
    }
