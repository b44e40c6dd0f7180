-- The laws of the woven systems.
use Rattle.std.proofs.Common.{◌≡◌, ℕ, zero, suc, ◌+◌, ◌*◌, ◌≤◌, List, [], ◌∷◌, ◌++◌, IsTrue, refl, sym, ap, ◌∙◌, subst, arith, length, map, length-append}
use Rattle.std.proofs.Math.Nat.{suc-mul}
use Rattle.argos_base.specs.Machines.{ReactsOnce}
use Rattle.argos_base.specs.Runs.{Follows}
use Rattle.argos_base.specs.SignalSets.{SignalSet}
use Rattle.argos_core.specs.Codes.{code_of}
use Rattle.argos_core.specs.Overlaps.{IsGood}
use Rattle.argos_core.specs.Process.{PlainModule}
use Rattle.argos_core.specs.Reactions.{input_count, output_count, initial_of}
use Rattle.argos_core.proofs.StepsStay.{initial_is}
use Rattle.argos_aspects.specs.Aspects.{Aspect, AreBelow, AllFit}
use Rattle.argos_aspects.specs.Weaving.{WovenConfiguration, alone, watched, woven_initial, IsWovenConfiguration, woven_code, WovenStep, HasOneWovenStep, woven_registers, unrolled, need_with}
use Rattle.argos_aspects.proofs.WovenOnce.{one_step, woven_initial_is, length-woven_code, woven_stays}
use Rattle.eqn_core.specs.Equations.{Equations, registers, weight_of}
use Rattle.eqn_core.specs.Ordered.{all_below, IsOrdered}
use Rattle.eqn_core.specs.Solutions.{bit_of, word_of, SystemReacts, RunsThrough}
use Rattle.eqn_core.proofs.Once.{reacts_once}
use Rattle.eqn_core.proofs.Walks.{bit_and_word_lines}
use Rattle.weave_lines.specs.Laws.{CanWeave, WeavingIsWoven, WeavingIsSmall, WeavingCanJoin, WovenSolutionsAreSteps, WovenTracesAreRuns, IsTraceOf, WovenRunsAreTraces, WovenRuns, PlainIsWoven, WovenFromIsWoven}
use Rattle.weave_lines.specs.Systems.{AreAdvised, IsWovenMachineOf, CanJoin, HasRoom, IsShort}
use Rattle.weave_lines.specs.WovenLines.{bits_together, words_together, copies, woven_lines, woven_equations}
use Rattle.weave_lines.proofs.Reading.{length-range}
use Rattle.weave_lines.proofs.Pairs.{registers-base, registers-observer}
use Rattle.weave_lines.proofs.Weaves.{seen_sized, one_output, outs_sized, trace_sized, woven_steps}
use Rattle.weave_lines.proofs.Whole.{length-woven, weight-woven, woven_is_ordered}

-- (k + 1) times, as k times and once
once_more : (k a : ℕ) → a + k * a ≡ (k + 1) * a
once_more k a = let e : k + 1 ≡ suc k = omega arith in rw e (omega (arith, suc-mul k a))

times-more : (k a b : ℕ) → a ≤ b → k * a ≤ k * b
times-more zero a b h = omega arith
times-more (suc k) a b h = omega (arith, suc-mul k a, suc-mul k b, times-more k a b h)

module _ (P : PlainModule) (before : List Aspect) (A : Aspect) (W J : Equations) (most lines : ℕ) (can : CanWeave P before A W J most lines) where
  registers-both : registers W + registers J ≡ woven_registers P (A ∷ before)
  registers-both =
      let w = registers-base P before A W J can.good can.fit can.base can.observer (woven_initial P before) (woven_initial_is P before can.good can.fit.1) in
      let j = registers-observer P before A W J can.good can.fit can.base can.observer (initial_of A.observer) (initial_is A.observer.process can.fit.0.observer.program.is.shaped) in
      let both = length-woven_code P (A ∷ before) (woven_initial P (A ∷ before)) (woven_initial_is P (A ∷ before) can.good can.fit) in
      omega (arith, w, j, both, length-append (woven_code P before (woven_initial P before)) (code_of A.observer.process (initial_of A.observer)))

  can_join : CanJoin W J A.seen A.advice
  can_join = record {
    observes = record {
      base = can.base.ordered;
      observer = can.observer.ordered;
      seen_sized = seen_sized P before A W J most lines can;
      seen_exist = subst (λ (n : ℕ). AreBelow n (length W.outputs) A.seen) (sym can.base.inputs) (subst (λ (n : ℕ). AreBelow (input_count P) n A.seen) (sym can.base.outputs) can.fit.0.seen_exist);
      one_output = one_output P before A W J most lines can;
    };
    outs_sized = outs_sized P before A W J most lines can;
    trace_sized = trace_sized P before A W J most lines can;
  }

  has_room : HasRoom W J A.seen A.advice
  has_room =
      let k = length (copies W J A.seen A.advice) in
      let w = bit_and_word_lines W.lines in
      let j = bit_and_word_lines J.lines in
      let few_bits : bits_together W J ≤ most + lines = omega (arith, w, j, can.base_lines, can.observer_lines) in
      let few_words : words_together W J ≤ most + lines = omega (arith, w, j, can.base_lines, can.observer_lines) in
      record {
        bits = omega (arith, once_more k (most + lines), times-more k (bits_together W J) (most + lines) few_bits, can.base.outputs, can.line_limit, can.base.ordered.input_limit, can.register_limit);
        words = omega (arith, once_more k (most + lines), times-more k (words_together W J) (most + lines) few_words, can.line_limit, registers-both, can.register_limit);
      }

  is_short : IsShort W J A.seen A.advice
  is_short =
      let k = length (copies W J A.seen A.advice) in
      let a = length W.lines + length J.lines in
      let more : a ≤ most + lines = omega (arith, can.base_lines, can.observer_lines) in
      record {
        register_limit = omega (arith, registers-both, can.register_limit);
        line_limit = omega (arith, once_more k a, once_more k (most + lines), times-more k a (most + lines) more, can.base.outputs, registers-both, can.line_limit);
      }

module _ (P : PlainModule) (before : List Aspect) (A : Aspect) (W J : Equations) (most lines : ℕ) (can : CanWeave P before A W J most lines) (memories : List ℕ) (advised : AreAdvised W J A.seen A.advice A.advice.onset memories) (codes : IsTrue (all_below 65536 memories)) where
  length_is : length (woven_lines W J A.seen A.advice memories) ≡ 2 + (length W.lines + length J.lines + (length (copies W J A.seen A.advice) * (length W.lines + length J.lines) + (length W.outputs + (registers W + registers J))))
  length_is = length-woven W J A.seen A.advice can.base.ordered can.observer.ordered (seen_sized P before A W J most lines can) (one_output P before A W J most lines can) (outs_sized P before A W J most lines can) (trace_sized P before A W J most lines can) memories advised codes

  length_bound : length (woven_lines W J A.seen A.advice memories) ≤ need_with P before A most lines
  length_bound =
      let k = length (copies W J A.seen A.advice) in
      let a = length W.lines + length J.lines in
      let more : a ≤ most + lines = omega (arith, can.base_lines, can.observer_lines) in
      omega (arith, length_is, once_more k (most + lines), times-more k a (most + lines) more, can.base.outputs, registers-both P before A W J most lines can)

  weight_bound : weight_of (woven_equations W J A.seen A.advice memories) ≤ (length (unrolled A.advice.onset A.advice.trace) + 1) * (weight_of W + weight_of J) + 4 * (2 * output_count P + woven_registers P (A ∷ before) + 2)
  weight_bound =
      let is = weight-woven W J A.seen A.advice can.base.ordered can.observer.ordered (seen_sized P before A W J most lines can) (one_output P before A W J most lines can) (outs_sized P before A W J most lines can) (trace_sized P before A W J most lines can) memories advised codes in
      omega (arith, is, once_more (length (copies W J A.seen A.advice)) (weight_of W + weight_of J), can.base.outputs, registers-both P before A W J most lines can)

  ordered : IsOrdered (woven_equations W J A.seen A.advice memories)
  ordered = woven_is_ordered W J A.seen A.advice can.base.ordered can.observer.ordered (seen_sized P before A W J most lines can) (one_output P before A W J most lines can) (outs_sized P before A W J most lines can) (trace_sized P before A W J most lines can) memories advised codes
      (omega (arith, registers-both P before A W J most lines can, can.register_limit)) (omega (arith, length_bound, can.line_limit))

  is_woven : IsWovenMachineOf P (A ∷ before) (woven_equations W J A.seen A.advice memories)
  is_woven = record {
    ordered = ordered;
    inputs = can.base.inputs;
    outputs = length-range _ (length W.outputs) ∙ can.base.outputs;
    initial = ap (λ (l : List ℕ). l ++ J.initial) can.base.initial ∙ ap (λ (l : List ℕ). woven_code P before (woven_initial P before) ++ l) can.observer.initial;
    reactions = woven_steps P before A W J most lines can memories advised codes ordered;
  }

pub weaving_is_woven : WeavingIsWoven
weaving_is_woven P before A W J memories most lines can advised codes = is_woven P before A W J most lines can memories advised codes

pub weaving_is_small : WeavingIsSmall
weaving_is_small P before A W J memories most lines can advised codes = (length_bound P before A W J most lines can memories advised codes, weight_bound P before A W J most lines can memories advised codes)

pub weaving_can_join : WeavingCanJoin
weaving_can_join P before A W J most lines can = (can_join P before A W J most lines can, has_room P before A W J most lines can, is_short P before A W J most lines can)

-- solutions are steps
module _ (P : PlainModule) (aspects : List Aspect) (E : Equations) (good : IsGood P) (fit : AllFit aspects (input_count P) (output_count P)) (sys : IsWovenMachineOf P aspects E) where
  same : (m : List ℕ) (i o o' : SignalSet) (n n' : List ℕ) → SystemReacts E m i o n → SystemReacts E m i o' n' → (o' ≡ o) × (n' ≡ n)
  same m i o o' n n' r r' =
      let one : ReactsOnce (SystemReacts E) m i = reacts_once E sys.ordered m i r.solves.memory r.solves.input in
      let p = one.only o' n' r' in
      let q = one.only o n r in
      (p.0 ∙ sym q.0, p.1 ∙ sym q.1)

  -- a reaction from the code of a configuration is a step from it
  record StepFrom (x : WovenConfiguration) (i o : SignalSet) (n : List ℕ) : Type 0 where
    next : WovenConfiguration
    step : WovenStep P aspects x i o next
    stays : IsWovenConfiguration P aspects next
    code : n ≡ woven_code P aspects next

  step_from : (x : WovenConfiguration) (i o : SignalSet) (n : List ℕ) → IsWovenConfiguration P aspects x → SystemReacts E (woven_code P aspects x) i o n → StepFrom x i o n
  step_from x i o n is r =
      let one : HasOneWovenStep P aspects x i = one_step P aspects good fit x i is (r.solves.input ∙ sys.inputs) in
      let due = sys.reactions x i one.outputs one.next is one.steps in
      let e = same (woven_code P aspects x) i one.outputs o (woven_code P aspects one.next) n due r in
      record { next = one.next; step = subst (λ (z : SignalSet). WovenStep P aspects x i z one.next) (sym e.0) one.steps; stays = one.stays; code = e.1 }

  to_runs : (x : WovenConfiguration) (inputs outputs : List SignalSet) (cs : List WovenConfiguration) → IsWovenConfiguration P aspects x → Follows (WovenStep P aspects) x inputs outputs cs → Follows (SystemReacts E) (woven_code P aspects x) inputs outputs (map (woven_code P aspects) cs)
  to_runs x [] [] [] is h = tt
  to_runs x [] [] (c ∷ cs) is h = absurd h
  to_runs x [] (o ∷ outputs) cs is h = absurd h
  to_runs x (i ∷ inputs) [] cs is h = absurd h
  to_runs x (i ∷ inputs) (o ∷ outputs) [] is h = absurd h
  to_runs x (i ∷ inputs) (o ∷ outputs) (c ∷ cs) is h = (sys.reactions x i o c is h.0, to_runs c inputs outputs cs (woven_stays P aspects x i o c good fit is h.0) h.1)

  record TraceFrom (x : WovenConfiguration) (inputs outputs : List SignalSet) (memories : List (List ℕ)) : Type 0 where
    configurations : List WovenConfiguration
    follows : Follows (WovenStep P aspects) x inputs outputs configurations
    codes : memories ≡ map (woven_code P aspects) configurations

  to_traces : (x : WovenConfiguration) (inputs outputs : List SignalSet) (ms : List (List ℕ)) → IsWovenConfiguration P aspects x → Follows (SystemReacts E) (woven_code P aspects x) inputs outputs ms → TraceFrom x inputs outputs ms
  to_traces x [] [] [] is h = record { configurations = []; follows = tt; codes = refl }
  to_traces x [] [] (m ∷ ms) is h = absurd h
  to_traces x [] (o ∷ outputs) ms is h = absurd h
  to_traces x (i ∷ inputs) [] ms is h = absurd h
  to_traces x (i ∷ inputs) (o ∷ outputs) [] is h = absurd h
  to_traces x (i ∷ inputs) (o ∷ outputs) (m ∷ ms) is h =
      let first : StepFrom x i o m = step_from x i o m is h.0 in
      let rest : TraceFrom first.next inputs outputs ms = to_traces first.next inputs outputs ms first.stays (subst (λ (l : List ℕ). Follows (SystemReacts E) l inputs outputs ms) first.code h.1) in
      record {
        configurations = first.next ∷ rest.configurations;
        follows = (first.step, rest.follows);
        codes = ap (λ (l : List ℕ). l ∷ ms) first.code ∙ ap (λ (l : List (List ℕ)). woven_code P aspects first.next ∷ l) rest.codes;
      }

  initial_woven : IsWovenConfiguration P aspects (woven_initial P aspects)
  initial_woven = woven_initial_is P aspects good fit

  traces_run : (inputs outputs : List SignalSet) (cs : List WovenConfiguration) → Follows (WovenStep P aspects) (woven_initial P aspects) inputs outputs cs → RunsThrough E inputs outputs (map (woven_code P aspects) cs)
  traces_run inputs outputs cs h = subst (λ (l : List ℕ). Follows (SystemReacts E) l inputs outputs (map (woven_code P aspects) cs)) (sym sys.initial) (to_runs (woven_initial P aspects) inputs outputs cs initial_woven h)

  runs_trace : (inputs outputs : List SignalSet) (ms : List (List ℕ)) → RunsThrough E inputs outputs ms → IsTraceOf P aspects inputs outputs ms
  runs_trace inputs outputs ms h =
      let t : TraceFrom (woven_initial P aspects) inputs outputs ms = to_traces (woven_initial P aspects) inputs outputs ms initial_woven (subst (λ (l : List ℕ). Follows (SystemReacts E) l inputs outputs ms) sys.initial h) in
      record { configurations = t.configurations; follows = t.follows; codes = t.codes }

pub solutions_are_steps : WovenSolutionsAreSteps
solutions_are_steps P aspects E x i s good fit sys is h =
    let r : SystemReacts E (woven_code P aspects x) i (map (bit_of s) E.outputs) (map (word_of s) E.next) = record { values = s; solves = h; outputs = refl; next = refl } in
    let t = step_from P aspects E good fit sys x i (map (bit_of s) E.outputs) (map (word_of s) E.next) is r in
    record { next = t.next; step = t.step; words = t.code }

pub traces_are_runs : WovenTracesAreRuns
traces_are_runs P aspects E inputs outputs cs good fit sys h = traces_run P aspects E good fit sys inputs outputs cs h

pub runs_are_traces : WovenRunsAreTraces
runs_are_traces P aspects E inputs outputs ms good fit sys h = runs_trace P aspects E good fit sys inputs outputs ms h

pub woven_runs : WovenRuns
woven_runs P aspects E inputs outputs good fit sys = (
  λ r. let t = runs_trace P aspects E good fit sys inputs outputs r.0 r.1 in (t.configurations, t.follows),
  λ t. (map (woven_code P aspects) t.0, traces_run P aspects E good fit sys inputs outputs t.0 t.1),
)

-- without aspects
pub plain_is_woven : PlainIsWoven
plain_is_woven P E h = record { ordered = h.ordered; inputs = h.inputs; outputs = h.outputs; initial = h.initial; reactions = steps }
  where
    steps : (x : WovenConfiguration) (i o : SignalSet) (y : WovenConfiguration) → IsWovenConfiguration P [] x → WovenStep P [] x i o y → SystemReacts E (woven_code P [] x) i o (woven_code P [] y)
    steps (alone c) i o (alone c') is r = h.reactions c i o c' is r
    steps (alone c) i o (watched w j) is r = absurd r
    steps (watched w j) i o y is r = absurd is

-- one aspect after the other
pub woven_from_is_woven : WovenFromIsWoven
woven_from_is_woven P lines [] E most good fit h = (plain_is_woven P E h.0, omega (arith, h.1, h.2))
woven_from_is_woven P lines (A ∷ before) E most good fit h =
    let parts = h.0 in
    let first = woven_from_is_woven P lines before parts.base parts.most good fit.1 h.1 in
    let can : CanWeave P before A parts.base parts.observer parts.most parts.lines = record {
      good = good;
      fit = fit;
      base = first.0;
      observer = h.2.observer;
      base_lines = first.1;
      observer_lines = h.2.observer_lines;
      register_limit = h.2.register_limit;
      line_limit = h.2.line_limit;
    } in
    let E' = woven_equations parts.base parts.observer A.seen A.advice parts.memories in
    let small : length E'.lines ≤ need_with P before A parts.most parts.lines = (weaving_is_small P before A parts.base parts.observer parts.memories parts.most parts.lines can h.2.advised h.2.codes).0 in (
      subst (λ (z : Equations). IsWovenMachineOf P (A ∷ before) z) (sym h.2.is) (weaving_is_woven P before A parts.base parts.observer parts.memories parts.most parts.lines can h.2.advised h.2.codes),
      subst (λ (z : Equations). length z.lines ≤ most) (sym h.2.is) (omega (arith, small, h.2.most_is)),
    )
