-- From the solved equations of a good program to a module that is accepted.
use Rattle.std.proofs.Common.{◌≡◌, ◌↔◌, ℕ, ◌+◌, ◌*◌, ◌<◌, ◌≤◌, List, [], ◌∷◌, length, refl, sym, ap, subst, ◌∙◌, arith}
use Rattle.std.proofs.lemmas.List.{length-map}
use Rattle.argos_base.specs.Limits.{register_limit, signal_limit}
use Rattle.argos_base.specs.SignalSets.{SignalSet}
use Rattle.argos_core.specs.Codes.{IsStructural}
use Rattle.argos_core.specs.Layouts.{RegisterShape, FitsLayout}
use Rattle.argos_core.specs.Modules.{IsModule}
use Rattle.argos_core.specs.Process.{PlainModule}
use Rattle.argos_core.specs.Reactions.{input_count, output_count}
use Rattle.argos_core.specs.Sizes.{size_of}
use Rattle.argos_core.specs.Views.{shapes_of, register_shape_of}
use Rattle.argos_core.proofs.StructuralFits.{structural_fits}
use Rattle.argos_compile.specs.Accepting.{acyclic, solved, IsAccepted, IsLineBound}
use Rattle.argos_compile.specs.Systems.{IsSystemOf}
use Rattle.argos_compile.proofs.Accepting.{no_cycle_left, own_system, same_system}
use Rattle.argos_compile.proofs.LineBounds.{some-cycle, local-nodes}
use Rattle.argos_verdict.specs.Answers.{IsSound}
use Rattle.argos_verdict.specs.Jobs.{reaction_variables}
use Rattle.argos_verdict.specs.declared.judging.Sound.{Sound}
use Rattle.argos_verdict.proofs.JudgingSteps.{layout-sized}
use Rattle.cycle_solve.specs.Solved.{HaveSolvedNodes, IsSolved}
use Rattle.eqn_completion.specs.Binary.{digits_in}
use Rattle.eqn_core.specs.Equations.{Equations, weight_of}
use Rattle.eqn_core.specs.Solutions.{SystemReacts}
use Rattle.eqn_core.specs.Views.{line_of, equations_from}
use Rattle.eqn_dd.specs.Structural.{widths_of}
use Rattle.instant_check.proofs.ChosenSets.{length-filtered}
use Rattle.instant_verdict.specs.Jobs.{job_variables}

module _ (P : PlainModule) (s : Sound) (m : IsModule P) (sound : IsSound P s) where
  abbrev E : Equations
  E = equations_from s.system

  abbrev cyclic : List ℕ
  cyclic = s.plan.cyclic.items

  own : IsSystemOf P E
  own = own_system P E sound.inputs sound.outputs sound.initial sound.reacts

  pub variables-are : job_variables E (shapes_of s.layout) cyclic ≡ reaction_variables P cyclic
  variables-are = ap (λ (l : List RegisterShape). job_variables E l cyclic) sound.layout ∙ omega (arith, sound.inputs)

  own-lines : length E.lines ≤ 8 * size_of P
  own-lines = omega (arith, sound.lines, length-map s.system.lines.items line_of)

  -- the job was judged with so many variables
  pub fits : ¬ (cyclic ≡ []) → job_variables E (shapes_of s.layout) cyclic ≤ 1024
  fits some = let few = sound.acceptable.fits cyclic sound.cyclic (not-empty cyclic some) in omega (arith, variables-are, few)
    where
      not-empty : (xs : List ℕ) → ¬ (xs ≡ []) → 0 < length xs
      not-empty [] h = absurd (h refl)
      not-empty (x ∷ xs) h = omega arith

  -- so few registers and locals that the bound on lines is a small number
  pub few-registers : length s.layout.regs.items ≤ register_limit
  few-registers =
      let count = layout-sized P (shapes_of s.layout) (length s.system.init.items) m.shaped sound.layout sound.registers in
      omega (arith, count, sound.registers, m.automata, length-map s.layout.regs.items register_shape_of)

  pub few-cyclic : length cyclic ≤ signal_limit
  few-cyclic = omega (arith, ap length sound.cyclic.is, length-filtered sound.cyclic.test (input_count P + output_count P) (length P.locals), m.signals)

  module _ (F : Equations) (nodes : ℕ) (is : IsSolved E (shapes_of s.layout) cyclic F nodes) where
    same-reactions : (n : List ℕ) (i o : SignalSet) (n' : List ℕ) → IsStructural P.process n → (SystemReacts F n i o n') ↔ (SystemReacts E n i o n')
    same-reactions n i o n' st =
        let fitting : FitsLayout (shapes_of s.layout) n = subst (λ (l : List RegisterShape). FitsLayout l n) (sym sound.layout) (structural_fits P.process n st) in
        (λ h. (is.reactions n i fitting (h.solves.input ∙ is.inputs) o n').0 h, λ h. (is.reactions n i fitting h.solves.input o n').1 h)

    system : IsSystemOf P F
    system = same_system P E F own is.inputs is.initial is.outputs same-reactions

    bound-acyclic : cyclic ≡ [] → IsLineBound P (8 * size_of P)
    bound-acyclic none = acyclic (no_cycle_left P E s.plan.order.items cyclic sound.plan sound.locals sound.own_cycles (ap length none))

    bound-solved : (k : ℕ) (ks : List ℕ) → k ∷ ks ≡ cyclic → IsLineBound P (8 * size_of P + 4 * nodes + reaction_variables P cyclic)
    bound-solved k ks e = solved cyclic nodes (some-cycle P cyclic sound.cyclic k ks e) sound.cyclic
        (local-nodes P cyclic sound.cyclic E nodes sound.inputs sound.chosen (subst (λ (l : List RegisterShape). HaveSolvedNodes E l cyclic nodes) sound.layout is.nodes))

    module _ (most : ℕ)
        (fewer : cyclic ≡ [] → length F.lines ≤ length s.system.lines.items)
        (lighter : cyclic ≡ [] → weight_of F ≤ weight_of E)
        (alone : length cyclic ≡ 0 → most ≡ 8 * size_of P)
        (more : 1 ≤ length cyclic → most ≡ 8 * size_of P + 4 * nodes + (digits_in (widths_of (shapes_of s.layout)) + input_count P + length cyclic)) where
      by-cycles : (ks : List ℕ) → ks ≡ cyclic → IsAccepted P F most
      by-cycles [] e =
          let is-own : most ≡ 8 * size_of P = alone (ap length (sym e)) in
          record {
            acceptable = sound.acceptable;
            system = system;
            bound = subst (IsLineBound P) (sym is-own) (bound-acyclic (sym e));
            lines = omega (arith, fewer (sym e), sound.lines, is-own);
            weight = omega (arith, lighter (sym e), sound.weight, is-own);
          }
      by-cycles (k ∷ ks) e =
          let some : 1 ≤ length cyclic = omega (arith, ap length e) in
          let variables : digits_in (widths_of (shapes_of s.layout)) + input_count P + length cyclic ≡ reaction_variables P cyclic = omega (arith, variables-are, sound.inputs) in
          let is-more : most ≡ 8 * size_of P + 4 * nodes + reaction_variables P cyclic = omega (arith, more some, variables) in
          record {
            acceptable = sound.acceptable;
            system = system;
            bound = subst (IsLineBound P) (sym is-more) (bound-solved k ks e);
            lines = omega (arith, is.lines, own-lines, variables-are, is-more);
            weight = omega (arith, is.weight, sound.weight, variables-are, is-more);
          }

      pub accepted : IsAccepted P F most
      accepted = by-cycles cyclic refl
