-- Small systems have room, and are short, where the trace of the advice has one set at most.
use Rattle.std.proofs.Common.{◌≡◌, ℕ, zero, suc, ◌+◌, ◌*◌, ◌≤◌, List, length, subst, arith}
use Rattle.std.proofs.lemmas.List.{length-map}
use Rattle.argos_base.specs.SignalSets.{SignalSet}
use Rattle.argos_aspects.specs.Aspects.{Seen, Advice, Onset, to_initial, to_current}
use Rattle.argos_aspects.specs.Weaving.{unrolled}
use Rattle.eqn_core.specs.Equations.{Equations, registers}
use Rattle.eqn_core.specs.Views.{line_of, equations_from}
use Rattle.eqn_core.specs.declared.system.System.{System}
use Rattle.eqn_core.proofs.Walks.{bit_and_word_lines}
use Rattle.weave_lines.specs.Systems.{HasRoom, IsShort}
use Rattle.weave_lines.specs.WovenLines.{copies, bits_together, words_together}

pub record Small (E : Equations) : Type 0 where
  pub inputs : E.inputs ≡ 1
  pub outputs : length E.outputs ≡ 1
  pub register : registers E ≡ 1
  pub lines : length E.lines ≤ 8

pub small-system : (s : System) (E : Equations) → equations_from s ≡ E → s.inputs ≡ 1 → length s.outs.items ≡ 1 → length s.init.items ≡ 1 → length s.lines.items ≤ 8 → Small E
small-system s E e inputs outputs register lines =
    let here : Small (equations_from s) = record { inputs = inputs; outputs = outputs; register = register; lines = omega (arith, lines, length-map s.lines.items line_of) } in
    subst (λ (F : Equations). Small F) e here

few : (onset : Onset) (trace : List SignalSet) → length trace ≤ 1 → length (unrolled onset trace) ≤ 1
few to_initial trace h = omega arith
few to_current trace h = h

once : (k n : ℕ) → k ≤ 1 → k * n ≤ n
once zero n h = omega arith
once (suc zero) n h = omega arith
once (suc (suc k)) n h = absurd (omega arith)

twice : (k n : ℕ) → k ≤ 1 → (k + 1) * n ≤ n + n
twice zero n h = omega arith
twice (suc zero) n h = omega arith
twice (suc (suc k)) n h = absurd (omega arith)

module _ (W J : Equations) (seen : List Seen) (A : Advice) (base : Small W) (observer : Small J) (one : length A.trace ≤ 1) where
  at_most_one : length (copies W J seen A) ≤ 1
  at_most_one = few A.onset A.trace one

  pub has_room : HasRoom W J seen A
  has_room =
      let k = length (copies W J seen A) in
      record {
        bits = omega (arith, base.inputs, base.outputs, base.lines, observer.lines, bit_and_word_lines W.lines, bit_and_word_lines J.lines, once k (bits_together W J) at_most_one);
        words = omega (arith, base.register, observer.register, base.lines, observer.lines, bit_and_word_lines W.lines, bit_and_word_lines J.lines, once k (words_together W J) at_most_one);
      }

  pub is_short : IsShort W J seen A
  is_short = record {
    register_limit = omega (arith, base.register, observer.register);
    line_limit = omega (arith, base.outputs, base.register, observer.register, base.lines, observer.lines, twice (length (copies W J seen A)) (length W.lines + length J.lines) at_most_one);
  }
