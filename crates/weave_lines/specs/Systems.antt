-- Ordered systems that react as a program, or as a woven program, and what joins two of them by an advice. Source: this project.
use Rattle.std.specs.Prelude.{◌≡◌, ℕ, ◌+◌, ◌*◌, ◌^◌, ◌<◌, ◌≤◌, List, [], ◌∷◌, ◌++◌, true, length}
use Rattle.argos_base.specs.Limits as limits
use Rattle.argos_base.specs.SignalSets.{SignalSet}
use Rattle.argos_core.specs.Codes.{code_of}
use Rattle.argos_core.specs.Configurations.{IsConfiguration}
use Rattle.argos_core.specs.Process.{Configuration, PlainModule}
use Rattle.argos_core.specs.Reactions.{input_count, output_count, initial_of, Reacts}
use Rattle.argos_aspects.specs.Aspects.{Aspect, Seen, Advice, Onset, to_initial, to_current, AreBelow, AreSized}
use Rattle.argos_aspects.specs.Weaving.{WovenConfiguration, woven_initial, IsWovenConfiguration, woven_code, observed, WovenStep}
use Rattle.eqn_core.specs.Equations.{Equations, registers}
use Rattle.eqn_core.specs.Ordered.{all_below, IsOrdered}
use Rattle.eqn_core.specs.Solutions.{SystemReacts}
use Rattle.weave_lines.specs.WovenLines.{copies, output_bit, next_word, woven_equations}

-- the ordered system reacts as the program does, at the codes of all configurations
pub record IsMachineOf (P : PlainModule) (E : Equations) : Type 0 where
  pub ordered : IsOrdered E
  pub inputs : E.inputs ≡ input_count P
  pub outputs : length E.outputs ≡ output_count P
  pub initial : E.initial ≡ code_of P.process (initial_of P)
  pub reactions : (c : Configuration) (i o : SignalSet) (c' : Configuration) → IsConfiguration P.process c → Reacts P c i o c' → SystemReacts E (code_of P.process c) i o (code_of P.process c')

-- the ordered system reacts as the woven program does, at the codes of all woven configurations
pub record IsWovenMachineOf (P : PlainModule) (aspects : List Aspect) (E : Equations) : Type 0 where
  pub ordered : IsOrdered E
  pub inputs : E.inputs ≡ input_count P
  pub outputs : length E.outputs ≡ output_count P
  pub initial : E.initial ≡ woven_code P aspects (woven_initial P aspects)
  pub reactions : (x : WovenConfiguration) (i o : SignalSet) (y : WovenConfiguration) → IsWovenConfiguration P aspects x → WovenStep P aspects x i o y → SystemReacts E (woven_code P aspects x) i o (woven_code P aspects y)

-- The systems of a base and of an observer move together along the trace, from the memories m and n to m' and n'.
abbrev pub MoveAlong : Equations → Equations → List Seen → List ℕ → List ℕ → List SignalSet → List ℕ → List ℕ → Type 0
MoveAlong W J seen m n [] m' n' = (m' ≡ m) × (n' ≡ n)
MoveAlong W J seen m n (v ∷ trace) m' n' = (o emitted : SignalSet) × (k l : List ℕ) × SystemReacts W m v o k × SystemReacts J n (observed seen v o) emitted l × MoveAlong W J seen k l trace m' n'

-- the memories are those behind the trace, from the initial codes of both on, put behind each other
pub record AreReached (W J : Equations) (seen : List Seen) (trace : List SignalSet) (memories : List ℕ) : Type 0 where
  pub base : List ℕ
  pub observer : List ℕ
  pub moves : MoveAlong W J seen W.initial J.initial trace base observer
  pub are : memories ≡ base ++ observer

-- for advice that starts at the initial pair, these are the memories behind its trace; else nothing is asked
abbrev pub AreAdvised : Equations → Equations → List Seen → Advice → Onset → List ℕ → Type 0
AreAdvised W J seen A to_initial memories = AreReached W J seen A.trace memories
AreAdvised W J seen A to_current memories = Unit {0}

-- the second of two ordered systems can observe the first: it has an input for each signal that is seen, each of which exists, and the join point as its output
pub record CanObserve (W J : Equations) (seen : List Seen) : Type 0 where
  pub base : IsOrdered W
  pub observer : IsOrdered J
  pub seen_sized : length seen ≡ J.inputs
  pub seen_exist : AreBelow W.inputs (length W.outputs) seen
  pub one_output : length J.outputs ≡ 1

-- and the advice is over the interface of the first
pub record CanJoin (W J : Equations) (seen : List Seen) (A : Advice) : Type 0 where
  pub observes : CanObserve W J seen
  pub outs_sized : length A.outs ≡ length W.outputs
  pub trace_sized : AreSized W.inputs A.trace

-- the numbers of the woven system fit 32 bits
pub record HasRoom (W J : Equations) (seen : List Seen) (A : Advice) : Type 0 where
  pub bits : output_bit W J seen A + length W.outputs < 2 ^ 32
  pub words : next_word W J seen A + (registers W + registers J) < 2 ^ 32

-- E is woven from W, J and A, with the memories that the advice asks
pub record IsJoined (W J : Equations) (seen : List Seen) (A : Advice) (E : Equations) : Type 0 where
  pub memories : List ℕ
  pub advised : AreAdvised W J seen A A.onset memories
  pub fit : all_below 65536 memories ≡ true
  pub is : E ≡ woven_equations W J seen A memories

-- it has few enough registers and lines
pub record IsShort (W J : Equations) (seen : List Seen) (A : Advice) : Type 0 where
  pub register_limit : registers W + registers J ≤ limits.register_limit
  pub line_limit : (length (copies W J seen A) + 1) * (length W.lines + length J.lines) + length W.outputs + (registers W + registers J) + 2 ≤ limits.woven_line_limit
