-- Laws of the equation scheme. Source: this project.
use Rattle.std.specs.Prelude.{◌≡◌, ◌↔◌, ℕ, ◌+◌, ◌*◌, ◌<◌, ◌≤◌, List, true, false, length}
use Rattle.argos_base.specs.SignalSets.{SignalSet, has, set_where}
use Rattle.argos_core.specs.FirstBad.{ReactsCoded}
use Rattle.argos_core.specs.Modules.{IsModule}
use Rattle.argos_core.specs.Overlaps.{IsProgram}
use Rattle.argos_core.specs.Automata.{register_count}
use Rattle.argos_core.specs.Codes.{code_of, IsStructural}
use Rattle.argos_core.specs.Process.{Configuration, PlainModule}
use Rattle.argos_core.specs.Reactions.{input_count, output_count, signal_count, outputs_among, initial_of, Reacts}
use Rattle.argos_core.specs.Sizes.{size_of}
use Rattle.eqn_completion.specs.Completions.{SystemChooses}
use Rattle.eqn_core.specs.Equations.{registers, weight_of}
use Rattle.eqn_core.specs.Solutions.{SystemReacts}
use Rattle.eqn_scheme.specs.Scheme.{equations_of}
use Rattle.eqn_core.specs.Dependence.{IsCyclicBit}
use Rattle.eqn_core.specs.Orderable.{IsOrderable}
use Rattle.eqn_scheme.specs.LocalSets.{AreLocals, ProgramChooses}
use Rattle.eqn_scheme.specs.Settled.{ReactsWith}
use Rattle.eqn_scheme.specs.SignalDependence.{IsCyclic}
use Rattle.eqn_scheme.specs.Wired.{emits, next_codes, IsClosed}

-- at memory m and input set i the wired meaning has the outputs o and the next memory m', on some closed valuation that extends i
pub record WiredReacts (P : PlainModule) (m : List ℕ) (i o : SignalSet) (m' : List ℕ) : Type 0 where
  pub input : length i ≡ input_count P
  pub valuation : SignalSet
  pub sized : length valuation ≡ signal_count P
  pub extends : (k : ℕ) → k < input_count P → has valuation k ≡ has i k
  pub closed : IsClosed (signal_count P) P.process 0 m true valuation
  pub outputs : o ≡ outputs_among P (set_where (signal_count P) (emits P.process 0 m true valuation))
  pub next : m' ≡ next_codes P.process 0 m true false false valuation

-- of a program, at structural memories, these are exactly its reactions between codes
abbrev pub WiredAreReactions : Type 0
WiredAreReactions = (P : PlainModule) (m : List ℕ) (i o : SignalSet) (m' : List ℕ) → IsProgram P → IsStructural P.process m → (ReactsCoded P m i o m') ↔ (WiredReacts P m i o m')

-- and the next memory is structural
abbrev pub WiredStayStructural : Type 0
WiredStayStructural = (P : PlainModule) (m : List ℕ) (v : SignalSet) → IsProgram P → IsStructural P.process m → length v ≡ signal_count P → IsClosed (signal_count P) P.process 0 m true v → IsStructural P.process (next_codes P.process 0 m true false false v)

-- so are, at structural memories, the reactions of the equations
abbrev pub EquationsReact : Type 0
EquationsReact = (P : PlainModule) (m : List ℕ) (i o : SignalSet) (m' : List ℕ) → IsProgram P → IsStructural P.process m → (SystemReacts (equations_of P) m i o m') ↔ (ReactsCoded P m i o m')

-- the reactions of a module are those in which some set of locals is present
abbrev pub SettledAreReactions : Type 0
SettledAreReactions = (P : PlainModule) (c : Configuration) (i o : SignalSet) (c' : Configuration) → (Reacts P c i o c') ↔ ((l : SignalSet) × ReactsWith P c i l o c')

-- At structural memories the sets of locals that solutions of a program's equations have, the bit of local k being bit k, are exactly those that are present in reactions; so the least of them is the same.
abbrev pub EquationsChooseLocals : Type 0
EquationsChooseLocals = (P : PlainModule) (ks m : List ℕ) (i chosen : SignalSet) → IsProgram P → AreLocals P ks → IsStructural P.process m → (SystemChooses (equations_of P) ks m i chosen) ↔ (ProgramChooses P ks m i chosen)

-- and the next words of every solution there are a structural memory
abbrev pub EquationsStayStructural : Type 0
EquationsStayStructural = (P : PlainModule) (m : List ℕ) (i o : SignalSet) (m' : List ℕ) → IsProgram P → IsStructural P.process m → SystemReacts (equations_of P) m i o m' → IsStructural P.process m'

-- the equations have at most so many lines, and at most this weight
abbrev pub EquationsAreSmall : Type 0
EquationsAreSmall = (P : PlainModule) → (length (equations_of P).lines ≤ 8 * size_of P) × (weight_of (equations_of P) ≤ 32 * size_of P)

-- each cycle among their bits passes the bit of a local, and each number names a bit or a word that exists
abbrev pub EquationsAreOrderable : Type 0
EquationsAreOrderable = (P : PlainModule) → IsModule P → IsOrderable (equations_of P)

-- the bit of a local, which has the local's number, depends on itself exactly where the local does
abbrev pub CyclicBitsAreCyclicLocals : Type 0
CyclicBitsAreCyclicLocals = (P : PlainModule) (k : ℕ) → IsModule P → input_count P + output_count P ≤ k → k < signal_count P → (IsCyclicBit (equations_of P) k) ↔ (IsCyclic P k)

-- the initial codes are the code of the initial configuration, and there is one for each automaton
abbrev pub InitialCodesAreCoded : Type 0
InitialCodesAreCoded = (P : PlainModule) → IsModule P → ((equations_of P).initial ≡ code_of P.process (initial_of P)) × (registers (equations_of P) ≡ register_count P.process)
