-- The functions of a check for equivalence, from those of two systems that react as the programs do. Source: this project.
use Rattle.std.specs.Prelude.{◌≡◌, ◌↔◌, ℕ, ◌+◌, List, [], Bool, true, map, length}
use Rattle.std.specs.List.{range_with_len}
use Rattle.argos_base.specs.Names.{place_of}
use Rattle.argos_base.specs.SignalSets.{SignalSet}
use Rattle.argos_core.specs.Codes.{IsStructural}
use Rattle.argos_core.specs.FirstBad.{ReactsCoded}
use Rattle.argos_core.specs.Layouts.{RegisterShape, layout_of, FitsLayout}
use Rattle.argos_core.specs.Process.{PlainModule}
use Rattle.argos_core.specs.Reactions.{input_count}
use Rattle.dd_core.specs.Functions.{Function}
use Rattle.argos_congruence.specs.Moved.{moved_inputs}
use Rattle.argos_congruence.specs.NamedSets.{number_or_zero}
use Rattle.eqn_completion.specs.Binary.{digits_in, FitsIn}
use Rattle.eqn_core.specs.Equations.{Equations}
use Rattle.eqn_core.specs.Solutions.{SystemReacts}
use Rattle.eqn_dd.specs.declared.places.Places.{Places}
use Rattle.eqn_dd.specs.Placed.{memory_at, inputs_at, registers_from}
use Rattle.bisim_formula.specs.Formulas.{Formula, related}
use Rattle.bisim_verdict.specs.EquivTests.{point, variables, Tests, some_differ}

-- the other program's inputs: each is the variable of the first one's input of that name
abbrev pub moved_variables : ℕ → PlainModule → PlainModule → List ℕ
moved_variables first P Q = map (λ name. first + number_or_zero (place_of P.inputs name)) Q.inputs

-- The variables of both programs, numbered from 0: the digits of the left registers, those of the right ones, and the left inputs. The right program reads the variables of the left inputs with its names.
pub record ArePlacedTogether (P Q : PlainModule) (lefts rights : List ℕ) (p q : Places) : Type 0 where
  pub left_registers : p.regs.items ≡ registers_from 0 lefts
  pub right_registers : q.regs.items ≡ registers_from (digits_in lefts) rights
  pub left_inputs : p.inputs.items ≡ range_with_len (digits_in lefts + digits_in rights) (input_count P)
  pub right_inputs : q.inputs.items ≡ moved_variables (digits_in lefts + digits_in rights) P Q
  pub left_cyclic : p.cyclic.items ≡ []
  pub right_cyclic : q.cyclic.items ≡ []

-- outputs and next memories of both programs, and which memories are structural, at values of the variables
pub record Functions : Type 0 where
  pub left_structural : Function
  pub right_structural : Function
  pub left_outputs : List Bool → SignalSet
  pub right_outputs : List Bool → SignalSet
  pub left_next : List Bool → List ℕ
  pub right_next : List Bool → List ℕ

-- what these say at two memories and an input set, the right program reading the input set moved by name
pub record AreFunctionsOf (P Q : PlainModule) (lefts rights : List ℕ) (f : Functions) : Type 0 where
  pub left_is : (m n : List ℕ) (i : SignalSet) → FitsIn lefts m → FitsIn rights n → length i ≡ input_count P → (f.left_structural (point lefts rights m n i) ≡ true) ↔ IsStructural P.process m
  pub right_is : (m n : List ℕ) (i : SignalSet) → FitsIn lefts m → FitsIn rights n → length i ≡ input_count P → (f.right_structural (point lefts rights m n i) ≡ true) ↔ IsStructural Q.process n
  pub left_outputs_are : (m n : List ℕ) (i o : SignalSet) (m' : List ℕ) → FitsIn rights n → ReactsCoded P m i o m' → f.left_outputs (point lefts rights m n i) ≡ o
  pub left_next_is : (m n : List ℕ) (i o : SignalSet) (m' : List ℕ) → FitsIn rights n → ReactsCoded P m i o m' → f.left_next (point lefts rights m n i) ≡ m'
  pub right_outputs_are : (m n : List ℕ) (i p : SignalSet) (n' : List ℕ) → FitsIn lefts m → length i ≡ input_count P → ReactsCoded Q n (moved_inputs P Q i) p n' → f.right_outputs (point lefts rights m n i) ≡ p
  pub right_next_is : (m n : List ℕ) (i p : SignalSet) (n' : List ℕ) → FitsIn lefts m → length i ≡ input_count P → ReactsCoded Q n (moved_inputs P Q i) p n' → f.right_next (point lefts rights m n i) ≡ n'

-- the five functions that decide
abbrev pub tests_of : Formula → PlainModule → PlainModule → Places → Places → Functions → Tests
tests_of F P Q p q f = record {
  related = λ x. related P Q F (memory_at p x) (memory_at q x);
  left = f.left_structural;
  right = f.right_structural;
  differ = λ x. some_differ P.outputs P Q (f.left_outputs x) (f.right_outputs x);
  next_related = λ x. related P Q F (f.left_next x) (f.right_next x);
}

-- At all values of v variables these outputs and next memory are those of the system's reaction, where its registers and inputs are read by these places.
abbrev pub DenoteReactions : ℕ → Equations → Places → (List Bool → SignalSet) → (List Bool → List ℕ) → Type 0
DenoteReactions v E p outputs next = (x : List Bool) (o : SignalSet) (m' : List ℕ) → length x ≡ v → SystemReacts E (memory_at p x) (inputs_at p x) o m' → (outputs x ≡ o) × (next x ≡ m')

-- and the function is true where the memory so read fits the layout
abbrev pub DenotesStructural : ℕ → List RegisterShape → Places → Function → Type 0
DenotesStructural v layout p f = (x : List Bool) → length x ≡ v → (f x ≡ true) ↔ FitsLayout layout (memory_at p x)

-- the system reacts as the program does
abbrev pub ReactsAs : Equations → PlainModule → Type 0
ReactsAs E P = (m : List ℕ) (i o : SignalSet) (m' : List ℕ) → ReactsCoded P m i o m' → SystemReacts E m i o m'

-- the functions are made of two systems, each over its places
pub record AreMadeOf (P Q : PlainModule) (lefts rights : List ℕ) (p q : Places) (E G : Equations) (f : Functions) : Type 0 where
  pub left_reacts : ReactsAs E P
  pub right_reacts : ReactsAs G Q
  pub left : DenoteReactions (variables P lefts rights) E p f.left_outputs f.left_next
  pub right : DenoteReactions (variables P lefts rights) G q f.right_outputs f.right_next
  pub left_structural : DenotesStructural (variables P lefts rights) (layout_of P.process) p f.left_structural
  pub right_structural : DenotesStructural (variables P lefts rights) (layout_of Q.process) q f.right_structural
