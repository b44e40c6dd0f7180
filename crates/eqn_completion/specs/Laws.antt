-- Laws of completions, of systems whose lines are moved, and of memories in binary digits. Source: this project.
use Rattle.std.specs.Prelude.{◌≡◌, ◌↔◌, ℕ, suc, ◌-◌, ◌/◌, ◌%◌, ◌^◌, ◌≤◌, ◌<◌, nat_eq, List, [], ◌++◌, Bool, true, length, drop, Some, slice_get, slice_index_or}
use Rattle.argos_base.specs.Machines.{case_key, AlwaysReactsOnce}
use Rattle.argos_base.specs.Orders.{IsEarlier, digits}
use Rattle.argos_base.specs.SignalSets.{SignalSet, has}
use Rattle.eqn_core.specs.Dependence.{Item, Defines}
use Rattle.eqn_core.specs.Equations.{Line, Equations, registers, weight_of}
use Rattle.eqn_core.specs.Orderable.{IsOrderable}
use Rattle.eqn_core.specs.Ordered.{all_below, IsOrdered}
use Rattle.eqn_core.specs.Plans.{IsPlanOf}
use Rattle.eqn_core.specs.Solutions.{Values, bit_of, Solves, SystemReacts}
use Rattle.eqn_completion.specs.Binary.{code_bits, in_binary, memory_of, digits_in, FitsIn}
use Rattle.eqn_completion.specs.Completions.{as_read, HasValue, IsCompletion, IsConsistent, HasOneCompletion}
use Rattle.eqn_completion.specs.Sorted.{sorted_system}

-- with a plan, there is exactly one completion at each memory, input set and values of the cyclic bits
abbrev pub CompletesOnce : Type 0
CompletesOnce = (E : Equations) (order cyclic m : List ℕ) (i x : SignalSet) → IsPlanOf E order cyclic → length m ≡ registers E → length i ≡ E.inputs → length x ≡ length cyclic → HasOneCompletion E cyclic m i x

-- the solutions are exactly the completions that are consistent
abbrev pub SolutionsComplete : Type 0
SolutionsComplete = (E : Equations) (cyclic m : List ℕ) (i : SignalSet) (s : Values) → length m ≡ registers E → length i ≡ E.inputs → (Solves E m i s) ↔ ((x : SignalSet) × (IsCompletion E cyclic m i x s × IsConsistent cyclic x s))

-- in a completion each item has the value of its line, on what is read
abbrev pub CompletionsFollowLines : Type 0
CompletionsFollowLines = (E : Equations) (cyclic m : List ℕ) (i x : SignalSet) (s : Values) (place : ℕ) (line : Line) (y : Item) → length m ≡ registers E → length i ≡ E.inputs → IsCompletion E cyclic m i x s → Defines E place line y → HasValue s y (as_read cyclic x s) line

-- and of a cyclic bit its given value is read
abbrev pub GivenAreRead : Type 0
GivenAreRead = (E : Equations) (order cyclic : List ℕ) (x : SignalSet) (s : Values) (j k : ℕ) → IsOrderable E → IsPlanOf E order cyclic → length x ≡ length cyclic → slice_get cyclic j ≡ Some k → k < length s.bits → bit_of (as_read cyclic x s) k ≡ has x j

-- where the memory holds codes, so does each word of a completion
abbrev pub CompletionsHaveCodes : Type 0
CompletionsHaveCodes = (E : Equations) (cyclic m : List ℕ) (i x : SignalSet) (s : Values) → IsOrderable E → length m ≡ registers E → ((k : ℕ) → slice_index_or m k 0 < 65536) → IsCompletion E cyclic m i x s → (k : ℕ) → slice_index_or s.words k 0 < 65536

-- where no bit is cyclic the system reacts once at all memories
abbrev pub AcyclicReactOnce : Type 0
AcyclicReactOnce = (E : Equations) (order : List ℕ) → IsPlanOf E order [] → AlwaysReactsOnce (λ m. length m ≡ registers E) E.inputs (SystemReacts E)

-- its lines in the order of the plan are an ordered system
abbrev pub SortedAreOrdered : Type 0
SortedAreOrdered = (E : Equations) (order : List ℕ) → IsOrderable E → IsPlanOf E order [] → 1 ≤ registers E → all_below 65536 E.initial ≡ true → IsOrdered (sorted_system E order)

-- with the same reactions at all memories
abbrev pub SortedReact : Type 0
SortedReact = (E : Equations) (order : List ℕ) → IsOrderable E → IsPlanOf E order [] → IsOrdered (sorted_system E order) → (m : List ℕ) (i o : SignalSet) (n : List ℕ) → (SystemReacts (sorted_system E order) m i o n) ↔ (SystemReacts E m i o n)

-- with no more lines, and with no more weight
abbrev pub SortedAreSmall : Type 0
SortedAreSmall = (E : Equations) (order : List ℕ) → IsPlanOf E order [] → (length (sorted_system E order).lines ≤ length E.lines) × (weight_of (sorted_system E order) ≤ weight_of E)

-- cases are in the order of their digits: register by register, the most significant digit first, and then the inputs
abbrev pub CasesInOrder : Type 0
CasesInOrder = (widths m n : List ℕ) (i j : SignalSet) → FitsIn widths m → FitsIn widths n → length i ≡ length j → (IsEarlier (case_key m i) (case_key n j)) ↔ (IsEarlier (digits (in_binary widths m ++ i)) (digits (in_binary widths n ++ j)))

-- the digits of a memory tell it, whatever stands behind them
abbrev pub MemoriesFromDigits : Type 0
MemoriesFromDigits = (widths m : List ℕ) (more : List Bool) → FitsIn widths m → memory_of widths (in_binary widths m ++ more) ≡ m

-- and enough digits are those of a memory that has so many digits, and what stands behind them
abbrev pub DigitsFromMemories : Type 0
DigitsFromMemories = (widths : List ℕ) (bits : List Bool) → digits_in widths ≤ length bits → FitsIn widths (memory_of widths bits) × (in_binary widths (memory_of widths bits) ++ drop (digits_in widths) bits ≡ bits)

-- the v-th of w digits, of which the first is the most significant
abbrev pub DigitsByDivision : Type 0
DigitsByDivision = (w a v : ℕ) → a < 2 ^ w → v < w → has (code_bits w a) v ≡ nat_eq (a / 2 ^ (w - suc v) % 2) 1
