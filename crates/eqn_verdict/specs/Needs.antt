-- How many operations on diagrams the jobs make at most. Source: this project.
use Rattle.std.specs.Prelude.{ℕ, ◌+◌, ◌*◌, ◌^◌, ◌<◌, ◌≤◌}

-- The sizes of a job: the weight of the system, its registers, its outputs, its variables for register bits and inputs, and those for cyclic bits.
pub record JobSize : Type 0 where
  pub weight : ℕ
  pub registers : ℕ
  pub outputs : ℕ
  pub points : ℕ
  pub cyclic : ℕ

abbrev pub variables : JobSize → ℕ
variables j = j.points + j.cyclic

-- a function for each output, and for each of the sixteen digits of a next word
abbrev pub results : JobSize → ℕ
results j = j.outputs + 16 * j.registers

-- the diagrams of the lines, and of the structural memories, as their bounds count them
abbrev pub making_operations : JobSize → ℕ
making_operations j = (64 * j.weight + variables j) + (128 * j.registers + variables j)

-- for each cyclic bit its variable, the opposite, a choice and a conjunction
abbrev pub agreeing_operations : JobSize → ℕ
agreeing_operations j = 4 * j.cyclic

-- The cyclic bits are in parts, at most one for each. Whether some part has no consistent values: for each part each cyclic bit quantified, and met with the others; and the opposite. For each result the parts that it reads met; it and its opposite, each met with what is consistent there and quantified, the two met, and joined to the others. Then joined, and met with the structural memories.
abbrev pub testing_operations : JobSize → ℕ
testing_operations j = (j.cyclic * (j.cyclic + 1) + 1) + results j * (5 + 3 * j.cyclic) + 2

-- the variables pinned, each with its opposite and a conjunction, and met with what is consistent in each part
abbrev pub pinning_operations : JobSize → ℕ
pinning_operations j = 3 * j.points + j.cyclic

-- for each result the opposite, and both conjunctions
abbrev pub taking_operations : JobSize → ℕ
taking_operations j = 3 * results j

-- for each result the opposite, and a conjunction; then the opposite of all, and a conjunction
abbrev pub leaving_operations : JobSize → ℕ
leaving_operations j = 2 * results j + 2

abbrev pub instant_operations : JobSize → ℕ
instant_operations j = making_operations j + agreeing_operations j + testing_operations j + pinning_operations j + taking_operations j + leaving_operations j + taking_operations j

-- each part is met with the structural memories; and for each cyclic bit it is set to false, the later ones are quantified, the opposite is taken and met with the structural memories, it is set to true, and a choice is made
abbrev pub solve_operations : JobSize → ℕ
solve_operations j = making_operations j + agreeing_operations j + j.cyclic + j.cyclic * (5 + j.cyclic)

-- the count by which the need of both jobs is reckoned
abbrev pub counted_operations : JobSize → ℕ
counted_operations j = 4 * j.weight * (variables j + 16) + 16 * (j.outputs + variables j + 16) ^ 2

-- where there are at least as many register bits as registers, it is enough
abbrev pub CountedAreEnough : Type 0
CountedAreEnough = (j : JobSize) → j.registers ≤ j.points → (instant_operations j < counted_operations j) × (solve_operations j < counted_operations j)

-- and acceptance counts at least as many, by the size of the module
abbrev pub AcceptanceCountsMore : Type 0
AcceptanceCountsMore = (j : JobSize) (size : ℕ) → j.weight ≤ 32 * size → j.outputs ≤ size → counted_operations j ≤ 64 * (size + variables j + 16) ^ 2
