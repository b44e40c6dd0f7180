-- How many operations on diagrams a check for equivalence makes, and how many it is allowed. Source: this project.
use Rattle.std.specs.Prelude.{ℕ, ◌+◌, ◌*◌, ◌^◌}

-- The sizes of the job: the weight of both systems, the variables, the registers of both, the left outputs, and the formula's nodes.
pub record EquivSize : Type 0 where
  pub weight : ℕ
  pub variables : ℕ
  pub registers : ℕ
  pub outputs : ℕ
  pub formula : ℕ

-- the diagrams of both systems, and of the structural memories of both, as their bounds count them; the formula twice, an atom being 49 at most and an operand one more; three for each output; and what joins these
abbrev pub equiv_operations : EquivSize → ℕ
equiv_operations j = (64 * j.weight + 2 * j.variables) + (128 * j.registers + 2 * j.variables) + 2 * (50 * j.formula) + 3 * j.outputs + 16

-- the count by which the job's need is reckoned
abbrev pub counted_operations : EquivSize → ℕ
counted_operations j = 4 * j.weight * (j.variables + 16) + 16 * (j.outputs + j.formula + j.variables + 16) ^ 2
