-- How many operations on diagrams the steps make at most: a variables are points, c are cyclic bits, and r is the number of results. Source: this project.
use Rattle.std.specs.Prelude.{ℕ, ◌+◌, ◌*◌}

-- for each cyclic bit its variable, the opposite, a choice and a conjunction
abbrev pub agreeing_count : ℕ → ℕ
agreeing_count c = 4 * c

-- There are at most c parts. Whether some part has no consistent values: for each part each cyclic bit quantified, and met with the others; and the opposite. For each result the parts that it reads met; it and its opposite, each met with what is consistent there and quantified, the two met, and joined to the others. Then joined, and met with the structural points.
abbrev pub testing_count : ℕ → ℕ → ℕ
testing_count c r = (c * (c + 1) + 1) + r * (5 + 3 * c) + 2

-- the variables pinned, each with its opposite and a conjunction, and met with what is consistent in each part
abbrev pub pinning_count : ℕ → ℕ → ℕ
pinning_count a c = 3 * a + c

-- for each result the opposite, and both conjunctions
abbrev pub taking_count : ℕ → ℕ
taking_count r = 3 * r

-- for each result the opposite, and a conjunction; then the opposite of all, and a conjunction
abbrev pub leaving_count : ℕ → ℕ
leaving_count r = 2 * r + 2

-- from what is consistent to the verdict
abbrev pub finding_count : ℕ → ℕ → ℕ → ℕ
finding_count a c r = testing_count c r + pinning_count a c + taking_count r + leaving_count r + taking_count r

-- for each part a conjunction; and for each cyclic bit it is set to false, the later ones are quantified, the opposite is taken and met with the structural points, it is set to true, and a choice is made
abbrev pub solving_count : ℕ → ℕ
solving_count c = c + c * (5 + c)
