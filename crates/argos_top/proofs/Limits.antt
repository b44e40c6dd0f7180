-- The words of a command give as many nodes as an arena can have, and few enough aspects.
use Rattle.std.proofs.Common.{◌≡◌, ℕ, ◌≤◌, List, [], ◌∷◌, codes, length, map, string_bytes, refl, sym, subst, arith}
use Rattle.std.proofs.lemmas.List.{length-map}
use Rattle.std.specs.Prelude.{String}
use Rattle.std.specs.declared.alloc.Global.{Global}
use Rattle.argos_base.specs.Limits.{aspect_limit}
use Rattle.argos_words.specs.Words.{Words, Target, Command, check, compile, weave, simulate, equiv, sample, IsBudget, HasParts, Given, values_of, IsCommand}
use Rattle.argos_top.specs.Clauses.{Simulates}
use Rattle.argos_top.specs.inner.Commands.{AreNodes, KeepsLimits, Writes, compiles, weaves}

fit : (vs : Words) (n : ℕ) → IsBudget vs n → AreNodes n
fit [] n h = record { least = omega (arith, h); greatest = omega (arith, h) }
fit (v ∷ []) n h = record { least = h.least; greatest = h.most }
fit (v ∷ v' ∷ vs) n h = absurd h

of_parts : (c : Command) (ps : Words) (gs : List Given) → HasParts c ps gs → KeepsLimits c
of_parts (check file nodes) ps gs h = fit (values_of (codes "nodes") gs) nodes h.1.1
of_parts (compile file to nodes) ps gs h = fit (values_of (codes "nodes") gs) nodes h.1.2
of_parts (weave file aspects to nodes) ps gs h = (fit (values_of (codes "nodes") gs) nodes h.3.2, h.2)
of_parts (simulate file aspects nodes) ps gs h = (fit (values_of (codes "nodes") gs) nodes h.2.1, h.1)
of_parts (equiv left right cert nodes) ps gs h = fit (values_of (codes "nodes") gs) nodes h.1.1
of_parts (sample n) ps gs h = record { least = h.2.least; greatest = h.2.most }

pub commands_keep_limits : (words : Words) (c : Command) → IsCommand words c → KeepsLimits c
commands_keep_limits words c is = of_parts c is.plains is.options is.parts

-- so does a command that writes a file
pub writes_nodes : (c : Command) (file : List ℕ) (aspects : Words) (to : Target) (nodes : ℕ) → Writes c file aspects to nodes → KeepsLimits c → AreNodes nodes
writes_nodes c file aspects to nodes (compiles f t n) h = h
writes_nodes c file aspects to nodes (weaves f names t n) h = h.0

pub writes_few : (c : Command) (file : List ℕ) (aspects : Words) (to : Target) (nodes : ℕ) → Writes c file aspects to nodes → KeepsLimits c → length aspects ≤ aspect_limit
writes_few c file aspects to nodes (compiles f t n) h = omega arith
writes_few c file aspects to nodes (weaves f names t n) h = h.1

-- the names of the aspects as strings
pub few_strings : (names : List (String Global)) → length (map string_bytes names) ≤ aspect_limit → length names ≤ aspect_limit
few_strings names h = let e = length-map names string_bytes in omega arith

pub simulating : (words : Words) (file : List ℕ) (aspects : Words) (nodes : ℕ) → IsCommand words (simulate file aspects nodes) → Simulates words
simulating words file aspects nodes is = (simulate file aspects nodes, is, refl)

-- the command that writes so
pub writes_compiled : (command : Command) (file result : List ℕ) (to : Target) (nodes : ℕ) → command ≡ compile file to nodes → result ≡ file → Writes command result [] to nodes
writes_compiled command file result to nodes is same = subst (λ c. Writes c result [] to nodes) (sym is) (subst (λ f. Writes (compile f to nodes) result [] to nodes) same (compiles result to nodes))

pub writes_woven : (command : Command) (file result : List ℕ) (aspects given : List (String Global)) (to : Target) (nodes : ℕ) → command ≡ weave file (map string_bytes aspects) to nodes → result ≡ file → given ≡ aspects
    → Writes command result (map string_bytes given) to nodes
writes_woven command file result aspects given to nodes is same names =
    subst (λ c. Writes c result (map string_bytes given) to nodes) (sym is)
    (subst (λ f. Writes (weave f (map string_bytes aspects) to nodes) result (map string_bytes given) to nodes) same
    (subst (λ (xs : List (String Global)). Writes (weave result (map string_bytes xs) to nodes) result (map string_bytes given) to nodes) names (weaves result (map string_bytes given) to nodes)))
