-- Commands, as code tells them apart.
use Rattle.std.specs.Prelude.{◌≡◌, ℕ, ◌≤◌, List, [], length, map, string_bytes}
use Rattle.argos_base.specs.Limits.{aspect_limit, node_limit, sample_limit}
use Rattle.argos_words.specs.Views.{target_of}
use Rattle.argos_words.specs.Words.{Words, Target, Command, check, compile, weave, simulate, equiv, sample}
use Rattle.argos_top.specs.declared.run.Job.{Job}
use Rattle.argos_top.specs.declared.run.Job.TheVariants as job

-- the command writes the program of this file with the aspects of these files so, with so many nodes
pub data Writes : Command → List ℕ → Words → Target → ℕ → Type 0 where
  compiles : (file : List ℕ) (to : Target) (nodes : ℕ) → Writes (compile file to nodes) file [] to nodes
  weaves : (file : List ℕ) (aspects : Words) (to : Target) (nodes : ℕ) → Writes (weave file aspects to nodes) file aspects to nodes

-- this is what the command has to do, with these files and so many nodes
abbrev pub IsJobOf : Job → Command → Type 0
IsJobOf (job.Check file nodes) c = c ≡ check file.now nodes
IsJobOf (job.Simulation file aspects nodes) c = c ≡ simulate file.now (map string_bytes aspects.now) nodes
IsJobOf (job.Comparison left right cert nodes) c = c ≡ equiv left.now right.now cert.now nodes
IsJobOf (job.Writing file aspects to nodes) c = Writes c file.now (map string_bytes aspects.now) (target_of to) nodes
IsJobOf (job.Sample count) c = c ≡ sample count

-- an arena can have so many nodes
pub record AreNodes (n : ℕ) : Type 0 where
  pub least : 2 ≤ n
  pub greatest : n ≤ node_limit

-- a sample can have so many automata
pub record IsSampleCount (n : ℕ) : Type 0 where
  pub least : 1 ≤ n
  pub greatest : n ≤ sample_limit

-- a job can have so many nodes, and there are few enough aspects, or automata
abbrev pub KeepsLimits : Command → Type 0
KeepsLimits (simulate file aspects nodes) = AreNodes nodes × (length aspects ≤ aspect_limit)
KeepsLimits (check file nodes) = AreNodes nodes
KeepsLimits (compile file to nodes) = AreNodes nodes
KeepsLimits (weave file aspects to nodes) = AreNodes nodes × (length aspects ≤ aspect_limit)
KeepsLimits (equiv left right cert nodes) = AreNodes nodes
KeepsLimits (sample n) = IsSampleCount n
