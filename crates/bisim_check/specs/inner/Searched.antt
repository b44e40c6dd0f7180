-- What the search over the diagrams of both programs finds.
use Rattle.std.specs.Prelude.{◌≡◌, ◌≢◌, ℕ, ◌+◌, ◌*◌, ◌<◌, List, Bool, false, ◌&&◌, not, Some, Vec, map, slice_get, slice_index_or}
use Rattle.std.specs.declared.alloc.Global.{Global}
use Rattle.argos_base.specs.Names.{Spelled, place_of}
use Rattle.argos_congruence.specs.NamedSets.{has_name, number_or_zero}
use Rattle.argos_core.specs.Layouts.{RegisterShape, layout_of}
use Rattle.argos_core.specs.Process.{PlainModule}
use Rattle.bisim_check.specs.Jobs.{job_variables}
use Rattle.bisim_check.specs.inner.Nodes.{codes_at, any_differs, AreDrawn}
use Rattle.bisim_check.specs.declared.diagrams.ProgramDiagrams.{ProgramDiagrams}
use Rattle.bisim_check.specs.declared.searching.Drawn.{Drawn}
use Rattle.bisim_check.specs.declared.searching.Outcome.{Outcome}
use Rattle.bisim_check.specs.declared.searching.Outcome.TheVariants as outcome
use Rattle.bisim_formula.specs.Formulas.{Formula, related_by, formula_size}
use Rattle.bisim_verdict.specs.EquivFunctions.{Functions, AreMadeOf, tests_of}
use Rattle.bisim_verdict.specs.EquivTests.{differing, leaving}
use Rattle.dd_core.specs.declared.nodes.NodeId.{NodeId}
use Rattle.dd_core.specs.Arenas.{ArenaView, function_of}
use Rattle.dd_core.specs.Functions.{Function, constant, AreEqual}
use Rattle.dd_ops.specs.Least.{IsLeast}
use Rattle.eqn_core.specs.Equations.{Equations, registers, weight_of}
use Rattle.eqn_dd.specs.declared.places.Places.{Places}
use Rattle.eqn_dd.specs.Denoting.{Denotes, values_at}
use Rattle.eqn_dd.specs.Placed.{memory_at}
use Rattle.eqn_dd.specs.Structural.{widths_of}

-- how many digits each register of a program has
abbrev pub digits_of : PlainModule → List ℕ
digits_of P = widths_of (layout_of P.process)

-- the functions that the diagrams of both programs are
abbrev pub functions_of : ArenaView → ProgramDiagrams → ProgramDiagrams → Functions
functions_of arena l r = record {
  left_structural = function_of arena l.structural.0;
  right_structural = function_of arena r.structural.0;
  left_outputs = values_at arena l.outputs.items;
  right_outputs = values_at arena r.outputs.items;
  left_next = codes_at arena l.next.items;
  right_next = codes_at arena r.next.items;
}

-- at these values the output with this place among the left names is the first that the functions give differently
pub record IsToldFirst (P Q : PlainModule) (f : Functions) (x : List Bool) (place : ℕ) : Type 0 where
  pub name : Spelled
  pub at : slice_get P.outputs place ≡ Some name
  pub differ : has_name P.outputs (f.left_outputs x) name ≢ has_name Q.outputs (f.right_outputs x) name
  pub first : (k : ℕ) (other : Spelled) → k < place → slice_get P.outputs k ≡ Some other → has_name P.outputs (f.left_outputs x) other ≡ has_name Q.outputs (f.right_outputs x) other

-- where these functions decide, this is found
abbrev pub IsFoundBy : Formula → PlainModule → PlainModule → Places → Places → Functions → Outcome → Type 0
IsFoundBy F P Q p q f outcome.Accept = AreEqual (job_variables P Q) (differing (tests_of F P Q p q f)) (constant false) × AreEqual (job_variables P Q) (leaving (tests_of F P Q p q f)) (constant false)
IsFoundBy F P Q p q f (outcome.Outputs at place) = IsLeast (job_variables P Q) (differing (tests_of F P Q p q f)) at.items × IsToldFirst P Q f at.items place
IsFoundBy F P Q p q f (outcome.Leaves at) = AreEqual (job_variables P Q) (differing (tests_of F P Q p q f)) (constant false) × IsLeast (job_variables P Q) (leaving (tests_of F P Q p q f)) at.items

-- functions made of two systems decide so
pub record IsOutcome (F : Formula) (P Q : PlainModule) (p q : Places) (E G : Equations) (o : Outcome) : Type 0 where
  pub functions : Functions
  pub made : AreMadeOf P Q (digits_of P) (digits_of Q) p q E G functions
  pub is : IsFoundBy F P Q p q functions o

-- the operations that make the diagrams of both programs, and the node of their related structural memories
abbrev pub drawing_operations : ℕ → Formula → Equations → Equations → ℕ
drawing_operations v F E G = (64 * weight_of E + v + (128 * registers E + v)) + (64 * weight_of G + v + (128 * registers G + v)) + 50 * formula_size F + 2

-- the formula holds of the memories that the places read, and these fit the layouts
abbrev pub pairs_function : ArenaView → Formula → List RegisterShape → List RegisterShape → Places → Places → ProgramDiagrams → ProgramDiagrams → Function
pairs_function arena F ls rs p q l r x = related_by ls rs F (memory_at p x) (memory_at q x) && (function_of arena l.structural.0 x && function_of arena r.structural.0 x)

pub record IsDrawn (F : Formula) (ls rs : List RegisterShape) (p q : Places) (E G : Equations) (arena : ArenaView) (d : Drawn) : Type 0 where
  pub left : AreDrawn arena E ls p d.left
  pub right : AreDrawn arena G rs q d.right
  pub pairs : Denotes arena d.pairs.0 (pairs_function arena F ls rs p q d.left d.right)

-- for each left name the right node of that name, false where there is none
abbrev pub in_left_order : PlainModule → PlainModule → List NodeId → List NodeId
in_left_order P Q nodes = map (λ name. slice_index_or nodes (number_or_zero (place_of Q.outputs name)) (record { 0 = 0 })) P.outputs

abbrev pub differing_function : ArenaView → ℕ → List NodeId → List NodeId → Function
differing_function arena pairs lefts rights x = function_of arena pairs x && any_differs (values_at arena lefts x) (values_at arena rights x)

abbrev pub leaving_function : ArenaView → ℕ → List RegisterShape → List RegisterShape → Formula → List (Vec NodeId Global) → List (Vec NodeId Global) → Function
leaving_function arena pairs ls rs F lefts rights x = function_of arena pairs x && not (related_by ls rs F (codes_at arena lefts x) (codes_at arena rights x))
