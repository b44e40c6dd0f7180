-- What the reader has so far, and what a line makes of it.
use Rattle.std.specs.Prelude.{◌≡◌, ℕ, zero, suc, ◌^◌, ◌<◌, List, [], ◌∷◌, ◌++◌, length, map, Bool, true, false, ◌&&◌, not, nat_eq, nat_lt, Option, Some, None, Result, Ok, Err, IsTrue}
use Rattle.std.specs.HashSet.{contains}
use Rattle.argos_base.specs.Limits as limits
use Rattle.argos_base.specs.Names.{Spelled}
use Rattle.argos_base.specs.SignalSets.{lists}
use Rattle.argos_base.specs.Spelling.{is_one_of}
use Rattle.eqn_core.specs.Views.{case_of}
use Rattle.eqn_core.specs.Equations as plain
use Rattle.line_format.proofs.Options.{bind, only_if}
use Rattle.c_step.specs.CStep.{CStep, Assigned, nothing_assigned, assigned_after}
use Rattle.c_step.specs.CFile.{CLine, CPart, opening_due, inputs_due, outputs_due, init_due, codes_due, step_due, statements_due, cases_due, nothing_due, CStage, c_stage, c_format, is_due_at, after_at}
use Rattle.c_step.specs.Views.{statement_of}
use Rattle.c_step.specs.declared.errors.CError.{CError}
use Rattle.c_step.specs.declared.errors.CError.TheVariants.{NotSubset, OutOfMemory}
use Rattle.c_step.specs.declared.draft.Draft.{Draft}
use Rattle.c_step.specs.declared.draft.Part.{Part}
use Rattle.c_step.specs.declared.draft.Part.TheVariants.{Opening, Inputs, Outputs, Init, Codes, Step, Statements, Cases, Nothing}

abbrev pub part_of : Part → List plain.Case → CPart
part_of Opening cases = opening_due
part_of Inputs cases = inputs_due
part_of Outputs cases = outputs_due
part_of Init cases = init_due
part_of Codes cases = codes_due
part_of Step cases = step_due
part_of Statements cases = statements_due
part_of (Cases k) cases = cases_due k cases
part_of Nothing cases = nothing_due

abbrev pub draft_step : Draft → CStep
draft_step d = record { names = record { inputs = d.inputs; outputs = d.outputs }; words = d.words; bits = d.bits; initial = d.init.items; statements = map statement_of d.stats.items }

abbrev pub draft_assigned : Draft → Assigned
draft_assigned d = assigned_after nothing_assigned (map statement_of d.stats.items)

abbrev pub stage_of : Draft → CStage
stage_of d = c_stage (part_of d.part (map case_of d.cases.items)) (draft_step d) (draft_assigned d)

abbrev pub start_stage : CStage
start_stage = c_format.start

-- the marks are what the statements so far assigned
pub record IsSound (d : Draft) : Type 0 where
  pub bits : contains nat_eq d.marks.bits ≡ lists (draft_assigned d).bits
  pub words : contains nat_eq d.marks.words ≡ lists (draft_assigned d).words
  pub outs : contains nat_eq d.marks.outs ≡ lists (draft_assigned d).outs
  pub few : length d.init.items < 2 ^ 32

-- a line that is due at this part and says this, and what stands behind it
pub record IsMoved (p : CPart) (said : Option CLine) (old new : Draft) : Type 0 where
  pub line : CLine
  pub says : said ≡ Some line
  pub due : IsTrue (is_due_at p (draft_step old) (draft_assigned old) line)
  pub stage : stage_of new ≡ after_at (c_stage p (draft_step old) (draft_assigned old)) line
  pub sound : IsSound new

-- what is said, where that is due
abbrev pub due_only : CPart → CStep → Assigned → Option CLine → Option CLine
due_only p s a said = bind said (λ c. only_if (is_due_at p s a c) (Some c))

abbrev pub Moves : CPart → Option CLine → ℕ → Draft → Draft → Result (Unit {0}) CError → Type 0
Moves p said at old new (Ok u) = IsMoved p said old new
Moves p said at old new (Err (NotSubset n)) = (n ≡ at) × (due_only p (draft_step old) (draft_assigned old) said ≡ None)
Moves p said at old new (Err OutOfMemory) = Unit {0}

-- the name is new among these and the others, and there is room for it
abbrev pub is_new_in : List Spelled → List Spelled → Spelled → Bool
is_new_in names others name = not (is_one_of names name) && (not (is_one_of others name) && nat_lt (length names) limits.signal_limit)

abbrev pub AddsName : ℕ → Spelled → List Spelled → List Spelled → List Spelled → Result (Unit {0}) CError → Type 0
AddsName at name old others new (Ok u) = IsTrue (is_new_in old others name) × (new ≡ old ++ name ∷ [])
AddsName at name old others new (Err (NotSubset n)) = (n ≡ at) × (is_new_in old others name ≡ false)
AddsName at name old others new (Err OutOfMemory) = Unit {0}

-- each number below n is marked
abbrev pub all_marked : ℕ → (ℕ → Bool) → Bool
all_marked zero marked = true
all_marked (suc n) marked = marked n && all_marked n marked
