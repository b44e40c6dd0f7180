-- What the trees of the code stand for.
use Rattle.std.specs.Prelude.{ℕ, Bool, List, [], ◌∷◌, Option, Some, None, map, option_map, Vec}
use Rattle.std.specs.declared.alloc.Global.{Global}
use Rattle.argos_grammar.specs.declared.trees.Spot.{Spot}
use Rattle.argos_grammar.specs.declared.trees.GuardTree.{GuardTree, fold-GuardTree}
use Rattle.argos_grammar.specs.declared.trees.GuardTree.TheOpen.{GuardTree-F}
use Rattle.argos_grammar.specs.declared.trees.TransTree.{TransTree}
use Rattle.argos_grammar.specs.declared.trees.TimedTree.{TimedTree}
use Rattle.argos_grammar.specs.declared.trees.ProcessTree.{ProcessTree, fold-ProcessTree}
use Rattle.argos_grammar.specs.declared.trees.StateTree.{StateTree, fold-StateTree}
use Rattle.argos_grammar.specs.declared.trees.ProcessTree.TheOpen.{ProcessTree-F, StateTree-F}
use Rattle.argos_grammar.specs.declared.trees.ComponentTree.{ComponentTree}
use Rattle.argos_grammar.specs.declared.trees.ProgramTree.{ProgramTree}
use Rattle.argos_grammar.specs.declared.trees.AspectTree.{AspectTree}
use Rattle.argos_grammar.specs.declared.trees.CertNode.{CertNode, fold-CertNode}
use Rattle.argos_grammar.specs.declared.trees.CertNode.TheOpen.{CertNode-F}
use Rattle.argos_grammar.specs.declared.trees.CertTree.{CertTree}
use Rattle.argos_grammar.specs.Forms.{Mark, Formula, yes, no, atom, opposite, all, any, Formulas, no_formulas, formula, GuardForm, TransForm, TimedForm, Head, ProcessForm, automaton, local, freeze, run, BlockForm, no_processes, process, StateForms, no_states, state, BodyForm, plain, refined, ComponentForm, ProgramForm, AspectForm, Numeral, Atom, in_state, inactive, same_code, CertForm}

abbrev pub mark_of : Spot → Mark
mark_of s = record { name = s.name; at = s.at }

abbrev pub marks_of : List Spot → List Mark
marks_of = map mark_of

abbrev pub formulas_of : {A : Type 0} → List (Formula A) → Formulas A
formulas_of [] = no_formulas
formulas_of (f ∷ fs) = formula f (formulas_of fs)

abbrev pub guard_step : GuardTree-F GuardForm → GuardForm
guard_step GuardTree-F.True = yes
guard_step GuardTree-F.False = no
guard_step (GuardTree-F.Sig s) = atom (mark_of s)
guard_step (GuardTree-F.Not g) = opposite g.value
guard_step (GuardTree-F.All gs) = all (formulas_of gs.items)
guard_step (GuardTree-F.Any gs) = any (formulas_of gs.items)

abbrev pub guard_of : GuardTree → GuardForm
guard_of = fold-GuardTree GuardForm guard_step

abbrev pub trans_of : TransTree → TransForm
trans_of t = record { guard = guard_of t.guard; outs = marks_of t.outs.items; target = mark_of t.target }

abbrev pub timed_of : TimedTree → TimedForm
timed_of t = record { count = t.count; signal = mark_of t.signal; outs = marks_of t.outs.items; target = mark_of t.target }

-- one state, before it stands among the others
pub record Whole : Type 0 where
  pub head : Head
  pub body : BodyForm

abbrev pub block_from : List ProcessForm → BlockForm
block_from [] = no_processes
block_from (p ∷ ps) = process p (block_from ps)

abbrev pub states_from : List Whole → StateForms
states_from [] = no_states
states_from (w ∷ ws) = state w.head w.body (states_from ws)

abbrev pub body_from : Option (Vec ProcessForm Global) → BodyForm
body_from None = plain
body_from (Some ps) = refined (block_from ps.items)

abbrev pub process_step : ProcessTree-F ProcessForm Whole → ProcessForm
process_step (ProcessTree-F.Automaton i ss) = automaton (mark_of i) (states_from ss.items)
process_step (ProcessTree-F.Local ns ps) = local (marks_of ns.items) (block_from ps.items)
process_step (ProcessTree-F.Freeze s ps) = freeze (mark_of s) (block_from ps.items)
process_step (ProcessTree-F.Run c xs ys) = run (mark_of c) (marks_of xs.items) (marks_of ys.items)

abbrev pub state_step : StateTree-F ProcessForm Whole → Whole
state_step s = record { head = record { name = mark_of s.name; trans = map trans_of s.trans.items; timed = option_map timed_of s.timed }; body = body_from s.body }

abbrev pub process_of : ProcessTree → ProcessForm
process_of = fold-ProcessTree ProcessForm Whole process_step state_step

abbrev pub state_of : StateTree → Whole
state_of = fold-StateTree ProcessForm Whole process_step state_step

abbrev pub block_of : List ProcessTree → BlockForm
block_of ps = block_from (map process_of ps)

abbrev pub states_of : List StateTree → StateForms
states_of ss = states_from (map state_of ss)

abbrev pub body_of : Option (Vec ProcessTree Global) → BodyForm
body_of None = plain
body_of (Some ps) = refined (block_of ps.items)

abbrev pub component_of : ComponentTree → ComponentForm
component_of c = record { name = mark_of c.name; inputs = marks_of c.inputs.items; outputs = marks_of c.outputs.items; block = block_of c.block.items }

abbrev pub program_of : ProgramTree → ProgramForm
program_of p = record { version = p.version; components = map component_of p.components.items }

abbrev pub set_of : Vec Spot Global → List Mark
set_of s = marks_of s.items

abbrev pub aspect_of : AspectTree → AspectForm
aspect_of a = record { version = a.version; components = map component_of a.components.items; outs = marks_of a.outs.items; current = a.current; trace = map set_of a.trace.items }

abbrev pub numeral : ℕ → ℕ → Numeral
numeral n at = record { number = n; at = at }

abbrev pub cert_step : CertNode-F (Formula Atom) → Formula Atom
cert_step CertNode-F.True = yes
cert_step CertNode-F.False = no
cert_step (CertNode-F.InState left reg at s e) = atom (in_state left (numeral reg at) (mark_of s) (option_map (λ n. numeral n.0 n.1) e))
cert_step (CertNode-F.Inactive left reg at) = atom (inactive left (numeral reg at))
cert_step (CertNode-F.SameCode l l_at r r_at) = atom (same_code (numeral l l_at) (numeral r r_at))
cert_step (CertNode-F.Not f) = opposite f.value
cert_step (CertNode-F.All fs) = all (formulas_of fs.items)
cert_step (CertNode-F.Any fs) = any (formulas_of fs.items)

abbrev pub formula_of : CertNode → Formula Atom
formula_of = fold-CertNode (Formula Atom) cert_step

abbrev pub cert_of : CertTree → CertForm
cert_of c = record { version = c.version; formula = formula_of c.formula }

abbrev pub elapsed_of : Option (ℕ × ℕ) → Option Numeral
elapsed_of = option_map (λ n. numeral n.0 n.1)

-- that a register is in a state, perhaps with an elapsed count, or inactive
abbrev pub claim_of : Option (Spot × Option (ℕ × ℕ)) → Option (Mark × Option Numeral)
claim_of = option_map (λ c. (mark_of c.0, elapsed_of c.1))

abbrev pub claim_atom : Bool → Numeral → Option (Mark × Option Numeral) → Atom
claim_atom left r None = inactive left r
claim_atom left r (Some c) = in_state left r c.0 c.1
