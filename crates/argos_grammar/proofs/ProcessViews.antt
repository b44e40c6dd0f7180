-- What stands for a process and a state that the code makes.
use Rattle.std.proofs.Common.{◌≡◌, ap, sym, ◌∙◌, Vec}
use Rattle.std.specs.declared.alloc.Global.{Global}
use Rattle.argos_grammar.specs.Forms.{ProcessForm, automaton, local, freeze, run}
use Rattle.argos_grammar.specs.Views.{process_of, process_step, state_step, Whole, block_of, states_of, mark_of, marks_of}
use Rattle.argos_grammar.specs.declared.trees.Spot.{Spot}
use Rattle.argos_grammar.specs.declared.trees.ProcessTree.{ProcessTree, fold-roll-ProcessTree}
use Rattle.argos_grammar.specs.declared.trees.ProcessTree.TheVariants as tree
use Rattle.argos_grammar.specs.declared.trees.StateTree.{StateTree}
use Rattle.argos_grammar.specs.declared.trees.ProcessTree.TheOpen.{ProcessTree-F}

pub process_of-Automaton : (i : Spot) (ss : Vec StateTree Global) → process_of (tree.Automaton i ss) ≡ automaton (mark_of i) (states_of ss.items)
process_of-Automaton i ss = ap process_of (sym (tree.rolls-Automaton i ss)) ∙ fold-roll-ProcessTree ProcessForm Whole process_step state_step (ProcessTree-F.Automaton i ss)

pub process_of-Local : (ns : Vec Spot Global) (ps : Vec ProcessTree Global) → process_of (tree.Local ns ps) ≡ local (marks_of ns.items) (block_of ps.items)
process_of-Local ns ps = ap process_of (sym (tree.rolls-Local ns ps)) ∙ fold-roll-ProcessTree ProcessForm Whole process_step state_step (ProcessTree-F.Local ns ps)

pub process_of-Freeze : (s : Spot) (ps : Vec ProcessTree Global) → process_of (tree.Freeze s ps) ≡ freeze (mark_of s) (block_of ps.items)
process_of-Freeze s ps = ap process_of (sym (tree.rolls-Freeze s ps)) ∙ fold-roll-ProcessTree ProcessForm Whole process_step state_step (ProcessTree-F.Freeze s ps)

pub process_of-Run : (c : Spot) (xs ys : Vec Spot Global) → process_of (tree.Run c xs ys) ≡ run (mark_of c) (marks_of xs.items) (marks_of ys.items)
process_of-Run c xs ys = ap process_of (sym (tree.rolls-Run c xs ys)) ∙ fold-roll-ProcessTree ProcessForm Whole process_step state_step (ProcessTree-F.Run c xs ys)
