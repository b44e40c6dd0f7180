-- A call from the load of its files to its end.
use Rattle.std.proofs.Common.{slice_get, Err, List, Option, Some, [], ap, append_assoc, arith, false, length, ◌≤◌, refl, subst, sym, true, ℕ, ◌++◌, ◌+◌, ◌∙◌, ◌∷◌, ◌≡◌}
use Rattle.std.proofs.Math.Logic.{∥∥₁_prop, ∥∥₁_map, ∥∥₁_elim}
use Rattle.argos_base.specs.Names.{Spelled}
use Rattle.argos_base.specs.Outside.{ahead, behind, IsAtEnd, Rose}
use Rattle.argos_base.specs.Shelves.{Files}
use Rattle.argos_base.specs.SignalSets.{SignalSet}
use Rattle.argos_aspects.specs.Weaving.{IsWovenTrace}
use Rattle.argos_compile.specs.Weaving.{WovenProgram, IsWoven}
use Rattle.argos_compile.specs.WovenViews.{woven_view}
use Rattle.argos_core.specs.ModuleViews.{module_of}
use Rattle.argos_core.specs.Process.{PlainModule}
use Rattle.argos_words.specs.Words.{Words, Target, Command, check, simulate, sample, IsCommand, IsUsage}
use Rattle.eqn_core.specs.Equations.{Equations}
use Rattle.line_format.specs.FileNames.{FileNames}
use Rattle.weave_lines.proofs.WovenLaws.{woven_runs}
use Rattle.argos_words.proofs.OneCommand.{one_command}
use Rattle.trace_io.specs.Lines.{Stop, at_end, failed, full, Taken, End, used_up, bad_line, pulled_whole, raws_from, sets_from, input_lines, output_line}
use Rattle.trace_io.specs.Whole.{Reading, lines_left, IsStopped}
use Rattle.trace_io.proofs.TraceEnds.{IsEndOf, sets-sized, sets-end, pulled_to_end, pulled_full, pulled_bad}
use Rattle.argos_load.specs.Calls.{Call}
use Rattle.argos_top.specs.Devices.{Devices}
use Rattle.argos_top.specs.Clauses.{IsPart, Simulates, TellsFiles, TellsInput, DueWhereTold, AreGoodBefore, FaultBytes, BudgetBytes}
use Rattle.argos_top.specs.Clauses as clause
use Rattle.argos_top.specs.Compilation.{Compiled}
use Rattle.argos_top.specs.Due.{Takes, checks, compiles, weaves, simulates, files_of, is_simulation, command, usage, SaidBy}
use Rattle.argos_load.specs.Programs.{ProgramOf}
use Rattle.argos_load.specs.Runnables.{Runnable, program, equations, input_names, output_names, HasTrace, names_in}
use Rattle.argos_load.specs.Said.{Said, said, usage_text, yes_text, read_fault_line}
use Rattle.argos_load.specs.Said as answers
use Rattle.argos_load.specs.WovenFiles.{AreGoodFiles, AreOutOfNodes, SimulationOf, WovenOf}
use Rattle.argos_top.specs.Simulation.{output_lines, EndSays}
use Rattle.argos_top.specs.Simulation as ends
use Rattle.argos_load.specs.Stages.{Stage, gives, says, ◌finally◌}
use Rattle.argos_top.specs.inner.Endings.{status_of, Pushes, sink_failed, IsMeant, answer, fault, budget, Ending, meant, no_memory, tail_of, status_after, Ran, unstarted, ran, Reports}
use Rattle.argos_top.specs.inner.Sampling.{WroteSample, unwritten, wrote}
use Rattle.argos_top.specs.inner.Commands.{Writes}
use Rattle.argos_top.specs.inner.Commands as commands
use Rattle.argos_top.specs.inner.Compiling.{Wrote, unwritten, wrote}
use Rattle.argos_load.specs.Giving.{runnable_of, IsSpent}
use Rattle.dd_core.specs.Arenas.{ArenaView}
use Rattle.argos_load.specs.GivingFiles.{IsFilesStage, HasFailed}
use Rattle.argos_top.specs.declared.status.Status.{Status}
use Rattle.argos_top.specs.declared.status.Status.TheVariants.{WriteFault}
use Rattle.argos_top.specs.declared.status.Status.TheVariants as status
use Rattle.argos_load.specs.declared.stop.Stop as early
use Rattle.argos_load.specs.declared.stop.Stop.TheVariants as stop
use Rattle.argos_top.proofs.Given.{given_simulation}
use Rattle.argos_top.proofs.Loads.{fails_at}
use Rattle.argos_top.proofs.Reports.{longer}
use Rattle.argos_top.proofs.Traces.{the_trace, given_one}

pub output_lines-append : (names : List Spelled) (os more : List SignalSet) → output_lines names (os ++ more) ≡ output_lines names os ++ output_lines names more
output_lines-append names [] more = refl
output_lines-append names (o ∷ os) more = ap (λ z. output_line o names ++ z) (output_lines-append names os more) ∙ sym (append_assoc (output_line o names) (output_lines names os) (output_lines names more))

-- the sink failed: what was appended is a part of all that was to be written
pub halted : (names : List Spelled) (os more : List SignalSet) (tail : List ℕ) (status : Status) (part : List ℕ) (sink : Call (Option (List ℕ))) → IsPart part (output_lines names os) → sink.told' ≡ behind sink.told part → Rose sink.faults sink.faults'
    → Pushes (output_lines names (os ++ more) ++ tail) status sink WriteFault
halted names os more tail status part sink p put rose =
    let wider : IsPart part (output_lines names (os ++ more)) = subst (IsPart part) (sym (output_lines-append names os more)) (longer part (output_lines names os) (output_lines names more) p) in
    sink_failed part refl (longer part (output_lines names (os ++ more)) tail wider) put rose

-- a simulation of a trace that was taken and of which nothing was read
pub ran_from : (x : Runnable) (n : FileNames) (t : Reading) (outputs : List SignalSet) (source sink : Call (Option (List ℕ))) (r : Status) → input_names x ≡ n.inputs → output_names x ≡ n.outputs → t.number ≡ 1 → source.told ≡ ahead t.bytes source.told'
    → IsStopped t.stop (length t.bytes) source.told' source.faults source.faults' → HasTrace x (lines_left n.inputs t).0 outputs
    → Pushes (output_lines n.outputs outputs ++ tail_of (lines_left n.inputs t).1 (length (lines_left n.inputs t).0)) (status_after (lines_left n.inputs t).1) sink r → Ran x source sink r
ran_from x n t outputs source sink r named_in named_out first took stopped trace w =
    let taken : Taken = record { bytes = t.bytes; stop = t.stop } in
    let same : lines_left n.inputs t ≡ input_lines taken (input_names x) = ap (λ k. sets_from n.inputs t.stop k (raws_from t.stop t.bytes)) first ∙ ap (input_lines taken) (sym named_in) in
    ran taken outputs took stopped ∣ subst (λ l. HasTrace x l.0 outputs) same trace ∣₁
    (subst (λ l. Pushes (output_lines (output_names x) outputs ++ tail_of l.1 (length l.0)) (status_after l.1) sink r) same
    (subst (λ (names : List Spelled). Pushes (output_lines names outputs ++ tail_of (lines_left n.inputs t).1 (length (lines_left n.inputs t).0)) (status_after (lines_left n.inputs t).1) sink r) (sym named_out) w))

-- the equations of a woven program simulate it
pub ran_woven : (x : WovenProgram) (E : Equations) (most : ℕ) (n : FileNames) (source sink : Call (Option (List ℕ))) (r : Status) → ∥ IsWoven x E most ∥₁ → n ≡ names_in x.base → Ran (equations E n) source sink r → Ran (program x) source sink r
ran_woven x E most n source sink r w same (unstarted none) = unstarted none
ran_woven x E most n source sink r w same (ran taken outputs took stopped run put) =
    let here : ∥ IsWovenTrace x.base x.aspects (input_lines taken n.inputs).0 outputs ∥₁ =
    ∥∥₁_elim w ∥∥₁_prop (λ h. ∥∥₁_map run (λ t. (woven_runs x.base x.aspects E (input_lines taken n.inputs).0 outputs h.good h.fit h.machine).0 t))
    in
    ran taken outputs took stopped (subst (λ k. ∥ IsWovenTrace x.base x.aspects (input_lines taken k.inputs).0 outputs ∥₁) same here)
    (subst (λ k. Pushes (output_lines k.outputs outputs ++ tail_of (input_lines taken k.inputs).1 (length (input_lines taken k.inputs).0)) (status_after (input_lines taken k.inputs).1) sink r) same put)

-- how the lines close: with an answer, or with a failed pull

pub data Closes (end : End) (count : ℕ) : Type 0 where
  closed : (last : Said) → EndSays end last → status_after end ≡ status_of last.answer → tail_of end count ≡ last.bytes → Closes end count
  failed_pull : end ≡ used_up failed → Closes end count

closes : (end : End) (count : ℕ) → Closes end count
closes (used_up at_end) count = closed (said answers.Yes []) ends.whole refl refl
closes (used_up full) count = closed (said answers.Refused answers.long_trace_text) ends.too_long refl refl
closes (used_up failed) count = failed_pull refl
closes (bad_line n kind) count = closed (said answers.Refused (answers.bad_line_text n kind)) (ends.bad n kind) refl refl

-- the lines of what was taken are those of the whole input, but where a pull failed behind good lines

not_failed : {A : Type 0} (last : Said) → EndSays (used_up failed) last → A
not_failed last h = elim h [ ]

same_lines : (stop : Stop) (names : List (List ℕ)) (bytes : List ℕ) (left left' : Option (List ℕ)) (before now : ℕ) (input : List ℕ) (last : Said) → left ≡ ahead bytes left' → left ≡ Some input → IsStopped stop (length bytes) left' before now
    → EndSays (input_lines (record { bytes = bytes; stop = stop }) names).1 last → input_lines (pulled_whole input) names ≡ input_lines (record { bytes = bytes; stop = stop }) names
same_lines at_end names bytes left left' before now input last took told stopped e = ap (λ t. input_lines t names) (pulled_to_end bytes left' input (sym told ∙ took) stopped.1 stopped.0)
same_lines full names bytes left left' before now input last took told stopped e = ap (λ t. input_lines t names) (pulled_full bytes left' input (sym told ∙ took) stopped)
same_lines failed names bytes left left' before now input last took told stopped e = by_end (input_lines (record { bytes = bytes; stop = failed }) names) refl
  where
    by_end : (lines : List SignalSet × End) → lines ≡ input_lines (record { bytes = bytes; stop = failed }) names → input_lines (pulled_whole input) names ≡ input_lines (record { bytes = bytes; stop = failed }) names
    by_end (sets, used_up s) is =
        let stop_is : s ≡ failed = subst (λ z. IsEndOf failed z.1) (sym is) (sets-end names failed 1 (raws_from failed bytes)) in
        let end_is : (input_lines (record { bytes = bytes; stop = failed }) names).1 ≡ used_up failed = ap (λ z. z.1) (sym is) ∙ ap used_up stop_is in
        not_failed last (subst (λ z. EndSays z last) end_is e)
    by_end (sets, bad_line n kind) is = pulled_bad names bytes left' input sets n kind (sym told ∙ took) stopped.0 (sym is) ∙ is

-- where the answer is Yes, the source was read to its end

yes_end : (end : End) (last : Said) → EndSays end last → last.answer ≡ answers.Yes → end ≡ used_up at_end
yes_end (used_up at_end) last h e = refl
yes_end (used_up failed) last h e = not_failed last h
yes_end (used_up full) last ends.too_long e = cc
yes_end (bad_line n kind) last (ends.bad m other) e = cc

at_the_end : (stop : Stop) (count : ℕ) (left' : Option (List ℕ)) (before now : ℕ) → IsStopped stop count left' before now → at_end ≡ stop → IsAtEnd left'
at_the_end at_end count left' before now stopped e = stopped.1
at_the_end failed count left' before now stopped e = cc
at_the_end full count left' before now stopped e = cc

-- a command that loads files of these names, of which those before each place are good so, and whose jobs find no room so

module _ (words : Words) (d : Devices) (c : Command) (names : Words) (nodes : ℕ) (is : IsCommand words c) (loads : files_of c ≡ names) (some : 1 ≤ length names) (AreGood : (List ℕ → List ℕ) → ℕ → Type 0) (Spent : (List ℕ → List ℕ) → ArenaView → Type 0) where
  tells_files : (f : Files) → TellsFiles words d f → d.shelf.told ≡ Some f
  tells_files f tells = tells (c, is, (let e = ap length loads in omega (arith, e, some)))

  -- what is said of the files is due
  pub files_due : (s : Said) → ((f : Files) (input : List ℕ) → d.shelf.told ≡ Some f → SaidBy f.file input c s) → DueWhereTold words d s
  files_due s h f input tf ti = (gives c, command c is, h f input (tells_files f tf))

  load_fault : (text : List ℕ) → ((files : List ℕ → List ℕ) (k : ℕ) → AreGood files k → AreGoodBefore files c k) → HasFailed names d.shelf AreGood text → FaultBytes words d text
  load_fault text good h =
      subst (FaultBytes words d) (sym h.text_is) (clause.file c h.place h.name is (ap (λ xs. slice_get xs h.place) loads ∙ h.at) h.rose (λ f told. fails_at words d c f h.place h.name told h.counted h.fails (good f.file h.place (h.good f told))))

  -- a call that ends before its output
  pub ending_stopped : {X V : Type 0} (view : X → V) (P : (List ℕ → List ℕ) → Stage V → Type 0) → ((f : Files) (input : List ℕ) (s : Said) → P f.file (says s) → SaidBy f.file input c s)
      → ((files : List ℕ → List ℕ) (k : ℕ) → AreGood files k → AreGoodBefore files c k)
      → ((arena : ArenaView) (bs : List ℕ) → IsSpent nodes bs arena → ((f : Files) → d.shelf.told ≡ Some f → Spent f.file arena) → BudgetBytes words d arena bs)
      → (e : early.Stop) (r : Status) → IsFilesStage view (Err e) nodes names d.shelf P AreGood Spent → Reports e d.sink r → Ending words d r
  ending_stopped view P last good spend (stop.Refused text) r stage w =
      meant text.items _ (answer (said answers.Refused text.items) (files_due (said answers.Refused text.items) (λ f input told. last f input (said answers.Refused text.items) (stage f told))) (λ s is_yes. cc)) w
  ending_stopped view P last good spend (stop.No text) r stage w =
      meant text.items _ (answer (said answers.No text.items) (files_due (said answers.No text.items) (λ f input told. last f input (said answers.No text.items) (stage f told))) (λ s is_yes. cc)) w
  ending_stopped view P last good spend (stop.ReadFault text) r stage w = meant text.items _ (fault text.items (load_fault text.items good stage)) w
  ending_stopped view P last good spend (stop.Budget text arena) r (spent, out) w = meant text.items _ (budget arena text.items (spend arena text.items spent out)) w
  ending_stopped view P last good spend stop.OutOfMemory r stage w = no_memory w

-- a command that takes the program of a file with the aspects of others

takes_files : (c : Command) (file : List ℕ) (aspects : Words) (nodes : ℕ) → Takes c file aspects nodes → files_of c ≡ file ∷ aspects
takes_files c file aspects nodes (checks f n) = refl
takes_files c file aspects nodes (compiles f to n) = refl
takes_files c file aspects nodes (weaves f names to n) = refl
takes_files c file aspects nodes (simulates f names n) = refl

module _ (words : Words) (d : Devices) (c : Command) (file : List ℕ) (aspects : Words) (nodes : ℕ) (is : IsCommand words c) (takes : Takes c file aspects nodes) where
  told_files : (f : Files) → TellsFiles words d f → d.shelf.told ≡ Some f
  told_files = tells_files words d c (file ∷ aspects) nodes is (takes_files c file aspects nodes takes) (omega arith) (λ files. AreGoodFiles files file aspects) (λ files. AreOutOfNodes files file aspects nodes)

  -- a call that ends before its output
  pub ending_early : {X V : Type 0} (view : X → V) (P : (List ℕ → List ℕ) → Stage V → Type 0) → ((f : Files) (input : List ℕ) (s : Said) → P f.file (says s) → SaidBy f.file input c s) → (e : early.Stop) (r : Status)
      → IsFilesStage view (Err e) nodes (file ∷ aspects) d.shelf P (λ files. AreGoodFiles files file aspects) (λ files. AreOutOfNodes files file aspects nodes) → Reports e d.sink r → Ending words d r
  ending_early view P last e r stage w =
      ending_stopped words d c (file ∷ aspects) nodes is (takes_files c file aspects nodes takes) (omega arith) (λ files. AreGoodFiles files file aspects) (λ files. AreOutOfNodes files file aspects nodes) view P last
      (λ files k good. clause.woven file aspects nodes takes good) (λ arena bs spent out. clause.woven c file aspects nodes is takes spent out) e r stage w

  -- and one that says yes
  pub ending_yes : (bytes : List ℕ) (r : Status) → ((f : Files) (input : List ℕ) → d.shelf.told ≡ Some f → SaidBy f.file input c (said answers.Yes bytes)) → (Simulates words → ⊥) → Pushes bytes status.Yes d.sink r → Ending words d r
  ending_yes bytes r due never w =
      let all = files_due words d c (file ∷ aspects) nodes is (takes_files c file aspects nodes takes) (omega arith) (λ files. AreGoodFiles files file aspects) (λ files. AreOutOfNodes files file aspects nodes) in
      meant bytes _ (answer (said answers.Yes bytes) (all (said answers.Yes bytes) due) (λ s is_yes. absurd (never s))) w

-- a simulation

module _ (words : Words) (d : Devices) (file : List ℕ) (aspects : Words) (nodes : ℕ) (is : IsCommand words (simulate file aspects nodes)) where
  simulating : Simulates words
  simulating = (simulate file aspects nodes, is, refl)

  tells_input : (input : List ℕ) → TellsInput words d input → d.source.told ≡ Some input
  tells_input input tells = tells simulating

  module _ (x : Runnable) (good : (f : Files) → d.shelf.told ≡ Some f → SimulationOf f.file file aspects (gives x)) (taken : Taken) (outputs : List SignalSet) where
    abbrev lines : List SignalSet × End
    lines = input_lines taken (input_names x)

    -- where the files are told, what merely has a trace has it
    traced : (f : Files) → d.shelf.told ≡ Some f → ∥ HasTrace x lines.0 outputs ∥₁ → HasTrace x lines.0 outputs
    traced f told there = the_trace x lines.0 outputs (given_one x lines.0 (given_simulation f.file file aspects x (good f told)) (sets-sized (input_names x) taken.stop 1 (raws_from taken.stop taken.bytes))) there

    run_due : (last : Said) → d.source.told ≡ ahead taken.bytes d.source.told' → IsStopped taken.stop (length taken.bytes) d.source.told' d.source.faults d.source.faults' → ∥ HasTrace x lines.0 outputs ∥₁ → EndSays lines.1 last
        → DueWhereTold words d (said last.answer (output_lines (output_names x) outputs ++ last.bytes))
    run_due last took stopped trace closes_so f input tf ti =
        let same = same_lines taken.stop (input_names x) taken.bytes d.source.told d.source.told' d.source.faults d.source.faults' input last took (tells_input input ti) stopped closes_so in
        let told = told_files words d (simulate file aspects nodes) file aspects nodes is (simulates file aspects nodes) f tf in
        (gives (simulate file aspects nodes), command (simulate file aspects nodes) is, (gives x, good f told, ends.simulated lines.0 outputs lines.1 last same closes_so (traced f told trace)))

    reads : (last : Said) → IsStopped taken.stop (length taken.bytes) d.source.told' d.source.faults d.source.faults' → EndSays lines.1 last → last.answer ≡ answers.Yes → IsAtEnd d.source.told'
    reads last stopped closes_so is_yes =
        at_the_end taken.stop (length taken.bytes) d.source.told' d.source.faults d.source.faults' stopped (subst (IsEndOf taken.stop) (yes_end lines.1 last closes_so is_yes) (sets-end (input_names x) taken.stop 1 (raws_from taken.stop taken.bytes)))

    line_fault : (how_stopped : Stop) → taken.stop ≡ how_stopped → d.source.told ≡ ahead taken.bytes d.source.told' → IsStopped how_stopped (length taken.bytes) d.source.told' d.source.faults d.source.faults' → ∥ HasTrace x lines.0 outputs ∥₁ → lines.1 ≡ used_up failed
        → FaultBytes words d (output_lines (output_names x) outputs ++ read_fault_line (length lines.0 + 1))
    line_fault failed stop_is took stopped trace e =
        clause.line (length lines.0) taken.bytes (output_lines (output_names x) outputs) simulating stopped.1 took stopped.0 (λ f told. record {
          file = file;
          aspects = aspects;
          nodes = nodes;
          command = is;
          runnable = x;
          good = good f told;
          inputs = lines.0;
          outputs = outputs;
          lines = ap (λ s. input_lines (record { bytes = taken.bytes; stop = s }) (input_names x)) (sym stop_is) ∙ ap (λ z. (lines.0, z)) e;
          counted = refl;
          trace = traced f told trace;
          bytes = refl;
        })
    line_fault at_end stop_is took stopped trace e = let wrong : failed ≡ taken.stop = subst (IsEndOf taken.stop) e (sets-end (input_names x) taken.stop 1 (raws_from taken.stop taken.bytes)) in let other : failed ≡ at_end = wrong ∙ stop_is in cc
    line_fault full stop_is took stopped trace e = let wrong : failed ≡ taken.stop = subst (IsEndOf taken.stop) e (sets-end (input_names x) taken.stop 1 (raws_from taken.stop taken.bytes)) in let other : failed ≡ full = wrong ∙ stop_is in cc

    meant_run : d.source.told ≡ ahead taken.bytes d.source.told' → IsStopped taken.stop (length taken.bytes) d.source.told' d.source.faults d.source.faults' → ∥ HasTrace x lines.0 outputs ∥₁ → Closes lines.1 (length lines.0)
        → IsMeant words d (output_lines (output_names x) outputs ++ tail_of lines.1 (length lines.0)) (status_after lines.1)
    meant_run took stopped trace (closed last closes_so follows tail) =
        subst (λ s. IsMeant words d (output_lines (output_names x) outputs ++ tail_of lines.1 (length lines.0)) s) (sym follows)
        (subst (λ t. IsMeant words d (output_lines (output_names x) outputs ++ t) (status_of last.answer)) (sym tail)
        (answer (said last.answer (output_lines (output_names x) outputs ++ last.bytes)) (run_due last took stopped trace closes_so) (λ s is_yes. reads last stopped closes_so is_yes)))
    meant_run took stopped trace (failed_pull e) =
        subst (λ z. IsMeant words d (output_lines (output_names x) outputs ++ tail_of z (length lines.0)) (status_after z)) (sym e) (fault _ (line_fault taken.stop refl took stopped trace e))

  pub ending_ran : (x : Runnable) (r : Status) → ((f : Files) → d.shelf.told ≡ Some f → SimulationOf f.file file aspects (gives x)) → Ran x d.source d.sink r → Ending words d r
  ending_ran x r good (unstarted n) = no_memory n
  ending_ran x r good (ran taken outputs took stopped trace w) =
      let lines = input_lines taken (input_names x) in
      meant _ _ (meant_run x good taken outputs took stopped trace (closes lines.1 (length lines.0))) w

  pub ending_unsimulated : (e : early.Stop) (r : Status) → IsFilesStage runnable_of (Err e) nodes (file ∷ aspects) d.shelf (λ files. SimulationOf files file aspects) (λ files. AreGoodFiles files file aspects) (λ files. AreOutOfNodes files file aspects nodes)
      → Reports e d.sink r → Ending words d r
  ending_unsimulated e r stage w = ending_early words d (simulate file aspects nodes) file aspects nodes is (simulates file aspects nodes) runnable_of (λ files. SimulationOf files file aspects) (λ f input s h. (says s, h, refl)) e r stage w

-- a verdict

module _ (words : Words) (d : Devices) (file : List ℕ) (nodes : ℕ) (is : IsCommand words (check file nodes)) where
  pub ending_checked : (p : PlainModule) (r : Status) → ((f : Files) → d.shelf.told ≡ Some f → ProgramOf 1 (f.file file) (gives p)) → (Simulates words → ⊥) → Pushes yes_text status.Yes d.sink r → Ending words d r
  ending_checked p r good never w = ending_yes words d (check file nodes) file [] nodes is (checks file nodes) yes_text r (λ f input told. (gives p, good f told, refl)) never w

  pub ending_unchecked : (e : early.Stop) (r : Status) → IsFilesStage module_of (Err e) nodes (file ∷ []) d.shelf (λ files. ProgramOf 1 (files file)) (λ files. AreGoodFiles files file []) (λ files. AreOutOfNodes files file [] nodes) → Reports e d.sink r → Ending words d r
  ending_unchecked e r stage w = ending_early words d (check file nodes) file [] nodes is (checks file nodes) module_of (λ files. ProgramOf 1 (files file)) (λ f input s h. (says s, h, refl)) e r stage w

-- a program that is written

its_takes : (c : Command) (file : List ℕ) (aspects : Words) (to : Target) (nodes : ℕ) → Writes c file aspects to nodes → Takes c file aspects nodes
its_takes c file aspects to nodes (commands.compiles f t n) = compiles f t n
its_takes c file aspects to nodes (commands.weaves f names t n) = weaves f names t n

writing_says : (files : List ℕ → List ℕ) (input : List ℕ) (c : Command) (file : List ℕ) (aspects : Words) (to : Target) (nodes : ℕ) (s : Said) → Writes c file aspects to nodes → (WovenOf files file aspects finally λ x. Compiled x to) s → SaidBy files input c s
writing_says files input c file aspects to nodes s (commands.compiles f t n) h = h
writing_says files input c file aspects to nodes s (commands.weaves f names t n) h = h

writes_no_simulation : (c : Command) (file : List ℕ) (aspects : Words) (to : Target) (nodes : ℕ) → Writes c file aspects to nodes → is_simulation c ≡ false
writes_no_simulation c file aspects to nodes (commands.compiles f t n) = refl
writes_no_simulation c file aspects to nodes (commands.weaves f names t n) = refl

-- the words of a command that simulates nothing simulate nothing
pub simulates_none : (words : Words) (c : Command) → IsCommand words c → is_simulation c ≡ false → Simulates words → ⊥
simulates_none words c is never s = let e : true ≡ false = sym s.2 ∙ ap is_simulation (one_command words s.0 c s.1 is) ∙ never in cc

module _ (words : Words) (d : Devices) (c : Command) (file : List ℕ) (aspects : Words) (to : Target) (nodes : ℕ) (is : IsCommand words c) (writes : Writes c file aspects to nodes) where
  pub ending_written : (x : WovenProgram) (r : Status) → ((f : Files) → d.shelf.told ≡ Some f → WovenOf f.file file aspects (gives x)) → Wrote x to d.sink r → Ending words d r
  ending_written x r good (unwritten n) = no_memory n
  ending_written x r good (wrote bytes k w) =
      ending_yes words d c file aspects nodes is (its_takes c file aspects to nodes writes) bytes r (λ f input told. writing_says f.file input c file aspects to nodes (said answers.Yes bytes) writes (gives x, good f told, k))
      (simulates_none words c is (writes_no_simulation c file aspects to nodes writes)) w

  pub ending_unwritten : (e : early.Stop) (r : Status) → IsFilesStage woven_view (Err e) nodes (file ∷ aspects) d.shelf (λ files. WovenOf files file aspects) (λ files. AreGoodFiles files file aspects) (λ files. AreOutOfNodes files file aspects nodes)
      → Reports e d.sink r → Ending words d r
  ending_unwritten e r stage w =
      ending_early words d c file aspects nodes is (its_takes c file aspects to nodes writes) woven_view (λ files. WovenOf files file aspects) (λ f input s h. writing_says f.file input c file aspects to nodes s writes (says s, h, refl)) e r stage w

-- words that are no command, and a sample

pub ending_usage : (words : Words) (d : Devices) (r : Status) → IsUsage words → Pushes usage_text status.Usage d.sink r → Ending words d r
ending_usage words d r none w = meant usage_text _ (answer (said answers.Usage usage_text) (λ f input tf ti. (says (said answers.Usage usage_text), usage none, refl)) (λ s is_yes. cc)) w

pub ending_sampled : (words : Words) (d : Devices) (r : Status) (n : ℕ) → IsCommand words (sample n) → WroteSample n d.sink r → Ending words d r
ending_sampled words d r n is (unwritten m) = no_memory m
ending_sampled words d r n is (wrote bytes k w) =
    meant bytes _ (answer (said answers.Yes bytes) (λ f input tf ti. (gives (sample n), command (sample n) is, k)) (λ s is_yes. absurd (simulates_none words (sample n) is refl s))) w
