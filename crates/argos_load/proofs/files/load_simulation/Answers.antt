use Rattle.std.proofs.Common.{◌≡◌, arith, length, map, ◌∙◌, sym}
use Rattle.std.proofs.lemmas.Bool.Decides.{nat_tests}
use Rattle.std.proofs.lemmas.List.{length-map}
use Rattle.std.specs.Prelude.{string_bytes}
use Rattle.argos_compile.specs.WovenViews.{woven_view}
use Rattle.argos_load.specs.Calls.{call}
use Rattle.argos_load.specs.Giving.{runnable_of}
use Rattle.argos_load.proofs.FileStages.{simulates_file, simulates_stop, simulates_woven}
use Rattle.argos_load.proofs.files.load_simulation.Goals as goal

pub returns-then-is_empty-clause-simulation : goal.returns-then-is_empty-clause-simulation
returns-then-is_empty-clause-simulation g c =
    let aspects = c.args.aspects.now in
    let names = map string_bytes aspects in
    let shelf = call g.H.Shelf.told g.H.Shelf.faults c.args.shelf.now c.load_runnable.new.shelf in
    let test = c.if-is_empty.ensures {u = tt} in
    let none : length aspects ≡ 0 = grind (arith, nat_tests, test) in
    simulates_file c.load_runnable.result c.args.nodes c.args.file.now names shelf (length-map aspects string_bytes ∙ none) c.load_runnable.ensures.counted c.load_runnable.ensures.runnable

pub returns-then-is_empty-clause-loaded : goal.returns-then-is_empty-clause-loaded
returns-then-is_empty-clause-loaded g c = (1, c.load_runnable.ensures.counted)

pub returns-in-Ok-clause-simulation : goal.returns-in-Ok-clause-simulation
returns-in-Ok-clause-simulation g c =
    let aspects = c.args.aspects.now in
    let names = map string_bytes aspects in
    let shelf = call g.H.Shelf.told g.H.Shelf.faults c.args.shelf.now c.load_woven.new.shelf in
    let test = c.if-is_empty.ensures {u = tt} in
    let some : length aspects ≡ 0 → ⊥ = λ e. grind (arith, nat_tests, test, e) in
    simulates_woven c.in-Ok.woven c.args.nodes c.args.file.now names shelf (λ e. some (sym (length-map aspects string_bytes) ∙ e)) (c.in-Ok.ensures {u = tt}).woven

pub returns-in-Err-clause-simulation : goal.returns-in-Err-clause-simulation
returns-in-Err-clause-simulation g c =
    let aspects = c.args.aspects.now in
    let names = map string_bytes aspects in
    let shelf = call g.H.Shelf.told g.H.Shelf.faults c.args.shelf.now c.load_woven.new.shelf in
    let test = c.if-is_empty.ensures {u = tt} in
    let some : length aspects ≡ 0 → ⊥ = λ e. grind (arith, nat_tests, test, e) in
    simulates_stop runnable_of woven_view c.in-Err.stop c.args.nodes c.args.file.now names shelf (λ e. some (sym (length-map aspects string_bytes) ∙ e)) (c.in-Err.ensures {u = tt}).woven
