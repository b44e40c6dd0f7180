use Rattle.std.proofs.Common.{◌≡◌, ◌+◌, ◌<◌, arith, length, map, refl, ◌∙◌}
use Rattle.std.proofs.lemmas.List.{length-map}
use Rattle.std.proofs.lemmas.Result.{err_from_is_err_and}
use Rattle.std.specs.Prelude.{string_bytes}
use Rattle.argos_compile.specs.WovenViews.{woven_view}
use Rattle.argos_load.specs.Calls.{call}
use Rattle.argos_load.specs.Giving.{program_of}
use Rattle.argos_load.specs.Programs.{ProgramOf, IsOutOfNodes}
use Rattle.argos_load.specs.Stages.{gives, says}
use Rattle.argos_load.specs.WovenFiles.{WovenOf, AreGoodFiles, AreOutOfNodes}
use Rattle.argos_load.proofs.Chains.{name_at, woven_all, woven_more}
use Rattle.argos_load.proofs.FileStages.{first_stops, later_stops, one_more_load, program_spent, same_files}
use Rattle.argos_load.proofs.aspects.load_woven.Goals as goal

pub returns-in_err-accepted-clause-woven : goal.returns-in_err-accepted-clause-woven
returns-in_err-accepted-clause-woven g c =
    let nodes = c.args.nodes in
    let file = c.args.file.now in
    let names = map string_bytes c.args.aspects.now in
    let shelf = call g.H.Shelf.told g.H.Shelf.faults c.args.shelf.now c.load_program.new.shelf in
    let failed = c.in_err-accepted.ensures {u = tt} in
    let p = err_from_is_err_and c.from_residual.result c.from_residual.ensures.1 in
    rw (p.1, p.2) (first_stops woven_view program_of c.in_err-accepted.field-0.0 nodes file names shelf (ProgramOf 1) (IsOutOfNodes nodes) (λ files. WovenOf files file names) (λ files. AreGoodFiles files file names) (λ files. AreOutOfNodes files file names nodes)
    (λ files s h. (says s, h, refl)) (λ files. tt) (λ files arena h. program_spent files file names nodes arena h) failed.counted failed.program)

pub returns-in_err-accepted-clause-loaded : goal.returns-in_err-accepted-clause-loaded
returns-in_err-accepted-clause-loaded g c = (1, (c.in_err-accepted.ensures {u = tt}).counted)

pub returns-in_err-woven-clause-woven : goal.returns-in_err-woven-clause-woven
returns-in_err-woven-clause-woven g c =
    let told = g.H.Shelf.told in
    let faults = g.H.Shelf.faults in
    let aspects = c.args.aspects.now in
    let names = map string_bytes aspects in
    let i = c.loop-name.name-index in
    let so_far = c.loop-name.invariant in
    let failed = c.in_err-woven.ensures {u = tt} in
    let below : i < length names = omega (arith, c.loop-name-test.true, length-map aspects string_bytes) in
    let number : c.loop-name.number + 1 ≡ i + 2 = omega (arith, so_far.number) in
    let at = name_at aspects i c.name-item.result c.deref.result.now c.loop-name-test.true c.name-item.is c.deref.ensures in
    let p = err_from_is_err_and c.from_residual-in_err-woven.result c.from_residual-in_err-woven.ensures.1 in
    rw (p.1, p.2) (later_stops c.args.nodes c.args.file.now names i (c.loop-name.number + 1) c.deref.result.now (woven_view c.loop-name.woven) (told c.args.shelf.now) (told c.loop-name.shelf) (told c.load_aspect.new.shelf)
    (faults c.args.shelf.now) (faults c.loop-name.shelf) (faults c.load_aspect.new.shelf) below at number so_far.loads so_far.still failed.counted so_far.woven woven_view woven_view c.in_err-woven.field-0.0 failed.aspect)

pub returns-in_err-woven-clause-loaded : goal.returns-in_err-woven-clause-loaded
returns-in_err-woven-clause-loaded g c =
    let told = g.H.Shelf.told in
    let i = c.loop-name.name-index in
    (i + 1 + 1, one_more_load (i + 1) (told c.args.shelf.now) (told c.loop-name.shelf) (told c.load_aspect.new.shelf) c.loop-name.invariant.loads (c.in_err-woven.ensures {u = tt}).counted)

pub loop-name-preserved : goal.loop-name-preserved
loop-name-preserved g c =
    let told = g.H.Shelf.told in
    let aspects = c.args.aspects.now in
    let names = map string_bytes aspects in
    let i = c.loop-name.name-index in
    let so_far = c.loop-name.invariant in
    let loaded = c.in_ok-woven.ensures {u = tt} in
    let below : i < length names = omega (arith, c.loop-name-test.true, length-map aspects string_bytes) in
    let number : c.loop-name.number + 1 ≡ i + 2 = omega (arith, so_far.number) in
    let at = name_at aspects i c.name-item.result c.deref.result.now c.loop-name-test.true c.name-item.is c.deref.ensures in
    record {
      number = omega (arith, so_far.number);
      count = omega (arith, loaded.more, so_far.count);
      loads = one_more_load (i + 1) (told c.args.shelf.now) (told c.loop-name.shelf) (told c.load_aspect.new.shelf) so_far.loads loaded.counted;
      still = loaded.still ∙ so_far.still;
      woven = λ f is. let same = same_files (i + 1) (told c.args.shelf.now) (told c.loop-name.shelf) f so_far.loads is in
          woven_more f.file c.args.file.now names i (c.loop-name.number + 1) c.deref.result.now (woven_view c.loop-name.woven) below at number (so_far.woven f is) (woven_view c.in_ok-woven.woven) (loaded.aspect (record f { loads = same.0 }) same.1);
    }

pub returns-clause-woven : goal.returns-clause-woven
returns-clause-woven g c =
    let aspects = c.args.aspects.now in
    let names = map string_bytes aspects in
    let all : c.loop-name.name-index ≡ length names = omega (arith, c.loop-name-test.false, c.loop-name.auto.name-index-end, length-map aspects string_bytes) in
    λ f is. woven_all f.file c.args.file.now names c.loop-name.name-index (gives (woven_view c.loop-name.woven)) all (c.loop-name.invariant.woven f is)
