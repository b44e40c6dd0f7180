use Rattle.std.proofs.Common.{◌≡◌, ◌+◌, Some, length, map, take}
use Rattle.std.specs.Prelude.{string_bytes}
use Rattle.argos_base.specs.Shelves.{Files}
use Rattle.argos_compile.specs.WovenViews.{woven_view}
use Rattle.argos_load.specs.GivingFiles.{after_loads}
use Rattle.argos_load.specs.Stages.{gives}
use Rattle.argos_load.specs.WovenFiles.{WovenOf}
use Rattle.argos_load.proofs.aspects.load_woven.Given as goal

-- the program with the aspects so far, each of whose files was loaded once
abbrev pub invariant-loop-name : goal.invariant-loop-name
invariant-loop-name g l =
    let told = g.H.Shelf.told in
    let faults = g.H.Shelf.faults in
    record {
      number : l.number ≡ l.name-index + 1;
      count : length l.woven.aspects.items ≡ l.name-index;
      loads : told l.shelf ≡ after_loads (l.name-index + 1) (told l.fn.shelf);
      still : faults l.shelf ≡ faults l.fn.shelf;
      woven : (f : Files) → told l.fn.shelf ≡ Some f → WovenOf f.file l.fn.file (take l.name-index (map string_bytes l.aspects)) (gives (woven_view l.woven));
    }
