-- Stages over one file of the call, as stages over all of its files.
use Rattle.std.proofs.Common.{Err, List, [], ◌∷◌, Ok, Option, Some, ap, arith, length, refl, subst, take, zero, suc, ℕ, ◌+◌, ◌∙◌, ◌≡◌, ◌<◌}
use Rattle.std.specs.Prelude.{Result, slice_get}
use Rattle.argos_base.specs.Outside.{Rose}
use Rattle.argos_base.specs.Shelves.{Files, after_load, one_more}
use Rattle.argos_compile.specs.Weaving.{WovenProgram}
use Rattle.argos_compile.specs.WovenViews.{woven_view}
use Rattle.argos_compile.specs.declared.woven.Woven.{Woven}
use Rattle.argos_load.specs.Calls.{Call}
use Rattle.argos_load.specs.Giving.{runnable_of, IsFileStage}
use Rattle.argos_load.specs.GivingFiles.{after_loads, IsFilesStage}
use Rattle.argos_load.specs.Programs.{RunnableFile, IsOutOfNodes}
use Rattle.argos_load.specs.Runnables.{Runnable, program}
use Rattle.argos_load.specs.Said.{Refused, No, Said, said, read_fault_file}
use Rattle.argos_load.specs.Stages.{Stage, gives, says}
use Rattle.argos_load.specs.WovenFiles.{AspectFile, IsObserverOutOfNodes, WovenOf, SimulationOf, AreGoodFiles, of_program, of_observer, AreOutOfNodes}
use Rattle.argos_load.specs.declared.files.Loaded.{Loaded}
use Rattle.argos_load.specs.declared.stop.Stop.{Stop}
use Rattle.argos_load.specs.declared.stop.Stop.TheVariants as stop
use Rattle.argos_load.proofs.Chains.{woven_says}
use Rattle.dd_core.specs.Arenas.{ArenaView}

-- what a shelf tells after some loads

after_some : (n : ℕ) (f : Files) → (m : ℕ) × (after_loads n (Some f) ≡ Some (record f { loads = m }))
after_some zero f = (f.loads, refl)
after_some (suc n) f = let h = after_some n f in (one_more h.0, ap after_load h.1)

-- the same files, after so many loads
pub same_files : (n : ℕ) (told told' : Option Files) (f : Files) → told' ≡ after_loads n told → told ≡ Some f → (m : ℕ) × (told' ≡ Some (record f { loads = m }))
same_files n told told' f loads is = let h = after_some n f in (h.0, loads ∙ ap (after_loads n) is ∙ h.1)

pub one_more_load : (n : ℕ) (told told' told'' : Option Files) → told' ≡ after_loads n told → told'' ≡ after_load told' → told'' ≡ after_loads (n + 1) told
one_more_load n told told' told'' loads load = let next : suc n ≡ n + 1 = omega arith in load ∙ ap after_load loads ∙ ap (λ (k : ℕ). after_loads k told) next

-- A stage over the file at place i that ends the call, behind loads that went well.
module _ (nodes i n : ℕ) (names : List (List ℕ)) (name : List ℕ) (told told' told'' : Option Files) (faults faults' faults'' : ℕ)
    (at : slice_get names i ≡ Some name) (number : n ≡ i + 1) (loads : told' ≡ after_loads i told) (still : faults' ≡ faults) (load : told'' ≡ after_load told') where
  abbrev own : Call (Option Files)
  own = record { told = told'; told' = told''; faults = faults'; faults' = faults'' }

  abbrev whole : Call (Option Files)
  whole = record { told = told; told' = told''; faults = faults; faults' = faults'' }

  pub stops_at : {X Y V W : Type 0} (view : X → V) (view' : Y → W) (e : Stop) (P : List ℕ → Stage W → Type 0) (Spent : List ℕ → ArenaView → Type 0)
      (P' : (List ℕ → List ℕ) → Stage V → Type 0) (AreGood : (List ℕ → List ℕ) → ℕ → Type 0) (Spent' : (List ℕ → List ℕ) → ArenaView → Type 0)
      → ((f : Files) → told ≡ Some f → (s : Said) → P (f.file name) (says s) → P' f.file (says s)) → ((f : Files) → told ≡ Some f → AreGood f.file i)
      → ((f : Files) → told ≡ Some f → (arena : ArenaView) → Spent (f.file name) arena → Spent' f.file arena)
      → IsFileStage view' (Err e) n nodes name own P Spent → IsFilesStage view (Err e) nodes names whole P' AreGood Spent'
  stops_at view view' (stop.Refused text) P Spent P' AreGood Spent' move good spend h = λ f is. let g = same_files i told told' f loads is in move f is (said Refused text.items) (h (record f { loads = g.0 }) g.1)
  stops_at view view' (stop.No text) P Spent P' AreGood Spent' move good spend h = λ f is. let g = same_files i told told' f loads is in move f is (said No text.items) (h (record f { loads = g.0 }) g.1)
  stops_at view view' (stop.ReadFault text) P Spent P' AreGood Spent' move good spend h =
      record {
        place = i;
        name = name;
        at = at;
        text_is = h.0 ∙ ap read_fault_file number;
        counted = one_more_load i told told' told'' loads load;
        rose = subst (λ (k : ℕ). Rose k faults'') still h.1;
        fails = λ f is. h.2 f (loads ∙ is);
        good = good;
      }
  stops_at view view' (stop.Budget text arena) P Spent P' AreGood Spent' move good spend h = (h.0, λ f is. let g = same_files i told told' f loads is in spend f is arena (h.1 (record f { loads = g.0 }) g.1))
  stops_at view view' stop.OutOfMemory P Spent P' AreGood Spent' move good spend h = tt

-- A stage over the first file that ends the call.
pub first_stops : {X Y V W : Type 0} (view : X → V) (view' : Y → W) (e : Stop) (nodes : ℕ) (file : List ℕ) (names : List (List ℕ)) (shelf : Call (Option Files)) (P : List ℕ → Stage W → Type 0) (Spent : List ℕ → ArenaView → Type 0)
    (P' : (List ℕ → List ℕ) → Stage V → Type 0) (AreGood : (List ℕ → List ℕ) → ℕ → Type 0) (Spent' : (List ℕ → List ℕ) → ArenaView → Type 0)
    → ((files : List ℕ → List ℕ) (s : Said) → P (files file) (says s) → P' files (says s)) → ((files : List ℕ → List ℕ) → AreGood files zero) → ((files : List ℕ → List ℕ) (arena : ArenaView) → Spent (files file) arena → Spent' files arena)
    → shelf.told' ≡ after_load shelf.told → IsFileStage view' (Err e) 1 nodes file shelf P Spent → IsFilesStage view (Err e) nodes (file ∷ names) shelf P' AreGood Spent'
first_stops view view' e nodes file names shelf P Spent P' AreGood Spent' move good spend counted h =
    stops_at nodes zero 1 (file ∷ names) file shelf.told shelf.told shelf.told' shelf.faults shelf.faults shelf.faults' refl refl refl refl counted view view' e P Spent P' AreGood Spent' (λ f _. move f.file) (λ f _. good f.file) (λ f _. spend f.file) h

-- A stage over the first file is one over all files.
pub first_stage : {X V : Type 0} (view : X → V) (r : Result X Stop) (nodes : ℕ) (file : List ℕ) (names : List (List ℕ)) (shelf : Call (Option Files)) (P : List ℕ → Stage V → Type 0) (Spent : List ℕ → ArenaView → Type 0)
    (P' : (List ℕ → List ℕ) → Stage V → Type 0) (AreGood : (List ℕ → List ℕ) → ℕ → Type 0) (Spent' : (List ℕ → List ℕ) → ArenaView → Type 0)
    → ((files : List ℕ → List ℕ) (s : Stage V) → P (files file) s → P' files s) → ((files : List ℕ → List ℕ) → AreGood files zero) → ((files : List ℕ → List ℕ) (arena : ArenaView) → Spent (files file) arena → Spent' files arena)
    → shelf.told' ≡ after_load shelf.told → IsFileStage view r 1 nodes file shelf P Spent → IsFilesStage view r nodes (file ∷ names) shelf P' AreGood Spent'
first_stage view (Ok x) nodes file names shelf P Spent P' AreGood Spent' move good spend counted h = λ f told. move f.file (gives (view x)) (h f told)
first_stage view (Err e) nodes file names shelf P Spent P' AreGood Spent' move good spend counted h = first_stops view view e nodes file names shelf P Spent P' AreGood Spent' (λ files s. move files (says s)) good spend counted h

-- a job of the program found no room
pub program_spent : (files : List ℕ → List ℕ) (file : List ℕ) (names : List (List ℕ)) (nodes : ℕ) (arena : ArenaView) → IsOutOfNodes nodes (files file) arena → AreOutOfNodes files file names nodes arena
program_spent files file names nodes arena h = record { judged = h.program; is = of_program h.program h.means; stopped = h.stopped }

-- The stage over the file of an aspect, which ends the call.
module _ (nodes : ℕ) (file : List ℕ) (names : List (List ℕ)) (i n : ℕ) (name : List ℕ) (x : WovenProgram) (told told' told'' : Option Files) (faults faults' faults'' : ℕ)
    (below : i < length names) (at : slice_get names i ≡ Some name) (number : n ≡ i + 2) (loads : told' ≡ after_loads (i + 1) told) (still : faults' ≡ faults) (load : told'' ≡ after_load told')
    (before : (f : Files) → told ≡ Some f → WovenOf f.file file (take i names) (gives x)) where
  pub later_stops : {X Y : Type 0} (view : X → WovenProgram) (view' : Y → WovenProgram) (e : Stop) → IsFileStage view' (Err e) n nodes name (record { told = told'; told' = told''; faults = faults'; faults' = faults'' }) (AspectFile n x) (IsObserverOutOfNodes nodes x)
      → IsFilesStage view (Err e) nodes (file ∷ names) (record { told = told; told' = told''; faults = faults; faults' = faults'' }) (λ files. WovenOf files file names) (λ files. AreGoodFiles files file names) (λ files. AreOutOfNodes files file names nodes)
  later_stops view view' e h =
      let next : i + 1 ≡ suc i = omega arith in
      let counted : n ≡ suc i + 1 = omega (arith, number) in
      stops_at nodes (suc i) n (file ∷ names) name told told' told'' faults faults' faults'' at counted (loads ∙ ap (λ (k : ℕ). after_loads k told) next) still load view view' e (AspectFile n x) (IsObserverOutOfNodes nodes x)
      (λ files. WovenOf files file names) (λ files. AreGoodFiles files file names) (λ files. AreOutOfNodes files file names nodes)
      (λ f is s. woven_says f.file file names i n name x below at number (before f is) s)
      (λ f is. (x, before f is))
      (λ f is arena spent. record { judged = spent.aspect.observer; is = of_observer i name x spent.tree spent.aspect at (before f is) spent.text spent.is; stopped = spent.stopped })
      h

-- what is simulated, without aspects and with some

pub simulates_file : (r : Result Loaded Stop) (nodes : ℕ) (file : List ℕ) (names : List (List ℕ)) (shelf : Call (Option Files)) → length names ≡ 0 → shelf.told' ≡ after_load shelf.told → IsFileStage runnable_of r 1 nodes file shelf (RunnableFile 1) (IsOutOfNodes nodes)
    → IsFilesStage runnable_of r nodes (file ∷ names) shelf (λ files. SimulationOf files file names) (λ files. AreGoodFiles files file names) (λ files. AreOutOfNodes files file names nodes)
simulates_file r nodes file [] shelf none counted h =
    first_stage runnable_of r nodes file [] shelf (RunnableFile 1) (IsOutOfNodes nodes) (λ files. SimulationOf files file []) (λ files. AreGoodFiles files file []) (λ files. AreOutOfNodes files file [] nodes)
    (λ files s g. g) (λ files. tt) (λ files arena g. program_spent files file [] nodes arena g) counted h
simulates_file r nodes file (name ∷ names) shelf none counted h = absurd (omega (arith, none))

pub simulates_woven : (w : Woven) (nodes : ℕ) (file : List ℕ) (names : List (List ℕ)) (shelf : Call (Option Files)) → (length names ≡ 0 → ⊥) → ((f : Files) → shelf.told ≡ Some f → WovenOf f.file file names (gives (woven_view w)))
    → (f : Files) → shelf.told ≡ Some f → SimulationOf f.file file names (gives (program (woven_view w)))
simulates_woven w nodes file [] shelf some h f is = absurd (some refl)
simulates_woven w nodes file (name ∷ names) shelf some h f is = (gives (woven_view w), h f is, refl)

simulation_says : (files : List ℕ → List ℕ) (file : List ℕ) (names : List (List ℕ)) (s : Said) → (length names ≡ 0 → ⊥) → WovenOf files file names (says s) → SimulationOf files file names (says s)
simulation_says files file [] s some h = absurd (some refl)
simulation_says files file (name ∷ names) s some h = (says s, h, refl)

pub simulates_stop : {X Y : Type 0} (view : X → Runnable) (view' : Y → WovenProgram) (e : Stop) (nodes : ℕ) (file : List ℕ) (names : List (List ℕ)) (shelf : Call (Option Files)) → (length names ≡ 0 → ⊥)
    → IsFilesStage view' (Err e) nodes (file ∷ names) shelf (λ files. WovenOf files file names) (λ files. AreGoodFiles files file names) (λ files. AreOutOfNodes files file names nodes)
    → IsFilesStage view (Err e) nodes (file ∷ names) shelf (λ files. SimulationOf files file names) (λ files. AreGoodFiles files file names) (λ files. AreOutOfNodes files file names nodes)
simulates_stop view view' (stop.Refused text) nodes file names shelf some h = λ f is. simulation_says f.file file names (said Refused text.items) some (h f is)
simulates_stop view view' (stop.No text) nodes file names shelf some h = λ f is. simulation_says f.file file names (said No text.items) some (h f is)
simulates_stop view view' (stop.ReadFault text) nodes file names shelf some h = h
simulates_stop view view' (stop.Budget text arena) nodes file names shelf some h = h
simulates_stop view view' stop.OutOfMemory nodes file names shelf some h = tt
