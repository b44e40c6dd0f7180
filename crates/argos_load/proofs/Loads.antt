-- Stages of the code, one after the other.
use Rattle.std.proofs.Common.{Bool, Err, List, [], Ok, inl, inr, Option, Some, Vec, ap, cond, false, length, refl, subst, sym, true, ℕ, ◌∙◌, ◌≡◌, ◌≤◌}
use Rattle.std.specs.Prelude.{Result}
use Rattle.std.specs.declared.alloc.Global.{Global}
use Rattle.argos_base.specs.Limits.{text_limit}
use Rattle.argos_base.specs.Shelves.{Files, Answers}
use Rattle.argos_base.specs.declared.shelf.LoadError.{LoadError}
use Rattle.argos_base.specs.declared.shelf.LoadError.TheVariants as load
use Rattle.argos_compile.specs.AspectViews.{woven_from}
use Rattle.argos_compile.specs.Weaving.{plain}
use Rattle.argos_compile.specs.WovenViews.{woven_view}
use Rattle.argos_compile.specs.declared.woven.Woven.{Woven}
use Rattle.argos_core.specs.ModuleViews.{module_of}
use Rattle.argos_core.specs.Process.{PlainModule}
use Rattle.argos_core.specs.declared.module.Module.{Module}
use Rattle.argos_load.specs.Calls.{Call}
use Rattle.argos_load.specs.Programs.{TextOf, short, too_long, ModuleOf, means, AcceptedOf, IsOutOfNodes, FileKind, equation_file, c_file, program_file, begins, file_kind, RunnableAs, RunnableOf, no_program}
use Rattle.argos_load.specs.Said.{Refused, No, said, equations_head, c_head, too_long_text}
use Rattle.argos_load.specs.Stages.{Stage, gives, says, ◌then◌}
use Rattle.argos_load.specs.declared.files.Loaded.{Loaded}
use Rattle.argos_load.specs.declared.stop.Stop.{Stop}
use Rattle.argos_load.specs.declared.stop.Stop.TheVariants as stop
use Rattle.argos_load.specs.Giving.{program_of, runnable_of, IsSaidOf, IsSpent, IsStage, IsFileStage}
use Rattle.argos_report.specs.Reports.{budget_text}
use Rattle.argos_scope.specs.Meaning.{Means}
use Rattle.argos_verdict.specs.Jobs.{IsStopped}
use Rattle.dd_core.specs.Arenas.{ArenaView}

-- a stage that gave a value, and the next one
pub IsStage-next : {X V W : Type 0} (view : X → V) (nodes : ℕ) (first : Stage W → Type 0) (next : W → Stage V → Type 0) (Spent : ArenaView → Type 0) (r : Result X Stop) (w : W) → first (gives w) → IsStage view r nodes (next w) Spent
    → IsStage view r nodes (first then next) Spent
IsStage-next view nodes first next Spent (Ok x) w h k = (gives w, h, k)
IsStage-next view nodes first next Spent (Err (stop.Refused text)) w h k = (gives w, h, k)
IsStage-next view nodes first next Spent (Err (stop.No text)) w h k = (gives w, h, k)
IsStage-next view nodes first next Spent (Err (stop.ReadFault text)) w h k = k
IsStage-next view nodes first next Spent (Err (stop.Budget text arena)) w h k = k
IsStage-next view nodes first next Spent (Err stop.OutOfMemory) w h k = tt

-- a stage without diagrams that said something, which ends the call
pub IsStage-ends : {X Y V W : Type 0} (view : X → V) (view' : Y → W) (nodes : ℕ) (first : Stage W → Type 0) (next : W → Stage V → Type 0) (Spent : ArenaView → Type 0) (e : Stop) → IsStage view' (Err e) 0 first (λ _. ⊥)
    → IsStage view (Err e) nodes (first then next) Spent
IsStage-ends view view' nodes first next Spent (stop.Refused text) h = (says (said Refused text.items), h, refl)
IsStage-ends view view' nodes first next Spent (stop.No text) h = (says (said No text.items), h, refl)
IsStage-ends view view' nodes first next Spent (stop.ReadFault text) h = h
IsStage-ends view view' nodes first next Spent (stop.Budget text arena) h = absurd h.1
IsStage-ends view view' nodes first next Spent stop.OutOfMemory h = tt

-- what follows from each thing that a stage gives or says
pub IsStage-map : {X V : Type 0} (view : X → V) (nodes : ℕ) (P Q : Stage V → Type 0) (Spent : ArenaView → Type 0) (r : Result X Stop) → ((s : Stage V) → P s → Q s) → IsStage view r nodes P Spent → IsStage view r nodes Q Spent
IsStage-map view nodes P Q Spent (Ok x) f h = f (gives (view x)) h
IsStage-map view nodes P Q Spent (Err (stop.Refused text)) f h = f (says (said Refused text.items)) h
IsStage-map view nodes P Q Spent (Err (stop.No text)) f h = f (says (said No text.items)) h
IsStage-map view nodes P Q Spent (Err (stop.ReadFault text)) f h = h
IsStage-map view nodes P Q Spent (Err (stop.Budget text arena)) f h = h
IsStage-map view nodes P Q Spent (Err stop.OutOfMemory) f h = tt

-- a stage without diagrams is one whatever is said of them
pub IsStage-any : {X V : Type 0} (view : X → V) (nodes : ℕ) (P : Stage V → Type 0) (Spent : ArenaView → Type 0) (r : Result X Stop) → IsStage view r 0 P (λ _. ⊥) → IsStage view r nodes P Spent
IsStage-any view nodes P Spent (Ok x) h = h
IsStage-any view nodes P Spent (Err (stop.Refused text)) h = h
IsStage-any view nodes P Spent (Err (stop.No text)) h = h
IsStage-any view nodes P Spent (Err (stop.ReadFault text)) h = h
IsStage-any view nodes P Spent (Err (stop.Budget text arena)) h = absurd h.1
IsStage-any view nodes P Spent (Err stop.OutOfMemory) h = tt

-- the text of a file, and what it gives
pub IsFileStage-next : {X V : Type 0} (view : X → V) (k nodes : ℕ) (name : List ℕ) (shelf : Call (Option Files)) (next : List ℕ → Stage V → Type 0) (Spent : List ℕ → ArenaView → Type 0) (r : Result X Stop) (w : List ℕ)
    → ((f : Files) → shelf.told ≡ Some f → TextOf k (f.file name) (gives w)) → IsStage view r nodes (next w) (Spent w) → IsFileStage view r k nodes name shelf (λ bs. TextOf k bs then next) Spent
IsFileStage-next view k nodes name shelf next Spent (Ok x) w h q = λ f told. (gives w, h f told, q)
IsFileStage-next view k nodes name shelf next Spent (Err (stop.Refused text)) w h q = λ f told. (gives w, h f told, q)
IsFileStage-next view k nodes name shelf next Spent (Err (stop.No text)) w h q = λ f told. (gives w, h f told, q)
IsFileStage-next view k nodes name shelf next Spent (Err (stop.ReadFault text)) w h q = absurd q
IsFileStage-next view k nodes name shelf next Spent (Err (stop.Budget text arena)) w h q = (q.0, λ f told. subst (λ bs. Spent bs arena) (same_text k (f.file name) w (h f told)) q.1)
  where
    same_text : (k : ℕ) (bs w : List ℕ) → TextOf k bs (gives w) → w ≡ bs
    same_text k bs w (short fits) = refl
IsFileStage-next view k nodes name shelf next Spent (Err stop.OutOfMemory) w h q = tt

-- a load, or a stage without diagrams, that said something, which ends the call
pub IsFileStage-ends : {X Y V W : Type 0} (view : X → V) (view' : Y → W) (k nodes : ℕ) (name : List ℕ) (shelf : Call (Option Files)) (first : List ℕ → Stage W → Type 0) (next : W → Stage V → Type 0) (Spent : List ℕ → ArenaView → Type 0) (e : Stop)
    → IsFileStage view' (Err e) k nodes name shelf first (λ _ _. ⊥) → IsFileStage view (Err e) k nodes name shelf (λ bs. first bs then next) Spent
IsFileStage-ends view view' k nodes name shelf first next Spent (stop.Refused text) h = λ f told. (says (said Refused text.items), h f told, refl)
IsFileStage-ends view view' k nodes name shelf first next Spent (stop.No text) h = λ f told. (says (said No text.items), h f told, refl)
IsFileStage-ends view view' k nodes name shelf first next Spent (stop.ReadFault text) h = h
IsFileStage-ends view view' k nodes name shelf first next Spent (stop.Budget text arena) h = (h.0, λ f told. absurd (h.1 f told))
IsFileStage-ends view view' k nodes name shelf first next Spent stop.OutOfMemory h = tt

-- what a load tells of a file that is told

told_file : (told : Option Files) (f : Files) (name : List ℕ) (r : Result (Vec ℕ Global) LoadError) → Answers told name r → told ≡ Some f → Answers (Some f) name r
told_file told f name r h e = subst (λ t. Answers t name r) e h

pub loaded : (k : ℕ) (told : Option Files) (name : List ℕ) (v : Vec ℕ Global) → Answers told name (Ok v) → length v.items ≤ text_limit → (f : Files) → told ≡ Some f → TextOf k (f.file name) (gives v.items)
loaded k told name v h fits f e =
    let same : v.items ≡ f.file name = told_file told f name (Ok v) h e in
    subst (λ bs. TextOf k bs (gives v.items)) same (short fits)

pub loaded_long : (k : ℕ) (told : Option Files) (name : List ℕ) (n : ℕ) (text : List ℕ) → Answers told name (Err (load.TooLong n)) → text ≡ too_long_text k → (f : Files) → told ≡ Some f → TextOf k (f.file name) (says (said Refused text))
loaded_long k told name n text h is f e = subst (λ t. TextOf k (f.file name) (says (said Refused t))) (sym is) (too_long (told_file told f name (Err (load.TooLong n)) h e))

pub load_failed : (told : Option Files) (name : List ℕ) → Answers told name (Err load.Failed) → (f : Files) → told ≡ Some f → f.fails f.loads name ≡ true
load_failed told name h f e = told_file told f name (Err load.Failed) h e

-- a module that isn't accepted
pub says_refused : {X : Type 0} (view : X → PlainModule) (k : ℕ) (text : List ℕ) (p : PlainModule) (nodes : ℕ) (e : Stop) → Means text p → IsSaidOf k p nodes e → IsStage view (Err e) nodes (AcceptedOf k p) (IsOutOfNodes nodes text)
says_refused view k text p nodes (stop.Refused why) m h = h
says_refused view k text p nodes (stop.No why) m h = h
says_refused view k text p nodes (stop.ReadFault why) m h = absurd h
says_refused view k text p nodes (stop.Budget why arena) m h = (h.0, record { program = p; means = m; stopped = h.1 })
says_refused view k text p nodes stop.OutOfMemory m h = tt

-- what a full arena is told as
pub spent : (p : PlainModule) (nodes : ℕ) (text : List ℕ) (arena : ArenaView) → text ≡ budget_text nodes → IsStopped p nodes arena → IsSpent nodes text arena
spent p nodes text arena is (inl state) = record { text_is = is; budget = state.stopped.budget_is; full = state.stopped.full }
spent p nodes text arena is (inr reactions) = record { text_is = is; budget = reactions.budget_is; full = reactions.full }

-- the text means the module that it gives
pub meant_of : (k : ℕ) (text : List ℕ) (p : PlainModule) → ModuleOf k text (gives p) → Means text p
meant_of k text x (means p m) = m

-- a text that gives no program
pub no_runnable : (k nodes : ℕ) (text : List ℕ) (e : Stop) → IsStage program_of (Err e) nodes (ModuleOf k text then AcceptedOf k) (IsOutOfNodes nodes text) → IsStage runnable_of (Err e) nodes (RunnableAs k text program_file) (IsOutOfNodes nodes text)
no_runnable k nodes text (stop.Refused why) h = no_program (said Refused why.items) h
no_runnable k nodes text (stop.No why) h = no_program (said No why.items) h
no_runnable k nodes text (stop.ReadFault why) h = h
no_runnable k nodes text (stop.Budget why arena) h = h
no_runnable k nodes text stop.OutOfMemory h = tt

-- a program without aspects
pub plain_view : (w : Woven) (m : Module) → w.«module» ≡ m → w.aspects.items ≡ [] → woven_view w ≡ plain (module_of m)
plain_view w m base none = ap (λ (b : Module). woven_from (module_of b) w.aspects.items) base ∙ ap (woven_from (module_of m)) none

-- as what a text is read

by_kind : (kind other : FileKind) (k : ℕ) (text : List ℕ) (nodes : ℕ) (Spent : ArenaView → Type 0) (r : Result Loaded Stop) → kind ≡ other → IsStage runnable_of r nodes (RunnableAs k text other) Spent → IsStage runnable_of r nodes (RunnableAs k text kind) Spent
by_kind kind other k text nodes Spent r e h = subst (λ (x : FileKind). IsStage runnable_of r nodes (RunnableAs k text x) Spent) (sym e) h

pub as_equations : (k nodes : ℕ) (text : List ℕ) (r : Result Loaded Stop) → begins equations_head text ≡ true → IsStage runnable_of r 0 (RunnableAs k text equation_file) (λ _. ⊥) → IsStage runnable_of r nodes (RunnableOf k text) (IsOutOfNodes nodes text)
as_equations k nodes text r e h = by_kind (file_kind text) equation_file k text nodes (IsOutOfNodes nodes text) r (ap (λ (b : Bool). cond b equation_file (cond (begins c_head text) c_file program_file)) e) (IsStage-any runnable_of nodes (RunnableAs k text equation_file) (IsOutOfNodes nodes text) r h)

pub as_c : (k nodes : ℕ) (text : List ℕ) (r : Result Loaded Stop) → begins equations_head text ≡ false → begins c_head text ≡ true → IsStage runnable_of r 0 (RunnableAs k text c_file) (λ _. ⊥) → IsStage runnable_of r nodes (RunnableOf k text) (IsOutOfNodes nodes text)
as_c k nodes text r e f h =
    by_kind (file_kind text) c_file k text nodes (IsOutOfNodes nodes text) r (ap (λ (b : Bool). cond b equation_file (cond (begins c_head text) c_file program_file)) e ∙ ap (λ (b : Bool). cond b c_file program_file) f)
    (IsStage-any runnable_of nodes (RunnableAs k text c_file) (IsOutOfNodes nodes text) r h)

pub as_program : (k nodes : ℕ) (text : List ℕ) (r : Result Loaded Stop) → begins equations_head text ≡ false → begins c_head text ≡ false → IsStage runnable_of r nodes (RunnableAs k text program_file) (IsOutOfNodes nodes text) → IsStage runnable_of r nodes (RunnableOf k text) (IsOutOfNodes nodes text)
as_program k nodes text r e f h =
    by_kind (file_kind text) program_file k text nodes (IsOutOfNodes nodes text) r (ap (λ (b : Bool). cond b equation_file (cond (begins c_head text) c_file program_file)) e ∙ ap (λ (b : Bool). cond b c_file program_file) f) h

-- the bytes of a vector
abbrev pub bytes_in : Vec ℕ Global → List ℕ
bytes_in v = v.items
