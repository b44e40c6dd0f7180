-- The stages of an aspect's file: its tree, the aspect over the program, its observer, and the program woven with it.
use Rattle.std.proofs.Common.{Err, List, [], ◌∷◌, ◌++◌, Vec, ap, arith, length, map, refl, reverse, subst, sym, ℕ, suc, ◌+◌, ◌*◌, ◌∙◌, ◌≡◌, ◌<◌, ◌≤◌}
use Rattle.std.proofs.Math.Logic.{∥∥₁_elim, ∥∥₁_map, ∥∥₁_prop}
use Rattle.std.proofs.lemmas.List.{length-map, length-reverse, reverse-append}
use Rattle.std.specs.Prelude.{Result}
use Rattle.std.specs.declared.alloc.Global.{Global}
use Rattle.argos_aspects.specs.Aspects as plain
use Rattle.argos_aspects.specs.Weaving.{need_with, woven_registers}
use Rattle.argos_base.specs.Limits.{aspect_limit, automaton_limit, register_limit, woven_line_limit}
use Rattle.argos_compile.specs.Accepting.{IsAccepted}
use Rattle.argos_compile.specs.AspectViews.{aspect_view}
use Rattle.argos_compile.specs.Weaving.{WovenProgram, with_aspect, IsWovenLineBound, IsWoven}
use Rattle.argos_compile.specs.declared.aspect.Aspect.{Aspect}
use Rattle.argos_core.specs.Automata.{register_count}
use Rattle.argos_core.specs.Process.{PlainModule}
use Rattle.argos_core.specs.ModuleViews.{module_of}
use Rattle.argos_core.specs.declared.module.Module.{Module}
use Rattle.argos_grammar.specs.DueSymbols as symbols
use Rattle.argos_grammar.specs.Forms.{AspectForm}
use Rattle.argos_grammar.specs.Refusals.{Tells}
use Rattle.argos_grammar.specs.Text.{IsAspectText}
use Rattle.argos_grammar.specs.declared.errors.ParseError.{ParseError}
use Rattle.argos_load.specs.Giving.{IsSaidOf, IsStage}
use Rattle.argos_load.specs.Reports.{lines_text}
use Rattle.argos_load.specs.Said.{Refused, No, said}
use Rattle.argos_load.specs.Runnables.{names_in}
use Rattle.argos_load.specs.Stages.{Stage, gives, says, ◌then◌}
use Rattle.argos_load.specs.WovenFiles.{AspectTreeOf, tree, AspectOver, aspect, ObservedOf, WovenWith, woven, too_many, IsObserverOutOfNodes}
use Rattle.argos_load.specs.WovenFiles as woven_files
use Rattle.argos_load.specs.declared.stop.Stop.{Stop}
use Rattle.argos_load.specs.declared.stop.Stop.TheVariants as stop
use Rattle.argos_load.specs.inner.Causes.{IsFaultCause, IsScopeCause}
use Rattle.argos_load.proofs.CauseTexts.{some_fault, told_at}
use Rattle.argos_load.proofs.Chains.{then-assoc}
use Rattle.argos_load.proofs.Loads.{IsStage-any, IsStage-map, IsStage-next}
use Rattle.argos_report.specs.Texts.{refused_file}
use Rattle.argos_scope.specs.declared.errors.ScopeError.{ScopeError}
use Rattle.argos_verdict.specs.Jobs.{IsStopped}
use Rattle.dd_core.specs.Arenas.{ArenaView}
use Rattle.eqn_core.specs.Equations.{Equations}
use Rattle.line_format.specs.FileNames.{FileNames}
use Rattle.pointcuts.specs.Pointcuts.{IsAspectOf, IsAspectFault, scope}
use Rattle.pointcuts.specs.Refusals.{TellsScope}

-- the report of the first fault of an aspect's text
pub says_aspect_fault : (k : ℕ) (text : List ℕ) (e : ParseError) (cause : Vec ℕ Global) (report : List ℕ) → Tells symbols.aspect text e → IsFaultCause e cause → report ≡ refused_file k cause.items → AspectTreeOf k text (says (said Refused report))
says_aspect_fault k text e cause report tells c is =
    subst (λ r. AspectTreeOf k text (says (said Refused r))) (sym (is ∙ ap (refused_file k) c.3)) (woven_files.fault c.0 c.1 (told_at symbols.aspect text e c.0 c.1 tells c.2))

-- the report of a broken name rule, or of a limit that is passed
pub says_aspect_scope : (k : ℕ) (t : AspectForm) (n : FileNames) (e : ScopeError) (cause : Vec ℕ Global) (report : List ℕ) → TellsScope t n e → IsScopeCause e cause → report ≡ refused_file k cause.items → AspectOver k n t (says (said Refused report))
says_aspect_scope k t n e cause report tells c is =
    subst (λ r. AspectOver k n t (says (said Refused r))) (sym (is ∙ ap (refused_file k) c.2)) (woven_files.fault (scope c.0) (some_fault e c.0 (λ f. IsAspectFault t n (scope f)) c.1 tells))

-- an observer that isn't accepted
pub says_observer : {X : Type 0} (view : X → plain.Aspect) (k : ℕ) (t : AspectForm) (n : FileNames) (A : plain.Aspect) (nodes : ℕ) (e : Stop) → IsAspectOf t n A → IsSaidOf k A.observer nodes e
    → IsStage view (Err e) nodes (AspectOver k n t then ObservedOf k) (λ (arena : ArenaView). (B : plain.Aspect) × IsAspectOf t n B × IsStopped B.observer nodes arena)
says_observer view k t n A nodes (stop.Refused text) is h = (gives A, aspect A is, (says (said Refused text.items), h, refl))
says_observer view k t n A nodes (stop.No text) is h = (gives A, aspect A is, (says (said No text.items), h, refl))
says_observer view k t n A nodes (stop.ReadFault text) is h = absurd h
says_observer view k t n A nodes (stop.Budget text arena) is h = (h.0, (A, is, h.1))
says_observer view k t n A nodes stop.OutOfMemory is h = tt

-- the text has the tree that it gives
pub text_of_tree : (k : ℕ) (text : List ℕ) (t : AspectForm) → AspectTreeOf k text (gives t) → IsAspectText text t
text_of_tree k text x (tree t is) = is

-- The stages behind the tree of an aspect's text.
module _ (k nodes : ℕ) (text : List ℕ) (x : WovenProgram) (t : AspectForm) (is : IsAspectText text t) where
  abbrev over : Stage plain.Aspect → Type 0
  over = AspectOver k (names_in x.base) t then ObservedOf k

  abbrev all_stages : Stage WovenProgram → Type 0
  all_stages = AspectTreeOf k text then λ u. AspectOver k (names_in x.base) u then λ A. ObservedOf k A then λ B. WovenWith k x B

  behind_tree : (s : Stage WovenProgram) → (over then λ B. WovenWith k x B) s → all_stages s
  behind_tree s h = (gives t, tree t is, then-assoc (AspectOver k (names_in x.base) t) (ObservedOf k) (λ B. WovenWith k x B) s h)

  -- where there is no aspect, or its observer isn't accepted
  pub aspect_stops : {X Y : Type 0} (view : X → WovenProgram) (view' : Y → plain.Aspect) (e : Stop) → IsStage view' (Err e) nodes over (λ (arena : ArenaView). (A : plain.Aspect) × IsAspectOf t (names_in x.base) A × IsStopped A.observer nodes arena)
      → IsStage view (Err e) nodes all_stages (IsObserverOutOfNodes nodes x text)
  aspect_stops view view' (stop.Refused why) h = behind_tree (says (said Refused why.items)) (says (said Refused why.items), h, refl)
  aspect_stops view view' (stop.No why) h = behind_tree (says (said No why.items)) (says (said No why.items), h, refl)
  aspect_stops view view' (stop.ReadFault why) h = h
  aspect_stops view view' (stop.Budget why arena) h = (h.0, record { tree = t; text = is; aspect = h.1.0; is = h.1.1; stopped = h.1.2 })
  aspect_stops view view' stop.OutOfMemory h = tt

  -- the aspect, and what is woven with it
  pub aspect_woven : {X : Type 0} (view : X → WovenProgram) (r : Result X Stop) (A : plain.Aspect) → over (gives A) → IsStage view r 0 (WovenWith k x A) (λ _. ⊥) → IsStage view r nodes all_stages (IsObserverOutOfNodes nodes x text)
  aspect_woven view r A h g =
      IsStage-map view nodes (over then λ B. WovenWith k x B) all_stages (IsObserverOutOfNodes nodes x text) r behind_tree
      (IsStage-next view nodes over (λ B. WovenWith k x B) (IsObserverOutOfNodes nodes x text) r A h (IsStage-any view nodes (WovenWith k x A) (IsObserverOutOfNodes nodes x text) r g))

-- how many registers a woven program has

abbrev AreSmall : List plain.Aspect → Type 0
AreSmall [] = Unit {0}
AreSmall (A ∷ aspects) = (register_count A.observer.process ≤ automaton_limit) × AreSmall aspects

small_behind : (aspects more : List plain.Aspect) → AreSmall aspects → AreSmall more → AreSmall (aspects ++ more)
small_behind [] more h g = g
small_behind (A ∷ aspects) more h g = (h.0, small_behind aspects more h.1 g)

small_reverse : (aspects : List plain.Aspect) → AreSmall aspects → AreSmall (reverse aspects)
small_reverse [] h = tt
small_reverse (A ∷ aspects) h = subst AreSmall (sym (reverse-append (A ∷ []) aspects)) (small_behind (reverse aspects) (A ∷ []) (small_reverse aspects h.1) (h.0, tt))

small_each : (aspects : List Aspect) → AreSmall (map aspect_view aspects)
small_each [] = tt
small_each (a ∷ aspects) = (a.observer.«module».kept.automata, small_each aspects)

few_each : (P : PlainModule) (aspects : List plain.Aspect) → register_count P.process ≤ automaton_limit → AreSmall aspects → woven_registers P aspects ≤ automaton_limit * (length aspects + 1)
few_each P [] p h = omega (arith, p)
few_each P (A ∷ aspects) p h = omega (arith, few_each P aspects p h.1, h.0)

-- each module has few automata, so the registers keep their limit
pub few_registers : (m : Module) (aspects : List Aspect) (a : Aspect) → length aspects < aspect_limit → woven_registers (module_of m) (aspect_view a ∷ reverse (map aspect_view aspects)) ≤ register_limit
few_registers m aspects a few =
    let all = few_each (module_of m) (aspect_view a ∷ reverse (map aspect_view aspects)) m.kept.automata (a.observer.«module».kept.automata, small_reverse (map aspect_view aspects) (small_each aspects)) in
    omega (arith, all, few, length-reverse (map aspect_view aspects), length-map aspects aspect_view)

-- how many aspects there are, as the code counts them
pub one_more_aspect : (P Q : PlainModule) (aspects more : List Aspect) (A : plain.Aspect) → ◌≡◌ {A = WovenProgram} (record { base = Q; aspects = reverse (map aspect_view more) }) (with_aspect (record { base = P; aspects = reverse (map aspect_view aspects) }) A) → length more ≡ length aspects + 1
one_more_aspect P Q aspects more A is =
    let same : length (reverse (map aspect_view more)) ≡ suc (length (reverse (map aspect_view aspects))) = ap (λ (x : WovenProgram). length x.aspects) is in
    omega (arith, same, length-reverse (map aspect_view more), length-map more aspect_view, length-reverse (map aspect_view aspects), length-map aspects aspect_view)

-- the program with an aspect, of few enough lines
pub gives_woven : (k : ℕ) (x y : WovenProgram) (A : plain.Aspect) (E : Equations) (most : ℕ) → y ≡ with_aspect x A → ∥ IsWoven y E most ∥₁ → most ≤ woven_line_limit → WovenWith k x A (gives y)
gives_woven k x y A E most is kept few = subst (λ (z : WovenProgram). WovenWith k x A (gives z)) (sym is) (woven most (∥∥₁_map kept (λ w. subst (λ (z : WovenProgram). IsWovenLineBound z most) is w.bound)) few)

-- it needs too many
pub says_lines : (k : ℕ) (x : WovenProgram) (A : plain.Aspect) (W J : Equations) (most lines need : ℕ) (report : List ℕ) → ∥ IsWoven x W most ∥₁ → ∥ IsAccepted A.observer J lines ∥₁ → need ≡ need_with x.base x.aspects A most lines → woven_line_limit < need
    → report ≡ lines_text k need → WovenWith k x A (says (said Refused report))
says_lines k x A W J most lines need report kept observed is many told =
    let bound : ∥ IsWovenLineBound (with_aspect x A) need ∥₁ = ∥∥₁_elim kept ∥∥₁_prop (λ w. ∥∥₁_map observed (λ a. (most, lines, (w.bound, a.bound, is)))) in
    subst (λ r. WovenWith k x A (says (said Refused r))) (sym told) (too_many need bound many)
