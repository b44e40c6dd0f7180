-- What holds of a program with aspects, of a system and of a C step that the files gave.
use Rattle.std.proofs.Common.{List, Some, [], ap, map, refl, subst, suc, sym, true, ℕ, ◌++◌, ◌∙◌, ◌∷◌, ◌≡◌}
use Rattle.std.specs.List.{AllByRecursion, list_all}
use Rattle.std.proofs.lemmas.List.Folds.{list_all-append}
use Rattle.argos_base.proofs.Bools.{and_both}
use Rattle.argos_base.specs.Spelling.{is_name}
use Rattle.argos_aspects.specs.Aspects.{Aspect, AllFit}
use Rattle.argos_compile.specs.Weaving.{WovenProgram, plain, with_aspect}
use Rattle.argos_core.specs.Modules.{IsModule}
use Rattle.argos_core.specs.Process.{PlainModule}
use Rattle.argos_core.specs.Reactions.{input_count, output_count}
use Rattle.argos_expansion.specs.Expansion.{last_of}
use Rattle.argos_grammar.specs.Forms.{Mark, ComponentForm, AspectForm}
use Rattle.argos_grammar.specs.Text.{AreMarks, IsComponent, IsAspectText}
use Rattle.argos_grammar.proofs.WellFormed.{text_formed, aspect_text_formed}
use Rattle.argos_scope.specs.Meaning.{Means}
use Rattle.argos_scope.proofs.ResolvedModules.{resolved_module}
use Rattle.argos_verdict.specs.Judgements.{IsAcceptable}
use Rattle.c_step.specs.CStep.{IsCStep}
use Rattle.eqn_core.specs.Ordered.{IsOrdered}
use Rattle.line_format.specs.FileNames.{FileNames, HasNames}
use Rattle.pointcuts.specs.Pointcuts.{IsAspectOf}
use Rattle.pointcuts.proofs.Fitting.{fits}
use Rattle.argos_load.specs.Programs.{TextOf, short, ModuleOf, means, AcceptedOf, accepted, ProgramOf, FileKind, equation_file, c_file, program_file, file_kind, RunnableAs, RunnableOf, a_program, a_system, a_step, RunnableFile}
use Rattle.argos_load.specs.Runnables.{Runnable, program, equations, c_steps, names_in}
use Rattle.argos_load.specs.Stages.{gives, ◌then◌}
use Rattle.argos_load.specs.WovenFiles.{AspectTreeOf, tree, AspectOver, aspect, ObservedOf, WovenWith, woven, AspectFile, WovenFrom, WovenOf, SimulationOf}
use Rattle.argos_top.proofs.Stages.{same_value, gave}

-- the names of a module that a text means are spelled as names

marks_spelled : (ms : List Mark) → AreMarks ms → list_all is_name (map (λ m. m.name) ms) ≡ true
marks_spelled [] h = refl
marks_spelled (m ∷ ms) h = and_both _ _ h.0 (marks_spelled ms h.1)

last_formed : (cs : List ComponentForm) (main : ComponentForm) → AllByRecursion IsComponent cs → last_of cs ≡ Some main → IsComponent main
last_formed [] main h e = cc
last_formed (c ∷ []) main h e = let same : c ≡ main = cc in subst IsComponent same h.0
last_formed (c ∷ d ∷ cs) main h e = last_formed (d ∷ cs) main h.1 e

module_spelled : (text : List ℕ) (p : PlainModule) → Means text p → list_all is_name (p.inputs ++ p.outputs) ≡ true
module_spelled text p m =
    let r = m.2 in
    let main = last_formed m.0.components r.main (text_formed text m.0 m.1).2 r.last in
    ap (λ xs. list_all is_name (xs ++ p.outputs)) r.inputs ∙ ap (λ ys. list_all is_name (map (λ x. x.name) r.main.inputs ++ ys)) r.outputs
    ∙ list_all-append is_name (map (λ x. x.name) r.main.inputs) (map (λ x. x.name) r.main.outputs) ∙ and_both _ _ (marks_spelled r.main.inputs main.1) (marks_spelled r.main.outputs main.2)

-- a program that was given is a module with spelled names, and is accepted
pub record IsGiven (p : PlainModule) : Type 0 where
  pub kept : IsModule p
  pub spelled : list_all is_name (p.inputs ++ p.outputs) ≡ true
  pub acceptable : IsAcceptable p

given_accepted : (k : ℕ) (p q : PlainModule) → AcceptedOf k p (gives q) → (p ≡ q) × IsAcceptable q
given_accepted k p q (accepted h) = (refl, h)

its_text : (k : ℕ) (bs text : List ℕ) → TextOf k bs (gives text) → text ≡ bs
its_text k bs text (short h) = refl

its_meaning : (k : ℕ) (text : List ℕ) (p : PlainModule) → ModuleOf k text (gives p) → Means text p
its_meaning k text p (means q m) = m

meant : (text : List ℕ) (p : PlainModule) → Means text p → IsModule p
meant text p m = resolved_module m.0.components p (text_formed text m.0 m.1).2 m.2

pub given_meant : (k : ℕ) (text : List ℕ) (p : PlainModule) → ModuleOf k text (gives p) → IsModule p
given_meant k text p h = meant text p (its_meaning k text p h)

given_later : (k : ℕ) (text : List ℕ) (p : PlainModule) → (ModuleOf k text then AcceptedOf k) (gives p) → Means text p × IsAcceptable p
given_later k text p h =
    let g = gave (ModuleOf k text) (AcceptedOf k) p h in
    let a = given_accepted k g.value p g.behind in
    (subst (Means text) a.0 (its_meaning k text g.value g.before), a.1)

from_meaning : (text : List ℕ) (p : PlainModule) → Means text p × IsAcceptable p → IsGiven p
from_meaning text p h = record { kept = meant text p h.0; spelled = module_spelled text p h.0; acceptable = h.1 }

-- of a file
pub given_means : (k : ℕ) (bs : List ℕ) (p : PlainModule) → ProgramOf k bs (gives p) → Means bs p × IsAcceptable p
given_means k bs p h =
    let g = gave (TextOf k bs) (λ text. ModuleOf k text then AcceptedOf k) p h in
    subst (λ (text : List ℕ). Means text p × IsAcceptable p) (its_text k bs g.value g.before) (given_later k g.value p g.behind)

pub its_module : (k : ℕ) (bs : List ℕ) (p : PlainModule) → ProgramOf k bs (gives p) → Means bs p
its_module k bs p h = (given_means k bs p h).0

pub given : (k : ℕ) (bs : List ℕ) (p : PlainModule) → ProgramOf k bs (gives p) → IsGiven p
given k bs p h = from_meaning bs p (given_means k bs p h)

-- its observer is a module
pub observer_kept : (text : List ℕ) (t : AspectForm) (n : FileNames) (A : Aspect) → IsAspectText text t → IsAspectOf t n A → IsModule A.observer
observer_kept text t n A is h = resolved_module t.components A.observer (aspect_text_formed text t is).2 h.observer

-- the aspect that a file gave
pub record IsGivenAspect (x : WovenProgram) (bs : List ℕ) (y : WovenProgram) : Type 0 where
  pub form : AspectForm
  pub text : IsAspectText bs form
  pub aspect : Aspect
  pub is : IsAspectOf form (names_in x.base) aspect
  pub acceptable : IsAcceptable aspect.observer
  pub same : y ≡ with_aspect x aspect

its_form : (k : ℕ) (text : List ℕ) (t : AspectForm) → AspectTreeOf k text (gives t) → IsAspectText text t
its_form k text t (tree u is) = is

its_aspect : (k : ℕ) (n : FileNames) (t : AspectForm) (A : Aspect) → AspectOver k n t (gives A) → IsAspectOf t n A
its_aspect k n t A (aspect B is) = is

its_observer : (k : ℕ) (A B : Aspect) → ObservedOf k A (gives B) → (B ≡ A) × IsAcceptable A.observer
its_observer k A B h =
    let g = gave (AcceptedOf k A.observer) (λ p r. r ≡ gives A) B h in
    let a = given_accepted k A.observer g.value g.before in
    (same_value B A g.behind, subst IsAcceptable (sym a.0) a.1)

its_woven : (k : ℕ) (x : WovenProgram) (A : Aspect) (y : WovenProgram) → WovenWith k x A (gives y) → y ≡ with_aspect x A
its_woven k x A y (woven need bound few) = refl

pub given_aspect : (k : ℕ) (x : WovenProgram) (bs : List ℕ) (y : WovenProgram) → AspectFile k x bs (gives y) → IsGivenAspect x bs y
given_aspect k x bs y h =
    let text = gave (TextOf k bs) (λ text. AspectTreeOf k text then λ t. AspectOver k (names_in x.base) t then λ A. ObservedOf k A then λ B. WovenWith k x B) y h in
    let form = gave (AspectTreeOf k text.value) (λ t. AspectOver k (names_in x.base) t then λ A. ObservedOf k A then λ B. WovenWith k x B) y text.behind in
    let over = gave (AspectOver k (names_in x.base) form.value) (λ A. ObservedOf k A then λ B. WovenWith k x B) y form.behind in
    let observed = gave (ObservedOf k over.value) (λ B. WovenWith k x B) y over.behind in
    let o = its_observer k over.value observed.value observed.before in
    record {
      form = form.value;
      text = subst (λ (bytes : List ℕ). IsAspectText bytes form.value) (its_text k bs text.value text.before) (its_form k text.value form.value form.before);
      aspect = over.value;
      is = its_aspect k (names_in x.base) form.value over.value over.before;
      acceptable = o.1;
      same = its_woven k x observed.value y observed.behind ∙ ap (with_aspect x) o.0;
    }

-- a program with aspects that was given
pub record IsGivenWoven (x : WovenProgram) : Type 0 where
  pub base : IsGiven x.base
  pub fit : AllFit x.aspects (input_count x.base) (output_count x.base)

pub given_plain : (p : PlainModule) → IsGiven p → IsGivenWoven (plain p)
given_plain p g = record { base = g; fit = tt }

pub given_with : (k : ℕ) (x : WovenProgram) (bs : List ℕ) (y : WovenProgram) → IsGivenWoven x → AspectFile k x bs (gives y) → IsGivenWoven y
given_with k x bs y g h =
    let a = given_aspect k x bs y h in
    subst IsGivenWoven (sym a.same) (record { base = g.base; fit = (fits a.form (names_in x.base) a.aspect a.is a.acceptable.good, g.fit) })

module _ (files : List ℕ → List ℕ) where
  given_from : (k : ℕ) (names : List (List ℕ)) (x y : WovenProgram) → IsGivenWoven x → WovenFrom files k names x (gives y) → IsGivenWoven y
  given_from k [] x y g h = subst IsGivenWoven (sym (same_value y x h)) g
  given_from k (name ∷ names) x y g h =
      let a = gave (AspectFile k x (files name)) (λ z. WovenFrom files (suc k) names z) y h in
      given_from (suc k) names a.value y (given_with k x (files name) a.value g a.before) a.behind

  pub given_woven : (file : List ℕ) (aspects : List (List ℕ)) (x : WovenProgram) → WovenOf files file aspects (gives x) → IsGivenWoven x
  given_woven file aspects x h =
      let b = gave (ProgramOf 1 (files file)) (λ p. WovenFrom files 2 aspects (plain p)) x h in
      given_from 2 aspects (plain b.value) x (given_plain b.value (given 1 (files file) b.value b.before)) b.behind

-- a system that was given is ordered, and has its names; a C step keeps what a step keeps
abbrev pub IsGivenRunnable : Runnable → Type 0
IsGivenRunnable (program x) = IsGivenWoven x
IsGivenRunnable (equations E n) = IsOrdered E × HasNames E n
IsGivenRunnable (c_steps s) = IsCStep s

given_runnable_as : (k : ℕ) (text : List ℕ) (kind : FileKind) (r : Runnable) → RunnableAs k text kind (gives r) → IsGivenRunnable r
given_runnable_as k text program_file x (a_program p h) = given_plain p (from_meaning text p (given_later k text p h))
given_runnable_as k text equation_file x (a_system E n h) = (h.ordered, h.names)
given_runnable_as k text c_file x (a_step s h) = h.step

given_runnable : (k : ℕ) (bs : List ℕ) (r : Runnable) → RunnableFile k bs (gives r) → IsGivenRunnable r
given_runnable k bs r h = let t = gave (TextOf k bs) (RunnableOf k) r h in given_runnable_as k t.value (file_kind t.value) r t.behind

pub given_simulation : (files : List ℕ → List ℕ) (file : List ℕ) (aspects : List (List ℕ)) (r : Runnable) → SimulationOf files file aspects (gives r) → IsGivenRunnable r
given_simulation files file [] r h = given_runnable 1 (files file) r h
given_simulation files file (name ∷ names) r h =
    let w = gave (WovenOf files file (name ∷ names)) (λ x s. s ≡ gives (program x)) r h in
    subst IsGivenRunnable (sym (same_value r (program w.value) w.behind)) (given_woven files file (name ∷ names) w.value w.before)
