-- It can't be that no answer is due.
use Rattle.std.proofs.Common.{◌≡◌, ℕ, zero, suc, ◌+◌, ◌<◌, ◌≤◌, List, [], ◌∷◌, ◌++◌, Option, Some, None, Bool, true, false, length, map, take, slice_get, append_assoc, length-append, refl, sym, ap, subst, ◌∙◌, ◌⊎◌, inl, inr, arith}
use Rattle.std.proofs.Math.Seq.{take-append_seam}
use Rattle.std.specs.Prelude.{Contains}
use Rattle.std.specs.List.{AllByRecursion}
use Rattle.argos_base.specs.Limits.{aspect_limit, text_limit, woven_line_limit}
use Rattle.argos_aspects.specs.Aspects.{Aspect, Fits}
use Rattle.argos_aspects.specs.Weaving.{need_with}
use Rattle.argos_compile.specs.Accepting.{HasCycle, IsAccepted}
use Rattle.argos_compile.specs.Weaving.{WovenProgram, plain, with_aspect}
use Rattle.argos_compile.proofs.Traces.{acyclic_have_systems}
use Rattle.argos_core.specs.Modules.{IsModule}
use Rattle.argos_core.specs.Reactions.{input_count, output_count}
use Rattle.argos_verdict.specs.Judgements.{IsAcceptable}
use Rattle.argos_verdict.specs.Laws.{Decision, IsDecision}
use Rattle.argos_verdict.specs.Laws as laws
use Rattle.argos_verdict.proofs.SomeDecision.{some_decision}
use Rattle.eqn_core.specs.Ordered.{IsOrdered}
use Rattle.bisim_formula.specs.Certificates.{CertAnswer, cert_answer}
use Rattle.bisim_formula.specs.Certificates as certificates
use Rattle.argos_top.proofs.OneComparison.{both_good, compared_there}
use Rattle.c_emit.specs.COf.{c_of}
use Rattle.c_emit.proofs.KeepsRules.{keeps_rules}
use Rattle.c_emit.proofs.SameRuns.{runs_as_system, statements_counted}
use Rattle.c_step.specs.CFile.{c_text}
use Rattle.c_step.specs.CLaws.{CTextOrFault}
use Rattle.c_step.specs.CLaws as c_text_or
use Rattle.c_step.specs.CStep.{CStep}
use Rattle.c_step.proofs.CFileLaws.{c_file_laws}
use Rattle.eqn_core.specs.Equations as systems
use Rattle.eqn_file.specs.EquationFile.{file_text}
use Rattle.eqn_file.specs.FileLaws.{EquationTextOrFault}
use Rattle.eqn_file.specs.FileLaws as equation
use Rattle.eqn_file.proofs.EquationLaws.{equation_file_laws}
use Rattle.line_format.specs.FileNames.{HasNames}
use Rattle.argos_core.specs.Process.{PlainModule}
use Rattle.argos_expansion.specs.Expansion.{Visit, expansion, last_of}
use Rattle.argos_expansion.specs.Limits.{Which, passed, WithinFrom, IsWithin}
use Rattle.argos_grammar.specs.Forms.{ComponentForm, ProgramForm, AspectForm, CertForm}
use Rattle.argos_grammar.specs.Text.{IsText, IsAspectText, IsCertText, HasSome}
use Rattle.argos_grammar.specs.DueSymbols as symbols
use Rattle.argos_first_faults.specs.Laws.{TreeOrFault}
use Rattle.argos_first_faults.specs.Laws as texts
use Rattle.argos_first_faults.proofs.Texts as first_faults
use Rattle.argos_grammar.proofs.WellFormed.{text_formed, aspect_text_formed}
use Rattle.argos_names.specs.Scope.{Breach, breaches, IsLeastBreach}
use Rattle.argos_scope.specs.Meaning.{Resolves, broken, limit}
use Rattle.argos_words.specs.Words.{Words, Target, Equations, CText, Command, check, compile, weave, simulate, equiv, sample, IsCommand}
use Rattle.pointcuts.specs.Laws.{Answered, an_aspect, a_fault}
use Rattle.pointcuts.specs.Pointcuts.{IsAspectOf}
use Rattle.pointcuts.proofs.Fitting.{fits}
use Rattle.pointcuts.proofs.SomeAnswer.{some_answer}
use Rattle.trace_io.specs.Lines as lines
use Rattle.trace_io.specs.Lines.{Stop, at_end, failed, full, End, used_up, pulled_whole, raws_from, input_lines}
use Rattle.trace_io.proofs.TraceEnds.{IsEndOf, sets-sized, sets-end}
use Rattle.weave_lines.specs.Systems.{IsWovenMachineOf}
use Rattle.argos_top.specs.Due.{command, usage, compiles, weaves, simulates, CyclesAreSolved, SaidBy, Due}
use Rattle.argos_load.specs.EquivFiles.{comparison, CertTreeOf, CertOver, CertFile, EquivOf}
use Rattle.argos_load.specs.EquivFiles as certs
use Rattle.argos_load.specs.Programs.{TextOf, short, too_long, ModuleOf, means, AcceptedOf, accepted, overlap, bad_case, too_wide, ProgramOf, FileKind, equation_file, c_file, program_file, file_kind, RunnableAs, RunnableOf, a_program, no_program, a_system, bad_line, a_step, not_due, RunnableFile}
use Rattle.argos_load.specs.Runnables.{Runnable, program, equations, c_steps, input_names, names_in}
use Rattle.argos_load.specs.Programs as programs
use Rattle.argos_load.specs.Said.{Yes, Usage, Refused, Said, said, usage_text, yes_text, long_trace_text, bad_line_text}
use Rattle.argos_load.specs.WovenFiles.{AspectTreeOf, AspectOver, ObservedOf, WovenWith, woven, too_many, AspectFile, WovenFrom, WovenOf, SimulationOf, IsJudgedModule, of_program, of_observer}
use Rattle.argos_load.specs.WovenFiles as woven_files
use Rattle.argos_sample.specs.Emitted.{sample_reactions}
use Rattle.argos_sample.proofs.OneNumber.{some_number}
use Rattle.argos_top.specs.Sample.{sampled}
use Rattle.argos_top.specs.Simulation.{EndSays, Simulated, simulated}
use Rattle.argos_top.specs.Simulation as ends
use Rattle.argos_load.specs.Stages.{Stage, gives, says, ◌then◌, ◌finally◌}
use Rattle.argos_top.specs.Compilation.{Compiled, compiled, compiled_c}
use Rattle.argos_top.proofs.Emitted.{emitted, emitted_step}
use Rattle.argos_top.proofs.Given.{IsGiven, given, given_meant, its_module, observer_kept, given_aspect, IsGivenWoven, given_plain, given_with, given_woven, IsGivenRunnable, given_simulation}
use Rattle.argos_top.proofs.Limits.{commands_keep_limits}
use Rattle.argos_top.proofs.Stages as stages
use Rattle.argos_top.proofs.Stages.{same_value}
use Rattle.argos_top.proofs.Traces.{HasOne, given_one}
use Rattle.argos_top.proofs.WovenSystems.{OwnSystem, WovenSystem, plain_system, registers_few, bound_with, woven_system}

by_order : (n k : ℕ) → (k ≤ n) ⊎ (n < k)
by_order n zero = inl (omega arith)
by_order zero (suc k) = inr (omega arith)
by_order (suc n) (suc k) = elim (by_order n k) [ inl h ↦ inl (omega arith) | inr h ↦ inr (omega arith) ]

-- of some breaches one is the least

pub record Least (bs : List Breach) : Type 0 where
  pub breach : Breach
  pub there : Contains bs breach
  pub least : AllByRecursion (λ other. breach.mark.at ≤ other.mark.at) bs

wider : (b c : Breach) (bs : List Breach) → b.mark.at ≤ c.mark.at → AllByRecursion (λ other. c.mark.at ≤ other.mark.at) bs → AllByRecursion (λ other. b.mark.at ≤ other.mark.at) bs
wider b c [] h all = tt
wider b c (x ∷ bs) h all = ((let g = all.0 in omega arith), wider b c bs h all.1)

least_breach : (b : Breach) (bs : List Breach) → Least (b ∷ bs)
least_breach b [] = record { breach = b; there = (0, omega arith, refl); least = (omega arith, tt) }
least_breach b (c ∷ bs) =
    let l = least_breach c bs in
    elim (by_order l.breach.mark.at b.mark.at) [
      | inl h ↦ record { breach = b; there = (0, omega arith, refl); least = (omega arith, wider b l.breach (c ∷ bs) h l.least) }
      | inr h ↦ record { breach = l.breach; there = (suc l.there.0, (let below = l.there.1 in omega arith), l.there.2); least = (omega arith, l.least) }
    ]

-- no limit is passed, or one is the first

pub data Grows (acc : List Visit) (vs : List Visit) : Type 0 where
  within : WithinFrom acc vs → Grows acc vs
  passes : (before : List Visit) (at : Visit) (after : List Visit) (x : Which × ℕ) → vs ≡ before ++ at ∷ after → WithinFrom acc before → passed (acc ++ before) at ≡ Some x → Grows acc vs

append-none : {A : Type 0} (xs : List A) → xs ++ [] ≡ xs
append-none [] = refl
append-none (x ∷ xs) = ap (λ ys. x ∷ ys) (append-none xs)

grows_here : (acc : List Visit) (v : Visit) (vs : List Visit) (o : Option (Which × ℕ)) → passed acc v ≡ o → Grows (acc ++ v ∷ []) vs → Grows acc (v ∷ vs)
grows_here acc v vs (Some x) e g = passes [] v vs x refl tt (ap (λ z. passed z v) (append-none acc) ∙ e)
grows_here acc v vs None e (within w) = within (e, w)
grows_here acc v vs None e (passes before at after x split w p) =
    passes (v ∷ before) at after x (ap (λ (z : List Visit). v ∷ z) split) (e, w) (ap (λ z. passed z at) (sym (append_assoc acc (v ∷ []) before)) ∙ p)

grows : (acc vs : List Visit) → Grows acc vs
grows acc [] = within tt
grows acc (v ∷ vs) = grows_here acc v vs (passed acc v) refl (grows (acc ++ v ∷ []) vs)

-- a tree has a module or a fault

last_there : (c : ComponentForm) (cs : List ComponentForm) → (main : ComponentForm) × (last_of (c ∷ cs) ≡ Some main)
last_there c [] = (c, refl)
last_there c (d ∷ cs) = last_there d cs

resolved : (cs : List ComponentForm) → HasSome cs → breaches cs ≡ [] → IsWithin (expansion cs).visits → (p : PlainModule) × Resolves cs p
resolved [] some sound fits = absurd some
resolved (c ∷ cs) some sound fits =
    let last = last_there c cs in
    let e = expansion (c ∷ cs) in
    let p : PlainModule = record { process = e.whole; inputs = map (λ m. m.name) last.0.inputs; outputs = map (λ m. m.name) last.0.outputs; locals = e.locals } in
    (p, record { sound = sound; within = fits; main = last.0; last = last.1; inputs = refl; outputs = refl; locals = refl; process = refl })

-- what a text gives: a stage that holds
pub data Held {V : Type 0} (P : Stage V → Type 0) : Type 0 where
  gave : (v : V) → P (gives v) → Held P
  said_so : (s : Said) → P (says s) → Held P

tree_held : (k : ℕ) (text : List ℕ) (t : ProgramForm) → IsText text t → (bs : List Breach) → breaches t.components ≡ bs → Held (ModuleOf k text)
tree_held k text t is (b ∷ bs) e =
    let l = least_breach b bs in
    let least : IsLeastBreach t.components l.breach = record { broken = subst (λ xs. Contains xs l.breach) (sym e) l.there; least = subst (AllByRecursion (λ other. l.breach.mark.at ≤ other.mark.at)) (sym e) l.least } in
    said_so _ (programs.scope t (broken l.breach) is least)
tree_held k text t is [] e = by_limits (grows [] (expansion t.components).visits)
  where
    by_limits : Grows [] (expansion t.components).visits → Held (ModuleOf k text)
    by_limits (within w) = let r = resolved t.components (text_formed text t is).1 e w in gave r.0 (means r.0 (t, is, r.1))
    by_limits (passes before at after x split w p) =
        said_so _ (programs.scope t (limit x.0 x.1) is (e, record { before = before; at = at; after = after; split = split; within = w; passes = p }))

text_held : (k : ℕ) (text : List ℕ) → TreeOrFault IsText symbols.program text → Held (ModuleOf k text)
text_held k text (texts.tree t is) = tree_held k text t is (breaches t.components) refl
text_held k text (texts.fault at kind f) = said_so _ (programs.fault at kind f)

-- it can't be that nothing holds of a stage
abbrev NotNever : {V : Type 0} → (Stage V → Type 0) → Type 0
NotNever P = (Held P → ⊥) → ⊥

accepted_held : (k : ℕ) (p : PlainModule) → IsModule p → NotNever (AcceptedOf k p)
accepted_held k p m none = some_decision p m by
  where
    by : (d : Decision) → IsDecision p d → ⊥
    by laws.accepted h = none (gave p (accepted h))
    by (laws.overlap r q x y S) h = none (said_so _ (overlap r q x y S h))
    by (laws.bad_case c i f) h = none (said_so _ (bad_case c i f h))
    by (laws.too_wide n) h = none (said_so _ (too_wide n h))

accepts : (k : ℕ) (p q : PlainModule) → AcceptedOf k p (gives q) → IsAcceptable p
accepts k p q (accepted h) = h

module_held : (k : ℕ) (text : List ℕ) → Held (ModuleOf k text) → NotNever (ModuleOf k text then AcceptedOf k)
module_held k text (said_so s h) = λ none. none (said_so s (says s, h, refl))
module_held k text (gave p h) = λ none. accepted_held k p (given_meant k text p h) (λ r. none (by_acceptance r))
  where
    by_acceptance : Held (AcceptedOf k p) → Held (ModuleOf k text then AcceptedOf k)
    by_acceptance (gave q r) = gave q (gives p, h, r)
    by_acceptance (said_so s r) = said_so s (gives p, h, r)

-- what holds of a text that is short enough holds of its file
short_held : {V : Type 0} (k : ℕ) (bs : List ℕ) (next : List ℕ → Stage V → Type 0) → length bs ≤ text_limit → Held (next bs) → Held (TextOf k bs then next)
short_held k bs next fits (gave p h) = gave p (gives bs, short fits, h)
short_held k bs next fits (said_so s h) = said_so s (gives bs, short fits, h)

file_held : {V : Type 0} (k : ℕ) (bs : List ℕ) (next : List ℕ → Stage V → Type 0) → NotNever (next bs) → NotNever (TextOf k bs then next)
file_held k bs next held = elim (by_order text_limit (length bs)) [
  | inl fits ↦ λ none. held (λ h. none (short_held k bs next fits h))
  | inr long ↦ λ none. none (said_so _ (says _, too_long long, refl))
]

program_held : (k : ℕ) (bs : List ℕ) → NotNever (ProgramOf k bs)
program_held k bs = file_held k bs (λ text. ModuleOf k text then AcceptedOf k) (module_held k bs (text_held k bs (first_faults.programs bs)))

runnable_text_held : (k : ℕ) (text : List ℕ) (kind : FileKind) → NotNever (RunnableAs k text kind)
runnable_text_held k text program_file = λ none. module_held k text (text_held k text (first_faults.programs text)) (λ h. none (as_program h))
  where
    as_program : Held (ModuleOf k text then AcceptedOf k) → Held (RunnableAs k text program_file)
    as_program (gave p h) = gave (program (plain p)) (a_program p h)
    as_program (said_so s h) = said_so s (no_program s h)
runnable_text_held k text equation_file = λ none. none (as_equations (equation_file_laws.some_fault text))
  where
    as_equations : EquationTextOrFault text → Held (RunnableAs k text equation_file)
    as_equations (equation.text E n h) = gave (equations E n) (a_system E n h)
    as_equations (equation.fault at kind h) = said_so _ (bad_line at kind h)
runnable_text_held k text c_file = λ none. none (as_c (c_file_laws.some_fault text))
  where
    as_c : CTextOrFault text → Held (RunnableAs k text c_file)
    as_c (c_text_or.text s h) = gave (c_steps s) (a_step s h)
    as_c (c_text_or.fault at h) = said_so _ (not_due at h)

runnable_held : (k : ℕ) (bs : List ℕ) → NotNever (RunnableFile k bs)
runnable_held k bs = file_held k bs (RunnableOf k) (runnable_text_held k bs (file_kind bs))

-- a woven program with ordered equations has an equation file and a C file

has_names : (x : WovenProgram) (E : systems.Equations) → IsGivenWoven x → IsWovenMachineOf x.base x.aspects E → HasNames E (names_in x.base)
has_names x E g m = record { inputs = sym m.inputs; outputs = sym m.outputs; spelled = g.base.spelled; distinct = g.base.kept.names }

compiled_from : (x : WovenProgram) (to : Target) → IsGivenWoven x → WovenSystem x → (s : Said) × Compiled x to s
compiled_from x Equations g w =
    let E = w.equations in
    let n = names_in x.base in
    (_, compiled (file_text E n) E ∣ emitted x E w.most w.is ∣₁ (equation_file_laws.spelled E n w.is.machine.ordered (has_names x E g w.is.machine)))
compiled_from x CText g w =
    let E = w.equations in
    let n = names_in x.base in
    let s : CStep = c_of E n in
    let ordered = w.is.machine.ordered in
    let names : HasNames E n = has_names x E g w.is.machine in
    (_, compiled_c (c_text s) s ∣ emitted_step x E w.most s w.is refl (runs_as_system E n ordered names) (statements_counted E n ordered) ∣₁ (c_file_laws.spelled s (keeps_rules E n ordered names)))

-- an input gives lines that end

pulled_stop : (b : Bool) → (Rattle.std.specs.Prelude.if◌then◌else◌ b full at_end ≡ failed) → ⊥
pulled_stop true e = cc
pulled_stop false e = cc

end_says : (stop : Stop) (end : End) → IsEndOf stop end → (stop ≡ failed → ⊥) → (last : Said) × EndSays end last
end_says stop (used_up at_end) e n = (said Yes [], ends.whole)
end_says stop (used_up full) e n = (said Refused long_trace_text, ends.too_long)
end_says stop (used_up failed) e n = absurd (n (sym e))
end_says stop (lines.bad_line k kind) e n = (said Refused (bad_line_text k kind), ends.bad k kind)

-- a stage that gives a woven program with ordered equations, or says something
data Ready (P : Stage WovenProgram → Type 0) : Type 0 where
  ready : (x : WovenProgram) → P (gives x) → WovenSystem x → Ready P
  stopped : (s : Said) → P (says s) → Ready P

ready_behind : {V : Type 0} (first : Stage V → Type 0) (next : V → Stage WovenProgram → Type 0) (v : V) → first (gives v) → Ready (next v) → Ready (first then next)
ready_behind first next v h (ready x r s) = ready x (gives v, h, r) s
ready_behind first next v h (stopped s r) = stopped s (gives v, h, r)

stopped_before : {V : Type 0} (first : Stage V → Type 0) (next : V → Stage WovenProgram → Type 0) (s : Said) → first (says s) → Ready (first then next)
stopped_before first next s h = stopped s (says s, h, refl)

at_seam : (before : Words) (name : List ℕ) (rest : Words) → slice_get (before ++ name ∷ rest) (length before) ≡ Some name
at_seam [] name rest = refl
at_seam (b ∷ before) name rest = at_seam before name rest

-- the files of a command that takes a program with aspects
module _ (files : List ℕ → List ℕ) (file : List ℕ) (aspects : Words) (few : length aspects ≤ aspect_limit)
    (solved : (p : PlainModule) → IsJudgedModule files file aspects p → IsAcceptable p → HasCycle p → (E : systems.Equations) × (most : ℕ) × IsOrdered E × IsAccepted p E most) where
  own_system : (p : PlainModule) → IsModule p → IsAcceptable p → IsJudgedModule files file aspects p → (OwnSystem p → ⊥) → ⊥
  own_system p m a j none = by (acyclic_have_systems p m a (λ c. by (solved p j a c)))
    where
      by : (E : systems.Equations) × (most : ℕ) × IsOrdered E × IsAccepted p E most → ⊥
      by h = none (record { equations = h.0; most = h.1; ordered = h.2; is = h.3 })

  -- file k, which is an aspect over the program that the files before it gave
  module _ (k place : ℕ) (name : List ℕ) (x : WovenProgram) (at : slice_get aspects place ≡ Some name) (before : WovenOf files file (take place aspects) (gives x)) (g : IsGivenWoven x) (counted : length x.aspects ≤ 15) (s : WovenSystem x) where
    abbrev over : AspectForm → Stage WovenProgram → Type 0
    over t = AspectOver k (names_in x.base) t then λ A. ObservedOf k A then λ B. WovenWith k x B

    with_held : (t : AspectForm) (A : Aspect) → IsAspectOf t (names_in x.base) A → IsAcceptable A.observer → OwnSystem A.observer → Ready (WovenWith k x A)
    with_held t A is a j =
        let need = need_with x.base x.aspects A s.most j.most in
        let fit : Fits A (input_count x.base) (output_count x.base) = fits t (names_in x.base) A is a.good in
        let registers = registers_few x.base (A ∷ x.aspects) g.base.kept (fit, g.fit) in
        elim (by_order woven_line_limit need) [
          | inl fewer ↦ ready (with_aspect x A) (woven need ∣ bound_with x A s j ∣₁ fewer) (woven_system x A s j fit (omega arith) fewer)
          | inr many ↦ stopped _ (too_many need ∣ bound_with x A s j ∣₁ many)
        ]

    observed_held : (t : AspectForm) (A : Aspect) → IsAspectText (files name) t → IsAspectOf t (names_in x.base) A → (Ready (ObservedOf k A then λ B. WovenWith k x B) → ⊥) → ⊥
    observed_held t A text is none = accepted_held k A.observer m by
      where
        m : IsModule A.observer
        m = observer_kept (files name) t (names_in x.base) A text is

        by : Held (AcceptedOf k A.observer) → ⊥
        by (said_so u h) = none (stopped_before (ObservedOf k A) (λ B. WovenWith k x B) u (says u, h, refl))
        by (gave p h) =
            let a : IsAcceptable A.observer = accepts k A.observer p h in
            own_system A.observer m a (of_observer place name x t A at before text is) (λ j. none (ready_behind (ObservedOf k A) (λ B. WovenWith k x B) A (gives p, h, refl) (with_held t A is a j)))

    over_held : (t : AspectForm) → IsAspectText (files name) t → Answered t (names_in x.base) → (Ready (over t) → ⊥) → ⊥
    over_held t text (an_aspect A is) none = observed_held t A text is (λ r. none (ready_behind (AspectOver k (names_in x.base) t) (λ A. ObservedOf k A then λ B. WovenWith k x B) A (woven_files.aspect A is) r))
    over_held t text (a_fault f h) none = none (stopped_before (AspectOver k (names_in x.base) t) (λ A. ObservedOf k A then λ B. WovenWith k x B) _ (woven_files.fault f h))

    tree_ready : TreeOrFault IsAspectText symbols.aspect (files name) → (Ready (AspectTreeOf k (files name) then over) → ⊥) → ⊥
    tree_ready (texts.tree t is) none = over_held t is (some_answer t (names_in x.base) (aspect_text_formed (files name) t is)) (λ r. none (ready_behind (AspectTreeOf k (files name)) over t (woven_files.tree t is) r))
    tree_ready (texts.fault place kind f) none = none (stopped_before (AspectTreeOf k (files name)) over _ (woven_files.fault place kind f))

    aspect_ready : (Ready (AspectFile k x (files name)) → ⊥) → ⊥
    aspect_ready none = elim (by_order text_limit (length (files name))) [
      | inl fit ↦ tree_ready (first_faults.aspects (files name)) (λ r. none (ready_behind (TextOf k (files name)) (λ text. AspectTreeOf k text then over) (files name) (short fit) r))
      | inr long ↦ none (stopped_before (TextOf k (files name)) (λ text. AspectTreeOf k text then over) _ (too_long long))
    ]

  -- one file more
  one_more : (k : ℕ) (names : Words) (x y z : WovenProgram) (name : List ℕ) → WovenFrom files k names x (gives y) → AspectFile (k + length names) y (files name) (gives z) → WovenFrom files k (names ++ name ∷ []) x (gives z)
  one_more k [] x y z name h r =
      let here : AspectFile k x (files name) (gives z) = subst (λ (w : WovenProgram). AspectFile k w (files name) (gives z)) (same_value y x h) (subst (λ (j : ℕ). AspectFile j y (files name) (gives z)) (let e : k + 0 ≡ k = omega arith in e) r) in
      (gives z, here, refl)
  one_more k (n ∷ names) x y z name h r =
      let first = stages.gave (AspectFile k x (files n)) (λ w. WovenFrom files (suc k) names w) y h in
      let e : k + length (n ∷ names) ≡ suc k + length names = omega arith in
      (gives first.value, first.before, one_more (suc k) names first.value y z name first.behind (subst (λ (j : ℕ). AspectFile j y (files name) (gives z)) e r))

  one_more_of : (names : Words) (y z : WovenProgram) (name : List ℕ) → WovenOf files file names (gives y) → AspectFile (2 + length names) y (files name) (gives z) → WovenOf files file (names ++ name ∷ []) (gives z)
  one_more_of names y z name h r =
      let first = stages.gave (ProgramOf 1 (files file)) (λ p. WovenFrom files 2 names (plain p)) y h in
      (gives first.value, first.before, one_more 2 names (plain first.value) y z name first.behind r)

  behind_first : (k : ℕ) (name : List ℕ) (rest : Words) (x : WovenProgram) → ((y : WovenProgram) → AspectFile k x (files name) (gives y) → WovenSystem y → (Ready (WovenFrom files (suc k) rest y) → ⊥) → ⊥) → Ready (AspectFile k x (files name))
      → (Ready (WovenFrom files k (name ∷ rest) x) → ⊥) → ⊥
  behind_first k name rest x each (ready y h s) none = each y h s (λ r. none (ready_behind (AspectFile k x (files name)) (λ w. WovenFrom files (suc k) rest w) y h r))
  behind_first k name rest x each (stopped u h) none = none (stopped_before (AspectFile k x (files name)) (λ w. WovenFrom files (suc k) rest w) u h)

  -- the others, behind files that gave a program
  from_ready : (k : ℕ) (before rest : Words) (x : WovenProgram) → k ≡ 2 + length before → before ++ rest ≡ aspects → WovenOf files file before (gives x) → IsGivenWoven x → length x.aspects ≡ length before → WovenSystem x → (Ready (WovenFrom files k rest x) → ⊥) → ⊥
  from_ready k before [] x number all so_far g counted s none = none (ready x refl s)
  from_ready k before (name ∷ rest) x number all so_far g counted s none =
      let there : WovenOf files file (take (length before) aspects) (gives x) =
      subst (λ (names : Words). WovenOf files file (take (length before) names) (gives x)) all (subst (λ (names : Words). WovenOf files file names (gives x)) (sym (take-append_seam before (name ∷ rest))) so_far)
      in
      let at : slice_get aspects (length before) ≡ Some name = ap (λ (names : Words). slice_get names (length before)) (sym all) ∙ at_seam before name rest in
      let total : length before + length (name ∷ rest) ≡ length aspects = sym (length-append before (name ∷ rest)) ∙ ap length all in
      let small : length x.aspects ≤ 15 = omega (arith, few) in
      aspect_ready k (length before) name x at there g small s (λ r. behind_first k name rest x (λ y h t. let a = given_aspect k x (files name) y h in
      from_ready (suc k) (before ++ name ∷ []) rest y
      (let e = length-append before (name ∷ []) in omega arith) (append_assoc before (name ∷ []) rest ∙ all)
      (one_more_of before x y name so_far (subst (λ (j : ℕ). AspectFile j x (files name) (gives y)) number h))
      (given_with k x (files name) y g h)
      (let e = length-append before (name ∷ []) in let f : length y.aspects ≡ length (a.aspect ∷ x.aspects) = ap (λ (w : WovenProgram). length w.aspects) a.same in omega arith) t) r none)

  -- so all of them
  woven_ready : (Ready (WovenOf files file aspects) → ⊥) → ⊥
  woven_ready none = program_held 1 (files file) by
    where
      by : Held (ProgramOf 1 (files file)) → ⊥
      by (said_so u h) = none (stopped_before (ProgramOf 1 (files file)) (λ p. WovenFrom files 2 aspects (plain p)) u h)
      by (gave p h) =
          let g : IsGiven p = given 1 (files file) p h in
          own_system p g.kept g.acceptable (of_program p (its_module 1 (files file) p h)) (λ j. from_ready 2 [] aspects (plain p) refl refl (gives p, h, refl) (given_plain p g) refl (plain_system p j) (λ r.
          none (ready_behind (ProgramOf 1 (files file)) (λ q. WovenFrom files 2 aspects (plain q)) p h r)))

  woven_held : NotNever (WovenOf files file aspects)
  woven_held none = woven_ready by
    where
      by : Ready (WovenOf files file aspects) → ⊥
      by (ready x h s) = none (gave x h)
      by (stopped u h) = none (said_so u h)

-- two programs and a certificate

behind_held : {A B : Type 0} (first : Stage A → Type 0) (next : A → Stage B → Type 0) → ((a : A) → first (gives a) → NotNever (next a)) → NotNever first → NotNever (first then next)
behind_held {A} {B} first next each there none = there by
  where
    by : Held first → ⊥
    by (said_so s h) = none (said_so s (says s, h, refl))
    by (gave a h) = each a h by_next
      where
        by_next : Held (next a) → ⊥
        by_next (gave b g) = none (gave b (gives a, h, g))
        by_next (said_so s g) = none (said_so s (gives a, h, g))

cert_tree_held : (k : ℕ) (text : List ℕ) → TreeOrFault IsCertText symbols.cert text → NotNever (CertTreeOf k text)
cert_tree_held k text (texts.tree t is) none = none (gave t (certs.tree t is))
cert_tree_held k text (texts.fault at kind f) none = none (said_so _ (certs.fault at kind f))

cert_over_held : (k : ℕ) (P Q : PlainModule) (t : CertForm) (a : CertAnswer) → cert_answer P Q t ≡ a → NotNever (CertOver k P Q t)
cert_over_held k P Q t (certificates.says F) e none = none (gave F (certs.formula F e))
cert_over_held k P Q t (certificates.refused f) e none = none (said_so _ (certs.fault f e))

cert_file_held : (k : ℕ) (P Q : PlainModule) (bs : List ℕ) → NotNever (CertFile k P Q bs)
cert_file_held k P Q bs =
    file_held k bs (λ text. CertTreeOf k text then CertOver k P Q)
    (behind_held (CertTreeOf k bs) (CertOver k P Q) (λ t h. cert_over_held k P Q t (cert_answer P Q t) refl) (cert_tree_held k bs (first_faults.certificates bs)))

compared_files_held : (files : List ℕ → List ℕ) (left right cert : List ℕ) → NotNever (EquivOf files left right cert)
compared_files_held files left right cert =
    behind_held (ProgramOf 1 (files left)) (λ P. ProgramOf 2 (files right) then λ Q. CertFile 3 P Q (files cert) then λ F r. r ≡ gives (comparison P Q F)) (λ P hP.
    behind_held (ProgramOf 2 (files right)) (λ Q. CertFile 3 P Q (files cert) then λ F r. r ≡ gives (comparison P Q F)) (λ Q hQ.
    behind_held (CertFile 3 P Q (files cert)) (λ F r. r ≡ gives (comparison P Q F)) (λ F h none. none (gave (comparison P Q F) refl)) (cert_file_held 3 P Q (files cert)))
    (program_held 2 (files right)))
    (program_held 1 (files left))

simulation_held : (files : List ℕ → List ℕ) (file : List ℕ) (names : Words) → NotNever (WovenOf files file names) → NotNever (SimulationOf files file names)
simulation_held files file [] there none = runnable_held 1 (files file) none
simulation_held files file (name ∷ names) there none = there by
  where
    by : Held (WovenOf files file (name ∷ names)) → ⊥
    by (gave x h) = none (gave (program x) (gives x, h, refl))
    by (said_so u h) = none (said_so u (says u, h, refl))

module _ (files : List ℕ → List ℕ) (input : List ℕ) (words : Words) (solved : CyclesAreSolved files words) where
  simulated_held : (r : Runnable) → IsGivenRunnable r → (s : Said) × Simulated r input s
  simulated_held r g =
      let whole = pulled_whole input in
      let lines = input_lines whole (input_names r) in
      let last = end_says whole.stop lines.1 (sets-end (input_names r) whole.stop 1 (raws_from whole.stop whole.bytes)) (pulled_stop _) in
      let one : HasOne r lines.0 = given_one r lines.0 g (sets-sized (input_names r) whole.stop 1 (raws_from whole.stop whole.bytes)) in
      (_, simulated lines.0 one.outputs lines.1 last.0 refl last.1 one.has)

  simulates_held : (file : List ℕ) (names : Words) (nodes : ℕ) → Held (SimulationOf files file names) → (s : Said) × SaidBy files input (simulate file names nodes) s
  simulates_held file names nodes (gave r h) = let s = simulated_held r (given_simulation files file names r h) in (s.0, (gives r, h, s.1))
  simulates_held file names nodes (said_so s h) = (s, (says s, h, refl))

  check_held : (file : List ℕ) (nodes : ℕ) → Held (ProgramOf 1 (files file)) → (s : Said) × SaidBy files input (check file nodes) s
  check_held file nodes (gave p h) = (said Yes yes_text, (gives p, h, refl))
  check_held file nodes (said_so s h) = (s, (says s, h, refl))

  written_held : (file : List ℕ) (names : Words) (to : Target) → Ready (WovenOf files file names) → (s : Said) × (WovenOf files file names finally λ x. Compiled x to) s
  written_held file names to (ready x h w) = let s = compiled_from x to (given_woven files file names x h) w in (s.0, (gives x, h, s.1))
  written_held file names to (stopped s h) = (s, (says s, h, refl))

  said_held : (c : Command) → IsCommand words c → ((s : Said) → SaidBy files input c s → ⊥) → ⊥
  said_held (simulate file names nodes) is none =
      let limits = commands_keep_limits words (simulate file names nodes) is in
      let woven = woven_held files file names limits.1 (λ p j a h. solved (simulate file names nodes) file names nodes p is (simulates file names nodes) j a h) in
      simulation_held files file names woven (λ h. let s = simulates_held file names nodes h in none s.0 s.1)
  said_held (check file nodes) is none = program_held 1 (files file) (λ h. let s = check_held file nodes h in none s.0 s.1)
  said_held (compile file to nodes) is none = woven_ready files file [] (omega arith) (λ p j a h. solved (compile file to nodes) file [] nodes p is (compiles file to nodes) j a h) (λ r. let s = written_held file [] to r in none s.0 s.1)
  said_held (weave file names to nodes) is none =
      let limits = commands_keep_limits words (weave file names to nodes) is in
      woven_ready files file names limits.1 (λ p j a h. solved (weave file names to nodes) file names nodes p is (weaves file names to nodes) j a h) (λ r. let s = written_held file names to r in none s.0 s.1)
  said_held (equiv left right cert nodes) is none = compared_files_held files left right cert by
    where
      by : Held (EquivOf files left right cert) → ⊥
      by (gave x h) = compared_there x (both_good files left right cert x h) (λ s c. none s (gives x, h, c))
      by (said_so s h) = none s (says s, h, refl)
  said_held (sample n) is none =
      let limits = commands_keep_limits words (sample n) is in
      let some = some_number n sample_reactions limits.least limits.greatest in
      none _ (sampled some.0 some.1)

  pub due_there : ((s : Said) → Due files input words s → ⊥) → ⊥
  due_there none = none (said Usage usage_text) (says (said Usage usage_text), usage (λ c is. said_held c is (λ s h. none s (gives c, command c is, h))), refl)
