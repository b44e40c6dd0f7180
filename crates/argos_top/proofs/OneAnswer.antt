-- At most one answer is due.
use Rattle.std.proofs.Common.{List, [], ap, arith, length, refl, subst, suc, sym, true, ℕ, ◌++◌, ◌∙◌, ◌∷◌, ◌≡◌}
use Rattle.std.proofs.Math.Logic.{∥∥₁_elim}
use Rattle.std.proofs.Props.{props}
use Rattle.argos_verdict.specs.Laws.{Decision, IsDecision}
use Rattle.argos_verdict.specs.Laws as laws
use Rattle.argos_verdict.proofs.OneDecision.{one_decision}
use Rattle.argos_report.specs.Reports.{overlap_text, bad_case_text, variables_text}
use Rattle.argos_aspects.specs.Aspects.{Aspect}
use Rattle.argos_aspects.specs.Weaving.{need_with}
use Rattle.argos_compile.specs.Weaving.{WovenProgram, plain, with_aspect, IsBoundWith, IsWovenLineBound}
use Rattle.argos_compile.proofs.LineBounds.{one_line_bound}
use Rattle.argos_core.specs.Modules.{IsModule}
use Rattle.argos_core.specs.Process.{PlainModule}
use Rattle.argos_grammar.specs.DueSymbols as symbols
use Rattle.argos_grammar.specs.Forms.{ProgramForm, AspectForm, CertForm}
use Rattle.argos_grammar.specs.Text.{IsAspectText}
use Rattle.argos_grammar.proofs.OneFault.{first_fault_once, no_fault_in_text, no_fault_in_aspect, no_fault_in_cert}
use Rattle.argos_grammar.proofs.OneTreeTexts.{one_program_text, one_aspect_text, one_cert_text}
use Rattle.c_step.proofs.CFileLaws.{c_file_laws}
use Rattle.eqn_file.proofs.EquationLaws.{equation_file_laws}
use Rattle.argos_scope.specs.Meaning.{IsScopeFault}
use Rattle.argos_scope.proofs.OneMeaning.{means_once, means_no_fault, one_fault}
use Rattle.argos_words.specs.Words.{Words, Target, Equations, CText, IsCommand, Command, check, compile, weave, simulate, equiv, sample}
use Rattle.argos_words.proofs.OneCommand.{one_command}
use Rattle.pointcuts.proofs.OneAnswer.{one_aspect, not_both}
use Rattle.pointcuts.proofs.OneAnswer as pointcuts
use Rattle.trace_io.specs.Lines.{End, pulled_whole, raws_from}
use Rattle.argos_top.specs.Compilation.{Compiled, compiled, compiled_c}
use Rattle.argos_top.specs.Due.{CommandOf, command, usage, is_writing, Compiles, SaidBy, Due}
use Rattle.argos_load.specs.EquivFiles.{comparison, CertTreeOf, CertOver, CertFile, EquivOf}
use Rattle.argos_load.specs.EquivFiles as certs
use Rattle.argos_load.specs.Programs.{TextOf, short, too_long, ModuleOf, means, fault, scope, AcceptedOf, accepted, overlap, bad_case, too_wide, ProgramOf, FileKind, equation_file, c_file, program_file, file_kind, RunnableAs, RunnableOf, a_program, no_program, a_system, bad_line, a_step, not_due, RunnableFile}
use Rattle.argos_load.specs.Runnables.{Runnable, program, equations, c_steps, input_names, output_names, HasTrace, names_in}
use Rattle.bisim_formula.specs.Certificates as certificates
use Rattle.argos_top.specs.Equivalence.{Compared}
use Rattle.argos_top.proofs.OneComparison.{both_good, compared_one}
use Rattle.argos_load.specs.Reports.{cert_fault_text, fault_text, scope_text, aspect_fault_text, lines_text}
use Rattle.argos_load.specs.Said.{Yes, No, Refused, Said, said, yes_text, equation_fault_text, c_fault_text}
use Rattle.argos_load.specs.WovenFiles.{AspectTreeOf, AspectOver, ObservedOf, WovenWith, woven, too_many, AspectFile, WovenFrom, WovenOf, SimulationOf}
use Rattle.argos_load.specs.WovenFiles as aspects
use Rattle.argos_sample.specs.Emitted.{sample_reactions}
use Rattle.argos_sample.proofs.OneNumber.{one_number}
use Rattle.argos_top.specs.Sample.{Sampled, sampled, sample_lines}
use Rattle.argos_top.specs.inner.Commands.{IsSampleCount}
use Rattle.argos_top.proofs.Limits.{commands_keep_limits}
use Rattle.argos_top.specs.Simulation.{EndSays, Simulated, simulated, output_lines}
use Rattle.argos_top.specs.Simulation as ends
use Rattle.argos_load.specs.Stages.{Stage, gives, says, ◌then◌, Ends}
use Rattle.trace_io.proofs.TraceEnds.{AreSized, sets-sized}
use Rattle.argos_top.proofs.Given.{given, given_meant, observer_kept, IsGivenWoven, given_plain, given_with, IsGivenRunnable, given_simulation}
use Rattle.argos_top.proofs.Stages.{IsOne, same_value, said_in, then_one, finally_one}
use Rattle.argos_top.proofs.Traces.{HasOne, given_one}

-- the stages of a call

commands_one : (words : Words) → IsOne (CommandOf words)
commands_one words x y (command c h) (command d k) = ap gives (one_command words c d h k)
commands_one words x y (command c h) (usage none) = absurd (none c h)
commands_one words x y (usage none) (command c h) = absurd (none c h)
commands_one words x y (usage none) (usage none') = refl

texts_one : (k : ℕ) (bs : List ℕ) → IsOne (TextOf k bs)
texts_one k bs x y (short h) (short h') = refl
texts_one k bs x y (short h) (too_long l) = absurd (omega arith)
texts_one k bs x y (too_long l) (short h) = absurd (omega arith)
texts_one k bs x y (too_long l) (too_long l') = refl

-- what is decided, and the stage that it gives
abbrev stage_of : ℕ → PlainModule → Decision → Stage PlainModule
stage_of k p laws.accepted = gives p
stage_of k p (laws.overlap r q x y S) = says (said Refused (overlap_text k p r q x y S))
stage_of k p (laws.bad_case m i f) = says (said No (bad_case_text k p m i f))
stage_of k p (laws.too_wide n) = says (said Refused (variables_text k n))

record Decided (k : ℕ) (p : PlainModule) (x : Stage PlainModule) : Type 0 where
  decision : Decision
  is : IsDecision p decision
  stage : x ≡ stage_of k p decision

decided : (k : ℕ) (p : PlainModule) (x : Stage PlainModule) → AcceptedOf k p x → Decided k p x
decided k p x (accepted h) = record { decision = laws.accepted; is = h; stage = refl }
decided k p x (overlap r q a b S h) = record { decision = laws.overlap r q a b S; is = h; stage = refl }
decided k p x (bad_case m i f h) = record { decision = laws.bad_case m i f; is = h; stage = refl }
decided k p x (too_wide n h) = record { decision = laws.too_wide n; is = h; stage = refl }

accepts_one : (k : ℕ) (p : PlainModule) → IsModule p → IsOne (AcceptedOf k p)
accepts_one k p m x y h h' =
    let d = decided k p x h in
    let e = decided k p y h' in
    d.stage ∙ ap (stage_of k p) (one_decision p d.decision e.decision m d.is e.is) ∙ sym e.stage

-- a text means one module, or has one fault

modules_one : (k : ℕ) (bs : List ℕ) → IsOne (ModuleOf k bs)
modules_one k bs x y (means p m) (means q n) = ap gives (means_once bs p q m n)
modules_one k bs x y (means p m) (fault at kind f) = absurd (no_fault_in_text bs m.0 at kind m.1 f)
modules_one k bs x y (means p m) (scope t f is h) = absurd (means_no_fault bs t p f m is h)
modules_one k bs x y (fault at kind f) (means p m) = absurd (no_fault_in_text bs m.0 at kind m.1 f)
modules_one k bs x y (fault at kind f) (fault at' kind' g) =
    let same = first_fault_once symbols.program bs at at' kind kind' f g in
    ap (λ n. says (said Refused (fault_text k n kind))) same.0 ∙ ap (λ l. says (said Refused (fault_text k at' l))) same.1
modules_one k bs x y (fault at kind f) (scope t g is h) = absurd (no_fault_in_text bs t at kind is f)
modules_one k bs x y (scope t f is h) (means p m) = absurd (means_no_fault bs t p f m is h)
modules_one k bs x y (scope t f is h) (fault at kind g) = absurd (no_fault_in_text bs t at kind is g)
modules_one k bs x y (scope t f is h) (scope u g is' h') =
    let same : u ≡ t = one_program_text bs u t is' is in
    ap (λ e. says (said Refused (scope_text k e))) (one_fault bs t f g is h (subst (λ (v : ProgramForm). IsScopeFault v.components g) same h'))

-- what is said of an input, which needs that the module is accepted

end_one : (e : End) (a b : Said) → EndSays e a → EndSays e b → a ≡ b
end_one e a b ends.whole ends.whole = refl
end_one e a b ends.too_long ends.too_long = refl
end_one e a b (ends.bad n kind) (ends.bad m other) = refl

-- its trace is the one
simulated_one : (r : Runnable) (input : List ℕ) → IsGivenRunnable r → IsOne (Simulated r input)
simulated_one r input g s t (simulated is os e last lines says_end trace) (simulated is' os' e' last' lines' says_end' trace') =
    let both : (is, e) ≡ (is', e') = sym lines ∙ lines' in
    let sets : is ≡ is' = ap (λ z. z.0) both in
    let end : e ≡ e' = ap (λ z. z.1) both in
    let last_is : last ≡ last' = end_one e' last last' (subst (λ z. EndSays z last) end says_end) says_end' in
    let sized = sets-sized (input_names r) (pulled_whole input).stop 1 (raws_from (pulled_whole input).stop (pulled_whole input).bytes) in
    let here = subst (λ z. AreSized (length (input_names r)) z.0) lines' sized in
    let one : HasOne r is' = given_one r is' g here in
    let outs : os ≡ os' = one.only os (subst (λ z. HasTrace r z os) sets trace) ∙ sym (one.only os' trace') in
    ap (λ (l : Said). said l.answer (output_lines (output_names r) os ++ l.bytes)) last_is ∙ ap (λ z. said last'.answer (output_lines (output_names r) z ++ last'.bytes)) outs

accepted_one : (k : ℕ) (text : List ℕ) → IsOne (ModuleOf k text then AcceptedOf k)
accepted_one k text = then_one (ModuleOf k text) (AcceptedOf k) (modules_one k text) (λ p m. accepts_one k p (given_meant k text p m))

program_one : (k : ℕ) (bs : List ℕ) → IsOne (ProgramOf k bs)
program_one k bs = then_one (TextOf k bs) (λ text. ModuleOf k text then AcceptedOf k) (texts_one k bs) (λ text h. accepted_one k text)

-- a text that is read in one way gives one thing
runnable_as_one : (k : ℕ) (text : List ℕ) (kind : FileKind) → IsOne (RunnableAs k text kind)
runnable_as_one k text program_file x y (a_program p h) (a_program q h') = ap (λ z. gives (program (plain z))) (same_value p q (accepted_one k text (gives p) (gives q) h h'))
runnable_as_one k text program_file x y (a_program p h) (no_program s h') = let e : gives p ≡ says s = accepted_one k text (gives p) (says s) h h' in cc
runnable_as_one k text program_file x y (no_program s h) (a_program q h') = let e : says s ≡ gives q = accepted_one k text (says s) (gives q) h h' in cc
runnable_as_one k text program_file x y (no_program s h) (no_program u h') = let e : says s ≡ says u = accepted_one k text (says s) (says u) h h' in ap (λ z. says (said_in z s)) e
runnable_as_one k text equation_file x y (a_system E n h) (a_system F m h') = let same = equation_file_laws.one_reading text E F n m h h' in ap (λ z. gives (equations z n)) same.0 ∙ ap (λ z. gives (equations F z)) same.1
runnable_as_one k text equation_file x y (a_system E n h) (bad_line at kind h') = absurd (equation_file_laws.no_fault text E n at kind h h')
runnable_as_one k text equation_file x y (bad_line at kind h) (a_system F m h') = absurd (equation_file_laws.no_fault text F m at kind h' h)
runnable_as_one k text equation_file x y (bad_line at kind h) (bad_line at' kind' h') =
    let same = equation_file_laws.one_fault text at at' kind kind' h h' in
    ap (λ n. says (said Refused (equation_fault_text k n kind))) same.0 ∙ ap (λ l. says (said Refused (equation_fault_text k at' l))) same.1
runnable_as_one k text c_file x y (a_step s h) (a_step s' h') = ap (λ z. gives (c_steps z)) (c_file_laws.one_reading text s s' h h')
runnable_as_one k text c_file x y (a_step s h) (not_due at h') = absurd (c_file_laws.no_fault text s at h h')
runnable_as_one k text c_file x y (not_due at h) (a_step s h') = absurd (c_file_laws.no_fault text s at h' h)
runnable_as_one k text c_file x y (not_due at h) (not_due at' h') = ap (λ n. says (said Refused (c_fault_text k n))) (c_file_laws.one_fault text at at' h h')

runnable_one : (k : ℕ) (bs : List ℕ) → IsOne (RunnableFile k bs)
runnable_one k bs = then_one (TextOf k bs) (RunnableOf k) (texts_one k bs) (λ text h. runnable_as_one k text (file_kind text))

-- an aspect's file over a program that was given gives one thing

trees_one : (k : ℕ) (text : List ℕ) → IsOne (AspectTreeOf k text)
trees_one k text x y (aspects.tree t is) (aspects.tree u is') = ap gives (one_aspect_text text t u is is')
trees_one k text x y (aspects.tree t is) (aspects.fault at kind f) = absurd (no_fault_in_aspect text t at kind is f)
trees_one k text x y (aspects.fault at kind f) (aspects.tree t is) = absurd (no_fault_in_aspect text t at kind is f)
trees_one k text x y (aspects.fault at kind f) (aspects.fault at' kind' g) =
    let same = first_fault_once symbols.aspect text at at' kind kind' f g in
    ap (λ n. says (said Refused (fault_text k n kind))) same.0 ∙ ap (λ l. says (said Refused (fault_text k at' l))) same.1

its_form : (k : ℕ) (text : List ℕ) (t : AspectForm) → AspectTreeOf k text (gives t) → IsAspectText text t
its_form k text t (aspects.tree u is) = is

over_one : (k : ℕ) (text : List ℕ) (t : AspectForm) (p : PlainModule) → IsAspectText text t → IsModule p → IsOne (AspectOver k (names_in p) t)
over_one k text t p is m x y (aspects.aspect A h) (aspects.aspect B g) = ap gives (one_aspect (names_in p) m.names t A B h g)
over_one k text t p is m x y (aspects.aspect A h) (aspects.fault f g) = absurd (not_both t (names_in p) A f h g)
over_one k text t p is m x y (aspects.fault f g) (aspects.aspect A h) = absurd (not_both t (names_in p) A f h g)
over_one k text t p is m x y (aspects.fault f g) (aspects.fault f' g') = ap (λ e. says (said Refused (aspect_fault_text k e))) (pointcuts.one_fault text t (names_in p) f f' is g g')

observed_one : (k : ℕ) (A : Aspect) → IsModule A.observer → IsOne (ObservedOf k A)
observed_one k A m = then_one (AcceptedOf k A.observer) (λ p r. r ≡ gives A) (accepts_one k A.observer m) (λ p h x y e e'. e ∙ sym e')

-- a woven program has one bound on lines
one_bound : (P : PlainModule) (before : List Aspect) (m n : ℕ) → IsBoundWith P before m → IsBoundWith P before n → m ≡ n
one_bound P [] m n h k = one_line_bound P m n h k
one_bound P (A ∷ before) m n (most, lines, h) (most', lines', k) =
    h.2 ∙ ap (λ z. need_with P before A z lines) (one_bound P before most most' h.0 k.0) ∙ ap (λ z. need_with P before A most' z) (one_line_bound A.observer lines lines' h.1 k.1) ∙ sym k.2

one_need : (x : WovenProgram) (A : Aspect) (m n : ℕ) → ∥ IsWovenLineBound (with_aspect x A) m ∥₁ → ∥ IsWovenLineBound (with_aspect x A) n ∥₁ → m ≡ n
one_need x A m n h k = ∥∥₁_elim h (hlevel props) (λ b. ∥∥₁_elim k (hlevel props) (λ c. one_bound x.base (A ∷ x.aspects) m n b c))

woven_with_one : (k : ℕ) (x : WovenProgram) (A : Aspect) → IsOne (WovenWith k x A)
woven_with_one k x A r t (woven need b few) (woven need' b' few') = refl
woven_with_one k x A r t (woven need b few) (too_many need' b' many) = let e = one_need x A need need' b b' in absurd (omega arith)
woven_with_one k x A r t (too_many need b many) (woven need' b' few) = let e = one_need x A need need' b b' in absurd (omega arith)
woven_with_one k x A r t (too_many need b many) (too_many need' b' many') = ap (λ n. says (said Refused (lines_text k n))) (one_need x A need need' b b')

its_aspect : (k : ℕ) (text : List ℕ) (t : AspectForm) (p : PlainModule) (A : Aspect) → IsAspectText text t → AspectOver k (names_in p) t (gives A) → IsModule A.observer
its_aspect k text t p A is (aspects.aspect B h) = observer_kept text t (names_in p) B is h

aspect_one : (k : ℕ) (x : WovenProgram) (bs : List ℕ) → IsGivenWoven x → IsOne (AspectFile k x bs)
aspect_one k x bs g =
    then_one (TextOf k bs) (λ text. AspectTreeOf k text then λ t. AspectOver k (names_in x.base) t then λ A. ObservedOf k A then λ B. WovenWith k x B) (texts_one k bs) (λ text ht.
    then_one (AspectTreeOf k text) (λ t. AspectOver k (names_in x.base) t then λ A. ObservedOf k A then λ B. WovenWith k x B) (trees_one k text) (λ t h.
    let is = its_form k text t h in
    then_one (AspectOver k (names_in x.base) t) (λ A. ObservedOf k A then λ B. WovenWith k x B) (over_one k text t x.base is g.base.kept) (λ A over.
    then_one (ObservedOf k A) (λ B. WovenWith k x B) (observed_one k A (its_aspect k text t x.base A is over)) (λ B ho. woven_with_one k x B))))

-- the files of a command give one thing

module _ (files : List ℕ → List ℕ) where
  woven_from_one : (k : ℕ) (names : List (List ℕ)) (x : WovenProgram) → IsGivenWoven x → IsOne (WovenFrom files k names x)
  woven_from_one k [] x g = λ r t h h'. h ∙ sym h'
  woven_from_one k (name ∷ names) x g =
      then_one (AspectFile k x (files name)) (λ y. WovenFrom files (suc k) names y) (aspect_one k x (files name) g) (λ y h. woven_from_one (suc k) names y (given_with k x (files name) y g h))

  woven_one : (file : List ℕ) (names : List (List ℕ)) → IsOne (WovenOf files file names)
  woven_one file names = then_one (ProgramOf 1 (files file)) (λ p. WovenFrom files 2 names (plain p)) (program_one 1 (files file)) (λ p h. woven_from_one 2 names (plain p) (given_plain p (given 1 (files file) p h)))

  simulation_one : (file : List ℕ) (names : List (List ℕ)) → IsOne (SimulationOf files file names)
  simulation_one file [] = runnable_one 1 (files file)
  simulation_one file (name ∷ names) = then_one (WovenOf files file (name ∷ names)) (λ x r. r ≡ gives (program x)) (woven_one file (name ∷ names)) (λ x h r t e e'. e ∙ sym e')

-- a certificate's file over two programs gives one formula

cert_trees_one : (k : ℕ) (text : List ℕ) → IsOne (CertTreeOf k text)
cert_trees_one k text x y (certs.tree t is) (certs.tree u is') = ap gives (one_cert_text text t u is is')
cert_trees_one k text x y (certs.tree t is) (certs.fault at kind f) = absurd (no_fault_in_cert text t at kind is f)
cert_trees_one k text x y (certs.fault at kind f) (certs.tree t is) = absurd (no_fault_in_cert text t at kind is f)
cert_trees_one k text x y (certs.fault at kind f) (certs.fault at' kind' g) =
    let same = first_fault_once symbols.cert text at at' kind kind' f g in
    ap (λ n. says (said Refused (fault_text k n kind))) same.0 ∙ ap (λ l. says (said Refused (fault_text k at' l))) same.1

cert_over_one : (k : ℕ) (P Q : PlainModule) (t : CertForm) → IsOne (CertOver k P Q t)
cert_over_one k P Q t x y (certs.formula F h) (certs.formula G g) = let e : certificates.says F ≡ certificates.says G = sym h ∙ g in let same : F ≡ G = cc in ap gives same
cert_over_one k P Q t x y (certs.formula F h) (certs.fault f g) = let e : certificates.says F ≡ certificates.refused f = sym h ∙ g in cc
cert_over_one k P Q t x y (certs.fault f g) (certs.formula F h) = let e : certificates.says F ≡ certificates.refused f = sym h ∙ g in cc
cert_over_one k P Q t x y (certs.fault f h) (certs.fault f' g) = let e : certificates.refused f ≡ certificates.refused f' = sym h ∙ g in let same : f ≡ f' = cc in ap (λ z. says (said Refused (cert_fault_text k z))) same

cert_one : (k : ℕ) (P Q : PlainModule) (bs : List ℕ) → IsOne (CertFile k P Q bs)
cert_one k P Q bs = then_one (TextOf k bs) (λ text. CertTreeOf k text then CertOver k P Q) (texts_one k bs) (λ text ht. then_one (CertTreeOf k text) (CertOver k P Q) (cert_trees_one k text) (λ t h. cert_over_one k P Q t))

equiv_one : (files : List ℕ → List ℕ) (left right cert : List ℕ) → IsOne (EquivOf files left right cert)
equiv_one files left right cert =
    then_one (ProgramOf 1 (files left)) (λ P. ProgramOf 2 (files right) then λ Q. CertFile 3 P Q (files cert) then λ F r. r ≡ gives (comparison P Q F)) (program_one 1 (files left)) (λ P hP.
    then_one (ProgramOf 2 (files right)) (λ Q. CertFile 3 P Q (files cert) then λ F r. r ≡ gives (comparison P Q F)) (program_one 2 (files right)) (λ Q hQ.
    then_one (CertFile 3 P Q (files cert)) (λ F r. r ≡ gives (comparison P Q F)) (cert_one 3 P Q (files cert)) (λ F h r t e e'. e ∙ sym e')))

-- Two answers agree: they are the same, or both say Yes with a file.
pub data Agree (compiles : Type 0) (s t : Said) : Type 0 where
  same : s ≡ t → Agree compiles s t
  written : compiles → s.answer ≡ Yes → t.answer ≡ Yes → Agree compiles s t

compiled_yes : (x : WovenProgram) (to : Target) (s : Said) → Compiled x to s → s.answer ≡ Yes
compiled_yes x Equations s (compiled bytes E a text) = refl
compiled_yes x CText s (compiled_c bytes z a text) = refl

sampled_once : (n : ℕ) → IsSampleCount n → (s t : Said) → Sampled n s → Sampled n t → s ≡ t
sampled_once n limits s t (sampled j a) (sampled k b) = ap (λ e. said Yes (sample_lines n e)) (one_number n sample_reactions j k limits.least limits.greatest a b)

module _ (files : List ℕ → List ℕ) (input : List ℕ) (words : Words) where
  written_agree : (c : Command) (to : Target) → IsCommand words c → is_writing c ≡ true → (x y : Stage WovenProgram) → x ≡ y → (s t : Said) → Ends (λ p. Compiled p to) x s → Ends (λ p. Compiled p to) y t → Agree (Compiles words) s t
  written_agree c to is writes (gives p) (gives q) e s t h k = written (c, is, writes) (compiled_yes p to s h) (compiled_yes q to t k)
  written_agree c to is writes (gives p) (says u) e s t h k = cc
  written_agree c to is writes (says v) (gives q) e s t h k = cc
  written_agree c to is writes (says v) (says u) e s t h k = same (h ∙ ap (λ x. said_in x v) e ∙ sym k)

  said_agree : (c : Command) → IsCommand words c → (s t : Said) → SaidBy files input c s → SaidBy files input c t → Agree (Compiles words) s t
  said_agree (simulate file names nodes) is s t h k = same (finally_one (SimulationOf files file names) (λ r. Simulated r input) (simulation_one files file names) (λ r g. simulated_one r input (given_simulation files file names r g)) s t h k)
  said_agree (check file nodes) is s t h k = same (finally_one (ProgramOf 1 (files file)) (λ p u. u ≡ said Yes yes_text) (program_one 1 (files file)) (λ p g x y hx hy. hx ∙ sym hy) s t h k)
  said_agree (compile file to nodes) is s t h k = written_agree (compile file to nodes) to is refl h.0 k.0 (woven_one files file [] h.0 k.0 h.1 k.1) s t h.2 k.2
  said_agree (weave file names to nodes) is s t h k = written_agree (weave file names to nodes) to is refl h.0 k.0 (woven_one files file names h.0 k.0 h.1 k.1) s t h.2 k.2
  said_agree (equiv left right cert nodes) is s t h k = same (finally_one (EquivOf files left right cert) Compared (equiv_one files left right cert) (λ x g. compared_one x (both_good files left right cert x g)) s t h k)
  said_agree (sample n) is s t h k = same (sampled_once n (commands_keep_limits words (sample n) is) s t h k)

  pub due_once : (s t : Said) → Due files input words s → Due files input words t → Agree (Compiles words) s t
  due_once s t h k = by_command h.0 k.0 (commands_one words h.0 k.0 h.1 k.1) h.1 h.2 k.2
    where
      by_command : (x y : Stage Command) → x ≡ y → CommandOf words x → Ends (SaidBy files input) x s → Ends (SaidBy files input) y t → Agree (Compiles words) s t
      by_command (gives c) (gives d) e is a b = said_agree c (its_command c is) s t a (subst (λ z. SaidBy files input z t) (sym (same_value c d e)) b)
        where
          its_command : (c : Command) → CommandOf words (gives c) → IsCommand words c
          its_command z (command c' is') = is'
      by_command (gives c) (says u) e is a b = cc
      by_command (says v) (gives d) e is a b = cc
      by_command (says v) (says u) e is a b = same (a ∙ ap (λ x. said_in x v) e ∙ sym b)

-- so both have one answer, and where no file is written they are the same
pub one_answer : (files : List ℕ → List ℕ) (words : Words) (input : List ℕ) (s t : Said) → Due files input words s → Due files input words t → s.answer ≡ t.answer
one_answer files words input s t h k = by (due_once files input words s t h k)
  where
    by : Agree (Compiles words) s t → s.answer ≡ t.answer
    by (same e) = ap (λ z. z.answer) e
    by (written c a b) = a ∙ sym b

pub one_text : (files : List ℕ → List ℕ) (words : Words) (input : List ℕ) (s t : Said) → Due files input words s → Due files input words t → (Compiles words → s.answer ≡ Yes → ⊥) → s ≡ t
one_text files words input s t h k free = by (due_once files input words s t h k)
  where
    by : Agree (Compiles words) s t → s ≡ t
    by (same e) = e
    by (written c a b) = absurd (free c a)
