-- What the errors of the parts say of an aspect.
use Rattle.std.proofs.Common.{◌≡◌, ℕ, ◌<◌, ◌≤◌, List, [], ◌∷◌, ◌++◌, Bool, true, false, Option, Some, None, length, map, refl, sym, ap, subst, ◌∙◌, arith}
use Rattle.std.specs.Prelude.{flat_map, nat_lt, ◌==◌, if◌then◌else◌, Result, Ok, Err, IfErr, IsSomeAnd}
use Rattle.std.specs.Result.{IsErrAnd}
use Rattle.std.proofs.lemmas.Bool.Decides.{nat_tests}
use Rattle.std.proofs.lemmas.List.{length-map}
use Rattle.argos_base.specs.Limits.{advice_set_limit}
use Rattle.argos_aspects.specs.Aspects.{Aspect, Seen, Advice}
use Rattle.argos_core.specs.ModuleViews.{module_of}
use Rattle.argos_core.specs.declared.module.Module.{Module}
use Rattle.argos_expansion.specs.Expansion.{last_of}
use Rattle.argos_expansion.specs.Limits.{Trace}
use Rattle.argos_expansion.specs.declared.errors.Which.TheVariants as whiches
use Rattle.argos_grammar.specs.Forms.{ComponentForm, AspectForm}
use Rattle.argos_names.specs.Refusals.{Refuses, breach_at}
use Rattle.argos_names.specs.Scope.{Breach, breaches}
use Rattle.argos_names.specs.declared.errors.NameFault.{NameFault}
use Rattle.argos_names.specs.declared.errors.NameFault.TheVariants as faults
use Rattle.argos_names.specs.declared.errors.NameRule.{NameRule}
use Rattle.argos_names.specs.declared.errors.NameRule.TheVariants as rules
use Rattle.argos_scope.specs.Faults.{fault_of, TellsFault}
use Rattle.argos_scope.specs.Meaning.{Resolves, ScopeFault, broken, limit, IsScopeFault}
use Rattle.argos_scope.specs.declared.errors.ScopeError.{ScopeError}
use Rattle.argos_scope.specs.declared.errors.ScopeError.TheVariants as scopes
use Rattle.argos_scope.specs.inner.Joined.{error_of_fault}
use Rattle.argos_verdict.specs.Answers.{IsRefused}
use Rattle.argos_verdict.specs.declared.judging.AcceptError.{AcceptError}
use Rattle.argos_verdict.specs.declared.judging.AcceptError.TheVariants as accept
use Rattle.line_format.specs.FileNames.{FileNames}
use Rattle.pointcuts.specs.Pointcuts.{base_scope, seeing, in_advice, AreSeen, IsAspectOf, AspectFault, scope, outputs, outputs_fault, trace_fault, faults_over, IsAspectFault, name_rule, over_base, passed}
use Rattle.pointcuts.specs.Refusals.{IsUnaccepted, TellsWhyNot}
use Rattle.pointcuts.specs.declared.errors.AspectError.{AspectError}
use Rattle.pointcuts.specs.declared.errors.AspectError.TheVariants as errors
use Rattle.pointcuts.specs.inner.Errors.{error_of_scope, error_of_accept}
use Rattle.pointcuts.specs.inner.Finding.{IsFirst, TellsFirst, TellsFirstOrNothing, TellsFirstFault, IsOverBase}
use Rattle.pointcuts.proofs.Finding.{first_append, first_later, first_mapped, or_nothing}

-- an error that a `?` makes of this one
pub error_is : (P : AspectError → Type 0) (made e : AspectError) → made ≡ e → P e → P made
error_is P made e same h = subst P (sym same) h

pub error_says : {T : Type 0} (P : AspectError → Type 0) (r : Result T AspectError) (e : AspectError) → IsErrAnd r (λ x. x ≡ e) → P e → IfErr r P
error_says P (Ok x) e h p = absurd h
error_says P (Err x) e h p = subst P (sym h) p

-- a name rule that is broken in the components
pub name_why : (t : AspectForm) (n : FileNames) (budget : ℕ) (fault : NameFault) → Refuses t.components fault → TellsWhyNot t n budget (error_of_scope (error_of_fault fault))
name_why t n budget faults.OutOfMemory h = tt
name_why t n budget (faults.Broken rules.Unknown name at) h = name_rule (breach_at rules.Unknown name at) h
name_why t n budget (faults.Broken rules.Duplicate name at) h = name_rule (breach_at rules.Duplicate name at) h
name_why t n budget (faults.Broken rules.NotReadable name at) h = name_rule (breach_at rules.NotReadable name at) h
name_why t n budget (faults.Broken rules.NotEmittable name at) h = name_rule (breach_at rules.NotEmittable name at) h
name_why t n budget (faults.Broken rules.Arity name at) h = name_rule (breach_at rules.Arity name at) h
name_why t n budget (faults.Broken rules.NotEarlier name at) h = name_rule (breach_at rules.NotEarlier name at) h
name_why t n budget (faults.Broken rules.NoInitial name at) h = name_rule (breach_at rules.NoInitial name at) h

-- breaches that are told as faults of an aspect
pub breach_told : (bs : List Breach) (fs : List AspectFault) → ((b : Breach) → IsFirst bs b → IsFirst fs (scope (broken b))) → (e : ScopeError) → TellsFirstOrNothing bs e → TellsFirstFault fs (error_of_scope e)
breach_told bs fs lift scopes.OutOfMemory h = tt
breach_told bs fs lift (scopes.Unknown name at) (b, first, told) = (broken b, lift b first, told)
breach_told bs fs lift (scopes.Duplicate name at) (b, first, told) = (broken b, lift b first, told)
breach_told bs fs lift (scopes.NotReadable name at) (b, first, told) = (broken b, lift b first, told)
breach_told bs fs lift (scopes.NotEmittable name at) (b, first, told) = (broken b, lift b first, told)
breach_told bs fs lift (scopes.Arity name at) (b, first, told) = (broken b, lift b first, told)
breach_told bs fs lift (scopes.NotEarlier name at) (b, first, told) = (broken b, lift b first, told)
breach_told bs fs lift (scopes.NoInitial name at) (b, first, told) = (broken b, lift b first, told)
breach_told bs fs lift (scopes.Limit which count) (b, first, told) = (broken b, lift b first, told)

-- faults that are told as faults that come after nothing
pub fault_told : (fs gs : List AspectFault) → ((f : AspectFault) → IsFirst fs f → IsFirst gs f) → (e : AspectError) → TellsFirstFault fs e → TellsFirstFault gs e
fault_told fs gs lift (errors.Scope e) (f, first, told) = (f, lift (scope f) first, told)
fault_told fs gs lift (errors.Outputs count) first = lift (outputs count) first
fault_told fs gs lift (errors.Observer m e) h = absurd h
fault_told fs gs lift errors.OutOfMemory h = tt

-- the parts of what a base refuses
module _ (n : FileNames) (observer : ComponentForm) (t : AspectForm) where
  abbrev seen_breaches : List Breach
  seen_breaches = flat_map (seeing (base_scope n)) observer.inputs

  abbrev advice_breaches : List Breach
  advice_breaches = in_advice (base_scope n) t

  abbrev of_breach : Breach → AspectFault
  of_breach b = scope (broken b)

  abbrev of_outputs : List AspectFault
  of_outputs = outputs_fault (length observer.outputs)

  abbrev of_trace : List AspectFault
  of_trace = trace_fault (length t.trace)

  abbrev of_names : List AspectFault
  of_names = map of_breach (seen_breaches ++ advice_breaches)

  pub outputs_told : (e : AspectError) → TellsFirstFault of_outputs e → TellsFirstFault (faults_over n observer t) e
  outputs_told = fault_told of_outputs (faults_over n observer t) (λ f first. first_append (of_outputs ++ of_names) of_trace f (first_append of_outputs of_names f first))

  pub seen_told : of_outputs ≡ [] → (e : ScopeError) → TellsFirstOrNothing seen_breaches e → TellsFirstFault (faults_over n observer t) (error_of_scope e)
  seen_told one = breach_told seen_breaches (faults_over n observer t) (λ b first.
      first_append (of_outputs ++ of_names) of_trace (of_breach b)
      (first_later of_outputs of_names (of_breach b) one
      (first_mapped of_breach (seen_breaches ++ advice_breaches) b (first_append seen_breaches advice_breaches b first))))

  pub advice_told : of_outputs ≡ [] → seen_breaches ≡ [] → (e : ScopeError) → TellsFirst advice_breaches e → TellsFirstFault (faults_over n observer t) (error_of_scope e)
  advice_told one known e h = breach_told advice_breaches (faults_over n observer t) (λ b first.
      first_append (of_outputs ++ of_names) of_trace (of_breach b)
      (first_later of_outputs of_names (of_breach b) one
      (first_mapped of_breach (seen_breaches ++ advice_breaches) b (first_later seen_breaches advice_breaches b known first)))) e (or_nothing advice_breaches e h)

  no_names : seen_breaches ≡ [] → advice_breaches ≡ [] → of_names ≡ []
  no_names known named = ap (map of_breach) (ap (λ bs. bs ++ advice_breaches) known ∙ named)

  pub trace_told : of_outputs ≡ [] → seen_breaches ≡ [] → advice_breaches ≡ [] → (e : AspectError) → TellsFirstFault of_trace e → TellsFirstFault (faults_over n observer t) e
  trace_told one known named = fault_told of_trace (faults_over n observer t) (λ f first.
      first_later (of_outputs ++ of_names) of_trace f (ap (λ fs. fs ++ of_names) one ∙ no_names known named) first)

  pub nothing_told : of_outputs ≡ [] → seen_breaches ≡ [] → advice_breaches ≡ [] → of_trace ≡ [] → faults_over n observer t ≡ []
  nothing_told one known named short = ap (λ fs. fs ++ of_trace) (ap (λ fs. fs ++ of_names) one ∙ no_names known named) ∙ short

-- where nothing is refused
pub nothing_first : {A : Type 0} (xs ys : List A) → xs ++ ys ≡ [] → xs ≡ []
nothing_first [] ys e = refl
nothing_first (x ∷ xs) ys e = cc e

pub nothing_second : {A : Type 0} (xs ys : List A) → xs ++ ys ≡ [] → ys ≡ []
nothing_second [] ys e = e
nothing_second (x ∷ xs) ys e = cc e

nothing_mapped : {A B : Type 0} (g : A → B) (xs : List A) → map g xs ≡ [] → xs ≡ []
nothing_mapped g [] e = refl
nothing_mapped g (x ∷ xs) e = cc e

module _ (n : FileNames) (observer : ComponentForm) (t : AspectForm) (none : faults_over n observer t ≡ []) where
  before_trace : of_outputs n observer t ++ of_names n observer t ≡ []
  before_trace = nothing_first (of_outputs n observer t ++ of_names n observer t) (of_trace n observer t) none

  names_kept : seen_breaches n observer t ++ advice_breaches n observer t ≡ []
  names_kept = nothing_mapped (of_breach n observer t) (seen_breaches n observer t ++ advice_breaches n observer t) (nothing_second (of_outputs n observer t) (of_names n observer t) before_trace)

  pub no_outputs_told : outputs_fault (length observer.outputs) ≡ []
  no_outputs_told = nothing_first (of_outputs n observer t) (of_names n observer t) before_trace

  pub no_seen_told : flat_map (seeing (base_scope n)) observer.inputs ≡ []
  no_seen_told = nothing_first (seen_breaches n observer t) (advice_breaches n observer t) names_kept

  pub no_advice_told : in_advice (base_scope n) t ≡ []
  no_advice_told = nothing_second (seen_breaches n observer t) (advice_breaches n observer t) names_kept

  pub no_trace_told : trace_fault (length t.trace) ≡ []
  no_trace_told = nothing_second (of_outputs n observer t ++ of_names n observer t) (of_trace n observer t) none

-- why there is no aspect
pub over_base_why : (t : AspectForm) (n : FileNames) (budget : ℕ) (observer : ComponentForm) → breaches t.components ≡ [] → last_of t.components ≡ Some observer
    → (e : AspectError) → TellsFirstFault (faults_over n observer t) e → TellsWhyNot t n budget e
over_base_why t n budget observer sound last (errors.Scope e) (f, (more, first), told) =
    subst (λ o. IsSomeAnd o (λ g. IsAspectFault t n (scope g))) (sym told) (over_base observer (scope f) more sound last first)
over_base_why t n budget observer sound last (errors.Outputs count) (more, first) = over_base observer (outputs count) more sound last first
over_base_why t n budget observer sound last (errors.Observer m e) h = absurd h
over_base_why t n budget observer sound last errors.OutOfMemory h = tt

scope_lift : (t : AspectForm) (n : FileNames) (observer : ComponentForm) → last_of t.components ≡ Some observer → faults_over n observer t ≡ [] → (f : ScopeFault) → IsScopeFault t.components f → IsAspectFault t n (scope f)
scope_lift t n observer last none (broken b) h = name_rule b h
scope_lift t n observer last none (limit which count) h = passed observer which count h.0 last none h.1

pub scope_why : (t : AspectForm) (n : FileNames) (budget : ℕ) (observer : ComponentForm) → last_of t.components ≡ Some observer → faults_over n observer t ≡ []
    → (e : ScopeError) → TellsFault t.components e → TellsWhyNot t n budget (error_of_scope e)
scope_why t n budget observer last none scopes.OutOfMemory h = tt
scope_why t n budget observer last none (scopes.Unknown name at) h = scope_lift t n observer last none _ h
scope_why t n budget observer last none (scopes.Duplicate name at) h = scope_lift t n observer last none _ h
scope_why t n budget observer last none (scopes.NotReadable name at) h = scope_lift t n observer last none _ h
scope_why t n budget observer last none (scopes.NotEmittable name at) h = scope_lift t n observer last none _ h
scope_why t n budget observer last none (scopes.Arity name at) h = scope_lift t n observer last none _ h
scope_why t n budget observer last none (scopes.NotEarlier name at) h = scope_lift t n observer last none _ h
scope_why t n budget observer last none (scopes.NoInitial name at) h = scope_lift t n observer last none _ h
scope_why t n budget observer last none (scopes.Limit which count) h = scope_lift t n observer last none _ h

-- an observer that isn't accepted
module _ (t : AspectForm) (n : FileNames) (budget : ℕ) (A : Aspect) (is : IsAspectOf t n A) (m : Module) (same : module_of m ≡ A.observer) where
  pub accept_why : (e : AcceptError) → IsRefused A.observer budget e → TellsWhyNot t n budget (error_of_accept m e)
  accept_why (accept.Overlap r q x y S) h = record { aspect = A; is = is; observer = same; refused = h; reason = λ e. cc e }
  accept_why (accept.NoReaction memory input) h = record { aspect = A; is = is; observer = same; refused = h; reason = λ e. cc e }
  accept_why (accept.Several memory input first second) h = record { aspect = A; is = is; observer = same; refused = h; reason = λ e. cc e }
  accept_why (accept.Variables k) h = record { aspect = A; is = is; observer = same; refused = h; reason = λ e. cc e }
  accept_why (accept.Budget arena) h = record { aspect = A; is = is; observer = same; refused = h; reason = λ e. cc e }
  accept_why accept.OutOfMemory h = tt

one_output : (count : ℕ) → outputs_fault count ≡ [] → count ≡ 1
one_output count h = by_test (count == 1) refl h
  where
    by_test : (b : Bool) → (count == 1) ≡ b → (if b then [] else outputs count ∷ []) ≡ [] → count ≡ 1
    by_test true e k = grind (arith, nat_tests)
    by_test false e k = cc k

pub one_output_told : (count : ℕ) → count ≡ 1 → outputs_fault count ≡ []
one_output_told count e = ap outputs_fault e

short_trace : (sets : ℕ) → trace_fault sets ≡ [] → sets ≤ advice_set_limit
short_trace sets h = by_test (nat_lt advice_set_limit sets) refl h
  where
    by_test : (b : Bool) → nat_lt advice_set_limit sets ≡ b → (if b then scope (limit Trace sets) ∷ [] else []) ≡ [] → sets ≤ advice_set_limit
    by_test true e k = cc k
    by_test false e k = grind (arith, nat_tests)

pub short_trace_told : (sets : ℕ) → sets ≤ advice_set_limit → trace_fault sets ≡ []
short_trace_told sets h = ap (λ (b : Bool). if b then scope (limit Trace sets) ∷ [] else []) (within sets h)
  where
    within : (k : ℕ) → k ≤ advice_set_limit → nat_lt advice_set_limit k ≡ false
    within k h = grind (arith, nat_tests)

pub long_trace_told : (sets : ℕ) → advice_set_limit < sets → IsFirst (trace_fault sets) (scope (limit Trace sets))
long_trace_told sets h = ([], ap (λ (b : Bool). if b then scope (limit Trace sets) ∷ [] else []) (beyond sets h))
  where
    beyond : (k : ℕ) → advice_set_limit < k → nat_lt advice_set_limit k ≡ true
    beyond k h = grind (arith, nat_tests)

pub other_outputs_told : (count : ℕ) → ¬ (count ≡ 1) → IsFirst (outputs_fault count) (outputs count)
other_outputs_told count h = ([], ap (λ (b : Bool). if b then [] else outputs count ∷ []) (other count h))
  where
    other : (k : ℕ) → ¬ (k ≡ 1) → (k == 1) ≡ false
    other k h = grind (arith, nat_tests)

-- the aspect
pub aspect_is : (t : AspectForm) (n : FileNames) (A : Aspect) (observer : ComponentForm) → Resolves t.components A.observer → last_of t.components ≡ Some observer → IsOverBase n observer t A.seen A.advice → IsAspectOf t n A
aspect_is t n A observer r last h =
    let same : Some observer ≡ Some r.main = sym last ∙ r.last in
    let main : observer ≡ r.main = cc same in
    let one : length observer.outputs ≡ 1 = one_output (length observer.outputs) (no_outputs_told n observer t h.none) in
    record {
      observer = r;
      join_point = ap length (r.outputs ∙ ap (λ (c : ComponentForm). map (λ m. m.name) c.outputs) (sym main)) ∙ length-map observer.outputs (λ m. m.name) ∙ one;
      seen = subst (λ names. AreSeen n names A.seen) (ap (λ (c : ComponentForm). map (λ m. m.name) c.inputs) main ∙ sym r.inputs) h.sees;
      named = no_advice_told n observer t h.none;
      outs = h.advice.outs;
      onset = h.advice.onset;
      trace = h.advice.trace;
      short = short_trace (length t.trace) (no_trace_told n observer t h.none);
    }
