-- What parsing and resolving together say of a text.
use Rattle.std.proofs.Common.{◌≡◌, ℕ, List, Option, Some, None, refl, sym, ap, ◌∙◌, subst}
use Rattle.std.specs.Prelude.{Result, Ok, Err, IfErr, MatchResult}
use Rattle.std.specs.Result.{IsErrAnd}
use Rattle.argos_core.specs.ModuleViews.{module_of}
use Rattle.argos_core.specs.Process.{PlainModule}
use Rattle.argos_core.specs.declared.module.Module.{Module}
use Rattle.argos_grammar.specs.Forms.{ComponentForm, ProgramForm}
use Rattle.argos_grammar.specs.Text.{IsText}
use Rattle.argos_names.specs.Scope.{Unknown, Duplicate, NotReadable, NotEmittable, Arity, NotEarlier, NoInitial}
use Rattle.argos_expansion.specs.Refusals.{which_of}
use Rattle.argos_scope.specs.Faults.{broken_at, TellsFault}
use Rattle.argos_scope.specs.Meaning.{Means, ScopeFault, limit, IsScopeFault}
use Rattle.argos_scope.specs.TextFaults.{TellsWhy}
use Rattle.argos_scope.specs.inner.TextErrors.{error_of_scope}
use Rattle.argos_scope.specs.declared.errors.ScopeError.{ScopeError}
use Rattle.argos_scope.specs.declared.errors.ScopeError.TheVariants as scopes
use Rattle.argos_scope.specs.declared.text.TextError.{TextError}
use Rattle.argos_scope.specs.declared.text.TextError.TheVariants as errors

-- what an error says
pub error_says : {T : Type 0} (P : TextError → Type 0) (r : Result T TextError) (e : TextError) → IsErrAnd r (λ x. x ≡ e) → P e → IfErr r P
error_says P (Ok x) e h p = absurd h
error_says P (Err x) e h p = subst P (sym h) p

pub error_exact : (r : Result Module TextError) (e : TextError) (p : PlainModule) → IsErrAnd r (λ x. x ≡ e) → e ≡ errors.OutOfMemory → MatchResult r (λ m. module_of m ≡ p) (λ x. x ≡ errors.OutOfMemory)
error_exact (Ok x) e p h o = absurd h
error_exact (Err x) e p h o = h ∙ o

pub scope_why : (bs : List ℕ) (t : ProgramForm) (e : ScopeError) → IsText bs t → TellsFault t.components e → TellsWhy bs (error_of_scope e)
scope_why bs t (scopes.Unknown name at) h f = (t, h, f)
scope_why bs t (scopes.Duplicate name at) h f = (t, h, f)
scope_why bs t (scopes.NotReadable name at) h f = (t, h, f)
scope_why bs t (scopes.NotEmittable name at) h f = (t, h, f)
scope_why bs t (scopes.Arity name at) h f = (t, h, f)
scope_why bs t (scopes.NotEarlier name at) h f = (t, h, f)
scope_why bs t (scopes.NoInitial name at) h f = (t, h, f)
scope_why bs t (scopes.Limit which count) h f = (t, h, f)
scope_why bs t scopes.OutOfMemory h f = tt

-- where there is no fault, there was no memory
pub no_fault_told : (cs : List ComponentForm) (e : ScopeError) → ((f : ScopeFault) → IsScopeFault cs f → ⊥) → TellsFault cs e → error_of_scope e ≡ errors.OutOfMemory
no_fault_told cs (scopes.Unknown name at) k h = absurd (k (broken_at Unknown name at) h)
no_fault_told cs (scopes.Duplicate name at) k h = absurd (k (broken_at Duplicate name at) h)
no_fault_told cs (scopes.NotReadable name at) k h = absurd (k (broken_at NotReadable name at) h)
no_fault_told cs (scopes.NotEmittable name at) k h = absurd (k (broken_at NotEmittable name at) h)
no_fault_told cs (scopes.Arity name at) k h = absurd (k (broken_at Arity name at) h)
no_fault_told cs (scopes.NotEarlier name at) k h = absurd (k (broken_at NotEarlier name at) h)
no_fault_told cs (scopes.NoInitial name at) k h = absurd (k (broken_at NoInitial name at) h)
no_fault_told cs (scopes.Limit which count) k h = absurd (k (limit (which_of which) count) h)
no_fault_told cs scopes.OutOfMemory k h = refl
