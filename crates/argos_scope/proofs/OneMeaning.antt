-- A text has at most one module, at most one scope fault, and not both.
use Rattle.std.proofs.Common.{◌≡◌, ℕ, ◌+◌, ◌≤◌, List, [], ◌∷◌, ◌++◌, zero, suc, Option, Some, None, length, map, refl, sym, ap, ◌∙◌, subst, append_assoc, arith}
use Rattle.std.specs.Prelude.{Contains}
use Rattle.std.specs.List.{AllByRecursion}
use Rattle.std.proofs.lemmas.List.{append-nil}
use Rattle.argos_core.specs.Process.{PlainModule}
use Rattle.argos_grammar.specs.Forms.{ComponentForm, ProgramForm}
use Rattle.argos_grammar.specs.Text.{IsText}
use Rattle.argos_names.specs.Scope.{Breach, breaches, IsLeastBreach}
use Rattle.argos_expansion.specs.Expansion.{Visit, expansion}
use Rattle.argos_expansion.specs.Limits.{Which, passed, WithinFrom, IsWithin, IsFirstPassed}
use Rattle.argos_grammar.proofs.OneTreeTexts.{one_program_text}
use Rattle.argos_scope.specs.Meaning.{Resolves, Means, ScopeFault, broken, limit, IsScopeFault}
use Rattle.argos_scope.proofs.Ascending.{one_at}
use Rattle.argos_scope.proofs.BreachesAscend.{breaches_ascend}
use Rattle.argos_scope.proofs.ResolvedModules.{same_module}

abbrev Passed : Type 0
Passed = Option (Which × ℕ)

-- the module is one
pub resolves_once : (cs : List ComponentForm) (p q : PlainModule) → Resolves cs p → Resolves cs q → p ≡ q
resolves_once cs p q r s =
    let first : Some r.main ≡ Some s.main = sym r.last ∙ s.last in
    let main : r.main ≡ s.main = cc in
    same_module p q (r.process ∙ sym s.process) (r.inputs ∙ ap (λ (c : ComponentForm). map (λ m. m.name) c.inputs) main ∙ sym s.inputs) (r.outputs ∙ ap (λ (c : ComponentForm). map (λ m. m.name) c.outputs) main ∙ sym s.outputs) (r.locals ∙ sym s.locals)

-- the first limit that is passed is one
one_stop : (done some others : List Visit) (at other : Visit) (more rest : List Visit) (p q : Which × ℕ) → some ++ at ∷ more ≡ others ++ other ∷ rest → WithinFrom done some → WithinFrom done others
    → passed (done ++ some) at ≡ Some p → passed (done ++ others) other ≡ Some q → p ≡ q
one_stop done [] [] at other more rest p q e w v h k =
    let same : at ≡ other = cc in
    let both : Some p ≡ Some q = sym h ∙ ap (λ x. passed (done ++ []) x) same ∙ k in
    cc
one_stop done [] (y ∷ ys) at other more rest p q e w v h k =
    let same : at ≡ y = cc in
    let both : Some p ≡ None = sym h ∙ ap (λ d. passed d at) (append-nil done) ∙ ap (λ x. passed done x) same ∙ v.0 in
    absurd (cc)
one_stop done (x ∷ xs) [] at other more rest p q e w v h k =
    let same : other ≡ x = cc in
    let both : Some q ≡ None = sym k ∙ ap (λ d. passed d other) (append-nil done) ∙ ap (λ z. passed done z) same ∙ w.0 in
    absurd (cc)
one_stop done (x ∷ xs) (y ∷ ys) at other more rest p q e w v h k =
    let same : x ≡ y = cc in
    let tails : xs ++ at ∷ more ≡ ys ++ other ∷ rest = cc in
    let behind : WithinFrom (done ++ x ∷ []) ys = subst (λ z. WithinFrom (done ++ z ∷ []) ys) (sym same) v.1 in
    let first : passed (done ++ x ∷ [] ++ xs) at ≡ Some p = ap (λ d. passed d at) (append_assoc done (x ∷ []) xs) ∙ h in
    let second : passed (done ++ x ∷ [] ++ ys) other ≡ Some q = ap (λ d. passed d other) (append_assoc done (x ∷ []) ys ∙ ap (λ z. done ++ z ∷ ys) same) ∙ k in
    one_stop (done ++ x ∷ []) xs ys at other more rest p q tails w.1 behind first second

first_passed_once : (vs : List Visit) (w u : Which) (n m : ℕ) → IsFirstPassed vs w n → IsFirstPassed vs u m → (w ≡ u) × (n ≡ m)
first_passed_once vs w u n m f g =
    let same : (w, n) ≡ (u, m) = one_stop [] f.before g.before f.at g.at f.after g.after (w, n) (u, m) (sym f.split ∙ g.split) f.within g.within f.passes g.passes in
    (ap (λ x. x.0) same, ap (λ x. x.1) same)

-- where no limit is passed at any visit, none is the first
not_passed : (done some more : List Visit) (at : Visit) (p : Which × ℕ) → WithinFrom done (some ++ at ∷ more) → passed (done ++ some) at ≡ Some p → ⊥
not_passed done [] more at p w h =
    let both : None ≡ Some p = sym w.0 ∙ ap (λ d. passed d at) (sym (append-nil done)) ∙ h in
    cc
not_passed done (x ∷ xs) more at p w h = not_passed (done ++ x ∷ []) xs more at p w.1 (ap (λ d. passed d at) (append_assoc done (x ∷ []) xs) ∙ h)

none_among : (bs : List Breach) (b : Breach) → bs ≡ [] → Contains bs b → ⊥
none_among [] b e (k, h, s) = absurd (omega arith)
none_among (x ∷ bs) b e c = cc

-- components with a module have no fault
pub no_fault : (cs : List ComponentForm) (p : PlainModule) (f : ScopeFault) → Resolves cs p → IsScopeFault cs f → ⊥
no_fault cs p (broken b) r f = none_among (breaches cs) b r.sound f.broken
no_fault cs p (limit which count) r f =
    let first = f.1 in
    not_passed [] first.before first.after first.at (which, count) (subst IsWithin first.split r.within) first.passes

-- a rule that is first of all is broken at one place
all_of : (P : Breach → Type 0) (bs : List Breach) (b : Breach) → AllByRecursion P bs → Contains bs b → P b
all_of P [] b h (k, l, e) = absurd (omega arith)
all_of P (x ∷ bs) b h (zero, l, e) = let same : x ≡ b = e in subst P same h.0
all_of P (x ∷ bs) b h (suc k, l, e) = all_of P bs b h.1 (k, omega arith, e)

pub one_breach : (bs : List ℕ) (t : ProgramForm) (b c : Breach) → IsText bs t → Contains (breaches t.components) b → Contains (breaches t.components) c → b.mark.at ≡ c.mark.at → b ≡ c
one_breach bs t b c h x y e = let a = breaches_ascend bs t h in one_at a.0 a.1 (breaches t.components) b c a.2 x y e

pub one_fault : (bs : List ℕ) (t : ProgramForm) (f g : ScopeFault) → IsText bs t → IsScopeFault t.components f → IsScopeFault t.components g → f ≡ g
one_fault bs t (broken b) (broken c) h f g =
    let low : b.mark.at ≤ c.mark.at = all_of (λ other. b.mark.at ≤ other.mark.at) (breaches t.components) c f.least g.broken in
    let high : c.mark.at ≤ b.mark.at = all_of (λ other. c.mark.at ≤ other.mark.at) (breaches t.components) b g.least f.broken in
    ap broken (one_breach bs t b c h f.broken g.broken (omega arith))
one_fault bs t (broken b) (limit which count) h f g = absurd (none_among (breaches t.components) b g.0 f.broken)
one_fault bs t (limit which count) (broken c) h f g = absurd (none_among (breaches t.components) c f.0 g.broken)
one_fault bs t (limit which count) (limit other number) h f g =
    let same = first_passed_once (expansion t.components).visits which other count number f.1 g.1 in
    ap (λ w. limit w count) same.0 ∙ ap (limit other) same.1

-- the same of texts
pub means_once : (bs : List ℕ) (p q : PlainModule) → Means bs p → Means bs q → p ≡ q
means_once bs p q (t, h, r) (u, k, s) =
    let same = one_program_text bs t u h k in
    resolves_once t.components p q r (subst (λ (x : ProgramForm). Resolves x.components q) (sym same) s)

pub means_no_fault : (bs : List ℕ) (t : ProgramForm) (p : PlainModule) (f : ScopeFault) → Means bs p → IsText bs t → IsScopeFault t.components f → ⊥
means_no_fault bs t p f (u, k, s) h g =
    let same = one_program_text bs t u h k in
    no_fault t.components p f (subst (λ (x : ProgramForm). Resolves x.components p) (sym same) s) g
