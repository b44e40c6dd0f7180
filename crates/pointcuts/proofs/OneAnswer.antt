-- A text of an aspect has one aspect at most, or one fault, and not both.
use Rattle.std.proofs.Common.{◌≡◌, ℕ, ◌+◌, ◌≤◌, List, [], ◌∷◌, ◌++◌, zero, suc, Option, Some, None, length, map, slice_get, refl, sym, ap, ◌∙◌, subst, append_assoc, arith, false, true, inl, inr}
use Rattle.std.specs.Prelude.{flat_map, Contains}
use Rattle.std.specs.List.{AllByRecursion}
use Rattle.std.proofs.lemmas.List.{append-nil, length-map}
use Rattle.argos_aspects.specs.Aspects as aspects
use Rattle.argos_aspects.specs.Aspects.{Aspect, Advice, Seen}
use Rattle.argos_base.specs.Names.{Spelled, AreDistinct}
use Rattle.argos_base.specs.Spelling.{is_one_of}
use Rattle.argos_base.proofs.Bools.{is_false, and_first, and_second, not_false, true_or_false}
use Rattle.argos_core.specs.Process.{PlainModule}
use Rattle.argos_expansion.specs.Expansion.{Visit, expansion, last_of}
use Rattle.argos_expansion.specs.Limits.{Which, passed, WithinFrom, IsFirstPassed}
use Rattle.argos_grammar.specs.Forms.{Mark, ComponentForm, AspectForm}
use Rattle.argos_grammar.specs.Grammar.{version, word, components, observer, advice, trace, ◌⨾◌}
use Rattle.argos_grammar.specs.Text.{IsAspectText}
use Rattle.argos_names.specs.Scope.{Breach, breaches, IsLeastBreach, Sort, input, output, sort_in}
use Rattle.argos_scope.specs.Meaning.{Resolves, ScopeFault, broken, limit, IsScopeFault}
use Rattle.argos_scope.proofs.Ascending.{place, Between, Leads, leads_then, leads_behind, leads_version, text_ascends, one_at}
use Rattle.argos_scope.proofs.BreachesAscend.{leads_components}
use Rattle.argos_scope.proofs.OneMeaning.{resolves_once, no_fault}
use Rattle.line_format.specs.FileNames.{FileNames}
use Rattle.pointcuts.specs.Pointcuts.{base_scope, seen_as, seeing, in_advice, IsSeen, AreSeen, told, IsAspectOf, AspectFault, scope, outputs, outputs_fault, trace_fault, faults_over, IsAspectFault, name_rule, over_base}
use Rattle.pointcuts.specs.Pointcuts as points
use Rattle.pointcuts.proofs.BaseScope.{sort_input, sort_output}
use Rattle.pointcuts.proofs.Places as places
use Rattle.pointcuts.proofs.Refusing.{nothing_told, one_output_told, short_trace_told}

-- ---- one aspect

same_aspect : (A B : Aspect) → A.observer ≡ B.observer → A.seen ≡ B.seen → A.advice ≡ B.advice → A ≡ B
same_aspect A B a b c i = record { observer = a i; seen = b i; advice = c i }

same_advice : (a b : Advice) → a.outs ≡ b.outs → a.onset ≡ b.onset → a.trace ≡ b.trace → a ≡ b
same_advice a b e f g i = record { outs = e i; onset = f i; trace = g i }

-- a name stands once, as an input or as an output
module _ (n : FileNames) (distinct : AreDistinct (n.inputs ++ n.outputs)) where
  same_seen : (name : Spelled) (s t : Seen) → IsSeen n name s → IsSeen n name t → s ≡ t
  same_seen name (aspects.input j) (aspects.input k) h e = ap aspects.input (places.one_place n.inputs name j k (places.distinct_first n.inputs n.outputs distinct) h e)
  same_seen name (aspects.input j) (aspects.output k) h e = absurd (places.not_in_both n.inputs n.outputs name j k distinct h e)
  same_seen name (aspects.output j) (aspects.input k) h e = absurd (places.not_in_both n.inputs n.outputs name k j distinct e h)
  same_seen name (aspects.output j) (aspects.output k) h e = ap aspects.output (places.one_place n.outputs name j k (places.distinct_second n.inputs n.outputs distinct) h e)

  seen_once : (names : List Spelled) (xs ys : List Seen) → AreSeen n names xs → AreSeen n names ys → xs ≡ ys
  seen_once [] [] [] h e = refl
  seen_once [] [] (y ∷ ys) h e = absurd e
  seen_once [] (x ∷ xs) ys h e = absurd h
  seen_once (name ∷ names) [] ys h e = absurd h
  seen_once (name ∷ names) (x ∷ xs) [] h e = absurd e
  seen_once (name ∷ names) (x ∷ xs) (y ∷ ys) h e = ap (λ s. s ∷ xs) (same_seen name x y h.0 e.0) ∙ ap (λ ss. y ∷ ss) (seen_once names xs ys h.1 e.1)

  pub one_aspect : (t : AspectForm) (A B : Aspect) → IsAspectOf t n A → IsAspectOf t n B → A ≡ B
  one_aspect t A B h k =
      let modules : A.observer ≡ B.observer = resolves_once t.components A.observer B.observer h.observer k.observer in
      same_aspect A B modules
      (seen_once B.observer.inputs A.seen B.seen (subst (λ (p : PlainModule). AreSeen n p.inputs A.seen) modules h.seen) k.seen)
      (same_advice A.advice B.advice (h.outs ∙ sym k.outs) (h.onset ∙ sym k.onset) (h.trace ∙ sym k.trace))

-- ---- not both

is_seeing : (n : FileNames) (name : Spelled) (s : Seen) → IsSeen n name s → (o : Sort) × (sort_in (base_scope n) name ≡ Some o)
is_seeing n name (aspects.input k) h = (input, sort_input n name (places.one_at n.inputs name k h))
is_seeing n name (aspects.output k) h = elim (true_or_false (is_one_of n.inputs name)) [
  | inl y ↦ (input, sort_input n name y)
  | inr other ↦ (output, sort_output n name other (places.one_at n.outputs name k h))
]

sees_nothing_else : (n : FileNames) (ms : List Mark) (seen : List Seen) → AreSeen n (map (λ m. m.name) ms) seen → flat_map (seeing (base_scope n)) ms ≡ []
sees_nothing_else n [] seen h = refl
sees_nothing_else n (m ∷ ms) [] h = absurd h
sees_nothing_else n (m ∷ ms) (s ∷ seen) h =
    let known = is_seeing n m.name s h.0 in
    ap (λ o. seen_as o m ++ flat_map (seeing (base_scope n)) ms) known.1 ∙ sees_nothing_else n ms seen h.1

pub none_over : (t : AspectForm) (n : FileNames) (A : Aspect) (main : ComponentForm) → IsAspectOf t n A → last_of t.components ≡ Some main → faults_over n main t ≡ []
none_over t n A main h last =
    let r = h.observer in
    let both : Some r.main ≡ Some main = sym r.last ∙ last in
    let same : r.main ≡ main = cc both in
    let one : length main.outputs ≡ 1 = sym (length-map main.outputs (λ m. m.name)) ∙ ap (λ (c : ComponentForm). length (map (λ m. m.name) c.outputs)) (sym same) ∙ ap length (sym r.outputs) ∙ h.join_point in
    nothing_told n main t
    (one_output_told (length main.outputs) one)
    (sees_nothing_else n main.inputs A.seen (subst (λ names. AreSeen n names A.seen) (r.inputs ∙ ap (λ (c : ComponentForm). map (λ m. m.name) c.inputs) same) h.seen))
    h.named
    (short_trace_told (length t.trace) h.short)

pub not_both : (t : AspectForm) (n : FileNames) (A : Aspect) (f : AspectFault) → IsAspectOf t n A → IsAspectFault t n f → ⊥
not_both t n A f h (name_rule b least) = no_fault t.components A.observer (broken b) h.observer least
not_both t n A f h (over_base main g more sound last faults) = let none : [] ≡ f ∷ more = sym (none_over t n A main h last) ∙ faults in cc none
not_both t n A f h (points.passed main which count sound last none first) = no_fault t.components A.observer (limit which count) h.observer (sound, first)

-- ---- one fault

abbrev Passed : Type 0
Passed = Option (Which × ℕ)

-- the first limit that is passed is one
one_stop : (done some others : List Visit) (at other : Visit) (more rest : List Visit) (p q : Which × ℕ) → some ++ at ∷ more ≡ others ++ other ∷ rest → WithinFrom done some → WithinFrom done others
    → passed (done ++ some) at ≡ Some p → passed (done ++ others) other ≡ Some q → p ≡ q
one_stop done [] [] at other more rest p q e w v h k =
    let same : at ≡ other = cc in
    let both : Some p ≡ Some q = sym h ∙ ap (λ x. passed (done ++ []) x) same ∙ k in
    cc
one_stop done [] (y ∷ ys) at other more rest p q e w v h k =
    let same : at ≡ y = cc in
    let both : Some p ≡ None = sym h ∙ ap (λ d. passed d at) (append-nil done) ∙ ap (λ x. passed done x) same ∙ v.0 in
    absurd (cc)
one_stop done (x ∷ xs) [] at other more rest p q e w v h k =
    let same : other ≡ x = cc in
    let both : Some q ≡ None = sym k ∙ ap (λ d. passed d other) (append-nil done) ∙ ap (λ z. passed done z) same ∙ w.0 in
    absurd (cc)
one_stop done (x ∷ xs) (y ∷ ys) at other more rest p q e w v h k =
    let same : x ≡ y = cc in
    let tails : xs ++ at ∷ more ≡ ys ++ other ∷ rest = cc in
    let behind : WithinFrom (done ++ x ∷ []) ys = subst (λ z. WithinFrom (done ++ z ∷ []) ys) (sym same) v.1 in
    let first : passed (done ++ x ∷ [] ++ xs) at ≡ Some p = ap (λ d. passed d at) (append_assoc done (x ∷ []) xs) ∙ h in
    let second : passed (done ++ x ∷ [] ++ ys) other ≡ Some q = ap (λ d. passed d other) (append_assoc done (x ∷ []) ys ∙ ap (λ z. done ++ z ∷ ys) same) ∙ k in
    one_stop (done ++ x ∷ []) xs ys at other more rest p q tails w.1 behind first second

first_passed_once : (vs : List Visit) (w u : Which) (n m : ℕ) → IsFirstPassed vs w n → IsFirstPassed vs u m → (w ≡ u) × (n ≡ m)
first_passed_once vs w u n m f g =
    let same : (w, n) ≡ (u, m) = one_stop [] f.before g.before f.at g.at f.after g.after (w, n) (u, m) (sym f.split ∙ g.split) f.within g.within f.passes g.passes in
    (ap (λ x. x.0) same, ap (λ x. x.1) same)

none_among : (bs : List Breach) (b : Breach) → bs ≡ [] → Contains bs b → ⊥
none_among [] b e (k, h, s) = absurd (omega arith)
none_among (x ∷ bs) b e c = cc

all_of : (P : Breach → Type 0) (bs : List Breach) (b : Breach) → AllByRecursion P bs → Contains bs b → P b
all_of P [] b h (k, l, e) = absurd (omega arith)
all_of P (x ∷ bs) b h (zero, l, e) = let same : x ≡ b = e in subst P same h.0
all_of P (x ∷ bs) b h (suc k, l, e) = all_of P bs b h.1 (k, omega arith, e)

-- in a text the broken name rules stand at ascending places
leads_observer : (end v : ℕ) (cs : List ComponentForm) → Leads end (observer v cs) (breaches cs)
leads_observer end v cs =
    leads_behind end "larissa" (version v ⨾ word ";" ⨾ components cs) (breaches cs)
    (leads_then end (version v) (word ";" ⨾ components cs) [] (breaches cs) (leads_version end v)
    (leads_behind end ";" (components cs) (breaches cs) (leads_components end cs)))

ascend : (bs : List ℕ) (t : AspectForm) → IsAspectText bs t → (low : ℕ) × (high : ℕ) × Between low high (breaches t.components)
ascend bs t h =
    let ts = h.0 in
    let pieces = h.4 in
    let past = (leads_observer (length bs) t.version t.components).past ts pieces.0 pieces.1 (text_ascends bs ts h.2) in
    (place (length bs) ts, place (length bs) pieces.0, past.1)

one_least : (bs : List ℕ) (t : AspectForm) (b c : Breach) → IsAspectText bs t → IsLeastBreach t.components b → IsLeastBreach t.components c → b ≡ c
one_least bs t b c h f g =
    let low : b.mark.at ≤ c.mark.at = all_of (λ other. b.mark.at ≤ other.mark.at) (breaches t.components) c f.least g.broken in
    let high : c.mark.at ≤ b.mark.at = all_of (λ other. c.mark.at ≤ other.mark.at) (breaches t.components) b g.least f.broken in
    let a = ascend bs t h in
    one_at a.0 a.1 (breaches t.components) b c a.2 f.broken g.broken (omega arith)

same_main : (t : AspectForm) (n : FileNames) (c d : ComponentForm) → last_of t.components ≡ Some c → last_of t.components ≡ Some d → faults_over n c t ≡ faults_over n d t
same_main t n c d h k =
    let both : Some c ≡ Some d = sym h ∙ k in
    let same : c ≡ d = cc both in
    ap (λ x. faults_over n x t) same

pub one_fault : (bs : List ℕ) (t : AspectForm) (n : FileNames) (f g : AspectFault) → IsAspectText bs t → IsAspectFault t n f → IsAspectFault t n g → f ≡ g
one_fault bs t n f g h (name_rule b x) (name_rule c y) = ap (λ z. scope (broken z)) (one_least bs t b c h x y)
one_fault bs t n f g h (name_rule b x) (over_base d y more sound last faults) = absurd (none_among (breaches t.components) b sound x.broken)
one_fault bs t n f g h (name_rule b x) (points.passed d which count sound last none first) = absurd (none_among (breaches t.components) b sound x.broken)
one_fault bs t n f g h (over_base d y more sound last faults) (name_rule b x) = absurd (none_among (breaches t.components) b sound x.broken)
one_fault bs t n f g h (over_base c x more sound last faults) (over_base d y others sound_2 last_2 faults_2) =
    let both : f ∷ more ≡ g ∷ others = sym faults ∙ same_main t n c d last last_2 ∙ faults_2 in cc both
one_fault bs t n f g h (over_base c x more sound last faults) (points.passed d which count sound_2 last_2 none first) =
    let both : f ∷ more ≡ [] = sym faults ∙ same_main t n c d last last_2 ∙ none in cc both
one_fault bs t n f g h (points.passed d which count sound last none first) (name_rule b x) = absurd (none_among (breaches t.components) b sound x.broken)
one_fault bs t n f g h (points.passed d which count sound_2 last_2 none first) (over_base c x more sound last faults) =
    let both : g ∷ more ≡ [] = sym faults ∙ same_main t n c d last last_2 ∙ none in cc both
one_fault bs t n f g h (points.passed c which count sound last none first) (points.passed d others number sound_2 last_2 none_2 first_2) =
    let same = first_passed_once (expansion t.components).visits which others count number first first_2 in
    ap (λ w. scope (limit w count)) same.0 ∙ ap (λ k. scope (limit others k)) same.1
