-- What a line makes of the draft.
use Rattle.std.proofs.Common.{◌≡◌, ℕ, zero, suc, ◌+◌, ◌<◌, ◌≤◌, List, [], ◌∷◌, ◌++◌, Bool, true, false, ◌&&◌, ◌||◌, not, cond, Option, Some, None, IsTrue, length, map, refl, sym, ap, ◌∙◌, ◌⊎◌, inl, inr, arith}
use Rattle.std.specs.Prelude.{nat_eq, nat_lt, bytes_eq, is_some}
use Rattle.std.specs.Option.{option_map}
use Rattle.std.specs.List.{list_any, position_from}
use Rattle.std.proofs.Math.Path.{fun_ext}
use Rattle.std.proofs.lemmas.Bool.Decides.{nat_tests}
use Rattle.std.proofs.lemmas.List.{map-append}
use Rattle.std.proofs.lemmas.List.Folds.{list_any-append}
use Rattle.std.proofs.lemmas.Iterator.Adapters.{position_from-zero}
use Rattle.argos_base.specs.Names.{Spelled, place_of}
use Rattle.argos_base.specs.SignalSets.{lists}
use Rattle.argos_base.specs.Spelling.{is_name, is_one_of}
use Rattle.argos_base.proofs.Bools.{and_both, true_or_false, or_neither}
use Rattle.argos_base.proofs.NameLemmas.{position-absent}
use Rattle.line_format.proofs.Options.{bind, only_if}
use Rattle.c_step.specs.CStep.{CStat, CStep, Assigned, nothing_assigned, assigns, assigned_after}
use Rattle.c_step.specs.CFile.{CLine, output_comment, input_comment, CPart, inputs_due, outputs_due, statements_due, c_stage, with_statement, is_due_at, all_listed}
use Rattle.c_step.specs.Views.{statement_of}
use Rattle.c_step.specs.declared.statements.CStat.{CStat as RustStat}
use Rattle.c_step.specs.inner.Drafts.{is_new_in, all_marked}
use Rattle.c_step.specs.inner.LineReading.{Scope, scope_at}

-- names
not_any : {A : Type 0} (p : A → Bool) (i : ℕ) (xs : List A) → position_from p i xs ≡ None → list_any p xs ≡ false
not_any p i [] h = refl
not_any p i (x ∷ xs) h = by_test (p x) refl h (not_any p (i + 1) xs)
  where
    by_test : (t : Bool) → p x ≡ t → cond t (Some i) (position_from p (i + 1) xs) ≡ None → (position_from p (i + 1) xs ≡ None → list_any p xs ≡ false) → list_any p (x ∷ xs) ≡ false
    by_test true e k rest = cc k
    by_test false e k rest = or_neither (p x) (list_any p xs) e (rest k)

unplaced : (names : List Spelled) (bs : List ℕ) → place_of names bs ≡ None → is_one_of names bs ≡ false
unplaced names bs h = not_any (bytes_eq bs) 0 names (sym (position_from-zero (bytes_eq bs) names) ∙ h)

placed : (names : List Spelled) (bs : List ℕ) (k : ℕ) → place_of names bs ≡ Some k → is_one_of names bs ≡ true
placed names bs k h = elim (true_or_false (is_one_of names bs)) [
  | inl y ↦ y
  | inr n ↦ let no : Some k ≡ None = sym h ∙ position-absent (bytes_eq bs) names n in cc no
]

found : {T : Type 0} (f : T → ℕ) (r : Option T) (names : List Spelled) (bs : List ℕ) → option_map f r ≡ place_of names bs → is_some r ≡ true → is_one_of names bs ≡ true
found f None names bs e h = cc h
found f (Some x) names bs e h = placed names bs (f x) (sym e)

absent : {T : Type 0} (f : T → ℕ) (r : Option T) (names : List Spelled) (bs : List ℕ) → option_map f r ≡ place_of names bs → is_some r ≡ false → is_one_of names bs ≡ false
absent f None names bs e h = unplaced names bs (sym e)
absent f (Some x) names bs e h = cc h

refused_first : (a b : Bool) → a ≡ true → (not a && b) ≡ false
refused_first a b h = ap (λ x. not x && b) h

refused_second : (a b c : Bool) → b ≡ true → (not a && (not b && c)) ≡ false
refused_second true b c h = refl
refused_second false b c h = ap (λ x. not x && c) h

refused_third : (a b c : Bool) → c ≡ false → (not a && (not b && c)) ≡ false
refused_third true b c h = refl
refused_third false true c h = refl
refused_third false false c h = h

pub among_others : {T : Type 0} (f : T → ℕ) (r : Option T) (names others : List Spelled) (name bs : List ℕ) → bs ≡ name → option_map f r ≡ place_of others bs → is_some r ≡ true → is_new_in names others name ≡ false
among_others f r names others name bs e h k = refused_second (is_one_of names name) (is_one_of others name) _ (ap (is_one_of others) (sym e) ∙ found f r others bs h k)

pub no_room : (names others : List Spelled) (name : List ℕ) (n : ℕ) → n ≡ length names → 16384 ≤ n → is_new_in names others name ≡ false
no_room names others name n e h = refused_third (is_one_of names name) (is_one_of others name) (nat_lt (length names) 16384) (too_many (length names) (omega arith))
  where
    too_many : (n : ℕ) → 16384 ≤ n → nat_lt n 16384 ≡ false
    too_many n h = grind (arith, nat_tests)

pub stands_already : (names others : List Spelled) (name : List ℕ) (k : ℕ) → place_of names name ≡ Some k → is_new_in names others name ≡ false
stands_already names others name k h = refused_first (is_one_of names name) _ (placed names name k h)

pub is_new : {T : Type 0} (f : T → ℕ) (r : Option T) (names others : List Spelled) (name bs : List ℕ) (n : ℕ) → bs ≡ name → option_map f r ≡ place_of others bs → is_some r ≡ false → n ≡ length names → n < 16384 → place_of names name ≡ None → IsTrue (is_new_in names others name)
is_new f r names others name bs n e h k g l p =
    and_both (not (is_one_of names name)) _ (ap not (unplaced names name p))
    (and_both (not (is_one_of others name)) _ (ap not (ap (is_one_of others) (sym e) ∙ absent f r others bs h k)) (room (length names) (omega arith)))
  where
    room : (n : ℕ) → n < 16384 → IsTrue (nat_lt n 16384)
    room n h = grind (arith, nat_tests)

-- whether a name may come next
both_new : (a b i c : Bool) → i ≡ true → ((i && not (a || b)) && c) ≡ (not a && (not b && c))
both_new true b i c h = ap (λ x. (x && false) && c) h
both_new false true i c h = ap (λ x. (x && false) && c) h
both_new false false i c h = ap (λ x. (x && true) && c) h

both_new' : (a b i c : Bool) → i ≡ true → ((i && not (a || b)) && c) ≡ (not b && (not a && c))
both_new' true true i c h = ap (λ x. (x && false) && c) h
both_new' true false i c h = ap (λ x. (x && false) && c) h
both_new' false true i c h = ap (λ x. (x && false) && c) h
both_new' false false i c h = ap (λ x. (x && true) && c) h

pub input_due : (s : CStep) (a : Assigned) (name : Spelled) → is_name name ≡ true → is_due_at inputs_due s a (input_comment name) ≡ is_new_in s.names.inputs s.names.outputs name
input_due s a name h =
    ap (λ b. (is_name name && not b) && nat_lt (length s.names.inputs) 16384) (list_any-append (bytes_eq name) s.names.inputs s.names.outputs)
    ∙ both_new (is_one_of s.names.inputs name) (is_one_of s.names.outputs name) (is_name name) (nat_lt (length s.names.inputs) 16384) h

pub output_due : (s : CStep) (a : Assigned) (name : Spelled) → is_name name ≡ true → is_due_at outputs_due s a (output_comment name) ≡ is_new_in s.names.outputs s.names.inputs name
output_due s a name h =
    ap (λ b. (is_name name && not b) && nat_lt (length s.names.outputs) 16384) (list_any-append (bytes_eq name) s.names.inputs s.names.outputs)
    ∙ both_new' (is_one_of s.names.inputs name) (is_one_of s.names.outputs name) (is_name name) (nat_lt (length s.names.outputs) 16384) h

-- what is said and due, or said and not due
pub due_none : (p : CPart) (s : CStep) (a : Assigned) (said : Option CLine) (c : CLine) → said ≡ Some c → is_due_at p s a c ≡ false → bind said (λ c. only_if (is_due_at p s a c) (Some c)) ≡ None
due_none p s a said c h e = ap (λ o. bind o (λ c. only_if (is_due_at p s a c) (Some c))) h ∙ ap (λ b. only_if b (Some c)) e

-- marks
pub marked_more : (old new : ℕ → Bool) (n : ℕ) (ks : List ℕ) → ((k : ℕ) → new k ≡ (nat_eq n k || old k)) → old ≡ lists ks → new ≡ lists (n ∷ ks)
marked_more old new n ks h e = fun_ext (λ k. h k ∙ ap (λ f. nat_eq n k || f k) e)

pub none_marked : (marked : ℕ → Bool) → ((k : ℕ) → marked k ≡ false) → marked ≡ lists []
none_marked marked h = fun_ext h

all_marked-listed : (n : ℕ) (marked : ℕ → Bool) (ks : List ℕ) → marked ≡ lists ks → all_marked n marked ≡ all_listed n ks
all_marked-listed zero marked ks h = refl
all_marked-listed (suc n) marked ks h = ap (λ f. f n && all_marked n marked) h ∙ ap (λ b. lists ks n && b) (all_marked-listed n marked ks h)

pub listed_if : (n m : ℕ) (marked : ℕ → Bool) (ks : List ℕ) (b : Bool) → n ≡ m → marked ≡ lists ks → b ≡ all_marked n marked → all_listed m ks ≡ b
listed_if n m marked ks b e h k = sym (k ∙ all_marked-listed n marked ks h ∙ ap (λ j. all_listed j ks) e)

pub not_all : (n k : ℕ) (marked : ℕ → Bool) → k < n → marked k ≡ false → false ≡ all_marked n marked
not_all zero k marked h e = absurd (omega arith)
not_all (suc n) k marked h e = elim (last_or_before n k h) [
  | inl y ↦ sym (ap (λ b. b && all_marked n marked) (ap marked (sym y) ∙ e))
  | inr y ↦ no_second (marked n) (all_marked n marked) (not_all n k marked y e)
]
  where
    last_or_before : (n k : ℕ) → k < suc n → (k ≡ n) ⊎ (k < n)
    last_or_before n k h = grind arith

    no_second : (a b : Bool) → false ≡ b → false ≡ (a && b)
    no_second true b h = h
    no_second false b h = refl

pub all_more : (n m : ℕ) (marked : ℕ → Bool) → m ≡ n + 1 → all_marked n marked ≡ true → marked n ≡ true → all_marked m marked ≡ true
all_more n m marked e h k = let s : m ≡ suc n = omega arith in ap (λ j. all_marked j marked) s ∙ and_both (marked n) _ k h

-- one statement more
assigned_push : (a : Assigned) (xs : List CStat) (x : CStat) → assigned_after a (xs ++ x ∷ []) ≡ assigns (assigned_after a xs) x
assigned_push a [] x = refl
assigned_push a (y ∷ xs) x = assigned_push (assigns a y) xs x

pub views_pushed : (xs ys : List RustStat) (x : RustStat) → ys ≡ xs ++ x ∷ [] → map statement_of ys ≡ map statement_of xs ++ statement_of x ∷ []
views_pushed xs ys x e = ap (map statement_of) e ∙ map-append statement_of xs (x ∷ [])

pub assigned_pushed : (xs ys : List CStat) (x : CStat) → ys ≡ xs ++ x ∷ [] → assigned_after nothing_assigned ys ≡ assigns (assigned_after nothing_assigned xs) x
assigned_pushed xs ys x e = ap (assigned_after nothing_assigned) e ∙ assigned_push nothing_assigned xs x

pub stage_pushed : (s : CStep) (ys : List CStat) (x : CStat) → ys ≡ s.statements ++ x ∷ [] → c_stage statements_due (record s { statements = ys }) (assigned_after nothing_assigned ys) ≡ with_statement s (assigned_after nothing_assigned s.statements) x
stage_pushed s ys x e =
    ap (λ zs. c_stage statements_due (record s { statements = zs }) (assigned_after nothing_assigned ys)) e ∙ ap (λ a. c_stage statements_due (record s { statements = s.statements ++ x ∷ [] }) a) (assigned_pushed s.statements ys x e)

-- the scope of the draft is that of its stage
abbrev scope_with : CStep → ℕ → ℕ → ℕ → (ℕ → Bool) → (ℕ → Bool) → Scope
scope_with s i o r bits words = record { inputs = i; outputs = o; words = s.words; bits = s.bits; has_bit = bits; has_word = λ k. nat_lt k r || words k }

pub scope_same : (s : CStep) (a : Assigned) (i o r : ℕ) (bits words : ℕ → Bool) → i ≡ length s.names.inputs → o ≡ length s.names.outputs → r ≡ length s.initial → bits ≡ lists a.bits → words ≡ lists a.words
    → let sc : Scope = record { inputs = i; outputs = o; words = s.words; bits = s.bits; has_bit = bits; has_word = λ k. nat_lt k r || words k } in sc ≡ scope_at s a
scope_same s a i o r bits words e f g h k =
    ap (λ n. scope_with s n o r bits words) e ∙ ap (λ n. scope_with s (length s.names.inputs) n r bits words) f ∙ ap (λ n. scope_with s (length s.names.inputs) (length s.names.outputs) n bits words) g
    ∙ ap (λ b. scope_with s (length s.names.inputs) (length s.names.outputs) (length s.initial) b words) h ∙ ap (λ w. scope_with s (length s.names.inputs) (length s.names.outputs) (length s.initial) (lists a.bits) w) k

pub same_word : (k j : ℕ) → j ≡ k → nat_eq k j ≡ true
same_word k j h = grind (arith, nat_tests)
