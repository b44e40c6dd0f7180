-- Scopes and numbers that agree, with more names: declared ones, locals, and the signals of a component that is run.
use Rattle.std.proofs.Common.{◌≡◌, ℕ, ◌+◌, ◌<◌, ◌≤◌, List, [], ◌∷◌, ◌++◌, Option, Some, None, Bool, true, false, cond, ◌||◌, nat_eq, inl, inr, length, refl, sym, ap, ◌∙◌, subst, arith}
use Rattle.std.specs.Prelude.{bytes_eq, nat_lt, nat_le, zip}
use Rattle.std.specs.List.{AllByRecursion, range_with_len}
use Rattle.std.specs.Cmp.Lexicographic.{nat_list_eq_equiv}
use Rattle.std.proofs.lemmas.Bool.Decides.{nat_tests}
use Rattle.std.proofs.lemmas.List.{append-nil, length-map, map-append}
use Rattle.std.proofs.lemmas.Slice.Eq.{bytes_eq-Decides}
use Rattle.argos_base.specs.SignalSets.{lists}
use Rattle.argos_base.specs.Spelling.{is_one_of}
use Rattle.argos_base.proofs.Bools.{and_both, or_left, or_right, or_cases, or_first_false, or_second_false}
use Rattle.argos_core.specs.Modules as modules
use Rattle.argos_core.specs.Modules.{is_readable, is_emittable, within_locals}
use Rattle.argos_grammar.specs.Forms.{Mark, ComponentForm}
use Rattle.argos_names.specs.Scope.{Sort, input, output, inner, Scope, sort_in, with_names}
use Rattle.argos_expansion.specs.Expansion.{Numbers, number_in, numbered}
use Rattle.argos_scope.proofs.LocalsInOrder.{lists-range}
use Rattle.argos_scope.proofs.Scoped.{Fits, Agrees}
use Rattle.argos_scope.proofs.SoundForms.{names_of, scope_in}

-- one name more
fits_step : (here : modules.Scope) (b : Bool) (sort : Sort) (o : Option Sort) (n m : ℕ) → Fits here (Some sort) n → Fits here o m → Fits here (cond b (Some sort) o) (cond b n m)
fits_step here true sort o n m h k = h
fits_step here false sort o n m h k = k

-- names that are declared, where their numbers fit
pub numbered_agrees : (here : modules.Scope) (sort : Sort) (ms : List Mark) (s : Scope) (env : Numbers) (next : ℕ) → Agrees here s env
    → ((k : ℕ) → next ≤ k → k < next + length ms → Fits here (Some sort) k) → Agrees here (with_names sort ms s) (numbered ms next env)
numbered_agrees here sort [] s env next a f = a
numbered_agrees here sort (m ∷ ms) s env next a f =
    numbered_agrees here sort ms ((m.name, sort) ∷ s) ((m.name, next) ∷ env) (next + 1)
    (λ name. fits_step here (bytes_eq m.name name) sort (sort_in s name) next (number_in env name) (f next (omega arith) (omega arith)) (a name))
    (λ k low high. f k (omega arith) (omega arith))

pub numbered_append : (xs ys : List Mark) (next : ℕ) (env : Numbers) → numbered (xs ++ ys) next env ≡ numbered ys (next + length xs) (numbered xs next env)
numbered_append [] ys next env = let e : next + 0 ≡ next = omega arith in ap (λ n. numbered ys n env) (sym e)
numbered_append (x ∷ xs) ys next env =
    let e : next + 1 + length xs ≡ next + length (x ∷ xs) = omega arith in
    numbered_append xs ys (next + 1) ((x.name, next) ∷ env) ∙ ap (λ n. numbered ys n (numbered xs (next + 1) ((x.name, next) ∷ env))) e

-- locals around a place are in scope there, and so is what was before
lists_front : (xs ys : List ℕ) (k : ℕ) → lists xs k ≡ true → lists (xs ++ ys) k ≡ true
lists_front [] ys k h = cc
lists_front (x ∷ xs) ys k h = elim (or_cases (nat_eq x k) (lists xs k) h) [
  | inl one ↦ or_left (nat_eq x k) (lists (xs ++ ys) k) one
  | inr more ↦ or_right (nat_eq x k) (lists (xs ++ ys) k) (lists_front xs ys k more)
]

lists_back : (xs ys : List ℕ) (k : ℕ) → lists ys k ≡ true → lists (xs ++ ys) k ≡ true
lists_back [] ys k h = h
lists_back (x ∷ xs) ys k h = or_right _ _ (lists_back xs ys k h)

or_weaker : (a b c : Bool) → (a || b) ≡ true → (b ≡ true → c ≡ true) → (a || c) ≡ true
or_weaker true b c h f = refl
or_weaker false b c h f = f h

module _ (here : modules.Scope) (list : List ℕ) where
  fits_within : (o : Option Sort) (n : ℕ) → Fits here o n → Fits (within_locals here list) o n
  fits_within None n h = tt
  fits_within (Some input) n h = or_weaker _ _ _ h (lists_back list here.locals n)
  fits_within (Some output) n h = or_weaker _ _ _ h (lists_back list here.locals n)
  fits_within (Some inner) n h = (or_weaker _ _ _ h.0 (lists_back list here.locals n), or_weaker _ _ _ h.1 (lists_back list here.locals n))

  agrees_within : (s : Scope) (env : Numbers) → Agrees here s env → Agrees (within_locals here list) s env
  agrees_within s env a = λ name. fits_within (sort_in s name) (number_in env name) (a name)

pub locals_agree : (here : modules.Scope) (ns : List Mark) (s : Scope) (env : Numbers) (next : ℕ) → Agrees here s env → Agrees (within_locals here (range_with_len next (length ns))) (with_names inner ns s) (numbered ns next env)
locals_agree here ns s env next a =
    numbered_agrees (within_locals here (range_with_len next (length ns))) inner ns s env next (agrees_within here (range_with_len next (length ns)) s env a)
    (λ k low high. let in_list = lists_front (range_with_len next (length ns)) here.locals k (lists-range next (length ns) k low high) in (or_right _ _ in_list, or_right _ _ in_list))

-- the signals of the main component
below : (a b : ℕ) → a < b → nat_lt a b ≡ true
below a b h = grind (arith, nat_tests)

at_most : (a b : ℕ) → a ≤ b → nat_le a b ≡ true
at_most a b h = grind (arith, nat_tests)

pub main_agrees : (ins outs : List Mark) → Agrees (record { inputs = length ins; outputs = length outs; locals = [] }) (with_names output outs (with_names input ins [])) (numbered (ins ++ outs) 0 [])
main_agrees ins outs = subst (Agrees here (with_names output outs (with_names input ins []))) (sym (numbered_append ins outs 0 []))
    (numbered_agrees here output outs (with_names input ins []) (numbered ins 0 []) (0 + length ins)
    (numbered_agrees here input ins [] [] 0 (λ name. tt) (λ k low high. or_left _ _ (below k (length ins) (omega arith))))
    (λ k low high. or_left _ _ (and_both _ _ (at_most (length ins) k (omega arith)) (below k (length ins + length outs) (omega arith)))))
  where
    here : modules.Scope
    here = record { inputs = length ins; outputs = length outs; locals = [] }

-- what a name has among names with these numbers
among_step : (P : ℕ → Type 0) (b c : Bool) (n m : ℕ) → P n → (b || c) ≡ true → (c ≡ true → P m) → P (cond b n m)
among_step P true c n m p h f = p
among_step P false c n m p h f = f h

number_among : (P : ℕ → Type 0) (names : List (List ℕ)) (ns : List ℕ) (rest : Numbers) (name : List ℕ) → length names ≡ length ns → AllByRecursion P ns → is_one_of names name ≡ true → P (number_in (zip names ns ++ rest) name)
number_among P [] ns rest name e all h = cc
number_among P (x ∷ names) [] rest name e all h = absurd (omega arith)
number_among P (x ∷ names) (n ∷ ns) rest name e all h =
    among_step P (bytes_eq x name) (is_one_of names name) n (number_in (zip names ns ++ rest) name) all.0
    (ap (λ b. b || is_one_of names name) (nat_list_eq_equiv.symm x name) ∙ h)
    (number_among P names ns rest name (omega arith) all.1)

past_step : (b : Bool) (n m k : ℕ) → b ≡ false → m ≡ k → cond b n m ≡ k
past_step true n m k h e = cc
past_step false n m k h e = e

number_past : (names : List (List ℕ)) (ns : List ℕ) (rest : Numbers) (name : List ℕ) → is_one_of names name ≡ false → number_in (zip names ns ++ rest) name ≡ number_in rest name
number_past [] ns rest name h = refl
number_past (x ∷ names) [] rest name h = refl
number_past (x ∷ names) (n ∷ ns) rest name h =
    past_step (bytes_eq x name) n _ _ (nat_list_eq_equiv.symm x name ∙ or_first_false _ _ h) (number_past names ns rest name (or_second_false (bytes_eq name x) _ h))

zip_append : (xs ys : List (List ℕ)) (ns ms : List ℕ) → length xs ≡ length ns → zip (xs ++ ys) (ns ++ ms) ≡ zip xs ns ++ zip ys ms
zip_append [] ys [] ms e = refl
zip_append [] ys (n ∷ ns) ms e = absurd (omega arith)
zip_append (x ∷ xs) ys [] ms e = absurd (omega arith)
zip_append (x ∷ xs) ys (n ∷ ns) ms e = ap (λ (es : Numbers). (x, n) ∷ es) (zip_append xs ys ns ms (omega arith))

-- the sort of a name among declared ones
sort_step : (a b : Bool) (sort : Sort) (o : Option Sort) → cond a (Some sort) (cond b (Some sort) o) ≡ cond (b || a) (Some sort) o
sort_step true true sort o = refl
sort_step true false sort o = refl
sort_step false true sort o = refl
sort_step false false sort o = refl

sort_among : (sort : Sort) (ms : List Mark) (s : Scope) (name : List ℕ) → sort_in (with_names sort ms s) name ≡ cond (is_one_of (names_of ms) name) (Some sort) (sort_in s name)
sort_among sort [] s name = refl
sort_among sort (m ∷ ms) s name =
    sort_among sort ms ((m.name, sort) ∷ s) name
    ∙ ap (λ b. cond (is_one_of (names_of ms) name) (Some sort) (cond b (Some sort) (sort_in s name))) (nat_list_eq_equiv.symm m.name name)
    ∙ sort_step (is_one_of (names_of ms) name) (bytes_eq name m.name) sort (sort_in s name)

-- what holds of each name holds of one of them
of_one : (P : List ℕ → Type 0) (names : List (List ℕ)) (name : List ℕ) → AllByRecursion P names → is_one_of names name ≡ true → P name
of_one P [] name all h = cc
of_one P (x ∷ names) name all h = elim (or_cases _ _ h) [
  | inl same ↦ subst P (sym ((bytes_eq-Decides name x).0 same)) all.0
  | inr more ↦ of_one P names name all.1 more
]

-- the signals of a component that is run, with numbers that can be read and emitted
module _ (here : modules.Scope) (ins outs : List Mark) (ns ms : List ℕ) (apart : AllByRecursion (λ n. is_one_of (names_of ins) n ≡ false) (names_of outs))
    (many_in : length ins ≡ length ns) (many_out : length outs ≡ length ms)
    (read : AllByRecursion (λ n. is_readable here n ≡ true) ns) (emitted : AllByRecursion (λ n. is_emittable here n ≡ true) ms) where
  abbrev pairs : Numbers
  pairs = zip (names_of ins) ns ++ zip (names_of outs) ms

  out_fits : (name : List ℕ) → is_one_of (names_of outs) name ≡ true → is_emittable here (number_in pairs name) ≡ true
  out_fits name h =
      let other : is_one_of (names_of ins) name ≡ false = of_one (λ n. is_one_of (names_of ins) n ≡ false) (names_of outs) name apart h in
      let sized : length (names_of outs) ≡ length ms = length-map outs (λ m. m.name) ∙ many_out in
      let there = number_among (λ n. is_emittable here n ≡ true) (names_of outs) ms [] name sized emitted h in
      subst (λ n. is_emittable here n ≡ true) (ap (λ es. number_in es name) (append-nil (zip (names_of outs) ms)) ∙ sym (number_past (names_of ins) ns (zip (names_of outs) ms) name other)) there

  in_fits : (name : List ℕ) → is_one_of (names_of ins) name ≡ true → is_readable here (number_in pairs name) ≡ true
  in_fits name h = number_among (λ n. is_readable here n ≡ true) (names_of ins) ns (zip (names_of outs) ms) name (length-map ins (λ m. m.name) ∙ many_in) read h

  pair_fits : (name : List ℕ) (a b : Bool) → is_one_of (names_of outs) name ≡ a → is_one_of (names_of ins) name ≡ b → Fits here (cond a (Some output) (cond b (Some input) None)) (number_in pairs name)
  pair_fits name true b h k = out_fits name h
  pair_fits name false true h k = in_fits name k
  pair_fits name false false h k = tt

  pairs_agree : Agrees here (with_names output outs (with_names input ins [])) pairs
  pairs_agree = λ name. subst (λ o. Fits here o (number_in pairs name))
      (sym (sort_among output outs (with_names input ins []) name ∙ ap (cond (is_one_of (names_of outs) name) (Some output)) (sort_among input ins [] name)))
      (pair_fits name (is_one_of (names_of outs) name) (is_one_of (names_of ins) name) refl refl)

pub paired_agrees : (here : modules.Scope) (c : ComponentForm) (ns ms : List ℕ) → AllByRecursion (λ n. is_one_of (names_of c.inputs) n ≡ false) (names_of c.outputs) → length c.inputs ≡ length ns → length c.outputs ≡ length ms
    → AllByRecursion (λ n. is_readable here n ≡ true) ns → AllByRecursion (λ n. is_emittable here n ≡ true) ms → Agrees here (scope_in c) (zip (names_of (c.inputs ++ c.outputs)) (ns ++ ms))
paired_agrees here c ns ms apart many_in many_out read emitted = subst (Agrees here (scope_in c))
    (sym (ap (λ names. zip names (ns ++ ms)) (map-append (λ (m : Mark). m.name) c.inputs c.outputs) ∙ zip_append (names_of c.inputs) (names_of c.outputs) ns ms (length-map c.inputs (λ m. m.name) ∙ many_in)))
    (pairs_agree here c.inputs c.outputs ns ms apart many_in many_out read emitted)
