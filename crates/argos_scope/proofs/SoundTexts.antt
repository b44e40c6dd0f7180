-- Well-formed components that break no name rule are sound.
use Rattle.std.proofs.Common.{◌≡◌, ℕ, ◌-◌, List, [], ◌∷◌, ◌++◌, Option, Some, None, Bool, true, false, cond, not, ◌&&◌, length, map, refl, ◌∙◌, arith}
use Rattle.std.specs.Prelude.{bytes_eq, ◌==◌}
use Rattle.std.specs.List.{AllByRecursion, flat_map}
use Rattle.std.specs.Cmp.Lexicographic.{nat_list_eq_equiv}
use Rattle.std.proofs.lemmas.Bool.Decides.{Decides-eqb}
use Rattle.std.proofs.lemmas.List.Folds.{list_any-append}
use Rattle.argos_base.specs.Spelling.{is_one_of}
use Rattle.argos_base.specs.Names.{AreDistinct}
use Rattle.argos_base.proofs.Bools.{and_first, and_second, and_both, or_first_false, or_second_false, or_neither, not_false, false_not}
use Rattle.argos_grammar.specs.Forms.{Mark, Formula, Formulas, yes, no, atom, opposite, all, any, no_formulas, formula, TransForm, TimedForm, Head, ProcessForm, automaton, local, freeze, run, BlockForm, no_processes, process, StateForms, no_states, state, BodyForm, plain, refined, ComponentForm}
use Rattle.argos_grammar.specs.Text.{IsMark, IsFormula, AreFormulas, IsTrans, IsTimeout, IsHead, IsProcess, IsBlock, AreStates, IsBody, IsComponent}
use Rattle.argos_names.specs.Scope.{Rule, breach_unless, Sort, input, output, inner, Scope, sort_in, read_as, emitted_as, declared_as, reading, emitting, with_names, declaring, atoms, atoms_in, state_names, going, in_trans, in_timed, in_head, Around, named, run_as, in_process, in_block, in_states, in_body, in_component}
use Rattle.argos_expansion.specs.Expansion.{Known, found}
use Rattle.argos_scope.proofs.EmptyLists.{left_empty, right_empty, three_empty, four_empty, each_empty, left_part_empty, right_part_empty, all_from, position_below}
use Rattle.argos_scope.proofs.SoundForms.{names_of, CanRead, CanEmit, IsRead, IsEmitted, IsThere, IsSoundTrans, IsSoundTimed, IsSoundHead, IsFound, IsSound, IsSoundBlock, AreSound, AreSoundStates, IsSoundBody, scope_in, IsSoundComponent}

-- signals
read_sound : (o : Option Sort) (m : Mark) → read_as o m ≡ [] → CanRead o
read_sound None m h = cc
read_sound (Some input) m h = tt
read_sound (Some output) m h = cc
read_sound (Some inner) m h = tt

emitted_sound : (o : Option Sort) (m : Mark) → emitted_as o m ≡ [] → CanEmit o
emitted_sound None m h = cc
emitted_sound (Some input) m h = cc
emitted_sound (Some output) m h = tt
emitted_sound (Some inner) m h = tt

reads_sound : (s : Scope) (ms : List Mark) → flat_map (reading s) ms ≡ [] → AllByRecursion (IsRead s) ms
reads_sound s ms h = each_empty (reading s) (IsRead s) (λ m. read_sound (sort_in s m.name) m) ms h

outs_sound : (s : Scope) (ms : List Mark) → flat_map (emitting s) ms ≡ [] → AllByRecursion (IsEmitted s) ms
outs_sound s ms h = each_empty (emitting s) (IsEmitted s) (λ m. emitted_sound (sort_in s m.name) m) ms h

-- rules that a test keeps
kept : (b : Bool) (r : Rule) (m : Mark) → breach_unless b r m ≡ [] → b ≡ true
kept true r m h = refl
kept false r m h = cc

there : (r : Rule) (names : List (List ℕ)) (m : Mark) → breach_unless (is_one_of names m.name) r m ≡ [] → IsThere names m
there r names m h = position_below (bytes_eq m.name) names (kept (is_one_of names m.name) r m h)

-- conditions
mutual
  formula_sound : {A B : Type 0} (f : A → List B) (P Q : A → Type 0) → ((x : A) → f x ≡ [] → Q x) → (c : Formula A) → IsFormula P c → flat_map f (atoms c) ≡ [] → IsFormula Q c
  formula_sound f P Q g yes w h = tt
  formula_sound f P Q g no w h = tt
  formula_sound f P Q g (atom a) w h = g a (left_empty (f a) [] h)
  formula_sound f P Q g (opposite c) w h = formula_sound f P Q g c w h
  formula_sound f P Q g (all cs) w h = formulas_sound f P Q g cs 2 w h
  formula_sound f P Q g (any cs) w h = formulas_sound f P Q g cs 2 w h

  formulas_sound : {A B : Type 0} (f : A → List B) (P Q : A → Type 0) → ((x : A) → f x ≡ [] → Q x) → (cs : Formulas A) (least : ℕ) → AreFormulas least P cs → flat_map f (atoms_in cs) ≡ [] → AreFormulas least Q cs
  formulas_sound f P Q g no_formulas least w h = w
  formulas_sound f P Q g (formula c cs) least w h = (
    formula_sound f P Q g c w.0 (left_part_empty f (atoms c) (atoms_in cs) h),
    formulas_sound f P Q g cs (least - 1) w.1 (right_part_empty f (atoms c) (atoms_in cs) h),
  )

-- transitions, timeouts and states without bodies
trans_sound : (s : Scope) (names : List (List ℕ)) (t : TransForm) → IsTrans t → in_trans s names t ≡ [] → IsSoundTrans s names t
trans_sound s names t w h =
    let parts = three_empty (flat_map (reading s) (atoms t.guard)) (flat_map (emitting s) t.outs) (going names t.target) h in (
      formula_sound (reading s) IsMark (IsRead s) (λ m. read_sound (sort_in s m.name) m) t.guard w.0 parts.0,
      outs_sound s t.outs parts.1,
      there Rule.Unknown names t.target parts.2,
    )

all_trans_sound : (s : Scope) (names : List (List ℕ)) (ts : List TransForm) → AllByRecursion IsTrans ts → flat_map (in_trans s names) ts ≡ [] → AllByRecursion (IsSoundTrans s names) ts
all_trans_sound s names [] w h = tt
all_trans_sound s names (t ∷ ts) w h = (trans_sound s names t w.0 (left_empty (in_trans s names t) _ h), all_trans_sound s names ts w.1 (right_empty (in_trans s names t) _ h))

timed_sound : (s : Scope) (names : List (List ℕ)) (o : Option TimedForm) → IsTimeout o → in_timed s names o ≡ [] → IsSoundTimed s names o
timed_sound s names None w h = tt
timed_sound s names (Some t) w h =
    let parts = three_empty (reading s t.signal) (flat_map (emitting s) t.outs) (going names t.target) h in
    (w.0, read_sound (sort_in s t.signal.name) t.signal parts.0, outs_sound s t.outs parts.1, there Rule.Unknown names t.target parts.2)

head_sound : (s : Scope) (names : List (List ℕ)) (x : Head) → IsHead x → in_head s names x ≡ [] → IsSoundHead s names x
head_sound s names x w h = (all_trans_sound s names x.trans w.1 (left_empty (flat_map (in_trans s names) x.trans) (in_timed s names x.timed) h), timed_sound s names x.timed w.2 (right_empty (flat_map (in_trans s names) x.trans) (in_timed s names x.timed) h))

-- a component that is run is known
abbrev pub components : List Known → List ComponentForm
components = map (λ k. k.component)

module _ (names : List (List ℕ)) (m : Mark) (xs ys : ℕ) where
  arity : (c : ComponentForm) → run_as (Some c) names m xs ys ≡ [] → (length c.inputs ≡ xs) × (length c.outputs ≡ ys)
  arity c h =
      let both : (length c.inputs == xs && length c.outputs == ys) ≡ true = kept _ Rule.Arity m h in
      ((Decides-eqb (length c.inputs) xs).0 (and_first _ _ both), (Decides-eqb (length c.outputs) ys).0 (and_second _ _ both))

  found_step : (b : Bool) (k : Known) (o : Option ComponentForm) (f : Option Known) → (run_as o names m xs ys ≡ [] → IsFound f xs ys)
      → run_as (cond b (Some k.component) o) names m xs ys ≡ [] → IsFound (cond b (Some k) f) xs ys
  found_step true k o f g h = arity k.component h
  found_step false k o f g h = g h

  is_found : (name : List ℕ) (ks : List Known) → run_as (named name (components ks)) names m xs ys ≡ [] → IsFound (found name ks) xs ys
  is_found name [] h = cc
  is_found name (k ∷ ks) h = found_step (bytes_eq k.component.name.name name) k (named name (components ks)) (found name ks) (is_found name ks) h

-- names that are new one after the other are distinct
none_of : (name : List ℕ) (seen names : List (List ℕ)) → AllByRecursion (λ n. is_one_of (name ∷ seen) n ≡ false) names → is_one_of names name ≡ false
none_of name seen [] h = refl
none_of name seen (n ∷ ns) h = or_neither _ _ (nat_list_eq_equiv.symm name n ∙ or_first_false _ _ h.0) (none_of name seen ns h.1)

distinct_append : (a b : List (List ℕ)) → AreDistinct a → AllByRecursion (λ n. is_one_of a n ≡ false) b → AreDistinct b → AreDistinct (a ++ b)
distinct_append [] b d h e = e
distinct_append (x ∷ a) b d h e =
    and_both _ _ (false_not _ (list_any-append (bytes_eq x) a b ∙ or_neither _ _ (not_false _ (and_first _ _ d)) (none_of x a b h)))
    (distinct_append a b (and_second _ _ d) (all_from _ _ b (λ n k. or_second_false (bytes_eq n x) _ k) h) e)

states_distinct : (a : Around) (s : Scope) (names seen : List (List ℕ)) (ss : StateForms) → in_states a s names seen ss ≡ [] → AreDistinct (state_names ss) × AllByRecursion (λ n. is_one_of seen n ≡ false) (state_names ss)
states_distinct a s names seen no_states h = (refl, tt)
states_distinct a s names seen (state x b ss) h =
    let parts = four_empty _ (in_body a s b) (in_head s names x) (in_states a s names (x.name.name ∷ seen) ss) h in
    let new : not (is_one_of seen x.name.name) ≡ true = kept _ Rule.Duplicate x.name parts.0 in
    let rest = states_distinct a s names (x.name.name ∷ seen) ss parts.3 in (
      and_both _ _ (false_not _ (none_of x.name.name seen (state_names ss) rest.1)) rest.0,
      (not_false _ new, all_from _ _ (state_names ss) (λ n k. or_second_false (bytes_eq n x.name.name) _ k) rest.1),
    )

undeclared : (o : Option Sort) (m : Mark) → declared_as o m ≡ [] → o ≡ None
undeclared None m h = refl
undeclared (Some x) m h = cc

not_first : (b : Bool) (sort : Sort) (o : Option Sort) → cond b (Some sort) o ≡ None → (b ≡ false) × (o ≡ None)
not_first true sort o h = cc
not_first false sort o h = (refl, h)

other_than : (name : List ℕ) (sort : Sort) (s : Scope) (names : List (List ℕ)) → AllByRecursion (λ n. sort_in ((name, sort) ∷ s) n ≡ None) names → is_one_of names name ≡ false
other_than name sort s [] h = refl
other_than name sort s (n ∷ ns) h = or_neither _ _ (not_first (bytes_eq name n) sort (sort_in s n) h.0).0 (other_than name sort s ns h.1)

declared_distinct : (sort : Sort) (ms : List Mark) (s : Scope) → declaring sort ms s ≡ [] → AreDistinct (names_of ms) × AllByRecursion (λ n. sort_in s n ≡ None) (names_of ms)
declared_distinct sort [] s h = (refl, tt)
declared_distinct sort (m ∷ ms) s h =
    let rest = declared_distinct sort ms ((m.name, sort) ∷ s) (right_empty _ _ h) in (
      and_both _ _ (false_not _ (other_than m.name sort s (names_of ms) rest.1)) rest.0,
      (undeclared (sort_in s m.name) m (left_empty _ _ h), all_from _ _ (names_of ms) (λ n k. (not_first (bytes_eq m.name n) sort (sort_in s n) k).1) rest.1),
    )

-- the names that a scope gets are not new in it
not_in_names : (sort : Sort) (n : List ℕ) (ms : List Mark) (s : Scope) → sort_in (with_names sort ms s) n ≡ None → (is_one_of (names_of ms) n ≡ false) × (sort_in s n ≡ None)
not_in_names sort n [] s h = (refl, h)
not_in_names sort n (m ∷ ms) s h =
    let rest = not_in_names sort n ms ((m.name, sort) ∷ s) h in
    let first = not_first (bytes_eq m.name n) sort (sort_in s n) rest.1 in
    (or_neither _ _ (nat_list_eq_equiv.symm n m.name ∙ first.0) rest.0, first.1)

-- processes
module _ (ks : List Known) (names : List (List ℕ)) where
  abbrev pub around : Around
  around = record { earlier = components ks; names = names }

  mutual
    pub process_sound : (s : Scope) (p : ProcessForm) → IsProcess p → in_process around s p ≡ [] → IsSound ks s p
    process_sound s (automaton i ss) w h = (
      (states_distinct around s (state_names ss) [] ss (right_empty _ _ h)).0,
      there Rule.NoInitial (state_names ss) i (left_empty _ _ h),
      states_sound s (state_names ss) [] ss 1 w.1 (right_empty _ _ h),
    )
    process_sound s (local ns b) w h = block_sound (with_names inner ns s) b w.2 (right_empty (declaring inner ns s) _ h)
    process_sound s (freeze m b) w h = (read_sound (sort_in s m.name) m (left_empty (reading s m) _ h), block_sound s b w.1 (right_empty (reading s m) _ h))
    process_sound s (run c xs ys) w h =
        let parts = three_empty _ (flat_map (reading s) xs) (flat_map (emitting s) ys) h in
        (is_found names c (length xs) (length ys) c.name ks parts.0, reads_sound s xs parts.1, outs_sound s ys parts.2)

    block_sound : (s : Scope) (b : BlockForm) → IsBlock 1 b → in_block around s b ≡ [] → IsSoundBlock ks s b
    block_sound s no_processes w h = absurd (omega arith)
    block_sound s (process p b) w h = (process_sound s p w.0 (left_empty _ (in_block around s b) h), rest_sound s b w.1 (right_empty (in_process around s p) _ h))

    rest_sound : (s : Scope) (b : BlockForm) → IsBlock 0 b → in_block around s b ≡ [] → AreSound ks s b
    rest_sound s no_processes w h = tt
    rest_sound s (process p b) w h = (process_sound s p w.0 (left_empty _ (in_block around s b) h), rest_sound s b w.1 (right_empty (in_process around s p) _ h))

    states_sound : (s : Scope) (every seen : List (List ℕ)) (ss : StateForms) (least : ℕ) → AreStates least ss → in_states around s every seen ss ≡ [] → AreSoundStates ks s every ss
    states_sound s every seen no_states least w h = tt
    states_sound s every seen (state x b ss) least w h =
        let parts = four_empty _ (in_body around s b) (in_head s every x) (in_states around s every (x.name.name ∷ seen) ss) h in
        (head_sound s every x w.0 parts.2, body_sound s b w.1 parts.1, states_sound s every (x.name.name ∷ seen) ss 0 w.2 parts.3)

    body_sound : (s : Scope) (b : BodyForm) → IsBody b → in_body around s b ≡ [] → IsSoundBody ks s b
    body_sound s plain w h = tt
    body_sound s (refined b) w h = block_sound s b w h

  -- components
  pub component_sound : (c : ComponentForm) → IsComponent c → in_component around c ≡ [] → IsSoundComponent ks c
  component_sound c w h =
      let parts = four_empty _ (declaring input c.inputs []) (declaring output c.outputs (with_names input c.inputs [])) (in_block around (scope_in c) c.block) h in
      let ins = declared_distinct input c.inputs [] parts.1 in
      let outs = declared_distinct output c.outputs (with_names input c.inputs []) parts.2 in
      let apart : AllByRecursion (λ n. is_one_of (names_of c.inputs) n ≡ false) (names_of c.outputs) = all_from _ _ (names_of c.outputs) (λ n k. (not_in_names input n c.inputs [] k).0) outs.1 in
      record {
        distinct = distinct_append (names_of c.inputs) (names_of c.outputs) ins.0 apart outs.0;
        apart = apart;
        block = block_sound (scope_in c) c.block w.3 parts.3;
      }
