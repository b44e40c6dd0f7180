-- Small programs, the rows of their reactions, and what holds of all pairs of rows that meet.
use Rattle.std.proofs.Common.{◌≡◌, ℕ, zero, suc, ◌<◌, List, [], ◌∷◌, ◌++◌, Bool, true, false, ◌&&◌, ◌||◌, not, nat_eq, nat_lt, None, length, refl, sym, ap, subst, ◌∙◌, ◌⊎◌, inl, inr, arith}
use Rattle.std.specs.List.{list_all}
use Rattle.std.proofs.lemmas.Bool.Decides.{nat_tests}
use Rattle.argos_base.specs.Names.{Spelled}
use Rattle.argos_base.specs.Orders.{IsEarlier, digit}
use Rattle.argos_base.specs.SignalSets.{SignalSet, has, empty, set_of, union}
use Rattle.argos_base.proofs.Bools.{and_first, and_second, and_both, or_left, or_right, is_false, not_false, false_not}
use Rattle.argos_core.specs.FirstBad.{ReactsCoded}
use Rattle.argos_core.specs.Guards.{holds}
use Rattle.argos_core.specs.Process.{Transition, Rules, present, States, no_states, state, no_body, automaton, Configuration, at, no_inner, PlainModule}
use Rattle.argos_core.specs.Reactions.{outputs_among}
use Rattle.argos_core.specs.Step.{Moves, transition, timeout, count, hold, BodySteps}
use Rattle.argos_congruence.specs.Congruence.{is_shared, HaveSameNames, ReactTogether}
use Rattle.argos_congruence.specs.NamedSets.{has_name, AreSameByName}
use Rattle.bisim_formula.specs.Formulas.{Formula, related}
use Rattle.bisim_verdict.specs.Bisimulation.{Related, StartsRelated, IsBisimulation, SomeDiffers, LeavesRelation, pair_key}
use Rattle.bisim_verdict.specs.EquivTests.{differs}
use Rattle.bisim_verdict.proofs.Answering.{differs_false}

abbrev pub a_name : Spelled
a_name = 97 ∷ []

abbrev pub o_name : Spelled
o_name = 111 ∷ []

-- states that a leaves: what is emitted, and where it leads
abbrev pub goes : List ℕ → ℕ → Rules
goes outs target = record { name = []; transitions = record { guard = present 0; outs = outs; target = target } ∷ []; timeout = None }

abbrev pub then : Rules → States → States
then rules ss = state rules no_body ss

-- input a = 0, output o = 1
abbrev pub program : States → PlainModule
program ss = record { process = automaton ss 0; inputs = a_name ∷ []; outputs = o_name ∷ []; locals = [] }

abbrev pub plain : ℕ → Configuration
plain q = at q 0 no_inner

-- one of the reactions: code, whether a comes and o is emitted, next code
pub record Row : Type 0 where
  pub from : ℕ
  pub input : Bool
  pub output : Bool
  pub to : ℕ

abbrev pub row : ℕ → Bool → Bool → ℕ → Row
row m b o n = record { from = m; input = b; output = o; to = n }

abbrev pub IsRow : Row → List ℕ → Bool → SignalSet → List ℕ → Type 0
IsRow r m b o m' = (m ≡ r.from ∷ []) × (b ≡ r.input) × (o ≡ r.output ∷ []) × (m' ≡ r.to ∷ [])

abbrev pub IsOneOf : List Row → List ℕ → Bool → SignalSet → List ℕ → Type 0
IsOneOf [] m b o m' = ⊥
IsOneOf (r ∷ rows) m b o m' = IsRow r m b o m' ⊎ IsOneOf rows m b o m'

pub more_rows : (rows more : List Row) (m : List ℕ) (b : Bool) (o : SignalSet) (m' : List ℕ) → IsOneOf rows m b o m' → IsOneOf (rows ++ more) m b o m'
more_rows [] more m b o m' h = absurd h
more_rows (r ∷ rows) more m b o m' (inl h) = inl h
more_rows (r ∷ rows) more m b o m' (inr h) = inr (more_rows rows more m b o m' h)

-- the two rows of a state
abbrev pub rows_at : List ℕ → ℕ → ℕ → List Row
rows_at outs q target = row (suc q) true (has (union 2 (set_of 2 outs) (empty 2)) 1) (suc target) ∷ row (suc q) false false (suc q) ∷ []

pub state_rows : (enter : ℕ → Configuration) (code : Configuration → List ℕ) (outs : List ℕ) (q target : ℕ) (m m' : List ℕ) (b : Bool) (o out : SignalSet) (c' : Configuration)
    → m ≡ suc q ∷ [] → code (enter target) ≡ suc target ∷ [] → code (plain q) ≡ suc q ∷ []
    → Moves 2 (goes outs target) enter q 0 (BodySteps 2 no_body no_inner (b ∷ false ∷ [])) (b ∷ false ∷ []) out c' → o ≡ outputs_among (program no_states) out → code c' ≡ m' → IsOneOf (rows_at outs q target) m b o m'
state_rows enter code outs q target m m' b o out c' from there here (transition zero t ob b' g h body oe ce) os to =
    let e : record { guard = present 0; outs = outs; target = target } ≡ t = cc in
    let emitted : out ≡ union 2 (set_of 2 outs) (empty 2) = oe ∙ ap (λ (x : Transition). union 2 (set_of 2 x.outs) ob) (sym e) ∙ ap (union 2 (set_of 2 outs)) body.0 in
    inl (from, subst (λ (x : Transition). holds x.guard (b ∷ false ∷ []) ≡ true) (sym e) h, os ∙ ap (outputs_among (program no_states)) emitted, sym to ∙ ap code ce ∙ ap (λ (x : Transition). code (enter x.target)) (sym e) ∙ there)
state_rows enter code outs q target m m' b o out c' from there here (transition (suc k) t ob b' g h body oe ce) os to = cc
state_rows enter code outs q target m m' b o out c' from there here (timeout w ob b' none is s last body oe ce) os to = cc
state_rows enter code outs q target m m' b o out c' from there here (count w b' none is s more body ce) os to = cc
state_rows enter code outs q target m m' b o out c' from there here (hold b' none quiet body ce) os to =
    inr (inl (from, none.0, os ∙ ap (outputs_among (program no_states)) body.0, sym to ∙ ap code (ce ∙ ap (at q 0) body.1) ∙ here))

-- all reactions of the program are among the rows
abbrev pub HasRows : States → List Row → Type 0
HasRows ss rows = (m m' : List ℕ) (b : Bool) (o : SignalSet) → ReactsCoded (program ss) m (b ∷ []) o m' → IsOneOf rows m b o m'

pub same_names : (ss ts : States) → HaveSameNames (program ss) (program ts)
same_names ss ts zero name h = let e : a_name ≡ name = cc in ap (is_shared (program ss) (program ts)) (sym e)
same_names ss ts (suc zero) name h = let e : o_name ≡ name = cc in ap (is_shared (program ss) (program ts)) (sym e)
same_names ss ts (suc (suc zero)) name h = let e : a_name ≡ name = cc in ap (is_shared (program ss) (program ts)) (sym e)
same_names ss ts (suc (suc (suc zero))) name h = let e : o_name ≡ name = cc in ap (is_shared (program ss) (program ts)) (sym e)
same_names ss ts (suc (suc (suc (suc k)))) name h = cc

same_inputs : (i j : SignalSet) → length i ≡ 1 → length j ≡ 1 → AreSameByName (a_name ∷ []) (a_name ∷ []) i j → i ≡ j
same_inputs [] j e f h = absurd (omega arith)
same_inputs (b ∷ c ∷ i) j e f h = absurd (omega arith)
same_inputs (b ∷ []) [] e f h = absurd (omega arith)
same_inputs (b ∷ []) (c ∷ d ∷ j) e f h = absurd (omega arith)
same_inputs (b ∷ []) (c ∷ []) e f h = ap (λ (x : Bool). x ∷ []) (h a_name)

differs_same : (b c d : Bool) → d ≡ b → d ≡ c → differs b c ≡ false
differs_same true true d e f = refl
differs_same true false d e f = cc
differs_same false true d e f = cc
differs_same false false d e f = refl

record Picked (test : Row → Bool) (m : List ℕ) (b : Bool) (o : SignalSet) (m' : List ℕ) : Type 0 where
  it : Row
  is : IsRow it m b o m'
  passes : test it ≡ true

picked : (test : Row → Bool) (rows : List Row) (m : List ℕ) (b : Bool) (o : SignalSet) (m' : List ℕ) → list_all test rows ≡ true
    → IsOneOf rows m b o m' → Picked test m b o m'
picked test [] m b o m' h one = absurd one
picked test (r ∷ rows) m b o m' h (inl one) = record { it = r; is = one; passes = and_first (test r) _ h }
picked test (r ∷ rows) m b o m' h (inr one) = picked test rows m b o m' (and_second (test r) _ h) one

-- the case of two rows comes before this one
abbrev pub comes_before : ℕ → ℕ → Bool → Row → Row → Bool
comes_before x y c l r = nat_lt l.from x || (nat_eq l.from x && (nat_lt r.from y || (nat_eq r.from y && nat_lt (digit l.input) (digit c))))

before_tells : (m n x y : ℕ) (b c : Bool) → IsEarlier (m ∷ n ∷ digit b ∷ []) (x ∷ y ∷ digit c ∷ [])
    → (nat_lt m x || (nat_eq m x && (nat_lt n y || (nat_eq n y && nat_lt (digit b) (digit c))))) ≡ true
before_tells m n x y b c (inl h) = or_left (nat_lt m x) _ (grind (arith, nat_tests))
before_tells m n x y b c (inr (e, inl h)) = or_right (nat_lt m x) _ (and_both (nat_eq m x) _ (grind (arith, nat_tests)) (or_left (nat_lt n y) _ (grind (arith, nat_tests))))
before_tells m n x y b c (inr (e, inr (f, inl h))) = or_right (nat_lt m x) _ (and_both (nat_eq m x) _ (grind (arith, nat_tests)) (or_right (nat_lt n y) _ (and_both (nat_eq n y) _ (grind (arith, nat_tests)) (at_digit (digit b) (digit c) h))))
  where
    at_digit : (u v : ℕ) → u < v → nat_lt u v ≡ true
    at_digit u v h = grind (arith, nat_tests)
before_tells m n x y b c (inr (e, inr (f, inr h))) = absurd h.1

module _ (F : Formula) (ss ts : States) (ls rs : List Row) (left : HasRows ss ls) (right : HasRows ts rs) where
  -- the rows are on one input, and at related codes
  abbrev meet : Row → Row → Bool
  meet l r = not (differs l.input r.input) && related (program ss) (program ts) F (l.from ∷ []) (r.from ∷ [])

  -- and lead to unrelated ones
  abbrev pub part : Row → Row → Bool
  part l r = not (related (program ss) (program ts) F (l.to ∷ []) (r.to ∷ []))

  -- of the rows that meet no two are bad
  abbrev pub none : (Row → Row → Bool) → Bool
  none bad = list_all (λ l. list_all (λ r. not (meet l r && bad l r)) rs) ls

  record Met (bad : Row → Row → Bool) (m n : List ℕ) (i o p : SignalSet) (m' n' : List ℕ) : Type 0 where
    l : Row
    r : Row
    input : Bool
    input_is : i ≡ input ∷ []
    left_is : IsRow l m input o m'
    right_is : IsRow r n input p n'
    passes : bad l r ≡ false

  met : (bad : Row → Row → Bool) → none bad ≡ true → (m n : List ℕ) (i j o p : SignalSet) (m' n' : List ℕ)
      → ReactTogether (Related F (program ss) (program ts)) (program ss) (program ts) m n i j o p m' n' → Met bad m n i o p m' n'
  met bad all m n [] j o p m' n' t = absurd (omega (arith, t.left.reacts.input))
  met bad all m n (b ∷ c ∷ i) j o p m' n' t = absurd (omega (arith, t.left.reacts.input))
  met bad all m n (b ∷ []) j o p m' n' t =
      let e : b ∷ [] ≡ j = same_inputs (b ∷ []) j refl t.right.reacts.input t.same in
      let x = picked (λ l. list_all (λ r. not (meet l r && bad l r)) rs) ls m b o m' all (left m m' b o t.left) in
      let l = x.it in
      let y = picked (λ r. not (meet l r && bad l r)) rs n b p n' x.passes (right n n' b p (subst (λ s. ReactsCoded (program ts) n s p n') (sym e) t.right)) in
      let r = y.it in
      let codes : related (program ss) (program ts) F (l.from ∷ []) (r.from ∷ []) ≡ true = ap (λ u. related (program ss) (program ts) F u (r.from ∷ [])) (sym x.is.0) ∙ ap (related (program ss) (program ts) F m) (sym y.is.0) ∙ t.relates in
      let here : meet l r ≡ true = and_both (not (differs l.input r.input)) _ (false_not _ (differs_same l.input r.input b x.is.1 y.is.1)) codes in
      record { l = l; r = r; input = b; input_is = refl; left_is = x.is; right_is = y.is; passes = is_false (bad l r) (λ h. let f = not_false (meet l r && bad l r) y.passes in let g = and_both (meet l r) (bad l r) here h in cc (f, g)) }

  next_related : (bad : Row → Row → Bool) (m n : List ℕ) (i o p : SignalSet) (m' n' : List ℕ) (x : Met bad m n i o p m' n') → part x.l x.r ≡ false
      → related (program ss) (program ts) F m' n' ≡ true
  next_related bad m n i o p m' n' x h = ap (λ u. related (program ss) (program ts) F u n') x.left_is.3 ∙ ap (related (program ss) (program ts) F (x.l.to ∷ [])) x.right_is.3 ∙ not_not _ h
    where
      not_not : (b : Bool) → not b ≡ false → b ≡ true
      not_not true h = refl
      not_not false h = cc

  outputs_same : (bad : Row → Row → Bool) (m n : List ℕ) (i o p : SignalSet) (m' n' : List ℕ) (x : Met bad m n i o p m' n')
      → differs x.l.output x.r.output ≡ false → o ≡ p
  outputs_same bad m n i o p m' n' x h = x.left_is.2 ∙ ap (λ (b : Bool). b ∷ []) (differs_false x.l.output x.r.output h) ∙ sym x.right_is.2

  -- the case of the two is what it is
  earlier : (bad : Row → Row → Bool) (m n : List ℕ) (i o p : SignalSet) (m' n' : List ℕ) (u v : ℕ) (c : Bool) (x : Met bad m n i o p m' n')
      → IsEarlier (pair_key m n i) (pair_key (u ∷ []) (v ∷ []) (c ∷ [])) → comes_before u v c x.l x.r ≡ true
  earlier bad m n i o p m' n' u v c x h =
      let k = pair_key (u ∷ []) (v ∷ []) (c ∷ []) in
      let moved : IsEarlier (pair_key (x.l.from ∷ []) (x.r.from ∷ []) (x.l.input ∷ [])) k =
      subst (λ s. IsEarlier (pair_key (x.l.from ∷ []) (x.r.from ∷ []) s) k) (x.input_is ∙ ap (λ (b : Bool). b ∷ []) x.left_is.1)
      (subst (λ s. IsEarlier (pair_key (x.l.from ∷ []) s i) k) x.right_is.0 (subst (λ s. IsEarlier (pair_key s n i) k) x.left_is.0 h)) in
      before_tells x.l.from x.r.from u v x.l.input c moved

  pub all_agree : StartsRelated F (program ss) (program ts) → none (λ l r. differs l.output r.output) ≡ true → none part ≡ true
      → IsBisimulation F (program ss) (program ts)
  all_agree began same never = record {
    start = began;
    outputs = λ m n i j o p m' n' t name. let x = met _ same m n i j o p m' n' t in ap (λ s. has_name (o_name ∷ []) s name) (outputs_same _ m n i o p m' n' x x.passes);
    stays = λ m n i j o p m' n' t. let x = met _ never m n i j o p m' n' t in next_related _ m n i o p m' n' x x.passes;
  }

  pub no_outputs : none (λ l r. differs l.output r.output) ≡ true → (a b : List ℕ) (i : SignalSet) → ¬ (SomeDiffers F (program ss) (program ts) a b i)
  no_outputs same a b i (name, d) =
      let x = met _ same a b i d.j d.o d.p d.m' d.n' d.react in
      d.differ (ap (λ s. has_name (o_name ∷ []) s name) (outputs_same _ a b i d.o d.p d.m' d.n' x x.passes))

  pub no_outputs_before : (u v : ℕ) (c : Bool) → none (λ l r. comes_before u v c l r && differs l.output r.output) ≡ true
      → (a b : List ℕ) (i : SignalSet) → SomeDiffers F (program ss) (program ts) a b i
      → ¬ (IsEarlier (pair_key a b i) (pair_key (u ∷ []) (v ∷ []) (c ∷ [])))
  no_outputs_before u v c same a b i (name, d) h =
      let x = met _ same a b i d.j d.o d.p d.m' d.n' d.react in
      let first : comes_before u v c x.l x.r ≡ true = earlier _ a b i d.o d.p d.m' d.n' u v c x h in
      let agree : differs x.l.output x.r.output ≡ false = is_false (differs x.l.output x.r.output) (λ z. let w = and_both (comes_before u v c x.l x.r) (differs x.l.output x.r.output) first z in let f = x.passes in cc (w, f)) in
      d.differ (ap (λ s. has_name (o_name ∷ []) s name) (outputs_same _ a b i d.o d.p d.m' d.n' x agree))

  pub none_leaves_before : (u v : ℕ) (c : Bool) → none (λ l r. comes_before u v c l r && part l r) ≡ true → (a b : List ℕ) (i : SignalSet)
      → LeavesRelation F (program ss) (program ts) a b i → ¬ (IsEarlier (pair_key a b i) (pair_key (u ∷ []) (v ∷ []) (c ∷ [])))
  none_leaves_before u v c never a b i d h =
      let x = met _ never a b i d.j d.o d.p d.m' d.n' d.react in
      let first : comes_before u v c x.l x.r ≡ true = earlier _ a b i d.o d.p d.m' d.n' u v c x h in
      let stay : part x.l x.r ≡ false = is_false (part x.l x.r) (λ z. let w = and_both (comes_before u v c x.l x.r) (part x.l x.r) first z in let f = x.passes in cc (w, f)) in
      let t = next_related _ a b i d.o d.p d.m' d.n' x stay in
      let f = d.unrelated in
      cc (t, f)
