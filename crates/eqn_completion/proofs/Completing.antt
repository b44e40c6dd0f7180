-- With a plan there is exactly one completion, and the solutions are the consistent completions.
use Rattle.std.proofs.Common.{◌≡◌, ℕ, zero, suc, ◌+◌, ◌<◌, ◌≤◌, List, [], ◌∷◌, ◌++◌, Bool, true, false, cond, nat_eq, refl, sym, ap, ◌∙◌, inl, inr, subst, arith, length, map, Some, None, slice_get, append_assoc, length-append}
use Rattle.std.specs.Prelude.{flat_map, slice_index_or}
use Rattle.std.proofs.lemmas.Bool.{cases_lt}
use Rattle.std.proofs.lemmas.List.{append-nil, get_or_append_left}
use Rattle.argos_base.specs.SignalSets.{SignalSet, has, lists}
use Rattle.argos_base.proofs.Bools.{true_or_false}
use Rattle.argos_base.proofs.SetLemmas.{length-set_where, has-set_where, set_where-agree, set_where-has}
use Rattle.eqn_core.specs.Equations.{Line, Equations, registers, bit_lines}
use Rattle.eqn_core.specs.inner.LineValues.{known}
use Rattle.eqn_core.specs.Solutions.{Values, bit_of, defined_bits, defined_words, Solves}
use Rattle.eqn_completion.specs.Completions.{read_bit, as_read, HasValue, IsCompletion, IsConsistent, HasOneCompletion}
use Rattle.eqn_core.specs.Dependence.{Item, bit_item, word_item, line_reads, defined_item, Defines}
use Rattle.eqn_core.proofs.PlanLemmas.{cyclic_order}
use Rattle.eqn_core.specs.Plans.{IsKnown, input, register, given, earlier_line, IsPlanOf}
use Rattle.eqn_completion.specs.Laws.{CompletesOnce, SolutionsComplete, CompletionsFollowLines, GivenAreRead}
use Rattle.eqn_completion.proofs.Reading.{Agree, bits-agree, words-agree, computed, IsValue, value_there, length-bits, nat_eq-tells, nat_eq-itself}

pub same_values : (s t : Values) → s.bits ≡ t.bits → s.words ≡ t.words → s ≡ t
same_values s t e f = ap (λ (b : List Bool). known b s.words) e ∙ ap (λ (w : List ℕ). known t.bits w) f

beyond : (v : SignalSet) (k : ℕ) → length v ≤ k → slice_index_or v k false ≡ false
beyond [] k h = refl
beyond (b ∷ v) zero h = absurd (omega arith)
beyond (b ∷ v) (suc k) h = beyond v k (omega arith)

-- reading
read-agree : (cyclic : List ℕ) (x : SignalSet) (s t : Values) (k : ℕ) → bit_of s k ≡ bit_of t k → read_bit cyclic x s k ≡ read_bit cyclic x t k
read-agree [] x s t k e = e
read-agree (c ∷ cyclic) [] s t k e = e
read-agree (c ∷ cyclic) (b ∷ x) s t k e = ap (λ (r : Bool). cond (nat_eq c k) b r) (read-agree cyclic x s t k e)

read-given : (cyclic : List ℕ) (x : SignalSet) (s t : Values) (k : ℕ) → length x ≡ length cyclic → lists cyclic k ≡ true → read_bit cyclic x s k ≡ read_bit cyclic x t k
read-given [] x s t k e h = cc
read-given (c ∷ cyclic) [] s t k e h = absurd (omega arith)
read-given (c ∷ cyclic) (b ∷ x) s t k e h = elim (true_or_false (nat_eq c k)) [
  | inl y ↦ rw y refl
  | inr y ↦ rw y (let r : lists cyclic k ≡ true = rw y at h in read-given cyclic x s t k (omega arith) r)
]

pub bit_as_read : (cyclic : List ℕ) (x : SignalSet) (s : Values) (k : ℕ) → k < length s.bits → bit_of (as_read cyclic x s) k ≡ read_bit cyclic x s k
bit_as_read cyclic x s k h = has-set_where (length s.bits) (read_bit cyclic x s) k h

as_read-agree : (cyclic : List ℕ) (x : SignalSet) (s t : Values) (k : ℕ) → length s.bits ≡ length t.bits → read_bit cyclic x s k ≡ read_bit cyclic x t k → bit_of (as_read cyclic x s) k ≡ bit_of (as_read cyclic x t) k
as_read-agree cyclic x s t k e h = elim (cases_lt k (length s.bits)) [
  | inl low ↦ bit_as_read cyclic x s k low ∙ h ∙ sym (bit_as_read cyclic x t k (omega arith))
  | inr high ↦ beyond (as_read cyclic x s).bits k (omega (arith, length-set_where (length s.bits) (read_bit cyclic x s))) ∙ sym (beyond (as_read cyclic x t).bits k (omega (arith, length-set_where (length t.bits) (read_bit cyclic x t))))
]

-- a listed number stands somewhere
pub record Split (xs : List ℕ) (k : ℕ) : Type 0 where
  pub front : List ℕ
  pub back : List ℕ
  pub is : xs ≡ front ++ k ∷ back

pub split_at : (xs : List ℕ) (k : ℕ) → lists xs k ≡ true → Split xs k
split_at [] k h = cc
split_at (x ∷ xs) k h = elim (true_or_false (nat_eq x k)) [
  | inl y ↦ record { front = []; back = xs; is = ap (λ (j : ℕ). j ∷ xs) (nat_eq-tells x k y) }
  | inr y ↦ let r : lists xs k ≡ true = rw y at h in let rest = split_at xs k r in record { front = x ∷ rest.front; back = rest.back; is = ap (λ (l : List ℕ). x ∷ l) rest.is }
]

flat-same : {A : Type 0} (f g : Line → List A) (ls : List Line) → ((before : List Line) (l : Line) (after : List Line) → ls ≡ before ++ l ∷ after → f l ≡ g l) → flat_map f ls ≡ flat_map g ls
flat-same f g [] h = refl
flat-same f g (l ∷ ls) h = ap (λ r. r ++ flat_map f ls) (h [] l ls refl) ∙ ap (λ r. g l ++ r) (flat-same f g ls (λ before k after e. h (l ∷ before) k after (ap (λ (r : List Line). l ∷ r) e)))

value-agrees : (s t u v : Values) (y : Item) (l : Line) → IsValue u y s l → IsValue v y t l → defined_bits s l ≡ defined_bits t l → defined_words s l ≡ defined_words t l → Agree u v y
value-agrees s t u v (bit_item k) l p q e f = cc
value-agrees s t u v (word_item k) l p q e f = cc

-- the values after so many rounds
abbrev pub rounded : Equations → List ℕ → List ℕ → SignalSet → SignalSet → ℕ → Values
rounded E cyclic m i x zero = computed i m E.lines (as_read cyclic x (known [] []))
rounded E cyclic m i x (suc n) = computed i m E.lines (as_read cyclic x (rounded E cyclic m i x n))

module _ (E : Equations) (order cyclic m : List ℕ) (i x : SignalSet) (plan : IsPlanOf E order cyclic) (a : length m ≡ registers E) (b : length i ≡ E.inputs) (c : length x ≡ length cyclic) where
  abbrev read : Values → Values
  read s = as_read cyclic x s

  abbrev round : Values → Values
  round s = computed i m E.lines (read s)

  abbrev rounds : ℕ → Values → Values
  rounds zero s = round s
  rounds (suc n) s = round (rounds n s)

  round-sized : (s : Values) → length (round s).bits ≡ length i + bit_lines E.lines
  round-sized s = omega (arith, length-append i (flat_map (defined_bits (read s)) E.lines), length-bits (read s) E.lines)

  read-agrees : (s t : Values) (y : Item) → Agree (round s) (round t) y → Agree (read (round s)) (read (round t)) y
  read-agrees s t (bit_item k) h = as_read-agree cyclic x (round s) (round t) k (round-sized s ∙ sym (round-sized t)) (read-agree cyclic x (round s) (round t) k h)
  read-agrees s t (word_item k) h = h

  abbrev SameLine : Values → Values → Line → Type 0
  SameLine u v l = (defined_bits (read u) l ≡ defined_bits (read v) l) × (defined_words (read u) l ≡ defined_words (read v) l)

  value-here : (s : Values) (place : ℕ) (l : Line) (y : Item) → Defines E place l y → IsValue (round s) y (read s) l
  value-here s place l y d = subst (λ (z : Item). IsValue (round s) z (read s) l) d.is (value_there E i m (read s) d.before l d.after b a d.stands)

  reads-agree : (earlier : List ℕ) (s t : Values) → ((place : ℕ) (l : Line) (y : Item) → Defines E place l y → lists earlier place ≡ true → SameLine s t l) → (y : Item) → IsKnown E earlier cyclic y → Agree (read (round s)) (read (round t)) y
  reads-agree earlier s t h y (input k low) = read-agrees s t (bit_item k) (get_or_append_left i _ false k (omega arith) ∙ sym (get_or_append_left i _ false k (omega arith)))
  reads-agree earlier s t h y (register k low) = get_or_append_left m _ 0 k (omega arith) ∙ sym (get_or_append_left m _ 0 k (omega arith))
  reads-agree earlier s t h y (given k is) = as_read-agree cyclic x (round s) (round t) k (round-sized s ∙ sym (round-sized t)) (read-given cyclic x (round s) (round t) k c is)
  reads-agree earlier s t h y (earlier_line z place l d is) =
      let same = h place l z d is in
      read-agrees s t z (value-agrees (read s) (read t) (round s) (round t) z l (value-here s place l z d) (value-here t place l z d) same.0 same.1)

  settled : (n : ℕ) (earlier later : List ℕ) → order ≡ earlier ++ later → length earlier ≤ n → (s t : Values) (place : ℕ) (l : Line) (y : Item) → Defines E place l y → lists earlier place ≡ true → SameLine (rounds n s) (rounds n t) l
  settled zero [] later e h s t place l y d is = cc
  settled zero (p ∷ earlier) later e h s t place l y d is = absurd (omega arith)
  settled (suc n) earlier later e h s t place l y d is =
      let w = split_at earlier place is in
      let whole : order ≡ w.front ++ place ∷ (w.back ++ later) = e ∙ ap (λ (r : List ℕ). r ++ later) w.is ∙ append_assoc w.front (place ∷ w.back) later in
      let short : length w.front ≤ n = omega (arith, ap length w.is, length-append w.front (place ∷ w.back)) in
      let all = reads-agree w.front (rounds n s) (rounds n t) (λ p k z dz isz. settled n w.front (place ∷ (w.back ++ later)) whole short s t p k z dz isz) in
      let agree = λ (z : Item) (r : line_reads l z ≡ true). all z (plan.known w.front place (w.back ++ later) l y z whole d r) in
      (bits-agree (read (rounds (suc n) s)) (read (rounds (suc n) t)) l agree, words-agree (read (rounds (suc n) s)) (read (rounds (suc n) t)) l agree)

  defines-all : (before : List Line) (l : Line) (after : List Line) → E.lines ≡ before ++ l ∷ after → Defines E (length before) l (defined_item E before l)
  defines-all before l after e = record { before = before; after = after; stands = e; place_is = refl; is = refl }

  all_settled : (s t : Values) → round (rounds (length order) s) ≡ round (rounds (length order) t)
  all_settled s t =
      let n = length order in
      let line = λ (before : List Line) (l : Line) (after : List Line) (e : E.lines ≡ before ++ l ∷ after).
      settled n order [] (sym (append-nil order)) (omega arith) s t (length before) l (defined_item E before l) (defines-all before l after e) (plan.each (length before) (omega (arith, ap length e, length-append before (l ∷ after)))) in
      same_values _ _
      (ap (λ (r : List Bool). i ++ r) (flat-same (defined_bits (read (rounds n s))) (defined_bits (read (rounds n t))) E.lines (λ before l after e. (line before l after e).0)))
      (ap (λ (r : List ℕ). m ++ r) (flat-same (defined_words (read (rounds n s))) (defined_words (read (rounds n t))) E.lines (λ before l after e. (line before l after e).1)))

  shifted : (n : ℕ) (s : Values) → rounds n (round s) ≡ round (rounds n s)
  shifted zero s = refl
  shifted (suc n) s = ap round (shifted n s)

  steady : (n : ℕ) (s : Values) → s ≡ round s → rounds n s ≡ s
  steady zero s e = sym e
  steady (suc n) s e = ap round (steady n s e) ∙ sym e

  is_round : (s : Values) → IsCompletion E cyclic m i x s → s ≡ round s
  is_round s h = same_values s (round s) h.bits h.words

  round_is : (s : Values) → s ≡ round s → IsCompletion E cyclic m i x s
  round_is s e = record { bits = ap (λ (v : Values). v.bits) e; words = ap (λ (v : Values). v.words) e }

  only_one : (s t : Values) → s ≡ round s → t ≡ round t → s ≡ t
  only_one s t e f =
      let n = length order in
      e ∙ ap round (sym (steady n s e)) ∙ all_settled s t ∙ ap round (steady n t f) ∙ sym f

  pub has_one : HasOneCompletion E cyclic m i x
  has_one =
      let n = length order in
      let s : Values = round (rounds n (known [] [])) in
      let fixed : s ≡ round s = all_settled (known [] []) (round (known [] [])) ∙ ap round (shifted n (known [] [])) in
      record { values = s; is = round_is s fixed; only = λ t h. only_one t s (is_round t h) fixed }

pub completion_is : (E : Equations) (order cyclic m : List ℕ) (i x : SignalSet) → IsPlanOf E order cyclic → length m ≡ registers E → length i ≡ E.inputs → length x ≡ length cyclic → (s : Values) → IsCompletion E cyclic m i x s → s ≡ rounded E cyclic m i x (suc (length order))
completion_is E order cyclic m i x plan a b c s h =
    let n = length order in
    let e = is_round E order cyclic m i x plan a b c s h in
    e ∙ ap (λ (v : Values). computed i m E.lines (as_read cyclic x v)) (sym (steady E order cyclic m i x plan a b c n s e)) ∙ all_settled E order cyclic m i x plan a b c s (known [] []) ∙ ap (λ (v : Values). computed i m E.lines (as_read cyclic x v)) (same n)
  where
    same : (n : ℕ) → rounds E order cyclic m i x plan a b c n (known [] []) ≡ rounded E cyclic m i x n
    same zero = refl
    same (suc n) = ap (λ (v : Values). computed i m E.lines (as_read cyclic x v)) (same n)

pub completes_once : CompletesOnce
completes_once E order cyclic m i x plan a b c = has_one E order cyclic m i x plan a b c

-- what is read of a solution's own cyclic bits is the solution
read-own : (cyclic : List ℕ) (s : Values) (k : ℕ) → read_bit cyclic (map (bit_of s) cyclic) s k ≡ bit_of s k
read-own [] s k = refl
read-own (c ∷ cyclic) s k = elim (true_or_false (nat_eq c k)) [
  | inl y ↦ rw y (ap (bit_of s) (nat_eq-tells c k y))
  | inr y ↦ rw y (read-own cyclic s k)
]

pub as_read-own : (cyclic : List ℕ) (s : Values) → as_read cyclic (map (bit_of s) cyclic) s ≡ s
as_read-own cyclic s = ap (λ (bits : List Bool). known bits s.words) (set_where-agree (length s.bits) (read_bit cyclic (map (bit_of s) cyclic) s) (has s.bits) (λ k h. read-own cyclic s k) ∙ set_where-has s.bits)

pub solutions_complete : SolutionsComplete
solutions_complete E cyclic m i s a b = (there, back)
  where
    there : Solves E m i s → (x : SignalSet) × (IsCompletion E cyclic m i x s × IsConsistent cyclic x s)
    there h = (map (bit_of s) cyclic, (record { bits = subst (λ (v : Values). s.bits ≡ i ++ flat_map (defined_bits v) E.lines) (sym (as_read-own cyclic s)) h.lines.bits; words = subst (λ (v : Values). s.words ≡ m ++ flat_map (defined_words v) E.lines) (sym (as_read-own cyclic s)) h.lines.words }, refl))

    back : (x : SignalSet) × (IsCompletion E cyclic m i x s × IsConsistent cyclic x s) → Solves E m i s
    back h =
        let own : as_read cyclic h.0 s ≡ s = ap (λ (x : SignalSet). as_read cyclic x s) (sym h.1.1) ∙ as_read-own cyclic s in
        record { input = b; memory = a; lines = record { bits = subst (λ (v : Values). s.bits ≡ i ++ flat_map (defined_bits v) E.lines) own h.1.0.bits; words = subst (λ (v : Values). s.words ≡ m ++ flat_map (defined_words v) E.lines) own h.1.0.words } }

pub completions_follow_lines : CompletionsFollowLines
completions_follow_lines E cyclic m i x s place line y a b h d =
    let r : Values = as_read cyclic x s in
    let at : IsValue (computed i m E.lines r) y r line = subst (λ (z : Item). IsValue (computed i m E.lines r) z r line) d.is (value_there E i m r d.before line d.after b a d.stands) in
    turn y (subst (λ (v : Values). IsValue v y r line) (sym (same_values s (computed i m E.lines r) h.bits h.words)) at)
  where
    turn : (y : Item) → IsValue s y (as_read cyclic x s) line → HasValue s y (as_read cyclic x s) line
    turn (bit_item k) v = v
    turn (word_item k) v = v

none_some : {X : Type 0} (x : X) → None ≡ Some x → ⊥
none_some x e = cc

-- where no number stands twice, the given value of the j-th bit is read
read-first : (cyclic : List ℕ) (x : SignalSet) (s : Values) (j k : ℕ) → length x ≡ length cyclic → slice_get cyclic j ≡ Some k → ((a b : ℕ) → a < b → slice_get cyclic a ≡ Some k → slice_get cyclic b ≡ Some k → ⊥) → read_bit cyclic x s k ≡ has x j
read-first [] x s j k e h once = absurd (none_some k h)
read-first (c ∷ cyclic) [] s j k e h once = absurd (omega arith)
read-first (c ∷ cyclic) (b ∷ x) s zero k e h once = let same : c ≡ k = cc in ap (λ (t : Bool). cond t b (read_bit cyclic x s k)) (ap (λ (z : ℕ). nat_eq z k) same ∙ nat_eq-itself k)
read-first (c ∷ cyclic) (b ∷ x) s (suc j) k e h once = elim (true_or_false (nat_eq c k)) [
  | inl y ↦ absurd (once 0 (suc j) (omega arith) (ap Some (nat_eq-tells c k y)) h)
  | inr n ↦ rw n (read-first cyclic x s j k (omega arith) h (λ p q low f g. once (suc p) (suc q) (omega arith) f g))
]

pub given_are_read : GivenAreRead
given_are_read E order cyclic x s j k orderable plan e h low =
    bit_as_read cyclic x s k low ∙ read-first cyclic x s j k e h (λ a b less f g.
    let w = cyclic_order E cyclic plan.cyclic_bits a b k k less f g in
    let same : w.first ≡ w.second = orderable.locals_once w.first w.second k w.first_is w.second_is in
    let lt = w.in_order in omega arith)
