-- A step reads registers and what it assigned before, so the other places don't matter.
use Rattle.std.proofs.Common.{◌≡◌, ℕ, zero, suc, ◌/◌, ◌%◌, ◌^◌, ◌<◌, List, [], ◌∷◌, Bool, false, ◌&&◌, ◌||◌, not, cond, IsTrue, length, take, get_or, set, ◌⊎◌, inl, inr, refl, sym, ap, ◌∙◌, arith}
use Rattle.std.specs.Prelude.{nat_lt, nat_le, nat_eq}
use Rattle.std.specs.List.{list_all, list_any}
use Rattle.std.proofs.lemmas.List.{length-set, length-take-le, get_or-take}
use Rattle.std.proofs.lemmas.Bool.Decides.{nat_tests}
use Rattle.argos_base.specs.SignalSets.{SignalSet, has, lists}
use Rattle.argos_base.proofs.Bools.{and_first, and_second, or_cases, or_left, or_right}
use Rattle.eqn_core.specs.Equations.{Literal, Choice, code, word, next, Case}
use Rattle.c_step.specs.CStep.{CValue, constant, each_of, some_of, between, digit_of, input_of, CStat, set_bit, set_word, set_out, CStep, Assigned, nothing_assigned, assigns, assigned_after, may_read_literal, may_read_word, may_choose, may_case, may_be, may_stand, may_follow}
use Rattle.c_step.specs.CRuns.{Arrays, literal_value, one_more, choice_value, chain_value, bit_value, done, all_done, Holds}
use Rattle.c_step.specs.Laws.{CStepsReact}
use Rattle.c_step.proofs.Below.{below, below_test}

-- two arrays of one length hold the same wherever something may be read
record Agree (s : CStep) (at : Assigned) (a b : Arrays) : Type 0 where
  bits : (k : ℕ) → IsTrue (lists at.bits k) → get_or a.bits k false ≡ get_or b.bits k false
  words : (k : ℕ) → IsTrue (may_read_word s at k) → get_or a.words k 0 ≡ get_or b.words k 0
  outs : (k : ℕ) → IsTrue (lists at.outs k) → get_or a.outs k false ≡ get_or b.outs k false
  bits_sized : length a.bits ≡ length b.bits
  words_sized : length a.words ≡ length b.words
  outs_sized : length a.outs ≡ length b.outs

-- the same value set at the same place
set_agrees : {A : Type 0} (d u : A) (xs ys : List A) (k j : ℕ) → length xs ≡ length ys → (k ≡ j) ⊎ (get_or xs j d ≡ get_or ys j d) → get_or (set xs k u) j d ≡ get_or (set ys k u) j d
set_agrees d u [] [] k j e h = refl
set_agrees d u [] (y ∷ ys) k j e h = absurd (omega arith)
set_agrees d u (x ∷ xs) [] k j e h = absurd (omega arith)
set_agrees d u (x ∷ xs) (y ∷ ys) zero zero e h = refl
set_agrees d u (x ∷ xs) (y ∷ ys) zero (suc j) e (inl h) = absurd (omega arith)
set_agrees d u (x ∷ xs) (y ∷ ys) zero (suc j) e (inr h) = h
set_agrees d u (x ∷ xs) (y ∷ ys) (suc k) zero e (inl h) = absurd (omega arith)
set_agrees d u (x ∷ xs) (y ∷ ys) (suc k) zero e (inr h) = h
set_agrees d u (x ∷ xs) (y ∷ ys) (suc k) (suc j) e (inl h) = set_agrees d u xs ys k j (omega arith) (inl (omega arith))
set_agrees d u (x ∷ xs) (y ∷ ys) (suc k) (suc j) e (inr h) = set_agrees d u xs ys k j (omega arith) (inr h)

same_number : (k j : ℕ) → IsTrue (nat_eq k j) → k ≡ j
same_number k j h = grind (arith, nat_tests)

literal_same : (s : CStep) (at : Assigned) (a b : Arrays) (l : Literal) → Agree s at a b → IsTrue (may_read_literal at l) → literal_value a l ≡ literal_value b l
literal_same s at a b l h e = ap (λ (x : Bool). cond l.negated (not x) x) (h.bits l.bit e)

choice_same : (s : CStep) (at : Assigned) (a b : Arrays) (c : Choice) → Agree s at a b → IsTrue (may_choose s at c) → choice_value a c ≡ choice_value b c
choice_same s at a b (code n) h e = refl
choice_same s at a b (word k) h e = h.words k e
choice_same s at a b (next k) h e = ap one_more (h.words k e)

chain_same : (s : CStep) (at : Assigned) (a b : Arrays) (cases : List Case) (other : Choice) → Agree s at a b → IsTrue (list_all (may_case s at) cases) → IsTrue (may_choose s at other) → chain_value a cases other ≡ chain_value b cases other
chain_same s at a b [] other h e f = choice_same s at a b other h f
chain_same s at a b (c ∷ cases) other h e f =
    let first : IsTrue (may_case s at c) = and_first _ _ e in
    let when : literal_value a c.when ≡ literal_value b c.when = literal_same s at a b c.when h (and_first _ _ first) in
    let picked : choice_value a c.choice ≡ choice_value b c.choice = choice_same s at a b c.choice h (and_second (may_read_literal at c.when) _ first) in
    let others : chain_value a cases other ≡ chain_value b cases other = chain_same s at a b cases other h (and_second (may_case s at c) _ e) f in
    ap (λ (x : Bool). cond x (choice_value a c.choice) (chain_value a cases other)) when
    ∙ ap (λ (n : ℕ). cond (literal_value b c.when) n (chain_value a cases other)) picked
    ∙ ap (λ (n : ℕ). cond (literal_value b c.when) (choice_value b c.choice) n) others

all_same : (s : CStep) (at : Assigned) (a b : Arrays) (ls : List Literal) → Agree s at a b → IsTrue (list_all (may_read_literal at) ls) → list_all (literal_value a) ls ≡ list_all (literal_value b) ls
all_same s at a b [] h e = refl
all_same s at a b (l ∷ ls) h e =
    ap (λ (x : Bool). x && list_all (literal_value a) ls) (literal_same s at a b l h (and_first _ _ e)) ∙ ap (λ (x : Bool). literal_value b l && x) (all_same s at a b ls h (and_second (may_read_literal at l) _ e))

any_same : (s : CStep) (at : Assigned) (a b : Arrays) (ls : List Literal) → Agree s at a b → IsTrue (list_all (may_read_literal at) ls) → list_any (literal_value a) ls ≡ list_any (literal_value b) ls
any_same s at a b [] h e = refl
any_same s at a b (l ∷ ls) h e =
    ap (λ (x : Bool). x || list_any (literal_value a) ls) (literal_same s at a b l h (and_first _ _ e)) ∙ ap (λ (x : Bool). literal_value b l || x) (any_same s at a b ls h (and_second (may_read_literal at l) _ e))

value_same : (s : CStep) (at : Assigned) (i : SignalSet) (a b : Arrays) (v : CValue) → Agree s at a b → IsTrue (may_be s at v) → bit_value i a v ≡ bit_value i b v
value_same s at i a b (constant x) h e = refl
value_same s at i a b (each_of ls) h e = all_same s at a b ls h (and_second (nat_le 1 (length ls)) _ e)
value_same s at i a b (some_of ls) h e = any_same s at a b ls h (and_second (nat_le 2 (length ls)) _ e)
value_same s at i a b (between k lo hi) h e = ap (λ (n : ℕ). nat_le lo n && nat_le n hi) (h.words k (and_first _ _ e))
value_same s at i a b (digit_of k place) h e = ap (λ (n : ℕ). nat_eq (n / 2 ^ place % 2) 1) (h.words k (and_first _ _ e))
value_same s at i a b (input_of j) h e = refl

-- a place that is listed now, or was before
place_same : {A : Type 0} (d u : A) (xs ys : List A) (ks : List ℕ) (k j : ℕ) → length xs ≡ length ys → (IsTrue (lists ks j) → get_or xs j d ≡ get_or ys j d) → IsTrue (lists (k ∷ ks) j) → get_or (set xs k u) j d ≡ get_or (set ys k u) j d
place_same d u xs ys ks k j e h t = elim (or_cases (nat_eq k j) (lists ks j) t) [
  | inl y ↦ set_agrees d u xs ys k j e (inl (same_number k j y))
  | inr y ↦ set_agrees d u xs ys k j e (inr (h y))
]

word_place_same : (s : CStep) (at : Assigned) (u : ℕ) (xs ys : List ℕ) (k j : ℕ) → length xs ≡ length ys → ((n : ℕ) → IsTrue (may_read_word s at n) → get_or xs n 0 ≡ get_or ys n 0) → IsTrue (nat_lt j (length s.initial) || (nat_eq k j || lists at.words j))
    → get_or (set xs k u) j 0 ≡ get_or (set ys k u) j 0
word_place_same s at u xs ys k j e h t = elim (or_cases (nat_lt j (length s.initial)) (nat_eq k j || lists at.words j) t) [
  | inl y ↦ set_agrees 0 u xs ys k j e (inr (h j (or_left _ _ y)))
  | inr y ↦ elim (or_cases (nat_eq k j) (lists at.words j) y) [
    | inl z ↦ set_agrees 0 u xs ys k j e (inl (same_number k j z))
    | inr z ↦ set_agrees 0 u xs ys k j e (inr (h j (or_right (nat_lt j (length s.initial)) _ z)))
  ]
]

done_agrees : (s : CStep) (at : Assigned) (i : SignalSet) (a b : Arrays) (x : CStat) → Agree s at a b → IsTrue (may_stand s at x) → Agree s (assigns at x) (done i x a) (done i x b)
done_agrees s at i a b (set_bit k v) h e =
    let same : bit_value i a v ≡ bit_value i b v = value_same s at i a b v h (and_second (nat_lt k s.bits) _ e) in
    record {
      bits = λ j t. ap (λ (u : Bool). get_or (set a.bits k u) j false) same ∙ place_same false (bit_value i b v) a.bits b.bits at.bits k j h.bits_sized (h.bits j) t;
      words = h.words;
      outs = h.outs;
      bits_sized = length-set a.bits k (bit_value i a v) ∙ h.bits_sized ∙ sym (length-set b.bits k (bit_value i b v));
      words_sized = h.words_sized;
      outs_sized = h.outs_sized;
    }
done_agrees s at i a b (set_word k cases other) h e =
    let rest = and_second (nat_lt k s.words) _ e in
    let same : chain_value a cases other ≡ chain_value b cases other = chain_same s at a b cases other h (and_first _ _ rest) (and_second (list_all (may_case s at) cases) _ rest) in
    record {
      bits = h.bits;
      words = λ j t. ap (λ (u : ℕ). get_or (set a.words k u) j 0) same ∙ word_place_same s at (chain_value b cases other) a.words b.words k j h.words_sized h.words t;
      outs = h.outs;
      bits_sized = h.bits_sized;
      words_sized = length-set a.words k (chain_value a cases other) ∙ h.words_sized ∙ sym (length-set b.words k (chain_value b cases other));
      outs_sized = h.outs_sized;
    }
done_agrees s at i a b (set_out k n) h e =
    let same : has a.bits n ≡ has b.bits n = h.bits n (and_second (nat_lt k (length s.names.outputs)) _ e) in
    record {
      bits = h.bits;
      words = h.words;
      outs = λ j t. ap (λ (u : Bool). get_or (set a.outs k u) j false) same ∙ place_same false (has b.bits n) a.outs b.outs at.outs k j h.outs_sized (h.outs j) t;
      bits_sized = h.bits_sized;
      words_sized = h.words_sized;
      outs_sized = length-set a.outs k (has a.bits n) ∙ h.outs_sized ∙ sym (length-set b.outs k (has b.bits n));
    }

all_agree : (s : CStep) (at : Assigned) (i : SignalSet) (xs : List CStat) (a b : Arrays) → Agree s at a b → IsTrue (may_follow s at xs) → Agree s (assigned_after at xs) (all_done i xs a) (all_done i xs b)
all_agree s at i [] a b h e = h
all_agree s at i (x ∷ xs) a b h e = all_agree s (assigns at x) i xs (done i x a) (done i x b) (done_agrees s at i a b x h (and_first _ _ e)) (and_second (may_stand s at x) _ e)

-- lists that are the same at each place
same_front : {A : Type 0} (d : A) (n : ℕ) (xs ys : List A) → length xs ≡ length ys → ((k : ℕ) → k < n → get_or xs k d ≡ get_or ys k d) → take n xs ≡ take n ys
same_front d zero xs ys e h = refl
same_front d (suc n) [] [] e h = refl
same_front d (suc n) [] (y ∷ ys) e h = absurd (omega arith)
same_front d (suc n) (x ∷ xs) [] e h = absurd (omega arith)
same_front d (suc n) (x ∷ xs) (y ∷ ys) e h =
    let first : x ≡ y = h 0 (omega arith) in
    ap (λ z. z ∷ take n xs) first ∙ ap (λ z. y ∷ z) (same_front d n xs ys (omega arith) (λ k l. h (suc k) (omega arith)))

same_all : {A : Type 0} (d : A) (xs ys : List A) → length xs ≡ length ys → ((k : ℕ) → k < length xs → get_or xs k d ≡ get_or ys k d) → xs ≡ ys
same_all d [] [] e h = refl
same_all d [] (y ∷ ys) e h = absurd (omega arith)
same_all d (x ∷ xs) [] e h = absurd (omega arith)
same_all d (x ∷ xs) (y ∷ ys) e h =
    let first : x ≡ y = h 0 (omega arith) in
    ap (λ z. z ∷ xs) first ∙ ap (λ z. y ∷ z) (same_all d xs ys (omega arith) (λ k l. h (suc k) (omega arith)))

front_read : (n : ℕ) (xs ys : List ℕ) (k : ℕ) → take n xs ≡ take n ys → k < n → get_or xs k 0 ≡ get_or ys k 0
front_read n xs ys k e h = sym (get_or-take n xs k 0 h) ∙ ap (λ (z : List ℕ). get_or z k 0) e ∙ get_or-take n ys k 0 h

register_or_none : (n k : ℕ) → IsTrue (nat_lt k n || false) → k < n
register_or_none n k h = below _ _ (elim (or_cases (nat_lt k n) false h) [ inl y ↦ y | inr y ↦ cc y ])

start_agrees : (s : CStep) (m : List ℕ) (a b : Arrays) → Holds s m a → Holds s m b → Agree s nothing_assigned a b
start_agrees s m a b h k = record {
  bits = λ j t. cc t;
  words = λ j t. front_read (length s.initial) a.words b.words j (h.registers ∙ sym k.registers) (register_or_none (length s.initial) j t);
  outs = λ j t. cc t;
  bits_sized = h.bits ∙ sym k.bits;
  words_sized = h.words ∙ sym k.words;
  outs_sized = h.outs ∙ sym k.outs;
}

-- a step keeps the lengths
record Sized (s : CStep) (a : Arrays) : Type 0 where
  words : length a.words ≡ s.words
  bits : length a.bits ≡ s.bits
  outs : length a.outs ≡ length s.names.outputs

sized_done : (s : CStep) (i : SignalSet) (x : CStat) (a : Arrays) → Sized s a → Sized s (done i x a)
sized_done s i (set_bit k v) a h = record { words = h.words; bits = length-set a.bits k (bit_value i a v) ∙ h.bits; outs = h.outs }
sized_done s i (set_word k cases other) a h = record { words = length-set a.words k (chain_value a cases other) ∙ h.words; bits = h.bits; outs = h.outs }
sized_done s i (set_out k n) a h = record { words = h.words; bits = h.bits; outs = length-set a.outs k (has a.bits n) ∙ h.outs }

sized_all_done : (s : CStep) (i : SignalSet) (xs : List CStat) (a : Arrays) → Sized s a → Sized s (all_done i xs a)
sized_all_done s i [] a h = h
sized_all_done s i (x ∷ xs) a h = sized_all_done s i xs (done i x a) (sized_done s i x a h)

pub steps_react : CStepsReact
steps_react s m i a step input h =
    let end : Arrays = all_done i s.statements a in
    let R : ℕ = length s.initial in
    let agree : (b : Arrays) → Holds s m b → Agree s (assigned_after nothing_assigned s.statements) (all_done i s.statements b) end = λ b k. all_agree s nothing_assigned i s.statements b a (start_agrees s m b a k h) step.reads in
    let sized : Sized s end = sized_all_done s i s.statements a (record { words = h.words; bits = h.bits; outs = h.outs }) in
    let sized_b : (b : Arrays) → Holds s m b → Sized s (all_done i s.statements b) = λ b k. sized_all_done s i s.statements b (record { words = k.words; bits = k.bits; outs = k.outs }) in
    record {
      reacts = record {
        input = input;
        memory = sym (ap length h.registers) ∙ length-take-le R a.words (omega (arith, h.words, step.room));
        room = step.room;
        outs = λ b k. same_all false (all_done i s.statements b).outs end.outs (agree b k).outs_sized (λ j l. (agree b k).outs j (step.outs j (below_test _ _ (omega (arith, (sized_b b k).outs)))));
        next = λ b k. same_front 0 R (all_done i s.statements b).words end.words (agree b k).words_sized (λ j l. (agree b k).words j (or_left _ _ (below_test _ _ l)));
      };
      holds = record { words = sized.words; bits = sized.bits; outs = sized.outs; registers = refl };
    }
