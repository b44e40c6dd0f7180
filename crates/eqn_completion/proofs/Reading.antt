-- Lines read alone what they name, and the value of a line stands at its place.
use Rattle.std.proofs.Common.{◌≡◌, ℕ, ◌+◌, List, [], ◌∷◌, ◌++◌, Bool, true, false, ◌&&◌, ◌||◌, not, cond, nat_eq, nat_le, refl, sym, ap, ◌∙◌, subst, arith, length, append_assoc, length-append}
use Rattle.std.specs.Prelude.{slice_index_or, flat_map, ◌/◌, ◌%◌, ◌^◌}
use Rattle.std.specs.List.{list_all, list_any}
use Rattle.std.proofs.lemmas.Bool.Decides.{nat_tests}
use Rattle.argos_base.proofs.Bools.{or_left, or_right}
use Rattle.eqn_core.specs.Equations.{Literal, Choice, code, word, next, Case, Line, all, any, within, digit, choose, bit_lines, word_lines, Equations, registers}
use Rattle.eqn_core.specs.inner.LineValues.{known}
use Rattle.eqn_core.specs.Solutions.{Values, bit_of, word_of, is_true, next_code, value_of, chosen_value, defined_bits, defined_words}
use Rattle.eqn_core.specs.Dependence.{Item, bit_item, word_item, some_literal, choice_reads, some_when, some_choice, line_reads, defined_item}

-- the item has one value in both
abbrev pub Agree : Values → Values → Item → Type 0
Agree s t (bit_item k) = bit_of s k ≡ bit_of t k
Agree s t (word_item k) = word_of s k ≡ word_of t k

pub nat_eq-itself : (k : ℕ) → nat_eq k k ≡ true
nat_eq-itself k = grind (arith, nat_tests)

pub nat_eq-tells : (j k : ℕ) → nat_eq j k ≡ true → j ≡ k
nat_eq-tells j k h = grind (arith, nat_tests)

is_true-agree : (s t : Values) (l : Literal) → bit_of s l.bit ≡ bit_of t l.bit → is_true s l ≡ is_true t l
is_true-agree s t l e = ap (λ (b : Bool). cond l.negated (not b) b) e

all-agree : (s t : Values) (ls : List Literal) → ((k : ℕ) → some_literal ls k ≡ true → bit_of s k ≡ bit_of t k) → list_all (is_true s) ls ≡ list_all (is_true t) ls
all-agree s t [] h = refl
all-agree s t (l ∷ ls) h =
    ap (λ (b : Bool). b && list_all (is_true s) ls) (is_true-agree s t l (h l.bit (or_left _ _ (nat_eq-itself l.bit))))
    ∙ ap (λ (b : Bool). is_true t l && b) (all-agree s t ls (λ k r. h k (or_right (nat_eq l.bit k) _ r)))

any-agree : (s t : Values) (ls : List Literal) → ((k : ℕ) → some_literal ls k ≡ true → bit_of s k ≡ bit_of t k) → list_any (is_true s) ls ≡ list_any (is_true t) ls
any-agree s t [] h = refl
any-agree s t (l ∷ ls) h =
    ap (λ (b : Bool). b || list_any (is_true s) ls) (is_true-agree s t l (h l.bit (or_left _ _ (nat_eq-itself l.bit))))
    ∙ ap (λ (b : Bool). is_true t l || b) (any-agree s t ls (λ k r. h k (or_right (nat_eq l.bit k) _ r)))

value_of-agree : (s t : Values) (c : Choice) → ((k : ℕ) → choice_reads c k ≡ true → word_of s k ≡ word_of t k) → value_of s c ≡ value_of t c
value_of-agree s t (code n) h = refl
value_of-agree s t (word w) h = h w (nat_eq-itself w)
value_of-agree s t (next w) h = ap next_code (h w (nat_eq-itself w))

chosen-agree : (s t : Values) (cases : List Case) (other : Choice) → ((k : ℕ) → some_when cases k ≡ true → bit_of s k ≡ bit_of t k) → ((k : ℕ) → (some_choice cases k || choice_reads other k) ≡ true → word_of s k ≡ word_of t k) → chosen_value s cases other ≡ chosen_value t cases other
chosen-agree s t [] other f h = value_of-agree s t other h
chosen-agree s t (c ∷ cases) other f h =
    let when : is_true s c.when ≡ is_true t c.when = is_true-agree s t c.when (f c.when.bit (or_left _ _ (nat_eq-itself c.when.bit))) in
    let value : value_of s c.choice ≡ value_of t c.choice = value_of-agree s t c.choice (λ k r. h k (or_left (choice_reads c.choice k || some_choice cases k) _ (or_left _ _ r))) in
    let rest : chosen_value s cases other ≡ chosen_value t cases other = chosen-agree s t cases other (λ k r. f k (or_right (nat_eq c.when.bit k) _ r)) (λ k r. h k (behind (choice_reads c.choice k) (some_choice cases k) (choice_reads other k) r)) in
    ap (λ (b : Bool). cond b (value_of s c.choice) (chosen_value s cases other)) when
    ∙ ap (λ (n : ℕ). cond (is_true t c.when) n (chosen_value s cases other)) value
    ∙ ap (λ (n : ℕ). cond (is_true t c.when) (value_of t c.choice) n) rest
  where
    behind : (a b d : Bool) → (b || d) ≡ true → ((a || b) || d) ≡ true
    behind true b d h = refl
    behind false b d h = h

-- where all that a line reads agrees, its value does
pub bits-agree : (s t : Values) (l : Line) → ((y : Item) → line_reads l y ≡ true → Agree s t y) → defined_bits s l ≡ defined_bits t l
bits-agree s t (all ls) h = ap (λ (b : Bool). b ∷ []) (all-agree s t ls (λ k r. h (bit_item k) r))
bits-agree s t (any ls) h = ap (λ (b : Bool). b ∷ []) (any-agree s t ls (λ k r. h (bit_item k) r))
bits-agree s t (within w lo hi) h = ap (λ (n : ℕ). (nat_le lo n && nat_le n hi) ∷ []) (h (word_item w) (nat_eq-itself w))
bits-agree s t (digit w place) h = ap (λ (n : ℕ). nat_eq (n / 2 ^ place % 2) 1 ∷ []) (h (word_item w) (nat_eq-itself w))
bits-agree s t (choose cases other) h = refl

pub words-agree : (s t : Values) (l : Line) → ((y : Item) → line_reads l y ≡ true → Agree s t y) → defined_words s l ≡ defined_words t l
words-agree s t (all ls) h = refl
words-agree s t (any ls) h = refl
words-agree s t (within w lo hi) h = refl
words-agree s t (digit w place) h = refl
words-agree s t (choose cases other) h = ap (λ (n : ℕ). n ∷ []) (chosen-agree s t cases other (λ k r. h (bit_item k) r) (λ k r. h (word_item k) r))

pub length-bits : (s : Values) (ls : List Line) → length (flat_map (defined_bits s) ls) ≡ bit_lines ls
length-bits s [] = refl
length-bits s (all ls ∷ more) = omega (arith, length-bits s more)
length-bits s (any ls ∷ more) = omega (arith, length-bits s more)
length-bits s (within w lo hi ∷ more) = omega (arith, length-bits s more)
length-bits s (digit w place ∷ more) = omega (arith, length-bits s more)
length-bits s (choose cases other ∷ more) = omega (arith, length-bits s more)

pub length-words : (s : Values) (ls : List Line) → length (flat_map (defined_words s) ls) ≡ word_lines ls
length-words s [] = refl
length-words s (all ls ∷ more) = omega (arith, length-words s more)
length-words s (any ls ∷ more) = omega (arith, length-words s more)
length-words s (within w lo hi ∷ more) = omega (arith, length-words s more)
length-words s (digit w place ∷ more) = omega (arith, length-words s more)
length-words s (choose cases other ∷ more) = omega (arith, length-words s more)

-- what the lines of a list give, behind what is given
abbrev pub computed : List Bool → List ℕ → List Line → Values → Values
computed i m ls s = known (i ++ flat_map (defined_bits s) ls) (m ++ flat_map (defined_words s) ls)

flat-append : {X A : Type 0} (f : X → List A) (xs ys : List X) → flat_map f (xs ++ ys) ≡ flat_map f xs ++ flat_map f ys
flat-append f [] ys = refl
flat-append f (x ∷ xs) ys = ap (λ l. f x ++ l) (flat-append f xs ys) ∙ sym (append_assoc (f x) (flat_map f xs) (flat_map f ys))

at_seam : {A : Type 0} (pre : List A) (x : A) (rest : List A) (n : ℕ) (d : A) → length pre ≡ n → slice_index_or (pre ++ (x ∷ rest)) n d ≡ x
at_seam pre x rest n d e = subst (λ k. slice_index_or (pre ++ (x ∷ rest)) k d ≡ x) e (here pre)
  where
    here : (p : List _) → slice_index_or (p ++ (x ∷ rest)) (length p) d ≡ x
    here [] = refl
    here (y ∷ p) = here p

-- the bit that a line defines has the first of its values, and so for words
bit_there : (i : List Bool) (s : Values) (before : List Line) (l : Line) (after : List Line) (b : Bool) → defined_bits s l ≡ b ∷ [] → slice_index_or (i ++ flat_map (defined_bits s) (before ++ l ∷ after)) (length i + bit_lines before) false ≡ b
bit_there i s before l after b e =
    let whole : i ++ flat_map (defined_bits s) (before ++ l ∷ after) ≡ (i ++ flat_map (defined_bits s) before) ++ (b ∷ flat_map (defined_bits s) after) =
    ap (λ (x : List Bool). i ++ x) (flat-append (defined_bits s) before (l ∷ after) ∙ ap (λ (x : List Bool). flat_map (defined_bits s) before ++ (x ++ flat_map (defined_bits s) after)) e) ∙ sym (append_assoc i (flat_map (defined_bits s) before) (b ∷ flat_map (defined_bits s) after)) in
    ap (λ (x : List Bool). slice_index_or x (length i + bit_lines before) false) whole ∙ at_seam (i ++ flat_map (defined_bits s) before) b (flat_map (defined_bits s) after) (length i + bit_lines before) false (length-append i (flat_map (defined_bits s) before) ∙ ap (λ (n : ℕ). length i + n) (length-bits s before))

word_there : (m : List ℕ) (s : Values) (before : List Line) (l : Line) (after : List Line) (b : ℕ) → defined_words s l ≡ b ∷ [] → slice_index_or (m ++ flat_map (defined_words s) (before ++ l ∷ after)) (length m + word_lines before) 0 ≡ b
word_there m s before l after b e =
    let whole : m ++ flat_map (defined_words s) (before ++ l ∷ after) ≡ (m ++ flat_map (defined_words s) before) ++ (b ∷ flat_map (defined_words s) after) =
    ap (λ (x : List ℕ). m ++ x) (flat-append (defined_words s) before (l ∷ after) ∙ ap (λ (x : List ℕ). flat_map (defined_words s) before ++ (x ++ flat_map (defined_words s) after)) e) ∙ sym (append_assoc m (flat_map (defined_words s) before) (b ∷ flat_map (defined_words s) after)) in
    ap (λ (x : List ℕ). slice_index_or x (length m + word_lines before) 0) whole ∙ at_seam (m ++ flat_map (defined_words s) before) b (flat_map (defined_words s) after) (length m + word_lines before) 0 (length-append m (flat_map (defined_words s) before) ∙ ap (λ (n : ℕ). length m + n) (length-words s before))

-- the item that a line defines has this value
abbrev pub IsValue : Values → Item → Values → Line → Type 0
IsValue t (bit_item k) s l = defined_bits s l ≡ bit_of t k ∷ []
IsValue t (word_item k) s l = defined_words s l ≡ word_of t k ∷ []

pub value_there : (E : Equations) (i : List Bool) (m : List ℕ) (s : Values) (before : List Line) (l : Line) (after : List Line) → length i ≡ E.inputs → length m ≡ registers E → E.lines ≡ before ++ l ∷ after → IsValue (computed i m E.lines s) (defined_item E before l) s l
value_there E i m s before l after a b e = subst (λ (ls : List Line). IsValue (computed i m ls s) (defined_item E before l) s l) (sym e) (of_line l)
  where
    bit_case : (l : Line) (x : Bool) → defined_bits s l ≡ x ∷ [] → defined_bits s l ≡ bit_of (computed i m (before ++ l ∷ after) s) (E.inputs + bit_lines before) ∷ []
    bit_case l x is = is ∙ ap (λ (b : Bool). b ∷ []) (sym (subst (λ (n : ℕ). bit_of (computed i m (before ++ l ∷ after) s) (n + bit_lines before) ≡ x) a (bit_there i s before l after x is)))

    of_line : (l : Line) → IsValue (computed i m (before ++ l ∷ after) s) (defined_item E before l) s l
    of_line (all ls) = bit_case (all ls) _ refl
    of_line (any ls) = bit_case (any ls) _ refl
    of_line (within w lo hi) = bit_case (within w lo hi) _ refl
    of_line (digit w place) = bit_case (digit w place) _ refl
    of_line (choose cases other) = ap (λ (n : ℕ). n ∷ []) (sym (subst (λ (n : ℕ). word_of (computed i m (before ++ choose cases other ∷ after) s) (n + word_lines before) ≡ chosen_value s cases other) b (word_there m s before (choose cases other) after (chosen_value s cases other) refl)))
