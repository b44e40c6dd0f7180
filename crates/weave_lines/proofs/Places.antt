-- Lines at their places: the bit or word that each defines has its value.
use Rattle.std.specs.Prelude.{slice_index_or, ◌/◌, ◌%◌, ◌^◌, flat_map}
use Rattle.std.specs.List.{list_all, list_any}
use Rattle.std.proofs.Common.{◌≡◌, ℕ, suc, ◌+◌, List, [], ◌∷◌, ◌++◌, Bool, false, ◌&&◌, nat_le, nat_eq, refl, sym, ap, ◌∙◌, subst, arith, length, append_assoc, length-append}
use Rattle.eqn_core.specs.Equations.{Line, all, any, within, digit, choose, bits_of_line, words_of_line, bit_lines, word_lines}
use Rattle.eqn_core.specs.Solutions.{Values, bit_of, word_of, is_true, chosen_value, defined_bits, defined_words}

abbrev pub next_bit : ℕ → Line → ℕ
next_bit b (all ls) = suc b
next_bit b (any ls) = suc b
next_bit b (within x lo hi) = suc b
next_bit b (digit x place) = suc b
next_bit b (choose cases other) = b

abbrev pub next_word : ℕ → Line → ℕ
next_word w (all ls) = w
next_word w (any ls) = w
next_word w (within x lo hi) = w
next_word w (digit x place) = w
next_word w (choose cases other) = suc w

-- the line defines bit b, or word w
abbrev pub IsAt : Values → ℕ → ℕ → Line → Type 0
IsAt s b w (all ls) = bit_of s b ≡ list_all (is_true s) ls
IsAt s b w (any ls) = bit_of s b ≡ list_any (is_true s) ls
IsAt s b w (within x lo hi) = bit_of s b ≡ (nat_le lo (word_of s x) && nat_le (word_of s x) hi)
IsAt s b w (digit x place) = bit_of s b ≡ nat_eq (word_of s x / 2 ^ place % 2) 1
IsAt s b w (choose cases other) = word_of s w ≡ chosen_value s cases other

-- the lines define the bits from b on and the words from w on
abbrev pub AreAt : Values → ℕ → ℕ → List Line → Type 0
AreAt s b w [] = Unit {0}
AreAt s b w (l ∷ ls) = IsAt s b w l × AreAt s (next_bit b l) (next_word w l) ls

pub next_bit-is : (b : ℕ) (l : Line) → next_bit b l ≡ b + bits_of_line l
next_bit-is b (all ls) = omega arith
next_bit-is b (any ls) = omega arith
next_bit-is b (within x lo hi) = omega arith
next_bit-is b (digit x place) = omega arith
next_bit-is b (choose cases other) = omega arith

pub next_word-is : (w : ℕ) (l : Line) → next_word w l ≡ w + words_of_line l
next_word-is w (all ls) = omega arith
next_word-is w (any ls) = omega arith
next_word-is w (within x lo hi) = omega arith
next_word-is w (digit x place) = omega arith
next_word-is w (choose cases other) = omega arith

pub at_place : (s : Values) (b c w x : ℕ) (ls : List Line) → b ≡ c → w ≡ x → AreAt s b w ls → AreAt s c x ls
at_place s b c w x ls e f h = subst (λ k. AreAt s k x ls) e (subst (λ k. AreAt s b k ls) f h)

pub at_left : (s : Values) (b w : ℕ) (xs ys : List Line) → AreAt s b w (xs ++ ys) → AreAt s b w xs
at_left s b w [] ys h = tt
at_left s b w (l ∷ xs) ys h = (h.0, at_left s (next_bit b l) (next_word w l) xs ys h.1)

at_right : (s : Values) (b w : ℕ) (xs ys : List Line) → AreAt s b w (xs ++ ys) → AreAt s (b + bit_lines xs) (w + word_lines xs) ys
at_right s b w [] ys h = at_place s b (b + 0) w (w + 0) ys (omega arith) (omega arith) h
at_right s b w (l ∷ xs) ys h = at_place s (next_bit b l + bit_lines xs) _ (next_word w l + word_lines xs) _ ys (omega (arith, next_bit-is b l)) (omega (arith, next_word-is w l)) (at_right s (next_bit b l) (next_word w l) xs ys h.1)

-- behind lines that define so many bits and words
pub at_behind : (s : Values) (b w nb nw : ℕ) (xs ys : List Line) → bit_lines xs ≡ nb → word_lines xs ≡ nw → AreAt s b w (xs ++ ys) → AreAt s (b + nb) (w + nw) ys
at_behind s b w nb nw xs ys e f h = at_place s (b + bit_lines xs) (b + nb) (w + word_lines xs) (w + nw) ys (omega (arith, e)) (omega (arith, f)) (at_right s b w xs ys h)

-- behind lines that define bits alone
pub at_behind_bits : (s : Values) (b w nb : ℕ) (xs ys : List Line) → bit_lines xs ≡ nb → word_lines xs ≡ 0 → AreAt s b w (xs ++ ys) → AreAt s (b + nb) w ys
at_behind_bits s b w nb xs ys e f h = at_place s (b + bit_lines xs) (b + nb) (w + word_lines xs) w ys (omega (arith, e)) (omega (arith, f)) (at_right s b w xs ys h)

-- what completes the given values has the lines at their places
head_bit : (pre : List Bool) (x : Bool) (rest : List Bool) → slice_index_or (pre ++ (x ∷ rest)) (length pre) false ≡ x
head_bit [] x rest = refl
head_bit (y ∷ pre) x rest = head_bit pre x rest

head_word : (pre : List ℕ) (x : ℕ) (rest : List ℕ) → slice_index_or (pre ++ (x ∷ rest)) (length pre) 0 ≡ x
head_word [] x rest = refl
head_word (y ∷ pre) x rest = head_word pre x rest

bit_here : (s : Values) (pre : List Bool) (x : Bool) (rest : List Bool) → s.bits ≡ pre ++ (x ∷ rest) → bit_of s (length pre) ≡ x
bit_here s pre x rest e = ap (λ (l : List Bool). slice_index_or l (length pre) false) e ∙ head_bit pre x rest

word_here : (s : Values) (pre : List ℕ) (x : ℕ) (rest : List ℕ) → s.words ≡ pre ++ (x ∷ rest) → word_of s (length pre) ≡ x
word_here s pre x rest e = ap (λ (l : List ℕ). slice_index_or l (length pre) 0) e ∙ head_word pre x rest

pub completes_at : (s : Values) (ls : List Line) (bits : List Bool) (words : List ℕ) → s.bits ≡ bits ++ flat_map (defined_bits s) ls → s.words ≡ words ++ flat_map (defined_words s) ls → AreAt s (length bits) (length words) ls
completes_at s [] bits words b w = tt
completes_at s (all ls ∷ more) bits words b w = (bit_here s bits (list_all (is_true s) ls) (flat_map (defined_bits s) more) b, one_more_bit s (list_all (is_true s) ls) more bits words b w (completes_at s more (bits ++ list_all (is_true s) ls ∷ []) words (b ∙ sym (append_assoc bits (list_all (is_true s) ls ∷ []) _)) w))
  where
    one_more_bit : (s : Values) (x : Bool) (more : List Line) (bits : List Bool) (words : List ℕ) → s.bits ≡ bits ++ x ∷ flat_map (defined_bits s) more → s.words ≡ words ++ flat_map (defined_words s) more → AreAt s (length (bits ++ x ∷ [])) (length words) more → AreAt s (suc (length bits)) (length words) more
    one_more_bit s x more bits words b w h = at_place s (length (bits ++ x ∷ [])) (suc (length bits)) (length words) (length words) more (omega (arith, length-append bits (x ∷ []))) refl h
completes_at s (any ls ∷ more) bits words b w =
    let x = list_any (is_true s) ls in
    (bit_here s bits x (flat_map (defined_bits s) more) b, at_place s (length (bits ++ x ∷ [])) (suc (length bits)) (length words) (length words) more (omega (arith, length-append bits (x ∷ []))) refl (completes_at s more (bits ++ x ∷ []) words (b ∙ sym (append_assoc bits (x ∷ []) _)) w))
completes_at s (within k lo hi ∷ more) bits words b w =
    let x = nat_le lo (word_of s k) && nat_le (word_of s k) hi in
    (bit_here s bits x (flat_map (defined_bits s) more) b, at_place s (length (bits ++ x ∷ [])) (suc (length bits)) (length words) (length words) more (omega (arith, length-append bits (x ∷ []))) refl (completes_at s more (bits ++ x ∷ []) words (b ∙ sym (append_assoc bits (x ∷ []) _)) w))
completes_at s (digit k place ∷ more) bits words b w =
    let x = nat_eq (word_of s k / 2 ^ place % 2) 1 in
    (bit_here s bits x (flat_map (defined_bits s) more) b, at_place s (length (bits ++ x ∷ [])) (suc (length bits)) (length words) (length words) more (omega (arith, length-append bits (x ∷ []))) refl (completes_at s more (bits ++ x ∷ []) words (b ∙ sym (append_assoc bits (x ∷ []) _)) w))
completes_at s (choose cases other ∷ more) bits words b w =
    let x = chosen_value s cases other in
    (word_here s words x (flat_map (defined_words s) more) w, at_place s (length bits) (length bits) (length (words ++ x ∷ [])) (suc (length words)) more refl (omega (arith, length-append words (x ∷ []))) (completes_at s more bits (words ++ x ∷ []) b (w ∙ sym (append_assoc words (x ∷ []) _))))
