-- The pieces of C lines: what is read is spelt so, and each spelling is read back.
use Rattle.std.proofs.Common.{◌≡◌, ℕ, ◌-◌, List, [], ◌∷◌, ◌++◌, Bool, true, false, ◌&&◌, cond, Option, Some, None, IsTrue, length, take, drop, inl, inr, refl, sym, ap, ◌∙◌, subst, length-append, arith}
use Rattle.std.specs.Prelude.{nat_eq, nat_lt, codes, bytes_eq, is_some, unwrap_or}
use Rattle.std.specs.List.{list_all}
use Rattle.std.specs.Char.{is_ascii_digit}
use Rattle.std.proofs.Math.Seq.{take-append_seam, drop-append_seam}
use Rattle.std.proofs.lemmas.Bool.Decides.{nat_tests}
use Rattle.std.proofs.lemmas.List.{take-append-drop}
use Rattle.std.proofs.lemmas.Slice.Eq.{bytes_eq-Decides}
use Rattle.argos_base.specs.Spelling.{is_numeral, number_of, is_digits}
use Rattle.argos_base.proofs.Bools.{and_first, and_second, and_both, true_or_false}
use Rattle.eqn_core.specs.Equations.{Literal}
use Rattle.line_format.specs.Numerals.{numeral}
use Rattle.line_format.proofs.Numbers.{numeral_is_numeral, number_of-numeral, numeral-number_of, numeral_digits}
use Rattle.line_format.proofs.Options.{bind, only_if, bind_is, only_if_is, only_if_true, some_is, bytes_same}
use Rattle.c_step.specs.CFile.{indexed, bit_place, word_place, literal_then}
use Rattle.c_step.specs.inner.Pieces.{behind, begins, skipped, last, Taken, taken, front_of, behind_front, before, number, take_number, take_index}
use Rattle.c_step.specs.inner.LineReading.{Scope, take_bit, take_word, take_same, take_literal}

pub same_byte : (b k : ℕ) → nat_eq b k ≡ true → b ≡ k
same_byte b k h = grind (arith, nat_tests)

pub byte_same : (b : ℕ) → nat_eq b b ≡ true
byte_same b = grind (arith, nat_tests)

pub bytes_alike : (t : List ℕ) → bytes_eq t t ≡ true
bytes_alike t = (bytes_eq-Decides t t).1 refl

-- chains of readings
pub bind_reads : {A B : Type 0} (o : Option A) (f : A → Option B) (a : A) (r : Option B) → o ≡ Some a → f a ≡ r → bind o f ≡ r
bind_reads o f a r h e = ap (λ z. bind z f) h ∙ e

pub if_true : {A : Type 0} (b : Bool) (x y r : A) → b ≡ true → x ≡ r → cond b x y ≡ r
if_true b x y r h e = ap (λ z. cond z x y) h ∙ e

pub if_false : {A : Type 0} (b : Bool) (x y r : A) → b ≡ false → y ≡ r → cond b x y ≡ r
if_false b x y r h e = ap (λ z. cond z x y) h ∙ e

-- texts
pub behind_is : (t l r : List ℕ) → behind t l ≡ Some r → l ≡ t ++ r
behind_is [] l r h = some_is l r h
behind_is (b ∷ t) [] r h = cc h
behind_is (b ∷ t) (c ∷ l) r h =
    let p = only_if_is (nat_eq c b) (behind t l) r h in
    ap (λ z. z ∷ l) (same_byte c b p.0) ∙ ap (λ z. b ∷ z) (behind_is t l r p.1)

pub behind_reads : (t r : List ℕ) → behind t (t ++ r) ≡ Some r
behind_reads [] r = refl
behind_reads (b ∷ t) r = only_if_true (nat_eq b b) (behind t (t ++ r)) (byte_same b) ∙ behind_reads t r

pub begins_is : (t l : List ℕ) → begins t l ≡ true → l ≡ t ++ skipped t l
begins_is t l h = by (behind t l) refl h
  where
    by : (o : Option (List ℕ)) → behind t l ≡ o → begins t l ≡ true → l ≡ t ++ skipped t l
    by None e h = let no : false ≡ true = sym (ap (λ o. is_some o) e) ∙ h in cc no
    by (Some r) e h = behind_is t l r e ∙ ap (λ o. t ++ unwrap_or o l) (sym e)

pub skipped_none : (t l : List ℕ) → begins t l ≡ false → skipped t l ≡ l
skipped_none t l h = by (behind t l) refl h
  where
    by : (o : Option (List ℕ)) → behind t l ≡ o → begins t l ≡ false → skipped t l ≡ l
    by None e h = ap (λ o. unwrap_or o l) e
    by (Some r) e h = let no : true ≡ false = sym (ap (λ o. is_some o) e) ∙ h in cc no

pub last_is : {A : Type 0} (t : List ℕ) (a b : A) (l : List ℕ) → last t a l ≡ Some b → (l ≡ t) × (a ≡ b)
last_is t a b l h = let p = only_if_is (bytes_eq l t) (Some a) b h in (bytes_same l t p.0, some_is a b p.1)

pub last_reads : {A : Type 0} (t : List ℕ) (a : A) → last t a t ≡ Some a
last_reads t a = only_if_true (bytes_eq t t) (Some a) (bytes_alike t)

pub before_is : (t l n : List ℕ) → before t l ≡ Some n → l ≡ n ++ t
before_is t l n h =
    let p = only_if_is (bytes_eq (drop (length l - length t) l) t) (Some (take (length l - length t) l)) n h in
    sym (take-append-drop (length l - length t) l) ∙ ap (λ z. take (length l - length t) l ++ z) (bytes_same _ _ p.0) ∙ ap (λ z. z ++ t) (some_is (take (length l - length t) l) n p.1)

pub before_reads : (t n : List ℕ) → before t (n ++ t) ≡ Some n
before_reads t n =
    let k : length (n ++ t) - length t ≡ length n = omega (arith, length-append n t) in
    ap (λ k. only_if (bytes_eq (drop k (n ++ t)) t) (Some (take k (n ++ t)))) k
    ∙ only_if_true (bytes_eq (drop (length n) (n ++ t)) t) (Some (take (length n) (n ++ t))) (ap (λ z. bytes_eq z t) (drop-append_seam n t) ∙ bytes_alike t)
    ∙ ap (λ z. Some z) (take-append_seam n t)

-- fronts
pub front_is : (p : ℕ → Bool) (l : List ℕ) → l ≡ front_of p l ++ behind_front p l
front_is p [] = refl
front_is p (c ∷ l) = elim (true_or_false (p c)) [
  | inl y ↦ ap (λ z. c ∷ z) (front_is p l) ∙ sym (ap (λ t. cond t (c ∷ front_of p l) [] ++ cond t (behind_front p l) (c ∷ l)) y)
  | inr y ↦ sym (ap (λ t. cond t (c ∷ front_of p l) [] ++ cond t (behind_front p l) (c ∷ l)) y)
]

-- the byte behind the front doesn't pass
abbrev pub Stops : (ℕ → Bool) → List ℕ → Type 0
Stops p [] = Unit {0}
Stops p (c ∷ l) = p c ≡ false

pub front_reads : (p : ℕ → Bool) (front rest : List ℕ) → IsTrue (list_all p front) → Stops p rest → front_of p (front ++ rest) ≡ front
front_reads p [] [] h s = refl
front_reads p [] (c ∷ rest) h s = ap (λ t. cond t (c ∷ front_of p rest) []) s
front_reads p (c ∷ front) rest h s = ap (λ t. cond t (c ∷ front_of p (front ++ rest)) []) (and_first _ _ h) ∙ ap (λ z. c ∷ z) (front_reads p front rest (and_second (p c) _ h) s)

pub rest_reads : (p : ℕ → Bool) (front rest : List ℕ) → IsTrue (list_all p front) → Stops p rest → behind_front p (front ++ rest) ≡ rest
rest_reads p [] [] h s = refl
rest_reads p [] (c ∷ rest) h s = ap (λ t. cond t (behind_front p rest) (c ∷ rest)) s
rest_reads p (c ∷ front) rest h s = ap (λ t. cond t (behind_front p (front ++ rest)) (c ∷ (front ++ rest))) (and_first _ _ h) ∙ rest_reads p front rest (and_second (p c) _ h) s

-- numbers
abbrev pub IsNumberTaken : ℕ → List ℕ → Taken ℕ → Type 0
IsNumberTaken end l t = (l ≡ numeral t.value ++ t.rest) × IsTrue (nat_lt t.value end)

pub take_number_is : (end : ℕ) (l : List ℕ) (t : Taken ℕ) → take_number end l ≡ Some t → IsNumberTaken end l t
take_number_is end l t h =
    let ds : List ℕ = front_of is_ascii_digit l in
    let rest : List ℕ = behind_front is_ascii_digit l in
    let p = bind_is (number end ds) (λ n. Some (taken n rest)) t h in
    let q = only_if_is (is_numeral ds && nat_lt (number_of ds) end) (Some (number_of ds)) p.0 p.1 in
    let e : number_of ds ≡ p.0 = some_is (number_of ds) p.0 q.1 in
    let made : IsNumberTaken end l (taken (number_of ds) rest) = (front_is is_ascii_digit l ∙ ap (λ z. z ++ rest) (sym (numeral-number_of ds (and_first (is_numeral ds) _ q.0))), and_second (is_numeral ds) _ q.0) in
    subst (IsNumberTaken end l) (ap (λ n. taken n rest) e ∙ some_is (taken p.0 rest) t p.2) made

digits_pass : (ds : List ℕ) → is_digits ds ≡ true → IsTrue (list_all is_ascii_digit ds)
digits_pass [] h = refl
digits_pass (d ∷ ds) h = h

pub take_number_reads : (end n : ℕ) (rest : List ℕ) → IsTrue (nat_lt n end) → Stops is_ascii_digit rest → take_number end (numeral n ++ rest) ≡ Some (taken n rest)
take_number_reads end n rest h s =
    let pass : IsTrue (list_all is_ascii_digit (numeral n)) = digits_pass (numeral n) (numeral_digits n) in
    let small : IsTrue (nat_lt (number_of (numeral n)) end) = ap (λ k. nat_lt k end) (number_of-numeral n) ∙ h in
    ap (λ z. bind (number end z) (λ k. Some (taken k (behind_front is_ascii_digit (numeral n ++ rest))))) (front_reads is_ascii_digit (numeral n) rest pass s)
    ∙ ap (λ z. bind (number end (numeral n)) (λ k. Some (taken k z))) (rest_reads is_ascii_digit (numeral n) rest pass s)
    ∙ bind_reads (number end (numeral n)) (λ k. Some (taken k rest)) n (Some (taken n rest))
    (only_if_true (is_numeral (numeral n) && nat_lt (number_of (numeral n)) end) (Some (number_of (numeral n))) (and_both (is_numeral (numeral n)) _ (numeral_is_numeral n) small) ∙ ap (λ k. Some k) (number_of-numeral n)) refl

-- a number begins with a digit
digit_byte : (d c : ℕ) → is_ascii_digit d ≡ true → is_ascii_digit c ≡ false → nat_eq d c ≡ false
digit_byte d c h e = grind (arith, nat_tests)

pub number_not : (c : ℕ) (t : List ℕ) (n : ℕ) (rest : List ℕ) → is_ascii_digit c ≡ false → begins (c ∷ t) (numeral n ++ rest) ≡ false
number_not c t n rest h = by (numeral n) (numeral_digits n)
  where
    by : (ds : List ℕ) → is_digits ds ≡ true → begins (c ∷ t) (ds ++ rest) ≡ false
    by [] e = cc e
    by (d ∷ ds) e = ap (λ b. is_some (only_if b (behind t (ds ++ rest)))) (digit_byte d c (and_first (is_ascii_digit d) _ e) h)

-- places of arrays
abbrev pub IsPlaceTaken : List ℕ → ℕ → List ℕ → Taken ℕ → Type 0
IsPlaceTaken array end l t = (l ≡ indexed array t.value t.rest) × IsTrue (nat_lt t.value end)

pub take_index_is : (array : List ℕ) (end : ℕ) (l : List ℕ) (t : Taken ℕ) → take_index array end l ≡ Some t → IsPlaceTaken array end l t
take_index_is array end l t h =
    let p = bind_is (behind array l) (λ l. bind (take_number end l) (λ t. bind (behind (codes "]") t.rest) (λ l. Some (taken t.value l)))) t h in
    let q = bind_is (take_number end p.0) (λ t. bind (behind (codes "]") t.rest) (λ l. Some (taken t.value l))) t p.2 in
    let r = bind_is (behind (codes "]") q.0.rest) (λ l. Some (taken q.0.value l)) t q.2 in
    let n = take_number_is end p.0 q.0 q.1 in
    let made : IsPlaceTaken array end l (taken q.0.value r.0) = (behind_is array l p.0 p.1 ∙ ap (λ z. array ++ z) (n.0 ∙ ap (λ z. numeral q.0.value ++ z) (behind_is (codes "]") q.0.rest r.0 r.1)), n.1) in
    subst (IsPlaceTaken array end l) (some_is (taken q.0.value r.0) t r.2) made

pub take_index_reads : (array : List ℕ) (end k : ℕ) (rest : List ℕ) → IsTrue (nat_lt k end) → take_index array end (indexed array k rest) ≡ Some (taken k rest)
take_index_reads array end k rest h =
    bind_reads (behind array (indexed array k rest)) (λ l. bind (take_number end l) (λ t. bind (behind (codes "]") t.rest) (λ l. Some (taken t.value l)))) (numeral k ++ (codes "]" ++ rest)) (Some (taken k rest)) (behind_reads array (numeral k ++ (codes "]" ++ rest)))
    (bind_reads (take_number end (numeral k ++ (codes "]" ++ rest))) (λ t. bind (behind (codes "]") t.rest) (λ l. Some (taken t.value l))) (taken k (codes "]" ++ rest)) (Some (taken k rest)) (take_number_reads end k (codes "]" ++ rest) h refl) refl)

-- what may be read
abbrev pub IsBitTaken : Scope → List ℕ → Taken ℕ → Type 0
IsBitTaken sc l t = (l ≡ bit_place t.value t.rest) × IsTrue (nat_lt t.value sc.bits) × IsTrue (sc.has_bit t.value)

pub take_bit_is : (sc : Scope) (l : List ℕ) (t : Taken ℕ) → take_bit sc l ≡ Some t → IsBitTaken sc l t
take_bit_is sc l t h =
    let p = bind_is (take_index (codes "m->b[") sc.bits l) (λ t. only_if (sc.has_bit t.value) (Some t)) t h in
    let q = only_if_is (sc.has_bit p.0.value) (Some p.0) t p.2 in
    let n = take_index_is (codes "m->b[") sc.bits l p.0 p.1 in
    let made : IsBitTaken sc l p.0 = (n.0, n.1, q.0) in
    subst (IsBitTaken sc l) (some_is p.0 t q.1) made

pub take_bit_reads : (sc : Scope) (k : ℕ) (rest : List ℕ) → IsTrue (nat_lt k sc.bits) → IsTrue (sc.has_bit k) → take_bit sc (bit_place k rest) ≡ Some (taken k rest)
take_bit_reads sc k rest h e =
    bind_reads (take_index (codes "m->b[") sc.bits (bit_place k rest)) (λ t. only_if (sc.has_bit t.value) (Some t)) (taken k rest) (Some (taken k rest)) (take_index_reads (codes "m->b[") sc.bits k rest h) (only_if_true (sc.has_bit k) (Some (taken k rest)) e)

abbrev pub IsWordTaken : Scope → List ℕ → Taken ℕ → Type 0
IsWordTaken sc l t = (l ≡ word_place t.value t.rest) × IsTrue (nat_lt t.value sc.words) × IsTrue (sc.has_word t.value)

pub take_word_is : (sc : Scope) (l : List ℕ) (t : Taken ℕ) → take_word sc l ≡ Some t → IsWordTaken sc l t
take_word_is sc l t h =
    let p = bind_is (take_index (codes "m->w[") sc.words l) (λ t. only_if (sc.has_word t.value) (Some t)) t h in
    let q = only_if_is (sc.has_word p.0.value) (Some p.0) t p.2 in
    let n = take_index_is (codes "m->w[") sc.words l p.0 p.1 in
    let made : IsWordTaken sc l p.0 = (n.0, n.1, q.0) in
    subst (IsWordTaken sc l) (some_is p.0 t q.1) made

pub take_word_reads : (sc : Scope) (k : ℕ) (rest : List ℕ) → IsTrue (nat_lt k sc.words) → IsTrue (sc.has_word k) → take_word sc (word_place k rest) ≡ Some (taken k rest)
take_word_reads sc k rest h e =
    bind_reads (take_index (codes "m->w[") sc.words (word_place k rest)) (λ t. only_if (sc.has_word t.value) (Some t)) (taken k rest) (Some (taken k rest)) (take_index_reads (codes "m->w[") sc.words k rest h) (only_if_true (sc.has_word k) (Some (taken k rest)) e)

pub take_same_is : (sc : Scope) (k : ℕ) (l r : List ℕ) → take_same sc k l ≡ Some r → l ≡ word_place k r
take_same_is sc k l r h =
    let p = bind_is (take_index (codes "m->w[") sc.words l) (λ t. only_if (nat_eq t.value k) (Some t.rest)) r h in
    let q = only_if_is (nat_eq p.0.value k) (Some p.0.rest) r p.2 in
    (take_index_is (codes "m->w[") sc.words l p.0 p.1).0 ∙ ap (λ z. word_place z p.0.rest) (same_byte p.0.value k q.0) ∙ ap (λ z. word_place k z) (some_is p.0.rest r q.1)

pub take_same_reads : (sc : Scope) (k : ℕ) (rest : List ℕ) → IsTrue (nat_lt k sc.words) → take_same sc k (word_place k rest) ≡ Some rest
take_same_reads sc k rest h =
    bind_reads (take_index (codes "m->w[") sc.words (word_place k rest)) (λ t. only_if (nat_eq t.value k) (Some t.rest)) (taken k rest) (Some rest) (take_index_reads (codes "m->w[") sc.words k rest h) (only_if_true (nat_eq k k) (Some rest) (byte_same k))

-- literals
abbrev pub IsLiteralTaken : Scope → List ℕ → Taken Literal → Type 0
IsLiteralTaken sc l t = (l ≡ literal_then t.value t.rest) × IsTrue (sc.has_bit t.value.bit)

signed : (l : List ℕ) (k : ℕ) (rest : List ℕ) → skipped (codes "!") l ≡ bit_place k rest → let x : Literal = record { bit = k; negated = begins (codes "!") l } in l ≡ literal_then x rest
signed l k rest h = elim (true_or_false (begins (codes "!") l)) [
  | inl y ↦ begins_is (codes "!") l y ∙ ap (λ z. codes "!" ++ z) h ∙ sym (ap (λ b. cond b (codes "!" ++ bit_place k rest) (bit_place k rest)) y)
  | inr y ↦ sym (skipped_none (codes "!") l y) ∙ h ∙ sym (ap (λ b. cond b (codes "!" ++ bit_place k rest) (bit_place k rest)) y)
]

pub take_literal_is : (sc : Scope) (l : List ℕ) (t : Taken Literal) → take_literal sc l ≡ Some t → IsLiteralTaken sc l t
take_literal_is sc l t h =
    let p = bind_is (take_bit sc (skipped (codes "!") l)) (λ t. Some (taken (record { bit = t.value; negated = begins (codes "!") l }) t.rest)) t h in
    let n = take_bit_is sc (skipped (codes "!") l) p.0 p.1 in
    let x : Literal = record { bit = p.0.value; negated = begins (codes "!") l } in
    let made : IsLiteralTaken sc l (taken x p.0.rest) = (signed l p.0.value p.0.rest n.0, n.2) in
    subst (IsLiteralTaken sc l) (some_is (taken x p.0.rest) t p.2) made

literal_at : (sc : Scope) (k : ℕ) (b : Bool) (rest : List ℕ) → IsTrue (nat_lt k sc.bits) → IsTrue (sc.has_bit k) → let x : Literal = record { bit = k; negated = b } in take_literal sc (literal_then x rest) ≡ Some (taken x rest)
literal_at sc k true rest h e = bind_reads (take_bit sc (bit_place k rest)) (λ t. Some (taken (record { bit = t.value; negated = true }) t.rest)) (taken k rest) (Some (taken (record { bit = k; negated = true }) rest)) (take_bit_reads sc k rest h e) refl
literal_at sc k false rest h e = bind_reads (take_bit sc (bit_place k rest)) (λ t. Some (taken (record { bit = t.value; negated = false }) t.rest)) (taken k rest) (Some (taken (record { bit = k; negated = false }) rest)) (take_bit_reads sc k rest h e) refl

pub take_literal_reads : (sc : Scope) (x : Literal) (rest : List ℕ) → IsTrue (nat_lt x.bit sc.bits) → IsTrue (sc.has_bit x.bit) → take_literal sc (literal_then x rest) ≡ Some (taken x rest)
take_literal_reads sc x rest h e = literal_at sc x.bit x.negated rest h e
