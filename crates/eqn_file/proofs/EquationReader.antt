-- What the words of a line of an equation file say.
use Rattle.std.proofs.Common.{◌≡◌, ℕ, List, [], ◌∷◌, ◌++◌, Bool, true, false, cond, IsTrue, map, Option, Some, inl, inr, refl, sym, ap, ◌∙◌, subst, ◌⊎◌}
use Rattle.std.specs.Prelude.{codes, bytes_eq, nat_eq, if◌then◌else◌}
use Rattle.std.proofs.lemmas.Bool.Decides.{nat_tests}
use Rattle.std.proofs.Common.{arith}
use Rattle.argos_base.specs.Names.{Spelled}
use Rattle.argos_base.specs.Spelling.{is_name, is_numeral, number_of}
use Rattle.argos_base.proofs.Bools.{true_or_false}
use Rattle.eqn_core.specs.Equations.{Literal, Choice, code, word, next, Case, Line, all, any, within, digit, choose}
use Rattle.line_format.specs.Numerals.{numeral}
use Rattle.eqn_file.specs.EquationFile.{FileLine, head, input_count, input_name, output_count, output_name, register_count, a_code, line_count, a_line, an_out, a_next, the_end, literal_text, choice_words, chain_words, line_words, words_of, Part, head_due, inputs_due, outputs_due, registers_due, lines_due, end_due, nothing_due, input_name_due, output_name_due, code_due, line_due, out_due, next_due, is_due_line}
use Rattle.eqn_file.specs.inner.WordReading.{Taken, taken, number, take_number, number_then, sign, literal, literals, choice_kind, choice, Chain, one_more_case, chain, all_of, any_of, within_of, digit_of, choose_of, line_by, read_line, keyed, one_name, one_number, read}
use Rattle.line_format.proofs.Numbers.{numeral_is_numeral, number_of-numeral, numeral-number_of}
use Rattle.line_format.proofs.Options.{bind, only_if, bind_is, only_if_is, only_if_true, some_is, bytes_same, keyword, keyword_is, nothing_more, nothing_more_is}

pub number_is : (w : List ℕ) (n : ℕ) → number w ≡ Some n → w ≡ numeral n
number_is w n h = let p = only_if_is (is_numeral w) (Some (number_of w)) n h in sym (numeral-number_of w p.0) ∙ ap numeral (some_is (number_of w) n p.1)

pub number_reads : (n : ℕ) → number (numeral n) ≡ Some n
number_reads n = only_if_true (is_numeral (numeral n)) (Some (number_of (numeral n))) (numeral_is_numeral n) ∙ ap (λ k. Some k) (number_of-numeral n)

take_number_is : (ws : List Spelled) (t : Taken ℕ) → take_number ws ≡ Some t → ws ≡ numeral t.value ∷ t.rest
take_number_is [] t h = cc h
take_number_is (w ∷ ws) t h =
    let p = bind_is (number w) (λ n. Some (taken n ws)) t h in
    ap (λ z. z ∷ ws) (number_is w p.0 p.1) ∙ ap (λ (u : Taken ℕ). numeral u.value ∷ u.rest) (some_is (taken p.0 ws) t p.2)

take_number_reads : (n : ℕ) (ws : List Spelled) → take_number (numeral n ∷ ws) ≡ Some (taken n ws)
take_number_reads n ws = ap (λ o. bind o (λ k. Some (taken k ws))) (number_reads n)

number_then_is : {A : Type 0} (f : ℕ → List Spelled → Option A) (ws : List Spelled) (a : A) → number_then f ws ≡ Some a → (n : ℕ) × (rest : List Spelled) × (ws ≡ numeral n ∷ rest) × (f n rest ≡ Some a)
number_then_is f ws a h = let p = bind_is (take_number ws) (λ t. f t.value t.rest) a h in (p.0.value, p.0.rest, take_number_is ws p.0 p.1, p.2)

number_then_reads : {A : Type 0} (f : ℕ → List Spelled → Option A) (n : ℕ) (ws : List Spelled) → number_then f (numeral n ∷ ws) ≡ f n ws
number_then_reads f n ws = ap (λ o. bind o (λ t. f t.value t.rest)) (take_number_reads n ws)

-- a choice of two readings
pub cond_some : {A : Type 0} (t : Bool) (o p : Option A) (a : A) → cond t o p ≡ Some a → ((t ≡ true) × (o ≡ Some a)) ⊎ ((t ≡ false) × (p ≡ Some a))
cond_some true o p a h = inl (refl, h)
cond_some false o p a h = inr (refl, h)

sign_is : (c : ℕ) (b : Bool) → sign c ≡ Some b → c ≡ cond b 45 43
sign_is c b h = elim (true_or_false (nat_eq c 43)) [
  | inl y ↦
      let p : Some false ≡ Some b = sym (ap (λ t. if t then Some false else only_if (nat_eq c 45) (Some true)) y) ∙ h in
      same c 43 y ∙ ap (λ z. cond z 45 43) (some_is false b p)
  | inr y ↦
      let p : only_if (nat_eq c 45) (Some true) ≡ Some b = sym (ap (λ t. if t then Some false else only_if (nat_eq c 45) (Some true)) y) ∙ h in
      let q = only_if_is (nat_eq c 45) (Some true) b p in
      same c 45 q.0 ∙ ap (λ z. cond z 45 43) (some_is true b q.1)
]
  where
    same : (c k : ℕ) → nat_eq c k ≡ true → c ≡ k
    same c k h = grind (arith, nat_tests)

literal_is : (w : List ℕ) (l : Literal) → literal w ≡ Some l → w ≡ literal_text l
literal_is [] l h = cc h
literal_is (c ∷ cs) l h =
    let p = bind_is (sign c) (λ b. bind (number cs) (λ n. Some (record { bit = n; negated = b }))) l h in
    let q = bind_is (number cs) (λ n. Some (record { bit = n; negated = p.0 })) l p.2 in
    let made : Literal = record { bit = q.0; negated = p.0 } in
    ap (λ z. z ∷ cs) (sign_is c p.0 p.1) ∙ ap (λ z. cond p.0 45 43 ∷ z) (number_is cs q.0 q.1) ∙ ap literal_text (some_is made l q.2)

literal_reads : (l : Literal) → literal (literal_text l) ≡ Some l
literal_reads l =
    ap (λ o. bind o (λ b. bind (number (numeral l.bit)) (λ n. Some (record { bit = n; negated = b })))) (signs l.negated)
    ∙ ap (λ o. bind o (λ n. Some (record { bit = n; negated = l.negated }))) (number_reads l.bit)
  where
    signs : (b : Bool) → sign (cond b 45 43) ≡ Some b
    signs true = refl
    signs false = refl

literals_is : (ws : List Spelled) (ls : List Literal) → literals ws ≡ Some ls → ws ≡ map literal_text ls
literals_is [] ls h = ap (λ z. map literal_text z) (some_is [] ls h)
literals_is (w ∷ ws) ls h =
    let p = bind_is (literal w) (λ l. bind (literals ws) (λ ls. Some (l ∷ ls))) ls h in
    let q = bind_is (literals ws) (λ ks. Some (p.0 ∷ ks)) ls p.2 in
    ap (λ z. z ∷ ws) (literal_is w p.0 p.1) ∙ ap (λ z. literal_text p.0 ∷ z) (literals_is ws q.0 q.1) ∙ ap (λ z. map literal_text z) (some_is (p.0 ∷ q.0) ls q.2)

literals_reads : (ls : List Literal) → literals (map literal_text ls) ≡ Some ls
literals_reads [] = refl
literals_reads (l ∷ ls) =
    ap (λ o. bind o (λ k. bind (literals (map literal_text ls)) (λ ks. Some (k ∷ ks)))) (literal_reads l) ∙ ap (λ o. bind o (λ ks. Some (l ∷ ks))) (literals_reads ls)

abbrev kind_word : Choice → Spelled
kind_word (code n) = codes "code"
kind_word (word n) = codes "word"
kind_word (next n) = codes "next"

abbrev kind_number : Choice → ℕ
kind_number (code n) = n
kind_number (word n) = n
kind_number (next n) = n

choice_kind_is : (w : Spelled) (n : ℕ) (c : Choice) → choice_kind w n ≡ Some c → (w ∷ numeral n ∷ []) ≡ choice_words c
choice_kind_is w n c h = elim (cond_some (bytes_eq w (codes "code")) (Some (code n)) _ c h) [
  | inl y ↦ ap (λ z. z ∷ numeral n ∷ []) (bytes_same w (codes "code") y.0) ∙ ap choice_words (some_is (code n) c y.1)
  | inr y ↦ elim (cond_some (bytes_eq w (codes "word")) (Some (word n)) _ c y.1) [
    | inl z ↦ ap (λ z. z ∷ numeral n ∷ []) (bytes_same w (codes "word") z.0) ∙ ap choice_words (some_is (word n) c z.1)
    | inr z ↦ let p = only_if_is (bytes_eq w (codes "next")) (Some (next n)) c z.1 in ap (λ z. z ∷ numeral n ∷ []) (bytes_same w (codes "next") p.0) ∙ ap choice_words (some_is (next n) c p.1)
  ]
]

choice_is : (w v : Spelled) (c : Choice) → choice w v ≡ Some c → (w ∷ v ∷ []) ≡ choice_words c
choice_is w v c h =
    let p = bind_is (number v) (choice_kind w) c h in
    ap (λ z. w ∷ z ∷ []) (number_is v p.0 p.1) ∙ choice_kind_is w p.0 c p.2

choice_reads : (c : Choice) → choice (kind_word c) (numeral (kind_number c)) ≡ Some c
choice_reads (code n) = ap (λ o. bind o (λ n. choice_kind (codes "code") n)) (number_reads n)
choice_reads (word n) = ap (λ o. bind o (λ n. choice_kind (codes "word") n)) (number_reads n)
choice_reads (next n) = ap (λ o. bind o (λ n. choice_kind (codes "next") n)) (number_reads n)

choice_words_are : (c : Choice) → choice_words c ≡ kind_word c ∷ numeral (kind_number c) ∷ []
choice_words_are (code n) = refl
choice_words_are (word n) = refl
choice_words_are (next n) = refl

abbrev words_of_chain : Chain → List Spelled
words_of_chain k = chain_words k.cases k.other

chain_is : (ws : List Spelled) (k : Chain) → chain ws ≡ Some k → ws ≡ words_of_chain k
chain_is [] k h = cc h
chain_is (a ∷ []) k h = cc h
chain_is (a ∷ b ∷ []) k h = cc h
chain_is (a ∷ b ∷ c ∷ []) k h =
    let p = only_if_is (bytes_eq a (codes "else")) (bind (choice b c) (λ p. Some (record { cases = []; other = p }))) k h in
    let q = bind_is (choice b c) (λ p. Some (record { cases = []; other = p })) k p.1 in
    let made : Chain = record { cases = []; other = q.0 } in
    ap (λ z. z ∷ b ∷ c ∷ []) (bytes_same a (codes "else") p.0) ∙ ap (λ z. codes "else" ∷ z) (choice_is b c q.0 q.1) ∙ ap words_of_chain (some_is made k q.2)
chain_is (a ∷ b ∷ c ∷ d ∷ more) k h =
    let p = only_if_is (bytes_eq a (codes "when")) (bind (literal b) (λ l. bind (choice c d) (λ p. bind (chain more) (λ k. Some (one_more_case l p k))))) k h in
    let q = bind_is (literal b) (λ l. bind (choice c d) (λ p. bind (chain more) (λ k. Some (one_more_case l p k)))) k p.1 in
    let r = bind_is (choice c d) (λ p. bind (chain more) (λ k. Some (one_more_case q.0 p k))) k q.2 in
    let s = bind_is (chain more) (λ k. Some (one_more_case q.0 r.0 k)) k r.2 in
    ap (λ z. z ∷ b ∷ c ∷ d ∷ more) (bytes_same a (codes "when") p.0)
    ∙ ap (λ z. codes "when" ∷ z ∷ c ∷ d ∷ more) (literal_is b q.0 q.1)
    ∙ ap (λ z. codes "when" ∷ literal_text q.0 ∷ (z ++ more)) (choice_is c d r.0 r.1)
    ∙ ap (λ z. codes "when" ∷ literal_text q.0 ∷ (choice_words r.0 ++ z)) (chain_is more s.0 s.1)
    ∙ ap words_of_chain (some_is (one_more_case q.0 r.0 s.0) k s.2)

chain_reads : (cases : List Case) (other : Choice) → chain (chain_words cases other) ≡ Some (record { cases = cases; other = other })
chain_reads [] other =
    ap (λ z. chain (codes "else" ∷ z)) (choice_words_are other) ∙ ap (λ o. bind o (λ p. Some (record { cases = []; other = p }))) (choice_reads other)
chain_reads (c ∷ cases) other =
    ap (λ z. chain (codes "when" ∷ literal_text c.when ∷ (z ++ chain_words cases other))) (choice_words_are c.choice)
    ∙ ap (λ o. bind o (λ l. bind (choice (kind_word c.choice) (numeral (kind_number c.choice))) (λ p. bind (chain (chain_words cases other)) (λ k. Some (one_more_case l p k))))) (literal_reads c.when)
    ∙ ap (λ o. bind o (λ p. bind (chain (chain_words cases other)) (λ k. Some (one_more_case c.when p k)))) (choice_reads c.choice)
    ∙ ap (λ o. bind o (λ k. Some (one_more_case c.when c.choice k))) (chain_reads cases other)

all_of_is : (ws : List Spelled) (l : Line) → all_of ws ≡ Some l → codes "all" ∷ ws ≡ line_words l
all_of_is ws l h =
    let q = bind_is (literals ws) (λ ls. Some (all ls)) l h in
    ap (λ z. codes "all" ∷ z) (literals_is ws q.0 q.1) ∙ ap line_words (some_is (all q.0) l q.2)

any_of_is : (ws : List Spelled) (l : Line) → any_of ws ≡ Some l → codes "any" ∷ ws ≡ line_words l
any_of_is ws l h =
    let q = bind_is (literals ws) (λ ls. Some (any ls)) l h in
    ap (λ z. codes "any" ∷ z) (literals_is ws q.0 q.1) ∙ ap line_words (some_is (any q.0) l q.2)

within_of_is : (ws : List Spelled) (l : Line) → within_of ws ≡ Some l → codes "within" ∷ ws ≡ line_words l
within_of_is ws l h =
    let q = number_then_is (λ w. number_then (λ lo. number_then (λ hi. nothing_more (within w lo hi)))) ws l h in
    let r = number_then_is (λ lo. number_then (λ hi. nothing_more (within q.0 lo hi))) q.1 l q.3 in
    let s = number_then_is (λ hi. nothing_more (within q.0 r.0 hi)) r.1 l r.3 in
    let t = nothing_more_is (within q.0 r.0 s.0) l s.1 s.3 in
    ap (λ z. codes "within" ∷ z) (q.2 ∙ ap (λ z. numeral q.0 ∷ z) (r.2 ∙ ap (λ z. numeral r.0 ∷ z) (s.2 ∙ ap (λ z. numeral s.0 ∷ z) t.0))) ∙ ap line_words t.1

digit_of_is : (ws : List Spelled) (l : Line) → digit_of ws ≡ Some l → codes "bit" ∷ ws ≡ line_words l
digit_of_is ws l h =
    let q = number_then_is (λ w. number_then (λ place. nothing_more (digit w place))) ws l h in
    let r = number_then_is (λ place. nothing_more (digit q.0 place)) q.1 l q.3 in
    let t = nothing_more_is (digit q.0 r.0) l r.1 r.3 in
    ap (λ z. codes "bit" ∷ z) (q.2 ∙ ap (λ z. numeral q.0 ∷ z) (r.2 ∙ ap (λ z. numeral r.0 ∷ z) t.0)) ∙ ap line_words t.1

choose_of_is : (ws : List Spelled) (l : Line) → choose_of ws ≡ Some l → codes "choose" ∷ ws ≡ line_words l
choose_of_is ws l h =
    let q = bind_is (chain ws) (λ k. Some (choose k.cases k.other)) l h in
    ap (λ z. codes "choose" ∷ z) (chain_is ws q.0 q.1) ∙ ap line_words (some_is (choose q.0.cases q.0.other) l q.2)

by_word : (k kw : Spelled) (ws : List Spelled) (l : Line) → bytes_eq k kw ≡ true → kw ∷ ws ≡ line_words l → k ∷ ws ≡ line_words l
by_word k kw ws l e h = ap (λ z. z ∷ ws) (bytes_same k kw e) ∙ h

line_by_is : (k : Spelled) (ws : List Spelled) (l : Line) → line_by k ws ≡ Some l → k ∷ ws ≡ line_words l
line_by_is k ws l h = elim (cond_some (bytes_eq k (codes "all")) (all_of ws) _ l h) [
  | inl y ↦ by_word k (codes "all") ws l y.0 (all_of_is ws l y.1)
  | inr a ↦ elim (cond_some (bytes_eq k (codes "any")) (any_of ws) _ l a.1) [
    | inl y ↦ by_word k (codes "any") ws l y.0 (any_of_is ws l y.1)
    | inr b ↦ elim (cond_some (bytes_eq k (codes "within")) (within_of ws) _ l b.1) [
      | inl y ↦ by_word k (codes "within") ws l y.0 (within_of_is ws l y.1)
      | inr c ↦ elim (cond_some (bytes_eq k (codes "bit")) (digit_of ws) _ l c.1) [
        | inl y ↦ by_word k (codes "bit") ws l y.0 (digit_of_is ws l y.1)
        | inr d ↦ let y = only_if_is (bytes_eq k (codes "choose")) (choose_of ws) l d.1 in by_word k (codes "choose") ws l y.0 (choose_of_is ws l y.1)
      ]
    ]
  ]
]

read_line_is : (ws : List Spelled) (l : Line) → read_line ws ≡ Some l → ws ≡ line_words l
read_line_is [] l h = cc h
read_line_is (k ∷ ws) l h = line_by_is k ws l h

read_line_reads : (l : Line) → read_line (line_words l) ≡ Some l
read_line_reads (all ls) = ap (λ o. bind o (λ ls. Some (all ls))) (literals_reads ls)
read_line_reads (any ls) = ap (λ o. bind o (λ ls. Some (any ls))) (literals_reads ls)
read_line_reads (within w lo hi) =
    number_then_reads (λ w. number_then (λ lo. number_then (λ hi. nothing_more (within w lo hi)))) w (numeral lo ∷ numeral hi ∷ [])
    ∙ number_then_reads (λ lo. number_then (λ hi. nothing_more (within w lo hi))) lo (numeral hi ∷ [])
    ∙ number_then_reads (λ hi. nothing_more (within w lo hi)) hi []
read_line_reads (digit w place) =
    number_then_reads (λ w. number_then (λ place. nothing_more (digit w place))) w (numeral place ∷ [])
    ∙ number_then_reads (λ place. nothing_more (digit w place)) place []
read_line_reads (choose cases other) = ap (λ o. bind o (λ k. Some (choose k.cases k.other))) (chain_reads cases other)

-- lines of the file
keyed_is : (k : Spelled) (ws : List Spelled) (n : ℕ) → keyed k ws ≡ Some n → ws ≡ k ∷ numeral n ∷ []
keyed_is k ws n h =
    let p = keyword_is k (number_then (λ n. nothing_more n)) ws n h in
    let q = number_then_is (λ n. nothing_more n) p.0 n p.2 in
    let t = nothing_more_is q.0 n q.1 q.3 in
    p.1 ∙ ap (λ z. k ∷ z) (q.2 ∙ ap (λ z. numeral q.0 ∷ z) t.0) ∙ ap (λ m. k ∷ numeral m ∷ []) t.1

one_number_is : (ws : List Spelled) (n : ℕ) → one_number ws ≡ Some n → ws ≡ numeral n ∷ []
one_number_is ws n h =
    let q = number_then_is (λ n. nothing_more n) ws n h in
    let t = nothing_more_is q.0 n q.1 q.3 in
    q.2 ∙ ap (λ z. numeral q.0 ∷ z) t.0 ∙ ap (λ m. numeral m ∷ []) t.1

pub one_name_is : (ws : List Spelled) (w : Spelled) → one_name ws ≡ Some w → (ws ≡ w ∷ []) × (is_name w ≡ true)
one_name_is [] w h = cc h
one_name_is (v ∷ ws) w h =
    let p = only_if_is (is_name v) (nothing_more v ws) w h in
    let t = nothing_more_is v w ws p.1 in
    (ap (λ z. z ∷ ws) t.1 ∙ ap (λ z. w ∷ z) t.0, ap is_name (sym t.1) ∙ p.0)

-- the line is due, and these are its words
abbrev Fits : Part → List Spelled → FileLine → Type 0
Fits p ws l = IsTrue (is_due_line p l) × (ws ≡ words_of l)

fits_at : (p : Part) (ws : List Spelled) (k l : FileLine) → k ≡ l → IsTrue (is_due_line p k) → ws ≡ words_of k → Fits p ws l
fits_at p ws k l e d w = (subst (λ z. IsTrue (is_due_line p z)) e d, w ∙ ap words_of e)

keyed_fits : (p : Part) (k : Spelled) (f : ℕ → FileLine) (ws : List Spelled) (l : FileLine) → ((n : ℕ) → IsTrue (is_due_line p (f n))) → ((n : ℕ) → k ∷ numeral n ∷ [] ≡ words_of (f n)) → bind (keyed k ws) (λ n. Some (f n)) ≡ Some l → Fits p ws l
keyed_fits p k f ws l due words h =
    let q = bind_is (keyed k ws) (λ n. Some (f n)) l h in
    fits_at p ws (f q.0) l (some_is (f q.0) l q.2) (due q.0) (keyed_is k ws q.0 q.1 ∙ words q.0)

name_fits : (p : Part) (f : Spelled → FileLine) (ws : List Spelled) (l : FileLine) → ((n : Spelled) → is_name n ≡ true → IsTrue (is_due_line p (f n))) → ((n : Spelled) → n ∷ [] ≡ words_of (f n)) → bind (one_name ws) (λ n. Some (f n)) ≡ Some l → Fits p ws l
name_fits p f ws l due words h =
    let q = bind_is (one_name ws) (λ n. Some (f n)) l h in
    let r = one_name_is ws q.0 q.1 in
    fits_at p ws (f q.0) l (some_is (f q.0) l q.2) (due q.0 r.1) (r.0 ∙ words q.0)

pub read_is : (p : Part) (ws : List Spelled) (l : FileLine) → read p ws ≡ Some l → Fits p ws l
read_is head_due ws l h =
    let p = keyword_is (codes "argos-eq") (keyword (codes "1") (nothing_more head)) ws l h in
    let q = keyword_is (codes "1") (nothing_more head) p.0 l p.2 in
    let t = nothing_more_is head l q.0 q.2 in
    fits_at head_due ws head l t.1 refl (p.1 ∙ ap (λ z. codes "argos-eq" ∷ z) (q.1 ∙ ap (λ z. codes "1" ∷ z) t.0))
read_is inputs_due ws l h = keyed_fits inputs_due (codes "inputs") input_count ws l (λ n. refl) (λ n. refl) h
read_is (input_name_due k) ws l h = name_fits (input_name_due k) input_name ws l (λ n e. e) (λ n. refl) h
read_is outputs_due ws l h = keyed_fits outputs_due (codes "outputs") output_count ws l (λ n. refl) (λ n. refl) h
read_is (output_name_due k) ws l h = name_fits (output_name_due k) output_name ws l (λ n e. e) (λ n. refl) h
read_is registers_due ws l h = keyed_fits registers_due (codes "registers") register_count ws l (λ n. refl) (λ n. refl) h
read_is (code_due k) ws l h =
    let q = bind_is (one_number ws) (λ n. Some (a_code n)) l h in
    fits_at (code_due k) ws (a_code q.0) l (some_is (a_code q.0) l q.2) refl (one_number_is ws q.0 q.1)
read_is lines_due ws l h = keyed_fits lines_due (codes "lines") line_count ws l (λ n. refl) (λ n. refl) h
read_is (line_due k) ws l h =
    let p = bind_is (read_line ws) (λ l. Some (a_line l)) l h in
    fits_at (line_due k) ws (a_line p.0) l (some_is (a_line p.0) l p.2) refl (read_line_is ws p.0 p.1)
read_is (out_due k) ws l h = keyed_fits (out_due k) (codes "out") an_out ws l (λ n. refl) (λ n. refl) h
read_is (next_due k) ws l h = keyed_fits (next_due k) (codes "next") a_next ws l (λ n. refl) (λ n. refl) h
read_is end_due ws l h =
    let p = keyword_is (codes "end") (nothing_more the_end) ws l h in
    let t = nothing_more_is the_end l p.0 p.2 in
    fits_at end_due ws the_end l t.1 refl (p.1 ∙ ap (λ z. codes "end" ∷ z) t.0)
read_is nothing_due ws l h = cc h

one_number_reads : (n : ℕ) → one_number (numeral n ∷ []) ≡ Some n
one_number_reads n = number_then_reads (λ n. nothing_more n) n []

named : (f : Spelled → FileLine) (w : Spelled) → is_name w ≡ true → bind (one_name (w ∷ [])) (λ n. Some (f n)) ≡ Some (f w)
named f w h = ap (λ o. bind o (λ n. Some (f n))) (only_if_true (is_name w) (Some w) h)

numbered : (f : ℕ → FileLine) (n : ℕ) → bind (one_number (numeral n ∷ [])) (λ n. Some (f n)) ≡ Some (f n)
numbered f n = ap (λ o. bind o (λ n. Some (f n))) (one_number_reads n)

pub read_reads : (p : Part) (l : FileLine) → IsTrue (is_due_line p l) → read p (words_of l) ≡ Some l
read_reads head_due head h = refl
read_reads inputs_due (input_count n) h = numbered input_count n
read_reads (input_name_due k) (input_name name) h = named input_name name h
read_reads outputs_due (output_count n) h = numbered output_count n
read_reads (output_name_due k) (output_name name) h = named output_name name h
read_reads registers_due (register_count n) h = numbered register_count n
read_reads (code_due k) (a_code c) h = numbered a_code c
read_reads lines_due (line_count n) h = numbered line_count n
read_reads (line_due k) (a_line l) h = ap (λ o. bind o (λ l. Some (a_line l))) (read_line_reads l)
read_reads (out_due k) (an_out b) h = numbered an_out b
read_reads (next_due k) (a_next w) h = numbered a_next w
read_reads end_due the_end h = refl
read_reads p l h = cc h
