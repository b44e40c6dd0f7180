-- What the bytes of a line say at a stage: what is said is spelt so, and each due line is read back.
use Rattle.std.proofs.Common.{◌≡◌, ℕ, List, ◌++◌, Bool, true, ◌&&◌, cond, Option, Some, IsTrue, length, inl, inr, refl, sym, ap, ◌∙◌, subst, arith}
use Rattle.std.specs.Prelude.{nat_eq, nat_le, nat_lt, codes, bytes_eq}
use Rattle.std.proofs.lemmas.Bool.Decides.{nat_tests}
use Rattle.argos_base.specs.Names.{Spelled}
use Rattle.argos_base.specs.Spelling.{is_name}
use Rattle.argos_base.proofs.Bools.{and_first, and_second, and_both, true_or_false}
use Rattle.eqn_core.specs.Equations.{Choice, Case}
use Rattle.line_format.specs.Numerals.{numeral}
use Rattle.line_format.proofs.Options.{bind, only_if, bind_is, only_if_is, only_if_true, some_is, bytes_same}
use Rattle.c_step.specs.CStep.{CStep, Assigned, may_read_literal, may_choose, may_case}
use Rattle.c_step.specs.CFile.{CLine, opening, input_comment, output_comment, array_sizes, init_head, init_code, step_head, bit_line, word_line, first_case, further_case, last_case, out_line, closing, bit_place, word_place, literal_then, choice_text, value_text, word_text, case_text, line_text, indexed, CPart, opening_due, inputs_due, outputs_due, init_due, codes_due, step_due, statements_due, cases_due, nothing_due, is_due_at, is_new_name, is_size}
use Rattle.c_step.specs.inner.Pieces.{behind, before, begins, last, taken, take_number, take_index}
use Rattle.c_step.specs.inner.LineReading.{Scope, scope_at, take_bit, take_literal, read_choice, read_value, read_bit, WordParts, CaseParts, word_parts, with_case, case_parts, read_word, read_case, read_out, read_statement, read_further, comment_name, read_comment, SizeParts, size_parts, read_sizes, CodeParts, code_parts, read_code, read_output, read_register, read_part}
use Rattle.c_step.proofs.PieceReads.{bind_reads, behind_is, behind_reads, before_is, before_reads, last_is, take_number_is, take_number_reads, take_index_is, take_index_reads, take_bit_is, take_bit_reads, take_literal_is, take_literal_reads}
use Rattle.c_step.proofs.LineReads.{read_choice_is, read_choice_reads, read_value_is, read_value_reads, either}
use Rattle.c_step.proofs.StayWithin.{Exist}

-- words
abbrev pub AreWordParts : CStep → Assigned → List ℕ → WordParts → Type 0
AreWordParts s a l w = (l ≡ word_text w.to w.pick) × IsTrue (nat_lt w.to s.words) × IsTrue (may_choose s a w.pick)

pub word_parts_is : (s : CStep) (a : Assigned) (l : List ℕ) (w : WordParts) → word_parts (scope_at s a) l ≡ Some w → AreWordParts s a l w
word_parts_is s a l w h =
    let sc : Scope = scope_at s a in
    let p = bind_is (take_index (codes "m->w[") sc.words l) (λ t. bind (behind (codes " = ") t.rest) (λ l. bind (read_choice sc l) (λ p. Some (record { to = t.value; pick = p })))) w h in
    let q = bind_is (behind (codes " = ") p.0.rest) (λ l. bind (read_choice sc l) (λ c. Some (record { to = p.0.value; pick = c }))) w p.2 in
    let r = bind_is (read_choice sc q.0) (λ c. Some (record { to = p.0.value; pick = c })) w q.2 in
    let n = take_index_is (codes "m->w[") sc.words l p.0 p.1 in
    let c = read_choice_is s a q.0 r.0 r.1 in
    let x : WordParts = record { to = p.0.value; pick = r.0 } in
    let made : AreWordParts s a l x = (n.0 ∙ ap (λ z. word_place p.0.value z) (behind_is (codes " = ") p.0.rest q.0 q.1 ∙ ap (λ z. codes " = " ++ z) c.0), n.1, c.1) in
    subst (AreWordParts s a l) (some_is x w r.2) made

pub word_parts_reads : (s : CStep) (a : Assigned) (k : ℕ) (c : Choice) → Exist s a → IsTrue (nat_lt k s.words) → IsTrue (may_choose s a c) → let w : WordParts = record { to = k; pick = c } in word_parts (scope_at s a) (word_text k c) ≡ Some w
word_parts_reads s a k c h e f =
    let sc : Scope = scope_at s a in
    let w : WordParts = record { to = k; pick = c } in
    bind_reads (take_index (codes "m->w[") sc.words (word_text k c)) (λ t. bind (behind (codes " = ") t.rest) (λ l. bind (read_choice sc l) (λ p. Some (record { to = t.value; pick = p })))) (taken k (codes " = " ++ choice_text c)) (Some w) (take_index_reads (codes "m->w[") sc.words k (codes " = " ++ choice_text c) e)
    (bind_reads (read_choice sc (choice_text c)) (λ p. Some (record { to = k; pick = p })) c (Some w) (read_choice_reads s a c h f) refl)

-- cases
abbrev pub AreCaseParts : CStep → Assigned → List ℕ → CaseParts → Type 0
AreCaseParts s a l w = (l ≡ case_text w.to w.case) × IsTrue (nat_lt w.to s.words) × IsTrue (may_case s a w.case)

pub case_parts_is : (s : CStep) (a : Assigned) (l : List ℕ) (w : CaseParts) → case_parts (scope_at s a) l ≡ Some w → AreCaseParts s a l w
case_parts_is s a l w h =
    let sc : Scope = scope_at s a in
    let p = bind_is (behind (codes "if (") l) (λ l. bind (take_literal sc l) (λ t. bind (behind (codes ") ") t.rest) (λ l. bind (word_parts sc l) (λ w. Some (with_case t.value w))))) w h in
    let q = bind_is (take_literal sc p.0) (λ t. bind (behind (codes ") ") t.rest) (λ l. bind (word_parts sc l) (λ w. Some (with_case t.value w)))) w p.2 in
    let r = bind_is (behind (codes ") ") q.0.rest) (λ l. bind (word_parts sc l) (λ w. Some (with_case q.0.value w))) w q.2 in
    let t = bind_is (word_parts sc r.0) (λ w. Some (with_case q.0.value w)) w r.2 in
    let x = take_literal_is sc p.0 q.0 q.1 in
    let y = word_parts_is s a r.0 t.0 t.1 in
    let made : AreCaseParts s a l (with_case q.0.value t.0) = (
      behind_is (codes "if (") l p.0 p.1 ∙ ap (λ z. codes "if (" ++ z) (x.0 ∙ ap (λ z. literal_then q.0.value z) (behind_is (codes ") ") q.0.rest r.0 r.1 ∙ ap (λ z. codes ") " ++ z) y.0)),
      y.1,
      and_both (may_read_literal a q.0.value) _ x.1 y.2,
    ) in
    subst (AreCaseParts s a l) (some_is (with_case q.0.value t.0) w t.2) made

pub case_parts_reads : (s : CStep) (a : Assigned) (k : ℕ) (c : Case) → Exist s a → IsTrue (nat_lt k s.words) → IsTrue (may_case s a c) → let w : CaseParts = record { to = k; case = c } in case_parts (scope_at s a) (case_text k c) ≡ Some w
case_parts_reads s a k c h e f =
    let sc : Scope = scope_at s a in
    let w : CaseParts = record { to = k; case = c } in
    let v : WordParts = record { to = k; pick = c.choice } in
    let x : List ℕ = codes ") " ++ word_text k c.choice in
    let when : IsTrue (may_read_literal a c.when) = and_first (may_read_literal a c.when) _ f in
    bind_reads (take_literal sc (literal_then c.when x)) (λ t. bind (behind (codes ") ") t.rest) (λ l. bind (word_parts sc l) (λ w. Some (with_case t.value w)))) (taken c.when x) (Some w) (take_literal_reads sc c.when x (h.bits c.when.bit when) when)
    (bind_reads (word_parts sc (word_text k c.choice)) (λ w. Some (with_case c.when w)) v (Some w) (word_parts_reads s a k c.choice h e (and_second (may_read_literal a c.when) _ f)) refl)

-- what is said where statements are due
abbrev pub IsSaid : CStep → Assigned → List ℕ → CLine → Type 0
IsSaid s a l c = (l ≡ line_text c) × IsTrue (is_due_at statements_due s a c)

pub read_bit_is : (s : CStep) (a : Assigned) (l : List ℕ) (c : CLine) → read_bit (scope_at s a) l ≡ Some c → IsSaid s a l c
read_bit_is s a l c h =
    let sc : Scope = scope_at s a in
    let p = bind_is (take_index (codes "m->b[") sc.bits l) (λ t. bind (behind (codes " = ") t.rest) (λ l. bind (read_value sc l) (λ v. Some (bit_line t.value v)))) c h in
    let q = bind_is (behind (codes " = ") p.0.rest) (λ l. bind (read_value sc l) (λ v. Some (bit_line p.0.value v))) c p.2 in
    let r = bind_is (read_value sc q.0) (λ v. Some (bit_line p.0.value v)) c q.2 in
    let n = take_index_is (codes "m->b[") sc.bits l p.0 p.1 in
    let v = read_value_is s a q.0 r.0 r.1 in
    let made : IsSaid s a l (bit_line p.0.value r.0) = (n.0 ∙ ap (λ z. bit_place p.0.value z) (behind_is (codes " = ") p.0.rest q.0 q.1 ∙ ap (λ z. codes " = " ++ z) v.0), and_both (nat_lt p.0.value s.bits) _ n.1 v.1) in
    subst (IsSaid s a l) (some_is (bit_line p.0.value r.0) c r.2) made

pub read_word_is : (s : CStep) (a : Assigned) (l : List ℕ) (c : CLine) → read_word (scope_at s a) word_line l ≡ Some c → IsSaid s a l c
read_word_is s a l c h =
    let p = bind_is (word_parts (scope_at s a) l) (λ w. Some (word_line w.to w.pick)) c h in
    let w = word_parts_is s a l p.0 p.1 in
    let made : IsSaid s a l (word_line p.0.to p.0.pick) = (w.0, and_both (nat_lt p.0.to s.words) _ w.1 (and_both true _ refl w.2)) in
    subst (IsSaid s a l) (some_is (word_line p.0.to p.0.pick) c p.2) made

pub read_case_is : (s : CStep) (a : Assigned) (l : List ℕ) (c : CLine) → read_case (scope_at s a) first_case l ≡ Some c → IsSaid s a l c
read_case_is s a l c h =
    let p = bind_is (case_parts (scope_at s a) l) (λ w. Some (first_case w.to w.case)) c h in
    let w = case_parts_is s a l p.0 p.1 in
    let made : IsSaid s a l (first_case p.0.to p.0.case) = (w.0, and_both (nat_lt p.0.to s.words) _ w.1 w.2) in
    subst (IsSaid s a l) (some_is (first_case p.0.to p.0.case) c p.2) made

pub read_out_is : (s : CStep) (a : Assigned) (l : List ℕ) (c : CLine) → read_out (scope_at s a) l ≡ Some c → IsSaid s a l c
read_out_is s a l c h =
    let sc : Scope = scope_at s a in
    let p = bind_is (take_index (codes "out[") sc.outputs l) (λ t. bind (behind (codes " = ") t.rest) (λ l. bind (take_bit sc l) (λ b. last (codes ";") (out_line t.value b.value) b.rest))) c h in
    let q = bind_is (behind (codes " = ") p.0.rest) (λ l. bind (take_bit sc l) (λ b. last (codes ";") (out_line p.0.value b.value) b.rest)) c p.2 in
    let r = bind_is (take_bit sc q.0) (λ b. last (codes ";") (out_line p.0.value b.value) b.rest) c q.2 in
    let n = take_index_is (codes "out[") sc.outputs l p.0 p.1 in
    let b = take_bit_is sc q.0 r.0 r.1 in
    let e = last_is (codes ";") (out_line p.0.value r.0.value) c r.0.rest r.2 in
    let made : IsSaid s a l (out_line p.0.value r.0.value) = (
      n.0 ∙ ap (λ z. indexed (codes "out[") p.0.value z) (behind_is (codes " = ") p.0.rest q.0 q.1 ∙ ap (λ z. codes " = " ++ z) (b.0 ∙ ap (λ z. bit_place r.0.value z) e.0)),
      and_both (nat_lt p.0.value (length s.names.outputs)) _ n.1 b.2,
    ) in
    subst (IsSaid s a l) e.1 made

abbrev IsText : List ℕ → CLine → Type 0
IsText l c = l ≡ line_text c

last_text_is : (t : List ℕ) (d c : CLine) (l : List ℕ) → t ≡ line_text d → last t d l ≡ Some c → IsText l c
last_text_is t d c l e h = let p = last_is t d c l h in p.0 ∙ e ∙ ap line_text p.1

read_statement_is : (s : CStep) (a : Assigned) (l : List ℕ) (c : CLine) → read_statement (scope_at s a) l ≡ Some c → IsText l c
read_statement_is s a l c h =
    let sc : Scope = scope_at s a in
    let x₄ : Option CLine = cond (begins (codes "out[") l) (read_out sc l) (last (codes "}") closing l) in
    let x₃ : Option CLine = cond (begins (codes "if (") l) (read_case sc first_case l) x₄ in
    let x₂ : Option CLine = cond (begins (codes "m->w[") l) (read_word sc word_line l) x₃ in
    either (begins (codes "m->b[") l) (read_bit sc l) x₂ c (IsText l c) h (λ h. (read_bit_is s a l c h).0)
    (λ h. either (begins (codes "m->w[") l) (read_word sc word_line l) x₃ c (IsText l c) h (λ h. (read_word_is s a l c h).0)
    (λ h. either (begins (codes "if (") l) (read_case sc first_case l) x₄ c (IsText l c) h (λ h. (read_case_is s a l c h).0)
    (λ h. either (begins (codes "out[") l) (read_out sc l) (last (codes "}") closing l) c (IsText l c) h (λ h. (read_out_is s a l c h).0) (last_text_is (codes "}") closing c l refl))))

read_further_is : (s : CStep) (a : Assigned) (l : List ℕ) (c : CLine) → read_further (scope_at s a) l ≡ Some c → IsText l c
read_further_is s a l c h =
    let sc : Scope = scope_at s a in
    let p = bind_is (behind (codes "else ") l) (λ l. cond (begins (codes "if (") l) (read_case sc further_case l) (read_word sc last_case l)) c h in
    behind_is (codes "else ") l p.0 p.1 ∙ either (begins (codes "if (") p.0) (read_case sc further_case p.0) (read_word sc last_case p.0) c (codes "else " ++ p.0 ≡ line_text c) p.2
    (λ h. let q = bind_is (case_parts sc p.0) (λ w. Some (further_case w.to w.case)) c h in ap (λ z. codes "else " ++ z) (case_parts_is s a p.0 q.0 q.1).0 ∙ ap line_text (some_is (further_case q.0.to q.0.case) c q.2))
    (λ h. let q = bind_is (word_parts sc p.0) (λ w. Some (last_case w.to w.pick)) c h in ap (λ z. codes "else " ++ z) (word_parts_is s a p.0 q.0 q.1).0 ∙ ap line_text (some_is (last_case q.0.to q.0.pick) c q.2))

-- the other lines
pub comment_name_is : (front l : List ℕ) (n : Spelled) → comment_name front l ≡ Some n → (l ≡ front ++ (n ++ codes " */")) × (is_name n ≡ true)
comment_name_is front l n h =
    let p = bind_is (behind front l) (λ l. bind (before (codes " */") l) (λ name. only_if (is_name name) (Some name))) n h in
    let q = bind_is (before (codes " */") p.0) (λ name. only_if (is_name name) (Some name)) n p.2 in
    let r = only_if_is (is_name q.0) (Some q.0) n q.2 in
    let e : q.0 ≡ n = some_is q.0 n r.1 in
    (behind_is front l p.0 p.1 ∙ ap (λ z. front ++ z) (before_is (codes " */") p.0 q.0 q.1 ∙ ap (λ z. z ++ codes " */") e), ap is_name (sym e) ∙ r.0)

comment_name_reads : (front : List ℕ) (n : Spelled) → is_name n ≡ true → comment_name front (front ++ (n ++ codes " */")) ≡ Some n
comment_name_reads front n h =
    bind_reads (behind front (front ++ (n ++ codes " */"))) (λ l. bind (before (codes " */") l) (λ name. only_if (is_name name) (Some name))) (n ++ codes " */") (Some n) (behind_reads front (n ++ codes " */"))
    (bind_reads (before (codes " */") (n ++ codes " */")) (λ name. only_if (is_name name) (Some name)) n (Some n) (before_reads (codes " */") n) (only_if_true (is_name n) (Some n) h))

read_comment_is : (front l : List ℕ) (say : Spelled → CLine) (c : CLine) → ((n : Spelled) → line_text (say n) ≡ front ++ (n ++ codes " */")) → read_comment front say l ≡ Some c → IsText l c
read_comment_is front l say c e h = let p = bind_is (comment_name front l) (λ n. Some (say n)) c h in (comment_name_is front l p.0 p.1).0 ∙ sym (e p.0) ∙ ap line_text (some_is (say p.0) c p.2)

pub size_parts_is : (l : List ℕ) (z : SizeParts) → size_parts l ≡ Some z → (l ≡ line_text (array_sizes z.words z.bits)) × IsTrue (nat_lt z.words 200000001) × IsTrue (nat_lt z.bits 200000001)
size_parts_is l z h =
    let p = bind_is (behind (codes "struct argos { unsigned int w[") l) (λ l. bind (take_number 200000001 l) (λ n. bind (behind (codes "]; unsigned int b[") n.rest) (λ l. bind (take_number 200000001 l) (λ m. last (codes "]; };") (record { words = n.value; bits = m.value }) m.rest)))) z h in
    let q = bind_is (take_number 200000001 p.0) (λ n. bind (behind (codes "]; unsigned int b[") n.rest) (λ l. bind (take_number 200000001 l) (λ m. last (codes "]; };") (record { words = n.value; bits = m.value }) m.rest))) z p.2 in
    let r = bind_is (behind (codes "]; unsigned int b[") q.0.rest) (λ l. bind (take_number 200000001 l) (λ m. last (codes "]; };") (record { words = q.0.value; bits = m.value }) m.rest)) z q.2 in
    let t = bind_is (take_number 200000001 r.0) (λ m. last (codes "]; };") (record { words = q.0.value; bits = m.value }) m.rest) z r.2 in
    let x : SizeParts = record { words = q.0.value; bits = t.0.value } in
    let u = last_is (codes "]; };") x z t.0.rest t.2 in
    let n = take_number_is 200000001 p.0 q.0 q.1 in
    let m = take_number_is 200000001 r.0 t.0 t.1 in
    let P : SizeParts → Type 0 = λ z. (l ≡ line_text (array_sizes z.words z.bits)) × IsTrue (nat_lt z.words 200000001) × IsTrue (nat_lt z.bits 200000001) in
    let made : P x = (
      behind_is (codes "struct argos { unsigned int w[") l p.0 p.1
          ∙ ap (λ z. codes "struct argos { unsigned int w[" ++ z) (n.0 ∙ ap (λ z. numeral q.0.value ++ z) (behind_is (codes "]; unsigned int b[") q.0.rest r.0 r.1 ∙ ap (λ z. codes "]; unsigned int b[" ++ z) (m.0 ∙ ap (λ z. numeral t.0.value ++ z) u.0))),
      n.1,
      m.1,
    ) in
    subst P u.1 made

size_parts_reads : (n m : ℕ) → IsTrue (nat_lt n 200000001) → IsTrue (nat_lt m 200000001) → let z : SizeParts = record { words = n; bits = m } in size_parts (line_text (array_sizes n m)) ≡ Some z
size_parts_reads n m h e =
    let z : SizeParts = record { words = n; bits = m } in
    let x : List ℕ = numeral m ++ codes "]; };" in
    bind_reads (take_number 200000001 (numeral n ++ (codes "]; unsigned int b[" ++ x))) (λ n. bind (behind (codes "]; unsigned int b[") n.rest) (λ l. bind (take_number 200000001 l) (λ m. last (codes "]; };") (record { words = n.value; bits = m.value }) m.rest))) (taken n (codes "]; unsigned int b[" ++ x)) (Some z) (take_number_reads 200000001 n (codes "]; unsigned int b[" ++ x) h refl)
    (bind_reads (take_number 200000001 x) (λ m. last (codes "]; };") (record { words = n; bits = m.value }) m.rest) (taken m (codes "]; };")) (Some z) (take_number_reads 200000001 m (codes "]; };") e refl) refl)

pub code_parts_is : (words : ℕ) (l : List ℕ) (c : CodeParts) → code_parts words l ≡ Some c → (l ≡ line_text (init_code c.register c.code)) × IsTrue (nat_lt c.register words) × IsTrue (nat_lt c.code 65536)
code_parts_is words l c h =
    let p = bind_is (take_index (codes "m->w[") words l) (λ t. bind (behind (codes " = ") t.rest) (λ l. bind (take_number 65536 l) (λ c. last (codes "u;") (record { register = t.value; code = c.value }) c.rest))) c h in
    let q = bind_is (behind (codes " = ") p.0.rest) (λ l. bind (take_number 65536 l) (λ c. last (codes "u;") (record { register = p.0.value; code = c.value }) c.rest)) c p.2 in
    let r = bind_is (take_number 65536 q.0) (λ c. last (codes "u;") (record { register = p.0.value; code = c.value }) c.rest) c q.2 in
    let x : CodeParts = record { register = p.0.value; code = r.0.value } in
    let u = last_is (codes "u;") x c r.0.rest r.2 in
    let n = take_index_is (codes "m->w[") words l p.0 p.1 in
    let m = take_number_is 65536 q.0 r.0 r.1 in
    let P : CodeParts → Type 0 = λ c. (l ≡ line_text (init_code c.register c.code)) × IsTrue (nat_lt c.register words) × IsTrue (nat_lt c.code 65536) in
    let made : P x = (n.0 ∙ ap (λ z. word_place p.0.value z) (behind_is (codes " = ") p.0.rest q.0 q.1 ∙ ap (λ z. codes " = " ++ z) (m.0 ∙ ap (λ z. numeral r.0.value ++ z) u.0)), n.1, m.1) in
    subst P u.1 made

code_parts_reads : (words k c : ℕ) → IsTrue (nat_lt k words) → IsTrue (nat_lt c 65536) → let z : CodeParts = record { register = k; code = c } in code_parts words (line_text (init_code k c)) ≡ Some z
code_parts_reads words k c h e =
    let z : CodeParts = record { register = k; code = c } in
    let x : List ℕ = codes " = " ++ (numeral c ++ codes "u;") in
    bind_reads (take_index (codes "m->w[") words (word_place k x)) (λ t. bind (behind (codes " = ") t.rest) (λ l. bind (take_number 65536 l) (λ c. last (codes "u;") (record { register = t.value; code = c.value }) c.rest))) (taken k x) (Some z) (take_index_reads (codes "m->w[") words k x h)
    (bind_reads (take_number 65536 (numeral c ++ codes "u;")) (λ c. last (codes "u;") (record { register = k; code = c.value }) c.rest) (taken c (codes "u;")) (Some z) (take_number_reads 65536 c (codes "u;") e refl) refl)

read_sizes_is : (l : List ℕ) (c : CLine) → read_sizes l ≡ Some c → IsText l c
read_sizes_is l c h = let p = bind_is (size_parts l) (λ z. Some (array_sizes z.words z.bits)) c h in (size_parts_is l p.0 p.1).0 ∙ ap line_text (some_is (array_sizes p.0.words p.0.bits) c p.2)

read_output_is : (l : List ℕ) (c : CLine) → read_output l ≡ Some c → IsText l c
read_output_is l c h = either (begins (codes "/* output ") l) (read_comment (codes "/* output ") output_comment l) (read_sizes l) c (IsText l c) h (read_comment_is (codes "/* output ") l output_comment c (λ n. refl)) (read_sizes_is l c)

read_register_is : (words : ℕ) (l : List ℕ) (c : CLine) → read_register words l ≡ Some c → IsText l c
read_register_is words l c h = elim (true_or_false (bytes_eq l (codes "}"))) [
  | inl y ↦
      let e : Some closing ≡ Some c = ap (λ b. cond b (Some closing) (read_code words l)) (sym y) ∙ h in
      bytes_same l (codes "}") y ∙ ap line_text (some_is closing c e)
  | inr y ↦
      let e : read_code words l ≡ Some c = ap (λ b. cond b (Some closing) (read_code words l)) (sym y) ∙ h in
      let p = bind_is (code_parts words l) (λ c. Some (init_code c.register c.code)) c e in
      (code_parts_is words l p.0 p.1).0 ∙ ap line_text (some_is (init_code p.0.register p.0.code) c p.2)
]

pub read_part_is : (p : CPart) (s : CStep) (a : Assigned) (l : List ℕ) (c : CLine) → read_part p s a l ≡ Some c → IsText l c
read_part_is opening_due s a l c h = last_text_is (codes "/* argos-c 1 */") opening c l refl h
read_part_is inputs_due s a l c h = either (begins (codes "/* input ") l) (read_comment (codes "/* input ") input_comment l) (read_output l) c (IsText l c) h (read_comment_is (codes "/* input ") l input_comment c (λ n. refl)) (read_output_is l c)
read_part_is outputs_due s a l c h = read_output_is l c h
read_part_is init_due s a l c h = last_text_is (codes "void argos_init(struct argos *m) {") init_head c l refl h
read_part_is codes_due s a l c h = read_register_is s.words l c h
read_part_is step_due s a l c h = last_text_is (codes "void argos_step(struct argos *m, const unsigned int *in, unsigned int *out) {") step_head c l refl h
read_part_is statements_due s a l c h = read_statement_is s a l c h
read_part_is (cases_due k cases) s a l c h = read_further_is s a l c h
read_part_is nothing_due s a l c h = cc h

-- due lines are read back, where what may be read exists
abbrev pub IsGood : CPart → CStep → Assigned → Type 0
IsGood statements_due s a = Exist s a
IsGood (cases_due k cases) s a = Exist s a × IsTrue (nat_lt k s.words)
IsGood _ s a = Unit {0}

new_is_name : (s : CStep) (name : Spelled) (b : Bool) → (is_new_name s name && b) ≡ true → is_name name ≡ true
new_is_name s name b h = and_first (is_name name) _ (and_first (is_new_name s name) _ h)

size_below : (n : ℕ) → IsTrue (is_size n) → IsTrue (nat_lt n 200000001)
size_below n h = by n (and_second (nat_le 1 n) _ h)
  where
    by : (n : ℕ) → IsTrue (nat_le n 200000000) → IsTrue (nat_lt n 200000001)
    by n h = grind (arith, nat_tests)

code_below : (n : ℕ) → IsTrue (nat_le n 65535) → IsTrue (nat_lt n 65536)
code_below n h = grind (arith, nat_tests)

outputs_read : (name : Spelled) → is_name name ≡ true → read_output (line_text (output_comment name)) ≡ Some (output_comment name)
outputs_read name h = bind_reads (comment_name (codes "/* output ") (line_text (output_comment name))) (λ n. Some (output_comment n)) name (Some (output_comment name)) (comment_name_reads (codes "/* output ") name h) refl

sizes_read : (n m : ℕ) → (is_size n && is_size m) ≡ true → read_output (line_text (array_sizes n m)) ≡ Some (array_sizes n m)
sizes_read n m h = bind_reads (size_parts (line_text (array_sizes n m))) (λ z. Some (array_sizes z.words z.bits)) (record { words = n; bits = m }) (Some (array_sizes n m)) (size_parts_reads n m (size_below n (and_first (is_size n) _ h)) (size_below m (and_second (is_size n) _ h))) refl

case_read : (s : CStep) (a : Assigned) (say : ℕ → Case → CLine) (k : ℕ) (c : Case) → Exist s a → IsTrue (nat_lt k s.words) → IsTrue (may_case s a c) → read_case (scope_at s a) say (case_text k c) ≡ Some (say k c)
case_read s a say k c g e f = bind_reads (case_parts (scope_at s a) (case_text k c)) (λ w. Some (say w.to w.case)) (record { to = k; case = c }) (Some (say k c)) (case_parts_reads s a k c g e f) refl

word_read : (s : CStep) (a : Assigned) (say : ℕ → Choice → CLine) (k : ℕ) (c : Choice) → Exist s a → IsTrue (nat_lt k s.words) → IsTrue (may_choose s a c) → read_word (scope_at s a) say (word_text k c) ≡ Some (say k c)
word_read s a say k c g e f = bind_reads (word_parts (scope_at s a) (word_text k c)) (λ w. Some (say w.to w.pick)) (record { to = k; pick = c }) (Some (say k c)) (word_parts_reads s a k c g e f) refl

same_number : (k j : ℕ) → nat_eq k j ≡ true → k ≡ j
same_number k j h = grind (arith, nat_tests)

same_below : (k j n : ℕ) → nat_eq k j ≡ true → IsTrue (nat_lt k n) → IsTrue (nat_lt j n)
same_below k j n h e = ap (λ i. nat_lt i n) (sym (same_number k j h)) ∙ e

pub read_part_reads : (p : CPart) (s : CStep) (a : Assigned) (c : CLine) → IsGood p s a → IsTrue (is_due_at p s a c) → read_part p s a (line_text c) ≡ Some c
read_part_reads opening_due s a opening g h = refl
read_part_reads inputs_due s a (input_comment name) g h = bind_reads (comment_name (codes "/* input ") (line_text (input_comment name))) (λ n. Some (input_comment n)) name (Some (input_comment name)) (comment_name_reads (codes "/* input ") name (new_is_name s name _ h)) refl
read_part_reads inputs_due s a (output_comment name) g h = outputs_read name (new_is_name s name _ h)
read_part_reads inputs_due s a (array_sizes n m) g h = sizes_read n m h
read_part_reads outputs_due s a (output_comment name) g h = outputs_read name (new_is_name s name _ h)
read_part_reads outputs_due s a (array_sizes n m) g h = sizes_read n m h
read_part_reads init_due s a init_head g h = refl
read_part_reads codes_due s a (init_code k c) g h =
    let rest = and_second (nat_eq k (length s.initial)) _ h in
    bind_reads (code_parts s.words (line_text (init_code k c))) (λ c. Some (init_code c.register c.code)) (record { register = k; code = c }) (Some (init_code k c)) (code_parts_reads s.words k c (and_first (nat_lt k s.words) _ rest) (code_below c (and_second (nat_lt k s.words) _ rest))) refl
read_part_reads codes_due s a closing g h = refl
read_part_reads step_due s a step_head g h = refl
read_part_reads statements_due s a (bit_line k v) g h =
    let sc : Scope = scope_at s a in
    let x : List ℕ = codes " = " ++ value_text v in
    bind_reads (take_index (codes "m->b[") sc.bits (bit_place k x)) (λ t. bind (behind (codes " = ") t.rest) (λ l. bind (read_value sc l) (λ v. Some (bit_line t.value v)))) (taken k x) (Some (bit_line k v)) (take_index_reads (codes "m->b[") sc.bits k x (and_first (nat_lt k s.bits) _ h))
    (bind_reads (read_value sc (value_text v)) (λ v. Some (bit_line k v)) v (Some (bit_line k v)) (read_value_reads s a v g (and_second (nat_lt k s.bits) _ h)) refl)
read_part_reads statements_due s a (word_line k p) g h = word_read s a word_line k p g (and_first (nat_lt k s.words) _ h) (and_second true _ (and_second (nat_lt k s.words) _ h))
read_part_reads statements_due s a (first_case k c) g h = case_read s a first_case k c g (and_first (nat_lt k s.words) _ h) (and_second (nat_lt k s.words) _ h)
read_part_reads statements_due s a (out_line j k) g h =
    let sc : Scope = scope_at s a in
    let x : List ℕ = codes " = " ++ bit_place k (codes ";") in
    let may : IsTrue (sc.has_bit k) = and_second (nat_lt j (length s.names.outputs)) _ h in
    bind_reads (take_index (codes "out[") sc.outputs (indexed (codes "out[") j x)) (λ t. bind (behind (codes " = ") t.rest) (λ l. bind (take_bit sc l) (λ b. last (codes ";") (out_line t.value b.value) b.rest))) (taken j x) (Some (out_line j k)) (take_index_reads (codes "out[") sc.outputs j x (and_first (nat_lt j (length s.names.outputs)) _ h))
    (bind_reads (take_bit sc (bit_place k (codes ";"))) (λ b. last (codes ";") (out_line j b.value) b.rest) (taken k (codes ";")) (Some (out_line j k)) (take_bit_reads sc k (codes ";") (g.bits k may) may) refl)
read_part_reads statements_due s a closing g h = refl
read_part_reads (cases_due k cases) s a (further_case j c) g h = case_read s a further_case j c g.0 (same_below k j s.words (and_first (nat_eq k j) _ h) g.1) (and_second (nat_eq k j) _ h)
read_part_reads (cases_due k cases) s a (last_case j p) g h = word_read s a last_case j p g.0 (same_below k j s.words (and_first (nat_eq k j) _ h) g.1) (and_second (nat_eq k j) _ h)
read_part_reads p s a c g h = cc h
