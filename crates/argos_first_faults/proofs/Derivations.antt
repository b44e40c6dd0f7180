-- What the machine of due symbols takes to its end follows the right sides of the rules.
use Rattle.std.proofs.Common.{◌≡◌, ℕ, zero, suc, List, [], ◌∷◌, ◌++◌, Option, Some, None, Bool, true, false, ◌&&◌, refl, sym, ap, subst, ◌∙◌, ◌⊎◌, inl, inr, arith}
use Rattle.std.specs.Prelude.{◌≤◌, Ok, Err, if◌then◌else◌, not, nat_lt, ◌==◌}
use Rattle.std.proofs.lemmas.Slice.Eq.{bytes_eq-Decides}
use Rattle.std.proofs.lemmas.Bool.Decides.{nat_tests}
use Rattle.argos_base.specs.Spelling.{is_digits, is_free_word, is_name, number_of, has_leading_zero}
use Rattle.argos_base.proofs.Bools.{and_both, or_first_false, or_second_false, false_not}
use Rattle.argos_tokens.specs.Tokens.{Token}
use Rattle.argos_grammar.specs.Forms.{Mark, Numeral}
use Rattle.argos_grammar.specs.Grammar as grammar
use Rattle.argos_grammar.specs.Grammar.{Piece, ◌⨾◌, nothing}
use Rattle.argos_grammar.specs.DueSymbols.{Rule, Symbol, text, name, version, count, number, rule, option, repeat, sides, takes, at_first, can_begin, choose_side, look, take_symbol_within, take_symbol, may_end}
use Rattle.argos_grammar.specs.Faults.{LongName, Number, Version, TooDeep, Open, Standing, judge, after_taking, is_long_name, is_wrong_number, is_wrong_version, is_wrong_count, is_too_deep, open_behind}
use Rattle.argos_grammar.specs.Runs.{ended, outcome, after_judging}

-- one of these lists of symbols
abbrev pub AnyOf : (List Symbol → Type 0) → List (List Symbol) → Type 0
AnyOf P [] = ⊥
AnyOf P (ss ∷ more) = P ss ⊎ AnyOf P more

-- so many of these pieces, one after the other
abbrev pub Times : ℕ → Piece → Piece
Times zero P = nothing
Times (suc k) P = P ⨾ Times k P

-- the piece of a symbol, where each rule has this piece
abbrev pub One : (Rule → Piece) → Symbol → Piece
One R (text s) ts rest = grammar.spelled s ts rest
One R name ts rest = (m : Mark) × grammar.name m ts rest
One R version ts rest = (n : ℕ) × grammar.version n ts rest
One R count ts rest = (n : ℕ) × grammar.count n ts rest
One R number ts rest = (n : Numeral) × grammar.numeral n ts rest
One R (rule r) ts rest = R r ts rest
One R (option r) ts rest = (ts ≡ rest) ⊎ R r ts rest
One R (repeat r) ts rest = (k : ℕ) × Times k (R r) ts rest

abbrev pub AllOf : (Rule → Piece) → List Symbol → Piece
AllOf R [] = nothing
AllOf R (s ∷ ss) = One R s ⨾ AllOf R ss

-- the piece of a rule, where rules are nested at most so deep
abbrev pub Inside : ℕ → Rule → Piece
Inside zero r ts rest = ⊥
Inside (suc n) r ts rest = AnyOf (λ ss. AllOf (Inside n) ss ts rest) (sides r)

-- what is nested at most n deep is so at most n + 1 deep
any_up : (P Q : List Symbol → Type 0) → ((ss : List Symbol) → P ss → Q ss) → (sss : List (List Symbol)) → AnyOf P sss → AnyOf Q sss
any_up P Q f [] h = absurd h
any_up P Q f (ss ∷ more) (inl h) = inl (f ss h)
any_up P Q f (ss ∷ more) (inr h) = inr (any_up P Q f more h)

pub times_up : (P Q : Piece) → ((ts rest : List Token) → P ts rest → Q ts rest) → (k : ℕ) (ts rest : List Token) → Times k P ts rest → Times k Q ts rest
times_up P Q f zero ts rest h = h
times_up P Q f (suc k) ts rest (a, x, more) = (a, f ts a x, times_up P Q f k a rest more)

one_up : (R Q : Rule → Piece) → ((r : Rule) (ts rest : List Token) → R r ts rest → Q r ts rest) → (s : Symbol) (ts rest : List Token) → One R s ts rest → One Q s ts rest
one_up R Q f (text s) ts rest h = h
one_up R Q f name ts rest h = h
one_up R Q f version ts rest h = h
one_up R Q f count ts rest h = h
one_up R Q f number ts rest h = h
one_up R Q f (rule r) ts rest h = f r ts rest h
one_up R Q f (option r) ts rest (inl e) = inl e
one_up R Q f (option r) ts rest (inr h) = inr (f r ts rest h)
one_up R Q f (repeat r) ts rest (k, h) = (k, times_up (R r) (Q r) (f r) k ts rest h)

all_up : (R Q : Rule → Piece) → ((r : Rule) (ts rest : List Token) → R r ts rest → Q r ts rest) → (ss : List Symbol) (ts rest : List Token) → AllOf R ss ts rest → AllOf Q ss ts rest
all_up R Q f [] ts rest h = h
all_up R Q f (s ∷ ss) ts rest (a, x, more) = (a, one_up R Q f s ts a x, all_up R Q f ss a rest more)

deeper : (n : ℕ) (r : Rule) (ts rest : List Token) → Inside n r ts rest → Inside (suc n) r ts rest
deeper zero r ts rest h = absurd h
deeper (suc n) r ts rest h =
    any_up (λ ss. AllOf (Inside n) ss ts rest) (λ ss. AllOf (Inside (suc n)) ss ts rest) (λ ss x. all_up (Inside n) (Inside (suc n)) (λ q a b y. deeper n q a b y) ss ts rest x) (sides r) h

-- symbols and then others
split : (R : Rule → Piece) (ss due : List Symbol) (ts rest : List Token) → AllOf R (ss ++ due) ts rest → (AllOf R ss ⨾ AllOf R due) ts rest
split R [] due ts rest h = (ts, refl, h)
split R (s ∷ ss) due ts rest (a, x, more) = let r = split R ss due a rest more in (r.0, (a, x, r.1), r.2)

-- the tokens follow these symbols
abbrev pub Follows : List Symbol → Piece
Follows due ts rest = (n : ℕ) × AllOf (Inside n) due ts rest

-- a word, name or number that takes a token of which no row of faults holds
abbrev never : Rule → Piece
never r ts rest = ⊥

abbrev Leaf : Symbol → Piece
Leaf = One never

pub record IsRight (q : Symbol) (t : List ℕ) : Type 0 where
  pub no_long_name : is_long_name t ≡ false
  pub no_wrong_number : is_wrong_number t ≡ false
  pub no_wrong_version : is_wrong_version q t ≡ false
  pub no_wrong_count : is_wrong_count q t ≡ false

second_false : (a b : Bool) → a ≡ true → (a && b) ≡ false → b ≡ false
second_false true b e h = h
second_false false b e h = cc e

not_true : (a : Bool) → not a ≡ false → a ≡ true
not_true true h = refl
not_true false h = cc h

name_of : (t : List ℕ) → is_free_word t ≡ true → is_long_name t ≡ false → is_name t ≡ true
name_of t free short = let l = second_false (is_free_word t) _ free short in and_both (is_free_word t) _ free (grind (arith, nat_tests))

-- digits of which no row holds spell a number
numeral_of : (t : Token) (ts : List Token) → is_digits t.text ≡ true → is_wrong_number t.text ≡ false → grammar.numeral (record { number = number_of t.text; at = t.at }) (t ∷ ts) ts
numeral_of t ts d w =
    let right = second_false (is_digits t.text) _ d w in
    let least = or_first_false (nat_lt 65535 (number_of t.text)) _ right in
    let zero_less = or_second_false (nat_lt 65535 (number_of t.text)) _ right in
    ((and_both (is_digits t.text) _ d (false_not (has_leading_zero t.text) zero_less), refl), grind (arith, nat_tests), refl, refl)

is_one : (n : ℕ) → not (n == 1) ≡ false → n ≡ 1
is_one n h = let e = not_true (n == 1) h in grind (arith, nat_tests)

is_some : (n : ℕ) → (n == 0) ≡ false → 1 ≤ n
is_some n h = grind (arith, nat_tests)

leaf : (q : Symbol) (t : Token) (ts : List Token) → IsRight q t.text → takes q t.text ≡ true → Leaf q (t ∷ ts) ts
leaf (text s) t ts r h = ((bytes_eq-Decides t.text s).0 h, refl)
leaf name t ts r h = (record { name = t.text; at = t.at }, (name_of t.text h r.no_long_name, refl, refl, refl))
leaf version t ts r h = (number_of t.text, (is_one (number_of t.text) r.no_wrong_version, (t.at, numeral_of t ts h r.no_wrong_number)))
leaf count t ts r h = (number_of t.text, (is_some (number_of t.text) r.no_wrong_count, (t.at, numeral_of t ts h r.no_wrong_number)))
leaf number t ts r h = (record { number = number_of t.text; at = t.at }, numeral_of t ts h r.no_wrong_number)
leaf (rule r) t ts x h = cc h
leaf (option r) t ts x h = cc h
leaf (repeat r) t ts x h = cc h

-- a due symbol that takes the token itself
abbrev by_itself : Symbol → List Symbol → Option (Symbol × List Symbol)
by_itself s due = Some (s, due)

pub record Direct (s q : Symbol) (due more : List Symbol) (t : List ℕ) : Type 0 where
  pub taken : takes s t ≡ true
  pub same : s ≡ q
  pub behind : due ≡ more

direct : (s q : Symbol) (due more : List Symbol) (t : List ℕ) (b : Bool) → takes s t ≡ b → (if b then by_itself s due else None) ≡ Some (q, more) → Direct s q due more t
direct s q due more t true e h =
    let x : Symbol × List Symbol = (s, due) in
    let y : Symbol × List Symbol = (q, more) in
    let both : x ≡ y = cc h in
    record { taken = e; same = ap (λ z. z.0) both; behind = ap (λ z. z.1) both }
direct s q due more t false e h = cc h

-- the first right side that can begin with the token, and what is due behind it
abbrev Chosen : List (List Symbol) → List Symbol → Piece
Chosen sss due ts rest = (n : ℕ) × (a : List Token) × AnyOf (λ ss. AllOf (Inside n) ss ts a) sss × AllOf (Inside n) due a rest

chosen : (again : List Symbol → Option (Symbol × List Symbol)) (q : Symbol) (more due : List Symbol) (t : List ℕ) (ts rest : List Token)
    → ((ss : List Symbol) → again ss ≡ Some (q, more) → Follows ss ts rest)
    → (sss : List (List Symbol)) → choose_side again sss due t ≡ Some (q, more) → Chosen sss due ts rest
chosen again q more due t ts rest f [] h = cc h
chosen again q more due t ts rest f (ss ∷ sss) h =
    elim (at_first (can_begin t) ss) as (λ b. (if b then again (ss ++ due) else choose_side again sss due t) ≡ Some (q, more) → Chosen (ss ∷ sss) due ts rest) [
      | true ↦ λ g. let p = f (ss ++ due) g in let s = split (Inside p.0) ss due ts rest p.1 in (p.0, s.0, inl s.1, s.2)
      | false ↦ λ g. let r = chosen again q more due t ts rest f sss g in (r.0, r.1, inr r.2, r.3)
    ] h

-- The symbol q takes the token, and then these are due; where a rule or a content comes in, this follows of what is looked at again.
abbrev Looked : (List Symbol → Option (Symbol × List Symbol)) → Symbol → List Symbol → Token → List Token → List Token → List Symbol → Type 0
Looked again q more t ts rest due = look again due t.text ≡ Some (q, more) → Follows due (t ∷ ts) rest

leaf_first : (s q : Symbol) (due more : List Symbol) (t : Token) (ts rest : List Token) → (takes q t.text ≡ true → Leaf q (t ∷ ts) ts) → Follows more ts rest
    → (if takes s t.text then by_itself s due else None) ≡ Some (q, more) → Leaf s (t ∷ ts) ts × Follows due ts rest
leaf_first s q due more t ts rest l behind h =
    let d = direct s q due more t.text (takes s t.text) refl h in
    (subst (λ x. Leaf x (t ∷ ts) ts) (sym d.same) (l (subst (λ x. takes x t.text ≡ true) d.same d.taken)), subst (λ x. Follows x ts rest) (sym d.behind) behind)

looked : (again : List Symbol → Option (Symbol × List Symbol)) (q : Symbol) (more : List Symbol) (t : Token) (ts rest : List Token)
    → ((ss : List Symbol) → again ss ≡ Some (q, more) → Follows ss (t ∷ ts) rest) → (takes q t.text ≡ true → Leaf q (t ∷ ts) ts) → Follows more ts rest
    → (due : List Symbol) → Looked again q more t ts rest due
looked again q more t ts rest f l behind [] h = cc h
looked again q more t ts rest f l behind (rule r ∷ due) h =
    let c = chosen again q more due t.text (t ∷ ts) rest f (sides r) h in
    (suc c.0, (c.1, c.2, all_up (Inside c.0) (Inside (suc c.0)) (deeper c.0) due c.1 rest c.3))
looked again q more t ts rest f l behind (option r ∷ due) h =
    elim (can_begin t.text (rule r)) as (λ b. (if b then again (rule r ∷ due) else look again due t.text) ≡ Some (q, more) → Follows (option r ∷ due) (t ∷ ts) rest) [
      | true ↦ λ g. let p = f (rule r ∷ due) g in (p.0, (p.1.0, inr p.1.1, p.1.2))
      | false ↦ λ g. let p = looked again q more t ts rest f l behind due g in (p.0, (t ∷ ts, inl refl, p.1))
    ] h
looked again q more t ts rest f l behind (repeat r ∷ due) h =
    elim (can_begin t.text (rule r)) as (λ b. (if b then again (rule r ∷ repeat r ∷ due) else look again due t.text) ≡ Some (q, more) → Follows (repeat r ∷ due) (t ∷ ts) rest) [
      | true ↦ λ g. let p = f (rule r ∷ repeat r ∷ due) g in (p.0, (p.1.2.0, (suc p.1.2.1.0, (p.1.0, p.1.1, p.1.2.1.1)), p.1.2.2))
      | false ↦ λ g. let p = looked again q more t ts rest f l behind due g in (p.0, (t ∷ ts, (0, refl), p.1))
    ] h
looked again q more t ts rest f l behind (text s ∷ due) h = let x = leaf_first (text s) q due more t ts rest l behind h in (x.1.0, (ts, x.0, x.1.1))
looked again q more t ts rest f l behind (name ∷ due) h = let x = leaf_first name q due more t ts rest l behind h in (x.1.0, (ts, x.0, x.1.1))
looked again q more t ts rest f l behind (version ∷ due) h = let x = leaf_first version q due more t ts rest l behind h in (x.1.0, (ts, x.0, x.1.1))
looked again q more t ts rest f l behind (count ∷ due) h = let x = leaf_first count q due more t ts rest l behind h in (x.1.0, (ts, x.0, x.1.1))
looked again q more t ts rest f l behind (number ∷ due) h = let x = leaf_first number q due more t ts rest l behind h in (x.1.0, (ts, x.0, x.1.1))

within : (k : ℕ) (q : Symbol) (more : List Symbol) (t : Token) (ts rest : List Token) → (takes q t.text ≡ true → Leaf q (t ∷ ts) ts) → Follows more ts rest
    → (due : List Symbol) → take_symbol_within k due t.text ≡ Some (q, more) → Follows due (t ∷ ts) rest
within zero q more t ts rest l behind due h = cc h
within (suc k) q more t ts rest l behind due h = looked (λ ss. take_symbol_within k ss t.text) q more t ts rest (λ ss e. within k q more t ts rest l behind ss e) l behind due h

-- what is judged of a token that passes
abbrev standing : List Symbol → List Open → Standing
standing due os = record { due = due; open_now = os }

pub record Judged (due : List Symbol) (t : List ℕ) (next : Standing) : Type 0 where
  pub symbol : Symbol
  pub took : take_symbol due t ≡ Some (symbol, next.due)
  pub right : IsRight symbol t

judged_if : (v c d : Bool) (q : Symbol) (more due : List Symbol) (os : List Open) (t : List ℕ) (next : Standing) → is_wrong_version q t ≡ v → is_wrong_count q t ≡ c
    → is_long_name t ≡ false → is_wrong_number t ≡ false → take_symbol due t ≡ Some (q, more)
    → (if v then Err Version else (if c then Err Number else (if d then Err TooDeep else Ok (standing more (open_behind os t))))) ≡ Ok next → Judged due t next
judged_if true c d q more due os t next e f l n h g = cc g
judged_if false true d q more due os t next e f l n h g = cc g
judged_if false false true q more due os t next e f l n h g = cc g
judged_if false false false q more due os t next e f l n h g =
    let same : standing more (open_behind os t) ≡ next = cc g in
    record { symbol = q; took = h ∙ ap (λ s. Some (q, s.due)) same; right = record { no_long_name = l; no_wrong_number = n; no_wrong_version = e; no_wrong_count = f } }

judged_of : (l n : Bool) (x : Option (Symbol × List Symbol)) (due : List Symbol) (os : List Open) (t : List ℕ) (next : Standing) → is_long_name t ≡ l → is_wrong_number t ≡ n → take_symbol due t ≡ x
    → (if l then Err LongName else (if n then Err Number else after_taking os t x)) ≡ Ok next → Judged due t next
judged_of true n x due os t next e f h g = cc g
judged_of false true x due os t next e f h g = cc g
judged_of false false None due os t next e f h g = cc g
judged_of false false (Some p) due os t next e f h g = judged_if (is_wrong_version p.0 t) (is_wrong_count p.0 t) (is_too_deep os t) p.0 p.1 due os t next refl refl e f h g

-- so all tokens follow what was due
at_end : (due : List Symbol) → may_end due ≡ true → AllOf (Inside 0) due [] []
at_end [] h = refl
at_end (text s ∷ due) h = cc h
at_end (name ∷ due) h = cc h
at_end (version ∷ due) h = cc h
at_end (count ∷ due) h = cc h
at_end (number ∷ due) h = cc h
at_end (rule r ∷ due) h = cc h
at_end (option r ∷ due) h = ([], inl refl, at_end due h)
at_end (repeat r ∷ due) h = ([], (0, refl), at_end due h)

pub follows : (ts : List Token) (due : List Symbol) (os : List Open) → outcome due os ts ≡ ended true → Follows due ts []
unfolding outcome
follows [] due os h = (0, at_end due (cc h))
follows (t ∷ ts) due os h =
    elim (judge (standing due os) t.text) as (λ x. judge (standing due os) t.text ≡ x → after_judging t.at x (λ s. outcome s.due s.open_now ts) ≡ ended true → Follows due (t ∷ ts) []) [
      | Ok s ↦ λ e g.
          let j = judged_of (is_long_name t.text) (is_wrong_number t.text) (take_symbol due t.text) due os t.text s refl refl refl e in
          within 8 j.symbol s.due t ts [] (λ k. leaf j.symbol t ts j.right k) (follows ts s.due s.open_now g) due j.took
      | Err k ↦ λ e g. cc g
    ] refl h
