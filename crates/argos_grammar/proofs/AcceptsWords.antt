-- Lists of tokens that due symbols take: words, names, numbers and brackets.
use Rattle.std.proofs.Common.{◌≡◌, ℕ, ◌<◌, List, [], ◌∷◌, ◌++◌, length, Bool, true, false, refl, sym, ap, ◌∙◌, subst, arith}
use Rattle.std.specs.Prelude.{codes, nat_lt, ◌&&◌, ◌||◌}
use Rattle.std.proofs.lemmas.Bool.Decides.{nat_tests}
use Prim.Native.String.{String}
use Rattle.argos_base.specs.Spelling.{is_digits}
use Rattle.argos_base.proofs.Bools.{and_first, and_second, or_left}
use Rattle.argos_grammar.specs.Forms.{Mark, Numeral}
use Rattle.argos_tokens.specs.Tokens.{Token}
use Rattle.argos_grammar.specs.Faults.{Open, bracket, negation, open_behind, without_negations, is_too_deep, is_opening, is_not}
use Rattle.argos_grammar.specs.Text.{IsShallow}
use Rattle.argos_grammar.specs.Runs.{outcome, IsSettled, is_short, is_plain, opens, closes}
use Rattle.argos_grammar.specs.DueSymbols.{Symbol, text, name, version, count, number}
use Rattle.argos_grammar.specs.Grammar as grammar
use Rattle.argos_grammar.proofs.Leaves.{name_opens_nothing, number_opens_nothing, plain_opened, plain_taken, opening_opened, opening_taken, closing_opened, closing_taken, not_taken, name_taken, number_taken, version_taken, count_taken}

-- These symbols take the tokens up to the rest, where none is nested too deep. So much is open before them, and so much behind.
pub record Took (ss : List Symbol) (before behind : List Open) (ts rest : List Token) : Type 0 where
  pub taken : IsShallow before ts → (due : List Symbol) → outcome (ss ++ due) before ts ≡ outcome due behind rest
  pub shallow : IsShallow before ts → IsShallow behind rest

-- one symbol and then others, and two symbols and then others
infixr 20 ◌then◌
pub ◌then◌ : {s : Symbol} {ss : List Symbol} {a b c : List Open} {ts us rest : List Token} → Took (s ∷ []) a b ts us → Took ss b c us rest → Took (s ∷ ss) a c ts rest
◌then◌ {ss} x y = record { taken = λ h due. x.taken h (ss ++ due) ∙ y.taken (x.shallow h) due; shallow = λ h. y.shallow (x.shallow h) }

pub two_then : {s q : Symbol} {ss : List Symbol} {a b c : List Open} {ts us rest : List Token} → Took (s ∷ q ∷ []) a b ts us → Took ss b c us rest → Took (s ∷ q ∷ ss) a c ts rest
two_then {ss} x y = record { taken = λ h due. x.taken h (ss ++ due) ∙ y.taken (x.shallow h) due; shallow = λ h. y.shallow (x.shallow h) }

-- where no unit of a `not` is open, nothing changes
pub still : {ss : List Symbol} {os : List Open} {ts rest : List Token} → IsSettled os → Took ss os (without_negations os) ts rest → Took ss os os ts rest
still {ss} {os} {ts} {rest} s x = subst (λ b. Took ss os b ts rest) s x

-- what a word that stands there opens or closes
pub record Stood (w : List ℕ) (os : List Open) (rest : List Token) : Type 0 where
  pub level : is_too_deep os w ≡ false
  pub behind : IsShallow (open_behind os w) rest

stood : (w : List ℕ) (os : List Open) (ts rest : List Token) → grammar.spelled w ts rest → IsShallow os ts → Stood w os rest
stood w os [] rest h s = absurd h
stood w os (t ∷ ts) rest h s = record {
  level = ap (is_too_deep os) (sym h.0) ∙ s.0;
  behind = subst (λ x. IsShallow (open_behind os x) rest) h.0 (subst (IsShallow (open_behind os t.text)) h.1 s.1);
}

level_below : (b : Bool) (os : List Open) → b ≡ true → (b && nat_lt 63 (length os)) ≡ false → length os < 64
level_below true os h e = grind (arith, nat_tests)
level_below false os h e = cc h

-- words, and those where nothing changes
pub plain_word : (w : String) {os : List Open} {ts rest : List Token} → is_plain (codes w) ≡ true → grammar.word w ts rest → Took (text (codes w) ∷ []) os (without_negations os) ts rest
plain_word w {os} {ts} {rest} p h = record {
  taken = λ s due. plain_taken (codes w) due os ts rest p h;
  shallow = λ s. subst (λ x. IsShallow x rest) (plain_opened (codes w) os p) (stood (codes w) os ts rest h s).behind;
}

pub word : (w : String) {os : List Open} {ts rest : List Token} → is_plain (codes w) ≡ true → IsSettled os → grammar.word w ts rest → Took (text (codes w) ∷ []) os os ts rest
word w p s h = still s (plain_word w p h)

-- brackets and `not`
pub opening : (w : String) {os : List Open} {ts rest : List Token} → opens (codes w) ≡ true → grammar.word w ts rest → Took (text (codes w) ∷ []) os (bracket ∷ os) ts rest
opening w {os} {ts} {rest} p h = record {
  taken = λ s due. opening_taken (codes w) due os ts rest p (level_below (is_opening (codes w) || is_not (codes w)) os (or_left (is_opening (codes w)) _ (and_second (is_short (codes w)) _ p)) (stood (codes w) os ts rest h s).level) h;
  shallow = λ s. subst (λ x. IsShallow x rest) (opening_opened (codes w) os p) (stood (codes w) os ts rest h s).behind;
}

pub closing : (w : String) {os : List Open} {ts rest : List Token} → closes (codes w) ≡ true → grammar.word w ts rest → Took (text (codes w) ∷ []) (bracket ∷ os) (without_negations os) ts rest
closing w {os} {ts} {rest} p h = record {
  taken = λ s due. closing_taken (codes w) due os ts rest p h;
  shallow = λ s. subst (λ x. IsShallow x rest) (closing_opened (codes w) os p) (stood (codes w) (bracket ∷ os) ts rest h s).behind;
}

pub closing_settled : (w : String) {os : List Open} {ts rest : List Token} → closes (codes w) ≡ true → IsSettled os → grammar.word w ts rest → Took (text (codes w) ∷ []) (bracket ∷ os) os ts rest
closing_settled w {os} {ts} {rest} p s h = subst (λ b. Took (text (codes w) ∷ []) (bracket ∷ os) b ts rest) s (closing w p h)

pub not_word : {os : List Open} {ts rest : List Token} → grammar.word "not" ts rest → Took (text (codes "not") ∷ []) os (negation ∷ os) ts rest
not_word {os} {ts} {rest} h = record {
  taken = λ s due. not_taken due os ts rest (level_below true os refl (stood (codes "not") os ts rest h s).level) h;
  shallow = λ s. (stood (codes "not") os ts rest h s).behind;
}

-- names
name_stood : (m : Mark) (os : List Open) (ts rest : List Token) → grammar.name m ts rest → IsShallow os ts → IsShallow (without_negations os) rest
name_stood m os [] rest h s = absurd h
name_stood m os (t ∷ ts) rest h s = subst (λ x. IsShallow x rest) (name_opens_nothing t.text os h.0).1 (subst (IsShallow (open_behind os t.text)) h.3 s.1)

pub any_name : (m : Mark) {os : List Open} {ts rest : List Token} → grammar.name m ts rest → Took (name ∷ []) os (without_negations os) ts rest
any_name m {os} {ts} {rest} h = record { taken = λ s due. name_taken m due os ts rest h; shallow = λ s. name_stood m os ts rest h s }

pub a_name : (m : Mark) {os : List Open} {ts rest : List Token} → IsSettled os → grammar.name m ts rest → Took (name ∷ []) os os ts rest
a_name m s h = still s (any_name m h)

-- numbers
number_stood : (n : Numeral) (os : List Open) (ts rest : List Token) → grammar.numeral n ts rest → IsShallow os ts → IsShallow (without_negations os) rest
number_stood n os [] rest h s = absurd h
number_stood n os (t ∷ ts) rest h s = subst (λ x. IsShallow x rest) (number_opens_nothing t.text os (and_first (is_digits t.text) _ h.0.0)).1 (subst (IsShallow (open_behind os t.text)) h.3 s.1)

pub a_number : (n : Numeral) {os : List Open} {ts rest : List Token} → IsSettled os → grammar.numeral n ts rest → Took (number ∷ []) os os ts rest
a_number n {os} {ts} {rest} k h = still k (record { taken = λ s due. number_taken n due os ts rest h; shallow = λ s. number_stood n os ts rest h s })

abbrev numeral_at : ℕ → ℕ → Numeral
numeral_at n at = record { number = n; at = at }

pub a_version : (n : ℕ) {os : List Open} {ts rest : List Token} → IsSettled os → grammar.version n ts rest → Took (version ∷ []) os os ts rest
a_version n {os} {ts} {rest} k h = still k (record {
  taken = λ s due. version_taken (numeral_at n h.1.0) due os ts rest h.0 h.1.1;
  shallow = λ s. number_stood (numeral_at n h.1.0) os ts rest h.1.1 s;
})

pub a_count : (n : ℕ) {os : List Open} {ts rest : List Token} → IsSettled os → grammar.count n ts rest → Took (count ∷ []) os os ts rest
a_count n {os} {ts} {rest} k h = still k (record {
  taken = λ s due. count_taken (numeral_at n h.1.0) due os ts rest h.0 h.1.1;
  shallow = λ s. number_stood (numeral_at n h.1.0) os ts rest h.1.1 s;
})
