-- The tokens of certificates are taken.
use Rattle.std.proofs.Common.{◌≡◌, List, [], ◌∷◌, Bool, true, false, refl}
use Rattle.std.specs.Prelude.{codes, Option, Some, None}
use Rattle.argos_grammar.specs.Forms.{Mark, Numeral, Atom, in_state, inactive, same_code, CertForm}
use Rattle.argos_tokens.specs.Tokens.{Token}
use Rattle.argos_grammar.specs.Faults.{Open, without_negations}
use Rattle.argos_grammar.specs.Text.{IsShallow}
use Rattle.argos_grammar.specs.Runs.{outcome, ended, IsSettled}
use Rattle.argos_grammar.specs.DueSymbols.{number, rule, option, cert, formula, another_conjunct, conjunct, another_factor, factor, atom, side, claim, elapsed}
use Rattle.argos_grammar.specs.Grammar as grammar
use Rattle.argos_grammar.proofs.Steps.{factor_not, factor_true, factor_false, factor_open, factor_atom, atom_same, atom_side, side_left, side_right, claim_in, claim_inactive}
use Rattle.argos_grammar.proofs.Leaves.{settled_once}
use Rattle.argos_grammar.proofs.FirstWords.{IsClearOf, word_begins, word_clear, no_word}
use Rattle.argos_grammar.proofs.PieceFronts.{side_clear, atom_clear}
use Rattle.argos_grammar.proofs.AcceptsWords.{Took, ◌then◌, still, plain_word, word, a_name, a_number, a_version}
use Rattle.argos_grammar.proofs.AcceptsLists.{given, here, by_word, some_option, no_option, past_word}
use Rattle.argos_grammar.proofs.AcceptsConditions.{TakesConditions, after_unit, after_condition, condition_taken}
use Rattle.argos_grammar.proofs.AcceptsPrograms.{to_the_end}

-- what is said of one register
side_taken : (left : Bool) {os : List Open} (ts : List Token) {rest : List Token} → grammar.side left ts rest → Took (rule side ∷ []) os (without_negations os) ts rest
side_taken true {os} ts {rest} h = past_word "lhs" ts rest refl h (λ due b. side_left due os ts b) here
side_taken false {os} ts {rest} h = given (λ due. side_right due os ts (no_word "lhs" "rhs" ts rest refl h)) (plain_word "rhs" refl h)

elapsed_taken : (e : Option Numeral) {os : List Open} (ts : List Token) {rest : List Token} → IsSettled os → grammar.elapsed e ts rest → IsClearOf after_unit rest → Took (option elapsed ∷ []) os os ts rest
elapsed_taken None ts s h c = no_option elapsed refl c.0 h
elapsed_taken (Some n) ts s h c = some_option elapsed refl (word_begins "elapsed" ts h.0 h.1) (word "elapsed" refl s h.1 then a_number n s h.2)

claim_taken : (c : Option (Mark × Option Numeral)) {os : List Open} (ts : List Token) {rest : List Token} → IsSettled os → grammar.claim c ts rest → IsClearOf after_unit rest → Took (rule claim ∷ []) os os ts rest
claim_taken None {os} ts {rest} s h c = still s (past_word "inactive" ts rest refl h (λ due b. claim_inactive due os ts b) here)
claim_taken (Some x) {os} ts s h c =
    given (λ due. claim_in due os ts (no_word "inactive" "in" ts h.0 refl h.1)) (word "in" refl s h.1 then a_name x.0 s h.2.1 then elapsed_taken x.1 h.2.0 s h.2.2 c)

claimed_taken : (left : Bool) (n : Numeral) (x : Option (Mark × Option Numeral)) (os : List Open) (ts a b rest : List Token) → grammar.side left ts a → grammar.numeral n a b → grammar.claim x b rest → IsClearOf after_unit rest
    → Took (rule atom ∷ []) os (without_negations os) ts rest
claimed_taken left n x os ts a b rest p q r c =
    given (λ due. atom_side due os ts (side_clear (codes "samecode" ∷ []) left ts a refl refl p).0) (side_taken left ts p then a_number n (settled_once os) q then claim_taken x b (settled_once os) r c)

-- atoms
atom_taken : (x : Atom) (os : List Open) (ts rest : List Token) → grammar.one_atom x ts rest → IsClearOf after_unit rest → Took (rule atom ∷ []) os (without_negations os) ts rest
atom_taken (in_state left n m e) os ts rest h c = claimed_taken left n (Some (m, e)) os ts h.0 h.2.0 rest h.1 h.2.1 h.2.2 c
atom_taken (inactive left n) os ts rest h c = claimed_taken left n None os ts h.0 h.2.0 rest h.1 h.2.1 h.2.2 c
atom_taken (same_code l r) os ts rest h c =
    past_word "samecode" {qq = number ∷ number ∷ []} ts h.0 refl h.1 (λ due b. atom_same due os ts b) (a_number l (settled_once os) h.2.1 then a_number r (settled_once os) h.2.2)

factor_at_atom : (x : Atom) (os : List Open) (ts rest : List Token) → grammar.one_atom x ts rest → IsClearOf after_unit rest → Took (rule factor ∷ []) os (without_negations os) ts rest
factor_at_atom x os ts rest h c = let k = atom_clear x ts rest h in given (λ due. factor_atom due os ts k.1.1.0 k.0 k.1.0 k.1.1.1.0) (atom_taken x os ts rest h c)

formula_rules : TakesConditions grammar.one_atom formula another_conjunct conjunct another_factor factor
formula_rules = record {
  in_condition = refl;
  in_next_part = refl;
  in_part = refl;
  in_next_unit = refl;
  at_not = factor_not;
  at_true = factor_true;
  at_false = factor_false;
  at_open = factor_open;
  at_atom = factor_at_atom;
}

cert_taken : (x : CertForm) (ts rest : List Token) → grammar.cert x ts rest → Took (rule cert ∷ []) [] [] ts rest
cert_taken x ts rest (a, bisim, (b, one, (c, semicolon, (d, relation, (e, inner, last))))) =
    by_word cert refl (word "bisim" refl refl bisim then a_version x.version refl one then word ";" refl refl semicolon then word "relation" refl refl relation
    then condition_taken formula_rules [] refl inner (word_clear after_condition ";" e rest refl last) then word ";" refl refl last)

pub accepts_cert : (x : CertForm) (ts : List Token) → grammar.cert x ts [] → IsShallow [] ts → outcome (rule cert ∷ []) [] ts ≡ ended true
accepts_cert x ts h s = to_the_end (rule cert) ts (cert_taken x ts [] h) s
