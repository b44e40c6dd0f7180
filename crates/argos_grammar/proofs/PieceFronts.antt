-- With which words the pieces of the grammar begin, and with which they don't.
use Rattle.std.proofs.Common.{◌≡◌, List, [], ◌∷◌, Bool, true, false, refl, sym, subst}
use Rattle.std.specs.Prelude.{ℕ, codes, Option, Some, None}
use Prim.Native.String.{String}
use Rattle.argos_base.specs.Spelling.{is_one_of, is_name, reserved_words}
use Rattle.argos_tokens.specs.Tokens.{Token}
use Rattle.argos_grammar.specs.Forms.{Mark, TransForm, TimedForm, ComponentForm, Atom, in_state, inactive, same_code}
use Rattle.argos_grammar.specs.Runs.{begins_with}
use Rattle.argos_grammar.specs.Grammar.{Piece, word, name, names, effect, trans, timeout, component, onset, sets, side, one_atom}
use Rattle.argos_grammar.proofs.FirstWords.{IsClearOf, word_begins, word_clear, no_word, name_begins_no}

-- names and sets
pub names_begin_no : (s : List ℕ) (ms : List Mark) (ts rest : List Token) → is_name s ≡ false → names ms ts rest → begins_with s ts ≡ false
names_begin_no s [] ts rest e h = absurd h
names_begin_no s (m ∷ ms) ts rest e h = name_begins_no s m ts h.0 e h.1

pub sets_begin_no : (ss : List (List Mark)) (ts rest : List Token) → sets ss ts rest → begins_with (codes "]") ts ≡ false
sets_begin_no [] ts rest h = absurd h
sets_begin_no (ms ∷ ss) ts rest h = no_word "]" "{" ts h.1.0 refl h.1.1

-- what is emitted and the state that is entered, transitions and timeouts
pub effect_clear : (ws : List (List ℕ)) (outs : List Mark) (target : Mark) (ts rest : List Token) → is_one_of ws (codes "emit") ≡ false → is_one_of ws (codes "goto") ≡ false → effect outs target ts rest → IsClearOf ws ts
effect_clear ws [] target ts rest e g h = subst (IsClearOf ws) (sym h.1) (word_clear ws "goto" h.0 h.2.0 g h.2.1)
effect_clear ws (m ∷ ms) target ts rest e g h = word_clear ws "emit" ts h.1.0 e h.1.1

pub trans_begins : (t : TransForm) (ts rest : List Token) → trans t ts rest → begins_with (codes "when") ts ≡ true
trans_begins t ts rest h = word_begins "when" ts h.0 h.1

pub timeout_clear : (t : Option TimedForm) (ts rest : List Token) → timeout t ts rest → IsClearOf (codes "when" ∷ []) rest → IsClearOf (codes "when" ∷ []) ts
timeout_clear None ts rest h c = subst (IsClearOf (codes "when" ∷ [])) (sym h) c
timeout_clear (Some t) ts rest h c = word_clear (codes "when" ∷ []) "after" ts h.1.0 refl h.1.1

-- components
pub component_begins : (c : ComponentForm) (ts rest : List Token) → component c ts rest → begins_with (codes "component") ts ≡ true
component_begins c ts rest h = word_begins "component" ts h.0 h.1

-- one of two words, as a side and an onset are
abbrev pub either : String → String → Bool → Piece
either v w true = word v
either v w false = word w

either_clear : (ws : List (List ℕ)) (v w : String) (b : Bool) (ts rest : List Token) → is_one_of ws (codes v) ≡ false → is_one_of ws (codes w) ≡ false → either v w b ts rest → IsClearOf ws ts
either_clear ws v w true ts rest e f h = word_clear ws v ts rest e h
either_clear ws v w false ts rest e f h = word_clear ws w ts rest f h

pub onset_clear : (ws : List (List ℕ)) (current : Bool) (ts rest : List Token) → is_one_of ws (codes "toCurrent") ≡ false → is_one_of ws (codes "toInit") ≡ false → onset current ts rest → IsClearOf ws ts
onset_clear ws current ts rest c i h = either_clear ws "toCurrent" "toInit" current ts rest c i h

-- the words with which a unit of a condition begins that is no atom
abbrev pub unit_words : List (List ℕ)
unit_words = codes "true" ∷ codes "false" ∷ codes "not" ∷ codes "(" ∷ []

-- no atom begins with one of them
pub name_clear : (m : Mark) (ts rest : List Token) → name m ts rest → IsClearOf unit_words ts
unfolding reserved_words
name_clear m ts rest h = (name_begins_no (codes "true") m ts rest refl h, (name_begins_no (codes "false") m ts rest refl h, (name_begins_no (codes "not") m ts rest refl h, (name_begins_no (codes "(") m ts rest refl h, tt))))

pub side_clear : (ws : List (List ℕ)) (left : Bool) (ts rest : List Token) → is_one_of ws (codes "lhs") ≡ false → is_one_of ws (codes "rhs") ≡ false → side left ts rest → IsClearOf ws ts
side_clear ws left ts rest l r h = either_clear ws "lhs" "rhs" left ts rest l r h

pub atom_clear : (x : Atom) (ts rest : List Token) → one_atom x ts rest → IsClearOf unit_words ts
atom_clear (in_state left n m e) ts rest h = side_clear unit_words left ts h.0 refl refl h.1
atom_clear (inactive left n) ts rest h = side_clear unit_words left ts h.0 refl refl h.1
atom_clear (same_code l r) ts rest h = word_clear unit_words "samecode" ts h.0 refl h.1
