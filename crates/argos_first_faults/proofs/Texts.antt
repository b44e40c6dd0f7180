-- A text has a tree, or a first fault.
use Rattle.std.proofs.Common.{◌≡◌, List, [], ◌∷◌, Option, Some, None, true, false, length, refl, inl, inr}
use Rattle.std.specs.Prelude.{ℕ, IsUtf8}
use Rattle.argos_tokens.specs.Tokens.{Token}
use Rattle.argos_tokens.specs.TokenViews.{AreTokens}
use Rattle.argos_grammar.specs.DueSymbols.{Rule, rule, program, aspect, cert}
use Rattle.argos_grammar.specs.Faults.{Byte, End, NotUtf8, not_utf8}
use Rattle.argos_grammar.specs.Grammar as grammar
use Rattle.argos_grammar.specs.Grammar.{Piece}
use Rattle.argos_grammar.specs.Runs.{Outcome, ended, stopped, outcome}
use Rattle.argos_grammar.specs.Text.{IsTextOf}
use Rattle.argos_grammar.proofs.Outcomes.{shallow, fault_wrong, fault_end, fault_byte}
use Rattle.argos_first_faults.specs.Laws.{TreeOrFault, tree, fault, ProgramsHaveATreeOrAFault, AspectsHaveATreeOrAFault, CertificatesHaveATreeOrAFault}
use Rattle.argos_first_faults.proofs.Derivations.{Inside, follows}
use Rattle.argos_first_faults.proofs.Conditions.{Found, led}
use Rattle.argos_first_faults.proofs.Trees.{program_tree, aspect_tree, cert_tree}
use Rattle.argos_first_faults.proofs.Readings.{utf8_or_not, some_tokens}

module _ {T : Type 0} (P : T → Piece) (start : Rule) (trees : (n : ℕ) (ts rest : List Token) → Inside n start ts rest → Found P ts rest) where
  abbrev Given : List ℕ → Type 0
  Given bs = TreeOrFault (λ text t. IsTextOf (P t) text) start bs

  by_outcome : (bs : List ℕ) (ts : List Token) (stuck : Option ℕ) → IsUtf8 bs → AreTokens bs ts stuck → (o : Outcome) → outcome (rule start ∷ []) [] ts ≡ o → Given bs
  by_outcome bs ts stuck u h (stopped at kind) e = fault at kind (fault_wrong start bs ts stuck at kind u h e)
  by_outcome bs ts (Some at) u h (ended b) e = fault at Byte (fault_byte start bs ts at b u h e)
  by_outcome bs ts None u h (ended false) e = fault (length bs) End (fault_end start bs ts u h e)
  by_outcome bs ts None u h (ended true) e =
      let f = follows ts (rule start ∷ []) [] e in
      let t = trees f.0 ts f.1.0 f.1.1 in
      tree t.0 (ts, u, h, shallow ts (rule start ∷ []) [] true e, led (P t.0) f.1.2 t.1)

  pub tree_or_fault : (bs : List ℕ) → Given bs
  tree_or_fault bs = elim (utf8_or_not bs) [
    | inl u ↦ let k = some_tokens bs in by_outcome bs k.0 k.1 u k.2 (outcome (rule start ∷ []) [] k.0) refl
    | inr v ↦ fault v.0 NotUtf8 (not_utf8 v.1)
  ]

pub programs : ProgramsHaveATreeOrAFault
programs = tree_or_fault grammar.program program program_tree

pub aspects : AspectsHaveATreeOrAFault
aspects = tree_or_fault grammar.aspect aspect aspect_tree

pub certificates : CertificatesHaveATreeOrAFault
certificates = tree_or_fault grammar.cert cert cert_tree
