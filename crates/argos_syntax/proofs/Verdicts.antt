-- What the answer on the tokens says of the text.
use Rattle.std.proofs.Common.{◌≡◌, ℕ, List, [], ◌∷◌, length, true, false, Option, Some, None, ◌∙◌, refl, sym, subst}
use Rattle.std.specs.Prelude.{Result, Ok, Err, IfOk, IfErr, IsErrAnd, MatchResult, IsUtf8}
use Rattle.std.specs.Str.{IsValidUpTo}
use Rattle.argos_tokens.specs.Tokens.{Token}
use Rattle.argos_tokens.specs.TokenViews.{tokens_of, AreTokens}
use Rattle.argos_tokens.specs.declared.token.Token as declared
use Rattle.argos_tokens.proofs.TokensOnce.{tokens_once, no_tokens_where_stuck}
use Rattle.argos_grammar.specs.DueSymbols.{Rule, rule}
use Rattle.argos_grammar.specs.Faults.{not_utf8, TooDeep}
use Rattle.argos_grammar.specs.Grammar.{Piece}
use Rattle.argos_grammar.specs.Runs.{outcome, ended}
use Rattle.argos_grammar.specs.Refusals.{Tells, kind_of}
use Rattle.argos_grammar.specs.Text.{IsShallow, IsTextOf}
use Rattle.argos_grammar.specs.declared.errors.ParseError.{ParseError}
use Rattle.argos_grammar.specs.declared.errors.ParseError.TheVariants as errors
use Rattle.argos_grammar.proofs.Outcomes.{fault_wrong, fault_end, fault_byte, shallow}
use Rattle.argos_parser.specs.inner.Answers.{Refuses}
use Rattle.argos_parser.specs.declared.parser.Stop.{Stop}
use Rattle.argos_parser.specs.declared.parser.Stop.TheVariants as stops
use Rattle.argos_syntax.specs.Parses.{report_of, judged}
use Rattle.std.proofs.lemmas.Grind.{common_steps}

tells_reported : (start : Rule) (bs : List ℕ) (ts : List Token) (stuck : Option ℕ) (e : Stop) → IsUtf8 bs → AreTokens bs ts stuck → Refuses (rule start ∷ []) [] ts e → Tells start bs (report_of (length bs) stuck e)
tells_reported start bs ts None stops.Ended u h r = fault_end start bs ts u h r
tells_reported start bs ts (Some at) stops.Ended u h r = fault_byte start bs ts at false u h r
tells_reported start bs ts None (stops.Wrong at kind) u h r = fault_wrong start bs ts None at (kind_of kind) u h r
tells_reported start bs ts (Some n) (stops.Wrong at kind) u h r = fault_wrong start bs ts (Some n) at (kind_of kind) u h r
tells_reported start bs ts None (stops.TooDeep at) u h r = fault_wrong start bs ts None at TooDeep u h r
tells_reported start bs ts (Some n) (stops.TooDeep at) u h r = fault_wrong start bs ts (Some n) at TooDeep u h r
tells_reported start bs ts None stops.OutOfMemory u h r = tt
tells_reported start bs ts (Some n) stops.OutOfMemory u h r = tt

pub tells_not_utf8 : (bs : List ℕ) (n : ℕ) → IsValidUpTo bs n → (start : Rule) → Tells start bs (errors.NotUtf8 n)
tells_not_utf8 bs n h start = not_utf8 h

-- a refusal handed on
pub tells_on : {T : Type 0} (start : Rule) (bs : List ℕ) (r : Result T ParseError) (e : ParseError) → IsErrAnd r (λ x. x ≡ e) → Tells start bs e → IfErr r (Tells start bs)
tells_on start bs (Ok t) e h k = tt
tells_on start bs (Err x) e h k = subst (Tells start bs) (sym h) k

-- Trees of this kind of text are seen by view, P is its grammar, and start its rule. The text is UTF-8, these are its tokens up to a byte that begins none, and this is the answer on them.
pub record IsAnswered {T F : Type 0} (view : T → F) (P : F → Piece) (start : Rule) (bs : List ℕ) (ts : List Token) (stuck : Option ℕ) (answer : Result T Stop) : Type 0 where
  pub utf8 : IsUtf8 bs
  pub tokens : AreTokens bs ts stuck
  pub tree : IfOk answer (λ t. P (view t) ts [])
  pub run : MatchResult answer (λ _. outcome (rule start ∷ []) [] ts ≡ ended true) (λ e. Refuses (rule start ∷ []) [] ts e)

-- the two laws of the grammar of this kind: the machine takes every text, and a text has one tree
pub record IsLawful {F : Type 0} (P : F → Piece) (start : Rule) : Type 0 where
  pub accepts : (x : F) (ts : List Token) → P x ts [] → IsShallow [] ts → outcome (rule start ∷ []) [] ts ≡ ended true
  pub once : (bs : List ℕ) (x y : F) → IsTextOf (P x) bs → IsTextOf (P y) bs → x ≡ y

-- what the contract says of the answer on the text
pub record IsRight {T F : Type 0} (view : T → F) (P : F → Piece) (start : Rule) (bs : List ℕ) (result : Result T ParseError) : Type 0 where
  pub text : IfOk result (λ t. IsTextOf (P (view t)) bs)
  pub fault : IfErr result (Tells start bs)
  pub exact : (x : F) → IsTextOf (P x) bs → MatchResult result (λ t. view t ≡ x) (λ e. e ≡ errors.OutOfMemory)

module _ {T F : Type 0} (view : T → F) (P : F → Piece) (start : Rule) (bs : List ℕ) (ts : List Token) where
  read_text : (t : T) → IsAnswered view P start bs ts None (Ok t) → IsTextOf (P (view t)) bs
  read_text t a = (ts, a.utf8, a.tokens, shallow ts (rule start ∷ []) [] true a.run, a.tree)

  -- a text with a tree has all its tokens, and they may end there
  taken : IsLawful P start → AreTokens bs ts None → (x : F) → IsTextOf (P x) bs → outcome (rule start ∷ []) [] ts ≡ ended true
  taken l tokens x h =
      let same : h.0 ≡ ts = tokens_once bs h.0 ts h.2 tokens in
      subst (λ us. outcome (rule start ∷ []) [] us ≡ ended true) same (l.accepts x h.0 h.4 h.3)

  -- where the tokens may end, only want of memory refuses them
  memory_alone : (e : Stop) → Refuses (rule start ∷ []) [] ts e → outcome (rule start ∷ []) [] ts ≡ ended true → report_of (length bs) None e ≡ errors.OutOfMemory
  memory_alone stops.Ended r o = let h : ended true ≡ ended false = sym o ∙ r in cc h
  memory_alone (stops.Wrong at kind) r o = cc (sym o ∙ r)
  memory_alone (stops.TooDeep at) r o = cc (sym o ∙ r)
  memory_alone stops.OutOfMemory r o = refl

  judged_right : IsLawful P start → (stuck : Option ℕ) (answer : Result T Stop) → IsAnswered view P start bs ts stuck answer → IsRight view P start bs (judged (length bs) stuck answer)
  judged_right l None (Ok t) a = record { text = read_text t a; fault = tt; exact = λ x h. l.once bs (view t) x (read_text t a) h }
  judged_right l (Some at) (Ok t) a = record { text = tt; fault = fault_byte start bs ts at true a.utf8 a.tokens a.run; exact = λ x h. absurd (no_tokens_where_stuck bs ts h.0 at a.tokens h.2) }
  judged_right l None (Err e) a = record { text = tt; fault = tells_reported start bs ts None e a.utf8 a.tokens a.run; exact = λ x h. memory_alone e a.run (taken l a.tokens x h) }
  judged_right l (Some at) (Err e) a = record { text = tt; fault = tells_reported start bs ts (Some at) e a.utf8 a.tokens a.run; exact = λ x h. absurd (no_tokens_where_stuck bs ts h.0 at a.tokens h.2) }

-- the same, with the tokens as the code holds them
pub right_answer : {T F : Type 0} (view : T → F) (P : F → Piece) (start : Rule) (bs : List ℕ) (items slice : List declared.Token) (stuck : Option ℕ) (answer : Result T Stop) (result : Result T ParseError)
    → ((x : F) (us : List Token) → P x us [] → IsShallow [] us → outcome (rule start ∷ []) [] us ≡ ended true) → ((cs : List ℕ) (x y : F) → IsTextOf (P x) cs → IsTextOf (P y) cs → x ≡ y)
    → IsUtf8 bs → AreTokens bs (tokens_of items) stuck → slice ≡ items → IfOk answer (λ t. P (view t) (tokens_of slice) [])
    → MatchResult answer (λ _. outcome (rule start ∷ []) [] (tokens_of slice) ≡ ended true) (λ e. Refuses (rule start ∷ []) [] (tokens_of slice) e)
    → result ≡ judged (length bs) stuck answer → IsRight view P start bs result
right_answer view P start bs items slice stuck answer result accepts once utf8 tokens same tree run judges =
    let read : AreTokens bs (tokens_of slice) stuck = subst (λ xs. AreTokens bs (tokens_of xs) stuck) (sym same) tokens in
    let lawful : IsLawful P start = record { accepts = accepts; once = once } in
    let answered : IsAnswered view P start bs (tokens_of slice) stuck answer = record { utf8 = utf8; tokens = read; tree = tree; run = run } in
    subst (IsRight view P start bs) (sym judges) (judged_right view P start bs (tokens_of slice) lawful stuck answer answered)

pub ruleset verdicts = (common_steps, tells_not_utf8)
