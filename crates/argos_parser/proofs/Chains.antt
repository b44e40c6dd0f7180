-- One step of the machine after the other.
use Rattle.std.proofs.Common.{◌≡◌, List, ap, sym, ◌∙◌}
use Rattle.argos_tokens.specs.Tokens.{Token}
use Rattle.argos_grammar.specs.DueSymbols.{Symbol}
use Rattle.argos_grammar.specs.Faults.{Open, without_negations}
use Rattle.argos_grammar.specs.Runs.{outcome}
use Rattle.argos_parser.specs.inner.Answers.{Refuses, said}
use Rattle.argos_grammar.specs.Runs.{IsSettled}
use Rattle.argos_parser.specs.declared.parser.Stop.{Stop}

-- behind a token nothing has changed
pub settle : (a b : List Symbol) (os : List Open) (ts us : List Token) → outcome a os ts ≡ outcome b (without_negations os) us → IsSettled os → outcome a os ts ≡ outcome b os us
settle a b os ts us e s = e ∙ ap (λ x. outcome b x us) s

-- what is refused further on is refused
pub moved : (a b : List Symbol) (os os' : List Open) (ts us : List Token) (e : Stop) → outcome a os ts ≡ outcome b os' us → Refuses b os' us e → Refuses a os ts e
moved a b os os' ts us e p r = p ∙ r ∙ ap (said e) (sym p)
