use Rattle.std.proofs.Common.{◌∷◌, List, ◌∙◌, arith}
use Rattle.argos_tokens.specs.TokenViews.{tokens_of}
use Rattle.argos_grammar.specs.DueSymbols.{Symbol, w, rule, option, emission, onset, sets, aspect}
use Rattle.argos_parser.proofs.Chains.{moved}
use Rattle.argos_grammar.proofs.Steps.{aspect_rule}
use Rattle.argos_parser.proofs.parser.Parser.aspect.Goals as goal

-- what is due behind the components, and behind the advice
abbrev trace_due : List Symbol → List Symbol
trace_due due = w "[" ∷ option sets ∷ w "]" ∷ w ";" ∷ due

abbrev advice_due : List Symbol → List Symbol
advice_due due = w "advice" ∷ option emission ∷ rule onset ∷ trace_due due

pub returns-in_err-outs-clause-run : goal.returns-in_err-outs-clause-run
returns-in_err-outs-clause-run c = λ due os l s.
    let ts = tokens_of c.args.self.now.rest.now in
    let us = tokens_of c.observer.new.self.rest.now in
    let p = aspect_rule due os ts ∙ c.in_ok-version.ensures.run (advice_due due) os l s in
    let r = moved (rule aspect ∷ due) (advice_due due) os os ts us _ p (c.in_err-outs.ensures.run (trace_due due) os s) in
    grind arith

pub returns-in_err-trace-clause-run : goal.returns-in_err-trace-clause-run
returns-in_err-trace-clause-run c = λ due os l s.
    let ts = tokens_of c.args.self.now.rest.now in
    let us = tokens_of c.advice.new.self.rest.now in
    let p = aspect_rule due os ts ∙ c.in_ok-version.ensures.run (advice_due due) os l s ∙ c.in_ok-outs.ensures.run (trace_due due) os s in
    let r = moved (rule aspect ∷ due) (trace_due due) os os ts us _ p (c.in_err-trace.ensures.run due os l s) in
    grind arith
