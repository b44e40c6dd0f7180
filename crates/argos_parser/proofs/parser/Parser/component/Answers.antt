use Rattle.std.proofs.Common.{◌∷◌, List, ◌∙◌, arith}
use Rattle.argos_tokens.specs.TokenViews.{tokens_of}
use Rattle.argos_grammar.specs.DueSymbols.{Symbol, w, name, rule, listed, block, component}
use Rattle.argos_parser.proofs.Chains.{settle, moved}
use Rattle.argos_grammar.proofs.Steps.{component_rule}
use Rattle.argos_parser.proofs.parser.Parser.component.Goals as goal

-- what is due behind the name of a component
abbrev behind : List Symbol → List Symbol
behind due = listed (w "->" ∷ listed (rule block ∷ due))

pub returns-in_err-expect-clause-run : goal.returns-in_err-expect-clause-run
returns-in_err-expect-clause-run c = λ due os l s.
    let ts = tokens_of c.args.self.now.rest.now in
    let r = moved (rule component ∷ due) (w "component" ∷ name ∷ behind due) os os ts ts _ (component_rule due os ts) (c.in_err-expect.ensures.run (name ∷ behind due) os) in
    grind arith

pub returns-in_err-name-clause-run : goal.returns-in_err-name-clause-run
returns-in_err-name-clause-run c = λ due os l s.
    let ts = tokens_of c.args.self.now.rest.now in
    let us = tokens_of c.expect.new.self.rest.now in
    let p = component_rule due os ts ∙ settle (w "component" ∷ name ∷ behind due) (name ∷ behind due) os ts us (c.in_ok-expect.ensures.run (name ∷ behind due) os) s in
    let r = moved (rule component ∷ due) (name ∷ behind due) os os ts us _ p (c.in_err-name.ensures.run (behind due) os) in
    grind arith

pub returns-in_err-inputs-clause-run : goal.returns-in_err-inputs-clause-run
returns-in_err-inputs-clause-run c = λ due os l s.
    let ts = tokens_of c.args.self.now.rest.now in
    let us = tokens_of c.expect.new.self.rest.now in
    let vs = tokens_of c.name.new.self.rest.now in
    let p = component_rule due os ts ∙ settle (w "component" ∷ name ∷ behind due) (name ∷ behind due) os ts us (c.in_ok-expect.ensures.run (name ∷ behind due) os) s
    ∙ settle (name ∷ behind due) (behind due) os us vs (c.in_ok-name.ensures.run (behind due) os) s in
    let r = moved (rule component ∷ due) (behind due) os os ts vs _ p (c.in_err-inputs.ensures.run (rule block ∷ due) os l s) in
    grind arith

pub returns-in_err-block-clause-run : goal.returns-in_err-block-clause-run
returns-in_err-block-clause-run c = λ due os l s.
    let ts = tokens_of c.args.self.now.rest.now in
    let us = tokens_of c.expect.new.self.rest.now in
    let vs = tokens_of c.name.new.self.rest.now in
    let ws = tokens_of c.interface.new.self.rest.now in
    let p = component_rule due os ts ∙ settle (w "component" ∷ name ∷ behind due) (name ∷ behind due) os ts us (c.in_ok-expect.ensures.run (name ∷ behind due) os) s
    ∙ settle (name ∷ behind due) (behind due) os us vs (c.in_ok-name.ensures.run (behind due) os) s ∙ c.in_ok-inputs.ensures.run (rule block ∷ due) os l s in
    let r = moved (rule component ∷ due) (rule block ∷ due) os os ts ws _ p (c.in_err-block.ensures.run due os l s) in
    grind arith

pub returns-clause-tree : goal.returns-clause-tree
returns-clause-tree c = (
  tokens_of c.expect.new.self.rest.now,
  c.in_ok-expect.ensures.token,
  (
    tokens_of c.name.new.self.rest.now,
    c.in_ok-name.ensures.token,
    (tokens_of c.interface.new.self.rest.now, c.in_ok-inputs.ensures.tree, c.in_ok-block.ensures.tree),
  ),
)

pub returns-clause-run : goal.returns-clause-run
returns-clause-run c = λ due os l s.
    let ts = tokens_of c.args.self.now.rest.now in
    let us = tokens_of c.expect.new.self.rest.now in
    let vs = tokens_of c.name.new.self.rest.now in
    component_rule due os ts ∙ settle (w "component" ∷ name ∷ behind due) (name ∷ behind due) os ts us (c.in_ok-expect.ensures.run (name ∷ behind due) os) s
    ∙ settle (name ∷ behind due) (behind due) os us vs (c.in_ok-name.ensures.run (behind due) os) s ∙ c.in_ok-inputs.ensures.run (rule block ∷ due) os l s ∙ c.in_ok-block.ensures.run due os l s
