use Rattle.std.proofs.Common.{◌≡◌, ◌∷◌, ◌+◌, List, length, ap, ◌∙◌, refl, arith}
use Rattle.argos_tokens.specs.TokenViews.{tokens_of}
use Rattle.argos_grammar.specs.Faults.{bracket}
use Rattle.argos_grammar.specs.Runs.{outcome}
use Rattle.argos_grammar.specs.DueSymbols.{Symbol, w, name, rule, option, repeat, state, body, trans, timeout, process}
use Rattle.argos_parser.proofs.Chains.{settle, moved}
use Rattle.argos_grammar.proofs.Steps.{process_automaton, state_rule, state_out}
use Rattle.argos_parser.proofs.parser.Parser.+process.Goals as goal

abbrev states_due : List Symbol → List Symbol
states_due due = w "init" ∷ name ∷ w ";" ∷ rule state ∷ repeat state ∷ w "}" ∷ due

pub automaton-returns-in_err-expect-clause-run : goal.automaton-returns-in_err-expect-clause-run
automaton-returns-in_err-expect-clause-run t c = λ due os l s.
    let ts = tokens_of c.args.self.now.rest.now in
    let p = process_automaton due os ts c.requires.at in
    let r = moved (rule process ∷ due) (w "automaton" ∷ w "{" ∷ states_due due) os os ts ts _ p (c.in_err-expect.ensures.run (w "{" ∷ states_due due) os) in
    grind arith

pub automaton-returns-in_err-open-clause-run : goal.automaton-returns-in_err-open-clause-run
automaton-returns-in_err-open-clause-run t c = λ due os l s.
    let ts = tokens_of c.args.self.now.rest.now in
    let us = tokens_of c.expect.new.self.rest.now in
    let p = process_automaton due os ts c.requires.at ∙ settle (w "automaton" ∷ w "{" ∷ states_due due) (w "{" ∷ states_due due) os ts us (c.in_ok-expect.ensures.run (w "{" ∷ states_due due) os) s in
    let r = moved (rule process ∷ due) (w "{" ∷ states_due due) os os ts us _ p (c.in_err-open.ensures.run (states_due due) os l) in
    grind arith

pub automaton-returns-in_err-init-clause-run : goal.automaton-returns-in_err-init-clause-run
automaton-returns-in_err-init-clause-run t c = λ due os l s.
    let ts = tokens_of c.args.self.now.rest.now in
    let us = tokens_of c.expect.new.self.rest.now in
    let vs = tokens_of c.open.new.self.rest.now in
    let p = process_automaton due os ts c.requires.at ∙ settle (w "automaton" ∷ w "{" ∷ states_due due) (w "{" ∷ states_due due) os ts us (c.in_ok-expect.ensures.run (w "{" ∷ states_due due) os) s
    ∙ c.in_ok-open.ensures.run (states_due due) os l in
    let k : length (bracket ∷ os) ≡ c.args.depth + 1 = grind arith in
    let r = moved (rule process ∷ due) (states_due due) os (bracket ∷ os) ts vs _ p (c.in_err-init.ensures.run (w "}" ∷ due) (bracket ∷ os) k refl) in
    grind arith

pub automaton-returns-in_err-close-clause-run : goal.automaton-returns-in_err-close-clause-run
automaton-returns-in_err-close-clause-run t c = λ due os l s.
    let ts = tokens_of c.args.self.now.rest.now in
    let us = tokens_of c.expect.new.self.rest.now in
    let vs = tokens_of c.inside.new.self.rest.now in
    let k : length (bracket ∷ os) ≡ c.args.depth + 1 = grind arith in
    let p = process_automaton due os ts c.requires.at ∙ settle (w "automaton" ∷ w "{" ∷ states_due due) (w "{" ∷ states_due due) os ts us (c.in_ok-expect.ensures.run (w "{" ∷ states_due due) os) s
    ∙ c.in_ok-open.ensures.run (states_due due) os l ∙ c.in_ok-init.ensures.run (w "}" ∷ due) (bracket ∷ os) k refl in
    let r = moved (rule process ∷ due) (w "}" ∷ due) os (bracket ∷ os) ts vs _ p (c.in_err-close.ensures.run due os) in
    grind arith

pub automaton-returns-clause-run : goal.automaton-returns-clause-run
automaton-returns-clause-run t c = λ due os l s.
    let ts = tokens_of c.args.self.now.rest.now in
    let us = tokens_of c.expect.new.self.rest.now in
    let vs = tokens_of c.close.new.self.rest.now in
    let k : length (bracket ∷ os) ≡ c.args.depth + 1 = grind arith in
    process_automaton due os ts c.requires.at ∙ settle (w "automaton" ∷ w "{" ∷ states_due due) (w "{" ∷ states_due due) os ts us (c.in_ok-expect.ensures.run (w "{" ∷ states_due due) os) s
    ∙ c.in_ok-open.ensures.run (states_due due) os l ∙ c.in_ok-init.ensures.run (w "}" ∷ due) (bracket ∷ os) k refl
    ∙ c.in_ok-close.ensures.run due os ∙ ap (λ x. outcome due x vs) s

pub state-returns-clause-run : goal.state-returns-clause-run
state-returns-clause-run t c = λ due os l s.
    let ts = tokens_of c.args.self.now.rest.now in
    let us = tokens_of c.expect.new.self.rest.now in
    let vs = tokens_of c.name.new.self.rest.now in
    let inner : List Symbol = w "{" ∷ repeat trans ∷ option timeout ∷ w "}" ∷ due in
    state_rule due os ts
    ∙ settle (w "state" ∷ name ∷ option body ∷ inner) (name ∷ option body ∷ inner) os ts us (c.in_ok-expect.ensures.run (name ∷ option body ∷ inner) os) s
    ∙ settle (name ∷ option body ∷ inner) (option body ∷ inner) os us vs (c.in_ok-name.ensures.run (option body ∷ inner) os) s
    ∙ c.in_ok-body.ensures.run inner os l s ∙ c.in_ok-trans.ensures.run due os l s

pub states-returns-clause-run : goal.states-returns-clause-run
states-returns-clause-run t c = λ due os l s.
    let a = c.loop-states.invariant.run due os l s in
    let b = state_out due os (tokens_of c.loop-states.self.rest.now) in
    grind (arith, b)
