use Rattle.std.proofs.Common.{◌∷◌, List, ◌∙◌, arith}
use Rattle.argos_tokens.specs.TokenViews.{tokens_of}
use Rattle.argos_grammar.specs.DueSymbols.{Symbol, w, version, rule, formula, cert}
use Rattle.argos_parser.proofs.Chains.{settle, moved}
use Rattle.argos_grammar.proofs.Steps.{cert_rule}
use Rattle.argos_parser.proofs.parser.Parser.cert.Goals as goal

-- what is due behind the version
abbrev relation_due : List Symbol → List Symbol
relation_due due = w "relation" ∷ rule formula ∷ w ";" ∷ due

pub returns-in_err-formula-clause-run : goal.returns-in_err-formula-clause-run
returns-in_err-formula-clause-run c = λ due os l s.
    let ts = tokens_of c.args.self.now.rest.now in
    let us = tokens_of c.expect.new.self.rest.now in
    let vs = tokens_of c.version.new.self.rest.now in
    let ws = tokens_of c.expect-2.new.self.rest.now in
    let p = cert_rule due os ts
    ∙ settle (w "bisim" ∷ version ∷ w ";" ∷ relation_due due) (version ∷ w ";" ∷ relation_due due) os ts us (c.in_ok-expect.ensures.run (version ∷ w ";" ∷ relation_due due) os) s
    ∙ settle (version ∷ w ";" ∷ relation_due due) (w ";" ∷ relation_due due) os us vs (c.in_ok-version.ensures.run (w ";" ∷ relation_due due) os) s
    ∙ settle (w ";" ∷ relation_due due) (relation_due due) os vs ws (c.in_ok-expect-2.ensures.run (relation_due due) os) s in
    let r = moved (rule cert ∷ due) (relation_due due) os os ts ws _ p (c.in_err-formula.ensures.run due os l s) in
    grind arith
