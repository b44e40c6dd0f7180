-- Pieces made of those that stand one after the other.
use Rattle.std.proofs.Common.{List, [], ◌∷◌, ◌++◌, map}
use Rattle.std.specs.Prelude.{ℕ}
use Rattle.argos_grammar.specs.Forms.{Mark, TransForm, TimedForm}
use Rattle.argos_tokens.specs.Tokens.{Token}
use Rattle.argos_grammar.specs.Views.{trans_of}
use Rattle.argos_grammar.specs.declared.trees.TransTree.{TransTree}
use Rattle.argos_grammar.specs.Grammar as grammar
use Rattle.argos_grammar.specs.Grammar.{◌⨾◌}
use Rattle.argos_parser.proofs.Growing.{growing, each_more}

pub effect_made : (outs : List Mark) (target : Mark) (ts a b c rest : List Token) → grammar.emitted outs ts a → grammar.word "goto" a b → grammar.name target b c → grammar.word ";" c rest → grammar.effect outs target ts rest
effect_made outs target ts a b c rest p q r s = (a, p, (b, q, (c, r, s)))

pub trans_made : (t : TransForm) (ts a b rest : List Token) → grammar.word "when" ts a → grammar.IsCondition grammar.name t.guard a b → grammar.effect t.outs t.target b rest → grammar.trans t ts rest
trans_made t ts a b rest p q r = (a, p, (b, q, r))

pub delay_made : (n : ℕ) (ts a b rest : List Token) → grammar.word "after" ts a → grammar.count n a b → grammar.word "of" b rest → grammar.delay n ts rest
delay_made n ts a b rest p q r = (a, p, (b, q, r))

pub timed_made : (t : TimedForm) (ts a b rest : List Token) → grammar.delay t.count ts a → grammar.name t.signal a b → grammar.effect t.outs t.target b rest → grammar.timed t ts rest
timed_made t ts a b rest p q r = (a, p, (b, q, r))

pub trans_push : (xs : List TransTree) (x : TransTree) (ts us rest : List Token) → grammar.each grammar.trans (map trans_of xs) ts us → grammar.trans (trans_of x) us rest → grammar.each grammar.trans (map trans_of (xs ++ x ∷ [])) ts rest
trans_push [] x ts us rest h k = each_more grammar.trans [] (trans_of x) ts us rest h k
trans_push (y ∷ xs) x ts us rest h k = (h.0, h.1, trans_push xs x h.0 us rest h.2 k)

pub interface_made : (xs ys : List Mark) (ts a b rest : List Token) → grammar.listed xs ts a → grammar.word "->" a b → grammar.listed ys b rest → grammar.interface xs ys ts rest
interface_made xs ys ts a b rest p q r = (a, p, (b, q, r))

pub ruleset pieces = (growing, effect_made, trans_made, delay_made, timed_made, trans_push, interface_made)
