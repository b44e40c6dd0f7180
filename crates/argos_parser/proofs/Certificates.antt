-- Certificates of their parts.
use Rattle.std.proofs.Common.{List}
use Rattle.argos_grammar.specs.Forms.{Formula, Atom, CertForm}
use Rattle.argos_tokens.specs.Tokens.{Token}
use Rattle.argos_grammar.specs.Grammar as grammar
use Rattle.argos_grammar.proofs.Leaves.{settled_once}
use Rattle.argos_grammar.proofs.Steps.{cert_steps}

pub relation_made : (f : Formula Atom) (ts a b rest : List Token) → grammar.word "relation" ts a → grammar.IsCondition grammar.one_atom f a b → grammar.word ";" b rest → grammar.relation f ts rest
relation_made f ts a b rest p q r = (a, p, (b, q, r))

pub cert_made : (x : CertForm) (ts a b c rest : List Token) → grammar.word "bisim" ts a → grammar.version x.version a b → grammar.word ";" b c → grammar.relation x.formula c rest → grammar.cert x ts rest
cert_made x ts a b c rest p q r s = (a, p, (b, q, (c, r, s)))

pub ruleset certificates = (cert_steps, settled_once, relation_made, cert_made)
