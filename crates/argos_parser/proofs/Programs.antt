-- Lists of components that grow at their end, and programs of their parts.
use Rattle.std.proofs.Common.{◌≡◌, List, [], ◌∷◌, ◌++◌, length, map, refl, true, arith}
use Rattle.argos_grammar.specs.Forms.{ComponentForm, ProgramForm}
use Rattle.argos_tokens.specs.Tokens.{Token}
use Rattle.argos_tokens.specs.TokenViews.{tokens_of}
use Rattle.argos_grammar.specs.Runs.{outcome, ended}
use Rattle.argos_parser.specs.inner.Answers.{Declines}
use Rattle.argos_grammar.specs.Views.{component_of}
use Rattle.argos_grammar.specs.Grammar as grammar
use Rattle.argos_tokens.specs.declared.token.Token as declared
use Rattle.argos_grammar.specs.declared.trees.ComponentTree.{ComponentTree}
use Rattle.argos_parser.proofs.Growing.{each_more}
use Rattle.argos_parser.proofs.Processes.{processes}

pub component_made : (x : ComponentForm) (ts a b c rest : List Token) → grammar.word "component" ts a → grammar.name x.name a b → grammar.interface x.inputs x.outputs b c → grammar.braced (grammar.processes x.block) c rest → grammar.component x ts rest
component_made x ts a b c rest p q r s = (a, p, (b, q, (c, r, s)))

pub components_one : (c : ComponentTree) (ts rest : List Token) → grammar.component (component_of c) ts rest → grammar.components (map component_of (c ∷ [])) ts rest
components_one c ts rest h = (rest, h, refl)

more_push : (cs : List ComponentTree) (c : ComponentTree) (ts us rest : List Token) → grammar.each grammar.component (map component_of cs) ts us → grammar.component (component_of c) us rest → grammar.each grammar.component (map component_of (cs ++ c ∷ [])) ts rest
more_push [] c ts us rest h k = each_more grammar.component [] (component_of c) ts us rest h k
more_push (d ∷ cs) c ts us rest h k = (h.0, h.1, more_push cs c h.0 us rest h.2 k)

pub components_push : (cs : List ComponentTree) (c : ComponentTree) (ts us rest : List Token) → grammar.components (map component_of cs) ts us → grammar.component (component_of c) us rest → grammar.components (map component_of (cs ++ c ∷ [])) ts rest
components_push [] c ts us rest h k = absurd h
components_push (d ∷ cs) c ts us rest h k = (h.0, h.1, more_push cs c h.0 us rest h.2 k)

pub program_made : (p : ProgramForm) (ts a b c rest : List Token) → grammar.word "argos" ts a → grammar.version p.version a b → grammar.word ";" b c → grammar.components p.components c rest → grammar.program p ts rest
program_made p ts a b c rest q r s u = (a, q, (b, r, (c, s, u)))

pub declines_more : (ts : List declared.Token) → (length ts ≡ 0 → ⊥) → Declines [] (tokens_of ts)
declines_more [] h = absurd (h refl)
declines_more (t ∷ ts) h = λ l n. refl

pub none_ahead : (ts : List declared.Token) → length ts ≡ 0 → tokens_of ts ≡ []
none_ahead [] h = refl
none_ahead (t ∷ ts) h = absurd (omega arith)

pub ended_well : (ts : List declared.Token) → length ts ≡ 0 → outcome [] [] (tokens_of ts) ≡ ended true
unfolding outcome
ended_well [] h = refl
ended_well (t ∷ ts) h = absurd (omega arith)

pub ruleset programs = (processes, component_made, components_one, components_push, program_made, declines_more, none_ahead, ended_well)
