-- Sets of names that grow at their end, and aspects of their parts.
use Rattle.std.proofs.Common.{◌≡◌, List, [], ◌∷◌, ◌++◌, drop, map, refl, true, Bool, ℕ, Vec}
use Rattle.std.specs.Prelude.{codes}
use Rattle.std.specs.declared.alloc.Global.{Global}
use Rattle.argos_grammar.specs.Forms.{Mark, ComponentForm, AspectForm}
use Rattle.argos_tokens.specs.Tokens.{Token}
use Rattle.argos_grammar.specs.Runs.{begins_with}
use Rattle.argos_grammar.specs.Views.{marks_of, set_of}
use Rattle.argos_grammar.specs.Grammar as grammar
use Rattle.argos_grammar.specs.Grammar.{◌⨾◌}
use Rattle.argos_grammar.specs.declared.trees.Spot.{Spot}
use Rattle.argos_grammar.proofs.FirstWords.{first_spelled}
use Rattle.argos_grammar.proofs.Leaves.{settled_once}
use Rattle.argos_parser.proofs.Growing.{each_more}
use Rattle.argos_grammar.proofs.Steps.{aspect_steps}

pub set_made : (ns : List Mark) (ts a b rest : List Token) → grammar.word "{" ts a → grammar.optional grammar.names ns a b → grammar.word "}" b rest → grammar.set ns ts rest
set_made ns ts a b rest p q r = (a, p, (b, q, r))

pub sets_one : (s : Vec Spot Global) (ts rest : List Token) → grammar.set (marks_of s.items) ts rest → grammar.sets (map set_of (s ∷ [])) ts rest
sets_one s ts rest h = (rest, h, refl)

more_push : (ss : List (Vec Spot Global)) (s : Vec Spot Global) (ts us vs rest : List Token) → grammar.each (λ y. grammar.word "," ⨾ grammar.set y) (map set_of ss) ts us → grammar.word "," us vs → grammar.set (marks_of s.items) vs rest
    → grammar.each (λ y. grammar.word "," ⨾ grammar.set y) (map set_of (ss ++ s ∷ [])) ts rest
more_push [] s ts us vs rest h w k = each_more (λ y. grammar.word "," ⨾ grammar.set y) [] (set_of s) ts us rest h (vs, w, k)
more_push (r ∷ ss) s ts us vs rest h w k = (h.0, h.1, more_push ss s h.0 us vs rest h.2 w k)

pub sets_push : (ss : List (Vec Spot Global)) (s : Vec Spot Global) (ts us vs rest : List Token) → grammar.sets (map set_of ss) ts us → begins_with (codes ",") us ≡ true → vs ≡ drop 1 us → grammar.set (marks_of s.items) vs rest
    → grammar.sets (map set_of (ss ++ s ∷ [])) ts rest
sets_push [] s ts us vs rest h b d k = absurd h
sets_push (r ∷ ss) s ts us vs rest h b d k = (h.0, h.1, more_push ss s h.0 us vs rest h.2 (first_spelled (codes ",") us vs b d) k)

pub optional_sets : (ss : List (List Mark)) (ts rest : List Token) → grammar.sets ss ts rest → grammar.optional grammar.sets ss ts rest
optional_sets [] ts rest h = absurd h
optional_sets (s ∷ ss) ts rest h = h

pub onset_true : (ts rest : List Token) → begins_with (codes "toCurrent") ts ≡ true → rest ≡ drop 1 ts → grammar.onset true ts rest
onset_true ts rest b d = first_spelled (codes "toCurrent") ts rest b d

pub trace_made : (ss : List (List Mark)) (ts a b c rest : List Token) → grammar.word "[" ts a → grammar.optional grammar.sets ss a b → grammar.word "]" b c → grammar.word ";" c rest → grammar.trace ss ts rest
trace_made ss ts a b c rest p q r s = (a, p, (b, q, (c, r, s)))

pub advice_made : (outs : List Mark) (current : Bool) (ts a b rest : List Token) → grammar.word "advice" ts a → grammar.emitted outs a b → grammar.onset current b rest → grammar.advice outs current ts rest
advice_made outs current ts a b rest p q r = (a, p, (b, q, r))

pub observer_made : (n : ℕ) (cs : List ComponentForm) (ts a b c rest : List Token) → grammar.word "larissa" ts a → grammar.version n a b → grammar.word ";" b c → grammar.components cs c rest → grammar.observer n cs ts rest
observer_made n cs ts a b c rest p q r s = (a, p, (b, q, (c, r, s)))

pub aspect_made : (x : AspectForm) (ts a b rest : List Token) → grammar.observer x.version x.components ts a → grammar.advice x.outs x.current a b → grammar.trace x.trace b rest → grammar.aspect x ts rest
aspect_made x ts a b rest p q r = (a, p, (b, q, r))

pub ruleset aspects = (aspect_steps, settled_once, set_made, sets_one, sets_push, optional_sets, onset_true, trace_made, advice_made, observer_made, aspect_made)
