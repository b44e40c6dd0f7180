-- Lists that grow at their end.
use Rattle.std.proofs.Common.{◌≡◌, List, [], ◌∷◌, ◌++◌, drop, refl, true}
use Rattle.std.specs.Prelude.{codes}
use Prim.Native.String.{String}
use Rattle.argos_grammar.specs.Forms.{Mark}
use Rattle.argos_tokens.specs.Tokens.{Token}
use Rattle.argos_grammar.specs.Runs.{begins_with}
use Rattle.argos_grammar.specs.Grammar as grammar
use Rattle.argos_grammar.specs.Grammar.{Piece, ◌⨾◌}
use Rattle.argos_grammar.proofs.FirstWords.{first_spelled}
use Rattle.argos_grammar.proofs.Leaves.{settled_once}
use Rattle.argos_grammar.proofs.Steps.{steps}

-- one more at the end
pub each_more : {A : Type 0} (P : A → Piece) (xs : List A) (x : A) (ts us rest : List Token) → grammar.each P xs ts us → P x us rest → grammar.each P (xs ++ x ∷ []) ts rest
each_more P [] x ts us rest e h = (rest, (let k : P x ts rest = rw e h in k), refl)
each_more P (y ∷ xs) x ts us rest e h = (e.0, e.1, each_more P xs x e.0 us rest e.2 h)

pub separated_more : {A : Type 0} (w : String) (P : A → Piece) (xs : List A) (x : A) (ts us vs rest : List Token) → grammar.separated w P xs ts us → grammar.word w us vs → P x vs rest
    → grammar.separated w P (xs ++ x ∷ []) ts rest
separated_more w P [] x ts us vs rest e k h = absurd e
separated_more w P (y ∷ xs) x ts us vs rest e k h = (e.0, e.1, each_more (λ z. grammar.word w ⨾ P z) xs x e.0 us rest e.2 (vs, k, h))

pub names_more : (xs : List Mark) (x : Mark) (ts us vs rest : List Token) → grammar.names xs ts us → begins_with (codes ",") us ≡ true → vs ≡ drop 1 us → grammar.name x vs rest
    → grammar.names (xs ++ x ∷ []) ts rest
names_more xs x ts us vs rest e k d h = separated_more "," grammar.name xs x ts us vs rest e (first_spelled (codes ",") us vs k d) h

pub names_one : (x : Mark) (ts rest : List Token) → grammar.name x ts rest → grammar.names (x ∷ []) ts rest
names_one x ts rest h = (rest, h, refl)

pub optional_names : (xs : List Mark) (ts rest : List Token) → grammar.names xs ts rest → grammar.optional grammar.names xs ts rest
optional_names [] ts rest h = absurd h
optional_names (x ∷ xs) ts rest h = h

pub listed_made : (xs : List Mark) (ts us vs rest : List Token) → grammar.word "(" ts us → grammar.optional grammar.names xs us vs → grammar.word ")" vs rest → grammar.listed xs ts rest
listed_made xs ts us vs rest o h c = (us, o, (vs, h, c))

pub emitted_some : (xs : List Mark) (ts us rest : List Token) → begins_with (codes "emit") ts ≡ true → us ≡ drop 1 ts → grammar.names xs us rest → grammar.emitted xs ts rest
emitted_some [] ts us rest e d h = absurd h
emitted_some (x ∷ xs) ts us rest e d h = (us, first_spelled (codes "emit") ts us e d, h)

pub ruleset growing = (steps, settled_once, names_one, names_more, optional_names, listed_made, emitted_some)
