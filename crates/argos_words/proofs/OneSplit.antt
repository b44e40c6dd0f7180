-- Words are split in one way.
use Rattle.std.proofs.Common.{◌≡◌, ℕ, List, [], ◌∷◌, ◌++◌, false, refl, sym, ap, subst, ◌∙◌, codes}
use Rattle.argos_words.specs.Words.{Words, Given, Splits, ended, plain, all_plain, joined, apart, begins_with_dash}
use Rattle.argos_words.proofs.WordForms as form
use Rattle.argos_words.proofs.WordForms.{Form, form_of, form_of-plain, form_of-joined, form_of-apart}

-- what words are split into whose first word has this form
abbrev pub Follows : Form → List ℕ → Words → Words → List Given → Type 0
Follows form.plain w ws ps gs = (qs : Words) × (ps ≡ w ∷ qs) × Splits ws qs gs
Follows form.all_plain w ws ps gs = (ps ≡ ws) × (gs ≡ [])
Follows (form.joined name value) w ws ps gs = (hs : List Given) × (gs ≡ record { name = name; value = value } ∷ hs) × Splits ws ps hs
Follows (form.apart name) w ws ps gs = (value : List ℕ) × (rest : Words) × (hs : List Given) × (ws ≡ value ∷ rest) × (begins_with_dash value ≡ false) × (gs ≡ record { name = name; value = value } ∷ hs) × Splits rest ps hs
Follows form.wrong w ws ps gs = ⊥

follows_as : (f : Form) (w v : List ℕ) (ws ps : Words) (gs : List Given) → form_of w ≡ f → w ≡ v → Follows f v ws ps gs → Follows (form_of v) v ws ps gs
follows_as f w v ws ps gs h e follows = subst (λ f. Follows f v ws ps gs) (sym h ∙ ap form_of e) follows

-- the first word says how the words are split
pub follows : {words ps : Words} {gs : List Given} (w : List ℕ) (ws : Words) → Splits words ps gs → words ≡ w ∷ ws → Follows (form_of w) w ws ps gs
follows w ws (ended h) e = cc
follows w ws (plain {ps} {gs} v vs h t s) e =
    let word : v ≡ w = cc in
    let rest : vs ≡ ws = cc in
    follows_as form.plain v w _ _ _ (form_of-plain v t) word (ps, ap (λ (x : List ℕ). x ∷ ps) word, subst (λ z. Splits z ps gs) rest s)
follows w ws (all_plain vs h) e =
    let word : codes "--" ≡ w = cc in
    let rest : vs ≡ ws = cc in
    follows_as form.all_plain (codes "--") w _ _ _ refl word (rest, refl)
follows w ws (joined {ps} {gs} g vs h n s) e =
    let word : codes "--" ++ g.name ++ codes "=" ++ g.value ≡ w = cc in
    let rest : vs ≡ ws = cc in
    follows_as (form.joined g.name g.value) _ w _ _ _ (form_of-joined g.name g.value n) word (gs, refl, subst (λ z. Splits z ps gs) rest s)
follows w ws (apart {ps} {gs} g vs h n l d s) e =
    let word : codes "--" ++ g.name ≡ w = cc in
    let rest : ws ≡ g.value ∷ vs = cc in
    follows_as (form.apart g.name) _ w _ _ _ (form_of-apart g.name n l) word (g.value, vs, gs, rest, d, refl, s)

follows_form : (f : Form) {words ps : Words} {gs : List Given} (w : List ℕ) (ws : Words) → form_of w ≡ f → Splits words ps gs → words ≡ w ∷ ws → Follows f w ws ps gs
follows_form f {words} {ps} {gs} w ws h s e = subst (λ f. Follows f w ws ps gs) h (follows w ws s e)

-- no words
pub after_none : {words ps : Words} {gs : List Given} → Splits words ps gs → words ≡ [] → (ps ≡ []) × (gs ≡ [])
after_none (ended h) e = (refl, refl)
after_none (plain w ws h t s) e = cc
after_none (all_plain ws h) e = cc
after_none (joined g ws h n s) e = cc
after_none (apart g ws h n l d s) e = cc

-- two ways to split words are one
pub one_split : {words ps qs : Words} {gs hs : List Given} → Splits words ps gs → Splits words qs hs → (ps ≡ qs) × (gs ≡ hs)
one_split (ended h) s = let n = after_none s h in (sym n.0, sym n.1)
one_split (plain w ws h t r) s =
    let f = follows_form form.plain w ws (form_of-plain w t) s h in
    let one = one_split r f.2 in
    (ap (λ (x : Words). w ∷ x) one.0 ∙ sym f.1, one.1)
one_split (all_plain ws h) s = let f = follows_form form.all_plain (codes "--") ws refl s h in (sym f.0, sym f.1)
one_split (joined g ws h n r) s =
    let f = follows_form (form.joined g.name g.value) _ ws (form_of-joined g.name g.value n) s h in
    let one = one_split r f.2 in
    (one.0, ap (λ (x : List Given). g ∷ x) one.1 ∙ sym f.1)
one_split {qs} (apart g ws h n l d r) s =
    let f = follows_form (form.apart g.name) _ (g.value ∷ ws) (form_of-apart g.name n l) s h in
    let value : f.0 ≡ g.value = cc f.3 in
    let rest : f.1 ≡ ws = cc f.3 in
    let one = one_split r (subst (λ z. Splits z qs f.2) rest f.6) in
    (one.0, ap (λ (x : List Given). g ∷ x) one.1 ∙ ap (λ v. record { name = g.name; value = v } ∷ f.2) (sym value) ∙ sym f.5)
