-- Options added to a simple command, one after the other.
use Rattle.std.proofs.Common.{◌≡◌, ℕ, ◌+◌, ◌<◌, List, [], ◌∷◌, ◌++◌, length, get_or, slice_index_or, take, map, sym, ap, ◌∙◌}
use Rattle.std.specs.Borrow.{Bor}
use Rattle.std.proofs.lemmas.List.{map-append, take_more}
use Rattle.argos_words.specs.Views.{texts_of}
use Rattle.argos_words.specs.Simple.{simple_app, simple_shape, option_rule, plain_rule}
use Rattle.clap.specs.Walk.{Rule}
use Rattle.clap.specs.Simple.{App, with_rule}

abbrev with_options : List ℕ → List Rule → App
with_options word rs = record { top = record (simple_shape word []) { rules = plain_rule ∷ rs }; subs = [] }

pub one_more : (word : List ℕ) (options : List (Bor (List ℕ))) (i : ℕ) (d : Bor (List ℕ)) (id : List ℕ) → i < length options → id ≡ (slice_index_or options i d).now
    → with_rule (simple_app word (texts_of (take i options))) (option_rule id) ≡ simple_app word (texts_of (take (i + 1) options))
one_more word options i d id l is =
    ap (λ (n : List ℕ). with_options word (map option_rule (texts_of (take i options)) ++ option_rule n ∷ [])) is
    ∙ ap (with_options word) (sym (ap (map option_rule) more ∙ map-append option_rule (texts_of (take i options)) ((get_or options i d).now ∷ [])))
  where
    more : texts_of (take (i + 1) options) ≡ texts_of (take i options) ++ (get_or options i d).now ∷ []
    more = ap texts_of (take_more options i d l) ∙ map-append (λ (w : Bor (List ℕ)). w.now) (take i options) (get_or options i d ∷ [])
