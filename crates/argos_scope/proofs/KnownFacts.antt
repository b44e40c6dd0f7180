-- What holds of each sound component, where it holds of those before it, holds of all that are known.
use Rattle.std.proofs.Common.{◌≡◌, ℕ, List, [], ◌∷◌, ◌++◌, Option, Some, None, Bool, true, false, cond, refl, sym, ap, ◌∙◌, subst}
use Rattle.std.specs.Prelude.{bytes_eq}
use Rattle.std.specs.List.{AllByRecursion}
use Rattle.std.proofs.lemmas.List.{append-nil, append_assoc, map-append}
use Rattle.argos_grammar.specs.Forms.{ComponentForm}
use Rattle.argos_grammar.specs.Text.{IsComponent}
use Rattle.argos_names.specs.Scope.{breaches_from, in_component}
use Rattle.argos_expansion.specs.Expansion.{Known, found, grown_block, known_after, last_of}
use Rattle.argos_scope.proofs.EmptyLists.{left_empty, right_empty, all_append}
use Rattle.argos_scope.proofs.SoundForms.{IsSoundComponent}
use Rattle.argos_scope.proofs.SoundTexts.{components, around, component_sound}

-- a component after those that are known, with what it grows to
abbrev pub known_of : List Known → ComponentForm → Known
known_of ks c = record { component = c; grown = λ env depth next. grown_block ks env depth next c.block }

-- of what is found, if it is
abbrev pub OfFound : (Known → Type 0) → Option Known → Type 0
OfFound P None = Unit {0}
OfFound P (Some k) = P k

found_step : (P : Known → Type 0) (b : Bool) (k : Known) (o : Option Known) → P k → OfFound P o → OfFound P (cond b (Some k) o)
found_step P true k o h f = h
found_step P false k o h f = f

pub of_found : (P : Known → Type 0) (name : List ℕ) (ks : List Known) → AllByRecursion P ks → OfFound P (found name ks)
of_found P name [] h = tt
of_found P name (k ∷ ks) h = found_step P (bytes_eq k.component.name.name name) k (found name ks) h.0 (of_found P name ks h.1)

-- the components of those that are known
components_append : (ks js : List Known) → components (ks ++ js) ≡ components ks ++ components js
components_append = map-append (λ k. k.component)

pub components_after : (cs : List ComponentForm) (ks : List Known) → components (known_after ks cs) ≡ components ks ++ cs
components_after [] ks = sym (append-nil (components ks))
components_after (c ∷ cs) ks = components_after cs (ks ++ known_of ks c ∷ []) ∙ ap (λ (es : List ComponentForm). es ++ cs) (components_append ks (known_of ks c ∷ [])) ∙ append_assoc (components ks) (c ∷ []) cs

module _ (P : Known → Type 0) (one : (ks : List Known) (c : ComponentForm) → AllByRecursion P ks → IsSoundComponent ks c → P (known_of ks c)) (names : List (List ℕ)) where
  pub all_known : (cs : List ComponentForm) (ks : List Known) → AllByRecursion P ks → AllByRecursion IsComponent cs → breaches_from names (components ks) cs ≡ [] → AllByRecursion P (known_after ks cs)
  all_known [] ks h w b = h
  all_known (c ∷ cs) ks h w b =
      let sound = component_sound ks names c w.0 (left_empty (in_component (around ks names) c) (breaches_from names (components ks ++ c ∷ []) cs) b) in
      let more = right_empty (in_component (around ks names) c) (breaches_from names (components ks ++ c ∷ []) cs) b in
      all_known cs (ks ++ known_of ks c ∷ []) (all_append P ks (known_of ks c ∷ []) h (one ks c h sound, tt)) w.1
      (subst (λ es. breaches_from names es cs ≡ []) (sym (components_append ks (known_of ks c ∷ []))) more)

-- the last of those that are known
pub of_last : (P : Known → Type 0) (ks : List Known) (k : Known) → AllByRecursion P ks → last_of ks ≡ Some k → P k
of_last P [] k h e = cc
of_last P (j ∷ []) k h e = let same : j ≡ k = cc in subst P same h.0
of_last P (j ∷ i ∷ ks) k h e = of_last P (i ∷ ks) k h.1 e

pub last_known : (ks : List Known) (c : ComponentForm) → last_of (components ks) ≡ Some c → (k : Known) × (last_of ks ≡ Some k) × (k.component ≡ c)
last_known [] c e = cc
last_known (j ∷ []) c e = (j, refl, cc)
last_known (j ∷ i ∷ ks) c e = last_known (i ∷ ks) c e
