-- What components mean doesn't hang on places.
use Rattle.std.proofs.Common.{◌≡◌, List, [], ◌∷◌, Option, Some, None, map, refl, ap, sym, subst, ◌∙◌}
use Rattle.std.specs.Prelude.{option_map}
use Rattle.argos_core.specs.Process.{PlainModule}
use Rattle.argos_core.specs.Process as core
use Rattle.argos_grammar.specs.Forms.{ComponentForm}
use Rattle.argos_grammar.specs.Unplaced.{unplaced_component}
use Rattle.argos_names.specs.Scope.{breaches}
use Rattle.argos_expansion.specs.Expansion.{Grown, expansion, last_of}
use Rattle.argos_expansion.specs.Limits.{IsWithin}
use Rattle.argos_scope.specs.Meaning.{Resolves}
use Rattle.argos_sample.proofs.BreachPlaces.{unplaced_breach, breaches_same}
use Rattle.argos_sample.proofs.GrownPlaces.{names_same, last_same, expansion_same}

none_left : {A : Type 0} (f : A → A) (xs : List A) → map f xs ≡ [] → xs ≡ []
none_left f [] h = refl
none_left f (x ∷ xs) h = cc h

-- the main component of the one for that of the other
record IsMain (o : Option ComponentForm) (c : ComponentForm) : Type 0 where
  main : ComponentForm
  is : o ≡ Some main
  same : unplaced_component main ≡ unplaced_component c

main_of : (o : Option ComponentForm) (c : ComponentForm) → option_map unplaced_component o ≡ Some (unplaced_component c) → IsMain o c
main_of None c h = cc h
main_of (Some d) c h = record { main = d; is = refl; same = cc h }

-- components that are equal apart from places resolve to one module
pub resolves_moved : (cs ds : List ComponentForm) (p : PlainModule) → map unplaced_component ds ≡ map unplaced_component cs → Resolves cs p
    → Resolves ds p
resolves_moved cs ds p e r =
    let sound : map unplaced_breach (breaches ds) ≡ [] =
    sym (breaches_same ds) ∙ ap breaches e ∙ breaches_same cs ∙ ap (map unplaced_breach) r.sound in
    let grown : expansion ds ≡ expansion cs = sym (expansion_same ds) ∙ ap expansion e ∙ expansion_same cs in
    let last : option_map unplaced_component (last_of ds) ≡ Some (unplaced_component r.main) =
    sym (last_same unplaced_component ds) ∙ ap last_of e ∙ last_same unplaced_component cs ∙ ap (option_map unplaced_component) r.last in
    let m = main_of (last_of ds) r.main last in
    let inputs : map (λ m. m.name) m.main.inputs ≡ map (λ m. m.name) r.main.inputs =
    sym (names_same m.main.inputs) ∙ ap (λ c. map (λ m. m.name) c.inputs) m.same ∙ names_same r.main.inputs in
    let outputs : map (λ m. m.name) m.main.outputs ≡ map (λ m. m.name) r.main.outputs =
    sym (names_same m.main.outputs) ∙ ap (λ c. map (λ m. m.name) c.outputs) m.same ∙ names_same r.main.outputs in
    record {
      sound = none_left unplaced_breach (breaches ds) sound;
      within = subst (λ (g : Grown core.Process). IsWithin g.visits) (sym grown) r.within;
      main = m.main;
      last = m.is;
      inputs = r.inputs ∙ sym inputs;
      outputs = r.outputs ∙ sym outputs;
      locals = r.locals ∙ ap (λ g. g.locals) (sym grown);
      process = r.process ∙ ap (λ g. g.whole) (sym grown);
    }
