-- The module that well-formed components resolve to keeps the rules of scope and the limits.
use Rattle.std.proofs.Common.{◌≡◌, ◌+◌, List, [], ◌∷◌, ◌++◌, Some, length, map, sym, ap, ◌∙◌, subst, arith}
use Rattle.std.specs.List.{AllByRecursion, range_with_len}
use Rattle.std.proofs.lemmas.List.{length-map, length-append}
use Rattle.std.proofs.lemmas.List.Sums.{sum_by-cons}
use Rattle.argos_base.specs.Limits.{depth_limit}
use Rattle.argos_base.specs.SignalSets.{lists}
use Rattle.argos_core.specs.Modules.{locals_in, times, IsScoped, IsModule}
use Rattle.argos_core.specs.Process.{PlainModule}
use Rattle.argos_core.specs.Process as plain
use Rattle.argos_grammar.specs.Forms.{Mark, ComponentForm}
use Rattle.argos_grammar.specs.Text.{IsComponent}
use Rattle.argos_expansion.specs.Expansion.{Visit, Known, Grown, numbered, header_visit, main_grown, known_after, last_of, expansion}
use Rattle.argos_expansion.specs.Limits.{IsWithin}
use Rattle.argos_scope.specs.Meaning.{Resolves}
use Rattle.argos_scope.proofs.CountsAgree.{HasTally, component_tally}
use Rattle.argos_scope.proofs.DepthsWithin.{HasDepth, component_depth}
use Rattle.argos_scope.proofs.EmptyLists.{all_from}
use Rattle.argos_scope.proofs.KnownFacts.{known_of, components_after, all_known, of_last, last_known}
use Rattle.argos_scope.proofs.LimitsKept.{IsVisitKept, counts_kept, visits_kept}
use Rattle.argos_scope.proofs.LocalsInOrder.{HasLocalsInOrder, component_in_order, range-lists, times-range}
use Rattle.argos_scope.proofs.ScopedProcesses.{HasScope, component_scoped}
use Rattle.argos_scope.proofs.ScopesAgree.{main_agrees}
use Rattle.argos_scope.proofs.Shaped.{HasShape, component_shaped}
use Rattle.argos_scope.proofs.SoundForms.{names_of, IsSoundComponent}

-- all that holds of what a component grows to
pub record IsKept (k : Known) : Type 0 where
  pub locals : HasLocalsInOrder k
  pub tally : HasTally k
  pub depth : HasDepth k
  pub shape : HasShape k
  pub scope : HasScope k

component_kept : (ks : List Known) (c : ComponentForm) → AllByRecursion IsKept ks → IsSoundComponent ks c → IsKept (known_of ks c)
component_kept ks c all sound = record {
  locals = component_in_order ks c (all_from IsKept HasLocalsInOrder ks (λ k h. h.locals) all) sound;
  tally = component_tally ks c (all_from IsKept HasTally ks (λ k h. h.tally) all) sound;
  depth = component_depth ks c (all_from IsKept HasDepth ks (λ k h. h.depth) all) sound;
  shape = component_shaped ks c (all_from IsKept HasShape ks (λ k h. h.shape) all) sound;
  scope = component_scoped ks c (all_from IsKept HasScope ks (λ k h. h.scope) all) sound;
}

-- the module of a component and of what it grows to
abbrev module_of : ComponentForm → Grown plain.Process → PlainModule
module_of c g = record { process = g.whole; inputs = names_of c.inputs; outputs = names_of c.outputs; locals = g.locals }

module _ (k : Known) (kept : IsKept k) (within : IsWithin (main_grown (Some k)).visits) where
  abbrev ins : List Mark
  ins = k.component.inputs

  abbrev outs : List Mark
  outs = k.component.outputs

  abbrev grown : Grown plain.Process
  grown = k.grown (numbered (ins ++ outs) 0 []) 1 (length (ins ++ outs))

  sized : length (ins ++ outs) ≡ length (names_of ins) + length (names_of outs)
  sized = length-append ins outs ∙ ap (λ n. n + length outs) (sym (length-map ins (λ m. m.name))) ∙ ap (λ n. length (names_of ins) + n) (sym (length-map outs (λ m. m.name)))

  ordered : locals_in grown.whole ≡ range_with_len (length (names_of ins) + length (names_of outs)) (length grown.locals)
  ordered = kept.locals (numbered (ins ++ outs) 0 []) 1 (length (ins ++ outs)) ∙ ap (λ n. range_with_len n (length grown.locals)) sized

  scoped : IsScoped (record { inputs = length (names_of ins); outputs = length (names_of outs); locals = [] }) grown.whole
  scoped = subst (λ n. IsScoped (record { inputs = n; outputs = length (names_of outs); locals = [] }) grown.whole) (sym (length-map ins (λ m. m.name)))
      (subst (λ n. IsScoped (record { inputs = length ins; outputs = n; locals = [] }) grown.whole) (sym (length-map outs (λ m. m.name)))
      (kept.scope.scoped (record { inputs = length ins; outputs = length outs; locals = [] }) (numbered (ins ++ outs) 0 []) 1 (length (ins ++ outs)) (main_agrees ins outs)))

  main_kept : IsModule (module_of k.component grown)
  main_kept =
      let visits = visits_kept [] (header_visit k.component ∷ grown.visits) within in
      let counts = counts_kept (header_visit k.component ∷ grown.visits) within in
      let tally = kept.tally (numbered (ins ++ outs) 0 []) 1 (length (ins ++ outs)) in
      let many_in : length (names_of ins) ≡ length ins = length-map ins (λ m. m.name) in
      let many_out : length (names_of outs) ≡ length outs = length-map outs (λ m. m.name) in
      let signals = sum_by-cons (λ (v : Visit). v.signals) (header_visit k.component) grown.visits in
      let automata = sum_by-cons (λ (v : Visit). v.automata) (header_visit k.component) grown.visits in
      let size = sum_by-cons (λ (v : Visit). v.size) (header_visit k.component) grown.visits in
      record {
        names = kept.scope.distinct;
        shaped = kept.shape (numbered (ins ++ outs) 0 []) 1 (length (ins ++ outs)) (all_from IsVisitKept _ grown.visits (λ v h. h.codes) visits.1);
        scoped = scoped;
        locals_once = λ n low high. ap (times n) ordered ∙ times-range _ _ n low high;
        locals_alone = λ n h. range-lists _ _ n (ap (λ ns. lists ns n) (sym ordered) ∙ h);
        signals = omega (arith, counts.signals, tally.signals);
        automata = omega (arith, counts.automata, tally.automata);
        depth = let e = kept.depth (numbered (ins ++ outs) 0 []) 1 (length (ins ++ outs)) depth_limit (all_from IsVisitKept _ grown.visits (λ v h. h.depth) visits.1) in omega arith;
        size = omega (arith, counts.size, tally.sizes);
      }

pub same_module : (p q : PlainModule) → p.process ≡ q.process → p.inputs ≡ q.inputs → p.outputs ≡ q.outputs → p.locals ≡ q.locals → p ≡ q
same_module p q a b c d = λ i. record { process = a i; inputs = b i; outputs = c i; locals = d i }

pub resolved_module : (cs : List ComponentForm) (p : PlainModule) → AllByRecursion IsComponent cs → Resolves cs p → IsModule p
resolved_module cs p formed r =
    let all = all_known IsKept component_kept (map (λ c. c.name.name) cs) cs [] tt formed r.sound in
    let last = last_known (known_after [] cs) r.main (ap last_of (components_after cs []) ∙ r.last) in
    let k = last.0 in
    let e : expansion cs ≡ main_grown (Some k) = ap main_grown last.1 in
    let within : IsWithin (main_grown (Some k)).visits = subst (λ (g : Grown plain.Process). IsWithin g.visits) e r.within in
    let kept = main_kept k (of_last IsKept (known_after [] cs) k all last.1) within in
    let same = same_module (module_of k.component (main_grown (Some k))) p
    (ap (λ (g : Grown plain.Process). g.whole) (sym e) ∙ sym r.process)
    (ap (λ (c : ComponentForm). names_of c.inputs) last.2 ∙ sym r.inputs)
    (ap (λ (c : ComponentForm). names_of c.outputs) last.2 ∙ sym r.outputs)
    (ap (λ (g : Grown plain.Process). g.locals) (sym e) ∙ sym r.locals) in
    subst IsModule same kept
