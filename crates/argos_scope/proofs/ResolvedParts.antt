-- What the name rules and the expansion together say of components.
use Rattle.std.proofs.Common.{◌≡◌, ℕ, ◌+◌, ◌-◌, ◌≤◌, List, [], ◌∷◌, Some, map, length, get_or, suc, refl, sym, ap, ◌∙◌, arith}
use Rattle.std.proofs.lemmas.List.{length-map}
use Rattle.argos_base.specs.Limits.{signal_limit}
use Rattle.argos_core.specs.Modules.{IsModule}
use Rattle.argos_core.specs.Process.{Process, PlainModule}
use Rattle.argos_grammar.specs.Forms.{ComponentForm}
use Rattle.argos_grammar.specs.Views.{component_of, mark_of, marks_of}
use Rattle.argos_grammar.specs.declared.trees.ComponentTree.{ComponentTree}
use Rattle.argos_expansion.specs.Expansion.{expansion, last_of}
use Rattle.argos_expansion.specs.Limits.{IsWithin}
use Rattle.argos_scope.specs.Meaning.{Resolves}
use Rattle.argos_names.specs.Scope.{breaches, names_in}

-- the last component stands at the last place
pub last_at : (cs : List ComponentTree) (d : ComponentTree) → 1 ≤ length cs → last_of (map component_of cs) ≡ Some (component_of (get_or cs (length cs - 1) d))
last_at [] d h = absurd (omega arith)
last_at (c ∷ []) d h = refl
last_at (c ∷ e ∷ cs) d h =
    let k : length (c ∷ e ∷ cs) - 1 ≡ suc (length (e ∷ cs) - 1) = omega arith in
    let same : get_or (c ∷ e ∷ cs) (length (c ∷ e ∷ cs) - 1) d ≡ get_or (e ∷ cs) (length (e ∷ cs) - 1) d = ap (λ n. get_or (c ∷ e ∷ cs) n d) k in
    last_at (e ∷ cs) d (omega arith) ∙ ap (λ t. Some (component_of t)) (sym same)

-- the module of the last component
abbrev pub module_with : List ComponentForm → ComponentForm → PlainModule
module_with cs main = record { process = (expansion cs).whole; inputs = names_in main.inputs; outputs = names_in main.outputs; locals = (expansion cs).locals }

pub resolved : (cs : List ComponentTree) (d : ComponentTree) → d ≡ get_or cs (length cs - 1) d → 1 ≤ length cs → breaches (map component_of cs) ≡ [] → IsWithin (expansion (map component_of cs)).visits
    → Resolves (map component_of cs) (module_with (map component_of cs) (component_of d))
resolved cs d at some s w = record { sound = s; within = w; main = component_of d; last = last_at cs d some ∙ ap (λ t. Some (component_of t)) (sym at); inputs = refl; outputs = refl; locals = refl; process = refl }

-- a module has as many signals as names
pub few : (cs : List ComponentForm) (d : ComponentTree) → IsModule (module_with cs (component_of d)) → length d.inputs.items + length d.outputs.items ≤ signal_limit
few cs d kept =
    let inputs = length-map d.inputs.items mark_of in
    let outputs = length-map d.outputs.items mark_of in
    let first = length-map (marks_of d.inputs.items) (λ m. m.name) in
    let second = length-map (marks_of d.outputs.items) (λ m. m.name) in
    let most : length (names_in (marks_of d.inputs.items)) + length (names_in (marks_of d.outputs.items)) + length (expansion cs).locals ≤ signal_limit = kept.signals in
    omega arith

-- a module with these parts is this one
pub made_of : (p : PlainModule) (process : Process) (inputs outputs locals : List (List ℕ)) → process ≡ p.process → inputs ≡ p.inputs → outputs ≡ p.outputs → locals ≡ p.locals
    → p ≡ record { process = process; inputs = inputs; outputs = outputs; locals = locals }
made_of p process inputs outputs locals a b c d i = record { process = sym a i; inputs = sym b i; outputs = sym c i; locals = sym d i }
