use Rattle.std.proofs.Common.{Some, ap, sym, ◌∙◌}
use Rattle.argos_grammar.specs.Views.{component_of}
use Rattle.argos_grammar.specs.declared.trees.ComponentTree.{ComponentTree}
use Rattle.argos_scope.proofs.ResolvedParts.{last_at}
use Rattle.pointcuts.proofs.resolving.main_of.Goals as goal

pub returns : goal.returns
returns c =
    let cs = c.args.components.now in
    let d = c.index-components-components.result in
    last_at cs d c.requires ∙ ap (λ (t : ComponentTree). Some (component_of t)) (sym c.index-components-components.is)
