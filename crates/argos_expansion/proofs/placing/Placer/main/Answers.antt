use Rattle.std.proofs.Common.{◌≡◌, ◌+◌, length, arith}
use Rattle.std.proofs.lemmas.Grind.{common_steps}
use Rattle.argos_expansion.specs.inner.Placers.{known_names}
use Rattle.argos_expansion.specs.inner.Shapes.{block_shape}
use Rattle.argos_expansion.proofs.PlacedLists.{main_placed}
use Rattle.argos_expansion.proofs.placing.Placer.main.Goals as goal

pub returns : goal.returns
returns c =
    let x = c.args.component.now in
    let outputs : c.in_ok-outputs.outputs ≡ 1 + length x.inputs.items = grind (arith, common_steps) in
    let count : c.in_ok-count.count ≡ c.in_ok-outputs.outputs + length x.outputs.items = grind (arith, common_steps) in
    main_placed (known_names c.args.self.now) x c.in_ok-outputs.outputs c.in_ok-count.count c.deref.result.now c.deref-2.result.now c.deref-3.result.now (block_shape c.in_ok-block.field-0.items) c.new-scope.result c.declare_all.new.scope c.declare_all-2.new.scope
    c.deref.ensures.value c.deref-2.ensures.value c.deref-3.ensures.value outputs count c.new-scope.ensures (c.in_ok-declare_all.ensures {u = tt}) (c.in_ok-declare_all-2.ensures {u = tt}) (c.in_ok-block.ensures {u = tt}).placed
