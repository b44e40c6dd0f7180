use Rattle.std.proofs.Common.{◌≡◌, ◌+◌, ◌++◌, List, Some, None, Option, slice_get, drop, sym, ap, ◌∙◌, Bor}
use Rattle.std.specs.Prelude.{option_copied}
use Rattle.argos_base.specs.Names.{Spelled}
use Rattle.argos_report.specs.inner.Told.{names_behind}
use Rattle.argos_report.proofs.Joining.{names_more, names_same}
use Rattle.argos_report.proofs.sets.add_names.Goals as goal
use Rattle.argos_report.proofs.sets.add_names.Goals.{in-Some+in_ok-push, in_default}

pub loop-k-preserved : goal.loop-k-preserved
loop-k-preserved c =
    let k = c.loop-k.k in
    let table = c.args.table.now in
    elim c.match-get.branch [
      | in-Some+in_ok-push w ↦
          let at : slice_get table k ≡ Some w.in-Some.name.now = sym c.get.ensures ∙ ap (λ (o : Option (Bor Spelled)). option_copied o) w.in-Some.is in
          names_more table c.loop-k.names.items c.match-get.names.items w.in-Some.name k _ at c.loop-k.invariant (ap (λ v. v.items) w.names-is ∙ w.in_ok-push.ensures.items)
      | in_default w ↦
          let at : slice_get table k ≡ None = sym c.get.ensures ∙ ap (λ (o : Option (Bor Spelled)). option_copied o) w.in_default.is in
          ap (λ (l : List (Bor Spelled)). names_behind l ++ drop (k + 1) table) (ap (λ v. v.items) w.names-is)
          ∙ ap (λ (l : List Spelled). names_behind c.loop-k.names.items ++ l) (names_same table k at)
          ∙ c.loop-k.invariant
    ]
