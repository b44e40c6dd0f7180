use Rattle.std.proofs.Common.{◌≡◌, ◌+◌, ◌++◌, ◌∷◌, [], ℕ, List, Some, None, Option, Bor, slice_get, map, drop, sym, ap, ◌∙◌}
use Rattle.std.specs.Prelude.{option_copied}
use Rattle.argos_base.specs.Names.{Spelled, place_of}
use Rattle.argos_congruence.specs.NamedSets.{number_or_zero}
use Rattle.bisim_check.proofs.PlacedInTurn.{one_more, none_more}
use Rattle.bisim_check.proofs.placing.variables_by_name.Goals as goal
use Rattle.bisim_check.proofs.placing.variables_by_name.Goals.{in-Some+in_ok-push, in_default}

pub loop-k-preserved : goal.loop-k-preserved
loop-k-preserved c =
    let k = c.loop-k.k in
    let others = c.args.others.now in
    let variable : Spelled → ℕ = λ name. c.args.first + number_or_zero (place_of c.args.names.now name) in
    elim c.match-get.branch [
      | in-Some+in_ok-push w ↦
          let name = w.in-Some.name.now in
          let at : slice_get others k ≡ Some name = sym c.get.ensures ∙ ap (λ (o : Option (Bor Spelled)). option_copied o) w.in-Some.is in
          let put = ap (λ v. v.items) w.variables-is ∙ w.in_ok-push.ensures.items
          ∙ ap (λ (n : ℕ). c.loop-k.variables.items ++ (c.args.first + n) ∷ []) (w.number_of.ensures.number ∙ ap (λ (b : Spelled). number_or_zero (place_of c.args.names.now b)) w.bytes.ensures.bytes) in
          one_more variable others k name c.loop-k.variables.items c.match-get.variables.items (map variable others) at c.loop-k.invariant put
      | in_default w ↦
          let at : slice_get others k ≡ None = sym c.get.ensures ∙ ap (λ (o : Option (Bor Spelled)). option_copied o) w.in_default.is in
          ap (λ (l : List ℕ). l ++ map variable (drop (k + 1) others)) (ap (λ v. v.items) w.variables-is)
          ∙ none_more variable others k c.loop-k.variables.items (map variable others) at c.loop-k.invariant
    ]
