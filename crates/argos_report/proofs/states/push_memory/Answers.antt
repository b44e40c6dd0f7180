use Rattle.std.proofs.Common.{◌≡◌, ◌+◌, ◌++◌, List, ℕ, Option, Some, None, map, slice_get, ap, subst, ◌∙◌, Bor}
use Rattle.std.specs.Prelude.{nat_lt}
use Rattle.std.specs.Slice.{IsItemAt}
use Rattle.argos_core.specs.ModuleViews.{module_of}
use Rattle.argos_core.specs.Views.{state_of, states_of}
use Rattle.argos_core.specs.declared.prog.State.{State}
use Rattle.argos_report.specs.inner.Told.{item_text}
use Rattle.argos_states.specs.Lent.{states_behind}
use Rattle.trace_io.specs.Parts.{spaced}
use Rattle.argos_report.proofs.Among.{memory_begins}
use Rattle.argos_report.proofs.Joining.{joined, items_left, item_taken, item_passed}
use Rattle.argos_report.proofs.Telling.{found, missing}
use Rattle.argos_report.proofs.states.push_memory.Goals as goal
use Rattle.argos_report.proofs.states.push_memory.Goals.{in-Some+in_ok-push_item, in_default}

pub loop-register-init : goal.loop-register-init
loop-register-init c =
    ap (λ (l : List ℕ). c.args.text.now.items ++ l)
    (memory_begins (module_of c.args.«module».now) c.deref-states-items.result.now c.args.memory.now (ap states_behind c.deref-states-items.ensures.value ∙ c.in_ok-automata.ensures))

pub loop-register-preserved : goal.loop-register-preserved
loop-register-preserved c =
    let all = c.deref-states-items.result.now in
    let m = c.args.memory.now in
    let k = c.loop-register.register in
    let text = c.loop-register.text.items in
    let rest = joined (nat_lt 0 (k + 1)) (items_left all m (k + 1)) in
    elim c.match-get.branch [
      | in-Some+in_ok-push_item w ↦
          let code = w.in-Some.code.now in
          let at : slice_get m k ≡ Some code = found m k w.in-Some.code (subst (λ (o : Option (Bor ℕ)). IsItemAt m k o) w.in-Some.is c.get.ensures.lookup) in
          let put = w.in_ok-push_item.ensures ∙ ap (λ (x : Bor (List State)). text ++ spaced (nat_lt 0 k) (item_text k (states_of (map state_of x.now)) code)) c.states-item.is in
          ap (λ (t : List ℕ). t ++ rest) (ap (λ v. v.items) w.text-is)
          ∙ item_taken all m k code c.states-item.result text w.push_item.new.text.items _ c.loop-register-test.true at c.loop-register.invariant put
      | in_default w ↦
          let at : slice_get m k ≡ None = missing m k (subst (λ (o : Option (Bor ℕ)). IsItemAt m k o) w.in_default.is c.get.ensures.lookup) in
          ap (λ (t : List ℕ). t ++ rest) (ap (λ v. v.items) w.text-is)
          ∙ ap (λ (l : List ℕ). text ++ l) (item_passed all m k at)
          ∙ c.loop-register.invariant
    ]
