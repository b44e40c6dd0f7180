use Rattle.std.proofs.Common.{◌≡◌, ◌+◌, ◌≤◌, ◌++◌, List, ℕ, Bool, true, false, length, sym, ap, ◌∙◌, Bor, arith}
use Rattle.argos_base.specs.Names.{Spelled}
use Rattle.argos_base.specs.SignalSets.{has}
use Rattle.trace_io.specs.Parts.{spaced}
use Rattle.argos_report.proofs.Joining.{told, present_from, set_taken, set_passed, set_ends, set_dash, set_done}
use Rattle.argos_report.proofs.sets.push_set.Goals as goal
use Rattle.argos_report.proofs.sets.push_set.Goals.{then-is_present+in_ok-push_name, else-is_present}

pub loop-k-preserved : goal.loop-k-preserved
loop-k-preserved c =
    let k = c.loop-k.k in
    let set = c.args.set.now in
    let names = c.args.names.now in
    let name = c.index-names-k.result in
    let rest = present_from set names (k + 1) in
    elim c.if-is_present.branch [
      | then-is_present+in_ok-push_name w ↦
          let is : has set k ≡ true = sym c.is_present.ensures ∙ w.if-is_present.true in
          let put = w.in_ok-push_name.ensures ∙ ap (λ (x : Bor Spelled). c.loop-k.text.items ++ spaced c.loop-k.some x.now) c.index-names-k.is in
          let next = set_taken set names k name c.loop-k.some c.loop-k.text.items w.push_name.new.text.items _ c.loop-k-test.true is c.loop-k.invariant put in
          ap (λ (t : List ℕ). t ++ told c.if-is_present.some rest) (ap (λ v. v.items) w.text-is)
          ∙ ap (λ (b : Bool). w.push_name.new.text.items ++ told b rest) w.some-is
          ∙ next
      | else-is_present w ↦
          let is : has set k ≡ false = sym c.is_present.ensures ∙ w.if-is_present.false in
          ap (λ (t : List ℕ). t ++ told c.if-is_present.some rest) (ap (λ v. v.items) w.text-is)
          ∙ ap (λ (b : Bool). c.loop-k.text.items ++ told b rest) w.some-is
          ∙ ap (λ (l : List Spelled). c.loop-k.text.items ++ told c.loop-k.some l) (set_passed set names k name c.loop-k-test.true is)
          ∙ c.loop-k.invariant
    ]

pub returns-in_ok-push : goal.returns-in_ok-push
returns-in_ok-push c =
    let none : c.loop-k.some ≡ false = cc in
    let all : length c.args.names.now ≤ c.loop-k.k = omega (arith, c.loop-k-test.false) in
    c.in_ok-push.ensures.items
    ∙ set_dash c.loop-k.text.items _ c.loop-k.some (present_from c.args.set.now c.args.names.now c.loop-k.k) none (set_ends c.args.set.now c.args.names.now c.loop-k.k all) c.loop-k.invariant

pub returns-else-not-some : goal.returns-else-not-some
returns-else-not-some c =
    let any : c.loop-k.some ≡ true = cc in
    let all : length c.args.names.now ≤ c.loop-k.k = omega (arith, c.loop-k-test.false) in
    set_done c.loop-k.text.items _ c.loop-k.some (present_from c.args.set.now c.args.names.now c.loop-k.k) any (set_ends c.args.set.now c.args.names.now c.loop-k.k all) c.loop-k.invariant
