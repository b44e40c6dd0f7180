use Rattle.std.proofs.Common.{◌≡◌, ◌+◌, ◌*◌, ◌<◌, ◌≤◌, length, vec_len, vec_capacity, ap, subst, sym, ◌∙◌, true, false, arith}
use Rattle.std.specs.List.{join_with_byte}
use Rattle.argos_base.specs.SignalSets.{has}
use Rattle.trace_io.proofs.JoinedWords.{has_some, line_more, line_same}
use Rattle.trace_io.proofs.writer.write_line.Goals as goal
use Rattle.trace_io.proofs.writer.write_line.Goals.{then-get, else-get}

pub loop-k-preserved : goal.loop-k-preserved
loop-k-preserved c =
    let k = c.loop-k.k in
    let set = c.args.set.now in
    let names = c.args.names.now in
    let below : k < length set = omega arith in
    elim c.if-get.branch [
      | then-get w ↦
          let is : has set k ≡ true = cc in
          let next = line_more k set names c.loop-k.line.items w.append_name.new.line.items c.loop-k.some c.requires.places below is c.loop-k.invariant.joined c.loop-k.invariant.some_joined w.append_name.ensures.appended in
          record {
            joined = ap (λ v. v.items) w.line-is ∙ next.0;
            some_joined = w.some-is ∙ next.1;
            short = subst (λ v. vec_len v ≤ 65 * (k + 1)) (sym w.line-is) (omega (arith, w.append_name.ensures.short, c.loop-k.invariant.short));
            room = subst (λ v. vec_capacity c.args.line.now ≤ vec_capacity v) (sym w.line-is) (omega (arith, w.append_name.ensures.room, c.loop-k.invariant.room));
          }
      | else-get w ↦
          let is : has set k ≡ false = cc in
          let same = line_same k set names c.requires.places below is in
          record {
            joined = ap (λ v. v.items) w.line-is ∙ c.loop-k.invariant.joined ∙ sym (ap (join_with_byte 32) same);
            some_joined = w.some-is ∙ c.loop-k.invariant.some_joined ∙ sym (ap has_some same);
            short = subst (λ v. vec_len v ≤ 65 * (k + 1)) (sym w.line-is) (omega (arith, c.loop-k.invariant.short));
            room = subst (λ v. vec_capacity c.args.line.now ≤ vec_capacity v) (sym w.line-is) c.loop-k.invariant.room;
          }
    ]
