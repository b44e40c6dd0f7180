use Rattle.std.proofs.Common.{◌≡◌, ◌+◌, ◌-◌, ap, ◌∙◌, length, arith}
use Rattle.std.proofs.lemmas.List.{length-take-le}
use Rattle.eqn_dd.proofs.Denotations.{adds_in_turn}
use Rattle.verdict_search.specs.Counts.{testing_count, pinning_count, taking_count, leaving_count, finding_count}
use Rattle.verdict_search.proofs.Verdicts.{one_found, all_found}
use Rattle.verdict_search.proofs.finding.find.Goals as goal

pub returns-in_default-clause-found : goal.returns-in_default-clause-found
returns-in_default-clause-found c = one_found c.args.parts.now.consistent.items c.args.results.now c.in_ok-bad.ensures.adds.keeps c.in_ok-bad.ensures.bad (rw c.in_default.is at c.in_ok-at.ensures)

pub returns-clause-adds : goal.returns-clause-adds
returns-clause-adds c =
    let a = c.args.points in
    let n = c.args.arena.now.variables - a in
    let r = length c.args.results.now in
    let least = rw c.in-Some.is at c.in_ok-at.ensures in
    let sized : length c.truncate.new.self.items ≡ a = ap length c.truncate.ensures.items ∙ length-take-le a c.in-Some.at.items (omega (arith, least.sized, c.in_ok-bad.ensures.adds.keeps.variables, c.requires.parts.variables)) in
    let m = length c.deref.result.now in
    let same : m ≡ n = omega (arith, ap length c.deref.ensures.value) in
    adds_in_turn (testing_count n r) (pinning_count a m + taking_count r + leaving_count r + taking_count r) (finding_count a n r) (omega arith) c.in_ok-bad.ensures.adds (rw sized at c.what_is_there.ensures.adds)

pub returns-clause-found : goal.returns-clause-found
returns-clause-found c =
    all_found c.args.parts.now.consistent.items c.args.results.now c.in-Some.at.items c.truncate.new.self.items c.what_is_there.result c.requires.parts.held c.requires.results c.in_ok-bad.ensures.adds c.in_ok-bad.ensures.bad
    (rw c.in-Some.is at c.in_ok-at.ensures) c.truncate.ensures.items (rw c.deref.ensures.value at c.what_is_there.ensures.there)
