use Rattle.std.proofs.Common.{◌≡◌, ◌<◌, ℕ, Some, map, length, ap, subst, arith}
use Rattle.std.proofs.lemmas.List.{length-map}
use Rattle.argos_expansion.specs.Limits.{Trace}
use Rattle.argos_grammar.specs.Views.{set_of}
use Rattle.argos_scope.specs.Meaning.{limit}
use Rattle.pointcuts.proofs.Refusing.{long_trace_told}
use Rattle.pointcuts.proofs.resolving.check_length.Goals as goal

pub returns-then-sets-gt-ADVICE_SET_LIMIT : goal.returns-then-sets-gt-ADVICE_SET_LIMIT
returns-then-sets-gt-ADVICE_SET_LIMIT c =
    let sets = c.args.tree.now.trace.items in
    let as_many = length-map sets set_of in
    let same : c.len-sets.result ≡ length (map set_of sets) = omega (arith, c.args.tree.now.trace.ok.0, c.len-sets.ensures) in
    let long : 256 < length (map set_of sets) = subst (λ (k : ℕ). 256 < k) same c.if-sets-gt-ADVICE_SET_LIMIT.true in
    (limit Trace (length (map set_of sets)), long_trace_told (length (map set_of sets)) long, ap (λ k. Some (limit Trace k)) same)
