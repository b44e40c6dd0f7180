use Rattle.std.proofs.Common.{ap, length, ℕ, List, ◌+◌, ◌∙◌}
use Rattle.std.proofs.lemmas.List.{length_push}
use Rattle.eqn_core.specs.declared.system.Lit.{Lit}
use Rattle.smallvec.specs.SmallVec.{SmallVec}
use Rattle.eqn_build.specs.inner.BuilderViews.{literals_at}
use Rattle.eqn_build.proofs.LiteralLists.{literals_at-push}
use Rattle.eqn_build.proofs.tables.empty_lists.Goals as goal

pub loop-number-preserved : goal.loop-number-preserved
loop-number-preserved c = record {
  len = ap length c.in_ok-push.ensures.items ∙ length_push c.loop-number.lists.items c.new.result ∙ ap (λ (n : ℕ). n + 1) c.loop-number.invariant.len;
  empty = λ q. ap (λ (vs : List (SmallVec Lit)). literals_at vs q) c.in_ok-push.ensures.items ∙ literals_at-push c.loop-number.lists.items c.new.result q c.new.ensures.items c.loop-number.invariant.empty;
}
