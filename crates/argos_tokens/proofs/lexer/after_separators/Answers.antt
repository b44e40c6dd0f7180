use Rattle.std.proofs.Common.{arith}
use Rattle.argos_tokens.proofs.Separators.{skips_more}
use Rattle.argos_tokens.proofs.lexer.after_separators.Goals as goal

pub loop-comment-preserved : goal.loop-comment-preserved
loop-comment-preserved c =
    let stripped = c.in-Some.ensures.cases in
    let so_far = c.loop-comment.invariant in
    let blanks = c.after_blanks-rest-in-Some.ensures in
    record {
      skipped = skips_more _ _ _ _ _ so_far.skipped so_far.within stripped.0 stripped.1 c.after_line.ensures.behind c.after_line.ensures.within (omega arith) blanks.skipped blanks.within;
      within = omega arith;
      no_blank = blanks.solid;
    }
