use Rattle.std.proofs.Common.{sym}
use Rattle.line_format.proofs.Cuts.{cut-slices}
use Rattle.line_format.proofs.cutting.cut.Goals as goal

pub returns : goal.returns
returns c = cut-slices c.args.at c.in_ok-place.place c.args.bytes.now (sym c.in_ok-place.ensures)
