use Rattle.line_format.proofs.LineLaws.{line_laws}
use Rattle.line_format.proofs.laws.clear_formats_have_line_laws.Goals as goal

pub returns : goal.returns
returns g c = λ F clear. line_laws F clear
