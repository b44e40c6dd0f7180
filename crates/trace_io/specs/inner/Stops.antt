-- How pulling stopped, and lines, as the code has them.
use Rattle.std.specs.Prelude.{◌≡◌, ℕ, Bool, false, Result, Ok, Err}
use Rattle.trace_io.specs.Lines.{at_end, failed, full, Raw}
use Rattle.trace_io.specs.Lines as plain
use Rattle.trace_io.specs.declared.errors.TraceError.{TraceError}
use Rattle.trace_io.specs.declared.errors.TraceError.TheVariants.{ReadFault, Long}
use Rattle.trace_io.specs.declared.cut.Line.{Line}
use Rattle.trace_io.specs.declared.whole.Stop.{Stop}
use Rattle.trace_io.specs.declared.whole.Stop.TheVariants.{AtEnd, Failed, Full}

abbrev pub stop_of : Stop → plain.Stop
stop_of AtEnd = at_end
stop_of Failed = failed
stop_of Full = full

abbrev pub raw_of : Line → Raw
raw_of line = record { bytes = line.bytes.now; ended = line.ended }

-- what is answered where pulling stopped so, and no line with this number is left
abbrev pub EndsAs : plain.Stop → ℕ → Result Bool TraceError → Type 0
EndsAs at_end number r = r ≡ Ok false
EndsAs failed number r = r ≡ Err (ReadFault number)
EndsAs full number r = r ≡ Err Long
