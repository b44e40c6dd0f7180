use Rattle.std.proofs.Common.{◌≡◌, ◌-◌, ◌^◌, true, take, min}
use Rattle.std.specs.List.{list_all}
use Rattle.std.specs.Char.{is_ascii_digit}
use Rattle.argos_base.specs.Spelling.{number_of}
use Rattle.line_format.proofs.decimals.read_number.Given as goal

abbrev pub invariant-loop-byte : goal.invariant-loop-byte
invariant-loop-byte l = record { digits : list_all is_ascii_digit (take l.byte-index l.bytes) ≡ true; value : l.value ≡ min (number_of (take l.byte-index l.bytes)) (2 ^ 64 - 1) }
