-- What the parts of lines before the statements stand for.
use Rattle.c_step.specs.inner.LineReading.{SizeParts, CodeParts}
use Rattle.c_step.specs.declared.head_lines.Sizes.{Sizes}
use Rattle.c_step.specs.declared.head_lines.RegisterCode.{RegisterCode}

abbrev pub size_parts_of : Sizes → SizeParts
size_parts_of z = record { words = z.words; bits = z.bits }

abbrev pub code_parts_of : RegisterCode → CodeParts
code_parts_of c = record { register = c.register; code = c.code }
