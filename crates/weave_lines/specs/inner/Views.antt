-- What the memories of the code stand for. Source: this project.
use Rattle.weave_lines.specs.WovenLines.{Words}
use Rattle.weave_lines.specs.declared.together.Memories.{Memories}

abbrev pub words_of : Memories → Words
words_of m = record { base = m.base.items; observer = m.observer.items }
