use Rattle.std.proofs.Common.{◌≡◌, map, string_bytes, take}
use Rattle.argos_words.specs.Views.{texts_of}
use Rattle.argos_words.proofs.parts.copies.Given as goal

-- the words so far are copied
abbrev pub invariant-loop-word : goal.invariant-loop-word
invariant-loop-word l = map string_bytes l.copies.items ≡ texts_of (take l.word-index l.words)
