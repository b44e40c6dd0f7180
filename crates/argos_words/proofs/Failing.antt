-- What holds where the words are refused.
use Rattle.argos_words.specs.declared.command.WordsError.{WordsError}
use Rattle.argos_words.specs.declared.command.WordsError.TheVariants.{Usage, OutOfMemory}
use Rattle.argos_words.specs.inner.Reading.{OnUsage}

pub on_usage : (e : WordsError) {P Q : Type 0} → (P → Q) → OnUsage e P → OnUsage e Q
on_usage Usage h p = h p
on_usage OutOfMemory h p = tt
