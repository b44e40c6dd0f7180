-- What operands mean, one after the other.
use Rattle.std.proofs.Common.{◌≡◌, ℕ, ◌+◌, ◌<◌, List, ◌&&◌, ◌||◌, map, length, get_or, drop}
use Rattle.std.proofs.lemmas.Grind.{common_steps}
use Rattle.std.proofs.lemmas.List.{at_drop_more}
use Rattle.argos_base.specs.SignalSets.{SignalSet}
use Rattle.argos_core.specs.Guards.{holds, every, some, reads, reads_some}
use Rattle.argos_core.specs.Views.{guard_of, guards_of}
use Rattle.argos_core.specs.declared.prog.Guard.{Guard}

pub every-drop : (v : SignalSet) (gs : List Guard) (i : ℕ) (d : Guard) → i < length gs → every (guards_of (map guard_of (drop i gs))) v ≡ (holds (guard_of (get_or gs i d)) v && every (guards_of (map guard_of (drop (i + 1) gs))) v)
every-drop v = at_drop_more (λ gs. every (guards_of (map guard_of gs)) v)

pub some-drop : (v : SignalSet) (gs : List Guard) (i : ℕ) (d : Guard) → i < length gs → some (guards_of (map guard_of (drop i gs))) v ≡ (holds (guard_of (get_or gs i d)) v || some (guards_of (map guard_of (drop (i + 1) gs))) v)
some-drop v = at_drop_more (λ gs. some (guards_of (map guard_of gs)) v)

pub reads_some-drop : (k : ℕ) (gs : List Guard) (i : ℕ) (d : Guard) → i < length gs → reads_some (guards_of (map guard_of (drop i gs))) k ≡ (reads (guard_of (get_or gs i d)) k || reads_some (guards_of (map guard_of (drop (i + 1) gs))) k)
reads_some-drop k = at_drop_more (λ gs. reads_some (guards_of (map guard_of gs)) k)

pub ruleset guard_lists = (common_steps, every-drop, some-drop, reads_some-drop)
