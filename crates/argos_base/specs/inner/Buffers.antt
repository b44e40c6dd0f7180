-- The buffers of which the devices in memory are made.
use Rattle.std.specs.Prelude.{ℕ, ◌-◌, List, take, drop, vec_len}
use Rattle.argos_base.specs.declared.fakes.Rest.{Rest}
use Rattle.argos_base.specs.declared.fakes.Room.{Room}

-- the bytes that weren't taken yet
abbrev pub bytes_left : Rest → List ℕ
bytes_left r = drop r.at r.bytes.items

-- the bytes that were appended
abbrev pub bytes_held : Room → List ℕ
bytes_held r = take r.len r.bytes.items

-- how many more bytes there is room for
abbrev pub room_left : Room → ℕ
room_left r = vec_len r.bytes - r.len
