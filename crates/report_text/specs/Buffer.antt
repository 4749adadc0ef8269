-- A buffer of lines.
use Rattle.std.specs.Prelude.{◌+◌, ◌*◌, ◌<◌, ◌≤◌, ℕ, List, length}

-- how many bytes it has, and how many a line takes at most
abbrev pub capacity : ℕ
capacity = 65536

abbrev pub line_most : ℕ
line_most = 192

-- behind this text there is room for any line, or there is not
abbrev pub HasRoom : List ℕ → Type 0
HasRoom text = length text + line_most ≤ capacity

-- and how many bytes a packet of a slot takes at most, and whether there is room for so many of them
abbrev pub packet_most : ℕ
packet_most = 64

abbrev pub HasRoomFor : ℕ → List ℕ → Type 0
HasRoomFor packets text = length text + packet_most * packets ≤ capacity

abbrev pub IsFull : List ℕ → Type 0
IsFull text = capacity < length text + line_most
