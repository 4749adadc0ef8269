-- What the lines of a takeover keep: no batch is published twice, what is sent in a slot is a matching of packets that were published,
-- and no more is sent than was asked for. From this project's own profile.
use Rattle.std.specs.Prelude.{◌≡◌, ◌<◌, ◌≤◌, ⊤, ℕ, Bool, false, ◌==◌, ◌&&◌, List, All, count_by}
use Rattle.report_text.specs.declared.line.Line.{Line}
use Rattle.report_text.specs.declared.line.Line.TheVariants as line

-- it says that this batch was published
abbrev pub is_publishing : ℕ → Line → Bool
is_publishing batch (line.Published node number) = number == batch
is_publishing batch _ = false

-- that the packets of this flow have this slot
abbrev pub is_packet : ℕ → ℕ → ℕ → Line → Bool
is_packet slot src dst (line.Slot number source destination core) = ((source == src) && (destination == dst)) && (number == slot)
is_packet slot src dst _ = false

-- that this source sent in the slot, that it was sent to this destination, and that the flow was sent in some slot
abbrev pub is_send_from : ℕ → ℕ → Line → Bool
is_send_from slot src (line.Sent number source destination) = (number == slot) && (source == src)
is_send_from slot src _ = false

abbrev pub is_send_to : ℕ → ℕ → Line → Bool
is_send_to slot dst (line.Sent number source destination) = (number == slot) && (destination == dst)
is_send_to slot dst _ = false

abbrev pub is_send_of : ℕ → ℕ → Line → Bool
is_send_of src dst (line.Sent number source destination) = (source == src) && (destination == dst)
is_send_of src dst _ = false

-- the packet of a `sent` line was published; a `total` line counts the sends of its flow, no more than were asked for
abbrev pub LineIsKept : List Line → Line → Type 0
LineIsKept lines (line.Sent slot src dst) = 0 < count_by (is_packet slot src dst) lines
LineIsKept lines (line.Total src dst asked sent) = (sent ≡ count_by (is_send_of src dst) lines) × (sent ≤ asked)
LineIsKept lines _ = ⊤

pub record KeepPromises (lines : List Line) : Type 0 where
  pub published : (batch : ℕ) → count_by (is_publishing batch) lines ≤ 1
  pub sources : (slot src : ℕ) → count_by (is_send_from slot src) lines ≤ 1
  pub destinations : (slot dst : ℕ) → count_by (is_send_to slot dst) lines ≤ 1
  pub each : All (LineIsKept lines) lines
