-- What the parts of a lane's calls read of it and write into it (this project's own profile).
use Rattle.std.specs.Prelude.{◌≡◌, ◌≤◌, ◌<◌, ◌^◌, ℕ, ◌+◌, ◌*◌, ◌-◌, ◌&&◌, Bool, false, nat_le, List, [], ◌∷◌, length, Option, Some, slice_get, if◌then◌else◌}
use Rattle.std.specs.Option.{option_and_then}
use Rattle.std.specs.List.{filter_map, range_with_len}
use Rattle.greedy_rules.specs.declared.flows.Entry.{Entry}
use Rattle.fcp_framing.specs.declared.packet.Told.{Told}
use Rattle.fcp_framing.specs.declared.packet.Up.{Up}
use Rattle.fcp_framing.specs.declared.packet.Down.{Down}
use Rattle.ack_window.specs.declared.acknowledgement.Acknowledgement.{Acknowledgement}
use Rattle.arbiter_lane.specs.declared.line.LaneLine.{LaneLine}
use Rattle.line_marks.specs.Places.{Places, is_marked}
use Rattle.ack_window.specs.Outstanding.{may_send_new}
use Rattle.ack_window.specs.Sends.{Event, Sends}
use Rattle.ack_window.specs.Versions.{span_of}
use Rattle.ack_window.specs.Windows.{Sender}
use Rattle.endpoint_history.specs.Packets.{Telling, slots_to}
use Rattle.arbiter_lane.specs.State.{LaneState}
use Rattle.arbiter_lane.specs.Lines.{entry_on, has_entry}

-- the packet of a number that tells these slots, with the acknowledgement of what arrived
abbrev pub packet_with : LaneState → ℕ → ℕ → List Told → Down
packet_with lane seq batch told = record {
  version = lane.version;
  dst = lane.endpoint;
  epoch = lane.epoch;
  seq = seq;
  high = lane.arrived.told.high;
  mask = lane.arrived.told.mask;
  batch = batch;
  told = record { items = told };
}

-- the slots that are told in a round: none of a batch that was recorded before the last reset
abbrev pub slots_to_tell : LaneState → ℕ → List Told → List Told
slots_to_tell lane round told = if nat_le (2 * lane.g) round && nat_le lane.last_reset (round - 2 * lane.g) then told else []

-- what a request acknowledges
abbrev pub acknowledgement_in : Up → Acknowledgement
acknowledgement_in up = record { high = up.high; mask = up.mask }

-- what each line owes fits a number, and is not below what is entered
pub record CanRise (lines : List LaneLine) : Type 0 where
  pub fits : (dst : ℕ) (line : LaneLine) → slice_get lines dst ≡ Some line → line.count.demanded + line.count.lost < 2 ^ 32
  pub entered : (dst : ℕ) (line : LaneLine) → slice_get lines dst ≡ Some line → line.entered ≤ line.count.demanded + line.count.lost

-- the entry of the line of a destination, for the flow from an endpoint
abbrev pub entry_of_line : List LaneLine → ℕ → Bool → ℕ → Option Entry
entry_of_line lines endpoint resets dst =
    option_and_then (λ line. entry_on line (record { src = endpoint; dst = dst }) resets) (slice_get lines dst)

abbrev pub entries_on : List LaneLine → ℕ → Bool → List Entry
entries_on lines endpoint resets = filter_map (entry_of_line lines endpoint resets) (range_with_len 0 (length lines))

-- a line that has risen since it was entered last is marked; others may be, too
abbrev pub RisenAreMarked : Places → List LaneLine → Type 0
RisenAreMarked marks lines = (dst : ℕ) (line : LaneLine) → slice_get lines dst ≡ Some line → is_marked marks dst ≡ false → line.count.demanded + line.count.lost ≡ line.entered

-- only marked lines have an entry
abbrev pub HaveEntriesMarked : Places → Bool → List LaneLine → Type 0
HaveEntriesMarked marks resets lines = (dst : ℕ) (line : LaneLine) → slice_get lines dst ≡ Some line → is_marked marks dst ≡ false → has_entry resets line ≡ false

-- a new number may be sent
abbrev pub may_tell : Sender Telling → Bool
may_tell sent = may_send_new (span_of sent.version) sent.outstanding.newest sent.outstanding.unresolved

-- what is told goes under a new number, where one may be sent
abbrev pub events_after : Sender Telling → Telling → List (Event Telling) → List (Event Telling)
events_after sent telling events = if may_tell sent then Sends telling ∷ events else events

-- and is lost where none may
abbrev pub lost_by : Sender Telling → List Told → ℕ → ℕ
lost_by sent told dst = if may_tell sent then 0 else slots_to dst told
