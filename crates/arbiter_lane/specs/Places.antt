-- Where what is told under a number lies, and what a lane's numbers are with it (this project's own profile).
use Rattle.std.specs.Prelude.{ℕ, ◌+◌, ◌%◌, List, [], map, set, get_or}
use Rattle.ack_window.specs.declared.send_window.Decided.{Decided}
use Rattle.ack_window.specs.declared.send_window.Unresolved.{Unresolved}
use Rattle.ack_window.specs.Windows.{Sender}
use Rattle.endpoint_history.specs.Packets.{Telling}

-- the places that tellings go round in, and the one of number 0
pub record TellingPlaces : Type 0 where
  pub first : ℕ
  pub tellings : List Telling

abbrev pub table_place : ℕ → ℕ → ℕ
table_place first number = (number % 129 + first) % 129

-- what lies at the place of a number
abbrev pub telling_at : TellingPlaces → ℕ → Telling
telling_at places number = get_or places.tellings (table_place places.first number) (record { batch = 0; told = [] })

-- the places with this at that of a number
abbrev pub with_telling : TellingPlaces → ℕ → Telling → TellingPlaces
with_telling places number new = record { first = places.first; tellings = set places.tellings (table_place places.first number) new }

-- a number, unresolved or decided, with what lies at its place
abbrev pub unresolved_with : TellingPlaces → Unresolved (Unit {0}) → Unresolved Telling
unresolved_with places s = record { number = s.number; content = telling_at places s.number }

abbrev pub decided_with : TellingPlaces → Decided (Unit {0}) → Decided Telling
decided_with places d = record { number = d.number; lost = d.lost; content = telling_at places d.number }

-- a sender whose unresolved numbers have what lies at their places
abbrev pub with_contents : TellingPlaces → Sender (Unit {0}) → Sender Telling
with_contents places sent = record {
  version = sent.version;
  outstanding = record { newest = sent.outstanding.newest; unresolved = map (unresolved_with places) sent.outstanding.unresolved };
}
