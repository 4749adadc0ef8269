-- Which endpoints send in the slots of a table, as bits of words: a slot has a word for each 64 endpoints.
use Rattle.std.specs.Prelude.{◌≡◌, ◌<◌, ℕ, ◌+◌, ◌*◌, ◌/◌, ◌%◌, ◌==◌, ◌&&◌, List, length, Bool, nat_lt, is_some, vec_len}
use Rattle.std.specs.List.{slice_index_or}
use Rattle.std.specs.Int.{bit_at}
use Rattle.greedy_rules.specs.declared.flows.Flow.{Flow}
use Rattle.greedy_rules.specs.declared.senders.Senders.{Senders}
use Rattle.greedy_rules.specs.Schedule.{slot_in}
use Rattle.greedy_rules.specs.SlotTable.{destination_of}
use Rattle.list_facts.specs.Bits.{names_place}

-- how many words so many endpoints have in a slot
abbrev pub words_for : ℕ → ℕ
words_for endpoints = (endpoints + 63) / 64

-- the source's bit in the slot
abbrev pub is_sender : Senders → ℕ → ℕ → Bool
is_sender senders slot src = nat_lt (src / 64) senders.each && (bit_at (slice_index_or senders.words.items (slot * senders.each + src / 64) 0) (src % 64) == 1)

-- there are words for so many slots and endpoints
pub record HasSenderWords (slots endpoints : ℕ) (senders : Senders) : Type 0 where
  pub each : senders.each ≡ words_for endpoints
  pub count : vec_len senders.words ≡ slots * senders.each

-- the words tell of each slot who sends in it
pub record TellSenders (endpoints : ℕ) (slots : List (List Flow)) (senders : Senders) : Type 0 where
  pub words : HasSenderWords (length slots) endpoints senders
  pub tell : (slot src : ℕ) → slot < length slots → is_sender senders slot src ≡ is_some (destination_of (slot_in slots slot) src)

-- these words have a bit for each source that sends in the slot, and no other
abbrev pub AreSendersOf : List Flow → List ℕ → Type 0
AreSendersOf slot words = (src : ℕ) → names_place words src ≡ is_some (destination_of slot src)
