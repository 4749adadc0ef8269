-- What a send and a reading make of a sender: a step that its numbers alone decide, by which it goes on to be what its calls make it. From this project's own profile.
use Rattle.std.specs.Prelude.{◌≡◌, ◌+◌, List, [], ◌∷◌, ◌++◌, All, Some}
use Rattle.ack_window.specs.declared.send_window.Decided.{Decided}
use Rattle.ack_window.specs.declared.acknowledgement.Acknowledgement.{Acknowledgement}
use Rattle.ack_window.specs.Acknowledgement.{decision_read}
use Rattle.ack_window.specs.Outstanding.{decided_in, left_in}
use Rattle.ack_window.specs.Sends.{Event, Sends, Reads, newest_content, decided_by}
use Rattle.ack_window.specs.Versions.{reorder_of, span_of}
use Rattle.ack_window.specs.Windows.{Sender, HasDone, MaySend}

module _ {T : Type 0} where
  -- a sender that sent this content under the next number
  abbrev pub after_sending : Sender T → T → Sender T
  after_sending window content = record {
    version = window.version;
    outstanding = record {
      newest = window.outstanding.newest + 1;
      unresolved = window.outstanding.unresolved ++ record { number = window.outstanding.newest + 1; content = content } ∷ [];
    };
  }

  -- a sender that read this acknowledgement, and what it decides of the unresolved numbers
  abbrev pub after_reading : Sender T → Acknowledgement → Sender T
  after_reading window ack = record {
    version = window.version;
    outstanding = record {
      newest = window.outstanding.newest;
      unresolved = left_in (decision_read (reorder_of window.version) (span_of window.version) window.outstanding.newest ack) window.outstanding.unresolved;
    };
  }

  abbrev pub decided_for : Sender T → Acknowledgement → List (Decided T)
  decided_for window ack = decided_in (decision_read (reorder_of window.version) (span_of window.version) window.outstanding.newest ack) window.outstanding.unresolved

module _ (T : Type 0) where
  -- a sender that is what a history makes it goes on to be so, step by step
  pub record SendersGoOnByStep : Type 0 where
    pub sends : (window : Sender T) (content : T) (history : List (Event T)) → HasDone window history → MaySend window → HasDone (after_sending window content) (Sends content ∷ history)
    pub reads : (window : Sender T) (ack : Acknowledgement) (history : List (Event T)) → HasDone window history → HasDone (after_reading window ack) (Reads ack ∷ history)
    -- what it decides, and the newest content where the newest number is unresolved
    pub decided : (window : Sender T) (ack : Acknowledgement) (history : List (Event T)) → HasDone window history →
        decided_by (reorder_of window.version) (span_of window.version) history ack ≡ decided_for window ack
    pub newest : (window : Sender T) (history : List (Event T)) → HasDone window history →
        All (λ s. s.number ≡ window.outstanding.newest → newest_content history ≡ Some s.content) window.outstanding.unresolved
