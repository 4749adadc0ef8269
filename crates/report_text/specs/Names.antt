-- The names of what an arbiter answers, each at its number: of packets, and of the events of a script (this project's own profile).
use Rattle.std.specs.Prelude.{◌≡◌, ◌⊎◌, ◌<◌, ◌≤◌, ℕ, List, [], ◌∷◌, codes, slice_index_or}

-- 0 is a packet that was taken, all others are refusals; the numbers 13 to 20 have no name
abbrev pub answer_names : List (List ℕ)
answer_names =
    codes "ok" ∷ codes "short" ∷ codes "version" ∷ codes "kind" ∷ codes "endpoint" ∷ codes "count" ∷ codes "order" ∷ codes "selfflow" ∷ codes "toomuch" ∷ codes "mask"
    ∷ codes "trailing" ∷ codes "epoch" ∷ codes "seq" ∷ [] ∷ [] ∷ [] ∷ [] ∷ [] ∷ [] ∷ [] ∷ [] ∷ codes "unsynced" ∷ codes "oldepoch" ∷ codes "oldseq" ∷ codes "repeat"
    ∷ codes "notmine" ∷ codes "otherversion" ∷ []

unfoldable pub answer_name : ℕ → List ℕ
answer_name number = slice_index_or answer_names number []

-- an answer of an arbiter's lane, framing and its own
abbrev pub IsAnswer : ℕ → Type 0
IsAnswer number = (number ≤ 12) ⊎ ((21 ≤ number) × (number ≤ 26))

-- the refusals of framing, and those of an arbiter's lane but the one of another endpoint's packet, which comes to no lane
abbrev pub IsRefusal : ℕ → Type 0
IsRefusal number = ((1 ≤ number) × (number ≤ 12)) ⊎ (((21 ≤ number) × (number ≤ 24)) ⊎ (number ≡ 26))

abbrev pub IsNoRefusal : ℕ → Type 0
IsNoRefusal number = (number ≡ 0) ⊎ (((12 < number) × (number < 21)) ⊎ ((number ≡ 25) ⊎ (26 < number)))

-- why an event of a script is refused
abbrev pub event_names : List (List ℕ)
event_names = codes "nomessage" ∷ codes "oldboot" ∷ codes "oldlease" ∷ codes "nolease" ∷ codes "stale" ∷ codes "unpublished" ∷ codes "repeat" ∷ []

unfoldable pub event_name : ℕ → List ℕ
event_name place = slice_index_or event_names place []

abbrev pub IsEventRefusal : ℕ → Type 0
IsEventRefusal place = place ≤ 6
