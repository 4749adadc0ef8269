-- Which flows the maps of a batch note, so that all words can be made one again (this project's own profile).
use Rattle.std.specs.Prelude.{◌≡◌, ◌<◌, ℕ, List, length, map, ◌⊎◌}
use Rattle.std.specs.List.{slice_index_or, All, Contains}
use Rattle.greedy_rules.specs.declared.flows.Flow.{Flow}

-- each word is this one, but for those of these endpoints
abbrev pub AreButAt : ℕ → List ℕ → List ℕ → Type 0
AreButAt word endpoints words = (at : ℕ) → at < length words → (slice_index_or words at 0 ≡ word) ⊎ Contains endpoints at

-- each endpoint's words are this one, but for that of each source to send, and that of each destination to receive
pub record AreEnds (word : ℕ) (flows : List Flow) (senders receivers : List ℕ) : Type 0 where
  pub sources : All (λ flow. flow.src < length senders) flows
  pub destinations : All (λ flow. flow.dst < length receivers) flows
  pub to_send : AreButAt word (map (λ flow. flow.src) flows) senders
  pub to_receive : AreButAt word (map (λ flow. flow.dst) flows) receivers

-- where there is room for one flow more, these are all that took slots
abbrev pub NotesTaken : ℕ → ℕ → List Flow → List ℕ → List ℕ → Type 0
NotesTaken room word flows senders receivers = length flows < room → AreEnds word flows senders receivers
