-- What is promised of every list of events: no batch twice, slots that are matchings, sends_of_flow that were asked_of_flow for, and generations that
-- are scheduled. From this project's own profile.
use Rattle.std.specs.Prelude.{◌≡◌, ◌≢◌, ◌<◌, ◌≤◌, ℕ, ◌+◌, true, List, [], Contains, All, AllPairs}
use Rattle.greedy_rules.specs.declared.flows.Flow.{Flow}
use Rattle.greedy_rules.specs.Batches.{DemandBatch}
use Rattle.greedy_rules.specs.Slot.{has_flow}
use Rattle.greedy_rules.specs.Matching.{IsMatching}
use Rattle.greedy_rules.specs.Schedule.{first_slot, slot_in}
use Rattle.takeover_history.specs.declared.event.Event.TheVariants.{Hear}
use Rattle.takeover_history.specs.declared.event.Event.{Event}
use Rattle.takeover_history.specs.Events.{PairSetting, BatchIssue, Heard, Log}
use Rattle.takeover_history.specs.Endpoints.{generation_of, issues, Send, sends_at, sent, sends_of_flow, asked_of_flow}
use Rattle.takeover_history.specs.Batches.{published_batches, slots_by}
use Rattle.takeover_history.specs.Laws.{flows_sent_in, IsPublished, slots_published}
use Rattle.takeover_history.specs.Steps.{done, log_of}

pub record IsPromised (setting : PairSetting) (log : Log) : Type 0 where
  -- no batch is published twice, by either node
  pub once : AllPairs (λ (i j : BatchIssue). i.number ≢ j.number) (issues log)
  -- all sends_of_flow in a slot are a matching, each in the published batch of that slot, and an endpoint sends_of_flow in it at most once
  pub matching : (number : ℕ) → IsMatching (flows_sent_in setting log number)
  pub published : All (IsPublished setting log) (sent setting log)
  pub sent_once : AllPairs (λ (s t : Send). s.slot ≡ t.slot → s.flow.src ≢ t.flow.src) (sent setting log)
  -- no more is sent than was asked_of_flow for
  pub asks : (flow : Flow) → sends_of_flow setting log flow ≤ asked_of_flow log flow
  -- whatever batch of its own generation an endpoint hears next, it sends_of_flow in each of its slots; of a later one it has none
  pub none_passed : (batch : ℕ) (issue : BatchIssue) (flow : Flow) (offset : ℕ) → done setting log (Hear flow.src batch) ≡ Heard flow.src issue → generation_of log flow.src ≡ issue.lease.generation
      → offset < setting.b → has_flow (slot_in issue.slots offset) flow ≡ true → Contains (sends_at setting log flow.src issue) (record { slot = first_slot setting.b issue.number + offset; flow = flow })
  pub none_later : (batch : ℕ) (issue : BatchIssue) (flow : Flow) (offset : ℕ) → done setting log (Hear flow.src batch) ≡ Heard flow.src issue → generation_of log flow.src < issue.lease.generation
      → offset < setting.b → has_flow (slot_in issue.slots offset) flow ≢ true
  -- the slots of a generation are the schedule of its batches in their numbers, which rise, all by one node in one boot
  pub scheduled : (generation : ℕ) → slots_published generation log ≡ slots_by setting.b [] (published_batches generation log)
  pub rise : (generation : ℕ) → AllPairs (λ (x y : ℕ × DemandBatch). x.0 < y.0) (published_batches generation log)
  pub one_node : AllPairs (λ (i j : BatchIssue). i.lease.generation ≡ j.lease.generation → i.lease.holder ≡ j.lease.holder) (issues log)

-- so it is for every list of events
abbrev pub EveryListIsPromised : Type 0
EveryListIsPromised = (setting : PairSetting) (events : List Event) → IsPromised setting (log_of setting events)
