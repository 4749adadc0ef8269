use Rattle.std.proofs.Common.{◌≡◌, ◌<◌, ◌&&◌, ◌||◌, ◌==◌, ℕ, nat_lt}
use Rattle.std.specs.List.{slice_index_or}
use Rattle.greedy_rules.specs.declared.flows.Flow.{Flow}
use Rattle.greedy_rules.specs.Slot.{has_flow}
use Rattle.greedy_rules.specs.Schedule.{slot_in}
use Rattle.endpoint_bitmaps.specs.Slots.{has_slot}
use Rattle.window_allocation.specs.Needs.{place_of}
use Rattle.window_allocation.proofs.flow_slots.FlowSlots.note_slot.Given as goal

abbrev pub invariant-loop-src : goal.invariant-loop-src
invariant-loop-src l = record {
  endpoints : l.self.endpoints ≡ l.fn.self.endpoints;
  named : (flow : Flow) (at : ℕ) → flow.src < l.fn.self.endpoints → flow.dst < l.fn.self.endpoints
      → has_slot (slice_index_or l.self.words.items (place_of l.fn.self.endpoints flow.src flow.dst) 0) at
      ≡ (has_slot (slice_index_or l.fn.self.words.items (place_of l.fn.self.endpoints flow.src flow.dst) 0) at
      || ((at == l.slot) && (nat_lt flow.src l.src && has_flow (slot_in l.out.slots l.slot) flow)));
}
