use Rattle.std.proofs.Common.{◌≡◌, ◌≤◌, ℕ, Bool, List, length}
use Rattle.greedy_rules.specs.declared.flows.Item.{Item}
use Rattle.slot_batches.specs.Woven.{places_from}
use Rattle.window_allocation.specs.Logged.{ArePlaced, NeedsHaveBits}
use Rattle.window_allocation.proofs.LogWeaving.{IsPutBack}
use Rattle.window_allocation.proofs.item_log.put_back.Given as goal

abbrev pub invariant-loop-place : goal.invariant-loop-place
invariant-loop-place l = record {
  within : l.at ≤ length l.rest;
  size : length l.items ≡ length l.fn.items;
  words : length l.words ≡ length l.fn.words;
  placed : (endpoints : ℕ) (table : List ℕ) → ArePlaced endpoints table l.fn.items → ArePlaced endpoints table l.items;
  bits : NeedsHaveBits l.fn.words l.fn.items → NeedsHaveBits l.words l.items;
  woven : (aside : Item → Bool) → l.places ≡ places_from aside 0 l.fn.items → IsPutBack aside l.place-index l.places l.fn.items l.items l.at l.rest;
}
