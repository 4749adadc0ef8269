use Rattle.std.proofs.Common.{◌≡◌, ◌<◌, ℕ, length}
use Rattle.std.specs.List.{slice_index_or}
use Rattle.greedy_rules.specs.Limits.{rack_of}
use Rattle.endpoint_bitmaps.proofs.free_maps.number_racks.Given as goal

abbrev pub invariant-loop-endpoint : goal.invariant-loop-endpoint
invariant-loop-endpoint l = (length l.racks ≡ length l.fn.racks) × ((at : ℕ) → at < l.endpoint → slice_index_or l.racks at 0 ≡ rack_of l.hosts at)
