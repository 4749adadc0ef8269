use Rattle.std.proofs.Common.{◌≡◌, length}
use Rattle.replay_rounds.proofs.OpenedLanes.{AreOpened}
use Rattle.replay_rounds.proofs.rounds.ReplayRounds.open.Given as goal

abbrev pub invariant-loop-endpoint : goal.invariant-loop-endpoint
invariant-loop-endpoint l = record {
  count : length l.lanes.items ≡ l.endpoint;
  each : AreOpened l.endpoints l.b l.g l.lanes.items;
}
