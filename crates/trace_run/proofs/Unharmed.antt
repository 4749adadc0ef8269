-- What no loss, delay, repeat or boot does to an endpoint that no raw row names.
use Rattle.std.proofs.Common.{ℕ, List, arith}
use Rattle.fcp_framing.specs.declared.packet.Told.{Told}
use Rattle.endpoint_history.specs.Tellings.{ToldWithin}
use Rattle.trace_run.specs.Run.{told_in, replayed}
use Rattle.trace_run.specs.Histories.{lane_after}
use Rattle.trace_run.specs.Sends.{ToldIsOwedInEachRound}
use Rattle.trace_run.specs.Unharmed.{NoLossOrBootHarmsARun}
use Rattle.trace_run.specs.Premises.{Schedules, EndsLaws}
use Rattle.trace_run.proofs.Sends.{told_are, are-within, none-named}
use Rattle.trace_run.proofs.ToldOf.{told_in-within}

pub no_loss_or_boot_harms_a_run : Schedules → EndsLaws → ToldIsOwedInEachRound → NoLossOrBootHarmsARun
no_loss_or_boot_harms_a_run s ends owed_is setting some rounds endpoint low none =
    let batches = (replayed setting rounds).batches in
    let of : ℕ → List Told = λ round. told_in setting batches round endpoint in
    let within : ToldWithin setting.b (lane_after setting rounds endpoint) =
    are-within setting.b of (λ round. told_in-within setting batches round endpoint) (lane_after setting rounds endpoint) (told_are s setting some rounds rounds endpoint (omega arith)) in
    ends.harmless setting.endpoints setting.b setting.g ((replayed setting rounds).rounds endpoint) (none-named setting rounds endpoint none) within (owed_is setting some rounds endpoint low)
