-- What no loss, delay, repeat or boot does.
use Rattle.std.proofs.Common.{◌≡◌, ◌≤◌, ◌+◌, ℕ, List, [], ◌∷◌, ◌++◌, length, refl, sym, subst}
use Rattle.endpoint_history.specs.Agent.{asked}
use Rattle.endpoint_history.specs.Lane.{epoch_of}
use Rattle.endpoint_history.specs.NumberLaws.{AcknowledgedSlotsAreTakenOnce, LostIsNeverSent, WasTakenOnce}
use Rattle.endpoint_history.specs.RoundLaws.{RoundsArriveFromOther, RoundsAreInOrder}
use Rattle.endpoint_history.specs.Rounds.{Round, recorded, played, sent_by, NamedByNoRaw}
use Rattle.endpoint_history.specs.Sending.{sends, ever_sent, in_time_from}
use Rattle.endpoint_history.specs.SlotLaws.{ToldIsOwed, SendsAndWaitingAreAsked, NoneIsPassedOver}
use Rattle.endpoint_history.specs.Steps.{Step, agent_of, lane_of, ArrivesFromOther, RoundsRise}
use Rattle.endpoint_history.specs.Tellings.{Among, ToldWithin}
use Rattle.endpoint_history.specs.Unharmed.{due_by, NoLossOrBootHarms}

all_due : RoundsArriveFromOther → RoundsAreInOrder → NoneIsPassedOver → (endpoints b g : ℕ) (rounds : List Round) → NamedByNoRaw rounds → ToldIsOwed g (played endpoints g rounds).steps → sent_by endpoints b g rounds ≡ due_by endpoints b g rounds
all_due arrive order passed endpoints b g [] none owed = refl
all_due arrive order passed endpoints b g (round ∷ earlier) none owed =
    let steps : List Step = recorded endpoints g (length earlier) round (played endpoints g earlier) in
    let rises = (order endpoints g (round ∷ earlier)).sends in
    passed endpoints b g steps (length earlier) (arrive endpoints g (round ∷ earlier) none) rises.1 owed rises.0

pub no_loss_or_boot_harms : LostIsNeverSent → AcknowledgedSlotsAreTakenOnce → SendsAndWaitingAreAsked → NoneIsPassedOver → RoundsArriveFromOther → RoundsAreInOrder → NoLossOrBootHarms
no_loss_or_boot_harms never_sent taken_once waiting passed arrive order endpoints b g rounds none within owed =
    let steps : List Step = (played endpoints g rounds).steps in
    let calls = agent_of steps in
    let in_order = order endpoints g rounds in
    let arrives = arrive endpoints g rounds none in
    let comes : (later earlier : List Step) → steps ≡ later ++ earlier → ArrivesFromOther endpoints g (later ++ earlier) = λ later earlier parts. subst (λ (xs : List Step). ArrivesFromOther endpoints g xs) parts arrives in
    let rise : (later earlier : List Step) → steps ≡ later ++ earlier → RoundsRise (lane_of (later ++ earlier)) = λ later earlier parts. subst (λ (xs : List Step). RoundsRise (lane_of xs)) parts in_order.rise in
    record {
      lost = λ later earlier parts lost is one other among sent.
          never_sent endpoints b g later earlier (comes later earlier parts) (rise later earlier parts) (subst (λ (xs : List Step). ToldWithin b (lane_of xs)) parts within) lost is one other among
          (subst (λ (xs : List Step). Among other (ever_sent b g (agent_of xs))) parts sent);
      acknowledged = λ later earlier parts number telling counted is told shown.
          subst (λ (xs : List Step). WasTakenOnce (agent_of earlier) (agent_of xs) (epoch_of (lane_of earlier)) number telling) (sym parts)
          (taken_once endpoints g later earlier (comes later earlier parts) (rise later earlier parts) number telling counted is told shown);
      waiting = λ dst. subst (λ (n : ℕ). sends b g calls dst + in_time_from g calls n dst ≤ asked calls dst) in_order.sent (waiting endpoints b g steps arrives in_order.sends owed dst);
      sent = all_due arrive order passed endpoints b g rounds none owed;
    }
