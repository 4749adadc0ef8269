-- A slot that is lost is never sent.
use Rattle.std.proofs.Common.{◌≡◌, ◌≢◌, ℕ, ◌+◌, ◌-◌, ◌*◌, ◌<◌, ◌≤◌, true, false, ◌&&◌, not, cond, nat_lt, List, [], ◌∷◌, ◌++◌, Option, Some, None, sym, ap, subst, inl, inr, arith, mul-le-mul_right}
use Rattle.std.specs.Prelude.{nat_le}
use Rattle.std.proofs.lemmas.Bool.{cases_eq, cases_Bool, cases_lt, eq-eqb, ne_eqb}
use Rattle.fcp_framing.specs.declared.packet.Told.{Told}
use Rattle.endpoint_history.specs.Packets.{Telling, Resets, Requests}
use Rattle.endpoint_history.specs.Sending.{Slot, slots_of_telling}
use Rattle.endpoint_history.specs.Lane.{LaneHistory, MakesDown, TakesUp, Records, epoch_of, last_reset, restarts, telling_in, may_send, numbers, untold}
use Rattle.endpoint_history.specs.Steps.{Step, OfAgent, OfLane, agent_of, lane_of}
use Rattle.endpoint_history.specs.Tellings.{Among, Issue, issued, SlotsAreWithin, ToldWithin}
use Rattle.endpoint_history.specs.NumberLaws.{LostIsNeverSent}
use Rattle.endpoint_history.specs.Windows.{Windows}
use Rattle.endpoint_history.proofs.Issues.{content-came, packet-came}
use Rattle.endpoint_history.proofs.NeverTaken.{ever_taken-made, risen, lost_is_never_taken_in}
use Rattle.endpoint_history.proofs.TakenOnce.{sent_was_taken}

-- ---- what is told is within its batch

telling-within : (b g : ℕ) (history : LaneHistory) (round : ℕ) (told : List Told) → SlotsAreWithin b told → SlotsAreWithin b (telling_in g history round told).told
telling-within b g history round told within =
    elim (nat_le (2 * g) round && nat_le (last_reset history) (round - 2 * g)) as (λ t. SlotsAreWithin b (cond t told [])) [ true ↦ within | false ↦ tt ]

pub issued-within : (b g : ℕ) (history : LaneHistory) (round : ℕ) (issue : Issue) → ToldWithin b history → issued g history round ≡ Some issue → SlotsAreWithin b issue.content.told
issued-within b g [] round issue within is = absurd (cc)
issued-within b g (TakesUp number up ∷ history) round issue within is = issued-within b g history round issue within is
issued-within b g (Records number ∷ history) round issue within is = issued-within b g history round issue within is
issued-within b g (MakesDown number told ∷ history) round issue within is =
    elim (cases_eq number round) [
      | inr other ↦ issued-within b g history round issue within.1 (rw (ne_eqb number round other) at is)
      | inl same ↦
          elim (cases_Bool (nat_lt 0 (epoch_of history) && may_send history (numbers g history))) [
            | inr none ↦ let it = rw (eq-eqb number round same, none) at is in absurd (cc)
            | inl new ↦
                let it = rw (eq-eqb number round same, new) at is in
                let content : telling_in g history number told ≡ issue.content = inside (telling_in g history number told) issue it in
                subst (λ (t : Telling). SlotsAreWithin b t.told) content (telling-within b g history number told within.0)
          ]
    ]
  where
    inside : (t : Telling) (i : Issue) → Some (record { epoch = epoch_of history; number = Rattle.ack_window.specs.Sends.newest_of (numbers g history) + 1; content = t }) ≡ Some i → t ≡ i.content
    inside t i h = ap content_in h
      where
        content_in : Option Issue → Telling
        content_in None = t
        content_in (Some x) = x.content

untold-within : (b g : ℕ) (history : LaneHistory) (telling : Telling) → ToldWithin b history → Among telling (untold g history) → SlotsAreWithin b telling.told
untold-within b g [] telling within among = absurd among
untold-within b g (Records round ∷ history) telling within among = untold-within b g history telling within among
untold-within b g (TakesUp round (Requests packet) ∷ history) telling within among = untold-within b g history telling within among
untold-within b g (TakesUp round (Resets epoch version) ∷ history) telling within among =
    elim (cases_Bool (restarts history epoch)) [
      | inl new ↦ absurd (rw new at among)
      | inr old ↦ untold-within b g history telling within (rw old at among)
    ]
untold-within b g (MakesDown round told ∷ history) telling within among =
    elim (cases_Bool (nat_lt 0 (epoch_of history) && not (may_send history (numbers g history)))) [
      | inr tells ↦ untold-within b g history telling within.1 (rw tells at among)
      | inl stopped ↦ elim (rw stopped at among) [
        | inl same ↦ subst (λ (t : Telling). SlotsAreWithin b t.told) same (telling-within b g history round told within.0)
        | inr before ↦ untold-within b g history telling within.1 before
      ]
    ]

-- ---- a slot's number tells its batch

pub record InBatch (b batch slot : ℕ) : Type 0 where
  pub offset : ℕ
  pub below : offset < b
  pub is : slot ≡ batch * b + 1 + offset

in_batch : (b : ℕ) (batch : ℕ) (told : List Told) (s : Slot) → SlotsAreWithin b told → Among s (slots_of_telling b (record { batch = batch; told = told })) → InBatch b batch s.slot
in_batch b batch [] s within among = absurd among
in_batch b batch (t ∷ told) s within among = elim among [
  | inl here ↦ record { offset = t.offset; below = within.0; is = ap (λ (x : Slot). x.slot) (sym here) }
  | inr there ↦ in_batch b batch told s within.1 there
]

pub some_told : (b : ℕ) (telling : Telling) (s : Slot) → Among s (slots_of_telling b telling) → telling.told ≢ []
some_told b telling s among none = subst (λ (xs : List Told). Among s (slots_of_telling b (record { batch = telling.batch; told = xs }))) none among

pub one_batch : (b k m slot : ℕ) → InBatch b k slot → InBatch b m slot → k ≡ m
one_batch b k m slot one other =
    let a = one.is in
    let c = other.is in
    let u = one.below in
    let v = other.below in
    elim (cases_lt k m) [
      | inl less ↦ let more : (k + 1) * b ≤ m * b = mul-le-mul_right b (omega arith) in absurd (omega arith)
      | inr not_less ↦
          elim (cases_lt m k) [
            | inl less ↦ let more : (m + 1) * b ≤ k * b = mul-le-mul_right b (omega arith) in absurd (omega arith)
            | inr same ↦ omega arith
          ]
    ]

within-before : (b : ℕ) (after before : List Step) → ToldWithin b (lane_of (after ++ before)) → ToldWithin b (lane_of before)
within-before b [] before w = w
within-before b (OfAgent event ∷ after) before w = within-before b after before w
within-before b (OfLane (MakesDown round told) ∷ after) before w = within-before b after before w.1
within-before b (OfLane (TakesUp round up) ∷ after) before w = within-before b after before w
within-before b (OfLane (Records round) ∷ after) before w = within-before b after before w

pub lost_is_never_sent : (w : Windows) → LostIsNeverSent
lost_is_never_sent w endpoints b g later earlier arrives rise within lost is_lost one other among sent same =
    let steps = later ++ earlier in
    let from = sent_was_taken b g (agent_of steps) other sent in
    let t = from.0 in
    let made = ever_taken-made endpoints g steps t arrives from.1 in
    let some_taken = some_told b t.packet.content other from.2 in
    let some_lost = some_told b lost one among in
    let came = packet-came w g (lane_of steps) t.packet rise made some_taken in
    let taken_within = issued-within b g (lane_of steps) (t.packet.content.batch + 2 * g) _ within came.issue in
    let before = within-before b later earlier within in
    let lost_within : SlotsAreWithin b lost.told = elim is_lost [
      | inr untold_it ↦ untold-within b g (lane_of earlier) lost before untold_it
      | inl found ↦ issued-within b g (lane_of earlier) (lost.batch + 2 * g) _ before (content-came g (lane_of earlier) found.0 lost (risen later earlier rise) found.2 some_lost).issue
    ] in
    let there = in_batch b t.packet.content.batch t.packet.content.told other taken_within from.2 in
    let here = in_batch b lost.batch lost.told one lost_within among in
    lost_is_never_taken_in w endpoints g later earlier arrives rise lost is_lost some_lost t from.1 some_taken
    (one_batch b t.packet.content.batch lost.batch other.slot there (subst (λ (n : ℕ). InBatch b lost.batch n) same here))
