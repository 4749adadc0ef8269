-- What a packet that was read is to a lane.
use Rattle.std.proofs.Common.{◌≡◌, ◌≢◌, ℕ, ◌<◌, ◌≤◌, true, false, cond, List, ◌∷◌, All, Option, Some, None, ap, ◌∙◌, sym, subst, inl, inr, arith}
use Rattle.std.specs.Prelude.{IfSome}
use Rattle.std.proofs.lemmas.Bool.{false≢true, eq-eqb, le-ltb}
use Rattle.ack_window.specs.Arrivals.{receive_verdict}
use Rattle.ack_window.specs.Versions.{reorder_of}
use Rattle.ack_window.specs.Ends.{Numbered}
use Rattle.fcp_framing.specs.declared.packet.Demand.{Demand}
use Rattle.fcp_framing.specs.declared.packet.Up.{Up}
use Rattle.fcp_framing.specs.Spelling.{SpellsUp, IsRequest}
use Rattle.fcp_framing.specs.Versions.{IsVersion}
use Rattle.fcp_framing.specs.Fields.{up_of}
use Rattle.fcp_framing.specs.Refusals.{first_refusal, refuses_up}
use Rattle.endpoint_history.specs.Packets.{Resets, Requests, up_packet}
use Rattle.endpoint_history.specs.Lane.{LaneHistory, TakesUp, epoch_of, version_of, arrived}
use Rattle.endpoint_history.specs.Counts.{Allocation}
use Rattle.endpoint_history.specs.CountLaws.{ReadingDecides, ResetsCountAnew}
use Rattle.arbiter_lane.specs.State.{LaneState}
use Rattle.arbiter_lane.specs.Refusals.{up_refusal, up_refusal_or, up_refusal_of_packet, up_refusal_of_number}
use Rattle.arbiter_lane.specs.Standing.{LaneStandsFor}
use Rattle.arbiter_lane.proofs.Hearing.{NamesOthers}
use Rattle.arbiter_lane.proofs.Refusing.{stands-reset_again, stands-other_epoch, stands-other_version}

-- ---- what was read

-- a request, as a history speaks of it
abbrev pub request_in : Up → Numbered (List Demand)
request_in up = record { epoch = up.epoch; version = up.version; seq = up.seq; ack = record { high = up.high; mask = up.mask }; content = up.demands.items }

pub request-is : (up : Up) → up.reset ≡ false → up_packet up ≡ Requests (request_in up)
request-is up request = ap (λ b. cond b (Resets up.epoch up.version) (Requests (request_in up))) request

pub reset-is : (up : Up) → up.reset ≡ true → up_packet up ≡ Resets up.epoch up.version
reset-is up resets_it = ap (λ b. cond b (Resets up.epoch up.version) (Requests (request_in up))) resets_it

pub request_rules : (endpoints : ℕ) (bytes : List ℕ) (up : Up) → SpellsUp endpoints bytes up → up.reset ≡ false → IsRequest endpoints up
request_rules endpoints bytes up (inl spells) request = absurd (false≢true (sym request ∙ ap (λ (u : Up). u.reset) spells.rules.blank))
request_rules endpoints bytes up (inr spells) request = spells.rules

pub version_rules : (endpoints : ℕ) (bytes : List ℕ) (up : Up) → SpellsUp endpoints bytes up → IsVersion up.version
version_rules endpoints bytes up (inl spells) = spells.rules.version
version_rules endpoints bytes up (inr spells) = spells.rules.version

pub names_others : (lane : LaneState) (endpoints : ℕ) (bytes : List ℕ) (up : Up) → SpellsUp endpoints bytes up → up.reset ≡ false → up.src ≡ lane.endpoint → NamesOthers lane up.demands.items
names_others lane endpoints bytes up spells request own =
    let rules = request_rules endpoints bytes up spells request in
    record { others = subst (λ src. All (λ (demand : Demand). demand.dst ≢ src) up.demands.items) own rules.others; totals = rules.totals }

-- ---- what it is refused for

-- a request of the lane's epoch and version is refused for its number alone
pub refusal-request : (lane : LaneState) (bytes : List ℕ) (up : Up) (history : LaneHistory) (allocations : List Allocation) → first_refusal (refuses_up lane.endpoints bytes) ≡ None → up ≡ up_of bytes → up.src ≡ lane.endpoint → up.epoch ≡ lane.epoch →
    up.version ≡ lane.version → up.reset ≡ false → lane.arrived.version ≡ lane.version → LaneStandsFor lane history allocations →
    up_refusal lane.endpoint lane.endpoints history bytes ≡ up_refusal_of_number (receive_verdict (reorder_of lane.arrived.version) (arrived history) up.seq)
refusal-request lane bytes up history allocations spelled read own epoch version request heard_version stands =
    let known : up.epoch ≡ epoch_of history = epoch ∙ stands.epoch in
    ap (λ o. up_refusal_or o (up_refusal_of_packet lane.endpoint history (up_of bytes))) spelled
    ∙ (ap (up_refusal_of_packet lane.endpoint history) (sym read)
    ∙ rw (eq-eqb up.src lane.endpoint own, le-ltb up.epoch (epoch_of history) (omega (arith, known)), le-ltb (epoch_of history) up.epoch (omega (arith, known)), eq-eqb up.version (version_of history) (version ∙ stands.version), request)
    (ap (λ v. up_refusal_of_number (receive_verdict (reorder_of v) (arrived history) up.seq)) (sym (heard_version ∙ stands.version))))

pub IfSome-then : {X : Type 0} (P Q : X → Type 0) (o : Option X) → IfSome o P → ((x : X) → P x → Q x) → IfSome o Q
IfSome-then P Q None p then = tt
IfSome-then P Q (Some x) p then = then x p

-- ---- what changes nothing

pub stands-old_epoch : (reads : ReadingDecides) (resets : ResetsCountAnew) (lane : LaneState) (round : ℕ) (up : Up) (history : LaneHistory) (allocations : List Allocation) → up.epoch < lane.epoch → LaneStandsFor lane history allocations →
    LaneStandsFor lane (TakesUp round (up_packet up) ∷ history) allocations
stands-old_epoch reads resets lane round up history allocations lower stands =
    elim up.reset as (λ b. LaneStandsFor lane (TakesUp round (cond b (Resets up.epoch up.version) (Requests (request_in up))) ∷ history) allocations) [
      | true ↦ stands-reset_again resets lane round up.epoch up.version history allocations (omega (arith, lower)) stands
      | false ↦ stands-other_epoch reads lane round (request_in up) history allocations (λ h. omega (arith, h, lower)) stands
    ]

pub stands-version : (reads : ReadingDecides) (resets : ResetsCountAnew) (lane : LaneState) (round : ℕ) (up : Up) (history : LaneHistory) (allocations : List Allocation) → up.epoch ≤ lane.epoch → up.version ≢ lane.version → LaneStandsFor lane history allocations →
    LaneStandsFor lane (TakesUp round (up_packet up) ∷ history) allocations
stands-version reads resets lane round up history allocations known other stands =
    elim up.reset as (λ b. LaneStandsFor lane (TakesUp round (cond b (Resets up.epoch up.version) (Requests (request_in up))) ∷ history) allocations) [
      | true ↦ stands-reset_again resets lane round up.epoch up.version history allocations known stands
      | false ↦ stands-other_version reads lane round (request_in up) history allocations other stands
    ]

pub stands-unsynced : (reads : ReadingDecides) (lane : LaneState) (round : ℕ) (up : Up) (history : LaneHistory) (allocations : List Allocation) → up.reset ≡ false → lane.epoch < up.epoch → LaneStandsFor lane history allocations →
    LaneStandsFor lane (TakesUp round (up_packet up) ∷ history) allocations
stands-unsynced reads lane round up history allocations request greater stands =
    subst (λ p. LaneStandsFor lane (TakesUp round p ∷ history) allocations) (sym (request-is up request)) (stands-other_epoch reads lane round (request_in up) history allocations (λ h. omega (arith, h, greater)) stands)

pub stands-again : (resets : ResetsCountAnew) (lane : LaneState) (round : ℕ) (up : Up) (history : LaneHistory) (allocations : List Allocation) → up.reset ≡ true → up.epoch ≤ lane.epoch → LaneStandsFor lane history allocations →
    LaneStandsFor lane (TakesUp round (up_packet up) ∷ history) allocations
stands-again resets lane round up history allocations resets_it known stands =
    subst (λ p. LaneStandsFor lane (TakesUp round p ∷ history) allocations) (sym (reset-is up resets_it)) (stands-reset_again resets lane round up.epoch up.version history allocations known stands)
