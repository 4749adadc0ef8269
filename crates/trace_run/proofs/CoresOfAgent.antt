-- The cores decide nothing of what an agent asks for and sends: its calls with the cores forgotten give the same.
use Rattle.std.proofs.Common.{◌≡◌, ℕ, ◌+◌, ◌*◌, ◌==◌, ◌&&◌, not, Bool, true, false, cond, List, [], ◌∷◌, ◌++◌, map, filter, refl, ap, ◌∙◌}
use Rattle.std.proofs.Math.Path.{fun_ext}
use Rattle.std.specs.List.{flat_map, range_with_len}
use Rattle.list_facts.specs.Order.{sort_by}
use Rattle.ack_window.specs.Sends.{Event}
use Rattle.ack_window.specs.Versions.{reorder_of, span_of}
use Rattle.fcp_framing.specs.declared.packet.Demand.{Demand}
use Rattle.fcp_framing.specs.declared.packet.Told.{Told}
use Rattle.endpoint_history.specs.Packets.{DownPacket, slots_to}
use Rattle.endpoint_history.specs.Agent.{AgentEvent, AgentHistory, Boots, Asks, TakesDown, MakesUp, SendsDue, epoch_of, version_of, is_current, arrived, takes, TakenDown, taken, is_none_taken, is_in_time, in_time, missed, asked, total, was_carried, unconfirmed, sends_new, numbers, packet_up}
use Rattle.endpoint_history.specs.Sending.{Slot, slots_of_telling, due, sent_of, sent_now, sends, sent_in}
use Rattle.trace_run.specs.Cores.{bare_slot, bare_down}
use Rattle.trace_run.proofs.CoresOfLane.{map-cond, sum-map, slots_to-bare}

abbrev pub bare_agent : AgentEvent → AgentEvent
bare_agent (Boots version) = Boots version
bare_agent (Asks dst slots) = Asks dst slots
bare_agent (TakesDown round packet) = TakesDown round (bare_down packet)
bare_agent MakesUp = MakesUp
bare_agent (SendsDue round) = SendsDue round

abbrev bare_taken : TakenDown → TakenDown
bare_taken t = record t { packet = bare_down t.packet }

-- ---- what it takes

epoch-bare : (h : AgentHistory) → epoch_of (map bare_agent h) ≡ epoch_of h
epoch-bare [] = refl
epoch-bare (Boots version ∷ h) = ap (λ (n : ℕ). n + 1) (epoch-bare h)
epoch-bare (_ ∷ h) = epoch-bare h

version-bare : (h : AgentHistory) → version_of (map bare_agent h) ≡ version_of h
version-bare [] = refl
version-bare (Boots version ∷ h) = refl
version-bare (_ ∷ h) = version-bare h

current-bare : (h : AgentHistory) (p : DownPacket) → is_current (map bare_agent h) (bare_down p) ≡ is_current h p
unfolding is_current
current-bare h p = rw (epoch-bare h, version-bare h) refl

arrived-bare : (h : AgentHistory) → arrived (map bare_agent h) ≡ arrived h
arrived-bare [] = refl
arrived-bare (Boots version ∷ h) = refl
arrived-bare (TakesDown round p ∷ h) = rw (current-bare h p, arrived-bare h) refl
arrived-bare (_ ∷ h) = arrived-bare h

takes-bare : (h : AgentHistory) (p : DownPacket) → takes (map bare_agent h) (bare_down p) ≡ takes h p
unfolding takes
takes-bare h p = rw (current-bare h p, version-bare h, arrived-bare h) refl

taken-bare : (h : AgentHistory) → taken (map bare_agent h) ≡ map bare_taken (taken h)
taken-bare [] = refl
taken-bare (Boots version ∷ h) = refl
taken-bare (TakesDown round p ∷ h) = rw (takes-bare h p, taken-bare h) (map-cond bare_taken (takes h p) (record { round = round; packet = p } ∷ taken h) (taken h))
taken-bare (_ ∷ h) = taken-bare h

none-bare : (h : AgentHistory) → is_none_taken (taken (map bare_agent h)) ≡ is_none_taken (taken h)
none-bare h = ap is_none_taken (taken-bare h) ∙ either (taken h)
  where
    either : (ts : List TakenDown) → is_none_taken (map bare_taken ts) ≡ is_none_taken ts
    either [] = refl
    either (t ∷ ts) = refl

-- ---- what it asks for

pub asked-bare : (h : AgentHistory) (dst : ℕ) → asked (map bare_agent h) dst ≡ asked h dst
asked-bare [] dst = refl
asked-bare (Boots version ∷ h) dst = refl
asked-bare (Asks to slots ∷ h) dst = rw (asked-bare h dst) refl
asked-bare (_ ∷ h) dst = asked-bare h dst

pub missed-bare : (g : ℕ) (h : AgentHistory) (dst : ℕ) → missed g (map bare_agent h) dst ≡ missed g h dst
missed-bare g h dst =
    let weight : TakenDown → ℕ = λ t. cond (is_in_time g t) 0 (slots_to dst t.packet.content.told) in
    rw (taken-bare h) (sum-map bare_taken weight (λ t. ap (cond (is_in_time g t) 0) (slots_to-bare dst t.packet.content.told)) (taken h))

pub in_time-bare : (g : ℕ) (h : AgentHistory) (dst : ℕ) → in_time g (map bare_agent h) dst ≡ in_time g h dst
in_time-bare g h dst =
    let weight : TakenDown → ℕ = λ t. cond (is_in_time g t) (slots_to dst t.packet.content.told) 0 in
    rw (taken-bare h) (sum-map bare_taken weight (λ t. ap (λ (n : ℕ). cond (is_in_time g t) n 0) (slots_to-bare dst t.packet.content.told)) (taken h))

total-bare : (g : ℕ) (h : AgentHistory) (dst : ℕ) → total g (map bare_agent h) dst ≡ total g h dst
unfolding total
total-bare g h dst = rw (asked-bare h dst, missed-bare g h dst) refl

unconfirmed-bare : (endpoints g : ℕ) (h : AgentHistory) (sent : List (Event (List Demand))) → unconfirmed endpoints g (map bare_agent h) sent ≡ unconfirmed endpoints g h sent
unfolding unconfirmed
unconfirmed-bare endpoints g h sent =
    let named : (ℕ → ℕ) → List Demand = λ totals.
    filter (λ (d : Demand). not (d.total == 0) && not (was_carried (reorder_of (version_of h)) (span_of (version_of h)) sent d)) (map (λ (dst : ℕ). record { dst = dst; total = totals dst }) (range_with_len 0 endpoints)) in
    rw (version-bare h) (ap named (fun_ext (total-bare g h)))

sends_new-bare : (h : AgentHistory) (sent : List (Event (List Demand))) → sends_new (map bare_agent h) sent ≡ sends_new h sent
unfolding sends_new
sends_new-bare h sent = rw (none-bare h, version-bare h) refl

numbers-bare : (endpoints g : ℕ) (h : AgentHistory) → numbers endpoints g (map bare_agent h) ≡ numbers endpoints g h
numbers-bare endpoints g [] = refl
numbers-bare endpoints g (Boots version ∷ h) = refl
numbers-bare endpoints g (TakesDown round p ∷ h) = rw (current-bare h p, numbers-bare endpoints g h) refl
numbers-bare endpoints g (MakesUp ∷ h) = rw (numbers-bare endpoints g h, sends_new-bare h (numbers endpoints g h), unconfirmed-bare endpoints g h (numbers endpoints g h)) refl
numbers-bare endpoints g (_ ∷ h) = numbers-bare endpoints g h

-- it makes the same packets
pub packet_up-bare : (endpoints g : ℕ) (h : AgentHistory) → packet_up endpoints g (map bare_agent h) ≡ packet_up endpoints g h
unfolding packet_up
packet_up-bare endpoints g h = rw (numbers-bare endpoints g (MakesUp ∷ h), none-bare h, epoch-bare h, version-bare h, arrived-bare h) refl

-- ---- what it sends

slots_of-bare : (b batch : ℕ) (told : List Told) → slots_of_telling b (record { batch = batch; told = map bare_slot told }) ≡ slots_of_telling b (record { batch = batch; told = told })
slots_of-bare b batch [] = refl
slots_of-bare b batch (t ∷ told) = ap (λ (slots : List Slot). record { slot = batch * b + 1 + t.offset; dst = t.dst } ∷ slots) (slots_of-bare b batch told)

flat_map-cond : {X Y : Type 0} (f : X → List Y) (b : Bool) (x : X) (xs : List X) → flat_map f (cond b (x ∷ xs) xs) ≡ cond b (f x ++ flat_map f xs) (flat_map f xs)
flat_map-cond f true x xs = refl
flat_map-cond f false x xs = refl

due-bare : (b g : ℕ) (h : AgentHistory) (round : ℕ) → due b g (map bare_agent h) round ≡ due b g h round
due-bare b g h round = rw (taken-bare h) (ap (sort_by (λ s. s.slot)) (each (taken h)))
  where
    is_used : TakenDown → Bool
    is_used t = is_in_time g t && round == t.packet.content.batch + 2 * g + 2

    slots : TakenDown → List Slot
    slots t = slots_of_telling b t.packet.content

    each : (ts : List TakenDown) → flat_map slots (filter is_used (map bare_taken ts)) ≡ flat_map slots (filter is_used ts)
    each [] = refl
    each (t ∷ ts) =
        rw (
          flat_map-cond slots (is_used t) (bare_taken t) (filter is_used (map bare_taken ts)),
          flat_map-cond slots (is_used t) t (filter is_used ts),
          slots_of-bare b t.packet.content.batch t.packet.content.told,
          each ts,
        ) refl

-- where so many were sent in before
sent_now-bare : (b g : ℕ) (h : AgentHistory) (round : ℕ) → ((dst : ℕ) → sends b g (map bare_agent h) dst ≡ sends b g h dst) → sent_in b g (map bare_agent h) round ≡ sent_in b g h round
unfolding sent_now
sent_now-bare b g h round same = rw (due-bare b g h round) (ap (λ (left : ℕ → ℕ). sent_of left (due b g h round)) (fun_ext (λ dst. rw (asked-bare h dst, same dst) refl)))

pub sends-bare : (b g : ℕ) (h : AgentHistory) (dst : ℕ) → sends b g (map bare_agent h) dst ≡ sends b g h dst
sends-bare b g [] dst = refl
sends-bare b g (Boots version ∷ h) dst = refl
sends-bare b g (SendsDue round ∷ h) dst = rw (sends-bare b g h dst, sent_now-bare b g h round (λ d. sends-bare b g h d)) refl
sends-bare b g (_ ∷ h) dst = sends-bare b g h dst

-- it sends in the same slots
pub sent_in-bare : (b g : ℕ) (h : AgentHistory) (round : ℕ) → sent_in b g (map bare_agent h) round ≡ sent_in b g h round
sent_in-bare b g h round = sent_now-bare b g h round (sends-bare b g h)
