-- No slot is sent twice.
use Rattle.std.proofs.Common.{◌≡◌, ◌≢◌, ℕ, ◌+◌, ◌-◌, ◌*◌, ◌<◌, ◌≤◌, Bool, true, false, ◌&&◌, cond, nat_lt, ◌==◌, List, [], ◌∷◌, Option, Some, None, sym, ◌∙◌, ap, subst, refl, inl, inr, arith}
use Rattle.std.specs.Prelude.{nat_le, sum_by, count_by, filter}
use Rattle.std.specs.List.{flat_map}
use Rattle.std.proofs.lemmas.Bool.{cases_eq, cases_Bool, cases_lt, eqb-true, eq-eqb, ne_eqb, and_parts, lt-leb, le-leb}
use Rattle.std.proofs.lemmas.List.Sums.{sum_by-cons}
use Rattle.list_facts.proofs.Counting.{count-append}
use Rattle.ack_window.specs.Arrivals.{receive_verdict}
use Rattle.ack_window.specs.Versions.{reorder_of}
use Rattle.fcp_framing.specs.declared.packet.Told.{Told}
use Rattle.endpoint_history.specs.Packets.{Telling, DownPacket}
use Rattle.endpoint_history.specs.Agent as agent
use Rattle.endpoint_history.specs.Agent.{AgentEvent, AgentHistory, Boots, Asks, TakesDown, MakesUp, SendsDue, TakenDown, is_in_time}
use Rattle.endpoint_history.specs.Sending as sending
use Rattle.endpoint_history.specs.Sending.{Slot, slots_of_telling, due, ever_sent, rounds_sent, SendsRise}
use Rattle.endpoint_history.specs.Lane.{LaneHistory, MakesDown, TakesUp, Records, epoch_of, last_reset, telling_in, may_send, numbers}
use Rattle.endpoint_history.specs.Steps.{Step, OfAgent, OfLane, agent_of, lane_of, WasMadeDown, RoundsRise, ArrivesFromLane}
use Rattle.endpoint_history.specs.Tellings.{Among, Issue, issued, SlotsAreWithin, ToldWithin, RisesFrom, ToldRises}
use Rattle.endpoint_history.specs.ForgedLaws.{SentOnce}
use Rattle.endpoint_history.specs.Windows.{Windows}
use Rattle.endpoint_history.proofs.AgentEnd.{takes-current}
use Rattle.endpoint_history.proofs.Slots.{fresh_is, takes-fresh}
use Rattle.endpoint_history.proofs.Issues.{packet-came, one_number_for_a_batch}
use Rattle.endpoint_history.proofs.NeverSent.{InBatch, one_batch, issued-within}
use Rattle.endpoint_history.proofs.Sending.{count_by-cons, count-sort_by, sent_now-is, walk-count}
use Rattle.endpoint_history.proofs.TakenOnce.{taken-once, with_number}

-- the slot's number
abbrev pub numbered : ℕ → Slot → Bool
numbered slot s = s.slot == slot

-- ---- a telling has a slot once, and only of its batch

slots-once : (b batch low slot : ℕ) (told : List Told) → RisesFrom low told → count_by (numbered slot) (slots_of_telling b (record { batch = batch; told = told })) ≤ cond (nat_le (batch * b + 1 + low) slot) 1 0
slots-once b batch low slot [] rises = elim (nat_le (batch * b + 1 + low) slot) as (λ c. 0 ≤ cond c 1 0) [ true ↦ omega arith | false ↦ omega arith ]
slots-once b batch low slot (t ∷ told) rises =
    let low_t = rises.0 in
    let rest = slots-once b batch (t.offset + 1) slot told rises.1 in
    let all = count_by-cons (numbered slot) (record { slot = batch * b + 1 + t.offset; dst = t.dst }) (slots_of_telling b (record { batch = batch; told = told })) in
    elim (cases_eq (batch * b + 1 + t.offset) slot) [
      | inl same ↦
          let none : count_by (numbered slot) (slots_of_telling b (record { batch = batch; told = told })) ≤ 0 = subst (λ (c : Bool). count_by (numbered slot) (slots_of_telling b (record { batch = batch; told = told })) ≤ cond c 1 0) (lt-leb (batch * b + 1 + (t.offset + 1)) slot (omega arith)) rest in
          let one = ap (λ c. cond c (1 + count_by (numbered slot) (slots_of_telling b (record { batch = batch; told = told }))) (count_by (numbered slot) (slots_of_telling b (record { batch = batch; told = told })))) (eq-eqb (batch * b + 1 + t.offset) slot same) in
          rw (le-leb (batch * b + 1 + low) slot (omega arith)) (omega arith)
      | inr other ↦
          let skip = ap (λ c. cond c (1 + count_by (numbered slot) (slots_of_telling b (record { batch = batch; told = told }))) (count_by (numbered slot) (slots_of_telling b (record { batch = batch; told = told })))) (ne_eqb (batch * b + 1 + t.offset) slot other) in
          elim (cases_lt slot (batch * b + 1 + (t.offset + 1))) [
            | inl below ↦
                let none : count_by (numbered slot) (slots_of_telling b (record { batch = batch; told = told })) ≤ 0 = subst (λ (c : Bool). count_by (numbered slot) (slots_of_telling b (record { batch = batch; told = told })) ≤ cond c 1 0) (lt-leb (batch * b + 1 + (t.offset + 1)) slot below) rest in
                elim (nat_le (batch * b + 1 + low) slot) as (λ c. count_by (numbered slot) (slots_of_telling b (record { batch = batch; told = t ∷ told })) ≤ cond c 1 0) [ true ↦ omega arith | false ↦ omega arith ]
            | inr above ↦
                let one : count_by (numbered slot) (slots_of_telling b (record { batch = batch; told = told })) ≤ 1 = subst (λ (c : Bool). count_by (numbered slot) (slots_of_telling b (record { batch = batch; told = told })) ≤ cond c 1 0) (le-leb (batch * b + 1 + (t.offset + 1)) slot above) rest in
                rw (le-leb (batch * b + 1 + low) slot (omega arith)) (omega arith)
          ]
    ]

-- a slot counted is in the batch
slots-batch : (b batch slot : ℕ) (told : List Told) → SlotsAreWithin b told → 1 ≤ count_by (numbered slot) (slots_of_telling b (record { batch = batch; told = told })) → InBatch b batch slot × (told ≢ [])
slots-batch b batch slot [] within some = absurd (omega arith)
slots-batch b batch slot (t ∷ told) within some =
    let all = count_by-cons (numbered slot) (record { slot = batch * b + 1 + t.offset; dst = t.dst }) (slots_of_telling b (record { batch = batch; told = told })) in
    elim (cases_eq (batch * b + 1 + t.offset) slot) [
      | inl same ↦ (record { offset = t.offset; below = within.0; is = sym same }, λ h. cc)
      | inr other ↦
          let skip = ap (λ c. cond c (1 + count_by (numbered slot) (slots_of_telling b (record { batch = batch; told = told }))) (count_by (numbered slot) (slots_of_telling b (record { batch = batch; told = told })))) (ne_eqb (batch * b + 1 + t.offset) slot other) in
          let it = slots-batch b batch slot told within.1 (omega arith) in
          (it.0, λ h. cc)
    ]

-- ---- what an issue holds rises

telling-rises : (g : ℕ) (history : LaneHistory) (round : ℕ) (told : List Told) → RisesFrom 0 told → RisesFrom 0 (telling_in g history round told).told
telling-rises g history round told rises =
    elim (nat_le (2 * g) round && nat_le (last_reset history) (round - 2 * g)) as (λ t. RisesFrom 0 (cond t told [])) [ true ↦ rises | false ↦ tt ]

abbrev pub content_in : Telling → Option Issue → Telling
content_in t None = t
content_in t (Some x) = x.content

issued-rises : (g : ℕ) (history : LaneHistory) (round : ℕ) (issue : Issue) → ToldRises history → issued g history round ≡ Some issue → RisesFrom 0 issue.content.told
issued-rises g [] round issue rises is = absurd (cc)
issued-rises g (TakesUp number up ∷ history) round issue rises is = issued-rises g history round issue rises is
issued-rises g (Records number ∷ history) round issue rises is = issued-rises g history round issue rises is
issued-rises g (MakesDown number told ∷ history) round issue rises is =
    elim (cases_eq number round) [
      | inr other ↦ issued-rises g history round issue rises.1 (rw (ne_eqb number round other) at is)
      | inl same ↦
          elim (cases_Bool (nat_lt 0 (epoch_of history) && may_send history (numbers g history))) [
            | inr none ↦ let it = rw (eq-eqb number round same, none) at is in absurd (cc)
            | inl new ↦
                let it = rw (eq-eqb number round same, new) at is in
                let content : telling_in g history number told ≡ issue.content = ap (λ o. content_in issue.content o) it in
                subst (λ (t : Telling). RisesFrom 0 t.told) content (telling-rises g history number told rises.0)
          ]
    ]

-- ---- a slot stands in at most one packet of a boot

abbrev pub weight : ℕ → ℕ → TakenDown → ℕ
weight b slot t = count_by (numbered slot) (slots_of_telling b t.packet.content)

pub taken-made : (g : ℕ) (steps : List Step) (t : TakenDown) → ArrivesFromLane g steps → Among t (agent.taken (agent_of steps)) → WasMadeDown g (lane_of steps) t.packet
taken-made g [] t arrives among = absurd among
taken-made g (OfLane (MakesDown round told) ∷ steps) t arrives among = inr (taken-made g steps t arrives among)
taken-made g (OfLane (TakesUp round up) ∷ steps) t arrives among = taken-made g steps t arrives among
taken-made g (OfLane (Records round) ∷ steps) t arrives among = taken-made g steps t arrives among
taken-made g (OfAgent (Boots version) ∷ steps) t arrives among = absurd among
taken-made g (OfAgent (Asks dst slots) ∷ steps) t arrives among = taken-made g steps t arrives among
taken-made g (OfAgent MakesUp ∷ steps) t arrives among = taken-made g steps t arrives among
taken-made g (OfAgent (SendsDue round) ∷ steps) t arrives among = taken-made g steps t arrives among
taken-made g (OfAgent (TakesDown round packet) ∷ steps) t arrives among =
    elim (cases_Bool (agent.takes (agent_of steps) packet)) [
      | inr left ↦ taken-made g steps t arrives.2 (rw left at among)
      | inl takes ↦
          elim (rw takes at among) [
            | inl same ↦ subst (λ (x : TakenDown). WasMadeDown g (lane_of steps) x.packet) same arrives.0
            | inr before ↦ taken-made g steps t arrives.2 before
          ]
    ]

pub record Ordered (b g : ℕ) (steps : List Step) : Type 0 where
  pub arrives : ArrivesFromLane g steps
  pub rise : RoundsRise (lane_of steps)
  pub within : ToldWithin b (lane_of steps)
  pub rises : ToldRises (lane_of steps)

-- what is known of a packet that has the slot
record HasSlot (b slot : ℕ) (t : TakenDown) : Type 0 where
  in_it : InBatch b t.packet.content.batch slot
  some : t.packet.content.told ≢ []
  once : weight b slot t ≡ 1

has_slot : (w : Windows) (b g slot : ℕ) (history : LaneHistory) (t : TakenDown) → RoundsRise history → ToldWithin b history → ToldRises history → WasMadeDown g history t.packet → 1 ≤ weight b slot t → HasSlot b slot t
has_slot w b g slot history t rise within rises made some =
    let content = t.packet.content in
    let told = some_told content.told some in
    let came = packet-came w g history t.packet rise made told in
    let it = slots-batch b content.batch slot content.told (issued-within b g history (content.batch + 2 * g) _ within came.issue) some in
    let once = slots-once b content.batch 0 slot content.told (issued-rises g history (content.batch + 2 * g) _ rises came.issue) in
    let one : weight b slot t ≤ 1 = elim (cases_Bool (nat_le (content.batch * b + 1 + 0) slot)) [
      | inl yes_it ↦ subst (λ (c : Bool). weight b slot t ≤ cond c 1 0) yes_it once
      | inr no_it ↦ let low = subst (λ (c : Bool). weight b slot t ≤ cond c 1 0) no_it once in omega arith
    ] in
    record { in_it = it.0; some = told; once = omega arith }
  where
    some_told : (xs : List Told) → 1 ≤ count_by (numbered slot) (slots_of_telling b (record { batch = t.packet.content.batch; told = xs })) → xs ≢ []
    some_told [] h = absurd (omega arith)
    some_told (x ∷ xs) h = λ e. cc

sum-none : (f : TakenDown → ℕ) (ts : List TakenDown) → ((t : TakenDown) → Among t ts → f t ≡ 0) → sum_by f ts ≡ 0
sum-none f [] none = refl
sum-none f (t ∷ ts) none =
    let push = sum_by-cons f t ts in
    let here = none t (inl refl) in
    let rest = sum-none f ts (λ x among. none x (inr among)) in
    omega arith

count-among : (test : TakenDown → Bool) (ts : List TakenDown) (t : TakenDown) → Among t ts → test t ≡ true → 1 ≤ count_by test ts
count-among test [] t among holds = absurd among
count-among test (x ∷ ts) t among holds =
    let push = count_by-cons test x ts in
    elim among [
      | inl same ↦ let it = ap (λ b. cond b (1 + count_by test ts) (count_by test ts)) (ap test same ∙ holds) in omega arith
      | inr there ↦ let rest = count-among test ts t there holds in
          elim (cases_Bool (test x)) [
            | inl yes_it ↦ let it = ap (λ b. cond b (1 + count_by test ts) (count_by test ts)) yes_it in omega arith
            | inr no_it ↦ let it = ap (λ b. cond b (1 + count_by test ts) (count_by test ts)) no_it in omega arith
          ]
    ]

pub boot-once : (w : Windows) (b g slot : ℕ) (steps : List Step) → Ordered b g steps → sum_by (weight b slot) (agent.taken (agent_of steps)) ≤ 1
boot-once w b g slot [] o = omega arith
boot-once w b g slot (OfLane (MakesDown round told) ∷ steps) o = boot-once w b g slot steps (record { arrives = o.arrives; rise = o.rise.1; within = o.within.1; rises = o.rises.1 })
boot-once w b g slot (OfLane (TakesUp round up) ∷ steps) o = boot-once w b g slot steps (record { arrives = o.arrives; rise = o.rise; within = o.within; rises = o.rises })
boot-once w b g slot (OfLane (Records round) ∷ steps) o = boot-once w b g slot steps (record { arrives = o.arrives; rise = o.rise; within = o.within; rises = o.rises })
boot-once w b g slot (OfAgent (Boots version) ∷ steps) o = omega arith
boot-once w b g slot (OfAgent (Asks dst slots) ∷ steps) o = boot-once w b g slot steps (record { arrives = o.arrives; rise = o.rise; within = o.within; rises = o.rises })
boot-once w b g slot (OfAgent MakesUp ∷ steps) o = boot-once w b g slot steps (record { arrives = o.arrives; rise = o.rise; within = o.within; rises = o.rises })
boot-once w b g slot (OfAgent (SendsDue round) ∷ steps) o = boot-once w b g slot steps (record { arrives = o.arrives; rise = o.rise; within = o.within; rises = o.rises })
boot-once w b g slot (OfAgent (TakesDown round packet) ∷ steps) o =
    let history = agent_of steps in
    let before = boot-once w b g slot steps (record { arrives = o.arrives.2; rise = o.rise; within = o.within; rises = o.rises }) in
    let t : TakenDown = record { round = round; packet = packet } in
    elim (cases_Bool (agent.takes history packet)) [
      | inr left ↦ rw left before
      | inl takes ↦
          let push = sum_by-cons (weight b slot) t (agent.taken history) in
          rw takes
          (elim (cases_lt 0 (weight b slot t)) [
            | inr none ↦ omega arith
            | inl some ↦
                let mine = has_slot w b g slot (lane_of steps) t o.rise o.within o.rises o.arrives.0 (omega arith) in
                let one = mine.once in
                let rest : sum_by (weight b slot) (agent.taken history) ≡ 0 = sum-none (weight b slot) (agent.taken history)
                (λ x among. elim (cases_lt 0 (weight b slot x)) [
                  | inr nothing ↦ omega arith
                  | inl also ↦
                      let made = taken-made g steps x o.arrives.2 among in
                      let its = has_slot w b g slot (lane_of steps) x o.rise o.within o.rises made (omega arith) in
                      let batch = one_batch b packet.content.batch x.packet.content.batch slot mine.in_it its.in_it in
                      let same = one_number_for_a_batch w g (lane_of steps) packet x.packet o.rise o.arrives.0 made mine.some its.some batch in
                      let counted = count-among (with_number packet.seq) (agent.taken history) x among (eq-eqb x.packet.seq packet.seq (sym same.1)) in
                      let none = unseen history packet takes in
                      absurd (omega arith)
                ]) in
                omega arith
          ])
    ]
  where
    parts : (h : AgentHistory) (p : DownPacket) → agent.takes h p ≡ true → agent.is_current h p ≡ true
    parts h p takes = elim (cases_Bool (agent.is_current h p)) [
      | inl current ↦ current
      | inr other ↦ let no_it = takes-current h p other in absurd (cc)
    ]

    unseen : (h : AgentHistory) (p : DownPacket) → agent.takes h p ≡ true → count_by (with_number p.seq) (agent.taken h) ≡ 0
    unseen h p takes =
        let fresh = fresh_is (receive_verdict (reorder_of (agent.version_of h)) (agent.arrived h) p.seq) (sym (takes-fresh h p (parts h p takes)) ∙ takes) in
        taken-once w h p.seq ∙ ap (λ c. cond c 1 0) (w.once.first (reorder_of (agent.version_of h)) (agent.arrived h) p.seq fresh)

-- ---- sends

count-flat : (test : Slot → Bool) (f : TakenDown → List Slot) (p : TakenDown → Bool) (ts : List TakenDown) →
    (count_by test (flat_map f (filter p ts)) ≤ sum_by (λ t. count_by test (f t)) ts)
    × (1 ≤ count_by test (flat_map f (filter p ts)) → (t : TakenDown) × Among t ts × (p t ≡ true) × (1 ≤ count_by test (f t)))
count-flat test f p [] = (omega arith, λ h. absurd (omega arith))
count-flat test f p (t ∷ ts) =
    let rest = count-flat test f p ts in
    let low = rest.0 in
    let push = sum_by-cons (λ x. count_by test (f x)) t ts in
    elim (cases_Bool (p t)) [
      | inr fails ↦ rw fails (omega arith, λ h. let it = rest.1 h in (it.0, inr it.1, it.2, it.3))
      | inl holds ↦
          let both = count-append test (f t) (flat_map f (filter p ts)) in
          rw holds (
            omega arith,
            λ h. elim (cases_lt 0 (count_by test (f t))) [
              | inl here ↦ (t, inl refl, holds, omega arith)
              | inr none ↦ let it = rest.1 (omega arith) in (it.0, inr it.1, it.2, it.3)
            ],
          )
    ]

-- at most once, and in the round of its batch
record SentSoFar (b g slot : ℕ) (history : AgentHistory) : Type 0 where
  once : count_by (numbered slot) (ever_sent b g history) ≤ 1
  when_sent : 1 ≤ count_by (numbered slot) (ever_sent b g history) → (batch : ℕ) × InBatch b batch slot × (batch + 2 * g + 2 < rounds_sent history)

sent-so_far : (w : Windows) (b g slot : ℕ) (steps : List Step) → Ordered b g steps → SendsRise (agent_of steps) → SentSoFar b g slot (agent_of steps)
sent-so_far w b g slot [] o rise = record { once = omega arith; when_sent = λ h. absurd (omega arith) }
sent-so_far w b g slot (OfLane (MakesDown round told) ∷ steps) o rise = sent-so_far w b g slot steps (record { arrives = o.arrives; rise = o.rise.1; within = o.within.1; rises = o.rises.1 }) rise
sent-so_far w b g slot (OfLane (TakesUp round up) ∷ steps) o rise = sent-so_far w b g slot steps (record { arrives = o.arrives; rise = o.rise; within = o.within; rises = o.rises }) rise
sent-so_far w b g slot (OfLane (Records round) ∷ steps) o rise = sent-so_far w b g slot steps (record { arrives = o.arrives; rise = o.rise; within = o.within; rises = o.rises }) rise
sent-so_far w b g slot (OfAgent (Boots version) ∷ steps) o rise =
    let s = sent-so_far w b g slot steps (record { arrives = o.arrives; rise = o.rise; within = o.within; rises = o.rises }) rise in record { once = s.once; when_sent = s.when_sent }
sent-so_far w b g slot (OfAgent (Asks dst slots) ∷ steps) o rise =
    let s = sent-so_far w b g slot steps (record { arrives = o.arrives; rise = o.rise; within = o.within; rises = o.rises }) rise in record { once = s.once; when_sent = s.when_sent }
sent-so_far w b g slot (OfAgent MakesUp ∷ steps) o rise =
    let s = sent-so_far w b g slot steps (record { arrives = o.arrives; rise = o.rise; within = o.within; rises = o.rises }) rise in record { once = s.once; when_sent = s.when_sent }
sent-so_far w b g slot (OfAgent (TakesDown round packet) ∷ steps) o rise =
    let s = sent-so_far w b g slot steps (record { arrives = o.arrives.2; rise = o.rise; within = o.within; rises = o.rises }) rise in record { once = s.once; when_sent = s.when_sent }
sent-so_far w b g slot (OfAgent (SendsDue round) ∷ steps) o rise =
    let history = agent_of steps in
    let ordered : Ordered b g steps = record { arrives = o.arrives; rise = o.rise; within = o.within; rises = o.rises } in
    let s = sent-so_far w b g slot steps ordered rise.1 in
    let before = s.once in
    let low = rise.0 in
    let now = sending.sent_in b g history round in
    let all = count-append (numbered slot) (ever_sent b g history) now in
    let timely = λ (t : TakenDown). is_in_time g t && round == t.packet.content.batch + 2 * g + 2 in
    let flat = count-flat (numbered slot) (λ t. slots_of_telling b t.packet.content) timely (agent.taken history) in
    let flat_low = flat.0 in
    let total = boot-once w b g slot steps ordered in
    let walked : count_by (numbered slot) now ≤ count_by (numbered slot) (due b g history round) =
    rw (sent_now-is b g history (λ d. sending.sends b g history d) round) (walk-count (numbered slot) (λ dst. agent.asked history dst - sending.sends b g history dst) (due b g history round)) in
    let sorted = count-sort_by (numbered slot) (flat_map (λ (t : TakenDown). slots_of_telling b t.packet.content) (filter timely (agent.taken history))) in
    elim (cases_lt 0 (count_by (numbered slot) now)) [
      | inr none ↦
          record {
            once = omega arith;
            when_sent = λ h. let it = s.when_sent (omega arith) in let done = it.2 in (it.0, it.1, omega arith);
          }
      | inl some ↦
          let found = flat.1 (omega arith) in
          let t = found.0 in
          let made = taken-made g steps t o.arrives found.1 in
          let its = has_slot w b g slot (lane_of steps) t o.rise o.within o.rises made found.3 in
          let in_round = eqb-true round (t.packet.content.batch + 2 * g + 2) (and_parts (is_in_time g t) (round == t.packet.content.batch + 2 * g + 2) found.2).1 in
          let none_before : count_by (numbered slot) (ever_sent b g history) ≡ 0 = elim (cases_lt 0 (count_by (numbered slot) (ever_sent b g history))) [
            | inr none ↦ omega arith
            | inl sent ↦
                let it = s.when_sent (omega arith) in
                let same = one_batch b it.0 t.packet.content.batch slot it.1 its.in_it in
                let done = it.2 in
                absurd (omega arith)
          ] in
          record { once = omega arith; when_sent = λ h. (t.packet.content.batch, its.in_it, omega arith) }
    ]

pub sent_once : (w : Windows) → SentOnce
sent_once w b g steps arrives rise sends within rises slot = (sent-so_far w b g slot steps (record { arrives = arrives; rise = rise; within = within; rises = rises }) sends).once
