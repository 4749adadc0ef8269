-- What arrives in the rounds was made by the other end.
use Rattle.std.proofs.Common.{◌≡◌, ℕ, ◌+◌, ◌≤◌, true, false, cond, List, [], ◌∷◌, ◌++◌, length, Option, Some, None, sym, ◌∙◌, ap, subst, refl, inl, inr, arith}
use Rattle.std.specs.Prelude.{map, filter, option_map, option_to_list}
use Rattle.loss_world.specs.Arrivals.{arrives_in}
use Rattle.endpoint_history.specs.Packets.{DownPacket, UpPacket}
use Rattle.endpoint_history.specs.Agent.{AgentEvent, AgentHistory, Boots, Asks, TakesDown, MakesUp, SendsDue}
use Rattle.endpoint_history.specs.Sending.{rounds_sent, SendsRise}
use Rattle.endpoint_history.specs.Lane.{LaneEvent, LaneHistory, MakesDown, TakesUp, Records, packet_down}
use Rattle.endpoint_history.specs.Entries.{rounds_recorded}
use Rattle.endpoint_history.specs.Steps.{Step, OfAgent, OfLane, agent_of, lane_of, WasMadeUp, WasMadeDown, ArrivesFromOther, rounds_begun, ups_made, RoundsRise, ArrivesFromLane, TakesInRound}
use Rattle.endpoint_history.specs.Rounds.{Round, Posted, EachPosted, arriving, PlayedEnds, then_each, begun, posted_down, heard, posted_up, read, after_round, played, NamedByNoRaw}
use Rattle.endpoint_history.specs.RoundLaws.{RoundsArriveFromOther, RoundsAreInOrder, GoesOn, RoundsGoOn}

-- ---- what arrives was posted

pub EachPosted-append : {T : Type 0} (P : T → Type 0) (one two : List (Posted T)) → EachPosted P one → EachPosted P two → EachPosted P (one ++ two)
EachPosted-append P [] two a b = b
EachPosted-append P (p ∷ one) two a b = (a.0, EachPosted-append P one two a.1 b)

EachPosted-map : {T : Type 0} (P Q : T → Type 0) (posted : List (Posted T)) → ((x : T) → P x → Q x) → EachPosted P posted → EachPosted Q posted
EachPosted-map P Q [] f a = tt
EachPosted-map P Q (p ∷ posted) f a = (f p.packet a.0, EachPosted-map P Q posted f a.1)

abbrev Each : {T : Type 0} → (T → Type 0) → List T → Type 0
Each P [] = Unit {0}
Each P (x ∷ xs) = P x × Each P xs

arriving-posted : {T : Type 0} (P : T → Type 0) (posted : List (Posted T)) (round : ℕ) → EachPosted P posted → Each P (arriving posted round)
arriving-posted P [] round a = tt
arriving-posted {T} P (p ∷ posted) round a =
    let rest = arriving-posted P posted round a.1 in
    elim (arrives_in p.fate p.round round) as (λ b. Each P (map (λ (q : Posted T). q.packet) (cond b (p ∷ filter (λ (q : Posted T). arrives_in q.fate q.round round) posted) (filter (λ (q : Posted T). arrives_in q.fate q.round round) posted)))) [
      | true ↦ (a.0, rest)
      | false ↦ rest
    ]

-- ---- runs of like calls

-- boots and asks: the lane stays
pub lane-agent : {X : Type 0} (event : X → AgentEvent) (xs : List X) (steps : List Step) → lane_of (then_each (λ x. OfAgent (event x)) xs steps) ≡ lane_of steps
lane-agent event [] steps = refl
lane-agent event (x ∷ xs) steps = lane-agent event xs (OfAgent (event x) ∷ steps)

pub agent-lane : {X : Type 0} (event : X → LaneEvent) (xs : List X) (steps : List Step) → agent_of (then_each (λ x. OfLane (event x)) xs steps) ≡ agent_of steps
agent-lane event [] steps = refl
agent-lane event (x ∷ xs) steps = agent-lane event xs (OfLane (event x) ∷ steps)

module _ (endpoints g : ℕ) where
  abbrev MadeDown : List Step → DownPacket → Type 0
  MadeDown steps packet = WasMadeDown g (lane_of steps) packet

  abbrev MadeUp : List Step → UpPacket → Type 0
  MadeUp steps packet = WasMadeUp endpoints g (agent_of steps) packet

  booted : (versions : List ℕ) (steps : List Step) → ArrivesFromOther endpoints g steps → ArrivesFromOther endpoints g (then_each (λ version. OfAgent (Boots version)) versions steps)
  booted [] steps a = a
  booted (v ∷ vs) steps a = booted vs (OfAgent (Boots v) ∷ steps) a

  asked : (asks : List (ℕ × ℕ)) (steps : List Step) → ArrivesFromOther endpoints g steps → ArrivesFromOther endpoints g (then_each (λ a. OfAgent (Asks a.0 a.1)) asks steps)
  asked [] steps a = a
  asked (x ∷ xs) steps a = asked xs (OfAgent (Asks x.0 x.1) ∷ steps) a

  hears : (round : ℕ) (packets : List DownPacket) (steps : List Step) → Each (MadeDown steps) packets → ArrivesFromOther endpoints g steps →
      ArrivesFromOther endpoints g (then_each (λ packet. OfAgent (TakesDown round packet)) packets steps)
  hears round [] steps made a = a
  hears round (p ∷ packets) steps made a = hears round packets (OfAgent (TakesDown round p) ∷ steps) made.1 (made.0, a)

  reads : (round : ℕ) (packets : List UpPacket) (steps : List Step) → Each (MadeUp steps) packets → ArrivesFromOther endpoints g steps →
      ArrivesFromOther endpoints g (then_each (λ packet. OfLane (TakesUp round packet)) packets steps)
  reads round [] steps made a = a
  reads round (p ∷ packets) steps made a = reads round packets (OfLane (TakesUp round p) ∷ steps) made.1 (made.0, a)

  -- a packet once made stays made
  made_up-agent : {X : Type 0} (event : X → AgentEvent) (xs : List X) (steps : List Step) (packet : UpPacket) → MadeUp steps packet → MadeUp (then_each (λ x. OfAgent (event x)) xs steps) packet
  made_up-agent event [] steps packet made = made
  made_up-agent event (x ∷ xs) steps packet made = made_up-agent event xs (OfAgent (event x) ∷ steps) packet (later (event x) made)
    where
      later : (e : AgentEvent) → WasMadeUp endpoints g (agent_of steps) packet → WasMadeUp endpoints g (e ∷ agent_of steps) packet
      later (Boots version) m = m
      later (Asks dst slots) m = m
      later (TakesDown round p) m = m
      later MakesUp m = inr m
      later (SendsDue round) m = m

  -- ---- a round

  record Going (p : PlayedEnds) : Type 0 where
    arrives : ArrivesFromOther endpoints g p.steps
    down : EachPosted (MadeDown p.steps) p.down
    up : EachPosted (MadeUp p.steps) p.up

  posted-made : (number : ℕ) (round : Round) (history : LaneHistory) (o : Option DownPacket) → ((packet : DownPacket) → o ≡ Some packet → WasMadeDown g (MakesDown number round.told ∷ history) packet) →
      EachPosted (λ packet. WasMadeDown g (MakesDown number round.told ∷ history) packet) (option_to_list (option_map (λ packet. record { round = number; fate = round.down; packet = packet }) o))
  posted-made number round history None made = tt
  posted-made number round history (Some packet) made = (made packet refl, tt)

  one_round : (number : ℕ) (round : Round) (before : PlayedEnds) → round.raw ≡ [] → Going before → Going (after_round endpoints g number round before)
  one_round number round before quiet go =
      record { arrives = arrives_read; down = down_read; up = up_read }
    where
      booted_steps : List Step
      booted_steps = then_each (λ version. OfAgent (Boots version)) round.boots before.steps

      begun_steps : List Step
      begun_steps = begun endpoints g number round before

      told_steps : List Step
      told_steps = OfLane (MakesDown number round.told) ∷ begun_steps

      lane_stays : lane_of begun_steps ≡ lane_of before.steps
      lane_stays = lane-agent (λ a. Asks a.0 a.1) round.asks booted_steps ∙ lane-agent (λ version. Boots version) round.boots before.steps

      arrives_told : ArrivesFromOther endpoints g told_steps
      arrives_told = asked round.asks booted_steps (booted round.boots before.steps go.arrives)

      down_told : EachPosted (MadeDown told_steps) (posted_down endpoints g number round before)
      down_told =
          EachPosted-append (MadeDown told_steps) before.down _
          (EachPosted-map (MadeDown before.steps) (MadeDown told_steps) before.down
          (λ packet made. inr (subst (λ (h : LaneHistory). WasMadeDown g h packet) (sym lane_stays) made)) go.down)
          (posted-made number round (lane_of begun_steps) (packet_down g (lane_of begun_steps) number round.told) (λ packet is. inl is))

      heard_steps : List Step
      heard_steps = heard endpoints g number round before

      arrives_heard : ArrivesFromOther endpoints g heard_steps
      arrives_heard = hears number (arriving (posted_down endpoints g number round before) number) told_steps (arriving-posted (MadeDown told_steps) (posted_down endpoints g number round before) number down_told) arrives_told

      lane_heard : lane_of heard_steps ≡ lane_of told_steps
      lane_heard = lane-agent (λ packet. TakesDown number packet) (arriving (posted_down endpoints g number round before) number) told_steps

      made_steps : List Step
      made_steps = OfAgent MakesUp ∷ heard_steps

      up_made : EachPosted (MadeUp made_steps) (posted_up endpoints g number round before)
      up_made =
          EachPosted-append (MadeUp made_steps) before.up _
          (EachPosted-map (MadeUp before.steps) (MadeUp made_steps) before.up
          (λ packet made.
          inr (made_up-agent (λ p. TakesDown number p) (arriving (posted_down endpoints g number round before) number) told_steps packet
          (made_up-agent (λ a. Asks a.0 a.1) round.asks booted_steps packet (made_up-agent (λ version. Boots version) round.boots before.steps packet made))))
          go.up)
          (inl refl, tt)

      ups : List UpPacket
      ups = arriving (posted_up endpoints g number round before) number

      came_steps : List Step
      came_steps = then_each (λ packet. OfLane (TakesUp number packet)) ups made_steps

      read_is : read endpoints g number round before ≡ came_steps
      read_is = ap (λ raw. then_each (λ packet. OfLane (TakesUp number packet)) raw came_steps) quiet

      arrives_came : ArrivesFromOther endpoints g came_steps
      arrives_came = reads number ups made_steps (arriving-posted (MadeUp made_steps) (posted_up endpoints g number round before) number up_made) arrives_heard

      arrives_read : ArrivesFromOther endpoints g (after_round endpoints g number round before).steps
      arrives_read = subst (λ (s : List Step). ArrivesFromOther endpoints g (OfAgent (SendsDue number) ∷ OfLane (Records number) ∷ s)) (sym read_is) arrives_came

      agent_came : agent_of came_steps ≡ agent_of made_steps
      agent_came = agent-lane (λ packet. TakesUp number packet) ups made_steps

      up_read : EachPosted (MadeUp (after_round endpoints g number round before).steps) (posted_up endpoints g number round before)
      up_read =
          subst (λ (s : List Step). EachPosted (λ packet. WasMadeUp endpoints g (SendsDue number ∷ agent_of s) packet) (posted_up endpoints g number round before)) (sym read_is)
          (subst (λ (h : AgentHistory). EachPosted (λ packet. WasMadeUp endpoints g (SendsDue number ∷ h) packet) (posted_up endpoints g number round before)) (sym agent_came) up_made)

      made_down_reads : (xs : List UpPacket) (steps : List Step) (packet : DownPacket) → MadeDown steps packet → MadeDown (then_each (λ p. OfLane (TakesUp number p)) xs steps) packet
      made_down_reads [] steps packet made = made
      made_down_reads (x ∷ xs) steps packet made = made_down_reads xs (OfLane (TakesUp number x) ∷ steps) packet made

      down_read : EachPosted (MadeDown (after_round endpoints g number round before).steps) (posted_down endpoints g number round before)
      down_read =
          subst (λ (s : List Step). EachPosted (λ packet. WasMadeDown g (Records number ∷ lane_of s) packet) (posted_down endpoints g number round before)) (sym read_is)
          (EachPosted-map (MadeDown told_steps) (λ packet. WasMadeDown g (lane_of came_steps) packet) (posted_down endpoints g number round before)
          (λ packet made. made_down_reads ups made_steps packet (subst (λ (h : LaneHistory). WasMadeDown g h packet) (sym lane_heard) made)) down_told)

  all_rounds : (rounds : List Round) → NamedByNoRaw rounds → Going (played endpoints g rounds)
  all_rounds [] quiet = record { arrives = tt; down = tt; up = tt }
  all_rounds (round ∷ earlier) quiet = one_round (length earlier) round (played endpoints g earlier) quiet.0 (all_rounds earlier quiet.1)

pub rounds_arrive_from_other : RoundsArriveFromOther
rounds_arrive_from_other endpoints g rounds quiet = (all_rounds endpoints g rounds quiet).arrives

-- ---- rounds are in order, whatever is forged

module _ (endpoints g : ℕ) where
  -- what is known after so many rounds, at a place where so many have begun and so many were recorded and sent
  record InOrder (begun_rounds done : ℕ) (steps : List Step) : Type 0 where
    from_lane : ArrivesFromLane g steps
    rise : RoundsRise (lane_of steps)
    begins : rounds_begun (lane_of steps) ≡ begun_rounds
    takes : TakesInRound (lane_of steps)
    records : rounds_recorded (lane_of steps) ≡ done
    sends : SendsRise (agent_of steps)
    sent : rounds_sent (agent_of steps) ≡ done

  order-boots : (versions : List ℕ) (begun_rounds done : ℕ) (steps : List Step) → InOrder begun_rounds done steps → InOrder begun_rounds done (then_each (λ version. OfAgent (Boots version)) versions steps)
  order-boots [] n m steps o = o
  order-boots (v ∷ vs) n m steps o = order-boots vs n m (OfAgent (Boots v) ∷ steps) (record { from_lane = o.from_lane; rise = o.rise; begins = o.begins; takes = o.takes; records = o.records; sends = o.sends; sent = o.sent })

  order-asks : (asks : List (ℕ × ℕ)) (begun_rounds done : ℕ) (steps : List Step) → InOrder begun_rounds done steps → InOrder begun_rounds done (then_each (λ a. OfAgent (Asks a.0 a.1)) asks steps)
  order-asks [] n m steps o = o
  order-asks (x ∷ xs) n m steps o = order-asks xs n m (OfAgent (Asks x.0 x.1) ∷ steps) (record { from_lane = o.from_lane; rise = o.rise; begins = o.begins; takes = o.takes; records = o.records; sends = o.sends; sent = o.sent })

  order-hears : (packets : List DownPacket) (number : ℕ) (steps : List Step) → Each (MadeDown endpoints g steps) packets → InOrder (number + 1) number steps →
      InOrder (number + 1) number (then_each (λ packet. OfAgent (TakesDown number packet)) packets steps)
  order-hears [] number steps made o = o
  order-hears (p ∷ packets) number steps made o =
      let begins = o.begins in
      order-hears packets number (OfAgent (TakesDown number p) ∷ steps) made.1
      (record { from_lane = (made.0, omega arith, o.from_lane); rise = o.rise; begins = o.begins; takes = o.takes; records = o.records; sends = o.sends; sent = o.sent })

  order-reads : (packets : List UpPacket) (number : ℕ) (steps : List Step) → InOrder (number + 1) number steps →
      InOrder (number + 1) number (then_each (λ packet. OfLane (TakesUp number packet)) packets steps)
  order-reads [] number steps o = o
  order-reads (p ∷ packets) number steps o =
      order-reads packets number (OfLane (TakesUp number p) ∷ steps)
      (record { from_lane = o.from_lane; rise = o.rise; begins = o.begins; takes = (sym o.records, o.takes); records = o.records; sends = o.sends; sent = o.sent })

  made-reads : (xs : List UpPacket) (number : ℕ) (steps : List Step) (packet : DownPacket) → MadeDown endpoints g steps packet → MadeDown endpoints g (then_each (λ p. OfLane (TakesUp number p)) xs steps) packet
  made-reads [] number steps packet made = made
  made-reads (x ∷ xs) number steps packet made = made-reads xs number (OfLane (TakesUp number x) ∷ steps) packet made

  record Ordered (done : ℕ) (p : PlayedEnds) : Type 0 where
    order : InOrder done done p.steps
    down : EachPosted (MadeDown endpoints g p.steps) p.down

  order-round : (number : ℕ) (round : Round) (before : PlayedEnds) → Ordered number before → Ordered (number + 1) (after_round endpoints g number round before)
  order-round number round before o =
      record {
        order = record {
          from_lane = read_order.from_lane;
          rise = read_order.rise;
          begins = read_order.begins;
          takes = read_order.takes;
          records = ap (λ n. n + 1) read_order.records;
          sends = (sent_low, read_order.sends);
          sent = refl;
        };
        down = EachPosted-map (MadeDown endpoints g told_steps) (MadeDown endpoints g (after_round endpoints g number round before).steps) (posted_down endpoints g number round before)
            (λ packet made.
            made-reads round.raw number came_steps packet
            (made-reads ups number (OfAgent MakesUp ∷ heard endpoints g number round before) packet
            (subst (λ (h : LaneHistory). WasMadeDown g h packet) (sym lane_heard) made))) down_told;
      }
    where
      booted_steps : List Step
      booted_steps = then_each (λ version. OfAgent (Boots version)) round.boots before.steps

      begun_steps : List Step
      begun_steps = begun endpoints g number round before

      begun_order : InOrder number number begun_steps
      begun_order = order-asks round.asks number number booted_steps (order-boots round.boots number number before.steps o.order)

      told_steps : List Step
      told_steps = OfLane (MakesDown number round.told) ∷ begun_steps

      begun_low : rounds_begun (lane_of begun_steps) ≤ number
      begun_low = let is = begun_order.begins in omega arith

      told_order : InOrder (number + 1) number told_steps
      told_order = record {
        from_lane = begun_order.from_lane;
        rise = (begun_low, begun_order.rise);
        begins = refl;
        takes = begun_order.takes;
        records = begun_order.records;
        sends = begun_order.sends;
        sent = begun_order.sent;
      }

      lane_stays : lane_of begun_steps ≡ lane_of before.steps
      lane_stays = lane-agent (λ a. Asks a.0 a.1) round.asks booted_steps ∙ lane-agent (λ version. Boots version) round.boots before.steps

      down_told : EachPosted (MadeDown endpoints g told_steps) (posted_down endpoints g number round before)
      down_told =
          EachPosted-append (MadeDown endpoints g told_steps) before.down _
          (EachPosted-map (MadeDown endpoints g before.steps) (MadeDown endpoints g told_steps) before.down
          (λ packet made. inr (subst (λ (h : LaneHistory). WasMadeDown g h packet) (sym lane_stays) made)) o.down)
          (posted-made endpoints g number round (lane_of begun_steps) (packet_down g (lane_of begun_steps) number round.told) (λ packet is. inl is))

      heard_order : InOrder (number + 1) number (heard endpoints g number round before)
      heard_order = order-hears (arriving (posted_down endpoints g number round before) number) number told_steps
          (arriving-posted (MadeDown endpoints g told_steps) (posted_down endpoints g number round before) number down_told) told_order

      lane_heard : lane_of (heard endpoints g number round before) ≡ lane_of told_steps
      lane_heard = lane-agent (λ packet. TakesDown number packet) (arriving (posted_down endpoints g number round before) number) told_steps

      made_order : InOrder (number + 1) number (OfAgent MakesUp ∷ heard endpoints g number round before)
      made_order = record {
        from_lane = heard_order.from_lane;
        rise = heard_order.rise;
        begins = heard_order.begins;
        takes = heard_order.takes;
        records = heard_order.records;
        sends = heard_order.sends;
        sent = heard_order.sent;
      }

      ups : List UpPacket
      ups = arriving (posted_up endpoints g number round before) number

      came_steps : List Step
      came_steps = then_each (λ packet. OfLane (TakesUp number packet)) ups (OfAgent MakesUp ∷ heard endpoints g number round before)

      read_order : InOrder (number + 1) number (read endpoints g number round before)
      read_order = order-reads round.raw number came_steps (order-reads ups number (OfAgent MakesUp ∷ heard endpoints g number round before) made_order)

      sent_low : rounds_sent (agent_of (read endpoints g number round before)) ≤ number
      sent_low = let is = read_order.sent in omega arith

  order-rounds : (rounds : List Round) → Ordered (length rounds) (played endpoints g rounds)
  order-rounds [] = record { order = record { from_lane = tt; rise = tt; begins = refl; takes = tt; records = refl; sends = tt; sent = refl }; down = tt }
  order-rounds (round ∷ earlier) = subst (λ (n : ℕ). Ordered n (after_round endpoints g (length earlier) round (played endpoints g earlier))) (length_more earlier) (order-round (length earlier) round (played endpoints g earlier) (order-rounds earlier))
    where
      length_more : (xs : List Round) → length xs + 1 ≡ length (round ∷ xs)
      length_more xs = omega arith

-- ---- each round makes one upward packet

module _ (endpoints g : ℕ) where
  ups-each : {X : Type 0} (event : X → AgentEvent) (xs : List X) (steps : List Step) → ((x : X) (history : AgentHistory) → ups_made (event x ∷ history) ≡ ups_made history) →
      ups_made (agent_of (then_each (λ x. OfAgent (event x)) xs steps)) ≡ ups_made (agent_of steps)
  ups-each event [] steps none = refl
  ups-each event (x ∷ xs) steps none = ups-each event xs (OfAgent (event x) ∷ steps) none ∙ none x (agent_of steps)

  ups-round : (number : ℕ) (round : Round) (before : PlayedEnds) → ups_made (agent_of (after_round endpoints g number round before).steps) ≡ ups_made (agent_of before.steps) + 1
  ups-round number round before =
      let booted = then_each (λ version. OfAgent (Boots version)) round.boots before.steps in
      let started = begun endpoints g number round before in
      let told = heard endpoints g number round before in
      let came = then_each (λ packet. OfLane (TakesUp number packet)) (arriving (posted_up endpoints g number round before) number) (OfAgent MakesUp ∷ told) in
      let raw_stays = agent-lane (λ packet. TakesUp number packet) round.raw came in
      let up_stays = agent-lane (λ packet. TakesUp number packet) (arriving (posted_up endpoints g number round before) number) (OfAgent MakesUp ∷ told) in
      let hears = ups-each (λ packet. TakesDown number packet) (arriving (posted_down endpoints g number round before) number) (OfLane (MakesDown number round.told) ∷ started) (λ x history. refl) in
      let asks = ups-each (λ (a : ℕ × ℕ). Asks a.0 a.1) round.asks booted (λ x history. refl) in
      let boots = ups-each (λ version. Boots version) round.boots before.steps (λ x history. refl) in
      ap ups_made (raw_stays ∙ up_stays) ∙ ap (λ n. n + 1) (hears ∙ asks ∙ boots)

  ups-rounds : (rounds : List Round) → ups_made (agent_of (played endpoints g rounds).steps) ≡ length rounds
  ups-rounds [] = refl
  ups-rounds (round ∷ earlier) =
      let one = ups-round (length earlier) round (played endpoints g earlier) in
      let before = ups-rounds earlier in
      omega arith

pub rounds_are_in_order : RoundsAreInOrder
rounds_are_in_order endpoints g rounds =
    let o = (order-rounds endpoints g rounds).order in
    record { from_lane = o.from_lane; rise = o.rise; takes = o.takes; sends = o.sends; recorded = o.records; sent = o.sent; begun = o.begins; made = ups-rounds endpoints g rounds }

-- ---- rounds go on

on-call : (step : Step) (earlier steps : List Step) → GoesOn earlier steps → GoesOn earlier (step ∷ steps)
on-call step earlier steps on = record { later = step ∷ on.later; parts = ap (λ xs. step ∷ xs) on.parts }

on-each : {X : Type 0} (step : X → Step) (xs : List X) (earlier steps : List Step) → GoesOn earlier steps → GoesOn earlier (then_each step xs steps)
on-each step [] earlier steps on = on
on-each step (x ∷ xs) earlier steps on = on-each step xs earlier (step x ∷ steps) (on-call (step x) earlier steps on)

on-round : (endpoints g number : ℕ) (round : Round) (before : PlayedEnds) (earlier : List Step) → GoesOn earlier before.steps → GoesOn earlier (after_round endpoints g number round before).steps
on-round endpoints g number round before earlier on =
    let booted = then_each (λ version. OfAgent (Boots version)) round.boots before.steps in
    let started = begun endpoints g number round before in
    let told = heard endpoints g number round before in
    let came = then_each (λ packet. OfLane (TakesUp number packet)) (arriving (posted_up endpoints g number round before) number) (OfAgent MakesUp ∷ told) in
    let done = read endpoints g number round before in
    on-call (OfAgent (SendsDue number)) earlier (OfLane (Records number) ∷ done)
    (on-call (OfLane (Records number)) earlier done
    (on-each (λ packet. OfLane (TakesUp number packet)) round.raw earlier came
    (on-each (λ packet. OfLane (TakesUp number packet)) (arriving (posted_up endpoints g number round before) number) earlier (OfAgent MakesUp ∷ told)
    (on-call (OfAgent MakesUp) earlier told
    (on-each (λ packet. OfAgent (TakesDown number packet)) (arriving (posted_down endpoints g number round before) number) earlier (OfLane (MakesDown number round.told) ∷ started)
    (on-call (OfLane (MakesDown number round.told)) earlier started
    (on-each (λ a. OfAgent (Asks a.0 a.1)) round.asks earlier booted
    (on-each (λ version. OfAgent (Boots version)) round.boots earlier before.steps on))))))))

pub rounds_go_on : RoundsGoOn
rounds_go_on endpoints g [] earlier = record { later = []; parts = refl }
rounds_go_on endpoints g (round ∷ later) earlier =
    on-round endpoints g (length (later ++ earlier)) round (played endpoints g (later ++ earlier)) (played endpoints g earlier).steps (rounds_go_on endpoints g later earlier)
