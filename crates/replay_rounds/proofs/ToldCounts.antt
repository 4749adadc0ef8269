-- How a lane counts the slots that its source is told of a batch.
use Rattle.std.proofs.Common.{◌≡◌, ◌<◌, ◌≤◌, ◌+◌, ◌*◌, ◌/◌, ℕ, suc, true, slice_get, List, [], ◌∷◌, length, get_or, map, take, drop, ◌-◌, Option, Some, None, refl, sym, ap, ◌∙◌, subst, arith}
use Rattle.std.specs.List.{range_with_len}
use Rattle.std.specs.Option.{option_map}
use Rattle.std.proofs.Math.Nat.{add-mul}
use Rattle.std.proofs.lemmas.Nat.{row_fits, div-mul-add}
use Rattle.std.proofs.lemmas.List.{get_or-map, get_or-take, get_or-drop, length-map, length-take, length-drop, drop_more}
use Rattle.std.proofs.lemmas.List.FromFn.{length-map-range_with_len, get_or-map-range_with_len}
use Rattle.fcp_framing.specs.declared.packet.Told.{Told}
use Rattle.greedy_rules.specs.declared.flows.Flow.{Flow}
use Rattle.greedy_rules.specs.SlotTable.{destination_of}
use Rattle.greedy_rules.specs.Schedule.{first_slot, slot_in}
use Rattle.clos_topology.specs.Links.{CoreOf}
use Rattle.slot_publisher.specs.Window.{RoutedFlow, PublisherWindow, with_cores, slots_of_batch}
use Rattle.slot_publisher.specs.Told.{packet_sent, slots_told, told_as, told_from}
use Rattle.lane_rounds.specs.FlowCount.{pending}
use Rattle.endpoint_history.specs.Counts.{Allocation}
use Rattle.endpoint_history.specs.Rounds.{Round}
use Rattle.arbiter_lane.specs.declared.line.LaneLine.{LaneLine}
use Rattle.lane_rounds.specs.State.{RoundsState}
use Rattle.lane_rounds.specs.Standing.{RoundsStandFor}
use Rattle.trace_run.specs.Run.{Setting}
use Rattle.replay_rounds.specs.Standing.{slots_between}
use Rattle.replay_rounds.specs.Publishing.{CountingLaws, WindowIsPublished, with_slot}
use Rattle.replay_rounds.specs.Counting.{HasCounted, IsPlace, IsRest, MayCount}
use Rattle.replay_rounds.proofs.Published.{found, routed}
use Rattle.replay_rounds.proofs.PublishedWindows.{routed_places}
use Rattle.replay_rounds.proofs.SlotCounts.{lane_more, may_count, batch_below, between_length, place_is}

abbrev dst_of : Option RoutedFlow → Option ℕ
dst_of packet = option_map (λ p. p.flow.dst) packet

-- a slot in which the source sends nothing
skip : (laws : CountingLaws) (setting : Setting) (collected all place src : ℕ) (lane : RoundsState) → IsPlace setting all place src None → HasCounted setting collected all place src lane →
    HasCounted setting collected all (place + 1) src lane
skip laws setting collected all place src lane is has = lane_more laws setting collected all place src None lane lane is refl (λ rounds allocations stood. stood) has

-- the places of slots behind one
later : (setting : Setting) (all src from offset : ℕ) (packet : Option RoutedFlow) (packets : List (Option RoutedFlow)) →
    ((k : ℕ) → k < length (packet ∷ packets) → IsPlace setting all (from + (offset + k)) src (dst_of (get_or (packet ∷ packets) k None))) →
    (k : ℕ) → k < length packets → IsPlace setting all (from + ((offset + 1) + k)) src (dst_of (get_or packets k None))
later setting all src from offset packet packets places k below =
    let next : from + (offset + suc k) ≡ from + ((offset + 1) + k) = omega arith in
    subst (λ (n : ℕ). IsPlace setting all n src (dst_of (get_or packets k None))) next (places (suc k) (omega arith))

first : (setting : Setting) (all src from offset : ℕ) (packet : Option RoutedFlow) (packets : List (Option RoutedFlow)) →
    ((k : ℕ) → k < length (packet ∷ packets) → IsPlace setting all (from + (offset + k)) src (dst_of (get_or (packet ∷ packets) k None))) →
    IsPlace setting all (from + offset) src (dst_of packet)
first setting all src from offset packet packets places =
    let here : from + (offset + 0) ≡ from + offset = omega arith in
    subst (λ (n : ℕ). IsPlace setting all n src (dst_of packet)) here (places 0 (omega arith))

-- where no slot more is told, none is left in the batch
pub rest_ends : (laws : CountingLaws) (setting : Setting) (collected all src batch : ℕ) (lane : RoundsState) → IsRest setting collected all src batch lane [] →
    HasCounted setting collected all (batch * setting.b + setting.b) src lane
rest_ends laws setting collected all src batch lane rest = walk rest.packets rest.offset rest.whole rest.is rest.places rest.has
  where
    walk : (packets : List (Option RoutedFlow)) (offset : ℕ) → offset + length packets ≡ setting.b → [] ≡ told_from offset packets →
        ((k : ℕ) → k < length packets → IsPlace setting all (batch * setting.b + (offset + k)) src (dst_of (get_or packets k None))) →
        HasCounted setting collected all (batch * setting.b + offset) src lane → HasCounted setting collected all (batch * setting.b + setting.b) src lane
    walk [] offset whole is places has = let end : batch * setting.b + offset ≡ batch * setting.b + setting.b = omega arith in subst (λ (n : ℕ). HasCounted setting collected all n src lane) end has
    walk (None ∷ packets) offset whole is places has =
        let from : ℕ = batch * setting.b in
        let next : from + offset + 1 ≡ from + (offset + 1) = omega arith in
        walk packets (offset + 1) (omega arith) is (later setting all src from offset None packets places)
        (subst (λ (n : ℕ). HasCounted setting collected all n src lane) next (skip laws setting collected all (from + offset) src lane (first setting all src from offset None packets places) has))
    walk (Some packet ∷ packets) offset whole is places has = absurd (cc)

-- the slot that is told next, and the rest behind it
pub record IsNextTold (setting : Setting) (collected all src batch : ℕ) (lane : RoundsState) (one : Told) (told : List Told) : Type 0 where
  pub offset : ℕ
  pub below : offset < setting.b
  pub place : IsPlace setting all (batch * setting.b + offset) src (Some one.dst)
  pub has : HasCounted setting collected all (batch * setting.b + offset) src lane
  pub after : (new : RoundsState) → HasCounted setting collected all (batch * setting.b + offset + 1) src new → IsRest setting collected all src batch new told

pub next_told : (laws : CountingLaws) (setting : Setting) (collected all src batch : ℕ) (lane : RoundsState) (one : Told) (told : List Told) → IsRest setting collected all src batch lane (one ∷ told) →
    IsNextTold setting collected all src batch lane one told
next_told laws setting collected all src batch lane one told rest = walk rest.packets rest.offset rest.whole rest.is rest.places rest.has
  where
    walk : (packets : List (Option RoutedFlow)) (offset : ℕ) → offset + length packets ≡ setting.b → one ∷ told ≡ told_from offset packets →
        ((k : ℕ) → k < length packets → IsPlace setting all (batch * setting.b + (offset + k)) src (dst_of (get_or packets k None))) →
        HasCounted setting collected all (batch * setting.b + offset) src lane → IsNextTold setting collected all src batch lane one told
    walk [] offset whole is places has = absurd (cc)
    walk (None ∷ packets) offset whole is places has =
        let from : ℕ = batch * setting.b in
        let next : from + offset + 1 ≡ from + (offset + 1) = omega arith in
        walk packets (offset + 1) (omega arith) is (later setting all src from offset None packets places)
        (subst (λ (n : ℕ). HasCounted setting collected all n src lane) next (skip laws setting collected all (from + offset) src lane (first setting all src from offset None packets places) has))
    walk (Some packet ∷ packets) offset whole is places has =
        let from : ℕ = batch * setting.b in
        let same : told_as offset packet ≡ one = cc in
        let others : told ≡ told_from (offset + 1) packets = cc in
        let dst : packet.flow.dst ≡ one.dst = ap (λ (t : Told). t.dst) same in
        let next : from + offset + 1 ≡ from + (offset + 1) = omega arith in
        record {
          offset = offset;
          below = omega arith;
          place = subst (λ (d : ℕ). IsPlace setting all (from + offset) src (Some d)) dst (first setting all src from offset (Some packet) packets places);
          has = has;
          after = λ new counted. record {
            offset = offset + 1;
            packets = packets;
            whole = omega arith;
            is = others;
            places = later setting all src from offset (Some packet) packets places;
            has = subst (λ (n : ℕ). HasCounted setting collected all n src new) next counted;
          };
        }

pub told_at_place : (laws : CountingLaws) (setting : Setting) (collected all src batch : ℕ) (lane : RoundsState) (told : List Told) (i : ℕ) → i < length told → IsRest setting collected all src batch lane (drop i told) →
    IsNextTold setting collected all src batch lane (get_or told i (record { offset = 0; core = 0; dst = 0 })) (drop (i + 1) told)
told_at_place laws setting collected all src batch lane told i below rest =
    next_told laws setting collected all src batch lane (get_or told i (record { offset = 0; core = 0; dst = 0 })) (drop (i + 1) told)
    (subst (IsRest setting collected all src batch lane) (drop_more told i (record { offset = 0; core = 0; dst = 0 }) below) rest)

-- it may be counted
pub may_tell : (laws : CountingLaws) (setting : Setting) (collected all src batch : ℕ) (lane : RoundsState) (one : Told) (told : List Told) → MayCount setting collected all src → IsNextTold setting collected all src batch lane one told →
    (lane.is_whole ≡ true) × (one.dst < lane.lane.endpoints) × (batch < lane.lane.round)
    × (lane.lane.last_reset ≤ batch → (line : LaneLine) → slice_get lane.lane.lines one.dst ≡ Some line → 1 ≤ pending line.count)
may_tell laws setting collected all src batch lane one told may next =
    let place : ℕ = batch * setting.b + next.offset in
    let its : batch ≡ place / setting.b = sym (div-mul-add batch setting.b next.offset next.below) in
    let counts = may_count laws setting collected all place src batch (Some one.dst) lane may.behind may.src_below its next.place next.has in
    let below : place / setting.b < all = batch_below setting all place src (Some one.dst) next.place in
    let behind = may.behind in
    let round = next.has.round in
    (next.has.whole, counts.0, omega arith, counts.1)

-- and once it is, the rest is to be counted
pub told_more : (laws : CountingLaws) (setting : Setting) (collected all src batch : ℕ) (lane new : RoundsState) (one : Told) (told : List Told) → IsNextTold setting collected all src batch lane one told →
    new ≡ record lane { lane = record lane.lane { lines = new.lane.lines } } →
    ((rounds : List Round) (allocations : List Allocation) → RoundsStandFor lane rounds allocations → RoundsStandFor new rounds (record { dst = one.dst; batch = batch; slots = 1 } ∷ allocations)) →
    IsRest setting collected all src batch new told
told_more laws setting collected all src batch lane new one told next frame stands =
    let place : ℕ = batch * setting.b + next.offset in
    let its : batch ≡ place / setting.b = sym (div-mul-add batch setting.b next.offset next.below) in
    next.after new (lane_more laws setting collected all place src (Some one.dst) lane new next.place frame
    (subst (λ (n : ℕ). (rounds : List Round) (allocations : List Allocation) → RoundsStandFor lane rounds allocations → RoundsStandFor new rounds (with_slot n (Some one.dst) allocations)) its stands) next.has)

-- ---- a batch of a window

goes : (core : Option ℕ) (src : ℕ) (dst : Option ℕ) → dst_of (option_map (routed core src) dst) ≡ dst
goes core src None = refl
goes core src (Some dst) = refl

pub batch_begins : (laws : CountingLaws) (setting : Setting) (collected : ℕ) (window : PublisherWindow) (src batch : ℕ) (lane : RoundsState) (told : List Told) → WindowIsPublished setting collected window → src < window.endpoints →
    window.first_batch ≤ batch → batch < window.first_batch + window.count → told ≡ slots_told window src batch →
    HasCounted setting collected (window.first_batch + window.count) (batch * setting.b) src lane → IsRest setting collected (window.first_batch + window.count) src batch lane told
batch_begins laws setting collected window src batch lane told published below from_first before_end told_is has =
    let b : ℕ = window.b in
    let first : ℕ = window.first_batch in
    let all : ℕ = first + window.count in
    let slots : List (List Flow) = slots_between setting first all in
    let place : ℕ = batch - first in
    let at : batch ≡ first + place = omega arith in
    let from : ℕ = place * b in
    let ours : List (List RoutedFlow) = slots_of_batch window batch in
    let within : from + b ≤ window.count * b = row_fits place b window.count b (omega arith) (omega arith) in
    let same_b : setting.b ≡ b = published.b in
    let shared : all * setting.b ≡ first * setting.b + window.count * setting.b = add-mul first window.count setting.b in
    let wide : window.count * setting.b ≡ window.count * b = ap (λ (n : ℕ). window.count * n) same_b in
    let as_many : length slots ≡ window.count * b = omega (arith, between_length laws setting first all) in
    let names : ℕ → CoreOf = λ slot. published.cores (first_slot setting.b first + slot) in
    let given : ℕ → List RoutedFlow = λ slot. with_cores (names slot) (slot_in slots slot) in
    let table : List (List RoutedFlow) = map given (range_with_len 0 (length slots)) in
    let of_table : ours ≡ take b (drop from table) =
    ap (λ (xs : List (List RoutedFlow)). take b (drop from xs)) (published.slots ∙ routed_places published.cores slots (first_slot setting.b first)) in
    let long : length ours ≡ b =
    ap length of_table ∙ omega (arith, length-take b (drop from table), length-drop from table, length-map-range_with_len given 0 (length slots)) in
    let packets : List (Option RoutedFlow) = map (packet_sent src) ours in
    record {
      offset = 0;
      packets = packets;
      whole = omega (arith, length-map ours (packet_sent src), long);
      is = told_is;
      places = λ k inside.
          let here : k < b = omega (arith, length-map ours (packet_sent src), long) in
          let slot : ℕ = from + k in
          let in_slots : slot < length slots = omega arith in
          let read : get_or ours k [] ≡ given slot =
          ap (λ (xs : List (List RoutedFlow)). get_or xs k []) of_table
          ∙ (get_or-take b (drop from table) k [] here
          ∙ (get_or-drop from table k []
          ∙ get_or-map-range_with_len given 0 (length slots) slot slot [] in_slots (omega arith))) in
          let to : dst_of (get_or packets k None) ≡ destination_of (slot_in slots slot) src =
          ap dst_of (get_or-map (packet_sent src) ours k [] None (omega arith) ∙ (ap (packet_sent src) read ∙ found (names slot) src (slot_in slots slot)))
          ∙ goes (names slot src) src (destination_of (slot_in slots slot) src) in
          let is = place_is laws setting first all slot src (dst_of (get_or packets k None)) (omega (arith, published.some)) in_slots published.in_range to in
          let batches : batch * setting.b ≡ first * setting.b + place * setting.b = ap (λ (n : ℕ). n * setting.b) at ∙ add-mul first place setting.b in
          let number : first * setting.b + slot ≡ batch * setting.b + (0 + k) = omega (arith, ap (λ (n : ℕ). place * n) same_b) in
          subst (λ (n : ℕ). IsPlace setting all n src (dst_of (get_or packets k None))) number is;
      has = let start : batch * setting.b ≡ batch * setting.b + 0 = omega arith in subst (λ (n : ℕ). HasCounted setting collected all n src lane) start has;
    }

pub may_be_counted : (setting : Setting) (collected : ℕ) (window : PublisherWindow) (src : ℕ) → WindowIsPublished setting collected window → src < window.endpoints → MayCount setting collected (window.first_batch + window.count) src
may_be_counted setting collected window src published below =
    let served = published.endpoints in
    record { behind = published.behind; src_below = omega arith }
