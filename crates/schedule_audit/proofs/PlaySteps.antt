-- One round more is played: what the calls ask, and what they come to.
use Rattle.std.proofs.Common.{◌≡◌, ◌≤◌, ◌+◌, ◌*◌, ◌==◌, not, ℕ, List, [], ◌∷◌, ◌++◌, map, length, drop, All, sym, ap, ◌∙◌, subst, arith, append_assoc, append-nil, length-append}
use Rattle.std.proofs.lemmas.List.{length-map, length-drop, drop-drop}
use Rattle.std.proofs.lemmas.List.Elements.{All-nil, All-cons, All-weaker}
use Rattle.std.proofs.Math.Seq.{drop-append_seam}
use Rattle.greedy_rules.specs.declared.flows.Flow.{Flow}
use Rattle.greedy_rules.specs.declared.flows.Entry.{Entry}
use Rattle.greedy_rules.specs.declared.flows.Item.{Item}
use Rattle.greedy_rules.specs.declared.limits.Limits.{Limits}
use Rattle.greedy_rules.specs.Batches.{DemandBatch, IsBatch}
use Rattle.greedy_rules.specs.Demands.{after_batch}
use Rattle.greedy_rules.specs.Limits.{is_barred}
use Rattle.greedy_rules.specs.SlotTable.{IsSlotOf}
use Rattle.greedy_rules.specs.Matching.{AreAmong, EverySlotIsInRange}
use Rattle.slot_batches.specs.NextList.{IsListBefore, EveryBatchLeavesAList}
use Rattle.greedy_rules.specs.Allocation.{batch_slots, list_after_slots, slots_of}
use Rattle.greedy_rules.specs.Schedule.{schedule, rest, slots_then}
use Rattle.greedy_rules.specs.Fronts.{FrontsAreFronts, EveryBatchHasItsSlots}
use Rattle.greedy_rules.specs.Balance.{is_recorded}
use Rattle.greedy_rules.specs.Recorded.{IsRecordedAfter, AreRecordedAfter, AreRecorded, Applies, LaterBatchesMayBeApplied}
use Rattle.clos_topology.specs.Network.{Network, endpoints_of}
use Rattle.schedule_audit.specs.declared.rounds.Rounds.{Rounds}
use Rattle.schedule_audit.specs.declared.judges.Judges.{Judges}
use Rattle.schedule_audit.specs.Lines.{Recorded}
use Rattle.schedule_audit.specs.FlowNumbers.{flow_number_of}
use Rattle.schedule_audit.specs.Texts.{record_of, records_of}
use Rattle.schedule_audit.specs.Wrong.{slot_places_from}
use Rattle.schedule_audit.specs.Judged.{AreBefore}
use Rattle.schedule_audit.specs.Walked.{JudgesStand}
use Rattle.schedule_audit.specs.Entered.{Enters, AreSized}
use Rattle.schedule_audit.specs.Played.{BeginWith, RoundsStand}
use Rattle.schedule_audit.proofs.RoundSteps.{places-append, places-before, counted-places, ledger-more}

-- ---- recorded batches

pub recorded-here : (endpoints : ℕ) (limits : Limits) (earlier front : List DemandBatch) (batch : DemandBatch) (later : List DemandBatch) → AreRecordedAfter endpoints limits earlier (front ++ batch ∷ later) → IsRecordedAfter endpoints limits (earlier ++ front) batch
recorded-here endpoints limits earlier [] batch later are = subst (λ xs. IsRecordedAfter endpoints limits xs batch) (sym (append-nil earlier)) are.0
recorded-here endpoints limits earlier (x ∷ front) batch later are =
    subst (λ xs. IsRecordedAfter endpoints limits xs batch) (append_assoc earlier (x ∷ []) front) (recorded-here endpoints limits (earlier ++ x ∷ []) front batch later are.1)

pub among-front : (endpoints : ℕ) (limits : Limits) (earlier front later : List DemandBatch) → AreRecordedAfter endpoints limits earlier (front ++ later) → All (λ (b : DemandBatch). AreAmong endpoints b.entries) front
among-front endpoints limits earlier [] later are = All-nil (λ (b : DemandBatch). AreAmong endpoints b.entries)
among-front endpoints limits earlier (x ∷ front) later are =
    All-cons (λ (b : DemandBatch). AreAmong endpoints b.entries) x front are.0.in_range (among-front endpoints limits (earlier ++ x ∷ []) front later are.1)

module _ (net : Network) (b : ℕ) (front : List DemandBatch) (batch : DemandBatch) (later : List DemandBatch) (rounds : Rounds) (stands : RoundsStand net b front (batch ∷ later) rounds) where
  abbrev N : ℕ
  N = endpoints_of net

  abbrev limits : Limits
  limits = record { hosts = net.hosts; cores = net.cores }

  here : IsRecordedAfter N limits front batch
  here = recorded-here N limits [] front batch later stands.recorded

  pub batch-is : batch ≡ record { entries = batch.entries; limits = limits }
  batch-is = ap (λ l. record { entries = batch.entries; limits = l }) here.same_limits

  pub given-is : (given : DemandBatch) (hosts cores : ℕ) → given ≡ record { entries = batch.entries; limits = record { hosts = hosts; cores = cores } } → hosts ≡ net.hosts → cores ≡ net.cores → given ≡ batch
  given-is given hosts cores is of_hosts of_cores =
      is ∙ (ap (λ (n : ℕ). record { entries = batch.entries; limits = record { hosts = n; cores = cores } }) of_hosts
      ∙ (ap (λ (n : ℕ). record { entries = batch.entries; limits = record { hosts = net.hosts; cores = n } }) of_cores ∙ sym batch-is))

  pub batch-rises : IsBatch batch.entries
  batch-rises = here.rises

  pub among : AreAmong N batch.entries
  among = here.in_range

  -- the records of the round come first
  pub begins : (k : ℕ) (todo : List Recorded) → length front ≡ k → todo ≡ drop rounds.next rounds.records.items → BeginWith k rounds.ledger.seen batch.entries later todo
  begins k todo long is = record {
    records = is ∙ (stands.todo ∙ ap (λ n. map (record_of n) batch.entries ++ records_of (n + 1) later) long);
    rises = here.rises;
    opens = All-weaker (λ (e : Entry). e.opens ≡ not (is_recorded front e.flow)) (λ (e : Entry). e.opens ≡ (flow_number_of rounds.ledger.seen e.flow == 0)) (λ e opens. opens ∙ sym (stands.ledger.seen e.flow)) batch.entries here.opens;
  }

  -- ---- what a batch asks of the list

  pub applied : LaterBatchesMayBeApplied → (given : DemandBatch) → given ≡ batch → Applies N given rounds.demand.items
  applied may given is =
      subst (λ x. Applies N x rounds.demand.items) (sym is) (subst (λ xs. Applies N batch xs) (sym stands.list) (may N b limits front (batch ∷ later) stands.recorded).0)

  -- ---- the slots so far

  pub so_far : EverySlotIsInRange → All (IsSlotOf N) (schedule b front)
  so_far ranged = ranged N b front (among-front N limits [] front (batch ∷ later) stands.recorded)

  schedule-long : EveryBatchHasItsSlots → length (schedule b front) ≡ length front * b
  schedule-long counts = counts b 0 [] front

  pub visited-before : EverySlotIsInRange → EveryBatchHasItsSlots → N ≤ 256 → (first : ℕ) → first ≡ length front * b + 1 → AreBefore (first * 65536) (slot_places_from 1 (schedule b front))
  visited-before ranged counts few first is =
      let at : 1 + length (schedule b front) ≡ first = (let long = schedule-long counts in omega (arith, long, is)) in
      subst (λ n. AreBefore (n * 65536) (slot_places_from 1 (schedule b front))) at (places-before N 1 (schedule b front) (omega (arith, few)) (so_far ranged))

  -- ---- what the batch comes to

  slots-now : (first : ℕ) (given : DemandBatch) (slots : List (List Flow)) → given ≡ batch → first ≡ length front * b + 1
      → slots ≡ batch_slots (is_barred given.limits) first rounds.demand.b (after_batch given.entries rounds.demand.items) → slots ≡ slots_then b (length front) batch (rest b front)
  slots-now first given slots is at so =
      so ∙ (ap (λ m. batch_slots (is_barred given.limits) first m (after_batch given.entries rounds.demand.items)) stands.slots
      ∙ (ap (λ (x : DemandBatch). batch_slots (is_barred x.limits) first b (after_batch x.entries rounds.demand.items)) is
      ∙ (ap (λ m. batch_slots (is_barred batch.limits) m b (after_batch batch.entries rounds.demand.items)) at
      ∙ ap (λ xs. batch_slots (is_barred batch.limits) (length front * b + 1) b (after_batch batch.entries xs)) stands.list)))

  slots-long : EveryBatchHasItsSlots → length (slots_then b (length front) batch (rest b front)) ≡ b
  slots-long counts =
      let long : length (slots_then b (length front) batch (rest b front) ++ []) ≡ 1 * b = counts b (length front) (rest b front) (batch ∷ []) in
      ap (λ xs. length xs) (sym (append-nil (slots_then b (length front) batch (rest b front)))) ∙ (long ∙ omega arith)

  pub slots-count : EveryBatchHasItsSlots → (first : ℕ) (given : DemandBatch) (slots : List (List Flow)) → given ≡ batch → first ≡ length front * b + 1
      → slots ≡ batch_slots (is_barred given.limits) first rounds.demand.b (after_batch given.entries rounds.demand.items) → length slots ≡ b
  slots-count counts first given slots is at so = ap (λ xs. length xs) (slots-now first given slots is at so) ∙ slots-long counts

  schedule-more : FrontsAreFronts → schedule b (front ++ batch ∷ []) ≡ schedule b front ++ slots_then b (length front) batch (rest b front)
  schedule-more fronts = (fronts b front (batch ∷ [])).0 ∙ ap (λ xs. schedule b front ++ xs) (append-nil (slots_then b (length front) batch (rest b front)))

  pub places-more : FrontsAreFronts → EveryBatchHasItsSlots → (first : ℕ) (given : DemandBatch) (slots : List (List Flow)) → given ≡ batch → first ≡ length front * b + 1
      → slots ≡ batch_slots (is_barred given.limits) first rounds.demand.b (after_batch given.entries rounds.demand.items) → slot_places_from 1 (schedule b front) ++ slot_places_from first slots ≡ slot_places_from 1 (schedule b (front ++ batch ∷ []))
  places-more fronts counts first given slots is at so =
      let long = schedule-long counts in
      let next : first ≡ 1 + length (schedule b front) = omega (arith, at, long) in
      ap (λ m. slot_places_from 1 (schedule b front) ++ slot_places_from m slots) next
      ∙ (ap (λ xs. slot_places_from 1 (schedule b front) ++ slot_places_from (1 + length (schedule b front)) xs) (slots-now first given slots is at so)
      ∙ (sym (places-append 1 (schedule b front) (slots_then b (length front) batch (rest b front))) ∙ ap (λ xs. slot_places_from 1 xs) (sym (schedule-more fronts))))

  list-now : FrontsAreFronts → (first : ℕ) (given : DemandBatch) (items : List Item) → given ≡ batch → first ≡ length front * b + 1
      → items ≡ list_after_slots (is_barred given.limits) first rounds.demand.b (after_batch given.entries rounds.demand.items) → items ≡ rest b (front ++ batch ∷ [])
  list-now fronts first given items is at so =
      so ∙ (ap (λ m. list_after_slots (is_barred given.limits) first m (after_batch given.entries rounds.demand.items)) stands.slots
      ∙ (ap (λ (x : DemandBatch). list_after_slots (is_barred x.limits) first b (after_batch x.entries rounds.demand.items)) is
      ∙ (ap (λ m. list_after_slots (is_barred batch.limits) m b (after_batch batch.entries rounds.demand.items)) at
      ∙ (ap (λ xs. list_after_slots (is_barred batch.limits) (length front * b + 1) b (after_batch batch.entries xs)) stands.list
      ∙ sym (fronts b front (batch ∷ [])).1))))

  -- the list before the next round's slots
  before-next : EveryBatchLeavesAList → LaterBatchesMayBeApplied → (first : ℕ) (given : DemandBatch) (items : List Item) → given ≡ batch → first ≡ length front * b + 1
      → items ≡ list_after_slots (is_barred given.limits) first rounds.demand.b (after_batch given.entries rounds.demand.items) → IsListBefore (length (front ++ batch ∷ []) * b + 1) items
  before-next leaves may first given items is at so =
      let one = applied may given is in
      let next : first + rounds.demand.b ≡ length (front ++ batch ∷ []) * b + 1 =
      (let all = length-append front (batch ∷ []) in let size = stands.slots in ap (λ m. m + rounds.demand.b) at ∙ (ap (λ m. (length front * b + 1) + m) size ∙ (more (length front) ∙ ap (λ m. m * b + 1) (sym all)))) in
      subst (λ xs. IsListBefore (length (front ++ batch ∷ []) * b + 1) xs) (sym so)
      (subst (λ m. IsListBefore m (list_after_slots (is_barred given.limits) first rounds.demand.b (after_batch given.entries rounds.demand.items))) next
      (leaves (is_barred given.limits) first rounds.demand.b given.entries rounds.demand.items (omega (arith, at)) one.rises one.opens (subst (λ m. IsListBefore m rounds.demand.items) (sym at) stands.before)))
    where
      more : (k : ℕ) → (k * b + 1) + b ≡ (k + 1) * b + 1
      more k = omega arith

  pub counted-so-far : EverySlotIsInRange → (judges : Judges) → JudgesStand (slot_places_from 1 (schedule b front)) judges → (flow : Flow) → flow_number_of judges.slots flow ≡ slots_of flow (schedule b front)
  counted-so-far ranged judges judged flow = judged.slots flow ∙ counted-places N 1 flow (schedule b front) (so_far ranged)

  -- the rounds, with this one
  pub played-more : FrontsAreFronts → EveryBatchHasItsSlots → EverySlotIsInRange → EveryBatchLeavesAList → LaterBatchesMayBeApplied → (judges : Judges) → JudgesStand (slot_places_from 1 (schedule b front)) judges
      → (given : DemandBatch) (first : ℕ) (new : Rounds) → given ≡ batch → first ≡ length front * b + 1 → new.records ≡ rounds.records → new.next ≡ rounds.next + length given.entries → Enters given.entries judges.slots rounds.ledger new.ledger → AreSized rounds.ledger.seen.endpoints new.ledger
      → new.demand.items ≡ list_after_slots (is_barred given.limits) first rounds.demand.b (after_batch given.entries rounds.demand.items) → new.demand.b ≡ rounds.demand.b
      → new.demand.endpoints ≡ rounds.demand.endpoints → RoundsStand net b (front ++ batch ∷ []) later new
  played-more fronts counts ranged leaves may judges judged given first new is at kept next enters sized items size ends =
      let entries : given.entries ≡ batch.entries = ap (λ (x : DemandBatch). x.entries) is in
      let many : length given.entries ≡ length (map (record_of (length front)) batch.entries) = ap (λ xs. length xs) entries ∙ sym (length-map batch.entries (record_of (length front))) in
      let left = ap (λ xs. length xs) stands.todo in
      record {
        recorded = subst (λ xs. AreRecorded N limits xs) (sym (append_assoc front (batch ∷ []) later)) stands.recorded;
        within = subst (λ v. new.next ≤ length v.items) (sym kept)
            (let dropped = length-drop rounds.next rounds.records.items in let low = stands.within in
            omega (arith, next, many, left, dropped, low, length-append (map (record_of (length front)) batch.entries) (records_of (length front + 1) later)));
        todo = ap (λ v. drop new.next v.items) kept
            ∙ (ap (λ m. drop m rounds.records.items) next
            ∙ (sym (drop-drop (length given.entries) rounds.next rounds.records.items)
            ∙ (ap (λ xs. drop (length given.entries) xs) stands.todo
            ∙ (ap (λ m. drop m (map (record_of (length front)) batch.entries ++ records_of (length front + 1) later)) many
            ∙ (drop-append_seam (map (record_of (length front)) batch.entries) (records_of (length front + 1) later) ∙ ap (λ m. records_of m later) (sym (length-append front (batch ∷ []))))))));
        ledger = ledger-more b front batch judges.slots rounds.ledger new.ledger fronts counts here.rises (counted-so-far ranged judges judged) stands.ledger (subst (λ xs. Enters xs judges.slots rounds.ledger new.ledger) entries enters);
        sized = subst (λ m. AreSized m new.ledger) stands.sized.seen sized;
        list = list-now fronts first given new.demand.items is at items;
        before = before-next leaves may first given new.demand.items is at items;
        slots = size ∙ stands.slots;
        endpoints = ends ∙ stands.endpoints;
      }
