-- Every line of a text of recorded batches fits its fields.
use Rattle.std.proofs.Common.{◌≡◌, ◌<◌, ◌≤◌, ◌+◌, ◌*◌, ◌^◌, ◌==◌, nat_le, ◌&&◌, ◌||◌, ℕ, zero, suc, List, [], ◌∷◌, ◌++◌, map, length, get_or, cond, Bool, true, false, Option, Some, None, All, IsTrue, refl, sym, ap, ◌∙◌, subst, inl, inr, arith}
use Rattle.std.specs.Prelude.{IfSome}
use Rattle.std.specs.List.{list_any}
use Rattle.std.proofs.Math.Nat.{mul-le-mul_right}
use Rattle.std.proofs.lemmas.Bool.{cond-true, cond-false, and_parts, or_parts, or_cases, eqb-true, leb-false, false≢true}
use Rattle.std.proofs.lemmas.List.Elements.{All-nil, All-cons, All-head, All-tail, All-append, All-map}
use Rattle.list_facts.proofs.Pairs.{AllPairs-head, AllPairs-tail}
use Rattle.greedy_rules.specs.declared.flows.Flow.{Flow}
use Rattle.greedy_rules.specs.declared.flows.Entry.{Entry}
use Rattle.greedy_rules.specs.declared.limits.Limits.{Limits}
use Rattle.greedy_rules.specs.Flows.{same_flow, flow_below}
use Rattle.greedy_rules.specs.Batches.{DemandBatch, IsBatch, entry_of}
use Rattle.greedy_rules.specs.Demands.{need_with}
use Rattle.greedy_rules.specs.Fronts.{EveryBatchHasItsSlots}
use Rattle.greedy_rules.specs.Limits.{rack_of}
use Rattle.greedy_rules.specs.Matching.{AreAmong, EverySlotIsInRange}
use Rattle.greedy_rules.specs.Recorded.{demand_of, IsRecordedAfter, AreRecordedAfter, AreRecorded}
use Rattle.greedy_rules.specs.Schedule.{schedule}
use Rattle.greedy_rules.specs.SlotTable.{IsSlotOf}
use Rattle.greedy_rules.proofs.Facts.{same_flow-refl, same_flow-true, flow_below-not_same}
use Rattle.clos_topology.specs.Network.{Network, endpoints_of}
use Rattle.clos_topology.specs.Limits.{IsNetwork}
use Rattle.report_text.specs.declared.line.Line.{Line}
use Rattle.report_text.specs.declared.line.Line.TheVariants as line
use Rattle.report_text.specs.Lines.{IsLine, bit}
use Rattle.schedule_audit.specs.declared.recorded.Recorded.{Recorded}
use Rattle.schedule_audit.specs.declared.packets.Place.{Place}
use Rattle.schedule_audit.specs.declared.packets.Path.{Path}
use Rattle.schedule_audit.specs.Lines.{records, paths, places, sends_in_lines}
use Rattle.schedule_audit.specs.Wrong.{same_place, slot_places_from, has_wrong_core}
use Rattle.schedule_audit.specs.Laws.{read}
use Rattle.schedule_audit.specs.ReadLaws.{AreAllLines}
use Rattle.schedule_audit.specs.Texts.{record_of, records_of, IsTextOf}
use Rattle.own_texts.proofs.Shows.{AreFigures}

abbrev IsRecordLine : Recorded → Type 0
IsRecordLine r = IsLine (line.Batch r.batch r.flow.src r.flow.dst r.clear r.add)

abbrev IsPathLine : Path → Type 0
IsPathLine p = IsLine (line.Slot p.place.slot p.place.flow.src p.place.flow.dst p.core)

abbrev IsSendLine : Place → Type 0
IsSendLine s = IsLine (line.Sent s.slot s.flow.src s.flow.dst)

lines_formed : (ls : List Line) → AreFigures ls → All IsRecordLine (records (read ls)) → All IsPathLine (paths (read ls)) → All IsSendLine (sends_in_lines (read ls)) → AreAllLines ls
lines_formed [] fs rs ps ss = tt
lines_formed (line.Batch batch src dst clear add ∷ ls) fs rs ps ss =
    let r : Recorded = record { batch = batch; flow = record { src = src; dst = dst }; clear = clear; add = add } in
    (All-head IsRecordLine r (records (read ls)) rs, lines_formed ls fs.1 (All-tail IsRecordLine r (records (read ls)) rs) ps ss)
lines_formed (line.Slot slot src dst core ∷ ls) fs rs ps ss =
    let p : Path = record { place = record { slot = slot; flow = record { src = src; dst = dst } }; core = core } in
    (All-head IsPathLine p (paths (read ls)) ps, lines_formed ls fs.1 rs (All-tail IsPathLine p (paths (read ls)) ps) ss)
lines_formed (line.Sent slot src dst ∷ ls) fs rs ps ss =
    let s : Place = record { slot = slot; flow = record { src = src; dst = dst } } in
    (All-head IsSendLine s (sends_in_lines (read ls)) ss, lines_formed ls fs.1 rs ps (All-tail IsSendLine s (sends_in_lines (read ls)) ss))
lines_formed (l ∷ ls) fs rs ps ss = (fs.0, lines_formed ls fs.1 rs ps ss)

-- ---- numbers

pub below_most : (n most : ℕ) → n < most → most ≤ 256 → n ≤ 65535
below_most n most low few = omega arith

bit_low : (c : Bool) → bit c ≤ 1
bit_low true = omega arith
bit_low false = omega arith

-- ---- what is recorded

-- each entry of a batch is the entry of its flow
pub own_entries : (es : List Entry) → IsBatch es → All (λ e. entry_of es e.flow ≡ Some e) es
own_entries [] rises = All-nil (λ (e : Entry). entry_of [] e.flow ≡ Some e)
own_entries (x ∷ es) rises =
    let R : Entry → Entry → Type 0 = λ y z. IsTrue (flow_below y.flow z.flow) in
    All-cons (λ (e : Entry). entry_of (x ∷ es) e.flow ≡ Some e) x es (cond-true (same_flow x.flow x.flow) (Some x) (entry_of es x.flow) (same_flow-refl x.flow))
    (λ i d within.
    let e : Entry = get_or es i d in
    cond-false (same_flow x.flow e.flow) (Some x) (entry_of es e.flow) (flow_below-not_same x.flow e.flow (AllPairs-head R x es rises i d within))
    ∙ own_entries es (AllPairs-tail R x es rises) i d within)

added_fits : (e : Entry) (need : ℕ) → need_with (Some e) need < 2 ^ 32 → e.add ≤ 4294967295
added_fits e need fits = omega arith

entries_formed : (endpoints k : ℕ) (limits : Limits) (front : List DemandBatch) (batch : DemandBatch) → IsRecordedAfter endpoints limits front batch → endpoints ≤ 256 → k ≤ 100000
    → All (λ e. IsRecordLine (record_of k e)) batch.entries
entries_formed endpoints k limits front batch are few low i d within =
    let e : Entry = get_or batch.entries i d in
    let range : (e.flow.src < endpoints) × (e.flow.dst < endpoints) = are.in_range i d within in
    let fits : need_with (Some e) (demand_of front e.flow) < 2 ^ 32 =
    subst (λ (o : Option Entry). need_with o (demand_of front e.flow) < 2 ^ 32) (own_entries batch.entries are.rises i d within) (are.fits e.flow) in
    (omega arith, (below_most e.flow.src endpoints range.0 few, (below_most e.flow.dst endpoints range.1 few, (bit_low e.clear, (added_fits e (demand_of front e.flow) fits, tt)))))

records_formed : (endpoints k : ℕ) (limits : Limits) (front batches : List DemandBatch) → AreRecordedAfter endpoints limits front batches → endpoints ≤ 256 → k + length batches ≤ 100000
    → All IsRecordLine (records_of k batches)
records_formed endpoints k limits front [] are few low = All-nil IsRecordLine
records_formed endpoints k limits front (batch ∷ batches) are few low =
    All-append IsRecordLine (map (record_of k) batch.entries) (records_of (k + 1) batches)
    (All-map IsRecordLine (record_of k) batch.entries (entries_formed endpoints k limits front batch are.0 few (omega arith)))
    (records_formed endpoints (k + 1) limits (front ++ batch ∷ []) batches are.1 few (omega arith))

-- ---- where packets go

abbrev IsPlaceBelow : ℕ → ℕ → Place → Type 0
IsPlaceBelow endpoints most p = (p.slot < most) × (p.flow.src < endpoints) × (p.flow.dst < endpoints)

places_below : (endpoints most number : ℕ) (slots : List (List Flow)) → All (IsSlotOf endpoints) slots → number + length slots ≤ most → All (IsPlaceBelow endpoints most) (slot_places_from number slots)
places_below endpoints most number [] all low = All-nil (IsPlaceBelow endpoints most)
places_below endpoints most number (slot ∷ slots) all low =
    let here : IsSlotOf endpoints slot = All-head (IsSlotOf endpoints) slot slots all in
    let at : Flow → Place = λ flow. record { slot = number; flow = flow } in
    All-append (IsPlaceBelow endpoints most) (map at slot) (slot_places_from (number + 1) slots)
    (All-map (IsPlaceBelow endpoints most) at slot (λ i d within. (omega arith, (here.in_range i d within).0, (here.in_range i d within).1)))
    (places_below endpoints most (number + 1) slots (All-tail (IsSlotOf endpoints) slot slots all) (omega arith))

send_formed : (endpoints most : ℕ) (s : Place) → endpoints ≤ 256 → most ≤ 6400001 → IsPlaceBelow endpoints most s → IsSendLine s
send_formed endpoints most s few low below = (omega (arith, below.0), (below_most s.flow.src endpoints below.1 few, (below_most s.flow.dst endpoints below.2 few, tt)))

pub core_below : (net : Network) (flow : Flow) (core : Option ℕ) → has_wrong_core net flow core ≡ false → IfSome core (λ c. c < net.cores)
core_below net flow None right = tt
core_below net flow (Some core) right = leb-false net.cores core ((or_parts (rack_of net.hosts flow.src == rack_of net.hosts flow.dst) (nat_le net.cores core) right).1)

core_fits : (cores : ℕ) (core : Option ℕ) → cores ≤ 64 → IfSome core (λ c. c < cores) → IfSome core (λ c. c ≤ 65535)
core_fits cores None few below = tt
core_fits cores (Some core) few below = omega arith

-- what holds of each image holds of each
pub of_images : {X Y : Type 0} (P : Y → Type 0) (f : X → Y) (xs : List X) → All P (map f xs) → All (λ x. P (f x)) xs
of_images P f [] all = All-nil (λ x. P (f x))
of_images P f (x ∷ xs) all = All-cons (λ y. P (f y)) x xs (All-head P (f x) (map f xs) all) (of_images P f xs (All-tail P (f x) (map f xs) all))

paths_formed : (net : Network) (most : ℕ) (ps : List Path) → IsNetwork net → most ≤ 6400001 → All (IsPlaceBelow (endpoints_of net) most) (map (λ (p : Path). p.place) ps)
    → All (λ (p : Path). has_wrong_core net p.place.flow p.core ≡ false) ps → All IsPathLine ps
paths_formed net most ps is low below right i d within =
    let p : Path = get_or ps i d in
    let s = send_formed (endpoints_of net) most p.place is.most_endpoints low (of_images (IsPlaceBelow (endpoints_of net) most) (λ (q : Path). q.place) ps below i d within) in
    ((s.0, (s.1.0, (s.1.1.0, tt))), core_fits net.cores p.core is.most_cores (core_below net p.place.flow p.core (right i d within)))

-- a send is in one of these places
same_place-true : (s t : Place) → same_place s t ≡ true → t ≡ s
same_place-true s t same =
    let two = and_parts (s.slot == t.slot) (same_flow s.flow t.flow) same in
    ap (λ (n : ℕ). record { slot = n; flow = t.flow }) (sym (eqb-true s.slot t.slot two.0)) ∙ ap (λ (f : Flow). record { slot = s.slot; flow = f }) (sym (same_flow-true s.flow t.flow two.1))

one_of : (P : Place → Type 0) (s : Place) (ps : List Place) → All P ps → list_any (same_place s) ps ≡ true → P s
one_of P s [] all none = absurd (false≢true none)
one_of P s (p ∷ ps) all some = elim (or_cases (same_place s p) (list_any (same_place s) ps) some) [
  | inl here ↦ subst P (same_place-true s p here) (All-head P p ps all)
  | inr there ↦ one_of P s ps (All-tail P p ps all) there
]

-- ---- all of it

among : (endpoints : ℕ) (limits : Limits) (front batches : List DemandBatch) → AreRecordedAfter endpoints limits front batches → All (λ batch. AreAmong endpoints batch.entries) batches
among endpoints limits front [] are = All-nil (λ (x : DemandBatch). AreAmong endpoints x.entries)
among endpoints limits front (batch ∷ batches) are =
    All-cons (λ (x : DemandBatch). AreAmong endpoints x.entries) batch batches are.0.in_range (among endpoints limits (front ++ batch ∷ []) batches are.1)

slots_few : (rounds b : ℕ) → rounds ≤ 100000 → b ≤ 64 → 1 + rounds * b ≤ 6400001
slots_few rounds b long narrow = let one : rounds * b ≤ 100000 * b = mul-le-mul_right b long in omega arith

pub text_formed : EveryBatchHasItsSlots → EverySlotIsInRange → (net : Network) (b : ℕ) (batches : List DemandBatch) (body : List Line) → IsNetwork net → b ≤ 64
    → IsTextOf net b batches body → AreFigures body → AreAllLines body
text_formed slots_of_all in_range net b batches body is narrow text figures =
    let n : ℕ = endpoints_of net in
    let limits : Limits = record { hosts = net.hosts; cores = net.cores } in
    let slots : List (List Flow) = schedule b batches in
    let most : ℕ = 1 + length slots in
    let long : length slots ≡ length batches * b = slots_of_all b 0 [] batches in
    let low : most ≤ 6400001 = let few = slots_few (length batches) b text.most_rounds narrow in omega arith in
    let below : All (IsPlaceBelow n most) (slot_places_from 1 slots) = places_below n most 1 slots (in_range n b batches (among n limits [] batches text.recorded)) (omega arith) in
    lines_formed body figures
    (subst (All IsRecordLine) (sym text.records) (records_formed n 0 limits [] batches text.recorded is.most_endpoints (let few = text.most_rounds in omega arith)))
    (paths_formed net most (paths (read body)) is low (subst (All (IsPlaceBelow n most)) (sym text.places) below) text.cores)
    (λ i d within.
    let s : Place = get_or (sends_in_lines (read body)) i d in
    send_formed n most s is.most_endpoints low (one_of (IsPlaceBelow n most) s (slot_places_from 1 slots) below (text.scheduled i d within)))
