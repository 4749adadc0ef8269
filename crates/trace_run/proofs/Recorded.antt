-- The batches of the run of a trace are recorded batches.
use Rattle.std.proofs.Common.{◌≡◌, ◌≢◌, ◌<◌, ◌≤◌, ◌+◌, ◌*◌, ◌^◌, ◌&&◌, not, ℕ, zero, suc, List, [], ◌∷◌, ◌++◌, length, map, drop, Bool, true, false, Option, None, is_some, All, refl, sym, ap, ◌∙◌, subst, inl, inr, arith, mul-le-mul_right}
use Rattle.std.specs.Prelude.{IfSome}
use Rattle.std.proofs.Math.Seq.{drop-append_seam}
use Rattle.std.proofs.lemmas.Bool.{cases_eq, cases_lt}
use Rattle.std.proofs.lemmas.List.Folds.{list_any_none}
use Rattle.std.proofs.lemmas.List.Elements.{All-nil, All-head, All-tail, All-push, All-take}
use Rattle.greedy_rules.specs.declared.flows.Flow.{Flow}
use Rattle.greedy_rules.specs.declared.flows.Entry.{Entry}
use Rattle.greedy_rules.specs.Batches.{DemandBatch, entry_of}
use Rattle.greedy_rules.specs.Demands.{is_listed, need_with}
use Rattle.greedy_rules.specs.Matching.{AreAmong}
use Rattle.greedy_rules.specs.Schedule.{rest}
use Rattle.greedy_rules.specs.Balance.{is_recorded}
use Rattle.greedy_rules.specs.Recorded.{demand_through, demand_of, IsRecordedAfter, AreRecorded, MayBeApplied, RecordedBatchesMayBeApplied, LaterBatchesMayBeApplied}
use Rattle.greedy_rules.specs.Cells.{flow_of}
use Rattle.greedy_rules.proofs.CellLemmas.{rows_rise, entry_of-none}
use Rattle.greedy_rules.proofs.RecordedLemmas.{demand_more, AreRecordedAfter-more}
use Rattle.endpoint_history.specs.Packets.{UpPacket}
use Rattle.endpoint_history.specs.Agent.{AgentHistory, packet_up}
use Rattle.endpoint_history.specs.Counts.{recorded, owed}
use Rattle.endpoint_history.specs.Entries.{added, had, is_reset, entry_with}
use Rattle.endpoint_history.specs.Lane.{LaneHistory, last_reset}
use Rattle.endpoint_history.specs.Rest.{need_through}
use Rattle.endpoint_history.specs.Rounds.{Posted}
use Rattle.endpoint_history.specs.Steps.{agent_of}
use Rattle.endpoint_history.proofs.Totals.{total-is}
use Rattle.trace_run.specs.Run.{Setting, replayed}
use Rattle.trace_run.specs.Histories.{played_after, lane_after}
use Rattle.trace_run.specs.Windows.{batch_at}
use Rattle.trace_run.specs.Applicable.{IsApplicable, EveryRunIsApplicable}
use Rattle.trace_run.specs.Rest.{OwedIsAllocatedOrLeft}
use Rattle.trace_run.specs.Counts.{ToldIsAllocated, ToldFitsSlots}
use Rattle.trace_run.specs.Recorded.{KeepsTraceRules, EveryRunIsRecorded}
use Rattle.trace_run.specs.Premises.{Schedules, EndsLaws}
use Rattle.trace_run.proofs.Fronts.{run_length, run_begins, later_is, a_run_begins_with_each}
use Rattle.trace_run.proofs.Applicable.{round_after, recording, cell, cell-of, if_some_both, all_cells, had-listed, opens-new, clears-old}
use Rattle.trace_run.proofs.Allocations.{none_from}
use Rattle.trace_run.proofs.Asked.{heard-asked, asked-grows, none-asked-in}
use Rattle.trace_run.proofs.Apart.{AreApart, none_from_slot, none_heard, few_heard, heard_after}
use Rattle.trace_run.proofs.Named.{IsFair, raw-fair, packet-fair, IsSound, sound-read, fair-few, none-recorded}

-- ---- what arrives is fair

slots_bound : (setting : Setting) (rounds : ℕ) → setting.b ≤ 64 → rounds ≤ 100000 → rounds * setting.b ≤ 6400000
slots_bound setting rounds batch long = let most : rounds * setting.b ≤ 100000 * setting.b = mul-le-mul_right setting.b long in omega arith

made-fair : Schedules → EndsLaws → (setting : Setting) (rounds all endpoint : ℕ) → rounds < all → KeepsTraceRules setting all → AreApart (replayed setting rounds).batches →
    IsFair endpoint 200000000 (packet_up setting.endpoints setting.g (agent_of (heard_after setting rounds endpoint)))
made-fair s ends setting rounds all endpoint below trace apart =
    packet-fair ends.named setting.endpoints setting.g endpoint 200000000 h
    (let is = total-is setting.g h endpoint in
    let ask = heard-asked setting rounds endpoint endpoint in
    let none_asked = none-asked-in setting.outside (suc rounds) endpoint (λ round. trace.apart round endpoint) in
    let none = none_heard s ends setting trace.window rounds endpoint apart in
    let both = ends.taking.both setting.g h endpoint in
    omega arith)
    (λ dst.
    let is = total-is setting.g h dst in
    let ask = heard-asked setting rounds endpoint dst in
    let grows = asked-grows setting.outside (suc rounds) all endpoint dst (omega arith) in
    let most = trace.few endpoint dst in
    let few = few_heard s ends setting trace.window rounds endpoint dst in
    let both = ends.taking.both setting.g h dst in
    let long = trace.length in
    let slots = slots_bound setting (rounds + 1) trace.batch (omega arith) in
    omega arith)
  where
    h : AgentHistory
    h = agent_of (heard_after setting rounds endpoint)

-- of the first batches too
apart-front : (setting : Setting) (rounds all : ℕ) → rounds ≤ all → AreApart (replayed setting all).batches → AreApart (replayed setting rounds).batches
apart-front setting rounds all within apart =
    subst AreApart (a_run_begins_with_each setting rounds all within) (All-take (λ (x : DemandBatch). All (λ (e : Entry). e.flow.src ≢ e.flow.dst) x.entries) rounds (replayed setting all).batches apart)

sound : Schedules → EndsLaws → (setting : Setting) (last all endpoint : ℕ) → last < all → KeepsTraceRules setting all → AreApart (replayed setting last).batches →
    (rounds : ℕ) → rounds ≤ suc last → IsSound (IsFair endpoint 200000000) (played_after setting rounds endpoint)
sound s ends setting last all endpoint below trace apart zero within = record { posted = All-nil (λ (p : Posted UpPacket). IsFair endpoint 200000000 p.packet); taken = tt }
sound s ends setting last all endpoint below trace apart (suc rounds) within =
    let before = sound s ends setting last all endpoint below trace apart rounds (omega arith) in
    let made = made-fair s ends setting rounds all endpoint (omega arith) trace (apart-front setting rounds last (omega arith) apart) in
    let raw : All (IsFair endpoint 200000000) (setting.outside.raw rounds endpoint) = λ i d inside. raw-fair setting.endpoints endpoint _ (trace.raw rounds endpoint i d inside) in
    let now = sound-read (IsFair endpoint 200000000) setting.endpoints setting.g (length ((replayed setting rounds).rounds endpoint)) (round_after setting rounds endpoint) (played_after setting rounds endpoint) before made raw in
    record { posted = now.0; taken = now.1 }

-- ---- no entry is of a flow from an endpoint to itself

none_recorded : (endpoint : ℕ) (batches : List DemandBatch) → AreApart batches → is_recorded batches (flow_of endpoint endpoint) ≡ false
none_recorded endpoint batches apart =
    list_any_none (λ (x : DemandBatch). is_some (entry_of x.entries (flow_of endpoint endpoint))) batches
    (λ i d below. ap is_some (entry_of-none _ (flow_of endpoint endpoint)
    (λ k e within same. apart i d below k e within (ap (λ (f : Flow). f.src) same ∙ sym (ap (λ (f : Flow). f.dst) same)))))

no_entry : (src dst add : ℕ) (had_it reset : Bool) (P : Entry → Type 0) → had_it ≡ false → add ≡ 0 → IfSome (entry_with src dst had_it (reset && had_it) add) P
no_entry src dst add had_it reset P had_none add_none = rw (had_none, add_none) (either reset)
  where
    either : (r : Bool) → IfSome (entry_with src dst false (r && false) 0) P
    either true = tt
    either false = tt

apart-next : Schedules → EndsLaws → EveryRunIsApplicable → ToldIsAllocated → (setting : Setting) (rounds all : ℕ) → rounds < all → KeepsTraceRules setting all →
    AreApart (replayed setting rounds).batches → AreApart (replayed setting (suc rounds)).batches
apart-next s ends applicable told_is setting rounds all below trace apart =
    All-push (λ (x : DemandBatch). All (λ (e : Entry). e.flow.src ≢ e.flow.dst) x.entries) (replayed setting rounds).batches (batch_at setting rounds) apart
    (all_cells setting rounds (λ (e : Entry). e.flow.src ≢ e.flow.dst) (λ src dst low high. elim (cases_eq src dst) [
      | inr other ↦
          if_some_both (cell setting rounds src dst) (λ e. e.flow ≡ flow_of src dst) (λ e. e.flow ≡ flow_of src dst) (λ e. e.flow.src ≢ e.flow.dst)
          (λ e of of_too same. other (sym (ap (λ (f : Flow). f.src) of) ∙ (same ∙ ap (λ (f : Flow). f.dst) of)))
          (cell-of setting rounds src dst) (cell-of setting rounds src dst)
      | inl same ↦ subst (λ (d : ℕ). IfSome (cell setting rounds src d) (λ e. e.flow.src ≢ e.flow.dst)) same (itself src low)
    ]))
  where
    itself : (src : ℕ) → src < setting.endpoints → IfSome (cell setting rounds src src) (λ e. e.flow.src ≢ e.flow.dst)
    itself src low =
        let h : LaneHistory = recording setting rounds src in
        let a = applicable setting rounds in
        let had_none : had setting.g h src ≡ false =
        sym (had-listed setting rounds src src a low low) ∙ ((s.listed setting.b (replayed setting rounds).batches a.in_order).1 (flow_of src src) ∙ none_recorded src (replayed setting rounds).batches apart) in
        let is_sound = sound s ends setting rounds all src below trace apart (suc rounds) (omega arith) in
        let demanded = none-recorded src 200000000 (lane_after setting (suc rounds) src) is_sound.taken in
        let some = trace.window in
        let told = told_is setting trace.window rounds (suc rounds) src src (omega arith) in
        let none = none_from_slot s setting.b (last_reset (lane_after setting (suc rounds) src) * setting.b) src (replayed setting rounds).batches apart in
        let parts = ends.sums.three setting.g (lane_after setting (suc rounds) src) src in
        let owing : owed setting.g (lane_after setting (suc rounds) src) src ≡ 0 = omega arith in
        let add_none : added setting.g h src ≡ 0 = nothing_added owing in
        no_entry src src (added setting.g h src) (had setting.g h src) (is_reset h) (λ e. e.flow.src ≢ e.flow.dst) had_none add_none
      where
        nothing_added : owed setting.g (recording setting rounds src) src ≡ 0 → added setting.g (recording setting rounds src) src ≡ 0
        nothing_added none = omega arith

pub apart-all : Schedules → EndsLaws → EveryRunIsApplicable → ToldIsAllocated → (setting : Setting) (rounds all : ℕ) → rounds ≤ all → KeepsTraceRules setting all → AreApart (replayed setting rounds).batches
apart-all s ends applicable told_is setting zero all within trace = All-nil (λ (x : DemandBatch). All (λ (e : Entry). e.flow.src ≢ e.flow.dst) x.entries)
apart-all s ends applicable told_is setting (suc rounds) all within trace =
    apart-next s ends applicable told_is setting rounds all (omega arith) trace (apart-all s ends applicable told_is setting rounds all (omega arith) trace)

-- ---- numbers

-- what is demanded of each flow
demanded_few : Schedules → EndsLaws → EveryRunIsApplicable → ToldIsAllocated → (setting : Setting) (rounds all src dst : ℕ) → rounds ≤ all → KeepsTraceRules setting all →
    recorded (lane_after setting rounds src) dst ≤ 200000000
demanded_few s ends applicable told_is setting zero all src dst within trace = omega arith
demanded_few s ends applicable told_is setting (suc rounds) all src dst within trace =
    let apart = apart-all s ends applicable told_is setting rounds all (omega arith) trace in
    let is_sound = sound s ends setting rounds all src (omega arith) trace apart (suc rounds) (omega arith) in
    ends.recorded 200000000 (lane_after setting (suc rounds) src) dst (fair-few src 200000000 (lane_after setting (suc rounds) src) is_sound.taken)

owed_few : Schedules → EndsLaws → EveryRunIsApplicable → ToldIsAllocated → ToldFitsSlots → (setting : Setting) (rounds all src dst : ℕ) → rounds ≤ all → KeepsTraceRules setting all →
    owed setting.g (lane_after setting rounds src) dst ≤ 200000000 + rounds * setting.b
owed_few s ends applicable told_is fits setting rounds all src dst within trace =
    let demanded = demanded_few s ends applicable told_is setting rounds all src dst within trace in
    let told = fits setting trace.window rounds src dst in
    let parts = ends.sums.three setting.g (lane_after setting rounds src) dst in
    omega arith

-- the demand of a flow is what its lane owes
pub demand_through-is : (batches : List DemandBatch) (flow : Flow) (need : ℕ) → demand_through batches flow need ≡ need_through (map (λ batch. entry_of batch.entries flow) batches) need
demand_through-is [] flow need = refl
demand_through-is (batch ∷ batches) flow need = demand_through-is batches flow (need_with (entry_of batch.entries flow) need)

pub demand_none : (batches : List DemandBatch) (flow : Flow) → All (λ (x : DemandBatch). entry_of x.entries flow ≡ None) batches → demand_of batches flow ≡ 0
demand_none [] flow none = refl
demand_none (batch ∷ batches) flow none =
    let P : DemandBatch → Type 0 = λ x. entry_of x.entries flow ≡ None in
    ap (λ (o : Option Entry). demand_through batches flow (need_with o 0)) (All-head P batch batches none)
    ∙ demand_none batches flow (All-tail P batch batches none)

demand_owed : Schedules → OwedIsAllocatedOrLeft → (setting : Setting) (rounds src dst : ℕ) → src < setting.endpoints → dst < setting.endpoints →
    demand_of (replayed setting rounds).batches (flow_of src dst) ≡ owed setting.g (lane_after setting rounds src) dst
demand_owed s owed_is setting rounds src dst low high =
    let is = owed_is setting 0 rounds src dst (omega arith) low high in
    let none = none_from s setting 0 (last_reset (lane_after setting rounds src)) src dst (omega arith) in
    let same = demand_through-is (replayed setting rounds).batches (flow_of src dst) 0 in
    omega arith

-- no batch has a flow from or to beyond the endpoints
beyond-none : (endpoints : ℕ) (batches : List DemandBatch) (flow : Flow) → All (λ (x : DemandBatch). AreAmong endpoints x.entries) batches → ((flow.src < endpoints) × (flow.dst < endpoints) → ⊥) →
    All (λ (x : DemandBatch). entry_of x.entries flow ≡ None) batches
beyond-none endpoints batches flow among beyond =
    λ i d below. entry_of-none _ flow (λ k e within same. beyond (subst (λ (f : Flow). (f.src < endpoints) × (f.dst < endpoints)) same (among i d below k e within)))

demand_few : Schedules → OwedIsAllocatedOrLeft → EveryRunIsApplicable → (setting : Setting) (rounds most : ℕ) →
    ((src dst : ℕ) → owed setting.g (lane_after setting rounds src) dst ≤ most) → (flow : Flow) → demand_of (replayed setting rounds).batches flow ≤ most
demand_few s owed_is applicable setting rounds most few flow =
    let n : ℕ = setting.endpoints in
    let batches : List DemandBatch = (replayed setting rounds).batches in
    elim (cases_lt flow.src n) [
      | inr far ↦ let none = demand_none batches flow (beyond-none n batches flow (applicable setting rounds).among (λ in_range. let low = in_range.0 in absurd (omega arith))) in omega arith
      | inl low ↦ elim (cases_lt flow.dst n) [
        | inr far ↦ let none = demand_none batches flow (beyond-none n batches flow (applicable setting rounds).among (λ in_range. let high = in_range.1 in absurd (omega arith))) in omega arith
        | inl high ↦ let is = demand_owed s owed_is setting rounds flow.src flow.dst low high in let bound = few flow.src flow.dst in omega arith
      ]
    ]

-- ---- batch after batch

next-recorded : Schedules → EveryRunIsApplicable → (setting : Setting) (rounds : ℕ) → AreApart (replayed setting (suc rounds)).batches →
    ((flow : Flow) → demand_of (replayed setting (suc rounds)).batches flow < 2 ^ 32) → IsRecordedAfter setting.endpoints setting.limits (replayed setting rounds).batches (batch_at setting rounds)
next-recorded s applicable setting rounds apart few =
    record {
      same_limits = refl;
      rises = rows_rise (cell setting rounds) (cell-of setting rounds) 0 setting.endpoints setting.endpoints;
      in_range = all_cells setting rounds (λ (e : Entry). (e.flow.src < setting.endpoints) × (e.flow.dst < setting.endpoints)) (λ src dst low high.
          let both : (src < setting.endpoints) × (dst < setting.endpoints) = (low, high) in
          if_some_both (cell setting rounds src dst) (λ e. e.flow ≡ flow_of src dst) (λ e. e.flow ≡ flow_of src dst) (λ e. (e.flow.src < setting.endpoints) × (e.flow.dst < setting.endpoints))
          (λ e of same. subst (λ (f : Flow). (f.src < setting.endpoints) × (f.dst < setting.endpoints)) (sym of) both)
          (cell-of setting rounds src dst) (cell-of setting rounds src dst));
      apart = last_apart (replayed setting rounds).batches (batch_at setting rounds) apart;
      opens = λ k d below. opens-new setting rounds a k d below ∙ ap not (listed _);
      clears = λ k d below clear. sym (listed _) ∙ clears-old setting rounds a k d below clear;
      fits = λ flow. let more = demand_more (replayed setting rounds).batches (batch_at setting rounds) flow 0 in let is = few flow in omega arith;
    }
  where
    a : IsApplicable setting rounds
    a = applicable setting rounds

    listed : (flow : Flow) → is_listed (rest setting.b (replayed setting rounds).batches) flow ≡ is_recorded (replayed setting rounds).batches flow
    listed flow = (s.listed setting.b (replayed setting rounds).batches a.in_order).1 flow

    last_apart : (xs : List DemandBatch) (x : DemandBatch) → AreApart (xs ++ x ∷ []) → All (λ (e : Entry). e.flow.src ≢ e.flow.dst) x.entries
    last_apart [] x all = All-head (λ (y : DemandBatch). All (λ (e : Entry). e.flow.src ≢ e.flow.dst) y.entries) x [] all
    last_apart (y ∷ xs) x all = last_apart xs x (All-tail (λ (z : DemandBatch). All (λ (e : Entry). e.flow.src ≢ e.flow.dst) z.entries) y (xs ++ x ∷ []) all)

module _ (s : Schedules) (ends : EndsLaws) (applicable : EveryRunIsApplicable) (owed_is : OwedIsAllocatedOrLeft) (told_is : ToldIsAllocated) (fits : ToldFitsSlots) where
  are_recorded : (setting : Setting) (rounds all : ℕ) → rounds ≤ all → KeepsTraceRules setting all → AreRecorded setting.endpoints setting.limits (replayed setting rounds).batches
  are_recorded setting zero all within trace = tt
  are_recorded setting (suc rounds) all within trace =
      let long = trace.length in
      let slots = slots_bound setting (suc rounds) trace.batch (omega arith) in
      AreRecordedAfter-more setting.endpoints setting.limits [] (replayed setting rounds).batches (batch_at setting rounds) (are_recorded setting rounds all (omega arith) trace)
      (next-recorded s applicable setting rounds (apart-all s ends applicable told_is setting (suc rounds) all within trace)
      (λ flow.
      let few = demand_few s owed_is applicable setting (suc rounds) (200000000 + suc rounds * setting.b)
      (λ src dst. owed_few s ends applicable told_is fits setting (suc rounds) all src dst within trace) flow in
      omega arith))

  pub every_run_is_recorded : RecordedBatchesMayBeApplied → LaterBatchesMayBeApplied → EveryRunIsRecorded
  every_run_is_recorded may_be later setting rounds all within trace =
      record {
        batches = are_recorded setting rounds all within trace;
        window = λ allocated before. window setting allocated rounds before (are_recorded setting rounds all within trace);
        next = λ batch below. (subst (λ (xs : List DemandBatch). MayBeApplied setting.endpoints setting.b batch (rest setting.b (replayed setting batch).batches) xs)
            (one setting batch) (window setting batch (suc batch) (omega arith) (are_recorded setting (suc batch) all (omega arith) trace))).0;
        demanded = λ src dst. demanded_few s ends applicable told_is setting rounds all src dst within trace;
        owing = λ src dst. owed_few s ends applicable told_is fits setting rounds all src dst within trace;
      }
    where
      window : (setting : Setting) (allocated rounds : ℕ) (before : allocated ≤ rounds) → AreRecorded setting.endpoints setting.limits (replayed setting rounds).batches →
          MayBeApplied setting.endpoints setting.b allocated (rest setting.b (replayed setting allocated).batches) (drop allocated (replayed setting rounds).batches)
      window setting allocated rounds before are =
          let front : List DemandBatch = (replayed setting allocated).batches in
          let begins = run_begins setting allocated rounds before in
          let may = later setting.endpoints setting.b setting.limits front begins.later (subst (AreRecorded setting.endpoints setting.limits) begins.is are) in
          subst (λ (xs : List DemandBatch). MayBeApplied setting.endpoints setting.b allocated (rest setting.b front) xs) (sym (later_is setting allocated rounds before))
          (subst (λ (n : ℕ). MayBeApplied setting.endpoints setting.b n (rest setting.b front) begins.later) (run_length setting allocated) may)

      one : (setting : Setting) (batch : ℕ) → drop batch (replayed setting (suc batch)).batches ≡ batch_at setting batch ∷ []
      one setting batch =
          ap (λ (n : ℕ). drop n ((replayed setting batch).batches ++ batch_at setting batch ∷ [])) (sym (run_length setting batch))
          ∙ drop-append_seam (replayed setting batch).batches (batch_at setting batch ∷ [])
