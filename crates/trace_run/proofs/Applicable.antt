-- Batch after batch.
use Rattle.std.proofs.Common.{◌≡◌, ◌<◌, ◌+◌, ◌&&◌, ◌||◌, not, ℕ, zero, suc, List, [], ◌∷◌, ◌++◌, length, filter, cond, Bool, true, false, nat_lt, Option, Some, None, is_some, All, IsTrue, refl, sym, ap, ◌∙◌, subst, arith}
use Rattle.std.specs.Prelude.{IfSome}
use Rattle.std.proofs.lemmas.List.{map-append, append_assoc, append-nil}
use Rattle.std.proofs.lemmas.List.Elements.{All-nil, All-push, All-append, All-map, All-filter}
use Rattle.greedy_rules.specs.declared.flows.Flow.{Flow}
use Rattle.greedy_rules.specs.declared.flows.Item.{Item}
use Rattle.greedy_rules.specs.declared.flows.Entry.{Entry}
use Rattle.greedy_rules.specs.Batches.{DemandBatch, IsBatch, entry_of}
use Rattle.greedy_rules.specs.Demands.{HasEachFlowOnce, AreBelow, OpensNewFlows, is_listed, opened}
use Rattle.greedy_rules.specs.Matching.{AreAmong}
use Rattle.greedy_rules.specs.Schedule.{first_slot, slots_then, list_then, rest, rest_from}
use Rattle.greedy_rules.specs.Balance.{Balances, is_recorded, AreInOrder}
use Rattle.greedy_rules.specs.Cells.{flow_of}
use Rattle.greedy_rules.proofs.CellLemmas.{rows_rise, rows_here, all_rows}
use Rattle.endpoint_history.specs.Lane.{LaneHistory}
use Rattle.endpoint_history.specs.Entries.{had, added, is_reset, entry_with, entries_of_batches}
use Rattle.endpoint_history.specs.Entries as lane
use Rattle.endpoint_history.specs.Steps.{lane_of}
use Rattle.endpoint_history.specs.Rounds.{Round, read}
use Rattle.trace_run.specs.Run.{Setting, round_of, replayed}
use Rattle.trace_run.specs.Histories.{played_after, lane_after}
use Rattle.trace_run.specs.Windows.{batch_at}
use Rattle.trace_run.specs.Applicable.{IsApplicable, EveryRunIsApplicable}
use Rattle.trace_run.specs.Premises.{Schedules}
use Rattle.trace_run.proofs.Through.{kept}

-- ---- the lane that records

-- the endpoint's next round
abbrev pub round_after : Setting → ℕ → ℕ → Round
round_after setting rounds endpoint = round_of setting (replayed setting rounds).batches rounds endpoint

-- the lane's calls when it records the round
abbrev pub recording : Setting → ℕ → ℕ → LaneHistory
recording setting rounds endpoint =
    lane_of (read setting.endpoints setting.g (length ((replayed setting rounds).rounds endpoint)) (round_after setting rounds endpoint) (played_after setting rounds endpoint))

had-kept : (setting : Setting) (rounds src dst : ℕ) → had setting.g (recording setting rounds src) dst ≡ had setting.g (lane_after setting rounds src) dst
had-kept setting rounds src dst =
    kept (λ (h : LaneHistory). had setting.g h dst) (λ r t h. refl) (λ r p h. refl) setting.endpoints setting.g (length ((replayed setting rounds).rounds src))
    (round_after setting rounds src) (played_after setting rounds src)

entries-kept : (setting : Setting) (rounds src dst : ℕ) → entries_of_batches src setting.g (recording setting rounds src) dst ≡ entries_of_batches src setting.g (lane_after setting rounds src) dst
entries-kept setting rounds src dst =
    kept (λ (h : LaneHistory). entries_of_batches src setting.g h dst) (λ r t h. refl) (λ r p h. refl) setting.endpoints setting.g (length ((replayed setting rounds).rounds src))
    (round_after setting rounds src) (played_after setting rounds src)

-- ---- an entry

-- the flow's entry in the batch that is recorded
abbrev pub cell : Setting → ℕ → ℕ → ℕ → Option Entry
cell setting rounds src dst = lane.next_entry src setting.g (recording setting rounds src) dst

with_of : (src dst add : ℕ) (had_it clear : Bool) → IfSome (entry_with src dst had_it clear add) (λ e. e.flow ≡ flow_of src dst)
with_of src dst add had_it clear = helper (nat_lt 0 add || clear) (nat_lt 0 add)
  where
    helper : (some more : Bool) → IfSome (cond some (Some (record { flow = record { src = src; dst = dst }; opens = more && not had_it; clear = clear; add = add })) None) (λ (e : Entry). e.flow ≡ flow_of src dst)
    helper true more = refl
    helper false more = tt

with_opens : (src dst add : ℕ) (had_it reset : Bool) → IfSome (entry_with src dst had_it (reset && had_it) add) (λ e. e.opens ≡ not had_it)
with_opens src dst add had_it reset = helper (nat_lt 0 add) had_it reset
  where
    helper : (more h r : Bool) → IfSome (cond (more || (r && h)) (Some (record { flow = record { src = src; dst = dst }; opens = more && not h; clear = r && h; add = add })) None) (λ (e : Entry). e.opens ≡ not h)
    helper true h r = refl
    helper false true true = refl
    helper false true false = tt
    helper false false true = tt
    helper false false false = tt

with_clears : (src dst add : ℕ) (had_it reset : Bool) → IfSome (entry_with src dst had_it (reset && had_it) add) (λ e. IsTrue e.clear → IsTrue had_it)
with_clears src dst add had_it reset = helper (nat_lt 0 add) had_it reset
  where
    helper : (more h r : Bool) → IfSome (cond (more || (r && h)) (Some (record { flow = record { src = src; dst = dst }; opens = more && not h; clear = r && h; add = add })) None) (λ (e : Entry). IsTrue e.clear → IsTrue h)
    helper true true r = λ clear. refl
    helper true false true = λ clear. clear
    helper true false false = λ clear. clear
    helper false true true = λ clear. refl
    helper false true false = tt
    helper false false true = tt
    helper false false false = tt

with_some : (src dst add : ℕ) (had_it reset : Bool) → (had_it || is_some (entry_with src dst had_it (reset && had_it) add)) ≡ (nat_lt 0 add || had_it)
with_some src dst add had_it reset = helper (nat_lt 0 add) had_it reset
  where
    helper : (more h r : Bool) → (h || is_some {T = Entry} (cond (more || (r && h)) (Some (record { flow = record { src = src; dst = dst }; opens = more && not h; clear = r && h; add = add })) None)) ≡ (more || h)
    helper true true r = refl
    helper true false r = refl
    helper false true r = refl
    helper false false true = refl
    helper false false false = refl

pub cell-of : (setting : Setting) (rounds src dst : ℕ) → IfSome (cell setting rounds src dst) (λ e. e.flow ≡ flow_of src dst)
cell-of setting rounds src dst =
    let h = recording setting rounds src in
    with_of src dst (added setting.g h dst) (had setting.g h dst) (is_reset h && had setting.g h dst)

pub if_some_both : (o : Option Entry) (P Q R : Entry → Type 0) → ((e : Entry) → P e → Q e → R e) → IfSome o P → IfSome o Q → IfSome o R
if_some_both None P Q R f p q = tt
if_some_both (Some e) P Q R f p q = f e p q

-- the flow's entry in the batch is that of its lane
pub cell_here : (setting : Setting) (rounds src dst : ℕ) → src < setting.endpoints → dst < setting.endpoints →
    entry_of (batch_at setting rounds).entries (flow_of src dst) ≡ cell setting rounds src dst
cell_here setting rounds src dst low high =
    rows_here (cell setting rounds) (cell-of setting rounds) 0 setting.endpoints setting.endpoints src dst (omega arith) (omega arith) high

-- what holds of each flow's entry holds of all that are recorded
pub all_cells : (setting : Setting) (rounds : ℕ) (P : Entry → Type 0) →
    ((src dst : ℕ) → src < setting.endpoints → dst < setting.endpoints → IfSome (cell setting rounds src dst) P) → All P (batch_at setting rounds).entries
all_cells setting rounds P each =
    all_rows (cell setting rounds) (cell-of setting rounds) P 0 setting.endpoints setting.endpoints (λ src dst low high within. each src dst (omega arith) within)

-- some batch has the flow exactly where its lane had it
pub had-listed : (setting : Setting) (rounds src dst : ℕ) → IsApplicable setting rounds → src < setting.endpoints → dst < setting.endpoints →
    is_listed (rest setting.b (replayed setting rounds).batches) (flow_of src dst) ≡ had setting.g (recording setting rounds src) dst
had-listed setting rounds src dst a low high = a.listed src dst low high ∙ sym (had-kept setting rounds src dst)

pub opens-new : (setting : Setting) (rounds : ℕ) → IsApplicable setting rounds → OpensNewFlows (batch_at setting rounds).entries (rest setting.b (replayed setting rounds).batches)
opens-new setting rounds a =
    let list : List Item = rest setting.b (replayed setting rounds).batches in
    all_cells setting rounds (λ (e : Entry). e.opens ≡ not (is_listed list e.flow))
    (λ src dst low high.
    let h = recording setting rounds src in
    if_some_both (cell setting rounds src dst) (λ e. e.flow ≡ flow_of src dst) (λ e. e.opens ≡ not (had setting.g h dst)) (λ e. e.opens ≡ not (is_listed list e.flow))
    (λ e of opens. opens ∙ ap not (sym (had-listed setting rounds src dst a low high) ∙ ap (λ (f : Flow). is_listed list f) (sym of)))
    (cell-of setting rounds src dst) (with_opens src dst (added setting.g h dst) (had setting.g h dst) (is_reset h)))

-- an entry clears only what some batch has
pub clears-old : (setting : Setting) (rounds : ℕ) → IsApplicable setting rounds →
    All (λ (e : Entry). IsTrue e.clear → IsTrue (is_listed (rest setting.b (replayed setting rounds).batches) e.flow)) (batch_at setting rounds).entries
clears-old setting rounds a =
    let list : List Item = rest setting.b (replayed setting rounds).batches in
    all_cells setting rounds (λ (e : Entry). IsTrue e.clear → IsTrue (is_listed list e.flow))
    (λ src dst low high.
    let h = recording setting rounds src in
    if_some_both (cell setting rounds src dst) (λ e. e.flow ≡ flow_of src dst) (λ e. IsTrue e.clear → IsTrue (had setting.g h dst)) (λ e. IsTrue e.clear → IsTrue (is_listed list e.flow))
    (λ e of clears clear. subst IsTrue (sym (had-listed setting rounds src dst a low high) ∙ ap (λ (f : Flow). is_listed list f) (sym of)) (clears clear))
    (cell-of setting rounds src dst) (with_clears src dst (added setting.g h dst) (had setting.g h dst) (is_reset h)))

-- ---- batch after batch

-- what a batch is to the list that it finds
pub record Follows (endpoints : ℕ) (batch : DemandBatch) (list : List Item) : Type 0 where
  pub rises : IsBatch batch.entries
  pub opens : OpensNewFlows batch.entries list
  pub once : HasEachFlowOnce list
  pub below : AreBelow endpoints (list ++ opened batch.entries)

abbrev pub EachFollows : ℕ → ℕ → ℕ → List Item → List DemandBatch → Type 0
EachFollows endpoints b k list [] = Unit {0}
EachFollows endpoints b k list (batch ∷ batches) = Follows endpoints batch list × EachFollows endpoints b (k + 1) (list_then b k batch list) batches

EachFollows-more : (endpoints b k : ℕ) (list : List Item) (batches : List DemandBatch) (batch : DemandBatch) → EachFollows endpoints b k list batches →
    Follows endpoints batch (rest_from b k list batches) → EachFollows endpoints b k list (batches ++ batch ∷ [])
EachFollows-more endpoints b k list [] batch each follows = (follows, tt)
EachFollows-more endpoints b k list (x ∷ batches) batch each follows =
    (each.0, EachFollows-more endpoints b (k + 1) (list_then b k x list) batches batch each.1 follows)

AreInOrder-more : (before batches : List DemandBatch) (batch : DemandBatch) → AreInOrder before batches → IsBatch batch.entries →
    All (λ (e : Entry). e.opens ≡ not (is_recorded (before ++ batches) e.flow)) batch.entries → AreInOrder before (batches ++ batch ∷ [])
AreInOrder-more before [] batch in_order rises opens =
    (rises, subst (λ (xs : List DemandBatch). All (λ (e : Entry). e.opens ≡ not (is_recorded xs e.flow)) batch.entries) (append-nil before) opens, tt)
AreInOrder-more before (x ∷ batches) batch in_order rises opens = (
  in_order.0,
  in_order.1,
  AreInOrder-more (before ++ x ∷ []) batches batch in_order.2 rises
      (subst (λ (xs : List DemandBatch). All (λ (e : Entry). e.opens ≡ not (is_recorded xs e.flow)) batch.entries) (sym (append_assoc before (x ∷ []) batches)) opens),
)

pub record Runs (setting : Setting) (rounds : ℕ) : Type 0 where
  pub follows : EachFollows setting.endpoints setting.b 0 [] (replayed setting rounds).batches
  pub is : IsApplicable setting rounds

next : (s : Schedules) (setting : Setting) (rounds : ℕ) → Runs setting rounds → Runs setting (suc rounds)
next s setting rounds run =
    record {
      follows = EachFollows-more n setting.b 0 [] batches batch run.follows follows;
      is = record {
        in_order = AreInOrder-more [] batches batch a.in_order rises opens_recorded;
        among = All-push (λ (x : DemandBatch). AreAmong n x.entries) batches batch a.among among;
        same_limits = All-push (λ (x : DemandBatch). x.limits ≡ setting.limits) batches batch a.same_limits refl;
        once = subst HasEachFlowOnce (sym left) balanced.once;
        below = subst (AreBelow n) (sym left) balanced.in_range;
        listed = λ src dst low high.
            let h = recording setting rounds src in
            ap (λ (l : List Item). is_listed l (flow_of src dst)) left
            ∙ (balanced.listed (flow_of src dst)
            ∙ (ap (λ p. p || is_some (entry_of batch.entries (flow_of src dst))) (had-listed setting rounds src dst a low high)
            ∙ (ap (λ o. had setting.g h dst || is_some o) (cell_here setting rounds src dst low high)
            ∙ with_some src dst (added setting.g h dst) (had setting.g h dst) (is_reset h))));
        entries = λ src dst low high.
            let entry : DemandBatch → Option Entry = λ x. entry_of x.entries (flow_of src dst) in
            map-append entry batches (batch ∷ [])
            ∙ (ap (λ (es : List (Option Entry)). es ++ entry batch ∷ []) (a.entries src dst low high ∙ sym (entries-kept setting rounds src dst))
            ∙ ap (λ (o : Option Entry). entries_of_batches src setting.g (recording setting rounds src) dst ++ o ∷ []) (cell_here setting rounds src dst low high));
      };
    }
  where
    n : ℕ
    n = setting.endpoints

    a : IsApplicable setting rounds
    a = run.is

    batches : List DemandBatch
    batches = (replayed setting rounds).batches

    batch : DemandBatch
    batch = batch_at setting rounds

    list : List Item
    list = rest setting.b batches

    opens_new : OpensNewFlows batch.entries list
    opens_new = opens-new setting rounds a

    opens_recorded : All (λ (e : Entry). e.opens ≡ not (is_recorded batches e.flow)) batch.entries
    opens_recorded = λ k d below. opens_new k d below ∙ ap not ((s.listed setting.b batches a.in_order).1 _)

    rises : IsBatch batch.entries
    rises = rows_rise (cell setting rounds) (cell-of setting rounds) 0 n n

    among : AreAmong n batch.entries
    among = all_cells setting rounds (λ (e : Entry). (e.flow.src < n) × (e.flow.dst < n))
        (λ src dst low high.
        let both : (src < n) × (dst < n) = (low, high) in
        if_some_both (cell setting rounds src dst) (λ e. e.flow ≡ flow_of src dst) (λ e. e.flow ≡ flow_of src dst) (λ e. (e.flow.src < n) × (e.flow.dst < n))
        (λ e of same. subst (λ (f : Flow). (f.src < n) × (f.dst < n)) (sym of) both)
        (cell-of setting rounds src dst) (cell-of setting rounds src dst))

    follows : Follows n batch list
    follows = record {
      rises = rises;
      opens = opens_new;
      once = a.once;
      below = All-append (λ (item : Item). (item.flow.src < n) × (item.flow.dst < n)) list (opened batch.entries) a.below
          (All-map (λ (item : Item). (item.flow.src < n) × (item.flow.dst < n)) (λ (entry : Entry). record { flow = entry.flow; need = entry.add; last = 0 }) (filter (λ (e : Entry). e.opens) batch.entries)
          (All-filter (λ (e : Entry). e.opens) (λ (e : Entry). (e.flow.src < n) × (e.flow.dst < n)) batch.entries among));
    }

    k : ℕ
    k = 0 + length batches

    balanced : Balances n batch.entries list (list_then setting.b k batch list) (slots_then setting.b k batch list)
    balanced = s.balances batch.limits n (first_slot setting.b k) setting.b batch.entries list follows.rises follows.opens follows.once follows.below

    left : rest setting.b (batches ++ batch ∷ []) ≡ list_then setting.b k batch list
    left = (s.more setting.b 0 [] batches (batch ∷ [])).1

pub runs : (s : Schedules) (setting : Setting) (rounds : ℕ) → Runs setting rounds
runs s setting zero =
    record {
      follows = tt;
      is = record {
        in_order = tt;
        among = All-nil (λ (x : DemandBatch). AreAmong setting.endpoints x.entries);
        same_limits = All-nil (λ (x : DemandBatch). x.limits ≡ setting.limits);
        once = λ i j d lt within. absurd (omega arith);
        below = All-nil (λ (item : Item). (item.flow.src < setting.endpoints) × (item.flow.dst < setting.endpoints));
        listed = λ src dst low high. refl;
        entries = λ src dst low high. refl;
      };
    }
runs s setting (suc rounds) = next s setting rounds (runs s setting rounds)

pub every_run_is_applicable : Schedules → EveryRunIsApplicable
every_run_is_applicable s setting rounds = (runs s setting rounds).is
