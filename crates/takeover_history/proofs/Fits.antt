-- Each next batch may be applied, a generation is one node's, and every number is small.
use Rattle.std.proofs.Common.{◌≡◌, ◌<◌, ◌≤◌, ◌+◌, ◌-◌, ◌*◌, ◌==◌, nat_lt, ◌||◌, ◌&&◌, not, ℕ, zero, suc, List, [], ◌∷◌, ◌++◌, map, length, get_or, cond, find, Bool, true, false, Option, Some, None, is_some, All, IsTrue, refl, sym, ap, ◌∙◌, subst, inl, inr, arith, length-append}
use Rattle.std.specs.Prelude.{Contains}
use Rattle.std.proofs.Math.Nat.{mul-suc, mul-le-mul_left}
use Rattle.std.proofs.lemmas.Bool.{cases_Bool, cases_eq, cond-true, cond-false, cond_both, eq-eqb, ne_eqb, eqb-true, lt-ltb, le-ltb, or_left}
use Rattle.std.proofs.lemmas.Option.{same_Some}
use Rattle.std.proofs.lemmas.List.{length-map, append-nil}
use Rattle.std.proofs.lemmas.List.Elements.{All-nil, All-cons, All-head, All-tail, All-append, All-weaker, All-contains}
use Rattle.list_facts.proofs.StableSort.{length-sort_by}
use Rattle.greedy_rules.specs.declared.flows.Flow.{Flow}
use Rattle.greedy_rules.specs.declared.flows.Item.{Item}
use Rattle.greedy_rules.specs.declared.flows.Entry.{Entry}
use Rattle.greedy_rules.specs.Limits.{is_barred}
use Rattle.greedy_rules.specs.Batches.{DemandBatch, entry_of}
use Rattle.greedy_rules.specs.Demands.{AreBelow, OpensNewFlows, is_listed, need_with, with_batch, opened, after_batch}
use Rattle.greedy_rules.specs.SlotTable.{destination_of}
use Rattle.greedy_rules.specs.Allocation.{list_through, list_after_slots}
use Rattle.greedy_rules.specs.Schedule.{first_slot, list_then}
use Rattle.greedy_rules.specs.Balance.{Balances, EveryBatchBalances, is_recorded}
use Rattle.greedy_rules.proofs.Facts.{All-opened}
use Rattle.greedy_rules.specs.Cells.{flow_of}
use Rattle.greedy_rules.proofs.CellLemmas.{rows_here}
use Rattle.greedy_rules.proofs.RecordedLemmas.{need_of_item}
use Rattle.greedy_rules.proofs.ScheduleLemmas.{length-through}
use Rattle.takeover_history.proofs.Pairs.{few}
use Rattle.takeover_history.specs.Events.{PairSetting, Event, Holder, Lease, BatchIssue, Fact, Asked, Requested, Granted, Took, Told, Published, Heard, Crashed, Refused, Log}
use Rattle.takeover_history.specs.Leases.{boot_of, sent_messages, leases, same_holder, changes, lease_of, used_of}
use Rattle.takeover_history.specs.Endpoints.{asked_of_flow, generation_of, issues, issue_at, base_of, recorded_of_flow, Send, send_to, own_sends, sends_at, sent}
use Rattle.takeover_history.specs.Batches.{published_batches, batches_only, list_by, list_of, published, rise, entry_for, entries_for, batch_for, issue_for}
use Rattle.takeover_history.specs.Steps.{log_of, IsLog}
use Rattle.takeover_history.specs.Fits.{MayBeNext, EveryNextBatchMayBeApplied, NodesHaveOwnGenerations, HasFewOf, EveryLogHasFew}
use Rattle.takeover_history.proofs.Follow.{lease-node, find-number, is_log}
use Rattle.takeover_history.proofs.Counts.{Counts}
use Rattle.takeover_history.proofs.Lists.{all, entry, of, rises, adds, recorded-more, IsListOf, lists, applies}
use Rattle.takeover_history.proofs.Totals.{holds, allocated, unheard}
use Rattle.takeover_history.proofs.Leases.{Leased, leased, IsOwned, IsUsed}
use Rattle.takeover_history.proofs.Generations.{AreGranted, granted, Agree, all_agree}
use Rattle.takeover_history.proofs.Anew.{taken-there}
use Rattle.takeover_history.proofs.Slots.{HasSlots, slots_of_all}
use Rattle.takeover_history.proofs.Sends.{found}

-- ---- how long lists are

length-then : (b k : ℕ) (batch : DemandBatch) (list : List Item) → length (list_then b k batch list) ≡ length list + length (opened batch.entries)
length-then b k batch list =
    length-sort_by (λ (item : Item). item.last) (list_through (is_barred batch.limits) (first_slot b k) b (after_batch batch.entries list))
    ∙ (length-through (is_barred batch.limits) (first_slot b k) b (after_batch batch.entries list)
    ∙ (length-sort_by (λ (item : Item). item.last) (map (with_batch batch.entries) list ++ opened batch.entries)
    ∙ (length-append (map (with_batch batch.entries) list) (opened batch.entries)
    ∙ ap (λ (n : ℕ). n + length (opened batch.entries)) (length-map list (with_batch batch.entries)))))

-- ---- the next batch

-- the entry of a flow is there where its total rose
entry-there : (setting : PairSetting) (k : ℕ) (log : Log) (src dst : ℕ) → src < setting.endpoints → dst < setting.endpoints
    → is_some (entry_of (entries_for setting k log) (flow_of src dst)) ≡ nat_lt 0 (rise setting k log (flow_of src dst))
entry-there setting k log src dst in_src in_dst =
    ap is_some (rows_here (entry_for setting k log) (of setting k log) 0 setting.endpoints setting.endpoints src dst (omega arith) (omega arith) in_dst)
    ∙ is_there (nat_lt 0 (rise setting k log (flow_of src dst))) (entry setting k log src dst)
  where
    is_there : (b : Bool) (e : Entry) → is_some (cond b (Some e) None) ≡ b
    is_there true e = refl
    is_there false e = refl

rose : (before now : ℕ) → before ≤ now → (nat_lt 0 before || nat_lt 0 (now - before)) ≡ nat_lt 0 now
rose zero now le = ap (λ (n : ℕ). nat_lt 0 n) (omega arith)
rose (suc before) now le = or_left (nat_lt 0 (suc before)) (nat_lt 0 (now - suc before)) (lt-ltb 0 (suc before) (omega arith)) ∙ sym (lt-ltb 0 now (omega arith))

module _ (balances : EveryBatchBalances) where
  is_new-more : (setting : PairSetting) (k : ℕ) (log : Log) (lease : Lease) (src dst : ℕ) → IsLog setting log → src < setting.endpoints → dst < setting.endpoints
      → is_recorded (batches_only (published_batches k log)) (flow_of src dst) ≡ nat_lt 0 (published setting k log (flow_of src dst))
      → is_recorded (batches_only (published_batches k (Published (issue_for setting log lease) ∷ log))) (flow_of src dst) ≡ nat_lt 0 (published setting k (Published (issue_for setting log lease) ∷ log) (flow_of src dst))
  is_new-more setting k log lease src dst is in_src in_dst before =
      let issue : BatchIssue = issue_for setting log lease in
      let flow : Flow = flow_of src dst in
      elim (cases_eq lease.generation k) [
        | inl here ↦
            let test = eq-eqb lease.generation k here in
            ap (λ (ys : List (ℕ × DemandBatch)). is_recorded (batches_only (published_batches k log ++ ys)) flow) (cond-true (lease.generation == k) ((issue.number, issue.batch) ∷ []) [] test)
            ∙ (recorded-more (published_batches k log) issue.number issue.batch flow
            ∙ (ap (λ (p : Bool). p || is_some (entry_of issue.batch.entries flow)) before
            ∙ (ap (λ (n : ℕ). nat_lt 0 (published setting k log flow) || is_some (entry_of (entries_for setting n log) flow)) here
            ∙ (ap (λ (p : Bool). nat_lt 0 (published setting k log flow) || p) (entry-there setting k log src dst in_src in_dst)
            ∙ (rose (published setting k log flow) (recorded_of_flow setting k log flow) ((holds balances setting log flow is).grows k)
            ∙ ap (λ (n : ℕ). nat_lt 0 n) (sym (cond-true (lease.generation == k) (recorded_of_flow setting k log flow) (published setting k log flow) test)))))))
        | inr there ↦
            let test = ne_eqb lease.generation k there in
            ap (λ (ys : List (ℕ × DemandBatch)). is_recorded (batches_only (published_batches k log ++ ys)) flow) (cond-false (lease.generation == k) ((issue.number, issue.batch) ∷ []) [] test)
            ∙ (ap (λ (ys : List (ℕ × DemandBatch)). is_recorded (batches_only ys) flow) (append-nil (published_batches k log))
            ∙ (before ∙ ap (λ (n : ℕ). nat_lt 0 n) (sym (cond-false (lease.generation == k) (recorded_of_flow setting k log flow) (published setting k log flow) test))))
      ]

  is_new : (setting : PairSetting) (k : ℕ) (log : Log) (src dst : ℕ) → IsLog setting log → src < setting.endpoints → dst < setting.endpoints
      → is_recorded (batches_only (published_batches k log)) (flow_of src dst) ≡ nat_lt 0 (published setting k log (flow_of src dst))
  is_new setting k [] src dst is in_src in_dst = refl
  is_new setting k (Asked flow slots ∷ log) src dst is in_src in_dst = is_new setting k log src dst is.1 in_src in_dst
  is_new setting k (Requested holder ∷ log) src dst is in_src in_dst = is_new setting k log src dst is.1 in_src in_dst
  is_new setting k (Granted lease ∷ log) src dst is in_src in_dst = is_new setting k log src dst is.1 in_src in_dst
  is_new setting k (Took lease ∷ log) src dst is in_src in_dst = is_new setting k log src dst is.1 in_src in_dst
  is_new setting k (Told teller generation ∷ log) src dst is in_src in_dst = is_new setting k log src dst is.1 in_src in_dst
  is_new setting k (Published issue ∷ log) src dst is in_src in_dst =
      subst (λ (i : BatchIssue). is_recorded (batches_only (published_batches k (Published i ∷ log))) (flow_of src dst) ≡ nat_lt 0 (published setting k (Published i ∷ log) (flow_of src dst))) (sym is.0.2)
      (is_new-more setting k log issue.lease src dst is.1 in_src in_dst (is_new setting k log src dst is.1 in_src in_dst))
  is_new setting k (Heard hearer issue ∷ log) src dst is in_src in_dst = is_new setting k log src dst is.1 in_src in_dst
  is_new setting k (Crashed node ∷ log) src dst is in_src in_dst = is_new setting k log src dst is.1 in_src in_dst
  is_new setting k (Refused why ∷ log) src dst is in_src in_dst = is_new setting k log src dst is.1 in_src in_dst

  pub next_batch_may_be_applied : EveryNextBatchMayBeApplied
  next_batch_may_be_applied setting events k =
      let log : Log = log_of setting events in
      let is = is_log setting events in
      let of_k = lists balances setting log is k in
      let list : List Item = list_of setting k log in
      let entries : List Entry = entries_for setting k log in
      let b = applies balances setting k log 0 of_k in
      let Q : Flow → Type 0 = λ flow. (flow.src < setting.endpoints) × (flow.dst < setting.endpoints) in
      let fits = few setting.endpoints (list_then setting.b 0 (batch_for setting k log) list) b.once b.in_range in
      record {
        once = of_k.once;
        below = All-append (λ (item : Item). Q item.flow) list (opened entries) of_k.below (All-opened Q entries (all setting k log (λ (e : Entry). IsTrue e.opens → Q e.flow) (λ src dst low high yes. (low, high))));
        opens = all setting k log (λ (e : Entry). e.opens ≡ not (is_listed list e.flow)) (λ src dst low high. ap not (sym (of_k.listed (flow_of src dst))));
        room = omega (arith, fits, length-then setting.b 0 (batch_for setting k log) list);
        needs = λ at d within.
            let item : Item = get_or list at d in
            let c = holds balances setting log item.flow is in
            omega (arith, need_of_item list at d of_k.once within, adds setting k log item.flow item.need, c.left k, c.grows k, c.within k);
        grows = λ flow. (holds balances setting log flow is).grows k;
        is_new = λ src dst in_src in_dst. is_new setting k log src dst is in_src in_dst;
      }

  -- ---- numbers

  based : (setting : PairSetting) (log : Log) (flow : Flow) → IsLog setting log → base_of setting log flow ≤ asked_of_flow log flow
  based setting log flow is = let c = holds balances setting log flow is in omega (arith, c.now)

-- ---- generations

pub own_generations : NodesHaveOwnGenerations
own_generations setting events node other lease its of_node of_other apart same =
    let log : Log = log_of setting events in
    let is = is_log setting events in
    let agree = all_agree (leases log) (granted setting log is) in
    let row = All-contains (λ (one : Lease). All (Agree one) (leases log)) (leases log) lease agree (taken-there setting log node lease is of_node) in
    let holder = All-contains (Agree lease) (leases log) its row (taken-there setting log other its is of_other) same in
    apart (sym (lease-node setting log node lease of_node) ∙ (ap (λ (h : Holder). h.node) holder ∙ lease-node setting log other its of_other))

-- ---- how many there are

messages-few : (log : Log) → sent_messages log ≤ length log
messages-few [] = omega arith
messages-few (Asked flow slots ∷ log) = omega (arith, messages-few log)
messages-few (Requested holder ∷ log) = omega (arith, messages-few log)
messages-few (Granted lease ∷ log) = omega (arith, messages-few log)
messages-few (Took lease ∷ log) = omega (arith, messages-few log)
messages-few (Told src generation ∷ log) = omega (arith, messages-few log)
messages-few (Published issue ∷ log) = omega (arith, messages-few log)
messages-few (Heard src issue ∷ log) = omega (arith, messages-few log)
messages-few (Crashed node ∷ log) = omega (arith, messages-few log)
messages-few (Refused why ∷ log) = omega (arith, messages-few log)

leases-few : (log : Log) → length (leases log) ≤ length log
leases-few [] = omega arith
leases-few (Asked flow slots ∷ log) = omega (arith, leases-few log)
leases-few (Requested holder ∷ log) = omega (arith, leases-few log)
leases-few (Granted lease ∷ log) = omega (arith, leases-few log)
leases-few (Took lease ∷ log) = omega (arith, leases-few log)
leases-few (Told src generation ∷ log) = omega (arith, leases-few log)
leases-few (Published issue ∷ log) = omega (arith, leases-few log)
leases-few (Heard src issue ∷ log) = omega (arith, leases-few log)
leases-few (Crashed node ∷ log) = omega (arith, leases-few log)
leases-few (Refused why ∷ log) = omega (arith, leases-few log)

boots-few : (node : ℕ) (log : Log) → boot_of log node ≤ 1 + length log
boots-few node [] = omega arith
boots-few node (Asked flow slots ∷ log) = omega (arith, boots-few node log)
boots-few node (Requested holder ∷ log) = omega (arith, boots-few node log)
boots-few node (Granted lease ∷ log) = omega (arith, boots-few node log)
boots-few node (Took lease ∷ log) = omega (arith, boots-few node log)
boots-few node (Told src generation ∷ log) = omega (arith, boots-few node log)
boots-few node (Published issue ∷ log) = omega (arith, boots-few node log)
boots-few node (Heard src issue ∷ log) = omega (arith, boots-few node log)
boots-few node (Crashed gone ∷ log) = cond_both (gone == node) 1 0 (λ (n : ℕ). n + boot_of log node ≤ 1 + suc (length log)) (λ yes. omega (arith, boots-few node log)) (λ no. omega (arith, boots-few node log))
boots-few node (Refused why ∷ log) = omega (arith, boots-few node log)

changes-few : (holder : Holder) (ls : List Lease) → changes holder ls ≤ 1 + length ls
changes-few holder [] = omega arith
changes-few holder (lease ∷ ls) = cond_both (same_holder holder lease.holder) 0 1 (λ (n : ℕ). n + changes lease.holder ls ≤ 1 + suc (length ls)) (λ yes. omega (arith, changes-few lease.holder ls)) (λ no. omega (arith, changes-few lease.holder ls))

used-few : (setting : PairSetting) (log : Log) (node : ℕ) → IsLog setting log → used_of log node ≤ setting.span
used-few setting log node is = at_lease (lease_of log node) refl
  where
    without : (l : Log) → IsLog setting l → lease_of l node ≡ None → used_of l node ≤ setting.span
    without [] log_is none = omega arith
    without (Asked flow slots ∷ l) log_is none = without l log_is.1 none
    without (Requested holder ∷ l) log_is none = without l log_is.1 none
    without (Granted lease ∷ l) log_is none = without l log_is.1 none
    without (Took lease ∷ l) log_is none = elim (cases_Bool (lease.holder.node == node)) [
      | inl here ↦ omega (arith, cond-true (lease.holder.node == node) 0 (used_of l node) here)
      | inr other ↦ omega (arith, cond-false (lease.holder.node == node) 0 (used_of l node) other, without l log_is.1 (rw other at none))
    ]
    without (Told src generation ∷ l) log_is none = without l log_is.1 none
    without (Published issue ∷ l) log_is none = elim (cases_Bool (issue.lease.holder.node == node)) [
      | inl here ↦
          let of_node : issue.lease.holder.node ≡ node = eqb-true issue.lease.holder.node node here in
          let some : None ≡ Some issue.lease = sym none ∙ (ap (λ (n : ℕ). lease_of l n) (sym of_node) ∙ log_is.0.0) in
          absurd (cc)
      | inr other ↦
          let zero_more : ◌≡◌ {A = ℕ} (cond (issue.lease.holder.node == node) 1 0) 0 = cond-false (issue.lease.holder.node == node) 1 0 other in
          omega (arith, zero_more, without l log_is.1 none)
    ]
    without (Heard src issue ∷ l) log_is none = without l log_is.1 none
    without (Crashed gone ∷ l) log_is none = elim (cases_Bool (gone == node)) [
      | inl here ↦ omega (arith, cond-true (gone == node) 0 (used_of l node) here)
      | inr other ↦ omega (arith, cond-false (gone == node) 0 (used_of l node) other, without l log_is.1 (rw other at none))
    ]
    without (Refused why ∷ l) log_is none = without l log_is.1 none

    at_lease : (o : Option Lease) → lease_of log node ≡ o → used_of log node ≤ setting.span
    at_lease None none = without log is none
    at_lease (Some lease) some = ((leased setting log is).taken node lease some).2

own-few : (src number : ℕ) (slots : List (List Flow)) → length (own_sends src number slots) ≤ length slots
own-few src number [] = omega arith
own-few src number (slot ∷ slots) = omega (arith, length-append (send_to src number (destination_of slot src)) (own_sends src (number + 1) slots), one (destination_of slot src), own-few src (number + 1) slots)
  where
    one : (o : Option ℕ) → length (send_to src number o) ≤ 1
    one None = omega arith
    one (Some dst) = omega arith

sent-few : (setting : PairSetting) (log : Log) → IsLog setting log → length (sent setting log) ≤ setting.b * length log
sent-few setting [] is = omega arith
sent-few setting (Asked flow slots ∷ log) is = omega (arith, mul-suc setting.b (length log), sent-few setting log is.1)
sent-few setting (Requested holder ∷ log) is = omega (arith, mul-suc setting.b (length log), sent-few setting log is.1)
sent-few setting (Granted lease ∷ log) is = omega (arith, mul-suc setting.b (length log), sent-few setting log is.1)
sent-few setting (Took lease ∷ log) is = omega (arith, mul-suc setting.b (length log), sent-few setting log is.1)
sent-few setting (Told src generation ∷ log) is = omega (arith, mul-suc setting.b (length log), sent-few setting log is.1)
sent-few setting (Published issue ∷ log) is = omega (arith, mul-suc setting.b (length log), sent-few setting log is.1)
sent-few setting (Heard src issue ∷ log) is =
    let slots : HasSlots setting issue = found (HasSlots setting) (λ i. i.number == issue.number) (issues log) issue (slots_of_all setting log is.1) is.0.0 in
    let own_list : List Send = own_sends src (first_slot setting.b issue.number) issue.slots in
    let here : length (sends_at setting log src issue) ≤ setting.b =
    cond_both (nat_lt (generation_of log src) issue.lease.generation) [] own_list (λ (xs : List Send). length xs ≤ setting.b) (λ later. omega arith) (λ own. omega (arith, own-few src (first_slot setting.b issue.number) issue.slots, slots.0)) in
    omega (arith, mul-suc setting.b (length log), sent-few setting log is.1, length-append (sent setting log) (sends_at setting log src issue), here)
sent-few setting (Crashed node ∷ log) is = omega (arith, mul-suc setting.b (length log), sent-few setting log is.1)
sent-few setting (Refused why ∷ log) is = omega (arith, mul-suc setting.b (length log), sent-few setting log is.1)

length-log : (setting : PairSetting) (events : List Event) → length (log_of setting events) ≡ length events
length-log setting [] = refl
length-log setting (event ∷ events) = ap suc (length-log setting events)

pub few_of_all : EveryBatchBalances → EveryLogHasFew
few_of_all balances setting events =
    let log : Log = log_of setting events in
    let is = is_log setting events in (
      length-log setting events,
      record {
        messages = messages-few log;
        granted = leases-few log;
        changed = λ holder. omega (arith, changes-few holder (leases log), leases-few log);
        boots = λ node. boots-few node log;
        numbers = λ node lease of_node.
            let t = (leased setting log is).taken node lease of_node in
            omega (arith, t.0.0, mul-le-mul_left {m = length (leases log)} {n = length log} setting.span (leases-few log));
        published = λ node. used-few setting log node is;
        based = λ flow. based balances setting log flow is;
        sent = sent-few setting log is;
        issued = λ number issue at.
            let test : BatchIssue → Bool = λ i. i.number == number in
            let used : IsUsed setting log issue = found (IsUsed setting log) test (issues log) issue (leased setting log is).used at in
            let slots : HasSlots setting issue = found (HasSlots setting) test (issues log) issue (slots_of_all setting log is) at in
            let same : issue.number ≡ number = find-number number (issues log) issue at in
            (same, omega (arith, same, used.1, mul-le-mul_left {m = length (leases log)} {n = length log} setting.span (leases-few log)), slots.0);
      },
    )
