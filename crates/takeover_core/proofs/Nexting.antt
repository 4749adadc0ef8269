-- The batch that a node publishes next.
use Rattle.std.proofs.Common.{◌≡◌, ◌<◌, ◌≤◌, ◌+◌, ◌-◌, ◌^◌, ◌==◌, nat_lt, not, ℕ, zero, suc, List, [], ◌∷◌, ◌++◌, length, cond, Bool, false, Option, Some, None, All, inl, inr, refl, sym, ap, ◌∙◌, subst, arith}
use Rattle.std.specs.Prelude.{filter_map}
use Rattle.std.specs.List.{range_with_len, flat_map, cons_option}
use Rattle.std.proofs.lemmas.Bool.{cases_eq, cases_lt, cond-true, eq-eqb, ne_eqb, lt-ltb, le-ltb}
use Rattle.std.proofs.lemmas.Option.{same_Some}
use Rattle.std.proofs.lemmas.List.Elements.{All-weaker}
use Rattle.greedy_rules.specs.declared.flows.Flow.{Flow}
use Rattle.greedy_rules.specs.declared.flows.Item.{Item}
use Rattle.greedy_rules.specs.declared.flows.Entry.{Entry}
use Rattle.greedy_rules.specs.Batches.{DemandBatch, entry_of}
use Rattle.greedy_rules.specs.Demands.{HasEachFlowOnce, AreBelow, OpensNewFlows, need_with, opened}
use Rattle.greedy_rules.specs.Balance.{is_recorded}
use Rattle.greedy_rules.specs.Schedule.{first_slot, list_then}
use Rattle.greedy_rules.specs.Cells.{flow_of}
use Rattle.takeover_history.specs.declared.lease.Lease.{Lease}
use Rattle.takeover_history.specs.Events.{PairSetting, BatchIssue, Published, Log}
use Rattle.takeover_history.specs.Leases.{lease_of, used_of}
use Rattle.takeover_history.specs.Endpoints.{asked_of_flow, recorded_of_flow}
use Rattle.takeover_history.specs.Batches.{published_batches, batches_only, list_by, list_of, published, entry_for, entries_for, one_rack_limits, batch_for, issue_for}
use Rattle.takeover_history.specs.Fits.{MayBeNext}
use Rattle.takeover_history.proofs.Lists.{list_by-append}
use Rattle.takeover_core.specs.Cells.{CellsContent, cell}
use Rattle.takeover_core.specs.Entries.{entry_at, entries_row, entries_between}
use Rattle.takeover_core.specs.declared.node.Node.{Node}
use Rattle.takeover_core.specs.Node.{next_of, MayPublish}
use Rattle.takeover_core.specs.Standing.{IsPairSetting, KeepsGeneration, IsNodeOf}

-- rows that are the same cell by cell
same_row : (f g : ℕ → Option Entry) (a n : ℕ) → ((d : ℕ) → a ≤ d → d < a + n → f d ≡ g d) → filter_map f (range_with_len a n) ≡ filter_map g (range_with_len a n)
same_row f g a zero same = refl
same_row f g a (suc n) same =
    ap (λ (o : Option Entry). cons_option o (filter_map f (range_with_len (a + 1) n))) (same a (omega arith) (omega arith))
    ∙ ap (cons_option (g a)) (same_row f g (a + 1) n (λ d low high. same d (omega arith) (omega arith)))

same_rows : (f g : ℕ → List Entry) (a n : ℕ) → ((s : ℕ) → a ≤ s → s < a + n → f s ≡ g s) → flat_map f (range_with_len a n) ≡ flat_map g (range_with_len a n)
same_rows f g a zero same = refl
same_rows f g a (suc n) same =
    ap (λ (xs : List Entry). xs ++ flat_map f (range_with_len (a + 1) n)) (same a (omega arith) (omega arith))
    ∙ ap (λ (xs : List Entry). g a ++ xs) (same_rows f g (a + 1) n (λ s low high. same s (omega arith) (omega arith)))

above : (low high : ℕ) → nat_lt 0 (high - low) ≡ nat_lt low high
above low high = elim (cases_lt low high) [
  | inl lt ↦ lt-ltb 0 (high - low) (omega arith) ∙ sym (lt-ltb low high lt)
  | inr le ↦ le-ltb 0 (high - low) (omega arith) ∙ sym (le-ltb low high le)
]

none_yet : (n : ℕ) → not (nat_lt 0 n) ≡ (n == 0)
none_yet n = elim (cases_eq n 0) [
  | inl none ↦ ap not (le-ltb 0 n (omega (arith, none))) ∙ sym (eq-eqb n 0 none)
  | inr some ↦ ap not (lt-ltb 0 n (omega (arith, some))) ∙ sym (ne_eqb n 0 some)
]

same_entry : (setting : PairSetting) (k : ℕ) (log : Log) (told pubs : CellsContent) (src dst : ℕ) → cell told src dst ≡ recorded_of_flow setting k log (flow_of src dst) → cell pubs src dst ≡ published setting k log (flow_of src dst)
    → is_recorded (batches_only (published_batches k log)) (flow_of src dst) ≡ nat_lt 0 (published setting k log (flow_of src dst)) → entry_at told pubs src dst ≡ entry_for setting k log src dst
same_entry setting k log told pubs src dst is_told is_pub new =
    let flow : Flow = flow_of src dst in
    let total : ℕ = recorded_of_flow setting k log flow in
    let done : ℕ = published setting k log flow in
    let entry : ℕ → ℕ → Option Entry = λ p t. cond (nat_lt p t) (Some (record { flow = flow; opens = p == 0; clear = false; add = t - p })) None in
    ap (λ (p : ℕ). entry p (cell told src dst)) is_pub
    ∙ (ap (λ (t : ℕ). entry done t) is_told
    ∙ (ap (λ (b : Bool). cond b (Some (record { flow = flow; opens = done == 0; clear = false; add = total - done })) None) (sym (above done total))
    ∙ ap (λ (b : Bool). cond (nat_lt 0 (total - done)) (Some (record { flow = flow; opens = b; clear = false; add = total - done })) None) (sym (none_yet done) ∙ ap not (sym new))))

pub same_entries : (setting : PairSetting) (k : ℕ) (log : Log) (node : Node) → KeepsGeneration setting.endpoints k node (λ g. recorded_of_flow setting g log) (λ g. published setting g log) (λ g. list_of setting g log) → MayBeNext setting k log
    → entries_between node.told node.published setting.endpoints ≡ entries_for setting k log
same_entries setting k log node keeps next =
    same_rows (λ s. entries_row node.told node.published s setting.endpoints) (λ s. filter_map (entry_for setting k log s) (range_with_len 0 setting.endpoints)) 0 setting.endpoints
    (λ s low high. same_row (entry_at node.told node.published s) (entry_for setting k log s) 0 setting.endpoints
    (λ d from to.
    let in_s : s < setting.endpoints = omega arith in
    let in_d : d < setting.endpoints = omega arith in
    same_entry setting k log node.told node.published s d (keeps.told s d in_s in_d) (keeps.published_is s d in_s in_d) (next.is_new s d in_s in_d)))

pub same_batch : (setting : PairSetting) (k : ℕ) (log : Log) (node : Node) → KeepsGeneration setting.endpoints k node (λ g. recorded_of_flow setting g log) (λ g. published setting g log) (λ g. list_of setting g log) → MayBeNext setting k log
    → next_of setting.endpoints node ≡ batch_for setting k log
same_batch setting k log node keeps next = ap (λ (es : List Entry). record { entries = es; limits = one_rack_limits setting }) (same_entries setting k log node keeps next)

-- it may be applied
pub may_publish : (setting : PairSetting) (number k : ℕ) (log : Log) (node : Node) (held : Lease) → IsPairSetting setting → ((flow : Flow) → asked_of_flow log flow ≤ 100000000) → IsNodeOf setting log number node → lease_of log number ≡ Some held
    → MayBeNext setting held.generation log → MayPublish setting.endpoints node
may_publish setting number k log node held fits asks n is next =
    let keeps = n.keeps held is in
    let es = same_entries setting held.generation log node keeps next in
    let ls = keeps.list_is in
    record {
      some = omega (arith, fits.some);
      few = fits.most;
      told = n.told;
      published = n.published;
      once = subst HasEachFlowOnce (sym ls) next.once;
      below = subst (λ (xs : List Item). AreBelow setting.endpoints (xs ++ opened (next_of setting.endpoints node).entries)) (sym ls)
          (subst (λ (xs : List Entry). AreBelow setting.endpoints (list_of setting held.generation log ++ opened xs)) (sym es) next.below);
      opens = subst (λ (xs : List Item). OpensNewFlows (next_of setting.endpoints node).entries xs) (sym ls) (subst (λ (xs : List Entry). OpensNewFlows xs (list_of setting held.generation log)) (sym es) next.opens);
      room = omega (arith, next.room, n.room, ap (λ (xs : List Entry). length (opened xs)) es, ap (λ (xs : List Item). length xs) ls);
      needs = subst (λ (xs : List Item). All (λ item. need_with (entry_of (next_of setting.endpoints node).entries item.flow) item.need < 2 ^ 32) xs) (sym ls)
          (subst (λ (xs : List Entry). All (λ item. need_with (entry_of xs item.flow) item.need < 2 ^ 32) (list_of setting held.generation log)) (sym es)
          (All-weaker (λ (item : Item). need_with (entry_of (entries_for setting held.generation log) item.flow) item.need ≤ asked_of_flow log item.flow) (λ item. need_with (entry_of (entries_for setting held.generation log) item.flow) item.need < 2 ^ 32)
          (λ item le. omega (arith, le, asks item.flow)) (list_of setting held.generation log) next.needs));
    }

-- a node published
pub own_published : (setting : PairSetting) (log : Log) (number at : ℕ) (node now : Node) (lease : Lease) → lease_of log number ≡ Some lease → lease.holder.node ≡ number → at ≡ (issue_for setting log lease).number → MayBeNext setting lease.generation log
    → now.list.items ≡ list_then setting.b at (next_of setting.endpoints node) node.list.items → length now.list.items + now.list.spare ≡ length node.list.items + node.list.spare
    → All (λ item. item.last < first_slot setting.b (at + 1)) now.list.items
    → now.published ≡ node.told → now.used ≡ node.used + 1 → now.told ≡ node.told → now.boot ≡ node.boot → now.lease ≡ node.lease
    → IsNodeOf setting log number node → IsNodeOf setting (Published (issue_for setting log lease) ∷ log) number now
own_published setting log number at node now lease of_number own numbers next lists rooms befores pubs useds tolds boots leases n =
    let issue : BatchIssue = issue_for setting log lease in
    let then : Log = Published issue ∷ log in
    let here = eq-eqb lease.holder.node number own in
    record {
      boot_is = boots ∙ n.boot_is;
      lease_is = leases ∙ n.lease_is;
      used_is = useds ∙ (ap (λ (m : ℕ). m + 1) n.used_is ∙ (omega arith ∙ ap (λ (m : ℕ). m + used_of log number) (sym (cond-true (lease.holder.node == number) 1 0 here))));
      told = ap (λ (t : CellsContent). t.endpoints) tolds ∙ n.told;
      published = ap (λ (t : CellsContent). t.endpoints) pubs ∙ n.told;
      room = omega (arith, n.room, rooms);
      keeps = λ held is.
          let same : lease ≡ held = same_Some lease held (sym of_number ∙ is) in
          let k = n.keeps lease of_number in
          let g : ℕ = lease.generation in
          let of_g = eq-eqb g g refl in
          subst (λ (l : Lease). KeepsGeneration setting.endpoints l.generation now (λ m. recorded_of_flow setting m then) (λ m. published setting m then) (λ m. list_of setting m then)) same (record {
            told = λ s d in_s in_d. ap (λ (t : CellsContent). cell t s d) tolds ∙ k.told s d in_s in_d;
            published_is = λ s d in_s in_d. ap (λ (t : CellsContent). cell t s d) pubs ∙ (k.told s d in_s in_d ∙ sym (cond-true (g == g) (recorded_of_flow setting g log (flow_of s d)) (published setting g log (flow_of s d)) of_g));
            list_is = lists
                ∙ (ap (λ (m : ℕ). list_then setting.b m (next_of setting.endpoints node) node.list.items) numbers
                ∙ (ap (λ (b : DemandBatch). list_then setting.b issue.number b node.list.items) (same_batch setting g log node k next)
                ∙ (ap (λ (xs : List Item). list_then setting.b issue.number issue.batch xs) k.list_is
                ∙ (sym (list_by-append setting.b [] (published_batches g log) ((issue.number, issue.batch) ∷ []))
                ∙ ap (λ (ys : List (ℕ × DemandBatch)). list_by setting.b [] (published_batches g log ++ ys)) (sym (cond-true (g == g) ((issue.number, issue.batch) ∷ []) [] of_g))))));
          });
      before = λ held is.
          let same : lease ≡ held = same_Some lease held (sym of_number ∙ is) in
          let used : used_of then number ≡ 1 + used_of log number = ap (λ (m : ℕ). m + used_of log number) (cond-true (lease.holder.node == number) 1 0 here) in
          let next_number : at + 1 ≡ held.first + used_of then number = omega (arith, numbers, ap (λ (k : ℕ). used_of log k) own, used, ap (λ (l : Lease). l.first) same) in
          subst (λ (m : ℕ). All (λ item. item.last < first_slot setting.b m) now.list.items) next_number befores;
    }
