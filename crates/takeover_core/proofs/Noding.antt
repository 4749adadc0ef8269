-- What nodes keep, fact by fact.
use Rattle.std.proofs.Common.{◌≡◌, ◌≢◌, ◌<◌, ◌≤◌, ◌+◌, ◌-◌, ◌*◌, ◌==◌, ◌&&◌, All, nat_lt, not, ℕ, List, [], ◌∷◌, ◌++◌, length, cond, Bool, true, false, Option, Some, None, inl, inr, refl, sym, ap, ◌∙◌, subst, arith}
use Rattle.std.proofs.lemmas.Bool.{cases_Bool, cases_eq, cases_lt, cond-true, cond-false, eq-eqb, ne_eqb, and_left, eqb-true, lt-ltb, le-ltb}
use Rattle.std.proofs.lemmas.Option.{same_Some}
use Rattle.std.proofs.Math.Nat.{mul-le-mul_right}
use Rattle.std.proofs.lemmas.List.{append-nil}
use Rattle.std.proofs.lemmas.List.Elements.{All-nil, All-weaker}
use Rattle.greedy_rules.specs.declared.flows.Flow.{Flow}
use Rattle.greedy_rules.specs.declared.flows.Item.{Item}
use Rattle.greedy_rules.specs.Batches.{DemandBatch}
use Rattle.greedy_rules.specs.Schedule.{first_slot}
use Rattle.takeover_history.specs.declared.lease.Lease.{Lease}
use Rattle.takeover_history.specs.declared.event.Refusal.{Refusal}
use Rattle.takeover_history.specs.declared.event.Refusal.TheVariants.{NoMessage, OldBoot, OldLease, Stale}
use Rattle.takeover_history.specs.Events.{PairSetting, BatchIssue, Fact, Took, Told, Published, Crashed, Refused, Log}
use Rattle.takeover_history.specs.declared.event.Event.{Event}
use Rattle.takeover_history.specs.declared.event.Event.TheVariants.{Take}
use Rattle.takeover_history.specs.Leases.{boot_of, grant_at, lease_of, used_of, begins_above}
use Rattle.takeover_history.specs.Endpoints.{asked_of_flow, generation_of, base_of, recorded_of_flow, total_of}
use Rattle.takeover_history.specs.Batches.{published_batches, list_by, list_of, published}
use Rattle.takeover_history.specs.Steps.{taken_fact, told_fact, done, log_of}
use Rattle.takeover_history.specs.Laws.{AGenerationBeginsAnew}
use Rattle.greedy_rules.specs.Demands.{Demands}
use Rattle.greedy_rules.specs.Cells.{flow_of}
use Rattle.takeover_core.specs.Cells.{CellsContent, cell}
use Rattle.takeover_core.specs.declared.node.Node.{Node}
use Rattle.takeover_core.specs.Node.{begins_below, lease_refusal_of, IsOfNewGeneration}
use Rattle.takeover_core.specs.Standing.{KeepsGeneration, IsNode, IsNodeOf}

-- a node of which nothing changed
pub same_node : (endpoints b : ℕ) (node : Node) (boot boot' : ℕ) (lease lease' : Option Lease) (used used' : ℕ) (totals totals' done done' : ℕ → Flow → ℕ) (list list' : ℕ → List Item)
    → IsNode endpoints b node boot lease used totals done list → boot' ≡ boot → lease' ≡ lease → used' ≡ used
    → ((held : Lease) → lease ≡ Some held → ((flow : Flow) → totals' held.generation flow ≡ totals held.generation flow) × ((flow : Flow) → done' held.generation flow ≡ done held.generation flow) × (list' held.generation ≡ list held.generation))
    → IsNode endpoints b node boot' lease' used' totals' done' list'
same_node endpoints b node boot boot' lease lease' used used' totals totals' done done' list list' n boots leases useds kept = record {
  boot_is = n.boot_is ∙ sym boots;
  lease_is = n.lease_is ∙ sym leases;
  used_is = n.used_is ∙ sym useds;
  told = n.told;
  published = n.published;
  room = n.room;
  keeps = λ held is.
      let before : lease ≡ Some held = sym leases ∙ is in
      let k = n.keeps held before in
      let e = kept held before in
      record {
        told = λ src dst in_src in_dst. k.told src dst in_src in_dst ∙ sym (e.0 (record { src = src; dst = dst }));
        published_is = λ src dst in_src in_dst. k.published_is src dst in_src in_dst ∙ sym (e.1 (record { src = src; dst = dst }));
        list_is = k.list_is ∙ sym e.2;
      };
  before = λ held is. subst (λ (u : ℕ). All (λ item. item.last < first_slot b (held.first + u)) node.list.items) (sym useds) (n.before held (sym leases ∙ is));
}

pub other_took : (setting : PairSetting) (log : Log) (number : ℕ) (node : Node) (lease : Lease) → lease.holder.node ≢ number → IsNodeOf setting log number node → IsNodeOf setting (Took lease ∷ log) number node
other_took setting log number node lease other n =
    same_node setting.endpoints setting.b node (boot_of log number) (boot_of log number) (lease_of log number) (lease_of (Took lease ∷ log) number) (used_of log number) (used_of (Took lease ∷ log) number)
    (λ k. recorded_of_flow setting k log) (λ k. recorded_of_flow setting k log) (λ k. published setting k log) (λ k. published setting k log) (λ k. list_of setting k log) (λ k. list_of setting k log) n refl
    (cond-false (lease.holder.node == number) (Some lease) (lease_of log number) (ne_eqb lease.holder.node number other))
    (cond-false (lease.holder.node == number) 0 (used_of log number) (ne_eqb lease.holder.node number other))
    (λ held is. (λ flow. refl, λ flow. refl, refl))

pub other_crashed : (setting : PairSetting) (log : Log) (number : ℕ) (node : Node) (gone : ℕ) → gone ≢ number → IsNodeOf setting log number node → IsNodeOf setting (Crashed gone ∷ log) number node
other_crashed setting log number node gone other n =
    same_node setting.endpoints setting.b node (boot_of log number) (boot_of (Crashed gone ∷ log) number) (lease_of log number) (lease_of (Crashed gone ∷ log) number) (used_of log number) (used_of (Crashed gone ∷ log) number)
    (λ k. recorded_of_flow setting k log) (λ k. recorded_of_flow setting k log) (λ k. published setting k log) (λ k. published setting k log) (λ k. list_of setting k log) (λ k. list_of setting k log) n
    (ap (λ (n : ℕ). n + boot_of log number) (cond-false (gone == number) 1 0 (ne_eqb gone number other)) ∙ omega arith)
    (cond-false (gone == number) None (lease_of log number) (ne_eqb gone number other))
    (cond-false (gone == number) 0 (used_of log number) (ne_eqb gone number other))
    (λ held is. (λ flow. refl, λ flow. refl, refl))

pub own_crashed : (setting : PairSetting) (log : Log) (number : ℕ) (node now : Node) → now.boot ≡ node.boot + 1 → now.lease ≡ None → now.used ≡ 0 → now.told ≡ node.told → now.published ≡ node.published → now.list ≡ node.list
    → IsNodeOf setting log number node → IsNodeOf setting (Crashed number ∷ log) number now
own_crashed setting log number node now boots leases useds tolds pubs lists n =
    let here = eq-eqb number number refl in
    let none : lease_of (Crashed number ∷ log) number ≡ None = cond-true (number == number) None (lease_of log number) here in
    record {
      boot_is = boots ∙ (ap (λ (n : ℕ). n + 1) n.boot_is ∙ (omega arith ∙ ap (λ (n : ℕ). n + boot_of log number) (sym (cond-true (number == number) 1 0 here))));
      lease_is = leases ∙ sym none;
      used_is = useds ∙ sym (cond-true (number == number) 0 (used_of log number) here);
      told = ap (λ t. t.endpoints) tolds ∙ n.told;
      published = ap (λ t. t.endpoints) pubs ∙ n.published;
      room = omega (arith, n.room, ap (λ l. length l.items + l.spare) lists);
      keeps = λ held is. let no : None ≡ Some held = sym none ∙ is in absurd (cc);
      before = λ held is. let no : None ≡ Some held = sym none ∙ is in absurd (cc);
    }

pub other_told : (setting : PairSetting) (log : Log) (number : ℕ) (node : Node) (src generation : ℕ) → ((held : Lease) → lease_of log number ≡ Some held → held.generation ≢ generation)
    → IsNodeOf setting log number node → IsNodeOf setting (Told src generation ∷ log) number node
other_told setting log number node src generation other n =
    same_node setting.endpoints setting.b node (boot_of log number) (boot_of log number) (lease_of log number) (lease_of log number) (used_of log number) (used_of log number)
    (λ k. recorded_of_flow setting k log) (λ k. recorded_of_flow setting k (Told src generation ∷ log)) (λ k. published setting k log) (λ k. published setting k log) (λ k. list_of setting k log) (λ k. list_of setting k log) n refl refl refl
    (λ held is. (
      λ flow. cond-false ((generation == held.generation) && (src == flow.src)) (total_of setting (Told src generation ∷ log) flow) (recorded_of_flow setting held.generation log flow)
          (and_left (generation == held.generation) (src == flow.src) (ne_eqb generation held.generation (λ e. other held is (sym e)))),
      λ flow. refl,
      refl,
    ))

pub other_published : (setting : PairSetting) (log : Log) (number : ℕ) (node : Node) (issue : BatchIssue) → issue.lease.holder.node ≢ number → ((held : Lease) → lease_of log number ≡ Some held → held.generation ≢ issue.lease.generation)
    → IsNodeOf setting log number node → IsNodeOf setting (Published issue ∷ log) number node
other_published setting log number node issue apart other n =
    same_node setting.endpoints setting.b node (boot_of log number) (boot_of log number) (lease_of log number) (lease_of log number) (used_of log number) (used_of (Published issue ∷ log) number)
    (λ k. recorded_of_flow setting k log) (λ k. recorded_of_flow setting k log) (λ k. published setting k log) (λ k. published setting k (Published issue ∷ log)) (λ k. list_of setting k log) (λ k. list_of setting k (Published issue ∷ log)) n refl refl
    (ap (λ (n : ℕ). n + used_of log number) (cond-false (issue.lease.holder.node == number) 1 0 (ne_eqb issue.lease.holder.node number apart)) ∙ omega arith)
    (λ held is.
    let test = ne_eqb issue.lease.generation held.generation (λ e. other held is (sym e)) in (
      λ flow. refl,
      λ flow. cond-false (issue.lease.generation == held.generation) (recorded_of_flow setting held.generation log flow) (published setting held.generation log flow) test,
      ap (λ (ys : List (ℕ × DemandBatch)). list_by setting.b [] (published_batches held.generation log ++ ys)) (cond-false (issue.lease.generation == held.generation) ((issue.number, issue.batch) ∷ []) [] test)
          ∙ ap (λ (ys : List (ℕ × DemandBatch)). list_by setting.b [] ys) (append-nil (published_batches held.generation log)),
    ))

-- ---- taking a lease

above_below : (span : ℕ) (setting : PairSetting) (last : Option Lease) (lease : Lease) → span ≡ setting.span → begins_above setting last lease ≡ not (begins_below span last lease)
above_below span setting None lease same = refl
above_below span setting (Some last) lease same = elim (cases_lt lease.first (last.first + span)) [
  | inl low ↦ le-ltb (last.first + setting.span) (lease.first + 1) (omega (arith, same)) ∙ ap not (sym (lt-ltb lease.first (last.first + span) low))
  | inr high ↦ lt-ltb (last.first + setting.span) (lease.first + 1) (omega (arith, same)) ∙ ap not (sym (le-ltb lease.first (last.first + span) high))
]

-- what a node that refuses so does
abbrev pub taking : Option Refusal → Lease → Fact
taking None lease = Took lease
taking (Some why) lease = Refused why

three : (a b c : Bool) (lease : Lease) → cond a (cond b (cond (not c) (Took lease) (Refused OldLease)) (Refused OldBoot)) (Refused NoMessage)
    ≡ taking (cond (not a) (Some NoMessage) (cond (not b) (Some OldBoot) (cond c (Some OldLease) None))) lease
three true true true lease = refl
three true true false lease = refl
three true false c lease = refl
three false b c lease = refl

pub taken-is : (setting : PairSetting) (log : Log) (number span : ℕ) (lease : Lease) → span ≡ setting.span → taken_fact setting log number (Some lease) ≡ taking (lease_refusal_of number (boot_of log number) (lease_of log number) lease span) lease
taken-is setting log number span lease same =
    ap (λ (c : Bool). cond (lease.holder.node == number) (cond (lease.holder.boot == boot_of log number) (cond c (Took lease) (Refused OldLease)) (Refused OldBoot)) (Refused NoMessage)) (above_below span setting (lease_of log number) lease same)
    ∙ three (lease.holder.node == number) (lease.holder.boot == boot_of log number) (begins_below span (lease_of log number) lease) lease

-- what a taking does, where the node answers so
pub take-is : (setting : PairSetting) (log : Log) (number m span : ℕ) (node : Node) (lease : Lease) (answer : Option Refusal) → IsNodeOf setting log number node → span ≡ setting.span → grant_at log m ≡ Some lease
    → answer ≡ lease_refusal_of number node.boot node.lease lease span → done setting log (Take number m) ≡ taking answer lease
take-is setting log number m span node lease answer n same grants is =
    ap (taken_fact setting log number) grants
    ∙ (taken-is setting log number span lease same
    ∙ (ap (λ (b : ℕ). taking (lease_refusal_of number b (lease_of log number) lease span) lease) (sym n.boot_is)
    ∙ (ap (λ (l : Option Lease). taking (lease_refusal_of number node.boot l lease span) lease) (sym n.lease_is)
    ∙ ap (λ (o : Option Refusal). taking o lease) (sym is))))

-- a node takes its own leases
pub takes_own : (number boot span : ℕ) (last : Option Lease) (lease : Lease) → lease_refusal_of number boot last lease span ≡ None → lease.holder.node ≡ number
takes_own number boot span last lease none = elim (cases_Bool (lease.holder.node == number)) [
  | inl own ↦ eqb-true lease.holder.node number own
  | inr other ↦
      let some : Some NoMessage ≡ None = subst (λ (b : Bool). cond (not b) (Some NoMessage) (cond (not (lease.holder.boot == boot)) (Some OldBoot) (cond (begins_below span last lease) (Some OldLease) None)) ≡ None) other none in
      absurd (cc)
]

not_below : (span : ℕ) (last lease : Lease) → begins_below span (Some last) lease ≡ false → last.first + span ≤ lease.first
not_below span last lease is = elim (cases_lt lease.first (last.first + span)) [
  | inl low ↦ let yes : nat_lt lease.first (last.first + span) ≡ true = lt-ltb lease.first (last.first + span) low in absurd (cc)
  | inr high ↦ omega (arith, high)
]

-- and only such as begin where the last one ends, or later
pub takes_later : (number boot span : ℕ) (last : Option Lease) (lease : Lease) → lease_refusal_of number boot last lease span ≡ None → begins_below span last lease ≡ false
takes_later number boot span last lease none =
    let late : cond (begins_below span last lease) (Some OldLease) None ≡ None = elim (cases_Bool (lease.holder.node == number)) [
      | inl own ↦ elim (cases_Bool (lease.holder.boot == boot)) [
        | inl same ↦
            sym (cond-false (not (lease.holder.boot == boot)) (Some OldBoot) (cond (begins_below span last lease) (Some OldLease) None) (ap not same))
            ∙ (sym (cond-false (not (lease.holder.node == number)) (Some NoMessage) (cond (not (lease.holder.boot == boot)) (Some OldBoot) (cond (begins_below span last lease) (Some OldLease) None)) (ap not own)) ∙ none)
        | inr other ↦
            let some : Some OldBoot ≡ None =
            sym (cond-true (not (lease.holder.boot == boot)) (Some OldBoot) (cond (begins_below span last lease) (Some OldLease) None) (ap not other))
            ∙ (sym (cond-false (not (lease.holder.node == number)) (Some NoMessage) (cond (not (lease.holder.boot == boot)) (Some OldBoot) (cond (begins_below span last lease) (Some OldLease) None)) (ap not own)) ∙ none) in
            absurd (cc)
      ]
      | inr other ↦
          let some : Some NoMessage ≡ None =
          sym (cond-true (not (lease.holder.node == number)) (Some NoMessage) (cond (not (lease.holder.boot == boot)) (Some OldBoot) (cond (begins_below span last lease) (Some OldLease) None)) (ap not other)) ∙ none in
          absurd (cc)
    ] in
    elim (cases_Bool (begins_below span last lease)) [
      | inl low ↦ let some : Some OldLease ≡ None = sym (cond-true (begins_below span last lease) (Some OldLease) None low) ∙ late in absurd (cc)
      | inr high ↦ high
    ]

by_last : (setting : PairSetting) (log : Log) (number : ℕ) (node now : Node) (lease : Lease) → IsNodeOf setting log number node
    → ((last : Lease) → node.lease ≡ Some last → last.generation ≡ lease.generation → (now.list ≡ node.list) × (now.told ≡ node.told) × (now.published ≡ node.published))
    → (o : Option Lease) → lease_of log number ≡ o
    → (IsOfNewGeneration (lease_of log number) lease → KeepsGeneration setting.endpoints lease.generation now (λ k. recorded_of_flow setting k log) (λ k. published setting k log) (λ k. list_of setting k log))
    → KeepsGeneration setting.endpoints lease.generation now (λ k. recorded_of_flow setting k log) (λ k. published setting k log) (λ k. list_of setting k log)
by_last setting log number node now lease n goes_on None is fresh = fresh (λ last some. let no : None ≡ Some last = sym is ∙ some in absurd (cc))
by_last setting log number node now lease n goes_on (Some last) is fresh = elim (cases_eq last.generation lease.generation) [
  | inl same ↦
      let e = goes_on last (n.lease_is ∙ is) same in
      let k = n.keeps last is in
      subst (λ (g : ℕ). KeepsGeneration setting.endpoints g now (λ k. recorded_of_flow setting k log) (λ k. published setting k log) (λ k. list_of setting k log)) same
      (record {
        told = λ src dst in_src in_dst. ap (λ (t : CellsContent). cell t src dst) e.1 ∙ k.told src dst in_src in_dst;
        published_is = λ src dst in_src in_dst. ap (λ (t : CellsContent). cell t src dst) e.2 ∙ k.published_is src dst in_src in_dst;
        list_is = ap (λ (l : Demands). l.items) e.0 ∙ k.list_is;
      })
  | inr other ↦ fresh (λ it some same. other (ap (λ (l : Lease). l.generation) (same_Some last it (sym is ∙ some)) ∙ same))
]

earlier : (b m n : ℕ) (list : List Item) → m ≤ n → All (λ item. item.last < first_slot b m) list → All (λ item. item.last < first_slot b n) list
earlier b m n list le before =
    let less : m * b ≤ n * b = mul-le-mul_right b le in
    All-weaker (λ (item : Item). item.last < first_slot b m) (λ item. item.last < first_slot b n) (λ item is. omega (arith, is, less)) list before

-- whatever the last lease was, the list was last served before the first batch of the new one
before_lease : (setting : PairSetting) (log : Log) (number : ℕ) (node now : Node) (lease : Lease) → used_of log number ≤ setting.span → begins_below setting.span (lease_of log number) lease ≡ false → IsNodeOf setting log number node
    → (IsOfNewGeneration node.lease lease → (now.list.items ≡ []) × ((src dst : ℕ) → cell now.told src dst ≡ 0) × ((src dst : ℕ) → cell now.published src dst ≡ 0))
    → ((last : Lease) → node.lease ≡ Some last → last.generation ≡ lease.generation → (now.list ≡ node.list) × (now.told ≡ node.told) × (now.published ≡ node.published))
    → (o : Option Lease) → lease_of log number ≡ o → All (λ item. item.last < first_slot setting.b (lease.first + 0)) now.list.items
before_lease setting log number node now lease few above n new goes_on None is =
    subst (λ (items : List Item). All (λ item. item.last < first_slot setting.b (lease.first + 0)) items)
    (sym (new (λ last some. let no : None ≡ Some last = sym is ∙ (sym n.lease_is ∙ some) in absurd (cc))).0) (All-nil (λ (item : Item). item.last < first_slot setting.b (lease.first + 0)))
before_lease setting log number node now lease few above n new goes_on (Some last) is =
    let Before : List Item → Type 0 = λ items. All (λ item. item.last < first_slot setting.b (lease.first + 0)) items in
    elim (cases_eq last.generation lease.generation) [
      | inl same ↦
          let high : last.first + setting.span ≤ lease.first = not_below setting.span last lease (subst (λ (p : Option Lease). begins_below setting.span p lease ≡ false) is above) in
          subst (λ (l : Demands). Before l.items) (sym (goes_on last (n.lease_is ∙ is) same).0)
          (earlier setting.b (last.first + used_of log number) (lease.first + 0) node.list.items (omega (arith, high, few)) (n.before last is))
      | inr apart ↦
          subst Before (sym (new (λ it some same. apart (ap (λ (l : Lease). l.generation) (same_Some last it (sym is ∙ (sym n.lease_is ∙ some))) ∙ same))).0)
          (All-nil (λ (item : Item). item.last < first_slot setting.b (lease.first + 0)))
    ]

pub own_took : (setting : PairSetting) (events : List Event) (number m : ℕ) (node now : Node) (lease : Lease) → AGenerationBeginsAnew → 0 < setting.span
    → used_of (log_of setting events) number ≤ setting.span → begins_below setting.span (lease_of (log_of setting events) number) lease ≡ false → done setting (log_of setting events) (Take number m) ≡ Took lease → lease.holder.node ≡ number
    → now.lease ≡ Some lease → now.used ≡ 0 → now.boot ≡ node.boot → now.told.endpoints ≡ node.told.endpoints → now.published.endpoints ≡ node.published.endpoints
    → length now.list.items + now.list.spare ≡ length node.list.items + node.list.spare
    → (IsOfNewGeneration node.lease lease → (now.list.items ≡ []) × ((src dst : ℕ) → cell now.told src dst ≡ 0) × ((src dst : ℕ) → cell now.published src dst ≡ 0))
    → ((last : Lease) → node.lease ≡ Some last → last.generation ≡ lease.generation → (now.list ≡ node.list) × (now.told ≡ node.told) × (now.published ≡ node.published))
    → IsNodeOf setting (log_of setting events) number node → IsNodeOf setting (Took lease ∷ log_of setting events) number now
own_took setting events number m node now lease anew some few above takes of_number leases useds boots tolds pubs rooms new goes_on n =
    let log : Log = log_of setting events in
    let here = eq-eqb lease.holder.node number of_number in
    let mine : lease_of (Took lease ∷ log) number ≡ Some lease = cond-true (lease.holder.node == number) (Some lease) (lease_of log number) here in
    let fresh : IsOfNewGeneration (lease_of log number) lease → KeepsGeneration setting.endpoints lease.generation now (λ k. recorded_of_flow setting k log) (λ k. published setting k log) (λ k. list_of setting k log) = λ other.
    let e = new (subst (λ (o : Option Lease). IsOfNewGeneration o lease) (sym n.lease_is) other) in
    let a = anew setting events number m lease some takes (λ last is. other last (ap (λ (k : ℕ). lease_of log k) (sym of_number) ∙ is)) in
    record {
      told = λ src dst in_src in_dst. e.1 src dst ∙ sym (a.1 (record { src = src; dst = dst }));
      published_is = λ src dst in_src in_dst. e.2 src dst ∙ sym (a.2 (record { src = src; dst = dst }));
      list_is = e.0 ∙ sym (ap (λ (ys : List (ℕ × DemandBatch)). list_by setting.b [] ys) a.0);
    } in
    let kept : (o : Option Lease) → lease_of log number ≡ o → KeepsGeneration setting.endpoints lease.generation now (λ k. recorded_of_flow setting k log) (λ k. published setting k log) (λ k. list_of setting k log) = λ o is. by_last setting log number node now lease n goes_on o is fresh in
    record {
      boot_is = boots ∙ n.boot_is;
      lease_is = leases ∙ sym mine;
      used_is = useds ∙ sym (cond-true (lease.holder.node == number) 0 (used_of log number) here);
      told = tolds ∙ n.told;
      published = pubs ∙ n.published;
      room = omega (arith, n.room, rooms);
      keeps = λ held is.
          let same : lease ≡ held = same_Some lease held (sym mine ∙ is) in
          subst (λ (l : Lease). KeepsGeneration setting.endpoints l.generation now (λ k. recorded_of_flow setting k log) (λ k. published setting k log) (λ k. list_of setting k log)) same (kept (lease_of log number) refl);
      before = λ held is.
          let same : lease ≡ held = same_Some lease held (sym mine ∙ is) in
          let none_used = cond-true (lease.holder.node == number) 0 (used_of log number) here in
          subst (λ (u : ℕ). All (λ item. item.last < first_slot setting.b (held.first + u)) now.list.items) (sym none_used)
          (subst (λ (l : Lease). All (λ item. item.last < first_slot setting.b (l.first + 0)) now.list.items) same
          (before_lease setting log number node now lease few above n new goes_on (lease_of log number) refl));
    }

-- ---- telling

pub told-is : (log : Log) (src : ℕ) (lease : Lease) → generation_of log src ≤ lease.generation → told_fact log src (Some lease) ≡ Told src lease.generation
told-is log src lease le = cond-false (nat_lt lease.generation (generation_of log src)) (Refused Stale) (Told src lease.generation) (le-ltb lease.generation (generation_of log src) le)

pub told-stale : (log : Log) (src : ℕ) (lease : Lease) → lease.generation < generation_of log src → told_fact log src (Some lease) ≡ Refused Stale
told-stale log src lease lt = cond-true (nat_lt lease.generation (generation_of log src)) (Refused Stale) (Told src lease.generation) (lt-ltb lease.generation (generation_of log src) lt)

pub own_told : (setting : PairSetting) (log : Log) (number : ℕ) (node now : Node) (lease : Lease) (src : ℕ) (asks bases : CellsContent) → lease_of log number ≡ Some lease
    → ((s d : ℕ) → s < setting.endpoints → d < setting.endpoints → cell asks s d ≡ asked_of_flow log (flow_of s d)) → ((s d : ℕ) → s < setting.endpoints → d < setting.endpoints → cell bases s d ≡ base_of setting (Told src lease.generation ∷ log) (flow_of s d))
    → ((s d : ℕ) → d < setting.endpoints → cell now.told s d ≡ cond (src == s) (cell asks s d - cell bases s d) (cell node.told s d))
    → now.told.endpoints ≡ node.told.endpoints → now.boot ≡ node.boot → now.lease ≡ node.lease → now.used ≡ node.used → now.published ≡ node.published → now.list ≡ node.list
    → IsNodeOf setting log number node → IsNodeOf setting (Told src lease.generation ∷ log) number now
own_told setting log number node now lease src asks bases of_number are_asks are_bases tolds endpoints boots leases useds pubs lists n = record {
  boot_is = boots ∙ n.boot_is;
  lease_is = leases ∙ n.lease_is;
  used_is = useds ∙ n.used_is;
  told = endpoints ∙ n.told;
  published = ap (λ (t : CellsContent). t.endpoints) pubs ∙ n.published;
  room = omega (arith, n.room, ap (λ (l : Demands). length l.items + l.spare) lists);
  keeps = λ held is.
      let same : lease ≡ held = same_Some lease held (sym of_number ∙ is) in
      let k = n.keeps held is in
      let then : Log = Told src lease.generation ∷ log in
      record {
        told = λ s d in_s in_d.
            let flow : Flow = flow_of s d in
            let of_lease = eq-eqb lease.generation held.generation (ap (λ (l : Lease). l.generation) same) in
            tolds s d in_d
            ∙ (ap (λ (m : ℕ). cond (src == s) (m - cell bases s d) (cell node.told s d)) (are_asks s d in_s in_d)
            ∙ (ap (λ (m : ℕ). cond (src == s) (asked_of_flow log flow - m) (cell node.told s d)) (are_bases s d in_s in_d)
            ∙ (ap (λ (m : ℕ). cond (src == s) (total_of setting then flow) m) (k.told s d in_s in_d)
            ∙ ap (λ (b : Bool). cond (b && (src == s)) (total_of setting then flow) (recorded_of_flow setting held.generation log flow)) (sym of_lease))));
        published_is = λ s d in_s in_d. ap (λ (t : CellsContent). cell t s d) pubs ∙ k.published_is s d in_s in_d;
        list_is = ap (λ (l : Demands). l.items) lists ∙ k.list_is;
      };
  before = λ held is. subst (λ (l : Demands). All (λ item. item.last < first_slot setting.b (held.first + used_of log number)) l.items) (sym lists) (n.before held is);
}
