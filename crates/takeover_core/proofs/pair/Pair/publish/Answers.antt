use Rattle.std.proofs.Common.{◌≡◌, ◌<◌, ◌≤◌, ◌+◌, ◌*◌, All, ◌==◌, nat_lt, cond, ◌∷◌, List, ℕ, length, get_or, Some, refl, sym, ap, ◌∙◌, subst, arith}
use Rattle.std.proofs.Math.Nat.{mul-le-mul}
use Rattle.std.proofs.lemmas.Bool.{cond-true, cond-false, lt-ltb, le-ltb}
use Rattle.greedy_rules.specs.declared.flows.Item.{Item}
use Rattle.greedy_rules.specs.Batches.{DemandBatch}
use Rattle.greedy_rules.specs.Schedule.{first_slot, slots_then, list_then}
use Rattle.takeover_history.specs.declared.event.Event.TheVariants as event
use Rattle.takeover_history.specs.declared.event.Refusal.TheVariants.{NoLease}
use Rattle.takeover_history.specs.Events.{BatchIssue, Published, Refused}
use Rattle.takeover_history.specs.Leases.{lease_of, used_of}
use Rattle.takeover_history.specs.Batches.{issue_for}
use Rattle.takeover_history.specs.Steps.{issued_fact, log_of}
use Rattle.takeover_history.proofs.Follow.{lease-node}
use Rattle.takeover_core.specs.declared.node.Node.{Node}
use Rattle.takeover_core.specs.declared.published.Issued.{Issued}
use Rattle.takeover_core.specs.Node.{next_of, MayPublish}
use Rattle.takeover_core.specs.Published.{issue_in}
use Rattle.takeover_core.specs.declared.outcome.Outcome.TheVariants as outcome
use Rattle.takeover_core.proofs.Noding.{other_published}
use Rattle.takeover_core.proofs.Nexting.{may_publish, own_published, same_batch}
use Rattle.takeover_core.proofs.Ending.{published_more, same_issued}
use Rattle.takeover_core.proofs.Stepping.{stands_by, answers_by, stands_refused, nodes_with, two_with}
use Rattle.takeover_core.proofs.pair.Pair.publish.Goals as goal

pub returns-in_default-clause-stands : goal.returns-in_default-clause-stands
returns-in_default-clause-stands c = λ setting events s may.
    stands_refused setting c.args.self.now events (event.Publish c.args.node) NoLease
    (ap (issued_fact setting (log_of setting events) c.args.node) (sym (s.nodes_are c.args.node _ may.is_event).lease_is ∙ c.in_default.is)) s

pub returns-then-used-self-clause-stands : goal.returns-then-used-self-clause-stands
returns-then-used-self-clause-stands c = λ setting events s may.
    let log = log_of setting events in
    let n = s.nodes_are c.args.node c.index-self-node.result may.is_event in
    let of_node : lease_of log c.args.node ≡ Some c.in-Some.lease = sym (s.nodes_are c.args.node _ may.is_event).lease_is ∙ c.in-Some.is in
    stands_refused setting c.args.self.now events (event.Publish c.args.node) NoLease
    (ap (issued_fact setting log c.args.node) of_node
    ∙ cond-false (nat_lt (used_of log c.args.node) setting.span) (Published (issue_for setting log c.in-Some.lease)) (Refused NoLease)
    (le-ltb (used_of log c.args.node) setting.span (omega (arith, n.used_is, s.keeper_is.span_is, c.if-used-self.true)))) s

pub overflow_add-number : goal.overflow_add-number
overflow_add-number c =
    let (setting, events, s, may) = c.requires in
    let log = log_of setting events in
    let few = c.running_counts_serve.ensures.few setting events in
    let of_node : lease_of log c.args.node ≡ Some c.in-Some.lease = sym (s.nodes_are c.args.node _ may.is_event).lease_is ∙ c.in-Some.is in
    let many : length log ≤ 10000 = omega (arith, few.0, may.few) in
    let most : setting.span * length log ≤ 100 * 10000 = mul-le-mul s.fits.batches many in
    omega (arith, few.1.numbers c.args.node c.in-Some.lease of_node, most, s.keeper_is.span_is, c.from.ensures, c.if-used-self.false)

pub publish-requires-clause-may : goal.publish-requires-clause-may
publish-requires-clause-may c =
    let (setting, events, s, may) = c.requires in
    let log = log_of setting events in
    let lease = c.in-Some.lease in
    let of_node : lease_of log c.args.node ≡ Some lease = sym (s.nodes_are c.args.node _ may.is_event).lease_is ∙ c.in-Some.is in
    let before : Node = get_or c.args.self.now.nodes c.args.node c.index-self-node-2.result in
    subst (λ (m : ℕ). MayPublish m before) (sym s.endpoints_are)
    (may_publish setting c.args.node lease.generation log before lease s.fits s.asks_fit (s.nodes_are c.args.node c.index-self-node-2.result may.is_event) of_node (c.running_counts_serve.ensures.next setting events lease.generation))

pub publish-requires-clause-number : goal.publish-requires-clause-number
publish-requires-clause-number c =
    let (setting, events, s, may) = c.requires in
    let log = log_of setting events in
    let few = c.running_counts_serve.ensures.few setting events in
    let of_node : lease_of log c.args.node ≡ Some c.in-Some.lease = sym (s.nodes_are c.args.node _ may.is_event).lease_is ∙ c.in-Some.is in
    let many : length log ≤ 10000 = omega (arith, few.0, may.few) in
    let most : setting.span * length log ≤ 100 * 10000 = mul-le-mul s.fits.batches many in
    let low : c.in-Some.lease.first + c.from.result ≤ 1000000 = omega (arith, few.1.numbers c.args.node c.in-Some.lease of_node, most, s.keeper_is.span_is, c.from.ensures, c.if-used-self.false) in
    let b : c.args.self.now.b ≤ 64 = omega (arith, s.b_is, s.fits.slots) in
    let product : (c.in-Some.lease.first + c.from.result) * c.args.self.now.b ≤ 1000000 * 64 = mul-le-mul low b in
    omega (arith, product, b)

pub publish-requires-clause-before : goal.publish-requires-clause-before
publish-requires-clause-before c =
    let (setting, events, s, may) = c.requires in
    let log = log_of setting events in
    let lease = c.in-Some.lease in
    let n = s.nodes_are c.args.node c.index-self-node-2.result may.is_event in
    let at = s.nodes_are c.args.node c.index-self-node.result may.is_event in
    let of_node : lease_of log c.args.node ≡ Some lease = sym (s.nodes_are c.args.node _ may.is_event).lease_is ∙ c.in-Some.is in
    let before : Node = get_or c.args.self.now.nodes c.args.node c.index-self-node-2.result in
    subst (λ (b : ℕ). All (λ item. item.last < first_slot b (lease.first + c.from.result)) before.list.items) (sym s.b_is)
    (subst (λ (u : ℕ). All (λ item. item.last < first_slot setting.b (lease.first + u)) before.list.items) (sym (c.from.ensures ∙ at.used_is)) (n.before lease of_node))

pub publish-requires-clause-turns : goal.publish-requires-clause-turns
publish-requires-clause-turns c =
    let (setting, events, s, may) = c.requires in
    (s.turns_are.0 ∙ sym s.endpoints_are, s.turns_are.1 ∙ sym s.b_is)

pub returns-clause-answers : goal.returns-clause-answers
returns-clause-answers c = λ setting events s may.
    let log = log_of setting events in
    let node = c.args.node in
    let lease = c.in-Some.lease in
    let n = s.nodes_are node c.index-self-node.result may.is_event in
    let of_node : lease_of log node ≡ Some lease = sym (s.nodes_are node _ may.is_event).lease_is ∙ c.in-Some.is in
    let own = lease-node setting log node lease of_node in
    let number : lease.first + c.from.result ≡ lease.first + used_of log lease.holder.node = ap (λ (u : ℕ). lease.first + u) (c.from.ensures ∙ (n.used_is ∙ ap (λ (k : ℕ). used_of log k) (sym own))) in
    answers_by setting events (event.Publish node) (Published (issue_for setting log lease)) (outcome.Published (lease.first + c.from.result))
    (ap (issued_fact setting log node) of_node
    ∙ cond-true (nat_lt (used_of log node) setting.span) (Published (issue_for setting log lease)) (Refused NoLease) (lt-ltb (used_of log node) setting.span (omega (arith, n.used_is, s.keeper_is.span_is, c.if-used-self.false))))
    (ap (λ (m : ℕ). outcome.Published m) number)

pub returns-clause-stands : goal.returns-clause-stands
returns-clause-stands c = λ setting events s may.
    let log = log_of setting events in
    let node = c.args.node in
    let lease = c.in-Some.lease in
    let g = lease.generation in
    let n = s.nodes_are node c.index-self-node.result may.is_event in
    let then = s.nodes_are node c.index-self-node-2.result may.is_event in
    let of_node : lease_of log node ≡ Some lease = sym (s.nodes_are node _ may.is_event).lease_is ∙ c.in-Some.is in
    let own = lease-node setting log node lease of_node in
    let next = c.running_counts_serve.ensures.next setting events g in
    let keeps = then.keeps lease of_node in
    let number : lease.first + c.from.result ≡ lease.first + used_of log lease.holder.node = ap (λ (u : ℕ). lease.first + u) (c.from.ensures ∙ (n.used_is ∙ ap (λ (k : ℕ). used_of log k) (sym own))) in
    let issue : BatchIssue = issue_for setting log lease in
    let at = lease.first + c.from.result in
    let is = c.in_ok-batch.ensures in
    let before : Node = get_or c.args.self.now.nodes node c.index-self-node-2.result in
    let items : List Item = before.list.items in
    let kept : Issued = record { generation = g; batch = c.in_ok-batch.batch; slots = c.publish.new.slots } in
    let batch = subst (λ (m : ℕ). c.in_ok-batch.batch ≡ next_of m before) s.endpoints_are is.batch ∙ same_batch setting g log before keeps next in
    let slots = is.slots
    ∙ (ap (λ (b : ℕ). slots_then b at (next_of c.args.self.now.endpoints before) items) s.b_is
    ∙ (ap (λ (m : ℕ). slots_then setting.b at (next_of m before) items) s.endpoints_are
    ∙ (ap (λ (k : ℕ). slots_then setting.b k (next_of setting.endpoints before) items) number
    ∙ (ap (λ (b : DemandBatch). slots_then setting.b issue.number b items) (same_batch setting g log before keeps next)
    ∙ ap (λ (xs : List Item). slots_then setting.b issue.number issue.batch xs) keeps.list_is)))) in
    let lists = is.list
    ∙ (ap (λ (b : ℕ). list_then b at (next_of c.args.self.now.endpoints before) items) s.b_is
    ∙ ap (λ (m : ℕ). list_then setting.b at (next_of m before) items) s.endpoints_are) in
    let befores = subst (λ (b : ℕ). All (λ item. item.last < first_slot b (at + 1)) c.publish.new.self.list.items) s.b_is is.before in
    let fact = ap (issued_fact setting log node) of_node
    ∙ cond-true (nat_lt (used_of log node) setting.span) (Published issue) (Refused NoLease) (lt-ltb (used_of log node) setting.span (omega (arith, n.used_is, s.keeper_is.span_is, c.if-used-self.false))) in
    stands_by setting _ events (event.Publish node) (Published issue) fact (record {
      fits = s.fits;
      asks_fit = s.asks_fit;
      endpoints_are = s.endpoints_are;
      b_is = s.b_is;
      keeper_is = s.keeper_is;
      turns_are = (is.turns.0 ∙ s.endpoints_are, is.turns.1 ∙ s.b_is);
      two = two_with c.args.self.now.nodes node c.publish.new.self s.two;
      nodes_are = nodes_with setting log (Published issue ∷ log) c.args.self.now.nodes node c.publish.new.self s.two may.is_event s.nodes_are
          (own_published setting log node at before c.publish.new.self lease of_node own number next lists is.room befores is.published is.used is.told is.boot is.lease then)
          (λ k other below apart it. other_published setting log k other issue (λ e. apart (sym own ∙ e))
          (λ held its same. c.running_counts_serve.ensures.own setting events node k lease held of_node its apart (sym same)) it);
      ends_are = s.ends_are;
      published_are = published_more setting log issue kept c.args.self.now.published c.publish-2.new.self s.published_are
          (same_issued setting.endpoints kept issue refl batch slots (is.table ∙ s.endpoints_are))
          (λ k. subst (λ (m : ℕ). issue_in c.publish-2.new.self k ≡ cond (m == k) (Some kept) (issue_in c.args.self.now.published k)) number (c.in_ok-publish.ensures.batches k))
          c.in_ok-publish.ensures.heard;
      last_is = ap (λ (m : ℕ). Some m) number;
      none_is = s.none_is;
    })
