use Rattle.std.proofs.Common.{◌≡◌, ◌≤◌, ◌<◌, ◌+◌, ◌*◌, [], ◌∷◌, ℕ, zero, suc, List, length, cond, get_or, replicate, Option, None, refl, sym, ap, ◌∙◌, arith}
use Rattle.std.proofs.lemmas.List.{length-replicate, get_or-replicate}
use Rattle.takeover_history.specs.declared.lease.Holder.{Holder}
use Rattle.takeover_history.specs.Events.{PairSetting}
use Rattle.takeover_core.specs.declared.node.Node.{Node}
use Rattle.takeover_core.specs.declared.keeper.Keeper.{Keeper}
use Rattle.takeover_core.specs.declared.endpoints.Endpoints.{Endpoints}
use Rattle.takeover_core.specs.declared.published.Issued.{Issued}
use Rattle.greedy_rules.specs.declared.flows.Flow.{Flow}
use Rattle.greedy_rules.specs.Batches.{DemandBatch}
use Rattle.greedy_rules.specs.Cells.{flow_of}
use Rattle.std.specs.Prelude.{count_by}
use Rattle.takeover_history.specs.Endpoints.{is_of}
use Rattle.takeover_core.specs.Sending.{sends_in}
use Rattle.takeover_core.specs.Messages.{message_at, request_in, grant_in, is_holder}
use Rattle.takeover_core.specs.Standing.{IsNodeOf, no_issued_batch}
use Rattle.takeover_core.proofs.pair.Pair.open.Goals as goal

node_first : (setting : PairSetting) (number : ℕ) (node : Node) → node.boot ≡ 1 → node.lease ≡ None → node.used ≡ 0 → node.told.endpoints ≡ setting.endpoints → node.published.endpoints ≡ setting.endpoints
    → setting.endpoints * setting.endpoints ≤ length node.list.items + node.list.spare → IsNodeOf setting [] number node
node_first setting number node boots leases useds told published room = record {
  boot_is = boots;
  lease_is = leases;
  used_is = useds;
  told = told;
  published = published;
  room = room;
  keeps = λ held is. absurd (cc);
  before = λ held is. absurd (cc);
}

two_of : (setting : PairSetting) (one other : Node) → IsNodeOf setting [] 0 one → IsNodeOf setting [] 1 other → (number : ℕ) (d : Node) → number < 2 → IsNodeOf setting [] number (get_or (one ∷ other ∷ []) number d)
two_of setting one other first second zero d below = first
two_of setting one other first second (suc zero) d below = second
two_of setting one other first second (suc (suc number)) d below = absurd (omega arith)

abbrev blank : DemandBatch → List (List Flow) → ℕ → Issued
blank batch slots endpoints = record { generation = 0; batch = batch; slots = record { slots = slots; endpoints = endpoints } }

pub returns : goal.returns
returns c =
    let setting : PairSetting = record { endpoints = c.args.endpoints; b = c.args.b; span = c.args.lease } in
    let k = c.in_ok-open.ensures in
    let e = c.in_ok-open-5.ensures in
    let q = c.in_ok-open-6.ensures in
    let keeper : Keeper = c.in_ok-open.field-0 in
    let ends : Endpoints = c.in_ok-open-5.field-0 in
    record {
      fits = c.requires.sizes;
      asks_fit = λ flow. omega arith;
      endpoints_are = refl;
      b_is = refl;
      keeper_is = record {
        span_is = k.span;
        next = omega (arith, k.next);
        generation = λ holder. ap (λ (o : Option Holder). cond (is_holder o holder) 0 1 + 0) (sym k.holder) ∙ ap (λ (n : ℕ). cond (is_holder keeper.holder holder) 0 1 + n) (sym k.generation);
        bounded = omega (arith, k.generation);
        count = ap (λ xs. length xs) k.messages;
        asks = λ m. ap (λ xs. request_in (message_at xs m)) (sym k.messages);
        answers = λ m. ap (λ xs. grant_in (message_at xs m)) (sym k.messages);
      };
      turns_are = (c.in_ok-open-4.ensures.endpoints, c.in_ok-open-4.ensures.b);
      two = refl;
      nodes_are = two_of setting c.in_ok-open-2.field-0 c.in_ok-open-3.field-0
          (let n = c.in_ok-open-2.ensures in node_first setting 0 c.in_ok-open-2.field-0 n.boot n.lease n.used n.told n.published n.room)
          (let n = c.in_ok-open-3.ensures in node_first setting 1 c.in_ok-open-3.field-0 n.boot n.lease n.used n.told n.published n.room);
      ends_are = record {
        count = ap (λ (xs : List ℕ). length xs) e.generations ∙ length-replicate c.args.endpoints 0;
        generations_are = λ src in_src. ap (λ (xs : List ℕ). get_or xs src 0) e.generations ∙ get_or-replicate c.args.endpoints src 0 0 in_src;
        asked_is = (e.asked.0, λ s d in_s in_d. e.asked.1 s d);
        base_is = (e.base.0, λ s d in_s in_d. e.base.1 s d);
        sent_is = ap sends_in e.sent;
        counts_are = e.counts.0;
        counted = λ s d in_s in_d. e.counts.1 s d ∙ sym (ap (λ xs. count_by (is_of (flow_of s d)) (sends_in xs)) e.sent);
      };
      published_are = record { batches_are = λ number. c.new.ensures.none number; heard_are = λ src number. c.new.ensures.unheard src number };
      last_is = refl;
      none_is =
          ap (λ (b : DemandBatch). blank b c.in_ok-open-6.field-0.slots c.in_ok-open-6.field-0.endpoints) c.with_limits.ensures
          ∙ (ap (λ (xs : List (List Flow)). blank (no_issued_batch setting).batch xs c.in_ok-open-6.field-0.endpoints) (q.slots ∙ ap (λ (n : ℕ). replicate n []) c.from.ensures)
          ∙ ap (λ (n : ℕ). blank (no_issued_batch setting).batch (replicate c.args.b []) n) q.endpoints);
    }
