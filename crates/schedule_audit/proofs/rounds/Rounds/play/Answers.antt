use Rattle.std.proofs.Common.{◌≡◌, ◌+◌, ◌-◌, ◌*◌, ℕ, List, ◌++◌, length, take, drop, refl, sym, ap, ◌∙◌, subst, arith, length-drop}
use Rattle.std.proofs.lemmas.List.{take_all}
use Rattle.greedy_rules.specs.Batches.{DemandBatch}
use Rattle.greedy_rules.specs.declared.flows.Flow.{Flow}
use Rattle.greedy_rules.specs.Recorded.{Applies}
use Rattle.greedy_rules.specs.Matching.{AreAmong}
use Rattle.greedy_rules.specs.Schedule.{schedule}
use Rattle.slot_batches.specs.NextList.{IsListBefore}
use Rattle.clos_topology.specs.Network.{endpoints_of}
use Rattle.schedule_audit.specs.Lines.{Recorded, Place}
use Rattle.schedule_audit.specs.Wrong.{slot_places_from}
use Rattle.schedule_audit.specs.Walked.{JudgesStand}
use Rattle.schedule_audit.proofs.PlaySteps.{begins, given-is, among, applied, visited-before, slots-count, places-more, played-more}
use Rattle.schedule_audit.proofs.rounds.Rounds.play.Goals as goal

-- the slice of the records that are to come
rest-is : (next : ℕ) (all xs : List Recorded) → xs ≡ all → take (length xs - next) (drop next xs) ≡ drop next all
rest-is next all xs is = take_all (length xs - next) (drop next xs) (omega (arith, length-drop next xs)) ∙ ap (λ ys. drop next ys) is

pub read_batch-requires-clause-begins : goal.read_batch-requires-clause-begins
read_batch-requires-clause-begins c =
    let p = c.requires.played in
    let self = c.args.self.now in (
      p.1.entries,
      p.2,
      begins c.args.judges.now.net c.args.b p.0 p.1 p.2 self p.4.played c.args.round _ p.3 (rest-is self.next self.records.items c.deref.result.now c.deref.ensures.value),
    )

pub enter-requires-clause-in_range : goal.enter-requires-clause-in_range
enter-requires-clause-in_range c =
    let p = c.requires.played in
    let self = c.args.self.now in
    let net = c.args.judges.now.net in
    let b = c.args.b in
    let first = begins net b p.0 p.1 p.2 self p.4.played c.args.round _ p.3 (rest-is self.next self.records.items c.deref.result.now c.deref.ensures.value) in
    let is : c.in_ok-batch.batch ≡ p.1 = given-is net b p.0 p.1 p.2 self p.4.played c.in_ok-batch.batch c.hosts.result c.cores.result (c.in_ok-batch.ensures p.1.entries p.2 first) c.hosts.ensures.number c.cores.ensures.number in
    subst (λ (n : ℕ). AreAmong n c.in_ok-batch.batch.entries) (sym p.4.played.sized.seen) (subst (λ (x : DemandBatch). AreAmong (endpoints_of net) x.entries) (sym is) (among net b p.0 p.1 p.2 self p.4.played))

pub serve-requires-clause-applies : goal.serve-requires-clause-applies
serve-requires-clause-applies c =
    let p = c.requires.played in
    let self = c.args.self.now in
    let net = c.args.judges.now.net in
    let b = c.args.b in
    let first = begins net b p.0 p.1 p.2 self p.4.played c.args.round _ p.3 (rest-is self.next self.records.items c.deref.result.now c.deref.ensures.value) in
    let is : c.in_ok-batch.batch ≡ p.1 = given-is net b p.0 p.1 p.2 self p.4.played c.in_ok-batch.batch c.hosts.result c.cores.result (c.in_ok-batch.ensures p.1.entries p.2 first) c.hosts.ensures.number c.cores.ensures.number in
    subst (λ (n : ℕ). Applies n c.in_ok-batch.batch self.demand.items) (sym p.4.played.endpoints) (applied net b p.0 p.1 p.2 self p.4.played c.recorded_batches_may_be_applied.ensures.later c.in_ok-batch.batch is)

pub serve-requires-clause-before : goal.serve-requires-clause-before
serve-requires-clause-before c =
    let p = c.requires.played in
    let at : c.args.round * c.from.result + 1 ≡ length p.0 * c.args.b + 1 = ap (λ (n : ℕ). n * c.from.result + 1) (sym p.3) ∙ ap (λ (n : ℕ). length p.0 * n + 1) c.from.ensures in
    subst (λ (n : ℕ). IsListBefore n c.args.self.now.demand.items) (sym at) p.4.played.before

pub serve-requires-clause-numbers : goal.serve-requires-clause-numbers
serve-requires-clause-numbers c =
    let p = c.requires.played in
    let at : c.args.round * c.from.result ≡ c.args.round * c.args.b = ap (λ (n : ℕ). c.args.round * n) c.from.ensures in
    omega (arith, c.requires.numbers, at, p.4.played.slots)

pub walk-requires-clause-slots : goal.walk-requires-clause-slots
walk-requires-clause-slots c =
    let p = c.requires.played in
    let self = c.args.self.now in
    let net = c.args.judges.now.net in
    let b = c.args.b in
    let first = begins net b p.0 p.1 p.2 self p.4.played c.args.round _ p.3 (rest-is self.next self.records.items c.deref.result.now c.deref.ensures.value) in
    let is : c.in_ok-batch.batch ≡ p.1 = given-is net b p.0 p.1 p.2 self p.4.played c.in_ok-batch.batch c.hosts.result c.cores.result (c.in_ok-batch.ensures p.1.entries p.2 first) c.hosts.ensures.number c.cores.ensures.number in
    let at : c.args.round * c.from.result + 1 ≡ length p.0 * b + 1 = ap (λ (n : ℕ). n * c.from.result + 1) (sym p.3) ∙ ap (λ (n : ℕ). length p.0 * n + 1) c.from.ensures in
    ap (λ (ss : List (List Flow)). length ss) c.slots.ensures.slots
    ∙ slots-count net b p.0 p.1 p.2 self p.4.played c.schedules_go_on.ensures.count (c.args.round * c.from.result + 1) c.in_ok-batch.batch c.serve.new.self.slots is at c.serve.ensures.slots

pub walk-requires-clause-stands : goal.walk-requires-clause-stands
walk-requires-clause-stands c =
    let p = c.requires.played in
    let net = c.args.judges.now.net in
    let b = c.args.b in
    let at : c.args.round * c.from.result + 1 ≡ length p.0 * b + 1 = ap (λ (n : ℕ). n * c.from.result + 1) (sym p.3) ∙ ap (λ (n : ℕ). length p.0 * n + 1) c.from.ensures in (
      slot_places_from 1 (schedule b p.0),
      visited-before net b p.0 p.1 p.2 c.args.self.now p.4.played c.every_slot_is_in_range.ensures c.schedules_go_on.ensures.count p.4.judged.sizes (c.args.round * c.from.result + 1) at,
      p.4.judged,
    )

pub returns-clause-played : goal.returns-clause-played
returns-clause-played c = λ front batch later long played.
    let self = c.args.self.now in
    let net = c.args.judges.now.net in
    let b = c.args.b in
    let first = begins net b front batch later self played.played c.args.round _ long (rest-is self.next self.records.items c.deref.result.now c.deref.ensures.value) in
    let is : c.in_ok-batch.batch ≡ batch = given-is net b front batch later self played.played c.in_ok-batch.batch c.hosts.result c.cores.result (c.in_ok-batch.ensures batch.entries later first) c.hosts.ensures.number c.cores.ensures.number in
    let at : c.args.round * c.from.result + 1 ≡ length front * b + 1 = ap (λ (n : ℕ). n * c.from.result + 1) (sym long) ∙ ap (λ (n : ℕ). length front * n + 1) c.from.ensures in
    let number = c.args.round * c.from.result + 1 in
    let counts = c.schedules_go_on.ensures.count in
    let fronts = c.schedules_go_on.ensures.front in
    let ranged = c.every_slot_is_in_range.ensures in
    let out = c.serve.ensures in
    let leaves = c.every_batch_leaves_a_list.ensures.next in
    let before = visited-before net b front batch later self played.played ranged counts played.judged.sizes number at in
    record {
      net_is = c.walk.ensures.text.net;
      played = played-more net b front batch later self played.played fronts counts ranged leaves c.recorded_batches_may_be_applied.ensures.later c.args.judges.now played.judged c.in_ok-batch.batch number _ is at refl
          (ap (λ (n : ℕ). self.next + n) c.len.ensures.entries) c.enter.ensures.enters c.enter.ensures.sized out.list out.b out.endpoints;
      judged = subst (λ (ps : List Place). JudgesStand ps c.walk.new.judges)
          (ap (λ (ss : List (List Flow)). slot_places_from 1 (schedule b front) ++ slot_places_from number ss) c.slots.ensures.slots
          ∙ places-more net b front batch later self played.played fronts counts number c.in_ok-batch.batch c.serve.new.self.slots is at out.slots)
          (c.walk.ensures.stands (slot_places_from 1 (schedule b front)) before played.judged);
    }
