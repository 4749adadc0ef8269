use Rattle.std.proofs.Common.{◌≡◌, ◌<◌, ◌+◌, ℕ, List, [], ◌∷◌, ◌++◌, length, take, drop, get_or, Option, refl, sym, ap, ◌∙◌, subst, arith}
use Rattle.std.proofs.lemmas.List.{length-take-le}
use Rattle.list_facts.specs.Order.{sort_by}
use Rattle.greedy_rules.specs.declared.flows.Item.{Item}
use Rattle.greedy_rules.specs.Batches.{DemandBatch}
use Rattle.greedy_rules.specs.Demands.{HasEachFlowOnce, AreBelow, item_of, need_in}
use Rattle.greedy_rules.specs.Schedule.{schedule}
use Rattle.greedy_rules.proofs.BatchLemmas.{no_batch}
use Rattle.clos_topology.specs.Network.{Network, endpoints_of}
use Rattle.schedule_audit.specs.Lines.{Path, Place, paths}
use Rattle.schedule_audit.specs.Numbered.{Numbered}
use Rattle.schedule_audit.specs.Totals.{Total, is_wrong_total, first_total}
use Rattle.schedule_audit.specs.Wrong.{slot_places_from}
use Rattle.schedule_audit.specs.Judged.{earlier, PathsStand}
use Rattle.schedule_audit.specs.Played.{AuditIsPlayed}
use Rattle.schedule_audit.proofs.ReadBatches.{read_off}
use Rattle.schedule_audit.proofs.SendOrder.{number}
use Rattle.schedule_audit.proofs.Finished.{next-batch, numbers-fit, all-played, told, figures-are, found-is, short-is}
use Rattle.schedule_audit.proofs.auditor.first_wrong.Goals as goal

pub loop-round-init : goal.loop-round-init
loop-round-init c =
    let net = c.args.net in
    record {
      played = λ lines collects off. record {
        net_is = c.in_ok-judges.ensures.net;
        played = c.in_ok-played.ensures off.batches off.are (collects.records ∙ sym off.is);
        judged = c.in_ok-judges.ensures.stands;
      };
      net = c.in_ok-judges.ensures.net;
      paths = c.in_ok-judges.ensures.paths;
      sends = c.in_ok-judges.ensures.sends;
    }

pub play-requires-clause-numbers : goal.play-requires-clause-numbers
play-requires-clause-numbers c =
    let x = c.requires.collected in
    let lines = x.0 in
    let net = c.args.net in
    let b = c.args.b in
    let off = read_off net lines x.3 in
    let round = c.loop-round.round in
    let less : round < length off.batches = (let most = c.loop-round-test.true in let all = c.unwrap_or-rounds.ensures ∙ x.1.rounds in omega (arith, most, all, off.many)) in
    numbers-fit round (length off.batches) b less (let few = off.few in omega (arith, few, off.many)) (let fits = c.ranges.b.fits in omega (arith, fits))

pub play-requires-clause-few : goal.play-requires-clause-few
play-requires-clause-few c =
    let x = c.requires.collected in
    let lines = x.0 in
    let net = c.args.net in
    let b = c.args.b in
    let off = read_off net lines x.3 in
    let round = c.loop-round.round in
    let less : round < length off.batches = (let most = c.loop-round-test.true in let all = c.unwrap_or-rounds.ensures ∙ x.1.rounds in omega (arith, most, all, off.many)) in
    (let few = off.few in omega (arith, few, less, off.many))

pub play-requires-clause-played : goal.play-requires-clause-played
play-requires-clause-played c =
    let x = c.requires.collected in
    let lines = x.0 in
    let net = c.args.net in
    let b = c.args.b in
    let off = read_off net lines x.3 in
    let round = c.loop-round.round in
    let less : round < length off.batches = (let most = c.loop-round-test.true in let all = c.unwrap_or-rounds.ensures ∙ x.1.rounds in omega (arith, most, all, off.many)) in
    let next = next-batch off.batches round no_batch less in (
      take round off.batches,
      get_or off.batches round no_batch,
      drop (round + 1) off.batches,
      length-take-le round off.batches (omega (arith, less)),
      subst (λ (n : Network). AuditIsPlayed n b (take round off.batches) (get_or off.batches round no_batch ∷ drop (round + 1) off.batches) c.loop-round.played c.loop-round.judges) (sym c.loop-round.invariant.net)
          (subst (λ (xs : List DemandBatch). AuditIsPlayed net b (take round off.batches) xs c.loop-round.played c.loop-round.judges) next.0 (c.loop-round.invariant.played lines x.1 off)),
    )

pub loop-round-preserved : goal.loop-round-preserved
loop-round-preserved c =
    let net = c.args.net in
    let b = c.args.b in
    let round = c.loop-round.round in
    record {
      played = λ lines collects off.
          let less : round < length off.batches = (let most = c.loop-round-test.true in let all = c.unwrap_or-rounds.ensures ∙ collects.rounds in omega (arith, most, all, off.many)) in
          let next = next-batch off.batches round no_batch less in
          subst (λ (xs : List DemandBatch). AuditIsPlayed net b xs (drop (round + 1) off.batches) c.play.new.self c.play.new.judges) next.1
          (subst (λ (n : Network). AuditIsPlayed n b (take round off.batches ++ get_or off.batches round no_batch ∷ []) (drop (round + 1) off.batches) c.play.new.self c.play.new.judges) c.loop-round.invariant.net
          (c.in_ok-play.ensures.played (take round off.batches) (get_or off.batches round no_batch) (drop (round + 1) off.batches) (length-take-le round off.batches (omega (arith, less)))
          (subst (λ (n : Network). AuditIsPlayed n b (take round off.batches) (get_or off.batches round no_batch ∷ drop (round + 1) off.batches) c.loop-round.played c.loop-round.judges) (sym c.loop-round.invariant.net)
          (subst (λ (xs : List DemandBatch). AuditIsPlayed net b (take round off.batches) xs c.loop-round.played c.loop-round.judges) next.0 (c.loop-round.invariant.played lines collects off)))));
      net = c.in_ok-play.ensures.text.net ∙ c.loop-round.invariant.net;
      paths = ap (λ v. v.items) c.in_ok-play.ensures.text.paths ∙ c.loop-round.invariant.paths;
      sends = ap (λ v. v.items) c.in_ok-play.ensures.text.sends ∙ c.loop-round.invariant.sends;
    }

pub needs_of-requires-clause-once : goal.needs_of-requires-clause-once
needs_of-requires-clause-once c =
    let x = c.requires.collected in
    let lines = x.0 in
    let net = c.args.net in
    let b = c.args.b in
    let off = read_off net lines x.3 in
    let round = c.loop-round.round in
    let many : length off.batches ≡ round = (let last = c.loop-round-test.false in let end = c.loop-round.auto.round-end in let all = c.unwrap_or-rounds.ensures ∙ x.1.rounds in omega (arith, last, end, all, off.many)) in
    let played = all-played net b round off.batches c.loop-round.played c.loop-round.judges many (c.loop-round.invariant.played lines x.1 off) in
    subst (λ (items : List Item). HasEachFlowOnce items) (sym (c.list.ensures ∙ played.played.list)) (c.recorded_batches_may_be_applied.ensures.all (endpoints_of net) b (record { hosts = net.hosts; cores = net.cores }) off.batches off.are).left.once

pub needs_of-requires-clause-below : goal.needs_of-requires-clause-below
needs_of-requires-clause-below c =
    let x = c.requires.collected in
    let lines = x.0 in
    let net = c.args.net in
    let b = c.args.b in
    let off = read_off net lines x.3 in
    let round = c.loop-round.round in
    let many : length off.batches ≡ round = (let last = c.loop-round-test.false in let end = c.loop-round.auto.round-end in let all = c.unwrap_or-rounds.ensures ∙ x.1.rounds in omega (arith, last, end, all, off.many)) in
    let played = all-played net b round off.batches c.loop-round.played c.loop-round.judges many (c.loop-round.invariant.played lines x.1 off) in
    subst (λ (n : ℕ). AreBelow n c.list.result.now.items) (sym c.endpoints.ensures.number)
    (subst (λ (items : List Item). AreBelow (endpoints_of net) items) (sym (c.list.ensures ∙ played.played.list)) (c.recorded_batches_may_be_applied.ensures.all (endpoints_of net) b (record { hosts = net.hosts; cores = net.cores }) off.batches off.are).left.below)

pub first_wrong-total-requires : goal.first_wrong-total-requires
first_wrong-total-requires c =
    let x = c.requires.collected in
    let lines = x.0 in
    let net = c.args.net in
    let b = c.args.b in
    let off = read_off net lines x.3 in
    let round = c.loop-round.round in
    let many : length off.batches ≡ round = (let last = c.loop-round-test.false in let end = c.loop-round.auto.round-end in let all = c.unwrap_or-rounds.ensures ∙ x.1.rounds in omega (arith, last, end, all, off.many)) in
    let played = all-played net b round off.batches c.loop-round.played c.loop-round.judges many (c.loop-round.invariant.played lines x.1 off) in
    let figures = figures-are net b lines off c.schedules_go_on.ensures.front c.every_slot_is_in_range.ensures c.every_slots_flows_are_of_entries.ensures.slots c.loop-round.played c.loop-round.judges c.in_ok-left.left played (λ flow. c.in_ok-left.ensures flow ∙ ap (λ (items : List Item). need_in (item_of items flow)) c.list.ensures) in
    (b, told net b lines off, figures)

pub first_missed-send-requires : goal.first_missed-send-requires
first_missed-send-requires c =
    let x = c.requires.collected in
    let lines = x.0 in
    let net = c.args.net in
    let b = c.args.b in
    let off = read_off net lines x.3 in
    let round = c.loop-round.round in
    let many : length off.batches ≡ round = (let last = c.loop-round-test.false in let end = c.loop-round.auto.round-end in let all = c.unwrap_or-rounds.ensures ∙ x.1.rounds in omega (arith, last, end, all, off.many)) in
    let played = all-played net b round off.batches c.loop-round.played c.loop-round.judges many (c.loop-round.invariant.played lines x.1 off) in
    (slot_places_from 1 (schedule b off.batches), played.judged.sends)

pub returns : goal.returns
returns c = λ lines collects small none.
    let net = c.args.net in
    let b = c.args.b in
    let off = read_off net lines none in
    let round = c.loop-round.round in
    let judges = c.loop-round.judges in
    let many : length off.batches ≡ round = (let last = c.loop-round-test.false in let end = c.loop-round.auto.round-end in let all = c.unwrap_or-rounds.ensures ∙ collects.rounds in omega (arith, last, end, all, off.many)) in
    let played = all-played net b round off.batches c.loop-round.played judges many (c.loop-round.invariant.played lines collects off) in
    let figures = figures-are net b lines off c.schedules_go_on.ensures.front c.every_slot_is_in_range.ensures c.every_slots_flows_are_of_entries.ensures.slots c.loop-round.played c.loop-round.judges c.in_ok-left.left played (λ flow. c.in_ok-left.ensures flow ∙ ap (λ (items : List Item). need_in (item_of items flow)) c.list.ensures) in
    let places = slot_places_from 1 (schedule b off.batches) in
    let short = short-is net b lines off c.loop-round.played judges _ c.len-paths.result played (let same = ap (λ (ps : List (Numbered Path)). length ps) collects.paths in omega (arith, c.len-paths.ensures, same)) refl in
    c.earlier-2.ensures
    ∙ (ap (λ (o : Option ℕ). earlier c.first_wrong-path.result o) c.earlier.ensures
    ∙ found-is net b lines off small judges c.first_wrong-path.result c.first_missed-send.result c.first_wrong-total.result (c.loop-round.invariant.paths ∙ collects.paths)
    (c.loop-round.invariant.sends ∙ ap (λ (ss : List (Numbered Place)). sort_by number ss) collects.sends)
    (c.first_wrong-path.ensures places (subst (λ (n : Network). PathsStand n places judges.paths) played.net_is played.judged.paths))
    (c.first_missed-send.ensures places played.judged.sends)
    (c.first_wrong-total.ensures b (told net b lines off) (length (paths lines)) figures short
    ∙ ap (λ (ts : List (Numbered Total)). first_total (is_wrong_total b (told net b lines off) (length (paths lines))) ts) (c.deref.ensures.value ∙ collects.totals)))
