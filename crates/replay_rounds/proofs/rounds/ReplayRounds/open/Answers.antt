use Rattle.std.proofs.Common.{◌≡◌, ◌+◌, ℕ, List, [], ◌∷◌, ◌++◌, length, sym, ap, ◌∙◌, subst, arith}
use Rattle.std.proofs.lemmas.List.{length_push}
use Rattle.lane_rounds.specs.State.{RoundsState}
use Rattle.replay_rounds.proofs.OpenedLanes.{AreOpened, none_opened, opened_more, stands_opened}
use Rattle.replay_rounds.proofs.rounds.ReplayRounds.open.Goals as goal

pub loop-endpoint-init : goal.loop-endpoint-init
loop-endpoint-init c = record {
  count = ap length c.in_ok-lanes.ensures.items;
  each = none_opened c.endpoints-endpoints.result c.args.b c.args.g c.in_ok-lanes.lanes.items c.in_ok-lanes.ensures.items;
}

pub loop-endpoint-preserved : goal.loop-endpoint-preserved
loop-endpoint-preserved c =
    let lanes : List RoundsState = c.loop-endpoint.lanes.items in
    let new : RoundsState = c.in_ok-open.field-0 in
    let opened = c.in_ok-open.ensures in
    let pushed : c.push.new.self.items ≡ lanes ++ new ∷ [] = c.in_ok-push.ensures.items in
    record {
      count = ap length pushed ∙ (length_push lanes new ∙ ap (λ (n : ℕ). n + 1) c.loop-endpoint.invariant.count);
      each = subst (AreOpened c.endpoints-endpoints.result c.args.b c.args.g) (sym pushed)
          (opened_more c.endpoints-endpoints.result c.args.b c.args.g lanes c.loop-endpoint.endpoint new c.loop-endpoint.invariant.count
          (record { own = opened.endpoint; endpoints = opened.endpoints; b = opened.b; g = opened.g; whole = opened.whole; stands = opened.stands }) c.loop-endpoint.invariant.each);
    }

pub returns-clause-stands : goal.returns-clause-stands
returns-clause-stands c = λ cores named.
    let publisher = c.in_ok-open-2.ensures in
    stands_opened c.args.trace.now cores c.args.b c.args.g c.endpoints-endpoints.result c.loop-endpoint.lanes.items c.in_ok-open-2.field-0 named c.requires.b c.requires.g
    c.endpoints-endpoints.ensures.number (omega (arith, c.loop-endpoint.invariant.count)) c.loop-endpoint.invariant.each
    publisher.endpoints (publisher.batches ∙ c.from.ensures) publisher.b publisher.first publisher.count publisher.slots
