use Rattle.std.proofs.Common.{◌≡◌, ◌<◌, ◌≤◌, ◌+◌, ◌∷◌, ℕ, List, length, subst, sym, arith}
use Rattle.takeover_history.specs.declared.event.Event.{Event}
use Rattle.greedy_rules.specs.declared.flows.Flow.{Flow}
use Rattle.takeover_history.specs.Endpoints.{asked_of_flow}
use Rattle.takeover_history.specs.Events.{PairSetting}
use Rattle.takeover_history.specs.Steps.{log_of}
use Rattle.takeover_core.specs.Outcomes.{IsEvent, MayFollow}
use Rattle.takeover_rows.specs.Caller.{asked_by}
use Rattle.takeover_rows.proofs.Asking.{asked_more, asks_fit, on_ok}
use Rattle.takeover_rows.proofs.tests.Caller.step.Goals as goal

may : (setting : PairSetting) (events : List Event) (event : Event) (endpoints count asks : ℕ) → setting.endpoints ≡ endpoints → length events ≡ count → ((flow : Flow) → asked_of_flow (log_of setting events) flow ≤ asks) → IsEvent endpoints event × (count < 10000) × (asks + asked_by event ≤ 100000000) → MayFollow setting events event
may setting events event endpoints count asks same counted most is = record {
  few = omega (arith, counted, is.1);
  is_event = subst (λ (n : ℕ). IsEvent n event) (sym same) is.0;
  fits = asks_fit (log_of setting events) event asks most is.2;
}

pub step-requires : goal.step-requires
step-requires g c =
    let h = c.requires in
    (h.setting, h.events, h.stands, may h.setting h.events c.args.event c.args.self.now.endpoints c.args.self.now.count c.args.self.now.asks h.same h.counted h.most (c.may_take-may.ensures c.if-assert.false))

pub returns : goal.returns
returns g c =
    let h = c.requires in
    on_ok c.step.result c.step.ensures.stands
    (λ stands. record {
      setting = h.setting;
      events = c.args.event ∷ h.events;
      stands = stands h.setting h.events h.stands (may h.setting h.events c.args.event c.args.self.now.endpoints c.args.self.now.count c.args.self.now.asks h.same h.counted h.most (c.may_take-may.ensures c.if-assert.false));
      same = h.same;
      counted = omega (arith, h.counted);
      most = λ flow. omega (arith, asked_more h.setting (log_of h.setting h.events) flow c.args.event c.asks_are_counted.ensures, h.most flow, c.asked-slots.ensures);
    })
