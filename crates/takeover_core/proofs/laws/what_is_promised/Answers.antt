use Rattle.takeover_core.proofs.laws.what_is_promised.Goals as goal

pub returns : goal.returns
returns c = λ setting events.
    let slots = c.slots_are_matchings.ensures in
    let sends = c.sends_are_asked.ensures in
    let generations = c.each_generation_is_scheduled.ensures in
    record {
      once = c.no_batch_is_published_twice.ensures setting events;
      matching = slots.matching setting events;
      published = slots.published setting events;
      sent_once = slots.once setting events;
      asks = sends.asked setting events;
      none_passed = sends.none_passed setting events;
      none_later = sends.later setting events;
      scheduled = generations.scheduled setting events;
      rise = generations.rise setting events;
      one_node = generations.one_node setting events;
    }
