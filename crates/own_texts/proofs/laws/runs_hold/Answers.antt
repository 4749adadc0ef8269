-- Runs.
use Rattle.own_texts.proofs.laws.runs_hold.Goals as goal

pub returns : goal.returns
returns c = record {
  long = c.runs_go_on.ensures.batches;
  applicable = c.every_run_is_applicable.ensures.batches;
  recorded = c.every_run_is_recorded.ensures;
  owed = c.ledger_and_rest_agree.ensures.owed;
  counted = c.every_flow_is_counted.ensures;
  asked = c.agents_boot_and_are_asked.ensures.asked;
  scheduled = c.every_send_is_scheduled.ensures.scheduled;
  once = c.every_send_is_scheduled.ensures.once;
  named = c.every_refusal_has_a_number.ensures;
  setting = c.every_setting_is_of_a_trace.ensures;
  takes = c.every_replay_takes_its_steps.ensures;
}
