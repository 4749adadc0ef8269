use Rattle.std.proofs.Common.{◌∙◌, rules}
use Rattle.std.specs.Prelude.{reverse}
use Rattle.takeover_text.specs.Progress.{first_events}
use Rattle.takeover_text.proofs.Keeping.{keep_promises}
use Rattle.takeover_text.proofs.write.write_takeover.Goals as goal

pub returns-in_err-gathered : goal.returns-in_err-gathered
returns-in_err-gathered g c =
    let script = c.args.script.now in
    record {
      writes = c.texts_follow.ensures.unwritten c.from_residual.ensures.1;
      promised = λ count. c.what_is_promised.ensures script.pair (first_events script count);
      kept = keep_promises script.pair script.events (c.what_is_promised.ensures script.pair (reverse script.events));
    }

pub returns : goal.returns
returns g c =
    let script = c.args.script.now in
    record {
      writes = c.texts_follow.ensures.whole c.new-output.ensures.told (search rules) (c.new-output.ensures.gathered ∙ c.in_ok-gathered.ensures) c.put_lines-written.ensures;
      promised = λ count. c.what_is_promised.ensures script.pair (first_events script count);
      kept = keep_promises script.pair script.events (c.what_is_promised.ensures script.pair (reverse script.events));
    }
