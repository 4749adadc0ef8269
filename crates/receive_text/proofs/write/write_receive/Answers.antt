use Rattle.std.proofs.Common.{◌∙◌, rules}
use Rattle.receive_text.proofs.write.write_receive.Goals as goal

pub returns : goal.returns
returns g c = c.texts_follow.ensures.whole c.new-output.ensures.told (search rules) (c.new-output.ensures.gathered ∙ c.in_ok-gathered.ensures) c.put_lines-written.ensures
