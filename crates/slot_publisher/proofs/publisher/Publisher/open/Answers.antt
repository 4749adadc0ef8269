use Rattle.slot_publisher.proofs.PlaceLemmas.{slots_of_lists-none}
use Rattle.slot_publisher.proofs.publisher.Publisher.open.Goals as goal

pub returns-clause-slots : goal.returns-clause-slots
returns-clause-slots c = slots_of_lists-none c.args.endpoints c.args.b _ _
