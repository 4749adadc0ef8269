use Rattle.std.proofs.Common.{◌≡◌, [], ◌∷◌, sym, ◌∙◌}
use Rattle.std.proofs.lemmas.Result.{err_from_is_err_and}
use Rattle.fcp_framing.specs.declared.refusal.FrameRefused.TheVariants.{Endpoint, Count, Order, SelfFlow, TooMuch}
use Rattle.fcp_framing.specs.Refusals.{refuses_allocation}
use Rattle.fcp_framing.proofs.Finding.{find_on, find_in}
use Rattle.fcp_framing.proofs.downward.check_lines.Goals as goal

pub returns-in_err-check_destinations : goal.returns-in_err-check_destinations
returns-in_err-check_destinations c =
    let holds = refuses_allocation c.args.endpoints c.args.slots c.args.bytes.now in
    let list = find_in holds (Endpoint ∷ Count ∷ Order ∷ []) (SelfFlow ∷ TooMuch ∷ []) _ (sym (c.in_err-check_destinations.ensures c.args.slots)) in
    let answer = err_from_is_err_and c.from_residual.result c.from_residual.ensures.1 in
    rw (answer.1, answer.2) (sym list)

pub returns : goal.returns
returns c =
    let holds = refuses_allocation c.args.endpoints c.args.slots c.args.bytes.now in
    c.check_told.ensures c.args.endpoints ∙ sym (find_on holds (Endpoint ∷ Count ∷ Order ∷ []) (SelfFlow ∷ TooMuch ∷ []) (sym (c.in_ok-check_destinations.ensures c.args.slots)))
