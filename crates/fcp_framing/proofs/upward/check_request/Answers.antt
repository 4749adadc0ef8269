use Rattle.std.proofs.Common.{◌≡◌, ℕ, ◌+◌, ◌*◌, false, [], ◌∷◌, ap, sym, ◌∙◌, arith}
use Rattle.std.specs.List.{find}
use Rattle.std.proofs.lemmas.Bool.Decides.{nat_tests}
use Rattle.std.proofs.lemmas.Result.{err_from_is_err_and}
use Rattle.fcp_framing.specs.declared.refusal.FrameRefused.TheVariants.{Short, Endpoint, Count, Order, SelfFlow, TooMuch, Mask, Trailing, Epoch, Seq}
use Rattle.fcp_framing.specs.Fields.{request_length}
use Rattle.fcp_framing.specs.Refusals.{first_refusal, refuses_request, refuses_fields}
use Rattle.fcp_framing.proofs.Finding.{find_on, find_in}
use Rattle.fcp_framing.proofs.upward.check_request.Goals as goal

pub returns-in_err-check_demands : goal.returns-in_err-check_demands
unfolding first_refusal
returns-in_err-check_demands c =
    let holds = refuses_request c.args.endpoints c.args.bytes.now in
    let short : holds Short ≡ false = grind (arith, nat_tests) in
    let list = find_on holds (Endpoint ∷ Count ∷ Order ∷ []) (SelfFlow ∷ TooMuch ∷ Mask ∷ Trailing ∷ Epoch ∷ Seq ∷ []) (sym c.in_ok-check_destinations.ensures) in
    let lines = find_in holds (SelfFlow ∷ TooMuch ∷ []) (Mask ∷ Trailing ∷ Epoch ∷ Seq ∷ []) _ (sym (c.in_err-check_demands.ensures c.args.endpoints)) in
    let answer = err_from_is_err_and c.from_residual-in_err-check_demands.result c.from_residual-in_err-check_demands.ensures.1 in
    rw (answer.1, answer.2, short) (sym (list ∙ lines))

pub returns : goal.returns
unfolding first_refusal
returns c =
    let bytes = c.args.bytes.now in
    let holds = refuses_request c.args.endpoints bytes in
    let short : holds Short ≡ false = grind (arith, nat_tests) in
    let end : c.header-header.result + 6 * c.count.result ≡ request_length bytes = omega (arith, c.header-header.ensures, c.count.ensures) in
    let fields = c.check_fields.ensures ∙ ap (λ (place : ℕ). find (refuses_fields place bytes) (Mask ∷ Trailing ∷ Epoch ∷ Seq ∷ [])) end in
    let lines = find_on holds (SelfFlow ∷ TooMuch ∷ []) (Mask ∷ Trailing ∷ Epoch ∷ Seq ∷ []) (sym (c.in_ok-check_demands.ensures c.args.endpoints)) in
    let list = find_on holds (Endpoint ∷ Count ∷ Order ∷ []) (SelfFlow ∷ TooMuch ∷ Mask ∷ Trailing ∷ Epoch ∷ Seq ∷ []) (sym c.in_ok-check_destinations.ensures) in
    rw short (fields ∙ sym lines ∙ sym list)
