use Rattle.std.proofs.Common.{◌≡◌, ℕ, ◌+◌, ◌*◌, false, [], ◌∷◌, ap, sym, ◌∙◌, arith}
use Rattle.std.specs.List.{find}
use Rattle.std.proofs.lemmas.Bool.Decides.{nat_tests}
use Rattle.std.proofs.lemmas.Result.{err_from_is_err_and}
use Rattle.fcp_framing.specs.declared.refusal.FrameRefused.TheVariants.{Short, Endpoint, Count, Order, SelfFlow, TooMuch, Mask, Trailing, Epoch, Seq}
use Rattle.fcp_framing.specs.Fields.{allocation_length}
use Rattle.fcp_framing.specs.Refusals.{first_refusal, refuses_allocation, refuses_fields}
use Rattle.fcp_framing.proofs.Finding.{find_on, find_in}
use Rattle.fcp_framing.proofs.downward.check_allocation.Goals as goal

pub returns-in_err-check_lines : goal.returns-in_err-check_lines
unfolding first_refusal
returns-in_err-check_lines c =
    let holds = refuses_allocation c.args.endpoints c.args.slots c.args.bytes.now in
    let short : holds Short ≡ false = grind (arith, nat_tests) in
    let list = find_in holds (Endpoint ∷ Count ∷ Order ∷ SelfFlow ∷ TooMuch ∷ []) (Mask ∷ Trailing ∷ Epoch ∷ Seq ∷ []) _ (sym c.in_err-check_lines.ensures) in
    let answer = err_from_is_err_and c.from_residual.result c.from_residual.ensures.1 in
    rw (answer.1, answer.2, short) (sym list)

pub returns : goal.returns
unfolding first_refusal
returns c =
    let bytes = c.args.bytes.now in
    let holds = refuses_allocation c.args.endpoints c.args.slots bytes in
    let short : holds Short ≡ false = grind (arith, nat_tests) in
    let end : c.header-header.result + 4 * c.count.result ≡ allocation_length bytes = omega (arith, c.header-header.ensures, c.count.ensures) in
    let fields = c.check_fields.ensures ∙ ap (λ (place : ℕ). find (refuses_fields place bytes) (Mask ∷ Trailing ∷ Epoch ∷ Seq ∷ [])) end in
    let list = find_on holds (Endpoint ∷ Count ∷ Order ∷ SelfFlow ∷ TooMuch ∷ []) (Mask ∷ Trailing ∷ Epoch ∷ Seq ∷ []) (sym c.in_ok-check_lines.ensures) in
    rw short (fields ∙ sym list)
