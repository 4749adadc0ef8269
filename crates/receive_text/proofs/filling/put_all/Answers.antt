use Rattle.std.proofs.Common.{◌≡◌, ◌<◌, ◌∷◌, [], ◌++◌, List, ℕ, Some, slice_get, get_or, length, take, sym, ap, ◌∙◌, arith}
use Rattle.std.proofs.lemmas.List.{take_more}
use Rattle.std.proofs.lemmas.Option.{get_or_from_slice_get}
use Rattle.trace_text.specs.Trace.{puts_at}
use Rattle.front_desk.specs.State.{SeatState}
use Rattle.receive_text.proofs.filling.put_all.Goals as goal

pub loop-at-preserved : goal.loop-at-preserved
loop-at-preserved c =
    let seat : SeatState = c.args.seat.now in
    let puts = puts_at c.args.trace.now seat.endpoint in
    let at = c.loop-at.at in
    let same = ap (λ n. puts_at c.args.trace.now n) c.endpoint-endpoint.ensures in
    let there : slice_get puts at ≡ Some c.put.result.now = ap (λ (l : List (List ℕ)). slice_get l at) (sym same) ∙ c.put.ensures in
    let below : at < length puts = omega (arith, c.loop-at-test.true, c.loop-at.auto.at-end, c.put_count-at-end.ensures.number, ap (λ (l : List (List ℕ)). length l) same) in
    let packet : c.in_ok-of.field-0 ≡ get_or puts at c.put.result.now = c.in_ok-of.ensures ∙ sym (get_or_from_slice_get puts at c.put.result.now c.put.result.now there) in
    c.put-in-loop-at.ensures
    ∙ (ap (λ (s : SeatState). record s { put = s.put ++ c.in_ok-of.field-0 ∷ [] }) c.loop-at.invariant
    ∙ (ap (λ (p : List ℕ). record seat { put = take at puts ++ p ∷ [] }) packet
    ∙ ap (λ (l : List (List ℕ)). record seat { put = l }) (sym (take_more puts at c.put.result.now below))))
