use Rattle.std.proofs.Common.{◌≡◌, ◌≤◌, ◌+◌, ◌-◌, ◌*◌, ℕ, List, length, drop, refl, ap, mul-le-mul_right, arith}
use Rattle.std.proofs.lemmas.List.{length-take, length-drop}
use Rattle.fcp_framing.specs.declared.packet.Told.{Told}
use Rattle.slot_publisher.proofs.BatchLemmas.{batch_is_put}
use Rattle.slot_publisher.proofs.publisher.put_batch.Goals as goal

pub slice_bounds-put_slots-end-2 : goal.slice_bounds-put_slots-end-2
slice_bounds-put_slots-end-2 c =
    let size : ℕ = c.endpoints-endpoints.result in
    let lists : ℕ = c.args.batch * size in
    let fits : lists + size ≤ length c.args.counts.now = omega (arith, c.requires.lists, c.endpoints-endpoints.ensures, ap (λ (e : ℕ). c.args.batch * e) c.endpoints-endpoints.ensures) in
    let places : (lists + size) * c.args.b ≤ length c.args.counts.now * c.args.b = mul-le-mul_right c.args.b fits in
    omega (arith, places, c.requires.places)

pub returns : goal.returns
returns c =
    let slots = c.args.slots.now in
    let b : ℕ = c.args.b in
    let batch : ℕ = c.args.batch in
    let counts : List ℕ = c.args.counts.now in
    let told : List Told = c.args.told.now in
    let size : ℕ = c.endpoints-endpoints.result in
    let list : ℕ = batch * size in
    let same : size ≡ slots.endpoints = c.endpoints-endpoints.ensures in
    let list_is : list ≡ batch * slots.endpoints = ap (λ (e : ℕ). batch * e) same in
    let from : batch * c.from.result ≡ batch * b = ap (λ (m : ℕ). batch * m) c.from.ensures in
    let fits : list + size ≤ length counts = omega (arith, c.requires.lists, same, list_is) in
    let places : (list + size) * b ≤ length counts * b = mul-le-mul_right b fits in
    let counted : length c.put_slots.new.counts ≡ size = omega (arith, c.put_slots.auto.counts, length-take (list + size - list) (drop list counts), length-drop list counts, fits) in
    let whole : length c.put_slots.new.told ≡ size * b =
    omega (arith, c.put_slots.auto.told, length-take (list * b + size * b - list * b) (drop (list * b) told), length-drop (list * b) told, places, c.requires.places) in
    batch_is_put slots c.args.cores.now b batch (batch * c.from.result) list size (size * b) _ _ counts c.put_slots.new.counts told c.put_slots.new.told list_is same refl from
    counted whole (omega arith) (omega arith) fits c.requires.places c.put_slots.ensures c.requires.before
