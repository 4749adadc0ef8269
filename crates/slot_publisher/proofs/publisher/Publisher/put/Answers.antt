use Rattle.std.proofs.Common.{◌≡◌, ◌≤◌, ◌*◌, ◌/◌, ℕ, List, length, refl, sym, ap, ◌∙◌, subst, mul-le-mul_right, arith}
use Rattle.std.specs.Vec.{with_items}
use Rattle.std.proofs.lemmas.List.{with_items_is}
use Rattle.fcp_framing.specs.declared.packet.Told.{Told}
use Rattle.slot_publisher.specs.Window.{PublisherWindow, slots_with_cores}
use Rattle.slot_publisher.specs.Places.{slots_of_lists, AreLists}
use Rattle.slot_publisher.proofs.PlaceLemmas.{slots_as_put, lists_as_put, batches_held, few_batches}
use Rattle.slot_publisher.proofs.publisher.Publisher.put.Goals as goal

pub put_lists-requires-clause-lists : goal.put_lists-requires-clause-lists
put_lists-requires-clause-lists c =
    let inside = c.self.inside in
    let now = c.args.self.now in
    let count : ℕ = c.slots.result / c.from.result in
    let b : inside.b ≡ now.b = ap (λ (w : PublisherWindow). w.b) c.self.view_is in
    let batches : inside.batches ≡ now.batches = ap (λ (w : PublisherWindow). w.batches) c.self.view_is in
    let endpoints : c.args.slots.now.endpoints ≡ inside.endpoints = c.requires.endpoints ∙ sym (ap (λ (w : PublisherWindow). w.endpoints) c.self.view_is) in
    let held = batches_held c.slots.result c.from.result inside.b now.b (length c.args.slots.now.slots) c.from.ensures b c.slots.ensures.count c.self.invariant.0 c.requires.whole in
    let room : inside.batches * inside.b ≡ now.batches * now.b = ap (λ (m : ℕ). m * inside.b) batches ∙ ap (λ (m : ℕ). now.batches * m) b in
    let few : count ≤ inside.batches = few_batches count inside.batches inside.b c.self.invariant.0 (omega (arith, held, room, c.requires.room)) in
    let lists : count * c.args.slots.now.endpoints ≤ inside.batches * c.args.slots.now.endpoints = mul-le-mul_right c.args.slots.now.endpoints few in
    omega (arith, lists, ap (λ (e : ℕ). inside.batches * e) endpoints, c.self.invariant.3, c.deref_mut.ensures.len)

-- what stands in the publisher is what was put, and that is the slots of the tables
abbrev count_of : goal.After-self-4-1 → ℕ
count_of c = c.slots.result / c.from.result

same_counts : (c : goal.After-self-4-1) → (with_items c.self.inside.counts.items c.put_lists.new.counts).items ≡ c.put_lists.new.counts
same_counts c = with_items_is c.self.inside.counts.items c.put_lists.new.counts (omega (arith, c.put_lists.auto.counts, c.deref_mut.ensures.len))

same_told : (c : goal.After-self-4-1) → (with_items c.self.inside.told.items c.put_lists.new.told).items ≡ c.put_lists.new.told
same_told c = with_items_is c.self.inside.told.items c.put_lists.new.told (omega (arith, c.put_lists.auto.told, c.deref_mut-2.ensures.len))

same_endpoints : (c : goal.After-self-4-1) → c.args.slots.now.endpoints ≡ c.self.inside.endpoints
same_endpoints c = c.requires.endpoints ∙ sym (ap (λ (w : PublisherWindow). w.endpoints) c.self.view_is)

held : (c : goal.After-self-4-1) → count_of c * c.self.inside.b ≡ length c.args.slots.now.slots
held c =
    batches_held c.slots.result c.from.result c.self.inside.b c.args.self.now.b (length c.args.slots.now.slots) c.from.ensures (ap (λ (w : PublisherWindow). w.b) c.self.view_is)
    c.slots.ensures.count c.self.invariant.0 c.requires.whole

few : (c : goal.After-self-4-1) → count_of c ≤ c.self.inside.batches
few c =
    let inside = c.self.inside in
    let now = c.args.self.now in
    let room : inside.batches * inside.b ≡ now.batches * now.b =
    ap (λ (m : ℕ). m * inside.b) (ap (λ (w : PublisherWindow). w.batches) c.self.view_is) ∙ ap (λ (m : ℕ). now.batches * m) (ap (λ (w : PublisherWindow). w.b) c.self.view_is) in
    few_batches (count_of c) inside.batches inside.b c.self.invariant.0 (omega (arith, held c, room, c.requires.room))

pub invariant_of-self : goal.invariant_of-self
invariant_of-self c =
    let inside = c.self.inside in
    let slots = c.args.slots.now in
    let count : ℕ = count_of c in
    let new_counts : List ℕ = c.put_lists.new.counts in
    let new_told : List Told = c.put_lists.new.told in
    let lists : AreLists slots.endpoints inside.b (count * slots.endpoints) new_counts new_told =
    lists_as_put slots c.args.cores.now inside.b count (count * inside.b) new_counts new_told refl (held c) c.slots.ensures.each c.requires.cores c.put_lists.ensures in (
      c.self.invariant.0,
      c.self.invariant.1,
      few c,
      c.self.invariant.3,
      c.self.invariant.4,
      subst (λ (xs : List ℕ). AreLists inside.endpoints inside.b (count * inside.endpoints) xs (with_items inside.told.items new_told).items) (sym (same_counts c))
          (subst (AreLists inside.endpoints inside.b (count * inside.endpoints) new_counts) (sym (same_told c))
          (subst (λ (e : ℕ). AreLists e inside.b (count * e) new_counts new_told) (same_endpoints c) lists)),
    )

slots_put : (c : goal.After-self-4-1) → slots_of_lists c.self.inside.endpoints c.self.inside.b (count_of c * c.self.inside.b) (with_items c.self.inside.counts.items c.put_lists.new.counts).items (with_items c.self.inside.told.items c.put_lists.new.told).items ≡ slots_with_cores c.args.slots.now.slots c.args.cores.now
slots_put c =
    let inside = c.self.inside in
    let slots = c.args.slots.now in
    let count : ℕ = count_of c in
    let n : ℕ = count * inside.b in
    let new_counts : List ℕ = c.put_lists.new.counts in
    let new_told : List Told = c.put_lists.new.told in
    ap (λ (xs : List ℕ). slots_of_lists inside.endpoints inside.b n xs (with_items inside.told.items new_told).items) (same_counts c)
    ∙ (ap (slots_of_lists inside.endpoints inside.b n new_counts) (same_told c)
    ∙ (ap (λ (e : ℕ). slots_of_lists e inside.b n new_counts new_told) (sym (same_endpoints c))
    ∙ slots_as_put slots c.args.cores.now inside.b count n new_counts new_told c.self.invariant.0 refl (held c) c.slots.ensures.each c.requires.cores c.put_lists.ensures))

pub returns : goal.returns
returns c = record {
  endpoints = ap (λ (w : PublisherWindow). w.endpoints) c.self.view_is;
  batches = ap (λ (w : PublisherWindow). w.batches) c.self.view_is;
  b = ap (λ (w : PublisherWindow). w.b) c.self.view_is;
  first = refl;
  count = ap (λ (b : ℕ). count_of c * b) (sym (ap (λ (w : PublisherWindow). w.b) c.self.view_is)) ∙ held c;
  slots = slots_put c;
}
