use Rattle.std.proofs.Common.{◌≡◌, ◌≢◌, ◌<◌, ◌≤◌, ◌+◌, ◌-◌, ◌*◌, ℕ, List, length, map, take, drop, All, Contains, sym, ap, ◌∙◌, subst, arith}
use Rattle.std.specs.Box.{boxed_slice_items}
use Rattle.std.specs.List.Sorted.{IsStrictlyIncreasing}
use Rattle.std.proofs.lemmas.List.{length-take, length-drop, get_or_default}
use Rattle.std.proofs.lemmas.Nat.{row_fits}
use Rattle.std.proofs.lemmas.List.Elements.{All-take, All-drop, All-weaker}
use Rattle.fcp_framing.specs.declared.packet.Told.{Told}
use Rattle.fcp_framing.specs.Spelling.{IsCore}
use Rattle.slot_publisher.specs.Window.{PublisherWindow, RoutedFlow, slots_of_batch}
use Rattle.slot_publisher.specs.Told.{packet_sent, slots_told, IsToldOf}
use Rattle.slot_publisher.specs.Places.{list_at, count_at, slots_of_lists, IsToldList}
use Rattle.slot_publisher.proofs.PlaceLemmas.{told_in_list, slots_in_lists, lists_fit, held_window}
use Rattle.slot_publisher.proofs.ToldLemmas.{told-rising, told_offsets, told_others, told_only, told_all}
use Rattle.slot_publisher.proofs.publisher.Publisher.told.Goals as goal

pub slice_bounds-result-end : goal.slice_bounds-result-end
slice_bounds-result-end c =
    let inside = c.self.inside in
    let batch : ℕ = c.args.batch - inside.first_batch in
    let counts : List ℕ = boxed_slice_items inside.counts in
    let list : ℕ = batch * inside.endpoints + c.args.endpoint in
    let held = held_window _ c.args.self.now c.args.endpoint c.args.batch c.self.view_is c.requires.endpoint c.requires.first c.requires.last in
    let fit = lists_fit c.args.endpoint inside.endpoints batch inside.count inside.batches inside.b held.1 held.0 c.self.invariant.2 in
    let few : count_at counts list ≤ inside.b = c.self.invariant.5.few list fit.0 in
    let count : c.index.result.now ≡ count_at counts list = c.index.ensures ∙ get_or_default counts list _ 0 (omega (arith, fit.1, c.self.invariant.3, inside.counts.items.ok.0)) in
    omega (arith, fit.2, few, count, c.deref.ensures.len, c.self.invariant.4, inside.told.items.ok.0)

-- the list of the endpoint and batch
abbrev batch_of : goal.After-result-1 → ℕ
batch_of c = c.args.batch - c.self.inside.first_batch

abbrev place_of : goal.After-result-1 → ℕ
place_of c = batch_of c * c.self.inside.endpoints + c.args.endpoint

abbrev list_of : goal.After-result-1 → List Told
list_of c = list_at c.self.inside.b (boxed_slice_items c.self.inside.counts) (boxed_slice_items c.self.inside.told) (place_of c)

held : (c : goal.After-result-1) → (batch_of c < c.self.inside.count) × (c.args.endpoint < c.self.inside.endpoints)
held c = held_window _ c.args.self.now c.args.endpoint c.args.batch c.self.view_is c.requires.endpoint c.requires.first c.requires.last

below : (c : goal.After-result-1) → (place_of c < c.self.inside.count * c.self.inside.endpoints) × (place_of c < c.self.inside.batches * c.self.inside.endpoints)
below c =
    let inside = c.self.inside in
    let fit = lists_fit c.args.endpoint inside.endpoints (batch_of c) inside.count inside.batches inside.b (held c).1 (held c).0 c.self.invariant.2 in
    (fit.0, fit.1)

abbrev given : goal.After-result-1 → List Told
given c = take (place_of c * c.self.inside.b + c.index.result.now - place_of c * c.self.inside.b) (drop (place_of c * c.self.inside.b) c.deref.result.now)

list : (c : goal.After-result-1) → given c ≡ list_of c
list c =
    let inside = c.self.inside in
    let from : ℕ = place_of c * inside.b in
    let counts : List ℕ = boxed_slice_items inside.counts in
    let count : c.index.result.now ≡ count_at counts (place_of c) = c.index.ensures ∙ get_or_default counts (place_of c) _ 0 (omega (arith, (below c).1, c.self.invariant.3, inside.counts.items.ok.0)) in
    let size : from + c.index.result.now - from ≡ count_at counts (place_of c) = omega (arith, count) in
    ap (λ (m : ℕ). take m (drop from c.deref.result.now)) size ∙ ap (λ (told : List Told). take (count_at counts (place_of c)) (drop from told)) c.deref.ensures.value

is_list : (c : goal.After-result-1) → IsToldList c.self.inside.endpoints c.self.inside.b (list_of c)
is_list c = c.self.invariant.5.each (place_of c) (below c).0

told : (c : goal.After-result-1) → given c ≡ slots_told c.args.self.now c.args.endpoint c.args.batch
told c =
    let inside = c.self.inside in
    let of = told_in_list inside.endpoints inside.b inside.count (boxed_slice_items inside.counts) (boxed_slice_items inside.told) (batch_of c) c.args.endpoint c.self.invariant.0 (held c).0 (held c).1 c.self.invariant.5 in
    let same : slots_told c.args.self.now c.args.endpoint c.args.batch ≡ list_of c = rw (← c.self.view_is) of in
    list c ∙ sym same

size : (c : goal.After-result-1) → length (slots_of_batch c.args.self.now c.args.batch) ≡ c.args.self.now.b
size c =
    let inside = c.self.inside in
    let b : ℕ = inside.b in
    let slots : List (List RoutedFlow) = slots_of_lists inside.endpoints b (inside.count * b) (boxed_slice_items inside.counts) (boxed_slice_items inside.told) in
    let room : batch_of c * b + b ≤ inside.count * b = row_fits (batch_of c) b inside.count b (held c).0 (omega arith) in
    let all : length slots ≡ inside.count * b = slots_in_lists inside.endpoints b inside.count (boxed_slice_items inside.counts) (boxed_slice_items inside.told) in
    let of : length (take b (drop (batch_of c * b) slots)) ≡ b = omega (arith, length-take b (drop (batch_of c * b) slots), length-drop (batch_of c * b) slots, room, all) in
    rw (← c.self.view_is) of

pub returns : goal.returns
returns c = record {
  told = told c;
  most =
      let inside = c.self.inside in
      let counts : List ℕ = boxed_slice_items inside.counts in
      let few : count_at counts (place_of c) ≤ inside.b = c.self.invariant.5.few (place_of c) (below c).0 in
      omega (arith, ap (λ (told : List Told). length told) (list c), length-take (count_at counts (place_of c)) (drop (place_of c * inside.b) (boxed_slice_items inside.told)), few, c.self.invariant.1);
  only =
      let slots : List (List RoutedFlow) = slots_of_batch c.args.self.now c.args.batch in
      subst (All (IsToldOf slots c.args.endpoint)) (sym (told c)) (told_only c.args.endpoint slots);
  all =
      λ told' below is.
      let slots : List (List RoutedFlow) = slots_of_batch c.args.self.now c.args.batch in
      subst (λ (items : List Told). Contains items told') (sym (told c)) (told_all c.args.endpoint slots told' (omega (arith, below, size c)) is);
  rising = subst (λ (items : List Told). IsStrictlyIncreasing (map (λ (told : Told). told.offset) items)) (sym (told c)) (told-rising 0 (map (packet_sent c.args.endpoint) (slots_of_batch c.args.self.now c.args.batch)));
  offsets =
      subst (All (λ (told : Told). told.offset < c.args.self.now.b)) (sym (told c))
      (told_offsets c.args.self.now.b c.args.endpoint (slots_of_batch c.args.self.now c.args.batch) (omega (arith, size c)));
  destinations =
      let below : All (λ (told : Told). told.dst < c.self.inside.endpoints) (list_of c) =
      All-weaker (λ (told : Told). (told.dst < c.self.inside.endpoints) × IsCore told.core) (λ (told : Told). told.dst < c.self.inside.endpoints) (λ told names. names.0) (list_of c) (is_list c).names in
      subst (λ (n : ℕ). All (λ (told : Told). told.dst < n) (given c)) (ap (λ (w : PublisherWindow). w.endpoints) c.self.view_is)
      (subst (All (λ (told : Told). told.dst < c.self.inside.endpoints)) (sym (list c)) below);
  cores =
      subst (All (λ (told : Told). IsCore told.core)) (sym (list c))
      (All-weaker (λ (told : Told). (told.dst < c.self.inside.endpoints) × IsCore told.core) (λ (told : Told). IsCore told.core) (λ told names. names.1) (list_of c) (is_list c).names);
  others =
      λ out.
      let window = c.args.self.now in
      let GoesOut : List RoutedFlow → Type 0 = All (λ packet. packet.flow.src ≢ packet.flow.dst) in
      let place : ℕ = (c.args.batch - window.first_batch) * window.b in
      subst (All (λ (told : Told). told.dst ≢ c.args.endpoint)) (sym (told c))
      (told_others c.args.endpoint (slots_of_batch window c.args.batch) (All-take GoesOut window.b (drop place window.slots) (All-drop GoesOut place window.slots out)));
}
