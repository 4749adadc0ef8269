use Rattle.std.proofs.Common.{◌≡◌, ◌≤◌, ◌<◌, ◌+◌, ◌*◌, ◌/◌, ◌++◌, ℕ, Bool, List, [], length, take, drop, true, All, refl, sym, ap, ◌∙◌, subst, arith}
use Rattle.std.proofs.lemmas.List.{append-nil, nil_from_length}
use Rattle.std.proofs.lemmas.List.Elements.{All-nil}
use Rattle.list_facts.specs.Bits.{names_place}
use Rattle.greedy_rules.specs.declared.flows.Item.{Item}
use Rattle.greedy_rules.specs.Batches.{DemandBatch}
use Rattle.slot_batches.specs.Woven.{picked, HaveNoEntry, NeedNothing}
use Rattle.window_allocation.specs.Logged.{Logged, IsLog, is_left, standing, items_at, HaveBits, busy_places}
use Rattle.window_allocation.proofs.LogLemmas.{SayBits, bits_picked, nothing_needed, items_picked}
use Rattle.window_allocation.proofs.LogWeaving.{written, no_places, with_bits, places_within}
use Rattle.window_allocation.proofs.item_log.ItemLog.pick.Goals as goal

pub invariant_of-self : goal.invariant_of-self
invariant_of-self c =
    let inside = c.self.inside in
    let items = inside.items.items in
    let places = c.clear.new.self.items in (
      with_bits inside.endpoints inside.count items inside.at.items inside.busy.items inside.places.items inside.busy.items places c.self.invariant.0 refl (λ place had. had)
          (no_places items places c.clear.ensures.items),
      c.self.invariant.1,
      c.self.invariant.2,
    )

pub returns-then-self-eq0-clause-found : goal.returns-then-self-eq0-clause-found
returns-then-self-eq0-clause-found c = λ _. sym (ap (λ (ps : List ℕ). c.args.found.now.items ++ items_at c.self.inside.items.items ps) c.clear.ensures.items ∙ append-nil c.args.found.now.items)

pub returns-then-self-eq0-clause-picked : goal.returns-then-self-eq0-clause-picked
returns-then-self-eq0-clause-picked c =
    let items = c.self.inside.items.items in
    let places = c.clear.new.self.items in
    items_picked items places (no_places items places c.clear.ensures.items) ∙ ap (λ (l : Logged). picked (is_left (items_at items places)) l.items) c.self.view_is

pub returns-then-self-eq0-clause-nothing : goal.returns-then-self-eq0-clause-nothing
returns-then-self-eq0-clause-nothing c = λ _.
    let items = c.self.inside.items.items in
    let aside : Item → Bool = is_left (items_at items c.clear.new.self.items) in
    let none : standing items ≡ [] = nil_from_length (standing items) (sym c.self.invariant.0.number ∙ c.if-self-eq0.true) in
    subst (λ (xs : List Item). NeedNothing aside c.args.batches.now xs) (sym none ∙ ap (λ (l : Logged). l.items) c.self.view_is)
    (All-nil (λ (item : Item). aside item ≡ true → (item.need ≡ 0) × HaveNoEntry c.args.batches.now item.flow))

pub invariant_of-self-then-not-note_busy : goal.invariant_of-self-then-not-note_busy
invariant_of-self-then-not-note_busy c =
    let inside = c.self.inside in
    let words = c.mark_all.new.words in
    let places = c.clear-then-not-note_busy.new.self.items in
    let more : (place : ℕ) → names_place inside.busy.items place ≡ true → names_place words place ≡ true =
    λ place had. c.mark_all.ensures.others place (ap (λ (ws : List ℕ). names_place ws place) c.deref_mut.ensures.value ∙ had) in
    let log : IsLog inside.endpoints inside.count inside.items.items inside.at.items words places =
    with_bits inside.endpoints inside.count inside.items.items inside.at.items inside.busy.items inside.places.items words places c.self.invariant.0
    (c.mark_all.ensures.count ∙ ap length c.deref_mut.ensures.value) more (no_places inside.items.items places c.clear-then-not-note_busy.ensures.items) in (
      subst (λ (ws : List ℕ). IsLog inside.endpoints inside.count inside.items.items inside.at.items ws places)
          (sym (written words inside.busy.items inside.busy.len (c.mark_all.ensures.count ∙ c.deref_mut.ensures.len))) log,
      c.self.invariant.1,
      c.self.invariant.2,
    )

pub note_busy-requires-clause-within : goal.note_busy-requires-clause-within
note_busy-requires-clause-within c =
    let inside = c.self.inside in
    let before = c.self.invariant.0 in
    omega (arith, c.len.ensures, inside.items.ok.0, before.room, before.words, c.deref-6.ensures.len, inside.busy.ok.0)

pub take_items-requires-clause-within : goal.take_items-requires-clause-within
take_items-requires-clause-within c =
    let inside = c.self.inside in
    let items = inside.items.items in
    let words = c.mark_all.new.words in
    let places = c.note_busy.new.places.items in
    let four : c.deref-6.result.now ≡ words = c.deref-6.ensures.value ∙ written words inside.busy.items inside.busy.len (c.mark_all.ensures.count ∙ c.deref_mut.ensures.len) in
    let count : ℕ = c.len.result / 64 + 1 in
    let noted : places ≡ busy_places items words (count * 64) =
    c.note_busy.ensures.places c.if-not-note_busy.false
    ∙ (ap (λ (xs : List Item). busy_places xs c.deref-6.result.now (count * 64)) c.deref-5.ensures.value ∙ ap (λ (ws : List ℕ). busy_places items ws (count * 64)) four) in
    let before = c.self.invariant.0 in
    let long : length items ≤ count * 64 = omega (arith, c.len.ensures, inside.items.ok.0) in
    let say : SayBits inside.endpoints inside.at.items words items places = bits_picked inside.endpoints inside.at.items words items places (count * 64) before.placed long noted in
    subst (λ (ps : List ℕ). All (λ place. place < length c.deref-7.result.now) ps) (sym c.deref-8.ensures.value)
    (subst (λ (xs : List Item). All (λ place. place < length xs) places) (sym c.deref-7.ensures.value) (places_within items places say.places_are))

pub invariant_of-self-2 : goal.invariant_of-self-2
invariant_of-self-2 c =
    let inside = c.self.inside in
    let items = inside.items.items in
    let words = c.mark_all.new.words in
    let places = c.note_busy.new.places.items in
    let are : take inside.busy.len (words ++ drop (length words) inside.busy.items) ≡ words = written words inside.busy.items inside.busy.len (c.mark_all.ensures.count ∙ c.deref_mut.ensures.len) in
    let four : c.deref-6.result.now ≡ words = c.deref-6.ensures.value ∙ are in
    let count : ℕ = c.len.result / 64 + 1 in
    let noted : places ≡ busy_places items words (count * 64) =
    c.note_busy.ensures.places c.if-not-note_busy.false
    ∙ (ap (λ (xs : List Item). busy_places xs c.deref-6.result.now (count * 64)) c.deref-5.ensures.value ∙ ap (λ (ws : List ℕ). busy_places items ws (count * 64)) four) in
    let before = c.self.invariant.0 in
    let long : length items ≤ count * 64 = omega (arith, c.len.ensures, inside.items.ok.0) in
    let say : SayBits inside.endpoints inside.at.items words items places = bits_picked inside.endpoints inside.at.items words items places (count * 64) before.placed long noted in
    let more : (place : ℕ) → names_place inside.busy.items place ≡ true → names_place words place ≡ true =
    λ place had. c.mark_all.ensures.others place (ap (λ (ws : List ℕ). names_place ws place) c.deref_mut.ensures.value ∙ had) in
    let log : IsLog inside.endpoints inside.count items inside.at.items words places =
    with_bits inside.endpoints inside.count items inside.at.items inside.busy.items inside.places.items words places before (c.mark_all.ensures.count ∙ ap length c.deref_mut.ensures.value) more say.places_are in (
      subst (λ (ws : List ℕ). IsLog inside.endpoints inside.count items inside.at.items ws places) (sym are) log,
      c.self.invariant.1,
      c.self.invariant.2,
    )

pub returns-then-not-note_busy-clause-picked : goal.returns-then-not-note_busy-clause-picked
returns-then-not-note_busy-clause-picked c =
    let items = c.self.inside.items.items in
    let places = c.clear-then-not-note_busy.new.self.items in
    items_picked items places (no_places items places c.clear-then-not-note_busy.ensures.items) ∙ ap (λ (l : Logged). picked (is_left (items_at items places)) l.items) c.self.view_is

pub returns-clause-picked : goal.returns-clause-picked
returns-clause-picked c =
    let inside = c.self.inside in
    let items = inside.items.items in
    let words = c.mark_all.new.words in
    let places = c.note_busy.new.places.items in
    let four : c.deref-6.result.now ≡ words = c.deref-6.ensures.value ∙ written words inside.busy.items inside.busy.len (c.mark_all.ensures.count ∙ c.deref_mut.ensures.len) in
    let count : ℕ = c.len.result / 64 + 1 in
    let noted : places ≡ busy_places items words (count * 64) =
    c.note_busy.ensures.places c.if-not-note_busy.false
    ∙ (ap (λ (xs : List Item). busy_places xs c.deref-6.result.now (count * 64)) c.deref-5.ensures.value ∙ ap (λ (ws : List ℕ). busy_places items ws (count * 64)) four) in
    let before = c.self.invariant.0 in
    let long : length items ≤ count * 64 = omega (arith, c.len.ensures, inside.items.ok.0) in
    let say : SayBits inside.endpoints inside.at.items words items places = bits_picked inside.endpoints inside.at.items words items places (count * 64) before.placed long noted in
    items_picked items places say.places_are ∙ ap (λ (l : Logged). picked (is_left (items_at items places)) l.items) c.self.view_is

pub returns-clause-nothing : goal.returns-clause-nothing
returns-clause-nothing c = λ _.
    let inside = c.self.inside in
    let items = inside.items.items in
    let words = c.mark_all.new.words in
    let places = c.note_busy.new.places.items in
    let four : c.deref-6.result.now ≡ words = c.deref-6.ensures.value ∙ written words inside.busy.items inside.busy.len (c.mark_all.ensures.count ∙ c.deref_mut.ensures.len) in
    let count : ℕ = c.len.result / 64 + 1 in
    let noted : places ≡ busy_places items words (count * 64) =
    c.note_busy.ensures.places c.if-not-note_busy.false
    ∙ (ap (λ (xs : List Item). busy_places xs c.deref-6.result.now (count * 64)) c.deref-5.ensures.value ∙ ap (λ (ws : List ℕ). busy_places items ws (count * 64)) four) in
    let before = c.self.invariant.0 in
    let long : length items ≤ count * 64 = omega (arith, c.len.ensures, inside.items.ok.0) in
    let say : SayBits inside.endpoints inside.at.items words items places = bits_picked inside.endpoints inside.at.items words items places (count * 64) before.placed long noted in
    let more : (place : ℕ) → names_place inside.busy.items place ≡ true → names_place words place ≡ true =
    λ place had. c.mark_all.ensures.others place (ap (λ (ws : List ℕ). names_place ws place) c.deref_mut.ensures.value ∙ had) in
    let log : IsLog inside.endpoints inside.count items inside.at.items words places =
    with_bits inside.endpoints inside.count items inside.at.items inside.busy.items inside.places.items words places before (c.mark_all.ensures.count ∙ ap length c.deref_mut.ensures.value) more say.places_are in
    let marked : All (λ (batch : DemandBatch). HaveBits words items batch.entries) c.args.batches.now =
    subst (λ (xs : List Item). All (λ (batch : DemandBatch). HaveBits words xs batch.entries) c.args.batches.now) c.deref-3.ensures.value c.mark_all.ensures.marked in
    subst (λ (l : Logged). NeedNothing (is_left (items_at items places)) c.args.batches.now l.items) c.self.view_is
    (nothing_needed inside.endpoints inside.at.items words items places c.args.batches.now before.placed log.bits marked say)
