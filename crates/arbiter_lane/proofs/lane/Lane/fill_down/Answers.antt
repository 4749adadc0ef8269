use Rattle.std.proofs.Common.{◌≡◌, ◌≢◌, ℕ, ◌*◌, ◌-◌, ◌<◌, ◌∷◌, Some, slice_get, false, sym, ◌∙◌, ap, subst, refl, arith}
use Rattle.std.specs.Option.{option_map}
use Rattle.std.specs.Vec.{with_items}
use Rattle.fcp_framing.specs.declared.packet.Down.{Down}
use Rattle.fcp_framing.specs.Spelling.{IsAllocation, SpellsDown, down_bytes}
use Rattle.endpoint_history.specs.Packets.{Telling as TellingOf}
use Rattle.endpoint_history.specs.Packets.{slots_to, framed_down}
use Rattle.endpoint_history.specs.Lane.{MakesDown, numbers, packet_down}
use Rattle.arbiter_lane.specs.Lines.{LosesSlots}
use Rattle.arbiter_lane.specs.Parts.{RisenAreMarked, packet_with, slots_to_tell, lost_by}
use Rattle.arbiter_lane.specs.State.{LaneState, AreAllocated, AreSlots}
use Rattle.arbiter_lane.specs.Standing.{LaneStandsFor}
use Rattle.arbiter_lane.specs.contracts.lane.Lane.{the_view}
use Rattle.arbiter_lane.proofs.Held.{Become-written}
use Rattle.arbiter_lane.proofs.Making.{told-from, room-for, stands-made, tells-made, sound-made, stands-quiet, tells-quiet, sound-quiet, packet-made, packet-none, rules-made}
use Rattle.arbiter_lane.proofs.Marking.{marked-written}
use Rattle.arbiter_lane.proofs.lane.Lane.fill_down.Goals as goal

above : (n : ℕ) → n ≢ 0 → 0 < n
above n some = omega (arith, some)

-- ---- before the first reset

pub invariant_of-self : goal.invariant_of-self
invariant_of-self c =
    let was : LaneState = the_view c.self.inside in
    let before = c.self.invariant in
    let slots = c.args.told.now.items in
    let once : was.is_made ≡ false = ap (λ (l : LaneState). l.is_made) c.self.view_is ∙ c.requires.once in
    let rounds : was.round < 100000 = omega (arith, ap (λ (l : LaneState). l.round) c.self.view_is, c.requires.round, c.requires.rounds) in (
      sound-quiet was once rounds before.0,
      (
        MakesDown c.args.round slots ∷ before.1.0,
        before.1.1,
        stands-quiet c.lanes_count_slots.ensures.making was c.args.round slots before.1.0 before.1.1 c.if-self-eq0.true before.1.2,
        tells-quiet was c.args.round slots before.1.0 (sym before.1.2.epoch ∙ c.if-self-eq0.true) before.1.3,
      ),
      before.2,
    )

pub returns-then-self-eq0-clause-packet : goal.returns-then-self-eq0-clause-packet
returns-then-self-eq0-clause-packet c = λ history allocations stands.
    let now = c.args.self.now in
    ap (option_map (framed_down now.endpoint))
    (packet-none now history allocations c.args.round c.args.told.now.items (sym (ap (λ (l : LaneState). l.epoch) c.self.view_is) ∙ c.if-self-eq0.true) stands)

pub returns-then-self-eq0-clause-stands : goal.returns-then-self-eq0-clause-stands
returns-then-self-eq0-clause-stands c = λ history allocations stands.
    stands-quiet c.lanes_count_slots.ensures.making (the_view c.self.inside) c.args.round c.args.told.now.items history allocations c.if-self-eq0.true
    (subst (λ (l : LaneState). LaneStandsFor l history allocations) (sym c.self.view_is) stands)

-- ---- the slots are told

pub tell-requires-clause-few : goal.tell-requires-clause-few
tell-requires-clause-few c = c.slots_told-told.ensures.few

pub tell-requires-clause-in_flight : goal.tell-requires-clause-in_flight
tell-requires-clause-in_flight c = λ dst line here.
    let was : LaneState = the_view c.self.inside in
    let begun : 0 < was.epoch = above was.epoch c.if-self-eq0.false in
    let allocated = subst (λ (l : LaneState). AreAllocated l c.args.round c.args.told.now.items) (sym c.self.view_is) c.requires.allocated in
    let room = room-for was c.args.round c.args.told.now.items c.self.invariant.0 allocated begun dst line (subst (λ ls. slice_get ls dst ≡ Some line) c.deref_mut.ensures.value here) in
    let same = ap (slots_to dst) (c.slots_told-told.ensures.slots ∙ ap (λ (l : LaneState). slots_to_tell l c.args.round c.args.told.now.items) (sym c.self.view_is)) in
    omega (arith, room, same)

pub invariant_of-self-2 : goal.invariant_of-self-2
invariant_of-self-2 c =
    let was : LaneState = the_view c.self.inside in
    let before = c.self.invariant in
    let slots = c.args.told.now.items in
    let down = c.tell.new.down in
    let content : TellingOf = record { batch = down.batch; told = down.told.items } in
    let lines = (with_items c.self.inside.lines c.tell.new.lines).items in
    let told =
    told-from was c.args.round slots c.saturating_sub-batch.result c.slots_told-told.result.now c.tell.new.sent lines content
    (c.saturating_sub-batch.ensures ∙ ap (λ g. c.args.round - 2 * g) c.from.ensures) (c.slots_told-told.ensures.slots ∙ ap (λ (l : LaneState). slots_to_tell l c.args.round slots) (sym c.self.view_is)) c.slots_told-told.ensures.few c.tell.ensures.sent c.tell.ensures.content c.tell.ensures.version c.tell.ensures.newest
    (Become-written (λ dst. LosesSlots (lost_by was.sent c.slots_told-told.result.now dst)) c.self.inside.lines c.deref_mut.result.now c.tell.new.lines c.deref_mut.ensures.value c.tell.ensures.lines) in
    let begun : 0 < was.epoch = above was.epoch c.if-self-eq0.false in
    let are = subst (λ (l : LaneState). AreSlots l.endpoints l.b l.endpoint slots) (sym c.self.view_is) c.requires.slots in
    let allocated = subst (λ (l : LaneState). AreAllocated l c.args.round slots) (sym c.self.view_is) c.requires.allocated in
    let once : was.is_made ≡ false = ap (λ (l : LaneState). l.is_made) c.self.view_is ∙ c.requires.once in
    let rounds : was.round < 100000 = omega (arith, ap (λ (l : LaneState). l.round) c.self.view_is, c.requires.round, c.requires.rounds) in
    let done = told.done (numbers was.g before.1.0) before.1.2.sent in (
      sound-made c.lanes_count_slots.ensures.making c.lanes_count_slots.ensures.sums was c.args.round slots c.tell.new.sent lines before.1.0 before.1.1 once rounds begun told.few are allocated told.version told.newest done told.change before.1.2 before.1.3 before.0,
      (
        MakesDown c.args.round slots ∷ before.1.0,
        before.1.1,
        stands-made c.lanes_count_slots.ensures.making was c.args.round slots c.tell.new.sent lines before.1.0 before.1.1 before.0.sent_version told.version begun done told.change before.1.2,
        tells-made was c.args.round slots c.tell.new.sent lines before.1.0 before.1.1 before.0.sent_version begun are before.1.2 before.1.3,
      ),
      marked-written c.tell.new.risen c.self.inside.lines c.deref_mut.result.now c.tell.new.lines c.deref_mut.ensures.value c.tell.ensures.lines.as_many
          (c.tell.ensures.marked (subst (RisenAreMarked c.self.inside.risen) (sym c.deref_mut.ensures.value) before.2)),
    )

pub returns-clause-packet : goal.returns-clause-packet
returns-clause-packet c = λ history allocations stood.
    let was : LaneState = the_view c.self.inside in
    let before = c.self.invariant in
    let slots = c.args.told.now.items in
    let down = c.tell.new.down in
    let content : TellingOf = record { batch = down.batch; told = down.told.items } in
    let lines = (with_items c.self.inside.lines c.tell.new.lines).items in
    let told =
    told-from was c.args.round slots c.saturating_sub-batch.result c.slots_told-told.result.now c.tell.new.sent lines content
    (c.saturating_sub-batch.ensures ∙ ap (λ g. c.args.round - 2 * g) c.from.ensures) (c.slots_told-told.ensures.slots ∙ ap (λ (l : LaneState). slots_to_tell l c.args.round slots) (sym c.self.view_is)) c.slots_told-told.ensures.few c.tell.ensures.sent c.tell.ensures.content c.tell.ensures.version c.tell.ensures.newest
    (Become-written (λ dst. LosesSlots (lost_by was.sent c.slots_told-told.result.now dst)) c.self.inside.lines c.deref_mut.result.now c.tell.new.lines c.deref_mut.ensures.value c.tell.ensures.lines) in
    let begun : 0 < was.epoch = above was.epoch c.if-self-eq0.false in
    let stands = subst (λ (l : LaneState). LaneStandsFor l history allocations) (sym c.self.view_is) stood in
    let header : c.put_header.new.down ≡ packet_with was c.args.down.now.seq c.args.down.now.batch c.args.down.now.told.items = c.put_header.ensures.header in
    let down_is : down ≡ packet_with was c.tell.new.sent.outstanding.newest down.batch down.told.items =
    c.tell.ensures.down ∙ ap (λ (d : Down). record d { seq = c.tell.new.sent.outstanding.newest; batch = down.batch; told = down.told }) header in
    let made = packet-made was history allocations c.args.round slots c.tell.new.sent content before.0.heard_version before.0.sent_version begun (told.done (numbers was.g history) stands.sent) (told.says (numbers was.g history) stands.sent) stands in
    subst (λ (l : LaneState). option_map (framed_down l.endpoint) (packet_down l.g history c.args.round slots) ≡ Some down) c.self.view_is
    (made ∙ ap Some (sym down_is))

pub returns-clause-spelled : goal.returns-clause-spelled
returns-clause-spelled c = λ made.
    let was : LaneState = the_view c.self.inside in
    let before = c.self.invariant in
    let slots = c.args.told.now.items in
    let down = c.tell.new.down in
    let content : TellingOf = record { batch = down.batch; told = down.told.items } in
    let lines = (with_items c.self.inside.lines c.tell.new.lines).items in
    let told =
    told-from was c.args.round slots c.saturating_sub-batch.result c.slots_told-told.result.now c.tell.new.sent lines content
    (c.saturating_sub-batch.ensures ∙ ap (λ g. c.args.round - 2 * g) c.from.ensures) (c.slots_told-told.ensures.slots ∙ ap (λ (l : LaneState). slots_to_tell l c.args.round slots) (sym c.self.view_is)) c.slots_told-told.ensures.few c.tell.ensures.sent c.tell.ensures.content c.tell.ensures.version c.tell.ensures.newest
    (Become-written (λ dst. LosesSlots (lost_by was.sent c.slots_told-told.result.now dst)) c.self.inside.lines c.deref_mut.result.now c.tell.new.lines c.deref_mut.ensures.value c.tell.ensures.lines) in
    let begun : 0 < was.epoch = above was.epoch c.if-self-eq0.false in
    let are = subst (λ (l : LaneState). AreSlots l.endpoints l.b l.endpoint slots) (sym c.self.view_is) c.requires.slots in
    let header : c.put_header.new.down ≡ packet_with was c.args.down.now.seq c.args.down.now.batch c.args.down.now.told.items = c.put_header.ensures.header in
    let down_is : down ≡ packet_with was c.tell.new.sent.outstanding.newest down.batch down.told.items =
    c.tell.ensures.down ∙ ap (λ (d : Down). record d { seq = c.tell.new.sent.outstanding.newest; batch = down.batch; told = down.told }) header in
    let rules = subst (IsAllocation was.endpoints was.b) (sym down_is)
    (rules-made was c.args.round slots c.tell.new.sent lines content before.1.0 before.1.1 before.0 begun
    c.put_header.ensures.mask c.put_header.ensures.width
    c.tell.ensures.few are told before.1.2 before.1.3) in
    subst (λ (l : LaneState). SpellsDown l.endpoints l.b (down_bytes down) down) c.self.view_is
    (record { rules = rules; fits = c.numbers_fit.ensures; text = refl })

pub returns-clause-stands : goal.returns-clause-stands
returns-clause-stands c = λ history allocations stood.
    let was : LaneState = the_view c.self.inside in
    let before = c.self.invariant in
    let slots = c.args.told.now.items in
    let down = c.tell.new.down in
    let content : TellingOf = record { batch = down.batch; told = down.told.items } in
    let lines = (with_items c.self.inside.lines c.tell.new.lines).items in
    let told =
    told-from was c.args.round slots c.saturating_sub-batch.result c.slots_told-told.result.now c.tell.new.sent lines content
    (c.saturating_sub-batch.ensures ∙ ap (λ g. c.args.round - 2 * g) c.from.ensures) (c.slots_told-told.ensures.slots ∙ ap (λ (l : LaneState). slots_to_tell l c.args.round slots) (sym c.self.view_is)) c.slots_told-told.ensures.few c.tell.ensures.sent c.tell.ensures.content c.tell.ensures.version c.tell.ensures.newest
    (Become-written (λ dst. LosesSlots (lost_by was.sent c.slots_told-told.result.now dst)) c.self.inside.lines c.deref_mut.result.now c.tell.new.lines c.deref_mut.ensures.value c.tell.ensures.lines) in
    let begun : 0 < was.epoch = above was.epoch c.if-self-eq0.false in
    let stands = subst (λ (l : LaneState). LaneStandsFor l history allocations) (sym c.self.view_is) stood in
    stands-made c.lanes_count_slots.ensures.making was c.args.round slots c.tell.new.sent lines history allocations before.0.sent_version told.version begun (told.done (numbers was.g history) stands.sent) told.change stands
