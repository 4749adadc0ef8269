use Rattle.std.proofs.Common.{◌≡◌, ◌<◌, ◌^◌, ◌+◌, ◌-◌, ℕ, List, cond, length, get_or, set, take, drop, bit_and, subst, ◌++◌, true, ap, sym, ◌∙◌, arith, rules, not, nat_lt, ◌&&◌, ◌||◌, ◌==◌, false, w64}
use Rattle.std.specs.Int.{trailing_zeros}
use Rattle.std.proofs.lemmas.Bool.{and_left, and_parts}
use Rattle.std.proofs.lemmas.List.{take_at, length-set, get_or-set_other}
use Rattle.std.specs.Prelude.{vec_len, vec_capacity}
use Rattle.greedy_rules.specs.Limits.{rack_of}
use Rattle.endpoint_bitmaps.specs.Slots.{has_slot, count_below}
use Rattle.endpoint_bitmaps.specs.FreeSlots.{FreeSlots, is_common, is_free_to_send, may_receive, has_links, leaving_in, entering_in, rack_in, needs_links}
use Rattle.endpoint_bitmaps.specs.Fit.{naming}
use Rattle.endpoint_bitmaps.specs.Noted.{NotesTaken}
use Rattle.endpoint_bitmaps.proofs.NotedLemmas.{one_more_noted}
use Rattle.endpoint_bitmaps.proofs.CountLemmas.{is_among_lowest-same}
use Rattle.endpoint_bitmaps.proofs.WordLemmas.{has_slot-above, has_slot-none, lowest_is}
use Rattle.endpoint_bitmaps.proofs.NamingLemmas.{names_some}
use Rattle.endpoint_bitmaps.proofs.LowestLemmas.{count_is}
use Rattle.endpoint_bitmaps.proofs.MapLemmas.{without_taken}
use Rattle.endpoint_bitmaps.proofs.RackLemmas.{maps, seen_below, seen_rack, common_links_left, up_left, down_left, links_taken}
use Rattle.endpoint_bitmaps.proofs.free_maps.FreeMaps.take_lowest.Goals as goal

pub take_links-taken-requires-clause-leaving_left : goal.take_links-taken-requires-clause-leaving_left
take_links-taken-requires-clause-leaving_left c = λ needed slot here.
    let m = c.self.inside in
    let fit = c.self.invariant.0 in
    let count : vec_len m.senders ≡ length m.senders.items = omega (arith, m.senders.ok) in
    let from_is = seen_rack (vec_len m.senders) m.limits m.senders.items m.receivers.items m.racks.items m.leaving.taken.items m.leaving.left.items m.entering.taken.items m.entering.left.items fit c.args.self.now c.self.view_is count c.args.src c.requires.src_in_range c.index-from.result.now c.index-from.ensures in
    let left = common_links_left (vec_len m.senders) m.limits m.senders.items m.receivers.items m.racks.items m.leaving.taken.items m.leaving.left.items m.entering.taken.items m.entering.left.items
    fit c.args.src c.args.dst c.common-common.result slot (search rules)
    (ap (λ (v : FreeSlots). needs_links v c.args.src c.args.dst) c.self.view_is ∙ sym c.needs_links-counted.ensures ∙ needed)
    (λ k. c.common-common.ensures k ∙ ap (λ (v : FreeSlots). is_common v c.args.src c.args.dst k) (sym c.self.view_is)) here in
    up_left (vec_len m.senders) m.limits m.senders.items m.receivers.items m.racks.items m.leaving.taken.items m.leaving.left.items m.entering.taken.items m.entering.left.items
    fit c.args.src c.args.dst c.index-from.result.now slot (seen_below (vec_len m.senders) m.limits m.senders.items m.receivers.items m.racks.items m.leaving.taken.items m.leaving.left.items m.entering.taken.items m.entering.left.items fit c.args.self.now c.self.view_is count c.args.src c.requires.src_in_range) left.0 from_is left.1

pub take_links-taken-requires-clause-entering_left : goal.take_links-taken-requires-clause-entering_left
take_links-taken-requires-clause-entering_left c = λ needed slot here.
    let m = c.self.inside in
    let fit = c.self.invariant.0 in
    let count : vec_len m.senders ≡ length m.senders.items = omega (arith, m.senders.ok) in
    let to_is = seen_rack (vec_len m.senders) m.limits m.senders.items m.receivers.items m.racks.items m.leaving.taken.items m.leaving.left.items m.entering.taken.items m.entering.left.items fit c.args.self.now c.self.view_is count c.args.dst c.requires.dst_in_range c.index-to.result.now c.index-to.ensures in
    let left = common_links_left (vec_len m.senders) m.limits m.senders.items m.receivers.items m.racks.items m.leaving.taken.items m.leaving.left.items m.entering.taken.items m.entering.left.items
    fit c.args.src c.args.dst c.common-common.result slot (search rules)
    (ap (λ (v : FreeSlots). needs_links v c.args.src c.args.dst) c.self.view_is ∙ sym c.needs_links-counted.ensures ∙ needed)
    (λ k. c.common-common.ensures k ∙ ap (λ (v : FreeSlots). is_common v c.args.src c.args.dst k) (sym c.self.view_is)) here in
    down_left (vec_len m.senders) m.limits m.senders.items m.receivers.items m.racks.items m.leaving.taken.items m.leaving.left.items m.entering.taken.items m.entering.left.items
    fit c.args.src c.args.dst c.index-to.result.now slot (seen_below (vec_len m.senders) m.limits m.senders.items m.receivers.items m.racks.items m.leaving.taken.items m.leaving.left.items m.entering.taken.items m.entering.left.items fit c.args.self.now c.self.view_is count c.args.dst c.requires.dst_in_range) left.0 to_is left.1

pub take_slots-requires-clause-some : goal.take_slots-requires-clause-some
take_slots-requires-clause-some c =
    let maps = c.args.self.now in
    let common : ℕ = c.common-common.result in
    let slot : ℕ = trailing_zeros w64 common in
    let in_common : has_slot common slot ≡ true = lowest_is common (search rules) c.if-common-eq0.false in
    let both = (and_parts (is_free_to_send maps c.args.src slot && may_receive maps c.args.dst slot) (not (needs_links maps c.args.src c.args.dst) || has_links maps c.args.src c.args.dst slot) (sym (c.common-common.ensures slot) ∙ in_common)).0 in
    names_some (get_or c.deref_mut.result.now c.args.src 0) slot
    (ap (λ (words : List ℕ). has_slot (get_or words c.args.src 0) slot) c.deref_mut.ensures.value
    ∙ ap (λ (v : FreeSlots). is_free_to_send v c.args.src slot) c.self.view_is ∙ (and_parts (is_free_to_send maps c.args.src slot) (may_receive maps c.args.dst slot) both).0)

pub returns-clause-lowest : goal.returns-clause-lowest
returns-clause-lowest c = λ slot.
    c.take_links-taken.ensures.lowest slot ∙ is_among_lowest-same (has_slot c.common-common.result) (is_common c.args.self.now c.args.src c.args.dst) c.args.need slot c.common-common.ensures

pub returns-clause-count : goal.returns-clause-count
returns-clause-count c = λ b none.
    let common = is_common c.args.self.now c.args.src c.args.dst in
    let common_fits : c.common-common.result < 2 ^ 64 = search rules in
    count_is 64 c.take_links-taken.result c.args.need b common (search rules)
    (λ slot. c.take_links-taken.ensures.lowest slot ∙ is_among_lowest-same (has_slot c.common-common.result) common c.args.need slot c.common-common.ensures)
    (λ slot from. sym (c.common-common.ensures slot) ∙ has_slot-above c.common-common.result slot common_fits from) none

pub returns-clause-taken : goal.returns-clause-taken
returns-clause-taken c =
    let m = c.self.inside in
    let fit = c.self.invariant.0 in
    let count : vec_len m.senders ≡ length m.senders.items = omega (arith, m.senders.ok) in
    let now = c.args.self.now in
    let view_is = c.self.view_is in
    let src = c.args.src in
    let dst = c.args.dst in
    let taken = c.take_links-taken.result in
    let src_below : src < length m.senders.items = seen_below (vec_len m.senders) m.limits m.senders.items m.receivers.items m.racks.items m.leaving.taken.items m.leaving.left.items m.entering.taken.items m.entering.left.items fit now view_is count src c.requires.src_in_range in
    let dst_below : dst < length m.receivers.items = omega (arith, seen_below (vec_len m.senders) m.limits m.senders.items m.receivers.items m.racks.items m.leaving.taken.items m.leaving.left.items m.entering.taken.items m.entering.left.items fit now view_is count dst c.requires.dst_in_range, fit.receivers_count) in
    let from_is = seen_rack (vec_len m.senders) m.limits m.senders.items m.receivers.items m.racks.items m.leaving.taken.items m.leaving.left.items m.entering.taken.items m.entering.left.items fit now view_is count src c.requires.src_in_range c.index-from.result.now c.index-from.ensures in
    let to_is = seen_rack (vec_len m.senders) m.limits m.senders.items m.receivers.items m.racks.items m.leaving.taken.items m.leaving.left.items m.entering.taken.items m.entering.left.items fit now view_is count dst c.requires.dst_in_range c.index-to.result.now c.index-to.ensures in
    let seen = maps (vec_len m.senders) m.limits m.senders.items m.receivers.items m.racks.items m.leaving.taken.items m.leaving.left.items m.entering.taken.items m.entering.left.items fit in
    let counted = c.needs_links-counted.result in
    let counted_is : counted ≡ needs_links seen src dst = c.needs_links-counted.ensures ∙ ap (λ (v : FreeSlots). needs_links v src dst) (sym view_is) in
    let receiver_fits : c.index_mut.result.now < 2 ^ 64 = search rules in
    let taken_fits : taken < 2 ^ 64 = search rules in
    let left = c.take_slots.new.words in
    let all_left : take m.senders.len (left ++ drop (length left) m.senders.items) ≡ left =
    take_at left (drop (length left) m.senders.items) m.senders.len (omega (arith, m.senders.ok, c.take_slots.ensures.length, ap length c.deref_mut.ensures.value)) in
    record {
      endpoints = ap (λ (v : FreeSlots). v.endpoints) view_is;
      limits = ap (λ (v : FreeSlots). v.limits) view_is;
      senders = λ endpoint slot.
          ap (λ (words : List ℕ). has_slot (get_or words endpoint 0) slot) all_left
          ∙ c.take_slots.ensures.words endpoint slot
          ∙ ap (λ (words : List ℕ). has_slot (get_or words endpoint 0) slot && not ((endpoint == src) && has_slot taken slot)) c.deref_mut.ensures.value
          ∙ ap (λ (v : FreeSlots). is_free_to_send v endpoint slot && not ((endpoint == src) && has_slot taken slot)) view_is;
      receivers = λ endpoint slot.
          without_taken m.receivers.items dst c.index_mut.result.now taken endpoint slot dst_below receiver_fits taken_fits c.index_mut.ensures.value
          ∙ ap (λ (v : FreeSlots). may_receive v endpoint slot && not ((endpoint == dst) && has_slot taken slot)) view_is;
      leaving = λ rack slot below.
          links_taken c.index-from.result.now (rack_of m.limits.hosts src) slot counted (needs_links seen src dst) (has_slot taken) m.leaving.taken.items
          c.take_links-taken.new.leaving.taken.items below from_is counted_is c.take_links-taken.ensures.leaving rack
          ∙ ap (λ (v : FreeSlots). leaving_in v rack slot + cond ((rack == rack_in v src) && (needs_links v src dst && has_slot taken slot)) 1 0) view_is;
      entering = λ rack slot below.
          links_taken c.index-to.result.now (rack_of m.limits.hosts dst) slot counted (needs_links seen src dst) (has_slot taken) m.entering.taken.items
          c.take_links-taken.new.entering.taken.items below to_is counted_is c.take_links-taken.ensures.entering rack
          ∙ ap (λ (v : FreeSlots). entering_in v rack slot + cond ((rack == rack_in v dst) && (needs_links v src dst && has_slot taken slot)) 1 0) view_is;
    }

pub returns-then-common-eq0-clause-count : goal.returns-then-common-eq0-clause-count
returns-then-common-eq0-clause-count c = λ b none.
    let common = is_common c.args.self.now c.args.src c.args.dst in
    let is_none : (slot : ℕ) → common slot ≡ false = λ slot. sym (c.common-common.ensures slot) ∙ ap (λ (n : ℕ). has_slot n slot) c.if-common-eq0.true ∙ has_slot-none slot in
    count_is 64 0 c.args.need b common (search rules) (λ slot. has_slot-none slot ∙ sym (and_left (common slot) (nat_lt (count_below common slot) c.args.need) (is_none slot))) (λ slot from. is_none slot) none

pub invariant_of-self : goal.invariant_of-self
invariant_of-self c =
    let m = c.self.inside in
    let fit = c.self.invariant.0 in
    let noted = c.self.invariant.4 in
    let left = c.take_slots.new.words in
    let left_count : length left ≡ length m.senders.items = c.take_slots.ensures.length ∙ ap length c.deref_mut.ensures.value in
    let all_left : take m.senders.len (left ++ drop (length left) m.senders.items) ≡ left =
    take_at left (drop (length left) m.senders.items) m.senders.len (omega (arith, m.senders.ok, left_count)) in
    let took = c.take_links-taken.ensures in
    let word : ℕ = bit_and c.index_mut.result.now (2 ^ 64 - 1 - c.take_links-taken.result) in
    let receivers : List ℕ = set m.receivers.items c.args.dst word in
    let below : (endpoint : ℕ) → endpoint < c.args.self.now.endpoints → endpoint < length m.senders.items = λ endpoint within. omega (arith, ap (λ (v : FreeSlots). v.endpoints) c.self.view_is, m.senders.ok, within) in (
      record {
        few = omega (arith, ap length all_left, left_count, fit.few);
        receivers_count = omega (arith, ap length all_left, left_count, length-set m.receivers.items c.args.dst word, fit.receivers_count);
        racks_count = omega (arith, ap length all_left, left_count, fit.racks_count);
        leaving_count = omega (arith, ap length all_left, left_count, took.leaving_racks, m.leaving.left.ok, c.take_links-taken.new.leaving.left.ok, fit.leaving_count);
        entering_count = omega (arith, ap length all_left, left_count, took.entering_racks, m.entering.left.ok, c.take_links-taken.new.entering.left.ok, fit.entering_count);
        hosts = fit.hosts;
        some_core = fit.some_core;
        cores = fit.cores;
        racks_are = fit.racks_are;
        leaving_shown = took.leaving_shown;
        entering_shown = took.entering_shown;
      },
      c.take_slots.ensures.count ∙ ap naming (sym all_left),
      took.leaving_used,
      took.entering_used,
      subst (λ (words : List ℕ). NotesTaken (vec_capacity c.note.new.self.flows) c.note.new.self.free c.note.new.self.flows.items words receivers) (sym all_left)
          (subst (λ (room : ℕ). NotesTaken room c.note.new.self.free c.note.new.self.flows.items left receivers) (sym c.note.ensures.room)
          (subst (λ (free : ℕ). NotesTaken (vec_capacity m.noted.flows) free c.note.new.self.flows.items left receivers) (sym c.note.ensures.free)
          (one_more_noted (vec_capacity m.noted.flows) m.noted.free (record { src = c.args.src; dst = c.args.dst }) m.noted.flows.items c.note.new.self.flows.items
          m.senders.items m.receivers.items left receivers noted c.note.ensures.flows left_count (length-set m.receivers.items c.args.dst word)
          (below c.args.src c.requires.src_in_range) (omega (arith, below c.args.dst c.requires.dst_in_range, fit.receivers_count))
          (λ at other. c.take_slots.ensures.others at other ∙ ap (λ (words : List ℕ). get_or words at 0) c.deref_mut.ensures.value)
          (λ at other. get_or-set_other m.receivers.items c.args.dst at word 0 other)))),
    )
