use Rattle.std.proofs.Common.{◌≡◌, ◌≢◌, ◌<◌, ◌≤◌, ◌+◌, ◌-◌, ◌*◌, ℕ, List, [], Option, None, IfSome, length, set, drop, slice_index_or, sym, ap, ◌∙◌, subst, arith, inl, inr}
use Rattle.std.specs.Option.{unwrap_or}
use Rattle.std.proofs.lemmas.Bool.{cases_eq}
use Rattle.std.proofs.lemmas.Nat.{row_fits}
use Rattle.std.proofs.lemmas.List.{length-take, length-drop}
use borrow.Rule.Slice.PartMut.{put_mid}
use Rattle.fcp_framing.specs.declared.packet.Told.{Told}
use Rattle.greedy_rules.specs.Schedule.{slot_in}
use Rattle.greedy_rules.specs.SlotTable.{flows_from}
use Rattle.path_workers.specs.CoreTable.{core_of}
use Rattle.slot_publisher.specs.Places.{ListTells}
use Rattle.slot_publisher.proofs.BatchLemmas.{place_is, tells_more, tells_still}
use Rattle.slot_publisher.proofs.publisher.put_slot.Goals as goal

pub loop-endpoint-preserved : goal.loop-endpoint-preserved
loop-endpoint-preserved c =
    let slots = c.args.slots.now in
    let cores = c.args.cores.now in
    let from : ℕ = c.args.from in
    let offset : ℕ = c.args.offset in
    let b : ℕ = c.args.b in
    let at : ℕ = c.loop-endpoint.endpoint in
    let slot : ℕ = from + offset in
    let place : ℕ = at * b in
    let k : ℕ = place + b - place in
    let counts : List ℕ = c.loop-endpoint.counts in
    let told : List Told = c.loop-endpoint.told in
    let list : List Told = c.append.new.list in
    let count : ℕ = c.append.result in
    let is : from + c.from.result ≡ slot = omega (arith, c.from.ensures) in
    let inside : slot < length slots.slots = omega (arith, c.requires.held, c.requires.offset) in
    let below : at < slots.endpoints = omega (arith, c.loop-endpoint-test.true, c.row-dst-items.ensures.count) in
    let row : flows_from 0 c.row-dst-items.result.now ≡ slot_in slots.slots slot = c.row-dst-items.ensures.flows ∙ ap (slot_in slots.slots) is in
    let named : c.row-named.result.now ≡ slice_index_or cores.rows slot [] = c.row-named.ensures ∙ ap (λ (s : ℕ). slice_index_or cores.rows s []) is in
    let core : c.core_at.result ≡ core_of cores slot at = c.core_at.ensures ∙ ap (λ (r : List (Option ℕ)). slice_index_or r at None) named in
    let byte = subst (λ (o : Option ℕ). IfSome o (λ core. core < 64) → c.byte_of-core.result ≡ unwrap_or o 255) core c.byte_of-core.ensures in
    let counted : at < length counts = omega (arith, below, c.requires.lists, c.loop-endpoint.auto.counts) in
    let room : place + b ≤ length told = omega (arith, row_fits at b slots.endpoints b below (omega arith), c.requires.places, c.loop-endpoint.auto.told) in
    let size : length list ≡ b = omega (arith, c.append.auto.list, length-take k (drop place told), length-drop place told, room) in
    let more : ListTells slots cores from b (offset + 1) (set counts at count) (put_mid place k told list) at =
    tells_more slots cores from b offset at k count c.byte_of-core.result _ counts told list (omega arith) size c.append.ensures.count c.requires.offset counted (omega (arith, room)) inside
    c.requires.cores (place_is at c.row-dst-items.result.now (slot_in slots.slots slot) row) byte c.append.ensures.told (c.loop-endpoint.invariant.rest at (omega arith) below) in
    let still : (n other : ℕ) → n ≤ b → other ≢ at → ListTells slots cores from b n counts told other → ListTells slots cores from b n (set counts at count) (put_mid place k told list) other =
    λ n other few apart tells. tells_still slots cores from b n at other k count counts told list (omega arith) size (omega (arith, room)) apart few tells in
    record {
      told = λ other up_to. elim (cases_eq other at) [
        | inl here ↦ subst (ListTells slots cores from b (offset + 1) (set counts at count) (put_mid place k told list)) (sym here) more
        | inr apart ↦ still (offset + 1) other (omega (arith, c.requires.offset)) apart (c.loop-endpoint.invariant.told other (omega (arith, up_to, apart)))
      ];
      rest = λ other after up_to. still offset other (omega (arith, c.requires.offset)) (λ e. omega (arith, e, after)) (c.loop-endpoint.invariant.rest other (omega (arith, after)) up_to);
    }
