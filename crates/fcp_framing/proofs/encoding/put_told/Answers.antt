use Rattle.std.proofs.Common.{◌≡◌, ◌+◌, ◌*◌, ◌∷◌, [], get_or, refl, sym, arith}
use Rattle.std.specs.Int.{w16, to_be_bytes}
use Rattle.fcp_framing.specs.declared.packet.Told.{Told}
use Rattle.fcp_framing.specs.Spelling.{told_bytes}
use Rattle.fcp_framing.specs.Fields.{told_in_bytes}
use Rattle.fcp_framing.proofs.Entries.{told_line, FitsTold}
use Rattle.fcp_framing.proofs.Buffers.{wrote_then, wrote_line, with_bytes-none}
use Rattle.fcp_framing.proofs.encoding.put_told.Goals as goal

pub loop-slot-init : goal.loop-slot-init
loop-slot-init c = record { place = omega arith; whole = c.told-buf; list = sym (with_bytes-none c.args.start c.args.buf.now) }

pub loop-slot-preserved : goal.loop-slot-preserved
loop-slot-preserved c =
    let blank : Told = record { offset = 0; core = 0; dst = 0 } in
    let told = get_or c.args.told.now c.loop-slot.slot-index blank in
    let len = c.loop-slot.invariant.whole in
    let place : c.loop-slot.end ≡ c.args.start + c.loop-slot.slot-index * 4 = omega (arith, c.loop-slot.invariant.place) in
    let two = wrote_then c.loop-slot.end (c.loop-slot.end + 1) (told.offset ∷ []) (told.core ∷ []) c.loop-slot.buf c.put_u8.new.buf c.put_u8-in-loop-slot.new.buf c.put_u8.ensures c.put_u8-in-loop-slot.ensures refl (omega (arith, c.requires)) in
    let entry = wrote_then c.loop-slot.end (c.loop-slot.end + 2) (told.offset ∷ told.core ∷ []) (to_be_bytes w16 told.dst) c.loop-slot.buf c.put_u8-in-loop-slot.new.buf c.put_u16.new.buf two c.put_u16.ensures refl (omega (arith, c.requires)) in
    record {
      place = omega (arith, c.loop-slot.invariant.place);
      whole = c.put_u16.array_long;
      list = wrote_line c.args.start 4 c.loop-slot.end told_bytes told_in_bytes FitsTold told_line c.args.told.now c.loop-slot.slot-index blank c.args.buf.now c.loop-slot.buf c.put_u16.new.buf
          c.loop-slot-test.true place (omega (arith, c.told-buf, c.requires)) c.loop-slot.invariant.list entry;
    }
