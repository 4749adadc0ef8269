use Rattle.std.proofs.Common.{◌≡◌, ◌+◌, ◌*◌, get_or, refl, sym, arith}
use Rattle.std.specs.Int.{w16, w32, to_be_bytes}
use Rattle.fcp_framing.specs.declared.packet.Demand.{Demand}
use Rattle.fcp_framing.specs.Spelling.{demand_bytes}
use Rattle.fcp_framing.specs.Fields.{demand_in}
use Rattle.fcp_framing.proofs.Entries.{demand_line, FitsDemand}
use Rattle.fcp_framing.proofs.Buffers.{wrote_then, wrote_line, with_bytes-none}
use Rattle.fcp_framing.proofs.encoding.put_demands.Goals as goal

pub loop-demand-init : goal.loop-demand-init
loop-demand-init c = record { place = omega arith; whole = c.told-buf; list = sym (with_bytes-none c.args.start c.args.buf.now) }

pub loop-demand-preserved : goal.loop-demand-preserved
loop-demand-preserved c =
    let blank : Demand = record { dst = 0; total = 0 } in
    let demand = get_or c.args.demands.now c.loop-demand.demand-index blank in
    let len = c.loop-demand.invariant.whole in
    let place : c.loop-demand.end ≡ c.args.start + c.loop-demand.demand-index * 6 = omega (arith, c.loop-demand.invariant.place) in
    let entry = wrote_then c.loop-demand.end (c.loop-demand.end + 2) (to_be_bytes w16 demand.dst) (to_be_bytes w32 demand.total) c.loop-demand.buf c.put_u16.new.buf c.put_u32.new.buf c.put_u16.ensures c.put_u32.ensures refl (omega (arith, c.requires)) in
    record {
      place = omega (arith, c.loop-demand.invariant.place);
      whole = c.put_u32.array_long;
      list = wrote_line c.args.start 6 c.loop-demand.end demand_bytes demand_in FitsDemand demand_line c.args.demands.now c.loop-demand.demand-index blank c.args.buf.now c.loop-demand.buf c.put_u32.new.buf
          c.loop-demand-test.true place (omega (arith, c.told-buf, c.requires)) c.loop-demand.invariant.list entry;
    }
